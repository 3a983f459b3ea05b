use Rattle.gsl_fitting_flow.proofs.Taking.{fetch_takes, hold_takes}
use Rattle.gsl_fitting_flow.proofs.Holding.{fetch_flows, fetch_stays, hold_flows, hold_stays, waits_later}
use Rattle.gsl_fitting_flow.proofs.laws.values_wait.Goals as goal

pub returns-clause-held_stays : goal.returns-clause-held_stays
returns-clause-held_stays c = hold_stays

pub returns-clause-fetched_stays : goal.returns-clause-fetched_stays
returns-clause-fetched_stays c = fetch_stays

pub returns-clause-held : goal.returns-clause-held
returns-clause-held c = hold_flows

pub returns-clause-on : goal.returns-clause-on
returns-clause-on c = waits_later

pub returns-clause-fetched : goal.returns-clause-fetched
returns-clause-fetched c = fetch_flows

pub returns-clause-held_takes : goal.returns-clause-held_takes
returns-clause-held_takes c = hold_takes

pub returns-clause-fetched_takes : goal.returns-clause-fetched_takes
returns-clause-fetched_takes c = fetch_takes
