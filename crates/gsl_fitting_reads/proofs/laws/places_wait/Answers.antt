use Rattle.gsl_fitting_reads.proofs.Fetching.{fetch_reached_flows}
use Rattle.gsl_fitting_reads.proofs.Holding.{hold_reached_flows}
use Rattle.gsl_fitting_reads.proofs.laws.places_wait.Goals as goal

pub returns-clause-held : goal.returns-clause-held
returns-clause-held c = hold_reached_flows

pub returns-clause-fetched : goal.returns-clause-fetched
returns-clause-fetched c = fetch_reached_flows
