use Rattle.gsl_spv.proofs.Lasting.{defines_extends, ids_last, interned_known, defines_finish}
use Rattle.gsl_spv.proofs.laws.definitions_last.Goals as goal

pub returns-clause-extends : goal.returns-clause-extends
returns-clause-extends c = defines_extends

pub returns-clause-known : goal.returns-clause-known
returns-clause-known c = ids_last

pub returns-clause-finish : goal.returns-clause-finish
returns-clause-finish c = defines_finish

pub returns-clause-interned : goal.returns-clause-interned
returns-clause-interned c = interned_known
