use Rattle.gsl_manifest.proofs.Prefixes.{either_one, one_manifest, one_break, never_both}
use Rattle.gsl_manifest.proofs.laws.one_reading.Goals as goal

pub returns-clause-some : goal.returns-clause-some
returns-clause-some c = either_one

pub returns-clause-one : goal.returns-clause-one
returns-clause-one c = one_manifest

pub returns-clause-one_break : goal.returns-clause-one_break
returns-clause-one_break c = one_break

pub returns-clause-never_both : goal.returns-clause-never_both
returns-clause-never_both c = never_both
