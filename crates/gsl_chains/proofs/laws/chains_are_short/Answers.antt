use Rattle.std.proofs.Common.{arith}
use Rattle.gsl_sound_code.proofs.Looks.{kept}
use Rattle.gsl_chains.proofs.Nested.{short}
use Rattle.gsl_chains.proofs.laws.chains_are_short.Goals as goal

pub returns : goal.returns
returns c m id bodies valid is are = let few = short m (kept m valid) id bodies is are in omega (arith, few)
