use Rattle.std.proofs.Common.{refl, []}
use Rattle.gsl_sound_code.proofs.Entries.{enter_from}
use Rattle.gsl_sound_code.proofs.Looks.{kept}
use Rattle.gsl_sound_code.proofs.laws.modules_enter_a_function.Goals as goal

pub returns : goal.returns
returns c m valid = let k = kept m valid in let e = enter_from m k [] m.instrs k.all refl in (e.function, e.is, e.main)
