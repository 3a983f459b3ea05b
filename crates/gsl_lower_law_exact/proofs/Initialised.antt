-- The initialisers of a program have values of their types.
use Rattle.std.proofs.Common.{[], length}
use Rattle.gsl_types.specs.Known.{IsSound}
use Rattle.gsl_tree.specs.Trees.{Throughout, type_of}
use Rattle.gsl_tree.specs.WellTyped.{IsProgram, around_init, program_lists}
use Rattle.gsl_tree.specs.declared.expr.Expr.{Expr}
use Rattle.gsl_tree.specs.declared.program.Program.{Program}
use Rattle.gsl_typed_constants.specs.Known.{AreSound}
use Rattle.gsl_typed_constants.proofs.Initialised.{initialised}
use Rattle.gsl_lower_law_buffers.specs.OfLawInputs.{AreInitialised}
use Rattle.gsl_lower_law_program.proofs.Sounds.{IsKnown, known_in}

known_at_top : (p : Program) (e : Expr) → Throughout (IsKnown p) e → IsSound (length p.structs) (type_of e)
known_at_top p _ (Throughout.whole e known parts) = known.sound

sounds : (p : Program) → IsProgram p → AreSound (around_init (program_lists p))
sounds p program e typed = known_at_top p e (known_in p program [] [] tt tt e typed)

pub all_initialised : (p : Program) → IsProgram p → AreInitialised p
all_initialised p program = initialised (program_lists p) program.typed (sounds p program)
