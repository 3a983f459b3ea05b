-- Operands in a row.
use Rattle.std.specs.Prelude.{ℕ, List}
use Rattle.gsl_base.specs.declared.input.Input.{Input}
use Rattle.gsl_words.specs.declared.module.Module.{Module}
use Rattle.gsl_values.specs.declared.value.Value.{Value}
use Rattle.gsl_tree.specs.Around.{Around}
use Rattle.gsl_tree.specs.declared.program.Program.{Program}
use Rattle.gsl_meaning.specs.State as shader
use Rattle.gsl_machine.specs.State.{State}
use Rattle.gsl_spv.specs.Sections.{Sections}
use Rattle.gsl_lower_law.specs.Values.{StandEach}
use Rattle.gsl_lower_holders.specs.Flow.{Flow}
use Rattle.gsl_lower_expr.specs.Parts.{Lower, any_splits}
use Rattle.gsl_lower_follows.specs.Frames.{Frame}
use Rattle.gsl_lower_follows.specs.Giving.{After}
use Rattle.gsl_lower_law_expr.specs.Known.{AllTyped}

-- All operands stand for their values, in their order.
pub record HasAll (m : Module) (input : Input) (whole : Sections) (f : Frame m input whole) (p : Program) (around : Around) (es : List Lower) (b : Flow) (state : State) (ids : List ℕ) (later : Flow) (vs : List Value) (s : shader.State) (last : State) : Type 0 where
  pub after : After m input whole f p around (any_splits es) b state later s last
  pub stand : StandEach last.ids ids vs
  pub typed : AllTyped p es vs
