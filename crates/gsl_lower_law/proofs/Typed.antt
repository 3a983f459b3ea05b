-- One instruction that gives a value of the type of a shape.
use Rattle.std.proofs.Common.{ℕ, List}
use Rattle.gsl_base.specs.declared.input.Input.{Input}
use Rattle.gsl_words.specs.declared.module.Module.{Module}
use Rattle.gsl_values.specs.declared.value.Value.{Value}
use Rattle.gsl_tree.specs.Shapes.{Shape}
use Rattle.gsl_machine.specs.State.{Ids, State}
use Rattle.gsl_spv.specs.Sections.{Sections}
use Rattle.gsl_lower_values.specs.Building.{giving, ◌>>=◌}
use Rattle.gsl_lower_values.specs.Types.{type_of}
use Rattle.gsl_lower_law.specs.Values.{Keeps, Stands, Text}
use Rattle.gsl_lower_law.specs.Computing.{Does, Grows}
use Rattle.gsl_lower_law.proofs.Giving.{Performs, giving_does, giving_grows}
use Rattle.gsl_lower_law.proofs.Joining.{does_then, grows_then}
use Rattle.gsl_lower_law.proofs.Plain.{IsType, type_does}

module _ (m : Module) (input : Input) (whole : Sections) where
  pub typed_does : (shape : Shape) (code : ℕ) (operands : List ℕ) (v : Value) (choices : List ℕ) (state : State) (before : Sections)
      → ((type : ℕ) (ids : Ids) → Keeps state.ids ids → IsType m input whole shape type ids → Text m whole state.own → Performs m input code operands type (record state { ids = ids }) v choices)
      → Does m input whole (λ id ids. Stands ids id v) choices state before (type_of shape >>= giving code operands)
  typed_does shape code operands v choices state before performs =
      does_then m input whole (IsType m input whole shape) (λ id ids. Stands ids id v) state.choices choices state before (type_of shape) (giving code operands) (type_does m input whole shape state before)
      (λ type between. giving_grows m input whole code operands type between)
      (λ type between ids is keeps. giving_does m input whole code operands type (record state { ids = ids }) v choices between (performs type ids keeps is))

  pub typed_grows : (shape : Shape) (code : ℕ) (operands : List ℕ) (state : State) (before : Sections) → Grows before ((type_of shape >>= giving code operands) before)
  typed_grows shape code operands state before =
      grows_then m input whole before (type_of shape before) (giving code operands) (type_does m input whole shape state before).grows (λ type between. giving_grows m input whole code operands type between)
