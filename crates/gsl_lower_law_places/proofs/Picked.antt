-- Components that are picked of what was read.
use Rattle.std.proofs.Common.{◌≡◌, refl, ap, ℕ, zero, suc, ◌<◌, ◌≤◌, List, [], ◌∷◌, length, map, arith}
use Rattle.std.specs.Prelude.{slice_index}
use Rattle.gsl_base.specs.declared.input.Input.{Input}
use Rattle.gsl_types.specs.declared.ty.Scalar.{Scalar}
use Rattle.gsl_words.specs.declared.module.Module.{Module}
use Rattle.gsl_values.specs.declared.value.Value.{Value}
use Rattle.gsl_tree.specs.Operations.{converted as converted_word}
use Rattle.gsl_tree.specs.Shapes.{Shape}
use Rattle.gsl_tree.specs.Values.{components_in}
use Rattle.gsl_lower_law_constructors.specs.OfMachine.{State}
use Rattle.gsl_spv.specs.Sections.{Sections}
use Rattle.gsl_lower_values.specs.Building.{Step, ◌>>=◌}
use Rattle.gsl_lower_values.specs.Constructors.{operand, picked}
use Rattle.gsl_lower_values.specs.declared.operand.Operand.{Operand}
use Rattle.gsl_lower_law_constructors.specs.OfLaw.{Computes, Grows}
use Rattle.gsl_lower_law_constructors.specs.OfLaw.{converted_value, picked_value}
use Rattle.gsl_lower_law_constructors.specs.OfLaw.{IsOf, Stands}
use Rattle.gsl_lower_law_constructors.proofs.OfLaw.{components_of}
use Rattle.gsl_lower_law_constructors.proofs.OfLaw.{does_then}
use Rattle.gsl_lower_law_constructors.proofs.OfLaw.{AreBelow, picked_computes}
use Rattle.gsl_lower_law_constructors.proofs.Shares.{where_all_stand, zeros_are, zeros_of}

-- the words of a converted value
pub converted_words : (s : Scalar) (v : Value) → components_in (converted_value s v) ≡ map (converted_word s) (components_in v)
converted_words s v = components_of (map (converted_word s) (components_in v))

-- a component that is picked several times
pub one_picked : (w : ℕ) (positions : List ℕ) → AreBelow 1 positions → map (slice_index (w ∷ [])) positions ≡ map (λ position. w) positions
one_picked w [] below = refl
one_picked w (zero ∷ positions) below = ap (λ l. w ∷ l) (one_picked w positions below.1)
one_picked w (suc p ∷ positions) below = absurd (let less : suc p < 1 = below.0 in omega (arith, less))

module _ (m : Module) (input : Input) (whole : Sections) where
  pub picked_grows : (a : Operand) (positions : List ℕ) (state : State) (before : Sections) → 1 ≤ length positions → AreBelow a.shape.1 positions → Grows before (picked a positions before)
  picked_grows a positions state before some below = (picked_computes m input whole a (zeros_of a.shape) (zeros_are a.shape) (where_all_stand state (zeros_of a.shape)) before refl positions some below).grows

  -- what was computed of a shape, and then picked
  pub picked_behind : (shape : Shape) (v : Value) (positions : List ℕ) (state : State) (before : Sections) (step : Step ℕ) → 1 ≤ length positions → AreBelow shape.1 positions → IsOf shape v → Computes m input whole (v, state.choices) state before step
      → Computes m input whole (picked_value v positions, state.choices) state before (step >>= (λ id. picked (operand shape id) positions))
  picked_behind shape v positions state before step some below is computes =
      does_then m input whole (λ id ids. Stands ids id v) (λ id ids. Stands ids id (picked_value v positions)) state.choices state.choices state before step (λ id. picked (operand shape id) positions) computes
      (λ id between. picked_grows (operand shape id) positions state between some below)
      (λ id between ids stands keeps. picked_computes m input whole (operand shape id) v is (record state { ids = ids }) between stands positions some below)
