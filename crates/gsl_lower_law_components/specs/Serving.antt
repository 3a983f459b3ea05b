-- One pointer into a block that serves what is stored there (SPIR-V 1.0, 3.32.8).
use Rattle.std.specs.Prelude.{◌≡◌, ℕ, List, length, Option, Some}
use Rattle.gsl_base.specs.declared.input.Input.{Input}
use Rattle.gsl_words.specs.declared.module.Module.{Module}
use Rattle.gsl_values.specs.declared.value.Value.{Value}
use Rattle.gsl_tree.specs.Values.{components_in}
use Rattle.gsl_machine.specs.Memory.{bytes_of}
use Rattle.gsl_machine.specs.State.{Ids, State}
use Rattle.gsl_spv.specs.Sections.{Sections}
use Rattle.gsl_lower_places.specs.Reached.{stored_shape}
use Rattle.gsl_lower_places.specs.Writing.{stored}
use Rattle.gsl_lower_places.specs.declared.reached.Picked.{Picked}
use Rattle.gsl_lower_places.specs.declared.reached.Reached.{Reached}
use Rattle.gsl_lower_law.specs.Computing.{Acts}
use Rattle.gsl_lower_law.specs.Operands.{converted_value}
use Rattle.gsl_lower_law.specs.Values.{IsOf, Keeps, Stands}
use Rattle.gsl_lower_law_picks.specs.OfLawPlaces.{buffers_with, goes_to}
use Rattle.gsl_lower_law_components.specs.Putting.{put_components}

-- Whenever ids still stand for the same, what is stored in what was given leaves the words of the components that are picked at an offset of a
-- block, and all its other bytes as they are then.
pub record Puts (m : Module) (input : Input) (whole : Sections) (class : ℕ) (p : Picked) (by : Option ℕ) (variable offset : ℕ) (r : Reached) (ids : Ids) : Type 0 where
  pub puts : (later : State) (before : Sections) (bytes : List ℕ) (w : Value) (value : ℕ) → Keeps ids later.ids → bytes_of m input later variable ≡ Some bytes
      → IsOf (p.shape.0, length p.positions) w → Stands later.ids value w
      → Acts m input whole (λ given now. Unit {0})
      (record { choices = later.choices; variables = later.variables; buffers = buffers_with m later variable (put_components offset (goes_to by p.positions) (components_in (converted_value (stored_shape class (p.shape.0, length p.positions)).0 w)) bytes) }) later before
      (stored (p.shape.0, length p.positions) r value)
