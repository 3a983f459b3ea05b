-- One pointer that serves what is read and what is then stored (SPIR-V 1.0, 3.32.8).
use Rattle.std.specs.Prelude.{◌≡◌, ℕ, false, List, [], length, set, slice_get, Option, Some}
use Rattle.gsl_base.specs.declared.input.Input.{Input}
use Rattle.gsl_words.specs.declared.module.Module.{Module}
use Rattle.gsl_values.specs.declared.value.Value.{Value}
use Rattle.gsl_tree.specs.Operations.{value_at, with_value_at}
use Rattle.gsl_machine.specs.State.{Ids, InVariable, Pointer, Points, State}
use Rattle.gsl_spv.specs.Sections.{Sections}
use Rattle.gsl_lower_places.specs.Reached.{is_block_class, stored_shape}
use Rattle.gsl_lower_places.specs.Reading.{read}
use Rattle.gsl_lower_places.specs.Writing.{stored}
use Rattle.gsl_lower_places.specs.declared.reached.Base.TheVariants as base
use Rattle.gsl_lower_places.specs.declared.reached.Picked.{Picked}
use Rattle.gsl_lower_places.specs.declared.reached.Reached.{Reached}
use Rattle.gsl_lower_law.specs.Computing.{Acts, Computes}
use Rattle.gsl_lower_law.specs.Operands.{converted_value}
use Rattle.gsl_lower_law.specs.Values.{IsOf, Keeps, Stands}
use Rattle.gsl_lower_law_places.specs.Components.{HoldsComponents, picks_of}
use Rattle.gsl_lower_law_places.specs.Storing.{goes_to, with_components}

-- What was given is that to which the pointer leads for which an id stands, or these components of it.
pub record IsAt (class : ℕ) (to : Pointer) (picked : Option Picked) (r : Reached) (ids : Ids) : Type 0 where
  pub id : ℕ
  pub is : r ≡ record { base = base.Variable id class; path = []; picked = picked }
  pub points : ids id ≡ Some (Points to)

-- Whenever ids still stand for the same, what was given reads what is picked of the scalar or vector to which a pointer leads then, and what is
-- stored in it stands there in a variable, where the other components stay.
pub record Serves (m : Module) (input : Input) (whole : Sections) (class : ℕ) (p : Picked) (by : Option ℕ) (to : Pointer) (r : Reached) (ids : Ids) : Type 0 where
  pub reads : (later : State) (before : Sections) (v : Value) → Keeps ids later.ids → HoldsComponents m input later to v → IsOf (stored_shape class p.shape) v
      → Computes m input whole (picks_of (converted_value p.shape.0 v) by p.positions, later.choices) later before (read (p.shape.0, length p.positions) r)
  pub stores : (later : State) (before : Sections) (number : ℕ) (path : List ℕ) (old v w : Value) (value : ℕ) → Keeps ids later.ids → is_block_class class ≡ false → to ≡ InVariable number path → slice_get later.variables number ≡ Some old → value_at old path ≡ v
      → IsOf p.shape v → IsOf (p.shape.0, length p.positions) w → Stands later.ids value w
      → Acts m input whole (λ given now. Unit {0}) (record { choices = later.choices; variables = set later.variables number (with_value_at old path (with_components v (goes_to by p.positions) w)); buffers = later.buffers }) later before
      (stored (p.shape.0, length p.positions) r value)
