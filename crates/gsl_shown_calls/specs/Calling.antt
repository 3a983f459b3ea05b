-- What calls give to functions, and where functions stand as they begin.
use Rattle.std.specs.Prelude.{◌≡◌, ℕ, ◌+◌, List, [], ◌∷◌, Some}
use Rattle.std.specs.List.{sum_by}
use Rattle.gsl_words.specs.declared.module.Module.{Module}
use Rattle.gsl_valid.specs.Placed.{Placed}
use Rattle.gsl_machine.specs.Interfaces.{value_variables}
use Rattle.gsl_machine.specs.State.{Held, Ids}
use Rattle.gsl_leaves.specs.Leaves.{leaves}
use Rattle.gsl_sound_types.specs.Typed.{types_of}
use Rattle.gsl_frames.specs.Frames.{frame}
use Rattle.gsl_shown.specs.Shown.{Standing}

-- Each of the ids stands for what is held, one by one.
abbrev pub StandFor : Ids → List ℕ → List Held → Type 0
StandFor ids [] [] = Unit {0}
StandFor ids [] (h ∷ held) = ⊥
StandFor ids (id ∷ more) [] = ⊥
StandFor ids (id ∷ more) (h ∷ held) = (ids id ≡ Some h) × StandFor ids more held

-- where a function stands at its first label, by the numbers of the first of its body and of that label, that another calls: its slots and its variables
-- are behind all that the caller takes
abbrev pub called_at : Module → Standing → List Placed → ℕ → ℕ → Standing
called_at m f caller body first = record { at = first; body = body; slots = f.slots + (frame m caller).most; variables = f.variables + (frame m caller).variables }

-- where the first function of a run stands: its slots are the first, and its variables are behind those of the module
abbrev pub first_at : Module → ℕ → ℕ → Standing
first_at m body first = record { at = first; body = body; slots = 0; variables = sum_by (leaves m) (types_of m (value_variables m)) }
