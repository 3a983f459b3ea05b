-- Indexes that are computed (GLSL 4.50, 5.5 and 5.7).
use Rattle.std.specs.Prelude.{◌≡◌, ◌≢◌, ℕ, ◌⊎◌, Bool, true, false, None}
use Rattle.gsl_types.specs.declared.ty.Ty.{Ty}
use Rattle.gsl_values.specs.declared.value.Value.{Value}
use Rattle.gsl_tree.specs.Expressions.{IsIndex}
use Rattle.gsl_tree.specs.Values.{is_value_of}
use Rattle.gsl_tree.specs.declared.program.Program.{Program}
use Rattle.gsl_meaning.specs.Accesses.{Access}
use Rattle.gsl_meaning.specs.Running.{Ends, Goes, Got, Ran, Run, Strays}
use Rattle.gsl_meaning.specs.State.{State}
use Rattle.gsl_lower_expr.specs.Parts.{Lower}
use Rattle.gsl_lower_reads.specs.OfReaching.{Start}
use Rattle.gsl_lower_reads.specs.OfReaching.{OfVariable}

-- A part of a shader came to something, or an index in it was out of bounds; the invocation has not ended, and no unit was wanting.
abbrev pub Comes : Ran Value → Type 0
Comes (Got v s units) = Unit {0}
Comes (Ends s) = ⊥
Comes Strays = Unit {0}
Comes Goes = ⊥

-- An index is computed, and calls no function of the program, so that it always comes to something or strays.
pub record IsComputed (i : Lower) (run : Run Value) : Type 0 where
  pub computed : i.traits.literal ≡ None
  pub calls_none : i.traits.calls ≡ false
  pub integer : IsIndex i.ty
  pub comes : (s : State) (units : ℕ) → Comes (run s units)

-- An index is computed; where it calls no function of the program, it always comes to something or strays.
pub record MayCall (i : Lower) (run : Run Value) : Type 0 where
  pub computed : i.traits.literal ≡ None
  pub number : IsIndex i.ty
  pub comes : i.traits.calls ≡ false → (s : State) (units : ℕ) → Comes (run s units)

-- What is indexed can be tested before an index that calls: what is of its type has a first scalar or vector; or it never leads out of bounds, as a runtime array, of which the type tells none.
abbrev pub CanTest : Program → Ty → Run Access → Type 0
CanTest p t run = ((v : Value) × (is_value_of p.structs t v ≡ true)) ⊎ ((s : State) (units : ℕ) → run s units ≢ Strays)

-- What is indexed is in a variable, a holder, where it was put into one, and else where it was.
abbrev pub spilled_to : Bool → Start → Start
spilled_to true start = OfVariable
spilled_to false start = start
