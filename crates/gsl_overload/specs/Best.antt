-- Which overload a call chooses (GLSL 4.50, 6.1).
use Rattle.std.specs.Prelude.{◌≢◌, ℕ, ◌+◌, ◌<◌, Bool, true, false, not, ◌&&◌, ◌||◌, IsTrue, nat_eq, List, [], ◌∷◌, length, slice_index_or, Option, Some, None, Result, Ok, Err, if◌then◌else◌}
use Rattle.gsl_types.specs.Conversions.{converts}
use Rattle.gsl_types.specs.declared.ty.Direction.{Direction}
use Rattle.gsl_types.specs.declared.ty.Direction.TheVariants.{In, Out, InOut}
use Rattle.gsl_types.specs.declared.ty.Ty.{Ty}
use Rattle.gsl_overload.specs.declared.choice.Choice.{Choice}
use Rattle.gsl_overload.specs.declared.choice.Choice.TheVariants.{NoMatch, Ambiguous}
use Rattle.gsl_overload.specs.Identity.{identical}

-- a parameter: which way its argument goes, and its type
abbrev pub Param : Type 0
Param = Direction × Ty

-- the parameters of a candidate in their order
abbrev pub Signature : Type 0
Signature = List Param

-- ---- which candidates fit

-- an argument of this type fits exactly
abbrev pub is_exact : Param → Ty → Bool
is_exact param arg = identical param.1 arg

-- What goes in is converted to the parameter's type, what comes out to the argument's. Nothing that goes both ways is.
abbrev pub is_converted : Direction → Ty → Ty → Bool
is_converted In param arg = converts arg param
is_converted Out param arg = converts param arg
is_converted InOut param arg = false

-- an argument fits a parameter exactly or by conversion
abbrev pub fits_param : Param → Ty → Bool
fits_param param arg = is_exact param arg || is_converted param.0 param.1 arg

-- A candidate fits where it has a parameter for each argument, and each argument fits its parameter.
abbrev pub fits : List Ty → Signature → Bool
fits [] [] = true
fits [] (param ∷ params) = false
fits (arg ∷ args) [] = false
fits (arg ∷ args) (param ∷ params) = fits_param param arg && fits args params

-- ---- which of two candidates is better

-- an argument is better at the first parameter: it fits exactly there, and not at the second
abbrev pub is_better : Ty → Param → Param → Bool
is_better arg first second = is_exact first arg && not (is_exact second arg)

-- no argument is better at the second candidate
abbrev pub never_worse : List Ty → Signature → Signature → Bool
never_worse (arg ∷ args) (p ∷ ps) (q ∷ qs) = not (is_better arg q p) && never_worse args ps qs
never_worse _ _ _ = true

-- an argument is better at the first candidate
abbrev pub once_better : List Ty → Signature → Signature → Bool
once_better (arg ∷ args) (p ∷ ps) (q ∷ qs) = is_better arg p q || once_better args ps qs
once_better _ _ _ = false

-- A candidate beats another where no argument is worse at it and one is better.
abbrev pub beats : List Ty → Signature → Signature → Bool
beats args first second = never_worse args first second && once_better args first second

-- ---- the one that is chosen

-- the candidate at a place
abbrev pub at_place : List Signature → ℕ → Signature
at_place candidates place = slice_index_or candidates place []

-- A candidate stands at this place, and fits.
pub record FitsAt (candidates : List Signature) (args : List Ty) (place : ℕ) : Type 0 where
  pub there : place < length candidates
  pub fits : IsTrue (fits args (at_place candidates place))

-- The candidate at this place fits, and beats every other candidate that fits.
pub record IsBest (candidates : List Signature) (args : List Ty) (place : ℕ) : Type 0 where
  pub fits : FitsAt candidates args place
  pub beats : (other : ℕ) → FitsAt candidates args other → other ≢ place → IsTrue (beats args (at_place candidates place) (at_place candidates other))

-- whether a candidate at a place beats all those from another place on that fit and stand elsewhere
unfoldable pub beats_all : List Ty → Signature → ℕ → ℕ → List Signature → Bool
beats_all args signature place from [] = true
beats_all args signature place from (rival ∷ rivals) =
    (nat_eq from place || not (fits args rival) || beats args signature rival) && beats_all args signature place (from + 1) rivals

-- the first place from one on whose candidate fits and beats all others that fit
unfoldable pub best_from : List Signature → List Ty → ℕ → List Signature → Option ℕ
best_from candidates args place [] = None
best_from candidates args place (signature ∷ signatures) =
    if fits args signature && beats_all args signature place 0 candidates then Some place else best_from candidates args (place + 1) signatures

abbrev pub any_fits : List Ty → List Signature → Bool
any_fits args [] = false
any_fits args (signature ∷ signatures) = fits args signature || any_fits args signatures

abbrev pub or_refused : Bool → Option ℕ → Result ℕ Choice
or_refused any (Some place) = Ok place
or_refused true None = Err Ambiguous
or_refused false None = Err NoMatch

-- The place of the candidate that is chosen; where none fits there is no match, and where some fit and none is the best
-- the call is ambiguous.
unfoldable pub chosen : List Signature → List Ty → Result ℕ Choice
chosen candidates args = or_refused (any_fits args candidates) (best_from candidates args 0 candidates)
