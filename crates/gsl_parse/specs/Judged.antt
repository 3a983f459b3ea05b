-- What is answered of all of the tokens.
use Rattle.std.specs.Prelude.{◌≡◌, ⊤, ◌⊎◌, ℕ, List, [], ◌∷◌, ◌++◌, length, Option, Some, None, Result, Ok, Err, nat_eq, if◌then◌else◌}
use Rattle.std.specs.Option.{option_map}
use Rattle.gsl_base.specs.declared.fault.Place.{Place}
use Rattle.gsl_base.specs.declared.fault.Fault.{Fault}
use Rattle.gsl_base.specs.declared.fault.Code.TheVariants as code
use Rattle.gsl_base.specs.declared.fault.Refusal.{Refusal}
use Rattle.gsl_base.specs.declared.fault.Refusal.TheVariants as refusal
use Rattle.gsl_base.specs.declared.token.Token.{Token}
use Rattle.gsl_syntax.specs.declared.statement.Global.{Global}
use Rattle.gsl_syntax.specs.Nesting.{first_deep}
use Rattle.gsl_expr.specs.Reading.{Tokens, Outcome}
use Rattle.gsl_parse.specs.Units.{globals}

-- the place of the token with so many left from it on, or of the last token where there is none
unfoldable pub place_from : Place → Tokens → ℕ → Place
place_from last [] left = last
place_from last (t ∷ ts) left = if nat_eq (length (t ∷ ts)) left then t.place else place_from t.place ts left

abbrev pub first_line : Place
first_line = record { unit = 0; line = 1 }

abbrev pub bad : Tokens → ℕ → Fault
bad ts left = record { place = place_from first_line ts left; code = code.E0301 }

abbrev pub judged : {A : Type 0} → Tokens → Option Place → Outcome A → Result A Fault
judged ts (Some place) outcome = Err (record { place = place; code = code.E0902 })
judged ts None (Ok (tree, [])) = Ok tree
judged ts None (Ok (tree, t ∷ more)) = Err (bad ts (length (t ∷ more)))
judged ts None (Err left) = Err (bad ts (length left))

abbrev pub place_of : Token → Place
place_of t = t.place

-- the unit that the tokens read as, or the first fault
abbrev pub unit_of : Tokens → Result (List Global) Fault
unit_of ts = judged ts (option_map place_of (first_deep ts)) (globals (length ts) ts)

-- Unless memory was wanting, the answer is this.
abbrev pub Judges : {A : Type 0} → Result A Refusal → Result A Fault → Type 0
Judges (Ok tree) answer = answer ≡ Ok tree
Judges (Err (refusal.Source fault)) answer = answer ≡ Err fault
Judges (Err refusal.Memory) answer = ⊤

-- ---- what an answer says of the tokens, by the grammar alone

-- Some phrase begins with these tokens.
abbrev pub Begins : {A : Type 0} → (A → Tokens → Type 0) → Tokens → Type 0
Begins {A = A} Stands xs = (more : Tokens) × (tree : A) × Stands tree (xs ++ more)

-- the place of the last token, or this one where there is none
unfoldable pub last_from : Place → Tokens → Place
last_from p [] = p
last_from p (t ∷ ts) = last_from t.place ts

-- The place of the first token that no phrase has there, behind the tokens before it; where the tokens end too soon, that of the last one, and line 1 where there is none.
pub data FirstBad {A : Type 0} (Stands : A → Tokens → Type 0) (ts : Tokens) : Place → Type 0 where
  bad_token : (before : Tokens) (token : Token) (behind : Tokens) → ts ≡ before ++ token ∷ behind → Begins Stands before → (Begins Stands (before ++ token ∷ []) → ⊥) → FirstBad Stands ts token.place
  too_soon : Begins Stands ts → FirstBad Stands ts (last_from first_line ts)

-- The tokens nest too deeply, and the fault tells where they first do.
pub record TooDeep (ts : Tokens) (fault : Fault) : Type 0 where
  pub token : Token
  pub deep : first_deep ts ≡ Some token
  pub is : fault ≡ record { place = token.place; code = code.E0902 }

-- They do not nest too deeply, and stand for nothing; the fault tells which of them is the first bad one.
pub record NoSentence {A : Type 0} (Stands : A → Tokens → Type 0) (ts : Tokens) (fault : Fault) : Type 0 where
  pub shallow : first_deep ts ≡ None
  pub nothing : (tree : A) → Stands tree ts → ⊥
  pub code_is : fault.code ≡ code.E0301
  pub first : FirstBad Stands ts fault.place

-- A tree is one that the tokens stand for, and a fault is due and stands where it must.
abbrev pub Parsed : {A : Type 0} → (A → Tokens → Type 0) → Tokens → Result A Refusal → Type 0
Parsed Stands ts (Ok tree) = Stands tree ts × (first_deep ts ≡ None)
Parsed Stands ts (Err (refusal.Source fault)) = TooDeep ts fault ⊎ NoSentence Stands ts fault
Parsed Stands ts (Err refusal.Memory) = ⊤

-- This tree is the answer, unless memory was wanting or the tokens nest too deeply.
abbrev pub Only : {A : Type 0} → A → Tokens → Result A Refusal → Type 0
Only tree ts (Ok found) = found ≡ tree
Only tree ts (Err (refusal.Source fault)) = TooDeep ts fault
Only tree ts (Err refusal.Memory) = ⊤
