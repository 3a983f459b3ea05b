-- Definitions that may refuse, and calls that answer as such a definition does.
use Rattle.std.specs.Prelude.{◌≡◌, Result, Ok, Err}
use Rattle.gsl_base.specs.declared.fault.Fault.{Fault}
use Rattle.gsl_base.specs.declared.fault.Refusal.{Refusal}
use Rattle.gsl_base.specs.declared.fault.Refusal.TheVariants.{Source, Memory}

-- a value, or the one fault
abbrev pub Checked : Type 0 → Type 0
Checked A = Result A Fault

-- goes on with the value, if there is one
infixl 10 ◌>>=◌
abbrev pub ◌>>=◌ : {A B : Type 0} → Checked A → (A → Checked B) → Checked B
(Ok x) >>= f = f x
(Err fault) >>= f = Err fault

-- the refusal is for want of memory, or the answer is its fault
abbrev pub Refuses : {B : Type 0} → Refusal → Checked B → Type 0
Refuses (Source fault) answer = answer ≡ Err fault
Refuses Memory answer = Unit {0}

-- Unless the call wanted memory, what it gave, as the view shows it, is the answer.
abbrev pub GivesBy : {A B : Type 0} → (A → B) → Result A Refusal → Checked B → Type 0
GivesBy view (Ok x) answer = answer ≡ Ok (view x)
GivesBy view (Err refusal) answer = Refuses refusal answer

-- Unless the call wanted memory, what it gave is the answer.
abbrev pub Gives : {A : Type 0} → Result A Refusal → Checked A → Type 0
Gives {A} given answer = GivesBy (λ (x : A). x) given answer
