-- What is put into a builder of modules step by step, and what comes of it.
use Rattle.std.specs.Prelude.{◌≡◌, ℕ, nat_le, if◌then◌else◌, List, [], ◌∷◌, ◌++◌, Result, Ok, Err}
use Rattle.gsl_spv.specs.Calls as call
use Rattle.gsl_spv.specs.Calls.{Out}
use Rattle.gsl_spv.specs.Sections.{Sections}
use Rattle.gsl_spv.specs.declared.refusal.BuildRefusal.{BuildRefusal}
use Rattle.gsl_spv.specs.declared.refusal.BuildRefusal.TheVariants.{TooManyIds, Memory}
use Rattle.gsl_spv.specs.declared.refusal.TheConstants.{MOST_IDS}

-- What a step gives, with what the builder holds then; or an id would be too great.
pub data Built (A : Type 0) : Type 0 where
  Made : (given : A) (after : Sections) → Built A
  Full : Built A

abbrev pub Step : Type 0 → Type 0
Step A = Sections → Built A

abbrev pub behind : {A B : Type 0} → Built A → (A → Step B) → Built B
behind (Made a sections) next = next a sections
behind Full next = Full

-- goes on with what was given
infixl 10 ◌>>=◌
abbrev pub ◌>>=◌ : {A B : Type 0} → Step A → (A → Step B) → Step B
(first >>= next) sections = behind (first sections) next

abbrev pub given : {A : Type 0} → A → Step A
given a sections = Made a sections

-- ---- calls of the builder

-- an id, unless it would be too great
abbrev pub within : Out → Built ℕ
within o = if nat_le o.sections.last MOST_IDS then Made o.id o.sections else Full

abbrev pub id_by : (Sections → Out) → Step ℕ
id_by ask sections = within (ask sections)

-- an instruction that gives nothing
abbrev pub putting : ℕ → List ℕ → Step (Unit {0})
putting op operands sections = Made tt (call.put op operands sections)

abbrev pub put_giving : ℕ → ℕ → List ℕ → ℕ → Step ℕ
put_giving op type operands id sections = Made id (call.put op (type ∷ id ∷ operands) sections)

-- an instruction that gives a value of a type, under a new id
unfoldable pub giving : ℕ → List ℕ → ℕ → Step ℕ
giving op operands type = id_by call.take >>= put_giving op type operands

-- ---- one step for each of some items

-- what steps give, in their order
unfoldable pub in_order : {A : Type 0} → (A → Step ℕ) → List A → Step (List ℕ)
in_order step [] = given []
in_order step (a ∷ items) = step a >>= (λ id. in_order step items >>= (λ ids. given (id ∷ ids)))

-- what is given behind items that were given before
abbrev pub with_front : List ℕ → Built (List ℕ) → Built (List ℕ)
with_front front (Made ids sections) = Made (front ++ ids) sections
with_front front Full = Full

-- ---- how a call of the code answers

-- A call that gives nothing would have had to give too great an id, or it wanted memory.
abbrev pub Refuses : {A : Type 0} → BuildRefusal → Built A → Type 0
Refuses TooManyIds built = built ≡ Full
Refuses Memory built = Unit {0}

-- Unless it wanted memory, it came to this, and left the builder so.
abbrev pub Does : {A : Type 0} → Result A BuildRefusal → Sections → Built A → Type 0
Does (Ok a) sections built = built ≡ Made a sections
Does (Err refusal) sections built = Refuses refusal built
