-- What a part of a shader comes to, on a state and with so many units left. A unit is used by each turn of a loop and by each call of a
-- function of the program.
use Rattle.std.specs.Prelude.{ℕ, zero, suc, nat_lt, if◌then◌else◌, List}
use Rattle.gsl_values.specs.declared.value.Value.{Value}
use Rattle.gsl_meaning.specs.State.{State}
use Rattle.gsl_meaning.specs.Accesses.{Access, parts_at, index_of, stored}

-- It gives something, with the state and the units that are left; or `discard` ended the invocation; or an index was out of bounds; or a
-- unit was wanting.
pub data Ran (A : Type 0) : Type 0 where
  Got : (given : A) (state : State) (units : ℕ) → Ran A
  Ends : (state : State) → Ran A
  Strays : Ran A
  Goes : Ran A

abbrev pub Run : Type 0 → Type 0
Run A = State → ℕ → Ran A

abbrev pub behind : {A B : Type 0} → Ran A → (A → Run B) → Ran B
behind (Got a state units) next = next a state units
behind (Ends state) next = Ends state
behind Strays next = Strays
behind Goes next = Goes

-- goes on with what was given
infixl 10 ◌>>=◌
abbrev pub ◌>>=◌ : {A B : Type 0} → Run A → (A → Run B) → Run B
(first >>= next) state units = behind (first state units) next

abbrev pub given : {A : Type 0} → A → Run A
given a state units = Got a state units

-- what the state tells
abbrev pub told_by : {A : Type 0} → (State → A) → Run A
told_by tell state units = Got (tell state) state units

-- what may draw choices
abbrev pub drawing : {A : Type 0} → (List ℕ → A × List ℕ) → Run A
drawing draw state units = Got (draw state.choices).0 (record state { choices = (draw state.choices).1 }) units

-- a value is stored, and is what is given
abbrev pub storing : Access → Value → Run Value
storing access v state units = Got v (stored access v state) units

-- the part at an index, which strays where it is out of bounds
abbrev pub indexing : Access → ℕ → Run Access
indexing access index state units = if nat_lt index (parts_at access state) then Got (index_of access index) state units else Strays

-- uses a unit
abbrev pub spending : {A : Type 0} → Run A → Run A
spending run state zero = Goes
spending run state (suc units) = run state units

-- `discard`
abbrev pub ending : {A : Type 0} → Run A
ending state units = Ends state

-- a unit is wanting
abbrev pub going : {A : Type 0} → Run A
going state units = Goes
