-- What lowering asks of a function and of the program while it goes over a body, in its order.
use Rattle.std.specs.Prelude.{◌≡◌, List, [], ◌∷◌, ◌++◌, Result, Ok, Err}
use Rattle.gsl_base.specs.declared.memory.Memory.{Memory}
use Rattle.gsl_lower_needs.specs.declared.need.Need.{Need}

-- What comes of a part, with what is asked for so far.
pub data Asked (A : Type 0) : Type 0 where
  Asks : (given : A) (needs : List Need) → Asked A

abbrev pub Ask : Type 0 → Type 0
Ask A = List Need → Asked A

abbrev pub behind : {A B : Type 0} → Asked A → (A → Ask B) → Asked B
behind (Asks a needs) next = next a needs

-- goes on with what came
infixl 10 ◌>>=◌
abbrev pub ◌>>=◌ : {A B : Type 0} → Ask A → (A → Ask B) → Ask B
(first >>= next) needs = behind (first needs) next

abbrev pub given : {A : Type 0} → A → Ask A
given a needs = Asks a needs

abbrev pub need : Need → Ask (Unit {0})
need one needs = Asks tt (needs ++ one ∷ [])

-- Unless a call wanted memory, it came to this.
abbrev pub Does : {A : Type 0} → Result A Memory → List Need → Asked A → Type 0
Does (Ok a) needs asked = asked ≡ Asks a needs
Does (Err refusal) needs asked = Unit {0}
