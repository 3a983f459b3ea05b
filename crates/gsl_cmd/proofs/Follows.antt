-- What it is for a stretch of code to do what a part of the shader does.
use Rattle.std.proofs.Common.{ℕ, ◌≤◌, List, [], true, arith}
use Rattle.gsl_base.specs.declared.input.Input.{Input}
use Rattle.gsl_words.specs.declared.module.Module.{Module}
use Rattle.gsl_cmd.specs.Lowering.{Code}
use Rattle.gsl_cmd.specs.Buffers.{with_bytes}
use Rattle.gsl_cmd.specs.Shader.{Store, Ran, Got, Ends, Strays, Goes, SET, BINDING, output_of}
use Rattle.gsl_cmd.specs.Shader as shader
use Rattle.gsl_cmd.specs.Machine.{Ids, State, Going, Ended, Strayed}
use Rattle.gsl_cmd.proofs.Blocks.{Holds}
use Rattle.gsl_cmd.proofs.Stretches.{Stretch, Lasts, stretch_on, lasts_on}

-- the input, how many members the block has, and the bytes with which its buffer began
module _ (m : Module) (input : Input) (members : ℕ) (began : List ℕ) where
  -- a state in `main`
  abbrev pub state : Code → Ids → List ℕ → List ℕ → State
  state rest ids bytes choices =
      record { rest = rest; ids = ids; buffers = with_bytes input.buffers SET BINDING bytes; choices = choices; waiting = [] }

  -- The code that follows is reached, where the block and the choices are the shader's and the ids are as is said.
  pub record Reaches (u : ℕ) (s : State) (rest : Code) (Q : Ids → Type 0) (store : Store) (u' : ℕ) : Type 0 where
    pub ids : Ids
    pub bytes : List ℕ
    pub holds : Holds members began store.words bytes
    pub given : Q ids
    pub fewer : u' ≤ u
    pub stretch : Stretch m u s u' (Going (state rest ids bytes store.choices))

  -- The run ends as by `discard`.
  pub record EndsWith (u : ℕ) (s : State) (store : Store) : Type 0 where
    pub left : ℕ
    pub stretch : Stretch m u s left (Ended (output_of input true store))

  pub record StraysFrom (u : ℕ) (s : State) : Type 0 where
    pub left : ℕ
    pub place : ℕ
    pub stretch : Stretch m u s left (Strayed place)

  -- The run from a state with so many units does what a part of the shader comes to, and the code `rest` follows.
  abbrev pub Follows : {A : Type 0} → ℕ → State → Code → (A → Ids → Type 0) → Ran A → Type 0
  Follows u s rest Q (Got value store u') = Reaches u s rest (Q value) store u'
  Follows u s rest Q (Ends store) = EndsWith u s store
  Follows u s rest Q Strays = StraysFrom u s
  Follows u s rest Q Goes = Lasts m u s

  -- behind a stretch
  pub follows_on : {A : Type 0} {u u1 : ℕ} {s t : State} (rest : Code) (Q : A → Ids → Type 0) (r : Ran A) →
      Stretch m u s u1 (Going t) → u1 ≤ u → Follows u1 t rest Q r → Follows u s rest Q r
  follows_on rest Q (Got value store u') p le f =
      record { ids = f.ids; bytes = f.bytes; holds = f.holds; given = f.given; fewer = omega (arith, f.fewer); stretch = stretch_on m p f.stretch }
  follows_on rest Q (Ends store) p le f = record { left = f.left; stretch = stretch_on m p f.stretch }
  follows_on rest Q Strays p le f = record { left = f.left; place = f.place; stretch = stretch_on m p f.stretch }
  follows_on rest Q Goes p le f = lasts_on m p f

  -- a part, and then what is done with its value
  pub follows_bind : {A B : Type 0} (u : ℕ) (s : State) (middle rest : Code) (Q : A → Ids → Type 0) (R : B → Ids → Type 0) (r : Ran A) (go : A → Store → ℕ → Ran B) →
      Follows u s middle Q r →
      ((value : A) (store : Store) (u1 : ℕ) (ids : Ids) (bytes : List ℕ) → Q value ids → Holds members began store.words bytes → u1 ≤ u → Follows u1 (state middle ids bytes store.choices) rest R (go value store u1)) →
      Follows u s rest R (shader.bind r go)
  follows_bind u s middle rest Q R (Got value store u1) go f g =
      follows_on rest R (go value store u1) f.stretch f.fewer (g value store u1 f.ids f.bytes f.given f.holds f.fewer)
  follows_bind u s middle rest Q R (Ends store) go f g = f
  follows_bind u s middle rest Q R Strays go f g = f
  follows_bind u s middle rest Q R Goes go f g = f

  -- a weaker word on the ids
  pub follows_less : {A : Type 0} (u : ℕ) (s : State) (rest : Code) (Q R : A → Ids → Type 0) (r : Ran A) →
      ((value : A) (ids : Ids) → Q value ids → R value ids) → Follows u s rest Q r → Follows u s rest R r
  follows_less u s rest Q R (Got value store u') weaker f =
      record { ids = f.ids; bytes = f.bytes; holds = f.holds; given = weaker value f.ids f.given; fewer = f.fewer; stretch = f.stretch }
  follows_less u s rest Q R (Ends store) weaker f = f
  follows_less u s rest Q R Strays weaker f = f
  follows_less u s rest Q R Goes weaker f = f
