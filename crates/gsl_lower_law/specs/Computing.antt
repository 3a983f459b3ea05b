-- What the instructions compute that a step puts.
use Rattle.std.specs.Prelude.{◌≡◌, ℕ, List, ◌++◌}
use Rattle.gsl_base.specs.declared.input.Buffer.{Buffer}
use Rattle.gsl_base.specs.declared.input.Input.{Input}
use Rattle.gsl_words.specs.declared.module.Module.{Module}
use Rattle.gsl_values.specs.declared.value.Value.{Value}
use Rattle.gsl_tree.specs.Operations.{Given}
use Rattle.gsl_valid.specs.Placed.{Code}
use Rattle.gsl_machine.specs.State.{Ids, State}
use Rattle.gsl_spv.specs.Growing.{Extends}
use Rattle.gsl_spv.specs.Sections.{Sections}
use Rattle.gsl_lower_values.specs.Building.{Built, Made, Full, Step, ◌>>=◌}
use Rattle.gsl_lower_law.specs.Stretches.{Leads}
use Rattle.gsl_lower_law.specs.Values.{Keeps, Ready, Stands, Text}

-- What instructions leave of a state beside what its ids stand for: the choices that are left, the variables and the buffers.
pub record Left : Type 0 where
  pub choices : List ℕ
  pub variables : List Value
  pub buffers : List Buffer

abbrev pub leaving : State → Left → Ids → State
leaving state left ids = record state { ids = ids; choices = left.choices; variables = left.variables; buffers = left.buffers }

-- all of it but the choices, of which these are left
abbrev pub drawing : State → List ℕ → Left
drawing state choices = record { choices = choices; variables = state.variables; buffers = state.buffers }

-- From one builder to the next something was given, of which this is the case behind the instructions that were put: they lead from a state to
-- one of which this is left, and the ids that stood for something stand for the same.
pub record Reaches (m : Module) (input : Input) {A : Type 0} (Is : A → Ids → Type 0) (left : Left) (state : State) (before : Sections) (given : A) (after : Sections) : Type 0 where
  pub code : Code
  pub puts : after.functions ≡ before.functions ++ code
  pub ids : Ids
  pub leads : Leads m input code state (leaving state left ids)
  pub is : Is given ids
  pub keeps : Keeps state.ids ids
  pub ready : Ready after.last state.own ids

-- one step and then another, which goes on with what was given
abbrev pub followed : {A B : Type 0} → Step A → (A → Step B) → Step B
followed first next = first >>= next

-- A step only adds, where it comes to something.
abbrev pub Grows : {A : Type 0} → Sections → Built A → Type 0
Grows before (Made given after) = Extends before after
Grows before Full = Unit {0}

-- Where a step came to something, and what the builder holds then is part of what the module is made of, it reaches this.
abbrev pub Comes : Module → Input → Sections → {A : Type 0} → (A → Ids → Type 0) → Left → State → Sections → Built A → Type 0
Comes m input whole Is left state before (Made given after) = Extends after whole → Reaches m input Is left state before given after
Comes m input whole Is left state before Full = Unit {0}

-- A step that only adds, and that from a state in which a builder stands for what it holds reaches this.
pub record Acts (m : Module) (input : Input) (whole : Sections) {A : Type 0} (Is : A → Ids → Type 0) (left : Left) (state : State) (before : Sections) (step : Step A) : Type 0 where
  pub grows : Grows before (step before)
  pub comes : Text m whole state.own → Ready before.last state.own state.ids → Comes m input whole Is left state before (step before)

-- It stores nothing, and leaves these choices.
abbrev pub Does : Module → Input → Sections → {A : Type 0} → (A → Ids → Type 0) → List ℕ → State → Sections → Step A → Type 0
Does m input whole Is choices state before step = Acts m input whole Is (drawing state choices) state before step

-- A step computes a value: in the end the id that it gives stands for it, and these choices are left.
abbrev pub Computes : Module → Input → Sections → Given → State → Sections → Step ℕ → Type 0
Computes m input whole answer = Does m input whole (λ id ids. Stands ids id answer.0) answer.1
