-- What it is for what an expression is lowered to, to give the value of the expression.
use Rattle.std.specs.Prelude.{◌≡◌, ℕ, ◌≤◌, ◌⊎◌, Bool, true, false}
use Rattle.gsl_base.specs.declared.input.Input.{Input}
use Rattle.gsl_types.specs.declared.ty.Ty.{Ty}
use Rattle.gsl_types.specs.declared.ty.Ty.TheVariants.{Void}
use Rattle.gsl_words.specs.declared.module.Module.{Module}
use Rattle.gsl_values.specs.declared.value.Value.{Value}
use Rattle.gsl_tree.specs.Around.{Around}
use Rattle.gsl_tree.specs.Values.{is_value_of}
use Rattle.gsl_tree.specs.declared.program.Program.{Program}
use Rattle.gsl_meaning.specs.Running.{Ran, Run}
use Rattle.gsl_meaning.specs.State as shader
use Rattle.gsl_machine.specs.State.{Ids, State}
use Rattle.gsl_spv.specs.Growing.{Extends}
use Rattle.gsl_spv.specs.Sections.{Sections}
use Rattle.gsl_lower_law.specs.Values.{Keeps, Stands}
use Rattle.gsl_lower_holders.specs.Flow.{Emit, Flow, Gives, Lacks, Lowered}
use Rattle.gsl_lower_follows.specs.Following.{Follows}
use Rattle.gsl_lower_follows.specs.Frames.{Frame, Good, Inside, Kept}

-- From one flow to the next instructions, ids and holders were added, and the names are known as before.
pub record Grown (b later : Flow) : Type 0 where
  pub extends : Extends b.sections later.sections
  pub used : b.place.used ≤ later.place.used
  pub place : later.place ≡ record b.place { label = later.place.label; used = later.place.used }

abbrev pub GrownTo : {A : Type 0} → Flow → Lowered A → Type 0
GrownTo b (Gives a later) = Grown b later
GrownTo b Lacks = Unit {0}

-- What is lowered only adds, wherever it stands.
abbrev pub Adds : {A : Type 0} → Emit A → Type 0
Adds emit = (b : Flow) → GrownTo b (emit b)

-- nothing waits
abbrev pub none_waits : {A : Type 0} → A → Flow → shader.State → State → Type 0
none_waits a later s last = ⊥

module _ (m : Module) (input : Input) (whole : Sections) (f : Frame m input whole) (p : Program) where
  -- What was lowered here does what a part of the shader comes to: what was lowered and what the shader gave are so, with the states that both
  -- are in.
  abbrev pub Does : {A R : Type 0} → ℕ → ℕ → State → (A → Flow → R → shader.State → State → Type 0) → (A → Flow → shader.State → State → Type 0) → Ran R → Lowered A → Type 0
  Does lent units state Is Waits ran (Gives a later) = Inside m input whole f later.sections → Follows m input p lent units state (Is a later) (Waits a later) ran
  Does lent units state Is Waits ran Lacks = Unit {0}

  module _ (around : Around) where
    -- An id stands for a value of a type. What has no value has none.
    abbrev pub IsGiven : Ids → ℕ → Ty → Value → Type 0
    IsGiven ids id ty v = (ty ≡ Void) ⊎ ((is_value_of p.structs ty v ≡ true) × Stands ids id v)

    -- From a state to a later one the holders that were in use are as they were; and so are ids, where all is in one block.
    pub record After (splits : Bool) (b : Flow) (state : State) (later : Flow) (s : shader.State) (last : State) : Type 0 where
      pub good : Good m input whole f p around later s last
      pub held : Kept m input whole f b.place.used state last
      pub ids : splits ≡ false → Keeps state.ids last.ids

    -- The id that was given stands for the value.
    pub record HasGiven (splits : Bool) (ty : Ty) (b : Flow) (state : State) (id : ℕ) (later : Flow) (v : Value) (s : shader.State) (last : State) : Type 0 where
      pub given : IsGiven last.ids id ty v
      pub after : After splits b state later s last

    -- Behind two ways that meet, the first so many holders are as they were, and an id stands for the value.
    pub record Met (count : ℕ) (v : Value) (state : State) (id : ℕ) (later : Flow) (r : Unit {0}) (s : shader.State) (last : State) : Type 0 where
      pub good : Good m input whole f p around later s last
      pub held : Kept m input whole f count state last
      pub stands : Stands last.ids id v

    -- What is lowered computes what the shader does, wherever it stands, and gives the id of its value.
    pub record GivesValue (splits : Bool) (ty : Ty) (emit : Emit ℕ) (run : Run Value) : Type 0 where
      pub adds : Adds emit
      pub does : (b : Flow) (s : shader.State) (units : ℕ) (state : State) → Good m input whole f p around b s state → Does 0 units state (HasGiven splits ty b state) none_waits (run s units) (emit b)
