-- What it is for what a statement is lowered to, to do what the statement does (GLSL 4.50, chapter 6).
use Rattle.std.specs.Prelude.{◌≡◌, ◌==◌, if◌then◌else◌, ℕ, suc, ◌≤◌, Bool, true, false, List, [], ◌∷◌, length, Option, Some, None, ◌⊎◌}
use Rattle.gsl_base.specs.declared.input.Input.{Input}
use Rattle.gsl_instr.specs.declared.op.TheConstants as op
use Rattle.gsl_words.specs.declared.module.Instr.{Instr}
use Rattle.gsl_types.specs.declared.ty.StructType.{StructType}
use Rattle.gsl_types.specs.declared.ty.Ty.{Ty}
use Rattle.gsl_types.specs.declared.ty.Ty.TheVariants.{Void}
use Rattle.gsl_words.specs.declared.module.Module.{Module}
use Rattle.gsl_values.specs.declared.value.Value.{Value}
use Rattle.gsl_tree.specs.Around.{Around}
use Rattle.gsl_tree.specs.Values.{is_value_of, word_in}
use Rattle.gsl_tree.specs.declared.program.Program.{Program}
use Rattle.gsl_meaning.specs.Accesses as access
use Rattle.gsl_meaning.specs.Accesses.{nothing}
use Rattle.gsl_meaning.specs.Running.{Ran, Run}
use Rattle.gsl_meaning.specs.Running as shader_run
use Rattle.gsl_meaning.specs.State as shader
use Rattle.gsl_meaning.specs.Statements as statement
use Rattle.gsl_meaning.specs.Statements.{Normal, Broke, Continued, Returned}
use Rattle.gsl_valid.specs.Placed.{Placed}
use Rattle.gsl_machine.specs.Functions.{from_label}
use Rattle.gsl_machine.specs.State.{State}
use Rattle.gsl_spv.specs.Declarations.{instr}
use Rattle.gsl_spv.specs.Sections.{Sections}
use Rattle.gsl_lower_law.specs.Values.{Stands}
use Rattle.gsl_lower_holders.specs.Flow.{Emit, Flow, Gives, Lacks, Lowered, given, ◌>>=◌}
use Rattle.gsl_lower_stmt.specs.Parts.{LowerStmt, begins_with}
use Rattle.gsl_lower_stmt.specs.declared.exits.Exits.{Exits}
use Rattle.gsl_lower_follows.specs.Following.{Follows}
use Rattle.gsl_lower_follows.specs.Frames.{AreTyped, Frame, Good, Holds, Inside, body, coming}
use Rattle.gsl_lower_follows.specs.Giving.{Adds, none_waits}
use Rattle.gsl_lower_follows.specs.Reached.{Reached}

-- what an expression whose value is not used is lowered to, and what it does
abbrev pub evaluated : Emit ℕ → Exits → Emit (Unit {0})
evaluated value exits = value >>= (λ v. given tt)

abbrev pub evaluated_means : Run Value → Run statement.Flow
evaluated_means x = shader_run.◌>>=◌ x (λ v. shader_run.given Normal)

-- what `return` with a value does
abbrev pub returned_means : Run Value → Run statement.Flow
returned_means x = shader_run.◌>>=◌ x (λ v. shader_run.given (Returned v))

-- what a local variable that begins with a value is lowered to, and what it does
abbrev pub declared : ℕ → Emit ℕ → Exits → Emit (Unit {0})
declared number value exits = value >>= begins_with number

abbrev pub declared_means : ℕ → Run Value → Run statement.Flow
declared_means number value = shader_run.◌>>=◌ value (λ v. shader_run.◌>>=◌ (shader_run.storing (access.whole (access.Local number)) v) (λ w. shader_run.given Normal))

-- what `if` does, of a value and two statements
abbrev pub forked_means : Run Value → Run statement.Flow → Run statement.Flow → Run statement.Flow
forked_means value first other = shader_run.◌>>=◌ value (λ v. if word_in v == 0 then other else first)

-- A value is one of what a function gives, or the function gives none.
abbrev pub IsResult : List StructType → Ty → Value → Type 0
IsResult structs result v = (result ≡ Void) ⊎ (is_value_of structs result v ≡ true)

module _ (m : Module) (input : Input) (sections : Sections) (f : Frame m input sections) where
  -- A label stands in the function, behind what a builder holds.
  pub record StandsBehind (b : Sections) (label : ℕ) : Type 0 where
    pub place : ℕ
    pub rest : List Placed
    pub found : from_label (body m input sections f) label ≡ Some (record { at = place; instr = instr op.LABEL (label ∷ []) } ∷ rest)
    pub ahead : suc (length rest) ≤ length (coming m input sections f b)

  abbrev pub ForLabel : (ℕ → Type 0) → Option ℕ → Type 0
  ForLabel Is None = Unit {0}
  ForLabel Is (Some label) = Is label

  -- Where `break` and `continue` lead, labels stand behind what a builder holds.
  pub record LeadBehind (b : Sections) (exits : Exits) : Type 0 where
    pub broke : ForLabel (StandsBehind b) exits.break_to
    pub continued : ForLabel (StandsBehind b) exits.continue_to

  module _ (p : Program) (around : Around) where
    -- What is so wherever control is in the function: its state is the shader's, and a run of the module comes to it.
    pub record Within (s : shader.State) (state : State) : Type 0 where
      pub within : state.body ≡ body m input sections f
      pub own : state.own ≡ f.own
      pub waiting : state.waiting ≡ f.waiting
      pub holds : Holds m input sections f p around s state
      pub typed : AreTyped m input sections f p around s
      pub reached : Reached m input state

    -- Control is behind a label.
    pub record AtLabel (label : ℕ) (s : shader.State) (state : State) : Type 0 where
      pub place : ℕ
      pub found : from_label (body m input sections f) label ≡ Some (record { at = place; instr = instr op.LABEL (label ∷ []) } ∷ state.rest)
      pub ids : state.ids ≡ f.own
      pub state_is : Within s state

    -- the instruction by which a function is left with a value, or with none
    abbrev pub Returning : Instr → Value → State → Type 0
    Returning i v state = ((i ≡ instr op.RETURN []) × (v ≡ nothing)) ⊎ ((id : ℕ) × (i ≡ instr op.RETURN_VALUE (id ∷ [])) × Stands state.ids id v)

    -- Control is before the return of a value that is of what the function gives.
    pub record AtReturn (v : Value) (s : shader.State) (state : State) : Type 0 where
      pub place : ℕ
      pub i : Instr
      pub rest : List Placed
      pub is : state.rest ≡ record { at = place; instr = i } ∷ rest
      pub gives : Returning i v state
      pub typed : IsResult p.structs f.result v
      pub state_is : Within s state

    abbrev pub AtExit : Option ℕ → shader.State → State → Type 0
    AtExit None s state = ⊥
    AtExit (Some label) s state = AtLabel label s state

    -- Where control is behind a statement, by how it was left; where it always leaves, never behind its code.
    abbrev pub IsDone : Bool → Exits → Unit {0} → Flow → statement.Flow → shader.State → State → Type 0
    IsDone leaves exits done later Normal s last = (leaves ≡ false) × Good m input sections f p around later s last
    IsDone leaves exits done later Broke s last = AtExit exits.break_to s last
    IsDone leaves exits done later Continued s last = AtExit exits.continue_to s last
    IsDone leaves exits done later (Returned v) s last = AtReturn v s last

    -- What was lowered here does what a part of the shader comes to, where the exits lead behind it: of what they come to this is so.
    abbrev pub UnderExits : {A R : Type 0} → ℕ → State → Exits → (A → Flow → R → shader.State → State → Type 0) → Ran R → Lowered A → Type 0
    UnderExits units state exits Is ran (Gives a later) = Inside m input sections f later.sections → LeadBehind later.sections exits → Follows m input p 0 units state (Is a later) (none_waits a later) ran
    UnderExits units state exits Is ran Lacks = Unit {0}

    abbrev pub DoesHere : ℕ → State → Bool → Exits → Ran statement.Flow → Lowered (Unit {0}) → Type 0
    DoesHere units state leaves exits ran low = UnderExits units state exits (IsDone leaves exits) ran low

    -- What is lowered does what the statement does, wherever it stands, by where `break` and `continue` lead.
    pub record DoesStatement (leaves : Bool) (emit : Exits → Emit (Unit {0})) (run : Run statement.Flow) : Type 0 where
      pub adds : (exits : Exits) → Adds (emit exits)
      pub does : (exits : Exits) (b : Flow) (s : shader.State) (units : ℕ) (state : State) → Good m input sections f p around b s state → DoesHere units state leaves exits (run s units) (emit exits b)

    -- Each of some statements does what the one at its place means.
    abbrev pub EachDoes : List LowerStmt → List (Run statement.Flow) → Type 0
    EachDoes [] [] = Unit {0}
    EachDoes [] (run ∷ runs) = ⊥
    EachDoes (s ∷ ss) [] = ⊥
    EachDoes (s ∷ ss) (run ∷ runs) = DoesStatement s.leaves s.run run × EachDoes ss runs
