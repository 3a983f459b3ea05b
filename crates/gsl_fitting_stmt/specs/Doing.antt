-- What a statement does to the code of the function that is open, where control may leave it on the way (SPIR-V 1.0, 2.11).
use Rattle.std.specs.Prelude.{◌≡◌, ℕ, ◌+◌, ◌≤◌, Bool, true, false, List, [], ◌∷◌, ◌++◌, length, Some}
use Rattle.gsl_words.specs.declared.module.Module.{Module}
use Rattle.gsl_blocks.specs.declared.around.Around.{Around}
use Rattle.gsl_blocks.specs.declared.around.Due.{Due}
use Rattle.gsl_blocks.specs.Around.{is_exit, is_id}
use Rattle.gsl_valid.specs.Kinds.{type_of}
use Rattle.gsl_valid.specs.LimitRules.{most_constructs}
use Rattle.gsl_valid.specs.Placed.{Code}
use Rattle.gsl_valid.specs.ReturnRules.{gives_value}
use Rattle.gsl_valid.specs.Types.{defined_as}
use Rattle.gsl_spv.specs.Growing.{Extends}
use Rattle.gsl_spv.specs.Sections.{Sections}
use Rattle.gsl_lower_holders.specs.Flow.{Emit, Flow, Gives, Lacks, Lowered}
use Rattle.gsl_lower_stmt.specs.Parts.{LowerStmt}
use Rattle.gsl_lower_stmt.specs.declared.exits.Exits.{Exits}
use Rattle.gsl_fitting.specs.Fits.{At, Behind, Fits, Frame, In, is_mark}
use Rattle.gsl_fitting_shapes.specs.Fresh.{Fresh}
use Rattle.gsl_fitting_steps.specs.Keeping.{Fine}
use Rattle.gsl_fitting_types.specs.Making.{made}
use Rattle.gsl_fitting_flow.specs.Flowing.{EmitStays, Hold, IsLater}

-- ---- where control may leave

-- `break` leads to an exit of a run, and `continue` to the continue part of the loop around it.
pub record AreExits (c : Around) (exits : Exits) : Type 0 where
  pub breaks : (label : ℕ) → exits.break_to ≡ Some label → is_exit c label ≡ true
  pub continues : (label : ℕ) → exits.continue_to ≡ Some label → is_id c.loop_continue label ≡ true

-- They lead to labels of the module.
pub record AreLabels (m : Module) (exits : Exits) : Type 0 where
  pub breaks : (label : ℕ) → exits.break_to ≡ Some label → is_mark m label ≡ true
  pub continues : (label : ℕ) → exits.continue_to ≡ Some label → is_mark m label ≡ true

-- Code goes on in a block of the same run, or a statement has left it.
abbrev pub at_end : Bool → ℕ → Around → List ℕ → List Due → At
at_end false label c now due = In label c now due
at_end true label c now due = Behind due

-- ---- statements

-- What was put for a statement from one flow to the next fits in a run with these exits, whose blocks may return: from the block that was open
-- there and had given some ids, to the one that is open here, or to the end of a block where the statement leaves. So many constructs more
-- may nest there.
pub record Passes (m : Module) (rank : ℕ → ℕ) (f : Frame) (deep : ℕ) (leaves : Bool) (exits : Exits) (given now : List ℕ) (before after : Flow) : Type 0 where
  pub fine : Fine m before.sections → Fine m after.sections
  pub code : Code
  pub puts : after.sections.functions ≡ before.sections.functions ++ code
  pub fits : (follows : Code) (c : Around) (due : List Due) → Fresh c (before.sections.last + 1) → AreExits c exits → c.leaves ≡ true → c.depth + deep ≤ most_constructs → Fits m rank f follows (at_end leaves after.place.label c now due)
      → Fits m rank f (code ++ follows) (In before.place.label c given due)

module _ (whole : Sections) (main : ℕ) (local_size : List ℕ) (rank : ℕ → ℕ) (f : Frame) where
  abbrev m : Module
  m = made whole main local_size rank f

  -- From one flow to the next it does so, and takes the holders that it asks for.
  pub record Does (asks : List ℕ) (deep : ℕ) (leaves : Bool) (exits : Exits) (given : List ℕ) (before after : Flow) : Type 0 where
    pub now : List ℕ
    pub passes : Passes m rank f deep leaves exits given now before after
    pub taken : after.place.used ≡ before.place.used + length asks

  -- Where what the builder holds then is part of what the module is made of, and the next holders are of the types that are asked for, a
  -- statement that comes to something does this.
  abbrev pub StmtFlows : List ℕ → ℕ → Bool → Exits → List ℕ → Flow → Lowered (Unit {0}) → Type 0
  StmtFlows asks deep leaves exits given before (Gives done after) = Extends after.sections whole → AreLabels m exits → Hold whole main local_size rank f before.place.holders before.place.used asks → Does asks deep leaves exits given before after
  StmtFlows asks deep leaves exits given before Lacks = Unit {0}

  -- From wherever a flow comes behind another, a statement does so. It takes holders of these types, and so many constructs nest within it.
  pub record Runs (s : Flow) (asks : List ℕ) (deep : ℕ) (leaves : Bool) (exits : Exits) (run : Emit (Unit {0})) : Type 0 where
    pub stays : (u : Flow) → EmitStays u (run u)
    pub flows : (given : List ℕ) (u : Flow) → IsLater s u → StmtFlows asks deep leaves exits given u (run u)

  -- Statements one behind the other do so; what stands behind one that leaves is dropped.
  pub data RunEach (s : Flow) (deep : ℕ) (exits : Exits) : List LowerStmt → List ℕ → Type 0 where
    none_runs : RunEach s deep exits [] []
    last_runs : {one : LowerStmt} {more : List LowerStmt} {asks : List ℕ} → one.leaves ≡ true → Runs s asks deep true exits (one.run exits) → RunEach s deep exits (one ∷ more) asks
    one_runs : {one : LowerStmt} {more : List LowerStmt} {asks others : List ℕ} → one.leaves ≡ false → Runs s asks deep false exits (one.run exits) → RunEach s deep exits more others → RunEach s deep exits (one ∷ more) (asks ++ others)

  -- The function gives values of a type.
  abbrev pub MayReturn : ℕ → Type 0
  MayReturn type = (x : ℕ) → type_of (defined_as m x) ≡ Some type → gives_value m x (Some f.function) ≡ true
