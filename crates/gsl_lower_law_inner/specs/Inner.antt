-- Which instructions stand inside the body of a function, and that what is lowered puts no others.
use Rattle.std.specs.Prelude.{◌≡◌, ◌==◌, ◌||◌, ℕ, Bool, true, not, List, ◌++◌}
use Rattle.std.specs.List.{AllByRecursion}
use Rattle.gsl_instr.specs.declared.op.TheConstants as op
use Rattle.gsl_types.specs.declared.ty.Ty.{Ty}
use Rattle.gsl_words.specs.declared.module.Instr.{Instr}
use Rattle.gsl_valid.specs.Placed.{Code}
use Rattle.gsl_spv.specs.Growing.{Extends}
use Rattle.gsl_spv.specs.Sections.{Sections}
use Rattle.gsl_lower_values.specs.Building.{Built, Made, Full, Step}
use Rattle.gsl_lower_holders.specs.Flow.{Emit, Flow, Gives, Lacks, Lowered}
use Rattle.gsl_lower_expr.specs.Lowering.{Setting}
use Rattle.gsl_lower_expr.specs.Parts.{Lower}
use Rattle.gsl_lower_stmt.specs.Parts.{LowerStmt}
use Rattle.gsl_lower_stmt.specs.declared.exits.Exits.{Exits}
use Rattle.gsl_lower_follows.specs.Giving.{Grown}

-- An opcode by which no function begins or ends, which is that of no parameter and declares no variable (SPIR-V 1.0, 2.4).
abbrev pub is_inner : ℕ → Bool
is_inner code = not (code == op.FUNCTION || code == op.FUNCTION_PARAMETER || code == op.FUNCTION_END || code == op.VARIABLE)

abbrev pub IsInner : Instr → Type 0
IsInner i = is_inner i.op ≡ true

-- ---- steps of a builder

-- Code grew by inner code alone.
pub record GrowsInner (before after : Code) : Type 0 where
  pub put : Code
  pub is : after ≡ before ++ put
  pub inner : AllByRecursion IsInner put

-- Outside functions sections grew by inner code alone.
pub record KeepsOutside (before after : Sections) : Type 0 where
  pub imports : GrowsInner before.imports after.imports
  pub names : GrowsInner before.names after.names
  pub decorations : GrowsInner before.decorations after.decorations
  pub globals : GrowsInner before.globals after.globals

-- From one builder to the next the sections grew by inner code alone.
pub record BuildsInner (before after : Sections) : Type 0 where
  pub extends : Extends before after
  pub put : Code
  pub is : after.functions ≡ before.functions ++ put
  pub inner : AllByRecursion IsInner put
  pub outside : KeepsOutside before after

-- What a step came to is so, if it came to something.
abbrev pub BuildsTo : {A : Type 0} → Sections → Built A → Type 0
BuildsTo before (Made a after) = BuildsInner before after
BuildsTo before Full = Unit {0}

-- A step puts inner code alone, wherever it stands.
pub record AllBuild {A : Type 0} (step : Step A) : Type 0 where
  pub all : (before : Sections) → BuildsTo before (step before)

-- ---- parts of lowering

-- From one flow to the next there was only more, the names are known as before, and sections grew by inner code alone.
pub record PutsInner (b later : Flow) : Type 0 where
  pub grown : Grown b later
  pub put : Code
  pub is : later.sections.functions ≡ b.sections.functions ++ put
  pub inner : AllByRecursion IsInner put
  pub outside : KeepsOutside b.sections later.sections

-- What was lowered is so, if nothing was wanting.
abbrev pub PutsTo : {A : Type 0} → Flow → Lowered A → Type 0
PutsTo b (Gives a later) = PutsInner b later
PutsTo b Lacks = Unit {0}

-- What is lowered puts inner code alone, wherever it stands.
pub record AllPut {A : Type 0} (emit : Emit A) : Type 0 where
  pub all : (b : Flow) → PutsTo b (emit b)

-- ---- expressions

-- Whatever an expression is lowered to puts inner code alone: as what is read or stored, as its value, and as its length.
pub record LowersInner (e : Lower) : Type 0 where
  pub reach : AllPut e.reach
  pub value : AllPut e.value
  pub length : AllPut e.length

-- Calls put inner code alone, where their arguments do.
abbrev pub CallsInner : Setting → Type 0
CallsInner s = (number : ℕ) (args : List Lower) (t : Ty) → AllByRecursion LowersInner args → AllPut (s.call number args t)

-- ---- statements

-- A statement puts inner code alone, wherever `break` and `continue` lead.
abbrev pub RunsInner : LowerStmt → Type 0
RunsInner s = (exits : Exits) → AllPut (s.run exits)
