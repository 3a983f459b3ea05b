-- What the rules say of the sources of a stage: they give one module, or they have one first fault.
use Rattle.std.specs.Prelude.{◌≡◌, ◌⊎◌, ℕ, ◌+◌, ◌≤◌, List, [], ◌∷◌, ◌++◌, length, Option, Some, None, Result, Ok, Err, nat_lt, if◌then◌else◌}
use Rattle.gsl_base.specs.declared.stage.Stage.{Stage}
use Rattle.gsl_base.specs.declared.stage.Stage.TheVariants.{Compute}
use Rattle.gsl_base.specs.declared.fault.Code.{Code}
use Rattle.gsl_base.specs.declared.fault.Code.TheVariants.{E0001, E0900}
use Rattle.gsl_base.specs.declared.fault.Fault.{Fault}
use Rattle.gsl_base.specs.declared.fault.Refusal.{Refusal}
use Rattle.gsl_base.specs.declared.fault.Refusal.TheVariants as refusal
use Rattle.gsl_base.specs.declared.token.Token.{Token}
use Rattle.gsl_base.specs.Checked.{Checked, ◌>>=◌}
use Rattle.gsl_lex.specs.Raws.{raws_of}
use Rattle.gsl_parse.specs.Judged.{unit_of}
use Rattle.gsl_pp.specs.Unit.{preprocessed}
use Rattle.gsl_syntax.specs.declared.statement.Global.{Global}
use Rattle.gsl_check.specs.Units.{checked}
use Rattle.gsl_tree.specs.declared.unit.TypedUnit.{TypedUnit}
use Rattle.gsl_tree.specs.declared.program.Program.{Program as Linked}
use Rattle.gsl_tree.specs.WellTyped.{program_lists}
use Rattle.gsl_link.specs.Joined.{joined}
use Rattle.gsl_lowered.specs.Sound.{IsLowered}
use Rattle.gsl_words.specs.declared.module.Module.{Module}
use Rattle.gsl_words.specs.declared.target.Target.{Target}
use Rattle.gsl_words.specs.declared.target.Target.TheVariants.{V10}
use Rattle.gsl_words.specs.Bytes.{bytes_of}
use Rattle.gsl_cmd.specs.declared.compiling.TheConstants.{MAX_SOURCE_BYTES, MAX_SOURCES}
use Rattle.gsl_form.specs.declared.program.Program.{Program}
use Rattle.gsl_form.specs.Trees.{Spells}
use Rattle.gsl_cmd.specs.Lowering.{module_of}
use Rattle.gsl_cmd.specs.Carries.{Carries}
use Rattle.gsl_cmd.specs.Meant.{KeepsMeaning}
use Rattle.gsl_cmd.specs.Weight.{IsSmall}
use Rattle.gsl_valid.specs.Portable.{Portable}
use Rattle.gsl_valid.specs.Valid.{Valid}

-- the tree of a unit
abbrev pub Tree : Type 0
Tree = List Global

-- the fault of this code at the first line of a unit
abbrev pub fault_in : ℕ → Code → Fault
fault_in unit code = record { place = record { unit = unit; line = 1 }; code = code }

-- the first unit that is too long, where they are numbered from this one
abbrev pub too_long_from : ℕ → List (List ℕ) → Option ℕ
too_long_from unit [] = None
too_long_from unit (source ∷ sources) = if nat_lt MAX_SOURCE_BYTES (length source) then Some unit else too_long_from (unit + 1) sources

-- the live tokens of the source file of this number, or its first fault up to there
unfoldable pub tokens_of : ℕ → List ℕ → Checked (List Token)
tokens_of unit source = raws_of unit source >>= preprocessed unit

-- the tree of the source file of this number, or its first fault: the unit that its live tokens spell
unfoldable pub tree_of : ℕ → List ℕ → Checked Tree
tree_of unit source = tokens_of unit source >>= unit_of

-- the typed unit of the source file of this number, or its first fault: what its tree stands for
unfoldable pub typed_of : Stage → ℕ → List ℕ → Checked TypedUnit
typed_of stage unit source = tree_of unit source >>= checked stage

-- the typed units of sources that are numbered from this one on, or the first fault
abbrev pub typed_from : Stage → ℕ → List (List ℕ) → Checked (List TypedUnit)
typed_from stage unit [] = Ok []
typed_from stage unit (source ∷ sources) = typed_of stage unit source >>= λ typed. typed_from stage (unit + 1) sources >>= λ units. Ok (typed ∷ units)

-- typed units and those of the sources behind them, which are numbered from this one on
abbrev pub typed_behind : Stage → List TypedUnit → ℕ → List (List ℕ) → Checked (List TypedUnit)
typed_behind stage units unit sources = typed_from stage unit sources >>= λ more. Ok (units ++ more)

abbrev pub sized : {A : Type 0} → Option ℕ → Checked A → Checked A
sized (Some unit) units = Err (fault_in unit E0900)
sized None units = units

-- the typed units of the sources, or their first fault: that of the first one that is too long, and else the first one in their order
abbrev pub units_of : Stage → List (List ℕ) → Checked (List TypedUnit)
units_of stage sources = sized (too_long_from 0 sources) (typed_from stage 0 sources)

-- the program that typed units make together; their fault, if they have one, goes before those of linking
abbrev pub linked_behind : Stage → Checked (List TypedUnit) → Checked Linked
linked_behind stage units = units >>= joined stage

-- the program that the sources make together, or their first fault
abbrev pub linked_of : Stage → List (List ℕ) → Checked Linked
linked_of stage sources = linked_behind stage (units_of stage sources)

-- A linked program is of the form of which all is proved so far, for version 1.0: it spells this one.
pub record IsOfForm (target : Target) (stage : Stage) (linked : Linked) (p : Program) : Type 0 where
  pub target_is : target ≡ V10
  pub stage_is : stage ≡ Compute
  pub spelled : Spells (program_lists linked) p

-- The module is the one that carries the program that a linked one spells.
abbrev pub IsCarried : Target → Stage → Linked → Module → Type 0
IsCarried target stage linked m = (p : Program) × IsOfForm target stage linked p × (m ≡ module_of p)

-- A linked program that is not of the form is lowered to this module for a target, and it is valid.
abbrev pub IsOther : Target → Stage → Linked → Module → Type 0
IsOther target stage linked m = ((p : Program) → IsOfForm target stage linked p → ⊥) × IsLowered target linked m

-- A linked program has this module for a target.
abbrev pub HasModule : Target → Stage → Linked → Module → Type 0
HasModule target stage linked m = IsCarried target stage linked m ⊎ IsOther target stage linked m

-- The sources give this module for a target.
pub record Accepts (target : Target) (stage : Stage) (sources : List (List ℕ)) (m : Module) : Type 0 where
  pub linked : Linked
  pub read : linked_of stage sources ≡ Ok linked
  pub has : HasModule target stage linked m

-- The sources give this program of the form.
pub record AreOfForm (target : Target) (stage : Stage) (sources : List (List ℕ)) (p : Program) : Type 0 where
  pub linked : Linked
  pub read : linked_of stage sources ≡ Ok linked
  pub formed : IsOfForm target stage linked p

-- The fault is the first one of the sources; where they have none, their program has no module.
abbrev pub FaultWhere : Target → Stage → Fault → Checked Linked → Type 0
FaultWhere target stage fault (Err first) = fault ≡ first
FaultWhere target stage fault (Ok linked) = (fault ≡ fault_in 0 E0001) × ((m : Module) → HasModule target stage linked m → ⊥)

-- The sources have this first fault.
abbrev pub FirstFault : Target → Stage → List (List ℕ) → Fault → Type 0
FirstFault target stage sources fault = FaultWhere target stage fault (linked_of stage sources)

-- The rules give this module, or this first fault.
abbrev pub Judges : Target → Stage → List (List ℕ) → Checked Module → Type 0
Judges target stage sources (Ok m) = Accepts target stage sources m
Judges target stage sources (Err fault) = FirstFault target stage sources fault

-- What making the module of a linked program answers: the module, or that it has none.
abbrev pub MakesLinked : Target → Stage → Linked → Result Module Refusal → Type 0
MakesLinked target stage linked (Ok m) = HasModule target stage linked m
MakesLinked target stage linked (Err (refusal.Source fault)) = FaultWhere target stage fault (Ok linked)
MakesLinked target stage linked (Err refusal.Memory) = Unit {0}

-- What making the module of one that is not of the form answers.
abbrev pub MakesOther : Target → Linked → Result Module Refusal → Type 0
MakesOther target linked (Ok m) = IsLowered target linked m
MakesOther target linked (Err (refusal.Source fault)) = (fault ≡ fault_in 0 E0001) × ((m : Module) → IsLowered target linked m → ⊥)
MakesOther target linked (Err refusal.Memory) = Unit {0}

-- What making the module of the sources answers: the module, or their first fault.
abbrev pub Makes : Target → Stage → List (List ℕ) → Result Module Refusal → Type 0
Makes target stage sources (Ok m) = Accepts target stage sources m
Makes target stage sources (Err (refusal.Source fault)) = FirstFault target stage sources fault
Makes target stage sources (Err refusal.Memory) = Unit {0}

-- The sources give this program, which is not of the form.
pub record AreOther (target : Target) (stage : Stage) (sources : List (List ℕ)) (linked : Linked) : Type 0 where
  pub read : linked_of stage sources ≡ Ok linked
  pub unformed : (p : Program) → IsOfForm target stage linked p → ⊥

-- What is promised of the module of sources: it is valid; where they give a program of the form it carries the program, is small for it
-- and is one that other consumers take; and where they give any other program, as many sources as may be, it keeps the meaning of the program.
pub record IsPromised (target : Target) (stage : Stage) (sources : List (List ℕ)) (m : Module) : Type 0 where
  pub valid : Valid m
  pub carries : (p : Program) → AreOfForm target stage sources p → Carries m p
  pub small : (p : Program) → AreOfForm target stage sources p → IsSmall m p
  pub portable : (p : Program) → AreOfForm target stage sources p → Portable m
  pub meant : length sources ≤ MAX_SOURCES → (linked : Linked) → AreOther target stage sources linked → KeepsMeaning m linked

-- What compiling the sources answers: the file of their module, which is as is promised; or their first fault.
abbrev pub Compiles : Target → Stage → List (List ℕ) → Result (List ℕ) Refusal → Type 0
Compiles target stage sources (Ok bytes) = (m : Module) × Accepts target stage sources m × (bytes ≡ bytes_of m) × IsPromised target stage sources m
Compiles target stage sources (Err (refusal.Source fault)) = FirstFault target stage sources fault
Compiles target stage sources (Err refusal.Memory) = Unit {0}
