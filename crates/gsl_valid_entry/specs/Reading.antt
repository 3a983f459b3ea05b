-- What the entry point is asked about, read from instructions at their places.
use Rattle.std.specs.Prelude.{◌≡◌, ℕ, nat_eq, if◌then◌else◌, List, [], ◌∷◌, Option, Some, None}
use Rattle.std.specs.List.{cons_option}
use Rattle.indexmap.specs.IndexSet.{IndexSet, contains}
use Rattle.gsl_instr.specs.declared.enumerant.execution_model.TheConstants as execution_model
use Rattle.gsl_valid.specs.Instruction.{read}
use Rattle.gsl_valid.specs.Placed.{Placed}
use Rattle.gsl_valid.specs.Types.{function_begins}
use Rattle.gsl_valid.specs.EntryRules as rules
use Rattle.gsl_valid_entry.specs.declared.modes.Mode.{Mode}
use Rattle.gsl_valid_entry.specs.declared.interface.Ids.{Ids}

-- a mode
abbrev pub mode_seen : Mode → rules.Mode
mode_seen mode = record { function = mode.function; mode = mode.mode; parts = mode.parts.now }

abbrev pub mode_if_seen : Option Mode → Option rules.Mode
mode_if_seen None = None
mode_if_seen (Some mode) = Some (mode_seen mode)

-- the modes that instructions give
unfoldable pub modes_from : List Placed → List rules.Mode
modes_from [] = []
modes_from (p ∷ placed) = cons_option (rules.mode_of (read p.instr)) (modes_from placed)

-- the Input and Output variables before the first function
unfoldable pub interface_from : List Placed → List ℕ
interface_from [] = []
interface_from (p ∷ placed) =
    if function_begins (read p.instr) then [] else cons_option (rules.interface_variable (read p.instr)) (interface_from placed)

-- the stage of the first entry point
unfoldable pub model_from : List Placed → ℕ
model_from [] = execution_model.GL_COMPUTE
model_from (p ∷ placed) = rules.model_or (model_from placed) (read p.instr)

-- The set has these ids.
abbrev pub Holds : {S : Type 0} → IndexSet ℕ S → List ℕ → Type 0
Holds set ids = (id : ℕ) → contains nat_eq set id ≡ rules.is_among ids id

-- These are some ids, and whether they differ.
abbrev pub AreIds : Ids → List ℕ → Type 0
AreIds known ids = Holds known.set ids × (known.differ ≡ rules.all_differ ids)
