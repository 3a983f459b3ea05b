-- Where the code of a function stands that is still to come.
use Rattle.std.specs.Prelude.{◌≡◌, ℕ, ◌⊎◌, true, false, List, ◌∷◌, map, Some}
use Rattle.std.specs.List.{AllByRecursion}
use Rattle.gsl_blocks.specs.Blocks.{role_or}
use Rattle.gsl_blocks.specs.declared.block.End.{End}
use Rattle.gsl_blocks.specs.declared.block.End.TheVariants.{Branch, Conditional, Switch, Leave}
use Rattle.gsl_blocks.specs.declared.block.Role.{Role}
use Rattle.gsl_blocks.specs.declared.block.Role.TheVariants.{Opens, Merges, Ends, Closes, Inside}
use Rattle.gsl_instr.specs.Instructions.{seconds}
use Rattle.gsl_instr.specs.declared.instruction.Instruction.TheVariants as instruction
use Rattle.gsl_words.specs.declared.module.Module.{Module}
use Rattle.gsl_valid.specs.FunctionRules.{outside}
use Rattle.gsl_valid.specs.Ids.{defined}
use Rattle.gsl_valid.specs.Instruction.{read}
use Rattle.gsl_valid.specs.Kinds.{Begins, kind}
use Rattle.gsl_valid.specs.Placed.{Code, Placed, placed_from}
use Rattle.gsl_valid.specs.TypeRules.{is_returned}
use Rattle.gsl_valid.specs.Types.{defined_as, parameters_of}
use Rattle.gsl_valid.specs.Where.{Begun, where_at}
use Rattle.gsl_machine.specs.Functions.{from_label, function_at, up_to_end}
use Rattle.gsl_sound_code.specs.Rules.{KeepAll}

-- the instructions without their places
abbrev pub bare : List Placed → Code
bare code = map (λ p. p.instr) code

-- The body of a function has the label of an id.
pub record IsLabel (body : List Placed) (id : ℕ) : Type 0 where
  pub rest : List Placed
  pub is : from_label body id ≡ Some rest

-- A block ends in such ids alone.
abbrev pub EndsIn : (ℕ → Type 0) → End → Type 0
EndsIn P (Branch target) = P target
EndsIn P (Conditional on_true on_false) = P on_true × P on_false
EndsIn P (Switch default targets) = P default × AllByRecursion P (seconds targets)
EndsIn P Leave = Unit {0}

abbrev pub LeadsIn : (ℕ → Type 0) → Role → Type 0
LeadsIn P (Opens label) = Unit {0}
LeadsIn P (Merges merge) = Unit {0}
LeadsIn P (Ends end) = EndsIn P end
LeadsIn P Closes = Unit {0}
LeadsIn P Inside = Unit {0}

-- The body has the label of an id, where it is one: ids begin at 1.
abbrev pub IsTarget : List Placed → ℕ → Type 0
IsTarget body id = (id ≡ 0) ⊎ IsLabel body id

-- An instruction branches to labels of a body alone.
abbrev pub Leads : List Placed → Placed → Type 0
Leads body p = LeadsIn (IsTarget body) (role_or (read p.instr))

-- In a body of a function that returns this type, behind these instructions of the module, the last first, this is still to come.
pub record Spot (m : Module) (body : List Placed) (returned : ℕ) (before : Code) (rest : List Placed) : Type 0 where
  pub code : Code
  pub at : ℕ
  pub is : rest ≡ up_to_end (placed_from at code)
  pub keep : KeepAll m before code
  pub section : (where_at m before).section ≡ 9
  pub inside : (where_at m before).inside ≡ true
  pub started : outside (where_at m before).standing ≡ false
  pub id : ℕ
  pub function_type : ℕ
  pub function : kind (where_at m before).function ≡ Begins returned id function_type
  pub gives : is_returned m returned ≡ true
  pub so_far : (id : ℕ) → defined (where_at m before).body id ≡ true → defined (bare body) id ≡ true
  pub later : (id : ℕ) → defined (bare rest) id ≡ true → defined (bare body) id ≡ true
  pub leads : AllByRecursion (Leads body) rest

-- The next instruction is a label.
pub record AtLabel (rest : List Placed) : Type 0 where
  pub first : Placed
  pub more : List Placed
  pub is : rest ≡ first ∷ more
  pub label : ℕ
  pub reads : read first.instr ≡ Some (instruction.Label label)

-- A function has a body, which begins here.
pub record IsBody (m : Module) (id returned function_type : ℕ) : Type 0 where
  pub body : List Placed
  pub found : function_at m id ≡ Some body
  pub before : Code
  pub spot : Spot m body returned before body
  pub begun : (where_at m before).standing ≡ Begun (parameters_of (defined_as m function_type))
