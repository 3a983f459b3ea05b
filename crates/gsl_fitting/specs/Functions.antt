-- A function's whole code, and functions one after the other.
use Rattle.std.specs.Prelude.{◌≡◌, ℕ, true, List, [], ◌∷◌, ◌++◌, Some, option_to_list}
use Rattle.std.specs.List.{AllByRecursion, list_all}
use Rattle.gsl_words.specs.declared.module.Instr.{Instr}
use Rattle.gsl_words.specs.declared.module.Module.{Module}
use Rattle.gsl_instr.specs.declared.enumerant.storage_class.TheConstants as storage_class
use Rattle.gsl_instr.specs.declared.instruction.Instruction.TheVariants as instruction
use Rattle.gsl_blocks.specs.Around.{outside}
use Rattle.gsl_valid.specs.FunctionRules.{gives, is_local_of}
use Rattle.gsl_valid.specs.Ids.{defined, result}
use Rattle.gsl_valid.specs.Instruction.{read}
use Rattle.gsl_valid.specs.Placed.{Code}
use Rattle.gsl_valid.specs.Types.{defined_as, outside_of, parameters_of, target_of}
use Rattle.gsl_fitting.specs.Fits.{Fits, In}

-- the ids that some code defines
abbrev pub ids_of : Code → List ℕ
ids_of [] = []
ids_of (i ∷ code) = option_to_list (result (read i)) ++ ids_of code

-- These instructions are parameters of these types.
pub data AreParameters (m : Module) : List ℕ → Code → Type 0 where
  none : AreParameters m [] []
  one : {type : ℕ} {types : List ℕ} {i : Instr} {code : Code} (id : ℕ) → read i ≡ Some (instruction.FunctionParameter type id) → defined (outside_of m) type ≡ true
      → AreParameters m types code → AreParameters m (type ∷ types) (i ∷ code)

-- An instruction is a variable at the head of a function.
pub record IsLocal (m : Module) (i : Instr) : Type 0 where
  pub type : ℕ
  pub id : ℕ
  pub initialiser : List ℕ
  pub reads : read i ≡ Some (instruction.Variable type id storage_class.FUNCTION initialiser)
  pub holds : is_local_of m storage_class.FUNCTION initialiser (target_of (defined_as m type)) ≡ true
  pub uses : list_all (defined (outside_of m)) (type ∷ initialiser) ≡ true

-- This is the code of a function: its Function, its parameters, its first label, its variables, and blocks that fit (SPIR-V 1.0,
-- 2.4).
pub record IsFunction (m : Module) (rank : ℕ → ℕ) (code : Code) : Type 0 where
  pub type : ℕ
  pub id : ℕ
  pub function_type : ℕ
  pub label : ℕ
  pub begin : Instr
  pub parameters : Code
  pub opening : Instr
  pub variables : Code
  pub body : Code
  pub ending : Instr
  pub is : code ≡ begin ∷ (parameters ++ (opening ∷ (variables ++ (body ++ (ending ∷ [])))))
  pub begins : read begin ≡ Some (instruction.Function type id 0 function_type)
  pub result : gives type (defined_as m function_type) ≡ true
  pub uses : list_all (defined (outside_of m)) (type ∷ function_type ∷ []) ≡ true
  pub takes : AreParameters m (parameters_of (defined_as m function_type)) parameters
  pub opens : read opening ≡ Some (instruction.Label label)
  pub holds : AllByRecursion (IsLocal m) variables
  pub fits : Fits m rank (record { function = instruction.Function type id 0 function_type; id = id; first = label; own = ids_of (parameters ++ variables) }) body (In label outside [] [])
  pub ends : read ending ≡ Some instruction.FunctionEnd

-- This is the code of functions.
pub data AreFunctions (m : Module) (rank : ℕ → ℕ) : Code → Type 0 where
  none : AreFunctions m rank []
  one : {first more : Code} → IsFunction m rank first → AreFunctions m rank more → AreFunctions m rank (first ++ more)
