-- Functions in a module, and what is asked of their blocks.
use Rattle.std.specs.Prelude.{◌≡◌, ℕ, ◌≤◌, Bool, true, false, ◌==◌, not, List, [], ◌++◌}
use Rattle.std.specs.List.{AllByRecursion}
use Rattle.gsl_words.specs.declared.module.Module.{Module}
use Rattle.gsl_instr.specs.declared.enumerant.storage_class.TheConstants as storage_class
use Rattle.gsl_blocks.specs.declared.block.Block.{Block}
use Rattle.gsl_blocks.specs.Order.{IsOrdered}
use Rattle.gsl_valid.specs.CallRules.{most_calls}
use Rattle.gsl_valid.specs.IdsDefinedOnce.{defines_once}
use Rattle.gsl_valid.specs.Instruction.{read}
use Rattle.gsl_valid.specs.Kinds as kinds
use Rattle.gsl_valid.specs.Kinds.{Kind, kind}
use Rattle.gsl_valid.specs.LimitRules.{most_constructs}
use Rattle.gsl_valid.specs.Placed.{Code}
use Rattle.gsl_valid.specs.Search.{Passes, Test, passed}
use Rattle.gsl_valid.specs.Sections.{may_come}
use Rattle.gsl_valid.specs.Where.{where_at, functions as functions_section}
use Rattle.gsl_fitting.specs.Functions.{AreFunctions}

-- Blocks are in order, and constructs stand within each other no deeper than they may.
pub record AreOrdered (bs : List Block) : Type 0 where
  pub deepest : ℕ
  pub ordered : IsOrdered bs deepest
  pub low : deepest ≤ most_constructs

-- whether an instruction stands outside functions: in none of them, and it is no variable of one
abbrev pub is_outer : Kind → Bool
is_outer kinds.Asks = true
is_outer kinds.Imports = true
is_outer kinds.Sets = true
is_outer (kinds.Enters model function name interface) = true
is_outer (kinds.Modes function mode parts) = true
is_outer kinds.Debugs = true
is_outer (kinds.Decorates d) = true
is_outer (kinds.Declares shape) = true
is_outer (kinds.Fixes type value) = true
is_outer (kinds.Holds v) = not (v.class == storage_class.FUNCTION)
is_outer _ = false

-- A module is this code, in which nothing stands in a function and behind which functions may come, and these functions, whose calls do
-- not nest too deeply, and each id is defined once.
pub record Stands (m : Module) (rank : ℕ → ℕ) (front functions : Code) : Type 0 where
  pub is : m.instrs ≡ front ++ functions
  pub outer : AllByRecursion (λ i. is_outer (kind (read i)) ≡ true) front
  pub each : AreFunctions m rank functions
  pub shallow : (id : ℕ) → rank id ≤ most_calls
  pub section : may_come (where_at m (passed [] front)).section functions_section ≡ true
  pub once : Passes (defines_once m.bound) [] m.instrs

-- The functions of each such module pass the test of a rule.
abbrev pub FunctionsPass : (Module → Test) → Type 0
FunctionsPass test = (m : Module) (rank : ℕ → ℕ) (front functions : Code) → Stands m rank front functions → Passes (test m) (passed [] front) functions
