-- Units that the checker answers for syntax trees, and what is declared once in each of them.
use Rattle.std.specs.Prelude.{◌≡◌, List, [], ◌∷◌, filter, Ok}
use Rattle.gsl_base.specs.declared.stage.Stage.{Stage}
use Rattle.gsl_syntax.specs.declared.statement.Global.{Global}
use Rattle.gsl_tree.specs.declared.unit.TypedUnit.{TypedUnit}
use Rattle.gsl_check.specs.Units.{checked}
use Rattle.gsl_formed.specs.Formed.{IsParsed}
use Rattle.gsl_link_units.specs.Agreement.{same_function}
use Rattle.gsl_link_units.specs.Declarations.{is_shared}
use Rattle.gsl_link_units.specs.Firsts.{again}
use Rattle.gsl_link_whole.specs.Numbers.{same_block, same_interface, same_shared}

-- The units are what the checker answers for these trees, one by one, which are such as a parser gives.
abbrev pub AreAnswers : Stage → List (List Global) → List TypedUnit → Type 0
AreAnswers stage [] [] = Unit {0}
AreAnswers stage (tree ∷ trees) (unit ∷ units) = IsParsed tree × (checked stage tree ≡ Ok unit) × AreAnswers stage trees units
AreAnswers stage _ _ = ⊥

-- No two variables that are shared, no two blocks, and no two inputs and outputs of a unit have one name, and each function has one head.
pub record DeclaresOnce (unit : TypedUnit) : Type 0 where
  pub variables : again same_shared (filter is_shared unit.globals) ≡ []
  pub blocks : again same_block unit.blocks ≡ []
  pub interfaces : again same_interface unit.interfaces ≡ []
  pub heads : again same_function unit.prototypes ≡ []
