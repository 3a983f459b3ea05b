-- Valid modules: those of the known version whose instructions fit the table and that keep the rules V1 to V18.
use Rattle.std.specs.Prelude.{◌≡◌, ℕ, ◌⊎◌, List, [], ◌∷◌, Option, Some, None}
use Rattle.std.specs.List.{AllByRecursion}
use Rattle.gsl_words.specs.declared.module.Module.{Module}
use Rattle.gsl_words.specs.Instructions.{HasFile}
use Rattle.gsl_valid.specs.Sections.{sections}
use Rattle.gsl_valid.specs.IdsDefinedOnce.{ids_defined_once}
use Rattle.gsl_valid.specs.DefinedBeforeUse.{defined_before_use}
use Rattle.gsl_valid.specs.TypeRules.{types}
use Rattle.gsl_valid.specs.ConstantRules.{constants}
use Rattle.gsl_valid.specs.GlobalRules.{globals}
use Rattle.gsl_valid.specs.DecorationRules.{decorations}
use Rattle.gsl_valid.specs.LayoutRules.{layouts}
use Rattle.gsl_valid.specs.EntryRules.{entry}
use Rattle.gsl_valid.specs.FunctionRules.{function_shape}
use Rattle.gsl_valid.specs.CallRules.{calls}
use Rattle.gsl_valid.specs.StructureRules.{structure}
use Rattle.gsl_valid.specs.LocalityRules.{locality}
use Rattle.gsl_valid.specs.OperandRules.{operand_types}
use Rattle.gsl_valid.specs.MemoryRules.{memory}
use Rattle.gsl_valid.specs.ReturnRules.{returns}
use Rattle.gsl_valid.specs.ExtendedRules.{extended}
use Rattle.gsl_valid.specs.LimitRules.{limits}

-- A rule with its number, which gives the place of the first instruction that breaks it.
pub record Rule : Type 0 where
  pub number : ℕ
  pub broken_at : Module → Option ℕ

-- a rule by its number and its function
abbrev pub rule : ℕ → (Module → Option ℕ) → Rule
rule number broken_at = record { number = number; broken_at = broken_at }

-- V1 to V18
abbrev pub rules : List Rule
rules =
    rule 1 sections ∷ rule 2 ids_defined_once ∷ rule 3 defined_before_use ∷ rule 4 types ∷ rule 5 constants ∷ rule 6 globals
    ∷ rule 7 decorations ∷ rule 8 layouts ∷ rule 9 entry ∷ rule 10 function_shape ∷ rule 11 calls ∷ rule 12 structure
    ∷ rule 13 locality ∷ rule 14 operand_types ∷ rule 15 memory ∷ rule 16 returns ∷ rule 17 extended ∷ rule 18 limits ∷ []

-- what is broken by a rule, or else later
abbrev pub broken_or : Option (ℕ × ℕ) → ℕ → Option ℕ → Option (ℕ × ℕ)
broken_or later number None = later
broken_or later number (Some place) = Some (number, place)

-- the first of some rules that a module breaks
abbrev pub broken_of : List Rule → Module → Option (ℕ × ℕ)
broken_of [] m = None
broken_of (rule ∷ rules) m = broken_or (broken_of rules m) rule.number (rule.broken_at m)

-- the number of the least rule that a module breaks, and the place of the first instruction that breaks it
abbrev pub broken : Module → Option (ℕ × ℕ)
broken m = broken_of rules m

-- The module is valid.
pub record Valid (m : Module) : Type 0 where
  pub file : HasFile m
  pub kept : broken m ≡ None

-- The module keeps each of the rules.
abbrev pub KeepsEach : Module → Type 0
KeepsEach m = AllByRecursion (λ rule. rule.broken_at m ≡ None) rules

-- Of some rules the first that the module breaks has this number, and this is its place.
abbrev pub IsFirstOf : List Rule → Module → ℕ → ℕ → Type 0
IsFirstOf [] m number place = ⊥
IsFirstOf (rule ∷ rules) m number place =
    ((rule.number ≡ number) × (rule.broken_at m ≡ Some place)) ⊎ ((rule.broken_at m ≡ None) × IsFirstOf rules m number place)
