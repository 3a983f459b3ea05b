-- Where statements stand, and labels that are words.
use Rattle.std.specs.Prelude.{ℕ, ◌^◌, ◌<◌, List}
use Rattle.std.specs.List.{AllByRecursion}
use Rattle.gsl_tree.specs.Trees.{Exits}
use Rattle.gsl_check_stmt.specs.declared.within.Within.{Within}

-- the jumps that may stand where a statement stands
abbrev pub exits_of : Within → Exits
exits_of within = record { breaks = within.breaks; continues = within.continues }

-- numbers that are words
abbrev pub AreWords : List ℕ → Type 0
AreWords words = AllByRecursion (λ word. word < 2 ^ 32) words
