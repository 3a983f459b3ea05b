-- The weight of a program, and how large its module is for it.
use Rattle.std.specs.Prelude.{ℕ, ◌+◌, ◌-◌, ◌*◌, ◌≤◌, List, [], ◌∷◌, length}
use Rattle.gsl_words.specs.declared.module.Module.{Module}
use Rattle.gsl_valid.specs.Placed.{count_of_words}
use Rattle.gsl_form.specs.declared.program.Term.{Term}
use Rattle.gsl_form.specs.declared.program.Statement.{Statement}
use Rattle.gsl_form.specs.declared.program.Program.{Program}

-- 1 for each term, a name or a literal, and 1 for each sum of two
abbrev pub sum_weight : List Term → ℕ
sum_weight terms = length terms + (length terms - 1)

-- 1 for the statement, 1 for its assignment, 1 for the target's name, and the sum's
abbrev pub statement_weight : Statement → ℕ
statement_weight s = 3 + sum_weight s.terms

-- the weight of statements together
abbrev pub statements_weight : List Statement → ℕ
statements_weight [] = 0
statements_weight (s ∷ statements) = statement_weight s + statements_weight statements

-- 1 for the block, 1 for each of its members, 1 for `main`, and its statements'
abbrev pub weight : Program → ℕ
weight p = 2 + length p.members + statements_weight p.statements

-- how many ids a module has
abbrev pub count_of_ids : Module → ℕ
count_of_ids m = m.bound - 1

-- The module is small for the program.
pub record IsSmall (m : Module) (p : Program) : Type 0 where
  pub ids : count_of_ids m ≤ 20 * weight p + 4096
  pub words : count_of_words m ≤ 400 * weight p + 4096
