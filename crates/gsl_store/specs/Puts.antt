-- A value that is stored in a part of another.
use Rattle.std.specs.Prelude.{ℕ, List, [], ◌∷◌, Option, set}
use Rattle.gsl_values.specs.declared.value.Value.{Value}
use Rattle.gsl_tree.specs.Operations.{member_value, value_at, with_value_at}
use Rattle.gsl_tree.specs.Values.{parts_in}
use Rattle.gsl_meaning.specs.Accesses.{with_picked}

-- where a path leads
abbrev pub put_in : Value → List ℕ → Option (List ℕ) → Value → Value
put_in old path picked v = with_value_at old path (with_picked picked (value_at old path) v)
