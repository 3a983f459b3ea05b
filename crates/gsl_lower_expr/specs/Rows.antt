-- Rows of parts, by what is known of them alone.
use Rattle.std.specs.Prelude.{ℕ, ◌+◌, Bool, true, false, nat_lt, List, [], ◌∷◌}
use Rattle.gsl_types.specs.declared.ty.Ty.{Ty}
use Rattle.gsl_values.specs.declared.function.Builtin.{Builtin}
use Rattle.gsl_tree.specs.Shapes.{shape_of}
use Rattle.gsl_tree.specs.Trees.{type_of}
use Rattle.gsl_tree.specs.declared.expr.Expr.{Expr}
use Rattle.gsl_lower_values.specs.Builtins.{called}
use Rattle.gsl_lower_values.specs.Constructors.{operand}
use Rattle.gsl_lower_values.specs.declared.operand.Operand.{Operand}
use Rattle.gsl_lower_holders.specs.Flow.{Emit, ◌>>=◌, given, lift}
use Rattle.gsl_lower_expr.specs.Parts.{built_from, shape_or}
use Rattle.gsl_lower_traits.specs.Traits.{traits_of}
use Rattle.gsl_lower_holders.specs.Waiting.{fetch}

-- ---- which have labels

abbrev pub one_if : Bool → ℕ
one_if true = 1
one_if false = 0

abbrev pub own_split : Expr → ℕ
own_split e = one_if (traits_of e).splits

-- how many have labels
abbrev pub count_splits : List Expr → ℕ
count_splits [] = 0
count_splits (e ∷ es) = own_split e + count_splits es

abbrev pub waits_for : List Expr → Bool
waits_for es = nat_lt 0 (count_splits es)

-- ---- operands

-- values again, from what stands for them
unfoldable pub fetches_all : List Expr → List ℕ → Emit (List ℕ)
fetches_all (e ∷ es) (kept ∷ others) = fetch (waits_for es) (type_of e) kept >>= (λ x. fetches_all es others >>= (λ more. given (x ∷ more)))
fetches_all _ _ = given []

abbrev pub typed_all : List Expr → List ℕ → List Operand
typed_all (e ∷ es) (id ∷ ids) = operand (shape_or (type_of e)) id ∷ typed_all es ids
typed_all _ _ = []

abbrev pub called_with : Builtin → List Expr → List ℕ → Emit ℕ
called_with which args kept = fetches_all args kept >>= (λ ids. lift (called which (typed_all args ids)))

abbrev pub constructed_with : Ty → List Expr → List ℕ → Emit ℕ
constructed_with t args kept = fetches_all args kept >>= (λ ids. built_from t (shape_of t) ids (typed_all args ids))
