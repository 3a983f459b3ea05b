-- What draws, draws whatever the choices are.
use Rattle.std.proofs.Common.{◌≡◌, refl, ap, ◌∙◌, ℕ, zero, suc, ◌+◌, ◌≤◌, ◌⊎◌, inl, inr, List, [], ◌∷◌, length, map, Option, Some, None, arith}
use Rattle.std.specs.Prelude.{Bool, true, false}
use Rattle.gsl_values.specs.declared.value.Value.{Value}
use Rattle.gsl_values.specs.declared.op.BinaryOp.{BinaryOp}
use Rattle.gsl_values.specs.declared.op.BinaryOp.TheVariants as op
use Rattle.gsl_values.specs.declared.function.Builtin.{Builtin}
use Rattle.gsl_values.specs.declared.function.Builtin.TheVariants as fn
use Rattle.gsl_values.specs.Choices.{answer}
use Rattle.gsl_values.specs.Operators.{binary_answer, binary_word, is_free}
use Rattle.gsl_values.specs.Vectors.{binary_each}
use Rattle.gsl_values.specs.Functions.{builtin_answer}
use Rattle.gsl_tree.specs.Drawing.{Drawing, given, strays, behind, ◌>>=◌, drawn, checked}
use Rattle.gsl_tree.specs.Operations.{binary_value, binary_words, builtin_each, builtin_value, builtin_words, component_at, of_words}
use Rattle.gsl_tree.specs.Values.{components_in, of_components}
use Rattle.gsl_fold.specs.Laws.{DrawsAlways, GivesAlways}

-- It gives the same whatever the choices are and draws none, or it draws whatever they are; and no choice is put back.
pub record Steady {A : Type 0} (d : Drawing A) : Type 0 where
  pub either : ((found : Option A) × GivesAlways d found) ⊎ DrawsAlways d
  pub fewer : (choices : List ℕ) → length (d choices).1 ≤ length choices

pub always : {A : Type 0} (d : Drawing A) (found : Option A) → GivesAlways d found → Steady d
always d found is = record { either = inl (found, is); fewer = λ choices. omega (arith, ap (λ r. length r.1) (is choices)) }

pub steady_given : {A : Type 0} (a : A) → Steady (given a)
steady_given a = always (given a) (Some a) (λ choices. refl)

pub steady_strays : {A : Type 0} → Steady {A = A} strays
steady_strays = always strays None (λ choices. refl)

pub steady_checked : {A : Type 0} (found : Option A) → Steady (checked found)
steady_checked found = always (checked found) found (λ choices. refl)

-- ---- one behind the other

module _ {A B : Type 0} (d : Drawing A) (next : A → Drawing B) (first : Steady d) (rest : (a : A) → Steady (next a)) where
  fewer_behind : (r : Option A × List ℕ) → length (behind r next).1 ≤ length r.1
  fewer_behind (Some a, choices) = (rest a).fewer choices
  fewer_behind (None, choices) = omega arith

  fewer_both : (choices : List ℕ) → length ((d >>= next) choices).1 ≤ length choices
  fewer_both choices = omega (arith, fewer_behind (d choices), first.fewer choices)

  moved : (a : A) → GivesAlways d (Some a) → (choices : List ℕ) → (d >>= next) choices ≡ next a choices
  moved a is choices = ap (λ r. behind r next) (is choices)

  by_next : (a : A) → GivesAlways d (Some a) → ((found : Option B) × GivesAlways (next a) found) ⊎ DrawsAlways (next a) → ((found : Option B) × GivesAlways (d >>= next) found) ⊎ DrawsAlways (d >>= next)
  by_next a is (inl gives) = inl (gives.0, λ choices. moved a is choices ∙ gives.1 choices)
  by_next a is (inr draws) = inr (λ choice choices. omega (arith, ap (λ r. length r.1) (moved a is (choice ∷ choices)), draws choice choices))

  by_first : ((found : Option A) × GivesAlways d found) ⊎ DrawsAlways d → ((found : Option B) × GivesAlways (d >>= next) found) ⊎ DrawsAlways (d >>= next)
  by_first (inl (Some a, is)) = by_next a is (rest a).either
  by_first (inl (None, is)) = inl (None, λ choices. ap (λ r. behind r next) (is choices))
  by_first (inr draws) = inr (λ choice choices. omega (arith, fewer_behind (d (choice ∷ choices)), draws choice choices))

  pub steady_bind : Steady (d >>= next)
  steady_bind = record { either = by_first first.either; fewer = fewer_both }

-- ---- operations on words

steady_answer : (free : Bool) (word : ℕ) → Steady (drawn (answer free word))
steady_answer true word = record { either = inr (λ choice choices. omega arith); fewer = few }
  where
    few : (choices : List ℕ) → length (drawn (answer true word) choices).1 ≤ length choices
    few [] = omega arith
    few (choice ∷ choices) = omega arith
steady_answer false word = always (drawn (answer false word)) (Some word) (λ choices. refl)

steady_binary_answer : (o : BinaryOp) (signed : Bool) (a b : ℕ) → Steady (drawn (binary_answer o signed a b))
unfolding binary_answer
steady_binary_answer o signed a b = steady_answer (is_free o signed a b) (binary_word o signed a b)

steady_binary_each : (o : BinaryOp) (signed : Bool) (xs ys : List ℕ) → Steady (drawn (binary_each o signed xs ys))
steady_binary_each o signed [] ys = always (drawn (binary_each o signed [] ys)) (Some []) (λ choices. refl)
steady_binary_each o signed (x ∷ xs) [] = always (drawn (binary_each o signed (x ∷ xs) [])) (Some []) (λ choices. refl)
steady_binary_each o signed (x ∷ xs) (y ∷ ys) =
    steady_bind (drawn (binary_answer o signed x y)) (λ w. drawn (binary_each o signed xs ys) >>= (λ ws. given (w ∷ ws))) (steady_binary_answer o signed x y)
    (λ w. steady_bind (drawn (binary_each o signed xs ys)) (λ ws. given (w ∷ ws)) (steady_binary_each o signed xs ys) (λ ws. steady_given (w ∷ ws)))

-- words that are drawn, as a value
steady_words : (draw : List ℕ → List ℕ × List ℕ) → Steady (drawn draw) → Steady (drawn (λ choices. of_words (draw choices)))
steady_words draw is = steady_bind (drawn draw) (λ ws. given (of_components ws)) is (λ ws. steady_given (of_components ws))

steady_binary_words : (o : BinaryOp) (signed : Bool) (a b : Value) → Steady (drawn (λ choices. of_words (binary_words o signed (components_in a) (components_in b) choices)))
steady_binary_words o signed a b = steady_words (binary_words o signed (components_in a) (components_in b)) (steady_binary_each o signed _ _)

pub steady_binary : (o : BinaryOp) (signed : Bool) (a b : Value) → Steady (drawn (binary_value o signed a b))
steady_binary op.Equal signed a b = always (drawn (binary_value op.Equal signed a b)) _ (λ choices. refl)
steady_binary op.Unequal signed a b = always (drawn (binary_value op.Unequal signed a b)) _ (λ choices. refl)
steady_binary o signed a b = steady_binary_words o signed a b

-- ---- built-in functions

steady_builtin_answer : (f : Builtin) (signed : Bool) (args : List ℕ) → Steady (drawn (builtin_answer f signed args))
unfolding builtin_answer
steady_builtin_answer f signed args = steady_answer _ _

steady_builtin_each : (f : Builtin) (signed : Bool) (args : List (List ℕ)) (count from : ℕ) → Steady (drawn (builtin_each f signed args count from))
steady_builtin_each f signed args zero from = always (drawn (builtin_each f signed args zero from)) (Some []) (λ choices. refl)
steady_builtin_each f signed args (suc count) from =
    steady_bind (drawn (builtin_answer f signed (map (component_at from) args))) (λ w. drawn (builtin_each f signed args count (from + 1)) >>= (λ ws. given (w ∷ ws)))
    (steady_builtin_answer f signed (map (component_at from) args))
    (λ w. steady_bind (drawn (builtin_each f signed args count (from + 1))) (λ ws. given (w ∷ ws)) (steady_builtin_each f signed args count (from + 1)) (λ ws. steady_given (w ∷ ws)))

steady_builtin_words : (f : Builtin) (signed : Bool) (args : List (List ℕ)) → Steady (drawn (builtin_words f signed args))
steady_builtin_words fn.Any signed args = always (drawn (builtin_words fn.Any signed args)) _ (λ choices. refl)
steady_builtin_words fn.All signed args = always (drawn (builtin_words fn.All signed args)) _ (λ choices. refl)
steady_builtin_words f signed args = steady_words (builtin_each f signed args _ 0) (steady_builtin_each f signed args _ 0)

pub steady_builtin : (f : Builtin) (signed : Bool) (args : List Value) → Steady (drawn (builtin_value f signed args))
steady_builtin f signed args = steady_builtin_words f signed (map components_in args)
