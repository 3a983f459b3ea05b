-- Several expressions together: labels in their code, and their types.
use Rattle.std.proofs.Common.{◌≡◌, refl, sym, ap, ◌∙◌, inl, inr, ◌⊎◌, ℕ, ◌-◌, ◌≤◌, Bool, true, false, ◌||◌, List, [], ◌∷◌, map, Option, Some, None, arith, unwrap_or}
use Rattle.std.specs.Prelude.{nat_lt}
use Rattle.std.proofs.lemmas.Bool.{and_parts, eqb-true}
use Rattle.gsl_tree.specs.Expressions.{is_one_scalar, shapes_with, supplies}
use Rattle.gsl_tree.specs.Shapes.{Shape}
use Rattle.gsl_lower_traits.specs.declared.traits.Traits.{Traits}
use Rattle.gsl_lower_traits.specs.Traits.{together_on, with}
use Rattle.gsl_lower_expr.specs.Parts.{Lower, any_splits, known_of}
use Rattle.gsl_lower_law_built.specs.Arguments.{components}

or_assoc : (a b c : Bool) → ((a || b) || c) ≡ (a || (b || c))
or_assoc true b c = refl
or_assoc false b c = refl

pub or_false : (a : Bool) → (a || false) ≡ a
or_false true = refl
or_false false = refl

pub or_true : (a : Bool) → (a || true) ≡ true
or_true true = refl
or_true false = refl

or_none : (a : Bool) → a ≡ (a || false)
or_none a = sym (or_false a)

-- the code of several has labels where that of one has
pub together_splits : (so_far : Traits) (es : List Lower) → (together_on so_far (map known_of es)).splits ≡ (so_far.splits || any_splits es)
together_splits so_far [] = or_none so_far.splits
together_splits so_far (e ∷ es) = together_splits (with so_far e.traits) es ∙ or_assoc so_far.splits e.traits.splits (any_splits es)

-- ---- shapes

pub shapes_cons : (x : Option Shape) (xs : Option (List Shape)) (shapes : List Shape) → shapes_with x xs ≡ Some shapes → (first : Shape) × (more : List Shape) × (x ≡ Some first) × (xs ≡ Some more) × (shapes ≡ first ∷ more)
shapes_cons (Some x) (Some xs) shapes is = (x, xs, refl, refl, ap (λ o. unwrap_or o shapes) (sym is))
shapes_cons None xs shapes is = absurd cc
shapes_cons (Some x) None shapes is = absurd cc

-- arguments that supply the components that are wanted have as many
pub supplied : (wanted : ℕ) (shapes : List Shape) → supplies wanted shapes ≡ true → wanted ≤ components shapes
supplied wanted [] is = let e = eqb-true wanted 0 is in omega (arith, e)
supplied wanted (shape ∷ shapes) is =
    let parts = and_parts (nat_lt 0 wanted) (supplies (wanted - shape.1) shapes) is in
    let rest = supplied (wanted - shape.1) shapes parts.1 in
    omega (arith, rest)

pub one_component : (shapes : List Shape) → is_one_scalar shapes ≡ true → components shapes ≡ 1
one_component (shape ∷ []) is = let e = eqb-true shape.1 1 is in omega (arith, e)
one_component [] is = absurd (let z : false ≡ true = is in cc)
one_component (a ∷ b ∷ more) is = absurd (let z : false ≡ true = is in cc)

pub or_cases : (a b : Bool) → (a || b) ≡ true → (a ≡ true) ⊎ (b ≡ true)
or_cases true b is = inl refl
or_cases false b is = inr is
