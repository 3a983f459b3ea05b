-- Built-in functions of two to four arguments.
use Rattle.std.proofs.Common.{◌≡◌, refl, sym, ap, ap₂, ◌∙◌, subst, ℕ, ◌+◌, ◌<◌, ◌≤◌, Bool, true, false, ◌&&◌, ◌||◌, ◌⊎◌, inl, inr, List, [], ◌∷◌, length, Some, arith}
use Rattle.std.proofs.lemmas.Bool.{and_parts, eqb-true}
use Rattle.std.specs.Prelude.{nat_eq}
use Rattle.gsl_base.specs.declared.input.Input.{Input}
use Rattle.gsl_instr.specs.declared.enumerant.glsl_std_450.TheConstants as extended
use Rattle.gsl_types.specs.declared.ty.Scalar.{Scalar}
use Rattle.gsl_types.specs.declared.ty.Scalar.TheVariants.{Bool as Boolean, Int, Uint}
use Rattle.gsl_words.specs.declared.module.Module.{Module}
use Rattle.gsl_values.specs.declared.function.Builtin.{Builtin}
use Rattle.gsl_values.specs.declared.function.Builtin.TheVariants as f
use Rattle.gsl_values.specs.declared.op.BinaryOp.{BinaryOp}
use Rattle.gsl_values.specs.declared.op.BinaryOp.TheVariants as o
use Rattle.gsl_values.specs.declared.value.Value.{Value}
use Rattle.gsl_values.specs.Functions.{builtin_answer}
use Rattle.gsl_values.specs.Operators.{binary_answer}
use Rattle.gsl_values.specs.Vectors.{binary_each}
use Rattle.gsl_tree.specs.Operations.{Given, builtin_each, builtin_value, component_at, is_signed_scalar, of_words, spread as spread_words}
use Rattle.gsl_tree.specs.Shapes.{Shape, built_two as shape_of_two, bounded_shape, compared_shape, is_integer, is_vector, matched_shape, same_scalar, same_shape, serves_beside}
use Rattle.gsl_tree.specs.Values.{components_in, of_components}
use Rattle.gsl_machine.specs.Operations.{binary as two_operands, extend as extended_value}
use Rattle.gsl_machine.specs.State.{State}
use Rattle.gsl_spv.specs.Sections.{Sections}
use Rattle.gsl_lower_values.specs.Builtins.{bounded, built_two, compared, extend}
use Rattle.gsl_lower_values.specs.Operators.{binary_code, by_sign, spread}
use Rattle.gsl_lower_values.specs.declared.operand.Operand.{Operand}
use Rattle.gsl_lower_law.specs.Values.{IsOf, Stands}
use Rattle.gsl_lower_law.specs.Computing.{Computes}
use Rattle.gsl_lower_law_calls.proofs.Calls.{Steady, each_same, spread_at, two_each}
use Rattle.gsl_lower_law.proofs.Components.{components_of, spread_self}
use Rattle.gsl_lower_law_calls.proofs.Extended.{extend_computes, extend_grows, steadily}
use Rattle.gsl_lower_law_calls.proofs.Facts.{equal_is, greater_equal_is, greater_is, less_equal_is, less_is, steady_max, steady_min, unequal_is, when_is}
use Rattle.gsl_lower_law.proofs.Gathers.{spread_computes}
use Rattle.gsl_lower_law.proofs.Giving.{Performs}
use Rattle.gsl_lower_law.proofs.Joining.{does_then}
use Rattle.gsl_lower_law_operators.proofs.Pairs.{signed_as, two_of, two_performs}
use Rattle.gsl_lower_law.proofs.Typed.{typed_does}

-- ---- counts

or_cases : (a b : Bool) → (a || b) ≡ true → (a ≡ true) ⊎ (b ≡ true)
or_cases true b e = inl refl
or_cases false b e = inr e

pub served : (count other : ℕ) → serves_beside count other ≡ true → (other ≡ count) ⊎ (other ≡ 1)
served count other e = by (or_cases (nat_eq other count) (nat_eq other 1) e)
  where
    by : (nat_eq other count ≡ true) ⊎ (nat_eq other 1 ≡ true) → (other ≡ count) ⊎ (other ≡ 1)
    by (inl same) = inl (eqb-true other count same)
    by (inr one) = inr (eqb-true other 1 one)

pub same_count : (a b : Shape) → same_shape a b ≡ true → a.1 ≡ b.1
same_count a b e = eqb-true a.1 b.1 (and_parts (same_scalar a.0 b.0) (nat_eq a.1 b.1) e).1

module _ (m : Module) (input : Input) (whole : Sections) where
  -- the same words, where a scalar was spread
  pub spread_twice : (which : Builtin) (signed : Bool) (count : ℕ) (xs ys choices : List ℕ) → builtin_each which signed (xs ∷ spread_words count ys ∷ []) count 0 choices ≡ builtin_each which signed (xs ∷ ys ∷ []) count 0 choices
  spread_twice which signed count xs ys choices =
      each_same which signed (xs ∷ spread_words count ys ∷ []) (xs ∷ ys ∷ []) count 0 choices
      (λ k less. ap (λ c. component_at (0 + k) xs ∷ c ∷ []) (spread_at count (0 + k) ys (let h : 0 + k < count = omega (arith, less) in h)))

  pub spread_thrice : (which : Builtin) (signed : Bool) (count : ℕ) (xs ys zs choices : List ℕ)
      → builtin_each which signed (xs ∷ spread_words count ys ∷ spread_words count zs ∷ []) count 0 choices ≡ builtin_each which signed (xs ∷ ys ∷ zs ∷ []) count 0 choices
  spread_thrice which signed count xs ys zs choices =
      each_same which signed (xs ∷ spread_words count ys ∷ spread_words count zs ∷ []) (xs ∷ ys ∷ zs ∷ []) count 0 choices
      (λ k less. ap₂ (λ c d. component_at (0 + k) xs ∷ c ∷ d ∷ []) (spread_at count (0 + k) ys (let h : 0 + k < count = omega (arith, less) in h)) (spread_at count (0 + k) zs (let h : 0 + k < count = omega (arith, less) in h)))

  pub length_is : (shape : Shape) (v : Value) (is : IsOf shape v) → length (components_in v) ≡ shape.1
  length_is shape v is = ap length (ap components_in is.is ∙ components_of is.words) ∙ is.count

  module _ (a b : Operand) (v w : Value) (is_v : IsOf a.shape v) (is_w : IsOf b.shape w) (some : 1 ≤ a.shape.1) (state : State) (before : Sections) (first : Stands state.ids a.id v) (second : Stands state.ids b.id w) where
    bounded_computes : (which : Builtin) (number : Scalar → ℕ) → Steady which → ((s : Scalar) (x y : Value) → extended_value (number s) (x ∷ y ∷ []) ≡ (of_words (builtin_each which (is_signed_scalar s) (components_in x ∷ components_in y ∷ []) (length (components_in x)) 0 [])).0)
        → serves_beside a.shape.1 b.shape.1 ≡ true
        → Computes m input whole (of_words (builtin_each which (is_signed_scalar a.shape.0) (components_in v ∷ components_in w ∷ []) (length (components_in v)) 0 state.choices)) state before (bounded (number a.shape.0) a b)
    bounded_computes which number steady is serves =
        subst (λ (o : Given). Computes m input whole o state before (bounded (number a.shape.0) a b)) (sym (steadily m input whole which steady signed (components_in v ∷ components_in w ∷ []) (length (components_in v)) state.choices))
        (does_then m input whole (λ id ids. Stands ids id wide) (λ id ids. Stands ids id answer) state.choices state.choices state before (spread a.shape.1 b) (λ y. extend (number a.shape.0) (a.id ∷ y ∷ []) a.shape)
        (spread_computes m input whole a.shape.1 b w state before some is_w (served a.shape.1 b.shape.1 serves) second)
        (λ y between. extend_grows m input whole (number a.shape.0) (a.id ∷ y ∷ []) a.shape state between)
        (λ y between ids is_wide keeps. extend_computes m input whole (number a.shape.0) (a.id ∷ y ∷ []) a.shape (v ∷ wide ∷ []) answer (record state { ids = ids }) between gives (keeps.same a.id _ first, (is_wide, tt))))
      where
        signed : Bool
        signed = is_signed_scalar a.shape.0

        wide : Value
        wide = of_components (spread_words a.shape.1 (components_in w))

        answer : Value
        answer = (of_words (builtin_each which signed (components_in v ∷ components_in w ∷ []) (length (components_in v)) 0 [])).0

        gives : extended_value (number a.shape.0) (v ∷ wide ∷ []) ≡ answer
        gives =
            is a.shape.0 v wide
            ∙ ap (λ ys. (of_words (builtin_each which signed (components_in v ∷ ys ∷ []) (length (components_in v)) 0 [])).0) (components_of (spread_words a.shape.1 (components_in w)) ∙ ap (λ n. spread_words n (components_in w)) (sym (length_is a.shape v is_v)))
            ∙ ap (λ each. (of_words each).0) (spread_twice which signed (length (components_in v)) (components_in v) (components_in w) [])

    compared_computes : (which : Builtin) (operator : BinaryOp) → ((signed : Bool) (x y : ℕ) (choices : List ℕ) → builtin_answer which signed (x ∷ y ∷ []) choices ≡ binary_answer operator signed x y choices)
        → ((s : Scalar) (xs ys choices : List ℕ) → binary_each operator (signed_as operator s) xs ys choices ≡ binary_each operator (is_signed_scalar s) xs ys choices) → a.shape.1 ≡ b.shape.1
        → Computes m input whole (of_words (builtin_each which (is_signed_scalar a.shape.0) (components_in v ∷ components_in w ∷ []) (length (components_in v)) 0 state.choices)) state before (compared operator a b)
    compared_computes which operator is signs same =
        typed_does m input whole (Boolean, a.shape.1) (binary_code operator a.shape.0) (a.id ∷ b.id ∷ []) answer.0 answer.1 state before
        (λ type ids keeps typed text. subst (λ (o : Given). Performs m input (binary_code operator a.shape.0) (a.id ∷ b.id ∷ []) type (record state { ids = ids }) o.0 o.1) gives
        (two_performs m input (binary_code operator a.shape.0) (operator, signed_as operator a.shape.0) type a.id b.id v w (record state { ids = ids }) (two_of m input operator a.shape.0) (keeps.same a.id _ first) (keeps.same b.id _ second)))
      where
        xs : List ℕ
        xs = components_in v

        ys : List ℕ
        ys = components_in w

        answer : Given
        answer = of_words (builtin_each which (is_signed_scalar a.shape.0) (components_in v ∷ components_in w ∷ []) (length (components_in v)) 0 state.choices)

        lengths : length (components_in v) ≡ length (components_in w)
        lengths = length_is a.shape v is_v ∙ same ∙ sym (length_is b.shape w is_w)

        gives : two_operands (operator, signed_as operator a.shape.0) v w state.choices ≡ answer
        gives =
            ap₂ (λ p q. of_words (binary_each operator (signed_as operator a.shape.0) p q state.choices)) (spread_self (length (components_in w)) (components_in v) lengths) (spread_self (length (components_in v)) (components_in w) (sym lengths))
            ∙ ap of_words (signs a.shape.0 (components_in v) (components_in w) state.choices ∙ sym (two_each which operator (is_signed_scalar a.shape.0) (is (is_signed_scalar a.shape.0)) (components_in v) (components_in w) state.choices lengths))

    min_is : (s : Scalar) (x y : Value) → extended_value (by_sign s extended.S_MIN extended.U_MIN) (x ∷ y ∷ []) ≡ (of_words (builtin_each f.Min (is_signed_scalar s) (components_in x ∷ components_in y ∷ []) (length (components_in x)) 0 [])).0
    min_is Boolean x y = refl
    min_is Int x y = refl
    min_is Uint x y = refl

    max_is : (s : Scalar) (x y : Value) → extended_value (by_sign s extended.S_MAX extended.U_MAX) (x ∷ y ∷ []) ≡ (of_words (builtin_each f.Max (is_signed_scalar s) (components_in x ∷ components_in y ∷ []) (length (components_in x)) 0 [])).0
    max_is Boolean x y = refl
    max_is Int x y = refl
    max_is Uint x y = refl

    bounds_serve : (shape : Shape) → bounded_shape a.shape b.shape ≡ Some shape → serves_beside a.shape.1 b.shape.1 ≡ true
    bounds_serve shape e = (and_parts (is_integer a.shape.0 && same_scalar a.shape.0 b.shape.0) (serves_beside a.shape.1 b.shape.1) (when_is _ a.shape shape e)).1

    compared_same : (shape : Shape) → compared_shape a.shape b.shape ≡ Some shape → a.shape.1 ≡ b.shape.1
    compared_same shape e = same_count a.shape b.shape (and_parts (is_integer a.shape.0) (same_shape a.shape b.shape) (and_parts (is_integer a.shape.0 && same_shape a.shape b.shape) (is_vector a.shape) (when_is _ (Boolean, a.shape.1) shape e)).0).1

    matched_same : (shape : Shape) → matched_shape a.shape b.shape ≡ Some shape → a.shape.1 ≡ b.shape.1
    matched_same shape e = same_count a.shape b.shape (and_parts (same_shape a.shape b.shape) (is_vector a.shape) (when_is _ (Boolean, a.shape.1) shape e)).0

    same_equal : (s : Scalar) (xs ys choices : List ℕ) → binary_each o.Equal (signed_as o.Equal s) xs ys choices ≡ binary_each o.Equal (is_signed_scalar s) xs ys choices
    unfolding binary_answer
    same_equal s [] ys choices = refl
    same_equal s (x ∷ xs) [] choices = refl
    same_equal s (x ∷ xs) (y ∷ ys) choices = ap (λ (p : List ℕ × List ℕ). ((binary_answer o.Equal false x y choices).0 ∷ p.0, p.1)) (same_equal s xs ys choices)

    same_unequal : (s : Scalar) (xs ys choices : List ℕ) → binary_each o.Unequal (signed_as o.Unequal s) xs ys choices ≡ binary_each o.Unequal (is_signed_scalar s) xs ys choices
    unfolding binary_answer
    same_unequal s [] ys choices = refl
    same_unequal s (x ∷ xs) [] choices = refl
    same_unequal s (x ∷ xs) (y ∷ ys) choices = ap (λ (p : List ℕ × List ℕ). ((binary_answer o.Unequal false x y choices).0 ∷ p.0, p.1)) (same_unequal s xs ys choices)

    -- a built-in function of two arguments
    pub built_two_computes : (which : Builtin) (shape : Shape) → shape_of_two which a.shape b.shape ≡ Some shape → Computes m input whole (builtin_value which (is_signed_scalar a.shape.0) (v ∷ w ∷ []) state.choices) state before (built_two which a b)
    unfolding built_two
    built_two_computes f.Min shape e = bounded_computes f.Min (λ s. by_sign s extended.S_MIN extended.U_MIN) steady_min min_is (bounds_serve shape e)
    built_two_computes f.Max shape e = bounded_computes f.Max (λ s. by_sign s extended.S_MAX extended.U_MAX) steady_max max_is (bounds_serve shape e)
    built_two_computes f.LessThan shape e = compared_computes f.LessThan o.Less less_is (λ s xs ys choices. refl) (compared_same shape e)
    built_two_computes f.LessThanEqual shape e = compared_computes f.LessThanEqual o.LessEq less_equal_is (λ s xs ys choices. refl) (compared_same shape e)
    built_two_computes f.GreaterThan shape e = compared_computes f.GreaterThan o.Greater greater_is (λ s xs ys choices. refl) (compared_same shape e)
    built_two_computes f.GreaterThanEqual shape e = compared_computes f.GreaterThanEqual o.GreaterEq greater_equal_is (λ s xs ys choices. refl) (compared_same shape e)
    built_two_computes f.Equal shape e = compared_computes f.Equal o.Equal equal_is same_equal (matched_same shape e)
    built_two_computes f.NotEqual shape e = compared_computes f.NotEqual o.Unequal unequal_is same_unequal (matched_same shape e)
    built_two_computes f.Abs shape e = absurd cc
    built_two_computes f.Sign shape e = absurd cc
    built_two_computes f.Clamp shape e = absurd cc
    built_two_computes f.Mix shape e = absurd cc
    built_two_computes f.Any shape e = absurd cc
    built_two_computes f.All shape e = absurd cc
    built_two_computes f.Not shape e = absurd cc
    built_two_computes f.BitCount shape e = absurd cc
    built_two_computes f.FindLsb shape e = absurd cc
    built_two_computes f.FindMsb shape e = absurd cc
    built_two_computes f.BitfieldReverse shape e = absurd cc
    built_two_computes f.BitfieldExtract shape e = absurd cc
    built_two_computes f.BitfieldInsert shape e = absurd cc
