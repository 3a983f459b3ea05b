-- Types of runs of components.
use Rattle.std.proofs.Common.{◌≡◌, refl, sym, ap, ◌∙◌, subst, ℕ, ◌≤◌, true, List, [], ◌∷◌, length, Option, Some, None, arith}
use Rattle.std.proofs.lemmas.Bool.{eqb-true, false≢true}
use Rattle.gsl_base.specs.declared.input.Input.{Input}
use Rattle.gsl_layout.specs.Layout.{Leaf}
use Rattle.gsl_words.specs.declared.module.Module.{Module}
use Rattle.gsl_valid.specs.Kinds.{Shape, OfVoid, OfBool, OfInt, OfVector, OfArray, OfRuntimeArray, OfStruct, OfPointer, OfFunction, NoType, shape_of}
use Rattle.gsl_valid.specs.Types.{Scalar, defined_as, lanes_in, lanes_with, scalar_in}
use Rattle.gsl_machine.specs.Memory.{bytes_of, parts_as, size_of}
use Rattle.gsl_machine.specs.State.{InBlock, State}
use Rattle.gsl_owed.specs.Types.{has_size, lies}
use Rattle.gsl_lower_law_bytes.specs.OfLawPlaces.{StraysFrom}
use Rattle.gsl_lower_law_bytes.specs.OfLawPlaces.{IsVectorType}
use Rattle.gsl_lower_law_bytes.proofs.OfLawPicks.{block_strays}

module _ (m : Module) where
  -- a scalar has one component
  scalar_size : (s : Shape) (scalar : Scalar) → scalar_in s ≡ Some scalar → size_of (lanes_in m s) ≡ 1
  scalar_size OfVoid scalar e = absurd cc
  scalar_size OfBool scalar e = refl
  scalar_size (OfInt signedness) scalar e = refl
  scalar_size (OfVector component count) scalar e = absurd cc
  scalar_size (OfArray inner long) scalar e = absurd cc
  scalar_size (OfRuntimeArray inner) scalar e = absurd cc
  scalar_size (OfStruct id members) scalar e = absurd cc
  scalar_size (OfPointer class pointee) scalar e = absurd cc
  scalar_size (OfFunction returned parameters) scalar e = absurd cc
  scalar_size NoType scalar e = absurd cc

  pub vector_is : (n type : ℕ) → 2 ≤ n → lies m (Leaf n) type ≡ true → (component : ℕ) × IsVectorType m type component n
  vector_is n type many = by (shape_of (defined_as m type)) refl
    where
      no_one : (size : ℕ) → (2 ≤ size) → has_size m size (Some (record { scalar = Scalar.Truths; size = 1 })) ≡ true → ⊥
      no_one size many e = let same : 1 ≡ size = eqb-true 1 size e in omega (arith, many, same)

      no_int : (size signedness : ℕ) → (2 ≤ size) → has_size m size (Some (record { scalar = Scalar.Words signedness; size = 1 })) ≡ true → ⊥
      no_int size signedness many e = let same : 1 ≡ size = eqb-true 1 size e in omega (arith, many, same)

      of_vector : (component count : ℕ) (o : Option Scalar) → scalar_in (shape_of (defined_as m component)) ≡ o → shape_of (defined_as m type) ≡ OfVector component count → has_size m n (lanes_with count o) ≡ true → (component : ℕ) × IsVectorType m type component n
      of_vector component count None scalar is e = absurd (false≢true e)
      of_vector component count (Some s) scalar is e =
          let same : count ≡ n = eqb-true count n e in (
            component,
            record {
              is = is ∙ ap (OfVector component) same;
              size = ap (λ s. size_of (lanes_in m s)) is ∙ ap (λ o. size_of (lanes_with count o)) scalar ∙ same;
              part = scalar_size (shape_of (defined_as m component)) s scalar;
            },
          )

      by : (s : Shape) → shape_of (defined_as m type) ≡ s → has_size m n (lanes_in m s) ≡ true → (component : ℕ) × IsVectorType m type component n
      by OfVoid is e = absurd (false≢true e)
      by OfBool is e = absurd (no_one n many e)
      by (OfInt signedness) is e = absurd (no_int n signedness many e)
      by (OfVector component count) is e = of_vector component count (scalar_in (shape_of (defined_as m component))) refl is e
      by (OfArray inner long) is e = absurd (false≢true e)
      by (OfRuntimeArray inner) is e = absurd (false≢true e)
      by (OfStruct id members) is e = absurd (false≢true e)
      by (OfPointer class pointee) is e = absurd (false≢true e)
      by (OfFunction returned parameters) is e = absurd (false≢true e)
      by NoType is e = absurd (false≢true e)

  pub component_strays : (input : Input) (state : State) (variable offset n type word : ℕ) (bytes : List ℕ) → 2 ≤ n → lies m (Leaf n) type ≡ true → bytes_of m input state variable ≡ Some bytes → n ≤ word → StraysFrom m input state (InBlock variable offset type) (word ∷ [])
  component_strays input state variable offset n type word bytes many lie there most =
      let vector = vector_is n type many lie in
      block_strays m input state variable offset type word bytes there (subst (λ s. parts_as m (length bytes) offset type s ≤ word) (sym vector.1.is) most)
