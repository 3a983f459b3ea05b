-- A block comment, as a reader from left to right knows it.
use Rattle.std.proofs.Common.{◌≡◌, ℕ, Bool, true, false, cond, ◌&&◌, ◌||◌, List, [], ◌∷◌, ◌++◌, refl, ap, sym, ◌∙◌, eqb}
use Rattle.std.proofs.lemmas.Bool.{and_parts, or_parts, eqb-true, cond-false, true≢false}
use Rattle.gsl_lex.specs.Bytes.{first_of}
use Rattle.gsl_lex.specs.Pieces.{has_close, IsBlockComment}

abbrev pub ends : List ℕ → Bool
ends [] = true
ends (a ∷ bytes) = false

-- whether `*/` ends the bytes and stands in them nowhere else, one byte before them counted
abbrev pub closes : ℕ → List ℕ → Bool
closes before [] = false
closes before (a ∷ bytes) = cond (eqb before 42 && eqb a 47) (ends bytes) (closes a bytes)

abbrev pub is_block_comment : List ℕ → Bool
is_block_comment [] = false
is_block_comment (a ∷ []) = false
is_block_comment (a ∷ b ∷ bytes) = eqb a 47 && eqb b 42 && closes 0 bytes

pub ends_is : (bytes : List ℕ) → ends bytes ≡ true → bytes ≡ []
ends_is [] e = refl
ends_is (b ∷ bytes) e = absurd (true≢false (sym e))

-- What is inside, where the byte before counts.
pub record Inside (before : ℕ) (bytes : List ℕ) : Type 0 where
  pub inside : List ℕ
  pub spelled : before ∷ bytes ≡ inside ++ 42 ∷ 47 ∷ []
  pub first : has_close (inside ++ 42 ∷ []) ≡ false

same_first : (inside : List ℕ) → first_of (inside ++ 42 ∷ []) ≡ first_of (inside ++ 42 ∷ 47 ∷ [])
same_first [] = refl
same_first (a ∷ inside) = refl

or_none : (x y : Bool) → x ≡ false → y ≡ false → (x || y) ≡ false
or_none true y off none = absurd (true≢false off)
or_none false y off none = none

closes_is : (before : ℕ) (bytes : List ℕ) → closes before bytes ≡ true → Inside before bytes
closes_is before [] e = absurd (true≢false (sym e))
closes_is before (a ∷ bytes) e =
    elim (eqb before 42 && eqb a 47) as (λ b. (eqb before 42 && eqb a 47) ≡ b → cond b (ends bytes) (closes a bytes) ≡ true → Inside before (a ∷ bytes)) [
      | true ↦ λ here over.
          let parts = and_parts (eqb before 42) _ here in
          let one : before ≡ 42 = eqb-true before 42 parts.0 in
          let two : a ≡ 47 = eqb-true a 47 parts.1 in
          let none : bytes ≡ [] = ends_is bytes over in
          record { inside = []; spelled = cc; first = refl }
      | false ↦ λ here more.
          let later = closes_is a bytes more in
          let next : first_of (later.inside ++ 42 ∷ []) ≡ a = same_first later.inside ∙ sym (ap first_of later.spelled) in
          record {
            inside = before ∷ later.inside;
            spelled = ap (λ t. before ∷ t) later.spelled;
            first = or_none _ _ (ap (λ n. eqb before 42 && eqb n 47) next ∙ here) later.first;
          }
    ] refl e

closes_from : (before : ℕ) (inside : List ℕ) → has_close (before ∷ (inside ++ 42 ∷ [])) ≡ false → closes before (inside ++ 42 ∷ 47 ∷ []) ≡ true
closes_from before [] none = elim (eqb before 42) as (λ b. cond (b && false) (ends (47 ∷ [])) (closes 42 (47 ∷ [])) ≡ true) [ true ↦ refl | false ↦ refl ]
closes_from before (a ∷ inside) none =
    let parts = or_parts (eqb before 42 && eqb a 47) _ none in
    cond-false _ _ _ parts.0 ∙ closes_from a inside parts.1

-- the `*` behind what is inside closes nothing
close_star : (inside : List ℕ) → has_close (inside ++ 42 ∷ []) ≡ has_close inside
close_star [] = refl
close_star (a ∷ []) = refl
close_star (a ∷ b ∷ inside) = ap (λ more. (eqb a 42 && eqb b 47) || more) (close_star (b ∷ inside))

inside_on : (bytes inside : List ℕ) → 0 ∷ bytes ≡ inside ++ 42 ∷ 47 ∷ [] → has_close (inside ++ 42 ∷ []) ≡ false → (inside : List ℕ) × (bytes ≡ inside ++ 42 ∷ 47 ∷ []) × (has_close (inside ++ 42 ∷ []) ≡ false)
inside_on bytes [] same none = absurd (cc)
inside_on bytes (a ∷ inside) same none =
    let tail : bytes ≡ inside ++ 42 ∷ 47 ∷ [] = cc in
    (inside, tail, (or_parts _ _ none).1)

inside_of : (bytes : List ℕ) (met : Inside 0 bytes) → (inside : List ℕ) × (bytes ≡ inside ++ 42 ∷ 47 ∷ []) × (has_close (inside ++ 42 ∷ []) ≡ false)
inside_of bytes met = inside_on bytes met.inside met.spelled met.first

pub block_is : (bytes : List ℕ) → is_block_comment bytes ≡ true → IsBlockComment bytes
block_is [] e = absurd (true≢false (sym e))
block_is (a ∷ []) e = absurd (true≢false (sym e))
block_is (a ∷ b ∷ bytes) e =
    let parts = and_parts (eqb a 47 && eqb b 42) _ e in
    let opened = and_parts (eqb a 47) _ parts.0 in
    let one : a ≡ 47 = eqb-true a 47 opened.0 in
    let two : b ≡ 42 = eqb-true b 42 opened.1 in
    let met = inside_of bytes (closes_is 0 bytes parts.1) in
    let rest : bytes ≡ met.0 ++ 42 ∷ 47 ∷ [] = met.1 in
    record { inside = met.0; spelled = ap (λ x. x ∷ b ∷ bytes) one ∙ ap (λ x. 47 ∷ x ∷ bytes) two ∙ ap (λ t. 47 ∷ 42 ∷ t) rest; first = sym (close_star met.0) ∙ met.2 }

pub block_from : (bytes : List ℕ) → IsBlockComment bytes → is_block_comment bytes ≡ true
block_from bytes met = ap is_block_comment met.spelled ∙ closes_from 0 met.inside (close_star met.inside ∙ met.first)
