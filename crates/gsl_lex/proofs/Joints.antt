-- A word that is one text and one of others is one of the words that they make.
use Rattle.std.proofs.Common.{◌≡◌, ℕ, Bool, true, false, cond, ◌&&◌, ◌||◌, List, [], ◌∷◌, ◌++◌, map, Option, Some, None, refl, ap, sym, ◌∙◌, eqb, inl, inr}
use Rattle.std.specs.Str.{bytes_eq}
use Rattle.std.proofs.lemmas.Bool.{eq-eqb, ne_eqb, eqb-true, eqb-false, cases_Bool}
use Rattle.gsl_base.specs.Prefix.{after}
use Rattle.gsl_lex.specs.Refused.{joined, alone, refused, matrices, matrix_sizes, opaques, opaque_kinds, shadow_samplers, shadow_kinds}
use Rattle.gsl_lex.specs.Tables.{among, is_refused}
use Rattle.gsl_lex.specs.Searching.{among_after, is_joint, of_family}

eqb-sym : (a b : ℕ) → eqb a b ≡ eqb b a
eqb-sym a b =
    elim (cases_Bool (eqb a b)) [
      | inl same ↦ same ∙ sym (eq-eqb b a (sym (eqb-true a b same)))
      | inr other ↦ other ∙ sym (ne_eqb b a (λ same. eqb-false a b other (sym same)))
    ]

among-append : (xs ys : List (List ℕ)) (w : List ℕ) → among (xs ++ ys) w ≡ (among xs w || among ys w)
among-append [] ys w = refl
among-append (x ∷ xs) ys w =
    elim (bytes_eq x w) as (λ b. cond b true (among (xs ++ ys) w) ≡ (cond b true (among xs w) || among ys w)) [ true ↦ refl | false ↦ among-append xs ys w ]

eq_after : List ℕ → Option (List ℕ) → Bool
eq_after tail None = false
eq_after tail (Some rest) = bytes_eq tail rest

eq_both : (tail : List ℕ) (b : Bool) (rest : Option (List ℕ)) → eq_after tail (cond b rest None) ≡ (b && eq_after tail rest)
unfolding eq_after
eq_both tail true rest = refl
eq_both tail false rest = refl

eq_joint : (head tail w : List ℕ) → bytes_eq (head ++ tail) w ≡ eq_after tail (after head w)
unfolding eq_after
eq_joint [] tail w = refl
eq_joint (a ∷ head) tail [] = refl
eq_joint (a ∷ head) tail (b ∷ w) =
    ap (λ same. same && bytes_eq (head ++ tail) w) (eqb-sym a b) ∙ ap (λ more. eqb b a && more) (eq_joint head tail w) ∙ sym (eq_both tail (eqb b a) (after head w))

none_after : (found : Option (List ℕ)) → false ≡ among_after [] found
none_after None = refl
none_after (Some rest) = refl

one_after : (tail : List ℕ) (tails : List (List ℕ)) (found : Option (List ℕ)) → cond (eq_after tail found) true (among_after tails found) ≡ among_after (tail ∷ tails) found
unfolding eq_after
one_after tail tails None = refl
one_after tail tails (Some rest) = refl

among_joint : (head : List ℕ) (tails : List (List ℕ)) (w : List ℕ) → among (map (λ tail. head ++ tail) tails) w ≡ is_joint head tails w
among_joint head [] w = none_after (after head w)
among_joint head (tail ∷ tails) w =
    ap (λ b. cond b true (among (map (λ tail. head ++ tail) tails) w)) (eq_joint head tail w)
    ∙ ap (λ more. cond (eq_after tail (after head w)) true more) (among_joint head tails w)
    ∙ one_after tail tails (after head w)

or_is : (b c : Bool) → (b || c) ≡ cond b true c
or_is true c = refl
or_is false c = refl

among_joined : (heads tails : List (List ℕ)) (w : List ℕ) → among (joined heads tails) w ≡ of_family heads tails w
among_joined [] tails w = refl
among_joined (head ∷ heads) tails w =
    among-append (map (λ tail. head ++ tail) tails) (joined heads tails) w
    ∙ ap (λ b. b || among (joined heads tails) w) (among_joint head tails w)
    ∙ ap (λ b. is_joint head tails w || b) (among_joined heads tails w)
    ∙ or_is (is_joint head tails w) _

more : (heads tails rest : List (List ℕ)) (w : List ℕ) → among (joined heads tails ++ rest) w ≡ (of_family heads tails w || among rest w)
more heads tails rest w = among-append (joined heads tails) rest w ∙ ap (λ b. b || among rest w) (among_joined heads tails w)

families : List (List ℕ)
families = joined matrices matrix_sizes ++ (joined opaques opaque_kinds ++ joined shadow_samplers shadow_kinds)

families_are : (w : List ℕ) → among families w ≡ (of_family matrices matrix_sizes w || (of_family opaques opaque_kinds w || of_family shadow_samplers shadow_kinds w))
unfolding families
families_are w =
    more matrices matrix_sizes (joined opaques opaque_kinds ++ joined shadow_samplers shadow_kinds) w
    ∙ ap (λ b. of_family matrices matrix_sizes w || b)
    (more opaques opaque_kinds (joined shadow_samplers shadow_kinds) w
    ∙ ap (λ b. of_family opaques opaque_kinds w || b) (among_joined shadow_samplers shadow_kinds w))

-- a refused word stands alone, or is one of the three families
pub refused_is : (w : List ℕ) → is_refused w ≡ (among alone w || (of_family matrices matrix_sizes w || (of_family opaques opaque_kinds w || of_family shadow_samplers shadow_kinds w)))
unfolding is_refused refused families
refused_is w = among-append alone families w ∙ ap (λ b. among alone w || b) (families_are w)
