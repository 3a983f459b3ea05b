-- What `strip_prefix` says of bytes is what is left behind the word.
use Rattle.std.proofs.Common.{◌≡◌, ℕ, ◌+◌, Bool, true, false, cond, ◌&&◌, List, [], ◌∷◌, length, take, drop, Option, Some, None, refl, ap, sym, ◌∙◌, eqb}
use Rattle.std.specs.Option.{option_map, MatchOption}
use Rattle.std.specs.Cmp.Lexicographic.{pointwise}
use Rattle.std.specs.Borrow.{Bor}
use Rattle.std.proofs.lemmas.Bool.{cond-true, cond-false}
use Rattle.gsl_base.specs.Prefix.{after}

both : {A : Type 0} (x y : Bool) (v w : A) → cond (x && y) v w ≡ cond x (cond y v w) w
both true y v w = refl
both false y v w = refl

after_by : (head word : List ℕ) → after head word ≡ cond (pointwise eqb (take (length head) word) head) (Some (drop (length head) word)) None
after_by [] word = refl
after_by (a ∷ head) [] = refl
after_by (a ∷ head) (b ∷ word) = ap (λ rest. cond (eqb b a) rest None) (after_by head word) ∙ sym (both (eqb b a) _ _ _)

-- what `strip_prefix` says of bytes
pub stripped : (head word : List ℕ) (found : Option (Bor (List ℕ))) →
    MatchOption found (pointwise eqb (take (length head) word) head ≡ false)
    (λ rest. (pointwise eqb (take (length head) word) head ≡ true) × (rest.now ≡ drop (length head) word) × (length rest.now + length head ≡ length word)) →
    option_map (λ (rest : Bor (List ℕ)). rest.now) found ≡ after head word
stripped head word None apart = sym (after_by head word ∙ cond-false _ _ _ apart)
stripped head word (Some rest) same = ap Some same.1 ∙ sym (after_by head word ∙ cond-true _ _ _ same.0)
