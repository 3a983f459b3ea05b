-- Lists put one behind the other.
use Rattle.std.proofs.Common.{◌≡◌, refl, sym, ap, ◌∙◌, ℕ, zero, suc, ◌+◌, List, [], ◌∷◌, ◌++◌, map, drop, append_assoc, append-nil}
use Rattle.std.specs.Prelude.{slice_get, Some, None}
use Rattle.std.proofs.Math.Numerals.{add-one}
use Rattle.std.specs.List.{flat_map}
use Rattle.std.proofs.lemmas.List.Concat.{flat_map-cons}
use Rattle.gsl_link_calls.specs.Calls.{Call, together}
use Rattle.gsl_link_calls.specs.Gathering.{in_turn}

module _ {A B : Type 0} (f : B → List A) where
  pub in_turn_is : (put : List A → B → List A) → ((l : List A) (b : B) → put l b ≡ l ++ f b) → (l : List A) (bs : List B) → in_turn put l bs ≡ l ++ flat_map f bs
  in_turn_is put is l [] = sym (append-nil l)
  in_turn_is put is l (b ∷ bs) =
      in_turn_is put is (put l b) bs ∙ ap (λ x. x ++ flat_map f bs) (is l b) ∙ append_assoc l (f b) (flat_map f bs) ∙ ap (λ x. l ++ x) (sym (flat_map-cons f b bs))

  pub flat_one : (b : B) → flat_map f (b ∷ []) ≡ f b
  flat_one b = flat_map-cons f b [] ∙ append-nil (f b)

  pub flat_both : (a b : List B) → flat_map f (a ++ b) ≡ flat_map f a ++ flat_map f b
  flat_both [] b = refl
  flat_both (x ∷ a) b =
      flat_map-cons f x (a ++ b) ∙ ap (λ l. f x ++ l) (flat_both a b) ∙ sym (append_assoc (f x) (flat_map f a) (flat_map f b))
      ∙ ap (λ l. l ++ flat_map f b) (sym (flat_map-cons f x a))

  pub flat_is : (bs : List B) → flat_map (λ (l : List A). l) (map f bs) ≡ flat_map f bs
  flat_is [] = refl
  flat_is (b ∷ bs) = flat_map-cons (λ (l : List A). l) (f b) (map f bs) ∙ ap (λ l. f b ++ l) (flat_is bs) ∙ sym (flat_map-cons f b bs)

module _ {B : Type 0} (f : B → List Call) where
  pub together_is : (bs : List B) → together (map f bs) ≡ flat_map f bs
  together_is [] = refl
  together_is (b ∷ bs) = ap (λ l. f b ++ l) (together_is bs) ∙ sym (flat_map-cons f b bs)

module _ {A : Type 0} where
  pub one : (a : List A) → a ++ [] ≡ a
  one a = append-nil a

  pub two : (l a b : List A) → l ++ (a ++ (b ++ [])) ≡ (l ++ a) ++ b
  two l a b = ap (λ x. l ++ (a ++ x)) (append-nil b) ∙ sym (append_assoc l a b)

  pub three : (l a b c : List A) → l ++ (a ++ (b ++ (c ++ []))) ≡ ((l ++ a) ++ b) ++ c
  three l a b c = ap (λ x. l ++ (a ++ (b ++ x))) (append-nil c) ∙ sym (append_assoc l a (b ++ c)) ∙ sym (append_assoc (l ++ a) b c)

  abbrev same : List A → List A
  same l = l

  pub one_flat : (a : List A) → flat_map same (a ∷ []) ≡ a
  one_flat a = flat_map-cons same a [] ∙ append-nil a

  both_flat : (a b : List A) → flat_map same (a ∷ b ∷ []) ≡ a ++ b
  both_flat a b = flat_map-cons same a (b ∷ []) ∙ ap (λ l. a ++ l) (one_flat b)

  pub two_flat : (l a b : List A) → l ++ flat_map same (a ∷ b ∷ []) ≡ (l ++ a) ++ b
  two_flat l a b = ap (λ x. l ++ x) (both_flat a b) ∙ sym (append_assoc l a b)

  pub three_flat : (l a b c : List A) → l ++ flat_map same (a ∷ b ∷ c ∷ []) ≡ ((l ++ a) ++ b) ++ c
  three_flat l a b c =
      ap (λ x. l ++ x) (flat_map-cons same a (b ∷ c ∷ []) ∙ ap (λ x. a ++ x) (both_flat b c)) ∙ sym (append_assoc l a (b ++ c)) ∙ sym (append_assoc (l ++ a) b c)

  pub with_front : (l : List A) (a : A) (rest : List A) → l ++ (a ∷ rest) ≡ (l ++ a ∷ []) ++ rest
  with_front l a rest = sym (append_assoc l (a ∷ []) rest)

  pub if_one : (l a b : List A) → l ++ (a ++ (b ++ [])) ≡ (l ++ a) ++ b
  if_one l a b = two l a b

  pub if_two : (l a b c : List A) → l ++ (a ++ (b ++ c)) ≡ ((l ++ a) ++ b) ++ c
  if_two l a b c = sym (append_assoc l a (b ++ c)) ∙ sym (append_assoc (l ++ a) b c)

  pub loop : (l a b c : List A) → l ++ ((a ++ b) ++ c) ≡ ((l ++ a) ++ b) ++ c
  loop l a b c = ap (λ x. l ++ x) (append_assoc a b c) ∙ if_two l a b c

-- the items from a number on are the item of that number and those behind it
pub drop_at : {A : Type 0} (items : List A) (k : ℕ) (a : A) → slice_get items k ≡ Some a → drop k items ≡ a ∷ drop (suc k) items
drop_at [] k a e = absurd (cc)
drop_at (b ∷ items) zero a e = let is : b ≡ a = cc in ap (λ x. x ∷ items) is
drop_at (b ∷ items) (suc k) a e = drop_at items k a e

-- one more item is put
pub turn_step : {A B : Type 0} (put : List A → B → List A) (list next : List A) (items : List B) (k : ℕ) (b : B) (all : List A) → slice_get items k ≡ Some b → next ≡ put list b
    → in_turn put list (drop k items) ≡ all → in_turn put next (drop (k + 1) items) ≡ all
turn_step put list next items k b all here added so_far =
    ap (λ l. in_turn put l (drop (k + 1) items)) added ∙ ap (λ j. in_turn put (put list b) (drop j items)) (add-one k) ∙ sym (ap (in_turn put list) (drop_at items k b here)) ∙ so_far
