-- Loops over lists, forward and from the end to the front.
use Rattle.std.proofs.Common.{◌≡◌, sym, ap, ◌∙◌, ℕ, zero, suc, ◌+◌, ◌-◌, ◌<◌, ◌≤◌, false, if◌then◌else◌, List, [], ◌∷◌, length, drop, slice_get, Some, arith}
use Rattle.std.proofs.lemmas.Option.{slice_get_within, get_or_from_slice_get}
use Rattle.std.proofs.lemmas.List.{drop_all}
use Rattle.std.proofs.Math.Seq.{drop-cons}
use Rattle.gsl_base.specs.declared.input.Buffer.{Buffer}
use Rattle.gsl_base.specs.declared.input.Located.{Located}
use Rattle.gsl_views.specs.Buffers.{bytes_at, is_at}
use Rattle.gsl_inputs.specs.Given.{is_there, words_at}

-- the rest at a place is the item there and what is behind it
pub opened : {X : Type 0} (xs : List X) (k : ℕ) (x : X) → slice_get xs k ≡ Some x → drop k xs ≡ x ∷ drop (k + 1) xs
opened xs k x is =
    drop-cons xs k x (slice_get_within xs k x is) ∙ ap (λ y. y ∷ drop (suc k) xs) (get_or_from_slice_get xs k x x is) ∙ ap (λ n. x ∷ drop n xs) (let e : suc k ≡ k + 1 = omega arith in e)

pub bytes_on : (buffers : List Buffer) (set binding k : ℕ) (b : Buffer) → slice_get buffers k ≡ Some b → is_at set binding b ≡ false → bytes_at (drop k buffers) set binding ≡ bytes_at buffers set binding
    → bytes_at (drop (k + 1) buffers) set binding ≡ bytes_at buffers set binding
bytes_on buffers set binding k b is differs so_far =
    sym (ap (λ l. bytes_at l set binding) (opened buffers k b is) ∙ ap (λ t. if t then Some b.bytes else bytes_at (drop (k + 1) buffers) set binding) differs) ∙ so_far

pub words_on : (ins : List Located) (location k : ℕ) (v : Located) → slice_get ins k ≡ Some v → is_there location v ≡ false → words_at (drop k ins) location ≡ words_at ins location
    → words_at (drop (k + 1) ins) location ≡ words_at ins location
words_on ins location k v is differs so_far =
    sym (ap (λ l. words_at l location) (opened ins k v is) ∙ ap (λ t. if t then Some v.words else words_at (drop (k + 1) ins) location) differs) ∙ so_far

-- ---- from the end to the front

none_at : {X : Type 0} (xs : List X) (k : ℕ) → drop k xs ≡ [] → drop (k + 1) xs ≡ []
none_at [] k e = nothing_left k
  where
    nothing_left : {X : Type 0} (k : ℕ) → drop {A = X} (k + 1) [] ≡ []
    nothing_left k = let e : k + 1 ≡ suc k = omega arith in ap (λ n. drop n []) e
none_at (x ∷ xs) zero e = absurd (cc)
none_at (x ∷ xs) (suc k) e = let n : suc k + 1 ≡ suc (k + 1) = omega arith in ap (λ j. drop j (x ∷ xs)) n ∙ none_at xs k e

module _ {X : Type 0} {A : Type 0} (f : List X → A) (xs : List X) where
  pub from_end : (len at : ℕ) (a : A) → len ≡ length xs → at ≡ len → a ≡ f [] → a ≡ f (drop at xs)
  from_end len at a is same none = none ∙ ap f (sym (drop_all at xs (let e : length xs ≤ at = omega (arith, is, same) in e)))

  pub step_back : (step : X → A → A) (goes : (x : X) (rest : List X) → f (x ∷ rest) ≡ step x (f rest)) (now : ℕ) (x : X) (old new : A) → 0 < now → drop (now - 1) xs ≡ x ∷ drop (now - 1 + 1) xs
      → old ≡ f (drop now xs) → new ≡ step x old → new ≡ f (drop (now - 1) xs)
  step_back step goes now x old new some opens so_far is =
      is ∙ ap (step x) (so_far ∙ ap (λ n. f (drop n xs)) (let e : now ≡ now - 1 + 1 = omega (arith, some) in e)) ∙ sym (goes x (drop (now - 1 + 1) xs)) ∙ ap f (sym opens)

  pub none_back : (now : ℕ) (old : A) → 0 < now → drop (now - 1) xs ≡ [] → old ≡ f (drop now xs) → old ≡ f (drop (now - 1) xs)
  none_back now old some ends so_far =
      so_far ∙ ap (λ n. f (drop n xs)) (let e : now ≡ now - 1 + 1 = omega (arith, some) in e) ∙ ap f (none_at xs (now - 1) ends ∙ sym ends)

  pub at_front : (now : ℕ) (old : A) → now ≤ 0 → old ≡ f (drop now xs) → old ≡ f xs
  at_front now old none so_far = so_far ∙ ap (λ n. f (drop n xs)) (let e : now ≡ 0 = omega (arith, none) in e)
