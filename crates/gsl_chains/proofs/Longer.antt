-- A table that is made again from itself tells of chains with one function more.
use Rattle.std.proofs.Common.{◌≡◌, refl, sym, ap, ◌∙◌, subst, ℕ, zero, suc, ◌+◌, ◌<◌, ◌≤◌, max, List, [], ◌∷◌, ◌++◌, map, get_or, replicate, None, inl, inr, arith}
use Rattle.std.specs.Prelude.{min}
use Rattle.std.specs.List.{range_with_len}
use Rattle.std.proofs.lemmas.Bool.{cases_lt}
use Rattle.std.proofs.lemmas.List.FromFn.{map-range_with_len_more}
use Rattle.gsl_words.specs.declared.module.Module.{Module}
use Rattle.gsl_valid.specs.IdsDefinedOnce.{ids_defined_once}
use Rattle.gsl_leaves.specs.Table.{told}
use Rattle.gsl_frames.specs.declared.taken.Taken.{Taken}
use Rattle.gsl_frames.specs.Frames.{frame, plus_told, told_taken}
use Rattle.gsl_frames.specs.Taken.{nothing_taken}
use Rattle.gsl_chains.specs.declared.chains.Row.{Row}
use Rattle.gsl_chains.specs.declared.chains.Row.TheVariants.{Slots, Variables}
use Rattle.gsl_chains.specs.Chains.{Tells, body_of, calls_of, greatest, in_chains, longer, own_rows, words_in}
use Rattle.gsl_chains.proofs.Bodies.{no_body}

pub sum_told : (a b : ℕ) → min (min (a + b) 18446744073709551615) 2305843009213693951 ≡ told (a + b)
unfolding told
sum_told a b = omega arith

pub told_sum : (a b : ℕ) → told (told a + told b) ≡ told (a + b)
unfolding told
told_sum a b = omega arith

told_max : (a b : ℕ) → max (told a) (told b) ≡ told (max a b)
unfolding told
told_max a b = omega arith

pub told_nothing : 0 ≡ told 0
unfolding told
told_nothing = refl

-- ---- rows

-- one row more
pub one_more : (f : ℕ → ℕ) (k : ℕ) (front new : List ℕ) (x : ℕ) → front ≡ map f (range_with_len 0 k) → new ≡ front ++ x ∷ [] → x ≡ f k → new ≡ map f (range_with_len 0 (k + 1))
one_more f k front new x so_far is item = is ∙ ap (λ l. l ++ x ∷ []) so_far ∙ ap (λ y. map f (range_with_len 0 k) ++ y ∷ []) item ∙ sym (map-range_with_len_more f 0 k k (omega arith))

row_in : (f : ℕ → ℕ) (from n k : ℕ) → k < n → get_or (map f (range_with_len from n)) k 0 ≡ f (from + k)
row_in f from zero k low = absurd (omega (arith, low))
row_in f from (suc n) zero low = ap f (omega arith)
row_in f from (suc n) (suc k) low = row_in f (from + 1) n k (omega (arith, low)) ∙ ap f (omega arith)

row_beyond : (f : ℕ → ℕ) (from n k : ℕ) → n ≤ k → ◌≡◌ {A = ℕ} (get_or (map f (range_with_len from n)) k 0) 0
row_beyond f from zero k over = refl
row_beyond f from (suc n) zero over = absurd (omega (arith, over))
row_beyond f from (suc n) (suc k) over = row_beyond f (from + 1) n k (omega (arith, over))

zeros : (n id : ℕ) → ◌≡◌ {A = ℕ} (get_or (replicate n 0) id 0) 0
zeros zero id = refl
zeros (suc n) zero = refl
zeros (suc n) (suc id) = zeros n id

-- ---- what rows tell

greatest_told : (f g : ℕ → ℕ) (ids : List ℕ) → ((id : ℕ) → f id ≡ told (g id)) → greatest f ids ≡ told (greatest g ids)
greatest_told f g [] each = told_nothing
greatest_told f g (id ∷ ids) each = ap (λ n. max n (greatest f ids)) (each id) ∙ ap (max (told (g id))) (greatest_told f g ids each) ∙ told_max (g id) (greatest g ids)

of_nothing : (row : Row) → words_in row nothing_taken ≡ 0
of_nothing Slots = refl
of_nothing Variables = refl

pub row_told : (row : Row) (t : Taken) → words_in row (told_taken t) ≡ told (words_in row t)
row_told Slots t = refl
row_told Variables t = refl

module _ (m : Module) (once : ids_defined_once m ≡ None) (row : Row) where
  abbrev of : Taken → ℕ
  of = words_in row

  -- with no function nothing is taken
  pub tell_none : (n : ℕ) → Tells (replicate n 0) m of 0
  unfolding in_chains
  tell_none n id = zeros n id ∙ told_nothing

  own_at : (id : ℕ) → id < m.bound → get_or (own_rows m of) id 0 ≡ told (of (frame m (body_of m id)))
  own_at id low = row_in (λ id. told (of (frame m (body_of m id)))) 0 m.bound id low ∙ ap (λ k. told (of (frame m (body_of m k)))) (omega arith)

  -- what is told of an id by rows, and what is taken below it
  abbrev each : List ℕ → List ℕ → ℕ → ℕ
  each own rows k = plus_told (get_or own k 0) (greatest (λ j. get_or rows j 0) (calls_of (body_of m k)))

  abbrev below : ℕ → ℕ → ℕ
  below more id = greatest (λ j. in_chains m of more (body_of m j)) (calls_of (body_of m id))

  pub tell_longer : (own rows : List ℕ) (more : ℕ) → own ≡ own_rows m of → Tells rows m of more → Tells (longer m own rows) m of (suc more)
  unfolding in_chains
  tell_longer own rows more is tells id = elim (cases_lt id m.bound) [
    | inl low ↦ within low
    | inr over ↦ behind over
  ]
    where
      within : id < m.bound → get_or (longer m own rows) id 0 ≡ told (of (frame m (body_of m id)) + below more id)
      within low =
          row_in (each own rows) 0 m.bound id low ∙ ap (each own rows) (let e : 0 + id ≡ id = omega arith in e)
          ∙ ap (λ n. told (n + greatest (λ j. get_or rows j 0) (calls_of (body_of m id)))) (ap (λ l. get_or l id 0) is ∙ own_at id low)
          ∙ ap (λ n. told (told (of (frame m (body_of m id))) + n)) (greatest_told (λ j. get_or rows j 0) (λ j. in_chains m of more (body_of m j)) (calls_of (body_of m id)) tells)
          ∙ told_sum (of (frame m (body_of m id))) (below more id)

      behind : m.bound ≤ id → get_or (longer m own rows) id 0 ≡ told (of (frame m (body_of m id)) + below more id)
      behind over =
          row_beyond (each own rows) 0 m.bound id over ∙ told_nothing
          ∙ ap told (let e : 0 ≡ of nothing_taken + 0 = omega (arith, of_nothing row) in e)
          ∙ ap (λ b. told (of (frame m b) + greatest (λ j. in_chains m of more (body_of m j)) (calls_of b))) (sym (no_body m once id over))

  -- a table that stays the same tells of all longer chains
  pub settled : (own rows : List ℕ) (more further : ℕ) → own ≡ own_rows m of → longer m own rows ≡ rows → Tells rows m of more → Tells rows m of (more + further)
  settled own rows more zero is same tells = subst (Tells rows m of) (omega arith) tells
  settled own rows more (suc further) is same tells =
      subst (Tells rows m of) (let e : suc more + further ≡ more + suc further = omega arith in e)
      (settled own rows (suc more) further is same (subst (λ r. Tells r m of (suc more)) same (tell_longer own rows more is tells)))
