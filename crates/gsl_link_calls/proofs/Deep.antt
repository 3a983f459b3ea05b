-- What the table of depths tells: whether there are so many calls one within the other.
use Rattle.std.proofs.Common.{◌≡◌, ℕ, zero, suc, ◌+◌, ◌<◌, ◌≤◌, Bool, true, false, ◌||◌, max, min, List, [], ◌∷◌, ◌++◌, length, map, get_or, refl, ap, sym, ◌∙◌, ◌⊎◌, inl, inr, ⊎_elim, subst, arith}
use Rattle.std.specs.Prelude.{nat_le, slice_index}
use Rattle.std.specs.List.{list_any, range_with_len}
use Rattle.std.proofs.lemmas.Bool.{true≢false, false≢true, cases_lt, or_cases, or_left, or_right, leb-true, le-leb}
use Rattle.gsl_tree.specs.declared.unit.Function.{Function}
use Rattle.gsl_link_calls.specs.Calls.{called_by, nest, any_nest}
use Rattle.gsl_link_calls.specs.Table.{heads_of}
use Rattle.gsl_link_calls.specs.Depths.{deepest, made_again, TellDepths}
use Rattle.gsl_link_calls.proofs.Tabled.{none_beyond}

same_truth : (a b : Bool) → (a ≡ true → b ≡ true) → (b ≡ true → a ≡ true) → a ≡ b
same_truth true b to from = sym (to refl)
same_truth false true to from = from refl
same_truth false false to from = refl

-- the greater of two numbers is as great as one of them
of_greater : (k a b : ℕ) → nat_le k (max a b) ≡ (nat_le k a || nat_le k b)
of_greater k a b =
    same_truth (nat_le k (max a b)) (nat_le k a || nat_le k b)
    (λ e. ⊎_elim (λ less. or_right (nat_le k a) (nat_le k b) (le-leb k b (let h = leb-true k (max a b) e in omega (arith, h, less)))) (λ low. or_left (nat_le k a) (nat_le k b) (le-leb k a low)) (cases_lt a k))
    (λ e. ⊎_elim (λ here. le-leb k (max a b) (let h = leb-true k a here in omega (arith, h))) (λ there. le-leb k (max a b) (let h = leb-true k b there in omega (arith, h))) (or_cases (nat_le k a) (nat_le k b) e))

of_next : (k old : ℕ) → suc k ≤ 65 → nat_le (suc k) (min 65 (1 + old)) ≡ nat_le k old
of_next k old low =
    same_truth (nat_le (suc k) (min 65 (1 + old))) (nat_le k old)
    (λ e. le-leb k old (let h = leb-true (suc k) (min 65 (1 + old)) e in omega (arith, h)))
    (λ e. le-leb (suc k) (min 65 (1 + old)) (let h = leb-true k old e in omega (arith, h, low)))

none_le : (k : ℕ) → nat_le (suc k) 0 ≡ false
none_le k = by_cases (nat_le (suc k) 0) refl
  where
    by_cases : (b : Bool) → nat_le (suc k) 0 ≡ b → b ≡ false
    by_cases false e = refl
    by_cases true e = let h = leb-true (suc k) 0 e in absurd (omega (arith, h))

-- rows over heads in a row
row_at : (f : ℕ → ℕ) (n start head : ℕ) → head < n → get_or (map f (range_with_len start n)) head 0 ≡ f (start + head)
row_at f zero start head low = absurd (omega (arith, low))
row_at f (suc n) start zero low = ap f (let e : start ≡ start + 0 = omega arith in e)
row_at f (suc n) start (suc head) low = row_at f n (start + 1) head (omega (arith, low)) ∙ ap f (let e : (start + 1) + head ≡ start + suc head = omega arith in e)

row_beyond : (f : ℕ → ℕ) (n start head : ℕ) → n ≤ head → get_or (map f (range_with_len start n)) head 0 ≡ 0
row_beyond f zero start head high = refl
row_beyond f (suc n) start zero high = absurd (omega (arith, high))
row_beyond f (suc n) start (suc head) high = row_beyond f n (start + 1) head (omega (arith, high))

rows_length : (f : ℕ → ℕ) (n start : ℕ) → length (map f (range_with_len start n)) ≡ n
rows_length f zero start = refl
rows_length f (suc n) start = ap suc (rows_length f n (start + 1))

module _ (functions : List Function) where
  -- A table tells of each head how deep calls nest, up to a bound.
  pub record Table (n : ℕ) (rows : List ℕ) : Type 0 where
    pub small : n ≤ 65
    pub room : length rows ≡ heads_of functions
    pub tells : (k : ℕ) → k ≤ n → (head : ℕ) → nat_le k (get_or rows head 0) ≡ nest functions k head

  none_yet : (rows : List ℕ) (k head : ℕ) → k ≤ 0 → nat_le k (get_or rows head 0) ≡ nest functions k head
  unfolding nest
  none_yet rows zero head low = le-leb 0 (get_or rows head 0) (omega arith)
  none_yet rows (suc k) head low = absurd (omega (arith, low))

  -- whatever a table has in it
  pub at_start : (rows : List ℕ) → length rows ≡ heads_of functions → Table 0 rows
  at_start rows room = record { small = omega arith; room = room; tells = λ k low head. none_yet rows k head low }

  over : (n : ℕ) (old : List ℕ) → Table n old → (k : ℕ) → k ≤ n → suc k ≤ 65 → (heads : List ℕ) → nat_le (suc k) (deepest old heads) ≡ list_any (nest functions k) heads
  over n old t k low small [] = none_le k
  over n old t k low small (head ∷ heads) =
      of_greater (suc k) (min 65 (1 + get_or old head 0)) (deepest old heads)
      ∙ ap (λ b. b || nat_le (suc k) (deepest old heads)) (of_next k (get_or old head 0) small ∙ t.tells k low head)
      ∙ ap (λ b. nest functions k head || b) (over n old t k low small heads)

  abbrev row : List ℕ → ℕ → ℕ
  row old head = deepest old (called_by functions head)

  row_is : (old : List ℕ) (head : ℕ) → length old ≡ heads_of functions → get_or (made_again functions old) head 0 ≡ row old head
  row_is old head room =
      ⊎_elim (λ low. row_at (row old) (length old) 0 head low ∙ ap (row old) (let e : 0 + head ≡ head = omega arith in e))
      (λ high. row_beyond (row old) (length old) 0 head high ∙ sym (ap (deepest old) (none_beyond functions head (omega (arith, high, room)))))
      (cases_lt head (length old))

  one_more : (n : ℕ) (old : List ℕ) → n < 65 → Table n old → (k head : ℕ) → k ≤ n + 1 → nat_le k (row old head) ≡ nest functions k head
  unfolding nest
  one_more n old small t zero head low = le-leb 0 (row old head) (omega arith)
  one_more n old small t (suc k) head low = over n old t k (omega (arith, low)) (omega (arith, low, small)) (called_by functions head)

  pub again : (n : ℕ) (old : List ℕ) → n < 65 → Table n old → Table (n + 1) (made_again functions old)
  again n old small t =
      record {
        small = omega (arith, small);
        room = rows_length (row old) (length old) 0 ∙ t.room;
        tells = λ k low head. ap (nat_le k) (row_is old head t.room) ∙ one_more n old small t k head low;
      }

  pub tell : (rows : List ℕ) → Table 65 rows → TellDepths rows functions
  tell rows t head = t.tells 65 (omega arith) head

  -- a table that stays the same tells all
  pub settled : (left n : ℕ) (rows : List ℕ) → left + n ≡ 65 → made_again functions rows ≡ rows → Table n rows → Table 65 rows
  settled zero n rows count same t = let e : n ≡ 65 = omega (arith, count) in subst (λ m. Table m rows) e t
  settled (suc left) n rows count same t =
      settled left (n + 1) rows (omega (arith, count)) same (subst (λ l. Table (n + 1) l) same (again n rows (omega (arith, count)) t))

-- one row more
rows_more : (f : ℕ → ℕ) (n start : ℕ) → map f (range_with_len start (suc n)) ≡ map f (range_with_len start n) ++ f (start + n) ∷ []
rows_more f zero start = ap (λ k. f k ∷ []) (let e : start ≡ start + 0 = omega arith in e)
rows_more f (suc n) start =
    ap (λ l. f start ∷ l) (rows_more f n (start + 1)) ∙ ap (λ k. f start ∷ (map f (range_with_len (start + 1) n) ++ f k ∷ [])) (let e : (start + 1) + n ≡ start + suc n = omega arith in e)

pub row_put : (f : ℕ → ℕ) (n : ℕ) (rows next : List ℕ) (d : ℕ) → next ≡ rows ++ d ∷ [] → d ≡ f n → rows ≡ map f (range_with_len 0 n) → next ≡ map f (range_with_len 0 (n + 1))
row_put f n rows next d put is so_far =
    put ∙ ap (λ l. l ++ d ∷ []) so_far ∙ ap (λ k. map f (range_with_len 0 n) ++ k ∷ []) (is ∙ ap f (let e : n ≡ 0 + n = omega arith in e))
    ∙ sym (rows_more f n 0) ∙ ap (λ k. map f (range_with_len 0 k)) (let e : suc n ≡ n + 1 = omega arith in e)

any_same : {A : Type 0} (p q : A → Bool) → ((a : A) → p a ≡ q a) → (items : List A) → list_any p items ≡ list_any q items
any_same p q same [] = refl
any_same p q same (a ∷ items) = ap (λ b. b || list_any p items) (same a) ∙ ap (λ b. q a || b) (any_same p q same items)

pub any_deep_is : (functions : List Function) (rows : List ℕ) → TellDepths rows functions
    → list_any (λ (f : Function). nat_le 65 (slice_index rows f.prototype)) functions ≡ any_nest functions 65
any_deep_is functions rows tell_all = any_same (λ (f : Function). nat_le 65 (slice_index rows f.prototype)) (λ (f : Function). nest functions 65 f.prototype) (λ f. tell_all f.prototype) functions
