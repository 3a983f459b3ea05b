-- What is seen after a word was put: the tree with that one leaf changed.
use mathlib.Core.Path.{fun_ext}
use Rattle.std.proofs.Common.{◌≡◌, ◌≢◌, refl, sym, ap, subst, ◌∙◌, ℕ, zero, suc, ◌+◌, ◌-◌, ◌*◌, ◌/◌, ◌^◌, ◌<◌, ◌≤◌, ◌⊎◌, inl, inr, List, [], ◌∷◌, length, map, set, Option, Some, None, IsSome, IsTrue, arith}
use Rattle.std.specs.Prelude.{Bool, true, false, ◌==◌, nat_lt, is_some, if◌then◌else◌}
use Rattle.std.proofs.Math.Nat.{mul-le-mul_left}
use Rattle.std.proofs.lemmas.Bool.{cases_lt, eq-eqb, eqb-true, ltb-true, lt-ltb, true≢false}
use Rattle.std.proofs.lemmas.Option.{none-some}
use Rattle.std.specs.List.{range_with_len}
use Rattle.gsl_layout.specs.Kinds.{part_count}
use Rattle.gsl_layout.specs.Layout.{AreParts, Layout, Leaf, Array, Runtime, Parts, End, Part, IsLayout, closed, need, part_at, offset_at}
use Rattle.gsl_views.specs.Paths.{Leads, here, member, element, open_element}
use Rattle.gsl_views.specs.Seen.{Tree, Words, Many, changed, nothing, row, seen, seen_part}
use Rattle.gsl_words.specs.Words.{put_word, word_at}
use Rattle.gsl_words.proofs.Bytes.{put-length, word_at-put, word_before, word_behind}
use Rattle.gsl_views.proofs.Kept.{kept_before, kept_behind, run_same}
use Rattle.gsl_layout.proofs.Order.{earlier_apart, member_closed, member_layout}
use Rattle.gsl_views.proofs.Parts.{element_need, has_offset, member_need, member_seen}

module _ (bytes : ℕ) (n : ℕ) where
  -- where a leaf stands
  record Within (l : Layout) (at q : ℕ) : Type 0 where
    from : at ≤ q
    fits : q + 4 * n ≤ bytes
    shut : IsTrue (closed l) → q + 4 * n ≤ at + need l

  within : (l : Layout) (at : ℕ) (path : List ℕ) (leaf : Layout) (q : ℕ) → Leads bytes l at path leaf q → leaf ≡ Leaf n → IsLayout l → at + need l ≤ bytes → Within l at q
  within l at path leaf q here is layout fits = record { from = omega arith; fits = omega (arith, ap need is, fits); shut = λ _. omega (arith, ap need is) }
  within l at path leaf q (member {members = members} {i = i} {o = o} {m = m} part offset leads) is layout fits =
      let low = member_need members i o m offset part in
      let inner = within m (at + o) _ leaf q leads is (member_layout members 0 _ i m layout.0 part) (omega (arith, low, fits)) in
      record { from = omega (arith, inner.from); fits = inner.fits; shut = λ shut. omega (arith, inner.shut (member_closed members i m shut part), low) }
  within l at path leaf q (element {stride = stride} {count = count} {i = i} {e = e} below leads) is layout fits =
      let inner = within e (at + stride * i) _ leaf q leads is layout.0 (element_need (Array stride count e) layout at bytes fits i below stride refl e refl) in
      record {
        from = omega (arith, inner.from);
        fits = inner.fits;
        shut = λ shut. omega (arith, inner.shut layout.1, element_need (Array stride count e) layout at (at + need (Array stride count e)) (omega arith) i below stride refl e refl);
      }
  within l at path leaf q (open_element {stride = stride} {i = i} {e = e} below leads) is layout fits =
      let inner = within e (at + stride * i) _ leaf q leads is layout.0 (element_need (Runtime stride e) layout at bytes fits i below stride refl e refl) in
      record { from = omega (arith, inner.from); fits = inner.fits; shut = λ shut. let never : ⊥ = true≢false (sym shut) in elim never [ ] }

-- a part of a group that is not there
none_seen : (parts : Parts) (at : ℕ) (bytes : List ℕ) (i : ℕ) → part_at parts i ≡ None → seen_part parts at bytes i ≡ nothing
none_seen End at bytes i none = refl
none_seen (Part offset layout rest) at bytes zero none = elim (none-some _ (sym none)) [ ]
none_seen (Part offset layout rest) at bytes (suc i) none = none_seen rest at bytes i none

some_offset : (o : Option ℕ) → IsSome o → (n : ℕ) × (o ≡ Some n)
some_offset (Some n) some = (n, refl)
some_offset None some = let never : ⊥ = true≢false (sym some) in elim never [ ]

-- where a part is the one that is changed
chosen : (b : Bool) (x y z : Tree) → (b ≡ true → x ≡ y) → (b ≡ false → x ≡ z) → x ≡ (if b then y else z)
chosen true x y z there elsewhere = there refl
chosen false x y z there elsewhere = elsewhere refl

guard_same : (b : Bool) (x y z : Tree) → (b ≡ true → x ≡ z) → (if b then x else nothing) ≡ (if b then z else nothing)
guard_same true x y z same = same refl
guard_same false x y z same = refl

pub kept_guard : (b : Bool) (x : Tree) → b ≡ true → (if b then x else nothing) ≡ x
kept_guard true x is = refl
kept_guard false x is = let never : ⊥ = true≢false (sym is) in elim never [ ]

-- parts of which one is changed
many_changed : (count i : ℕ) (f g : ℕ → Tree) (path : List ℕ) (c word : ℕ) → f i ≡ changed (g i) path c word → ((j : ℕ) → j ≢ i → f j ≡ g j) → Many count f ≡ changed (Many count g) (i ∷ path) c word
many_changed count i f g path c word at_i others = ap (Many count) (fun_ext (λ j. chosen (j == i) (f j) (changed (g j) path c word) (g j)
    (λ is. let same = eqb-true j i is in subst (λ k. f k ≡ changed (g k) path c word) (sym same) at_i)
    (λ is. others j (λ same. true≢false (sym (eq-eqb j i same) ∙ is)))))

-- a row of which one is changed
row_changed : (count i : ℕ) (f g : ℕ → Tree) (path : List ℕ) (c word : ℕ) → i < count → f i ≡ changed (g i) path c word → ((j : ℕ) → j < count → j ≢ i → f j ≡ g j)
    → row count f ≡ changed (row count g) (i ∷ path) c word
row_changed count i f g path c word below at_i others =
    many_changed count i (λ j. if nat_lt j count then f j else nothing) (λ j. if nat_lt j count then g j else nothing) path c word
    (kept_guard (nat_lt i count) (f i) (lt-ltb i count below) ∙ at_i ∙ ap (λ t. changed t path c word) (sym (kept_guard (nat_lt i count) (g i) (lt-ltb i count below))))
    (λ j apart. guard_same (nat_lt j count) (f j) nothing (g j) (λ is. others j (ltb-true j count is) apart))

set_run : (f g : ℕ → ℕ) (a n c w : ℕ) → c < n → f (a + c) ≡ w → ((k : ℕ) → k ≢ a + c → f k ≡ g k) → map f (range_with_len a n) ≡ set (map g (range_with_len a n)) c w
set_run f g a zero c w below at_c others = let never : ⊥ = omega (arith, below) in elim never [ ]
set_run f g a (suc n) zero w below at_c others =
    let first : f a ≡ w = ap f (omega arith) ∙ at_c in
    ap (λ x. x ∷ map f (range_with_len (a + 1) n)) first ∙ ap (λ xs. w ∷ xs) (run_same f g (a + 1) n (λ k low high. others k (omega (arith, low))))
set_run f g a (suc n) (suc c) w below at_c others =
    let moved : a + 1 + c ≡ a + suc c = omega arith in
    ap (λ x. x ∷ map f (range_with_len (a + 1) n)) (others a (omega arith))
    ∙ ap (λ xs. g a ∷ xs) (set_run f g (a + 1) n c w (omega (arith, below)) (ap f moved ∙ at_c) (λ k apart. others k (λ e. apart (e ∙ sym moved))))

-- one word of a run changed
run_changed : (at : ℕ) (bytes : List ℕ) (n c word : ℕ) → c < n → at + 4 * n ≤ length bytes → word < 2 ^ 32
    → Words (map (λ k. word_at (put_word bytes (at + 4 * c) word) (at + 4 * k)) (range_with_len 0 n)) ≡ Words (set (map (λ k. word_at bytes (at + 4 * k)) (range_with_len 0 n)) c word)
run_changed at bytes n c word below fits small = ap Words (set_run (λ k. word_at (put_word bytes (at + 4 * c) word) (at + 4 * k)) (λ k. word_at bytes (at + 4 * k)) 0 n c word below
    (ap (λ k. word_at (put_word bytes (at + 4 * c) word) (at + 4 * k)) (omega arith) ∙ word_at-put bytes (at + 4 * c) word (omega (arith, below, fits)) small)
    (λ k apart. by_order k apart (cases_lt k c)))
  where
    by_order : (k : ℕ) → k ≢ 0 + c → (k < c) ⊎ (c ≤ k) → word_at (put_word bytes (at + 4 * c) word) (at + 4 * k) ≡ word_at bytes (at + 4 * k)
    by_order k apart (inl less) = word_before bytes (at + 4 * c) word (at + 4 * k) (omega (arith, less))
    by_order k apart (inr more) = word_behind bytes (at + 4 * c) word (at + 4 * k) (omega (arith, more, apart))

pub next_le : (i count : ℕ) → i < count → i + 1 ≤ count
next_le i count below = omega (arith, below)

module _ (bytes : List ℕ) (n c word : ℕ) (below_n : c < n) (small : word < 2 ^ 32) where
  abbrev after : ℕ → List ℕ
  after q = put_word bytes (q + 4 * c) word

  -- an element that is not the one
  by_element : (e : Layout) (at stride i j q : ℕ) → IsTrue (closed e) → need e ≤ stride → Within (length bytes) n e (at + stride * i) q → j ≢ i → seen e (at + stride * j) (after q) ≡ seen e (at + stride * j) bytes
  by_element e at stride i j q shut wide stands apart = by_order (cases_lt j i)
    where
      by_order : (j < i) ⊎ (i ≤ j) → seen e (at + stride * j) (after q) ≡ seen e (at + stride * j) bytes
      by_order (inl less) =
          let step = mul-le-mul_left stride (next_le j i less) in
          let split : stride * (j + 1) ≡ stride * j + stride = omega arith in
          kept_before bytes (q + 4 * c) word e (at + stride * j) shut (omega (arith, step, split, wide, stands.from))
      by_order (inr more) =
          let step = mul-le-mul_left stride (next_le i j (omega (arith, more, apart))) in
          let split : stride * (i + 1) ≡ stride * i + stride = omega arith in
          kept_behind bytes (q + 4 * c) word e (at + stride * j) (omega (arith, step, split, wide, stands.shut shut, below_n))

  -- a member that is not the one
  by_part : (members : Parts) (at i j o : ℕ) (m : Layout) (q end : ℕ) → AreParts 0 members end → part_at members i ≡ Some m → offset_at members i ≡ Some o → Within (length bytes) n m (at + o) q
      → j ≢ i → (x : Option Layout) → part_at members j ≡ x → seen_part members at (after q) j ≡ seen_part members at bytes j
  by_part members at i j o m q end are part offset stands apart None is = none_seen members at (after q) j is ∙ sym (none_seen members at bytes j is)
  by_part members at i j o m q end are part offset stands apart (Some l) is =
      let place = some_offset (offset_at members j) (has_offset members j (ap is_some is)) in
      member_seen members j place.0 l at (after q) place.1 is ∙ by_order place.0 place.1 (cases_lt j i) ∙ sym (member_seen members j place.0 l at bytes place.1 is)
    where
      by_order : (p : ℕ) → offset_at members j ≡ Some p → (j < i) ⊎ (i ≤ j) → seen l (at + p) (after q) ≡ seen l (at + p) bytes
      by_order p at_j (inl less) =
          let before = earlier_apart members 0 end j i p o l are less is at_j offset in
          kept_before bytes (q + 4 * c) word l (at + p) before.0 (omega (arith, before.1, stands.from))
      by_order p at_j (inr more) =
          let before = earlier_apart members 0 end i j o p m are (omega (arith, more, apart)) part offset at_j in
          kept_behind bytes (q + 4 * c) word l (at + p) (omega (arith, before.1, stands.shut before.0, below_n))

  pub changes : (l : Layout) (at : ℕ) (path : List ℕ) (leaf : Layout) (q : ℕ) → Leads (length bytes) l at path leaf q → leaf ≡ Leaf n → IsLayout l → at + need l ≤ length bytes
      → seen l at (put_word bytes (q + 4 * c) word) ≡ changed (seen l at bytes) path c word
  changes l at path leaf q here is layout fits =
      let bound = ap need is in
      ap (λ t. seen t at (put_word bytes (at + 4 * c) word)) is ∙ run_changed at bytes n c word below_n (omega (arith, fits, bound)) small
      ∙ sym (ap (λ t. changed (seen t at bytes) [] c word) is)
  changes l at path leaf q (member {members = members} {i = i} {o = o} {m = m} {path = rest} part offset leads) is layout fits =
      let put = put_word bytes (q + 4 * c) word in
      let low = member_need members i o m offset part in
      let inner_layout = member_layout members 0 _ i m layout.0 part in
      let inner_fits : at + o + need m ≤ length bytes = omega (arith, low, fits) in
      let stands = within (length bytes) n m (at + o) rest leaf q leads is inner_layout inner_fits in
      let there = changes m (at + o) rest leaf q leads is inner_layout inner_fits in
      many_changed (part_count members) i (seen_part members at put) (seen_part members at bytes) rest c word
      (member_seen members i o m at put offset part ∙ there ∙ ap (λ t. changed t rest c word) (sym (member_seen members i o m at bytes offset part)))
      (λ j apart. by_part members at i j o m q _ layout.0 part offset stands apart (part_at members j) refl)
  changes l at path leaf q (element {stride = stride} {count = count} {i = i} {e = e} {path = rest} below leads) is layout fits =
      let put = put_word bytes (q + 4 * c) word in
      let inner_fits = element_need (Array stride count e) layout at (length bytes) fits i below stride refl e refl in
      let stands = within (length bytes) n e (at + stride * i) rest leaf q leads is layout.0 inner_fits in
      row_changed count i (λ k. seen e (at + stride * k) put) (λ k. seen e (at + stride * k) bytes) rest c word below
      (changes e (at + stride * i) rest leaf q leads is layout.0 inner_fits)
      (λ j _ apart. by_element e at stride i j q layout.1 layout.4 stands apart)
  changes l at path leaf q (open_element {stride = stride} {at = place} {i = i} {e = e} {path = rest} below leads) is layout fits =
      let put = put_word bytes (q + 4 * c) word in
      let inner_fits = element_need (Runtime stride e) layout at (length bytes) fits i below stride refl e refl in
      let stands = within (length bytes) n e (at + stride * i) rest leaf q leads is layout.0 inner_fits in
      ap (λ m. row ((m - at) / stride) (λ k. seen e (at + stride * k) put)) (put-length bytes (q + 4 * c) word)
      ∙ row_changed ((length bytes - at) / stride) i (λ k. seen e (at + stride * k) put) (λ k. seen e (at + stride * k) bytes) rest c word below
      (changes e (at + stride * i) rest leaf q leads is layout.0 inner_fits)
      (λ j _ apart. by_element e at stride i j q layout.1 layout.4 stands apart)
