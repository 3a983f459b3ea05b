-- What is seen of bytes where words were put, as a value.
use Rattle.std.proofs.Common.{◌≡◌, ◌≢◌, refl, sym, ap, ap₂, ◌∙◌, subst, ℕ, zero, suc, ◌+◌, ◌-◌, ◌*◌, ◌/◌, ◌^◌, ◌<◌, ◌≤◌, Bool, true, false, if◌then◌else◌, List, [], ◌∷◌, ◌++◌, length, map, set, get_or, append_assoc, arith}
use Rattle.std.specs.Prelude.{nat_lt, ◌==◌, Option, Some, None}
use Rattle.std.specs.List.{AllByRecursion, range_with_len}
use Rattle.std.proofs.lemmas.Bool.{eq-eqb, eqb-true, lt-ltb, true≢false}
use Rattle.std.proofs.lemmas.List.{length-append}
use Rattle.std.proofs.lemmas.List.FromFn.{get_or-map-range_with_len, length-map-range_with_len}
use Rattle.gsl_layout.specs.Kinds.{part_count}
use Rattle.gsl_layout.specs.Layout.{IsLayout, Layout, Leaf, Parts, End, Part, need, part_at}
use Rattle.gsl_words.specs.Words.{put_word, word_at}
use Rattle.gsl_words.proofs.Bytes.{put-length}
use Rattle.gsl_values.specs.declared.value.Value.{Value}
use Rattle.gsl_values.specs.declared.value.Value.TheVariants.{Word, Many, outs-Many}
use Rattle.gsl_tree.specs.Operations.{member_value, with_value_at}
use Rattle.gsl_tree.specs.Values.{of_components, parts_in, parts_layer}
use Rattle.gsl_views.specs.Buffers.{put_words}
use Rattle.gsl_views.specs.Paths.{Leads, followed, here, member, element, open_element}
use Rattle.gsl_views.specs.Seen.{Tree, Words, Many as Parted, changed, nothing, seen, seen_part, words_of}
use Rattle.gsl_views.proofs.Changes.{changes, kept_guard}
use Rattle.gsl_views.proofs.Follows.{follows}
use Rattle.gsl_views.proofs.Parts.{member_seen}
use Rattle.gsl_meaning.specs.Blocks.{value_of}

-- ---- values with a part put

parts_of : (vs : List Value) → parts_in (Many vs) ≡ vs
parts_of vs = ap parts_layer (outs-Many vs)

put_over : (ps : List Value) (i : ℕ) (a b : Value) (f : Value → Value) → f a ≡ b → set (set ps i a) i (f (get_or (set ps i a) i (Word 0))) ≡ set ps i b
put_over [] i a b f e = refl
put_over (p ∷ ps) zero a b f e = ap (λ x. x ∷ ps) e
put_over (p ∷ ps) (suc i) a b f e = ap (λ l. p ∷ l) (put_over ps i a b f e)

-- a part that is put over another
pub put_twice : (v : Value) (path : List ℕ) (x y : Value) → with_value_at (with_value_at v path x) path y ≡ with_value_at v path y
put_twice v [] x y = refl
put_twice v (i ∷ path) x y =
    ap (λ ps. Many (set ps i (with_value_at (get_or ps i (Word 0)) path y))) (parts_of (set (parts_in v) i (with_value_at (member_value v i) path x)))
    ∙ ap Many (put_over (parts_in v) i (with_value_at (member_value v i) path x) (with_value_at (member_value v i) path y) (λ u. with_value_at u path y) (put_twice (member_value v i) path x y))

-- ---- parts of which one is another

put_run : (f g : ℕ → Value) (a n c : ℕ) (x : Value) → c < n → f (a + c) ≡ x → ((k : ℕ) → k ≢ a + c → f k ≡ g k) → map f (range_with_len a n) ≡ set (map g (range_with_len a n)) c x
put_run f g a zero c x below at others = absurd (let z : c < 0 = below in omega (arith, z))
put_run f g a (suc n) zero x below at others =
    ap (λ v. v ∷ map f (range_with_len (a + 1) n)) (ap f (let z : a ≡ a + 0 = omega arith in z) ∙ at) ∙ ap (λ vs. x ∷ vs) (same_run (a + 1) n (λ k low. others k (omega (arith, low))))
  where
    same_run : (b n : ℕ) → ((k : ℕ) → b ≤ k → f k ≡ g k) → map f (range_with_len b n) ≡ map g (range_with_len b n)
    same_run b zero same = refl
    same_run b (suc n) same = ap₂ (λ v vs. v ∷ vs) (same b (omega arith)) (same_run (b + 1) n (λ k low. same k (omega (arith, low))))
put_run f g a (suc n) (suc c) x below at others =
    ap₂ (λ v vs. v ∷ vs) (others a (omega arith))
    (put_run f g (a + 1) n c x (let z : suc c < suc n = below in omega (arith, z)) (ap f (let z : a + 1 + c ≡ a + suc c = omega arith in z) ∙ at) (λ k apart. others k (λ e. apart (e ∙ (let z : a + suc c ≡ a + 1 + c = omega arith in z)))))

-- many parts of which one was changed, as a value
many_put : (count i : ℕ) (g : ℕ → Tree) (path : List ℕ) (c word : ℕ) (p : Tree) (y : Value) → i < count → g i ≡ p → value_of (changed p path c word) ≡ with_value_at (value_of p) path y
    → Many (map (λ j. value_of (if j == i then changed (g j) path c word else g j)) (range_with_len 0 count)) ≡ with_value_at (Many (map (λ j. value_of (g j)) (range_with_len 0 count))) (i ∷ path) y
many_put count i g path c word p y below is at =
    ap Many (put_run (λ j. value_of (if j == i then changed (g j) path c word else g j)) (λ j. value_of (g j)) 0 count i (with_value_at (value_of p) path y) below (ap (λ k. value_of (if k == i then changed (g k) path c word else g k)) (let z : 0 + i ≡ i = omega arith in z) ∙ here (i == i) (eq-eqb i i refl)) (λ k apart. there k apart (k == i) refl))
    ∙ ap (λ v. Many (set (map (λ j. value_of (g j)) (range_with_len 0 count)) i (with_value_at v path y))) (sym (get_or-map-range_with_len (λ j. value_of (g j)) 0 count i i (Word 0) below (omega arith) ∙ ap value_of is))
    ∙ sym (ap (λ ps. Many (set ps i (with_value_at (get_or ps i (Word 0)) path y))) (parts_of (map (λ j. value_of (g j)) (range_with_len 0 count))))
  where
    here : (b : Bool) → b ≡ true → value_of (if b then changed (g i) path c word else g i) ≡ with_value_at (value_of p) path y
    here true e = ap (λ t. value_of (changed t path c word)) is ∙ at
    here false e = absurd (true≢false (sym e))

    there : (k : ℕ) → k ≢ 0 + i → (b : Bool) → (k == i) ≡ b → value_of (if b then changed (g k) path c word else g k) ≡ value_of (g k)
    there k apart true e = absurd (apart (eqb-true k i e ∙ (let z : i ≡ 0 + i = omega arith in z)))
    there k apart false e = refl

below_count : (members : Parts) (k : ℕ) (l : Layout) → part_at members k ≡ Some l → k < part_count members
below_count End k l e = absurd (let z : ◌≡◌ {A = Option Layout} None (Some l) = e in cc)
below_count (Part offset layout rest) zero l e = omega arith
below_count (Part offset layout rest) (suc k) l e = let less = below_count rest k l e in omega (arith, less)

-- a run of components with one of them changed
changed_shown : (bytes : List ℕ) (n c word : ℕ) (l leaf : Layout) (at q : ℕ) (path : List ℕ) → Leads (length bytes) l at path leaf q → leaf ≡ Leaf n
    → value_of (changed (seen l at bytes) path c word) ≡ with_value_at (value_of (seen l at bytes)) path (of_components (set (map (λ k. word_at bytes (q + 4 * k)) (range_with_len 0 n)) c word))
changed_shown bytes n c word l leaf at q path here is = ap (λ t. value_of (changed (seen t at bytes) [] c word)) is
changed_shown bytes n c word l leaf at q path (member {members = members} {i = i} {o = o} {m = inner} {path = rest} part offset leads) is =
    many_put (part_count members) i (seen_part members at bytes) rest c word (seen inner (at + o) bytes) (of_components (set (map (λ k. word_at bytes (q + 4 * k)) (range_with_len 0 n)) c word)) (below_count members i inner part) (member_seen members i o inner at bytes offset part)
    (changed_shown bytes n c word inner leaf (at + o) q rest leads is)
changed_shown bytes n c word l leaf at q path (element {stride = stride} {count = count} {i = i} {e = e} {path = rest} below leads) is =
    many_put count i (λ j. if nat_lt j count then seen e (at + stride * j) bytes else nothing) rest c word (seen e (at + stride * i) bytes) (of_components (set (map (λ k. word_at bytes (q + 4 * k)) (range_with_len 0 n)) c word)) below
    (kept_guard (nat_lt i count) (seen e (at + stride * i) bytes) (lt-ltb i count below)) (changed_shown bytes n c word e leaf (at + stride * i) q rest leads is)
changed_shown bytes n c word l leaf at q path (open_element {stride = stride} {i = i} {e = e} {path = rest} below leads) is =
    many_put ((length bytes - at) / stride) i (λ j. if nat_lt j ((length bytes - at) / stride) then seen e (at + stride * j) bytes else nothing) rest c word (seen e (at + stride * i) bytes)
    (of_components (set (map (λ k. word_at bytes (q + 4 * k)) (range_with_len 0 n)) c word)) below
    (kept_guard (nat_lt i ((length bytes - at) / stride)) (seen e (at + stride * i) bytes) (lt-ltb i ((length bytes - at) / stride) below)) (changed_shown bytes n c word e leaf (at + stride * i) q rest leads is)

module _ (l : Layout) (at q n : ℕ) (path : List ℕ) (is : IsLayout l) where
  pub one_seen : (bytes : List ℕ) (c word : ℕ) → at + need l ≤ length bytes → Leads (length bytes) l at path (Leaf n) q → c < n → word < 2 ^ 32
      → value_of (seen l at (put_word bytes (q + 4 * c) word)) ≡ with_value_at (value_of (seen l at bytes)) path (of_components (set (map (λ k. word_at bytes (q + 4 * k)) (range_with_len 0 n)) c word))
  one_seen bytes c word fits leads below small = ap value_of (changes bytes n c word below small l at path (Leaf n) q leads refl is fits) ∙ changed_shown bytes n c word l (Leaf n) at q path leads refl

-- ---- several words

-- words put one behind the other in a list
abbrev put_all : List ℕ → ℕ → List ℕ → List ℕ
put_all old c [] = old
put_all old c (word ∷ words) = put_all (set old c word) (c + 1) words

put_front : (front rest : List ℕ) (x y c : ℕ) → length front ≡ c → set (front ++ x ∷ rest) c y ≡ front ++ y ∷ rest
put_front [] rest x y zero long = refl
put_front [] rest x y (suc c) long = absurd (let z : 0 ≡ suc c = long in omega (arith, z))
put_front (a ∷ front) rest x y zero long = absurd (let z : suc (length front) ≡ 0 = long in omega (arith, z))
put_front (a ∷ front) rest x y (suc c) long = ap (λ l. a ∷ l) (put_front front rest x y c (let z : suc (length front) ≡ suc c = long in omega (arith, z)))

all_put : (words front rest : List ℕ) (c : ℕ) → length front ≡ c → length rest ≡ length words → put_all (front ++ rest) c words ≡ front ++ words
all_put [] front [] c at long = refl
all_put [] front (r ∷ rest) c at long = absurd (let z : suc (length rest) ≡ 0 = long in omega (arith, z))
all_put (w ∷ words) front [] c at long = absurd (let z : 0 ≡ suc (length words) = long in omega (arith, z))
all_put (w ∷ words) front (r ∷ rest) c at long =
    ap (λ l. put_all l (c + 1) words) (put_front front rest r w c at ∙ sym (append_assoc front (w ∷ []) rest))
    ∙ all_put words (front ++ w ∷ []) rest (c + 1) (length-append front (w ∷ []) ∙ ap (λ n. n + 1) at) (let z : suc (length rest) ≡ suc (length words) = long in omega (arith, z)) ∙ append_assoc front (w ∷ []) words

-- the part to which a path leads in a tree that was changed there
nothing_followed : (path : List ℕ) → followed nothing path ≡ nothing
nothing_followed [] = refl
nothing_followed (i ∷ path) = nothing_followed path

changed_followed : (t : Tree) (path : List ℕ) (c word : ℕ) → followed (changed t path c word) path ≡ changed (followed t path) [] c word
changed_followed t [] c word = refl
changed_followed (Words ws) (i ∷ path) c word = nothing_followed path ∙ sym (ap (λ t. changed t [] c word) (nothing_followed path))
changed_followed (Parted count parts) (i ∷ path) c word = by (i == i) (eq-eqb i i refl) (changed_followed (parts i) path c word)
  where
    by : (b : Bool) → b ≡ true → followed (changed (parts i) path c word) path ≡ changed (followed (parts i) path) [] c word → followed (if b then changed (parts i) path c word else parts i) path ≡ changed (followed (parts i) path) [] c word
    by true e later = later
    by false e later = absurd (true≢false (sym e))

module _ (l : Layout) (at q n : ℕ) (path : List ℕ) (is : IsLayout l) where
  -- the run is the same with one word changed
  pub run_changed : (bytes : List ℕ) (c word : ℕ) → at + need l ≤ length bytes → Leads (length bytes) l at path (Leaf n) q → c < n → word < 2 ^ 32
      → map (λ k. word_at (put_word bytes (q + 4 * c) word) (q + 4 * k)) (range_with_len 0 n) ≡ set (map (λ k. word_at bytes (q + 4 * k)) (range_with_len 0 n)) c word
  run_changed bytes c word fits leads below small =
      ap words_of (sym (follows (put_word bytes (q + 4 * c) word) l (Leaf n) at q path (subst (λ size. Leads size l at path (Leaf n) q) (sym (put-length bytes (q + 4 * c) word)) leads))
      ∙ ap (λ t. followed t path) (changes bytes n c word below small l at path (Leaf n) q leads refl is fits)
      ∙ changed_followed (seen l at bytes) path c word ∙ ap (λ t. changed t [] c word) (follows bytes l (Leaf n) at q path leads))

  several_seen : (words bytes : List ℕ) (c word : ℕ) → at + need l ≤ length bytes → Leads (length bytes) l at path (Leaf n) q → c + suc (length words) ≤ n → word < 2 ^ 32 → AllByRecursion (λ word. word < 2 ^ 32) words
      → value_of (seen l at (put_words (q + 4 * c) (word ∷ words) bytes)) ≡ with_value_at (value_of (seen l at bytes)) path (of_components (put_all (map (λ k. word_at bytes (q + 4 * k)) (range_with_len 0 n)) c (word ∷ words)))
  several_seen [] bytes c word fits leads few small all = one_seen l at q n path is bytes c word fits leads (omega (arith, few)) small
  several_seen (next ∷ words) bytes c word fits leads few small all =
      let less : c < n = omega (arith, few) in
      let long : length (put_word bytes (q + 4 * c) word) ≡ length bytes = put-length bytes (q + 4 * c) word in
      ap (λ p. value_of (seen l at (put_words p (next ∷ words) (put_word bytes (q + 4 * c) word)))) (let z : q + 4 * c + 4 ≡ q + 4 * (c + 1) = omega arith in z)
      ∙ several_seen words (put_word bytes (q + 4 * c) word) (c + 1) next (omega (arith, fits, long)) (subst (λ size. Leads size l at path (Leaf n) q) (sym long) leads) (let z : c + suc (suc (length words)) ≤ n = few in omega (arith, z)) all.0 all.1
      ∙ ap₂ (λ v run. with_value_at v path (of_components (put_all run (c + 1) (next ∷ words)))) (one_seen l at q n path is bytes c word fits leads less small) (run_changed bytes c word fits leads less small)
      ∙ put_twice (value_of (seen l at bytes)) path (of_components (set (map (λ k. word_at bytes (q + 4 * k)) (range_with_len 0 n)) c word)) (of_components (put_all (map (λ k. word_at bytes (q + 4 * k)) (range_with_len 0 n)) c (word ∷ next ∷ words)))

  pub all_seen : (words bytes : List ℕ) → at + need l ≤ length bytes → Leads (length bytes) l at path (Leaf n) q → 1 ≤ n → length words ≡ n → AllByRecursion (λ word. word < 2 ^ 32) words
      → value_of (seen l at (put_words q words bytes)) ≡ with_value_at (value_of (seen l at bytes)) path (of_components words)
  all_seen [] bytes fits leads some long all = absurd (let z : 0 ≡ n = long in omega (arith, z, some))
  all_seen (word ∷ words) bytes fits leads some long all =
      ap (λ p. value_of (seen l at (put_words p (word ∷ words) bytes))) (let z : q ≡ q + 4 * 0 = omega arith in z)
      ∙ several_seen words bytes 0 word fits leads (let z : suc (length words) ≡ n = long in omega (arith, z)) all.0 all.1
      ∙ ap (λ ws. with_value_at (value_of (seen l at bytes)) path (of_components ws))
      (all_put (word ∷ words) [] (map (λ k. word_at bytes (q + 4 * k)) (range_with_len 0 n)) 0 refl (length-map-range_with_len (λ k. word_at bytes (q + 4 * k)) 0 n ∙ sym long))
