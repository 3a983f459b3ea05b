-- What is seen of bytes and put into others makes them those bytes, wherever a layout has a leaf, and leaves them as they are elsewhere.
use Rattle.std.proofs.Common.{◌≡◌, refl, sym, ap, ◌∙◌, subst, inl, inr, ◌⊎◌, ℕ, zero, suc, ◌+◌, ◌-◌, ◌*◌, ◌/◌, ◌%◌, ◌^◌, ◌<◌, ◌≤◌, if◌then◌else◌, List, [], ◌∷◌, length, map, set, get_or, Option, Some, None, arith}
use Rattle.std.specs.Prelude.{nat_lt}
use Rattle.std.specs.List.{AllByRecursion, range_with_len}
use Rattle.std.proofs.lemmas.Bool.{cases_lt, lt-ltb}
use Rattle.std.proofs.lemmas.List.{ext_get_or, get_or-set_other, get_or-set_same, length-set}
use Rattle.gsl_layout.specs.Layout.{Layout, Leaf, Array, IsLayout, Runtime, Group, Parts, End, Part, need, offset_at, part_at}
use Rattle.gsl_layout.specs.Kinds.{part_count}
use Rattle.gsl_words.specs.Words.{put_word, word_at}
use Rattle.gsl_words.proofs.Bytes.{others_kept, put-length, put-word_at}
use Rattle.gsl_values.specs.declared.value.Value.{Value}
use Rattle.gsl_values.specs.declared.value.Value.TheVariants.{Word, Many, outs-Many, outs-Word}
use Rattle.gsl_tree.specs.Operations.{with_value_at}
use Rattle.gsl_tree.specs.Values.{components_in, components_layer, of_components, parts_in, parts_layer, word_in, word_layer}
use Rattle.gsl_views.specs.Buffers.{put_words}
use Rattle.gsl_views.specs.Paths.{Leads, here, member, element, open_element}
use Rattle.gsl_views.specs.Seen.{Tree, nothing, seen, seen_part}
use Rattle.gsl_views.proofs.Changes.{kept_guard}
use Rattle.gsl_meaning.specs.Blocks.{put_members, put_row, put_value, value_of}
use Rattle.gsl_lower_law_views.proofs.Stored.{all_seen}
use Rattle.gsl_lower_law_bytes.proofs.Sized.{members_length, value_length, words_length}

-- ---- values

words_again : (ws : List ℕ) → map word_in (map Word ws) ≡ ws
words_again [] = refl
words_again (w ∷ ws) = ap (λ n. n ∷ map word_in (map Word ws)) (ap word_layer (outs-Word w)) ∙ ap (λ l. w ∷ l) (words_again ws)

components_are : (ws : List ℕ) → components_in (of_components ws) ≡ ws
components_are [] = ap components_layer (outs-Many [])
components_are (w ∷ []) = ap components_layer (outs-Word w)
components_are (w ∷ next ∷ ws) = ap components_layer (outs-Many (map Word (w ∷ next ∷ ws))) ∙ words_again (w ∷ next ∷ ws)

parts_are : (vs : List Value) → parts_in (Many vs) ≡ vs
parts_are vs = ap parts_layer (outs-Many vs)

-- ---- one word

-- a byte of a word that is put is that of the word, whatever was there
byte_put : (x z : List ℕ) (at word k : ℕ) → length x ≡ length z → k < length x → at ≤ k → k < at + 4 → get_or (put_word x at word) k 0 ≡ get_or (put_word z at word) k 0
unfolding put_word
byte_put x z at word k same below low high = by (cases_lt k (at + 1)) (cases_lt k (at + 2)) (cases_lt k (at + 3))
  where
    long : (l : List ℕ) (i a j : ℕ) → j < length l → j < length (set l i a)
    long l i a j less = omega (arith, length-set l i a, less)

    one : (l : List ℕ) → k < length l → k ≡ at → get_or (set (set (set (set l at (word % 256)) (at + 1) (word / 256 % 256)) (at + 2) (word / 65536 % 256)) (at + 3) (word / 16777216 % 256)) k 0 ≡ word % 256
    one l less is =
        get_or-set_other _ (at + 3) k _ 0 (omega (arith, is)) ∙ get_or-set_other _ (at + 2) k _ 0 (omega (arith, is)) ∙ get_or-set_other _ (at + 1) k _ 0 (omega (arith, is))
        ∙ ap (λ i. get_or (set l at (word % 256)) i 0) is ∙ get_or-set_same l at _ 0 (omega (arith, is, less))

    two : (l : List ℕ) → k < length l → k ≡ at + 1 → get_or (set (set (set (set l at (word % 256)) (at + 1) (word / 256 % 256)) (at + 2) (word / 65536 % 256)) (at + 3) (word / 16777216 % 256)) k 0 ≡ word / 256 % 256
    two l less is =
        get_or-set_other _ (at + 3) k _ 0 (omega (arith, is)) ∙ get_or-set_other _ (at + 2) k _ 0 (omega (arith, is))
        ∙ ap (λ i. get_or (set (set l at (word % 256)) (at + 1) (word / 256 % 256)) i 0) is ∙ get_or-set_same _ (at + 1) _ 0 (long l at _ (at + 1) (omega (arith, is, less)))

    three : (l : List ℕ) → k < length l → k ≡ at + 2 → get_or (set (set (set (set l at (word % 256)) (at + 1) (word / 256 % 256)) (at + 2) (word / 65536 % 256)) (at + 3) (word / 16777216 % 256)) k 0 ≡ word / 65536 % 256
    three l less is =
        get_or-set_other _ (at + 3) k _ 0 (omega (arith, is))
        ∙ ap (λ i. get_or (set (set (set l at (word % 256)) (at + 1) (word / 256 % 256)) (at + 2) (word / 65536 % 256)) i 0) is ∙ get_or-set_same _ (at + 2) _ 0 (long _ (at + 1) _ (at + 2) (long l at _ (at + 2) (omega (arith, is, less))))

    four : (l : List ℕ) → k < length l → k ≡ at + 3 → get_or (set (set (set (set l at (word % 256)) (at + 1) (word / 256 % 256)) (at + 2) (word / 65536 % 256)) (at + 3) (word / 16777216 % 256)) k 0 ≡ word / 16777216 % 256
    four l less is =
        ap (λ i. get_or (set (set (set (set l at (word % 256)) (at + 1) (word / 256 % 256)) (at + 2) (word / 65536 % 256)) (at + 3) (word / 16777216 % 256)) i 0) is
        ∙ get_or-set_same _ (at + 3) _ 0 (long _ (at + 2) _ (at + 3) (long _ (at + 1) _ (at + 3) (long l at _ (at + 3) (omega (arith, is, less)))))

    below_z : k < length z
    below_z = omega (arith, below, same)

    by : (k < at + 1) ⊎ (at + 1 ≤ k) → (k < at + 2) ⊎ (at + 2 ≤ k) → (k < at + 3) ⊎ (at + 3 ≤ k) → get_or (put_word x at word) k 0 ≡ get_or (put_word z at word) k 0
    by (inl less) b c = one x below (omega (arith, low, less)) ∙ sym (one z below_z (omega (arith, low, less)))
    by (inr a) (inl less) c = two x below (omega (arith, a, less)) ∙ sym (two z below_z (omega (arith, a, less)))
    by (inr a) (inr b) (inl less) = three x below (omega (arith, b, less)) ∙ sym (three z below_z (omega (arith, b, less)))
    by (inr a) (inr b) (inr c) = four x below (omega (arith, c, high)) ∙ sym (four z below_z (omega (arith, c, high)))

-- ---- at one place in so many bytes

-- what is made of some bytes and others
abbrev Puts : Type 0
Puts = List ℕ → List ℕ → List ℕ

abbrev pub AreSmall : List ℕ → Type 0
AreSmall bytes = AllByRecursion (λ byte. byte < 256) bytes

module _ (n i : ℕ) (within : i < n) where
  -- It is the byte of the first, or that of the second.
  abbrev Tells : Puts → Type 0
  Tells f = (z x : List ℕ) → length z ≡ n → length x ≡ n → AreSmall z → get_or (f z x) i 0 ≡ get_or z i 0

  abbrev Keeps : Puts → Type 0
  Keeps f = (z x : List ℕ) → length z ≡ n → length x ≡ n → get_or (f z x) i 0 ≡ get_or x i 0

  abbrev Either : Puts → Type 0
  Either f = Tells f ⊎ Keeps f

  abbrev Long : Puts → Type 0
  Long f = (z x : List ℕ) → length (f z x) ≡ length x

  abbrev behind : Puts → Puts → Puts
  behind f g z x = g z (f z x)

  tells_last : (f g : Puts) → Long f → Tells g → Tells (behind f g)
  tells_last f g long tells z x lz lx small = tells z (f z x) lz (long z x ∙ lx) small

  tells_first : (f g : Puts) → Long f → Tells f → Either g → Tells (behind f g)
  tells_first f g long first (inl tells) = tells_last f g long tells
  tells_first f g long first (inr keeps) = λ z x lz lx small. keeps z (f z x) lz (long z x ∙ lx) ∙ first z x lz lx small

  either_then : (f g : Puts) → Long f → Either f → Either g → Either (behind f g)
  either_then f g long first (inl tells) = inl (tells_last f g long tells)
  either_then f g long (inl first) (inr keeps) = inl (tells_first f g long first (inr keeps))
  either_then f g long (inr first) (inr keeps) = inr (λ z x lz lx. keeps z (f z x) lz (long z x ∙ lx) ∙ first z x lz lx)

  tells_so : (f g : Puts) → ((z x : List ℕ) → length z ≡ n → f z x ≡ g z x) → Tells g → Tells f
  tells_so f g same tells z x lz lx small = ap (λ l. get_or l i 0) (same z x lz) ∙ tells z x lz lx small

  either_so : (f g : Puts) → ((z x : List ℕ) → length z ≡ n → f z x ≡ g z x) → Either g → Either f
  either_so f g same (inl tells) = inl (tells_so f g same tells)
  either_so f g same (inr keeps) = inr (λ z x lz lx. ap (λ l. get_or l i 0) (same z x lz) ∙ keeps z x lz lx)

  -- ---- words

  abbrev one_word : ℕ → Puts
  one_word at z x = put_word x at (word_at z at)

  word_tells : (at : ℕ) → at ≤ i → i < at + 4 → Tells (one_word at)
  word_tells at low high z x lz lx small =
      byte_put x z at (word_at z at) i (lx ∙ sym lz) (let less = within in omega (arith, less, lx)) low high ∙ ap (λ l. get_or l i 0) (put-word_at z at small)

  word_either : (at : ℕ) → Either (one_word at)
  word_either at = by (cases_lt i at) (cases_lt i (at + 4))
    where
      by : (i < at) ⊎ (at ≤ i) → (i < at + 4) ⊎ (at + 4 ≤ i) → Either (one_word at)
      by (inl less) b = inr (λ z x lz lx. others_kept x at (word_at z at) i (inl less))
      by (inr low) (inl high) = inl (word_tells at low high)
      by (inr low) (inr more) = inr (λ z x lz lx. others_kept x at (word_at z at) i (inr more))

  abbrev run_of : ℕ → ℕ → ℕ → Puts
  run_of q a m z x = put_words (q + 4 * a) (map (λ k. word_at z (q + 4 * k)) (range_with_len a m)) x

  run_next : (q a m : ℕ) (z x : List ℕ) → run_of q a (suc m) z x ≡ run_of q (a + 1) m z (put_word x (q + 4 * a) (word_at z (q + 4 * a)))
  run_next q a m z x = ap (λ at. put_words at (map (λ k. word_at z (q + 4 * k)) (range_with_len (a + 1) m)) (put_word x (q + 4 * a) (word_at z (q + 4 * a)))) (let e : q + 4 * a + 4 ≡ q + 4 * (a + 1) = omega arith in e)

  run_either : (q a m : ℕ) → Either (run_of q a m)
  run_either q a zero = inr (λ z x lz lx. refl)
  run_either q a (suc m) =
      either_so (run_of q a (suc m)) (behind (one_word (q + 4 * a)) (run_of q (a + 1) m)) (λ z x lz. run_next q a m z x)
      (either_then (one_word (q + 4 * a)) (run_of q (a + 1) m) (λ z x. put-length x (q + 4 * a) (word_at z (q + 4 * a))) (word_either (q + 4 * a)) (run_either q (a + 1) m))

  run_tells : (q a m : ℕ) → q + 4 * a ≤ i → i < q + 4 * (a + m) → Tells (run_of q a m)
  run_tells q a zero low high = absurd (omega (arith, low, high))
  run_tells q a (suc m) low high = by (cases_lt i (q + 4 * a + 4)) (λ more. run_tells q (a + 1) m (omega (arith, more)) (omega (arith, high)))
    where
      by : (i < q + 4 * a + 4) ⊎ (q + 4 * a + 4 ≤ i) → (q + 4 * a + 4 ≤ i → Tells (run_of q (a + 1) m)) → Tells (run_of q a (suc m))
      by (inl less) later =
          tells_so (run_of q a (suc m)) (behind (one_word (q + 4 * a)) (run_of q (a + 1) m)) (λ z x lz. run_next q a m z x)
          (tells_first (one_word (q + 4 * a)) (run_of q (a + 1) m) (λ z x. put-length x (q + 4 * a) (word_at z (q + 4 * a))) (word_tells (q + 4 * a) low less) (run_either q (a + 1) m))
      by (inr more) later =
          tells_so (run_of q a (suc m)) (behind (one_word (q + 4 * a)) (run_of q (a + 1) m)) (λ z x lz. run_next q a m z x)
          (tells_last (one_word (q + 4 * a)) (run_of q (a + 1) m) (λ z x. put-length x (q + 4 * a) (word_at z (q + 4 * a))) (later more))

  -- ---- layouts

  -- what is seen of the first through a layout is put into the second
  abbrev shown : Layout → ℕ → Puts
  shown l at z x = put_value l at (value_of (seen l at z)) x

  shown_long : (l : Layout) (at : ℕ) → Long (shown l at)
  shown_long l at z x = value_length l at (value_of (seen l at z)) x

  leaf_is : (c at : ℕ) (z x : List ℕ) → shown (Leaf c) at z x ≡ run_of at 0 c z x
  leaf_is c at z x =
      ap (λ ws. put_words at ws x) (components_are (map (λ k. word_at z (at + 4 * k)) (range_with_len 0 c)))
      ∙ ap (λ q. put_words q (map (λ k. word_at z (at + 4 * k)) (range_with_len 0 c)) x) (let e : at ≡ at + 4 * 0 = omega arith in e)

  -- elements from one on
  module _ (e : Layout) (stride at count : ℕ) where
    abbrev in_row : List ℕ → ℕ → Tree
    in_row z j = if nat_lt j count then seen e (at + stride * j) z else nothing

    abbrev rows_of : ℕ → ℕ → Puts
    rows_of a k z x = put_row (λ at v bytes. put_value e at v bytes) stride (at + stride * a) (map (λ j. value_of (in_row z j)) (range_with_len a k)) x

    rows_next : (a k : ℕ) → a < count → (z x : List ℕ) → rows_of a (suc k) z x ≡ rows_of (a + 1) k z (shown e (at + stride * a) z x)
    rows_next a k less z x =
        ap (λ v. put_row (λ at v bytes. put_value e at v bytes) stride (at + stride * a + stride) (map (λ j. value_of (in_row z j)) (range_with_len (a + 1) k)) (put_value e (at + stride * a) v x)) (ap value_of (kept_guard (nat_lt a count) (seen e (at + stride * a) z) (lt-ltb a count less)))
        ∙ ap (λ q. put_row (λ at v bytes. put_value e at v bytes) stride q (map (λ j. value_of (in_row z j)) (range_with_len (a + 1) k)) (shown e (at + stride * a) z x)) (let e : at + stride * a + stride ≡ at + stride * (a + 1) = omega arith in e)

    rows_either : ((q : ℕ) → Either (shown e q)) → (a k : ℕ) → a + k ≤ count → Either (rows_of a k)
    rows_either each a zero few = inr (λ z x lz lx. refl)
    rows_either each a (suc k) few =
        either_so (rows_of a (suc k)) (behind (shown e (at + stride * a)) (rows_of (a + 1) k)) (λ z x lz. rows_next a k (omega (arith, few)) z x)
        (either_then (shown e (at + stride * a)) (rows_of (a + 1) k) (shown_long e (at + stride * a)) (each (at + stride * a)) (rows_either each (a + 1) k (omega (arith, few))))

    rows_tell : ((q : ℕ) → Either (shown e q)) → (a k j : ℕ) → a + k ≤ count → j < k → Tells (shown e (at + stride * (a + j))) → Tells (rows_of a k)
    rows_tell each a zero j few less tells = absurd (omega (arith, less))
    rows_tell each a (suc k) zero few less tells =
        tells_so (rows_of a (suc k)) (behind (shown e (at + stride * a)) (rows_of (a + 1) k)) (λ z x lz. rows_next a k (omega (arith, few)) z x)
        (tells_first (shown e (at + stride * a)) (rows_of (a + 1) k) (shown_long e (at + stride * a)) (subst (λ b. Tells (shown e (at + stride * b))) (let z : a + 0 ≡ a = omega arith in z) tells) (rows_either each (a + 1) k (omega (arith, few))))
    rows_tell each a (suc k) (suc j) few less tells =
        tells_so (rows_of a (suc k)) (behind (shown e (at + stride * a)) (rows_of (a + 1) k)) (λ z x lz. rows_next a k (omega (arith, few)) z x)
        (tells_last (shown e (at + stride * a)) (rows_of (a + 1) k) (shown_long e (at + stride * a)) (rows_tell each (a + 1) k j (omega (arith, few)) (omega (arith, less)) (subst (λ b. Tells (shown e (at + stride * b))) (let z : a + suc j ≡ a + 1 + j = omega arith in z) tells)))

    -- all of them
    all_rows : (z x : List ℕ) → put_row (λ at v bytes. put_value e at v bytes) stride at (parts_in (Many (map (λ j. value_of (in_row z j)) (range_with_len 0 count)))) x ≡ rows_of 0 count z x
    all_rows z x =
        ap (λ vs. put_row (λ at v bytes. put_value e at v bytes) stride at vs x) (parts_are (map (λ j. value_of (in_row z j)) (range_with_len 0 count)))
        ∙ ap (λ q. put_row (λ at v bytes. put_value e at v bytes) stride q (map (λ j. value_of (in_row z j)) (range_with_len 0 count)) x) (let e : at ≡ at + stride * 0 = omega arith in e)

  -- a runtime array has as many elements as there is room for
  open_rows : (e : Layout) (stride at : ℕ) (z x : List ℕ) → length z ≡ n → shown (Runtime stride e) at z x ≡ rows_of e stride at ((n - at) / stride) 0 ((n - at) / stride) z x
  open_rows e stride at z x lz =
      ap (λ k. put_row (λ at v bytes. put_value e at v bytes) stride at (parts_in (Many (map (λ j. value_of (in_row e stride at ((k - at) / stride) z j)) (range_with_len 0 ((k - at) / stride))))) x) lz
      ∙ all_rows e stride at ((n - at) / stride) z x

  -- members from one on, by what is seen of them
  abbrev members_of : Parts → ℕ → (List ℕ → ℕ → Tree) → ℕ → Puts
  members_of parts at show number z x = put_members parts at (map (λ k. value_of (show z k)) (range_with_len number (part_count parts))) x

  -- they are seen as they stand in a group
  abbrev Shows : Parts → ℕ → (List ℕ → ℕ → Tree) → ℕ → Type 0
  Shows parts at show number = (z : List ℕ) (k : ℕ) → show z (number + k) ≡ seen_part parts at z k

  members_next : (o : ℕ) (l : Layout) (rest : Parts) (at : ℕ) (show : List ℕ → ℕ → Tree) (number : ℕ) → Shows (Part o l rest) at show number → (z x : List ℕ) → members_of (Part o l rest) at show number z x ≡ members_of rest at show (number + 1) z (shown l (at + o) z x)
  members_next o l rest at show number shows z x =
      ap (λ k. put_members (Part o l rest) at (map (λ k. value_of (show z k)) (range_with_len number k)) x) (let e : part_count rest + 1 ≡ suc (part_count rest) = omega arith in e)
      ∙ ap (λ t. put_members rest at (map (λ k. value_of (show z k)) (range_with_len (number + 1) (part_count rest))) (put_value l (at + o) (value_of t) x)) (ap (show z) (let e : number ≡ number + 0 = omega arith in e) ∙ shows z 0)

  shows_next : (o : ℕ) (l : Layout) (rest : Parts) (at : ℕ) (show : List ℕ → ℕ → Tree) (number : ℕ) → Shows (Part o l rest) at show number → Shows rest at show (number + 1)
  shows_next o l rest at show number shows z k = ap (show z) (let e : number + 1 + k ≡ number + suc k = omega arith in e) ∙ shows z (suc k)

  members_long : (parts : Parts) (at : ℕ) (show : List ℕ → ℕ → Tree) (number : ℕ) → Long (members_of parts at show number)
  members_long parts at show number z x = members_length parts at (map (λ k. value_of (show z k)) (range_with_len number (part_count parts))) x

  group_is : (parts : Parts) (all at : ℕ) (z x : List ℕ) → shown (Group parts all) at z x ≡ members_of parts at (λ z k. seen_part parts at z k) 0 z x
  group_is parts all at z x = ap (λ vs. put_members parts at vs x) (parts_are (map (λ k. value_of (seen_part parts at z k)) (range_with_len 0 (part_count parts))))

  group_shows : (parts : Parts) (at : ℕ) → Shows parts at (λ z k. seen_part parts at z k) 0
  group_shows parts at z k = ap (seen_part parts at z) (let e : 0 + k ≡ k = omega arith in e)

  mutual
    value_either : (l : Layout) (at : ℕ) → Either (shown l at)
    value_either (Leaf c) at = either_so (shown (Leaf c) at) (run_of at 0 c) (λ z x lz. leaf_is c at z x) (run_either at 0 c)
    value_either (Array stride count e) at = either_so (shown (Array stride count e) at) (rows_of e stride at count 0 count) (λ z x lz. all_rows e stride at count z x) (rows_either e stride at count (λ q. value_either e q) 0 count (omega arith))
    value_either (Runtime stride e) at =
        either_so (shown (Runtime stride e) at) (rows_of e stride at ((n - at) / stride) 0 ((n - at) / stride)) (λ z x lz. open_rows e stride at z x lz) (rows_either e stride at ((n - at) / stride) (λ q. value_either e q) 0 ((n - at) / stride) (omega arith))
    value_either (Group parts all) at =
        either_so (shown (Group parts all) at) (members_of parts at (λ z k. seen_part parts at z k) 0) (λ z x lz. group_is parts all at z x) (members_either parts at (λ z k. seen_part parts at z k) 0 (group_shows parts at))

    members_either : (parts : Parts) (at : ℕ) (show : List ℕ → ℕ → Tree) (number : ℕ) → Shows parts at show number → Either (members_of parts at show number)
    members_either End at show number shows = inr (λ z x lz lx. refl)
    members_either (Part o l rest) at show number shows =
        either_so (members_of (Part o l rest) at show number) (behind (shown l (at + o)) (members_of rest at show (number + 1))) (λ z x lz. members_next o l rest at show number shows z x)
        (either_then (shown l (at + o)) (members_of rest at show (number + 1)) (shown_long l (at + o)) (value_either l (at + o)) (members_either rest at show (number + 1) (shows_next o l rest at show number shows)))

  members_tell : (parts : Parts) (at : ℕ) (show : List ℕ → ℕ → Tree) (number : ℕ) → Shows parts at show number → (k o : ℕ) (l : Layout) → part_at parts k ≡ Some l → offset_at parts k ≡ Some o → Tells (shown l (at + o)) → Tells (members_of parts at show number)
  members_tell End at show number shows k o l is_part is_offset tells = absurd (let z : ◌≡◌ {A = Option Layout} None (Some l) = is_part in cc)
  members_tell (Part first inner rest) at show number shows zero o l is_part is_offset tells =
      tells_so (members_of (Part first inner rest) at show number) (behind (shown inner (at + first)) (members_of rest at show (number + 1))) (λ z x lz. members_next first inner rest at show number shows z x)
      (tells_first (shown inner (at + first)) (members_of rest at show (number + 1)) (shown_long inner (at + first)) (subst (λ q. Tells (shown inner (at + q))) (some_number (sym is_offset)) (subst (λ l. Tells (shown l (at + o))) (some_layout (sym is_part)) tells))
      (members_either rest at show (number + 1) (shows_next first inner rest at show number shows)))
    where
      some_number : {a b : ℕ} → Some a ≡ Some b → a ≡ b
      some_number e = cc

      some_layout : {a b : Layout} → Some a ≡ Some b → a ≡ b
      some_layout e = cc
  members_tell (Part first inner rest) at show number shows (suc k) o l is_part is_offset tells =
      tells_so (members_of (Part first inner rest) at show number) (behind (shown inner (at + first)) (members_of rest at show (number + 1))) (λ z x lz. members_next first inner rest at show number shows z x)
      (tells_last (shown inner (at + first)) (members_of rest at show (number + 1)) (shown_long inner (at + first)) (members_tell rest at show (number + 1) (shows_next first inner rest at show number shows) k o l is_part is_offset tells))

  -- a byte of a run to which a path leads
  path_tells : (c : ℕ) (l leaf : Layout) (at q : ℕ) (path : List ℕ) → leaf ≡ Leaf c → Leads n l at path leaf q → q ≤ i → i < q + 4 * c → Tells (shown l at)
  path_tells c l leaf at q path is here low high = subst (λ l. Tells (shown l at)) (sym is) (tells_so (shown (Leaf c) at) (run_of at 0 c) (λ z x lz. leaf_is c at z x) (run_tells at 0 c (omega (arith, low)) (omega (arith, high))))
  path_tells c l leaf at q path is (member {members = members} {all = all} {i = k} {o = o} {m = inner} {path = rest} is_part is_offset leads) low high =
      tells_so (shown (Group members all) at) (members_of members at (λ z k. seen_part members at z k) 0) (λ z x lz. group_is members all at z x)
      (members_tell members at (λ z k. seen_part members at z k) 0 (group_shows members at) k o inner is_part is_offset (path_tells c inner leaf (at + o) q rest is leads low high))
  path_tells c l leaf at q path is (element {stride = stride} {count = count} {i = k} {e = e} {path = rest} below leads) low high =
      tells_so (shown (Array stride count e) at) (rows_of e stride at count 0 count) (λ z x lz. all_rows e stride at count z x)
      (rows_tell e stride at count (λ q. value_either e q) 0 count k (omega arith) below (subst (λ b. Tells (shown e (at + stride * b))) (let z : k ≡ 0 + k = omega arith in z) (path_tells c e leaf (at + stride * k) q rest is leads low high)))
  path_tells c l leaf at q path is (open_element {stride = stride} {i = k} {e = e} {path = rest} below leads) low high =
      tells_so (shown (Runtime stride e) at) (rows_of e stride at ((n - at) / stride) 0 ((n - at) / stride)) (λ z x lz. open_rows e stride at z x lz)
      (rows_tell e stride at ((n - at) / stride) (λ q. value_either e q) 0 ((n - at) / stride) k (omega arith) below (subst (λ b. Tells (shown e (at + stride * b))) (let z : k ≡ 0 + k = omega arith in z) (path_tells c e leaf (at + stride * k) q rest is leads low high)))

-- ---- what is stored

small_set : (bytes : List ℕ) (k byte : ℕ) → byte < 256 → AreSmall bytes → AreSmall (set bytes k byte)
small_set [] k byte less small = tt
small_set (b ∷ bytes) zero byte less small = (less, small.1)
small_set (b ∷ bytes) (suc k) byte less small = (small.0, small_set bytes k byte less small.1)

small_word : (bytes : List ℕ) (at word : ℕ) → AreSmall bytes → AreSmall (put_word bytes at word)
unfolding put_word
small_word bytes at word small =
    small_set _ (at + 3) (word / 16777216 % 256) (omega arith) (small_set _ (at + 2) (word / 65536 % 256) (omega arith) (small_set _ (at + 1) (word / 256 % 256) (omega arith) (small_set bytes at (word % 256) (omega arith) small)))

pub small_words : (at : ℕ) (words bytes : List ℕ) → AreSmall bytes → AreSmall (put_words at words bytes)
small_words at [] bytes small = small
small_words at (word ∷ words) bytes small = small_words (at + 4) words (put_word bytes at word) (small_word bytes at word small)

words_elsewhere : (i at : ℕ) (words bytes : List ℕ) → (i < at) ⊎ (at + 4 * length words ≤ i) → get_or (put_words at words bytes) i 0 ≡ get_or bytes i 0
words_elsewhere i at [] bytes apart = refl
words_elsewhere i at (word ∷ words) bytes (inl less) = words_elsewhere i (at + 4) words (put_word bytes at word) (inl (omega (arith, less))) ∙ others_kept bytes at word i (inl less)
words_elsewhere i at (word ∷ words) bytes (inr more) =
    words_elsewhere i (at + 4) words (put_word bytes at word) (inr (let m : at + 4 * suc (length words) ≤ i = more in omega (arith, m))) ∙ others_kept bytes at word i (inr (let m : at + 4 * suc (length words) ≤ i = more in omega (arith, m)))

module _ (l : Layout) (c q : ℕ) (path words given bytes : List ℕ) (is : IsLayout l) (fits : need l ≤ length bytes) (long : length given ≡ length bytes) (small : AreSmall bytes) (told : put_value l 0 (value_of (seen l 0 bytes)) given ≡ bytes) (leads : Leads (length bytes) l 0 path (Leaf c) q) (some : 1 ≤ c) (many : length words ≡ c)
    (below : AllByRecursion (λ word. word < 2 ^ 32) words) where
  later : List ℕ
  later = put_words q words bytes

  later_long : length later ≡ length bytes
  unfolding later
  later_long = words_length q words bytes

  later_small : AreSmall later
  unfolding later
  later_small = small_words q words bytes small

  each_byte : (i : ℕ) → i < length bytes → get_or (put_value l 0 (value_of (seen l 0 later)) given) i 0 ≡ get_or later i 0
  unfolding later
  each_byte i less = by (value_either (length bytes) i less l 0)
    where
      unmoved : (i < q) ⊎ (q + 4 * length words ≤ i) → get_or later i 0 ≡ get_or bytes i 0
      unmoved apart = words_elsewhere i q words bytes apart

      by_range : Keeps (length bytes) i less (shown (length bytes) i less l 0) → (i < q) ⊎ (q ≤ i) → (i < q + 4 * c) ⊎ (q + 4 * c ≤ i) → get_or later i 0 ≡ get_or bytes i 0
      by_range keeps (inl under) b = unmoved (inl under)
      by_range keeps (inr low) (inl high) = sym (path_tells (length bytes) i less c l (Leaf c) 0 q path refl leads low high later bytes later_long refl later_small) ∙ keeps later bytes later_long refl
      by_range keeps (inr low) (inr past) = unmoved (inr (subst (λ n. q + 4 * n ≤ i) (sym many) past))

      by : Either (length bytes) i less (shown (length bytes) i less l 0) → get_or (put_value l 0 (value_of (seen l 0 later)) given) i 0 ≡ get_or later i 0
      by (inl tells) = tells later given later_long long later_small
      by (inr keeps) =
          keeps later given later_long long ∙ sym (keeps bytes given refl long) ∙ ap (λ b. get_or b i 0) told
          ∙ sym (by_range keeps (cases_lt i q) (cases_lt i (q + 4 * c)))

  pub bytes_told : put_value l 0 (with_value_at (value_of (seen l 0 bytes)) path (of_components words)) given ≡ put_words q words bytes
  unfolding later
  bytes_told =
      ap (λ v. put_value l 0 v given) (sym (all_seen l 0 q c path is words bytes (omega (arith, fits)) leads some many below))
      ∙ ext_get_or 0 (put_value l 0 (value_of (seen l 0 later)) given) later (value_length l 0 (value_of (seen l 0 later)) given ∙ long ∙ sym later_long)
      (λ i less. each_byte i (let n = value_length l 0 (value_of (seen l 0 later)) given in omega (arith, less, n, long)))
