-- Components that are stored one by one.
use Rattle.std.proofs.Common.{◌≡◌, refl, sym, ap, ap₂, ◌∙◌, subst, ℕ, zero, suc, ◌+◌, ◌*◌, ◌^◌, ◌<◌, ◌≤◌, List, [], ◌∷◌, length, map, set, arith}
use Rattle.std.specs.List.{AllByRecursion, range_with_len}
use Rattle.std.proofs.lemmas.List.{length-set}
use Rattle.std.proofs.lemmas.List.FromFn.{length-map-range_with_len}
use Rattle.gsl_layout.specs.Layout.{IsLayout, Layout, Leaf, need}
use Rattle.gsl_words.specs.Words.{put_word, word_at}
use Rattle.gsl_words.proofs.Bytes.{byte_small, put-length, put-word_at, word_behind}
use Rattle.gsl_values.specs.declared.value.Value.{Value}
use Rattle.gsl_tree.specs.Operations.{with_value_at}
use Rattle.gsl_tree.specs.Values.{of_components}
use Rattle.gsl_views.specs.Buffers.{put_words}
use Rattle.gsl_views.specs.Paths.{Leads}
use Rattle.gsl_views.specs.Seen.{seen}
use Rattle.gsl_views.proofs.Kept.{run_same}
use Rattle.gsl_views.proofs.Words.{word_is}
use Rattle.gsl_meaning.specs.Blocks.{put_value, value_of}
use Rattle.gsl_lower_law_components.specs.OfLawPlaces.{set_each}
use Rattle.gsl_lower_law_components.specs.Putting.{put_components}
use Rattle.gsl_lower_law_views.proofs.Stored.{all_seen, put_twice, run_changed}
use Rattle.gsl_lower_law_bytes.proofs.Told.{AreSmall, bytes_told, small_words}

-- the words of a run
abbrev pub run : List ℕ → ℕ → ℕ → ℕ → List ℕ
run bytes q a m = map (λ k. word_at bytes (q + 4 * k)) (range_with_len a m)

-- words that are there already
run_again : (bytes : List ℕ) (q a m : ℕ) → AreSmall bytes → put_words (q + 4 * a) (run bytes q a m) bytes ≡ bytes
run_again bytes q a zero small = refl
run_again bytes q a (suc m) small =
    ap (λ b. put_words (q + 4 * a + 4) (run bytes q (a + 1) m) b) (put-word_at bytes (q + 4 * a) small)
    ∙ ap (λ at. put_words at (run bytes q (a + 1) m) bytes) (let e : q + 4 * a + 4 ≡ q + 4 * (a + 1) = omega arith in e) ∙ run_again bytes q (a + 1) m small

-- one word of a run is put as the run with that word
one_in_run : (bytes : List ℕ) (q a m c word : ℕ) → AreSmall bytes → AreSmall (put_word bytes (q + 4 * (a + c)) word) → c < m → put_words (q + 4 * a) (set (run bytes q a m) c word) bytes ≡ put_word bytes (q + 4 * (a + c)) word
one_in_run bytes q a zero c word small later less = absurd (omega (arith, less))
one_in_run bytes q a (suc m) zero word small later less =
    let here : q + 4 * (a + 0) ≡ q + 4 * a = omega arith in
    let now : AreSmall (put_word bytes (q + 4 * a) word) = subst (λ at. AreSmall (put_word bytes at word)) here later in
    ap₂ (λ at ws. put_words at ws (put_word bytes (q + 4 * a) word)) (let e : q + 4 * a + 4 ≡ q + 4 * (a + 1) = omega arith in e)
    (run_same (λ k. word_at bytes (q + 4 * k)) (λ k. word_at (put_word bytes (q + 4 * a) word) (q + 4 * k)) (a + 1) m (λ k low high. sym (word_behind bytes (q + 4 * a) word (q + 4 * k) (omega (arith, low)))))
    ∙ run_again (put_word bytes (q + 4 * a) word) q (a + 1) m now
    ∙ ap (λ at. put_word bytes at word) (sym here)
one_in_run bytes q a (suc m) (suc c) word small later less =
    let there : q + 4 * (a + suc c) ≡ q + 4 * (a + 1 + c) = omega arith in
    ap (λ b. put_words (q + 4 * a + 4) (set (run bytes q (a + 1) m) c word) b) (put-word_at bytes (q + 4 * a) small)
    ∙ ap (λ at. put_words at (set (run bytes q (a + 1) m) c word) bytes) (let e : q + 4 * a + 4 ≡ q + 4 * (a + 1) = omega arith in e)
    ∙ one_in_run bytes q (a + 1) m c word small (subst (λ at. AreSmall (put_word bytes at word)) there later) (let less : suc c < suc m = less in omega (arith, less))
    ∙ ap (λ at. put_word bytes at word) (sym there)

word_small : (bytes : List ℕ) (at : ℕ) → AreSmall bytes → word_at bytes at < 2 ^ 32
word_small bytes at small =
    let a = byte_small bytes small at in
    let b = byte_small bytes small (at + 1) in
    let c = byte_small bytes small (at + 2) in
    let d = byte_small bytes small (at + 3) in
    omega (arith, word_is bytes at, a, b, c, d)

run_small : (bytes : List ℕ) (q a m : ℕ) → AreSmall bytes → AllByRecursion (λ word. word < 2 ^ 32) (run bytes q a m)
run_small bytes q a zero small = tt
run_small bytes q a (suc m) small = (word_small bytes (q + 4 * a) small, run_small bytes q (a + 1) m small)

set_small : (ws : List ℕ) (k word : ℕ) → word < 2 ^ 32 → AllByRecursion (λ word. word < 2 ^ 32) ws → AllByRecursion (λ word. word < 2 ^ 32) (set ws k word)
set_small [] k word less all = tt
set_small (w ∷ ws) zero word less all = (less, all.1)
set_small (w ∷ ws) (suc k) word less all = (all.0, set_small ws k word less all.1)

module _ (l : Layout) (c q : ℕ) (path given : List ℕ) (is : IsLayout l) (some : 1 ≤ c) where
  -- Bytes are those that were given, with what is seen of them put.
  pub record AreTold (bytes : List ℕ) : Type 0 where
    pub fits : need l ≤ length bytes
    pub long : length given ≡ length bytes
    pub small : AreSmall bytes
    pub told : put_value l 0 (value_of (seen l 0 bytes)) given ≡ bytes
    pub leads : Leads (length bytes) l 0 path (Leaf c) q

  abbrev At : List ℕ → List ℕ → Value
  At bytes ws = with_value_at (value_of (seen l 0 bytes)) path (of_components ws)

  -- the run as it is
  same_seen : (bytes : List ℕ) → AreTold bytes → At bytes (run bytes q 0 c) ≡ value_of (seen l 0 bytes)
  same_seen bytes x =
      sym (all_seen l 0 q c path is (run bytes q 0 c) bytes (let fits = x.fits in omega (arith, fits)) x.leads some (length-map-range_with_len (λ k. word_at bytes (q + 4 * k)) 0 c) (run_small bytes q 0 c x.small))
      ∙ ap (λ b. value_of (seen l 0 b)) (ap (λ at. put_words at (run bytes q 0 c) bytes) (let e : q ≡ q + 4 * 0 = omega arith in e) ∙ run_again bytes q 0 c x.small)

  -- one component
  record OneTold (bytes : List ℕ) (position word : ℕ) : Type 0 where
    later : AreTold (put_word bytes (q + 4 * position) word)
    is_seen : value_of (seen l 0 (put_word bytes (q + 4 * position) word)) ≡ At bytes (set (run bytes q 0 c) position word)
    is_run : run (put_word bytes (q + 4 * position) word) q 0 c ≡ set (run bytes q 0 c) position word

  one_told : (bytes : List ℕ) (position word : ℕ) → AreTold bytes → position < c → word < 2 ^ 32 → OneTold bytes position word
  one_told bytes position word x less small_word = record {
    later = record {
      fits = subst (λ n. need l ≤ n) (sym long) x.fits;
      long = x.long ∙ sym long;
      small = small;
      told = ap (λ v. put_value l 0 v given) is_seen ∙ told ∙ same;
      leads = subst (λ n. Leads n l 0 path (Leaf c) q) (sym long) x.leads;
    };
    is_seen = is_seen;
    is_run = run_changed l 0 q c path is bytes position word (let fits = x.fits in omega (arith, fits)) x.leads less small_word;
  }
    where
      words : List ℕ
      words = set (run bytes q 0 c) position word

      long : length (put_word bytes (q + 4 * position) word) ≡ length bytes
      long = put-length bytes (q + 4 * position) word

      small : AreSmall (put_word bytes (q + 4 * position) word)
      small = small_words (q + 4 * position) (word ∷ []) bytes x.small

      same : put_words q (set (run bytes q 0 c) position word) bytes ≡ put_word bytes (q + 4 * position) word
      same =
          let here : q + 4 * (0 + position) ≡ q + 4 * position = omega arith in
          ap (λ at. put_words at (set (run bytes q 0 c) position word) bytes) (let e : q ≡ q + 4 * 0 = omega arith in e)
          ∙ one_in_run bytes q 0 c position word x.small (subst (λ at. AreSmall (put_word bytes at word)) (sym here) small) less ∙ ap (λ at. put_word bytes at word) here

      many : length (set (run bytes q 0 c) position word) ≡ c
      many = length-set (run bytes q 0 c) position word ∙ length-map-range_with_len (λ k. word_at bytes (q + 4 * k)) 0 c

      below : AllByRecursion (λ word. word < 2 ^ 32) (set (run bytes q 0 c) position word)
      below = set_small (run bytes q 0 c) position word small_word (run_small bytes q 0 c x.small)

      is_seen : value_of (seen l 0 (put_word bytes (q + 4 * position) word)) ≡ At bytes (set (run bytes q 0 c) position word)
      is_seen = ap (λ b. value_of (seen l 0 b)) (sym same) ∙ all_seen l 0 q c path is (set (run bytes q 0 c) position word) bytes (let fits = x.fits in omega (arith, fits)) x.leads some many below

      told : put_value l 0 (At bytes (set (run bytes q 0 c) position word)) given ≡ put_words q (set (run bytes q 0 c) position word) bytes
      told = bytes_told l c q path (set (run bytes q 0 c) position word) given bytes is x.fits x.long x.small x.told x.leads some many below

  -- several, one behind the other
  pub record PartsTold (bytes positions words : List ℕ) : Type 0 where
    pub later : AreTold (put_components q positions words bytes)
    pub is_seen : value_of (seen l 0 (put_components q positions words bytes)) ≡ At bytes (set_each positions words (run bytes q 0 c))

  pub parts_told : (positions words bytes : List ℕ) → AreTold bytes → AllByRecursion (λ position. position < c) positions → AllByRecursion (λ word. word < 2 ^ 32) words → PartsTold bytes positions words
  parts_told [] words bytes x less small = record { later = x; is_seen = sym (same_seen bytes x) }
  parts_told (position ∷ positions) [] bytes x less small = record { later = x; is_seen = sym (same_seen bytes x) }
  parts_told (position ∷ positions) (word ∷ words) bytes x less small =
      let one = one_told bytes position word x less.0 small.0 in
      let rest = parts_told positions words (put_word bytes (q + 4 * position) word) one.later less.1 small.1 in
      record {
        later = rest.later;
        is_seen = rest.is_seen
            ∙ ap₂ (λ v ws. with_value_at v path (of_components (set_each positions words ws))) one.is_seen one.is_run
            ∙ put_twice (value_of (seen l 0 bytes)) path (of_components (set (run bytes q 0 c) position word)) (of_components (set_each positions words (set (run bytes q 0 c) position word)));
      }
