-- What is seen away from a word that is put stays as it is.
use mathlib.Core.Path.{fun_ext}
use Rattle.std.proofs.Common.{◌≡◌, refl, sym, ap, ◌∙◌, ℕ, zero, suc, ◌+◌, ◌-◌, ◌*◌, ◌/◌, ◌<◌, ◌≤◌, List, ◌∷◌, length, map, IsTrue, arith}
use Rattle.std.specs.Prelude.{Bool, true, false, nat_lt, if◌then◌else◌}
use Rattle.std.specs.List.{range_with_len}
use Rattle.std.proofs.Math.Nat.{mul-le-mul_left}
use Rattle.std.proofs.lemmas.Bool.{and_parts, ltb-true, true≢false}
use Rattle.gsl_layout.specs.Kinds.{part_count}
use Rattle.gsl_layout.specs.Layout.{Layout, Leaf, Array, Runtime, Group, Parts, End, Part, all_closed, closed, need, need_of}
use Rattle.gsl_views.specs.Seen.{Tree, Words, Many, nothing, row, seen, seen_part}
use Rattle.gsl_words.specs.Words.{put_word, word_at}
use Rattle.gsl_words.proofs.Bytes.{put-length, word_before, word_behind}

-- the same where a test holds, and nothing where it does not
guarded : (b : Bool) (s t : Tree) → (IsTrue b → s ≡ t) → (if b then s else nothing) ≡ (if b then t else nothing)
guarded true s t same = same refl
guarded false s t same = refl

pub run_same : (f g : ℕ → ℕ) (a n : ℕ) → ((c : ℕ) → a ≤ c → c < a + n → f c ≡ g c) → map f (range_with_len a n) ≡ map g (range_with_len a n)
run_same f g a zero same = refl
run_same f g a (suc n) same = ap (λ x. x ∷ map f (range_with_len (a + 1) n)) (same a (omega arith) (omega arith))
    ∙ ap (λ xs. g a ∷ xs) (run_same f g (a + 1) n (λ c low high. same c (omega (arith, low)) (omega (arith, high))))

-- rows of parts that are the same
pub row_same : (m n : ℕ) (f g : ℕ → Tree) → m ≡ n → ((i : ℕ) → i < n → f i ≡ g i) → row m f ≡ row n g
row_same m n f g counts same = ap (λ k. row k f) counts ∙ ap (Many n) (fun_ext (λ i. guarded (nat_lt i n) (f i) (g i) (λ is. same i (ltb-true i n is))))

pub less : (i count : ℕ) → i < count → i ≤ count - 1
less i count below = omega (arith, below)

module _ (bytes : List ℕ) (q word : ℕ) where
  abbrev now : List ℕ
  now = put_word bytes q word

  -- words that stand apart from the place
  run_kept : (at n : ℕ) → ((c : ℕ) → c < n → word_at now (at + 4 * c) ≡ word_at bytes (at + 4 * c)) → Words (map (λ c. word_at now (at + 4 * c)) (range_with_len 0 n)) ≡ Words (map (λ c. word_at bytes (at + 4 * c)) (range_with_len 0 n))
  run_kept at n same = ap Words (run_same (λ c. word_at now (at + 4 * c)) (λ c. word_at bytes (at + 4 * c)) 0 n (λ c low high. same c (omega (arith, high))))

  mutual
    -- behind the word
    pub kept_behind : (layout : Layout) (at : ℕ) → q + 4 ≤ at → seen layout at now ≡ seen layout at bytes
    kept_behind (Leaf components) at behind = run_kept at components (λ c below. word_behind bytes q word (at + 4 * c) (omega (arith, behind)))
    kept_behind (Array stride count element) at behind =
        row_same count count _ _ refl (λ i below. kept_behind element (at + stride * i) (omega (arith, behind)))
    kept_behind (Runtime stride element) at behind =
        row_same ((length now - at) / stride) ((length bytes - at) / stride) _ _ (ap (λ n. (n - at) / stride) (put-length bytes q word)) (λ i below. kept_behind element (at + stride * i) (omega (arith, behind)))
    kept_behind (Group members all) at behind = ap (Many (part_count members)) (fun_ext (λ i. parts_behind members at i behind))

    parts_behind : (parts : Parts) (at i : ℕ) → q + 4 ≤ at → seen_part parts at now i ≡ seen_part parts at bytes i
    parts_behind End at i behind = refl
    parts_behind (Part offset layout rest) at zero behind = kept_behind layout (at + offset) (omega (arith, behind))
    parts_behind (Part offset layout rest) at (suc i) behind = parts_behind rest at i behind

  mutual
    -- before the word, where no runtime array may reach it
    pub kept_before : (layout : Layout) (at : ℕ) → IsTrue (closed layout) → at + need layout ≤ q → seen layout at now ≡ seen layout at bytes
    kept_before (Leaf components) at shut before = run_kept at components (λ c below. word_before bytes q word (at + 4 * c) (omega (arith, before, below)))
    kept_before (Array stride count element) at shut before =
        row_same count count _ _ refl (λ i below. kept_before element (at + stride * i) shut (omega (arith, before, mul-le-mul_left stride (less i count below))))
    kept_before (Runtime stride element) at shut before = let never : ⊥ = true≢false (sym shut) in elim never [ ]
    kept_before (Group members all) at shut before = ap (Many (part_count members)) (fun_ext (λ i. parts_before members at i shut before))

    parts_before : (parts : Parts) (at i : ℕ) → IsTrue (all_closed parts) → at + need_of parts ≤ q → seen_part parts at now i ≡ seen_part parts at bytes i
    parts_before End at i shut before = refl
    parts_before (Part offset layout rest) at zero shut before = kept_before layout (at + offset) (and_parts _ _ shut).0 (omega (arith, before))
    parts_before (Part offset layout rest) at (suc i) shut before = parts_before rest at i (and_parts _ _ shut).1 (omega (arith, before))
