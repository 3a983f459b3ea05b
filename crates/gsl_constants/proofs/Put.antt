-- Words that are put behind others, and the rows as they grow by an instruction.
use mathlib.Core.Path.{fun_ext}
use Rattle.std.proofs.Common.{◌≡◌, refl, sym, ap, ◌∙◌, subst, ℕ, zero, suc, ◌+◌, ◌-◌, ◌<◌, ◌≤◌, ◌⊎◌, ◌≢◌, inl, inr, List, [], ◌∷◌, ◌++◌, length, get_or, set, take, drop, map, replicate, Option, Some, None, length-append, arith}
use Rattle.std.proofs.lemmas.Bool.{cases_eq, cond-true, cond-false, eq-eqb, ne_eqb}
use Rattle.std.proofs.lemmas.List.{drop-append-le, get_or-set_same, get_or-set_other, length-drop, take-append-le}
use Rattle.std.proofs.lemmas.List.Folds.{flat_map-map}
use Rattle.std.proofs.Math.Seq.{drop-append_seam, take-length}
use Rattle.gsl_words.specs.declared.module.Instr.{Instr}
use Rattle.gsl_words.specs.declared.module.Module.{Module}
use Rattle.gsl_values.specs.declared.value.Value.{Value}
use Rattle.gsl_valid.specs.Ids.{is_id, result}
use Rattle.gsl_valid.specs.Instruction.{read}
use Rattle.gsl_valid.specs.Kinds.{Value as Fixed, Truth, Word, Parts, Zeros, constant_is}
use Rattle.gsl_valid.specs.Placed.{Code}
use Rattle.gsl_valid.specs.Search.{whole}
use Rattle.gsl_machine.specs.Constants.{constant_in, fixed, fixed_if, truth_of}
use Rattle.gsl_leaves.specs.Table.{most, told}
use Rattle.gsl_leaves_law.proofs.Counted.{zeros_are}
use Rattle.gsl_region.specs.Flat.{flat}
use Rattle.gsl_region.proofs.Focus.{flat_many, flat_word}
use Rattle.gsl_constants.specs.Rows.{IsRow, Tells, row, words_as, words_if}

-- a count that is told below the most is told as it is
pub told_whole : (n count : ℕ) → count ≡ told n → count < most → count ≡ n
unfolding told
told_whole n count is below = omega (arith, is, below)

-- what stands within some words stands there behind more of them
pub within_more : (words more : List ℕ) (first count : ℕ) → first + count ≤ length words → take count (drop first (words ++ more)) ≡ take count (drop first words)
within_more words more first count room = ap (take count) (drop-append-le first words more (omega (arith, room))) ∙ take-append-le count (drop first words) more (omega (arith, room, length-drop first words))

-- ---- the words of a constant by those of its parts

flat_as : (m : Module) (g : ℕ → Value) (i : Instr) (type : ℕ) (v : Fixed) → flat (fixed m g i type v) ≡ words_as m (λ id. flat (g id)) i type v
flat_as m g i type Truth = flat_word (truth_of i)
flat_as m g i type (Word word) = flat_word word
flat_as m g i type (Parts parts) = flat_many (map g parts) ∙ flat_map-map flat g parts
flat_as m g i type Zeros = zeros_are m (whole m) type

flat_if : (m : Module) (g : ℕ → Value) (i : Instr) (c : Option (ℕ × Fixed)) → flat (fixed_if m g i c) ≡ words_if m (λ id. flat (g id)) i c
flat_if m g i None = flat_many []
flat_if m g i (Some c) = flat_as m g i c.0 c.1

-- ---- the rows

module _ (m : Module) (before : Code) (words firsts counts : List ℕ) (tells : Tells words firsts counts m before) where
  pub rooms : (id : ℕ) → get_or firsts id 0 + get_or counts id 0 ≤ length words
  rooms id = (tells id).within

  rows_are : ◌≡◌ {A = ℕ → List ℕ} (row words firsts counts) (λ id. flat (constant_in m before id))
  rows_are = fun_ext (λ id. (tells id).is)

  module _ (i : Instr) where
    pub none_noted : result (read i) ≡ None → Tells words firsts counts m (i ∷ before)
    none_noted e id = record { within = (tells id).within; is = (tells id).is ∙ ap flat (sym (cond-false _ _ _ (ap (is_id id) e))) }

    one_noted : (all new : List ℕ) (r count : ℕ) → r < length firsts → r < length counts → result (read i) ≡ Some r → new ≡ words_if m (row words firsts counts) i (constant_is (read i)) → all ≡ words ++ new → count ≡ length all - length words
        → Tells all (set firsts r (length words)) (set counts r count) m (i ∷ before)
    one_noted all new r count in_firsts in_counts e is put counted id = by_cases (cases_eq r id)
      where
        long : count ≡ length new
        long = omega (arith, counted, ap length put, length-append words new)

        first_here : (k : ℕ) → r ≡ k → get_or (set firsts r (length words)) k 0 ≡ length words
        first_here k same = ap (λ j. get_or (set firsts r (length words)) j 0) (sym same) ∙ get_or-set_same firsts r (length words) 0 in_firsts

        count_here : (k : ℕ) → r ≡ k → get_or (set counts r count) k 0 ≡ count
        count_here k same = ap (λ j. get_or (set counts r count) j 0) (sym same) ∙ get_or-set_same counts r count 0 in_counts

        value : new ≡ flat (fixed_if m (constant_in m before) i (constant_is (read i)))
        value = is ∙ ap (λ (f : ℕ → List ℕ). words_if m f i (constant_is (read i))) rows_are ∙ sym (flat_if m (constant_in m before) i (constant_is (read i)))

        by_cases : (r ≡ id) ⊎ (r ≢ id) → IsRow all (set firsts r (length words)) (set counts r count) m (i ∷ before) id
        by_cases (inl same) = record {
          within = omega (arith, first_here id same, count_here id same, long, ap length put, length-append words new);
          is = ap (λ k. take (get_or (set counts r count) id 0) (drop k all)) (first_here id same) ∙ ap (λ k. take k (drop (length words) all)) (count_here id same ∙ long)
              ∙ ap (λ l. take (length new) (drop (length words) l)) put ∙ ap (take (length new)) (drop-append_seam words new) ∙ take-length new
              ∙ value ∙ ap flat (sym (cond-true _ _ _ (ap (is_id id) e ∙ eq-eqb r id same)));
        }
        by_cases (inr other) =
            let first : get_or (set firsts r (length words)) id 0 ≡ get_or firsts id 0 = get_or-set_other firsts r id (length words) 0 (λ same. other (sym same)) in
            let many : get_or (set counts r count) id 0 ≡ get_or counts id 0 = get_or-set_other counts r id count 0 (λ same. other (sym same)) in
            record {
              within = omega (arith, first, many, (tells id).within, ap length put, length-append words new);
              is = ap (λ k. take (get_or (set counts r count) id 0) (drop k all)) first ∙ ap (λ k. take k (drop (get_or firsts id 0) all)) many
                  ∙ ap (λ l. take (get_or counts id 0) (drop (get_or firsts id 0) l)) put ∙ within_more words new (get_or firsts id 0) (get_or counts id 0) (tells id).within
                  ∙ (tells id).is ∙ ap flat (sym (cond-false _ _ _ (ap (is_id id) e ∙ ne_eqb r id other)));
            }

    -- the same, where the first place and the count were told
    pub one_told : (all new : List ℕ) (r first count : ℕ) → r < length firsts → r < length counts → result (read i) ≡ Some r → new ≡ words_if m (row words firsts counts) i (constant_is (read i)) → all ≡ words ++ new → first ≡ length words → count ≡ length all - length words
        → Tells all (set firsts r first) (set counts r count) m (i ∷ before)
    one_told all new r first count in_firsts in_counts e is put begins counted =
        subst (λ k. Tells all (set firsts r k) (set counts r count) m (i ∷ before)) (sym begins) (one_noted all new r count in_firsts in_counts e is put counted)

zero_at : (n id : ℕ) → ◌≡◌ {A = ℕ} (get_or (replicate n 0) id 0) 0
zero_at zero id = refl
zero_at (suc n) zero = refl
zero_at (suc n) (suc id) = zero_at n id

pub nothing_noted : (m : Module) (n : ℕ) → Tells [] (replicate n 0) (replicate n 0) m []
nothing_noted m n id = record {
  within = omega (arith, zero_at n id);
  is = ap (λ k. take k (drop (get_or (replicate n 0) id 0) [])) (zero_at n id) ∙ sym (flat_many []);
}
