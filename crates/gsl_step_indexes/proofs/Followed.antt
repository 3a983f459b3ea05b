-- A chain of indexes that is followed one by one.
use Rattle.std.proofs.Common.{◌≡◌, sym, ap, ◌∙◌, subst, ℕ, zero, suc, ◌+◌, ◌<◌, ◌≤◌, true, false, List, [], ◌∷◌, length, drop, Option, Some, None, refl, inl, inr, arith}
use Rattle.std.specs.Prelude.{nat_lt, slice_index}
use Rattle.std.proofs.lemmas.Bool.{cases_Bool, cond-false, cond-true, lt-ltb, ltb-true}
use Rattle.gsl_words.specs.declared.module.Module.{Module}
use Rattle.gsl_leaves.specs.Table.{most}
use Rattle.gsl_operands.specs.Operands.{stands}
use Rattle.gsl_step.specs.declared.machine.Machine.{Machine}
use Rattle.gsl_step_values.specs.Parts.{part_of}
use Rattle.gsl_step_values.proofs.Inside.{cut_at}
use Rattle.gsl_step_indexes.specs.Indexes.{IsToldAlong, along, further, parts_if, word_of}

not_below : (n k : ℕ) → k ≤ n → nat_lt n k ≡ false
not_below n k over = elim (cases_Bool (nat_lt n k)) [ inl is ↦ (let low = ltb-true n k is in absurd (omega (arith, low, over))) | inr not_so ↦ not_so ]

nothing_left : (xs : List ℕ) (k : ℕ) → length xs ≤ k → drop k xs ≡ []
nothing_left [] zero over = refl
nothing_left [] (suc k) over = refl
nothing_left (x ∷ xs) zero over = absurd (omega (arith, over))
nothing_left (x ∷ xs) (suc k) over = nothing_left xs k (omega (arith, over))

module _ (m : Module) (machine : Machine) (whole part : Option ℕ) (from at k : ℕ) (indexes : List ℕ)
    (so_far : IsToldAlong m machine whole from indexes → IsToldAlong m machine part at (drop k indexes) × (along m machine part at (drop k indexes) ≡ along m machine whole from indexes)) (told : IsToldAlong m machine whole from indexes) where
  pub follow_ends : length indexes ≤ k → Some at ≡ along m machine whole from indexes
  follow_ends over = sym (ap (along m machine part at) (nothing_left indexes k over)) ∙ (so_far told).1

  module _ (word count : ℕ) (low : k < length indexes)
      (reads : slice_index indexes k < m.bound → stands m machine.standing.slots (slice_index indexes k) ≤ most → stands m machine.standing.slots (slice_index indexes k) < length machine.slots → word ≡ word_of m machine (slice_index indexes k)) (is_count : count ≡ parts_if m part) where
    abbrev Rest : List ℕ
    Rest = drop (k + 1) indexes

    abbrev Index : ℕ
    Index = slice_index indexes k

    here : IsToldAlong m machine part at (Index ∷ Rest)
    here = subst (IsToldAlong m machine part at) (cut_at indexes k low) (so_far told).0

    word_is : word ≡ word_of m machine Index
    word_is = reads here.0 here.1 here.2

    now : along m machine part at (Index ∷ Rest) ≡ along m machine whole from indexes
    now = sym (ap (along m machine part at) (cut_at indexes k low)) ∙ (so_far told).1

    pub follow_strays : count ≤ word → None ≡ along m machine whole from indexes
    follow_strays over =
        let test : nat_lt (word_of m machine Index) (parts_if m part) ≡ false = ap (λ n. nat_lt n (parts_if m part)) (sym word_is) ∙ not_below word (parts_if m part) (omega (arith, over, is_count)) in
        sym (cond-false (nat_lt (word_of m machine Index) (parts_if m part)) (along m machine (part_of m part (word_of m machine Index)) (further m part at (word_of m machine Index)) Rest) None test) ∙ now

    pub follow_more : (next : Option ℕ) (then_at : ℕ) → word < count → next ≡ part_of m part word → then_at ≡ further m part at word → IsToldAlong m machine next then_at Rest × (along m machine next then_at Rest ≡ along m machine whole from indexes)
    follow_more next then_at below next_is at_is =
        let test : nat_lt (word_of m machine Index) (parts_if m part) ≡ true = ap (λ n. nat_lt n (parts_if m part)) (sym word_is) ∙ lt-ltb word (parts_if m part) (omega (arith, below, is_count)) in
        let next_same : part_of m part (word_of m machine Index) ≡ next = ap (part_of m part) (sym word_is) ∙ sym next_is in
        let at_same : further m part at (word_of m machine Index) ≡ then_at = ap (further m part at) (sym word_is) ∙ sym at_is in (
          subst (λ o. IsToldAlong m machine o then_at Rest) next_same (subst (λ n. IsToldAlong m machine (part_of m part (word_of m machine Index)) n Rest) at_same (here.3 test)),
          sym (cond-true (nat_lt (word_of m machine Index) (parts_if m part)) (along m machine (part_of m part (word_of m machine Index)) (further m part at (word_of m machine Index)) Rest) None test
              ∙ ap (λ o. along m machine o (further m part at (word_of m machine Index)) Rest) next_same ∙ ap (λ n. along m machine next n Rest) at_same) ∙ now,
        )
