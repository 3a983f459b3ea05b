-- Parts of values, step by step.
use Rattle.std.proofs.Common.{◌≡◌, refl, sym, ap, ◌∙◌, ℕ, suc, ◌+◌, ◌<◌, ◌≤◌, min, List, [], ◌∷◌, length, drop, set, get_or, slice_get, Some, arith, inl, inr}
use Rattle.std.proofs.lemmas.Bool.{cases_lt}
use Rattle.std.proofs.lemmas.List.{drop_all, get_or_past}
use Rattle.std.proofs.Math.Seq.{drop-cons}
use Rattle.gsl_values.specs.declared.value.Value.{Value}
use Rattle.gsl_values.specs.declared.value.Value.TheVariants.{Word, outs-Word}
use Rattle.gsl_tree.specs.Operations.{value_at}
use Rattle.gsl_tree.specs.Values.{parts_in, parts_layer}
use Rattle.gsl_meaning.specs.Accesses.{put_each}
use Rattle.gsl_compute.proofs.Loops.{opened}

-- a word has no parts, and what stands for them has none either
pub zero_at : (path : List ℕ) → value_at (Word 0) path ≡ Word 0
zero_at [] = refl
zero_at (number ∷ path) = ap (λ l. value_at (get_or (parts_layer l) number (Word 0)) path) (outs-Word 0) ∙ zero_at path

-- a path that leads to no part
pub none_at : (at whole : Value) (parts : List Value) (path : List ℕ) (k : ℕ) → parts ≡ parts_in at → k < length path → length parts ≤ get_or path k 0 → value_at at (drop k path) ≡ whole → whole ≡ Word 0
none_at at whole parts path k is below past so_far =
    sym so_far ∙ ap (value_at at) (drop-cons path k 0 below)
    ∙ ap (λ l. value_at (get_or l (get_or path k 0) (Word 0)) (drop (suc k) path)) (sym is) ∙ ap (λ v. value_at v (drop (suc k) path)) (get_or_past parts (get_or path k 0) (Word 0) past) ∙ zero_at (drop (suc k) path)

-- words that are put at positions
pub put_on : (positions words old new whole : List ℕ) (k position word : ℕ) → slice_get positions k ≡ Some position → slice_get words k ≡ Some word → new ≡ set old position word
    → put_each (drop k positions) (drop k words) old ≡ whole → put_each (drop (k + 1) positions) (drop (k + 1) words) new ≡ whole
put_on positions words old new whole k position word at_p at_w is so_far =
    ap (put_each (drop (k + 1) positions) (drop (k + 1) words)) is
    ∙ sym (ap (λ l. put_each l (drop k words) old) (opened positions k position at_p) ∙ ap (λ l. put_each (position ∷ drop (k + 1) positions) l old) (opened words k word at_w)) ∙ so_far

no_words : (positions old : List ℕ) → put_each positions [] old ≡ old
no_words [] old = refl
no_words (position ∷ positions) old = refl

pub put_end : (positions words old whole : List ℕ) (k : ℕ) → min (length positions) (length words) ≤ k → put_each (drop k positions) (drop k words) old ≡ whole → old ≡ whole
put_end positions words old whole k past so_far =
    elim (cases_lt k (length positions)) as (λ _. old ≡ whole) [
      | inl long ↦ sym (ap (λ l. put_each (drop k positions) l old) (drop_all k words (omega (arith, past, long))) ∙ no_words (drop k positions) old) ∙ so_far
      | inr short ↦ sym (ap (λ l. put_each l (drop k words) old) (drop_all k positions short)) ∙ so_far
    ]
