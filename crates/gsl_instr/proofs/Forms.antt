-- The rows of opcodes.
use Rattle.std.proofs.Common.{◌≡◌, ℕ, zero, suc, ◌-◌, ◌≤◌, ◌<◌, true, false, cond, eqb, ltb, leb, List, [], ◌∷◌, get_or, Option, Some, None, map, inl, inr, refl, sym, ◌∙◌, ap, arith}
use Rattle.std.proofs.lemmas.Bool.{and_parts, leb-true, ltb-true, cases_lt}
use Rattle.std.proofs.lemmas.Bool.Decides.{nat_tests}
use Rattle.std.proofs.lemmas.List.{get_or_past}
use Rattle.std.proofs.lemmas.List.FromFn.{get_or-map-range_with_len}
use Rattle.std.specs.Prelude.{find, slice_index}
use Rattle.std.specs.List.{range_with_len, list_all}
use Rattle.std.specs.Option.{option_map}
use Rattle.gsl_instr.specs.declared.form.Form.{Form}
use Rattle.gsl_instr.specs.declared.form.Form.TheVariants as form
use Rattle.gsl_instr.specs.declared.form.Row.{Row}
use Rattle.gsl_instr.specs.declared.form.TheConstants.{TABLE, ROWS}
use Rattle.gsl_instr.specs.Forms.{form_of}

-- the form of a row that is counted from 1
abbrev in_row : ℕ → Option Form
in_row zero = None
in_row (suc row) = Some (get_or TABLE row (record { op = 0; form = form.Name })).form

rows_tell : map (λ op. in_row (slice_index ROWS op)) (range_with_len 0 256) ≡ map form_of (range_with_len 0 256)
unfolding form_of
rows_tell = refl

ops_are_small : list_all (λ row. ltb row.op 256) TABLE ≡ true
ops_are_small = refl

none_past : (rows : List Row) (op : ℕ) → list_all (λ row. ltb row.op 256) rows ≡ true → 256 ≤ op → option_map (λ row. row.form) (find (λ row. eqb row.op op) rows) ≡ None
none_past [] op all past = refl
none_past (row ∷ rows) op all past =
    let parts = and_parts (ltb row.op 256) _ all in
    let below : row.op < 256 = ltb-true _ _ parts.0 in
    let differ : eqb row.op op ≡ false = grind (arith, nat_tests) in
    ap (λ t. option_map (λ (row : Row). row.form) (cond t (Some row) (find (λ row. eqb row.op op) rows))) differ ∙ none_past rows op parts.1 past

no_form : (op : ℕ) → 256 ≤ op → form_of op ≡ None
unfolding form_of
no_form op past = none_past TABLE op ops_are_small past

pub told : (op : ℕ) → in_row (slice_index ROWS op) ≡ form_of op
told op = elim (cases_lt op 256) [
  | inl low ↦ sym (get_or-map-range_with_len (λ op. in_row (slice_index ROWS op)) 0 256 op op None low (omega arith)) ∙ ap (λ rows. get_or rows op None) rows_tell ∙ get_or-map-range_with_len form_of 0 256 op op None low (omega arith)
  | inr high ↦ ap in_row (get_or_past ROWS op 0 high) ∙ sym (no_form op high)
]

pub all_below : (rows : List ℕ) (i : ℕ) → list_all (λ row. leb row 86) rows ≡ true → slice_index rows i ≤ 86
all_below [] i all = omega arith
all_below (row ∷ rows) zero all = leb-true _ _ (and_parts (leb row 86) _ all).0
all_below (row ∷ rows) (suc i) all = all_below rows i (and_parts (leb row 86) _ all).1

pub none_there : (op row : ℕ) → row ≡ slice_index ROWS op → row ≡ 0 → None ≡ form_of op
none_there op row is none = ap in_row (sym none ∙ is) ∙ told op

pub found_there : (op row : ℕ) → row ≡ slice_index ROWS op → (row ≡ 0 → ⊥) → Some (get_or TABLE (row - 1) (record { op = 0; form = form.Name })).form ≡ form_of op
found_there op zero is some = absurd (some refl)
found_there op (suc row) is some =
    let behind : suc row - 1 ≡ row = omega arith in
    ap (λ k. Some (get_or TABLE k (record { op = 0; form = form.Name })).form) behind ∙ ap in_row is ∙ told op

pub none_behind : (op : ℕ) → 256 ≤ op → 0 ≡ slice_index ROWS op
none_behind op past = sym (get_or_past ROWS op 0 past)
