-- The opcodes of the table.
use Rattle.std.proofs.Common.{◌≡◌, ℕ, ◌<◌, Bool, true, false, cond, eqb, ltb, List, [], ◌∷◌, Some, refl, arith}
use Rattle.std.proofs.lemmas.Bool.{and_parts, ltb-true, eqb-true}
use Rattle.std.specs.Prelude.{find}
use Rattle.std.specs.List.{list_all}
use Rattle.std.specs.Option.{option_map}
use Rattle.gsl_instr.specs.declared.form.Form.{Form}
use Rattle.gsl_instr.specs.declared.form.Row.{Row}
use Rattle.gsl_instr.specs.declared.form.TheConstants.{TABLE}
use Rattle.gsl_instr.specs.Forms.{form_of}

found_small : (rows : List Row) (op : ℕ) (form : Form) → list_all (λ row. ltb row.op 65536) rows ≡ true → option_map (λ row. row.form) (find (λ row. eqb row.op op) rows) ≡ Some form → op < 65536
found_small [] op form all e = absurd (cc)
found_small (row ∷ rows) op form all e =
    let parts = and_parts (ltb row.op 65536) _ all in
    by_test (eqb row.op op) refl e (ltb-true _ _ parts.0) (λ f. found_small rows op form parts.1 f)
  where
    by_test : (t : Bool) → eqb row.op op ≡ t → option_map (λ row. row.form) (cond t (Some row) (find (λ row. eqb row.op op) rows)) ≡ Some form → row.op < 65536 →
        (option_map (λ row. row.form) (find (λ row. eqb row.op op) rows) ≡ Some form → op < 65536) → op < 65536
    by_test true is e small later = let same : row.op ≡ op = eqb-true _ _ is in omega arith
    by_test false is e small later = later e

-- each is one
pub op_small : (op : ℕ) (form : Form) → form_of op ≡ Some form → op < 65536
unfolding form_of
op_small op form e = found_small TABLE op form refl e
