-- What rules of validity and the machine see of inner code.
use Rattle.std.proofs.Common.{◌≡◌, ◌≢◌, refl, sym, ap, ◌∙◌, subst, ℕ, Bool, true, false, not, ◌||◌, if◌then◌else◌, List, [], ◌∷◌, Option, Some, None}
use Rattle.std.specs.Prelude.{◌==◌, filter_map, find}
use Rattle.std.specs.List.{AllByRecursion, cons_option, list_all}
use Rattle.std.specs.Option.{option_map}
use Rattle.std.proofs.lemmas.Bool.{and_parts, eqb-true, true≢false}
use Rattle.gsl_instr.specs.declared.form.Form.{Form}
use Rattle.gsl_instr.specs.declared.form.Row.{Row}
use Rattle.gsl_instr.specs.declared.form.TheConstants.{TABLE}
use Rattle.gsl_instr.specs.declared.op.TheConstants as op
use Rattle.gsl_instr.specs.Forms.{form_of}
use Rattle.gsl_instr.specs.Instructions.{read_as}
use Rattle.gsl_words.specs.declared.module.Instr.{Instr}
use Rattle.gsl_valid.specs.Instruction.{read}
use Rattle.gsl_valid.specs.Kinds.{Kind, Holds, kind_of, variable_in, variable_is}
use Rattle.gsl_valid.specs.Placed.{Code}
use Rattle.gsl_lower_law_inner.specs.Inner.{IsInner, is_inner}

-- ---- variables

holds : Kind → Bool
holds (Holds v) = true
holds _ = false

none_held : (k : Kind) → holds k ≡ false → variable_in k ≡ None
unfolding holds
none_held (Holds v) is = absurd (true≢false is)
none_held _ is = refl

-- an opcode by which a variable is declared is not inner
Apart : List ℕ → ℕ → Form → Bool
Apart args code f = not (holds (kind_of (read_as f code args))) || not (is_inner code)

of_rows : (args : List ℕ) (rows : List Row) (code : ℕ) (f : Form) → list_all (λ row. Apart args row.op row.form) rows ≡ true → option_map (λ row. row.form) (find (λ row. row.op == code) rows) ≡ Some f → Apart args code f ≡ true
of_rows args [] code f all is = absurd cc
of_rows args (row ∷ rows) code f all is =
    let parts = and_parts (Apart args row.op row.form) _ all in by_test (row.op == code) refl parts.0 (of_rows args rows code f parts.1) is
  where
    by_test : (b : Bool) → (row.op == code) ≡ b → Apart args row.op row.form ≡ true → (option_map (λ row. row.form) (find (λ row. row.op == code) rows) ≡ Some f → Apart args code f ≡ true)
        → option_map (λ row. row.form) (if b then Some row else find (λ row. row.op == code) rows) ≡ Some f → Apart args code f ≡ true
    by_test true here passes later is = let same : row.form ≡ f = cc in subst (λ g. Apart args code g ≡ true) same (subst (λ n. Apart args n row.form ≡ true) (eqb-true row.op code here) passes)
    by_test false here passes later is = later is

all_apart : (args : List ℕ) → list_all (λ row. Apart args row.op row.form) TABLE ≡ true
unfolding Apart holds
all_apart args = refl

no_variable : (i : Instr) → IsInner i → variable_is (read i) ≡ None
unfolding Apart form_of
no_variable i inner = by_form (form_of i.op) refl
  where
    by_apart : (b c : Bool) → (not b || not c) ≡ true → c ≡ true → b ≡ false
    by_apart false c is e = refl
    by_apart true true is e = absurd (true≢false (sym is))
    by_apart true false is e = absurd (true≢false (sym e))

    by_form : (o : Option Form) → form_of i.op ≡ o → variable_is (option_map (λ f. read_as f i.op i.args) o) ≡ None
    by_form None e = refl
    by_form (Some f) e = none_held (kind_of (read_as f i.op i.args)) (by_apart _ (is_inner i.op) (of_rows i.args TABLE i.op f (all_apart i.args) e) inner)

pub no_variables : (code : Code) → AllByRecursion IsInner code → filter_map (λ i. variable_is (read i)) code ≡ []
no_variables [] all = refl
no_variables (i ∷ code) all = ap (λ v. cons_option v (filter_map (λ i. variable_is (read i)) code)) (no_variable i all.0) ∙ no_variables code all.1

-- ---- ends

pub goes_on : (code : Code) → AllByRecursion IsInner code → AllByRecursion (λ i. i.op ≢ op.FUNCTION_END) code
goes_on [] all = tt
goes_on (i ∷ code) all = ((λ is. true≢false (sym all.0 ∙ ap is_inner is)), goes_on code all.1)
