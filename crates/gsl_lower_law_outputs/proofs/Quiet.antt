-- Inner code outside functions begins none and declares no variable.
use Rattle.std.proofs.Common.{◌≡◌, refl, sym, subst, ℕ, Bool, true, false, not, ◌||◌, if◌then◌else◌, List, [], ◌∷◌, Option, Some, None}
use Rattle.std.specs.Prelude.{◌==◌, find}
use Rattle.std.specs.List.{cons_option, list_all}
use Rattle.std.specs.Option.{option_map}
use Rattle.std.proofs.lemmas.Bool.{and_parts, eqb-true, true≢false}
use Rattle.gsl_instr.specs.declared.form.Form.{Form}
use Rattle.gsl_instr.specs.declared.form.Row.{Row}
use Rattle.gsl_instr.specs.declared.form.TheConstants.{TABLE}
use Rattle.gsl_instr.specs.Forms.{form_of}
use Rattle.gsl_instr.specs.Instructions.{read_as}
use Rattle.gsl_words.specs.declared.module.Instr.{Instr}
use Rattle.gsl_valid.specs.Instruction.{read}
use Rattle.gsl_valid.specs.Kinds.{Kind, Begins, Variable, kind_of, variable_is}
use Rattle.gsl_valid.specs.Types.{begins, function_begins}
use Rattle.gsl_lower_law_inner.specs.Inner.{IsInner, is_inner}
use Rattle.gsl_lower_law_inner.proofs.Declaring.{no_variables}

opens_one : Kind → Bool
opens_one (Begins type id function_type) = true
opens_one _ = false

none_opened : (k : Kind) → opens_one k ≡ false → begins k ≡ false
unfolding opens_one
none_opened (Begins type id function_type) is = absurd (true≢false is)
none_opened _ is = refl

Apart : List ℕ → ℕ → Form → Bool
Apart args code f = not (opens_one (kind_of (read_as f code args))) || not (is_inner code)

of_rows : (args : List ℕ) (rows : List Row) (code : ℕ) (f : Form) → list_all (λ row. Apart args row.op row.form) rows ≡ true → option_map (λ row. row.form) (find (λ row. row.op == code) rows) ≡ Some f → Apart args code f ≡ true
of_rows args [] code f all is = absurd cc
of_rows args (row ∷ rows) code f all is =
    let parts = and_parts (Apart args row.op row.form) _ all in by_test (row.op == code) refl parts.0 (of_rows args rows code f parts.1) is
  where
    by_test : (b : Bool) → (row.op == code) ≡ b → Apart args row.op row.form ≡ true → (option_map (λ row. row.form) (find (λ row. row.op == code) rows) ≡ Some f → Apart args code f ≡ true)
        → option_map (λ row. row.form) (if b then Some row else find (λ row. row.op == code) rows) ≡ Some f → Apart args code f ≡ true
    by_test true here passes later is = let same : row.form ≡ f = cc in subst (λ g. Apart args code g ≡ true) same (subst (λ n. Apart args n row.form ≡ true) (eqb-true row.op code here) passes)
    by_test false here passes later is = later is

all_apart : (args : List ℕ) → list_all (λ row. Apart args row.op row.form) TABLE ≡ true
unfolding Apart opens_one
all_apart args = refl

pub begins_none : (i : Instr) → IsInner i → function_begins (read i) ≡ false
unfolding Apart form_of
begins_none i inner = by_form (form_of i.op) refl
  where
    by_apart : (b c : Bool) → (not b || not c) ≡ true → c ≡ true → b ≡ false
    by_apart false c is e = refl
    by_apart true true is e = absurd (true≢false (sym is))
    by_apart true false is e = absurd (true≢false (sym e))

    by_form : (o : Option Form) → form_of i.op ≡ o → function_begins (option_map (λ f. read_as f i.op i.args) o) ≡ false
    by_form None e = refl
    by_form (Some f) e = none_opened (kind_of (read_as f i.op i.args)) (by_apart _ (is_inner i.op) (of_rows i.args TABLE i.op f (all_apart i.args) e) inner)

pub declares_none : (i : Instr) → IsInner i → variable_is (read i) ≡ None
declares_none i inner = by (variable_is (read i)) (no_variables (i ∷ []) (inner, tt))
  where
    by : (o : Option Variable) → cons_option o [] ≡ [] → o ≡ None
    by None e = refl
    by (Some v) e = absurd (cc)
