-- The code of a function: its parameters and its variables, and where it ends.
use Rattle.std.proofs.Common.{◌≡◌, ◌≢◌, refl, sym, ap, ◌∙◌, ℕ, ◌+◌, Bool, true, false, ◌||◌, not, List, [], ◌∷◌, ◌++◌, map, Option, Some, None, if◌then◌else◌, append_assoc, append-nil}
use Rattle.std.specs.Prelude.{◌==◌}
use Rattle.std.specs.List.{AllByRecursion, cons_option, filter_map}
use Rattle.std.proofs.lemmas.Bool.{cond-false, eq-eqb, false≢true, or_parts, true≢false}
use Rattle.gsl_instr.specs.declared.op.TheConstants as op
use Rattle.gsl_instr.specs.Forms.{form_of}
use Rattle.gsl_words.specs.Instructions.{word_count}
use Rattle.gsl_words.specs.declared.module.Instr.{Instr}
use Rattle.gsl_valid.specs.Ids.{result}
use Rattle.gsl_valid.specs.Instruction.{read}
use Rattle.gsl_valid.specs.Kinds.{variable_is}
use Rattle.gsl_valid.specs.Placed.{Code, placed_from}
use Rattle.gsl_machine.specs.Functions.{parameters_of}
use Rattle.gsl_spv.specs.Declarations.{instr}
use Rattle.gsl_lower_frames.specs.Standing.{EndsHere}
use Rattle.gsl_lower_frames.specs.Starting.{local_variables}
use Rattle.gsl_lower_law_entered.specs.Modules.{Declared, declares, variable_of}
use Rattle.gsl_lower_law_inner.specs.Inner.{IsInner}
use Rattle.gsl_lower_law_inner.proofs.Declaring.{goes_on, no_variables}
use Rattle.gsl_lower_law_outside.specs.OfLawOpening.{Taken, ids_taken, takes}

-- ---- lists

cons_both : {B : Type 0} (o : Option B) (xs ys : List B) → cons_option o (xs ++ ys) ≡ cons_option o xs ++ ys
cons_both None xs ys = refl
cons_both (Some x) xs ys = refl

filter_both : {A B : Type 0} (f : A → Option B) (xs ys : List A) → filter_map f (xs ++ ys) ≡ filter_map f xs ++ filter_map f ys
filter_both f [] ys = refl
filter_both f (x ∷ xs) ys = ap (cons_option (f x)) (filter_both f xs ys) ∙ cons_both (f x) (filter_map f xs) (filter_map f ys)

none_kept : {A B : Type 0} (f : A → Option B) (xs : List A) → AllByRecursion (λ x. f x ≡ None) xs → filter_map f xs ≡ []
none_kept f [] all = refl
none_kept f (x ∷ xs) all = ap (λ o. cons_option o (filter_map f xs)) all.0 ∙ none_kept f xs all.1

all_mapped : {A B : Type 0} (P : B → Type 0) (g : A → B) (xs : List A) → ((a : A) → P (g a)) → AllByRecursion P (map g xs)
all_mapped P g [] p = tt
all_mapped P g (x ∷ xs) p = (p x, all_mapped P g xs p)

all_follow : {A : Type 0} (P Q : A → Type 0) (xs : List A) → ((a : A) → P a → Q a) → AllByRecursion P xs → AllByRecursion Q xs
all_follow P Q [] p all = tt
all_follow P Q (x ∷ xs) p all = (p x all.0, all_follow P Q xs p all.1)

pub all_both : {A : Type 0} (P : A → Type 0) (xs ys : List A) → AllByRecursion P xs → AllByRecursion P ys → AllByRecursion P (xs ++ ys)
all_both P [] ys first second = second
all_both P (x ∷ xs) ys first second = (first.0, all_both P xs ys first.1 second)

-- ---- inner code

no_parameter : (i : Instr) → IsInner i → (i.op == op.FUNCTION_PARAMETER) ≡ false
no_parameter i is = by (i.op == op.FUNCTION || i.op == op.FUNCTION_PARAMETER || i.op == op.FUNCTION_END || i.op == op.VARIABLE) refl is
  where
    by : (b : Bool) → (i.op == op.FUNCTION || i.op == op.FUNCTION_PARAMETER || i.op == op.FUNCTION_END || i.op == op.VARIABLE) ≡ b → not b ≡ true → (i.op == op.FUNCTION_PARAMETER) ≡ false
    by true e is = absurd (false≢true is)
    by false e is =
        let a = or_parts (i.op == op.FUNCTION || i.op == op.FUNCTION_PARAMETER || i.op == op.FUNCTION_END) (i.op == op.VARIABLE) e in
        let b = or_parts (i.op == op.FUNCTION || i.op == op.FUNCTION_PARAMETER) (i.op == op.FUNCTION_END) a.0 in
        (or_parts (i.op == op.FUNCTION) (i.op == op.FUNCTION_PARAMETER) b.0).1

-- ---- the code of a function

abbrev pub opening_of : List Taken → ℕ → List Declared → Code
opening_of params label variables = map takes params ++ instr op.LABEL (label ∷ []) ∷ map declares variables

-- what stands behind the first instruction of a function: its opening, its body and its end
abbrev pub code_of : List Taken → ℕ → List Declared → Code → Code
code_of params label variables put = opening_of params label variables ++ (put ++ instr op.FUNCTION_END [] ∷ [])

abbrev parameter_in : Instr → Option ℕ
parameter_in i = if i.op == op.FUNCTION_PARAMETER then result (read i) else None

abbrev NoParameter : Instr → Type 0
NoParameter i = parameter_in i ≡ None

abbrev NoVariable : Instr → Type 0
NoVariable i = variable_is (read i) ≡ None

abbrev NoEnd : Instr → Type 0
NoEnd i = i.op ≢ op.FUNCTION_END

parameters_same : (at : ℕ) (code : Code) → parameters_of (placed_from at code) ≡ filter_map parameter_in code
parameters_same at [] = refl
parameters_same at (i ∷ code) = ap (cons_option (parameter_in i)) (parameters_same (at + word_count i) code)

module _ (params : List Taken) (label : ℕ) (variables : List Declared) (put : Code) (inner : AllByRecursion IsInner put) where
  taken_are : (ps : List Taken) → filter_map parameter_in (map takes ps) ≡ ids_taken ps
  unfolding form_of
  taken_are [] = refl
  taken_are (p ∷ ps) = ap (λ l. p.id ∷ l) (taken_are ps)

  pub parameters_are : (at : ℕ) → parameters_of (placed_from at (code_of params label variables put)) ≡ ids_taken params
  parameters_are at =
      parameters_same at (code_of params label variables put)
      ∙ filter_both parameter_in (opening_of params label variables) (put ++ instr op.FUNCTION_END [] ∷ [])
      ∙ ap (λ l. l ++ filter_map parameter_in (put ++ instr op.FUNCTION_END [] ∷ [])) (filter_both parameter_in (map takes params) (instr op.LABEL (label ∷ []) ∷ map declares variables))
      ∙ ap (λ l. (filter_map parameter_in (map takes params) ++ l) ++ filter_map parameter_in (put ++ instr op.FUNCTION_END [] ∷ []))
      (none_kept parameter_in (instr op.LABEL (label ∷ []) ∷ map declares variables) (refl, all_mapped NoParameter declares variables (λ v. refl)))
      ∙ ap (λ l. (filter_map parameter_in (map takes params) ++ []) ++ l)
      (none_kept parameter_in (put ++ instr op.FUNCTION_END [] ∷ []) (all_both NoParameter put (instr op.FUNCTION_END [] ∷ []) (all_follow IsInner NoParameter put (λ i is. cond-false (i.op == op.FUNCTION_PARAMETER) (result (read i)) None (no_parameter i is)) inner) (refl, tt)))
      ∙ append-nil (filter_map parameter_in (map takes params) ++ []) ∙ append-nil (filter_map parameter_in (map takes params)) ∙ taken_are params

  declared_are : (vs : List Declared) → filter_map (λ i. variable_is (read i)) (map declares vs) ≡ map variable_of vs
  unfolding form_of
  declared_are [] = refl
  declared_are (v ∷ vs) = ap (λ l. variable_of v ∷ l) (declared_are vs)

  front_none : filter_map (λ i. variable_is (read i)) (map takes params ++ instr op.LABEL (label ∷ []) ∷ []) ≡ []
  unfolding form_of
  front_none = none_kept (λ i. variable_is (read i)) (map takes params ++ instr op.LABEL (label ∷ []) ∷ []) (all_both NoVariable (map takes params) (instr op.LABEL (label ∷ []) ∷ []) (all_mapped NoVariable takes params (λ p. refl)) (refl, tt))

  back_none : filter_map (λ i. variable_is (read i)) (put ++ instr op.FUNCTION_END [] ∷ []) ≡ []
  unfolding form_of
  back_none = filter_both (λ i. variable_is (read i)) put (instr op.FUNCTION_END [] ∷ []) ∙ append-nil (filter_map (λ i. variable_is (read i)) put) ∙ no_variables put inner

  pub variables_are : local_variables (code_of params label variables put) ≡ map variable_of variables
  variables_are =
      filter_both (λ i. variable_is (read i)) (opening_of params label variables) (put ++ instr op.FUNCTION_END [] ∷ [])
      ∙ ap (λ l. filter_map (λ i. variable_is (read i)) (opening_of params label variables) ++ l) back_none ∙ append-nil (filter_map (λ i. variable_is (read i)) (opening_of params label variables))
      ∙ ap (filter_map (λ i. variable_is (read i))) (sym (append_assoc (map takes params) (instr op.LABEL (label ∷ []) ∷ []) (map declares variables)))
      ∙ filter_both (λ i. variable_is (read i)) (map takes params ++ instr op.LABEL (label ∷ []) ∷ []) (map declares variables)
      ∙ ap (λ l. l ++ filter_map (λ i. variable_is (read i)) (map declares variables)) front_none ∙ declared_are variables

  pub ends_here : EndsHere (code_of params label variables put)
  ends_here = record {
    front = opening_of params label variables ++ put;
    ending = instr op.FUNCTION_END [];
    is = sym (append_assoc (opening_of params label variables) put (instr op.FUNCTION_END [] ∷ []));
    ends = refl;
    goes_on = all_both NoEnd (opening_of params label variables) put
        (all_both NoEnd (map takes params) (instr op.LABEL (label ∷ []) ∷ map declares variables) (all_mapped NoEnd takes params (λ p e. differ op.FUNCTION_PARAMETER refl e)) (λ e. differ op.LABEL refl e, all_mapped NoEnd declares variables (λ v e. differ op.VARIABLE refl e)))
        (goes_on put inner);
  }
    where
      differ : (code : ℕ) → (code == op.FUNCTION_END) ≡ false → code ≡ op.FUNCTION_END → ⊥
      differ code is e = true≢false (sym (eq-eqb code op.FUNCTION_END e) ∙ is)

  pub no_labels : AllByRecursion (λ (i : Instr). (i.op == op.LABEL) ≡ false) (map takes params)
  no_labels = all_mapped (λ (i : Instr). (i.op == op.LABEL) ≡ false) takes params (λ p. refl)
