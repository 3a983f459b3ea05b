-- The entry point names each input and output variable once.
use Rattle.std.proofs.Common.{◌≡◌, ℕ, Bool, true, false, cond, not, ◌||◌, List, [], ◌∷◌, ◌++◌, Option, Some, None, refl, sym, ap, ◌∙◌, subst, ◌⊎◌, inl, inr, if◌then◌else◌}
use Rattle.std.specs.Prelude.{◌==◌, filter_map, find, option_to_list}
use Rattle.std.specs.List.{cons_option, list_all}
use Rattle.std.specs.Option.{option_map}
use Rattle.std.proofs.lemmas.Bool.{and_from, and_parts, cases_Bool, cond-false, cond-true, eq-eqb, eqb-true, not_from_false, or_cases, or_left, or_right, true≢false}
use Rattle.gsl_words.specs.declared.module.Instr.{Instr}
use Rattle.gsl_instr.specs.declared.enumerant.storage_class.TheConstants as storage_class
use Rattle.gsl_instr.specs.declared.form.Form.{Form}
use Rattle.gsl_instr.specs.declared.form.Row.{Row}
use Rattle.gsl_instr.specs.declared.form.TheConstants.{TABLE}
use Rattle.gsl_instr.specs.declared.op.TheConstants as op
use Rattle.gsl_instr.specs.Forms.{form_of}
use Rattle.gsl_instr.specs.Instructions.{read_as}
use Rattle.gsl_valid.specs.EntryRules.{all_differ, interface_id, interface_variable, is_among, lists_each}
use Rattle.gsl_valid.specs.Ids.{defined, defines, is_id}
use Rattle.gsl_valid.specs.IdsDefinedOnce.{defines_once}
use Rattle.gsl_valid.specs.Instruction.{read}
use Rattle.gsl_valid.specs.Kinds as kinds
use Rattle.gsl_valid.specs.Kinds.{Kind, Variable, kind, kind_of, variable_in, variable_is}
use Rattle.gsl_valid.specs.Placed.{Code}
use Rattle.gsl_valid.specs.Search.{Passes}
use Rattle.gsl_spv.specs.Once.{interface_at, interface_of, variable_interface}
use Rattle.gsl_fitting_code.proofs.Labels.{not_again}

-- Only the opcode of a variable is that of one --------------------------------------------------------------------------

-- whether it holds a variable
holds : Kind → Bool
holds (kinds.Holds v) = true
holds _ = false

Alone : List ℕ → ℕ → Form → Bool
Alone args code f = not (holds (kind_of (read_as f code args))) || code == op.VARIABLE

of_rows : (args : List ℕ) (rows : List Row) (code : ℕ) (f : Form) → list_all (λ row. Alone args row.op row.form) rows ≡ true → option_map (λ row. row.form) (find (λ row. row.op == code) rows) ≡ Some f → Alone args code f ≡ true
of_rows args [] code f all is = absurd cc
of_rows args (row ∷ rows) code f all is =
    let parts = and_parts (Alone args row.op row.form) _ all in by_test (row.op == code) refl parts.0 (of_rows args rows code f parts.1) is
  where
    by_test : (b : Bool) → (row.op == code) ≡ b → Alone args row.op row.form ≡ true → (option_map (λ row. row.form) (find (λ row. row.op == code) rows) ≡ Some f → Alone args code f ≡ true)
        → option_map (λ row. row.form) (if b then Some row else find (λ row. row.op == code) rows) ≡ Some f → Alone args code f ≡ true
    by_test true here passes later is = let same : row.form ≡ f = cc in subst (λ g. Alone args code g ≡ true) same (subst (λ n. Alone args n row.form ≡ true) (eqb-true row.op code here) passes)
    by_test false here passes later is = later is

all_alone : (args : List ℕ) → list_all (λ row. Alone args row.op row.form) TABLE ≡ true
unfolding Alone holds
all_alone args = refl

no_variable : (i : Instr) → (i.op == op.VARIABLE) ≡ false → variable_is (read i) ≡ None
unfolding Alone holds form_of
no_variable i other = by_form (form_of i.op) refl
  where
    none_held : (k : Kind) → holds k ≡ false → variable_in k ≡ None
    none_held (kinds.Holds v) h = absurd (true≢false h)
    none_held _ h = refl

    by_alone : (b c : Bool) → (not b || c) ≡ true → c ≡ false → b ≡ false
    by_alone true c h e = absurd (true≢false (sym h ∙ e))
    by_alone false c h e = refl

    by_form : (o : Option Form) → form_of i.op ≡ o → variable_is (option_map (λ f. read_as f i.op i.args) o) ≡ None
    by_form None e = refl
    by_form (Some f) e = none_held (kind_of (read_as f i.op i.args)) (by_alone _ (i.op == op.VARIABLE) (of_rows i.args TABLE i.op f (all_alone i.args) e) other)

-- What the entry point names is what is named so -------------------------------------------------------------------------

variable_same : (args : List ℕ) → option_to_list (interface_variable (read (record { op = op.VARIABLE; args = args }))) ≡ variable_interface args
unfolding form_of
variable_same [] = refl
variable_same (pointer ∷ []) = refl
variable_same (pointer ∷ id ∷ []) = refl
variable_same (pointer ∷ id ∷ class ∷ more) = by_class (class == storage_class.INPUT || class == storage_class.OUTPUT)
  where
    by_class : (b : Bool) → option_to_list (cond b (Some id) None) ≡ cond b (id ∷ []) []
    by_class true = refl
    by_class false = refl

same_at : (i : Instr) → option_to_list (interface_variable (read i)) ≡ interface_at i
same_at i = elim (cases_Bool (i.op == op.VARIABLE)) [
  | inl is ↦ ap (λ n. option_to_list (interface_variable (read (record { op = n; args = i.args })))) (eqb-true i.op op.VARIABLE is) ∙ variable_same i.args ∙ sym (cond-true _ _ _ is)
  | inr other ↦ ap (λ v. option_to_list (interface_id v)) (no_variable i other) ∙ sym (cond-false _ _ _ other)
]

cons_list : {A : Type 0} (o : Option A) (xs : List A) → cons_option o xs ≡ option_to_list o ++ xs
cons_list None xs = refl
cons_list (Some x) xs = refl

pub same_interface : (code : Code) → filter_map (λ i. interface_variable (read i)) code ≡ interface_of code
same_interface [] = refl
same_interface (i ∷ code) =
    cons_list (interface_variable (read i)) _ ∙ ap (λ l. option_to_list (interface_variable (read i)) ++ l) (same_interface code) ∙ ap (λ l. l ++ interface_of code) (same_at i)

-- Each once ------------------------------------------------------------------------------------------------------------------

among_split : (a b : List ℕ) (id : ℕ) → is_among (a ++ b) id ≡ true → (is_among a id ≡ true) ⊎ (is_among b id ≡ true)
among_split [] b id h = inr h
among_split (x ∷ a) b id h = by_case (x == id) (among_split a b id) h
  where
    by_case : (c : Bool) {u v w : Bool} → (v ≡ true → (u ≡ true) ⊎ (w ≡ true)) → (c || v) ≡ true → ((c || u) ≡ true) ⊎ (w ≡ true)
    by_case true more h = inl refl
    by_case false more h = more h

-- an id of the interface is one that its variable defines
variable_result : (v : Option ℕ) (id : ℕ) → is_among (option_to_list v) id ≡ true → is_id id v ≡ true
variable_result None id h = absurd (true≢false (sym h))
variable_result (Some r) id h = elim (or_cases (r == id) _ h) [ inl is ↦ is | inr none ↦ absurd (true≢false (sym none)) ]

variable_defines : (args : List ℕ) (id : ℕ) → is_among (variable_interface args) id ≡ true → defines (record { op = op.VARIABLE; args = args }) id ≡ true
unfolding form_of
variable_defines [] id h = absurd (true≢false (sym h))
variable_defines (pointer ∷ []) id h = absurd (true≢false (sym h))
variable_defines (pointer ∷ r ∷ []) id h = absurd (true≢false (sym h))
variable_defines (pointer ∷ r ∷ class ∷ more) id h = by_class (class == storage_class.INPUT || class == storage_class.OUTPUT) h
  where
    by_class : (b : Bool) → is_among (cond b (r ∷ []) []) id ≡ true → (r == id) ≡ true
    by_class true h = elim (or_cases (r == id) _ h) [ inl is ↦ is | inr none ↦ absurd (true≢false (sym none)) ]
    by_class false h = absurd (true≢false (sym h))

at_defines : (i : Instr) (id : ℕ) → is_among (interface_at i) id ≡ true → defines i id ≡ true
at_defines i id h = by_op (i.op == op.VARIABLE) refl h
  where
    by_op : (b : Bool) → (i.op == op.VARIABLE) ≡ b → is_among (cond b (variable_interface i.args) []) id ≡ true → defines i id ≡ true
    by_op true is h = ap (λ n. defines (record { op = n; args = i.args }) id) (eqb-true i.op op.VARIABLE is) ∙ variable_defines i.args id h
    by_op false is h = absurd (true≢false (sym h))

interface_defined : (code : Code) (id : ℕ) → is_among (interface_of code) id ≡ true → defined code id ≡ true
interface_defined [] id h = absurd (true≢false (sym h))
interface_defined (i ∷ code) id h = elim (among_split (interface_at i) (interface_of code) id h) [
  | inl here ↦ or_left _ _ (at_defines i id here)
  | inr more ↦ or_right (defines i id) _ (interface_defined code id more)
]

-- at most one id
Few : List ℕ → Type 0
Few [] = Unit {0}
Few (id ∷ []) = Unit {0}
Few (id ∷ other ∷ ids) = ⊥

variable_few : (args : List ℕ) → Few (variable_interface args)
unfolding Few
variable_few [] = tt
variable_few (pointer ∷ []) = tt
variable_few (pointer ∷ r ∷ []) = tt
variable_few (pointer ∷ r ∷ class ∷ more) = by_class (class == storage_class.INPUT || class == storage_class.OUTPUT)
  where
    by_class : (b : Bool) → Few (cond b (r ∷ []) [])
    by_class true = tt
    by_class false = tt

at_few : (i : Instr) → Few (interface_at i)
unfolding Few
at_few i = by_op (i.op == op.VARIABLE)
  where
    by_op : (b : Bool) → Few (cond b (variable_interface i.args) [])
    by_op true = variable_few i.args
    by_op false = tt

pub interface_differs : (bound : ℕ) (before code : Code) → Passes (defines_once bound) before code → all_differ (interface_of code) ≡ true
unfolding Few
interface_differs bound before [] once = refl
interface_differs bound before (i ∷ code) once =
    by_ids (interface_at i) (at_few i) (λ id h. at_defines i id h) (interface_differs bound (i ∷ before) code once.1)
  where
    by_ids : (ids : List ℕ) → Few ids → ((id : ℕ) → is_among ids id ≡ true → defines i id ≡ true) → all_differ (interface_of code) ≡ true → all_differ (ids ++ interface_of code) ≡ true
    by_ids [] few each later = later
    by_ids (id ∷ []) few each later = and_from _ _ (not_from_false _ (by_among (is_among (interface_of code) id) refl)) later
      where
        by_among : (b : Bool) → is_among (interface_of code) id ≡ b → is_among (interface_of code) id ≡ false
        by_among true e = absurd (true≢false (sym (interface_defined code id e) ∙ not_again bound (i ∷ before) code id once.1 (or_left _ _ (each id (or_left (id == id) _ (eq-eqb id id refl))))))
        by_among false e = e
    by_ids (id ∷ other ∷ ids) few each later = absurd few

all_among : (ids others : List ℕ) → ((id : ℕ) → is_among ids id ≡ true → is_among others id ≡ true) → list_all (is_among others) ids ≡ true
all_among [] others each = refl
all_among (id ∷ ids) others each = and_from _ _ (each id (or_left (id == id) _ (eq-eqb id id refl))) (all_among ids others (λ x h. each x (or_right (id == x) _ h)))

pub listed : (ids : List ℕ) → all_differ ids ≡ true → lists_each ids ids ≡ true
listed ids differ = and_from _ _ (and_from _ _ (all_among ids ids (λ id h. h)) (all_among ids ids (λ id h. h))) differ
