-- The module of sound sections passes a test where each instruction outside functions does, and each of its functions.
use Rattle.std.proofs.Common.{◌≡◌, ℕ, Bool, true, false, cond, ◌||◌, IsTrue, List, [], ◌∷◌, ◌++◌, refl, sym, ap, ◌∙◌, subst, arith, ◌⊎◌, inl, inr}
use Rattle.std.specs.Prelude.{◌==◌}
use Rattle.std.specs.List.{AllByRecursion, list_all}
use Rattle.std.proofs.lemmas.Bool.{and_from, and_parts, eq-eqb, eqb-true, not_from_false, or_left, or_right, true≢false}
use Rattle.gsl_words.specs.declared.module.Instr.{Instr}
use Rattle.gsl_words.specs.declared.module.Module.{Module}
use Rattle.gsl_instr.specs.declared.enumerant.storage_class.TheConstants as storage_class
use Rattle.gsl_instr.specs.declared.op.TheConstants as op
use Rattle.gsl_instr.specs.Forms.{form_of}
use Rattle.gsl_valid.specs.EntryRules.{begins_main}
use Rattle.gsl_valid.specs.Ids.{defined, definition, defines, is_id, result}
use Rattle.gsl_valid.specs.Instruction.{read}
use Rattle.gsl_valid.specs.Kinds as kinds
use Rattle.gsl_valid.specs.Kinds.{Kind, kind}
use Rattle.gsl_valid.specs.LocalityRules.{of_block}
use Rattle.gsl_valid.specs.Placed.{Code}
use Rattle.gsl_valid.specs.Search.{Passes, Test, passed}
use Rattle.gsl_valid.specs.Sections.{may_come}
use Rattle.gsl_valid.specs.Types.{defined_as}
use Rattle.gsl_valid.specs.Where.{where_at}
use Rattle.gsl_valid.proofs.Searching.{passed_append, passes_append}
use Rattle.gsl_spv.specs.Finished.{module_of}
use Rattle.gsl_spv.specs.Once.{interface_at, interface_of, variable_interface}
use Rattle.gsl_spv.specs.Sections.{Sections}
use Rattle.gsl_fitting.specs.Fits as fits
use Rattle.gsl_fitting_code.specs.Kept.{Stands, is_outer}
use Rattle.gsl_fitting_code.proofs.Fronts.{defined_left, defined_right, definition_has, definition_left, mark_defined, mark_not_of_block, outer_no_value}
use Rattle.gsl_fitting_code.proofs.Places.{Plays}
use Rattle.gsl_fitting_code.proofs.Walk.{functions_pass}
use Rattle.gsl_fitting_sections.specs.Sections.{AreSound, Each, IsDeclaration, IsDecoration, IsName, is_lasting}
use Rattle.gsl_fitting_sections.proofs.Heads.{head_outer, head_past, head_pass, head_unmarked}
use Rattle.gsl_fitting_sections.proofs.Once.{once_kept}
use Rattle.gsl_fitting_sections.proofs.Outside.{Follows, Lies, Past, declarations_pass, declares_outer, lies_of, marks_pass, names_pass, past_comes, precedes, unmarked, wider}
use Rattle.gsl_fitting_sections.proofs.Outside.Lies.{headed}
use Rattle.gsl_fitting_sections.proofs.Parts.{front, head, parts_are}

-- Lists ------------------------------------------------------------------------------------------------------------------

module _ (P : Instr → Type 0) where
  pub all_append : (a b : Code) → AllByRecursion P a → AllByRecursion P b → AllByRecursion P (a ++ b)
  all_append [] b x y = y
  all_append (i ∷ a) b x y = (x.0, all_append a b x.1 y)

  pub all_passed : (before code : Code) → AllByRecursion P before → AllByRecursion P code → AllByRecursion P (passed before code)
  all_passed before [] x y = x
  all_passed before (i ∷ code) x y = all_passed (i ∷ before) code (y.0, x) y.1

  pub all_each : (Q : Code → Instr → Type 0) → ((before : Code) (i : Instr) → Q before i → P i) → (before code : Code) → Each Q before code → AllByRecursion P code
  all_each Q is before [] all = tt
  all_each Q is before (i ∷ code) all = (is before i all.0, all_each Q is (i ∷ before) code all.1)

  pub all_all : (Q : Instr → Type 0) → ((i : Instr) → Q i → P i) → (code : Code) → AllByRecursion Q code → AllByRecursion P code
  all_all Q is [] all = tt
  all_all Q is (i ∷ code) all = (is i all.0, all_all Q is code all.1)

passed_defined : (before code : Code) (id : ℕ) → defined (passed before code) id ≡ true → (defined before id ≡ true) ⊎ (defined code id ≡ true)
passed_defined before [] id h = inl h
passed_defined before (i ∷ code) id h = elim (passed_defined (i ∷ before) code id h) [ inl here ↦ by_case (defines i id) here | inr more ↦ inr (or_right (defines i id) _ more) ]
  where
    by_case : (b : Bool) → (b || defined before id) ≡ true → (defined before id ≡ true) ⊎ ((b || defined code id) ≡ true)
    by_case true h = inr refl
    by_case false h = inl h

unmarked_precedes : (k : Kind) → unmarked k ≡ true → precedes k ≡ true
unmarked_precedes (kinds.Decorates d) h = absurd (true≢false (sym h))
unmarked_precedes _ h = h

main_begins : (m : Module) (k : Kind) → begins_main m k ≡ true → fits.begins k ≡ true
main_begins m (kinds.Begins type id function_type) h = refl
main_begins m _ h = absurd (true≢false (sym h))

-- The interface is defined by the globals -------------------------------------------------------------------------------

variable_defines : (args : List ℕ) (id : ℕ) → (q : ℕ → Bool) → ((x : ℕ) → is_id x (result (read (record { op = op.VARIABLE; args = args }))) ≡ true → q x ≡ true) → list_all q (variable_interface args) ≡ true
unfolding form_of
variable_defines [] id q each = refl
variable_defines (pointer ∷ []) id q each = refl
variable_defines (pointer ∷ r ∷ []) id q each = refl
variable_defines (pointer ∷ r ∷ class ∷ more) id q each = by_class (class == storage_class.INPUT || class == storage_class.OUTPUT)
  where
    by_class : (b : Bool) → list_all q (cond b (r ∷ []) []) ≡ true
    by_class true = and_from _ _ (each r (eq-eqb r r refl)) refl
    by_class false = refl

all_both : (q : ℕ → Bool) (a b : List ℕ) → list_all q a ≡ true → list_all q b ≡ true → list_all q (a ++ b) ≡ true
all_both q [] b x y = y
all_both q (id ∷ a) b x y = let parts = and_parts (q id) (list_all q a) x in and_from _ _ parts.0 (all_both q a b parts.1 y)

interface_holds : (q : ℕ → Bool) (code : Code) → ((id : ℕ) → defined code id ≡ true → q id ≡ true) → list_all q (interface_of code) ≡ true
interface_holds q [] each = refl
interface_holds q (i ∷ code) each =
    all_both q (interface_at i) (interface_of code) (by_op (i.op == op.VARIABLE) refl) (interface_holds q code (λ id h. each id (or_right (defines i id) _ h)))
  where
    by_op : (b : Bool) → (i.op == op.VARIABLE) ≡ b → list_all q (cond b (variable_interface i.args) []) ≡ true
    by_op true is =
        variable_defines i.args 0 q (λ x h. each x (or_left _ _ (ap (λ n. is_id x (result (read (record { op = n; args = i.args })))) (eqb-true i.op op.VARIABLE is) ∙ h)))
    by_op false is = refl

-- The whole ---------------------------------------------------------------------------------------------------------------

module _ (s : Sections) (main : ℕ) (local_size : List ℕ) (sound : AreSound s main local_size) where
  abbrev pub m : Module
  m = module_of s main local_size

  abbrev pub top : Code
  top = head s main local_size sound.set

  pub is_front : m.instrs ≡ front s main local_size sound.set ++ s.functions
  is_front = parts_are s main local_size sound.set sound.imports

  abbrev Outer : Code → Type 0
  Outer code = AllByRecursion (λ i. is_outer (kind (read i)) ≡ true) code

  pub front_outer : Outer (front s main local_size sound.set)
  front_outer =
      let P = λ (i : Instr). is_outer (kind (read i)) ≡ true in
      all_append P (top ++ s.names ++ s.decorations) s.globals
      (all_append P (top ++ s.names) s.decorations (all_append P top s.names (head_outer main local_size sound.set s.stage (interface_of s.globals)) (all_all P (IsName m) (λ i n. ap is_outer n.is) s.names sound.names))
      (all_each P (IsDecoration m) (λ b i d. ap is_outer d.is) [] s.decorations sound.decorations))
      (all_each P (IsDeclaration m) (λ b i d. declares_outer (kind (read i)) d.is) [] s.globals sound.globals)

  -- what stands in the front is no block's
  front_lasts : (id : ℕ) → defined (front s main local_size sound.set) id ≡ true → of_block (defined_as m id) ≡ false
  front_lasts id h =
      ap of_block (ap (λ c. definition c id) is_front ∙ definition_left (front s main local_size sound.set) s.functions id h)
      ∙ outer_no_value (kind (definition (front s main local_size sound.set) id)) (definition_has (λ d. is_outer (kind d)) (front s main local_size sound.set) id front_outer h)

  globals_front : (id : ℕ) → defined s.globals id ≡ true → defined (front s main local_size sound.set) id ≡ true
  globals_front id h = defined_right (top ++ s.names ++ s.decorations) s.globals id h

  globals_last : (id : ℕ) → defined (passed [] s.globals) id ≡ true → of_block (defined_as m id) ≡ false
  globals_last id h = elim (passed_defined [] s.globals id h) [ inl none ↦ absurd (true≢false (sym none)) | inr there ↦ front_lasts id (globals_front id there) ]

  global_lasting : (id : ℕ) → defined s.globals id ≡ true → is_lasting m id ≡ true
  global_lasting id h =
      and_from _ _ (ap (λ c. defined c id) is_front ∙ defined_left (front s main local_size sound.set) s.functions id (globals_front id h)) (not_from_false _ (front_lasts id (globals_front id h)))

  main_mark : fits.is_mark m main ≡ true
  main_mark = main_begins m (kind (defined_as m main)) sound.main_is

  entry_lasting : list_all (is_lasting m) (main ∷ interface_of s.globals) ≡ true
  entry_lasting =
      and_from _ _ (and_from _ _ (mark_defined m main main_mark) (not_from_false _ (mark_not_of_block m main main_mark))) (interface_holds (is_lasting m) s.globals global_lasting)

  -- Where the sections begin
  abbrev before_decorations : Code
  before_decorations = passed [] (top ++ s.names)

  abbrev pub before_globals : Code
  before_globals = passed [] (top ++ s.names ++ s.decorations)

  named_unmarked : AllByRecursion (λ i. unmarked (kind (read i)) ≡ true) (top ++ s.names)
  named_unmarked =
      let P = λ (i : Instr). unmarked (kind (read i)) ≡ true in
      all_append P top s.names (head_unmarked main local_size sound.set s.stage (interface_of s.globals)) (all_all P (IsName m) (λ i n. ap unmarked n.is) s.names sound.names)

  pub marked_precede : AllByRecursion (λ i. precedes (kind (read i)) ≡ true) (top ++ s.names ++ s.decorations)
  marked_precede =
      let P = λ (i : Instr). precedes (kind (read i)) ≡ true in
      all_append P (top ++ s.names) s.decorations (all_all P (λ i. unmarked (kind (read i)) ≡ true) (λ i h. unmarked_precedes (kind (read i)) h) (top ++ s.names) named_unmarked)
      (all_each P (IsDecoration m) (λ b i d. ap precedes d.is) [] s.decorations sound.decorations)

  module _ (test : Test) (heads_pass : Passes test [] top) (passes : (before : Code) (i : Instr) → Follows m before i → IsTrue (test before i)) where
    walked : Passes test [] (front s main local_size sound.set) × Past m 8 (passed [] (front s main local_size sound.set))
    walked =
        let P = λ (i : Instr). unmarked (kind (read i)) ≡ true in
        let Q = λ (i : Instr). precedes (kind (read i)) ≡ true in
        let b1 = passed [] top in
        let names = names_pass m test passes s.names b1 sound.names (wider m 5 6 b1 (omega arith) (head_past main local_size m sound.set s.stage (interface_of s.globals))) in
        let past2 : Past m 6 before_decorations = subst (Past m 6) (sym (passed_append [] top s.names)) names.1 in
        let marks = marks_pass m test passes before_decorations (all_passed P [] (top ++ s.names) tt named_unmarked) s.decorations [] sound.decorations (wider m 6 7 before_decorations (omega arith) past2) in
        let past3 : Past m 7 before_globals = subst (Past m 7) (sym (passed_append [] (top ++ s.names) s.decorations)) marks.1 in
        let declared = declarations_pass m test passes before_globals (all_passed Q [] (top ++ s.names ++ s.decorations) tt marked_precede) s.globals [] tt globals_last sound.globals (wider m 7 8 before_globals (omega arith) past3) in (
          passes_append test [] (top ++ s.names ++ s.decorations) s.globals (passes_append test [] (top ++ s.names) s.decorations (passes_append test [] top s.names heads_pass names.0) marks.0) declared.0,
          subst (Past m 8) (sym (passed_append [] (top ++ s.names ++ s.decorations) s.globals)) declared.1,
        )

  headed_pass : (test : Test) → ((before : Code) (i : Instr) → Lies m before i → IsTrue (test before i)) → Passes test [] top
  headed_pass test passes = head_pass main local_size m test (λ before i h. passes before i (headed h)) sound.set s.stage (interface_of s.globals) sound.sizes entry_lasting

  front_past : Past m 8 (passed [] (front s main local_size sound.set))
  front_past = (walked (λ before i. true) (headed_pass (λ before i. true) (λ before i lies. refl)) (λ before i follows. refl)).1

  past_functions : (before : Code) → Past m 8 before → may_come (where_at m before).section 9 ≡ true
  past_functions before p = past_comes m 9 before refl (wider m 8 9 before (omega arith) p)

  pub stands : Stands m sound.rank (front s main local_size sound.set) s.functions
  stands = record {
    is = is_front;
    outer = front_outer;
    each = sound.functions;
    shallow = sound.shallow;
    section = past_functions (passed [] (front s main local_size sound.set)) front_past;
    once = once_kept s main local_size sound.set sound.imports sound.apart;
  }

  -- a test that the heads pass, what lies outside functions and what plays its part in them
  pub passes_by : (test : Test) → Passes test [] top → ((before : Code) (i : Instr) → Follows m before i → IsTrue (test before i)) → ((before : Code) (i : Instr) → Plays m sound.rank before i → IsTrue (test before i)) → Passes test [] m.instrs
  passes_by test first follows plays =
      subst (Passes test []) (sym is_front)
      (passes_append test [] (front s main local_size sound.set) s.functions (walked test first follows).0 (functions_pass stands test plays))

  pub all_pass : (test : Test) → ((before : Code) (i : Instr) → Lies m before i → IsTrue (test before i)) → ((before : Code) (i : Instr) → Plays m sound.rank before i → IsTrue (test before i)) → Passes test [] m.instrs
  all_pass test lies plays = passes_by test (headed_pass test lies) (λ before i f. lies before i (lies_of m before i f)) plays
