-- The ids of a program's module are below the bound and defined once.
use Rattle.std.proofs.Common.{◌≡◌, ℕ, ◌+◌, ◌<◌, ◌≤◌, true, false, ◌||◌, eqb, List, [], ◌∷◌, length, map, refl, ap, ◌∙◌, ◌⊎◌, inl, inr, arith}
use Rattle.std.specs.List.{range_with_len}
use Rattle.std.proofs.lemmas.Bool.{and_from, or_from, le-leb, lt-ltb, ne_eqb, not_from_false}
use Rattle.gsl_words.specs.declared.module.Instr.{Instr}
use Rattle.gsl_instr.specs.Forms.{form_of}
use Rattle.gsl_valid.specs.Instruction.{read}
use Rattle.gsl_valid.specs.Search.{Passes}
use Rattle.gsl_valid.specs.Ids.{result, defines, defined, definition}
use Rattle.std.specs.Prelude.{Some}
use Rattle.gsl_valid.specs.IdsDefinedOnce.{defines_once, is_new}
use Rattle.gsl_valid.proofs.Searching.{passes_append, passes_range}
use Rattle.gsl_valid.proofs.Lookups.{Has, definition_is}
use Rattle.gsl_form.specs.declared.program.Program.{Program}
use Rattle.gsl_form.specs.Form.{IsProgram}
use Rattle.gsl_cmd.specs.Lowering.{Code, code_of, constants_of, constant_code, first_id, statements_ids}
use Rattle.gsl_cmd.proofs.Known.{program_known}
use Rattle.gsl_cmd.proofs.Walks.{Walk, statements_pass}
use Rattle.gsl_cmd.proofs.Parts.{member_name, member_offset, constant_at, before_types, before_constants, before_variable, before_code, ending, passes_parts, none_before_types, none_in_decorations}

-- the bound of a program's module
abbrev pub bound_of : Program → ℕ
bound_of p = first_id (constants_of p) + statements_ids (constants_of p) p.statements

-- a new id behind some code
new_passes : (bound n : ℕ) (before : Code) → 1 ≤ n → n < bound → defined before n ≡ false → is_new bound before (Some n) ≡ true
unfolding form_of
new_passes bound n before some below new = and_from _ _ (and_from _ _ (le-leb 1 n some) (lt-ltb n bound below)) (not_from_false _ new)

-- no id from n on is defined
abbrev FreeFrom : ℕ → Code → Type 0
FreeFrom n before = (id : ℕ) → n ≤ id → defined before id ≡ false

-- an id that is taken, and the ids behind it
taken : (n : ℕ) (before : Code) → FreeFrom n before → (id : ℕ) → n + 1 ≤ id → (eqb n id || defined before id) ≡ false
unfolding form_of
taken n before free id above = or_from (eqb n id) (defined before id) (ne_eqb n id (λ e. omega arith)) (free id (omega arith))

module _ (constants : List ℕ) (members bound : ℕ) where
  abbrev ids_walk : Walk constants members bound (λ i. Unit {0}) (defines_once bound)
  unfolding form_of
  ids_walk = record {
    ready = λ n before. (1 ≤ n) × FreeFrom n before;
    value = λ v before. Unit {0};
    points = λ v before. Unit {0};
    chain = λ n k before within room here now. (new_passes bound n before now.0 room (now.1 n (omega arith)), (omega arith, taken n before now.1), tt);
    chain_keeps = λ n k v before held. tt;
    load_passes = λ n q before room here now at. (new_passes bound n before now.0 room (now.1 n (omega arith)), (omega arith, taken n before now.1), tt);
    load_keeps = λ n q v before held. tt;
    add_passes = λ n a b before room here now x y. (new_passes bound n before now.0 room (now.1 n (omega arith)), (omega arith, taken n before now.1), tt);
    store_passes = λ n q v before here now at held. (refl, now);
    literal = λ n v before known now. tt;
  }

module _ (p : Program) where
  -- no id is defined before the types
  none_defined : (id : ℕ) → defined (before_types p) id ≡ false
  unfolding form_of
  none_defined id =
      none_before_types p (λ i. defines i id) refl refl (λ k. refl) (none_in_decorations p (λ i. defines i id) refl (λ k. refl) refl refl)

  -- the types take ids below 10
  types_below : FreeFrom 10 (before_constants p)
  unfolding form_of
  types_below id above =
      or_from (eqb 8 id) _ (ne_eqb 8 id (λ e. omega arith))
      (or_from (eqb 7 id) _ (ne_eqb 7 id (λ e. omega arith))
      (or_from (eqb 6 id) _ (ne_eqb 6 id (λ e. omega arith))
      (or_from (eqb 5 id) _ (ne_eqb 5 id (λ e. omega arith))
      (or_from (eqb 3 id) _ (ne_eqb 3 id (λ e. omega arith))
      (or_from (eqb 2 id) _ (ne_eqb 2 id (λ e. omega arith)) (none_defined id))))))

  -- the constants take ids from 10 on
  abbrev Apart : ℕ → Code → Type 0
  Apart count before = (id : ℕ) → (id < 10) ⊎ (10 + count ≤ id) → defined before id ≡ defined (before_constants p) id

  one_more : (k : ℕ) (before : Code) → Apart k before → Apart (k + 1) (constant_at (constants_of p) k ∷ before)
  unfolding form_of
  one_more k before apart id (inl below) =
      ap (λ b. b || defined before id) (ne_eqb (10 + k) id (λ e. omega arith)) ∙ apart id (inl below)
  one_more k before apart id (inr above) =
      ap (λ b. b || defined before id) (ne_eqb (10 + k) id (λ e. omega arith)) ∙ apart id (inr (omega arith))

  constants_pass : Passes (defines_once (bound_of p)) (before_constants p) (constant_code (constants_of p)) × Apart (0 + length (constants_of p)) (before_variable p)
  unfolding form_of
  constants_pass =
      passes_range (defines_once (bound_of p)) Apart (constant_at (constants_of p)) 0 (length (constants_of p))
      (λ k before low high apart. (
        new_passes (bound_of p) (10 + k) before (omega arith) (omega arith) (apart (10 + k) (inr (omega arith)) ∙ types_below (10 + k) (omega arith)),
        one_more k before apart,
      )) (before_constants p) (λ id apart. refl)

  -- no id below 10 other than those of the types is defined before the variable
  not_yet : (id : ℕ) → id < 10 → defined (before_constants p) id ≡ false → defined (before_variable p) id ≡ false
  unfolding form_of
  not_yet id below none = constants_pass.1 id (inl below) ∙ none

  free_from_code : FreeFrom (first_id (constants_of p)) (before_code p)
  unfolding form_of
  free_from_code id above =
      or_from (eqb 4 id) _ (ne_eqb 4 id (λ e. omega arith))
      (or_from (eqb 1 id) _ (ne_eqb 1 id (λ e. omega arith))
      (or_from (eqb 9 id) _ (ne_eqb 9 id (λ e. omega arith))
      (constants_pass.1 id (inr (omega arith)) ∙ types_below id (omega arith))))

  pub ids_once : IsProgram p → Passes (defines_once (bound_of p)) [] (code_of p)
  unfolding form_of
  ids_once fits =
      let test = defines_once (bound_of p) in
      let quiet : ℕ → Code → Type 0 = λ k before. Unit {0} in
      let a_type = λ (n : ℕ) (some : 1 ≤ n) (below : n < bound_of p). new_passes (bound_of p) n (before_types p) some below (none_defined n) in
      let another = λ (n : ℕ) (some : 1 ≤ n) (below : n < bound_of p) (none : defined (before_variable p) n ≡ false). new_passes (bound_of p) n (before_variable p) some below none in
      passes_parts p test (refl, (refl, (refl, (refl, tt))))
      (refl, (passes_range test quiet (member_name p.members) 0 (length p.members) (λ k before low high now. (refl, tt)) _ tt).0) (
        refl,
        passes_append test _ (map member_offset (range_with_len 0 (length p.members))) _
            (passes_range test quiet member_offset 0 (length p.members) (λ k before low high now. (refl, tt)) _ tt).0 (refl, (refl, tt)),
      ) (
        a_type 2 (omega arith) (omega arith),
        (
          a_type 3 (omega arith) (omega arith),
          (
            a_type 5 (omega arith) (omega arith),
            (
              a_type 6 (omega arith) (omega arith),
              (a_type 7 (omega arith) (omega arith), (a_type 8 (omega arith) (omega arith), tt)),
            ),
          ),
        ),
      )
      constants_pass.0
      (another 9 (omega arith) (omega arith) (not_yet 9 (omega arith) (none_defined 9)), tt) (
        another 1 (omega arith) (omega arith) (not_yet 1 (omega arith) (none_defined 1)),
        (
          another 4 (omega arith) (omega arith) (not_yet 4 (omega arith) (none_defined 4)),
          statements_pass (constants_of p) (length p.members) (bound_of p) (λ i. Unit {0}) test (ids_walk (constants_of p) (length p.members) (bound_of p))
              (first_id (constants_of p)) p.statements ending (before_code p) (program_known p fits) (omega arith) (λ i has. tt) (omega arith, free_from_code)
              (λ end behind e now. (refl, (refl, tt))),
        ),
      )

  -- What an instruction of the module defines is found by its id.
  pub defined_by : IsProgram p → (i : Instr) (id : ℕ) → Has (code_of p) i → result (read i) ≡ Some id → definition (code_of p) id ≡ read i
  unfolding form_of
  defined_by fits i id has e = definition_is (bound_of p) [] (code_of p) i id (ids_once fits) has e
