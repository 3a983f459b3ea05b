-- What the block of a program's module defines is used in it.
use Rattle.std.proofs.Common.{◌≡◌, ℕ, Bool, true, ◌&&◌, eqb, [], ◌∷◌, length, refl, ap, ◌⊎◌, inl, inr, arith}
use Rattle.std.specs.List.{list_all}
use Rattle.std.proofs.lemmas.Bool.{and_from, or_left, or_right, cond_both, eq-eqb}
use Rattle.gsl_instr.specs.declared.op.TheConstants as op
use Rattle.gsl_instr.specs.declared.enumerant.capability.TheConstants as capability
use Rattle.gsl_instr.specs.declared.enumerant.memory_model.TheConstants as memory_model
use Rattle.gsl_instr.specs.Forms.{form_of}
use Rattle.gsl_valid.specs.Search.{passed, Passes}
use Rattle.gsl_valid.specs.Ids.{defined, definition}
use Rattle.gsl_valid.specs.LocalityRules.{uses_near, is_near, near_as, of_block}
use Rattle.gsl_valid.specs.Where.{Where, where_at}
use Rattle.gsl_form.specs.declared.program.Program.{Program}
use Rattle.gsl_cmd.specs.declared.lowering.id.TheConstants as id
use Rattle.gsl_form.specs.Form.{IsProgram}
use Rattle.gsl_cmd.specs.Lowering.{Code, code_of, constants_of, constant_id, first_id, instr, module_of, pointer}
use Rattle.gsl_cmd.proofs.Known.{among, member_known, program_known}
use Rattle.gsl_cmd.proofs.Walks.{Walk, load, statements_pass}
use Rattle.gsl_cmd.proofs.Parts.{before_names, before_decorations, before_types, before_constants, before_variable, before_function, before_code, ending, passes_parts}
use Rattle.gsl_cmd.proofs.ValidIds.{bound_of}
use Rattle.gsl_cmd.proofs.Facts.{Facts, facts}
use Rattle.gsl_cmd.proofs.Quiet.{main_entry, names_pass, decorations_pass, types_pass, constants_pass}
use Rattle.gsl_cmd.proofs.ValidUses.{all_same, two_defined, three_defined}

module _ (p : Program) (fits : IsProgram p) where
  abbrev here : Code → Where
  here = where_at (module_of p)

  -- An id that the block, and so the function, has defined so far.
  abbrev Close : ℕ → Code → Type 0
  Close id before = (defined (here before).block id ≡ true) × (defined (here before).body id ≡ true)

  abbrev known : Facts p
  known = facts p fits

  abbrev near : Code → ℕ → Bool
  near = is_near (module_of p)

  close_near : (id : ℕ) (before : Code) → Close id before → near before id ≡ true
  unfolding form_of
  close_near id before close =
      cond_both (of_block (definition (code_of p) id)) _ _ (λ b. b ≡ true) (λ e. close.0) (λ e. or_right _ _ close.1)

  near_void : (before : Code) → near before id.VOID ≡ true
  unfolding form_of
  near_void before = ap (near_as (here before) id.VOID) known.void

  near_main_type : (before : Code) → near before id.MAIN_TYPE ≡ true
  unfolding form_of
  near_main_type before = ap (near_as (here before) id.MAIN_TYPE) known.main_type

  near_int : (before : Code) → near before id.INT ≡ true
  unfolding form_of
  near_int before = ap (near_as (here before) id.INT) known.int

  near_block : (before : Code) → near before id.BLOCK ≡ true
  unfolding form_of
  near_block before = ap (near_as (here before) id.BLOCK) known.block

  near_block_pointer : (before : Code) → near before id.BLOCK_POINTER ≡ true
  unfolding form_of
  near_block_pointer before = ap (near_as (here before) id.BLOCK_POINTER) known.block_pointer

  near_member_pointer : (before : Code) → near before id.MEMBER_POINTER ≡ true
  unfolding form_of
  near_member_pointer before = ap (near_as (here before) id.MEMBER_POINTER) known.member_pointer

  near_buffer : (before : Code) → near before id.BUFFER ≡ true
  unfolding form_of
  near_buffer before = ap (near_as (here before) id.BUFFER) known.buffer

  near_main : (before : Code) → near before id.MAIN ≡ true
  unfolding form_of
  near_main before = ap (near_as (here before) id.MAIN) known.main

  near_constant : (v : ℕ) (before : Code) → among (constants_of p) v ≡ true → near before (constant_id (constants_of p) v) ≡ true
  unfolding form_of
  near_constant v before there = ap (near_as (here before) (constant_id (constants_of p) v)) (known.constant v there)

  -- one id that is near
  one : (before : Code) (id : ℕ) → near before id ≡ true → (list_all (near before) (id ∷ []) && true) ≡ true
  unfolding form_of
  one before id e = and_from _ _ (and_from _ _ e refl) refl

  mention : (before : Code) (id : ℕ) → near before id ≡ true → list_all (near before) (id ∷ []) ≡ true
  unfolding form_of
  mention before id e = and_from _ _ e refl

  own : (n : ℕ) → eqb n n ≡ true
  unfolding form_of
  own n = eq-eqb n n refl

  -- a constant is near anywhere, and what the block defines in it
  abbrev Value : ℕ → Code → Type 0
  Value v before = ((b : Code) → near b v ≡ true) ⊎ Close v before

  value_near : (v : ℕ) (before : Code) → Value v before → near before v ≡ true
  unfolding form_of
  value_near v before (inl always) = always before
  value_near v before (inr close) = close_near v before close

  behind_chain : (n k v : ℕ) (before : Code) → Value v before → Value v (pointer (constants_of p) n k ∷ before)
  unfolding form_of
  behind_chain n k v before (inl always) = inl always
  behind_chain n k v before (inr close) = inr (or_right (eqb n v) _ close.0, or_right (eqb n v) _ close.1)

  behind_load : (n q v : ℕ) (before : Code) → Value v before → Value v (load n q ∷ before)
  unfolding form_of
  behind_load n q v before (inl always) = inl always
  behind_load n q v before (inr close) = inr (or_right (eqb n v) _ close.0, or_right (eqb n v) _ close.1)

  abbrev near_walk : Walk (constants_of p) (length p.members) (bound_of p) (λ i. Unit {0}) (uses_near (module_of p))
  unfolding form_of
  near_walk = record {
    ready = λ n before. Unit {0};
    value = Value;
    points = Close;
    chain = λ n k before within room here now. (
      three_defined (near before) id.MEMBER_POINTER id.BUFFER (constant_id (constants_of p) k) (near_member_pointer before) (near_buffer before)
          (near_constant k before (member_known p k within)),
      tt,
      (or_left _ _ (own n), or_left _ _ (own n)),
    );
    chain_keeps = behind_chain;
    load_passes = λ n q before room here now at. (
      two_defined (near before) id.INT q (near_int before) (close_near q before at),
      tt,
      inr (or_left _ _ (own n), or_left _ _ (own n)),
    );
    load_keeps = behind_load;
    add_passes = λ n a b before room here now x y. (
      three_defined (near before) id.INT a b (near_int before) (value_near a before x) (value_near b before y),
      tt,
      inr (or_left _ _ (own n), or_left _ _ (own n)),
    );
    store_passes = λ n q v before here now at held. (two_defined (near before) q v (close_near q before at) (value_near v before held), tt);
    literal = λ n v before there now. inl (λ b. near_constant v b there);
  }

  pub near_kept : Passes (uses_near (module_of p)) [] (code_of p)
  unfolding form_of
  near_kept =
      let test = uses_near (module_of p) in
      let two = passed [] (instr op.CAPABILITY (capability.SHADER ∷ []) ∷ instr op.MEMORY_MODEL (memory_model.LOGICAL ∷ memory_model.GLSL450 ∷ []) ∷ []) in
      let entry_near = λ (b : Code). mention b id.MAIN (near_main b) in
      let mode_near = λ (b : Code). mention b id.MAIN (near_main b) in
      passes_parts p test (refl, (refl, (entry_near two, (mode_near (main_entry ∷ two), tt))))
      (names_pass test p.members before_names (λ b. mention b id.BLOCK (near_block b)) (λ k b. mention b id.BLOCK (near_block b)))
      (decorations_pass test (length p.members) (before_decorations p) (λ b. mention b id.BLOCK (near_block b)) (λ k within b. mention b id.BLOCK (near_block b))
      (λ b. mention b id.BUFFER (near_buffer b)) (λ b. mention b id.BUFFER (near_buffer b)))
      (types_pass test (length p.members) (before_types p) (λ b. refl) (λ b. one b id.VOID (near_void b)) (λ b. refl)
      (λ b. and_from _ _ (all_same (near b) id.INT (length p.members) (near_int b)) refl) (λ b. one b id.BLOCK (near_block b)) (λ b. one b id.INT (near_int b)))
      (constants_pass test (constants_of p) (before_constants p) (λ k within b. one b id.INT (near_int b)))
      (one (before_variable p) id.BLOCK_POINTER (near_block_pointer (before_variable p)), tt) (
        two_defined (near (before_function p)) id.VOID id.MAIN_TYPE (near_void (before_function p)) (near_main_type (before_function p)),
        (
          refl,
          statements_pass (constants_of p) (length p.members) (bound_of p) (λ i. Unit {0}) test near_walk (first_id (constants_of p)) p.statements ending
              (before_code p) (program_known p fits) (omega arith) (λ i has. tt) tt (λ end behind e now. (refl, (refl, tt))),
        ),
      )
