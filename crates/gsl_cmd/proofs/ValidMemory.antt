-- The operands, pointers, loads and stores of a program's module are typed.
use Rattle.std.proofs.Common.{◌≡◌, ℕ, ◌<◌, true, false, eqb, [], ◌∷◌, length, Some, refl, ap, ◌∙◌, inr, arith}
use Rattle.std.specs.Prelude.{replicate, is_some}
use Rattle.std.proofs.Math.ListN.{length-replicate}
use Rattle.std.proofs.lemmas.List.{get_or-replicate}
use Rattle.std.proofs.lemmas.Bool.{and_from, or_from, cond-true, lt-ltb, not_from_false}
use Rattle.gsl_words.specs.declared.module.Instr.{Instr}
use Rattle.gsl_words.specs.declared.module.Module.{Module}
use Rattle.gsl_instr.specs.declared.enumerant.decoration.TheConstants as decoration
use Rattle.gsl_instr.specs.declared.enumerant.storage_class.TheConstants as storage_class
use Rattle.gsl_instr.specs.declared.instruction.Instruction.TheVariants as instruction
use Rattle.gsl_instr.specs.Forms.{form_of}
use Rattle.gsl_valid.specs.Search.{Passes}
use Rattle.gsl_valid.specs.Kinds.{kind, shape_of, type_of, value_of, variable_is}
use Rattle.gsl_valid.specs.Types.{Target, target_of, is_type, has_type, defined_as, has_lanes, is_int_value, is_ints, is_words, lanes_in}
use Rattle.gsl_valid.specs.CallRules.{points, target}
use Rattle.gsl_valid.specs.DecorationRules.{pointee_of}
use Rattle.gsl_valid.specs.Decorations.{has}
use Rattle.gsl_valid.specs.OperandRules.{typed}
use Rattle.gsl_valid.specs.MemoryRules.{memory_kept, is_base, is_in_buffer, is_marked, marks, member_at, part_by, part_of, part_at, is_part, leads_to, passes_one, stores, target_type, leads_through, may_load, may_store}
use Rattle.gsl_valid.proofs.Lookups.{Has}
use Rattle.gsl_form.specs.declared.program.Program.{Program}
use Rattle.gsl_cmd.specs.declared.lowering.id.TheConstants as id
use Rattle.gsl_form.specs.Form.{IsProgram}
use Rattle.gsl_cmd.specs.Lowering.{code_of, constants_of, constant_id, first_id, module_of, pointer}
use Rattle.gsl_cmd.proofs.Known.{among, member_known, program_known}
use Rattle.gsl_cmd.proofs.Walks.{Walk, load, add, statements_pass}
use Rattle.gsl_cmd.proofs.Parts.{before_names, before_decorations, before_constants, before_code, ending, in_main, passes_parts}
use Rattle.gsl_cmd.proofs.ValidIds.{bound_of, defined_by}
use Rattle.gsl_cmd.proofs.Facts.{Facts, facts}
use Rattle.gsl_cmd.proofs.Quiet.{the_code, names_pass, decorations_pass, constants_pass}
use Rattle.gsl_cmd.proofs.Decorated.{block_is_buffer, member_has_no}

module _ (p : Program) (fits : IsProgram p) where
  abbrev known : Facts p
  known = facts p fits

  abbrev m : Module
  m = module_of p

  abbrev Part : Instr → Type 0
  Part i = Has (code_of p) i

  each_part : (i : Instr) → Has (the_code p) i → Part i
  unfolding form_of
  each_part i has = in_main p i (inr (inr has))

  abbrev IsInt : ℕ → Type 0
  IsInt v = has_type m id.INT v ≡ true

  loaded_int : (n q : ℕ) → Part (load n q) → IsInt n
  unfolding form_of
  loaded_int n q here = ap (λ d. is_type id.INT (type_of d)) (defined_by p fits (load n q) n here refl)

  sum_int : (n a b : ℕ) → Part (add n a b) → IsInt n
  unfolding form_of
  sum_int n a b here = ap (λ d. is_type id.INT (type_of d)) (defined_by p fits (add n a b) n here refl)

  constant_int : (v : ℕ) → among (constants_of p) v ≡ true → IsInt (constant_id (constants_of p) v)
  unfolding form_of
  constant_int v there = ap (λ d. is_type id.INT (type_of d)) (known.constant v there)

  int_ints : is_ints m id.INT ≡ true
  unfolding form_of
  int_ints = ap (λ d. has_lanes is_words (lanes_in m (shape_of d))) known.int

  -- Operands ---------------------------------------------------------------------------------------------------------

  abbrev typed_walk : Walk (constants_of p) (length p.members) (bound_of p) Part (typed m)
  unfolding form_of
  typed_walk = record {
    ready = λ n before. Unit {0};
    value = λ v before. IsInt v;
    points = λ v before. Unit {0};
    chain = λ n k before within room here now. (refl, tt, tt);
    chain_keeps = λ n k v before held. held;
    load_passes = λ n q before room here now at. (refl, tt, loaded_int n q here);
    load_keeps = λ n q v before held. held;
    add_passes = λ n a b before room here now x y. (and_from _ _ (and_from _ _ (and_from _ _ int_ints refl) x) y, tt, sum_int n a b here);
    store_passes = λ n q v before here now at held. (refl, tt);
    literal = λ n v before there now. constant_int v there;
  }

  pub operands_kept : Passes (typed m) [] (code_of p)
  unfolding form_of
  operands_kept =
      let test = typed m in
      passes_parts p test (refl, (refl, (refl, (refl, tt)))) (names_pass test p.members before_names (λ b. refl) (λ k b. refl))
      (decorations_pass test (length p.members) (before_decorations p) (λ b. refl) (λ k within b. refl) (λ b. refl) (λ b. refl))
      (refl, (refl, (refl, (refl, (refl, (refl, tt))))))
      (constants_pass test (constants_of p) (before_constants p) (λ k within b. refl)) (refl, tt) (
        refl,
        (
          refl,
          statements_pass (constants_of p) (length p.members) (bound_of p) Part test typed_walk (first_id (constants_of p)) p.statements ending
              (before_code p) (program_known p fits) (omega arith) each_part tt (λ end behind e now. (refl, (refl, tt))),
        ),
      )

  -- Memory -----------------------------------------------------------------------------------------------------------

  -- what the buffer and a pointer into it point to
  abbrev block_target : Target
  unfolding form_of
  block_target = record { class = storage_class.UNIFORM; pointee = id.BLOCK }

  abbrev member_target : Target
  unfolding form_of
  member_target = record { class = storage_class.UNIFORM; pointee = id.INT }

  buffer_target : target m id.BUFFER ≡ Some block_target
  unfolding form_of
  buffer_target = ap (λ d. points m (type_of d)) known.buffer ∙ ap target_of known.block_pointer

  -- the id is that of a pointer to a member
  abbrev PointsTo : ℕ → Type 0
  PointsTo q = (k : ℕ) × (k < length p.members) × (defined_as m q ≡ Some (instruction.AccessChain id.MEMBER_POINTER q id.BUFFER (constant_id (constants_of p) k ∷ [])))

  chained : (n k : ℕ) → k < length p.members → Part (pointer (constants_of p) n k) → PointsTo n
  unfolding form_of
  chained n k within here = (k, within, defined_by p fits (pointer (constants_of p) n k) n here refl)

  value_is : (k : ℕ) → k < length p.members → value_of (defined_as m (constant_id (constants_of p) k)) ≡ Some k
  unfolding form_of
  value_is k within = ap value_of (known.constant k (member_known p k within))

  part_is : (k : ℕ) → k < length p.members → part_of m id.BLOCK (constant_id (constants_of p) k) ≡ Some id.INT
  unfolding form_of
  part_is k within =
      let count = length p.members in
      let below : k < length (replicate count id.INT) = simp length-replicate within in
      ap (λ d. part_by (is_int_value m (constant_id (constants_of p) k)) (value_of (defined_as m (constant_id (constants_of p) k))) (shape_of d)) known.block
      ∙ ap (member_at (replicate count id.INT)) (value_is k within)
      ∙ cond-true _ _ _ (lt-ltb k _ below) ∙ ap Some (get_or-replicate count k id.INT 0 within)

  leads : (k : ℕ) → k < length p.members → leads_to m (target m id.BUFFER) (constant_id (constants_of p) k ∷ []) (target_of (defined_as m id.MEMBER_POINTER)) ≡ true
  unfolding form_of
  leads k within =
      let indexes = constant_id (constants_of p) k ∷ [] in
      ap (λ t. leads_to m t indexes (target_of (defined_as m id.MEMBER_POINTER))) buffer_target
      ∙ ap (λ d. leads_to m (Some block_target) indexes (target_of d)) known.member_pointer
      ∙ ap (λ part. is_part id.INT (part_at m part [])) (part_is k within)

  pointed : (q : ℕ) → PointsTo q → target m q ≡ Some member_target
  unfolding form_of
  pointed q at = ap (λ d. points m (type_of d)) at.2 ∙ ap target_of known.member_pointer

  -- no member on the way is marked
  unmarked : (mark : ℕ) → eqb decoration.OFFSET mark ≡ false → (q : ℕ) → PointsTo q → leads_through m mark (defined_as m q) ≡ false
  unfolding form_of
  unmarked mark other q at =
      let k = at.0 in
      let index = constant_id (constants_of p) k in
      ap (leads_through m mark) at.2
      ∙ ap (λ t. passes_one m mark (target_type t) (index ∷ [])) buffer_target
      ∙ or_from _ _
      (ap (λ d. marks m mark (value_of (defined_as m index)) (shape_of d)) known.block ∙ ap (is_marked m mark id.BLOCK) (value_is k at.1)
      ∙ ap is_some (member_has_no p k mark fits other))
      (ap (λ part. passes_one m mark part []) (part_is k at.1))

  in_buffer : (q : ℕ) → PointsTo q → is_in_buffer m (defined_as m q) ≡ true
  unfolding form_of
  in_buffer q at =
      ap (is_in_buffer m) at.2 ∙ ap (λ d. stores m (variable_is d)) known.buffer
      ∙ ap (λ d. has m decoration.BUFFER_BLOCK (pointee_of (target_of d))) known.block_pointer ∙ ap is_some (block_is_buffer p)

  loads : (q : ℕ) → PointsTo q → may_load m id.INT q (target m q) ≡ true
  unfolding form_of
  loads q at = ap (may_load m id.INT q) (pointed q at) ∙ and_from _ _ int_ints (not_from_false _ (unmarked decoration.NON_READABLE refl q at))

  stored : (q v : ℕ) → PointsTo q → IsInt v → may_store m q v (target m q) ≡ true
  unfolding form_of
  stored q v at held =
      ap (may_store m q v) (pointed q at)
      ∙ and_from _ _ (and_from _ _ held int_ints) (and_from _ _ (in_buffer q at) (not_from_false _ (unmarked decoration.NON_WRITABLE refl q at)))

  abbrev memory_walk : Walk (constants_of p) (length p.members) (bound_of p) Part (memory_kept m)
  unfolding form_of
  memory_walk = record {
    ready = λ n before. Unit {0};
    value = λ v before. IsInt v;
    points = λ v before. PointsTo v;
    chain = λ n k before within room here now. (and_from _ _ (ap (λ d. is_base (kind d)) known.buffer) (leads k within), tt, chained n k within here);
    chain_keeps = λ n k v before held. held;
    load_passes = λ n q before room here now at. (loads q at, tt, loaded_int n q here);
    load_keeps = λ n q v before held. held;
    add_passes = λ n a b before room here now x y. (refl, tt, sum_int n a b here);
    store_passes = λ n q v before here now at held. (stored q v at held, tt);
    literal = λ n v before there now. constant_int v there;
  }

  pub memory_is_kept : Passes (memory_kept m) [] (code_of p)
  unfolding form_of
  memory_is_kept =
      let test = memory_kept m in
      passes_parts p test (refl, (refl, (refl, (refl, tt)))) (names_pass test p.members before_names (λ b. refl) (λ k b. refl))
      (decorations_pass test (length p.members) (before_decorations p) (λ b. refl) (λ k within b. refl) (λ b. refl) (λ b. refl))
      (refl, (refl, (refl, (refl, (refl, (refl, tt))))))
      (constants_pass test (constants_of p) (before_constants p) (λ k within b. refl)) (refl, tt) (
        refl,
        (
          refl,
          statements_pass (constants_of p) (length p.members) (bound_of p) Part test memory_walk (first_id (constants_of p)) p.statements ending
              (before_code p) (program_known p fits) (omega arith) each_part tt (λ end behind e now. (refl, (refl, tt))),
        ),
      )
