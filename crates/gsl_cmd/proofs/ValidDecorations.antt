-- The decorations of a program's module stand where they may, and place its members.
use Rattle.std.proofs.Common.{◌≡◌, ℕ, zero, suc, ◌+◌, ◌*◌, ◌%◌, ◌^◌, ◌<◌, ◌≤◌, Bool, true, false, ◌&&◌, eqb, [], ◌∷◌, length, map, Option, Some, refl, ap, ◌∙◌, arith}
use Rattle.std.specs.Prelude.{replicate, is_some}
use Rattle.std.specs.List.{list_any, range_with_len}
use Rattle.std.proofs.Math.ListN.{length-replicate}
use Rattle.std.proofs.lemmas.Bool.{and_from, or_from, or_left, or_right, le-leb, lt-ltb, eq-eqb, ne_eqb, not_from_false}
use Rattle.gsl_words.specs.declared.module.Instr.{Instr}
use Rattle.gsl_words.specs.declared.target.TheConstants.{VERSION_1_0}
use Rattle.gsl_instr.specs.declared.op.TheConstants as op
use Rattle.gsl_instr.specs.declared.enumerant.decoration.TheConstants as decoration
use Rattle.gsl_instr.specs.Forms.{form_of}
use Rattle.gsl_valid.specs.Instruction.{read}
use Rattle.gsl_valid.specs.Search.{passed, Passes}
use Rattle.gsl_valid.specs.Types.{target_of}
use Rattle.gsl_valid.specs.Kinds.{Place, On, OnMember, shape_of}
use Rattle.gsl_valid.specs.Decorations.{has, number_in, number_on, number_on_member}
use Rattle.gsl_valid.specs.DecorationRules.{decorated, decorates, may_stand_on, may_stand_on_member, pointee, pointee_of, is_bound_to, differ}
use Rattle.gsl_valid.specs.LayoutRules.{laid, is_laid, is_at, end_after, extent, is_end, may_be_in, may_grow, need}
use Rattle.gsl_valid.proofs.Searching.{passes_append, passes_range}
use Rattle.gsl_form.specs.declared.program.Program.{Program}
use Rattle.gsl_cmd.specs.declared.lowering.id.TheConstants as id
use Rattle.gsl_form.specs.Form.{IsProgram}
use Rattle.gsl_cmd.specs.Lowering.{Code, instr, code_of, constants_of, module_of}
use Rattle.gsl_cmd.proofs.Parts.{member_offset, before_names, before_decorations, before_types, before_constants, before_variable, before_function, passes_parts, none_before_decorations, none_before_variable, none_before_types, none_in_decorations}
use Rattle.gsl_cmd.proofs.Facts.{Facts, facts}
use Rattle.gsl_cmd.proofs.ValidCalls.{block_outside, buffer_outside}
use Rattle.gsl_cmd.proofs.Quiet.{block_decoration, set_decoration, binding_decoration, names_pass, decorations_pass, constants_pass, function_pass}
use Rattle.gsl_cmd.proofs.Decorated.{is_on, block_is_buffer, block_is_no_block, buffer_set, buffer_binding, member_is_at}

module _ (p : Program) (fits : IsProgram p) where
  abbrev known : Facts p
  known = facts p fits

  -- the members from one on have no offset yet, and the buffer no set or binding
  abbrev NotYet : ℕ → Code → Type 0
  NotYet k before =
      ((j : ℕ) → k ≤ j → decorates before (OnMember id.BLOCK j) decoration.OFFSET ≡ false)
      × (decorates before (On id.BUFFER) decoration.DESCRIPTOR_SET ≡ false) × (decorates before (On id.BUFFER) decoration.BINDING ≡ false)

  not_yet : (place : Place) (kind : ℕ) → decorates (before_decorations p) place kind ≡ false
  unfolding form_of
  not_yet place kind = none_before_decorations p (is_on place kind) refl refl (λ k. refl)

  first_not_yet : NotYet 0 (block_decoration ∷ before_decorations p)
  unfolding form_of
  first_not_yet =
      (λ j above. not_yet (OnMember id.BLOCK j) decoration.OFFSET, not_yet (On id.BUFFER) decoration.DESCRIPTOR_SET, not_yet (On id.BUFFER) decoration.BINDING)

  offsets_stand : Passes (decorated (module_of p)) (block_decoration ∷ before_decorations p) (map member_offset (range_with_len 0 (length p.members)))
      × NotYet (0 + length p.members) (passed (block_decoration ∷ before_decorations p) (map member_offset (range_with_len 0 (length p.members))))
  unfolding form_of
  offsets_stand =
      passes_range (decorated (module_of p)) NotYet member_offset 0 (length p.members)
      (λ k before low high now.
      let within : k < length (replicate (length p.members) id.INT) = simp length-replicate (omega arith) in (
        and_from _ _ (and_from _ _ (and_from _ _ (ap (may_stand_on_member decoration.OFFSET k) known.block ∙ and_from _ _ (lt-ltb k _ within) refl) refl)
            (not_from_false _ (now.0 k (omega arith)))) refl,
        (λ j above. or_from (eqb k j) _ (ne_eqb k j (λ e. omega arith)) (now.0 j (omega arith)), now.1, now.2),
      )) (block_decoration ∷ before_decorations p) first_not_yet

  points_to_block : pointee (module_of p) id.BLOCK_POINTER ≡ id.BLOCK
  unfolding form_of
  points_to_block = ap (λ d. pointee_of (target_of d)) known.block_pointer

  buffer_decorated : differ (has (module_of p) decoration.BLOCK (pointee (module_of p) id.BLOCK_POINTER)) (has (module_of p) decoration.BUFFER_BLOCK (pointee (module_of p) id.BLOCK_POINTER)) ≡ true
  unfolding form_of
  buffer_decorated =
      let m = module_of p in
      ap (λ t. differ (has m decoration.BLOCK t) (has m decoration.BUFFER_BLOCK t)) points_to_block
      ∙ ap (λ o. differ (is_some o) (has m decoration.BUFFER_BLOCK id.BLOCK)) (block_is_no_block p fits) ∙ ap (λ o. differ false (is_some o)) (block_is_buffer p)

  -- no variable stands before the buffer
  first_bound : (set binding : Option ℕ) → list_any (λ i. is_bound_to (module_of p) set binding (read i)) (before_variable p) ≡ false
  unfolding form_of
  first_bound set binding =
      let f : Instr → Bool = λ i. is_bound_to (module_of p) set binding (read i) in
      none_before_variable p f (none_before_types p f refl refl (λ k. refl) (none_in_decorations p f refl (λ k. refl) refl refl)) (λ k. refl)

  pub decorations_kept : Passes (decorated (module_of p)) [] (code_of p)
  unfolding form_of
  decorations_kept =
      let m = module_of p in
      let test = decorated m in
      let behind = passed (block_decoration ∷ before_decorations p) (map member_offset (range_with_len 0 (length p.members))) in
      passes_parts p test (refl, (refl, (refl, (refl, tt)))) (names_pass test p.members before_names (λ b. refl) (λ k b. refl)) (
        and_from _ _ (and_from _ _ (and_from _ _ (and_from _ _ (block_outside p) (ap (may_stand_on VERSION_1_0 decoration.BUFFER_BLOCK) known.block)) refl) (not_from_false _ (not_yet (On id.BLOCK) decoration.BUFFER_BLOCK))) refl,
        passes_append test (block_decoration ∷ before_decorations p) (map member_offset (range_with_len 0 (length p.members))) (set_decoration ∷ binding_decoration ∷ [])
            offsets_stand.0 (
              and_from _ _ (and_from _ _ (and_from _ _ (and_from _ _ (buffer_outside p) (ap (may_stand_on VERSION_1_0 decoration.DESCRIPTOR_SET) known.buffer)) refl) (not_from_false _ offsets_stand.1.1)) refl,
              (
                and_from _ _ (and_from _ _ (and_from _ _ (and_from _ _ (buffer_outside p) (ap (may_stand_on VERSION_1_0 decoration.BINDING) known.buffer)) refl) (not_from_false _ offsets_stand.1.2)) refl,
                tt,
              ),
            ),
      )
      (refl, (refl, (refl, (refl, (refl, (refl, tt))))))
      (constants_pass test (constants_of p) (before_constants p) (λ k within b. refl)) (
        or_right _ _
            (and_from _ _ buffer_decorated
            (and_from _ _ (and_from _ _ (ap is_some (buffer_set p)) (ap is_some (buffer_binding p)))
            (not_from_false _ (first_bound (number_on m decoration.DESCRIPTOR_SET id.BUFFER) (number_on m decoration.BINDING id.BUFFER))))),
        tt,
      )
      (function_pass test p fits (before_function p) (λ b. refl) (λ b. refl) (λ n k b. refl) (λ n q b. refl) (λ n a c b. refl) (λ q v b. refl) (λ b. refl) (λ b. refl))

  -- The layout -------------------------------------------------------------------------------------------------------

  -- a member's place, four bytes for each before it
  at_four : (k : ℕ) → k < 64 → is_at (Some (4 * k)) (4 * k) 4 ≡ true
  unfolding form_of
  at_four k few =
      and_from _ _ (and_from _ _ (eq-eqb ((4 * k) % 4) 0 (omega arith)) (le-leb (4 * k) (4 * k) (omega arith))) (lt-ltb (4 * k + 4) (2 ^ 31) (omega arith))

  laid_from : (before : Code) → need (module_of p) before id.INT ≡ 4 → extent (module_of p) before id.INT ≡ 4 → (k count : ℕ) → k + count ≡ length p.members →
      is_laid (module_of p) before id.BLOCK k (4 * k) (replicate count id.INT) ≡ true
  unfolding form_of
  laid_from before four wide k zero whole = refl
  laid_from before four wide k (suc count) whole =
      let m = module_of p in
      let most = fits.most in
      let offset : number_on_member m decoration.OFFSET id.BLOCK k ≡ Some (4 * k) = ap number_in (member_is_at p k (omega arith)) in
      let placed : is_at (number_on_member m decoration.OFFSET id.BLOCK k) (4 * k) (extent m before id.INT) ≡ true =
      ap (is_at (number_on_member m decoration.OFFSET id.BLOCK k) (4 * k)) wide ∙ ap (λ o. is_at o (4 * k) 4) offset ∙ at_four k (omega arith) in
      let next : 4 * k + 4 ≡ 4 * (k + 1) = omega arith in
      let end : end_after (number_on_member m decoration.OFFSET id.BLOCK k) (need m before id.INT) ≡ 4 * (k + 1) =
      ap (end_after (number_on_member m decoration.OFFSET id.BLOCK k)) four ∙ ap (λ o. end_after o 4) offset ∙ next in
      and_from _ _ (and_from _ _ (ap (λ d. may_be_in m (is_end (replicate count id.INT) && may_grow m id.BLOCK) (shape_of d)) known.int) placed)
      (ap (λ e. is_laid m before id.BLOCK (k + 1) e (replicate count id.INT)) end ∙ laid_from before four wide (k + 1) count (omega arith))

  pub layout_kept : Passes (laid (module_of p)) [] (code_of p)
  unfolding form_of
  layout_kept =
      let test = laid (module_of p) in
      let before = instr op.TYPE_INT (id.INT ∷ 32 ∷ 1 ∷ []) ∷ instr op.TYPE_FUNCTION (id.MAIN_TYPE ∷ id.VOID ∷ []) ∷ instr op.TYPE_VOID (id.VOID ∷ []) ∷ before_types p in
      passes_parts p test (refl, (refl, (refl, (refl, tt)))) (names_pass test p.members before_names (λ b. refl) (λ k b. refl))
      (decorations_pass test (length p.members) (before_decorations p) (λ b. refl) (λ k within b. refl) (λ b. refl) (λ b. refl))
      (refl, (refl, (refl, (or_left _ _ (laid_from before refl refl 0 (length p.members) (omega arith)), (refl, (refl, tt))))))
      (constants_pass test (constants_of p) (before_constants p) (λ k within b. refl)) (refl, tt)
      (function_pass test p fits (before_function p) (λ b. refl) (λ b. refl) (λ n k b. refl) (λ n q b. refl) (λ n a c b. refl) (λ q v b. refl) (λ b. refl) (λ b. refl))
