-- The types, constants and the variable of a program's module are made as they may be.
use Rattle.std.proofs.Common.{◌≡◌, ℕ, zero, suc, ◌+◌, ◌≤◌, true, ◌||◌, [], ◌∷◌, length, map, refl, ap, ◌∙◌, arith}
use Rattle.std.specs.Prelude.{replicate, fold, max}
use Rattle.std.proofs.Math.ListN.{length-replicate}
use Rattle.std.proofs.lemmas.Bool.{and_from, or_left, or_right, not_from_false, le-leb}
use Rattle.gsl_instr.specs.declared.enumerant.storage_class.TheConstants as storage_class
use Rattle.gsl_instr.specs.Forms.{form_of}
use Rattle.gsl_valid.specs.Search.{Passes}
use Rattle.gsl_valid.specs.Types.{void_type, int_type, struct_type, value_type, target_of, is_value_type, highest, height}
use Rattle.gsl_valid.specs.TypeRules.{type_made, is_member, same_type}
use Rattle.gsl_valid.specs.ConstantRules.{constant_typed}
use Rattle.gsl_valid.specs.GlobalRules.{global_kept, is_global_of}
use Rattle.gsl_valid.specs.LimitRules.{within_limits, nests_within, most_members, most_height}
use Rattle.gsl_form.specs.declared.program.Program.{Program}
use Rattle.gsl_cmd.specs.declared.lowering.id.TheConstants as id
use Rattle.gsl_form.specs.Form.{IsProgram}
use Rattle.gsl_cmd.specs.Lowering.{code_of, constants_of, module_of}
use Rattle.gsl_cmd.proofs.Parts.{before_names, before_decorations, before_types, before_constants, before_function, passes_parts, none_before_types, none_in_decorations}
use Rattle.gsl_cmd.proofs.Facts.{Facts, facts}
use Rattle.gsl_cmd.proofs.Quiet.{void_made, main_made, int_made, block_pointer_made, member_pointer_made, names_pass, decorations_pass, constants_pass, function_pass, code_pass, main_function, main_label}
use Rattle.gsl_cmd.proofs.ValidBlocks.{nesting_is}
use Rattle.gsl_cmd.proofs.ValidUses.{all_same}

module _ (p : Program) (fits : IsProgram p) where
  abbrev known : Facts p
  known = facts p fits

  int_is_value : is_value_type (module_of p) id.INT ≡ true
  unfolding form_of
  int_is_value = ap value_type known.int

  pub types_made : Passes (type_made (module_of p)) [] (code_of p)
  unfolding form_of
  types_made =
      let test = type_made (module_of p) in
      passes_parts p test (refl, (refl, (refl, (refl, tt)))) (names_pass test p.members before_names (λ b. refl) (λ k b. refl))
      (decorations_pass test (length p.members) (before_decorations p) (λ b. refl) (λ k within b. refl) (λ b. refl) (λ b. refl)) (
        not_from_false _ (none_before_types p (same_type void_made) refl refl (λ k. refl) (none_in_decorations p (same_type void_made) refl (λ k. refl) refl refl)),
        (
          and_from _ _ (and_from _ _ (ap (λ d. void_type d || value_type d) known.void) refl)
              (not_from_false _ (none_before_types p (same_type main_made) refl refl (λ k. refl) (none_in_decorations p (same_type main_made) refl (λ k. refl) refl refl))),
          (
            not_from_false _ (none_before_types p (same_type int_made) refl refl (λ k. refl) (none_in_decorations p (same_type int_made) refl (λ k. refl) refl refl)),
            (
              all_same (is_member (module_of p)) id.INT (length p.members) (or_left _ _ int_is_value),
              (
                and_from _ _ (ap value_type known.block)
                    (not_from_false _ (none_before_types p (same_type block_pointer_made) refl refl (λ k. refl) (none_in_decorations p (same_type block_pointer_made) refl (λ k. refl) refl refl))),
                (
                  and_from _ _ int_is_value
                      (not_from_false _ (none_before_types p (same_type member_pointer_made) refl refl (λ k. refl) (none_in_decorations p (same_type member_pointer_made) refl (λ k. refl) refl refl))),
                  tt,
                ),
              ),
            ),
          ),
        ),
      )
      (constants_pass test (constants_of p) (before_constants p) (λ k within b. refl)) (refl, tt)
      (function_pass test p fits (before_function p) (λ b. refl) (λ b. refl) (λ n k b. refl) (λ n q b. refl) (λ n a c b. refl) (λ q v b. refl) (λ b. refl) (λ b. refl))

  pub constants_typed : Passes (constant_typed (module_of p)) [] (code_of p)
  unfolding form_of
  constants_typed =
      let test = constant_typed (module_of p) in
      passes_parts p test (refl, (refl, (refl, (refl, tt)))) (names_pass test p.members before_names (λ b. refl) (λ k b. refl))
      (decorations_pass test (length p.members) (before_decorations p) (λ b. refl) (λ k within b. refl) (λ b. refl) (λ b. refl))
      (refl, (refl, (refl, (refl, (refl, (refl, tt))))))
      (constants_pass test (constants_of p) (before_constants p) (λ k within b. ap int_type known.int)) (refl, tt)
      (function_pass test p fits (before_function p) (λ b. refl) (λ b. refl) (λ n k b. refl) (λ n q b. refl) (λ n a c b. refl) (λ q v b. refl) (λ b. refl) (λ b. refl))

  pub globals_kept : Passes (global_kept (module_of p)) [] (code_of p)
  unfolding form_of
  globals_kept =
      let test = global_kept (module_of p) in
      passes_parts p test (refl, (refl, (refl, (refl, tt))))
      (names_pass test p.members before_names (λ b. or_right _ _ refl) (λ k b. or_right _ _ refl))
      (decorations_pass test (length p.members) (before_decorations p) (λ b. or_right _ _ refl) (λ k within b. or_right _ _ refl) (λ b. or_right _ _ refl) (λ b. or_right _ _ refl))
      (or_right _ _ refl, (or_right _ _ refl, (or_right _ _ refl, (or_right _ _ refl, (or_right _ _ refl, (or_right _ _ refl, tt))))))
      (constants_pass test (constants_of p) (before_constants p) (λ k within b. or_right _ _ refl)) (
        or_right _ _
            (ap (λ d. is_global_of (module_of p) storage_class.UNIFORM [] (target_of d)) known.block_pointer ∙ and_from _ _ (ap struct_type known.block) refl),
        tt,
      )
      (function_pass test p fits (before_function p) (λ b. or_right _ _ refl) (λ b. or_right _ _ refl) (λ n k b. or_right _ _ refl) (λ n q b. or_right _ _ refl)
      (λ n a c b. or_right _ _ refl) (λ q v b. or_right _ _ refl) (λ b. or_right _ _ refl) (λ b. or_right _ _ refl))

  highest_few : (f : ℕ → ℕ) (x most first count : ℕ) → first ≤ most → f x ≤ most → fold max first (map f (replicate count x)) ≤ most
  unfolding form_of
  highest_few f x most first zero low high = low
  highest_few f x most first (suc count) low high = highest_few f x most (max first (f x)) count (omega arith) high

  pub limits_kept : Passes (within_limits (module_of p)) [] (code_of p)
  unfolding form_of
  limits_kept =
      let test = within_limits (module_of p) in
      let int = int_made ∷ main_made ∷ void_made ∷ before_types p in
      let members = length p.members in
      let some = fits.most in
      let few : length (replicate members id.INT) ≤ most_members = simp length-replicate (omega arith) in
      let one : height int id.INT ≤ 1 = omega arith in
      let low : 1 + highest (map (height int) (replicate members id.INT)) ≤ most_height = omega (arith, highest_few (height int) id.INT 1 0 members (omega arith) one) in
      passes_parts p test (refl, (refl, (refl, (refl, tt)))) (names_pass test p.members before_names (λ b. refl) (λ k b. refl))
      (decorations_pass test (length p.members) (before_decorations p) (λ b. refl) (λ k within b. refl) (λ b. refl) (λ b. refl))
      (refl, (refl, (refl, (and_from _ _ (le-leb _ _ few) (le-leb _ _ low), (refl, (refl, tt))))))
      (constants_pass test (constants_of p) (before_constants p) (λ k within b. refl)) (refl, tt) (
        ap nests_within (nesting_is p),
        (refl, code_pass test p fits (main_label ∷ main_function ∷ before_function p) (λ n k b. refl) (λ n q b. refl) (λ n a c b. refl) (λ q v b. refl) (λ b. refl) (λ b. refl)),
      )
