-- The function of a program's module has the shape of one, and returns nothing.
use Rattle.std.proofs.Common.{◌≡◌, ℕ, true, [], ◌∷◌, length, map, None, refl, ap, ◌∙◌, arith, Option, Some}
use Rattle.std.specs.List.{range_with_len}
use Rattle.std.proofs.lemmas.Bool.{and_from}
use Rattle.gsl_instr.specs.declared.enumerant.storage_class.TheConstants as storage_class
use Rattle.gsl_words.specs.declared.module.Module.{Module}
use Rattle.gsl_instr.specs.declared.instruction.Instruction.{Instruction}
use Rattle.gsl_instr.specs.declared.instruction.Instruction.TheVariants as instruction
use Rattle.gsl_instr.specs.Forms.{form_of}
use Rattle.gsl_valid.specs.Placed.{count_of_words}
use Rattle.gsl_valid.specs.Search.{passed, whole, unless, Passes, ◌otherwise◌}
use Rattle.gsl_valid.specs.Types.{void_type, parameters_of}
use Rattle.gsl_valid.specs.FunctionRules.{function_shape, in_shape, outside, may_be_variable, may_begin, in_block, gives}
use Rattle.gsl_valid.specs.Where.{Standing, Outside, Begun, where_at}
use Rattle.gsl_valid.specs.ReturnRules.{returns_kept, gives_void}
use Rattle.gsl_valid.proofs.Searching.{passed_append, passes_range, none_broken}
use Rattle.gsl_form.specs.declared.program.Program.{Program}
use Rattle.gsl_cmd.specs.declared.lowering.id.TheConstants as id
use Rattle.gsl_form.specs.Form.{IsProgram}
use Rattle.gsl_cmd.specs.Lowering.{Code, code_of, constants_of, first_id, module_of}
use Rattle.gsl_cmd.proofs.Known.{program_known}
use Rattle.gsl_cmd.proofs.Walks.{Walk, statements_pass}
use Rattle.gsl_cmd.proofs.Parts.{member_name, member_offset, constant_at, before_names, before_decorations, before_types, before_constants, before_variable, before_code, ending, passes_parts}
use Rattle.gsl_cmd.proofs.ValidIds.{bound_of}
use Rattle.gsl_cmd.proofs.Facts.{facts}
use Rattle.gsl_cmd.proofs.Quiet.{behind_all, block_name, block_decoration, set_decoration, binding_decoration, names_pass, decorations_pass, constants_pass}

-- where the code stands in its function
abbrev standing : Module → Code → Standing
standing m before = (where_at m before).standing

-- the nearest Function
abbrev function_at : Module → Code → Option Instruction
function_at m before = (where_at m before).function

-- Where the code stands -------------------------------------------------------------------------------------------

module _ (p : Program) where
  abbrev StandsOutside : ℕ → Code → Type 0
  StandsOutside k before = standing (module_of p) before ≡ Outside

  outside_names : standing (module_of p) (before_decorations p) ≡ Outside
  unfolding form_of
  outside_names =
      (passes_range (λ b i. true) StandsOutside (member_name p.members) 0 (length p.members) (λ k b low high now. (refl, now)) (block_name ∷ before_names) refl).1

  outside_offsets : standing (module_of p) (passed (block_decoration ∷ before_decorations p) (map member_offset (range_with_len 0 (length p.members)))) ≡ Outside
  unfolding form_of
  outside_offsets =
      (passes_range (λ b i. true) StandsOutside member_offset 0 (length p.members) (λ k b low high now. (refl, now)) (block_decoration ∷ before_decorations p) outside_names).1

  outside_types : standing (module_of p) (before_types p) ≡ Outside
  unfolding form_of
  outside_types =
      ap (standing (module_of p)) (passed_append (block_decoration ∷ before_decorations p) (map member_offset (range_with_len 0 (length p.members))) (set_decoration ∷ binding_decoration ∷ []))
      ∙ outside_offsets

  outside_constants : standing (module_of p) (before_variable p) ≡ Outside
  unfolding form_of
  outside_constants =
      (passes_range (λ b i. true) StandsOutside (constant_at (constants_of p)) 0 (length (constants_of p)) (λ k b low high now. (refl, now)) (before_constants p) outside_types).1

  abbrev shape_walk : Walk (constants_of p) (length p.members) (bound_of p) (λ i. Unit {0}) (in_shape (module_of p))
  unfolding form_of
  shape_walk = record {
    ready = λ n before. in_block (standing (module_of p) before) ≡ true;
    value = λ v before. Unit {0};
    points = λ v before. Unit {0};
    chain = λ n k before within room here now. (now, refl, tt);
    chain_keeps = λ n k v before held. tt;
    load_passes = λ n q before room here now at. (now, refl, tt);
    load_keeps = λ n q v before held. tt;
    add_passes = λ n a b before room here now x y. (now, refl, tt);
    store_passes = λ n q v before here now at held. (now, refl);
    literal = λ n v before known now. tt;
  }

  pub in_shape_kept : IsProgram p → Passes (in_shape (module_of p)) [] (code_of p)
  unfolding form_of
  in_shape_kept fits =
      let test = in_shape (module_of p) in
      let known = facts p fits in
      passes_parts p test (refl, (refl, (refl, (refl, tt)))) (names_pass test p.members before_names (λ b. refl) (λ k b. refl))
      (decorations_pass test (length p.members) (before_decorations p) (λ b. refl) (λ k within b. refl) (λ b. refl) (λ b. refl))
      (refl, (refl, (refl, (refl, (refl, (refl, tt))))))
      (constants_pass test (constants_of p) (before_constants p) (λ k within b. refl))
      (ap (may_be_variable (module_of p) id.BLOCK_POINTER storage_class.UNIFORM []) outside_constants, tt) (
        and_from _ _ (ap outside outside_constants) (ap (gives id.VOID) known.main_type),
        (
          ap (λ d. may_begin (Begun (parameters_of d))) known.main_type,
          statements_pass (constants_of p) (length p.members) (bound_of p) (λ i. Unit {0}) test shape_walk (first_id (constants_of p)) p.statements ending
              (before_code p) (program_known p fits) (omega arith) (λ i has. tt) refl (λ end behind e now. (now, (refl, tt))),
        ),
      )

  pub shape_none : IsProgram p → function_shape (module_of p) ≡ None
  unfolding form_of
  shape_none fits =
      let m = module_of p in
      let ends : outside (standing m (whole m)) ≡ true = behind_all p (λ code. outside (standing m code) ≡ true) (λ before. refl) in
      ap (λ o. o otherwise unless (outside (standing m (whole m))) (count_of_words m)) (none_broken (in_shape m) m (in_shape_kept fits))
      ∙ ap (λ b. unless b (count_of_words m)) ends

  -- Return ----------------------------------------------------------------------------------------------------------

  abbrev returns_walk : Walk (constants_of p) (length p.members) (bound_of p) (λ i. Unit {0}) (returns_kept (module_of p))
  unfolding form_of
  returns_walk = record {
    ready = λ n before. function_at (module_of p) before ≡ Some (instruction.Function id.VOID id.MAIN 0 id.MAIN_TYPE);
    value = λ v before. Unit {0};
    points = λ v before. Unit {0};
    chain = λ n k before within room here now. (refl, now, tt);
    chain_keeps = λ n k v before held. tt;
    load_passes = λ n q before room here now at. (refl, now, tt);
    load_keeps = λ n q v before held. tt;
    add_passes = λ n a b before room here now x y. (refl, now, tt);
    store_passes = λ n q v before here now at held. (refl, now);
    literal = λ n v before known now. tt;
  }

  pub void_returned : IsProgram p → Passes (returns_kept (module_of p)) [] (code_of p)
  unfolding form_of
  void_returned fits =
      let test = returns_kept (module_of p) in
      let known = facts p fits in
      passes_parts p test (refl, (refl, (refl, (refl, tt)))) (names_pass test p.members before_names (λ b. refl) (λ k b. refl))
      (decorations_pass test (length p.members) (before_decorations p) (λ b. refl) (λ k within b. refl) (λ b. refl) (λ b. refl))
      (refl, (refl, (refl, (refl, (refl, (refl, tt))))))
      (constants_pass test (constants_of p) (before_constants p) (λ k within b. refl)) (refl, tt) (
        refl,
        (
          refl,
          statements_pass (constants_of p) (length p.members) (bound_of p) (λ i. Unit {0}) test returns_walk (first_id (constants_of p)) p.statements ending
              (before_code p) (program_known p fits) (omega arith) (λ i has. tt) refl
              (λ end behind e now. (ap (gives_void (module_of p)) now ∙ ap void_type known.void, (refl, tt))),
        ),
      )
