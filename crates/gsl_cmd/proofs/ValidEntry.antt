-- The entry point of a program's module, its mode and its empty interface.
use Rattle.std.proofs.Common.{◌≡◌, ℕ, Bool, true, not, [], ◌∷◌, length, Option, refl, ap, ◌∙◌}
use Rattle.std.specs.Prelude.{filter_map, is_some}
use Rattle.std.proofs.lemmas.Bool.{and_from, not_from_false}
use Rattle.gsl_words.specs.declared.module.Instr.{Instr}
use Rattle.gsl_instr.specs.declared.enumerant.execution_model.TheConstants as execution_model
use Rattle.gsl_instr.specs.declared.enumerant.execution_mode.TheConstants as execution_mode
use Rattle.gsl_instr.specs.Forms.{form_of}
use Rattle.gsl_valid.specs.Instruction.{read}
use Rattle.gsl_valid.specs.Search.{Test, Passes}
use Rattle.gsl_valid.specs.Ids.{definition}
use Rattle.std.specs.List.{cons_option}
use Rattle.gsl_valid.specs.Types.{void_type}
use Rattle.gsl_valid.specs.EntryRules.{entry_kept, Mode, mode_of, modes_of, interface_variable, interface_of, is_call_of, is_main, is_main_type, is_uncalled, lists_each, are_modes}
use Rattle.gsl_form.specs.declared.program.Program.{Program}
use Rattle.gsl_cmd.specs.declared.lowering.id.TheConstants as id
use Rattle.gsl_form.specs.Form.{IsProgram}
use Rattle.gsl_cmd.specs.Lowering.{Code, code_of, constants_of, module_of}
use Rattle.gsl_cmd.proofs.Parts.{before_names, before_decorations, before_constants, before_function, from_names, in_parts, passes_parts, passes_from_names}
use Rattle.gsl_cmd.proofs.Facts.{Facts, facts}
use Rattle.gsl_cmd.proofs.ValidCalls.{none_is, none_any, none_taken}
use Rattle.gsl_cmd.proofs.Quiet.{names_pass, decorations_pass, constants_pass, function_pass}

-- where nothing gives a value, nothing is collected
none_mapped : {A : Type 0} (f : Instr → Option A) (before code : Code) → Passes (λ b i. not (is_some (f i))) before code → filter_map f code ≡ []
unfolding form_of
none_mapped f before [] all = refl
none_mapped f before (i ∷ code) all = ap (λ o. cons_option o (filter_map f code)) (none_is (f i) all.0) ∙ none_mapped f (i ∷ before) code all.1

module _ (p : Program) (fits : IsProgram p) where
  abbrev known : Facts p
  known = facts p fits

  no_interface : interface_of (module_of p) ≡ []
  unfolding form_of
  no_interface =
      let f : Instr → Option ℕ = λ i. interface_variable (read i) in
      let test : Test = λ b i. not (is_some (f i)) in
      none_taken f [] (code_of p)
      (passes_parts p test (refl, (refl, (refl, (refl, tt)))) (names_pass test p.members before_names (λ b. refl) (λ k b. refl))
      (decorations_pass test (length p.members) (before_decorations p) (λ b. refl) (λ k within b. refl) (λ b. refl) (λ b. refl))
      (refl, (refl, (refl, (refl, (refl, (refl, tt)))))) (constants_pass test (constants_of p) (before_constants p) (λ k within b. refl)) (refl, tt)
      (function_pass test p fits (before_function p) (λ b. refl) (λ b. refl) (λ n k b. refl) (λ n q b. refl) (λ n a c b. refl) (λ q v b. refl) (λ b. refl) (λ b. refl)))

  the_mode : Mode
  unfolding form_of
  the_mode = record { function = id.MAIN; mode = execution_mode.LOCAL_SIZE; parts = 1 ∷ 1 ∷ 1 ∷ [] }

  one_mode : modes_of (module_of p) ≡ the_mode ∷ []
  unfolding the_mode form_of
  one_mode =
      let f : Instr → Option Mode = λ i. mode_of (read i) in
      let test : Test = λ b i. not (is_some (f i)) in
      ap (filter_map f) (in_parts p)
      ∙ ap (λ modes. the_mode ∷ modes)
      (none_mapped f before_names (from_names p)
      (passes_from_names p test (names_pass test p.members before_names (λ b. refl) (λ k b. refl))
      (decorations_pass test (length p.members) (before_decorations p) (λ b. refl) (λ k within b. refl) (λ b. refl) (λ b. refl))
      (refl, (refl, (refl, (refl, (refl, (refl, tt)))))) (constants_pass test (constants_of p) (before_constants p) (λ k within b. refl)) (refl, tt)
      (function_pass test p fits (before_function p) (λ b. refl) (λ b. refl) (λ n k b. refl) (λ n q b. refl) (λ n a c b. refl) (λ q v b. refl) (λ b. refl) (λ b. refl))))

  main_fits : is_main (module_of p) (definition (code_of p) id.MAIN) ≡ true
  unfolding form_of
  main_fits = ap (is_main (module_of p)) known.main ∙ ap (is_main_type (module_of p)) known.main_type ∙ ap void_type known.void

  uncalled : is_uncalled (module_of p) id.MAIN ≡ true
  unfolding form_of
  uncalled =
      let f : Instr → Bool = λ i. is_call_of id.MAIN (read i) in
      let test : Test = λ b i. not (f i) in
      not_from_false _
      (none_any f [] (code_of p)
      (passes_parts p test (refl, (refl, (refl, (refl, tt)))) (names_pass test p.members before_names (λ b. refl) (λ k b. refl))
      (decorations_pass test (length p.members) (before_decorations p) (λ b. refl) (λ k within b. refl) (λ b. refl) (λ b. refl))
      (refl, (refl, (refl, (refl, (refl, (refl, tt)))))) (constants_pass test (constants_of p) (before_constants p) (λ k within b. refl)) (refl, tt)
      (function_pass test p fits (before_function p) (λ b. refl) (λ b. refl) (λ n k b. refl) (λ n q b. refl) (λ n a c b. refl) (λ q v b. refl) (λ b. refl) (λ b. refl))))

  pub entry_point_kept : Passes (entry_kept (module_of p)) [] (code_of p)
  unfolding the_mode form_of
  entry_point_kept =
      let test = entry_kept (module_of p) in
      passes_parts p test (
        refl,
        (
          refl,
          (
            and_from _ _ (and_from _ _ (and_from _ _ (and_from _ _ refl main_fits) uncalled) (ap (λ ids. lists_each ids []) no_interface)) (ap (are_modes execution_model.GL_COMPUTE id.MAIN) one_mode),
            (refl, tt),
          ),
        ),
      )
      (names_pass test p.members before_names (λ b. refl) (λ k b. refl))
      (decorations_pass test (length p.members) (before_decorations p) (λ b. refl) (λ k within b. refl) (λ b. refl) (λ b. refl))
      (refl, (refl, (refl, (refl, (refl, (refl, tt))))))
      (constants_pass test (constants_of p) (before_constants p) (λ k within b. refl)) (refl, tt)
      (function_pass test p fits (before_function p) (λ b. refl) (λ b. refl) (λ n k b. refl) (λ n q b. refl) (λ n a c b. refl) (λ q v b. refl) (λ b. refl) (λ b. refl))
