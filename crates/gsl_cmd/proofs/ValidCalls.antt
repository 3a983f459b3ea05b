-- Nothing calls anything in a program's module, and the variable and the types stand outside functions.
use Rattle.std.proofs.Common.{◌≡◌, ℕ, suc, Bool, true, false, not, ◌&&◌, [], ◌∷◌, ◌++◌, length, Option, Some, None, refl, ap, ◌∙◌, inl, inr}
use Rattle.std.specs.Prelude.{filter_map, is_some}
use Rattle.std.specs.List.{list_any, cons_option}
use Rattle.std.proofs.lemmas.Bool.{cond_both, cond-true, cond-false, or_from, or_left, or_parts, not-true, not_from_false}
use Rattle.std.proofs.lemmas.List.Folds.{list_any-append}
use Rattle.gsl_words.specs.declared.module.Instr.{Instr}
use Rattle.gsl_instr.specs.Forms.{form_of}
use Rattle.gsl_valid.specs.Instruction.{read}
use Rattle.gsl_valid.specs.Kinds.{kind}
use Rattle.gsl_valid.specs.Ids.{defines, defined}
use Rattle.gsl_valid.specs.Search.{Test, Passes}
use Rattle.gsl_valid.specs.Types.{before_functions, function_begins, outside_of}
use Rattle.gsl_valid.specs.CallRules.{call_kept, callee, called, called_by, has_chain, is_last, most_calls}
use Rattle.gsl_valid.specs.ExtendedRules.{extended_kept}
use Rattle.gsl_valid.proofs.Lookups.{has_left, has_right, has_defined}
use Rattle.gsl_form.specs.declared.program.Program.{Program}
use Rattle.gsl_cmd.specs.declared.lowering.id.TheConstants as id
use Rattle.gsl_form.specs.Form.{IsProgram}
use Rattle.gsl_cmd.specs.Lowering.{Code, code_of, constants_of, constant_code, decoration_code, module_of, name_code, preamble, type_code, variable_code}
use Rattle.gsl_cmd.proofs.Parts.{constant_at, before_names, before_decorations, before_constants, before_function, front, passes_parts, none_in_names, none_in_decorations, none_in_range}
use Rattle.gsl_cmd.proofs.Quiet.{names_pass, decorations_pass, constants_pass, function_pass, main_function}

-- Any code ------------------------------------------------------------------------------------------------------

pub none_is : {A : Type 0} (o : Option A) → not (is_some o) ≡ true → o ≡ None
none_is None e = refl
none_is (Some x) e = absurd (cc)

-- no instruction of the code passes
pub none_any : (f : Instr → Bool) (before code : Code) → Passes (λ b i. not (f i)) before code → list_any f code ≡ false
none_any f before [] all = refl
none_any f before (i ∷ code) all = or_from (f i) _ (not-true _ all.0) (none_any f (i ∷ before) code all.1)

-- where nothing gives a value, nothing is collected from what stands before functions
pub none_taken : {A : Type 0} (f : Instr → Option A) (before code : Code) → Passes (λ b i. not (is_some (f i))) before code →
    filter_map f (before_functions code) ≡ []
none_taken f before [] all = refl
none_taken f before (i ∷ code) all =
    cond_both (function_begins (read i)) [] (i ∷ before_functions code) (λ xs. filter_map f xs ≡ []) (λ e. refl)
    (λ e. ap (λ o. cons_option o (filter_map f (before_functions code))) (none_is (f i) all.0) ∙ none_taken f (i ∷ before) code all.1)

front_taken : (a : Code) (i : Instr) (rest : Code) → list_any (λ j. function_begins (read j)) a ≡ false → function_begins (read i) ≡ true →
    before_functions (a ++ i ∷ rest) ≡ a
front_taken [] i rest none here = cond-true _ _ _ here
front_taken (j ∷ a) i rest none here =
    let parts = or_parts (function_begins (read j)) _ none in
    cond-false _ _ _ parts.0 ∙ ap (λ xs. j ∷ xs) (front_taken a i rest parts.1 here)

abbrev calls_none : Test
calls_none b i = not (is_some (callee (read i)))

no_called : (before code : Code) → Passes calls_none before code → called code ≡ []
no_called before [] all = refl
no_called before (i ∷ code) all =
    cond_both (is_last (kind (read i))) [] (cons_option (callee (read i)) (called code)) (λ xs. xs ≡ []) (λ e. refl)
    (λ e. ap (λ o. cons_option o (called code)) (none_is (callee (read i)) all.0) ∙ no_called (i ∷ before) code all.1)

none_called : (before code : Code) (id : ℕ) → Passes calls_none before code → called_by code id ≡ []
none_called before [] id all = refl
none_called before (i ∷ code) id all =
    cond_both (function_begins (read i) && defines i id) (called code) (called_by code id) (λ xs. xs ≡ [])
    (λ e. no_called (i ∷ before) code all.1) (λ e. none_called (i ∷ before) code id all.1)

-- A program's module ----------------------------------------------------------------------------------------------

module _ (p : Program) where
  abbrev starts : Instr → Bool
  starts i = function_begins (read i)

  -- no function begins in front of the function
  none_in_front : list_any starts (front p) ≡ false
  unfolding form_of
  none_in_front =
      let a = preamble in
      let b = name_code p.members in
      let c = decoration_code (length p.members) in
      let d = type_code (length p.members) in
      let e = constant_code (constants_of p) in
      let f = variable_code in
      list_any-append starts ((((a ++ b) ++ c) ++ d) ++ e) f
      ∙ or_from _ _
      (list_any-append starts (((a ++ b) ++ c) ++ d) e
      ∙ or_from _ _
      (list_any-append starts ((a ++ b) ++ c) d
      ∙ or_from _ _
      (list_any-append starts (a ++ b) c
      ∙ or_from _ _ (list_any-append starts a b ∙ or_from _ _ refl (none_in_names p starts refl (λ k. refl)))
      (none_in_decorations p starts refl (λ k. refl) refl refl)) refl)
      (none_in_range starts (constant_at (constants_of p)) 0 (length (constants_of p)) (λ k low high. refl))) refl

  pub outside_is : outside_of (module_of p) ≡ front p
  unfolding form_of
  outside_is = front_taken (front p) main_function _ none_in_front refl

  pub block_outside : defined (outside_of (module_of p)) id.BLOCK ≡ true
  unfolding form_of
  block_outside =
      let before = ((preamble ++ name_code p.members) ++ decoration_code (length p.members)) in
      let types = type_code (length p.members) in
      ap (λ code. defined code id.BLOCK) outside_is
      ∙ has_defined (front p) _ id.BLOCK
      (has_left ((before ++ types) ++ constant_code (constants_of p)) variable_code _
      (has_left (before ++ types) (constant_code (constants_of p)) _ (has_right before types _ (inr (inr (inr (inl refl))))))) refl

  pub buffer_outside : defined (outside_of (module_of p)) id.BUFFER ≡ true
  unfolding form_of
  buffer_outside =
      let before = (((preamble ++ name_code p.members) ++ decoration_code (length p.members)) ++ type_code (length p.members)) ++ constant_code (constants_of p) in
      ap (λ code. defined code id.BUFFER) outside_is ∙ has_defined (front p) _ id.BUFFER (has_right before variable_code _ (inl refl)) refl

  none_calls : IsProgram p → Passes calls_none [] (code_of p)
  unfolding form_of
  none_calls fits =
      passes_parts p calls_none (refl, (refl, (refl, (refl, tt)))) (names_pass calls_none p.members before_names (λ b. refl) (λ k b. refl))
      (decorations_pass calls_none (length p.members) (before_decorations p) (λ b. refl) (λ k within b. refl) (λ b. refl) (λ b. refl))
      (refl, (refl, (refl, (refl, (refl, (refl, tt)))))) (constants_pass calls_none (constants_of p) (before_constants p) (λ k within b. refl)) (refl, tt)
      (function_pass calls_none p fits (before_function p) (λ b. refl) (λ b. refl) (λ n k b. refl) (λ n q b. refl) (λ n a c b. refl) (λ q v b. refl) (λ b. refl) (λ b. refl))

  no_chain : IsProgram p → has_chain (code_of p) (suc most_calls) id.MAIN ≡ false
  unfolding has_chain
  no_chain fits = ap (list_any (has_chain (code_of p) most_calls)) (none_called [] (code_of p) id.MAIN (none_calls fits))

  pub calls_kept : IsProgram p → Passes (call_kept (module_of p)) [] (code_of p)
  unfolding form_of
  calls_kept fits =
      let test = call_kept (module_of p) in
      passes_parts p test (refl, (refl, (refl, (refl, tt)))) (names_pass test p.members before_names (λ b. refl) (λ k b. refl))
      (decorations_pass test (length p.members) (before_decorations p) (λ b. refl) (λ k within b. refl) (λ b. refl) (λ b. refl))
      (refl, (refl, (refl, (refl, (refl, (refl, tt)))))) (constants_pass test (constants_of p) (before_constants p) (λ k within b. refl)) (refl, tt)
      (function_pass test p fits (before_function p) (λ b. or_left _ _ (not_from_false _ (no_chain fits))) (λ b. refl) (λ n k b. refl) (λ n q b. refl) (λ n a c b. refl) (λ q v b. refl) (λ b. refl) (λ b. refl))

  pub extended_is_kept : IsProgram p → Passes (extended_kept (module_of p)) [] (code_of p)
  unfolding form_of
  extended_is_kept fits =
      let test = extended_kept (module_of p) in
      passes_parts p test (refl, (refl, (refl, (refl, tt)))) (names_pass test p.members before_names (λ b. refl) (λ k b. refl))
      (decorations_pass test (length p.members) (before_decorations p) (λ b. refl) (λ k within b. refl) (λ b. refl) (λ b. refl))
      (refl, (refl, (refl, (refl, (refl, (refl, tt)))))) (constants_pass test (constants_of p) (before_constants p) (λ k within b. refl)) (refl, tt)
      (function_pass test p fits (before_function p) (λ b. refl) (λ b. refl) (λ n k b. refl) (λ n q b. refl) (λ n a c b. refl) (λ q v b. refl) (λ b. refl) (λ b. refl))
