-- What is found of functions and labels where each id is defined once.
use Rattle.std.proofs.Common.{◌≡◌, refl, sym, ap, ◌∙◌, subst, ℕ, suc, ◌+◌, ◌<◌, true, false, List, [], ◌∷◌, ◌++◌, length, None, Some, inl, append_assoc, arith}
use Rattle.std.specs.Prelude.{◌==◌}
use Rattle.std.proofs.lemmas.Bool.{and_from, and_right, cond-false, cond-true, eq-eqb, ne_eqb, or_parts}
use Rattle.std.proofs.lemmas.List.{length-append}
use Rattle.std.specs.List.{AllByRecursion}
use Rattle.gsl_instr.specs.Forms.{form_of}
use Rattle.gsl_instr.specs.declared.op.TheConstants as op
use Rattle.gsl_words.specs.declared.module.Instr.{Instr}
use Rattle.gsl_words.specs.declared.module.Module.{Module}
use Rattle.gsl_words.specs.Instructions.{word_count}
use Rattle.gsl_valid.specs.Ids.{defined, defines, is_id, result}
use Rattle.gsl_valid.specs.IdsDefinedOnce.{defines_once, ids_defined_once}
use Rattle.gsl_valid.specs.Instruction.{read}
use Rattle.gsl_valid.specs.Placed.{Code, header_size, placed_from, words_from}
use Rattle.gsl_valid.specs.Search.{Passes, passed}
use Rattle.gsl_valid.proofs.Lookups.{has_right, new_before}
use Rattle.gsl_valid.proofs.Searching.{each_passes}
use Rattle.gsl_machine.specs.Functions.{from_label, function_at, function_in, up_to_end}
use Rattle.gsl_spv.specs.Declarations.{instr}
use Rattle.gsl_spv.specs.Finished.{capabilities, entry_point, memory_models, module_of, modes}
use Rattle.gsl_spv.specs.Once.{interface_of}
use Rattle.gsl_spv.specs.Sections.{Sections}
use Rattle.gsl_lower_frames.specs.Standing.{EndsHere, StandsIn, begins, place_in}
use Rattle.gsl_lower_frames.proofs.Codes.{passes_behind, passes_front, words_many}

-- what defines an id is not found in front of it
module _ (bound id : ℕ) (i : Instr) (gives : result (read i) ≡ Some id) where
  here : defines i id ≡ true
  here = ap (is_id id) gives ∙ eq-eqb id id refl

  -- an instruction in front of it does not define the id
  other : (before front rest : Code) (j : Instr) → Passes (defines_once bound) before (j ∷ (front ++ i ∷ rest)) → defines j id ≡ false
  other before front rest j all = (or_parts (defines j id) (defined before id) (new_before bound (j ∷ before) (front ++ i ∷ rest) i id all.1 (has_right front (i ∷ rest) i (inl refl)) gives)).0

  labelled : (at : ℕ) (before front rest : Code) → i.op ≡ op.LABEL → Passes (defines_once bound) before (front ++ i ∷ rest)
      → from_label (placed_from at (front ++ i ∷ rest)) id ≡ Some (placed_from (words_from at front) (i ∷ rest))
  labelled at before [] rest is all = cond-true _ _ _ (and_from (i.op == op.LABEL) (defines i id) (eq-eqb i.op op.LABEL is) here)
  labelled at before (j ∷ front) rest is all =
      cond-false _ _ _ (and_right (j.op == op.LABEL) (defines j id) (other before front rest j all))
      ∙ labelled (at + word_count j) (j ∷ before) front rest is all.1

  begun : (at : ℕ) (before front rest : Code) → i.op ≡ op.FUNCTION → Passes (defines_once bound) before (front ++ i ∷ rest)
      → function_in (placed_from at (front ++ i ∷ rest)) id ≡ Some (up_to_end (placed_from (words_from at (front ++ i ∷ [])) rest))
  begun at before [] rest is all = cond-true _ _ _ (and_from (i.op == op.FUNCTION) (defines i id) (eq-eqb i.op op.FUNCTION is) here)
  begun at before (j ∷ front) rest is all =
      cond-false _ _ _ (and_right (j.op == op.FUNCTION) (defines j id) (other before front rest j all))
      ∙ begun (at + word_count j) (j ∷ before) front rest is all.1

-- up to the end of a function there is its code alone
ended : (at : ℕ) (front behind : Code) (ending : Instr) → ending.op ≡ op.FUNCTION_END → AllByRecursion (λ i. i.op ≡ op.FUNCTION_END → ⊥) front
    → up_to_end (placed_from at ((front ++ ending ∷ []) ++ behind)) ≡ placed_from at (front ++ ending ∷ [])
ended at [] behind ending ends all = cond-true _ _ _ (eq-eqb ending.op op.FUNCTION_END ends)
ended at (i ∷ front) behind ending ends all =
    cond-false _ _ _ (ne_eqb i.op op.FUNCTION_END all.0)
    ∙ ap (λ l. record { at = at; instr = i } ∷ l) (ended (at + word_count i) front behind ending ends all.1)

-- ---- in a module

module _ (m : Module) (id : ℕ) (code : Code) where
  pub label_found : (first : ℕ) → ids_defined_once m ≡ None → StandsIn m id code → (front rest : Code) (label : ℕ) → code ≡ front ++ instr op.LABEL (label ∷ []) ∷ rest
      → from_label (placed_from first code) label ≡ Some (placed_from (words_from first front) (instr op.LABEL (label ∷ []) ∷ rest))
  unfolding form_of
  label_found first once s front rest label is =
      let i = instr op.LABEL (label ∷ []) in
      let b = begins id s.returned s.control s.function_type in
      let all = subst (Passes (defines_once m.bound) []) s.is (each_passes (defines_once m.bound) m once) in
      let whole = passes_behind (defines_once m.bound) [] s.ahead (b ∷ (code ++ s.behind)) all in
      let own = passes_front (defines_once m.bound) (b ∷ passed [] s.ahead) code s.behind whole.1 in
      ap (λ c. from_label (placed_from first c) label) is
      ∙ labelled m.bound label i refl first (b ∷ passed [] s.ahead) front rest refl (subst (Passes (defines_once m.bound) (b ∷ passed [] s.ahead)) is own)

  pub code_found : ids_defined_once m ≡ None → (s : StandsIn m id code) → function_at m id ≡ Some (placed_from (place_in m id code s) code)
  unfolding form_of
  code_found once s =
      let b = begins id s.returned s.control s.function_type in
      let e = s.ends in
      let at = place_in m id code s in
      ap (λ c. function_in (placed_from header_size c) id) s.is
      ∙ begun m.bound id b refl header_size [] s.ahead (code ++ s.behind) refl (subst (Passes (defines_once m.bound) []) s.is (each_passes (defines_once m.bound) m once))
      ∙ ap (λ c. Some (up_to_end (placed_from at (c ++ s.behind)))) e.is
      ∙ ap Some (ended at e.front s.behind e.ending e.ends e.goes_on)
      ∙ ap (λ c. Some (placed_from at c)) (sym e.is)

  pub code_short : StandsIn m id code → length code < words_from 0 m.instrs
  code_short s =
      let b = begins id s.returned s.control s.function_type in
      let many = words_many 0 m.instrs in
      let all = ap length s.is in
      let cut = length-append s.ahead (b ∷ (code ++ s.behind)) in
      let one : length (b ∷ (code ++ s.behind)) ≡ suc (length (code ++ s.behind)) = refl in
      let more = length-append code s.behind in
      omega (arith, many, all, cut, one, more)

-- ---- in sections

abbrev front : Sections → ℕ → List ℕ → Code
front s main local_size =
    capabilities ++ s.imports ++ memory_models ++ entry_point s.stage main (interface_of s.globals) ∷ [] ++ modes s.stage main local_size ++ s.names ++ s.decorations ++ s.globals

pub section_held : (s : Sections) (main : ℕ) (local_size : List ℕ) (before code behind : Code) (id returned control function_type : ℕ)
    → s.functions ≡ before ++ begins id returned control function_type ∷ (code ++ behind) → EndsHere code → StandsIn (module_of s main local_size) id code
section_held s main local_size before code behind id returned control function_type is ends = record {
  ahead = front s main local_size ++ before;
  returned = returned;
  control = control;
  function_type = function_type;
  behind = behind;
  is = ap (λ l. front s main local_size ++ l) is ∙ sym (append_assoc (front s main local_size) before (begins id returned control function_type ∷ (code ++ behind)));
  ends = ends;
}
