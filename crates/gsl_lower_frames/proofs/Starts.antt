-- Where a module starts, and the frame there.
use Rattle.std.proofs.Common.{◌≡◌, refl, sym, ap, ◌∙◌, subst, ℕ, ◌+◌, List, [], ◌∷◌, ◌++◌, length, map, Option, Some, None}
use Rattle.std.specs.List.{cons_option}
use Rattle.std.proofs.lemmas.List.{length-map}
use Rattle.gsl_base.specs.declared.input.Input.{Input}
use Rattle.gsl_base.specs.declared.stage.Stage.{Stage}
use Rattle.gsl_instr.specs.Forms.{form_of}
use Rattle.gsl_words.specs.Instructions.{word_count}
use Rattle.gsl_words.specs.declared.module.Module.{Module}
use Rattle.gsl_valid.specs.IdsDefinedOnce.{ids_defined_once}
use Rattle.gsl_valid.specs.Instruction.{read}
use Rattle.gsl_valid.specs.Kinds.{variable_is}
use Rattle.gsl_valid.specs.Placed.{Code, placed_from}
use Rattle.gsl_machine.specs.Functions.{begins_as, entered, own_ids, parameters_of, point_each, variables_of}
use Rattle.gsl_machine.specs.Interfaces.{globals, value_variables, variable_begins}
use Rattle.gsl_machine.specs.Machine.{before_entry, entering, entry_body, entry_of, start}
use Rattle.gsl_spv.specs.Calls.{imports_of}
use Rattle.gsl_spv.specs.Finished.{capabilities, entry_point, memory_models, module_of, modes}
use Rattle.gsl_spv.specs.Once.{interface_of}
use Rattle.gsl_spv.specs.Sections.{Sections}
use Rattle.gsl_lower_frames.specs.Standing.{StandsIn, place_in}
use Rattle.gsl_lower_frames.specs.Starting.{Starts, ids_in, local_variables}
use Rattle.gsl_lower_frames.proofs.Found.{code_found}
use Rattle.gsl_lower_frames.proofs.Numbers.{given_none}

-- ---- the state

pub variables_same : (at : ℕ) (code : Code) → variables_of (placed_from at code) ≡ local_variables code
variables_same at [] = refl
variables_same at (i ∷ code) = ap (cons_option (variable_is (read i))) (variables_same (at + word_count i) code)

module _ (m : Module) (first : ℕ) (code : Code) where
  ids_same : own_ids (globals m) (placed_from first code) [] (length (value_variables m)) ≡ ids_in m code
  ids_same =
      ap (λ ids. point_each ids (length (value_variables m)) (variables_of (placed_from first code))) (given_none (globals m) (parameters_of (placed_from first code)))
      ∙ ap (point_each (globals m) (length (value_variables m))) (variables_same first code)

  entered_starts : (input : Input) → Starts m input first code (entered m (globals m) (placed_from first code) [] [] (before_entry m input))
  entered_starts input =
      let ids = ap (own_ids (globals m) (placed_from first code) []) (length-map (value_variables m) (variable_begins m input)) ∙ ids_same in
      record {
        rest = refl;
        within = refl;
        own = ids;
        ids = ids;
        variables = ap (λ vs. map (variable_begins m input) (value_variables m) ++ map (begins_as m) vs) (variables_same first code);
        buffers = refl;
        choices = refl;
        waiting = refl;
      }

-- the state in which a module starts is that in which the function begins
pub start_is : (m : Module) (input : Input) (id : ℕ) (code : Code) → ids_defined_once m ≡ None → entry_of m.instrs ≡ Some id → (s : StandsIn m id code)
    → start m input ≡ entered m (globals m) (placed_from (place_in m id code s) code) [] [] (before_entry m input)
unfolding start
start_is m input id code once entry s = ap (λ o. entering m input (entry_body m o)) entry ∙ ap (entering m input) (code_found m id code once s)

pub started : (m : Module) (input : Input) (id : ℕ) (code : Code) → ids_defined_once m ≡ None → entry_of m.instrs ≡ Some id → (s : StandsIn m id code) → Starts m input (place_in m id code s) code (start m input)
started m input id code once entry s =
    subst (Starts m input (place_in m id code s) code) (sym (start_is m input id code once entry s)) (entered_starts m (place_in m id code s) code input)

-- ---- the entry point

abbrev led : Code → Stage → ℕ → List ℕ → Code → Code → Code → Code → Code → Code
led imports stage main interface modes names decorations globals functions =
    capabilities ++ imports ++ memory_models ++ entry_point stage main interface ∷ [] ++ modes ++ names ++ decorations ++ globals ++ functions

module _ (stage : Stage) (main : ℕ) (interface : List ℕ) (modes names decorations globals functions : Code) where
  led_entered : (set : Option ℕ) → entry_of (led (imports_of set) stage main interface modes names decorations globals functions) ≡ Some main
  unfolding form_of
  led_entered None = refl
  led_entered (Some id) = refl

pub main_entered : (s : Sections) (main : ℕ) (local_size : List ℕ) (set : Option ℕ) → s.imports ≡ imports_of set → entry_of (module_of s main local_size).instrs ≡ Some main
main_entered s main local_size set is =
    let interface = interface_of s.globals in
    let later = modes s.stage main local_size in
    ap (λ l. entry_of (led l s.stage main interface later s.names s.decorations s.globals s.functions)) is
    ∙ led_entered s.stage main interface later s.names s.decorations s.globals s.functions set
