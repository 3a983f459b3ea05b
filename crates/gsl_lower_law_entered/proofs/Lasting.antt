-- What a call gives lasts for no function.
use Rattle.std.proofs.Common.{◌≡◌, sym, ap, ◌∙◌, subst, ℕ, List, Some, None}
use Rattle.gsl_words.specs.declared.module.Module.{Module}
use Rattle.gsl_valid.specs.CallRules.{takes}
use Rattle.gsl_valid.specs.Kinds.{Calls, constant_in, kind, variable_in}
use Rattle.gsl_valid.specs.Placed.{Code, placed_from}
use Rattle.gsl_valid.specs.Types.{defined_as}
use Rattle.gsl_valid.specs.Valid.{Valid}
use Rattle.gsl_machine.specs.Constants.{constant}
use Rattle.gsl_machine.specs.Functions.{own_ids}
use Rattle.gsl_machine.specs.Interfaces.{globals, if_there}
use Rattle.gsl_machine.specs.State.{Held, Whole}
use Rattle.gsl_sound_code.proofs.Functions.{body_of}
use Rattle.gsl_sound_code.proofs.Looks.{kept}
use Rattle.gsl_sound_code.proofs.Walks.{enter}
use Rattle.gsl_sound_ids.proofs.Globals.{constant_passes}
use Rattle.gsl_sound_ids.proofs.Locals.{lasts}
use Rattle.gsl_spv.specs.Sections.{Sections}
use Rattle.gsl_lower_text.specs.Written.{Written}
use Rattle.gsl_lower_text.proofs.Constants.{at}
use Rattle.gsl_lower_frames.specs.Standing.{StandsIn, place_in}
use Rattle.gsl_lower_frames.proofs.Found.{code_found}
use Rattle.gsl_lower_frames.proofs.Texts.{begun_as, valid_once}
use Rattle.gsl_lower_law_entered.specs.Modules.{PassCalls}

pub calls_pass : (m : Module) (whole : Sections) (id : ℕ) (code : Code) → Valid m → Written m whole → (s : StandsIn m id code) → (held : List Held) (count : ℕ) → PassCalls whole (own_ids (globals m) (placed_from (place_in m id code s) code) held count)
calls_pass m whole id code valid written s held count i type function result_id arguments there calls gives =
    let has = kept m valid in
    let is : kind (defined_as m result_id) ≡ Calls type function arguments = ap kind ((at m has i (written.functions i there)).keeps.own result_id gives) ∙ calls in
    let b = body_of m has id s.returned id s.function_type (begun_as m id code valid s) in
    let same : Some b.body ≡ Some (placed_from (place_in m id code s) code) = sym b.found ∙ code_found m id code (valid_once m valid) s in
    let e : b.body ≡ placed_from (place_in m id code s) code = cc in
    let entry = enter m has b.body s.returned b.before b.body _ b.spot b.begun in
    subst (λ l. own_ids (globals m) l held count result_id ≡ None) e
    (lasts m has s.returned b.body b.before b.spot _ entry.taken held count result_id (λ v variable. absurd (let over : None ≡ Some v = ap variable_in (sym is) ∙ variable in cc)) (ap takes is)
    ∙ constant_passes m has result_id (ap variable_in is)
    ∙ ap (λ o. if_there o (Whole (constant m result_id))) (ap constant_in is))
