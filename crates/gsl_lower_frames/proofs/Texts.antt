-- What a module says as a function begins.
use Rattle.std.proofs.Common.{◌≡◌, refl, sym, ap, subst, ℕ, List, [], ◌∷◌, ◌++◌, None, inl}
use Rattle.gsl_instr.specs.Forms.{form_of}
use Rattle.gsl_words.specs.declared.module.Module.{Module}
use Rattle.gsl_valid.specs.IdsDefinedOnce.{ids_defined_once}
use Rattle.gsl_valid.specs.Kinds.{Begins, kind}
use Rattle.gsl_valid.specs.Placed.{Code, placed_from}
use Rattle.gsl_valid.specs.Types.{defined_as}
use Rattle.gsl_valid.specs.Valid.{Valid}
use Rattle.gsl_valid.proofs.Lookups.{Has, definition_is, has_right}
use Rattle.gsl_valid.proofs.Searching.{none_broken}
use Rattle.gsl_machine.specs.Functions.{own_ids}
use Rattle.gsl_machine.specs.Interfaces.{globals}
use Rattle.gsl_machine.specs.State.{Held}
use Rattle.gsl_sound_code.proofs.Looks.{kept}
use Rattle.gsl_valid.specs.IdsDefinedOnce.{defines_once}
use Rattle.gsl_spv.specs.Sections.{Sections}
use Rattle.gsl_lower_law.specs.Values.{Text}
use Rattle.gsl_lower_text.specs.Written.{Written}
use Rattle.gsl_lower_text.proofs.Lasting.{function_lasts}
use Rattle.gsl_lower_text.proofs.Texts.{text_said}
use Rattle.gsl_lower_frames.specs.Standing.{StandsIn, begins, place_in}
use Rattle.gsl_lower_frames.proofs.Found.{code_found}

pub valid_once : (m : Module) → Valid m → ids_defined_once m ≡ None
valid_once m valid = none_broken (defines_once m.bound) m (kept m valid).once

-- what its first instruction defines is the function
pub begun_as : (m : Module) (id : ℕ) (code : Code) → Valid m → (s : StandsIn m id code) → kind (defined_as m id) ≡ Begins s.returned id s.function_type
unfolding form_of
begun_as m id code valid s =
    let b = begins id s.returned s.control s.function_type in
    ap kind (definition_is m.bound [] m.instrs b id (kept m valid).once (subst (λ l. Has l b) (sym s.is) (has_right s.ahead (b ∷ (code ++ s.behind)) b (inl refl))) refl)

pub text_begun : (m : Module) (sections : Sections) (id : ℕ) (code : Code) → Valid m → Written m sections → (s : StandsIn m id code) → (held : List Held) (count : ℕ)
    → Text m sections (own_ids (globals m) (placed_from (place_in m id code s) code) held count)
text_begun m sections id code valid written s held count =
    text_said m sections _ valid written
    (function_lasts m (kept m valid) id s.returned id s.function_type (placed_from (place_in m id code s) code) held count (begun_as m id code valid s) (code_found m id code (valid_once m valid) s))
