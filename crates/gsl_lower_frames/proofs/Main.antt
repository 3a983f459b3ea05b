-- The frame of main.
use Rattle.std.proofs.Common.{◌≡◌, refl, sym, ap, ◌∙◌, subst, ℕ, zero, suc, true, List, [], ◌∷◌, ◌++◌, length, Some, inl, append_assoc, arith, Option}
use Rattle.std.specs.Prelude.{slice_get}
use Rattle.std.proofs.lemmas.Bool.{and_parts, false≢true}
use Rattle.std.proofs.lemmas.List.{length-map}
use Rattle.gsl_base.specs.declared.input.Input.{Input}
use Rattle.gsl_types.specs.declared.ty.Ty.TheVariants.{Void}
use Rattle.gsl_words.specs.declared.module.Module.{Module}
use Rattle.gsl_values.specs.declared.value.Value.{Value}
use Rattle.gsl_valid.specs.EntryRules.{begins_main, is_main, is_main_shape, is_none_of}
use Rattle.gsl_valid.specs.Kinds.{OfFunction, Shape, shape_of}
use Rattle.gsl_valid.specs.Placed.{Code, Placed, placed_from}
use Rattle.gsl_valid.specs.Types as types
use Rattle.gsl_valid.specs.Types.{defined_as, is_void, parameters_in}
use Rattle.gsl_valid.specs.Valid.{Valid}
use Rattle.gsl_machine.specs.Functions.{parameters_of}
use Rattle.gsl_machine.specs.Interfaces.{value_variables, variable_begins}
use Rattle.gsl_machine.specs.Machine.{before_entry, entry_of, start}
use Rattle.gsl_machine.specs.State.{Held}
use Rattle.gsl_sound_code.proofs.Entries.{enter_from}
use Rattle.gsl_sound_code.proofs.Functions.{body_of}
use Rattle.gsl_sound_code.proofs.Looks.{kept}
use Rattle.gsl_sound_code.proofs.Walks.{AreTaken, enter}
use Rattle.gsl_spv.specs.Finished.{module_of}
use Rattle.gsl_spv.specs.Sections.{Sections}
use Rattle.gsl_lower_holders.specs.declared.place.FlowPlace.{FlowPlace}
use Rattle.gsl_lower_text.proofs.Finishes.{finished_written}
use Rattle.gsl_lower_frames.specs.Calling.{AreKnown, ArePassed}
use Rattle.gsl_lower_frames.specs.Named.{HasId}
use Rattle.gsl_lower_frames.specs.Standing.{StandsIn, begins, place_in}
use Rattle.gsl_lower_frames.specs.Starting.{HasFrame, IsEntered}
use Rattle.gsl_lower_frames.proofs.Calls.{called_framed}
use Rattle.gsl_lower_frames.proofs.Found.{code_found, section_held}
use Rattle.gsl_lower_frames.proofs.Starts.{main_entered, start_is, variables_same}
use Rattle.gsl_lower_frames.proofs.Texts.{begun_as, valid_once}

-- ---- main has no parameters

none_there : (ids : List ℕ) → is_none_of ids ≡ true → ids ≡ []
none_there [] is = refl
none_there (id ∷ ids) is = absurd (false≢true is)

shape_alone : (m : Module) (s : Shape) → is_main_shape m s ≡ true → parameters_in s ≡ []
shape_alone m (OfFunction returned parameters) is = none_there parameters (and_parts (is_none_of parameters) (is_void m returned) is).0
shape_alone m _ is = absurd (false≢true is)

none_taken : (m : Module) (types ids : List ℕ) → types ≡ [] → AreTaken m types ids → ids ≡ []
none_taken m [] [] none taken = refl
none_taken m [] (id ∷ ids) none taken = absurd taken
none_taken m (type ∷ types) ids none taken = absurd (cc)

entered_alone : (m : Module) (id : ℕ) (code : Code) → Valid m → entry_of m.instrs ≡ Some id → (s : StandsIn m id code) → parameters_of (placed_from (place_in m id code s) code) ≡ []
entered_alone m id code valid entry s =
    let has = kept m valid in
    let e = enter_from m has [] m.instrs has.all refl in
    let both : Some e.function ≡ Some id = sym e.is ∙ entry in
    let same : e.function ≡ id = cc in
    let begun = begun_as m id code valid s in
    let main = ap (begins_main m) (sym begun) ∙ ap (λ n. is_main m (defined_as m n)) (sym same) ∙ e.main in
    let b = body_of m has id s.returned id s.function_type begun in
    let found : Some b.body ≡ Some (placed_from (place_in m id code s) code) = sym b.found ∙ code_found m id code (valid_once m valid) s in
    let body : b.body ≡ placed_from (place_in m id code s) code = cc in
    let taken = (enter m has b.body s.returned b.before b.body _ b.spot b.begun).taken in
    ap parameters_of (sym body) ∙ none_taken m (types.parameters_of (defined_as m s.function_type)) (parameters_of b.body) (shape_alone m (shape_of (defined_as m s.function_type)) main) taken

-- ---- its frame

nothing : (k : ℕ) (it : Held) → slice_get [] k ≡ Some it → ⊥
nothing zero it is = cc
nothing (suc k) it is = cc

module _ (input : Input) (whole : Sections) (main : ℕ) (local_size : List ℕ) (code : Code) (place : FlowPlace) (stages : List (Option Value)) (e : IsEntered whole main local_size code place) where
  abbrev m : Module
  m = module_of whole main local_size

  stands : StandsIn m main code
  stands = section_held whole main local_size e.before code e.behind main e.returned e.control e.function_type e.is e.ends

  abbrev body : List Placed
  body = placed_from (place_in m main code stands) code

  entry : entry_of m.instrs ≡ Some main
  entry = main_entered whole main local_size e.set e.imports

  passed : ArePassed m body [] (length (before_entry m input).variables)
  passed = record {
    many = sym (ap length (entered_alone m main code e.valid entry stands));
    room = (let same = length-map (value_variables m) (variable_begins m input) in omega (arith, same));
    each = λ k it is. absurd (nothing k it is);
    apart = λ a b number is other. absurd (nothing a _ is);
  }

  known : AreKnown m body place
  known = record {
    apart = e.named.apart;
    each = λ name id is. inl (subst (λ vs. HasId (value_variables m ++ vs) id) (sym (variables_same (place_in m main code stands) code)) (e.named.each name id is));
  }

  abbrev before : Code
  before = e.before ++ begins main e.returned e.control e.function_type ∷ []

  pub main_framed : HasFrame m input whole before code place Void stages (start m input)
  main_framed =
      subst (HasFrame m input whole before code place Void stages) (sym (start_is m input main code (valid_once m e.valid) entry stands))
      (called_framed m whole input main before code e.behind place Void stages [] [] (before_entry m input)
      e.valid (finished_written whole main local_size) stands
      (e.is ∙ sym (append_assoc e.before (begins main e.returned e.control e.function_type ∷ []) (code ++ e.behind))) passed known)
