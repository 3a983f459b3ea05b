-- Each state that a run of a valid module reaches is typed.
use Rattle.std.proofs.Common.{◌≡◌, refl, sym, ap, ◌∙◌, subst, ℕ, true, [], ◌∷◌, Option, Some, Ok}
use Rattle.std.proofs.lemmas.Bool.{false≢true}
use Rattle.gsl_base.specs.Ranges.{FitsTypes}
use Rattle.gsl_base.specs.declared.input.Input.{Input}
use Rattle.gsl_words.specs.declared.module.Module.{Module}
use Rattle.gsl_valid.specs.EntryRules.{begins_main, is_main_shape}
use Rattle.gsl_valid.specs.Kinds.{Kind, Begins, Shape, OfFunction, kind, shape_of}
use Rattle.gsl_valid.specs.Types.{defined_as, parameters_in, parameters_of}
use Rattle.gsl_valid.specs.Valid.{Valid}
use Rattle.gsl_machine.specs.Fits.{fits}
use Rattle.gsl_machine.specs.Machine.{after, before_entry, entering, entry_body, entry_of, start, step}
use Rattle.gsl_machine.specs.State.{Going, State}
use Rattle.gsl_sound.specs.Sound.{Good}
use Rattle.gsl_sound.proofs.Started.{good_start}
use Rattle.gsl_sound_code.proofs.Entries.{enter_from}
use Rattle.gsl_sound_code.proofs.Functions.{body_of}
use Rattle.gsl_sound_code.proofs.Looks.{Kept, kept}
use Rattle.gsl_sound_types.specs.Typed.{Typed, types_below}
use Rattle.gsl_sound_types.proofs.Beginning.{globals_begin}
use Rattle.gsl_sound_types.proofs.Entering.{AreOfTypes, typed_entered}
use Rattle.gsl_sound_types.proofs.Moving.{TypedOut}
use Rattle.gsl_sound_types.proofs.Steps.{typed_run, typed_step}

module _ (m : Module) (kept : Kept m) where
  no_parameters : (s : Shape) → is_main_shape m s ≡ true → parameters_in s ≡ []
  no_parameters (OfFunction returned []) is = refl
  no_parameters (OfFunction returned (type ∷ types)) is = absurd (false≢true is)
  no_parameters _ is = absurd (false≢true is)

  typed_start : (input : Input) → FitsTypes input → fits m input ≡ Ok tt → Typed m (start m input)
  unfolding start
  typed_start input ranges fit = let e = enter_from m kept [] m.instrs kept.all refl in by_function (entry_of m.instrs) e.function e.is (kind (defined_as m e.function)) refl e.main
    where
      by_function : (entry : Option ℕ) (function : ℕ) → entry ≡ Some function → (k : Kind) → kind (defined_as m function) ≡ k → begins_main m k ≡ true → Typed m (entering m input (entry_body m entry))
      by_function entry function found (Begins returned own function_type) is main =
          let b = body_of m kept function returned own function_type is in
          let none : parameters_of (defined_as m function_type) ≡ [] = no_parameters (shape_of (defined_as m function_type)) main in
          subst (λ o. Typed m (entering m input o)) (sym (ap (entry_body m) found ∙ b.found))
          (typed_entered m kept function returned function_type b [] [] (before_entry m input) (globals_begin m kept input ranges fit) tt
          (subst (λ types. AreOfTypes m (types_below m []) types []) (sym none) tt))
      by_function entry function found _ is main = absurd (false≢true main)

pub reached_typed : (m : Module) (input : Input) (count : ℕ) (state : State) → Valid m → FitsTypes input → fits m input ≡ Ok tt → after m count input ≡ Going state → Typed m state
unfolding after
reached_typed m input count state valid ranges fit is =
    let k = kept m valid in subst (TypedOut m) is (typed_run m k input count (start m input) (good_start m k input fit) (typed_start m k input ranges fit))

pub kept_typed : (m : Module) (input : Input) (state next : State) → Valid m → Good m input state → Typed m state → step m input state ≡ Going next → Typed m next
kept_typed m input state next valid good typed is = subst (TypedOut m) is (typed_step m (kept m valid) input state good typed)
