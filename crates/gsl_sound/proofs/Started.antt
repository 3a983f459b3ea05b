-- A run of a valid module on an input that fits begins in a good state.
use Rattle.std.proofs.Common.{◌≡◌, refl, sym, ap, ◌∙◌, subst, ℕ, true, [], ◌∷◌, length, Option, Some, Ok, arith}
use Rattle.std.proofs.lemmas.Bool.{false≢true}
use Rattle.gsl_base.specs.declared.input.Input.{Input}
use Rattle.gsl_words.specs.declared.module.Module.{Module}
use Rattle.gsl_valid.specs.EntryRules.{begins_main, is_main_shape}
use Rattle.gsl_valid.specs.Kinds.{Kind, Begins, Shape, OfFunction, kind, shape_of}
use Rattle.gsl_valid.specs.Types.{defined_as, parameters_in, parameters_of}
use Rattle.gsl_machine.specs.Fits.{fits}
use Rattle.gsl_machine.specs.Interfaces.{value_variables, variable_begins}
use Rattle.gsl_machine.specs.Machine.{before_entry, entering, entry_body, entry_of, start}
use Rattle.gsl_sound.specs.Sound.{Good}
use Rattle.gsl_sound.proofs.Entering.{enters, length_map}
use Rattle.gsl_sound_code.proofs.Looks.{Kept}
use Rattle.gsl_sound_ids.proofs.Locals.{AreHeld}
use Rattle.gsl_sound_code.proofs.Functions.{body_of}
use Rattle.gsl_sound_ids.proofs.Given.{bytes_fit}
use Rattle.gsl_sound_code.proofs.Entries.{enter_from}

module _ (m : Module) (kept : Kept m) where
  no_parameters : (s : Shape) → is_main_shape m s ≡ true → parameters_in s ≡ []
  no_parameters (OfFunction returned []) is = refl
  no_parameters (OfFunction returned (type ∷ types)) is = absurd (false≢true is)
  no_parameters _ is = absurd (false≢true is)

  pub good_start : (input : Input) → fits m input ≡ Ok tt → Good m input (start m input)
  unfolding start
  good_start input fit = let e = enter_from m kept [] m.instrs kept.all refl in by_function (entry_of m.instrs) e.function e.is (kind (defined_as m e.function)) refl e.main
    where
      by_function : (entry : Option ℕ) (function : ℕ) → entry ≡ Some function → (k : Kind) → kind (defined_as m function) ≡ k → begins_main m k ≡ true → Good m input (entering m input (entry_body m entry))
      by_function entry function found (Begins returned own function_type) is main =
          let b = body_of m kept function returned own function_type is in
          let none : parameters_of (defined_as m function_type) ≡ [] = no_parameters (shape_of (defined_as m function_type)) main in
          subst (λ o. Good m input (entering m input o)) (sym (ap (entry_body m) found ∙ b.found))
          (enters m input kept function returned function_type b [] [] (before_entry m input) (bytes_fit m kept input fit) (let size = length_map (variable_begins m input) (value_variables m) in omega (arith, size))
          (subst (λ types. AreHeld m (length (before_entry m input).variables) types []) (sym none) tt) tt)
      by_function entry function found _ is main = absurd (false≢true main)
