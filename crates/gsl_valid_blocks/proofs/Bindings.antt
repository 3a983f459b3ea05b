-- Variables by their bindings.
use Rattle.std.proofs.Common.{◌≡◌, ℕ, Bool, true, false, ◌&&◌, ◌||◌, [], ◌∷◌, Option, Some, None, refl, ap, ◌∙◌}
use Rattle.std.specs.List.{list_any}
use Rattle.gsl_words.specs.declared.module.Module.{Module}
use Rattle.gsl_valid.specs.Instruction.{read}
use Rattle.gsl_valid.specs.Kinds.{Variable, variable_is}
use Rattle.gsl_valid.specs.Placed.{Code}
use Rattle.gsl_valid.specs.Decorations.{number_on, same_number}
use Rattle.gsl_instr.specs.declared.enumerant.decoration.TheConstants as decoration
use Rattle.gsl_valid.specs.DecorationRules.{is_bound_class, is_bound_variable, is_bound_to}

no_number : (a : Option ℕ) → same_number a None ≡ false
no_number None = refl
no_number (Some n) = refl

and_false : (a : Bool) → (a && false) ≡ false
and_false true = refl
and_false false = refl

module _ (m : Module) where
  -- no variable has no set, or no binding
  pub no_set : (binding : Option ℕ) (code : Code) → list_any (λ i. is_bound_to m None binding (read i)) code ≡ false
  no_set binding [] = refl
  no_set binding (i ∷ code) = ap (λ b. b || list_any (λ i. is_bound_to m None binding (read i)) code) (by_variable (variable_is (read i))) ∙ no_set binding code
    where
      by_variable : (v : Option Variable) → is_bound_variable m None binding v ≡ false
      by_variable None = refl
      by_variable (Some v) =
          let bound = same_number (number_on m decoration.BINDING v.id) binding in
          ap (λ b. is_bound_class v.class && b && bound) (no_number (number_on m decoration.DESCRIPTOR_SET v.id)) ∙ ap (λ b. b && bound) (and_false (is_bound_class v.class))

  pub no_binding : (set : Option ℕ) (code : Code) → list_any (λ i. is_bound_to m set None (read i)) code ≡ false
  no_binding set [] = refl
  no_binding set (i ∷ code) = ap (λ b. b || list_any (λ i. is_bound_to m set None (read i)) code) (by_variable (variable_is (read i))) ∙ no_binding set code
    where
      by_variable : (v : Option Variable) → is_bound_variable m set None v ≡ false
      by_variable None = refl
      by_variable (Some v) =
          let set_there = is_bound_class v.class && same_number (number_on m decoration.DESCRIPTOR_SET v.id) set in
          ap (λ b. set_there && b) (no_number (number_on m decoration.BINDING v.id)) ∙ and_false set_there
