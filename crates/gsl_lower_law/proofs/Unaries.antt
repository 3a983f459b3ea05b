-- Operators on one value.
use Rattle.std.proofs.Common.{◌≡◌, refl, subst, ap, ◌∙◌, ℕ, [], ◌∷◌, Some}
use Rattle.std.specs.Option.{option_map}
use Rattle.gsl_base.specs.declared.input.Input.{Input}
use Rattle.gsl_instr.specs.Forms.{form_of}
use Rattle.gsl_instr.specs.Instructions.{read_as}
use Rattle.gsl_instr.specs.declared.form.Form.TheVariants as form
use Rattle.gsl_words.specs.declared.module.Module.{Module}
use Rattle.gsl_values.specs.declared.op.UnaryOp.{UnaryOp}
use Rattle.gsl_values.specs.declared.op.UnaryOp.TheVariants.{Negate, Flip, Not}
use Rattle.gsl_values.specs.declared.value.Value.{Value}
use Rattle.gsl_tree.specs.Operations.{unary_value}
use Rattle.gsl_valid.specs.Ids.{result}
use Rattle.gsl_valid.specs.Kinds.{kind}
use Rattle.gsl_machine.specs.Operations.{unary as one_operand}
use Rattle.gsl_machine.specs.State.{State, giving_value, on, on_whole}
use Rattle.gsl_machine.specs.Steps.{act}
use Rattle.gsl_spv.specs.Sections.{Sections}
use Rattle.gsl_lower_values.specs.Operators.{unary, unary_code}
use Rattle.gsl_lower_values.specs.declared.operand.Operand.{Operand}
use Rattle.gsl_lower_law.specs.Values.{Stands}
use Rattle.gsl_lower_law.specs.Computing.{Computes}
use Rattle.gsl_lower_law.proofs.Giving.{Performs}
use Rattle.gsl_lower_law.proofs.Typed.{typed_does}

unary_form : (which : UnaryOp) → form_of (unary_code which) ≡ Some form.Unary
unfolding form_of
unary_form Negate = refl
unary_form Flip = refl
unary_form Not = refl

unary_is : (which : UnaryOp) (v : Value) → one_operand (unary_code which) v ≡ unary_value which v
unary_is Negate v = refl
unary_is Flip v = refl
unary_is Not v = refl

module _ (m : Module) (input : Input) where
  -- an instruction of one operand
  pub one_performs : (code type a : ℕ) (v : Value) (state : State) → form_of code ≡ Some form.Unary → Stands state.ids a v → Performs m input code (a ∷ []) type state (one_operand code v) state.choices
  one_performs code type a v state form stands = record {
    gives = λ id. ap (λ f. kind (option_map (λ f. read_as f code (type ∷ id ∷ a ∷ [])) f)) form;
    named = λ id. ap (λ f. result (option_map (λ f. read_as f code (type ∷ id ∷ a ∷ [])) f)) form;
    done = λ id at rest.
        ap (λ f. on (option_map (λ f. read_as f code (type ∷ id ∷ a ∷ [])) f) (act m input at (record state { rest = rest }))) form
        ∙ ap (λ o. on_whole o (λ x. giving_value (record state { rest = rest }) id (one_operand code x))) stands;
  }

  pub unary_computes : (whole : Sections) (which : UnaryOp) (a : Operand) (v : Value) (state : State) (before : Sections) → Stands state.ids a.id v
      → Computes m input whole (unary_value which v, state.choices) state before (unary which a)
  unfolding unary
  unary_computes whole which a v state before stands =
      typed_does m input whole a.shape (unary_code which) (a.id ∷ []) (unary_value which v) state.choices state before
      (λ type ids keeps is text. subst (λ w. Performs m input (unary_code which) (a.id ∷ []) type (record state { ids = ids }) w state.choices) (unary_is which v)
      (one_performs (unary_code which) type a.id v (record state { ids = ids }) (unary_form which) (keeps.same a.id _ stands)))
