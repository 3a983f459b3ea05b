-- `&&`, `||` and `^^`.
use Rattle.std.proofs.Common.{◌≡◌, ◌≢◌, refl, sym, ap, ◌∙◌, subst, inl, inr, ℕ, ◌<◌, ◌⊎◌, Bool, true, false, not, ◌||◌, ◌==◌, List, arith, if◌then◌else◌}
use Rattle.std.proofs.lemmas.Bool.{false≢true, ltb-true}
use Rattle.std.specs.Prelude.{nat_lt}
use Rattle.gsl_base.specs.declared.input.Input.{Input}
use Rattle.gsl_types.specs.declared.ty.Scalar.TheVariants.{Bool as Boolean}
use Rattle.gsl_types.specs.declared.ty.StructType.{StructType}
use Rattle.gsl_types.specs.declared.ty.Ty.TheVariants.{Void, outs-One, outs-Void}
use Rattle.gsl_types.specs.declared.ty.Ty.TheOpen.{Ty-F}
use Rattle.gsl_types.specs.declared.ty.Ty.TheViews.{out-Ty}
use Rattle.gsl_words.specs.declared.module.Module.{Module}
use Rattle.gsl_values.specs.declared.value.Value.{Value}
use Rattle.gsl_values.specs.declared.value.Value.TheOpen.{Value-F}
use Rattle.gsl_values.specs.declared.value.Value.TheVariants.{Word, rolls-Word, outs-Word}
use Rattle.gsl_values.specs.declared.value.Value.TheViews.{out-Value, roll-Value, roll-out-Value}
use Rattle.gsl_values.specs.Word.{word_of_bool}
use Rattle.gsl_tree.specs.Around.{Around}
use Rattle.gsl_tree.specs.Expressions.{boolean}
use Rattle.gsl_tree.specs.Operations.{decides, logic_word}
use Rattle.gsl_tree.specs.Values.{is_scalar_layer, is_value_of, word_in, word_layer}
use Rattle.gsl_tree.specs.declared.expr.LogicOp.{LogicOp}
use Rattle.gsl_tree.specs.declared.expr.LogicOp.TheVariants as logic
use Rattle.gsl_tree.specs.declared.program.Program.{Program}
use Rattle.gsl_tree.proofs.Nodes.{value_of_one}
use Rattle.gsl_meaning.specs.Running.{Got, Ran, Run, given as shader_given}
use Rattle.gsl_meaning.specs.Running as shader_run
use Rattle.gsl_meaning.specs.State as shader
use Rattle.gsl_machine.specs.State.{State}
use Rattle.gsl_spv.specs.Sections.{Sections}
use Rattle.gsl_lower_values.specs.Operators.{logical}
use Rattle.gsl_lower_law.specs.Operands.{logic_answer}
use Rattle.gsl_lower_law.specs.Values.{Stands}
use Rattle.gsl_lower_follows.proofs.OfLawOperators.{logical_computes}
use Rattle.gsl_lower_holders.specs.Flow.{Flow, lift}
use Rattle.gsl_lower_expr.specs.Parts.{Lower, both}
use Rattle.gsl_lower_follows.specs.Frames.{AreTyped, Frame, Good}
use Rattle.gsl_lower_follows.specs.Giving.{Does, GivesValue, HasGiven, none_waits}
use Rattle.gsl_lower_follows.proofs.Drawn.{computed_given}
use Rattle.gsl_lower_follows.proofs.Growing.{adds_lift}
use Rattle.gsl_lower_law_expr.specs.Known.{IsQuiet, logic_means, logic_value}
use Rattle.gsl_lower_law_expr.proofs.Operands.{two_give}
use Rattle.gsl_lower_law_expr.proofs.Steps.{always_logical}

-- ---- truth values

-- A truth value is the scalar of a word below 2.
pub record IsTruth (v : Value) : Type 0 where
  pub is : v ≡ Word (word_in v)
  pub small : word_in v < 2

pub truth_of : (structs : List StructType) (v : Value) → is_value_of structs boolean v ≡ true → IsTruth v
truth_of structs v typed = by (out-Value v) (roll-out-Value v) (sym (value_of_one structs Boolean v) ∙ typed)
  where
    by : (layer : Value-F Value) → roll-Value layer ≡ v → is_scalar_layer Boolean layer ≡ true → IsTruth v
    by (Value-F.Word word) e fits =
        let w : v ≡ Word word = sym e ∙ rolls-Word word in
        let same : word_in v ≡ word = ap word_in w ∙ ap word_layer (outs-Word word) in
        record { is = w ∙ ap Word (sym same); small = subst (λ n. n < 2) (sym same) (ltb-true word 2 fits) }
    by (Value-F.Many parts) e fits = absurd (false≢true fits)

pub truth_typed : (structs : List StructType) (word : ℕ) → word < 2 → is_value_of structs boolean (Word word) ≡ true
truth_typed structs word small = value_of_one structs Boolean (Word word) ∙ ap (is_scalar_layer Boolean) (outs-Word word) ∙ small_passes word small
  where
    small_passes : (word : ℕ) → word < 2 → nat_lt word 2 ≡ true
    small_passes word small = grind (arith, small)

pub real_boolean : boolean ≢ Void
real_boolean e = absurd (let z : Ty-F.One Boolean ≡ Ty-F.Void = sym (outs-One Boolean) ∙ ap out-Ty e ∙ outs-Void in cc)

small_answer : (which : LogicOp) (a b : ℕ) → a < 2 → b < 2 → logic_answer which a b < 2
small_answer which a b small_a small_b = by (decides which a) which
  where
    small_word : (test : Bool) → word_of_bool test < 2
    small_word true = omega arith
    small_word false = omega arith

    word : (which : LogicOp) → logic_word which a b < 2
    word logic.And = small_b
    word logic.Or = small_b
    word logic.Xor = small_word (not (a == b))

    by : (decided : Bool) (which : LogicOp) → (if decided then a else logic_word which a b) < 2
    by true which = small_a
    by false which = word which

module _ (m : Module) (input : Input) (whole : Sections) (f : Frame m input whole) (p : Program) (around : Around) where
  -- the operator on two truth values that are both there
  logical_done : (which : LogicOp) (i j : ℕ) (v w : Value) (b : Flow) (s : shader.State) (units : ℕ) (state : State) → Good m input whole f p around b s state → is_value_of p.structs boolean v ≡ true → is_value_of p.structs boolean w ≡ true → Stands state.ids i v → Stands state.ids j w
      → Does m input whole f p 0 units state (HasGiven m input whole f p around false boolean b state) none_waits (shader_given (Word (logic_answer which (word_in v) (word_in w))) s units) (lift (logical which i j) b)
  logical_done which i j v w b s units state good typed_v typed_w stands_v stands_w =
      let x = truth_of p.structs v typed_v in
      let y = truth_of p.structs w typed_w in
      computed_given m input whole f p around boolean (λ choices. (Word (logic_answer which (word_in v) (word_in w)), choices)) (logical which i j) (λ b. always_logical m input whole which i j b.sections)
      (λ choices are. record { typed = truth_typed p.structs (logic_answer which (word_in v) (word_in w)) (small_answer which (word_in v) (word_in w) x.small y.small); left = are }) b s units state good
      (logical_computes m input whole which i j (word_in v) (word_in w) state b.sections x.small y.small (subst (Stands state.ids i) x.is stands_v) (subst (Stands state.ids j) y.is stands_w))

  -- Where the second may be evaluated whether it counts or not, both are there.
  pub both_give : (which : LogicOp) (a b : Lower) (x y : Run Value) → a.ty ≡ boolean → b.ty ≡ boolean → ((word : ℕ) → (decides which word ≡ false) ⊎ IsQuiet (AreTyped m input whole f p around) (is_value_of p.structs boolean) y)
      → GivesValue m input whole f p around a.traits.splits a.ty a.value x → GivesValue m input whole f p around b.traits.splits b.ty b.value y → GivesValue m input whole f p around (a.traits.splits || b.traits.splits) boolean (both which a b) (logic_means which x y)
  both_give which a b x y of_a of_b quiet first second =
      two_give m input whole f p around a.traits.splits b.traits.splits a.ty b.ty boolean a.value b.value x y (λ i j. lift (logical which i j)) (λ v w. shader_given (Word (logic_answer which (word_in v) (word_in w)))) (logic_value which y)
      (subst (λ t. t ≢ Void) (sym of_a) real_boolean) (subst (λ t. t ≢ Void) (sym of_b) real_boolean) first second (λ i j. adds_lift (logical which i j) (λ now. always_logical m input whole which i j now.sections))
      (λ i j v w now s units state good typed_v typed_w stands_v stands_w. logical_done which i j v w now s units state good (subst (λ t. is_value_of p.structs t v ≡ true) of_a typed_v) (subst (λ t. is_value_of p.structs t w ≡ true) of_b typed_w) stands_v stands_w)
      (λ v s units typed_v are. same v s units (truth_of p.structs v (subst (λ t. is_value_of p.structs t v ≡ true) of_a typed_v)) are (quiet (word_in v)))
    where
      not_decided : (v : Value) (s : shader.State) (units : ℕ) → decides which (word_in v) ≡ false → (r : Ran Value)
          → shader_run.behind r (λ w. shader_given (Word (logic_word which (word_in v) (word_in w)))) ≡ shader_run.behind r (λ w. shader_given (Word (if decides which (word_in v) then word_in v else logic_word which (word_in v) (word_in w))))
      not_decided v s units no_ (Got w t left) = ap (λ (d : Bool). Got (Word (if d then word_in v else logic_word which (word_in v) (word_in w))) t left) (sym no_)
      not_decided v s units no_ (shader_run.Ends t) = refl
      not_decided v s units no_ shader_run.Strays = refl
      not_decided v s units no_ shader_run.Goes = refl

      same : (v : Value) (s : shader.State) (units : ℕ) → IsTruth v → AreTyped m input whole f p around s → ((decides which (word_in v) ≡ false) ⊎ IsQuiet (AreTyped m input whole f p around) (is_value_of p.structs boolean) y)
          → logic_value which y v s units ≡ shader_run.◌>>=◌ y (λ w. shader_given (Word (logic_answer which (word_in v) (word_in w)))) s units
      same v s units truth are known = by (decides which (word_in v)) refl known
        where
          by : (d : Bool) → decides which (word_in v) ≡ d → ((decides which (word_in v) ≡ false) ⊎ IsQuiet (AreTyped m input whole f p around) (is_value_of p.structs boolean) y)
              → (if d then shader_given v else shader_run.◌>>=◌ y (λ w. shader_given (Word (logic_word which (word_in v) (word_in w))))) s units ≡ shader_run.◌>>=◌ y (λ w. shader_given (Word (logic_answer which (word_in v) (word_in w)))) s units
          by false no_ known = not_decided v s units no_ (y s units)
          by true yes_ (inl no_) = absurd (let z : true ≡ false = sym yes_ ∙ no_ in cc)
          by true yes_ (inr quiet) =
              let there = quiet.gives s units are in
              ap (λ value. Got value s units) truth.is ∙ ap (λ (d : Bool). Got (Word (if d then word_in v else logic_word which (word_in v) (word_in there.0))) s units) (sym yes_)
              ∙ ap (λ r. shader_run.behind r (λ w. shader_given (Word (logic_answer which (word_in v) (word_in w))))) (sym there.1)
