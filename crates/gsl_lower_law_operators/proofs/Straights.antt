-- Increments, logical operators where both operands are there, and selections.
use Rattle.std.proofs.Common.{◌≡◌, refl, sym, ap, ap₂, ◌∙◌, subst, ℕ, zero, suc, ◌<◌, false, List, [], ◌∷◌, length, map, arith}
use Rattle.std.specs.Prelude.{replicate}
use Rattle.gsl_base.specs.declared.input.Input.{Input}
use Rattle.gsl_instr.specs.Forms.{form_of}
use Rattle.gsl_instr.specs.declared.op.TheConstants as op
use Rattle.gsl_types.specs.declared.ty.Scalar.{Scalar}
use Rattle.gsl_types.specs.declared.ty.Scalar.TheVariants.{Bool as Boolean, Int, Uint}
use Rattle.gsl_words.specs.declared.module.Module.{Module}
use Rattle.gsl_values.specs.declared.op.BinaryOp.{BinaryOp}
use Rattle.gsl_values.specs.declared.op.BinaryOp.TheVariants.{Add, Sub, And, Or, Unequal}
use Rattle.gsl_values.specs.declared.value.Value.{Value}
use Rattle.gsl_values.specs.declared.value.Value.TheVariants.{Word}
use Rattle.gsl_values.specs.Operators.{binary_answer, binary_word}
use Rattle.gsl_values.specs.Vectors.{binary_each}
use Rattle.gsl_values.specs.Word.{of_bits}
use Rattle.gsl_tree.specs.Operations.{binary_words, converted as converted_word, of_words, step_value, step_word}
use Rattle.gsl_tree.specs.Shapes.{Shape, flag}
use Rattle.gsl_tree.specs.Values.{components_in, of_components}
use Rattle.gsl_tree.specs.declared.expr.LogicOp.{LogicOp}
use Rattle.gsl_tree.specs.declared.expr.LogicOp.TheVariants as logic
use Rattle.gsl_tree.specs.declared.expr.StepOp.{StepOp}
use Rattle.gsl_tree.specs.declared.expr.StepOp.TheVariants.{PreUp, PreDown, PostUp, PostDown}
use Rattle.gsl_lower_law.specs.OfMachine.{binary as two_operands, select}
use Rattle.gsl_lower_law.specs.OfMachine.{State}
use Rattle.gsl_lower_law.specs.OfSpv.{Sections}
use Rattle.gsl_lower_values.specs.Building.{giving, ◌>>=◌}
use Rattle.gsl_lower_values.specs.Operators.{logic_code, logical, selected, step_code, stepped}
use Rattle.gsl_lower_values.specs.Types.{filled_constant, type_of}
use Rattle.gsl_lower_values.specs.declared.operand.Operand.{Operand}
use Rattle.gsl_lower_law.specs.Values.{IsOf, Stands}
use Rattle.gsl_lower_law.specs.Computing.{Computes}
use Rattle.gsl_lower_law.specs.Operands.{logic_answer}
use Rattle.gsl_lower_law.proofs.Components.{components_of, length_replicated, spread_self}
use Rattle.gsl_lower_law_operators.proofs.Conversions.{filled_constant_does, selects}
use Rattle.gsl_lower_law.proofs.Giving.{Performs}
use Rattle.gsl_lower_law.proofs.Joining.{does_then}
use Rattle.gsl_lower_law_operators.proofs.Pairs.{Two, two_of, two_performs}
use Rattle.gsl_lower_law.proofs.Typed.{typed_does, typed_grows}

-- ---- words

abbrev pub step_operator : StepOp → BinaryOp
step_operator PreUp = Add
step_operator PreDown = Sub
step_operator PostUp = Add
step_operator PostDown = Sub

ups : (ws choices : List ℕ) → binary_each Add false ws (replicate (length ws) 1) choices ≡ (map (step_word PreUp) ws, choices)
unfolding binary_answer
ups [] choices = refl
ups (w ∷ ws) choices = ap (λ (o : List ℕ × List ℕ). (step_word PreUp w ∷ o.0, o.1)) (ups ws choices)

downs : (ws choices : List ℕ) → binary_each Sub false ws (replicate (length ws) 1) choices ≡ (map (step_word PreDown) ws, choices)
unfolding binary_answer
downs [] choices = refl
downs (w ∷ ws) choices = ap (λ (o : List ℕ × List ℕ). (step_word PreDown w ∷ o.0, o.1)) (downs ws choices)

steps : (which : StepOp) (ws choices : List ℕ) → binary_each (step_operator which) false ws (replicate (length ws) 1) choices ≡ (map (step_word which) ws, choices)
steps PreUp ws choices = ups ws choices
steps PreDown ws choices = downs ws choices
steps PostUp ws choices = ups ws choices
steps PostDown ws choices = downs ws choices

one_is : (s : Scalar) → converted_word s 1 ≡ 1
one_is Boolean = refl
one_is Int = refl
one_is Uint = refl

abbrev pub logic_operator : LogicOp → BinaryOp
logic_operator logic.And = And
logic_operator logic.Or = Or
logic_operator logic.Xor = Unequal

two_more : (n : ℕ) → suc (suc n) < 2 → ⊥
two_more n less = omega (arith, less)

logic_is : (which : LogicOp) (x y : ℕ) → x < 2 → y < 2 → binary_word (logic_operator which) false x y ≡ logic_answer which x y
unfolding of_bits
logic_is logic.And zero zero p q = refl
logic_is logic.And zero (suc zero) p q = refl
logic_is logic.And (suc zero) zero p q = refl
logic_is logic.And (suc zero) (suc zero) p q = refl
logic_is logic.Or zero zero p q = refl
logic_is logic.Or zero (suc zero) p q = refl
logic_is logic.Or (suc zero) zero p q = refl
logic_is logic.Or (suc zero) (suc zero) p q = refl
logic_is logic.Xor zero zero p q = refl
logic_is logic.Xor zero (suc zero) p q = refl
logic_is logic.Xor (suc zero) zero p q = refl
logic_is logic.Xor (suc zero) (suc zero) p q = refl
logic_is which (suc (suc x)) y p q = absurd (two_more x p)
logic_is which zero (suc (suc y)) p q = absurd (two_more y q)
logic_is which (suc zero) (suc (suc y)) p q = absurd (two_more y q)

logic_given : (which : LogicOp) (x y : ℕ) (choices : List ℕ) → x < 2 → y < 2 → two_operands (logic_operator which, false) (Word x) (Word y) choices ≡ (Word (logic_answer which x y), choices)
unfolding binary_answer
logic_given which x y choices p q =
    ap₂ (λ xs ys. of_words (binary_words (logic_operator which) false xs ys choices)) (components_of (x ∷ [])) (components_of (y ∷ [])) ∙ by which ∙ ap (λ w. (Word w, choices)) (logic_is which x y p q)
  where
    by : (which : LogicOp) → of_words (binary_words (logic_operator which) false (x ∷ []) (y ∷ []) choices) ≡ (Word (binary_word (logic_operator which) false x y), choices)
    by logic.And = refl
    by logic.Or = refl
    by logic.Xor = refl

module _ (m : Module) (input : Input) where
  step_two : (which : StepOp) → Two m input (step_code which) (step_operator which, false)
  step_two PreUp = two_of m input Add Uint
  step_two PreDown = two_of m input Sub Uint
  step_two PostUp = two_of m input Add Uint
  step_two PostDown = two_of m input Sub Uint

  logic_two : (which : LogicOp) → Two m input (logic_code which) (logic_operator which, false)
  unfolding form_of
  logic_two logic.And = record { gives = λ a b type id. refl; named = λ a b type id. refl; does = λ a b type id at state. refl }
  logic_two logic.Or = record { gives = λ a b type id. refl; named = λ a b type id. refl; does = λ a b type id at state. refl }
  logic_two logic.Xor = record { gives = λ a b type id. refl; named = λ a b type id. refl; does = λ a b type id at state. refl }

  module _ (whole : Sections) where
    pub stepped_computes : (which : StepOp) (a : Operand) (v : Value) (state : State) (before : Sections) → IsOf a.shape v → Stands state.ids a.id v
        → Computes m input whole (step_value which v, state.choices) state before (stepped which a)
    unfolding stepped
    stepped_computes which a v state before is stands =
        does_then m input whole (λ id ids. Stands ids id ones) (λ id ids. Stands ids id (step_value which v)) state.choices state.choices state before (filled_constant a.shape 1) (λ one. type_of a.shape >>= giving (step_code which) (a.id ∷ one ∷ []))
        (filled_constant_does m input whole a.shape 1 state before)
        (λ one between. typed_grows m input whole a.shape (step_code which) (a.id ∷ one ∷ []) state between)
        (λ one between ids is_ones keeps.
        typed_does m input whole a.shape (step_code which) (a.id ∷ one ∷ []) (step_value which v) state.choices (record state { ids = ids }) between
        (λ type later more typed text. subst (λ (o : Value × List ℕ). Performs m input (step_code which) (a.id ∷ one ∷ []) type (record state { ids = later }) o.0 o.1) gives
        (two_performs m input (step_code which) (step_operator which, false) type a.id one v ones (record state { ids = later }) (step_two which) (more.same a.id _ (keeps.same a.id _ stands)) (more.same one _ is_ones))))
      where
        ones : Value
        ones = of_components (replicate a.shape.1 (converted_word a.shape.0 1))

        words : components_in v ≡ is.words
        words = ap components_in is.is ∙ components_of is.words

        one_words : components_in ones ≡ replicate (length is.words) 1
        one_words = components_of (replicate a.shape.1 (converted_word a.shape.0 1)) ∙ ap₂ replicate (sym is.count) (one_is a.shape.0)

        gives : two_operands (step_operator which, false) v ones state.choices ≡ (step_value which v, state.choices)
        gives =
            ap₂ (λ xs ys. of_words (binary_words (step_operator which) false xs ys state.choices)) words one_words
            ∙ ap₂ (λ xs ys. of_words (binary_each (step_operator which) false xs ys state.choices)) (spread_self (length (replicate (length is.words) 1)) is.words (sym (length_replicated (length is.words) 1))) (spread_self (length is.words) (replicate (length is.words) 1) (length_replicated (length is.words) 1))
            ∙ ap of_words (steps which is.words state.choices)
            ∙ ap (λ ws. (of_components (map (step_word which) ws), state.choices)) (sym words)

    pub logical_computes : (which : LogicOp) (a b x y : ℕ) (state : State) (before : Sections) → x < 2 → y < 2 → Stands state.ids a (Word x) → Stands state.ids b (Word y)
        → Computes m input whole (Word (logic_answer which x y), state.choices) state before (logical which a b)
    unfolding logical
    logical_computes which a b x y state before p q first second =
        typed_does m input whole flag (logic_code which) (a ∷ b ∷ []) (Word (logic_answer which x y)) state.choices state before
        (λ type ids keeps typed text. subst (λ (o : Value × List ℕ). Performs m input (logic_code which) (a ∷ b ∷ []) type (record state { ids = ids }) o.0 o.1) (logic_given which x y state.choices p q)
        (two_performs m input (logic_code which) (logic_operator which, false) type a b (Word x) (Word y) (record state { ids = ids }) (logic_two which) (keeps.same a _ first) (keeps.same b _ second)))

    pub selected_computes : (shape : Shape) (c a b : ℕ) (z x y : Value) (state : State) (before : Sections) → Stands state.ids c z → Stands state.ids a x → Stands state.ids b y
        → Computes m input whole (select z x y, state.choices) state before (selected shape c a b)
    unfolding selected
    selected_computes shape c a b z x y state before first second third =
        typed_does m input whole shape op.SELECT (c ∷ a ∷ b ∷ []) (select z x y) state.choices state before
        (λ type ids keeps typed text. selects m input type c a b z x y (record state { ids = ids }) (keeps.same c _ first) (keeps.same a _ second) (keeps.same b _ third))
