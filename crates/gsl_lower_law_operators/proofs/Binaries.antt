-- Operators on two values.
use Rattle.std.proofs.Common.{◌≡◌, refl, sym, ap, ap₂, ◌∙◌, subst, ℕ, ◌≤◌, Bool, true, false, not, List, [], ◌∷◌, inl, length, Some, arith, if◌then◌else◌}
use Rattle.std.proofs.lemmas.Bool.{eqb-true}
use Rattle.std.specs.List.{list_all, list_any}
use Rattle.std.specs.Prelude.{max, ◌==◌}
use Rattle.gsl_base.specs.declared.input.Input.{Input}
use Rattle.gsl_instr.specs.Forms.{form_of}
use Rattle.gsl_instr.specs.declared.form.Form.TheVariants as form
use Rattle.gsl_instr.specs.declared.op.TheConstants as op
use Rattle.gsl_words.specs.declared.module.Module.{Module}
use Rattle.gsl_values.specs.declared.op.BinaryOp.{BinaryOp}
use Rattle.gsl_values.specs.declared.op.BinaryOp.TheVariants.{Add, Sub, Mul, Div, Mod, Shl, Shr, And, Or, Xor, Less, LessEq, Greater, GreaterEq, Equal, Unequal}
use Rattle.gsl_values.specs.declared.value.Value.{Value}
use Rattle.gsl_values.specs.declared.value.Value.TheVariants.{Word}
use Rattle.gsl_values.specs.Vectors.{binary_each}
use Rattle.gsl_values.specs.Word.{word_of_bool}
use Rattle.gsl_tree.specs.Operations.{binary_value, binary_words, is_signed_scalar, is_true, of_words}
use Rattle.gsl_tree.specs.Shapes.{flag}
use Rattle.gsl_tree.specs.Values.{components_in, of_components, same_value}
use Rattle.gsl_lower_law.specs.OfMachine.{unary as one_operand}
use Rattle.gsl_lower_law.specs.OfMachine.{Ids, State, Whole}
use Rattle.gsl_lower_law.specs.OfSpv.{Sections}
use Rattle.gsl_lower_values.specs.Building.{given, Step, ◌>>=◌}
use Rattle.gsl_lower_values.specs.Operators.{binary, each, joining}
use Rattle.gsl_lower_values.specs.declared.operand.Operand.{Operand}
use Rattle.gsl_lower_law.specs.Values.{IsOf, Stands}
use Rattle.gsl_lower_law.specs.Computing.{Computes, Does, Grows}
use Rattle.gsl_lower_law.specs.Operands.{Beside, Fit}
use Rattle.gsl_lower_law.proofs.Components.{components_of, spread_self}
use Rattle.gsl_lower_law_operators.proofs.Eachs.{each_computes}
use Rattle.gsl_lower_law_operators.proofs.Equalities.{all_equal, any_unequal, equal_alone, equal_left, same_each, same_words, unequal_alone, unequal_left}
use Rattle.gsl_lower_law.proofs.Giving.{Performs}
use Rattle.gsl_lower_law.proofs.Joining.{does_then, given_does}
use Rattle.gsl_lower_law.proofs.Typed.{typed_does, typed_grows}
use Rattle.gsl_lower_law.proofs.Unaries.{one_performs}

-- ---- what is joined

alls : (ws : List ℕ) → one_operand op.ALL (of_components ws) ≡ Word (word_of_bool (list_all is_true ws))
alls ws = ap (λ l. Word (word_of_bool (list_all is_true l))) (components_of ws)

anys : (ws : List ℕ) → one_operand op.ANY (of_components ws) ≡ Word (word_of_bool (list_any is_true ws))
anys ws = ap (λ l. Word (word_of_bool (list_any is_true l))) (components_of ws)

all_form : form_of op.ALL ≡ Some form.Unary
unfolding form_of
all_form = refl

any_form : form_of op.ANY ≡ Some form.Unary
unfolding form_of
any_form = refl

module _ (m : Module) (input : Input) (whole : Sections) where
  -- behind a step that computes a value, what is given with nothing put
  as_it_is : (v : Value) (choices : List ℕ) (state : State) (before : Sections) (step : Step ℕ) → Computes m input whole (v, choices) state before step → Computes m input whole (v, choices) state before (step >>= given)
  as_it_is v choices state before step computes =
      does_then m input whole (λ id ids. Stands ids id v) (λ id ids. Stands ids id v) choices choices state before step given computes
      (λ id between. (given_does m input whole (λ (id : ℕ) (ids : Ids). Unit {0}) id state between tt).grows)
      (λ id between ids is keeps. given_does m input whole (λ id ids. Stands ids id v) id (record state { ids = ids; choices = choices }) between is)

  -- truth values joined to one, where there are several
  join_does : (code : ℕ) (truths : Value) (answer : Value) (count : ℕ) (id : ℕ) (state : State) (before : Sections) → form_of code ≡ Some form.Unary → ((count == 1) ≡ false → one_operand code truths ≡ answer) → ((count == 1) ≡ true → truths ≡ answer)
      → Stands state.ids id truths → Computes m input whole (answer, state.choices) state before (if count == 1 then given id else joining code id)
  join_does code truths answer count id state before form many one stands = by (count == 1) refl
    where
      by : (b : Bool) → (count == 1) ≡ b → Computes m input whole (answer, state.choices) state before (if b then given id else joining code id)
      by true e = given_does m input whole (λ id ids. Stands ids id answer) id state before (stands ∙ ap (λ v. Some (Whole v)) (one e))
      by false e =
          typed_does m input whole flag code (id ∷ []) answer state.choices state before
          (λ type ids keeps is text. subst (λ v. Performs m input code (id ∷ []) type (record state { ids = ids }) v state.choices) (many e) (one_performs m input code type id truths (record state { ids = ids }) form (keeps.same id _ stands)))

  module _ (a b : Operand) (v w : Value) (state : State) (before : Sections) (is_v : IsOf a.shape v) (is_w : IsOf b.shape w) (some_a : 1 ≤ a.shape.1) (some_b : 1 ≤ b.shape.1) (first : Stands state.ids a.id v) (second : Stands state.ids b.id w) where
    plainly : (which : BinaryOp) → Beside a.shape.1 b.shape.1 → Computes m input whole (of_words (binary_words which (is_signed_scalar a.shape.0) (components_in v) (components_in w) state.choices)) state before (each which a b >>= given)
    plainly which beside =
        let answer = of_words (binary_words which (is_signed_scalar a.shape.0) (components_in v) (components_in w) state.choices) in
        as_it_is answer.0 answer.1 state before (each which a b) (each_computes m input whole which a b v w state before is_v is_w some_a some_b beside first second)

    -- the words of operands of one count
    words_same : (which : BinaryOp) → a.shape.1 ≡ b.shape.1 → binary_words which (is_signed_scalar a.shape.0) (components_in v) (components_in w) state.choices ≡ binary_each which (is_signed_scalar a.shape.0) is_v.words is_w.words state.choices
    words_same which same =
        ap₂ (λ xs ys. binary_words which (is_signed_scalar a.shape.0) xs ys state.choices) (ap components_in is_v.is ∙ components_of is_v.words) (ap components_in is_w.is ∙ components_of is_w.words)
        ∙ ap₂ (λ xs ys. binary_each which (is_signed_scalar a.shape.0) xs ys state.choices) (spread_self (length is_w.words) is_v.words (is_v.count ∙ same ∙ sym is_w.count)) (spread_self (length is_v.words) is_w.words (is_w.count ∙ sym same ∙ sym is_v.count))

    same_is : a.shape.1 ≡ b.shape.1 → same_value v w ≡ same_each is_v.words is_w.words
    same_is same = ap₂ same_value is_v.is is_w.is ∙ same_words is_v.words is_w.words (is_v.count ∙ same ∙ sym is_w.count)

    alone_a : a.shape.1 ≡ b.shape.1 → (max a.shape.1 b.shape.1 == 1) ≡ true → length is_v.words ≡ 1
    alone_a same e = is_v.count ∙ (let one : max a.shape.1 b.shape.1 ≡ 1 = eqb-true _ 1 e in omega (arith, one, same))

    alone_b : a.shape.1 ≡ b.shape.1 → (max a.shape.1 b.shape.1 == 1) ≡ true → length is_w.words ≡ 1
    alone_b same e = is_w.count ∙ (let one : max a.shape.1 b.shape.1 ≡ 1 = eqb-true _ 1 e in omega (arith, one, same))

    compared : (which : BinaryOp) (code : ℕ) (answer : Value) → form_of code ≡ Some form.Unary → a.shape.1 ≡ b.shape.1
        → (let each = binary_each which (is_signed_scalar a.shape.0) is_v.words is_w.words state.choices in
        (each.1 ≡ state.choices) × (one_operand code (of_components each.0) ≡ answer) × ((max a.shape.1 b.shape.1 == 1) ≡ true → of_components each.0 ≡ answer))
        → Computes m input whole (answer, state.choices) state before (each which a b >>= (λ truths. if max a.shape.1 b.shape.1 == 1 then given truths else joining code truths))
    compared which code answer form same facts =
        let words = binary_each which (is_signed_scalar a.shape.0) is_v.words is_w.words state.choices in
        let count = max a.shape.1 b.shape.1 in
        does_then m input whole (λ id ids. Stands ids id (of_components words.0)) (λ id ids. Stands ids id answer) state.choices state.choices state before (each which a b) (λ truths. if count == 1 then given truths else joining code truths)
        (subst (λ left. Does m input whole (λ id ids. Stands ids id (of_components words.0)) left state before (each which a b)) facts.0
        (subst (λ o. Computes m input whole (of_words o) state before (each which a b)) (words_same which same) (each_computes m input whole which a b v w state before is_v is_w some_a some_b (inl same) first second)))
        (λ truths between. by_grows truths between (count == 1))
        (λ truths between ids is keeps. join_does code (of_components words.0) answer count truths (record state { ids = ids }) between form (λ e. facts.1) facts.2 is)
      where
        by_grows : (truths : ℕ) (between : Sections) (b : Bool) → Grows between ((if b then given truths else joining code truths) between)
        by_grows truths between true = (given_does m input whole (λ (id : ℕ) (ids : Ids). Unit {0}) truths state between tt).grows
        by_grows truths between false = typed_grows m input whole flag code (truths ∷ []) state between

    pub binary_computes : (which : BinaryOp) → Fit which a.shape.1 b.shape.1 → Computes m input whole (binary_value which (is_signed_scalar a.shape.0) v w state.choices) state before (binary which a b)
    unfolding binary
    binary_computes Add fit = plainly Add fit
    binary_computes Sub fit = plainly Sub fit
    binary_computes Mul fit = plainly Mul fit
    binary_computes Div fit = plainly Div fit
    binary_computes Mod fit = plainly Mod fit
    binary_computes Shl fit = plainly Shl fit
    binary_computes Shr fit = plainly Shr fit
    binary_computes And fit = plainly And fit
    binary_computes Or fit = plainly Or fit
    binary_computes Xor fit = plainly Xor fit
    binary_computes Less fit = plainly Less fit
    binary_computes LessEq fit = plainly LessEq fit
    binary_computes Greater fit = plainly Greater fit
    binary_computes GreaterEq fit = plainly GreaterEq fit
    binary_computes Equal same =
        let signed = is_signed_scalar a.shape.0 in
        compared Equal op.ALL (Word (word_of_bool (same_value v w))) all_form same (
          equal_left signed is_v.words is_w.words state.choices,
          alls (binary_each Equal signed is_v.words is_w.words state.choices).0 ∙ ap (λ b. Word (word_of_bool b)) (all_equal signed is_v.words is_w.words state.choices ∙ sym (same_is same)),
          λ e. equal_alone signed is_v.words is_w.words state.choices (alone_a same e) (alone_b same e) ∙ ap (λ b. Word (word_of_bool b)) (sym (same_is same)),
        )
    binary_computes Unequal same =
        let signed = is_signed_scalar a.shape.0 in
        compared Unequal op.ANY (Word (word_of_bool (not (same_value v w)))) any_form same (
          unequal_left signed is_v.words is_w.words state.choices,
          anys (binary_each Unequal signed is_v.words is_w.words state.choices).0 ∙ ap (λ b. Word (word_of_bool b)) (any_unequal signed is_v.words is_w.words state.choices ∙ ap not (sym (same_is same))),
          λ e. unequal_alone signed is_v.words is_w.words state.choices (alone_a same e) (alone_b same e) ∙ ap (λ b. Word (word_of_bool (not b))) (sym (same_is same)),
        )
