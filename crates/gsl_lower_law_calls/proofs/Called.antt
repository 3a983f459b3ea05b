-- Built-in functions of three and four arguments, and of any count.
use Rattle.std.proofs.Common.{◌≡◌, refl, sym, ap, ap₂, ◌∙◌, subst, ℕ, ◌≤◌, ◌&&◌, ◌⊎◌, List, [], ◌∷◌, length, Some}
use Rattle.std.proofs.lemmas.Bool.{and_parts}
use Rattle.std.specs.List.{AllByRecursion}
use Rattle.std.specs.Option.{option_map}
use Rattle.gsl_base.specs.declared.input.Input.{Input}
use Rattle.gsl_instr.specs.Forms.{form_of}
use Rattle.gsl_instr.specs.declared.enumerant.glsl_std_450.TheConstants as extended
use Rattle.gsl_instr.specs.Instructions.{read_as}
use Rattle.gsl_instr.specs.declared.form.Form.TheVariants as form
use Rattle.gsl_instr.specs.declared.op.TheConstants as op
use Rattle.gsl_valid.specs.Ids.{result}
use Rattle.gsl_valid.specs.Kinds.{kind}
use Rattle.gsl_types.specs.declared.ty.Scalar.{Scalar}
use Rattle.gsl_types.specs.declared.ty.Scalar.TheVariants.{Bool as Boolean, Int, Uint}
use Rattle.gsl_words.specs.declared.module.Module.{Module}
use Rattle.gsl_values.specs.declared.function.Builtin.{Builtin}
use Rattle.gsl_values.specs.declared.function.Builtin.TheVariants as f
use Rattle.gsl_values.specs.declared.value.Value.{Value}
use Rattle.gsl_tree.specs.Operations.{Given, builtin_each, builtin_value, is_signed_scalar, of_words, spread as spread_words}
use Rattle.gsl_tree.specs.Shapes.{Shape, built_shape, built_four as shape_of_four, built_three as shape_of_three, is_integer, same_scalar, same_shape, serves_beside}
use Rattle.gsl_tree.specs.Values.{components_in, of_components}
use Rattle.gsl_machine.specs.Operations.{extend as extended_value, extracted, inserted}
use Rattle.gsl_machine.specs.State.{State, on, on_whole}
use Rattle.gsl_machine.specs.Steps.{act, drawing}
use Rattle.gsl_spv.specs.Sections.{Sections}
use Rattle.gsl_lower_values.specs.Building.{Step, ◌>>=◌}
use Rattle.gsl_lower_values.specs.Builtins.{called, as_type, built_four, built_three, clamped, extend}
use Rattle.gsl_lower_values.specs.Operators.{by_sign, selected, spread}
use Rattle.gsl_lower_values.specs.declared.operand.Operand.{Operand}
use Rattle.gsl_lower_law.specs.Operands.{AllStand, first_signed, shapes_of}
use Rattle.gsl_lower_law.specs.Values.{IsOf, Stands}
use Rattle.gsl_lower_law.specs.Computing.{Computes}
use Rattle.gsl_lower_law_calls.proofs.Arguments.{built_two_computes, length_is, same_count, served, spread_thrice}
use Rattle.gsl_lower_law_calls.proofs.Calls.{each_unsigned}
use Rattle.gsl_lower_law.proofs.Components.{components_of}
use Rattle.gsl_lower_law_calls.proofs.Extended.{built_one_computes, extend_computes, extend_grows, plainly, steadily}
use Rattle.gsl_lower_law_calls.proofs.Facts.{steady_clamp, steady_mix, unsigned_insert, unsigned_mix, when_is}
use Rattle.gsl_lower_law.proofs.Gathers.{spread_computes}
use Rattle.gsl_lower_law.proofs.Giving.{Performs}
use Rattle.gsl_lower_law.proofs.Joining.{does_then, grows_then}
use Rattle.gsl_lower_law_operators.proofs.Straights.{selected_computes}
use Rattle.gsl_lower_law.proofs.Typed.{typed_does}

module _ (m : Module) (input : Input) where
  extracts : (code : ℕ) (type a b c : ℕ) (x y z : Value) (state : State) → form_of code ≡ Some form.BitFieldExtract → Stands state.ids a x → Stands state.ids b y → Stands state.ids c z
      → Performs m input code (a ∷ b ∷ c ∷ []) type state (extracted code x y z state.choices).0 (extracted code x y z state.choices).1
  extracts code type a b c x y z state form first second third = record {
    gives = λ id. ap (λ f. kind (option_map (λ f. read_as f code (type ∷ id ∷ a ∷ b ∷ c ∷ [])) f)) form;
    named = λ id. ap (λ f. result (option_map (λ f. read_as f code (type ∷ id ∷ a ∷ b ∷ c ∷ [])) f)) form;
    done = λ id at rest.
        ap (λ f. on (option_map (λ f. read_as f code (type ∷ id ∷ a ∷ b ∷ c ∷ [])) f) (act m input at (record state { rest = rest }))) form
        ∙ ap (λ o. on_whole o (λ x. on_whole (state.ids b) (λ y. on_whole (state.ids c) (λ z. drawing (record state { rest = rest }) id (extracted code x y z))))) first
        ∙ ap (λ o. on_whole o (λ y. on_whole (state.ids c) (λ z. drawing (record state { rest = rest }) id (extracted code x y z)))) second
        ∙ ap (λ o. on_whole o (λ z. drawing (record state { rest = rest }) id (extracted code x y z))) third;
  }

  inserts : (type a b c d : ℕ) (x y z n : Value) (state : State) → Stands state.ids a x → Stands state.ids b y → Stands state.ids c z → Stands state.ids d n
      → Performs m input op.BIT_FIELD_INSERT (a ∷ b ∷ c ∷ d ∷ []) type state (inserted x y z n state.choices).0 (inserted x y z n state.choices).1
  unfolding form_of
  inserts type a b c d x y z n state first second third fourth = record {
    gives = λ id. refl;
    named = λ id. refl;
    done = λ id at rest.
        ap (λ o. on_whole o (λ x. on_whole (state.ids b) (λ y. on_whole (state.ids c) (λ z. on_whole (state.ids d) (λ n. drawing (record state { rest = rest }) id (inserted x y z n)))))) first
        ∙ ap (λ o. on_whole o (λ y. on_whole (state.ids c) (λ z. on_whole (state.ids d) (λ n. drawing (record state { rest = rest }) id (inserted x y z n))))) second
        ∙ ap (λ o. on_whole o (λ z. on_whole (state.ids d) (λ n. drawing (record state { rest = rest }) id (inserted x y z n)))) third
        ∙ ap (λ o. on_whole o (λ n. drawing (record state { rest = rest }) id (inserted x y z n))) fourth;
  }

  module _ (whole : Sections) where
    module _ (a b c : Operand) (v w z : Value) (is_v : IsOf a.shape v) (is_w : IsOf b.shape w) (is_z : IsOf c.shape z) (some : 1 ≤ a.shape.1) (state : State) (before : Sections) (first : Stands state.ids a.id v) (second : Stands state.ids b.id w) (third : Stands state.ids c.id z) where
      abbrev pub three : List (List ℕ)
      three = components_in v ∷ components_in w ∷ components_in z ∷ []

      clamp_is : (s : Scalar) (x y z : Value) → extended_value (by_sign s extended.S_CLAMP extended.U_CLAMP) (x ∷ y ∷ z ∷ []) ≡ (of_words (builtin_each f.Clamp (is_signed_scalar s) (components_in x ∷ components_in y ∷ components_in z ∷ []) (length (components_in x)) 0 [])).0
      clamp_is Boolean x y z = refl
      clamp_is Int x y z = refl
      clamp_is Uint x y z = refl

      clamped_computes : (b.shape.1 ≡ a.shape.1) ⊎ (b.shape.1 ≡ 1) → (c.shape.1 ≡ a.shape.1) ⊎ (c.shape.1 ≡ 1) → Computes m input whole (builtin_value f.Clamp (is_signed_scalar a.shape.0) (v ∷ w ∷ z ∷ []) state.choices) state before (clamped a b c)
      clamped_computes serve_b serve_c =
          subst (λ (o : Given). Computes m input whole o state before (clamped a b c)) (sym (steadily m input whole f.Clamp steady_clamp (is_signed_scalar a.shape.0) three (length (components_in v)) state.choices))
          (does_then m input whole (λ id ids. Stands ids id low) (λ id ids. Stands ids id answer) state.choices state.choices state before (spread a.shape.1 b) after_low
          (spread_computes m input whole a.shape.1 b w state before some is_w serve_b second)
          (λ x between. grows_then m input whole between (spread a.shape.1 c between) (after_high x) (spread_computes m input whole a.shape.1 c z state between some is_z serve_c third).grows (λ y later. extend_grows m input whole number (a.id ∷ x ∷ y ∷ []) a.shape state later))
          (λ x between ids is_low keeps.
          does_then m input whole (λ id ids. Stands ids id high) (λ id ids. Stands ids id answer) state.choices state.choices (record state { ids = ids }) between (spread a.shape.1 c) (after_high x)
          (spread_computes m input whole a.shape.1 c z (record state { ids = ids }) between some is_z serve_c (keeps.same c.id _ third))
          (λ y later. extend_grows m input whole number (a.id ∷ x ∷ y ∷ []) a.shape state later)
          (λ y later last is_high more. extend_computes m input whole number (a.id ∷ x ∷ y ∷ []) a.shape (v ∷ low ∷ high ∷ []) answer (record state { ids = last }) later gives (more.same a.id _ (keeps.same a.id _ first), (more.same x _ is_low, (is_high, tt))))))
        where
          number : ℕ
          number = by_sign a.shape.0 extended.S_CLAMP extended.U_CLAMP

          after_high : ℕ → ℕ → Step ℕ
          after_high x y = extend number (a.id ∷ x ∷ y ∷ []) a.shape

          after_low : ℕ → Step ℕ
          after_low x = spread a.shape.1 c >>= after_high x

          low : Value
          low = of_components (spread_words a.shape.1 (components_in w))

          high : Value
          high = of_components (spread_words a.shape.1 (components_in z))

          answer : Value
          answer = (of_words (builtin_each f.Clamp (is_signed_scalar a.shape.0) three (length (components_in v)) 0 [])).0

          wide : (x : Value) → components_in (of_components (spread_words a.shape.1 (components_in x))) ≡ spread_words (length (components_in v)) (components_in x)
          wide x = components_of (spread_words a.shape.1 (components_in x)) ∙ ap (λ n. spread_words n (components_in x)) (sym (length_is m input whole a.shape v is_v))

          gives : extended_value number (v ∷ low ∷ high ∷ []) ≡ answer
          gives =
              clamp_is a.shape.0 v low high
              ∙ ap₂ (λ p q. (of_words (builtin_each f.Clamp (is_signed_scalar a.shape.0) (components_in v ∷ p ∷ q ∷ []) (length (components_in v)) 0 [])).0) (wide w) (wide z)
              ∙ ap (λ each. (of_words each).0) (spread_thrice m input whole f.Clamp (is_signed_scalar a.shape.0) (length (components_in v)) (components_in v) (components_in w) (components_in z) [])

      mixed_computes : Computes m input whole (builtin_value f.Mix (is_signed_scalar a.shape.0) (v ∷ w ∷ z ∷ []) state.choices) state before (selected a.shape c.id b.id a.id)
      mixed_computes =
          subst (λ (o : Given). Computes m input whole o state before (selected a.shape c.id b.id a.id)) (sym (plainly m input whole f.Mix steady_mix unsigned_mix (is_signed_scalar a.shape.0) three (length (components_in v)) state.choices))
          (selected_computes m input whole a.shape c.id b.id a.id z w v state before third second first)

      extracted_form : (s : Scalar) → form_of (by_sign s op.BIT_FIELD_S_EXTRACT op.BIT_FIELD_U_EXTRACT) ≡ Some form.BitFieldExtract
      unfolding form_of
      extracted_form Boolean = refl
      extracted_form Int = refl
      extracted_form Uint = refl

      extracted_is : (s : Scalar) → extracted (by_sign s op.BIT_FIELD_S_EXTRACT op.BIT_FIELD_U_EXTRACT) v w z state.choices ≡ builtin_value f.BitfieldExtract (is_signed_scalar s) (v ∷ w ∷ z ∷ []) state.choices
      extracted_is Boolean = refl
      extracted_is Int = refl
      extracted_is Uint = refl

      extracted_computes : Computes m input whole (builtin_value f.BitfieldExtract (is_signed_scalar a.shape.0) (v ∷ w ∷ z ∷ []) state.choices) state before (as_type a.shape (by_sign a.shape.0 op.BIT_FIELD_S_EXTRACT op.BIT_FIELD_U_EXTRACT) (a.id ∷ b.id ∷ c.id ∷ []))
      extracted_computes =
          let code = by_sign a.shape.0 op.BIT_FIELD_S_EXTRACT op.BIT_FIELD_U_EXTRACT in
          let answer = builtin_value f.BitfieldExtract (is_signed_scalar a.shape.0) (v ∷ w ∷ z ∷ []) state.choices in
          typed_does m input whole a.shape code (a.id ∷ b.id ∷ c.id ∷ []) answer.0 answer.1 state before
          (λ type ids keeps typed text. subst (λ (o : Given). Performs m input code (a.id ∷ b.id ∷ c.id ∷ []) type (record state { ids = ids }) o.0 o.1) (extracted_is a.shape.0)
          (extracts code type a.id b.id c.id v w z (record state { ids = ids }) (extracted_form a.shape.0) (keeps.same a.id _ first) (keeps.same b.id _ second) (keeps.same c.id _ third)))

      -- a built-in function of three arguments
      pub built_three_computes : (which : Builtin) (shape : Shape) → shape_of_three which a.shape b.shape c.shape ≡ Some shape → Computes m input whole (builtin_value which (is_signed_scalar a.shape.0) (v ∷ w ∷ z ∷ []) state.choices) state before (built_three which a b c)
      unfolding built_three
      built_three_computes f.Clamp shape e =
          let parts = and_parts (is_integer a.shape.0 && same_scalar a.shape.0 b.shape.0 && same_shape b.shape c.shape) (serves_beside a.shape.1 b.shape.1) (when_is _ a.shape shape e) in
          let serve = served a.shape.1 b.shape.1 parts.1 in
          clamped_computes serve (subst (λ n. (n ≡ a.shape.1) ⊎ (n ≡ 1)) (same_count b.shape c.shape (and_parts (is_integer a.shape.0 && same_scalar a.shape.0 b.shape.0) (same_shape b.shape c.shape) parts.0).1) serve)
      built_three_computes f.Mix shape e = mixed_computes
      built_three_computes f.BitfieldExtract shape e = extracted_computes
      built_three_computes f.Abs shape e = absurd cc
      built_three_computes f.Sign shape e = absurd cc
      built_three_computes f.Min shape e = absurd cc
      built_three_computes f.Max shape e = absurd cc
      built_three_computes f.LessThan shape e = absurd cc
      built_three_computes f.LessThanEqual shape e = absurd cc
      built_three_computes f.GreaterThan shape e = absurd cc
      built_three_computes f.GreaterThanEqual shape e = absurd cc
      built_three_computes f.Equal shape e = absurd cc
      built_three_computes f.NotEqual shape e = absurd cc
      built_three_computes f.Any shape e = absurd cc
      built_three_computes f.All shape e = absurd cc
      built_three_computes f.Not shape e = absurd cc
      built_three_computes f.BitCount shape e = absurd cc
      built_three_computes f.FindLsb shape e = absurd cc
      built_three_computes f.FindMsb shape e = absurd cc
      built_three_computes f.BitfieldReverse shape e = absurd cc
      built_three_computes f.BitfieldInsert shape e = absurd cc

    inserted_computes : (a b c d : Operand) (v w z n : Value) (state : State) (before : Sections) → Stands state.ids a.id v → Stands state.ids b.id w → Stands state.ids c.id z → Stands state.ids d.id n
        → Computes m input whole (builtin_value f.BitfieldInsert (is_signed_scalar a.shape.0) (v ∷ w ∷ z ∷ n ∷ []) state.choices) state before (as_type a.shape op.BIT_FIELD_INSERT (a.id ∷ b.id ∷ c.id ∷ d.id ∷ []))
    inserted_computes a b c d v w z n state before first second third fourth =
        let answer = builtin_value f.BitfieldInsert (is_signed_scalar a.shape.0) (v ∷ w ∷ z ∷ n ∷ []) state.choices in
        typed_does m input whole a.shape op.BIT_FIELD_INSERT (a.id ∷ b.id ∷ c.id ∷ d.id ∷ []) answer.0 answer.1 state before
        (λ type ids keeps typed text. subst (λ (o : Given). Performs m input op.BIT_FIELD_INSERT (a.id ∷ b.id ∷ c.id ∷ d.id ∷ []) type (record state { ids = ids }) o.0 o.1)
        (sym (ap of_words (each_unsigned f.BitfieldInsert unsigned_insert (is_signed_scalar a.shape.0) (components_in v ∷ components_in w ∷ components_in z ∷ components_in n ∷ []) (length (components_in v)) 0 state.choices)))
        (inserts type a.id b.id c.id d.id v w z n (record state { ids = ids }) (keeps.same a.id _ first) (keeps.same b.id _ second) (keeps.same c.id _ third) (keeps.same d.id _ fourth)))

    pub built_four_computes : (which : Builtin) (a b c d : Operand) (v w z n : Value) (state : State) (before : Sections) (shape : Shape) → shape_of_four which a.shape b.shape c.shape d.shape ≡ Some shape
        → Stands state.ids a.id v → Stands state.ids b.id w → Stands state.ids c.id z → Stands state.ids d.id n
        → Computes m input whole (builtin_value which (is_signed_scalar a.shape.0) (v ∷ w ∷ z ∷ n ∷ []) state.choices) state before (built_four which a.shape (a.id ∷ b.id ∷ c.id ∷ d.id ∷ []))
    unfolding built_four
    built_four_computes f.BitfieldInsert a b c d v w z n state before shape e first second third fourth = inserted_computes a b c d v w z n state before first second third fourth
    built_four_computes f.Abs a b c d v w z n state before shape e first second third fourth = absurd cc
    built_four_computes f.Sign a b c d v w z n state before shape e first second third fourth = absurd cc
    built_four_computes f.Min a b c d v w z n state before shape e first second third fourth = absurd cc
    built_four_computes f.Max a b c d v w z n state before shape e first second third fourth = absurd cc
    built_four_computes f.Clamp a b c d v w z n state before shape e first second third fourth = absurd cc
    built_four_computes f.Mix a b c d v w z n state before shape e first second third fourth = absurd cc
    built_four_computes f.LessThan a b c d v w z n state before shape e first second third fourth = absurd cc
    built_four_computes f.LessThanEqual a b c d v w z n state before shape e first second third fourth = absurd cc
    built_four_computes f.GreaterThan a b c d v w z n state before shape e first second third fourth = absurd cc
    built_four_computes f.GreaterThanEqual a b c d v w z n state before shape e first second third fourth = absurd cc
    built_four_computes f.Equal a b c d v w z n state before shape e first second third fourth = absurd cc
    built_four_computes f.NotEqual a b c d v w z n state before shape e first second third fourth = absurd cc
    built_four_computes f.Any a b c d v w z n state before shape e first second third fourth = absurd cc
    built_four_computes f.All a b c d v w z n state before shape e first second third fourth = absurd cc
    built_four_computes f.Not a b c d v w z n state before shape e first second third fourth = absurd cc
    built_four_computes f.BitCount a b c d v w z n state before shape e first second third fourth = absurd cc
    built_four_computes f.FindLsb a b c d v w z n state before shape e first second third fourth = absurd cc
    built_four_computes f.FindMsb a b c d v w z n state before shape e first second third fourth = absurd cc
    built_four_computes f.BitfieldReverse a b c d v w z n state before shape e first second third fourth = absurd cc
    built_four_computes f.BitfieldExtract a b c d v w z n state before shape e first second third fourth = absurd cc

    -- a built-in function on arguments of shapes that it takes
    pub called_computes : (which : Builtin) (args : List Operand) (vs : List Value) (shape : Shape) (state : State) (before : Sections) → built_shape which (shapes_of args) ≡ Some shape → AllByRecursion (λ a. 1 ≤ a.shape.1) args → AllStand state.ids args vs
        → Computes m input whole (builtin_value which (first_signed args) vs state.choices) state before (called which args)
    unfolding called
    called_computes which [] vs shape state before e some stand = absurd cc
    called_computes which (a ∷ []) (v ∷ []) shape state before e some stand = built_one_computes m input whole a v stand.0 state before stand.1 which shape e
    called_computes which (a ∷ b ∷ []) (v ∷ w ∷ []) shape state before e some stand =
        built_two_computes m input whole a b v w stand.0 stand.2.0 some.0 state before stand.1 stand.2.1 which shape e
    called_computes which (a ∷ b ∷ c ∷ []) (v ∷ w ∷ z ∷ []) shape state before e some stand =
        built_three_computes a b c v w z stand.0 stand.2.0 stand.2.2.0 some.0 state before stand.1 stand.2.1 stand.2.2.1 which shape e
    called_computes which (a ∷ b ∷ c ∷ d ∷ []) (v ∷ w ∷ z ∷ n ∷ []) shape state before e some stand =
        built_four_computes which a b c d v w z n state before shape e stand.1 stand.2.1 stand.2.2.1 stand.2.2.2.1
    called_computes which (a ∷ b ∷ c ∷ d ∷ x ∷ args) vs shape state before e some stand = absurd cc
    called_computes which (a ∷ []) [] shape state before e some stand = absurd stand
    called_computes which (a ∷ []) (v ∷ w ∷ vs) shape state before e some stand = absurd stand.2
    called_computes which (a ∷ b ∷ []) [] shape state before e some stand = absurd stand
    called_computes which (a ∷ b ∷ []) (v ∷ []) shape state before e some stand = absurd stand.2
    called_computes which (a ∷ b ∷ []) (v ∷ w ∷ z ∷ vs) shape state before e some stand = absurd stand.2.2
    called_computes which (a ∷ b ∷ c ∷ []) [] shape state before e some stand = absurd stand
    called_computes which (a ∷ b ∷ c ∷ []) (v ∷ []) shape state before e some stand = absurd stand.2
    called_computes which (a ∷ b ∷ c ∷ []) (v ∷ w ∷ []) shape state before e some stand = absurd stand.2.2
    called_computes which (a ∷ b ∷ c ∷ []) (v ∷ w ∷ z ∷ n ∷ vs) shape state before e some stand = absurd stand.2.2.2
    called_computes which (a ∷ b ∷ c ∷ d ∷ []) [] shape state before e some stand = absurd stand
    called_computes which (a ∷ b ∷ c ∷ d ∷ []) (v ∷ []) shape state before e some stand = absurd stand.2
    called_computes which (a ∷ b ∷ c ∷ d ∷ []) (v ∷ w ∷ []) shape state before e some stand = absurd stand.2.2
    called_computes which (a ∷ b ∷ c ∷ d ∷ []) (v ∷ w ∷ z ∷ []) shape state before e some stand = absurd stand.2.2.2
    called_computes which (a ∷ b ∷ c ∷ d ∷ []) (v ∷ w ∷ z ∷ n ∷ k ∷ vs) shape state before e some stand = absurd stand.2.2.2.2
