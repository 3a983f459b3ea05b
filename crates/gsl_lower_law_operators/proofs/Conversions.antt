-- Conversions of scalars and vectors.
use Rattle.std.proofs.Common.{◌≡◌, refl, sym, ap, ap₂, ◌∙◌, subst, ℕ, zero, suc, ◌<◌, false, List, [], ◌∷◌, length, map, Some, arith}
use Rattle.std.proofs.lemmas.Bool.{ltb-true}
use Rattle.std.specs.Prelude.{replicate}
use Rattle.gsl_base.specs.declared.input.Input.{Input}
use Rattle.gsl_instr.specs.Forms.{form_of}
use Rattle.gsl_instr.specs.declared.form.Form.TheVariants as form
use Rattle.gsl_instr.specs.declared.op.TheConstants as op
use Rattle.gsl_types.specs.declared.ty.Scalar.{Scalar}
use Rattle.gsl_types.specs.declared.ty.Scalar.TheVariants.{Bool as Boolean, Int, Uint}
use Rattle.gsl_words.specs.declared.module.Module.{Module}
use Rattle.gsl_values.specs.declared.function.Builtin.TheVariants.{Mix}
use Rattle.gsl_values.specs.declared.op.BinaryOp.TheVariants.{Unequal}
use Rattle.gsl_values.specs.declared.value.Value.{Value}
use Rattle.gsl_values.specs.Operators.{binary_answer}
use Rattle.gsl_values.specs.Vectors.{binary_each}
use Rattle.gsl_tree.specs.Operations.{binary_words, builtin_each, converted as converted_word, of_words}
use Rattle.gsl_tree.specs.Shapes.{Shape}
use Rattle.gsl_tree.specs.Values.{components_in, of_components}
use Rattle.gsl_lower_law.specs.OfMachine.{binary as two_operands, select, unary as one_operand}
use Rattle.gsl_lower_law.specs.OfMachine.{State, Whole, giving_value, on_whole}
use Rattle.gsl_lower_law.specs.OfSpv.{Sections}
use Rattle.gsl_lower_values.specs.Building.{given, giving, Step, ◌>>=◌}
use Rattle.gsl_lower_values.specs.Operators.{converted, converted_from, numbered, recast, tested}
use Rattle.gsl_lower_values.specs.Types.{filled_constant, type_of}
use Rattle.gsl_lower_values.specs.declared.operand.Operand.{Operand}
use Rattle.gsl_lower_law.specs.Values.{AreWords, IsOf, Stands}
use Rattle.gsl_lower_law.specs.Computing.{Computes}
use Rattle.gsl_lower_law.specs.Operands.{converted_value}
use Rattle.gsl_lower_law_operators.proofs.Columns.{by_word, mix_filled}
use Rattle.gsl_lower_law.proofs.Components.{components_of, length_replicated, spread_self}
use Rattle.gsl_lower_law.proofs.Fixed.{Lasts, does_so, filled_constant_lasts, stands_now}
use Rattle.gsl_lower_law.proofs.Giving.{Performs}
use Rattle.gsl_lower_law.proofs.Joining.{does_then, given_does, grows_then}
use Rattle.gsl_lower_law_operators.proofs.Pairs.{Two, two_performs}
use Rattle.gsl_lower_law.proofs.Typed.{typed_does, typed_grows}
use Rattle.gsl_lower_law.proofs.Unaries.{one_performs}

-- ---- words

map_same : (ws : List ℕ) → map (λ w. w) ws ≡ ws
map_same [] = refl
map_same (w ∷ ws) = ap (λ l. w ∷ l) (map_same ws)

-- a truth value as a number
truth_words : (ws : List ℕ) → AreWords Boolean ws → map (by_word 0 1) ws ≡ ws
truth_words [] fits = refl
truth_words (zero ∷ ws) fits = ap (λ l. 0 ∷ l) (truth_words ws fits.1)
truth_words (suc zero ∷ ws) fits = ap (λ l. 1 ∷ l) (truth_words ws fits.1)
truth_words (suc (suc w) ∷ ws) fits = absurd (let less : suc (suc w) < 2 = ltb-true (suc (suc w)) 2 fits.0 in omega (arith, less))

-- whether words differ from zero
differ : (ws choices : List ℕ) → binary_each Unequal false ws (replicate (length ws) 0) choices ≡ (map (converted_word Boolean) ws, choices)
unfolding binary_answer
differ [] choices = refl
differ (w ∷ ws) choices = ap (λ (o : List ℕ × List ℕ). (converted_word Boolean w ∷ o.0, o.1)) (differ ws choices)

cast_form : form_of op.BITCAST ≡ Some form.Unary
unfolding form_of
cast_form = refl

cast_is : (v : Value) → one_operand op.BITCAST v ≡ v
cast_is v = refl

module _ (m : Module) (input : Input) where
  -- one of two values by a condition
  pub selects : (type c a b : ℕ) (z x y : Value) (state : State) → Stands state.ids c z → Stands state.ids a x → Stands state.ids b y
      → Performs m input op.SELECT (c ∷ a ∷ b ∷ []) type state (select z x y) state.choices
  unfolding form_of
  selects type c a b z x y state first second third = record {
    gives = λ id. refl;
    named = λ id. refl;
    done = λ id at rest.
        ap (λ o. on_whole o (λ c. on_whole (state.ids a) (λ x. on_whole (state.ids b) (λ y. giving_value (record state { rest = rest }) id (select c x y))))) first
        ∙ ap (λ o. on_whole o (λ x. on_whole (state.ids b) (λ y. giving_value (record state { rest = rest }) id (select z x y)))) second
        ∙ ap (λ o. on_whole o (λ y. giving_value (record state { rest = rest }) id (select z x y))) third;
  }

  pub unequals : Two m input op.I_NOT_EQUAL (Unequal, false)
  unfolding form_of
  unequals = record { gives = λ a b type id. refl; named = λ a b type id. refl; does = λ a b type id at state. refl }

  module _ (whole : Sections) where
    -- a constant, as it stands for its value in a state
    pub filled_constant_does : (shape : Shape) (word : ℕ) (state : State) (before : Sections) → Computes m input whole (of_components (replicate shape.1 (converted_word shape.0 word)), state.choices) state before (filled_constant shape word)
    filled_constant_does shape word state before =
        let v = of_components (replicate shape.1 (converted_word shape.0 word)) in
        does_so m input whole (Lasts state v) (λ id ids. Stands ids id v) state.choices state before (filled_constant shape word) (λ text id ids lasting is. stands_now m input whole v state id ids lasting is) (filled_constant_lasts m input whole shape word state before)

    module _ (a : Operand) (v : Value) (is : IsOf a.shape v) where
      words : components_in v ≡ is.words
      words = ap components_in is.is ∙ components_of is.words

      as_it_stands : (to : Scalar) (state : State) (before : Sections) → Stands state.ids a.id v → map (converted_word to) is.words ≡ is.words → Computes m input whole (converted_value to v, state.choices) state before (given a.id)
      as_it_stands to state before stands same =
          given_does m input whole (λ id ids. Stands ids id (converted_value to v)) a.id state before
          (stands ∙ ap (λ w. Some (Whole w)) (is.is ∙ ap of_components (sym (ap (map (converted_word to)) words ∙ same))))

      recast_does : (to : Scalar) (state : State) (before : Sections) → Stands state.ids a.id v → map (converted_word to) is.words ≡ is.words → Computes m input whole (converted_value to v, state.choices) state before (recast to a)
      recast_does to state before stands same =
          typed_does m input whole (to, a.shape.1) op.BITCAST (a.id ∷ []) (converted_value to v) state.choices state before
          (λ type ids keeps typed text. subst (λ w. Performs m input op.BITCAST (a.id ∷ []) type (record state { ids = ids }) w state.choices) (cast_is v ∙ is.is ∙ ap of_components (sym (ap (map (converted_word to)) words ∙ same)))
          (one_performs m input op.BITCAST type a.id v (record state { ids = ids }) cast_form (keeps.same a.id _ stands)))

      tested_does : (state : State) (before : Sections) → Stands state.ids a.id v → converted_word a.shape.0 0 ≡ 0 → Computes m input whole (converted_value Boolean v, state.choices) state before (tested a)
      tested_does state before stands zero_is =
          does_then m input whole (λ id ids. Stands ids id zeros) (λ id ids. Stands ids id (converted_value Boolean v)) state.choices state.choices state before (filled_constant a.shape 0) (λ zeros. type_of (Boolean, a.shape.1) >>= giving op.I_NOT_EQUAL (a.id ∷ zeros ∷ []))
          (filled_constant_does a.shape 0 state before)
          (λ id between. typed_grows m input whole (Boolean, a.shape.1) op.I_NOT_EQUAL (a.id ∷ id ∷ []) state between)
          (λ id between ids is_zeros keeps.
          typed_does m input whole (Boolean, a.shape.1) op.I_NOT_EQUAL (a.id ∷ id ∷ []) (converted_value Boolean v) state.choices (record state { ids = ids }) between
          (λ type later more typed text. subst (λ (o : Value × List ℕ). Performs m input op.I_NOT_EQUAL (a.id ∷ id ∷ []) type (record state { ids = later }) o.0 o.1) gives
          (two_performs m input op.I_NOT_EQUAL (Unequal, false) type a.id id v zeros (record state { ids = later }) unequals (more.same a.id _ (keeps.same a.id _ stands)) (more.same id _ is_zeros))))
        where
          zeros : Value
          zeros = of_components (replicate a.shape.1 (converted_word a.shape.0 0))

          zero_words : components_in zeros ≡ replicate (length is.words) 0
          zero_words = components_of (replicate a.shape.1 (converted_word a.shape.0 0)) ∙ ap₂ replicate (sym is.count) zero_is

          gives : two_operands (Unequal, false) v zeros state.choices ≡ (converted_value Boolean v, state.choices)
          gives =
              ap₂ (λ xs ys. of_words (binary_words Unequal false xs ys state.choices)) words zero_words
              ∙ ap₂ (λ xs ys. of_words (binary_each Unequal false xs ys state.choices)) (spread_self (length (replicate (length is.words) 0)) is.words (sym (length_replicated (length is.words) 0))) (spread_self (length is.words) (replicate (length is.words) 0) (length_replicated (length is.words) 0))
              ∙ ap of_words (differ is.words state.choices)
              ∙ ap (λ ws. (of_components (map (converted_word Boolean) ws), state.choices)) (sym words)

      numbered_does : (to : Scalar) (state : State) (before : Sections) → Stands state.ids a.id v → AreWords Boolean is.words → converted_word to 0 ≡ 0 → converted_word to 1 ≡ 1 → map (converted_word to) is.words ≡ is.words
          → Computes m input whole (converted_value to v, state.choices) state before (numbered to a)
      numbered_does to state before stands truths zero_is one_is same =
          does_then m input whole (λ id ids. Stands ids id ones) (λ id ids. Stands ids id (converted_value to v)) state.choices state.choices state before (filled_constant shape 1) after_ones
          (filled_constant_does shape 1 state before)
          (λ one between. grows_then m input whole between (filled_constant shape 0 between) (after_zeros one) (filled_constant_does shape 0 state between).grows (λ none later. typed_grows m input whole shape op.SELECT (a.id ∷ one ∷ none ∷ []) state later))
          (λ one between ids is_ones keeps.
          does_then m input whole (λ id ids. Stands ids id zeros) (λ id ids. Stands ids id (converted_value to v)) state.choices state.choices (record state { ids = ids }) between (filled_constant shape 0) (after_zeros one)
          (filled_constant_does shape 0 (record state { ids = ids }) between)
          (λ none later. typed_grows m input whole shape op.SELECT (a.id ∷ one ∷ none ∷ []) state later)
          (λ none later last is_zeros more.
          typed_does m input whole shape op.SELECT (a.id ∷ one ∷ none ∷ []) (converted_value to v) state.choices (record state { ids = last }) later
          (λ type final further typed text. subst (λ w. Performs m input op.SELECT (a.id ∷ one ∷ none ∷ []) type (record state { ids = final }) w state.choices) gives
          (selects type a.id one none v ones zeros (record state { ids = final }) (further.same a.id _ (more.same a.id _ (keeps.same a.id _ stands))) (further.same one _ (more.same one _ is_ones)) (further.same none _ is_zeros)))))
        where
          shape : Shape
          shape = (to, a.shape.1)

          after_zeros : ℕ → ℕ → Step ℕ
          after_zeros one none = type_of shape >>= giving op.SELECT (a.id ∷ one ∷ none ∷ [])

          after_ones : ℕ → Step ℕ
          after_ones one = filled_constant shape 0 >>= after_zeros one

          ones : Value
          ones = of_components (replicate a.shape.1 (converted_word to 1))

          zeros : Value
          zeros = of_components (replicate a.shape.1 (converted_word to 0))

          filled_words : (w x : ℕ) → w ≡ x → components_in (of_components (replicate a.shape.1 w)) ≡ replicate (length is.words) x
          filled_words w x e = components_of (replicate a.shape.1 w) ∙ ap₂ replicate (sym is.count) e

          mixed : List ℕ → List ℕ → List ℕ → Value
          mixed none one c = of_components (builtin_each Mix false (none ∷ one ∷ c ∷ []) (length none) 0 []).0

          gives : select v ones zeros ≡ converted_value to v
          gives =
              ap (λ l. mixed l (components_in ones) (components_in v)) (filled_words (converted_word to 0) 0 zero_is)
              ∙ ap₂ (mixed (replicate (length is.words) 0)) (filled_words (converted_word to 1) 1 one_is) words
              ∙ ap (λ n. of_components (builtin_each Mix false (replicate (length is.words) 0 ∷ replicate (length is.words) 1 ∷ is.words ∷ []) n 0 []).0) (length_replicated (length is.words) 0)
              ∙ ap (λ (o : List ℕ × List ℕ). of_components o.0) (mix_filled 0 1 is.words [])
              ∙ ap of_components (truth_words is.words truths ∙ sym same ∙ sym (ap (map (converted_word to)) words))

      from_to : (from to : Scalar) (state : State) (before : Sections) → a.shape.0 ≡ from → Stands state.ids a.id v → Computes m input whole (converted_value to v, state.choices) state before (converted_from from to a)
      from_to Boolean Boolean state before e stands = as_it_stands Boolean state before stands (truth_kept is.words (subst (λ s. AreWords s is.words) e is.fits))
        where
          truth_kept : (ws : List ℕ) → AreWords Boolean ws → map (converted_word Boolean) ws ≡ ws
          truth_kept [] fits = refl
          truth_kept (zero ∷ ws) fits = ap (λ l. 0 ∷ l) (truth_kept ws fits.1)
          truth_kept (suc zero ∷ ws) fits = ap (λ l. 1 ∷ l) (truth_kept ws fits.1)
          truth_kept (suc (suc w) ∷ ws) fits = absurd (let less : suc (suc w) < 2 = ltb-true (suc (suc w)) 2 fits.0 in omega (arith, less))
      from_to Boolean Int state before e stands = numbered_does Int state before stands (subst (λ s. AreWords s is.words) e is.fits) refl refl (map_same is.words)
      from_to Boolean Uint state before e stands = numbered_does Uint state before stands (subst (λ s. AreWords s is.words) e is.fits) refl refl (map_same is.words)
      from_to Int Boolean state before e stands = tested_does state before stands (ap (λ s. converted_word s 0) e)
      from_to Int Int state before e stands = as_it_stands Int state before stands (map_same is.words)
      from_to Int Uint state before e stands = recast_does Uint state before stands (map_same is.words)
      from_to Uint Boolean state before e stands = tested_does state before stands (ap (λ s. converted_word s 0) e)
      from_to Uint Int state before e stands = recast_does Int state before stands (map_same is.words)
      from_to Uint Uint state before e stands = as_it_stands Uint state before stands (map_same is.words)

      pub converted_computes : (to : Scalar) (state : State) (before : Sections) → Stands state.ids a.id v → Computes m input whole (converted_value to v, state.choices) state before (converted to a)
      unfolding converted
      converted_computes to state before stands = from_to a.shape.0 to state before refl stands
