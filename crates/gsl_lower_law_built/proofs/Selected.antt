-- `?:` where both values may be evaluated: one of two scalars is selected, and no block ends.
use Rattle.std.proofs.Common.{◌≡◌, ◌≢◌, refl, sym, ap, ◌∙◌, subst, ℕ, Bool, true, false, ◌==◌, List, [], ◌∷◌, if◌then◌else◌}
use Rattle.std.proofs.lemmas.Bool.{false≢true}
use Rattle.gsl_base.specs.declared.input.Input.{Input}
use Rattle.gsl_types.specs.declared.ty.Scalar.{Scalar}
use Rattle.gsl_types.specs.declared.ty.StructType.{StructType}
use Rattle.gsl_types.specs.declared.ty.Ty.TheOpen.{Ty-F}
use Rattle.gsl_types.specs.declared.ty.Ty.TheVariants.{One, Void, outs-One, outs-Void}
use Rattle.gsl_types.specs.declared.ty.Ty.TheViews.{out-Ty}
use Rattle.gsl_words.specs.declared.module.Module.{Module}
use Rattle.gsl_values.specs.declared.function.Builtin.TheVariants.{Mix}
use Rattle.gsl_values.specs.Functions.{builtin_answer}
use Rattle.gsl_values.specs.declared.value.Value.{Value}
use Rattle.gsl_values.specs.declared.value.Value.TheOpen.{Value-F}
use Rattle.gsl_values.specs.declared.value.Value.TheVariants.{Word, rolls-Word, outs-Word}
use Rattle.gsl_values.specs.declared.value.Value.TheViews.{out-Value, roll-Value, roll-out-Value}
use Rattle.gsl_tree.specs.Around.{Around}
use Rattle.gsl_tree.specs.Expressions.{boolean}
use Rattle.gsl_tree.specs.Operations.{builtin_value, builtin_words}
use Rattle.gsl_tree.specs.Values.{components_in, is_scalar_layer, is_value_of, word_in, word_layer}
use Rattle.gsl_tree.specs.declared.program.Program.{Program}
use Rattle.gsl_tree.proofs.Nodes.{value_of_one}
use Rattle.gsl_meaning.specs.Running.{Got, Run, given as shader_given}
use Rattle.gsl_meaning.specs.Running as shader_run
use Rattle.gsl_meaning.specs.State as shader
use Rattle.gsl_machine.specs.State.{State}
use Rattle.gsl_spv.specs.Sections.{Sections}
use Rattle.gsl_lower_values.specs.Operators.{selected}
use Rattle.gsl_lower_law.specs.Computing.{Computes}
use Rattle.gsl_lower_law.specs.Values.{Stands}
use Rattle.gsl_lower_law.proofs.Components.{components_of}
use Rattle.gsl_lower_law_operators.proofs.Straights.{selected_computes}
use Rattle.gsl_lower_holders.specs.Flow.{Emit, Flow, lift, ◌>>=◌}
use Rattle.gsl_lower_expr.specs.Parts.{Lower, picked_one, shape_or}
use Rattle.gsl_lower_follows.specs.Frames.{AreTyped, Frame, Good}
use Rattle.gsl_lower_follows.specs.Giving.{Adds, Does, GivesValue, HasGiven, none_waits}
use Rattle.gsl_lower_follows.proofs.Doing.{does_then}
use Rattle.gsl_lower_follows.proofs.Drawn.{computed_given}
use Rattle.gsl_lower_follows.proofs.Growing.{adds_lift, adds_then}
use Rattle.gsl_lower_follows.proofs.Holding.{does_so}
use Rattle.gsl_lower_law_expr.specs.Known.{IsQuiet, choice_means, choice_value}
use Rattle.gsl_lower_law_expr.proofs.Logic.{real_boolean, truth_of}
use Rattle.gsl_lower_law_expr.proofs.Operands.{given_behind, given_value}
use Rattle.gsl_lower_law_expr.proofs.Steps.{always_selected}
use Rattle.gsl_lower_law_built.proofs.Together.{none_more}

-- ---- scalars

-- a scalar is one word
scalar_is : (structs : List StructType) (s : Scalar) (v : Value) → is_value_of structs (One s) v ≡ true → v ≡ Word (word_in v)
scalar_is structs s v typed = by (out-Value v) (roll-out-Value v) (sym (value_of_one structs s v) ∙ typed)
  where
    by : (layer : Value-F Value) → roll-Value layer ≡ v → is_scalar_layer s layer ≡ true → v ≡ Word (word_in v)
    by (Value-F.Word word) e fits =
        let w : v ≡ Word word = sym e ∙ rolls-Word word in
        w ∙ ap Word (sym (ap word_in w ∙ ap word_layer (outs-Word word)))
    by (Value-F.Many parts) e fits = absurd (false≢true fits)

real_one : (s : Scalar) → One s ≢ Void
real_one s e = absurd (let z : Ty-F.One s ≡ Ty-F.Void = sym (outs-One s) ∙ ap out-Ty e ∙ outs-Void in cc)

-- the value that a condition chooses
abbrev chosen : Value → Value → Value → Value
chosen truth v w = if word_in truth == 0 then w else v

words_mixed : (a b c : ℕ) → (builtin_words Mix false ((a ∷ []) ∷ (b ∷ []) ∷ (c ∷ []) ∷ []) []).0 ≡ Word (if c == 0 then a else b)
unfolding builtin_answer
words_mixed a b c = refl

mixed : (a b c : ℕ) → (builtin_value Mix false (Word a ∷ Word b ∷ Word c ∷ []) []).0 ≡ Word (if c == 0 then a else b)
mixed a b c =
    ap (λ x. (builtin_words Mix false (x ∷ components_in (Word b) ∷ components_in (Word c) ∷ []) []).0) (components_of (a ∷ []))
    ∙ ap (λ x. (builtin_words Mix false ((a ∷ []) ∷ x ∷ components_in (Word c) ∷ []) []).0) (components_of (b ∷ []))
    ∙ ap (λ x. (builtin_words Mix false ((a ∷ []) ∷ (b ∷ []) ∷ x ∷ []) []).0) (components_of (c ∷ []))
    ∙ words_mixed a b c

-- what is selected of two scalars is the one that the condition chooses
mix_chooses : (v w z : Value) → v ≡ Word (word_in v) → w ≡ Word (word_in w) → z ≡ Word (word_in z) → (builtin_value Mix false (w ∷ v ∷ z ∷ []) []).0 ≡ chosen z v w
mix_chooses v w z v_is w_is z_is =
    ap (λ x. (builtin_value Mix false (x ∷ v ∷ z ∷ []) []).0) w_is
    ∙ ap (λ x. (builtin_value Mix false (Word (word_in w) ∷ x ∷ z ∷ []) []).0) v_is
    ∙ ap (λ x. (builtin_value Mix false (Word (word_in w) ∷ Word (word_in v) ∷ x ∷ []) []).0) z_is
    ∙ mixed (word_in w) (word_in v) (word_in z)
    ∙ by (word_in z == 0)
  where
    by : (none : Bool) → Word (if none then word_in w else word_in v) ≡ (if none then w else v)
    by true = sym w_is
    by false = sym v_is

module _ (m : Module) (input : Input) (whole : Sections) (f : Frame m input whole) (p : Program) (around : Around) (s : Scalar) (first second : Emit ℕ) (x y : Run Value)
    (quiet_x : IsQuiet (AreTyped m input whole f p around) (is_value_of p.structs (One s)) x) (quiet_y : IsQuiet (AreTyped m input whole f p around) (is_value_of p.structs (One s)) y)
    (gives_x : GivesValue m input whole f p around false (One s) first x) (gives_y : GivesValue m input whole f p around false (One s) second y) where
  abbrev select_last : ℕ → ℕ → ℕ → Emit ℕ
  select_last i j k = lift (selected (shape_or (One s)) i j k)

  abbrev then_second : ℕ → ℕ → Emit ℕ
  then_second i j = second >>= select_last i j

  abbrev then_both : ℕ → Emit ℕ
  then_both i = first >>= then_second i

  abbrev second_value : Value → Value → Run Value
  second_value truth v = shader_run.◌>>=◌ y (λ w. shader_given (chosen truth v w))

  adds_last : (i j k : ℕ) → Adds (select_last i j k)
  adds_last i j k = adds_lift (selected (shape_or (One s)) i j k) (λ b. always_selected m input whole (shape_or (One s)) i j k b.sections)

  adds_second : (i j : ℕ) → Adds (then_second i j)
  adds_second i j = adds_then second (select_last i j) gives_y.adds (adds_last i j)

  pub adds_both : (i : ℕ) → Adds (then_both i)
  adds_both i = adds_then first (then_second i) gives_x.adds (adds_second i)

  -- both values are there, and one is chosen
  both_there : (truth : Value) (t : shader.State) (units : ℕ) → AreTyped m input whole f p around t → choice_value x y truth t units ≡ shader_run.◌>>=◌ x (second_value truth) t units
  both_there truth t units are =
      let q = quiet_x.gives t units are in
      let r = quiet_y.gives t units are in
      by (word_in truth == 0) q.0 r.0 q.1 r.1 ∙ ap (λ ran. shader_run.behind ran (λ w. shader_given (chosen truth q.0 w))) (sym r.1) ∙ ap (λ ran. shader_run.behind ran (second_value truth)) (sym q.1)
    where
      by : (none : Bool) (v w : Value) → x t units ≡ Got v t units → y t units ≡ Got w t units → (if none then y else x) t units ≡ Got (if none then w else v) t units
      by true v w is_v is_w = is_w
      by false v w is_v is_w = is_v

  chosen_typed : (none : Bool) (v w : Value) → is_value_of p.structs (One s) v ≡ true → is_value_of p.structs (One s) w ≡ true → is_value_of p.structs (One s) (if none then w else v) ≡ true
  chosen_typed true v w typed_v typed_w = typed_w
  chosen_typed false v w typed_v typed_w = typed_v

  last_does : (i j k : ℕ) (truth v w : Value) (b : Flow) (t : shader.State) (units : ℕ) (state : State) → Good m input whole f p around b t state → truth ≡ Word (word_in truth) → is_value_of p.structs (One s) v ≡ true → is_value_of p.structs (One s) w ≡ true
      → Stands state.ids i truth → Stands state.ids j v → Stands state.ids k w → Does m input whole f p 0 units state (HasGiven m input whole f p around false (One s) b state) none_waits (shader_given (chosen truth v w) t units) (select_last i j k b)
  last_does i j k truth v w b t units state good is typed_v typed_w stands_i stands_j stands_k =
      computed_given m input whole f p around (One s) (λ choices. (chosen truth v w, choices)) (selected (shape_or (One s)) i j k) (λ b. always_selected m input whole (shape_or (One s)) i j k b.sections) (λ choices are. record { typed = chosen_typed (word_in truth == 0) v w typed_v typed_w; left = are }) b t units state good
      (subst (λ value. Computes m input whole (value, state.choices) state b.sections (selected (shape_or (One s)) i j k)) (mix_chooses v w truth (scalar_is p.structs s v typed_v) (scalar_is p.structs s w typed_w) is)
      (selected_computes m input whole (shape_or (One s)) i j k truth v w state b.sections stands_i stands_j stands_k))

  -- from the second value on
  second_does : (i j : ℕ) (truth v : Value) (b : Flow) (t : shader.State) (units : ℕ) (state : State) → Good m input whole f p around b t state → truth ≡ Word (word_in truth) → is_value_of p.structs (One s) v ≡ true → Stands state.ids i truth → Stands state.ids j v
      → Does m input whole f p 0 units state (HasGiven m input whole f p around false (One s) b state) none_waits (second_value truth v t units) (then_second i j b)
  second_does i j truth v b t units state good is typed_v stands_i stands_j =
      does_then m input whole f p 0 units b state (HasGiven m input whole f p around false (One s) b state) none_waits (HasGiven m input whole f p around false (One s) b state) none_waits (y t units) (λ w. shader_given (chosen truth v w)) (second b) (select_last i j) good.inside (gives_y.adds b) (adds_last i j)
      (gives_y.does b t units state good)
      (λ k b1 w u left mid inside grown g less.
      let real = given_value m input whole f p around mid.ids k (One s) w (real_one s) g.given in
      does_so m input whole f p around 0 left mid (HasGiven m input whole f p around false (One s) b1 mid) (HasGiven m input whole f p around false (One s) b state) (shader_given (chosen truth v w) u left) (select_last i j k b1)
      (λ id later z r last h. given_behind m input whole f p around false false false (One s) b b1 later state mid last u r id z (λ e. e) grown g.after h)
      (last_does i j k truth v w b1 u left mid g.after.good is typed_v real.0 ((g.after.ids refl).same i _ stands_i) ((g.after.ids refl).same j _ stands_j) real.1))
      (λ k b1 u left mid inside grown none less. absurd none)

  -- from the first value on
  pub both_do : (i : ℕ) (truth : Value) (b : Flow) (t : shader.State) (units : ℕ) (state : State) → Good m input whole f p around b t state → truth ≡ Word (word_in truth) → Stands state.ids i truth
      → Does m input whole f p 0 units state (HasGiven m input whole f p around false (One s) b state) none_waits (choice_value x y truth t units) (then_both i b)
  both_do i truth b t units state good is stands_i =
      subst (λ ran. Does m input whole f p 0 units state (HasGiven m input whole f p around false (One s) b state) none_waits ran (then_both i b)) (sym (both_there truth t units good.typed))
      (does_then m input whole f p 0 units b state (HasGiven m input whole f p around false (One s) b state) none_waits (HasGiven m input whole f p around false (One s) b state) none_waits (x t units) (second_value truth) (first b) (then_second i) good.inside (gives_x.adds b) (adds_second i)
      (gives_x.does b t units state good)
      (λ j b1 v u left mid inside grown g less.
      let real = given_value m input whole f p around mid.ids j (One s) v (real_one s) g.given in
      does_so m input whole f p around 0 left mid (HasGiven m input whole f p around false (One s) b1 mid) (HasGiven m input whole f p around false (One s) b state) (second_value truth v u left) (then_second i j b1)
      (λ id later z r last h. given_behind m input whole f p around false false false (One s) b b1 later state mid last u r id z (λ e. e) grown g.after h)
      (second_does i j truth v b1 u left mid g.after.good is real.0 ((g.after.ids refl).same i _ stands_i) real.1))
      (λ j b1 u left mid inside grown none less. absurd none))

module _ (m : Module) (input : Input) (whole : Sections) (f : Frame m input whole) (p : Program) (around : Around) where
  -- One of two scalars that are both there, by a condition.
  pub selected_gives : (s : Scalar) (test a b : Lower) (c x y : Run Value) → test.ty ≡ boolean → a.ty ≡ One s → b.ty ≡ One s → a.traits.splits ≡ false → b.traits.splits ≡ false
      → IsQuiet (AreTyped m input whole f p around) (is_value_of p.structs (One s)) x → IsQuiet (AreTyped m input whole f p around) (is_value_of p.structs (One s)) y
      → GivesValue m input whole f p around test.traits.splits test.ty test.value c → GivesValue m input whole f p around a.traits.splits a.ty a.value x → GivesValue m input whole f p around b.traits.splits b.ty b.value y
      → GivesValue m input whole f p around test.traits.splits (One s) (picked_one (One s) test a b) (choice_means c x y)
  selected_gives s test a b c x y of_test of_a of_b one_a one_b quiet_x quiet_y gives_test gives_a gives_b = record {
    adds = adds_then test.value go gives_test.adds adds_go;
    does = λ b0 t units state good.
        does_then m input whole f p 0 units b0 state (HasGiven m input whole f p around test.traits.splits test.ty b0 state) none_waits (HasGiven m input whole f p around test.traits.splits (One s) b0 state) none_waits (c t units) (choice_value x y) (test.value b0) go good.inside (gives_test.adds b0) adds_go
        (gives_test.does b0 t units state good)
        (λ i b1 truth u left mid inside grown g less.
        let real = given_value m input whole f p around mid.ids i test.ty truth (subst (λ t. t ≢ Void) (sym of_test) real_boolean) g.given in
        does_so m input whole f p around 0 left mid (HasGiven m input whole f p around false (One s) b1 mid) (HasGiven m input whole f p around test.traits.splits (One s) b0 state) (choice_value x y truth u left) (go i b1)
        (λ id later z r last h. given_behind m input whole f p around test.traits.splits false test.traits.splits (One s) b0 b1 later state mid last u r id z (none_more test.traits.splits) grown g.after h)
        (both_do m input whole f p around s a.value b.value x y quiet_x quiet_y first second i truth b1 u left mid g.after.good (truth_of p.structs truth (subst (λ t. is_value_of p.structs t truth ≡ true) of_test real.0)).is real.1))
        (λ i b1 u left mid inside grown none less. absurd none);
  }
    where
      first : GivesValue m input whole f p around false (One s) a.value x
      first = subst (λ t. GivesValue m input whole f p around false t a.value x) of_a (subst (λ splits. GivesValue m input whole f p around splits a.ty a.value x) one_a gives_a)

      second : GivesValue m input whole f p around false (One s) b.value y
      second = subst (λ t. GivesValue m input whole f p around false t b.value y) of_b (subst (λ splits. GivesValue m input whole f p around splits b.ty b.value y) one_b gives_b)

      go : ℕ → Emit ℕ
      go i = then_both m input whole f p around s a.value b.value x y quiet_x quiet_y first second i

      adds_go : (i : ℕ) → Adds (go i)
      adds_go i = adds_both m input whole f p around s a.value b.value x y quiet_x quiet_y first second i
