-- Built-in functions of one argument, and of the set of GLSL.
use Rattle.std.proofs.Common.{◌≡◌, refl, sym, ap, ◌∙◌, subst, ℕ, Bool, true, false, List, [], ◌∷◌, length, Option, Some, None}
use Rattle.gsl_base.specs.declared.input.Input.{Input}
use Rattle.gsl_instr.specs.Forms.{form_of}
use Rattle.gsl_instr.specs.declared.enumerant.glsl_std_450.TheConstants as extended
use Rattle.gsl_instr.specs.declared.form.Form.TheVariants as form
use Rattle.gsl_instr.specs.declared.op.TheConstants as op
use Rattle.gsl_types.specs.declared.ty.Scalar.{Scalar}
use Rattle.gsl_types.specs.declared.ty.Scalar.TheVariants.{Bool as Boolean, Int, Uint}
use Rattle.gsl_words.specs.declared.module.Module.{Module}
use Rattle.gsl_values.specs.declared.function.Builtin.{Builtin}
use Rattle.gsl_values.specs.declared.function.Builtin.TheVariants as f
use Rattle.gsl_values.specs.declared.value.Value.{Value}
use Rattle.gsl_tree.specs.Operations.{Given, builtin_each, builtin_value, is_signed_scalar, of_words}
use Rattle.gsl_tree.specs.Shapes.{Shape, built_one as shape_of_one, is_int}
use Rattle.gsl_tree.specs.Values.{components_in}
use Rattle.gsl_machine.specs.Operations.{extend as extended_value, unary as one_operand}
use Rattle.gsl_machine.specs.State.{State, giving_value}
use Rattle.gsl_spv.specs.Calls as call
use Rattle.gsl_spv.specs.Sections.{Sections}
use Rattle.gsl_spv.proofs.Extending.{extends_glsl_set}
use Rattle.gsl_lower_values.specs.Building.{giving, id_by, ◌>>=◌}
use Rattle.gsl_lower_values.specs.Builtins.{as_type, built_one, extend}
use Rattle.gsl_lower_values.specs.Operators.{by_sign}
use Rattle.gsl_lower_values.specs.Types.{type_of}
use Rattle.gsl_lower_values.specs.declared.operand.Operand.{Operand}
use Rattle.gsl_lower_law.specs.Values.{IsOf, Stands, StandEach}
use Rattle.gsl_lower_law.specs.Computing.{Computes, Does, Grows}
use Rattle.gsl_lower_law_calls.proofs.Calls.{Steady, Unsigned, each_steady, each_unsigned, one_each}
use Rattle.gsl_lower_law_calls.proofs.Facts.{int_signed, not_is, steady_abs, steady_count, steady_lsb, steady_msb, steady_reverse, steady_sign, unsigned_count, unsigned_lsb, unsigned_reverse, when_is}
use Rattle.gsl_lower_law.proofs.Gathers.{all_there, keep_each}
use Rattle.gsl_lower_law.proofs.Giving.{Performs}
use Rattle.gsl_lower_law.proofs.Joining.{does_then, grows_then}
use Rattle.gsl_lower_law.proofs.Plain.{Any, asking_does}
use Rattle.gsl_lower_law.proofs.Typed.{typed_does, typed_grows}
use Rattle.gsl_lower_law.proofs.Unaries.{one_performs}

module _ (m : Module) (input : Input) where
  extends_performs : (number set : ℕ) (operands : List ℕ) (vs : List Value) (type : ℕ) (state : State) → StandEach state.ids operands vs
      → Performs m input op.EXT_INST (set ∷ number ∷ operands) type state (extended_value number vs) state.choices
  unfolding form_of
  extends_performs number set operands vs type state stand = record {
    gives = λ id. refl;
    named = λ id. refl;
    done = λ id at rest. all_there (record state { rest = rest }) operands vs (λ vs. giving_value (record state { rest = rest }) id (extended_value number vs)) stand;
  }

  module _ (whole : Sections) where
    set_functions : (s : Sections) → (call.glsl_set s).sections.functions ≡ s.functions
    set_functions s = by (call.imported s.imports)
      where
        by : (found : Option ℕ) → (call.with_import found s).sections.functions ≡ s.functions
        by None = refl
        by (Some id) = refl

    set_does : (state : State) (before : Sections) → Does m input whole (Any m input whole) state.choices state before (id_by call.glsl_set)
    set_does state before = asking_does m input whole (Any m input whole) call.glsl_set state before (extends_glsl_set before) (set_functions before) (λ inside text lasting. tt)

    pub extend_grows : (number : ℕ) (operands : List ℕ) (shape : Shape) (state : State) (before : Sections) → Grows before (extend number operands shape before)
    unfolding extend
    extend_grows number operands shape state before =
        grows_then m input whole before (id_by call.glsl_set before) (λ set. type_of shape >>= giving op.EXT_INST (set ∷ number ∷ operands)) (set_does state before).grows
        (λ set between. typed_grows m input whole shape op.EXT_INST (set ∷ number ∷ operands) state between)

    -- what an extended instruction gives
    pub extend_computes : (number : ℕ) (operands : List ℕ) (shape : Shape) (vs : List Value) (answer : Value) (state : State) (before : Sections) → extended_value number vs ≡ answer → StandEach state.ids operands vs
        → Computes m input whole (answer, state.choices) state before (extend number operands shape)
    unfolding extend
    extend_computes number operands shape vs answer state before is stand =
        does_then m input whole (Any m input whole) (λ id ids. Stands ids id answer) state.choices state.choices state before (id_by call.glsl_set) (λ set. type_of shape >>= giving op.EXT_INST (set ∷ number ∷ operands)) (set_does state before)
        (λ set between. typed_grows m input whole shape op.EXT_INST (set ∷ number ∷ operands) state between)
        (λ set between ids any keeps.
        typed_does m input whole shape op.EXT_INST (set ∷ number ∷ operands) answer state.choices (record state { ids = ids }) between
        (λ type later more typed text. subst (λ w. Performs m input op.EXT_INST (set ∷ number ∷ operands) type (record state { ids = later }) w state.choices) is
        (extends_performs number set operands vs type (record state { ids = later }) (keep_each ids later more operands vs (keep_each state.ids ids keeps operands vs stand)))))

    -- what an instruction of one operand gives
    one_computes : (code : ℕ) (shape : Shape) (a : ℕ) (v : Value) (answer : Value) (state : State) (before : Sections) → form_of code ≡ Some form.Unary → one_operand code v ≡ answer → Stands state.ids a v
        → Computes m input whole (answer, state.choices) state before (as_type shape code (a ∷ []))
    one_computes code shape a v answer state before form is stands =
        typed_does m input whole shape code (a ∷ []) answer state.choices state before
        (λ type ids keeps typed text. subst (λ w. Performs m input code (a ∷ []) type (record state { ids = ids }) w state.choices) is (one_performs m input code type a v (record state { ids = ids }) form (keeps.same a _ stands)))

    -- a function that draws nothing
    pub steadily : (which : Builtin) → Steady which → (signed : Bool) (args : List (List ℕ)) (count : ℕ) (choices : List ℕ)
        → of_words (builtin_each which signed args count 0 choices) ≡ ((of_words (builtin_each which signed args count 0 [])).0, choices)
    steadily which steady signed args count choices = ap of_words (each_steady which steady signed args count 0 choices)

    -- and takes no account of signs
    pub plainly : (which : Builtin) → Steady which → Unsigned which → (signed : Bool) (args : List (List ℕ)) (count : ℕ) (choices : List ℕ)
        → of_words (builtin_each which signed args count 0 choices) ≡ ((of_words (builtin_each which false args count 0 [])).0, choices)
    plainly which steady unsigned signed args count choices = ap of_words (each_unsigned which unsigned signed args count 0 choices) ∙ steadily which steady false args count choices

    module _ (a : Operand) (v : Value) (is : IsOf a.shape v) (state : State) (before : Sections) (stands : Stands state.ids a.id v) where
      alone : StandEach state.ids (a.id ∷ []) (v ∷ [])
      alone = (stands, tt)

      abbrev pub words : List (List ℕ)
      words = components_in v ∷ []

      abbrev pub count : ℕ
      count = length (components_in v)

      of_int : (which : Builtin) (number : ℕ) → Steady which → is_int a.shape.0 ≡ true → extended_value number (v ∷ []) ≡ (of_words (builtin_each which true words count 0 [])).0
          → Computes m input whole (of_words (builtin_each which (is_signed_scalar a.shape.0) words count 0 state.choices)) state before (extend number (a.id ∷ []) a.shape)
      of_int which number steady int is =
          subst (λ (o : Given). Computes m input whole o state before (extend number (a.id ∷ []) a.shape))
          (sym (ap (λ s. of_words (builtin_each which s words count 0 state.choices)) (int_signed a.shape.0 int) ∙ steadily which steady true words count state.choices))
          (extend_computes number (a.id ∷ []) a.shape (v ∷ []) _ state before is alone)

      by_code : (which : Builtin) (code : ℕ) (shape : Shape) → Steady which → Unsigned which → form_of code ≡ Some form.Unary → one_operand code v ≡ (of_words (builtin_each which false words count 0 [])).0
          → Computes m input whole (of_words (builtin_each which (is_signed_scalar a.shape.0) words count 0 state.choices)) state before (as_type shape code (a.id ∷ []))
      by_code which code shape steady unsigned form is =
          subst (λ (o : Given). Computes m input whole o state before (as_type shape code (a.id ∷ []))) (sym (plainly which steady unsigned (is_signed_scalar a.shape.0) words count state.choices))
          (one_computes code shape a.id v _ state before form is stands)

      lowest : Computes m input whole (builtin_value f.FindLsb (is_signed_scalar a.shape.0) (v ∷ []) state.choices) state before (extend extended.FIND_I_LSB (a.id ∷ []) (Int, a.shape.1))
      lowest =
          subst (λ (o : Given). Computes m input whole o state before (extend extended.FIND_I_LSB (a.id ∷ []) (Int, a.shape.1))) (sym (plainly f.FindLsb steady_lsb unsigned_lsb (is_signed_scalar a.shape.0) words count state.choices))
          (extend_computes extended.FIND_I_LSB (a.id ∷ []) (Int, a.shape.1) (v ∷ []) (of_words (builtin_each f.FindLsb false words count 0 [])).0 state before refl alone)

      highest : (s : Scalar) → Computes m input whole (builtin_value f.FindMsb (is_signed_scalar s) (v ∷ []) state.choices) state before (extend (by_sign s extended.FIND_S_MSB extended.FIND_U_MSB) (a.id ∷ []) (Int, a.shape.1))
      highest s =
          subst (λ (o : Given). Computes m input whole o state before (extend (by_sign s extended.FIND_S_MSB extended.FIND_U_MSB) (a.id ∷ []) (Int, a.shape.1))) (sym (steadily f.FindMsb steady_msb (is_signed_scalar s) words count state.choices))
          (extend_computes (by_sign s extended.FIND_S_MSB extended.FIND_U_MSB) (a.id ∷ []) (Int, a.shape.1) (v ∷ []) _ state before (by s) alone)
        where
          by : (s : Scalar) → extended_value (by_sign s extended.FIND_S_MSB extended.FIND_U_MSB) (v ∷ []) ≡ (of_words (builtin_each f.FindMsb (is_signed_scalar s) words count 0 [])).0
          by Boolean = refl
          by Int = refl
          by Uint = refl

      inverted : Computes m input whole (builtin_value f.Not (is_signed_scalar a.shape.0) (v ∷ []) state.choices) state before (as_type a.shape op.LOGICAL_NOT (a.id ∷ []))
      unfolding form_of
      inverted =
          subst (λ (o : Given). Computes m input whole o state before (as_type a.shape op.LOGICAL_NOT (a.id ∷ []))) (sym (ap of_words (one_each f.Not (is_signed_scalar a.shape.0) _ (not_is (is_signed_scalar a.shape.0)) (components_in v) state.choices)))
          (one_computes op.LOGICAL_NOT a.shape a.id v _ state before refl refl stands)

      -- a built-in function of one argument
      pub built_one_computes : (which : Builtin) (shape : Shape) → shape_of_one which a.shape ≡ Some shape → Computes m input whole (builtin_value which (is_signed_scalar a.shape.0) (v ∷ []) state.choices) state before (built_one which a)
      unfolding built_one form_of
      built_one_computes f.Abs shape e = of_int f.Abs extended.S_ABS steady_abs (when_is (is_int a.shape.0) a.shape shape e) refl
      built_one_computes f.Sign shape e = of_int f.Sign extended.S_SIGN steady_sign (when_is (is_int a.shape.0) a.shape shape e) refl
      built_one_computes f.Any shape e = one_computes op.ANY _ a.id v _ state before refl refl stands
      built_one_computes f.All shape e = one_computes op.ALL _ a.id v _ state before refl refl stands
      built_one_computes f.Not shape e = inverted
      built_one_computes f.BitCount shape e = by_code f.BitCount op.BIT_COUNT (Int, a.shape.1) steady_count unsigned_count refl refl
      built_one_computes f.FindLsb shape e = lowest
      built_one_computes f.FindMsb shape e = highest a.shape.0
      built_one_computes f.BitfieldReverse shape e = by_code f.BitfieldReverse op.BIT_REVERSE a.shape steady_reverse unsigned_reverse refl refl
      built_one_computes f.Min shape e = absurd cc
      built_one_computes f.Max shape e = absurd cc
      built_one_computes f.Clamp shape e = absurd cc
      built_one_computes f.Mix shape e = absurd cc
      built_one_computes f.LessThan shape e = absurd cc
      built_one_computes f.LessThanEqual shape e = absurd cc
      built_one_computes f.GreaterThan shape e = absurd cc
      built_one_computes f.GreaterThanEqual shape e = absurd cc
      built_one_computes f.Equal shape e = absurd cc
      built_one_computes f.NotEqual shape e = absurd cc
      built_one_computes f.BitfieldExtract shape e = absurd cc
      built_one_computes f.BitfieldInsert shape e = absurd cc
