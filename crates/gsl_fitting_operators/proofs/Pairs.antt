-- Operators on two scalars or vectors.
use Rattle.std.proofs.Common.{◌≡◌, ℕ, Bool, true, false, cond, ◌&&◌, List, [], ◌∷◌, max, Some, refl, sym, ◌∙◌, subst, ◌⊎◌, inl, inr, arith}
use Rattle.std.specs.Prelude.{◌==◌}
use Rattle.std.proofs.lemmas.Bool.{and_from, eqb-true, true≢false}
use Rattle.gsl_instr.specs.Forms.{form_of}
use Rattle.gsl_instr.specs.declared.op.TheConstants as op
use Rattle.gsl_instr.specs.declared.form.Form.TheVariants as form
use Rattle.gsl_types.specs.declared.ty.Scalar.{Scalar}
use Rattle.gsl_types.specs.declared.ty.Scalar.TheVariants.{Bool as Boolean, Int, Uint}
use Rattle.gsl_values.specs.declared.op.BinaryOp.{BinaryOp}
use Rattle.gsl_values.specs.declared.op.BinaryOp.TheVariants.{Add, Sub, Mul, Div, Mod, Shl, Shr, And, Or, Xor, Less, LessEq, Greater, GreaterEq, Equal, Unequal}
use Rattle.gsl_tree.specs.Shapes.{Shape, flag, is_boolean, is_integer}
use Rattle.gsl_tree.specs.declared.expr.LogicOp.{LogicOp}
use Rattle.gsl_tree.specs.declared.expr.LogicOp.TheVariants as logic
use Rattle.gsl_tree.specs.declared.expr.StepOp.{StepOp}
use Rattle.gsl_tree.specs.declared.expr.StepOp.TheVariants.{PreUp, PreDown, PostUp, PostDown}
use Rattle.gsl_words.specs.declared.module.Module.{Module}
use Rattle.gsl_valid.specs.Ids.{result}
use Rattle.gsl_valid.specs.Instruction.{read}
use Rattle.gsl_valid.specs.Kinds.{shape_of}
use Rattle.gsl_valid.specs.OperandRules as rules
use Rattle.gsl_valid.specs.Types.{bool_type, defined_as}
use Rattle.gsl_spv.specs.Declarations.{instr}
use Rattle.gsl_spv.specs.Sections.{Sections}
use Rattle.gsl_lower_law.specs.Operands.{Beside, Fit}
use Rattle.gsl_lower_values.specs.Building.{behind, given as give, giving}
use Rattle.gsl_lower_values.specs.Operators as operators
use Rattle.gsl_lower_values.specs.Operators.{binary_code, given_scalar, logic_code, step_code}
use Rattle.gsl_lower_values.specs.Types as types
use Rattle.gsl_lower_values.specs.declared.operand.Operand.{Operand}
use Rattle.gsl_fitting.specs.Fits.{Frame}
use Rattle.gsl_fitting_operators.specs.Operands.{Suits, pair_shape}
use Rattle.gsl_fitting_types.specs.Making.{AreSorted, IsConstant, IsSized, IsTypeOf, Sorts, Stands, made}
use Rattle.gsl_fitting_operators.proofs.Composites.{vector_at}
use Rattle.gsl_fitting_operators.proofs.Forms.{arithmetic_stands, comparison_stands, logical_stands, select_stands, shift_stands, signed_ints, truths, unary_stands}
use Rattle.gsl_fitting_types.proofs.Knowing.{scalar_type_is, vector_type_is}
use Rattle.gsl_fitting_operators.proofs.Operators.{Fits, Gives, Value, fixed_value, spread_fits, spread_sorts, typed_comes, typed_sorts, value_later}
use Rattle.gsl_fitting_types.proofs.Sorting.{sorts_then, stays_same}
use Rattle.gsl_fitting_types.proofs.Stepping.{comes_then, given_comes}
use Rattle.gsl_fitting_types.proofs.Types.{filled_constant_comes, filled_constant_sorts}

-- ---- they sort

pub binary_named : (which : BinaryOp) (s : Scalar) (type id x y : ℕ) → result (read (instr (binary_code which s) (type ∷ id ∷ x ∷ y ∷ []))) ≡ Some id
unfolding form_of
binary_named Add s type id x y = refl
binary_named Sub s type id x y = refl
binary_named Mul s type id x y = refl
binary_named Div Boolean type id x y = refl
binary_named Div Int type id x y = refl
binary_named Div Uint type id x y = refl
binary_named Mod Boolean type id x y = refl
binary_named Mod Int type id x y = refl
binary_named Mod Uint type id x y = refl
binary_named Shl s type id x y = refl
binary_named Shr Boolean type id x y = refl
binary_named Shr Int type id x y = refl
binary_named Shr Uint type id x y = refl
binary_named And s type id x y = refl
binary_named Or s type id x y = refl
binary_named Xor s type id x y = refl
binary_named Less Boolean type id x y = refl
binary_named Less Int type id x y = refl
binary_named Less Uint type id x y = refl
binary_named LessEq Boolean type id x y = refl
binary_named LessEq Int type id x y = refl
binary_named LessEq Uint type id x y = refl
binary_named Greater Boolean type id x y = refl
binary_named Greater Int type id x y = refl
binary_named Greater Uint type id x y = refl
binary_named GreaterEq Boolean type id x y = refl
binary_named GreaterEq Int type id x y = refl
binary_named GreaterEq Uint type id x y = refl
binary_named Equal Boolean type id x y = refl
binary_named Equal Int type id x y = refl
binary_named Equal Uint type id x y = refl
binary_named Unequal Boolean type id x y = refl
binary_named Unequal Int type id x y = refl
binary_named Unequal Uint type id x y = refl

pub each_sorts : (which : BinaryOp) (a b : Operand) (s : Sections) → Sorts s (operators.each which a b s)
unfolding operators.each
each_sorts which a b s =
    let count = max a.shape.1 b.shape.1 in
    sorts_then s (operators.spread count a s) (λ x t. behind (operators.spread count b t) (λ y u. behind (types.type_of (given_scalar which a.shape.0, count) u) (giving (binary_code which a.shape.0) (x ∷ y ∷ [])))) (spread_sorts count a s)
    (λ x t. sorts_then t (operators.spread count b t) (λ y u. behind (types.type_of (given_scalar which a.shape.0, count) u) (giving (binary_code which a.shape.0) (x ∷ y ∷ []))) (spread_sorts count b t)
    (λ y u. typed_sorts (given_scalar which a.shape.0, count) (binary_code which a.shape.0) (x ∷ y ∷ []) u (λ type id. binary_named which a.shape.0 type id x y)))

joined_sorts : (which : BinaryOp) (count truths : ℕ) (s : Sections) → Sorts s (operators.joined which count truths s)
unfolding form_of
joined_sorts Equal count truths s = by (count == 1)
  where
    by : (b : Bool) → Sorts s ((cond b (give truths) (operators.joining op.ALL truths)) s)
    by true = stays_same s
    by false = typed_sorts flag op.ALL (truths ∷ []) s (λ type id. refl)
joined_sorts Unequal count truths s = by (count == 1)
  where
    by : (b : Bool) → Sorts s ((cond b (give truths) (operators.joining op.ANY truths)) s)
    by true = stays_same s
    by false = typed_sorts flag op.ANY (truths ∷ []) s (λ type id. refl)
joined_sorts _ count truths s = stays_same s

pub binary_sorts : (which : BinaryOp) (a b : Operand) (s : Sections) → Sorts s (operators.binary which a b s)
unfolding operators.binary
binary_sorts which a b s = sorts_then s (operators.each which a b s) (operators.joined which (max a.shape.1 b.shape.1)) (each_sorts which a b s) (λ truths t. joined_sorts which (max a.shape.1 b.shape.1) truths t)

logic_named : (which : LogicOp) (type id x y : ℕ) → result (read (instr (logic_code which) (type ∷ id ∷ x ∷ y ∷ []))) ≡ Some id
unfolding form_of
logic_named logic.And type id x y = refl
logic_named logic.Or type id x y = refl
logic_named logic.Xor type id x y = refl

pub logical_sorts : (which : LogicOp) (a b : ℕ) (s : Sections) → Sorts s (operators.logical which a b s)
unfolding operators.logical
logical_sorts which a b s = typed_sorts flag (logic_code which) (a ∷ b ∷ []) s (λ type id. logic_named which type id a b)

step_named : (which : StepOp) (type id x y : ℕ) → result (read (instr (step_code which) (type ∷ id ∷ x ∷ y ∷ []))) ≡ Some id
unfolding form_of
step_named PreUp type id x y = refl
step_named PreDown type id x y = refl
step_named PostUp type id x y = refl
step_named PostDown type id x y = refl

pub stepped_sorts : (which : StepOp) (a : Operand) (s : Sections) → Sorts s (operators.stepped which a s)
unfolding operators.stepped
stepped_sorts which a s =
    sorts_then s (types.filled_constant a.shape 1 s) (λ ones t. behind (types.type_of a.shape t) (giving (step_code which) (a.id ∷ ones ∷ []))) (filled_constant_sorts a.shape 1 s)
    (λ ones t. typed_sorts a.shape (step_code which) (a.id ∷ ones ∷ []) t (λ type id. step_named which type id a.id ones))

-- ---- they fit

module _ (whole : Sections) (main : ℕ) (local_size : List ℕ) (rank : ℕ → ℕ) (f : Frame) (sorted : AreSorted whole) where
  abbrev m : Module
  m = made whole main local_size rank f

  abbrev V : List ℕ → Shape → ℕ → Type 0
  V given shape id = Value whole main local_size rank f sorted given shape id

  as_same : (given : List ℕ) (s t : Scalar) (count id : ℕ) → s ≡ t → V given (t, count) id → V given (s, count) id
  as_same given s t count id same v = subst (λ k. V given (k, count) id) (sym same) v

  abbrev At : List ℕ → BinaryOp → Scalar → ℕ → ℕ → ℕ → Type 0
  At given which s type x y = Stands whole main local_size rank f given (binary_code which s) (x ∷ y ∷ []) type

  straight : (given : List ℕ) (code : ℕ) (s t : Scalar) (count type x y : ℕ) → form_of code ≡ Some form.Arithmetic → rules.is_signed m (rules.sign_of code) type ≡ true → (s ≡ t) × (is_integer s ≡ true) → IsTypeOf whole (s, count) type → V given (s, count) x → V given (t, count) y
      → Stands whole main local_size rank f given code (x ∷ y ∷ []) type
  straight given code s t count type x y is sign suits of v w =
      arithmetic_stands whole main local_size rank f sorted given code type x y (s, count) is suits.1 sign of v (as_same given s t count y suits.0 w)

  shifting : (given : List ℕ) (code : ℕ) (s t : Scalar) (count type x y : ℕ) → form_of code ≡ Some form.Shift → (is_integer s ≡ true) × (is_integer t ≡ true) → IsTypeOf whole (s, count) type → V given (s, count) x → V given (t, count) y
      → Stands whole main local_size rank f given code (x ∷ y ∷ []) type
  shifting given code s t count type x y is suits of v w = shift_stands whole main local_size rank f sorted given code type x y (s, count) (t, count) is suits.0 suits.1 refl of v w

  relating : (given : List ℕ) (code : ℕ) (s t : Scalar) (count type x y : ℕ) → form_of code ≡ Some form.Comparison → ((other : ℕ) → IsTypeOf whole (s, count) other → rules.is_signed m (rules.sign_of code) other ≡ true) → s ≡ t → is_integer s ≡ true → IsTypeOf whole (Boolean, count) type → V given (s, count) x
      → V given (t, count) y → Stands whole main local_size rank f given code (x ∷ y ∷ []) type
  relating given code s t count type x y is sign same integer of v w =
      comparison_stands whole main local_size rank f sorted given code type x y (Boolean, count) (s, count) is refl integer refl sign of v (as_same given s t count y same w)

  none_such : {A : Type 0} → is_integer Boolean ≡ true → A
  none_such e = absurd (true≢false (sym e))

  int_sign : (count type : ℕ) → IsTypeOf whole (Int, count) type → rules.is_signed m (rules.Only 1) type ≡ true
  int_sign count type of = signed_ints whole main local_size rank f sorted (Int, count) 1 type refl refl of

  uint_sign : (count type : ℕ) → IsTypeOf whole (Uint, count) type → rules.is_signed m (rules.Only 0) type ≡ true
  uint_sign count type of = signed_ints whole main local_size rank f sorted (Uint, count) 0 type refl refl of

  -- truth values are compared as such, and integers as numbers
  equals : (given : List ℕ) (which : BinaryOp) (s t : Scalar) (count type x y : ℕ) → s ≡ t → (which ≡ Equal) ⊎ (which ≡ Unequal) → IsTypeOf whole (Boolean, count) type → V given (s, count) x → V given (t, count) y → At given which s type x y
  unfolding form_of
  equals given which Boolean t count type x y same (inl is) of v w =
      subst (λ o. At given o Boolean type x y) (sym is) (logical_stands whole main local_size rank f sorted given op.LOGICAL_EQUAL type x y (Boolean, count) refl refl of v (as_same given Boolean t count y same w))
  equals given which Boolean t count type x y same (inr is) of v w =
      subst (λ o. At given o Boolean type x y) (sym is) (logical_stands whole main local_size rank f sorted given op.LOGICAL_NOT_EQUAL type x y (Boolean, count) refl refl of v (as_same given Boolean t count y same w))
  equals given which Int t count type x y same (inl is) of v w = subst (λ o. At given o Int type x y) (sym is) (relating given op.I_EQUAL Int t count type x y refl (λ other is. refl) same refl of v w)
  equals given which Int t count type x y same (inr is) of v w = subst (λ o. At given o Int type x y) (sym is) (relating given op.I_NOT_EQUAL Int t count type x y refl (λ other is. refl) same refl of v w)
  equals given which Uint t count type x y same (inl is) of v w = subst (λ o. At given o Uint type x y) (sym is) (relating given op.I_EQUAL Uint t count type x y refl (λ other is. refl) same refl of v w)
  equals given which Uint t count type x y same (inr is) of v w = subst (λ o. At given o Uint type x y) (sym is) (relating given op.I_NOT_EQUAL Uint t count type x y refl (λ other is. refl) same refl of v w)

  pub stands : (given : List ℕ) (which : BinaryOp) (s t : Scalar) (count type x y : ℕ) → Suits which s t → IsTypeOf whole (given_scalar which s, count) type → V given (s, count) x → V given (t, count) y → At given which s type x y
  unfolding form_of
  stands given Add s t count type x y suits of v w = straight given op.I_ADD s t count type x y refl refl suits of v w
  stands given Sub s t count type x y suits of v w = straight given op.I_SUB s t count type x y refl refl suits of v w
  stands given Mul s t count type x y suits of v w = straight given op.I_MUL s t count type x y refl refl suits of v w
  stands given And s t count type x y suits of v w = straight given op.BITWISE_AND s t count type x y refl refl suits of v w
  stands given Or s t count type x y suits of v w = straight given op.BITWISE_OR s t count type x y refl refl suits of v w
  stands given Xor s t count type x y suits of v w = straight given op.BITWISE_XOR s t count type x y refl refl suits of v w
  stands given Div Boolean t count type x y suits of v w = none_such suits.1
  stands given Div Int t count type x y suits of v w = straight given op.S_DIV Int t count type x y refl (int_sign count type of) suits of v w
  stands given Div Uint t count type x y suits of v w = straight given op.U_DIV Uint t count type x y refl (uint_sign count type of) suits of v w
  stands given Mod Boolean t count type x y suits of v w = none_such suits.1
  stands given Mod Int t count type x y suits of v w = straight given op.S_MOD Int t count type x y refl (int_sign count type of) suits of v w
  stands given Mod Uint t count type x y suits of v w = straight given op.U_MOD Uint t count type x y refl (uint_sign count type of) suits of v w
  stands given Shl s t count type x y suits of v w = shifting given op.SHIFT_LEFT_LOGICAL s t count type x y refl suits of v w
  stands given Shr Boolean t count type x y suits of v w = none_such suits.0
  stands given Shr Int t count type x y suits of v w = shifting given op.SHIFT_RIGHT_ARITHMETIC Int t count type x y refl suits of v w
  stands given Shr Uint t count type x y suits of v w = shifting given op.SHIFT_RIGHT_LOGICAL Uint t count type x y refl suits of v w
  stands given Less Boolean t count type x y suits of v w = none_such suits.1
  stands given Less Int t count type x y suits of v w = relating given op.S_LESS_THAN Int t count type x y refl (λ other is. int_sign count other is) suits.0 refl of v w
  stands given Less Uint t count type x y suits of v w = relating given op.U_LESS_THAN Uint t count type x y refl (λ other is. uint_sign count other is) suits.0 refl of v w
  stands given LessEq Boolean t count type x y suits of v w = none_such suits.1
  stands given LessEq Int t count type x y suits of v w = relating given op.S_LESS_THAN_EQUAL Int t count type x y refl (λ other is. int_sign count other is) suits.0 refl of v w
  stands given LessEq Uint t count type x y suits of v w = relating given op.U_LESS_THAN_EQUAL Uint t count type x y refl (λ other is. uint_sign count other is) suits.0 refl of v w
  stands given Greater Boolean t count type x y suits of v w = none_such suits.1
  stands given Greater Int t count type x y suits of v w = relating given op.S_GREATER_THAN Int t count type x y refl (λ other is. int_sign count other is) suits.0 refl of v w
  stands given Greater Uint t count type x y suits of v w = relating given op.U_GREATER_THAN Uint t count type x y refl (λ other is. uint_sign count other is) suits.0 refl of v w
  stands given GreaterEq Boolean t count type x y suits of v w = none_such suits.1
  stands given GreaterEq Int t count type x y suits of v w = relating given op.S_GREATER_THAN_EQUAL Int t count type x y refl (λ other is. int_sign count other is) suits.0 refl of v w
  stands given GreaterEq Uint t count type x y suits of v w = relating given op.U_GREATER_THAN_EQUAL Uint t count type x y refl (λ other is. uint_sign count other is) suits.0 refl of v w
  stands given Equal s t count type x y suits of v w = equals given Equal s t count type x y suits (inl refl) of v w
  stands given Unequal s t count type x y suits of v w = equals given Unequal s t count type x y suits (inr refl) of v w

  -- ---- counts of components

  abbrev Wide : ℕ → ℕ → Type 0
  Wide count n = (n ≡ count) ⊎ (n ≡ 1)

  both_wide : (which : BinaryOp) (a b : Shape) → IsSized a → IsSized b → Fit which a.1 b.1 → Wide (max a.1 b.1) a.1 × Wide (max a.1 b.1) b.1
  both_wide which a b x y fit = by (beside which fit)
    where
      beside : (which : BinaryOp) → Fit which a.1 b.1 → Beside a.1 b.1
      beside Equal fit = inl fit
      beside Unequal fit = inl fit
      beside _ fit = fit

      by : Beside a.1 b.1 → Wide (max a.1 b.1) a.1 × Wide (max a.1 b.1) b.1
      by (inl same) = (inl (omega (arith, same)), inl (omega (arith, same)))
      by (inr (inl one)) = let s = y.some in (inr one, inl (omega (arith, one, s)))
      by (inr (inr one)) = let s = x.some in (inl (omega (arith, one, s)), inr one)

  most_sized : (s : Scalar) (a b : Shape) → IsSized a → IsSized b → IsSized (s, max a.1 b.1)
  most_sized s a b x y = let p = x.some in let q = x.few in let u = y.some in let v = y.few in record { some = omega (arith, p, u); few = omega (arith, q, v) }

  pub each_fits : (given : List ℕ) (which : BinaryOp) (a b : Operand) (before : Sections) → IsSized a.shape → IsSized b.shape → Fit which a.shape.1 b.shape.1 → Suits which a.shape.0 b.shape.0 → V given a.shape a.id → V given b.shape b.id
      → Fits whole main local_size rank f sorted given (Gives whole main local_size rank f sorted (given_scalar which a.shape.0, max a.shape.1 b.shape.1)) before (operators.each which a b before)
  unfolding operators.each
  each_fits given which a b before x y fit suits v w =
      let count = max a.shape.1 b.shape.1 in
      let shape : Shape = (given_scalar which a.shape.0, count) in
      let wide = both_wide which a.shape b.shape x y fit in
      comes_then whole main local_size rank f given (Gives whole main local_size rank f sorted (a.shape.0, count)) (Gives whole main local_size rank f sorted shape) before (operators.spread count a before)
      (λ i t. behind (operators.spread count b t) (λ j u. behind (types.type_of shape u) (giving (binary_code which a.shape.0) (i ∷ j ∷ [])))) (spread_sorts count a before) (spread_fits whole main local_size rank f sorted given count a before (most_sized a.shape.0 a.shape b.shape x y) wide.0 v)
      (λ i t. sorts_then t (operators.spread count b t) (λ j u. behind (types.type_of shape u) (giving (binary_code which a.shape.0) (i ∷ j ∷ []))) (spread_sorts count b t) (λ j u. typed_sorts shape (binary_code which a.shape.0) (i ∷ j ∷ []) u (λ type id. binary_named which a.shape.0 type id i j)))
      (λ i t now first wider extends inside. comes_then whole main local_size rank f now (Gives whole main local_size rank f sorted (b.shape.0, count)) (Gives whole main local_size rank f sorted shape) t (operators.spread count b t)
      (λ j u. behind (types.type_of shape u) (giving (binary_code which a.shape.0) (i ∷ j ∷ []))) (spread_sorts count b t)
      (spread_fits whole main local_size rank f sorted now count b t (most_sized b.shape.0 a.shape b.shape x y) wide.1 (value_later whole main local_size rank f sorted given now b.shape b.id wider w))
      (λ j u. typed_sorts shape (binary_code which a.shape.0) (i ∷ j ∷ []) u (λ type id. binary_named which a.shape.0 type id i j))
      (λ j u later second wider_on extends_on inside_on. typed_comes whole main local_size rank f sorted later shape (binary_code which a.shape.0) (i ∷ j ∷ []) u (most_sized (given_scalar which a.shape.0) a.shape b.shape x y) (λ type id. binary_named which a.shape.0 type id i j)
      (λ type last wide of. stands last which a.shape.0 b.shape.0 count type i j suits of (value_later whole main local_size rank f sorted now last (a.shape.0, count) i (λ id h. wide id (wider_on id h)) first) (value_later whole main local_size rank f sorted later last (b.shape.0, count) j wide second))))

  -- ---- equality of vectors

  pub joining_stands : (given : List ℕ) (code count type x : ℕ) → form_of code ≡ Some form.Unary → ((other : ℕ) → rules.is_unary_of m code type other ≡ (bool_type (defined_as m type) && rules.is_truth m other && rules.is_vector (shape_of (defined_as m other)))) → (count == 1) ≡ false → IsTypeOf whole flag type
      → V given (Boolean, count) x → Stands whole main local_size rank f given code (x ∷ []) type
  joining_stands given code count type x is may several of v =
      let vector = vector_at whole main local_size rank f sorted (Boolean, count) v.type several v.of in
      unary_stands whole main local_size rank f sorted given code type x flag (Boolean, count) is of v
      (may v.type ∙ and_from _ _ (and_from _ _ (rw (scalar_type_is whole main local_size sorted Boolean type of) refl) (truths whole main local_size rank f sorted (Boolean, count) v.type refl v.of))
      (rw (vector_type_is whole main local_size sorted vector.component count v.type vector.is) refl))

  joined_fits : (given : List ℕ) (which : BinaryOp) (a b : Shape) (x : ℕ) (before : Sections) → V given (given_scalar which a.0, max a.1 b.1) x
      → Fits whole main local_size rank f sorted given (Gives whole main local_size rank f sorted (pair_shape which a b)) before (operators.joined which (max a.1 b.1) x before)
  unfolding form_of
  joined_fits given Equal a b x before v = by (max a.1 b.1 == 1) refl
    where
      by : (c : Bool) → (max a.1 b.1 == 1) ≡ c → Fits whole main local_size rank f sorted given (Gives whole main local_size rank f sorted flag) before (cond c (give x) (operators.joining op.ALL x) before)
      by true e = given_comes whole main local_size rank f given (Gives whole main local_size rank f sorted flag) x before (λ inside. subst (λ n. V given (Boolean, n) x) (eqb-true (max a.1 b.1) 1 e) v)
      by false e = typed_comes whole main local_size rank f sorted given flag op.ALL (x ∷ []) before (record { some = omega arith; few = omega arith }) (λ type id. refl)
          (λ type now wider of. joining_stands now op.ALL (max a.1 b.1) type x refl (λ other. refl) e of (value_later whole main local_size rank f sorted given now (Boolean, max a.1 b.1) x wider v))
  joined_fits given Unequal a b x before v = by (max a.1 b.1 == 1) refl
    where
      by : (c : Bool) → (max a.1 b.1 == 1) ≡ c → Fits whole main local_size rank f sorted given (Gives whole main local_size rank f sorted flag) before (cond c (give x) (operators.joining op.ANY x) before)
      by true e = given_comes whole main local_size rank f given (Gives whole main local_size rank f sorted flag) x before (λ inside. subst (λ n. V given (Boolean, n) x) (eqb-true (max a.1 b.1) 1 e) v)
      by false e = typed_comes whole main local_size rank f sorted given flag op.ANY (x ∷ []) before (record { some = omega arith; few = omega arith }) (λ type id. refl)
          (λ type now wider of. joining_stands now op.ANY (max a.1 b.1) type x refl (λ other. refl) e of (value_later whole main local_size rank f sorted given now (Boolean, max a.1 b.1) x wider v))
  joined_fits given Add a b x before v = given_comes whole main local_size rank f given (Gives whole main local_size rank f sorted (pair_shape Add a b)) x before (λ inside. v)
  joined_fits given Sub a b x before v = given_comes whole main local_size rank f given (Gives whole main local_size rank f sorted (pair_shape Sub a b)) x before (λ inside. v)
  joined_fits given Mul a b x before v = given_comes whole main local_size rank f given (Gives whole main local_size rank f sorted (pair_shape Mul a b)) x before (λ inside. v)
  joined_fits given Div a b x before v = given_comes whole main local_size rank f given (Gives whole main local_size rank f sorted (pair_shape Div a b)) x before (λ inside. v)
  joined_fits given Mod a b x before v = given_comes whole main local_size rank f given (Gives whole main local_size rank f sorted (pair_shape Mod a b)) x before (λ inside. v)
  joined_fits given Shl a b x before v = given_comes whole main local_size rank f given (Gives whole main local_size rank f sorted (pair_shape Shl a b)) x before (λ inside. v)
  joined_fits given Shr a b x before v = given_comes whole main local_size rank f given (Gives whole main local_size rank f sorted (pair_shape Shr a b)) x before (λ inside. v)
  joined_fits given And a b x before v = given_comes whole main local_size rank f given (Gives whole main local_size rank f sorted (pair_shape And a b)) x before (λ inside. v)
  joined_fits given Or a b x before v = given_comes whole main local_size rank f given (Gives whole main local_size rank f sorted (pair_shape Or a b)) x before (λ inside. v)
  joined_fits given Xor a b x before v = given_comes whole main local_size rank f given (Gives whole main local_size rank f sorted (pair_shape Xor a b)) x before (λ inside. v)
  joined_fits given Less a b x before v = given_comes whole main local_size rank f given (Gives whole main local_size rank f sorted (pair_shape Less a b)) x before (λ inside. v)
  joined_fits given LessEq a b x before v = given_comes whole main local_size rank f given (Gives whole main local_size rank f sorted (pair_shape LessEq a b)) x before (λ inside. v)
  joined_fits given Greater a b x before v = given_comes whole main local_size rank f given (Gives whole main local_size rank f sorted (pair_shape Greater a b)) x before (λ inside. v)
  joined_fits given GreaterEq a b x before v = given_comes whole main local_size rank f given (Gives whole main local_size rank f sorted (pair_shape GreaterEq a b)) x before (λ inside. v)

  pub binary_fits : (given : List ℕ) (which : BinaryOp) (a b : Operand) (before : Sections) → IsSized a.shape → IsSized b.shape → Fit which a.shape.1 b.shape.1 → Suits which a.shape.0 b.shape.0 → V given a.shape a.id → V given b.shape b.id
      → Fits whole main local_size rank f sorted given (Gives whole main local_size rank f sorted (pair_shape which a.shape b.shape)) before (operators.binary which a b before)
  unfolding operators.binary
  binary_fits given which a b before x y fit suits v w =
      comes_then whole main local_size rank f given (Gives whole main local_size rank f sorted (given_scalar which a.shape.0, max a.shape.1 b.shape.1)) (Gives whole main local_size rank f sorted (pair_shape which a.shape b.shape)) before (operators.each which a b before)
      (operators.joined which (max a.shape.1 b.shape.1)) (each_sorts which a b before) (each_fits given which a b before x y fit suits v w) (λ i t. joined_sorts which (max a.shape.1 b.shape.1) i t)
      (λ i t now is wider extends inside. joined_fits now which a.shape b.shape i t is)

  -- ---- truth values, choices, and `++` and `--`

  pub logical_fits : (given : List ℕ) (which : LogicOp) (a b : ℕ) (before : Sections) → V given flag a → V given flag b → Fits whole main local_size rank f sorted given (Gives whole main local_size rank f sorted flag) before (operators.logical which a b before)
  unfolding operators.logical form_of
  logical_fits given which a b before v w =
      typed_comes whole main local_size rank f sorted given flag (logic_code which) (a ∷ b ∷ []) before (record { some = omega arith; few = omega arith }) (λ type id. logic_named which type id a b)
      (λ type now wider of. by now type which of (value_later whole main local_size rank f sorted given now flag a wider v) (value_later whole main local_size rank f sorted given now flag b wider w))
    where
      by : (now : List ℕ) (type : ℕ) (which : LogicOp) → IsTypeOf whole flag type → V now flag a → V now flag b → Stands whole main local_size rank f now (logic_code which) (a ∷ b ∷ []) type
      by now type logic.And of v w = logical_stands whole main local_size rank f sorted now op.LOGICAL_AND type a b flag refl refl of v w
      by now type logic.Or of v w = logical_stands whole main local_size rank f sorted now op.LOGICAL_OR type a b flag refl refl of v w
      by now type logic.Xor of v w = logical_stands whole main local_size rank f sorted now op.LOGICAL_NOT_EQUAL type a b flag refl refl of v w

  pub selected_fits : (given : List ℕ) (shape condition : Shape) (c a b : ℕ) (before : Sections) → IsSized shape → is_boolean condition.0 ≡ true → shape.1 ≡ condition.1 → V given condition c → V given shape a → V given shape b
      → Fits whole main local_size rank f sorted given (Gives whole main local_size rank f sorted shape) before (operators.selected shape c a b before)
  unfolding operators.selected form_of
  selected_fits given shape condition c a b before sized boolean same u v w =
      typed_comes whole main local_size rank f sorted given shape op.SELECT (c ∷ a ∷ b ∷ []) before sized (λ type id. refl)
      (λ type now wider of. select_stands whole main local_size rank f sorted now type c a b shape condition refl boolean same of (value_later whole main local_size rank f sorted given now condition c wider u) (value_later whole main local_size rank f sorted given now shape a wider v)
      (value_later whole main local_size rank f sorted given now shape b wider w))

  pub stepped_fits : (given : List ℕ) (which : StepOp) (a : Operand) (before : Sections) → IsSized a.shape → is_integer a.shape.0 ≡ true → V given a.shape a.id → Fits whole main local_size rank f sorted given (Gives whole main local_size rank f sorted a.shape) before (operators.stepped which a before)
  unfolding operators.stepped form_of
  stepped_fits given which a before sized integer v =
      comes_then whole main local_size rank f given (λ id now after. IsConstant after a.shape id) (Gives whole main local_size rank f sorted a.shape) before (types.filled_constant a.shape 1 before) (λ ones t. behind (types.type_of a.shape t) (giving (step_code which) (a.id ∷ ones ∷ [])))
      (filled_constant_sorts a.shape 1 before) (filled_constant_comes whole main local_size rank f sorted given a.shape 1 before sized) (λ ones t. typed_sorts a.shape (step_code which) (a.id ∷ ones ∷ []) t (λ type id. step_named which type id a.id ones))
      (λ ones t now one wider extends inside. typed_comes whole main local_size rank f sorted now a.shape (step_code which) (a.id ∷ ones ∷ []) t sized (λ type id. step_named which type id a.id ones)
      (λ type last wide of. by last type ones which of (value_later whole main local_size rank f sorted given last a.shape a.id (λ id h. wide id (wider id h)) v) (fixed_value whole main local_size rank f sorted last a.shape ones t one inside)))
    where
      by : (now : List ℕ) (type ones : ℕ) (which : StepOp) → IsTypeOf whole a.shape type → V now a.shape a.id → V now a.shape ones → Stands whole main local_size rank f now (step_code which) (a.id ∷ ones ∷ []) type
      by now type ones PreUp of v w = arithmetic_stands whole main local_size rank f sorted now op.I_ADD type a.id ones a.shape refl integer refl of v w
      by now type ones PreDown of v w = arithmetic_stands whole main local_size rank f sorted now op.I_SUB type a.id ones a.shape refl integer refl of v w
      by now type ones PostUp of v w = arithmetic_stands whole main local_size rank f sorted now op.I_ADD type a.id ones a.shape refl integer refl of v w
      by now type ones PostDown of v w = arithmetic_stands whole main local_size rank f sorted now op.I_SUB type a.id ones a.shape refl integer refl of v w
