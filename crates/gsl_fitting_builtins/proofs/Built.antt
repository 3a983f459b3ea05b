-- Built-in functions on scalars and vectors.
use Rattle.std.proofs.Common.{◌≡◌, ℕ, ◌≤◌, Bool, true, false, ◌&&◌, ◌||◌, List, [], ◌∷◌, length, map, Some, None, refl, sym, ap, ◌∙◌, subst, ◌⊎◌, inl, inr, arith}
use Rattle.std.specs.Prelude.{◌==◌, nat_eq, find}
use Rattle.std.specs.List.{AllByRecursion}
use Rattle.std.proofs.lemmas.Bool.{and_from, and_parts, eq-eqb, eqb-true, true≢false}
use Rattle.gsl_instr.specs.Forms.{form_of}
use Rattle.gsl_instr.specs.declared.op.TheConstants as op
use Rattle.gsl_instr.specs.declared.enumerant.glsl_std_450.TheConstants as extended
use Rattle.gsl_instr.specs.declared.form.Form.TheVariants as form
use Rattle.gsl_types.specs.declared.ty.Scalar.{Scalar}
use Rattle.gsl_types.specs.declared.ty.Scalar.TheVariants.{Bool as Boolean, Int, Uint}
use Rattle.gsl_values.specs.declared.function.Builtin.{Builtin}
use Rattle.gsl_values.specs.declared.function.Builtin.TheVariants as f
use Rattle.gsl_values.specs.declared.op.BinaryOp.{BinaryOp}
use Rattle.gsl_values.specs.declared.op.BinaryOp.TheVariants.{Less, LessEq, Greater, GreaterEq, Equal, Unequal}
use Rattle.gsl_tree.specs.Shapes.{Shape, built_shape, flag, is_boolean, is_count, is_int, is_integer, same_scalar, same_shape, serves_beside, when}
use Rattle.gsl_tree.specs.Shapes as language
use Rattle.gsl_valid.specs.ExtendedRules as ext
use Rattle.gsl_valid.specs.Ids.{result}
use Rattle.gsl_valid.specs.Instruction.{read}
use Rattle.gsl_valid.specs.Kinds.{shape_of}
use Rattle.gsl_valid.specs.OperandRules as rules
use Rattle.gsl_valid.specs.Types.{bool_type, defined_as}
use Rattle.gsl_spv.specs.Declarations.{instr}
use Rattle.gsl_spv.specs.Sections.{Sections}
use Rattle.gsl_lower_values.specs.Building.{Built, behind}
use Rattle.gsl_lower_values.specs.Builtins as builtins
use Rattle.gsl_lower_values.specs.Operators as operators
use Rattle.gsl_lower_values.specs.Operators.{binary_code, by_sign, given_scalar}
use Rattle.gsl_lower_values.specs.declared.operand.Operand.{Operand}
use Rattle.gsl_fitting.specs.Fits.{Frame}
use Rattle.gsl_fitting_operators.specs.Operands.{Suits}
use Rattle.gsl_fitting_types.specs.Making.{AreSorted, IsSized, IsTypeOf, Sorts, Stands, made}
use Rattle.gsl_fitting_builtins.specs.Arguments.{AreArguments, IsArgument}
use Rattle.gsl_fitting_builtins.proofs.Extending.{AreFit, extend_fits, extend_sorts, row}
use Rattle.gsl_fitting_operators.proofs.Forms.{bits_stand, insert_stands, ints, sign_number, signed_ints, sizes, truths, unary_stands}
use Rattle.gsl_fitting_types.proofs.Knowing.{one_type}
use Rattle.gsl_fitting_operators.proofs.Operators.{Fits, Gives, Value, selected_sorts, spread_fits, spread_sorts, typed_comes, typed_sorts, value_later}
use Rattle.gsl_fitting_operators.proofs.Pairs.{binary_named, joining_stands, selected_fits, stands}
use Rattle.gsl_fitting_builtins.proofs.Picking.{is_le, not_one}
use Rattle.gsl_fitting_types.proofs.Sorting.{sorts_then, stays_same}
use Rattle.gsl_fitting_types.proofs.Stepping.{comes_then}

-- ---- they sort

typed : (shape : Shape) (code : ℕ) (operands : List ℕ) (s : Sections) → ((type id : ℕ) → result (read (instr code (type ∷ id ∷ operands))) ≡ Some id) → Sorts s (builtins.as_type shape code operands s)
typed shape code operands s named = typed_sorts shape code operands s named

one_sorts : (which : Builtin) (a : Operand) (s : Sections) → Sorts s (builtins.built_one which a s)
unfolding builtins.built_one form_of
one_sorts f.Abs a s = extend_sorts extended.S_ABS (a.id ∷ []) a.shape s
one_sorts f.Sign a s = extend_sorts extended.S_SIGN (a.id ∷ []) a.shape s
one_sorts f.Any a s = typed flag op.ANY (a.id ∷ []) s (λ type id. refl)
one_sorts f.All a s = typed flag op.ALL (a.id ∷ []) s (λ type id. refl)
one_sorts f.Not a s = typed a.shape op.LOGICAL_NOT (a.id ∷ []) s (λ type id. refl)
one_sorts f.BitCount a s = typed (Int, a.shape.1) op.BIT_COUNT (a.id ∷ []) s (λ type id. refl)
one_sorts f.FindLsb a s = extend_sorts extended.FIND_I_LSB (a.id ∷ []) (Int, a.shape.1) s
one_sorts f.FindMsb a s = extend_sorts (by_sign a.shape.0 extended.FIND_S_MSB extended.FIND_U_MSB) (a.id ∷ []) (Int, a.shape.1) s
one_sorts f.BitfieldReverse a s = typed a.shape op.BIT_REVERSE (a.id ∷ []) s (λ type id. refl)
one_sorts _ a s = stays_same s

bounded_sorts : (number : ℕ) (a b : Operand) (s : Sections) → Sorts s (builtins.bounded number a b s)
bounded_sorts number a b s = sorts_then s (operators.spread a.shape.1 b s) (λ y. builtins.extend number (a.id ∷ y ∷ []) a.shape) (spread_sorts a.shape.1 b s) (λ y t. extend_sorts number (a.id ∷ y ∷ []) a.shape t)

compared_sorts : (which : BinaryOp) (a b : Operand) (s : Sections) → Sorts s (builtins.compared which a b s)
compared_sorts which a b s = typed (Boolean, a.shape.1) (binary_code which a.shape.0) (a.id ∷ b.id ∷ []) s (λ type id. binary_named which a.shape.0 type id a.id b.id)

two_sorts : (which : Builtin) (a b : Operand) (s : Sections) → Sorts s (builtins.built_two which a b s)
unfolding builtins.built_two
two_sorts f.Min a b s = bounded_sorts (by_sign a.shape.0 extended.S_MIN extended.U_MIN) a b s
two_sorts f.Max a b s = bounded_sorts (by_sign a.shape.0 extended.S_MAX extended.U_MAX) a b s
two_sorts f.LessThan a b s = compared_sorts Less a b s
two_sorts f.LessThanEqual a b s = compared_sorts LessEq a b s
two_sorts f.GreaterThan a b s = compared_sorts Greater a b s
two_sorts f.GreaterThanEqual a b s = compared_sorts GreaterEq a b s
two_sorts f.Equal a b s = compared_sorts Equal a b s
two_sorts f.NotEqual a b s = compared_sorts Unequal a b s
two_sorts _ a b s = stays_same s

clamped_sorts : (a b c : Operand) (s : Sections) → Sorts s (builtins.clamped a b c s)
clamped_sorts a b c s =
    sorts_then s (operators.spread a.shape.1 b s) (λ low t. behind (operators.spread a.shape.1 c t) (λ high. builtins.extend (by_sign a.shape.0 extended.S_CLAMP extended.U_CLAMP) (a.id ∷ low ∷ high ∷ []) a.shape)) (spread_sorts a.shape.1 b s)
    (λ low t. sorts_then t (operators.spread a.shape.1 c t) (λ high. builtins.extend (by_sign a.shape.0 extended.S_CLAMP extended.U_CLAMP) (a.id ∷ low ∷ high ∷ []) a.shape) (spread_sorts a.shape.1 c t)
    (λ high u. extend_sorts (by_sign a.shape.0 extended.S_CLAMP extended.U_CLAMP) (a.id ∷ low ∷ high ∷ []) a.shape u))

bits_named : (s : Scalar) (type id a b c : ℕ) → result (read (instr (by_sign s op.BIT_FIELD_S_EXTRACT op.BIT_FIELD_U_EXTRACT) (type ∷ id ∷ a ∷ b ∷ c ∷ []))) ≡ Some id
unfolding form_of
bits_named Boolean type id a b c = refl
bits_named Int type id a b c = refl
bits_named Uint type id a b c = refl

three_sorts : (which : Builtin) (a b c : Operand) (s : Sections) → Sorts s (builtins.built_three which a b c s)
unfolding builtins.built_three
three_sorts f.Clamp a b c s = clamped_sorts a b c s
three_sorts f.Mix a b c s = selected_sorts a.shape c.id b.id a.id s
three_sorts f.BitfieldExtract a b c s = typed a.shape (by_sign a.shape.0 op.BIT_FIELD_S_EXTRACT op.BIT_FIELD_U_EXTRACT) (a.id ∷ b.id ∷ c.id ∷ []) s (λ type id. bits_named a.shape.0 type id a.id b.id c.id)
three_sorts _ a b c s = stays_same s

four_sorts : (which : Builtin) (shape : Shape) (ids : List ℕ) (s : Sections) → Sorts s (builtins.built_four which shape ids s)
unfolding builtins.built_four form_of
four_sorts f.BitfieldInsert shape ids s = typed shape op.BIT_FIELD_INSERT ids s (λ type id. refl)
four_sorts _ shape ids s = stays_same s

pub called_sorts : (which : Builtin) (args : List Operand) (s : Sections) → Sorts s (builtins.called which args s)
unfolding builtins.called
called_sorts which [] s = stays_same s
called_sorts which (a ∷ []) s = one_sorts which a s
called_sorts which (a ∷ b ∷ []) s = two_sorts which a b s
called_sorts which (a ∷ b ∷ c ∷ []) s = three_sorts which a b c s
called_sorts which (a ∷ b ∷ c ∷ d ∷ []) s = four_sorts which a.shape (a.id ∷ b.id ∷ c.id ∷ d.id ∷ []) s
called_sorts which (a ∷ b ∷ c ∷ d ∷ e ∷ rest) s = stays_same s

-- ---- shapes

when_is : (b : Bool) (x shape : Shape) → when b x ≡ Some shape → (b ≡ true) × (x ≡ shape)
when_is true x shape e = (refl, cc)
when_is false x shape e = absurd cc

no_shape : {A : Type 0} (shape : Shape) → None ≡ Some shape → A
no_shape shape e = absurd cc

same_is : (s t : Scalar) → same_scalar s t ≡ true → s ≡ t
same_is Boolean Boolean e = refl
same_is Int Int e = refl
same_is Uint Uint e = refl
same_is _ _ e = absurd (true≢false (sym e))

int_integer : (s : Scalar) → is_int s ≡ true → (is_integer s ≡ true) × (s ≡ Int)
int_integer Int e = (refl, refl)
int_integer _ e = absurd (true≢false (sym e))

module _ (whole : Sections) (main : ℕ) (local_size : List ℕ) (rank : ℕ → ℕ) (f' : Frame) (sorted : AreSorted whole) where
  abbrev V : List ℕ → Shape → ℕ → Type 0
  V given shape id = Value whole main local_size rank f' sorted given shape id

  abbrev F : List ℕ → Shape → Sections → Built ℕ → Type 0
  F given shape before built = Fits whole main local_size rank f' sorted given (Gives whole main local_size rank f' sorted shape) before built

  abbrev Arg : List ℕ → Operand → Type 0
  Arg given a = IsArgument whole main local_size rank f' given a

  -- ---- signs

  abbrev Signed : rules.Sign → Shape → Type 0
  Signed sign shape = (type : ℕ) → IsTypeOf whole shape type → rules.is_signed (made whole main local_size rank f') sign type ≡ true

  int_signed : (shape : Shape) → shape.0 ≡ Int → Signed (rules.Only 1) shape
  int_signed shape is type of = signed_ints whole main local_size rank f' sorted shape 1 type (ap is_integer is) (ap sign_number is) of

  uint_signed : (shape : Shape) → shape.0 ≡ Uint → Signed (rules.Only 0) shape
  uint_signed shape is type of = signed_ints whole main local_size rank f' sorted shape 0 type (ap is_integer is) (ap sign_number is) of

  same_fit : (number count : ℕ) (sign : rules.Sign) (shape : Shape) → Signed sign shape → is_integer shape.0 ≡ true → AreFit whole main local_size rank f' sorted (row whole main local_size rank f' sorted number count sign false) shape shape
  same_fit number count sign shape signed integer = ((signed, integer), λ type other x y. eq-eqb type other (one_type whole shape type other x y))

  place_fit : (number : ℕ) (sign : rules.Sign) (from : Shape) → Signed sign from → is_integer from.0 ≡ true → AreFit whole main local_size rank f' sorted (row whole main local_size rank f' sorted number 1 sign true) (Int, from.1) from
  place_fit number sign from signed integer = ((signed, integer), λ type other x y. and_from _ _ (int_signed (Int, from.1) refl type x) (sizes whole main local_size rank f' sorted (Int, from.1) from type other refl x y))

  -- ---- one argument

  plain : (given : List ℕ) (shape : Shape) (code : ℕ) (a : Operand) (before : Sections) → IsSized shape → ((type id : ℕ) → result (read (instr code (type ∷ id ∷ a.id ∷ []))) ≡ Some id) → form_of code ≡ Some form.Unary → Arg given a
      → ((type other : ℕ) → IsTypeOf whole shape type → IsTypeOf whole a.shape other → rules.is_unary_of (made whole main local_size rank f') code type other ≡ true) → F given shape before (builtins.as_type shape code (a.id ∷ []) before)
  plain given shape code a before sized named is arg may =
      typed_comes whole main local_size rank f' sorted given shape code (a.id ∷ []) before sized named
      (λ type now wider of. unary_stands whole main local_size rank f' sorted now code type a.id shape a.shape is of (value_later whole main local_size rank f' sorted given now a.shape a.id wider arg.value) (may type arg.value.type of arg.value.of))

  any_fits : (given : List ℕ) (code : ℕ) (a : Operand) (before : Sections) → ((type id : ℕ) → result (read (instr code (type ∷ id ∷ a.id ∷ []))) ≡ Some id) → form_of code ≡ Some form.Unary
      → ((type other : ℕ) → rules.is_unary_of (made whole main local_size rank f') code type other ≡ (bool_type (defined_as (made whole main local_size rank f') type) && rules.is_truth (made whole main local_size rank f') other && rules.is_vector (shape_of (defined_as (made whole main local_size rank f') other))))
      → a.shape.0 ≡ Boolean → 2 ≤ a.shape.1 → Arg given a → F given flag before (builtins.as_type flag code (a.id ∷ []) before)
  any_fits given code a before named is may boolean several arg =
      typed_comes whole main local_size rank f' sorted given flag code (a.id ∷ []) before (record { some = omega arith; few = omega arith }) named
      (λ type now wider of. joining_stands whole main local_size rank f' sorted now code a.shape.1 type a.id is (may type) (not_one a.shape.1 several) of
      (subst (λ s. V now (s, a.shape.1) a.id) boolean (value_later whole main local_size rank f' sorted given now a.shape a.id wider arg.value)))

  sized_as : (s : Scalar) (a : Shape) → IsSized a → IsSized (s, a.1)
  sized_as s a sized = record { some = sized.some; few = sized.few }

  truth_is : (s : Scalar) → is_boolean s ≡ true → s ≡ Boolean
  truth_is Boolean e = refl
  truth_is _ e = absurd (true≢false (sym e))

  one_fits : (given : List ℕ) (which : Builtin) (a : Operand) (shape : Shape) (before : Sections) → language.built_one which a.shape ≡ Some shape → Arg given a → F given shape before (builtins.built_one which a before)
  unfolding builtins.built_one form_of
  one_fits given f.Abs a shape before is arg =
      let w = when_is (is_int a.shape.0) a.shape shape is in
      let i = int_integer a.shape.0 w.0 in
      subst (λ s. F given s before (builtins.extend extended.S_ABS (a.id ∷ []) a.shape before)) w.1
      (extend_fits whole main local_size rank f' sorted given extended.S_ABS a.id [] a.shape a.shape (row whole main local_size rank f' sorted extended.S_ABS 1 (rules.Only 1) false) before arg.sized refl refl (same_fit extended.S_ABS 1 (rules.Only 1) a.shape (int_signed a.shape i.1) i.0) (arg.value, tt))
  one_fits given f.Sign a shape before is arg =
      let w = when_is (is_int a.shape.0) a.shape shape is in
      let i = int_integer a.shape.0 w.0 in
      subst (λ s. F given s before (builtins.extend extended.S_SIGN (a.id ∷ []) a.shape before)) w.1
      (extend_fits whole main local_size rank f' sorted given extended.S_SIGN a.id [] a.shape a.shape (row whole main local_size rank f' sorted extended.S_SIGN 1 (rules.Only 1) false) before arg.sized refl refl (same_fit extended.S_SIGN 1 (rules.Only 1) a.shape (int_signed a.shape i.1) i.0) (arg.value, tt))
  one_fits given f.Any a shape before is arg =
      let w = when_is (is_boolean a.shape.0 && language.is_vector a.shape) flag shape is in
      let p = and_parts (is_boolean a.shape.0) (language.is_vector a.shape) w.0 in
      subst (λ s. F given s before (builtins.as_type flag op.ANY (a.id ∷ []) before)) w.1 (any_fits given op.ANY a before (λ type id. refl) refl (λ type other. refl) (truth_is a.shape.0 p.0) (is_le 2 a.shape.1 p.1) arg)
  one_fits given f.All a shape before is arg =
      let w = when_is (is_boolean a.shape.0 && language.is_vector a.shape) flag shape is in
      let p = and_parts (is_boolean a.shape.0) (language.is_vector a.shape) w.0 in
      subst (λ s. F given s before (builtins.as_type flag op.ALL (a.id ∷ []) before)) w.1 (any_fits given op.ALL a before (λ type id. refl) refl (λ type other. refl) (truth_is a.shape.0 p.0) (is_le 2 a.shape.1 p.1) arg)
  one_fits given f.Not a shape before is arg =
      let w = when_is (is_boolean a.shape.0 && language.is_vector a.shape) a.shape shape is in
      let p = and_parts (is_boolean a.shape.0) (language.is_vector a.shape) w.0 in
      subst (λ s. F given s before (builtins.as_type a.shape op.LOGICAL_NOT (a.id ∷ []) before)) w.1
      (plain given a.shape op.LOGICAL_NOT a before arg.sized (λ type id. refl) refl arg (λ type other x y. and_from _ _ (truths whole main local_size rank f' sorted a.shape type p.0 x) (eq-eqb type other (one_type whole a.shape type other x y))))
  one_fits given f.BitCount a shape before is arg =
      let w = when_is (is_integer a.shape.0) (Int, a.shape.1) shape is in
      subst (λ s. F given s before (builtins.as_type (Int, a.shape.1) op.BIT_COUNT (a.id ∷ []) before)) w.1
      (plain given (Int, a.shape.1) op.BIT_COUNT a before (sized_as Int a.shape arg.sized) (λ type id. refl) refl arg
      (λ type other x y. and_from _ _ (and_from _ _ (ints whole main local_size rank f' sorted (Int, a.shape.1) type refl x) (ints whole main local_size rank f' sorted a.shape other w.0 y)) (sizes whole main local_size rank f' sorted (Int, a.shape.1) a.shape type other refl x y)))
  one_fits given f.FindLsb a shape before is arg =
      let w = when_is (is_integer a.shape.0) (Int, a.shape.1) shape is in
      subst (λ s. F given s before (builtins.extend extended.FIND_I_LSB (a.id ∷ []) (Int, a.shape.1) before)) w.1
      (extend_fits whole main local_size rank f' sorted given extended.FIND_I_LSB a.id [] (Int, a.shape.1) a.shape (row whole main local_size rank f' sorted extended.FIND_I_LSB 1 rules.Either true) before (sized_as Int a.shape arg.sized) refl refl
      (place_fit extended.FIND_I_LSB rules.Either a.shape (λ type of. refl) w.0) (arg.value, tt))
  one_fits given f.FindMsb a shape before is arg =
      let w = when_is (is_integer a.shape.0) (Int, a.shape.1) shape is in
      subst (λ s. F given s before (builtins.extend (by_sign a.shape.0 extended.FIND_S_MSB extended.FIND_U_MSB) (a.id ∷ []) (Int, a.shape.1) before)) w.1 (by a.shape.0 refl w.0)
    where
      by : (s : Scalar) → a.shape.0 ≡ s → is_integer a.shape.0 ≡ true → F given (Int, a.shape.1) before (builtins.extend (by_sign s extended.FIND_S_MSB extended.FIND_U_MSB) (a.id ∷ []) (Int, a.shape.1) before)
      by Boolean e i = absurd (true≢false (sym (ap is_integer (sym e) ∙ i)))
      by Int e i =
          extend_fits whole main local_size rank f' sorted given extended.FIND_S_MSB a.id [] (Int, a.shape.1) a.shape (row whole main local_size rank f' sorted extended.FIND_S_MSB 1 (rules.Only 1) true) before (sized_as Int a.shape arg.sized) refl refl
          (place_fit extended.FIND_S_MSB (rules.Only 1) a.shape (int_signed a.shape e) i) (arg.value, tt)
      by Uint e i =
          extend_fits whole main local_size rank f' sorted given extended.FIND_U_MSB a.id [] (Int, a.shape.1) a.shape (row whole main local_size rank f' sorted extended.FIND_U_MSB 1 (rules.Only 0) true) before (sized_as Int a.shape arg.sized) refl refl
          (place_fit extended.FIND_U_MSB (rules.Only 0) a.shape (uint_signed a.shape e) i) (arg.value, tt)
  one_fits given f.BitfieldReverse a shape before is arg =
      let w = when_is (is_integer a.shape.0) a.shape shape is in
      subst (λ s. F given s before (builtins.as_type a.shape op.BIT_REVERSE (a.id ∷ []) before)) w.1
      (plain given a.shape op.BIT_REVERSE a before arg.sized (λ type id. refl) refl arg (λ type other x y. and_from _ _ (ints whole main local_size rank f' sorted a.shape type w.0 x) (eq-eqb type other (one_type whole a.shape type other x y))))
  one_fits given _ a shape before is arg = no_shape shape is

  -- ---- two arguments

  -- as many as another, or one for each
  wide_is : (count n : ℕ) → serves_beside count n ≡ true → (n ≡ count) ⊎ (n ≡ 1)
  wide_is count n e = by (nat_eq n count) refl e
    where
      by : (b : Bool) → nat_eq n count ≡ b → (b || nat_eq n 1) ≡ true → (n ≡ count) ⊎ (n ≡ 1)
      by true is e = inl (eqb-true n count is)
      by false is e = inr (eqb-true n 1 e)

  -- one by sign, of ints or of uints
  by_row : (given : List ℕ) (signed unsigned first : ℕ) (ids : List ℕ) (count : ℕ) (shape : Shape) (before : Sections) → find (λ e. e.number == signed) ext.rows ≡ Some (row whole main local_size rank f' sorted signed count (rules.Only 1) false)
      → find (λ e. e.number == unsigned) ext.rows ≡ Some (row whole main local_size rank f' sorted unsigned count (rules.Only 0) false) → length (first ∷ ids) ≡ count → IsSized shape → is_integer shape.0 ≡ true → AllByRecursion (V given shape) (first ∷ ids)
      → F given shape before (builtins.extend (by_sign shape.0 signed unsigned) (first ∷ ids) shape before)
  by_row given signed unsigned first ids count shape before one other counted sized integer all = by shape.0 refl integer
    where
      by : (s : Scalar) → shape.0 ≡ s → is_integer shape.0 ≡ true → F given shape before (builtins.extend (by_sign s signed unsigned) (first ∷ ids) shape before)
      by Boolean e i = absurd (true≢false (sym (ap is_integer (sym e) ∙ i)))
      by Int e i = extend_fits whole main local_size rank f' sorted given signed first ids shape shape (row whole main local_size rank f' sorted signed count (rules.Only 1) false) before sized one counted (same_fit signed count (rules.Only 1) shape (int_signed shape e) i) all
      by Uint e i = extend_fits whole main local_size rank f' sorted given unsigned first ids shape shape (row whole main local_size rank f' sorted unsigned count (rules.Only 0) false) before sized other counted (same_fit unsigned count (rules.Only 0) shape (uint_signed shape e) i) all

  spread_one : (given : List ℕ) (a b : Operand) (before : Sections) → same_scalar a.shape.0 b.shape.0 ≡ true → serves_beside a.shape.1 b.shape.1 ≡ true → IsSized a.shape → Arg given b → F given a.shape before (operators.spread a.shape.1 b before)
  spread_one given a b before same serves sized arg =
      subst (λ s. F given (s, a.shape.1) before (operators.spread a.shape.1 b before)) (sym (same_is a.shape.0 b.shape.0 same))
      (spread_fits whole main local_size rank f' sorted given a.shape.1 b before (record { some = sized.some; few = sized.few }) (wide_is a.shape.1 b.shape.1 serves) arg.value)

  bounded_fits : (given : List ℕ) (signed unsigned : ℕ) (a b : Operand) (shape : Shape) (before : Sections) → find (λ e. e.number == signed) ext.rows ≡ Some (row whole main local_size rank f' sorted signed 2 (rules.Only 1) false)
      → find (λ e. e.number == unsigned) ext.rows ≡ Some (row whole main local_size rank f' sorted unsigned 2 (rules.Only 0) false) → language.bounded_shape a.shape b.shape ≡ Some shape → Arg given a → Arg given b
      → F given shape before (builtins.bounded (by_sign a.shape.0 signed unsigned) a b before)
  bounded_fits given signed unsigned a b shape before one other is x y =
      let w = when_is (is_integer a.shape.0 && same_scalar a.shape.0 b.shape.0 && serves_beside a.shape.1 b.shape.1) a.shape shape is in
      let p = and_parts (is_integer a.shape.0 && same_scalar a.shape.0 b.shape.0) (serves_beside a.shape.1 b.shape.1) w.0 in
      let q = and_parts (is_integer a.shape.0) (same_scalar a.shape.0 b.shape.0) p.0 in
      let number = by_sign a.shape.0 signed unsigned in
      subst (λ s. F given s before (builtins.bounded number a b before)) w.1
      (comes_then whole main local_size rank f' given (Gives whole main local_size rank f' sorted a.shape) (Gives whole main local_size rank f' sorted a.shape) before (operators.spread a.shape.1 b before) (λ i. builtins.extend number (a.id ∷ i ∷ []) a.shape) (spread_sorts a.shape.1 b before)
      (spread_one given a b before q.1 p.1 x.sized y) (λ i t. extend_sorts number (a.id ∷ i ∷ []) a.shape t)
      (λ i t now v wider extends inside. by_row now signed unsigned a.id (i ∷ []) 2 a.shape t one other refl x.sized q.0 (value_later whole main local_size rank f' sorted given now a.shape a.id wider x.value, (v, tt))))

  compared_fits : (given : List ℕ) (which : BinaryOp) (a b : Operand) (shape : Shape) (before : Sections) → ((s : Scalar) → given_scalar which s ≡ Boolean) → Suits which a.shape.0 b.shape.0 → same_shape a.shape b.shape ≡ true → (Boolean, a.shape.1) ≡ shape → Arg given a → Arg given b
      → F given shape before (builtins.compared which a b before)
  compared_fits given which a b shape before gives suits same is x y =
      let q = and_parts (same_scalar a.shape.0 b.shape.0) (nat_eq a.shape.1 b.shape.1) same in
      subst (λ s. F given s before (builtins.compared which a b before)) is
      (typed_comes whole main local_size rank f' sorted given (Boolean, a.shape.1) (binary_code which a.shape.0) (a.id ∷ b.id ∷ []) before (sized_as Boolean a.shape x.sized) (λ type id. binary_named which a.shape.0 type id a.id b.id)
      (λ type now wider of. stands whole main local_size rank f' sorted now which a.shape.0 b.shape.0 a.shape.1 type a.id b.id suits (subst (λ s. IsTypeOf whole (s, a.shape.1) type) (sym (gives a.shape.0)) of)
      (value_later whole main local_size rank f' sorted given now a.shape a.id wider x.value)
      (subst (λ n. V now (b.shape.0, n) b.id) (sym (eqb-true a.shape.1 b.shape.1 q.1)) (value_later whole main local_size rank f' sorted given now b.shape b.id wider y.value))))

  related : (given : List ℕ) (which : BinaryOp) (a b : Operand) (shape : Shape) (before : Sections) → ((s : Scalar) → given_scalar which s ≡ Boolean) → ((s t : Scalar) → s ≡ t → is_integer s ≡ true → Suits which s t) → language.compared_shape a.shape b.shape ≡ Some shape → Arg given a → Arg given b
      → F given shape before (builtins.compared which a b before)
  related given which a b shape before gives suits is x y =
      let w = when_is (is_integer a.shape.0 && same_shape a.shape b.shape && language.is_vector a.shape) (Boolean, a.shape.1) shape is in
      let p = and_parts (is_integer a.shape.0 && same_shape a.shape b.shape) (language.is_vector a.shape) w.0 in
      let q = and_parts (is_integer a.shape.0) (same_shape a.shape b.shape) p.0 in
      let r = and_parts (same_scalar a.shape.0 b.shape.0) (nat_eq a.shape.1 b.shape.1) q.1 in
      compared_fits given which a b shape before gives (suits a.shape.0 b.shape.0 (same_is a.shape.0 b.shape.0 r.0) q.0) q.1 w.1 x y

  matched : (given : List ℕ) (which : BinaryOp) (a b : Operand) (shape : Shape) (before : Sections) → ((s : Scalar) → given_scalar which s ≡ Boolean) → ((s t : Scalar) → s ≡ t → Suits which s t) → language.matched_shape a.shape b.shape ≡ Some shape → Arg given a → Arg given b
      → F given shape before (builtins.compared which a b before)
  matched given which a b shape before gives suits is x y =
      let w = when_is (same_shape a.shape b.shape && language.is_vector a.shape) (Boolean, a.shape.1) shape is in
      let p = and_parts (same_shape a.shape b.shape) (language.is_vector a.shape) w.0 in
      let r = and_parts (same_scalar a.shape.0 b.shape.0) (nat_eq a.shape.1 b.shape.1) p.0 in
      compared_fits given which a b shape before gives (suits a.shape.0 b.shape.0 (same_is a.shape.0 b.shape.0 r.0)) p.0 w.1 x y

  two_fits : (given : List ℕ) (which : Builtin) (a b : Operand) (shape : Shape) (before : Sections) → language.built_two which a.shape b.shape ≡ Some shape → Arg given a → Arg given b → F given shape before (builtins.built_two which a b before)
  unfolding builtins.built_two
  two_fits given f.Min a b shape before is x y = bounded_fits given extended.S_MIN extended.U_MIN a b shape before refl refl is x y
  two_fits given f.Max a b shape before is x y = bounded_fits given extended.S_MAX extended.U_MAX a b shape before refl refl is x y
  two_fits given f.LessThan a b shape before is x y = related given Less a b shape before (λ s. refl) (λ s t e i. (e, i)) is x y
  two_fits given f.LessThanEqual a b shape before is x y = related given LessEq a b shape before (λ s. refl) (λ s t e i. (e, i)) is x y
  two_fits given f.GreaterThan a b shape before is x y = related given Greater a b shape before (λ s. refl) (λ s t e i. (e, i)) is x y
  two_fits given f.GreaterThanEqual a b shape before is x y = related given GreaterEq a b shape before (λ s. refl) (λ s t e i. (e, i)) is x y
  two_fits given f.Equal a b shape before is x y = matched given Equal a b shape before (λ s. refl) (λ s t e. e) is x y
  two_fits given f.NotEqual a b shape before is x y = matched given Unequal a b shape before (λ s. refl) (λ s t e. e) is x y
  two_fits given _ a b shape before is x y = no_shape shape is

  -- ---- three and four arguments

  clamped_fits : (given : List ℕ) (a b c : Operand) (shape : Shape) (before : Sections) → language.built_three f.Clamp a.shape b.shape c.shape ≡ Some shape → Arg given a → Arg given b → Arg given c → F given shape before (builtins.clamped a b c before)
  clamped_fits given a b c shape before is x y z =
      let w = when_is (is_integer a.shape.0 && same_scalar a.shape.0 b.shape.0 && same_shape b.shape c.shape && serves_beside a.shape.1 b.shape.1) a.shape shape is in
      let p = and_parts (is_integer a.shape.0 && same_scalar a.shape.0 b.shape.0 && same_shape b.shape c.shape) (serves_beside a.shape.1 b.shape.1) w.0 in
      let q = and_parts (is_integer a.shape.0 && same_scalar a.shape.0 b.shape.0) (same_shape b.shape c.shape) p.0 in
      let r = and_parts (is_integer a.shape.0) (same_scalar a.shape.0 b.shape.0) q.0 in
      let t = and_parts (same_scalar b.shape.0 c.shape.0) (nat_eq b.shape.1 c.shape.1) q.1 in
      let number = by_sign a.shape.0 extended.S_CLAMP extended.U_CLAMP in
      let first = same_is a.shape.0 b.shape.0 r.1 in
      let second = same_is b.shape.0 c.shape.0 t.0 in
      let last : same_scalar a.shape.0 c.shape.0 ≡ true = ap (same_scalar a.shape.0) (sym (first ∙ second)) ∙ own a.shape.0 in
      let third : serves_beside a.shape.1 c.shape.1 ≡ true = ap (serves_beside a.shape.1) (sym (eqb-true b.shape.1 c.shape.1 t.1)) ∙ p.1 in
      subst (λ s. F given s before (builtins.clamped a b c before)) w.1
      (comes_then whole main local_size rank f' given (Gives whole main local_size rank f' sorted a.shape) (Gives whole main local_size rank f' sorted a.shape) before (operators.spread a.shape.1 b before)
      (λ i u. behind (operators.spread a.shape.1 c u) (λ j. builtins.extend number (a.id ∷ i ∷ j ∷ []) a.shape)) (spread_sorts a.shape.1 b before) (spread_one given a b before r.1 p.1 x.sized y)
      (λ i u. sorts_then u (operators.spread a.shape.1 c u) (λ j. builtins.extend number (a.id ∷ i ∷ j ∷ []) a.shape) (spread_sorts a.shape.1 c u) (λ j v. extend_sorts number (a.id ∷ i ∷ j ∷ []) a.shape v))
      (λ i u now v wider extends inside. comes_then whole main local_size rank f' now (Gives whole main local_size rank f' sorted a.shape) (Gives whole main local_size rank f' sorted a.shape) u (operators.spread a.shape.1 c u) (λ j. builtins.extend number (a.id ∷ i ∷ j ∷ []) a.shape)
      (spread_sorts a.shape.1 c u) (spread_one now a c u last third x.sized (record { sized = z.sized; value = value_later whole main local_size rank f' sorted given now c.shape c.id wider z.value })) (λ j u. extend_sorts number (a.id ∷ i ∷ j ∷ []) a.shape u)
      (λ j u later k wide extends_on inside_on. by_row later extended.S_CLAMP extended.U_CLAMP a.id (i ∷ j ∷ []) 3 a.shape u refl refl refl x.sized r.0
      (value_later whole main local_size rank f' sorted given later a.shape a.id (λ n h. wide n (wider n h)) x.value, (value_later whole main local_size rank f' sorted now later a.shape i wide v, (k, tt))))))
    where
      own : (s : Scalar) → same_scalar s s ≡ true
      own Boolean = refl
      own Int = refl
      own Uint = refl

  count_value : (given : List ℕ) (b : Operand) → is_count b.shape ≡ true → Arg given b → V given (Int, 1) b.id
  count_value given b is arg =
      let p = and_parts (is_int b.shape.0) (nat_eq b.shape.1 1) is in
      subst (λ s. V given (s, 1) b.id) (int_integer b.shape.0 p.0).1 (subst (λ n. V given (b.shape.0, n) b.id) (eqb-true b.shape.1 1 p.1) arg.value)

  bits_fit : (given : List ℕ) (a b c : Operand) (shape : Shape) (before : Sections) → language.built_three f.BitfieldExtract a.shape b.shape c.shape ≡ Some shape → Arg given a → Arg given b → Arg given c
      → F given shape before (builtins.as_type a.shape (by_sign a.shape.0 op.BIT_FIELD_S_EXTRACT op.BIT_FIELD_U_EXTRACT) (a.id ∷ b.id ∷ c.id ∷ []) before)
  unfolding form_of
  bits_fit given a b c shape before is x y z =
      let w = when_is (is_integer a.shape.0 && is_count b.shape && is_count c.shape) a.shape shape is in
      let p = and_parts (is_integer a.shape.0 && is_count b.shape) (is_count c.shape) w.0 in
      let q = and_parts (is_integer a.shape.0) (is_count b.shape) p.0 in
      let first = count_value given b q.1 y in
      let second = count_value given c p.1 z in
      subst (λ s. F given s before (builtins.as_type a.shape (by_sign a.shape.0 op.BIT_FIELD_S_EXTRACT op.BIT_FIELD_U_EXTRACT) (a.id ∷ b.id ∷ c.id ∷ []) before)) w.1
      (typed_comes whole main local_size rank f' sorted given a.shape (by_sign a.shape.0 op.BIT_FIELD_S_EXTRACT op.BIT_FIELD_U_EXTRACT) (a.id ∷ b.id ∷ c.id ∷ []) before x.sized (λ type id. bits_named a.shape.0 type id a.id b.id c.id)
      (λ type now wider of. by now type a.shape.0 refl q.0 of (value_later whole main local_size rank f' sorted given now a.shape a.id wider x.value) (value_later whole main local_size rank f' sorted given now (Int, 1) b.id wider first) (value_later whole main local_size rank f' sorted given now (Int, 1) c.id wider second)))
    where
      by : (now : List ℕ) (type : ℕ) (s : Scalar) → a.shape.0 ≡ s → is_integer a.shape.0 ≡ true → IsTypeOf whole a.shape type → V now a.shape a.id → V now (Int, 1) b.id → V now (Int, 1) c.id
          → Stands whole main local_size rank f' now (by_sign s op.BIT_FIELD_S_EXTRACT op.BIT_FIELD_U_EXTRACT) (a.id ∷ b.id ∷ c.id ∷ []) type
      by now type Boolean e i of u v k = absurd (true≢false (sym (ap is_integer (sym e) ∙ i)))
      by now type Int e i of u v k = bits_stand whole main local_size rank f' sorted now op.BIT_FIELD_S_EXTRACT type a.id b.id c.id a.shape Int Int refl i (int_signed a.shape e type of) refl refl of u v k
      by now type Uint e i of u v k = bits_stand whole main local_size rank f' sorted now op.BIT_FIELD_U_EXTRACT type a.id b.id c.id a.shape Int Int refl i (uint_signed a.shape e type of) refl refl of u v k

  three_fits : (given : List ℕ) (which : Builtin) (a b c : Operand) (shape : Shape) (before : Sections) → language.built_three which a.shape b.shape c.shape ≡ Some shape → Arg given a → Arg given b → Arg given c → F given shape before (builtins.built_three which a b c before)
  unfolding builtins.built_three
  three_fits given f.Clamp a b c shape before is x y z = clamped_fits given a b c shape before is x y z
  three_fits given f.Mix a b c shape before is x y z =
      let w = when_is (same_shape a.shape b.shape && is_boolean c.shape.0 && nat_eq c.shape.1 a.shape.1) a.shape shape is in
      let p = and_parts (same_shape a.shape b.shape && is_boolean c.shape.0) (nat_eq c.shape.1 a.shape.1) w.0 in
      let q = and_parts (same_shape a.shape b.shape) (is_boolean c.shape.0) p.0 in
      let r = and_parts (same_scalar a.shape.0 b.shape.0) (nat_eq a.shape.1 b.shape.1) q.0 in
      let second : V given a.shape b.id = subst (λ s. V given (s, a.shape.1) b.id) (sym (same_is a.shape.0 b.shape.0 r.0)) (subst (λ n. V given (b.shape.0, n) b.id) (sym (eqb-true a.shape.1 b.shape.1 r.1)) y.value) in
      subst (λ s. F given s before (operators.selected a.shape c.id b.id a.id before)) w.1
      (selected_fits whole main local_size rank f' sorted given a.shape c.shape c.id b.id a.id before x.sized q.1 (sym (eqb-true c.shape.1 a.shape.1 p.1)) z.value second x.value)
  three_fits given f.BitfieldExtract a b c shape before is x y z = bits_fit given a b c shape before is x y z
  three_fits given _ a b c shape before is x y z = no_shape shape is

  four_fits : (given : List ℕ) (which : Builtin) (a b c d : Operand) (shape : Shape) (before : Sections) → language.built_four which a.shape b.shape c.shape d.shape ≡ Some shape → Arg given a → Arg given b → Arg given c → Arg given d
      → F given shape before (builtins.built_four which a.shape (a.id ∷ b.id ∷ c.id ∷ d.id ∷ []) before)
  unfolding builtins.built_four form_of
  four_fits given f.BitfieldInsert a b c d shape before is x y z k =
      let w = when_is (is_integer a.shape.0 && same_shape a.shape b.shape && is_count c.shape && is_count d.shape) a.shape shape is in
      let p = and_parts (is_integer a.shape.0 && same_shape a.shape b.shape && is_count c.shape) (is_count d.shape) w.0 in
      let q = and_parts (is_integer a.shape.0 && same_shape a.shape b.shape) (is_count c.shape) p.0 in
      let r = and_parts (is_integer a.shape.0) (same_shape a.shape b.shape) q.0 in
      let t = and_parts (same_scalar a.shape.0 b.shape.0) (nat_eq a.shape.1 b.shape.1) r.1 in
      let second : V given a.shape b.id = subst (λ s. V given (s, a.shape.1) b.id) (sym (same_is a.shape.0 b.shape.0 t.0)) (subst (λ n. V given (b.shape.0, n) b.id) (sym (eqb-true a.shape.1 b.shape.1 t.1)) y.value) in
      subst (λ s. F given s before (builtins.as_type a.shape op.BIT_FIELD_INSERT (a.id ∷ b.id ∷ c.id ∷ d.id ∷ []) before)) w.1
      (typed_comes whole main local_size rank f' sorted given a.shape op.BIT_FIELD_INSERT (a.id ∷ b.id ∷ c.id ∷ d.id ∷ []) before x.sized (λ type id. refl)
      (λ type now wider of. insert_stands whole main local_size rank f' sorted now type a.id b.id c.id d.id a.shape Int Int refl r.0 refl refl of (value_later whole main local_size rank f' sorted given now a.shape a.id wider x.value)
      (value_later whole main local_size rank f' sorted given now a.shape b.id wider second) (value_later whole main local_size rank f' sorted given now (Int, 1) c.id wider (count_value given c q.1 z)) (value_later whole main local_size rank f' sorted given now (Int, 1) d.id wider (count_value given d p.1 k))))
  four_fits given _ a b c d shape before is x y z k = no_shape shape is

  pub called_fits : (given : List ℕ) (which : Builtin) (args : List Operand) (shape : Shape) (before : Sections) → built_shape which (map (λ (a : Operand). a.shape) args) ≡ Some shape → AreArguments whole main local_size rank f' given args → F given shape before (builtins.called which args before)
  unfolding builtins.called
  called_fits given which [] shape before is all = no_shape shape is
  called_fits given which (a ∷ []) shape before is all = one_fits given which a shape before is all.0
  called_fits given which (a ∷ b ∷ []) shape before is all = two_fits given which a b shape before is all.0 all.1.0
  called_fits given which (a ∷ b ∷ c ∷ []) shape before is all = three_fits given which a b c shape before is all.0 all.1.0 all.1.1.0
  called_fits given which (a ∷ b ∷ c ∷ d ∷ []) shape before is all = four_fits given which a b c d shape before is all.0 all.1.0 all.1.1.0 all.1.1.1.0
  called_fits given which (a ∷ b ∷ c ∷ d ∷ e ∷ rest) shape before is all = no_shape shape is
