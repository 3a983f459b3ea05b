-- Values of types that are scalars or vectors.
use Rattle.std.proofs.Common.{◌≡◌, refl, sym, ap, ◌∙◌, subst, inl, inr, ℕ, ◌≤◌, ◌⊎◌, Bool, true, false, ◌&&◌, ◌||◌, List, [], ◌∷◌, length, Some}
use Rattle.std.specs.Prelude.{max, nat_eq}
use Rattle.std.proofs.lemmas.Bool.{and_parts, eqb-true}
use Rattle.gsl_types.specs.Known.{AreStructs, IsSound}
use Rattle.gsl_types.specs.Structs.{numbered}
use Rattle.gsl_types.specs.declared.ty.StructType.{StructType}
use Rattle.gsl_types.specs.declared.ty.Ty.{Ty}
use Rattle.gsl_types.specs.declared.ty.Ty.TheOpen.{Ty-F}
use Rattle.gsl_types.specs.declared.ty.Ty.TheVariants.{rolls-One, rolls-Vector}
use Rattle.gsl_types.specs.declared.ty.Ty.TheViews.{out-Ty, roll-Ty, roll-out-Ty}
use Rattle.gsl_types.proofs.Layers.{over_one, over_vector}
use Rattle.gsl_values.specs.declared.op.BinaryOp.{BinaryOp}
use Rattle.gsl_values.specs.declared.op.BinaryOp.TheVariants.{Add, Sub, Mul, Div, Mod, Shl, Shr, And, Or, Xor, Less, LessEq, Greater, GreaterEq, Equal, Unequal}
use Rattle.gsl_values.specs.declared.value.Value.{Value}
use Rattle.gsl_tree.specs.Operations.{is_signed, is_signed_kind, is_signed_scalar}
use Rattle.gsl_tree.specs.Shapes.{Shape, arithmetic_shape, binary_shape, flag, is_integer, relation_shape, same_scalar, serves_beside, shape_kind, shape_of, shift_shape, when}
use Rattle.gsl_tree.specs.Values.{is_value_of}
use Rattle.gsl_lower_leaves.specs.Leaves.{leaves_meaning, leaves_of}
use Rattle.gsl_lower_law.specs.Operands.{Beside, Fit}
use Rattle.gsl_lower_law.specs.Values.{IsOf}
use Rattle.gsl_lower_law_leaves.specs.Equal.{HasLeaves}
use Rattle.gsl_lower_law_leaves.proofs.Structs.{values_agree}

some_same : {A : Type 0} {a b : A} → Some a ≡ Some b → a ≡ b
some_same e = cc

-- the one leaf of a scalar or vector
shaped_leaves : (structs : List StructType) (t : Ty) (shape : Shape) → shape_of t ≡ Some shape → leaves_of structs t ≡ record { path = []; shape = shape } ∷ []
shaped_leaves structs t shape is = by (out-Ty t) (roll-out-Ty t) is
  where
    by : (layer : Ty-F Ty) → roll-Ty layer ≡ t → shape_kind layer ≡ Some shape → leaves_of structs t ≡ record { path = []; shape = shape } ∷ []
    by Ty-F.Void e is = absurd cc
    by (Ty-F.One s) e is = ap (leaves_of structs) (sym e ∙ rolls-One s) ∙ over_one leaves_meaning (numbered leaves_meaning structs) s ∙ ap (λ shape. record { path = []; shape = shape } ∷ []) (some_same is)
    by (Ty-F.Vector s n) e is = ap (leaves_of structs) (sym e ∙ rolls-Vector s n) ∙ over_vector leaves_meaning (numbered leaves_meaning structs) s n ∙ ap (λ shape. record { path = []; shape = shape } ∷ []) (some_same is)
    by (Ty-F.Array element n) e is = absurd cc
    by (Ty-F.Runtime element) e is = absurd cc
    by (Ty-F.Struct number) e is = absurd cc

-- a value of a type with a shape is of that shape
pub value_shape : (structs : List StructType) (t : Ty) (shape : Shape) (v : Value) → AreStructs structs → IsSound (length structs) t → shape_of t ≡ Some shape → is_value_of structs t v ≡ true → (1 ≤ shape.1) × IsOf shape v
value_shape structs t shape v are sound is fits = (subst (HasLeaves v) (shaped_leaves structs t shape is) (values_agree structs t are sound v v fits fits).0).0

pub signed_shape : (t : Ty) (shape : Shape) → shape_of t ≡ Some shape → is_signed t ≡ is_signed_scalar shape.0
signed_shape t shape is = by (out-Ty t) is
  where
    by : (layer : Ty-F Ty) → shape_kind layer ≡ Some shape → is_signed_kind layer ≡ is_signed_scalar shape.0
    by Ty-F.Void is = absurd cc
    by (Ty-F.One s) is = ap (λ (shape : Shape). is_signed_scalar shape.0) (some_same is)
    by (Ty-F.Vector s n) is = ap (λ (shape : Shape). is_signed_scalar shape.0) (some_same is)
    by (Ty-F.Array element n) is = absurd cc
    by (Ty-F.Runtime element) is = absurd cc
    by (Ty-F.Struct number) is = absurd cc

-- ---- which shapes operators take

when_true : (b : Bool) (shape other : Shape) → when b shape ≡ Some other → b ≡ true
when_true true shape other e = refl
when_true false shape other e = absurd cc

last_of : (a b c : Bool) → (a && b && c) ≡ true → c ≡ true
last_of true true c e = e
last_of true false c e = absurd cc
last_of false b c e = absurd cc

or_cases : (a b : Bool) → (a || b) ≡ true → (a ≡ true) ⊎ (b ≡ true)
or_cases true b e = inl refl
or_cases false b e = inr e

serves : (a b : ℕ) → serves_beside a b ≡ true → Beside a b
serves a b e = by (or_cases (nat_eq b a) (nat_eq b 1) e)
  where
    by : (nat_eq b a ≡ true) ⊎ (nat_eq b 1 ≡ true) → Beside a b
    by (inl e) = inl (sym (eqb-true b a e))
    by (inr e) = inr (inr (eqb-true b 1 e))

arithmetic_fits : (x y z : Shape) → arithmetic_shape x y ≡ Some z → Beside x.1 y.1
arithmetic_fits x y z is =
    let sizes = serves_beside x.1 y.1 || nat_eq x.1 1 in
    let all : (is_integer x.0 && same_scalar x.0 y.0 && sizes) ≡ true = when_true (is_integer x.0 && same_scalar x.0 y.0 && sizes) (x.0, max x.1 y.1) z is in
    by (or_cases (serves_beside x.1 y.1) (nat_eq x.1 1) (last_of (is_integer x.0) (same_scalar x.0 y.0) sizes all))
  where
    by : (serves_beside x.1 y.1 ≡ true) ⊎ (nat_eq x.1 1 ≡ true) → Beside x.1 y.1
    by (inl e) = serves x.1 y.1 e
    by (inr e) = inr (inl (eqb-true x.1 1 e))

shift_fits : (x y z : Shape) → shift_shape x y ≡ Some z → Beside x.1 y.1
shift_fits x y z is = serves x.1 y.1 (last_of (is_integer x.0) (is_integer y.0) (serves_beside x.1 y.1) (when_true (is_integer x.0 && is_integer y.0 && serves_beside x.1 y.1) x z is))

relation_fits : (x y z : Shape) → relation_shape x y ≡ Some z → Beside x.1 y.1
relation_fits x y z is =
    let front = is_integer x.0 && same_scalar x.0 y.0 && nat_eq x.1 1 in
    inr (inl (eqb-true x.1 1 (last_of (is_integer x.0) (same_scalar x.0 y.0) (nat_eq x.1 1) (and_parts front (nat_eq y.1 1) (when_true (front && nat_eq y.1 1) flag z is)).0)))

pub operation_fits : (which : BinaryOp) (x y z : Shape) → binary_shape which x y ≡ Some z → Fit which x.1 y.1
operation_fits Add x y z is = arithmetic_fits x y z is
operation_fits Sub x y z is = arithmetic_fits x y z is
operation_fits Mul x y z is = arithmetic_fits x y z is
operation_fits Div x y z is = arithmetic_fits x y z is
operation_fits Mod x y z is = arithmetic_fits x y z is
operation_fits And x y z is = arithmetic_fits x y z is
operation_fits Or x y z is = arithmetic_fits x y z is
operation_fits Xor x y z is = arithmetic_fits x y z is
operation_fits Shl x y z is = shift_fits x y z is
operation_fits Shr x y z is = shift_fits x y z is
operation_fits Less x y z is = relation_fits x y z is
operation_fits LessEq x y z is = relation_fits x y z is
operation_fits Greater x y z is = relation_fits x y z is
operation_fits GreaterEq x y z is = relation_fits x y z is
operation_fits Equal x y z is = absurd cc
operation_fits Unequal x y z is = absurd cc
