-- What an operator does with operands that fit it.
use Rattle.std.proofs.Common.{◌≡◌, refl, sym, ap, ◌∙◌, subst, ℕ, Bool, true, false, IsTrue, Option, Some, None, unwrap_or, if◌then◌else◌}
use Rattle.std.proofs.lemmas.Option.{none-some, cond_some}
use Rattle.gsl_types.specs.Conversions.{serves}
use Rattle.gsl_types.specs.Known.{IsSound}
use Rattle.gsl_types.specs.declared.ty.Scalar.{Scalar}
use Rattle.gsl_types.specs.declared.ty.Scalar.TheVariants.{Bool as Boolean, Int, Uint}
use Rattle.gsl_types.specs.declared.ty.Ty.{Ty}
use Rattle.gsl_values.specs.declared.op.BinaryOp.{BinaryOp}
use Rattle.gsl_values.specs.declared.op.BinaryOp.TheVariants.{Add, Sub, Mul, Div, Mod, Shl, Shr, And, Or, Xor, Less, LessEq, Greater, GreaterEq, Equal, Unequal}
use Rattle.gsl_overload.proofs.Same.{no_more}
use Rattle.gsl_tree.specs.Shapes.{Shape, shape_of, of_shape, binary_shape, may_update, when}
use Rattle.gsl_tree.specs.Expressions.{IsOperation}
use Rattle.gsl_typing.specs.declared.fits.Fitting.{Fitting}
use Rattle.gsl_typing.specs.Conversions.{serves_as}
use Rattle.gsl_typing.specs.Fitting.{fitting, fitting_by, fitting_at, fitting_with, common_scalar, is_shift}
use Rattle.gsl_check_law.proofs.Types.{IsCount, max_count, flag_count, shape_is, shape_back, sound_shape, serves_shapes, serves_itself, shapes_serve, serves_both}

-- ---- what comes of two shapes

abbrev Counted : Shape → Shape → Option Shape → Type 0
Counted a b None = Unit {0}
Counted a b (Some z) = IsCount z.1

when_some : (b : Bool) (x z : Shape) → when b x ≡ Some z → x ≡ z
when_some b x z is = (cond_some b x z is).1

pub binary_count : (op : BinaryOp) (a b z : Shape) → IsCount a.1 → IsCount b.1 → binary_shape op a b ≡ Some z → IsCount z.1
binary_count Add a b z p q is = subst (λ (s : Shape). IsCount s.1) (when_some _ _ _ is) (max_count a.1 b.1 p q)
binary_count Sub a b z p q is = subst (λ (s : Shape). IsCount s.1) (when_some _ _ _ is) (max_count a.1 b.1 p q)
binary_count Mul a b z p q is = subst (λ (s : Shape). IsCount s.1) (when_some _ _ _ is) (max_count a.1 b.1 p q)
binary_count Div a b z p q is = subst (λ (s : Shape). IsCount s.1) (when_some _ _ _ is) (max_count a.1 b.1 p q)
binary_count Mod a b z p q is = subst (λ (s : Shape). IsCount s.1) (when_some _ _ _ is) (max_count a.1 b.1 p q)
binary_count And a b z p q is = subst (λ (s : Shape). IsCount s.1) (when_some _ _ _ is) (max_count a.1 b.1 p q)
binary_count Or a b z p q is = subst (λ (s : Shape). IsCount s.1) (when_some _ _ _ is) (max_count a.1 b.1 p q)
binary_count Xor a b z p q is = subst (λ (s : Shape). IsCount s.1) (when_some _ _ _ is) (max_count a.1 b.1 p q)
binary_count Shl a b z p q is = subst (λ (s : Shape). IsCount s.1) (when_some _ _ _ is) p
binary_count Shr a b z p q is = subst (λ (s : Shape). IsCount s.1) (when_some _ _ _ is) p
binary_count Less a b z p q is = subst (λ (s : Shape). IsCount s.1) (when_some _ _ _ is) flag_count
binary_count LessEq a b z p q is = subst (λ (s : Shape). IsCount s.1) (when_some _ _ _ is) flag_count
binary_count Greater a b z p q is = subst (λ (s : Shape). IsCount s.1) (when_some _ _ _ is) flag_count
binary_count GreaterEq a b z p q is = subst (λ (s : Shape). IsCount s.1) (when_some _ _ _ is) flag_count
binary_count Equal a b z p q is = elim (none-some z is) [ ]
binary_count Unequal a b z p q is = elim (none-some z is) [ ]

-- ---- to which types operands are converted

-- both operands serve as the types that the operator needs, and it gives the result on those
pub record IsFit (count : ℕ) (op : BinaryOp) (a b : Ty) (f : Fitting) : Type 0 where
  pub left : IsTrue (serves_as a f.left)
  pub right : IsTrue (serves_as b f.right)
  pub operation : IsOperation op f.left f.right f.result
  pub shaped : of_shape operation.0 ≡ f.left
  pub sound : IsSound count f.result

common_is : (s t u : Scalar) → common_scalar s t ≡ Some u → IsTrue (serves s u) × IsTrue (serves t u)
common_is Boolean Boolean Boolean is = (refl, refl)
common_is Int Int Int is = (refl, refl)
common_is Int Uint Uint is = (refl, refl)
common_is Uint Int Uint is = (refl, refl)
common_is Uint Uint Uint is = (refl, refl)
common_is Boolean Boolean Int is = cc
common_is Boolean Boolean Uint is = cc
common_is Int Int Boolean is = cc
common_is Int Int Uint is = cc
common_is Int Uint Boolean is = cc
common_is Int Uint Int is = cc
common_is Uint Int Boolean is = cc
common_is Uint Int Int is = cc
common_is Uint Uint Boolean is = cc
common_is Uint Uint Int is = cc
common_is Boolean Int u is = elim (none-some u is) [ ]
common_is Boolean Uint u is = elim (none-some u is) [ ]
common_is Int Boolean u is = elim (none-some u is) [ ]
common_is Uint Boolean u is = elim (none-some u is) [ ]

some_is : {A : Type 0} (x y : A) → ◌≡◌ {A = Option A} (Some x) (Some y) → x ≡ y
some_is x y is = ap (λ o. unwrap_or o x) is

module _ (count : ℕ) (op : BinaryOp) (a b : Ty) (f : Fitting) (known_a : IsSound count a) (known_b : IsSound count b) where
  -- operands of these shapes
  with_shapes : (x y : Shape) (given : Option Shape) → IsTrue (serves_as a (of_shape x)) → IsTrue (serves_as b (of_shape y)) → IsCount x.1 → IsCount y.1 → binary_shape op x y ≡ given
      → fitting_with x y given ≡ Some f → IsFit count op a b f
  with_shapes x y None left right p q shape is = elim (none-some f is) [ ]
  with_shapes x y (Some z) left right p q shape is =
      subst (IsFit count op a b) (some_is (record { left = of_shape x; right = of_shape y; result = of_shape z }) f is) (record {
        left = left;
        right = right;
        operation = (x, y, z, shape_back x, shape_back y, shape, refl);
        shaped = refl;
        sound = sound_shape count z (binary_count op x y z p q shape);
      })

  with_common : (x y : Shape) (u : Option Scalar) → of_shape x ≡ a → of_shape y ≡ b → IsCount x.1 → IsCount y.1 → common_scalar x.0 y.0 ≡ u → fitting_at op u x.1 y.1 ≡ Some f → IsFit count op a b f
  with_common x y None is_a is_b p q common is = elim (none-some f is) [ ]
  with_common x y (Some u) is_a is_b p q common is =
      let serve = common_is x.0 y.0 u common in
      with_shapes (u, x.1) (u, y.1) (binary_shape op (u, x.1) (u, y.1))
      (subst (λ (t : Ty). IsTrue (serves_as t (of_shape (u, x.1)))) is_a (serves_shapes x.0 u x.1 serve.0))
      (subst (λ (t : Ty). IsTrue (serves_as t (of_shape (u, y.1)))) is_b (serves_shapes y.0 u y.1 serve.1))
      p q refl is

  with_both : (x y : Shape) (shift : Bool) → of_shape x ≡ a → of_shape y ≡ b → IsCount x.1 → IsCount y.1
      → (if shift then fitting_with x y (binary_shape op x y) else fitting_at op (common_scalar x.0 y.0) x.1 y.1) ≡ Some f → IsFit count op a b f
  with_both x y true is_a is_b p q is =
      with_shapes x y (binary_shape op x y) (subst (λ (t : Ty). IsTrue (serves_as t (of_shape x))) is_a (serves_itself (of_shape x)))
      (subst (λ (t : Ty). IsTrue (serves_as t (of_shape y))) is_b (serves_itself (of_shape y))) p q refl is
  with_both x y false is_a is_b p q is = with_common x y (common_scalar x.0 y.0) is_a is_b p q refl is

  by_shapes : (x y : Option Shape) → shape_of a ≡ x → shape_of b ≡ y → fitting_by op x y ≡ Some f → IsFit count op a b f
  by_shapes None y is_a is_b is = elim (none-some f is) [ ]
  by_shapes (Some x) None is_a is_b is = elim (none-some f is) [ ]
  by_shapes (Some x) (Some y) is_a is_b is =
      let of_a = shape_is count a x is_a known_a in
      let of_b = shape_is count b y is_b known_b in
      with_both x y (is_shift op) of_a.0 of_b.0 of_a.1 of_b.1 is

  pub fit_is : fitting op a b ≡ Some f → IsFit count op a b f
  unfolding fitting
  fit_is is = by_shapes (shape_of a) (shape_of b) refl refl is

-- ---- what is updated

-- an operator that may stand before `=` gives the scalar type of its left operand, and no fewer components
update_shape : (op : BinaryOp) (x y z : Shape) → IsTrue (may_update op) → binary_shape op x y ≡ Some z → z.0 ≡ x.0
update_shape Add x y z may is = ap (λ (s : Shape). s.0) (sym (when_some _ _ _ is))
update_shape Sub x y z may is = ap (λ (s : Shape). s.0) (sym (when_some _ _ _ is))
update_shape Mul x y z may is = ap (λ (s : Shape). s.0) (sym (when_some _ _ _ is))
update_shape Div x y z may is = ap (λ (s : Shape). s.0) (sym (when_some _ _ _ is))
update_shape Mod x y z may is = ap (λ (s : Shape). s.0) (sym (when_some _ _ _ is))
update_shape And x y z may is = ap (λ (s : Shape). s.0) (sym (when_some _ _ _ is))
update_shape Or x y z may is = ap (λ (s : Shape). s.0) (sym (when_some _ _ _ is))
update_shape Xor x y z may is = ap (λ (s : Shape). s.0) (sym (when_some _ _ _ is))
update_shape Shl x y z may is = ap (λ (s : Shape). s.0) (sym (when_some _ _ _ is))
update_shape Shr x y z may is = ap (λ (s : Shape). s.0) (sym (when_some _ _ _ is))
update_shape Less x y z may is = no_more may
update_shape LessEq x y z may is = no_more may
update_shape Greater x y z may is = no_more may
update_shape GreaterEq x y z may is = no_more may
update_shape Equal x y z may is = no_more may
update_shape Unequal x y z may is = no_more may

-- what serves as the operand that is updated is of its type, and so is what that is converted to
module _ (count : ℕ) (op : BinaryOp) (a b : Ty) (f : Fitting) (known_a : IsSound count a) (may : IsTrue (may_update op)) where
  shapes_updated : (s x y z : Shape) → IsTrue (serves_as (of_shape s) (of_shape x)) → binary_shape op x y ≡ Some z → IsTrue (serves_as (of_shape z) (of_shape s)) → (x ≡ s) × (z ≡ s)
  shapes_updated s x y z left gives back =
      let one = shapes_serve s x left in
      let other = shapes_serve z s back in
      let scalar : z.0 ≡ x.0 = update_shape op x y z may gives in
      let same : x.0 ≡ s.0 = serves_both x.0 s.0 (subst (λ (t : Scalar). IsTrue (serves t s.0)) scalar other.0) one.0 in
      (ap (λ t. (t, x.1)) same ∙ ap (λ (n : ℕ). (s.0, n)) (sym one.1), ap (λ t. (t, z.1)) (scalar ∙ same) ∙ ap (λ (n : ℕ). (s.0, n)) other.1)

  pub updated : (s : Shape) → shape_of a ≡ Some s → IsFit count op a b f → IsTrue (serves_as f.result a) → IsOperation op a f.right a
  updated s shape fit back =
      let of_a = (shape_is count a s shape known_a).0 in
      let x = fit.operation.0 in
      let y = fit.operation.1 in
      let z = fit.operation.2 in
      let left : IsTrue (serves_as (of_shape s) (of_shape x)) =
      subst (λ (t : Ty). IsTrue (serves_as (of_shape s) t)) (sym fit.shaped) (subst (λ (t : Ty). IsTrue (serves_as t f.left)) (sym of_a) fit.left) in
      let behind : IsTrue (serves_as (of_shape z) (of_shape s)) =
      subst (λ (t : Ty). IsTrue (serves_as (of_shape z) t)) (sym of_a) (subst (λ (t : Ty). IsTrue (serves_as t a)) (sym fit.operation.6) back) in
      let are = shapes_updated s x y z left fit.operation.5 behind in
      let first : shape_of a ≡ Some x = shape ∙ ap Some (sym are.0) in
      let last : of_shape z ≡ a = ap of_shape are.1 ∙ of_a in
      (x, y, z, first, fit.operation.4, fit.operation.5, last)
