-- What is known of types of expressions, and of names.
use Rattle.std.proofs.Common.{◌≡◌, ◌≢◌, refl, sym, ap, ◌∙◌, subst, inl, inr, ℕ, zero, suc, Bool, true, false, not, IsTrue, List, [], ◌∷◌, slice_get, Some, arith}
use Rattle.std.specs.Prelude.{◌<◌, ◌^◌, ◌&&◌, nat_eq, nat_le, nat_lt}
use Rattle.std.specs.List.{AllByRecursion}
use Rattle.std.proofs.lemmas.Bool.{and_parts, eqb-true, leb-true, ltb-true}
use Rattle.gsl_types.specs.Conversions.{converts, converts_open, serves}
use Rattle.gsl_types.specs.declared.ty.Scalar.{Scalar}
use Rattle.gsl_types.specs.declared.ty.Scalar.TheVariants.{Bool as Boolean, Int, Uint}
use Rattle.gsl_types.specs.declared.ty.Ty.{Ty}
use Rattle.gsl_types.specs.declared.ty.Ty.TheFolds.{fold-roll-Ty}
use Rattle.gsl_types.specs.declared.ty.Ty.TheOpen.{Ty-F}
use Rattle.gsl_types.specs.declared.ty.Ty.TheVariants as ty
use Rattle.gsl_types.specs.declared.ty.Ty.TheVariants.{outs-One, outs-Void, rolls-Void}
use Rattle.gsl_types.specs.declared.ty.Ty.TheViews.{out-Ty, roll-Ty, roll-out-Ty}
use Rattle.gsl_tree.specs.Expressions.{IsIndex, element_kind, element_of, is_runtime_layer, is_value_layer, is_value_type}
use Rattle.gsl_tree.specs.Operations.{has_fixed_length, is_fixed_kind, length_kind, length_of}
use Rattle.gsl_tree.specs.Shapes.{Shape, is_integer, shape_kind, shape_of}
use Rattle.gsl_types.specs.Known.{IsSound, is_plain, is_plain_kind, sound, sound_kind}

-- ---- items

pub at_place : {A : Type 0} (P : A → Type 0) (items : List A) (number : ℕ) (item : A) → AllByRecursion P items → slice_get items number ≡ Some item → P item
at_place P [] number item all is = absurd cc
at_place P (one ∷ items) zero item all is = subst P (let e : one ≡ item = cc in e) all.0
at_place P (one ∷ items) (suc number) item all is = at_place P items number item all.1 is

pub is_false : (b : Bool) → not b ≡ true → b ≡ false
is_false true e = absurd (let z : false ≡ true = e in cc)
is_false false e = refl

-- ---- types with values

-- a type is not `void` where something tells them apart
real_by : (test : Ty-F Ty → Bool) → test Ty-F.Void ≡ false → (t : Ty) → test (out-Ty t) ≡ true → t ≢ ty.Void
real_by test void t is e = let z : true ≡ false = sym is ∙ ap (λ u. test (out-Ty u)) e ∙ ap test outs-Void ∙ void in cc

abbrev has_shape_layer : Ty-F Ty → Bool
has_shape_layer (Ty-F.One s) = true
has_shape_layer (Ty-F.Vector s n) = true
has_shape_layer _ = false

shape_told : (layer : Ty-F Ty) (shape : Shape) → shape_kind layer ≡ Some shape → (has_shape_layer layer ≡ true) × (is_runtime_layer layer ≡ false)
shape_told (Ty-F.One s) shape is = (refl, refl)
shape_told (Ty-F.Vector s n) shape is = (refl, refl)
shape_told Ty-F.Void shape is = absurd cc
shape_told (Ty-F.Array a n) shape is = absurd cc
shape_told (Ty-F.Runtime a) shape is = absurd cc
shape_told (Ty-F.Struct k) shape is = absurd cc

pub shaped_real : (t : Ty) (shape : Shape) → shape_of t ≡ Some shape → t ≢ ty.Void
shaped_real t shape is = real_by has_shape_layer refl t (shape_told (out-Ty t) shape is).0

pub shaped_read : (t : Ty) (shape : Shape) → shape_of t ≡ Some shape → is_runtime_layer (out-Ty t) ≡ false
shaped_read t shape is = (shape_told (out-Ty t) shape is).1

value_told : (layer : Ty-F Ty) → is_value_layer layer ≡ true → is_runtime_layer layer ≡ false
value_told (Ty-F.One s) is = refl
value_told (Ty-F.Vector s n) is = refl
value_told Ty-F.Void is = refl
value_told (Ty-F.Array a n) is = refl
value_told (Ty-F.Runtime a) is = absurd (let z : false ≡ true = is in cc)
value_told (Ty-F.Struct k) is = refl

pub value_real : (t : Ty) → IsTrue (is_value_type t) → t ≢ ty.Void
value_real t is = real_by is_value_layer refl t is

pub value_read : (t : Ty) → IsTrue (is_value_type t) → is_runtime_layer (out-Ty t) ≡ false
value_read t is = value_told (out-Ty t) is

pub scalar_shape : (s : Scalar) → shape_of (ty.One s) ≡ Some (s, 1)
scalar_shape s = ap shape_kind (outs-One s)

abbrev is_struct_layer : Ty-F Ty → Bool
is_struct_layer (Ty-F.Struct k) = true
is_struct_layer _ = false

pub struct_real : (t : Ty) (n : ℕ) → t ≡ ty.Struct n → t ≢ ty.Void
struct_real t n is = real_by is_struct_layer refl t (ap (λ u. is_struct_layer (out-Ty u)) is ∙ ap is_struct_layer (ty.outs-Struct n))

abbrev has_element_layer : Ty-F Ty → Bool
has_element_layer (Ty-F.Vector s n) = true
has_element_layer (Ty-F.Array a n) = true
has_element_layer (Ty-F.Runtime a) = true
has_element_layer _ = false

element_told : (layer : Ty-F Ty) (t : Ty) → element_kind layer ≡ Some t → has_element_layer layer ≡ true
element_told (Ty-F.Vector s n) t is = refl
element_told (Ty-F.Array a n) t is = refl
element_told (Ty-F.Runtime a) t is = refl
element_told Ty-F.Void t is = absurd cc
element_told (Ty-F.One s) t is = absurd cc
element_told (Ty-F.Struct k) t is = absurd cc

pub element_real : (base t : Ty) → element_of base ≡ Some t → base ≢ ty.Void
element_real base t is = real_by has_element_layer refl base (element_told (out-Ty base) t is)

pub index_shape : (t : Ty) → IsIndex t → (shape : Shape) × (shape_of t ≡ Some shape)
index_shape t (inl e) = ((Int, 1), ap shape_of e ∙ scalar_shape Int)
index_shape t (inr e) = ((Uint, 1), ap shape_of e ∙ scalar_shape Uint)

-- the length that a type tells is a word
pub length_small : (count : ℕ) (t : Ty) → IsSound count t → has_fixed_length t ≡ true → length_of t < 2 ^ 32
length_small count t known fixed = by (out-Ty t) (roll-out-Ty t) fixed
  where
    by : (layer : Ty-F Ty) → roll-Ty layer ≡ t → is_fixed_kind layer ≡ true → length_kind layer < 2 ^ 32
    by (Ty-F.Vector s n) e fixed =
        let parts : IsTrue (nat_le 2 n && nat_le n 4) = sym (fold-roll-Ty Bool (sound_kind count) (Ty-F.Vector s n)) ∙ subst (IsSound count) (sym e) known in
        omega (arith, leb-true n 4 (and_parts (nat_le 2 n) (nat_le n 4) parts).1)
    by (Ty-F.Array element n) e fixed =
        let parts : IsTrue ((nat_le 1 n && nat_lt n (2 ^ 32)) && sound count element) = sym (fold-roll-Ty Bool (sound_kind count) (Ty-F.Array element n)) ∙ subst (IsSound count) (sym e) known in
        ltb-true n (2 ^ 32) (and_parts (nat_le 1 n) (nat_lt n (2 ^ 32)) (and_parts (nat_le 1 n && nat_lt n (2 ^ 32)) (sound count element) parts).0).1
    by Ty-F.Void e fixed = absurd (let z : false ≡ true = fixed in cc)
    by (Ty-F.One s) e fixed = absurd (let z : false ≡ true = fixed in cc)
    by (Ty-F.Runtime element) e fixed = absurd (let z : false ≡ true = fixed in cc)
    by (Ty-F.Struct number) e fixed = absurd (let z : false ≡ true = fixed in cc)

pub plain_real : (t : Ty) → IsTrue (is_plain t) → t ≢ ty.Void
plain_real t is e = let z : true ≡ false = sym is ∙ ap is_plain (e ∙ sym rolls-Void) ∙ fold-roll-Ty Bool is_plain_kind Ty-F.Void in cc

-- ---- conversions

integers : (a b : Scalar) → serves a b ≡ true → a ≢ b → is_integer b ≡ true
integers Boolean Boolean is differ = absurd (differ refl)
integers Int Int is differ = refl
integers Int Uint is differ = refl
integers Uint Uint is differ = refl
integers Boolean Int is differ = absurd (let z : false ≡ true = is in cc)
integers Boolean Uint is differ = absurd (let z : false ≡ true = is in cc)
integers Int Boolean is differ = absurd (let z : false ≡ true = is in cc)
integers Uint Boolean is differ = absurd (let z : false ≡ true = is in cc)
integers Uint Int is differ = absurd (let z : false ≡ true = is in cc)

-- what converts to another type is of integers
pub record Converts (a t : Ty) : Type 0 where
  pub from : Shape
  pub to : Shape
  pub of : shape_of a ≡ Some from
  pub gives : shape_of t ≡ Some to
  pub integer : is_integer to.0 ≡ true

pub conversion_of : (a t : Ty) → IsTrue (converts a t) → a ≢ t → Converts a t
conversion_of a t is differ = by (out-Ty a) (out-Ty t) refl refl (roll-out-Ty a) (roll-out-Ty t) is
  where
    by : (x y : Ty-F Ty) → out-Ty a ≡ x → out-Ty t ≡ y → roll-Ty (out-Ty a) ≡ a → roll-Ty (out-Ty t) ≡ t → converts_open x y ≡ true → Converts a t
    by (Ty-F.One s) (Ty-F.One u) p q from to is = record {
      from = (s, 1);
      to = (u, 1);
      of = ap shape_kind p;
      gives = ap shape_kind q;
      integer = integers s u is (λ e. differ (sym from ∙ ap roll-Ty (p ∙ ap (λ k. Ty-F.One k) e ∙ sym q) ∙ to));
    }
    by (Ty-F.Vector s n) (Ty-F.Vector u k) p q from to is =
        let both = and_parts (nat_eq n k) (serves s u) is in
        record {
          from = (s, n);
          to = (u, k);
          of = ap shape_kind p;
          gives = ap shape_kind q;
          integer = integers s u both.1 (λ e. differ (sym from ∙ ap roll-Ty (p ∙ ap (λ c. Ty-F.Vector s c) (eqb-true n k both.0) ∙ ap (λ c. Ty-F.Vector c k) e ∙ sym q) ∙ to));
        }
    by _ _ p q from to is = absurd (let z : false ≡ true = is in cc)
