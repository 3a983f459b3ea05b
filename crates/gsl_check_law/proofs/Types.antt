-- Types as operators see them: their shapes, and what serves as what.
use Rattle.std.proofs.Common.{◌≡◌, ◌≢◌, refl, sym, ap, ◌∙◌, subst, ℕ, ◌≤◌, max, Bool, true, false, ◌&&◌, ◌||◌, IsTrue, nat_eq, nat_le, Some, None, arith, is_some, unwrap_or, if◌then◌else◌}
use Rattle.std.proofs.lemmas.Bool.{and_parts, and_from, or_left, or_right, true≢false, eqb-true, eq-eqb, leb-true, le-leb}
use Rattle.std.proofs.lemmas.Option.{none-some}
use Rattle.gsl_types.specs.Conversions.{converts, converts_open, serves}
use Rattle.gsl_types.specs.Known.{IsSound, sound, sound_kind}
use Rattle.gsl_types.specs.declared.ty.Scalar.{Scalar}
use Rattle.gsl_types.specs.declared.ty.Scalar.TheVariants.{Bool as Boolean, Int, Uint}
use Rattle.gsl_types.specs.declared.ty.Ty.{Ty}
use Rattle.gsl_types.specs.declared.ty.Ty.TheOpen.{Ty-F}
use Rattle.gsl_types.specs.declared.ty.Ty.TheViews.{out-Ty, roll-Ty, roll-out-Ty}
use Rattle.gsl_types.specs.declared.ty.Ty.TheFolds.{fold-roll-Ty}
use Rattle.gsl_types.specs.declared.ty.Ty.TheVariants as ty
use Rattle.gsl_types.specs.declared.ty.Ty.TheVariants.{rolls-One, rolls-Vector, rolls-Void, outs-One, outs-Vector}
use Rattle.gsl_overload.specs.Identity.{identical}
use Rattle.gsl_overload.proofs.Same.{same_is, same_itself, no_more}
use Rattle.gsl_tree.specs.Shapes.{Shape, shape_of, shape_kind, of_shape}
use Rattle.gsl_tree.specs.Expressions.{is_runtime_layer, is_value_type, is_value_layer}
use Rattle.gsl_typing.specs.Conversions.{serves_as, common, joint}

-- ---- what serves

pub serves_parts : (a b : Ty) → IsTrue (serves_as a b) → IsTrue (identical a b || converts a b)
unfolding serves_as
serves_parts a b is = is

pub serves_converted : (a b : Ty) → IsTrue (converts a b) → IsTrue (serves_as a b)
unfolding serves_as
serves_converted a b is = or_right (identical a b) (converts a b) is

pub serves_itself : (a : Ty) → IsTrue (serves_as a a)
unfolding serves_as
serves_itself a = or_left (identical a a) (converts a a) (same_itself a)

-- both operands serve as the type that they have in common
common_serves : (a b : Ty) (one other : Bool) → serves_as a b ≡ one → serves_as b a ≡ other → IsTrue (is_some (if one then Some b else (if other then Some a else None)))
    → IsTrue (serves_as a (unwrap_or (if one then Some b else (if other then Some a else None)) ty.Void)) × IsTrue (serves_as b (unwrap_or (if one then Some b else (if other then Some a else None)) ty.Void))
common_serves a b true other first second has = (first, serves_itself b)
common_serves a b false true first second has = (serves_itself a, second)
common_serves a b false false first second has = no_more has

pub both_serve : (a b : Ty) → IsTrue (is_some (common a b)) → IsTrue (serves_as a (joint a b)) × IsTrue (serves_as b (joint a b))
unfolding common
both_serve a b has = common_serves a b (serves_as a b) (serves_as b a) refl refl has

-- the type in common is that of one of the two
pub joint_sound : (count : ℕ) (a b : Ty) → IsSound count a → IsSound count b → IsTrue (is_some (common a b)) → IsSound count (joint a b)
unfolding common
joint_sound count a b first second has = by_two (serves_as a b) (serves_as b a) has
  where
    by_two : (one other : Bool) → IsTrue (is_some (if one then Some b else (if other then Some a else None))) → IsSound count (unwrap_or (if one then Some b else (if other then Some a else None)) ty.Void)
    by_two true other some = second
    by_two false true some = first
    by_two false false some = no_more some

-- ---- what has a shape

-- counts of components
pub record IsCount (n : ℕ) : Type 0 where
  pub least : 1 ≤ n
  pub most : n ≤ 4

one_count : IsCount 1
one_count = record { least = omega arith; most = omega arith }

pub flag_count : IsCount 1
flag_count = one_count

pub max_count : (n m : ℕ) → IsCount n → IsCount m → IsCount (max n m)
max_count n m a b =
    let p = a.least in
    let q = b.least in
    let r = a.most in
    let s = b.most in
    record { least = omega (arith, p, q); most = omega (arith, r, s) }

-- a scalar or vector is that of its shape
module _ (count : ℕ) where
  vector_shape : (s : Scalar) (n : ℕ) → IsTrue (nat_le 2 n && nat_le n 4) → (of_shape (s, n) ≡ ty.Vector s n) × IsCount n
  vector_shape s n is =
      let parts = and_parts (nat_le 2 n) (nat_le n 4) is in
      let least = leb-true 2 n parts.0 in
      let most = leb-true n 4 parts.1 in
      (by_test (nat_eq n 1) refl least, record { least = omega (arith, least); most = most })
    where
      by_test : (b : Bool) → nat_eq n 1 ≡ b → 2 ≤ n → (if b then ty.One s else ty.Vector s n) ≡ ty.Vector s n
      by_test true is least = let one = eqb-true n 1 is in let no : ⊥ = omega (arith, least, one) in elim no [ ]
      by_test false is least = refl

  shaped : (layer : Ty-F Ty) (x : Shape) → shape_kind layer ≡ Some x → IsSound count (roll-Ty layer) → (of_shape x ≡ roll-Ty layer) × IsCount x.1
  shaped Ty-F.Void x is known = elim (none-some x is) [ ]
  shaped (Ty-F.One s) x is known =
      let same : (s, 1) ≡ x = ap (λ o. unwrap_or o x) is in
      subst (λ (y : Shape). (of_shape y ≡ roll-Ty (Ty-F.One s)) × IsCount y.1) same (sym (rolls-One s), one_count)
  shaped (Ty-F.Vector s n) x is known =
      let same : (s, n) ≡ x = ap (λ o. unwrap_or o x) is in
      let fine = vector_shape s n (sym (fold-roll-Ty Bool (sound_kind count) (Ty-F.Vector s n)) ∙ known) in
      subst (λ (y : Shape). (of_shape y ≡ roll-Ty (Ty-F.Vector s n)) × IsCount y.1) same (fine.0 ∙ sym (rolls-Vector s n), fine.1)
  shaped (Ty-F.Array e n) x is known = elim (none-some x is) [ ]
  shaped (Ty-F.Runtime e) x is known = elim (none-some x is) [ ]
  shaped (Ty-F.Struct n) x is known = elim (none-some x is) [ ]

  pub shape_is : (t : Ty) (x : Shape) → shape_of t ≡ Some x → IsSound count t → (of_shape x ≡ t) × IsCount x.1
  shape_is t x is known =
      let fine = shaped (out-Ty t) x is (ap (sound count) (roll-out-Ty t) ∙ known) in
      (fine.0 ∙ roll-out-Ty t, fine.1)

-- and the other way round
shape_back_by : (s : Scalar) (n : ℕ) (b : Bool) → nat_eq n 1 ≡ b → shape_of (if b then ty.One s else ty.Vector s n) ≡ Some (s, n)
shape_back_by s n true is = ap shape_kind (outs-One s) ∙ ap (λ (k : ℕ). Some (s, k)) (sym (eqb-true n 1 is))
shape_back_by s n false is = ap shape_kind (outs-Vector s n)

pub shape_back : (x : Shape) → shape_of (of_shape x) ≡ Some x
shape_back x = shape_back_by x.0 x.1 (nat_eq x.1 1) refl

sound_shape_by : (count : ℕ) (s : Scalar) (n : ℕ) (b : Bool) → nat_eq n 1 ≡ b → IsCount n → IsSound count (if b then ty.One s else ty.Vector s n)
sound_shape_by count s n true is known = ap (sound count) (sym (rolls-One s)) ∙ fold-roll-Ty Bool (sound_kind count) (Ty-F.One s)
sound_shape_by count s n false is known =
    let apart : n ≢ 1 = λ same. true≢false (sym (eq-eqb n 1 same) ∙ is) in
    let least = known.least in
    let most = known.most in
    ap (sound count) (sym (rolls-Vector s n)) ∙ fold-roll-Ty Bool (sound_kind count) (Ty-F.Vector s n)
    ∙ and_from (nat_le 2 n) (nat_le n 4) (le-leb 2 n (omega (arith, apart, least))) (le-leb n 4 most)

pub sound_shape : (count : ℕ) (x : Shape) → IsCount x.1 → IsSound count (of_shape x)
sound_shape count x known = sound_shape_by count x.0 x.1 (nat_eq x.1 1) refl known

-- ---- what serves, by shapes

converts_shapes_by : (s t : Scalar) (n : ℕ) (b : Bool) → IsTrue (serves s t) → IsTrue (converts (if b then ty.One s else ty.Vector s n) (if b then ty.One t else ty.Vector t n))
converts_shapes_by s t n true is = ap (λ x. converts_open x (out-Ty (ty.One t))) (outs-One s) ∙ ap (λ x. converts_open (Ty-F.One s) x) (outs-One t) ∙ is
converts_shapes_by s t n false is =
    ap (λ x. converts_open x (out-Ty (ty.Vector t n))) (outs-Vector s n) ∙ ap (λ x. converts_open (Ty-F.Vector s n) x) (outs-Vector t n) ∙ and_from (nat_eq n n) (serves s t) (eq-eqb n n refl) is

pub serves_shapes : (s t : Scalar) (n : ℕ) → IsTrue (serves s t) → IsTrue (serves_as (of_shape (s, n)) (of_shape (t, n)))
serves_shapes s t n is = serves_converted (of_shape (s, n)) (of_shape (t, n)) (converts_shapes_by s t n (nat_eq n 1) is)

-- what converts is a scalar or vector, and what it converts to
converts_shaped : (x y : Ty-F Ty) → IsTrue (converts_open x y) → (s : Scalar) × (t : Scalar) × (n : ℕ) × (shape_kind x ≡ Some (s, n)) × (shape_kind y ≡ Some (t, n)) × IsTrue (serves s t)
converts_shaped (Ty-F.One s) (Ty-F.One t) is = (s, t, 1, refl, refl, is)
converts_shaped (Ty-F.Vector s n) (Ty-F.Vector t m) is =
    let parts = and_parts (nat_eq n m) (serves s t) is in
    (s, t, n, refl, ap (λ (k : ℕ). Some (t, k)) (sym (eqb-true n m parts.0)), parts.1)
converts_shaped _ _ is = no_more is

pub converts_shape : (a b : Ty) → IsTrue (converts a b) → (s : Scalar) × (t : Scalar) × (n : ℕ) × (shape_of a ≡ Some (s, n)) × (shape_of b ≡ Some (t, n)) × IsTrue (serves s t)
converts_shape a b is = converts_shaped (out-Ty a) (out-Ty b) is

serves_same : (s : Scalar) → IsTrue (serves s s)
serves_same Boolean = refl
serves_same Int = refl
serves_same Uint = refl

-- of two shapes that serve, the scalars do, and they have one count
pub shapes_serve : (x y : Shape) → IsTrue (serves_as (of_shape x) (of_shape y)) → IsTrue (serves x.0 y.0) × (x.1 ≡ y.1)
shapes_serve x y is = by_test (identical (of_shape x) (of_shape y)) refl
  where
    by_test : (b : Bool) → identical (of_shape x) (of_shape y) ≡ b → IsTrue (serves x.0 y.0) × (x.1 ≡ y.1)
    by_test true same =
        let one : x ≡ y = ap (λ o. unwrap_or o x) (sym (shape_back x) ∙ ap shape_of (same_is (of_shape x) (of_shape y) same) ∙ shape_back y) in
        (subst (λ (z : Shape). IsTrue (serves x.0 z.0)) one (serves_same x.0), ap (λ (z : Shape). z.1) one)
    by_test false differ =
        let how = converts_shape (of_shape x) (of_shape y) (sym (ap (λ b. b || converts (of_shape x) (of_shape y)) differ) ∙ serves_parts (of_shape x) (of_shape y) is) in
        let first : x ≡ (how.0, how.2) = ap (λ o. unwrap_or o x) (sym (shape_back x) ∙ how.3) in
        let second : y ≡ (how.1, how.2) = ap (λ o. unwrap_or o y) (sym (shape_back y) ∙ how.4) in
        (ap (λ (z : Shape). serves z.0 y.0) first ∙ ap (λ (z : Shape). serves how.0 z.0) second ∙ how.5, ap (λ (z : Shape). z.1) first ∙ sym (ap (λ (z : Shape). z.1) second))

-- scalars that serve as each other are one
pub serves_both : (s t : Scalar) → IsTrue (serves s t) → IsTrue (serves t s) → s ≡ t
serves_both Boolean Boolean a b = refl
serves_both Int Int a b = refl
serves_both Uint Uint a b = refl
serves_both Int Uint a b = no_more b
serves_both Uint Int a b = no_more a
serves_both Boolean Int a b = no_more a
serves_both Boolean Uint a b = no_more a
serves_both Int Boolean a b = no_more a
serves_both Uint Boolean a b = no_more a

-- ---- what is no runtime array

shape_layer_settled : (layer : Ty-F Ty) (x : Shape) → shape_kind layer ≡ Some x → is_runtime_layer layer ≡ false
shape_layer_settled Ty-F.Void x is = refl
shape_layer_settled (Ty-F.One s) x is = refl
shape_layer_settled (Ty-F.Vector s n) x is = refl
shape_layer_settled (Ty-F.Array e n) x is = refl
shape_layer_settled (Ty-F.Struct n) x is = refl
shape_layer_settled (Ty-F.Runtime e) x is = elim (none-some x is) [ ]

-- a type that is no runtime array
abbrev pub IsSettled : Ty → Type 0
IsSettled t = is_runtime_layer (out-Ty t) ≡ false

pub shape_settled : (t : Ty) (x : Shape) → shape_of t ≡ Some x → IsSettled t
shape_settled t x is = shape_layer_settled (out-Ty t) x is

value_layer_settled : (layer : Ty-F Ty) → IsTrue (is_value_layer layer) → is_runtime_layer layer ≡ false
value_layer_settled Ty-F.Void is = refl
value_layer_settled (Ty-F.One s) is = refl
value_layer_settled (Ty-F.Vector s n) is = refl
value_layer_settled (Ty-F.Array e n) is = refl
value_layer_settled (Ty-F.Struct n) is = refl
value_layer_settled (Ty-F.Runtime e) is = no_more is

pub value_settled : (t : Ty) → IsTrue (is_value_type t) → IsSettled t
value_settled t is = value_layer_settled (out-Ty t) is

-- what serves as such a type is no runtime array
pub serves_settled : (a b : Ty) → IsTrue (serves_as a b) → IsSettled b → IsSettled a
serves_settled a b is settled = by_test (identical a b) refl
  where
    by_test : (c : Bool) → identical a b ≡ c → IsSettled a
    by_test true same = subst IsSettled (sym (same_is a b same)) settled
    by_test false differ =
        let how = converts_shape a b (sym (ap (λ c. c || converts a b) differ) ∙ serves_parts a b is) in
        shape_settled a (how.0, how.2) how.3

-- what serves as a scalar or vector is one
pub serves_shaped : (a b : Ty) → IsTrue (serves_as a b) → (y : Shape) → shape_of b ≡ Some y → (x : Shape) × (shape_of a ≡ Some x)
serves_shaped a b is y shape = by_test (identical a b) refl
  where
    by_test : (c : Bool) → identical a b ≡ c → (x : Shape) × (shape_of a ≡ Some x)
    by_test true same = (y, ap shape_of (same_is a b same) ∙ shape)
    by_test false differ =
        let how = converts_shape a b (sym (ap (λ c. c || converts a b) differ) ∙ serves_parts a b is) in
        ((how.0, how.2), how.3)
