-- Types and members of structs that pass the test for one are one.
use Rattle.std.proofs.Common.{◌≡◌, refl, sym, ap, ◌∙◌, subst, ℕ, Bool, true, false, ◌&&◌, IsTrue, List, [], ◌∷◌, bytes_eq, nat_eq}
use Rattle.std.proofs.lemmas.Bool.{and_parts, and_from, true≢false, eqb-true, eq-eqb}
use Rattle.std.proofs.lemmas.Slice.Eq.{bytes_eq-Decides}
use Rattle.gsl_types.specs.declared.ty.Member.{Member}
use Rattle.gsl_types.specs.declared.ty.Scalar.{Scalar}
use Rattle.gsl_types.specs.declared.ty.Scalar.TheVariants.{Bool as Boolean, Int, Uint}
use Rattle.gsl_types.specs.declared.ty.Ty.{Ty}
use Rattle.gsl_types.specs.declared.ty.Ty.TheOpen.{Ty-F}
use Rattle.gsl_types.specs.declared.ty.Ty.TheViews.{out-Ty, roll-Ty, roll-out-Ty, out-roll-Ty}
use Rattle.gsl_types.specs.declared.ty.Ty.TheFolds.{fold-roll-Ty, ind-Ty, map-Ty}
use Rattle.gsl_tree.specs.Shapes.{same_scalar}
use Rattle.gsl_link_units.specs.Types.{same_type, same_layer}
use Rattle.gsl_link_units.specs.Structs.{same_members}

no_more : {X : Type 0} → IsTrue false → X
no_more is = let never : ⊥ = true≢false (sym is) in elim never [ ]

scalar_is : (s t : Scalar) → IsTrue (same_scalar s t) → s ≡ t
scalar_is Boolean Boolean is = refl
scalar_is Int Int is = refl
scalar_is Uint Uint is = refl
scalar_is Boolean Int is = no_more is
scalar_is Boolean Uint is = no_more is
scalar_is Int Boolean is = no_more is
scalar_is Int Uint is = no_more is
scalar_is Uint Boolean is = no_more is
scalar_is Uint Int is = no_more is

number_is : (n m : ℕ) → IsTrue (nat_eq n m) → n ≡ m
number_is n m is = eqb-true n m is

abbrev Same : Ty → Type 0
Same a = (b : Ty) → IsTrue (same_type a b) → a ≡ b

-- a layer whose parts are one where they pass
layer_is : (x : Ty-F ((a : Ty) × Same a)) (y : Ty-F Ty) → IsTrue (same_layer (map-Ty _ _ (λ e. same_type e.0) x) y) → map-Ty _ _ (λ e. e.0) x ≡ y
layer_is Ty-F.Void Ty-F.Void is = refl
layer_is (Ty-F.One s) (Ty-F.One t) is = ap Ty-F.One (scalar_is s t is)
layer_is (Ty-F.Vector s n) (Ty-F.Vector t m) is =
    let p = and_parts (nat_eq n m) (same_scalar s t) is in ap (λ k. Ty-F.Vector s k) (number_is n m p.0) ∙ ap (λ k. Ty-F.Vector k m) (scalar_is s t p.1)
layer_is (Ty-F.Array a n) (Ty-F.Array b m) is =
    let p = and_parts (nat_eq n m) (same_type a.0 b) is in ap (λ k. Ty-F.Array a.0 k) (number_is n m p.0) ∙ ap (λ k. Ty-F.Array k m) (a.1 b p.1)
layer_is (Ty-F.Runtime a) (Ty-F.Runtime b) is = ap Ty-F.Runtime (a.1 b is)
layer_is (Ty-F.Struct n) (Ty-F.Struct m) is = ap Ty-F.Struct (number_is n m is)
layer_is _ _ is = no_more is

opened : (x : Ty-F Ty) (b : Ty) → same_type (roll-Ty x) b ≡ same_layer (map-Ty _ _ same_type x) (out-Ty b)
opened x b = ap (λ (f : Ty → Bool). f b) (fold-roll-Ty (Ty → Bool) (λ layer other. same_layer layer (out-Ty other)) x)

maps : (x : Ty-F ((a : Ty) × Same a)) → map-Ty _ _ same_type (map-Ty _ _ (λ e. e.0) x) ≡ map-Ty _ _ (λ (e : (a : Ty) × Same a). same_type e.0) x
maps Ty-F.Void = refl
maps (Ty-F.One s) = refl
maps (Ty-F.Vector s n) = refl
maps (Ty-F.Array a n) = refl
maps (Ty-F.Runtime a) = refl
maps (Ty-F.Struct n) = refl

rolled_is : (x : Ty-F ((a : Ty) × Same a)) → Same (roll-Ty (map-Ty _ _ (λ e. e.0) x))
rolled_is x b is =
    let same = ap (λ l. same_layer l (out-Ty b)) (sym (maps x)) ∙ sym (opened (map-Ty _ _ (λ e. e.0) x) b) ∙ is in
    ap roll-Ty (layer_is x (out-Ty b) same) ∙ roll-out-Ty b

-- types that pass are one
pub type_is : (a : Ty) → Same a
type_is = ind-Ty Same (λ x y is. subst (λ z. Same (roll-Ty z)) is (rolled_is y))

abbrev member_of : List ℕ → Ty → Member
member_of name ty = record { name = name; ty = ty }

member_is : (a b : Member) → IsTrue (bytes_eq a.name b.name && same_type a.ty b.ty) → a ≡ b
member_is a b is =
    let p = and_parts (bytes_eq a.name b.name) (same_type a.ty b.ty) is in
    ap (λ n. member_of n a.ty) ((bytes_eq-Decides a.name b.name).0 p.0) ∙ ap (member_of b.name) (type_is a.ty b.ty p.1)

-- members that pass are the same
pub members_are : (a b : List Member) → IsTrue (same_members a b) → a ≡ b
members_are [] [] is = refl
members_are [] (b ∷ bs) is = no_more is
members_are (a ∷ rest) [] is = no_more is
members_are (a ∷ rest) (b ∷ bs) is =
    let p = and_parts (bytes_eq a.name b.name && same_type a.ty b.ty) (same_members rest bs) is in
    ap (λ m. m ∷ rest) (member_is a b p.0) ∙ ap (λ ms. b ∷ ms) (members_are rest bs p.1)

-- ---- a type is one with itself

same_scalars : (s : Scalar) → same_scalar s s ≡ true
same_scalars Boolean = refl
same_scalars Int = refl
same_scalars Uint = refl

same_numbers : (n : ℕ) → nat_eq n n ≡ true
same_numbers n = eq-eqb n n refl

abbrev Itself : Ty → Type 0
Itself t = same_type t t ≡ true

layer_itself : (x : Ty-F ((a : Ty) × Itself a)) → same_layer (map-Ty _ _ (λ (e : (a : Ty) × Itself a). same_type e.0) x) (map-Ty _ _ (λ e. e.0) x) ≡ true
layer_itself Ty-F.Void = refl
layer_itself (Ty-F.One s) = same_scalars s
layer_itself (Ty-F.Vector s n) = and_from (nat_eq n n) (same_scalar s s) (same_numbers n) (same_scalars s)
layer_itself (Ty-F.Array a n) = and_from (nat_eq n n) (same_type a.0 a.0) (same_numbers n) a.1
layer_itself (Ty-F.Runtime a) = a.1
layer_itself (Ty-F.Struct n) = same_numbers n

maps_itself : (x : Ty-F ((a : Ty) × Itself a)) → map-Ty _ _ same_type (map-Ty _ _ (λ e. e.0) x) ≡ map-Ty _ _ (λ (e : (a : Ty) × Itself a). same_type e.0) x
maps_itself Ty-F.Void = refl
maps_itself (Ty-F.One s) = refl
maps_itself (Ty-F.Vector s n) = refl
maps_itself (Ty-F.Array a n) = refl
maps_itself (Ty-F.Runtime a) = refl
maps_itself (Ty-F.Struct n) = refl

rolled_itself : (x : Ty-F ((a : Ty) × Itself a)) → Itself (roll-Ty (map-Ty _ _ (λ e. e.0) x))
rolled_itself x =
    let y = map-Ty _ _ (λ (e : (a : Ty) × Itself a). e.0) x in
    opened y (roll-Ty y) ∙ ap (same_layer (map-Ty _ _ same_type y)) (out-roll-Ty y) ∙ ap (λ l. same_layer l y) (maps_itself x) ∙ layer_itself x

pub type_itself : (t : Ty) → Itself t
type_itself = ind-Ty Itself (λ x y is. subst (λ z. Itself (roll-Ty z)) is (rolled_itself y))
