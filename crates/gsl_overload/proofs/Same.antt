-- Types that pass the test are one, and no others do.
use Rattle.std.proofs.Common.{◌≡◌, refl, sym, ap, ◌∙◌, subst, ℕ, Bool, false, IsTrue, nat_eq}
use Rattle.std.proofs.lemmas.Bool.{and_parts, and_from, true≢false, eqb-true, eq-eqb}
use Rattle.gsl_types.specs.declared.ty.Scalar.{Scalar}
use Rattle.gsl_types.specs.declared.ty.Scalar.TheVariants.{Bool as Boolean, Int, Uint}
use Rattle.gsl_types.specs.declared.ty.Ty.{Ty}
use Rattle.gsl_types.specs.declared.ty.Ty.TheOpen.{Ty-F}
use Rattle.gsl_types.specs.declared.ty.Ty.TheViews.{out-Ty, roll-Ty, out-roll-Ty, roll-out-Ty}
use Rattle.gsl_types.specs.declared.ty.Ty.TheFolds.{fold-roll-Ty, ind-Ty, map-Ty}
use Rattle.gsl_overload.specs.Identity.{identical, identical_scalar, identical_layer}

pub no_more : {X : Type 0} → IsTrue false → X
no_more is = let never : ⊥ = true≢false (sym is) in elim never [ ]

scalar_is : (s t : Scalar) → IsTrue (identical_scalar s t) → s ≡ t
scalar_is Boolean Boolean is = refl
scalar_is Int Int is = refl
scalar_is Uint Uint is = refl
scalar_is Boolean Int is = no_more is
scalar_is Boolean Uint is = no_more is
scalar_is Int Boolean is = no_more is
scalar_is Int Uint is = no_more is
scalar_is Uint Boolean is = no_more is
scalar_is Uint Int is = no_more is

number_is : (n m : ℕ) → IsTrue (nat_eq n m) → n ≡ m
number_is n m is = eqb-true n m is

abbrev Same : Ty → Type 0
Same a = (b : Ty) → IsTrue (identical a b) → a ≡ b

-- a layer whose parts are one where they pass
identical_is_layer : (x : Ty-F ((a : Ty) × Same a)) (y : Ty-F Ty) → IsTrue (identical_layer (map-Ty _ _ (λ e. identical e.0) x) y) → map-Ty _ _ (λ e. e.0) x ≡ y
identical_is_layer Ty-F.Void Ty-F.Void is = refl
identical_is_layer (Ty-F.One s) (Ty-F.One t) is = ap Ty-F.One (scalar_is s t is)
identical_is_layer (Ty-F.Vector s n) (Ty-F.Vector t m) is = let p = and_parts (nat_eq n m) (identical_scalar s t) is in ap (λ k. Ty-F.Vector s k) (number_is n m p.0) ∙ ap (λ k. Ty-F.Vector k m) (scalar_is s t p.1)
identical_is_layer (Ty-F.Array a n) (Ty-F.Array b m) is = let p = and_parts (nat_eq n m) (identical a.0 b) is in ap (λ k. Ty-F.Array a.0 k) (number_is n m p.0) ∙ ap (λ k. Ty-F.Array k m) (a.1 b p.1)
identical_is_layer (Ty-F.Runtime a) (Ty-F.Runtime b) is = ap Ty-F.Runtime (a.1 b is)
identical_is_layer (Ty-F.Struct n) (Ty-F.Struct m) is = ap Ty-F.Struct (number_is n m is)
identical_is_layer _ _ is = no_more is

opened : (x : Ty-F Ty) (b : Ty) → identical (roll-Ty x) b ≡ identical_layer (map-Ty _ _ identical x) (out-Ty b)
opened x b = ap (λ (f : Ty → Bool). f b) (fold-roll-Ty (Ty → Bool) (λ layer other. identical_layer layer (out-Ty other)) x)

maps : (x : Ty-F ((a : Ty) × Same a)) → map-Ty _ _ identical (map-Ty _ _ (λ e. e.0) x) ≡ map-Ty _ _ (λ e. identical e.0) x
maps Ty-F.Void = refl
maps (Ty-F.One s) = refl
maps (Ty-F.Vector s n) = refl
maps (Ty-F.Array a n) = refl
maps (Ty-F.Runtime a) = refl
maps (Ty-F.Struct n) = refl

same_rolled : (x : Ty-F ((a : Ty) × Same a)) → Same (roll-Ty (map-Ty _ _ (λ e. e.0) x))
same_rolled x b is =
    let layers : IsTrue (identical_layer (map-Ty _ _ (λ e. identical e.0) x) (out-Ty b)) = ap (λ l. identical_layer l (out-Ty b)) (sym (maps x)) ∙ sym (opened (map-Ty _ _ (λ e. e.0) x) b) ∙ is in
    ap roll-Ty (identical_is_layer x (out-Ty b) layers) ∙ roll-out-Ty b

pub same_is : (a : Ty) → Same a
same_is = ind-Ty Same (λ x y is. subst (λ z. Same (roll-Ty z)) is (same_rolled y))

-- ---- and the other way round

scalar_itself : (s : Scalar) → IsTrue (identical_scalar s s)
scalar_itself Boolean = refl
scalar_itself Int = refl
scalar_itself Uint = refl

itself_layer : (x : Ty-F ((a : Ty) × IsTrue (identical a a))) → IsTrue (identical_layer (map-Ty _ _ identical (map-Ty _ _ (λ e. e.0) x)) (map-Ty _ _ (λ e. e.0) x))
itself_layer Ty-F.Void = refl
itself_layer (Ty-F.One s) = scalar_itself s
itself_layer (Ty-F.Vector s n) = and_from (nat_eq n n) (identical_scalar s s) (eq-eqb n n refl) (scalar_itself s)
itself_layer (Ty-F.Array a n) = and_from (nat_eq n n) (identical a.0 a.0) (eq-eqb n n refl) a.1
itself_layer (Ty-F.Runtime a) = a.1
itself_layer (Ty-F.Struct n) = eq-eqb n n refl

itself_rolled : (x : Ty-F ((a : Ty) × IsTrue (identical a a))) → IsTrue (identical (roll-Ty (map-Ty _ _ (λ e. e.0) x)) (roll-Ty (map-Ty _ _ (λ e. e.0) x)))
itself_rolled x = opened (map-Ty _ _ (λ e. e.0) x) (roll-Ty (map-Ty _ _ (λ e. e.0) x)) ∙ ap (identical_layer (map-Ty _ _ identical (map-Ty _ _ (λ e. e.0) x))) (out-roll-Ty (map-Ty _ _ (λ e. e.0) x)) ∙ itself_layer x

pub same_itself : (a : Ty) → IsTrue (identical a a)
same_itself = ind-Ty (λ a. IsTrue (identical a a)) (λ x y is. subst (λ z. IsTrue (identical (roll-Ty z) (roll-Ty z))) is (itself_rolled y))
