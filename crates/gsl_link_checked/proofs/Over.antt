-- Types whose structs pass a test, and what new numbers tell of them.
use Rattle.std.proofs.Common.{◌≡◌, refl, sym, ap, ◌∙◌, subst, ℕ, Bool, true, IsTrue, List}
use Rattle.gsl_types.specs.declared.ty.Scalar.{Scalar}
use Rattle.gsl_types.specs.declared.ty.Ty.{Ty}
use Rattle.gsl_types.specs.declared.ty.Ty.TheOpen.{Ty-F}
use Rattle.gsl_types.specs.declared.ty.Ty.TheViews.{out-Ty, roll-Ty, roll-out-Ty, out-roll-Ty}
use Rattle.gsl_types.specs.declared.ty.Ty.TheVariants as ty
use Rattle.gsl_types.specs.declared.ty.Ty.TheVariants.{rolls-Array, rolls-Runtime, rolls-Struct, rolls-Vector, rolls-One, rolls-Void}
use Rattle.gsl_types.specs.declared.ty.Ty.TheFolds.{fold-Ty, fold-roll-Ty, ind-Ty, map-Ty}
use Rattle.gsl_link_units.specs.Types.{new_number, retyped, retyped_layer}

-- ---- the test

abbrev pub over_layer : (ℕ → Bool) → Ty-F Bool → Bool
over_layer test Ty-F.Void = true
over_layer test (Ty-F.One s) = true
over_layer test (Ty-F.Vector s n) = true
over_layer test (Ty-F.Array element n) = element
over_layer test (Ty-F.Runtime element) = element
over_layer test (Ty-F.Struct number) = test number

-- whether the struct in a type passes
abbrev pub is_over : (ℕ → Bool) → Ty → Bool
is_over test = fold-Ty Bool (over_layer test)

abbrev pub IsOver : (ℕ → Bool) → Ty → Type 0
IsOver test t = IsTrue (is_over test t)

module _ (test : ℕ → Bool) where
  pub over_void : IsOver test ty.Void
  over_void = ap (is_over test) (sym rolls-Void) ∙ fold-roll-Ty Bool (over_layer test) Ty-F.Void

  pub over_one : (s : Scalar) → IsOver test (ty.One s)
  over_one s = ap (is_over test) (sym (rolls-One s)) ∙ fold-roll-Ty Bool (over_layer test) (Ty-F.One s)

  pub over_vector : (s : Scalar) (n : ℕ) → IsOver test (ty.Vector s n)
  over_vector s n = ap (is_over test) (sym (rolls-Vector s n)) ∙ fold-roll-Ty Bool (over_layer test) (Ty-F.Vector s n)

  pub over_array : (e : Ty) (n : ℕ) → IsOver test e → IsOver test (ty.Array e n)
  over_array e n is = ap (is_over test) (sym (rolls-Array e n)) ∙ fold-roll-Ty Bool (over_layer test) (Ty-F.Array e n) ∙ is

  pub over_struct : (k : ℕ) → test k ≡ true → IsOver test (ty.Struct k)
  over_struct k is = ap (is_over test) (sym (rolls-Struct k)) ∙ fold-roll-Ty Bool (over_layer test) (Ty-F.Struct k) ∙ is

-- ---- a test that passes more

module _ (few many : ℕ → Bool) (more : (k : ℕ) → few k ≡ true → many k ≡ true) where
  abbrev Stays : Ty → Type 0
  Stays t = IsOver few t → IsOver many t

  stays_layer : (y : Ty-F ((t : Ty) × Stays t)) → Stays (roll-Ty (map-Ty _ _ (λ e. e.0) y))
  stays_layer Ty-F.Void is = fold-roll-Ty Bool (over_layer many) Ty-F.Void
  stays_layer (Ty-F.One x) is = fold-roll-Ty Bool (over_layer many) (Ty-F.One x)
  stays_layer (Ty-F.Vector x n) is = fold-roll-Ty Bool (over_layer many) (Ty-F.Vector x n)
  stays_layer (Ty-F.Array e n) is = fold-roll-Ty Bool (over_layer many) (Ty-F.Array e.0 n) ∙ e.1 (sym (fold-roll-Ty Bool (over_layer few) (Ty-F.Array e.0 n)) ∙ is)
  stays_layer (Ty-F.Runtime e) is = fold-roll-Ty Bool (over_layer many) (Ty-F.Runtime e.0) ∙ e.1 (sym (fold-roll-Ty Bool (over_layer few) (Ty-F.Runtime e.0)) ∙ is)
  stays_layer (Ty-F.Struct k) is = fold-roll-Ty Bool (over_layer many) (Ty-F.Struct k) ∙ more k (sym (fold-roll-Ty Bool (over_layer few) (Ty-F.Struct k)) ∙ is)

  pub over_more : (t : Ty) → IsOver few t → IsOver many t
  over_more = ind-Ty Stays (λ x y is. subst (λ z. Stays (roll-Ty z)) is (stays_layer y))

-- ---- new numbers

module _ (numbers : List ℕ) where
  -- a layer with new numbers
  abbrev relayered : Ty-F Ty → Ty-F Ty
  relayered Ty-F.Void = Ty-F.Void
  relayered (Ty-F.One s) = Ty-F.One s
  relayered (Ty-F.Vector s n) = Ty-F.Vector s n
  relayered (Ty-F.Array element n) = Ty-F.Array (retyped numbers element) n
  relayered (Ty-F.Runtime element) = Ty-F.Runtime (retyped numbers element)
  relayered (Ty-F.Struct number) = Ty-F.Struct (new_number numbers number)

  rolled : (x : Ty-F Ty) → retyped_layer numbers (map-Ty _ _ (retyped numbers) x) ≡ roll-Ty (relayered x)
  rolled Ty-F.Void = sym rolls-Void
  rolled (Ty-F.One s) = sym (rolls-One s)
  rolled (Ty-F.Vector s n) = sym (rolls-Vector s n)
  rolled (Ty-F.Array e n) = sym (rolls-Array (retyped numbers e) n)
  rolled (Ty-F.Runtime e) = sym (rolls-Runtime (retyped numbers e))
  rolled (Ty-F.Struct k) = sym (rolls-Struct (new_number numbers k))

  out_retyped : (x : Ty-F Ty) → out-Ty (retyped numbers (roll-Ty x)) ≡ relayered x
  out_retyped x = ap out-Ty (fold-roll-Ty Ty (retyped_layer numbers) x ∙ rolled x) ∙ out-roll-Ty (relayered x)

  module _ (test : ℕ → Bool) (one : (k l : ℕ) → test k ≡ true → test l ≡ true → new_number numbers k ≡ new_number numbers l → k ≡ l) where
    abbrev Stay : Ty → Type 0
    Stay a = (b : Ty) → IsOver test a → IsOver test b → retyped numbers a ≡ retyped numbers b → a ≡ b

    over_rolled : (x : Ty-F Ty) → IsOver test (roll-Ty x) → IsTrue (over_layer test (map-Ty _ _ (is_over test) x))
    over_rolled x is = sym (fold-roll-Ty Bool (over_layer test) x) ∙ is

    -- layers that have one new layer are one
    layers_one : (x : Ty-F ((a : Ty) × Stay a)) (y : Ty-F Ty) → IsTrue (over_layer test (map-Ty _ _ (is_over test) (map-Ty _ _ (λ e. e.0) x))) → IsTrue (over_layer test (map-Ty _ _ (is_over test) y))
        → relayered (map-Ty _ _ (λ e. e.0) x) ≡ relayered y → map-Ty _ _ (λ e. e.0) x ≡ y
    layers_one Ty-F.Void Ty-F.Void over also same = refl
    layers_one (Ty-F.One s) (Ty-F.One t) over also same = same
    layers_one (Ty-F.Vector s n) (Ty-F.Vector t m) over also same = same
    layers_one (Ty-F.Array a n) (Ty-F.Array b m) over also same = ap (λ e. Ty-F.Array e n) (a.1 b over also (array_of same)) ∙ ap (λ k. Ty-F.Array b k) (count_of same)
      where
        array_of : Ty-F.Array (retyped numbers a.0) n ≡ Ty-F.Array (retyped numbers b) m → retyped numbers a.0 ≡ retyped numbers b
        array_of is = cc

        count_of : Ty-F.Array (retyped numbers a.0) n ≡ Ty-F.Array (retyped numbers b) m → n ≡ m
        count_of is = cc
    layers_one (Ty-F.Runtime a) (Ty-F.Runtime b) over also same = ap Ty-F.Runtime (a.1 b over also (element_of same))
      where
        element_of : Ty-F.Runtime (retyped numbers a.0) ≡ Ty-F.Runtime (retyped numbers b) → retyped numbers a.0 ≡ retyped numbers b
        element_of is = cc
    layers_one (Ty-F.Struct k) (Ty-F.Struct l) over also same = ap Ty-F.Struct (one k l over also (number_of same))
      where
        number_of : ◌≡◌ {A = Ty-F Ty} (Ty-F.Struct (new_number numbers k)) (Ty-F.Struct (new_number numbers l)) → new_number numbers k ≡ new_number numbers l
        number_of is = cc
    layers_one _ _ over also same = cc

    stay_rolled : (x : Ty-F ((a : Ty) × Stay a)) → Stay (roll-Ty (map-Ty _ _ (λ e. e.0) x))
    stay_rolled x b over also same =
        let z = map-Ty _ _ (λ (e : (a : Ty) × Stay a). e.0) x in
        let back : b ≡ roll-Ty (out-Ty b) = sym (roll-out-Ty b) in
        let layers = sym (out_retyped z) ∙ ap out-Ty same ∙ ap (λ t. out-Ty (retyped numbers t)) back ∙ out_retyped (out-Ty b) in
        ap roll-Ty (layers_one x (out-Ty b) (over_rolled z over) (over_rolled (out-Ty b) (subst (IsOver test) back also)) layers) ∙ roll-out-Ty b

    -- types over structs that pass are one where their new numbers are
    pub retyped_one : (a : Ty) → Stay a
    retyped_one = ind-Ty Stay (λ x y is. subst (λ z. Stay (roll-Ty z)) is (stay_rolled y))
