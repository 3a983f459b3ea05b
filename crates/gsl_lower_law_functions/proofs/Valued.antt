-- What has no parts is a value of no type.
use Rattle.std.proofs.Common.{◌≡◌, sym, ap, ◌∙◌, inl, inr, ◌⊎◌, ℕ, zero, suc, ◌<◌, Bool, true, false, List, [], ◌∷◌, length, map, replicate, arith, nat_lt, ◌^◌, ◌&&◌}
use Rattle.std.specs.Prelude.{nat_le}
use Rattle.std.proofs.lemmas.Bool.{and_parts, ltb-true}
use Rattle.gsl_types.specs.Known.{AreStructs, IsSound, sound, sound_kind}
use Rattle.gsl_types.specs.Structs.{numbered}
use Rattle.gsl_types.specs.declared.ty.Member.{Member}
use Rattle.gsl_types.specs.declared.ty.StructType.{StructType}
use Rattle.gsl_types.specs.declared.ty.Ty.{Ty}
use Rattle.gsl_types.specs.declared.ty.Ty.TheFolds.{fold-roll-Ty}
use Rattle.gsl_types.specs.declared.ty.Ty.TheOpen.{Ty-F}
use Rattle.gsl_types.specs.declared.ty.Ty.TheVariants.{Void, rolls-Array, rolls-One, rolls-Runtime, rolls-Struct, rolls-Vector, rolls-Void}
use Rattle.gsl_types.specs.declared.ty.Ty.TheViews.{out-Ty, roll-Ty, roll-out-Ty}
use Rattle.gsl_types.proofs.Layers.{over_runtime}
use Rattle.gsl_values.specs.declared.value.Value.{Value}
use Rattle.gsl_values.specs.declared.value.Value.TheVariants.{outs-Many}
use Rattle.gsl_tree.specs.Expressions.{member_types}
use Rattle.gsl_tree.specs.Values.{has_parts, has_parts_layer, is_scalar, is_scalar_layer, is_value_of, value_meaning}
use Rattle.gsl_tree.proofs.Nodes.{value_of_array, value_of_one, value_of_vector}
use Rattle.gsl_typed_law.proofs.Built.{value_of_struct}
use Rattle.gsl_meaning.specs.Accesses.{nothing}
use Rattle.gsl_lower_follows.proofs.Holding.{found_among}

-- tests are not passed by no parts
no_parts : (test : Value → Bool) (tests : List (Value → Bool)) → has_parts (test ∷ tests) nothing ≡ false
no_parts test tests = ap (has_parts_layer (test ∷ tests)) (outs-Many [])

some_tests : (n : ℕ) (test : Value → Bool) → (0 < n) → has_parts (replicate n test) nothing ≡ false
some_tests zero test some = absurd (omega (arith, some))
some_tests (suc n) test some = no_parts test (replicate n test)

some_members : (structs : List StructType) (members : List Member) → 0 < length members → has_parts (map (is_value_of structs) (member_types members)) nothing ≡ false
some_members structs [] some = absurd (omega (arith, some))
some_members structs (m ∷ members) some = no_parts (is_value_of structs m.ty) (map (is_value_of structs) (member_types members))

-- a type is Void, or has values with parts alone
pub void_or_parts : (structs : List StructType) (t : Ty) → AreStructs structs → IsSound (length structs) t → (t ≡ Void) ⊎ (is_value_of structs t nothing ≡ false)
void_or_parts structs t are fits = by (out-Ty t) (roll-out-Ty t)
  where
    sound_layer : (layer : Ty-F Ty) → roll-Ty layer ≡ t → sound (length structs) (roll-Ty layer) ≡ true
    sound_layer layer e = ap (sound (length structs)) e ∙ fits

    by : (layer : Ty-F Ty) → roll-Ty layer ≡ t → (t ≡ Void) ⊎ (is_value_of structs t nothing ≡ false)
    by Ty-F.Void e = inl (sym e ∙ rolls-Void)
    by (Ty-F.One s) e = inr (ap (λ x. is_value_of structs x nothing) (sym e ∙ rolls-One s) ∙ value_of_one structs s nothing ∙ ap (is_scalar_layer s) (outs-Many []))
    by (Ty-F.Vector s n) e =
        let many = and_parts (nat_le 2 n) (nat_le n 4) (sym (fold-roll-Ty Bool (sound_kind (length structs)) (Ty-F.Vector s n)) ∙ sound_layer (Ty-F.Vector s n) e) in
        inr (ap (λ x. is_value_of structs x nothing) (sym e ∙ rolls-Vector s n) ∙ value_of_vector structs s n nothing ∙ some_tests n (is_scalar s) (grind (arith, many.0)))
    by (Ty-F.Array a n) e =
        let many = and_parts (nat_le 1 n && nat_lt n (2 ^ 32)) (sound (length structs) a) (sym (fold-roll-Ty Bool (sound_kind (length structs)) (Ty-F.Array a n)) ∙ sound_layer (Ty-F.Array a n) e) in
        inr (ap (λ x. is_value_of structs x nothing) (sym e ∙ rolls-Array a n) ∙ value_of_array structs a n nothing ∙ some_tests n (is_value_of structs a) (grind (arith, (and_parts (nat_le 1 n) (nat_lt n (2 ^ 32)) many.0).0)))
    by (Ty-F.Runtime a) e = inr (ap (λ x. is_value_of structs x nothing) (sym e ∙ rolls-Runtime a) ∙ ap (λ (f : Value → Bool). f nothing) (over_runtime value_meaning (numbered value_meaning structs) a))
    by (Ty-F.Struct k) e =
        let low = ltb-true k (length structs) (sym (fold-roll-Ty Bool (sound_kind (length structs)) (Ty-F.Struct k)) ∙ sound_layer (Ty-F.Struct k) e) in
        let found = found_among structs k low in
        inr (ap (λ x. is_value_of structs x nothing) (sym e ∙ rolls-Struct k) ∙ value_of_struct structs are k found.0 found.1 nothing ∙ some_members structs found.0.members (are k found.0 found.1).some)
