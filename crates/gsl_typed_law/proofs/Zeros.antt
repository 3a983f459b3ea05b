-- The zero of a type is a value of the type.
use Rattle.std.proofs.Common.{◌≡◌, refl, ap, ◌∙◌, subst, ℕ, zero, suc, ◌<◌, Bool, true, IsTrue, List, [], ◌∷◌, replicate, length, arith, nat_lt, ◌^◌, ◌&&◌}
use Rattle.std.specs.Prelude.{nat_le}
use Rattle.std.specs.List.{AllByRecursion}
use Rattle.std.proofs.lemmas.Bool.{and_from, and_parts, false≢true, ltb-true}
use Rattle.gsl_types.specs.Known.{AreStructs, IsSound, sound, sound_kind, is_plain, is_plain_kind}
use Rattle.gsl_types.specs.Structs.{layer, members_over, numbered, over}
use Rattle.gsl_types.specs.declared.ty.Member.{Member}
use Rattle.gsl_types.specs.declared.ty.Scalar.{Scalar}
use Rattle.gsl_types.specs.declared.ty.Scalar.TheVariants.{Bool as Boolean, Int, Uint}
use Rattle.gsl_types.specs.declared.ty.StructType.{StructType}
use Rattle.gsl_types.specs.declared.ty.Ty.{Ty}
use Rattle.gsl_types.specs.declared.ty.Ty.TheFolds.{fold-roll-Ty, ind-Ty, map-Ty}
use Rattle.gsl_types.specs.declared.ty.Ty.TheOpen.{Ty-F}
use Rattle.gsl_types.specs.declared.ty.Ty.TheViews.{roll-Ty}
use Rattle.gsl_types.proofs.Shapes.{slice_found}
use Rattle.gsl_types.proofs.Structs.{numbered_is}
use Rattle.gsl_values.specs.declared.value.Value.{Value}
use Rattle.gsl_values.specs.declared.value.Value.TheVariants.{Many, Word, outs-Many}
use Rattle.gsl_tree.specs.Values.{all_pass, has_parts, has_parts_layer, is_scalar, is_value_of, is_word_of, tests_of, value_meaning, zero_meaning, zero_value, zeros_of}
use Rattle.gsl_tree.specs.WellTyped.{IsStructDeclared, IsVariableType}
use Rattle.gsl_typed_law.specs.Plain.{ArePlain}
use Rattle.gsl_typed_law.proofs.Components.{scalar_word}

pub many_pass : (tests : List (Value → Bool)) (parts : List Value) → all_pass tests parts ≡ true → has_parts tests (Many parts) ≡ true
many_pass tests parts pass = ap (has_parts_layer tests) (outs-Many parts) ∙ pass

all_zero : (test : Value → Bool) (v : Value) (n : ℕ) → test v ≡ true → all_pass (replicate n test) (replicate n v) ≡ true
all_zero test v zero is = refl
all_zero test v (suc n) is = and_from (test v) (all_pass (replicate n test) (replicate n v)) is (all_zero test v n is)

zero_word : (s : Scalar) → is_word_of s 0 ≡ true
zero_word Boolean = refl
zero_word Int = refl
zero_word Uint = refl

-- ---- types over known structs

module _ (values : ℕ → Value → Bool) (zeros : ℕ → Value) (count : ℕ) (known : (number : ℕ) → number < count → values number (zeros number) ≡ true) where
  abbrev Zero : Ty → Type 0
  Zero t = IsSound count t → IsTrue (is_plain t) → over value_meaning values t (over zero_meaning zeros t) ≡ true

  so : (x : Ty-F Ty) → layer value_meaning values (map-Ty _ _ (over value_meaning values) x) (layer zero_meaning zeros (map-Ty _ _ (over zero_meaning zeros) x)) ≡ true → over value_meaning values (roll-Ty x) (over zero_meaning zeros (roll-Ty x)) ≡ true
  so x is =
      ap (λ (test : Value → Bool). test (over zero_meaning zeros (roll-Ty x))) (fold-roll-Ty (Value → Bool) (layer value_meaning values) x)
      ∙ ap (layer value_meaning values (map-Ty _ _ (over value_meaning values) x)) (fold-roll-Ty Value (layer zero_meaning zeros) x) ∙ is

  sound_of : (x : Ty-F Ty) → IsSound count (roll-Ty x) → IsTrue (sound_kind count (map-Ty _ _ (sound count) x))
  sound_of x is = subst IsTrue (fold-roll-Ty Bool (sound_kind count) x) is

  plain_of : (x : Ty-F Ty) → IsTrue (is_plain (roll-Ty x)) → IsTrue (is_plain_kind (map-Ty _ _ is_plain x))
  plain_of x is = subst IsTrue (fold-roll-Ty Bool is_plain_kind x) is

  by_layer : (y : Ty-F ((t : Ty) × Zero t)) → Zero (roll-Ty (map-Ty _ _ (λ e. e.0) y))
  by_layer Ty-F.Void sound plain = absurd (false≢true (plain_of Ty-F.Void plain))
  by_layer (Ty-F.One s) sound plain = so (Ty-F.One s) (scalar_word s 0 (zero_word s))
  by_layer (Ty-F.Vector s n) sound plain = so (Ty-F.Vector s n) (many_pass (replicate n (is_scalar s)) (replicate n (Word 0)) (all_zero (is_scalar s) (Word 0) n (scalar_word s 0 (zero_word s))))
  by_layer (Ty-F.Array e n) sounds plain =
      so (Ty-F.Array e.0 n) (many_pass (replicate n (over value_meaning values e.0)) (replicate n (over zero_meaning zeros e.0))
      (all_zero (over value_meaning values e.0) (over zero_meaning zeros e.0) n (e.1 (and_parts (nat_le 1 n && nat_lt n (2 ^ 32)) (sound count e.0) (sound_of (Ty-F.Array e.0 n) sounds)).1 (plain_of (Ty-F.Array e.0 n) plain))))
  by_layer (Ty-F.Runtime e) sound plain = absurd (false≢true (plain_of (Ty-F.Runtime e.0) plain))
  by_layer (Ty-F.Struct number) sound plain = so (Ty-F.Struct number) (known number (ltb-true number count (sound_of (Ty-F.Struct number) sound)))

  pub type_zero : (t : Ty) → Zero t
  type_zero = ind-Ty Zero (λ x y is. subst (λ z. Zero (roll-Ty z)) is (by_layer y))

  pub members_zero : (members : List Member) → AllByRecursion (λ (member : Member). IsSound count member.ty) members → AllByRecursion (λ (member : Member). IsTrue (is_plain member.ty)) members
      → all_pass (tests_of (members_over value_meaning values members)) (zeros_of (members_over zero_meaning zeros members)) ≡ true
  members_zero [] sound plain = refl
  members_zero (member ∷ members) sound plain = and_from _ _ (type_zero member.ty sound.0 plain.0) (members_zero members sound.1 plain.1)

-- ---- structs

module _ (structs : List StructType) (are : AreStructs structs) (plain : ArePlain structs) where
  struct_zero : (number : ℕ) → number < length structs → ((k : ℕ) → k < number → numbered value_meaning structs k (numbered zero_meaning structs k) ≡ true) → numbered value_meaning structs number (numbered zero_meaning structs number) ≡ true
  struct_zero number below before =
      let found = slice_found structs number below in
      let struct = found.0 in
      let earlier = (are number struct found.1).earlier in
      ap (λ (test : Value → Bool). test (numbered zero_meaning structs number)) (numbered_is value_meaning structs number struct found.1 earlier)
      ∙ ap (has_parts (tests_of (members_over value_meaning (numbered value_meaning structs) struct.members))) (numbered_is zero_meaning structs number struct found.1 earlier)
      ∙ many_pass _ _ (members_zero (numbered value_meaning structs) (numbered zero_meaning structs) number before struct.members earlier (plain number struct found.1))

  below_zero : (n number : ℕ) → number < n → number < length structs → numbered value_meaning structs number (numbered zero_meaning structs number) ≡ true
  below_zero zero number low below = absurd (omega (arith, low))
  below_zero (suc n) number low below = struct_zero number below (λ k less. below_zero n k (omega (arith, less, low)) (omega (arith, less, below)))

  pub zero_typed : (t : Ty) → IsSound (length structs) t → IsTrue (is_plain t) → is_value_of structs t (zero_value structs t) ≡ true
  zero_typed = type_zero (numbered value_meaning structs) (numbered zero_meaning structs) (length structs) (λ number below. below_zero (length structs) number below below)

-- ---- declared structs

types_plain : (structs : List StructType) (members : List Member) → AllByRecursion (λ (member : Member). IsVariableType structs member.ty) members → AllByRecursion (λ (member : Member). IsTrue (is_plain member.ty)) members
types_plain structs [] all = tt
types_plain structs (member ∷ members) all = (all.0.plain, types_plain structs members all.1)

pub declared_plain : (structs : List StructType) → AllByRecursion (IsStructDeclared structs) structs → ArePlain structs
declared_plain structs = within structs
  where
    within : (some : List StructType) → AllByRecursion (IsStructDeclared structs) some → ArePlain some
    within [] all number struct is = absurd cc
    within (first ∷ some) all zero struct is = let same : first ≡ struct = cc in subst (λ (s : StructType). AllByRecursion (λ (member : Member). IsTrue (is_plain member.ty)) s.members) same (types_plain structs first.members all.0.types)
    within (first ∷ some) all (suc number) struct is = within some all.1 number struct is
