-- Values of a type have its first leaf.
use Rattle.std.proofs.Common.{◌≡◌, refl, sym, ap, ◌∙◌, subst, ℕ, zero, suc, ◌<◌, ◌≤◌, Bool, true, false, List, [], ◌∷◌, ◌++◌, length, map, get_or, arith, nat_lt, ◌^◌, ◌&&◌}
use Rattle.std.specs.Prelude.{IsTrue, nat_le, replicate}
use Rattle.std.specs.List.{AllByRecursion}
use Rattle.std.proofs.lemmas.Bool.{and_parts, false≢true, leb-true}
use Rattle.gsl_types.specs.Known.{AreStructs, IsSound, sound, sound_kind}
use Rattle.gsl_types.specs.Structs.{layer, members_over, numbered, over, struct_over, table_from}
use Rattle.gsl_types.specs.declared.ty.Member.{Member}
use Rattle.gsl_types.specs.declared.ty.StructType.{StructType}
use Rattle.gsl_types.specs.declared.ty.Ty.{Ty}
use Rattle.gsl_types.specs.declared.ty.Ty.TheFolds.{fold-roll-Ty, ind-Ty, map-Ty}
use Rattle.gsl_types.specs.declared.ty.Ty.TheOpen.{Ty-F}
use Rattle.gsl_types.specs.declared.ty.Ty.TheViews.{roll-Ty}
use Rattle.gsl_values.specs.declared.value.Value.{Value}
use Rattle.gsl_values.specs.declared.value.Value.TheVariants.{Many, outs-Many}
use Rattle.gsl_tree.specs.Operations.{member_value}
use Rattle.gsl_tree.specs.Values.{all_pass, has_parts, is_value_of, parts_in, parts_layer, tests_of, value_meaning}
use Rattle.gsl_machine.specs.State.{Ids}
use Rattle.gsl_lower_places.specs.Reading.{number_in}
use Rattle.gsl_lower_places.specs.declared.reached.Part.{Part}
use Rattle.gsl_lower_places.specs.declared.reached.Part.TheVariants.{Fixed, By}
use Rattle.gsl_lower_leaves.specs.Leaves.{leaves_meaning, leaves_of, within}
use Rattle.gsl_lower_leaves.specs.declared.leaf.Leaf.{Leaf}
use Rattle.gsl_lower_law_leaves.proofs.Structs.{Sized, all_from, members_rows, members_sized}
use Rattle.gsl_lower_law_leaves.proofs.Typed.{elements_are, many_from, part_is, rows}
use Rattle.gsl_lower_law_picks.specs.Outside.{HasPart}
use Rattle.gsl_lower_law_places.specs.Leading.{NumberEach}
use Rattle.gsl_lower_elements.specs.OfReaching.{IsFixed}

-- A leaf is known by its numbers, and a value has it.
pub record HasLeaf (v : Value) (one : Leaf) : Type 0 where
  pub fixed : AllByRecursion IsFixed one.path
  pub has : HasPart v (map number_in one.path)

abbrev pub HasFirst : Value → List Leaf → Type 0
HasFirst v [] = ⊥
HasFirst v (one ∷ more) = HasLeaf v one

abbrev Firsts : (Value → Bool) → List Leaf → Type 0
Firsts test leaves = (v : Value) → test v ≡ true → HasFirst v leaves

abbrev FirstEach : List (Value → Bool) → List (List Leaf) → Type 0
FirstEach [] [] = Unit {0}
FirstEach [] (leaves ∷ more) = ⊥
FirstEach (test ∷ tests) [] = ⊥
FirstEach (test ∷ tests) (leaves ∷ more) = Firsts test leaves × FirstEach tests more

pub fixed_numbers : (ids : Ids) (path : List Part) → AllByRecursion IsFixed path → NumberEach ids path (map number_in path)
fixed_numbers ids [] fixed = tt
fixed_numbers ids (Fixed number ∷ path) fixed = (refl, fixed_numbers ids path fixed.1)
fixed_numbers ids (By s id ∷ path) fixed = absurd fixed.0

-- ---- parts

first_within : (v x : Value) (leaves more : List Leaf) → 0 < length (parts_in v) → member_value v 0 ≡ x → HasFirst x leaves → HasFirst v (map (within 0) leaves ++ more)
first_within v x [] more less is first = absurd first
first_within v x (one ∷ leaves) more less is first = record { fixed = (tt, first.fixed); has = (less, subst (λ u. HasPart u (map number_in one.path)) (sym is) first.has) }

parts_first : (tests : List (Value → Bool)) (all : List (List Leaf)) → FirstEach tests all → 0 < length tests → Firsts (has_parts tests) (rows 0 all)
parts_first [] all firsts some v pass = absurd (let z : 0 < 0 = some in omega (arith, z))
parts_first (test ∷ tests) [] firsts some v pass = absurd firsts
parts_first (test ∷ tests) (leaves ∷ all) firsts some v pass = let x = many_from (test ∷ tests) v pass in by x.parts x.is x.pass
  where
    by : (parts : List Value) → v ≡ Many parts → all_pass (test ∷ tests) parts ≡ true → HasFirst v (map (within 0) leaves ++ rows 1 all)
    by [] is pass = absurd (false≢true pass)
    by (x ∷ xs) is pass =
        let long : length (parts_in v) ≡ suc (length xs) = ap length (ap parts_in is ∙ ap parts_layer (outs-Many (x ∷ xs))) in
        first_within v x leaves (rows 1 all) (omega (arith, long)) (part_is v [] x xs 0 is refl) (firsts.0 x (and_parts (test x) (all_pass tests xs) pass).0)

each_first : (test : Value → Bool) (leaves : List Leaf) → Firsts test leaves → (n : ℕ) → FirstEach (replicate n test) (replicate n leaves)
each_first test leaves first zero = tt
each_first test leaves first (suc n) = (first, each_first test leaves first n)

some_replicated : (test : Value → Bool) (n : ℕ) → 1 ≤ n → 0 < length (replicate n test)
some_replicated test zero some = absurd (let z : 1 ≤ 0 = some in omega (arith, z))
some_replicated test (suc n) some = let z : 0 < suc (length (replicate n test)) = omega arith in z

-- ---- types over known structs

module _ (values : ℕ → Value → Bool) (leaves : ℕ → List Leaf) (known : (number : ℕ) → Firsts (values number) (leaves number)) (count : ℕ) where
  abbrev Fits : Ty → Type 0
  Fits t = IsSound count t → Firsts (over value_meaning values t) (over leaves_meaning leaves t)

  sound_of : (x : Ty-F Ty) → IsSound count (roll-Ty x) → IsTrue (sound_kind count (map-Ty _ _ (sound count) x))
  sound_of x is = subst IsTrue (fold-roll-Ty Bool (sound_kind count) x) is

  so : (x : Ty-F Ty) → Firsts (layer value_meaning values (map-Ty _ _ (over value_meaning values) x)) (layer leaves_meaning leaves (map-Ty _ _ (over leaves_meaning leaves) x)) → Firsts (over value_meaning values (roll-Ty x)) (over leaves_meaning leaves (roll-Ty x))
  so x firsts =
      subst (λ test. Firsts test (over leaves_meaning leaves (roll-Ty x))) (sym (fold-roll-Ty (Value → Bool) (layer value_meaning values) x))
      (subst (Firsts (layer value_meaning values (map-Ty _ _ (over value_meaning values) x))) (sym (fold-roll-Ty (List Leaf) (layer leaves_meaning leaves) x)) firsts)

  by_layer : (y : Ty-F ((t : Ty) × Fits t)) → Fits (roll-Ty (map-Ty _ _ (λ e. e.0) y))
  by_layer Ty-F.Void is = so Ty-F.Void (λ v pass. absurd (false≢true pass))
  by_layer (Ty-F.One s) is = so (Ty-F.One s) (λ v pass. record { fixed = tt; has = tt })
  by_layer (Ty-F.Vector s n) is = so (Ty-F.Vector s n) (λ v pass. record { fixed = tt; has = tt })
  by_layer (Ty-F.Array e n) is =
      let both = and_parts (nat_le 1 n && nat_lt n (2 ^ 32)) (sound count e.0) (sound_of (Ty-F.Array e.0 n) is) in
      so (Ty-F.Array e.0 n) (subst (Firsts (has_parts (replicate n (over value_meaning values e.0)))) (sym (elements_are (over leaves_meaning leaves e.0) 0 n))
      (parts_first (replicate n (over value_meaning values e.0)) (replicate n (over leaves_meaning leaves e.0)) (each_first (over value_meaning values e.0) (over leaves_meaning leaves e.0) (e.1 both.1) n) (some_replicated (over value_meaning values e.0) n (leb-true 1 n (and_parts (nat_le 1 n) (nat_lt n (2 ^ 32)) both.0).0))))
  by_layer (Ty-F.Runtime e) is = so (Ty-F.Runtime e.0) (λ v pass. absurd (false≢true pass))
  by_layer (Ty-F.Struct number) is = so (Ty-F.Struct number) (known number)

  type_first : (t : Ty) → Fits t
  type_first = ind-Ty Fits (λ x y is. subst (λ z. Fits (roll-Ty z)) is (by_layer y))

-- ---- structs

module _ (values : ℕ → Value → Bool) (leaves : ℕ → List Leaf) (known : (number : ℕ) → Firsts (values number) (leaves number)) where
  members_first : (members : List Member) → AllByRecursion (λ (member : Member). Sized member.ty) members
      → FirstEach (tests_of (members_over value_meaning values members)) (map (λ (member : List ℕ × List Leaf). member.1) (members_over leaves_meaning leaves members))
  members_first [] all = tt
  members_first (member ∷ members) all = (type_first values leaves known all.0.count member.ty all.0.is, members_first members all.1)

  some_tests : (members : List Member) → 0 < length members → 0 < length (tests_of (members_over value_meaning values members))
  some_tests [] some = absurd (let z : 0 < 0 = some in omega (arith, z))
  some_tests (member ∷ members) some = let z : 0 < suc (length (tests_of (members_over value_meaning values members))) = omega arith in z

  struct_first : (struct : StructType) → 0 < length struct.members → AllByRecursion (λ (member : Member). Sized member.ty) struct.members → Firsts (struct_over value_meaning values struct) (struct_over leaves_meaning leaves struct)
  struct_first struct some all =
      subst (Firsts (has_parts (tests_of (members_over value_meaning values struct.members)))) (sym (members_rows 0 (members_over leaves_meaning leaves struct.members)))
      (parts_first (tests_of (members_over value_meaning values struct.members)) (map (λ (member : List ℕ × List Leaf). member.1) (members_over leaves_meaning leaves struct.members)) (members_first struct.members all) (some_tests struct.members some))

at_number : (tests : List (Value → Bool)) (all : List (List Leaf)) → FirstEach tests all → (number : ℕ) → Firsts (get_or tests number (λ v. false)) (get_or all number [])
at_number [] [] firsts number v pass = absurd (false≢true pass)
at_number [] (leaves ∷ all) firsts number v pass = absurd firsts
at_number (test ∷ tests) [] firsts number v pass = absurd firsts
at_number (test ∷ tests) (leaves ∷ all) firsts zero v pass = firsts.0 v pass
at_number (test ∷ tests) (leaves ∷ all) firsts (suc number) v pass = at_number tests all firsts.1 number v pass

one_more : (tests : List (Value → Bool)) (all : List (List Leaf)) (test : Value → Bool) (leaves : List Leaf) → FirstEach tests all → Firsts test leaves → FirstEach (tests ++ test ∷ []) (all ++ leaves ∷ [])
one_more [] [] test leaves firsts more = (more, tt)
one_more [] (l ∷ all) test leaves firsts more = absurd firsts
one_more (t ∷ tests) [] test leaves firsts more = absurd firsts
one_more (t ∷ tests) (l ∷ all) test leaves firsts more = (firsts.0, one_more tests all test leaves firsts.1 more)

-- A struct has a member, and each is well formed.
record IsFull (struct : StructType) : Type 0 where
  some : 0 < length struct.members
  sized : AllByRecursion (λ (member : Member). Sized member.ty) struct.members

table_first : (structs : List StructType) (tests : List (Value → Bool)) (all : List (List Leaf)) → AllByRecursion IsFull structs → FirstEach tests all → FirstEach (table_from value_meaning tests structs) (table_from leaves_meaning all structs)
table_first [] tests all full firsts = firsts
table_first (struct ∷ structs) tests all full firsts =
    table_first structs (tests ++ struct_over value_meaning (λ number. get_or tests number (λ v. false)) struct ∷ []) (all ++ struct_over leaves_meaning (λ number. get_or all number []) struct ∷ []) full.1
    (one_more tests all (struct_over value_meaning (λ number. get_or tests number (λ v. false)) struct) (struct_over leaves_meaning (λ number. get_or all number []) struct) firsts
    (struct_first (λ number. get_or tests number (λ v. false)) (λ number. get_or all number []) (at_number tests all firsts) struct full.0.some full.0.sized))

-- a value of a type has its first leaf
pub value_first : (structs : List StructType) (t : Ty) → AreStructs structs → IsSound (length structs) t → (v : Value) → is_value_of structs t v ≡ true → HasFirst v (leaves_of structs t)
value_first structs t are is =
    type_first (numbered value_meaning structs) (numbered leaves_meaning structs)
    (at_number (table_from value_meaning [] structs) (table_from leaves_meaning [] structs)
    (table_first structs [] [] (all_from IsFull structs (λ number struct at. record { some = (are number struct at).some; sized = members_sized number struct.members (are number struct at).earlier })) tt))
    (length structs) t is
