-- The same where structs are known in their order.
use Rattle.std.proofs.Common.{◌≡◌, refl, sym, ap, subst, ℕ, zero, suc, ◌+◌, Bool, false, List, [], ◌∷◌, ◌++◌, length, map, get_or, Some}
use Rattle.std.specs.Prelude.{slice_get}
use Rattle.std.specs.List.{AllByRecursion}
use Rattle.std.proofs.lemmas.Bool.{false≢true}
use Rattle.gsl_types.specs.Known.{AreStructs, IsSound}
use Rattle.gsl_types.specs.Structs.{members_over, numbered, struct_over, table_from}
use Rattle.gsl_types.specs.declared.ty.Member.{Member}
use Rattle.gsl_types.specs.declared.ty.StructType.{StructType}
use Rattle.gsl_types.specs.declared.ty.Ty.{Ty}
use Rattle.gsl_values.specs.declared.value.Value.{Value}
use Rattle.gsl_tree.specs.Values.{has_parts, is_value_of, tests_of, value_meaning}
use Rattle.gsl_lower_leaves.specs.Leaves.{leaves_meaning, leaves_of, member_leaves, within}
use Rattle.gsl_lower_leaves.specs.declared.leaf.Leaf.{Leaf}
use Rattle.gsl_lower_law_leaves.proofs.Typed.{Agree, AgreeEach, parts_agree, rows, type_agrees}

-- ---- lists that agree

each_at : (tests : List (Value → Bool)) (all : List (List Leaf)) → AgreeEach tests all → (number : ℕ) → Agree (get_or tests number (λ v. false)) (get_or all number [])
each_at [] [] agree number v w pass_v pass_w = absurd (false≢true pass_v)
each_at [] (leaves ∷ all) agree number v w pass_v pass_w = absurd agree
each_at (test ∷ tests) [] agree number v w pass_v pass_w = absurd agree
each_at (test ∷ tests) (leaves ∷ all) agree zero v w pass_v pass_w = agree.0 v w pass_v pass_w
each_at (test ∷ tests) (leaves ∷ all) agree (suc number) v w pass_v pass_w = each_at tests all agree.1 number v w pass_v pass_w

each_more : (tests : List (Value → Bool)) (all : List (List Leaf)) (test : Value → Bool) (leaves : List Leaf) → AgreeEach tests all → Agree test leaves → AgreeEach (tests ++ test ∷ []) (all ++ leaves ∷ [])
each_more [] [] test leaves agree more = (more, tt)
each_more [] (l ∷ all) test leaves agree more = absurd agree
each_more (t ∷ tests) [] test leaves agree more = absurd agree
each_more (t ∷ tests) (l ∷ all) test leaves agree more = (agree.0, each_more tests all test leaves agree.1 more)

-- ---- members

pub members_rows : (number : ℕ) (members : List (List ℕ × List Leaf)) → member_leaves number members ≡ rows number (map (λ (member : List ℕ × List Leaf). member.1) members)
members_rows number [] = refl
members_rows number (member ∷ members) = ap (λ l. map (within number) member.1 ++ l) (members_rows (number + 1) members)

-- A type is well formed over so many structs.
pub record Sized (t : Ty) : Type 0 where
  pub count : ℕ
  pub is : IsSound count t

module _ (values : ℕ → Value → Bool) (leaves : ℕ → List Leaf) (known : (number : ℕ) → Agree (values number) (leaves number)) where
  members_agree : (members : List Member) → AllByRecursion (λ (member : Member). Sized member.ty) members
      → AgreeEach (tests_of (members_over value_meaning values members)) (map (λ (member : List ℕ × List Leaf). member.1) (members_over leaves_meaning leaves members))
  members_agree [] all = tt
  members_agree (member ∷ members) all = (type_agrees values leaves known all.0.count member.ty all.0.is, members_agree members all.1)

  struct_agrees : (struct : StructType) → AllByRecursion (λ (member : Member). Sized member.ty) struct.members → Agree (struct_over value_meaning values struct) (struct_over leaves_meaning leaves struct)
  struct_agrees struct all =
      subst (Agree (has_parts (tests_of (members_over value_meaning values struct.members)))) (sym (members_rows 0 (members_over leaves_meaning leaves struct.members)))
      (parts_agree (tests_of (members_over value_meaning values struct.members)) (map (λ (member : List ℕ × List Leaf). member.1) (members_over leaves_meaning leaves struct.members)) (members_agree struct.members all))

-- ---- structs

table_agrees : (structs : List StructType) (tests : List (Value → Bool)) (all : List (List Leaf)) → AllByRecursion (λ (struct : StructType). AllByRecursion (λ (member : Member). Sized member.ty) struct.members) structs → AgreeEach tests all
    → AgreeEach (table_from value_meaning tests structs) (table_from leaves_meaning all structs)
table_agrees [] tests all sized agree = agree
table_agrees (struct ∷ structs) tests all sized agree =
    table_agrees structs (tests ++ struct_over value_meaning (λ number. get_or tests number (λ v. false)) struct ∷ []) (all ++ struct_over leaves_meaning (λ number. get_or all number []) struct ∷ []) sized.1
    (each_more tests all (struct_over value_meaning (λ number. get_or tests number (λ v. false)) struct) (struct_over leaves_meaning (λ number. get_or all number []) struct) agree
    (struct_agrees (λ number. get_or tests number (λ v. false)) (λ number. get_or all number []) (each_at tests all agree) struct sized.0))

pub all_from : (P : StructType → Type 0) (structs : List StructType) → ((number : ℕ) (struct : StructType) → slice_get structs number ≡ Some struct → P struct) → AllByRecursion P structs
all_from P [] each = tt
all_from P (struct ∷ structs) each = (each 0 struct refl, all_from P structs (λ number other is. each (suc number) other is))

pub members_sized : (number : ℕ) (members : List Member) → AllByRecursion (λ (member : Member). IsSound number member.ty) members → AllByRecursion (λ (member : Member). Sized member.ty) members
members_sized number [] all = tt
members_sized number (member ∷ members) all = (record { count = number; is = all.0 }, members_sized number members all.1)

pub values_agree : (structs : List StructType) (t : Ty) → AreStructs structs → IsSound (length structs) t → Agree (is_value_of structs t) (leaves_of structs t)
values_agree structs t are is =
    type_agrees (numbered value_meaning structs) (numbered leaves_meaning structs)
    (each_at (table_from value_meaning [] structs) (table_from leaves_meaning [] structs)
    (table_agrees structs [] [] (all_from (λ (struct : StructType). AllByRecursion (λ (member : Member). Sized member.ty) struct.members) structs (λ number struct at. members_sized number struct.members (are number struct at).earlier)) tt))
    (length structs) t is
