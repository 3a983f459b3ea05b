-- The same where structs are known in their order.
use Rattle.std.proofs.Common.{◌≡◌, sym, subst, ℕ, zero, suc, true, false, Bool, List, [], ◌∷◌, ◌++◌, length, get_or}
use Rattle.std.specs.List.{AllByRecursion}
use Rattle.std.proofs.lemmas.Bool.{false≢true}
use Rattle.gsl_layout.specs.Measures.{measure, measuring, run}
use Rattle.gsl_types.specs.Known.{AreStructs, IsSound}
use Rattle.gsl_types.specs.Structs.{members_over, numbered, struct_over, table_from}
use Rattle.gsl_types.specs.declared.ty.Member.{Member}
use Rattle.gsl_types.specs.declared.ty.StructType.{StructType}
use Rattle.gsl_types.specs.declared.ty.Ty.{Ty}
use Rattle.gsl_values.specs.declared.value.Value.{Value}
use Rattle.gsl_tree.specs.Values.{has_parts, is_value_of, tests_of, value_meaning}
use Rattle.gsl_lower_places.specs.Reached.{is_block_class}
use Rattle.gsl_lower_leaves.specs.Leaves.{leaves_meaning, leaves_of}
use Rattle.gsl_lower_leaves.specs.declared.leaf.Leaf.{Leaf}
use Rattle.gsl_lower_law_leaves.proofs.Structs.{Sized, all_from, members_rows, members_sized}
use Rattle.gsl_lower_law_spread.proofs.Filled.{Lays, Measure, MembersLay, group_lays, type_lays}

module _ (class : ℕ) (block : is_block_class class ≡ true) (raise : ℕ → ℕ) where
  -- ---- lists that lay

  abbrev LayEach : List Measure → List (Value → Bool) → List (List Leaf) → Type 0
  LayEach [] [] [] = Unit {0}
  LayEach (m ∷ ms) (typed ∷ ts) (leaves ∷ all) = Lays class block m.laid typed leaves × LayEach ms ts all
  LayEach _ _ _ = ⊥

  each_at : (ms : List Measure) (ts : List (Value → Bool)) (all : List (List Leaf)) → LayEach ms ts all → (number : ℕ) → Lays class block (get_or ms number (run 1)).laid (get_or ts number (λ v. false)) (get_or all number [])
  each_at [] [] [] lay number at bytes v pass = absurd (false≢true pass)
  each_at [] [] (l ∷ all) lay number at bytes v pass = absurd lay
  each_at [] (t ∷ ts) all lay number at bytes v pass = absurd lay
  each_at (m ∷ ms) [] all lay number at bytes v pass = absurd lay
  each_at (m ∷ ms) (t ∷ ts) [] lay number at bytes v pass = absurd lay
  each_at (m ∷ ms) (t ∷ ts) (l ∷ all) lay zero at bytes v pass = lay.0 at bytes v pass
  each_at (m ∷ ms) (t ∷ ts) (l ∷ all) lay (suc number) at bytes v pass = each_at ms ts all lay.1 number at bytes v pass

  each_more : (ms : List Measure) (ts : List (Value → Bool)) (all : List (List Leaf)) (m : Measure) (t : Value → Bool) (l : List Leaf) → LayEach ms ts all → Lays class block m.laid t l → LayEach (ms ++ m ∷ []) (ts ++ t ∷ []) (all ++ l ∷ [])
  each_more [] [] [] m t l lay more = (more, tt)
  each_more [] [] (b ∷ all) m t l lay more = absurd lay
  each_more [] (b ∷ ts) all m t l lay more = absurd lay
  each_more (a ∷ ms) [] all m t l lay more = absurd lay
  each_more (a ∷ ms) (b ∷ ts) [] m t l lay more = absurd lay
  each_more (a ∷ ms) (b ∷ ts) (c ∷ all) m t l lay more = (lay.0, each_more ms ts all m t l lay.1 more)

  -- ---- members

  module _ (measures : ℕ → Measure) (values : ℕ → Value → Bool) (leaves : ℕ → List Leaf) (known : (number : ℕ) → Lays class block (measures number).laid (values number) (leaves number)) where
    members_lay : (members : List Member) → AllByRecursion (λ (member : Member). Sized member.ty) members → MembersLay class block (members_over (measuring raise) measures members) (members_over value_meaning values members) (members_over leaves_meaning leaves members)
    members_lay [] all = tt
    members_lay (member ∷ members) all = (type_lays class block raise measures values leaves known all.0.count member.ty all.0.is, members_lay members all.1)

    struct_lays : (struct : StructType) → AllByRecursion (λ (member : Member). Sized member.ty) struct.members → Lays class block (struct_over (measuring raise) measures struct).laid (struct_over value_meaning values struct) (struct_over leaves_meaning leaves struct)
    struct_lays struct all =
        subst (Lays class block (struct_over (measuring raise) measures struct).laid (has_parts (tests_of (members_over value_meaning values struct.members)))) (sym (members_rows 0 (members_over leaves_meaning leaves struct.members)))
        (group_lays class block [] (members_over (measuring raise) measures struct.members) (members_over value_meaning values struct.members) (members_over leaves_meaning leaves struct.members) (struct_over (measuring raise) measures struct).size (members_lay struct.members all))

  -- ---- structs

  table_lays : (structs : List StructType) (ms : List Measure) (ts : List (Value → Bool)) (all : List (List Leaf)) → AllByRecursion (λ (struct : StructType). AllByRecursion (λ (member : Member). Sized member.ty) struct.members) structs → LayEach ms ts all
      → LayEach (table_from (measuring raise) ms structs) (table_from value_meaning ts structs) (table_from leaves_meaning all structs)
  table_lays [] ms ts all sized lay = lay
  table_lays (struct ∷ structs) ms ts all sized lay =
      let m = struct_over (measuring raise) (λ number. get_or ms number (run 1)) struct in
      let t = struct_over value_meaning (λ number. get_or ts number (λ v. false)) struct in
      let l = struct_over leaves_meaning (λ number. get_or all number []) struct in
      table_lays structs (ms ++ m ∷ []) (ts ++ t ∷ []) (all ++ l ∷ []) sized.1
      (each_more ms ts all m t l lay (struct_lays (λ number. get_or ms number (run 1)) (λ number. get_or ts number (λ v. false)) (λ number. get_or all number []) (each_at ms ts all lay) struct sized.0))

  pub values_lay : (structs : List StructType) (t : Ty) → AreStructs structs → IsSound (length structs) t → Lays class block (measure raise structs t).laid (is_value_of structs t) (leaves_of structs t)
  values_lay structs t are is =
      type_lays class block raise (numbered (measuring raise) structs) (numbered value_meaning structs) (numbered leaves_meaning structs)
      (each_at (table_from (measuring raise) [] structs) (table_from value_meaning [] structs) (table_from leaves_meaning [] structs)
      (table_lays structs [] [] [] (all_from (λ (struct : StructType). AllByRecursion (λ (member : Member). Sized member.ty) struct.members) structs (λ number struct at. members_sized number struct.members (are number struct at).earlier)) tt))
      (length structs) t is
