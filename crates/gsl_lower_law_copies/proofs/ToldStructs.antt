-- The same where structs are known in their order.
use Rattle.std.proofs.Common.{◌≡◌, refl, sym, ap, ◌∙◌, subst, ℕ, zero, suc, false, List, [], ◌∷◌, ◌++◌, length, map, get_or, Bool}
use Rattle.std.specs.List.{AllByRecursion}
use Rattle.std.proofs.lemmas.Bool.{false≢true}
use Rattle.gsl_types.specs.Known.{AreStructs, IsSound}
use Rattle.gsl_types.specs.Structs.{members_over, numbered, struct_over, table_from}
use Rattle.gsl_types.specs.declared.ty.Member.{Member}
use Rattle.gsl_types.specs.declared.ty.StructType.{StructType}
use Rattle.gsl_types.specs.declared.ty.Ty.{Ty}
use Rattle.gsl_values.specs.declared.value.Value.{Value}
use Rattle.gsl_values.specs.declared.value.Value.TheVariants.{Many}
use Rattle.gsl_tree.specs.Values.{has_parts, is_value_of, parts_in, tests_of, value_meaning}
use Rattle.gsl_meaning.specs.Accesses.{each_told, told, told_meaning}
use Rattle.gsl_lower_leaves.specs.Leaves.{leaves_meaning, leaves_of}
use Rattle.gsl_lower_leaves.specs.declared.leaf.Leaf.{Leaf}
use Rattle.gsl_lower_law_leaves.proofs.Structs.{Sized, all_from, members_rows, members_sized}
use Rattle.gsl_lower_law_copies.specs.Worded.{has_words, words_meaning}
use Rattle.gsl_lower_law_copies.proofs.Told.{TellEach, Tells, parts_tell, told_each, told_parts, type_tells}

-- ---- lists that tell

each_at : (ts ws : List (Value → Bool)) (tolds : List (Value → Value)) (all : List (List Leaf)) → TellEach ts ws tolds all → (number : ℕ) → Tells (get_or ts number (λ v. false)) (get_or ws number (λ v. false)) (get_or tolds number (λ v. v)) (get_or all number [])
each_at [] [] [] [] tell number old v pass_old pass_v = absurd (false≢true pass_old)
each_at [] [] [] (l ∷ all) tell number old v pass_old pass_v = absurd tell
each_at [] [] (f ∷ tolds) all tell number old v pass_old pass_v = absurd tell
each_at [] (w ∷ ws) tolds all tell number old v pass_old pass_v = absurd tell
each_at (t ∷ ts) [] tolds all tell number old v pass_old pass_v = absurd tell
each_at (t ∷ ts) (w ∷ ws) [] all tell number old v pass_old pass_v = absurd tell
each_at (t ∷ ts) (w ∷ ws) (f ∷ tolds) [] tell number old v pass_old pass_v = absurd tell
each_at (t ∷ ts) (w ∷ ws) (f ∷ tolds) (l ∷ all) tell zero old v pass_old pass_v = tell.0 old v pass_old pass_v
each_at (t ∷ ts) (w ∷ ws) (f ∷ tolds) (l ∷ all) tell (suc number) old v pass_old pass_v = each_at ts ws tolds all tell.1 number old v pass_old pass_v

each_more : (ts ws : List (Value → Bool)) (tolds : List (Value → Value)) (all : List (List Leaf)) (t w : Value → Bool) (f : Value → Value) (l : List Leaf) → TellEach ts ws tolds all → Tells t w f l → TellEach (ts ++ t ∷ []) (ws ++ w ∷ []) (tolds ++ f ∷ []) (all ++ l ∷ [])
each_more [] [] [] [] t w f l tell more = (more, tt)
each_more [] [] [] (b ∷ all) t w f l tell more = absurd tell
each_more [] [] (g ∷ tolds) all t w f l tell more = absurd tell
each_more [] (c ∷ ws) tolds all t w f l tell more = absurd tell
each_more (a ∷ ts) [] tolds all t w f l tell more = absurd tell
each_more (a ∷ ts) (c ∷ ws) [] all t w f l tell more = absurd tell
each_more (a ∷ ts) (c ∷ ws) (g ∷ tolds) [] t w f l tell more = absurd tell
each_more (a ∷ ts) (c ∷ ws) (g ∷ tolds) (b ∷ all) t w f l tell more = (tell.0, each_more ts ws tolds all t w f l tell.1 more)

-- ---- members

abbrev tolds_of : List (List ℕ × (Value → Value)) → List (Value → Value)
tolds_of members = map (λ (member : List ℕ × (Value → Value)). member.1) members

members_told : (members : List (List ℕ × (Value → Value))) (vs : List Value) → told_each (tolds_of members) vs ≡ each_told members vs
members_told [] [] = refl
members_told [] (v ∷ vs) = refl
members_told (member ∷ members) [] = refl
members_told (member ∷ members) (v ∷ vs) = ap (λ l. member.1 v ∷ l) (members_told members vs)

module _ (typed worded : ℕ → Value → Bool) (told_by : ℕ → Value → Value) (leaves : ℕ → List Leaf) (known : (number : ℕ) → Tells (typed number) (worded number) (told_by number) (leaves number)) where
  members_tell : (members : List Member) → AllByRecursion (λ (member : Member). Sized member.ty) members
      → TellEach (tests_of (members_over value_meaning typed members)) (tests_of (members_over words_meaning worded members)) (tolds_of (members_over told_meaning told_by members)) (map (λ (member : List ℕ × List Leaf). member.1) (members_over leaves_meaning leaves members))
  members_tell [] all = tt
  members_tell (member ∷ members) all = (type_tells typed worded told_by leaves known all.0.count member.ty all.0.is, members_tell members all.1)

  struct_tells : (struct : StructType) → AllByRecursion (λ (member : Member). Sized member.ty) struct.members
      → Tells (struct_over value_meaning typed struct) (struct_over words_meaning worded struct) (struct_over told_meaning told_by struct) (struct_over leaves_meaning leaves struct)
  struct_tells struct all old v pass_old pass_v =
      let both = parts_tell (tests_of (members_over value_meaning typed struct.members)) (tests_of (members_over words_meaning worded struct.members)) (tolds_of (members_over told_meaning told_by struct.members))
      (map (λ (member : List ℕ × List Leaf). member.1) (members_over leaves_meaning leaves struct.members)) (members_tell struct.members all) in
      let tells : Tells (has_parts (tests_of (members_over value_meaning typed struct.members))) (has_parts (tests_of (members_over words_meaning worded struct.members))) (told_parts (tolds_of (members_over told_meaning told_by struct.members))) (struct_over leaves_meaning leaves struct) =
      subst (Tells (has_parts (tests_of (members_over value_meaning typed struct.members))) (has_parts (tests_of (members_over words_meaning worded struct.members))) (told_parts (tolds_of (members_over told_meaning told_by struct.members))))
      (sym (members_rows 0 (members_over leaves_meaning leaves struct.members))) both in
      let one = tells old v pass_old pass_v in
      (one.0 ∙ ap Many (members_told (members_over told_meaning told_by struct.members) (parts_in v)), one.1)

-- ---- structs

table_tells : (structs : List StructType) (ts ws : List (Value → Bool)) (tolds : List (Value → Value)) (all : List (List Leaf)) → AllByRecursion (λ (struct : StructType). AllByRecursion (λ (member : Member). Sized member.ty) struct.members) structs → TellEach ts ws tolds all
    → TellEach (table_from value_meaning ts structs) (table_from words_meaning ws structs) (table_from told_meaning tolds structs) (table_from leaves_meaning all structs)
table_tells [] ts ws tolds all sized tell = tell
table_tells (struct ∷ structs) ts ws tolds all sized tell =
    let t = struct_over value_meaning (λ number. get_or ts number (λ v. false)) struct in
    let w = struct_over words_meaning (λ number. get_or ws number (λ v. false)) struct in
    let f = struct_over told_meaning (λ number. get_or tolds number (λ v. v)) struct in
    let l = struct_over leaves_meaning (λ number. get_or all number []) struct in
    table_tells structs (ts ++ t ∷ []) (ws ++ w ∷ []) (tolds ++ f ∷ []) (all ++ l ∷ []) sized.1
    (each_more ts ws tolds all t w f l tell
    (struct_tells (λ number. get_or ts number (λ v. false)) (λ number. get_or ws number (λ v. false)) (λ number. get_or tolds number (λ v. v)) (λ number. get_or all number []) (each_at ts ws tolds all tell) struct sized.0))

pub values_told : (structs : List StructType) (t : Ty) → AreStructs structs → IsSound (length structs) t → Tells (is_value_of structs t) (has_words structs t) (told structs t) (leaves_of structs t)
values_told structs t are is =
    type_tells (numbered value_meaning structs) (numbered words_meaning structs) (numbered told_meaning structs) (numbered leaves_meaning structs)
    (each_at (table_from value_meaning [] structs) (table_from words_meaning [] structs) (table_from told_meaning [] structs) (table_from leaves_meaning [] structs)
    (table_tells structs [] [] [] [] (all_from (λ (struct : StructType). AllByRecursion (λ (member : Member). Sized member.ty) struct.members) structs (λ number struct at. members_sized number struct.members (are number struct at).earlier)) tt))
    (length structs) t is
