-- The structs of all units, each once: the list is well formed, and those of each unit stand in it under their new numbers.
use Rattle.std.proofs.Common.{◌≡◌, refl, sym, ap, ◌∙◌, subst, ℕ, suc, ◌+◌, ◌<◌, ◌≤◌, ◌⊎◌, inl, inr, List, [], ◌∷◌, ◌++◌, map, length, slice_get, Some, min, arith, length-append}
use Rattle.std.specs.List.{AllByRecursion}
use Rattle.std.proofs.lemmas.Bool.{cases_lt}
use Rattle.std.proofs.lemmas.List.{get_or_push, get_or_append_left, length-map}
use Rattle.std.proofs.lemmas.Option.{none-some, same_Some}
use Rattle.gsl_types.specs.declared.ty.Member.{Member}
use Rattle.gsl_types.specs.declared.ty.StructType.{StructType}
use Rattle.gsl_types.specs.Known.{AreStructs}
use Rattle.gsl_types.specs.Leaves.{counting, leaves_together, most_leaves}
use Rattle.gsl_types.specs.Structs.{numbered, members_meaning}
use Rattle.gsl_types.proofs.Layers.{over_struct}
use Rattle.gsl_types.proofs.Structs.{numbered_is}
use Rattle.gsl_tree.specs.declared.unit.TypedUnit.{TypedUnit}
use Rattle.gsl_link_units.specs.Types.{new_number}
use Rattle.gsl_link_units.specs.Structs.{retyped_member, retyped_struct, with_struct, struct_number, with_structs, with_units, joined_structs, numbers_behind, struct_numbers}
use Rattle.gsl_link_law.specs.Placed.{IsAt, ArePlaced, AllPlaced}
use Rattle.gsl_link_law.proofs.Retyped.{retyped_members_sound, retyped_struct_agrees, retyped_members_alike}
use Rattle.gsl_link_law.proofs.Meant.{struct_means, number_within}
use Rattle.gsl_link_law.proofs.Putting.{put_keeps, put_there, put_known}

-- ---- one more number

abbrev pub with_number : List ℕ → ℕ → List ℕ
with_number numbers n = numbers ++ n ∷ []

-- the last of the numbers, or one of those before it
number_cases : (numbers : List ℕ) (n k : ℕ) → k < length (with_number numbers n) → (k < length numbers) ⊎ (k ≡ length numbers)
number_cases numbers n k below = elim (cases_lt k (length numbers)) as (λ _. (k < length numbers) ⊎ (k ≡ length numbers)) [
  | inl lower ↦ inl lower
  | inr above ↦ inr (let last : k ≡ length numbers = omega (arith, below, above, length-append numbers (n ∷ [])) in last)
]

number_before : (numbers : List ℕ) (n k : ℕ) → k < length numbers → new_number numbers k ≡ new_number (with_number numbers n) k
number_before numbers n k below = sym (get_or_append_left numbers (n ∷ []) 0 k below)

number_last : (numbers : List ℕ) (n : ℕ) → new_number (with_number numbers n) (length numbers) ≡ n
number_last numbers n = get_or_push numbers n 0 (length numbers) refl

-- ---- what stands under a number stays there

abbrev with_members : StructType → List Member → StructType
with_members s members = record s { members = members }

at_again : (joined : List StructType) (number other : ℕ) (s : StructType) (members : List Member) → number ≡ other → s.members ≡ members → IsAt joined number s → IsAt joined other (with_members s members)
at_again joined number other s members same alike is = record {
  struct = is.struct;
  there = subst (λ n. slice_get joined n ≡ Some is.struct) same is.there;
  name = is.name;
  members = is.members ∙ alike;
}

at_stays : (joined longer : List StructType) (keeps : (k : ℕ) (t : StructType) → slice_get joined k ≡ Some t → slice_get longer k ≡ Some t) (number : ℕ) (s : StructType)
    → IsAt joined number s → IsAt longer number s
at_stays joined longer keeps number s is = record { struct = is.struct; there = keeps number is.struct is.there; name = is.name; members = is.members }

-- ---- one more struct of a unit

module _ (structs joined : List StructType) (numbers : List ℕ) (own : AreStructs structs) (known : AreStructs joined) (placed : ArePlaced structs joined numbers)
    (s : StructType) (found : slice_get structs (length numbers) ≡ Some s) (whole : length numbers ≤ length structs) where
  abbrev new : StructType
  new = retyped_struct numbers s

  abbrev longer : List StructType
  longer = with_struct joined new

  abbrev number : ℕ
  number = struct_number joined new

  told : s.leaves ≡ min (leaves_together (members_meaning counting joined new.members)) most_leaves
  told =
      let is = own (length numbers) s found in
      is.told ∙ ap (λ n. min n most_leaves)
      (over_struct counting (numbered counting structs) (length numbers) ∙ numbered_is counting structs (length numbers) s found is.earlier
      ∙ retyped_struct_agrees counting numbers (length numbers) (numbered counting structs) (numbered counting joined) (struct_means counting structs joined numbers whole own known placed) s is.earlier)

  pub next_known : AreStructs longer
  next_known =
      let is = own (length numbers) s found in
      put_known joined new known
      (let some = is.some in omega (arith, some, length-map s.members (retyped_member numbers)))
      (retyped_members_sound numbers (length numbers) (length joined) (number_within structs joined numbers whole placed) s.members is.earlier)
      told

  -- a struct with the new numbers so far has them with one more
  renumbers : (k : ℕ) (t : StructType) → k ≤ length numbers → slice_get structs k ≡ Some t → map (retyped_member numbers) t.members ≡ map (retyped_member (with_number numbers number)) t.members
  renumbers k t below there =
      retyped_members_alike numbers (with_number numbers number) k (λ j lower. number_before numbers number j (omega (arith, lower, below))) t.members (own k t there).earlier

  pub next_placed : ArePlaced structs longer (with_number numbers number)
  next_placed k t below there = by_cases (number_cases numbers number k below)
    where
      same : k ≡ length numbers → s ≡ t
      same last = same_Some s t (sym found ∙ ap (slice_get structs) (sym last) ∙ there)

      by_cases : (k < length numbers) ⊎ (k ≡ length numbers) → IsAt longer (new_number (with_number numbers number) k) (retyped_struct (with_number numbers number) t)
      by_cases (inl lower) =
          at_again longer (new_number numbers k) (new_number (with_number numbers number) k) (retyped_struct numbers t) (map (retyped_member (with_number numbers number)) t.members)
          (number_before numbers number k lower) (renumbers k t (omega (arith, lower)) there)
          (at_stays joined longer (put_keeps joined new) (new_number numbers k) (retyped_struct numbers t) (placed k t lower there))
      by_cases (inr last) =
          subst (λ u. IsAt longer (new_number (with_number numbers number) k) (retyped_struct (with_number numbers number) u)) (same last)
          (at_again longer number (new_number (with_number numbers number) k) new (map (retyped_member (with_number numbers number)) s.members)
          (sym (ap (new_number (with_number numbers number)) last ∙ number_last numbers number)) (renumbers (length numbers) s (omega arith) found) (put_there joined new))

-- ---- all structs of a unit

-- a list begins with what another has behind its first items
abbrev pub Left : List StructType → List StructType → ℕ → Type 0
Left rest structs n = (n + length rest ≡ length structs) × ((j : ℕ) (t : StructType) → slice_get rest j ≡ Some t → slice_get structs (n + j) ≡ Some t)

-- what is known behind so many structs of a unit
pub record AreJoined (before structs joined : List StructType) (numbers : List ℕ) : Type 0 where
  pub known : AreStructs joined
  pub placed : ArePlaced structs joined numbers
  pub count : length numbers ≡ length structs
  pub keeps : (k : ℕ) (t : StructType) → slice_get before k ≡ Some t → slice_get joined k ≡ Some t

module _ (structs : List StructType) (own : AreStructs structs) where
  structs_joined : (rest joined : List StructType) (numbers : List ℕ) → Left rest structs (length numbers) → AreStructs joined → ArePlaced structs joined numbers
      → AreJoined joined structs (with_structs joined numbers rest).0 (with_structs joined numbers rest).1
  structs_joined [] joined numbers left known placed = record { known = known; placed = placed; count = let at = left.0 in omega (arith, at); keeps = λ k t found. found }
  structs_joined (s ∷ rest) joined numbers left known placed =
      let at = left.0 in
      let found : slice_get structs (length numbers) ≡ Some s = subst (λ n. slice_get structs n ≡ Some s) (omega arith) (left.1 0 s refl) in
      let whole : length numbers ≤ length structs = omega (arith, at) in
      let new = retyped_struct numbers s in
      let n = struct_number joined new in
      let counted = length-append numbers (n ∷ []) in
      let later = structs_joined rest (with_struct joined new) (with_number numbers n)
      (omega (arith, at, counted), (λ j t there. subst (λ i. slice_get structs i ≡ Some t) (omega (arith, counted)) (left.1 (suc j) t there)))
      (next_known structs joined numbers own known placed s found whole) (next_placed structs joined numbers own known placed s found whole) in
      record {
        known = later.known;
        placed = later.placed;
        count = later.count;
        keeps = λ k t there. later.keeps k t (put_keeps joined new k t there);
      }

  pub unit_joined : (joined : List StructType) → AreStructs joined → AreJoined joined structs (with_structs joined [] structs).0 (with_structs joined [] structs).1
  unit_joined joined known =
      structs_joined structs joined [] (omega arith, (λ j t there. subst (λ i. slice_get structs i ≡ Some t) (let zero_more : j ≡ 0 + j = omega arith in zero_more) there)) known (λ k t below found. let never : ⊥ = omega (arith, below) in elim never [ ])

-- ---- all units

abbrev pub KnowsStructs : TypedUnit → Type 0
KnowsStructs unit = AreStructs unit.structs

units_known : (units : List TypedUnit) (joined : List StructType) → AreStructs joined → AllByRecursion KnowsStructs units → AreStructs (with_units joined units)
units_known [] joined known all = known
units_known (unit ∷ units) joined known all = units_known units (with_structs joined [] unit.structs).0 (unit_joined unit.structs all.0 joined known).known all.1

units_keep : (units : List TypedUnit) (joined : List StructType) → AreStructs joined → AllByRecursion KnowsStructs units
    → (k : ℕ) (t : StructType) → slice_get joined k ≡ Some t → slice_get (with_units joined units) k ≡ Some t
units_keep [] joined known all k t found = found
units_keep (unit ∷ units) joined known all k t found =
    let first = unit_joined unit.structs all.0 joined known in
    units_keep units (with_structs joined [] unit.structs).0 first.known all.1 k t (first.keeps k t found)

units_placed : (units : List TypedUnit) (joined : List StructType) → AreStructs joined → AllByRecursion KnowsStructs units
    → AllPlaced (with_units joined units) (numbers_behind joined units) units
units_placed [] joined known all = tt
units_placed (unit ∷ units) joined known all =
    let first = unit_joined unit.structs all.0 joined known in
    let behind = (with_structs joined [] unit.structs).0 in
    let numbers = (with_structs joined [] unit.structs).1 in (
      record {
        count = first.count;
        placed = λ k s below found. at_stays behind (with_units behind units) (units_keep units behind first.known all.1) (new_number numbers k) (retyped_struct numbers s) (first.placed k s below found);
      },
      units_placed units behind first.known all.1,
    )

pub none_known : AreStructs []
none_known k s found = let never : ⊥ = none-some _ found in elim never [ ]

-- the joined structs are well formed
pub joined_structs_are : (units : List TypedUnit) → AllByRecursion KnowsStructs units → AreStructs (joined_structs units)
joined_structs_are units all = units_known units [] none_known all

-- each unit's structs stand among them
pub all_placed : (units : List TypedUnit) → AllByRecursion KnowsStructs units → AllPlaced (joined_structs units) (struct_numbers units) units
all_placed units all = units_placed units [] none_known all
