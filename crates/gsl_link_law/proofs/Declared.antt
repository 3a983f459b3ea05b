-- Each joined struct is declared as a struct of a unit is.
use Rattle.std.proofs.Common.{◌≡◌, refl, sym, ap, ◌∙◌, subst, ℕ, suc, ◌+◌, ◌≤◌, Bool, true, false, List, [], ◌∷◌, ◌++◌, map, length, slice_get, Some, arith, length-append}
use Rattle.std.specs.Prelude.{if◌then◌else◌}
use Rattle.std.specs.List.{AllByRecursion, list_any}
use Rattle.std.proofs.lemmas.List.{length-map}
use Rattle.gsl_types.specs.declared.ty.Member.{Member}
use Rattle.gsl_types.specs.declared.ty.StructType.{StructType}
use Rattle.gsl_types.specs.declared.ty.Ty.{Ty}
use Rattle.gsl_types.specs.declared.ty.Ty.TheOpen.{Ty-F}
use Rattle.gsl_types.specs.declared.ty.Ty.TheViews.{roll-Ty}
use Rattle.gsl_types.specs.declared.ty.Ty.TheFolds.{fold-roll-Ty, ind-Ty, map-Ty}
use Rattle.gsl_types.specs.Known.{AreStructs, IsSound}
use Rattle.gsl_types.specs.Structs.{Meaning, meaning, numbered}
use Rattle.gsl_types.proofs.Layers.{sound_stays}
use Rattle.gsl_types.proofs.Longer.{numbered_push}
use Rattle.gsl_types.proofs.Structs.{over_agree}
use Rattle.gsl_tree.specs.declared.unit.TypedUnit.{TypedUnit}
use Rattle.gsl_tree.specs.Weights.{height_meaning, most_high}
use Rattle.gsl_tree.specs.Expressions.{most_parts}
use Rattle.gsl_tree.specs.WellTyped.{IsName, IsVariableType, IsStructDeclared}
use Rattle.gsl_link_units.specs.Types.{retyped, retyped_layer}
use Rattle.gsl_link_units.specs.Structs.{same_struct, retyped_member, retyped_struct, with_struct, struct_number, with_structs, with_units, joined_structs}
use Rattle.gsl_link_law.specs.Placed.{ArePlaced}
use Rattle.gsl_link_law.proofs.Retyped.{plain_stays, retyped_sound}
use Rattle.gsl_link_law.proofs.Meant.{type_means, number_within}
use Rattle.gsl_link_law.proofs.Structs.{with_number, Left, next_known, next_placed, none_known, unit_joined}

-- ---- one more struct leaves types of variables as they are

module _ (structs : List StructType) (s : StructType) where
  abbrev longer : List StructType
  longer = structs ++ s ∷ []

  meaning_stays : {A : Type 0} (m : Meaning A) (t : Ty) → IsSound (length structs) t → meaning m structs t ≡ meaning m longer t
  meaning_stays m t known = over_agree m (length structs) (numbered m structs) (numbered m longer) (numbered_push m structs s) t known

  longer_count : length structs ≤ length longer
  longer_count = omega (arith, length-append structs (s ∷ []))

  variable_stays : (t : Ty) → IsVariableType structs t → IsVariableType longer t
  variable_stays t is = record {
    known = sound_stays (length structs) (length longer) longer_count t is.known;
    plain = is.plain;
    low = subst (λ h. h ≤ most_high) (meaning_stays height_meaning t is.known) is.low;
  }

  types_stay : (members : List Member) → AllByRecursion (λ (member : Member). IsVariableType structs member.ty) members → AllByRecursion (λ (member : Member). IsVariableType longer member.ty) members
  types_stay [] all = tt
  types_stay (member ∷ members) all = (variable_stays member.ty all.0, types_stay members all.1)

  declared_stays : (t : StructType) → IsStructDeclared structs t → IsStructDeclared longer t
  declared_stays t is = record { name = is.name; count = is.count; names = is.names; types = types_stay t.members is.types }

  declared_push : (items : List StructType) → AllByRecursion (IsStructDeclared structs) items → IsStructDeclared structs s → AllByRecursion (IsStructDeclared longer) (items ++ s ∷ [])
  declared_push [] all last = (declared_stays s last, tt)
  declared_push (item ∷ items) all last = (declared_stays item all.0, declared_push items all.1 last)

-- ---- a struct of a unit

module _ (structs joined : List StructType) (numbers : List ℕ) (whole : length numbers ≤ length structs) (own : AreStructs structs) (known : AreStructs joined) (placed : ArePlaced structs joined numbers) where
  -- the type of a variable of a unit, which names structs that are placed
  pub variable_placed : (t : Ty) → IsSound (length numbers) t → IsVariableType structs t → IsVariableType joined (retyped numbers t)
  variable_placed t sound is = record {
    known = retyped_sound numbers (length numbers) (length joined) (number_within structs joined numbers whole placed) t sound;
    plain = plain_stays numbers t ∙ is.plain;
    low = subst (λ h. h ≤ most_high) (type_means height_meaning structs joined numbers whole own known placed t sound) is.low;
  }

  types_placed : (members : List Member) → AllByRecursion (λ (member : Member). IsSound (length numbers) member.ty) members
      → AllByRecursion (λ (member : Member). IsVariableType structs member.ty) members → AllByRecursion (λ (member : Member). IsVariableType joined member.ty) (map (retyped_member numbers) members)
  types_placed [] sounds all = tt
  types_placed (member ∷ members) sounds all = (variable_placed member.ty sounds.0 all.0, types_placed members sounds.1 all.1)

  names_placed : (members : List Member) → AllByRecursion (λ (member : Member). IsName member.name) members → AllByRecursion (λ (member : Member). IsName member.name) (map (retyped_member numbers) members)
  names_placed [] all = tt
  names_placed (member ∷ members) all = (all.0, names_placed members all.1)

  struct_placed : (s : StructType) → AllByRecursion (λ (member : Member). IsSound (length numbers) member.ty) s.members → IsStructDeclared structs s → IsStructDeclared joined (retyped_struct numbers s)
  struct_placed s sounds is = record {
    name = is.name;
    count = subst (λ n. n ≤ most_parts) (sym (length-map s.members (retyped_member numbers))) is.count;
    names = names_placed s.members is.names;
    types = types_placed s.members sounds is.types;
  }

-- ---- all structs of a unit, and of all units

-- each struct of a list is declared as it should be
abbrev pub AreDeclared : List StructType → Type 0
AreDeclared structs = AllByRecursion (IsStructDeclared structs) structs

put_declared : (joined : List StructType) (s : StructType) → AreDeclared joined → IsStructDeclared joined s → AreDeclared (with_struct joined s)
put_declared joined s all last = by_cases (list_any (same_struct s) joined)
  where
    by_cases : (b : Bool) → AreDeclared (if b then joined else joined ++ s ∷ [])
    by_cases true = all
    by_cases false = declared_push joined s joined all last

module _ (structs : List StructType) (own : AreStructs structs) where
  structs_declared : (rest joined : List StructType) (numbers : List ℕ) → Left rest structs (length numbers) → AllByRecursion (IsStructDeclared structs) rest
      → AreStructs joined → ArePlaced structs joined numbers → AreDeclared joined → AreDeclared (with_structs joined numbers rest).0
  structs_declared [] joined numbers left all known placed declared = declared
  structs_declared (s ∷ rest) joined numbers left all known placed declared =
      let at = left.0 in
      let found : slice_get structs (length numbers) ≡ Some s = subst (λ n. slice_get structs n ≡ Some s) (omega arith) (left.1 0 s refl) in
      let whole : length numbers ≤ length structs = omega (arith, at) in
      let new = retyped_struct numbers s in
      let n = struct_number joined new in
      let counted = length-append numbers (n ∷ []) in
      structs_declared rest (with_struct joined new) (with_number numbers n)
      (omega (arith, at, counted), (λ j t there. subst (λ i. slice_get structs i ≡ Some t) (omega (arith, counted)) (left.1 (suc j) t there))) all.1
      (next_known structs joined numbers own known placed s found whole) (next_placed structs joined numbers own known placed s found whole)
      (put_declared joined new declared (struct_placed structs joined numbers whole own known placed s (own (length numbers) s found).earlier all.0))

  unit_declared : (joined : List StructType) → AreDeclared structs → AreStructs joined → AreDeclared joined → AreDeclared (with_structs joined [] structs).0
  unit_declared joined all known declared =
      structs_declared structs joined [] (omega arith, (λ j t there. subst (λ i. slice_get structs i ≡ Some t) (let zero_more : j ≡ 0 + j = omega arith in zero_more) there)) all
      known (λ k t below found. let never : ⊥ = omega (arith, below) in elim never [ ]) declared

-- a unit's structs are as they should be
abbrev pub HasStructs : TypedUnit → Type 0
HasStructs unit = AreStructs unit.structs × AreDeclared unit.structs

units_declared : (units : List TypedUnit) (joined : List StructType) → AllByRecursion HasStructs units → AreStructs joined → AreDeclared joined → AreDeclared (with_units joined units)
units_declared [] joined all known declared = declared
units_declared (unit ∷ units) joined all known declared =
    units_declared units (with_structs joined [] unit.structs).0 all.1 (unit_joined unit.structs all.0.0 joined known).known (unit_declared unit.structs all.0.0 joined all.0.1 known declared)

-- each joined struct is declared as it should be
pub joined_structs_declared : (units : List TypedUnit) → AllByRecursion HasStructs units → AreDeclared (joined_structs units)
joined_structs_declared units all = units_declared units [] all none_known tt
