-- Every type that is not too large has a well-formed layout.
use Rattle.std.proofs.Common.{◌≡◌, refl, sym, ap, subst, ◌∙◌, ℕ, zero, suc, ◌^◌, ◌<◌, ◌≤◌, List, [], ◌∷◌, length, slice_get, Some, None, IsTrue, arith, nat_lt, ◌&&◌}
use Rattle.std.specs.Prelude.{Bool, true, nat_le}
use Rattle.std.specs.List.{AllByRecursion}
use Rattle.std.proofs.lemmas.Bool.{and_parts, leb-true, ltb-true, true≢false}
use Rattle.gsl_types.specs.declared.ty.Ty.{Ty}
use Rattle.gsl_types.specs.declared.ty.Ty.TheOpen.{Ty-F}
use Rattle.gsl_types.specs.declared.ty.Ty.TheViews.{roll-Ty, out-roll-Ty}
use Rattle.gsl_types.specs.declared.ty.Ty.TheVariants as ty
use Rattle.gsl_types.specs.declared.ty.Ty.TheVariants.{rolls-Array, rolls-Runtime, rolls-Struct}
use Rattle.gsl_types.specs.declared.ty.Ty.TheFolds.{fold-roll-Ty, ind-Ty, map-Ty}
use Rattle.gsl_types.specs.declared.ty.Member.{Member}
use Rattle.gsl_types.specs.declared.ty.StructType.{StructType}
use Rattle.gsl_types.specs.Known.{AreStructs, IsSound, sound as sound_of, sound_kind}
use Rattle.gsl_types.specs.Structs.{layer, numbered}
use Rattle.gsl_types.proofs.Layers.{over_struct, sound_stays}
use Rattle.gsl_types.proofs.Shapes.{slice_found}
use Rattle.gsl_types.proofs.Structs.{numbered_is}
use Rattle.gsl_layout.specs.Extents.{AreMembers, ArePlain, extent, last_open, may_be_last, most_bytes, plain, plain_kind}
use Rattle.gsl_layout.specs.Gathers.{IsMeasured, IsShut}
use Rattle.gsl_layout.specs.Layout.{IsLayout, may_end}
use Rattle.gsl_layout.specs.Measures.{arrayed, block, group_size, measure, measuring, misplaced_in, run}
use Rattle.gsl_layout.specs.Rules.{IsAlignment, Raises, least_multiple}
use Rattle.gsl_layout.specs.declared.measured.Measured.{Measured}
use Rattle.gsl_layout.specs.declared.placing.Placing.{Placing}
use Rattle.gsl_layout.proofs.Arrays.{counted_array, open_array}
use Rattle.gsl_layout.proofs.Groups.{IsPlaced, aligned, all_shut, closed_ends, end_le_size, meanings, member_extent, member_within, parts_stand, placed_of}
use Rattle.std.proofs.Math.Nat.{mul-le-mul_left}
use Rattle.gsl_layout.proofs.Multiples.{alignment_small, not_below}
use Rattle.gsl_layout.proofs.Placements.{AreRight, free_right, right_from}
use Rattle.gsl_layout.proofs.Refusals.{array_extent, plain_last, plain_members, runtime_extent}

abbrev named : Ty → Member
named t = record { name = []; ty = t }

-- what is known of a measure, if it is that of a type
record Stands (plain_type : Bool) (m : Measured) : Type 0 where
  measured : IsMeasured m
  ends : IsTrue (may_end m.laid)
  shut : IsTrue plain_type → IsShut m

run_stands : (n : ℕ) → 1 ≤ n → n ≤ 4 → Stands true (run n)
run_stands n some most = record {
  measured = record { layout = (some, most); size = refl; extent = omega (arith, most) };
  ends = refl;
  shut = λ _. record { shut = refl; some = omega (arith, some) };
}

module _ (raise : ℕ → ℕ) (raises : (align : ℕ) → IsAlignment align → Raises raise align) (structs : List StructType) (known : AreStructs structs) (plains : ArePlain structs) where
  abbrev Fits : ℕ → Ty → Type 0
  Fits n t = IsSound n t → n ≤ length structs → IsTrue (may_be_last t) → extent (measure raise structs t) ≤ most_bytes → IsPlaced raise structs (named t)

  -- of a type that is one layer
  fits_rolled : (x : Ty-F Ty) (m : Measured) → measure raise structs (roll-Ty x) ≡ m → Stands (plain (roll-Ty x)) m → IsPlaced raise structs (named (roll-Ty x))
  fits_rolled x m is stands = record {
    measured = subst IsMeasured (sym is) stands.measured;
    ends = subst (λ (z : Measured). IsTrue (may_end z.laid)) (sym is) stands.ends;
    shut = λ p. subst IsShut (sym is) (stands.shut p);
  }

  moved : (x : Member) → IsPlaced raise structs (named x.ty) → IsPlaced raise structs x
  moved x is = record { measured = is.measured; ends = is.ends; shut = is.shut }

  -- a layer that is a run of components
  of_run : (x : Ty-F Ty) (c : ℕ) → layer (measuring raise) (numbered (measuring raise) structs) (map-Ty _ _ (measure raise structs) x) ≡ run c → plain (roll-Ty x) ≡ true → 1 ≤ c → c ≤ 4
      → IsPlaced raise structs (named (roll-Ty x))
  of_run x c is is_plain some most = fits_rolled x (run c) (fold-roll-Ty Measured (layer (measuring raise) (numbered (measuring raise) structs)) x ∙ is)
      (subst (λ b. Stands b (run c)) (sym is_plain) (run_stands c some most))

  module _ (n : ℕ) (below : (k : ℕ) → k < n → n ≤ length structs → extent (measure raise structs (ty.Struct k)) ≤ most_bytes → IsPlaced raise structs (named (ty.Struct k))) where
    by_layer : (y : Ty-F ((t : Ty) × Fits n t)) → Fits n (roll-Ty (map-Ty _ _ (λ e. e.0) y))
    by_layer Ty-F.Void sound le last small =
        let never : ⊥ = true≢false (sym last ∙ ap (λ z. last_open z (roll-Ty Ty-F.Void)) (out-roll-Ty Ty-F.Void) ∙ fold-roll-Ty Bool plain_kind Ty-F.Void) in elim never [ ]
    by_layer (Ty-F.One s) sound le last small = of_run (Ty-F.One s) 1 refl (fold-roll-Ty Bool plain_kind (Ty-F.One s)) (omega arith) (omega arith)
    by_layer (Ty-F.Vector s c) sound le last small =
        let parts = and_parts (nat_le 2 c) (nat_le c 4) (sym (fold-roll-Ty Bool (sound_kind n) (Ty-F.Vector s c)) ∙ sound) in
        let least = leb-true 2 c parts.0 in
        of_run (Ty-F.Vector s c) c refl (fold-roll-Ty Bool plain_kind (Ty-F.Vector s c)) (omega (arith, least)) (leb-true c 4 parts.1)
    by_layer (Ty-F.Array e c) sound le last small =
        let x : Ty-F Ty = Ty-F.Array e.0 c in
        let m = measure raise structs e.0 in
        let is : measure raise structs (roll-Ty x) ≡ arrayed raise m (Some c) = fold-roll-Ty Measured (layer (measuring raise) (numbered (measuring raise) structs)) x in
        let parts = and_parts (nat_le 1 c && nat_lt c (2 ^ 32)) (sound_of n e.0) (sym (fold-roll-Ty Bool (sound_kind n) x) ∙ sound) in
        let plain_e : IsTrue (plain e.0) = sym (fold-roll-Ty Bool plain_kind x) ∙ sym (ap (λ z. last_open z (roll-Ty x)) (out-roll-Ty x)) ∙ last in
        let all = subst (IsSound (length structs)) (rolls-Array e.0 c) (sound_stays n (length structs) le (roll-Ty x) sound) in
        let bound = array_extent raise raises structs e.0 c all in
        let moved = ap (λ t. extent (measure raise structs t)) (rolls-Array e.0 c) in
        let inner = e.1 parts.1 le (plain_last e.0 plain_e) (omega (arith, bound, moved, small)) in
        let shut = inner.shut plain_e in
        let align = (raises m.align (aligned raise raises structs e.0)).alignment in
        let some = leb-true 1 c (and_parts (nat_le 1 c) (nat_lt c (2 ^ 32)) parts.0).0 in
        let whole = ap extent is in
        let wide = not_below (raise m.align) m.size (omega (arith, (alignment_small _ align).0)) in
        let grown = mul-le-mul_left (least_multiple (raise m.align) m.size) some in
        fits_rolled x (arrayed raise m (Some c)) is (record {
          measured = record { layout = counted_array (raise m.align) align m inner.measured shut.shut shut.some c some (omega (arith, whole, small)); size = refl; extent = omega (arith, whole, small) };
          ends = shut.shut;
          shut = λ _. record { shut = shut.shut; some = omega (arith, wide, grown, shut.some) };
        })
    by_layer (Ty-F.Runtime e) sound le last small =
        let x : Ty-F Ty = Ty-F.Runtime e.0 in
        let m = measure raise structs e.0 in
        let is : measure raise structs (roll-Ty x) ≡ arrayed raise m None = fold-roll-Ty Measured (layer (measuring raise) (numbered (measuring raise) structs)) x in
        let plain_e : IsTrue (plain e.0) = sym (ap (λ z. last_open z (roll-Ty x)) (out-roll-Ty x)) ∙ last in
        let bound = runtime_extent raise raises structs e.0 in
        let moved = ap (λ t. extent (measure raise structs t)) (rolls-Runtime e.0) in
        let inner = e.1 (sym (fold-roll-Ty Bool (sound_kind n) x) ∙ sound) le (plain_last e.0 plain_e) (omega (arith, bound, moved, small)) in
        let shut = inner.shut plain_e in
        let align = (raises m.align (aligned raise raises structs e.0)).alignment in
        let whole = ap extent is in
        fits_rolled x (arrayed raise m None) is (record {
          measured = record { layout = open_array (raise m.align) align m inner.measured shut.shut shut.some; size = refl; extent = omega (arith, whole, small) };
          ends = refl;
          shut = λ is_plain. let never : ⊥ = true≢false (sym is_plain ∙ fold-roll-Ty Bool plain_kind x) in elim never [ ];
        })
    by_layer (Ty-F.Struct k) sound le last small =
        let less = ltb-true k n (sym (fold-roll-Ty Bool (sound_kind n) (Ty-F.Struct k)) ∙ sound) in
        subst (λ t. IsPlaced raise structs (named t)) (sym (rolls-Struct k)) (below k less le (subst (λ t. extent (measure raise structs t) ≤ most_bytes) (rolls-Struct k) small))

    types_fit : (t : Ty) → Fits n t
    types_fit = ind-Ty (Fits n) (λ x y is. subst (λ z. Fits n (roll-Ty z)) is (by_layer y))

  -- a block of members that fit
  members_place : (n : ℕ) → ((k : ℕ) → k < n → n ≤ length structs → extent (measure raise structs (ty.Struct k)) ≤ most_bytes → IsPlaced raise structs (named (ty.Struct k))) → n ≤ length structs
      → (members : List Member) → AllByRecursion (λ (member : Member). IsSound n member.ty) members → AreMembers members
      → ((k : ℕ) (x : Member) → slice_get members k ≡ Some x → extent (measure raise structs x.ty) ≤ most_bytes) → AllByRecursion (IsPlaced raise structs) members
  members_place n below le [] sound are small = elim are [ ]
  members_place n below le (x ∷ []) sound are small = (moved x (types_fit n below x.ty sound.0 le are (small 0 x refl)), tt)
  members_place n below le (x ∷ y ∷ members) sound are small = (
    moved x (types_fit n below x.ty sound.0 le (plain_last x.ty are.0) (small 0 x refl)),
    members_place n below le (y ∷ members) sound.1 are.1 (λ k z found. small (suc k) z found),
  )

  block_stands : (members : List Member) (placings : List Placing) → AreMembers members → AllByRecursion (IsPlaced raise structs) members
      → AreRight [] (placed_of raise raises structs members placings) → extent (block raise structs members placings) ≤ most_bytes → IsMeasured (block raise structs members placings)
  block_stands members placings are placed right small =
      let all = placed_of raise raises structs members placings in
      let size : group_size raise all < 2 ^ 31 = omega (arith, small) in record {
        layout = (parts_stand raise raises structs members placings [] 0 _ (omega arith) (end_le_size raise raises structs all) size are placed right, size);
        size = refl;
        extent = small;
      }

  some_leaf : (members : List Member) → AreMembers members → AllByRecursion (λ (member : Member). IsTrue (plain member.ty)) members → AllByRecursion (IsPlaced raise structs) members
      → 4 ≤ group_size raise (placed_of raise raises structs members [])
  some_leaf [] are all placed = elim are [ ]
  some_leaf (x ∷ members) are all placed = omega (
    arith,
    (placed.0.shut all.0).some,
    (member_within raise raises structs (x ∷ members) [] [] (free_right (meanings raise raises structs (x ∷ members)) []) 0 x refl).0,
    end_le_size raise raises structs (placed_of raise raises structs (x ∷ members) []),
  )

  structs_fit : (n : ℕ) (k : ℕ) → k < n → n ≤ length structs → extent (measure raise structs (ty.Struct k)) ≤ most_bytes → IsPlaced raise structs (named (ty.Struct k))
  structs_fit zero k less le small = let never : ⊥ = omega (arith, less) in elim never [ ]
  structs_fit (suc n) k less le small =
      let found = slice_found structs k (omega (arith, less, le)) in
      let s = found.0 in
      let is : measure raise structs (ty.Struct k) ≡ block raise structs s.members []
      = over_struct (measuring raise) (numbered (measuring raise) structs) k ∙ numbered_is (measuring raise) structs k s found.1 (known k s found.1).earlier in
      let are = plain_members s.members (known k s found.1).some (plains k s found.1) in
      let bound : extent (block raise structs s.members []) ≤ most_bytes = subst (λ (m : Measured). extent m ≤ most_bytes) is small in
      let right = free_right (meanings raise raises structs s.members) [] in
      let placed = members_place k (λ j j_less j_le j_small. structs_fit n j (omega (arith, j_less, less)) (omega (arith, le)) j_small) (omega (arith, less, le)) s.members (known k s found.1).earlier are
      (λ j x at. omega (arith, bound, member_extent raise raises structs s.members [] right j x at)) in
      let shut : IsShut (block raise structs s.members []) = record {
        shut = all_shut raise raises structs s.members [] [] (plains k s found.1) placed;
        some = some_leaf s.members are (plains k s found.1) placed;
      } in
      record {
        measured = subst IsMeasured (sym is) (block_stands s.members [] are placed right bound);
        ends = subst (λ (m : Measured). IsTrue (may_end m.laid)) (sym is) (closed_ends (block raise structs s.members []).laid shut.shut);
        shut = λ _. subst IsShut (sym is) shut;
      }

  -- the layout of a block that is not too large is well formed
  pub block_layout : (members : List Member) (placings : List Placing) → AllByRecursion (λ (member : Member). IsSound (length structs) member.ty) members → AreMembers members
      → misplaced_in raise structs members placings ≡ None → extent (block raise structs members placings) ≤ most_bytes → IsLayout (block raise structs members placings).laid
  block_layout members placings sound are none small =
      let right = right_from (placed_of raise raises structs members placings) [] 0 none in
      let placed = members_place (length structs) (structs_fit (length structs)) (omega arith) members sound are (λ k x found. omega (arith, small, member_extent raise raises structs members placings right k x found)) in
      (block_stands members placings are placed right small).layout
