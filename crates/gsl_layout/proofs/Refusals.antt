-- What is too large for a part is so for the whole.
use Rattle.std.proofs.Common.{◌≡◌, refl, sym, ap, subst, ◌∙◌, ℕ, zero, suc, ◌+◌, ◌^◌, ◌<◌, ◌≤◌, List, [], ◌∷◌, ◌++◌, take, drop, length, get_or, max, slice_get, Some, Result, Ok, Err, IfOk, IsTrue, arith}
use Rattle.std.specs.Prelude.{Bool, ◌&&◌, nat_le, nat_lt}
use Rattle.std.specs.List.{AllByRecursion}
use Rattle.std.proofs.lemmas.Bool.{and_parts, leb-true, true≢false}
use Rattle.std.proofs.Math.Nat.{mul-le-mul_left}
use Rattle.std.proofs.lemmas.List.{take-append-drop}
use Rattle.std.proofs.lemmas.Option.{none-some, get_or_from_slice_get, slice_get_within}
use Rattle.std.proofs.lemmas.List.{get_or-drop, length-map, length-take-le, take_more}
use Rattle.gsl_types.specs.declared.ty.Ty.{Ty}
use Rattle.gsl_types.specs.declared.ty.Ty.TheVariants as ty
use Rattle.gsl_types.specs.declared.ty.Ty.TheOpen.{Ty-F}
use Rattle.gsl_types.specs.declared.ty.Ty.TheViews.{roll-Ty, out-roll-Ty}
use Rattle.gsl_types.specs.declared.ty.Ty.TheFolds.{fold-roll-Ty, ind-Ty, map-Ty}
use Rattle.gsl_types.specs.declared.ty.Member.{Member}
use Rattle.gsl_types.specs.declared.ty.StructType.{StructType}
use Rattle.gsl_types.specs.Known.{IsSound}
use Rattle.gsl_types.specs.Structs.{numbered}
use Rattle.gsl_types.proofs.Layers.{over_array, over_runtime, sound_array}
use Rattle.gsl_layout.specs.Extents.{AreMembers, extent, most_bytes, last_open, may_be_last, plain, plain_kind}
use Rattle.gsl_layout.specs.Gathers.{Adds, Closes, Gathers, IsShut, Measures, closed_align, closed_group}
use Rattle.gsl_layout.specs.Layout.{AreParts, Group, IsLayout, Parts}
use Rattle.gsl_layout.specs.Parts.{parts_of}
use Rattle.gsl_layout.specs.Measures.{block, group_align, group_size, measure, measuring}
use Rattle.gsl_layout.specs.Placings.{Placed, end_of, free, largest_actual, last_first, parts_behind}
use Rattle.gsl_layout.specs.Rules.{IsAlignment, Raises, least_multiple}
use Rattle.gsl_layout.specs.declared.gathered.Gathered.{Gathered}
use Rattle.gsl_layout.specs.declared.measured.Measured.{Measured}
use Rattle.gsl_layout.specs.declared.placing.Placing.{Placing}
use Rattle.gsl_layout.specs.declared.refusal.LayRefusal.{LayRefusal}
use Rattle.gsl_layout.specs.declared.refusal.LayRefusal.TheVariants.{TooLarge, Memory}
use Rattle.gsl_layout.proofs.Groups.{IsPlaced, aligned, all_shut, end_le_size, first_extent, meanings, member_within, parts_stand, placed_append, placed_of, strides_small}
use Rattle.gsl_layout.proofs.Multiples.{alignment_small, not_below}
use Rattle.gsl_layout.proofs.Placements.{AreRight}

pub carried : (e : LayRefusal) (a b : Measured) → extent a ≤ extent b → Measures (Err e) a → Measures (Err e) b
carried TooLarge a b less large = omega (arith, less, large)
carried Memory a b less large = tt

pub too_far : (e : LayRefusal) (before now : Gathered) (member : Placed) (b : Measured) (members : List Placed) → Gathers before members
    → end_of (last_first [] (members ++ member ∷ [])) ≤ extent b → Adds (Err e) before now member → Measures (Err e) b
too_far TooLarge before now member b members gathers less adds = omega (arith, less, adds members gathers)
too_far Memory before now member b members gathers less adds = tt

-- one more of the first members of a list
take_one : {X : Type 0} (xs : List X) (k : ℕ) (x : X) → slice_get xs k ≡ Some x → take (k + 1) xs ≡ take k xs ++ x ∷ []
take_one xs k x found = take_more xs k x (slice_get_within xs k x found) ∙ ap (λ z. take k xs ++ z ∷ []) (get_or_from_slice_get xs k x x found)

pushed_all : {X : Type 0} (P : X → Type 0) (ys : List X) (x : X) → AllByRecursion P ys → P x → AllByRecursion P (ys ++ x ∷ [])
pushed_all P [] x all is = (is, tt)
pushed_all P (y ∷ ys) x all is = (all.0, pushed_all P ys x all.1 is)

pub taken_all : {X : Type 0} (xs : List X) (k : ℕ) (P : X → Type 0) (x : X) → slice_get xs k ≡ Some x → AllByRecursion P (take k xs) → P x → AllByRecursion P (take (k + 1) xs)
taken_all xs k P x found all is = subst (AllByRecursion P) (sym (take_one xs k x found)) (pushed_all P (take k xs) x all is)

-- the type of a member that is not the last is plain, and that of the last may be a runtime array
abbrev PlainIsLast : Ty → Type 0
PlainIsLast ty = IsTrue (plain ty) → IsTrue (may_be_last ty)

-- a layer that is no runtime array
same_last : (x : Ty-F Ty) → last_open x (roll-Ty x) ≡ plain (roll-Ty x) → PlainIsLast (roll-Ty x)
same_last x same is = ap (λ z. last_open z (roll-Ty x)) (out-roll-Ty x) ∙ same ∙ is

layer_last : (y : Ty-F ((ty : Ty) × PlainIsLast ty)) → PlainIsLast (roll-Ty (map-Ty _ _ (λ e. e.0) y))
layer_last Ty-F.Void = same_last Ty-F.Void refl
layer_last (Ty-F.One s) = same_last (Ty-F.One s) refl
layer_last (Ty-F.Vector s n) = same_last (Ty-F.Vector s n) refl
layer_last (Ty-F.Array e n) = same_last (Ty-F.Array e.0 n) refl
layer_last (Ty-F.Runtime e) = λ is. let never : ⊥ = true≢false (sym is ∙ fold-roll-Ty Bool plain_kind (Ty-F.Runtime e.0)) in elim never [ ]
layer_last (Ty-F.Struct k) = same_last (Ty-F.Struct k) refl

pub plain_last : (ty : Ty) → IsTrue (plain ty) → IsTrue (may_be_last ty)
plain_last = ind-Ty PlainIsLast (λ x y is. subst (λ z. PlainIsLast (roll-Ty z)) is (layer_last y))

pub member_last : (members : List Member) (k : ℕ) (x : Member) → slice_get members k ≡ Some x → AreMembers members → IsTrue (may_be_last x.ty)
member_last [] k x found are = elim are [ ]
member_last (y ∷ []) zero x found are = subst (λ (z : Member). IsTrue (may_be_last z.ty)) (get_or_from_slice_get (y ∷ []) 0 x x found) are
member_last (y ∷ []) (suc k) x found are = elim (none-some _ found) [ ]
member_last (y ∷ z ∷ members) zero x found are = subst (λ (z : Member). IsTrue (may_be_last z.ty)) (get_or_from_slice_get (y ∷ z ∷ members) 0 x x found) (plain_last y.ty are.0)
member_last (y ∷ z ∷ members) (suc k) x found are = member_last (z ∷ members) k x found are.1

pub plain_members : (members : List Member) → 0 < length members → AllByRecursion (λ (member : Member). IsTrue (plain member.ty)) members → AreMembers members
plain_members [] some all = let never : ⊥ = omega (arith, some) in elim never [ ]
plain_members (y ∷ []) some all = plain_last y.ty all.0
plain_members (y ∷ z ∷ members) some all = (all.0, plain_members (z ∷ members) (omega arith) all.1)

abbrev together : ℕ → Parts → ℕ → Measured
together align members all = record { align = align; size = all; laid = Group members all }

module _ (raise : ℕ → ℕ) (raises : (align : ℕ) → IsAlignment align → Raises raise align) (structs : List StructType) where
  pub placed_taken : (members : List Member) (placings : List Placing) (k : ℕ) (x : Member) → slice_get members k ≡ Some x
      → placed_of raise raises structs (take (k + 1) members) placings ≡ placed_of raise raises structs (take k members) placings ++ (get_or placings k free, measure raise structs x.ty) ∷ []
  placed_taken members placings k x found =
      let few = meanings raise raises structs (take k members) in
      let count : length few ≡ k = length-map (take k members) (λ (member : Member). (member.name, measure raise structs member.ty)) ∙ length-take-le k members (let le : k ≤ length members = omega (arith, slice_get_within members k x found) in le) in
      ap (λ ms. placed_of raise raises structs ms placings) (take_one members k x found) ∙ placed_append raise raises structs (take k members) (x ∷ []) placings
      ∙ ap (λ p. placed_of raise raises structs (take k members) placings ++ (p, measure raise structs x.ty) ∷ []) (get_or-drop (length few) placings 0 free ∙ ap (λ n. get_or placings n free) (let same : length few + 0 ≡ k = omega (arith, count) in same))

  pub added_extent : (members : List Member) (placings : List Placing) → AreRight [] (placed_of raise raises structs members placings) → (k : ℕ) (x : Member) → slice_get members k ≡ Some x
      → end_of (last_first [] (placed_of raise raises structs (take k members) placings ++ (get_or placings k free, measure raise structs x.ty) ∷ [])) ≤ extent (block raise structs members placings)
  added_extent members placings right k x found =
      let joined : members ≡ take (k + 1) members ++ drop (k + 1) members = sym (take-append-drop (k + 1) members) in
      let all = subst (λ ms. AreRight [] (placed_of raise raises structs ms placings)) joined right in
      omega (
        arith,
        first_extent raise raises structs (take (k + 1) members) (drop (k + 1) members) placings all,
        ap (λ ms. extent (block raise structs ms placings)) joined,
        ap (λ ms. end_of (last_first [] ms)) (placed_taken members placings k x found),
      )

  -- the alignment of an array is not 0
  pub raised_some : (e : Ty) → 1 ≤ raise (measure raise structs e).align
  raised_some e = omega (arith, (alignment_small _ (raises _ (aligned raise raises structs e)).alignment).0)

  pub array_extent : (e : Ty) (n : ℕ) → IsSound (length structs) (ty.Array e n) → extent (measure raise structs e) ≤ extent (measure raise structs (ty.Array e n))
  array_extent e n sound =
      let m = measure raise structs e in
      let some : 1 ≤ n = leb-true 1 n (and_parts (nat_le 1 n) (nat_lt n (2 ^ 32)) (and_parts (nat_le 1 n && nat_lt n (2 ^ 32)) _ (sym (sound_array (length structs) e n) ∙ sound)).0).0 in
      let stride = least_multiple (raise m.align) m.size in
      let wide = not_below (raise m.align) m.size (raised_some e) in
      let counted = mul-le-mul_left stride some in
      omega (arith, ap extent (over_array (measuring raise) (numbered (measuring raise) structs) e n), wide, counted)

  pub runtime_extent : (e : Ty) → extent (measure raise structs e) ≤ extent (measure raise structs (ty.Runtime e))
  runtime_extent e =
      let m = measure raise structs e in
      omega (arith, ap extent (over_runtime (measuring raise) (numbered (measuring raise) structs) e), not_below (raise m.align) m.size (raised_some e))

  module _ (members : List Member) (placings : List Placing) (g : Gathered) (gathers : Gathers g (placed_of raise raises structs members placings)) (are : AreMembers members)
      (placed : AllByRecursion (IsPlaced raise structs) members) (right : AreRight [] (placed_of raise raises structs members placings)) where
    abbrev all : List Placed
    all = placed_of raise raises structs members placings

    align_is : closed_align raise g ≡ group_align raise all
    align_is = ap (λ a. max a (raise g.base)) gathers.align ∙ ap (λ b. max (largest_actual all) (raise b)) gathers.base

    size_is : least_multiple (closed_align raise g) g.end ≡ group_size raise all
    size_is = ap (λ a. least_multiple a g.end) align_is ∙ ap (λ e. least_multiple (group_align raise all) e) gathers.end

    closed_is : closed_group raise g ≡ block raise structs members placings
    closed_is = ap (λ p. together (closed_align raise g) p (least_multiple (closed_align raise g) g.end)) gathers.parts
        ∙ ap (λ n. together (closed_align raise g) (parts_behind [] all) n) size_is
        ∙ ap (λ a. together a (parts_behind [] all) (group_size raise all)) align_is

    pub group_layout : least_multiple (closed_align raise g) g.end ≤ most_bytes
        → (AreParts 0 (parts_of g.offsets g.laids) (least_multiple (closed_align raise g) g.end)) × (least_multiple (closed_align raise g) g.end < 2 ^ 31)
    group_layout few =
        let small : least_multiple (closed_align raise g) g.end < 2 ^ 31 = omega (arith, few) in (
          subst (λ p. AreParts 0 p (least_multiple (closed_align raise g) g.end)) (sym gathers.parts)
              (parts_stand raise raises structs members placings [] 0 (least_multiple (closed_align raise g) g.end) (omega arith) (omega (arith, end_le_size raise raises structs all, size_is)) small are placed right),
          small,
        )

    pub closes_measures : (r : Result Measured LayRefusal) → Closes r raise g → Measures r (block raise structs members placings)
    closes_measures (Ok got) is =
        let same = is.0 ∙ closed_is in
        let size : (block raise structs members placings).size ≤ most_bytes = subst (λ (m : Measured). m.size ≤ most_bytes) same is.1 in (
          same,
          record {
            layout = subst (λ (m : Measured). IsLayout m.laid) closed_is (group_layout (omega (arith, size, size_is)));
            size = refl;
            extent = omega (arith, size, strides_small raise raises structs members placings [] placed);
          },
        )
    closes_measures (Err TooLarge) is = omega (arith, is, size_is)
    closes_measures (Err Memory) is = tt

    some_leaf : (ms : List Member) (ps : List Placing) → AreMembers ms → AllByRecursion (λ (member : Member). IsTrue (plain member.ty)) ms → AllByRecursion (IsPlaced raise structs) ms
        → AreRight [] (placed_of raise raises structs ms ps) → 4 ≤ group_size raise (placed_of raise raises structs ms ps)
    some_leaf [] ps are plain placed right = elim are [ ]
    some_leaf (x ∷ ms) ps are plain placed right =
        omega (arith, (placed.0.shut plain.0).some, (member_within raise raises structs (x ∷ ms) ps [] right 0 x refl).0, end_le_size raise raises structs (placed_of raise raises structs (x ∷ ms) ps))

    pub closes_shut : (r : Result Measured LayRefusal) → Closes r raise g → AllByRecursion (λ (member : Member). IsTrue (plain member.ty)) members → IfOk r IsShut
    closes_shut (Ok got) is all_plain =
        subst IsShut (sym (is.0 ∙ closed_is)) (record { shut = all_shut raise raises structs members placings [] all_plain placed; some = some_leaf members placings are all_plain placed right })
    closes_shut (Err e) is all_plain = tt
