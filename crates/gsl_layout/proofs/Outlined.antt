-- Sizes of which no more is told than that they are 2^32 bytes or more.
use Rattle.std.proofs.Common.{◌≡◌, refl, sym, ap, ◌∙◌, ℕ, ◌+◌, ◌*◌, ◌<◌, ◌≤◌, ◌%◌, ◌⊎◌, inl, inr, min, max, List, [], ◌∷◌, ◌++◌, take, drop, length, slice_get, get_or, Option, Some, None, arith}
use Rattle.std.specs.Prelude.{not, ◌||◌, nat_eq, nat_lt, if◌then◌else◌}
use Rattle.std.proofs.Math.Nat.{mul-le-mul_left}
use Rattle.std.proofs.lemmas.Bool.{cases_lt, le-ltb, lt-ltb}
use Rattle.std.proofs.lemmas.List.{drop-drop, drop_more, get_or-drop}
use Rattle.std.proofs.lemmas.Option.{get_or_from_slice_get, slice_get_within}
use Rattle.gsl_types.specs.declared.ty.Member.{Member}
use Rattle.gsl_types.specs.declared.ty.StructType.{StructType}
use Rattle.gsl_types.specs.declared.ty.Ty.TheVariants as ty
use Rattle.gsl_types.proofs.Longer.{pushed}
use Rattle.gsl_layout.specs.Measures.{group_align, grouped, measure}
use Rattle.gsl_layout.specs.Outlines.{AreOutlined, most_told, outline}
use Rattle.gsl_layout.specs.Placings.{Placed, actual_align, end_of, first_misplaced, free, largest_base, last_first, misplaced, offset_behind, placed, stated, wrong_offset}
use Rattle.gsl_layout.specs.Rules.{IsAlignment, Raises, least_multiple}
use Rattle.gsl_layout.specs.declared.measured.Measured.{Measured}
use Rattle.gsl_layout.specs.declared.outline.Outline.{Outline}
use Rattle.gsl_layout.specs.declared.placing.Placing.{Placing}
use Rattle.gsl_layout.proofs.Groups.{aligned, placed_of}
use Rattle.gsl_layout.proofs.Multiples.{alignment_small, not_below}
use Rattle.gsl_layout.proofs.Placements.{actual_free, actual_least}
use Rattle.gsl_layout.proofs.Pushes.{base_push, last_first_push}
use Rattle.gsl_layout.proofs.Refusals.{placed_taken}

abbrev pub made : ℕ → ℕ → Outline
made align size = record { align = align; size = size }

-- an outline that has these has the others
pub outlines_as : (a b s t : ℕ) → a ≡ b → s ≡ t → made a s ≡ made b t
outlines_as a b s t align size = ap (λ n. made n s) align ∙ ap (made b) size

-- ---- sums and products

pub capped_sum : (place s : ℕ) → min (place + min s most_told) most_told ≡ min (place + s) most_told
capped_sum place s = omega arith

round_capped : (align e : ℕ) → 1 ≤ align → min (least_multiple align (min e most_told)) most_told ≡ min (least_multiple align e) most_told
round_capped align e some = by (cases_lt e most_told)
  where
    by : (e < most_told) ⊎ (most_told ≤ e) → min (least_multiple align (min e most_told)) most_told ≡ min (least_multiple align e) most_told
    by (inl low) = ap (λ n. min (least_multiple align n) most_told) (let same : min e most_told ≡ e = omega (arith, low) in same)
    by (inr high) = omega (arith, high, not_below align (min e most_told) some, not_below align e some)

pub behind_capped : (align e : ℕ) (o : Option ℕ) → 1 ≤ align → min (least_multiple align (stated o (min e most_told))) most_told ≡ min (least_multiple align (stated o e)) most_told
behind_capped align e (Some n) some = refl
behind_capped align e None some = round_capped align e some

-- the end of a member behind an end
pub end_capped : (e : ℕ) (placing : Placing) (m : Measured) → 1 ≤ m.align
    → min (offset_behind (min e most_told) (placing, m) + min m.size most_told) most_told ≡ min (offset_behind e (placing, m) + m.size) most_told
end_capped e placing m some = omega (arith, behind_capped (actual_align (placing, m)) e placing.offset (omega (arith, some)))

-- the size of an array
pub array_capped : (align s n : ℕ) → 1 ≤ align → 1 ≤ n → min (min (least_multiple align (min s most_told)) most_told * n) most_told ≡ min (least_multiple align s * n) most_told
array_capped align s n some counted = ap (λ stride. min (stride * n) most_told) (round_capped align s some) ∙ by (least_multiple align s) (cases_lt (least_multiple align s) most_told)
  where
    by : (stride : ℕ) → (stride < most_told) ⊎ (most_told ≤ stride) → min (min stride most_told * n) most_told ≡ min (stride * n) most_told
    by stride (inl low) = ap (λ k. min (k * n) most_told) (let same : min stride most_told ≡ stride = omega (arith, low) in same)
    by stride (inr high) =
        let cap : min stride most_told ≡ most_told = omega (arith, high) in
        ap (λ k. min (k * n) most_told) cap ∙ omega (arith, high, mul-le-mul_left stride counted, mul-le-mul_left most_told counted)

-- ---- what is below an end

below_capped : (n e : ℕ) → n < most_told → nat_lt n (min e most_told) ≡ nat_lt n e
below_capped n e small = by (cases_lt n e)
  where
    by : (n < e) ⊎ (e ≤ n) → nat_lt n (min e most_told) ≡ nat_lt n e
    by (inl below) = lt-ltb n (min e most_told) (omega (arith, below, small)) ∙ sym (lt-ltb n e below)
    by (inr above) = le-ltb n (min e most_told) (omega (arith, above)) ∙ sym (le-ltb n e above)

pub wrong_capped : (n base e : ℕ) → n < most_told → (not (nat_eq (n % base) 0) || nat_lt n (min e most_told)) ≡ wrong_offset (Some n) base e
wrong_capped n base e small = ap (λ b. not (nat_eq (n % base) 0) || b) (below_capped n e small)

-- ---- one member more

module _ (raise : ℕ → ℕ) (raises : (align : ℕ) → IsAlignment align → Raises raise align) (structs : List StructType) (members : List Member) (placings : List Placing) (k : ℕ) (x : Member)
    (found : slice_get members k ≡ Some x) where
  abbrev member : Placed
  member = (get_or placings k free, measure raise structs x.ty)

  abbrev before : List Placed
  before = last_first [] (placed_of raise raises structs (take k members) placings)

  pub taken_before : last_first [] (placed_of raise raises structs (take (k + 1) members) placings) ≡ member ∷ before
  taken_before = ap (last_first []) (placed_taken raise raises structs members placings k x found) ∙ last_first_push (placed_of raise raises structs (take k members) placings) [] member

  pub end_taken : end_of (last_first [] (placed_of raise raises structs (take (k + 1) members) placings)) ≡ offset_behind (end_of before) member + member.1.size
  end_taken = ap end_of taken_before

  pub base_taken : largest_base (placed_of raise raises structs (take (k + 1) members) placings) ≡ max (largest_base (placed_of raise raises structs (take k members) placings)) member.1.align
  base_taken = ap largest_base (placed_taken raise raises structs members placings k x found)
      ∙ base_push (placed_of raise raises structs (take k members) placings) member (alignment_small _ (aligned raise raises structs x.ty)).0

  -- the search from here on
  abbrev pub searched : ℕ → Option ℕ
  searched number = first_misplaced (last_first [] (placed_of raise raises structs (take number members) placings)) number (placed_of raise raises structs (drop number members) (drop number placings))

  abbrev rest_searched : List Placed → Option ℕ
  rest_searched behind = first_misplaced behind (k + 1) (placed_of raise raises structs (drop (k + 1) members) (drop (k + 1) placings))

  pub search_step : searched k ≡ (if misplaced (end_of before) member then Some k else searched (k + 1))
  search_step =
      let opened : drop k members ≡ x ∷ drop (k + 1) members
      = drop_more members k x (slice_get_within members k x found) ∙ ap (λ y. y ∷ drop (k + 1) members) (get_or_from_slice_get members k x x found) in
      let here : get_or (drop k placings) 0 free ≡ get_or placings k free
      = get_or-drop k placings 0 free ∙ ap (λ n. get_or placings n free) (let same : k + 0 ≡ k = omega arith in same) in
      let next : drop 1 (drop k placings) ≡ drop (k + 1) placings = drop-drop 1 k placings in
      ap (λ ms. first_misplaced before k (placed_of raise raises structs ms (drop k placings))) opened
      ∙ ap (λ p. if misplaced (end_of before) (p, member.1) then Some k else first_misplaced ((p, member.1) ∷ before) (k + 1) (placed_of raise raises structs (drop (k + 1) members) (drop 1 (drop k placings)))) here
      ∙ ap (λ ps. if misplaced (end_of before) member then Some k else first_misplaced (member ∷ before) (k + 1) (placed_of raise raises structs (drop (k + 1) members) ps)) next
      ∙ ap (λ behind. if misplaced (end_of before) member then Some k else rest_searched behind) (sym taken_before)

  pub end_behind_taken : (placing : Placing) → placing ≡ get_or placings k free → (end : ℕ) → end ≡ min (offset_behind (end_of before) (placing, member.1) + member.1.size) most_told
      → end ≡ min (end_of (last_first [] (placed_of raise raises structs (take (k + 1) members) placings))) most_told
  end_behind_taken placing is end gives =
      gives ∙ ap (λ p. min (offset_behind (end_of before) (p, member.1) + member.1.size) most_told) is ∙ ap (λ e. min e most_told) (sym end_taken)

-- the outline of a struct
pub outlined_group : (raise : ℕ → ℕ) (named : List (List ℕ × Measured)) (base end align size : ℕ) → base ≡ largest_base (placed [] named) → end ≡ min (end_of (last_first [] (placed [] named))) most_told
    → align ≡ max base (raise base) → size ≡ min (least_multiple align end) most_told → made align size ≡ outline (grouped raise (placed [] named))
outlined_group raise named base end align size base_is end_is align_is size_is =
    let same : align ≡ group_align raise (placed [] named) = align_is ∙ ap (λ b. max b (raise b)) base_is ∙ ap (λ b. max b (raise (largest_base (placed [] named)))) (sym (actual_free named)) in
    outlines_as align (group_align raise (placed [] named)) size (min (least_multiple (group_align raise (placed [] named)) (end_of (last_first [] (placed [] named)))) most_told) same
    (size_is ∙ ap (λ e. min (least_multiple align e) most_told) end_is ∙ ap (λ a. min (least_multiple a (min (end_of (last_first [] (placed [] named))) most_told)) most_told) same
    ∙ round_capped (group_align raise (placed [] named)) (end_of (last_first [] (placed [] named))) (omega (arith, actual_least (placed [] named))))

-- one outline more
pub one_more : (raise : ℕ → ℕ) (structs : List StructType) (outlines : List Outline) (next : Outline) (k : ℕ) → length outlines ≡ k → AreOutlined raise structs outlines
    → next ≡ outline (measure raise structs (ty.Struct k)) → AreOutlined raise structs (outlines ++ next ∷ [])
one_more raise structs outlines next k count are is number o found = by (pushed outlines next number o found)
  where
    by : ((number < length outlines) × (slice_get outlines number ≡ Some o)) ⊎ ((number ≡ length outlines) × (next ≡ o)) → o ≡ outline (measure raise structs (ty.Struct number))
    by (inl there) = are number o there.1
    by (inr last) = sym last.1 ∙ is ∙ ap (λ n. outline (measure raise structs (ty.Struct n))) (sym (last.0 ∙ count))
