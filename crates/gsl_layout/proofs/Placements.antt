-- Members one behind another that may stand where they do.
use Rattle.std.proofs.Common.{◌≡◌, refl, sym, ap, ◌∙◌, ℕ, zero, suc, ◌+◌, ◌*◌, ◌^◌, ◌<◌, ◌≤◌, ◌%◌, ◌/◌, ◌⊎◌, inl, inr, max, List, [], ◌∷◌, ◌++◌, length, get_or, drop, Option, Some, None, IsTrue, arith}
use Rattle.std.specs.Prelude.{Bool, true, false, if◌then◌else◌, count_ones, ⊤}
use Rattle.std.specs.Int.{is_power_of_two}
use Rattle.std.specs.List.{AllByRecursion}
use Rattle.std.proofs.lemmas.Bool.{cases_lt, eqb-true, ltb-false, not-false, or_parts}
use Rattle.std.proofs.lemmas.List.{drop-drop}
use Rattle.std.specs.Int.Count.{ones_step}
use Rattle.std.proofs.lemmas.Nat.{ones_le_self, zero_from_ones}
use Rattle.std.proofs.Math.Nat.{mod_self, pow-suc}
use Rattle.std.proofs.lemmas.Option.{none-some}
use Rattle.gsl_layout.specs.Layout.{IsWhole}
use Rattle.gsl_layout.specs.Placings.{Placed, actual_align, end_of, first_misplaced, free, largest_actual, largest_base, last_first, misplaced, offset_behind, placed, stated, wrong_align, wrong_offset}
use Rattle.gsl_layout.specs.Rules.{IsAlignment}
use Rattle.gsl_layout.specs.declared.measured.Measured.{Measured}
use Rattle.gsl_layout.specs.declared.placing.Placing.{Placing}
use Rattle.gsl_layout.proofs.Multiples.{alignment_small, alignment_whole, multiple_of_align, not_below, through}

-- ---- powers of two

-- a power of two is 1, or even and twice one
halved : (n : ℕ) → count_ones n ≡ 1 → 2 ≤ n → (n % 2 ≡ 0) × (count_ones (n / 2) ≡ 1)
halved n one some = by (cases_lt 0 (n % 2))
  where
    by : (0 < n % 2) ⊎ (n % 2 ≤ 0) → (n % 2 ≡ 0) × (count_ones (n / 2) ≡ 1)
    by (inl odd) = let never : ⊥ = omega (arith, ones_step n, one, odd, zero_from_ones (n / 2) (omega (arith, ones_step n, one, odd)), some) in elim never [ ]
    by (inr even) = (omega (arith, even), omega (arith, ones_step n, one, even))

some_power : (n : ℕ) → count_ones n ≡ 1 → 1 ≤ n
some_power n one = omega (arith, ones_le_self n, one)

pub power_whole : (n : ℕ) → IsTrue (is_power_of_two n) → 4 ≤ n → IsWhole n
power_whole n is some =
    let once = halved n (eqb-true _ _ is) (omega (arith, some)) in
    let twice = halved (n / 2) once.1 (omega (arith, some)) in
    omega (arith, once.0, twice.0)

-- it is 2 to some power
raised_half : (n i : ℕ) → n % 2 ≡ 0 → n / 2 ≡ 2 ^ i → n ≡ 2 ^ suc i
raised_half n i even half = omega (arith, even, half, pow-suc 2 i)

power_step : (n : ℕ) → count_ones n ≡ 1 → ((half : 2 ≤ n) → (i : ℕ) × (n / 2 ≡ 2 ^ i)) → (n < 2) ⊎ (2 ≤ n) → (i : ℕ) × (n ≡ 2 ^ i)
power_step n one halves (inl few) = (0, omega (arith, few, ones_le_self n, one))
power_step n one halves (inr some) = (suc (halves some).0, raised_half n (halves some).0 (halved n one some).0 (halves some).1)

pub power_of : (fuel n : ℕ) → n ≤ fuel → count_ones n ≡ 1 → (i : ℕ) × (n ≡ 2 ^ i)
power_of zero n low one = let never : ⊥ = omega (arith, ones_le_self n, low, one) in elim never [ ]
power_of (suc fuel) n low one = power_step n one (λ some. power_of fuel (n / 2) (omega (arith, low, some)) (halved n one some).1) (cases_lt n 2)

-- a power of two that is not above an alignment divides it, and so does an alignment one that is not below
divides : (i base : ℕ) → IsAlignment base → 2 ^ i ≤ base → base % (2 ^ i) ≡ 0
divides zero base is low = omega arith
divides (suc zero) base is low = omega (arith, alignment_whole base is)
divides (suc (suc zero)) base is low = omega (arith, alignment_whole base is)
divides (suc (suc (suc zero))) base (inl is) low = let never : ⊥ = omega (arith, is, low) in elim never [ ]
divides (suc (suc (suc zero))) base (inr (inl is)) low = omega (arith, is)
divides (suc (suc (suc zero))) base (inr (inr is)) low = omega (arith, is)
divides (suc (suc (suc (suc i)))) base is low = at_top (suc (suc (suc (suc i)))) base is low (omega (arith, four i, pow_some i))
  where
    four : (i : ℕ) → 2 ^ suc (suc (suc (suc i))) ≡ 16 * 2 ^ i
    four i = omega (arith, pow-suc 2 (suc (suc (suc i))), pow-suc 2 (suc (suc i)), pow-suc 2 (suc i), pow-suc 2 i)

    pow_some : (i : ℕ) → 1 ≤ 2 ^ i
    pow_some zero = omega arith
    pow_some (suc i) = omega (arith, pow_some i, pow-suc 2 i)

    at_top : (j base : ℕ) → IsAlignment base → 2 ^ j ≤ base → 16 ≤ 2 ^ j → base % (2 ^ j) ≡ 0
    at_top j base is low high = ap (λ n. base % n) (let same : 2 ^ j ≡ base = omega (arith, low, high, (alignment_small base is).1) in same) ∙ mod_self base

multiple_of : (base n : ℕ) → IsAlignment base → base ≤ n → count_ones n ≡ 1 → n % base ≡ 0
multiple_of base n (inl is) high one =
    let once = halved n one (omega (arith, is, high)) in
    let twice = halved (n / 2) once.1 (omega (arith, is, high)) in
    ap (λ b. n % b) is ∙ omega (arith, once.0, twice.0)
multiple_of base n (inr (inl is)) high one =
    let once = halved n one (omega (arith, is, high)) in
    let twice = halved (n / 2) once.1 (omega (arith, is, high)) in
    let thrice = halved (n / 2 / 2) twice.1 (omega (arith, is, high)) in
    ap (λ b. n % b) is ∙ omega (arith, once.0, twice.0, thrice.0)
multiple_of base n (inr (inr is)) high one =
    let once = halved n one (omega (arith, is, high)) in
    let twice = halved (n / 2) once.1 (omega (arith, is, high)) in
    let thrice = halved (n / 2 / 2) twice.1 (omega (arith, is, high)) in
    let fourth = halved (n / 2 / 2 / 2) thrice.1 (omega (arith, is, high)) in
    ap (λ b. n % b) is ∙ omega (arith, once.0, twice.0, thrice.0, fourth.0)

-- ---- one member

from_not_below : (offset : Option ℕ) (base end : ℕ) → wrong_offset offset base end ≡ false → end ≤ stated offset end
from_not_below (Some offset) base end right = ltb-false _ _ (or_parts _ _ right).1
from_not_below None base end right = omega arith

whole_align : (align : Option ℕ) (base : ℕ) → IsAlignment base → wrong_align align ≡ false → IsWhole (max base (stated align 0))
whole_align (Some align) base is right = by (cases_lt base align)
  where
    by : (base < align) ⊎ (align ≤ base) → IsWhole (max base align)
    by (inl above) = omega (arith, above, power_whole align (not-false _ right) (omega (arith, above, (alignment_small base is).0)))
    by (inr below) = omega (arith, below, alignment_whole base is)
whole_align None base is right = omega (arith, alignment_whole base is)

-- the larger of a base alignment and a power of two is a multiple of both
max_base : (align : Option ℕ) (base : ℕ) → IsAlignment base → wrong_align align ≡ false → max base (stated align 0) % base ≡ 0
max_base None base is right = ap (λ n. n % base) (let same : max base 0 ≡ base = omega arith in same) ∙ mod_self base
max_base (Some align) base is right = by (cases_lt align base)
  where
    by : (align < base) ⊎ (base ≤ align) → max base align % base ≡ 0
    by (inl below) = ap (λ n. n % base) (let same : max base align ≡ base = omega (arith, below) in same) ∙ mod_self base
    by (inr above) = ap (λ n. n % base) (let same : max base align ≡ align = omega (arith, above) in same) ∙ multiple_of base align is above (eqb-true _ _ (not-false _ right))

max_align : (align base : ℕ) → IsAlignment base → wrong_align (Some align) ≡ false → max base align % align ≡ 0
max_align align base is right = by (cases_lt align base)
  where
    by : (align < base) ⊎ (base ≤ align) → max base align % align ≡ 0
    by (inl below) =
        let power = power_of align align (omega arith) (eqb-true _ _ (not-false _ right)) in
        ap (λ n. n % align) (let same : max base align ≡ base = omega (arith, below) in same) ∙ ap (λ n. base % n) power.1 ∙ divides power.0 base is (omega (arith, below, power.1))
    by (inr above) = ap (λ n. n % align) (let same : max base align ≡ align = omega (arith, above) in same) ∙ mod_self align

module _ (member : Placed) (is : IsAlignment member.1.align) where
  pub actual_some : 4 ≤ actual_align member
  actual_some = omega (arith, (alignment_small _ is).0)

  pub stands_behind : (end : ℕ) → misplaced end member ≡ false → end ≤ offset_behind end member
  stands_behind end right =
      omega (arith, from_not_below member.0.offset member.1.align end (or_parts _ _ right).1, not_below (actual_align member) (stated member.0.offset end) (omega (arith, actual_some)))

  pub offset_whole : (end : ℕ) → misplaced end member ≡ false → IsWhole (offset_behind end member)
  offset_whole end right =
      through _ (actual_align member) 4 (multiple_of_align (actual_align member) (stated member.0.offset end)) (whole_align member.0.align member.1.align is (or_parts _ _ right).0) (omega arith)

  pub at_base : (end : ℕ) → misplaced end member ≡ false → offset_behind end member % member.1.align ≡ 0
  at_base end right =
      through _ (actual_align member) member.1.align (multiple_of_align (actual_align member) (stated member.0.offset end)) (max_base member.0.align member.1.align is (or_parts _ _ right).0) (omega (arith, (alignment_small _ is).0))

  pub at_align : (end : ℕ) → misplaced end member ≡ false → (align : ℕ) → member.0.align ≡ Some align → offset_behind end member % align ≡ 0
  at_align end right align said =
      let fits : wrong_align (Some align) ≡ false = ap wrong_align (sym said) ∙ (or_parts _ _ right).0 in
      let whole : actual_align member % align ≡ 0 = ap (λ a. max member.1.align (stated a 0) % align) said ∙ max_align align member.1.align is fits in
      through _ (actual_align member) align (multiple_of_align (actual_align member) (stated member.0.offset end)) whole (some_power align (eqb-true _ _ (not-false _ fits)))

  pub behind_offset : (end offset : ℕ) → member.0.offset ≡ Some offset → offset ≤ offset_behind end member
  behind_offset end offset said =
      omega (arith, ap (λ o. stated o end) said, not_below (actual_align member) (stated member.0.offset end) (omega (arith, actual_some)))

-- ---- several

abbrev pub AllAligned : List Placed → Type 0
AllAligned = AllByRecursion (λ (member : Placed). IsAlignment member.1.align)

-- each may stand behind those before it
abbrev pub AreRight : List Placed → List Placed → Type 0
AreRight before [] = ⊤
AreRight before (member ∷ members) = (misplaced (end_of before) member ≡ false) × AreRight (member ∷ before) members

found_or : (b : Bool) (number : ℕ) (rest : Option ℕ) → (if b then Some number else rest) ≡ None → (b ≡ false) × (rest ≡ None)
found_or true number rest is = elim (none-some _ (sym is)) [ ]
found_or false number rest is = (refl, is)

pub right_from : (members before : List Placed) (number : ℕ) → first_misplaced before number members ≡ None → AreRight before members
right_from [] before number none = tt
right_from (member ∷ members) before number none =
    let here = found_or (misplaced (end_of before) member) number (first_misplaced (member ∷ before) (number + 1) members) none in
    (here.0, right_from members (member ∷ before) (number + 1) here.1)

pub right_append : (xs ys before : List Placed) → AreRight before (xs ++ ys) → AreRight (last_first before xs) ys
right_append [] ys before right = right
right_append (x ∷ xs) ys before right = right_append xs ys (x ∷ before) right.1

-- members of whose places nothing is said may stand where they do
pub free_right : (named : List (List ℕ × Measured)) (before : List Placed) → AreRight before (placed [] named)
free_right [] before = tt
free_right (member ∷ named) before = (refl, free_right named ((free, member.1) ∷ before))

pub none_misplaced : (named : List (List ℕ × Measured)) (before : List Placed) (number : ℕ) → first_misplaced before number (placed [] named) ≡ None
none_misplaced [] before number = refl
none_misplaced (member ∷ named) before number = none_misplaced named ((free, member.1) ∷ before) (number + 1)

pub placed_aligned : (named : List (List ℕ × Measured)) (placings : List Placing) → AllByRecursion (λ (e : List ℕ × Measured). IsAlignment e.1.align) named → AllAligned (placed placings named)
placed_aligned [] placings all = tt
placed_aligned (member ∷ named) placings all = (all.0, placed_aligned named (drop 1 placings) all.1)

pub placed_append : (xs ys : List (List ℕ × Measured)) (placings : List Placing) → placed placings (xs ++ ys) ≡ placed placings xs ++ placed (drop (length xs) placings) ys
placed_append [] ys placings = refl
placed_append (x ∷ xs) ys placings = ap (λ ms. (get_or placings 0 free, x.1) ∷ ms) (placed_append xs ys (drop 1 placings) ∙ ap (λ ps. placed (drop 1 placings) xs ++ placed ps ys) (dropped placings (length xs)))
  where
    dropped : (ps : List Placing) (n : ℕ) → drop n (drop 1 ps) ≡ drop (suc n) ps
    dropped ps n = drop-drop n 1 ps ∙ ap (λ k. drop k ps) (let same : 1 + n ≡ suc n = omega arith in same)

pub last_first_append : (xs ys before : List Placed) → last_first before (xs ++ ys) ≡ last_first (last_first before xs) ys
last_first_append [] ys before = refl
last_first_append (x ∷ xs) ys before = last_first_append xs ys (x ∷ before)

-- members end no earlier than those before them
pub later : (members before : List Placed) → AllAligned members → AreRight before members → end_of before ≤ end_of (last_first before members)
later [] before all right = omega arith
later (member ∷ members) before all right = omega (arith, later members (member ∷ before) all.1 right.1, stands_behind member all.0 (end_of before) right.0)

-- ---- the largest alignments

pub max_alignment : (a b : ℕ) → IsAlignment a → IsAlignment b → IsAlignment (max a b)
max_alignment a b (inl x) (inl y) = inl (omega (arith, x, y))
max_alignment a b (inl x) (inr (inl y)) = inr (inl (omega (arith, x, y)))
max_alignment a b (inl x) (inr (inr y)) = inr (inr (omega (arith, x, y)))
max_alignment a b (inr (inl x)) (inl y) = inr (inl (omega (arith, x, y)))
max_alignment a b (inr (inl x)) (inr (inl y)) = inr (inl (omega (arith, x, y)))
max_alignment a b (inr (inl x)) (inr (inr y)) = inr (inr (omega (arith, x, y)))
max_alignment a b (inr (inr x)) (inl y) = inr (inr (omega (arith, x, y)))
max_alignment a b (inr (inr x)) (inr (inl y)) = inr (inr (omega (arith, x, y)))
max_alignment a b (inr (inr x)) (inr (inr y)) = inr (inr (omega (arith, x, y)))

pub base_aligned : (members : List Placed) → AllAligned members → IsAlignment (largest_base members)
base_aligned [] all = inl refl
base_aligned (member ∷ members) all = max_alignment member.1.align (largest_base members) all.0 (base_aligned members all.1)

pub actual_least : (members : List Placed) → 4 ≤ largest_actual members
actual_least [] = omega arith
actual_least (member ∷ members) = omega (arith, actual_least members)

-- where nothing is said, the actual alignments are the base alignments
pub actual_free : (named : List (List ℕ × Measured)) → largest_actual (placed [] named) ≡ largest_base (placed [] named)
actual_free [] = refl
actual_free (member ∷ named) = omega (arith, actual_free named)
