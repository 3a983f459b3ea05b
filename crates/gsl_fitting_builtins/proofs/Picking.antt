-- Components that are picked and put in.
use Rattle.std.proofs.Common.{◌≡◌, ℕ, ◌+◌, ◌≤◌, ◌<◌, Bool, true, false, cond, List, [], ◌∷◌, length, map, Option, Some, None, refl, ◌∙◌, subst, suc, zero, arith}
use Rattle.std.specs.Prelude.{◌==◌, nat_le, nat_lt, replicate}
use Rattle.std.specs.List.{list_all, range_with_len}
use Rattle.std.proofs.lemmas.Bool.{and_from, eqb-true, lt-ltb}
use Rattle.std.proofs.lemmas.List.{length-map}
use Rattle.std.proofs.lemmas.List.FromFn.{length-range_with_len}
use Rattle.std.proofs.lemmas.Bool.Decides.{nat_tests}
use Rattle.gsl_instr.specs.Forms.{form_of}
use Rattle.gsl_instr.specs.declared.op.TheConstants as op
use Rattle.gsl_tree.specs.Shapes.{Shape}
use Rattle.gsl_spv.specs.Sections.{Sections}
use Rattle.gsl_lower_values.specs.Building.{Built, behind, given as give, giving}
use Rattle.gsl_lower_values.specs.Constructors as constructors
use Rattle.gsl_lower_values.specs.Constructors.{operand, own_or_first, place_among, source, source_by, sources, widened}
use Rattle.gsl_lower_values.specs.Types as types
use Rattle.gsl_lower_values.specs.declared.operand.Operand.{Operand}
use Rattle.gsl_fitting.specs.Fits.{Frame}
use Rattle.gsl_fitting_builtins.specs.Arguments.{AreBelow}
use Rattle.gsl_fitting_types.specs.Making.{AreSorted, IsSized, Sorts}
use Rattle.gsl_fitting_operators.proofs.Composites.{construct_stands, extract_stands, shuffle_stands}
use Rattle.gsl_fitting_operators.proofs.Operators.{Fits, Gives, Value, all_alike, ones_sum, typed_comes, typed_sorts, value_later}
use Rattle.gsl_fitting_types.proofs.Sorting.{sorts_then, stays_same}
use Rattle.gsl_fitting_types.proofs.Stepping.{comes_then, given_comes}

-- ---- they sort

pub component_sorts : (a : Operand) (position : ℕ) (s : Sections) → Sorts s (constructors.component a position s)
unfolding form_of
component_sorts a position s = typed_sorts (a.shape.0, 1) op.COMPOSITE_EXTRACT (a.id ∷ position ∷ []) s (λ type id. refl)

pub components_sort : (a : Operand) (positions : List ℕ) (s : Sections) → Sorts s (constructors.components a positions s)
unfolding form_of
components_sort a positions s = by (a.shape.1 == 1)
  where
    by : (b : Bool) → Sorts s (behind (types.type_of (a.shape.0, length positions) s) (cond b (giving op.COMPOSITE_CONSTRUCT (replicate (length positions) a.id)) (giving op.VECTOR_SHUFFLE (a.id ∷ a.id ∷ positions))))
    by true = typed_sorts (a.shape.0, length positions) op.COMPOSITE_CONSTRUCT (replicate (length positions) a.id) s (λ type id. refl)
    by false = typed_sorts (a.shape.0, length positions) op.VECTOR_SHUFFLE (a.id ∷ a.id ∷ positions) s (λ type id. refl)

pub picked_sorts : (a : Operand) (positions : List ℕ) (s : Sections) → Sorts s (constructors.picked a positions s)
unfolding constructors.picked
picked_sorts a [] s = components_sort a [] s
picked_sorts a (position ∷ []) s = by (a.shape.1 == 1)
  where
    by : (b : Bool) → Sorts s ((cond b (give a.id) (constructors.component a position)) s)
    by true = stays_same s
    by false = component_sorts a position s
picked_sorts a (position ∷ other ∷ positions) s = components_sort a (position ∷ other ∷ positions) s

pub wide_sorts : (count : ℕ) (a : Operand) (s : Sections) → Sorts s (constructors.wide count a s)
unfolding constructors.wide form_of
wide_sorts count a s = by (a.shape.1 == count)
  where
    by : (b : Bool) → Sorts s ((cond b (give a.id) (λ s. behind (types.type_of (a.shape.0, count) s) (giving op.VECTOR_SHUFFLE (a.id ∷ a.id ∷ widened count a.shape.1)))) s)
    by true = stays_same s
    by false = typed_sorts (a.shape.0, count) op.VECTOR_SHUFFLE (a.id ∷ a.id ∷ widened count a.shape.1) s (λ type id. refl)

pub replaced_sorts : (a : Operand) (positions : List ℕ) (new : ℕ) (s : Sections) → Sorts s (constructors.replaced a positions new s)
unfolding constructors.replaced form_of
replaced_sorts a positions new s =
    sorts_then s (constructors.wide a.shape.1 (operand (a.shape.0, length positions) new) s) (λ id t. behind (types.type_of a.shape t) (giving op.VECTOR_SHUFFLE (a.id ∷ id ∷ sources a.shape.1 positions)))
    (wide_sorts a.shape.1 (operand (a.shape.0, length positions) new) s) (λ id t. typed_sorts a.shape op.VECTOR_SHUFFLE (a.id ∷ id ∷ sources a.shape.1 positions) t (λ type id. refl))

-- ---- positions

pub not_le : (a b : ℕ) → nat_le a b ≡ false → b < a
not_le a b e = grind (arith, nat_tests, e)

pub is_le : (a b : ℕ) → nat_le a b ≡ true → a ≤ b
is_le a b e = grind (arith, nat_tests, e)

-- two or more are not one
pub not_one : (n : ℕ) → 2 ≤ n → (n == 1) ≡ false
not_one n some = by (n == 1) refl
  where
    by : (b : Bool) → (n == 1) ≡ b → b ≡ false
    by true e = let one = eqb-true n 1 e in absurd (omega (arith, one, some))
    by false e = refl

below_twice : (count : ℕ) (positions : List ℕ) → AreBelow count positions → list_all (λ k. nat_lt k (count + count)) positions ≡ true
below_twice count [] all = refl
below_twice count (position ∷ positions) all = let less = all.0 in and_from _ _ (lt-ltb position (count + count) (omega (arith, less))) (below_twice count positions all.1)

below_map : (g : ℕ → ℕ) (bound : ℕ) (ks : List ℕ) → ((k : ℕ) → g k < bound) → list_all (λ k. nat_lt k bound) (map g ks) ≡ true
below_map g bound [] less = refl
below_map g bound (k ∷ ks) less = and_from _ _ (lt-ltb (g k) bound (less k)) (below_map g bound ks less)

-- those of the first so many
below_range : (g : ℕ → ℕ) (bound from n : ℕ) → ((k : ℕ) → k < from + n → g k < bound) → list_all (λ k. nat_lt k bound) (map g (range_with_len from n)) ≡ true
below_range g bound from zero less = refl
below_range g bound from (suc n) less =
    let first = less from (omega arith) in
    and_from _ _ (lt-ltb (g from) bound first) (below_range g bound (from + 1) n (λ k h. less k (omega (arith, h))))

pub range_below : (from n bound : ℕ) → from + n ≤ bound → AreBelow bound (range_with_len from n)
range_below from zero bound le = tt
range_below from (suc n) bound le = ((omega (arith, le)), range_below (from + 1) n bound (omega (arith, le)))

place_below : (position : ℕ) (positions : List ℕ) (from place : ℕ) → place_among position positions from ≡ Some place → place < from + length positions
place_below position [] from place is = absurd (none is)
  where
    none : None ≡ Some place → ⊥
    none e = cc
place_below position (other ∷ positions) from place is = by (other == position) (place_below position positions (from + 1) place) is
  where
    first : Some from ≡ Some place → from ≡ place
    first e = cc

    by : (b : Bool) → (place_among position positions (from + 1) ≡ Some place → place < from + 1 + length positions) → cond b (Some from) (place_among position positions (from + 1)) ≡ Some place → place < from + suc (length positions)
    by true more e = let f = first e in omega (arith, f)
    by false more e = let f = more e in omega (arith, f)

source_below : (count : ℕ) (positions : List ℕ) (position : ℕ) → length positions ≤ count → position < count → source count positions position < count + count
source_below count positions position few less = by (place_among position positions 0) refl
  where
    by : (o : Option ℕ) → place_among position positions 0 ≡ o → source_by count position o < count + count
    by None e = omega (arith, less)
    by (Some place) e = let p = place_below position positions 0 place e in omega (arith, p, few)

own_below : (few position : ℕ) → 1 ≤ few → own_or_first few position < few + few
own_below few position some = by (nat_le few position) refl
  where
    by : (b : Bool) → nat_le few position ≡ b → cond b 0 position < few + few
    by true e = omega (arith, some)
    by false e = let less = not_le few position e in omega (arith, less, some)

module _ (whole : Sections) (main : ℕ) (local_size : List ℕ) (rank : ℕ → ℕ) (f : Frame) (sorted : AreSorted whole) where
  abbrev V : List ℕ → Shape → ℕ → Type 0
  V given shape id = Value whole main local_size rank f sorted given shape id

  abbrev Comes' : List ℕ → Shape → Sections → Built ℕ → Type 0
  Comes' given shape before built = Fits whole main local_size rank f sorted given (Gives whole main local_size rank f sorted shape) before built

  pub component_fits : (given : List ℕ) (a : Operand) (position : ℕ) (before : Sections) → (a.shape.1 == 1) ≡ false → position < a.shape.1 → V given a.shape a.id → Comes' given (a.shape.0, 1) before (constructors.component a position before)
  unfolding form_of
  component_fits given a position before many less v =
      typed_comes whole main local_size rank f sorted given (a.shape.0, 1) op.COMPOSITE_EXTRACT (a.id ∷ position ∷ []) before (record { some = omega arith; few = omega arith }) (λ type id. refl)
      (λ type now wider of. extract_stands whole main local_size rank f sorted now type a.id position a.shape refl many less of (value_later whole main local_size rank f sorted given now a.shape a.id wider v))

  pub components_fit : (given : List ℕ) (a : Operand) (positions : List ℕ) (before : Sections) → IsSized (a.shape.0, length positions) → (length positions == 1) ≡ false → AreBelow a.shape.1 positions → V given a.shape a.id
      → Comes' given (a.shape.0, length positions) before (constructors.components a positions before)
  unfolding form_of
  components_fit given a positions before sized many below v = by (a.shape.1 == 1) refl
    where
      shape : Shape
      shape = (a.shape.0, length positions)

      by : (b : Bool) → (a.shape.1 == 1) ≡ b → Comes' given (a.shape.0, length positions) before (behind (types.type_of (a.shape.0, length positions) before) (cond b (giving op.COMPOSITE_CONSTRUCT (replicate (length positions) a.id)) (giving op.VECTOR_SHUFFLE (a.id ∷ a.id ∷ positions))))
      by true e =
          let w : V given (a.shape.0, 1) a.id = subst (λ n. V given (a.shape.0, n) a.id) (eqb-true a.shape.1 1 e) v in
          typed_comes whole main local_size rank f sorted given (a.shape.0, length positions) op.COMPOSITE_CONSTRUCT (replicate (length positions) a.id) before sized (λ type id. refl)
          (λ type now wider of. construct_stands whole main local_size rank f sorted now type (a.shape.0, length positions) (replicate (length positions) 1) (replicate (length positions) a.id) refl many of
          (all_alike whole main local_size rank f sorted now a.shape.0 (length positions) a.id (value_later whole main local_size rank f sorted given now (a.shape.0, 1) a.id wider w)) (ones_sum whole main local_size rank f sorted (length positions)))
      by false e =
          typed_comes whole main local_size rank f sorted given (a.shape.0, length positions) op.VECTOR_SHUFFLE (a.id ∷ a.id ∷ positions) before sized (λ type id. refl)
          (λ type now wider of. let w = value_later whole main local_size rank f sorted given now a.shape a.id wider v in
          shuffle_stands whole main local_size rank f sorted now type a.id a.id (a.shape.0, length positions) a.shape positions refl many e refl refl (below_twice a.shape.1 positions below) of w w)

  pub picked_fits : (given : List ℕ) (a : Operand) (positions : List ℕ) (before : Sections) → IsSized (a.shape.0, length positions) → AreBelow a.shape.1 positions → V given a.shape a.id → Comes' given (a.shape.0, length positions) before (constructors.picked a positions before)
  unfolding constructors.picked
  picked_fits given a [] before sized below v = let none = sized.some in absurd (omega (arith, none))
  picked_fits given a (position ∷ []) before sized below v = by (a.shape.1 == 1) refl
    where
      by : (b : Bool) → (a.shape.1 == 1) ≡ b → Comes' given (a.shape.0, 1) before ((cond b (give a.id) (constructors.component a position)) before)
      by true e = given_comes whole main local_size rank f given (Gives whole main local_size rank f sorted (a.shape.0, 1)) a.id before (λ inside. subst (λ n. V given (a.shape.0, n) a.id) (eqb-true a.shape.1 1 e) v)
      by false e = component_fits given a position before e below.0 v
  picked_fits given a (position ∷ other ∷ positions) before sized below v = components_fit given a (position ∷ other ∷ positions) before sized (not_one (length (position ∷ other ∷ positions)) (omega arith)) below v

  -- a vector of fewer components, or as many
  pub wide_fits : (given : List ℕ) (count : ℕ) (a : Operand) (before : Sections) → IsSized (a.shape.0, count) → 2 ≤ a.shape.1 → a.shape.1 ≤ count → V given a.shape a.id → Comes' given (a.shape.0, count) before (constructors.wide count a before)
  unfolding constructors.wide form_of
  wide_fits given count a before sized many few v = by (a.shape.1 == count) refl
    where
      by : (b : Bool) → (a.shape.1 == count) ≡ b → Comes' given (a.shape.0, count) before ((cond b (give a.id) (λ s. behind (types.type_of (a.shape.0, count) s) (giving op.VECTOR_SHUFFLE (a.id ∷ a.id ∷ widened count a.shape.1)))) before)
      by true e = given_comes whole main local_size rank f given (Gives whole main local_size rank f sorted (a.shape.0, count)) a.id before (λ inside. subst (λ n. V given (a.shape.0, n) a.id) (eqb-true a.shape.1 count e) v)
      by false e =
          typed_comes whole main local_size rank f sorted given (a.shape.0, count) op.VECTOR_SHUFFLE (a.id ∷ a.id ∷ widened count a.shape.1) before sized (λ type id. refl)
          (λ type now wider of. let w = value_later whole main local_size rank f sorted given now a.shape a.id wider v in
          shuffle_stands whole main local_size rank f sorted now type a.id a.id (a.shape.0, count) a.shape (widened count a.shape.1) refl (not_one count (omega (arith, many, few))) (not_one a.shape.1 many) refl
          (length-map (range_with_len 0 count) (own_or_first a.shape.1) ∙ length-range_with_len 0 count)
          (below_map (own_or_first a.shape.1) (a.shape.1 + a.shape.1) (range_with_len 0 count) (λ k. own_below a.shape.1 k (omega (arith, many)))) of w w)

  -- a vector with other components at some positions
  pub replaced_fits : (given : List ℕ) (a : Operand) (positions : List ℕ) (new : ℕ) (before : Sections) → IsSized a.shape → 2 ≤ length positions → length positions ≤ a.shape.1 → V given a.shape a.id → V given (a.shape.0, length positions) new
      → Comes' given a.shape before (constructors.replaced a positions new before)
  unfolding constructors.replaced form_of
  replaced_fits given a positions new before sized many few v w =
      comes_then whole main local_size rank f given (Gives whole main local_size rank f sorted (a.shape.0, a.shape.1)) (Gives whole main local_size rank f sorted a.shape) before (constructors.wide a.shape.1 (operand (a.shape.0, length positions) new) before)
      (λ id t. behind (types.type_of a.shape t) (giving op.VECTOR_SHUFFLE (a.id ∷ id ∷ sources a.shape.1 positions))) (wide_sorts a.shape.1 (operand (a.shape.0, length positions) new) before)
      (wide_fits given a.shape.1 (operand (a.shape.0, length positions) new) before sized many few w)
      (λ id t. typed_sorts a.shape op.VECTOR_SHUFFLE (a.id ∷ id ∷ sources a.shape.1 positions) t (λ type id. refl))
      (λ id t now is wider extends inside. typed_comes whole main local_size rank f sorted now a.shape op.VECTOR_SHUFFLE (a.id ∷ id ∷ sources a.shape.1 positions) t sized (λ type id. refl)
      (λ type last wide of. shuffle_stands whole main local_size rank f sorted last type a.id id a.shape a.shape (sources a.shape.1 positions) refl (not_one a.shape.1 (omega (arith, many, few))) (not_one a.shape.1 (omega (arith, many, few))) refl
      (length-map (range_with_len 0 a.shape.1) (source a.shape.1 positions) ∙ length-range_with_len 0 a.shape.1)
      (below_range (source a.shape.1 positions) (a.shape.1 + a.shape.1) 0 a.shape.1 (λ k less. source_below a.shape.1 positions k few (omega (arith, less)))) of
      (value_later whole main local_size rank f sorted given last a.shape a.id (λ i h. wide i (wider i h)) v) (value_later whole main local_size rank f sorted now last a.shape id wide is)))
