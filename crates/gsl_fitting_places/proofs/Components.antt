-- Components at an index, of a vector or of what is picked of one.
use Rattle.std.proofs.Common.{◌≡◌, ℕ, ◌<◌, ◌≤◌, Bool, true, false, cond, List, [], ◌∷◌, ◌++◌, length, Option, Some, None, refl, sym, ap, ◌∙◌, subst, suc, zero, arith}
use Rattle.std.specs.Prelude.{◌==◌, slice_index}
use Rattle.gsl_instr.specs.Forms.{form_of}
use Rattle.gsl_instr.specs.declared.op.TheConstants as op
use Rattle.gsl_types.specs.declared.ty.Scalar.{Scalar}
use Rattle.gsl_types.specs.declared.ty.Scalar.TheVariants.{Uint}
use Rattle.gsl_tree.specs.Shapes.{Shape, is_integer}
use Rattle.gsl_words.specs.declared.module.Module.{Module}
use Rattle.gsl_spv.specs.Sections.{Sections}
use Rattle.gsl_lower_values.specs.Building.{Built, Step, behind, given as give, giving}
use Rattle.gsl_lower_values.specs.Types as types
use Rattle.gsl_lower_places.specs.Reached.{component_at, component_if, component_in, component_of, position_by, repicked, stored_shape, with_picked}
use Rattle.gsl_lower_places.specs.declared.reached.Base.{Base}
use Rattle.gsl_lower_places.specs.declared.reached.Base.TheVariants.{Variable, Value}
use Rattle.gsl_lower_places.specs.declared.reached.Part.{Part}
use Rattle.gsl_lower_places.specs.declared.reached.Part.TheVariants.{Fixed, By}
use Rattle.gsl_lower_places.specs.declared.reached.Picked.{Picked}
use Rattle.gsl_lower_places.specs.declared.reached.Reached.{Reached}
use Rattle.gsl_fitting.specs.Fits.{Frame}
use Rattle.gsl_fitting_types.specs.Making.{AreSorted, IsConstant, IsSized, IsTypeOf, IsValue, Sorts, made}
use Rattle.gsl_fitting_types.proofs.Knowing.{known_wider, type_later}
use Rattle.gsl_fitting_types.proofs.Sorting.{giving_sorts, sorts_then, stays_same}
use Rattle.gsl_fitting_types.proofs.Stepping.{Wider, comes_then, given_comes, giving_comes}
use Rattle.gsl_fitting_types.proofs.Types.{type_comes, type_sorts, vector_constant_comes, vector_constant_sorts}
use Rattle.gsl_fitting_operators.proofs.Operators.{fixed_value}
use Rattle.gsl_fitting_builtins.specs.Arguments.{AreBelow}
use Rattle.gsl_fitting_places.specs.Leading.{IsIndex, IsWay}
use Rattle.gsl_fitting_places.specs.Places.{AreStored, AreWithin, IsAmong, IsChoice, IsOfShape, IsPartOf, IsPlace, IsRefined, MayRead, MayStore, MayTake, MayUpdate, Picks, Reads, Stores, TakesMore, Updates, shape_before, way, way_by}
use Rattle.gsl_fitting_places.proofs.Chains.{Serves, index_later, int_is, leads_later}
use Rattle.gsl_fitting_places.proofs.Moves.{F, G}
use Rattle.gsl_fitting_places.proofs.Parting.{dynamic_stands}
use Rattle.gsl_fitting_places.proofs.Ways.{way_begins, way_one}

-- ---- they sort

abbrev extract_by : ℕ → ℕ → Step ℕ
extract_by id table t = behind (types.type_of (Uint, 1) t) (giving op.VECTOR_EXTRACT_DYNAMIC (table ∷ id ∷ []))

extract_sorts : (id table : ℕ) (s : Sections) → Sorts s (extract_by id table s)
unfolding form_of
extract_sorts id table s = sorts_then s (types.type_of (Uint, 1) s) (giving op.VECTOR_EXTRACT_DYNAMIC (table ∷ id ∷ [])) (type_sorts (Uint, 1) s) (λ type t. giving_sorts op.VECTOR_EXTRACT_DYNAMIC (table ∷ id ∷ []) type t (λ to. refl))

position_sorts : (positions : List ℕ) (id : ℕ) (s : Sections) → Sorts s (position_by positions id s)
position_sorts positions id s = sorts_then s (types.vector_constant (Uint, length positions) positions s) (extract_by id) (vector_constant_sorts (Uint, length positions) positions s) (λ table t. extract_sorts id table t)

-- the component of a shape that is picked by what was found
abbrev by_position : Shape → Option Part → ℕ → Step Picked
by_position shape by position = give (record { shape = shape; by = repicked by position; positions = 0 ∷ [] })

in_sorts : (before : Picked) (part : Part) (s : Sections) → Sorts s (component_in before part s)
in_sorts before (Fixed index) s = stays_same s
in_sorts before (By k id) s = sorts_then s (position_by before.positions id s) (by_position before.shape before.by) (position_sorts before.positions id s) (λ position t. stays_same t)

pub if_sorts : (shape : Shape) (part : Part) (picked : Option Picked) (s : Sections) → Sorts s (component_if shape part picked s)
if_sorts shape part None s = stays_same s
if_sorts shape part (Some before) s = in_sorts before part s

pub component_sorts : (shape : Shape) (part : Part) (r : Reached) (s : Sections) → Sorts s (component_at shape part r s)
unfolding component_at
component_sorts shape part r s = sorts_then s (component_if shape part r.picked s) (λ picked. give (with_picked r picked)) (if_sorts shape part r.picked s) (λ picked t. stays_same t)

-- ---- positions

pub position_below : (count : ℕ) (positions : List ℕ) (index : ℕ) → index < length positions → AreBelow count positions → slice_index positions index < count
position_below count [] index less below = absurd (omega (arith, less))
position_below count (position ∷ positions) zero less below = below.0
position_below count (position ∷ positions) (suc index) less below = position_below count positions index (let z : suc index < suc (length positions) = less in omega (arith, z)) below.1

-- by what the component at an index is picked then
abbrev pub PicksBy : Part → Option Picked → Option Part → Type 0
PicksBy (Fixed index) None by = by ≡ None
PicksBy (Fixed index) (Some before) by = by ≡ before.by
PicksBy (By s id) None by = by ≡ Some (By s id)
PicksBy (By s id) (Some before) by = (position : ℕ) × (by ≡ repicked before.by position)

module _ (whole : Sections) (main : ℕ) (local_size : List ℕ) (rank : ℕ → ℕ) (f : Frame) (sorted : AreSorted whole) where
  abbrev m : Module
  m = made whole main local_size rank f

  abbrev D : {A : Type 0} → List ℕ → (A → List ℕ → Sections → Type 0) → Sections → Built A → Type 0
  D given Is before built = F whole main local_size rank f sorted given Is before built

  -- ---- the way of what is picked anew

  pub way_any : (class id : ℕ) (parts : List Part) (p : Picked) → TakesMore whole main local_size rank f (Variable id class) parts → IsWay m class id (way parts (Some p))
  way_any class id parts p more = by (p.shape.1 == 1)
    where
      same : IsWay m class id parts
      same = record { few = let room = more.0 in omega (arith, room); begins = way_begins whole main local_size rank f sorted class id parts (more.1, more.2) }

      one : (part : Part) → IsWay m class id (parts ++ part ∷ [])
      one part = way_one whole main local_size rank f sorted class id parts part more

      by_part : (by : Option Part) (positions : List ℕ) → IsWay m class id (way_by parts by positions)
      by_part None [] = same
      by_part None (position ∷ []) = one (Fixed position)
      by_part None (position ∷ other ∷ positions) = same
      by_part (Some part) positions = one part

      by : (b : Bool) → IsWay m class id (cond b parts (way_by parts p.by p.positions))
      by true = same
      by false = by_part p.by p.positions

  -- ---- what is picked anew of what an expression leads to

  module _ (given now : List ℕ) (wider : Wider given now) (shape to_shape : Shape) (r : Reached) (p : Picked) (same : p.shape ≡ shape_before shape r.picked) (picks : Picks whole main local_size rank f now to_shape p) (more : TakesMore whole main local_size rank f r.base r.path) where
    place_anew : (id class : ℕ) → TakesMore whole main local_size rank f (Variable id class) r.path → IsPlace whole main local_size rank f given class id r.path shape r.picked → IsPlace whole main local_size rank f now class id r.path to_shape (Some p)
    place_anew id class more place = record {
      pointee = place.pointee;
      type = place.type;
      leads = leads_later whole main local_size rank f sorted given now class id place.pointee r.path place.type wider place.leads;
      of = subst (λ z. IsTypeOf whole (stored_shape class z) place.type) (sym same) place.of;
      along = way_any class id r.path p more;
      is = picks;
    }

    part_anew : (id : ℕ) → IsPartOf whole main local_size rank f given id r.path shape r.picked → IsPartOf whole main local_size rank f now id r.path to_shape (Some p)
    part_anew id k = record {
      type = k.type;
      part = k.part;
      typed = k.typed;
      known = known_wider whole main local_size sorted f given now id wider k.known;
      within = k.within;
      few = k.few;
      of = subst (λ z. IsTypeOf whole z k.part) (sym same) k.of;
      is = picks;
    }

    pub reads_anew : MayRead whole main local_size rank f given shape r → MayRead whole main local_size rank f now to_shape (with_picked r p)
    unfolding place_anew
    reads_anew may = by r.base more may
      where
        by : (base : Base) → TakesMore whole main local_size rank f base r.path → Reads whole main local_size rank f given shape base r.path r.picked → Reads whole main local_size rank f now to_shape base r.path (Some p)
        by (Variable id class) more may = record { place = place_anew id class more may.place; readable = may.readable }
        by (Value id type) more may = part_anew id may

    pub updates_anew : MayTake (Some p) → MayUpdate whole main local_size rank f given shape r → MayUpdate whole main local_size rank f now to_shape (with_picked r p)
    unfolding place_anew
    updates_anew takes may = by r.base more may
      where
        by : (base : Base) → TakesMore whole main local_size rank f base r.path → Updates whole main local_size rank f given shape base r.path r.picked → Updates whole main local_size rank f now to_shape base r.path (Some p)
        by (Variable id class) more may = record { place = place_anew id class more may.place; readable = may.readable; changes = may.changes; takes = takes; more = λ h. more }
        by (Value id type) more may = part_anew id may

    pub stores_anew : MayTake (Some p) → MayStore whole main local_size rank f given shape r → MayStore whole main local_size rank f now to_shape (with_picked r p)
    unfolding place_anew
    stores_anew takes may = by r.base more may
      where
        by : (base : Base) → TakesMore whole main local_size rank f base r.path → Stores whole main local_size rank f given shape base r.path r.picked → Stores whole main local_size rank f now to_shape base r.path (Some p)
        by (Variable id class) more may = record { place = place_anew id class more may.place; changes = may.changes; takes = takes; more = λ h. more }
        by (Value id type) more may = tt

  -- ---- one component

  -- The component at an index is picked of what was picked before, or of the whole.
  pub record PicksOne (given : List ℕ) (shape : Shape) (part : Part) (before : Option Picked) (p : Picked) : Type 0 where
    pub by : PicksBy part before p.by
    pub same : p.shape ≡ shape_before shape before
    pub picks : Picks whole main local_size rank f given (shape.0, 1) p
    pub one : length p.positions ≡ 1

  pub one_takes : (shape : Shape) (given : List ℕ) (part : Part) (before : Option Picked) (p : Picked) → PicksOne given shape part before p → MayTake (Some p)
  one_takes shape given part before p k = by p.by
    where
      by : (by : Option Part) → AreStored p.shape.1 by p.positions
      by None = let one = k.one in let some = k.picks.sized.some in omega (arith, one, some)
      by (Some part) = k.one

  module _ (given : List ℕ) (shape : Shape) (several : (shape.1 == 1) ≡ false) where
    one_of_whole : (part : Part) → IsSized shape → IsIndex whole main local_size rank f given part → IsAmong shape.1 part → PicksOne given shape part None (component_of shape part)
    one_of_whole (Fixed position) sized index less = record { by = refl; same = refl; one = refl; picks = record { shaped = refl; some = omega arith; few = omega arith; sized = sized; by = tt; within = (less, tt) } }
    one_of_whole (By k id) sized index less = record { by = refl; same = refl; one = refl; picks = record { shaped = refl; some = omega arith; few = omega arith; sized = sized; by = index; within = (omega arith, tt) } }

    one_known : (before : Picked) (index : ℕ) → Picks whole main local_size rank f given shape before → index < shape.1 → PicksOne given shape (Fixed index) (Some before) (record before { positions = slice_index before.positions index ∷ [] })
    one_known before index k less = record {
      by = refl;
      same = refl;
      one = refl;
      picks = record { shaped = ap (λ (z : Shape). (z.0, 1)) k.shaped; some = omega arith; few = omega arith; sized = k.sized; by = k.by; within = by before.by k.within };
    }
      where
        there : index < length before.positions
        there = subst (λ (z : Shape). index < z.1) k.shaped less

        by : (by : Option Part) → AreWithin before.shape.1 by before.positions → AreWithin before.shape.1 by (slice_index before.positions index ∷ [])
        by None within = (position_below before.shape.1 before.positions index there within, tt)
        by (Some part) within = (position_below 1 before.positions index there within, tt)

    one_computed : (now : List ℕ) (s : Scalar) (id : ℕ) (before : Picked) (position : ℕ) → Wider given now → Picks whole main local_size rank f given shape before → IsValue whole main local_size rank f now (Uint, 1) position
        → PicksOne now shape (By s id) (Some before) (record { shape = before.shape; by = repicked before.by position; positions = 0 ∷ [] })
    one_computed now s id before position wider k v = record {
      by = (position, refl);
      same = refl;
      one = refl;
      picks = record { shaped = ap (λ (z : Shape). (z.0, 1)) k.shaped; some = omega arith; few = omega arith; sized = k.sized; by = choice before.by k.by; within = by before.by };
    }
      where
        choice : (by : Option Part) → IsChoice whole main local_size rank f given by → IsChoice whole main local_size rank f now (repicked by position)
        choice None is = (refl, v)
        choice (Some part) is = index_later whole main local_size rank f sorted given now part wider is

        by : (by : Option Part) → AreWithin before.shape.1 (repicked by position) (0 ∷ [])
        by None = (omega arith, tt)
        by (Some part) = (omega arith, tt)

    position_comes : (positions : List ℕ) (s : Scalar) (id : ℕ) (before : Sections) → length positions ≡ shape.1 → length positions ≤ 4 → 1 ≤ length positions → is_integer s ≡ true → IsValue whole main local_size rank f given (s, 1) id
        → D given (G whole main local_size rank f sorted (Uint, 1)) before (position_by positions id before)
    unfolding form_of
    position_comes positions s id before count few some integer v =
        comes_then whole main local_size rank f given (λ table now after. IsConstant after table_shape table) (G whole main local_size rank f sorted (Uint, 1)) before (types.vector_constant table_shape positions before) (extract_by id) (vector_constant_sorts table_shape positions before)
        (vector_constant_comes whole main local_size rank f sorted given table_shape positions before (record { some = some; few = few }) many refl) (λ table t. extract_sorts id table t)
        (λ table t now fixed wider extends inside. comes_then whole main local_size rank f now (λ type now after. IsTypeOf after (Uint, 1) type) (G whole main local_size rank f sorted (Uint, 1)) t (types.type_of (Uint, 1) t) (giving op.VECTOR_EXTRACT_DYNAMIC (table ∷ id ∷ []))
        (type_sorts (Uint, 1) t) (type_comes whole main local_size rank f sorted now (Uint, 1) t (record { some = omega arith; few = omega arith })) (λ type u. giving_sorts op.VECTOR_EXTRACT_DYNAMIC (table ∷ id ∷ []) type u (λ to. refl))
        (λ type u later of wider_on extends_on inside_on. giving_comes whole main local_size rank f later op.VECTOR_EXTRACT_DYNAMIC (table ∷ id ∷ []) (Uint, 1) type u sorted of
        (λ start. dynamic_stands whole main local_size rank f sorted later type table id table_shape refl many (type_later u whole (Uint, 1) type start of) (fixed_value whole main local_size rank f sorted later table_shape table t fixed inside) (By s id)
        (serves later (λ i h. wider_on i (wider i h))))))
      where
        table_shape : Shape
        table_shape = (Uint, length positions)

        many : (length positions == 1) ≡ false
        many = ap (λ n. n == 1) count ∙ several

        serves : (later : List ℕ) → Wider given later → Serves whole main local_size rank f sorted later (By s id) id
        serves later wider = record { known = known_wider whole main local_size sorted f given later id wider v.known; int = int_is whole main local_size rank f sorted given s id integer v; number = λ n e. absurd cc }

    pub one_picked : (part : Part) (picked : Option Picked) (before : Sections) → IsOfShape whole main local_size rank f given shape picked → IsIndex whole main local_size rank f given part → IsAmong shape.1 part
        → D given (λ p now after. PicksOne now shape part picked p × Wider given now) before (component_if shape part picked before)
    one_picked part None before sized index less = given_comes whole main local_size rank f given (λ p now after. PicksOne now shape part None p × Wider given now) (component_of shape part) before (λ inside. (one_of_whole part sized index less, λ id h. h))
    one_picked (Fixed index) (Some k) before picks is less =
        given_comes whole main local_size rank f given (λ p now after. PicksOne now shape (Fixed index) (Some k) p × Wider given now) (record k { positions = slice_index k.positions index ∷ [] }) before (λ inside. (one_known k index picks less, λ id h. h))
    one_picked (By s id) (Some k) before picks is less =
        comes_then whole main local_size rank f given (G whole main local_size rank f sorted (Uint, 1)) (λ p now after. PicksOne now shape (By s id) (Some k) p × Wider given now) before (position_by k.positions id before) (by_position k.shape k.by) (position_sorts k.positions id before)
        (position_comes k.positions s id before (sym (ap (λ (z : Shape). z.1) picks.shaped)) picks.few picks.some is.0 is.1) (λ position t. stays_same t)
        (λ position t now v wider extends inside. given_comes whole main local_size rank f now (λ p now after. PicksOne now shape (By s id) (Some k) p × Wider given now) (record { shape = k.shape; by = repicked k.by position; positions = 0 ∷ [] }) t
        (λ inside. (one_computed now s id k position wider picks v, wider)))

    pub component_comes : (part : Part) (r : Reached) (before : Sections) → IsOfShape whole main local_size rank f given shape r.picked → IsIndex whole main local_size rank f given part → IsAmong shape.1 part → TakesMore whole main local_size rank f r.base r.path
        → D given (λ to now after. IsRefined whole main local_size rank f given now shape (shape.0, 1) r to × (MayStore whole main local_size rank f given shape r → MayStore whole main local_size rank f now (shape.0, 1) to)) before (component_at shape part r before)
    unfolding component_at
    component_comes part r before of index less more =
        comes_then whole main local_size rank f given (λ p now after. PicksOne now shape part r.picked p × Wider given now) Is before (component_if shape part r.picked before) (λ picked. give (with_picked r picked)) (if_sorts shape part r.picked before) (one_picked part r.picked before of index less)
        (λ picked t. stays_same t)
        (λ p t now k wider extends inside. given_comes whole main local_size rank f now Is (with_picked r p) t
        (λ inside. (
          record {
            of = k.0.picks;
            more = more;
            reads = reads_anew given now k.1 shape (shape.0, 1) r p k.0.same k.0.picks more;
            updates = updates_anew given now k.1 shape (shape.0, 1) r p k.0.same k.0.picks more (one_takes shape now part r.picked p k.0);
          },
          stores_anew given now k.1 shape (shape.0, 1) r p k.0.same k.0.picks more (one_takes shape now part r.picked p k.0),
        )))
      where
        Is : Reached → List ℕ → Sections → Type 0
        Is to now after = IsRefined whole main local_size rank f given now shape (shape.0, 1) r to × (MayStore whole main local_size rank f given shape r → MayStore whole main local_size rank f now (shape.0, 1) to)

  -- ---- what may be updated, may be read and stored

  pub update_reads : (given : List ℕ) (shape : Shape) (r : Reached) → MayUpdate whole main local_size rank f given shape r → MayRead whole main local_size rank f given shape r
  update_reads given shape r may = by r.base may
    where
      by : (base : Base) → Updates whole main local_size rank f given shape base r.path r.picked → Reads whole main local_size rank f given shape base r.path r.picked
      by (Variable id class) u = record { place = u.place; readable = u.readable }
      by (Value id type) u = u

  pub update_stores : (given : List ℕ) (shape : Shape) (r : Reached) → MayUpdate whole main local_size rank f given shape r → MayStore whole main local_size rank f given shape r
  update_stores given shape r may = by r.base may
    where
      by : (base : Base) → Updates whole main local_size rank f given shape base r.path r.picked → Stores whole main local_size rank f given shape base r.path r.picked
      by (Variable id class) u = record { place = u.place; changes = u.changes; takes = u.takes; more = u.more }
      by (Value id type) u = tt
