-- Assignments with operators, and steps.
use Rattle.std.proofs.Common.{◌≡◌, ℕ, Bool, true, false, ◌||◌, not, cond, List, [], ◌++◌, Some, refl, sym, subst}
use Rattle.gsl_types.specs.declared.ty.Scalar.TheVariants.{Bool as Boolean}
use Rattle.gsl_types.specs.declared.ty.StructType.{StructType}
use Rattle.gsl_types.specs.declared.ty.Ty.{Ty}
use Rattle.gsl_types.specs.declared.ty.Ty.TheVariants as ty
use Rattle.gsl_values.specs.declared.op.BinaryOp.{BinaryOp}
use Rattle.gsl_tree.specs.Operations.{is_postfix}
use Rattle.gsl_tree.specs.Shapes.{Shape, is_integer, shape_of}
use Rattle.gsl_tree.specs.declared.expr.StepOp.{StepOp}
use Rattle.gsl_words.specs.declared.module.Module.{Module}
use Rattle.gsl_spv.specs.Sections.{Sections}
use Rattle.gsl_lower_law.specs.Operands.{Fit}
use Rattle.gsl_lower_values.specs.Constructors.{operand}
use Rattle.gsl_lower_values.specs.Operators as operators
use Rattle.gsl_lower_places.specs.Pointed.{to_renew}
use Rattle.gsl_lower_places.specs.Reading.{read}
use Rattle.gsl_lower_places.specs.Writing.{stored}
use Rattle.gsl_lower_places.specs.declared.reached.Base.{Base}
use Rattle.gsl_lower_places.specs.declared.reached.Base.TheVariants.{Value, Variable}
use Rattle.gsl_lower_places.specs.declared.reached.Reached.{Reached}
use Rattle.gsl_lower_traits.specs.declared.traits.Traits.{Traits}
use Rattle.gsl_lower_holders.specs.Flow.{Emit, Flow, behind, given as give, lift}
use Rattle.gsl_lower_holders.specs.Waiting.{fetch, fetch_reached, hold, hold_reached}
use Rattle.gsl_lower_expr.specs.Parts.{Lower, after_update, before_update, pointed_if, read_by, reads, shape_or, stepped, stepped_at, store_by, stores, updated}
use Rattle.gsl_fitting.specs.Fits.{Frame}
use Rattle.gsl_fitting_types.specs.Making.{AreSorted, Comes, GivesValue, made}
use Rattle.gsl_fitting_operators.specs.Operands.{Suits, pair_shape}
use Rattle.gsl_fitting_operators.proofs.Pairs.{binary_fits, binary_sorts, stepped_fits, stepped_sorts}
use Rattle.gsl_fitting_places.specs.Leading.{Nothing}
use Rattle.gsl_fitting_places.specs.Places.{MayRead, MayStore, MayUpdate, Stores, Updates}
use Rattle.gsl_fitting_places.proofs.Components.{update_reads, update_stores}
use Rattle.gsl_fitting_places.proofs.Parting.{read_fits}
use Rattle.gsl_fitting_places.proofs.Pointing.{renewed_comes, renewed_sorts}
use Rattle.gsl_fitting_places.proofs.Storing.{stored_fits}
use Rattle.gsl_fitting_flow.specs.Flowing.{EmitStays, Flows, GivesNone, GivesOf, IsLater, IsOf, IsTypeFor, Waits, Widens, asked_if}
use Rattle.gsl_fitting_flow.proofs.Following.{emit_then, flow_same, flows_so, flows_then, given_flows, later_then, lift_flows, lift_stays}
use Rattle.gsl_fitting_flow.proofs.Holding.{fetch_flows, fetch_stays, hold_flows, hold_stays, of_later, type_on, waits_later}
use Rattle.gsl_fitting_leaves.proofs.Copying.{part_later, place_later}
use Rattle.gsl_fitting_expr.specs.Evaluating.{Evaluates, IsPlain, Yields}
use Rattle.gsl_fitting_expr.proofs.Steps.{step_flows, value_of}
use Rattle.gsl_fitting_expr.proofs.Yielding.{flows_last, flows_map, or_false, stays_map, yields_last, yields_then}
use Rattle.gsl_fitting_reaching.specs.Reached.{IsReached, Reaches, Spot, asked_of}
use Rattle.gsl_fitting_reaching.proofs.Serving.{may_read, may_store, may_update}
use Rattle.gsl_fitting_reads.specs.Waiting.{IsKept, held_if}
use Rattle.gsl_fitting_reads.proofs.Fetching.{fetch_reached_flows, fetch_reached_stays}
use Rattle.gsl_fitting_reads.proofs.Holding.{hold_reached_flows, hold_reached_stays}
use Rattle.gsl_fitting_reads.proofs.Reading.{reads_stay}
use Rattle.gsl_fitting_reads.proofs.Storing.{stores_stay}
use Rattle.gsl_fitting_indexes.proofs.Stepping.{reached_later}

-- ---- parts

-- what a part of lowering gives
abbrev carrier : {B C A : Type 0} → (B → C → Emit A) → Type 0
carrier {B} {C} {A} lowered = A

-- an old value and what it was read from
abbrev Kept : Type 0
Kept = carrier (before_update [] (ty.One Boolean))

abbrev kept_pair : ℕ → Reached → Kept
kept_pair old to = record { old = old; to = to }

abbrev waits_of : Bool → Reached → ℕ → Emit Kept
waits_of splits to before u = behind (hold_reached splits to u) (λ kept. give (kept_pair before kept))

abbrev old_of : Bool → Reached → ℕ → Emit Kept
old_of splits to old u = behind (hold splits old u) (waits_of splits to)

abbrev read_of : List StructType → Ty → Bool → Reached → Emit Kept
read_of structs t splits to u = behind (reads structs t to u) (old_of splits to)

abbrev put_of : List StructType → Ty → Reached → ℕ → Emit ℕ
put_of structs t to new u = behind (stores structs t to new u) (λ done. give new)

abbrev made_of : List StructType → BinaryOp → Ty → Ty → ℕ → ℕ → Reached → Emit ℕ
made_of structs which t right x y to u = behind (lift (operators.binary which (operand (shape_or t) x) (operand (shape_or right) y)) u) (put_of structs t to)

abbrev to_of : List StructType → BinaryOp → Ty → Ty → Bool → Reached → ℕ → ℕ → Emit ℕ
to_of structs which t right splits kept y x u = behind (fetch_reached splits kept u) (made_of structs which t right x y)

-- ---- what stays

pointed_stays : (b : Bool) (shape : Shape) (r : Reached) (u : Flow) → EmitStays u (lift (pointed_if b shape r) u)
pointed_stays false shape r u = flow_same u
pointed_stays true shape r u = lift_stays u (to_renew shape r u.sections) (renewed_sorts shape r u.sections)

waits_stay : (splits : Bool) (to : Reached) (before : ℕ) (u : Flow) → EmitStays u (waits_of splits to before u)
waits_stay splits to before u = stays_map u (hold_reached splits to u) (λ kept. kept_pair before kept) (hold_reached_stays splits to u)

old_stays : (splits : Bool) (to : Reached) (old : ℕ) (u : Flow) → EmitStays u (old_of splits to old u)
old_stays splits to old u = emit_then u (hold splits old u) (waits_of splits to) (hold_stays splits old u) (λ before v. waits_stay splits to before v)

read_stays : (structs : List StructType) (t : Ty) (splits : Bool) (to : Reached) (u : Flow) → EmitStays u (read_of structs t splits to u)
read_stays structs t splits to u = emit_then u (reads structs t to u) (old_of splits to) (reads_stay structs t to u) (λ old v. old_stays splits to old v)

before_stays : (structs : List StructType) (t : Ty) (b : Traits) (r : Reached) (u : Flow) → EmitStays u (before_update structs t b r u)
unfolding before_update
before_stays structs t b r u = emit_then u (lift (pointed_if (not b.splits) (shape_or t) r) u) (read_of structs t b.splits) (pointed_stays (not b.splits) (shape_or t) r u) (λ to v. read_stays structs t b.splits to v)

put_stays : (structs : List StructType) (t : Ty) (to : Reached) (new : ℕ) (u : Flow) → EmitStays u (put_of structs t to new u)
put_stays structs t to new u = stays_map u (stores structs t to new u) (λ done. new) (stores_stay structs t to new u)

made_stays : (structs : List StructType) (which : BinaryOp) (t right : Ty) (x y : ℕ) (to : Reached) (u : Flow) → EmitStays u (made_of structs which t right x y to u)
made_stays structs which t right x y to u =
    emit_then u (lift (operators.binary which (operand (shape_or t) x) (operand (shape_or right) y)) u) (put_of structs t to) (lift_stays u (operators.binary which (operand (shape_or t) x) (operand (shape_or right) y) u.sections) (binary_sorts which (operand (shape_or t) x) (operand (shape_or right) y) u.sections))
    (λ new v. put_stays structs t to new v)

to_stays : (structs : List StructType) (which : BinaryOp) (t right : Ty) (splits : Bool) (kept : Reached) (y x : ℕ) (u : Flow) → EmitStays u (to_of structs which t right splits kept y x u)
to_stays structs which t right splits kept y x u = emit_then u (fetch_reached splits kept u) (made_of structs which t right x y) (fetch_reached_stays splits kept u) (λ to v. made_stays structs which t right x y to v)

after_stays : (structs : List StructType) (which : BinaryOp) (t right : Ty) (b : Traits) (kept : Kept) (y : ℕ) (u : Flow) → EmitStays u (after_update structs which t right b kept y u)
unfolding after_update
after_stays structs which t right b kept y u = emit_then u (fetch b.splits t kept.old u) (to_of structs which t right b.splits kept.to y) (fetch_stays b.splits t kept.old u) (λ x v. to_stays structs which t right b.splits kept.to y x v)

module _ (whole : Sections) (main : ℕ) (local_size : List ℕ) (rank : ℕ → ℕ) (f : Frame) (sorted : AreSorted whole) where
  abbrev m : Module
  m = made whole main local_size rank f

  abbrev Is : List ℕ → Spot → Reached → Type 0
  Is given spot r = IsReached whole main local_size rank f given spot r

  -- ---- made ready, unless it has to wait

  abbrev Ready : Bool → List ℕ → Spot → Shape → Reached → Type 0
  Ready true given spot shape to = Is given spot to
  Ready false given spot shape to = MayUpdate whole main local_size rank f given shape to

  -- and while it waits
  abbrev Stays : Bool → List ℕ → Spot → Shape → Reached → Type 0
  Stays true given spot shape kept = IsKept whole main local_size rank f spot kept
  Stays false given spot shape kept = MayUpdate whole main local_size rank f given shape kept

  updates_later : (given now : List ℕ) (shape : Shape) (r : Reached) → Widens given now → MayUpdate whole main local_size rank f given shape r → MayUpdate whole main local_size rank f now shape r
  updates_later given now shape r wider may = by r.base may
    where
      by : (base : Base) → Updates whole main local_size rank f given shape base r.path r.picked → Updates whole main local_size rank f now shape base r.path r.picked
      by (Variable id class) u = record { place = place_later whole main local_size rank f sorted given now class id r.path shape r.picked wider u.place; readable = u.readable; changes = u.changes; takes = u.takes; more = u.more }
      by (Value id of_whole) u = part_later whole main local_size rank f sorted given now id r.path shape r.picked wider u

  stores_later : (given now : List ℕ) (shape : Shape) (r : Reached) → Widens given now → MayStore whole main local_size rank f given shape r → MayStore whole main local_size rank f now shape r
  stores_later given now shape r wider may = by r.base may
    where
      by : (base : Base) → Stores whole main local_size rank f given shape base r.path r.picked → Stores whole main local_size rank f now shape base r.path r.picked
      by (Variable id class) u = record { place = place_later whole main local_size rank f sorted given now class id r.path shape r.picked wider u.place; changes = u.changes; takes = u.takes; more = u.more }
      by (Value id of_whole) u = tt

  ready_later : (b : Bool) (given now : List ℕ) (spot : Spot) (shape : Shape) (to : Reached) → Widens given now → Ready b given spot shape to → Ready b now spot shape to
  ready_later true given now spot shape to wider is = reached_later whole main local_size rank f sorted given now spot to wider is
  ready_later false given now spot shape to wider is = updates_later given now shape to wider is

  stays_later : (b : Bool) (given now : List ℕ) (spot : Spot) (shape : Shape) (kept : Reached) → (b ≡ false → Widens given now) → Stays b given spot shape kept → Stays b now spot shape kept
  stays_later true given now spot shape kept wider is = is
  stays_later false given now spot shape kept wider is = updates_later given now shape kept (wider refl) is

  -- ---- before the right side

  module _ (structs : List StructType) (t : Ty) (spot : Spot) (type : ℕ) (shaped : shape_of t ≡ Some (shape_or t)) (plain : spot.shape ≡ Some (shape_or t)) (of : IsPlain whole main local_size rank f (shape_or t) type) (reading : spot.may.reads ≡ true) (storing : spot.may.stores ≡ true) where
    ready_reads : (b : Bool) (given : List ℕ) (to : Reached) → Ready b given spot (shape_or t) to → MayRead whole main local_size rank f given (shape_or t) to
    ready_reads true given to is = may_read whole main local_size rank f sorted given spot (shape_or t) to plain is reading
    ready_reads false given to is = update_reads whole main local_size rank f sorted given (shape_or t) to is

    pointed_flows : (b : Bool) (deep : ℕ) (given : List ℕ) (r : Reached) (u : Flow) → Is given spot r → Flows whole main local_size rank f [] deep false given (λ to now after. Ready b now spot (shape_or t) to) u (lift (pointed_if (not b) (shape_or t) r) u)
    pointed_flows true deep given r u is = given_flows whole main local_size rank f deep given (λ to now after. Is now spot to) r u (λ inside. is)
    pointed_flows false deep given r u is =
        lift_flows whole main local_size rank f deep given (λ to now after. MayUpdate whole main local_size rank f now (shape_or t) to) u (to_renew (shape_or t) r u.sections)
        (renewed_comes whole main local_size rank f sorted given (shape_or t) r u.sections (may_update whole main local_size rank f sorted given spot (shape_or t) r plain is reading storing))

    read_flows : (deep : ℕ) (given : List ℕ) (to : Reached) (u : Flow) → MayRead whole main local_size rank f given (shape_or t) to → Flows whole main local_size rank f [] deep false given (GivesOf whole main local_size rank f type) u (reads structs t to u)
    unfolding reads
    read_flows deep given to u may =
        subst (λ o. Flows whole main local_size rank f [] deep false given (GivesOf whole main local_size rank f type) u (read_by structs t to o u)) (sym shaped)
        (step_flows whole main local_size rank f sorted deep given (shape_or t) type (read (shape_or t) to) u of (read_fits whole main local_size rank f sorted given (shape_or t) to u.sections may))

    store_flows : (deep : ℕ) (given : List ℕ) (to : Reached) (v : ℕ) (u : Flow) → MayStore whole main local_size rank f given (shape_or t) to → IsOf whole main local_size rank f given type v → Flows whole main local_size rank f [] deep false given (GivesNone whole main local_size rank f) u (stores structs t to v u)
    unfolding stores
    store_flows deep given to v u may value =
        subst (λ o. Flows whole main local_size rank f [] deep false given (GivesNone whole main local_size rank f) u (store_by structs t to v o u)) (sym shaped)
        (lift_flows whole main local_size rank f deep given Nothing u (stored (shape_or t) to v u.sections) (stored_fits whole main local_size rank f sorted given (shape_or t) to v u.sections may (value_of whole main local_size rank f sorted given (shape_or t) type v of value)))

    put_flows : (deep : ℕ) (given : List ℕ) (to : Reached) (new : ℕ) (u : Flow) → MayStore whole main local_size rank f given (shape_or t) to → IsOf whole main local_size rank f given type new → Flows whole main local_size rank f [] deep false given (GivesOf whole main local_size rank f type) u (put_of structs t to new u)
    put_flows deep given to new u may value =
        flows_map whole main local_size rank f [] deep false given (GivesNone whole main local_size rank f) (GivesOf whole main local_size rank f type) u (stores structs t to new u) (λ done. new)
        (λ done now after inside wider nothing. of_later whole main local_size rank f sorted given now type new (wider refl) value) (store_flows deep given to new u may value)

    hold_flows_to : (b : Bool) (deep : ℕ) (given : List ℕ) (to : Reached) (u : Flow) → Ready b given spot (shape_or t) to → Flows whole main local_size rank f (held_if b (asked_of whole spot)) deep false given (λ kept now after. Stays b now spot (shape_or t) kept) u (hold_reached b to u)
    unfolding hold_reached
    hold_flows_to true deep given to u is = hold_reached_flows whole main local_size rank f sorted true deep given spot to u is
    hold_flows_to false deep given to u is = given_flows whole main local_size rank f deep given (λ kept now after. MayUpdate whole main local_size rank f now (shape_or t) kept) to u (λ inside. is)

    abbrev Pair : Bool → List ℕ → Kept → Type 0
    Pair b given kept = Waits whole main local_size rank f b given type kept.old × Stays b given spot (shape_or t) kept.to

    old_flows : (b : Bool) (deep : ℕ) (given : List ℕ) (to : Reached) (old : ℕ) (u : Flow) → Ready b given spot (shape_or t) to → IsOf whole main local_size rank f given type old
        → Flows whole main local_size rank f (asked_if b type ++ held_if b (asked_of whole spot)) deep false given (λ kept now after. Pair b now kept) u (old_of b to old u)
    old_flows b deep given to old u ready value =
        flows_then whole main local_size rank f (asked_if b type) (held_if b (asked_of whole spot)) deep false false given (λ before now after. Waits whole main local_size rank f b now type before × Ready b now spot (shape_or t) to) (λ kept now after. Pair b now kept) u (hold b old u) (waits_of b to) (hold_stays b old u)
        (flows_so whole main local_size rank f (asked_if b type) deep false given (λ before now after. Waits whole main local_size rank f b now type before) (λ before now after. Waits whole main local_size rank f b now type before × Ready b now spot (shape_or t) to) u (hold b old u)
        (λ before now after inside wider waits. (waits, ready_later b given now spot (shape_or t) to (wider refl) ready)) (hold_flows whole main local_size rank f sorted b deep given type old u value)) (λ before v. waits_stay b to before v)
        (λ before v now is wider stays inside. flows_map whole main local_size rank f (held_if b (asked_of whole spot)) deep false now (λ kept now after. Stays b now spot (shape_or t) kept) (λ kept now after. Pair b now kept) v (hold_reached b to v) (λ kept. kept_pair before kept)
        (λ kept then after end more waits. (waits_later whole main local_size rank f sorted b now then type before (λ none_. more refl) is.0, waits)) (hold_flows_to b deep now to v is.1))

    before_flows : (b : Traits) (deep : ℕ) (given : List ℕ) (r : Reached) (u : Flow) → Is given spot r → Flows whole main local_size rank f (asked_if b.splits type ++ held_if b.splits (asked_of whole spot)) deep false given (λ kept now after. Pair b.splits now kept) u (before_update structs t b r u)
    unfolding before_update
    before_flows b deep given r u is =
        flows_then whole main local_size rank f [] (asked_if b.splits type ++ held_if b.splits (asked_of whole spot)) deep false false given (λ to now after. Ready b.splits now spot (shape_or t) to) (λ kept now after. Pair b.splits now kept) u (lift (pointed_if (not b.splits) (shape_or t) r) u)
        (read_of structs t b.splits) (pointed_stays (not b.splits) (shape_or t) r u) (pointed_flows b.splits deep given r u is) (λ to v. read_stays structs t b.splits to v)
        (λ to v now ready wider stays inside. flows_then whole main local_size rank f [] (asked_if b.splits type ++ held_if b.splits (asked_of whole spot)) deep false false now (λ old now after. IsOf whole main local_size rank f now type old × Ready b.splits now spot (shape_or t) to) (λ kept now after. Pair b.splits now kept) v
        (reads structs t to v) (old_of b.splits to) (reads_stay structs t to v)
        (flows_so whole main local_size rank f [] deep false now (GivesOf whole main local_size rank f type) (λ old now after. IsOf whole main local_size rank f now type old × Ready b.splits now spot (shape_or t) to) v (reads structs t to v)
        (λ old then after end more value. (value, ready_later b.splits now then spot (shape_or t) to (more refl) ready)) (read_flows deep now to v (ready_reads b.splits now to ready))) (λ old w. old_stays b.splits to old w)
        (λ old w then is more on end. old_flows b.splits deep then to old w is.1 is.0))

    -- ---- behind the right side

    fetch_flows_to : (b : Bool) (deep : ℕ) (given : List ℕ) (kept : Reached) (u : Flow) → Stays b given spot (shape_or t) kept → Flows whole main local_size rank f [] deep false given (λ to now after. MayStore whole main local_size rank f now (shape_or t) to) u (fetch_reached b kept u)
    unfolding fetch_reached
    fetch_flows_to true deep given kept u stays =
        flows_so whole main local_size rank f [] deep false given (λ to now after. Is now spot to) (λ to now after. MayStore whole main local_size rank f now (shape_or t) to) u (fetch_reached true kept u)
        (λ to now after inside wider is. may_store whole main local_size rank f sorted now spot (shape_or t) to plain is storing) (fetch_reached_flows whole main local_size rank f sorted true deep given spot kept u stays)
    fetch_flows_to false deep given kept u stays =
        given_flows whole main local_size rank f deep given (λ to now after. MayStore whole main local_size rank f now (shape_or t) to) kept u (λ inside. update_stores whole main local_size rank f sorted given (shape_or t) kept stays)

    module _ (which : BinaryOp) (right : Ty) (second : ℕ) (second_of : IsPlain whole main local_size rank f (shape_or right) second) (fit : Fit which (shape_or t).1 (shape_or right).1) (suits : Suits which (shape_or t).0 (shape_or right).0) (same : pair_shape which (shape_or t) (shape_or right) ≡ shape_or t) where
      binary_flows : (deep : ℕ) (given : List ℕ) (x y : ℕ) (u : Flow) → IsOf whole main local_size rank f given type x → IsOf whole main local_size rank f given second y
          → Flows whole main local_size rank f [] deep false given (GivesOf whole main local_size rank f type) u (lift (operators.binary which (operand (shape_or t) x) (operand (shape_or right) y)) u)
      binary_flows deep given x y u v w =
          step_flows whole main local_size rank f sorted deep given (shape_or t) type (operators.binary which (operand (shape_or t) x) (operand (shape_or right) y)) u of
          (subst (λ z. Comes whole main local_size rank f given (GivesValue whole main local_size rank f z) u.sections (operators.binary which (operand (shape_or t) x) (operand (shape_or right) y) u.sections)) same
          (binary_fits whole main local_size rank f sorted given which (operand (shape_or t) x) (operand (shape_or right) y) u.sections of.sized second_of.sized fit suits (value_of whole main local_size rank f sorted given (shape_or t) type x of v)
          (value_of whole main local_size rank f sorted given (shape_or right) second y second_of w)))

      made_flows : (deep : ℕ) (given : List ℕ) (x y : ℕ) (to : Reached) (u : Flow) → MayStore whole main local_size rank f given (shape_or t) to → IsOf whole main local_size rank f given type x
          → IsOf whole main local_size rank f given second y → Flows whole main local_size rank f [] deep false given (GivesOf whole main local_size rank f type) u (made_of structs which t right x y to u)
      made_flows deep given x y to u may v w =
          flows_then whole main local_size rank f [] [] deep false false given (λ new now after. IsOf whole main local_size rank f now type new × Widens given now) (GivesOf whole main local_size rank f type) u (lift (operators.binary which (operand (shape_or t) x) (operand (shape_or right) y)) u) (put_of structs t to)
          (lift_stays u (operators.binary which (operand (shape_or t) x) (operand (shape_or right) y) u.sections) (binary_sorts which (operand (shape_or t) x) (operand (shape_or right) y) u.sections))
          (flows_so whole main local_size rank f [] deep false given (GivesOf whole main local_size rank f type) (λ new now after. IsOf whole main local_size rank f now type new × Widens given now) u (lift (operators.binary which (operand (shape_or t) x) (operand (shape_or right) y)) u) (λ new now after inside wider value. (value, wider refl))
          (binary_flows deep given x y u v w)) (λ new k. put_stays structs t to new k) (λ new k now is wider stays inside. put_flows deep now to new k (stores_later given now (shape_or t) to is.1 may) is.0)

      to_flows : (b : Bool) (deep : ℕ) (given : List ℕ) (kept : Reached) (x y : ℕ) (u : Flow) → Stays b given spot (shape_or t) kept → IsOf whole main local_size rank f given type x → IsOf whole main local_size rank f given second y
          → Flows whole main local_size rank f [] deep false given (GivesOf whole main local_size rank f type) u (to_of structs which t right b kept y x u)
      to_flows b deep given kept x y u stays v w =
          flows_then whole main local_size rank f [] [] deep false false given (λ to now after. MayStore whole main local_size rank f now (shape_or t) to × Widens given now) (GivesOf whole main local_size rank f type) u (fetch_reached b kept u) (made_of structs which t right x y) (fetch_reached_stays b kept u)
          (flows_so whole main local_size rank f [] deep false given (λ to now after. MayStore whole main local_size rank f now (shape_or t) to) (λ to now after. MayStore whole main local_size rank f now (shape_or t) to × Widens given now) u (fetch_reached b kept u) (λ to now after inside wider may. (may, wider refl))
          (fetch_flows_to b deep given kept u stays)) (λ to k. made_stays structs which t right x y to k)
          (λ to k now is wider on inside. made_flows deep now x y to k is.0 (of_later whole main local_size rank f sorted given now type x is.1 v) (of_later whole main local_size rank f sorted given now second y is.1 w))

      after_flows : (s : Flow) (b : Traits) (deep : ℕ) (given : List ℕ) (kept : Kept) (y : ℕ) (u : Flow) → IsTypeFor whole main local_size rank f s.place t type → IsLater s u → Pair b.splits given kept → IsOf whole main local_size rank f given second y
          → Flows whole main local_size rank f [] deep false given (GivesOf whole main local_size rank f type) u (after_update structs which t right b kept y u)
      unfolding after_update
      after_flows s b deep given kept y u typed here waits w =
          flows_then whole main local_size rank f [] [] deep false false given (λ x now after. IsOf whole main local_size rank f now type x × Widens given now) (GivesOf whole main local_size rank f type) u (fetch b.splits t kept.old u) (to_of structs which t right b.splits kept.to y) (fetch_stays b.splits t kept.old u)
          (flows_so whole main local_size rank f [] deep false given (GivesOf whole main local_size rank f type) (λ x now after. IsOf whole main local_size rank f now type x × Widens given now) u (fetch b.splits t kept.old u) (λ x now after inside wider value. (value, wider refl))
          (fetch_flows whole main local_size rank f sorted b.splits deep given t type kept.old u (type_on whole main local_size rank f sorted s u t type here typed) waits.0)) (λ x k. to_stays structs which t right b.splits kept.to y x k)
          (λ x k now is wider on inside. to_flows b.splits deep now kept.to x y k (stays_later b.splits given now spot (shape_or t) kept.to (λ none_. is.1) waits.1) is.0 (of_later whole main local_size rank f sorted given now second y is.1 w))

      pair_later : (b : Bool) (given now : List ℕ) (kept : Kept) → (b ≡ false → Widens given now) → Pair b given kept → Pair b now kept
      pair_later b given now kept wider pair = (waits_later whole main local_size rank f sorted b given now type kept.old wider pair.0, stays_later b given now spot (shape_or t) kept.to wider pair.1)

    -- ---- steps

    abbrev set_of : StepOp → Reached → ℕ → ℕ → Emit ℕ
    set_of which to old new u = behind (stores structs t to new u) (λ done. give (cond (is_postfix which) old new))

    abbrev renewed_of : StepOp → Reached → ℕ → Emit ℕ
    renewed_of which to old u = behind (lift (operators.stepped which (operand (shape_or t) old)) u) (set_of which to old)

    abbrev next_of : StepOp → Reached → Emit ℕ
    next_of which to u = behind (reads structs t to u) (renewed_of which to)

    set_stays : (which : StepOp) (to : Reached) (old new : ℕ) (u : Flow) → EmitStays u (set_of which to old new u)
    set_stays which to old new u = stays_map u (stores structs t to new u) (λ done. cond (is_postfix which) old new) (stores_stay structs t to new u)

    renewed_stays : (which : StepOp) (to : Reached) (old : ℕ) (u : Flow) → EmitStays u (renewed_of which to old u)
    renewed_stays which to old u =
        emit_then u (lift (operators.stepped which (operand (shape_or t) old)) u) (set_of which to old) (lift_stays u (operators.stepped which (operand (shape_or t) old) u.sections) (stepped_sorts which (operand (shape_or t) old) u.sections)) (λ new v. set_stays which to old new v)

    next_stays : (which : StepOp) (to : Reached) (u : Flow) → EmitStays u (next_of which to u)
    next_stays which to u = emit_then u (reads structs t to u) (renewed_of which to) (reads_stay structs t to u) (λ old v. renewed_stays which to old v)

    step_stays : (which : StepOp) (r : Reached) (u : Flow) → EmitStays u (stepped_at structs which t r u)
    unfolding stepped_at
    step_stays which r u = emit_then u (lift (pointed_if true (shape_or t) r) u) (next_of which) (pointed_stays true (shape_or t) r u) (λ to v. next_stays which to v)

    set_flows : (which : StepOp) (deep : ℕ) (given : List ℕ) (to : Reached) (old new : ℕ) (u : Flow) → MayStore whole main local_size rank f given (shape_or t) to → IsOf whole main local_size rank f given type old → IsOf whole main local_size rank f given type new
        → Flows whole main local_size rank f [] deep false given (GivesOf whole main local_size rank f type) u (set_of which to old new u)
    set_flows which deep given to old new u may v w =
        flows_map whole main local_size rank f [] deep false given (GivesNone whole main local_size rank f) (GivesOf whole main local_size rank f type) u (stores structs t to new u) (λ done. cond (is_postfix which) old new)
        (λ done now after inside wider nothing. of_later whole main local_size rank f sorted given now type (cond (is_postfix which) old new) (wider refl) (either (is_postfix which))) (store_flows deep given to new u may w)
      where
        either : (b : Bool) → IsOf whole main local_size rank f given type (cond b old new)
        either true = v
        either false = w

    renewed_flows : (which : StepOp) (deep : ℕ) (given : List ℕ) (to : Reached) (old : ℕ) (u : Flow) → is_integer (shape_or t).0 ≡ true → MayStore whole main local_size rank f given (shape_or t) to → IsOf whole main local_size rank f given type old
        → Flows whole main local_size rank f [] deep false given (GivesOf whole main local_size rank f type) u (renewed_of which to old u)
    renewed_flows which deep given to old u integer may v =
        flows_then whole main local_size rank f [] [] deep false false given (λ new now after. IsOf whole main local_size rank f now type new × Widens given now) (GivesOf whole main local_size rank f type) u (lift (operators.stepped which (operand (shape_or t) old)) u) (set_of which to old)
        (lift_stays u (operators.stepped which (operand (shape_or t) old) u.sections) (stepped_sorts which (operand (shape_or t) old) u.sections))
        (flows_so whole main local_size rank f [] deep false given (GivesOf whole main local_size rank f type) (λ new now after. IsOf whole main local_size rank f now type new × Widens given now) u (lift (operators.stepped which (operand (shape_or t) old)) u) (λ new now after inside wider value. (value, wider refl))
        (step_flows whole main local_size rank f sorted deep given (shape_or t) type (operators.stepped which (operand (shape_or t) old)) u of
        (stepped_fits whole main local_size rank f sorted given which (operand (shape_or t) old) u.sections of.sized integer (value_of whole main local_size rank f sorted given (shape_or t) type old of v)))) (λ new k. set_stays which to old new k)
        (λ new k now is wider on inside. set_flows which deep now to old new k (stores_later given now (shape_or t) to is.1 may) (of_later whole main local_size rank f sorted given now type old is.1 v) is.0)

    next_flows : (which : StepOp) (deep : ℕ) (given : List ℕ) (to : Reached) (u : Flow) → is_integer (shape_or t).0 ≡ true → MayUpdate whole main local_size rank f given (shape_or t) to → Flows whole main local_size rank f [] deep false given (GivesOf whole main local_size rank f type) u (next_of which to u)
    next_flows which deep given to u integer may =
        flows_then whole main local_size rank f [] [] deep false false given (λ old now after. IsOf whole main local_size rank f now type old × Widens given now) (GivesOf whole main local_size rank f type) u (reads structs t to u) (renewed_of which to) (reads_stay structs t to u)
        (flows_so whole main local_size rank f [] deep false given (GivesOf whole main local_size rank f type) (λ old now after. IsOf whole main local_size rank f now type old × Widens given now) u (reads structs t to u) (λ old now after inside wider value. (value, wider refl))
        (read_flows deep given to u (update_reads whole main local_size rank f sorted given (shape_or t) to may))) (λ old k. renewed_stays which to old k)
        (λ old k now is wider on inside. renewed_flows which deep now to old k integer (update_stores whole main local_size rank f sorted now (shape_or t) to (updates_later given now (shape_or t) to is.1 may)) is.0)

    stepped_flows : (which : StepOp) (deep : ℕ) (given : List ℕ) (r : Reached) (u : Flow) → is_integer (shape_or t).0 ≡ true → Is given spot r → Flows whole main local_size rank f [] deep false given (GivesOf whole main local_size rank f type) u (stepped_at structs which t r u)
    unfolding stepped_at
    stepped_flows which deep given r u integer is =
        flows_then whole main local_size rank f [] [] deep false false given (λ to now after. MayUpdate whole main local_size rank f now (shape_or t) to) (GivesOf whole main local_size rank f type) u (lift (pointed_if true (shape_or t) r) u) (next_of which) (pointed_stays true (shape_or t) r u)
        (pointed_flows false deep given r u is) (λ to k. next_stays which to k) (λ to k now may wider on inside. next_flows which deep now to k integer may)

  -- ---- the whole

  pub updated_evaluates : (s : Flow) (asks more : List ℕ) (deep : ℕ) (splits : Bool) (structs : List StructType) (which : BinaryOp) (a b : Lower) (spot : Spot) (type second : ℕ) → shape_of a.ty ≡ Some (shape_or a.ty) → spot.shape ≡ Some (shape_or a.ty) → spot.may.reads ≡ true → spot.may.stores ≡ true
      → IsTypeFor whole main local_size rank f s.place a.ty type → IsPlain whole main local_size rank f (shape_or a.ty) type → IsPlain whole main local_size rank f (shape_or b.ty) second → Fit which (shape_or a.ty).1 (shape_or b.ty).1 → Suits which (shape_or a.ty).0 (shape_or b.ty).0
      → pair_shape which (shape_or a.ty) (shape_or b.ty) ≡ shape_or a.ty → Reaches whole main local_size rank f s asks deep splits spot a.reach → Evaluates whole main local_size rank f s more deep b.traits.splits second b.value
      → Evaluates whole main local_size rank f s ((asks ++ (asked_if b.traits.splits type ++ held_if b.traits.splits (asked_of whole spot))) ++ more) deep (splits || b.traits.splits) type (updated structs which a b)
  updated_evaluates s asks more deep splits structs which a b spot type second shaped plain reading storing typed of second_of fit suits same y e =
      yields_then whole main local_size rank f s (asks ++ (asked_if b.traits.splits type ++ held_if b.traits.splits (asked_of whole spot))) more deep splits b.traits.splits (λ kept now after. Pair structs a.ty spot type shaped plain of reading storing b.traits.splits now kept) (GivesOf whole main local_size rank f type)
      (λ u. behind (a.reach u) (before_update structs a.ty b.traits)) (λ kept u. behind (b.value u) (after_update structs which a.ty b.ty b.traits kept))
      (subst (λ z. Yields whole main local_size rank f s (asks ++ (asked_if b.traits.splits type ++ held_if b.traits.splits (asked_of whole spot))) deep z (λ kept now after. Pair structs a.ty spot type shaped plain of reading storing b.traits.splits now kept) (λ u. behind (a.reach u) (before_update structs a.ty b.traits)))
      (or_false splits)
      (yields_then whole main local_size rank f s asks (asked_if b.traits.splits type ++ held_if b.traits.splits (asked_of whole spot)) deep splits false (λ r now after. Is now spot r) (λ kept now after. Pair structs a.ty spot type shaped plain of reading storing b.traits.splits now kept) a.reach
      (before_update structs a.ty b.traits) y (λ r u. before_stays structs a.ty b.traits r u) (λ r u now is here inside. before_flows structs a.ty spot type shaped plain of reading storing b.traits deep now r u is)))
      (λ kept u. emit_then u (b.value u) (after_update structs which a.ty b.ty b.traits kept) (e.stays u) (λ v w. after_stays structs which a.ty b.ty b.traits kept v w))
      (λ kept u now pair here inside. flows_last whole main local_size rank f more deep b.traits.splits now (GivesOf whole main local_size rank f second) (GivesOf whole main local_size rank f type) u (b.value u) (after_update structs which a.ty b.ty b.traits kept) (e.stays u) (e.flows now u here)
      (λ v w. after_stays structs which a.ty b.ty b.traits kept v w)
      (λ v w then value wider later end. after_flows structs a.ty spot type shaped plain of reading storing which b.ty second second_of fit suits same s b.traits deep then kept v w typed (later_then s u w here later)
      (pair_later structs a.ty spot type shaped plain of reading storing which b.ty second second_of fit suits same b.traits.splits now then kept wider pair) value))

  pub stepped_evaluates : (s : Flow) (asks : List ℕ) (deep : ℕ) (splits : Bool) (structs : List StructType) (which : StepOp) (a : Lower) (spot : Spot) (type : ℕ) → shape_of a.ty ≡ Some (shape_or a.ty) → spot.shape ≡ Some (shape_or a.ty) → spot.may.reads ≡ true → spot.may.stores ≡ true
      → IsPlain whole main local_size rank f (shape_or a.ty) type → is_integer (shape_or a.ty).0 ≡ true → Reaches whole main local_size rank f s asks deep splits spot a.reach → Evaluates whole main local_size rank f s asks deep splits type (stepped structs which a)
  stepped_evaluates s asks deep splits structs which a spot type shaped plain reading storing of integer y =
      yields_last whole main local_size rank f s asks deep splits (λ r now after. Is now spot r) (GivesOf whole main local_size rank f type) a.reach (stepped_at structs which a.ty) y (λ r u. step_stays structs a.ty spot type shaped plain of reading storing which r u)
      (λ r u now is here inside. stepped_flows structs a.ty spot type shaped plain of reading storing which deep now r u integer is)
