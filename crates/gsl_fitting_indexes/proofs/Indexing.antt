-- Indexes, known and computed, and what they index.
use Rattle.std.proofs.Common.{◌≡◌, ℕ, ◌<◌, Bool, true, false, ◌||◌, List, [], ◌∷◌, ◌++◌, Option, refl, sym, subst, arith}
use Rattle.gsl_instr.specs.declared.enumerant.storage_class.TheConstants as storage_class
use Rattle.gsl_types.specs.declared.ty.StructType.{StructType}
use Rattle.gsl_types.specs.declared.ty.Ty.{Ty}
use Rattle.gsl_tree.specs.Shapes.{shape_of}
use Rattle.gsl_words.specs.declared.module.Module.{Module}
use Rattle.gsl_valid.specs.LimitRules.{most_indexes}
use Rattle.gsl_valid.specs.Sections.{is_class}
use Rattle.gsl_spv.specs.Sections.{Sections}
use Rattle.gsl_lower_places.specs.Reached.{whole as whole_of}
use Rattle.gsl_lower_places.specs.declared.reached.Base.{Base}
use Rattle.gsl_lower_places.specs.declared.reached.Base.TheVariants.{Value, Variable}
use Rattle.gsl_lower_places.specs.declared.reached.Part.{Part}
use Rattle.gsl_lower_places.specs.declared.reached.Part.TheVariants.{By, Fixed}
use Rattle.gsl_lower_places.specs.declared.reached.Reached.{Reached}
use Rattle.gsl_lower_traits.specs.Traits.{spills}
use Rattle.gsl_lower_traits.specs.declared.traits.Traits.{Traits}
use Rattle.gsl_lower_holders.specs.Flow.{Emit, Flow, behind, given as give, lift}
use Rattle.gsl_lower_holders.specs.Waiting.{fetch_reached, hold_reached, keep}
use Rattle.gsl_lower_expr.specs.Parts.{Lower, after_index, before_index, index_by, indexed, known_of, probe, reads, scalar_of, spilled, step_into}
use Rattle.gsl_fitting.specs.Fits.{Frame}
use Rattle.gsl_fitting_types.specs.Making.{AreSorted, made}
use Rattle.gsl_fitting_places.specs.Leading.{IsIndex}
use Rattle.gsl_fitting_places.proofs.Chains.{index_later}
use Rattle.gsl_fitting_flow.specs.Flowing.{EmitStays, Flows, GivesNone, GivesOf, IsHolder, IsLater, Widens}
use Rattle.gsl_fitting_flow.proofs.Following.{emit_then, flow_same, flows_so, flows_then, given_flows}
use Rattle.gsl_fitting_flow.proofs.Holding.{keep_flows, keep_stays}
use Rattle.gsl_fitting_expr.specs.Evaluating.{Yields}
use Rattle.gsl_fitting_expr.proofs.Yielding.{flows_last, flows_map, or_false, stays_map, yields_then}
use Rattle.gsl_fitting_reaching.specs.Reached.{IsReached, LeadsTo, May, Reaches, Spot, asked_of}
use Rattle.gsl_fitting_reads.specs.Waiting.{StaysReached, held_if}
use Rattle.gsl_fitting_reads.proofs.Fetching.{fetch_reached_flows, fetch_reached_stays}
use Rattle.gsl_fitting_reads.proofs.Holding.{hold_reached_flows, hold_reached_stays}
use Rattle.gsl_fitting_reads.proofs.Leaves.{holder_within}
use Rattle.gsl_fitting_reads.proofs.Reading.{reads_flow, reads_stay}
use Rattle.gsl_fitting_indexes.specs.Indexes.{IsIndexed, IsSpilled, IsSuch, IsTested, LeadsBy, holder_spot}
use Rattle.gsl_fitting_indexes.proofs.Stepping.{reached_later, step_flows, step_stays}
use Rattle.gsl_fitting_indexes.proofs.Testing.{probe_flows, probe_stays}

-- ---- parts

abbrev in_holder : ℕ → Reached
in_holder h = whole_of (Variable h storage_class.FUNCTION)

abbrev wait_of : Bool → Reached → Unit {0} → Emit Reached
wait_of splits x done = hold_reached splits x

abbrev test_of : List StructType → Bool → Bool → Ty → Reached → Emit Reached
test_of structs calls splits t x v = behind (lift (probe structs calls t x) v) (wait_of splits x)

abbrev step_of : Ty → Part → Reached → Emit Reached
step_of t part to = lift (step_into (shape_of t) part to)

-- ---- what stays

spill_stays : (structs : List StructType) (b : Bool) (t : Ty) (r : Reached) (u : Flow) → EmitStays u (spilled structs b t r u)
spill_stays structs false t r u = flow_same u
spill_stays structs true t r u = stays_map u (behind (reads structs t r u) keep) in_holder (emit_then u (reads structs t r u) keep (reads_stay structs t r u) (λ v w. keep_stays v w))

pub test_stays : (structs : List StructType) (calls splits : Bool) (t : Ty) (x : Reached) (u : Flow) → EmitStays u (test_of structs calls splits t x u)
test_stays structs calls splits t x u = emit_then u (lift (probe structs calls t x) u) (wait_of splits x) (probe_stays structs calls t x u) (λ done v. hold_reached_stays splits x v)

before_stays : (structs : List StructType) (b calls splits : Bool) (t : Ty) (r : Reached) (u : Flow) → EmitStays u (behind (spilled structs b t r u) (test_of structs calls splits t))
before_stays structs b calls splits t r u = emit_then u (spilled structs b t r u) (test_of structs calls splits t) (spill_stays structs b t r u) (λ x v. test_stays structs calls splits t x v)

after_stays : (t : Ty) (i : Traits) (kept : Reached) (part : Part) (u : Flow) → EmitStays u (after_index t i kept part u)
after_stays t i kept part u = emit_then u (fetch_reached i.splits kept u) (step_of t part) (fetch_reached_stays i.splits kept u) (λ to v. step_stays t part to v)

module _ (whole : Sections) (main : ℕ) (local_size : List ℕ) (rank : ℕ → ℕ) (f : Frame) (sorted : AreSorted whole) where
  abbrev m : Module
  m = made whole main local_size rank f

  abbrev Is : List ℕ → Spot → Reached → Type 0
  Is given spot r = IsReached whole main local_size rank f given spot r

  abbrev Kept : Bool → List ℕ → Spot → Reached → Type 0
  Kept b given spot r = StaysReached whole main local_size rank f b given spot r

  -- ---- in a holder first

  room_is : (given : List ℕ) (may : May) (base : Base) (parts : List Part) (type room : ℕ) → LeadsTo whole main local_size rank f given may base parts type room → room < most_indexes
  room_is given may (Variable id class) parts type room l = let few = l.few in let z : room < most_indexes = omega (arith, few) in z
  room_is given may (Value id of_whole) parts type room l = let few = l.few in let z : room < most_indexes = omega (arith, few) in z

  holder_reached : (given : List ℕ) (type room h : ℕ) → is_class m.version storage_class.FUNCTION ≡ true → room < most_indexes → IsHolder whole main local_size rank f type h → Is given (holder_spot type room) (in_holder h)
  holder_reached given type room h classed few is = record { at_home = refl; leads = holder_within whole main local_size rank f sorted given type room h classed few is; is = refl; asked = refl; chosen = tt }

  spill_flows : (s : Flow) (deep : ℕ) (given : List ℕ) (structs : List StructType) (t : Ty) (spot to : Spot) (b : Bool) (asks : List ℕ) (r : Reached) (u : Flow) → is_class m.version storage_class.FUNCTION ≡ true → IsLater s u → IsSpilled whole main local_size rank f s structs t spot b asks to → Is given spot r
      → Flows whole main local_size rank f asks deep false given (λ x now after. Is now to x) u (spilled structs b t r u)
  spill_flows s deep given structs t spot _ _ _ r u classed here IsSpilled.stays is = given_flows whole main local_size rank f deep given (λ x now after. Is now spot x) r u (λ inside. is)
  spill_flows s deep given structs t spot _ _ _ r u classed here (IsSpilled.spilled {type} {asks} composite got reading) is =
      flows_map whole main local_size rank f (asks ++ type ∷ []) deep false given (λ h now after. IsHolder whole main local_size rank f type h) (λ x now after. Is now (holder_spot type spot.room) x) u (behind (reads structs t r u) keep) in_holder
      (λ h now after inside wider holder. holder_reached now type spot.room h classed (room_is given spot.may r.base r.path spot.type spot.room is.leads) holder)
      (flows_then whole main local_size rank f asks (type ∷ []) deep false false given (GivesOf whole main local_size rank f type) (λ h now after. IsHolder whole main local_size rank f type h) u (reads structs t r u) keep (reads_stay structs t r u)
      (reads_flow whole main local_size rank f sorted s deep given structs t spot type asks r u classed here got reading is) (λ v w. keep_stays v w) (λ v w now value wider stays inside. keep_flows whole main local_size rank f sorted deep now type v w value))

  -- ---- it is tested, and waits

  pub test_flows : (deep : ℕ) (given : List ℕ) (structs : List StructType) (calls splits : Bool) (t : Ty) (spot : Spot) (x : Reached) (u : Flow) → IsTested whole main local_size rank f structs t spot calls → Is given spot x
      → Flows whole main local_size rank f (held_if splits (asked_of whole spot)) deep false given (λ kept now after. Kept splits now spot kept) u (test_of structs calls splits t x u)
  test_flows deep given structs calls splits t spot x u test is =
      flows_then whole main local_size rank f [] (held_if splits (asked_of whole spot)) deep false false given (λ done now after. Is now spot x) (λ kept now after. Kept splits now spot kept) u (lift (probe structs calls t x) u) (wait_of splits x) (probe_stays structs calls t x u)
      (flows_so whole main local_size rank f [] deep false given (GivesNone whole main local_size rank f) (λ done now after. Is now spot x) u (lift (probe structs calls t x) u) (λ done now after inside wider nothing. reached_later whole main local_size rank f sorted given now spot x (wider refl) is)
      (probe_flows whole main local_size rank f sorted deep given structs calls t spot x u test is)) (λ done v. hold_reached_stays splits x v) (λ done v now is wider stays inside. hold_reached_flows whole main local_size rank f sorted splits deep now spot x v is)

  before_flows : (s : Flow) (deep : ℕ) (given : List ℕ) (structs : List StructType) (b calls splits : Bool) (t : Ty) (spot to : Spot) (asks : List ℕ) (r : Reached) (u : Flow) → is_class m.version storage_class.FUNCTION ≡ true → IsLater s u → IsSpilled whole main local_size rank f s structs t spot b asks to
      → IsTested whole main local_size rank f structs t to calls → Is given spot r → Flows whole main local_size rank f (asks ++ held_if splits (asked_of whole to)) deep false given (λ kept now after. Kept splits now to kept) u (behind (spilled structs b t r u) (test_of structs calls splits t))
  before_flows s deep given structs b calls splits t spot to asks r u classed here spill test is =
      flows_then whole main local_size rank f asks (held_if splits (asked_of whole to)) deep false false given (λ x now after. Is now to x) (λ kept now after. Kept splits now to kept) u (spilled structs b t r u) (test_of structs calls splits t) (spill_stays structs b t r u)
      (spill_flows s deep given structs t spot to b asks r u classed here spill is) (λ x v. test_stays structs calls splits t x v) (λ x v now is wider stays inside. test_flows deep now structs calls splits t to x v test is)

  -- ---- the index

  index_stays : (s : Flow) (deep : ℕ) (i : Lower) (literal : Option ℕ) (asks : List ℕ) (sample : Part) → IsIndexed whole main local_size rank f s deep i literal asks sample → (u : Flow) → EmitStays u (index_by i literal u)
  index_stays s deep i _ _ _ (IsIndexed.known whole_block) u = flow_same u
  index_stays s deep i _ _ _ (IsIndexed.computed integer of e) u = stays_map u (i.value u) (λ id. By (scalar_of i.ty) id) (e.stays u)

  index_flows : (s : Flow) (deep : ℕ) (i : Lower) (literal : Option ℕ) (asks : List ℕ) (sample : Part) → IsIndexed whole main local_size rank f s deep i literal asks sample → (given : List ℕ) (u : Flow) → IsLater s u
      → Flows whole main local_size rank f asks deep i.traits.splits given (λ part now after. IsSuch sample part × IsIndex whole main local_size rank f now part) u (index_by i literal u)
  index_flows s deep i _ _ _ (IsIndexed.known {number} whole_block) given u here =
      subst (λ b. Flows whole main local_size rank f [] deep b given (λ part now after. IsSuch (Fixed number) part × IsIndex whole main local_size rank f now part) u (give (Fixed number) u)) (sym whole_block)
      (given_flows whole main local_size rank f deep given (λ part now after. IsSuch (Fixed number) part × IsIndex whole main local_size rank f now part) (Fixed number) u (λ inside. (refl, tt)))
  index_flows s deep i _ asks _ (IsIndexed.computed {type} integer of e) given u here =
      flows_map whole main local_size rank f asks deep i.traits.splits given (GivesOf whole main local_size rank f type) (λ part now after. IsSuch (By (scalar_of i.ty) 0) part × IsIndex whole main local_size rank f now part) u (i.value u) (λ id. By (scalar_of i.ty) id)
      (λ id now after inside wider v. (refl, (integer, record { type = type; of = of; typed = v.typed; known = v.known }))) (e.flows given u here)

  -- ---- the whole

  pub kept_later : (b : Bool) (given now : List ℕ) (spot : Spot) (r : Reached) → (b ≡ false → Widens given now) → Kept b given spot r → Kept b now spot r
  kept_later true given now spot r wider kept = kept
  kept_later false given now spot r wider kept = reached_later whole main local_size rank f sorted given now spot r (wider refl) kept

  after_flows : (deep : ℕ) (given : List ℕ) (t : Ty) (i : Traits) (spot to : Spot) (sample part : Part) (kept : Reached) (u : Flow) → LeadsBy whole main local_size rank f t spot sample to → IsSuch sample part → IsIndex whole main local_size rank f given part → Kept i.splits given spot kept
      → Flows whole main local_size rank f [] deep false given (λ r now after. Is now to r) u (after_index t i kept part u)
  after_flows deep given t i spot to sample part kept u leads such index stays =
      flows_then whole main local_size rank f [] [] deep false false given (λ x now after. Is now spot x × IsIndex whole main local_size rank f now part) (λ r now after. Is now to r) u (fetch_reached i.splits kept u) (step_of t part) (fetch_reached_stays i.splits kept u)
      (flows_so whole main local_size rank f [] deep false given (λ x now after. Is now spot x) (λ x now after. Is now spot x × IsIndex whole main local_size rank f now part) u (fetch_reached i.splits kept u)
      (λ x now after inside wider is. (is, index_later whole main local_size rank f sorted given now part (wider refl) index)) (fetch_reached_flows whole main local_size rank f sorted i.splits deep given spot kept u stays)) (λ x v. step_stays t part x v)
      (λ x v now is wider stays inside. step_flows whole main local_size rank f sorted deep now t spot to sample part x v leads such is.1 is.0)

  index_of : (s : Flow) (deep : ℕ) (given : List ℕ) (a i : Lower) (spot to : Spot) (asks : List ℕ) (sample : Part) (kept : Reached) (u : Flow) → IsLater s u → IsIndexed whole main local_size rank f s deep i i.traits.literal asks sample → LeadsBy whole main local_size rank f a.ty spot sample to → Kept i.traits.splits given spot kept
      → Flows whole main local_size rank f asks deep i.traits.splits given (λ r now after. Is now to r) u (behind (index_by i i.traits.literal u) (after_index a.ty i.traits kept))
  index_of s deep given a i spot to asks sample kept u here index leads stays =
      flows_last whole main local_size rank f asks deep i.traits.splits given (λ part now after. IsSuch sample part × IsIndex whole main local_size rank f now part) (λ r now after. Is now to r) u (index_by i i.traits.literal u) (after_index a.ty i.traits kept)
      (index_stays s deep i i.traits.literal asks sample index u) (index_flows s deep i i.traits.literal asks sample index given u here) (λ part v. after_stays a.ty i.traits kept part v)
      (λ part v now is wider later inside. after_flows deep now a.ty i.traits spot to sample part kept v leads is.0 is.1 (kept_later i.traits.splits given now spot kept wider stays))

  pub indexed_reaches : (s : Flow) (asks more others : List ℕ) (deep : ℕ) (splits : Bool) (structs : List StructType) (a i : Lower) (spot kept to : Spot) (sample : Part) → is_class m.version storage_class.FUNCTION ≡ true → IsSpilled whole main local_size rank f s structs a.ty spot (spills (known_of a) i.traits) more kept
      → IsTested whole main local_size rank f structs a.ty kept i.traits.calls → IsIndexed whole main local_size rank f s deep i i.traits.literal others sample → LeadsBy whole main local_size rank f a.ty kept sample to → Reaches whole main local_size rank f s asks deep splits spot a.reach
      → Reaches whole main local_size rank f s ((asks ++ (more ++ held_if i.traits.splits (asked_of whole kept))) ++ others) deep (splits || i.traits.splits) to (indexed structs a i)
  indexed_reaches s asks more others deep splits structs a i spot kept to sample classed spill test index leads y =
      yields_then whole main local_size rank f s (asks ++ (more ++ held_if i.traits.splits (asked_of whole kept))) others deep splits i.traits.splits (λ x now after. Kept i.traits.splits now kept x) (λ r now after. Is now to r) (λ u. behind (a.reach u) (before_index structs (known_of a) i.traits))
      (λ x u. behind (index_by i i.traits.literal u) (after_index a.ty i.traits x))
      (subst (λ b. Yields whole main local_size rank f s (asks ++ (more ++ held_if i.traits.splits (asked_of whole kept))) deep b (λ x now after. Kept i.traits.splits now kept x) (λ u. behind (a.reach u) (before_index structs (known_of a) i.traits))) (or_false splits)
      (yields_then whole main local_size rank f s asks (more ++ held_if i.traits.splits (asked_of whole kept)) deep splits false (λ r now after. Is now spot r) (λ x now after. Kept i.traits.splits now kept x) a.reach (before_index structs (known_of a) i.traits) y
      (λ r u. before_stays structs (spills (known_of a) i.traits) i.traits.calls i.traits.splits a.ty r u)
      (λ r u now is here inside. before_flows s deep now structs (spills (known_of a) i.traits) i.traits.calls i.traits.splits a.ty spot kept more r u classed here spill test is)))
      (λ x u. emit_then u (index_by i i.traits.literal u) (after_index a.ty i.traits x) (index_stays s deep i i.traits.literal others sample index u) (λ part v. after_stays a.ty i.traits x part v))
      (λ x u now stays here inside. index_of s deep now a i kept to others sample x u here index leads stays)
