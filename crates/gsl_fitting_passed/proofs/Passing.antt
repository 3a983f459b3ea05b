-- Arguments are passed.
use Rattle.std.proofs.Common.{◌≡◌, ℕ, ◌+◌, ◌≤◌, Bool, true, false, List, [], ◌∷◌, ◌++◌, Option, Some, None, refl, sym, ap, ◌∙◌, subst, suc, arith}
use Rattle.std.specs.Prelude.{slice_get}
use Rattle.gsl_instr.specs.declared.op.TheConstants as op
use Rattle.gsl_types.specs.declared.ty.Direction.{Direction}
use Rattle.gsl_types.specs.declared.ty.StructType.{StructType}
use Rattle.gsl_types.specs.declared.ty.Ty.{Ty}
use Rattle.gsl_instr.specs.declared.enumerant.storage_class.TheConstants as storage_class
use Rattle.gsl_words.specs.declared.module.Module.{Module}
use Rattle.gsl_valid.specs.Sections.{is_class}
use Rattle.gsl_spv.specs.Sections.{Sections}
use Rattle.gsl_lower_places.specs.declared.reached.Reached.{Reached}
use Rattle.gsl_lower_holders.specs.Flow.{Emit, Flow, Gives, Lacks, Lowered, behind, given as give, lift, putting_here}
use Rattle.gsl_lower_holders.specs.Waiting.{hold_reached, holder, holder_at, keep}
use Rattle.gsl_lower_holders.specs.declared.place.FlowPlace.{FlowPlace}
use Rattle.gsl_lower_expr.specs.Calls.{coming_back, going_in, passed_both, passed_out, passing, passing_all, pointers, zeros}
use Rattle.gsl_lower_expr.specs.Parts.{Lower, any_splits, probe, reads}
use Rattle.gsl_fitting.specs.Fits.{Frame}
use Rattle.gsl_fitting_types.specs.Making.{AreSorted, made}
use Rattle.gsl_fitting_flow.specs.Flowing.{EmitStays, FlowStays, Flows, GivesNone, GivesOf, IsHolder, IsLater, IsOf, Widens}
use Rattle.gsl_fitting_flow.proofs.Following.{emit_then, flow_same, flow_then, flows_so, flows_then, given_flows, later_of, later_then}
use Rattle.gsl_fitting_flow.proofs.Holding.{keep_flows, keep_stays, of_later}
use Rattle.gsl_fitting_expr.proofs.Yielding.{flows_map, or_false, stays_map}
use Rattle.gsl_fitting_reaching.specs.Reached.{IsReached, Spot, asked_of}
use Rattle.gsl_fitting_reads.specs.Moving.{IsGot}
use Rattle.gsl_fitting_reads.specs.Waiting.{StaysReached, held_if}
use Rattle.gsl_fitting_reads.proofs.Holding.{hold_reached_flows, hold_reached_stays}
use Rattle.gsl_fitting_reads.proofs.Reading.{reads_flow, reads_stay}
use Rattle.gsl_fitting_indexes.proofs.Indexing.{kept_later}
use Rattle.gsl_fitting_indexes.proofs.Stepping.{reached_later}
use Rattle.gsl_fitting_indexes.proofs.Testing.{probe_flows, probe_stays}
use Rattle.gsl_fitting_indexes.specs.Indexes.{IsTested}
use Rattle.gsl_fitting_passed.specs.Arguments.{ArePassed, HasZeros, IsPassed, Way, asked_by_all}
use Rattle.gsl_fitting_passed.proofs.Zeros.{zeros_flow, zeros_stay}

-- what a part of lowering gives
abbrev carrier : {B A : Type 0} → (B → Emit A) → Type 0
carrier {B} {A} lowered = A

-- an argument that was passed
abbrev pub Passed : Type 0
Passed = carrier going_in

abbrev pub passed_as : ℕ → Bool → Option Reached → Passed
passed_as h waits back = record { pointer = h; waits = waits; back = back }

-- ---- the last holder

-- A holder is the one that was used last, behind a flow.
pub record IsLast (start after : Flow) (h : ℕ) : Type 0 where
  pub number : ℕ
  pub used : after.place.used ≡ suc number
  pub there : slice_get start.place.holders number ≡ Some h
  pub behind : start.place.used ≤ number

abbrev pub AlwaysAt : {A : Type 0} → (A → Flow → Type 0) → Lowered A → Type 0
AlwaysAt P (Gives a after) = P a after
AlwaysAt P Lacks = Unit {0}

keep_last : (v : ℕ) (u : Flow) → AlwaysAt (λ h after. IsLast u after h) (keep v u)
unfolding keep holder
keep_last v u = by (slice_get u.place.holders u.place.used) refl
  where
    by : (o : Option ℕ) → slice_get u.place.holders u.place.used ≡ o → AlwaysAt (λ h after. IsLast u after h) (behind (holder_at o u) (λ h t. behind (putting_here op.STORE (h ∷ v ∷ []) t) (λ done. give h)))
    by (Some h) e = record { number = u.place.used; used = let n = u.place.used in let z : n + 1 ≡ suc n = omega arith in z; there = e; behind = omega arith }
    by None e = tt

last_before : (start u after : Flow) (h : ℕ) → FlowStays start u → IsLast u after h → IsLast start after h
last_before start u after h stays last = record {
  number = last.number;
  used = last.used;
  there = ap (λ (p : FlowPlace). slice_get p.holders last.number) (sym (same stays.place)) ∙ last.there;
  behind = let a = stays.used in let b = last.behind in omega (arith, a, b);
}
  where
    same : u.place ≡ record start.place { label = u.place.label; used = u.place.used } → u.place ≡ record start.place { label = u.place.label; used = u.place.used }
    same e = e

-- holders stand behind each other
pub data Rise (holders : List ℕ) : ℕ → List ℕ → Type 0 where
  none_rises : {from : ℕ} → Rise holders from []
  one_rises : {from number id : ℕ} {ids : List ℕ} → from ≤ number → slice_get holders number ≡ Some id → Rise holders (suc number) ids → Rise holders from (id ∷ ids)

-- ---- what stays

abbrev kept_as : Bool → Reached → ℕ → Emit Passed
kept_as waits kept v w = behind (keep v w) (λ h. give (passed_as h waits (Some kept)))

abbrev held_as : Bool → Reached → ℕ → Emit Passed
held_as waits r v u = behind (hold_reached waits r u) (λ kept. kept_as waits kept v)

coming_stays : (waits : Bool) (r : Reached) (v : ℕ) (u : Flow) → EmitStays u (coming_back waits r v u)
unfolding coming_back
coming_stays waits r v u = emit_then u (hold_reached waits r u) (λ kept. kept_as waits kept v) (hold_reached_stays waits r u) (λ kept w. stays_map w (keep v w) (λ h. passed_as h waits (Some kept)) (keep_stays v w))

going_stays : (v : ℕ) (u : Flow) → EmitStays u (going_in v u)
unfolding going_in
going_stays v u = stays_map u (keep v u) (λ h. passed_as h false None) (keep_stays v u)

abbrev zeros_then : Bool → Ty → Reached → Unit {0} → Emit Passed
zeros_then waits t r done u = behind (zeros t u) (coming_back waits r)

out_stays : (structs : List StructType) (waits : Bool) (t arg : Ty) (r : Reached) (u : Flow) → EmitStays u (passed_out structs waits t arg r u)
unfolding passed_out
out_stays structs waits t arg r u = emit_then u (lift (probe structs true arg r) u) (zeros_then waits t r) (probe_stays structs true arg r u) (λ done v. emit_then v (zeros t v) (coming_back waits r) (zeros_stay t v) (λ z w. coming_stays waits r z w))

both_stays : (structs : List StructType) (waits : Bool) (arg : Ty) (r : Reached) (u : Flow) → EmitStays u (passed_both structs waits arg r u)
unfolding passed_both
both_stays structs waits arg r u = emit_then u (reads structs arg r u) (coming_back waits r) (reads_stay structs arg r u) (λ v w. coming_stays waits r v w)

module _ (whole : Sections) (main : ℕ) (local_size : List ℕ) (rank : ℕ → ℕ) (f : Frame) (sorted : AreSorted whole) where
  abbrev m : Module
  m = made whole main local_size rank f

  abbrev Kept : Bool → List ℕ → Spot → Reached → Type 0
  Kept b given spot r = StaysReached whole main local_size rank f b given spot r

  -- ---- an argument that was passed

  pub data GoesTo (waits : Bool) (given : List ℕ) : Option (Spot × ℕ) → Passed → Type 0 where
    nowhere : {h : ℕ} {b : Bool} → GoesTo waits given None (passed_as h b None)
    back_to : {h : ℕ} {kept : Reached} {spot : Spot} {other : ℕ} → Kept waits given spot kept → GoesTo waits given (Some (spot, other)) (passed_as h waits (Some kept))

  pub record IsSent (waits : Bool) (given : List ℕ) (way : Way) (p : Passed) : Type 0 where
    pub holder : IsHolder whole main local_size rank f way.type p.pointer
    pub goes : GoesTo waits given way.back p

  goes_later : (waits : Bool) (given now : List ℕ) (back : Option (Spot × ℕ)) (p : Passed) → (waits ≡ false → Widens given now) → GoesTo waits given back p → GoesTo waits now back p
  goes_later waits given now _ _ wider GoesTo.nowhere = GoesTo.nowhere
  goes_later waits given now _ _ wider (GoesTo.back_to {h} {kept} {spot} stays) = GoesTo.back_to (kept_later whole main local_size rank f sorted waits given now spot kept wider stays)

  pub sent_later : (waits : Bool) (given now : List ℕ) (way : Way) (p : Passed) → (waits ≡ false → Widens given now) → IsSent waits given way p → IsSent waits now way p
  sent_later waits given now way p wider is = record { holder = is.holder; goes = goes_later waits given now way.back p wider is.goes }

  -- ---- what also is so of what is given

  flows_also : {A : Type 0} (asks : List ℕ) (deep : ℕ) (splits : Bool) (given : List ℕ) (Is : A → List ℕ → Flow → Type 0) (P : A → Flow → Type 0) (before : Flow) (lowered : Lowered A) → AlwaysAt P lowered → Flows whole main local_size rank f asks deep splits given Is before lowered
      → Flows whole main local_size rank f asks deep splits given (λ a now after. Is a now after × P a after) before lowered
  flows_also asks deep splits given Is P before (Gives a after) also flows = λ inside hold. let x = flows inside hold in record { now = x.now; crosses = x.crosses; taken = x.taken; is = (x.is, also) }
  flows_also asks deep splits given Is P before Lacks also flows = tt

  flows_on : {A B : Type 0} (asks more : List ℕ) (deep : ℕ) (splits : Bool) (given : List ℕ) (Is : A → List ℕ → Flow → Type 0) (Then : B → List ℕ → Flow → Type 0) (before : Flow) (lowered : Lowered A) (next : A → Emit B) → EmitStays before lowered
      → Flows whole main local_size rank f asks deep splits given Is before lowered → ((a : A) (s : Flow) → EmitStays s (next a s))
      → ((a : A) (s : Flow) (now : List ℕ) → Is a now s → FlowStays before s → Flows whole main local_size rank f more deep false now Then s (next a s)) → Flows whole main local_size rank f (asks ++ more) deep splits given Then before (behind lowered next)
  flows_on asks more deep splits given Is Then before lowered next stays flows sorts later =
      subst (λ b. Flows whole main local_size rank f (asks ++ more) deep b given Then before (behind lowered next)) (or_false splits)
      (flows_then whole main local_size rank f asks more deep splits false given Is Then before lowered next stays flows sorts (λ a s now is wider on inside. later a s now is on))

  -- ---- one argument

  abbrev Sent : Flow → Bool → Way → Passed → List ℕ → Flow → Type 0
  Sent start waits way p now after = IsSent waits now way p × IsLast start after p.pointer

  kept_flows : (deep : ℕ) (given : List ℕ) (type v : ℕ) (u : Flow) → IsOf whole main local_size rank f given type v → Flows whole main local_size rank f (type ∷ []) deep false given (λ h now after. (IsHolder whole main local_size rank f type h × Widens given now) × IsLast u after h) u (keep v u)
  kept_flows deep given type v u value =
      flows_also (type ∷ []) deep false given (λ h now after. IsHolder whole main local_size rank f type h × Widens given now) (λ h after. IsLast u after h) u (keep v u) (keep_last v u)
      (flows_so whole main local_size rank f (type ∷ []) deep false given (λ h now after. IsHolder whole main local_size rank f type h) (λ h now after. IsHolder whole main local_size rank f type h × Widens given now) u (keep v u) (λ h now after inside wider is. (is, wider refl))
      (keep_flows whole main local_size rank f sorted deep given type v u value))

  going_flows : (deep : ℕ) (given : List ℕ) (waits : Bool) (type v : ℕ) (asks : List ℕ) (u : Flow) → IsOf whole main local_size rank f given type v
      → Flows whole main local_size rank f (type ∷ []) deep false given (λ p now after. Sent u waits (record { type = type; asks = asks; back = None }) p now after) u (going_in v u)
  unfolding going_in
  going_flows deep given waits type v asks u value =
      flows_map whole main local_size rank f (type ∷ []) deep false given (λ h now after. (IsHolder whole main local_size rank f type h × Widens given now) × IsLast u after h) (λ p now after. Sent u waits (record { type = type; asks = asks; back = None }) p now after) u (keep v u) (λ h. passed_as h false None)
      (λ h now after inside wider is. (record { holder = is.0.0; goes = GoesTo.nowhere }, is.1)) (kept_flows deep given type v u value)

  coming_flows : (deep : ℕ) (given : List ℕ) (waits : Bool) (spot : Spot) (type other v : ℕ) (asks : List ℕ) (r : Reached) (u : Flow) → IsReached whole main local_size rank f given spot r → IsOf whole main local_size rank f given type v
      → Flows whole main local_size rank f (held_if waits (asked_of whole spot) ++ type ∷ []) deep false given (λ p now after. Sent u waits (record { type = type; asks = asks; back = Some (spot, other) }) p now after) u (coming_back waits r v u)
  unfolding coming_back
  coming_flows deep given waits spot type other v asks r u is value =
      flows_on (held_if waits (asked_of whole spot)) (type ∷ []) deep false given (λ kept now after. Kept waits now spot kept × IsOf whole main local_size rank f now type v) (λ p now after. Sent u waits (record { type = type; asks = asks; back = Some (spot, other) }) p now after) u (hold_reached waits r u)
      (λ kept. kept_as waits kept v) (hold_reached_stays waits r u)
      (flows_so whole main local_size rank f (held_if waits (asked_of whole spot)) deep false given (λ kept now after. Kept waits now spot kept) (λ kept now after. Kept waits now spot kept × IsOf whole main local_size rank f now type v) u (hold_reached waits r u)
      (λ kept now after inside wider stays. (stays, of_later whole main local_size rank f sorted given now type v (wider refl) value)) (hold_reached_flows whole main local_size rank f sorted waits deep given spot r u is))
      (λ kept w. stays_map w (keep v w) (λ h. passed_as h waits (Some kept)) (keep_stays v w))
      (λ kept w now both on. flows_map whole main local_size rank f (type ∷ []) deep false now (λ h then after. (IsHolder whole main local_size rank f type h × Widens now then) × IsLast w after h) (λ p now after. Sent u waits (record { type = type; asks = asks; back = Some (spot, other) }) p now after) w (keep v w)
      (λ h. passed_as h waits (Some kept))
      (λ h then after inside wider is. (record { holder = is.0.0; goes = GoesTo.back_to (kept_later whole main local_size rank f sorted waits now then spot kept (λ none_. is.0.1) both.0) }, last_before u w after h on is.1)) (kept_flows deep now type v w both.1))

  sent_start : (start u after : Flow) (waits : Bool) (way : Way) (p : Passed) (now : List ℕ) → FlowStays start u → Sent u waits way p now after → Sent start waits way p now after
  sent_start start u after waits way p now on is = (is.0, last_before start u after p.pointer on is.1)

  pub pass_stays : (s : Flow) (deep : ℕ) (structs : List StructType) (waits : Bool) (t : Ty) (arg : Lower) (direction : Direction) (way : Way) → IsPassed whole main local_size rank f s deep structs waits t arg direction way → (u : Flow) → EmitStays u (passing structs waits direction t arg u)
  pass_stays s deep structs waits t arg _ _ (IsPassed.goes_in e) u = emit_then u (arg.value u) going_in (e.stays u) (λ v w. going_stays v w)
  pass_stays s deep structs waits t arg _ _ (IsPassed.comes_out y test zero back) u = emit_then u (arg.reach u) (passed_out structs waits t arg.ty) (y.stays u) (λ r w. out_stays structs waits t arg.ty r w)
  pass_stays s deep structs waits t arg _ _ (IsPassed.goes_both y got reading back) u = emit_then u (arg.reach u) (passed_both structs waits arg.ty) (y.stays u) (λ r w. both_stays structs waits arg.ty r w)

  out_flows : (s : Flow) (deep : ℕ) (given : List ℕ) (structs : List StructType) (waits : Bool) (t arg : Ty) (spot : Spot) (type other : ℕ) (asks : List ℕ) (r : Reached) (u : Flow) → IsLater s u → IsTested whole main local_size rank f structs arg spot true → HasZeros whole main local_size rank f s t type
      → IsReached whole main local_size rank f given spot r → Flows whole main local_size rank f (held_if waits (asked_of whole spot) ++ type ∷ []) deep false given (λ p now after. Sent u waits (record { type = type; asks = asks; back = Some (spot, other) }) p now after) u (passed_out structs waits t arg r u)
  unfolding passed_out
  out_flows s deep given structs waits t arg spot type other asks r u here test zero is =
      flows_on [] (held_if waits (asked_of whole spot) ++ type ∷ []) deep false given (λ done now after. IsReached whole main local_size rank f now spot r) (λ p now after. Sent u waits (record { type = type; asks = asks; back = Some (spot, other) }) p now after) u (lift (probe structs true arg r) u) (zeros_then waits t r)
      (probe_stays structs true arg r u)
      (flows_so whole main local_size rank f [] deep false given (GivesNone whole main local_size rank f) (λ done now after. IsReached whole main local_size rank f now spot r) u (lift (probe structs true arg r) u) (λ done now after inside wider nothing. reached_later whole main local_size rank f sorted given now spot r (wider refl) is)
      (probe_flows whole main local_size rank f sorted deep given structs true arg spot r u test is)) (λ done v. emit_then v (zeros t v) (coming_back waits r) (zeros_stay t v) (λ z w. coming_stays waits r z w))
      (λ done v now there on. flows_on [] (held_if waits (asked_of whole spot) ++ type ∷ []) deep false now (λ z then after. IsOf whole main local_size rank f then type z × IsReached whole main local_size rank f then spot r) (λ p now after. Sent u waits (record { type = type; asks = asks; back = Some (spot, other) }) p now after) v (zeros t v)
      (coming_back waits r) (zeros_stay t v)
      (flows_so whole main local_size rank f [] deep false now (GivesOf whole main local_size rank f type) (λ z then after. IsOf whole main local_size rank f then type z × IsReached whole main local_size rank f then spot r) v (zeros t v)
      (λ z then after inside wider value. (value, reached_later whole main local_size rank f sorted now then spot r (wider refl) there)) (zeros_flow whole main local_size rank f sorted s deep now t type v (later_then s u v here (later_of on)) zero)) (λ z w. coming_stays waits r z w)
      (λ z w then both more. flows_so whole main local_size rank f (held_if waits (asked_of whole spot) ++ type ∷ []) deep false then (λ p now after. Sent w waits (record { type = type; asks = asks; back = Some (spot, other) }) p now after)
      (λ p now after. Sent u waits (record { type = type; asks = asks; back = Some (spot, other) }) p now after) w (coming_back waits r z w) (λ p now after inside wider is. sent_start u w after waits (record { type = type; asks = asks; back = Some (spot, other) }) p now (flow_then on more) is)
      (coming_flows deep then waits spot type other z asks r w both.1 both.0)))

  both_flows : (s : Flow) (deep : ℕ) (given : List ℕ) (structs : List StructType) (waits : Bool) (arg : Ty) (spot : Spot) (type other : ℕ) (asks more : List ℕ) (r : Reached) (u : Flow) → is_class m.version storage_class.FUNCTION ≡ true → IsLater s u → IsGot whole main local_size rank f s structs arg spot type more → spot.may.reads ≡ true
      → IsReached whole main local_size rank f given spot r → Flows whole main local_size rank f (more ++ (held_if waits (asked_of whole spot) ++ type ∷ [])) deep false given (λ p now after. Sent u waits (record { type = type; asks = asks; back = Some (spot, other) }) p now after) u (passed_both structs waits arg r u)
  unfolding passed_both
  both_flows s deep given structs waits arg spot type other asks more r u classed here got reading is =
      flows_on more (held_if waits (asked_of whole spot) ++ type ∷ []) deep false given (λ v now after. IsOf whole main local_size rank f now type v × IsReached whole main local_size rank f now spot r) (λ p now after. Sent u waits (record { type = type; asks = asks; back = Some (spot, other) }) p now after) u (reads structs arg r u)
      (coming_back waits r) (reads_stay structs arg r u)
      (flows_so whole main local_size rank f more deep false given (GivesOf whole main local_size rank f type) (λ v now after. IsOf whole main local_size rank f now type v × IsReached whole main local_size rank f now spot r) u (reads structs arg r u)
      (λ v now after inside wider value. (value, reached_later whole main local_size rank f sorted given now spot r (wider refl) is)) (reads_flow whole main local_size rank f sorted s deep given structs arg spot type more r u classed here got reading is)) (λ v w. coming_stays waits r v w)
      (λ v w now both on. flows_so whole main local_size rank f (held_if waits (asked_of whole spot) ++ type ∷ []) deep false now (λ p now after. Sent w waits (record { type = type; asks = asks; back = Some (spot, other) }) p now after)
      (λ p now after. Sent u waits (record { type = type; asks = asks; back = Some (spot, other) }) p now after) w (coming_back waits r v w) (λ p now after inside wider is. sent_start u w after waits (record { type = type; asks = asks; back = Some (spot, other) }) p now on is)
      (coming_flows deep now waits spot type other v asks r w both.1 both.0))

  pub pass_flows : (s : Flow) (deep : ℕ) (structs : List StructType) (waits : Bool) (t : Ty) (arg : Lower) (direction : Direction) (way : Way) → is_class m.version storage_class.FUNCTION ≡ true → IsPassed whole main local_size rank f s deep structs waits t arg direction way → (given : List ℕ) (u : Flow) → IsLater s u
      → Flows whole main local_size rank f way.asks deep arg.traits.splits given (λ p now after. Sent u waits way p now after) u (passing structs waits direction t arg u)
  pass_flows s deep structs waits t arg _ _ classed (IsPassed.goes_in {type} {asks} e) given u here =
      flows_on asks (type ∷ []) deep arg.traits.splits given (GivesOf whole main local_size rank f type) (λ p now after. Sent u waits (record { type = type; asks = asks ++ type ∷ []; back = None }) p now after) u (arg.value u) going_in (e.stays u) (e.flows given u here) (λ v w. going_stays v w)
      (λ v w now value on. flows_so whole main local_size rank f (type ∷ []) deep false now (λ p now after. Sent w waits (record { type = type; asks = asks ++ type ∷ []; back = None }) p now after) (λ p now after. Sent u waits (record { type = type; asks = asks ++ type ∷ []; back = None }) p now after) w (going_in v w)
      (λ p now after inside wider is. sent_start u w after waits (record { type = type; asks = asks ++ type ∷ []; back = None }) p now on is) (going_flows deep now waits type v (asks ++ type ∷ []) w value))
  pass_flows s deep structs waits t arg _ way classed (IsPassed.comes_out {type} {other} {asks} {spot} y test zero back) given u here =
      flows_on asks (held_if waits (asked_of whole spot) ++ type ∷ []) deep arg.traits.splits given (λ r now after. IsReached whole main local_size rank f now spot r) (λ p now after. Sent u waits way p now after) u (arg.reach u) (passed_out structs waits t arg.ty) (y.stays u) (y.flows given u here) (λ r w. out_stays structs waits t arg.ty r w)
      (λ r w now is on. flows_so whole main local_size rank f (held_if waits (asked_of whole spot) ++ type ∷ []) deep false now (λ p now after. Sent w waits way p now after) (λ p now after. Sent u waits way p now after) w (passed_out structs waits t arg.ty r w)
      (λ p now after inside wider is. sent_start u w after waits way p now on is) (out_flows s deep now structs waits t arg.ty spot type other way.asks r w (later_then s u w here (later_of on)) test zero is))
  pass_flows s deep structs waits t arg _ way classed (IsPassed.goes_both {type} {other} {asks} {more} {spot} y got reading back) given u here =
      flows_on asks (more ++ (held_if waits (asked_of whole spot) ++ type ∷ [])) deep arg.traits.splits given (λ r now after. IsReached whole main local_size rank f now spot r) (λ p now after. Sent u waits way p now after) u (arg.reach u) (passed_both structs waits arg.ty) (y.stays u) (y.flows given u here)
      (λ r w. both_stays structs waits arg.ty r w)
      (λ r w now is on. flows_so whole main local_size rank f (more ++ (held_if waits (asked_of whole spot) ++ type ∷ [])) deep false now (λ p now after. Sent w waits way p now after) (λ p now after. Sent u waits way p now after) w (passed_both structs waits arg.ty r w)
      (λ p now after inside wider is. sent_start u w after waits way p now on is) (both_flows s deep now structs waits arg.ty spot type other way.asks more r w classed (later_then s u w here (later_of on)) got reading is))

  -- ---- all of them

  pub data AllSent (given : List ℕ) : List Lower → List Way → List Passed → Type 0 where
    none_sent : AllSent given [] [] []
    one_sent : {arg : Lower} {args : List Lower} {way : Way} {ways : List Way} {p : Passed} {ps : List Passed} → IsSent (any_splits args) given way p → AllSent given args ways ps → AllSent given (arg ∷ args) (way ∷ ways) (p ∷ ps)

  pub all_later : (given now : List ℕ) (args : List Lower) (ways : List Way) (ps : List Passed) → Widens given now → AllSent given args ways ps → AllSent now args ways ps
  all_later given now _ _ _ wider AllSent.none_sent = AllSent.none_sent
  all_later given now _ _ _ wider (AllSent.one_sent {arg} {args} {way} {ways} {p} {ps} one more) = AllSent.one_sent (sent_later (any_splits args) given now way p (λ none_. wider) one) (all_later given now args ways ps wider more)

  abbrev Sends : Flow → List Lower → List Way → List Passed → List ℕ → Flow → Type 0
  Sends u args ways ps now after = AllSent now args ways ps × Rise u.place.holders u.place.used (pointers ps)

  abbrev rest_of : List StructType → List Lower → List (Direction × Ty) → Passed → Emit (List Passed)
  rest_of structs args params p v = behind (passing_all structs args params v) (λ ps. give (p ∷ ps))

  pub all_stay : (s : Flow) (deep : ℕ) (structs : List StructType) (args : List Lower) (params : List (Direction × Ty)) (ways : List Way) → ArePassed whole main local_size rank f s deep structs args params ways → (u : Flow) → EmitStays u (passing_all structs args params u)
  unfolding passing_all
  all_stay s deep structs _ _ _ ArePassed.no_more u = flow_same u
  all_stay s deep structs _ _ _ (ArePassed.one_more {arg} {args} {direction} {t} {params} {way} {ways} one more) u =
      emit_then u (passing structs (any_splits args) direction t arg u) (rest_of structs args params) (pass_stays s deep structs (any_splits args) t arg direction way one u) (λ p v. stays_map v (passing_all structs args params v) (λ ps. p ∷ ps) (all_stay s deep structs args params ways more v))

  pub all_flow : (s : Flow) (deep : ℕ) (structs : List StructType) (args : List Lower) (params : List (Direction × Ty)) (ways : List Way) → is_class m.version storage_class.FUNCTION ≡ true → ArePassed whole main local_size rank f s deep structs args params ways → (given : List ℕ) (u : Flow) → IsLater s u
      → Flows whole main local_size rank f (asked_by_all ways) deep (any_splits args) given (λ ps now after. Sends u args ways ps now after) u (passing_all structs args params u)
  unfolding passing_all
  all_flow s deep structs _ _ _ classed ArePassed.no_more given u here = given_flows whole main local_size rank f deep given (λ ps now after. Sends u [] [] ps now after) [] u (λ inside. (AllSent.none_sent, Rise.none_rises))
  all_flow s deep structs _ _ _ classed (ArePassed.one_more {arg} {args} {direction} {t} {params} {way} {ways} one more) given u here =
      flows_then whole main local_size rank f way.asks (asked_by_all ways) deep arg.traits.splits (any_splits args) given (λ p now after. Sent u (any_splits args) way p now after) (λ ps now after. Sends u (arg ∷ args) (way ∷ ways) ps now after) u (passing structs (any_splits args) direction t arg u)
      (rest_of structs args params) (pass_stays s deep structs (any_splits args) t arg direction way one u) (pass_flows s deep structs (any_splits args) t arg direction way classed one given u here)
      (λ p v. stays_map v (passing_all structs args params v) (λ ps. p ∷ ps) (all_stay s deep structs args params ways more v))
      (λ p v now sent wider on inside. flows_map whole main local_size rank f (asked_by_all ways) deep (any_splits args) now (λ ps now after. Sends v args ways ps now after) (λ ps now after. Sends u (arg ∷ args) (way ∷ ways) ps now after) v (passing_all structs args params v) (λ ps. p ∷ ps)
      (λ ps then after end later sends. (
        AllSent.one_sent (sent_later (any_splits args) now then way p later sent.0) sends.0,
        Rise.one_rises sent.1.behind sent.1.there (subst (λ n. Rise u.place.holders n (pointers ps)) sent.1.used (subst (λ holders. Rise holders v.place.used (pointers ps)) (ap (λ (x : FlowPlace). x.holders) on.place) sends.1)),
      )) (all_flow s deep structs args params ways classed more now v (later_then s u v here (later_of on))))
