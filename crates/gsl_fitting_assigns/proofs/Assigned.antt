-- Assignments.
use Rattle.std.proofs.Common.{◌≡◌, ℕ, Bool, true, false, ◌||◌, List, [], ◌++◌, refl, subst}
use Rattle.gsl_types.specs.declared.ty.StructType.{StructType}
use Rattle.gsl_types.specs.declared.ty.Ty.{Ty}
use Rattle.gsl_words.specs.declared.module.Module.{Module}
use Rattle.gsl_spv.specs.Sections.{Sections}
use Rattle.gsl_lower_places.specs.declared.reached.Reached.{Reached}
use Rattle.gsl_lower_traits.specs.declared.traits.Traits.{Traits}
use Rattle.gsl_lower_holders.specs.Flow.{Emit, Flow, behind, given as give}
use Rattle.gsl_lower_holders.specs.Waiting.{fetch_reached}
use Rattle.gsl_lower_expr.specs.Parts.{Lower, after_assign, assigned, before_assign, stores}
use Rattle.gsl_fitting.specs.Fits.{Frame}
use Rattle.gsl_fitting_types.specs.Making.{AreSorted, made}
use Rattle.gsl_fitting_flow.specs.Flowing.{EmitStays, Flows, GivesNone, GivesOf, IsLater, IsOf, Widens}
use Rattle.gsl_fitting_flow.proofs.Following.{emit_then, flows_so, flows_then, later_of, later_then}
use Rattle.gsl_fitting_flow.proofs.Holding.{of_later}
use Rattle.gsl_fitting_expr.specs.Evaluating.{Evaluates, Yields}
use Rattle.gsl_fitting_expr.proofs.Yielding.{flows_last, flows_map, or_false, stays_map, yields_then}
use Rattle.gsl_fitting_reaching.specs.Reached.{IsReached, Reaches, Spot, asked_of}
use Rattle.gsl_fitting_reads.specs.Moving.{IsPut}
use Rattle.gsl_fitting_reads.specs.Waiting.{StaysReached, held_if}
use Rattle.gsl_fitting_reads.proofs.Fetching.{fetch_reached_flows, fetch_reached_stays}
use Rattle.gsl_fitting_reads.proofs.Storing.{stores_flow, stores_stay}
use Rattle.gsl_fitting_indexes.specs.Indexes.{IsTested}
use Rattle.gsl_fitting_indexes.proofs.Indexing.{kept_later, test_flows, test_stays}

abbrev put_of : List StructType → Ty → ℕ → Reached → Emit ℕ
put_of structs t y to v = behind (stores structs t to y v) (λ done. give y)

put_stays : (structs : List StructType) (t : Ty) (y : ℕ) (to : Reached) (u : Flow) → EmitStays u (put_of structs t y to u)
put_stays structs t y to u = stays_map u (stores structs t to y u) (λ done. y) (stores_stay structs t to y u)

after_stays : (structs : List StructType) (t : Ty) (b : Traits) (kept : Reached) (y : ℕ) (u : Flow) → EmitStays u (after_assign structs t b kept y u)
after_stays structs t b kept y u = emit_then u (fetch_reached b.splits kept u) (put_of structs t y) (fetch_reached_stays b.splits kept u) (λ to v. put_stays structs t y to v)

module _ (whole : Sections) (main : ℕ) (local_size : List ℕ) (rank : ℕ → ℕ) (f : Frame) (sorted : AreSorted whole) where
  abbrev m : Module
  m = made whole main local_size rank f

  abbrev Kept : Bool → List ℕ → Spot → Reached → Type 0
  Kept b given spot r = StaysReached whole main local_size rank f b given spot r

  after_flows : (s : Flow) (deep : ℕ) (given : List ℕ) (structs : List StructType) (t : Ty) (b : Traits) (spot : Spot) (type : ℕ) (kept : Reached) (y : ℕ) (u : Flow) → IsLater s u → IsPut whole main local_size rank f s structs t spot type → spot.may.stores ≡ true → Kept b.splits given spot kept
      → IsOf whole main local_size rank f given type y → Flows whole main local_size rank f [] deep false given (GivesOf whole main local_size rank f type) u (after_assign structs t b kept y u)
  after_flows s deep given structs t b spot type kept y u here put storing stays value =
      flows_then whole main local_size rank f [] [] deep false false given (λ to now after. IsReached whole main local_size rank f now spot to × Widens given now) (GivesOf whole main local_size rank f type) u (fetch_reached b.splits kept u) (put_of structs t y) (fetch_reached_stays b.splits kept u)
      (flows_so whole main local_size rank f [] deep false given (λ to now after. IsReached whole main local_size rank f now spot to) (λ to now after. IsReached whole main local_size rank f now spot to × Widens given now) u (fetch_reached b.splits kept u) (λ to now after inside wider is. (is, wider refl))
      (fetch_reached_flows whole main local_size rank f sorted b.splits deep given spot kept u stays)) (λ to v. put_stays structs t y to v)
      (λ to v now is wider on inside. flows_map whole main local_size rank f [] deep false now (GivesNone whole main local_size rank f) (GivesOf whole main local_size rank f type) v (stores structs t to y v) (λ done. y)
      (λ done then after end more nothing. of_later whole main local_size rank f sorted given then type y (λ id h. more refl id (is.1 id h)) value)
      (stores_flow whole main local_size rank f sorted s deep now structs t spot type to y v (later_then s u v here (later_of on)) put storing is.0 (of_later whole main local_size rank f sorted given now type y is.1 value)))

  pub assigned_evaluates : (s : Flow) (asks more : List ℕ) (deep : ℕ) (splits : Bool) (structs : List StructType) (a b : Lower) (spot : Spot) (type : ℕ) → spot.may.stores ≡ true → IsTested whole main local_size rank f structs a.ty spot b.traits.calls → IsPut whole main local_size rank f s structs a.ty spot type
      → Reaches whole main local_size rank f s asks deep splits spot a.reach → Evaluates whole main local_size rank f s more deep b.traits.splits type b.value
      → Evaluates whole main local_size rank f s ((asks ++ held_if b.traits.splits (asked_of whole spot)) ++ more) deep (splits || b.traits.splits) type (assigned structs a b)
  assigned_evaluates s asks more deep splits structs a b spot type storing test put y e =
      yields_then whole main local_size rank f s (asks ++ held_if b.traits.splits (asked_of whole spot)) more deep splits b.traits.splits (λ kept now after. Kept b.traits.splits now spot kept) (GivesOf whole main local_size rank f type) (λ u. behind (a.reach u) (before_assign structs a.ty b.traits))
      (λ kept u. behind (b.value u) (after_assign structs a.ty b.traits kept))
      (subst (λ z. Yields whole main local_size rank f s (asks ++ held_if b.traits.splits (asked_of whole spot)) deep z (λ kept now after. Kept b.traits.splits now spot kept) (λ u. behind (a.reach u) (before_assign structs a.ty b.traits))) (or_false splits)
      (yields_then whole main local_size rank f s asks (held_if b.traits.splits (asked_of whole spot)) deep splits false (λ r now after. IsReached whole main local_size rank f now spot r) (λ kept now after. Kept b.traits.splits now spot kept) a.reach (before_assign structs a.ty b.traits) y
      (λ r u. test_stays structs b.traits.calls b.traits.splits a.ty r u) (λ r u now is here inside. test_flows whole main local_size rank f sorted deep now structs b.traits.calls b.traits.splits a.ty spot r u test is)))
      (λ kept u. emit_then u (b.value u) (after_assign structs a.ty b.traits kept) (e.stays u) (λ v w. after_stays structs a.ty b.traits kept v w))
      (λ kept u now stays here inside. flows_last whole main local_size rank f more deep b.traits.splits now (GivesOf whole main local_size rank f type) (GivesOf whole main local_size rank f type) u (b.value u) (after_assign structs a.ty b.traits kept) (e.stays u) (e.flows now u here)
      (λ v w. after_stays structs a.ty b.traits kept v w)
      (λ v w then value wider later end. after_flows s deep then structs a.ty b.traits spot type kept v w (later_then s u w here later) put storing (kept_later whole main local_size rank f sorted b.traits.splits now then spot kept wider stays) value))
