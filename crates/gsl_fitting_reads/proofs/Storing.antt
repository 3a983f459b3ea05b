-- Values of any type are stored where an expression leads.
use Rattle.std.proofs.Common.{◌≡◌, ℕ, Bool, true, false, cond, List, [], ◌∷◌, Option, Some, None, refl, sym, ap, ◌∙◌, subst}
use Rattle.std.specs.List.{AllByRecursion}
use Rattle.std.proofs.lemmas.Bool.{eq-eqb}
use Rattle.gsl_instr.specs.Forms.{form_of}
use Rattle.gsl_instr.specs.declared.op.TheConstants as op
use Rattle.gsl_types.specs.declared.ty.StructType.{StructType}
use Rattle.gsl_types.specs.declared.ty.Ty.{Ty}
use Rattle.gsl_tree.specs.Shapes.{Shape, shape_of}
use Rattle.gsl_words.specs.declared.module.Module.{Module}
use Rattle.gsl_valid.specs.Types.{is_type}
use Rattle.gsl_spv.specs.Sections.{Sections}
use Rattle.gsl_spv.proofs.Extending.{extends_then}
use Rattle.gsl_lower_values.specs.Building.{putting}
use Rattle.gsl_lower_leaves.specs.Leaves.{leaves_of}
use Rattle.gsl_lower_places.specs.Reached.{is_block_class}
use Rattle.gsl_lower_places.specs.Reading.{pointer}
use Rattle.gsl_lower_places.specs.Writing.{stored}
use Rattle.gsl_lower_places.specs.declared.reached.Base.{Base}
use Rattle.gsl_lower_places.specs.declared.reached.Base.TheVariants.{Value, Variable}
use Rattle.gsl_lower_places.specs.declared.reached.Part.{Part}
use Rattle.gsl_lower_places.specs.declared.reached.Reached.{Reached}
use Rattle.gsl_lower_holders.specs.Flow.{Emit, Flow, Lowered, behind, lift, putting_here, type_id}
use Rattle.gsl_lower_expr.specs.Parts.{store_block, store_by, store_composite, store_own, stores}
use Rattle.gsl_fitting.specs.Fits.{Frame}
use Rattle.gsl_fitting_types.specs.Making.{AreSorted, made}
use Rattle.gsl_fitting_places.specs.Leading.{IsLed, IsValueType, Nothing}
use Rattle.gsl_fitting_places.proofs.Chains.{held_later, pointer_comes, pointer_sorts}
use Rattle.gsl_fitting_places.proofs.Moves.{putting_comes, store_sorts, store_works, writable_is}
use Rattle.gsl_fitting_places.proofs.Storing.{stored_fits, stored_sorts}
use Rattle.gsl_fitting_flow.specs.Flowing.{EmitStays, Flows, GivesNone, IsLater, IsOf, Widens}
use Rattle.gsl_fitting_flow.proofs.Following.{emit_then, flow_same, flows_so, flows_then, given_flows, lift_flows, lift_stays}
use Rattle.gsl_fitting_flow.proofs.Holding.{of_later, type_on, type_stays}
use Rattle.gsl_fitting_leaves.proofs.Copying.{store_whole_comes, store_whole_sorts}
use Rattle.gsl_fitting_expr.proofs.Steps.{value_of}
use Rattle.gsl_fitting_reaching.specs.Reached.{IsIn, IsReached, IsWithin, LeadsTo, May, Spot}
use Rattle.gsl_fitting_reaching.proofs.Serving.{may_store}
use Rattle.gsl_fitting_reads.specs.Moving.{HasLeaf, IsComposite, IsPut, Moves}
use Rattle.gsl_fitting_reads.proofs.Leaves.{enters_block}
use Rattle.gsl_fitting_reads.proofs.Reading.{class_is, type_then, way_of, within_later}

-- ---- what stays

abbrev put_of : ℕ → ℕ → Emit (Unit {0})
put_of v to = putting_here op.STORE (to ∷ v ∷ [])

abbrev own_put : ℕ → ℕ → List Part → ℕ → ℕ → Emit (Unit {0})
own_put id class parts v type u = behind (lift (pointer id class type parts) u) (put_of v)

put_stays : (v to : ℕ) (u : Flow) → EmitStays u (put_of v to u)
put_stays v to u = lift_stays u (putting op.STORE (to ∷ v ∷ []) u.sections) (store_sorts to v u.sections)

own_put_stays : (id class : ℕ) (parts : List Part) (v type : ℕ) (u : Flow) → EmitStays u (own_put id class parts v type u)
own_put_stays id class parts v type u = emit_then u (lift (pointer id class type parts) u) (put_of v) (lift_stays u (pointer id class type parts u.sections) (pointer_sorts id class type parts u.sections)) (λ to w. put_stays v to w)

pub stores_stay : (structs : List StructType) (t : Ty) (r : Reached) (v : ℕ) (u : Flow) → EmitStays u (stores structs t r v u)
unfolding stores
stores_stay structs t r v u = by (shape_of t)
  where
    variable : (id class : ℕ) (b : Bool) → EmitStays u ((cond b (lift (store_block structs t id class r.path v)) (store_own t id class r.path v)) u)
    variable id class true = lift_stays u (store_block structs t id class r.path v u.sections) (store_whole_sorts id class r.path v (leaves_of structs t) u.sections)
    variable id class false = emit_then u (type_id t u) (own_put id class r.path v) (type_stays t u) (λ type w. own_put_stays id class r.path v type w)

    composite : (base : Base) → EmitStays u (store_composite structs t base r.path v u)
    composite (Variable id class) = variable id class (is_block_class class)
    composite (Value id of_whole) = flow_same u

    by : (o : Option Shape) → EmitStays u (store_by structs t r v o u)
    by (Some shape) = lift_stays u (stored shape r v u.sections) (stored_sorts shape r v u.sections)
    by None = composite r.base

module _ (whole : Sections) (main : ℕ) (local_size : List ℕ) (rank : ℕ → ℕ) (f : Frame) (sorted : AreSorted whole) where
  abbrev m : Module
  m = made whole main local_size rank f

  abbrev F : ℕ → List ℕ → Flow → Lowered (Unit {0}) → Type 0
  F deep given u lowered = Flows whole main local_size rank f [] deep false given (GivesNone whole main local_size rank f) u lowered

  own_flows : (deep : ℕ) (given : List ℕ) (may : May) (class id : ℕ) (parts : List Part) (type room v : ℕ) (u : Flow) → may.stores ≡ true → IsWithin whole main local_size rank f given may class id parts type room → IsValueType u.sections type → Moves whole main local_size rank f (Some class) type
      → IsOf whole main local_size rank f given type v → F deep given u (own_put id class parts v type u)
  unfolding form_of
  own_flows deep given may class id parts type room v u storing l held moves value =
      flows_then whole main local_size rank f [] [] deep false false given (λ to now after. IsLed whole main local_size rank f now class id l.pointee parts type to × Widens given now) (GivesNone whole main local_size rank f) u (lift (pointer id class type parts) u) (put_of v)
      (lift_stays u (pointer id class type parts u.sections) (pointer_sorts id class type parts u.sections))
      (flows_so whole main local_size rank f [] deep false given (λ to now after. IsLed whole main local_size rank f now class id l.pointee parts type to) (λ to now after. IsLed whole main local_size rank f now class id l.pointee parts type to × Widens given now) u (lift (pointer id class type parts) u)
      (λ to now after inside wider led. (led, wider refl))
      (lift_flows whole main local_size rank f deep given (λ to now after. IsLed whole main local_size rank f now class id l.pointee parts type to) u (pointer id class type parts u.sections)
      (pointer_comes whole main local_size rank f sorted given class id l.pointee type parts u.sections l.leads (way_of whole main local_size rank f sorted given may class id parts type room l) held))) (λ to w. put_stays v to w)
      (λ to w now led wider stays inside. lift_flows whole main local_size rank f deep now Nothing w (putting op.STORE (to ∷ v ∷ []) w.sections)
      (putting_comes whole main local_size rank f sorted now op.STORE (to ∷ v ∷ []) w.sections
      (λ start. let k = of_later whole main local_size rank f sorted given now type v led.1 value in
      store_works whole main local_size rank f sorted now class type to v refl led.0.pointer k.known (ap (is_type type) k.typed ∙ eq-eqb type type refl) moves.1
      (writable_is whole main local_size rank f sorted class id l.pointee type to parts now led.0 ∙ l.changes storing))))

  composite_flows : (s : Flow) (deep : ℕ) (given : List ℕ) (structs : List StructType) (t : Ty) (spot : Spot) (base : Base) (parts : List Part) (v : ℕ) (u : Flow) → IsLater s u → IsComposite whole main local_size rank f s t spot.type → Moves whole main local_size rank f spot.home spot.type → spot.may.stores ≡ true
      → IsIn spot.home base → LeadsTo whole main local_size rank f given spot.may base parts spot.type spot.room → IsOf whole main local_size rank f given spot.type v → F deep given u (store_composite structs t base parts v u)
  composite_flows s deep given structs t spot (Variable id class) parts v u here is moves storing there l value =
      subst (λ b. F deep given u ((cond b (lift (store_block structs t id class parts v)) (store_own t id class parts v)) u)) (sym (own spot.home moves there).0)
      (type_then whole main local_size rank f sorted deep given t spot.type (GivesNone whole main local_size rank f) u (own_put id class parts v) (type_on whole main local_size rank f sorted s u t spot.type here is.same) (λ type w. own_put_stays id class parts v type w)
      (λ w now wider later inside. own_flows deep now spot.may class id parts spot.type spot.room v w storing (within_later whole main local_size rank f sorted given now spot.may class id parts spot.type spot.room wider l)
      (held_later s.sections w.sections spot.type (extends_then here.sections later.sections) is.declared) (own spot.home moves there) (of_later whole main local_size rank f sorted given now spot.type v wider value)))
    where
      own : (home : Option ℕ) → Moves whole main local_size rank f home spot.type → IsIn home (Variable id class) → Moves whole main local_size rank f (Some class) spot.type
      own (Some other) moves there = subst (λ c. Moves whole main local_size rank f (Some c) spot.type) (sym there) moves
      own None moves there = absurd there
  composite_flows s deep given structs t spot (Value id of_whole) parts v u here is moves storing there l value = given_flows whole main local_size rank f deep given (GivesNone whole main local_size rank f) tt u (λ inside. tt)

  pub stores_flow : (s : Flow) (deep : ℕ) (given : List ℕ) (structs : List StructType) (t : Ty) (spot : Spot) (type : ℕ) (r : Reached) (v : ℕ) (u : Flow) → IsLater s u → IsPut whole main local_size rank f s structs t spot type → spot.may.stores ≡ true → IsReached whole main local_size rank f given spot r
      → IsOf whole main local_size rank f given type v → F deep given u (stores structs t r v u)
  unfolding stores
  stores_flow s deep given structs t spot type r v u here (IsPut.in_shape {shape} shaped plain of) storing is value =
      subst (λ o. F deep given u (store_by structs t r v o u)) (sym shaped)
      (lift_flows whole main local_size rank f deep given Nothing u (stored shape r v u.sections)
      (stored_fits whole main local_size rank f sorted given shape r v u.sections (may_store whole main local_size rank f sorted given spot shape r plain is storing) (value_of whole main local_size rank f sorted given shape type v of value)))
  stores_flow s deep given structs t spot type r v u here (IsPut.as_it_is composite none same moves) storing is value =
      subst (λ o. F deep given u (store_by structs t r v o u)) (sym composite.composite)
      (composite_flows s deep given structs t spot r.base r.path v u here (subst (IsComposite whole main local_size rank f s t) (sym same) composite) (subst (Moves whole main local_size rank f spot.home) (sym same) moves) storing is.at_home is.leads
      (subst (λ z. IsOf whole main local_size rank f given z v) (sym same) value))
  stores_flow s deep given structs t spot type r v u here (IsPut.by_leaves {class} composite none home blocked to from) storing is value =
      subst (λ o. F deep given u (store_by structs t r v o u)) (sym composite.composite) (by r.base is.at_home is.leads)
    where
      by : (base : Base) → IsIn spot.home base → LeadsTo whole main local_size rank f given spot.may base r.path spot.type spot.room → F deep given u (store_composite structs t base r.path v u)
      by (Variable id own) there l =
          let same = class_is whole main local_size rank f sorted spot.home class id own home there in
          subst (λ b. F deep given u ((cond b (lift (store_block structs t id own r.path v)) (store_own t id own r.path v)) u)) (sym (ap is_block_class same ∙ blocked))
          (lift_flows whole main local_size rank f deep given Nothing u (store_block structs t id own r.path v u.sections)
          (store_whole_comes whole main local_size rank f sorted given own id r.path v (leaves_of structs t) u.sections
          (enters_block whole main local_size rank f sorted given spot.may own id r.path spot.type type spot.room v (leaves_of structs t) storing l value (subst (λ c. AllByRecursion (HasLeaf whole main local_size rank f c spot.may spot.type spot.room) (leaves_of structs t)) (sym same) to) from)))
      by (Value id of_whole) there l = given_flows whole main local_size rank f deep given (GivesNone whole main local_size rank f) tt u (λ inside. tt)
