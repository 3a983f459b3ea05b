-- Values of any type are read where an expression leads.
use Rattle.std.proofs.Common.{◌≡◌, ℕ, ◌≤◌, ◌<◌, Bool, true, false, cond, ◌||◌, List, [], ◌∷◌, ◌++◌, length, map, Option, Some, None, refl, sym, ap, ◌∙◌, subst, arith}
use Rattle.std.specs.List.{AllByRecursion}
use Rattle.std.proofs.lemmas.List.{length-map}
use Rattle.gsl_instr.specs.Forms.{form_of}
use Rattle.gsl_instr.specs.declared.enumerant.decoration.TheConstants as decoration
use Rattle.gsl_instr.specs.declared.enumerant.storage_class.TheConstants as storage_class
use Rattle.gsl_instr.specs.declared.op.TheConstants as op
use Rattle.gsl_types.specs.declared.ty.StructType.{StructType}
use Rattle.gsl_types.specs.declared.ty.Ty.{Ty}
use Rattle.gsl_tree.specs.Shapes.{Shape, shape_of}
use Rattle.gsl_words.specs.declared.module.Module.{Module}
use Rattle.gsl_valid.specs.Kinds.{type_of}
use Rattle.gsl_valid.specs.LimitRules.{most_indexes}
use Rattle.gsl_valid.specs.Sections.{is_class}
use Rattle.gsl_spv.specs.Growing.{Extends}
use Rattle.gsl_spv.specs.Sections.{Sections}
use Rattle.gsl_spv.proofs.Extending.{extends_then}
use Rattle.gsl_lower_values.specs.Building.{giving}
use Rattle.gsl_lower_leaves.specs.Copies.{read_whole}
use Rattle.gsl_lower_leaves.specs.Leaves.{leaves_of}
use Rattle.gsl_lower_places.specs.Reached.{is_block_class}
use Rattle.gsl_lower_places.specs.Reading.{extracted, number_in, pointer, read}
use Rattle.gsl_lower_places.specs.declared.reached.Base.{Base}
use Rattle.gsl_lower_places.specs.declared.reached.Base.TheVariants.{Value, Variable}
use Rattle.gsl_lower_places.specs.declared.reached.Part.{Part}
use Rattle.gsl_lower_places.specs.declared.reached.Reached.{Reached}
use Rattle.gsl_lower_holders.specs.Flow.{Emit, Flow, Lowered, behind, giving_here, lift, type_id}
use Rattle.gsl_lower_holders.specs.Waiting.{holder}
use Rattle.gsl_lower_expr.specs.Parts.{accessed, read_block, read_by, read_composite, read_own, reads}
use Rattle.gsl_fitting.specs.Fits.{Frame, is_known}
use Rattle.gsl_fitting_types.specs.Making.{AreSorted, Comes, made}
use Rattle.gsl_fitting_types.proofs.Knowing.{global_outside, known_wider, outside_known}
use Rattle.gsl_fitting_types.proofs.Sorting.{giving_sorts}
use Rattle.gsl_fitting_types.proofs.Stepping.{given_comes}
use Rattle.gsl_fitting_places.specs.Leading.{IsLed, IsValueType, IsWay}
use Rattle.gsl_fitting_places.proofs.Chains.{all_later, giving_made, held_later, leads_later, pointer_comes, pointer_sorts}
use Rattle.gsl_fitting_places.proofs.Moves.{load_stands}
use Rattle.gsl_fitting_places.proofs.Parting.{extract_stands, extracted_sorts, read_fits, read_sorts}
use Rattle.gsl_fitting_places.proofs.Ways.{way_begins}
use Rattle.gsl_fitting_flow.specs.Flowing.{EmitStays, Flows, GivesOf, IsHolder, IsLater, IsOf, IsTypeFor, Widens}
use Rattle.gsl_fitting_flow.proofs.Following.{emit_then, flows_so, flows_then, later_of, later_then, lift_flows, lift_stays}
use Rattle.gsl_fitting_flow.proofs.Holding.{holder_flows, holder_stays, type_flows, type_on, type_stays}
use Rattle.gsl_fitting_leaves.proofs.Copying.{read_whole_comes, read_whole_sorts}
use Rattle.gsl_fitting_expr.specs.Evaluating.{Evaluates}
use Rattle.gsl_fitting_expr.proofs.Steps.{step_flows}
use Rattle.gsl_fitting_expr.proofs.Yielding.{yields_then}
use Rattle.gsl_fitting_reaching.specs.Reached.{IsIn, IsInside, IsReached, IsWithin, LeadsTo, May, Reaches, Spot}
use Rattle.gsl_fitting_reaching.proofs.Serving.{may_read}
use Rattle.gsl_fitting_reads.specs.Moving.{HasLeaf, IsComposite, IsGot, Moves, both}
use Rattle.gsl_fitting_reads.proofs.Leaves.{holder_within, leaves_block}

-- ---- what stays

abbrev pub load_of : ℕ → ℕ → Emit ℕ
load_of type from = giving_here op.LOAD (from ∷ []) type

abbrev own_of : ℕ → ℕ → List Part → ℕ → Emit ℕ
own_of id class parts type u = behind (lift (pointer id class type parts) u) (load_of type)

abbrev whole_of : List StructType → Ty → ℕ → ℕ → List Part → ℕ → ℕ → Emit ℕ
whole_of structs t id class parts h type = lift (read_whole id class parts h type (leaves_of structs t))

abbrev block_of : List StructType → Ty → ℕ → ℕ → List Part → ℕ → Emit ℕ
block_of structs t id class parts h u = behind (type_id t u) (whole_of structs t id class parts h)

load_stays : (type from : ℕ) (u : Flow) → EmitStays u (load_of type from u)
unfolding form_of
load_stays type from u = lift_stays u (giving op.LOAD (from ∷ []) type u.sections) (giving_sorts op.LOAD (from ∷ []) type u.sections (λ id. refl))

own_stays : (id class : ℕ) (parts : List Part) (type : ℕ) (u : Flow) → EmitStays u (own_of id class parts type u)
own_stays id class parts type u = emit_then u (lift (pointer id class type parts) u) (load_of type) (lift_stays u (pointer id class type parts u.sections) (pointer_sorts id class type parts u.sections)) (λ from v. load_stays type from v)

whole_stays : (structs : List StructType) (t : Ty) (id class : ℕ) (parts : List Part) (h type : ℕ) (u : Flow) → EmitStays u (whole_of structs t id class parts h type u)
whole_stays structs t id class parts h type u = lift_stays u (read_whole id class parts h type (leaves_of structs t) u.sections) (read_whole_sorts id class parts h type (leaves_of structs t) u.sections)

block_stays : (structs : List StructType) (t : Ty) (id class : ℕ) (parts : List Part) (h : ℕ) (u : Flow) → EmitStays u (block_of structs t id class parts h u)
block_stays structs t id class parts h u = emit_then u (type_id t u) (whole_of structs t id class parts h) (type_stays t u) (λ type v. whole_stays structs t id class parts h type v)

pub reads_stay : (structs : List StructType) (t : Ty) (r : Reached) (u : Flow) → EmitStays u (reads structs t r u)
unfolding reads
reads_stay structs t r u = by (shape_of t)
  where
    variable : (id class : ℕ) (b : Bool) → EmitStays u ((cond b (read_block structs t id class r.path) (read_own t id class r.path)) u)
    variable id class true = emit_then u (holder u) (block_of structs t id class r.path) (holder_stays u) (λ h v. block_stays structs t id class r.path h v)
    variable id class false = emit_then u (type_id t u) (own_of id class r.path) (type_stays t u) (λ type v. own_stays id class r.path type v)

    composite : (base : Base) → EmitStays u (read_composite structs t base r.path u)
    composite (Variable id class) = variable id class (is_block_class class)
    composite (Value id of_whole) = emit_then u (type_id t u) (λ type. lift (extracted id type r.path)) (type_stays t u) (λ type v. lift_stays v (extracted id type r.path v.sections) (extracted_sorts id type r.path v.sections))

    by : (o : Option Shape) → EmitStays u (read_by structs t r o u)
    by (Some shape) = lift_stays u (read shape r u.sections) (read_sorts shape r u.sections)
    by None = composite r.base

module _ (whole : Sections) (main : ℕ) (local_size : List ℕ) (rank : ℕ → ℕ) (f : Frame) (sorted : AreSorted whole) where
  abbrev m : Module
  m = made whole main local_size rank f

  abbrev F : List ℕ → ℕ → List ℕ → ℕ → Flow → Lowered ℕ → Type 0
  F asks deep given type u lowered = Flows whole main local_size rank f asks deep false given (GivesOf whole main local_size rank f type) u lowered

  abbrev Is : List ℕ → Spot → Reached → Type 0
  Is given spot r = IsReached whole main local_size rank f given spot r

  -- ---- types of arrays and structs

  pub type_known : (given : List ℕ) (type : ℕ) (at : Sections) → Extends at whole → IsValueType at type → is_known m f given type ≡ true
  type_known given type at inside held =
      let h = held_later at whole type inside held in
      outside_known whole main local_size sorted f given type (global_outside whole main local_size sorted h.i type h.stands h.named)

  -- ---- in variables that are in no block

  pub way_of : (given : List ℕ) (may : May) (class id : ℕ) (parts : List Part) (type room : ℕ) → IsWithin whole main local_size rank f given may class id parts type room → IsWay m class id parts
  way_of given may class id parts type room l =
      record { few = let few = l.few in let z : length parts ≤ most_indexes = omega (arith, few) in z; begins = way_begins whole main local_size rank f sorted class id parts (l.base, l.classed) }

  own_flows : (deep : ℕ) (given : List ℕ) (may : May) (class id : ℕ) (parts : List Part) (type room : ℕ) (u : Flow) → may.reads ≡ true → IsWithin whole main local_size rank f given may class id parts type room → IsValueType u.sections type → Moves whole main local_size rank f (Some class) type
      → F [] deep given type u (own_of id class parts type u)
  unfolding form_of
  own_flows deep given may class id parts type room u reading l held moves =
      flows_then whole main local_size rank f [] [] deep false false given (λ to now after. IsLed whole main local_size rank f now class id l.pointee parts type to) (GivesOf whole main local_size rank f type) u (lift (pointer id class type parts) u) (load_of type)
      (lift_stays u (pointer id class type parts u.sections) (pointer_sorts id class type parts u.sections))
      (lift_flows whole main local_size rank f deep given (λ to now after. IsLed whole main local_size rank f now class id l.pointee parts type to) u (pointer id class type parts u.sections)
      (pointer_comes whole main local_size rank f sorted given class id l.pointee type parts u.sections l.leads (way_of given may class id parts type room l) held)) (λ from v. load_stays type from v)
      (λ from v now led wider stays inside. lift_flows whole main local_size rank f deep now (λ id now after. IsOf whole main local_size rank f now type id) v (giving op.LOAD (from ∷ []) type v.sections)
      (giving_made whole main local_size rank f sorted now op.LOAD (from ∷ []) type (λ id now after. IsOf whole main local_size rank f now type id) v.sections
      (λ start. load_stands whole main local_size rank f sorted now class type from refl led.pointer (type_known now type u.sections (extends_then stays.sections.extends start) held) moves.1 (led.marked decoration.NON_READABLE ∙ l.readable reading))
      (λ to after start inside is known. record { typed = ap type_of is; known = known })))

  -- ---- in values

  value_comes : (given : List ℕ) (id of_whole : ℕ) (parts : List Part) (type room : ℕ) (before : Sections) → IsInside whole main local_size rank f given id of_whole parts type room → IsValueType before type
      → Comes whole main local_size rank f given (λ id now after. IsOf whole main local_size rank f now type id) before (extracted id type parts before)
  unfolding extracted form_of
  value_comes given id of_whole [] type room before l held = given_comes whole main local_size rank f given (λ id now after. IsOf whole main local_size rank f now type id) id before (λ inside. record { typed = l.typed ∙ l.within; known = l.known })
  value_comes given id of_whole (part ∷ parts) type room before l held =
      giving_made whole main local_size rank f sorted given op.COMPOSITE_EXTRACT (id ∷ map number_in (part ∷ parts)) type (λ id now after. IsOf whole main local_size rank f now type id) before
      (λ start. extract_stands whole main local_size rank f sorted given type id of_whole (map number_in (part ∷ parts)) refl (type_known given type before start held) l.known l.typed l.within
      (let few = l.few in let e = length-map (part ∷ parts) number_in in let z : length (map number_in (part ∷ parts)) ≤ most_indexes = omega (arith, few, e) in z))
      (λ to after start inside is known. record { typed = ap type_of is; known = known })

  -- ---- behind the type

  pub type_then : {B : Type 0} (deep : ℕ) (given : List ℕ) (t : Ty) (type : ℕ) (Then : B → List ℕ → Flow → Type 0) (u : Flow) (next : ℕ → Emit B) → IsTypeFor whole main local_size rank f u.place t type → ((id : ℕ) (v : Flow) → EmitStays v (next id v))
      → ((v : Flow) (now : List ℕ) → Widens given now → IsLater u v → Extends v.sections whole → Flows whole main local_size rank f [] deep false now Then v (next type v)) → Flows whole main local_size rank f [] deep false given Then u (behind (type_id t u) next)
  type_then deep given t type Then u next same sorts later =
      flows_then whole main local_size rank f [] [] deep false false given (λ id now after. (id ≡ type) × Widens given now) Then u (type_id t u) next (type_stays t u)
      (flows_so whole main local_size rank f [] deep false given (λ id now after. id ≡ type) (λ id now after. (id ≡ type) × Widens given now) u (type_id t u) (λ id now after inside wider is. (is, wider refl)) (type_flows whole main local_size rank f sorted deep given t type u same)) sorts
      (λ id v now is wider stays inside. subst (λ z. Flows whole main local_size rank f [] deep false now Then v (next z v)) (sym is.0) (later v now is.1 (later_of stays) inside))

  pub within_later : (given now : List ℕ) (may : May) (class id : ℕ) (parts : List Part) (type room : ℕ) → Widens given now → IsWithin whole main local_size rank f given may class id parts type room → IsWithin whole main local_size rank f now may class id parts type room
  within_later given now may class id parts type room wider l = record {
    pointee = l.pointee;
    leads = leads_later whole main local_size rank f sorted given now class id l.pointee parts type wider l.leads;
    known = l.known;
    base = l.base;
    classed = l.classed;
    few = l.few;
    readable = l.readable;
    changes = l.changes;
  }

  pub inside_later : (given now : List ℕ) (id of_whole : ℕ) (parts : List Part) (type room : ℕ) → Widens given now → IsInside whole main local_size rank f given id of_whole parts type room → IsInside whole main local_size rank f now id of_whole parts type room
  inside_later given now id of_whole parts type room wider l = record {
    typed = l.typed;
    known = known_wider whole main local_size sorted f given now id wider l.known;
    indexes = all_later whole main local_size rank f sorted given now parts wider l.indexes;
    within = l.within;
    few = l.few;
  }

  -- ---- arrays and structs

  pub class_is : (home : Option ℕ) (class id own : ℕ) → home ≡ Some class → IsIn home (Variable id own) → own ≡ class
  class_is home class id own e there = subst (λ h. IsIn h (Variable id own)) e there

  composite_flows : (s : Flow) (deep : ℕ) (given : List ℕ) (structs : List StructType) (t : Ty) (spot : Spot) (base : Base) (parts : List Part) (u : Flow) → IsLater s u → IsComposite whole main local_size rank f s t spot.type → Moves whole main local_size rank f spot.home spot.type → spot.may.reads ≡ true → IsIn spot.home base
      → LeadsTo whole main local_size rank f given spot.may base parts spot.type spot.room → F [] deep given spot.type u (read_composite structs t base parts u)
  composite_flows s deep given structs t spot (Variable id class) parts u here is moves reading there l =
      subst (λ b. F [] deep given spot.type u ((cond b (read_block structs t id class parts) (read_own t id class parts)) u)) (sym (own spot.home moves there).0)
      (type_then deep given t spot.type (GivesOf whole main local_size rank f spot.type) u (own_of id class parts) (type_on whole main local_size rank f sorted s u t spot.type here is.same) (λ type v. own_stays id class parts type v)
      (λ v now wider later inside. own_flows deep now spot.may class id parts spot.type spot.room v reading (within_later given now spot.may class id parts spot.type spot.room wider l)
      (held_later s.sections v.sections spot.type (extends_then here.sections later.sections) is.declared) (own spot.home moves there)))
    where
      own : (home : Option ℕ) → Moves whole main local_size rank f home spot.type → IsIn home (Variable id class) → Moves whole main local_size rank f (Some class) spot.type
      own (Some other) moves there = subst (λ c. Moves whole main local_size rank f (Some c) spot.type) (sym there) moves
      own None moves there = absurd there
  composite_flows s deep given structs t spot (Value id of_whole) parts u here is moves reading there l =
      type_then deep given t spot.type (GivesOf whole main local_size rank f spot.type) u (λ type. lift (extracted id type parts)) (type_on whole main local_size rank f sorted s u t spot.type here is.same) (λ type v. lift_stays v (extracted id type parts v.sections) (extracted_sorts id type parts v.sections))
      (λ v now wider later inside. lift_flows whole main local_size rank f deep now (λ id now after. IsOf whole main local_size rank f now spot.type id) v (extracted id spot.type parts v.sections)
      (value_comes now id of_whole parts spot.type spot.room v.sections (inside_later given now id of_whole parts spot.type spot.room wider l) (held_later s.sections v.sections spot.type (extends_then here.sections later.sections) is.declared)))

  -- ---- blocks

  copy_flows : (deep : ℕ) (given : List ℕ) (structs : List StructType) (t : Ty) (spot : Spot) (class id type : ℕ) (parts : List Part) (h : ℕ) (u : Flow) → is_class m.version storage_class.FUNCTION ≡ true → spot.may.reads ≡ true → IsWithin whole main local_size rank f given spot.may class id parts spot.type spot.room
      → IsHolder whole main local_size rank f type h → AllByRecursion (HasLeaf whole main local_size rank f class spot.may spot.type spot.room) (leaves_of structs t) → AllByRecursion (HasLeaf whole main local_size rank f storage_class.FUNCTION both type spot.room) (leaves_of structs t)
      → F [] deep given type u (whole_of structs t id class parts h type u)
  copy_flows deep given structs t spot class id type parts h u classed reading l holder from to =
      lift_flows whole main local_size rank f deep given (λ id now after. IsOf whole main local_size rank f now type id) u (read_whole id class parts h type (leaves_of structs t) u.sections)
      (read_whole_comes whole main local_size rank f sorted given class id parts h type (leaves_of structs t) u.sections
      (leaves_block whole main local_size rank f sorted given spot.may class id parts spot.type type spot.room h (leaves_of structs t) reading l
      (holder_within whole main local_size rank f sorted given type spot.room h classed (let few = l.few in let z : spot.room < most_indexes = omega (arith, few) in z) holder) from to) holder)

  block_flows : (s : Flow) (deep : ℕ) (given : List ℕ) (structs : List StructType) (t : Ty) (spot : Spot) (class id type : ℕ) (parts : List Part) (u : Flow) → is_class m.version storage_class.FUNCTION ≡ true → IsLater s u → IsComposite whole main local_size rank f s t type → spot.may.reads ≡ true
      → IsWithin whole main local_size rank f given spot.may class id parts spot.type spot.room → AllByRecursion (HasLeaf whole main local_size rank f class spot.may spot.type spot.room) (leaves_of structs t)
      → AllByRecursion (HasLeaf whole main local_size rank f storage_class.FUNCTION both type spot.room) (leaves_of structs t) → F (type ∷ []) deep given type u (read_block structs t id class parts u)
  block_flows s deep given structs t spot class id type parts u classed here is reading l from to =
      flows_then whole main local_size rank f (type ∷ []) [] deep false false given (λ h now after. IsHolder whole main local_size rank f type h × Widens given now) (GivesOf whole main local_size rank f type) u (holder u) (block_of structs t id class parts) (holder_stays u)
      (holder_flows whole main local_size rank f sorted deep given type u) (λ h v. block_stays structs t id class parts h v)
      (λ h v now holder wider stays inside. type_then deep now t type (GivesOf whole main local_size rank f type) v (whole_of structs t id class parts h) (type_on whole main local_size rank f sorted s v t type (later_then s u v here (later_of stays)) is.same) (λ type w. whole_stays structs t id class parts h type w)
      (λ w then more later end. copy_flows deep then structs t spot class id type parts h w classed reading (within_later given then spot.may class id parts spot.type spot.room (λ id k. more id (holder.1 id k)) l) holder.0 from to))

  -- ---- any value

  pub reads_flow : (s : Flow) (deep : ℕ) (given : List ℕ) (structs : List StructType) (t : Ty) (spot : Spot) (type : ℕ) (asks : List ℕ) (r : Reached) (u : Flow) → is_class m.version storage_class.FUNCTION ≡ true → IsLater s u → IsGot whole main local_size rank f s structs t spot type asks → spot.may.reads ≡ true
      → Is given spot r → F asks deep given type u (reads structs t r u)
  unfolding reads
  reads_flow s deep given structs t spot type _ r u classed here (IsGot.in_shape {shape} shaped plain of) reading is =
      subst (λ o. F [] deep given type u (read_by structs t r o u)) (sym shaped)
      (step_flows whole main local_size rank f sorted deep given shape type (read shape r) u of (read_fits whole main local_size rank f sorted given shape r u.sections (may_read whole main local_size rank f sorted given spot shape r plain is reading)))
  reads_flow s deep given structs t spot type _ r u classed here (IsGot.as_it_is composite none same moves) reading is =
      subst (λ z. F [] deep given z u (read_by structs t r (shape_of t) u)) same
      (subst (λ o. F [] deep given spot.type u (read_by structs t r o u)) (sym composite.composite)
      (composite_flows s deep given structs t spot r.base r.path u here (subst (IsComposite whole main local_size rank f s t) (sym same) composite) (subst (Moves whole main local_size rank f spot.home) (sym same) moves) reading is.at_home is.leads))
  reads_flow s deep given structs t spot type _ r u classed here (IsGot.by_leaves {class} composite none home blocked from to) reading is =
      subst (λ o. F (type ∷ []) deep given type u (read_by structs t r o u)) (sym composite.composite) (by r.base is.at_home is.leads)
    where
      by : (base : Base) → IsIn spot.home base → LeadsTo whole main local_size rank f given spot.may base r.path spot.type spot.room → F (type ∷ []) deep given type u (read_composite structs t base r.path u)
      by (Variable id own) there l =
          let same = class_is spot.home class id own home there in
          subst (λ b. F (type ∷ []) deep given type u ((cond b (read_block structs t id own r.path) (read_own t id own r.path)) u)) (sym (ap is_block_class same ∙ blocked))
          (block_flows s deep given structs t spot own id type r.path u classed here composite reading l (subst (λ c. AllByRecursion (HasLeaf whole main local_size rank f c spot.may spot.type spot.room) (leaves_of structs t)) (sym same) from) to)
      by (Value id of_whole) there l = absurd (subst (λ h. IsIn h (Value id of_whole)) home there)

  pub access_evaluates : (s : Flow) (asks more : List ℕ) (deep : ℕ) (splits : Bool) (structs : List StructType) (t : Ty) (spot : Spot) (type : ℕ) (reach : Emit Reached) → is_class m.version storage_class.FUNCTION ≡ true → IsGot whole main local_size rank f s structs t spot type more → spot.may.reads ≡ true
      → Reaches whole main local_size rank f s asks deep splits spot reach → Evaluates whole main local_size rank f s (asks ++ more) deep (splits || false) type (accessed structs t reach)
  access_evaluates s asks more deep splits structs t spot type reach classed got reading y =
      yields_then whole main local_size rank f s asks more deep splits false (λ r now after. Is now spot r) (GivesOf whole main local_size rank f type) reach (reads structs t) y (λ r u. reads_stay structs t r u)
      (λ r u now is here inside. reads_flow s deep now structs t spot type more r u classed here got reading is)
