-- What was reached waits in holders.
use Rattle.std.proofs.Common.{◌≡◌, ℕ, Bool, true, false, List, [], ◌∷◌, ◌++◌, Option, Some, None, refl, sym, ap, ◌∙◌, subst, append_assoc}
use Rattle.std.specs.List.{AllByRecursion}
use Rattle.std.specs.Option.{unwrap_or}
use Rattle.gsl_types.specs.declared.ty.Scalar.{Scalar}
use Rattle.gsl_tree.specs.Shapes.{Shape}
use Rattle.gsl_words.specs.declared.module.Module.{Module}
use Rattle.gsl_spv.specs.Sections.{Sections}
use Rattle.gsl_lower_places.specs.declared.reached.Base.{Base}
use Rattle.gsl_lower_places.specs.declared.reached.Base.TheVariants.{Value, Variable}
use Rattle.gsl_lower_places.specs.declared.reached.Part.{Part}
use Rattle.gsl_lower_places.specs.declared.reached.Part.TheVariants.{By, Fixed}
use Rattle.gsl_lower_places.specs.declared.reached.Picked.{Picked}
use Rattle.gsl_lower_places.specs.declared.reached.Reached.{Reached}
use Rattle.gsl_lower_holders.specs.Flow.{Emit, Flow, Lowered, behind, each, given as give}
use Rattle.gsl_lower_holders.specs.Waiting.{hold_reached, in_picked, keep, keep_base, keep_part, picked_by}
use Rattle.gsl_fitting.specs.Fits.{Frame}
use Rattle.gsl_fitting_types.specs.Making.{AreSorted, IsTypeOf, made}
use Rattle.gsl_fitting_places.specs.Leading.{IsIndex}
use Rattle.gsl_fitting_places.specs.Places.{IsChoice}
use Rattle.gsl_fitting_places.proofs.Chains.{all_later}
use Rattle.gsl_fitting_places.proofs.Parting.{choice_later}
use Rattle.gsl_fitting_flow.specs.Flowing.{EmitStays, Flows, IsHolder, IsOf, Widens}
use Rattle.gsl_fitting_flow.proofs.Following.{emit_then, flow_same, flows_so, flows_then, given_flows}
use Rattle.gsl_fitting_flow.proofs.Holding.{keep_flows, keep_stays}
use Rattle.gsl_fitting_expr.proofs.Yielding.{flows_map, stays_map}
use Rattle.gsl_fitting_reaching.specs.Reached.{IsChosen, IsPickedBy, IsReached, IsThere, LeadsTo, May, Spot, asked_base, asked_by, asked_of, asked_part, asked_parts, scalar_id}
use Rattle.gsl_fitting_reads.specs.Waiting.{BaseWaits, ChoiceWaits, IsKept, PartWaits, PartsWait, PickedWaits, StaysReached, held_if}

-- ---- parts of it

abbrev parts_of : List Part → Part → Emit (List Part)
parts_of parts p s = behind (each keep_part parts s) (λ others. give (p ∷ others))

abbrev whole_of : Base → List Part → Option Picked → Emit Reached
whole_of base path picked = give (record { base = base; path = path; picked = picked })

abbrev picked_of : Option Picked → Base → List Part → Emit Reached
picked_of picked base path s = behind (in_picked keep_part picked s) (whole_of base path)

abbrev path_of : List Part → Option Picked → Base → Emit Reached
path_of parts picked base s = behind (each keep_part parts s) (picked_of picked base)

-- ---- what stays

base_stays : (base : Base) (u : Flow) → EmitStays u (keep_base base u)
base_stays (Variable id class) u = flow_same u
base_stays (Value id type) u = stays_map u (keep id u) (λ h. Value h type) (keep_stays id u)

part_stays : (part : Part) (u : Flow) → EmitStays u (keep_part part u)
part_stays (Fixed number) u = flow_same u
part_stays (By s id) u = stays_map u (keep id u) (λ h. By s h) (keep_stays id u)

parts_stay : (parts : List Part) (u : Flow) → EmitStays u (each keep_part parts u)
unfolding each
parts_stay [] u = flow_same u
parts_stay (part ∷ parts) u = emit_then u (keep_part part u) (parts_of parts) (part_stays part u) (λ p v. stays_map v (each keep_part parts v) (λ others. p ∷ others) (parts_stay parts v))

by_stays : (part : Part) (u : Flow) → EmitStays u (picked_by keep_part (Some part) u)
by_stays part u = stays_map u (keep_part part u) (λ one. Some one) (part_stays part u)

picked_stays : (picked : Option Picked) (u : Flow) → EmitStays u (in_picked keep_part picked u)
picked_stays None u = flow_same u
picked_stays (Some p) u = by p.by
  where
    by : (choice : Option Part) → EmitStays u (behind (picked_by keep_part choice u) (λ by. give (Some (record p { by = by }))))
    by None = flow_same u
    by (Some part) = stays_map u (picked_by keep_part (Some part) u) (λ by. Some (record p { by = by })) (by_stays part u)

reached_stays : (r : Reached) (u : Flow) → EmitStays u (hold_reached true r u)
unfolding hold_reached
reached_stays r u =
    emit_then u (keep_base r.base u) (path_of r.path r.picked) (base_stays r.base u)
    (λ base v. emit_then v (each keep_part r.path v) (picked_of r.picked base) (parts_stay r.path v) (λ path w. stays_map w (in_picked keep_part r.picked w) (λ picked. record { base = base; path = path; picked = picked }) (picked_stays r.picked w)))

pub hold_reached_stays : (b : Bool) (r : Reached) (u : Flow) → EmitStays u (hold_reached b r u)
unfolding hold_reached
hold_reached_stays false r u = flow_same u
hold_reached_stays true r u = reached_stays r u

module _ (whole : Sections) (main : ℕ) (local_size : List ℕ) (rank : ℕ → ℕ) (f : Frame) (sorted : AreSorted whole) where
  abbrev m : Module
  m = made whole main local_size rank f

  abbrev F : {A : Type 0} → List ℕ → ℕ → List ℕ → (A → List ℕ → Flow → Type 0) → Flow → Lowered A → Type 0
  F asks deep given Is u lowered = Flows whole main local_size rank f asks deep false given Is u lowered

  -- ---- what ids are

  abbrev pub BaseServes : List ℕ → Base → Type 0
  BaseServes given (Variable id class) = Unit {0}
  BaseServes given (Value id type) = IsOf whole main local_size rank f given type id

  abbrev pub PickedServes : List ℕ → Option Picked → Type 0
  PickedServes given None = Unit {0}
  PickedServes given (Some p) = IsChoice whole main local_size rank f given p.by

  pub base_serves : (given : List ℕ) (may : May) (base : Base) (parts : List Part) (type room : ℕ) → LeadsTo whole main local_size rank f given may base parts type room → BaseServes given base
  base_serves given may (Variable id class) parts type room l = tt
  base_serves given may (Value id of_whole) parts type room l = record { typed = l.typed; known = l.known }

  pub parts_serve : (given : List ℕ) (may : May) (base : Base) (parts : List Part) (type room : ℕ) → LeadsTo whole main local_size rank f given may base parts type room → AllByRecursion (IsIndex whole main local_size rank f given) parts
  parts_serve given may (Variable id class) parts type room l = l.leads.indexes
  parts_serve given may (Value id of_whole) parts type room l = l.indexes

  pub picked_serves : (given : List ℕ) (home : Option ℕ) (may : May) (shape : Option Shape) (type : ℕ) (picked : Option Picked) → IsThere whole main local_size rank f given home may shape type picked → PickedServes given picked
  picked_serves given home may shape type None is = tt
  picked_serves given home may None type (Some p) is = absurd cc
  picked_serves given home may (Some shape) type (Some p) is = is.is.by

  picked_wider : (given now : List ℕ) (picked : Option Picked) → Widens given now → PickedServes given picked → PickedServes now picked
  picked_wider given now None wider serves = tt
  picked_wider given now (Some p) wider serves = choice_later whole main local_size rank f sorted given now p.by wider serves

  pub scalar_is : (s : Scalar) (type : ℕ) → IsTypeOf whole (s, 1) type → scalar_id whole s ≡ type
  scalar_is s type of = ap (λ o. unwrap_or o 0) of

  -- ---- in holders

  base_held : (deep : ℕ) (given : List ℕ) (base : Base) (u : Flow) → BaseServes given base → F (asked_base whole base) deep given (λ other now after. BaseWaits whole main local_size rank f base other) u (keep_base base u)
  base_held deep given (Variable id class) u serves = given_flows whole main local_size rank f deep given (λ other now after. BaseWaits whole main local_size rank f (Variable id class) other) (Variable id class) u (λ inside. BaseWaits.in_variable)
  base_held deep given (Value id type) u serves =
      flows_map whole main local_size rank f (type ∷ []) deep false given (λ h now after. IsHolder whole main local_size rank f type h) (λ other now after. BaseWaits whole main local_size rank f (Value id type) other) u (keep id u) (λ h. Value h type) (λ h now after inside wider is. BaseWaits.in_value is)
      (keep_flows whole main local_size rank f sorted deep given type id u serves)

  part_held : (deep : ℕ) (given : List ℕ) (part : Part) (u : Flow) → IsIndex whole main local_size rank f given part → F (asked_part whole part) deep given (λ other now after. PartWaits whole main local_size rank f part other × Widens given now) u (keep_part part u)
  part_held deep given (Fixed number) u index =
      given_flows whole main local_size rank f deep given (λ other now after. PartWaits whole main local_size rank f (Fixed number) other × Widens given now) (Fixed number) u (λ inside. (PartWaits.by_number, λ id h. h))
  part_held deep given (By s id) u index =
      let same = scalar_is s index.1.type index.1.of in
      flows_map whole main local_size rank f (scalar_id whole s ∷ []) deep false given (λ h now after. IsHolder whole main local_size rank f (scalar_id whole s) h) (λ other now after. PartWaits whole main local_size rank f (By s id) other × Widens given now) u (keep id u) (λ h. By s h)
      (λ h now after inside wider is. (PartWaits.by_word index.0 (subst (IsTypeOf whole (s, 1)) (sym same) index.1.of) is, wider refl))
      (keep_flows whole main local_size rank f sorted deep given (scalar_id whole s) id u (record { typed = index.1.typed ∙ ap Some (sym same); known = index.1.known }))

  parts_held : (deep : ℕ) (given : List ℕ) (parts : List Part) (u : Flow) → AllByRecursion (IsIndex whole main local_size rank f given) parts
      → F (asked_parts whole parts) deep given (λ others now after. PartsWait whole main local_size rank f parts others × Widens given now) u (each keep_part parts u)
  unfolding each
  parts_held deep given [] u all = given_flows whole main local_size rank f deep given (λ others now after. PartsWait whole main local_size rank f [] others × Widens given now) [] u (λ inside. (PartsWait.no_parts, λ id h. h))
  parts_held deep given (part ∷ parts) u all =
      flows_then whole main local_size rank f (asked_part whole part) (asked_parts whole parts) deep false false given (λ other now after. PartWaits whole main local_size rank f part other × Widens given now)
      (λ others now after. PartsWait whole main local_size rank f (part ∷ parts) others × Widens given now) u (keep_part part u) (parts_of parts) (part_stays part u) (part_held deep given part u all.0)
      (λ p v. stays_map v (each keep_part parts v) (λ others. p ∷ others) (parts_stay parts v))
      (λ p v now is wider stays inside. flows_map whole main local_size rank f (asked_parts whole parts) deep false now (λ others now_ after. PartsWait whole main local_size rank f parts others × Widens now now_)
      (λ others now after. PartsWait whole main local_size rank f (part ∷ parts) others × Widens given now) v (each keep_part parts v) (λ others. p ∷ others) (λ others then end inside later more. (PartsWait.more_parts is.0 more.0, λ id h. more.1 id (is.1 id h)))
      (parts_held deep now parts v (all_later whole main local_size rank f sorted given now parts is.1 all.1)))

  choice_held : (deep : ℕ) (given : List ℕ) (by : Option Scalar) (choice : Option Part) (u : Flow) → IsChosen by choice → IsChoice whole main local_size rank f given choice
      → F (asked_by whole (Some by)) deep given (λ other now after. ChoiceWaits whole main local_size rank f choice other) u (picked_by keep_part choice u)
  choice_held deep given None None u chosen is = given_flows whole main local_size rank f deep given (λ other now after. ChoiceWaits whole main local_size rank f None other) None u (λ inside. ChoiceWaits.by_positions)
  choice_held deep given None (Some part) u chosen is = absurd chosen
  choice_held deep given (Some s) None u chosen is = absurd chosen
  choice_held deep given (Some s) (Some (Fixed number)) u chosen is = absurd chosen
  choice_held deep given (Some s) (Some (By other id)) u chosen is =
      subst (λ z. F (scalar_id whole z ∷ []) deep given (λ choice now after. ChoiceWaits whole main local_size rank f (Some (By other id)) choice) u (picked_by keep_part (Some (By other id)) u)) chosen
      (flows_map whole main local_size rank f (asked_part whole (By other id)) deep false given (λ kept now after. PartWaits whole main local_size rank f (By other id) kept × Widens given now) (λ choice now after. ChoiceWaits whole main local_size rank f (Some (By other id)) choice) u (keep_part (By other id) u)
      (λ one. Some one) (λ one now after inside wider is. ChoiceWaits.by_part is.0) (part_held deep given (By other id) u is))

  picked_held : (deep : ℕ) (given : List ℕ) (by : Option (Option Scalar)) (picked : Option Picked) (u : Flow) → IsPickedBy by picked → PickedServes given picked → F (asked_by whole by) deep given (λ other now after. PickedWaits whole main local_size rank f picked other) u (in_picked keep_part picked u)
  picked_held deep given None None u chosen serves = given_flows whole main local_size rank f deep given (λ other now after. PickedWaits whole main local_size rank f None other) None u (λ inside. PickedWaits.unpicked)
  picked_held deep given None (Some p) u chosen serves = absurd chosen
  picked_held deep given (Some by) None u chosen serves = absurd chosen
  picked_held deep given (Some by) (Some p) u chosen serves =
      flows_map whole main local_size rank f (asked_by whole (Some by)) deep false given (λ choice now after. ChoiceWaits whole main local_size rank f p.by choice) (λ other now after. PickedWaits whole main local_size rank f (Some p) other) u (picked_by keep_part p.by u)
      (λ choice. Some (record p { by = choice })) (λ choice now after inside wider is. PickedWaits.some_picked is) (choice_held deep given by p.by u chosen serves)

  reached_held : (deep : ℕ) (given : List ℕ) (spot : Spot) (r : Reached) (u : Flow) → IsReached whole main local_size rank f given spot r
      → F (asked_base whole r.base ++ (asked_parts whole r.path ++ asked_by whole spot.picked)) deep given (λ kept now after. IsKept whole main local_size rank f spot kept) u (hold_reached true r u)
  unfolding hold_reached
  reached_held deep given spot r u is =
      flows_then whole main local_size rank f (asked_base whole r.base) (asked_parts whole r.path ++ asked_by whole spot.picked) deep false false given
      (λ base now after. BaseWaits whole main local_size rank f r.base base × Widens given now) (λ kept now after. IsKept whole main local_size rank f spot kept) u (keep_base r.base u) (path_of r.path r.picked)
      (base_stays r.base u)
      (flows_so whole main local_size rank f (asked_base whole r.base) deep false given (λ base now after. BaseWaits whole main local_size rank f r.base base) (λ base now after. BaseWaits whole main local_size rank f r.base base × Widens given now) u (keep_base r.base u) (λ base now after inside wider waits. (waits, wider refl))
      (base_held deep given r.base u (base_serves given spot.may r.base r.path spot.type spot.room is.leads)))
      (λ base v. emit_then v (each keep_part r.path v) (picked_of r.picked base) (parts_stay r.path v)
      (λ path w. stays_map w (in_picked keep_part r.picked w) (λ picked. record { base = base; path = path; picked = picked }) (picked_stays r.picked w)))
      (λ base v now waits wider stays inside. flows_then whole main local_size rank f (asked_parts whole r.path) (asked_by whole spot.picked) deep false false now (λ path now_ after. PartsWait whole main local_size rank f r.path path × Widens now now_)
      (λ kept now after. IsKept whole main local_size rank f spot kept) v (each keep_part r.path v) (picked_of r.picked base) (parts_stay r.path v)
      (parts_held deep now r.path v (all_later whole main local_size rank f sorted given now r.path waits.1 (parts_serve given spot.may r.base r.path spot.type spot.room is.leads)))
      (λ path w. stays_map w (in_picked keep_part r.picked w) (λ picked. record { base = base; path = path; picked = picked }) (picked_stays r.picked w))
      (λ path w then more wider stays inside. flows_map whole main local_size rank f (asked_by whole spot.picked) deep false then (λ picked now after. PickedWaits whole main local_size rank f r.picked picked) (λ kept now after. IsKept whole main local_size rank f spot kept) w (in_picked keep_part r.picked w)
      (λ picked. record { base = base; path = path; picked = picked }) (λ picked end after inside later last. record { given = given; reached = r; is = is; base = waits.0; path = more.0; picked = last })
      (picked_held deep then spot.picked r.picked w is.chosen
      (picked_wider given then r.picked (λ id h. more.1 id (waits.1 id h)) (picked_serves given spot.home spot.may spot.shape spot.type r.picked is.is)))))

  pub hold_reached_flows : (b : Bool) (deep : ℕ) (given : List ℕ) (spot : Spot) (r : Reached) (u : Flow) → IsReached whole main local_size rank f given spot r
      → F (held_if b (asked_of whole spot)) deep given (λ kept now after. StaysReached whole main local_size rank f b now spot kept) u (hold_reached b r u)
  unfolding hold_reached
  hold_reached_flows false deep given spot r u is = given_flows whole main local_size rank f deep given (λ kept now after. IsReached whole main local_size rank f now spot kept) r u (λ inside. is)
  hold_reached_flows true deep given spot r u is =
      subst (λ l. F l deep given (λ kept now after. IsKept whole main local_size rank f spot kept) u (hold_reached true r u))
      (sym (append_assoc (asked_base whole r.base) (asked_parts whole r.path) (asked_by whole spot.picked)) ∙ ap (λ l. l ++ asked_by whole spot.picked) is.asked) (reached_held deep given spot r u is)
