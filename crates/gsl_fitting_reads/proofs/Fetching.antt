-- What was reached is there again, from the holders in which its ids waited.
use Rattle.std.proofs.Common.{◌≡◌, ℕ, ◌+◌, ◌<◌, Bool, true, false, ◌||◌, ◌&&◌, cond, not, List, [], ◌∷◌, ◌++◌, length, map, Option, Some, None, refl, sym, ap, ◌∙◌, subst, suc}
use Rattle.std.specs.Prelude.{◌==◌}
use Rattle.std.specs.List.{AllByRecursion, list_any}
use Rattle.gsl_instr.specs.declared.enumerant.storage_class.TheConstants as storage_class
use Rattle.gsl_instr.specs.declared.enumerant.decoration.TheConstants as decoration
use Rattle.gsl_types.specs.declared.ty.Scalar.{Scalar}
use Rattle.gsl_tree.specs.Shapes.{Shape}
use Rattle.gsl_words.specs.declared.module.Module.{Module}
use Rattle.gsl_valid.specs.Kinds.{shape_of}
use Rattle.gsl_valid.specs.LimitRules.{most_indexes}
use Rattle.gsl_valid.specs.MemoryRules.{marks, part_by}
use Rattle.gsl_valid.specs.OperandRules.{part_within}
use Rattle.gsl_valid.specs.Types.{defined_as}
use Rattle.gsl_spv.specs.Sections.{Sections}
use Rattle.gsl_lower_values.specs.Types as types
use Rattle.gsl_lower_places.specs.Reading.{number_in}
use Rattle.gsl_lower_places.specs.declared.reached.Base.{Base}
use Rattle.gsl_lower_places.specs.declared.reached.Base.TheVariants.{Value, Variable}
use Rattle.gsl_lower_places.specs.declared.reached.Part.{Part}
use Rattle.gsl_lower_places.specs.declared.reached.Part.TheVariants.{By, Fixed}
use Rattle.gsl_lower_places.specs.declared.reached.Picked.{Picked}
use Rattle.gsl_lower_places.specs.declared.reached.Reached.{Reached}
use Rattle.gsl_lower_holders.specs.Flow.{Emit, Flow, Lowered, behind, each, given as give, lift}
use Rattle.gsl_lower_holders.specs.Waiting.{fetch_reached, in_picked, picked_by, take_back, take_base, take_part}
use Rattle.gsl_fitting.specs.Fits.{Frame}
use Rattle.gsl_fitting_types.specs.Making.{AreSorted, IsScalarType, IsTypeOf, made}
use Rattle.gsl_fitting_types.proofs.Knowing.{type_later}
use Rattle.gsl_fitting_types.proofs.Types.{scalar_type_comes, scalar_type_sorts}
use Rattle.gsl_fitting_places.specs.Leading.{IsIndex, is_buffered, is_marked, led, led_by, marked_by, may_change, told_number}
use Rattle.gsl_fitting_places.specs.Places.{AreStored, AreWithin, IsChoice}
use Rattle.gsl_fitting_places.proofs.Chains.{all_later, index_later}
use Rattle.gsl_fitting_flow.specs.Flowing.{EmitStays, Flows, GivesOf, IsHolder, IsOf, Widens}
use Rattle.gsl_fitting_flow.proofs.Following.{emit_then, flow_same, flows_so, flows_then, given_flows, lift_flows, lift_stays}
use Rattle.gsl_fitting_flow.proofs.Holding.{of_later, take_flows, take_stays}
use Rattle.gsl_fitting_expr.proofs.Yielding.{flows_map, stays_map}
use Rattle.gsl_fitting_reaching.specs.Reached.{IsChosen, IsIn, IsPickedBy, IsReached, IsThere, LeadsTo, May, Spot, asked_base, asked_part, asked_parts, scalar_id}
use Rattle.gsl_fitting_reaching.proofs.Names.{known_everywhere}
use Rattle.gsl_fitting_reads.specs.Waiting.{BaseWaits, ChoiceWaits, PartWaits, PartsWait, PickedWaits, StaysReached}
use Rattle.gsl_fitting_reads.proofs.Holding.{BaseServes, PickedServes, scalar_is}

-- ---- the same but for ids

data PartAlike : Part → Part → Type 0 where
  same_number : {number : ℕ} → PartAlike (Fixed number) (Fixed number)
  same_scalar : {s : Scalar} {id other : ℕ} → PartAlike (By s id) (By s other)

data PartsAlike : List Part → List Part → Type 0 where
  no_parts : PartsAlike [] []
  more_parts : {part other : Part} {parts others : List Part} → PartAlike part other → PartsAlike parts others → PartsAlike (part ∷ parts) (other ∷ others)

data BaseAlike : Base → Base → Type 0 where
  same_variable : {id class : ℕ} → BaseAlike (Variable id class) (Variable id class)
  same_value : {id of_whole other : ℕ} → BaseAlike (Value id of_whole) (Value other of_whole)

data ChoiceAlike : Option Part → Option Part → Type 0 where
  no_choice : ChoiceAlike None None
  same_choice : {one other : Part} → PartAlike one other → ChoiceAlike (Some one) (Some other)

data PickedAlike : Option Picked → Option Picked → Type 0 where
  unpicked : PickedAlike None None
  same_picked : {p : Picked} {choice : Option Part} → ChoiceAlike p.by choice → PickedAlike (Some p) (Some (record p { by = choice }))

told_alike : {a b : Part} → PartAlike a b → told_number a ≡ told_number b
told_alike same_number = refl
told_alike same_scalar = refl

number_alike : {a b : Part} → PartAlike a b → number_in a ≡ number_in b
number_alike same_number = refl
number_alike same_scalar = refl

asked_alike : (whole : Sections) {a b : Part} → PartAlike a b → asked_part whole a ≡ asked_part whole b
asked_alike whole same_number = refl
asked_alike whole same_scalar = refl

numbers_alike : {a b : List Part} → PartsAlike a b → map number_in a ≡ map number_in b
numbers_alike no_parts = refl
numbers_alike (more_parts {part} {other} {parts} {others} h t) = ap (λ n. n ∷ map number_in parts) (number_alike h) ∙ ap (λ l. number_in other ∷ l) (numbers_alike t)

length_alike : {a b : List Part} → PartsAlike a b → length a ≡ length b
length_alike no_parts = refl
length_alike (more_parts h t) = ap suc (length_alike t)

all_asked_alike : (whole : Sections) {a b : List Part} → PartsAlike a b → asked_parts whole a ≡ asked_parts whole b
all_asked_alike whole no_parts = refl
all_asked_alike whole (more_parts {part} {other} {parts} {others} h t) = ap (λ l. l ++ asked_parts whole parts) (asked_alike whole h) ∙ ap (λ l. asked_part whole other ++ l) (all_asked_alike whole t)

led_alike : (m : Module) (o : Option ℕ) {a b : List Part} → PartsAlike a b → led m o a ≡ led m o b
led_alike m None h = refl
led_alike m (Some type) no_parts = refl
led_alike m (Some type) (more_parts {part} {other} {parts} {others} h t) = led_alike m (led_by m type part) t ∙ ap (λ n. led m (part_by true n (shape_of (defined_as m type))) others) (told_alike h)

marked_alike : (m : Module) (kind : ℕ) (o : Option ℕ) {a b : List Part} → PartsAlike a b → marked_by m kind o a ≡ marked_by m kind o b
marked_alike m kind None h = refl
marked_alike m kind (Some type) no_parts = refl
marked_alike m kind (Some type) (more_parts {part} {other} {parts} {others} h t) =
    ap (λ b. marks m kind (told_number part) (shape_of (defined_as m type)) || b) (marked_alike m kind (led_by m type part) t)
    ∙ ap (λ n. marks m kind n (shape_of (defined_as m type)) || marked_by m kind (part_by true n (shape_of (defined_as m type))) others) (told_alike h)

is_marked_alike : (m : Module) (kind id pointee : ℕ) {a b : List Part} → PartsAlike a b → is_marked m kind id pointee a ≡ is_marked m kind id pointee b
is_marked_alike m kind id pointee no_parts = refl
is_marked_alike m kind id pointee (more_parts h t) = marked_alike m kind (Some pointee) (more_parts h t)

buffered_alike : (m : Module) (id : ℕ) {a b : List Part} → PartsAlike a b → is_buffered m id a ≡ is_buffered m id b
buffered_alike m id no_parts = refl
buffered_alike m id (more_parts h t) = refl

change_alike : (m : Module) (class id pointee : ℕ) {a b : List Part} → PartsAlike a b → may_change m class id pointee a ≡ may_change m class id pointee b
change_alike m class id pointee {a} {b} h =
    ap (λ x. cond at (x && not (is_marked m decoration.NON_WRITABLE id pointee a)) there) (buffered_alike m id h) ∙ ap (λ x. cond at (is_buffered m id b && not x) there) (is_marked_alike m decoration.NON_WRITABLE id pointee h)
  where
    at : Bool
    at = class == storage_class.UNIFORM || class == storage_class.STORAGE_BUFFER

    there : Bool
    there = list_any (λ c. c == class) (storage_class.OUTPUT ∷ storage_class.PRIVATE ∷ storage_class.FUNCTION ∷ [])

-- ---- what stays

taken_part_stays : (part : Part) (u : Flow) → EmitStays u (take_part part u)
taken_part_stays (Fixed number) u = flow_same u
taken_part_stays (By s h) u = stays_map u (behind (lift (types.scalar_type s) u) (take_back h)) (λ id. By s id) (emit_then u (lift (types.scalar_type s) u) (take_back h) (lift_stays u (types.scalar_type s u.sections) (scalar_type_sorts s u.sections)) (λ type v. take_stays h type v))

abbrev parts_of : List Part → Part → Emit (List Part)
parts_of parts p s = behind (each take_part parts s) (λ others. give (p ∷ others))

taken_parts_stay : (parts : List Part) (u : Flow) → EmitStays u (each take_part parts u)
unfolding each
taken_parts_stay [] u = flow_same u
taken_parts_stay (part ∷ parts) u = emit_then u (take_part part u) (parts_of parts) (taken_part_stays part u) (λ p v. stays_map v (each take_part parts v) (λ others. p ∷ others) (taken_parts_stay parts v))

taken_picked_stays : (picked : Option Picked) (u : Flow) → EmitStays u (in_picked take_part picked u)
taken_picked_stays None u = flow_same u
taken_picked_stays (Some p) u = by p.by
  where
    by : (choice : Option Part) → EmitStays u (behind (picked_by take_part choice u) (λ by. give (Some (record p { by = by }))))
    by None = flow_same u
    by (Some part) = stays_map u (behind (take_part part u) (λ one. give (Some one))) (λ by. Some (record p { by = by })) (stays_map u (take_part part u) (λ one. Some one) (taken_part_stays part u))

taken_base_stays : (base : Base) (u : Flow) → EmitStays u (take_base base u)
taken_base_stays (Variable id class) u = flow_same u
taken_base_stays (Value h type) u = stays_map u (take_back h type u) (λ id. Value id type) (take_stays h type u)

abbrev whole_from : Base → List Part → Option Picked → Reached
whole_from base path picked = record { base = base; path = path; picked = picked }

abbrev picked_of : Option Picked → Base → List Part → Emit Reached
picked_of picked base path s = behind (in_picked take_part picked s) (λ picked. give (whole_from base path picked))

abbrev path_of : List Part → Option Picked → Base → Emit Reached
path_of parts picked base s = behind (each take_part parts s) (picked_of picked base)

path_stays : (parts : List Part) (picked : Option Picked) (base : Base) (u : Flow) → EmitStays u (path_of parts picked base u)
path_stays parts picked base u = emit_then u (each take_part parts u) (picked_of picked base) (taken_parts_stay parts u) (λ path v. stays_map v (in_picked take_part picked v) (λ picked. whole_from base path picked) (taken_picked_stays picked v))

pub fetch_reached_stays : (b : Bool) (r : Reached) (u : Flow) → EmitStays u (fetch_reached b r u)
unfolding fetch_reached
fetch_reached_stays false r u = flow_same u
fetch_reached_stays true r u = emit_then u (take_base r.base u) (path_of r.path r.picked) (taken_base_stays r.base u) (λ base v. path_stays r.path r.picked base v)

module _ (whole : Sections) (main : ℕ) (local_size : List ℕ) (rank : ℕ → ℕ) (f : Frame) (sorted : AreSorted whole) where
  abbrev m : Module
  m = made whole main local_size rank f

  abbrev F : {A : Type 0} → ℕ → List ℕ → (A → List ℕ → Flow → Type 0) → Flow → Lowered A → Type 0
  F deep given Is u lowered = Flows whole main local_size rank f [] deep false given Is u lowered

  abbrev Index : List ℕ → Part → Type 0
  Index given part = IsIndex whole main local_size rank f given part

  -- ---- it leads to the same by other ids

  leads_alike : (given now : List ℕ) (may : May) (a b : Base) (parts others : List Part) (type room : ℕ) → BaseAlike a b → PartsAlike parts others → BaseServes whole main local_size rank f sorted now b → AllByRecursion (Index now) others → LeadsTo whole main local_size rank f given may a parts type room
      → LeadsTo whole main local_size rank f now may b others type room
  leads_alike given now may _ _ parts others type room (BaseAlike.same_variable {id} {class}) alike serves all l = record {
    pointee = l.pointee;
    leads = record { pointer = record { leads = l.leads.pointer.leads; known = known_everywhere whole main local_size rank f sorted now id l.known }; indexes = all; leads = sym (led_alike m (Some l.pointee) alike) ∙ l.leads.leads };
    known = l.known;
    base = l.base;
    classed = l.classed;
    few = subst (λ n. n + room < most_indexes) (length_alike alike) l.few;
    readable = λ h. sym (is_marked_alike m decoration.NON_READABLE id l.pointee alike) ∙ l.readable h;
    changes = λ h. sym (change_alike m class id l.pointee alike) ∙ l.changes h;
  }
  leads_alike given now may _ _ parts others type room (BaseAlike.same_value {id} {of_whole} {other}) alike serves all l = record {
    typed = serves.typed;
    known = serves.known;
    indexes = all;
    within = subst (λ ns. part_within m (Some of_whole) ns ≡ Some type) (numbers_alike alike) l.within;
    few = subst (λ n. n + room < most_indexes) (length_alike alike) l.few;
  }

  in_alike : (home : Option ℕ) {a b : Base} → BaseAlike a b → IsIn home a → IsIn home b
  in_alike (Some class) BaseAlike.same_variable h = h
  in_alike (Some class) BaseAlike.same_value h = h
  in_alike None BaseAlike.same_variable h = h
  in_alike None BaseAlike.same_value h = h

  there_alike : (given now : List ℕ) (home : Option ℕ) (may : May) (shape : Option Shape) (type : ℕ) {a b : Option Picked} → PickedAlike a b → PickedServes whole main local_size rank f sorted now b → IsThere whole main local_size rank f given home may shape type a → IsThere whole main local_size rank f now home may shape type b
  there_alike given now home may None type PickedAlike.unpicked serves is = is
  there_alike given now home may None type (PickedAlike.same_picked h) serves is = absurd cc
  there_alike given now home may (Some shape) type PickedAlike.unpicked serves is = record { of = is.of; is = is.is; takes = is.takes }
  there_alike given now home may (Some shape) type (PickedAlike.same_picked {p} {choice} h) serves is = record {
    of = is.of;
    is = record { shaped = is.is.shaped; some = is.is.some; few = is.is.few; sized = is.is.sized; by = serves; within = within h is.is.within };
    takes = λ stores. takes h (is.takes stores);
  }
    where
      within : {a b : Option Part} → ChoiceAlike a b → AreWithin p.shape.1 a p.positions → AreWithin p.shape.1 b p.positions
      within ChoiceAlike.no_choice w = w
      within (ChoiceAlike.same_choice h) w = w

      takes : {a b : Option Part} → ChoiceAlike a b → AreStored p.shape.1 a p.positions → AreStored p.shape.1 b p.positions
      takes ChoiceAlike.no_choice w = w
      takes (ChoiceAlike.same_choice h) w = w

  base_asked : {a b : Base} → BaseAlike a b → asked_base whole a ≡ asked_base whole b
  base_asked BaseAlike.same_variable = refl
  base_asked BaseAlike.same_value = refl

  still_chosen : (by : Option (Option Scalar)) {a b : Option Picked} → PickedAlike a b → IsPickedBy by a → IsPickedBy by b
  still_chosen None PickedAlike.unpicked is = is
  still_chosen (Some by) PickedAlike.unpicked is = is
  still_chosen None (PickedAlike.same_picked h) is = is
  still_chosen (Some by) (PickedAlike.same_picked {p} h) is = chosen by h is
    where
      chosen : (by : Option Scalar) {a b : Option Part} → ChoiceAlike a b → IsChosen by a → IsChosen by b
      chosen None ChoiceAlike.no_choice is = is
      chosen (Some s) ChoiceAlike.no_choice is = is
      chosen None (ChoiceAlike.same_choice h) is = is
      chosen (Some s) (ChoiceAlike.same_choice PartAlike.same_number) is = is
      chosen (Some s) (ChoiceAlike.same_choice PartAlike.same_scalar) is = is

  reached_alike : (given now : List ℕ) (spot : Spot) (r : Reached) (base : Base) (path : List Part) (picked : Option Picked) → IsReached whole main local_size rank f given spot r → BaseAlike r.base base → PartsAlike r.path path → PickedAlike r.picked picked → BaseServes whole main local_size rank f sorted now base
      → AllByRecursion (Index now) path → PickedServes whole main local_size rank f sorted now picked → IsReached whole main local_size rank f now spot (whole_from base path picked)
  reached_alike given now spot r base path picked is b p k base_is path_is picked_is = record {
    at_home = in_alike spot.home b is.at_home;
    leads = leads_alike given now spot.may r.base base r.path path spot.type spot.room b p base_is path_is is.leads;
    is = there_alike given now spot.home spot.may spot.shape spot.type k picked_is is.is;
    asked = sym (ap (λ l. l ++ asked_parts whole r.path) (base_asked b) ∙ ap (λ l. asked_base whole base ++ l) (all_asked_alike whole p)) ∙ is.asked;
    chosen = still_chosen spot.picked k is.chosen;
  }

  -- ---- from holders

  scalar_flows : (deep : ℕ) (given : List ℕ) (s : Scalar) (u : Flow) → IsTypeOf whole (s, 1) (scalar_id whole s) → F deep given (λ type now after. type ≡ scalar_id whole s) u (lift (types.scalar_type s) u)
  scalar_flows deep given s u of =
      flows_so whole main local_size rank f [] deep false given (λ type now after. IsScalarType after.sections s type) (λ type now after. type ≡ scalar_id whole s) u (lift (types.scalar_type s) u)
      (λ type now after inside wider is. sym (scalar_is whole main local_size rank f sorted s type (type_later after.sections whole (s, 1) type inside is)))
      (lift_flows whole main local_size rank f deep given (λ type now after. IsScalarType after s type) u (types.scalar_type s u.sections) (scalar_type_comes whole main local_size rank f sorted given s u.sections))

  word_flows : (deep : ℕ) (given : List ℕ) (s : Scalar) (h : ℕ) (u : Flow) → IsTypeOf whole (s, 1) (scalar_id whole s) → IsHolder whole main local_size rank f (scalar_id whole s) h
      → F deep given (λ id now after. IsOf whole main local_size rank f now (scalar_id whole s) id) u (behind (lift (types.scalar_type s) u) (take_back h))
  word_flows deep given s h u of holder =
      flows_then whole main local_size rank f [] [] deep false false given (λ type now after. type ≡ scalar_id whole s) (λ id now after. IsOf whole main local_size rank f now (scalar_id whole s) id) u (lift (types.scalar_type s) u) (take_back h)
      (lift_stays u (types.scalar_type s u.sections) (scalar_type_sorts s u.sections)) (scalar_flows deep given s u of) (λ type v. take_stays h type v)
      (λ type v now same wider stays inside. subst (λ z. F deep now (λ id now after. IsOf whole main local_size rank f now (scalar_id whole s) id) v (take_back h z v)) (sym same) (take_flows whole main local_size rank f sorted deep now (scalar_id whole s) h v holder))

  part_again : (deep : ℕ) (given : List ℕ) (part kept : Part) (u : Flow) → PartWaits whole main local_size rank f part kept → F deep given (λ other now after. (PartAlike part other × Index now other) × Widens given now) u (take_part kept u)
  part_again deep given _ _ u (PartWaits.by_number {number}) =
      given_flows whole main local_size rank f deep given (λ other now after. (PartAlike (Fixed number) other × Index now other) × Widens given now) (Fixed number) u (λ inside. ((PartAlike.same_number, tt), λ id h. h))
  part_again deep given _ _ u (PartWaits.by_word {s} {id} {h} integer of holder) =
      flows_map whole main local_size rank f [] deep false given (λ again now after. IsOf whole main local_size rank f now (scalar_id whole s) again) (λ other now after. (PartAlike (By s id) other × Index now other) × Widens given now) u (behind (lift (types.scalar_type s) u) (take_back h)) (λ again. By s again)
      (λ again now after inside wider v. ((PartAlike.same_scalar, (integer, record { type = scalar_id whole s; of = of; typed = v.typed; known = v.known })), wider refl)) (word_flows deep given s h u of holder)

  parts_again : (deep : ℕ) (given : List ℕ) (parts kept : List Part) (u : Flow) → PartsWait whole main local_size rank f parts kept → F deep given (λ others now after. (PartsAlike parts others × AllByRecursion (Index now) others) × Widens given now) u (each take_part kept u)
  unfolding each
  parts_again deep given _ _ u PartsWait.no_parts = given_flows whole main local_size rank f deep given (λ others now after. (PartsAlike [] others × AllByRecursion (Index now) others) × Widens given now) [] u (λ inside. ((PartsAlike.no_parts, tt), λ id h. h))
  parts_again deep given _ _ u (PartsWait.more_parts {part} {kept} {parts} {others} h t) =
      flows_then whole main local_size rank f [] [] deep false false given (λ other now after. (PartAlike part other × Index now other) × Widens given now) (λ all now after. (PartsAlike (part ∷ parts) all × AllByRecursion (Index now) all) × Widens given now) u (take_part kept u) (parts_of others)
      (taken_part_stays kept u) (part_again deep given part kept u h) (λ p v. stays_map v (each take_part others v) (λ more. p ∷ more) (taken_parts_stay others v))
      (λ p v now is wider stays inside. flows_map whole main local_size rank f [] deep false now (λ all then after. (PartsAlike parts all × AllByRecursion (Index then) all) × Widens now then) (λ all then after. (PartsAlike (part ∷ parts) all × AllByRecursion (Index then) all) × Widens given then) v (each take_part others v)
      (λ more. p ∷ more)
      (λ more then after inside later all. ((PartsAlike.more_parts is.0.0 all.0.0, (index_later whole main local_size rank f sorted now then p all.1 is.0.1, all.0.1)), λ id h. all.1 id (is.1 id h))) (parts_again deep now parts others v t))

  choice_again : (deep : ℕ) (given : List ℕ) (choice kept : Option Part) (u : Flow) → ChoiceWaits whole main local_size rank f choice kept → F deep given (λ other now after. ChoiceAlike choice other × IsChoice whole main local_size rank f now other) u (picked_by take_part kept u)
  choice_again deep given _ _ u ChoiceWaits.by_positions = given_flows whole main local_size rank f deep given (λ other now after. ChoiceAlike None other × IsChoice whole main local_size rank f now other) None u (λ inside. (ChoiceAlike.no_choice, tt))
  choice_again deep given _ _ u (ChoiceWaits.by_part {one} {kept} h) =
      flows_map whole main local_size rank f [] deep false given (λ other now after. (PartAlike one other × Index now other) × Widens given now) (λ other now after. ChoiceAlike (Some one) other × IsChoice whole main local_size rank f now other) u (take_part kept u) (λ other. Some other)
      (λ other now after inside wider is. (ChoiceAlike.same_choice is.0.0, is.0.1)) (part_again deep given one kept u h)

  picked_again : (deep : ℕ) (given : List ℕ) (picked kept : Option Picked) (u : Flow) → PickedWaits whole main local_size rank f picked kept → F deep given (λ other now after. PickedAlike picked other × PickedServes whole main local_size rank f sorted now other) u (in_picked take_part kept u)
  picked_again deep given _ _ u PickedWaits.unpicked = given_flows whole main local_size rank f deep given (λ other now after. PickedAlike None other × PickedServes whole main local_size rank f sorted now other) None u (λ inside. (PickedAlike.unpicked, tt))
  picked_again deep given _ _ u (PickedWaits.some_picked {p} {kept} h) =
      flows_map whole main local_size rank f [] deep false given (λ by now after. ChoiceAlike p.by by × IsChoice whole main local_size rank f now by) (λ other now after. PickedAlike (Some p) other × PickedServes whole main local_size rank f sorted now other) u (picked_by take_part kept u)
      (λ by. Some (record p { by = by })) (λ by now after inside wider is. (PickedAlike.same_picked is.0, is.1)) (choice_again deep given p.by kept u h)

  base_again : (deep : ℕ) (given : List ℕ) (base kept : Base) (u : Flow) → BaseWaits whole main local_size rank f base kept → F deep given (λ other now after. BaseAlike base other × BaseServes whole main local_size rank f sorted now other) u (take_base kept u)
  base_again deep given _ _ u (BaseWaits.in_variable {id} {class}) =
      given_flows whole main local_size rank f deep given (λ other now after. BaseAlike (Variable id class) other × BaseServes whole main local_size rank f sorted now other) (Variable id class) u (λ inside. (BaseAlike.same_variable, tt))
  base_again deep given _ _ u (BaseWaits.in_value {id} {type} {h} holder) =
      flows_map whole main local_size rank f [] deep false given (GivesOf whole main local_size rank f type) (λ other now after. BaseAlike (Value id type) other × BaseServes whole main local_size rank f sorted now other) u (take_back h type u) (λ id. Value id type)
      (λ id now after inside wider v. (BaseAlike.same_value, v)) (take_flows whole main local_size rank f sorted deep given type h u holder)

  base_wider : (given now : List ℕ) (base : Base) → Widens given now → BaseServes whole main local_size rank f sorted given base → BaseServes whole main local_size rank f sorted now base
  base_wider given now (Variable id class) wider serves = tt
  base_wider given now (Value id type) wider serves = of_later whole main local_size rank f sorted given now type id wider serves

  pub fetch_reached_flows : (b : Bool) (deep : ℕ) (given : List ℕ) (spot : Spot) (kept : Reached) (u : Flow) → StaysReached whole main local_size rank f b given spot kept → F deep given (λ r now after. IsReached whole main local_size rank f now spot r) u (fetch_reached b kept u)
  unfolding fetch_reached
  fetch_reached_flows false deep given spot kept u is = given_flows whole main local_size rank f deep given (λ r now after. IsReached whole main local_size rank f now spot r) kept u (λ inside. is)
  fetch_reached_flows true deep given spot kept u is =
      flows_then whole main local_size rank f [] [] deep false false given (λ base now after. BaseAlike is.reached.base base × BaseServes whole main local_size rank f sorted now base) (λ r now after. IsReached whole main local_size rank f now spot r) u (take_base kept.base u) (path_of kept.path kept.picked)
      (taken_base_stays kept.base u) (base_again deep given is.reached.base kept.base u is.base) (λ base v. path_stays kept.path kept.picked base v)
      (λ base v now b wider stays inside. flows_then whole main local_size rank f [] [] deep false false now (λ path then after. (PartsAlike is.reached.path path × AllByRecursion (Index then) path) × Widens now then) (λ r now after. IsReached whole main local_size rank f now spot r) v (each take_part kept.path v)
      (picked_of kept.picked base) (taken_parts_stay kept.path v) (parts_again deep now is.reached.path kept.path v is.path) (λ path w. stays_map w (in_picked take_part kept.picked w) (λ picked. whole_from base path picked) (taken_picked_stays kept.picked w))
      (λ path w then p wider stays inside. flows_map whole main local_size rank f [] deep false then (λ picked now after. PickedAlike is.reached.picked picked × PickedServes whole main local_size rank f sorted now picked) (λ r now after. IsReached whole main local_size rank f now spot r) w (in_picked take_part kept.picked w)
      (λ picked. whole_from base path picked)
      (λ picked end after inside later k. reached_alike is.given end spot is.reached base path picked is.is b.0 p.0.0 k.0 (base_wider now end base (λ id h. later refl id (p.1 id h)) b.1) (all_later whole main local_size rank f sorted then end path (later refl) p.0.1) k.1)
      (picked_again deep then is.reached.picked kept.picked w is.picked)))
