-- Names, values, members and swizzles lead to what they mean.
use Rattle.std.proofs.Common.{◌≡◌, ℕ, ◌+◌, ◌≤◌, ◌<◌, Bool, true, false, List, [], ◌∷◌, length, map, Option, Some, None, refl, sym, ap, ◌∙◌, subst, suc, arith}
use Rattle.std.specs.Prelude.{slice_get, slice_index}
use Rattle.std.proofs.lemmas.Bool.{true≢false}
use Rattle.std.proofs.lemmas.List.{length-map}
use Rattle.gsl_instr.specs.declared.enumerant.decoration.TheConstants as decoration
use Rattle.gsl_types.specs.declared.ty.Scalar.{Scalar}
use Rattle.gsl_types.specs.declared.ty.Ty.{Ty}
use Rattle.gsl_tree.specs.Shapes.{Shape, shape_of}
use Rattle.gsl_words.specs.declared.module.Module.{Module}
use Rattle.gsl_valid.specs.LimitRules.{most_indexes}
use Rattle.gsl_valid.specs.MemoryRules.{leads_along}
use Rattle.gsl_valid.specs.Types.{defined_as}
use Rattle.gsl_spv.specs.Sections.{Sections}
use Rattle.gsl_lower_places.specs.Reached.{loose, part_of, swizzled, swizzled_of}
use Rattle.gsl_lower_places.specs.Reached.{whole as whole_of}
use Rattle.gsl_lower_places.specs.declared.reached.Base.TheVariants.{Variable}
use Rattle.gsl_lower_places.specs.declared.reached.Part.{Part}
use Rattle.gsl_lower_places.specs.declared.reached.Part.TheVariants.{Fixed}
use Rattle.gsl_lower_places.specs.declared.reached.Picked.{Picked}
use Rattle.gsl_lower_places.specs.declared.reached.Reached.{Reached}
use Rattle.gsl_lower_holders.specs.Flow.{Emit, Flow, behind, given as give, id_at, told, type_id}
use Rattle.gsl_lower_holders.specs.declared.place.FlowPlace.{FlowPlace}
use Rattle.gsl_lower_expr.specs.Parts.{in_block, loose_value, named}
use Rattle.gsl_fitting.specs.Fits.{Frame, is_known}
use Rattle.gsl_fitting_types.specs.Making.{AreSorted, made}
use Rattle.gsl_fitting_types.proofs.Knowing.{known_wider}
use Rattle.gsl_fitting_builtins.specs.Arguments.{AreBelow}
use Rattle.gsl_fitting_places.specs.Leading.{led}
use Rattle.gsl_fitting_places.specs.Places.{AreStored, AreWithin, Picks}
use Rattle.gsl_fitting_places.proofs.Components.{position_below}
use Rattle.gsl_fitting_places.proofs.Ways.{no_chain}
use Rattle.gsl_fitting_flow.specs.Flowing.{EmitStays, Flows, GivesOf, IsLater, IsOf, IsTypeFor, IsTypeIn}
use Rattle.gsl_fitting_flow.proofs.Following.{flow_same, flows_so, given_flows}
use Rattle.gsl_fitting_flow.proofs.Holding.{of_later, type_flows, type_on, type_stays}
use Rattle.gsl_fitting_expr.specs.Evaluating.{Evaluates}
use Rattle.gsl_fitting_expr.proofs.Yielding.{flows_map, stays_map, yields_last, yields_map}
use Rattle.gsl_fitting_reaching.specs.Reached.{IsMember, IsPicked, IsPickedBy, IsReached, IsThere, IsVariable, Lasts, May, Parts, Reaches, Spot, Stands, by_positions, named_spot, part_spot, swizzle_spot, value_spot}
use Rattle.gsl_fitting_reaching.proofs.Deeper.{part_reached, there_whole}

-- ---- names

pub told_later : (list : FlowPlace → List ℕ) (number : ℕ) (s u : Flow) → Lasts list → IsLater s u → slice_get (list u.place) number ≡ slice_get (list s.place) number
told_later list number s u lasts here = ap (λ p. slice_get (list p) number) here.place ∙ ap (λ l. slice_get l number) (lasts s.place u.place.label u.place.used)

pub told_stays : {A : Type 0} (o : Option ℕ) (u : Flow) (g : ℕ → A) → EmitStays u (behind (id_at o u) (λ id. give (g id)))
told_stays (Some id) u g = flow_same u
told_stays None u g = tt

module _ (whole : Sections) (main : ℕ) (local_size : List ℕ) (rank : ℕ → ℕ) (f : Frame) (sorted : AreSorted whole) where
  abbrev m : Module
  m = made whole main local_size rank f

  abbrev R : Flow → List ℕ → ℕ → Bool → Spot → Emit Reached → Type 0
  R s asks deep splits spot reach = Reaches whole main local_size rank f s asks deep splits spot reach

  abbrev Is : List ℕ → Spot → Reached → Type 0
  Is given spot r = IsReached whole main local_size rank f given spot r

  abbrev Named : ℕ → May → Option Shape → ℕ → ℕ → Spot
  Named class may shape type room = named_spot class may shape type room

  -- ---- names

  pub known_everywhere : (given : List ℕ) (id : ℕ) → is_known m f [] id ≡ true → is_known m f given id ≡ true
  known_everywhere given id known = known_wider whole main local_size sorted f [] given id (λ other h. absurd (true≢false (sym h))) known

  pub variable_reached : (given : List ℕ) (class : ℕ) (may : May) (shape : Option Shape) (type room id : ℕ) → IsVariable whole main local_size rank f may class type room id → Stands whole main local_size rank f (Some class) shape type → Is given (Named class may shape type room) (whole_of (Variable id class))
  variable_reached given class may shape type room id v stands = record {
    at_home = refl;
    leads = record {
      pointee = type;
      leads = record { pointer = record { leads = v.leads; known = known_everywhere given id v.known }; indexes = tt; leads = refl };
      known = v.known;
      base = v.base;
      classed = v.classed;
      few = let few = v.few in let z : 0 + room < most_indexes = omega (arith, few) in z;
      readable = λ reads. ap (leads_along m decoration.NON_READABLE) (no_chain (defined_as m id) v.base);
      changes = v.changes;
    };
    is = there_whole whole main local_size rank f sorted given (Some class) may shape type None refl stands;
    asked = refl;
    chosen = tt;
  }

  pub named_reaches : (s : Flow) (deep : ℕ) (list : FlowPlace → List ℕ) (number class : ℕ) (may : May) (shape : Option Shape) (type room : ℕ) → Lasts list → ((id : ℕ) → slice_get (list s.place) number ≡ Some id → IsVariable whole main local_size rank f may class type room id)
      → Stands whole main local_size rank f (Some class) shape type → R s [] deep false (Named class may shape type room) (named list class number)
  named_reaches s deep list number class may shape type room lasts is stands = record {
    stays = λ u. told_stays (slice_get (list u.place) number) u (λ id. whole_of (Variable id class));
    flows = λ given u here. by given u (slice_get (list u.place) number) (sym (told_later list number s u lasts here));
  }
    where
      by : (given : List ℕ) (u : Flow) (o : Option ℕ) → slice_get (list s.place) number ≡ o
          → Flows whole main local_size rank f [] deep false given (λ r now after. Is now (Named class may shape type room) r) u (behind (id_at o u) (λ id. give (whole_of (Variable id class))))
      by given u (Some id) e = given_flows whole main local_size rank f deep given (λ r now after. Is now (Named class may shape type room) r) (whole_of (Variable id class)) u (λ inside. variable_reached given class may shape type room id (is id e) stands)
      by given u None e = tt

  -- ---- members of blocks

  member_reached : (given : List ℕ) (class number : ℕ) (may : May) (shape : Option Shape) (type room id : ℕ) → IsMember whole main local_size rank f may class number type room id → Stands whole main local_size rank f (Some class) shape type
      → Is given (Named class may shape type room) (part_of (whole_of (Variable id class)) (Fixed number))
  member_reached given class number may shape type room id v stands = record {
    at_home = refl;
    leads = record {
      pointee = v.pointee;
      leads = record { pointer = record { leads = v.leads; known = known_everywhere given id v.known }; indexes = (tt, tt); leads = ap (λ o. led m o []) v.part };
      known = v.known;
      base = v.base;
      classed = v.classed;
      few = let few = v.few in let z : 1 + room < most_indexes = omega (arith, few) in z;
      readable = v.readable;
      changes = v.changes;
    };
    is = there_whole whole main local_size rank f sorted given (Some class) may shape type None refl stands;
    asked = refl;
    chosen = tt;
  }

  pub block_reaches : (s : Flow) (deep block number class : ℕ) (may : May) (shape : Option Shape) (type room : ℕ)
      → ((id other : ℕ) → slice_get s.place.blocks block ≡ Some id → slice_get s.place.classes block ≡ Some other → (other ≡ class) × IsMember whole main local_size rank f may class number type room id) → Stands whole main local_size rank f (Some class) shape type
      → R s [] deep false (Named class may shape type room) (in_block block number)
  block_reaches s deep block number class may shape type room is stands = record {
    stays = λ u. stays (slice_get u.place.blocks block) u;
    flows = λ given u here. by given u here (slice_get u.place.blocks block) (sym (told_later (λ (p : FlowPlace). p.blocks) block s u (λ p label used. refl) here));
  }
    where
      stays : (o : Option ℕ) (u : Flow) → EmitStays u (behind (id_at o u) (λ id v. behind (told (λ (place : FlowPlace). place.classes) block v) (λ class. give (part_of (whole_of (Variable id class)) (Fixed number)))))
      stays (Some id) u = told_stays (slice_get u.place.classes block) u (λ class. part_of (whole_of (Variable id class)) (Fixed number))
      stays None u = tt

      by_class : (given : List ℕ) (u : Flow) (id : ℕ) (k : Option ℕ) → slice_get s.place.blocks block ≡ Some id → slice_get s.place.classes block ≡ k
          → Flows whole main local_size rank f [] deep false given (λ r now after. Is now (Named class may shape type room) r) u (behind (id_at k u) (λ class. give (part_of (whole_of (Variable id class)) (Fixed number))))
      by_class given u id (Some other) e g =
          let (same, one) = is id other e g in
          given_flows whole main local_size rank f deep given (λ r now after. Is now (Named class may shape type room) r) (part_of (whole_of (Variable id other)) (Fixed number)) u
          (λ inside. subst (λ c. Is given (Named class may shape type room) (part_of (whole_of (Variable id c)) (Fixed number))) (sym same) (member_reached given class number may shape type room id one stands))
      by_class given u id None e g = tt

      by : (given : List ℕ) (u : Flow) → IsLater s u → (o : Option ℕ) → slice_get s.place.blocks block ≡ o
          → Flows whole main local_size rank f [] deep false given (λ r now after. Is now (Named class may shape type room) r) u
          (behind (id_at o u) (λ id v. behind (told (λ (place : FlowPlace). place.classes) block v) (λ class. give (part_of (whole_of (Variable id class)) (Fixed number)))))
      by given u here (Some id) e = by_class given u id (slice_get u.place.classes block) e (sym (told_later (λ (p : FlowPlace). p.classes) block s u (λ p label used. refl) here))
      by given u here None e = tt

  -- ---- values

  abbrev Loose : May → Option Shape → ℕ → ℕ → Spot
  Loose may shape type room = value_spot may shape type room

  loose_reached : (given : List ℕ) (may : May) (t : Ty) (type room id : ℕ) (place : FlowPlace) → room < most_indexes → IsOf whole main local_size rank f given type id → IsTypeFor whole main local_size rank f place t type → Is given (Loose may (shape_of t) type room) (loose id type)
  loose_reached given may t type room id place few v same = record {
    at_home = tt;
    leads = record { typed = v.typed; known = v.known; indexes = tt; within = refl; few = let z : 0 + room < most_indexes = omega (arith, few) in z };
    is = there_whole whole main local_size rank f sorted given None may (shape_of t) type None refl (by (shape_of t) same);
    asked = refl;
    chosen = tt;
  }
    where
      by : (o : Option Shape) → IsTypeIn whole main local_size rank f place t type o → Stands whole main local_size rank f None o type
      by None is = tt
      by (Some shape) is = is

  loose_stays : (t : Ty) (id : ℕ) (u : Flow) → EmitStays u (loose_value t id u)
  loose_stays t id u = stays_map u (type_id t u) (λ type. loose id type) (type_stays t u)

  pub value_reaches : (s : Flow) (asks : List ℕ) (deep : ℕ) (splits : Bool) (may : May) (t : Ty) (type room : ℕ) (value : Emit ℕ) → room < most_indexes → IsTypeFor whole main local_size rank f s.place t type → Evaluates whole main local_size rank f s asks deep splits type value
      → R s asks deep splits (Loose may (shape_of t) type room) (λ u. behind (value u) (loose_value t))
  value_reaches s asks deep splits may t type room value few same e =
      yields_last whole main local_size rank f s asks deep splits (GivesOf whole main local_size rank f type) (λ r now after. Is now (Loose may (shape_of t) type room) r) value (loose_value t) e (λ id u. loose_stays t id u)
      (λ id u now v here inside. flows_map whole main local_size rank f [] deep false now (λ to now after. (to ≡ type) × IsOf whole main local_size rank f now type id) (λ r now after. Is now (Loose may (shape_of t) type room) r) u (type_id t u) (λ to. loose id to)
      (λ to then end inside wider is. subst (λ k. Is then (Loose may (shape_of t) type room) (loose id k)) (sym is.0) (loose_reached then may t type room id s.place few is.1 same))
      (flows_so whole main local_size rank f [] deep false now (λ to now after. to ≡ type) (λ to now after. (to ≡ type) × IsOf whole main local_size rank f now type id) u (type_id t u) (λ to then end inside wider is. (is, of_later whole main local_size rank f sorted now then type id (wider refl) v))
      (type_flows whole main local_size rank f sorted deep now t type u (type_on whole main local_size rank f sorted s u t type here same))))

  -- ---- members

  pub member_reaches : (s : Flow) (asks : List ℕ) (deep : ℕ) (splits : Bool) (spot : Spot) (shape : Option Shape) (other room number : ℕ) (reach : Emit Reached) → spot.shape ≡ None → spot.room ≡ suc room → Parts whole main local_size rank f spot.home spot.may spot.type (Fixed number) other
      → Stands whole main local_size rank f spot.home shape other → R s asks deep splits spot reach → R s asks deep splits (part_spot whole spot (Fixed number) shape other room) (λ u. behind (reach u) (λ r. give (part_of r (Fixed number))))
  member_reaches s asks deep splits spot shape other room number reach none more parts stands y =
      yields_map whole main local_size rank f s asks deep splits (λ r now after. Is now spot r) (λ r now after. Is now (part_spot whole spot (Fixed number) shape other room) r) reach (λ r. part_of r (Fixed number)) y
      (λ r now u is. part_reached whole main local_size rank f sorted now spot shape other room (Fixed number) r none more is tt parts stands)

  -- ---- swizzles

  each_below : (count : ℕ) (before positions : List ℕ) → AreBelow count before → AreBelow (length before) positions → AreBelow count (map (slice_index before) positions)
  each_below count before [] within below = tt
  each_below count before (position ∷ positions) within below = (position_below count before position below.0 within, each_below count before positions within below.1)

  module _ (given : List ℕ) (home : Option ℕ) (may : May) (shape : Shape) (type : ℕ) (positions : List ℕ) (some : 1 ≤ length positions) (few : length positions ≤ 4) (below : AreBelow shape.1 positions) (takes : may.stores ≡ true → length positions ≤ shape.1) where
    abbrev Spotted : Shape → Option Picked → Type 0
    Spotted shape picked = IsPicked whole main local_size rank f given home may shape type picked

    of_whole : Spotted shape None → Spotted (shape.0, length positions) (Some (swizzled_of shape positions None))
    of_whole p = record { of = p.of; is = record { shaped = refl; some = some; few = few; sized = p.is; by = tt; within = below }; takes = takes }

    of_picked : (before : Picked) → Spotted shape (Some before) → Spotted (shape.0, length positions) (Some (swizzled_of shape positions (Some before)))
    of_picked before p = record {
      of = p.of;
      is = record {
        shaped = ap (λ s. (s, length positions)) (ap (λ (z : Shape). z.0) k.shaped) ∙ ap (λ n. (before.shape.0, n)) (sym count);
        some = subst (λ n. 1 ≤ n) (sym count) some;
        few = subst (λ n. n ≤ 4) (sym count) few;
        sized = k.sized;
        by = k.by;
        within = within before.by k.within;
      };
      takes = λ stores. taken stores before.by (p.takes stores);
    }
      where
        k : Picks whole main local_size rank f given shape before
        k = p.is

        count : length (map (slice_index before.positions) positions) ≡ length positions
        count = length-map positions (slice_index before.positions)

        same : shape.1 ≡ length before.positions
        same = ap (λ (z : Shape). z.1) k.shaped

        inside : AreBelow (length before.positions) positions
        inside = subst (λ n. AreBelow n positions) same below

        within : (by : Option Part) → AreWithin before.shape.1 by before.positions → AreWithin before.shape.1 by (map (slice_index before.positions) positions)
        within None w = each_below before.shape.1 before.positions positions w inside
        within (Some part) w = each_below 1 before.positions positions w inside

        taken : may.stores ≡ true → (by : Option Part) → AreStored before.shape.1 by before.positions → AreStored before.shape.1 by (map (slice_index before.positions) positions)
        taken stores None t = let less = takes stores in omega (arith, count, less, same, t)
        taken stores (Some part) t = let less = takes stores in omega (arith, count, less, same, t, some)

    swizzled_spot : (picked : Option Picked) → Spotted shape picked → Spotted (shape.0, length positions) (Some (swizzled_of shape positions picked))
    swizzled_spot None p = of_whole p
    swizzled_spot (Some before) p = of_picked before p

  still_chosen : (shape : Shape) (positions : List ℕ) (by : Option (Option Scalar)) (picked : Option Picked) → IsPickedBy by picked → IsPickedBy (by_positions by) (Some (swizzled_of shape positions picked))
  still_chosen shape positions None None is = tt
  still_chosen shape positions None (Some before) is = absurd is
  still_chosen shape positions (Some by) None is = absurd is
  still_chosen shape positions (Some by) (Some before) is = is

  swizzled_reached : (given : List ℕ) (spot : Spot) (shape : Shape) (positions : List ℕ) (r : Reached) → spot.shape ≡ Some shape → 1 ≤ length positions → length positions ≤ 4 → AreBelow shape.1 positions → (spot.may.stores ≡ true → length positions ≤ shape.1) → Is given spot r
      → Is given (swizzle_spot spot (shape.0, length positions)) (swizzled shape positions r)
  unfolding swizzled
  swizzled_reached given spot shape positions r plain some few below takes is = record {
    at_home = is.at_home;
    leads = is.leads;
    is = swizzled_spot given spot.home spot.may shape spot.type positions some few below takes r.picked (subst (λ o. IsThere whole main local_size rank f given spot.home spot.may o spot.type r.picked) plain is.is);
    asked = is.asked;
    chosen = still_chosen shape positions spot.picked r.picked is.chosen;
  }

  pub swizzle_reaches : (s : Flow) (asks : List ℕ) (deep : ℕ) (splits : Bool) (spot : Spot) (shape : Shape) (positions : List ℕ) (reach : Emit Reached) → spot.shape ≡ Some shape → 1 ≤ length positions → length positions ≤ 4 → AreBelow shape.1 positions
      → (spot.may.stores ≡ true → length positions ≤ shape.1) → R s asks deep splits spot reach → R s asks deep splits (swizzle_spot spot (shape.0, length positions)) (λ u. behind (reach u) (λ r. give (swizzled shape positions r)))
  swizzle_reaches s asks deep splits spot shape positions reach plain some few below takes y =
      yields_map whole main local_size rank f s asks deep splits (λ r now after. Is now spot r) (λ r now after. Is now (swizzle_spot spot (shape.0, length positions)) r) reach (λ r. swizzled shape positions r) y
      (λ r now u is. swizzled_reached now spot shape positions r plain some few below takes is)
