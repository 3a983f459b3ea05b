-- From what an expression leads to, to an element or a component of it.
use Rattle.std.proofs.Common.{◌≡◌, ℕ, ◌<◌, ◌==◌, false, List, [], ◌++◌, Option, Some, None, refl, sym, ap, subst, suc}
use Rattle.gsl_types.specs.declared.ty.Scalar.{Scalar}
use Rattle.gsl_types.specs.declared.ty.Scalar.TheVariants.{Uint}
use Rattle.gsl_types.specs.declared.ty.Ty.{Ty}
use Rattle.gsl_tree.specs.Shapes.{Shape, shape_of}
use Rattle.gsl_words.specs.declared.module.Module.{Module}
use Rattle.gsl_spv.specs.Sections.{Sections}
use Rattle.gsl_lower_values.specs.Building.{given as give}
use Rattle.gsl_lower_places.specs.Reached.{component_at, component_if, part_of, repicked, with_picked}
use Rattle.gsl_lower_places.specs.declared.reached.Base.{Base}
use Rattle.gsl_lower_places.specs.declared.reached.Base.TheVariants.{Value, Variable}
use Rattle.gsl_lower_places.specs.declared.reached.Part.{Part}
use Rattle.gsl_lower_places.specs.declared.reached.Part.TheVariants.{By, Fixed}
use Rattle.gsl_lower_places.specs.declared.reached.Picked.{Picked}
use Rattle.gsl_lower_places.specs.declared.reached.Reached.{Reached}
use Rattle.gsl_lower_holders.specs.Flow.{Flow, lift}
use Rattle.gsl_lower_expr.specs.Parts.{step_into}
use Rattle.gsl_fitting.specs.Fits.{Frame}
use Rattle.gsl_fitting_types.specs.Making.{AreSorted, Comes, IsTypeOf, Sorts, made}
use Rattle.gsl_fitting_types.proofs.Sorting.{stays_same}
use Rattle.gsl_fitting_types.proofs.Stepping.{comes_then, given_comes}
use Rattle.gsl_fitting_places.specs.Leading.{IsIndex}
use Rattle.gsl_fitting_places.specs.Places.{IsAmong, IsOfShape}
use Rattle.gsl_fitting_places.proofs.Components.{PicksBy, PicksOne, component_sorts, if_sorts, one_picked, one_takes}
use Rattle.gsl_fitting_places.proofs.Parting.{picks_later}
use Rattle.gsl_fitting_flow.specs.Flowing.{EmitStays, Flows, Widens}
use Rattle.gsl_fitting_flow.proofs.Following.{given_flows, lift_flows, lift_stays}
use Rattle.gsl_fitting_reaching.specs.Reached.{IsChosen, IsPickedBy, IsReached, IsThere, LeadsTo, May, Parts, Spot, Stands, asked_part, part_spot, shape_there}
use Rattle.gsl_fitting_reaching.proofs.Deeper.{part_reached}
use Rattle.gsl_fitting_reads.proofs.Reading.{inside_later, within_later}
use Rattle.gsl_fitting_indexes.specs.Indexes.{IsSuch, LeadsBy, component_by, component_spot}

-- ---- indexes that are the same but for ids

such_asked : (whole : Sections) (sample part : Part) → IsSuch sample part → asked_part whole part ≡ asked_part whole sample
such_asked whole (Fixed number) (Fixed other) such = refl
such_asked whole (Fixed number) (By s id) such = absurd such
such_asked whole (By s any) (Fixed other) such = absurd such
such_asked whole (By s any) (By other id) such = ap (λ z. asked_part whole (By z id)) such

such_among : (count : ℕ) (sample part : Part) → IsSuch sample part → IsAmong count sample → IsAmong count part
such_among count (Fixed number) (Fixed other) such less = subst (λ n. n < count) (sym such) less
such_among count (Fixed number) (By s id) such less = absurd such
such_among count (By s any) (Fixed other) such less = absurd such
such_among count (By s any) (By other id) such less = tt

-- by what it is picked
one_chosen : (by : Option Scalar) (s : Scalar) (choice found : Option Part) (position : ℕ) → IsChosen by choice → found ≡ repicked choice position → IsPickedBy (component_by (By s 0) (Some by)) (Some (record { shape = (Uint, 1); by = found; positions = [] }))
one_chosen None s None found position chosen e = subst (IsChosen (Some Uint)) (sym e) refl
one_chosen None s (Some part) found position chosen e = absurd chosen
one_chosen (Some t) s None found position chosen e = absurd chosen
one_chosen (Some t) s (Some part) found position chosen e = subst (IsChosen (Some t)) (sym e) chosen

picked_chosen : (sample part : Part) (by : Option (Option Scalar)) (before : Option Picked) (p : Picked) → IsSuch sample part → IsPickedBy by before → PicksBy part before p.by → IsPickedBy (component_by sample by) (Some p)
picked_chosen (Fixed number) (Fixed other) None None p such chosen is = subst (IsChosen None) (sym is) tt
picked_chosen (Fixed number) (Fixed other) (Some by) (Some before) p such chosen is = subst (IsChosen by) (sym is) chosen
picked_chosen (By s any) (By other id) None None p such chosen is = subst (IsChosen (Some s)) (sym is) such
picked_chosen (By s any) (By other id) (Some None) (Some before) p such chosen is = one_chosen None s before.by p.by is.0 chosen is.1
picked_chosen (By s any) (By other id) (Some (Some t)) (Some before) p such chosen is = one_chosen (Some t) s before.by p.by is.0 chosen is.1
picked_chosen (Fixed number) (By s id) by before p such chosen is = absurd such
picked_chosen (By s any) (Fixed other) by before p such chosen is = absurd such
picked_chosen (Fixed number) (Fixed other) None (Some before) p such chosen is = absurd chosen
picked_chosen (Fixed number) (Fixed other) (Some by) None p such chosen is = absurd chosen
picked_chosen (By s any) (By other id) None (Some before) p such chosen is = absurd chosen
picked_chosen (By s any) (By other id) (Some by) None p such chosen is = absurd chosen

step_sorts : (shape : Option Shape) (part : Part) (r : Reached) (s : Sections) → Sorts s (step_into shape part r s)
step_sorts None part r s = stays_same s
step_sorts (Some shape) part r s = component_sorts shape part r s

pub step_stays : (t : Ty) (part : Part) (r : Reached) (u : Flow) → EmitStays u (lift (step_into (shape_of t) part r) u)
step_stays t part r u = lift_stays u (step_into (shape_of t) part r u.sections) (step_sorts (shape_of t) part r u.sections)

module _ (whole : Sections) (main : ℕ) (local_size : List ℕ) (rank : ℕ → ℕ) (f : Frame) (sorted : AreSorted whole) where
  abbrev m : Module
  m = made whole main local_size rank f

  abbrev Is : List ℕ → Spot → Reached → Type 0
  Is given spot r = IsReached whole main local_size rank f given spot r

  -- ---- elements

  such_parts : (home : Option ℕ) (may : May) (type other : ℕ) (sample part : Part) → IsSuch sample part → Parts whole main local_size rank f home may type sample other → Parts whole main local_size rank f home may type part other
  such_parts home may type other (Fixed number) (Fixed same) such p = subst (λ n. Parts whole main local_size rank f home may type (Fixed n) other) (sym such) p
  such_parts (Some class) may type other (By s any) (By t id) such p = p
  such_parts None may type other (By s any) (By t id) such p = p
  such_parts home may type other (Fixed number) (By s id) such p = absurd such
  such_parts home may type other (By s any) (Fixed same) such p = absurd such

  element_reached : (given : List ℕ) (spot : Spot) (shape : Option Shape) (other room : ℕ) (sample part : Part) (r : Reached) → IsSuch sample part → spot.shape ≡ None → spot.room ≡ suc room → Is given spot r → IsIndex whole main local_size rank f given part
      → Parts whole main local_size rank f spot.home spot.may spot.type sample other → Stands whole main local_size rank f spot.home shape other → Is given (part_spot whole spot sample shape other room) (part_of r part)
  element_reached given spot shape other room sample part r such none more is index parts stands =
      subst (λ l. Is given (record spot { shape = shape; type = other; room = room; held = spot.held ++ l }) (part_of r part)) (such_asked whole sample part such)
      (part_reached whole main local_size rank f sorted given spot shape other room part r none more is index (such_parts spot.home spot.may spot.type other sample part such parts) stands)

  -- ---- components

  pub leads_later : (given now : List ℕ) (may : May) (base : Base) (parts : List Part) (type room : ℕ) → Widens given now → LeadsTo whole main local_size rank f given may base parts type room → LeadsTo whole main local_size rank f now may base parts type room
  leads_later given now may (Variable id class) parts type room wider l = within_later whole main local_size rank f sorted given now may class id parts type room wider l
  leads_later given now may (Value id of_whole) parts type room wider l = inside_later whole main local_size rank f sorted given now id of_whole parts type room wider l

  there_later : (given now : List ℕ) (home : Option ℕ) (may : May) (shape : Option Shape) (type : ℕ) (picked : Option Picked) → Widens given now → IsThere whole main local_size rank f given home may shape type picked → IsThere whole main local_size rank f now home may shape type picked
  there_later given now home may None type picked wider is = is
  there_later given now home may (Some shape) type None wider is = record { of = is.of; is = is.is; takes = is.takes }
  there_later given now home may (Some shape) type (Some p) wider is = record { of = is.of; is = picks_later whole main local_size rank f sorted given now shape p wider is.is; takes = is.takes }

  -- what was reached is there, where the block has given more
  pub reached_later : (given now : List ℕ) (spot : Spot) (r : Reached) → Widens given now → Is given spot r → Is now spot r
  reached_later given now spot r wider is = record {
    at_home = is.at_home;
    leads = leads_later given now spot.may r.base r.path spot.type spot.room wider is.leads;
    is = there_later given now spot.home spot.may spot.shape spot.type r.picked wider is.is;
    asked = is.asked;
    chosen = is.chosen;
  }

  component_reached : (given now : List ℕ) (spot : Spot) (shape : Shape) (sample part : Part) (r : Reached) (p : Picked) → IsSuch sample part → spot.shape ≡ Some shape → Is given spot r → Widens given now → PicksOne whole main local_size rank f sorted now shape part r.picked p
      → Is now (component_spot spot shape sample) (with_picked r p)
  component_reached given now spot shape sample part r p such plain is wider k = record {
    at_home = is.at_home;
    leads = leads_later given now spot.may r.base r.path spot.type spot.room wider is.leads;
    is = record { of = subst (λ z. IsTypeOf whole (shape_there spot.home z) spot.type) (sym k.same) before.of; is = k.picks; takes = λ stores. one_takes whole main local_size rank f sorted shape now part r.picked p k };
    asked = is.asked;
    chosen = picked_chosen sample part spot.picked r.picked p such is.chosen k.by;
  }
    where
      before : IsThere whole main local_size rank f given spot.home spot.may (Some shape) spot.type r.picked
      before = subst (λ o. IsThere whole main local_size rank f given spot.home spot.may o spot.type r.picked) plain is.is

  shape_is : (given : List ℕ) (spot : Spot) (shape : Shape) (r : Reached) → spot.shape ≡ Some shape → Is given spot r → IsOfShape whole main local_size rank f given shape r.picked
  shape_is given spot shape r plain is = (subst (λ o. IsThere whole main local_size rank f given spot.home spot.may o spot.type r.picked) plain is.is).is

  component_comes : (given : List ℕ) (spot : Spot) (shape : Shape) (sample part : Part) (r : Reached) (before : Sections) → IsSuch sample part → spot.shape ≡ Some shape → (shape.1 == 1) ≡ false → IsAmong shape.1 sample → IsIndex whole main local_size rank f given part → Is given spot r
      → Comes whole main local_size rank f given (λ to now after. Is now (component_spot spot shape sample) to) before (component_at shape part r before)
  unfolding component_at
  component_comes given spot shape sample part r before such plain several less index is =
      comes_then whole main local_size rank f given (λ p now after. PicksOne whole main local_size rank f sorted now shape part r.picked p × Widens given now) (λ to now after. Is now (component_spot spot shape sample) to) before (component_if shape part r.picked before) (λ picked. give (with_picked r picked))
      (if_sorts shape part r.picked before) (one_picked whole main local_size rank f sorted given shape several part r.picked before (shape_is given spot shape r plain is) index (such_among shape.1 sample part such less)) (λ picked t. stays_same t)
      (λ p t now k wider extends inside. given_comes whole main local_size rank f now (λ to now after. Is now (component_spot spot shape sample) to) (with_picked r p) t (λ inside. component_reached given now spot shape sample part r p such plain is k.1 k.0))

  -- ---- both

  pub step_flows : (deep : ℕ) (given : List ℕ) (t : Ty) (spot to : Spot) (sample part : Part) (r : Reached) (u : Flow) → LeadsBy whole main local_size rank f t spot sample to → IsSuch sample part → IsIndex whole main local_size rank f given part → Is given spot r
      → Flows whole main local_size rank f [] deep false given (λ r now after. Is now to r) u (lift (step_into (shape_of t) part r) u)
  step_flows deep given t spot _ sample part r u (LeadsBy.element {shape} {other} {room} composite none more parts stands) such index is =
      subst (λ o. Flows whole main local_size rank f [] deep false given (λ r now after. Is now (part_spot whole spot sample shape other room) r) u (lift (step_into o part r) u)) (sym composite)
      (given_flows whole main local_size rank f deep given (λ r now after. Is now (part_spot whole spot sample shape other room) r) (part_of r part) u (λ inside. element_reached given spot shape other room sample part r such none more is index parts stands))
  step_flows deep given t spot _ sample part r u (LeadsBy.component {shape} shaped plain several less) such index is =
      subst (λ o. Flows whole main local_size rank f [] deep false given (λ r now after. Is now (component_spot spot shape sample) r) u (lift (step_into o part r) u)) (sym shaped)
      (lift_flows whole main local_size rank f deep given (λ to now after. Is now (component_spot spot shape sample) to) u (component_at shape part r u.sections) (component_comes given spot shape sample part r u.sections such plain several less index is))
