-- What an expression leads to may be read, stored and pointed to.
use Rattle.std.proofs.Common.{◌≡◌, ℕ, ◌+◌, ◌≤◌, true, List, length, Option, Some, None, refl, sym, ap, subst, arith}
use Rattle.gsl_tree.specs.Shapes.{Shape}
use Rattle.gsl_words.specs.declared.module.Module.{Module}
use Rattle.gsl_valid.specs.LimitRules.{most_indexes}
use Rattle.gsl_spv.specs.Sections.{Sections}
use Rattle.gsl_lower_places.specs.declared.reached.Base.{Base}
use Rattle.gsl_lower_places.specs.declared.reached.Base.TheVariants.{Value, Variable}
use Rattle.gsl_lower_places.specs.declared.reached.Part.{Part}
use Rattle.gsl_lower_places.specs.declared.reached.Picked.{Picked}
use Rattle.gsl_lower_places.specs.declared.reached.Reached.{Reached}
use Rattle.gsl_fitting.specs.Fits.{Frame}
use Rattle.gsl_fitting_types.specs.Making.{AreSorted, made}
use Rattle.gsl_fitting_places.specs.Leading.{IsWay}
use Rattle.gsl_fitting_places.specs.Places.{IsPartOf, IsPlace, MayPoint, MayRead, MayStore, MayUpdate, Reads, Stores, TakesMore, Updates, way}
use Rattle.gsl_fitting_places.specs.Places as places
use Rattle.gsl_fitting_places.proofs.Components.{way_any}
use Rattle.gsl_fitting_places.proofs.Ways.{way_begins}
use Rattle.gsl_fitting_reaching.specs.Reached.{IsIn, IsInside, IsPicked, IsReached, IsThere, IsWithin, LeadsTo, May, Spot}

module _ (whole : Sections) (main : ℕ) (local_size : List ℕ) (rank : ℕ → ℕ) (f : Frame) (sorted : AreSorted whole) where
  abbrev m : Module
  m = made whole main local_size rank f

  abbrev Spotted : List ℕ → Option ℕ → May → Shape → ℕ → Option Picked → Type 0
  Spotted given home may shape type picked = IsPicked whole main local_size rank f given home may shape type picked

  in_variable : (home : Option ℕ) (id class : ℕ) → IsIn home (Variable id class) → home ≡ Some class
  in_variable (Some other) id class there = ap Some (sym there)
  in_variable None id class there = absurd there

  in_value : (home : Option ℕ) (id type : ℕ) → IsIn home (Value id type) → home ≡ None
  in_value (Some class) id type there = absurd there
  in_value None id type there = refl

  -- ---- room for an index

  takes_one : (given : List ℕ) (may : May) (class id : ℕ) (parts : List Part) (type room : ℕ) → IsWithin whole main local_size rank f given may class id parts type room → TakesMore whole main local_size rank f (Variable id class) parts
  takes_one given may class id parts type room l = (let few = l.few in let z : 1 + length parts ≤ most_indexes = omega (arith, few) in z, l.base, l.classed)

  pub takes_more : (given : List ℕ) (may : May) (base : Base) (parts : List Part) (type room : ℕ) → LeadsTo whole main local_size rank f given may base parts type room → TakesMore whole main local_size rank f base parts
  takes_more given may (Variable id class) parts type room l = takes_one given may class id parts type room l
  takes_more given may (Value id of_whole) parts type room l = tt

  -- ---- variables

  along : (given : List ℕ) (may : May) (class id : ℕ) (parts : List Part) (type room : ℕ) (picked : Option Picked) → IsWithin whole main local_size rank f given may class id parts type room → IsWay m class id (way parts picked)
  along given may class id parts type room None l =
      record { few = let few = l.few in let z : length parts ≤ most_indexes = omega (arith, few) in z; begins = way_begins whole main local_size rank f sorted class id parts (l.base, l.classed) }
  along given may class id parts type room (Some p) l = way_any whole main local_size rank f sorted class id parts p (takes_one given may class id parts type room l)

  place_of : (given : List ℕ) (may : May) (class id : ℕ) (parts : List Part) (shape : Shape) (type room : ℕ) (picked : Option Picked) → IsWithin whole main local_size rank f given may class id parts type room → Spotted given (Some class) may shape type picked → IsPlace whole main local_size rank f given class id parts shape picked
  place_of given may class id parts shape type room picked l p = record { pointee = l.pointee; type = type; leads = l.leads; of = p.of; along = along given may class id parts type room picked l; is = p.is }

  part_of : (given : List ℕ) (may : May) (id of_whole : ℕ) (parts : List Part) (shape : Shape) (type room : ℕ) (picked : Option Picked) → IsInside whole main local_size rank f given id of_whole parts type room → Spotted given None may shape type picked → IsPartOf whole main local_size rank f given id parts shape picked
  part_of given may id of_whole parts shape type room picked l p = record {
    type = of_whole;
    part = type;
    typed = l.typed;
    known = l.known;
    within = l.within;
    few = let few = l.few in let z : length parts ≤ most_indexes = omega (arith, few) in z;
    of = p.of;
    is = p.is;
  }

  -- ---- what may be done

  module _ (given : List ℕ) (home : Option ℕ) (may : May) (shape : Shape) (type room : ℕ) where
    there : (h : Option ℕ) (picked : Option Picked) → home ≡ h → Spotted given home may shape type picked → Spotted given h may shape type picked
    there h picked e p = subst (λ h. Spotted given h may shape type picked) e p

    reads : (base : Base) (parts : List Part) (picked : Option Picked) → IsIn home base → LeadsTo whole main local_size rank f given may base parts type room → Spotted given home may shape type picked → may.reads ≡ true → Reads whole main local_size rank f given shape base parts picked
    unfolding place_of
    reads (Variable id class) parts picked at l p h = record { place = place_of given may class id parts shape type room picked l (there (Some class) picked (in_variable home id class at) p); readable = l.readable h }
    reads (Value id of_whole) parts picked at l p h = part_of given may id of_whole parts shape type room picked l (there None picked (in_value home id of_whole at) p)

    stores : (base : Base) (parts : List Part) (picked : Option Picked) → IsIn home base → LeadsTo whole main local_size rank f given may base parts type room → Spotted given home may shape type picked → may.stores ≡ true → Stores whole main local_size rank f given shape base parts picked
    unfolding place_of
    stores (Variable id class) parts picked at l p h = record {
      place = place_of given may class id parts shape type room picked l (there (Some class) picked (in_variable home id class at) p);
      changes = l.changes h;
      takes = p.takes h;
      more = λ several. takes_one given may class id parts type room l;
    }
    stores (Value id of_whole) parts picked at l p h = tt

    updates : (base : Base) (parts : List Part) (picked : Option Picked) → IsIn home base → LeadsTo whole main local_size rank f given may base parts type room → Spotted given home may shape type picked → may.reads ≡ true → may.stores ≡ true → Updates whole main local_size rank f given shape base parts picked
    unfolding place_of
    updates (Variable id class) parts picked at l p r h = record {
      place = place_of given may class id parts shape type room picked l (there (Some class) picked (in_variable home id class at) p);
      readable = l.readable r;
      changes = l.changes h;
      takes = p.takes h;
      more = λ several. takes_one given may class id parts type room l;
    }
    updates (Value id of_whole) parts picked at l p r h = part_of given may id of_whole parts shape type room picked l (there None picked (in_value home id of_whole at) p)

    points : (base : Base) (parts : List Part) (picked : Option Picked) → IsIn home base → LeadsTo whole main local_size rank f given may base parts type room → Spotted given home may shape type picked → places.IsThere whole main local_size rank f given shape base parts picked
    points (Variable id class) parts picked at l p = place_of given may class id parts shape type room picked l (there (Some class) picked (in_variable home id class at) p)
    points (Value id of_whole) parts picked at l p = tt

  -- ---- by what is known of it

  module _ (given : List ℕ) (spot : Spot) (shape : Shape) (r : Reached) (plain : spot.shape ≡ Some shape) (is : IsReached whole main local_size rank f given spot r) where
    spot_of : Spotted given spot.home spot.may shape spot.type r.picked
    spot_of = subst (λ o. IsThere whole main local_size rank f given spot.home spot.may o spot.type r.picked) plain is.is

    pub may_read : spot.may.reads ≡ true → MayRead whole main local_size rank f given shape r
    may_read h = reads given spot.home spot.may shape spot.type spot.room r.base r.path r.picked is.at_home is.leads spot_of h

    pub may_store : spot.may.stores ≡ true → MayStore whole main local_size rank f given shape r
    may_store h = stores given spot.home spot.may shape spot.type spot.room r.base r.path r.picked is.at_home is.leads spot_of h

    pub may_update : spot.may.reads ≡ true → spot.may.stores ≡ true → MayUpdate whole main local_size rank f given shape r
    may_update reading storing = updates given spot.home spot.may shape spot.type spot.room r.base r.path r.picked is.at_home is.leads spot_of reading storing

    pub may_point : MayPoint whole main local_size rank f given shape r
    may_point = points given spot.home spot.may shape spot.type spot.room r.base r.path r.picked is.at_home is.leads spot_of
