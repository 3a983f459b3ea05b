-- What is reached is tested before calls.
use Rattle.std.proofs.Common.{◌≡◌, ℕ, Bool, true, false, List, [], ◌∷◌, ◌++◌, Option, Some, None, refl, sym, ◌∙◌, subst}
use Rattle.gsl_types.specs.declared.ty.StructType.{StructType}
use Rattle.gsl_types.specs.declared.ty.Ty.{Ty}
use Rattle.gsl_tree.specs.Shapes.{Shape, shape_of}
use Rattle.gsl_spv.specs.Sections.{Sections}
use Rattle.gsl_lower_values.specs.Building.{Built, Step}
use Rattle.gsl_lower_values.specs.Building as steps
use Rattle.gsl_lower_leaves.specs.Leaves.{leaves_of}
use Rattle.gsl_lower_leaves.specs.declared.leaf.Leaf.{Leaf}
use Rattle.gsl_lower_places.specs.Pointed.{pointed}
use Rattle.gsl_lower_places.specs.Reading.{read}
use Rattle.gsl_lower_places.specs.declared.reached.Base.{Base}
use Rattle.gsl_lower_places.specs.declared.reached.Base.TheVariants.{Value, Variable}
use Rattle.gsl_lower_places.specs.declared.reached.Reached.{Reached}
use Rattle.gsl_lower_holders.specs.Flow.{Flow, lift}
use Rattle.gsl_lower_expr.specs.Parts.{first_leaf, leaf_of, probe, probe_by, tested}
use Rattle.gsl_fitting.specs.Fits.{Frame}
use Rattle.gsl_fitting_types.specs.Making.{AreSorted, Comes, GivesValue, Sorts}
use Rattle.gsl_fitting_types.proofs.Sorting.{sorts_then, stays_same}
use Rattle.gsl_fitting_types.proofs.Stepping.{comes_then, given_comes}
use Rattle.gsl_fitting_places.specs.Leading.{Nothing}
use Rattle.gsl_fitting_places.specs.Places.{MayPoint, MayRead}
use Rattle.gsl_fitting_places.specs.Places as places
use Rattle.gsl_fitting_places.proofs.Parting.{read_fits, read_sorts}
use Rattle.gsl_fitting_places.proofs.Pointing.{pointed_comes, pointed_sorts}
use Rattle.gsl_fitting_flow.specs.Flowing.{EmitStays, Flows, GivesNone}
use Rattle.gsl_fitting_flow.proofs.Following.{lift_flows, lift_stays}
use Rattle.gsl_fitting_reaching.specs.Reached.{IsIn, IsReached, LeadsTo, Spot}
use Rattle.gsl_fitting_reaching.proofs.Serving.{may_point, may_read}
use Rattle.gsl_fitting_reads.specs.Moving.{HasLeaf}
use Rattle.gsl_fitting_reads.proofs.Leaves.{leaf_place}
use Rattle.gsl_fitting_reads.proofs.Reading.{class_is}
use Rattle.gsl_fitting_indexes.specs.Indexes.{HasFirst, IsTested}

abbrev nothing : {A : Type 0} → A → Step (Unit {0})
nothing to = steps.given tt

tested_sorts : (base : Base) (shape : Shape) (r : Reached) (s : Sections) → Sorts s (tested base shape r s)
tested_sorts (Variable id class) shape r s = sorts_then s (pointed shape r s) nothing (pointed_sorts shape r s) (λ to t. stays_same t)
tested_sorts (Value id of_whole) shape r s = sorts_then s (read shape r s) nothing (read_sorts shape r s) (λ v t. stays_same t)

probe_sorts : (structs : List StructType) (calls : Bool) (t : Ty) (r : Reached) (s : Sections) → Sorts s (probe structs calls t r s)
unfolding probe
probe_sorts structs false t r s = stays_same s
probe_sorts structs true t r s = by (shape_of t)
  where
    leaf : (leaves : List Leaf) → Sorts s (first_leaf r leaves s)
    leaf [] = stays_same s
    leaf (one ∷ more) = tested_sorts r.base one.shape (leaf_of r one) s

    by : (o : Option Shape) → Sorts s (probe_by structs t r o s)
    by (Some shape) = tested_sorts r.base shape r s
    by None = leaf (leaves_of structs t)

pub probe_stays : (structs : List StructType) (calls : Bool) (t : Ty) (r : Reached) (u : Flow) → EmitStays u (lift (probe structs calls t r) u)
probe_stays structs calls t r u = lift_stays u (probe structs calls t r u.sections) (probe_sorts structs calls t r u.sections)

module _ (whole : Sections) (main : ℕ) (local_size : List ℕ) (rank : ℕ → ℕ) (f : Frame) (sorted : AreSorted whole) where
  abbrev C : List ℕ → Sections → Built (Unit {0}) → Type 0
  C given before built = Comes whole main local_size rank f given Nothing before built

  tested_comes : (given : List ℕ) (base : Base) (shape : Shape) (r : Reached) (before : Sections) → MayPoint whole main local_size rank f given shape r → (((id type : ℕ) → base ≡ Value id type → MayRead whole main local_size rank f given shape r)) → C given before (tested base shape r before)
  tested_comes given (Variable id class) shape r before points reads =
      comes_then whole main local_size rank f given (λ to now after. Unit {0}) Nothing before (pointed shape r before) nothing (pointed_sorts shape r before) (pointed_comes whole main local_size rank f sorted given shape r before points) (λ to t. stays_same t)
      (λ to t now is wider extends inside. given_comes whole main local_size rank f now Nothing tt t (λ inside. tt))
  tested_comes given (Value id of_whole) shape r before points reads =
      comes_then whole main local_size rank f given (GivesValue whole main local_size rank f shape) Nothing before (read shape r before) nothing (read_sorts shape r before) (read_fits whole main local_size rank f sorted given shape r before (reads id of_whole refl)) (λ v t. stays_same t)
      (λ v t now is wider extends inside. given_comes whole main local_size rank f now Nothing tt t (λ inside. tt))

  none_of : (home : Option ℕ) (base : Base) {id type : ℕ} → base ≡ Value id type → IsIn home base → home ≡ None
  none_of home base {id} {type} e there = by home (subst (IsIn home) e there)
    where
      by : (home : Option ℕ) → IsIn home (Value id type) → home ≡ None
      by None there = refl
      by (Some class) there = absurd there

  leaf_comes : (given : List ℕ) (spot : Spot) (class : ℕ) (r : Reached) (leaves : List Leaf) (before : Sections) → spot.home ≡ Some class → HasFirst whole main local_size rank f class spot leaves → IsReached whole main local_size rank f given spot r → C given before (first_leaf r leaves before)
  leaf_comes given spot class r [] before home has is = given_comes whole main local_size rank f given Nothing tt before (λ inside. tt)
  leaf_comes given spot class r (one ∷ more) before home has is =
      tested_comes given r.base one.shape (leaf_of r one) before (by r.base is.at_home is.leads) (λ id type e. absurd (not_value (none_of spot.home r.base e is.at_home)))
    where
      not_value : spot.home ≡ None → ⊥
      not_value e = other (sym home ∙ e)
        where
          other : Some class ≡ None → ⊥
          other e = cc

      by : (base : Base) → IsIn spot.home base → LeadsTo whole main local_size rank f given spot.may base r.path spot.type spot.room → places.IsThere whole main local_size rank f given one.shape base (r.path ++ one.path) None
      by (Variable id own) there l =
          leaf_place whole main local_size rank f sorted given spot.may own id r.path spot.type spot.room one l
          (subst (λ c. HasLeaf whole main local_size rank f c spot.may spot.type spot.room one) (sym (class_is whole main local_size rank f sorted spot.home class id own home there)) has)
      by (Value id of_whole) there l = tt

  pub probe_flows : (deep : ℕ) (given : List ℕ) (structs : List StructType) (calls : Bool) (t : Ty) (spot : Spot) (r : Reached) (u : Flow) → IsTested whole main local_size rank f structs t spot calls → IsReached whole main local_size rank f given spot r
      → Flows whole main local_size rank f [] deep false given (GivesNone whole main local_size rank f) u (lift (probe structs calls t r) u)
  unfolding probe
  probe_flows deep given structs calls t spot r u test is = lift_flows whole main local_size rank f deep given Nothing u (probe structs calls t r u.sections) (comes calls test)
    where
      comes : (calls : Bool) → IsTested whole main local_size rank f structs t spot calls → C given u.sections (probe structs calls t r u.sections)
      comes _ IsTested.no_call = given_comes whole main local_size rank f given Nothing tt u.sections (λ inside. tt)
      comes false (IsTested.in_shape shaped plain reads) = given_comes whole main local_size rank f given Nothing tt u.sections (λ inside. tt)
      comes false (IsTested.by_leaf shaped plain home has) = given_comes whole main local_size rank f given Nothing tt u.sections (λ inside. tt)
      comes true (IsTested.in_shape {calls} {shape} shaped plain reads) =
          subst (λ o. C given u.sections (probe_by structs t r o u.sections)) (sym shaped)
          (tested_comes given r.base shape r u.sections (may_point whole main local_size rank f sorted given spot shape r plain is)
          (λ id type e. may_read whole main local_size rank f sorted given spot shape r plain is (reads (none_of spot.home r.base e is.at_home))))
      comes true (IsTested.by_leaf {calls} {class} shaped plain home has) = subst (λ o. C given u.sections (probe_by structs t r o u.sections)) (sym shaped) (leaf_comes given spot class r (leaves_of structs t) u.sections home has is)
