-- Values of parameters go back to where their arguments lead.
use Rattle.std.proofs.Common.{◌≡◌, ℕ, Bool, false, List, [], ◌∷◌, Option, Some, None, refl, sym, ap, subst}
use Rattle.gsl_types.specs.declared.ty.Direction.{Direction}
use Rattle.gsl_types.specs.declared.ty.StructType.{StructType}
use Rattle.gsl_types.specs.declared.ty.Ty.{Ty}
use Rattle.gsl_tree.specs.Shapes.{Shape, shape_of}
use Rattle.gsl_words.specs.declared.module.Module.{Module}
use Rattle.gsl_spv.specs.Sections.{Sections}
use Rattle.gsl_lower_values.specs.Constructors.{operand}
use Rattle.gsl_lower_values.specs.Operators.{converted}
use Rattle.gsl_lower_places.specs.declared.reached.Reached.{Reached}
use Rattle.gsl_lower_holders.specs.Flow.{Emit, Flow, Lowered, behind, type_id}
use Rattle.gsl_lower_holders.specs.Waiting.{fetch_reached, take_back}
use Rattle.gsl_lower_expr.specs.Calls.{all_back, as_argument, back, back_if, tys}
use Rattle.gsl_lower_expr.specs.Parts.{Lower, any_splits, scalar_of, stores}
use Rattle.gsl_fitting.specs.Fits.{Frame}
use Rattle.gsl_fitting_types.specs.Making.{AreSorted, made}
use Rattle.gsl_fitting_types.proofs.Knowing.{some_is}
use Rattle.gsl_fitting_operators.proofs.Operators.{converted_fits, converted_sorts}
use Rattle.gsl_fitting_flow.specs.Flowing.{EmitStays, Flows, GivesNone, GivesOf, IsHolder, IsLater, IsOf}
use Rattle.gsl_fitting_flow.proofs.Following.{emit_then, flow_same, flows_so, flows_then, given_flows, later_of, later_then, lift_stays}
use Rattle.gsl_fitting_flow.proofs.Holding.{of_later, take_flows, take_stays, type_on, type_stays}
use Rattle.gsl_fitting_expr.proofs.Steps.{step_flows, value_of}
use Rattle.gsl_fitting_reaching.specs.Reached.{IsReached, Spot}
use Rattle.gsl_fitting_reads.specs.Waiting.{StaysReached}
use Rattle.gsl_fitting_reads.proofs.Fetching.{fetch_reached_flows, fetch_reached_stays}
use Rattle.gsl_fitting_reads.proofs.Reading.{type_then}
use Rattle.gsl_fitting_reads.proofs.Storing.{stores_flow, stores_stay}
use Rattle.gsl_fitting_indexes.proofs.Indexing.{kept_later}
use Rattle.gsl_fitting_passed.specs.Arguments.{ArePassed, GoesBack, GoesBackBy, IsPassed, Way}
use Rattle.gsl_fitting_passed.proofs.Passing.{AllSent, GoesTo, Passed, all_later}

some_pair : {A B : Type 0} (a b : A) (c d : B) → ◌≡◌ {A = Option (A × B)} (Some (a, c)) (Some (b, d)) → (a ≡ b) × (c ≡ d)
some_pair {A} {B} a b c d e = let first : A × B = (a, c) in let second : A × B = (b, d) in let both = some_is first second e in (ap (λ (x : A × B). x.0) both, ap (λ (x : A × B). x.1) both)

-- ---- parts

abbrev store_of : List StructType → Ty → ℕ → Reached → Emit (Unit {0})
store_of structs arg word r = stores structs arg r word

abbrev fetch_of : List StructType → Ty → Bool → Reached → ℕ → Emit (Unit {0})
fetch_of structs arg waits kept word u = behind (fetch_reached waits kept u) (store_of structs arg word)

abbrev as_of : List StructType → Ty → Ty → Bool → Reached → ℕ → Emit (Unit {0})
as_of structs t arg waits kept v u = behind (as_argument arg (shape_of t) v u) (fetch_of structs arg waits kept)

abbrev take_of : List StructType → Ty → Ty → ℕ → Bool → Reached → ℕ → Emit (Unit {0})
take_of structs t arg h waits kept type u = behind (take_back h type u) (as_of structs t arg waits kept)

-- ---- what stays

as_stays : (arg : Ty) (shape : Option Shape) (v : ℕ) (u : Flow) → EmitStays u (as_argument arg shape v u)
as_stays arg None v u = flow_same u
as_stays arg (Some shape) v u = lift_stays u (converted (scalar_of arg) (operand shape v) u.sections) (converted_sorts (scalar_of arg) (operand shape v) u.sections)

fetch_stays : (structs : List StructType) (arg : Ty) (waits : Bool) (kept : Reached) (word : ℕ) (u : Flow) → EmitStays u (fetch_of structs arg waits kept word u)
fetch_stays structs arg waits kept word u = emit_then u (fetch_reached waits kept u) (store_of structs arg word) (fetch_reached_stays waits kept u) (λ r v. stores_stay structs arg r word v)

as_of_stays : (structs : List StructType) (t arg : Ty) (waits : Bool) (kept : Reached) (v : ℕ) (u : Flow) → EmitStays u (as_of structs t arg waits kept v u)
as_of_stays structs t arg waits kept v u = emit_then u (as_argument arg (shape_of t) v u) (fetch_of structs arg waits kept) (as_stays arg (shape_of t) v u) (λ word w. fetch_stays structs arg waits kept word w)

take_of_stays : (structs : List StructType) (t arg : Ty) (h : ℕ) (waits : Bool) (kept : Reached) (type : ℕ) (u : Flow) → EmitStays u (take_of structs t arg h waits kept type u)
take_of_stays structs t arg h waits kept type u = emit_then u (take_back h type u) (as_of structs t arg waits kept) (take_stays h type u) (λ v w. as_of_stays structs t arg waits kept v w)

if_stays : (structs : List StructType) (t arg : Ty) (h : ℕ) (waits : Bool) (kept : Option Reached) (u : Flow) → EmitStays u (back_if structs t arg h waits kept u)
if_stays structs t arg h waits None u = flow_same u
if_stays structs t arg h waits (Some kept) u = emit_then u (type_id t u) (take_of structs t arg h waits kept) (type_stays t u) (λ type v. take_of_stays structs t arg h waits kept type v)

back_stays : (structs : List StructType) (t arg : Ty) (p : Passed) (u : Flow) → EmitStays u (back structs t arg p u)
unfolding back
back_stays structs t arg p u = if_stays structs t arg p.pointer p.waits p.back u

abbrev next_of : List StructType → List Passed → List (Direction × Ty) → List Ty → Unit {0} → Emit (Unit {0})
next_of structs ps params args done = all_back structs ps params args

pub all_back_stay : (structs : List StructType) (ps : List Passed) (params : List (Direction × Ty)) (args : List Ty) (u : Flow) → EmitStays u (all_back structs ps params args u)
unfolding all_back
all_back_stay structs [] params args u = flow_same u
all_back_stay structs (p ∷ ps) [] args u = flow_same u
all_back_stay structs (p ∷ ps) (param ∷ params) [] u = flow_same u
all_back_stay structs (p ∷ ps) (param ∷ params) (arg ∷ args) u = emit_then u (back structs param.1 arg p u) (next_of structs ps params args) (back_stays structs param.1 arg p u) (λ done v. all_back_stay structs ps params args v)

module _ (whole : Sections) (main : ℕ) (local_size : List ℕ) (rank : ℕ → ℕ) (f : Frame) (sorted : AreSorted whole) where
  abbrev m : Module
  m = made whole main local_size rank f

  abbrev F : ℕ → List ℕ → Flow → Lowered (Unit {0}) → Type 0
  F deep given u lowered = Flows whole main local_size rank f [] deep false given (GivesNone whole main local_size rank f) u lowered

  abbrev Kept : Bool → List ℕ → Spot → Reached → Type 0
  Kept b given spot r = StaysReached whole main local_size rank f b given spot r

  fetch_flows : (s : Flow) (deep : ℕ) (given : List ℕ) (structs : List StructType) (t arg : Ty) (waits : Bool) (spot : Spot) (type other : ℕ) (kept : Reached) (word : ℕ) (u : Flow) → IsLater s u → GoesBack whole main local_size rank f s structs t arg spot type other → Kept waits given spot kept
      → IsOf whole main local_size rank f given other word → F deep given u (fetch_of structs arg waits kept word u)
  fetch_flows s deep given structs t arg waits spot type other kept word u here back stays value =
      flows_then whole main local_size rank f [] [] deep false false given (λ r now after. IsReached whole main local_size rank f now spot r × IsOf whole main local_size rank f now other word) (GivesNone whole main local_size rank f) u (fetch_reached waits kept u) (store_of structs arg word) (fetch_reached_stays waits kept u)
      (flows_so whole main local_size rank f [] deep false given (λ r now after. IsReached whole main local_size rank f now spot r) (λ r now after. IsReached whole main local_size rank f now spot r × IsOf whole main local_size rank f now other word) u (fetch_reached waits kept u)
      (λ r now after inside wider is. (is, of_later whole main local_size rank f sorted given now other word (wider refl) value)) (fetch_reached_flows whole main local_size rank f sorted waits deep given spot kept u stays)) (λ r v. stores_stay structs arg r word v)
      (λ r v now both wider on inside. stores_flow whole main local_size rank f sorted s deep now structs arg spot other r word v (later_then s u v here (later_of on)) back.put back.stores both.0 both.1)

  as_flows : (deep : ℕ) (given : List ℕ) (arg : Ty) (type other : ℕ) (shape : Option Shape) (v : ℕ) (u : Flow) → GoesBackBy whole main local_size rank f arg type other shape → IsOf whole main local_size rank f given type v
      → Flows whole main local_size rank f [] deep false given (GivesOf whole main local_size rank f other) u (as_argument arg shape v u)
  as_flows deep given arg type other None v u same value = given_flows whole main local_size rank f deep given (GivesOf whole main local_size rank f other) v u (λ inside. subst (λ z. IsOf whole main local_size rank f given z v) (sym same) value)
  as_flows deep given arg type other (Some shape) v u plain value =
      step_flows whole main local_size rank f sorted deep given (scalar_of arg, shape.1) other (converted (scalar_of arg) (operand shape v)) u plain.1
      (converted_fits whole main local_size rank f sorted given (scalar_of arg) (operand shape v) u.sections plain.0.sized (value_of whole main local_size rank f sorted given shape type v plain.0 value))

  as_of_flows : (s : Flow) (deep : ℕ) (given : List ℕ) (structs : List StructType) (t arg : Ty) (waits : Bool) (spot : Spot) (type other : ℕ) (kept : Reached) (v : ℕ) (u : Flow) → IsLater s u → GoesBack whole main local_size rank f s structs t arg spot type other → Kept waits given spot kept
      → IsOf whole main local_size rank f given type v → F deep given u (as_of structs t arg waits kept v u)
  as_of_flows s deep given structs t arg waits spot type other kept v u here back stays value =
      flows_then whole main local_size rank f [] [] deep false false given (λ word now after. IsOf whole main local_size rank f now other word × Kept waits now spot kept) (GivesNone whole main local_size rank f) u (as_argument arg (shape_of t) v u) (fetch_of structs arg waits kept) (as_stays arg (shape_of t) v u)
      (flows_so whole main local_size rank f [] deep false given (GivesOf whole main local_size rank f other) (λ word now after. IsOf whole main local_size rank f now other word × Kept waits now spot kept) u (as_argument arg (shape_of t) v u)
      (λ word now after inside wider is. (is, kept_later whole main local_size rank f sorted waits given now spot kept (λ none_. wider refl) stays)) (as_flows deep given arg type other (shape_of t) v u back.as_argument value)) (λ word w. fetch_stays structs arg waits kept word w)
      (λ word w now both wider on inside. fetch_flows s deep now structs t arg waits spot type other kept word w (later_then s u w here (later_of on)) back both.1 both.0)

  take_of_flows : (s : Flow) (deep : ℕ) (given : List ℕ) (structs : List StructType) (t arg : Ty) (h : ℕ) (waits : Bool) (spot : Spot) (type other : ℕ) (kept : Reached) (u : Flow) → IsLater s u → GoesBack whole main local_size rank f s structs t arg spot type other → IsHolder whole main local_size rank f type h
      → Kept waits given spot kept → F deep given u (take_of structs t arg h waits kept type u)
  take_of_flows s deep given structs t arg h waits spot type other kept u here back holder stays =
      flows_then whole main local_size rank f [] [] deep false false given (λ v now after. IsOf whole main local_size rank f now type v × Kept waits now spot kept) (GivesNone whole main local_size rank f) u (take_back h type u) (as_of structs t arg waits kept) (take_stays h type u)
      (flows_so whole main local_size rank f [] deep false given (GivesOf whole main local_size rank f type) (λ v now after. IsOf whole main local_size rank f now type v × Kept waits now spot kept) u (take_back h type u)
      (λ v now after inside wider is. (is, kept_later whole main local_size rank f sorted waits given now spot kept (λ none_. wider refl) stays)) (take_flows whole main local_size rank f sorted deep given type h u holder)) (λ v w. as_of_stays structs t arg waits kept v w)
      (λ v w now both wider on inside. as_of_flows s deep now structs t arg waits spot type other kept v w (later_then s u w here (later_of on)) back both.1 both.0)

  -- ---- one, and all

  abbrev Returns : Flow → List StructType → Ty → Ty → Way → Type 0
  Returns s structs t arg way = (spot : Spot) (other : ℕ) → way.back ≡ Some (spot, other) → GoesBack whole main local_size rank f s structs t arg spot way.type other

  returns_of : (s : Flow) (deep : ℕ) (structs : List StructType) (waits : Bool) (t : Ty) (arg : Lower) (direction : Direction) (way : Way) → IsPassed whole main local_size rank f s deep structs waits t arg direction way → Returns s structs t arg.ty way
  returns_of s deep structs waits t arg _ _ (IsPassed.goes_in e) place what is = absurd cc
  returns_of s deep structs waits t arg _ _ (IsPassed.comes_out {type} {other} {asks} {spot} y test zero goes) place what is = by (some_pair spot place other what is)
    where
      by : (spot ≡ place) × (other ≡ what) → GoesBack whole main local_size rank f s structs t arg.ty place type what
      by both = subst (λ z. GoesBack whole main local_size rank f s structs t arg.ty z type what) both.0 (subst (λ z. GoesBack whole main local_size rank f s structs t arg.ty spot type z) both.1 goes)
  returns_of s deep structs waits t arg _ _ (IsPassed.goes_both {type} {other} {asks} {more} {spot} y got reading goes) place what is = by (some_pair spot place other what is)
    where
      by : (spot ≡ place) × (other ≡ what) → GoesBack whole main local_size rank f s structs t arg.ty place type what
      by both = subst (λ z. GoesBack whole main local_size rank f s structs t arg.ty z type what) both.0 (subst (λ z. GoesBack whole main local_size rank f s structs t arg.ty spot type z) both.1 goes)

  back_flows : (s : Flow) (deep : ℕ) (given : List ℕ) (structs : List StructType) (waits : Bool) (t arg : Ty) (way : Option (Spot × ℕ)) (type : ℕ) (p : Passed) (u : Flow) → IsLater s u → ((spot : Spot) (other : ℕ) → way ≡ Some (spot, other) → GoesBack whole main local_size rank f s structs t arg spot type other)
      → IsHolder whole main local_size rank f type p.pointer → GoesTo whole main local_size rank f sorted waits given way p → F deep given u (back structs t arg p u)
  unfolding back
  back_flows s deep given structs waits t arg _ type _ u here returns holder GoesTo.nowhere = given_flows whole main local_size rank f deep given (GivesNone whole main local_size rank f) tt u (λ inside. tt)
  back_flows s deep given structs waits t arg _ type _ u here returns holder (GoesTo.back_to {h} {kept} {spot} {other} stays) =
      let goes = returns spot other refl in
      type_then whole main local_size rank f sorted deep given t type (GivesNone whole main local_size rank f) u (take_of structs t arg h waits kept) (type_on whole main local_size rank f sorted s u t type here goes.same) (λ type v. take_of_stays structs t arg h waits kept type v)
      (λ v now wider later inside. take_of_flows s deep now structs t arg h waits spot type other kept v (later_then s u v here later) goes holder (kept_later whole main local_size rank f sorted waits given now spot kept (λ none_. wider) stays))

  pub all_back_flow : (s : Flow) (deep : ℕ) (structs : List StructType) (args : List Lower) (params : List (Direction × Ty)) (ways : List Way) → ArePassed whole main local_size rank f s deep structs args params ways → (given : List ℕ) (ps : List Passed) (u : Flow) → IsLater s u
      → AllSent whole main local_size rank f sorted given args ways ps → F deep given u (all_back structs ps params (tys args) u)
  unfolding all_back
  all_back_flow s deep structs _ _ _ ArePassed.no_more given _ u here AllSent.none_sent = given_flows whole main local_size rank f deep given (GivesNone whole main local_size rank f) tt u (λ inside. tt)
  all_back_flow s deep structs _ _ _ (ArePassed.one_more {arg} {args} {direction} {t} {params} {way} {ways} one more) given _ u here (AllSent.one_sent {p} {ps} sent rest) =
      flows_then whole main local_size rank f [] [] deep false false given (λ done now after. AllSent whole main local_size rank f sorted now args ways ps) (GivesNone whole main local_size rank f) u (back structs t arg.ty p u) (next_of structs ps params (tys args)) (back_stays structs t arg.ty p u)
      (flows_so whole main local_size rank f [] deep false given (GivesNone whole main local_size rank f) (λ done now after. AllSent whole main local_size rank f sorted now args ways ps) u (back structs t arg.ty p u) (λ done now after inside wider nothing. all_later whole main local_size rank f sorted given now args ways ps (wider refl) rest)
      (back_flows s deep given structs (any_splits args) t arg.ty way.back way.type p u here (returns_of s deep structs (any_splits args) t arg direction way one) sent.holder sent.goes)) (λ done v. all_back_stay structs ps params (tys args) v)
      (λ done v now all wider on inside. all_back_flow s deep structs args params ways more now ps v (later_then s u v here (later_of on)) all)
