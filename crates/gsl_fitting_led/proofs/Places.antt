-- Members and swizzles of what an expression leads to.
use Rattle.std.proofs.Common.{◌≡◌, ◌≢◌, ℕ, ◌+◌, ◌≤◌, ◌<◌, Bool, true, false, ◌&&◌, ◌||◌, not, List, [], ◌∷◌, length, Option, Some, None, refl, sym, ap, ◌∙◌, subst, zero, suc, arith, append-nil}
use Rattle.std.specs.Prelude.{eqb, nat_eq, nat_lt, slice_get}
use Rattle.std.specs.List.{AllByRecursion, IsDistinct, list_all, list_any}
use Rattle.std.proofs.lemmas.Bool.{and_parts, eqb-true, ltb-true, or_parts}
use Rattle.std.proofs.lemmas.List.{length-take-le}
use Rattle.std.proofs.lemmas.Map.Steps.{length-le_from_distinct_below}
use Rattle.gsl_types.specs.declared.ty.Direction.{Direction}
use Rattle.gsl_types.specs.declared.ty.Member.{Member}
use Rattle.gsl_types.specs.declared.ty.Scalar.{Scalar}
use Rattle.gsl_types.specs.declared.ty.StructType.{StructType}
use Rattle.gsl_types.specs.declared.ty.Ty.{Ty}
use Rattle.gsl_types.specs.declared.ty.Ty.TheOpen.{Ty-F}
use Rattle.gsl_types.specs.declared.ty.Ty.TheVariants as ty
use Rattle.gsl_types.specs.declared.ty.Ty.TheVariants.{outs-Struct}
use Rattle.gsl_types.specs.declared.ty.Ty.TheViews.{out-Ty}
use Rattle.gsl_values.specs.Vectors.{components as positions_of}
use Rattle.gsl_values.specs.declared.lane.Lanes.{Lanes}
use Rattle.gsl_tree.specs.Around.{Around}
use Rattle.gsl_tree.specs.Expressions.{HasPartType, IsSwizzle}
use Rattle.gsl_tree.specs.Paths.{is_unreadable, is_writable, repeats}
use Rattle.gsl_tree.specs.Shapes.{Shape, shape_kind, shape_of}
use Rattle.gsl_tree.specs.Statements.{expr_depth}
use Rattle.gsl_tree.specs.Trees.{form_of, type_of}
use Rattle.gsl_tree.specs.WellTyped.{AreWellTyped, around_body, program_lists}
use Rattle.gsl_tree.specs.declared.expr.Expr.{Expr}
use Rattle.gsl_tree.specs.declared.expr.ExprKind.{ExprKind}
use Rattle.gsl_tree.specs.declared.expr.ExprKind.TheOpen.{ExprKind-F}
use Rattle.gsl_tree.specs.declared.program.Program.{Program}
use Rattle.gsl_spv.specs.Sections.{Sections}
use Rattle.gsl_lower_places.specs.Reached.{swizzled}
use Rattle.gsl_lower_places.specs.declared.reached.Base.{Base}
use Rattle.gsl_lower_places.specs.declared.reached.Base.TheVariants.{Value, Variable}
use Rattle.gsl_lower_places.specs.declared.reached.Part.{Part}
use Rattle.gsl_lower_places.specs.declared.reached.Part.TheVariants.{Fixed}
use Rattle.gsl_lower_places.specs.declared.reached.Picked.{Picked}
use Rattle.gsl_lower_places.specs.declared.reached.Reached.{Reached}
use Rattle.gsl_lower_holders.specs.Flow.{Emit, Flow, behind}
use Rattle.gsl_lower_holders.specs.Flow as flows
use Rattle.gsl_lower_traits.specs.Traits as traits
use Rattle.gsl_lower_traits.specs.declared.traits.Traits.{Traits}
use Rattle.gsl_lower_expr.specs.Parts as parts
use Rattle.gsl_lower_expr.specs.Parts.{Lower, shape_or}
use Rattle.gsl_lower_needs.specs.Asking as asking
use Rattle.gsl_lower_needs.specs.Needs as needs
use Rattle.gsl_lower_needs.specs.Needs.{Asking}
use Rattle.gsl_fitting.specs.Fits.{Frame}
use Rattle.gsl_fitting_flow.proofs.Following.{flows_so}
use Rattle.gsl_fitting_reaching.specs.Reached.{IsReached, IsThere, LeadsTo, May, Parts, Reaches, Spot, by_positions, part_spot, swizzle_spot}
use Rattle.gsl_fitting_reaching.proofs.Names.{member_reaches, swizzle_reaches}
use Rattle.gsl_fitting_valued.specs.OfFittingKnown.{IsSilent, LeadsThere, is_valued}
use Rattle.gsl_fitting_valued.specs.OfFittingKnown.{is_picked, word_of}
use Rattle.gsl_fitting_valued.specs.OfFittingKnown.{Knows}
use Rattle.gsl_fitting_valued.specs.OfFittingKnown.{LieAll, Lies}
use Rattle.gsl_fitting_valued.proofs.OfFittingKnown.{layer_real, place_fits, shaped_real}
use Rattle.gsl_fitting_valued.proofs.Simple as simple
use Rattle.gsl_fitting_valued.proofs.OfFittingKnown.{some_is}
use Rattle.gsl_fitting_valued.proofs.OfFittingKnown.{wants_given, wants_last}

-- ---- lists of positions

none_apart : (p : ℕ) (ps : List ℕ) (n : ℕ) → AllByRecursion (λ q. q < n) ps → (q : ℕ) → list_any (λ r. nat_eq q r) ps ≡ true → q < n
none_apart p [] n below q is = absurd (let z : false ≡ true = is in cc)
none_apart p (r ∷ ps) n below q is = by (λ more. none_apart p ps n below.1 q more) (nat_eq q r) refl
  where
    by : (list_any (λ x. nat_eq q x) ps ≡ true → q < n) → (b : Bool) → nat_eq q r ≡ b → q < n
    by rest true e = subst (λ x. x < n) (sym (eqb-true q r e)) below.0
    by rest false e = rest (sym (ap (λ b. b || list_any (λ x. nat_eq q x) ps) e) ∙ is)

none_same : (p : ℕ) (ps : List ℕ) → list_any (λ r. nat_eq p r) ps ≡ false → AllByRecursion (λ y. eqb p y ≡ false) ps
none_same p [] is = tt
none_same p (r ∷ ps) is = let w = or_parts (nat_eq p r) (list_any (λ x. nat_eq p x) ps) is in (w.0, none_same p ps w.1)

are_distinct : (ps : List ℕ) → repeats ps ≡ false → IsDistinct eqb ps
unfolding IsDistinct
are_distinct [] is = tt
are_distinct (p ∷ ps) is = let w = or_parts (list_any (λ r. nat_eq p r) ps) (repeats ps) is in (none_same p ps w.0, are_distinct ps w.1)

-- positions of which none is there twice are no more than there are
pub few_positions : (n : ℕ) (ps : List ℕ) → AllByRecursion (λ p. p < n) ps → repeats ps ≡ false → length ps ≤ n
few_positions n ps below apart = length-le_from_distinct_below ps n (are_distinct ps apart) (λ q is. none_apart q ps n below q is)

all_below : (n : ℕ) (positions : List ℕ) → list_all (λ position. nat_lt position n) positions ≡ true → AllByRecursion (λ position. position < n) positions
all_below n [] is = tt
all_below n (position ∷ positions) is = let both = and_parts (nat_lt position n) (list_all (λ p. nat_lt p n) positions) is in (ltb-true position n both.0, all_below n positions both.1)

not_true : (b : Bool) → not b ≡ true → b ≡ false
not_true true e = absurd (let z : false ≡ true = e in cc)
not_true false e = refl

silent_part : (t : Ty) (known : Traits) → IsSilent known → IsSilent (traits.part_of t known)
silent_part t known silent = record {
  quiet = λ e. silent.still (and_parts known.still (traits.is_plain t) e).0;
  still = silent.still;
  literal = λ number e. absurd (let z : None ≡ Some number = e in cc);
  calm = λ number e. absurd (let z : None ≡ Some number = e in cc);
}

module _ (whole : Sections) (main : ℕ) (local_size : List ℕ) (rank : ℕ → ℕ) (f : Frame) (s : Flow) where
  -- what is known of a place may be less
  pub reaches_so : (asks : List ℕ) (deep : ℕ) (splits : Bool) (spot other : Spot) (reach : Emit Reached) → ((now : List ℕ) (r : Reached) → IsReached whole main local_size rank f now spot r → IsReached whole main local_size rank f now other r)
      → Reaches whole main local_size rank f s asks deep splits spot reach → Reaches whole main local_size rank f s asks deep splits other reach
  reaches_so asks deep splits spot other reach so y = record {
    stays = y.stays;
    flows = λ given u here. flows_so whole main local_size rank f asks deep splits given (λ r now after. IsReached whole main local_size rank f now spot r) (λ r now after. IsReached whole main local_size rank f now other r) u (reach u) (λ r now after inside wider is. so now r is) (y.flows given u here);
  }

  -- where less may be stored
  abbrev pub weaker : Spot → Bool → Spot
  weaker spot stores = record spot { may = record { reads = spot.may.reads; stores = stores } }

  weaker_leads : (given : List ℕ) (may : May) (stores : Bool) (base : Base) (path : List Part) (type room : ℕ) → (stores ≡ true → may.stores ≡ true) → LeadsTo whole main local_size rank f given may base path type room
      → LeadsTo whole main local_size rank f given (record { reads = may.reads; stores = stores }) base path type room
  weaker_leads given may stores (Variable id class) path type room so is = record {
    pointee = is.pointee;
    leads = is.leads;
    known = is.known;
    base = is.base;
    classed = is.classed;
    few = is.few;
    readable = is.readable;
    changes = λ e. is.changes (so e);
  }
  weaker_leads given may stores (Value id of_whole) path type room so is = is

  weaker_there : (given : List ℕ) (home : Option ℕ) (may : May) (stores : Bool) (shape : Option Shape) (type : ℕ) (picked : Option Picked) → (stores ≡ true → may.stores ≡ true) → IsThere whole main local_size rank f given home may shape type picked
      → IsThere whole main local_size rank f given home (record { reads = may.reads; stores = stores }) shape type picked
  weaker_there given home may stores None type picked so is = is
  weaker_there given home may stores (Some shape) type picked so is = record { of = is.of; is = is.is; takes = λ e. is.takes (so e) }

  pub weaker_reaches : (asks : List ℕ) (deep : ℕ) (splits stores : Bool) (spot : Spot) (reach : Emit Reached) → (stores ≡ true → spot.may.stores ≡ true) → Reaches whole main local_size rank f s asks deep splits spot reach → Reaches whole main local_size rank f s asks deep splits (weaker spot stores) reach
  weaker_reaches asks deep splits stores spot reach so y = reaches_so asks deep splits spot (weaker spot stores) reach (λ now r is. record {
    at_home = is.at_home;
    leads = weaker_leads now spot.may stores r.base r.path spot.type spot.room so is.leads;
    is = weaker_there now spot.home spot.may stores spot.shape spot.type r.picked so is.is;
    asked = is.asked;
    chosen = is.chosen;
  }) y

abbrev is_array : Ty-F Ty → Bool
is_array (Ty-F.Array element n) = true
is_array (Ty-F.Runtime element) = true
is_array _ = false

abbrev number_of : Ty-F Ty → ℕ
number_of (Ty-F.Struct k) = k
number_of _ = 0

picked_now : (picked : Option (Option Scalar)) → is_picked (by_positions picked) ≡ true
picked_now None = refl
picked_now (Some by) = refl

by_now : (picked : Option (Option Scalar)) → word_of (by_positions picked) ≡ word_of picked
by_now None = refl
by_now (Some by) = refl

-- A part of what stands for a type stands for a part of it.
pub record Inner (whole : Sections) (main : ℕ) (local_size : List ℕ) (rank : ℕ → ℕ) (f : Frame) (s : Flow) (p : Program) (home : Option ℕ) (may : May) (room type : ℕ) (part : Part) (t : Ty) : Type 0 where
  pub other : ℕ
  pub left : ℕ
  pub deeper : room ≡ suc left
  pub parts : Parts whole main local_size rank f home may type part other
  pub lies : Lies whole main local_size rank f s.place p.structs home may left t other

module _ (whole : Sections) (main : ℕ) (local_size : List ℕ) (rank : ℕ → ℕ) (f : Frame) (s : Flow) (p : Program) (params : List (Direction × Ty)) (locals : List Ty) (well : AreWellTyped (program_lists p))
    (knows : Knows whole main local_size rank f s p.structs (around_body (program_lists p) params locals)) where
  abbrev Is : Expr → Type 0
  Is = simple.Is whole main local_size rank f s p params locals well knows

  abbrev Has : Ty → Type 0
  Has = simple.Has whole main local_size rank f s p params locals well knows

  abbrev Here : ExprKind-F ExprKind Expr → Ty → Type 0
  Here = simple.Here whole main local_size rank f s p params locals well knows

  abbrev low : Expr → Lower
  low = simple.low whole main local_size rank f s p params locals well knows

  abbrev ask : Expr → Asking
  ask = simple.ask whole main local_size rank f s p params locals well knows

  abbrev ids_for : List Ty → List ℕ
  ids_for = simple.ids_for whole main local_size rank f s p params locals well knows

  abbrev around : Around
  around = around_body (program_lists p) params locals

  abbrev There : Bool → Bool → Ty → ℕ → Lower → Asking → Type 0
  There = LeadsThere whole main local_size rank f s p

  -- where a part leads that is a place, or a value whose type has an id
  pub there_of : (e : Expr) → Is e → type_of e ≢ ty.Void → (is_valued (form_of e) ≡ true → Has (type_of e)) → There (is_unreadable around e) (is_writable around e) (type_of e) (expr_depth e) (low e) (ask e)
  there_of e is real root = is.leads (λ v. (root v, real))

  -- ---- members

  member_lies : (home : Option ℕ) (may : May) (room k type i : ℕ) (members : List Member) (member : Member) → LieAll whole main local_size rank f s.place p.structs home may room k members type → slice_get members i ≡ Some member
      → Inner whole main local_size rank f s p home may (suc room) type (Fixed (k + i)) member.ty
  member_lies home may room k type i [] member lie at = absurd (let z : None ≡ Some member = at in cc)
  member_lies home may room k type zero (one ∷ members) member (LieAll.more {other = other} part lies rest) at =
      let same : one ≡ member = some_is one member at in
      let here : k ≡ k + 0 = omega arith in
      record {
        other = other;
        left = room;
        deeper = refl;
        parts = subst (λ n. Parts whole main local_size rank f home may type (Fixed n) other) here part;
        lies = subst (λ (x : Member). Lies whole main local_size rank f s.place p.structs home may room x.ty other) same lies;
      }
  member_lies home may room k type (suc i) (one ∷ members) member (LieAll.more {other = other} part lies rest) at =
      let further : k + 1 + i ≡ k + suc i = omega arith in
      subst (λ n. Inner whole main local_size rank f s p home may (suc room) type (Fixed n) member.ty) further (member_lies home may room (k + 1) type i members member rest at)

  struct_part : (home : Option ℕ) (may : May) (room type number : ℕ) (base t : Ty) → HasPartType p.structs base number t → Lies whole main local_size rank f s.place p.structs home may room base type → Inner whole main local_size rank f s p home may room type (Fixed number) t
  struct_part home may room type number base t (n, struct, member, of, found, at, is) (Lies.plain {shape = shape} shaped stands) = absurd (let z : None ≡ Some shape = sym (ap shape_kind (ap out-Ty of ∙ outs-Struct n)) ∙ shaped in cc)
  struct_part home may room type number base t (n, struct, member, of, found, at, is) (Lies.array {n = k} {element = element} layer own parts words lies) = absurd (let z : Ty-F.Struct n ≡ Ty-F.Array element k = sym (ap out-Ty of ∙ outs-Struct n) ∙ layer in let w : false ≡ true = ap is_array z in cc)
  struct_part home may room type number base t (n, struct, member, of, found, at, is) (Lies.runtime {element = element} layer parts lies) = absurd (let z : Ty-F.Struct n ≡ Ty-F.Runtime element = sym (ap out-Ty of ∙ outs-Struct n) ∙ layer in let w : false ≡ true = ap is_array z in cc)
  struct_part home may room type number base t (n, struct, member, of, found, at, is) (Lies.struct {room = inner} {k = k} {of = other} layer there own lie) =
      let z : Ty-F.Struct n ≡ Ty-F.Struct k = sym (ap out-Ty of ∙ outs-Struct n) ∙ layer in
      let number_same : n ≡ k = ap number_of z in
      let same : struct ≡ other = some_is struct other (sym found ∙ ap (λ x. slice_get p.structs x) number_same ∙ there) in
      let zero_in : 0 + number ≡ number = omega arith in
      subst (λ x. Inner whole main local_size rank f s p home may (suc inner) type (Fixed x) t) zero_in
      (subst (λ u. Inner whole main local_size rank f s p home may (suc inner) type (Fixed (0 + number)) u) is (member_lies home may inner 0 type number other.members member lie (ap (λ (x : StructType). slice_get x.members number) (sym same) ∙ at)))

  struct_none : (base : Ty) (n : ℕ) → base ≡ ty.Struct n → shape_of base ≡ None
  struct_none base n of = ap shape_kind (ap out-Ty of ∙ outs-Struct n)

  pub part_here : (a : Expr) (number : ℕ) (t : Ty) → Is a → (is_valued (form_of a) ≡ true → Has (type_of a)) → HasPartType p.structs (type_of a) number t → Here (ExprKind-F.Member a number) t
  part_here a number t is root typing =
      let there = there_of a is (layer_real (type_of a) (Ty-F.Struct typing.0) (ap out-Ty typing.3 ∙ outs-Struct typing.0) refl) root in
      let none = struct_none (type_of a) typing.0 typing.3 in
      let inner = struct_part there.spot.home there.spot.may there.spot.room there.spot.type number (type_of a) t typing (there.lies none) in
      place_fits whole main local_size rank f s p around well.structs knows (is_unreadable around a) (is_writable around a) t (expr_depth a) (parts.member (low a) number) (ask a).reach (traits.part_of t (low a).traits) (traits.part_of t (ask a).traits) (ap (traits.part_of t) is.same)
      (silent_part t (low a).traits is.silent) (record {
        types = there.types;
        lead = there.lead;
        spot = part_spot whole there.spot (Fixed number) (shape_of t) inner.other inner.left;
        asked = there.asked;
        agree = record { blocked = there.agree.blocked; waiting = append-nil there.spot.held ∙ there.agree.waiting; picked = there.agree.picked; by = there.agree.by };
        loose = there.loose;
        shape = refl;
        reads = there.reads;
        reads_loose = there.reads_loose;
        stores = there.stores;
        rooted = there.rooted;
        lies = λ e. inner.lies;
        reaches = λ deep enough.
            member_reaches whole main local_size rank f knows.sorted s (ids_for there.types) deep (low a).traits.splits there.spot (shape_of t) inner.other inner.left number (low a).reach (there.shape ∙ none) inner.deeper inner.parts
            (simple.lies_stands whole main local_size rank f s p params locals well knows there.spot.home there.spot.may inner.left t inner.other inner.lies (shape_of t) refl) (there.reaches deep enough);
      })

  -- ---- swizzles

  pub swizzle_here : (a : Expr) (lanes : Lanes) (t : Ty) → Is a → (is_valued (form_of a) ≡ true → Has (type_of a)) → IsSwizzle (type_of a) lanes t → Here (ExprKind-F.Swizzle a lanes) t
  swizzle_here a lanes t is root (shape, shaped, right, below, of) =
      let there = there_of a is (shaped_real (type_of a) shape shaped) root in
      let positions = positions_of lanes in
      let count : length positions ≡ lanes.count = length-take-le lanes.count lanes.words right.2 in
      let within = all_below shape.1 positions below in
      let stores : Bool = there.spot.may.stores && not (repeats positions) in
      let spot = weaker whole main local_size rank f s there.spot stores in
      let low_shape = simple.low_shape whole main local_size rank f s p params locals well knows a is shape shaped in
      place_fits whole main local_size rank f s p around well.structs knows (is_unreadable around a) (is_writable around a && not (repeats positions)) t (expr_depth a) (parts.swizzled_by (low a) lanes) (λ before. asking.behind ((ask a).reach before) (λ lead. asking.given (needs.swizzled lead)))
      (traits.part_of t (low a).traits) (traits.part_of t (ask a).traits) (ap (traits.part_of t) is.same) (silent_part t (low a).traits is.silent) (record {
        types = there.types;
        lead = needs.swizzled there.lead;
        spot = swizzle_spot spot (shape.0, length positions);
        asked = wants_last (ask a).reach (λ lead. asking.given (needs.swizzled lead)) there.lead (needs.swizzled there.lead) there.types there.asked (wants_given (needs.swizzled there.lead));
        agree = record { blocked = there.agree.blocked; waiting = there.agree.waiting; picked = picked_now there.spot.picked; by = by_now there.spot.picked ∙ there.agree.by };
        loose = there.loose;
        shape = ap (λ (n : ℕ). Some (shape.0, n)) count ∙ sym (simple.shape_back (shape.0, lanes.count)) ∙ ap shape_of of;
        reads = there.reads;
        reads_loose = there.reads_loose;
        stores = λ e. let w = and_parts (is_writable around a) (not (repeats positions)) e in ap (λ b. b && not (repeats positions)) (there.stores w.0) ∙ w.1;
        rooted = λ e. there.rooted (and_parts (is_writable around a) (not (repeats positions)) e).0;
        lies = λ none. absurd (let z : None ≡ Some (shape.0, lanes.count) = sym none ∙ ap shape_of (sym of) ∙ simple.shape_back (shape.0, lanes.count) in cc);
        reaches = λ deep enough.
            subst (λ (x : Shape). Reaches whole main local_size rank f s (ids_for there.types) deep (low a).traits.splits (swizzle_spot spot (shape.0, length positions)) (λ u. behind ((low a).reach u) (λ r. flows.given (swizzled x positions r)))) (sym low_shape)
            (swizzle_reaches whole main local_size rank f knows.sorted s (ids_for there.types) deep (low a).traits.splits spot shape positions (low a).reach (there.shape ∙ shaped) (subst (λ n. 1 ≤ n) (sym count) right.0) (subst (λ n. n ≤ 4) (sym count) right.1) within
            (λ e. few_positions shape.1 positions within (not_true (repeats positions) (and_parts there.spot.may.stores (not (repeats positions)) e).1))
            (weaker_reaches whole main local_size rank f s (ids_for there.types) deep (low a).traits.splits stores there.spot (low a).reach (λ e. (and_parts there.spot.may.stores (not (repeats positions)) e).0) (there.reaches deep enough)));
      })
