-- Indexes of what an expression leads to.
use Rattle.std.proofs.Common.{◌≡◌, ◌≢◌, ℕ, ◌≤◌, ◌<◌, Bool, true, false, ◌&&◌, ◌||◌, not, IsTrue, List, [], ◌∷◌, ◌++◌, length, map, Option, Some, None, refl, sym, ap, ◌∙◌, subst, arith, append_assoc, inl, inr}
use Rattle.std.specs.Prelude.{◌==◌, max, nat_le}
use Rattle.std.proofs.lemmas.Bool.{and_parts, leb-true}
use Rattle.std.proofs.lemmas.Bool.Decides.{nat_tests}
use Rattle.gsl_types.specs.Known.{IsSound, sound_kind}
use Rattle.gsl_types.specs.declared.ty.Ty.TheFolds.{fold-roll-Ty}
use Rattle.gsl_instr.specs.declared.enumerant.storage_class.TheConstants as storage_class
use Rattle.gsl_types.specs.declared.ty.Direction.{Direction}
use Rattle.gsl_types.specs.declared.ty.Scalar.{Scalar}
use Rattle.gsl_types.specs.declared.ty.Scalar.TheVariants.{Int, Uint}
use Rattle.gsl_types.specs.declared.ty.Ty.{Ty}
use Rattle.gsl_types.specs.declared.ty.Ty.TheOpen.{Ty-F}
use Rattle.gsl_types.specs.declared.ty.Ty.TheVariants as ty
use Rattle.gsl_types.specs.declared.ty.Ty.TheVariants.{outs-One}
use Rattle.gsl_types.specs.declared.ty.Ty.TheViews.{out-Ty, roll-Ty, roll-out-Ty}
use Rattle.gsl_tree.specs.Around.{Around}
use Rattle.gsl_tree.specs.Expressions.{IsIndex, MayBeRead, element_kind, element_of}
use Rattle.gsl_tree.specs.Operations.{has_fixed_length}
use Rattle.gsl_tree.specs.Paths.{is_unreadable, is_writable}
use Rattle.gsl_tree.specs.Shapes.{Shape, is_integer, shape_kind, shape_of}
use Rattle.gsl_tree.specs.Statements.{expr_depth}
use Rattle.gsl_tree.specs.Trees.{form_of, type_of}
use Rattle.gsl_tree.specs.WellTyped.{AreWellTyped, around_body, program_lists}
use Rattle.gsl_tree.specs.declared.expr.Expr.{Expr}
use Rattle.gsl_tree.specs.declared.expr.ExprKind.{ExprKind}
use Rattle.gsl_tree.specs.declared.expr.ExprKind.TheOpen.{ExprKind-F}
use Rattle.gsl_tree.specs.declared.program.Program.{Program}
use Rattle.gsl_spv.specs.Sections.{Sections}
use Rattle.gsl_lower_places.specs.declared.reached.Part.{Part}
use Rattle.gsl_lower_places.specs.declared.reached.Part.TheVariants.{By, Fixed}
use Rattle.gsl_lower_holders.specs.Flow.{Emit, Flow}
use Rattle.gsl_lower_holders.specs.declared.place.FlowPlace.{FlowPlace}
use Rattle.gsl_lower_traits.specs.Traits as traits
use Rattle.gsl_lower_traits.specs.Traits.{has_shape, is_dynamic, is_still_index, spills}
use Rattle.gsl_lower_traits.specs.declared.traits.Traits.{Traits}
use Rattle.gsl_lower_expr.specs.Parts as parts
use Rattle.gsl_lower_expr.specs.Parts.{Lower, scalar_of, shape_or}
use Rattle.gsl_lower_needs.specs.Asking.{Ask, behind, need}
use Rattle.gsl_lower_needs.specs.Asking as asking
use Rattle.gsl_lower_needs.specs.Needs as needs
use Rattle.gsl_lower_needs.specs.Needs.{Asking, hold_lead, index_types, own, part_at, picked_by, reads, spilled}
use Rattle.gsl_lower_needs.specs.declared.lead.Lead.{Lead}
use Rattle.gsl_lower_needs.specs.declared.need.Need.TheVariants.{Holder}
use Rattle.gsl_fitting.specs.Fits.{Frame}
use Rattle.gsl_fitting_types.specs.Making.{IsTypeOf}
use Rattle.gsl_fitting_places.specs.Places.{IsAmong}
use Rattle.gsl_fitting_reaching.specs.Reached.{May, Parts, Reaches, Spot, asked_of, asked_part, part_spot}
use Rattle.gsl_fitting_valued.specs.OfFittingReads.{IsGot, both}
use Rattle.gsl_fitting_valued.specs.OfFittingReads.{held_if}
use Rattle.gsl_fitting_indexes.specs.Indexes.{IsIndexed, IsSpilled, IsTested, LeadsBy, component_by, component_spot, holder_spot}
use Rattle.gsl_fitting_indexes.proofs.Indexing.{indexed_reaches}
use Rattle.gsl_fitting_valued.specs.OfFittingKnown.{IsSilent, LeadsThere, is_valued}
use Rattle.gsl_fitting_valued.specs.OfFittingKnown.{Agree, Wants, is_nowhere, is_picked, type_for, word_of}
use Rattle.gsl_fitting_valued.specs.OfFittingKnown.{Knows}
use Rattle.gsl_fitting_valued.specs.OfFittingKnown.{Lies}
use Rattle.gsl_fitting_led.proofs.Assigns.{tested}
use Rattle.gsl_fitting_valued.proofs.OfFittingKnown.{by_leaf, got, layer_real, place_fits, wants_reads}
use Rattle.gsl_fitting_valued.proofs.Pairs.{max_left, max_right}
use Rattle.gsl_fitting_led.proofs.Places.{Inner, there_of}
use Rattle.gsl_fitting_valued.proofs.OfFittingKnown.{lies_roomy}
use Rattle.gsl_fitting_valued.proofs.Simple as simple
use Rattle.gsl_fitting_valued.proofs.OfFittingKnown.{plain_known, scalar_for, some_is, type_known}
use Rattle.gsl_fitting_valued.proofs.OfFittingKnown.{lead_for, lead_types, types_append, types_if, wants_given, wants_holder, wants_lead, wants_last, wants_then}

-- ---- what is told of components that are picked

abbrev is_fixed : Part → Bool
is_fixed (Fixed number) = true
is_fixed (By k id) = false

abbrev pub fixed_number : Part → ℕ
fixed_number (Fixed number) = number
fixed_number (By k id) = 0

more_than : (n : ℕ) → 2 ≤ n → (n == 1) ≡ false
more_than n is = grind (arith, nat_tests)

picked_on : (picked : Option (Option Scalar)) (part : Part) → is_picked (component_by part picked) ≡ true
picked_on None (Fixed number) = refl
picked_on None (By k id) = refl
picked_on (Some by) (Fixed number) = refl
picked_on (Some None) (By k id) = refl
picked_on (Some (Some other)) (By k id) = refl

abbrev word_in : Part → Option Scalar
word_in (Fixed number) = None
word_in (By k id) = Some k

by_on : (picked : Option (Option Scalar)) (part : Part) → word_of (component_by part picked) ≡ picked_by (is_picked picked) (word_of picked) (word_in part)
by_on None (Fixed number) = refl
by_on None (By k id) = refl
by_on (Some by) (Fixed number) = refl
by_on (Some None) (By k id) = refl
by_on (Some (Some other)) (By k id) = refl

part_for : (whole : Sections) (place : FlowPlace) (part : Part) → asked_part whole part ≡ map (type_for whole place) (index_types (word_in part))
part_for whole place (Fixed number) = refl
part_for whole place (By k id) = ap (λ x. x ∷ []) (sym (scalar_for whole place k))

index_integer : (t : Ty) → IsIndex t → (shape : Shape) × (shape_of t ≡ Some shape) × (is_integer shape.0 ≡ true) × (shape.1 ≡ 1)
index_integer t (inl is) = ((Int, 1), ap shape_of is ∙ ap shape_kind (outs-One Int), refl, refl)
index_integer t (inr is) = ((Uint, 1), ap shape_of is ∙ ap shape_kind (outs-One Uint), refl, refl)

-- an index that is a number is one of those that there are
pub record InRange (base : Ty) (part : Part) : Type 0 where
  pub vector : (shape : Shape) → shape_of base ≡ Some shape → IsAmong shape.1 part
  pub array : (element : Ty) (n number : ℕ) → out-Ty base ≡ Ty-F.Array element n → part ≡ Fixed number → number < n

module _ (whole : Sections) (main : ℕ) (local_size : List ℕ) (rank : ℕ → ℕ) (f : Frame) (s : Flow) (p : Program) (params : List (Direction × Ty)) (locals : List Ty) (well : AreWellTyped (program_lists p))
    (knows : Knows whole main local_size rank f s p.structs (around_body (program_lists p) params locals)) where
  abbrev Is : Expr → Type 0
  Is = simple.Is whole main local_size rank f s p params locals well knows

  abbrev Has : Ty → Type 0
  Has = simple.Has whole main local_size rank f s p params locals well knows

  abbrev Here : ExprKind-F ExprKind Expr → Ty → Type 0
  Here = simple.Here whole main local_size rank f s p params locals well knows

  abbrev low : Expr → Lower
  low = simple.low whole main local_size rank f s p params locals well knows

  abbrev ask : Expr → Asking
  ask = simple.ask whole main local_size rank f s p params locals well knows

  abbrev id_for : Ty → ℕ
  id_for = simple.id_for whole main local_size rank f s p params locals well knows

  abbrev ids_for : List Ty → List ℕ
  ids_for = simple.ids_for whole main local_size rank f s p params locals well knows

  abbrev E : List ℕ → ℕ → Bool → ℕ → Emit ℕ → Type 0
  E = simple.E whole main local_size rank f s p params locals well knows

  abbrev P : Shape → ℕ → Type 0
  P = simple.P whole main local_size rank f s p params locals well knows

  abbrev around : Around
  around = around_body (program_lists p) params locals

  abbrev There : Expr → Type 0
  There e = LeadsThere whole main local_size rank f s p (is_unreadable around e) (is_writable around e) (type_of e) (expr_depth e) (low e) (ask e)

  -- What is indexed, where it may have been put into a holder.
  record Kept (a : Expr) (k : Bool) (there : There a) (i : Traits) : Type 0 where
    types : List Ty
    lead : Lead
    spot : Spot
    asked : Wants (spilled k (type_of a) there.lead) lead types
    agree : Agree whole s.place spot lead
    is : IsSpilled whole main local_size rank f s p.structs (low a).ty there.spot k (ids_for types) spot
    loose : is_nowhere spot.home ≡ ((low a).traits.is_loose && not k)
    shape : spot.shape ≡ shape_of (type_of a)
    reads : is_unreadable around a ≡ false → spot.may.reads ≡ true
    reads_loose : spot.home ≡ None → spot.may.reads ≡ true
    stores : is_writable around a ≡ true → spot.may.stores ≡ true
    rooted : is_writable around a ≡ true → is_nowhere spot.home ≡ false
    lies : shape_of (type_of a) ≡ None → Lies whole main local_size rank f s.place p.structs spot.home spot.may spot.room (type_of a) spot.type
    far : shape_of (type_of a) ≡ None → is_dynamic i.literal ≡ true → is_nowhere spot.home ≡ false

  nowhere_none : (home : Option ℕ) → is_nowhere home ≡ true → home ≡ None
  nowhere_none None is = refl
  nowhere_none (Some class) is = absurd (let z : false ≡ true = is in cc)

  and_true : (b : Bool) → (b && true) ≡ b
  and_true true = refl
  and_true false = refl

  and_false : (b : Bool) → (b && false) ≡ false
  and_false true = refl
  and_false false = refl

  kept : (a : Expr) (is_a : Is a) (there : There a) (i : Traits) (k : Bool) → spills (parts.known_of (low a)) i ≡ k → (k ≡ true → Has (type_of a)) → type_of a ≢ ty.Void → Kept a k there i
  unfolding spilled
  kept a is_a there i false e has real = record {
    types = [];
    lead = there.lead;
    spot = there.spot;
    asked = stays;
    agree = there.agree;
    is = IsSpilled.stays;
    loose = there.loose ∙ sym (and_true (low a).traits.is_loose);
    shape = there.shape;
    reads = there.reads;
    reads_loose = there.reads_loose;
    stores = there.stores;
    rooted = there.rooted;
    lies = there.lies;
    far = λ none dynamic. there.loose ∙ not_loose none dynamic (low a).traits.is_loose refl;
  }
    where
      stays : Wants (spilled false (type_of a) there.lead) there.lead []
      stays = wants_given there.lead

      not_loose : shape_of (type_of a) ≡ None → is_dynamic i.literal ≡ true → (b : Bool) → (low a).traits.is_loose ≡ b → b ≡ false
      not_loose none dynamic false at = refl
      not_loose none dynamic true at =
          let z : true ≡ false = sym (ap (λ b. b && is_dynamic i.literal && not (has_shape (shape_of (low a).ty))) at ∙ ap (λ b. b && not (has_shape (shape_of (low a).ty))) dynamic ∙ ap (λ o. not (has_shape o)) (ap shape_of is_a.typed ∙ none)) ∙ e in
          absurd cc
  kept a is_a there i true e has real = by (shape_of (type_of a)) refl
    where
      apart : (b c d : Bool) → (b && c && d) ≡ true → (b ≡ true) × (d ≡ true)
      apart b c d is = let w = and_parts (b && c) d is in ((and_parts b c w.0).0, w.1)

      loose : (low a).traits.is_loose ≡ true
      loose = (apart (low a).traits.is_loose (is_dynamic i.literal) (not (has_shape (shape_of (low a).ty))) e).0

      put_by : Wants (spilled true (type_of a) there.lead) (own false) (types_if (by_leaf whole main local_size rank f s p around well.structs knows (type_of a) there.lead) (type_of a) ++ type_of a ∷ [])
      put_by =
          wants_then (reads (type_of a) there.lead) (λ x before. behind (need (Holder (type_of a)) before) (λ done. asking.given (own false))) tt (own false) (types_if (by_leaf whole main local_size rank f s p around well.structs knows (type_of a) there.lead) (type_of a)) (type_of a ∷ [])
          (wants_reads (type_of a) there.lead) (wants_last (need (Holder (type_of a))) (λ done. asking.given (own false)) tt (own false) (type_of a ∷ []) (wants_holder (type_of a)) (wants_given (own false)))

      by : (o : Option Shape) → shape_of (type_of a) ≡ o → Kept a true there i
      by (Some shape) is = absurd (let z : false ≡ true = sym (ap (λ o. not (has_shape o)) (ap shape_of is_a.typed ∙ is)) ∙ (apart (low a).traits.is_loose (is_dynamic i.literal) (not (has_shape (shape_of (low a).ty))) e).1 in cc)
      by None none =
          let nowhere = nowhere_none there.spot.home (there.loose ∙ loose) in
          let has_a = has refl in
          let w = knows.wholes (type_of a) none (type_known whole main local_size rank f s p.structs (type_of a) real has_a) in
          let t = type_of a in
          record {
            types = types_if (by_leaf whole main local_size rank f s p around well.structs knows t there.lead) t ++ t ∷ [];
            lead = own false;
            spot = holder_spot (id_for t) there.spot.room;
            asked = put_by;
            agree = record { blocked = refl; waiting = refl; picked = refl; by = refl };
            is = subst (λ l. IsSpilled whole main local_size rank f s p.structs (low a).ty there.spot true l (holder_spot (id_for t) there.spot.room)) (sym (types_append whole s.place (types_if (by_leaf whole main local_size rank f s p around well.structs knows t there.lead) t) (t ∷ [])))
                (IsSpilled.spilled (ap shape_of is_a.typed ∙ none) (subst (λ u. IsGot whole main local_size rank f s p.structs u there.spot (id_for t) (ids_for (types_if (by_leaf whole main local_size rank f s p around well.structs knows t there.lead) t))) (sym is_a.typed)
                (got whole main local_size rank f s p around well.structs knows there.spot there.lead t there.agree there.shape there.lies w.fixed has_a)) (there.reads_loose nowhere));
            loose = sym (and_false (low a).traits.is_loose);
            shape = sym none;
            reads = λ x. refl;
            reads_loose = λ x. refl;
            stores = λ x. refl;
            rooted = λ x. refl;
            lies = λ x. lies_roomy whole main local_size rank f s.place p.structs (Some storage_class.FUNCTION) both there.spot.home there.spot.may w.room there.spot.room t (id_for t) there.spot.type (w.lies (Some storage_class.FUNCTION) refl) (there.lies none);
            far = λ x y. refl;
          }

  -- An index that is known, or is computed.
  record Pointed (i : Expr) (literal : Option ℕ) : Type 0 where
    types : List Ty
    sample : Part
    asked : Wants (needs.index_by (ask i) literal) (word_in sample) types
    is : (deep : ℕ) → expr_depth i ≤ deep → IsIndexed whole main local_size rank f s deep (low i) literal (ids_for types) sample
    known : (number : ℕ) → sample ≡ Fixed number → literal ≡ Some number
    words : (x : Scalar) (id : ℕ) → sample ≡ By x id → (number : ℕ) → literal ≡ Some number → ⊥

  pointed : (i : Expr) (is_i : Is i) (literal : Option ℕ) → (low i).traits.literal ≡ literal → MayBeRead around i → IsIndex (type_of i) → (literal ≡ None → Has (type_of i)) → Pointed i literal
  pointed i is_i (Some number) e reads index has = record {
    types = [];
    sample = Fixed number;
    asked = wants_given None;
    is = λ deep enough. IsIndexed.known (is_i.silent.literal number e);
    known = λ n at. ap Some (ap fixed_number at);
    words = λ x id at n e. let z : true ≡ false = ap is_fixed at in cc;
  }
  pointed i is_i None e reads index has =
      let g = simple.value_of whole main local_size rank f s p params locals well knows i is_i reads (has refl) in
      let integer = index_integer (type_of i) index in
      let shape = simple.low_shape whole main local_size rank f s p params locals well knows i is_i integer.0 integer.1 in
      let plain = plain_known whole main local_size rank f s p.structs (type_of i) integer.0 integer.1 (has refl) in
      let scalar : integer.0.0 ≡ scalar_of (low i).ty = sym (ap (λ (x : Shape). x.0) shape) in
      record {
        types = g.types;
        sample = By (scalar_of (low i).ty) 0;
        asked = subst (λ (u : Ty). Wants (needs.index_by (ask i) None) (Some (scalar_of u)) g.types) (is_i.asks_typed ∙ sym is_i.typed) (wants_last (ask i).value (λ done. asking.given (Some (scalar_of (ask i).ty))) tt (Some (scalar_of (ask i).ty)) g.types g.asked (wants_given (Some (scalar_of (ask i).ty))));
        is = λ deep enough.
            IsIndexed.computed (ap is_integer (sym scalar) ∙ integer.2) (subst (λ (k : Scalar). IsTypeOf whole (k, 1) (id_for (type_of i))) scalar (subst (λ (n : ℕ). IsTypeOf whole (integer.0.0, n) (id_for (type_of i))) integer.3 plain.of)) (g.evaluates deep enough);
        known = λ n at. absurd (let z : false ≡ true = ap is_fixed at in cc);
        words = λ x id at n e. let z : None ≡ Some n = e in cc;
      }

  -- ---- to what it leads

  module _ (a i : Expr) (t : Ty) (is_a : Is a) (is_i : Is i) (read_i : MayBeRead around i) (root : is_valued (form_of a) ≡ true → Has (type_of a)) (spill_has : spills (parts.known_of (low a)) (low i).traits ≡ true → Has (type_of a)) (index_has : (low i).traits.literal ≡ None → Has (type_of i))
      (sound : IsSound (length p.structs) (type_of a)) (element : element_of (type_of a) ≡ Some t) (index : IsIndex (type_of i)) (ranged : (number : ℕ) → (low i).traits.literal ≡ Some number → InRange (type_of a) (Fixed number)) where
    abbrev k_i : Traits
    k_i = (low i).traits

    abbrev k : Bool
    k = spills (parts.known_of (low a)) k_i

    real : type_of a ≢ ty.Void
    real = by (out-Ty (type_of a)) refl element
      where
        by : (of : Ty-F Ty) → out-Ty (type_of a) ≡ of → element_kind of ≡ Some t → type_of a ≢ ty.Void
        by Ty-F.Void e is = absurd (let z : None ≡ Some t = is in cc)
        by (Ty-F.One x) e is = layer_real (type_of a) (Ty-F.One x) e refl
        by (Ty-F.Vector x n) e is = layer_real (type_of a) (Ty-F.Vector x n) e refl
        by (Ty-F.Array x n) e is = layer_real (type_of a) (Ty-F.Array x n) e refl
        by (Ty-F.Runtime x) e is = layer_real (type_of a) (Ty-F.Runtime x) e refl
        by (Ty-F.Struct x) e is = layer_real (type_of a) (Ty-F.Struct x) e refl

    there : There a
    there = there_of whole main local_size rank f s p params locals well knows a is_a real root

    kp : Kept a k there k_i
    kp = kept a is_a there k_i k refl spill_has real

    pt : Pointed i k_i.literal
    pt = pointed i is_i k_i.literal refl read_i index index_has

    range : (part : Part) → pt.sample ≡ part → InRange (type_of a) part
    range (Fixed number) at = ranged number (pt.known number at)
    range (By x id) at = record { vector = λ shape is. tt; array = λ e n number is same. absurd (let z : false ≡ true = ap is_fixed same in cc) }

    abbrev whole_types : List Ty
    whole_types = (there.types ++ kp.types) ++ (lead_types k_i.splits kp.lead ++ pt.types)

    index_ids : ids_for whole_types ≡ (ids_for there.types ++ (ids_for kp.types ++ held_if k_i.splits (asked_of whole kp.spot))) ++ ids_for pt.types
    index_ids =
        types_append whole s.place (there.types ++ kp.types) (lead_types k_i.splits kp.lead ++ pt.types)
        ∙ ap (λ l. l ++ ids_for (lead_types k_i.splits kp.lead ++ pt.types)) (types_append whole s.place there.types kp.types)
        ∙ ap (λ l. (ids_for there.types ++ ids_for kp.types) ++ l) (types_append whole s.place (lead_types k_i.splits kp.lead) pt.types ∙ ap (λ l. l ++ ids_for pt.types) (lead_for whole s.place k_i.splits kp.spot kp.lead kp.agree))
        ∙ append_assoc (ids_for there.types) (ids_for kp.types) (held_if k_i.splits (asked_of whole kp.spot) ++ ids_for pt.types)
        ∙ ap (λ l. ids_for there.types ++ l) (sym (append_assoc (ids_for kp.types) (held_if k_i.splits (asked_of whole kp.spot)) (ids_for pt.types)))
        ∙ sym (append_assoc (ids_for there.types) (ids_for kp.types ++ held_if k_i.splits (asked_of whole kp.spot)) (ids_for pt.types))

    abbrev index_lead : Lead
    index_lead = part_at (shape_of (type_of a)) (word_in pt.sample) kp.lead

    abbrev asked_so : Bool → Ty → Traits → Ask Lead
    asked_so b u known before =
        behind (behind ((ask a).reach before) (spilled b u)) (λ lead before. behind (hold_lead known.splits lead before) (λ done before. behind (needs.index_by (ask i) known.literal before) (λ word. asking.given (part_at (shape_of u) word lead))))

    index_asked : Wants (needs.indexed (ask a) (ask i)) index_lead whole_types
    index_asked =
        subst (λ (x : Traits). Wants (asked_so (spills (needs.known_of (ask a)) x) (ask a).ty x) index_lead whole_types) (sym is_i.same)
        (subst (λ (x : Traits). Wants (asked_so (spills (record { ty = (ask a).ty; traits = x }) k_i) (ask a).ty k_i) index_lead whole_types) (sym is_a.same)
        (subst (λ (u : Ty). Wants (asked_so (spills (record { ty = u; traits = (low a).traits }) k_i) (ask a).ty k_i) index_lead whole_types) (is_a.typed ∙ sym is_a.asks_typed)
        (subst (λ (u : Ty). Wants (asked_so k u k_i) index_lead whole_types) (sym is_a.asks_typed)
        (wants_then (λ before. behind ((ask a).reach before) (spilled k (type_of a))) (λ lead before. behind (hold_lead k_i.splits lead before) (λ done before. behind (needs.index_by (ask i) k_i.literal before) (λ word. asking.given (part_at (shape_of (type_of a)) word lead)))) kp.lead index_lead (there.types ++ kp.types) (lead_types k_i.splits kp.lead ++ pt.types)
        (wants_then (ask a).reach (spilled k (type_of a)) there.lead kp.lead there.types kp.types there.asked kp.asked)
        (wants_then (hold_lead k_i.splits kp.lead) (λ done before. behind (needs.index_by (ask i) k_i.literal before) (λ word. asking.given (part_at (shape_of (type_of a)) word kp.lead))) tt index_lead (lead_types k_i.splits kp.lead) pt.types (wants_lead k_i.splits kp.lead)
        (wants_last (needs.index_by (ask i) k_i.literal) (λ word. asking.given (part_at (shape_of (type_of a)) word kp.lead)) (word_in pt.sample) index_lead pt.types pt.asked (wants_given index_lead)))))))

    tests : IsTested whole main local_size rank f p.structs (low a).ty kp.spot k_i.calls
    tests = subst (λ u. IsTested whole main local_size rank f p.structs u kp.spot k_i.calls) (sym is_a.typed) (tested whole main local_size rank f s p params locals well knows kp.spot (type_of a) k_i.calls kp.shape kp.reads_loose kp.lies (λ none calls. kp.far none (dynamic calls k_i.literal refl)))
      where
        dynamic : k_i.calls ≡ true → (o : Option ℕ) → k_i.literal ≡ o → is_dynamic o ≡ true
        dynamic calls None at = refl
        dynamic calls (Some number) at = absurd (let z : true ≡ false = sym calls ∙ is_i.silent.calm number at in cc)

    index_silent : IsSilent (traits.indexed t (parts.known_of (low a)) k_i)
    index_silent = record {
      quiet = λ e. still (and_parts (is_still_index (parts.known_of (low a)) k_i) (traits.is_plain t) e).0;
      still = still;
      literal = λ number e. absurd (let z : None ≡ Some number = e in cc);
      calm = λ number e. absurd (let z : None ≡ Some number = e in cc);
    }
      where
        known : (o : Option ℕ) → k_i.literal ≡ o → not (is_dynamic o) ≡ true → k_i.splits ≡ false
        known None at is = absurd (let z : false ≡ true = is in cc)
        known (Some number) at is = is_i.silent.literal number at

        still : is_still_index (parts.known_of (low a)) k_i ≡ true → ((low a).traits.splits || k_i.splits) ≡ false
        still e =
            let w = and_parts ((low a).traits.still && not (is_dynamic k_i.literal)) (has_fixed_length (low a).ty) e in
            let v = and_parts (low a).traits.still (not (is_dynamic k_i.literal)) w.0 in
            ap (λ b. b || k_i.splits) (is_a.silent.still v.0) ∙ known k_i.literal refl v.1

    finish : (to : Spot) → LeadsBy whole main local_size rank f (low a).ty kp.spot pt.sample to → to.home ≡ kp.spot.home → to.may ≡ kp.spot.may → Agree whole s.place to index_lead → to.shape ≡ shape_of t
        → (shape_of t ≡ None → Lies whole main local_size rank f s.place p.structs to.home to.may to.room t to.type) → Here (ExprKind-F.Index a i) t
    finish to leads home may agree shape lies =
        place_fits whole main local_size rank f s p around well.structs knows (is_unreadable around a) (is_writable around a) t (max (expr_depth a) (expr_depth i)) (parts.indexed p.structs (low a) (low i)) (needs.indexed (ask a) (ask i)) (traits.indexed t (parts.known_of (low a)) k_i)
        (traits.indexed t (needs.known_of (ask a)) (ask i).traits) same index_silent (record {
          types = whole_types;
          lead = index_lead;
          spot = to;
          asked = index_asked;
          agree = agree;
          loose = ap is_nowhere home ∙ kp.loose;
          shape = shape;
          reads = λ e. ap (λ (x : May). x.reads) may ∙ kp.reads e;
          reads_loose = λ e. ap (λ (x : May). x.reads) may ∙ kp.reads_loose (sym home ∙ e);
          stores = λ e. ap (λ (x : May). x.stores) may ∙ kp.stores e;
          rooted = λ e. ap is_nowhere home ∙ kp.rooted e;
          lies = lies;
          reaches = λ deep enough.
              subst (λ l. Reaches whole main local_size rank f s l deep ((low a).traits.splits || k_i.splits) to (parts.indexed p.structs (low a) (low i))) (sym index_ids)
              (indexed_reaches whole main local_size rank f knows.sorted s (ids_for there.types) (ids_for kp.types) (ids_for pt.types) deep (low a).traits.splits p.structs (low a) (low i) there.spot kp.spot to pt.sample knows.functions_own kp.is tests (pt.is deep (max_right (expr_depth a) (expr_depth i) deep enough)) leads
              (there.reaches deep (max_left (expr_depth a) (expr_depth i) deep enough)));
        })
      where
        same : traits.indexed t (needs.known_of (ask a)) (ask i).traits ≡ traits.indexed t (parts.known_of (low a)) k_i
        same = ap (λ (x : Traits). traits.indexed t (needs.known_of (ask a)) x) is_i.same ∙ ap (λ (x : Traits). traits.indexed t (record { ty = (ask a).ty; traits = x }) k_i) is_a.same ∙ ap (λ (u : Ty). traits.indexed t (record { ty = u; traits = (low a).traits }) k_i) (is_a.asks_typed ∙ sym is_a.typed)

    -- a component of a vector
    component_here : (shape : Shape) → shape_of (type_of a) ≡ Some shape → Here (ExprKind-F.Index a i) t
    component_here shape shaped =
        finish (component_spot kp.spot shape pt.sample) (LeadsBy.component (ap shape_of is_a.typed ∙ shaped) (kp.shape ∙ shaped) several (in_range pt.sample refl)) refl refl
        (subst (λ (o : Option Shape). Agree whole s.place (component_spot kp.spot shape pt.sample) (part_at o (word_in pt.sample) kp.lead)) (sym shaped) (record {
          blocked = kp.agree.blocked;
          waiting = kp.agree.waiting;
          picked = picked_on kp.spot.picked pt.sample;
          by = by_on kp.spot.picked pt.sample ∙ ap (λ b. picked_by b (word_of kp.spot.picked) (word_in pt.sample)) kp.agree.picked ∙ ap (λ w. picked_by kp.lead.picked w (word_in pt.sample)) kp.agree.by;
        }))
        (sym one_of) (λ none. absurd (let z : None ≡ Some (shape.0, 1) = sym none ∙ one_of in cc))
      where
        in_range : (part : Part) → pt.sample ≡ part → IsAmong shape.1 pt.sample
        in_range part at = subst (IsAmong shape.1) (sym at) ((range part at).vector shape shaped)

        vector : (of : Ty-F Ty) → element_kind of ≡ Some t → shape_kind of ≡ Some shape → (t ≡ ty.One shape.0)
        vector (Ty-F.Vector x n) is shape_is = sym (some_is (ty.One x) t is) ∙ ap (λ (y : Shape). ty.One y.0) (some_is (x, n) shape shape_is)
        vector Ty-F.Void is shape_is = absurd (let z : None ≡ Some t = is in cc)
        vector (Ty-F.One x) is shape_is = absurd (let z : None ≡ Some t = is in cc)
        vector (Ty-F.Array x n) is shape_is = absurd (let z : None ≡ Some shape = shape_is in cc)
        vector (Ty-F.Runtime x) is shape_is = absurd (let z : None ≡ Some shape = shape_is in cc)
        vector (Ty-F.Struct x) is shape_is = absurd (let z : None ≡ Some t = is in cc)

        one_of : shape_of t ≡ Some (shape.0, 1)
        one_of = ap shape_of (vector (out-Ty (type_of a)) element shaped) ∙ ap shape_kind (outs-One shape.0)

        several : (shape.1 == 1) ≡ false
        several = by (out-Ty (type_of a)) (roll-out-Ty (type_of a)) element shaped
          where
            by : (of : Ty-F Ty) → roll-Ty of ≡ type_of a → element_kind of ≡ Some t → shape_kind of ≡ Some shape → (shape.1 == 1) ≡ false
            by (Ty-F.Vector x n) e is shape_is =
                let sized : IsTrue (nat_le 2 n && nat_le n 4) = sym (fold-roll-Ty Bool (sound_kind (length p.structs)) (Ty-F.Vector x n)) ∙ subst (IsSound (length p.structs)) (sym e) sound in
                subst (λ (y : Shape). (y.1 == 1) ≡ false) (some_is (x, n) shape shape_is) (more_than n (leb-true 2 n (and_parts (nat_le 2 n) (nat_le n 4) sized).0))
            by Ty-F.Void e is shape_is = absurd (let z : None ≡ Some t = is in cc)
            by (Ty-F.One x) e is shape_is = absurd (let z : None ≡ Some t = is in cc)
            by (Ty-F.Array x n) e is shape_is = absurd (let z : None ≡ Some shape = shape_is in cc)
            by (Ty-F.Runtime x) e is shape_is = absurd (let z : None ≡ Some shape = shape_is in cc)
            by (Ty-F.Struct x) e is shape_is = absurd (let z : None ≡ Some t = is in cc)

    -- an element of an array
    element_here : shape_of (type_of a) ≡ None → Here (ExprKind-F.Index a i) t
    element_here none =
        let inner = element_lies kp.spot.room kp.spot.type (kp.lies none) in
        finish (part_spot whole kp.spot pt.sample (shape_of t) inner.other inner.left)
        (LeadsBy.element (ap shape_of is_a.typed ∙ none) (kp.shape ∙ none) inner.deeper inner.parts (simple.lies_stands whole main local_size rank f s p params locals well knows kp.spot.home kp.spot.may inner.left t inner.other inner.lies (shape_of t) refl)) refl refl
        (subst (λ (o : Option Shape). Agree whole s.place (part_spot whole kp.spot pt.sample (shape_of t) inner.other inner.left) (part_at o (word_in pt.sample) kp.lead)) (sym none) (record {
          blocked = kp.agree.blocked;
          waiting = ap (λ l. l ++ asked_part whole pt.sample) kp.agree.waiting ∙ ap (λ l. ids_for kp.lead.waiting ++ l) (part_for whole s.place pt.sample) ∙ sym (types_append whole s.place kp.lead.waiting (needs.index_types (word_in pt.sample)));
          picked = kp.agree.picked;
          by = kp.agree.by;
        }))
        refl (λ e. inner.lies)
      where
        some_home : (home : Option ℕ) → kp.spot.home ≡ home → is_nowhere home ≡ false → (class : ℕ) × (kp.spot.home ≡ Some class)
        some_home None at is = absurd (let z : true ≡ false = is in cc)
        some_home (Some class) at is = (class, at)

        computed : (o : Option ℕ) → k_i.literal ≡ o → (x : Scalar) (id : ℕ) → pt.sample ≡ By x id → is_dynamic o ≡ true
        computed None at x id same = refl
        computed (Some number) at x id same = absurd (pt.words x id same number at)

        element_lies : (room type : ℕ) → Lies whole main local_size rank f s.place p.structs kp.spot.home kp.spot.may room (type_of a) type → Inner whole main local_size rank f s p kp.spot.home kp.spot.may room type pt.sample t
        element_lies room type (Lies.plain {shape = shape} is stands) = absurd (let z : None ≡ Some shape = sym none ∙ is in cc)
        element_lies room type (Lies.array {room = left} {other = other} {n = n} {element = el} layer own parts words lies) =
            record { other = other; left = left; deeper = refl; parts = by pt.sample refl; lies = subst (λ (u : Ty). Lies whole main local_size rank f s.place p.structs kp.spot.home kp.spot.may left u other) (some_is el t (sym (ap element_kind layer) ∙ element)) lies }
          where
            by : (part : Part) → pt.sample ≡ part → Parts whole main local_size rank f kp.spot.home kp.spot.may type pt.sample other
            by (Fixed number) at = subst (λ x. Parts whole main local_size rank f kp.spot.home kp.spot.may type x other) (sym at) (parts number ((range (Fixed number) at).array el n number layer refl))
            by (By x id) at =
                let home = some_home kp.spot.home refl (kp.far none (computed k_i.literal refl x id at)) in
                subst (λ y. Parts whole main local_size rank f kp.spot.home kp.spot.may type y other) (sym at) (words home.0 id x home.1)
        element_lies room type (Lies.runtime {room = left} {other = other} {element = el} layer parts lies) =
            record { other = other; left = left; deeper = refl; parts = parts pt.sample; lies = subst (λ (u : Ty). Lies whole main local_size rank f s.place p.structs kp.spot.home kp.spot.may left u other) (some_is el t (sym (ap element_kind layer) ∙ element)) lies }
        element_lies room type (Lies.struct {k = number} layer found own lie) = absurd (let z : None ≡ Some t = sym (ap element_kind layer) ∙ element in cc)

    pub index_here : Here (ExprKind-F.Index a i) t
    index_here = by (shape_of (type_of a)) refl
      where
        by : (o : Option Shape) → shape_of (type_of a) ≡ o → Here (ExprKind-F.Index a i) t
        by (Some shape) shaped = component_here shape shaped
        by None none = element_here none
