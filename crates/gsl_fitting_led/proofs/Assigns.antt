-- Assignments, with operators and without, and steps.
use Rattle.std.proofs.Common.{◌≡◌, ◌≢◌, ℕ, ◌≤◌, Bool, true, false, ◌&&◌, ◌||◌, not, List, [], ◌∷◌, ◌++◌, Option, Some, None, refl, sym, ap, ◌∙◌, subst, append_assoc}
use Rattle.std.specs.Prelude.{max}
use Rattle.std.specs.List.{AllByRecursion}
use Rattle.gsl_types.specs.declared.ty.Direction.{Direction}
use Rattle.gsl_types.specs.declared.ty.Ty.{Ty}
use Rattle.gsl_types.specs.declared.ty.Ty.TheOpen.{Ty-F}
use Rattle.gsl_types.specs.declared.ty.Ty.TheVariants as ty
use Rattle.gsl_types.specs.declared.ty.Ty.TheViews.{out-Ty}
use Rattle.gsl_values.specs.declared.op.BinaryOp.{BinaryOp}
use Rattle.gsl_tree.specs.Around.{Around}
use Rattle.gsl_tree.specs.Expressions.{IsOperation, MayBeRead, is_runtime_layer, is_value_layer, is_value_type}
use Rattle.gsl_tree.specs.Paths.{is_unreadable, is_writable}
use Rattle.gsl_tree.specs.Shapes.{Shape, is_integer, shape_of}
use Rattle.gsl_tree.specs.Statements.{expr_depth}
use Rattle.gsl_tree.specs.Trees.{type_of}
use Rattle.gsl_tree.specs.WellTyped.{AreWellTyped, around_body, program_lists}
use Rattle.gsl_tree.specs.declared.expr.Expr.{Expr}
use Rattle.gsl_tree.specs.declared.expr.ExprKind.{ExprKind}
use Rattle.gsl_tree.specs.declared.expr.ExprKind.TheOpen.{ExprKind-F}
use Rattle.gsl_tree.specs.declared.expr.StepOp.{StepOp}
use Rattle.gsl_tree.specs.declared.program.Program.{Program}
use Rattle.gsl_spv.specs.Sections.{Sections}
use Rattle.gsl_lower_law.specs.Operands.{Fit}
use Rattle.gsl_lower_leaves.specs.Leaves.{leaves_of}
use Rattle.gsl_lower_leaves.specs.declared.leaf.Leaf.{Leaf}
use Rattle.gsl_lower_holders.specs.Flow.{Emit, Flow}
use Rattle.gsl_lower_traits.specs.Traits as traits
use Rattle.gsl_lower_traits.specs.Traits.{has_shape, is_plain}
use Rattle.gsl_lower_traits.specs.declared.traits.Traits.{Traits}
use Rattle.gsl_lower_expr.specs.Parts as parts
use Rattle.gsl_lower_expr.specs.Parts.{Lower, shape_or}
use Rattle.gsl_lower_needs.specs.Asking.{Ask, behind}
use Rattle.gsl_lower_needs.specs.Needs as needs
use Rattle.gsl_lower_needs.specs.Needs.{Asking, hold, hold_lead, reads, updated_at}
use Rattle.gsl_lower_needs.specs.declared.lead.Lead.{Lead}
use Rattle.gsl_fitting.specs.Fits.{Frame}
use Rattle.gsl_fitting_operators.specs.Operands.{Suits, pair_shape}
use Rattle.gsl_fitting_flow.specs.Flowing.{asked_if}
use Rattle.gsl_fitting_expr.proofs.Yielding.{or_false}
use Rattle.gsl_fitting_reaching.specs.Reached.{Spot, asked_of}
use Rattle.gsl_fitting_valued.specs.OfFittingReads.{HasLeaf, IsPut}
use Rattle.gsl_fitting_valued.specs.OfFittingReads.{held_if}
use Rattle.gsl_fitting_indexes.specs.Indexes.{HasFirst, IsTested}
use Rattle.gsl_fitting_assigns.proofs.Assigned.{assigned_evaluates}
use Rattle.gsl_fitting_assigns.proofs.Updated.{stepped_evaluates, updated_evaluates}
use Rattle.gsl_fitting_valued.specs.OfFittingKnown.{LeadsThere}
use Rattle.gsl_fitting_valued.specs.OfFittingKnown.{Wants, is_nowhere}
use Rattle.gsl_fitting_valued.specs.OfFittingKnown.{Knows}
use Rattle.gsl_fitting_valued.specs.OfFittingKnown.{Lies}
use Rattle.gsl_fitting_valued.proofs.OfFittingKnown.{put, shaped_real, wants_reads}
use Rattle.gsl_fitting_valued.proofs.OfFittingKnown.{leaves_there}
use Rattle.gsl_fitting_valued.proofs.Pairs as pairs
use Rattle.gsl_fitting_valued.proofs.Pairs.{Takes, max_left, max_right, operation_takes, value_real}
use Rattle.gsl_fitting_led.proofs.Places.{there_of}
use Rattle.gsl_fitting_valued.proofs.Simple as simple
use Rattle.gsl_fitting_valued.proofs.OfFittingKnown.{plain_known, shaped_known, some_is}
use Rattle.gsl_fitting_valued.proofs.OfFittingKnown.{if_for, lead_for, lead_types, types_append, types_if, wants_hold, wants_last, wants_lead, wants_then}

value_fixed : (t : Ty) → is_value_type t ≡ true → is_runtime_layer (out-Ty t) ≡ false
value_fixed t is = by (out-Ty t) is
  where
    by : (of : Ty-F Ty) → is_value_layer of ≡ true → is_runtime_layer of ≡ false
    by Ty-F.Void is = absurd (let z : false ≡ true = is in cc)
    by (Ty-F.One s) is = refl
    by (Ty-F.Vector s n) is = refl
    by (Ty-F.Array a n) is = refl
    by (Ty-F.Runtime a) is = absurd (let z : false ≡ true = is in cc)
    by (Ty-F.Struct k) is = refl

module _ (whole : Sections) (main : ℕ) (local_size : List ℕ) (rank : ℕ → ℕ) (f : Frame) (s : Flow) (p : Program) (params : List (Direction × Ty)) (locals : List Ty) (well : AreWellTyped (program_lists p))
    (knows : Knows whole main local_size rank f s p.structs (around_body (program_lists p) params locals)) where
  abbrev Is : Expr → Type 0
  Is = simple.Is whole main local_size rank f s p params locals well knows

  abbrev Has : Ty → Type 0
  Has = simple.Has whole main local_size rank f s p params locals well knows

  abbrev Here : ExprKind-F ExprKind Expr → Ty → Type 0
  Here = simple.Here whole main local_size rank f s p params locals well knows

  abbrev low : Expr → Lower
  low = simple.low whole main local_size rank f s p params locals well knows

  abbrev ask : Expr → Asking
  ask = simple.ask whole main local_size rank f s p params locals well knows

  abbrev id_for : Ty → ℕ
  id_for = simple.id_for whole main local_size rank f s p params locals well knows

  abbrev ids_for : List Ty → List ℕ
  ids_for = simple.ids_for whole main local_size rank f s p params locals well knows

  abbrev E : List ℕ → ℕ → Bool → ℕ → Emit ℕ → Type 0
  E = simple.E whole main local_size rank f s p params locals well knows

  abbrev P : Shape → ℕ → Type 0
  P = simple.P whole main local_size rank f s p params locals well knows

  abbrev around : Around
  around = around_body (program_lists p) params locals

  abbrev There : Expr → Type 0
  There e = LeadsThere whole main local_size rank f s p (is_unreadable around e) (is_writable around e) (type_of e) (expr_depth e) (low e) (ask e)

  -- ---- what is tested

  first_leaf : (class : ℕ) (spot : Spot) (leaves : List Leaf) → AllByRecursion (HasLeaf whole main local_size rank f class spot.may spot.type spot.room) leaves → HasFirst whole main local_size rank f class spot leaves
  first_leaf class spot [] all = tt
  first_leaf class spot (one ∷ leaves) all = all.0

  -- What stands in a variable may be tested, and so may a scalar or vector that is read.
  pub tested : (spot : Spot) (t : Ty) (calls : Bool) → spot.shape ≡ shape_of t → (spot.home ≡ None → spot.may.reads ≡ true) → (shape_of t ≡ None → Lies whole main local_size rank f s.place p.structs spot.home spot.may spot.room t spot.type) → (shape_of t ≡ None → calls ≡ true → is_nowhere spot.home ≡ false)
      → IsTested whole main local_size rank f p.structs t spot calls
  tested spot t false shaped reads lies rooted = IsTested.no_call
  tested spot t true shaped reads lies rooted = by (shape_of t) refl
    where
      there : (none : shape_of t ≡ None) (home : Option ℕ) → spot.home ≡ home → is_nowhere home ≡ false → IsTested whole main local_size rank f p.structs t spot true
      there none None at is = absurd (let z : true ≡ false = is in cc)
      there none (Some class) at is =
          let lie = subst (λ h. Lies whole main local_size rank f s.place p.structs h spot.may spot.room t spot.type) at (lies none) in
          IsTested.by_leaf none (shaped ∙ none) at (first_leaf class spot (leaves_of p.structs t) (leaves_there whole main local_size rank f s.place p.structs well.structs class spot.may spot.room t spot.type lie))

      by : (o : Option Shape) → shape_of t ≡ o → IsTested whole main local_size rank f p.structs t spot true
      by (Some shape) is = IsTested.in_shape is (shaped ∙ is) reads
      by None none = there none spot.home refl (rooted none refl)

  -- ---- assignments

  module _ (a b : Expr) (t : Ty) (is_a : Is a) (is_b : Is b) (read_b : MayBeRead around b) (of_a : type_of a ≡ t) (of_b : type_of b ≡ t) (valued : is_value_type t ≡ true) (writable : is_writable around a ≡ true) where
    abbrev two : Bool
    two = (low b).traits.splits

    assign_asked : (there : There a) (us : List Ty) → Wants (ask b).value tt us → Wants (needs.assigned (ask a) (ask b)) tt (there.types ++ (lead_types two there.lead ++ us))
    assign_asked there us second =
        subst (λ (k : Traits). Wants (needs.assigned (ask a) (record (ask b) { traits = k })) tt (there.types ++ (lead_types two there.lead ++ us))) (sym is_b.same)
        (wants_then (ask a).reach (λ lead before. behind (hold_lead two lead before) (λ done. (ask b).value)) there.lead tt there.types (lead_types two there.lead ++ us) there.asked
        (wants_then (hold_lead two there.lead) (λ done. (ask b).value) tt tt (lead_types two there.lead) us (wants_lead two there.lead) second))

    assign_ids : (there : There a) (us : List Ty) → ids_for (there.types ++ (lead_types two there.lead ++ us)) ≡ (ids_for there.types ++ held_if two (asked_of whole there.spot)) ++ ids_for us
    assign_ids there us =
        types_append whole s.place there.types (lead_types two there.lead ++ us) ∙ ap (λ l. ids_for there.types ++ l) (types_append whole s.place (lead_types two there.lead) us ∙ ap (λ l. l ++ ids_for us) (lead_for whole s.place two there.spot there.lead there.agree))
        ∙ sym (append_assoc (ids_for there.types) (held_if two (asked_of whole there.spot)) (ids_for us))

    pub assign_here : Here (ExprKind-F.Assign a b) t
    assign_here =
        simple.value_form whole main local_size rank f s p params locals well knows t (max (expr_depth a) (expr_depth b)) (parts.assigned p.structs (low a) (low b)) (needs.assigned (ask a) (ask b)) ((low a).traits.splits || two || false) ((low a).traits.calls || (low b).traits.calls)
        ((low a).traits.quiet && (low b).traits.quiet && false) (traits.of_two false false (ask a).traits (ask b).traits) (pairs.pair_same whole main local_size rank f s p params locals well knows false false a b is_a is_b)
        (pairs.two_silent (low a).traits.quiet (low b).traits.quiet false (low a).traits.splits two false is_a.silent.quiet is_b.silent.quiet (λ e. refl))
        (λ has.
        let has_a = subst Has (sym of_a) has in
        let real = value_real t valued in
        let there = there_of whole main local_size rank f s p params locals well knows a is_a (subst (λ u. u ≢ ty.Void) (sym of_a) real) (λ v. has_a) in
        let h = simple.value_of whole main local_size rank f s p params locals well knows b is_b read_b (subst Has (sym of_b) has) in
        let fixed : is_runtime_layer (out-Ty (type_of a)) ≡ false = value_fixed (type_of a) (ap is_value_type of_a ∙ valued) in
        let put_there : IsPut whole main local_size rank f s p.structs (low a).ty there.spot (id_for (type_of a)) =
        subst (λ u. IsPut whole main local_size rank f s p.structs u there.spot (id_for (type_of a))) (sym is_a.typed) (put whole main local_size rank f s p around well.structs knows there.spot there.lead (type_of a) there.agree there.shape there.lies fixed has_a) in
        let tests : IsTested whole main local_size rank f p.structs (low a).ty there.spot (low b).traits.calls =
        subst (λ u. IsTested whole main local_size rank f p.structs u there.spot (low b).traits.calls) (sym is_a.typed) (tested there.spot (type_of a) (low b).traits.calls there.shape there.reads_loose there.lies (λ none calls. there.rooted writable)) in
        record {
          types = there.types ++ (lead_types two there.lead ++ h.types);
          asked = assign_asked there h.types h.asked;
          evaluates = λ deep enough.
              subst (λ (l : List ℕ). E l deep ((low a).traits.splits || two || false) (id_for t) (parts.assigned p.structs (low a) (low b))) (sym (assign_ids there h.types))
              (subst (λ (c : Bool). E ((ids_for there.types ++ held_if two (asked_of whole there.spot)) ++ ids_for h.types) deep c (id_for t) (parts.assigned p.structs (low a) (low b))) (sym (or_false ((low a).traits.splits || two)))
              (subst (λ (u : Ty). E ((ids_for there.types ++ held_if two (asked_of whole there.spot)) ++ ids_for h.types) deep ((low a).traits.splits || two) (id_for u) (parts.assigned p.structs (low a) (low b))) of_a
              (assigned_evaluates whole main local_size rank f knows.sorted s (ids_for there.types) (ids_for h.types) deep (low a).traits.splits p.structs (low a) (low b) there.spot (id_for (type_of a)) (there.stores writable) tests put_there
              (there.reaches deep (max_left (expr_depth a) (expr_depth b) deep enough)) (subst (λ (u : Ty). E (ids_for h.types) deep two (id_for u) (low b).value) (of_b ∙ sym of_a) (h.evaluates deep (max_right (expr_depth a) (expr_depth b) deep enough))))));
        })

  -- ---- `op=`

  plain_reads : (t : Ty) (shape : Shape) (lead : Lead) → shape_of t ≡ Some shape → types_if (lead.in_block && not (is_plain t)) t ≡ []
  plain_reads t shape lead is = ap (λ (o : Option Shape). types_if (lead.in_block && not (has_shape o)) t) is ∙ ap (λ b. types_if b t) (none_of lead.in_block)
    where
      none_of : (b : Bool) → (b && false) ≡ false
      none_of true = refl
      none_of false = refl

  -- a scalar or vector that is read at a place takes no holder
  plain_asked : (t : Ty) (shape : Shape) (lead : Lead) → shape_of t ≡ Some shape → Wants (reads t lead) tt []
  plain_asked t shape lead is = subst (λ (l : List Ty). Wants (reads t lead) tt l) (plain_reads t shape lead is) (wants_reads t lead)

  module _ (op : BinaryOp) (a b : Expr) (t : Ty) (is_a : Is a) (is_b : Is b) (read_a : MayBeRead around a) (read_b : MayBeRead around b) (of_a : type_of a ≡ t) (operation : IsOperation op t (type_of b) t) (writable : is_writable around a ≡ true) (has_b : Has (type_of b)) where
    abbrev second : Bool
    second = (low b).traits.splits

    abbrev update_types : There a → List Ty → List Ty
    update_types there us = there.types ++ ((types_if second (type_of a) ++ lead_types second there.lead) ++ us)

    updated_asked : (shape : Shape) (lead : Lead) (k : Traits) → shape_of (type_of a) ≡ Some shape → Wants (updated_at (type_of a) k lead) tt (types_if k.splits (type_of a) ++ lead_types k.splits lead)
    unfolding updated_at
    updated_asked shape lead k is =
        wants_then (reads (type_of a) lead) (λ x before. behind (hold k.splits (type_of a) before) (λ y. hold_lead k.splits lead)) tt tt [] (types_if k.splits (type_of a) ++ lead_types k.splits lead) (plain_asked (type_of a) shape lead is)
        (wants_then (hold k.splits (type_of a)) (λ y. hold_lead k.splits lead) tt tt (types_if k.splits (type_of a)) (lead_types k.splits lead) (wants_hold k.splits (type_of a)) (wants_lead k.splits lead))

    abbrev update_so : Ty → Traits → Ask (Unit {0})
    update_so u k before = behind ((ask a).reach before) (λ lead before. behind (updated_at u k lead before) (λ done. (ask b).value))

    update_asked : (shape : Shape) (there : There a) (us : List Ty) → shape_of (type_of a) ≡ Some shape → Wants (ask b).value tt us → Wants (needs.updated (ask a) (ask b)) tt (update_types there us)
    update_asked shape there us is wants =
        subst (λ (k : Traits). Wants (update_so (ask a).ty k) tt (update_types there us)) (sym is_b.same) (subst (λ (u : Ty). Wants (update_so u (low b).traits) tt (update_types there us)) (sym is_a.asks_typed)
        (wants_then (ask a).reach (λ lead before. behind (updated_at (type_of a) (low b).traits lead before) (λ done. (ask b).value)) there.lead tt there.types ((types_if second (type_of a) ++ lead_types second there.lead) ++ us) there.asked
        (wants_then (updated_at (type_of a) (low b).traits there.lead) (λ done. (ask b).value) tt tt (types_if second (type_of a) ++ lead_types second there.lead) us (updated_asked shape there.lead (low b).traits is) wants)))

    update_ids : (there : There a) (us : List Ty) → ids_for (update_types there us) ≡ (ids_for there.types ++ (asked_if second (id_for (type_of a)) ++ held_if second (asked_of whole there.spot))) ++ ids_for us
    update_ids there us =
        types_append whole s.place there.types ((types_if second (type_of a) ++ lead_types second there.lead) ++ us)
        ∙ ap (λ l. ids_for there.types ++ l) (types_append whole s.place (types_if second (type_of a) ++ lead_types second there.lead) us
        ∙ ap (λ l. l ++ ids_for us) (types_append whole s.place (types_if second (type_of a)) (lead_types second there.lead) ∙ ap (λ l. l ++ ids_for (lead_types second there.lead)) (if_for whole s.place second (type_of a))
        ∙ ap (λ l. asked_if second (id_for (type_of a)) ++ l) (lead_for whole s.place second there.spot there.lead there.agree)))
        ∙ sym (append_assoc (ids_for there.types) (asked_if second (id_for (type_of a)) ++ held_if second (asked_of whole there.spot)) (ids_for us))

    update_evaluates : (there : There a) (us : List Ty) (deep : ℕ) (x y : Shape) → shape_of (type_of a) ≡ Some x → shape_of (type_of b) ≡ Some y → Takes op x y x → Has (type_of a) → expr_depth a ≤ deep → E (ids_for us) deep second (id_for (type_of b)) (low b).value
        → E ((ids_for there.types ++ (asked_if second (id_for (type_of a)) ++ held_if second (asked_of whole there.spot))) ++ ids_for us) deep ((low a).traits.splits || second) (id_for (type_of a)) (parts.updated p.structs op (low a) (low b))
    update_evaluates there us deep x y first other takes has_a enough value =
        let shape_a : shape_or (low a).ty ≡ x = simple.low_shape whole main local_size rank f s p params locals well knows a is_a x first in
        let shape_b : shape_or (low b).ty ≡ y = simple.low_shape whole main local_size rank f s p params locals well knows b is_b y other in
        let fit : Fit op (shape_or (low a).ty).1 (shape_or (low b).ty).1 = subst (λ (k : Shape). Fit op k.1 (shape_or (low b).ty).1) (sym shape_a) (subst (λ (k : Shape). Fit op x.1 k.1) (sym shape_b) takes.fit) in
        let suits : Suits op (shape_or (low a).ty).0 (shape_or (low b).ty).0 = subst (λ (k : Shape). Suits op k.0 (shape_or (low b).ty).0) (sym shape_a) (subst (λ (k : Shape). Suits op x.0 k.0) (sym shape_b) takes.suits) in
        let gives : pair_shape op (shape_or (low a).ty) (shape_or (low b).ty) ≡ shape_or (low a).ty =
        ap (λ (k : Shape). pair_shape op k (shape_or (low b).ty)) shape_a ∙ ap (λ (k : Shape). pair_shape op x k) shape_b ∙ takes.gives ∙ sym shape_a in
        updated_evaluates whole main local_size rank f knows.sorted s (ids_for there.types) (ids_for us) deep (low a).traits.splits p.structs op (low a) (low b) there.spot (id_for (type_of a)) (id_for (type_of b))
        (ap shape_of is_a.typed ∙ first ∙ ap Some (sym shape_a)) (there.shape ∙ first ∙ ap Some (sym shape_a)) (there.reads (simple.is_false (is_unreadable around a) read_a.0)) (there.stores writable)
        (simple.known_at whole main local_size rank f s p params locals well knows a is_a (shaped_known whole main local_size rank f s p.structs (type_of a) x first has_a)) (simple.plain_at whole main local_size rank f s p params locals well knows a is_a x first has_a)
        (simple.plain_at whole main local_size rank f s p params locals well knows b is_b y other has_b) fit suits gives (there.reaches deep enough) value

    pub update_here : Here (ExprKind-F.Update op a b) t
    update_here =
        simple.value_form whole main local_size rank f s p params locals well knows t (max (expr_depth a) (expr_depth b)) (parts.updated p.structs op (low a) (low b)) (needs.updated (ask a) (ask b)) ((low a).traits.splits || second || false) ((low a).traits.calls || (low b).traits.calls)
        ((low a).traits.quiet && (low b).traits.quiet && false) (traits.of_two false false (ask a).traits (ask b).traits) (pairs.pair_same whole main local_size rank f s p params locals well knows false false a b is_a is_b)
        (pairs.two_silent (low a).traits.quiet (low b).traits.quiet false (low a).traits.splits second false is_a.silent.quiet is_b.silent.quiet (λ e. refl))
        (λ has.
        let has_a = subst Has (sym of_a) has in
        let x = operation.0 in
        let y = operation.1 in
        let of_x : shape_of (type_of a) ≡ Some x = ap shape_of of_a ∙ operation.3 in
        let same : operation.2 ≡ x = some_is operation.2 x (sym (simple.shape_back operation.2) ∙ ap shape_of operation.6 ∙ operation.3) in
        let takes : Takes op x y x = subst (λ (z : Shape). Takes op x y z) same (operation_takes op x y operation.2 (plain_known whole main local_size rank f s p.structs (type_of a) x of_x has_a).sized.some operation.5) in
        let there = there_of whole main local_size rank f s p params locals well knows a is_a (shaped_real (type_of a) x of_x) (λ v. has_a) in
        let h = simple.value_of whole main local_size rank f s p params locals well knows b is_b read_b has_b in
        record {
          types = update_types there h.types;
          asked = update_asked x there h.types of_x h.asked;
          evaluates = λ deep enough.
              subst (λ (l : List ℕ). E l deep ((low a).traits.splits || second || false) (id_for t) (parts.updated p.structs op (low a) (low b))) (sym (update_ids there h.types))
              (subst (λ (c : Bool). E ((ids_for there.types ++ (asked_if second (id_for (type_of a)) ++ held_if second (asked_of whole there.spot))) ++ ids_for h.types) deep c (id_for t) (parts.updated p.structs op (low a) (low b))) (sym (or_false ((low a).traits.splits || second)))
              (subst (λ (u : Ty). E ((ids_for there.types ++ (asked_if second (id_for (type_of a)) ++ held_if second (asked_of whole there.spot))) ++ ids_for h.types) deep ((low a).traits.splits || second) (id_for u) (parts.updated p.structs op (low a) (low b))) of_a
              (update_evaluates there h.types deep x y of_x operation.4 takes has_a (max_left (expr_depth a) (expr_depth b) deep enough) (h.evaluates deep (max_right (expr_depth a) (expr_depth b) deep enough)))));
        })

  -- ---- `++` and `--`

  pub step_here : (op : StepOp) (a : Expr) (t : Ty) → Is a → MayBeRead around a → type_of a ≡ t → (shape : Shape) → shape_of t ≡ Some shape → is_integer shape.0 ≡ true → is_writable around a ≡ true → Here (ExprKind-F.Step op a) t
  step_here op a t is reads_a of_a shape shaped integer writable =
      simple.value_form whole main local_size rank f s p params locals well knows t (expr_depth a) (parts.stepped p.structs op (low a)) (λ before. behind ((ask a).reach before) (reads (ask a).ty)) (low a).traits.splits (low a).traits.calls false (traits.loud (ask a).traits) (ap traits.loud is.same)
      (λ e. absurd (let z : false ≡ true = e in cc))
      (λ has.
      let has_a = subst Has (sym of_a) has in
      let of_x : shape_of (type_of a) ≡ Some shape = ap shape_of of_a ∙ shaped in
      let there = there_of whole main local_size rank f s p params locals well knows a is (shaped_real (type_of a) shape of_x) (λ v. has_a) in
      let shape_a : shape_or (low a).ty ≡ shape = simple.low_shape whole main local_size rank f s p params locals well knows a is shape of_x in
      record {
        types = there.types;
        asked = subst (λ (u : Ty). Wants (λ before. behind ((ask a).reach before) (reads u)) tt there.types) (sym is.asks_typed) (wants_last (ask a).reach (reads (type_of a)) there.lead tt there.types there.asked (plain_asked (type_of a) shape there.lead of_x));
        evaluates = λ deep enough.
            subst (λ (u : Ty). E (ids_for there.types) deep (low a).traits.splits (id_for u) (parts.stepped p.structs op (low a))) of_a
            (stepped_evaluates whole main local_size rank f knows.sorted s (ids_for there.types) deep (low a).traits.splits p.structs op (low a) there.spot (id_for (type_of a)) (ap shape_of is.typed ∙ of_x ∙ ap Some (sym shape_a)) (there.shape ∙ of_x ∙ ap Some (sym shape_a))
            (there.reads (simple.is_false (is_unreadable around a) reads_a.0)) (there.stores writable) (simple.plain_at whole main local_size rank f s p params locals well knows a is shape of_x has_a) (ap (λ (k : Shape). is_integer k.0) shape_a ∙ integer) (there.reaches deep enough));
      })
