-- `&&`, `||`, `^^` and `?:`.
use Rattle.std.proofs.Common.{◌≡◌, ℕ, ◌+◌, ◌≤◌, Bool, true, false, ◌&&◌, ◌||◌, not, cond, List, [], ◌∷◌, ◌++◌, Option, Some, None, refl, sym, ap, ◌∙◌, subst, zero, suc, arith}
use Rattle.std.specs.Prelude.{max}
use Rattle.std.proofs.lemmas.Bool.{and_parts, eqb-true}
use Rattle.gsl_types.specs.declared.ty.Direction.{Direction}
use Rattle.gsl_types.specs.declared.ty.Scalar.TheVariants.{Bool as Boolean}
use Rattle.gsl_types.specs.declared.ty.Ty.{Ty}
use Rattle.gsl_types.specs.declared.ty.Ty.TheVariants as ty
use Rattle.gsl_types.specs.declared.ty.Ty.TheVariants.{outs-One}
use Rattle.gsl_tree.specs.Around.{Around}
use Rattle.gsl_tree.specs.Expressions.{MayBeRead, boolean, is_value_type}
use Rattle.gsl_tree.specs.Shapes.{Shape, flag, shape_of}
use Rattle.gsl_tree.specs.Statements.{expr_depth, logic_depth}
use Rattle.gsl_tree.specs.Trees.{type_of}
use Rattle.gsl_tree.specs.WellTyped.{AreWellTyped, around_body, program_lists}
use Rattle.gsl_tree.specs.declared.expr.Expr.{Expr}
use Rattle.gsl_tree.specs.declared.expr.ExprKind.{ExprKind}
use Rattle.gsl_tree.specs.declared.expr.ExprKind.TheOpen.{ExprKind-F}
use Rattle.gsl_tree.specs.declared.expr.LogicOp.{LogicOp}
use Rattle.gsl_tree.specs.declared.expr.LogicOp.TheVariants as logic
use Rattle.gsl_tree.specs.declared.program.Program.{Program}
use Rattle.gsl_spv.specs.Sections.{Sections}
use Rattle.gsl_lower_holders.specs.Flow.{Emit, Flow}
use Rattle.gsl_lower_traits.specs.Traits as traits
use Rattle.gsl_lower_traits.specs.Traits.{is_one, is_selected, is_short}
use Rattle.gsl_lower_traits.specs.declared.traits.Traits.{Traits}
use Rattle.gsl_lower_expr.specs.Parts as parts
use Rattle.gsl_lower_expr.specs.Parts.{shape_or}
use Rattle.gsl_lower_needs.specs.Asking.{behind, need}
use Rattle.gsl_lower_needs.specs.Needs as needs
use Rattle.gsl_lower_needs.specs.declared.need.Need.TheVariants.{Holder}
use Rattle.gsl_fitting.specs.Fits.{Frame}
use Rattle.gsl_fitting_flow.specs.Flowing.{IsTypeFor, asked_if}
use Rattle.gsl_fitting_expr.proofs.Operands.{both_evaluates, forked_evaluates, short_evaluates}
use Rattle.gsl_fitting_expr.proofs.Yielding.{or_false}
use Rattle.gsl_fitting_known.specs.Ids.{Wants}
use Rattle.gsl_fitting_known.specs.Known.{Knows}
use Rattle.gsl_fitting_valued.proofs.Pairs as pairs
use Rattle.gsl_fitting_valued.proofs.Pairs.{boolean_shape, max_left, max_right, two_silent, value_real}
use Rattle.gsl_fitting_valued.proofs.Picked.{picked_evaluates}
use Rattle.gsl_fitting_valued.proofs.Simple as simple
use Rattle.gsl_fitting_known.proofs.Types.{plain_known, shape_or_is, shaped_known, type_known}
use Rattle.gsl_fitting_known.proofs.Wanting.{types_append, wants_holder, wants_then}

or_true : (a : Bool) → (a || true) ≡ true
or_true true = refl
or_true false = refl

-- the right operand is entered in a block of its own where an arm stands
short_depth : (which : LogicOp) (b : Traits) (x y deep : ℕ) → is_short which b ≡ true → logic_depth which x y ≤ deep → max x (1 + y) ≤ deep
short_depth logic.And b x y deep is low = low
short_depth logic.Or b x y deep is low = low
short_depth logic.Xor b x y deep is low = absurd (let z : false ≡ true = is in cc)

both_depth : (which : LogicOp) (x y deep : ℕ) → logic_depth which x y ≤ deep → max x y ≤ deep
both_depth logic.And x y deep low = omega (arith, low)
both_depth logic.Or x y deep low = omega (arith, low)
both_depth logic.Xor x y deep low = low

quiet_short : (which : LogicOp) (b : Traits) → b.quiet ≡ true → is_short which b ≡ false
quiet_short logic.And b is = ap not is
quiet_short logic.Or b is = ap not is
quiet_short logic.Xor b is = refl

-- where both values are there neither has labels
selected_silent : (one a b first second third : Bool) → (a ≡ true → second ≡ false) → (b ≡ true → third ≡ false) → (one && a && b) ≡ true → (second ≡ false) × (third ≡ false)
selected_silent one a b first second third so_a so_b is = let w = and_parts (one && a) b is in (so_a (and_parts one a w.0).1, so_b w.1)

choice_silent : (test one a b first second third : Bool) → (test ≡ true → first ≡ false) → (a ≡ true → second ≡ false) → (b ≡ true → third ≡ false) → (test && (one && a && b)) ≡ true → (first || second || third || not (one && a && b)) ≡ false
choice_silent test one a b first second third so so_a so_b is =
    let w = and_parts test (one && a && b) is in
    let both = selected_silent one a b first second third so_a so_b w.1 in
    ap (λ x. x || second || third || not (one && a && b)) (so w.0) ∙ ap (λ x. x || third || not (one && a && b)) both.0 ∙ ap (λ x. x || not (one && a && b)) both.1 ∙ ap not w.1

single_shape : (o : Option Shape) → is_one o ≡ true → (shape : Shape) × (o ≡ Some shape) × (shape.1 ≡ 1)
single_shape None is = absurd (let z : false ≡ true = is in cc)
single_shape (Some shape) is = (shape, refl, eqb-true shape.1 1 is)

module _ (whole : Sections) (main : ℕ) (local_size : List ℕ) (rank : ℕ → ℕ) (f : Frame) (s : Flow) (p : Program) (params : List (Direction × Ty)) (locals : List Ty) (well : AreWellTyped (program_lists p))
    (knows : Knows whole main local_size rank f s p.structs (around_body (program_lists p) params locals)) where
  abbrev Is : Expr → Type 0
  Is = simple.Is whole main local_size rank f s p params locals well knows

  abbrev Has : Ty → Type 0
  Has = simple.Has whole main local_size rank f s p params locals well knows

  abbrev Here : ExprKind-F ExprKind Expr → Ty → Type 0
  Here = simple.Here whole main local_size rank f s p params locals well knows

  abbrev low : Expr → parts.Lower
  low = simple.low whole main local_size rank f s p params locals well knows

  abbrev ask : Expr → needs.Asking
  ask = simple.ask whole main local_size rank f s p params locals well knows

  abbrev id_for : Ty → ℕ
  id_for = simple.id_for whole main local_size rank f s p params locals well knows

  abbrev ids_for : List Ty → List ℕ
  ids_for = simple.ids_for whole main local_size rank f s p params locals well knows

  abbrev E : List ℕ → ℕ → Bool → ℕ → Emit ℕ → Type 0
  E = simple.E whole main local_size rank f s p params locals well knows

  abbrev P : Shape → ℕ → Type 0
  P = simple.P whole main local_size rank f s p params locals well knows

  abbrev Gives : Ty → ℕ → parts.Lower → needs.Asking → Type 0
  Gives = simple.Gives whole main local_size rank f s p params locals well knows

  abbrev around : Around
  around = around_body (program_lists p) params locals

  abbrev value_of : (e : Expr) → Is e → MayBeRead around e → Has (type_of e) → Gives (type_of e) (expr_depth e) (low e) (ask e)
  value_of = simple.value_of whole main local_size rank f s p params locals well knows

  -- ---- `&&`, `||` and `^^`

  module _ (op : LogicOp) (a b : Expr) (t : Ty) (is_a : Is a) (is_b : Is b) (read_a : MayBeRead around a) (read_b : MayBeRead around b) (of_a : type_of a ≡ boolean) (of_b : type_of b ≡ boolean) (of_t : t ≡ boolean) where
    abbrev one : Bool
    one = (low a).traits.splits

    abbrev two : Bool
    two = (low b).traits.splits

    abbrev short_types : List Ty → List Ty → List Ty
    short_types ts us = ts ++ ty.One Boolean ∷ us

    abbrev logic_types : Bool → List Ty → List Ty → List Ty
    logic_types true ts us = short_types ts us
    logic_types false ts us = pairs.two_types whole main local_size rank f s p params locals well knows a b ts us

    logic_asked : (k : Bool) (ts us : List Ty) → Wants (ask a).value tt ts → Wants (ask b).value tt us → Wants (cond k (needs.short (ask a) (ask b)) (needs.of_two (ask a) (ask b))) tt (logic_types k ts us)
    logic_asked true ts us first second =
        wants_then (ask a).value (λ x before. behind (need (Holder (ty.One Boolean)) before) (λ done. (ask b).value)) tt tt ts (ty.One Boolean ∷ us) first
        (wants_then (need (Holder (ty.One Boolean))) (λ done. (ask b).value) tt tt (ty.One Boolean ∷ []) us (wants_holder (ty.One Boolean)) second)
    logic_asked false ts us first second = pairs.two_asked whole main local_size rank f s p params locals well knows a b ts us is_a is_b first second

    logic_short : (ts us : List Ty) (deep : ℕ) → P flag (id_for boolean) → max (expr_depth a) (1 + expr_depth b) ≤ deep → ((deep : ℕ) → expr_depth a ≤ deep → E (ids_for ts) deep one (id_for boolean) (low a).value) → ((deep : ℕ) → expr_depth b ≤ deep → E (ids_for us) deep two (id_for boolean) (low b).value)
        → E (ids_for (short_types ts us)) deep true (id_for boolean) (parts.short op (low a) (low b))
    logic_short ts us zero plain low_enough first second = absurd (let z : 1 ≤ 0 = omega (arith, low_enough) in omega (arith, z))
    logic_short ts us (suc deep) plain low_enough first second =
        subst (λ (l : List ℕ). E l (suc deep) true (id_for boolean) (parts.short op (low a) (low b))) (sym (types_append whole s.place ts (ty.One Boolean ∷ us)))
        (short_evaluates whole main local_size rank f knows.sorted s (ids_for ts) (ids_for us) deep one two (id_for boolean) op (low a) (low b) plain (first (suc deep) (omega (arith, low_enough))) (second deep (omega (arith, low_enough))))

    logic_both : (ts us : List Ty) (deep : ℕ) → P flag (id_for boolean) → IsTypeFor whole main local_size rank f s.place (low a).ty (id_for boolean) → E (ids_for ts) deep one (id_for boolean) (low a).value → E (ids_for us) deep two (id_for boolean) (low b).value
        → E (ids_for (logic_types false ts us)) deep (one || two) (id_for boolean) (parts.both op (low a) (low b))
    logic_both ts us deep plain known first second =
        subst (λ (l : List ℕ). E l deep (one || two) (id_for boolean) (parts.both op (low a) (low b))) (sym (pairs.two_ids whole main local_size rank f s p params locals well knows a b ts us ∙ ap (λ (u : Ty). ids_for ts ++ (asked_if two (id_for u) ++ ids_for us)) of_a))
        (both_evaluates whole main local_size rank f knows.sorted s (ids_for ts) (ids_for us) deep one (id_for boolean) op (low a) (low b) known plain first second)

    logic_by : (k : Bool) (ts us : List Ty) (deep : ℕ) → is_short op (low b).traits ≡ k → P flag (id_for boolean) → IsTypeFor whole main local_size rank f s.place (low a).ty (id_for boolean) → logic_depth op (expr_depth a) (expr_depth b) ≤ deep
        → ((deep : ℕ) → expr_depth a ≤ deep → E (ids_for ts) deep one (id_for boolean) (low a).value) → ((deep : ℕ) → expr_depth b ≤ deep → E (ids_for us) deep two (id_for boolean) (low b).value)
        → E (ids_for (logic_types k ts us)) deep (one || two || k) (id_for boolean) (cond k (parts.short op (low a) (low b)) (parts.both op (low a) (low b)))
    logic_by true ts us deep is plain known enough first second =
        subst (λ (c : Bool). E (ids_for (short_types ts us)) deep c (id_for boolean) (parts.short op (low a) (low b))) (sym (or_true (one || two)))
        (logic_short ts us deep plain (short_depth op (low b).traits (expr_depth a) (expr_depth b) deep is enough) first second)
    logic_by false ts us deep is plain known enough first second =
        let low_enough = both_depth op (expr_depth a) (expr_depth b) deep enough in
        subst (λ (c : Bool). E (ids_for (logic_types false ts us)) deep c (id_for boolean) (parts.both op (low a) (low b))) (sym (or_false (one || two)))
        (logic_both ts us deep plain known (first deep (max_left (expr_depth a) (expr_depth b) deep low_enough)) (second deep (max_right (expr_depth a) (expr_depth b) deep low_enough)))

    pub logic_here : Here (ExprKind-F.Logic op a b) t
    logic_here =
        simple.value_form whole main local_size rank f s p params locals well knows t (logic_depth op (expr_depth a) (expr_depth b)) (parts.logical op (low a) (low b)) (needs.logical op (ask a) (ask b)) (one || two || is_short op (low b).traits) ((low a).traits.calls || (low b).traits.calls)
        ((low a).traits.quiet && (low b).traits.quiet && true) (traits.of_two (is_short op (ask b).traits) true (ask a).traits (ask b).traits)
        (ap (λ (k : Traits). traits.of_two (is_short op k) true (ask a).traits (ask b).traits) is_b.same ∙ pairs.pair_same whole main local_size rank f s p params locals well knows (is_short op (low b).traits) true a b is_a is_b)
        (two_silent (low a).traits.quiet (low b).traits.quiet true one two (is_short op (low b).traits) is_a.silent.quiet is_b.silent.quiet (quiet_short op (low b).traits))
        (λ has.
        let has_bool : Has boolean = subst Has of_t has in
        let g = value_of a is_a read_a (subst Has (sym of_a) has_bool) in
        let h = value_of b is_b read_b (subst Has (sym of_b) has_bool) in
        let known = simple.known_at whole main local_size rank f s p params locals well knows a is_a (shaped_known whole main local_size rank f s p.structs (type_of a) flag (boolean_shape (type_of a) of_a) (subst Has (sym of_a) has_bool)) in
        record {
          types = logic_types (is_short op (low b).traits) g.types h.types;
          asked = subst (λ (k : Traits). Wants (cond (is_short op k) (needs.short (ask a) (ask b)) (needs.of_two (ask a) (ask b))) tt (logic_types (is_short op (low b).traits) g.types h.types)) (sym is_b.same) (logic_asked (is_short op (low b).traits) g.types h.types g.asked h.asked);
          evaluates = λ deep enough.
              subst (λ (u : Ty). E (ids_for (logic_types (is_short op (low b).traits) g.types h.types)) deep (one || two || is_short op (low b).traits) (id_for u) (parts.logical op (low a) (low b))) (sym of_t)
              (logic_by (is_short op (low b).traits) g.types h.types deep refl (plain_known whole main local_size rank f s p.structs boolean flag (boolean_shape boolean refl) has_bool)
              (subst (λ (u : Ty). IsTypeFor whole main local_size rank f s.place (low a).ty (id_for u)) of_a known) enough
              (λ d e. subst (λ (u : Ty). E (ids_for g.types) d one (id_for u) (low a).value) of_a (g.evaluates d e)) (λ d e. subst (λ (u : Ty). E (ids_for h.types) d two (id_for u) (low b).value) of_b (h.evaluates d e)));
        })

  -- ---- `?:`

  module _ (test a b : Expr) (t : Ty) (is_test : Is test) (is_a : Is a) (is_b : Is b) (read_test : MayBeRead around test) (read_a : MayBeRead around a) (read_b : MayBeRead around b) (of_test : type_of test ≡ boolean) (of_a : type_of a ≡ t) (of_b : type_of b ≡ t) (valued : is_value_type t ≡ true)
      (has_test : Has (type_of test)) where
    abbrev k_test : Traits
    k_test = (low test).traits

    abbrev k_a : Traits
    k_a = (low a).traits

    abbrev k_b : Traits
    k_b = (low b).traits

    abbrev choice_types : Bool → List Ty → List Ty → List Ty → List Ty
    choice_types true qs ts us = qs ++ (ts ++ us)
    choice_types false qs ts us = qs ++ t ∷ (ts ++ us)

    choice_asked : (k : Bool) (qs ts us : List Ty) → Wants (ask test).value tt qs → Wants (ask a).value tt ts → Wants (ask b).value tt us → Wants (cond k (needs.picked_one (ask test) (ask a) (ask b)) (needs.forked t (ask test) (ask a) (ask b))) tt (choice_types k qs ts us)
    choice_asked true qs ts us condition first second =
        wants_then (ask test).value (λ x before. behind ((ask a).value before) (λ y. (ask b).value)) tt tt qs (ts ++ us) condition (wants_then (ask a).value (λ y. (ask b).value) tt tt ts us first second)
    choice_asked false qs ts us condition first second =
        wants_then (ask test).value (λ x before. behind (need (Holder t) before) (λ done before. behind ((ask a).value before) (λ y. (ask b).value))) tt tt qs (t ∷ (ts ++ us)) condition
        (wants_then (need (Holder t)) (λ done before. behind ((ask a).value before) (λ y. (ask b).value)) tt tt (t ∷ []) (ts ++ us) (wants_holder t) (wants_then (ask a).value (λ y. (ask b).value) tt tt ts us first second))

    choice_forked : (qs ts us : List Ty) (deep : ℕ) → Has t → P flag (id_for (type_of test)) → max (expr_depth test) (1 + max (expr_depth a) (expr_depth b)) ≤ deep → ((deep : ℕ) → expr_depth test ≤ deep → E (ids_for qs) deep k_test.splits (id_for (type_of test)) (low test).value)
        → ((deep : ℕ) → expr_depth a ≤ deep → E (ids_for ts) deep k_a.splits (id_for t) (low a).value) → ((deep : ℕ) → expr_depth b ≤ deep → E (ids_for us) deep k_b.splits (id_for t) (low b).value)
        → E (ids_for (choice_types false qs ts us)) deep true (id_for t) (parts.forked t (low test) (low a) (low b))
    choice_forked qs ts us zero has plain enough condition first second = absurd (let z : 1 ≤ 0 = omega (arith, enough) in omega (arith, z))
    choice_forked qs ts us (suc deep) has plain enough condition first second =
        subst (λ (l : List ℕ). E l (suc deep) true (id_for t) (parts.forked t (low test) (low a) (low b))) (sym (types_append whole s.place qs (t ∷ (ts ++ us)) ∙ ap (λ l. ids_for qs ++ id_for t ∷ l) (types_append whole s.place ts us)))
        (forked_evaluates whole main local_size rank f knows.sorted s (ids_for qs) (ids_for ts) (ids_for us) deep k_test.splits k_a.splits k_b.splits (id_for (type_of test)) (id_for t) t (low test) (low a) (low b) plain
        (type_known whole main local_size rank f s p.structs t (value_real t valued) has) (condition (suc deep) (omega (arith, enough))) (first deep (omega (arith, enough))) (second deep (omega (arith, enough))))

    choice_picked : (qs ts us : List Ty) (deep : ℕ) → Has t → P flag (id_for (type_of test)) → is_selected t k_a k_b ≡ true → max (expr_depth test) (1 + max (expr_depth a) (expr_depth b)) ≤ deep → ((deep : ℕ) → expr_depth test ≤ deep → E (ids_for qs) deep k_test.splits (id_for (type_of test)) (low test).value)
        → ((deep : ℕ) → expr_depth a ≤ deep → E (ids_for ts) deep k_a.splits (id_for t) (low a).value) → ((deep : ℕ) → expr_depth b ≤ deep → E (ids_for us) deep k_b.splits (id_for t) (low b).value)
        → E (ids_for (choice_types true qs ts us)) deep (k_test.splits || k_a.splits || k_b.splits || false) (id_for t) (parts.picked_one t (low test) (low a) (low b))
    choice_picked qs ts us deep has plain is enough condition first second =
        let silent = selected_silent (is_one (shape_of t)) k_a.quiet k_b.quiet k_test.splits k_a.splits k_b.splits is_a.silent.quiet is_b.silent.quiet is in
        let shape = single_shape (shape_of t) (and_parts (is_one (shape_of t)) k_a.quiet (and_parts (is_one (shape_of t) && k_a.quiet) k_b.quiet is).0).0 in
        let single : (shape_or t).1 ≡ 1 = ap (λ (x : Shape). x.1) (shape_or_is t shape.0 shape.1) ∙ shape.2 in
        let of : P (shape_or t) (id_for t) = subst (λ (x : Shape). P x (id_for t)) (sym (shape_or_is t shape.0 shape.1)) (plain_known whole main local_size rank f s p.structs t shape.0 shape.1 has) in
        let labels : (k_test.splits || k_a.splits || k_b.splits || false) ≡ k_test.splits =
        ap (λ x. k_test.splits || x || k_b.splits || false) silent.0 ∙ ap (λ x. k_test.splits || false || x || false) silent.1 ∙ or_false (k_test.splits || false || false) ∙ or_false (k_test.splits || false) ∙ or_false k_test.splits in
        subst (λ (l : List ℕ). E l deep (k_test.splits || k_a.splits || k_b.splits || false) (id_for t) (parts.picked_one t (low test) (low a) (low b))) (sym (types_append whole s.place qs (ts ++ us) ∙ ap (λ l. ids_for qs ++ l) (types_append whole s.place ts us)))
        (subst (λ (c : Bool). E (ids_for qs ++ (ids_for ts ++ ids_for us)) deep c (id_for t) (parts.picked_one t (low test) (low a) (low b))) (sym labels)
        (picked_evaluates whole main local_size rank f knows.sorted s (ids_for qs) (ids_for ts) (ids_for us) deep (id_for (type_of test)) (id_for t) k_test.splits t (low test) (low a) (low b) plain of single (condition deep (omega (arith, enough)))
        (subst (λ (c : Bool). E (ids_for ts) deep c (id_for t) (low a).value) silent.0 (first deep (omega (arith, enough)))) (subst (λ (c : Bool). E (ids_for us) deep c (id_for t) (low b).value) silent.1 (second deep (omega (arith, enough))))))

    choice_by : (k : Bool) (qs ts us : List Ty) (deep : ℕ) → Has t → P flag (id_for (type_of test)) → is_selected t k_a k_b ≡ k → max (expr_depth test) (1 + max (expr_depth a) (expr_depth b)) ≤ deep → ((deep : ℕ) → expr_depth test ≤ deep → E (ids_for qs) deep k_test.splits (id_for (type_of test)) (low test).value)
        → ((deep : ℕ) → expr_depth a ≤ deep → E (ids_for ts) deep k_a.splits (id_for t) (low a).value) → ((deep : ℕ) → expr_depth b ≤ deep → E (ids_for us) deep k_b.splits (id_for t) (low b).value)
        → E (ids_for (choice_types k qs ts us)) deep (k_test.splits || k_a.splits || k_b.splits || not k) (id_for t) (cond k (parts.picked_one t (low test) (low a) (low b)) (parts.forked t (low test) (low a) (low b)))
    choice_by true qs ts us deep has plain is enough condition first second = choice_picked qs ts us deep has plain is enough condition first second
    choice_by false qs ts us deep has plain is enough condition first second =
        subst (λ (c : Bool). E (ids_for (choice_types false qs ts us)) deep c (id_for t) (parts.forked t (low test) (low a) (low b))) (sym (or_true (k_test.splits || k_a.splits || k_b.splits)))
        (choice_forked qs ts us deep has plain enough condition first second)

    pub choose_here : Here (ExprKind-F.Choose test a b) t
    choose_here =
        simple.value_form whole main local_size rank f s p params locals well knows t (max (expr_depth test) (1 + max (expr_depth a) (expr_depth b))) (parts.chosen t (low test) (low a) (low b)) (needs.chosen t (ask test) (ask a) (ask b))
        (k_test.splits || k_a.splits || k_b.splits || not (is_selected t k_a k_b)) (k_test.calls || k_a.calls || k_b.calls) (k_test.quiet && is_selected t k_a k_b) (traits.chosen t (ask test).traits (ask a).traits (ask b).traits)
        (ap (λ (k : Traits). traits.chosen t k (ask a).traits (ask b).traits) is_test.same ∙ ap (λ (k : Traits). traits.chosen t k_test k (ask b).traits) is_a.same ∙ ap (λ (k : Traits). traits.chosen t k_test k_a k) is_b.same)
        (choice_silent k_test.quiet (is_one (shape_of t)) k_a.quiet k_b.quiet k_test.splits k_a.splits k_b.splits is_test.silent.quiet is_a.silent.quiet is_b.silent.quiet)
        (λ has.
        let e = value_of test is_test read_test has_test in
        let g = value_of a is_a read_a (subst Has (sym of_a) has) in
        let h = value_of b is_b read_b (subst Has (sym of_b) has) in
        record {
          types = choice_types (is_selected t k_a k_b) e.types g.types h.types;
          asked =
              subst (λ (k : Traits). Wants (cond (is_selected t k (ask b).traits) (needs.picked_one (ask test) (ask a) (ask b)) (needs.forked t (ask test) (ask a) (ask b))) tt (choice_types (is_selected t k_a k_b) e.types g.types h.types)) (sym is_a.same)
              (subst (λ (k : Traits). Wants (cond (is_selected t k_a k) (needs.picked_one (ask test) (ask a) (ask b)) (needs.forked t (ask test) (ask a) (ask b))) tt (choice_types (is_selected t k_a k_b) e.types g.types h.types)) (sym is_b.same)
              (choice_asked (is_selected t k_a k_b) e.types g.types h.types e.asked g.asked h.asked));
          evaluates = λ deep enough.
              choice_by (is_selected t k_a k_b) e.types g.types h.types deep has (plain_known whole main local_size rank f s p.structs (type_of test) flag (boolean_shape (type_of test) of_test) has_test) refl enough e.evaluates
              (λ d low_enough. subst (λ (u : Ty). E (ids_for g.types) d k_a.splits (id_for u) (low a).value) of_a (g.evaluates d low_enough)) (λ d low_enough. subst (λ (u : Ty). E (ids_for h.types) d k_b.splits (id_for u) (low b).value) of_b (h.evaluates d low_enough));
        })
