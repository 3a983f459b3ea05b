-- Whole expressions, kind by kind, and the expressions in them.
use Rattle.std.proofs.Common.{◌≡◌, ℕ, Bool, true, List, length, Some, None, refl, sym, ap, ◌∙◌, subst}
use Rattle.std.specs.List.{AllByRecursion}
use Rattle.gsl_types.specs.Known.{IsSound}
use Rattle.gsl_types.specs.declared.ty.Direction.{Direction}
use Rattle.gsl_types.specs.declared.ty.Ty.{Ty}
use Rattle.gsl_types.specs.declared.ty.Ty.TheViews.{out-Ty}
use Rattle.gsl_tree.specs.Around.{Around}
use Rattle.gsl_values.specs.declared.value.Value.{Value}
use Rattle.gsl_tree.specs.Expressions.{HasType, IsExpr, IsNode, MayBeRead, element_of, is_in_range}
use Rattle.gsl_tree.specs.Paths.{is_unreadable, is_writable, kind_in, read_parts, unreadable_by, writable_by}
use Rattle.gsl_tree.specs.Statements.{depth_by, expr_depth}
use Rattle.gsl_tree.specs.Trees.{Throughout, ThroughoutAll, form_of, parts_of, type_of}
use Rattle.gsl_tree.specs.Values.{word_in}
use Rattle.gsl_tree.specs.WellTyped.{AreWellTyped, around_body, program_lists}
use Rattle.gsl_tree.specs.declared.expr.Expr.{Expr}
use Rattle.gsl_tree.specs.declared.expr.ExprKind.{ExprKind}
use Rattle.gsl_tree.specs.declared.expr.ExprKind.TheFolds.{fold-ExprKind, fold-roll-Expr, fold-roll-ExprKind}
use Rattle.gsl_tree.specs.declared.expr.ExprKind.TheOpen.{ExprKind-F}
use Rattle.gsl_tree.specs.declared.expr.ExprKind.TheViews.{out-Expr, roll-out-Expr, roll-out-ExprKind}
use Rattle.gsl_tree.specs.declared.program.Program.{Program}
use Rattle.gsl_spv.specs.Sections.{Sections}
use Rattle.gsl_lower_places.specs.declared.reached.Part.TheVariants.{Fixed}
use Rattle.gsl_lower_holders.specs.Flow.{Flow}
use Rattle.gsl_lower_traits.specs.Traits as traits
use Rattle.gsl_lower_expr.specs.Lowering as lowering
use Rattle.gsl_lower_expr.specs.Lowering.{lowered_by, lowers}
use Rattle.gsl_lower_expr.specs.Parts.{Lower}
use Rattle.gsl_lower_needs.specs.Needs as needs
use Rattle.gsl_lower_needs.specs.Needs.{Asking, asked_by, asks}
use Rattle.gsl_lower_used.specs.Lowered.{ThroughoutAllLowered, ThroughoutLowered, lowered_parts}
use Rattle.gsl_lower_used.proofs.Within.{call_passed, parts_throughout, tops}
use Rattle.gsl_fitting.specs.Fits.{Frame}
use Rattle.gsl_fitting_valued.specs.OfFittingKnown.{Asks, AsksFor, Fits, IsFitted, is_valued, setting_in}
use Rattle.gsl_fitting_valued.specs.OfFittingKnown.{Knows}
use Rattle.gsl_fitting_led.proofs.Assigns as assigns
use Rattle.gsl_fitting_led.proofs.Indexes as indexes
use Rattle.gsl_fitting_led.proofs.Indexes.{InRange}
use Rattle.gsl_fitting_valued.proofs.Counted as counted
use Rattle.gsl_fitting_valued.proofs.Pairs as pairs
use Rattle.gsl_fitting_led.proofs.Passed as passed
use Rattle.gsl_fitting_led.proofs.Passed.{converted_shapes}
use Rattle.gsl_fitting_led.proofs.Places as places
use Rattle.gsl_fitting_valued.proofs.Rows as rows
use Rattle.gsl_fitting_valued.proofs.Simple as simple
use Rattle.gsl_fitting_valued.proofs.Truths as truths
use Rattle.gsl_fitting_evaluated.proofs.Ranges.{literal_in_range, literal_word}

module _ (whole : Sections) (main : ℕ) (local_size : List ℕ) (rank : ℕ → ℕ) (f : Frame) (s : Flow) (p : Program) (params : List (Direction × Ty)) (locals : List Ty) (well : AreWellTyped (program_lists p))
    (knows : Knows whole main local_size rank f s p.structs (around_body (program_lists p) params locals)) where
  abbrev Is : Expr → Type 0
  Is = simple.Is whole main local_size rank f s p params locals well knows

  abbrev AllAre : List Expr → Type 0
  AllAre = simple.AllAre whole main local_size rank f s p params locals well knows

  abbrev Here : ExprKind-F ExprKind Expr → Ty → Type 0
  Here = simple.Here whole main local_size rank f s p params locals well knows

  abbrev low : Expr → Lower
  low = simple.low whole main local_size rank f s p params locals well knows

  abbrev ask : Expr → Asking
  ask = simple.ask whole main local_size rank f s p params locals well knows

  abbrev low_form : ExprKind-F ExprKind Expr → Ty → Lower
  low_form = simple.low_form whole main local_size rank f s p params locals well knows

  abbrev ask_form : ExprKind-F ExprKind Expr → Ty → Asking
  ask_form = simple.ask_form whole main local_size rank f s p params locals well knows

  abbrev kinds_low : ExprKind → Ty → Lower
  kinds_low = simple.kinds_low whole main local_size rank f s p params locals well knows

  abbrev kinds_ask : ExprKind → Ty → Asking
  kinds_ask = simple.kinds_ask whole main local_size rank f s p params locals well knows

  abbrev deep_form : ExprKind-F ExprKind Expr → ℕ
  deep_form = simple.deep_form whole main local_size rank f s p params locals well knows

  abbrev write_form : ExprKind-F ExprKind Expr → Bool
  write_form = simple.write_form whole main local_size rank f s p params locals well knows

  abbrev unread_form : ExprKind-F ExprKind Expr → Bool
  unread_form = simple.unread_form whole main local_size rank f s p params locals well knows

  abbrev around : Around
  around = around_body (program_lists p) params locals

  -- ---- an expression by its form

  low_is : (e : Expr) → low e ≡ low_form (form_of e) (type_of e)
  low_is e =
      ap low (sym (roll-out-Expr e)) ∙ fold-roll-Expr (Ty → Lower) Lower (lowered_by (setting_in p)) lowering.typed_by (out-Expr e)
      ∙ ap (λ (g : Ty → Lower). g (type_of e)) (ap kinds_low (sym (roll-out-ExprKind (out-Expr e).kind)) ∙ fold-roll-ExprKind (Ty → Lower) Lower (lowered_by (setting_in p)) lowering.typed_by (form_of e))

  ask_is : (e : Expr) → ask e ≡ ask_form (form_of e) (type_of e)
  ask_is e =
      ap ask (sym (roll-out-Expr e)) ∙ fold-roll-Expr (Ty → Asking) Asking (asked_by p.prototypes) needs.typed_by (out-Expr e)
      ∙ ap (λ (g : Ty → Asking). g (type_of e)) (ap kinds_ask (sym (roll-out-ExprKind (out-Expr e).kind)) ∙ fold-roll-ExprKind (Ty → Asking) Asking (asked_by p.prototypes) needs.typed_by (form_of e))

  deep_is : (e : Expr) → expr_depth e ≡ deep_form (form_of e)
  deep_is e =
      ap expr_depth (sym (roll-out-Expr e)) ∙ fold-roll-Expr ℕ ℕ depth_by kind_in (out-Expr e)
      ∙ ap (fold-ExprKind ℕ ℕ depth_by kind_in) (sym (roll-out-ExprKind (out-Expr e).kind)) ∙ fold-roll-ExprKind ℕ ℕ depth_by kind_in (form_of e)

  write_is : (e : Expr) → is_writable around e ≡ write_form (form_of e)
  write_is e =
      ap (is_writable around) (sym (roll-out-Expr e)) ∙ fold-roll-Expr Bool Bool (writable_by around) kind_in (out-Expr e)
      ∙ ap (fold-ExprKind Bool Bool (writable_by around) kind_in) (sym (roll-out-ExprKind (out-Expr e).kind)) ∙ fold-roll-ExprKind Bool Bool (writable_by around) kind_in (form_of e)

  unread_is : (e : Expr) → is_unreadable around e ≡ unread_form (form_of e)
  unread_is e =
      ap (is_unreadable around) (sym (roll-out-Expr e)) ∙ fold-roll-Expr Bool Bool (unreadable_by around) kind_in (out-Expr e)
      ∙ ap (fold-ExprKind Bool Bool (unreadable_by around) kind_in) (sym (roll-out-ExprKind (out-Expr e).kind)) ∙ fold-roll-ExprKind Bool Bool (unreadable_by around) kind_in (form_of e)

  abbrev Sound : Expr → Type 0
  Sound e = IsSound (length p.structs) (type_of e)

  abbrev AsksHere : Expr → ExprKind-F ExprKind Expr → Type 0
  AsksHere = AsksFor whole main local_size rank f s p

  literal_form : (i : Expr) (number : ℕ) → (low i).traits.literal ≡ Some number → (v : Value) × (form_of i ≡ ExprKind-F.Const v) × (word_in v ≡ number)
  literal_form i number e =
      let l = known (form_of i) (type_of i) number (ap (λ (l : Lower). l.traits.literal) (sym (low_is i)) ∙ e) in
      (l.0, l.1, literal_word (out-Ty (type_of i)) l.0 number l.2)
    where
      known : (form : ExprKind-F ExprKind Expr) (t : Ty) (number : ℕ) → (low_form form t).traits.literal ≡ Some number → (v : Value) × (form ≡ ExprKind-F.Const v) × (traits.literal_by (out-Ty t) v ≡ Some number)
      known (ExprKind-F.Const v) t number e = (v, refl, e)
      known form t number e = absurd (let z : None ≡ Some number = e in cc)

  -- an index that is a number is in range
  in_range : (a i : Expr) (t : Ty) (number : ℕ) → element_of (type_of a) ≡ Some t → is_in_range around a i ≡ true → (low i).traits.literal ≡ Some number → InRange (type_of a) (Fixed number)
  in_range a i t number element ranged literal = let l = literal_form i number literal in subst (λ n. InRange (type_of a) (Fixed n)) l.2 (literal_in_range around a i t l.0 l.1 element ranged)

  -- ---- every form

  by_kind : (e : Expr) (form : ExprKind-F ExprKind Expr) → AllByRecursion Sound (parts_of form) → AllByRecursion (IsNode around) (parts_of form) → AllAre (lowered_parts p.prototypes form) → HasType around form (type_of e) → AllByRecursion (MayBeRead around) (read_parts around form) → AsksHere e form → Here form (type_of e)
  unfolding lowers
  by_kind e (ExprKind-F.Const v) sounds nodes all is reads ask_for = simple.const_here whole main local_size rank f s p params locals well knows v (type_of e) is
  by_kind e (ExprKind-F.Local n) sounds nodes all is reads ask_for = simple.local_here whole main local_size rank f s p params locals well knows n (type_of e) is
  by_kind e (ExprKind-F.Global n) sounds nodes all is reads ask_for = simple.global_here whole main local_size rank f s p params locals well knows n (type_of e) is
  by_kind e (ExprKind-F.Param n) sounds nodes all is reads ask_for = simple.param_here whole main local_size rank f s p params locals well knows n (type_of e) is
  by_kind e (ExprKind-F.BlockMember block n) sounds nodes all is reads ask_for = simple.member_here whole main local_size rank f s p params locals well knows block n (type_of e) is
  by_kind e (ExprKind-F.Stage var) sounds nodes all is reads ask_for = counted.stage_here whole main local_size rank f s p params locals well knows var (type_of e) is.1 ask_for
  by_kind e (ExprKind-F.Interface n) sounds nodes all is reads ask_for = simple.interface_here whole main local_size rank f s p params locals well knows n (type_of e) is
  by_kind e (ExprKind-F.Member a n) sounds nodes all is reads ask_for = places.part_here whole main local_size rank f s p params locals well knows a n (type_of e) all.0 ask_for is
  by_kind e (ExprKind-F.Index a i) sounds nodes all is reads ask_for =
      indexes.index_here whole main local_size rank f s p params locals well knows a i (type_of e) all.0 all.1.0 reads.0 ask_for.0 ask_for.1 ask_for.2 sounds.0 is.0 is.1 (λ number literal. in_range a i (type_of e) number is.0 is.2 literal)
  by_kind e (ExprKind-F.Swizzle a lanes) sounds nodes all is reads ask_for = places.swizzle_here whole main local_size rank f s p params locals well knows a lanes (type_of e) all.0 ask_for is
  by_kind e (ExprKind-F.Length a) sounds nodes all is reads ask_for = counted.length_here whole main local_size rank f s p params locals well knows a (type_of e) (low_is a) nodes.0.type is.0 is.1
  by_kind e (ExprKind-F.Unary op a) sounds nodes all is reads ask_for = simple.unary_here whole main local_size rank f s p params locals well knows op a (type_of e) all.0 reads.0 ask_for is
  by_kind e (ExprKind-F.Binary op a b) sounds nodes all is reads ask_for = pairs.binary_here whole main local_size rank f s p params locals well knows op a b (type_of e) all.0 all.1.0 reads.0 reads.1.0 ask_for.0 ask_for.1 is
  by_kind e (ExprKind-F.Logic op a b) sounds nodes all is reads ask_for = truths.logic_here whole main local_size rank f s p params locals well knows op a b (type_of e) all.0 all.1.0 reads.0 reads.1.0 is.0 is.1 is.2
  by_kind e (ExprKind-F.Choose test a b) sounds nodes all is reads ask_for =
      truths.choose_here whole main local_size rank f s p params locals well knows test a b (type_of e) all.0 all.1.0 all.1.1.0 reads.0 reads.1.0 reads.1.1.0 is.0 is.1 is.2 is.3 ask_for
  by_kind e (ExprKind-F.Assign a b) sounds nodes all is reads ask_for = assigns.assign_here whole main local_size rank f s p params locals well knows a b (type_of e) all.0 all.1.0 reads.0 is.0 is.1 is.2 is.3
  by_kind e (ExprKind-F.Update op a b) sounds nodes all is reads ask_for = assigns.update_here whole main local_size rank f s p params locals well knows op a b (type_of e) all.0 all.1.0 reads.0 reads.1.0 is.0 is.2 is.3 ask_for
  by_kind e (ExprKind-F.Step op a) sounds nodes all is reads ask_for = assigns.step_here whole main local_size rank f s p params locals well knows op a (type_of e) all.0 reads.0 is.0 is.1.0 is.1.1 is.1.2 is.2
  by_kind e (ExprKind-F.Call n args) sounds nodes all is reads ask_for =
      passed.call_here whole main local_size rank f s p params locals well knows n args (type_of e) (subst AllAre (call_passed around n args (type_of e) is) all) reads is ask_for.0 ask_for.1 ask_for.2
  by_kind e (ExprKind-F.Built which args) sounds nodes all is reads ask_for = rows.built_here whole main local_size rank f s p params locals well knows args all reads ask_for which (type_of e) is
  by_kind e (ExprKind-F.Build args) sounds nodes all is reads ask_for = rows.build_here whole main local_size rank f s p params locals well knows args all reads ask_for (type_of e) is
  by_kind e (ExprKind-F.Convert a) sounds nodes all is reads ask_for =
      let c = converted_shapes (type_of a) (type_of e) is.0 in
      simple.convert_here whole main local_size rank f s p params locals well knows a (type_of e) all.0 reads.0 ask_for c.0 c.1 c.2 c.3 c.4
  by_kind e (ExprKind-F.Comma items) sounds nodes all is reads ask_for = rows.comma_here whole main local_size rank f s p params locals well knows items (type_of e) all reads ask_for is.1

  one_is : (e : Expr) → IsNode around e → AllByRecursion Sound (parts_of (form_of e)) → AllByRecursion (IsNode around) (parts_of (form_of e)) → AllAre (lowered_parts p.prototypes (form_of e)) → AsksHere e (form_of e) → Is e
  one_is e node sounds nodes all ask_for =
      subst (λ (b : Bool). Fits whole main local_size rank f s p b (is_writable around e) (is_valued (form_of e)) (type_of e) (expr_depth e) (low e) (ask e)) (sym (unread_is e))
      (subst (λ (b : Bool). Fits whole main local_size rank f s p (unread_form (form_of e)) b (is_valued (form_of e)) (type_of e) (expr_depth e) (low e) (ask e)) (sym (write_is e))
      (subst (λ (d : ℕ). Fits whole main local_size rank f s p (unread_form (form_of e)) (write_form (form_of e)) (is_valued (form_of e)) (type_of e) d (low e) (ask e)) (sym (deep_is e))
      (subst (λ (l : Lower). Fits whole main local_size rank f s p (unread_form (form_of e)) (write_form (form_of e)) (is_valued (form_of e)) (type_of e) (deep_form (form_of e)) l (ask e)) (sym (low_is e))
      (subst (λ (n : Asking). Fits whole main local_size rank f s p (unread_form (form_of e)) (write_form (form_of e)) (is_valued (form_of e)) (type_of e) (deep_form (form_of e)) (low_form (form_of e) (type_of e)) n) (sym (ask_is e))
      (by_kind e (form_of e) sounds nodes all node.type node.reads ask_for)))))

  mutual
    fitted : (e : Expr) → ThroughoutLowered p.prototypes (Asks whole main local_size rank f s p) e → Throughout (IsNode around) e → Throughout Sound e → Is e
    fitted _ (ThroughoutLowered.whole e ask_for others) (Throughout.whole _ node nodes) (Throughout.whole _ sound sounds) =
        one_is e node (tops Sound (parts_of (form_of e)) sounds) (tops (IsNode around) (parts_of (form_of e)) nodes)
        (all_fitted (lowered_parts p.prototypes (form_of e)) others (parts_throughout p.prototypes (IsNode around) (form_of e) nodes) (parts_throughout p.prototypes Sound (form_of e) sounds)) ask_for

    all_fitted : (es : List Expr) → ThroughoutAllLowered p.prototypes (Asks whole main local_size rank f s p) es → ThroughoutAll (IsNode around) es → ThroughoutAll Sound es → AllAre es
    all_fitted _ ThroughoutAllLowered.none nodes sounds = tt
    all_fitted _ (ThroughoutAllLowered.more e es ask_for others) (ThroughoutAll.more _ _ is rest) (ThroughoutAll.more _ _ sound sounds) = (fitted e ask_for is sound, all_fitted es others rest sounds)

pub expr_fits : (whole : Sections) (main : ℕ) (local_size : List ℕ) (rank : ℕ → ℕ) (f : Frame) (s : Flow) (p : Program) (params : List (Direction × Ty)) (locals : List Ty) (e : Expr) → AreWellTyped (program_lists p) → Knows whole main local_size rank f s p.structs (around_body (program_lists p) params locals)
    → IsExpr (around_body (program_lists p) params locals) e → Throughout (λ (part : Expr). IsSound (length p.structs) (type_of part)) e → ThroughoutLowered p.prototypes (Asks whole main local_size rank f s p) e → IsFitted whole main local_size rank f s p params locals e
unfolding lowers asks
expr_fits whole main local_size rank f s p params locals e well knows is sound ask_for = fitted whole main local_size rank f s p params locals well knows e ask_for is sound
