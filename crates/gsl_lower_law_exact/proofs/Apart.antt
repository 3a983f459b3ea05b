-- In a program without blocks no expression stands for a part of one.
use Rattle.std.proofs.Common.{◌≡◌, refl, sym, ap, ◌∙◌, Bool, false, List, []}
use Rattle.std.specs.List.{AllByRecursion}
use Rattle.gsl_types.specs.declared.ty.Direction.{Direction}
use Rattle.gsl_types.specs.declared.ty.Ty.{Ty}
use Rattle.gsl_tree.specs.Around.{Around}
use Rattle.gsl_tree.specs.Expressions.{HasType, IsNode}
use Rattle.gsl_tree.specs.Paths.{in_block, in_block_by, kind_in}
use Rattle.gsl_tree.specs.Trees.{Throughout, ThroughoutAll, form_of, parts_of, type_of}
use Rattle.gsl_tree.specs.WellTyped.{around_body, program_lists}
use Rattle.gsl_tree.specs.declared.expr.Expr.{Expr}
use Rattle.gsl_tree.specs.declared.expr.ExprKind.{ExprKind}
use Rattle.gsl_tree.specs.declared.expr.ExprKind.TheFolds.{fold-ExprKind, fold-roll-Expr, fold-roll-ExprKind, map-ExprKind}
use Rattle.gsl_tree.specs.declared.expr.ExprKind.TheOpen.{ExprKind-F}
use Rattle.gsl_tree.specs.declared.expr.ExprKind.TheViews.{out-Expr, roll-out-Expr, roll-out-ExprKind}
use Rattle.gsl_tree.specs.declared.program.Program.{Program}
use Rattle.gsl_lower_law_exact.proofs.Types.{no_member}

-- An expression stands for no part of a block.
abbrev pub IsApart : Expr → Type 0
IsApart e = in_block e ≡ false

module _ (p : Program) (none : p.blocks ≡ []) (params : List (Direction × Ty)) (locals : List Ty) where
  abbrev around : Around
  around = around_body (program_lists p) params locals

  abbrev kinds_blocked : ExprKind → Bool
  kinds_blocked = fold-ExprKind Bool Bool in_block_by kind_in

  abbrev is_blocked : ExprKind-F ExprKind Expr → Bool
  is_blocked form = in_block_by (map-ExprKind ExprKind Expr Bool Bool kinds_blocked in_block form)

  blocked_is : (e : Expr) → in_block e ≡ is_blocked (form_of e)
  blocked_is e =
      ap in_block (sym (roll-out-Expr e)) ∙ fold-roll-Expr Bool Bool in_block_by kind_in (out-Expr e)
      ∙ ap kinds_blocked (sym (roll-out-ExprKind (out-Expr e).kind)) ∙ fold-roll-ExprKind Bool Bool in_block_by kind_in (form_of e)

  by_form : (form : ExprKind-F ExprKind Expr) (t : Ty) → HasType around form t → AllByRecursion IsApart (parts_of form) → is_blocked form ≡ false
  by_form (ExprKind-F.BlockMember block n) t is all = absurd (no_member p none params locals block n is.0 is.1)
  by_form (ExprKind-F.Member a n) t is all = all.0
  by_form (ExprKind-F.Index a i) t is all = all.0
  by_form (ExprKind-F.Swizzle a lanes) t is all = all.0
  by_form form t is all = refl

  mutual
    pub apart : (e : Expr) → Throughout (IsNode around) e → IsApart e
    apart _ (Throughout.whole e node parts) = blocked_is e ∙ by_form (form_of e) (type_of e) node.type (all_apart (parts_of (form_of e)) parts)

    pub all_apart : (es : List Expr) → ThroughoutAll (IsNode around) es → AllByRecursion IsApart es
    all_apart _ ThroughoutAll.none = tt
    all_apart _ (ThroughoutAll.more e es is rest) = (apart e is, all_apart es rest)
