-- Names of members of blocks.
use Rattle.gsl_tree.specs.declared.expr.Expr.{Expr}
use Rattle.gsl_tree.specs.declared.expr.ExprKind.{ExprKind}
use Rattle.gsl_tree.specs.declared.expr.ExprKind.TheOpen.{ExprKind-F}

-- An expression of this form is the name of a member of a block.
abbrev pub IsMember : ExprKind-F ExprKind Expr → Type 0
IsMember (ExprKind-F.BlockMember block number) = Unit {0}
IsMember _ = ⊥
