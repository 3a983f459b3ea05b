use Rattle.std.proofs.Common.{sym, subst}
use Rattle.std.specs.Prelude.{Bool}
use Rattle.gsl_layout.specs.Measures.{measure}
use Rattle.gsl_layout.specs.Outlines.{AreOutlined, EndsPlaced}
use Rattle.gsl_tree.specs.Laying.{rule_of}
use Rattle.gsl_check_blocks.proofs.so_far.end_behind.Goals as goal

pub end_of_placed-requires-clause-outlined : goal.end_of_placed-requires-clause-outlined
end_of_placed-requires-clause-outlined c = subst (λ (b : Bool). AreOutlined (rule_of b) c.args.structs.now c.args.outlines.now) c.if-std140.true c.requires.outlined

pub end_of_placed-requires-else-std140-clause-outlined : goal.end_of_placed-requires-else-std140-clause-outlined
end_of_placed-requires-else-std140-clause-outlined c = subst (λ (b : Bool). AreOutlined (rule_of b) c.args.structs.now c.args.outlines.now) c.if-std140.false c.requires.outlined

pub returns-then-std140 : goal.returns-then-std140
returns-then-std140 c before is =
    subst (λ (b : Bool). EndsPlaced c.end_of_placed.result before (c.args.placing, measure (rule_of b) c.args.structs.now c.args.ty.now)) (sym c.if-std140.true) (c.end_of_placed.ensures before is)

pub returns-else-std140 : goal.returns-else-std140
returns-else-std140 c before is =
    subst (λ (b : Bool). EndsPlaced c.end_of_placed-else-std140.result before (c.args.placing, measure (rule_of b) c.args.structs.now c.args.ty.now)) (sym c.if-std140.false) (c.end_of_placed-else-std140.ensures before is)
