use Rattle.std.proofs.Common.{◌≡◌, subst, IfOk}
use Rattle.gsl_base.specs.Checked.{GivesBy}
use Rattle.gsl_layout.specs.Layout.{need}
use Rattle.gsl_tree.specs.Laying.{layout_of}
use Rattle.gsl_check_expr.specs.declared.env.Env.{Env}
use Rattle.gsl_check_blocks.specs.Blocks.{may_be_block, with_need}
use Rattle.gsl_check_blocks.proofs.declaring.needed.Goals as goal

pub returns-clause-gives : goal.returns-clause-gives
returns-clause-gives c =
    subst (λ (e : Env). GivesBy (λ _. tt) c.may_be_block.result (may_be_block e c.args.q.now c.args.name.now c.args.instance.now (with_need e.scene.structs c.args.draft.now)))
    c.get-seen.ensures.is c.may_be_block.ensures.gives

pub returns-clause-need : goal.returns-clause-need
returns-clause-need c =
    subst (λ (e : Env). IfOk c.may_be_block.result (λ n. n ≡ need (layout_of e.scene.structs c.args.draft.now))) c.get-seen.ensures.is c.may_be_block.ensures.need
