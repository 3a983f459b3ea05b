use Rattle.std.proofs.Common.{subst}
use Rattle.gsl_base.specs.Checked.{Checked, GivesBy}
use Rattle.gsl_check_expr.specs.declared.env.Env.{Env}
use Rattle.gsl_check_blocks.proofs.Drafts.{behind_instance}
use Rattle.gsl_check_blocks.proofs.declaring.block_with.Goals as goal

pub returns : goal.returns
returns c =
    subst (λ (r : Checked Env). GivesBy (λ _. c.declare.new.env) c.declare.result r)
    (behind_instance c.args.kind c.args.q.now c.args.name.now c.args.instance.now c.args.members c.args.env.now c.get.result.now c.in_ok-draft.draft c.get.ensures.is
    c.in_ok-may_be_instance.ensures c.in_ok-draft.ensures)
    c.declare.ensures
