use Rattle.std.proofs.Common.{ap, ◌∙◌, ◌∷◌, ◌++◌, []}
use Rattle.gsl_link_numbers.proofs.Joined.{head_put, head_kept}
use Rattle.gsl_link_numbers.proofs.heads.add_head.Goals as goal

pub returns-in_ok-push-clause-all : goal.returns-in_ok-push-clause-all
returns-in_ok-push-clause-all c =
    c.in_ok-push.ensures.ok ∙ ap (λ x. c.args.all.now ++ x ∷ []) c.in_ok-head.ensures
    ∙ head_put c.args.head.now c.in_ok-key.key c.args.keys.now.keys c.args.all.now c.in_ok-put_key.field-0 c.in_ok-key.ensures c.requires.named
    c.in_ok-put_key.ensures.new c.if-branch.true

pub returns-else-branch-clause-all : goal.returns-else-branch-clause-all
returns-else-branch-clause-all c =
    head_kept c.args.head.now c.in_ok-key.key c.args.keys.now.keys c.args.all.now c.in_ok-put_key.field-0 c.in_ok-key.ensures c.requires.named
    c.in_ok-put_key.ensures.new c.if-branch.false
