use Rattle.std.proofs.Common.{ap, ◌∙◌, ◌∷◌, ◌++◌, []}
use Rattle.gsl_link_numbers.proofs.Joined.{block_put, block_kept}
use Rattle.gsl_link_numbers.proofs.blocks.add_block.Goals as goal

pub returns-in_ok-push-clause-all : goal.returns-in_ok-push-clause-all
returns-in_ok-push-clause-all c =
    c.in_ok-push.ensures.ok ∙ ap (λ x. c.args.all.now ++ x ∷ []) c.in_ok-block.ensures
    ∙ block_put c.args.block.now c.in_ok-name.name c.args.names.now.keys c.args.all.now c.in_ok-put_name.field-0 (c.in_ok-name.ensures ∙ c.as_str.ensures) c.requires.named
    c.in_ok-put_name.ensures.new c.if-branch.true

pub returns-else-branch-clause-all : goal.returns-else-branch-clause-all
returns-else-branch-clause-all c =
    block_kept c.args.block.now c.in_ok-name.name c.args.names.now.keys c.args.all.now c.in_ok-put_name.field-0 (c.in_ok-name.ensures ∙ c.as_str.ensures) c.requires.named
    c.in_ok-put_name.ensures.new c.if-branch.false
