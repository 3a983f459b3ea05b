use Rattle.std.proofs.Common.{ap, sym, ◌∙◌}
use Rattle.gsl_blocks.specs.Reading as reading
use Rattle.gsl_blocks.proofs.Steps.{read_on, read_none, ends, lacks}
use Rattle.gsl_blocks.proofs.order.read_all.Goals as goal

pub loop-block-preserved : goal.loop-block-preserved
loop-block-preserved c =
    read_on c.args.labels.now.keys c.args.first c.in-Some.block c.loop-block.blocks c.next.new.self c.loop-block.stack c.read_block.new.stack c.loop-block.deepest c.in-Some-2.depth c.deeper-deepest.result _ _
    c.in_ok-read_block.ensures c.in-Some-2.is c.in-Some.ensures c.deeper-deepest.ensures c.loop-block.invariant

pub returns-in-None : goal.returns-in-None
returns-in-None c =
    read_none c.args.labels.now.keys c.args.first c.in-Some.block c.loop-block.blocks c.next.new.self c.loop-block.stack c.read_block.new.stack c.loop-block.deepest _ _
    c.in_ok-read_block.ensures c.in-None.is c.in-Some.ensures c.loop-block.invariant.0

pub returns-then-is_empty : goal.returns-then-is_empty
returns-then-is_empty c =
    sym (ends c.args.labels.now.keys c.args.first c.loop-block.stack c.loop-block.deepest (c.is_empty.ensures.0 c.if-is_empty.true))
    ∙ ap (λ z. reading.reads c.args.labels.now.keys c.args.first z c.loop-block.stack c.loop-block.deepest) (sym c.in_default.ensures.0) ∙ c.loop-block.invariant.0

pub returns : goal.returns
returns c =
    sym (lacks c.args.labels.now.keys c.args.first c.loop-block.stack c.loop-block.deepest c.is_empty.result c.is_empty.ensures c.if-is_empty.false)
    ∙ ap (λ z. reading.reads c.args.labels.now.keys c.args.first z c.loop-block.stack c.loop-block.deepest) (sym c.in_default.ensures.0) ∙ c.loop-block.invariant.0
