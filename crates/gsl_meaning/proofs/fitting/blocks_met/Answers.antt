use Rattle.std.proofs.Common.{sym, ap, ◌∙◌}
use Rattle.gsl_meaning.specs.Fits.{is_given}
use Rattle.gsl_meaning.proofs.Lists.{blocks_on}
use Rattle.gsl_meaning.proofs.fitting.blocks_met.Goals as goal

pub loop-k-preserved : goal.loop-k-preserved
loop-k-preserved c =
    blocks_on c.args.blocks.now c.args.input.now c.loop-k.k c.index-block.result.now c.index-block.ensures
    (sym (c.is_given.ensures ∙ ap (is_given c.index-block.result.now) c.given_bytes.ensures) ∙ c.in_ok-is_given.was) c.loop-k.invariant
