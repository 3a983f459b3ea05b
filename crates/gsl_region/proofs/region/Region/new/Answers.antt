use Rattle.std.proofs.Common.{◌∙◌, ap}
use Rattle.gsl_region.specs.Showing.{as_words}
use Rattle.gsl_region.proofs.Bytes.{words_zero}
use Rattle.gsl_region.proofs.region.Region.new.Goals as goal

pub returns : goal.returns
returns c = ap as_words (c.in_ok-bytes.ensures.items_if_clones_equal (λ y same. same)) ∙ words_zero c.args.count
