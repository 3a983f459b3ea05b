use Rattle.gsl_link_numbers.proofs.Numbered.{one_more}
use Rattle.gsl_link_numbers.proofs.spots.global_numbers.Goals as goal

pub loop-k-preserved : goal.loop-k-preserved
loop-k-preserved c =
    one_more c.args.spots.now.entries c.args.sites.now.keys c.args.unit c.loop-k.k c.in_ok-index.index c.args.globals.now c.index-globals-k.result c.loop-k.all c.push_number.new.all _
    c.loop-k-test.true c.index-globals-k.is c.in_ok-index.ensures c.in_ok-push_number.ensures c.loop-k.invariant
