use Rattle.std.proofs.Common.{length, ap, ◌∙◌, arith}
use Rattle.gsl_valid.specs.Placed.{header_size}
use Rattle.gsl_ids.specs.Pass.{first_failed, kept}
use Rattle.gsl_ids.proofs.Passes.{as_many}
use Rattle.gsl_ids.proofs.pass.first_failed.Goals as goal

pub loop-place-init : goal.loop-place-init
loop-place-init g c =
    let e = c.new-each.ensures in
    let many = ap length e ∙ as_many header_size c.args.of.now.instrs in
    (ap (first_failed g.T.Test.passes g.T.Test.behind c.args.test.now 0) e, ap (kept g.T.Test.passes g.T.Test.behind c.args.test.now 0) e, omega (arith, many))
