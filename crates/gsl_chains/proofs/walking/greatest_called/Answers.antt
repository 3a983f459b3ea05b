use Rattle.std.proofs.Common.{◌∙◌, ◌≤◌, arith, length, sym}
use Rattle.std.specs.Prelude.{slice_index}
use Rattle.gsl_chains.proofs.Walked.{over}
use Rattle.gsl_chains.proofs.walking.greatest_called.Goals as goal

pub returns : goal.returns
returns c =
    let m = c.args.definitions.now in
    let behind : length m.instrs ≤ c.loop-at.at = omega (arith, c.loop-at-test.false, c.loop-at.invariant.0) in
    sym (over (slice_index c.args.rows.now) m c.loop-at.at c.loop-at.most behind) ∙ c.loop-at.invariant.1
