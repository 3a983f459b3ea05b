use Rattle.std.proofs.Common.{ap, ◌∙◌}
use Rattle.std.specs.Prelude.{slice_index}
use Rattle.gsl_frames.specs.Frames.{next_at}
use Rattle.gsl_ids.proofs.Places.{here, made}
use Rattle.gsl_valid.specs.CallRules.{callee_in}
use Rattle.gsl_chains.specs.Chains.{with_call}
use Rattle.gsl_chains.proofs.Walked.{walked}
use Rattle.gsl_chains.proofs.walking.step.Goals as goal

pub returns-clause-same : goal.returns-clause-same
returns-clause-same c =
    let m = c.args.of.now in
    let cut = here m.instrs c.args.at c.op-op.result c.args-args.result.now c.op-op.ensures c.args-args.ensures in
    walked (slice_index c.args.rows.now) m c.args.at c.next_at-to.result (made c.op-op.result c.args-args.result.now) c.args.most c.with_call-next.result cut
    (c.with_call-next.ensures ∙ ap (λ k. with_call (slice_index c.args.rows.now) (callee_in k) c.args.most) c.kind_at.ensures)
    (c.next_at-to.ensures ∙ ap (λ n. next_at n c.args.at c.op-op.result) c.len-count.ensures)
