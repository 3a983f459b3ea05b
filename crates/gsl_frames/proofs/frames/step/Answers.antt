use Rattle.std.proofs.Common.{◌≡◌, subst, ap, ◌∙◌}
use Rattle.std.specs.Prelude.{slice_get, IsSomeAnd}
use Rattle.gsl_words.specs.declared.module.Module.{Module}
use Rattle.gsl_ids.proofs.Places.{made, here}
use Rattle.gsl_frames.specs.Frames.{behind_told, next_at}
use Rattle.gsl_frames.proofs.Framed.{framed, later}
use Rattle.gsl_frames.proofs.frames.step.Goals as goal

pub returns-clause-same : goal.returns-clause-same
returns-clause-same c =
    let m = c.args.leaves.now in
    let i = made c.op-op.result c.args-args.result.now in
    let same = c.module.ensures ∙ c.definitions.ensures in
    let o = subst (λ (n : Module). IsSomeAnd (slice_get n.instrs c.args.at) (λ j. c.op-op.result ≡ j.op)) same c.op-op.ensures in
    let a = subst (λ (n : Module). IsSomeAnd (slice_get n.instrs c.args.at) (λ j. c.args-args.result.now ≡ j.args)) same c.args-args.ensures in
    let cut = here m.instrs c.args.at c.op-op.result c.args-args.result.now o a in
    framed m c.args.at c.next_at-to.result i c.args.taken c.behind-next.result cut (c.behind-next.ensures ∙ ap (λ k. behind_told m k c.args.taken) c.kind_at.ensures)
    (c.next_at-to.ensures ∙ ap (λ n. next_at n c.args.at c.op-op.result) c.requires.count)

pub returns-clause-goes : goal.returns-clause-goes
returns-clause-goes c = later c.args.count c.args.at c.op-op.result c.next_at-to.result c.requires.within c.next_at-to.ensures
