use Rattle.std.proofs.Common.{◌≡◌, subst, ap, ◌∙◌}
use Rattle.std.specs.Prelude.{slice_get, IsSomeAnd}
use Rattle.gsl_words.specs.declared.module.Module.{Module}
use Rattle.gsl_ids.proofs.Places.{made, here}
use Rattle.gsl_frames.specs.Frames.{behind_told}
use Rattle.gsl_frames.proofs.Noted.{taken_more}
use Rattle.gsl_frames.proofs.frames.next_taken.Goals as goal

pub returns : goal.returns
returns c =
    let m = c.args.leaves.now in
    let i = made c.op-op.result c.args-args.result.now in
    let same = c.module.ensures ∙ c.definitions.ensures in
    let o = subst (λ (n : Module). IsSomeAnd (slice_get n.instrs c.args.at) (λ j. c.op-op.result ≡ j.op)) same c.op-op.ensures in
    let a = subst (λ (n : Module). IsSomeAnd (slice_get n.instrs c.args.at) (λ j. c.args-args.result.now ≡ j.args)) same c.args-args.ensures in
    let cut = here m.instrs c.args.at c.op-op.result c.args-args.result.now o a in
    taken_more m c.args.at i _ c.args.taken c.behind.result c.requires.within cut c.requires.taken (c.behind.ensures ∙ ap (λ k. behind_told m k c.args.taken) c.kind_at.ensures)
