use Rattle.std.proofs.Common.{◌≡◌, sym, subst, ap, ◌∙◌, arith}
use Rattle.std.specs.Prelude.{slice_get, IsSomeAnd}
use Rattle.gsl_words.specs.declared.module.Module.{Module}
use Rattle.gsl_kinds.specs.Runtimes.{front}
use Rattle.gsl_ids.proofs.Places.{made, here}
use Rattle.gsl_ids.proofs.Rows.{below}
use Rattle.gsl_leaves.proofs.Noted.{one_more}
use Rattle.gsl_frames.specs.Frames.{Tells}
use Rattle.gsl_frames.specs.Taken.{in_front}
use Rattle.gsl_frames.proofs.Noted.{none_noted, one_noted}
use Rattle.gsl_frames.proofs.frames.note.Goals as goal

pub index_mut-requires : goal.index_mut-requires
index_mut-requires c =
    let m = c.args.leaves.now in
    let same = c.module.ensures ∙ c.definitions.ensures in
    let o = subst (λ (n : Module). IsSomeAnd (slice_get n.instrs c.args.at) (λ j. c.op-op.result ≡ j.op)) same c.op-op.ensures in
    let a = subst (λ (n : Module). IsSomeAnd (slice_get n.instrs c.args.at) (λ j. c.args-args.result.now ≡ j.args)) same c.args-args.ensures in
    let cut = here m.instrs c.args.at c.op-op.result c.args-args.result.now o a in
    omega (arith, below m c.args.at (made c.op-op.result c.args-args.result.now) c.in-Some.id cut (sym c.defined_by.ensures ∙ c.in-Some.is) c.requires.once, c.requires.room)

pub returns-in-Some-clause-noted : goal.returns-in-Some-clause-noted
returns-in-Some-clause-noted c =
    let m = c.args.leaves.now in
    let i = made c.op-op.result c.args-args.result.now in
    let same = c.module.ensures ∙ c.definitions.ensures in
    let o = subst (λ (n : Module). IsSomeAnd (slice_get n.instrs c.args.at) (λ j. c.op-op.result ≡ j.op)) same c.op-op.ensures in
    let a = subst (λ (n : Module). IsSomeAnd (slice_get n.instrs c.args.at) (λ j. c.args-args.result.now ≡ j.args)) same c.args-args.ensures in
    let cut = here m.instrs c.args.at c.op-op.result c.args-args.result.now o a in
    let is = sym c.defined_by.ensures ∙ c.in-Some.is in
    let small = below m c.args.at i c.in-Some.id cut is c.requires.once in
    subst (Tells _ m) (sym (one_more m c.args.at i _ c.requires.within cut))
    (one_noted m (front m c.args.at) i c.args.rows.now.items c.in-Some.id c.in_front-place.result c.args.taken (omega (arith, small, c.requires.room, c.args.rows.now.ok)) is
    (c.in_front-place.ensures ∙ ap (λ k. in_front k c.args.taken) c.kind_at.ensures) c.requires.taken c.requires.before)

pub returns-in_default-clause-noted : goal.returns-in_default-clause-noted
returns-in_default-clause-noted c =
    let m = c.args.leaves.now in
    let i = made c.op-op.result c.args-args.result.now in
    let same = c.module.ensures ∙ c.definitions.ensures in
    let o = subst (λ (n : Module). IsSomeAnd (slice_get n.instrs c.args.at) (λ j. c.op-op.result ≡ j.op)) same c.op-op.ensures in
    let a = subst (λ (n : Module). IsSomeAnd (slice_get n.instrs c.args.at) (λ j. c.args-args.result.now ≡ j.args)) same c.args-args.ensures in
    let cut = here m.instrs c.args.at c.op-op.result c.args-args.result.now o a in
    subst (Tells _ m) (sym (one_more m c.args.at i _ c.requires.within cut))
    (none_noted m (front m c.args.at) i c.args.rows.now.items (sym c.defined_by.ensures ∙ c.in_default.is) c.requires.before)
