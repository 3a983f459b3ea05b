use Rattle.std.proofs.Common.{◌≡◌, ◌∙◌, ◌-◌, ap, arith, subst, sym}
use Rattle.std.specs.Prelude.{slice_get, IsSomeAnd}
use Rattle.gsl_words.specs.declared.module.Module.{Module}
use Rattle.gsl_kinds.specs.Runtimes.{front}
use Rattle.gsl_valid.specs.Kinds.{constant_in}
use Rattle.gsl_kinds.specs.Seen.{kind_seen}
use Rattle.gsl_ids.proofs.Places.{made, here}
use Rattle.gsl_ids.proofs.Rows.{below}
use Rattle.gsl_leaves.proofs.Noted.{one_more}
use Rattle.gsl_constants.specs.Rows.{Tells, row, words_if}
use Rattle.gsl_constants.proofs.Put.{none_noted, one_told}
use Rattle.gsl_constants.proofs.constants.note.Goals as goal

pub index_mut-requires : goal.index_mut-requires
index_mut-requires c =
    let m = c.args.leaves.now in
    let o = subst (λ (n : Module). IsSomeAnd (slice_get n.instrs c.args.at) (λ j. c.op-op.result ≡ j.op)) (c.module.ensures ∙ c.definitions.ensures) c.op-op.ensures in
    let a = subst (λ (n : Module). IsSomeAnd (slice_get n.instrs c.args.at) (λ j. c.args-args.result.now ≡ j.args)) (c.module.ensures ∙ c.definitions.ensures) c.args-args.ensures in
    let cut = here m.instrs c.args.at c.op-op.result c.args-args.result.now o a in
    omega (arith, below m c.args.at (made c.op-op.result c.args-args.result.now) c.in-Some.id cut (sym c.defined_by.ensures ∙ c.in-Some.is) c.requires.once, c.requires.firsts)

pub index_mut-requires-in-Some : goal.index_mut-requires-in-Some
index_mut-requires-in-Some c =
    let m = c.args.leaves.now in
    let o = subst (λ (n : Module). IsSomeAnd (slice_get n.instrs c.args.at) (λ j. c.op-op.result ≡ j.op)) (c.module.ensures ∙ c.definitions.ensures) c.op-op.ensures in
    let a = subst (λ (n : Module). IsSomeAnd (slice_get n.instrs c.args.at) (λ j. c.args-args.result.now ≡ j.args)) (c.module.ensures ∙ c.definitions.ensures) c.args-args.ensures in
    let cut = here m.instrs c.args.at c.op-op.result c.args-args.result.now o a in
    omega (arith, below m c.args.at (made c.op-op.result c.args-args.result.now) c.in-Some.id cut (sym c.defined_by.ensures ∙ c.in-Some.is) c.requires.once, c.requires.counts)

pub returns-in_ok-put_kind-clause-noted : goal.returns-in_ok-put_kind-clause-noted
returns-in_ok-put_kind-clause-noted c =
    let m = c.args.leaves.now in
    let i = made c.op-op.result c.args-args.result.now in
    let o = subst (λ (n : Module). IsSomeAnd (slice_get n.instrs c.args.at) (λ j. c.op-op.result ≡ j.op)) (c.module.ensures ∙ c.definitions.ensures) c.op-op.ensures in
    let a = subst (λ (n : Module). IsSomeAnd (slice_get n.instrs c.args.at) (λ j. c.args-args.result.now ≡ j.args)) (c.module.ensures ∙ c.definitions.ensures) c.args-args.ensures in
    let cut = here m.instrs c.args.at c.op-op.result c.args-args.result.now o a in
    let is = sym c.defined_by.ensures ∙ c.in-Some.is in
    let small = below m c.args.at i c.in-Some.id cut is c.requires.once in
    let rows = c.args.rows.now in
    subst (Tells c.put_kind.new.words.items _ _ m) (sym (one_more m c.args.at i _ c.requires.within cut))
    (one_told m (front m c.args.at) rows.words.items rows.firsts.items rows.counts.items c.requires.before i c.put_kind.new.words.items
    (words_if m (row rows.words.items rows.firsts.items rows.counts.items) i (constant_in (kind_seen c.kind_at-kind.result))) c.in-Some.id c.len-first.result (c.len.result - c.len-first.result)
    (omega (arith, small, c.requires.firsts, rows.firsts.ok)) (omega (arith, small, c.requires.counts, rows.counts.ok)) is
    (ap (λ k. words_if m (row rows.words.items rows.firsts.items rows.counts.items) i (constant_in k)) c.kind_at-kind.ensures) c.in_ok-put_kind.ensures (omega (arith, c.len-first.ensures, rows.words.ok))
    (omega (arith, c.len.ensures, c.len-first.ensures, rows.words.ok, c.put_kind.new.words.ok)))

pub returns-in_default-clause-noted : goal.returns-in_default-clause-noted
returns-in_default-clause-noted c =
    let m = c.args.leaves.now in
    let i = made c.op-op.result c.args-args.result.now in
    let o = subst (λ (n : Module). IsSomeAnd (slice_get n.instrs c.args.at) (λ j. c.op-op.result ≡ j.op)) (c.module.ensures ∙ c.definitions.ensures) c.op-op.ensures in
    let a = subst (λ (n : Module). IsSomeAnd (slice_get n.instrs c.args.at) (λ j. c.args-args.result.now ≡ j.args)) (c.module.ensures ∙ c.definitions.ensures) c.args-args.ensures in
    let cut = here m.instrs c.args.at c.op-op.result c.args-args.result.now o a in
    let rows = c.args.rows.now in
    subst (Tells rows.words.items rows.firsts.items rows.counts.items m) (sym (one_more m c.args.at i _ c.requires.within cut))
    (none_noted m (front m c.args.at) rows.words.items rows.firsts.items rows.counts.items c.requires.before i (sym c.defined_by.ensures ∙ c.in_default.is))
