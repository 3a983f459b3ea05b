use Rattle.std.proofs.Common.{◌≡◌, ap, ◌∙◌, subst, ◌<◌, ◌≤◌, ◌^◌, length, arith}
use Rattle.std.specs.Prelude.{IsSomeAnd, slice_get}
use Rattle.gsl_words.specs.declared.module.Module.{Module}
use Rattle.gsl_valid.specs.Instruction.{read}
use Rattle.gsl_valid.specs.Kinds.{variable_in}
use Rattle.gsl_ids.proofs.Places.{here, made}
use Rattle.gsl_step_entering.specs.Begun.{PutsInitial, next_at}
use Rattle.gsl_step_entering.proofs.Begins.{all_begun, none_begun, one_begun}
use Rattle.gsl_step_entering.proofs.variables.put_variables.Goals as goal

pub loop-at-init : goal.loop-at-init
loop-at-init c fits = none_begun c.args.operands.now c.args.slots.now c.args.words.now c.args.begin c.args.body fits

pub loop-at-preserved : goal.loop-at-preserved
loop-at-preserved c fits =
    let m = c.args.operands.now in
    let i = made c.op-op.result c.args-args.result.now in
    let same = c.module-of.ensures ∙ c.definitions.ensures ∙ c.leaves.ensures ∙ c.frames.ensures in
    let o = subst (λ (n : Module). IsSomeAnd (slice_get n.instrs c.loop-at.at) (λ j. c.op-op.result ≡ j.op)) same c.op-op.ensures in
    let a = subst (λ (n : Module). IsSomeAnd (slice_get n.instrs c.loop-at.at) (λ j. c.args-args.result.now ≡ j.args)) same c.args-args.ensures in
    let cut = here m.instrs c.loop-at.at c.op-op.result c.args-args.result.now o a in
    let counted : c.count_of-count.result ≡ length m.instrs = subst (λ (n : Module). length n.instrs < 2 ^ 32 → c.count_of-count.result ≡ length n.instrs) same c.count_of-count.ensures.few fits.few in
    one_begun m c.args.slots.now c.args.words.now c.args.begin c.args.body fits c.loop-at.at c.next_at-at.result c.loop-at.end c.put_initial-end.result i c.loop-at.words c.put_initial-end.new.words cut
    (c.next_at-at.ensures.same c.loop-at-test.true ∙ ap (λ n. next_at n c.loop-at.at c.op-op.result) counted) (c.loop-at.invariant fits)
    (subst (λ k. PutsInitial m c.args.slots.now (variable_in k) c.loop-at.end c.loop-at.words c.put_initial-end.new.words c.put_initial-end.result) c.kind_at.ensures c.put_initial-end.ensures)

pub returns : goal.returns
returns c fits =
    let m = c.args.operands.now in
    let same = c.module-of.ensures ∙ c.definitions.ensures ∙ c.leaves.ensures ∙ c.frames.ensures in
    let counted : c.count_of-count.result ≡ length m.instrs = subst (λ (n : Module). length n.instrs < 2 ^ 32 → c.count_of-count.result ≡ length n.instrs) same c.count_of-count.ensures.few fits.few in
    let over = c.loop-at-test.false in
    all_begun m c.args.slots.now c.args.words.now c.args.begin c.args.body fits c.loop-at.at c.loop-at.end c.loop-at.words (omega (arith, over, counted)) (c.loop-at.invariant fits)
