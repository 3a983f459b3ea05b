use Rattle.std.proofs.Common.{◌≡◌, ap, sym, ◌∙◌, subst, true, false, length}
use Rattle.std.specs.List.{cons_option, sum_by}
use Rattle.std.specs.Prelude.{[], ◌+◌, IsSomeAnd, slice_get}
use Rattle.gsl_words.specs.declared.module.Module.{Module}
use Rattle.gsl_frames.specs.Frames.{variable_words}
use Rattle.gsl_ids.proofs.Places.{here, made}
use Rattle.gsl_kinds.specs.Seen.{kind_seen}
use Rattle.gsl_leaves.specs.Table.{told}
use Rattle.gsl_valid.specs.Instruction.{read}
use Rattle.gsl_valid.specs.Kinds.{kind, variable_in}
use Rattle.gsl_valid.specs.Types.{begins}
use Rattle.gsl_chains.proofs.Longer.{told_nothing}
use Rattle.gsl_chains.proofs.Outside.{begun, ended, goes_on}
use Rattle.gsl_chains.proofs.globals.global_words.Goals as goal

pub loop-at-init : goal.loop-at-init
loop-at-init c =
    let same = c.module-of.ensures ∙ c.definitions.ensures ∙ c.leaves-leaves.ensures in
    (c.len-count.ensures ∙ ap (λ (n : Module). length n.instrs) same, told_nothing, begun c.args.frames.now)

pub returns-then-is_function : goal.returns-then-is_function
returns-then-is_function c =
    let m = c.args.frames.now in
    let i = made c.op.result c.args-in-loop-at.result.now in
    let same = c.module-of.ensures ∙ c.definitions.ensures ∙ c.leaves-leaves.ensures in
    let o = subst (λ (n : Module). IsSomeAnd (slice_get n.instrs c.loop-at.at) (λ j. c.op.result ≡ j.op)) same c.op.ensures in
    let a = subst (λ (n : Module). IsSomeAnd (slice_get n.instrs c.loop-at.at) (λ j. c.args-in-loop-at.result.now ≡ j.args)) same c.args-in-loop-at.ensures in
    let cut = here m.instrs c.loop-at.at c.op.result c.args-in-loop-at.result.now o a in
    let is : begins (kind (read i)) ≡ true = ap begins (sym c.kind_at-kind.ensures) ∙ sym c.is_function.ensures ∙ c.if-is_function.true in
    ended m c.loop-at.at c.loop-at.words i cut is c.loop-at.invariant.1 c.loop-at.invariant.2

pub loop-at-preserved : goal.loop-at-preserved
loop-at-preserved c =
    let m = c.args.frames.now in
    let i = made c.op.result c.args-in-loop-at.result.now in
    let same = c.module-of.ensures ∙ c.definitions.ensures ∙ c.leaves-leaves.ensures in
    let o = subst (λ (n : Module). IsSomeAnd (slice_get n.instrs c.loop-at.at) (λ j. c.op.result ≡ j.op)) same c.op.ensures in
    let a = subst (λ (n : Module). IsSomeAnd (slice_get n.instrs c.loop-at.at) (λ j. c.args-in-loop-at.result.now ≡ j.args)) same c.args-in-loop-at.ensures in
    let cut = here m.instrs c.loop-at.at c.op.result c.args-in-loop-at.result.now o a in
    let is : begins (kind (read i)) ≡ false = ap begins (sym c.kind_at-kind.ensures) ∙ sym c.is_function.ensures ∙ c.if-is_function.false in
    let now = c.with_variable-words.ensures
    ∙ ap (λ (n : Module). told (c.loop-at.words + sum_by (variable_words n) (cons_option (variable_in (kind_seen c.kind_at-kind.result)) []))) c.leaves-leaves.ensures
    ∙ ap (λ k. told (c.loop-at.words + sum_by (variable_words m) (cons_option (variable_in k) []))) c.kind_at-kind.ensures in
    let next = goes_on m c.loop-at.at c.loop-at.words c.with_variable-words.result i cut is now c.loop-at.invariant.2 in
    (c.loop-at.invariant.0, next.0, next.1)
