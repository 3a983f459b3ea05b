use Rattle.std.proofs.Common.{true, false, get_or, subst, ◌∙◌, ap}
use Rattle.gsl_asm.specs.Reading.{Added, operand_of}
use Rattle.gsl_asm.proofs.Taking.{more_stop, more_step, more_end}
use Rattle.gsl_asm.proofs.instruction.put_more.Goals as goal

pub returns-then-not-branch : goal.returns-then-not-branch
returns-then-not-branch c =
    more_stop c.args.target c.args.rest c.loop-word.second c.loop-word.last c.in-Some.word c.next.new.self c.loop-word.source c.args.args.now c.loop-word.args c.put_operand.new.args _
    c.in-Some.ensures
    (subst (λ slot. Added false c.loop-word.args c.put_operand.new.args (operand_of c.args.target c.loop-word.last slot c.in-Some.word)) c.next_of.ensures
    (subst (λ good. Added good c.loop-word.args c.put_operand.new.args (operand_of c.args.target c.loop-word.last c.next_of.result c.in-Some.word)) c.if-not-branch.true c.in_ok-put_operand.ensures))
    c.loop-word.invariant

pub loop-word-preserved : goal.loop-word-preserved
loop-word-preserved c =
    more_step c.args.target c.args.rest c.loop-word.second c.loop-word.last c.word_at-last.result c.in-Some.word c.next.new.self c.loop-word.source c.loop-word.args c.put_operand.new.args _
    c.in-Some.ensures
    (subst (λ slot. Added true c.loop-word.args c.put_operand.new.args (operand_of c.args.target c.loop-word.last slot c.in-Some.word)) c.next_of.ensures
    (subst (λ good. Added good c.loop-word.args c.put_operand.new.args (operand_of c.args.target c.loop-word.last c.next_of.result c.in-Some.word)) c.if-not-branch.false c.in_ok-put_operand.ensures))
    (c.word_at-last.ensures ∙ ap (λ l. get_or l c.len-before.result 0) c.as_slice.ensures ∙ ap (λ k. get_or c.put_operand.new.args k 0) c.len-before.ensures) c.loop-word.invariant

pub returns : goal.returns
returns c = more_end c.args.target c.args.rest c.loop-word.second c.loop-word.last c.loop-word.source c.args.args.now c.loop-word.args _ c.in_default.ensures c.loop-word.invariant
