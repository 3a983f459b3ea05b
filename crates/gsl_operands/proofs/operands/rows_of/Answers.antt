use Rattle.std.proofs.Common.{◌≡◌, sym, ap, ◌∙◌, ◌++◌, arith, length}
use Rattle.gsl_words.specs.declared.module.Module.{Module}
use Rattle.gsl_valid.specs.Kinds.{constant_is}
use Rattle.gsl_valid.specs.Types.{defined_as}
use Rattle.gsl_machine.specs.Constants.{constant}
use Rattle.gsl_region.specs.Flat.{flat}
use Rattle.gsl_operands.specs.Operands.{constants_below, first, if_constant}
use Rattle.gsl_operands.proofs.Rows.{one_more, words_more}
use Rattle.gsl_operands.proofs.operands.rows_of.Goals as goal

pub loop-id-init : goal.loop-id-init
unfolding constants_below
loop-id-init c = (ap (λ (n : Module). n.bound) (c.module.ensures ∙ c.definitions-definitions.ensures ∙ c.leaves.ensures), omega arith, c.new-words.ensures.items, c.new-firsts.ensures.items)

pub loop-id-preserved : goal.loop-id-preserved
loop-id-preserved c =
    let m = c.args.frames.now in
    let id = c.loop-id.id in
    let same = c.definitions-definitions.ensures ∙ c.leaves.ensures in
    let now = c.loop-id.invariant in
    let size : c.len.result ≡ length (constants_below m id) = c.len.ensures ∙ c.loop-id.words.ok.0 ∙ ap length now.2 in
    let item : c.if_constant.result ≡ first m id =
    c.if_constant.ensures ∙ ap (λ n. if_constant (constant_is (defined_as n id)) c.len.result) same ∙ ap (if_constant (constant_is (defined_as m id))) size in
    let words = c.words.ensures ∙ ap (λ n. flat (constant n id)) c.requires.same in (
      now.0,
      omega (arith, c.loop-id-test.true),
      c.in_ok-put_all.ensures ∙ ap (λ l. l ++ c.words.result.now) now.2 ∙ ap (λ l. constants_below m id ++ l) words ∙ sym (words_more m id),
      one_more (first m) id c.loop-id.firsts.items _ c.if_constant.result now.3 c.in_ok-push.ensures.items item,
    )
