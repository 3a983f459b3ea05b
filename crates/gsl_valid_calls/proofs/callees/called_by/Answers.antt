use Rattle.std.proofs.Common.{◌≡◌, Bool, true, false, drop, length, sym, ap, ◌∙◌, arith}
use Rattle.std.proofs.lemmas.Bool.{cond-true, cond-false}
use Rattle.std.proofs.lemmas.List.{drop_all}
use Rattle.gsl_words.specs.declared.module.Module.{Module}
use Rattle.gsl_ids.specs.Table.{number_of}
use Rattle.gsl_valid.specs.CallRules.{called}
use Rattle.gsl_valid.specs.Kinds.{kind}
use Rattle.gsl_valid.specs.Types.{begins}
use Rattle.gsl_valid_calls.proofs.Called.{called_is}
use Rattle.gsl_valid_calls.proofs.callees.called_by.Goals as goal

pub returns-then-is_function : goal.returns-then-is_function
returns-then-is_function c =
    let m = c.args.definitions.now in
    let is = sym c.is_function.ensures ∙ c.if-is_function.true in
    c.from.ensures ∙ ap (λ n. called (drop n c.module-of.result.now.instrs)) c.number.ensures
    ∙ ap (λ (n : Module). called (drop (number_of m c.args.id) n.instrs)) c.module-of.ensures
    ∙ sym (called_is m c.args.id c.requires.once ∙ cond-true _ _ _ is)

pub returns-else-is_function : goal.returns-else-is_function
returns-else-is_function c =
    let m = c.args.definitions.now in
    let is = sym c.is_function.ensures ∙ c.if-is_function.false in
    let len = c.len.ensures in
    c.from-else-is_function.ensures ∙ ap called (drop_all _ c.module-of.result.now.instrs (omega (arith, len)))
    ∙ sym (called_is m c.args.id c.requires.once ∙ cond-false _ _ _ is)
