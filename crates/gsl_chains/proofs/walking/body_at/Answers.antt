use Rattle.std.proofs.Common.{◌≡◌, sym, ap, ◌∙◌, true, false, length}
use Rattle.gsl_words.specs.declared.module.Module.{Module}
use Rattle.gsl_positions.specs.Positions.{left}
use Rattle.gsl_valid.specs.Kinds.{kind}
use Rattle.gsl_valid.specs.Types.{begins, defined_as}
use Rattle.gsl_chains.proofs.Bodies.{nowhere, there}
use Rattle.gsl_chains.proofs.walking.body_at.Goals as goal

pub returns-then-is_function : goal.returns-then-is_function
returns-then-is_function c =
    let m = c.args.definitions.now in
    let is : begins (kind (defined_as m c.args.id)) ≡ true = ap (λ d. begins (kind d)) (sym c.get.ensures) ∙ ap begins (sym c.kind_if.ensures) ∙ sym c.is_function.ensures ∙ c.if-is_function.true in
    ap (left m) c.number.ensures ∙ there m c.requires.once c.args.id is

pub returns-else-is_function : goal.returns-else-is_function
returns-else-is_function c =
    let m = c.args.definitions.now in
    let is : begins (kind (defined_as m c.args.id)) ≡ false = ap (λ d. begins (kind d)) (sym c.get.ensures) ∙ ap begins (sym c.kind_if.ensures) ∙ sym c.is_function.ensures ∙ c.if-is_function.false in
    ap (left m) (c.len.ensures ∙ ap (λ (n : Module). length n.instrs) c.module.ensures) ∙ nowhere m c.requires.once c.args.id is
