use Rattle.std.proofs.Common.{◌≡◌, sym, ap, ◌∙◌, true, false, is_some}
use Rattle.gsl_valid.specs.Kinds.{variable_is}
use Rattle.gsl_valid.specs.Types.{defined_as}
use Rattle.gsl_step_entering.proofs.Given.{pointer_passed, words_passed}
use Rattle.gsl_step_entering.proofs.arguments.put_argument.Goals as goal

pub returns-then-variable : goal.returns-then-variable
returns-then-variable c =
    let m = c.args.operands.now in
    let same = c.definitions-definitions.ensures ∙ c.leaves.ensures ∙ c.frames.ensures in
    pointer_passed m c.args.machine.now c.args.id c.args.at c.place_of-place.result c.saturating_add.result c.put_pointer.new.slots
    (sym (c.is_variable-variable.ensures ∙ ap (λ n. is_some (variable_is (defined_as n c.args.id))) same) ∙ c.if-variable.true) c.place_of-place.ensures c.put_pointer.ensures c.saturating_add.ensures

pub returns : goal.returns
returns c =
    let m = c.args.operands.now in
    let same = c.definitions-definitions.ensures ∙ c.leaves.ensures ∙ c.frames.ensures in
    words_passed m c.args.machine.now c.args.id c.args.at c.count_of-count.result c.stands-from.result c.saturating_add-2.result c.put_same.new.slots
    (sym (c.is_variable-variable.ensures ∙ ap (λ n. is_some (variable_is (defined_as n c.args.id))) same) ∙ c.if-variable.false) c.count_of-count.ensures c.stands-from.ensures c.put_same.ensures c.saturating_add-2.ensures
