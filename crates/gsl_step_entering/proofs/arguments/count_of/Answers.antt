use Rattle.std.proofs.Common.{◌≡◌, sym, ap, ◌∙◌, subst, ◌≤◌, Some}
use Rattle.gsl_valid.specs.Kinds.{type_of}
use Rattle.gsl_valid.specs.Types.{defined_as}
use Rattle.gsl_leaves.specs.Table.{most, told}
use Rattle.gsl_frames.specs.Frames.{held_words}
use Rattle.gsl_step_values.proofs.Two.{told_low}
use Rattle.gsl_step_entering.specs.Passed.{count_if}
use Rattle.gsl_step_entering.proofs.arguments.count_of.Goals as goal

pub returns-in-Some : goal.returns-in-Some
returns-in-Some c =
    let m = c.args.operands.now in
    let same = c.leaves-leaves.ensures ∙ c.frames.ensures in
    let known : type_of (defined_as m c.args.id) ≡ Some c.in-Some.type_ = sym (c.type_of.ensures ∙ ap (λ n. type_of (defined_as n c.args.id)) (c.definitions.ensures ∙ same)) ∙ c.in-Some.is in
    subst (λ o. count_if m o ≤ most → c.held_words.result ≡ count_if m o) (sym known) (λ low. c.held_words.ensures ∙ ap (λ n. told (held_words n c.in-Some.type_)) same ∙ told_low (held_words m c.in-Some.type_) low)
