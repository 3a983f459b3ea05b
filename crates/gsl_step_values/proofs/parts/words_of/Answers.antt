use Rattle.std.proofs.Common.{◌≡◌, sym, ap, ◌∙◌, subst, ◌≤◌, Some}
use Rattle.gsl_valid.specs.Kinds.{type_of}
use Rattle.gsl_valid.specs.Types.{defined_as}
use Rattle.gsl_leaves.specs.Leaves.{leaves}
use Rattle.gsl_leaves.specs.Table.{most, told}
use Rattle.gsl_step_values.specs.Parts.{count_in}
use Rattle.gsl_step_values.proofs.Two.{told_low}
use Rattle.gsl_step_values.proofs.parts.words_of.Goals as goal

pub returns-in-Some-clause-typed : goal.returns-in-Some-clause-typed
returns-in-Some-clause-typed c type known low =
    let m = c.args.operands.now in
    let same = c.leaves-leaves.ensures ∙ c.frames.ensures in
    let both : Some c.in-Some.type_ ≡ Some type = sym c.in-Some.is ∙ c.type_of.ensures ∙ ap (λ n. type_of (defined_as n c.args.id)) (c.definitions.ensures ∙ same) ∙ known in
    let one : c.in-Some.type_ ≡ type = cc in
    c.leaves.ensures ∙ ap (λ n. told (leaves n c.in-Some.type_)) same ∙ ap (λ t. told (leaves m t)) one ∙ told_low (leaves m type) low

pub returns-in-Some-clause-all : goal.returns-in-Some-clause-all
returns-in-Some-clause-all c =
    let m = c.args.operands.now in
    let same = c.leaves-leaves.ensures ∙ c.frames.ensures in
    let known : type_of (defined_as m c.args.id) ≡ Some c.in-Some.type_ = sym (c.type_of.ensures ∙ ap (λ n. type_of (defined_as n c.args.id)) (c.definitions.ensures ∙ same)) ∙ c.in-Some.is in
    subst (λ o. count_in m o ≤ most → c.leaves.result ≡ count_in m o) (sym known) (λ low. c.leaves.ensures ∙ ap (λ n. told (leaves n c.in-Some.type_)) same ∙ told_low (leaves m c.in-Some.type_) low)
