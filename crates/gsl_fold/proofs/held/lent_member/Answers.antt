use Rattle.std.proofs.Common.{sym, ap, ◌∙◌}
use Rattle.std.proofs.lemmas.Option.{get_or_from_slice_get}
use Rattle.gsl_values.specs.declared.value.Value.TheVariants.{Word}
use Rattle.gsl_tree.specs.Operations.{member_value}
use Rattle.gsl_compute.proofs.Loops.{member_of_many}
use Rattle.gsl_fold.proofs.held.lent_member.Goals as goal

pub returns-else-number-len : goal.returns-else-number-len
returns-else-number-len c =
    c.lent.ensures ∙ sym (get_or_from_slice_get c.in-Many.parts c.args.number c.index.result.now (Word 0) c.index.ensures)
    ∙ sym (member_of_many c.in-Many.parts c.args.number) ∙ ap (λ v. member_value v c.args.number) (sym c.in-Many.is)
