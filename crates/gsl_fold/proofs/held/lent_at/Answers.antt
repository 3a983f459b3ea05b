use Rattle.std.proofs.Common.{◌≤◌, sym, ap, ◌∙◌, subst}
use Rattle.std.proofs.lemmas.Option.{slice_get_past}
use Rattle.gsl_tree.specs.Operations.{index_value}
use Rattle.gsl_compute.proofs.Loops.{index_of_many}
use Rattle.gsl_fold.proofs.held.lent_at.Goals as goal

pub returns-then-index-len : goal.returns-then-index-len
returns-then-index-len c =
    sym (slice_get_past c.in-Many.parts c.args.index (subst (λ n. n ≤ c.args.index) c.len.ensures c.if-index-len.true))
    ∙ sym (index_of_many c.in-Many.parts c.args.index) ∙ ap (λ v. index_value v c.args.index) (sym c.in-Many.is)
