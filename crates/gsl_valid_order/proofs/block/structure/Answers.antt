use Rattle.std.proofs.Common.{length, ap, ◌∙◌}
use Rattle.gsl_valid.specs.Placed.{header_size}
use Rattle.gsl_ids.specs.Pass.{first_failed}
use Rattle.gsl_ids.proofs.Passes.{as_many}
use Rattle.gsl_valid_order.specs.Nested.{passes, behind}
use Rattle.gsl_valid_order.proofs.Nesting.{finds}
use Rattle.gsl_valid_order.proofs.block.structure.Goals as goal

pub first_unstructured-requires-clause-whole : goal.first_unstructured-requires-clause-whole
first_unstructured-requires-clause-whole c = ap length c.new.ensures ∙ as_many header_size c.args.of.now.instrs

pub returns : goal.returns
returns c = c.in_ok-place.ensures ∙ ap (first_failed passes behind c.args.of.now 0) c.new.ensures ∙ finds c.args.of.now
