use Rattle.std.proofs.Common.{length, ap, ◌∙◌}
use Rattle.gsl_valid.specs.Placed.{header_size}
use Rattle.gsl_ids.specs.Pass.{first_failed}
use Rattle.gsl_ids.proofs.Passes.{as_many}
use Rattle.gsl_valid_calls.specs.Limits.{passes, behind, at_first}
use Rattle.gsl_valid_calls.proofs.Limited.{finds}
use Rattle.gsl_valid_calls.proofs.limit.limits.Goals as goal

pub first_beyond-requires-clause-whole : goal.first_beyond-requires-clause-whole
first_beyond-requires-clause-whole c = ap length c.new.ensures ∙ as_many header_size c.args.of.now.instrs

pub returns : goal.returns
returns c = c.in_ok-place.ensures ∙ ap (first_failed passes behind (at_first c.args.of.now) 0) c.new.ensures ∙ finds c.args.of.now c.requires.once
