use Rattle.std.proofs.Common.{ap, ◌∙◌}
use Rattle.gsl_words.specs.Flat.{parts}
use Rattle.gsl_words.proofs.Flattened.{flat_none, no_parts}
use Rattle.gsl_words.proofs.instrs.Instrs.new.Goals as goal

pub invariant_of-result : goal.invariant_of-result
invariant_of-result c = rw (c.new.ensures.items, c.new-2.ensures.items) flat_none

pub returns : goal.returns
returns c = ap (λ starts. parts c.new.result.items starts) c.new-2.ensures.items ∙ no_parts c.new.result.items
