use Rattle.std.proofs.Common.{ap, ◌∙◌, ◌++◌}
use Rattle.gsl_link_units.specs.Declarations.{Side}
use Rattle.gsl_link_whole.specs.Whole.{first_size}
use Rattle.gsl_link_numbers.proofs.Sizes.{here_first}
use Rattle.gsl_link_numbers.proofs.program.first_size.Goals as goal

pub returns-in-Some : goal.returns-in-Some
returns-in-Some c =
    here_first c.args.sides.now c.loop-k.k c.index-sides-k.result c.in-Some.parts c.loop-k-test.true c.index-sides-k.is
    (λ rest. c.in-Some.ensures rest ∙ ap (λ l. first_size (l ++ rest)) (c.as_slice.ensures ∙ ap (λ (s : Side). s.unit.local_sizes) c.side.view_is)) c.loop-k.invariant
