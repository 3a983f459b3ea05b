use Rattle.std.proofs.Common.{refl, ◌∙◌}
use Rattle.gsl_tree.specs.Values.{components_in}
use Rattle.gsl_tree.specs.Operations.{all_components}
use Rattle.gsl_compute.proofs.Loops.{joined_on}
use Rattle.gsl_enact_values.proofs.words.all_components.Goals as goal

pub loop-k-preserved : goal.loop-k-preserved
loop-k-preserved c =
    joined_on components_in all_components (λ x xs. refl) c.args.values.now c.loop-k.k c.index.result.now c.loop-k.words c.extend_from_slice.new.self _ c.in_ok-extend_from_slice.ensures.ok
    (c.as_slice.ensures ∙ c.in_ok-more.ensures) c.index.ensures c.loop-k.invariant
