use Rattle.std.proofs.Common.{◌∙◌, ◌++◌, ap, map, slice_index}
use Rattle.gsl_tree.specs.Operations.{all_components}
use Rattle.gsl_tree.specs.Values.{components_in}
use Rattle.gsl_region.specs.Flat.{flat}
use Rattle.gsl_region.proofs.Focus.{flat_many}
use Rattle.gsl_operations_law.proofs.Lanes.{all_flat, components_are, made_flat, part_words, pick_words, put_words}
use Rattle.gsl_operations_law.proofs.laws.parts_are_words.Goals as goal

pub returns-clause-extracts : goal.returns-clause-extracts
returns-clause-extracts c = part_words

pub returns-clause-inserts : goal.returns-clause-inserts
returns-clause-inserts c = put_words

pub returns-clause-composes : goal.returns-clause-composes
returns-clause-composes c vs = flat_many vs

pub returns-clause-lines_up : goal.returns-clause-lines_up
returns-clause-lines_up c vs all = made_flat (all_components vs) ∙ all_flat vs all

pub returns-clause-shuffles : goal.returns-clause-shuffles
returns-clause-shuffles c a b positions first second =
    made_flat (map (slice_index (components_in a ++ components_in b)) positions) ∙ ap (λ xs. map (slice_index (xs ++ components_in b)) positions) (components_are a first)
    ∙ ap (λ ys. map (slice_index (flat a ++ ys)) positions) (components_are b second)

pub returns-clause-picks : goal.returns-clause-picks
returns-clause-picks c = pick_words
