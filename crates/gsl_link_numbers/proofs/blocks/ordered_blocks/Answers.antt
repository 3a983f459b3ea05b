use Rattle.std.proofs.Common.{ap, ◌∙◌, List, []}
use Rattle.std.specs.Prelude.{bytes_eq}
use Rattle.indexmap.specs.IndexSet.{insert_all}
use Rattle.gsl_tree.specs.declared.unit.Block.{Block}
use Rattle.gsl_link_whole.specs.Numbers.{in_order}
use Rattle.gsl_link_numbers.specs.Joining as spec
use Rattle.gsl_link_numbers.proofs.Apart.{names_differ}
use Rattle.gsl_link_numbers.proofs.blocks.ordered_blocks.Goals as goal

pub returns-clause-named : goal.returns-clause-named
returns-clause-named c =
    c.in_ok-put_names.ensures
    ∙ ap (λ ks. insert_all bytes_eq ks (spec.block_names c.as_slice.result.now)) c.requires.none
    ∙ ap (λ (bs : List Block). insert_all bytes_eq [] (spec.block_names bs)) (c.as_slice.ensures ∙ c.in_ok-all-2.ensures ∙ ap in_order c.in_ok-all.ensures.all)
    ∙ names_differ c.args.sides.now
