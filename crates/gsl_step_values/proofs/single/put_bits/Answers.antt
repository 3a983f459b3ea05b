use Rattle.std.proofs.Common.{◌∙◌, ap, refl, false, true, inr, [], ◌∷◌, take, drop}
use Rattle.std.proofs.lemmas.Bool.{and_from}
use Rattle.gsl_tree.specs.Operations.{builtin_each}
use Rattle.gsl_region.specs.Showing.{with_words}
use Rattle.gsl_lanes.specs.declared.functions.Operand.{Operand}
use Rattle.gsl_step_values.specs.Values.{serves}
use Rattle.gsl_step_values.proofs.Serving.{is_stands}
use Rattle.gsl_step_values.proofs.single.put_bits.Goals as goal

pub returns : goal.returns
returns c below room =
    let o : Operand = record { place = c.args.from; count = c.args.count } in
    c.put_given.ensures.words (and_from (serves c.args.at c.args.count o) true (is_stands o c.args.at c.args.count (below, inr refl)) refl) room
    ∙ ap (λ l. with_words c.args.slots.now c.args.at (builtin_each c.args.which false (take c.args.count (drop c.args.from c.args.slots.now) ∷ []) c.args.count 0 l).0) (c.new-none.ensures ∙ c.new.ensures)
