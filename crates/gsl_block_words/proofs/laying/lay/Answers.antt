use Rattle.std.proofs.Common.{sym, subst}
use Rattle.std.specs.Prelude.{Bool}
use Rattle.gsl_layout.specs.Gathers.{Places}
use Rattle.gsl_layout.specs.Measures.{block, misplaced_in}
use Rattle.gsl_tree.specs.Laying.{rule_of}
use Rattle.gsl_block_words.proofs.laying.lay.Goals as goal

pub returns-then-std140 : goal.returns-then-std140
returns-then-std140 c =
    let all = c.args.all.now in
    subst (λ (b : Bool). Places c.lay_placed.result (misplaced_in (rule_of b) c.args.structs.now all.members all.placings) (block (rule_of b) c.args.structs.now all.members all.placings))
    (sym c.if-std140.true) c.lay_placed.ensures

pub returns-else-std140 : goal.returns-else-std140
returns-else-std140 c =
    let all = c.args.all.now in
    subst (λ (b : Bool). Places c.lay_placed-else-std140.result (misplaced_in (rule_of b) c.args.structs.now all.members all.placings) (block (rule_of b) c.args.structs.now all.members all.placings))
    (sym c.if-std140.false) c.lay_placed-else-std140.ensures
