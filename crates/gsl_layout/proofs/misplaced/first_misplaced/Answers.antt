use Rattle.std.proofs.Common.{◌∙◌, ◌+◌, [], take, Some, sym, ap, subst, arith}
use Rattle.std.specs.Prelude.{if◌then◌else◌}
use Rattle.gsl_layout.specs.Measures.{measure}
use Rattle.gsl_layout.specs.Outlines.{EndsPlaced}
use Rattle.gsl_layout.specs.Placings.{end_of, last_first, misplaced}
use Rattle.gsl_layout.proofs.Groups.{placed_of}
use Rattle.gsl_layout.proofs.Outlined.{end_behind_taken, search_step, searched}
use Rattle.gsl_layout.proofs.misplaced.first_misplaced.Goals as goal

pub returns-in-None : goal.returns-in-None
returns-in-None g c =
    let raise = g.R.Rules.raised c.args.rules.now in
    let raises = g.met.R.Rules.raises c.args.rules.now in
    let structs = c.args.structs.now in
    let members = c.args.members.now in
    let placings = c.args.placings.now in
    let k = c.loop-k.k in
    let x = c.index.result.now in
    let before = end_of (last_first [] (placed_of raise raises structs (take k members) placings)) in
    let wrong = subst (λ r. EndsPlaced r before (c.placing_at-placing.result, measure raise structs x.ty)) c.in-None.is (c.end_of_placed.ensures before c.loop-k.invariant.0) in
    let here = ap (λ p. misplaced before (p, measure raise structs x.ty)) (sym c.placing_at-placing.ensures) ∙ wrong in
    sym (c.loop-k.invariant.1 ∙ search_step raise raises structs members placings k x c.index.ensures
    ∙ ap (λ b. if b then Some k else searched raise raises structs members placings k x c.index.ensures (k + 1)) here)

pub loop-k-preserved : goal.loop-k-preserved
loop-k-preserved g c =
    let raise = g.R.Rules.raised c.args.rules.now in
    let raises = g.met.R.Rules.raises c.args.rules.now in
    let structs = c.args.structs.now in
    let members = c.args.members.now in
    let placings = c.args.placings.now in
    let k = c.loop-k.k in
    let x = c.index.result.now in
    let before = end_of (last_first [] (placed_of raise raises structs (take k members) placings)) in
    let right = subst (λ r. EndsPlaced r before (c.placing_at-placing.result, measure raise structs x.ty)) c.in-Some.is (c.end_of_placed.ensures before c.loop-k.invariant.0) in
    let here = ap (λ p. misplaced before (p, measure raise structs x.ty)) (sym c.placing_at-placing.ensures) ∙ right.0 in (
      end_behind_taken raise raises structs members placings k x c.index.ensures c.placing_at-placing.result c.placing_at-placing.ensures c.in-Some.next right.1,
      c.loop-k.invariant.1 ∙ search_step raise raises structs members placings k x c.index.ensures
          ∙ ap (λ b. if b then Some k else searched raise raises structs members placings k x c.index.ensures (k + 1)) here,
      omega (arith, c.loop-k-test.true, c.len-k-end.ensures),
    )
