use Rattle.std.proofs.Common.{◌<◌, ◌∙◌, sym, arith}
use Rattle.gsl_enact_values.proofs.Definers.{defined_before, defined_here, none_here, none_left}
use Rattle.gsl_enact_values.proofs.search.latest.Goals as goal

pub returns-then-defines : goal.returns-then-defines
returns-then-defines c =
    let some : 0 < c.loop-at.at = omega (arith, c.loop-at-test.true) in (
      defined_here c.args.definitions.now c.loop-at.at _ c.args.id _ some c.in-Some.ensures (sym c.defines.ensures ∙ c.if-defines.true) c.loop-at.invariant.1,
      omega (arith, some, c.loop-at.invariant.0),
    )

pub loop-at-preserved-else-defines : goal.loop-at-preserved-else-defines
loop-at-preserved-else-defines c =
    let some : 0 < c.loop-at.at = omega (arith, c.loop-at-test.true) in
    (omega (arith, c.loop-at.invariant.0), defined_before c.args.definitions.now c.loop-at.at _ c.args.id _ some c.in-Some.ensures (sym c.defines.ensures ∙ c.if-defines.false) c.loop-at.invariant.1)

pub loop-at-preserved : goal.loop-at-preserved
loop-at-preserved c =
    let some : 0 < c.loop-at.at = omega (arith, c.loop-at-test.true) in
    (omega (arith, c.loop-at.invariant.0), none_here c.args.definitions.now c.loop-at.at c.args.id _ some c.in_default.ensures c.loop-at.invariant.1)

pub returns : goal.returns
returns c = none_left c.args.definitions.now c.loop-at.at c.args.id _ (omega (arith, c.loop-at-test.false)) c.loop-at.invariant.1
