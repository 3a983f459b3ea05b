use Rattle.std.proofs.Common.{◌≡◌, ◌≤◌, ap, sym, ◌∙◌, length, take, arith}
use Rattle.gsl_makers.proofs.Loops.{length_taken, all_taken}
use Rattle.gsl_makers.proofs.members.at_most.Goals as goal

pub slice_bounds-result-end : goal.slice_bounds-result-end
slice_bounds-result-end g c =
    let some : 16383 ≤ length c.args.items.now = omega (arith, c.if-items-gt16383.true) in
    sym (length_taken c.args.items.now 16383 some)

pub returns-then-items-gt16383-clause-few : goal.returns-then-items-gt16383-clause-few
returns-then-items-gt16383-clause-few g c =
    let some : 16383 ≤ length c.args.items.now = omega (arith, c.if-items-gt16383.true) in
    let count = length_taken c.args.items.now 16383 some in
    omega (arith, count)

pub returns-else-items-gt16383-clause-is : goal.returns-else-items-gt16383-clause-is
returns-else-items-gt16383-clause-is g c =
    let few : length c.args.items.now ≤ 16383 = omega (arith, c.if-items-gt16383.false) in
    sym (all_taken c.args.items.now 16383 few)
