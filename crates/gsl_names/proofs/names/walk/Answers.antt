use Rattle.std.proofs.Common.{◌∙◌, ap, sym, subst, suc, ◌<◌, ◌++◌, ◌∷◌, [], reverse, length, slice_get, arith}
use Rattle.gsl_names.specs.Table.{hides}
use Rattle.gsl_names.proofs.Latest.{Walks, strides, same_item, walk_ends, length-hides, depth_of}
use Rattle.gsl_names.proofs.names.walk.Goals as goal

pub above-requires : goal.above-requires
above-requires c = (strides c.args.all.now c.args._name.now c.loop-at.found c.loop-at.at c.in-Some.place c.in-Some.is c.loop-at.invariant).there

pub above-at-requires : goal.above-at-requires
above-at-requires c =
    let s = strides c.args.all.now c.args._name.now c.loop-at.found c.loop-at.at c.in-Some.place c.in-Some.is c.loop-at.invariant in
    omega (arith, s.there, length-hides c.args.all.now, ap length c.requires.hidden)

pub loop-at-smaller : goal.loop-at-smaller
loop-at-smaller c =
    let s = strides c.args.all.now c.args._name.now c.loop-at.found c.loop-at.at c.in-Some.place c.in-Some.is c.loop-at.invariant in
    let got = ap (λ l. slice_get (reverse l) c.in-Some.place) (sym c.requires.hidden) ∙ c.above-at.ensures in
    let next = same_item (reverse (hides c.args.all.now)) c.in-Some.place s.next c.above-at.result.now s.hidden got in
    subst (λ d. depth_of c.above-at.result.now < d) (sym (ap depth_of c.in-Some.is)) (subst (λ n. depth_of n < suc c.in-Some.place) next s.less)

pub loop-at-preserved : goal.loop-at-preserved
loop-at-preserved c =
    let s = strides c.args.all.now c.args._name.now c.loop-at.found c.loop-at.at c.in-Some.place c.in-Some.is c.loop-at.invariant in
    let got = ap (λ l. slice_get (reverse l) c.in-Some.place) (sym c.requires.hidden) ∙ c.above-at.ensures in
    let next = same_item (reverse (hides c.args.all.now)) c.in-Some.place s.next c.above-at.result.now s.hidden got in
    let one = same_item (reverse c.args.all.now) c.in-Some.place s.one c.above.result.now s.item c.above.ensures in
    let longer = ap (λ o. c.loop-at.found ++ o.1 ∷ []) one ∙ sym c.in_ok-push.ensures.ok in
    subst (λ f. Walks c.args.all.now c.args._name.now f c.above-at.result.now) longer
    (subst (λ n. Walks c.args.all.now c.args._name.now (c.loop-at.found ++ s.one.1 ∷ []) n) next s.goes)

pub returns : goal.returns
returns c = walk_ends c.args.all.now c.args._name.now c.loop-at.found c.loop-at.at c.in_default.is c.loop-at.invariant
