use Rattle.std.proofs.Common.{◌≡◌, ◌+◌, ◌-◌, ap, sym, ◌∙◌, subst, suc, arith}
use Rattle.std.specs.Prelude.{slice_index}
use Rattle.std.proofs.lemmas.Slice.Eq.{bytes_eq-Decides}
use Rattle.gsl_chains.specs.Chains.{Tells, longer, words_in}
use Rattle.gsl_chains.proofs.Longer.{settled, tell_longer, tell_none}
use Rattle.gsl_chains.proofs.chains.in_chains.Goals as goal

pub loop-left-init : goal.loop-left-init
loop-left-init c =
    let m = c.args.frames.now in
    (omega arith, subst (λ rows. Tells rows m (words_in c.args.row) 0) (sym (c.in_ok-rows.ensures.items_if_clones_equal (λ y same. same))) (tell_none m c.requires.once c.args.row _))

pub returns-then-eq : goal.returns-then-eq
returns-then-eq c =
    let m = c.args.frames.now in
    let own = c.in_ok-own.own.items in
    let rows = c.loop-left.rows.items in
    let same = (bytes_eq-Decides c.as_slice.result.now c.as_slice-in-loop-left.result.now).0 (sym c.eq.ensures ∙ c.if-eq.true) in
    let next = c.in_ok-next.ensures ∙ ap (λ l. longer m l c.deref-in-loop-left.result.now) c.deref.ensures.value ∙ ap (longer m own) c.deref-in-loop-left.ensures.value in
    let stays : longer m own rows ≡ rows = sym next ∙ sym c.as_slice.ensures.value ∙ same ∙ c.as_slice-in-loop-left.ensures.value in
    let tells = settled m c.requires.once c.args.row own rows (65 - c.loop-left.left) c.loop-left.left c.in_ok-own.ensures stays c.loop-left.invariant.1 in
    let all : 65 - c.loop-left.left + c.loop-left.left ≡ 65 = omega (arith, c.loop-left.invariant.0) in
    c.word_at.ensures ∙ ap (λ l. slice_index l c.args.entry) c.deref-then-eq.ensures.value ∙ subst (Tells rows m (words_in c.args.row)) all tells c.args.entry

pub loop-left-preserved : goal.loop-left-preserved
loop-left-preserved c =
    let m = c.args.frames.now in
    let own = c.in_ok-own.own.items in
    let rows = c.loop-left.rows.items in
    let next = c.in_ok-next.ensures ∙ ap (λ l. longer m l c.deref-in-loop-left.result.now) c.deref.ensures.value ∙ ap (longer m own) c.deref-in-loop-left.ensures.value in
    let tells = tell_longer m c.requires.once c.args.row own rows (65 - c.loop-left.left) c.in_ok-own.ensures c.loop-left.invariant.1 in
    let more : suc (65 - c.loop-left.left) ≡ 65 - (c.loop-left.left - 1) = omega (arith, c.loop-left.invariant.0, c.loop-left-test.true) in
    (omega (arith, c.loop-left.invariant.0), subst (Tells c.in_ok-next.next.items m (words_in c.args.row)) more (subst (λ r. Tells r m (words_in c.args.row) (suc (65 - c.loop-left.left))) (sym next) tells))
