use Rattle.std.proofs.Common.{◌≡◌, ◌+◌, ◌<◌, ◌≤◌, ◌∷◌, [], suc, ap, sym, subst, ◌∙◌, drop, length, get_or, arith}
use Rattle.std.proofs.lemmas.List.{drop_all}
use Rattle.std.proofs.Math.Seq.{drop-cons}
use Rattle.gsl_ids.proofs.Places.{made}
use Rattle.gsl_words.specs.declared.module.Module.{Module}
use Rattle.gsl_valid.specs.LayoutRules.{end_after, end_of_last, need}
use Rattle.gsl_enact_values.specs.Search.{from_definition, front}
use Rattle.gsl_enact_fits.specs.Passes.{told}
use Rattle.gsl_enact_fits.proofs.Told.{last_end, last_on, need_of_none, need_of_one}
use Rattle.gsl_enact_fits.proofs.needs.+need.Goals as goal

pub end_of_last-loop-member-preserved : goal.end_of_last-loop-member-preserved
end_of_last-loop-member-preserved t c =
    let m = c.args.decorations.now in
    let ms = c.args.members.now in
    let k = c.loop-member.member in
    let below : k < length ms = omega (arith, c.loop-member-test.true) in
    let opens : drop k ms ≡ get_or ms k 0 ∷ drop (k + 1) ms = drop-cons ms k 0 below ∙ ap (λ n. get_or ms k 0 ∷ drop n ms) (let e : suc k ≡ k + 1 = omega arith in e) in (
      omega (arith, c.told-end.ensures),
      last_on m (need m (front m c.args.count)) c.args.id k (get_or ms k 0) c.told-end.result c.loop-member.end c.need_in-need.result (drop k ms) (drop (k + 1) ms) _ opens c.need_in-need.ensures
          (c.told-end.ensures ∙ ap told (c.end_after.ensures ∙ ap (λ o. end_after o c.need_in-need.result) c.number_on_member-offset.ensures)) c.loop-member.invariant.1,
    )

pub end_of_last-returns : goal.end_of_last-returns
end_of_last-returns t c =
    let m = c.args.decorations.now in
    let ms = c.args.members.now in
    let past : length ms ≤ c.loop-member.member = omega (arith, c.loop-member-test.false) in
    last_end m (need m (front m c.args.count)) c.args.id c.loop-member.member c.loop-member.end (end_of_last m (need m (front m c.args.count)) c.args.id 0 0 ms) (drop c.loop-member.member ms) (drop_all c.loop-member.member ms past) c.loop-member.invariant.0
    c.loop-member.invariant.1

pub need_in-returns-in-None : goal.need_in-returns-in-None
need_in-returns-in-None t c =
    let m = c.args.decorations.now in
    sym (ap told (need_of_none m c.args.id (front m c.args.count) (subst (λ (n : Module). from_definition (front n c.args.count) c.args.id ≡ []) c.definitions.ensures c.in-None.ensures)))

pub need_in-returns-in-Some : goal.need_in-returns-in-Some
need_in-returns-in-Some t c =
    let m = c.args.decorations.now in
    let i = made c.in-Some.op c.in-Some.args.now in
    c.need_here.ensures
    ∙ ap told (sym (need_of_one m c.args.id (front m c.args.count) (front m c.in-Some.at) i (subst (λ (n : Module). from_definition (front n c.args.count) c.args.id ≡ i ∷ front n c.in-Some.at) c.definitions.ensures c.in-Some.ensures.0)))
