use Rattle.std.proofs.Common.{◌≡◌, ◌∙◌, min, max, [], take, sym, ap, subst, arith}
use Rattle.std.proofs.lemmas.List.{take_all}
use Rattle.gsl_layout.specs.Measures.{measure}
use Rattle.gsl_layout.specs.Outlines.{most_told}
use Rattle.gsl_layout.specs.Placings.{end_of, largest_base, last_first, placed}
use Rattle.gsl_layout.specs.Rules.{IsAlignment}
use Rattle.gsl_layout.specs.declared.outline.Outline.{Outline}
use Rattle.gsl_layout.proofs.Groups.{aligned, meanings, placed_of}
use Rattle.gsl_layout.proofs.Outlined.{base_taken, end_taken, outlined_group}
use Rattle.gsl_layout.proofs.Placements.{actual_free, actual_least}
use Rattle.gsl_layout.proofs.misplaced.outline_members.Goals as goal

pub end_behind-end-requires-clause-align : goal.end_behind-end-requires-clause-align
end_behind-end-requires-clause-align g c =
    subst IsAlignment (sym (ap (λ (o : Outline). o.align) c.outline_type-member.ensures)) (aligned (g.R.Rules.raised c.args.rules.now) (g.met.R.Rules.raises c.args.rules.now) c.args.structs.now c.index.result.now.ty)

pub loop-k-preserved : goal.loop-k-preserved
loop-k-preserved g c =
    let raise = g.R.Rules.raised c.args.rules.now in
    let raises = g.met.R.Rules.raises c.args.rules.now in
    let structs = c.args.structs.now in
    let members = c.args.members.now in
    let k = c.loop-k.k in
    let x = c.index.result.now in
    let before = end_of (last_first [] (placed_of raise raises structs (take k members) [])) in (
      c.end_behind-end.ensures before (measure raise structs x.ty) c.loop-k.invariant.0 c.outline_type-member.ensures
          ∙ ap (λ e. min e most_told) (sym (end_taken raise raises structs members [] k x c.index.ensures)),
      c.max-base.ensures ∙ ap (λ b. max b c.outline_type-member.result.align) c.loop-k.invariant.1
          ∙ ap (λ (o : Outline). max (largest_base (placed_of raise raises structs (take k members) [])) o.align) c.outline_type-member.ensures ∙ sym (base_taken raise raises structs members [] k x c.index.ensures),
      omega (arith, c.loop-k-test.true, c.len-k-end.ensures),
    )

pub round_up-requires-clause-some : goal.round_up-requires-clause-some
round_up-requires-clause-some g c =
    let raise = g.R.Rules.raised c.args.rules.now in
    let raises = g.met.R.Rules.raises c.args.rules.now in
    let named = meanings raise raises c.args.structs.now (take c.loop-k.k c.args.members.now) in
    omega (arith, c.max-align.ensures, c.loop-k.invariant.1, actual_free named, actual_least (placed [] named))

pub returns : goal.returns
returns g c =
    let raise = g.R.Rules.raised c.args.rules.now in
    let raises = g.met.R.Rules.raises c.args.rules.now in
    let structs = c.args.structs.now in
    let members = c.args.members.now in
    let k = c.loop-k.k in
    let all : take k members ≡ members = take_all k members (omega (arith, c.loop-k-test.false, c.len-k-end.ensures)) in
    let end = c.loop-k.invariant.0 ∙ ap (λ ms. min (end_of (last_first [] (placed_of raise raises structs ms []))) most_told) all in
    let base = c.loop-k.invariant.1 ∙ ap (λ ms. largest_base (placed_of raise raises structs ms [])) all in
    outlined_group raise (meanings raise raises structs members) c.loop-k.base c.loop-k.end c.max-align.result c.min.result base end
    (c.max-align.ensures ∙ ap (λ r. max c.loop-k.base r) c.raise.ensures) (c.min.ensures ∙ ap (λ n. min n most_told) c.round_up.ensures.least)
