use Rattle.std.proofs.Common.{◌≡◌, ◌∙◌, ◌∷◌, [], length, sym, ap, subst, arith, length-append}
use Rattle.gsl_types.specs.declared.ty.Ty.TheVariants as ty
use Rattle.gsl_types.specs.Structs.{numbered}
use Rattle.gsl_types.proofs.Layers.{over_struct}
use Rattle.gsl_types.proofs.Structs.{numbered_is}
use Rattle.gsl_layout.specs.Measures.{block, measure, measuring}
use Rattle.gsl_layout.specs.Outlines.{AreOutlined, outline}
use Rattle.gsl_layout.proofs.Outlined.{one_more}
use Rattle.gsl_layout.proofs.misplaced.outline_structs.Goals as goal

pub loop-k-preserved : goal.loop-k-preserved
loop-k-preserved g c =
    let raise = g.R.Rules.raised c.args.rules.now in
    let structs = c.args.structs.now in
    let k = c.loop-k.k in
    let struct = c.index.result.now in
    let is : measure raise structs (ty.Struct k) ≡ block raise structs struct.members []
    = over_struct (measuring raise) (numbered (measuring raise) structs) k ∙ numbered_is (measuring raise) structs k struct c.index.ensures (c.requires.known k struct c.index.ensures).earlier in
    let next : c.outline_members-next.result ≡ outline (measure raise structs (ty.Struct k)) = c.outline_members-next.ensures ∙ ap outline (sym is) in (
      subst (AreOutlined raise structs) (sym c.in_ok-push.ensures.ok) (one_more raise structs c.loop-k.outlines c.outline_members-next.result k c.loop-k.invariant.1 c.loop-k.invariant.0 next),
      omega (arith, ap length c.in_ok-push.ensures.ok, length-append c.loop-k.outlines (c.outline_members-next.result ∷ []), c.loop-k.invariant.1),
      omega (arith, c.loop-k-test.true, c.len-k-end.ensures),
    )
