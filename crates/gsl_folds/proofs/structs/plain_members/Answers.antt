use Rattle.std.proofs.Common.{IsTrue, length, subst, sym}
use Rattle.gsl_types.specs.Known.{IsSound}
use Rattle.gsl_types.specs.declared.ty.Member.{Member}
use Rattle.gsl_layout.specs.Extents.{plain}
use Rattle.gsl_folds.proofs.Members.{AllPlain, AllSound, more}
use Rattle.gsl_folds.proofs.structs.plain_members.Goals as goal

pub loop-word-preserved : goal.loop-word-preserved
loop-word-preserved c =
    let n = length c.args.structs.now in
    subst (λ ms. AllSound n ms × AllPlain ms) (sym c.in_ok-push.ensures.ok) (
      more (λ (m : Member). IsSound n m.ty) _ _ c.loop-word.invariant.0 c.in_ok-member.ensures.sound,
      more (λ (m : Member). IsTrue (plain m.ty)) _ _ c.loop-word.invariant.1 c.in_ok-member.ensures.plain,
    )
