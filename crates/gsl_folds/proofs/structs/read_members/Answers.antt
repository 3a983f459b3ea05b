use Rattle.std.proofs.Common.{IsTrue, length, subst, sym}
use Rattle.gsl_types.specs.Known.{IsSound}
use Rattle.gsl_types.specs.declared.ty.Member.{Member}
use Rattle.gsl_layout.specs.Extents.{AreMembers}
use Rattle.gsl_folds.proofs.Members.{AllSound, more, with_last}
use Rattle.gsl_folds.proofs.structs.read_members.Goals as goal

pub returns-clause-sound : goal.returns-clause-sound
returns-clause-sound c =
    let n = length c.args.structs.now in
    subst (AllSound n) (sym c.in_ok-push.ensures.ok)
    (more (λ (m : Member). IsSound n m.ty) _ _ c.in_ok-members.ensures.sound c.in_ok-last.ensures.sound)

pub returns-clause-members : goal.returns-clause-members
returns-clause-members c = subst AreMembers (sym c.in_ok-push.ensures.ok) (with_last _ _ c.in_ok-members.ensures.plain c.in_ok-last.ensures.last)
