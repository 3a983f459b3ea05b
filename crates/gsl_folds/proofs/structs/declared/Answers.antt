use Rattle.std.proofs.Common.{subst, sym}
use Rattle.gsl_types.specs.Known.{AreStructs}
use Rattle.gsl_layout.specs.Extents.{ArePlain}
use Rattle.gsl_layout.proofs.PlainStructs.{longer}
use Rattle.gsl_folds.proofs.Members.{AllPlain}
use Rattle.gsl_folds.proofs.structs.declared.Goals as goal

pub returns-clause-known : goal.returns-clause-known
returns-clause-known c = subst AreStructs (sym c.in_ok-push.ensures.ok) c.next_struct-next.ensures.known

pub returns-clause-plain : goal.returns-clause-plain
returns-clause-plain c =
    let all : AllPlain c.next_struct-next.result.members = subst AllPlain (sym c.next_struct-next.ensures.members) c.in_ok-members.ensures.plain in
    subst ArePlain (sym c.in_ok-push.ensures.ok) (longer c.args.structs c.next_struct-next.result c.requires.plain all)
