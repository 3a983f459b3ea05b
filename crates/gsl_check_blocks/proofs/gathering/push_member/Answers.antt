use Rattle.std.proofs.Common.{◌≡◌, ◌∙◌, sym, ap, subst, IsTrue}
use Rattle.gsl_types.specs.declared.ty.Ty.{Ty}
use Rattle.gsl_layout.specs.Extents.{plain}
use Rattle.gsl_tree.specs.declared.unit.BlockMember.{BlockMember}
use Rattle.gsl_check_blocks.specs.Blocks.{member_type}
use Rattle.gsl_check_blocks.specs.Stands.{IsMemberType}
use Rattle.gsl_check_blocks.proofs.Behind.{stands_behind}
use Rattle.gsl_check_blocks.proofs.gathering.push_member.Goals as goal

pub returns-clause-stand : goal.returns-clause-stand
returns-clause-stand c =
    let scene = c.args.env.now.scene in
    let member = c.in_ok-member.member in
    let ty_is : member.ty ≡ member_type c.args.written = ap (λ (m : BlockMember). m.ty) c.in_ok-member.ensures ∙ c.in_ok-ty.ensures in
    stands_behind c.args.frame.now.std140 scene.structs c.args.last c.args.all c.in_ok-with.field-0 member c.in_ok-end.end c.requires.stand
    (subst (λ (t : Ty). IsMemberType scene.structs t) (sym ty_is) c.in_ok-may_be_member.ensures.may)
    (λ e. subst (λ (t : Ty). IsTrue (plain t)) (sym ty_is) (c.in_ok-may_be_member.ensures.plain e)) c.in_ok-end.ensures.ends c.in_ok-with.ensures
