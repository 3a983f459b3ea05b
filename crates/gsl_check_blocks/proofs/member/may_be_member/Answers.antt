use Rattle.std.proofs.Common.{rules, ◌∙◌, sym, subst, IsTrue}
use Rattle.gsl_types.specs.declared.ty.Ty.{Ty}
use Rattle.gsl_layout.specs.Extents.{plain}
use Rattle.gsl_check_blocks.proofs.MemberTypes.{may_go_on}
use Rattle.gsl_check_blocks.proofs.member.may_be_member.Goals as goal

pub returns-clause-plain : goal.returns-clause-plain
returns-clause-plain c =
    let had : IsTrue c.may_be_had-had.result = search rules in
    may_go_on c.args.frame.now c.args.last c.args.written.now (sym c.is_misplaced_array-open.ensures ∙ c.if-open.false)
    (subst (λ (t : Ty). IsTrue (plain t)) c.had_type.ensures (c.may_be_had-had.ensures.plain had))
