use Rattle.std.proofs.Common.{◌∙◌, sym, ap, subst, List}
use Rattle.std.proofs.lemmas.Bool.{true≢false}
use Rattle.gsl_types.specs.declared.ty.Member.{Member}
use Rattle.gsl_layout.specs.Extents.{AreMembers}
use Rattle.gsl_tree.specs.declared.unit.BlockMember.{BlockMember}
use Rattle.gsl_tree.specs.Laying.{members_of}
use Rattle.gsl_check_blocks.proofs.Behind.{some_members}
use Rattle.gsl_check_blocks.proofs.standing.need_of.Goals as goal

pub lay-requires-clause-members : goal.lay-requires-clause-members
lay-requires-clause-members c =
    subst (λ (l : List Member). AreMembers l) (sym (c.in_ok-all.ensures.members ∙ ap (λ (l : List BlockMember). members_of l) c.as_slice.ensures))
    (some_members c.args.block.now.members c.requires.stand.ends (λ e. true≢false (sym (c.is_empty.ensures.1 e) ∙ c.if-is_empty.false)))
