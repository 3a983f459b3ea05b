use Rattle.std.proofs.Common.{◌∙◌, sym, ap, subst, List, length, arith}
use Rattle.std.specs.List.{AllByRecursion}
use Rattle.gsl_types.specs.Known.{IsSound}
use Rattle.gsl_types.specs.declared.ty.Member.{Member}
use Rattle.gsl_layout.specs.Extents.{AreMembers}
use Rattle.gsl_tree.specs.declared.unit.BlockMember.{BlockMember}
use Rattle.gsl_tree.specs.Laying.{members_of}
use Rattle.gsl_block_words.proofs.Formed.{as_many, members_laid, members_sound}
use Rattle.gsl_block_words.proofs.laying.lay_block.Goals as goal

pub lay-requires-clause-sound : goal.lay-requires-clause-sound
lay-requires-clause-sound c =
    let block = c.args.block.now in
    subst (λ (l : List Member). AllByRecursion (λ (member : Member). IsSound (length c.args.structs.now) member.ty) l) (sym (c.in_ok-all.ensures.members ∙ ap (λ (l : List BlockMember). members_of l) c.as_slice.ensures))
    (members_sound c.args.structs.now block.kind block.members c.requires.block.members)

pub lay-requires-clause-members : goal.lay-requires-clause-members
lay-requires-clause-members c =
    let block = c.args.block.now in
    subst (λ (l : List Member). AreMembers l) (sym (c.in_ok-all.ensures.members ∙ ap (λ (l : List BlockMember). members_of l) c.as_slice.ensures))
    (members_laid c.args.structs.now block.kind block.members c.requires.block.some c.requires.block.members)

pub lay-requires-clause-few : goal.lay-requires-clause-few
lay-requires-clause-few c =
    let block = c.args.block.now in
    omega (arith, ap (λ (l : List Member). length l) (c.in_ok-all.ensures.members ∙ ap (λ (l : List BlockMember). members_of l) c.as_slice.ensures), as_many block.members, c.requires.block.count)
