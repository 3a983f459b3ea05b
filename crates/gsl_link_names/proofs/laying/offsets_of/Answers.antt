use Rattle.std.proofs.Common.{sym, ap, subst, ◌∙◌, List, length}
use Rattle.std.specs.List.{AllByRecursion}
use Rattle.gsl_types.specs.Known.{IsSound}
use Rattle.gsl_types.specs.declared.ty.Member.{Member}
use Rattle.gsl_layout.specs.Extents.{AreMembers}
use Rattle.gsl_tree.specs.Laying.{rule_of, members_of}
use Rattle.gsl_tree.specs.declared.unit.BlockMember.{BlockMember}
use Rattle.gsl_link_units.specs.Agreement.{offsets}
use Rattle.gsl_link_names.proofs.Layable.{are_sound, are_members, as_many}
use Rattle.gsl_link_names.proofs.laying.offsets_of.Goals as goal

pub lay-requires-clause-sound : goal.lay-requires-clause-sound
lay-requires-clause-sound c =
    let block = c.args.block.now in
    subst (λ (l : List Member). AllByRecursion (λ (m : Member). IsSound (length c.args.structs.now) m.ty) l)
    (sym (c.in_ok-all.ensures.members ∙ ap (λ (l : List BlockMember). members_of l) c.as_slice.ensures)) (are_sound c.args.structs.now block.kind block.members c.requires.typed.members)

pub lay-requires-clause-members : goal.lay-requires-clause-members
lay-requires-clause-members c =
    let block = c.args.block.now in
    subst (λ (l : List Member). AreMembers l) (sym (c.in_ok-all.ensures.members ∙ ap (λ (l : List BlockMember). members_of l) c.as_slice.ensures))
    (are_members c.args.structs.now block.kind block.members c.requires.typed.some c.requires.typed.members)

pub first_offsets-requires-clause-all : goal.first_offsets-requires-clause-all
first_offsets-requires-clause-all c =
    c.len-in-Ok.ensures ∙ as_many (rule_of c.args.block.now.std140) c.args.structs.now c.in_ok-all.all.members c.in_ok-all.all.placings
    ∙ ap (λ l. length (offsets l)) (sym c.in-Ok.ensures.1)
