use Rattle.std.proofs.Common.{◌∙◌, sym, arith}
use Rattle.gsl_layout.specs.Layout.{members_of}
use Rattle.gsl_views.proofs.Parts.{child_member, has_offset, member_need, need_members, part_of_member}
use Rattle.gsl_views.proofs.view_mut.ViewMut.member.Goals as goal

pub offset-requires : goal.offset-requires
offset-requires c = has_offset (members_of c.args.self.laid.now) c.args.i c.requires

pub invariant_of-result-clause-fits : goal.invariant_of-result-clause-fits
invariant_of-result-clause-fits c =
    let layout = c.args.self.laid.now in
    let part = sym (part_of_member layout c.args.i c.requires) ∙ c.part.ensures in
    omega (arith, member_need (members_of layout) c.args.i c.offset.result c.part.result.now c.offset.ensures part, need_members layout, c.args.self.fits)

pub returns-clause-shown : goal.returns-clause-shown
returns-clause-shown c =
    let layout = c.args.self.laid.now in
    let part = sym (part_of_member layout c.args.i c.requires) ∙ c.part.ensures in
    child_member layout c.args.i c.offset.result c.part.result.now c.args.self.start c.args.self.bytes.now c.offset.ensures part
