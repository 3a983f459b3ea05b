use Rattle.std.proofs.Common.{◌∙◌, ap}
use Rattle.std.specs.Prelude.{is_some}
use Rattle.gsl_layout.specs.Layout.{members_of}
use Rattle.gsl_views.proofs.Parts.{has_offset, part_of_member}
use Rattle.gsl_views.proofs.Splits.{member_earlier}
use Rattle.gsl_views.proofs.splitting.member_cut.Goals as goal

pub offset-requires : goal.offset-requires
offset-requires g c = has_offset (members_of c.args.laid.now) c.args.j c.requires.1.0

pub offset-requires-2 : goal.offset-requires-2
offset-requires-2 g c = has_offset (members_of c.args.laid.now) c.args.i (member_earlier c.args.laid.now c.args.i c.args.j c.requires.0 c.requires.1.0)

pub part-requires : goal.part-requires
part-requires g c =
    let earlier = member_earlier c.args.laid.now c.args.i c.args.j c.requires.0 c.requires.1.0 in
    ap is_some (part_of_member c.args.laid.now c.args.i earlier) ∙ earlier
