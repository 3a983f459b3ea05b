use Rattle.gsl_layout.proofs.Placements.{at_align, at_base, behind_offset, stands_behind}
use Rattle.gsl_layout.proofs.laws.members_stand_where_they_are_placed.Goals as goal

pub returns-clause-base : goal.returns-clause-base
returns-clause-base c member end is right = at_base member is end right

pub returns-clause-align : goal.returns-clause-align
returns-clause-align c member end align is right stated = at_align member is end right align stated

pub returns-clause-end : goal.returns-clause-end
returns-clause-end c member end is right = stands_behind member is end right

pub returns-clause-offset : goal.returns-clause-offset
returns-clause-offset c member end offset is stated = behind_offset member is end offset stated
