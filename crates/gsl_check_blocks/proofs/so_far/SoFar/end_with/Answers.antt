use Rattle.std.proofs.Common.{[], ap, arith}
use Rattle.std.specs.Prelude.{is_some}
use Rattle.gsl_layout.specs.Measures.{placed_members}
use Rattle.gsl_layout.specs.Placings.{end_of, last_first}
use Rattle.gsl_tree.specs.Laying.{members_of, placings_of, rule_of}
use Rattle.gsl_check_blocks.specs.Stands.{end_told}
use Rattle.gsl_check_blocks.proofs.Behind.{ends_behind}
use Rattle.gsl_check_blocks.proofs.so_far.SoFar.end_with.Goals as goal

pub end_behind-requires-clause-end : goal.end_behind-requires-clause-end
unfolding end_told
end_behind-requires-clause-end c = omega (arith, c.requires.stand.end)

pub returns : goal.returns
unfolding end_told
returns c =
    let members = c.args.self.now.members in
    let before = end_of (last_first [] (placed_members (rule_of c.args.std140) c.args.structs.now (members_of members) (placings_of members))) in
    ends_behind c.args.std140 c.args.structs.now members c.args.member.now c.end_behind.result (ap is_some c.requires.stand.stand.placed) (c.end_behind.ensures before c.requires.stand.end)
