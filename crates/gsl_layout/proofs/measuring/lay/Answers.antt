use Rattle.std.proofs.Common.{◌≡◌, [], None, subst, sym}
use Rattle.gsl_layout.specs.Measures.{misplaced_in}
use Rattle.gsl_layout.proofs.Groups.{meanings}
use Rattle.gsl_layout.proofs.Placements.{none_misplaced}
use Rattle.gsl_layout.proofs.measuring.lay.Goals as goal

pub lay_members-requires-clause-placed : goal.lay_members-requires-clause-placed
lay_members-requires-clause-placed g c =
    let raise = g.R.Rules.raised c.args.rules.now in
    let structs = c.args.structs.now in
    let members = c.args.members.now in
    subst (λ ps. misplaced_in raise structs members ps ≡ None) (sym c.new-free.ensures) (none_misplaced (meanings raise (g.met.R.Rules.raises c.args.rules.now) structs members) [] 0)
