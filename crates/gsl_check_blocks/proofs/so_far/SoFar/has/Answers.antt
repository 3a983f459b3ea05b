use Rattle.std.proofs.Common.{ap, ◌∙◌}
use Rattle.std.specs.Prelude.{is_some}
use Rattle.gsl_names.specs.Scopes.{find}
use Rattle.gsl_tree.specs.Laying.{members_of}
use Rattle.gsl_check_decl.proofs.Tabled.{member_found}
use Rattle.gsl_check_blocks.proofs.Behind.{named_same}
use Rattle.gsl_check_blocks.proofs.so_far.SoFar.has.Goals as goal

pub returns : goal.returns
returns c =
    let members = c.args.self.now.members in
    c.is_some.ensures ∙ ap is_some (c.find.ensures ∙ ap (λ names. find names c.args.name.now) c.requires.names)
    ∙ member_found (members_of members) c.args.name.now ∙ named_same members c.args.name.now
