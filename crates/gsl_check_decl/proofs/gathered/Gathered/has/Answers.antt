use Rattle.std.proofs.Common.{ap, is_some, ◌∙◌}
use Rattle.gsl_names.specs.Scopes.{find}
use Rattle.gsl_check_decl.specs.Structs.{has_member}
use Rattle.gsl_check_decl.proofs.Tabled.{member_found}
use Rattle.gsl_check_decl.proofs.gathered.Gathered.has.Goals as goal

pub returns : goal.returns
returns c =
    c.is_some.ensures ∙ ap is_some (c.find.ensures ∙ ap (λ names. find names c.args.name.now) c.self.invariant) ∙ member_found c.self.inside.members c.args.name.now
    ∙ ap (λ members. has_member members c.args.name.now) c.self.view_is
