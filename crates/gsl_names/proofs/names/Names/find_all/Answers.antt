use Rattle.std.proofs.Common.{◌≡◌, ◌∙◌, ap, sym, subst, ◌∷◌, IfOk}
use Rattle.gsl_names.specs.Scopes.{all_of}
use Rattle.gsl_names.proofs.Latest.{cut_all}
use Rattle.gsl_names.proofs.names.Names.find_all.Goals as goal

pub returns : goal.returns
returns c =
    subst (λ all. IfOk c.walk.result (λ entries. entries ≡ all))
    (sym (cut_all (c.self.inside.here ∷ c.self.inside.around) c.self.inside.all c.args.name.now c.self.invariant.2) ∙ ap (λ scopes. all_of scopes c.args.name.now) c.self.view_is)
    c.walk.ensures
