use Rattle.std.proofs.Common.{◌||◌, ◌++◌, refl, ap, ◌∙◌}
use Rattle.gsl_macros.specs.Hiding.{among, flat}
use Rattle.gsl_macros.proofs.Sets.{has_is}
use Rattle.gsl_macros.proofs.hides.Hides.has.Goals as goal

pub returns : goal.returns
returns c =
    c.either.ensures ∙ ap (λ b. b || c.has_in-is_old.result) c.has-is_new.ensures
    ∙ ap (λ b. among c.args.number c.front_of.result.now || b) c.has_in-is_old.ensures
    ∙ has_is c.args.number c.front_of.result.now (flat c.chunks_of.result.now) c.args.self.now c.chunks_of.result.now refl
    ((λ i. c.front_of.ensures i ++ c.chunks_of.ensures i) ∙ c.self.view_is)
