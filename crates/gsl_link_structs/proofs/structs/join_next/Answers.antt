use Rattle.std.proofs.Common.{◌∷◌, ◌++◌, [], ◌∙◌, ap}
use Rattle.gsl_link_units.specs.Structs as spec
use Rattle.gsl_link_structs.proofs.structs.join_next.Goals as goal

pub returns-clause-numbers : goal.returns-clause-numbers
returns-clause-numbers c =
    c.in_ok-push.ensures.ok ∙ ap (λ n. c.args.numbers ++ n ∷ []) (c.in_ok-joined.ensures.number ∙ ap (spec.struct_number c.args.joined) (c.in_ok-next.ensures ∙ ap (λ ns. spec.retyped_struct ns c.args.s.now) c.as_slice.ensures))
