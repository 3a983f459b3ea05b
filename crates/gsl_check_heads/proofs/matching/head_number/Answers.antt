use Rattle.std.proofs.Common.{ap, ◌∙◌}
use Rattle.gsl_check_expr.specs.declared.env.Env.{Env}
use Rattle.gsl_check_heads.proofs.Oldest.{head_found}
use Rattle.gsl_check_heads.proofs.matching.head_number.Goals as goal

pub returns : goal.returns
returns c =
    head_found c.args.env.now.scene.prototypes c.as_slice-prototypes.result.now c.args.name.now c.args.params.now c.in_ok-key.key c.in_ok-entries.entries c.as_slice.result.now c.oldest.result
    (c.as_slice-prototypes.ensures ∙ ap (λ (e : Env). e.scene.prototypes) c.get.ensures.is) c.as_slice.ensures c.in_ok-key.ensures c.in_ok-entries.ensures c.oldest.ensures
