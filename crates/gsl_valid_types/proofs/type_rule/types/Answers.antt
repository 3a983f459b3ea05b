use Rattle.std.proofs.Common.{[], ap, ◌∙◌}
use Rattle.gsl_words.specs.declared.module.Module.{Module}
use Rattle.gsl_valid.specs.Placed.{placed}
use Rattle.gsl_valid_types.specs.TypeKeys.{first_bad}
use Rattle.gsl_valid_types.proofs.Firsts.{counted, finds}
use Rattle.gsl_valid_types.proofs.type_rule.types.Goals as goal

pub returns : goal.returns
returns c =
    let m = c.args.definitions.now in
    c.in_ok-place.ensures ∙ ap (first_bad m []) (c.new.ensures ∙ ap (λ (n : Module). placed n) c.module.ensures) ∙ counted m [] 0 (placed m) ∙ finds m
