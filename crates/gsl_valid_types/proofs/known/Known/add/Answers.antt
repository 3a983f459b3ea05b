use Rattle.std.proofs.Common.{not, ap, ◌∙◌}
use Rattle.std.specs.List.{list_any}
use Rattle.gsl_valid_types.specs.TypeKeys.{is_key}
use Rattle.gsl_valid_types.proofs.Adding.{same_keys}
use Rattle.gsl_valid_types.proofs.known.Known.add.Goals as goal

pub returns-clause-first : goal.returns-clause-first
returns-clause-first c =
    c.in_ok-added.ensures.added ∙ ap not (same_keys c.args.op c.args.operands.now c.self.inside.keys.keys)
    ∙ ap (λ l. not (list_any (is_key c.args.op c.args.operands.now) l)) c.self.view_is
