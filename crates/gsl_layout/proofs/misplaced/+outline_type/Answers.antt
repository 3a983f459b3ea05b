use Rattle.std.proofs.Common.{ap, subst, sym}
use Rattle.gsl_layout.specs.Rules.{IsAlignment}
use Rattle.gsl_layout.specs.declared.outline.Outline.{Outline}
use Rattle.gsl_layout.proofs.Groups.{aligned}
use Rattle.gsl_layout.proofs.misplaced.+outline_type.Goals as goal

pub array_outline-requires-clause-align : goal.array_outline-requires-clause-align
array_outline-requires-clause-align g t c =
    subst IsAlignment (sym (ap (λ (o : Outline). o.align) c.outline_type-element.ensures)) (aligned (g.R.Rules.raised c.args.rules.now) (g.met.R.Rules.raises c.args.rules.now) c.args.structs.now c.get.result.now)
