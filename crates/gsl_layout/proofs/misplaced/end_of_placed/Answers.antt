use Rattle.std.proofs.Common.{ap, subst, sym}
use Rattle.gsl_layout.specs.Rules.{IsAlignment}
use Rattle.gsl_layout.specs.declared.outline.Outline.{Outline}
use Rattle.gsl_layout.proofs.Groups.{aligned}
use Rattle.gsl_layout.proofs.misplaced.end_of_placed.Goals as goal

pub is_misplaced-requires : goal.is_misplaced-requires
is_misplaced-requires g c = record {
  align = subst IsAlignment (sym (ap (λ (o : Outline). o.align) c.outline_type-member.ensures)) (aligned (g.R.Rules.raised c.args.rules.now) (g.met.R.Rules.raises c.args.rules.now) c.args.structs.now c.args.ty.now);
}

pub end_behind-requires-clause-align : goal.end_behind-requires-clause-align
end_behind-requires-clause-align g c =
    subst IsAlignment (sym (ap (λ (o : Outline). o.align) c.outline_type-member.ensures)) (aligned (g.R.Rules.raised c.args.rules.now) (g.met.R.Rules.raises c.args.rules.now) c.args.structs.now c.args.ty.now)
