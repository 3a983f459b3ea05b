use Rattle.std.proofs.Common.{◌∙◌, sym}
use Rattle.std.specs.Prelude.{None}
use Rattle.gsl_base.specs.declared.fault.Code.TheVariants.{E0906, E0907}
use Rattle.gsl_link.specs.Left.{fault_or}
use Rattle.gsl_link.specs.Rows.{too_heavy}
use Rattle.gsl_link.proofs.Steps.{told, kept, steps_depth}
use Rattle.gsl_link.proofs.linking.from_depth.Goals as goal

pub returns-in-Some : goal.returns-in-Some
returns-in-Some c =
    told E0907 (fault_or E0906 None (too_heavy c.args.p.now)) (sym c.in-Some.is ∙ c.in_ok-deep.ensures) ∙ steps_depth c.args.sizes.now c.args.sides.now c.args.p.now

pub returns-in-Some-too_heavy : goal.returns-in-Some-too_heavy
returns-in-Some-too_heavy c =
    told E0906 None c.in-Some-too_heavy.ensures ∙ kept E0907 (fault_or E0906 None (too_heavy c.args.p.now)) (sym c.in-None.is ∙ c.in_ok-deep.ensures)
    ∙ steps_depth c.args.sizes.now c.args.sides.now c.args.p.now

pub returns : goal.returns
returns c =
    kept E0906 None c.in-None-too_heavy.ensures ∙ kept E0907 (fault_or E0906 None (too_heavy c.args.p.now)) (sym c.in-None.is ∙ c.in_ok-deep.ensures)
    ∙ steps_depth c.args.sizes.now c.args.sides.now c.args.p.now
