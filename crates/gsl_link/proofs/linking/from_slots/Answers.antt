use Rattle.std.proofs.Common.{◌∙◌, sym}
use Rattle.gsl_base.specs.declared.fault.Code.TheVariants.{E0807, E0903}
use Rattle.gsl_link.specs.Left.{fault_or, from_depth}
use Rattle.gsl_link.specs.Rows.{too_many_leaves}
use Rattle.gsl_link.proofs.Steps.{told, kept, answered, steps_slots}
use Rattle.gsl_link.proofs.linking.from_slots.Goals as goal

pub returns-in-Some : goal.returns-in-Some
returns-in-Some c =
    let sizes = c.args.sizes.now in
    let sides = c.args.sides.now in
    let p = c.args.p.now in
    told E0807 (fault_or E0903 (from_depth sizes sides p) (too_many_leaves p sides)) (sym c.in-Some.is ∙ c.in_ok-twice.ensures) ∙ steps_slots sizes sides p

pub returns-in-Some-many : goal.returns-in-Some-many
returns-in-Some-many c =
    let sizes = c.args.sizes.now in
    let sides = c.args.sides.now in
    let p = c.args.p.now in
    told E0903 (from_depth sizes sides p) (sym c.in-Some-many.is ∙ c.in_ok-many.ensures)
    ∙ kept E0807 (fault_or E0903 (from_depth sizes sides p) (too_many_leaves p sides)) (sym c.in-None.is ∙ c.in_ok-twice.ensures) ∙ steps_slots sizes sides p

pub returns : goal.returns
returns c =
    let sizes = c.args.sizes.now in
    let sides = c.args.sides.now in
    let p = c.args.p.now in
    answered c.from_depth.result
    (kept E0903 (from_depth sizes sides p) (sym c.in-None-many.is ∙ c.in_ok-many.ensures)
    ∙ kept E0807 (fault_or E0903 (from_depth sizes sides p) (too_many_leaves p sides)) (sym c.in-None.is ∙ c.in_ok-twice.ensures) ∙ steps_slots sizes sides p)
    c.from_depth.ensures
