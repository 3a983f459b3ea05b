use Rattle.std.proofs.Common.{◌∙◌, sym}
use Rattle.gsl_base.specs.declared.fault.Code.TheVariants.{E0803, E0805, E0806}
use Rattle.gsl_link.specs.Left.{fault_or, from_slots}
use Rattle.gsl_link.specs.Rows.{recursion, size_disagreement}
use Rattle.gsl_link.proofs.Steps.{told, kept, answered, steps_calls}
use Rattle.gsl_link.proofs.linking.from_calls.Goals as goal

pub returns-in-Some : goal.returns-in-Some
returns-in-Some c =
    let sizes = c.args.sizes.now in
    let sides = c.args.sides.now in
    let p = c.args.p.now in
    told E0803 (fault_or E0805 (fault_or E0806 (from_slots sizes sides p) (size_disagreement p.stage sizes)) (recursion p)) (sym c.in-Some.is ∙ c.in_ok-undefined.ensures)
    ∙ steps_calls sizes sides p

pub returns-in-Some-round : goal.returns-in-Some-round
returns-in-Some-round c =
    let sizes = c.args.sizes.now in
    let sides = c.args.sides.now in
    let p = c.args.p.now in
    let later = fault_or E0806 (from_slots sizes sides p) (size_disagreement p.stage sizes) in
    told E0805 later (sym c.in-Some-round.is ∙ c.in_ok-round.ensures) ∙ kept E0803 (fault_or E0805 later (recursion p)) (sym c.in-None.is ∙ c.in_ok-undefined.ensures)
    ∙ steps_calls sizes sides p

pub returns-in-Some-size_disagreement : goal.returns-in-Some-size_disagreement
returns-in-Some-size_disagreement c =
    let sizes = c.args.sizes.now in
    let sides = c.args.sides.now in
    let p = c.args.p.now in
    let later = fault_or E0806 (from_slots sizes sides p) (size_disagreement p.stage sizes) in
    told E0806 (from_slots sizes sides p) c.in-Some-size_disagreement.ensures ∙ kept E0805 later (sym c.in-None-round.is ∙ c.in_ok-round.ensures)
    ∙ kept E0803 (fault_or E0805 later (recursion p)) (sym c.in-None.is ∙ c.in_ok-undefined.ensures) ∙ steps_calls sizes sides p

pub returns : goal.returns
returns c =
    let sizes = c.args.sizes.now in
    let sides = c.args.sides.now in
    let p = c.args.p.now in
    let later = fault_or E0806 (from_slots sizes sides p) (size_disagreement p.stage sizes) in
    answered c.from_slots.result
    (kept E0806 (from_slots sizes sides p) c.in-None-size_disagreement.ensures ∙ kept E0805 later (sym c.in-None-round.is ∙ c.in_ok-round.ensures)
    ∙ kept E0803 (fault_or E0805 later (recursion p)) (sym c.in-None.is ∙ c.in_ok-undefined.ensures) ∙ steps_calls sizes sides p)
    c.from_slots.ensures
