use Rattle.std.proofs.Common.{◌∙◌, sym}
use Rattle.gsl_base.specs.declared.fault.Code.TheVariants.{E0801, E0802, E0804}
use Rattle.gsl_link.specs.Left.{fault_or, from_calls}
use Rattle.gsl_link.specs.Rows.{no_main, second_definition}
use Rattle.gsl_link.proofs.Steps.{told, kept, answered, steps_first}
use Rattle.gsl_link.proofs.linking.first_fault.Goals as goal

pub returns-in-Some : goal.returns-in-Some
returns-in-Some c =
    let sizes = c.args.sizes.now in
    let sides = c.args.sides.now in
    let p = c.args.w.now.program in
    told E0804 (fault_or E0802 (fault_or E0801 (from_calls sizes sides p) (no_main p)) (second_definition p)) (sym c.in-Some.is ∙ c.in_ok-other.ensures) ∙ steps_first sizes sides p

pub returns-in-Some-second : goal.returns-in-Some-second
returns-in-Some-second c =
    let sizes = c.args.sizes.now in
    let sides = c.args.sides.now in
    let p = c.args.w.now.program in
    let later = fault_or E0801 (from_calls sizes sides p) (no_main p) in
    told E0802 later (sym c.in-Some-second.is ∙ c.in_ok-second.ensures) ∙ kept E0804 (fault_or E0802 later (second_definition p)) (sym c.in-None.is ∙ c.in_ok-other.ensures)
    ∙ steps_first sizes sides p

pub returns-in-Some-no_main : goal.returns-in-Some-no_main
returns-in-Some-no_main c =
    let sizes = c.args.sizes.now in
    let sides = c.args.sides.now in
    let p = c.args.w.now.program in
    let later = fault_or E0801 (from_calls sizes sides p) (no_main p) in
    told E0801 (from_calls sizes sides p) c.in-Some-no_main.ensures ∙ kept E0802 later (sym c.in-None-second.is ∙ c.in_ok-second.ensures)
    ∙ kept E0804 (fault_or E0802 later (second_definition p)) (sym c.in-None.is ∙ c.in_ok-other.ensures) ∙ steps_first sizes sides p

pub returns : goal.returns
returns c =
    let sizes = c.args.sizes.now in
    let sides = c.args.sides.now in
    let p = c.args.w.now.program in
    let later = fault_or E0801 (from_calls sizes sides p) (no_main p) in
    answered c.from_calls.result
    (kept E0801 (from_calls sizes sides p) c.in-None-no_main.ensures ∙ kept E0802 later (sym c.in-None-second.is ∙ c.in_ok-second.ensures)
    ∙ kept E0804 (fault_or E0802 later (second_definition p)) (sym c.in-None.is ∙ c.in_ok-other.ensures) ∙ steps_first sizes sides p)
    c.from_calls.ensures
