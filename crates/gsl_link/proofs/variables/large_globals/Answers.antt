use Rattle.std.proofs.Common.{ap, ◌∙◌, List, []}
use Rattle.gsl_link.specs.declared.slots.Counted.{Counted}
use Rattle.gsl_link.specs.Sides as spec
use Rattle.gsl_link.proofs.LargeGlobals.{large_are}
use Rattle.gsl_link.proofs.variables.large_globals.Goals as goal

pub returns : goal.returns
returns c =
    let structs = c.args.p.now.structs in
    let sides = c.args.sides.now in
    c.first_beyond-place.ensures
    ∙ ap (spec.first_beyond 0) (c.as_slice.ensures ∙ c.in_ok-counted_all.ensures
    ∙ ap (λ names. spec.counted_all structs names c.new-counted.result sides) c.new-names.ensures.empty
    ∙ ap (λ (all : List Counted). spec.counted_all structs [] all sides) c.new-counted.ensures)
    ∙ large_are structs sides
