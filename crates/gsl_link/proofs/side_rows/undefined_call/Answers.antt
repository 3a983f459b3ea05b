use Rattle.std.proofs.Common.{ap, ◌∙◌, List, [], length, nat_eq}
use Rattle.indexmap.specs.IndexSet.{insert_all}
use Rattle.gsl_tree.specs.declared.unit.Function.{Function}
use Rattle.gsl_link_units.specs.Firsts.{earliest}
use Rattle.gsl_link_whole.specs.Numbers.{Numbering}
use Rattle.gsl_link.specs.Sides as spec
use Rattle.gsl_link.proofs.Undefined.{undefined_is, as_many}
use Rattle.gsl_link.proofs.side_rows.undefined_call.Goals as goal

pub undefined_places-requires : goal.undefined_places-requires
undefined_places-requires c = record { same = ap length c.requires.numbers ∙ as_many c.args.sides.now }

pub returns : goal.returns
returns c =
    c.earliest-place.ensures
    ∙ ap earliest (c.as_slice-2.ensures ∙ c.in_ok-places.ensures
    ∙ ap (λ (functions : List Function). spec.undefined_all (insert_all nat_eq [] (spec.defined_heads functions)) [] c.args.numbers.now c.args.sides.now) c.as_slice.ensures
    ∙ ap (λ (numbers : List Numbering). spec.undefined_all (insert_all nat_eq [] (spec.defined_heads c.args.p.now.functions)) [] numbers c.args.sides.now) c.requires.numbers
    ∙ undefined_is c.args.p.now c.args.sides.now)
