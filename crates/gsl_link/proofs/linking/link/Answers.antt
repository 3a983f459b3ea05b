use Rattle.std.proofs.Common.{◌∙◌, sym, ap, subst, List}
use Rattle.gsl_types.specs.Known.{AreStructs}
use Rattle.gsl_types.specs.declared.ty.StructType.{StructType}
use Rattle.gsl_tree.specs.declared.program.Program.{Program}
use Rattle.gsl_link_numbers.specs.Numbering.{sizes_in}
use Rattle.gsl_link.proofs.Linked.{program_is, linked}
use Rattle.gsl_link.proofs.linking.link.Goals as goal

pub first_fault-requires-clause-known : goal.first_fault-requires-clause-known
first_fault-requires-clause-known c =
    subst (λ (structs : List StructType). AreStructs structs)
    (sym (ap (λ (p : Program). p.structs)
    (program_is c.args.stage c.args.units c.in_ok-w.w.program c.join_units.new.joined c.as_slice-2.result.now c.in_ok-w.ensures.program c.in_ok-sides.ensures.structs
    (c.as_slice-2.ensures ∙ c.in_ok-sides.ensures.sides))))
    c.requires.known.structs

pub returns : goal.returns
returns c =
    linked c.unless_faulty.result c.args.stage c.args.units c.in_ok-w.w.program c.in_ok-fault.fault c.as_slice-3.result.now c.as_slice-4.result.now c.unless_faulty.ensures c.in_ok-fault.ensures
    (c.as_slice-3.ensures ∙ c.in_ok-sizes.ensures ∙ ap sizes_in (c.as_slice.ensures ∙ c.in_ok-sides.ensures.sides)) (c.as_slice-4.ensures ∙ c.in_ok-sides.ensures.sides)
    (program_is c.args.stage c.args.units c.in_ok-w.w.program c.join_units.new.joined c.as_slice-2.result.now c.in_ok-w.ensures.program c.in_ok-sides.ensures.structs
    (c.as_slice-2.ensures ∙ c.in_ok-sides.ensures.sides))
