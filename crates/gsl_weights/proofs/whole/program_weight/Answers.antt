use Rattle.std.proofs.Common.{◌∙◌}
use Rattle.gsl_weights.proofs.Totals.{of_structs, of_globals, of_blocks, of_interfaces, of_prototypes, of_functions, behind, program_total}
use Rattle.gsl_weights.proofs.whole.program_weight.Goals as goal

pub returns : goal.returns
returns c =
    let p = c.args.p.now in
    let structs = of_structs _ _ p.structs _ c.structs_weighed-structs.ensures c.as_slice.ensures in
    let globals = behind _ _ _ _ structs (of_globals p.structs _ _ p.globals _ c.globals_weighed-globals.ensures c.as_slice-2.ensures) in
    let blocks = behind _ _ _ _ globals (of_blocks _ _ p.blocks _ c.blocks_weighed-blocks.ensures c.as_slice-3.ensures) in
    let interfaces = behind _ _ _ _ blocks (of_interfaces _ _ p.interfaces _ c.interfaces_weighed-interfaces.ensures c.as_slice-4.ensures) in
    let prototypes = behind _ _ _ _ interfaces (of_prototypes _ _ p.prototypes _ c.prototypes_weighed-prototypes.ensures c.as_slice-5.ensures) in
    let functions = behind _ _ _ _ prototypes (of_functions p.structs _ _ p.functions _ c.functions_weighed-all.ensures c.as_slice-6.ensures) in
    c.added.ensures ∙ program_total _ _ _ _ _ _ _ functions
