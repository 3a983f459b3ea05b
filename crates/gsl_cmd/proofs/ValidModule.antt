-- The module of a program is valid.
use Rattle.std.proofs.Common.{[]}
use Rattle.gsl_valid.specs.Search.{Test, Passes}
use Rattle.gsl_valid.specs.Valid.{Valid, rules}
use Rattle.gsl_valid.proofs.Searching.{none_broken}
use Rattle.gsl_valid.proofs.Rules.{none_of}
use Rattle.gsl_form.specs.declared.program.Program.{Program}
use Rattle.gsl_form.specs.Form.{IsProgram}
use Rattle.gsl_cmd.specs.Lowering.{code_of, module_of}
use Rattle.gsl_cmd.proofs.Encodable.{module_has_file}
use Rattle.gsl_cmd.proofs.ValidSections.{sections_none}
use Rattle.gsl_cmd.proofs.ValidIds.{ids_once}
use Rattle.gsl_cmd.proofs.ValidUses.{uses_kept}
use Rattle.gsl_cmd.proofs.ValidTypes.{types_made, constants_typed, globals_kept, limits_kept}
use Rattle.gsl_cmd.proofs.ValidDecorations.{decorations_kept, layout_kept}
use Rattle.gsl_cmd.proofs.ValidCalls.{calls_kept, extended_is_kept}
use Rattle.gsl_cmd.proofs.ValidEntry.{entry_point_kept}
use Rattle.gsl_cmd.proofs.ValidShape.{shape_none, void_returned}
use Rattle.gsl_cmd.proofs.ValidBlocks.{order_kept}
use Rattle.gsl_cmd.proofs.ValidLocality.{near_kept}
use Rattle.gsl_cmd.proofs.ValidMemory.{operands_kept, memory_is_kept}

pub module_valid : (p : Program) → IsProgram p → Valid (module_of p)
module_valid p fits =
    let m = module_of p in
    let kept = λ (test : Test) (all : Passes test [] (code_of p)). none_broken test m all in
    record {
      file = module_has_file p fits;
      kept = none_of m rules (
        sections_none p fits,
        (
          kept _ (ids_once p fits),
          (
            kept _ (uses_kept p fits),
            (
              kept _ (types_made p fits),
              (
                kept _ (constants_typed p fits),
                (
                  kept _ (globals_kept p fits),
                  (
                    kept _ (decorations_kept p fits),
                    (
                      kept _ (layout_kept p fits),
                      (
                        kept _ (entry_point_kept p fits),
                        (
                          shape_none p fits,
                          (
                            kept _ (calls_kept p fits),
                            (
                              kept _ (order_kept p fits),
                              (
                                kept _ (near_kept p fits),
                                (
                                  kept _ (operands_kept p fits),
                                  (kept _ (memory_is_kept p fits), (kept _ (void_returned p fits), (kept _ (extended_is_kept p fits), (kept _ (limits_kept p fits), tt)))),
                                ),
                              ),
                            ),
                          ),
                        ),
                      ),
                    ),
                  ),
                ),
              ),
            ),
          ),
        ),
      );
    }
