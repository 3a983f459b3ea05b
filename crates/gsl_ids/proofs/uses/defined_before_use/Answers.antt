use Rattle.std.proofs.Common.{refl, ◌∙◌, ap}
use Rattle.std.proofs.lemmas.List.Elements.{recursion_from_All}
use Rattle.gsl_words.specs.Instructions.{IsInTable}
use Rattle.gsl_valid.specs.Placed.{placed}
use Rattle.gsl_ids.specs.Pass.{first_failed}
use Rattle.gsl_ids.proofs.Defining.{passes, behind, finds}
use Rattle.gsl_ids.proofs.uses.defined_before_use.Goals as goal

pub returns : goal.returns
returns c =
    let m = c.args.definitions.now in
    c.first_failed.ensures.place
    ∙ ap (λ m. first_failed passes behind (record { definitions = c.args.definitions }) 0 (placed m)) c.module.ensures
    ∙ finds m (record { definitions = c.args.definitions }) refl (recursion_from_All IsInTable m.instrs c.requires.file.instrs)
