use Rattle.std.proofs.Common.{refl, false, ◌∙◌, ap}
use Rattle.std.proofs.lemmas.List.Elements.{recursion_from_All}
use Rattle.gsl_words.specs.declared.module.Module.{Module}
use Rattle.gsl_words.specs.Instructions.{IsInTable}
use Rattle.gsl_valid.specs.Placed.{placed}
use Rattle.gsl_ids.specs.Pass.{first_failed}
use Rattle.gsl_valid_order.specs.declared.near.NearTest.{NearTest}
use Rattle.gsl_valid_order.proofs.Close.{passes, behind, finds}
use Rattle.gsl_valid_order.proofs.near.locality.Goals as goal

pub returns : goal.returns
returns c =
    let m = c.args.definitions.now in
    let s : NearTest = record { definitions = c.args.definitions; inside = false; body = 0; block = 0 } in
    c.first_failed.ensures.place ∙ ap (λ (n : Module). first_failed passes behind s 0 (placed n)) c.module.ensures
    ∙ finds m c.requires.once s refl refl refl refl (recursion_from_All IsInTable m.instrs c.requires.file.instrs)
