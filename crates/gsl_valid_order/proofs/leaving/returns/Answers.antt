use Rattle.std.proofs.Common.{refl, None, ◌∙◌, ap}
use Rattle.gsl_words.specs.declared.module.Module.{Module}
use Rattle.gsl_valid.specs.EntryRules.{model_of}
use Rattle.gsl_valid.specs.Placed.{placed}
use Rattle.gsl_ids.specs.Pass.{first_failed}
use Rattle.gsl_valid_order.specs.declared.leaving.ReturnTest.{ReturnTest}
use Rattle.gsl_valid_order.proofs.Returning.{passes, behind, finds}
use Rattle.gsl_valid_order.proofs.leaving.returns.Goals as goal

pub returns : goal.returns
returns c =
    let m = c.args.definitions.now in
    let s : ReturnTest = record { definitions = c.args.definitions; model = c.model_of.result; returned = None } in
    c.first_failed.ensures.place ∙ ap (λ (n : Module). first_failed passes behind s 0 (placed n)) c.module-2.ensures
    ∙ finds m s refl (c.model_of.ensures ∙ ap (λ (n : Module). model_of n.instrs) c.module.ensures) refl
