use Rattle.std.proofs.Common.{ℕ, List, ◌∙◌, ap, sym, subst}
use Rattle.gsl_base.specs.Checked.{Refuses}
use Rattle.gsl_cmd.specs.Verdict.{linked_of}
use Rattle.gsl_cmd.proofs.Compiled.{made, refused}
use Rattle.gsl_cmd.proofs.compiling.compiled_module.Goals as goal

pub returns-in-Ok : goal.returns-in-Ok
returns-in-Ok c =
    made c.args.target c.args.stage c.args.sources.now c.in-Ok.program c.module_linked.result (ap (linked_of c.args.stage) (sym c.as_slice.ensures) ∙ (rw c.in-Ok.is at c.linked.ensures.made)) c.module_linked.ensures

pub returns-in-Err : goal.returns-in-Err
returns-in-Err c =
    refused c.args.target c.args.stage c.args.sources.now c.in-Err.refusal (subst (λ (s : List (List ℕ)). Refuses c.in-Err.refusal (linked_of c.args.stage s)) c.as_slice.ensures (rw c.in-Err.is at c.linked.ensures.made))
