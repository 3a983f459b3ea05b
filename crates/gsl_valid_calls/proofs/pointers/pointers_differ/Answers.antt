use Rattle.std.proofs.Common.{◌≡◌, ◌∙◌, ap}
use Rattle.gsl_valid_calls.specs.Calls.{differ_behind}
use Rattle.gsl_valid_calls.proofs.Differing.{nothing_before}
use Rattle.gsl_valid_calls.proofs.pointers.pointers_differ.Goals as goal

pub loop-id-init : goal.loop-id-init
loop-id-init c = ap (λ l. differ_behind c.args.definitions.now l c.args.arguments.now) c.new-pointers.ensures.empty ∙ nothing_before c.args.definitions.now c.args.arguments.now
