use Rattle.std.proofs.Common.{◌∙◌, ap}
use Rattle.gsl_valid.specs.Placed.{header_size}
use Rattle.gsl_valid_order.specs.Returned.{model_in}
use Rattle.gsl_valid_order.proofs.Returning.{model_is}
use Rattle.gsl_valid_order.proofs.leaving.model_of.Goals as goal

pub returns : goal.returns
returns c = c.first_model.ensures ∙ ap model_in c.new.ensures ∙ model_is header_size c.args.of.now.instrs
