use Rattle.gsl_cmd.proofs.Meant.{shader_ended}
use Rattle.gsl_cmd.proofs.agreeing.runs_list_what_shaders_give.Goals as goal

pub returns : goal.returns
returns c = λ m p files inputs output keeps hold done.
    shader_ended files hold c.given_inputs_are_typed.ensures.proper c.given_inputs_are_typed.ensures.types c.given_inputs_are_typed.ensures.short m p inputs output keeps done
