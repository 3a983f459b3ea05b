use Rattle.gsl_given_law.proofs.Found.{all_given}
use Rattle.gsl_given_law.proofs.laws.given_inputs_are_typed.Goals as goal

pub returns-clause-proper : goal.returns-clause-proper
returns-clause-proper c = λ files lines m input hold are is. (all_given files hold c.spelled_and_read.ensures.no_other_line c.in_their_order.ensures.proper lines m input are is).0

pub returns-clause-types : goal.returns-clause-types
returns-clause-types c = λ files lines m input hold are is. (all_given files hold c.spelled_and_read.ensures.no_other_line c.in_their_order.ensures.proper lines m input are is).1

pub returns-clause-short : goal.returns-clause-short
returns-clause-short c = λ files lines m input hold are is. (all_given files hold c.spelled_and_read.ensures.no_other_line c.in_their_order.ensures.proper lines m input are is).2
