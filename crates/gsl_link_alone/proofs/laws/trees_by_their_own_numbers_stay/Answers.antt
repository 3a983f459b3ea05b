use Rattle.gsl_link_alone.proofs.Trees.{function_stays, global_stays}
use Rattle.gsl_link_alone.proofs.laws.trees_by_their_own_numbers_stay.Goals as goal

pub returns : goal.returns
returns c = record {
  functions = λ n lists f fine same is. function_stays lists fine n same f is;
  variables = λ n lists number g fine same is. global_stays lists fine n same number g is;
}
