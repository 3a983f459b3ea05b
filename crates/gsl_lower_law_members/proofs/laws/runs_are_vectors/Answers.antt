use Rattle.gsl_lower_law_members.proofs.Vectors.{component_strays, vector_is}
use Rattle.gsl_lower_law_members.proofs.laws.runs_are_vectors.Goals as goal

pub returns-clause-vector : goal.returns-clause-vector
returns-clause-vector c = λ m count type many lie. vector_is m count type many lie

pub returns-clause-strays : goal.returns-clause-strays
returns-clause-strays c = λ m input state variable offset count type word bytes many lie there most. component_strays m input state variable offset count type word bytes many lie there most
