use Rattle.gsl_lower_law_picks.proofs.Pointed.{component_pointed_out, path_pointed_out, whole_pointed_out}
use Rattle.gsl_lower_law_picks.proofs.laws.pointers_out_of_bounds_stray.Goals as goal

pub returns-clause-component : goal.returns-clause-component
returns-clause-component c = λ m input whole id class shape parts p word words from to state before stands each leads out picks. component_pointed_out m input whole id class parts p words from state before stands each shape to word leads out picks

pub returns-clause-path : goal.returns-clause-path
returns-clause-path c = λ m input whole id class shape parts p by words from state before stands each out chooses. path_pointed_out m input whole id class parts p words from state before stands each shape by out chooses

pub returns-clause-all : goal.returns-clause-all
returns-clause-all c = λ m input whole id class shape parts words from state before stands each out. whole_pointed_out m input whole id class shape parts words from state before stands each out
