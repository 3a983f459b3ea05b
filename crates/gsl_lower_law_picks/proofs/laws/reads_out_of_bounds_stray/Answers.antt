use Rattle.gsl_lower_law_picks.proofs.Outside.{path_out, picked_out, values_picked_out}
use Rattle.gsl_lower_law_picks.proofs.laws.reads_out_of_bounds_stray.Goals as goal

pub returns-clause-variable : goal.returns-clause-variable
returns-clause-variable c = λ m input whole id class shape parts p word words from to state before stands each leads out picks. picked_out m input whole id class parts p words from state before stands each shape to word leads out picks

pub returns-clause-value : goal.returns-clause-value
returns-clause-value c = λ m input whole id type shape parts p word v state before stands is picks. values_picked_out m input whole id type shape parts p word v state before stands is picks

pub returns-clause-path : goal.returns-clause-path
returns-clause-path c = λ m input whole id class shape parts p by words from state before stands each out chooses can. path_out m input whole id class parts p words from state before stands each out shape by chooses can
