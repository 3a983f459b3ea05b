use Rattle.gsl_lower_law_picks.proofs.Unstored.{path_stored_out, stored_out}
use Rattle.gsl_lower_law_picks.proofs.laws.stores_out_of_bounds_stray.Goals as goal

pub returns-clause-component : goal.returns-clause-component
returns-clause-component c = λ m input whole id class shape parts p word words from to w value state before points each leads out picks one is stands. stored_out m input whole id class parts p value words from w state before points each is stands shape to word leads out picks one

pub returns-clause-path : goal.returns-clause-path
returns-clause-path c = λ m input whole id class shape parts p by words from w value state before points each out chooses can fits few is stands. path_stored_out m input whole id class parts p value words from w state before points each is stands out shape by chooses can fits few
