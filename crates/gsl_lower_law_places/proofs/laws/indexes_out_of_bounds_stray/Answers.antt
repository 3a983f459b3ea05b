use Rattle.gsl_lower_law_places.proofs.Outside.{loaded_strays, pointer_strays, put_strays}
use Rattle.gsl_lower_law_places.proofs.laws.indexes_out_of_bounds_stray.Goals as goal

pub returns-clause-pointer : goal.returns-clause-pointer
returns-clause-pointer c = λ m input whole id class pointee parts words from state before stands each out. pointer_strays m input whole id class pointee parts words from state before stands each out

pub returns-clause-load : goal.returns-clause-load
returns-clause-load c = λ m input whole id class shape parts words from state before stands each out. loaded_strays m input whole id class shape parts words from state before stands each out

pub returns-clause-store : goal.returns-clause-store
returns-clause-store c = λ m input whole id class shape parts value words from v state before stands each out is there. put_strays m input whole id class shape parts value words from v state before stands each out is there
