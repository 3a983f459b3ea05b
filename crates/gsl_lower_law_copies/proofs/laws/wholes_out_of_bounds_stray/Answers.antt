use Rattle.gsl_lower_law_copies.proofs.Copied.{whole_into_strays, whole_out_strays}
use Rattle.gsl_lower_law_copies.proofs.laws.wholes_out_of_bounds_stray.Goals as goal

pub returns-clause-read : goal.returns-clause-read
returns-clause-read c = λ m input whole block class parts holder type leaves words from variable size places state before points each out some lie. whole_out_strays m input whole block class parts words from variable size state before points each out holder type leaves places some lie

pub returns-clause-store : goal.returns-clause-store
returns-clause-store c = λ m input whole block class parts value leaves words from variable size places v state before points each out some lie stands has. whole_into_strays m input whole block class parts words from variable size state before points each out value leaves places v some lie stands has
