-- What is made ready before `op=`, `++` and `--` (GLSL 4.50, 5.8 and 5.9).
use Rattle.gsl_tree.specs.Shapes.{Shape}
use Rattle.gsl_lower_places.specs.Pointed.{to_renew}
use Rattle.gsl_lower_places.specs.declared.reached.Reached.{Reached}
use Rattle.gsl_lower_holders.specs.Flow.{Emit, lift, ◌>>=◌}

-- where something may be read and stored, and what is done with it
abbrev pub ready_for : Shape → Reached → (Reached → Emit (Unit {0})) → Emit (Unit {0})
ready_for shape r next = lift (to_renew shape r) >>= next
