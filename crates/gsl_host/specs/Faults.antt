-- The targets of a host's failed calls, from the first to the last.
use Rattle.std.specs.Prelude.{ℕ, Bool, true, false, List, [], ◌∷◌, ◌++◌, count_by, Result, Err as Refused, if◌then◌else◌}
use Rattle.std.specs.Str.{bytes_eq}
use Rattle.gsl_host.specs.declared.target.Stream.{Stream}
use Rattle.gsl_host.specs.declared.target.Stream.TheVariants.{Out, Err}
use Rattle.gsl_host.specs.declared.target.Target.{Target}
use Rattle.gsl_host.specs.declared.target.Target.TheVariants.{Reading, Writing, Printing}
use Rattle.gsl_host.specs.declared.target.ReadRefusal.{ReadRefusal}
use Rattle.gsl_host.specs.declared.target.ReadRefusal.TheVariants as read
use Rattle.gsl_host.specs.declared.target.HostRefusal.{HostRefusal}
use Rattle.gsl_host.specs.declared.target.HostRefusal.TheVariants as refusal

abbrev pub same_stream : Stream → Stream → Bool
same_stream Out Out = true
same_stream Err Err = true
same_stream _ _ = false

-- The two reach for the same thing in the same way.
abbrev pub same_target : Target → Target → Bool
same_target (Reading a) (Reading b) = bytes_eq a b
same_target (Writing a) (Writing b) = bytes_eq a b
same_target (Printing a) (Printing b) = same_stream a b
same_target _ _ = false

-- how many of the failed calls had this target
unfoldable pub faults_of : List Target → Target → ℕ
faults_of failed target = count_by (same_target target) failed

-- all but the last
abbrev pub front : List Target → List Target
front [] = []
front (first ∷ []) = []
front (first ∷ next ∷ more) = first ∷ front (next ∷ more)

-- whether the outside failed in a read, and in a write or a print
abbrev pub read_failed : Result (List ℕ) ReadRefusal → Bool
read_failed (Refused read.Failed) = true
read_failed _ = false

abbrev pub failed : Result (Unit {0}) HostRefusal → Bool
failed (Refused refusal.Failed) = true
failed _ = false

-- the targets of the failed calls after a further call
abbrev pub with_fault : List Target → Target → Bool → List Target
with_fault targets target has_failed = if has_failed then targets ++ target ∷ [] else targets
