-- The first of items that pass a test, in one pass over them.
use Rattle.std.specs.Prelude.{ℕ, Bool, not, nat_eq, bytes_eq, List, [], ◌∷◌, Option, Some, None, if◌then◌else◌}
use Rattle.std.specs.List.{list_any}
use Rattle.indexmap.specs.IndexSet.{insert_key}
use Rattle.gsl_base.specs.declared.fault.Place.{Place}
use Rattle.gsl_tree.specs.declared.unit.Function.{Function}
use Rattle.gsl_tree.specs.declared.unit.LocalSize.{LocalSize}

-- the place of the first function that passes
abbrev pub first_where : (Function → Bool) → List Function → Option Place
first_where test [] = None
first_where test (f ∷ functions) = if test f then Some f.place else first_where test functions

-- the place of the first size that passes
abbrev pub first_size : (LocalSize → Bool) → List LocalSize → Option Place
first_size test [] = None
first_size test (size ∷ sizes) = if test size then Some size.place else first_size test sizes

-- the place of the first function whose head is among these or is that of one before it
abbrev pub first_again : List ℕ → List Function → Option Place
first_again heads [] = None
first_again heads (f ∷ functions) = if list_any (nat_eq f.prototype) heads then Some f.place else first_again (insert_key nat_eq heads f.prototype) functions

-- the first of sizes behind one that is not as that; there is one
abbrev pub size_fault_of : Option LocalSize → List LocalSize → Option Place
size_fault_of None rest = Some (record { unit = 0; line = 1 })
size_fault_of (Some size) rest = first_size (λ (other : LocalSize). not (bytes_eq other.parts size.parts)) rest
