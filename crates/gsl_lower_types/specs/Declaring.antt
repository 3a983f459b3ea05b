-- Decorations, names and variables of a module, as steps (SPIR-V 1.0, 3.32.2, 3.32.3 and 3.32.8).
use Rattle.std.specs.Prelude.{ℕ, List, Option}
use Rattle.gsl_spv.specs.Calls as call
use Rattle.gsl_lower_values.specs.Building.{Made, Step, ◌>>=◌, id_by}
use Rattle.gsl_lower_places.specs.Reading.{pointer_type}

-- an id, or a member of it, with a decoration
abbrev pub decorated : ℕ → Option ℕ → ℕ → Option ℕ → Step (Unit {0})
decorated id member what literal sections = Made tt (call.decorate id member what literal sections)

-- an id, or a member of it, with a name
abbrev pub named : ℕ → Option ℕ → List ℕ → Step (Unit {0})
named id member text sections = Made tt (call.name id member text sections)

-- a variable of a storage class, by the type of what it holds and the constant that it begins with, if it has one
abbrev pub variable_in : ℕ → ℕ → Option ℕ → Step ℕ
variable_in class type init = pointer_type class type >>= (λ pointer. id_by (call.global pointer class init))
