-- The last definition of an id, as the code looks for it.
use Rattle.std.specs.Prelude.{ℕ, if◌then◌else◌, [], ◌∷◌, take}
use Rattle.gsl_words.specs.declared.module.Module.{Module}
use Rattle.gsl_valid.specs.Ids.{defines}
use Rattle.gsl_valid.specs.Placed.{Code}
use Rattle.gsl_valid.specs.Search.{passed}

-- so many instructions at the front of a module, the last first
abbrev pub front : Module → ℕ → Code
front m count = passed [] (take count m.instrs)

-- those from the first one on that defines an id
unfoldable pub from_definition : Code → ℕ → Code
from_definition [] id = []
from_definition (i ∷ before) id = if defines i id then i ∷ before else from_definition before id
