-- The faults that one node may have, in the order of their numbers.
use Rattle.std.specs.Prelude.{Bool, List, [], ◌∷◌, Err, if◌then◌else◌}
use Rattle.gsl_base.specs.Checked.{Checked}
use Rattle.gsl_base.specs.declared.fault.Code.{Code}
use Rattle.gsl_base.specs.declared.fault.Place.{Place}

-- a row of the table of faults: its code, and whether it applies to the node
abbrev pub Row : Type 0
Row = Code × Bool

abbrev pub fault : {A : Type 0} → Place → Code → Checked A
fault place code = Err (record { place = place; code = code })

-- The first row that applies is the fault of the node at this place; where none does, the node is as said.
abbrev pub unless : {A : Type 0} → Place → List Row → Checked A → Checked A
unless place [] node = node
unless place (row ∷ rows) node = if row.1 then fault place row.0 else unless place rows node
