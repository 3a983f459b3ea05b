-- The variables outside functions, as the code gathers them, and the rows that point to them.
use Rattle.std.specs.Prelude.{Bool, true, false, if◌then◌else◌, List, [], ◌∷◌, Option, Some, None}
use Rattle.std.specs.List.{cons_option}
use Rattle.gsl_words.specs.declared.module.Module.{Module}
use Rattle.gsl_valid.specs.Instruction.{read}
use Rattle.gsl_valid.specs.Kinds.{Kind, Variable, kind, variable_in}
use Rattle.gsl_valid.specs.Placed.{Code}
use Rattle.gsl_valid.specs.Types.{begins}
use Rattle.gsl_machine.specs.Interfaces.{block_variables, holds_block, holds_value, value_variables}

-- one that holds a value, or one of a block
abbrev pub holds : Bool → Variable → Option Variable
holds true = holds_block
holds false = holds_value

abbrev pub holds_if : Bool → Option Variable → Option Variable
holds_if blocks None = None
holds_if blocks (Some v) = holds blocks v

-- with those behind an instruction, where it does not begin a function
abbrev pub holder_before : Bool → Kind → List Variable → List Variable
holder_before blocks k later = if begins k then [] else cons_option (holds_if blocks (variable_in k)) later

-- those before the first function in some code
unfoldable pub holders : Bool → Code → List Variable
holders blocks [] = []
holders blocks (i ∷ code) = holder_before blocks (kind (read i)) (holders blocks code)

abbrev pub goes_on : Bool → List Variable → List Variable
goes_on true later = later
goes_on false later = []

abbrev pub variables_among : Bool → Module → List Variable
variables_among true m = block_variables m
variables_among false m = value_variables m

abbrev pub one_if : Option Variable → List Variable
one_if None = []
one_if (Some v) = v ∷ []
