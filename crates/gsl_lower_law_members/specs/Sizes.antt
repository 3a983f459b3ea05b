-- How many bytes the variable of a block has.
use Rattle.std.specs.Prelude.{ℕ, List, [], length, Option, if◌then◌else◌, unwrap_or}
use Rattle.gsl_base.specs.declared.input.Input.{Input}
use Rattle.gsl_instr.specs.declared.enumerant.decoration.TheConstants as decoration
use Rattle.gsl_words.specs.declared.module.Module.{Module}
use Rattle.gsl_valid.specs.Decorations.{number_on}
use Rattle.gsl_machine.specs.Memory.{bytes_if, is_push}

-- the bytes that are given for it: those of the push constants, or of the buffer at its set and binding
abbrev pub given_to : Module → Input → ℕ → Option (List ℕ)
given_to m input variable =
    if is_push m variable then input.push else bytes_if input.buffers (number_on m decoration.DESCRIPTOR_SET variable) (number_on m decoration.BINDING variable)

-- as many as it has while the module runs
abbrev pub size_of : Module → Input → ℕ → ℕ
size_of m input variable = length (unwrap_or (given_to m input variable) [])
