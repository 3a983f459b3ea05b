-- Where ids may be used, by the numbers of the instructions that define them.
use Rattle.std.specs.Prelude.{ℕ, Bool, ◌||◌, not, if◌then◌else◌}
use Rattle.gsl_words.specs.declared.module.Module.{Module}
use Rattle.gsl_valid.specs.LocalityRules.{of_block, of_function}
use Rattle.gsl_valid.specs.Types.{defined_as}
use Rattle.gsl_ids.specs.Table.{is_defined_from}

-- whether an id may be used by the instruction of a number, in a function or not, where the function and the block begin with these
abbrev pub near_by : Module → Bool → ℕ → ℕ → ℕ → ℕ → Bool
near_by m inside body block at id =
    if of_block (defined_as m id) then is_defined_from m block at id
    else (not (of_function (defined_as m id)) || not inside || is_defined_from m body at id)
