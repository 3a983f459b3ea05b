-- Which variables of a module are asked for: those of blocks, and inputs (SPIR-V 1.0, 3.7).
use Rattle.std.specs.Prelude.{ℕ, Bool, ◌==◌, ◌||◌}
use Rattle.gsl_instr.specs.declared.enumerant.storage_class.TheConstants as storage_class
use Rattle.gsl_valid.specs.Types.{is_block_class}

-- whether a class is one of variables that an input gives something to
abbrev pub is_asked : ℕ → Bool
is_asked class = is_block_class class || class == storage_class.INPUT
