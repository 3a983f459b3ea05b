-- V7 as a pass asks it, with the instructions at the front of the module in their order.
use Rattle.std.specs.Prelude.{ℕ, Bool, true, ◌&&◌, ◌||◌, take, Option, Some, None}
use Rattle.std.specs.Option.{option_map_or}
use Rattle.gsl_words.specs.declared.module.Instr.{Instr}
use Rattle.gsl_words.specs.declared.module.Module.{Module}
use Rattle.gsl_valid.specs.Instruction.{read}
use Rattle.gsl_valid.specs.Kinds.{Kind, Variable, Decoration, kind, variable_in, decoration_in}
use Rattle.gsl_valid.specs.Placed.{Code}
use Rattle.gsl_valid.specs.DecorationRules.{decoration_kept, is_decorated}

-- whether a decoration, if there is one, may stand behind the front
abbrev pub decoration_at : Module → Code → Option Decoration → Bool
decoration_at m front d = option_map_or (decoration_kept m front) d true

-- whether a variable, if there is one, has its decorations
abbrev pub variable_at : Module → Code → Bool → Option Variable → Bool
variable_at m front inside None = true
variable_at m front inside (Some v) = inside || is_decorated m front v.type v.id v.class

-- whether an instruction behind the front, in a function or outside, keeps V7
abbrev pub kind_decorated : Module → Code → Bool → Kind → Bool
kind_decorated m front inside k = decoration_at m front (decoration_in k) && variable_at m front inside (variable_in k)

-- the same of the instruction of a number
abbrev pub decorated_at : Module → ℕ → Bool → Instr → Bool
decorated_at m at inside i = kind_decorated m (take at m.instrs) inside (kind (read i))
