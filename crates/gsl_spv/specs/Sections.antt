-- What a builder holds: the sections of a module (SPIR-V 1.0, 2.4).
use Rattle.std.specs.Prelude.{ℕ, Bool, false, List, []}
use Rattle.gsl_base.specs.declared.stage.Stage.{Stage}
use Rattle.gsl_words.specs.declared.target.Target.{Target}
use Rattle.gsl_words.specs.declared.module.Instr.{Instr}

-- The instructions of each section in their order, the last id that was given, and whether memory was wanting.
pub record Sections : Type 0 where
  pub stage : Stage
  pub target : Target
  pub imports : List Instr
  pub names : List Instr
  pub decorations : List Instr
  pub globals : List Instr
  pub functions : List Instr
  pub last : ℕ
  pub wanting : Bool

abbrev pub empty : Stage → Target → Sections
empty stage target = record { stage = stage; target = target; imports = []; names = []; decorations = []; globals = []; functions = []; last = 0; wanting = false }
