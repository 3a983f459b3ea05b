-- The module that a builder gives (SPIR-V 1.0, 2.4).
use Rattle.std.specs.Prelude.{ℕ, ◌+◌, ◌^◌, ◌<◌, List, [], ◌∷◌, ◌++◌, length, codes}
use Rattle.gsl_base.specs.declared.stage.Stage.{Stage}
use Rattle.gsl_base.specs.declared.stage.Stage.TheVariants.{Vertex, Fragment, Compute}
use Rattle.gsl_words.specs.declared.module.Instr.{Instr}
use Rattle.gsl_words.specs.declared.module.Module.{Module}
use Rattle.gsl_words.specs.Versions.{version_of}
use Rattle.gsl_instr.specs.Strings.{string_words}
use Rattle.gsl_instr.specs.declared.op.TheConstants as op
use Rattle.gsl_instr.specs.declared.enumerant.capability.TheConstants as capability
use Rattle.gsl_instr.specs.declared.enumerant.memory_model.TheConstants as memory_model
use Rattle.gsl_instr.specs.declared.enumerant.execution_model.TheConstants as execution_model
use Rattle.gsl_instr.specs.declared.enumerant.execution_mode.TheConstants as execution_mode
use Rattle.gsl_spv.specs.Declarations.{instr}
use Rattle.gsl_spv.specs.Once.{interface_of}
use Rattle.gsl_spv.specs.Sections.{Sections}

abbrev pub capabilities : List Instr
capabilities = instr op.CAPABILITY (capability.SHADER ∷ []) ∷ []

abbrev pub memory_models : List Instr
memory_models = instr op.MEMORY_MODEL (memory_model.LOGICAL ∷ memory_model.GLSL450 ∷ []) ∷ []

abbrev pub model_of : Stage → ℕ
model_of Vertex = execution_model.VERTEX
model_of Fragment = execution_model.FRAGMENT
model_of Compute = execution_model.GL_COMPUTE

-- the entry point `main` of a function, with the ids of the input and output variables
abbrev pub entry_point : Stage → ℕ → List ℕ → Instr
entry_point stage main interface = instr op.ENTRY_POINT (model_of stage ∷ main ∷ string_words (codes "main") ++ interface)

-- the modes that a stage needs (SPIR-V 1.0, 3.6)
abbrev pub modes : Stage → ℕ → List ℕ → List Instr
modes Vertex main local_size = []
modes Fragment main local_size = instr op.EXECUTION_MODE (main ∷ execution_mode.ORIGIN_UPPER_LEFT ∷ []) ∷ []
modes Compute main local_size = instr op.EXECUTION_MODE (main ∷ execution_mode.LOCAL_SIZE ∷ local_size) ∷ []

-- the sections in their order
abbrev pub code_of : Sections → ℕ → List ℕ → List Instr
code_of s main local_size =
    capabilities ++ s.imports ++ memory_models ++ entry_point s.stage main (interface_of s.globals) ∷ []
    ++ modes s.stage main local_size ++ s.names ++ s.decorations ++ s.globals ++ s.functions

abbrev pub module_of : Sections → ℕ → List ℕ → Module
module_of s main local_size = record { version = version_of s.target; bound = s.last + 1; instrs = code_of s main local_size }

-- Each section has fewer than 2^32 instructions.
pub record AreFew (s : Sections) : Type 0 where
  pub names : length s.names < 2 ^ 32
  pub decorations : length s.decorations < 2 ^ 32
  pub globals : length s.globals < 2 ^ 32
  pub functions : length s.functions < 2 ^ 32
