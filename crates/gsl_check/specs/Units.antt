-- Units: the typed unit that a unit stands for, or its first fault (GLSL 4.50, chapters 3 to 7).
use Rattle.std.specs.Prelude.{List, [], ◌∷◌, Ok}
use Rattle.gsl_base.specs.Checked.{Checked, ◌>>=◌}
use Rattle.gsl_base.specs.declared.stage.Stage.{Stage}
use Rattle.gsl_syntax.specs.declared.declaration.Decl.{Decl}
use Rattle.gsl_syntax.specs.declared.declaration.Decl.TheVariants as decl
use Rattle.gsl_syntax.specs.declared.statement.Global.{Global}
use Rattle.gsl_syntax.specs.declared.statement.Global.TheVariants as global
use Rattle.gsl_tree.specs.declared.unit.Function.{Function}
use Rattle.gsl_tree.specs.declared.unit.TypedUnit.{TypedUnit}
use Rattle.gsl_check_expr.specs.declared.env.Env.{Env}
use Rattle.gsl_qualifiers.specs.Qualifiers.{role_of_variables, role_of_block}
use Rattle.gsl_check_globals.specs.Variables.{Declares}
use Rattle.gsl_check_globals.specs.Globals.{variables, struct_and_variables, alone}
use Rattle.gsl_check_heads.specs.Builtins.{begun_in}
use Rattle.gsl_check_blocks.specs.Blocks.{block}
use Rattle.gsl_check.specs.Functions.{function}

-- ---- each declaration

abbrev pub declared_by : Decl → Declares
declared_by (decl.Variables quals t all) = variables (role_of_variables quals) quals t all
declared_by (decl.Struct quals s all) = struct_and_variables (role_of_variables quals) quals s all
declared_by (decl.Block quals name members instance) = block (role_of_block quals) quals name members instance
declared_by (decl.Quals quals) = alone quals

unfoldable pub declaration : Decl → Declares
declaration = declared_by

-- ---- the unit

-- A unit so far: what is declared, and the functions that have a body.
pub record Progress : Type 0 where
  pub env : Env
  pub functions : List Function

abbrev pub with_functions : List Function × Env → Progress
with_functions done = record { env = done.1; functions = done.0 }

abbrev pub next : Global → Progress → Checked Progress
next (global.Empty place) so_far = Ok so_far
next (global.Decl d) so_far = declaration d so_far.env >>= (λ env. Ok (record so_far { env = env }))
next (global.Function f) so_far = function f so_far.functions so_far.env >>= (λ done. Ok (with_functions done))

abbrev pub all : List Global → Progress → Checked Progress
all [] so_far = Ok so_far
all (one ∷ more) so_far = next one so_far >>= all more

-- Before its first declaration a unit of a stage has the built-in functions and variables.
abbrev pub begun : Stage → Progress
begun stage = record { env = begun_in stage; functions = [] }

-- the typed unit of all that was declared
abbrev pub unit_of : Progress → TypedUnit
unit_of done = record {
  structs = done.env.scene.structs;
  globals = done.env.scene.globals;
  blocks = done.env.scene.blocks;
  interfaces = done.env.scene.interfaces;
  prototypes = done.env.scene.prototypes;
  functions = done.functions;
  local_sizes = done.env.scene.sizes;
}

-- the typed unit behind the rest of its declarations
unfoldable pub finished : List Global → Progress → Checked TypedUnit
finished unit so_far = all unit so_far >>= (λ done. Ok (unit_of done))

-- The typed unit that a unit of a stage stands for, or its first fault.
unfoldable pub checked : Stage → List Global → Checked TypedUnit
checked stage unit = finished unit (begun stage)
