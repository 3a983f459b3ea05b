-- What is declared outside the global scope of a unit: built-in functions, and the built-in variables of the stage (GLSL 4.50, 7.1, 8.3, 8.7 and 8.8).
use Rattle.std.specs.Prelude.{ℕ, Bool, true, false, List, [], ◌∷◌, ◌++◌, codes, Option, Some, None, if◌then◌else◌}
use Rattle.std.specs.Str.{bytes_eq}
use Rattle.gsl_base.specs.declared.stage.Stage.{Stage}
use Rattle.gsl_base.specs.declared.stage.Stage.TheVariants.{Vertex, Fragment, Compute}
use Rattle.gsl_values.specs.declared.function.Builtin.TheVariants as f
use Rattle.gsl_tree.specs.declared.expr.StageVar.TheVariants as var
use Rattle.gsl_names.specs.declared.entry.Entry.{Entry}
use Rattle.gsl_names.specs.declared.entry.Entry.TheVariants as entry
use Rattle.gsl_names.specs.Scopes.{Scope, Scopes, all_in, declare, first_of}
use Rattle.gsl_check_expr.specs.declared.env.Env.{Env}

-- the built-in functions
abbrev pub functions : Scope
functions =
    (codes "abs", entry.Builtin f.Abs) ∷ (codes "sign", entry.Builtin f.Sign) ∷ (codes "min", entry.Builtin f.Min) ∷ (codes "max", entry.Builtin f.Max)
    ∷ (codes "clamp", entry.Builtin f.Clamp) ∷ (codes "mix", entry.Builtin f.Mix) ∷ (codes "lessThan", entry.Builtin f.LessThan)
    ∷ (codes "lessThanEqual", entry.Builtin f.LessThanEqual) ∷ (codes "greaterThan", entry.Builtin f.GreaterThan)
    ∷ (codes "greaterThanEqual", entry.Builtin f.GreaterThanEqual) ∷ (codes "equal", entry.Builtin f.Equal) ∷ (codes "notEqual", entry.Builtin f.NotEqual)
    ∷ (codes "any", entry.Builtin f.Any) ∷ (codes "all", entry.Builtin f.All) ∷ (codes "not", entry.Builtin f.Not) ∷ (codes "bitCount", entry.Builtin f.BitCount)
    ∷ (codes "findLSB", entry.Builtin f.FindLsb) ∷ (codes "findMSB", entry.Builtin f.FindMsb) ∷ (codes "bitfieldReverse", entry.Builtin f.BitfieldReverse)
    ∷ (codes "bitfieldExtract", entry.Builtin f.BitfieldExtract) ∷ (codes "bitfieldInsert", entry.Builtin f.BitfieldInsert) ∷ []

-- the built-in variables of a stage
abbrev pub variables : Stage → Scope
variables Vertex = (codes "gl_VertexIndex", entry.Stage var.VertexIndex) ∷ (codes "gl_InstanceIndex", entry.Stage var.InstanceIndex) ∷ []
variables Fragment = []
variables Compute =
    (codes "gl_NumWorkGroups", entry.Stage var.NumWorkGroups) ∷ (codes "gl_WorkGroupID", entry.Stage var.WorkGroupId)
    ∷ (codes "gl_LocalInvocationID", entry.Stage var.LocalInvocationId) ∷ (codes "gl_GlobalInvocationID", entry.Stage var.GlobalInvocationId)
    ∷ (codes "gl_LocalInvocationIndex", entry.Stage var.LocalInvocationIndex) ∷ (codes "gl_WorkGroupSize", entry.Size) ∷ []

-- what is declared outside the global scope of a unit of a stage
abbrev pub built_in : Stage → Scope
built_in stage = functions ++ variables stage

-- whether a name is that of a built-in function
abbrev pub is_function : Option Entry → Bool
is_function None = false
is_function (Some found) = true

unfoldable pub names_function : List ℕ → Bool
names_function name = is_function (first_of (all_in functions name))

-- one of these is the name
abbrev pub among : List (List ℕ) → List ℕ → Bool
among [] name = false
among (one ∷ more) name = if bytes_eq one name then true else among more name

-- names that are declared, the first one last
abbrev pub named : Scope → Scopes → Scopes
named [] names = names
named (row ∷ rows) names = declare row.0 row.1 (named rows names)

-- In what the first declaration of a unit of a stage is checked: the built-in functions and variables are declared.
abbrev pub begun_in : Stage → Env
begun_in stage = record {
  names = [] ∷ built_in stage ∷ [];
  scene = record {
    stage = stage;
    structs = [];
    globals = [];
    blocks = [];
    interfaces = [];
    prototypes = [];
    sizes = [];
    params = [];
    locals = [];
    consts = record { locals = []; globals = [] };
  };
  heights = [];
}
