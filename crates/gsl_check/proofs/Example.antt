-- Qualifiers and units with what they say or their first fault, so that a wrong definition is seen.
use Rattle.std.proofs.Common.{◌≡◌, refl, ℕ, true, false, List, [], ◌∷◌, Some, None, Ok}
use Rattle.std.specs.Prelude.{codes}
use Rattle.gsl_base.specs.declared.fault.Place.{Place}
use Rattle.gsl_base.specs.declared.fault.Code.TheVariants.{E0701, E0704, E0705}
use Rattle.gsl_base.specs.declared.stage.Stage.{Stage}
use Rattle.gsl_base.specs.declared.stage.Stage.TheVariants.{Vertex, Fragment, Compute}
use Rattle.gsl_syntax.specs.declared.declaration.Lay.{Lay}
use Rattle.gsl_syntax.specs.declared.declaration.Lay.TheVariants as lay
use Rattle.gsl_syntax.specs.declared.declaration.Qual.TheVariants as qual
use Rattle.gsl_syntax.specs.declared.declaration.Decl.TheVariants as decl
use Rattle.gsl_syntax.specs.declared.statement.Global.TheVariants as global
use Rattle.gsl_values.specs.declared.function.Builtin.TheVariants as f
use Rattle.gsl_names.specs.declared.entry.Entry.TheVariants as entry
use Rattle.gsl_names.specs.Scopes.{find}
use Rattle.gsl_typing.specs.Rows.{fault}
use Rattle.gsl_check_expr.specs.declared.env.Env.{Env}
use Rattle.gsl_qualifiers.specs.declared.qualified.Role.TheVariants.{Variable, Input, Buffer, Push, Member, Size, Nothing}
use Rattle.gsl_check_heads.specs.Builtins.{names_function}
use Rattle.gsl_qualifiers.specs.Qualifiers.{role_of_variables, role_of_block, role_alone, qualified, flag, unsaid}
use Rattle.gsl_check_globals.specs.Globals.{alone}
use Rattle.gsl_check.specs.Units.{begun, declaration, finished, checked, unit_of}

-- at a line
abbrev at : ℕ → Place
at line = record { unit = 0; line = line }

abbrev env : Stage → Env
env stage = (begun stage).env

-- a layout name without a value
abbrev said : ℕ → List ℕ → Lay
said line name = lay.Flag (record { place = at line; text = name })

-- Before a unit ---------------------------------------------------------------------------------------------------

built_in_function : find (env Vertex).names (codes "findMSB") ≡ Some (entry.Builtin f.FindMsb)
built_in_function = refl

size_in_compute : find (env Compute).names (codes "gl_WorkGroupSize") ≡ Some entry.Size
size_in_compute = refl

no_size_in_vertex : find (env Vertex).names (codes "gl_WorkGroupSize") ≡ None
no_size_in_vertex = refl

function_name : names_function (codes "mix") ≡ true
unfolding names_function
function_name = refl

-- What is declared ------------------------------------------------------------------------------------------------

input_by_its_first_word : role_of_variables (qual.Flat (at 1) ∷ qual.In (at 2) ∷ qual.Out (at 3) ∷ []) ≡ Input
unfolding role_of_variables
input_by_its_first_word = refl

push_constants : role_of_block (qual.Layout (at 1) (said 1 (codes "push_constant") ∷ []) ∷ qual.Uniform (at 2) ∷ []) ≡ Push
unfolding role_of_block
push_constants = refl

size_of_a_group : role_alone Compute (qual.In (at 1) ∷ []) ≡ Size
unfolding role_alone
size_of_a_group = refl

-- Words -----------------------------------------------------------------------------------------------------------

two_storages : qualified (env Vertex) Input (qual.In (at 1) ∷ qual.Out (at 2) ∷ []) ≡ fault (at 2) E0701
unfolding qualified
two_storages = refl

const_and_in : qualified (env Vertex) Variable (qual.Const (at 1) ∷ qual.In (at 2) ∷ []) ≡ fault (at 2) E0701
unfolding qualified
const_and_in = refl

flat_input_of_a_vertex_shader : qualified (env Vertex) Input (qual.Flat (at 1) ∷ qual.In (at 2) ∷ []) ≡ fault (at 1) E0701
unfolding qualified
flat_input_of_a_vertex_shader = refl

flat_input_of_a_fragment_shader : qualified (env Fragment) Input (qual.Flat (at 1) ∷ qual.In (at 2) ∷ []) ≡ Ok (record unsaid { flat = true; stored = true; within = Some (at 2) })
unfolding qualified
flat_input_of_a_fragment_shader = refl

twice_coherent : qualified (env Compute) Buffer (qual.Coherent (at 1) ∷ qual.Buffer (at 2) ∷ qual.Coherent (at 3) ∷ []) ≡ fault (at 3) E0701
unfolding qualified
twice_coherent = refl

readonly_in_a_uniform_block : qualified (env Compute) (Member false) (qual.Readonly (at 1) ∷ []) ≡ fault (at 1) E0701
unfolding qualified
readonly_in_a_uniform_block = refl

const_function : qualified (env Compute) Nothing (qual.Const (at 1) ∷ []) ≡ fault (at 1) E0701
unfolding qualified
const_function = refl

-- Layout names ------------------------------------------------------------------------------------------------------

last_layout : qualified (env Compute) Buffer (qual.Layout (at 1) (said 1 (codes "std430") ∷ said 1 (codes "std140") ∷ []) ∷ []) ≡ Ok (record unsaid { std140 = Some true })
unfolding qualified flag
last_layout = refl

layout_of_an_input : qualified (env Vertex) Input (qual.Layout (at 1) (said 2 (codes "std140") ∷ []) ∷ []) ≡ fault (at 2) E0704
unfolding qualified flag
layout_of_an_input = refl

location_without_value : qualified (env Vertex) Input (qual.Layout (at 1) (said 2 (codes "location") ∷ []) ∷ []) ≡ fault (at 2) E0705
unfolding qualified flag
location_without_value = refl

binding_of_push_constants : qualified (env Vertex) Push (qual.Layout (at 1) (said 2 (codes "binding") ∷ []) ∷ []) ≡ fault (at 2) E0704
unfolding qualified flag
binding_of_push_constants = refl

push_constants_in_a_buffer : qualified (env Vertex) Buffer (qual.Layout (at 1) (said 2 (codes "push_constant") ∷ []) ∷ []) ≡ fault (at 2) E0704
unfolding qualified flag
push_constants_in_a_buffer = refl

-- Units -----------------------------------------------------------------------------------------------------------

nothing : checked Vertex [] ≡ Ok (unit_of (begun Vertex))
unfolding checked finished
nothing = refl

semicolons : checked Fragment (global.Empty (at 1) ∷ global.Empty (at 2) ∷ []) ≡ Ok (unit_of (begun Fragment))
unfolding checked finished
semicolons = refl

-- `; in; out;` outside of compute shaders
first_fault : checked Vertex (global.Empty (at 1) ∷ global.Decl (decl.Quals (qual.In (at 2) ∷ [])) ∷ global.Decl (decl.Quals (qual.Out (at 3) ∷ [])) ∷ []) ≡ fault (at 2) E0701
unfolding checked finished declaration alone role_alone qualified flag
first_fault = refl
