-- What is given to the variables outside functions as a shader begins (GLSL 4.50, 4.3 and 7.1; SPIR-V 1.0, 3.21).
use Rattle.std.specs.Prelude.{◌≡◌, ℕ, true, List, [], ◌∷◌, map, slice_get, Option, Some, None, Ok}
use Rattle.gsl_base.specs.declared.input.Input.{Input}
use Rattle.gsl_values.specs.declared.value.Value.{Value}
use Rattle.gsl_tree.specs.declared.expr.StageVar.{StageVar}
use Rattle.gsl_tree.specs.declared.expr.StageVar.TheVariants.{NumWorkGroups, WorkGroupId, LocalInvocationId, GlobalInvocationId, LocalInvocationIndex, VertexIndex, InstanceIndex}
use Rattle.gsl_tree.specs.Values.{is_value_of}
use Rattle.gsl_tree.specs.declared.program.Program.{Program}
use Rattle.gsl_tree.specs.declared.unit.GlobalVar.{GlobalVar}
use Rattle.gsl_meaning.specs.Fits.{fits}
use Rattle.gsl_meaning.specs.Stages.{stage_value}
use Rattle.gsl_lower_expr.specs.Parts.{stage_number}
use Rattle.gsl_lower_follows.specs.Frames.{id_if}

-- the built-in variables, in the order of their numbers
abbrev pub stage_vars : List StageVar
stage_vars = NumWorkGroups ∷ WorkGroupId ∷ LocalInvocationId ∷ GlobalInvocationId ∷ LocalInvocationIndex ∷ VertexIndex ∷ InstanceIndex ∷ []

-- the value of a variable, where it has an id
abbrev pub where_named : Option ℕ → Value → Option Value
where_named None v = None
where_named (Some id) v = Some v

-- What the input gives to a built-in variable, by the size of a work group and the ids of the variables: to one that is not used, nothing.
abbrev pub stage_given : List ℕ → List ℕ → Input → StageVar → Option Value
stage_given ids size input var = where_named (id_if (slice_get ids (stage_number var))) (stage_value size input var)

-- what it gives to each, by their numbers
abbrev pub stages_given : List ℕ → List ℕ → Input → List (Option Value)
stages_given ids size input = map (stage_given ids size input) stage_vars

-- The initialiser of each global variable has a value of its type.
abbrev pub AreInitialised : Program → Type 0
AreInitialised p = (number : ℕ) (g : GlobalVar) (v : Value) → slice_get p.globals number ≡ Some g → g.value ≡ Some v → is_value_of p.structs g.ty v ≡ true

-- The input fits the program.
abbrev pub IsFitting : Program → Input → Type 0
IsFitting p input = fits p input ≡ Ok tt
