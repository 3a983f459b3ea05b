-- Built-in variables that are asked for have variables, with their values (GLSL 4.50, 7.1).
use Rattle.std.proofs.Common.{◌≡◌, ◌≢◌, refl, sym, ap, ◌∙◌, subst, ℕ, zero, suc, true, List, [], ◌∷◌, map, slice_get, Option, Some}
use Rattle.gsl_base.specs.Ranges.{FitsTypes}
use Rattle.gsl_base.specs.declared.input.Input.{Input}
use Rattle.gsl_types.specs.declared.ty.StructType.{StructType}
use Rattle.gsl_words.specs.declared.module.Module.{Module}
use Rattle.gsl_words.specs.declared.target.Target.{Target}
use Rattle.gsl_values.specs.declared.value.Value.{Value}
use Rattle.gsl_tree.specs.Around.{stage_var_type}
use Rattle.gsl_tree.specs.Values.{is_value_of}
use Rattle.gsl_tree.specs.declared.expr.StageVar.{StageVar}
use Rattle.gsl_tree.specs.declared.expr.StageVar.TheVariants.{NumWorkGroups, WorkGroupId, LocalInvocationId, GlobalInvocationId, LocalInvocationIndex, VertexIndex, InstanceIndex}
use Rattle.gsl_tree.specs.declared.program.Program.{Program}
use Rattle.gsl_meaning.specs.Stages.{stage_value}
use Rattle.gsl_meaning.specs.State.{State}
use Rattle.gsl_spv.specs.Finished.{module_of}
use Rattle.gsl_lower_holders.specs.Flow.{Flow}
use Rattle.gsl_lower_expr.specs.Parts.{stage_number}
use Rattle.gsl_lower_flow.specs.Programs.{program_needs, uses}
use Rattle.gsl_lower_follows.specs.Frames.{Frame, id_if}
use Rattle.gsl_lower_law_entered.specs.Modules.{IsFrame}
use Rattle.gsl_lower_law_program.specs.OfLawEvaluated.{KnowsStage}
use Rattle.gsl_lower_law_buffers.specs.OfLawInputs.{stage_given, stage_vars, stages_given, where_named}
use Rattle.gsl_lower_law_buffers.proofs.OfLawInputs.{stages_typed}
use Rattle.gsl_lower_law_program.specs.Shaders.{stage_of}
use Rattle.gsl_lower_law_program.specs.Standing.{HaveFunctions}

-- each has its place in the row of them
at_number : (A : Type 0) (of : StageVar → A) (var : StageVar) → slice_get (map of stage_vars) (stage_number var) ≡ Some (of var)
at_number A of NumWorkGroups = refl
at_number A of WorkGroupId = refl
at_number A of LocalInvocationId = refl
at_number A of GlobalInvocationId = refl
at_number A of LocalInvocationIndex = refl
at_number A of VertexIndex = refl
at_number A of InstanceIndex = refl

real_id : (id : ℕ) → id ≢ 0 → id_if (Some id) ≡ Some id
real_id zero real = absurd (real refl)
real_id (suc before) real = refl

some : {A : Type 0} (a b : A) → Some a ≡ Some b → a ≡ b
some a b e = cc

-- its value is of its type, where the numbers of the input are in the ranges of their types
pub stage_fits : (structs : List StructType) (input : Input) → FitsTypes input → (size : List ℕ) (s : State) (var : StageVar) → is_value_of structs (stage_var_type var) (stage_value size input var) ≡ true
stage_fits structs input fits size s var = by var
  where
    by : (v : StageVar) → is_value_of structs (stage_var_type v) (stage_value size input v) ≡ true
    by NumWorkGroups = stages_typed structs input fits size (1 ∷ 1 ∷ 1 ∷ 1 ∷ 1 ∷ 1 ∷ 1 ∷ []) s 0 (stage_var_type NumWorkGroups) (stage_value size input NumWorkGroups) refl refl
    by WorkGroupId = stages_typed structs input fits size (1 ∷ 1 ∷ 1 ∷ 1 ∷ 1 ∷ 1 ∷ 1 ∷ []) s 1 (stage_var_type WorkGroupId) (stage_value size input WorkGroupId) refl refl
    by LocalInvocationId = stages_typed structs input fits size (1 ∷ 1 ∷ 1 ∷ 1 ∷ 1 ∷ 1 ∷ 1 ∷ []) s 2 (stage_var_type LocalInvocationId) (stage_value size input LocalInvocationId) refl refl
    by GlobalInvocationId = stages_typed structs input fits size (1 ∷ 1 ∷ 1 ∷ 1 ∷ 1 ∷ 1 ∷ 1 ∷ []) s 3 (stage_var_type GlobalInvocationId) (stage_value size input GlobalInvocationId) refl refl
    by LocalInvocationIndex = stages_typed structs input fits size (1 ∷ 1 ∷ 1 ∷ 1 ∷ 1 ∷ 1 ∷ 1 ∷ []) s 4 (stage_var_type LocalInvocationIndex) (stage_value size input LocalInvocationIndex) refl refl
    by VertexIndex = stages_typed structs input fits size (1 ∷ 1 ∷ 1 ∷ 1 ∷ 1 ∷ 1 ∷ 1 ∷ []) s 5 (stage_var_type VertexIndex) (stage_value size input VertexIndex) refl refl
    by InstanceIndex = stages_typed structs input fits size (1 ∷ 1 ∷ 1 ∷ 1 ∷ 1 ∷ 1 ∷ 1 ∷ []) s 6 (stage_var_type InstanceIndex) (stage_value size input InstanceIndex) refl refl

module _ (target : Target) (p : Program) (main : ℕ) (flow : Flow) (h : HaveFunctions target p main flow) (input : Input) where
  abbrev m : Module
  m = module_of flow.sections main p.local_size

  abbrev given : List (Option Value)
  given = stages_given h.place.stage_vars p.local_size input

  pub stage_known : (f : Frame m input flow.sections) → IsFrame m input flow.sections h.place given f → (var : StageVar) → uses (program_needs p) var ≡ true → KnowsStage m input flow.sections f (stage_of p input) var
  stage_known f of_module var used =
      let id = h.outer.used var used in
      record {
        told =
            ap (λ (stages : List (Option Value)). slice_get stages (stage_number var)) of_module.stages ∙ at_number (Option Value) (stage_given h.place.stage_vars p.local_size input) var
            ∙ ap (λ (o : Option ℕ). Some (where_named (id_if o) (stage_of p input var))) id.1 ∙ ap (λ (o : Option ℕ). Some (where_named o (stage_of p input var))) (real_id id.0 id.2);
        real = λ other is. subst (λ n. n ≢ 0) (some id.0 other (sym id.1 ∙ ap (λ (ids : List ℕ). slice_get ids (stage_number var)) (sym of_module.knows.stages) ∙ is)) id.2;
      }
