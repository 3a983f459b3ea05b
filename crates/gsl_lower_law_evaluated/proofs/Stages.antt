-- Built-in variables give their values.
use Rattle.std.proofs.Common.{◌≡◌, ◌≢◌, refl, sym, ap, ◌∙◌, subst, ℕ, zero, suc, false, length, slice_get, Option, Some, None, unwrap_or}
use Rattle.gsl_base.specs.declared.input.Input.{Input}
use Rattle.gsl_instr.specs.declared.enumerant.storage_class.TheConstants as storage_class
use Rattle.gsl_types.specs.Known.{AreStructs, IsSound}
use Rattle.gsl_types.specs.declared.ty.Scalar.TheVariants.{Int, Uint}
use Rattle.gsl_types.specs.declared.ty.Ty.TheVariants.{outs-Vector}
use Rattle.gsl_words.specs.declared.module.Module.{Module}
use Rattle.gsl_values.specs.declared.value.Value.{Value}
use Rattle.gsl_tree.specs.Around.{Around, stage_var_type}
use Rattle.gsl_tree.specs.Shapes.{Shape, shape_kind, shape_of}
use Rattle.gsl_tree.specs.declared.expr.StageVar.{StageVar}
use Rattle.gsl_tree.specs.declared.expr.StageVar.TheVariants.{NumWorkGroups, WorkGroupId, LocalInvocationId, GlobalInvocationId, LocalInvocationIndex, VertexIndex, InstanceIndex}
use Rattle.gsl_tree.specs.declared.program.Program.{Program}
use Rattle.gsl_meaning.specs.Running.{Got, given as shader_given}
use Rattle.gsl_meaning.specs.State as shader
use Rattle.gsl_machine.specs.State.{State}
use Rattle.gsl_spv.specs.Sections.{Sections}
use Rattle.gsl_lower_places.specs.Reached.{whole as whole_of}
use Rattle.gsl_lower_places.specs.declared.reached.Base.TheVariants.{Variable}
use Rattle.gsl_lower_holders.specs.Flow.{Emit, Flow, behind, id_at, ◌>>=◌}
use Rattle.gsl_lower_holders.specs.Flow as flow
use Rattle.gsl_lower_holders.specs.declared.place.FlowPlace.{FlowPlace}
use Rattle.gsl_lower_places.specs.Reading as places
use Rattle.gsl_lower_expr.specs.Parts as Parts
use Rattle.gsl_lower_expr.specs.Parts.{reads, shape_or, stage_number, stage_value}
use Rattle.gsl_lower_follows.specs.Frames.{Frame, Good, Stage, id_if, stage_types, value_if}
use Rattle.gsl_lower_follows.specs.Giving.{Does, GivesValue, GrownTo, HasGiven, none_waits}
use Rattle.gsl_lower_law_names.proofs.Reading.{adds_reads, does_reads}
use Rattle.gsl_lower_law_evaluated.proofs.Facts.{scalar_shape}

stage_shape : (var : StageVar) → (shape : Shape) × (shape_of (stage_var_type var) ≡ Some shape)
stage_shape NumWorkGroups = ((Uint, 3), ap shape_kind (outs-Vector Uint 3))
stage_shape WorkGroupId = ((Uint, 3), ap shape_kind (outs-Vector Uint 3))
stage_shape LocalInvocationId = ((Uint, 3), ap shape_kind (outs-Vector Uint 3))
stage_shape GlobalInvocationId = ((Uint, 3), ap shape_kind (outs-Vector Uint 3))
stage_shape LocalInvocationIndex = ((Uint, 1), scalar_shape Uint)
stage_shape VertexIndex = ((Int, 1), scalar_shape Int)
stage_shape InstanceIndex = ((Int, 1), scalar_shape Int)

stage_type : (var : StageVar) → slice_get stage_types (stage_number var) ≡ Some (stage_var_type var)
stage_type NumWorkGroups = refl
stage_type WorkGroupId = refl
stage_type LocalInvocationId = refl
stage_type GlobalInvocationId = refl
stage_type LocalInvocationIndex = refl
stage_type VertexIndex = refl
stage_type InstanceIndex = refl

id_there : (id : ℕ) → id ≢ 0 → id_if (Some id) ≡ Some id
id_there zero real = absurd (real refl)
id_there (suc before) real = refl

module _ (m : Module) (input : Input) (whole : Sections) (f : Frame m input whole) (p : Program) (around : Around) (var : StageVar) (v : Value) (are : AreStructs p.structs) (sound : IsSound (length p.structs) (stage_var_type var)) (told : slice_get f.stages (stage_number var) ≡ Some (Some v))
    (real : (id : ℕ) → slice_get f.place.stage_vars (stage_number var) ≡ Some id → id ≢ 0) where
  -- the variable is read as others are
  abbrev reading : Emit ℕ
  reading = flow.told (λ place. place.stage_vars) (stage_number var) >>= (λ id. reads p.structs (stage_var_type var) (whole_of (Variable id storage_class.INPUT)))

  read_is : reading ≡ stage_value var (stage_var_type var)
  unfolding reads
  read_is = let s = stage_shape var in
      ap (λ (o : Option Shape). flow.told (λ place. place.stage_vars) (stage_number var) >>= (λ id. Parts.read_by p.structs (stage_var_type var) (whole_of (Variable id storage_class.INPUT)) o)) s.1
      ∙ ap (λ (o : Option Shape). flow.told (λ place. place.stage_vars) (stage_number var) >>= (λ id. flow.lift (places.read (unwrap_or o (Int, 1)) (whole_of (Variable id storage_class.INPUT))))) (sym s.1)

  stage_read : GivesValue m input whole f p around false (stage_var_type var) reading (shader_given v)
  stage_read = record {
    adds = λ b. by_id b (slice_get b.place.stage_vars (stage_number var));
    does = λ b s units state good. by b s units state good (slice_get b.place.stage_vars (stage_number var)) refl;
  }
    where
      by_id : (b : Flow) (o : Option ℕ) → GrownTo b (behind (id_at o b) (λ id. reads p.structs (stage_var_type var) (whole_of (Variable id storage_class.INPUT))))
      by_id b None = tt
      by_id b (Some id) = adds_reads m input whole p.structs (stage_var_type var) id storage_class.INPUT refl b

      by : (b : Flow) (s : shader.State) (units : ℕ) (state : State) → Good m input whole f p around b s state → (o : Option ℕ) → slice_get b.place.stage_vars (stage_number var) ≡ o
          → Does m input whole f p 0 units state (HasGiven m input whole f p around false (stage_var_type var) b state) none_waits (Got v s units) (behind (id_at o b) (λ id. reads p.structs (stage_var_type var) (whole_of (Variable id storage_class.INPUT))))
      by b s units state good None e = tt
      by b s units state good (Some id) e =
          let at : slice_get f.place.stage_vars (stage_number var) ≡ Some id = sym (ap (λ (place : FlowPlace). slice_get place.stage_vars (stage_number var)) good.seated.same) ∙ e in
          let known = f.known (Stage (stage_number var)) id (ap id_if at ∙ id_there id (real id at)) in
          does_reads m input whole f p around id storage_class.INPUT known.0 (Stage (stage_number var)) (stage_var_type var) v units b s state refl are sound good known.2 known.1 (ap value_if told)
          (good.typed.stages (stage_number var) (stage_var_type var) v (stage_type var) (ap value_if told))

  pub stage_gives : GivesValue m input whole f p around false (stage_var_type var) (stage_value var (stage_var_type var)) (shader_given v)
  stage_gives = subst (λ emit. GivesValue m input whole f p around false (stage_var_type var) emit (shader_given v)) read_is stage_read
