-- The built-in variables of a module.
use Rattle.std.proofs.Common.{◌≡◌, sym, ap, ◌∙◌, subst, inl, inr, ◌⊎◌, ℕ, Bool, true, false, List, [], ◌∷◌, ◌++◌, slice_get, Some, None, if◌then◌else◌}
use Rattle.gsl_instr.specs.declared.enumerant.decoration.TheConstants as decoration
use Rattle.gsl_instr.specs.declared.enumerant.storage_class.TheConstants as storage_class
use Rattle.gsl_tree.specs.declared.expr.StageVar.{StageVar}
use Rattle.gsl_tree.specs.declared.expr.StageVar.TheVariants.{NumWorkGroups, WorkGroupId, LocalInvocationId, GlobalInvocationId, LocalInvocationIndex, VertexIndex, InstanceIndex}
use Rattle.gsl_spv.specs.Sections.{Sections}
use Rattle.gsl_lower_values.specs.Building.{◌>>=◌, given}
use Rattle.gsl_lower_values.specs.Types.{type_of}
use Rattle.gsl_lower_needs.specs.declared.need.Need.{Need}
use Rattle.gsl_lower_expr.specs.Parts.{stage_number}
use Rattle.gsl_lower_types.specs.Declaring.{decorated, variable_in}
use Rattle.gsl_lower_types.specs.Interfaces.{built_in_of, built_in_variable, stage_put, stage_shape}
use Rattle.gsl_lower_flow.specs.Programs.{compute_stages, stage_if, stages, uses, vertex_stages}
use Rattle.gsl_lower_law_outside.proofs.Types.{shape_adds}
use Rattle.gsl_lower_law_inputs.proofs.Tells.{AllTell, HasDecoration, HasVariable, adds_tells, decorated_tells, given_tells, tells_so, tells_then, variable_tells}

module _ (whole : Sections) where
  -- The whole has a built-in variable under an id.
  pub record HasStage (var : StageVar) (id : ℕ) : Type 0 where
    pub type : ℕ
    pub variable : HasVariable whole storage_class.INPUT type None id
    pub marked : HasDecoration whole id decoration.BUILT_IN (built_in_of var)

  stage_tells : (var : StageVar) → AllTell whole (stage_put var) (HasStage var)
  unfolding stage_put
  stage_tells var =
      tells_so whole (tells_then whole (type_of (stage_shape var)) (built_in_variable var) (adds_tells whole (type_of (stage_shape var)) (shape_adds (stage_shape var))) (λ type.
      tells_then whole (variable_in storage_class.INPUT type None) (λ id. decorated id None decoration.BUILT_IN (Some (built_in_of var)) >>= (λ done. given id)) (variable_tells whole storage_class.INPUT type None) (λ id.
      tells_then whole (decorated id None decoration.BUILT_IN (Some (built_in_of var))) (λ done. given id) (decorated_tells whole id decoration.BUILT_IN (built_in_of var)) (λ done. given_tells whole id))))
      (λ id b. subst (HasStage var) b.other.other.other (record { type = b.first; variable = b.other.one; marked = b.other.other.one }))

  -- it has it, or there is no id
  abbrev pub MayHaveStage : StageVar → ℕ → Type 0
  MayHaveStage var id = (id ≡ 0) ⊎ HasStage var id

  if_tells : (asked : List Need) (var : StageVar) → AllTell whole (stage_if asked var) (MayHaveStage var)
  unfolding stage_if
  if_tells asked var = by (uses asked var)
    where
      by : (b : Bool) → AllTell whole (if b then stage_put var else given 0) (MayHaveStage var)
      by true = tells_so whole (stage_tells var) (λ id has. inr has)
      by false = tells_so whole (given_tells whole 0) (λ id none. inl (sym none))

  -- Ids of built-in variables by their numbers.
  pub record HaveStages (ids : List ℕ) : Type 0 where
    pub each : (var : StageVar) (id : ℕ) → slice_get ids (stage_number var) ≡ Some id → MayHaveStage var id

  seven : (groups group local global index vertex instance : ℕ) → MayHaveStage NumWorkGroups groups → MayHaveStage WorkGroupId group → MayHaveStage LocalInvocationId local → MayHaveStage GlobalInvocationId global → MayHaveStage LocalInvocationIndex index
      → MayHaveStage VertexIndex vertex → MayHaveStage InstanceIndex instance → HaveStages (groups ∷ group ∷ local ∷ global ∷ index ∷ vertex ∷ instance ∷ [])
  seven groups group local global index vertex instance a b c d e f g = record { each = each }
    where
      same : (var : StageVar) (x id : ℕ) → MayHaveStage var x → Some x ≡ Some id → MayHaveStage var id
      same var x id has is = let e : x ≡ id = cc in subst (MayHaveStage var) e has

      each : (var : StageVar) (id : ℕ) → slice_get (groups ∷ group ∷ local ∷ global ∷ index ∷ vertex ∷ instance ∷ []) (stage_number var) ≡ Some id → MayHaveStage var id
      each NumWorkGroups id is = same NumWorkGroups groups id a is
      each WorkGroupId id is = same WorkGroupId group id b is
      each LocalInvocationId id is = same LocalInvocationId local id c is
      each GlobalInvocationId id is = same GlobalInvocationId global id d is
      each LocalInvocationIndex id is = same LocalInvocationIndex index id e is
      each VertexIndex id is = same VertexIndex vertex id f is
      each InstanceIndex id is = same InstanceIndex instance id g is

  pub stages_tell : (asked : List Need) → AllTell whole (stages asked) HaveStages
  unfolding stages
  stages_tell asked =
      tells_so whole
      (tells_then whole (compute_stages asked) (λ first. vertex_stages asked >>= (λ second. given (first ++ second)))
      (tells_then whole (stage_if asked NumWorkGroups) _ (if_tells asked NumWorkGroups) (λ groups. tells_then whole (stage_if asked WorkGroupId) _ (if_tells asked WorkGroupId) (λ group.
      tells_then whole (stage_if asked LocalInvocationId) _ (if_tells asked LocalInvocationId) (λ local. tells_then whole (stage_if asked GlobalInvocationId) _ (if_tells asked GlobalInvocationId) (λ global.
      tells_then whole (stage_if asked LocalInvocationIndex) _ (if_tells asked LocalInvocationIndex) (λ index. given_tells whole (groups ∷ group ∷ local ∷ global ∷ index ∷ [])))))))
      (λ first. tells_then whole (vertex_stages asked) (λ second. given (first ++ second))
      (tells_then whole (stage_if asked VertexIndex) _ (if_tells asked VertexIndex) (λ vertex. tells_then whole (stage_if asked InstanceIndex) _ (if_tells asked InstanceIndex) (λ instance. given_tells whole (vertex ∷ instance ∷ []))))
      (λ second. given_tells whole (first ++ second))))
      (λ ids x.
      let c = x.one in let v = x.other.one in
      let c1 = c.other in let c2 = c1.other in let c3 = c2.other in let c4 = c3.other in let v1 = v.other in
      subst HaveStages
      (ap (λ l. l ++ (v.first ∷ v1.first ∷ [])) c4.other ∙ ap (λ l. x.first ++ l) v1.other ∙ x.other.other)
      (seven c.first c1.first c2.first c3.first c4.first v.first v1.first c.one c1.one c2.one c3.one c4.one v.one v1.one))
