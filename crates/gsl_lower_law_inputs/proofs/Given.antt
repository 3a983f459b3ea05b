-- The values that an input gives are of the types of the variables.
use Rattle.std.proofs.Common.{◌≡◌, refl, subst, ℕ, zero, suc, ◌%◌, ◌<◌, ◌^◌, true, List, [], ◌∷◌, slice_get, Option, Some, None, arith}
use Rattle.std.proofs.lemmas.Nat.{mod_below}
use Rattle.gsl_base.specs.Ranges.{AreThreeWords, AreWords, FitsTypes}
use Rattle.gsl_base.specs.declared.input.Input.{Input}
use Rattle.gsl_types.specs.declared.ty.Scalar.TheVariants.{Int, Uint}
use Rattle.gsl_types.specs.declared.ty.StructType.{StructType}
use Rattle.gsl_types.specs.declared.ty.Ty.{Ty}
use Rattle.gsl_values.specs.declared.value.Value.{Value}
use Rattle.gsl_tree.specs.Around.{stage_var_type}
use Rattle.gsl_tree.specs.Values.{is_value_of}
use Rattle.gsl_tree.specs.declared.expr.StageVar.{StageVar}
use Rattle.gsl_tree.specs.declared.expr.StageVar.TheVariants.{NumWorkGroups, WorkGroupId, LocalInvocationId, GlobalInvocationId, LocalInvocationIndex, VertexIndex, InstanceIndex}
use Rattle.gsl_inputs.specs.Given.{global_part, vector_of}
use Rattle.gsl_meaning.specs.Stages.{stage_value}
use Rattle.gsl_meaning.specs.State.{State}
use Rattle.gsl_typed_law.proofs.Bounds.{integer_fits}
use Rattle.gsl_typed_law.proofs.Components.{AllFit, scalar_typed, vector_typed}
use Rattle.gsl_lower_expr.specs.Parts.{stage_number}
use Rattle.gsl_lower_follows.specs.Frames.{Stage, id_if, stage_types, value_of}
use Rattle.gsl_lower_law_inputs.specs.Beginning.{stage_given, stages_given, where_named}

-- a rest is a word
rest_below : (n : ℕ) → n % 2 ^ 32 < 2 ^ 32
rest_below n = mod_below n (2 ^ 32) (omega arith)

words_fit : (words : List ℕ) → AreWords words → AllFit Uint words
words_fit [] are = tt
words_fit (word ∷ words) are = (integer_fits Uint word refl are.0, words_fit words are.1)

module _ (structs : List StructType) (input : Input) (fits : FitsTypes input) (size : List ℕ) where
  three : (words : List ℕ) → AreThreeWords words → is_value_of structs (stage_var_type NumWorkGroups) (vector_of words) ≡ true
  three words are = vector_typed structs Uint 3 words (are.0, words_fit words are.1)

  stage_typed : (var : StageVar) → is_value_of structs (stage_var_type var) (stage_value size input var) ≡ true
  stage_typed NumWorkGroups = three input.groups fits.groups
  stage_typed WorkGroupId = three input.group fits.group
  stage_typed LocalInvocationId = three input.local fits.local
  stage_typed GlobalInvocationId = three (global_part size input 0 ∷ global_part size input 1 ∷ global_part size input 2 ∷ []) (refl, (rest_below _, (rest_below _, (rest_below _, tt))))
  stage_typed LocalInvocationIndex = scalar_typed structs Uint _ (integer_fits Uint _ refl (rest_below _))
  stage_typed VertexIndex = scalar_typed structs Int input.vertex (integer_fits Int input.vertex refl fits.vertex)
  stage_typed InstanceIndex = scalar_typed structs Int input.instance (integer_fits Int input.instance refl fits.instance)

  module _ (ids : List ℕ) where
    of_var : (var : StageVar) (t : Ty) (v : Value) → Some (stage_var_type var) ≡ Some t → stage_given ids size input var ≡ Some v → is_value_of structs t v ≡ true
    of_var var t v type is =
        let same_type : stage_var_type var ≡ t = cc in
        subst (λ u. is_value_of structs u v ≡ true) same_type (by (id_if (slice_get ids (stage_number var))) is)
      where
        by : (o : Option ℕ) → where_named o (stage_value size input var) ≡ Some v → is_value_of structs (stage_var_type var) v ≡ true
        by None is = absurd (cc)
        by (Some id) is = let same : stage_value size input var ≡ v = cc in subst (λ w. is_value_of structs (stage_var_type var) w ≡ true) same (stage_typed var)

    pub stages_typed : (s : State) (number : ℕ) (t : Ty) (v : Value) → slice_get stage_types number ≡ Some t → value_of (stages_given ids size input) s (Stage number) ≡ Some v → is_value_of structs t v ≡ true
    stages_typed s zero t v type is = of_var NumWorkGroups t v type is
    stages_typed s (suc zero) t v type is = of_var WorkGroupId t v type is
    stages_typed s (suc (suc zero)) t v type is = of_var LocalInvocationId t v type is
    stages_typed s (suc (suc (suc zero))) t v type is = of_var GlobalInvocationId t v type is
    stages_typed s (suc (suc (suc (suc zero)))) t v type is = of_var LocalInvocationIndex t v type is
    stages_typed s (suc (suc (suc (suc (suc zero))))) t v type is = of_var VertexIndex t v type is
    stages_typed s (suc (suc (suc (suc (suc (suc zero)))))) t v type is = of_var InstanceIndex t v type is
    stages_typed s (suc (suc (suc (suc (suc (suc (suc number))))))) t v type is = absurd (cc)
