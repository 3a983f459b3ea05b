-- The kind of a type with new numbers is that of the type.
use Rattle.std.proofs.Common.{◌≡◌, refl, sym, ap, ◌∙◌, subst, ℕ, Bool, true, false, IsTrue, List, Some, inl, inr}
use Rattle.std.specs.Prelude.{nat_eq, option_map, if◌then◌else◌}
use Rattle.std.proofs.lemmas.Bool.{true≢false}
use Rattle.gsl_types.specs.Conversions.{converts, converts_open}
use Rattle.gsl_types.specs.declared.ty.Scalar.{Scalar}
use Rattle.gsl_types.specs.declared.ty.Scalar.TheVariants.{Bool as Boolean, Int, Uint}
use Rattle.gsl_types.specs.declared.ty.Ty.{Ty}
use Rattle.gsl_types.specs.declared.ty.Ty.TheOpen.{Ty-F}
use Rattle.gsl_types.specs.declared.ty.Ty.TheVariants as ty
use Rattle.gsl_types.specs.declared.ty.Ty.TheVariants.{outs-Void, outs-One, outs-Vector, outs-Array, outs-Runtime, outs-Struct, rolls-One, rolls-Vector}
use Rattle.gsl_types.specs.declared.ty.Ty.TheViews.{out-Ty, roll-Ty, roll-out-Ty, out-roll-Ty}
use Rattle.gsl_types.specs.declared.ty.Ty.TheFolds.{fold-roll-Ty, map-Ty}
use Rattle.gsl_tree.specs.declared.expr.StageVar.{StageVar}
use Rattle.gsl_tree.specs.declared.expr.StageVar.TheVariants.{NumWorkGroups, WorkGroupId, LocalInvocationId, GlobalInvocationId, LocalInvocationIndex, VertexIndex, InstanceIndex}
use Rattle.gsl_tree.specs.Operations.{build_kind, length_of, length_kind, has_fixed_length, is_fixed_kind, is_signed, is_signed_kind}
use Rattle.gsl_tree.specs.Shapes.{Shape, shape_of, shape_kind, of_shape}
use Rattle.gsl_tree.specs.Around.{stage_var_type}
use Rattle.gsl_tree.specs.Paths.{is_aggregate, is_aggregate_kind}
use Rattle.gsl_tree.specs.Expressions.{IsIndex, element_of, element_kind, is_value_type, is_value_layer, is_in_range_kind, has_length_kind, is_runtime_layer}
use Rattle.gsl_link_units.specs.Types.{new_number, retyped, retyped_layer}
use Rattle.gsl_link_units.proofs.Folds as at

module _ (numbers : List ℕ) where
  abbrev new : Ty → Ty
  new = retyped numbers

  -- one layer with new numbers
  abbrev pub new_layer : Ty-F Ty → Ty-F Ty
  new_layer Ty-F.Void = Ty-F.Void
  new_layer (Ty-F.One s) = Ty-F.One s
  new_layer (Ty-F.Vector s n) = Ty-F.Vector s n
  new_layer (Ty-F.Array element n) = Ty-F.Array (retyped numbers element) n
  new_layer (Ty-F.Runtime element) = Ty-F.Runtime (retyped numbers element)
  new_layer (Ty-F.Struct number) = Ty-F.Struct (new_number numbers number)

  opened : (x : Ty-F Ty) → out-Ty (retyped_layer numbers (map-Ty _ _ new x)) ≡ new_layer x
  opened Ty-F.Void = outs-Void
  opened (Ty-F.One s) = outs-One s
  opened (Ty-F.Vector s n) = outs-Vector s n
  opened (Ty-F.Array e n) = outs-Array (new e) n
  opened (Ty-F.Runtime e) = outs-Runtime (new e)
  opened (Ty-F.Struct k) = outs-Struct (new_number numbers k)

  pub out_retyped : (t : Ty) → out-Ty (retyped numbers t) ≡ new_layer (out-Ty t)
  out_retyped t = ap (λ u. out-Ty (new u)) (sym (roll-out-Ty t)) ∙ ap out-Ty (fold-roll-Ty Ty (retyped_layer numbers) (out-Ty t)) ∙ opened (out-Ty t)

  -- what does not look below a layer, nor at numbers, says the same
  says : {A : Type 0} (f : Ty-F Ty → A) → ((x : Ty-F Ty) → f (new_layer x) ≡ f x) → (t : Ty) → f (out-Ty (retyped numbers t)) ≡ f (out-Ty t)
  says f same t = ap f (out_retyped t) ∙ same (out-Ty t)

  shape_same : (x : Ty-F Ty) → shape_kind (new_layer x) ≡ shape_kind x
  shape_same Ty-F.Void = refl
  shape_same (Ty-F.One s) = refl
  shape_same (Ty-F.Vector s n) = refl
  shape_same (Ty-F.Array e n) = refl
  shape_same (Ty-F.Runtime e) = refl
  shape_same (Ty-F.Struct k) = refl

  pub new_shape : (t : Ty) → shape_of (retyped numbers t) ≡ shape_of t
  new_shape = says shape_kind shape_same

  aggregate_same : (x : Ty-F Ty) → is_aggregate_kind (new_layer x) ≡ is_aggregate_kind x
  aggregate_same Ty-F.Void = refl
  aggregate_same (Ty-F.One s) = refl
  aggregate_same (Ty-F.Vector s n) = refl
  aggregate_same (Ty-F.Array e n) = refl
  aggregate_same (Ty-F.Runtime e) = refl
  aggregate_same (Ty-F.Struct k) = refl

  pub new_aggregate : (t : Ty) → is_aggregate (retyped numbers t) ≡ is_aggregate t
  new_aggregate = says is_aggregate_kind aggregate_same

  value_same : (x : Ty-F Ty) → is_value_layer (new_layer x) ≡ is_value_layer x
  value_same Ty-F.Void = refl
  value_same (Ty-F.One s) = refl
  value_same (Ty-F.Vector s n) = refl
  value_same (Ty-F.Array e n) = refl
  value_same (Ty-F.Runtime e) = refl
  value_same (Ty-F.Struct k) = refl

  pub new_value_type : (t : Ty) → is_value_type (retyped numbers t) ≡ is_value_type t
  new_value_type = says is_value_layer value_same

  runtime_same : (x : Ty-F Ty) → is_runtime_layer (new_layer x) ≡ is_runtime_layer x
  runtime_same Ty-F.Void = refl
  runtime_same (Ty-F.One s) = refl
  runtime_same (Ty-F.Vector s n) = refl
  runtime_same (Ty-F.Array e n) = refl
  runtime_same (Ty-F.Runtime e) = refl
  runtime_same (Ty-F.Struct k) = refl

  pub new_runtime : (t : Ty) → is_runtime_layer (out-Ty (retyped numbers t)) ≡ is_runtime_layer (out-Ty t)
  new_runtime = says is_runtime_layer runtime_same

  length_same : (x : Ty-F Ty) → has_length_kind (new_layer x) ≡ has_length_kind x
  length_same Ty-F.Void = refl
  length_same (Ty-F.One s) = refl
  length_same (Ty-F.Vector s n) = refl
  length_same (Ty-F.Array e n) = refl
  length_same (Ty-F.Runtime e) = refl
  length_same (Ty-F.Struct k) = refl

  pub new_has_length : (t : Ty) → has_length_kind (out-Ty (retyped numbers t)) ≡ has_length_kind (out-Ty t)
  new_has_length = says has_length_kind length_same

  count_same : (x : Ty-F Ty) → length_kind (new_layer x) ≡ length_kind x
  count_same Ty-F.Void = refl
  count_same (Ty-F.One s) = refl
  count_same (Ty-F.Vector s n) = refl
  count_same (Ty-F.Array e n) = refl
  count_same (Ty-F.Runtime e) = refl
  count_same (Ty-F.Struct k) = refl

  pub new_length : (t : Ty) → length_of (retyped numbers t) ≡ length_of t
  new_length = says length_kind count_same

  fixed_same : (x : Ty-F Ty) → is_fixed_kind (new_layer x) ≡ is_fixed_kind x
  fixed_same Ty-F.Void = refl
  fixed_same (Ty-F.One s) = refl
  fixed_same (Ty-F.Vector s n) = refl
  fixed_same (Ty-F.Array e n) = refl
  fixed_same (Ty-F.Runtime e) = refl
  fixed_same (Ty-F.Struct k) = refl

  pub new_fixed : (t : Ty) → has_fixed_length (retyped numbers t) ≡ has_fixed_length t
  new_fixed = says is_fixed_kind fixed_same

  signed_same : (x : Ty-F Ty) → is_signed_kind (new_layer x) ≡ is_signed_kind x
  signed_same Ty-F.Void = refl
  signed_same (Ty-F.One s) = refl
  signed_same (Ty-F.Vector s n) = refl
  signed_same (Ty-F.Array e n) = refl
  signed_same (Ty-F.Runtime e) = refl
  signed_same (Ty-F.Struct k) = refl

  pub new_signed : (t : Ty) → is_signed (retyped numbers t) ≡ is_signed t
  new_signed = says is_signed_kind signed_same

  build_same : (x : Ty-F Ty) → build_kind (new_layer x) ≡ build_kind x
  build_same Ty-F.Void = refl
  build_same (Ty-F.One s) = refl
  build_same (Ty-F.Vector s n) = refl
  build_same (Ty-F.Array e n) = refl
  build_same (Ty-F.Runtime e) = refl
  build_same (Ty-F.Struct k) = refl

  pub new_build : (t : Ty) → build_kind (out-Ty (retyped numbers t)) ≡ build_kind (out-Ty t)
  new_build = says build_kind build_same

  range_same : (x y : Ty-F Ty) (word : ℕ) → is_in_range_kind (new_layer x) (new_layer y) word ≡ is_in_range_kind x y word
  range_same Ty-F.Void y word = refl
  range_same (Ty-F.One s) y word = refl
  range_same (Ty-F.Vector s n) y word = refl
  range_same (Ty-F.Array e n) y word = refl
  range_same (Ty-F.Struct k) y word = refl
  range_same (Ty-F.Runtime e) Ty-F.Void word = refl
  range_same (Ty-F.Runtime e) (Ty-F.One Boolean) word = refl
  range_same (Ty-F.Runtime e) (Ty-F.One Int) word = refl
  range_same (Ty-F.Runtime e) (Ty-F.One Uint) word = refl
  range_same (Ty-F.Runtime e) (Ty-F.Vector s n) word = refl
  range_same (Ty-F.Runtime e) (Ty-F.Array f n) word = refl
  range_same (Ty-F.Runtime e) (Ty-F.Runtime f) word = refl
  range_same (Ty-F.Runtime e) (Ty-F.Struct k) word = refl

  pub new_range : (base i : Ty) (word : ℕ) → is_in_range_kind (out-Ty (retyped numbers base)) (out-Ty (retyped numbers i)) word ≡ is_in_range_kind (out-Ty base) (out-Ty i) word
  new_range base i word =
      ap (λ x. is_in_range_kind x (out-Ty (new i)) word) (out_retyped base) ∙ ap (λ y. is_in_range_kind (new_layer (out-Ty base)) y word) (out_retyped i)
      ∙ range_same (out-Ty base) (out-Ty i) word

  converts_same : (x y : Ty-F Ty) → converts_open (new_layer x) (new_layer y) ≡ converts_open x y
  converts_same Ty-F.Void y = refl
  converts_same (Ty-F.Array e n) y = refl
  converts_same (Ty-F.Runtime e) y = refl
  converts_same (Ty-F.Struct k) y = refl
  converts_same (Ty-F.One s) Ty-F.Void = refl
  converts_same (Ty-F.One s) (Ty-F.One t) = refl
  converts_same (Ty-F.One s) (Ty-F.Vector t n) = refl
  converts_same (Ty-F.One s) (Ty-F.Array f n) = refl
  converts_same (Ty-F.One s) (Ty-F.Runtime f) = refl
  converts_same (Ty-F.One s) (Ty-F.Struct k) = refl
  converts_same (Ty-F.Vector s m) Ty-F.Void = refl
  converts_same (Ty-F.Vector s m) (Ty-F.One t) = refl
  converts_same (Ty-F.Vector s m) (Ty-F.Vector t n) = refl
  converts_same (Ty-F.Vector s m) (Ty-F.Array f n) = refl
  converts_same (Ty-F.Vector s m) (Ty-F.Runtime f) = refl
  converts_same (Ty-F.Vector s m) (Ty-F.Struct k) = refl

  pub new_converts : (a b : Ty) → converts (retyped numbers a) (retyped numbers b) ≡ converts a b
  new_converts a b = ap (λ x. converts_open x (out-Ty (new b))) (out_retyped a) ∙ ap (converts_open (new_layer (out-Ty a))) (out_retyped b) ∙ converts_same (out-Ty a) (out-Ty b)

  -- ---- types without numbers

  pub new_void : retyped numbers ty.Void ≡ ty.Void
  new_void = at.at-Void Ty (retyped_layer numbers)

  pub new_one : (s : Scalar) → retyped numbers (ty.One s) ≡ ty.One s
  new_one s = at.at-One Ty (retyped_layer numbers) s

  pub new_vector : (s : Scalar) (n : ℕ) → retyped numbers (ty.Vector s n) ≡ ty.Vector s n
  new_vector s n = at.at-Vector Ty (retyped_layer numbers) s n

  pub new_struct : (k : ℕ) → retyped numbers (ty.Struct k) ≡ ty.Struct (new_number numbers k)
  new_struct k = at.at-Struct Ty (retyped_layer numbers) k

  pub new_of_shape : (x : Shape) → retyped numbers (of_shape x) ≡ of_shape x
  new_of_shape x = by_test (nat_eq x.1 1)
    where
      by_test : (b : Bool) → retyped numbers (if b then ty.One x.0 else ty.Vector x.0 x.1) ≡ (if b then ty.One x.0 else ty.Vector x.0 x.1)
      by_test true = new_one x.0
      by_test false = new_vector x.0 x.1

  pub new_stage_type : (var : StageVar) → retyped numbers (stage_var_type var) ≡ stage_var_type var
  new_stage_type NumWorkGroups = new_vector Uint 3
  new_stage_type WorkGroupId = new_vector Uint 3
  new_stage_type LocalInvocationId = new_vector Uint 3
  new_stage_type GlobalInvocationId = new_vector Uint 3
  new_stage_type LocalInvocationIndex = new_one Uint
  new_stage_type VertexIndex = new_one Int
  new_stage_type InstanceIndex = new_one Int

  pub new_index : (t : Ty) → IsIndex t → IsIndex (retyped numbers t)
  new_index t (inl is) = inl (ap new is ∙ new_one Int)
  new_index t (inr is) = inr (ap new is ∙ new_one Uint)

  element_same : (x : Ty-F Ty) → element_kind (new_layer x) ≡ option_map new (element_kind x)
  element_same Ty-F.Void = refl
  element_same (Ty-F.One s) = refl
  element_same (Ty-F.Vector s n) = ap Some (sym (new_one s))
  element_same (Ty-F.Array e n) = refl
  element_same (Ty-F.Runtime e) = refl
  element_same (Ty-F.Struct k) = refl

  pub new_element : (t : Ty) → element_of (retyped numbers t) ≡ option_map (retyped numbers) (element_of t)
  new_element t = ap element_kind (out_retyped t) ∙ element_same (out-Ty t)

  -- what converts has no numbers
  flat : (x : Ty-F Ty) → new_layer x ≡ x → new (roll-Ty x) ≡ roll-Ty x
  flat x is = sym (roll-out-Ty (new (roll-Ty x))) ∙ ap roll-Ty (out_retyped (roll-Ty x)) ∙ ap roll-Ty (layers x is)
    where
      layers : (y : Ty-F Ty) → new_layer y ≡ y → new_layer (out-Ty (roll-Ty y)) ≡ y
      layers y same = ap new_layer (out-roll-Ty y) ∙ same

  converts_flat : (x y : Ty-F Ty) → IsTrue (converts_open x y) → (new_layer x ≡ x) × (new_layer y ≡ y)
  converts_flat (Ty-F.One s) (Ty-F.One t) is = (refl, refl)
  converts_flat (Ty-F.Vector s n) (Ty-F.Vector t m) is = (refl, refl)
  converts_flat _ _ is = let never : ⊥ = true≢false (sym is) in elim never [ ]

  stays : (t : Ty) → new_layer (out-Ty t) ≡ out-Ty t → new t ≡ t
  stays t is = subst (λ u. new u ≡ u) (roll-out-Ty t) (flat (out-Ty t) is)

  pub convert_stays : (a b : Ty) → IsTrue (converts a b) → (retyped numbers a ≡ a) × (retyped numbers b ≡ b)
  convert_stays a b is =
      let both = converts_flat (out-Ty a) (out-Ty b) is in
      (stays a both.0, stays b both.1)
