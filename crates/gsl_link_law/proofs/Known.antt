-- The types of well typed expressions are types over the structs, where they may name one.
use Rattle.std.proofs.Common.{◌≡◌, refl, sym, ap, ◌∙◌, subst, ℕ, ◌≤◌, ◌⊎◌, inl, inr, Bool, true, false, IsTrue, List, [], ◌∷◌, length, slice_get, Option, Some, None, unwrap_or, arith, nat_lt, ◌^◌}
use Rattle.std.specs.Prelude.{nat_eq, nat_le, if◌then◌else◌, ◌&&◌}
use Rattle.std.specs.List.{AllByRecursion}
use Rattle.std.proofs.lemmas.Bool.{and_parts, true≢false}
use Rattle.std.proofs.lemmas.Option.{none-some, slice_get_within}
use Rattle.gsl_types.specs.Conversions.{converts, converts_open}
use Rattle.gsl_types.specs.Known.{AreStructs, IsSound, sound, sound_kind}
use Rattle.gsl_types.specs.declared.ty.Member.{Member}
use Rattle.gsl_types.specs.declared.ty.Scalar.{Scalar}
use Rattle.gsl_types.specs.declared.ty.Scalar.TheVariants.{Bool as Boolean, Int, Uint}
use Rattle.gsl_types.specs.declared.ty.StructType.{StructType}
use Rattle.gsl_types.specs.declared.ty.Ty.{Ty}
use Rattle.gsl_types.specs.declared.ty.Ty.TheOpen.{Ty-F}
use Rattle.gsl_types.specs.declared.ty.Ty.TheVariants as ty
use Rattle.gsl_types.specs.declared.ty.Ty.TheVariants.{outs-Void, outs-One, outs-Vector}
use Rattle.gsl_types.specs.declared.ty.Ty.TheFolds.{fold-roll-Ty}
use Rattle.gsl_types.specs.declared.ty.Ty.TheViews.{out-Ty, roll-Ty, roll-out-Ty}
use Rattle.gsl_types.proofs.Layers.{sound_stays}
use Rattle.gsl_types.proofs.Structs.{member_sound}
use Rattle.gsl_tree.specs.declared.expr.Expr.{Expr}
use Rattle.gsl_tree.specs.declared.expr.ExprKind.{ExprKind}
use Rattle.gsl_tree.specs.declared.expr.ExprKind.TheOpen.{ExprKind-F}
use Rattle.gsl_tree.specs.declared.expr.StageVar.{StageVar}
use Rattle.gsl_tree.specs.declared.expr.StageVar.TheVariants.{NumWorkGroups, WorkGroupId, LocalInvocationId, GlobalInvocationId, LocalInvocationIndex, VertexIndex, InstanceIndex}
use Rattle.gsl_tree.specs.declared.unit.Block.{Block}
use Rattle.gsl_tree.specs.declared.unit.BlockMember.{BlockMember}
use Rattle.gsl_tree.specs.Shapes.{Shape, shape_of, shape_kind, of_shape}
use Rattle.gsl_tree.specs.Around.{Around, member_in, stage_var_type}
use Rattle.gsl_tree.specs.Trees.{type_of, form_of, parts_of, Throughout, ThroughoutAll}
use Rattle.gsl_tree.specs.Expressions.{IsExpr, IsNode, HasType, last_type, element_of, element_kind}
use Rattle.gsl_tree.specs.WellTyped.{IsResult}
use Rattle.gsl_link_law.specs.Renumbered.{HasTypes}

-- a type without a part that could name a struct
abbrev pub is_flat_layer : Ty-F Ty → Bool
is_flat_layer Ty-F.Void = true
is_flat_layer (Ty-F.One s) = true
is_flat_layer (Ty-F.Vector s n) = true
is_flat_layer (Ty-F.Array e n) = false
is_flat_layer (Ty-F.Runtime e) = false
is_flat_layer (Ty-F.Struct k) = false

abbrev pub IsFlat : Ty → Type 0
IsFlat t = IsTrue (is_flat_layer (out-Ty t))

-- a type that names no struct, or structs that are there
abbrev pub IsKnown : ℕ → Ty → Type 0
IsKnown count t = IsFlat t ⊎ IsSound count t

pub flat_one : (s : Scalar) → IsFlat (ty.One s)
flat_one s = ap is_flat_layer (outs-One s)

pub flat_vector : (s : Scalar) (n : ℕ) → IsFlat (ty.Vector s n)
flat_vector s n = ap is_flat_layer (outs-Vector s n)

flat_void : IsFlat ty.Void
flat_void = ap is_flat_layer outs-Void

flat_of_shape : (x : Shape) → IsFlat (of_shape x)
flat_of_shape x = by_test (nat_eq x.1 1)
  where
    by_test : (b : Bool) → IsFlat (if b then ty.One x.0 else ty.Vector x.0 x.1)
    by_test true = flat_one x.0
    by_test false = flat_vector x.0 x.1

flat_shaped : (t : Ty) (x : Shape) → shape_of t ≡ Some x → IsFlat t
flat_shaped t x is = by_layer (out-Ty t) is
  where
    by_layer : (y : Ty-F Ty) → shape_kind y ≡ Some x → IsTrue (is_flat_layer y)
    by_layer Ty-F.Void e = refl
    by_layer (Ty-F.One s) e = refl
    by_layer (Ty-F.Vector s n) e = refl
    by_layer (Ty-F.Array u n) e = elim (none-some x e) [ ]
    by_layer (Ty-F.Runtime u) e = elim (none-some x e) [ ]
    by_layer (Ty-F.Struct k) e = elim (none-some x e) [ ]

flat_stage : (var : StageVar) → IsFlat (stage_var_type var)
flat_stage NumWorkGroups = flat_vector Uint 3
flat_stage WorkGroupId = flat_vector Uint 3
flat_stage LocalInvocationId = flat_vector Uint 3
flat_stage GlobalInvocationId = flat_vector Uint 3
flat_stage LocalInvocationIndex = flat_one Uint
flat_stage VertexIndex = flat_one Int
flat_stage InstanceIndex = flat_one Int

flat_converted : (a b : Ty) → IsTrue (converts a b) → IsFlat b
flat_converted a b is = by_layers (out-Ty a) (out-Ty b) is
  where
    by_layers : (x y : Ty-F Ty) → IsTrue (converts_open x y) → IsTrue (is_flat_layer y)
    by_layers (Ty-F.One s) (Ty-F.One t) e = refl
    by_layers (Ty-F.Vector s n) (Ty-F.Vector t m) e = refl
    by_layers _ _ e = let never : ⊥ = true≢false (sym e) in elim never [ ]

module _ (count : ℕ) where
  -- what an index into a known type gives
  element_known : (t u : Ty) → element_of t ≡ Some u → IsKnown count t → IsKnown count u
  element_known t u is (inl flat) = inl (by_layer (out-Ty t) is flat)
    where
      by_layer : (x : Ty-F Ty) → element_kind x ≡ Some u → IsTrue (is_flat_layer x) → IsFlat u
      by_layer Ty-F.Void e f = elim (none-some u e) [ ]
      by_layer (Ty-F.One s) e f = elim (none-some u e) [ ]
      by_layer (Ty-F.Vector s n) e f = subst IsFlat (ap (λ o. unwrap_or o u) e) (flat_one s)
      by_layer (Ty-F.Array v n) e f = let never : ⊥ = true≢false (sym f) in elim never [ ]
      by_layer (Ty-F.Runtime v) e f = let never : ⊥ = true≢false (sym f) in elim never [ ]
      by_layer (Ty-F.Struct k) e f = let never : ⊥ = true≢false (sym f) in elim never [ ]
  element_known t u is (inr known) = by_layer (out-Ty t) is (subst (IsSound count) (sym (roll-out-Ty t)) known)
    where
      by_layer : (x : Ty-F Ty) → element_kind x ≡ Some u → IsSound count (roll-Ty x) → IsKnown count u
      by_layer Ty-F.Void e s = elim (none-some u e) [ ]
      by_layer (Ty-F.One c) e s = elim (none-some u e) [ ]
      by_layer (Ty-F.Vector c n) e s = inl (subst IsFlat (ap (λ o. unwrap_or o u) e) (flat_one c))
      by_layer (Ty-F.Array v n) e s =
          let is : IsTrue ((nat_le 1 n && nat_lt n (2 ^ 32)) && sound count v) = sym (fold-roll-Ty Bool (sound_kind count) (Ty-F.Array v n)) ∙ s in
          inr (subst (IsSound count) (ap (λ o. unwrap_or o u) e) (and_parts _ _ is).1)
      by_layer (Ty-F.Runtime v) e s = inr (subst (IsSound count) (ap (λ o. unwrap_or o u) e) (sym (fold-roll-Ty Bool (sound_kind count) (Ty-F.Runtime v)) ∙ s))
      by_layer (Ty-F.Struct k) e s = elim (none-some u e) [ ]

module _ (around : Around) (known : AreStructs around.structs) (fine : HasTypes around) where
  abbrev here : ℕ
  here = length around.structs

  abbrev Known : Expr → Type 0
  Known e = IsKnown here (type_of e)

  result_known : (t : Ty) → IsResult around.structs t → IsKnown here t
  result_known t (inl is) = inl (subst IsFlat (sym is) flat_void)
  result_known t (inr is) = inr is.known

  last_known : (items : List Expr) (t : Ty) → AllByRecursion Known items → last_type items ≡ Some t → IsKnown here t
  last_known [] t all is = elim (none-some t is) [ ]
  last_known (e ∷ []) t all is = subst (IsKnown here) (ap (λ o. unwrap_or o t) is) all.0
  last_known (e ∷ next ∷ items) t all is = last_known (next ∷ items) t all.1 is

  block_member_known : (n : ℕ) (m : BlockMember) (b : ℕ) (o : Option Block) → slice_get around.blocks b ≡ o → member_in o n ≡ Some m → IsSound here m.ty
  block_member_known n m b None at is = elim (none-some m is) [ ]
  block_member_known n m b (Some block) at is = fine.blocks b block at n m is

  struct_member_known : (n : ℕ) (s : StructType) (k : ℕ) (m : Member) → slice_get around.structs n ≡ Some s → slice_get s.members k ≡ Some m → IsSound here m.ty
  struct_member_known n s k m at is =
      let below = slice_get_within around.structs n s at in
      sound_stays n here (let le : n ≤ here = omega (arith, below) in le) m.ty (member_sound n s.members (known n s at).earlier k m is)

  has_known : (form : ExprKind-F ExprKind Expr) (t : Ty) → AllByRecursion Known (parts_of form) → HasType around form t → IsKnown here t
  has_known (ExprKind-F.Const v) t all (value, inl (s, is)) = inl (subst IsFlat (sym is) (flat_one s))
  has_known (ExprKind-F.Const v) t all (value, inr is) = inl (subst IsFlat (sym is.0) (flat_vector Uint 3))
  has_known (ExprKind-F.Local n) t all is = inr (fine.locals n t is)
  has_known (ExprKind-F.Global n) t all is = inr (subst (IsSound here) is.2 (fine.globals n is.0 is.1))
  has_known (ExprKind-F.Param n) t all is = inr (fine.params n (is.0, t) is.1)
  has_known (ExprKind-F.BlockMember b n) t all is = inr (subst (IsSound here) is.2 (block_member_known n is.0 b (slice_get around.blocks b) refl is.1))
  has_known (ExprKind-F.Stage var) t all is = inl (subst IsFlat is.1 (flat_stage var))
  has_known (ExprKind-F.Interface n) t all is = inr (subst (IsSound here) is.2 (fine.interfaces n is.0 is.1))
  has_known (ExprKind-F.Member a n) t all is = inr (subst (IsSound here) is.6 (struct_member_known is.0 is.1 n is.2 is.4 is.5))
  has_known (ExprKind-F.Index a i) t all is = element_known here (type_of a) t is.0 all.0
  has_known (ExprKind-F.Swizzle a lanes) t all is = inl (subst IsFlat is.4 (flat_of_shape (is.0.0, lanes.count)))
  has_known (ExprKind-F.Length a) t all is = inl (subst IsFlat (sym is.0) (flat_one Int))
  has_known (ExprKind-F.Unary op a) t all is = inl (subst IsFlat is.4 (flat_of_shape is.1))
  has_known (ExprKind-F.Binary op a b) t all (inl is) = inl (subst IsFlat (sym is.1.1) (flat_one Boolean))
  has_known (ExprKind-F.Binary op a b) t all (inr is) = inl (subst IsFlat is.6 (flat_of_shape is.2))
  has_known (ExprKind-F.Logic op a b) t all is = inl (subst IsFlat (sym is.2) (flat_one Boolean))
  has_known (ExprKind-F.Choose test a b) t all is = subst (IsKnown here) is.1 all.1.0
  has_known (ExprKind-F.Assign a b) t all is = subst (IsKnown here) is.0 all.0
  has_known (ExprKind-F.Update op a b) t all is = subst (IsKnown here) is.0 all.0
  has_known (ExprKind-F.Step op a) t all is = inl (flat_shaped t is.1.0 is.1.1)
  has_known (ExprKind-F.Call n args) t all is = subst (IsKnown here) is.2 (result_known is.0.result (fine.prototypes n is.0 is.1))
  has_known (ExprKind-F.Built which args) t all is = inl (subst IsFlat is.4 (flat_of_shape is.1))
  has_known (ExprKind-F.Build args) t all is = inr is.2
  has_known (ExprKind-F.Convert a) t all is = inl (flat_converted (type_of a) t is.0)
  has_known (ExprKind-F.Comma items) t all is = last_known items t all is.1

  mutual
    pub type_known : (e : Expr) → IsExpr around e → Known e
    type_known _ (Throughout.whole e node parts) = has_known (form_of e) (type_of e) (types_known (parts_of (form_of e)) parts) node.type

    pub types_known : (es : List Expr) → ThroughoutAll (IsNode around) es → AllByRecursion Known es
    types_known _ ThroughoutAll.none = tt
    types_known _ (ThroughoutAll.more e es is rest) = (type_known e is, types_known es rest)
