-- The types of expressions in a program without blocks: `void`, or with no runtime array in them.
use Rattle.std.proofs.Common.{◌≡◌, refl, sym, ap, ◌∙◌, subst, inl, inr, ◌⊎◌, ℕ, Bool, true, false, IsTrue, List, [], ◌∷◌, Some, None, if◌then◌else◌}
use Rattle.std.specs.Prelude.{nat_eq}
use Rattle.std.specs.List.{AllByRecursion}
use Rattle.std.proofs.lemmas.Bool.{false≢true}
use Rattle.gsl_types.specs.Known.{is_plain, is_plain_kind}
use Rattle.gsl_types.specs.declared.ty.Direction.{Direction}
use Rattle.gsl_types.specs.declared.ty.Member.{Member}
use Rattle.gsl_types.specs.declared.ty.Scalar.{Scalar}
use Rattle.gsl_types.specs.declared.ty.Scalar.TheVariants.{Bool as Boolean, Int, Uint}
use Rattle.gsl_types.specs.declared.ty.Ty.{Ty}
use Rattle.gsl_types.specs.declared.ty.Ty.TheFolds.{fold-roll-Ty}
use Rattle.gsl_types.specs.declared.ty.Ty.TheOpen.{Ty-F}
use Rattle.gsl_types.specs.declared.ty.Ty.TheVariants as ty
use Rattle.gsl_types.specs.declared.ty.Ty.TheVariants.{outs-Void, rolls-One, rolls-Vector}
use Rattle.gsl_types.specs.declared.ty.Ty.TheViews.{out-Ty, roll-Ty, roll-out-Ty}
use Rattle.gsl_tree.specs.Around.{Around, block_member, stage_var_type}
use Rattle.gsl_tree.specs.Expressions.{HasType, IsNode, element_kind, is_runtime_layer, last_type}
use Rattle.gsl_tree.specs.Shapes.{Shape, of_shape, shape_kind, shape_of}
use Rattle.gsl_tree.specs.Trees.{Throughout, ThroughoutAll, form_of, parts_of, type_of}
use Rattle.gsl_tree.specs.WellTyped.{IsResult, IsStructDeclared, IsVariableType, around_body, program_lists}
use Rattle.gsl_tree.specs.declared.expr.Expr.{Expr}
use Rattle.gsl_tree.specs.declared.expr.ExprKind.{ExprKind}
use Rattle.gsl_tree.specs.declared.expr.ExprKind.TheOpen.{ExprKind-F}
use Rattle.gsl_tree.specs.declared.expr.StageVar.{StageVar}
use Rattle.gsl_tree.specs.declared.expr.StageVar.TheVariants.{NumWorkGroups, WorkGroupId, LocalInvocationId, GlobalInvocationId, LocalInvocationIndex, VertexIndex, InstanceIndex}
use Rattle.gsl_tree.specs.declared.program.Program.{Program}
use Rattle.gsl_tree.specs.declared.unit.Block.{Block}
use Rattle.gsl_tree.specs.declared.unit.BlockMember.{BlockMember}
use Rattle.gsl_lower_law_program.specs.OfLawEvaluated.{IsTyped}
use Rattle.gsl_lower_law_program.proofs.OfLawEvaluated.{at_place, conversion_of}

-- ---- types

-- A type is `void`, or no runtime array stands in it.
abbrev pub IsWhole : Ty → Type 0
IsWhole t = (t ≡ ty.Void) ⊎ IsTrue (is_plain t)

one_whole : (s : Scalar) → IsWhole (ty.One s)
one_whole s = inr (ap is_plain (sym (rolls-One s)) ∙ fold-roll-Ty Bool is_plain_kind (Ty-F.One s))

vector_whole : (s : Scalar) (n : ℕ) → IsWhole (ty.Vector s n)
vector_whole s n = inr (ap is_plain (sym (rolls-Vector s n)) ∙ fold-roll-Ty Bool is_plain_kind (Ty-F.Vector s n))

shape_whole : (shape : Shape) → IsWhole (of_shape shape)
shape_whole shape = by (nat_eq shape.1 1)
  where
    by : (b : Bool) → IsWhole (if b then ty.One shape.0 else ty.Vector shape.0 shape.1)
    by true = one_whole shape.0
    by false = vector_whole shape.0 shape.1

some : {A : Type 0} (a b : A) → Some a ≡ Some b → a ≡ b
some a b e = cc

shaped_whole : (t : Ty) (shape : Shape) → shape_of t ≡ Some shape → IsWhole t
shaped_whole t shape is = by (out-Ty t) (roll-out-Ty t) is
  where
    by : (layer : Ty-F Ty) → roll-Ty layer ≡ t → shape_kind layer ≡ Some shape → IsWhole t
    by (Ty-F.One s) e is = subst IsWhole e (inr (fold-roll-Ty Bool is_plain_kind (Ty-F.One s)))
    by (Ty-F.Vector s n) e is = subst IsWhole e (inr (fold-roll-Ty Bool is_plain_kind (Ty-F.Vector s n)))
    by Ty-F.Void e is = absurd cc
    by (Ty-F.Array element n) e is = absurd cc
    by (Ty-F.Runtime element) e is = absurd cc
    by (Ty-F.Struct number) e is = absurd cc

element_whole : (base t : Ty) → IsWhole base → element_kind (out-Ty base) ≡ Some t → IsWhole t
element_whole base t (inl void) is = absurd (let e : None ≡ Some t = sym (ap (λ u. element_kind (out-Ty u)) void ∙ ap element_kind outs-Void) ∙ is in cc)
element_whole base t (inr plain) is = by (out-Ty base) (roll-out-Ty base) is
  where
    by : (layer : Ty-F Ty) → roll-Ty layer ≡ base → element_kind layer ≡ Some t → IsWhole t
    by (Ty-F.Vector s n) e is = subst IsWhole (some (ty.One s) t is) (one_whole s)
    by (Ty-F.Array element n) e is = subst IsWhole (some element t is) (inr (sym (fold-roll-Ty Bool is_plain_kind (Ty-F.Array element n)) ∙ ap is_plain e ∙ plain))
    by (Ty-F.Runtime element) e is = absurd (false≢true (sym (fold-roll-Ty Bool is_plain_kind (Ty-F.Runtime element)) ∙ ap is_plain e ∙ plain))
    by Ty-F.Void e is = absurd cc
    by (Ty-F.One s) e is = absurd cc
    by (Ty-F.Struct number) e is = absurd cc

pub whole_read : (t : Ty) → IsWhole t → is_runtime_layer (out-Ty t) ≡ false
whole_read t (inl void) = ap (λ u. is_runtime_layer (out-Ty u)) void ∙ ap is_runtime_layer outs-Void
whole_read t (inr plain) = by (out-Ty t) (roll-out-Ty t)
  where
    by : (layer : Ty-F Ty) → roll-Ty layer ≡ t → is_runtime_layer layer ≡ false
    by (Ty-F.Runtime element) e = absurd (false≢true (sym (fold-roll-Ty Bool is_plain_kind (Ty-F.Runtime element)) ∙ ap is_plain e ∙ plain))
    by Ty-F.Void e = refl
    by (Ty-F.One s) e = refl
    by (Ty-F.Vector s n) e = refl
    by (Ty-F.Array element n) e = refl
    by (Ty-F.Struct number) e = refl

stage_whole : (var : StageVar) → IsWhole (stage_var_type var)
stage_whole NumWorkGroups = vector_whole Uint 3
stage_whole WorkGroupId = vector_whole Uint 3
stage_whole LocalInvocationId = vector_whole Uint 3
stage_whole GlobalInvocationId = vector_whole Uint 3
stage_whole LocalInvocationIndex = one_whole Uint
stage_whole VertexIndex = one_whole Int
stage_whole InstanceIndex = one_whole Int

-- ---- expressions

-- there is no member of a block
pub no_member : (p : Program) → p.blocks ≡ [] → (params : List (Direction × Ty)) (locals : List Ty) (block number : ℕ) (member : BlockMember) → block_member (around_body (program_lists p) params locals) block number ≡ Some member → ⊥
no_member p none params locals block number member is = nothing (sym (ap (λ (blocks : List Block). block_member (record (around_body (program_lists p) params locals) { blocks = blocks }) block number) none) ∙ is)
  where
    nothing : block_member (record (around_body (program_lists p) params locals) { blocks = [] }) block number ≡ Some member → ⊥
    nothing is = let e : None ≡ Some member = is in cc

module _ (p : Program) (none : p.blocks ≡ []) (params : List (Direction × Ty)) (locals : List Ty) (types : IsTyped p params locals) where
  abbrev around : Around
  around = around_body (program_lists p) params locals

  abbrev AreWhole : List Expr → Type 0
  AreWhole = AllByRecursion (λ (e : Expr). IsWhole (type_of e))

  result_whole : (t : Ty) → IsResult p.structs t → IsWhole t
  result_whole t (inl void) = inl void
  result_whole t (inr is) = inr is.plain

  last_whole : (es : List Expr) (t : Ty) → AreWhole es → last_type es ≡ Some t → IsWhole t
  last_whole [] t all is = absurd cc
  last_whole (e ∷ []) t all is = subst IsWhole (some (type_of e) t is) all.0
  last_whole (e ∷ next ∷ es) t all is = last_whole (next ∷ es) t all.1 is

  by_form : (form : ExprKind-F ExprKind Expr) (t : Ty) → HasType around form t → AreWhole (parts_of form) → IsWhole t
  by_form (ExprKind-F.Const v) t (fits, inl (s, e)) all = subst IsWhole (sym e) (one_whole s)
  by_form (ExprKind-F.Const v) t (fits, inr (e, compute, size)) all = subst IsWhole (sym e) (vector_whole Uint 3)
  by_form (ExprKind-F.Local n) t is all = inr (at_place (IsVariableType p.structs) locals n t types.of_locals is).plain
  by_form (ExprKind-F.Global n) t is all = subst IsWhole is.2 (inr (types.program.globals n is.0 is.1).type.plain)
  by_form (ExprKind-F.Param n) t is all = inr (at_place (λ (param : Direction × Ty). IsVariableType p.structs param.1) params n (is.0, t) types.of_params is.1).plain
  by_form (ExprKind-F.BlockMember block n) t is all = absurd (no_member p none params locals block n is.0 is.1)
  by_form (ExprKind-F.Stage var) t is all = subst IsWhole is.1 (stage_whole var)
  by_form (ExprKind-F.Interface n) t is all = let i = at_place _ p.interfaces n is.0 types.program.interfaces is.1 in subst IsWhole is.2 (shaped_whole is.0.ty i.type.0 i.type.1)
  by_form (ExprKind-F.Member a n) t is all =
      let struct = at_place (IsStructDeclared p.structs) p.structs is.0 is.1 types.program.declared is.4 in
      subst IsWhole is.6 (inr (at_place (λ (member : Member). IsVariableType p.structs member.ty) is.1.members n is.2 struct.types is.5).plain)
  by_form (ExprKind-F.Index a i) t is all = element_whole (type_of a) t all.0 is.0
  by_form (ExprKind-F.Swizzle a lanes) t is all = subst IsWhole is.4 (shape_whole (is.0.0, lanes.count))
  by_form (ExprKind-F.Length a) t is all = subst IsWhole (sym is.0) (one_whole Int)
  by_form (ExprKind-F.Unary op a) t is all = subst IsWhole is.4 (shape_whole is.1)
  by_form (ExprKind-F.Binary op a b) t (inl (equality, is)) all = subst IsWhole (sym is.1) (one_whole Boolean)
  by_form (ExprKind-F.Binary op a b) t (inr (x, y, z, first, second, more, gives)) all = subst IsWhole gives (shape_whole z)
  by_form (ExprKind-F.Logic op a b) t is all = subst IsWhole (sym is.2) (one_whole Boolean)
  by_form (ExprKind-F.Choose test a b) t is all = subst IsWhole is.1 all.1.0
  by_form (ExprKind-F.Assign a b) t is all = subst IsWhole is.0 all.0
  by_form (ExprKind-F.Update op a b) t is all = subst IsWhole is.0 all.0
  by_form (ExprKind-F.Step op a) t is all = subst IsWhole is.0 all.0
  by_form (ExprKind-F.Call number args) t is all = subst IsWhole is.2 (result_whole is.0.result (at_place _ p.prototypes number is.0 types.program.prototypes is.1).result)
  by_form (ExprKind-F.Built which args) t is all = subst IsWhole is.4 (shape_whole is.1)
  by_form (ExprKind-F.Build args) t is all = inr is.4
  by_form (ExprKind-F.Convert a) t is all = let c = conversion_of (type_of a) t is.0 is.1 in shaped_whole t c.to c.gives
  by_form (ExprKind-F.Comma items) t is all = last_whole items t all is.1

  mutual
    pub type_whole : (e : Expr) → Throughout (IsNode around) e → IsWhole (type_of e)
    type_whole _ (Throughout.whole e node parts) = by_form (form_of e) (type_of e) node.type (types_whole (parts_of (form_of e)) parts)

    pub types_whole : (es : List Expr) → ThroughoutAll (IsNode around) es → AreWhole es
    types_whole _ ThroughoutAll.none = tt
    types_whole _ (ThroughoutAll.more e es is rest) = (type_whole e is, types_whole es rest)
