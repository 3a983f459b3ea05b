-- Arrays in the types of well typed expressions have as many elements as a word counts, and constant expressions have words alone.
use Rattle.std.proofs.Common.{◌≡◌, refl, sym, ap, ◌∙◌, subst, ℕ, zero, suc, ◌^◌, ◌≤◌, ◌<◌, List, [], ◌∷◌, length, replicate, slice_get, slice_index_or, Option, Some, None, unwrap_or, Bool, IsTrue, nat_le, nat_lt, inl, inr, arith, if◌then◌else◌, ◌&&◌}
use Rattle.std.specs.List.{AllByRecursion}
use Rattle.std.proofs.lemmas.Bool.{and_parts, and_from, ltb-true, lt-ltb, leb-true}
use Rattle.std.proofs.lemmas.Option.{none-some}
use Rattle.gsl_types.specs.Conversions.{converts, converts_open}
use Rattle.gsl_types.specs.Known.{IsSound, sound, sound_kind}
use Rattle.gsl_types.specs.declared.ty.Direction.{Direction}
use Rattle.gsl_types.specs.declared.ty.Member.{Member}
use Rattle.gsl_types.specs.declared.ty.Scalar.{Scalar}
use Rattle.gsl_types.specs.declared.ty.Scalar.TheVariants.{Bool as Boolean, Int, Uint}
use Rattle.gsl_types.specs.declared.ty.StructType.{StructType}
use Rattle.gsl_types.specs.declared.ty.Ty.{Ty}
use Rattle.gsl_types.specs.declared.ty.Ty.TheOpen.{Ty-F}
use Rattle.gsl_types.specs.declared.ty.Ty.TheFolds.{fold-roll-Ty}
use Rattle.gsl_types.specs.declared.ty.Ty.TheViews.{out-Ty, roll-Ty, roll-out-Ty}
use Rattle.gsl_types.specs.declared.ty.Ty.TheVariants as ty
use Rattle.gsl_types.specs.declared.ty.Ty.TheVariants.{rolls-Void, rolls-One, rolls-Vector}
use Rattle.gsl_values.specs.declared.value.Value.{Value}
use Rattle.gsl_values.specs.declared.value.Value.TheOpen.{Value-F}
use Rattle.gsl_values.specs.declared.value.Value.TheViews.{out-Value, roll-Value, roll-out-Value}
use Rattle.gsl_values.specs.declared.value.Value.TheVariants.{rolls-Word, rolls-Many}
use Rattle.gsl_overload.proofs.Same.{no_more}
use Rattle.gsl_tree.specs.declared.expr.Expr.{Expr}
use Rattle.gsl_tree.specs.declared.expr.ExprKind.{ExprKind}
use Rattle.gsl_tree.specs.declared.expr.ExprKind.TheOpen.{ExprKind-F}
use Rattle.gsl_tree.specs.declared.expr.StageVar.{StageVar}
use Rattle.gsl_tree.specs.declared.expr.StageVar.TheVariants.{NumWorkGroups, WorkGroupId, LocalInvocationId, GlobalInvocationId, LocalInvocationIndex, VertexIndex, InstanceIndex}
use Rattle.gsl_tree.specs.declared.folded.Folded.{Folded}
use Rattle.gsl_tree.specs.declared.folded.Folded.TheVariants.{NotConstant}
use Rattle.gsl_tree.specs.declared.unit.Block.{Block}
use Rattle.gsl_tree.specs.declared.unit.BlockMember.{BlockMember}
use Rattle.gsl_tree.specs.declared.unit.GlobalVar.{GlobalVar}
use Rattle.gsl_tree.specs.declared.unit.Interface.{Interface}
use Rattle.gsl_tree.specs.declared.unit.Prototype.{Prototype}
use Rattle.gsl_tree.specs.Around.{Around, stage_var_type, member_in}
use Rattle.gsl_tree.specs.Constants.{constant_of}
use Rattle.gsl_tree.specs.Expressions.{IsExpr, IsNode, HasType, IsConst, IsBuildKind, most_parts, types_of, element_kind, element_of, last_type}
use Rattle.gsl_tree.specs.Operations.{length_kind}
use Rattle.gsl_tree.specs.Shapes.{Shape, of_shape}
use Rattle.gsl_tree.specs.Trees.{type_of, form_of, parts_of, Throughout, ThroughoutAll}
use Rattle.gsl_tree.specs.Values.{is_value_of, is_word_of, is_scalar, is_scalar_layer, has_parts_layer, all_pass}
use Rattle.gsl_tree.proofs.Nodes.{value_of_one, value_of_vector}
use Rattle.gsl_typing.specs.declared.scene.Scene.{Scene}
use Rattle.gsl_typing.specs.Scene.{around}
use Rattle.gsl_check_law.specs.Scenes.{IsScene}
use Rattle.gsl_check_law.specs.Small.{counted_layer, is_counted, IsCounted, IsSmall, IsSmallFolded, IsCountedScene}
use Rattle.gsl_check_law.proofs.Found.{at_place}
use Rattle.gsl_check_law.proofs.Growing.{parts_all, type_here}
use Rattle.gsl_check_law.proofs.Knowns.{LeafSmall, known_small}
use Rattle.gsl_check_law.proofs.Smalls.{AllSmall, word_small, many_small}
use Rattle.gsl_check_law.proofs.Sounds.{type_sound}

-- ---- types by their layers

counted_at : (layer : Ty-F Ty) (t : Ty) → roll-Ty layer ≡ t → is_counted t ≡ is_counted (roll-Ty layer)
counted_at layer t at = ap is_counted (sym at)

pub void_counted : IsCounted ty.Void
void_counted = ap is_counted (sym rolls-Void) ∙ fold-roll-Ty Bool counted_layer Ty-F.Void

pub one_counted : (s : Scalar) → IsCounted (ty.One s)
one_counted s = ap is_counted (sym (rolls-One s)) ∙ fold-roll-Ty Bool counted_layer (Ty-F.One s)

pub vector_counted : (s : Scalar) (n : ℕ) → IsCounted (ty.Vector s n)
vector_counted s n = ap is_counted (sym (rolls-Vector s n)) ∙ fold-roll-Ty Bool counted_layer (Ty-F.Vector s n)

by_one : (b : Bool) (s : Scalar) (n : ℕ) → IsCounted (if b then ty.One s else ty.Vector s n)
by_one Bool.true s n = one_counted s
by_one Bool.false s n = vector_counted s n

pub shape_counted : (x : Shape) → IsCounted (of_shape x)
shape_counted x = by_one _ x.0 x.1

element_by : (layer : Ty-F Ty) (t : Ty) → element_kind layer ≡ Some t → IsCounted (roll-Ty layer) → IsCounted t
element_by Ty-F.Void t is known = elim (none-some t is) [ ]
element_by (Ty-F.One s) t is known = elim (none-some t is) [ ]
element_by (Ty-F.Vector s n) t is known = subst IsCounted (ap (λ o. unwrap_or o t) is) (one_counted s)
element_by (Ty-F.Array e n) t is known = subst IsCounted (ap (λ o. unwrap_or o t) is) (and_parts (nat_lt n (2 ^ 32)) (is_counted e) (sym (fold-roll-Ty Bool counted_layer (Ty-F.Array e n)) ∙ known)).1
element_by (Ty-F.Runtime e) t is known = subst IsCounted (ap (λ o. unwrap_or o t) is) (sym (fold-roll-Ty Bool counted_layer (Ty-F.Runtime e)) ∙ known)
element_by (Ty-F.Struct n) t is known = elim (none-some t is) [ ]

element_counted : (a t : Ty) → element_of a ≡ Some t → IsCounted a → IsCounted t
element_counted a t is known = element_by (out-Ty a) t is (ap is_counted (roll-out-Ty a) ∙ known)

converts_by : (x y : Ty-F Ty) → IsTrue (converts_open x y) → IsCounted (roll-Ty y)
converts_by (Ty-F.One s) (Ty-F.One t) is = fold-roll-Ty Bool counted_layer (Ty-F.One t)
converts_by (Ty-F.Vector s n) (Ty-F.Vector t m) is = fold-roll-Ty Bool counted_layer (Ty-F.Vector t m)
converts_by _ _ is = no_more is

converts_counted : (a b : Ty) → IsTrue (converts a b) → IsCounted b
converts_counted a b is = subst IsCounted (roll-out-Ty b) (converts_by (out-Ty a) (out-Ty b) is)

stage_counted : (var : StageVar) → IsCounted (stage_var_type var)
stage_counted NumWorkGroups = vector_counted Uint 3
stage_counted WorkGroupId = vector_counted Uint 3
stage_counted LocalInvocationId = vector_counted Uint 3
stage_counted GlobalInvocationId = vector_counted Uint 3
stage_counted LocalInvocationIndex = one_counted Uint
stage_counted VertexIndex = one_counted Int
stage_counted InstanceIndex = one_counted Int

-- as many arguments as elements
types_count : (es : List Expr) → length (types_of es) ≡ length es
types_count [] = refl
types_count (e ∷ es) = let rest = types_count es in omega (arith, rest)

repeated_count : (n : ℕ) (t : Ty) → length (replicate n t) ≡ n
repeated_count zero t = refl
repeated_count (suc n) t = let rest = repeated_count n t in omega (arith, rest)

abbrev first_type : Ty → List Ty → Ty
first_type d [] = d
first_type d (t ∷ ts) = t

element_of_args : (e : Ty) (n : ℕ) (args : List Expr) → 1 ≤ n → types_of args ≡ replicate n e → AllByRecursion (λ (a : Expr). IsCounted (type_of a)) args → IsCounted e
element_of_args e zero args some are all = let no : ⊥ = omega (arith, some) in elim no [ ]
element_of_args e (suc n) [] some are all = let no : ⊥ = cc in elim no [ ]
element_of_args e (suc n) (a ∷ args) some are all = subst IsCounted (ap (first_type e) are) all.0

module _ (scene : Scene) (fine : IsScene scene) (counted : IsCountedScene scene) where
  abbrev here : Around
  here = around scene

  abbrev Counted : Expr → Type 0
  Counted e = IsCounted (type_of e)

  build_counted : (layer : Ty-F Ty) (t : Ty) (args : List Expr) → roll-Ty layer ≡ t → IsBuildKind here layer args → length args ≤ most_parts → IsSound (length scene.structs) t → AllByRecursion Counted args → IsCounted t
  build_counted Ty-F.Void t args at is few known all = elim is [ ]
  build_counted (Ty-F.One s) t args at is few known all = counted_at (Ty-F.One s) t at ∙ fold-roll-Ty Bool counted_layer (Ty-F.One s)
  build_counted (Ty-F.Vector s n) t args at is few known all = counted_at (Ty-F.Vector s n) t at ∙ fold-roll-Ty Bool counted_layer (Ty-F.Vector s n)
  build_counted (Ty-F.Array e n) t args at is few known all =
      let sounds = and_parts (nat_le 1 n && nat_lt n (2 ^ 32)) (sound (length scene.structs) e) (sym (fold-roll-Ty Bool (sound_kind (length scene.structs)) (Ty-F.Array e n)) ∙ ap (sound (length scene.structs)) at ∙ known) in
      let many : length args ≡ n = sym (types_count args) ∙ ap (λ (l : List Ty). length l) is ∙ repeated_count n e in
      counted_at (Ty-F.Array e n) t at ∙ fold-roll-Ty Bool counted_layer (Ty-F.Array e n)
      ∙ and_from (nat_lt n (2 ^ 32)) (is_counted e) (lt-ltb n (2 ^ 32) (omega (arith, many, few))) (element_of_args e n args (leb-true 1 n (and_parts (nat_le 1 n) (nat_lt n (2 ^ 32)) sounds.0).0) is all)
  build_counted (Ty-F.Runtime e) t args at is few known all = elim is [ ]
  build_counted (Ty-F.Struct k) t args at is few known all = counted_at (Ty-F.Struct k) t at ∙ fold-roll-Ty Bool counted_layer (Ty-F.Struct k)

  last_counted : (items : List Expr) (t : Ty) → AllByRecursion Counted items → last_type items ≡ Some t → IsCounted t
  last_counted [] t all is = elim (none-some t is) [ ]
  last_counted (e ∷ []) t all is = subst IsCounted (ap (λ o. unwrap_or o t) is) all.0
  last_counted (e ∷ next ∷ items) t all is = last_counted (next ∷ items) t all.1 is

  member_counted : (n : ℕ) (m : BlockMember) (block : ℕ) (o : Option Block) → slice_get scene.blocks block ≡ o → member_in o n ≡ Some m → IsCounted m.ty
  member_counted n m block None at is = let no : ⊥ = cc in elim no [ ]
  member_counted n m block (Some b) at is =
      at_place (λ (m : BlockMember). IsCounted m.ty) b.members n m (at_place (λ (b : Block). AllByRecursion (λ (m : BlockMember). IsCounted m.ty) b.members) scene.blocks block b counted.blocks at) is

  has_counted : (form : ExprKind-F ExprKind Expr) (t : Ty) → AllByRecursion Counted (parts_of form) → HasType here form t → IsCounted t
  has_counted (ExprKind-F.Const v) t all (value, inl (s, is)) = subst IsCounted (sym is) (one_counted s)
  has_counted (ExprKind-F.Const v) t all (value, inr is) = subst IsCounted (sym is.0) (vector_counted Uint 3)
  has_counted (ExprKind-F.Local n) t all is = at_place IsCounted scene.locals n t counted.locals is
  has_counted (ExprKind-F.Global n) t all is = subst IsCounted is.2 (at_place (λ (g : GlobalVar). IsCounted g.ty) scene.globals n is.0 counted.globals is.1)
  has_counted (ExprKind-F.Param n) t all is = at_place (λ (param : Direction × Ty). IsCounted param.1) scene.params n (is.0, t) counted.params is.1
  has_counted (ExprKind-F.BlockMember b n) t all is = subst IsCounted is.2 (member_counted n is.0 b (slice_get scene.blocks b) refl is.1)
  has_counted (ExprKind-F.Stage var) t all is = subst IsCounted is.1 (stage_counted var)
  has_counted (ExprKind-F.Interface n) t all is = subst IsCounted is.2 (at_place (λ (i : Interface). IsCounted i.ty) scene.interfaces n is.0 counted.interfaces is.1)
  has_counted (ExprKind-F.Member a n) t all is =
      let members = at_place (λ (s : StructType). AllByRecursion (λ (m : Member). IsCounted m.ty) s.members) scene.structs is.0 is.1 counted.structs is.4 in
      subst IsCounted is.6 (at_place (λ (m : Member). IsCounted m.ty) is.1.members n is.2 members is.5)
  has_counted (ExprKind-F.Index a i) t all is = element_counted (type_of a) t is.0 all.0
  has_counted (ExprKind-F.Swizzle a lanes) t all is = subst IsCounted is.4 (shape_counted (is.0.0, lanes.count))
  has_counted (ExprKind-F.Length a) t all is = subst IsCounted (sym is.0) (one_counted Int)
  has_counted (ExprKind-F.Unary o a) t all is = subst IsCounted is.4 (shape_counted is.1)
  has_counted (ExprKind-F.Binary o a b) t all (inl (equals, is)) = subst IsCounted (sym is.1) (one_counted Boolean)
  has_counted (ExprKind-F.Binary o a b) t all (inr is) = subst IsCounted is.6 (shape_counted is.2)
  has_counted (ExprKind-F.Logic o a b) t all is = subst IsCounted (sym is.2) (one_counted Boolean)
  has_counted (ExprKind-F.Choose test a b) t all is = subst IsCounted is.1 all.1.0
  has_counted (ExprKind-F.Assign a b) t all is = subst IsCounted is.0 all.0
  has_counted (ExprKind-F.Update o a b) t all is = subst IsCounted is.0 all.0
  has_counted (ExprKind-F.Step o a) t all is = subst IsCounted is.0 all.0
  has_counted (ExprKind-F.Call n args) t all is = subst IsCounted is.2 (at_place (λ (p : Prototype). IsCounted p.result) scene.prototypes n is.0 counted.prototypes is.1)
  has_counted (ExprKind-F.Built which args) t all is = subst IsCounted is.4 (shape_counted is.1)
  has_counted (ExprKind-F.Build args) t all is = build_counted (out-Ty t) t args (roll-out-Ty t) is.0 is.1 is.2 all
  has_counted (ExprKind-F.Convert a) t all is = converts_counted (type_of a) t is.0
  has_counted (ExprKind-F.Comma items) t all is = last_counted items t all is.1

  mutual
    pub type_counted : (e : Expr) → IsExpr here e → IsCounted (type_of e)
    type_counted _ (Throughout.whole e node parts) = has_counted (form_of e) (type_of e) (types_counted (parts_of (form_of e)) parts) node.type

    types_counted : (es : List Expr) → ThroughoutAll (IsNode here) es → AllByRecursion (λ (e : Expr). IsCounted (type_of e)) es
    types_counted _ ThroughoutAll.none = tt
    types_counted _ (ThroughoutAll.more e es is rest) = (type_counted e is, types_counted es rest)

  -- ---- leaves

  scalar_word : (s : Scalar) (w : ℕ) → IsTrue (is_word_of s w) → w < 2 ^ 32
  scalar_word Boolean w is = let low = ltb-true w 2 is in omega (arith, low)
  scalar_word Int w is = ltb-true w (2 ^ 32) is
  scalar_word Uint w is = ltb-true w (2 ^ 32) is

  scalar_layer : (s : Scalar) (layer : Value-F Value) (v : Value) → roll-Value layer ≡ v → IsTrue (is_scalar_layer s layer) → IsSmall v
  scalar_layer s (Value-F.Word w) v at is = subst IsSmall (sym (rolls-Word w) ∙ at) (word_small w (scalar_word s w is))
  scalar_layer s (Value-F.Many vs) v at is = no_more is

  scalar_small : (s : Scalar) (v : Value) → IsTrue (is_scalar s v) → IsSmall v
  scalar_small s v is = scalar_layer s (out-Value v) v (roll-out-Value v) is

  all_scalars : (s : Scalar) (n : ℕ) (vs : List Value) → IsTrue (all_pass (replicate n (is_scalar s)) vs) → AllSmall vs
  all_scalars s zero [] is = tt
  all_scalars s zero (v ∷ vs) is = no_more is
  all_scalars s (suc n) [] is = no_more is
  all_scalars s (suc n) (v ∷ vs) is = let parts = and_parts (is_scalar s v) (all_pass (replicate n (is_scalar s)) vs) is in (scalar_small s v parts.0, all_scalars s n vs parts.1)

  vector_layer : (s : Scalar) (n : ℕ) (layer : Value-F Value) (v : Value) → roll-Value layer ≡ v → IsTrue (has_parts_layer (replicate n (is_scalar s)) layer) → IsSmall v
  vector_layer s n (Value-F.Word w) v at is = no_more is
  vector_layer s n (Value-F.Many vs) v at is = subst IsSmall (sym (rolls-Many vs) ∙ at) (many_small vs (all_scalars s n vs is))

  const_small : (v : Value) (t : Ty) → IsConst here v t → IsSmall v
  const_small v t (value, inl (s, is)) = scalar_small s v (sym (value_of_one scene.structs s v) ∙ ap (λ (u : Ty). is_value_of scene.structs u v) (sym is) ∙ value)
  const_small v t (value, inr is) = vector_layer Uint 3 (out-Value v) v (roll-out-Value v) (sym (value_of_vector scene.structs Uint 3 v) ∙ ap (λ (u : Ty). is_value_of scene.structs u v) (sym is.0) ∙ value)

  length_layer : (layer : Ty-F Ty) (t : Ty) → roll-Ty layer ≡ t → IsSound (length scene.structs) t → IsCounted t → length_kind layer < 2 ^ 32
  length_layer Ty-F.Void t at known is = omega arith
  length_layer (Ty-F.One s) t at known is = omega arith
  length_layer (Ty-F.Vector s n) t at known is =
      let parts = and_parts (nat_le 2 n) (nat_le n 4) (sym (fold-roll-Ty Bool (sound_kind (length scene.structs)) (Ty-F.Vector s n)) ∙ ap (sound (length scene.structs)) at ∙ known) in
      let few = leb-true n 4 parts.1 in omega (arith, few)
  length_layer (Ty-F.Array e n) t at known is = ltb-true n (2 ^ 32) (and_parts (nat_lt n (2 ^ 32)) (is_counted e) (sym (fold-roll-Ty Bool counted_layer (Ty-F.Array e n)) ∙ ap is_counted at ∙ is)).0
  length_layer (Ty-F.Runtime e) t at known is = omega arith
  length_layer (Ty-F.Struct k) t at known is = omega arith

  known_here : (fs : List Folded) (n : ℕ) → AllByRecursion IsSmallFolded fs → IsSmallFolded (slice_index_or fs n NotConstant)
  known_here [] n all = tt
  known_here (x ∷ fs) zero all = all.0
  known_here (x ∷ fs) (suc n) all = known_here fs n all.1

  leaf_of : (form : ExprKind-F ExprKind Expr) (t : Ty) → HasType here form t → AllByRecursion (IsExpr here) (parts_of form) → LeafSmall scene.consts form
  leaf_of (ExprKind-F.Const v) t is all = const_small v t is
  leaf_of (ExprKind-F.Local n) t is all = known_here scene.consts.locals n counted.known_locals
  leaf_of (ExprKind-F.Global n) t is all = known_here scene.consts.globals n counted.known_globals
  leaf_of (ExprKind-F.Length a) t is all = length_layer (out-Ty (type_of a)) (type_of a) (roll-out-Ty (type_of a)) (type_sound scene fine a all.0) (type_counted a all.0)
  leaf_of (ExprKind-F.Param n) t is all = tt
  leaf_of (ExprKind-F.BlockMember b n) t is all = tt
  leaf_of (ExprKind-F.Stage var) t is all = tt
  leaf_of (ExprKind-F.Interface n) t is all = tt
  leaf_of (ExprKind-F.Member a n) t is all = tt
  leaf_of (ExprKind-F.Index a i) t is all = tt
  leaf_of (ExprKind-F.Swizzle a lanes) t is all = tt
  leaf_of (ExprKind-F.Unary o a) t is all = tt
  leaf_of (ExprKind-F.Binary o a b) t is all = tt
  leaf_of (ExprKind-F.Logic o a b) t is all = tt
  leaf_of (ExprKind-F.Choose s a b) t is all = tt
  leaf_of (ExprKind-F.Assign a b) t is all = tt
  leaf_of (ExprKind-F.Update o a b) t is all = tt
  leaf_of (ExprKind-F.Step o a) t is all = tt
  leaf_of (ExprKind-F.Call n args) t is all = tt
  leaf_of (ExprKind-F.Built which args) t is all = tt
  leaf_of (ExprKind-F.Build args) t is all = tt
  leaf_of (ExprKind-F.Convert a) t is all = tt
  leaf_of (ExprKind-F.Comma items) t is all = tt

  -- what is known of a well typed expression has words alone
  pub constant_small : (e : Expr) → IsExpr here e → IsSmallFolded (constant_of scene.consts e)
  constant_small = known_small scene.consts (IsExpr here) (parts_all here) (λ e is. leaf_of (form_of e) (type_of e) (type_here here e is) (parts_all here e is))
