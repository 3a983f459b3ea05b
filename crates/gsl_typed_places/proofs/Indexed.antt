-- The types of expressions: only members of blocks are runtime arrays, and only calls are of no value.
use Rattle.std.proofs.Common.{◌≡◌, refl, sym, ap, ◌∙◌, subst, inl, inr, ◌⊎◌, ℕ, Bool, true, false, not, List, [], ◌∷◌, length, slice_get, Some, unwrap_or, if◌then◌else◌}
use Rattle.std.specs.Prelude.{IsTrue, nat_eq}
use Rattle.std.specs.List.{AllByRecursion}
use Rattle.std.proofs.lemmas.Bool.{false≢true}
use Rattle.std.proofs.lemmas.Option.{none-some}
use Rattle.gsl_types.specs.Conversions.{converts, converts_open}
use Rattle.gsl_types.specs.Known.{IsSound, is_plain}
use Rattle.gsl_types.specs.declared.ty.Direction.{Direction}
use Rattle.gsl_types.specs.declared.ty.Member.{Member}
use Rattle.gsl_types.specs.declared.ty.Scalar.{Scalar}
use Rattle.gsl_types.specs.declared.ty.Scalar.TheVariants.{Bool as Boolean, Int, Uint}
use Rattle.gsl_types.specs.declared.ty.Ty.{Ty}
use Rattle.gsl_types.specs.declared.ty.Ty.TheOpen.{Ty-F}
use Rattle.gsl_types.specs.declared.ty.Ty.TheViews.{out-Ty}
use Rattle.gsl_types.specs.declared.ty.Ty.TheVariants as ty
use Rattle.gsl_types.specs.declared.ty.Ty.TheVariants.{outs-One, outs-Vector, outs-Void}
use Rattle.gsl_values.specs.declared.op.BinaryOp.{BinaryOp}
use Rattle.gsl_values.specs.declared.value.Value.{Value}
use Rattle.gsl_tree.specs.Around.{Around, stage_var_type}
use Rattle.gsl_tree.specs.Expressions.{HasType, IsBinary, IsConst, IsExpr, IsNode, MayBeRead, element_kind, element_of, is_runtime_layer, is_value_layer, is_value_type, last_type}
use Rattle.gsl_tree.specs.Paths.{in_block, in_block_by, kind_in, read_parts}
use Rattle.gsl_tree.specs.Shapes.{Shape, of_shape, shape_kind, shape_of}
use Rattle.gsl_tree.specs.Trees.{Throughout, ThroughoutAll, form_of, parts_of, type_of}
use Rattle.gsl_tree.specs.Values.{is_value_of, zero_value}
use Rattle.gsl_tree.specs.WellTyped.{AreWellTyped, IsInterface, IsPrototype, IsResult, IsStructDeclared, IsVariableType, Lists, around_body, is_member_kind}
use Rattle.gsl_tree.specs.declared.expr.Expr.{Expr}
use Rattle.gsl_tree.specs.declared.expr.ExprKind.{ExprKind}
use Rattle.gsl_tree.specs.declared.expr.ExprKind.TheFolds.{fold-ExprKind, fold-roll-Expr, fold-roll-ExprKind, map-ExprKind}
use Rattle.gsl_tree.specs.declared.expr.ExprKind.TheOpen.{ExprKind-F}
use Rattle.gsl_tree.specs.declared.expr.ExprKind.TheViews.{out-Expr, roll-out-Expr, roll-out-ExprKind}
use Rattle.gsl_tree.specs.declared.expr.StageVar.{StageVar}
use Rattle.gsl_tree.specs.declared.expr.StageVar.TheVariants.{NumWorkGroups, WorkGroupId, LocalInvocationId, GlobalInvocationId, LocalInvocationIndex, VertexIndex, InstanceIndex}
use Rattle.gsl_typed_law.proofs.Zeros.{declared_plain, zero_typed}
use Rattle.gsl_typed_places.specs.Members.{IsMember}
use Rattle.gsl_typed_places.proofs.Places.{Held, at_place, held_plain, member_held, one_held, plain_held, shaped_layer}

-- ---- types

one_plain : (s : Scalar) → IsTrue (is_plain (ty.One s))
one_plain s = held_plain (ty.One s) (one_held s) (ap is_value_layer (outs-One s))

vector_plain : (s : Scalar) (n : ℕ) → IsTrue (is_plain (ty.Vector s n))
vector_plain s n = held_plain (ty.Vector s n) (ap (is_member_kind true) (outs-Vector s n)) (ap is_value_layer (outs-Vector s n))

shape_plain : (shape : Shape) → IsTrue (is_plain (of_shape shape))
shape_plain shape = by (nat_eq shape.1 1)
  where
    by : (b : Bool) → IsTrue (is_plain (if b then ty.One shape.0 else ty.Vector shape.0 shape.1))
    by true = one_plain shape.0
    by false = vector_plain shape.0 shape.1

shaped_value : (layer : Ty-F Ty) (shape : Shape) → shape_kind layer ≡ Some shape → IsTrue (is_value_layer layer)
shaped_value Ty-F.Void shape is = elim (none-some shape is) [ ]
shaped_value (Ty-F.One s) shape is = refl
shaped_value (Ty-F.Vector s n) shape is = refl
shaped_value (Ty-F.Array e n) shape is = elim (none-some shape is) [ ]
shaped_value (Ty-F.Runtime e) shape is = elim (none-some shape is) [ ]
shaped_value (Ty-F.Struct n) shape is = elim (none-some shape is) [ ]

shaped_plain : (t : Ty) (shape : Shape) → shape_of t ≡ Some shape → IsTrue (is_plain t)
shaped_plain t shape is = held_plain t (shaped_layer (out-Ty t) shape is) (shaped_value (out-Ty t) shape is)

element_plain : (layer : Ty-F Ty) (t : Ty) → element_kind layer ≡ Some t → IsTrue (is_member_kind true layer) → IsTrue (is_plain t)
element_plain Ty-F.Void t is held = elim (none-some t is) [ ]
element_plain (Ty-F.One s) t is held = elim (none-some t is) [ ]
element_plain (Ty-F.Vector s n) t is held = subst (λ u. IsTrue (is_plain u)) (ap (λ o. unwrap_or o t) is) (one_plain s)
element_plain (Ty-F.Array e n) t is held = subst (λ u. IsTrue (is_plain u)) (ap (λ o. unwrap_or o t) is) held
element_plain (Ty-F.Runtime e) t is held = subst (λ u. IsTrue (is_plain u)) (ap (λ o. unwrap_or o t) is) held
element_plain (Ty-F.Struct n) t is held = elim (none-some t is) [ ]

void_elementless : (t u : Ty) → t ≡ ty.Void → element_of t ≡ Some u → ⊥
void_elementless t u is has = elim (none-some u (sym (ap element_of is ∙ ap element_kind outs-Void) ∙ has)) [ ]

void_valueless : (t : Ty) → t ≡ ty.Void → IsTrue (is_value_type t) → ⊥
void_valueless t is value = absurd (false≢true (sym (ap is_value_type is ∙ ap is_value_layer outs-Void) ∙ value))

held_value : (layer : Ty-F Ty) → IsTrue (is_member_kind true layer) → IsTrue (not (is_runtime_layer layer)) → IsTrue (is_value_layer layer)
held_value Ty-F.Void held read = absurd (false≢true held)
held_value (Ty-F.One s) held read = refl
held_value (Ty-F.Vector s n) held read = refl
held_value (Ty-F.Array e n) held read = refl
held_value (Ty-F.Runtime e) held read = absurd (false≢true read)
held_value (Ty-F.Struct n) held read = refl

abbrev PlainLayer : Ty-F Ty → Type 0
PlainLayer layer = IsTrue (is_member_kind true layer) × IsTrue (is_value_layer layer)

converted_layer : (x y : Ty-F Ty) → IsTrue (converts_open x y) → PlainLayer y
converted_layer (Ty-F.One s) (Ty-F.One u) is = (refl, refl)
converted_layer (Ty-F.Vector s n) (Ty-F.Vector u k) is = (refl, refl)
converted_layer _ _ is = absurd (false≢true is)

converted_plain : (a t : Ty) → IsTrue (converts a t) → IsTrue (is_plain t)
converted_plain a t is = let both = converted_layer (out-Ty a) (out-Ty t) is in held_plain t both.0 both.1

-- ---- expressions

-- A type is `void`, or has no `void` and no runtime array in it, or is that of a member of a block.
abbrev IsOf : ExprKind-F ExprKind Expr → Ty → Type 0
IsOf form t = (t ≡ ty.Void) ⊎ (IsTrue (is_plain t) ⊎ (IsMember form × Held t))

abbrev IsSettled : Expr → Type 0
IsSettled e = IsOf (form_of e) (type_of e)

plain_of : (form : ExprKind-F ExprKind Expr) (t : Ty) → IsTrue (is_plain t) → IsOf form t
plain_of form t is = inr (inl is)

valued_plain : (form : ExprKind-F ExprKind Expr) (t : Ty) → IsOf form t → IsTrue (is_value_type t) → IsTrue (is_plain t)
valued_plain form t (inl void) value = absurd (void_valueless t void value)
valued_plain form t (inr (inl plain)) value = plain
valued_plain form t (inr (inr (one, held))) value = held_plain t held value

read_of : (form other : ExprKind-F ExprKind Expr) (t : Ty) → IsOf form t → IsTrue (not (is_runtime_layer (out-Ty t))) → IsOf other t
read_of form other t (inl void) read = inl void
read_of form other t (inr (inl plain)) read = inr (inl plain)
read_of form other t (inr (inr (one, held))) read = inr (inl (held_plain t held (held_value (out-Ty t) held read)))

indexed_plain : (form : ExprKind-F ExprKind Expr) (base t : Ty) → IsOf form base → element_of base ≡ Some t → IsTrue (is_plain t)
indexed_plain form base t (inl void) is = absurd (void_elementless base t void is)
indexed_plain form base t (inr (inl plain)) is = element_plain (out-Ty base) t is (plain_held base plain)
indexed_plain form base t (inr (inr (one, held))) is = element_plain (out-Ty base) t is held

stage_plain : (var : StageVar) → IsTrue (is_plain (stage_var_type var))
stage_plain NumWorkGroups = vector_plain Uint 3
stage_plain WorkGroupId = vector_plain Uint 3
stage_plain LocalInvocationId = vector_plain Uint 3
stage_plain GlobalInvocationId = vector_plain Uint 3
stage_plain LocalInvocationIndex = one_plain Uint
stage_plain VertexIndex = one_plain Int
stage_plain InstanceIndex = one_plain Int

module _ (lists : Lists) (params : List (Direction × Ty)) (locals : List Ty) (typed : AreWellTyped lists) (of_params : AllByRecursion (λ (param : Direction × Ty). IsVariableType lists.structs param.1) params) (of_locals : AllByRecursion (IsVariableType lists.structs) locals) where
  abbrev around : Around
  around = around_body lists params locals

  back : {a b : Ty} → a ≡ b → IsTrue (is_plain a) → IsTrue (is_plain b)
  back e is = subst (λ u. IsTrue (is_plain u)) e is

  last_of : (form : ExprKind-F ExprKind Expr) (es : List Expr) (t : Ty) → last_type es ≡ Some t → AllByRecursion IsSettled es → AllByRecursion (MayBeRead around) es → IsOf form t
  last_of form [] t is all reads = elim (none-some t is) [ ]
  last_of form (e ∷ []) t is all reads = subst (IsOf form) (ap (λ o. unwrap_or o t) is) (read_of (form_of e) form (type_of e) all.0 reads.0.1)
  last_of form (e ∷ next ∷ es) t is all reads = last_of form (next ∷ es) t is all.1 reads.1

  constant_plain : (w : Value) (t : Ty) → IsConst around w t → IsTrue (is_plain t)
  constant_plain w t (is, inl (s, e)) = back (sym e) (one_plain s)
  constant_plain w t (is, inr x) = back (sym x.0) (vector_plain Uint 3)

  binary_plain : (op : BinaryOp) (a b t : Ty) → IsBinary around op a b t → IsTrue (is_plain t)
  binary_plain op a b t (inl x) = back (sym x.1.1) (one_plain Boolean)
  binary_plain op a b t (inr x) = back x.6 (shape_plain x.2)

  result_of : (form : ExprKind-F ExprKind Expr) (t : Ty) → IsResult lists.structs t → IsOf form t
  result_of form t (inl void) = inl void
  result_of form t (inr is) = inr (inl is.plain)

  by_form : (form : ExprKind-F ExprKind Expr) (t : Ty) → HasType around form t → AllByRecursion IsSettled (parts_of form) → AllByRecursion (MayBeRead around) (read_parts around form) → IsOf form t
  by_form (ExprKind-F.Const w) t is all reads = inr (inl (constant_plain w t is))
  by_form (ExprKind-F.Local n) t is all reads = inr (inl (at_place (IsVariableType lists.structs) locals n t of_locals is).plain)
  by_form (ExprKind-F.Param n) t is all reads = inr (inl (at_place (λ (param : Direction × Ty). IsVariableType lists.structs param.1) params n (is.0, t) of_params is.1).plain)
  by_form (ExprKind-F.Global n) t is all reads = inr (inl (back is.2 (typed.globals n is.0 is.1).type.plain))
  by_form (ExprKind-F.BlockMember b n) t is all reads = inr (inr (tt, subst Held is.2 (member_held lists params locals typed of_params of_locals (slice_get lists.blocks b) b n is.0 refl is.1)))
  by_form (ExprKind-F.Stage var) t is all reads = inr (inl (back is.1 (stage_plain var)))
  by_form (ExprKind-F.Interface n) t is all reads =
      let one = at_place (IsInterface lists.stage lists.structs) lists.interfaces n is.0 typed.interfaces is.1 in inr (inl (back is.2 (shaped_plain is.0.ty one.type.0 one.type.1)))
  by_form (ExprKind-F.Member a n) t is all reads =
      let struct = at_place (IsStructDeclared lists.structs) lists.structs is.0 is.1 typed.declared is.4 in
      inr (inl (back is.6 (at_place (λ (m : Member). IsVariableType lists.structs m.ty) is.1.members n is.2 struct.types is.5).plain))
  by_form (ExprKind-F.Index a i) t is all reads = inr (inl (indexed_plain (form_of a) (type_of a) t all.0 is.0))
  by_form (ExprKind-F.Swizzle a lanes) t is all reads = inr (inl (back is.4 (shape_plain (is.0.0, lanes.count))))
  by_form (ExprKind-F.Length a) t is all reads = inr (inl (back (sym is.0) (one_plain Int)))
  by_form (ExprKind-F.Unary op a) t is all reads = inr (inl (back is.4 (shape_plain is.1)))
  by_form (ExprKind-F.Binary op a b) t is all reads = inr (inl (binary_plain op (type_of a) (type_of b) t is))
  by_form (ExprKind-F.Logic op a b) t is all reads = inr (inl (back (sym is.2) (one_plain Boolean)))
  by_form (ExprKind-F.Choose test a b) t is all reads = inr (inl (back is.1 (valued_plain (form_of a) (type_of a) all.1.0 (subst (λ u. IsTrue (is_value_type u)) (sym is.1) is.3))))
  by_form (ExprKind-F.Assign a b) t is all reads = inr (inl (back is.0 (valued_plain (form_of a) (type_of a) all.0 (subst (λ u. IsTrue (is_value_type u)) (sym is.0) is.2))))
  by_form (ExprKind-F.Update op a b) t is all reads = inr (inl (back is.2.6 (shape_plain is.2.2)))
  by_form (ExprKind-F.Step op a) t is all reads = inr (inl (shaped_plain t is.1.0 is.1.1))
  by_form (ExprKind-F.Call n args) t is all reads = subst (IsOf (ExprKind-F.Call n args)) is.2 (result_of (ExprKind-F.Call n args) is.0.result (at_place (IsPrototype lists.structs) lists.prototypes n is.0 typed.prototypes is.1).result)
  by_form (ExprKind-F.Built which args) t is all reads = inr (inl (back is.4 (shape_plain is.1)))
  by_form (ExprKind-F.Build args) t is all reads = inr (inl is.4)
  by_form (ExprKind-F.Convert a) t is all reads = inr (inl (converted_plain (type_of a) t is.0))
  by_form (ExprKind-F.Comma items) t is all reads = last_of (ExprKind-F.Comma items) items t is.1 all reads

  mutual
    settled : (e : Expr) → Throughout (IsNode around) e → IsSettled e
    settled _ (Throughout.whole e node parts) = by_form (form_of e) (type_of e) node.type (all_settled (parts_of (form_of e)) parts) node.reads

    all_settled : (es : List Expr) → ThroughoutAll (IsNode around) es → AllByRecursion IsSettled es
    all_settled _ ThroughoutAll.none = tt
    all_settled _ (ThroughoutAll.more e es is rest) = (settled e is, all_settled es rest)

  -- what an index goes into has a value of its type, or is a member of a block
  pub indexed_valued : (e : Expr) → IsExpr around e → IsSound (length lists.structs) (type_of e) → (t : Ty) → element_of (type_of e) ≡ Some t → ((v : Value) × (is_value_of lists.structs (type_of e) v ≡ true)) ⊎ IsMember (form_of e)
  indexed_valued e is sound t has = by (settled e is)
    where
      by : IsSettled e → ((v : Value) × (is_value_of lists.structs (type_of e) v ≡ true)) ⊎ IsMember (form_of e)
      by (inl void) = absurd (void_elementless (type_of e) t void has)
      by (inr (inl plain)) = inl (zero_value lists.structs (type_of e), zero_typed lists.structs typed.structs (declared_plain lists.structs typed.declared) (type_of e) sound plain)
      by (inr (inr (one, held))) = inr one

  -- what stands in a block has a type that is made of values, unless it is a runtime array
  abbrev is_blocked : ExprKind-F ExprKind Expr → Bool
  is_blocked form = in_block_by (map-ExprKind ExprKind Expr Bool Bool (fold-ExprKind Bool Bool in_block_by kind_in) in_block form)

  blocked_is : (e : Expr) → in_block e ≡ is_blocked (form_of e)
  blocked_is e =
      ap in_block (sym (roll-out-Expr e)) ∙ fold-roll-Expr Bool Bool in_block_by kind_in (out-Expr e)
      ∙ ap (fold-ExprKind Bool Bool in_block_by kind_in) (sym (roll-out-ExprKind (out-Expr e).kind)) ∙ fold-roll-ExprKind Bool Bool in_block_by kind_in (form_of e)

  blocked_by : (form : ExprKind-F ExprKind Expr) (t : Ty) → HasType around form t → AllByRecursion IsSettled (parts_of form) → is_blocked form ≡ true → IsTrue (not (is_runtime_layer (out-Ty t))) → IsTrue (is_plain t)
  blocked_by (ExprKind-F.BlockMember b n) t is all in_one read =
      let held : Held t = subst Held is.2 (member_held lists params locals typed of_params of_locals (slice_get lists.blocks b) b n is.0 refl is.1) in
      held_plain t held (held_value (out-Ty t) held read)
  blocked_by (ExprKind-F.Member a n) t is all in_one read =
      let struct = at_place (IsStructDeclared lists.structs) lists.structs is.0 is.1 typed.declared is.4 in
      back is.6 (at_place (λ (m : Member). IsVariableType lists.structs m.ty) is.1.members n is.2 struct.types is.5).plain
  blocked_by (ExprKind-F.Index a i) t is all in_one read = indexed_plain (form_of a) (type_of a) t all.0 is.0
  blocked_by (ExprKind-F.Swizzle a lanes) t is all in_one read = back is.4 (shape_plain (is.0.0, lanes.count))
  blocked_by _ t is all in_one read = absurd (false≢true in_one)

  pub blocked_plain : (e : Expr) → IsExpr around e → in_block e ≡ true → is_runtime_layer (out-Ty (type_of e)) ≡ false → IsTrue (is_plain (type_of e))
  blocked_plain _ (Throughout.whole e node parts) in_one read = blocked_by (form_of e) (type_of e) node.type (all_settled (parts_of (form_of e)) parts) (sym (blocked_is e) ∙ in_one) (ap not read)
