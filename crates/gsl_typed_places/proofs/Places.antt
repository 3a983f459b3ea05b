-- The types of variables and of their parts.
use Rattle.std.proofs.Common.{◌≡◌, refl, sym, ap, ◌∙◌, subst, ℕ, zero, suc, Bool, true, false, List, [], ◌∷◌, length, slice_get, Option, Some, None, unwrap_or, if◌then◌else◌}
use Rattle.std.specs.Prelude.{IsTrue, nat_eq}
use Rattle.std.specs.List.{AllByRecursion}
use Rattle.std.proofs.lemmas.Bool.{and_parts, false≢true}
use Rattle.std.proofs.lemmas.Option.{none-some}
use Rattle.gsl_types.specs.Known.{IsSound, is_plain, is_plain_kind}
use Rattle.gsl_types.specs.declared.ty.Direction.{Direction}
use Rattle.gsl_types.specs.declared.ty.Member.{Member}
use Rattle.gsl_types.specs.declared.ty.Scalar.{Scalar}
use Rattle.gsl_types.specs.declared.ty.StructType.{StructType}
use Rattle.gsl_types.specs.declared.ty.Ty.{Ty}
use Rattle.gsl_types.specs.declared.ty.Ty.TheOpen.{Ty-F}
use Rattle.gsl_types.specs.declared.ty.Ty.TheFolds.{fold-roll-Ty}
use Rattle.gsl_types.specs.declared.ty.Ty.TheViews.{out-Ty, roll-Ty, roll-out-Ty}
use Rattle.gsl_types.specs.declared.ty.Ty.TheVariants as ty
use Rattle.gsl_types.specs.declared.ty.Ty.TheVariants.{outs-One, outs-Vector}
use Rattle.gsl_values.specs.declared.value.Value.{Value}
use Rattle.gsl_tree.specs.Around.{Around, is_buffer, member_in}
use Rattle.gsl_tree.specs.Expressions.{HasType, IsExpr, IsNode, element_kind, is_value_layer, is_value_type}
use Rattle.gsl_tree.specs.Paths.{is_writable, kind_in, writable_by}
use Rattle.gsl_tree.specs.Shapes.{Shape, of_shape, shape_kind}
use Rattle.gsl_tree.specs.Trees.{Throughout, ThroughoutAll, form_of, parts_of, type_of}
use Rattle.gsl_tree.specs.Values.{is_value_of, zero_value}
use Rattle.gsl_tree.specs.WellTyped.{AreBlockMembers, AreWellTyped, IsBlock, IsInterface, IsStructDeclared, IsVariableType, Lists, around_body, is_member_kind, is_member_type}
use Rattle.gsl_tree.specs.declared.expr.Expr.{Expr}
use Rattle.gsl_tree.specs.declared.expr.ExprKind.{ExprKind}
use Rattle.gsl_tree.specs.declared.expr.ExprKind.TheOpen.{ExprKind-F}
use Rattle.gsl_tree.specs.declared.expr.ExprKind.TheFolds.{fold-ExprKind, fold-roll-Expr, fold-roll-ExprKind, map-ExprKind}
use Rattle.gsl_tree.specs.declared.expr.ExprKind.TheViews.{out-Expr, roll-out-Expr, roll-out-ExprKind}
use Rattle.gsl_tree.specs.declared.unit.Block.{Block}
use Rattle.gsl_tree.specs.declared.unit.BlockKind.{BlockKind}
use Rattle.gsl_tree.specs.declared.unit.BlockMember.{BlockMember}
use Rattle.gsl_typed_law.proofs.Zeros.{declared_plain, zero_typed}

-- ---- rows

pub at_place : {A : Type 0} (P : A → Type 0) (xs : List A) (k : ℕ) (x : A) → AllByRecursion P xs → slice_get xs k ≡ Some x → P x
at_place P [] k x all is = elim (none-some x is) [ ]
at_place P (y ∷ ys) zero x all is = subst P (ap (λ o. unwrap_or o x) is) all.0
at_place P (y ∷ ys) (suc k) x all is = at_place P ys k x all.1 is

-- ---- types

-- The type of a variable or of a part of one has no `void` in it, and is a runtime array or has none in it.
abbrev pub Held : Ty → Type 0
Held t = IsTrue (is_member_type true t)

plain_layer : (layer : Ty-F Ty) → IsTrue (is_plain (roll-Ty layer)) → IsTrue (is_member_kind true layer)
plain_layer Ty-F.Void is = absurd (false≢true (sym (fold-roll-Ty Bool is_plain_kind Ty-F.Void) ∙ is))
plain_layer (Ty-F.One s) is = refl
plain_layer (Ty-F.Vector s n) is = refl
plain_layer (Ty-F.Array e n) is = sym (fold-roll-Ty Bool is_plain_kind (Ty-F.Array e n)) ∙ is
plain_layer (Ty-F.Runtime e) is = absurd (false≢true (sym (fold-roll-Ty Bool is_plain_kind (Ty-F.Runtime e)) ∙ is))
plain_layer (Ty-F.Struct n) is = refl

pub plain_held : (t : Ty) → IsTrue (is_plain t) → Held t
plain_held t is = plain_layer (out-Ty t) (ap is_plain (roll-out-Ty t) ∙ is)

held_layer : (layer : Ty-F Ty) → IsTrue (is_member_kind true layer) → IsTrue (is_value_layer layer) → IsTrue (is_plain (roll-Ty layer))
held_layer Ty-F.Void is value = absurd (false≢true value)
held_layer (Ty-F.One s) is value = fold-roll-Ty Bool is_plain_kind (Ty-F.One s)
held_layer (Ty-F.Vector s n) is value = fold-roll-Ty Bool is_plain_kind (Ty-F.Vector s n)
held_layer (Ty-F.Array e n) is value = fold-roll-Ty Bool is_plain_kind (Ty-F.Array e n) ∙ is
held_layer (Ty-F.Runtime e) is value = absurd (false≢true value)
held_layer (Ty-F.Struct n) is value = fold-roll-Ty Bool is_plain_kind (Ty-F.Struct n)

pub held_plain : (t : Ty) → Held t → IsTrue (is_value_type t) → IsTrue (is_plain t)
held_plain t is value = ap is_plain (sym (roll-out-Ty t)) ∙ held_layer (out-Ty t) is value

member_layer : (last : Bool) (layer : Ty-F Ty) → IsTrue (is_member_kind last layer) → IsTrue (is_member_kind true layer)
member_layer last Ty-F.Void is = is
member_layer last (Ty-F.One s) is = refl
member_layer last (Ty-F.Vector s n) is = refl
member_layer last (Ty-F.Array e n) is = is
member_layer last (Ty-F.Runtime e) is = (and_parts last (is_plain e) is).1
member_layer last (Ty-F.Struct n) is = refl

pub one_held : (s : Scalar) → Held (ty.One s)
one_held s = ap (is_member_kind true) (outs-One s)

shape_held : (shape : Shape) → Held (of_shape shape)
shape_held shape = by (nat_eq shape.1 1)
  where
    by : (b : Bool) → Held (if b then ty.One shape.0 else ty.Vector shape.0 shape.1)
    by true = one_held shape.0
    by false = ap (is_member_kind true) (outs-Vector shape.0 shape.1)

pub shaped_layer : (layer : Ty-F Ty) (shape : Shape) → shape_kind layer ≡ Some shape → IsTrue (is_member_kind true layer)
shaped_layer Ty-F.Void shape is = elim (none-some shape is) [ ]
shaped_layer (Ty-F.One s) shape is = refl
shaped_layer (Ty-F.Vector s n) shape is = refl
shaped_layer (Ty-F.Array e n) shape is = elim (none-some shape is) [ ]
shaped_layer (Ty-F.Runtime e) shape is = elim (none-some shape is) [ ]
shaped_layer (Ty-F.Struct n) shape is = elim (none-some shape is) [ ]

element_layer : (layer : Ty-F Ty) (t : Ty) → element_kind layer ≡ Some t → IsTrue (is_member_kind true layer) → Held t
element_layer Ty-F.Void t is held = elim (none-some t is) [ ]
element_layer (Ty-F.One s) t is held = elim (none-some t is) [ ]
element_layer (Ty-F.Vector s n) t is held = subst Held (ap (λ o. unwrap_or o t) is) (one_held s)
element_layer (Ty-F.Array e n) t is held = subst Held (ap (λ o. unwrap_or o t) is) (plain_held e held)
element_layer (Ty-F.Runtime e) t is held = subst Held (ap (λ o. unwrap_or o t) is) (plain_held e held)
element_layer (Ty-F.Struct n) t is held = elim (none-some t is) [ ]

-- ---- declarations

members_held : (structs : List StructType) (kind : BlockKind) (members : List BlockMember) → AreBlockMembers structs kind members → AllByRecursion (λ (member : BlockMember). Held member.ty) members
members_held structs kind [] all = tt
members_held structs kind (member ∷ []) all = (member_layer (is_buffer kind) (out-Ty member.ty) all.type, tt)
members_held structs kind (member ∷ next ∷ members) all = (member_layer false (out-Ty member.ty) all.0.type, members_held structs kind (next ∷ members) all.1)

-- ---- expressions

module _ (lists : Lists) (params : List (Direction × Ty)) (locals : List Ty) (typed : AreWellTyped lists) (of_params : AllByRecursion (λ (param : Direction × Ty). IsVariableType lists.structs param.1) params) (of_locals : AllByRecursion (IsVariableType lists.structs) locals) where
  abbrev around : Around
  around = around_body lists params locals

  abbrev may_write : ExprKind-F ExprKind Expr → Bool
  may_write form = writable_by around (map-ExprKind ExprKind Expr Bool Bool (fold-ExprKind Bool Bool (writable_by around) kind_in) (is_writable around) form)

  write_at : (e : Expr) → is_writable around e ≡ may_write (form_of e)
  write_at e =
      ap (is_writable around) (sym (roll-out-Expr e)) ∙ fold-roll-Expr Bool Bool (writable_by around) kind_in (out-Expr e)
      ∙ ap (fold-ExprKind Bool Bool (writable_by around) kind_in) (sym (roll-out-ExprKind (out-Expr e).kind)) ∙ fold-roll-ExprKind Bool Bool (writable_by around) kind_in (form_of e)

  -- what may be written has a type that a part of a variable may have
  abbrev IsPlace : Expr → Type 0
  IsPlace e = is_writable around e ≡ true → Held (type_of e)

  pub member_held : (o : Option Block) (block number : ℕ) (member : BlockMember) → slice_get lists.blocks block ≡ o → member_in o number ≡ Some member → Held member.ty
  member_held None block number member at is = elim (none-some member is) [ ]
  member_held (Some b) block number member at is =
      let one = at_place (IsBlock lists.structs) lists.blocks block b typed.blocks at in
      at_place (λ (m : BlockMember). Held m.ty) b.members number member (members_held lists.structs b.kind b.members one.members) is

  place_by : (form : ExprKind-F ExprKind Expr) (t : Ty) → HasType around form t → AllByRecursion IsPlace (parts_of form) → may_write form ≡ true → Held t
  place_by (ExprKind-F.Local n) t is all write = plain_held t (at_place (IsVariableType lists.structs) locals n t of_locals is).plain
  place_by (ExprKind-F.Param n) t is all write = plain_held t (at_place (λ (param : Direction × Ty). IsVariableType lists.structs param.1) params n (is.0, t) of_params is.1).plain
  place_by (ExprKind-F.Global n) t is all write = subst Held is.2 (plain_held is.0.ty (typed.globals n is.0 is.1).type.plain)
  place_by (ExprKind-F.BlockMember b n) t is all write = subst Held is.2 (member_held (slice_get lists.blocks b) b n is.0 refl is.1)
  place_by (ExprKind-F.Interface n) t is all write =
      let one = at_place (IsInterface lists.stage lists.structs) lists.interfaces n is.0 typed.interfaces is.1 in subst Held is.2 (shaped_layer (out-Ty is.0.ty) one.type.0 one.type.1)
  place_by (ExprKind-F.Member a n) t is all write =
      let struct = at_place (IsStructDeclared lists.structs) lists.structs is.0 is.1 typed.declared is.4 in
      subst Held is.6 (plain_held is.2.ty (at_place (λ (m : Member). IsVariableType lists.structs m.ty) is.1.members n is.2 struct.types is.5).plain)
  place_by (ExprKind-F.Index a i) t is all write = element_layer (out-Ty (type_of a)) t is.0 (all.0 write)
  place_by (ExprKind-F.Swizzle a lanes) t is all write = subst Held is.4 (shape_held (is.0.0, lanes.count))
  place_by _ t is all write = absurd (false≢true write)

  mutual
    place : (e : Expr) → Throughout (IsNode around) e → IsPlace e
    place _ (Throughout.whole e node parts) = λ write. place_by (form_of e) (type_of e) node.type (places (parts_of (form_of e)) parts) (sym (write_at e) ∙ write)

    places : (es : List Expr) → ThroughoutAll (IsNode around) es → AllByRecursion IsPlace es
    places _ ThroughoutAll.none = tt
    places _ (ThroughoutAll.more e es is rest) = (place e is, places es rest)

  pub place_valued : (e : Expr) → IsExpr around e → is_writable around e ≡ true → IsSound (length lists.structs) (type_of e) → IsTrue (is_value_type (type_of e)) → (v : Value) × (is_value_of lists.structs (type_of e) v ≡ true)
  place_valued e is write sound value =
      (zero_value lists.structs (type_of e), zero_typed lists.structs typed.structs (declared_plain lists.structs typed.declared) (type_of e) sound (held_plain (type_of e) (place e is write) value))
