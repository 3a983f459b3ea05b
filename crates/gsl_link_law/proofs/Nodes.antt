-- A well typed node of a unit is one by the new numbers, and so whole expressions are.
use Rattle.std.proofs.Common.{◌≡◌, refl, sym, ap, ◌∙◌, subst, ℕ, zero, suc, ◌<◌, ◌≤◌, inl, inr, Bool, not, ◌||◌, List, [], ◌∷◌, map, length, replicate, slice_get, Some, arith}
use Rattle.std.specs.Prelude.{option_map}
use Rattle.std.specs.List.{AllByRecursion}
use Rattle.std.proofs.lemmas.List.{length-map}
use Rattle.std.proofs.lemmas.Option.{slice_get_within}
use Rattle.gsl_types.specs.Conversions.{converts}
use Rattle.gsl_types.specs.declared.ty.Direction.{Direction}
use Rattle.gsl_types.specs.declared.ty.Direction.TheVariants.{In, Out, InOut}
use Rattle.gsl_types.specs.declared.ty.Member.{Member}
use Rattle.gsl_types.specs.declared.ty.Scalar.TheVariants.{Bool as Boolean, Int, Uint}
use Rattle.gsl_types.specs.declared.ty.StructType.{StructType}
use Rattle.gsl_types.specs.declared.ty.Ty.{Ty}
use Rattle.gsl_types.specs.declared.ty.Ty.TheOpen.{Ty-F}
use Rattle.gsl_types.specs.declared.ty.Ty.TheVariants as ty
use Rattle.gsl_types.specs.declared.ty.Ty.TheViews.{out-Ty}
use Rattle.gsl_values.specs.declared.value.Value.{Value}
use Rattle.gsl_tree.specs.declared.expr.Expr.{Expr}
use Rattle.gsl_tree.specs.declared.expr.ExprKind.{ExprKind}
use Rattle.gsl_tree.specs.declared.expr.ExprKind.TheOpen.{ExprKind-F}
use Rattle.gsl_tree.specs.declared.folded.Folded.{Folded}
use Rattle.gsl_tree.specs.declared.folded.Folded.TheVariants.{Known, NotConstant, Free}
use Rattle.gsl_tree.specs.declared.unit.Prototype.{Prototype}
use Rattle.gsl_tree.specs.Around.{Around, consts_of, member_in}
use Rattle.gsl_tree.specs.Constants.{constant_of}
use Rattle.gsl_tree.specs.Shapes.{shape_of}
use Rattle.gsl_tree.specs.Trees.{type_of, form_of, parts_of, Throughout, ThroughoutAll}
use Rattle.gsl_values.specs.declared.op.BinaryOp.{BinaryOp}
use Rattle.gsl_tree.specs.Values.{value_meaning, word_in}
use Rattle.gsl_tree.specs.Weights.{height_meaning, most_high}
use Rattle.gsl_tree.specs.Paths.{is_small, is_aggregate, read_parts, written_parts, params_at, going_in, coming_out}
use Rattle.gsl_tree.specs.Expressions.{IsExpr, IsNode, HasType, IsBuildKind, IsArgument, AreArguments, MayBeRead, MayBeWritten, IsOperation, most_parts, IsIndex, boolean, element_of, in_range_by, is_in_range_kind, is_value_type, has_length_kind, member_types, types_of, shapes_of, shapes_with, last_type}
use Rattle.gsl_link_units.specs.Types.{new_number, retyped}
use Rattle.gsl_link_units.specs.Structs.{retyped_member}
use Rattle.gsl_link_units.specs.Declarations.{retyped_param}
use Rattle.gsl_link_whole.specs.Numbers.{Numbering}
use Rattle.gsl_link_whole.specs.Renumbering.{renumbered_expr}
use Rattle.gsl_link_law.specs.Renumbered.{IsRenumbered, HasTypes}
use Rattle.gsl_link_law.proofs.Retyped.{plain_stays}
use Rattle.gsl_link_law.proofs.Layered.{new_layer, out_retyped, new_shape, new_aggregate, new_value_type, new_has_length, new_range, new_converts, new_one, new_vector, new_struct, new_of_shape, new_stage_type, new_index, new_element, convert_stays}
use Rattle.gsl_link_law.proofs.Forms.{new_form, new_type, new_form_of, new_parts}
use Rattle.gsl_link_law.proofs.Known.{IsFlat, IsKnown, flat_one, flat_vector, types_known}
use Rattle.gsl_link_law.proofs.Exprs.{at_mapped, all_of_parts, means, sound_new, small_new, member_new, read_new, written_new, writable_new, constant_new}

-- what is in range by what is known of an index is so where as much is known
range_same : (f : Folded) (base other i also : Ty) → ((word : ℕ) → is_in_range_kind (out-Ty other) (out-Ty also) word ≡ is_in_range_kind (out-Ty base) (out-Ty i) word) → in_range_by f other also ≡ in_range_by f base i
range_same (Known v) base other i also same = same (word_in v)
range_same NotConstant base other i also same = refl
range_same Free base other i also same = refl

module _ (n : Numbering) (few many : Around) (is : IsRenumbered n few many) (fine : HasTypes few) where
  abbrev new : Ty → Ty
  new = retyped n.structs

  abbrev ren : Expr → Expr
  ren = renumbered_expr n

  abbrev here : ℕ
  here = length few.structs

  abbrev Typed : Expr → Type 0
  Typed e = IsExpr few e

  abbrev KnownType : Expr → Type 0
  KnownType e = IsKnown here (type_of e)

  -- the type of a part, from what it was
  typed_as : (e : Expr) (t : Ty) → type_of e ≡ t → type_of (ren e) ≡ new t
  typed_as e t same = new_type n e ∙ ap new same

  typed_so : (e : Expr) (t : Ty) → new t ≡ t → type_of e ≡ t → type_of (ren e) ≡ t
  typed_so e t flat same = typed_as e t same ∙ flat

  shape_new : (e : Expr) → shape_of (type_of (ren e)) ≡ shape_of (type_of e)
  shape_new e = ap shape_of (new_type n e) ∙ new_shape n.structs (type_of e)

  -- ---- arguments

  argument_new : (d : Direction) (t : Ty) (e : Expr) → Typed e → IsArgument few d t e → IsArgument many d (new t) (ren e)
  argument_new In t e typed has = typed_as e t has
  argument_new Out t e typed (inl has, writes) = (inl (typed_as e t has), writable_new n few many is fine e typed writes)
  argument_new Out t e typed (inr has, writes) = (inr (ap (converts (new t)) (new_type n e) ∙ new_converts n.structs t (type_of e) ∙ has), writable_new n few many is fine e typed writes)
  argument_new InOut t e typed has = (typed_as e t has.0, writable_new n few many is fine e typed has.1)

  arguments_new : (params : List (Direction × Ty)) (es : List Expr) → AllByRecursion Typed es → AreArguments few params es → AreArguments many (map (retyped_param n.structs) params) (map ren es)
  arguments_new [] [] all has = tt
  arguments_new [] (e ∷ es) all has = elim has [ ]
  arguments_new (p ∷ params) [] all has = elim has [ ]
  arguments_new (p ∷ params) (e ∷ es) all has = (argument_new p.0 p.1 e all.0 has.0, arguments_new params es all.1 has.1)

  -- ---- constructors

  shapes_new : (es : List Expr) → shapes_of (map ren es) ≡ shapes_of es
  shapes_new [] = refl
  shapes_new (e ∷ es) = ap (λ s. shapes_with s (shapes_of (map ren es))) (shape_new e) ∙ ap (shapes_with (shape_of (type_of e))) (shapes_new es)

  types_new : (es : List Expr) → types_of (map ren es) ≡ map new (types_of es)
  types_new [] = refl
  types_new (e ∷ es) = ap (λ t. t ∷ types_of (map ren es)) (new_type n e) ∙ ap (λ ts. new (type_of e) ∷ ts) (types_new es)

  replicate_new : (k : ℕ) (t : Ty) → map new (replicate k t) ≡ replicate k (new t)
  replicate_new zero t = refl
  replicate_new (suc k) t = ap (λ ts. new t ∷ ts) (replicate_new k t)

  members_new : (members : List Member) → map new (member_types members) ≡ member_types (map (retyped_member n.structs) members)
  members_new [] = refl
  members_new (member ∷ members) = ap (λ ts. new member.ty ∷ ts) (members_new members)

  -- the struct of a number
  struct_at : (k : ℕ) (s : StructType) → slice_get few.structs k ≡ Some s → (other : StructType) × (slice_get many.structs (new_number n.structs k) ≡ Some other) × (other.members ≡ map (retyped_member n.structs) s.members)
  struct_at k s there =
      let below = slice_get_within few.structs k s there in
      let count = is.count in
      let stands = is.structs k s (let lower : k < length n.structs = omega (arith, below, count) in lower) there in
      (stands.struct, stands.there, stands.members)

  build_layer : (y : Ty-F Ty) (es : List Expr) → IsBuildKind few y es → IsBuildKind many (new_layer n.structs y) (map ren es)
  build_layer Ty-F.Void es has = has
  build_layer (Ty-F.One s) es has = (has.0, shapes_new es ∙ has.1)
  build_layer (Ty-F.Vector s k) es has = (has.0, shapes_new es ∙ has.1, has.2)
  build_layer (Ty-F.Array e k) es has = types_new es ∙ ap (map new) has ∙ replicate_new k e
  build_layer (Ty-F.Runtime e) es has = has
  build_layer (Ty-F.Struct k) es has =
      let stands = struct_at k has.0 has.1 in
      (stands.0, stands.1, types_new es ∙ ap (map new) has.2 ∙ members_new has.0.members ∙ ap member_types (sym stands.2))

  build_new : (t : Ty) (es : List Expr) → IsBuildKind few (out-Ty t) es → IsBuildKind many (out-Ty (new t)) (map ren es)
  build_new t es has = subst (λ y. IsBuildKind many y (map ren es)) (sym (out_retyped n.structs t)) (build_layer (out-Ty t) es has)

  last_new : (es : List Expr) → last_type (map ren es) ≡ option_map new (last_type es)
  last_new [] = refl
  last_new (e ∷ []) = ap Some (new_type n e)
  last_new (e ∷ next ∷ es) = last_new (next ∷ es)

  operation_new : (op : BinaryOp) (a b t : Ty) → IsOperation op a b t → IsOperation op (new a) (new b) (new t)
  operation_new op a b t has =
      (has.0, has.1, has.2, new_shape n.structs a ∙ has.3, new_shape n.structs b ∙ has.4, has.5, sym (new_of_shape n.structs has.2) ∙ ap new has.6)

  -- ---- one node

  type_new : (form : ExprKind-F ExprKind Expr) (t : Ty) → AllByRecursion Typed (parts_of form) → AllByRecursion KnownType (parts_of form) → HasType few form t → HasType many (new_form n form) (new t)
  type_new (ExprKind-F.Const v) t all known (value, inl has) =
      (ap (λ (test : Value → Bool). test v) (sym (means n few many is fine value_meaning t (inl (subst IsFlat (sym has.1) (flat_one has.0))))) ∙ value, inl (has.0, ap new has.1 ∙ new_one n.structs has.0))
  type_new (ExprKind-F.Const v) t all known (value, inr has) =
      let stage = sym is.stage ∙ has.1 in
      let stated = is.sizes stage has.2.0 _ has.2.1 in
      (ap (λ (test : Value → Bool). test v) (sym (means n few many is fine value_meaning t (inl (subst IsFlat (sym has.0) (flat_vector Uint 3))))) ∙ value, inr (ap new has.0 ∙ new_vector n.structs Uint 3, stage, (stated.0, stated.1)))
  type_new (ExprKind-F.Local k) t all known has = ap (λ l. slice_get l k) is.locals ∙ at_mapped new few.locals k t has
  type_new (ExprKind-F.Global k) t all known has =
      let stands = is.globals k has.0 has.1 in
      (stands.1, stands.2, stands.3.type ∙ ap new has.2)
  type_new (ExprKind-F.Param k) t all known has = (has.0, ap (λ l. slice_get l k) is.params ∙ at_mapped (retyped_param n.structs) few.params k (has.0, t) has.1)
  type_new (ExprKind-F.BlockMember b k) t all known has =
      let found = member_new n few many is fine k has.0 b (slice_get few.blocks b) refl has.1 in
      (found.2, ap (λ o. member_in o k) found.4 ∙ found.7, found.8.type ∙ ap new has.2)
  type_new (ExprKind-F.Stage var) t all known has = (has.0 ∙ is.stage, sym (new_stage_type n.structs var) ∙ ap new has.1)
  type_new (ExprKind-F.Interface k) t all known has =
      let stands = is.interfaces k has.0 has.1 in
      (stands.1, stands.2, stands.3.type ∙ ap new has.2)
  type_new (ExprKind-F.Member a k) t all known has =
      let stands = struct_at has.0 has.1 has.4 in (
        new_number n.structs has.0,
        stands.0,
        retyped_member n.structs has.2,
        typed_so_struct a has.0 has.3,
        stands.1,
        ap (λ ms. slice_get ms k) stands.2 ∙ at_mapped (retyped_member n.structs) has.1.members k has.2 has.5,
        ap new has.6,
      )
    where
      typed_so_struct : (e : Expr) (number : ℕ) → type_of e ≡ ty.Struct number → type_of (ren e) ≡ ty.Struct (new_number n.structs number)
      typed_so_struct e number same = typed_as e (ty.Struct number) same ∙ new_struct n.structs number
  type_new (ExprKind-F.Index a i) t all known has = (
    ap element_of (new_type n a) ∙ new_element n.structs (type_of a) ∙ ap (option_map new) has.0,
    subst IsIndex (sym (new_type n i)) (new_index n.structs (type_of i) has.1),
    ap (λ f. in_range_by f (type_of (ren a)) (type_of (ren i))) (constant_new n few many is fine i all.1.0)
        ∙ ap (λ u. in_range_by (constant_of (consts_of few.globals) i) u (type_of (ren i))) (new_type n a) ∙ ap (λ u. in_range_by (constant_of (consts_of few.globals) i) (new (type_of a)) u) (new_type n i)
        ∙ range_same (constant_of (consts_of few.globals) i) (type_of a) (new (type_of a)) (type_of i) (new (type_of i)) (new_range n.structs (type_of a) (type_of i)) ∙ has.2,
  )
  type_new (ExprKind-F.Swizzle a lanes) t all known has =
      (has.0, shape_new a ∙ has.1, has.2, has.3, sym (new_of_shape n.structs (has.0.0, lanes.count)) ∙ ap new has.4)
  type_new (ExprKind-F.Length a) t all known has =
      (ap new has.0 ∙ new_one n.structs Int, ap (λ u. has_length_kind (out-Ty u)) (new_type n a) ∙ new_has_length n.structs (type_of a) ∙ has.1)
  type_new (ExprKind-F.Unary op a) t all known has = (has.0, has.1, shape_new a ∙ has.2, has.3, sym (new_of_shape n.structs has.1) ∙ ap new has.4)
  type_new (ExprKind-F.Binary op a b) t all known (inl has) =
      inl (
        has.0,
        (
          new_type n a ∙ ap new has.1.0 ∙ sym (new_type n b),
          ap new has.1.1 ∙ new_one n.structs Boolean,
          ap is_value_type (new_type n a) ∙ new_value_type n.structs (type_of a) ∙ has.1.2,
          ap (λ u. not (is_aggregate u) || is_small many u) (new_type n a) ∙ ap (λ x. not x || is_small many (new (type_of a))) (new_aggregate n.structs (type_of a))
              ∙ ap (λ x. not (is_aggregate (type_of a)) || x) (sym (small_new n few many is fine (type_of a) known.0)) ∙ has.1.3,
        ),
      )
  type_new (ExprKind-F.Binary op a b) t all known (inr has) =
      inr (subst (λ u. IsOperation op u (type_of (ren b)) (new t)) (sym (new_type n a)) (subst (λ u. IsOperation op (new (type_of a)) u (new t)) (sym (new_type n b)) (operation_new op (type_of a) (type_of b) t has)))
  type_new (ExprKind-F.Logic op a b) t all known has =
      (typed_so a boolean (new_one n.structs Boolean) has.0, typed_so b boolean (new_one n.structs Boolean) has.1, ap new has.2 ∙ new_one n.structs Boolean)
  type_new (ExprKind-F.Choose c a b) t all known has =
      (typed_so c boolean (new_one n.structs Boolean) has.0, typed_as a t has.1, typed_as b t has.2, new_value_type n.structs t ∙ has.3)
  type_new (ExprKind-F.Assign a b) t all known has = (typed_as a t has.0, typed_as b t has.1, new_value_type n.structs t ∙ has.2, writable_new n few many is fine a all.0 has.3)
  type_new (ExprKind-F.Update op a b) t all known has =
      (typed_as a t has.0, has.1, subst (λ u. IsOperation op (new t) u (new t)) (sym (new_type n b)) (operation_new op t (type_of b) t has.2), writable_new n few many is fine a all.0 has.3)
  type_new (ExprKind-F.Step op a) t all known has = (typed_as a t has.0, (has.1.0, new_shape n.structs t ∙ has.1.1, has.1.2), writable_new n few many is fine a all.0 has.2)
  type_new (ExprKind-F.Call k args) t all known has =
      let stands = is.prototypes k has.0 has.1 in
      (stands.1, stands.2, stands.3.result ∙ ap new has.2, subst (λ ps. AreArguments many ps (map ren args)) (sym stands.3.params) (arguments_new has.0.params args all has.3))
  type_new (ExprKind-F.Built which args) t all known has = (has.0, has.1, shapes_new args ∙ has.2, has.3, sym (new_of_shape n.structs has.1) ∙ ap new has.4)
  type_new (ExprKind-F.Build args) t all known has = (
    build_new t args has.0,
    subst (λ k. k ≤ most_parts) (sym (length-map args ren)) has.1,
    sound_new n few many is fine t has.2,
    subst (λ h. h ≤ most_high) (means n few many is fine height_meaning t (inr has.2)) has.3,
    plain_stays n.structs t ∙ has.4,
  )
  type_new (ExprKind-F.Convert a) t all known has =
      let flat = convert_stays n.structs (type_of a) t has.0 in
      (ap (λ u. converts u (new t)) (new_type n a) ∙ new_converts n.structs (type_of a) t ∙ has.0, λ same. has.1 (sym flat.0 ∙ sym (new_type n a) ∙ same ∙ flat.1))
  type_new (ExprKind-F.Comma items) t all known has = (subst (λ k. 2 ≤ k) (sym (length-map items ren)) has.0, last_new items ∙ ap (option_map new) has.1)

  -- ---- which parts are read and written

  all_new : (P Q : Expr → Type 0) (es : List Expr) → AllByRecursion Typed es → ((e : Expr) → Typed e → P e → Q (ren e)) → AllByRecursion P es → AllByRecursion Q (map ren es)
  all_new P Q [] all next has = tt
  all_new P Q (e ∷ es) all next has = (next e all.0 has.0, all_new P Q es all.1 next has.1)

  all_in : (params : List (Direction × Ty)) (es : List Expr) → AllByRecursion Typed es → AllByRecursion Typed (going_in params es)
  all_in [] es all = all
  all_in (p ∷ params) [] all = tt
  all_in ((In, u) ∷ params) (e ∷ es) all = (all.0, all_in params es all.1)
  all_in ((Out, u) ∷ params) (e ∷ es) all = all_in params es all.1
  all_in ((InOut, u) ∷ params) (e ∷ es) all = (all.0, all_in params es all.1)

  all_out : (params : List (Direction × Ty)) (es : List Expr) → AllByRecursion Typed es → AllByRecursion Typed (coming_out params es)
  all_out [] es all = tt
  all_out (p ∷ params) [] all = tt
  all_out ((In, u) ∷ params) (e ∷ es) all = all_out params es all.1
  all_out ((Out, u) ∷ params) (e ∷ es) all = (all.0, all_out params es all.1)
  all_out ((InOut, u) ∷ params) (e ∷ es) all = (all.0, all_out params es all.1)

  in_new : (params : List (Direction × Ty)) (es : List Expr) → going_in (map (retyped_param n.structs) params) (map ren es) ≡ map ren (going_in params es)
  in_new [] es = refl
  in_new (p ∷ params) [] = refl
  in_new ((In, u) ∷ params) (e ∷ es) = ap (λ l. ren e ∷ l) (in_new params es)
  in_new ((Out, u) ∷ params) (e ∷ es) = in_new params es
  in_new ((InOut, u) ∷ params) (e ∷ es) = ap (λ l. ren e ∷ l) (in_new params es)

  out_new : (params : List (Direction × Ty)) (es : List Expr) → coming_out (map (retyped_param n.structs) params) (map ren es) ≡ map ren (coming_out params es)
  out_new [] es = refl
  out_new (p ∷ params) [] = refl
  out_new ((In, u) ∷ params) (e ∷ es) = out_new params es
  out_new ((Out, u) ∷ params) (e ∷ es) = ap (λ l. ren e ∷ l) (out_new params es)
  out_new ((InOut, u) ∷ params) (e ∷ es) = ap (λ l. ren e ∷ l) (out_new params es)

  -- the parameters of a callee
  callee_new : (k : ℕ) (p : Prototype) → slice_get few.prototypes k ≡ Some p → params_at (slice_get many.prototypes (new_number n.heads k)) ≡ map (retyped_param n.structs) (params_at (slice_get few.prototypes k))
  callee_new k p there =
      let stands = is.prototypes k p there in
      ap params_at stands.2 ∙ stands.3.params ∙ ap (λ o. map (retyped_param n.structs) (params_at o)) (sym there)

  reads_all : (form : ExprKind-F ExprKind Expr) → AllByRecursion Typed (parts_of form) → AllByRecursion Typed (read_parts few form)
  reads_all (ExprKind-F.Const v) all = all
  reads_all (ExprKind-F.Local k) all = all
  reads_all (ExprKind-F.Global k) all = all
  reads_all (ExprKind-F.Param k) all = all
  reads_all (ExprKind-F.BlockMember b k) all = all
  reads_all (ExprKind-F.Stage var) all = all
  reads_all (ExprKind-F.Interface k) all = all
  reads_all (ExprKind-F.Member a k) all = tt
  reads_all (ExprKind-F.Index a i) all = all.1
  reads_all (ExprKind-F.Swizzle a lanes) all = tt
  reads_all (ExprKind-F.Length a) all = tt
  reads_all (ExprKind-F.Unary op a) all = all
  reads_all (ExprKind-F.Binary op a b) all = all
  reads_all (ExprKind-F.Logic op a b) all = all
  reads_all (ExprKind-F.Choose t a b) all = all
  reads_all (ExprKind-F.Assign a b) all = all.1
  reads_all (ExprKind-F.Update op a b) all = all
  reads_all (ExprKind-F.Step op a) all = all
  reads_all (ExprKind-F.Call k args) all = all_in (params_at (slice_get few.prototypes k)) args all
  reads_all (ExprKind-F.Built which args) all = all
  reads_all (ExprKind-F.Build args) all = all
  reads_all (ExprKind-F.Convert a) all = all
  reads_all (ExprKind-F.Comma items) all = all

  writes_all : (form : ExprKind-F ExprKind Expr) → AllByRecursion Typed (parts_of form) → AllByRecursion Typed (written_parts few form)
  writes_all (ExprKind-F.Const v) all = tt
  writes_all (ExprKind-F.Local k) all = tt
  writes_all (ExprKind-F.Global k) all = tt
  writes_all (ExprKind-F.Param k) all = tt
  writes_all (ExprKind-F.BlockMember b k) all = tt
  writes_all (ExprKind-F.Stage var) all = tt
  writes_all (ExprKind-F.Interface k) all = tt
  writes_all (ExprKind-F.Member a k) all = tt
  writes_all (ExprKind-F.Index a i) all = tt
  writes_all (ExprKind-F.Swizzle a lanes) all = tt
  writes_all (ExprKind-F.Length a) all = tt
  writes_all (ExprKind-F.Unary op a) all = tt
  writes_all (ExprKind-F.Binary op a b) all = tt
  writes_all (ExprKind-F.Logic op a b) all = tt
  writes_all (ExprKind-F.Choose t a b) all = tt
  writes_all (ExprKind-F.Assign a b) all = (all.0, tt)
  writes_all (ExprKind-F.Update op a b) all = (all.0, tt)
  writes_all (ExprKind-F.Step op a) all = all
  writes_all (ExprKind-F.Call k args) all = all_out (params_at (slice_get few.prototypes k)) args all
  writes_all (ExprKind-F.Built which args) all = tt
  writes_all (ExprKind-F.Build args) all = tt
  writes_all (ExprKind-F.Convert a) all = tt
  writes_all (ExprKind-F.Comma items) all = tt

  reads_new : (form : ExprKind-F ExprKind Expr) (u : Ty) → HasType few form u → read_parts many (new_form n form) ≡ map ren (read_parts few form)
  reads_new (ExprKind-F.Const v) u has = refl
  reads_new (ExprKind-F.Local k) u has = refl
  reads_new (ExprKind-F.Global k) u has = refl
  reads_new (ExprKind-F.Param k) u has = refl
  reads_new (ExprKind-F.BlockMember b k) u has = refl
  reads_new (ExprKind-F.Stage var) u has = refl
  reads_new (ExprKind-F.Interface k) u has = refl
  reads_new (ExprKind-F.Member a k) u has = refl
  reads_new (ExprKind-F.Index a i) u has = refl
  reads_new (ExprKind-F.Swizzle a lanes) u has = refl
  reads_new (ExprKind-F.Length a) u has = refl
  reads_new (ExprKind-F.Unary op a) u has = refl
  reads_new (ExprKind-F.Binary op a b) u has = refl
  reads_new (ExprKind-F.Logic op a b) u has = refl
  reads_new (ExprKind-F.Choose t a b) u has = refl
  reads_new (ExprKind-F.Assign a b) u has = refl
  reads_new (ExprKind-F.Update op a b) u has = refl
  reads_new (ExprKind-F.Step op a) u has = refl
  reads_new (ExprKind-F.Call k args) u has =
      ap (λ ps. going_in ps (map ren args)) (callee_new k has.0 has.1) ∙ in_new (params_at (slice_get few.prototypes k)) args
  reads_new (ExprKind-F.Built which args) u has = refl
  reads_new (ExprKind-F.Build args) u has = refl
  reads_new (ExprKind-F.Convert a) u has = refl
  reads_new (ExprKind-F.Comma items) u has = refl

  writes_new : (form : ExprKind-F ExprKind Expr) (u : Ty) → HasType few form u → written_parts many (new_form n form) ≡ map ren (written_parts few form)
  writes_new (ExprKind-F.Const v) u has = refl
  writes_new (ExprKind-F.Local k) u has = refl
  writes_new (ExprKind-F.Global k) u has = refl
  writes_new (ExprKind-F.Param k) u has = refl
  writes_new (ExprKind-F.BlockMember b k) u has = refl
  writes_new (ExprKind-F.Stage var) u has = refl
  writes_new (ExprKind-F.Interface k) u has = refl
  writes_new (ExprKind-F.Member a k) u has = refl
  writes_new (ExprKind-F.Index a i) u has = refl
  writes_new (ExprKind-F.Swizzle a lanes) u has = refl
  writes_new (ExprKind-F.Length a) u has = refl
  writes_new (ExprKind-F.Unary op a) u has = refl
  writes_new (ExprKind-F.Binary op a b) u has = refl
  writes_new (ExprKind-F.Logic op a b) u has = refl
  writes_new (ExprKind-F.Choose t a b) u has = refl
  writes_new (ExprKind-F.Assign a b) u has = refl
  writes_new (ExprKind-F.Update op a b) u has = refl
  writes_new (ExprKind-F.Step op a) u has = refl
  writes_new (ExprKind-F.Call k args) u has =
      ap (λ ps. coming_out ps (map ren args)) (callee_new k has.0 has.1) ∙ out_new (params_at (slice_get few.prototypes k)) args
  writes_new (ExprKind-F.Built which args) u has = refl
  writes_new (ExprKind-F.Build args) u has = refl
  writes_new (ExprKind-F.Convert a) u has = refl
  writes_new (ExprKind-F.Comma items) u has = refl

  node_new : (e : Expr) → IsNode few e → AllByRecursion Typed (parts_of (form_of e)) → AllByRecursion KnownType (parts_of (form_of e)) → IsNode many (ren e)
  node_new e node all known =
      let form = new_form_of n e in
      record {
        type = subst (λ t. HasType many (form_of (ren e)) t) (sym (new_type n e)) (subst (λ f. HasType many f (new (type_of e))) (sym form) (type_new (form_of e) (type_of e) all known node.type));
        reads = subst (AllByRecursion (MayBeRead many)) (sym (ap (read_parts many) form ∙ reads_new (form_of e) (type_of e) node.type))
            (all_new (MayBeRead few) (MayBeRead many) (read_parts few (form_of e)) (reads_all (form_of e) all) (read_new n few many is fine) node.reads);
        writes = subst (AllByRecursion (MayBeWritten many)) (sym (ap (written_parts many) form ∙ writes_new (form_of e) (type_of e) node.type))
            (all_new (MayBeWritten few) (MayBeWritten many) (written_parts few (form_of e)) (writes_all (form_of e) all) (written_new n few many is fine) node.writes);
      }

  mutual
    -- an expression by the new numbers is well typed
    pub expr_new : (e : Expr) → IsExpr few e → IsExpr many (renumbered_expr n e)
    expr_new _ (Throughout.whole e node parts) =
        Throughout.whole (ren e) (node_new e node (all_of_parts few (parts_of (form_of e)) parts) (types_known few is.own fine (parts_of (form_of e)) parts))
        (subst (ThroughoutAll (IsNode many)) (sym (ap parts_of (new_form_of n e) ∙ new_parts n (form_of e))) (exprs_new (parts_of (form_of e)) parts))

    pub exprs_new : (es : List Expr) → ThroughoutAll (IsNode few) es → ThroughoutAll (IsNode many) (map (renumbered_expr n) es)
    exprs_new _ ThroughoutAll.none = ThroughoutAll.none
    exprs_new _ (ThroughoutAll.more e es typed rest) = ThroughoutAll.more (ren e) (map ren es) (expr_new e typed) (exprs_new es rest)
