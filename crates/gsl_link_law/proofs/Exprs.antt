-- An expression that is well typed in a unit is so by the new numbers.
use Rattle.std.proofs.Common.{◌≡◌, refl, sym, ap, ◌∙◌, subst, ℕ, zero, suc, ◌≤◌, inl, inr, Bool, not, ◌&&◌, ◌||◌, IsTrue, nat_le, min, List, [], ◌∷◌, map, length, slice_get, Option, Some, None, unwrap_or, arith}
use Rattle.std.specs.List.{AllByRecursion}
use Rattle.std.proofs.lemmas.Bool.{true≢false}
use Rattle.std.proofs.lemmas.Option.{none-some}
use Rattle.gsl_types.specs.Known.{IsSound}
use Rattle.gsl_types.specs.Leaves.{counting, most_leaves}
use Rattle.gsl_types.specs.Structs.{Meaning, meaning, layer, numbered}
use Rattle.gsl_types.specs.declared.ty.Ty.{Ty}
use Rattle.gsl_types.specs.declared.ty.Ty.TheOpen.{Ty-F}
use Rattle.gsl_types.specs.declared.ty.Ty.TheFolds.{fold-roll-Ty}
use Rattle.gsl_types.specs.declared.ty.Ty.TheVariants as ty
use Rattle.gsl_types.specs.declared.ty.Ty.TheViews.{out-Ty, roll-Ty, roll-out-Ty}
use Rattle.gsl_types.proofs.Layers.{over_void, over_one, over_vector}
use Rattle.gsl_values.specs.Vectors.{components as picked}
use Rattle.gsl_tree.specs.declared.expr.Expr.{Expr}
use Rattle.gsl_tree.specs.declared.expr.ExprKind.{ExprKind}
use Rattle.gsl_tree.specs.declared.expr.ExprKind.TheOpen.{ExprKind-F}
use Rattle.gsl_tree.specs.declared.unit.Block.{Block}
use Rattle.gsl_tree.specs.declared.unit.BlockMember.{BlockMember}
use Rattle.gsl_tree.specs.declared.unit.GlobalVar.{GlobalVar}
use Rattle.gsl_tree.specs.Around.{Around, consts_of, known_value, member_in, writes_member, is_writeonly, is_buffer}
use Rattle.gsl_tree.specs.Constants.{constant_of, known_at}
use Rattle.gsl_tree.specs.Trees.{type_of, form_of, parts_of, ThroughoutAll}
use Rattle.gsl_tree.specs.Paths.{in_block, in_block_by, unreadable_by, writable_by, is_unreadable, is_writable, is_variable, is_output, is_whole_copy, is_small, is_aggregate, most_copied, repeats}
use Rattle.gsl_tree.specs.Expressions.{IsExpr, IsNode, HasType, MayBeRead, MayBeWritten, is_runtime_layer}
use Rattle.gsl_link_units.specs.Types.{new_number, retyped, retyped_layer}
use Rattle.gsl_link_whole.specs.Numbers.{Numbering}
use Rattle.gsl_link_whole.specs.Renumbering.{renumbered_expr}
use Rattle.gsl_link_law.specs.Renumbered.{IsRenumbered, HasTypes, IsMember}
use Rattle.gsl_link_law.proofs.Retyped.{retyped_sound}
use Rattle.gsl_link_law.proofs.Meant.{type_means, number_within}
use Rattle.gsl_link_law.proofs.Layered.{new_aggregate, new_runtime}
use Rattle.gsl_link_law.proofs.Forms.{new_type, SaysSame, SameForm, says_same}
use Rattle.gsl_link_law.proofs.Known.{IsFlat, IsKnown, is_flat_layer, type_known}
use Rattle.gsl_link_law.proofs.Constant.{KnownAlike, constant_same}

-- ---- lists

pub at_mapped : {A B : Type 0} (g : A → B) (xs : List A) (k : ℕ) (x : A) → slice_get xs k ≡ Some x → slice_get (map g xs) k ≡ Some (g x)
at_mapped g [] k x is = elim (none-some x is) [ ]
at_mapped g (y ∷ ys) zero x is = ap (λ o. Some (g (unwrap_or o x))) is
at_mapped g (y ∷ ys) (suc k) x is = at_mapped g ys k x is

known_mapped : (gs : List GlobalVar) (k : ℕ) (g : GlobalVar) → slice_get gs k ≡ Some g → known_at (consts_of gs).globals k ≡ known_value g.constant g.value
known_mapped [] k g is = elim (none-some g is) [ ]
known_mapped (x ∷ gs) zero g is = ap (λ o. known_value (unwrap_or o g).constant (unwrap_or o g).value) is
known_mapped (x ∷ gs) (suc k) g is = known_mapped gs k g is

pub all_of_parts : (around : Around) (es : List Expr) → ThroughoutAll (IsNode around) es → AllByRecursion (IsExpr around) es
all_of_parts around _ ThroughoutAll.none = tt
all_of_parts around _ (ThroughoutAll.more e es is rest) = (is, all_of_parts around es rest)

module _ (n : Numbering) (few many : Around) (is : IsRenumbered n few many) (fine : HasTypes few) where
  abbrev new : Ty → Ty
  new = retyped n.structs

  abbrev ren : Expr → Expr
  ren = renumbered_expr n

  abbrev here : ℕ
  here = length few.structs

  whole : length n.structs ≤ length few.structs
  whole = let count = is.count in omega (arith, count)

  -- ---- types

  flat_means : {A : Type 0} (m : Meaning A) (t : Ty) → IsFlat t → meaning m few.structs t ≡ meaning m many.structs (new t)
  flat_means {A} m t flat = subst (λ u. meaning m few.structs u ≡ meaning m many.structs (new u)) (roll-out-Ty t) (by_layer (out-Ty t) flat)
    where
      meant : (x : Ty-F Ty) (u : Ty) → new (roll-Ty x) ≡ u → meaning m many.structs (new (roll-Ty x)) ≡ meaning m many.structs u
      meant x u same = ap (meaning m many.structs) same

      by_layer : (y : Ty-F Ty) → IsTrue (is_flat_layer y) → meaning m few.structs (roll-Ty y) ≡ meaning m many.structs (new (roll-Ty y))
      by_layer Ty-F.Void f = fold-roll-Ty A (layer m (numbered m few.structs)) Ty-F.Void ∙ sym (meant Ty-F.Void ty.Void (fold-roll-Ty Ty (retyped_layer n.structs) Ty-F.Void) ∙ over_void m (numbered m many.structs))
      by_layer (Ty-F.One s) f =
          fold-roll-Ty A (layer m (numbered m few.structs)) (Ty-F.One s) ∙ sym (meant (Ty-F.One s) (ty.One s) (fold-roll-Ty Ty (retyped_layer n.structs) (Ty-F.One s)) ∙ over_one m (numbered m many.structs) s)
      by_layer (Ty-F.Vector s k) f =
          fold-roll-Ty A (layer m (numbered m few.structs)) (Ty-F.Vector s k) ∙ sym (meant (Ty-F.Vector s k) (ty.Vector s k) (fold-roll-Ty Ty (retyped_layer n.structs) (Ty-F.Vector s k)) ∙ over_vector m (numbered m many.structs) s k)
      by_layer (Ty-F.Array e k) f = let never : ⊥ = true≢false (sym f) in elim never [ ]
      by_layer (Ty-F.Runtime e) f = let never : ⊥ = true≢false (sym f) in elim never [ ]
      by_layer (Ty-F.Struct k) f = let never : ⊥ = true≢false (sym f) in elim never [ ]

  sound_means : {A : Type 0} (m : Meaning A) (t : Ty) → IsSound here t → meaning m few.structs t ≡ meaning m many.structs (new t)
  sound_means m t known = type_means m few.structs many.structs n.structs whole is.own is.known is.structs t (subst (λ k. IsSound k t) (sym is.count) known)

  -- a type means by the new numbers what it meant
  pub means : {A : Type 0} (m : Meaning A) (t : Ty) → IsKnown here t → meaning m few.structs t ≡ meaning m many.structs (new t)
  means m t (inl flat) = flat_means m t flat
  means m t (inr known) = sound_means m t known

  pub sound_new : (t : Ty) → IsSound here t → IsSound (length many.structs) (new t)
  sound_new t known =
      retyped_sound n.structs (length n.structs) (length many.structs) (number_within few.structs many.structs n.structs whole is.structs) t (subst (λ k. IsSound k t) (sym is.count) known)

  pub small_new : (t : Ty) → IsKnown here t → is_small few t ≡ is_small many (new t)
  small_new t known = ap (λ k. nat_le (min k most_leaves) most_copied) (means counting t known)

  small_too : (b c : Bool) (t u : Ty) → c ≡ b → u ≡ new t → IsKnown here t → IsTrue (b || is_small few t) → IsTrue (c || is_small many u)
  small_too b c t u same alike known small =
      ap (λ x. x || is_small many u) same ∙ ap (λ v. b || is_small many v) alike ∙ ap (λ x. b || x) (sym (small_new t known)) ∙ small

  -- ---- blocks

  pub member_new : (k : ℕ) (m : BlockMember) (b : ℕ) (o : Option Block) → slice_get few.blocks b ≡ o → member_in o k ≡ Some m
      → (block : Block) × (other : Block) × (found : BlockMember) × (slice_get few.blocks b ≡ Some block) × (slice_get many.blocks (new_number n.blocks b) ≡ Some other)
      × (other.kind ≡ block.kind) × (slice_get block.members k ≡ Some m) × (slice_get other.members k ≡ Some found) × IsMember n.structs m found
  member_new k m b None at there = elim (none-some m there) [ ]
  member_new k m b (Some block) at there =
      let stands = is.blocks b block at in
      let member = stands.3.members k m there in
      (block, stands.1, member.0, at, stands.2, stands.3.kind, there, member.1, member.2)

  -- ---- what is unreadable, what may be written, what is in a block

  abbrev InBlock : Expr → Type 0
  InBlock = SaysSame n in_block_by in_block_by (IsNode few)

  block_form : (form : ExprKind-F ExprKind Expr) → AllByRecursion InBlock (parts_of form) → SameForm n in_block_by in_block_by (IsNode few) form
  block_form (ExprKind-F.Const v) all = refl
  block_form (ExprKind-F.Local k) all = refl
  block_form (ExprKind-F.Global k) all = refl
  block_form (ExprKind-F.Param k) all = refl
  block_form (ExprKind-F.BlockMember b k) all = refl
  block_form (ExprKind-F.Stage var) all = refl
  block_form (ExprKind-F.Interface k) all = refl
  block_form (ExprKind-F.Member a k) all = all.0
  block_form (ExprKind-F.Index a i) all = all.0
  block_form (ExprKind-F.Swizzle a lanes) all = all.0
  block_form (ExprKind-F.Length a) all = refl
  block_form (ExprKind-F.Unary op a) all = refl
  block_form (ExprKind-F.Binary op a b) all = refl
  block_form (ExprKind-F.Logic op a b) all = refl
  block_form (ExprKind-F.Choose t a b) all = refl
  block_form (ExprKind-F.Assign a b) all = refl
  block_form (ExprKind-F.Update op a b) all = refl
  block_form (ExprKind-F.Step op a) all = refl
  block_form (ExprKind-F.Call k args) all = refl
  block_form (ExprKind-F.Built which args) all = refl
  block_form (ExprKind-F.Build args) all = refl
  block_form (ExprKind-F.Convert a) all = refl
  block_form (ExprKind-F.Comma items) all = refl

  pub block_new : (e : Expr) → IsExpr few e → in_block (renumbered_expr n e) ≡ in_block e
  block_new e typed = says_same n in_block_by in_block_by (IsNode few) (λ x node all. block_form (form_of x) all) e typed

  pub copy_new : (e : Expr) → IsExpr few e → is_whole_copy (ren e) ≡ is_whole_copy e
  copy_new e typed =
      ap (λ b. b && is_aggregate (type_of (ren e))) (block_new e typed) ∙ ap (λ t. in_block e && is_aggregate t) (new_type n e) ∙ ap (λ b. in_block e && b) (new_aggregate n.structs (type_of e))

  abbrev Unread : Expr → Type 0
  Unread = SaysSame n (unreadable_by few) (unreadable_by many) (IsNode few)

  unread_form : (form : ExprKind-F ExprKind Expr) (u : Ty) → HasType few form u → AllByRecursion Unread (parts_of form) → SameForm n (unreadable_by few) (unreadable_by many) (IsNode few) form
  unread_form (ExprKind-F.Const v) u typed all = refl
  unread_form (ExprKind-F.Local k) u typed all = refl
  unread_form (ExprKind-F.Global k) u typed all = refl
  unread_form (ExprKind-F.Param k) u typed all = refl
  unread_form (ExprKind-F.BlockMember b k) u typed all =
      let found = member_new k typed.0 b (slice_get few.blocks b) refl typed.1 in
      ap is_writeonly (ap (λ o. member_in o k) found.4 ∙ found.7) ∙ found.8.writeonly ∙ ap is_writeonly (sym typed.1)
  unread_form (ExprKind-F.Stage var) u typed all = refl
  unread_form (ExprKind-F.Interface k) u typed all = refl
  unread_form (ExprKind-F.Member a k) u typed all = all.0
  unread_form (ExprKind-F.Index a i) u typed all = all.0
  unread_form (ExprKind-F.Swizzle a lanes) u typed all = all.0
  unread_form (ExprKind-F.Length a) u typed all = refl
  unread_form (ExprKind-F.Unary op a) u typed all = refl
  unread_form (ExprKind-F.Binary op a b) u typed all = refl
  unread_form (ExprKind-F.Logic op a b) u typed all = refl
  unread_form (ExprKind-F.Choose t a b) u typed all = refl
  unread_form (ExprKind-F.Assign a b) u typed all = refl
  unread_form (ExprKind-F.Update op a b) u typed all = refl
  unread_form (ExprKind-F.Step op a) u typed all = refl
  unread_form (ExprKind-F.Call k args) u typed all = refl
  unread_form (ExprKind-F.Built which args) u typed all = refl
  unread_form (ExprKind-F.Build args) u typed all = refl
  unread_form (ExprKind-F.Convert a) u typed all = refl
  unread_form (ExprKind-F.Comma items) u typed all = refl

  unread_new : (e : Expr) → IsExpr few e → is_unreadable many (ren e) ≡ is_unreadable few e
  unread_new e typed = says_same n (unreadable_by few) (unreadable_by many) (IsNode few) (λ x node all. unread_form (form_of x) (type_of x) node.type all) e typed

  abbrev Writes : Expr → Type 0
  Writes = SaysSame n (writable_by few) (writable_by many) (IsNode few)

  written_member : (block other : Block) (m found : BlockMember) → other.kind ≡ block.kind → found.readonly ≡ m.readonly
      → writes_member (Some other) (Some found) ≡ writes_member (Some block) (Some m)
  written_member block other m found kind readonly = ap (λ k. is_buffer k && not found.readonly) kind ∙ ap (λ r. is_buffer block.kind && not r) readonly

  write_form : (form : ExprKind-F ExprKind Expr) (u : Ty) → HasType few form u → AllByRecursion Writes (parts_of form) → SameForm n (writable_by few) (writable_by many) (IsNode few) form
  write_form (ExprKind-F.Const v) u typed all = refl
  write_form (ExprKind-F.Local k) u typed all = refl
  write_form (ExprKind-F.Global k) u typed all =
      let stands = is.globals k typed.0 typed.1 in
      ap is_variable stands.2 ∙ ap not stands.3.constant ∙ ap is_variable (sym typed.1)
  write_form (ExprKind-F.Param k) u typed all = refl
  write_form (ExprKind-F.BlockMember b k) u typed all =
      let found = member_new k typed.0 b (slice_get few.blocks b) refl typed.1 in
      ap (λ o. writes_member o (member_in o k)) found.4 ∙ ap (writes_member (Some found.1)) found.7
      ∙ written_member found.0 found.1 typed.0 found.2 found.5 found.8.readonly
      ∙ ap (writes_member (Some found.0)) (sym found.6) ∙ ap (λ o. writes_member o (member_in o k)) (sym found.3)
  write_form (ExprKind-F.Stage var) u typed all = refl
  write_form (ExprKind-F.Interface k) u typed all =
      let stands = is.interfaces k typed.0 typed.1 in
      ap is_output stands.2 ∙ stands.3.output ∙ ap is_output (sym typed.1)
  write_form (ExprKind-F.Member a k) u typed all = all.0
  write_form (ExprKind-F.Index a i) u typed all = all.0
  write_form (ExprKind-F.Swizzle a lanes) u typed all = ap (λ w. w && not (repeats (picked lanes))) all.0
  write_form (ExprKind-F.Length a) u typed all = refl
  write_form (ExprKind-F.Unary op a) u typed all = refl
  write_form (ExprKind-F.Binary op a b) u typed all = refl
  write_form (ExprKind-F.Logic op a b) u typed all = refl
  write_form (ExprKind-F.Choose t a b) u typed all = refl
  write_form (ExprKind-F.Assign a b) u typed all = refl
  write_form (ExprKind-F.Update op a b) u typed all = refl
  write_form (ExprKind-F.Step op a) u typed all = refl
  write_form (ExprKind-F.Call k args) u typed all = refl
  write_form (ExprKind-F.Built which args) u typed all = refl
  write_form (ExprKind-F.Build args) u typed all = refl
  write_form (ExprKind-F.Convert a) u typed all = refl
  write_form (ExprKind-F.Comma items) u typed all = refl

  write_new : (e : Expr) → IsExpr few e → is_writable many (ren e) ≡ is_writable few e
  write_new e typed = says_same n (writable_by few) (writable_by many) (IsNode few) (λ x node all. write_form (form_of x) (type_of x) node.type all) e typed

  pub read_new : (e : Expr) → IsExpr few e → MayBeRead few e → MayBeRead many (renumbered_expr n e)
  read_new e typed reads = (
    ap not (unread_new e typed) ∙ reads.0,
    ap (λ t. not (is_runtime_layer (out-Ty t))) (new_type n e) ∙ ap not (new_runtime n.structs (type_of e)) ∙ reads.1,
    small_too (not (is_whole_copy e)) (not (is_whole_copy (ren e))) (type_of e) (type_of (ren e)) (ap not (copy_new e typed)) (new_type n e) (type_known few is.own fine e typed) reads.2,
  )

  pub written_new : (e : Expr) → IsExpr few e → MayBeWritten few e → MayBeWritten many (ren e)
  written_new e typed writes =
      small_too (not (is_whole_copy e)) (not (is_whole_copy (ren e))) (type_of e) (type_of (ren e)) (ap not (copy_new e typed)) (new_type n e) (type_known few is.own fine e typed) writes

  pub writable_new : (e : Expr) → IsExpr few e → IsTrue (is_writable few e) → IsTrue (is_writable many (ren e))
  writable_new e typed writes = write_new e typed ∙ writes

  -- ---- constants

  alike_form : (form : ExprKind-F ExprKind Expr) (u : Ty) → HasType few form u → KnownAlike n (consts_of many.globals) (consts_of few.globals) form
  alike_form (ExprKind-F.Const v) u typed = tt
  alike_form (ExprKind-F.Local k) u typed = refl
  alike_form (ExprKind-F.Global k) u typed =
      let stands = is.globals k typed.0 typed.1 in
      known_mapped many.globals (new_number n.globals k) stands.1 stands.2 ∙ stands.3.known ∙ sym (known_mapped few.globals k typed.0 typed.1)
  alike_form (ExprKind-F.Param k) u typed = tt
  alike_form (ExprKind-F.BlockMember b k) u typed = tt
  alike_form (ExprKind-F.Stage var) u typed = tt
  alike_form (ExprKind-F.Interface k) u typed = tt
  alike_form (ExprKind-F.Member a k) u typed = tt
  alike_form (ExprKind-F.Index a i) u typed = tt
  alike_form (ExprKind-F.Swizzle a lanes) u typed = tt
  alike_form (ExprKind-F.Length a) u typed = tt
  alike_form (ExprKind-F.Unary op a) u typed = tt
  alike_form (ExprKind-F.Binary op a b) u typed = tt
  alike_form (ExprKind-F.Logic op a b) u typed = tt
  alike_form (ExprKind-F.Choose t a b) u typed = tt
  alike_form (ExprKind-F.Assign a b) u typed = tt
  alike_form (ExprKind-F.Update op a b) u typed = tt
  alike_form (ExprKind-F.Step op a) u typed = tt
  alike_form (ExprKind-F.Call k args) u typed = tt
  alike_form (ExprKind-F.Built which args) u typed = tt
  alike_form (ExprKind-F.Build args) u typed = tt
  alike_form (ExprKind-F.Convert a) u typed = tt
  alike_form (ExprKind-F.Comma items) u typed = tt

  pub constant_new : (e : Expr) → IsExpr few e → constant_of (consts_of many.globals) (renumbered_expr n e) ≡ constant_of (consts_of few.globals) e
  constant_new e typed = constant_same n (consts_of many.globals) (consts_of few.globals) (IsNode few) (λ x node. alike_form (form_of x) (type_of x) node.type) e typed
