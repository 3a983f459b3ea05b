-- What is well typed stays so where lists grow at their ends.
use Rattle.std.proofs.Common.{◌≡◌, refl, sym, ap, ◌∙◌, subst, ℕ, zero, suc, ◌≤◌, List, [], ◌∷◌, map, length, slice_get, Option, Some, None, unwrap_or, Bool, not, ◌&&◌, ◌||◌, IsTrue, nat_le, inl, inr}
use Rattle.std.specs.List.{AllByRecursion}
use Rattle.std.proofs.lemmas.Option.{none-some}
use Rattle.gsl_types.specs.Known.{IsSound}
use Rattle.gsl_types.proofs.Layers.{sound_stays}
use Rattle.gsl_types.specs.declared.ty.Direction.{Direction}
use Rattle.gsl_types.specs.declared.ty.Direction.TheVariants.{In, Out, InOut}
use Rattle.gsl_types.specs.declared.ty.Ty.{Ty}
use Rattle.gsl_types.specs.declared.ty.Ty.TheOpen.{Ty-F}
use Rattle.gsl_types.specs.declared.ty.Ty.TheViews.{out-Ty}
use Rattle.gsl_values.specs.declared.value.Value.{Value}
use Rattle.gsl_tree.specs.declared.expr.Expr.{Expr, out-Expr}
use Rattle.gsl_tree.specs.declared.expr.ExprKind.{ExprKind}
use Rattle.gsl_tree.specs.declared.expr.ExprKind.TheOpen.{ExprKind-F}
use Rattle.gsl_tree.specs.declared.expr.ExprKind.TheFolds.{fold-ExprKind, fold-roll-Expr, fold-roll-ExprKind, map-ExprKind}
use Rattle.gsl_tree.specs.declared.expr.ExprKind.TheViews.{roll-out-Expr, roll-out-ExprKind}
use Rattle.gsl_tree.specs.declared.folded.Folded.{Folded}
use Rattle.gsl_tree.specs.declared.folded.Folded.TheVariants.{Known}
use Rattle.gsl_tree.specs.declared.unit.Block.{Block}
use Rattle.gsl_tree.specs.declared.unit.BlockMember.{BlockMember}
use Rattle.gsl_tree.specs.declared.unit.GlobalVar.{GlobalVar}
use Rattle.gsl_tree.specs.declared.unit.LocalSize.{LocalSize}
use Rattle.gsl_tree.specs.Around.{Around, consts_of, member_in, writes_member, is_writeonly, known_value}
use Rattle.gsl_tree.specs.Constants.{constant_of, known_at}
use Rattle.gsl_tree.specs.Paths.{test_of, kind_in, unreadable_by, writable_by, is_unreadable, is_writable, is_variable, is_output, is_whole_copy, is_small, is_aggregate, read_parts, written_parts, params_at, going_in, coming_out, repeats}
use Rattle.gsl_values.specs.Vectors.{components as picked}
use Rattle.gsl_tree.specs.Trees.{type_of, form_of, parts_of, Throughout, ThroughoutAll}
use Rattle.gsl_tree.specs.Weights.{most_high}
use Rattle.gsl_tree.specs.Expressions.{IsExpr, IsNode, HasType, IsBuildKind, IsArgument, AreArguments, MayBeRead, MayBeWritten}
use Rattle.gsl_typing.specs.declared.scene.Scene.{Scene}
use Rattle.gsl_typing.specs.Scene.{around}
use Rattle.gsl_check_law.specs.Scenes.{IsScene}
use Rattle.gsl_check_law.proofs.Constants.{LeafKnown, stays_known}
use Rattle.gsl_check_law.proofs.Longer.{Grows}
use Rattle.gsl_check_law.proofs.Places.{in_range_too}
use Rattle.gsl_check_law.proofs.Sounds.{type_sound}

-- ---- a test of an expression, by its form

form_test : (by : ExprKind-F Bool Bool → Bool) (e : Expr) → test_of by e ≡ by (map-ExprKind _ _ _ _ (fold-ExprKind Bool Bool by kind_in) (test_of by) (form_of e))
form_test by e =
    ap (test_of by) (sym (roll-out-Expr e)) ∙ fold-roll-Expr Bool Bool by kind_in (out-Expr e)
    ∙ ap (fold-ExprKind Bool Bool by kind_in) (sym (roll-out-ExprKind (out-Expr e).kind)) ∙ fold-roll-ExprKind Bool Bool by kind_in (form_of e)

at_mapped : {A B : Type 0} (g : A → B) (xs : List A) (k : ℕ) (x : A) → slice_get xs k ≡ Some x → slice_get (map g xs) k ≡ Some (g x)
at_mapped g [] k x is = elim (none-some x is) [ ]
at_mapped g (y ∷ ys) zero x is = ap (λ o. Some (g (unwrap_or o x))) is
at_mapped g (y ∷ ys) (suc k) x is = at_mapped g ys k x is

mapped_from : {A B : Type 0} (g : A → B) (xs : List A) (k : ℕ) (y : B) → slice_get (map g xs) k ≡ Some y → (x : A) × (slice_get xs k ≡ Some x) × (g x ≡ y)
mapped_from g [] k y is = elim (none-some y is) [ ]
mapped_from g (x ∷ xs) zero y is = (x, refl, ap (λ o. unwrap_or o y) is)
mapped_from g (x ∷ xs) (suc k) y is = mapped_from g xs k y is

known_mapped : (g : GlobalVar → Folded) (gs : List GlobalVar) (n : ℕ) (x : GlobalVar) → slice_get gs n ≡ Some x → known_at (map g gs) n ≡ g x
known_mapped g [] n x is = elim (none-some x is) [ ]
known_mapped g (y ∷ gs) zero x is = ap (λ o. g (unwrap_or o x)) is
known_mapped g (y ∷ gs) (suc n) x is = known_mapped g gs n x is

all_of_parts : (around : Around) (es : List Expr) → ThroughoutAll (IsNode around) es → AllByRecursion (IsExpr around) es
all_of_parts around _ ThroughoutAll.none = tt
all_of_parts around _ (ThroughoutAll.more e es is rest) = (is, all_of_parts around es rest)

pub parts_all : (around : Around) (e : Expr) → IsExpr around e → AllByRecursion (IsExpr around) (parts_of (form_of e))
parts_all around _ (Throughout.whole e node parts) = all_of_parts around (parts_of (form_of e)) parts

pub type_here : (around : Around) (e : Expr) → IsExpr around e → HasType around (form_of e) (type_of e)
type_here around _ (Throughout.whole e node parts) = node.type

module _ (s t : Scene) (fine : IsScene s) (grows : Grows s t) where
  abbrev few : Around
  few = around s

  abbrev many : Around
  many = around t

  abbrev Sound : Ty → Type 0
  Sound u = IsSound (length s.structs) u

  stays : (u : Ty) → Sound u → IsSound (length t.structs) u
  stays u known = sound_stays (length s.structs) (length t.structs) grows.count u known

  small_grows : (b : Bool) (u : Ty) → Sound u → IsTrue (b || is_small few u) → IsTrue (b || is_small many u)
  small_grows b u known is = subst (λ n. IsTrue (b || nat_le n 1024)) (grows.leaves u known) is

  -- ---- constants

  leaf_known : (form : ExprKind-F ExprKind Expr) (u : Ty) → HasType few form u → LeafKnown (consts_of t.globals) (consts_of s.globals) form
  leaf_known (ExprKind-F.Local n) u is = λ v known. let no : ⊥ = cc in elim no [ ]
  leaf_known (ExprKind-F.Global n) u is = λ v known.
      known_mapped (λ (g : GlobalVar). known_value g.constant g.value) s.globals n is.0 is.1
      ∙ sym (known_mapped (λ (g : GlobalVar). known_value g.constant g.value) t.globals n is.0 (grows.globals n is.0 is.1)) ∙ known
  leaf_known _ u is = tt

  known_before : (e : Expr) → IsExpr few e → (v : Value) → constant_of (consts_of t.globals) e ≡ Known v → constant_of (consts_of s.globals) e ≡ Known v
  known_before = stays_known (consts_of t.globals) (consts_of s.globals) (IsExpr few) (parts_all few) (λ e is. leaf_known (form_of e) (type_of e) (type_here few e is))

  -- ---- what may be read and written

  member_grows : (n : ℕ) (m : BlockMember) (b : ℕ) (o : Option Block) → slice_get s.blocks b ≡ o → member_in o n ≡ Some m → (block : Block) × (slice_get s.blocks b ≡ Some block) × (slice_get t.blocks b ≡ Some block) × (slice_get block.members n ≡ Some m)
  member_grows n m b None at is = elim (none-some m is) [ ]
  member_grows n m b (Some block) at is = (block, at, grows.blocks b block at, is)

  unread_form : (form : ExprKind-F ExprKind Expr) (u : Ty) → HasType few form u → AllByRecursion (λ (e : Expr). is_unreadable few e ≡ is_unreadable many e) (parts_of form)
      → unreadable_by few (map-ExprKind _ _ _ _ (fold-ExprKind Bool Bool (unreadable_by few) kind_in) (is_unreadable few) form) ≡ unreadable_by many (map-ExprKind _ _ _ _ (fold-ExprKind Bool Bool (unreadable_by many) kind_in) (is_unreadable many) form)
  unread_form (ExprKind-F.BlockMember b n) u is parts =
      let found = member_grows n is.0 b (slice_get s.blocks b) refl is.1 in
      ap is_writeonly (is.1 ∙ sym (ap (λ o. member_in o n) found.2 ∙ found.3))
  unread_form (ExprKind-F.Member a n) u is parts = parts.0
  unread_form (ExprKind-F.Index a i) u is parts = parts.0
  unread_form (ExprKind-F.Swizzle a lanes) u is parts = parts.0
  unread_form (ExprKind-F.Const v) u is parts = refl
  unread_form (ExprKind-F.Local n) u is parts = refl
  unread_form (ExprKind-F.Global n) u is parts = refl
  unread_form (ExprKind-F.Param n) u is parts = refl
  unread_form (ExprKind-F.Stage var) u is parts = refl
  unread_form (ExprKind-F.Interface n) u is parts = refl
  unread_form (ExprKind-F.Length a) u is parts = refl
  unread_form (ExprKind-F.Unary o a) u is parts = refl
  unread_form (ExprKind-F.Binary o a b) u is parts = refl
  unread_form (ExprKind-F.Logic o a b) u is parts = refl
  unread_form (ExprKind-F.Choose c a b) u is parts = refl
  unread_form (ExprKind-F.Assign a b) u is parts = refl
  unread_form (ExprKind-F.Update o a b) u is parts = refl
  unread_form (ExprKind-F.Step o a) u is parts = refl
  unread_form (ExprKind-F.Call n args) u is parts = refl
  unread_form (ExprKind-F.Built which args) u is parts = refl
  unread_form (ExprKind-F.Build args) u is parts = refl
  unread_form (ExprKind-F.Convert a) u is parts = refl
  unread_form (ExprKind-F.Comma items) u is parts = refl

  write_form : (form : ExprKind-F ExprKind Expr) (u : Ty) → HasType few form u → AllByRecursion (λ (e : Expr). is_writable few e ≡ is_writable many e) (parts_of form)
      → writable_by few (map-ExprKind _ _ _ _ (fold-ExprKind Bool Bool (writable_by few) kind_in) (is_writable few) form) ≡ writable_by many (map-ExprKind _ _ _ _ (fold-ExprKind Bool Bool (writable_by many) kind_in) (is_writable many) form)
  write_form (ExprKind-F.BlockMember b n) u is parts =
      let found = member_grows n is.0 b (slice_get s.blocks b) refl is.1 in
      ap (λ o. writes_member o (member_in o n)) (found.1 ∙ sym found.2)
  write_form (ExprKind-F.Global n) u is parts = ap is_variable (is.1 ∙ sym (grows.globals n is.0 is.1))
  write_form (ExprKind-F.Interface n) u is parts = ap is_output (is.1 ∙ sym (grows.interfaces n is.0 is.1))
  write_form (ExprKind-F.Member a n) u is parts = parts.0
  write_form (ExprKind-F.Index a i) u is parts = parts.0
  write_form (ExprKind-F.Swizzle a lanes) u is parts = ap (λ w. w && not (repeats (picked lanes))) parts.0
  write_form (ExprKind-F.Const v) u is parts = refl
  write_form (ExprKind-F.Local n) u is parts = refl
  write_form (ExprKind-F.Param n) u is parts = refl
  write_form (ExprKind-F.Stage var) u is parts = refl
  write_form (ExprKind-F.Length a) u is parts = refl
  write_form (ExprKind-F.Unary o a) u is parts = refl
  write_form (ExprKind-F.Binary o a b) u is parts = refl
  write_form (ExprKind-F.Logic o a b) u is parts = refl
  write_form (ExprKind-F.Choose c a b) u is parts = refl
  write_form (ExprKind-F.Assign a b) u is parts = refl
  write_form (ExprKind-F.Update o a b) u is parts = refl
  write_form (ExprKind-F.Step o a) u is parts = refl
  write_form (ExprKind-F.Call n args) u is parts = refl
  write_form (ExprKind-F.Built which args) u is parts = refl
  write_form (ExprKind-F.Build args) u is parts = refl
  write_form (ExprKind-F.Convert a) u is parts = refl
  write_form (ExprKind-F.Comma items) u is parts = refl

  mutual
    unread_same : (e : Expr) → IsExpr few e → is_unreadable few e ≡ is_unreadable many e
    unread_same _ (Throughout.whole e node parts) = form_test (unreadable_by few) e ∙ unread_form (form_of e) (type_of e) node.type (unread_all (parts_of (form_of e)) parts) ∙ sym (form_test (unreadable_by many) e)

    unread_all : (es : List Expr) → ThroughoutAll (IsNode few) es → AllByRecursion (λ (e : Expr). is_unreadable few e ≡ is_unreadable many e) es
    unread_all _ ThroughoutAll.none = tt
    unread_all _ (ThroughoutAll.more e es is rest) = (unread_same e is, unread_all es rest)

  mutual
    write_same : (e : Expr) → IsExpr few e → is_writable few e ≡ is_writable many e
    write_same _ (Throughout.whole e node parts) = form_test (writable_by few) e ∙ write_form (form_of e) (type_of e) node.type (write_all (parts_of (form_of e)) parts) ∙ sym (form_test (writable_by many) e)

    write_all : (es : List Expr) → ThroughoutAll (IsNode few) es → AllByRecursion (λ (e : Expr). is_writable few e ≡ is_writable many e) es
    write_all _ ThroughoutAll.none = tt
    write_all _ (ThroughoutAll.more e es is rest) = (write_same e is, write_all es rest)

  pub read_grows : (e : Expr) → IsExpr few e → MayBeRead few e → MayBeRead many e
  read_grows e is reads = (ap not (sym (unread_same e is)) ∙ reads.0, reads.1, small_grows (not (is_whole_copy e)) (type_of e) (type_sound s fine e is) reads.2)

  pub written_grows : (e : Expr) → IsExpr few e → MayBeWritten few e → MayBeWritten many e
  written_grows e is writes = small_grows (not (is_whole_copy e)) (type_of e) (type_sound s fine e is) writes

  writable_grows : (e : Expr) → IsExpr few e → IsTrue (is_writable few e) → IsTrue (is_writable many e)
  writable_grows e is writes = sym (write_same e is) ∙ writes

  -- ---- types of nodes

  argument_grows : (d : Direction) (u : Ty) (e : Expr) → IsExpr few e → IsArgument few d u e → IsArgument many d u e
  argument_grows In u e known is = is
  argument_grows Out u e known is = (is.0, writable_grows e known is.1)
  argument_grows InOut u e known is = (is.0, writable_grows e known is.1)

  arguments_grow : (params : List (Direction × Ty)) (es : List Expr) → AllByRecursion (IsExpr few) es → AreArguments few params es → AreArguments many params es
  arguments_grow [] [] all is = tt
  arguments_grow [] (e ∷ es) all is = elim is [ ]
  arguments_grow (p ∷ params) [] all is = elim is [ ]
  arguments_grow (p ∷ params) (e ∷ es) all is = (argument_grows p.0 p.1 e all.0 is.0, arguments_grow params es all.1 is.1)

  build_grows : (layer : Ty-F Ty) (es : List Expr) → IsBuildKind few layer es → IsBuildKind many layer es
  build_grows Ty-F.Void es is = is
  build_grows (Ty-F.One x) es is = is
  build_grows (Ty-F.Vector x n) es is = is
  build_grows (Ty-F.Array e n) es is = is
  build_grows (Ty-F.Runtime e) es is = is
  build_grows (Ty-F.Struct n) es is = (is.0, grows.structs n is.0 is.1, is.2)

  size_grows : (k : ℕ) (size : List ℕ) → slice_get few.sizes k ≡ Some size → slice_get many.sizes k ≡ Some size
  size_grows k size is =
      let found = mapped_from (λ (x : LocalSize). x.parts) s.sizes k size is in
      at_mapped (λ (x : LocalSize). x.parts) t.sizes k found.0 (grows.sizes k found.0 found.1) ∙ ap Some found.2

  type_grows : (form : ExprKind-F ExprKind Expr) (u : Ty) → AllByRecursion (IsExpr few) (parts_of form) → AllByRecursion (λ (e : Expr). Sound (type_of e)) (parts_of form) → Sound u → HasType few form u → HasType many form u
  type_grows (ExprKind-F.Const v) u all sounds known (value, inl is) = (sym (grows.values u v known) ∙ value, inl is)
  type_grows (ExprKind-F.Const v) u all sounds known (value, inr is) = (sym (grows.values u v known) ∙ value, inr (is.0, sym grows.stage ∙ is.1, (is.2.0, size_grows is.2.0 _ is.2.1)))
  type_grows (ExprKind-F.Local n) u all sounds known is = grows.locals n u is
  type_grows (ExprKind-F.Global n) u all sounds known is = (is.0, grows.globals n is.0 is.1, is.2)
  type_grows (ExprKind-F.Param n) u all sounds known is = (is.0, ap (λ l. slice_get l n) (sym grows.params) ∙ is.1)
  type_grows (ExprKind-F.BlockMember b n) u all sounds known is =
      let found = member_grows n is.0 b (slice_get s.blocks b) refl is.1 in
      (is.0, ap (λ o. member_in o n) found.2 ∙ found.3, is.2)
  type_grows (ExprKind-F.Stage var) u all sounds known is = (is.0 ∙ grows.stage, is.1)
  type_grows (ExprKind-F.Interface n) u all sounds known is = (is.0, grows.interfaces n is.0 is.1, is.2)
  type_grows (ExprKind-F.Member a n) u all sounds known is = (is.0, is.1, is.2, is.3, grows.structs is.0 is.1 is.4, is.5, is.6)
  type_grows (ExprKind-F.Index a i) u all sounds known is =
      (is.0, is.1, in_range_too (constant_of (consts_of t.globals) i) (constant_of (consts_of s.globals) i) (type_of a) (type_of i) (known_before i all.1.0) is.2)
  type_grows (ExprKind-F.Swizzle a lanes) u all sounds known is = is
  type_grows (ExprKind-F.Length a) u all sounds known is = is
  type_grows (ExprKind-F.Unary o a) u all sounds known is = is
  type_grows (ExprKind-F.Binary o a b) u all sounds known (inl is) = inl (is.0, (is.1.0, is.1.1, is.1.2, small_grows (not (is_aggregate (type_of a))) (type_of a) sounds.0 is.1.3))
  type_grows (ExprKind-F.Binary o a b) u all sounds known (inr is) = inr is
  type_grows (ExprKind-F.Logic o a b) u all sounds known is = is
  type_grows (ExprKind-F.Choose c a b) u all sounds known is = is
  type_grows (ExprKind-F.Assign a b) u all sounds known is = (is.0, is.1, is.2, writable_grows a all.0 is.3)
  type_grows (ExprKind-F.Update o a b) u all sounds known is = (is.0, is.1, is.2, writable_grows a all.0 is.3)
  type_grows (ExprKind-F.Step o a) u all sounds known is = (is.0, is.1, writable_grows a all.0 is.2)
  type_grows (ExprKind-F.Call n args) u all sounds known is = (is.0, grows.prototypes n is.0 is.1, is.2, arguments_grow is.0.params args all is.3)
  type_grows (ExprKind-F.Built which args) u all sounds known is = is
  type_grows (ExprKind-F.Build args) u all sounds known is = (build_grows (out-Ty u) args is.0, is.1, stays u is.2, subst (λ h. h ≤ most_high) (grows.heights u is.2) is.3, is.4)
  type_grows (ExprKind-F.Convert a) u all sounds known is = is
  type_grows (ExprKind-F.Comma items) u all sounds known is = is

  -- ---- which parts are read and written

  all_grow : (P Q : Expr → Type 0) (es : List Expr) → AllByRecursion (IsExpr few) es → ((e : Expr) → IsExpr few e → P e → Q e) → AllByRecursion P es → AllByRecursion Q es
  all_grow P Q [] all next is = tt
  all_grow P Q (e ∷ es) all next is = (next e all.0 is.0, all_grow P Q es all.1 next is.1)

  all_in : (params : List (Direction × Ty)) (es : List Expr) → AllByRecursion (IsExpr few) es → AllByRecursion (IsExpr few) (going_in params es)
  all_in [] es all = all
  all_in (p ∷ params) [] all = tt
  all_in ((In, u) ∷ params) (e ∷ es) all = (all.0, all_in params es all.1)
  all_in ((Out, u) ∷ params) (e ∷ es) all = all_in params es all.1
  all_in ((InOut, u) ∷ params) (e ∷ es) all = (all.0, all_in params es all.1)

  all_out : (params : List (Direction × Ty)) (es : List Expr) → AllByRecursion (IsExpr few) es → AllByRecursion (IsExpr few) (coming_out params es)
  all_out [] es all = tt
  all_out (p ∷ params) [] all = tt
  all_out ((In, u) ∷ params) (e ∷ es) all = all_out params es all.1
  all_out ((Out, u) ∷ params) (e ∷ es) all = (all.0, all_out params es all.1)
  all_out ((InOut, u) ∷ params) (e ∷ es) all = (all.0, all_out params es all.1)

  reads_all : (form : ExprKind-F ExprKind Expr) → AllByRecursion (IsExpr few) (parts_of form) → AllByRecursion (IsExpr few) (read_parts few form)
  reads_all (ExprKind-F.Member a n) all = tt
  reads_all (ExprKind-F.Index a i) all = all.1
  reads_all (ExprKind-F.Swizzle a lanes) all = tt
  reads_all (ExprKind-F.Length a) all = tt
  reads_all (ExprKind-F.Assign a b) all = all.1
  reads_all (ExprKind-F.Call n args) all = all_in (params_at (slice_get s.prototypes n)) args all
  reads_all (ExprKind-F.BlockMember b n) all = all
  reads_all (ExprKind-F.Const v) all = all
  reads_all (ExprKind-F.Local n) all = all
  reads_all (ExprKind-F.Global n) all = all
  reads_all (ExprKind-F.Param n) all = all
  reads_all (ExprKind-F.Stage var) all = all
  reads_all (ExprKind-F.Interface n) all = all
  reads_all (ExprKind-F.Unary o a) all = all
  reads_all (ExprKind-F.Binary o a b) all = all
  reads_all (ExprKind-F.Logic o a b) all = all
  reads_all (ExprKind-F.Choose c a b) all = all
  reads_all (ExprKind-F.Update o a b) all = all
  reads_all (ExprKind-F.Step o a) all = all
  reads_all (ExprKind-F.Built which args) all = all
  reads_all (ExprKind-F.Build args) all = all
  reads_all (ExprKind-F.Convert a) all = all
  reads_all (ExprKind-F.Comma items) all = all

  writes_all : (form : ExprKind-F ExprKind Expr) → AllByRecursion (IsExpr few) (parts_of form) → AllByRecursion (IsExpr few) (written_parts few form)
  writes_all (ExprKind-F.Assign a b) all = (all.0, tt)
  writes_all (ExprKind-F.Update o a b) all = (all.0, tt)
  writes_all (ExprKind-F.Step o a) all = all
  writes_all (ExprKind-F.Call n args) all = all_out (params_at (slice_get s.prototypes n)) args all
  writes_all (ExprKind-F.Member a n) all = tt
  writes_all (ExprKind-F.Index a i) all = tt
  writes_all (ExprKind-F.Swizzle a lanes) all = tt
  writes_all (ExprKind-F.Length a) all = tt
  writes_all (ExprKind-F.BlockMember b n) all = tt
  writes_all (ExprKind-F.Const v) all = tt
  writes_all (ExprKind-F.Local n) all = tt
  writes_all (ExprKind-F.Global n) all = tt
  writes_all (ExprKind-F.Param n) all = tt
  writes_all (ExprKind-F.Stage var) all = tt
  writes_all (ExprKind-F.Interface n) all = tt
  writes_all (ExprKind-F.Unary o a) all = tt
  writes_all (ExprKind-F.Binary o a b) all = tt
  writes_all (ExprKind-F.Logic o a b) all = tt
  writes_all (ExprKind-F.Choose c a b) all = tt
  writes_all (ExprKind-F.Built which args) all = tt
  writes_all (ExprKind-F.Build args) all = tt
  writes_all (ExprKind-F.Convert a) all = tt
  writes_all (ExprKind-F.Comma items) all = tt

  same_reads : (form : ExprKind-F ExprKind Expr) (u : Ty) → HasType few form u → read_parts few form ≡ read_parts many form
  same_reads (ExprKind-F.Call n args) u is = ap (λ o. going_in (params_at o) args) (is.1 ∙ sym (grows.prototypes n is.0 is.1))
  same_reads (ExprKind-F.Member a n) u is = refl
  same_reads (ExprKind-F.Index a i) u is = refl
  same_reads (ExprKind-F.Swizzle a lanes) u is = refl
  same_reads (ExprKind-F.Length a) u is = refl
  same_reads (ExprKind-F.Assign a b) u is = refl
  same_reads (ExprKind-F.BlockMember b n) u is = refl
  same_reads (ExprKind-F.Const v) u is = refl
  same_reads (ExprKind-F.Local n) u is = refl
  same_reads (ExprKind-F.Global n) u is = refl
  same_reads (ExprKind-F.Param n) u is = refl
  same_reads (ExprKind-F.Stage var) u is = refl
  same_reads (ExprKind-F.Interface n) u is = refl
  same_reads (ExprKind-F.Unary o a) u is = refl
  same_reads (ExprKind-F.Binary o a b) u is = refl
  same_reads (ExprKind-F.Logic o a b) u is = refl
  same_reads (ExprKind-F.Choose c a b) u is = refl
  same_reads (ExprKind-F.Update o a b) u is = refl
  same_reads (ExprKind-F.Step o a) u is = refl
  same_reads (ExprKind-F.Built which args) u is = refl
  same_reads (ExprKind-F.Build args) u is = refl
  same_reads (ExprKind-F.Convert a) u is = refl
  same_reads (ExprKind-F.Comma items) u is = refl

  same_writes : (form : ExprKind-F ExprKind Expr) (u : Ty) → HasType few form u → written_parts few form ≡ written_parts many form
  same_writes (ExprKind-F.Call n args) u is = ap (λ o. coming_out (params_at o) args) (is.1 ∙ sym (grows.prototypes n is.0 is.1))
  same_writes (ExprKind-F.Member a n) u is = refl
  same_writes (ExprKind-F.Index a i) u is = refl
  same_writes (ExprKind-F.Swizzle a lanes) u is = refl
  same_writes (ExprKind-F.Length a) u is = refl
  same_writes (ExprKind-F.Assign a b) u is = refl
  same_writes (ExprKind-F.BlockMember b n) u is = refl
  same_writes (ExprKind-F.Const v) u is = refl
  same_writes (ExprKind-F.Local n) u is = refl
  same_writes (ExprKind-F.Global n) u is = refl
  same_writes (ExprKind-F.Param n) u is = refl
  same_writes (ExprKind-F.Stage var) u is = refl
  same_writes (ExprKind-F.Interface n) u is = refl
  same_writes (ExprKind-F.Unary o a) u is = refl
  same_writes (ExprKind-F.Binary o a b) u is = refl
  same_writes (ExprKind-F.Logic o a b) u is = refl
  same_writes (ExprKind-F.Choose c a b) u is = refl
  same_writes (ExprKind-F.Update o a b) u is = refl
  same_writes (ExprKind-F.Step o a) u is = refl
  same_writes (ExprKind-F.Built which args) u is = refl
  same_writes (ExprKind-F.Build args) u is = refl
  same_writes (ExprKind-F.Convert a) u is = refl
  same_writes (ExprKind-F.Comma items) u is = refl

  all_sounds : (es : List Expr) → AllByRecursion (IsExpr few) es → AllByRecursion (λ (e : Expr). Sound (type_of e)) es
  all_sounds [] all = tt
  all_sounds (e ∷ es) all = (type_sound s fine e all.0, all_sounds es all.1)

  node_grows : (e : Expr) → IsNode few e → AllByRecursion (IsExpr few) (parts_of (form_of e)) → IsExpr few e → IsNode many e
  node_grows e node all is =
      let sounds = all_sounds (parts_of (form_of e)) all in
      record {
        type = type_grows (form_of e) (type_of e) all sounds (type_sound s fine e is) node.type;
        reads = subst (AllByRecursion (MayBeRead many)) (same_reads (form_of e) (type_of e) node.type)
            (all_grow (MayBeRead few) (MayBeRead many) (read_parts few (form_of e)) (reads_all (form_of e) all) read_grows node.reads);
        writes = subst (AllByRecursion (MayBeWritten many)) (same_writes (form_of e) (type_of e) node.type)
            (all_grow (MayBeWritten few) (MayBeWritten many) (written_parts few (form_of e)) (writes_all (form_of e) all) written_grows node.writes);
      }

  mutual
    pub expr_grows : (e : Expr) → IsExpr (around s) e → IsExpr (around t) e
    expr_grows _ (Throughout.whole e node parts) =
        Throughout.whole e (node_grows e node (all_of_parts few (parts_of (form_of e)) parts) (Throughout.whole e node parts)) (exprs_grow (parts_of (form_of e)) parts)

    pub exprs_grow : (es : List Expr) → ThroughoutAll (IsNode (around s)) es → ThroughoutAll (IsNode (around t)) es
    exprs_grow _ ThroughoutAll.none = ThroughoutAll.none
    exprs_grow _ (ThroughoutAll.more e es is rest) = ThroughoutAll.more e es (expr_grows e is) (exprs_grow es rest)
