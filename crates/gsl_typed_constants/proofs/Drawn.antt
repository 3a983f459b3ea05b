-- What well typed expressions give that need no state: values of their types.
use Rattle.std.proofs.Common.{◌≡◌, refl, sym, ap, ◌∙◌, subst, ℕ, zero, suc, ◌^◌, ◌<◌, inl, Bool, true, false, List, [], ◌∷◌, map, replicate, length, slice_get, Option, Some, None, if◌then◌else◌, ◌==◌, ◌&&◌, arith}
use Rattle.std.specs.Prelude.{nat_le, nat_lt}
use Rattle.std.specs.List.{AllByRecursion}
use Rattle.std.proofs.lemmas.Bool.{and_from, and_parts, false≢true, leb-true, lt-ltb, ltb-true}
use Rattle.gsl_types.specs.Known.{AreStructs, IsSound, sound, sound_kind}
use Rattle.gsl_types.specs.declared.ty.Scalar.TheVariants.{Bool as Boolean, Int}
use Rattle.gsl_types.specs.declared.ty.StructType.{StructType}
use Rattle.gsl_types.specs.declared.ty.Ty.{Ty}
use Rattle.gsl_types.specs.declared.ty.Ty.TheOpen.{Ty-F}
use Rattle.gsl_types.specs.declared.ty.Ty.TheFolds.{fold-roll-Ty}
use Rattle.gsl_types.specs.declared.ty.Ty.TheViews.{out-Ty, roll-Ty, roll-out-Ty}
use Rattle.gsl_types.specs.declared.ty.Ty.TheVariants as ty
use Rattle.gsl_types.specs.declared.ty.Ty.TheVariants.{rolls-Array, rolls-Runtime, rolls-Vector}
use Rattle.gsl_types.specs.Structs.{numbered}
use Rattle.gsl_types.proofs.Layers.{over_runtime}
use Rattle.gsl_values.specs.declared.value.Value.{Value}
use Rattle.gsl_values.specs.declared.value.Value.TheOpen.{Value-F}
use Rattle.gsl_values.specs.declared.value.Value.TheViews.{out-Value}
use Rattle.gsl_values.specs.declared.value.Value.TheVariants.{Word}
use Rattle.gsl_tree.specs.Around.{Around}
use Rattle.gsl_tree.specs.Constants.{constant_of, folded_value, gives, gives_all, kind_gives, known_as, known_at, known_by, signed_first, standing}
use Rattle.gsl_tree.specs.Drawing.{Drawing, behind, checked, drawn, given, strays, ◌>>=◌}
use Rattle.gsl_tree.specs.Expressions.{HasType, IsExpr, IsNode, boolean, element_kind, types_of}
use Rattle.gsl_tree.specs.Operations.{binary_value, build_value, builtin_value, decides, index_value, is_signed, length_kind, length_of, logic_word, member_value, swizzle_value, unary_value}
use Rattle.gsl_tree.specs.Trees.{Throughout, ThroughoutAll, form_of, parts_of, type_of}
use Rattle.gsl_tree.specs.Values.{all_pass, has_parts, has_parts_layer, is_scalar, is_scalar_layer, is_value_of, is_word_of, parts_in, parts_layer, value_meaning, word_in, word_layer}
use Rattle.gsl_tree.specs.declared.expr.Expr.{Expr, out-Expr}
use Rattle.gsl_tree.specs.declared.expr.ExprKind.{ExprKind}
use Rattle.gsl_tree.specs.declared.expr.ExprKind.TheOpen.{ExprKind-F}
use Rattle.gsl_tree.specs.declared.expr.ExprKind.TheVariants as kind
use Rattle.gsl_tree.specs.declared.expr.ExprKind.TheVariants.{rolls-Const, rolls-Local, rolls-Global, rolls-Param, rolls-BlockMember, rolls-Stage, rolls-Interface, rolls-Member, rolls-Index, rolls-Swizzle, rolls-Length, rolls-Unary, rolls-Binary, rolls-Logic, rolls-Choose, rolls-Assign, rolls-Update, rolls-Step, rolls-Call, rolls-Built, rolls-Build, rolls-Convert, rolls-Comma}
use Rattle.gsl_tree.specs.declared.expr.ExprKind.TheViews.{roll-ExprKind, roll-out-ExprKind}
use Rattle.gsl_tree.specs.declared.expr.LogicOp.{LogicOp}
use Rattle.gsl_tree.specs.declared.expr.LogicOp.TheVariants.{And, Or, Xor}
use Rattle.gsl_tree.specs.declared.folded.Consts.{Consts}
use Rattle.gsl_tree.specs.declared.folded.Folded.{Folded}
use Rattle.gsl_tree.specs.declared.folded.Folded.TheVariants.{Free, Known, NotConstant}
use Rattle.gsl_tree.specs.declared.folded.Standing.{Standing}
use Rattle.gsl_tree.specs.declared.folded.Standing.TheVariants.{Never, Open, Settled}
use Rattle.gsl_tree.proofs.Nodes.{value_of_array, value_of_one, value_of_vector}
use Rattle.gsl_tree.proofs.Steps as at
use Rattle.gsl_typed_law.specs.Given.{AreChoices}
use Rattle.gsl_typed_law.proofs.Bounds.{truth_fits}
use Rattle.gsl_typed_law.proofs.Built.{build_typed}
use Rattle.gsl_typed_law.proofs.Builtins.{builtin_typed}
use Rattle.gsl_typed_law.proofs.Components.{scalar_typed, some_same}
use Rattle.gsl_typed_law.proofs.Conversions.{converted_same}
use Rattle.gsl_typed_law.proofs.Operators.{binary_typed, unary_typed}
use Rattle.gsl_typed_law.proofs.Parts.{swizzle_typed, value_typed}
use Rattle.gsl_typed_constants.specs.Known.{AreKnown, AreSound}

-- ---- drawing

-- what is given has a property, and leaves choices that are words
abbrev Left : {A : Type 0} → (A → Type 0) → Option A × List ℕ → Type 0
Left P (Some a, choices) = P a × AreChoices choices
Left P (None, choices) = AreChoices choices

abbrev Draws : {A : Type 0} → (A → Type 0) → Drawing A → Type 0
Draws P m = (choices : List ℕ) → AreChoices choices → Left P (m choices)

behind_left : {A B : Type 0} (P : A → Type 0) (Q : B → Type 0) (r : Option A × List ℕ) (g : A → Drawing B) → Left P r → ((a : A) → P a → Draws Q (g a)) → Left Q (behind r g)
behind_left P Q (Some a, choices) g is next = next a is.0 choices is.1
behind_left P Q (None, choices) g is next = is

binds : {A B : Type 0} (P : A → Type 0) (Q : B → Type 0) (m : Drawing A) (g : A → Drawing B) → Draws P m → ((a : A) → P a → Draws Q (g a)) → Draws Q (m >>= g)
binds P Q m g is next choices all = behind_left P Q (m choices) g (is choices all) next

gives_one : {A : Type 0} (P : A → Type 0) (a : A) → P a → Draws P (given a)
gives_one P a is choices all = (is, all)

checked_one : (P : Value → Type 0) (o : Option Value) → ((v : Value) → o ≡ Some v → P v) → Draws P (checked o)
checked_one P None is choices all = all
checked_one P (Some v) is choices all = (is v refl, all)

if_draws : (P : Value → Type 0) (b : Bool) (m n : Drawing Value) → Draws P m → Draws P n → Draws P (if b then m else n)
if_draws P true m n is also = is
if_draws P false m n is also = also

folded_one : (P : Value → Type 0) (f : Folded) → ((v : Value) → f ≡ Known v → P v) → Draws P (folded_value f)
folded_one P (Known v) is choices all = (is v refl, all)
folded_one P NotConstant is choices all = all
folded_one P Free is choices all = all

-- ---- values and their parts

module _ (structs : List StructType) where
  -- a value of a type
  abbrev Is : Ty → Value → Type 0
  Is t v = is_value_of structs t v ≡ true

  one_passes : (test : Value → Bool) (n : ℕ) (vs : List Value) (k : ℕ) (v : Value) → all_pass (replicate n test) vs ≡ true → slice_get vs k ≡ Some v → test v ≡ true
  one_passes test n [] k v pass is = absurd cc
  one_passes test zero (x ∷ vs) k v pass is = absurd (false≢true pass)
  one_passes test (suc n) (x ∷ vs) zero v pass is = subst (λ y. test y ≡ true) (some_same is) (and_parts (test x) (all_pass (replicate n test) vs) pass).0
  one_passes test (suc n) (x ∷ vs) (suc k) v pass is = one_passes test n vs k v (and_parts (test x) (all_pass (replicate n test) vs) pass).1 is

  parts_pass : (tests : List (Value → Bool)) (layer : Value-F Value) → has_parts_layer tests layer ≡ true → all_pass tests (parts_layer layer) ≡ true
  parts_pass tests (Value-F.Word word) is = absurd (false≢true is)
  parts_pass tests (Value-F.Many parts) is = is

  element_of_row : (test : Value → Bool) (n : ℕ) (v x : Value) (k : ℕ) → has_parts (replicate n test) v ≡ true → index_value v k ≡ Some x → test x ≡ true
  element_of_row test n v x k pass is = one_passes test n (parts_in v) k x (parts_pass (replicate n test) (out-Value v) pass) is

  -- the part at an index is a value of the type of elements
  element_typed : (layer : Ty-F Ty) (base t : Ty) (v x : Value) (k : ℕ) → roll-Ty layer ≡ base → element_kind layer ≡ Some t → Is base v → index_value v k ≡ Some x → Is t x
  element_typed Ty-F.Void base t v x k e element fits is = absurd cc
  element_typed (Ty-F.One s) base t v x k e element fits is = absurd cc
  element_typed (Ty-F.Vector s n) base t v x k e element fits is =
      subst (λ u. Is u x) (some_same element)
      (value_of_one structs s x ∙ element_of_row (is_scalar s) n v x k (sym (value_of_vector structs s n v) ∙ ap (λ u. is_value_of structs u v) (sym (rolls-Vector s n) ∙ e) ∙ fits) is)
  element_typed (Ty-F.Array y n) base t v x k e element fits is =
      subst (λ u. Is u x) (some_same element)
      (element_of_row (is_value_of structs y) n v x k (sym (value_of_array structs y n v) ∙ ap (λ u. is_value_of structs u v) (sym (rolls-Array y n) ∙ e) ∙ fits) is)
  element_typed (Ty-F.Runtime y) base t v x k e element fits is =
      absurd (false≢true (sym (ap (λ (test : Value → Bool). test v) (over_runtime value_meaning (numbered value_meaning structs) y)) ∙ ap (λ u. is_value_of structs u v) (sym (rolls-Runtime y) ∙ e) ∙ fits))
  element_typed (Ty-F.Struct n) base t v x k e element fits is = absurd cc

  truth_layer : (layer : Value-F Value) → is_scalar_layer Boolean layer ≡ true → is_word_of Boolean (word_layer layer) ≡ true
  truth_layer (Value-F.Word word) is = is
  truth_layer (Value-F.Many parts) is = absurd (false≢true is)

  -- what a logical operator gives is true or false
  logic_typed : (op : LogicOp) (a : ℕ) (v : Value) → Is boolean v → Is boolean (Word (logic_word op a (word_in v)))
  logic_typed And a v is = scalar_typed structs Boolean (word_in v) (truth_layer (out-Value v) (sym (value_of_one structs Boolean v) ∙ is))
  logic_typed Or a v is = scalar_typed structs Boolean (word_in v) (truth_layer (out-Value v) (sym (value_of_one structs Boolean v) ∙ is))
  logic_typed Xor a v is = scalar_typed structs Boolean (logic_word Xor a (word_in v)) (truth_fits _)

  -- the length of a type is a word
  length_layer : (layer : Ty-F Ty) (t : Ty) → roll-Ty layer ≡ t → IsSound (length structs) t → length_kind layer < 2 ^ 32
  length_layer Ty-F.Void t e known = omega arith
  length_layer (Ty-F.One s) t e known = omega arith
  length_layer (Ty-F.Vector s n) t e known =
      let parts = and_parts (nat_le 2 n) (nat_le n 4) (sym (fold-roll-Ty Bool (sound_kind (length structs)) (Ty-F.Vector s n)) ∙ ap (sound (length structs)) e ∙ known) in
      let few = leb-true n 4 parts.1 in omega (arith, few)
  length_layer (Ty-F.Array y n) t e known =
      let parts = and_parts (nat_le 1 n && nat_lt n (2 ^ 32)) (sound (length structs) y) (sym (fold-roll-Ty Bool (sound_kind (length structs)) (Ty-F.Array y n)) ∙ ap (sound (length structs)) e ∙ known) in
      ltb-true n (2 ^ 32) (and_parts (nat_le 1 n) (nat_lt n (2 ^ 32)) parts.0).1
  length_layer (Ty-F.Runtime y) t e known = omega arith
  length_layer (Ty-F.Struct n) t e known = omega arith

  length_typed : (a t : Ty) → t ≡ ty.One Int → IsSound (length structs) a → Is t (Word (length_of a))
  length_typed a t is known = subst (λ u. Is u (Word (length_of a))) (sym is) (scalar_typed structs Int (length_of a) (lt-ltb (length_of a) (2 ^ 32) (length_layer (out-Ty a) a (roll-out-Ty a) known)))

-- ---- expressions

module _ (around : Around) (consts : Consts) (are : AreStructs around.structs) (sounds : AreSound around) (knows : AreKnown around consts) where
  abbrev Of : Ty → Value → Type 0
  Of t v = is_value_of around.structs t v ≡ true

  -- an expression of a type gives values of it
  record GivesOf (e : Expr) : Type 0 where
    known : IsSound (length around.structs) (type_of e)
    draws : Draws (Of (type_of e)) (gives consts e)

  abbrev GiveAll : List Expr → Type 0
  GiveAll = AllByRecursion GivesOf

  abbrev AllOf : List Expr → List Value → Type 0
  AllOf es vs = all_pass (map (is_value_of around.structs) (types_of es)) vs ≡ true

  alike : (layer : ExprKind-F ExprKind Expr) (k : ExprKind) (t : Ty) (m : Drawing Value) → roll-ExprKind layer ≡ k → ((choices : List ℕ) → kind_gives consts k t choices ≡ m choices) → Draws (Of t) m → Draws (Of t) (kind_gives consts (roll-ExprKind layer) t)
  alike layer k t m e same is = subst (λ (k : ExprKind). Draws (Of t) (kind_gives consts k t)) (sym e) (λ choices all. subst (Left (Of t)) (sym (same choices)) (is choices all))

  goes_astray : (layer : ExprKind-F ExprKind Expr) (k : ExprKind) (t : Ty) → roll-ExprKind layer ≡ k → ((choices : List ℕ) → kind_gives consts k t choices ≡ strays choices) → Draws (Of t) (kind_gives consts (roll-ExprKind layer) t)
  goes_astray layer k t e same = alike layer k t strays e same (λ choices all. all)

  -- several in their order
  all_draw : (es : List Expr) → GiveAll es → Draws (AllOf es) (gives_all consts es)
  all_draw [] all = gives_one (AllOf []) [] refl
  all_draw (e ∷ es) all =
      binds (Of (type_of e)) (AllOf (e ∷ es)) (gives consts e) (λ v. gives_all consts es >>= (λ vs. given (v ∷ vs))) all.0.draws
      (λ v is. binds (AllOf es) (AllOf (e ∷ es)) (gives_all consts es) (λ vs. given (v ∷ vs)) (all_draw es all.1)
      (λ vs are_of. gives_one (AllOf (e ∷ es)) (v ∷ vs) (and_from (is_value_of around.structs (type_of e) v) (all_pass (map (is_value_of around.structs) (types_of es)) vs) is are_of)))

  by_form : (layer : ExprKind-F ExprKind Expr) (t : Ty) → HasType around layer t → GiveAll (parts_of layer) → Draws (Of t) (kind_gives consts (roll-ExprKind layer) t)
  by_form (ExprKind-F.Const v) t is all = alike (ExprKind-F.Const v) (kind.Const v) t (given v) (rolls-Const v) (at.gives-Const consts v t) (gives_one (Of t) v is.0)
  by_form (ExprKind-F.Local n) t is all =
      alike (ExprKind-F.Local n) (kind.Local n) t (folded_value (known_at consts.locals n)) (rolls-Local n) (at.gives-Local consts n t) (folded_one (Of t) (known_at consts.locals n) (λ v known. knows.locals n t v is known))
  by_form (ExprKind-F.Global n) t is all =
      alike (ExprKind-F.Global n) (kind.Global n) t (folded_value (known_at consts.globals n)) (rolls-Global n) (at.gives-Global consts n t)
      (folded_one (Of t) (known_at consts.globals n) (λ v known. subst (λ u. Of u v) is.2 (knows.globals n is.0 v is.1 known)))
  by_form (ExprKind-F.Param n) t is all = goes_astray (ExprKind-F.Param n) (kind.Param n) t (rolls-Param n) (at.gives-Param consts n t)
  by_form (ExprKind-F.BlockMember b n) t is all = goes_astray (ExprKind-F.BlockMember b n) (kind.BlockMember b n) t (rolls-BlockMember b n) (at.gives-BlockMember consts b n t)
  by_form (ExprKind-F.Stage var) t is all = goes_astray (ExprKind-F.Stage var) (kind.Stage var) t (rolls-Stage var) (at.gives-Stage consts var t)
  by_form (ExprKind-F.Interface n) t is all = goes_astray (ExprKind-F.Interface n) (kind.Interface n) t (rolls-Interface n) (at.gives-Interface consts n t)
  by_form (ExprKind-F.Member a n) t is all =
      alike (ExprKind-F.Member a n) (kind.Member a n) t (gives consts a >>= (λ v. given (member_value v n))) (rolls-Member a n) (at.gives-Member consts a n t)
      (binds (Of (type_of a)) (Of t) (gives consts a) (λ v. given (member_value v n)) all.0.draws
      (λ v fits. gives_one (Of t) (member_value v n) (value_typed around.structs are (type_of a) (n ∷ []) t v (t, inl is, refl) fits)))
  by_form (ExprKind-F.Index a i) t is all =
      alike (ExprKind-F.Index a i) (kind.Index a i) t (gives consts a >>= (λ v. gives consts i >>= (λ w. checked (index_value v (word_in w))))) (rolls-Index a i) (at.gives-Index consts a i t)
      (binds (Of (type_of a)) (Of t) (gives consts a) (λ v. gives consts i >>= (λ w. checked (index_value v (word_in w)))) all.0.draws
      (λ v fits. binds (Of (type_of i)) (Of t) (gives consts i) (λ w. checked (index_value v (word_in w))) all.1.0.draws
      (λ w also. checked_one (Of t) (index_value v (word_in w)) (λ x found. element_typed around.structs (out-Ty (type_of a)) (type_of a) t v x (word_in w) (roll-out-Ty (type_of a)) is.0 fits found))))
  by_form (ExprKind-F.Swizzle a lanes) t is all =
      alike (ExprKind-F.Swizzle a lanes) (kind.Swizzle a lanes) t (gives consts a >>= (λ v. given (swizzle_value v lanes))) (rolls-Swizzle a lanes) (at.gives-Swizzle consts a lanes t)
      (binds (Of (type_of a)) (Of t) (gives consts a) (λ v. given (swizzle_value v lanes)) all.0.draws
      (λ v fits. gives_one (Of t) (swizzle_value v lanes) (swizzle_typed around.structs (type_of a) lanes t v is.2.2 is fits)))
  by_form (ExprKind-F.Length a) t is all =
      alike (ExprKind-F.Length a) (kind.Length a) t (given (Word (length_of (type_of a)))) (rolls-Length a) (at.gives-Length consts a t) (gives_one (Of t) (Word (length_of (type_of a))) (length_typed around.structs (type_of a) t is.0 all.0.known))
  by_form (ExprKind-F.Unary op a) t is all =
      alike (ExprKind-F.Unary op a) (kind.Unary op a) t (gives consts a >>= (λ v. given (unary_value op v))) (rolls-Unary op a) (at.gives-Unary consts op a t)
      (binds (Of (type_of a)) (Of t) (gives consts a) (λ v. given (unary_value op v)) all.0.draws (λ v fits. gives_one (Of t) (unary_value op v) (unary_typed around.structs op (type_of a) t v is fits)))
  by_form (ExprKind-F.Binary op a b) t is all =
      alike (ExprKind-F.Binary op a b) (kind.Binary op a b) t (gives consts a >>= (λ v. gives consts b >>= (λ w. drawn (binary_value op (is_signed (type_of a)) v w)))) (rolls-Binary op a b) (at.gives-Binary consts op a b t)
      (binds (Of (type_of a)) (Of t) (gives consts a) (λ v. gives consts b >>= (λ w. drawn (binary_value op (is_signed (type_of a)) v w))) all.0.draws
      (λ v fits. binds (Of (type_of b)) (Of t) (gives consts b) (λ w. drawn (binary_value op (is_signed (type_of a)) v w)) all.1.0.draws
      (λ w also choices words. let x = binary_typed around op (is_signed (type_of a)) (type_of a) (type_of b) t v w choices all.0.known all.1.0.known is fits also words in (x.typed, x.left))))
  by_form (ExprKind-F.Logic op a b) t is all =
      alike (ExprKind-F.Logic op a b) (kind.Logic op a b) t (gives consts a >>= (λ v. if decides op (word_in v) then given v else gives consts b >>= (λ w. given (Word (logic_word op (word_in v) (word_in w)))))) (rolls-Logic op a b) (at.gives-Logic consts op a b t)
      (binds (Of (type_of a)) (Of t) (gives consts a) (λ v. if decides op (word_in v) then given v else gives consts b >>= (λ w. given (Word (logic_word op (word_in v) (word_in w))))) all.0.draws
      (λ v fits. if_draws (Of t) (decides op (word_in v)) (given v) (gives consts b >>= (λ w. given (Word (logic_word op (word_in v) (word_in w)))))
      (gives_one (Of t) v (subst (λ u. Of u v) (is.0 ∙ sym is.2) fits))
      (binds (Of (type_of b)) (Of t) (gives consts b) (λ w. given (Word (logic_word op (word_in v) (word_in w)))) all.1.0.draws
      (λ w also. gives_one (Of t) (Word (logic_word op (word_in v) (word_in w))) (subst (λ u. Of u (Word (logic_word op (word_in v) (word_in w)))) (sym is.2) (logic_typed around.structs op (word_in v) w (subst (λ u. Of u w) is.1 also)))))))
  by_form (ExprKind-F.Choose s a b) t is all =
      alike (ExprKind-F.Choose s a b) (kind.Choose s a b) t (gives consts s >>= (λ v. if word_in v == 0 then gives consts b else gives consts a)) (rolls-Choose s a b) (at.gives-Choose consts s a b t)
      (binds (Of (type_of s)) (Of t) (gives consts s) (λ v. if word_in v == 0 then gives consts b else gives consts a) all.0.draws
      (λ v fits. if_draws (Of t) (word_in v == 0) (gives consts b) (gives consts a) (subst (λ u. Draws (Of u) (gives consts b)) is.2 all.1.1.0.draws) (subst (λ u. Draws (Of u) (gives consts a)) is.1 all.1.0.draws)))
  by_form (ExprKind-F.Assign a b) t is all = goes_astray (ExprKind-F.Assign a b) (kind.Assign a b) t (rolls-Assign a b) (at.gives-Assign consts a b t)
  by_form (ExprKind-F.Update op a b) t is all = goes_astray (ExprKind-F.Update op a b) (kind.Update op a b) t (rolls-Update op a b) (at.gives-Update consts op a b t)
  by_form (ExprKind-F.Step op a) t is all = goes_astray (ExprKind-F.Step op a) (kind.Step op a) t (rolls-Step op a) (at.gives-Step consts op a t)
  by_form (ExprKind-F.Call n args) t is all = goes_astray (ExprKind-F.Call n args) (kind.Call n args) t (rolls-Call n args) (at.gives-Call consts n args t)
  by_form (ExprKind-F.Built which args) t is all =
      alike (ExprKind-F.Built which args) (kind.Built which args) t (gives_all consts args >>= (λ vs. drawn (builtin_value which (signed_first args) vs))) (rolls-Built which args) (at.gives-Built consts which args t)
      (binds (AllOf args) (Of t) (gives_all consts args) (λ vs. drawn (builtin_value which (signed_first args) vs)) (all_draw args all)
      (λ vs pass choices words. let x = builtin_typed around.structs which (signed_first args) args t vs choices is pass words in (x.typed, x.left)))
  by_form (ExprKind-F.Build args) t is all =
      alike (ExprKind-F.Build args) (kind.Build args) t (gives_all consts args >>= (λ vs. given (build_value t vs))) (rolls-Build args) (at.gives-Build consts args t)
      (binds (AllOf args) (Of t) (gives_all consts args) (λ vs. given (build_value t vs)) (all_draw args all) (λ vs pass. gives_one (Of t) (build_value t vs) (build_typed around are args vs pass t is)))
  by_form (ExprKind-F.Convert a) t is all =
      alike (ExprKind-F.Convert a) (kind.Convert a) t (gives consts a) (rolls-Convert a) (at.gives-Convert consts a t)
      (λ choices words. passed (gives consts a choices) (all.0.draws choices words))
    where
      passed : (r : Option Value × List ℕ) → Left (Of (type_of a)) r → Left (Of t) r
      passed (Some v, choices) left = (sym (converted_same around.structs (type_of a) t v is.0) ∙ left.0, left.1)
      passed (None, choices) left = left
  by_form (ExprKind-F.Comma items) t is all = goes_astray (ExprKind-F.Comma items) (kind.Comma items) t (rolls-Comma items) (at.gives-Comma consts items t)

  mutual
    draws_of : (e : Expr) → IsExpr around e → GivesOf e
    draws_of _ (Throughout.whole e node parts) = record {
      known = sounds e (Throughout.whole e node parts);
      draws = λ choices words. subst (Left (Of (type_of e))) (sym (at.gives_opens consts e choices))
          (subst (λ (k : ExprKind). Draws (Of (type_of e)) (kind_gives consts k (type_of e))) (roll-out-ExprKind (out-Expr e).kind) (by_form (form_of e) (type_of e) node.type (all_of (parts_of (form_of e)) parts)) choices words);
    }

    all_of : (es : List Expr) → ThroughoutAll (IsNode around) es → GiveAll es
    all_of _ ThroughoutAll.none = tt
    all_of _ (ThroughoutAll.more e es is rest) = (draws_of e is, all_of es rest)

  by_given : (t : Ty) (v : Value) (r : Option Value × List ℕ) → Left (Of t) r → known_by r ≡ Known v → Of t v
  by_given t v (Some w, []) left is = absurd cc
  by_given t v (Some w, choice ∷ choices) left is = let same : w ≡ v = cc in subst (Of t) same left.0
  by_given t v (None, []) left is = absurd cc
  by_given t v (None, choice ∷ choices) left is = absurd cc

  by_standing : (s : Standing) (t : Ty) (v : Value) (r : Option Value × List ℕ) → Left (Of t) r → known_as s r ≡ Known v → Of t v
  by_standing Never t v r left is = absurd cc
  by_standing Open t v r left is = absurd cc
  by_standing Settled t v r left is = by_given t v r left is

  known_typed : (e : Expr) (v : Value) → IsExpr around e → constant_of consts e ≡ Known v → Of (type_of e) v
  unfolding constant_of
  known_typed e v typed is = by_standing (standing consts e) (type_of e) v (gives consts e (0 ∷ [])) ((draws_of e typed).draws (0 ∷ []) (omega arith, tt)) is

-- what is known of a well typed expression is a value of its type
pub constant_typed : (around : Around) (consts : Consts) → AreStructs around.structs → AreSound around → AreKnown around consts → (e : Expr) (v : Value) → IsExpr around e → constant_of consts e ≡ Known v → is_value_of around.structs (type_of e) v ≡ true
constant_typed around consts are sounds knows e v typed is = known_typed around consts are sounds knows e v typed is
