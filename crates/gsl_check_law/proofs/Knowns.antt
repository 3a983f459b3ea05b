-- What is known of an expression before a run has words below 2^32 alone, where its leaves have.
use Rattle.std.proofs.Common.{◌≡◌, sym, subst, ℕ, ◌^◌, ◌<◌, List, [], ◌∷◌, map, Option, Some, None, Bool, true, false, ◌==◌, arith, if◌then◌else◌}
use Rattle.std.specs.List.{AllByRecursion}
use Rattle.gsl_types.specs.declared.ty.Ty.{Ty}
use Rattle.gsl_values.specs.declared.value.Value.{Value}
use Rattle.gsl_values.specs.declared.value.Value.TheVariants.{Word}
use Rattle.gsl_tree.specs.declared.expr.Expr.{Expr}
use Rattle.gsl_tree.specs.declared.expr.ExprKind.{ExprKind, out-ExprKind}
use Rattle.gsl_tree.specs.declared.expr.ExprKind.TheVariants as kind
use Rattle.gsl_tree.specs.declared.expr.ExprKind.TheVariants.{outs-Const, outs-Local, outs-Global, outs-Member, outs-Index, outs-Swizzle, outs-Length, outs-Unary, outs-Binary, outs-Logic, outs-Choose, outs-Built, outs-Build, outs-Convert, rolls-Const, rolls-Local, rolls-Global, rolls-Param, rolls-BlockMember, rolls-Stage, rolls-Interface, rolls-Member, rolls-Index, rolls-Swizzle, rolls-Length, rolls-Unary, rolls-Binary, rolls-Logic, rolls-Choose, rolls-Assign, rolls-Update, rolls-Step, rolls-Call, rolls-Built, rolls-Build, rolls-Convert, rolls-Comma}
use Rattle.gsl_tree.specs.declared.expr.ExprKind.TheOpen.{ExprKind-F, Expr-F}
use Rattle.gsl_tree.specs.declared.expr.ExprKind.TheFolds.{ind-Expr, map-ExprKind, map-Expr}
use Rattle.gsl_tree.specs.declared.expr.ExprKind.TheViews.{roll-Expr, roll-ExprKind}
use Rattle.gsl_tree.specs.declared.expr.LogicOp.{LogicOp}
use Rattle.gsl_tree.specs.declared.expr.LogicOp.TheVariants.{And, Or, Xor}
use Rattle.gsl_tree.specs.declared.folded.Consts.{Consts}
use Rattle.gsl_tree.specs.declared.folded.Folded.{Folded}
use Rattle.gsl_tree.specs.declared.folded.Folded.TheVariants.{Known, NotConstant, Free}
use Rattle.gsl_tree.specs.declared.folded.Standing.{Standing}
use Rattle.gsl_tree.specs.declared.folded.Standing.TheVariants.{Settled, Open, Never}
use Rattle.gsl_tree.specs.Constants.{constant_of, known_at, known_as, known_by, folded_value, gives, kind_gives, gives_all, signed_first, standing}
use Rattle.gsl_tree.specs.Drawing.{Drawing, given, strays, behind, drawn, checked, ◌>>=◌}
use Rattle.gsl_tree.specs.Operations.{binary_value, builtin_value, build_value, decides, index_value, is_signed, length_of, logic_word, member_value, swizzle_value, unary_value}
use Rattle.gsl_tree.specs.Trees.{type_of, form_of, parts_of}
use Rattle.gsl_tree.specs.Values.{word_in}
use Rattle.gsl_tree.proofs.Steps as at
use Rattle.gsl_check_law.specs.Labels.{AreWords}
use Rattle.gsl_check_law.specs.Small.{IsSmall, IsSmallFolded}
use Rattle.gsl_check_law.proofs.Answering.{truth_word}
use Rattle.gsl_check_law.proofs.Smalls.{AllSmall, SmallOr, word_small, word_in_small, unary_small, binary_small, build_small, builtin_small, index_small, member_small, swizzle_small}

-- ---- drawing

-- what is given has a property, and leaves words
abbrev Left : {A : Type 0} → (A → Type 0) → Option A × List ℕ → Type 0
Left P (Some a, choices) = P a × AreWords choices
Left P (None, choices) = AreWords choices

abbrev Draws : {A : Type 0} → (A → Type 0) → Drawing A → Type 0
Draws P m = (choices : List ℕ) → AreWords choices → Left P (m choices)

behind_left : {A B : Type 0} (P : A → Type 0) (Q : B → Type 0) (r : Option A × List ℕ) (g : A → Drawing B) → Left P r → ((a : A) → P a → Draws Q (g a)) → Left Q (behind r g)
behind_left P Q (Some a, choices) g is next = next a is.0 choices is.1
behind_left P Q (None, choices) g is next = is

binds : {A B : Type 0} (P : A → Type 0) (Q : B → Type 0) (m : Drawing A) (g : A → Drawing B) → Draws P m → ((a : A) → P a → Draws Q (g a)) → Draws Q (m >>= g)
binds P Q m g is next choices all = behind_left P Q (m choices) g (is choices all) next

gives_small : {A : Type 0} (P : A → Type 0) (a : A) → P a → Draws P (given a)
gives_small P a is choices all = (is, all)

checked_small : (o : Option Value) → SmallOr o → Draws IsSmall (checked o)
checked_small None is choices all = all
checked_small (Some v) is choices all = (is, all)

if_draws : (b : Bool) (m n : Drawing Value) → Draws IsSmall m → Draws IsSmall n → Draws IsSmall (if b then m else n)
if_draws true m n is also = is
if_draws false m n is also = also

folded_small : (f : Folded) → IsSmallFolded f → Draws IsSmall (folded_value f)
folded_small (Known v) is choices all = (is, all)
folded_small NotConstant is choices all = all
folded_small Free is choices all = all

logic_below : (o : LogicOp) (a b : ℕ) → b < 2 ^ 32 → logic_word o a b < 2 ^ 32
logic_below And a b is = is
logic_below Or a b is = is
logic_below Xor a b is = truth_word _

-- ---- expressions

-- what is asked of leaves: constants and known variables have words alone, and lengths are words
abbrev pub LeafSmall : Consts → ExprKind-F ExprKind Expr → Type 0
LeafSmall c (ExprKind-F.Const v) = IsSmall v
LeafSmall c (ExprKind-F.Local number) = IsSmallFolded (known_at c.locals number)
LeafSmall c (ExprKind-F.Global number) = IsSmallFolded (known_at c.globals number)
LeafSmall c (ExprKind-F.Length a) = length_of (type_of a) < 2 ^ 32
LeafSmall c _ = Unit {0}

-- `Fine` says of an expression what it says of its parts too, and what is asked of its leaves.
module _ (c : Consts) (Fine : Expr → Type 0) (parts : (e : Expr) → Fine e → AllByRecursion Fine (parts_of (form_of e))) (leaf : (e : Expr) → Fine e → LeafSmall c (form_of e)) where
  abbrev Small : Expr → Type 0
  Small e = Fine e → Draws IsSmall (gives c e)

  abbrev SmallKind : ExprKind → Type 0
  SmallKind k = AllByRecursion Fine (parts_of (out-ExprKind k)) → LeafSmall c (out-ExprKind k) → (t : Ty) → Draws IsSmall (kind_gives c k t)

  abbrev Child : Type 0
  Child = (e : Expr) × Small e

  alike : (k : ExprKind) (t : Ty) (m : Drawing Value) → ((choices : List ℕ) → kind_gives c k t choices ≡ m choices) → Draws IsSmall m → Draws IsSmall (kind_gives c k t)
  alike k t m same is choices all = subst (Left IsSmall) (sym (same choices)) (is choices all)

  strays_small : (k : ExprKind) → ((t : Ty) (choices : List ℕ) → kind_gives c k t choices ≡ strays choices) → SmallKind k
  strays_small k same all known t = alike k t strays (same t) (λ choices words. words)

  fine_of : (k : ExprKind) (form : ExprKind-F ExprKind Expr) → out-ExprKind k ≡ form → AllByRecursion Fine (parts_of (out-ExprKind k)) → AllByRecursion Fine (parts_of form)
  fine_of k form is all = subst (λ (x : ExprKind-F ExprKind Expr). AllByRecursion Fine (parts_of x)) is all

  -- several in their order
  all_small : (es : List Child) → AllByRecursion Fine (map (λ (e : Child). e.0) es) → Draws AllSmall (gives_all c (map (λ (e : Child). e.0) es))
  all_small [] all = gives_small AllSmall [] tt
  all_small (e ∷ es) all =
      binds IsSmall AllSmall (gives c e.0) (λ v. gives_all c (map (λ (e : Child). e.0) es) >>= (λ vs. given (v ∷ vs))) (e.1 all.0)
      (λ v is. binds AllSmall AllSmall (gives_all c (map (λ (e : Child). e.0) es)) (λ vs. given (v ∷ vs)) (all_small es all.1) (λ vs are. gives_small AllSmall (v ∷ vs) (is, are)))

  by_kind : (y : ExprKind-F ((k : ExprKind) × SmallKind k) Child) → SmallKind (roll-ExprKind (map-ExprKind _ _ _ _ (λ k. k.0) (λ e. e.0) y))
  by_kind (ExprKind-F.Const v) = subst SmallKind (sym (rolls-Const v)) (λ all known t. alike (kind.Const v) t (given v) (at.gives-Const c v t) (gives_small IsSmall v (subst (LeafSmall c) (outs-Const v) known)))
  by_kind (ExprKind-F.Local n) = subst SmallKind (sym (rolls-Local n)) (λ all known t. alike (kind.Local n) t (folded_value (known_at c.locals n)) (at.gives-Local c n t) (folded_small (known_at c.locals n) (subst (LeafSmall c) (outs-Local n) known)))
  by_kind (ExprKind-F.Global n) = subst SmallKind (sym (rolls-Global n)) (λ all known t. alike (kind.Global n) t (folded_value (known_at c.globals n)) (at.gives-Global c n t) (folded_small (known_at c.globals n) (subst (LeafSmall c) (outs-Global n) known)))
  by_kind (ExprKind-F.Param n) = subst SmallKind (sym (rolls-Param n)) (strays_small (kind.Param n) (at.gives-Param c n))
  by_kind (ExprKind-F.BlockMember b n) = subst SmallKind (sym (rolls-BlockMember b n)) (strays_small (kind.BlockMember b n) (at.gives-BlockMember c b n))
  by_kind (ExprKind-F.Stage var) = subst SmallKind (sym (rolls-Stage var)) (strays_small (kind.Stage var) (at.gives-Stage c var))
  by_kind (ExprKind-F.Interface n) = subst SmallKind (sym (rolls-Interface n)) (strays_small (kind.Interface n) (at.gives-Interface c n))
  by_kind (ExprKind-F.Member a n) = subst SmallKind (sym (rolls-Member a.0 n)) (λ all known t.
      let fine = fine_of (kind.Member a.0 n) (ExprKind-F.Member a.0 n) (outs-Member a.0 n) all in
      alike (kind.Member a.0 n) t (gives c a.0 >>= (λ v. given (member_value v n))) (at.gives-Member c a.0 n t)
      (binds IsSmall IsSmall (gives c a.0) (λ v. given (member_value v n)) (a.1 fine.0) (λ v is. gives_small IsSmall (member_value v n) (member_small v n is))))
  by_kind (ExprKind-F.Index a i) = subst SmallKind (sym (rolls-Index a.0 i.0)) (λ all known t.
      let fine = fine_of (kind.Index a.0 i.0) (ExprKind-F.Index a.0 i.0) (outs-Index a.0 i.0) all in
      alike (kind.Index a.0 i.0) t (gives c a.0 >>= (λ v. gives c i.0 >>= (λ w. checked (index_value v (word_in w))))) (at.gives-Index c a.0 i.0 t)
      (binds IsSmall IsSmall (gives c a.0) (λ v. gives c i.0 >>= (λ w. checked (index_value v (word_in w)))) (a.1 fine.0)
      (λ v is. binds IsSmall IsSmall (gives c i.0) (λ w. checked (index_value v (word_in w))) (i.1 fine.1.0) (λ w also. checked_small (index_value v (word_in w)) (index_small v (word_in w) is)))))
  by_kind (ExprKind-F.Swizzle a l) = subst SmallKind (sym (rolls-Swizzle a.0 l)) (λ all known t.
      let fine = fine_of (kind.Swizzle a.0 l) (ExprKind-F.Swizzle a.0 l) (outs-Swizzle a.0 l) all in
      alike (kind.Swizzle a.0 l) t (gives c a.0 >>= (λ v. given (swizzle_value v l))) (at.gives-Swizzle c a.0 l t)
      (binds IsSmall IsSmall (gives c a.0) (λ v. given (swizzle_value v l)) (a.1 fine.0) (λ v is. gives_small IsSmall (swizzle_value v l) (swizzle_small v l is))))
  by_kind (ExprKind-F.Length a) = subst SmallKind (sym (rolls-Length a.0)) (λ all known t.
      alike (kind.Length a.0) t (given (Word (length_of (type_of a.0)))) (at.gives-Length c a.0 t) (gives_small IsSmall (Word (length_of (type_of a.0))) (word_small (length_of (type_of a.0)) (subst (LeafSmall c) (outs-Length a.0) known))))
  by_kind (ExprKind-F.Unary o a) = subst SmallKind (sym (rolls-Unary o a.0)) (λ all known t.
      let fine = fine_of (kind.Unary o a.0) (ExprKind-F.Unary o a.0) (outs-Unary o a.0) all in
      alike (kind.Unary o a.0) t (gives c a.0 >>= (λ v. given (unary_value o v))) (at.gives-Unary c o a.0 t)
      (binds IsSmall IsSmall (gives c a.0) (λ v. given (unary_value o v)) (a.1 fine.0) (λ v is. gives_small IsSmall (unary_value o v) (unary_small o v))))
  by_kind (ExprKind-F.Binary o a b) = subst SmallKind (sym (rolls-Binary o a.0 b.0)) (λ all known t.
      let fine = fine_of (kind.Binary o a.0 b.0) (ExprKind-F.Binary o a.0 b.0) (outs-Binary o a.0 b.0) all in
      alike (kind.Binary o a.0 b.0) t (gives c a.0 >>= (λ v. gives c b.0 >>= (λ w. drawn (binary_value o (is_signed (type_of a.0)) v w)))) (at.gives-Binary c o a.0 b.0 t)
      (binds IsSmall IsSmall (gives c a.0) (λ v. gives c b.0 >>= (λ w. drawn (binary_value o (is_signed (type_of a.0)) v w))) (a.1 fine.0)
      (λ v is. binds IsSmall IsSmall (gives c b.0) (λ w. drawn (binary_value o (is_signed (type_of a.0)) v w)) (b.1 fine.1.0) (λ w also choices words. binary_small o (is_signed (type_of a.0)) v w choices words))))
  by_kind (ExprKind-F.Logic o a b) = subst SmallKind (sym (rolls-Logic o a.0 b.0)) (λ all known t.
      let fine = fine_of (kind.Logic o a.0 b.0) (ExprKind-F.Logic o a.0 b.0) (outs-Logic o a.0 b.0) all in
      alike (kind.Logic o a.0 b.0) t (gives c a.0 >>= (λ v. if decides o (word_in v) then given v else gives c b.0 >>= (λ w. given (Word (logic_word o (word_in v) (word_in w)))))) (at.gives-Logic c o a.0 b.0 t)
      (binds IsSmall IsSmall (gives c a.0) (λ v. if decides o (word_in v) then given v else gives c b.0 >>= (λ w. given (Word (logic_word o (word_in v) (word_in w))))) (a.1 fine.0)
      (λ v is. if_draws (decides o (word_in v)) (given v) (gives c b.0 >>= (λ w. given (Word (logic_word o (word_in v) (word_in w))))) (gives_small IsSmall v is)
      (binds IsSmall IsSmall (gives c b.0) (λ w. given (Word (logic_word o (word_in v) (word_in w)))) (b.1 fine.1.0)
      (λ w also. gives_small IsSmall (Word (logic_word o (word_in v) (word_in w))) (word_small _ (logic_below o (word_in v) (word_in w) (word_in_small w also))))))))
  by_kind (ExprKind-F.Choose s a b) = subst SmallKind (sym (rolls-Choose s.0 a.0 b.0)) (λ all known t.
      let fine = fine_of (kind.Choose s.0 a.0 b.0) (ExprKind-F.Choose s.0 a.0 b.0) (outs-Choose s.0 a.0 b.0) all in
      alike (kind.Choose s.0 a.0 b.0) t (gives c s.0 >>= (λ v. if word_in v == 0 then gives c b.0 else gives c a.0)) (at.gives-Choose c s.0 a.0 b.0 t)
      (binds IsSmall IsSmall (gives c s.0) (λ v. if word_in v == 0 then gives c b.0 else gives c a.0) (s.1 fine.0) (λ v is. if_draws (word_in v == 0) (gives c b.0) (gives c a.0) (b.1 fine.1.1.0) (a.1 fine.1.0))))
  by_kind (ExprKind-F.Assign a b) = subst SmallKind (sym (rolls-Assign a.0 b.0)) (strays_small (kind.Assign a.0 b.0) (at.gives-Assign c a.0 b.0))
  by_kind (ExprKind-F.Update o a b) = subst SmallKind (sym (rolls-Update o a.0 b.0)) (strays_small (kind.Update o a.0 b.0) (at.gives-Update c o a.0 b.0))
  by_kind (ExprKind-F.Step o a) = subst SmallKind (sym (rolls-Step o a.0)) (strays_small (kind.Step o a.0) (at.gives-Step c o a.0))
  by_kind (ExprKind-F.Call n es) = let all = map (λ (e : Child). e.0) es in subst SmallKind (sym (rolls-Call n all)) (strays_small (kind.Call n all) (at.gives-Call c n all))
  by_kind (ExprKind-F.Built f es) =
      let all = map (λ (e : Child). e.0) es in
      subst SmallKind (sym (rolls-Built f all)) (λ fine known t.
      alike (kind.Built f all) t (gives_all c all >>= (λ vs. drawn (builtin_value f (signed_first all) vs))) (at.gives-Built c f all t)
      (binds AllSmall IsSmall (gives_all c all) (λ vs. drawn (builtin_value f (signed_first all) vs)) (all_small es (fine_of (kind.Built f all) (ExprKind-F.Built f all) (outs-Built f all) fine))
      (λ vs are choices words. builtin_small f (signed_first all) vs choices are words)))
  by_kind (ExprKind-F.Build es) =
      let all = map (λ (e : Child). e.0) es in
      subst SmallKind (sym (rolls-Build all)) (λ fine known t.
      alike (kind.Build all) t (gives_all c all >>= (λ vs. given (build_value t vs))) (at.gives-Build c all t)
      (binds AllSmall IsSmall (gives_all c all) (λ vs. given (build_value t vs)) (all_small es (fine_of (kind.Build all) (ExprKind-F.Build all) (outs-Build all) fine))
      (λ vs are. gives_small IsSmall (build_value t vs) (build_small t vs are))))
  by_kind (ExprKind-F.Convert a) = subst SmallKind (sym (rolls-Convert a.0)) (λ all known t.
      alike (kind.Convert a.0) t (gives c a.0) (at.gives-Convert c a.0 t) (a.1 (fine_of (kind.Convert a.0) (ExprKind-F.Convert a.0) (outs-Convert a.0) all).0))
  by_kind (ExprKind-F.Comma es) = let all = map (λ (e : Child). e.0) es in subst SmallKind (sym (rolls-Comma all)) (strays_small (kind.Comma all) (at.gives-Comma c all))

  by_expr : (y : Expr-F ((k : ExprKind) × SmallKind k) Child) → Small (roll-Expr (map-Expr _ _ _ _ (λ k. k.0) (λ e. e.0) y))
  by_expr y fine choices words =
      let e = roll-Expr (map-Expr _ _ _ _ (λ (k : (k : ExprKind) × SmallKind k). k.0) (λ (e : Child). e.0) y) in
      subst (Left IsSmall) (sym (at.gives_opens c e choices)) (y.kind.1 (parts e fine) (leaf e fine) y.ty choices words)

  small_of : (e : Expr) → Small e
  small_of = ind-Expr SmallKind Small (λ x y is. subst (λ z. SmallKind (roll-ExprKind z)) is (by_kind y)) (λ x y is. subst (λ z. Small (roll-Expr z)) is (by_expr y))

  by_given : (r : Option Value × List ℕ) → Left IsSmall r → IsSmallFolded (known_by r)
  by_given (Some v, []) is = tt
  by_given (Some v, choice ∷ choices) is = is.0
  by_given (None, []) is = tt
  by_given (None, choice ∷ choices) is = tt

  by_standing : (s : Standing) (r : Option Value × List ℕ) → Left IsSmall r → IsSmallFolded (known_as s r)
  by_standing Never r is = tt
  by_standing Open r is = tt
  by_standing Settled r is = by_given r is

  -- what is known of an expression has words alone
  pub known_small : (e : Expr) → Fine e → IsSmallFolded (constant_of c e)
  unfolding constant_of
  known_small e fine = by_standing (standing c e) (gives c e (0 ∷ [])) (small_of e fine (0 ∷ []) (omega arith, tt))
