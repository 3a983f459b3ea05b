-- What is constant stays so where more is known, and has its value.
use Rattle.std.proofs.Common.{◌≡◌, refl, sym, ap, ◌∙◌, subst, ℕ, List, [], ◌∷◌, map, Option, Some, None, Bool, true, false, if◌then◌else◌}
use Rattle.std.specs.Prelude.{◌==◌}
use Rattle.std.specs.List.{AllByRecursion}
use Rattle.gsl_types.specs.declared.ty.Ty.{Ty}
use Rattle.gsl_values.specs.declared.value.Value.{Value}
use Rattle.gsl_values.specs.declared.value.Value.TheVariants.{Word}
use Rattle.gsl_tree.specs.declared.expr.Expr.{Expr}
use Rattle.gsl_tree.specs.declared.expr.ExprKind.{ExprKind, out-ExprKind}
use Rattle.gsl_tree.specs.declared.expr.ExprKind.TheVariants as kind
use Rattle.gsl_tree.specs.declared.expr.ExprKind.TheVariants.{rolls-Const, rolls-Local, rolls-Global, rolls-Param, rolls-BlockMember, rolls-Stage, rolls-Interface, rolls-Member, rolls-Index, rolls-Swizzle, rolls-Length, rolls-Unary, rolls-Binary, rolls-Logic, rolls-Choose, rolls-Assign, rolls-Update, rolls-Step, rolls-Call, rolls-Built, rolls-Build, rolls-Convert, rolls-Comma}
use Rattle.gsl_tree.specs.declared.expr.ExprKind.TheVariants.{outs-Local, outs-Global, outs-Member, outs-Index, outs-Swizzle, outs-Length, outs-Unary, outs-Binary, outs-Logic, outs-Choose, outs-Built, outs-Build, outs-Convert}
use Rattle.gsl_tree.specs.declared.expr.ExprKind.TheOpen.{ExprKind-F, Expr-F}
use Rattle.gsl_tree.specs.declared.expr.ExprKind.TheFolds.{ind-Expr, map-Expr, map-ExprKind}
use Rattle.gsl_tree.specs.declared.expr.ExprKind.TheViews.{roll-Expr, roll-ExprKind}
use Rattle.gsl_tree.specs.declared.folded.Folded.{Folded}
use Rattle.gsl_tree.specs.declared.folded.Folded.TheVariants.{Known, NotConstant, Free}
use Rattle.gsl_tree.specs.declared.folded.Consts.{Consts}
use Rattle.gsl_tree.specs.declared.folded.Standing.{Standing}
use Rattle.gsl_tree.specs.declared.folded.Standing.TheVariants.{Settled, Open, Never}
use Rattle.gsl_tree.specs.Values.{word_in}
use Rattle.gsl_tree.specs.Operations.{unary_value, binary_value, decides, logic_word, build_value, index_value, member_value, swizzle_value, is_signed, builtin_value}
use Rattle.gsl_tree.specs.Drawing.{Drawing, given, ◌>>=◌, behind, drawn, checked}
use Rattle.gsl_tree.specs.Constants.{known_at, standing_of, worse, standing, kind_standing, folded_value, gives, kind_gives, standings, gives_all, signed_first, known_as, constant_of}
use Rattle.gsl_tree.specs.Trees.{type_of, form_of, parts_of}
use Rattle.gsl_tree.proofs.Steps as at

-- ---- standings

never : {X : Type 0} → ◌≡◌ {A = Standing} Never Settled → X
never is = let no : ⊥ = cc in elim no [ ]

left_open : {X : Type 0} → ◌≡◌ {A = Standing} Open Settled → X
left_open is = let no : ⊥ = cc in elim no [ ]

pub both_settled : (a b : Standing) → worse a b ≡ Settled → (a ≡ Settled) × (b ≡ Settled)
both_settled Settled b is = (refl, is)
both_settled Open Settled is = left_open is
both_settled Open Open is = left_open is
both_settled Open Never is = never is
both_settled Never b is = never is

settled_worse : (a b : Standing) → a ≡ Settled → b ≡ Settled → worse a b ≡ Settled
settled_worse a b is also = ap (λ s. worse s b) is ∙ also

-- what is known of a variable by the first is known by the second
abbrev pub KnownToo : List Folded → List Folded → ℕ → Type 0
KnownToo few many number = (v : Value) → known_at few number ≡ Known v → known_at many number ≡ Known v

abbrev pub LeafKnown : Consts → Consts → ExprKind-F ExprKind Expr → Type 0
LeafKnown c d (ExprKind-F.Local number) = KnownToo c.locals d.locals number
LeafKnown c d (ExprKind-F.Global number) = KnownToo c.globals d.globals number
LeafKnown c d _ = Unit {0}

settled_known : (f : Folded) → standing_of f ≡ Settled → (v : Value) × (f ≡ Known v)
settled_known (Known v) is = (v, refl)
settled_known NotConstant is = never is
settled_known Free is = left_open is

-- ---- drawing the same

abbrev Alike : {A : Type 0} → Drawing A → Drawing A → Type 0
Alike m n = (choices : List ℕ) → m choices ≡ n choices

alike_behind : {A B : Type 0} (given : Option A × List ℕ) (f g : A → Drawing B) → ((a : A) → Alike (f a) (g a)) → behind given f ≡ behind given g
alike_behind (Some a, choices) f g next = next a choices
alike_behind (None, choices) f g next = refl

alike_bind : {A B : Type 0} (m n : Drawing A) (f g : A → Drawing B) → Alike m n → ((a : A) → Alike (f a) (g a)) → Alike (m >>= f) (n >>= g)
alike_bind m n f g is next choices = ap (λ r. behind r f) (is choices) ∙ alike_behind (n choices) f g next

itself : {A : Type 0} (m : Drawing A) → Alike m m
itself m choices = refl

alike_if : {A : Type 0} (b : Bool) (m n p q : Drawing A) → Alike m n → Alike p q → Alike (if b then m else p) (if b then n else q)
alike_if true m n p q is also = is
alike_if false m n p q is also = also

-- ---- expressions

-- `Fine` says of an expression what it says of its parts too, and that its leaves are known.
module _ (c d : Consts) (Fine : Expr → Type 0) (parts : (e : Expr) → Fine e → AllByRecursion Fine (parts_of (form_of e))) (leaf : (e : Expr) → Fine e → LeafKnown c d (form_of e)) where
  abbrev Same : Expr → Type 0
  Same e = Fine e → standing c e ≡ Settled → (standing d e ≡ Settled) × Alike (gives d e) (gives c e)

  abbrev SameKind : ExprKind → Type 0
  SameKind k = AllByRecursion Fine (parts_of (out-ExprKind k)) → LeafKnown c d (out-ExprKind k) → kind_standing c k ≡ Settled
      → (kind_standing d k ≡ Settled) × ((t : Ty) → Alike (kind_gives d k t) (kind_gives c k t))

  abbrev Child : Type 0
  Child = (e : Expr) × Same e

  not_settled : (k : ExprKind) → kind_standing c k ≡ Never → SameKind k
  not_settled k is all known settled = never (sym is ∙ settled)

  -- what is as its one part is
  as_one : (k : ExprKind) (a : Expr) (f : Ty → Consts → Drawing Value) → Same a → parts_of (out-ExprKind k) ≡ a ∷ []
      → ((x : Consts) → kind_standing x k ≡ standing x a) → ((x : Consts) (t : Ty) → Alike (kind_gives x k t) (f t x)) → (Alike (gives d a) (gives c a) → (t : Ty) → Alike (f t d) (f t c)) → SameKind k
  as_one k a f same has stands gives_is next all known settled =
      let inner = same (subst (AllByRecursion Fine) has all).0 (sym (stands c) ∙ settled) in
      (stands d ∙ inner.0, λ t choices. gives_is d t choices ∙ next inner.1 t choices ∙ sym (gives_is c t choices))

  as_two : (k : ExprKind) (a b : Expr) (f : Ty → Consts → Drawing Value) → Same a → Same b → parts_of (out-ExprKind k) ≡ a ∷ b ∷ []
      → ((x : Consts) → kind_standing x k ≡ worse (standing x a) (standing x b)) → ((x : Consts) (t : Ty) → Alike (kind_gives x k t) (f t x))
      → (Alike (gives d a) (gives c a) → Alike (gives d b) (gives c b) → (t : Ty) → Alike (f t d) (f t c)) → SameKind k
  as_two k a b f first second has stands gives_is next all known settled =
      let fine = subst (AllByRecursion Fine) has all in
      let both = both_settled (standing c a) (standing c b) (sym (stands c) ∙ settled) in
      let x = first fine.0 both.0 in
      let y = second fine.1.0 both.1 in
      (stands d ∙ settled_worse (standing d a) (standing d b) x.0 y.0, λ t choices. gives_is d t choices ∙ next x.1 y.1 t choices ∙ sym (gives_is c t choices))

  -- several in their order
  all_same : (es : List Child) → AllByRecursion Fine (map (λ (e : Child). e.0) es) → standings c (map (λ (e : Child). e.0) es) ≡ Settled
      → (standings d (map (λ (e : Child). e.0) es) ≡ Settled) × Alike (gives_all d (map (λ (e : Child). e.0) es)) (gives_all c (map (λ (e : Child). e.0) es))
  all_same [] all settled = (refl, itself (given []))
  all_same (e ∷ es) all settled =
      let both = both_settled (standing c e.0) (standings c (map (λ (e : Child). e.0) es)) settled in
      let x = e.1 all.0 both.0 in
      let y = all_same es all.1 both.1 in (
        settled_worse (standing d e.0) (standings d (map (λ (e : Child). e.0) es)) x.0 y.0,
        alike_bind (gives d e.0) (gives c e.0) (λ v. gives_all d (map (λ (e : Child). e.0) es) >>= (λ vs. given (v ∷ vs))) (λ v. gives_all c (map (λ (e : Child). e.0) es) >>= (λ vs. given (v ∷ vs))) x.1
            (λ v. alike_bind (gives_all d (map (λ (e : Child). e.0) es)) (gives_all c (map (λ (e : Child). e.0) es)) (λ vs. given (v ∷ vs)) (λ vs. given (v ∷ vs)) y.1 (λ vs. itself (given (v ∷ vs)))),
      )

  as_all : (k : ExprKind) (es : List Child) (f : Ty → Consts → Drawing Value) → parts_of (out-ExprKind k) ≡ map (λ (e : Child). e.0) es
      → ((x : Consts) → kind_standing x k ≡ standings x (map (λ (e : Child). e.0) es)) → ((x : Consts) (t : Ty) → Alike (kind_gives x k t) (f t x))
      → (Alike (gives_all d (map (λ (e : Child). e.0) es)) (gives_all c (map (λ (e : Child). e.0) es)) → (t : Ty) → Alike (f t d) (f t c)) → SameKind k
  as_all k es f has stands gives_is next all known settled =
      let inner = all_same es (subst (AllByRecursion Fine) has all) (sym (stands c) ∙ settled) in
      (stands d ∙ inner.0, λ t choices. gives_is d t choices ∙ next inner.1 t choices ∙ sym (gives_is c t choices))

  of_local : (n : ℕ) → SameKind (kind.Local n)
  of_local n all known settled =
      let is = settled_known (known_at c.locals n) (sym (at.standing-Local c n) ∙ settled) in
      let also : known_at d.locals n ≡ Known is.0 = subst (LeafKnown c d) (outs-Local n) known is.0 is.1 in
      (at.standing-Local d n ∙ ap standing_of also, λ t choices. at.gives-Local d n t choices ∙ ap (λ (f : Folded). folded_value f choices) (also ∙ sym is.1) ∙ sym (at.gives-Local c n t choices))

  of_global : (n : ℕ) → SameKind (kind.Global n)
  of_global n all known settled =
      let is = settled_known (known_at c.globals n) (sym (at.standing-Global c n) ∙ settled) in
      let also : known_at d.globals n ≡ Known is.0 = subst (LeafKnown c d) (outs-Global n) known is.0 is.1 in
      (at.standing-Global d n ∙ ap standing_of also, λ t choices. at.gives-Global d n t choices ∙ ap (λ (f : Folded). folded_value f choices) (also ∙ sym is.1) ∙ sym (at.gives-Global c n t choices))

  of_choose : (t a b : Expr) → Same t → Same a → Same b → SameKind (kind.Choose t a b)
  of_choose t a b zeroth first second all known settled =
      let fine = subst (λ f. AllByRecursion Fine (parts_of f)) (outs-Choose t a b) all in
      let test = both_settled (standing c t) (worse (standing c a) (standing c b)) (sym (at.standing-Choose c t a b) ∙ settled) in
      let both = both_settled (standing c a) (standing c b) test.1 in
      let w = zeroth fine.0 test.0 in
      let x = first fine.1.0 both.0 in
      let y = second fine.1.1.0 both.1 in (
        at.standing-Choose d t a b ∙ settled_worse (standing d t) (worse (standing d a) (standing d b)) w.0 (settled_worse (standing d a) (standing d b) x.0 y.0),
        λ u choices. at.gives-Choose d t a b u choices
            ∙ alike_bind (gives d t) (gives c t) (λ v. if word_in v == 0 then gives d b else gives d a) (λ v. if word_in v == 0 then gives c b else gives c a) w.1
            (λ v. alike_if (word_in v == 0) (gives d b) (gives c b) (gives d a) (gives c a) y.1 x.1) choices
            ∙ sym (at.gives-Choose c t a b u choices),
      )

  by_kind : (y : ExprKind-F ((k : ExprKind) × SameKind k) Child) → SameKind (roll-ExprKind (map-ExprKind _ _ _ _ (λ k. k.0) (λ e. e.0) y))
  by_kind (ExprKind-F.Const v) = subst SameKind (sym (rolls-Const v)) (λ all known settled.
      (at.standing-Const d v, λ t choices. at.gives-Const d v t choices ∙ sym (at.gives-Const c v t choices)))
  by_kind (ExprKind-F.Local n) = subst SameKind (sym (rolls-Local n)) (of_local n)
  by_kind (ExprKind-F.Global n) = subst SameKind (sym (rolls-Global n)) (of_global n)
  by_kind (ExprKind-F.Param n) = subst SameKind (sym (rolls-Param n)) (not_settled (kind.Param n) (at.standing-Param c n))
  by_kind (ExprKind-F.BlockMember b n) = subst SameKind (sym (rolls-BlockMember b n)) (not_settled (kind.BlockMember b n) (at.standing-BlockMember c b n))
  by_kind (ExprKind-F.Stage var) = subst SameKind (sym (rolls-Stage var)) (not_settled (kind.Stage var) (at.standing-Stage c var))
  by_kind (ExprKind-F.Interface n) = subst SameKind (sym (rolls-Interface n)) (not_settled (kind.Interface n) (at.standing-Interface c n))
  by_kind (ExprKind-F.Member a n) = subst SameKind (sym (rolls-Member a.0 n))
      (as_one (kind.Member a.0 n) a.0 (λ t x. gives x a.0 >>= (λ v. given (member_value v n))) a.1 (ap parts_of (outs-Member a.0 n)) (λ x. at.standing-Member x a.0 n) (λ x t. at.gives-Member x a.0 n t)
      (λ is t. alike_bind (gives d a.0) (gives c a.0) (λ v. given (member_value v n)) (λ v. given (member_value v n)) is (λ v. itself (given (member_value v n)))))
  by_kind (ExprKind-F.Index a i) = subst SameKind (sym (rolls-Index a.0 i.0))
      (as_two (kind.Index a.0 i.0) a.0 i.0 (λ t x. gives x a.0 >>= (λ v. gives x i.0 >>= (λ at_index. checked (index_value v (word_in at_index))))) a.1 i.1 (ap parts_of (outs-Index a.0 i.0)) (λ x. at.standing-Index x a.0 i.0) (λ x t. at.gives-Index x a.0 i.0 t)
      (λ is also t. alike_bind (gives d a.0) (gives c a.0) (λ v. gives d i.0 >>= (λ at_index. checked (index_value v (word_in at_index)))) (λ v. gives c i.0 >>= (λ at_index. checked (index_value v (word_in at_index)))) is
      (λ v. alike_bind (gives d i.0) (gives c i.0) (λ at_index. checked (index_value v (word_in at_index))) (λ at_index. checked (index_value v (word_in at_index))) also (λ w. itself (checked (index_value v (word_in w)))))))
  by_kind (ExprKind-F.Swizzle a l) = subst SameKind (sym (rolls-Swizzle a.0 l))
      (as_one (kind.Swizzle a.0 l) a.0 (λ t x. gives x a.0 >>= (λ v. given (swizzle_value v l))) a.1 (ap parts_of (outs-Swizzle a.0 l)) (λ x. at.standing-Swizzle x a.0 l) (λ x t. at.gives-Swizzle x a.0 l t)
      (λ is t. alike_bind (gives d a.0) (gives c a.0) (λ v. given (swizzle_value v l)) (λ v. given (swizzle_value v l)) is (λ v. itself (given (swizzle_value v l)))))
  by_kind (ExprKind-F.Length a) = subst SameKind (sym (rolls-Length a.0)) (λ all known settled.
      (at.standing-Length d a.0 ∙ sym (at.standing-Length c a.0) ∙ settled, λ t choices. at.gives-Length d a.0 t choices ∙ sym (at.gives-Length c a.0 t choices)))
  by_kind (ExprKind-F.Unary o a) = subst SameKind (sym (rolls-Unary o a.0))
      (as_one (kind.Unary o a.0) a.0 (λ t x. gives x a.0 >>= (λ v. given (unary_value o v))) a.1 (ap parts_of (outs-Unary o a.0)) (λ x. at.standing-Unary x o a.0) (λ x t. at.gives-Unary x o a.0 t)
      (λ is t. alike_bind (gives d a.0) (gives c a.0) (λ v. given (unary_value o v)) (λ v. given (unary_value o v)) is (λ v. itself (given (unary_value o v)))))
  by_kind (ExprKind-F.Binary o a b) = subst SameKind (sym (rolls-Binary o a.0 b.0))
      (as_two (kind.Binary o a.0 b.0) a.0 b.0 (λ t x. gives x a.0 >>= (λ v. gives x b.0 >>= (λ w. drawn (binary_value o (is_signed (type_of a.0)) v w)))) a.1 b.1 (ap parts_of (outs-Binary o a.0 b.0)) (λ x. at.standing-Binary x o a.0 b.0) (λ x t. at.gives-Binary x o a.0 b.0 t)
      (λ is also t. alike_bind (gives d a.0) (gives c a.0) (λ v. gives d b.0 >>= (λ w. drawn (binary_value o (is_signed (type_of a.0)) v w))) (λ v. gives c b.0 >>= (λ w. drawn (binary_value o (is_signed (type_of a.0)) v w))) is
      (λ v. alike_bind (gives d b.0) (gives c b.0) (λ w. drawn (binary_value o (is_signed (type_of a.0)) v w)) (λ w. drawn (binary_value o (is_signed (type_of a.0)) v w)) also (λ w. itself (drawn (binary_value o (is_signed (type_of a.0)) v w))))))
  by_kind (ExprKind-F.Logic o a b) = subst SameKind (sym (rolls-Logic o a.0 b.0))
      (as_two (kind.Logic o a.0 b.0) a.0 b.0 (λ t x. gives x a.0 >>= (λ v. if decides o (word_in v) then given v else gives x b.0 >>= (λ w. given (Word (logic_word o (word_in v) (word_in w)))))) a.1 b.1 (ap parts_of (outs-Logic o a.0 b.0)) (λ x. at.standing-Logic x o a.0 b.0) (λ x t. at.gives-Logic x o a.0 b.0 t)
      (λ is also t. alike_bind (gives d a.0) (gives c a.0) (λ v. if decides o (word_in v) then given v else gives d b.0 >>= (λ w. given (Word (logic_word o (word_in v) (word_in w))))) (λ v. if decides o (word_in v) then given v else gives c b.0 >>= (λ w. given (Word (logic_word o (word_in v) (word_in w))))) is
      (λ v. alike_if (decides o (word_in v)) (given v) (given v) (gives d b.0 >>= (λ w. given (Word (logic_word o (word_in v) (word_in w))))) (gives c b.0 >>= (λ w. given (Word (logic_word o (word_in v) (word_in w))))) (itself (given v))
      (alike_bind (gives d b.0) (gives c b.0) (λ w. given (Word (logic_word o (word_in v) (word_in w)))) (λ w. given (Word (logic_word o (word_in v) (word_in w)))) also (λ w. itself (given (Word (logic_word o (word_in v) (word_in w)))))))))
  by_kind (ExprKind-F.Choose t a b) = subst SameKind (sym (rolls-Choose t.0 a.0 b.0)) (of_choose t.0 a.0 b.0 t.1 a.1 b.1)
  by_kind (ExprKind-F.Assign a b) = subst SameKind (sym (rolls-Assign a.0 b.0)) (not_settled (kind.Assign a.0 b.0) (at.standing-Assign c a.0 b.0))
  by_kind (ExprKind-F.Update o a b) = subst SameKind (sym (rolls-Update o a.0 b.0)) (not_settled (kind.Update o a.0 b.0) (at.standing-Update c o a.0 b.0))
  by_kind (ExprKind-F.Step o a) = subst SameKind (sym (rolls-Step o a.0)) (not_settled (kind.Step o a.0) (at.standing-Step c o a.0))
  by_kind (ExprKind-F.Call n es) = subst SameKind (sym (rolls-Call n (map (λ (e : Child). e.0) es))) (not_settled (kind.Call n (map (λ (e : Child). e.0) es)) (at.standing-Call c n (map (λ (e : Child). e.0) es)))
  by_kind (ExprKind-F.Built f es) = subst SameKind (sym (rolls-Built f (map (λ (e : Child). e.0) es)))
      (as_all (kind.Built f (map (λ (e : Child). e.0) es)) es (λ t x. gives_all x (map (λ (e : Child). e.0) es) >>= (λ vs. drawn (builtin_value f (signed_first (map (λ (e : Child). e.0) es)) vs))) (ap parts_of (outs-Built f (map (λ (e : Child). e.0) es)))
      (λ x. at.standing-Built x f (map (λ (e : Child). e.0) es)) (λ x t. at.gives-Built x f (map (λ (e : Child). e.0) es) t)
      (λ is t. alike_bind (gives_all d (map (λ (e : Child). e.0) es)) (gives_all c (map (λ (e : Child). e.0) es)) (λ vs. drawn (builtin_value f (signed_first (map (λ (e : Child). e.0) es)) vs)) (λ vs. drawn (builtin_value f (signed_first (map (λ (e : Child). e.0) es)) vs)) is
      (λ vs. itself (drawn (builtin_value f (signed_first (map (λ (e : Child). e.0) es)) vs)))))
  by_kind (ExprKind-F.Build es) = subst SameKind (sym (rolls-Build (map (λ (e : Child). e.0) es)))
      (as_all (kind.Build (map (λ (e : Child). e.0) es)) es (λ t x. gives_all x (map (λ (e : Child). e.0) es) >>= (λ vs. given (build_value t vs))) (ap parts_of (outs-Build (map (λ (e : Child). e.0) es)))
      (λ x. at.standing-Build x (map (λ (e : Child). e.0) es)) (λ x t. at.gives-Build x (map (λ (e : Child). e.0) es) t)
      (λ is t. alike_bind (gives_all d (map (λ (e : Child). e.0) es)) (gives_all c (map (λ (e : Child). e.0) es)) (λ vs. given (build_value t vs)) (λ vs. given (build_value t vs)) is (λ vs. itself (given (build_value t vs)))))
  by_kind (ExprKind-F.Convert a) = subst SameKind (sym (rolls-Convert a.0))
      (as_one (kind.Convert a.0) a.0 (λ t x. gives x a.0) a.1 (ap parts_of (outs-Convert a.0)) (λ x. at.standing-Convert x a.0) (λ x t. at.gives-Convert x a.0 t) (λ is t. is))
  by_kind (ExprKind-F.Comma es) = subst SameKind (sym (rolls-Comma (map (λ (e : Child). e.0) es))) (not_settled (kind.Comma (map (λ (e : Child). e.0) es)) (at.standing-Comma c (map (λ (e : Child). e.0) es)))

  by_expr : (y : Expr-F ((k : ExprKind) × SameKind k) Child) → Same (roll-Expr (map-Expr _ _ _ _ (λ k. k.0) (λ e. e.0) y))
  by_expr y fine settled =
      let e = roll-Expr (map-Expr _ _ _ _ (λ (k : (k : ExprKind) × SameKind k). k.0) (λ (e : Child). e.0) y) in
      let inner = y.kind.1 (parts e fine) (leaf e fine) (sym (at.standing_opens c e) ∙ settled) in
      (at.standing_opens d e ∙ inner.0, λ choices. at.gives_opens d e choices ∙ inner.1 y.ty choices ∙ sym (at.gives_opens c e choices))

  pub same_of : (e : Expr) → Same e
  same_of = ind-Expr SameKind Same (λ x y is. subst (λ z. SameKind (roll-ExprKind z)) is (by_kind y)) (λ x y is. subst (λ z. Same (roll-Expr z)) is (by_expr y))

  known_settled : (s : Standing) (given : Option Value × List ℕ) (v : Value) → known_as s given ≡ Known v → s ≡ Settled
  known_settled Settled given v is = refl
  known_settled Open given v is = let no : ⊥ = cc in elim no [ ]
  known_settled Never given v is = let no : ⊥ = cc in elim no [ ]

  -- what is known by the first is known by the second
  pub stays_known : (e : Expr) → Fine e → (v : Value) → constant_of c e ≡ Known v → constant_of d e ≡ Known v
  unfolding constant_of
  stays_known e fine v is =
      let settled = known_settled (standing c e) (gives c e (0 ∷ [])) v is in
      let same = same_of e fine settled in
      ap (λ (r : Option Value × List ℕ). known_as (standing d e) r) (same.1 (0 ∷ [])) ∙ ap (λ (s : Standing). known_as s (gives c e (0 ∷ []))) (same.0 ∙ sym settled) ∙ is
