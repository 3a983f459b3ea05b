-- A term or a sum is read exactly where it stands.
use Rattle.std.proofs.Common.{◌≡◌, ℕ, ◌<◌, ◌≤◌, ◌^◌, Bool, true, false, cond, ◌&&◌, ◌==◌, List, [], ◌∷◌, ◌++◌, length, Option, Some, None, refl, ap, sym, subst, ◌∙◌, arith, ltb}
use Rattle.std.proofs.lemmas.Bool.{and_parts, and_from, cond-true, lt-ltb, ltb-true, eqb-true, eq-eqb}
use Rattle.std.proofs.lemmas.List.{length-append}
use Rattle.std.specs.List.{AllByRecursion}
use Rattle.std.specs.Option.{option_map}
use Rattle.gsl_base.specs.declared.fault.Place.{Place}
use Rattle.gsl_types.specs.declared.ty.Scalar.TheVariants.{Int}
use Rattle.gsl_types.specs.declared.ty.Ty.{Ty}
use Rattle.gsl_types.specs.declared.ty.Ty.TheOpen.{Ty-F}
use Rattle.gsl_types.specs.declared.ty.Ty.TheViews.{roll-Ty, out-Ty, roll-out-Ty}
use Rattle.gsl_types.specs.declared.ty.Ty.TheVariants as ty
use Rattle.gsl_types.specs.declared.ty.Ty.TheVariants.{rolls-One, outs-One, rolls-Void, outs-Void}
use Rattle.gsl_values.specs.declared.op.BinaryOp.{BinaryOp}
use Rattle.gsl_values.specs.declared.op.BinaryOp.TheVariants.{Add}
use Rattle.gsl_values.specs.declared.value.Value.{Value}
use Rattle.gsl_values.specs.declared.value.Value.TheOpen.{Value-F}
use Rattle.gsl_values.specs.declared.value.Value.TheViews.{roll-Value, out-Value, roll-out-Value}
use Rattle.gsl_values.specs.declared.value.Value.TheVariants.{Word, rolls-Word, outs-Word}
use Rattle.gsl_tree.specs.declared.expr.Expr.{Expr}
use Rattle.gsl_tree.specs.declared.expr.ExprKind.{ExprKind}
use Rattle.gsl_tree.specs.declared.expr.ExprKind.TheVariants as kind
use Rattle.gsl_tree.specs.declared.expr.ExprKind.TheVariants.{rolls-BlockMember, rolls-Const, rolls-Binary}
use Rattle.gsl_tree.specs.declared.expr.ExprKind.TheOpen.{ExprKind-F, Expr-F}
use Rattle.gsl_tree.specs.declared.expr.ExprKind.TheFolds.{ind-Expr, map-Expr, map-ExprKind}
use Rattle.gsl_tree.specs.declared.expr.ExprKind.TheViews.{roll-Expr, roll-ExprKind}
use Rattle.gsl_tree.specs.Trees.{typed}
use Rattle.gsl_form.specs.declared.program.Term.{Term}
use Rattle.gsl_form.specs.declared.program.Term.TheVariants.{Member, Literal}
use Rattle.gsl_form.specs.Form.{IsTerm}
use Rattle.gsl_form.specs.Trees.{int, int_at, member_at, IsTermOf, IsSumOf}
use Rattle.gsl_form.specs.Reading.{int_layer, is_int, void_layer, is_void, Parts, neither, alone, with_term, added, member, word_layer, literal, parts_of, kind_parts}
use Rattle.gsl_form.proofs.Steps.{rolled, rolled_expr, of_member, of_const, of_binary}

-- ---- types

int_layer_is : (x : Ty-F Ty) → int_layer x ≡ true → roll-Ty x ≡ int
int_layer_is (Ty-F.One Int) is = rolls-One Int
int_layer_is _ is = absurd (cc)

pub int_is : (t : Ty) → is_int t ≡ true → t ≡ int
unfolding is_int
int_is t is = sym (roll-out-Ty t) ∙ int_layer_is (out-Ty t) is

pub int_gives : is_int int ≡ true
unfolding is_int
int_gives = ap int_layer (outs-One Int)

void_layer_is : (x : Ty-F Ty) → void_layer x ≡ true → roll-Ty x ≡ ty.Void
void_layer_is Ty-F.Void is = rolls-Void
void_layer_is _ is = absurd (cc)

pub void_is : (t : Ty) → is_void t ≡ true → t ≡ ty.Void
unfolding is_void
void_is t is = sym (roll-out-Ty t) ∙ void_layer_is (out-Ty t) is

pub void_gives : is_void ty.Void ≡ true
unfolding is_void
void_gives = ap void_layer outs-Void

-- ---- what is read

-- The terms are of so many members, and there is one at least.
pub record AreTerms (members : ℕ) (ts : List Term) : Type 0 where
  pub some : 1 ≤ length ts
  pub each : AllByRecursion (IsTerm members) ts

all_behind : {X : Type 0} (P : X → Type 0) (xs : List X) (x : X) → AllByRecursion P xs → P x → AllByRecursion P (xs ++ x ∷ [])
all_behind P [] x all one = (one, tt)
all_behind P (y ∷ xs) x all one = (all.0, all_behind P xs x all.1 one)

all_front : {X : Type 0} (P : X → Type 0) (xs : List X) (x : X) → AllByRecursion P (xs ++ x ∷ []) → AllByRecursion P xs × P x
all_front P [] x all = (tt, all.0)
all_front P (y ∷ xs) x all = let later = all_front P xs x all.1 in ((all.0, later.0), later.1)

-- What is read of an expression is what it is.
pub record Found (count : ℕ) (a : Expr) (parts : Parts) : Type 0 where
  pub term : (t : Term) → parts.term ≡ Some t → IsTermOf a t × IsTerm count t
  pub sum : (ts : List Term) → parts.sum ≡ Some ts → IsSumOf a ts × AreTerms count ts

-- So is what is read of a kind, where its expression is an `int`.
abbrev FoundKind : ℕ → ExprKind → Parts → Type 0
FoundKind count k parts = (p : Place) → Found count (int_at p k) parts

found_neither : (count : ℕ) (a : Expr) → Found count a neither
found_neither count a = record {
  term = λ t read. absurd (cc);
  sum = λ ts read. absurd (cc);
}

alone_sum : (count : ℕ) (a : Expr) (found : Option Term) → ((t : Term) → found ≡ Some t → IsTermOf a t × IsTerm count t)
    → (ts : List Term) → option_map (λ t. t ∷ []) found ≡ Some ts → IsSumOf a ts × AreTerms count ts
alone_sum count a None given ts read = absurd (cc)
alone_sum count a (Some t) given ts read =
    let one : t ∷ [] ≡ ts = cc in
    let it = given t refl in
    subst (λ z. IsSumOf a z × AreTerms count z) one (IsSumOf.one it.0, record { some = omega arith; each = (it.1, tt) })

found_alone : (count : ℕ) (a : Expr) (found : Option Term) → ((t : Term) → found ≡ Some t → IsTermOf a t × IsTerm count t) → Found count a (alone found)
found_alone count a found given = record { term = given; sum = alone_sum count a found given }

member_term : (count b n : ℕ) (p : Place) (test : Bool) → ((b == 0) && ltb n count) ≡ test → (t : Term)
    → cond test (Some (Member n)) None ≡ Some t → IsTermOf (int_at p (kind.BlockMember b n)) t × IsTerm count t
member_term count b n p false is t read = absurd (cc)
member_term count b n p true is t read =
    let parts = and_parts (b == 0) (ltb n count) is in
    let first : b ≡ 0 = eqb-true b 0 parts.0 in
    let it : Member n ≡ t = cc in
    subst (λ z. IsTermOf (int_at p (kind.BlockMember b n)) z × IsTerm count z) it
    (subst (λ z. IsTermOf (int_at p (kind.BlockMember z n)) (Member n)) (sym first) (IsTermOf.member p n), ltb-true _ _ parts.1)

found_member : (count b n : ℕ) → FoundKind count (kind.BlockMember b n) (alone (member count b n))
found_member count b n p = found_alone count _ (member count b n) (member_term count b n p ((b == 0) && ltb n count) refl)

word_layer_is : (x : Value-F Value) (t : Term) → word_layer x ≡ Some t → (n : ℕ) × (roll-Value x ≡ Word n) × (Literal n ≡ t) × (n < 2 ^ 32)
word_layer_is (Value-F.Word n) t read =
    elim (ltb n (2 ^ 32)) as (λ b. ltb n (2 ^ 32) ≡ b → cond b (Some (Literal n)) None ≡ Some t → (m : ℕ) × (roll-Value (Value-F.Word n) ≡ Word m) × (Literal m ≡ t) × (m < 2 ^ 32)) [
      | true ↦ λ small is. let it : Literal n ≡ t = cc in (n, rolls-Word n, it, ltb-true _ _ small)
      | false ↦ λ large is. absurd (cc)
    ] refl read
word_layer_is (Value-F.Many vs) t read = absurd (cc)

literal_term : (count : ℕ) (v : Value) (p : Place) (t : Term) → literal v ≡ Some t → IsTermOf (int_at p (kind.Const v)) t × IsTerm count t
unfolding literal
literal_term count v p t read =
    let word = word_layer_is (out-Value v) t read in
    let is : v ≡ Word word.0 = sym (roll-out-Value v) ∙ word.1 in
    subst (λ z. IsTermOf (int_at p (kind.Const v)) z × IsTerm count z) word.2
    (subst (λ z. IsTermOf (int_at p (kind.Const z)) (Literal word.0)) (sym is) (IsTermOf.literal p word.0), word.3)

found_const : (count : ℕ) (v : Value) → FoundKind count (kind.Const v) (alone (literal v))
found_const count v p = found_alone count _ (literal v) (literal_term count v p)

added_sum : (count : ℕ) (p : Place) (a b : Expr) (xs : Option (List Term)) (x : Option Term)
    → ((ts : List Term) → xs ≡ Some ts → IsSumOf a ts × AreTerms count ts)
    → ((t : Term) → x ≡ Some t → IsTermOf b t × IsTerm count t)
    → (ts : List Term) → with_term xs x ≡ Some ts → IsSumOf (int_at p (kind.Binary Add a b)) ts × AreTerms count ts
added_sum count p a b None x left right ts read = absurd (cc)
added_sum count p a b (Some front) None left right ts read = absurd (cc)
added_sum count p a b (Some front) (Some t) left right ts read =
    let it : front ++ t ∷ [] ≡ ts = cc in
    let before = left front refl in
    let last = right t refl in
    subst (λ z. IsSumOf (int_at p (kind.Binary Add a b)) z × AreTerms count z) it
    (IsSumOf.more p before.0 last.0, record { some = omega (arith, length-append front (t ∷ [])); each = all_behind _ front t before.1.each last.1 })

found_binary : (count : ℕ) (o : BinaryOp) (a b : Expr) (x y : Parts) → Found count a x → Found count b y → FoundKind count (kind.Binary o a b) (added o x y)
found_binary count Add a b x y left right p = record { term = λ t read. absurd (cc); sum = added_sum count p a b x.sum y.term left.sum right.term }
found_binary count o a b x y left right p = found_neither count _

found_int : (count : ℕ) (p : Place) (t : Ty) (k : ExprKind) (parts : Parts) (test : Bool) → is_int t ≡ test → FoundKind count k parts
    → Found count (typed p t k) (cond test parts neither)
found_int count p t k parts true is given = subst (λ z. Found count (typed p z k) parts) (sym (int_is t is)) (given p)
found_int count p t k parts false is given = found_neither count _

module _ (count : ℕ) where
  abbrev OfKind : ExprKind → Type 0
  OfKind k = FoundKind count k (kind_parts count k)

  abbrev OfExpr : Expr → Type 0
  OfExpr a = Found count a (parts_of count a)

  abbrev Child : Type 0
  Child = (a : Expr) × OfExpr a

  none_by : (x : ExprKind-F ExprKind Expr) → kind_parts count (roll-ExprKind x) ≡ neither → OfKind (roll-ExprKind x)
  none_by x is p = subst (Found count (int_at p (roll-ExprKind x))) (sym is) (found_neither count _)

  by_kind : (y : ExprKind-F ((k : ExprKind) × OfKind k) Child) → OfKind (roll-ExprKind (map-ExprKind _ _ _ _ (λ k. k.0) (λ a. a.0) y))
  by_kind (ExprKind-F.BlockMember b n) = subst OfKind (sym (rolls-BlockMember b n)) (subst (FoundKind count (kind.BlockMember b n)) (sym (of_member count b n)) (found_member count b n))
  by_kind (ExprKind-F.Const v) = subst OfKind (sym (rolls-Const v)) (subst (FoundKind count (kind.Const v)) (sym (of_const count v)) (found_const count v))
  by_kind (ExprKind-F.Binary o a b) =
      subst OfKind (sym (rolls-Binary o a.0 b.0))
      (subst (FoundKind count (kind.Binary o a.0 b.0)) (sym (of_binary count o a.0 b.0)) (found_binary count o a.0 b.0 (parts_of count a.0) (parts_of count b.0) a.1 b.1))
  by_kind y = none_by (map-ExprKind _ _ _ _ (λ k. k.0) (λ a. a.0) y) (rolled count (map-ExprKind _ _ _ _ (λ k. k.0) (λ a. a.0) y))

  by_expr : (y : Expr-F ((k : ExprKind) × OfKind k) Child) → OfExpr (roll-Expr (map-Expr _ _ _ _ (λ k. k.0) (λ a. a.0) y))
  by_expr y =
      subst (Found count (typed y.place y.ty y.kind.0)) (sym (rolled_expr count (map-Expr _ _ _ _ (λ k. k.0) (λ a. a.0) y)))
      (found_int count y.place y.ty y.kind.0 (kind_parts count y.kind.0) (is_int y.ty) refl y.kind.1)

  pub found : (a : Expr) → OfExpr a
  found a = ind-Expr OfKind OfExpr (λ x y is. subst (λ z. OfKind (roll-ExprKind z)) is (by_kind y)) (λ x y is. subst (λ z. OfExpr (roll-Expr z)) is (by_expr y)) a

-- ---- what is of the form is read

-- an `int` has the parts of its kind
int_parts : (count : ℕ) (p : Place) (k : ExprKind) → parts_of count (int_at p k) ≡ kind_parts count k
int_parts count p k = rolled_expr count (record { ty = int; place = p; kind = k }) ∙ cond-true _ _ _ int_gives

literal_gives : (n : ℕ) → n < 2 ^ 32 → literal (Word n) ≡ Some (Literal n)
unfolding literal
literal_gives n small = ap word_layer (outs-Word n) ∙ cond-true _ _ _ (lt-ltb _ _ small)

pub member_gives : (count : ℕ) (p : Place) (i : ℕ) → i < count → parts_of count (member_at p i) ≡ alone (Some (Member i))
member_gives count p i within =
    int_parts count p (kind.BlockMember 0 i) ∙ of_member count 0 i ∙ ap alone (cond-true _ (Some (Member i)) None (and_from _ _ (eq-eqb 0 0 refl) (lt-ltb _ _ within)))

term_gives : (count : ℕ) (a : Expr) (t : Term) → IsTerm count t → IsTermOf a t → parts_of count a ≡ alone (Some t)
term_gives count a t fits (IsTermOf.member p i) = member_gives count p i fits
term_gives count a t fits (IsTermOf.literal p n) = int_parts count p (kind.Const (Word n)) ∙ of_const count (Word n) ∙ ap alone (literal_gives n fits)

pub sum_gives : (count : ℕ) (a : Expr) (ts : List Term) → AllByRecursion (IsTerm count) ts → IsSumOf a ts → (parts_of count a).sum ≡ Some ts
sum_gives count a ts fits (IsSumOf.one {t = t} is) = ap (λ (x : Parts). x.sum) (term_gives count a t fits.0 is)
sum_gives count a ts fits (IsSumOf.more {a = x} {b = y} {ts = front} {t = t} p left right) =
    let parts = all_front _ front t fits in
    ap (λ (z : Parts). z.sum) (int_parts count p (kind.Binary Add x y) ∙ of_binary count Add x y)
    ∙ ap (λ xs. with_term xs (parts_of count y).term) (sum_gives count x front parts.0 left)
    ∙ ap (λ (z : Parts). with_term (Some front) z.term) (term_gives count y t parts.1 right)
