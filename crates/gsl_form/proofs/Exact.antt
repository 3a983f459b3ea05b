-- A statement is read exactly where it is of the form; lists, item by item.
use Rattle.std.proofs.Common.{◌≡◌, ℕ, ◌<◌, Bool, true, false, cond, List, [], ◌∷◌, length, Option, Some, None, refl, ap, sym, subst, ◌∙◌, leb}
use Rattle.std.proofs.lemmas.Bool.{cond-true, le-leb, leb-true}
use Rattle.std.specs.List.{AllByRecursion}
use Rattle.std.specs.Option.{option_map}
use Rattle.gsl_base.specs.declared.fault.Place.{Place}
use Rattle.gsl_tree.specs.declared.expr.Expr.{Expr, out-Expr}
use Rattle.gsl_tree.specs.declared.expr.ExprKind.{ExprKind, out-ExprKind}
use Rattle.gsl_tree.specs.declared.expr.ExprKind.TheVariants as kind
use Rattle.gsl_tree.specs.declared.expr.ExprKind.TheVariants.{rolls-Assign, outs-Assign}
use Rattle.gsl_tree.specs.declared.expr.ExprKind.TheOpen.{ExprKind-F, Expr-F}
use Rattle.gsl_tree.specs.declared.expr.ExprKind.TheViews.{roll-ExprKind, roll-out-Expr, roll-out-ExprKind, out-roll-Expr}
use Rattle.gsl_tree.specs.declared.stmt.Stmt.{Stmt, out-Stmt}
use Rattle.gsl_tree.specs.declared.stmt.Stmt.TheVariants as stmt
use Rattle.gsl_tree.specs.declared.stmt.Stmt.TheVariants.{rolls-Eval, outs-Eval}
use Rattle.gsl_tree.specs.declared.stmt.Stmt.TheOpen.{Stmt-F}
use Rattle.gsl_tree.specs.declared.stmt.Stmt.TheViews.{roll-Stmt, roll-out-Stmt}
use Rattle.gsl_tree.specs.declared.stmt.Arm.{Arm}
use Rattle.gsl_tree.specs.Trees.{typed}
use Rattle.gsl_form.specs.declared.program.Term.{Term}
use Rattle.gsl_form.specs.declared.program.Term.TheVariants.{Member}
use Rattle.gsl_form.specs.declared.program.Statement.{Statement}
use Rattle.gsl_form.specs.Form.{IsTerm, IsStatement}
use Rattle.gsl_form.specs.Trees.{int, int_at, member_at, IsTermOf, IsStatementOf, Each}
use Rattle.gsl_form.specs.Reading.{◌>>=◌, Parts, is_int, parts_of, number_of, assigned, target_of, assign_by, assign_layer, assign_kind, assign_of, statement_layer, statement_of, each}
use Rattle.gsl_form.proofs.Sums.{found, int_is, int_gives, member_gives, sum_gives}

pub bind_some : {A B : Type 0} (found : Option A) (next : A → Option B) (y : B) → (found >>= next) ≡ Some y → (x : A) × (found ≡ Some x) × (next x ≡ Some y)
bind_some (Some x) next y is = (x, refl, is)
bind_some None next y is = absurd (cc)

pub guard_some : {A : Type 0} (b : Bool) (found : Option A) (y : A) → cond b found None ≡ Some y → (b ≡ true) × (found ≡ Some y)
guard_some true found y is = (refl, is)
guard_some false found y is = absurd (cc)

pub map_some : {A B : Type 0} (f : A → B) (found : Option A) (y : B) → option_map f found ≡ Some y → (x : A) × (found ≡ Some x) × (f x ≡ y)
map_some f (Some x) y is = let same : f x ≡ y = cc in (x, refl, same)
map_some f None y is = absurd (cc)

-- ---- statements

-- only a member is the term of its number
member_is : (a : Expr) (t : Term) (i : ℕ) → number_of t ≡ Some i → IsTermOf a t → (q : Place) × (a ≡ member_at q i) × (t ≡ Member i)
member_is a t i read (IsTermOf.member p n) = let same : n ≡ i = cc in (p, ap (member_at p) same, ap Member same)
member_is a t i read (IsTermOf.literal p n) = absurd (cc)

target_is : (count : ℕ) (a : Expr) (i : ℕ) → target_of count a ≡ Some i → (q : Place) × (a ≡ member_at q i) × (i < count)
target_is count a i read =
    let one = bind_some (parts_of count a).term number_of i read in
    let term = (found count a).term one.0 one.1 in
    let is = member_is a one.0 i one.2 term.0 in
    (is.0, is.1, subst (IsTerm count) is.2 term.1)

-- A statement stands for data of the form.
abbrev Stands : ℕ → Stmt → Statement → Type 0
Stands count s st = IsStatementOf s st × IsStatement count st

assign_by_is : (count : ℕ) (p : Place) (a b : Expr) (st : Statement) → assign_by count a b ≡ Some st → Stands count (stmt.Eval (int_at p (kind.Assign a b))) st
assign_by_is count p a b st read =
    let one = bind_some (target_of count a) (λ target. (parts_of count b).sum >>= assigned target) st read in
    let two = bind_some (parts_of count b).sum (assigned one.0) st one.2 in
    let three = guard_some (leb (length two.0) 64) (Some (record { target = one.0; terms = two.0 })) st two.2 in
    let it : record { target = one.0; terms = two.0 } ≡ st = cc in
    let target = target_is count a one.0 one.1 in
    let sum = (found count b).sum two.0 two.1 in
    subst (Stands count (stmt.Eval (int_at p (kind.Assign a b)))) it (
      subst (λ x. IsStatementOf (stmt.Eval (int_at p (kind.Assign x b))) (record { target = one.0; terms = two.0 })) (sym target.1) (IsStatementOf.assigns p target.0 one.0 sum.0),
      record { target = target.2; some = sum.1.some; most = leb-true _ _ three.0; terms = sum.1.each },
    )

assign_layer_is : (count : ℕ) (p : Place) (x : ExprKind-F ExprKind Expr) (st : Statement) → assign_layer count x ≡ Some st → Stands count (stmt.Eval (int_at p (roll-ExprKind x))) st
assign_layer_is count p (ExprKind-F.Assign a b) st read = subst (λ z. Stands count (stmt.Eval (int_at p z)) st) (sym (rolls-Assign a b)) (assign_by_is count p a b st read)
assign_layer_is count p _ st read = absurd (cc)

assign_kind_is : (count : ℕ) (p : Place) (k : ExprKind) (st : Statement) → assign_kind count k ≡ Some st → Stands count (stmt.Eval (int_at p k)) st
unfolding assign_kind
assign_kind_is count p k st read = subst (λ z. Stands count (stmt.Eval (int_at p z)) st) (roll-out-ExprKind k) (assign_layer_is count p (out-ExprKind k) st read)

assign_is : (count : ℕ) (a : Expr) (st : Statement) → assign_of count a ≡ Some st → Stands count (stmt.Eval a) st
unfolding assign_of
assign_is count a st read =
    let x : Expr-F ExprKind Expr = out-Expr a in
    let met = guard_some (is_int x.ty) (assign_kind count x.kind) st read in
    subst (λ z. Stands count (stmt.Eval z) st) (roll-out-Expr a)
    (subst (λ t. Stands count (stmt.Eval (typed x.place t x.kind)) st) (sym (int_is x.ty met.0)) (assign_kind_is count x.place x.kind st met.1))

statement_layer_is : (count : ℕ) (x : Stmt-F Stmt Arm) (st : Statement) → statement_layer count x ≡ Some st → Stands count (roll-Stmt x) st
statement_layer_is count (Stmt-F.Eval a) st read = subst (λ z. Stands count z st) (sym (rolls-Eval a)) (assign_is count a st read)
statement_layer_is count _ st read = absurd (cc)

pub statement_is : (count : ℕ) (s : Stmt) (st : Statement) → statement_of count s ≡ Some st → Stands count s st
unfolding statement_of
statement_is count s st read = subst (λ z. Stands count z st) (roll-out-Stmt s) (statement_layer_is count (out-Stmt s) st read)

assign_gives : (count : ℕ) (p : Place) (a b : Expr) → assign_of count (int_at p (kind.Assign a b)) ≡ assign_by count a b
unfolding assign_of assign_kind
assign_gives count p a b =
    let k = kind.Assign a b in
    ap (λ (x : Expr-F ExprKind Expr). cond (is_int x.ty) (assign_kind count x.kind) None) (out-roll-Expr (record { ty = int; place = p; kind = k }))
    ∙ cond-true _ _ _ int_gives ∙ ap (assign_layer count) (outs-Assign a b)

pub statement_gives : (count : ℕ) (s : Stmt) (st : Statement) → IsStatementOf s st → IsStatement count st → statement_of count s ≡ Some st
unfolding statement_of
statement_gives count s st (IsStatementOf.assigns {a = b} {ts = ts} p q i sum) fits =
    let a = member_at q i in
    ap (statement_layer count) (outs-Eval (int_at p (kind.Assign a b)))
    ∙ assign_gives count p a b
    ∙ ap (λ (parts : Parts). (parts.term >>= number_of) >>= λ target. (parts_of count b).sum >>= assigned target) (member_gives count q i fits.target)
    ∙ ap (λ found. found >>= assigned i) (sum_gives count b ts fits.terms sum)
    ∙ cond-true _ _ _ (le-leb _ _ fits.most)

-- ---- lists

pub each_is : {A B : Type 0} (of : A → Option B) (Of : A → B → Type 0) (Fits : B → Type 0) → ((a : A) (b : B) → of a ≡ Some b → Of a b × Fits b)
    → (xs : List A) (ys : List B) → each of xs ≡ Some ys → Each Of xs ys × AllByRecursion Fits ys
each_is of Of Fits is [] ys read = let same : [] ≡ ys = cc in subst (λ z. Each Of [] z × AllByRecursion Fits z) same (Each.done, tt)
each_is {A} {B} of Of Fits is (x ∷ xs) ys read =
    let first = bind_some (of x) _ ys read in
    let later = map_some (λ bs. first.0 ∷ bs) (each of xs) ys first.2 in
    let one = is x first.0 first.1 in
    let more = each_is of Of Fits is xs later.0 later.1 in
    subst (λ z. Each Of (x ∷ xs) z × AllByRecursion Fits z) later.2 (Each.next one.0 more.0, (one.1, more.1))

pub each_gives : {A B : Type 0} (of : A → Option B) (Of : A → B → Type 0) (Fits : B → Type 0) → ((a : A) (b : B) → Of a b → Fits b → of a ≡ Some b)
    → (xs : List A) (ys : List B) → Each Of xs ys → AllByRecursion Fits ys → each of xs ≡ Some ys
each_gives of Of Fits gives xs ys Each.done fits = refl
each_gives of Of Fits gives xs ys (Each.next {a = x} {b = y} {xs = more} {ys = rest} one later) fits =
    ap (λ found. found >>= λ b. option_map (λ bs. b ∷ bs) (each of more)) (gives x y one fits.0)
    ∙ ap (option_map (λ bs. y ∷ bs)) (each_gives of Of Fits gives more rest later fits.1)
