-- What expressions stand for is well typed.
use Rattle.std.proofs.Common.{◌≡◌, refl, sym, ◌∙◌, subst, ℕ, ◌≤◌, List, [], ◌∷◌, ◌++◌, map, length, Option, Some, None, Bool, true, false, ◌&&◌, IsTrue, nat_lt, if◌then◌else◌, Ok, arith, length-append}
use Rattle.std.specs.List.{AllByRecursion}
use Rattle.std.proofs.lemmas.Bool.{and_parts, true≢false}
use Rattle.gsl_base.specs.Checked.{Checked, ◌>>=◌}
use Rattle.gsl_base.specs.declared.fault.Place.{Place}
use Rattle.gsl_syntax.specs.declared.expr.Expr.{Expr as Syntax}
use Rattle.gsl_syntax.specs.declared.expr.TypeSpec.{TypeSpec}
use Rattle.gsl_syntax.specs.declared.expr.Dim.{Dim}
use Rattle.gsl_syntax.specs.declared.expr.Dim.TheOpen.{Expr-F, TypeSpec-F, Dim-F}
use Rattle.gsl_syntax.specs.declared.expr.Dim.TheFolds.{fold-roll-Expr, fold-roll-TypeSpec, fold-roll-Dim, ind-Expr, ind-TypeSpec, ind-Dim, map-Expr, map-TypeSpec, map-Dim}
use Rattle.gsl_syntax.specs.declared.expr.Dim.TheViews.{roll-Expr, roll-TypeSpec, roll-Dim}
use Rattle.gsl_types.specs.declared.ty.Scalar.TheVariants.{Bool as Boolean, Int, Uint}
use Rattle.gsl_tree.specs.declared.expr.Expr.{Expr}
use Rattle.gsl_tree.specs.declared.expr.ExprKind.TheVariants as kind
use Rattle.gsl_tree.specs.declared.expr.ExprKind.TheVariants.{outs-Comma}
use Rattle.gsl_tree.specs.declared.expr.ExprKind.TheOpen.{ExprKind-F}
use Rattle.gsl_tree.specs.Around.{Around}
use Rattle.gsl_tree.specs.Trees.{type_of, place_of}
use Rattle.gsl_tree.specs.Expressions.{IsExpr, MayBeRead, last_type}
use Rattle.gsl_tree.proofs.Nodes.{expr_at}
use Rattle.gsl_typing.specs.declared.scene.Scene.{Scene}
use Rattle.gsl_typing.specs.declared.scene.Part.{Part}
use Rattle.gsl_typing.specs.Scene.{around, type_in}
use Rattle.gsl_typing.specs.Uses.{whole}
use Rattle.gsl_typing.specs.Operators.{binary, unary, postfix, assigned, choice, comma}
use Rattle.gsl_makers.specs.Paths.{index, member, method}
use Rattle.gsl_check_expr.specs.declared.env.Env.{Env}
use Rattle.gsl_check_expr.specs.InOrder.{each}
use Rattle.gsl_check_expr.specs.Sizes.{Bracket, size_in, dimensions}
use Rattle.gsl_check_expr.specs.Callees.{Callee, called}
use Rattle.gsl_check_expr.specs.Expressions.{Answer, taken, dim_by, callee_by, by_parts, in_row, call_answer, behind, sequence, member_answer, answer, callee, bracket, expression, taken_expression}
use Rattle.gsl_check_decl.proofs.Gathering.{Holds, holds_after}
use Rattle.gsl_formed.specs.Formed.{all_formed, rest_formed, some_formed, formed_by, is_formed, IsFormed, spec_formed, dim_formed, spec_formed_by, dim_formed_by}
use Rattle.gsl_check_law.specs.Parts.{IsPart, IsTaken}
use Rattle.gsl_check_law.specs.Scenes.{IsEnv}
use Rattle.gsl_check_law.proofs.Parts.{taken_whole}
use Rattle.gsl_check_law.proofs.Operators.{binary_typed, unary_typed, postfix_typed, assigned_typed, choice_typed, comma_reads, Joined}
use Rattle.gsl_check_law.proofs.Places.{index_typed, member_typed, block_member_typed, method_typed}
use Rattle.gsl_check_law.proofs.Building.{AllRead, reads_of, exprs_of}
use Rattle.gsl_check_law.proofs.Sizing.{GoodBracket, GoodDimensions, IsStated, Positive, size_positive, dimensions_good}
use Rattle.gsl_check_law.proofs.Naming.{literal_typed, named_typed, called_typed}
use Rattle.gsl_check_law.proofs.Counted.{constant_small}

-- ---- lists with one more

last_behind : (es : List Expr) (e : Expr) → last_type (es ++ e ∷ []) ≡ Some (type_of e)
last_behind [] e = refl
last_behind (x ∷ []) e = refl
last_behind (x ∷ y ∷ es) e = last_behind (y ∷ es) e

all_behind : (P : Expr → Type 0) (es : List Expr) (e : Expr) → AllByRecursion P es → P e → AllByRecursion P (es ++ e ∷ [])
all_behind P [] e all is = (is, tt)
all_behind P (x ∷ es) e all is = (all.0, all_behind P es e all.1 is)

module _ (env : Env) (fine : IsEnv env) where
  abbrev scene : Scene
  scene = env.scene

  abbrev here : Around
  here = around scene

  -- ---- answers

  abbrev Typed : Answer → Type 0
  Typed a = Holds (IsPart scene) a.value

  taken_typed : (a : Answer) → Typed a → Holds (IsTaken scene) (taken env a)
  taken_typed a is = holds_after (IsPart scene) (IsTaken scene) a.value (whole scene) is (taken_whole scene)

  row_typed : (answers : List Answer) → AllByRecursion Typed answers → Holds (AllByRecursion (IsTaken scene)) (in_row env answers)
  row_typed [] all = tt
  row_typed (a ∷ answers) all =
      holds_after (IsTaken scene) (AllByRecursion (IsTaken scene)) (taken env a) (λ first. each (taken env) answers >>= (λ rest. Ok (first ∷ rest))) (taken_typed a all.0)
      (λ first is. holds_after (AllByRecursion (IsTaken scene)) (AllByRecursion (IsTaken scene)) (each (taken env) answers) (λ rest. Ok (first ∷ rest)) (row_typed answers all.1) (λ rest are. (is, are)))

  one_typed : (a : Answer) (f : Part → Checked Part) → Typed a → ((x : Part) → IsTaken scene x → Holds (IsPart scene) (f x)) → Holds (IsPart scene) (taken env a >>= f)
  one_typed a f is next = holds_after (IsTaken scene) (IsPart scene) (taken env a) f (taken_typed a is) next

  two_typed : (a b : Answer) (f : Part → Part → Checked Part) → Typed a → Typed b → ((x y : Part) → IsTaken scene x → IsTaken scene y → Holds (IsPart scene) (f x y)) → Holds (IsPart scene) (taken env a >>= (λ x. taken env b >>= (λ y. f x y)))
  two_typed a b f is also next = one_typed a (λ x. taken env b >>= (λ y. f x y)) is (λ x first. one_typed b (λ y. f x y) also (λ y second. next x y first second))

  call_typed : (c : Callee) (args : List Answer) → AllByRecursion GoodBracket c.brackets → AllByRecursion Typed args → Holds (IsPart scene) (call_answer env c args)
  call_typed c args good all =
      holds_after GoodDimensions (IsPart scene) (dimensions c.brackets) (λ dims. in_row env args >>= (λ parts. called env c.place c.base dims parts)) (dimensions_good c.brackets good)
      (λ dims right. holds_after (AllByRecursion (IsTaken scene)) (IsPart scene) (in_row env args) (λ parts. called env c.place c.base dims parts) (row_typed args all)
      (λ parts are. called_typed env fine c.place parts are dims right c.base))

  -- ---- commas

  abbrev Behind : Place × Answer → Type 0
  Behind next = Typed next.1

  behind_typed : (last : Part) (items : List Expr) (place : Place) (rest : List (Place × Answer)) → IsTaken scene last → MayBeRead here last.expr → 2 ≤ length items → last_type items ≡ Some (type_in last) → AllRead scene fine.scene items
      → AllByRecursion Behind rest → Holds (IsPart scene) (behind env last items place rest)
  behind_typed last items place [] is reads many ends read all = record {
    expr = expr_at here place (type_in last) (kind.Comma items) (ExprKind-F.Comma items) (outs-Comma items) (many, ends) (reads_of scene fine.scene items read) tt (exprs_of scene fine.scene items read);
    sound = is.part.sound;
  }
  behind_typed last items place (next ∷ rest) is reads many ends read all =
      holds_after (IsTaken scene) (IsPart scene) (taken env next.1) (λ y. comma scene next.0 last y >>= (λ z. behind env z (items ++ z.expr ∷ []) next.0 rest)) (taken_typed next.1 all.0)
      (λ y also. holds_after (Joined scene next.0 last y) (IsPart scene) (comma scene next.0 last y) (λ z. behind env z (items ++ z.expr ∷ []) next.0 rest) (comma_reads scene next.0 last y is also)
      (λ z joined.
      let taken_z : IsTaken scene z = subst (IsTaken scene) joined.0 also in
      let reads_z : MayBeRead here z.expr = subst (λ (w : Part). MayBeRead here w.expr) joined.0 joined.2 in
      behind_typed z (items ++ z.expr ∷ []) next.0 rest taken_z reads_z (omega (arith, many, length-append items (z.expr ∷ []))) (last_behind items z.expr)
      (all_behind (λ (e : Expr). IsExpr here e × MayBeRead here e) items z.expr read (taken_z.part.expr, reads_z)) all.1))

  sequence_typed : (first : Answer) (next : Place × Answer) (rest : List (Place × Answer)) → Typed first → Behind next → AllByRecursion Behind rest → Holds (IsPart scene) (sequence env first (next ∷ rest))
  sequence_typed first next rest is also all =
      holds_after (IsTaken scene) (IsPart scene) (taken env first) (λ x. behind env x (x.expr ∷ []) (place_of x.expr) (next ∷ rest)) (taken_typed first is)
      (λ x front. holds_after (IsTaken scene) (IsPart scene) (taken env next.1) (λ y. comma scene next.0 x y >>= (λ z. behind env z (x.expr ∷ z.expr ∷ []) next.0 rest)) (taken_typed next.1 also)
      (λ y back. holds_after (Joined scene next.0 x y) (IsPart scene) (comma scene next.0 x y) (λ z. behind env z (x.expr ∷ z.expr ∷ []) next.0 rest) (comma_reads scene next.0 x y front back)
      (λ z joined.
      let taken_z : IsTaken scene z = subst (IsTaken scene) joined.0 back in
      let reads_z : MayBeRead here z.expr = subst (λ (w : Part). MayBeRead here w.expr) joined.0 joined.2 in
      behind_typed z (x.expr ∷ z.expr ∷ []) next.0 rest taken_z reads_z (omega arith) refl ((front.part.expr, joined.1), ((taken_z.part.expr, reads_z), tt)) all)))

  member_found : (place : Place) (a : Answer) (block : Option ℕ) (name : List ℕ) → Typed a → Holds (IsPart scene) (member_answer env place a block name)
  member_found place a None name is = holds_after (IsPart scene) (IsPart scene) a.value (λ x. member scene place x name) is (λ x part. member_typed scene fine.scene place x name part)
  member_found place a (Some block) name is = block_member_typed scene fine.scene place block name

  -- ---- by the fold of the syntax tree

  abbrev GoodDim : Dim → Type 0
  GoodDim d = IsTrue (dim_formed d) → GoodBracket (bracket env d)

  abbrev GoodSpec : TypeSpec → Type 0
  GoodSpec t = IsTrue (spec_formed t) → AllByRecursion GoodBracket (callee env t).brackets

  abbrev Sound : Syntax → Type 0
  Sound e = IsFormed e → Typed (answer env e)

  abbrev Child : Type 0
  Child = (e : Syntax) × Sound e

  abbrev Size : Type 0
  Size = (d : Dim) × GoodDim d

  abbrev Spec : Type 0
  Spec = (t : TypeSpec) × GoodSpec t

  sized : (place : Place) (a : Answer) → Typed a → Holds IsStated (taken env a >>= (λ x. size_in scene place x >>= (λ size. Ok (Some size))))
  sized place a is = holds_after (IsTaken scene) IsStated (taken env a) (λ x. size_in scene place x >>= (λ size. Ok (Some size))) (taken_typed a is)
      (λ x taken. holds_after Positive IsStated (size_in scene place x) (λ size. Ok (Some size)) (size_positive scene place x (constant_small scene fine.scene fine.counted x.expr taken.part.expr)) (λ size is. is))

  dim_is : (layer : Dim-F Dim Syntax TypeSpec) → IsTrue (dim_formed (roll-Dim layer)) → IsTrue (dim_formed_by (map-Dim _ _ _ _ _ _ dim_formed is_formed spec_formed layer))
  unfolding dim_formed is_formed spec_formed
  dim_is layer is = sym (fold-roll-Dim Bool Bool Bool dim_formed_by formed_by spec_formed_by layer) ∙ is

  spec_is : (layer : TypeSpec-F Dim Syntax TypeSpec) → IsTrue (spec_formed (roll-TypeSpec layer)) → IsTrue (spec_formed_by (map-TypeSpec _ _ _ _ _ _ dim_formed is_formed spec_formed layer))
  unfolding dim_formed is_formed spec_formed
  spec_is layer is = sym (fold-roll-TypeSpec Bool Bool Bool dim_formed_by formed_by spec_formed_by layer) ∙ is

  dim_layer : (y : Dim-F Size Child Spec) → GoodDim (roll-Dim (map-Dim _ _ _ _ _ _ (λ d. d.0) (λ e. e.0) (λ t. t.0) y))
  unfolding bracket answer callee
  dim_layer (Dim-F.Open place) is = subst GoodBracket (sym (fold-roll-Dim Bracket Answer Callee (dim_by env) (by_parts env) callee_by (Dim-F.Open place))) tt
  dim_layer (Dim-F.Sized place e) is =
      subst GoodBracket (sym (fold-roll-Dim Bracket Answer Callee (dim_by env) (by_parts env) callee_by (Dim-F.Sized place e.0))) (sized place (answer env e.0) (e.1 (dim_is (Dim-F.Sized place e.0) is)))

  all_sizes : (dims : List Size) → IsTrue (all_formed (map dim_formed (map (λ (d : Size). d.0) dims))) → AllByRecursion GoodBracket (map (bracket env) (map (λ (d : Size). d.0) dims))
  all_sizes [] is = tt
  all_sizes (d ∷ dims) is = let parts = and_parts (dim_formed d.0) (all_formed (map dim_formed (map (λ (d : Size). d.0) dims))) is in (d.1 parts.0, all_sizes dims parts.1)

  spec_layer : (y : TypeSpec-F Size Child Spec) → GoodSpec (roll-TypeSpec (map-TypeSpec _ _ _ _ _ _ (λ d. d.0) (λ e. e.0) (λ t. t.0) y))
  unfolding callee bracket
  spec_layer (TypeSpec-F.Basic place b dims) is =
      let all = map (λ (d : Size). d.0) dims in
      subst (λ (c : Callee). AllByRecursion GoodBracket c.brackets) (sym (fold-roll-TypeSpec Bracket Answer Callee (dim_by env) (by_parts env) callee_by (TypeSpec-F.Basic place b all))) (all_sizes dims (spec_is (TypeSpec-F.Basic place b all) is))
  spec_layer (TypeSpec-F.Named place name dims) is =
      let all = map (λ (d : Size). d.0) dims in
      subst (λ (c : Callee). AllByRecursion GoodBracket c.brackets) (sym (fold-roll-TypeSpec Bracket Answer Callee (dim_by env) (by_parts env) callee_by (TypeSpec-F.Named place name all))) (all_sizes dims (spec_is (TypeSpec-F.Named place name all) is))

  -- an expression by its layer
  opens : (layer : Expr-F Dim Syntax TypeSpec) → Typed (by_parts env (map-Expr _ _ _ _ _ _ (bracket env) (answer env) (callee env) layer)) → Typed (answer env (roll-Expr layer))
  unfolding answer callee bracket
  opens layer is = subst Typed (sym (fold-roll-Expr Bracket Answer Callee (dim_by env) (by_parts env) callee_by layer)) is

  formed : (layer : Expr-F Dim Syntax TypeSpec) → IsFormed (roll-Expr layer) → IsTrue (formed_by (map-Expr _ _ _ _ _ _ dim_formed is_formed spec_formed layer))
  unfolding is_formed dim_formed spec_formed
  formed layer is = sym (fold-roll-Expr Bool Bool Bool dim_formed_by formed_by spec_formed_by layer) ∙ is

  all_args : (args : List Child) → IsTrue (all_formed (map is_formed (map (λ (e : Child). e.0) args))) → AllByRecursion Typed (map (answer env) (map (λ (e : Child). e.0) args))
  all_args [] is = tt
  all_args (e ∷ args) is = let parts = and_parts (is_formed e.0) (all_formed (map is_formed (map (λ (e : Child). e.0) args))) is in (e.1 parts.0, all_args args parts.1)

  abbrev bare : List (Place × Child) → List (Place × Syntax)
  bare rest = map (λ (n : Place × Child). (n.0, n.1.0)) rest

  abbrev answers : List (Place × Child) → List (Place × Answer)
  answers rest = map (λ (n : Place × Syntax). (n.0, answer env n.1)) (bare rest)

  abbrev forms : List (Place × Child) → List (Place × Bool)
  forms rest = map (λ (n : Place × Syntax). (n.0, is_formed n.1)) (bare rest)

  all_rest : (rest : List (Place × Child)) → IsTrue (rest_formed (forms rest)) → AllByRecursion Behind (answers rest)
  all_rest [] is = tt
  all_rest (n ∷ rest) is = let parts = and_parts (is_formed n.1.0) (rest_formed (forms rest)) is in (n.1.1 parts.0, all_rest rest parts.1)

  truth_word : (b : Bool) → IsTrue (nat_lt (if b then 1 else 0) 2)
  truth_word true = refl
  truth_word false = refl

  commas : (first : Child) (rest : List (Place × Child)) → IsTrue (is_formed first.0 && some_formed (forms rest)) → Holds (IsPart scene) (sequence env (answer env first.0) (answers rest))
  commas first [] is = let no : ⊥ = true≢false (sym (and_parts (is_formed first.0) false is).1) in elim no [ ]
  commas first (n ∷ rest) is =
      let parts = and_parts (is_formed first.0) (is_formed n.1.0 && rest_formed (forms rest)) is in
      let more = and_parts (is_formed n.1.0) (rest_formed (forms rest)) parts.1 in
      sequence_typed (answer env first.0) (n.0, answer env n.1.0) (answers rest) (first.1 parts.0) (n.1.1 more.0) (all_rest rest more.1)

  layer : (y : Expr-F Size Child Spec) → Sound (roll-Expr (map-Expr _ _ _ _ _ _ (λ d. d.0) (λ e. e.0) (λ t. t.0) y))
  layer (Expr-F.Name p name) is = opens (Expr-F.Name p name) (named_typed env fine p name)
  layer (Expr-F.Signed p w) is = opens (Expr-F.Signed p w) (literal_typed scene p Int w (formed (Expr-F.Signed p w) is))
  layer (Expr-F.Unsigned p w) is = opens (Expr-F.Unsigned p w) (literal_typed scene p Uint w (formed (Expr-F.Unsigned p w) is))
  layer (Expr-F.Bool p b) is = opens (Expr-F.Bool p b) (literal_typed scene p Boolean (if b then 1 else 0) (truth_word b))
  layer (Expr-F.Paren p e) is = opens (Expr-F.Paren p e.0) (e.1 (formed (Expr-F.Paren p e.0) is))
  layer (Expr-F.CallVoid t) is = opens (Expr-F.CallVoid t.0) (call_typed (callee env t.0) [] (t.1 (formed (Expr-F.CallVoid t.0) is)) tt)
  layer (Expr-F.Call t args) is =
      let syntax = map (λ (e : Child). e.0) args in
      let parts = and_parts (spec_formed t.0) (all_formed (map is_formed syntax)) (formed (Expr-F.Call t.0 syntax) is) in
      opens (Expr-F.Call t.0 syntax) (call_typed (callee env t.0) (map (answer env) syntax) (t.1 parts.0) (all_args args parts.1))
  layer (Expr-F.Index p a i) is =
      let parts = and_parts (is_formed a.0) (is_formed i.0) (formed (Expr-F.Index p a.0 i.0) is) in
      opens (Expr-F.Index p a.0 i.0) (holds_after (IsPart scene) (IsPart scene) (answer env a.0).value (λ x. taken env (answer env i.0) >>= (λ y. index scene p x y)) (a.1 parts.0)
      (λ x first. one_typed (answer env i.0) (λ y. index scene p x y) (i.1 parts.1) (λ y second. index_typed scene fine.scene p x y first second)))
  layer (Expr-F.Member p a name) is = opens (Expr-F.Member p a.0 name) (member_found p (answer env a.0) (answer env a.0).block name (a.1 (formed (Expr-F.Member p a.0 name) is)))
  layer (Expr-F.Method p a name) is =
      opens (Expr-F.Method p a.0 name) (holds_after (IsPart scene) (IsPart scene) (answer env a.0).value (λ x. method p x name) (a.1 (formed (Expr-F.Method p a.0 name) is)) (λ x part. method_typed scene fine.scene p x name part))
  layer (Expr-F.Postfix p o a) is = opens (Expr-F.Postfix p o a.0) (one_typed (answer env a.0) (λ x. postfix scene o p x) (a.1 (formed (Expr-F.Postfix p o a.0) is)) (λ x first. postfix_typed scene p o x first))
  layer (Expr-F.Unary p o a) is = opens (Expr-F.Unary p o a.0) (one_typed (answer env a.0) (λ x. unary scene o p x) (a.1 (formed (Expr-F.Unary p o a.0) is)) (λ x first. unary_typed scene p o x first))
  layer (Expr-F.Binary p o a b) is =
      let parts = and_parts (is_formed a.0) (is_formed b.0) (formed (Expr-F.Binary p o a.0 b.0) is) in
      opens (Expr-F.Binary p o a.0 b.0) (two_typed (answer env a.0) (answer env b.0) (λ x y. binary scene o p x y) (a.1 parts.0) (b.1 parts.1) (binary_typed scene p o))
  layer (Expr-F.Conditional p t a b) is =
      let front = and_parts (is_formed t.0) (is_formed a.0 && is_formed b.0) (formed (Expr-F.Conditional p t.0 a.0 b.0) is) in
      let parts = and_parts (is_formed a.0) (is_formed b.0) front.1 in
      opens (Expr-F.Conditional p t.0 a.0 b.0) (one_typed (answer env t.0) (λ c. taken env (answer env a.0) >>= (λ x. taken env (answer env b.0) >>= (λ y. choice scene p c x y))) (t.1 front.0)
      (λ c zeroth. two_typed (answer env a.0) (answer env b.0) (λ x y. choice scene p c x y) (a.1 parts.0) (b.1 parts.1) (λ x y first second. choice_typed scene p c x y zeroth first second)))
  layer (Expr-F.Assign p o a b) is =
      let parts = and_parts (is_formed a.0) (is_formed b.0) (formed (Expr-F.Assign p o a.0 b.0) is) in
      opens (Expr-F.Assign p o a.0 b.0) (two_typed (answer env a.0) (answer env b.0) (λ x y. assigned scene o p x y) (a.1 parts.0) (b.1 parts.1) (assigned_typed scene p o))
  layer (Expr-F.Sequence first rest) is = opens (Expr-F.Sequence first.0 (bare rest)) (commas first rest (formed (Expr-F.Sequence first.0 (bare rest)) is))

  -- What an expression stands for is well typed.
  pub answer_typed : (e : Syntax) → IsFormed e → Holds (IsPart scene) (expression env e)
  answer_typed = ind-Expr GoodDim Sound GoodSpec (λ x y is. subst (λ z. GoodDim (roll-Dim z)) is (dim_layer y)) (λ x y is. subst (λ z. Sound (roll-Expr z)) is (layer y)) (λ x y is. subst (λ z. GoodSpec (roll-TypeSpec z)) is (spec_layer y))

  -- and so is what is taken of it
  pub taken_is : (e : Syntax) → IsFormed e → Holds (IsTaken scene) (taken_expression env e)
  taken_is e is = taken_typed (answer env e) (answer_typed e is)

  pub bracket_good : (d : Dim) → IsTrue (dim_formed d) → GoodBracket (bracket env d)
  bracket_good = ind-Dim GoodDim Sound GoodSpec (λ x y is. subst (λ z. GoodDim (roll-Dim z)) is (dim_layer y)) (λ x y is. subst (λ z. Sound (roll-Expr z)) is (layer y)) (λ x y is. subst (λ z. GoodSpec (roll-TypeSpec z)) is (spec_layer y))

  pub callee_good : (t : TypeSpec) → IsTrue (spec_formed t) → AllByRecursion GoodBracket (callee env t).brackets
  callee_good = ind-TypeSpec GoodDim Sound GoodSpec (λ x y is. subst (λ z. GoodDim (roll-Dim z)) is (dim_layer y)) (λ x y is. subst (λ z. Sound (roll-Expr z)) is (layer y)) (λ x y is. subst (λ z. GoodSpec (roll-TypeSpec z)) is (spec_layer y))
