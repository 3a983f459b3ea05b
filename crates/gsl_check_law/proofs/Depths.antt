-- Typed expressions and what initialisers give are no deeper than their syntax trees.
use Rattle.std.proofs.Common.{◌≡◌, sym, subst, ℕ, ◌+◌, ◌≤◌, max, List, [], ◌∷◌, ◌++◌, map, Option, Some, None, Bool, true, false, Ok, arith, if◌then◌else◌}
use Rattle.std.specs.List.{AllByRecursion}
use Rattle.gsl_base.specs.Checked.{Checked, ◌>>=◌}
use Rattle.gsl_base.specs.declared.fault.Place.{Place}
use Rattle.gsl_syntax.specs.declared.expr.Expr.{Expr as Syntax}
use Rattle.gsl_syntax.specs.declared.expr.Dim.{Dim}
use Rattle.gsl_syntax.specs.declared.expr.TypeSpec.{TypeSpec}
use Rattle.gsl_syntax.specs.declared.expr.Dim.TheOpen.{Expr-F}
use Rattle.gsl_syntax.specs.declared.expr.Dim.TheFolds.{fold-roll-Expr, ind-Expr, map-Expr}
use Rattle.gsl_syntax.specs.declared.expr.Dim.TheViews.{roll-Expr}
use Rattle.gsl_types.specs.declared.ty.Ty.{Ty}
use Rattle.gsl_types.specs.declared.ty.Ty.TheVariants as ty
use Rattle.gsl_types.specs.declared.ty.Scalar.TheVariants.{Bool as Boolean, Int, Uint}
use Rattle.gsl_values.specs.declared.value.Value.TheVariants.{Word, Many}
use Rattle.gsl_names.specs.declared.entry.Entry.{Entry}
use Rattle.gsl_names.specs.declared.entry.Entry.TheVariants as entry
use Rattle.gsl_names.specs.Scopes.{find, all_of}
use Rattle.gsl_tree.specs.declared.expr.Expr.{Expr}
use Rattle.gsl_tree.specs.declared.expr.ExprKind.{ExprKind}
use Rattle.gsl_tree.specs.declared.expr.ExprKind.TheVariants as kind
use Rattle.gsl_tree.specs.declared.expr.ExprKind.TheFolds.{fold-ExprKind}
use Rattle.gsl_tree.specs.declared.unit.LocalSize.{LocalSize}
use Rattle.gsl_tree.specs.Around.{uvec3, stage_var_type}
use Rattle.gsl_tree.specs.Paths.{kind_in}
use Rattle.gsl_tree.specs.Statements.{deepest, depth_by, expr_depth}
use Rattle.gsl_tree.specs.Trees.{place_of}
use Rattle.gsl_tree.proofs.Folds as at
use Rattle.gsl_typing.specs.declared.scene.Scene.{Scene}
use Rattle.gsl_typing.specs.declared.scene.Part.{Part}
use Rattle.gsl_typing.specs.Rows.{fault}
use Rattle.gsl_typing.specs.Operators.{binary, unary, postfix, assigned, choice, comma}
use Rattle.gsl_typing.specs.Scene.{type_in}
use Rattle.gsl_typing.specs.Uses.{whole}
use Rattle.gsl_makers.specs.Paths.{index, member, method}
use Rattle.gsl_check_expr.specs.declared.brackets.Dimensions.{Dimensions}
use Rattle.gsl_check_expr.specs.declared.env.Env.{Env}
use Rattle.gsl_check_expr.specs.InOrder.{each}
use Rattle.gsl_check_expr.specs.Named.{literal, variable, named, named_by, size_value}
use Rattle.gsl_check_expr.specs.Sizes.{Bracket, dimensions, with_dimensions, is_plain_name}
use Rattle.gsl_check_expr.specs.Callees.{basic_type, Base, Keyword, Name, Callee, count_of, functions_in, functions, called_entry, called_base, called}
use Rattle.gsl_check_expr.specs.Expressions.{Answer, taken, dim_by, callee_by, by_parts, in_row, call_answer, behind, sequence, member_answer, answer, callee, bracket, expression, taken_expression}
use Rattle.gsl_check_decl.proofs.Gathering.{Holds, holds_after, holds_then}
use Rattle.gsl_formed.specs.Nested.{binary_arms, rest_arms, expr_arms_by, expr_arms}
use Rattle.gsl_check_law.proofs.Deep.{At, AllAt, Under, at_more, leaf_at, list_at, binary_deep, assigned_deep, choice_deep, comma_deep, index_deep, whole_deep, unary_deep, postfix_deep, member_deep, method_deep, block_member_deep, build_deep, call_deep, built_deep}
use Rattle.gsl_check_law.proofs.Rows.{so}
use Rattle.gsl_base.specs.declared.fault.Code.TheVariants.{E0402}
use Rattle.gsl_calls.specs.Calls.{built}

module _ (env : Env) where
  abbrev scene : Scene
  scene = env.scene

  abbrev Deep : ℕ → Answer → Type 0
  Deep n a = Holds (At n) a.value

  taken_deep : (n : ℕ) (a : Answer) → Deep n a → Holds (At n) (taken env a)
  taken_deep n a is = holds_after (At n) (At n) a.value (whole scene) is (λ x at. whole_deep scene (place_of x.expr) n x at)

  -- ---- names

  module _ (n : ℕ) (p : Place) where
    variable_deep : (k : ExprKind) (fixed : Bool) (o : Option Ty) → fold-ExprKind ℕ ℕ depth_by kind_in k ≡ 0 → Holds (At n) (variable p k fixed o)
    variable_deep k fixed None is = tt
    variable_deep k fixed (Some t) is = leaf_at p t n k is

    size_deep : (sizes : List LocalSize) → Holds (At n) (size_value p sizes)
    size_deep [] = tt
    size_deep (s ∷ sizes) = leaf_at p uvec3 n (kind.Const (Many (map Word s.parts))) (at.at-Const ℕ ℕ depth_by kind_in (Many (map Word s.parts)))

    entry_deep : (o : Option Entry) → Holds (At n) (named_by scene p o)
    entry_deep None = tt
    entry_deep (Some (entry.Local k fixed)) = variable_deep (kind.Local k) fixed _ (at.at-Local ℕ ℕ depth_by kind_in k)
    entry_deep (Some (entry.Param k fixed)) = variable_deep (kind.Param k) fixed _ (at.at-Param ℕ ℕ depth_by kind_in k)
    entry_deep (Some (entry.Global k)) = variable_deep (kind.Global k) false _ (at.at-Global ℕ ℕ depth_by kind_in k)
    entry_deep (Some (entry.Member b k)) = variable_deep (kind.BlockMember b k) false _ (at.at-BlockMember ℕ ℕ depth_by kind_in b k)
    entry_deep (Some (entry.Interface k)) = variable_deep (kind.Interface k) false _ (at.at-Interface ℕ ℕ depth_by kind_in k)
    entry_deep (Some (entry.Stage var)) = leaf_at p (stage_var_type var) n (kind.Stage var) (at.at-Stage ℕ ℕ depth_by kind_in var)
    entry_deep (Some entry.Size) = size_deep scene.sizes
    entry_deep (Some (entry.Instance k)) = tt
    entry_deep (Some (entry.Block k)) = tt
    entry_deep (Some (entry.Struct k)) = tt
    entry_deep (Some (entry.Function k)) = tt
    entry_deep (Some (entry.Builtin which)) = tt

    named_deep : (name : List ℕ) → Holds (At n) (named env p name)
    unfolding named
    named_deep name = entry_deep (find env.names name)

    literal_deep : (t : Ty) (w : ℕ) → Holds (At n) (literal p t w)
    unfolding literal
    literal_deep t w = leaf_at p t n (kind.Const (Word w)) (at.at-Const ℕ ℕ depth_by kind_in (Word w))

    -- ---- calls

    module _ (dims : Dimensions) (parts : List Part) (all : AllAt n parts) where
      bare_deep : (node : Checked Part) (b : Bool) → Holds (At n) node → Holds (At n) (if b then node else fault p E0402)
      bare_deep node true is = is
      bare_deep node false is = tt

      entry_called : (name : List ℕ) (o : Option Entry) → Holds (At n) (called_entry env p name dims parts o)
      entry_called name None = tt
      entry_called name (Some (entry.Struct k)) = build_deep scene p n (with_dimensions (count_of parts) dims (ty.Struct k)) parts all
      entry_called name (Some (entry.Function k)) = bare_deep (functions env p name parts) (is_plain_name dims) (call_deep scene p n (functions_in (all_of env.names name)) parts all)
      entry_called name (Some (entry.Builtin which)) = bare_deep (built scene p which parts) (is_plain_name dims) (built_deep scene p n which parts all)
      entry_called name (Some (entry.Local k fixed)) = tt
      entry_called name (Some (entry.Param k fixed)) = tt
      entry_called name (Some (entry.Global k)) = tt
      entry_called name (Some (entry.Member b k)) = tt
      entry_called name (Some (entry.Instance k)) = tt
      entry_called name (Some (entry.Block k)) = tt
      entry_called name (Some (entry.Interface k)) = tt
      entry_called name (Some (entry.Stage var)) = tt
      entry_called name (Some entry.Size) = tt

      base_called : (base : Base) → Holds (At n) (called_base env p base dims parts)
      base_called (Keyword b) = build_deep scene p n (with_dimensions (count_of parts) dims (basic_type b)) parts all
      base_called (Name name) = entry_called name (find env.names name)

      called_deep : (base : Base) → Holds (At n) (called env p base dims parts)
      unfolding called
      called_deep base = base_called base

  row_deep : (n : ℕ) (answers : List Answer) → AllByRecursion (Deep n) answers → Holds (AllAt n) (in_row env answers)
  row_deep n [] all = tt
  row_deep n (a ∷ answers) all =
      holds_after (At n) (AllAt n) (taken env a) (λ first. each (taken env) answers >>= (λ rest. Ok (first ∷ rest))) (taken_deep n a all.0)
      (λ first is. holds_after (AllAt n) (AllAt n) (each (taken env) answers) (λ rest. Ok (first ∷ rest)) (row_deep n answers all.1) (λ rest are. (is, are)))

  answered_deep : (n : ℕ) (c : Callee) (args : List Answer) → AllByRecursion (Deep n) args → Holds (At n) (call_answer env c args)
  answered_deep n c args all =
      holds_then (At n) (dimensions c.brackets) (λ dims. in_row env args >>= (λ parts. called env c.place c.base dims parts))
      (λ dims. holds_after (AllAt n) (At n) (in_row env args) (λ parts. called env c.place c.base dims parts) (row_deep n args all) (λ parts are. called_deep n c.place dims parts are c.base))

  -- ---- commas

  under_more : (n : ℕ) (es : List Expr) (e : Expr) → Under n es → expr_depth e ≤ n → Under n (es ++ e ∷ [])
  under_more n [] e all is = omega (arith, is)
  under_more n (x ∷ es) e all is = let rest = under_more n es e (omega (arith, all)) is in omega (arith, all, rest)

  behind_deep : (n : ℕ) (last : Part) (items : List Expr) (place : Place) (rest : List (Place × Answer)) → At n last → Under n items → AllByRecursion (λ (next : Place × Answer). Deep n next.1) rest → Holds (At n) (behind env last items place rest)
  behind_deep n last items place [] is under all = list_at place (type_in last) n (kind.Comma items) items (at.at-Comma ℕ ℕ depth_by kind_in items) under
  behind_deep n last items place (next ∷ rest) is under all =
      holds_after (At n) (At n) (taken env next.1) (λ y. comma scene next.0 last y >>= (λ z. behind env z (items ++ z.expr ∷ []) next.0 rest)) (taken_deep n next.1 all.0)
      (λ y also. holds_after (At n) (At n) (comma scene next.0 last y) (λ z. behind env z (items ++ z.expr ∷ []) next.0 rest) (comma_deep scene next.0 n n last y is also)
      (λ z at. behind_deep n z (items ++ z.expr ∷ []) next.0 rest at (under_more n items z.expr under at) all.1))

  sequence_deep : (n : ℕ) (first : Answer) (rest : List (Place × Answer)) → Deep n first → AllByRecursion (λ (next : Place × Answer). Deep n next.1) rest → Holds (At n) (sequence env first rest)
  sequence_deep n first rest is all =
      holds_after (At n) (At n) (taken env first) (λ x. behind env x (x.expr ∷ []) (place_of x.expr) rest) (taken_deep n first is)
      (λ x at. behind_deep n x (x.expr ∷ []) (place_of x.expr) rest at (omega (arith, at)) all)

  member_answer_deep : (n : ℕ) (p : Place) (a : Answer) (block : Option ℕ) (name : List ℕ) → Deep n a → Holds (At n) (member_answer env p a block name)
  member_answer_deep n p a None name is = holds_after (At n) (At n) a.value (λ x. member scene p x name) is (λ x at. member_deep scene p n x at name)
  member_answer_deep n p a (Some block) name is = block_member_deep scene p n block name

  -- ---- by the fold of the syntax tree

  abbrev Fits : Syntax → Type 0
  Fits e = Deep (expr_arms e) (answer env e)

  abbrev Child : Type 0
  Child = (e : Syntax) × Fits e

  abbrev arms_of : Expr-F Dim Syntax TypeSpec → ℕ
  arms_of layer = expr_arms_by (map-Expr _ _ _ _ _ _ (λ (d : Dim). tt) expr_arms (λ (t : TypeSpec). tt) layer)

  counts : (layer : Expr-F Dim Syntax TypeSpec) → expr_arms (roll-Expr layer) ≡ arms_of layer
  unfolding expr_arms
  counts layer = fold-roll-Expr (Unit {0}) ℕ (Unit {0}) (λ _. tt) expr_arms_by (λ _. tt) layer

  answers_at : (layer : Expr-F Dim Syntax TypeSpec) → answer env (roll-Expr layer) ≡ by_parts env (map-Expr _ _ _ _ _ _ (bracket env) (answer env) (callee env) layer)
  unfolding answer callee bracket
  answers_at layer = fold-roll-Expr Bracket Answer Callee (dim_by env) (by_parts env) callee_by layer

  opens : (layer : Expr-F Dim Syntax TypeSpec) → Deep (arms_of layer) (by_parts env (map-Expr _ _ _ _ _ _ (bracket env) (answer env) (callee env) layer)) → Fits (roll-Expr layer)
  opens layer is = subst (λ n. Deep n (answer env (roll-Expr layer))) (sym (counts layer)) (subst (Deep (arms_of layer)) (sym (answers_at layer)) is)

  more_deep : (n m : ℕ) (a : Answer) → n ≤ m → Deep n a → Deep m a
  more_deep n m a le is = so (At n) (At m) a.value is (λ x at. at_more n m x le at)

  args_deep : (m : ℕ) (args : List Child) → deepest (map expr_arms (map (λ (e : Child). e.0) args)) ≤ m → AllByRecursion (Deep m) (map (answer env) (map (λ (e : Child). e.0) args))
  args_deep m [] le = tt
  args_deep m (e ∷ args) le = (more_deep (expr_arms e.0) m (answer env e.0) (omega (arith, le)) e.1, args_deep m args (omega (arith, le)))

  abbrev bare_rest : List (Place × Child) → List (Place × Syntax)
  bare_rest rest = map (λ (n : Place × Child). (n.0, n.1.0)) rest

  rest_deep : (m : ℕ) (rest : List (Place × Child)) → rest_arms (map (λ (n : Place × Syntax). (n.0, expr_arms n.1)) (bare_rest rest)) ≤ m
      → AllByRecursion (λ (next : Place × Answer). Deep m next.1) (map (λ (n : Place × Syntax). (n.0, answer env n.1)) (bare_rest rest))
  rest_deep m [] le = tt
  rest_deep m (n ∷ rest) le = (more_deep (expr_arms n.1.0) m (answer env n.1.0) (omega (arith, le)) n.1.1, rest_deep m rest (omega (arith, le)))

  layer : (y : Expr-F ((d : Dim) × Unit {0}) Child ((t : TypeSpec) × Unit {0})) → Fits (roll-Expr (map-Expr _ _ _ _ _ _ (λ d. d.0) (λ e. e.0) (λ t. t.0) y))
  layer (Expr-F.Name p name) = opens (Expr-F.Name p name) (named_deep 0 p name)
  layer (Expr-F.Signed p w) = opens (Expr-F.Signed p w) (literal_deep 0 p (ty.One Int) w)
  layer (Expr-F.Unsigned p w) = opens (Expr-F.Unsigned p w) (literal_deep 0 p (ty.One Uint) w)
  layer (Expr-F.Bool p b) = opens (Expr-F.Bool p b) (literal_deep 0 p (ty.One Boolean) (if b then 1 else 0))
  layer (Expr-F.Paren p e) = opens (Expr-F.Paren p e.0) e.1
  layer (Expr-F.CallVoid t) = opens (Expr-F.CallVoid t.0) (answered_deep 0 (callee env t.0) [] tt)
  layer (Expr-F.Call t args) =
      let syntax = map (λ (e : Child). e.0) args in
      opens (Expr-F.Call t.0 syntax) (answered_deep (deepest (map expr_arms syntax)) (callee env t.0) (map (answer env) syntax) (args_deep (deepest (map expr_arms syntax)) args (omega arith)))
  layer (Expr-F.Index p a i) =
      let n = expr_arms a.0 in let m = expr_arms i.0 in
      opens (Expr-F.Index p a.0 i.0) (holds_after (At n) (At (max n m)) (answer env a.0).value (λ x. taken env (answer env i.0) >>= (λ y. index scene p x y)) a.1
      (λ x first. holds_after (At m) (At (max n m)) (taken env (answer env i.0)) (λ y. index scene p x y) (taken_deep m (answer env i.0) i.1) (λ y second. index_deep scene p n m x y first second)))
  layer (Expr-F.Member p a name) = opens (Expr-F.Member p a.0 name) (member_answer_deep (expr_arms a.0) p (answer env a.0) (answer env a.0).block name a.1)
  layer (Expr-F.Method p a name) =
      let n = expr_arms a.0 in
      opens (Expr-F.Method p a.0 name) (holds_after (At n) (At n) (answer env a.0).value (λ x. method p x name) a.1 (λ x first. method_deep scene p n x first name))
  layer (Expr-F.Postfix p o a) =
      let n = expr_arms a.0 in
      opens (Expr-F.Postfix p o a.0) (holds_after (At n) (At n) (taken env (answer env a.0)) (λ x. postfix scene o p x) (taken_deep n (answer env a.0) a.1) (λ x first. postfix_deep scene p n x first o))
  layer (Expr-F.Unary p o a) =
      let n = expr_arms a.0 in
      opens (Expr-F.Unary p o a.0) (holds_after (At n) (At n) (taken env (answer env a.0)) (λ x. unary scene o p x) (taken_deep n (answer env a.0) a.1) (λ x first. unary_deep scene p n x first o))
  layer (Expr-F.Binary p o a b) =
      let n = expr_arms a.0 in let m = expr_arms b.0 in
      opens (Expr-F.Binary p o a.0 b.0) (holds_after (At n) (At (binary_arms o n m)) (taken env (answer env a.0)) (λ x. taken env (answer env b.0) >>= (λ y. binary scene o p x y)) (taken_deep n (answer env a.0) a.1)
      (λ x first. holds_after (At m) (At (binary_arms o n m)) (taken env (answer env b.0)) (λ y. binary scene o p x y) (taken_deep m (answer env b.0) b.1) (λ y second. binary_deep scene p n m x y first second o)))
  layer (Expr-F.Conditional p t a b) =
      let l = expr_arms t.0 in let n = expr_arms a.0 in let m = expr_arms b.0 in
      opens (Expr-F.Conditional p t.0 a.0 b.0) (holds_after (At l) (At (max l (1 + max n m))) (taken env (answer env t.0)) (λ c. taken env (answer env a.0) >>= (λ x. taken env (answer env b.0) >>= (λ y. choice scene p c x y))) (taken_deep l (answer env t.0) t.1)
      (λ c zeroth. holds_after (At n) (At (max l (1 + max n m))) (taken env (answer env a.0)) (λ x. taken env (answer env b.0) >>= (λ y. choice scene p c x y)) (taken_deep n (answer env a.0) a.1)
      (λ x first. holds_after (At m) (At (max l (1 + max n m))) (taken env (answer env b.0)) (λ y. choice scene p c x y) (taken_deep m (answer env b.0) b.1) (λ y second. choice_deep scene p n m x y first second l c zeroth))))
  layer (Expr-F.Assign p o a b) =
      let n = expr_arms a.0 in let m = expr_arms b.0 in
      opens (Expr-F.Assign p o a.0 b.0) (holds_after (At n) (At (max n m)) (taken env (answer env a.0)) (λ x. taken env (answer env b.0) >>= (λ y. assigned scene o p x y)) (taken_deep n (answer env a.0) a.1)
      (λ x first. holds_after (At m) (At (max n m)) (taken env (answer env b.0)) (λ y. assigned scene o p x y) (taken_deep m (answer env b.0) b.1) (λ y second. assigned_deep scene p n m x y first second o)))
  layer (Expr-F.Sequence first rest) =
      let all = arms_of (Expr-F.Sequence first.0 (bare_rest rest)) in
      opens (Expr-F.Sequence first.0 (bare_rest rest)) (sequence_deep all (answer env first.0) (map (λ (n : Place × Syntax). (n.0, answer env n.1)) (bare_rest rest)) (more_deep (expr_arms first.0) all (answer env first.0) (omega arith) first.1) (rest_deep all rest (omega arith)))

  pub expression_deep : (e : Syntax) → Holds (At (expr_arms e)) (expression env e)
  expression_deep = ind-Expr (λ _. Unit {0}) Fits (λ _. Unit {0}) (λ x y is. tt) (λ x y is. subst (λ z. Fits (roll-Expr z)) is (layer y)) (λ x y is. tt)

  pub taken_expression_deep : (e : Syntax) → Holds (At (expr_arms e)) (taken_expression env e)
  taken_expression_deep e = taken_deep (expr_arms e) (answer env e) (expression_deep e)
