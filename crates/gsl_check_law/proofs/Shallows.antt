-- What initialisers give, and what declarations declare, is no deeper than their syntax trees.
use Rattle.std.proofs.Common.{◌≡◌, sym, ap, ◌∙◌, subst, ℕ, ◌+◌, ◌≤◌, List, [], ◌∷◌, map, length, Option, Some, None, Bool, false, Ok, arith}
use Rattle.std.specs.List.{AllByRecursion}
use Rattle.gsl_base.specs.Checked.{Checked, ◌>>=◌}
use Rattle.gsl_base.specs.declared.fault.Place.{Place}
use Rattle.gsl_syntax.specs.declared.expr.TypeSpec.{TypeSpec}
use Rattle.gsl_syntax.specs.declared.declaration.Decl.{Decl}
use Rattle.gsl_syntax.specs.declared.declaration.Decl.TheVariants as decl
use Rattle.gsl_syntax.specs.declared.declaration.Declarator.{Declarator}
use Rattle.gsl_syntax.specs.declared.declaration.Declarator.TheVariants as declarator_of
use Rattle.gsl_syntax.specs.declared.declaration.Init.{Init}
use Rattle.gsl_syntax.specs.declared.declaration.Init.TheOpen.{Init-F}
use Rattle.gsl_syntax.specs.declared.declaration.Init.TheFolds.{fold-roll-Init, ind-Init, map-Init}
use Rattle.gsl_syntax.specs.declared.declaration.Init.TheViews.{roll-Init}
use Rattle.gsl_syntax.specs.declared.declaration.Qual.{Qual}
use Rattle.gsl_syntax.specs.declared.declaration.Struct.{Struct}
use Rattle.gsl_types.specs.declared.ty.Ty.{Ty}
use Rattle.gsl_types.specs.declared.ty.Ty.TheVariants as ty
use Rattle.gsl_types.specs.declared.ty.Ty.TheOpen.{Ty-F}
use Rattle.gsl_types.specs.declared.ty.Ty.TheViews.{out-Ty}
use Rattle.gsl_tree.specs.declared.expr.Expr.{Expr, out-Expr}
use Rattle.gsl_tree.specs.declared.expr.ExprKind.TheFolds.{fold-roll-Expr}
use Rattle.gsl_tree.specs.declared.expr.ExprKind.TheViews.{roll-out-Expr}
use Rattle.gsl_tree.specs.declared.folded.Folded.TheVariants.{NotConstant}
use Rattle.gsl_tree.specs.declared.stmt.Stmt.{Stmt}
use Rattle.gsl_tree.specs.declared.stmt.Stmt.TheVariants as stmt
use Rattle.gsl_tree.specs.Paths.{kind_in}
use Rattle.gsl_tree.specs.Statements.{deepest, depth_by, expr_depth, depth_in, stmt_depth, stmt_depth_by, arm_depth_by}
use Rattle.gsl_tree.proofs.StmtFolds as at
use Rattle.gsl_typing.specs.declared.scene.Scene.{Scene}
use Rattle.gsl_typing.specs.declared.scene.Part.{Part}
use Rattle.gsl_typing.specs.Conversions.{as_type}
use Rattle.gsl_typing.specs.Rows.{fault}
use Rattle.gsl_makers.specs.Constructors.{build}
use Rattle.gsl_check_expr.specs.declared.env.Env.{Env}
use Rattle.gsl_check_expr.specs.declared.writing.Written.{Written}
use Rattle.gsl_check_expr.specs.declared.writing.Written.TheVariants.{Whole}
use Rattle.gsl_check_expr.specs.Expressions.{bracket}
use Rattle.gsl_check_expr.specs.Initialisers.{as_of, listed_by, listed, part_type, parts_from, by_items, value_as, initial, needed, count_in}
use Rattle.gsl_check_expr.specs.Written.{declared, whole_type, written_type}
use Rattle.gsl_check_decl.specs.Steps.{Step, in_turn, as_one}
use Rattle.gsl_check_decl.specs.Locals.{qualified, with_local, may_be_plain, plain_variable, set_variable, may_begin, begun_variable, declarator}
use Rattle.gsl_check_decl.specs.Structs.{structured}
use Rattle.gsl_check_decl.specs.Declarations.{variables, struct_and_variables, declared_by, declaration}
use Rattle.gsl_check_decl.proofs.Gathering.{Holds, holds_after, holds_then}
use Rattle.gsl_formed.specs.Nested.{init_arms_by, init_arms, declarator_arms, decl_arms}
use Rattle.gsl_check_law.proofs.Rows.{so}
use Rattle.gsl_check_law.proofs.Deep.{At, AllAt, at_more, depth_of, as_type_depth, build_deep}
use Rattle.gsl_check_law.proofs.Depths.{taken_expression_deep}
use Rattle.gsl_base.specs.declared.fault.Code.TheVariants.{E0701}

-- ---- initialisers

as_of_depth : (place : Place) (t : Ty) (x : Part) → expr_depth (as_of place t x).expr ≡ expr_depth x.expr
as_of_depth place t x = depth_of place t (out-Expr x.expr).kind ∙ sym (ap expr_depth (sym (roll-out-Expr x.expr)) ∙ fold-roll-Expr ℕ ℕ depth_by kind_in (out-Expr x.expr))

module _ (env : Env) where
  abbrev scene : Scene
  scene = env.scene

  listed_deep : (n : ℕ) (place : Place) (t : Ty) (layer : Ty-F Ty) (parts : List Part) → AllAt n parts → Holds (At n) (listed_by scene place t layer parts)
  listed_deep n place t Ty-F.Void parts all = tt
  listed_deep n place t (Ty-F.One s) parts all = tt
  listed_deep n place t (Ty-F.Vector s m) parts all =
      holds_after (At n) (At n) (build scene place (ty.Array (ty.One s) m) parts) (λ x. Ok (as_of place t x)) (build_deep scene place n (ty.Array (ty.One s) m) parts all)
      (λ x is. let same = as_of_depth place t x in omega (arith, is, same))
  listed_deep n place t (Ty-F.Array e m) parts all = build_deep scene place n t parts all
  listed_deep n place t (Ty-F.Runtime e) parts all = tt
  listed_deep n place t (Ty-F.Struct k) parts all = build_deep scene place n t parts all

  abbrev Gives : ℕ → (Ty → Checked Part) → Type 0
  Gives n f = (t : Ty) → Holds (At n) (f t)

  abbrev Fits : Init → Type 0
  Fits init = Gives (init_arms init) (value_as env init)

  abbrev Child : Type 0
  Child = (init : Init) × Fits init

  parts_deep : (n : ℕ) (t : Ty) (k : ℕ) (items : List (Ty → Checked Part)) → AllByRecursion (Gives n) items → Holds (AllAt n) (parts_from scene t k items)
  parts_deep n t k [] all = tt
  parts_deep n t k (item ∷ items) all =
      holds_after (At n) (AllAt n) (item (part_type scene t k)) (λ first. parts_from scene t (k + 1) items >>= (λ rest. Ok (first ∷ rest))) (all.0 (part_type scene t k))
      (λ first is. holds_after (AllAt n) (AllAt n) (parts_from scene t (k + 1) items) (λ rest. Ok (first ∷ rest)) (parts_deep n t (k + 1) items all.1) (λ rest are. (is, are)))

  counts : (layer : Init-F Init) → init_arms (roll-Init layer) ≡ init_arms_by (map-Init _ _ init_arms layer)
  unfolding init_arms
  counts layer = fold-roll-Init ℕ init_arms_by layer

  values_at : (layer : Init-F Init) → value_as env (roll-Init layer) ≡ by_items env (map-Init _ _ (value_as env) layer)
  unfolding value_as
  values_at layer = fold-roll-Init (Ty → Checked Part) (by_items env) layer

  opens : (layer : Init-F Init) → Gives (init_arms_by (map-Init _ _ init_arms layer)) (by_items env (map-Init _ _ (value_as env) layer)) → Fits (roll-Init layer)
  opens layer is = subst (λ n. Gives n (value_as env (roll-Init layer))) (sym (counts layer)) (subst (Gives (init_arms_by (map-Init _ _ init_arms layer))) (sym (values_at layer)) is)

  items_deep : (m : ℕ) (items : List Child) → deepest (map init_arms (map (λ (i : Child). i.0) items)) ≤ m → AllByRecursion (Gives m) (map (value_as env) (map (λ (i : Child). i.0) items))
  items_deep m [] le = tt
  items_deep m (i ∷ items) le =
      (λ t. so (At (init_arms i.0)) (At m) (value_as env i.0 t) (i.1 t) (λ x at. at_more (init_arms i.0) m x (omega (arith, le)) at), items_deep m items (omega (arith, le)))

  braces_deep : (n : ℕ) (place : Place) (t : Ty) (items : List (Ty → Checked Part)) → AllByRecursion (Gives n) items → Holds (At n) (parts_from scene t 0 items >>= (λ parts. listed scene place t parts))
  unfolding listed
  braces_deep n place t items all = holds_after (AllAt n) (At n) (parts_from scene t 0 items) (λ parts. listed_by scene place t (out-Ty t) parts) (parts_deep n t 0 items all) (λ parts are. listed_deep n place t (out-Ty t) parts are)

  layer : (y : Init-F Child) → Fits (roll-Init (map-Init _ _ (λ i. i.0) y))
  layer (Init-F.Expr e) = opens (Init-F.Expr e) (λ t. taken_expression_deep env e)
  layer (Init-F.Braces place items) =
      let syntax = map (λ (i : Child). i.0) items in
      let n = deepest (map init_arms syntax) in
      opens (Init-F.Braces place syntax) (λ t. braces_deep n place t (map (value_as env) syntax) (items_deep n items (omega arith)))

  pub initial_deep : (w : Written) (init : Init) → Holds (At (init_arms init)) (initial env w init)
  unfolding initial
  initial_deep w init = ind-Init Fits (λ x y is. subst (λ z. Fits (roll-Init z)) is (layer y)) init (needed w (count_in init))

-- ---- declarations among statements

abbrev pub Low : ℕ → Stmt × Env → Type 0
Low n done = stmt_depth done.0 ≤ n

abbrev pub LowAll : ℕ → List Stmt × Env → Type 0
LowAll n done = deepest (map stmt_depth done.0) ≤ n

abbrev pub Lows : ℕ → Step → Type 0
Lows n step = (env : Env) → Holds (Low n) (step env)

pub low_turns : (n : ℕ) (steps : List Step) → AllByRecursion (Lows n) steps → (env : Env) → Holds (LowAll n) (in_turn steps env)
low_turns n [] all env = omega arith
low_turns n (step ∷ steps) all env =
    holds_after (Low n) (LowAll n) (step env) (λ first. in_turn steps first.1 >>= (λ rest. Ok (first.0 ∷ rest.0, rest.1))) (all.0 env)
    (λ first is. holds_after (LowAll n) (LowAll n) (in_turn steps first.1) (λ rest. Ok (first.0 ∷ rest.0, rest.1)) (low_turns n steps all.1 first.1) (λ rest are. omega (arith, is, are)))

pub declare_depth : (k : ℕ) (init : Option Expr) → stmt_depth (stmt.Declare k init) ≡ depth_in init
declare_depth k init = at.at-Declare ℕ ℕ stmt_depth_by arm_depth_by k init

declarator_low : (n : ℕ) (fixed : Bool) (base : Written) (d : Declarator) → declarator_arms d ≤ n → Lows n (declarator fixed base d)
unfolding declarator plain_variable begun_variable set_variable
declarator_low n fixed base (declarator_of.Plain name dims) le env =
    holds_then (Low n) (declared (map (bracket env) dims) base) (λ t. whole_type t >>= (λ whole. plain_variable fixed name whole env))
    (λ t. holds_then (Low n) (whole_type t) (λ whole. plain_variable fixed name whole env)
    (λ whole. holds_then (Low n) (may_be_plain fixed name whole env) (λ _. Ok (stmt.Declare (length env.scene.locals) None, with_local false name.text whole NotConstant env))
    (λ _. let is = declare_depth (length env.scene.locals) None in omega (arith, is))))
declarator_low n fixed base (declarator_of.Initialised name dims init) le env =
    holds_then (Low n) (declared (map (bracket env) dims) base) (λ t. initial env t init >>= (λ x. begun_variable fixed name t x env))
    (λ t. holds_after (At (init_arms init)) (Low n) (initial env t init) (λ x. begun_variable fixed name t x env) (initial_deep env t init)
    (λ x at. holds_then (Low n) (may_begin name t x env) (λ u. set_variable fixed name u (as_type u x.expr) env)
    (λ u. let is = declare_depth (length env.scene.locals) (Some (as_type u x.expr)) in let same = as_type_depth u x.expr in omega (arith, is, same, at, le))))

declarators_low : (n : ℕ) (fixed : Bool) (base : Written) (all : List Declarator) → deepest (map declarator_arms all) ≤ n → AllByRecursion (Lows n) (map (declarator fixed base) all)
declarators_low n fixed base [] le = tt
declarators_low n fixed base (d ∷ all) le = (declarator_low n fixed base d (omega (arith, le)), declarators_low n fixed base all (omega (arith, le)))

module _ (env : Env) where
  variables_low : (quals : List Qual) (t : TypeSpec) (all : List Declarator) → Holds (LowAll (deepest (map declarator_arms all))) (variables quals t all env)
  unfolding variables
  variables_low quals t all =
      let n = deepest (map declarator_arms all) in
      holds_then (LowAll n) (qualified env quals) (λ fixed. written_type env t >>= (λ base. in_turn (map (declarator fixed base) all) env))
      (λ fixed. holds_then (LowAll n) (written_type env t) (λ base. in_turn (map (declarator fixed base) all) env)
      (λ base. low_turns n (map (declarator fixed base) all) (declarators_low n fixed base all (omega arith)) env))

  struct_low : (quals : List Qual) (s : Struct) (all : List Declarator) → Holds (LowAll (deepest (map declarator_arms all))) (struct_and_variables quals s all env)
  unfolding struct_and_variables
  struct_low quals s all =
      let n = deepest (map declarator_arms all) in
      holds_then (LowAll n) (qualified env quals) (λ fixed. structured s env >>= (λ done. in_turn (map (declarator fixed (Whole (ty.Struct done.0))) all) done.1))
      (λ fixed. holds_then (LowAll n) (structured s env) (λ done. in_turn (map (declarator fixed (Whole (ty.Struct done.0))) all) done.1)
      (λ done. low_turns n (map (declarator fixed (Whole (ty.Struct done.0))) all) (declarators_low n fixed (Whole (ty.Struct done.0)) all (omega arith)) done.1))

  all_low : (d : Decl) → Holds (LowAll (decl_arms d)) (declared_by d env)
  unfolding declared_by
  all_low (decl.Variables quals t all) = variables_low quals t all
  all_low (decl.Struct quals s all) = struct_low quals s all
  all_low (decl.Block quals name members instance) = holds_then (LowAll 0) (qualified env quals) (λ fixed. fault name.place E0701) (λ fixed. tt)
  all_low (decl.Quals quals) = holds_then (LowAll 0) (qualified env quals) (λ fixed. Ok ([], env)) (λ fixed. omega arith)

  one_low : (n : ℕ) (stmts : List Stmt) → deepest (map stmt_depth stmts) ≤ n → stmt_depth (as_one stmts) ≤ n
  one_low n [] le = let is = at.at-Empty ℕ ℕ stmt_depth_by arm_depth_by in omega (arith, is)
  one_low n (one ∷ []) le = omega (arith, le)
  one_low n (one ∷ two ∷ more) le = let is = at.at-Group ℕ ℕ stmt_depth_by arm_depth_by (one ∷ two ∷ more) in omega (arith, is, le)

  pub declaration_low : (d : Decl) → Holds (Low (decl_arms d)) (declaration d env)
  unfolding declaration
  declaration_low d = holds_after (LowAll (decl_arms d)) (Low (decl_arms d)) (declared_by d env) (λ done. Ok (as_one done.0, done.1)) (all_low d) (λ done le. one_low (decl_arms d) done.0 le)
