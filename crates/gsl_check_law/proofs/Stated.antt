-- What statements stand for is well typed.
use Rattle.std.proofs.Common.{◌≡◌, ◌≢◌, refl, sym, ap, ◌∙◌, subst, List, [], ◌∷◌, length, Option, Some, None, Bool, true, false, not, ◌&&◌, IsTrue, Ok, inl, inr, if◌then◌else◌, nat_lt}
use Rattle.std.specs.List.{AllByRecursion}
use Rattle.std.proofs.lemmas.Bool.{true≢false}
use Rattle.gsl_base.specs.Checked.{Checked, ◌>>=◌}
use Rattle.gsl_base.specs.declared.fault.Code.{Code}
use Rattle.gsl_base.specs.declared.fault.Code.TheVariants.{E0503, E0504, E0507, E0510, E0511, E0512, E0513, E0514}
use Rattle.gsl_base.specs.declared.fault.Place.{Place}
use Rattle.gsl_base.specs.declared.stage.Stage.{Stage}
use Rattle.gsl_base.specs.declared.stage.Stage.TheVariants.{Vertex, Fragment, Compute}
use Rattle.gsl_syntax.specs.declared.expr.Expr.{Expr as Phrase}
use Rattle.gsl_types.specs.declared.ty.Ty.{Ty}
use Rattle.gsl_types.specs.declared.ty.Ty.TheVariants as ty
use Rattle.gsl_names.specs.Scopes.{Scopes, outer}
use Rattle.gsl_overload.proofs.Same.{same_is, same_itself, no_more}
use Rattle.gsl_tree.specs.declared.expr.Expr.{Expr}
use Rattle.gsl_tree.specs.declared.stmt.Stmt.{Stmt}
use Rattle.gsl_tree.specs.declared.stmt.Stmt.TheOpen.{Stmt-F}
use Rattle.gsl_tree.specs.declared.stmt.Stmt.TheVariants as stmt
use Rattle.gsl_tree.specs.declared.stmt.Stmt.TheVariants.{outs-Empty, outs-Eval, outs-Group, outs-If, outs-Loop, outs-Break, outs-Continue, outs-Return, outs-Discard}
use Rattle.gsl_tree.specs.Trees.{Exits, AlongAll, type_of, place_of}
use Rattle.gsl_tree.specs.Expressions.{IsExpr, MayBeRead, boolean}
use Rattle.gsl_tree.specs.WellTyped.{IsResult}
use Rattle.gsl_typing.specs.declared.scene.Scene.{Scene}
use Rattle.gsl_typing.specs.declared.scene.Part.{Part}
use Rattle.gsl_typing.specs.Rows.{fault}
use Rattle.gsl_typing.specs.Scene.{around, type_in}
use Rattle.gsl_typing.specs.Conversions.{serves_as, as_type}
use Rattle.gsl_typing.specs.Uses.{is_unread, is_bool, is_runtime, whole}
use Rattle.gsl_check_expr.specs.declared.env.Env.{Env}
use Rattle.gsl_check_expr.specs.Expressions.{expression, taken_expression}
use Rattle.gsl_check_decl.specs.Declaring.{is_void}
use Rattle.gsl_check_decl.specs.Steps.{Step, in_turn, opened, closed, scoped}
use Rattle.gsl_check_decl.proofs.Gathering.{Holds, holds_then, holds_after}
use Rattle.gsl_check_stmt.specs.declared.within.Within.{Within}
use Rattle.gsl_check_stmt.specs.Rules.{alone, condition_fault, unless_wrong, broken, continued, is_fragment, discarded, returned, returned_value}
use Rattle.gsl_check_stmt.specs.Switches.{misplaced_case, misplaced_default}
use Rattle.gsl_check_stmt.specs.Statements.{Test, still, group, block, tested, tested_if, eval, eval_if, evaluated, stray_case, return_with, if_head, if_done, branch, branches, in_part}
use Rattle.gsl_formed.specs.Formed.{IsFormed, formed_if}
use Rattle.gsl_check_law.specs.Labels.{exits_of}
use Rattle.gsl_check_law.specs.Parts.{IsPart, IsTaken}
use Rattle.gsl_check_law.specs.Scenes.{IsScene, AreThere, IsEnv}
use Rattle.gsl_check_law.proofs.Rows.{row, so, not_false}
use Rattle.gsl_check_law.proofs.Parts.{may_be_read, whole_same}
use Rattle.gsl_check_law.proofs.Building.{plain_settled}
use Rattle.gsl_check_law.proofs.Operators.{bool_is, boolean_settled, operand_of}
use Rattle.gsl_check_law.proofs.Types.{IsSettled}
use Rattle.gsl_check_law.proofs.Phrases.{answer_typed, taken_is}
use Rattle.gsl_check_law.proofs.Longer.{Grows, grows_itself, grows_then}
use Rattle.gsl_check_law.proofs.Growing.{expr_grows, read_grows}
use Rattle.gsl_check_law.proofs.Standing.{stmt_grows, result_grows}
use Rattle.gsl_check_law.proofs.Declarators.{Did, DidAll, Does, stmt_at, turns}
use Rattle.gsl_tree.specs.Statements.{IsStmt}

-- ---- scopes

pub opened_env : (env : Env) → IsEnv env → IsEnv (opened env)
opened_env env fine = record { names = (tt, fine.names); scene = fine.scene; counted = fine.counted }

outer_there : (s : Scene) (names : Scopes) → AllByRecursion (AreThere s) names → AllByRecursion (AreThere s) (outer names)
outer_there s [] all = tt
outer_there s (scope ∷ names) all = all.1

ended_there : (s : Scene) (names : Scopes) (b : Bool) → AllByRecursion (AreThere s) names → AllByRecursion (AreThere s) (if b then outer names else names)
ended_there s names true all = outer_there s names all
ended_there s names false all = all

pub closed_env : (env : Env) → IsEnv env → IsEnv (closed env)
closed_env env fine = record { names = ended_there env.scene env.names (nat_lt 1 (length env.names)) fine.names; scene = fine.scene; counted = fine.counted }

-- ---- single expressions

-- an expression that is well typed and may be read
abbrev pub Readable : Scene → Expr → Type 0
Readable scene e = IsExpr (around scene) e × MayBeRead (around scene) e

pub readable_grows : (s t : Scene) → IsScene s → Grows s t → (e : Expr) → Readable s e → Readable t e
readable_grows s t fine grows e is = (expr_grows s t fine grows e is.0, read_grows s t fine grows e is.0 is.1)

alone_reads : (scene : Scene) (x : Part) → IsPart scene x → Holds (λ (y : Part). Readable scene y.expr) (alone scene x)
unfolding alone is_runtime
alone_reads scene x part =
    row (λ (y : Part). Readable scene y.expr) (place_of x.expr) E0507 (is_unread scene x) ((E0510, is_runtime x) ∷ []) (whole scene x)
    (λ read. row (λ (y : Part). Readable scene y.expr) (place_of x.expr) E0510 (is_runtime x) [] (whole scene x)
    (λ settled. so (λ (y : Part). (x ≡ y) × IsTaken scene y) (λ (y : Part). Readable scene y.expr) (whole scene x) (whole_same scene x part)
    (λ y is. subst (λ (z : Part). Readable scene z.expr) is.0 (part.expr, may_be_read scene x (subst (IsTaken scene) (sym is.0) is.1) read settled))))

-- a condition: a well typed expression, and a readable bool where it has no fault
pub record TestIs (scene : Scene) (t : Test) : Type 0 where
  pub expr : IsExpr (around scene) t.0
  pub right : t.1 ≡ None → MayBeRead (around scene) t.0 × (type_of t.0 ≡ boolean)

pub test_grows : (s t : Scene) → IsScene s → Grows s t → (x : Test) → TestIs s x → TestIs t x
test_grows s t fine grows x is = record {
  expr = expr_grows s t fine grows x.0 is.expr;
  right = λ none. let known = is.right none in (read_grows s t fine grows x.0 is.expr known.0, known.1);
}

some_none : {A X : Type 0} (a : A) → ◌≡◌ {A = Option A} (Some a) None → X
some_none a is = let no : ⊥ = cc in elim no [ ]

fault_none : (scene : Scene) (x : Part) → IsTaken scene x → (b u : Bool) → is_bool x ≡ b → is_unread scene x ≡ u → (if not b then Some E0503 else (if u then Some E0507 else None)) ≡ None
    → MayBeRead (around scene) x.expr × (type_of x.expr ≡ boolean)
fault_none scene x taken false u is read none = some_none E0503 none
fault_none scene x taken true true is read none = some_none E0507 none
fault_none scene x taken true false is read none = (may_be_read scene x taken read (subst IsSettled (sym (bool_is x is)) boolean_settled), bool_is x is)

right_where : (scene : Scene) (x : Part) → IsTaken scene x → condition_fault scene x ≡ None → MayBeRead (around scene) x.expr × (type_of x.expr ≡ boolean)
unfolding condition_fault
right_where scene x taken none = fault_none scene x taken (is_bool x) (is_unread scene x) refl refl none

module _ (env : Env) (fine : IsEnv env) where
  pub eval_reads : (e : Phrase) → IsFormed e → Holds (Readable env.scene) (eval e env)
  unfolding eval
  eval_reads e formed =
      holds_after (IsPart env.scene) (Readable env.scene) (expression env e) (λ x. alone env.scene x >>= (λ y. Ok y.expr)) (answer_typed env fine e formed)
      (λ x part. holds_after (λ (y : Part). Readable env.scene y.expr) (Readable env.scene) (alone env.scene x) (λ y. Ok y.expr) (alone_reads env.scene x part) (λ y is. is))

  abbrev ReadableIf : Option Expr → Type 0
  ReadableIf None = Unit {0}
  ReadableIf (Some e) = Readable env.scene e

  pub tested_is : (e : Phrase) → IsFormed e → Holds (TestIs env.scene) (tested e env)
  unfolding tested
  tested_is e formed =
      holds_after (IsTaken env.scene) (TestIs env.scene) (taken_expression env e) (λ x. Ok (x.expr, condition_fault env.scene x)) (taken_is env fine e formed)
      (λ x taken. record { expr = taken.part.expr; right = right_where env.scene x taken })

-- a condition, or a step, that may be missing
abbrev pub TestIfIs : Scene → Option Test → Type 0
TestIfIs scene None = Unit {0}
TestIfIs scene (Some t) = TestIs scene t

abbrev pub StepIfIs : Scene → Option Expr → Type 0
StepIfIs scene None = Unit {0}
StepIfIs scene (Some e) = Readable scene e

pub test_if_grows : (s t : Scene) → IsScene s → Grows s t → (x : Option Test) → TestIfIs s x → TestIfIs t x
test_if_grows s t fine grows None is = tt
test_if_grows s t fine grows (Some x) is = test_grows s t fine grows x is

pub step_if_grows : (s t : Scene) → IsScene s → Grows s t → (x : Option Expr) → StepIfIs s x → StepIfIs t x
step_if_grows s t fine grows None is = tt
step_if_grows s t fine grows (Some e) is = readable_grows s t fine grows e is

pub tested_if_is : (env : Env) → IsEnv env → (e : Option Phrase) → IsTrue (formed_if e) → Holds (TestIfIs env.scene) (tested_if e env)
unfolding tested_if
tested_if_is env fine None formed = tt
tested_if_is env fine (Some e) formed = holds_after (TestIs env.scene) (TestIfIs env.scene) (tested e env) (λ t. Ok (Some t)) (tested_is env fine e formed) (λ t is. is)

pub eval_if_is : (env : Env) → IsEnv env → (e : Option Phrase) → IsTrue (formed_if e) → Holds (StepIfIs env.scene) (eval_if e env)
unfolding eval_if
eval_if_is env fine None formed = tt
eval_if_is env fine (Some e) formed = holds_after (Readable env.scene) (StepIfIs env.scene) (eval e env) (λ x. Ok (Some x)) (eval_reads env fine e formed) (λ x is. is)

pub unless_holds : {A : Type 0} (P : A → Type 0) (place : Place) (code : Option Code) (node : Checked A) → (code ≡ None → Holds P node) → Holds P (unless_wrong place code node)
unless_holds P place None node is = is refl
unless_holds P place (Some code) node is = tt

module _ (result : Ty) where
  abbrev pub HasResult : Env → Type 0
  HasResult env = IsResult env.scene.structs result

  pub keeps_result : (a b : Env) → Grows a.scene b.scene → HasResult a → HasResult b
  keeps_result a b grows is = result_grows a.scene b.scene grows result is

  -- What a statement stands for is well typed, wherever it stands.
  abbrev pub StepIs : Exits → Step → Type 0
  StepIs exits step = Does result exits HasResult keeps_result step

  abbrev pub Stands : (Within → Step) → Type 0
  Stands step = (within : Within) → StepIs (exits_of within) (step within)

  -- what is declared stays as it was
  stays : (exits : Exits) (env : Env) → IsEnv env → (s : Stmt) → IsStmt (around env.scene) result exits s → Did result exits env (s, env)
  stays exits env fine s is = record { env = fine; grows = grows_itself env.scene; stmt = is }

  module _ (within : Within) where
    abbrev exits : Exits
    exits = exits_of within

    pub empty_is : StepIs exits (λ env. Ok (stmt.Empty, env))
    empty_is env fine has = stays exits env fine stmt.Empty (stmt_at (around env.scene) result exits stmt.Empty Stmt-F.Empty outs-Empty tt tt tt AlongAll.none)

    pub evaluated_is : (e : Phrase) → IsFormed e → StepIs exits (evaluated e)
    unfolding evaluated
    evaluated_is e formed env fine has =
        holds_after (Readable env.scene) (Did result exits env) (eval e env) (λ x. Ok (stmt.Eval x, env)) (eval_reads env fine e formed)
        (λ x is. stays exits env fine (stmt.Eval x) (stmt_at (around env.scene) result exits (stmt.Eval x) (Stmt-F.Eval x) (outs-Eval x) tt (is.0, tt) (is.1, tt) AlongAll.none))

    pub broken_is : (place : Place) → StepIs exits (still (broken within place))
    unfolding broken
    broken_is place env fine has =
        holds_after (λ (s : Stmt). IsStmt (around env.scene) result exits s) (Did result exits env) (broken within place) (λ s. Ok (s, env))
        (row (λ (s : Stmt). IsStmt (around env.scene) result exits s) place E0512 (not within.breaks) [] (Ok stmt.Break)
        (λ may. stmt_at (around env.scene) result exits stmt.Break Stmt-F.Break outs-Break (not_false _ may) tt tt AlongAll.none))
        (λ s is. stays exits env fine s is)

    pub continued_is : (place : Place) → StepIs exits (still (continued within place))
    unfolding continued
    continued_is place env fine has =
        holds_after (λ (s : Stmt). IsStmt (around env.scene) result exits s) (Did result exits env) (continued within place) (λ s. Ok (s, env))
        (row (λ (s : Stmt). IsStmt (around env.scene) result exits s) place E0512 (not within.continues) [] (Ok stmt.Continue)
        (λ may. stmt_at (around env.scene) result exits stmt.Continue Stmt-F.Continue outs-Continue (not_false _ may) tt tt AlongAll.none))
        (λ s is. stays exits env fine s is)

    fragment_is : (stage : Stage) → IsTrue (is_fragment stage) → stage ≡ Fragment
    fragment_is Fragment is = refl
    fragment_is Vertex is = no_more is
    fragment_is Compute is = no_more is

    pub discarded_is : (place : Place) → StepIs exits (λ env. still (discarded env.scene.stage place) env)
    unfolding discarded
    discarded_is place env fine has =
        holds_after (λ (s : Stmt). IsStmt (around env.scene) result exits s) (Did result exits env) (discarded env.scene.stage place) (λ s. Ok (s, env))
        (row (λ (s : Stmt). IsStmt (around env.scene) result exits s) place E0514 (not (is_fragment env.scene.stage)) [] (Ok stmt.Discard)
        (λ may. stmt_at (around env.scene) result exits stmt.Discard Stmt-F.Discard outs-Discard (fragment_is env.scene.stage (not_false _ may)) tt tt AlongAll.none))
        (λ s is. stays exits env fine s is)

    pub returned_is : (place : Place) → StepIs exits (still (returned result place))
    unfolding returned
    returned_is place env fine has =
        holds_after (λ (s : Stmt). IsStmt (around env.scene) result exits s) (Did result exits env) (returned result place) (λ s. Ok (s, env))
        (row (λ (s : Stmt). IsStmt (around env.scene) result exits s) place E0513 (not (is_void result)) [] (Ok (stmt.Return None))
        (λ may. stmt_at (around env.scene) result exits (stmt.Return None) (Stmt-F.Return None) (outs-Return None) (same_is result ty.Void (not_false _ may)) tt tt AlongAll.none))
        (λ s is. stays exits env fine s is)

    result_settled : (scene : Scene) → IsResult scene.structs result → is_void result ≡ false → IsSettled result
    result_settled scene (inl is) not_void = no_more (sym (sym (ap is_void is ∙ same_itself ty.Void) ∙ not_void))
    result_settled scene (inr is) not_void = plain_settled result is.plain

    serves_result : (v s : Bool) → v ≡ false → (not v && not s) ≡ false → IsTrue s
    serves_result false true is also = refl
    serves_result false false is also = no_more (sym also)
    serves_result true s is also = no_more (sym is)

    value_is : (env : Env) → IsEnv env → HasResult env → (place : Place) (x : Part) → IsTaken env.scene x → Holds (λ (s : Stmt). IsStmt (around env.scene) result exits s) (returned_value env.scene result place x)
    unfolding returned_value
    value_is env fine has place x taken =
        row (λ (s : Stmt). IsStmt (around env.scene) result exits s) place E0504 (not (is_void result) && not (serves_as (type_in x) result)) ((E0507, is_unread env.scene x) ∷ (E0513, is_void result) ∷ []) (Ok (stmt.Return (Some (as_type result x.expr))))
        (λ serves. row (λ (s : Stmt). IsStmt (around env.scene) result exits s) place E0507 (is_unread env.scene x) ((E0513, is_void result) ∷ []) (Ok (stmt.Return (Some (as_type result x.expr))))
        (λ read. row (λ (s : Stmt). IsStmt (around env.scene) result exits s) place E0513 (is_void result) [] (Ok (stmt.Return (Some (as_type result x.expr))))
        (λ not_void.
        let y = operand_of env.scene result x taken read (serves_result (is_void result) (serves_as (type_in x) result) not_void serves) (result_settled env.scene has not_void) in
        let apart : result ≢ ty.Void = λ is. true≢false (sym (ap is_void is ∙ same_itself ty.Void) ∙ not_void) in
        stmt_at (around env.scene) result exits (stmt.Return (Some (as_type result x.expr))) (Stmt-F.Return (Some (as_type result x.expr))) (outs-Return (Some (as_type result x.expr))) (apart, y.type) (y.expr, tt) (y.reads, tt) AlongAll.none)))

    pub return_is : (place : Place) (e : Phrase) → IsFormed e → StepIs exits (return_with result place e)
    unfolding return_with
    return_is place e formed env fine has =
        holds_after (IsTaken env.scene) (Did result exits env) (taken_expression env e) (λ x. still (returned_value env.scene result place x) env) (taken_is env fine e formed)
        (λ x taken. holds_after (λ (s : Stmt). IsStmt (around env.scene) result exits s) (Did result exits env) (returned_value env.scene result place x) (λ s. Ok (s, env)) (value_is env fine has place x taken) (λ s is. stays exits env fine s is))

    pub stray_is : (place : Place) (e : Phrase) → StepIs exits (stray_case place e)
    unfolding stray_case misplaced_case
    stray_is place e env fine has =
        holds_then (Did result exits env) (taken_expression env e) (λ x. still (misplaced_case env.scene place x) env)
        (λ x. holds_after (λ (_ : Stmt). ⊥) (Did result exits env) (misplaced_case env.scene place x) (λ s. Ok (s, env)) (row (λ (_ : Stmt). ⊥) place E0507 (is_unread env.scene x) [] (fault place E0511) (λ read. tt)) (λ s no. elim no [ ]))

    pub default_is : (place : Place) → StepIs exits (still (misplaced_default place))
    unfolding misplaced_default
    default_is place env fine has = tt

  -- ---- groups

  group_is : (exits : Exits) (steps : List Step) → AllByRecursion (StepIs exits) steps → StepIs exits (group steps)
  group_is exits steps all env fine has =
      holds_after (DidAll result exits env) (Did result exits env) (in_turn steps env) (λ done. Ok (stmt.Group done.0, done.1)) (turns result exits HasResult keeps_result steps all env fine has)
      (λ done did. record { env = did.env; grows = did.grows; stmt = stmt_at (around done.1.scene) result exits (stmt.Group done.0) (Stmt-F.Group done.0) (outs-Group done.0) tt tt tt did.stmts })

  scoped_is : (exits : Exits) (step : Step) → StepIs exits step → StepIs exits (scoped step)
  scoped_is exits step is env fine has =
      holds_after (Did result exits (opened env)) (Did result exits env) (step (opened env)) (λ done. Ok (done.0, closed done.1)) (is (opened env) (opened_env env fine) has)
      (λ done did. record { env = closed_env done.1 did.env; grows = did.grows; stmt = did.stmt })

  block_by : (exits : Exits) (steps : List Step) (b : Bool) → AllByRecursion (StepIs exits) steps → StepIs exits (if b then group steps else scoped (group steps))
  block_by exits steps true all = group_is exits steps all
  block_by exits steps false all = scoped_is exits (group steps) (group_is exits steps all)

  pub block_is : (within : Within) (steps : List Step) → AllByRecursion (StepIs (exits_of within)) steps → StepIs (exits_of within) (block steps within)
  unfolding block
  block_is within steps all = block_by (exits_of within) steps within.shared all

  -- ---- branches

  if_is : (exits : Exits) (before : Env) (place : Place) (test : Test) (body : Stmt) (after : Env) → IsEnv after → Grows before.scene after.scene → TestIs after.scene test → IsStmt (around after.scene) result exits body
      → Holds (Did result exits before) (if_done place test body None after)
  unfolding if_done
  if_is exits before place test body after fine grows test_is is =
      unless_holds (Did result exits before) place test.1 (Ok (stmt.If test.0 body None, closed after))
      (λ none.
      let right = test_is.right none in
      record {
        env = closed_env after fine;
        grows = grows;
        stmt = stmt_at (around after.scene) result exits (stmt.If test.0 body None) (Stmt-F.If test.0 body None) (outs-If test.0 body None) right.1 (test_is.expr, tt) (right.0, tt) (AlongAll.more (exits, body) [] is AlongAll.none);
      })

  if_else_is : (exits : Exits) (before : Env) (place : Place) (test : Test) (body other : Stmt) (after : Env) → IsEnv after → Grows before.scene after.scene → TestIs after.scene test → IsStmt (around after.scene) result exits body
      → IsStmt (around after.scene) result exits other → Holds (Did result exits before) (if_done place test body (Some other) after)
  unfolding if_done
  if_else_is exits before place test body other after fine grows test_is is also =
      unless_holds (Did result exits before) place test.1 (Ok (stmt.If test.0 body (Some other), closed after))
      (λ none.
      let right = test_is.right none in
      record {
        env = closed_env after fine;
        grows = grows;
        stmt = stmt_at (around after.scene) result exits (stmt.If test.0 body (Some other)) (Stmt-F.If test.0 body (Some other)) (outs-If test.0 body (Some other)) right.1 (test_is.expr, tt) (right.0, tt)
            (AlongAll.more (exits, body) ((exits, other) ∷ []) is (AlongAll.more (exits, other) [] also AlongAll.none));
      })

  pub branch_is : (place : Place) (test : Phrase) (body : Within → Step) → IsFormed test → Stands body → (within : Within) → StepIs (exits_of within) (branch place test body within)
  unfolding branch if_head
  branch_is place test body formed stands within env fine has =
      holds_after (λ (head : Test × Env). TestIs env.scene head.0 × (opened env ≡ head.1)) (Did result (exits_of within) env) (if_head test env) (λ head. body (in_part within) head.1 >>= (λ done. if_done place head.0 done.0 None done.1))
      (holds_after (TestIs env.scene) (λ (head : Test × Env). TestIs env.scene head.0 × (opened env ≡ head.1)) (tested test env) (λ t. Ok (t, opened env)) (tested_is env fine test formed) (λ t is. (is, refl)))
      (λ head is. subst (λ (h : Env). Holds (Did result (exits_of within) env) (body (in_part within) h >>= (λ done. if_done place head.0 done.0 None done.1))) is.1
      (holds_after (Did result (exits_of within) (opened env)) (Did result (exits_of within) env) (body (in_part within) (opened env)) (λ done. if_done place head.0 done.0 None done.1) (stands (in_part within) (opened env) (opened_env env fine) has)
      (λ done did. if_is (exits_of within) env place head.0 done.0 done.1 did.env did.grows (test_grows env.scene done.1.scene fine.scene did.grows head.0 is.0) did.stmt)))

  pub branches_is : (place : Place) (test : Phrase) (body other : Within → Step) → IsFormed test → Stands body → Stands other → (within : Within) → StepIs (exits_of within) (branches place test body other within)
  unfolding branches if_head
  branches_is place test body other formed stands also within env fine has =
      holds_after (λ (head : Test × Env). TestIs env.scene head.0 × (opened env ≡ head.1)) (Did result (exits_of within) env) (if_head test env)
      (λ head. body (in_part within) head.1 >>= (λ done. other (in_part within) (opened (closed done.1)) >>= (λ last. if_done place head.0 done.0 (Some last.0) last.1)))
      (holds_after (TestIs env.scene) (λ (head : Test × Env). TestIs env.scene head.0 × (opened env ≡ head.1)) (tested test env) (λ t. Ok (t, opened env)) (tested_is env fine test formed) (λ t is. (is, refl)))
      (λ head is. subst (λ (h : Env). Holds (Did result (exits_of within) env) (body (in_part within) h >>= (λ done. other (in_part within) (opened (closed done.1)) >>= (λ last. if_done place head.0 done.0 (Some last.0) last.1)))) is.1
      (holds_after (Did result (exits_of within) (opened env)) (Did result (exits_of within) env) (body (in_part within) (opened env)) (λ done. other (in_part within) (opened (closed done.1)) >>= (λ last. if_done place head.0 done.0 (Some last.0) last.1))
      (stands (in_part within) (opened env) (opened_env env fine) has)
      (λ done did. holds_after (Did result (exits_of within) (opened (closed done.1))) (Did result (exits_of within) env) (other (in_part within) (opened (closed done.1))) (λ last. if_done place head.0 done.0 (Some last.0) last.1)
      (also (in_part within) (opened (closed done.1)) (opened_env (closed done.1) (closed_env done.1 did.env)) (keeps_result (opened env) done.1 did.grows has))
      (λ last more.
      let grows = grows_then env.scene done.1.scene last.1.scene did.grows more.grows in
      if_else_is (exits_of within) env place head.0 done.0 last.0 last.1 more.env grows (test_grows env.scene last.1.scene fine.scene grows head.0 is.0)
      (stmt_grows done.1.scene last.1.scene did.env.scene more.grows result (exits_of within) done.0 did.stmt) more.stmt))))
