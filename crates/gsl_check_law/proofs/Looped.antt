-- What loops stand for is well typed.
use Rattle.std.proofs.Common.{refl, [], ◌∷◌, Option, Some, None, true, false, IsTrue, Ok}
use Rattle.gsl_base.specs.Checked.{◌>>=◌}
use Rattle.gsl_base.specs.declared.fault.Place.{Place}
use Rattle.gsl_syntax.specs.declared.expr.Expr.{Expr as Phrase}
use Rattle.gsl_syntax.specs.declared.statement.ForInit.{ForInit}
use Rattle.gsl_syntax.specs.declared.statement.ForInit.TheVariants as for_init
use Rattle.gsl_types.specs.declared.ty.Ty.{Ty}
use Rattle.gsl_tree.specs.declared.expr.Expr.{Expr}
use Rattle.gsl_tree.specs.declared.stmt.Stmt.{Stmt}
use Rattle.gsl_tree.specs.declared.stmt.Stmt.TheOpen.{Stmt-F}
use Rattle.gsl_tree.specs.declared.stmt.Stmt.TheVariants as stmt
use Rattle.gsl_tree.specs.declared.stmt.Stmt.TheVariants.{outs-Eval, outs-Group, outs-Loop}
use Rattle.gsl_tree.specs.Trees.{Exits, AlongAll}
use Rattle.gsl_tree.specs.Trees as trees
use Rattle.gsl_typing.specs.declared.scene.Scene.{Scene}
use Rattle.gsl_typing.specs.Scene.{around}
use Rattle.gsl_check_expr.specs.declared.env.Env.{Env}
use Rattle.gsl_check_decl.specs.Declarations.{declaration}
use Rattle.gsl_check_decl.specs.Steps.{Step, opened, closed}
use Rattle.gsl_check_decl.proofs.Gathering.{Holds, holds_after}
use Rattle.gsl_check_stmt.specs.declared.within.Within.{Within}
use Rattle.gsl_check_stmt.specs.Rules.{unless_wrong}
use Rattle.gsl_check_stmt.specs.Statements.{Test, Head, tested, tested_if, eval, eval_if, header, behind_header, while_head, for_head, loop_of, loop_done, looped, behind_body, do_loop, in_loop}
use Rattle.gsl_formed.specs.Formed.{IsFormed, formed_if, init_part_formed}
use Rattle.gsl_check_law.specs.Labels.{exits_of}
use Rattle.gsl_check_law.specs.Scenes.{IsScene, IsEnv}
use Rattle.gsl_check_law.proofs.Longer.{Grows, grows_itself, grows_then}
use Rattle.gsl_check_law.proofs.Standing.{stmt_grows}
use Rattle.gsl_check_law.proofs.Declarators.{Did, stmt_at, declaration_typed}
use Rattle.gsl_check_law.proofs.Stated.{opened_env, closed_env, Readable, TestIs, TestIfIs, StepIfIs, test_if_grows, step_if_grows, tested_is, tested_if_is, eval_reads, eval_if_is, unless_holds, HasResult, keeps_result, StepIs, Stands}
use Rattle.gsl_tree.specs.Statements.{IsStmt}

module _ (result : Ty) (within : Within) where
  abbrev exits : Exits
  exits = exits_of within

  abbrev FirstIs : Scene → Option Stmt → Type 0
  FirstIs scene None = Unit {0}
  FirstIs scene (Some s) = IsStmt (around scene) result exits s

  first_grows : (s t : Scene) → IsScene s → Grows s t → (x : Option Stmt) → FirstIs s x → FirstIs t x
  first_grows s t fine grows None is = tt
  first_grows s t fine grows (Some x) is = stmt_grows s t fine grows result exits x is

  -- what stands first in the header of a `for`
  record FirstDid (before : Env) (done : Option Stmt × Env) : Type 0 where
    env : IsEnv done.1
    grows : Grows before.scene done.1.scene
    first : FirstIs done.1.scene done.0

  header_is : (env : Env) → IsEnv env → (init : ForInit) → IsTrue (init_part_formed init) → Holds (FirstDid env) (header init env)
  unfolding header
  header_is env fine (for_init.Empty place) formed = record { env = fine; grows = grows_itself env.scene; first = tt }
  header_is env fine (for_init.Expr e) formed =
      holds_after (Readable env.scene) (FirstDid env) (eval e env) (λ x. Ok (Some (stmt.Eval x), env)) (eval_reads env fine e formed)
      (λ x is. record { env = fine; grows = grows_itself env.scene; first = stmt_at (around env.scene) result exits (stmt.Eval x) (Stmt-F.Eval x) (outs-Eval x) tt (is.0, tt) (is.1, tt) AlongAll.none })
  header_is env fine (for_init.Decl d) formed =
      holds_after (Did result exits env) (FirstDid env) (declaration d env) (λ done. Ok (Some done.0, done.1)) (declaration_typed result exits env fine d formed)
      (λ done did. record { env = did.env; grows = did.grows; first = did.stmt })

  -- the header of a loop
  record HeadIs (before : Env) (head : Head) : Type 0 where
    env : IsEnv head.3
    grows : Grows before.scene head.3.scene
    first : FirstIs head.3.scene head.0
    test : TestIfIs head.3.scene head.1
    step : StepIfIs head.3.scene head.2

  while_head_is : (env : Env) → IsEnv env → (test : Phrase) → IsFormed test → Holds (HeadIs env) (while_head test env)
  unfolding while_head
  while_head_is env fine test formed =
      holds_after (TestIs env.scene) (HeadIs env) (tested test (opened env)) (λ t. Ok (None, Some t, None, opened env)) (tested_is (opened env) (opened_env env fine) test formed)
      (λ t is. record { env = opened_env env fine; grows = grows_itself env.scene; first = tt; test = is; step = tt })

  for_head_is : (env : Env) → IsEnv env → (init : ForInit) (test step : Option Phrase) → IsTrue (init_part_formed init) → IsTrue (formed_if test) → IsTrue (formed_if step) → Holds (HeadIs env) (for_head init test step env)
  unfolding for_head
  for_head_is env fine init test step formed test_formed step_formed =
      holds_after (FirstDid (opened env)) (HeadIs env) (header init (opened env)) (λ first. tested_if test first.1 >>= (λ t. eval_if step first.1 >>= (λ s. Ok (first.0, t, s, first.1)))) (header_is (opened env) (opened_env env fine) init formed)
      (λ first did. holds_after (TestIfIs first.1.scene) (HeadIs env) (tested_if test first.1) (λ t. eval_if step first.1 >>= (λ s. Ok (first.0, t, s, first.1))) (tested_if_is first.1 did.env test test_formed)
      (λ t test_is. holds_after (StepIfIs first.1.scene) (HeadIs env) (eval_if step first.1) (λ s. Ok (first.0, t, s, first.1)) (eval_if_is first.1 did.env step step_formed)
      (λ s step_is. record { env = did.env; grows = did.grows; first = did.first; test = test_is; step = step_is })))

  -- ---- the loop

  loop_is : (scene : Scene) (place : Place) (test : Option Test) (step : Option Expr) (body : Stmt) → TestIfIs scene test → StepIfIs scene step → IsStmt (around scene) result trees.in_loop body
      → Holds (λ (s : Stmt). IsStmt (around scene) result exits s) (loop_of place test step body)
  unfolding loop_of
  loop_is scene place None None body test_is step_is is = stmt_at (around scene) result exits (stmt.Loop None None body false) (Stmt-F.Loop None None body false) (outs-Loop None None body false) tt tt tt (AlongAll.more (trees.in_loop, body) [] is AlongAll.none)
  loop_is scene place None (Some e) body test_is step_is is =
      stmt_at (around scene) result exits (stmt.Loop None (Some e) body false) (Stmt-F.Loop None (Some e) body false) (outs-Loop None (Some e) body false) tt (step_is.0, tt) (step_is.1, tt) (AlongAll.more (trees.in_loop, body) [] is AlongAll.none)
  loop_is scene place (Some t) None body test_is step_is is =
      unless_holds (λ (s : Stmt). IsStmt (around scene) result exits s) place t.1 (Ok (stmt.Loop (Some t.0) None body false))
      (λ none.
      let right = test_is.right none in
      stmt_at (around scene) result exits (stmt.Loop (Some t.0) None body false) (Stmt-F.Loop (Some t.0) None body false) (outs-Loop (Some t.0) None body false) right.1 (test_is.expr, tt) (right.0, tt) (AlongAll.more (trees.in_loop, body) [] is AlongAll.none))
  loop_is scene place (Some t) (Some e) body test_is step_is is =
      unless_holds (λ (s : Stmt). IsStmt (around scene) result exits s) place t.1 (Ok (stmt.Loop (Some t.0) (Some e) body false))
      (λ none.
      let right = test_is.right none in
      stmt_at (around scene) result exits (stmt.Loop (Some t.0) (Some e) body false) (Stmt-F.Loop (Some t.0) (Some e) body false) (outs-Loop (Some t.0) (Some e) body false) right.1 (test_is.expr, (step_is.0, tt)) (right.0, (step_is.1, tt)) (AlongAll.more (trees.in_loop, body) [] is AlongAll.none))

  behind_is : (scene : Scene) (first : Option Stmt) (loop : Stmt) → FirstIs scene first → IsStmt (around scene) result exits loop → IsStmt (around scene) result exits (behind_header first loop)
  behind_is scene None loop first_is is = is
  behind_is scene (Some s) loop first_is is =
      stmt_at (around scene) result exits (stmt.Group (s ∷ loop ∷ [])) (Stmt-F.Group (s ∷ loop ∷ [])) (outs-Group (s ∷ loop ∷ [])) tt tt tt (AlongAll.more (exits, s) ((exits, loop) ∷ []) first_is (AlongAll.more (exits, loop) [] is AlongAll.none))

  looped_is : (env : Env) (place : Place) (body : Within → Step) (head : Head) → Stands result body → HasResult result head.3 → HeadIs env head → Holds (Did result exits env) (looped place body head)
  unfolding looped loop_done
  looped_is env place body head stands has is =
      holds_after (Did result trees.in_loop head.3) (Did result exits env) (body in_loop head.3) (λ done. loop_done place head.0 head.1 head.2 done.0 done.1) (stands in_loop head.3 is.env has)
      (λ done did.
      let s = head.3.scene in
      let t = done.1.scene in
      holds_after (λ (x : Stmt). IsStmt (around t) result exits x) (Did result exits env) (loop_of place head.1 head.2 done.0) (λ x. Ok (behind_header head.0 x, closed done.1))
      (loop_is t place head.1 head.2 done.0 (test_if_grows s t is.env.scene did.grows head.1 is.test) (step_if_grows s t is.env.scene did.grows head.2 is.step) did.stmt)
      (λ x loop. record { env = closed_env done.1 did.env; grows = grows_then env.scene s t is.grows did.grows; stmt = behind_is t head.0 x (first_grows s t is.env.scene did.grows head.0 is.first) loop }))

  pub while_is : (place : Place) (test : Phrase) (body : Within → Step) → IsFormed test → Stands result body → StepIs result exits (λ env. while_head test env >>= looped place body)
  while_is place test body formed stands env fine has =
      holds_after (HeadIs env) (Did result exits env) (while_head test env) (looped place body) (while_head_is env fine test formed) (λ head is. looped_is env place body head stands (keeps_result result env head.3 is.grows has) is)

  pub for_is : (place : Place) (init : ForInit) (test step : Option Phrase) (body : Within → Step) → IsTrue (init_part_formed init) → IsTrue (formed_if test) → IsTrue (formed_if step) → Stands result body
      → StepIs result exits (λ env. for_head init test step env >>= looped place body)
  for_is place init test step body a b c stands env fine has =
      holds_after (HeadIs env) (Did result exits env) (for_head init test step env) (looped place body) (for_head_is env fine init test step a b c) (λ head is. looped_is env place body head stands (keeps_result result env head.3 is.grows has) is)

  pub do_is : (place : Place) (body : Within → Step) (test : Phrase) → IsFormed test → Stands result body → StepIs result exits (do_loop place body test)
  unfolding do_loop behind_body
  do_is place body test formed stands env fine has =
      holds_after (Did result trees.in_loop (opened env)) (Did result exits env) (body in_loop (opened env)) (λ done. behind_body place test done.0 (closed done.1)) (stands in_loop (opened env) (opened_env env fine) has)
      (λ done did.
      let after = closed done.1 in
      holds_after (TestIs after.scene) (Did result exits env) (tested test after) (λ t. unless_wrong place t.1 (Ok (stmt.Loop (Some t.0) None done.0 true, after))) (tested_is after (closed_env done.1 did.env) test formed)
      (λ t is. unless_holds (Did result exits env) place t.1 (Ok (stmt.Loop (Some t.0) None done.0 true, after))
      (λ none.
      let right = is.right none in
      record {
        env = closed_env done.1 did.env;
        grows = did.grows;
        stmt = stmt_at (around after.scene) result exits (stmt.Loop (Some t.0) None done.0 true) (Stmt-F.Loop (Some t.0) None done.0 true) (outs-Loop (Some t.0) None done.0 true) (refl, refl, right.1) (is.expr, tt) (right.0, tt)
            (AlongAll.more (trees.in_loop, done.0) [] did.stmt AlongAll.none);
      })))
