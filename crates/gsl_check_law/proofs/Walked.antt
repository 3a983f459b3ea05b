-- What statements stand for is well typed, by the fold of the syntax tree.
use Rattle.std.proofs.Common.{sym, ◌∙◌, subst, List, [], ◌∷◌, map, Bool, ◌&&◌, IsTrue}
use Rattle.std.specs.List.{AllByRecursion}
use Rattle.std.proofs.lemmas.Bool.{and_parts}
use Rattle.gsl_syntax.specs.declared.statement.Stmt.{Stmt as Syntax}
use Rattle.gsl_syntax.specs.declared.statement.Stmt.TheOpen.{Stmt-F}
use Rattle.gsl_syntax.specs.declared.statement.Stmt.TheViews.{roll-Stmt, roll-out-Stmt, out-Stmt as out-Syntax}
use Rattle.gsl_syntax.specs.declared.statement.Stmt.TheFolds.{fold-roll-Stmt, ind-Stmt, map-Stmt}
use Rattle.gsl_types.specs.declared.ty.Ty.{Ty}
use Rattle.gsl_check_expr.specs.declared.env.Env.{Env}
use Rattle.gsl_check_decl.proofs.Gathering.{Holds}
use Rattle.gsl_check_stmt.specs.declared.within.Within.{Within}
use Rattle.gsl_check_stmt.specs.Statements.{Answer, answer, statement, statements, by_parts, in_row, in_switch}
use Rattle.gsl_formed.specs.Formed.{all_formed, stmt_formed_by, stmt_formed, IsFormedStmt, is_formed, init_part_formed, formed_if}
use Rattle.gsl_check_law.specs.Labels.{exits_of}
use Rattle.gsl_check_law.specs.Scenes.{IsEnv}
use Rattle.gsl_check_law.proofs.Declarators.{DidAll, turns, declaration_typed}
use Rattle.gsl_check_law.proofs.Stated.{HasResult, keeps_result, StepIs, Stands, empty_is, evaluated_is, broken_is, continued_is, discarded_is, returned_is, return_is, stray_is, default_is, block_is, branch_is, branches_is}
use Rattle.gsl_check_law.proofs.Looped.{while_is, for_is, do_is}
use Rattle.gsl_check_law.proofs.Switching.{LabelIs, switch_is}

module _ (result : Ty) where
  abbrev AnswerIs : Answer → Type 0
  AnswerIs a = Stands result a.step

  abbrev Sound : Syntax → Type 0
  Sound s = IsFormedStmt s → AnswerIs (answer result s)

  abbrev Child : Type 0
  Child = (s : Syntax) × Sound s

  abbrev tree_of : Child → Syntax
  tree_of c = c.0

  opens : (x : Stmt-F Syntax) → AnswerIs (by_parts result (map-Stmt Syntax Answer (answer result) x)) → AnswerIs (answer result (roll-Stmt x))
  unfolding answer
  opens x is = subst AnswerIs (sym (fold-roll-Stmt Answer (by_parts result) x)) is

  formed : (x : Stmt-F Syntax) → IsFormedStmt (roll-Stmt x) → IsTrue (stmt_formed_by (map-Stmt Syntax Bool stmt_formed x))
  unfolding stmt_formed
  formed x is = sym (fold-roll-Stmt Bool stmt_formed_by x) ∙ is

  label_by : (within : Within) (x : Stmt-F Syntax) → IsTrue (stmt_formed_by (map-Stmt Syntax Bool stmt_formed x)) → LabelIs result within (by_parts result (map-Stmt Syntax Answer (answer result) x)).label
  label_by within (Stmt-F.Case place e) is = is
  label_by within (Stmt-F.Empty place) is = tt
  label_by within (Stmt-F.Block place all) is = tt
  label_by within (Stmt-F.Decl d) is = tt
  label_by within (Stmt-F.Expr e) is = tt
  label_by within (Stmt-F.If place test body) is = tt
  label_by within (Stmt-F.IfElse place test body other) is = tt
  label_by within (Stmt-F.Switch place e all) is = tt
  label_by within (Stmt-F.Default place) is = tt
  label_by within (Stmt-F.While place test body) is = tt
  label_by within (Stmt-F.Do place body test) is = tt
  label_by within (Stmt-F.For place init test step body) is = tt
  label_by within (Stmt-F.Break place) is = tt
  label_by within (Stmt-F.Continue place) is = tt
  label_by within (Stmt-F.Discard place) is = tt
  label_by within (Stmt-F.Return place) is = tt
  label_by within (Stmt-F.ReturnValue place e) is = tt

  label_at : (within : Within) (x : Stmt-F Syntax) → IsFormedStmt (roll-Stmt x) → LabelIs result within (answer result (roll-Stmt x)).label
  unfolding answer
  label_at within x is = subst (λ (a : Answer). LabelIs result within a.label) (sym (fold-roll-Stmt Answer (by_parts result) x)) (label_by within x (formed x is))

  label_is : (within : Within) (s : Syntax) → IsFormedStmt s → LabelIs result within (answer result s).label
  label_is within s is = subst (λ (z : Syntax). LabelIs result within (answer result z).label) (roll-out-Stmt s) (label_at within (out-Syntax s) (subst IsFormedStmt (sym (roll-out-Stmt s)) is))

  rows : (within : Within) (children : List Child) → IsTrue (all_formed (map stmt_formed (map tree_of children))) → AllByRecursion (StepIs result (exits_of within)) (map (λ (a : Answer). a.step (in_row within)) (map (answer result) (map tree_of children)))
  rows within [] is = tt
  rows within (c ∷ children) is =
      let parts = and_parts (stmt_formed c.0) (all_formed (map stmt_formed (map tree_of children))) is in
      (c.1 parts.0 (in_row within), rows within children parts.1)

  all_switched : (within : Within) (children : List Child) → IsTrue (all_formed (map stmt_formed (map tree_of children))) → AllByRecursion (λ (a : Answer). StepIs result (exits_of (in_switch within)) (a.step (in_switch within)) × LabelIs result within a.label) (map (answer result) (map tree_of children))
  all_switched within [] is = tt
  all_switched within (c ∷ children) is =
      let parts = and_parts (stmt_formed c.0) (all_formed (map stmt_formed (map tree_of children))) is in
      ((c.1 parts.0 (in_switch within), label_is within c.0 parts.0), all_switched within children parts.1)

  by_layer : (y : Stmt-F Child) → Sound (roll-Stmt (map-Stmt Child Syntax tree_of y))
  by_layer (Stmt-F.Empty place) is = opens (Stmt-F.Empty place) (λ within. empty_is result within)
  by_layer (Stmt-F.Block place children) is =
      opens (Stmt-F.Block place (map tree_of children)) (λ within. block_is result within (map (λ (a : Answer). a.step (in_row within)) (map (answer result) (map tree_of children))) (rows within children (formed (Stmt-F.Block place (map tree_of children)) is)))
  by_layer (Stmt-F.Decl d) is = opens (Stmt-F.Decl d) (λ within env fine has. declaration_typed result (exits_of within) env fine d (formed (Stmt-F.Decl d) is))
  by_layer (Stmt-F.Expr e) is = opens (Stmt-F.Expr e) (λ within. evaluated_is result within e (formed (Stmt-F.Expr e) is))
  by_layer (Stmt-F.If place test body) is =
      let parts = and_parts (is_formed test) (stmt_formed body.0) (formed (Stmt-F.If place test body.0) is) in
      opens (Stmt-F.If place test body.0) (branch_is result place test (answer result body.0).step parts.0 (body.1 parts.1))
  by_layer (Stmt-F.IfElse place test body other) is =
      let front = and_parts (is_formed test) (stmt_formed body.0 && stmt_formed other.0) (formed (Stmt-F.IfElse place test body.0 other.0) is) in
      let parts = and_parts (stmt_formed body.0) (stmt_formed other.0) front.1 in
      opens (Stmt-F.IfElse place test body.0 other.0) (branches_is result place test (answer result body.0).step (answer result other.0).step front.0 (body.1 parts.0) (other.1 parts.1))
  by_layer (Stmt-F.Switch place e children) is =
      let parts = and_parts (is_formed e) (all_formed (map stmt_formed (map tree_of children))) (formed (Stmt-F.Switch place e (map tree_of children)) is) in
      opens (Stmt-F.Switch place e (map tree_of children)) (λ within. switch_is result within place e (map (answer result) (map tree_of children)) parts.0 (all_switched within children parts.1))
  by_layer (Stmt-F.Case place e) is = opens (Stmt-F.Case place e) (λ within. stray_is result within place e)
  by_layer (Stmt-F.Default place) is = opens (Stmt-F.Default place) (λ within. default_is result within place)
  by_layer (Stmt-F.While place test body) is =
      let parts = and_parts (is_formed test) (stmt_formed body.0) (formed (Stmt-F.While place test body.0) is) in
      opens (Stmt-F.While place test body.0) (λ within. while_is result within place test (answer result body.0).step parts.0 (body.1 parts.1))
  by_layer (Stmt-F.Do place body test) is =
      let parts = and_parts (stmt_formed body.0) (is_formed test) (formed (Stmt-F.Do place body.0 test) is) in
      opens (Stmt-F.Do place body.0 test) (λ within. do_is result within place (answer result body.0).step test parts.1 (body.1 parts.0))
  by_layer (Stmt-F.For place init test step body) is =
      let a = and_parts (init_part_formed init) (formed_if test && (formed_if step && stmt_formed body.0)) (formed (Stmt-F.For place init test step body.0) is) in
      let b = and_parts (formed_if test) (formed_if step && stmt_formed body.0) a.1 in
      let c = and_parts (formed_if step) (stmt_formed body.0) b.1 in
      opens (Stmt-F.For place init test step body.0) (λ within. for_is result within place init test step (answer result body.0).step a.0 b.0 c.0 (body.1 c.1))
  by_layer (Stmt-F.Break place) is = opens (Stmt-F.Break place) (λ within. broken_is result within place)
  by_layer (Stmt-F.Continue place) is = opens (Stmt-F.Continue place) (λ within. continued_is result within place)
  by_layer (Stmt-F.Discard place) is = opens (Stmt-F.Discard place) (λ within. discarded_is result within place)
  by_layer (Stmt-F.Return place) is = opens (Stmt-F.Return place) (λ within. returned_is result within place)
  by_layer (Stmt-F.ReturnValue place e) is = opens (Stmt-F.ReturnValue place e) (λ within. return_is result within place e (formed (Stmt-F.ReturnValue place e) is))

  pub statement_is : (s : Syntax) → IsFormedStmt s → Stands result (statement result s)
  statement_is = ind-Stmt Sound (λ x y is. subst (λ z. Sound (roll-Stmt z)) is (by_layer y))

  all_stand : (within : Within) (all : List Syntax) → AllByRecursion IsFormedStmt all → AllByRecursion (StepIs result (exits_of within)) (map (λ s. statement result s within) all)
  all_stand within [] is = tt
  all_stand within (s ∷ all) is = (statement_is s is.0 within, all_stand within all is.1)

  -- what statements in a row stand for is well typed
  pub statements_are : (all : List Syntax) (within : Within) → AllByRecursion IsFormedStmt all → (env : Env) → IsEnv env → HasResult result env → Holds (DidAll result (exits_of within) env) (statements result all within env)
  statements_are all within is env fine has = turns result (exits_of within) (HasResult result) (keeps_result result) (map (λ s. statement result s within) all) (all_stand within all is) env fine has
