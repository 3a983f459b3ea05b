-- A statement that stands for live tokens is formed as the grammar forms it, and so is a unit.
use Rattle.std.proofs.Common.{refl, ◌∙◌, Bool, ◌&&◌, IsTrue, List}
use Rattle.std.specs.List.{list_all}
use Rattle.gsl_syntax.specs.declared.statement.Stmt.{Stmt}
use Rattle.gsl_syntax.specs.declared.statement.Function.{Function}
use Rattle.gsl_syntax.specs.declared.statement.Global.{Global}
use Rattle.gsl_syntax.specs.Phrases.{Tokens}
use Rattle.gsl_syntax.specs.Statements.{IsForInit, IsOptional, IsStmt, IsStmts}
use Rattle.gsl_syntax.specs.Sentences.{IsParam, IsParams, IsBody, IsFunction, IsGlobal, IsUnit}
use Rattle.gsl_formed.specs.Formed.{init_part_formed, formed_if, stmt_formed, param_formed, params_formed, head_formed, body_formed, global_formed, IsFormedUnit}
use Rattle.gsl_parse_law.specs.Live.{AreLive}
use Rattle.gsl_formed.proofs.Layers as at
use Rattle.gsl_parse_law.proofs.Phrases.{both, all_of, Live, first, behind, split, expr_formed, type_formed, sizes_formed}
use Rattle.gsl_parse_law.proofs.Declarations.{Tests, commas_all, row_all, variables_formed, local_formed, decl_is_formed}

for_init_formed : Tests IsForInit init_part_formed
for_init_formed _ _ IsForInit.empty live = refl
for_init_formed _ _ (IsForInit.expr {xs = xs} q y) live = expr_formed y (split xs live).0
for_init_formed _ _ (IsForInit.decl y) live = variables_formed _ _ y live

optional_formed : Tests IsOptional formed_if
optional_formed _ _ IsOptional.none live = refl
optional_formed _ _ (IsOptional.some y) live = expr_formed y live

mutual
  pub stmt_is_formed : {k : Bool} {s : Stmt} {xs : Tokens} → IsStmt k s xs → Live xs → IsTrue (stmt_formed s)
  stmt_is_formed (IsStmt.empty {p = p}) live = at.stmt_Empty p
  stmt_is_formed (IsStmt.block {p = p} {bs = bs} {xs = xs} q y) live = at.stmt_Block p bs ∙ all_of stmt_formed bs (stmts_formed y (split xs (behind live)).0)
  stmt_is_formed (IsStmt.decl {d = d} y) live = at.stmt_Decl d ∙ local_formed _ _ y live
  stmt_is_formed (IsStmt.expr {a = a} {xs = xs} q y) live = at.stmt_Expr a ∙ expr_formed y (split xs live).0
  stmt_is_formed (IsStmt.if_alone {p = p} {a = a} {b = b} {xs = xs} o c y z) live =
      let parts = split xs (behind (behind live)) in at.stmt_If p a b ∙ both (expr_formed y parts.0) (stmt_is_formed z (behind parts.1))
  stmt_is_formed (IsStmt.if_else {p = p} {a = a} {b = b} {d = d} {xs = xs} {ys = ys} o c m y z w) live =
      let parts = split xs (behind (behind live)) in
      let more = split ys (behind parts.1) in
      at.stmt_IfElse p a b d ∙ both (expr_formed y parts.0) (both (stmt_is_formed z more.0) (stmt_is_formed w (behind more.1)))
  stmt_is_formed (IsStmt.switch {p = p} {a = a} {bs = bs} {xs = xs} {ys = ys} o c m q y z) live =
      let parts = split xs (behind (behind live)) in
      at.stmt_Switch p a bs ∙ both (expr_formed y parts.0) (all_of stmt_formed bs (stmts_formed z (split ys (behind (behind parts.1))).0))
  stmt_is_formed (IsStmt.case {p = p} {a = a} {xs = xs} q y) live = at.stmt_Case p a ∙ expr_formed y (split xs (behind live)).0
  stmt_is_formed (IsStmt.default {p = p} q) live = at.stmt_Default p
  stmt_is_formed (IsStmt.while {p = p} {a = a} {b = b} {xs = xs} o c y z) live =
      let parts = split xs (behind (behind live)) in at.stmt_While p a b ∙ both (expr_formed y parts.0) (stmt_is_formed z (behind parts.1))
  stmt_is_formed (IsStmt.do_while {p = p} {a = a} {b = b} {xs = xs} {ys = ys} w o c q y z) live =
      let parts = split xs (behind live) in
      at.stmt_Do p b a ∙ both (stmt_is_formed y parts.0) (expr_formed z (split ys (behind (behind parts.1))).0)
  stmt_is_formed (IsStmt.for_loop {p = p} {i = i} {a = a} {b = b} {d = d} {ws = ws} {xs = xs} {ys = ys} o m c v y z w) live =
      let parts = split ws (behind (behind live)) in
      let more = split xs parts.1 in
      let last = split ys (behind more.1) in
      at.stmt_For p i a b d ∙ both (for_init_formed _ _ v parts.0) (both (optional_formed _ _ y more.0) (both (optional_formed _ _ z last.0) (stmt_is_formed w (behind last.1))))
  stmt_is_formed (IsStmt.break_out {p = p} q) live = at.stmt_Break p
  stmt_is_formed (IsStmt.continue_on {p = p} q) live = at.stmt_Continue p
  stmt_is_formed (IsStmt.discard {p = p} q) live = at.stmt_Discard p
  stmt_is_formed (IsStmt.return_alone {p = p} q) live = at.stmt_Return p
  stmt_is_formed (IsStmt.return_value {p = p} {a = a} {xs = xs} q y) live = at.stmt_ReturnValue p a ∙ expr_formed y (split xs (behind live)).0

  stmts_formed : {bs : List Stmt} {xs : Tokens} → IsStmts bs xs → Live xs → IsTrue (list_all stmt_formed bs)
  stmts_formed IsStmts.done live = refl
  stmts_formed (IsStmts.next {xs = xs} y z) live = let parts = split xs live in both (stmt_is_formed y parts.0) (stmts_formed z parts.1)

-- ---- units

param_is_formed : Tests IsParam param_formed
param_is_formed _ _ (IsParam.without_name {xs = xs} w y) live = type_formed y (split xs live).1
param_is_formed _ _ (IsParam.with_name {xs = xs} {ys = ys} w y z) live =
    let parts = split ys (split xs live).1 in both (type_formed y parts.0) (sizes_formed z (behind parts.1))

params_are_formed : Tests IsParams params_formed
params_are_formed _ _ IsParams.none live = refl
params_are_formed _ _ IsParams.void live = refl
params_are_formed _ _ (IsParams.items y apart) live = commas_all param_is_formed y live

body_is_formed : Tests IsBody body_formed
body_is_formed _ _ IsBody.prototype live = refl
body_is_formed _ _ (IsBody.block {xs = xs} q y) live = stmts_formed y (split xs (behind live)).0

function_formed : {f : Function} {xs : Tokens} → IsFunction f xs → Live xs → IsTrue (head_formed f && body_formed f.body)
function_formed (IsFunction.function {us = us} {xs = xs} {ys = ys} o c v w y z) live =
    let parts = split xs (split us live).1 in
    let more = split ys (behind (behind parts.1)) in
    both (both (first parts.1) (both (type_formed w parts.0) (params_are_formed _ _ y more.0))) (body_is_formed _ _ z (behind more.1))

global_is_formed : Tests IsGlobal global_formed
global_is_formed _ _ IsGlobal.empty live = refl
global_is_formed _ _ (IsGlobal.decl y) live = decl_is_formed _ _ y live
global_is_formed _ _ (IsGlobal.function y) live = function_formed y live

-- A unit of live tokens is formed.
pub unit_is_formed : {us : List Global} {ts : Tokens} → IsUnit us ts → AreLive ts → IsFormedUnit us
unit_is_formed y live = row_all global_is_formed y (record { all = live })
