-- Statements that the grammar derives are read.
use Rattle.std.proofs.Common.{◌≡◌, refl, sym, ap, ◌∙◌, ◌⊎◌, inl, inr, ℕ, zero, suc, ◌≤◌, ◌<◌, Bool, true, false, List, [], ◌∷◌, ◌++◌, length, Ok, append_assoc, append-nil, length-append, arith}
use Rattle.gsl_base.specs.declared.fault.Place.{Place}
use Rattle.gsl_base.specs.declared.token.Punct.TheVariants as punct
use Rattle.gsl_base.specs.declared.token.Key.{Key}
use Rattle.gsl_base.specs.declared.token.Key.TheVariants as key
use Rattle.gsl_base.specs.declared.token.Kind.TheVariants as kind
use Rattle.gsl_syntax.specs.declared.declaration.Qual.{Qual}
use Rattle.gsl_syntax.specs.declared.declaration.Decl.{Decl}
use Rattle.gsl_syntax.specs.declared.declaration.Decl.TheVariants as decl
use Rattle.gsl_syntax.specs.declared.statement.ForInit.TheVariants as for_init
use Rattle.gsl_syntax.specs.declared.statement.Stmt.{Stmt}
use Rattle.gsl_syntax.specs.declared.statement.Stmt.TheVariants as s
use Rattle.gsl_syntax.specs.Phrases.{token, sign, word}
use Rattle.gsl_syntax.specs.Declarations.{Row, IsQual, IsVariables, IsStruct, IsLocal}
use Rattle.gsl_syntax.specs.Statements.{IsStmt, IsStmts}
use Rattle.gsl_expr.specs.Rules.{start_at}
use Rattle.gsl_expr.specs.Reading.{Tokens, Parser, is_key, sees, sees_key}
use Rattle.gsl_expr.proofs.Ends.{semicolon_ends, colon_ends}
use Rattle.gsl_expr.proofs.Openings.{is_good, not_right_brace}
use Rattle.gsl_expr.proofs.Standing.{regroup, regroup_two, longer, regroup_behind}
use Rattle.gsl_expr.proofs.Complete.{expr_complete, expr_start, expr_not_semicolon}
use Rattle.gsl_parse.specs.declared.opening.Opening.TheVariants as opening
use Rattle.gsl_parse.specs.Openings.{opening_at}
use Rattle.gsl_parse.specs.Statements.{statements, statements_of, statement_whole, statement}
use Rattle.gsl_parse.proofs.CompleteBegins.{good_opens, good_not_else, type_good, qual_no_sign, begins_local, begins_no_else}
use Rattle.gsl_parse.proofs.CompleteLocals.{end_three, local_complete}
use Rattle.gsl_parse.proofs.CompletePhrases.{more_begin, phrase_variables, phrase_expr, header_complete}
use Rattle.gsl_parse.proofs.CompleteForms.{test_complete, optional_semicolon, optional_right_paren, stmts_close, stmts_step, empty_reads, block_reads, local_reads, phrase_reads, if_reads, alone_reads, else_reads, switch_reads, case_reads, default_reads, while_reads, do_reads, for_reads, break_reads, continue_reads, discard_reads, return_reads, return_value_reads}

-- ---- how a statement begins

-- neither the brace that closes a block nor an `else` stands first
pub record Starts (ts : Tokens) : Type 0 where
  pub shut : sees punct.RightBrace ts ≡ false
  pub other : sees_key key.Else ts ≡ false

starts_at : {ts us : Tokens} → us ≡ ts → Starts ts → Starts us
starts_at e o = record { shut = ap (sees punct.RightBrace) e ∙ o.shut; other = ap (sees_key key.Else) e ∙ o.other }

word_starts : (p : Place) (w : Key) (ts : Tokens) → is_key key.Else (kind.Key w) ≡ false → Starts (word p w ∷ ts)
unfolding sees sees_key
word_starts p w ts h = record { shut = refl; other = h }

semicolon_starts : (p : Place) (ts : Tokens) → Starts (sign p punct.Semicolon ∷ ts)
unfolding sees sees_key
semicolon_starts p ts = record { shut = refl; other = refl }

brace_starts : (p : Place) (ts : Tokens) → Starts (sign p punct.LeftBrace ∷ ts)
unfolding sees sees_key
brace_starts p ts = record { shut = refl; other = refl }

good_starts : (ts : Tokens) → is_good (start_at ts) ≡ true → Starts ts
good_starts ts h = record { shut = not_right_brace ts h; other = good_not_else ts h }

qual_starts : {q : Qual} {us : Tokens} → IsQual q us → (vs rest : Tokens) → Starts ((us ++ vs) ++ rest)
qual_starts {us = us} x vs rest = record {
  shut = ap (sees punct.RightBrace) (append_assoc us vs rest) ∙ qual_no_sign x punct.RightBrace (vs ++ rest);
  other = begins_no_else ((us ++ vs) ++ rest) (more_begin x vs rest);
}

struct_starts : {a : _} {xs : Tokens} → IsStruct a xs → (rest : Tokens) → Starts (xs ++ rest)
struct_starts (IsStruct.struct {p = p} {q = q} {n = n} {xs = xs} o c x) rest = word_starts p key.Struct (token q (kind.Name n) ∷ (sign o punct.LeftBrace ∷ ((xs ++ sign c punct.RightBrace ∷ []) ++ rest))) refl

local_starts : {a : Decl} {xs : Tokens} → IsLocal a xs → (rest : Tokens) → Starts (xs ++ rest)
local_starts (IsLocal.variables (IsVariables.variables {ys = ys} {zs = zs} q Row.done x y)) rest =
    let us = zs ++ sign q punct.Semicolon ∷ rest in
    starts_at (regroup_behind ys zs (sign q punct.Semicolon) [] rest) (good_starts (ys ++ us) (type_good x us))
local_starts (IsLocal.variables (IsVariables.variables {ys = ys} {zs = zs} q (Row.next {xs = vs} {ys = ws} u v) x y)) rest =
    starts_at (end_three (vs ++ ws) ys zs (sign q punct.Semicolon) rest) (qual_starts u ws (ys ++ (zs ++ sign q punct.Semicolon ∷ rest)))
local_starts (IsLocal.struct {ys = ys} {zs = zs} q Row.done x y) rest =
    let us = zs ++ sign q punct.Semicolon ∷ rest in
    starts_at (regroup_behind ys zs (sign q punct.Semicolon) [] rest) (struct_starts x us)
local_starts (IsLocal.struct {ys = ys} {zs = zs} q (Row.next {xs = vs} {ys = ws} u v) x y) rest =
    starts_at (end_three (vs ++ ws) ys zs (sign q punct.Semicolon) rest) (qual_starts u ws (ys ++ (zs ++ sign q punct.Semicolon ∷ rest)))

filled_end : (xs ys zs : Tokens) (q : Place) → 1 ≤ length (xs ++ (ys ++ (zs ++ sign q punct.Semicolon ∷ [])))
filled_end xs ys zs q = omega (arith, length-append xs (ys ++ (zs ++ sign q punct.Semicolon ∷ [])), length-append ys (zs ++ sign q punct.Semicolon ∷ []), length-append zs (sign q punct.Semicolon ∷ []))

pub local_filled : {a : Decl} {xs : Tokens} → IsLocal a xs → 1 ≤ length xs
local_filled (IsLocal.variables (IsVariables.variables {xs = xs} {ys = ys} {zs = zs} q w x y)) = filled_end xs ys zs q
local_filled (IsLocal.struct {xs = xs} {ys = ys} {zs = zs} q w x y) = filled_end xs ys zs q

pub stmt_starts : {k : Bool} {a : Stmt} {xs : Tokens} → IsStmt k a xs → (rest : Tokens) → Starts (xs ++ rest)
stmt_starts (IsStmt.empty {p = p}) rest = semicolon_starts p rest
stmt_starts (IsStmt.block {p = p} {xs = xs} q y) rest = brace_starts p ((xs ++ sign q punct.RightBrace ∷ []) ++ rest)
stmt_starts (IsStmt.decl x) rest = local_starts x rest
stmt_starts (IsStmt.expr {xs = xs} q x) rest =
    let us = sign q punct.Semicolon ∷ rest in
    starts_at (regroup xs (sign q punct.Semicolon) [] rest) (good_starts (xs ++ us) (expr_start x us))
stmt_starts (IsStmt.if_alone {p = p} {xs = xs} {ys = ys} o c x y) rest = word_starts p key.If (sign o punct.LeftParen ∷ ((xs ++ sign c punct.RightParen ∷ ys) ++ rest)) refl
stmt_starts (IsStmt.if_else {p = p} {xs = xs} {ys = ys} {zs = zs} o c m x y z) rest = word_starts p key.If (sign o punct.LeftParen ∷ ((xs ++ sign c punct.RightParen ∷ (ys ++ word m key.Else ∷ zs)) ++ rest)) refl
stmt_starts (IsStmt.switch {p = p} {xs = xs} {ys = ys} o c m q x y) rest =
    word_starts p key.Switch (sign o punct.LeftParen ∷ ((xs ++ sign c punct.RightParen ∷ (sign m punct.LeftBrace ∷ (ys ++ sign q punct.RightBrace ∷ []))) ++ rest)) refl
stmt_starts (IsStmt.case {p = p} {xs = xs} q x) rest = word_starts p key.Case ((xs ++ sign q punct.Colon ∷ []) ++ rest) refl
stmt_starts (IsStmt.default {p = p} q) rest = word_starts p key.Default (sign q punct.Colon ∷ rest) refl
stmt_starts (IsStmt.while {p = p} {xs = xs} {ys = ys} o c x y) rest = word_starts p key.While (sign o punct.LeftParen ∷ ((xs ++ sign c punct.RightParen ∷ ys) ++ rest)) refl
stmt_starts (IsStmt.do_while {p = p} {xs = xs} {ys = ys} w o c q x y) rest =
    word_starts p key.Do ((xs ++ word w key.While ∷ (sign o punct.LeftParen ∷ (ys ++ sign c punct.RightParen ∷ (sign q punct.Semicolon ∷ [])))) ++ rest) refl
stmt_starts (IsStmt.for_loop {p = p} {ws = ws} {xs = xs} {ys = ys} {zs = zs} o m c i x y z) rest =
    word_starts p key.For (sign o punct.LeftParen ∷ ((ws ++ (xs ++ sign m punct.Semicolon ∷ (ys ++ sign c punct.RightParen ∷ zs))) ++ rest)) refl
stmt_starts (IsStmt.break_out {p = p} q) rest = word_starts p key.Break (sign q punct.Semicolon ∷ rest) refl
stmt_starts (IsStmt.continue_on {p = p} q) rest = word_starts p key.Continue (sign q punct.Semicolon ∷ rest) refl
stmt_starts (IsStmt.discard {p = p} q) rest = word_starts p key.Discard (sign q punct.Semicolon ∷ rest) refl
stmt_starts (IsStmt.return_alone {p = p} q) rest = word_starts p key.Return (sign q punct.Semicolon ∷ rest) refl
stmt_starts (IsStmt.return_value {p = p} {xs = xs} q x) rest = word_starts p key.Return ((xs ++ sign q punct.Semicolon ∷ []) ++ rest) refl

pub stmt_filled : {k : Bool} {a : Stmt} {xs : Tokens} → IsStmt k a xs → 1 ≤ length xs
stmt_filled IsStmt.empty = omega arith
stmt_filled (IsStmt.block q y) = omega arith
stmt_filled (IsStmt.decl x) = local_filled x
stmt_filled (IsStmt.expr {xs = xs} q x) = omega (arith, longer xs (sign q punct.Semicolon) [])
stmt_filled (IsStmt.if_alone o c x y) = omega arith
stmt_filled (IsStmt.if_else o c m x y z) = omega arith
stmt_filled (IsStmt.switch o c m q x y) = omega arith
stmt_filled (IsStmt.case q x) = omega arith
stmt_filled (IsStmt.default q) = omega arith
stmt_filled (IsStmt.while o c x y) = omega arith
stmt_filled (IsStmt.do_while w o c q x y) = omega arith
stmt_filled (IsStmt.for_loop o m c i x y z) = omega arith
stmt_filled (IsStmt.break_out q) = omega arith
stmt_filled (IsStmt.continue_on q) = omega arith
stmt_filled (IsStmt.discard q) = omega arith
stmt_filled (IsStmt.return_alone q) = omega arith
stmt_filled (IsStmt.return_value q x) = omega arith

brace_no_else : (q : Place) (rest : Tokens) → sees_key key.Else (sign q punct.RightBrace ∷ rest) ≡ false
unfolding sees_key
brace_no_else q rest = refl

while_no_else : (w : Place) (rest : Tokens) → sees_key key.Else (word w key.While ∷ rest) ≡ false
unfolding sees_key
while_no_else w rest = refl

stmts_no_else : {bs : List Stmt} {xs : Tokens} → IsStmts bs xs → (q : Place) (rest : Tokens) → sees_key key.Else (xs ++ sign q punct.RightBrace ∷ rest) ≡ false
stmts_no_else IsStmts.done q rest = brace_no_else q rest
stmts_no_else (IsStmts.next {xs = xs} {ys = ys} x y) q rest =
    let us = sign q punct.RightBrace ∷ rest in
    let o = stmt_starts x (ys ++ us) in
    ap (sees_key key.Else) (append_assoc xs ys us) ∙ o.other

-- ---- declarations among statements

struct_local : {a : _} {xs : Tokens} → IsStruct a xs → (rest : Tokens) → opening_at (xs ++ rest) ≡ opening.Local
unfolding opening_at
struct_local (IsStruct.struct o c x) rest = refl

local_stmt : {a : Decl} {xs : Tokens} → IsLocal a xs → (d : ℕ) (stmt : Parser Stmt) (rest : Tokens) → length (xs ++ rest) ≤ d → statement_whole d stmt (xs ++ rest) ≡ Ok (s.Decl a, rest)
local_stmt (IsLocal.variables (IsVariables.variables {t = t} {ds = ds} {ys = ys} {zs = zs} q Row.done x y)) d stmt rest fits =
    let us = zs ++ sign q punct.Semicolon ∷ rest in
    let same : (ys ++ (zs ++ sign q punct.Semicolon ∷ [])) ++ rest ≡ ys ++ us = regroup_behind ys zs (sign q punct.Semicolon) [] rest in
    ap (statement_whole d stmt) same
    ∙ phrase_reads d stmt (for_init.Decl (decl.Variables [] t ds)) (ys ++ us) rest (good_opens (ys ++ us) (type_good x us)) (phrase_variables x y d q rest (omega (arith, ap length same)))
local_stmt (IsLocal.variables (IsVariables.variables {t = t} {ds = ds} {ys = ys} {zs = zs} q (Row.next {a = a} {bs = bs} {xs = vs} {ys = ws} u v) x y)) d stmt rest fits =
    let all = (vs ++ ws) ++ (ys ++ (zs ++ sign q punct.Semicolon ∷ [])) in
    let us = ys ++ (zs ++ sign q punct.Semicolon ∷ rest) in
    local_reads d stmt (decl.Variables (a ∷ bs) t ds) (all ++ rest) rest
    (ap opening_at (end_three (vs ++ ws) ys zs (sign q punct.Semicolon) rest) ∙ begins_local ((vs ++ ws) ++ us) (more_begin u ws us))
    (local_complete (IsLocal.variables (IsVariables.variables q (Row.next u v) x y)) d rest fits)
local_stmt (IsLocal.struct {s = b} {ds = ds} {ys = ys} {zs = zs} q Row.done x y) d stmt rest fits =
    let all = ys ++ (zs ++ sign q punct.Semicolon ∷ []) in
    local_reads d stmt (decl.Struct [] b ds) (all ++ rest) rest
    (ap opening_at (regroup_behind ys zs (sign q punct.Semicolon) [] rest) ∙ struct_local x (zs ++ sign q punct.Semicolon ∷ rest))
    (local_complete (IsLocal.struct q Row.done x y) d rest fits)
local_stmt (IsLocal.struct {s = b} {ds = ds} {ys = ys} {zs = zs} q (Row.next {a = a} {bs = bs} {xs = vs} {ys = ws} u v) x y) d stmt rest fits =
    let all = (vs ++ ws) ++ (ys ++ (zs ++ sign q punct.Semicolon ∷ [])) in
    let us = ys ++ (zs ++ sign q punct.Semicolon ∷ rest) in
    local_reads d stmt (decl.Struct (a ∷ bs) b ds) (all ++ rest) rest
    (ap opening_at (end_three (vs ++ ws) ys zs (sign q punct.Semicolon) rest) ∙ begins_local ((vs ++ ws) ++ us) (more_begin u ws us))
    (local_complete (IsLocal.struct q (Row.next u v) x y) d rest fits)

-- ---- statements

whole_is : (d : ℕ) (ts us : Tokens) (a : Stmt) (rest : Tokens) → us ≡ ts → statement_whole d (statement d) ts ≡ Ok (a, rest) → statement (suc d) us ≡ Ok (a, rest)
unfolding statement
whole_is d ts us a rest e x = ap (statement_whole d (statement d)) e ∙ x

-- an `else` behind a statement belongs to no `if` in it, or there is none
abbrev pub Apart : Bool → Tokens → Type 0
Apart k rest = (k ≡ true) ⊎ (sees_key key.Else rest ≡ false)

no_else : (rest : Tokens) → Apart false rest → sees_key key.Else rest ≡ false
no_else rest (inl e) = absurd cc
no_else rest (inr h) = h

mutual
  pub statement_complete : {k : Bool} {a : Stmt} {xs : Tokens} → IsStmt k a xs → (d : ℕ) (rest : Tokens) → length (xs ++ rest) < d → (k ≡ true) ⊎ (sees_key key.Else rest ≡ false) → statement d (xs ++ rest) ≡ Ok (a, rest)
  statement_complete x zero rest fits h = absurd (omega arith)
  statement_complete (IsStmt.empty {p = p}) (suc d) rest fits h = whole_is d (sign p punct.Semicolon ∷ rest) (sign p punct.Semicolon ∷ rest) (s.Empty p) rest refl (empty_reads d (statement d) p rest)
  statement_complete (IsStmt.block {p = p} {bs = bs} {xs = xs} q y) (suc d) rest fits h =
      let us = sign q punct.RightBrace ∷ rest in
      let same : (xs ++ sign q punct.RightBrace ∷ []) ++ rest ≡ xs ++ us = regroup xs (sign q punct.RightBrace) [] rest in
      whole_is d (sign p punct.LeftBrace ∷ (xs ++ us)) (sign p punct.LeftBrace ∷ ((xs ++ sign q punct.RightBrace ∷ []) ++ rest)) (s.Block p bs) rest (ap (λ (z : Tokens). sign p punct.LeftBrace ∷ z) same)
      (block_reads d (statement d) p bs (xs ++ us) rest (stmts_reads y d (length (xs ++ us)) [] q rest (omega (arith, ap length same)) (omega arith)))
  statement_complete (IsStmt.decl {d = a} {xs = xs} x) (suc d) rest fits h = whole_is d (xs ++ rest) (xs ++ rest) (s.Decl a) rest refl (local_stmt x d (statement d) rest (omega arith))
  statement_complete (IsStmt.expr {a = a} {xs = xs} q x) (suc d) rest fits h =
      let us = sign q punct.Semicolon ∷ rest in
      let same : (xs ++ sign q punct.Semicolon ∷ []) ++ rest ≡ xs ++ us = regroup xs (sign q punct.Semicolon) [] rest in
      whole_is d (xs ++ us) ((xs ++ sign q punct.Semicolon ∷ []) ++ rest) (s.Expr a) rest same
      (phrase_reads d (statement d) (for_init.Expr a) (xs ++ us) rest (good_opens (xs ++ us) (expr_start x us)) (phrase_expr x d q rest (omega (arith, ap length same))))
  statement_complete (IsStmt.if_alone {p = p} {a = a} {b = b} {xs = xs} {ys = ys} o c x y) (suc d) rest fits h =
      let us = sign c punct.RightParen ∷ (ys ++ rest) in
      let same : (xs ++ sign c punct.RightParen ∷ ys) ++ rest ≡ xs ++ us = regroup xs (sign c punct.RightParen) ys rest in
      let long = longer xs (sign c punct.RightParen) (ys ++ rest) in
      whole_is d (word p key.If ∷ (sign o punct.LeftParen ∷ (xs ++ us))) (word p key.If ∷ (sign o punct.LeftParen ∷ ((xs ++ sign c punct.RightParen ∷ ys) ++ rest))) (s.If p a b) rest
      (ap (λ (z : Tokens). word p key.If ∷ (sign o punct.LeftParen ∷ z)) same)
      (if_reads d (statement d) p a b (sign o punct.LeftParen ∷ (xs ++ us)) (ys ++ rest) rest (test_complete x d o c (ys ++ rest) (omega (arith, ap length same)))
      (statement_complete y d rest (omega (arith, ap length same)) h)
      ∙ alone_reads d (statement d) p a b rest (no_else rest h))
  statement_complete (IsStmt.if_else {p = p} {a = a} {b = b} {d = e} {xs = xs} {ys = ys} {zs = zs} o c m x y z) (suc d) rest fits h =
      let vs = word m key.Else ∷ (zs ++ rest) in
      let us = sign c punct.RightParen ∷ (ys ++ vs) in
      let same : (xs ++ sign c punct.RightParen ∷ (ys ++ word m key.Else ∷ zs)) ++ rest ≡ xs ++ us = regroup_two xs (sign c punct.RightParen) ys (word m key.Else) zs rest in
      let long = longer xs (sign c punct.RightParen) (ys ++ vs) in
      let less = longer ys (word m key.Else) (zs ++ rest) in
      whole_is d (word p key.If ∷ (sign o punct.LeftParen ∷ (xs ++ us))) (word p key.If ∷ (sign o punct.LeftParen ∷ ((xs ++ sign c punct.RightParen ∷ (ys ++ word m key.Else ∷ zs)) ++ rest))) (s.IfElse p a b e) rest
      (ap (λ (z : Tokens). word p key.If ∷ (sign o punct.LeftParen ∷ z)) same)
      (if_reads d (statement d) p a b (sign o punct.LeftParen ∷ (xs ++ us)) (ys ++ vs) vs (test_complete x d o c (ys ++ vs) (omega (arith, ap length same)))
      (statement_complete y d vs (omega (arith, ap length same)) (inl refl))
      ∙ else_reads d (statement d) p m a b e (zs ++ rest) rest (statement_complete z d rest (omega (arith, ap length same)) h))
  statement_complete (IsStmt.switch {p = p} {a = a} {bs = bs} {xs = xs} {ys = ys} o c m q x y) (suc d) rest fits h =
      let ws = sign q punct.RightBrace ∷ rest in
      let vs = sign m punct.LeftBrace ∷ (ys ++ ws) in
      let us = sign c punct.RightParen ∷ vs in
      let same : (xs ++ sign c punct.RightParen ∷ (sign m punct.LeftBrace ∷ (ys ++ sign q punct.RightBrace ∷ []))) ++ rest ≡ xs ++ us =
      regroup xs (sign c punct.RightParen) (sign m punct.LeftBrace ∷ (ys ++ sign q punct.RightBrace ∷ [])) rest ∙ ap (λ (z : Tokens). xs ++ sign c punct.RightParen ∷ (sign m punct.LeftBrace ∷ z)) (regroup ys (sign q punct.RightBrace) [] rest) in
      let long = longer xs (sign c punct.RightParen) vs in
      whole_is d (word p key.Switch ∷ (sign o punct.LeftParen ∷ (xs ++ us))) (word p key.Switch ∷ (sign o punct.LeftParen ∷ ((xs ++ sign c punct.RightParen ∷ (sign m punct.LeftBrace ∷ (ys ++ sign q punct.RightBrace ∷ []))) ++ rest))) (s.Switch p a bs) rest
      (ap (λ (z : Tokens). word p key.Switch ∷ (sign o punct.LeftParen ∷ z)) same)
      (switch_reads d (statement d) p m a bs (sign o punct.LeftParen ∷ (xs ++ us)) (ys ++ ws) rest (test_complete x d o c vs (omega (arith, ap length same)))
      (stmts_reads y d (length (ys ++ ws)) [] q rest (omega (arith, ap length same)) (omega arith)))
  statement_complete (IsStmt.case {p = p} {a = a} {xs = xs} q x) (suc d) rest fits h =
      let us = sign q punct.Colon ∷ rest in
      let same : (xs ++ sign q punct.Colon ∷ []) ++ rest ≡ xs ++ us = regroup xs (sign q punct.Colon) [] rest in
      whole_is d (word p key.Case ∷ (xs ++ us)) (word p key.Case ∷ ((xs ++ sign q punct.Colon ∷ []) ++ rest)) (s.Case p a) rest (ap (λ (z : Tokens). word p key.Case ∷ z) same)
      (case_reads d (statement d) p q a (xs ++ us) rest (expr_complete x d us (omega arith) (omega (arith, ap length same)) (colon_ends 2 q rest)))
  statement_complete (IsStmt.default {p = p} q) (suc d) rest fits h =
      let ts = word p key.Default ∷ (sign q punct.Colon ∷ rest) in
      whole_is d ts ts (s.Default p) rest refl (default_reads d (statement d) p q rest)
  statement_complete (IsStmt.while {p = p} {a = a} {b = b} {xs = xs} {ys = ys} o c x y) (suc d) rest fits h =
      let us = sign c punct.RightParen ∷ (ys ++ rest) in
      let same : (xs ++ sign c punct.RightParen ∷ ys) ++ rest ≡ xs ++ us = regroup xs (sign c punct.RightParen) ys rest in
      let long = longer xs (sign c punct.RightParen) (ys ++ rest) in
      whole_is d (word p key.While ∷ (sign o punct.LeftParen ∷ (xs ++ us))) (word p key.While ∷ (sign o punct.LeftParen ∷ ((xs ++ sign c punct.RightParen ∷ ys) ++ rest))) (s.While p a b) rest
      (ap (λ (z : Tokens). word p key.While ∷ (sign o punct.LeftParen ∷ z)) same)
      (while_reads d (statement d) p a b (sign o punct.LeftParen ∷ (xs ++ us)) (ys ++ rest) rest (test_complete x d o c (ys ++ rest) (omega (arith, ap length same)))
      (statement_complete y d rest (omega (arith, ap length same)) h))
  statement_complete (IsStmt.do_while {p = p} {a = a} {b = b} {xs = xs} {ys = ys} w o c q x y) (suc d) rest fits h =
      let ws = sign c punct.RightParen ∷ (sign q punct.Semicolon ∷ rest) in
      let vs = sign o punct.LeftParen ∷ (ys ++ ws) in
      let us = word w key.While ∷ vs in
      let same : (xs ++ word w key.While ∷ (sign o punct.LeftParen ∷ (ys ++ sign c punct.RightParen ∷ (sign q punct.Semicolon ∷ [])))) ++ rest ≡ xs ++ us =
      regroup xs (word w key.While) (sign o punct.LeftParen ∷ (ys ++ sign c punct.RightParen ∷ (sign q punct.Semicolon ∷ []))) rest
      ∙ ap (λ (z : Tokens). xs ++ word w key.While ∷ (sign o punct.LeftParen ∷ z)) (regroup ys (sign c punct.RightParen) (sign q punct.Semicolon ∷ []) rest) in
      let long = longer xs (word w key.While) vs in
      whole_is d (word p key.Do ∷ (xs ++ us)) (word p key.Do ∷ ((xs ++ word w key.While ∷ (sign o punct.LeftParen ∷ (ys ++ sign c punct.RightParen ∷ (sign q punct.Semicolon ∷ [])))) ++ rest)) (s.Do p b a) rest
      (ap (λ (z : Tokens). word p key.Do ∷ z) same)
      (do_reads d (statement d) p w q a b (xs ++ us) vs rest (statement_complete x d us (omega (arith, ap length same)) (inr (while_no_else w vs)))
      (test_complete y d o c (sign q punct.Semicolon ∷ rest) (omega (arith, ap length same))))
  statement_complete (IsStmt.for_loop {p = p} {i = i} {a = a} {b = b} {d = e} {ws = ws} {xs = xs} {ys = ys} {zs = zs} o m c w x y z) (suc d) rest fits h =
      let vs = ys ++ sign c punct.RightParen ∷ (zs ++ rest) in
      let us = xs ++ sign m punct.Semicolon ∷ vs in
      let same : (ws ++ (xs ++ sign m punct.Semicolon ∷ (ys ++ sign c punct.RightParen ∷ zs))) ++ rest ≡ ws ++ us =
      append_assoc ws (xs ++ sign m punct.Semicolon ∷ (ys ++ sign c punct.RightParen ∷ zs)) rest ∙ ap (λ (z : Tokens). ws ++ z) (regroup_two xs (sign m punct.Semicolon) ys (sign c punct.RightParen) zs rest) in
      let long = length-append ws us in
      let less = longer xs (sign m punct.Semicolon) vs in
      let least = longer ys (sign c punct.RightParen) (zs ++ rest) in
      whole_is d (word p key.For ∷ (sign o punct.LeftParen ∷ (ws ++ us))) (word p key.For ∷ (sign o punct.LeftParen ∷ ((ws ++ (xs ++ sign m punct.Semicolon ∷ (ys ++ sign c punct.RightParen ∷ zs))) ++ rest))) (s.For p i a b e) rest
      (ap (λ (z : Tokens). word p key.For ∷ (sign o punct.LeftParen ∷ z)) same)
      (for_reads d (statement d) p o i a b e (ws ++ us) us vs (zs ++ rest) rest
      (header_complete w d us (omega (arith, ap length same)))
      (optional_semicolon x d m vs (omega (arith, ap length same)))
      (optional_right_paren y d c (zs ++ rest) (omega (arith, ap length same)))
      (statement_complete z d rest (omega (arith, ap length same)) h))
  statement_complete (IsStmt.break_out {p = p} q) (suc d) rest fits h =
      let ts = word p key.Break ∷ (sign q punct.Semicolon ∷ rest) in
      whole_is d ts ts (s.Break p) rest refl (break_reads d (statement d) p q rest)
  statement_complete (IsStmt.continue_on {p = p} q) (suc d) rest fits h =
      let ts = word p key.Continue ∷ (sign q punct.Semicolon ∷ rest) in
      whole_is d ts ts (s.Continue p) rest refl (continue_reads d (statement d) p q rest)
  statement_complete (IsStmt.discard {p = p} q) (suc d) rest fits h =
      let ts = word p key.Discard ∷ (sign q punct.Semicolon ∷ rest) in
      whole_is d ts ts (s.Discard p) rest refl (discard_reads d (statement d) p q rest)
  statement_complete (IsStmt.return_alone {p = p} q) (suc d) rest fits h =
      let ts = word p key.Return ∷ (sign q punct.Semicolon ∷ rest) in
      whole_is d ts ts (s.Return p) rest refl (return_reads d (statement d) p q rest)
  statement_complete (IsStmt.return_value {p = p} {a = a} {xs = xs} q x) (suc d) rest fits h =
      let us = sign q punct.Semicolon ∷ rest in
      let same : (xs ++ sign q punct.Semicolon ∷ []) ++ rest ≡ xs ++ us = regroup xs (sign q punct.Semicolon) [] rest in
      whole_is d (word p key.Return ∷ (xs ++ us)) (word p key.Return ∷ ((xs ++ sign q punct.Semicolon ∷ []) ++ rest)) (s.ReturnValue p a) rest (ap (λ (z : Tokens). word p key.Return ∷ z) same)
      (return_value_reads d (statement d) p q a (xs ++ us) rest (expr_not_semicolon x us) (expr_complete x d us (omega arith) (omega (arith, ap length same)) (semicolon_ends 0 q rest)))

  stmts_reads : {bs : List Stmt} {xs : Tokens} → IsStmts bs xs → (d fuel : ℕ) (found : List Stmt) (q : Place) (rest : Tokens) → length (xs ++ sign q punct.RightBrace ∷ rest) < d → length (xs ++ sign q punct.RightBrace ∷ rest) ≤ fuel
      → statements (statement d) fuel found (xs ++ sign q punct.RightBrace ∷ rest) ≡ Ok (found ++ bs, rest)
  stmts_reads {xs = xs} x d zero found q rest fits most = absurd (omega (arith, longer xs (sign q punct.RightBrace) rest))
  stmts_reads IsStmts.done d (suc n) found q rest fits most = stmts_close (statement d) n found q rest ∙ ap (λ (z : List Stmt). Ok (z, rest)) (sym (append-nil found))
  stmts_reads (IsStmts.next {a = a} {bs = bs} {xs = xs} {ys = ys} x y) d (suc n) found q rest fits most =
      let us = ys ++ sign q punct.RightBrace ∷ rest in
      let same : (xs ++ ys) ++ sign q punct.RightBrace ∷ rest ≡ xs ++ us = append_assoc xs ys (sign q punct.RightBrace ∷ rest) in
      let long = length-append xs us in
      let some = stmt_filled x in
      let o = stmt_starts x us in
      ap (statements (statement d) (suc n) found) same
      ∙ stmts_step (statement d) n found a (xs ++ us) us o.shut (statement_complete x d us (omega (arith, ap length same)) (inr (stmts_no_else y q rest)))
      ∙ stmts_reads y d n (found ++ a ∷ []) q rest (omega (arith, ap length same)) (omega (arith, ap length same))
      ∙ ap (λ (z : List Stmt). Ok (z, rest)) (append_assoc found (a ∷ []) bs)

pub statements_complete : {bs : List Stmt} {xs : Tokens} → IsStmts bs xs → (d : ℕ) (q : Place) (rest : Tokens) → length (xs ++ sign q punct.RightBrace ∷ rest) < d
    → statements_of (statement d) (xs ++ sign q punct.RightBrace ∷ rest) ≡ Ok (bs, rest)
statements_complete {xs = xs} y d q rest fits = stmts_reads y d (length (xs ++ sign q punct.RightBrace ∷ rest)) [] q rest fits (omega arith)
