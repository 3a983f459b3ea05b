-- Where the tokens of a statement do not nest too deeply, neither do its arms.
use Rattle.std.proofs.Common.{◌≡◌, refl, subst, ℕ, ◌≤◌, Bool, false, inl, inr, List, [], ◌∷◌, ◌++◌, Option, append_assoc, arith}
use Rattle.gsl_base.specs.declared.fault.Place.{Place}
use Rattle.gsl_base.specs.declared.token.Punct.TheVariants as punct
use Rattle.gsl_base.specs.declared.token.Key.{Key}
use Rattle.gsl_base.specs.declared.token.Key.TheVariants as key
use Rattle.gsl_base.specs.declared.token.Kind.TheVariants as kind
use Rattle.gsl_syntax.specs.declared.nesting.Counter.{Counter}
use Rattle.gsl_syntax.specs.declared.expr.Expr.{Expr}
use Rattle.gsl_syntax.specs.declared.statement.ForInit.{ForInit}
use Rattle.gsl_syntax.specs.declared.statement.Stmt.{Stmt}
use Rattle.gsl_syntax.specs.Nesting.{fresh}
use Rattle.gsl_syntax.specs.Phrases.{Tokens, sign, word, IsExpr}
use Rattle.gsl_syntax.specs.Statements.{IsForInit, IsOptional, IsStmt, IsStmts}
use Rattle.gsl_formed.specs.Nested.{expr_arms, arms_if, init_part_arms, stmt_arms}
use Rattle.gsl_formed.proofs.StatementArms as arms
use Rattle.gsl_formed.proofs.StatementArms.{row_arms}
use Rattle.gsl_parse_law.proofs.Steps.{AtLeast, At, Any, any, Room, none_fit, quiet, plus_one, after_colon, decided, IsKept, worded, after_word, IsLoose, after_label, after_semicolon, into_paren, into_brace, out_of_paren, out_of_brace, weaker, at_weaker, IsLow, low_fresh, low_left, left_less, all_left}
use Rattle.gsl_parse_law.proofs.Depths.{IsQuiet, apart, at_apart, Walks, expr_walks}
use Rattle.gsl_parse_law.proofs.DeclarationDepths.{Ends, variables_end, local_ends}

-- The words count all that is counted around statements, and no choice is open.
pub record IsAround (b : Counter) : Type 0 where
  pub words : b.value ≤ b.words
  pub choices : b.choices ≤ 0

around_word : (b : Counter) → IsAround b → IsAround (worded b)
around_word b a = record { words = omega (arith, a.words); choices = a.choices }

pub around_fresh : (list : Bool) → IsAround (fresh list)
around_fresh list = record { words = omega arith; choices = omega arith }

more_least : (b : Counter) → AtLeast b (plus_one b)
more_least b = record { value = omega arith; choices = omega arith; words = omega arith; list = refl }

word_least : (b : Counter) → AtLeast b (worded b)
word_least b = record { value = omega arith; choices = omega arith; words = omega arith; list = refl }

none_before : (n m : ℕ) → n ≤ 0 → n ≤ m
none_before n m h = omega (arith, h)

colon_least : (b : Counter) → IsAround b → AtLeast b (decided b)
colon_least b a = record { value = omega arith; choices = none_before b.choices _ a.choices; words = omega arith; list = refl }

-- behind a parenthesis
if_apart : {b : Counter} {o : List Counter} (p : Place) (xs ys rest : Tokens) → Any b o (sign p punct.LeftParen ∷ ((xs ++ ys) ++ rest)) → Any b o (sign p punct.LeftParen ∷ (xs ++ (ys ++ rest)))
if_apart {b = b} {o = o} p xs ys rest x = subst (λ (zs : Tokens). Any b o (sign p punct.LeftParen ∷ zs)) (append_assoc xs ys rest) x

-- a test in parentheses, and what stands behind it
test_walks : {a : Expr} {xs : Tokens} → IsExpr 0 a xs → {b : Counter} {o : List Counter} (p c : Place) (ys : Tokens) → Any b o (sign p punct.LeftParen ∷ (xs ++ sign c punct.RightParen ∷ ys)) → Room b o (expr_arms a) × At false false b o ys
test_walks y {b = b} p c ys x =
    let inside = into_paren p x in
    let r = expr_walks y (sign c punct.RightParen ∷ ys) (inr (inl (omega arith))) (any inside.at) in
    let least = inside.least.value in
    let fit = r.0 in
    (omega (arith, least, fit), at_weaker (more_least b) (out_of_paren c inside.least r.1))

for_init_walks : {i : ForInit} {xs : Tokens} → IsForInit i xs → {list : Bool} {o : List Counter} (rest : Tokens) → Any (fresh list) o (xs ++ rest) → Walks (fresh list) o (init_part_arms i) rest
for_init_walks (IsForInit.empty {p = p}) {list = list} rest x = let r = low_left rest (low_fresh list) (any (after_semicolon p x)) in (none_fit r, r)
for_init_walks (IsForInit.expr {xs = xs} q y) {list = list} rest x =
    let r = expr_walks y (sign q punct.Semicolon ∷ rest) (inr (inl (omega arith))) (apart xs (sign q punct.Semicolon ∷ []) rest x) in
    (r.0, low_left rest (low_fresh list) (any (after_semicolon q r.1)))
for_init_walks (IsForInit.decl y) {list = list} rest x =
    let r = variables_end y rest (inl (omega arith)) x in (r.0, low_left rest (low_fresh list) r.1)

optional_walks : {a : Option Expr} {xs : Tokens} → IsOptional a xs → {b : Counter} {o : List Counter} (rest : Tokens) → IsKept b → Any b o (xs ++ rest) → Walks b o (arms_if a) rest
optional_walks IsOptional.none rest kept x = (none_fit x, x)
optional_walks (IsOptional.some y) rest kept x = expr_walks y rest (inr kept) x

-- a word with its semicolon
alone_ends : {b : Counter} {o : List Counter} (p q : Place) (w : Key) (rest : Tokens) (n : ℕ) → IsQuiet w → n ≡ 0 → Any b o (word p w ∷ (sign q punct.Semicolon ∷ rest)) → Ends b o n rest
alone_ends p q w rest n is none x =
    let fit = none_fit x in (omega (arith, fit, none), any (after_semicolon q (any (quiet p (kind.Key w) is x))))

mutual
  pub stmt_ends : {k : Bool} {s : Stmt} {xs : Tokens} → IsStmt k s xs → {list label : Bool} {b : Counter} {o : List Counter} (rest : Tokens) → IsAround b → IsLoose label b → At list label b o (xs ++ rest) → Ends b o (stmt_arms s) rest
  stmt_ends (IsStmt.empty {p = p}) rest around loose x =
      let fit = none_fit (any x) in
      let same = arms.arms_Empty p in
      (omega (arith, fit, same), any (after_semicolon p (any x)))
  stmt_ends (IsStmt.block {p = p} {bs = bs} {xs = xs} q y) {list = list} rest around loose x =
      let inside = into_brace p x in
      let r = stmts_walk y (sign q punct.RightBrace ∷ rest) (around_fresh list) (low_fresh list) (apart xs (sign q punct.RightBrace ∷ []) rest (any inside.at)) in
      let same = arms.arms_Block p bs in
      let least = inside.least.value in
      let fit = r.0 in
      (omega (arith, same, least, fit), any (out_of_brace q inside.least r.1))
  stmt_ends (IsStmt.decl {d = d} y) rest around loose x =
      let r = local_ends y rest (inl around.words) (any x) in
      let same = arms.arms_Decl d in
      let fit = r.0 in
      (omega (arith, same, fit), r.1)
  stmt_ends (IsStmt.expr {a = a} {xs = xs} q y) rest around loose x =
      let r = expr_walks y (sign q punct.Semicolon ∷ rest) (inr (inl around.words)) (apart xs (sign q punct.Semicolon ∷ []) rest (any x)) in
      let same = arms.arms_Expr a in
      let fit = r.0 in
      (omega (arith, same, fit), any (after_semicolon q r.1))
  stmt_ends (IsStmt.if_alone {p = p} {a = a} {b = d} {xs = xs} {ys = ys} o c y z) {b = b} rest around loose x =
      let front = after_word p key.If (λ list label on s. refl) (any x) in
      let test = test_walks y o c (ys ++ rest) (if_apart o xs (sign c punct.RightParen ∷ ys) rest (any front)) in
      let r = stmt_ends z rest (around_word b around) (inl refl) test.1 in
      let same = arms.arms_If p a d in
      let first = test.0 in
      let fit = r.0 in
      (omega (arith, same, first, fit), left_less rest (word_least b) r.1)
  stmt_ends (IsStmt.if_else {p = p} {a = a} {b = d} {d = e} {xs = xs} {ys = ys} {zs = zs} o c m y z w) {b = b} rest around loose x =
      let front = after_word p key.If (λ list label on s. refl) (any x) in
      let test = test_walks y o c ((ys ++ word m key.Else ∷ zs) ++ rest) (if_apart o xs (sign c punct.RightParen ∷ (ys ++ word m key.Else ∷ zs)) rest (any front)) in
      let body = stmt_ends z (word m key.Else ∷ (zs ++ rest)) (around_word b around) (inl refl) (at_apart ys (word m key.Else ∷ zs) rest test.1) in
      let other = at_weaker (word_least (worded b)) (after_word m key.Else (λ list label on s. refl) body.1) in
      let r = stmt_ends w rest (around_word b around) (inl refl) other in
      let same = arms.arms_IfElse p a d e in
      let first = test.0 in
      let second = body.0 in
      let fit = r.0 in
      (omega (arith, same, first, second, fit), left_less rest (word_least b) r.1)
  stmt_ends (IsStmt.switch {p = p} {a = a} {bs = bs} {xs = xs} {ys = ys} o c m q y z) {b = b} rest around loose x =
      let front = after_word p key.Switch (λ list label on s. refl) (any x) in
      let body = sign m punct.LeftBrace ∷ (ys ++ sign q punct.RightBrace ∷ []) in
      let test = test_walks y o c (body ++ rest) (if_apart o xs (sign c punct.RightParen ∷ body) rest (any front)) in
      let inside = into_brace m test.1 in
      let r = stmts_walk z (sign q punct.RightBrace ∷ rest) (around_fresh false) (low_fresh false) (apart ys (sign q punct.RightBrace ∷ []) rest (any inside.at)) in
      let same = arms.arms_Switch p a bs in
      let least = inside.least.value in
      let first = test.0 in
      let fit = r.0 in
      (omega (arith, same, least, first, fit), left_less rest (word_least b) (any (out_of_brace q inside.least r.1)))
  stmt_ends (IsStmt.case {p = p} {a = a} {xs = xs} q y) {b = b} rest around loose x =
      let front = after_label p key.Case (λ list label on s. refl) loose x in
      let r = expr_walks y (sign q punct.Colon ∷ rest) (inl (omega arith)) (apart xs (sign q punct.Colon ∷ []) rest (any front)) in
      let fit = none_fit (any x) in
      let same = arms.arms_Case p a in
      (omega (arith, same, fit), all_left rest (weaker (colon_least b around) (any (after_colon q r.1))))
  stmt_ends (IsStmt.default {p = p} q) {b = b} rest around loose x =
      let front = after_label p key.Default (λ list label on s. refl) loose x in
      let fit = none_fit (any x) in
      let same = arms.arms_Default p in
      (omega (arith, same, fit), all_left rest (weaker (colon_least b around) (any (after_colon q (any front)))))
  stmt_ends (IsStmt.while {p = p} {a = a} {b = d} {xs = xs} {ys = ys} o c y z) {b = b} rest around loose x =
      let front = after_word p key.While (λ list label on s. refl) (any x) in
      let test = test_walks y o c (ys ++ rest) (if_apart o xs (sign c punct.RightParen ∷ ys) rest (any front)) in
      let r = stmt_ends z rest (around_word b around) (inl refl) test.1 in
      let same = arms.arms_While p a d in
      let first = test.0 in
      let fit = r.0 in
      (omega (arith, same, first, fit), left_less rest (word_least b) r.1)
  stmt_ends (IsStmt.do_while {p = p} {a = a} {b = d} {xs = xs} {ys = ys} w o c q y z) {b = b} rest around loose x =
      let front = after_word p key.Do (λ list label on s. refl) (any x) in
      let last = sign c punct.RightParen ∷ (sign q punct.Semicolon ∷ []) in
      let behind = sign o punct.LeftParen ∷ ((ys ++ last) ++ rest) in
      let body = stmt_ends y (word w key.While ∷ behind) (around_word b around) (inl refl) (at_apart xs (word w key.While ∷ (sign o punct.LeftParen ∷ (ys ++ last))) rest front) in
      let again = weaker (word_least (worded b)) (any (after_word w key.While (λ list label on s. refl) body.1)) in
      let test = test_walks z o c (sign q punct.Semicolon ∷ rest) (if_apart o ys last rest again) in
      let same = arms.arms_Do p d a in
      let first = body.0 in
      let fit = test.0 in
      (omega (arith, same, first, fit), left_less rest (word_least b) (any (after_semicolon q (any test.1))))
  stmt_ends (IsStmt.for_loop {p = p} {i = i} {a = a} {b = d} {d = e} {ws = ws} {xs = xs} {ys = ys} {zs = zs} o m c v y z w) {b = b} rest around loose x =
      let front = after_word p key.For (λ list label on s. refl) (any x) in
      let inside = into_paren o (any front) in
      let last = ys ++ sign c punct.RightParen ∷ zs in
      let middle = xs ++ sign m punct.Semicolon ∷ last in
      let start = for_init_walks v (middle ++ rest) (apart ws middle rest (any inside.at)) in
      let test = optional_walks y (sign m punct.Semicolon ∷ (last ++ rest)) (inl (omega arith)) (apart xs (sign m punct.Semicolon ∷ last) rest start.1) in
      let behind = low_left (last ++ rest) (low_fresh false) (any (after_semicolon m test.1)) in
      let step = optional_walks z (sign c punct.RightParen ∷ (zs ++ rest)) (inl (omega arith)) (apart ys (sign c punct.RightParen ∷ zs) rest behind) in
      let r = stmt_ends w rest (around_word b around) (inl refl) (at_weaker (more_least (worded b)) (out_of_paren c inside.least step.1)) in
      let same = arms.arms_For p i a d e in
      let least = inside.least.value in
      let first = start.0 in
      let second = test.0 in
      let third = step.0 in
      let fit = r.0 in
      (omega (arith, same, least, first, second, third, fit), left_less rest (word_least b) r.1)
  stmt_ends (IsStmt.break_out {p = p} q) rest around loose x = alone_ends p q key.Break rest _ (λ list label on s. refl) (arms.arms_Break p) (any x)
  stmt_ends (IsStmt.continue_on {p = p} q) rest around loose x = alone_ends p q key.Continue rest _ (λ list label on s. refl) (arms.arms_Continue p) (any x)
  stmt_ends (IsStmt.discard {p = p} q) rest around loose x = alone_ends p q key.Discard rest _ (λ list label on s. refl) (arms.arms_Discard p) (any x)
  stmt_ends (IsStmt.return_alone {p = p} q) rest around loose x = alone_ends p q key.Return rest _ (λ list label on s. refl) (arms.arms_Return p) (any x)
  stmt_ends (IsStmt.return_value {p = p} {a = a} {xs = xs} q y) rest around loose x =
      let front = quiet p (kind.Key key.Return) (λ list label on s. refl) (any x) in
      let r = expr_walks y (sign q punct.Semicolon ∷ rest) (inr (inl around.words)) (apart xs (sign q punct.Semicolon ∷ []) rest (any front)) in
      let same = arms.arms_ReturnValue p a in
      let fit = r.0 in
      (omega (arith, same, fit), any (after_semicolon q r.1))

  pub stmts_walk : {bs : List Stmt} {xs : Tokens} → IsStmts bs xs → {b : Counter} {o : List Counter} (rest : Tokens) → IsAround b → IsLow b → Any b o (xs ++ rest) → Walks b o (row_arms bs) rest
  stmts_walk IsStmts.done rest around low x = (none_fit x, x)
  stmts_walk (IsStmts.next {xs = xs} {ys = ys} y z) rest around low x =
      let at = apart xs ys rest x in
      let first = stmt_ends y (ys ++ rest) around (inr low) at.at in
      let r = stmts_walk z rest around low (low_left (ys ++ rest) low first.1) in
      let front = first.0 in
      let fit = r.0 in
      (omega (arith, front, fit), r.1)
