-- What the reader does with each piece of an expression.
use Rattle.std.proofs.Common.{◌≡◌, refl, ap, ◌∙◌, ◌⊎◌, inl, inr, ℕ, zero, suc, ◌+◌, ◌≤◌, true, false, List, [], ◌∷◌, ◌++◌, length, Some, Ok, nat_le, if◌then◌else◌}
use Rattle.std.proofs.lemmas.Bool.{le-leb}
use Rattle.gsl_base.specs.declared.fault.Place.{Place}
use Rattle.gsl_base.specs.declared.token.Punct.{Punct}
use Rattle.gsl_base.specs.declared.token.Punct.TheVariants as punct
use Rattle.gsl_base.specs.declared.token.Key.{Key}
use Rattle.gsl_base.specs.declared.token.Key.TheVariants as key
use Rattle.gsl_base.specs.declared.token.Kind.TheVariants as kind
use Rattle.gsl_syntax.specs.declared.expr.Basic.{Basic}
use Rattle.gsl_syntax.specs.declared.expr.Expr.{Expr}
use Rattle.gsl_syntax.specs.declared.expr.Expr.TheVariants as e
use Rattle.gsl_syntax.specs.declared.expr.TypeSpec.{TypeSpec}
use Rattle.gsl_syntax.specs.declared.expr.Dim.{Dim}
use Rattle.gsl_syntax.specs.declared.expr.Dim.TheVariants as dim
use Rattle.gsl_syntax.specs.declared.operator.BinaryOp.{BinaryOp}
use Rattle.gsl_syntax.specs.declared.operator.AssignOp.{AssignOp}
use Rattle.gsl_syntax.specs.declared.operator.UnaryOp.{UnaryOp}
use Rattle.gsl_syntax.specs.declared.operator.PostfixOp.{PostfixOp}
use Rattle.gsl_syntax.specs.Operators.{binary_of, level_of, assign_of, unary_of, postfix_of}
use Rattle.gsl_syntax.specs.Phrases.{token, sign, word}
use Rattle.gsl_expr.specs.declared.rule.Start.{Start}
use Rattle.gsl_expr.specs.declared.rule.Start.TheVariants as start
use Rattle.gsl_expr.specs.declared.rule.Follow.{Follow}
use Rattle.gsl_expr.specs.declared.rule.Tail.{Tail}
use Rattle.gsl_expr.specs.declared.rule.Tail.TheVariants as tail
use Rattle.gsl_expr.specs.declared.rule.Mode.{Mode}
use Rattle.gsl_expr.specs.declared.rule.Mode.TheVariants as mode
use Rattle.gsl_expr.specs.declared.rule.Head.{Head}
use Rattle.gsl_expr.specs.Rules.{start_at, follow_at}
use Rattle.gsl_expr.specs.Reading.{Tokens, Outcome, Parser, and_then, ◌>>=◌, pure, take_one, sees, sees_key, expect, name as take_name}
use Rattle.gsl_expr.specs.Expressions.{is_tight, index_all, head_type, named, keyword, mode_after, level_in, may_be_open, may_be_index, void_alone, selected, bracket, brackets, dims, named_head, basic_head, items, arguments, applied, operand_as, operand, operate_as, operate, tailed_as, tailed, further, sequence_of, sequenced, expr}
use Rattle.gsl_expr.proofs.Ends.{Heads}
use Rattle.gsl_expr.proofs.Openings.{sign_starts}
use Rattle.gsl_expr.proofs.Signs.{binary_follows, assign_tail, postfix_follows, question_tail}

-- ---- what stands behind an operand

pub operate_index : (next : ℕ → Parser Expr) (p q : Place) (a b : Expr) (zs rest : Tokens) → next 0 zs ≡ Ok (b, sign q punct.RightBracket ∷ rest) → operate next a (sign p punct.LeftBracket ∷ zs) ≡ Ok (e.Index p a b, rest)
unfolding operate follow_at expect sees
operate_index next p q a b zs rest x = ap (λ (r : Outcome Expr). and_then r (λ b. expect punct.RightBracket >>= λ _. pure (e.Index p a b))) x

pub operate_member : (next : ℕ → Parser Expr) (p q : Place) (a : Expr) (n : List ℕ) (rest : Tokens) → sees punct.LeftParen rest ≡ false → operate next a (sign p punct.Dot ∷ (token q (kind.Name n) ∷ rest)) ≡ Ok (e.Member p a n, rest)
unfolding operate follow_at take_name selected
operate_member next p q a n rest h = rw h refl

pub operate_method : (next : ℕ → Parser Expr) (p q o c : Place) (a : Expr) (n : List ℕ) (rest : Tokens)
    → operate next a (sign p punct.Dot ∷ (token q (kind.Name n) ∷ (sign o punct.LeftParen ∷ (sign c punct.RightParen ∷ rest)))) ≡ Ok (e.Method p a n, rest)
unfolding operate follow_at take_name selected expect sees
operate_method next p q o c a n rest = refl

pub operate_postfix : (next : ℕ → Parser Expr) (p : Place) (m : Punct) (o : PostfixOp) (a : Expr) (rest : Tokens) → postfix_of m ≡ Some o → operate next a (sign p m ∷ rest) ≡ Ok (e.Postfix p o a, rest)
unfolding operate
operate_postfix next p m o a rest h = ap (λ (f : Follow). operate_as next a f (sign p m ∷ rest)) (postfix_follows p m o rest h)

pub operate_binary : (next : ℕ → Parser Expr) (p : Place) (m : Punct) (o : BinaryOp) (a b : Expr) (zs rest : Tokens) → binary_of m ≡ Some o → next (level_of o + 1) zs ≡ Ok (b, rest) → operate next a (sign p m ∷ zs) ≡ Ok (e.Binary p o a b, rest)
unfolding operate
operate_binary next p m o a b zs rest h x =
    ap (λ (f : Follow). operate_as next a f (sign p m ∷ zs)) (binary_follows p m o zs h) ∙ ap (λ (r : Outcome Expr). and_then r (λ b. pure (e.Binary p o a b))) x

-- ---- operands

pub operand_signed : (next : ℕ → Parser Expr) (p : Place) (n : ℕ) (rest : Tokens) → operand next (token p (kind.Signed n) ∷ rest) ≡ Ok (e.Signed p n, rest)
unfolding operand start_at
operand_signed next p n rest = refl

pub operand_unsigned : (next : ℕ → Parser Expr) (p : Place) (n : ℕ) (rest : Tokens) → operand next (token p (kind.Unsigned n) ∷ rest) ≡ Ok (e.Unsigned p n, rest)
unfolding operand start_at
operand_unsigned next p n rest = refl

pub operand_true : (next : ℕ → Parser Expr) (p : Place) (rest : Tokens) → operand next (word p key.True ∷ rest) ≡ Ok (e.Bool p true, rest)
unfolding operand start_at
operand_true next p rest = refl

pub operand_false : (next : ℕ → Parser Expr) (p : Place) (rest : Tokens) → operand next (word p key.False ∷ rest) ≡ Ok (e.Bool p false, rest)
unfolding operand start_at
operand_false next p rest = refl

pub operand_paren : (next : ℕ → Parser Expr) (p q : Place) (a : Expr) (zs rest : Tokens) → next 0 zs ≡ Ok (a, sign q punct.RightParen ∷ rest) → operand next (sign p punct.LeftParen ∷ zs) ≡ Ok (e.Paren p a, rest)
unfolding operand start_at expect sees
operand_paren next p q a zs rest x = ap (λ (r : Outcome Expr). and_then r (λ a. expect punct.RightParen >>= λ _. pure (e.Paren p a))) x

pub operand_unary : (next : ℕ → Parser Expr) (p : Place) (m : Punct) (o : UnaryOp) (a : Expr) (zs rest : Tokens) → unary_of m ≡ Some o → next 14 zs ≡ Ok (a, rest) → operand next (sign p m ∷ zs) ≡ Ok (e.Unary p o a, rest)
unfolding operand
operand_unary next p m o a zs rest h x =
    ap (λ (s : Start). operand_as next s (sign p m ∷ zs)) (sign_starts p m o zs h) ∙ ap (λ (r : Outcome Expr). and_then r (λ a. pure (e.Unary p o a))) x

-- ---- calls

applied_call : (next : ℕ → Parser Expr) (h : Head) (t : TypeSpec) (o : Place) (us : Tokens) (c : Expr) (rest : Tokens) → head_type h ≡ t → may_be_open h.mode ≡ true → arguments next t us ≡ Ok (c, rest)
    → applied next h (sign o punct.LeftParen ∷ us) ≡ Ok (c, rest)
unfolding applied sees
applied_call next h t o us c rest is may x = rw may (ap (λ (s : TypeSpec). arguments next s us) is ∙ x)

pub operand_call : (d : ℕ) (t : TypeSpec) (ts : Tokens) (o : Place) (us : Tokens) (c : Expr) (rest : Tokens) → Heads d t ts (sign o punct.LeftParen ∷ us) → arguments (expr d) t us ≡ Ok (c, rest) → operand (expr d) ts ≡ Ok (c, rest)
unfolding operand
operand_call d t ts o us c rest h x = go h.reads
  where
    go : ((start_at ts ≡ start.Name) × (named_head (expr d) ts ≡ Ok (h.head, sign o punct.LeftParen ∷ us))) ⊎ ((b : Basic) × (start_at ts ≡ start.Basic b) × (basic_head (expr d) b ts ≡ Ok (h.head, sign o punct.LeftParen ∷ us)))
        → operand_as (expr d) (start_at ts) ts ≡ Ok (c, rest)
    go (inl r) = ap (λ (s : Start). operand_as (expr d) s ts) r.0 ∙ ap (λ (s : Outcome Head). and_then s (applied (expr d))) r.1 ∙ applied_call (expr d) h.head t o us c rest h.type_is h.may_open x
    go (inr r) = ap (λ (s : Start). operand_as (expr d) s ts) r.1 ∙ ap (λ (s : Outcome Head). and_then s (applied (expr d))) r.2 ∙ applied_call (expr d) h.head t o us c rest h.type_is h.may_open x

pub arguments_none : (next : ℕ → Parser Expr) (t : TypeSpec) (q : Place) (rest : Tokens) → arguments next t (sign q punct.RightParen ∷ rest) ≡ Ok (e.Call t [], rest)
unfolding arguments sees
arguments_none next t q rest = refl

pub arguments_void : (next : ℕ → Parser Expr) (t : TypeSpec) (v q : Place) (rest : Tokens) → arguments next t (word v key.Void ∷ (sign q punct.RightParen ∷ rest)) ≡ Ok (e.CallVoid t, rest)
unfolding arguments sees void_alone sees_key
arguments_void next t v q rest = refl

pub arguments_some : (next : ℕ → Parser Expr) (t : TypeSpec) (ts : Tokens) (bs : List Expr) (rest : Tokens) → sees punct.RightParen ts ≡ false → void_alone ts ≡ false → items next (length ts) [] ts ≡ Ok (bs, rest)
    → arguments next t ts ≡ Ok (e.Call t bs, rest)
unfolding arguments
arguments_some next t ts bs rest h v x = rw h (rw v (ap (λ (r : Outcome (List Expr)). and_then r (λ bs. pure (e.Call t bs))) x))

abbrev behind_item : (ℕ → Parser Expr) → ℕ → List Expr → Expr → Parser (List Expr)
behind_item next n found a ts = if sees punct.Comma ts then (take_one >>= λ _. items next n (found ++ a ∷ [])) ts else (expect punct.RightParen >>= λ _. pure (found ++ a ∷ [])) ts

pub items_comma : (next : ℕ → Parser Expr) (n : ℕ) (p : Place) (found : List Expr) (a : Expr) (ts rest : Tokens) → next 1 ts ≡ Ok (a, sign p punct.Comma ∷ rest) → items next (suc n) found ts ≡ items next n (found ++ a ∷ []) rest
unfolding items sees
items_comma next n p found a ts rest x =
    ap (λ (r : Outcome Expr). and_then r (behind_item next n found)) x

pub items_close : (next : ℕ → Parser Expr) (n : ℕ) (q : Place) (found : List Expr) (a : Expr) (ts rest : Tokens) → next 1 ts ≡ Ok (a, sign q punct.RightParen ∷ rest) → items next (suc n) found ts ≡ Ok (found ++ a ∷ [], rest)
unfolding items sees expect
items_close next n q found a ts rest x =
    ap (λ (r : Outcome Expr). and_then r (behind_item next n found)) x

-- ---- brackets

pub brackets_stop : (next : ℕ → Parser Expr) (n : ℕ) (m : Mode) (found : List Dim) (ts : Tokens) → sees punct.LeftBracket ts ≡ false → brackets next n m found ts ≡ Ok ((found, m), ts)
unfolding brackets
brackets_stop next zero m found ts h = refl
brackets_stop next (suc n) m found ts h = rw h refl

bracket_open : (next : ℕ → Parser Expr) (m : Mode) (p q : Place) (ys : Tokens) → may_be_open m ≡ true → bracket next m p (sign q punct.RightBracket ∷ ys) ≡ Ok ((dim.Open p, mode.Type), ys)
unfolding bracket sees
bracket_open next m p q ys h = rw h refl

bracket_sized : (next : ℕ → Parser Expr) (m : Mode) (p q : Place) (b : Expr) (zs rest : Tokens) → sees punct.RightBracket zs ≡ false → next (level_in m) zs ≡ Ok (b, sign q punct.RightBracket ∷ rest)
    → bracket next m p zs ≡ Ok ((dim.Sized p b, mode_after m b), rest)
unfolding bracket sees expect
bracket_sized next m p q b zs rest h x = rw h (ap (λ (r : Outcome Expr). and_then r (λ a. expect punct.RightBracket >>= λ _. pure (dim.Sized p a, mode_after m a))) x)

pub brackets_open : (next : ℕ → Parser Expr) (n : ℕ) (m : Mode) (found : List Dim) (p q : Place) (ys : Tokens) → may_be_open m ≡ true
    → brackets next (suc n) m found (sign p punct.LeftBracket ∷ (sign q punct.RightBracket ∷ ys)) ≡ brackets next n mode.Type (found ++ dim.Open p ∷ []) ys
unfolding brackets sees
brackets_open next n m found p q ys h = ap (λ (r : Outcome (Dim × Mode)). and_then r (λ r. brackets next n r.1 (found ++ r.0 ∷ []))) (bracket_open next m p q ys h)

pub brackets_sized : (next : ℕ → Parser Expr) (n : ℕ) (m : Mode) (found : List Dim) (p q : Place) (b : Expr) (zs rest : Tokens) → sees punct.RightBracket zs ≡ false → next (level_in m) zs ≡ Ok (b, sign q punct.RightBracket ∷ rest)
    → brackets next (suc n) m found (sign p punct.LeftBracket ∷ zs) ≡ brackets next n (mode_after m b) (found ++ dim.Sized p b ∷ []) rest
unfolding brackets sees
brackets_sized next n m found p q b zs rest h x = ap (λ (r : Outcome (Dim × Mode)). and_then r (λ r. brackets next n r.1 (found ++ r.0 ∷ []))) (bracket_sized next m p q b zs rest h x)

pub named_reads : (next : ℕ → Parser Expr) (p : Place) (n : List ℕ) (ds : List Dim) (m : Mode) (ts rest : Tokens) → brackets next (length ts) mode.Either [] ts ≡ Ok ((ds, m), rest)
    → named_head next (token p (kind.Name n) ∷ ts) ≡ Ok (named (record { place = p; text = n }) ds m, rest)
unfolding named_head take_name
named_reads next p n ds m ts rest x = ap (λ (r : Outcome (List Dim × Mode)). and_then r (λ r. pure (named (record { place = p; text = n }) r.0 r.1))) x

pub dims_read : (next : ℕ → Parser Expr) (ds : List Dim) (m : Mode) (ts rest : Tokens) → brackets next (length ts) mode.Type [] ts ≡ Ok ((ds, m), rest) → dims next ts ≡ Ok (ds, rest)
unfolding dims
dims_read next ds m ts rest x = ap (λ (r : Outcome (List Dim × Mode)). and_then r (λ r. pure r.0)) x

pub basic_reads : (next : ℕ → Parser Expr) (b : Basic) (p : Place) (w : Key) (ds : List Dim) (ts rest : Tokens) → dims next ts ≡ Ok (ds, rest) → basic_head next b (word p w ∷ ts) ≡ Ok (keyword p b ds, rest)
unfolding basic_head
basic_reads next b p w ds ts rest x = ap (λ (r : Outcome (List Dim)). and_then r (λ ds. pure (keyword p b ds))) x

applied_chain : (next : ℕ → Parser Expr) (p : Place) (n : List ℕ) (ds : List Dim) (m : Mode) (rest : Tokens) → may_be_index m ≡ true → sees punct.LeftParen rest ≡ false
    → applied next (named (record { place = p; text = n }) ds m) rest ≡ Ok (index_all (e.Name p n) ds, rest)
unfolding applied
applied_chain next p n ds m rest may h = rw h (rw may refl)

-- a name with its indexes
pub operand_chain : (next : ℕ → Parser Expr) (p : Place) (n : List ℕ) (ds : List Dim) (m : Mode) (ts rest : Tokens) → brackets next (length ts) mode.Either [] ts ≡ Ok ((ds, m), rest) → may_be_index m ≡ true → sees punct.LeftParen rest ≡ false
    → operand next (token p (kind.Name n) ∷ ts) ≡ Ok (index_all (e.Name p n) ds, rest)
unfolding operand start_at
operand_chain next p n ds m ts rest x may h = ap (λ (r : Outcome Head). and_then r (applied next)) (named_reads next p n ds m ts rest x) ∙ applied_chain next p n ds m rest may h

-- ---- behind operands and their operators

tailed_question_by : (next : ℕ → Parser Expr) (least : ℕ) (p q : Place) (a b c : Expr) (ys zs rest : Tokens) → nat_le least 2 ≡ true → next 0 ys ≡ Ok (b, sign q punct.Colon ∷ zs) → next 1 zs ≡ Ok (c, rest)
    → tailed_as next least a tail.Question (sign p punct.Question ∷ ys) ≡ Ok (e.Conditional p a b c, rest)
unfolding expect sees
tailed_question_by next least p q a b c ys zs rest h x y =
    rw h (ap (λ (r : Outcome Expr). and_then r (λ b. expect punct.Colon >>= λ _. next 1 >>= λ c. pure (e.Conditional p a b c))) x ∙ ap (λ (r : Outcome Expr). and_then r (λ c. pure (e.Conditional p a b c))) y)

pub tailed_question : (next : ℕ → Parser Expr) (least : ℕ) (p q : Place) (a b c : Expr) (ys zs rest : Tokens) → least ≤ 2 → next 0 ys ≡ Ok (b, sign q punct.Colon ∷ zs) → next 1 zs ≡ Ok (c, rest)
    → tailed next least a (sign p punct.Question ∷ ys) ≡ Ok (e.Conditional p a b c, rest)
unfolding tailed
tailed_question next least p q a b c ys zs rest h x y = ap (λ (t : Tail). tailed_as next least a t (sign p punct.Question ∷ ys)) (question_tail p ys) ∙ tailed_question_by next least p q a b c ys zs rest (le-leb least 2 h) x y

tailed_assign_by : (next : ℕ → Parser Expr) (least : ℕ) (p : Place) (m : Punct) (o : AssignOp) (a b : Expr) (ys rest : Tokens) → nat_le least 1 ≡ true → is_tight a ≡ true → next 1 ys ≡ Ok (b, rest)
    → tailed_as next least a (tail.Assign o) (sign p m ∷ ys) ≡ Ok (e.Assign p o a b, rest)
tailed_assign_by next least p m o a b ys rest h t x = rw h (rw t (ap (λ (r : Outcome Expr). and_then r (λ b. pure (e.Assign p o a b))) x))

pub tailed_assign : (next : ℕ → Parser Expr) (least : ℕ) (p : Place) (m : Punct) (o : AssignOp) (a b : Expr) (ys rest : Tokens) → least ≤ 1 → assign_of m ≡ Some o → is_tight a ≡ true → next 1 ys ≡ Ok (b, rest)
    → tailed next least a (sign p m ∷ ys) ≡ Ok (e.Assign p o a b, rest)
unfolding tailed
tailed_assign next least p m o a b ys rest h is t x = ap (λ (s : Tail). tailed_as next least a s (sign p m ∷ ys)) (assign_tail p m o ys is) ∙ tailed_assign_by next least p m o a b ys rest (le-leb least 1 h) t x

pub further_comma : (next : ℕ → Parser Expr) (n : ℕ) (p : Place) (found : List (Place × Expr)) (b : Expr) (zs rest : Tokens) → next 1 zs ≡ Ok (b, rest) → further next (suc n) found (sign p punct.Comma ∷ zs) ≡ further next n (found ++ (p, b) ∷ []) rest
unfolding further sees
further_comma next n p found b zs rest x = ap (λ (r : Outcome Expr). and_then r (λ b. further next n (found ++ (p, b) ∷ []))) x

pub sequenced_more : (next : ℕ → Parser Expr) (a : Expr) (b : Place × Expr) (bs : List (Place × Expr)) (ts rest : Tokens) → further next (length ts) [] ts ≡ Ok (b ∷ bs, rest) → sequenced next 0 a ts ≡ Ok (e.Sequence a (b ∷ bs), rest)
unfolding sequenced
sequenced_more next a b bs ts rest x = ap (λ (r : Outcome (List (Place × Expr))). and_then r (λ bs. pure (sequence_of a bs))) x
