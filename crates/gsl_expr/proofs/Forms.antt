-- Each form of an expression, from what its parts give the reader.
use Rattle.std.proofs.Common.{◌≡◌, refl, sym, ap, ◌∙◌, inl, inr, ℕ, zero, suc, ◌+◌, ◌≤◌, Bool, true, false, List, [], ◌∷◌, ◌++◌, length, Some, Ok, max, append_assoc, append-nil, length-append, if◌then◌else◌, arith}
use Rattle.gsl_base.specs.declared.fault.Place.{Place}
use Rattle.gsl_base.specs.declared.token.Punct.{Punct}
use Rattle.gsl_base.specs.declared.token.Punct.TheVariants as punct
use Rattle.gsl_base.specs.declared.token.Key.{Key}
use Rattle.gsl_base.specs.declared.token.Key.TheVariants as key
use Rattle.gsl_base.specs.declared.token.Kind.TheVariants as kind
use Rattle.gsl_base.specs.declared.token.Token.{Token}
use Rattle.gsl_syntax.specs.declared.expr.Basic.{Basic}
use Rattle.gsl_syntax.specs.declared.expr.Expr.{Expr}
use Rattle.gsl_syntax.specs.declared.expr.Expr.TheVariants as e
use Rattle.gsl_syntax.specs.declared.expr.TypeSpec.{TypeSpec}
use Rattle.gsl_syntax.specs.declared.expr.TypeSpec.TheVariants as ty
use Rattle.gsl_syntax.specs.declared.expr.Dim.{Dim}
use Rattle.gsl_syntax.specs.declared.expr.Dim.TheVariants as dim
use Rattle.gsl_syntax.specs.declared.operator.BinaryOp.{BinaryOp}
use Rattle.gsl_syntax.specs.declared.operator.AssignOp.{AssignOp}
use Rattle.gsl_syntax.specs.declared.operator.UnaryOp.{UnaryOp}
use Rattle.gsl_syntax.specs.declared.operator.PostfixOp.{PostfixOp}
use Rattle.gsl_syntax.specs.Operators.{binary_of, level_of, assign_of, unary_of, postfix_of, basic_of}
use Rattle.gsl_syntax.specs.Phrases.{token, sign, word}
use Rattle.gsl_expr.specs.declared.rule.Start.TheVariants as start
use Rattle.gsl_expr.specs.declared.rule.Mode.{Mode}
use Rattle.gsl_expr.specs.declared.rule.Mode.TheVariants as mode
use Rattle.gsl_expr.specs.Rules.{start_at, follow_at, binds}
use Rattle.gsl_expr.specs.Reading.{Tokens, Outcome, and_then, sees}
use Rattle.gsl_expr.specs.Expressions.{is_cond, is_tight, named, keyword, mode_after, level_in, may_be_open, brackets, items, arguments, operand, operate, further, sequenced, expr}
use Rattle.gsl_expr.proofs.Ends.{Ends, Heads, right_paren_ends, right_bracket_ends, colon_ends, comma_ends, bracket_not_left_paren, ends_too}
use Rattle.gsl_expr.proofs.Openings.{Opens, opens_at, not_right_paren, not_right_bracket, basic_starts}
use Rattle.gsl_expr.proofs.SoundLevels.{level_least, level_most, level_in_low}
use Rattle.gsl_expr.proofs.Signs.{Apart, below_fourteen, loose_no_bracket, binary_follows, binary_apart, assign_follows, assign_apart, postfix_follows, postfix_apart, index_follows, index_no_paren, member_follows, member_apart, question_follows, question_apart}
use Rattle.gsl_expr.proofs.Climbing.{single, Climbs, climb_step, climb_from, climbs_at, climb_single, further_stop, expr_is}
use Rattle.gsl_expr.proofs.Pieces.{operate_index, operate_member, operate_method, operate_postfix, operate_binary, operand_signed, operand_unsigned, operand_true, operand_false, operand_paren, operand_unary, operand_call, arguments_none, arguments_void, arguments_some, items_comma, items_close, brackets_stop, brackets_open, brackets_sized, named_reads, dims_read, basic_reads, tailed_question, tailed_assign, further_comma, sequenced_more}
use Rattle.gsl_expr.proofs.Standing.{Joins, Stands, Given, regroup, regroup_two, longer, chain_name, chain_more, stands_climb, stands_single, stands_tight}
use Rattle.gsl_expr.proofs.Standing.Stands.{chained, joined, tailed as with_tail, listed}

-- what is read before a token that ends it
given_before : {k : ℕ} {b : Expr} {ys : Tokens} → Given k b ys → (d least : ℕ) (t : Token) (zs rest : Tokens) → length ((ys ++ t ∷ zs) ++ rest) ≤ d → least ≤ k → least ≤ 2 → Ends least (t ∷ (zs ++ rest))
    → expr d least ((ys ++ t ∷ zs) ++ rest) ≡ Ok (b, t ∷ (zs ++ rest))
given_before {ys = ys} g d least t zs rest fits at two ends =
    let same : (ys ++ t ∷ zs) ++ rest ≡ ys ++ t ∷ (zs ++ rest) = regroup ys t zs rest in
    ap (expr d least) same ∙ g.reads d least (t ∷ (zs ++ rest)) (omega (arith, ap length same)) at two ends

-- ---- operands

-- an operand that ends with itself
joins_operand : (k : ℕ) (a : Expr) (xs : Tokens) → ((d : ℕ) (rest : Tokens) → length (xs ++ rest) ≤ suc d → operand (expr d) (xs ++ rest) ≡ Ok (a, rest)) → Stands k a xs
joins_operand k a xs f = joined (k + 15) (omega arith) (omega arith) (record { climbs = λ d low rest fits at loose paren. climb_from (expr d) low (xs ++ rest) a rest (f d rest fits) })

pub stands_name : (k : ℕ) (p : Place) (n : List ℕ) → Stands k (e.Name p n) (token p (kind.Name n) ∷ [])
stands_name k p n = chained (chain_name p n)

pub stands_signed : (k : ℕ) (p : Place) (n : ℕ) → Stands k (e.Signed p n) (token p (kind.Signed n) ∷ [])
stands_signed k p n = joins_operand k (e.Signed p n) (token p (kind.Signed n) ∷ []) (λ d rest fits. operand_signed (expr d) p n rest)

pub stands_unsigned : (k : ℕ) (p : Place) (n : ℕ) → Stands k (e.Unsigned p n) (token p (kind.Unsigned n) ∷ [])
stands_unsigned k p n = joins_operand k (e.Unsigned p n) (token p (kind.Unsigned n) ∷ []) (λ d rest fits. operand_unsigned (expr d) p n rest)

pub stands_true : (k : ℕ) (p : Place) → Stands k (e.Bool p true) (word p key.True ∷ [])
stands_true k p = joins_operand k (e.Bool p true) (word p key.True ∷ []) (λ d rest fits. operand_true (expr d) p rest)

pub stands_false : (k : ℕ) (p : Place) → Stands k (e.Bool p false) (word p key.False ∷ [])
stands_false k p = joins_operand k (e.Bool p false) (word p key.False ∷ []) (λ d rest fits. operand_false (expr d) p rest)

pub stands_paren : {a : Expr} {xs : Tokens} (k : ℕ) (p q : Place) → Given 0 a xs → Stands k (e.Paren p a) (sign p punct.LeftParen ∷ (xs ++ sign q punct.RightParen ∷ []))
stands_paren {a = a} {xs = xs} k p q g =
    joins_operand k (e.Paren p a) (sign p punct.LeftParen ∷ (xs ++ sign q punct.RightParen ∷ []))
    (λ d rest fits. operand_paren (expr d) p q a ((xs ++ sign q punct.RightParen ∷ []) ++ rest) rest (given_before g d 0 (sign q punct.RightParen) [] rest (omega arith) (omega arith) (omega arith) (right_paren_ends 0 q rest)))

pub stands_unary : {k : ℕ} {a : Expr} {xs : Tokens} (p : Place) (m : Punct) (o : UnaryOp) → unary_of m ≡ Some o → k ≤ 14 → Stands 14 a xs → 1 ≤ length xs → Stands k (e.Unary p o a) (sign p m ∷ xs)
stands_unary {a = a} {xs = xs} p m o is le s some = joined 14 le (omega arith) (record { climbs = go })
  where
    go : (d low : ℕ) (rest : Tokens) → length (sign p m ∷ (xs ++ rest)) ≤ suc d → low ≤ 14 → binds (follow_at rest) ≤ 14 → sees punct.LeftParen rest ≡ false → Climbs (expr d) low (sign p m ∷ (xs ++ rest)) (e.Unary p o a) rest
    go d low rest fits at loose paren =
        let below = below_fourteen rest loose in
        climb_from (expr d) low (sign p m ∷ (xs ++ rest)) (e.Unary p o a) rest
        (operand_unary (expr d) p m o a (xs ++ rest) rest is
        (stands_tight s some d 14 rest (omega arith) (omega arith) (omega arith) below (record { bracket = loose_no_bracket rest (omega arith); paren = paren })))

-- ---- what stands behind an operand

joins_step : {j : ℕ} {a t : Expr} (xs : Tokens) (tok : Token) (us : Tokens)
    → ((d low : ℕ) (rest : Tokens) → length (xs ++ tok ∷ (us ++ rest)) ≤ suc d → low ≤ j → Climbs (expr d) low (xs ++ tok ∷ (us ++ rest)) a (tok ∷ (us ++ rest)))
    → ((rest : Tokens) → binds (follow_at (tok ∷ (us ++ rest))) ≡ j)
    → ((d : ℕ) (rest : Tokens) → length (us ++ rest) ≤ d → binds (follow_at rest) ≤ j → sees punct.LeftParen rest ≡ false → operate (expr d) a (tok ∷ (us ++ rest)) ≡ Ok (t, rest))
    → Joins j t (xs ++ tok ∷ us)
joins_step {j = j} {a = a} {t = t} xs tok us f tight o = record { climbs = go }
  where
    go : (d low : ℕ) (rest : Tokens) → length ((xs ++ tok ∷ us) ++ rest) ≤ suc d → low ≤ j → binds (follow_at rest) ≤ j → sees punct.LeftParen rest ≡ false → Climbs (expr d) low ((xs ++ tok ∷ us) ++ rest) t rest
    go d low rest fits at loose paren =
        let same : (xs ++ tok ∷ us) ++ rest ≡ xs ++ tok ∷ (us ++ rest) = regroup xs tok us rest in
        let long = longer xs tok (us ++ rest) in
        let level = tight rest in
        climbs_at same (climb_step (expr d) low (xs ++ tok ∷ (us ++ rest)) a tok (us ++ rest) t rest
        (f d low rest (omega (arith, ap length same)) at)
        (omega arith)
        (o d rest (omega (arith, ap length same)) loose paren)
        (omega (arith, length-append us rest)))

-- where what stands behind is no bracket
joins_apart : {j : ℕ} {a t : Expr} {xs : Tokens} (tok : Token) (us : Tokens) → Stands j a xs → 3 ≤ j → ((zs : Tokens) → Apart (tok ∷ zs)) → ((zs : Tokens) → binds (follow_at (tok ∷ zs)) ≡ j)
    → ((d : ℕ) (rest : Tokens) → length (us ++ rest) ≤ d → binds (follow_at rest) ≤ j → sees punct.LeftParen rest ≡ false → operate (expr d) a (tok ∷ (us ++ rest)) ≡ Ok (t, rest))
    → Joins j t (xs ++ tok ∷ us)
joins_apart {xs = xs} tok us s three apart tight o =
    joins_step xs tok us
    (λ d low rest fits at. let level = tight (us ++ rest) in stands_climb s three d low (tok ∷ (us ++ rest)) fits at (omega arith) (apart (us ++ rest)))
    (λ rest. tight (us ++ rest))
    o

pub stands_index : {k : ℕ} {a b : Expr} {xs ys : Tokens} (p q : Place) → k ≤ 15 → Stands 15 a xs → Given 0 b ys → Stands k (e.Index p a b) (xs ++ sign p punct.LeftBracket ∷ (ys ++ sign q punct.RightBracket ∷ []))
stands_index p q le (chained c) g = chained (chain_more p q c g)
stands_index {a = a} {b = b} {xs = xs} {ys = ys} p q le (joined j high three f) g =
    joined 15 le (omega arith) (joins_step xs (sign p punct.LeftBracket) (ys ++ sign q punct.RightBracket ∷ [])
    (λ d low rest fits at. let zs = (ys ++ sign q punct.RightBracket ∷ []) ++ rest in let level = ap binds (index_follows p zs) in f.climbs d low (sign p punct.LeftBracket ∷ zs) fits (omega arith) (omega arith) (index_no_paren p zs))
    (λ rest. ap binds (index_follows p ((ys ++ sign q punct.RightBracket ∷ []) ++ rest)))
    (λ d rest fits loose paren. operate_index (expr d) p q a b ((ys ++ sign q punct.RightBracket ∷ []) ++ rest) rest
    (given_before g d 0 (sign q punct.RightBracket) [] rest fits (omega arith) (omega arith) (right_bracket_ends 0 q rest))))
stands_index p q le (with_tail j high two f) g = absurd (omega arith)
stands_index p q le (listed z f) g = absurd (omega arith)

pub stands_member : {k : ℕ} {a : Expr} {xs : Tokens} (p q : Place) (n : List ℕ) → k ≤ 15 → Stands 15 a xs → Stands k (e.Member p a n) (xs ++ sign p punct.Dot ∷ (token q (kind.Name n) ∷ []))
stands_member {a = a} p q n le s =
    joined 15 le (omega arith) (joins_apart (sign p punct.Dot) (token q (kind.Name n) ∷ []) s (omega arith) (member_apart p) (λ zs. ap binds (member_follows p zs))
    (λ d rest fits loose paren. operate_member (expr d) p q a n rest paren))

pub stands_method : {k : ℕ} {a : Expr} {xs : Tokens} (p q o c : Place) (n : List ℕ) → k ≤ 15 → Stands 15 a xs
    → Stands k (e.Method p a n) (xs ++ sign p punct.Dot ∷ (token q (kind.Name n) ∷ (sign o punct.LeftParen ∷ (sign c punct.RightParen ∷ []))))
stands_method {a = a} p q o c n le s =
    joined 15 le (omega arith) (joins_apart (sign p punct.Dot) (token q (kind.Name n) ∷ (sign o punct.LeftParen ∷ (sign c punct.RightParen ∷ []))) s (omega arith) (member_apart p) (λ zs. ap binds (member_follows p zs))
    (λ d rest fits loose paren. operate_method (expr d) p q o c a n rest))

pub stands_postfix : {k : ℕ} {a : Expr} {xs : Tokens} (p : Place) (m : Punct) (o : PostfixOp) → postfix_of m ≡ Some o → k ≤ 15 → Stands 15 a xs → Stands k (e.Postfix p o a) (xs ++ sign p m ∷ [])
stands_postfix {a = a} p m o is le s =
    joined 15 le (omega arith) (joins_apart (sign p m) [] s (omega arith) (λ zs. postfix_apart p m o zs is) (λ zs. ap binds (postfix_follows p m o zs is))
    (λ d rest fits loose paren. operate_postfix (expr d) p m o a rest is))

pub stands_binary : {k : ℕ} {a b : Expr} {xs ys : Tokens} (p : Place) (m : Punct) (o : BinaryOp) → binary_of m ≡ Some o → k ≤ level_of o → Stands (level_of o) a xs → Stands (level_of o + 1) b ys → 1 ≤ length ys
    → Stands k (e.Binary p o a b) (xs ++ sign p m ∷ ys)
stands_binary {a = a} {b = b} {ys = ys} p m o is le s t some =
    let three = level_least o in
    let high = level_most o in
    joined (level_of o) le three (joins_apart (sign p m) ys s three (λ zs. binary_apart p m o zs is) (λ zs. ap binds (binary_follows p m o zs is))
    (λ d rest fits loose paren. operate_binary (expr d) p m o a b (ys ++ rest) rest is
    (stands_tight t some d (level_of o + 1) rest fits (omega arith) (omega arith) (omega arith) (record { bracket = loose_no_bracket rest (omega arith); paren = paren }))))

-- ---- conditions and assignments

pub stands_conditional : {k : ℕ} {a b c : Expr} {xs ys zs : Tokens} (p q : Place) → k ≤ 2 → Stands 3 a xs → Given 0 b ys → Given 1 c zs → Stands k (e.Conditional p a b c) (xs ++ sign p punct.Question ∷ (ys ++ sign q punct.Colon ∷ zs))
stands_conditional {a = a} {b = b} {c = c} {xs = xs} {ys = ys} {zs = zs} p q le s g h = with_tail 2 le (omega arith) (record { reads = go })
  where
    go : (d least : ℕ) (rest : Tokens) → length ((xs ++ sign p punct.Question ∷ (ys ++ sign q punct.Colon ∷ zs)) ++ rest) ≤ suc d → least ≤ 2 → Ends 1 rest
        → single (expr d) least ((xs ++ sign p punct.Question ∷ (ys ++ sign q punct.Colon ∷ zs)) ++ rest) ≡ Ok (e.Conditional p a b c, rest)
    go d least rest fits at ends =
        let us = (ys ++ sign q punct.Colon ∷ zs) ++ rest in
        let same : (xs ++ sign p punct.Question ∷ (ys ++ sign q punct.Colon ∷ zs)) ++ rest ≡ xs ++ sign p punct.Question ∷ us = regroup xs (sign p punct.Question) (ys ++ sign q punct.Colon ∷ zs) rest in
        let long = longer xs (sign p punct.Question) us in
        let inner : us ≡ ys ++ sign q punct.Colon ∷ (zs ++ rest) = regroup ys (sign q punct.Colon) zs rest in
        let more = longer ys (sign q punct.Colon) (zs ++ rest) in
        let none = ap binds (question_follows p us) in
        ap (single (expr d) least) same
        ∙ climb_single (expr d) least (xs ++ sign p punct.Question ∷ us) a (sign p punct.Question ∷ us)
        (stands_climb s (omega arith) d (max least 3) (sign p punct.Question ∷ us) (omega (arith, ap length same)) (omega arith) (omega arith) (question_apart p us)) (omega arith)
        ∙ tailed_question (expr d) least p q a b c us (zs ++ rest) rest at
        (given_before g d 0 (sign q punct.Colon) zs rest (omega (arith, ap length same)) (omega arith) (omega arith) (colon_ends 0 q (zs ++ rest)))
        (h.reads d 1 rest (omega (arith, ap length same, ap length inner)) (omega arith) (omega arith) ends)

pub stands_assign : {k : ℕ} {a b : Expr} {xs ys : Tokens} (p : Place) (m : Punct) (o : AssignOp) → assign_of m ≡ Some o → k ≤ 1 → Stands 14 a xs → is_tight a ≡ true → Given 1 b ys → Stands k (e.Assign p o a b) (xs ++ sign p m ∷ ys)
stands_assign {a = a} {b = b} {xs = xs} {ys = ys} p m o is le s tight g = with_tail 1 le (omega arith) (record { reads = go })
  where
    go : (d least : ℕ) (rest : Tokens) → length ((xs ++ sign p m ∷ ys) ++ rest) ≤ suc d → least ≤ 1 → Ends 1 rest → single (expr d) least ((xs ++ sign p m ∷ ys) ++ rest) ≡ Ok (e.Assign p o a b, rest)
    go d least rest fits at ends =
        let us = ys ++ rest in
        let same : (xs ++ sign p m ∷ ys) ++ rest ≡ xs ++ sign p m ∷ us = regroup xs (sign p m) ys rest in
        let long = longer xs (sign p m) us in
        let none = ap binds (assign_follows p m o us is) in
        ap (single (expr d) least) same
        ∙ climb_single (expr d) least (xs ++ sign p m ∷ us) a (sign p m ∷ us)
        (stands_climb s (omega arith) d (max least 3) (sign p m ∷ us) (omega (arith, ap length same)) (omega arith) (omega arith) (assign_apart p m o us is)) (omega arith)
        ∙ tailed_assign (expr d) least p m o a b us rest at is tight (g.reads d 1 rest (omega (arith, ap length same)) (omega arith) (omega arith) ends)

-- ---- commas

-- one or more, each behind a comma
pub record Commas (bs : List (Place × Expr)) (ys : Tokens) : Type 0 where
  pub sequence : (a : Expr) (d : ℕ) (ts rest : Tokens) → further (expr d) (length ts) [] ts ≡ Ok (bs, rest) → sequenced (expr d) 0 a ts ≡ Ok (e.Sequence a bs, rest)
  pub ends : (rest : Tokens) → Ends 1 (ys ++ rest)
  pub reads : (d fuel : ℕ) (found : List (Place × Expr)) (rest : Tokens) → length (ys ++ rest) ≤ suc d → length (ys ++ rest) ≤ fuel → Ends 0 rest → further (expr d) fuel found (ys ++ rest) ≡ Ok (found ++ bs, rest)

pub commas_last : {a : Expr} {xs : Tokens} (p : Place) → Given 1 a xs → Commas ((p, a) ∷ []) (sign p punct.Comma ∷ xs)
commas_last {a = a} {xs = xs} p g = record { sequence = λ b d ts rest x. sequenced_more (expr d) b (p, a) [] ts rest x; ends = λ rest. comma_ends 1 p (xs ++ rest) (omega arith); reads = go }
  where
    go : (d fuel : ℕ) (found : List (Place × Expr)) (rest : Tokens) → length (sign p punct.Comma ∷ (xs ++ rest)) ≤ suc d → length (sign p punct.Comma ∷ (xs ++ rest)) ≤ fuel → Ends 0 rest
        → further (expr d) fuel found (sign p punct.Comma ∷ (xs ++ rest)) ≡ Ok (found ++ (p, a) ∷ [], rest)
    go d zero found rest fits most ends = absurd (omega arith)
    go d (suc n) found rest fits most ends =
        further_comma (expr d) n p found a (xs ++ rest) rest (g.reads d 1 rest (omega arith) (omega arith) (omega arith) (ends_too (omega arith) ends)) ∙ further_stop (expr d) n (found ++ (p, a) ∷ []) rest (ends.comma refl)

pub commas_more : {a : Expr} {bs : List (Place × Expr)} {xs ys : Tokens} (p : Place) → Given 1 a xs → 1 ≤ length xs → Commas bs ys → Commas ((p, a) ∷ bs) (sign p punct.Comma ∷ (xs ++ ys))
commas_more {a = a} {bs = bs} {xs = xs} {ys = ys} p g some c = record { sequence = λ b d ts rest x. sequenced_more (expr d) b (p, a) bs ts rest x; ends = λ rest. comma_ends 1 p ((xs ++ ys) ++ rest) (omega arith); reads = go }
  where
    go : (d fuel : ℕ) (found : List (Place × Expr)) (rest : Tokens) → length (sign p punct.Comma ∷ ((xs ++ ys) ++ rest)) ≤ suc d → length (sign p punct.Comma ∷ ((xs ++ ys) ++ rest)) ≤ fuel → Ends 0 rest
        → further (expr d) fuel found (sign p punct.Comma ∷ ((xs ++ ys) ++ rest)) ≡ Ok (found ++ (p, a) ∷ bs, rest)
    go d zero found rest fits most ends = absurd (omega arith)
    go d (suc n) found rest fits most ends =
        let same : (xs ++ ys) ++ rest ≡ xs ++ (ys ++ rest) = append_assoc xs ys rest in
        let long = length-append xs (ys ++ rest) in
        further_comma (expr d) n p found a ((xs ++ ys) ++ rest) (ys ++ rest) (ap (expr d 1) same ∙ g.reads d 1 (ys ++ rest) (omega (arith, ap length same)) (omega arith) (omega arith) (c.ends rest))
        ∙ c.reads d n (found ++ (p, a) ∷ []) rest (omega (arith, ap length same)) (omega (arith, ap length same)) ends
        ∙ ap (λ (z : List (Place × Expr)). Ok (z, rest)) (append_assoc found ((p, a) ∷ []) bs)

pub stands_sequence : {k : ℕ} {a : Expr} {bs : List (Place × Expr)} {xs ys : Tokens} → k ≤ 0 → Stands 1 a xs → Commas bs ys → Stands k (e.Sequence a bs) (xs ++ ys)
stands_sequence {a = a} {bs = bs} {xs = xs} {ys = ys} le s c = listed le (record { reads = go })
  where
    go : (d : ℕ) (rest : Tokens) → length ((xs ++ ys) ++ rest) ≤ suc d → Ends 0 rest → expr (suc d) 0 ((xs ++ ys) ++ rest) ≡ Ok (e.Sequence a bs, rest)
    go d rest fits ends =
        let same : (xs ++ ys) ++ rest ≡ xs ++ (ys ++ rest) = append_assoc xs ys rest in
        let long = length-append xs (ys ++ rest) in
        ap (expr (suc d) 0) same
        ∙ expr_is d 0 (xs ++ (ys ++ rest))
        ∙ ap (λ (r : Outcome Expr). and_then r (sequenced (expr d) 0)) (stands_single s (omega arith) d 0 (ys ++ rest) (omega (arith, ap length same)) (omega arith) (omega arith) (c.ends rest))
        ∙ c.sequence a d (ys ++ rest) rest (c.reads d (length (ys ++ rest)) [] rest (omega (arith, ap length same)) (omega arith) ends)

-- ---- arguments

-- one or more, with commas between, and the parenthesis behind
pub record Listed (bs : List Expr) (ys : Tokens) : Type 0 where
  pub reads : (d fuel : ℕ) (found : List Expr) (q : Place) (rest : Tokens) → length (ys ++ sign q punct.RightParen ∷ rest) ≤ d → length (ys ++ sign q punct.RightParen ∷ rest) ≤ fuel
      → items (expr d) fuel found (ys ++ sign q punct.RightParen ∷ rest) ≡ Ok (found ++ bs, rest)
  pub opens : (rest : Tokens) → Opens (ys ++ rest)

-- what stands between the parentheses of a call
pub record Called (bs : List Expr) (ys : Tokens) : Type 0 where
  pub reads : (d : ℕ) (t : TypeSpec) (q : Place) (rest : Tokens) → length (ys ++ sign q punct.RightParen ∷ rest) ≤ d → arguments (expr d) t (ys ++ sign q punct.RightParen ∷ rest) ≡ Ok (e.Call t bs, rest)

pub listed_one : {a : Expr} {xs : Tokens} → Given 1 a xs → Listed (a ∷ []) xs
listed_one {a = a} {xs = xs} g = record { reads = go; opens = g.opens }
  where
    go : (d fuel : ℕ) (found : List Expr) (q : Place) (rest : Tokens) → length (xs ++ sign q punct.RightParen ∷ rest) ≤ d → length (xs ++ sign q punct.RightParen ∷ rest) ≤ fuel
        → items (expr d) fuel found (xs ++ sign q punct.RightParen ∷ rest) ≡ Ok (found ++ a ∷ [], rest)
    go d zero found q rest fits most = absurd (omega (arith, longer xs (sign q punct.RightParen) rest))
    go d (suc n) found q rest fits most = items_close (expr d) n q found a (xs ++ sign q punct.RightParen ∷ rest) rest (g.reads d 1 (sign q punct.RightParen ∷ rest) fits (omega arith) (omega arith) (right_paren_ends 1 q rest))

pub listed_more : {a : Expr} {bs : List Expr} {xs ys : Tokens} (p : Place) → Given 1 a xs → Listed bs ys → Listed (a ∷ bs) (xs ++ sign p punct.Comma ∷ ys)
listed_more {a = a} {bs = bs} {xs = xs} {ys = ys} p g l = record { reads = go; opens = λ rest. opens_at (regroup xs (sign p punct.Comma) ys rest) (g.opens (sign p punct.Comma ∷ (ys ++ rest))) }
  where
    go : (d fuel : ℕ) (found : List Expr) (q : Place) (rest : Tokens) → length ((xs ++ sign p punct.Comma ∷ ys) ++ sign q punct.RightParen ∷ rest) ≤ d → length ((xs ++ sign p punct.Comma ∷ ys) ++ sign q punct.RightParen ∷ rest) ≤ fuel
        → items (expr d) fuel found ((xs ++ sign p punct.Comma ∷ ys) ++ sign q punct.RightParen ∷ rest) ≡ Ok (found ++ a ∷ bs, rest)
    go d zero found q rest fits most = absurd (omega (arith, longer (xs ++ sign p punct.Comma ∷ ys) (sign q punct.RightParen) rest))
    go d (suc n) found q rest fits most =
        let us = ys ++ sign q punct.RightParen ∷ rest in
        let same : (xs ++ sign p punct.Comma ∷ ys) ++ sign q punct.RightParen ∷ rest ≡ xs ++ sign p punct.Comma ∷ us = regroup xs (sign p punct.Comma) ys (sign q punct.RightParen ∷ rest) in
        let long = longer xs (sign p punct.Comma) us in
        ap (items (expr d) (suc n) found) same
        ∙ items_comma (expr d) n p found a (xs ++ sign p punct.Comma ∷ us) us (g.reads d 1 (sign p punct.Comma ∷ us) (omega (arith, ap length same)) (omega arith) (omega arith) (comma_ends 1 p us (omega arith)))
        ∙ l.reads d n (found ++ a ∷ []) q rest (omega (arith, ap length same)) (omega (arith, ap length same))
        ∙ ap (λ (z : List Expr). Ok (z, rest)) (append_assoc found (a ∷ []) bs)

pub called_none : Called [] []
called_none = record { reads = λ d t q rest fits. arguments_none (expr d) t q rest }

pub called_some : {bs : List Expr} {ys : Tokens} → Listed bs ys → Called bs ys
called_some {bs = bs} {ys = ys} l = record {
  reads = λ d t q rest fits. let o = l.opens (sign q punct.RightParen ∷ rest) in
      arguments_some (expr d) t (ys ++ sign q punct.RightParen ∷ rest) bs rest (not_right_paren (ys ++ sign q punct.RightParen ∷ rest) o.good) o.some_call
      (l.reads d (length (ys ++ sign q punct.RightParen ∷ rest)) [] q rest fits (omega arith));
}

-- ---- types

-- The brackets up to rest are read as ds.
pub record Closed (d fuel : ℕ) (m : Mode) (before ds : List Dim) (ts rest : Tokens) : Type 0 where
  pub behind : Mode
  pub may_open : may_be_open behind ≡ true
  pub is : brackets (expr d) fuel m before ts ≡ Ok ((before ++ ds, behind), rest)

-- brackets of a type
pub record Sizes (ds : List Dim) (ys : Tokens) : Type 0 where
  pub reads : (d fuel : ℕ) (m : Mode) (before : List Dim) (rest : Tokens) → length (ys ++ rest) ≤ suc d → length (ys ++ rest) ≤ fuel → may_be_open m ≡ true → sees punct.LeftBracket rest ≡ false
      → Closed d fuel m before ds (ys ++ rest) rest

pub record Types (t : TypeSpec) (xs : Tokens) : Type 0 where
  pub heads : (d : ℕ) (rest : Tokens) → length (xs ++ rest) ≤ suc d → sees punct.LeftBracket rest ≡ false → Heads d t (xs ++ rest) rest

pub sizes_none : Sizes [] []
sizes_none = record { reads = λ d fuel m before rest fits most may apart. record { behind = m; may_open = may; is = brackets_stop (expr d) fuel m before rest apart ∙ ap (λ (z : List Dim). Ok ((z, m), rest)) (sym (append-nil before)) } }

pub sizes_open : {ds : List Dim} {ys : Tokens} (p q : Place) → Sizes ds ys → Sizes (dim.Open p ∷ ds) (sign p punct.LeftBracket ∷ (sign q punct.RightBracket ∷ ys))
sizes_open {ds = ds} {ys = ys} p q s = record { reads = go }
  where
    go : (d fuel : ℕ) (m : Mode) (before : List Dim) (rest : Tokens) → length (sign p punct.LeftBracket ∷ (sign q punct.RightBracket ∷ (ys ++ rest))) ≤ suc d
        → length (sign p punct.LeftBracket ∷ (sign q punct.RightBracket ∷ (ys ++ rest))) ≤ fuel → may_be_open m ≡ true → sees punct.LeftBracket rest ≡ false
        → Closed d fuel m before (dim.Open p ∷ ds) (sign p punct.LeftBracket ∷ (sign q punct.RightBracket ∷ (ys ++ rest))) rest
    go d zero m before rest fits most may apart = absurd (omega arith)
    go d (suc n) m before rest fits most may apart =
        let c = s.reads d n mode.Type (before ++ dim.Open p ∷ []) rest (omega arith) (omega arith) refl apart in
        record {
          behind = c.behind;
          may_open = c.may_open;
          is = brackets_open (expr d) n m before p q (ys ++ rest) may ∙ c.is ∙ ap (λ (z : List Dim). Ok ((z, c.behind), rest)) (append_assoc before (dim.Open p ∷ []) ds);
        }

open_by : (c : Bool) → c ≡ true → may_be_open (if c then mode.Either else mode.Index) ≡ true
open_by true h = refl
open_by false h = absurd cc

open_after : (m : Mode) (b : Expr) → may_be_open m ≡ true → is_cond b ≡ true → may_be_open (mode_after m b) ≡ true
open_after mode.Either b h c = open_by (is_cond b) c
open_after mode.Type b h c = refl
open_after mode.Index b h c = absurd cc

pub sizes_sized : {b : Expr} {ds : List Dim} {zs ys : Tokens} (p q : Place) → Given 2 b zs → is_cond b ≡ true → Sizes ds ys → Sizes (dim.Sized p b ∷ ds) (sign p punct.LeftBracket ∷ (zs ++ sign q punct.RightBracket ∷ ys))
sizes_sized {b = b} {ds = ds} {zs = zs} {ys = ys} p q g cond s = record { reads = go }
  where
    go : (d fuel : ℕ) (m : Mode) (before : List Dim) (rest : Tokens) → length (sign p punct.LeftBracket ∷ ((zs ++ sign q punct.RightBracket ∷ ys) ++ rest)) ≤ suc d
        → length (sign p punct.LeftBracket ∷ ((zs ++ sign q punct.RightBracket ∷ ys) ++ rest)) ≤ fuel → may_be_open m ≡ true → sees punct.LeftBracket rest ≡ false
        → Closed d fuel m before (dim.Sized p b ∷ ds) (sign p punct.LeftBracket ∷ ((zs ++ sign q punct.RightBracket ∷ ys) ++ rest)) rest
    go d zero m before rest fits most may apart = absurd (omega arith)
    go d (suc n) m before rest fits most may apart =
        let us = (zs ++ sign q punct.RightBracket ∷ ys) ++ rest in
        let same : us ≡ zs ++ sign q punct.RightBracket ∷ (ys ++ rest) = regroup zs (sign q punct.RightBracket) ys rest in
        let long = longer zs (sign q punct.RightBracket) (ys ++ rest) in
        let small = level_in_low m in
        let o = opens_at same (g.opens (sign q punct.RightBracket ∷ (ys ++ rest))) in
        let c = s.reads d n (mode_after m b) (before ++ dim.Sized p b ∷ []) rest (omega (arith, ap length same)) (omega (arith, ap length same)) (open_after m b may cond) apart in
        record {
          behind = c.behind;
          may_open = c.may_open;
          is = brackets_sized (expr d) n m before p q b us (ys ++ rest) (not_right_bracket us o.good) (given_before g d (level_in m) (sign q punct.RightBracket) ys rest (omega arith) small small (right_bracket_ends (level_in m) q (ys ++ rest)))
              ∙ c.is
              ∙ ap (λ (z : List Dim). Ok ((z, c.behind), rest)) (append_assoc before (dim.Sized p b ∷ []) ds);
        }

name_starts : (p : Place) (n : List ℕ) (ts : Tokens) → start_at (token p (kind.Name n) ∷ ts) ≡ start.Name
unfolding start_at
name_starts p n ts = refl

pub types_named : {ds : List Dim} {xs : Tokens} (p : Place) (n : List ℕ) → Sizes ds xs → Types (ty.Named p n ds) (token p (kind.Name n) ∷ xs)
types_named {ds = ds} {xs = xs} p n s = record {
  heads = λ d rest fits apart. let c = s.reads d (length (xs ++ rest)) mode.Either [] rest (omega arith) (omega arith) refl apart in
      record { head = named (record { place = p; text = n }) ds c.behind; type_is = refl; may_open = c.may_open; reads = inl (name_starts p n (xs ++ rest), named_reads (expr d) p n ds c.behind (xs ++ rest) rest c.is) };
}

pub types_basic : {ds : List Dim} {xs : Tokens} (p : Place) (w : Key) (b : Basic) → basic_of w ≡ Some b → Sizes ds xs → Types (ty.Basic p b ds) (word p w ∷ xs)
types_basic {ds = ds} {xs = xs} p w b is s = record {
  heads = λ d rest fits apart. let c = s.reads d (length (xs ++ rest)) mode.Type [] rest (omega arith) (omega arith) refl apart in
      record {
        head = keyword p b ds;
        type_is = refl;
        may_open = refl;
        reads = inr (b, basic_starts p w b (xs ++ rest) is, basic_reads (expr d) b p w ds (xs ++ rest) rest (dims_read (expr d) ds c.behind (xs ++ rest) rest c.is));
      };
}

-- ---- calls

pub stands_call : {t : TypeSpec} {bs : List Expr} {xs ys : Tokens} (k : ℕ) (o q : Place) → Types t xs → Called bs ys → Stands k (e.Call t bs) (xs ++ sign o punct.LeftParen ∷ (ys ++ sign q punct.RightParen ∷ []))
stands_call {t = t} {bs = bs} {xs = xs} {ys = ys} k o q ts c = joins_operand k (e.Call t bs) (xs ++ sign o punct.LeftParen ∷ (ys ++ sign q punct.RightParen ∷ [])) go
  where
    go : (d : ℕ) (rest : Tokens) → length ((xs ++ sign o punct.LeftParen ∷ (ys ++ sign q punct.RightParen ∷ [])) ++ rest) ≤ suc d
        → operand (expr d) ((xs ++ sign o punct.LeftParen ∷ (ys ++ sign q punct.RightParen ∷ [])) ++ rest) ≡ Ok (e.Call t bs, rest)
    go d rest fits =
        let us = ys ++ sign q punct.RightParen ∷ rest in
        let same : (xs ++ sign o punct.LeftParen ∷ (ys ++ sign q punct.RightParen ∷ [])) ++ rest ≡ xs ++ sign o punct.LeftParen ∷ us = regroup_two xs (sign o punct.LeftParen) ys (sign q punct.RightParen) [] rest in
        let long = longer xs (sign o punct.LeftParen) us in
        ap (operand (expr d)) same
        ∙ operand_call d t (xs ++ sign o punct.LeftParen ∷ us) o us (e.Call t bs) rest (ts.heads d (sign o punct.LeftParen ∷ us) (omega (arith, ap length same)) (bracket_not_left_paren o us)) (c.reads d t q rest (omega (arith, ap length same)))

pub stands_call_void : {t : TypeSpec} {xs : Tokens} (k : ℕ) (o v q : Place) → Types t xs → Stands k (e.CallVoid t) (xs ++ sign o punct.LeftParen ∷ (word v key.Void ∷ (sign q punct.RightParen ∷ [])))
stands_call_void {t = t} {xs = xs} k o v q ts = joins_operand k (e.CallVoid t) (xs ++ sign o punct.LeftParen ∷ (word v key.Void ∷ (sign q punct.RightParen ∷ []))) go
  where
    go : (d : ℕ) (rest : Tokens) → length ((xs ++ sign o punct.LeftParen ∷ (word v key.Void ∷ (sign q punct.RightParen ∷ []))) ++ rest) ≤ suc d
        → operand (expr d) ((xs ++ sign o punct.LeftParen ∷ (word v key.Void ∷ (sign q punct.RightParen ∷ []))) ++ rest) ≡ Ok (e.CallVoid t, rest)
    go d rest fits =
        let us = word v key.Void ∷ (sign q punct.RightParen ∷ rest) in
        let same : (xs ++ sign o punct.LeftParen ∷ (word v key.Void ∷ (sign q punct.RightParen ∷ []))) ++ rest ≡ xs ++ sign o punct.LeftParen ∷ us = regroup xs (sign o punct.LeftParen) (word v key.Void ∷ (sign q punct.RightParen ∷ [])) rest in
        ap (operand (expr d)) same
        ∙ operand_call d t (xs ++ sign o punct.LeftParen ∷ us) o us (e.CallVoid t) rest (ts.heads d (sign o punct.LeftParen ∷ us) (omega (arith, ap length same)) (bracket_not_left_paren o us)) (arguments_void (expr d) t v q rest)
