-- Where the tokens of an expression do not nest too deeply, neither do its arms: each stands behind a token that is counted.
use Rattle.std.proofs.Common.{◌≡◌, refl, subst, ℕ, ◌+◌, ◌≤◌, le_refl, pred, Bool, true, false, ◌⊎◌, inl, inr, List, [], ◌∷◌, ◌++◌, Some, append_assoc, arith}
use Rattle.gsl_base.specs.declared.fault.Place.{Place}
use Rattle.gsl_base.specs.declared.token.Punct.{Punct}
use Rattle.gsl_base.specs.declared.token.Punct.TheVariants as punct
use Rattle.gsl_base.specs.declared.token.Key.{Key}
use Rattle.gsl_base.specs.declared.token.Key.TheVariants as key
use Rattle.gsl_base.specs.declared.token.Kind.TheVariants as kind
use Rattle.gsl_syntax.specs.declared.nesting.Counter.{Counter}
use Rattle.gsl_syntax.specs.declared.operator.BinaryOp.{BinaryOp}
use Rattle.gsl_syntax.specs.declared.operator.BinaryOp.TheVariants as binary_op
use Rattle.gsl_syntax.specs.declared.operator.AssignOp.{AssignOp}
use Rattle.gsl_syntax.specs.declared.operator.UnaryOp.{UnaryOp}
use Rattle.gsl_syntax.specs.declared.operator.PostfixOp.{PostfixOp}
use Rattle.gsl_syntax.specs.declared.expr.Basic.{Basic}
use Rattle.gsl_syntax.specs.declared.expr.Expr.{Expr}
use Rattle.gsl_syntax.specs.declared.expr.TypeSpec.{TypeSpec}
use Rattle.gsl_syntax.specs.declared.expr.Dim.{Dim}
use Rattle.gsl_syntax.specs.Nesting.{Counters, counted, fresh}
use Rattle.gsl_syntax.specs.Operators.{binary_of, assign_of, unary_of, postfix_of, basic_of, level_of}
use Rattle.gsl_syntax.specs.Phrases.{Tokens, token, sign, word, IsExpr, IsFurther, IsArguments, IsItems, IsType, IsDims}
use Rattle.gsl_syntax.specs.Phrases.IsExpr.{name, signed, unsigned, truth, falsity, paren, call_void, call, index, member, method, postfix, unary, binary, conditional, assign, sequence}
use Rattle.gsl_syntax.specs.Phrases.IsFurther.{last, further}
use Rattle.gsl_syntax.specs.Phrases.IsArguments.{no_argument, arguments}
use Rattle.gsl_syntax.specs.Phrases.IsItems.{one, more}
use Rattle.gsl_syntax.specs.Phrases.IsType.{basic, named}
use Rattle.gsl_syntax.specs.Phrases.IsDims.{no_dims, open_pair, sized}
use Rattle.gsl_formed.specs.Nested.{expr_arms}
use Rattle.gsl_formed.proofs.Arms as arms
use Rattle.gsl_formed.proofs.Arms.{item_arms, further_arms, binary_most}
use Rattle.gsl_parse_law.proofs.Steps.{At, Any, any, Room, none_fit, quiet, after_name, plus_one, IsCounted, after_counted, chosen, after_question, decided, after_colon, IsKept, after_comma, into_paren, into_bracket, out_of_paren, out_of_bracket, weaker}

-- ---- tokens of operators and types

pub binary_counted : (m : Punct) (o : BinaryOp) → binary_of m ≡ Some o → IsCounted m
binary_counted punct.LeftParen o h = absurd cc
binary_counted punct.RightParen o h = absurd cc
binary_counted punct.LeftBracket o h = absurd cc
binary_counted punct.RightBracket o h = absurd cc
binary_counted punct.LeftBrace o h = absurd cc
binary_counted punct.RightBrace o h = absurd cc
binary_counted punct.Comma o h = absurd cc
binary_counted punct.Semicolon o h = absurd cc
binary_counted punct.Colon o h = absurd cc
binary_counted punct.Question o h = absurd cc
binary_counted m o h = λ list on s. refl

pub assign_counted : (m : Punct) (o : AssignOp) → assign_of m ≡ Some o → IsCounted m
assign_counted punct.LeftParen o h = absurd cc
assign_counted punct.RightParen o h = absurd cc
assign_counted punct.LeftBracket o h = absurd cc
assign_counted punct.RightBracket o h = absurd cc
assign_counted punct.LeftBrace o h = absurd cc
assign_counted punct.RightBrace o h = absurd cc
assign_counted punct.Comma o h = absurd cc
assign_counted punct.Semicolon o h = absurd cc
assign_counted punct.Colon o h = absurd cc
assign_counted punct.Question o h = absurd cc
assign_counted m o h = λ list on s. refl

pub unary_counted : (m : Punct) (o : UnaryOp) → unary_of m ≡ Some o → IsCounted m
unary_counted punct.LeftParen o h = absurd cc
unary_counted punct.RightParen o h = absurd cc
unary_counted punct.LeftBracket o h = absurd cc
unary_counted punct.RightBracket o h = absurd cc
unary_counted punct.LeftBrace o h = absurd cc
unary_counted punct.RightBrace o h = absurd cc
unary_counted punct.Comma o h = absurd cc
unary_counted punct.Semicolon o h = absurd cc
unary_counted punct.Colon o h = absurd cc
unary_counted punct.Question o h = absurd cc
unary_counted m o h = λ list on s. refl

pub postfix_counted : (m : Punct) (o : PostfixOp) → postfix_of m ≡ Some o → IsCounted m
postfix_counted punct.LeftParen o h = absurd cc
postfix_counted punct.RightParen o h = absurd cc
postfix_counted punct.LeftBracket o h = absurd cc
postfix_counted punct.RightBracket o h = absurd cc
postfix_counted punct.LeftBrace o h = absurd cc
postfix_counted punct.RightBrace o h = absurd cc
postfix_counted punct.Comma o h = absurd cc
postfix_counted punct.Semicolon o h = absurd cc
postfix_counted punct.Colon o h = absurd cc
postfix_counted punct.Question o h = absurd cc
postfix_counted m o h = λ list on s. refl

abbrev pub IsQuiet : Key → Type 0
IsQuiet w = (list label on : Bool) (s : Counters) → counted list label on (kind.Key w) s ≡ s

pub basic_quiet : (w : Key) (b : Basic) → basic_of w ≡ Some b → IsQuiet w
basic_quiet key.Case b h = absurd cc
basic_quiet key.Default b h = absurd cc
basic_quiet key.If b h = absurd cc
basic_quiet key.Else b h = absurd cc
basic_quiet key.Do b h = absurd cc
basic_quiet key.For b h = absurd cc
basic_quiet key.While b h = absurd cc
basic_quiet key.Switch b h = absurd cc
basic_quiet w b h = λ list label on s. refl

-- ---- pieces

pub apart : {b : Counter} {o : List Counter} (xs ys rest : Tokens) → Any b o ((xs ++ ys) ++ rest) → Any b o (xs ++ (ys ++ rest))
apart {b = b} {o = o} xs ys rest x = subst (Any b o) (append_assoc xs ys rest) x

pub at_apart : {list label : Bool} {b : Counter} {o : List Counter} (xs ys rest : Tokens) → At list label b o ((xs ++ ys) ++ rest) → At list label b o (xs ++ (ys ++ rest))
at_apart {list = list} {label = label} {b = b} {o = o} xs ys rest x = subst (At list label b o) (append_assoc xs ys rest) x

pub less_one : {b : Counter} {o : List Counter} {ts : Tokens} → Any (plus_one b) o ts → Any b o ts
less_one {b = b} x = weaker (record { value = omega arith; choices = omega arith; words = omega arith; list = refl }) x

one_back : (n : ℕ) → n ≤ pred (n + 1)
one_back n = omega arith

closed_choice : (b : Counter) {o : List Counter} {ts : Tokens} → Any (decided (chosen b)) o ts → Any (plus_one b) o ts
closed_choice b x = weaker (record { value = le_refl (b.value + 1); choices = one_back b.choices; words = le_refl b.words; list = refl }) x

-- what a top keeps in an expression of this level
abbrev pub Keeps : ℕ → Counter → Type 0
Keeps k b = (1 ≤ k) ⊎ IsKept b

pub kept_fresh : (k : ℕ) → Keeps k (fresh false)
kept_fresh k = inr (inl (omega arith))

kept_low : (k : ℕ) (b : Counter) → k ≤ 0 → Keeps k b → IsKept b
kept_low k b le (inl h) = absurd (omega (arith, le, h))
kept_low k b le (inr h) = h

level_some : (o : BinaryOp) → 1 ≤ level_of o
level_some binary_op.LogicalOr = omega arith
level_some binary_op.LogicalXor = omega arith
level_some binary_op.LogicalAnd = omega arith
level_some binary_op.BitOr = omega arith
level_some binary_op.BitXor = omega arith
level_some binary_op.BitAnd = omega arith
level_some binary_op.Equal = omega arith
level_some binary_op.NotEqual = omega arith
level_some binary_op.Less = omega arith
level_some binary_op.Greater = omega arith
level_some binary_op.LessEqual = omega arith
level_some binary_op.GreaterEqual = omega arith
level_some binary_op.ShiftLeft = omega arith
level_some binary_op.ShiftRight = omega arith
level_some binary_op.Add = omega arith
level_some binary_op.Sub = omega arith
level_some binary_op.Mul = omega arith
level_some binary_op.Div = omega arith
level_some binary_op.Mod = omega arith

-- arms that fit, and what stands behind them
abbrev pub Walks : Counter → List Counter → ℕ → Tokens → Type 0
Walks b o n rest = Room b o n × Any b o rest

mutual
  pub expr_walks : {k : ℕ} {a : Expr} {xs : Tokens} → IsExpr k a xs → {b : Counter} {o : List Counter} (rest : Tokens) → Keeps k b → Any b o (xs ++ rest) → Walks b o (expr_arms a) rest
  expr_walks (name {p = p} {n = n}) rest keeps x = let fit = none_fit x in let same = arms.arms_Name p n in (omega (arith, fit, same), any (after_name p n x))
  expr_walks (signed {p = p} {n = n}) rest keeps x = let fit = none_fit x in let same = arms.arms_Signed p n in (omega (arith, fit, same), any (quiet p (kind.Signed n) (λ list label on s. refl) x))
  expr_walks (unsigned {p = p} {n = n}) rest keeps x = let fit = none_fit x in let same = arms.arms_Unsigned p n in (omega (arith, fit, same), any (quiet p (kind.Unsigned n) (λ list label on s. refl) x))
  expr_walks (truth {p = p}) rest keeps x = let fit = none_fit x in let same = arms.arms_Bool p true in (omega (arith, fit, same), any (quiet p (kind.Key key.True) (λ list label on s. refl) x))
  expr_walks (falsity {p = p}) rest keeps x = let fit = none_fit x in let same = arms.arms_Bool p false in (omega (arith, fit, same), any (quiet p (kind.Key key.False) (λ list label on s. refl) x))
  expr_walks (paren {p = p} {a = a} {xs = xs} q y) rest keeps x =
      let inside = into_paren p x in
      let r = expr_walks y (sign q punct.RightParen ∷ rest) (kept_fresh 0) (apart xs (sign q punct.RightParen ∷ []) rest (any inside.at)) in
      let same = arms.arms_Paren p a in
      let least = inside.least.value in
      let fit = r.0 in
      (omega (arith, same, least, fit), less_one (any (out_of_paren q inside.least r.1)))
  expr_walks (call_void {t = t} {xs = xs} o v q y) rest keeps x =
      let at = type_walks y (sign o punct.LeftParen ∷ (word v key.Void ∷ (sign q punct.RightParen ∷ rest))) (apart xs (sign o punct.LeftParen ∷ (word v key.Void ∷ (sign q punct.RightParen ∷ []))) rest x) in
      let inside = into_paren o at in
      let void = quiet v (kind.Key key.Void) (λ list label on s. refl) (any inside.at) in
      let fit = none_fit at in
      let same = arms.arms_CallVoid t in
      (omega (arith, fit, same), less_one (any (out_of_paren q inside.least (any void))))
  expr_walks (call {t = t} {bs = bs} {xs = xs} {ys = ys} o q y z) rest keeps x =
      let at = type_walks y (sign o punct.LeftParen ∷ ((ys ++ sign q punct.RightParen ∷ []) ++ rest)) (apart xs (sign o punct.LeftParen ∷ (ys ++ sign q punct.RightParen ∷ [])) rest x) in
      let inside = into_paren o at in
      let r = arguments_walk z (sign q punct.RightParen ∷ rest) (inl (omega arith)) (apart ys (sign q punct.RightParen ∷ []) rest (any inside.at)) in
      let same = arms.arms_Call t bs in
      let least = inside.least.value in
      let fit = r.0 in
      (omega (arith, same, least, fit), less_one (any (out_of_paren q inside.least r.1)))
  expr_walks (index {p = p} {a = a} {b = c} {xs = xs} {ys = ys} q le y z) rest keeps x =
      let first = expr_walks y (sign p punct.LeftBracket ∷ ((ys ++ sign q punct.RightBracket ∷ []) ++ rest)) (inl (omega arith)) (apart xs (sign p punct.LeftBracket ∷ (ys ++ sign q punct.RightBracket ∷ [])) rest x) in
      let inside = into_bracket p first.1 in
      let r = expr_walks z (sign q punct.RightBracket ∷ rest) (kept_fresh 0) (apart ys (sign q punct.RightBracket ∷ []) rest (any inside.at)) in
      let same = arms.arms_Index p a c in
      let least = inside.least.value in
      let front = first.0 in
      let fit = r.0 in
      (omega (arith, same, least, front, fit), less_one (any (out_of_bracket q inside.least r.1)))
  expr_walks (member {p = p} {a = a} {n = n} {xs = xs} q le y) rest keeps x =
      let first = expr_walks y (sign p punct.Dot ∷ (token q (kind.Name n) ∷ rest)) (inl (omega arith)) (apart xs (sign p punct.Dot ∷ (token q (kind.Name n) ∷ [])) rest x) in
      let dot = after_counted p punct.Dot (λ list on s. refl) first.1 in
      let same = arms.arms_Member p a n in
      let fit = first.0 in
      (omega (arith, same, fit), less_one (any (after_name q n (any dot))))
  expr_walks (method {p = p} {a = a} {n = n} {xs = xs} q o c le y) rest keeps x =
      let first = expr_walks y (sign p punct.Dot ∷ (token q (kind.Name n) ∷ (sign o punct.LeftParen ∷ (sign c punct.RightParen ∷ rest)))) (inl (omega arith)) (apart xs (sign p punct.Dot ∷ (token q (kind.Name n) ∷ (sign o punct.LeftParen ∷ (sign c punct.RightParen ∷ [])))) rest x) in
      let dot = less_one (any (after_counted p punct.Dot (λ list on s. refl) first.1)) in
      let inside = into_paren o (any (after_name q n dot)) in
      let same = arms.arms_Method p a n in
      let fit = first.0 in
      (omega (arith, same, fit), less_one (any (out_of_paren c inside.least (any inside.at))))
  expr_walks (postfix {p = p} {o = o} {a = a} {xs = xs} m is le y) rest keeps x =
      let first = expr_walks y (sign p m ∷ rest) (inl (omega arith)) (apart xs (sign p m ∷ []) rest x) in
      let same = arms.arms_Postfix p o a in
      let fit = first.0 in
      (omega (arith, same, fit), less_one (any (after_counted p m (postfix_counted m o is) first.1)))
  expr_walks (unary {p = p} {o = o} {a = a} m is le y) rest keeps x =
      let r = expr_walks y rest (inl (omega arith)) (less_one (any (after_counted p m (unary_counted m o is) x))) in
      let same = arms.arms_Unary p o a in
      let fit = r.0 in
      (omega (arith, same, fit), r.1)
  expr_walks (binary {p = p} {o = o} {a = a} {b = c} {xs = xs} {ys = ys} m is le y z) rest keeps x =
      let first = expr_walks y (sign p m ∷ (ys ++ rest)) (inl (level_some o)) (apart xs (sign p m ∷ ys) rest x) in
      let second = expr_walks z rest (inl (omega arith)) (any (after_counted p m (binary_counted m o is) first.1)) in
      let same = arms.arms_Binary p o a c in
      let most = binary_most o (expr_arms a) (expr_arms c) in
      let front = first.0 in
      let fit = second.0 in
      (omega (arith, same, most, front, fit), less_one second.1)
  expr_walks (conditional {p = p} {a = a} {b = c} {c = d} {xs = xs} {ys = ys} {zs = zs} q le y z w) {b = b} rest keeps x =
      let first = expr_walks y (sign p punct.Question ∷ ((ys ++ sign q punct.Colon ∷ zs) ++ rest)) (inl (omega arith)) (apart xs (sign p punct.Question ∷ (ys ++ sign q punct.Colon ∷ zs)) rest x) in
      let second = expr_walks z (sign q punct.Colon ∷ (zs ++ rest)) (inr (inr (omega arith))) (apart ys (sign q punct.Colon ∷ zs) rest (any (after_question p first.1))) in
      let third = expr_walks w {b = plus_one b} rest (inl (omega arith)) (closed_choice b (any (after_colon q second.1))) in
      let same = arms.arms_Conditional p a c d in
      let front = first.0 in
      let middle = second.0 in
      let fit = third.0 in
      (omega (arith, same, front, middle, fit), less_one third.1)
  expr_walks (assign {p = p} {o = o} {a = a} {b = c} {xs = xs} {ys = ys} m is le y z) rest keeps x =
      let first = expr_walks y (sign p m ∷ (ys ++ rest)) (inl (omega arith)) (apart xs (sign p m ∷ ys) rest x) in
      let second = expr_walks z rest (inl (omega arith)) (any (after_counted p m (assign_counted m o is) first.1)) in
      let same = arms.arms_Assign p o a c in
      let front = first.0 in
      let fit = second.0 in
      (omega (arith, same, front, fit), less_one second.1)
  expr_walks (sequence {k = k} {a = a} {bs = bs} {xs = xs} {ys = ys} le y z) {b = b} rest keeps x =
      let first = expr_walks y (ys ++ rest) (inl (omega arith)) (apart xs ys rest x) in
      let second = further_walks z rest (kept_low k b le keeps) first.1 in
      let same = arms.arms_Sequence a bs in
      let front = first.0 in
      let fit = second.0 in
      (omega (arith, same, front, fit), second.1)

  further_walks : {bs : List (Place × Expr)} {xs : Tokens} → IsFurther bs xs → {b : Counter} {o : List Counter} (rest : Tokens) → IsKept b → Any b o (xs ++ rest) → Walks b o (further_arms bs) rest
  further_walks (last {p = p} y) rest kept x =
      let r = expr_walks y rest (inl (omega arith)) (any (after_comma p kept x)) in
      let fit = r.0 in
      (omega (arith, fit), r.1)
  further_walks (further {p = p} {xs = xs} {ys = ys} y z) rest kept x =
      let first = expr_walks y (ys ++ rest) (inl (omega arith)) (apart xs ys rest (any (after_comma p kept x))) in
      let second = further_walks z rest kept first.1 in
      let front = first.0 in
      let fit = second.0 in
      (omega (arith, front, fit), second.1)

  arguments_walk : {bs : List Expr} {xs : Tokens} → IsArguments bs xs → {b : Counter} {o : List Counter} (rest : Tokens) → IsKept b → Any b o (xs ++ rest) → Walks b o (item_arms bs) rest
  arguments_walk no_argument rest kept x = let fit = none_fit x in (omega (arith, fit), x)
  arguments_walk (arguments y) rest kept x = items_walk y rest kept x

  items_walk : {bs : List Expr} {xs : Tokens} → IsItems bs xs → {b : Counter} {o : List Counter} (rest : Tokens) → IsKept b → Any b o (xs ++ rest) → Walks b o (item_arms bs) rest
  items_walk (one y) rest kept x =
      let r = expr_walks y rest (inl (omega arith)) x in
      let fit = r.0 in
      (omega (arith, fit), r.1)
  items_walk (more {xs = xs} {ys = ys} p y z) rest kept x =
      let first = expr_walks y (sign p punct.Comma ∷ (ys ++ rest)) (inl (omega arith)) (apart xs (sign p punct.Comma ∷ ys) rest x) in
      let second = items_walk z rest kept (any (after_comma p kept first.1)) in
      let front = first.0 in
      let fit = second.0 in
      (omega (arith, front, fit), second.1)

  pub type_walks : {t : TypeSpec} {xs : Tokens} → IsType t xs → {b : Counter} {o : List Counter} (rest : Tokens) → Any b o (xs ++ rest) → Any b o rest
  type_walks (basic {p = p} {b = c} w is y) rest x = dims_walk y rest (any (quiet p (kind.Key w) (basic_quiet w c is) x))
  type_walks (named {p = p} {n = n} y) rest x = dims_walk y rest (any (after_name p n x))

  pub dims_walk : {ds : List Dim} {xs : Tokens} → IsDims ds xs → {b : Counter} {o : List Counter} (rest : Tokens) → Any b o (xs ++ rest) → Any b o rest
  dims_walk no_dims rest x = x
  dims_walk (open_pair {p = p} q y) rest x =
      let inside = into_bracket p x in dims_walk y rest (less_one (any (out_of_bracket q inside.least (any inside.at))))
  dims_walk (sized {p = p} {xs = xs} {ys = ys} q y z) rest x =
      let inside = into_bracket p x in
      let r = expr_walks y (sign q punct.RightBracket ∷ (ys ++ rest)) (kept_fresh 2) (apart xs (sign q punct.RightBracket ∷ ys) rest (any inside.at)) in
      dims_walk z rest (less_one (any (out_of_bracket q inside.least r.1)))
