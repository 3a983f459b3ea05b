-- What a token that goes on with an expression tells.
use Rattle.std.proofs.Common.{◌≡◌, refl, ap, ◌≤◌, ◌<◌, false, [], ◌∷◌, Some, arith}
use Rattle.gsl_base.specs.declared.fault.Place.{Place}
use Rattle.gsl_base.specs.declared.token.Punct.{Punct}
use Rattle.gsl_base.specs.declared.token.Punct.TheVariants as punct
use Rattle.gsl_base.specs.declared.token.Kind.{Kind}
use Rattle.gsl_base.specs.declared.token.Kind.TheVariants as kind
use Rattle.gsl_syntax.specs.declared.operator.BinaryOp.{BinaryOp}
use Rattle.gsl_syntax.specs.declared.operator.AssignOp.{AssignOp}
use Rattle.gsl_syntax.specs.declared.operator.PostfixOp.{PostfixOp}
use Rattle.gsl_syntax.specs.declared.operator.PostfixOp.TheVariants as postfix
use Rattle.gsl_syntax.specs.Operators.{binary_of, assign_of, postfix_of}
use Rattle.gsl_syntax.specs.Phrases.{sign}
use Rattle.gsl_expr.specs.declared.rule.Follow.{Follow}
use Rattle.gsl_expr.specs.declared.rule.Follow.TheVariants as follow
use Rattle.gsl_expr.specs.declared.rule.Tail.TheVariants as tail
use Rattle.gsl_expr.specs.Rules.{follow_binary, follow_punct, follow_by, follow_at, binds, tail_assign, tail_punct, tail_at}
use Rattle.gsl_expr.specs.Reading.{Tokens, is_punct, sees}
use Rattle.gsl_expr.proofs.SoundLevels.{level_most}

-- no brackets and no parenthesis stand next
pub record Apart (ts : Tokens) : Type 0 where
  pub bracket : sees punct.LeftBracket ts ≡ false
  pub paren : sees punct.LeftParen ts ≡ false

-- ---- levels

no_fourteen : (f : Follow) → binds f ≤ 14 → binds f < 14
no_fourteen (follow.Binary o) h = let high = level_most o in omega arith
no_fourteen follow.Index h = absurd (omega arith)
no_fourteen follow.Member h = absurd (omega arith)
no_fourteen (follow.Postfix o) h = absurd (omega arith)
no_fourteen follow.End h = omega arith

pub below_fourteen : (ts : Tokens) → binds (follow_at ts) ≤ 14 → binds (follow_at ts) < 14
below_fourteen ts h = no_fourteen (follow_at ts) h

no_bracket : (k : Kind) → binds (follow_by k) < 15 → is_punct punct.LeftBracket k ≡ false
no_bracket (kind.Name n) h = refl
no_bracket (kind.Key w) h = refl
no_bracket (kind.Signed n) h = refl
no_bracket (kind.Unsigned n) h = refl
no_bracket (kind.Punct punct.LeftBracket) h = absurd (omega arith)
no_bracket (kind.Punct m) h = refl

pub loose_no_bracket : (ts : Tokens) → binds (follow_at ts) < 15 → sees punct.LeftBracket ts ≡ false
unfolding follow_at sees
loose_no_bracket [] h = refl
loose_no_bracket (t ∷ ts) h = no_bracket t.kind h

pub end_binds : (ts : Tokens) → follow_at ts ≡ follow.End → binds (follow_at ts) ≡ 0
end_binds ts h = ap binds h

-- ---- operators between operands

binary_follows_by : (m : Punct) (o : BinaryOp) → binary_of m ≡ Some o → follow_punct m ≡ follow.Binary o
binary_follows_by punct.LeftBracket o h = absurd cc
binary_follows_by punct.Dot o h = absurd cc
binary_follows_by punct.IncOp o h = absurd cc
binary_follows_by punct.DecOp o h = absurd cc
binary_follows_by m o h = ap follow_binary h

pub binary_follows : (p : Place) (m : Punct) (o : BinaryOp) (zs : Tokens) → binary_of m ≡ Some o → follow_at (sign p m ∷ zs) ≡ follow.Binary o
unfolding follow_at
binary_follows p m o zs h = binary_follows_by m o h

binary_no_paren : (m : Punct) (o : BinaryOp) → binary_of m ≡ Some o → is_punct punct.LeftParen (kind.Punct m) ≡ false
binary_no_paren punct.LeftParen o h = absurd cc
binary_no_paren m o h = refl

binary_no_bracket : (m : Punct) (o : BinaryOp) → binary_of m ≡ Some o → is_punct punct.LeftBracket (kind.Punct m) ≡ false
binary_no_bracket punct.LeftBracket o h = absurd cc
binary_no_bracket m o h = refl

pub binary_apart : (p : Place) (m : Punct) (o : BinaryOp) (zs : Tokens) → binary_of m ≡ Some o → Apart (sign p m ∷ zs)
unfolding sees
binary_apart p m o zs h = record { bracket = binary_no_bracket m o h; paren = binary_no_paren m o h }

-- ---- assignments

assign_follows_by : (m : Punct) (o : AssignOp) → assign_of m ≡ Some o → follow_punct m ≡ follow.End
assign_follows_by punct.Equal o h = refl
assign_follows_by punct.AddAssign o h = refl
assign_follows_by punct.SubAssign o h = refl
assign_follows_by punct.MulAssign o h = refl
assign_follows_by punct.DivAssign o h = refl
assign_follows_by punct.ModAssign o h = refl
assign_follows_by punct.LeftAssign o h = refl
assign_follows_by punct.RightAssign o h = refl
assign_follows_by punct.AndAssign o h = refl
assign_follows_by punct.XorAssign o h = refl
assign_follows_by punct.OrAssign o h = refl
assign_follows_by m o h = absurd cc

pub assign_follows : (p : Place) (m : Punct) (o : AssignOp) (zs : Tokens) → assign_of m ≡ Some o → follow_at (sign p m ∷ zs) ≡ follow.End
unfolding follow_at
assign_follows p m o zs h = assign_follows_by m o h

assign_tail_by : (m : Punct) (o : AssignOp) → assign_of m ≡ Some o → tail_punct m ≡ tail.Assign o
assign_tail_by punct.Question o h = absurd cc
assign_tail_by m o h = ap tail_assign h

pub assign_tail : (p : Place) (m : Punct) (o : AssignOp) (zs : Tokens) → assign_of m ≡ Some o → tail_at (sign p m ∷ zs) ≡ tail.Assign o
unfolding tail_at
assign_tail p m o zs h = assign_tail_by m o h

assign_no_paren : (m : Punct) (o : AssignOp) → assign_of m ≡ Some o → is_punct punct.LeftParen (kind.Punct m) ≡ false
assign_no_paren punct.LeftParen o h = absurd cc
assign_no_paren m o h = refl

assign_no_bracket : (m : Punct) (o : AssignOp) → assign_of m ≡ Some o → is_punct punct.LeftBracket (kind.Punct m) ≡ false
assign_no_bracket punct.LeftBracket o h = absurd cc
assign_no_bracket m o h = refl

pub assign_apart : (p : Place) (m : Punct) (o : AssignOp) (zs : Tokens) → assign_of m ≡ Some o → Apart (sign p m ∷ zs)
unfolding sees
assign_apart p m o zs h = record { bracket = assign_no_bracket m o h; paren = assign_no_paren m o h }

-- ---- operators behind an operand

postfix_follows_by : (m : Punct) (o : PostfixOp) → postfix_of m ≡ Some o → follow_punct m ≡ follow.Postfix o
postfix_follows_by punct.IncOp o h = let same : postfix.Increment ≡ o = cc in ap follow.Postfix same
postfix_follows_by punct.DecOp o h = let same : postfix.Decrement ≡ o = cc in ap follow.Postfix same
postfix_follows_by m o h = absurd cc

pub postfix_follows : (p : Place) (m : Punct) (o : PostfixOp) (zs : Tokens) → postfix_of m ≡ Some o → follow_at (sign p m ∷ zs) ≡ follow.Postfix o
unfolding follow_at
postfix_follows p m o zs h = postfix_follows_by m o h

postfix_no_paren : (m : Punct) (o : PostfixOp) → postfix_of m ≡ Some o → is_punct punct.LeftParen (kind.Punct m) ≡ false
postfix_no_paren punct.LeftParen o h = absurd cc
postfix_no_paren m o h = refl

postfix_no_bracket : (m : Punct) (o : PostfixOp) → postfix_of m ≡ Some o → is_punct punct.LeftBracket (kind.Punct m) ≡ false
postfix_no_bracket punct.LeftBracket o h = absurd cc
postfix_no_bracket m o h = refl

pub postfix_apart : (p : Place) (m : Punct) (o : PostfixOp) (zs : Tokens) → postfix_of m ≡ Some o → Apart (sign p m ∷ zs)
unfolding sees
postfix_apart p m o zs h = record { bracket = postfix_no_bracket m o h; paren = postfix_no_paren m o h }

-- ---- single punctuators

pub index_follows : (p : Place) (zs : Tokens) → follow_at (sign p punct.LeftBracket ∷ zs) ≡ follow.Index
unfolding follow_at
index_follows p zs = refl

pub index_no_paren : (p : Place) (zs : Tokens) → sees punct.LeftParen (sign p punct.LeftBracket ∷ zs) ≡ false
unfolding sees
index_no_paren p zs = refl

pub member_follows : (p : Place) (zs : Tokens) → follow_at (sign p punct.Dot ∷ zs) ≡ follow.Member
unfolding follow_at
member_follows p zs = refl

pub member_apart : (p : Place) (zs : Tokens) → Apart (sign p punct.Dot ∷ zs)
unfolding sees
member_apart p zs = record { bracket = refl; paren = refl }

pub question_follows : (p : Place) (zs : Tokens) → follow_at (sign p punct.Question ∷ zs) ≡ follow.End
unfolding follow_at
question_follows p zs = refl

pub question_tail : (p : Place) (zs : Tokens) → tail_at (sign p punct.Question ∷ zs) ≡ tail.Question
unfolding tail_at
question_tail p zs = refl

pub question_apart : (p : Place) (zs : Tokens) → Apart (sign p punct.Question ∷ zs)
unfolding sees
question_apart p zs = record { bracket = refl; paren = refl }
