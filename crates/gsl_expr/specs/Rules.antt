-- How the code reads, and not the rule, which stands in `Phrases.antt` and `Operators.antt` of `gsl_syntax`.
-- What the next token tells.
use Rattle.std.specs.Prelude.{ℕ, true, false, List, [], ◌∷◌, Option, Some, None}
use Rattle.gsl_base.specs.declared.token.Punct.{Punct}
use Rattle.gsl_base.specs.declared.token.Punct.TheVariants as punct
use Rattle.gsl_base.specs.declared.token.Key.{Key}
use Rattle.gsl_base.specs.declared.token.Key.TheVariants as key
use Rattle.gsl_base.specs.declared.token.Kind.{Kind}
use Rattle.gsl_base.specs.declared.token.Kind.TheVariants as kind
use Rattle.gsl_base.specs.declared.token.Token.{Token}
use Rattle.gsl_syntax.specs.declared.expr.Basic.{Basic}
use Rattle.gsl_syntax.specs.declared.operator.BinaryOp.{BinaryOp}
use Rattle.gsl_syntax.specs.declared.operator.AssignOp.{AssignOp}
use Rattle.gsl_syntax.specs.declared.operator.UnaryOp.{UnaryOp}
use Rattle.gsl_syntax.specs.declared.operator.PostfixOp.TheVariants as postfix
use Rattle.gsl_syntax.specs.Operators.{binary_of, level_of, assign_of, unary_of, basic_of}
use Rattle.gsl_expr.specs.declared.rule.Start.{Start}
use Rattle.gsl_expr.specs.declared.rule.Start.TheVariants as start
use Rattle.gsl_expr.specs.declared.rule.Follow.{Follow}
use Rattle.gsl_expr.specs.declared.rule.Follow.TheVariants as follow
use Rattle.gsl_expr.specs.declared.rule.Tail.{Tail}
use Rattle.gsl_expr.specs.declared.rule.Tail.TheVariants as tail

abbrev pub start_unary : Option UnaryOp → Start
start_unary (Some o) = start.Unary o
start_unary None = start.Bad

abbrev pub start_punct : Punct → Start
start_punct punct.LeftParen = start.Paren
start_punct m = start_unary (unary_of m)

abbrev pub start_basic : Option Basic → Start
start_basic (Some b) = start.Basic b
start_basic None = start.Bad

abbrev pub start_key : Key → Start
start_key key.True = start.Bool true
start_key key.False = start.Bool false
start_key w = start_basic (basic_of w)

abbrev pub start_by : Kind → Start
start_by (kind.Name n) = start.Name
start_by (kind.Key w) = start_key w
start_by (kind.Signed n) = start.Signed n
start_by (kind.Unsigned n) = start.Unsigned n
start_by (kind.Punct m) = start_punct m

-- how an operand begins with the next token
unfoldable pub start_at : List Token → Start
start_at [] = start.Bad
start_at (t ∷ ts) = start_by t.kind

abbrev pub follow_binary : Option BinaryOp → Follow
follow_binary (Some o) = follow.Binary o
follow_binary None = follow.End

abbrev pub follow_punct : Punct → Follow
follow_punct punct.LeftBracket = follow.Index
follow_punct punct.Dot = follow.Member
follow_punct punct.IncOp = follow.Postfix postfix.Increment
follow_punct punct.DecOp = follow.Postfix postfix.Decrement
follow_punct m = follow_binary (binary_of m)

abbrev pub follow_by : Kind → Follow
follow_by (kind.Punct m) = follow_punct m
follow_by _ = follow.End

-- how an operand goes on with the next token
unfoldable pub follow_at : List Token → Follow
follow_at [] = follow.End
follow_at (t ∷ ts) = follow_by t.kind

-- how tightly it binds what stands before it
abbrev pub binds : Follow → ℕ
binds follow.Index = 15
binds follow.Member = 15
binds (follow.Postfix o) = 15
binds (follow.Binary o) = level_of o
binds follow.End = 0

abbrev pub tail_assign : Option AssignOp → Tail
tail_assign (Some o) = tail.Assign o
tail_assign None = tail.End

abbrev pub tail_punct : Punct → Tail
tail_punct punct.Question = tail.Question
tail_punct m = tail_assign (assign_of m)

abbrev pub tail_by : Kind → Tail
tail_by (kind.Punct m) = tail_punct m
tail_by _ = tail.End

-- what the next token is behind operands and their operators
unfoldable pub tail_at : List Token → Tail
tail_at [] = tail.End
tail_at (t ∷ ts) = tail_by t.kind
