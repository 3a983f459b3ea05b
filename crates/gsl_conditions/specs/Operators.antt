-- The operators of conditions and how tightly they bind (GLSL 4.50, 3.3).
use Rattle.std.specs.Prelude.{ℕ, Bool, true, false}
use Rattle.gsl_base.specs.declared.token.Punct.{Punct}
use Rattle.gsl_base.specs.declared.token.Punct.TheVariants.{LeftParen, RightParen, Plus, Dash, Tilde, Bang, Star, Slash, Percent, LeftOp, RightOp, LeftAngle, RightAngle, LeOp, GeOp, EqOp, NeOp, Ampersand, Caret, VerticalBar, AndOp, OrOp}
use Rattle.gsl_conditions.specs.declared.operator.Unary.{Unary}
use Rattle.gsl_conditions.specs.declared.operator.Unary.TheVariants.{Keep, Negate, Flip, Not}
use Rattle.gsl_conditions.specs.declared.operator.Binary.{Binary}
use Rattle.gsl_conditions.specs.declared.operator.Binary.TheVariants.{Mul, Div, Rem, Add, Sub, Shl, Shr, Less, Greater, LessEq, GreaterEq, Equal, Unequal, And, Xor, Or, Both, Either}
use Rattle.gsl_conditions.specs.declared.operator.Prefix.{Prefix}
use Rattle.gsl_conditions.specs.declared.operator.Prefix.TheVariants as due
use Rattle.gsl_conditions.specs.declared.operator.Infix.{Infix}
use Rattle.gsl_conditions.specs.declared.operator.Infix.TheVariants as after

-- what a punctuator is where an operand is due
abbrev pub prefix_of : Punct → Prefix
prefix_of LeftParen = due.Opens
prefix_of Plus = due.Sign Keep
prefix_of Dash = due.Sign Negate
prefix_of Tilde = due.Sign Flip
prefix_of Bang = due.Sign Not
prefix_of _ = due.Wrong

-- what a punctuator is behind an operand
abbrev pub infix_of : Punct → Infix
infix_of RightParen = after.Closes
infix_of Star = after.Joins Mul
infix_of Slash = after.Joins Div
infix_of Percent = after.Joins Rem
infix_of Plus = after.Joins Add
infix_of Dash = after.Joins Sub
infix_of LeftOp = after.Joins Shl
infix_of RightOp = after.Joins Shr
infix_of LeftAngle = after.Joins Less
infix_of RightAngle = after.Joins Greater
infix_of LeOp = after.Joins LessEq
infix_of GeOp = after.Joins GreaterEq
infix_of EqOp = after.Joins Equal
infix_of NeOp = after.Joins Unequal
infix_of Ampersand = after.Joins And
infix_of Caret = after.Joins Xor
infix_of VerticalBar = after.Joins Or
infix_of AndOp = after.Joins Both
infix_of OrOp = after.Joins Either
infix_of _ = after.Wrong

-- how tightly an operator binds: the greater, the tighter
abbrev pub level : Binary → ℕ
level Mul = 10
level Div = 10
level Rem = 10
level Add = 9
level Sub = 9
level Shl = 8
level Shr = 8
level Less = 7
level Greater = 7
level LessEq = 7
level GreaterEq = 7
level Equal = 6
level Unequal = 6
level And = 5
level Xor = 4
level Or = 3
level Both = 2
level Either = 1

abbrev pub is_prefix : Prefix → Bool
is_prefix due.Opens = true
is_prefix (due.Sign op) = true
is_prefix due.Wrong = false

-- whether the punctuator counts for the limit on nesting: `(`, `+`, `-`, `~` and `!`
abbrev pub nests : Punct → Bool
nests punct = is_prefix (prefix_of punct)
