-- Operators and how tightly they bind (GLSL 4.50, 5.1).
use Rattle.std.specs.Prelude.{ℕ, Option, Some, None}
use Rattle.gsl_base.specs.declared.token.Punct.{Punct}
use Rattle.gsl_base.specs.declared.token.Punct.TheVariants as punct
use Rattle.gsl_base.specs.declared.token.Key.{Key}
use Rattle.gsl_base.specs.declared.token.Key.TheVariants as key
use Rattle.gsl_syntax.specs.declared.expr.Basic.{Basic}
use Rattle.gsl_syntax.specs.declared.expr.Basic.TheVariants as basic
use Rattle.gsl_syntax.specs.declared.operator.BinaryOp.{BinaryOp}
use Rattle.gsl_syntax.specs.declared.operator.BinaryOp.TheVariants as binary
use Rattle.gsl_syntax.specs.declared.operator.AssignOp.{AssignOp}
use Rattle.gsl_syntax.specs.declared.operator.AssignOp.TheVariants as assign
use Rattle.gsl_syntax.specs.declared.operator.UnaryOp.{UnaryOp}
use Rattle.gsl_syntax.specs.declared.operator.UnaryOp.TheVariants as unary
use Rattle.gsl_syntax.specs.declared.operator.PostfixOp.{PostfixOp}
use Rattle.gsl_syntax.specs.declared.operator.PostfixOp.TheVariants as postfix

-- the operator between two operands that a punctuator is
abbrev pub binary_of : Punct → Option BinaryOp
binary_of punct.OrOp = Some binary.LogicalOr
binary_of punct.XorOp = Some binary.LogicalXor
binary_of punct.AndOp = Some binary.LogicalAnd
binary_of punct.VerticalBar = Some binary.BitOr
binary_of punct.Caret = Some binary.BitXor
binary_of punct.Ampersand = Some binary.BitAnd
binary_of punct.EqOp = Some binary.Equal
binary_of punct.NeOp = Some binary.NotEqual
binary_of punct.LeftAngle = Some binary.Less
binary_of punct.RightAngle = Some binary.Greater
binary_of punct.LeOp = Some binary.LessEqual
binary_of punct.GeOp = Some binary.GreaterEqual
binary_of punct.LeftOp = Some binary.ShiftLeft
binary_of punct.RightOp = Some binary.ShiftRight
binary_of punct.Plus = Some binary.Add
binary_of punct.Dash = Some binary.Sub
binary_of punct.Star = Some binary.Mul
binary_of punct.Slash = Some binary.Div
binary_of punct.Percent = Some binary.Mod
binary_of _ = None

-- How tightly an operator binds its operands. A comma has level 0, an assignment 1 and `? :` 2; an operator before its operand has 14, and what stands behind a whole operand 15.
abbrev pub level_of : BinaryOp → ℕ
level_of binary.LogicalOr = 3
level_of binary.LogicalXor = 4
level_of binary.LogicalAnd = 5
level_of binary.BitOr = 6
level_of binary.BitXor = 7
level_of binary.BitAnd = 8
level_of binary.Equal = 9
level_of binary.NotEqual = 9
level_of binary.Less = 10
level_of binary.Greater = 10
level_of binary.LessEqual = 10
level_of binary.GreaterEqual = 10
level_of binary.ShiftLeft = 11
level_of binary.ShiftRight = 11
level_of binary.Add = 12
level_of binary.Sub = 12
level_of binary.Mul = 13
level_of binary.Div = 13
level_of binary.Mod = 13

-- the assignment that a punctuator is
abbrev pub assign_of : Punct → Option AssignOp
assign_of punct.Equal = Some assign.Set
assign_of punct.AddAssign = Some assign.Add
assign_of punct.SubAssign = Some assign.Sub
assign_of punct.MulAssign = Some assign.Mul
assign_of punct.DivAssign = Some assign.Div
assign_of punct.ModAssign = Some assign.Mod
assign_of punct.LeftAssign = Some assign.ShiftLeft
assign_of punct.RightAssign = Some assign.ShiftRight
assign_of punct.AndAssign = Some assign.BitAnd
assign_of punct.XorAssign = Some assign.BitXor
assign_of punct.OrAssign = Some assign.BitOr
assign_of _ = None

-- the operator before its operand that a punctuator is
abbrev pub unary_of : Punct → Option UnaryOp
unary_of punct.IncOp = Some unary.Increment
unary_of punct.DecOp = Some unary.Decrement
unary_of punct.Plus = Some unary.Plus
unary_of punct.Dash = Some unary.Minus
unary_of punct.Tilde = Some unary.Complement
unary_of punct.Bang = Some unary.Not
unary_of _ = None

-- the operator behind its operand that a punctuator is
abbrev pub postfix_of : Punct → Option PostfixOp
postfix_of punct.IncOp = Some postfix.Increment
postfix_of punct.DecOp = Some postfix.Decrement
postfix_of _ = None

-- the type that a keyword names
abbrev pub basic_of : Key → Option Basic
basic_of key.Void = Some basic.Void
basic_of key.Bool = Some basic.Bool
basic_of key.Int = Some basic.Int
basic_of key.Uint = Some basic.Uint
basic_of key.Bvec2 = Some basic.Bvec2
basic_of key.Bvec3 = Some basic.Bvec3
basic_of key.Bvec4 = Some basic.Bvec4
basic_of key.Ivec2 = Some basic.Ivec2
basic_of key.Ivec3 = Some basic.Ivec3
basic_of key.Ivec4 = Some basic.Ivec4
basic_of key.Uvec2 = Some basic.Uvec2
basic_of key.Uvec3 = Some basic.Uvec3
basic_of key.Uvec4 = Some basic.Uvec4
basic_of _ = None
