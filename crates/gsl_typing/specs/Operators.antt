-- What operators make of typed operands, with the faults of their nodes (GLSL 4.50, 5.8 and 5.9).
use Rattle.std.specs.Prelude.{Bool, true, false, not, ◌&&◌, ◌||◌, Option, Some, None, is_some, is_none, unwrap_or, List, [], ◌∷◌, Ok}
use Rattle.gsl_base.specs.Checked.{Checked, ◌>>=◌}
use Rattle.gsl_base.specs.declared.fault.Place.{Place}
use Rattle.gsl_base.specs.declared.fault.Code.TheVariants.{E0503, E0504, E0507, E0510, E0904}
use Rattle.gsl_syntax.specs.declared.operator.BinaryOp as syntax
use Rattle.gsl_syntax.specs.declared.operator.BinaryOp.TheVariants as binary_sign
use Rattle.gsl_syntax.specs.declared.operator.AssignOp as assign_syntax
use Rattle.gsl_syntax.specs.declared.operator.AssignOp.TheVariants as assign_sign
use Rattle.gsl_syntax.specs.declared.operator.UnaryOp as unary_syntax
use Rattle.gsl_syntax.specs.declared.operator.UnaryOp.TheVariants as unary_sign
use Rattle.gsl_syntax.specs.declared.operator.PostfixOp as postfix_syntax
use Rattle.gsl_syntax.specs.declared.operator.PostfixOp.TheVariants as postfix_sign
use Rattle.gsl_types.specs.declared.ty.Ty.{Ty}
use Rattle.gsl_types.specs.declared.ty.Ty.TheVariants as ty
use Rattle.gsl_values.specs.declared.op.BinaryOp.{BinaryOp}
use Rattle.gsl_values.specs.declared.op.BinaryOp.TheVariants as op
use Rattle.gsl_values.specs.declared.op.UnaryOp.{UnaryOp}
use Rattle.gsl_values.specs.declared.op.UnaryOp.TheVariants.{Negate, Flip, Not}
use Rattle.gsl_tree.specs.declared.expr.Expr.{Expr}
use Rattle.gsl_tree.specs.declared.expr.LogicOp.{LogicOp}
use Rattle.gsl_tree.specs.declared.expr.LogicOp.TheVariants.{And, Or, Xor}
use Rattle.gsl_tree.specs.declared.expr.StepOp.{StepOp}
use Rattle.gsl_tree.specs.declared.expr.StepOp.TheVariants.{PreUp, PreDown, PostUp, PostDown}
use Rattle.gsl_tree.specs.declared.expr.ExprKind.TheVariants as kind
use Rattle.gsl_tree.specs.Expressions.{boolean, is_value_type}
use Rattle.gsl_typing.specs.declared.fits.Fitting.{Fitting}
use Rattle.gsl_typing.specs.declared.scene.Scene.{Scene}
use Rattle.gsl_typing.specs.declared.scene.Part.{Part}
use Rattle.gsl_typing.specs.Rows.{unless}
use Rattle.gsl_typing.specs.Scene.{type_in, made}
use Rattle.gsl_typing.specs.Conversions.{serves_as, common, joint, as_type}
use Rattle.gsl_typing.specs.Fitting.{fitting, unary_type}
use Rattle.gsl_typing.specs.Uses.{is_unread, is_writable, is_bool, is_runtime, is_integral, is_large}

-- ---- two operands

abbrev pub no_fitting : Fitting
no_fitting = record { left = ty.Void; right = ty.Void; result = ty.Void }

-- what an operator does with operands that fit
abbrev pub fit : BinaryOp → Part → Part → Fitting
fit op a b = unwrap_or (fitting op (type_in a) (type_in b)) no_fitting

-- what an arithmetic operator, an operator on bits, a shift or a relation does with two operands
unfoldable pub operands : Scene → BinaryOp → Place → Part → Part → Checked Fitting
operands scene op place a b = unless place ((E0503, is_none (fitting op (type_in a) (type_in b))) ∷ (E0507, is_unread scene a || is_unread scene b) ∷ [])
    (Ok (fit op a b))

-- operands that are converted, and joined by their operator
abbrev pub fitted : Place → BinaryOp → Fitting → Expr → Expr → Part
fitted place op f a b = made place f.result (kind.Binary op (as_type f.left a) (as_type f.right b))

unfoldable pub operation : Scene → BinaryOp → Place → Part → Part → Checked Part
operation scene op place a b = operands scene op place a b >>= (λ f. Ok (fitted place op f a.expr b.expr))

-- Two operands are compared in the type that they have in common, which a value may have.
abbrev pub may_be_compared : Part → Part → Bool
may_be_compared a b = is_some (common (type_in a) (type_in b)) && is_value_type (joint (type_in a) (type_in b))

-- the type in which two operands are compared
unfoldable pub comparison : Scene → Place → Part → Part → Checked Ty
comparison scene place a b = unless place (
    (E0503, not (may_be_compared a b))
    ∷ (E0507, is_unread scene a || is_unread scene b)
    ∷ (E0904, is_large scene (joint (type_in a) (type_in b)))
    ∷ []
    )
    (Ok (joint (type_in a) (type_in b)))

-- `==` and `!=`
unfoldable pub equality : Scene → BinaryOp → Place → Part → Part → Checked Part
equality scene op place a b = comparison scene place a b >>= (λ t. Ok (made place boolean (kind.Binary op (as_type t a.expr) (as_type t b.expr))))

-- two truth values, which are read
unfoldable pub truths : Scene → Place → Part → Part → Checked (Unit {0})
truths scene place a b = unless place ((E0503, not (is_bool a && is_bool b)) ∷ (E0507, is_unread scene a || is_unread scene b) ∷ []) (Ok tt)

-- `&&`, `||` and `^^`
unfoldable pub logic : Scene → LogicOp → Place → Part → Part → Checked Part
logic scene op place a b = truths scene place a b >>= (λ _. Ok (made place boolean (kind.Logic op a.expr b.expr)))

-- An operator on two operands, by its sign.
abbrev pub binary_by : Scene → syntax.BinaryOp → Place → Part → Part → Checked Part
binary_by scene binary_sign.LogicalOr place a b = logic scene Or place a b
binary_by scene binary_sign.LogicalXor place a b = logic scene Xor place a b
binary_by scene binary_sign.LogicalAnd place a b = logic scene And place a b
binary_by scene binary_sign.BitOr place a b = operation scene op.Or place a b
binary_by scene binary_sign.BitXor place a b = operation scene op.Xor place a b
binary_by scene binary_sign.BitAnd place a b = operation scene op.And place a b
binary_by scene binary_sign.Equal place a b = equality scene op.Equal place a b
binary_by scene binary_sign.NotEqual place a b = equality scene op.Unequal place a b
binary_by scene binary_sign.Less place a b = operation scene op.Less place a b
binary_by scene binary_sign.Greater place a b = operation scene op.Greater place a b
binary_by scene binary_sign.LessEqual place a b = operation scene op.LessEq place a b
binary_by scene binary_sign.GreaterEqual place a b = operation scene op.GreaterEq place a b
binary_by scene binary_sign.ShiftLeft place a b = operation scene op.Shl place a b
binary_by scene binary_sign.ShiftRight place a b = operation scene op.Shr place a b
binary_by scene binary_sign.Add place a b = operation scene op.Add place a b
binary_by scene binary_sign.Sub place a b = operation scene op.Sub place a b
binary_by scene binary_sign.Mul place a b = operation scene op.Mul place a b
binary_by scene binary_sign.Div place a b = operation scene op.Div place a b
binary_by scene binary_sign.Mod place a b = operation scene op.Mod place a b

unfoldable pub binary : Scene → syntax.BinaryOp → Place → Part → Part → Checked Part
binary = binary_by

-- ---- one operand

-- the type that `-`, `~` or `!` gives
unfoldable pub operand : Scene → UnaryOp → Place → Part → Checked Ty
operand scene op place a = unless place ((E0503, is_none (unary_type op (type_in a))) ∷ (E0507, is_unread scene a) ∷ [])
    (Ok (unwrap_or (unary_type op (type_in a)) ty.Void))

-- `-`, `~` and `!`
unfoldable pub one_operand : Scene → UnaryOp → Place → Part → Checked Part
one_operand scene op place a = operand scene op place a >>= (λ t. Ok (made place t (kind.Unary op a.expr)))

-- A unary `+` has no node of its own: it is its operand, which may not be written any more.
unfoldable pub plus : Scene → Place → Part → Checked Part
plus scene place a = unless place ((E0503, not (is_integral a)) ∷ (E0507, is_unread scene a) ∷ []) (Ok (record { expr = a.expr; fixed = true }))

-- an operand that is read and written
unfoldable pub counter : Scene → Place → Part → Checked (Unit {0})
counter scene place a = unless place ((E0503, not (is_integral a)) ∷ (E0507, not (is_writable scene a) || is_unread scene a) ∷ []) (Ok tt)

-- `++` and `--`
unfoldable pub step : Scene → StepOp → Place → Part → Checked Part
step scene op place a = counter scene place a >>= (λ _. Ok (made place (type_in a) (kind.Step op a.expr)))

abbrev pub unary_by : Scene → unary_syntax.UnaryOp → Place → Part → Checked Part
unary_by scene unary_sign.Increment place a = step scene PreUp place a
unary_by scene unary_sign.Decrement place a = step scene PreDown place a
unary_by scene unary_sign.Plus place a = plus scene place a
unary_by scene unary_sign.Minus place a = one_operand scene Negate place a
unary_by scene unary_sign.Complement place a = one_operand scene Flip place a
unary_by scene unary_sign.Not place a = one_operand scene Not place a

unfoldable pub unary : Scene → unary_syntax.UnaryOp → Place → Part → Checked Part
unary = unary_by

abbrev pub postfix_by : Scene → postfix_syntax.PostfixOp → Place → Part → Checked Part
postfix_by scene postfix_sign.Increment place a = step scene PostUp place a
postfix_by scene postfix_sign.Decrement place a = step scene PostDown place a

unfoldable pub postfix : Scene → postfix_syntax.PostfixOp → Place → Part → Checked Part
postfix = postfix_by

-- ---- assignments

-- a value that may be stored in an l-value
unfoldable pub storable : Scene → Place → Part → Part → Checked (Unit {0})
storable scene place a b = unless place (
    (E0504, not (serves_as (type_in b) (type_in a)))
    ∷ (E0507, not (is_writable scene a) || is_unread scene b)
    ∷ (E0510, not (is_value_type (type_in a)))
    ∷ []
    )
    (Ok tt)

-- `a = b`
unfoldable pub assignment : Scene → Place → Part → Part → Checked Part
assignment scene place a b = storable scene place a b >>= (λ _. Ok (made place (type_in a) (kind.Assign a.expr (as_type (type_in a) b.expr))))

-- What `op=` does with its operands: it reads the first, and what the operator gives must serve as its type.
unfoldable pub updates : Scene → BinaryOp → Place → Part → Part → Checked Fitting
updates scene op place a b = unless place (
    (E0503, is_none (fitting op (type_in a) (type_in b)))
    ∷ (E0504, not (serves_as (fit op a b).result (type_in a)))
    ∷ (E0507, not (is_writable scene a) || is_unread scene a || is_unread scene b)
    ∷ []
    )
    (Ok (fit op a b))

-- `a op= b`
unfoldable pub update : Scene → BinaryOp → Place → Part → Part → Checked Part
update scene op place a b = updates scene op place a b >>= (λ f. Ok (made place (type_in a) (kind.Update op a.expr (as_type f.right b.expr))))

abbrev pub assigned_by : Scene → assign_syntax.AssignOp → Place → Part → Part → Checked Part
assigned_by scene assign_sign.Set place a b = assignment scene place a b
assigned_by scene assign_sign.Add place a b = update scene op.Add place a b
assigned_by scene assign_sign.Sub place a b = update scene op.Sub place a b
assigned_by scene assign_sign.Mul place a b = update scene op.Mul place a b
assigned_by scene assign_sign.Div place a b = update scene op.Div place a b
assigned_by scene assign_sign.Mod place a b = update scene op.Mod place a b
assigned_by scene assign_sign.ShiftLeft place a b = update scene op.Shl place a b
assigned_by scene assign_sign.ShiftRight place a b = update scene op.Shr place a b
assigned_by scene assign_sign.BitAnd place a b = update scene op.And place a b
assigned_by scene assign_sign.BitXor place a b = update scene op.Xor place a b
assigned_by scene assign_sign.BitOr place a b = update scene op.Or place a b

unfoldable pub assigned : Scene → assign_syntax.AssignOp → Place → Part → Part → Checked Part
assigned = assigned_by

-- ---- `?:` and commas

-- the type that `?:` gives
unfoldable pub chosen_type : Scene → Place → Part → Part → Part → Checked Ty
chosen_type scene place test a b = unless place (
    (E0503, not (is_bool test && is_some (common (type_in a) (type_in b))))
    ∷ (E0507, is_unread scene test || is_unread scene a || is_unread scene b)
    ∷ (E0510, not (is_value_type (joint (type_in a) (type_in b))))
    ∷ []
    )
    (Ok (joint (type_in a) (type_in b)))

-- `test ? a : b`
unfoldable pub choice : Scene → Place → Part → Part → Part → Checked Part
choice scene place test a b = chosen_type scene place test a b >>= (λ t. Ok (made place t (kind.Choose test.expr (as_type t a.expr) (as_type t b.expr))))

-- A comma takes the values on both of its sides, which may be void; what it gives here is the one behind it.
unfoldable pub comma : Scene → Place → Part → Part → Checked Part
comma scene place before behind = unless place (
    (E0507, is_unread scene before || is_unread scene behind)
    ∷ (E0510, is_runtime before || is_runtime behind)
    ∷ []
    )
    (Ok behind)
