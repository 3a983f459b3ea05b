-- What operators make of well typed parts is well typed.
use Rattle.std.proofs.Common.{◌≡◌, refl, sym, ap, subst, ℕ, [], ◌∷◌, Bool, true, false, not, ◌&&◌, ◌||◌, IsTrue, length, Option, Some, None, is_none, is_some, unwrap_or, inl, inr, Ok}
use Rattle.gsl_base.specs.declared.fault.Place.{Place}
use Rattle.gsl_base.specs.declared.fault.Code.TheVariants.{E0503, E0504, E0507, E0510, E0904}
use Rattle.gsl_syntax.specs.declared.operator.BinaryOp as syntax
use Rattle.gsl_syntax.specs.declared.operator.BinaryOp.TheVariants as binary_sign
use Rattle.gsl_syntax.specs.declared.operator.AssignOp as assign_syntax
use Rattle.gsl_syntax.specs.declared.operator.AssignOp.TheVariants as assign_sign
use Rattle.gsl_syntax.specs.declared.operator.UnaryOp as unary_syntax
use Rattle.gsl_syntax.specs.declared.operator.UnaryOp.TheVariants as unary_sign
use Rattle.gsl_syntax.specs.declared.operator.PostfixOp as postfix_syntax
use Rattle.gsl_syntax.specs.declared.operator.PostfixOp.TheVariants as postfix_sign
use Rattle.gsl_types.specs.Known.{IsSound}
use Rattle.gsl_types.specs.declared.ty.Scalar.TheVariants.{Bool as Boolean}
use Rattle.gsl_types.specs.declared.ty.Ty.{Ty}
use Rattle.gsl_types.specs.declared.ty.Ty.TheVariants as ty
use Rattle.gsl_values.specs.declared.op.BinaryOp.{BinaryOp}
use Rattle.gsl_values.specs.declared.op.BinaryOp.TheVariants as op
use Rattle.gsl_values.specs.declared.op.UnaryOp.{UnaryOp}
use Rattle.gsl_values.specs.declared.op.UnaryOp.TheVariants.{Negate, Flip, Not}
use Rattle.gsl_overload.proofs.Same.{same_is, no_more}
use Rattle.gsl_tree.specs.declared.expr.Expr.{Expr}
use Rattle.gsl_tree.specs.declared.expr.LogicOp.{LogicOp}
use Rattle.gsl_tree.specs.declared.expr.LogicOp.TheVariants.{And, Or, Xor}
use Rattle.gsl_tree.specs.declared.expr.StepOp.{StepOp}
use Rattle.gsl_tree.specs.declared.expr.StepOp.TheVariants.{PreUp, PreDown, PostUp, PostDown}
use Rattle.gsl_tree.specs.declared.expr.ExprKind.TheVariants as kind
use Rattle.gsl_tree.specs.declared.expr.ExprKind.TheVariants.{outs-Unary, outs-Binary, outs-Logic, outs-Choose, outs-Assign, outs-Update, outs-Step}
use Rattle.gsl_tree.specs.declared.expr.ExprKind.TheOpen.{ExprKind-F}
use Rattle.gsl_tree.specs.Around.{Around}
use Rattle.gsl_tree.specs.Shapes.{Shape, shape_of, of_shape, is_integer, may_update, is_equality, unary_shape}
use Rattle.gsl_tree.specs.Trees.{typed, type_of, ThroughoutAll}
use Rattle.gsl_tree.specs.Paths.{is_small, is_aggregate}
use Rattle.std.proofs.lemmas.Option.{none-some, cond_some}
use Rattle.gsl_tree.specs.Expressions.{IsOperation, IsExpr, IsNode, IsBinary, IsUnary, MayBeRead, boolean, is_value_type}
use Rattle.gsl_tree.proofs.Nodes.{expr_at}
use Rattle.gsl_typing.specs.declared.fits.Fitting.{Fitting}
use Rattle.gsl_typing.specs.declared.scene.Scene.{Scene}
use Rattle.gsl_typing.specs.declared.scene.Part.{Part}
use Rattle.gsl_typing.specs.Scene.{around, type_in, made}
use Rattle.gsl_typing.specs.Conversions.{serves_as, common, joint, as_type}
use Rattle.gsl_typing.specs.Fitting.{fitting, unary_type, unary_by as unary_of, typed_shape}
use Rattle.gsl_typing.specs.Uses.{is_unread, is_bool, is_runtime, is_integral, integral_by, is_large}
use Rattle.gsl_typing.specs.Uses as uses
use Rattle.gsl_typing.specs.Operators.{no_fitting, fit, operands, fitted, operation, may_be_compared, comparison, equality, truths, logic, binary, binary_by, operand, one_operand, plus, counter, step, unary, unary_by, postfix, postfix_by, storable, assignment, updates, update, assigned, assigned_by, chosen_type, choice, comma}
use Rattle.gsl_check_decl.proofs.Gathering.{Holds, holds_after}
use Rattle.gsl_check_law.specs.Parts.{IsPart, IsTaken}
use Rattle.gsl_check_law.proofs.Rows.{row, not_false, neither, both, there}
use Rattle.gsl_check_law.proofs.Types.{IsSettled, IsCount, flag_count, shape_is, shape_back, sound_shape, shape_settled, value_settled, serves_settled, serves_shaped, both_serve, joint_sound}
use Rattle.gsl_check_law.proofs.Parts.{IsRead, may_be_read, converted, is_l_value}
use Rattle.gsl_check_law.proofs.Fits.{IsFit, fit_is, updated}

-- nodes over one part, two and three
pub only : (around : Around) (a : Expr) → IsExpr around a → ThroughoutAll (IsNode around) (a ∷ [])
only around a is = ThroughoutAll.more a [] is ThroughoutAll.none

pub two : (around : Around) (a b : Expr) → IsExpr around a → IsExpr around b → ThroughoutAll (IsNode around) (a ∷ b ∷ [])
two around a b is also = ThroughoutAll.more a (b ∷ []) is (only around b also)

pub three : (around : Around) (a b c : Expr) → IsExpr around a → IsExpr around b → IsExpr around c → ThroughoutAll (IsNode around) (a ∷ b ∷ c ∷ [])
three around a b c is also last = ThroughoutAll.more a (b ∷ c ∷ []) is (two around b c also last)

pub boolean_settled : IsSettled boolean
boolean_settled = shape_settled boolean (Boolean, 1) (shape_back (Boolean, 1))

pub boolean_sound : (count : ℕ) → IsSound count boolean
boolean_sound count = sound_shape count (Boolean, 1) flag_count

pub bool_is : (x : Part) → IsTrue (is_bool x) → type_in x ≡ boolean
unfolding is_bool
bool_is x is = same_is (type_in x) boolean is

few : (a s : Bool) → (a && not s) ≡ false → IsTrue (not a || s)
few false s is = refl
few true s is = not_false s is

large_small : (scene : Scene) (t : Ty) → is_large scene t ≡ false → IsTrue (not (is_aggregate t) || is_small (around scene) t)
unfolding is_large
large_small scene t is = few (is_aggregate t) (is_small (around scene) t) is

module _ (scene : Scene) where
  abbrev count : ℕ
  count = length scene.structs

  abbrev here : Around
  here = around scene

  -- a part that is read where this type is needed
  pub operand_of : (t : Ty) (a : Part) → IsTaken scene a → is_unread scene a ≡ false → IsTrue (serves_as (type_in a) t) → IsSettled t → IsRead here t (as_type t a.expr)
  operand_of t a taken unread serves settled = converted here t a.expr taken.part.expr (may_be_read scene a taken unread (serves_settled (type_in a) t serves settled)) serves

  -- one that is read as it is
  pub as_it_is : (t : Ty) (a : Part) → IsTaken scene a → is_unread scene a ≡ false → type_in a ≡ t → IsSettled t → IsRead here t a.expr
  as_it_is t a taken unread is settled = record { expr = taken.part.expr; type = is; reads = may_be_read scene a taken unread (subst IsSettled (sym is) settled) }

  module _ (place : Place) where
    binary_node : (op : BinaryOp) (s t r : Ty) (x y : Expr) → IsRead here s x → IsRead here t y → IsBinary here op s t r → IsExpr here (typed place r (kind.Binary op x y))
    binary_node op s t r x y first second is =
        expr_at here place r (kind.Binary op x y) (ExprKind-F.Binary op x y) (outs-Binary op x y)
        (subst (λ u. IsBinary here op u (type_of y) r) (sym first.type) (subst (λ u. IsBinary here op s u r) (sym second.type) is))
        (first.reads, (second.reads, tt)) tt (two here x y first.expr second.expr)

    -- ---- operators on two operands

    abbrev Fitted : BinaryOp → Part → Part → Fitting → Type 0
    Fitted op a b f = IsFit count op (type_in a) (type_in b) f × (is_unread scene a ≡ false) × (is_unread scene b ≡ false)

    operands_fit : (op : BinaryOp) (a b : Part) → IsTaken scene a → IsTaken scene b → Holds (Fitted op a b) (operands scene op place a b)
    unfolding operands
    operands_fit op a b first second =
        row (Fitted op a b) place E0503 (is_none (fitting op (type_in a) (type_in b))) ((E0507, is_unread scene a || is_unread scene b) ∷ []) (Ok (fit op a b))
        (λ fits. row (Fitted op a b) place E0507 (is_unread scene a || is_unread scene b) [] (Ok (fit op a b))
        (λ read.
        let unread = neither _ _ read in
        (fit_is count op (type_in a) (type_in b) (fit op a b) first.part.sound second.part.sound (there (fitting op (type_in a) (type_in b)) no_fitting fits), unread.0, unread.1)))

    operation_typed : (op : BinaryOp) (a b : Part) → IsTaken scene a → IsTaken scene b → Holds (IsPart scene) (operation scene op place a b)
    unfolding operation
    operation_typed op a b first second =
        holds_after (Fitted op a b) (IsPart scene) (operands scene op place a b) (λ f. Ok (fitted place op f a.expr b.expr)) (operands_fit op a b first second)
        (λ f is. record {
          expr = binary_node op f.left f.right f.result (as_type f.left a.expr) (as_type f.right b.expr)
              (operand_of f.left a first is.1 is.0.left (shape_settled f.left is.0.operation.0 is.0.operation.3))
              (operand_of f.right b second is.2 is.0.right (shape_settled f.right is.0.operation.1 is.0.operation.4)) (inr is.0.operation);
          sound = is.0.sound;
        })

    abbrev Compared : Part → Part → Ty → Type 0
    Compared a b t = IsTrue (serves_as (type_in a) t) × IsTrue (serves_as (type_in b) t) × IsTrue (is_value_type t) × (is_unread scene a ≡ false) × (is_unread scene b ≡ false) × (is_large scene t ≡ false)

    compared : (a b : Part) → Holds (Compared a b) (comparison scene place a b)
    unfolding comparison
    compared a b =
        row (Compared a b) place E0503 (not (may_be_compared a b)) ((E0507, is_unread scene a || is_unread scene b) ∷ (E0904, is_large scene (joint (type_in a) (type_in b))) ∷ []) (Ok (joint (type_in a) (type_in b)))
        (λ may. row (Compared a b) place E0507 (is_unread scene a || is_unread scene b) ((E0904, is_large scene (joint (type_in a) (type_in b))) ∷ []) (Ok (joint (type_in a) (type_in b)))
        (λ read. row (Compared a b) place E0904 (is_large scene (joint (type_in a) (type_in b))) [] (Ok (joint (type_in a) (type_in b)))
        (λ small.
        let parts = both (is_some (common (type_in a) (type_in b))) (is_value_type (joint (type_in a) (type_in b))) may in
        let serve = both_serve (type_in a) (type_in b) parts.0 in
        let unread = neither _ _ read in
        (serve.0, serve.1, parts.1, unread.0, unread.1, small))))

    equality_typed : (op : BinaryOp) (a b : Part) → IsTrue (is_equality op) → IsTaken scene a → IsTaken scene b → Holds (IsPart scene) (equality scene op place a b)
    unfolding equality
    equality_typed op a b equals first second =
        holds_after (Compared a b) (IsPart scene) (comparison scene place a b) (λ t. Ok (made place boolean (kind.Binary op (as_type t a.expr) (as_type t b.expr)))) (compared a b)
        (λ t is. record {
          expr = binary_node op t t boolean (as_type t a.expr) (as_type t b.expr)
              (operand_of t a first is.3 is.0 (value_settled t is.2)) (operand_of t b second is.4 is.1 (value_settled t is.2))
              (inl (equals, (refl, refl, is.2, large_small scene t is.5)));
          sound = boolean_sound count;
        })

    abbrev True : Part → Part → Unit {0} → Type 0
    True a b _ = (type_in a ≡ boolean) × (type_in b ≡ boolean) × (is_unread scene a ≡ false) × (is_unread scene b ≡ false)

    truths_are : (a b : Part) → Holds (True a b) (truths scene place a b)
    unfolding truths
    truths_are a b =
        row (True a b) place E0503 (not (is_bool a && is_bool b)) ((E0507, is_unread scene a || is_unread scene b) ∷ []) (Ok tt)
        (λ are. row (True a b) place E0507 (is_unread scene a || is_unread scene b) [] (Ok tt)
        (λ read.
        let parts = both (is_bool a) (is_bool b) are in
        let unread = neither _ _ read in
        (bool_is a parts.0, bool_is b parts.1, unread.0, unread.1)))

    logic_typed : (op : LogicOp) (a b : Part) → IsTaken scene a → IsTaken scene b → Holds (IsPart scene) (logic scene op place a b)
    unfolding logic
    logic_typed op a b first second =
        holds_after (True a b) (IsPart scene) (truths scene place a b) (λ _. Ok (made place boolean (kind.Logic op a.expr b.expr))) (truths_are a b)
        (λ _ is.
        let x = as_it_is boolean a first is.2 is.0 boolean_settled in
        let y = as_it_is boolean b second is.3 is.1 boolean_settled in
        record {
          expr = expr_at here place boolean (kind.Logic op a.expr b.expr) (ExprKind-F.Logic op a.expr b.expr) (outs-Logic op a.expr b.expr) (is.0, is.1, refl)
              (x.reads, (y.reads, tt)) tt (two here a.expr b.expr x.expr y.expr);
          sound = boolean_sound count;
        })

    by_sign : (o : syntax.BinaryOp) (a b : Part) → IsTaken scene a → IsTaken scene b → Holds (IsPart scene) (binary_by scene o place a b)
    by_sign binary_sign.LogicalOr a b first second = logic_typed Or a b first second
    by_sign binary_sign.LogicalXor a b first second = logic_typed Xor a b first second
    by_sign binary_sign.LogicalAnd a b first second = logic_typed And a b first second
    by_sign binary_sign.BitOr a b first second = operation_typed op.Or a b first second
    by_sign binary_sign.BitXor a b first second = operation_typed op.Xor a b first second
    by_sign binary_sign.BitAnd a b first second = operation_typed op.And a b first second
    by_sign binary_sign.Equal a b first second = equality_typed op.Equal a b refl first second
    by_sign binary_sign.NotEqual a b first second = equality_typed op.Unequal a b refl first second
    by_sign binary_sign.Less a b first second = operation_typed op.Less a b first second
    by_sign binary_sign.Greater a b first second = operation_typed op.Greater a b first second
    by_sign binary_sign.LessEqual a b first second = operation_typed op.LessEq a b first second
    by_sign binary_sign.GreaterEqual a b first second = operation_typed op.GreaterEq a b first second
    by_sign binary_sign.ShiftLeft a b first second = operation_typed op.Shl a b first second
    by_sign binary_sign.ShiftRight a b first second = operation_typed op.Shr a b first second
    by_sign binary_sign.Add a b first second = operation_typed op.Add a b first second
    by_sign binary_sign.Sub a b first second = operation_typed op.Sub a b first second
    by_sign binary_sign.Mul a b first second = operation_typed op.Mul a b first second
    by_sign binary_sign.Div a b first second = operation_typed op.Div a b first second
    by_sign binary_sign.Mod a b first second = operation_typed op.Mod a b first second

    pub binary_typed : (o : syntax.BinaryOp) (a b : Part) → IsTaken scene a → IsTaken scene b → Holds (IsPart scene) (binary scene o place a b)
    unfolding binary
    binary_typed o a b first second = by_sign o a b first second

    -- ---- operators on one operand

    unary_count : (o : UnaryOp) (x y : Shape) → unary_shape o x ≡ Some y → IsCount x.1 → IsCount y.1
    unary_count Negate x y is known = subst (λ (s : Shape). IsCount s.1) (cond_some _ x y is).1 known
    unary_count Flip x y is known = subst (λ (s : Shape). IsCount s.1) (cond_some _ x y is).1 known
    unary_count Not x y is known = subst (λ (s : Shape). IsCount s.1) (cond_some _ x y is).1 known

    abbrev Operated : UnaryOp → Part → Ty → Type 0
    Operated o a t = IsUnary o (type_in a) t × IsSound count t × IsSettled (type_in a) × (is_unread scene a ≡ false)

    unary_given : (o : UnaryOp) (a : Part) (t : Ty) (x : Shape) (given : Option Shape) → shape_of (type_in a) ≡ Some x → IsSound count (type_in a) → unary_shape o x ≡ given → typed_shape given ≡ Some t → is_unread scene a ≡ false → Operated o a t
    unary_given o a t x None shape known gives is unread = elim (none-some t is) [ ]
    unary_given o a t x (Some y) shape known gives is unread =
        let same : of_shape y ≡ t = ap (λ o. unwrap_or o t) is in
        ((x, y, shape, gives, same), subst (IsSound count) same (sound_shape count y (unary_count o x y gives (shape_is count (type_in a) x shape known).1)), shape_settled (type_in a) x shape, unread)

    unary_shaped : (o : UnaryOp) (a : Part) (t : Ty) (x : Option Shape) → shape_of (type_in a) ≡ x → IsSound count (type_in a) → unary_of o x ≡ Some t → is_unread scene a ≡ false → Operated o a t
    unary_shaped o a t None shape known is unread = elim (none-some t is) [ ]
    unary_shaped o a t (Some x) shape known is unread = unary_given o a t x (unary_shape o x) shape known refl is unread

    unary_is : (o : UnaryOp) (a : Part) (t : Ty) → IsSound count (type_in a) → unary_type o (type_in a) ≡ Some t → is_unread scene a ≡ false → Operated o a t
    unfolding unary_type
    unary_is o a t known is unread = unary_shaped o a t (shape_of (type_in a)) refl known is unread

    operand_is : (o : UnaryOp) (a : Part) → IsTaken scene a → Holds (Operated o a) (operand scene o place a)
    unfolding operand
    operand_is o a first =
        row (Operated o a) place E0503 (is_none (unary_type o (type_in a))) ((E0507, is_unread scene a) ∷ []) (Ok (unwrap_or (unary_type o (type_in a)) ty.Void))
        (λ fits. row (Operated o a) place E0507 (is_unread scene a) [] (Ok (unwrap_or (unary_type o (type_in a)) ty.Void))
        (λ read. unary_is o a (unwrap_or (unary_type o (type_in a)) ty.Void) first.part.sound (there (unary_type o (type_in a)) ty.Void fits) read))

    one_typed : (o : UnaryOp) (a : Part) → IsTaken scene a → Holds (IsPart scene) (one_operand scene o place a)
    unfolding one_operand
    one_typed o a first =
        holds_after (Operated o a) (IsPart scene) (operand scene o place a) (λ t. Ok (made place t (kind.Unary o a.expr))) (operand_is o a first)
        (λ t is. record {
          expr = expr_at here place t (kind.Unary o a.expr) (ExprKind-F.Unary o a.expr) (outs-Unary o a.expr) is.0 (may_be_read scene a first is.3 is.2, tt) tt (only here a.expr first.part.expr);
          sound = is.1;
        })

    plus_typed : (a : Part) → IsTaken scene a → Holds (IsPart scene) (plus scene place a)
    unfolding plus
    plus_typed a first =
        row (IsPart scene) place E0503 (not (is_integral a)) ((E0507, is_unread scene a) ∷ []) (Ok (record { expr = a.expr; fixed = true }))
        (λ _. row (IsPart scene) place E0507 (is_unread scene a) [] (Ok (record { expr = a.expr; fixed = true }))
        (λ _. record { expr = first.part.expr; sound = first.part.sound }))

    -- ---- what counts up and down

    abbrev HasInteger : Ty → Type 0
    HasInteger t = (shape : Shape) × (shape_of t ≡ Some shape) × IsTrue (is_integer shape.0)

    integral_shape : (t : Ty) (x : Option Shape) → shape_of t ≡ x → IsTrue (integral_by x) → HasInteger t
    integral_shape t None shape is = no_more is
    integral_shape t (Some x) shape is = (x, shape, is)

    pub integral_is : (a : Part) → IsTrue (is_integral a) → (shape : Shape) × (shape_of (type_in a) ≡ Some shape) × IsTrue (is_integer shape.0)
    unfolding is_integral
    integral_is a is = integral_shape (type_in a) (shape_of (type_in a)) refl is

    abbrev Counts : Part → Unit {0} → Type 0
    Counts a _ = HasInteger (type_in a) × IsTrue (uses.is_writable scene a) × (is_unread scene a ≡ false)

    counts : (a : Part) → Holds (Counts a) (counter scene place a)
    unfolding counter
    counts a =
        row (Counts a) place E0503 (not (is_integral a)) ((E0507, not (uses.is_writable scene a) || is_unread scene a) ∷ []) (Ok tt)
        (λ is. row (Counts a) place E0507 (not (uses.is_writable scene a) || is_unread scene a) [] (Ok tt)
        (λ used. let parts = neither _ _ used in (integral_is a (not_false _ is), not_false _ parts.0, parts.1)))

    step_typed : (o : StepOp) (a : Part) → IsTaken scene a → Holds (IsPart scene) (step scene o place a)
    unfolding step
    step_typed o a first =
        holds_after (Counts a) (IsPart scene) (counter scene place a) (λ _. Ok (made place (type_in a) (kind.Step o a.expr))) (counts a)
        (λ _ is. record {
          expr = expr_at here place (type_in a) (kind.Step o a.expr) (ExprKind-F.Step o a.expr) (outs-Step o a.expr) (refl, is.0, is_l_value scene a is.1)
              (may_be_read scene a first is.2 (shape_settled (type_in a) is.0.0 is.0.1), tt) (first.small, tt) (only here a.expr first.part.expr);
          sound = first.part.sound;
        })

    by_unary_sign : (o : unary_syntax.UnaryOp) (a : Part) → IsTaken scene a → Holds (IsPart scene) (unary_by scene o place a)
    by_unary_sign unary_sign.Increment a first = step_typed PreUp a first
    by_unary_sign unary_sign.Decrement a first = step_typed PreDown a first
    by_unary_sign unary_sign.Plus a first = plus_typed a first
    by_unary_sign unary_sign.Minus a first = one_typed Negate a first
    by_unary_sign unary_sign.Complement a first = one_typed Flip a first
    by_unary_sign unary_sign.Not a first = one_typed Not a first

    pub unary_typed : (o : unary_syntax.UnaryOp) (a : Part) → IsTaken scene a → Holds (IsPart scene) (unary scene o place a)
    unfolding unary
    unary_typed o a first = by_unary_sign o a first

    by_postfix_sign : (o : postfix_syntax.PostfixOp) (a : Part) → IsTaken scene a → Holds (IsPart scene) (postfix_by scene o place a)
    by_postfix_sign postfix_sign.Increment a first = step_typed PostUp a first
    by_postfix_sign postfix_sign.Decrement a first = step_typed PostDown a first

    pub postfix_typed : (o : postfix_syntax.PostfixOp) (a : Part) → IsTaken scene a → Holds (IsPart scene) (postfix scene o place a)
    unfolding postfix
    postfix_typed o a first = by_postfix_sign o a first

    -- ---- assignments

    abbrev Stored : Part → Part → Unit {0} → Type 0
    Stored a b _ = IsTrue (serves_as (type_in b) (type_in a)) × IsTrue (uses.is_writable scene a) × (is_unread scene b ≡ false) × IsTrue (is_value_type (type_in a))

    stored : (a b : Part) → Holds (Stored a b) (storable scene place a b)
    unfolding storable
    stored a b =
        row (Stored a b) place E0504 (not (serves_as (type_in b) (type_in a))) ((E0507, not (uses.is_writable scene a) || is_unread scene b) ∷ (E0510, not (is_value_type (type_in a))) ∷ []) (Ok tt)
        (λ serves. row (Stored a b) place E0507 (not (uses.is_writable scene a) || is_unread scene b) ((E0510, not (is_value_type (type_in a))) ∷ []) (Ok tt)
        (λ used. row (Stored a b) place E0510 (not (is_value_type (type_in a))) [] (Ok tt)
        (λ value. let parts = neither _ _ used in (not_false _ serves, not_false _ parts.0, parts.1, not_false _ value))))

    assignment_typed : (a b : Part) → IsTaken scene a → IsTaken scene b → Holds (IsPart scene) (assignment scene place a b)
    unfolding assignment
    assignment_typed a b first second =
        holds_after (Stored a b) (IsPart scene) (storable scene place a b) (λ _. Ok (made place (type_in a) (kind.Assign a.expr (as_type (type_in a) b.expr)))) (stored a b)
        (λ _ is.
        let y = operand_of (type_in a) b second is.2 is.0 (value_settled (type_in a) is.3) in
        record {
          expr = expr_at here place (type_in a) (kind.Assign a.expr (as_type (type_in a) b.expr)) (ExprKind-F.Assign a.expr (as_type (type_in a) b.expr)) (outs-Assign a.expr (as_type (type_in a) b.expr))
              (refl, y.type, is.3, is_l_value scene a is.1) (y.reads, tt) (first.small, tt) (two here a.expr (as_type (type_in a) b.expr) first.part.expr y.expr);
          sound = first.part.sound;
        })

    abbrev Updated : BinaryOp → Part → Part → Fitting → Type 0
    Updated o a b f = IsFit count o (type_in a) (type_in b) f × IsTrue (serves_as f.result (type_in a)) × IsTrue (uses.is_writable scene a) × (is_unread scene a ≡ false) × (is_unread scene b ≡ false)

    updates_fit : (o : BinaryOp) (a b : Part) → IsTaken scene a → IsTaken scene b → Holds (Updated o a b) (updates scene o place a b)
    unfolding updates
    updates_fit o a b first second =
        row (Updated o a b) place E0503 (is_none (fitting o (type_in a) (type_in b))) ((E0504, not (serves_as (fit o a b).result (type_in a))) ∷ (E0507, not (uses.is_writable scene a) || is_unread scene a || is_unread scene b) ∷ []) (Ok (fit o a b))
        (λ fits. row (Updated o a b) place E0504 (not (serves_as (fit o a b).result (type_in a))) ((E0507, not (uses.is_writable scene a) || is_unread scene a || is_unread scene b) ∷ []) (Ok (fit o a b))
        (λ serves. row (Updated o a b) place E0507 (not (uses.is_writable scene a) || is_unread scene a || is_unread scene b) [] (Ok (fit o a b))
        (λ used.
        let parts = neither _ _ used in
        let front = neither _ _ parts.0 in
        (fit_is count o (type_in a) (type_in b) (fit o a b) first.part.sound second.part.sound (there (fitting o (type_in a) (type_in b)) no_fitting fits), not_false _ serves, not_false _ front.0, front.1, parts.1))))

    -- an operand that is updated is a scalar or vector, since it serves as one
    update_typed : (o : BinaryOp) (a b : Part) → IsTrue (may_update o) → IsTaken scene a → IsTaken scene b → Holds (IsPart scene) (update scene o place a b)
    unfolding update
    update_typed o a b may first second =
        holds_after (Updated o a b) (IsPart scene) (updates scene o place a b) (λ f. Ok (made place (type_in a) (kind.Update o a.expr (as_type f.right b.expr)))) (updates_fit o a b first second)
        (λ f is.
        let left = shape_settled f.left is.0.operation.0 is.0.operation.3 in
        let x = may_be_read scene a first is.3 (serves_settled (type_in a) f.left is.0.left left) in
        let y = operand_of f.right b second is.4 is.0.right (shape_settled f.right is.0.operation.1 is.0.operation.4) in
        let shaped = serves_shaped (type_in a) f.left is.0.left is.0.operation.0 is.0.operation.3 in
        let does = updated count o (type_in a) (type_in b) f first.part.sound may shaped.0 shaped.1 is.0 is.1 in
        record {
          expr = expr_at here place (type_in a) (kind.Update o a.expr (as_type f.right b.expr)) (ExprKind-F.Update o a.expr (as_type f.right b.expr)) (outs-Update o a.expr (as_type f.right b.expr))
              (refl, may, subst (λ u. IsOperation o (type_in a) u (type_in a)) (sym y.type) does, is_l_value scene a is.2) (x, (y.reads, tt)) (first.small, tt)
              (two here a.expr (as_type f.right b.expr) first.part.expr y.expr);
          sound = first.part.sound;
        })

    by_assign_sign : (o : assign_syntax.AssignOp) (a b : Part) → IsTaken scene a → IsTaken scene b → Holds (IsPart scene) (assigned_by scene o place a b)
    by_assign_sign assign_sign.Set a b first second = assignment_typed a b first second
    by_assign_sign assign_sign.Add a b first second = update_typed op.Add a b refl first second
    by_assign_sign assign_sign.Sub a b first second = update_typed op.Sub a b refl first second
    by_assign_sign assign_sign.Mul a b first second = update_typed op.Mul a b refl first second
    by_assign_sign assign_sign.Div a b first second = update_typed op.Div a b refl first second
    by_assign_sign assign_sign.Mod a b first second = update_typed op.Mod a b refl first second
    by_assign_sign assign_sign.ShiftLeft a b first second = update_typed op.Shl a b refl first second
    by_assign_sign assign_sign.ShiftRight a b first second = update_typed op.Shr a b refl first second
    by_assign_sign assign_sign.BitAnd a b first second = update_typed op.And a b refl first second
    by_assign_sign assign_sign.BitXor a b first second = update_typed op.Xor a b refl first second
    by_assign_sign assign_sign.BitOr a b first second = update_typed op.Or a b refl first second

    pub assigned_typed : (o : assign_syntax.AssignOp) (a b : Part) → IsTaken scene a → IsTaken scene b → Holds (IsPart scene) (assigned scene o place a b)
    unfolding assigned
    assigned_typed o a b first second = by_assign_sign o a b first second

    -- ---- `?:` and commas

    abbrev Chosen : Part → Part → Part → Ty → Type 0
    Chosen test a b t = (type_in test ≡ boolean) × IsTrue (serves_as (type_in a) t) × IsTrue (serves_as (type_in b) t) × IsTrue (is_value_type t) × IsSound count t
        × (is_unread scene test ≡ false) × (is_unread scene a ≡ false) × (is_unread scene b ≡ false)

    chosen_is : (test a b : Part) → IsTaken scene a → IsTaken scene b → Holds (Chosen test a b) (chosen_type scene place test a b)
    unfolding chosen_type
    chosen_is test a b first second =
        row (Chosen test a b) place E0503 (not (is_bool test && is_some (common (type_in a) (type_in b)))) ((E0507, is_unread scene test || is_unread scene a || is_unread scene b) ∷ (E0510, not (is_value_type (joint (type_in a) (type_in b)))) ∷ []) (Ok (joint (type_in a) (type_in b)))
        (λ fits. row (Chosen test a b) place E0507 (is_unread scene test || is_unread scene a || is_unread scene b) ((E0510, not (is_value_type (joint (type_in a) (type_in b)))) ∷ []) (Ok (joint (type_in a) (type_in b)))
        (λ read. row (Chosen test a b) place E0510 (not (is_value_type (joint (type_in a) (type_in b)))) [] (Ok (joint (type_in a) (type_in b)))
        (λ value.
        let parts = both (is_bool test) (is_some (common (type_in a) (type_in b))) fits in
        let serve = both_serve (type_in a) (type_in b) parts.1 in
        let unread = neither _ _ read in
        let front = neither _ _ unread.0 in
        (bool_is test parts.0, serve.0, serve.1, not_false _ value, joint_sound count (type_in a) (type_in b) first.part.sound second.part.sound parts.1, front.0, front.1, unread.1))))

    pub choice_typed : (test a b : Part) → IsTaken scene test → IsTaken scene a → IsTaken scene b → Holds (IsPart scene) (choice scene place test a b)
    unfolding choice
    choice_typed test a b zeroth first second =
        holds_after (Chosen test a b) (IsPart scene) (chosen_type scene place test a b) (λ t. Ok (made place t (kind.Choose test.expr (as_type t a.expr) (as_type t b.expr)))) (chosen_is test a b first second)
        (λ t is.
        let c = as_it_is boolean test zeroth is.5 is.0 boolean_settled in
        let x = operand_of t a first is.6 is.1 (value_settled t is.3) in
        let y = operand_of t b second is.7 is.2 (value_settled t is.3) in
        record {
          expr = expr_at here place t (kind.Choose test.expr (as_type t a.expr) (as_type t b.expr)) (ExprKind-F.Choose test.expr (as_type t a.expr) (as_type t b.expr))
              (outs-Choose test.expr (as_type t a.expr) (as_type t b.expr)) (is.0, x.type, y.type, is.3) (c.reads, (x.reads, (y.reads, tt))) tt
              (three here test.expr (as_type t a.expr) (as_type t b.expr) c.expr x.expr y.expr);
          sound = is.4;
        })

    -- what a comma takes on both sides may be read, and it gives the one behind it
    abbrev pub Joined : Part → Part → Part → Type 0
    Joined before behind z = (behind ≡ z) × MayBeRead here before.expr × MayBeRead here behind.expr

    pub comma_reads : (before behind : Part) → IsTaken scene before → IsTaken scene behind → Holds (Joined before behind) (comma scene place before behind)
    unfolding comma is_runtime
    comma_reads before behind first second =
        row (Joined before behind) place E0507 (is_unread scene before || is_unread scene behind) ((E0510, is_runtime before || is_runtime behind) ∷ []) (Ok behind)
        (λ read. row (Joined before behind) place E0510 (is_runtime before || is_runtime behind) [] (Ok behind)
        (λ settled.
        let unread = neither _ _ read in
        let parts = neither _ _ settled in
        (refl, may_be_read scene before first unread.0 parts.0, may_be_read scene behind second unread.1 parts.1)))
