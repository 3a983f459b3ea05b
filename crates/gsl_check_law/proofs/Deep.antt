-- Arms of typed expressions stand no deeper within each other than those of their syntax trees.
use Rattle.std.proofs.Common.{◌||◌, not, is_none, unwrap_or, Result, Err, slice_index_or, ◌≡◌, refl, ◌∙◌, ℕ, ◌+◌, ◌≤◌, max, List, [], ◌∷◌, map, Option, Some, None, Bool, true, false, Ok, arith, if◌then◌else◌}
use Rattle.std.specs.List.{AllByRecursion}
use Rattle.gsl_base.specs.Checked.{Checked}
use Rattle.gsl_base.specs.declared.fault.Place.{Place}
use Rattle.gsl_syntax.specs.declared.operator.AssignOp.{AssignOp}
use Rattle.gsl_syntax.specs.declared.operator.AssignOp.TheVariants as assign_sign
use Rattle.gsl_syntax.specs.declared.operator.BinaryOp.{BinaryOp as Sign}
use Rattle.gsl_syntax.specs.declared.operator.BinaryOp.TheVariants as sign
use Rattle.gsl_syntax.specs.declared.operator.PostfixOp.{PostfixOp}
use Rattle.gsl_syntax.specs.declared.operator.PostfixOp.TheVariants as postfix_sign
use Rattle.gsl_syntax.specs.declared.operator.UnaryOp.{UnaryOp as UnarySign}
use Rattle.gsl_syntax.specs.declared.operator.UnaryOp.TheVariants as unary_sign
use Rattle.gsl_types.specs.declared.ty.Direction.TheVariants.{In, Out, InOut}
use Rattle.gsl_types.specs.declared.ty.Member.{Member}
use Rattle.gsl_types.specs.declared.ty.Ty.{Ty}
use Rattle.gsl_types.specs.declared.ty.Ty.TheOpen.{Ty-F}
use Rattle.gsl_types.specs.declared.ty.Ty.TheViews.{out-Ty}
use Rattle.gsl_values.specs.declared.op.BinaryOp.{BinaryOp}
use Rattle.gsl_values.specs.declared.op.UnaryOp.{UnaryOp}
use Rattle.gsl_values.specs.declared.function.Builtin.{Builtin}
use Rattle.gsl_overload.specs.Best.{Param, chosen}
use Rattle.gsl_overload.specs.Identity.{identical}
use Rattle.gsl_tree.specs.declared.expr.Expr.{Expr}
use Rattle.gsl_tree.specs.declared.expr.ExprKind.{ExprKind}
use Rattle.gsl_tree.specs.declared.expr.ExprKind.TheVariants as kind
use Rattle.gsl_tree.specs.declared.expr.ExprKind.TheFolds.{fold-ExprKind, fold-roll-Expr}
use Rattle.gsl_tree.specs.declared.expr.LogicOp.{LogicOp}
use Rattle.gsl_tree.specs.declared.expr.LogicOp.TheVariants.{And, Or, Xor}
use Rattle.gsl_tree.specs.declared.expr.StepOp.{StepOp}
use Rattle.gsl_tree.specs.Paths.{kind_in}
use Rattle.gsl_tree.specs.Statements.{deepest, depth_by, expr_depth, logic_depth}
use Rattle.gsl_tree.specs.Trees.{typed, type_of, place_of}
use Rattle.gsl_tree.proofs.Folds as at
use Rattle.gsl_typing.specs.declared.scene.Scene.{Scene}
use Rattle.gsl_typing.specs.declared.scene.Part.{Part}
use Rattle.gsl_typing.specs.Rows.{Row, unless}
use Rattle.gsl_typing.specs.Conversions.{as_type}
use Rattle.gsl_typing.specs.Operators.{operands, fitted, operation, comparison, equality, truths, logic, binary, operand, one_operand, plus, counter, step, unary, postfix, storable, assignment, updates, update, assigned, chosen_type, choice, comma}
use Rattle.gsl_typing.specs.Scene.{type_in, made}
use Rattle.gsl_typing.specs.Uses.{whole}
use Rattle.gsl_makers.specs.declared.paths.Picked.{Picked}
use Rattle.gsl_makers.specs.declared.paths.Picked.TheVariants as picks
use Rattle.gsl_makers.specs.Constructors.{as_elements, as_members, exprs_in, converted_kind, converted, buildable, build, members_of}
use Rattle.gsl_makers.specs.Members.{Found, block_member_of}
use Rattle.gsl_makers.specs.Paths.{index, member_by, picked, member, block_member_by, block_member, method}
use Rattle.gsl_calls.specs.Calls.{as_argument, as_arguments, types_in, params_of, result_of, call, call_by, call_of, built, built_by, built_of, built_type}
use Rattle.gsl_calls.specs.Candidates.{candidates}
use Rattle.gsl_overload.specs.declared.choice.Choice.{Choice}
use Rattle.gsl_overload.specs.declared.choice.Choice.TheVariants.{NoMatch, Ambiguous}
use Rattle.gsl_check_decl.proofs.Gathering.{Holds, holds_then}
use Rattle.gsl_formed.specs.Nested.{binary_arms}
use Rattle.gsl_tree.specs.Expressions.{boolean}
use Rattle.gsl_base.specs.declared.fault.Code.TheVariants.{E0503, E0506, E0507, E0508, E0509, E0510, E0606, E0904}
use Rattle.gsl_types.specs.declared.ty.Ty.TheVariants as ty
use Rattle.gsl_types.specs.declared.ty.Scalar.TheVariants.{Int}
use Rattle.gsl_tree.specs.Constants.{constant_of}
use Rattle.gsl_typing.specs.Uses.{is_unread, is_runtime, is_integral, is_large_copy}
use Rattle.gsl_makers.specs.Paths.{element, is_index, in_range, inside, length_name, has_length}
use Rattle.gsl_calls.specs.Calls.{any_misused}
use Rattle.std.specs.Str.{bytes_eq}

-- what is given behind rows holds whatever they ask for
pub skip : {A : Type 0} (P : A → Type 0) (place : Place) (rows : List Row) (node : Checked A) → Holds P node → Holds P (unless place rows node)
skip P place [] node is = is
skip P place ((c, true) ∷ rows) node is = tt
skip P place ((c, false) ∷ rows) node is = skip P place rows node is

-- ---- nodes

pub depth_of : (p : Place) (t : Ty) (k : ExprKind) → expr_depth (typed p t k) ≡ fold-ExprKind ℕ ℕ depth_by kind_in k
depth_of p t k = fold-roll-Expr ℕ ℕ depth_by kind_in (record { ty = t; place = p; kind = k })

same_by : (t : Ty) (e : Expr) (b : Bool) → expr_depth (if b then e else typed (place_of e) t (kind.Convert e)) ≡ expr_depth e
same_by t e true = refl
same_by t e false = depth_of (place_of e) t (kind.Convert e) ∙ at.at-Convert ℕ ℕ depth_by kind_in e

pub as_type_depth : (t : Ty) (e : Expr) → expr_depth (as_type t e) ≡ expr_depth e
unfolding as_type
as_type_depth t e = same_by t e (identical (type_of e) t)

-- at most so many arms of a part stand within each other
abbrev pub At : ℕ → Part → Type 0
At n x = expr_depth x.expr ≤ n

abbrev pub AllAt : ℕ → List Part → Type 0
AllAt n parts = AllByRecursion (At n) parts

pub at_more : (n m : ℕ) (x : Part) → n ≤ m → At n x → At m x
at_more n m x le is = omega (arith, le, is)

pub all_more : (n m : ℕ) (parts : List Part) → n ≤ m → AllAt n parts → AllAt m parts
all_more n m [] le all = tt
all_more n m (x ∷ parts) le all = (at_more n m x le all.0, all_more n m parts le all.1)

-- expressions that are no deeper
abbrev pub Under : ℕ → List Expr → Type 0
Under n es = deepest (map expr_depth es) ≤ n

module _ (n : ℕ) where
  under_parts : (parts : List Part) → AllAt n parts → Under n (exprs_in parts)
  under_parts [] all = omega arith
  under_parts (x ∷ parts) all = let first = all.0 in let rest = under_parts parts all.1 in omega (arith, first, rest)

  under_elements : (e : Ty) (parts : List Part) → AllAt n parts → Under n (as_elements e parts)
  under_elements e [] all = omega arith
  under_elements e (x ∷ parts) all =
      let first = all.0 in let rest = under_elements e parts all.1 in let same = as_type_depth e x.expr in omega (arith, first, rest, same)

  under_members : (members : List Member) (parts : List Part) → AllAt n parts → Under n (as_members members parts)
  under_members [] parts all = omega arith
  under_members (m ∷ members) [] all = omega arith
  under_members (m ∷ members) (x ∷ parts) all =
      let first = all.0 in let rest = under_members members parts all.1 in let same = as_type_depth m.ty x.expr in omega (arith, first, rest, same)

  under_converted : (scene : Scene) (layer : Ty-F Ty) (parts : List Part) → AllAt n parts → Under n (converted_kind scene layer parts)
  under_converted scene Ty-F.Void parts all = under_parts parts all
  under_converted scene (Ty-F.One s) parts all = under_parts parts all
  under_converted scene (Ty-F.Vector s m) parts all = under_parts parts all
  under_converted scene (Ty-F.Array e m) parts all = under_elements e parts all
  under_converted scene (Ty-F.Runtime e) parts all = under_parts parts all
  under_converted scene (Ty-F.Struct number) parts all = under_members (members_of scene number) parts all

  argument_depth : (p : Param) (e : Expr) → expr_depth (as_argument p e) ≡ expr_depth e
  argument_depth (In, t) e = as_type_depth t e
  argument_depth (Out, t) e = refl
  argument_depth (InOut, t) e = refl

  pub under_arguments : (params : List Param) (parts : List Part) → AllAt n parts → Under n (as_arguments params parts)
  under_arguments [] parts all = omega arith
  under_arguments (p ∷ params) [] all = omega arith
  under_arguments (p ∷ params) (x ∷ parts) all =
      let first = all.0 in let rest = under_arguments params parts all.1 in let same = argument_depth p x.expr in omega (arith, first, rest, same)

-- ---- operators

module _ (p : Place) (t : Ty) where
  one_at : (n : ℕ) (k : ExprKind) (a : Expr) → fold-ExprKind ℕ ℕ depth_by kind_in k ≡ expr_depth a → expr_depth a ≤ n → expr_depth (typed p t k) ≤ n
  one_at n k a is le = let whole = depth_of p t k in omega (arith, whole, is, le)

  two_at : (n m : ℕ) (k : ExprKind) (a b : Expr) → fold-ExprKind ℕ ℕ depth_by kind_in k ≡ max (expr_depth a) (expr_depth b) → expr_depth a ≤ n → expr_depth b ≤ m → expr_depth (typed p t k) ≤ max n m
  two_at n m k a b is first second = let whole = depth_of p t k in omega (arith, whole, is, first, second)

  pub leaf_at : (n : ℕ) (k : ExprKind) → fold-ExprKind ℕ ℕ depth_by kind_in k ≡ 0 → expr_depth (typed p t k) ≤ n
  leaf_at n k is = let whole = depth_of p t k in omega (arith, whole, is)

  pub list_at : (n : ℕ) (k : ExprKind) (es : List Expr) → fold-ExprKind ℕ ℕ depth_by kind_in k ≡ deepest (map expr_depth es) → Under n es → expr_depth (typed p t k) ≤ n
  list_at n k es is le = let whole = depth_of p t k in omega (arith, whole, is, le)

  as_at : (n : ℕ) (u : Ty) (e : Expr) → expr_depth e ≤ n → expr_depth (as_type u e) ≤ n
  as_at n u e le = let same = as_type_depth u e in omega (arith, same, le)

  logic_at : (op : LogicOp) (n m : ℕ) (a b : Expr) → expr_depth a ≤ n → expr_depth b ≤ m → expr_depth (typed p t (kind.Logic op a b)) ≤ logic_depth op n m
  logic_at And n m a b first second = let whole = depth_of p t (kind.Logic And a b) ∙ at.at-Logic ℕ ℕ depth_by kind_in And a b in omega (arith, whole, first, second)
  logic_at Or n m a b first second = let whole = depth_of p t (kind.Logic Or a b) ∙ at.at-Logic ℕ ℕ depth_by kind_in Or a b in omega (arith, whole, first, second)
  logic_at Xor n m a b first second = let whole = depth_of p t (kind.Logic Xor a b) ∙ at.at-Logic ℕ ℕ depth_by kind_in Xor a b in omega (arith, whole, first, second)

  choose_at : (l n m : ℕ) (c a b : Expr) → expr_depth c ≤ l → expr_depth a ≤ n → expr_depth b ≤ m → expr_depth (typed p t (kind.Choose c a b)) ≤ max l (1 + max n m)
  choose_at l n m c a b zeroth first second = let whole = depth_of p t (kind.Choose c a b) ∙ at.at-Choose ℕ ℕ depth_by kind_in c a b in omega (arith, whole, zeroth, first, second)

module _ (scene : Scene) (p : Place) where
  module _ (n m : ℕ) (x y : Part) (first : At n x) (second : At m y) where
    logic_deep : (op : LogicOp) → Holds (At (logic_depth op n m)) (logic scene op p x y)
    unfolding logic
    logic_deep op = holds_then (At (logic_depth op n m)) (truths scene p x y) (λ _. Ok (made p boolean (kind.Logic op x.expr y.expr))) (λ _. logic_at p boolean op n m x.expr y.expr first second)

    operation_deep : (op : BinaryOp) → Holds (At (max n m)) (operation scene op p x y)
    unfolding operation
    operation_deep op = holds_then (At (max n m)) (operands scene op p x y) (λ f. Ok (fitted p op f x.expr y.expr))
        (λ f. two_at p f.result n m (kind.Binary op (as_type f.left x.expr) (as_type f.right y.expr)) (as_type f.left x.expr) (as_type f.right y.expr) (at.at-Binary ℕ ℕ depth_by kind_in op (as_type f.left x.expr) (as_type f.right y.expr))
        (as_at p f.result n f.left x.expr first) (as_at p f.result m f.right y.expr second))

    equality_deep : (op : BinaryOp) → Holds (At (max n m)) (equality scene op p x y)
    unfolding equality
    equality_deep op = holds_then (At (max n m)) (comparison scene p x y) (λ t. Ok (made p boolean (kind.Binary op (as_type t x.expr) (as_type t y.expr))))
        (λ t. two_at p boolean n m (kind.Binary op (as_type t x.expr) (as_type t y.expr)) (as_type t x.expr) (as_type t y.expr) (at.at-Binary ℕ ℕ depth_by kind_in op (as_type t x.expr) (as_type t y.expr)) (as_at p t n t x.expr first) (as_at p t m t y.expr second))

    pub binary_deep : (o : Sign) → Holds (At (binary_arms o n m)) (binary scene o p x y)
    unfolding binary
    binary_deep sign.LogicalOr = logic_deep Or
    binary_deep sign.LogicalXor = logic_deep Xor
    binary_deep sign.LogicalAnd = logic_deep And
    binary_deep sign.BitOr = operation_deep _
    binary_deep sign.BitXor = operation_deep _
    binary_deep sign.BitAnd = operation_deep _
    binary_deep sign.Equal = equality_deep _
    binary_deep sign.NotEqual = equality_deep _
    binary_deep sign.Less = operation_deep _
    binary_deep sign.Greater = operation_deep _
    binary_deep sign.LessEqual = operation_deep _
    binary_deep sign.GreaterEqual = operation_deep _
    binary_deep sign.ShiftLeft = operation_deep _
    binary_deep sign.ShiftRight = operation_deep _
    binary_deep sign.Add = operation_deep _
    binary_deep sign.Sub = operation_deep _
    binary_deep sign.Mul = operation_deep _
    binary_deep sign.Div = operation_deep _
    binary_deep sign.Mod = operation_deep _

    assignment_deep : Holds (At (max n m)) (assignment scene p x y)
    unfolding assignment
    assignment_deep = holds_then (At (max n m)) (storable scene p x y) (λ _. Ok (made p (type_in x) (kind.Assign x.expr (as_type (type_in x) y.expr))))
        (λ _. two_at p (type_in x) n m (kind.Assign x.expr (as_type (type_in x) y.expr)) x.expr (as_type (type_in x) y.expr) (at.at-Assign ℕ ℕ depth_by kind_in x.expr (as_type (type_in x) y.expr)) first (as_at p (type_in x) m (type_in x) y.expr second))

    update_deep : (op : BinaryOp) → Holds (At (max n m)) (update scene op p x y)
    unfolding update
    update_deep op = holds_then (At (max n m)) (updates scene op p x y) (λ f. Ok (made p (type_in x) (kind.Update op x.expr (as_type f.right y.expr))))
        (λ f. two_at p (type_in x) n m (kind.Update op x.expr (as_type f.right y.expr)) x.expr (as_type f.right y.expr) (at.at-Update ℕ ℕ depth_by kind_in op x.expr (as_type f.right y.expr)) first (as_at p (type_in x) m f.right y.expr second))

    pub assigned_deep : (o : AssignOp) → Holds (At (max n m)) (assigned scene o p x y)
    unfolding assigned
    assigned_deep assign_sign.Set = assignment_deep
    assigned_deep assign_sign.Add = update_deep _
    assigned_deep assign_sign.Sub = update_deep _
    assigned_deep assign_sign.Mul = update_deep _
    assigned_deep assign_sign.Div = update_deep _
    assigned_deep assign_sign.Mod = update_deep _
    assigned_deep assign_sign.ShiftLeft = update_deep _
    assigned_deep assign_sign.ShiftRight = update_deep _
    assigned_deep assign_sign.BitAnd = update_deep _
    assigned_deep assign_sign.BitXor = update_deep _
    assigned_deep assign_sign.BitOr = update_deep _

    pub choice_deep : (l : ℕ) (c : Part) → At l c → Holds (At (max l (1 + max n m))) (choice scene p c x y)
    unfolding choice
    choice_deep l c zeroth = holds_then (At (max l (1 + max n m))) (chosen_type scene p c x y) (λ t. Ok (made p t (kind.Choose c.expr (as_type t x.expr) (as_type t y.expr))))
        (λ t. choose_at p t l n m c.expr (as_type t x.expr) (as_type t y.expr) zeroth (as_at p t n t x.expr first) (as_at p t m t y.expr second))

    pub comma_deep : Holds (At m) (comma scene p x y)
    unfolding comma
    comma_deep = skip (At m) p ((E0507, is_unread scene x || is_unread scene y) ∷ (E0510, is_runtime x || is_runtime y) ∷ []) (Ok y) second

    pub index_deep : Holds (At (max n m)) (index scene p x y)
    unfolding index
    index_deep =
        let t = unwrap_or (element (type_in x)) ty.Void in
        skip (At (max n m)) p ((E0507, is_unread scene y) ∷ (E0508, is_none (element (type_in x)) || not (is_index y)) ∷ (E0606, not (in_range (constant_of scene.consts y.expr) (type_in x) (type_in y))) ∷ []) (Ok (inside p t (kind.Index x.expr y.expr) x))
        (two_at p t n m (kind.Index x.expr y.expr) x.expr y.expr (at.at-Index ℕ ℕ depth_by kind_in x.expr y.expr) first second)

  module _ (n : ℕ) (x : Part) (first : At n x) where
    pub whole_deep : Holds (At n) (whole scene x)
    unfolding whole
    whole_deep = skip (At n) (place_of x.expr) ((E0904, is_large_copy scene x) ∷ []) (Ok x) first

    one_deep : (op : UnaryOp) → Holds (At n) (one_operand scene op p x)
    unfolding one_operand
    one_deep op = holds_then (At n) (operand scene op p x) (λ t. Ok (made p t (kind.Unary op x.expr))) (λ t. one_at p t n (kind.Unary op x.expr) x.expr (at.at-Unary ℕ ℕ depth_by kind_in op x.expr) first)

    plus_deep : Holds (At n) (plus scene p x)
    unfolding plus
    plus_deep = skip (At n) p ((E0503, not (is_integral x)) ∷ (E0507, is_unread scene x) ∷ []) (Ok (record { expr = x.expr; fixed = true })) first

    step_deep : (op : StepOp) → Holds (At n) (step scene op p x)
    unfolding step
    step_deep op = holds_then (At n) (counter scene p x) (λ _. Ok (made p (type_in x) (kind.Step op x.expr))) (λ _. one_at p (type_in x) n (kind.Step op x.expr) x.expr (at.at-Step ℕ ℕ depth_by kind_in op x.expr) first)

    pub unary_deep : (o : UnarySign) → Holds (At n) (unary scene o p x)
    unfolding unary
    unary_deep unary_sign.Increment = step_deep _
    unary_deep unary_sign.Decrement = step_deep _
    unary_deep unary_sign.Plus = plus_deep
    unary_deep unary_sign.Minus = one_deep _
    unary_deep unary_sign.Complement = one_deep _
    unary_deep unary_sign.Not = one_deep _

    pub postfix_deep : (o : PostfixOp) → Holds (At n) (postfix scene o p x)
    unfolding postfix
    postfix_deep postfix_sign.Increment = step_deep _
    postfix_deep postfix_sign.Decrement = step_deep _

    -- ---- members and lengths

    member_by_deep : (k : Picked) → Holds (At n) (member_by p x k)
    member_by_deep picks.Nothing = tt
    member_by_deep (picks.Field number t) = one_at p t n (kind.Member x.expr number) x.expr (at.at-Member ℕ ℕ depth_by kind_in x.expr number) first
    member_by_deep (picks.Components lanes t) = one_at p t n (kind.Swizzle x.expr lanes) x.expr (at.at-Swizzle ℕ ℕ depth_by kind_in x.expr lanes) first

    pub member_deep : (name : List ℕ) → Holds (At n) (member scene p x name)
    unfolding member
    member_deep name = member_by_deep (picked scene (type_in x) name)

    pub method_deep : (name : List ℕ) → Holds (At n) (method p x name)
    unfolding method
    method_deep name = skip (At n) p ((E0506, not (bytes_eq name length_name)) ∷ (E0509, not (has_length x)) ∷ []) (Ok (made p (ty.One Int) (kind.Length x.expr))) (one_at p (ty.One Int) n (kind.Length x.expr) x.expr (at.at-Length ℕ ℕ depth_by kind_in x.expr) first)

  block_by_deep : (n block : ℕ) (o : Option Found) → Holds (At n) (block_member_by p block o)
  block_by_deep n block None = tt
  block_by_deep n block (Some found) = leaf_at p found.1 n (kind.BlockMember block found.0) (at.at-BlockMember ℕ ℕ depth_by kind_in block found.0)

  pub block_member_deep : (n block : ℕ) (name : List ℕ) → Holds (At n) (block_member scene p block name)
  unfolding block_member
  block_member_deep n block name = block_by_deep n block (block_member_of scene.blocks block name)

  -- ---- constructors and calls

  pub build_deep : (n : ℕ) (t : Ty) (parts : List Part) → AllAt n parts → Holds (At n) (build scene p t parts)
  unfolding build converted
  build_deep n t parts all = holds_then (At n) (buildable scene p t parts) (λ _. Ok (made p t (kind.Build (converted_kind scene (out-Ty t) parts))))
      (λ _. list_at p t n (kind.Build (converted_kind scene (out-Ty t) parts)) (converted_kind scene (out-Ty t) parts) (at.at-Build ℕ ℕ depth_by kind_in (converted_kind scene (out-Ty t) parts)) (under_converted n scene (out-Ty t) parts all))

  pub call_deep : (n : ℕ) (numbers : List ℕ) (parts : List Part) → AllAt n parts → Holds (At n) (call scene p numbers parts)
  unfolding call call_of
  call_deep n numbers parts all = by_choice (chosen (map (params_of scene) numbers) (types_in parts))
    where
      by_choice : (r : Result ℕ Choice) → Holds (At n) (call_by scene p numbers parts r)
      by_choice (Err NoMatch) = tt
      by_choice (Err Ambiguous) = tt
      by_choice (Ok k) =
          let number = slice_index_or numbers k 0 in
          let es = as_arguments (params_of scene number) parts in
          skip (At n) p ((E0507, any_misused scene (params_of scene number) parts) ∷ []) (Ok (made p (result_of scene number) (kind.Call number es))) (list_at p (result_of scene number) n (kind.Call number es) es (at.at-Call ℕ ℕ depth_by kind_in number es) (under_arguments n (params_of scene number) parts all))

  pub built_deep : (n : ℕ) (which : Builtin) (parts : List Part) → AllAt n parts → Holds (At n) (built scene p which parts)
  unfolding built built_of
  built_deep n which parts all = by_choice (chosen (candidates which) (types_in parts))
    where
      by_choice : (r : Result ℕ Choice) → Holds (At n) (built_by scene p which parts r)
      by_choice (Err NoMatch) = tt
      by_choice (Err Ambiguous) = tt
      by_choice (Ok k) =
          let params = slice_index_or (candidates which) k [] in
          let es = as_arguments params parts in
          skip (At n) p ((E0507, any_misused scene params parts) ∷ []) (Ok (made p (built_type which es) (kind.Built which es))) (list_at p (built_type which es) n (kind.Built which es) es (at.at-Built ℕ ℕ depth_by kind_in which es) (under_arguments n params parts all))
