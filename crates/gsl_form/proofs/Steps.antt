-- What the reader makes of each kind of expression.
use Rattle.std.proofs.Common.{◌≡◌, sym, ap, ◌∙◌, ℕ, [], ◌∷◌, None}
use Rattle.std.specs.Option.{option_map}
use Rattle.gsl_values.specs.declared.op.BinaryOp.{BinaryOp}
use Rattle.gsl_values.specs.declared.value.Value.{Value}
use Rattle.gsl_tree.specs.declared.expr.Expr.{Expr, out-Expr}
use Rattle.gsl_tree.specs.declared.expr.ExprKind.{ExprKind, out-ExprKind}
use Rattle.gsl_tree.specs.declared.expr.ExprKind.TheVariants as kind
use Rattle.gsl_tree.specs.declared.expr.ExprKind.TheVariants.{rolls-BlockMember, rolls-Const, rolls-Binary}
use Rattle.gsl_tree.specs.declared.expr.ExprKind.TheOpen.{ExprKind-F, Expr-F}
use Rattle.gsl_tree.specs.declared.expr.ExprKind.TheFolds.{fold-roll-Expr, fold-roll-ExprKind}
use Rattle.gsl_tree.specs.declared.expr.ExprKind.TheViews.{roll-Expr, roll-ExprKind, roll-out-Expr, roll-out-ExprKind}
use Rattle.gsl_form.specs.Reading.{Parts, neither, alone, added, member, literal, by_kind, by_type, where_int, parts_of, kind_parts}

-- the parts of one layer, from the parts of what is below it
abbrev layer : ℕ → ExprKind-F ExprKind Expr → Parts
layer count (ExprKind-F.BlockMember block number) = alone (member count block number)
layer count (ExprKind-F.Const v) = alone (literal v)
layer count (ExprKind-F.Binary op a b) = added op (parts_of count a) (parts_of count b)
layer count _ = neither

pub rolled : (count : ℕ) (x : ExprKind-F ExprKind Expr) → kind_parts count (roll-ExprKind x) ≡ layer count x
unfolding parts_of kind_parts
rolled count (ExprKind-F.BlockMember b n) = fold-roll-ExprKind Parts Parts (by_kind count) by_type (ExprKind-F.BlockMember b n)
rolled count (ExprKind-F.Const v) = fold-roll-ExprKind Parts Parts (by_kind count) by_type (ExprKind-F.Const v)
rolled count (ExprKind-F.Binary o a b) = fold-roll-ExprKind Parts Parts (by_kind count) by_type (ExprKind-F.Binary o a b)
rolled count x = fold-roll-ExprKind Parts Parts (by_kind count) by_type x

-- an expression has the parts of its kind, if it is an `int`
pub rolled_expr : (count : ℕ) (x : Expr-F ExprKind Expr) → parts_of count (roll-Expr x) ≡ where_int x.ty (kind_parts count x.kind)
unfolding parts_of kind_parts
rolled_expr count x = fold-roll-Expr Parts Parts (by_kind count) by_type x

pub parts_open : (count : ℕ) (e : Expr) → parts_of count e ≡ where_int (out-Expr e).ty (kind_parts count (out-Expr e).kind)
parts_open count e = ap (parts_of count) (sym (roll-out-Expr e)) ∙ rolled_expr count (out-Expr e)

pub of_member : (count b n : ℕ) → kind_parts count (kind.BlockMember b n) ≡ alone (member count b n)
of_member count b n = ap (kind_parts count) (sym (rolls-BlockMember b n)) ∙ rolled count (ExprKind-F.BlockMember b n)

pub of_const : (count : ℕ) (v : Value) → kind_parts count (kind.Const v) ≡ alone (literal v)
of_const count v = ap (kind_parts count) (sym (rolls-Const v)) ∙ rolled count (ExprKind-F.Const v)

pub of_binary : (count : ℕ) (o : BinaryOp) (a b : Expr) → kind_parts count (kind.Binary o a b) ≡ added o (parts_of count a) (parts_of count b)
of_binary count o a b = ap (kind_parts count) (sym (rolls-Binary o a b)) ∙ rolled count (ExprKind-F.Binary o a b)

-- what is neither a member nor a literal is no term
module _ (count : ℕ) (k : ExprKind) (not_member : (b n : ℕ) → k ≡ kind.BlockMember b n → ⊥) (not_const : (v : Value) → k ≡ kind.Const v → ⊥) where
  no_term_layer : (x : ExprKind-F ExprKind Expr) → k ≡ roll-ExprKind x → (kind_parts count k).term ≡ None
  no_term_layer (ExprKind-F.BlockMember b n) is = let never : ⊥ = not_member b n (is ∙ rolls-BlockMember b n) in elim never [ ]
  no_term_layer (ExprKind-F.Const v) is = let never : ⊥ = not_const v (is ∙ rolls-Const v) in elim never [ ]
  no_term_layer x is = ap (λ b. (kind_parts count b).term) is ∙ ap (λ (y : Parts). y.term) (rolled count x)

  pub no_term : (kind_parts count k).term ≡ None
  no_term = no_term_layer (out-ExprKind k) (sym (roll-out-ExprKind k))

-- what is no operation is the sum of one term, if it is one
module _ (count : ℕ) (k : ExprKind) (not_binary : (o : BinaryOp) (x y : Expr) → k ≡ kind.Binary o x y → ⊥) where
  alone_layer : (x : ExprKind-F ExprKind Expr) → k ≡ roll-ExprKind x → option_map (λ t. t ∷ []) (kind_parts count k).term ≡ (kind_parts count k).sum
  alone_layer (ExprKind-F.Binary o x y) is = let never : ⊥ = not_binary o x y (is ∙ rolls-Binary o x y) in elim never [ ]
  alone_layer x is =
      ap (λ b. option_map (λ t. t ∷ []) (kind_parts count b).term) is ∙ ap (λ (y : Parts). option_map (λ t. t ∷ []) y.term) (rolled count x)
      ∙ sym (ap (λ b. (kind_parts count b).sum) is ∙ ap (λ (y : Parts). y.sum) (rolled count x))

  pub one_alone : option_map (λ t. t ∷ []) (kind_parts count k).term ≡ (kind_parts count k).sum
  one_alone = alone_layer (out-ExprKind k) (sym (roll-out-ExprKind k))

pub ruleset steps = (of_member, of_const, of_binary, parts_open)
