-- How the code reads, and not the rule, which stands in `Phrases.antt` of `gsl_syntax`.
-- Reading expressions and types from left to right.
use Rattle.std.specs.Prelude.{ℕ, zero, suc, ◌+◌, Bool, true, false, ◌&&◌, List, [], ◌∷◌, ◌++◌, length, Ok, max, nat_lt, nat_le, nat_eq, if◌then◌else◌}
use Rattle.gsl_base.specs.declared.fault.Place.{Place}
use Rattle.gsl_base.specs.declared.token.Punct.TheVariants as punct
use Rattle.gsl_base.specs.declared.token.Key.TheVariants as key
use Rattle.gsl_syntax.specs.declared.declaration.Name.{Name}
use Rattle.gsl_syntax.specs.declared.expr.Basic.{Basic}
use Rattle.gsl_syntax.specs.declared.expr.Expr.{Expr, out-Expr}
use Rattle.gsl_syntax.specs.declared.expr.Expr.TheVariants as e
use Rattle.gsl_syntax.specs.declared.expr.TypeSpec.{TypeSpec}
use Rattle.gsl_syntax.specs.declared.expr.TypeSpec.TheVariants as ty
use Rattle.gsl_syntax.specs.declared.expr.Dim.{Dim, out-Dim}
use Rattle.gsl_syntax.specs.declared.expr.Dim.TheVariants as dim
use Rattle.gsl_syntax.specs.declared.expr.Dim.TheOpen.{Dim-F, Expr-F}
use Rattle.gsl_syntax.specs.Operators.{level_of}
use Rattle.gsl_expr.specs.declared.rule.Start.{Start}
use Rattle.gsl_expr.specs.declared.rule.Start.TheVariants as start
use Rattle.gsl_expr.specs.declared.rule.Follow.{Follow}
use Rattle.gsl_expr.specs.declared.rule.Follow.TheVariants as follow
use Rattle.gsl_expr.specs.declared.rule.Tail.{Tail}
use Rattle.gsl_expr.specs.declared.rule.Tail.TheVariants as tail
use Rattle.gsl_expr.specs.declared.rule.Mode.{Mode}
use Rattle.gsl_expr.specs.declared.rule.Mode.TheVariants as mode
use Rattle.gsl_expr.specs.declared.rule.Base.{Base}
use Rattle.gsl_expr.specs.declared.rule.Base.TheVariants as base
use Rattle.gsl_expr.specs.declared.rule.Head.{Head}
use Rattle.gsl_expr.specs.Rules.{start_at, follow_at, binds, tail_at}
use Rattle.gsl_expr.specs.Reading.{Tokens, Parser, and_then, ◌>>=◌, pure, fail, take_one, sees, sees_key, expect, name}

-- whether an expression is one that assigns nothing outside brackets
abbrev pub is_cond_layer : Expr-F Dim Expr TypeSpec → Bool
is_cond_layer (Expr-F.Assign p o a b) = false
is_cond_layer (Expr-F.Sequence a bs) = false
is_cond_layer _ = true

unfoldable pub is_cond : Expr → Bool
is_cond t = is_cond_layer (out-Expr t)

-- whether an expression is one that may be assigned to: no operator between operands stands in it outside brackets
abbrev pub is_tight_layer : Expr-F Dim Expr TypeSpec → Bool
is_tight_layer (Expr-F.Binary p o a b) = false
is_tight_layer (Expr-F.Conditional p a b c) = false
is_tight_layer (Expr-F.Assign p o a b) = false
is_tight_layer (Expr-F.Sequence a bs) = false
is_tight_layer _ = true

unfoldable pub is_tight : Expr → Bool
is_tight t = is_tight_layer (out-Expr t)

abbrev pub index_layer : Expr → Dim-F Dim Expr TypeSpec → Expr
index_layer a (Dim-F.Open p) = a
index_layer a (Dim-F.Sized p b) = e.Index p a b

-- an expression with one index more
unfoldable pub index_one : Expr → Dim → Expr
index_one a d = index_layer a (out-Dim d)

-- an expression with its indexes
unfoldable pub index_all : Expr → List Dim → Expr
index_all a [] = a
index_all a (d ∷ ds) = index_all (index_one a d) ds

-- the type that a name or a type keyword is with its brackets
abbrev pub type_of : Place → Base → List Dim → TypeSpec
type_of p (base.Basic b) ds = ty.Basic p b ds
type_of p (base.Named n) ds = ty.Named p n ds

abbrev pub head_type : Head → TypeSpec
head_type h = type_of h.place h.base h.dims

abbrev pub named : Name → List Dim → Mode → Head
named n ds m = record { place = n.place; base = base.Named n.text; dims = ds; mode = m }

abbrev pub keyword : Place → Basic → List Dim → Head
keyword p b ds = record { place = p; base = base.Basic b; dims = ds; mode = mode.Type }

-- what brackets may still be, behind one with this expression in it
abbrev pub mode_after : Mode → Expr → Mode
mode_after mode.Either a = if is_cond a then mode.Either else mode.Index
mode_after mode.Type a = mode.Type
mode_after mode.Index a = mode.Index

abbrev pub level_in : Mode → ℕ
level_in mode.Type = 2
level_in _ = 0

abbrev pub may_be_open : Mode → Bool
may_be_open mode.Index = false
may_be_open _ = true

abbrev pub may_be_index : Mode → Bool
may_be_index mode.Type = false
may_be_index _ = true

-- an expression and those behind its commas
abbrev pub sequence_of : Expr → List (Place × Expr) → Expr
sequence_of a [] = a
sequence_of a (b ∷ bs) = e.Sequence a (b ∷ bs)

-- the word `void` and the parenthesis that closes a call
abbrev pub closes_after : Tokens → Bool
closes_after [] = false
closes_after (t ∷ ts) = sees punct.RightParen ts

unfoldable pub void_alone : Tokens → Bool
void_alone ts = sees_key key.Void ts && closes_after ts

-- a call whose arguments are the word `void`, from that word on
abbrev pub call_void : TypeSpec → Parser Expr
call_void t = take_one >>= λ _. take_one >>= λ _. pure (e.CallVoid t)

-- behind `.` and a name
unfoldable pub selected : Place → Name → Expr → Parser Expr
selected p n a ts =
    if sees punct.LeftParen ts then (take_one >>= λ _. expect punct.RightParen >>= λ _. pure (e.Method p a n.text)) ts
    else Ok (e.Member p a n.text, ts)

-- The expression that the number asks for: 0 for any, 1 for one without comma, 2 for one that also assigns nothing, and so on.
module _ (expr : ℕ → Parser Expr) where
  -- behind `[`
  unfoldable pub bracket : Mode → Place → Parser (Dim × Mode)
  bracket m p ts =
      if sees punct.RightBracket ts && may_be_open m then (take_one >>= λ _. pure (dim.Open p, mode.Type)) ts
      else (expr (level_in m) >>= λ a. expect punct.RightBracket >>= λ _. pure (dim.Sized p a, mode_after m a)) ts

  unfoldable pub brackets : ℕ → Mode → List Dim → Parser (List Dim × Mode)
  brackets zero m found = pure (found, m)
  brackets (suc n) m found = λ ts.
      if sees punct.LeftBracket ts then (take_one >>= bracket m >>= λ r. brackets n r.1 (found ++ r.0 ∷ [])) ts
      else Ok ((found, m), ts)

  -- the brackets of a type, or of a declared name
  unfoldable pub dims : Parser (List Dim)
  dims ts = and_then (brackets (length ts) mode.Type [] ts) (λ r. pure r.0)

  -- a name with its brackets, be they those of a type or indexes
  unfoldable pub named_head : Parser Head
  named_head = name >>= λ n ts. and_then (brackets (length ts) mode.Either [] ts) (λ r. pure (named n r.0 r.1))

  -- a type keyword with its brackets
  unfoldable pub basic_head : Basic → Parser Head
  basic_head b = take_one >>= λ p. dims >>= λ ds. pure (keyword p b ds)

  unfoldable pub items : ℕ → List Expr → Parser (List Expr)
  items zero found = fail
  items (suc n) found = expr 1 >>= λ a ts.
      if sees punct.Comma ts then (take_one >>= λ _. items n (found ++ a ∷ [])) ts
      else (expect punct.RightParen >>= λ _. pure (found ++ a ∷ [])) ts

  -- behind the parenthesis of a call
  unfoldable pub arguments : TypeSpec → Parser Expr
  arguments t ts =
      if sees punct.RightParen ts then (take_one >>= λ _. pure (e.Call t [])) ts
      else if void_alone ts then call_void t ts
      else and_then (items (length ts) [] ts) (λ bs. pure (e.Call t bs))

  abbrev pub indexed_by : Place → Base → List Dim → Parser Expr
  indexed_by p (base.Named n) ds = pure (index_all (e.Name p n) ds)
  indexed_by p (base.Basic b) ds = fail

  -- the operand that begins with a name or a type: a call, or an index of a name
  unfoldable pub applied : Head → Parser Expr
  applied h ts =
      if sees punct.LeftParen ts && may_be_open h.mode then (take_one >>= λ _. arguments (head_type h)) ts
      else if may_be_index h.mode then indexed_by h.place h.base h.dims ts
      else fail ts

  abbrev pub operand_as : Start → Parser Expr
  operand_as start.Name = named_head >>= applied
  operand_as (start.Basic b) = basic_head b >>= applied
  operand_as (start.Signed n) = take_one >>= λ p. pure (e.Signed p n)
  operand_as (start.Unsigned n) = take_one >>= λ p. pure (e.Unsigned p n)
  operand_as (start.Bool b) = take_one >>= λ p. pure (e.Bool p b)
  operand_as start.Paren = take_one >>= λ p. expr 0 >>= λ a. expect punct.RightParen >>= λ _. pure (e.Paren p a)
  operand_as (start.Unary o) = take_one >>= λ p. expr 14 >>= λ a. pure (e.Unary p o a)
  operand_as start.Bad = fail

  unfoldable pub operand : Parser Expr
  operand ts = operand_as (start_at ts) ts

  abbrev pub operate_as : Expr → Follow → Parser Expr
  operate_as a follow.Index = take_one >>= λ p. expr 0 >>= λ b. expect punct.RightBracket >>= λ _. pure (e.Index p a b)
  operate_as a follow.Member = take_one >>= λ p. name >>= λ n. selected p n a
  operate_as a (follow.Postfix o) = take_one >>= λ p. pure (e.Postfix p o a)
  operate_as a (follow.Binary o) = take_one >>= λ p. expr (level_of o + 1) >>= λ b. pure (e.Binary p o a b)
  operate_as a follow.End = fail

  unfoldable pub operate : Expr → Parser Expr
  operate a ts = operate_as a (follow_at ts) ts

  -- operators that bind at least so tightly, and their operands
  unfoldable pub climb : ℕ → ℕ → Expr → Parser Expr
  climb least zero a = pure a
  climb least (suc n) a = λ ts. if nat_lt (binds (follow_at ts)) least then Ok (a, ts) else (operate a >>= climb least n) ts

  abbrev pub tailed_as : ℕ → Expr → Tail → Parser Expr
  tailed_as least a tail.Question =
      if nat_le least 2 then (take_one >>= λ p. expr 0 >>= λ b. expect punct.Colon >>= λ _. expr 1 >>= λ c. pure (e.Conditional p a b c)) else pure a
  tailed_as least a (tail.Assign o) =
      if nat_le least 1 && is_tight a then (take_one >>= λ p. expr 1 >>= λ b. pure (e.Assign p o a b)) else pure a
  tailed_as least a tail.End = pure a

  -- a condition or an assignment, where such may stand
  unfoldable pub tailed : ℕ → Expr → Parser Expr
  tailed least a ts = tailed_as least a (tail_at ts) ts

  unfoldable pub further : ℕ → List (Place × Expr) → Parser (List (Place × Expr))
  further zero found = pure found
  further (suc n) found = λ ts.
      if sees punct.Comma ts then (take_one >>= λ p. expr 1 >>= λ b. further n (found ++ (p, b) ∷ [])) ts
      else Ok (found, ts)

  -- what stands behind commas, where such may stand
  unfoldable pub sequenced : ℕ → Expr → Parser Expr
  sequenced least a ts = if nat_eq least 0 then and_then (further (length ts) [] ts) (λ bs. pure (sequence_of a bs)) else Ok (a, ts)

  -- behind the first operand
  unfoldable pub completed : ℕ → Expr → Parser Expr
  completed least a ts = (climb (max least 3) (length ts) a >>= tailed least >>= sequenced least) ts

  abbrev pub whole : ℕ → Parser Expr
  whole least = operand >>= completed least

-- with expressions nested no deeper than the first number
unfoldable pub expr : ℕ → ℕ → Parser Expr
expr zero least = fail
expr (suc d) least = whole (expr d) least
