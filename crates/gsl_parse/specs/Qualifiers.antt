-- How the code reads, and not the rule, which stands in `Declarations.antt` of `gsl_syntax`.
-- Reading qualifiers and types.
use Rattle.std.specs.Prelude.{ℕ, Bool, ◌||◌, is_some, List, [], ◌∷◌, Option, Some, None, Ok, if◌then◌else◌}
use Rattle.gsl_base.specs.declared.fault.Place.{Place}
use Rattle.gsl_base.specs.declared.token.Punct.TheVariants as punct
use Rattle.gsl_base.specs.declared.token.Key.TheVariants as key
use Rattle.gsl_base.specs.declared.token.Kind.{Kind}
use Rattle.gsl_base.specs.declared.token.Kind.TheVariants as kind
use Rattle.gsl_syntax.specs.declared.expr.TypeSpec.{TypeSpec}
use Rattle.gsl_syntax.specs.declared.expr.TypeSpec.TheVariants as ty
use Rattle.gsl_syntax.specs.declared.declaration.Name.{Name}
use Rattle.gsl_syntax.specs.declared.declaration.Qual.{Qual}
use Rattle.gsl_syntax.specs.declared.declaration.Qual.TheVariants as qual
use Rattle.gsl_syntax.specs.declared.declaration.Lay.{Lay}
use Rattle.gsl_syntax.specs.declared.declaration.Lay.TheVariants as lay
use Rattle.gsl_syntax.specs.Declarations.{qual_of}
use Rattle.gsl_expr.specs.declared.rule.Start.{Start}
use Rattle.gsl_expr.specs.declared.rule.Start.TheVariants as start
use Rattle.gsl_expr.specs.Rules.{start_at}
use Rattle.gsl_expr.specs.Reading.{Tokens, Parser, ◌>>=◌, pure, fail, take_one, sees, sees_key, expect, name}
use Rattle.gsl_expr.specs.Expressions.{expr, dims, basic_head, head_type}
use Rattle.gsl_parse.specs.Lists.{row_of, commas_of}

abbrev pub plain_by : Place → Kind → Option Qual
plain_by p (kind.Key w) = qual_of w p
plain_by p _ = None

-- the qualifier that the next token is, other than one of a layout
unfoldable pub plain_at : Tokens → Option Qual
plain_at [] = None
plain_at (t ∷ ts) = plain_by t.place t.kind

-- whether a qualifier begins here
unfoldable pub begins_qual : Tokens → Bool
begins_qual ts = sees_key key.Layout ts || is_some (plain_at ts)

abbrev pub lay_from : ℕ → Name → Parser Lay
lay_from d n ts = if sees punct.Equal ts then (take_one >>= λ _. expr d 2 >>= λ a. pure (lay.Value n a)) ts else Ok (lay.Flag n, ts)

-- an item of a layout
unfoldable pub lay_item : ℕ → Parser Lay
lay_item d = name >>= lay_from d

abbrev pub plain : Option Qual → Parser Qual
plain (Some q) = take_one >>= λ _. pure q
plain None = fail

abbrev pub layout : ℕ → Parser Qual
layout d = take_one >>= λ p. expect punct.LeftParen >>= λ _. commas_of (lay_item d) >>= λ ls. expect punct.RightParen >>= λ _. pure (qual.Layout p ls)

unfoldable pub qualifier : ℕ → Parser Qual
qualifier d ts = if sees_key key.Layout ts then layout d ts else plain (plain_at ts) ts

abbrev pub qualifiers : ℕ → Parser (List Qual)
qualifiers d = row_of begins_qual (qualifier d)

abbrev pub type_as : ℕ → Start → Parser TypeSpec
type_as d start.Name = name >>= λ n. dims (expr d) >>= λ ds. pure (ty.Named n.place n.text ds)
type_as d (start.Basic b) = basic_head (expr d) b >>= λ h. pure (head_type h)
type_as d _ = fail

-- a type with its brackets
unfoldable pub typed : ℕ → Parser TypeSpec
typed d ts = type_as d (start_at ts) ts
