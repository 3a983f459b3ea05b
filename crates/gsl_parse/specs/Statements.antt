-- How the code reads, and not the rule, which stands in `Statements.antt` of `gsl_syntax`.
-- Reading statements.
use Rattle.std.specs.Prelude.{ℕ, zero, suc, List, [], ◌∷◌, ◌++◌, length, Option, Some, None, Ok, Err, if◌then◌else◌}
use Rattle.gsl_base.specs.declared.fault.Place.{Place}
use Rattle.gsl_base.specs.declared.token.Punct.{Punct}
use Rattle.gsl_base.specs.declared.token.Punct.TheVariants as punct
use Rattle.gsl_base.specs.declared.token.Key.{Key}
use Rattle.gsl_base.specs.declared.token.Key.TheVariants as key
use Rattle.gsl_syntax.specs.declared.expr.Expr.{Expr}
use Rattle.gsl_syntax.specs.declared.statement.ForInit.{ForInit}
use Rattle.gsl_syntax.specs.declared.statement.ForInit.TheVariants as for_init
use Rattle.gsl_syntax.specs.declared.statement.Stmt.{Stmt}
use Rattle.gsl_syntax.specs.declared.statement.Stmt.TheVariants as s
use Rattle.gsl_expr.specs.Reading.{Parser, ◌>>=◌, pure, fail, take_one, sees, sees_key, expect}
use Rattle.gsl_expr.specs.Expressions.{expr}
use Rattle.gsl_parse.specs.declared.opening.Opening.{Opening}
use Rattle.gsl_parse.specs.declared.opening.Opening.TheVariants as opening
use Rattle.gsl_parse.specs.Openings.{opening_at}
use Rattle.gsl_parse.specs.Qualifiers.{qualifiers}
use Rattle.gsl_parse.specs.Variables.{local_from, phrase, header}

-- takes this keyword
unfoldable pub expect_key : Key → Parser Place
expect_key w ts = if sees_key w ts then take_one ts else Err ts

-- an expression in parentheses
unfoldable pub condition : ℕ → Parser Expr
condition d = expect punct.LeftParen >>= λ _. expr d 0 >>= λ a. expect punct.RightParen >>= λ _. pure a

-- an expression or none, with the punctuator that ends it
unfoldable pub optional : ℕ → Punct → Parser (Option Expr)
optional d m ts = if sees m ts then (take_one >>= λ _. pure None) ts else (expr d 0 >>= λ a. expect m >>= λ _. pure (Some a)) ts

-- a word with its semicolon
abbrev pub word : Parser Place
word = take_one >>= λ p. expect punct.Semicolon >>= λ _. pure p

unfoldable pub returned : ℕ → Place → Parser Stmt
returned d p ts = if sees punct.Semicolon ts then (take_one >>= λ _. pure (s.Return p)) ts else (expr d 0 >>= λ a. expect punct.Semicolon >>= λ _. pure (s.ReturnValue p a)) ts

abbrev pub stmt_of : ForInit → Stmt
stmt_of (for_init.Empty p) = s.Empty p
stmt_of (for_init.Expr a) = s.Expr a
stmt_of (for_init.Decl x) = s.Decl x

-- statements in braces, with the brace that closes them, by a reader of one
unfoldable pub statements : Parser Stmt → ℕ → List Stmt → Parser (List Stmt)
statements stmt zero found = fail
statements stmt (suc n) found = λ ts. if sees punct.RightBrace ts then (take_one >>= λ _. pure found) ts else (stmt >>= λ a. statements stmt n (found ++ a ∷ [])) ts

abbrev pub statements_of : Parser Stmt → Parser (List Stmt)
statements_of stmt ts = statements stmt (length ts) [] ts

-- Each rule takes the depth of expressions and the reader of nested statements.
module _ (d : ℕ) (stmt : Parser Stmt) where
  -- behind the statement of an `if`
  unfoldable pub alternative : Place → Expr → Stmt → Parser Stmt
  alternative p a b ts = if sees_key key.Else ts then (take_one >>= λ _. stmt >>= λ c. pure (s.IfElse p a b c)) ts else Ok (s.If p a b, ts)

  -- the last parts of a `for`, behind those before them
  abbrev pub for_body : Place → ForInit → Option Expr → Option Expr → Parser Stmt
  for_body p i a b = stmt >>= λ c. pure (s.For p i a b c)

  abbrev pub for_step : Place → ForInit → Option Expr → Parser Stmt
  for_step p i a = optional d punct.RightParen >>= λ b. for_body p i a b

  abbrev pub for_test : Place → ForInit → Parser Stmt
  for_test p i = optional d punct.Semicolon >>= λ a. for_step p i a

  abbrev pub statement_as : Opening → Parser Stmt
  statement_as opening.Empty = take_one >>= λ p. pure (s.Empty p)
  statement_as opening.Block = take_one >>= λ p. statements_of stmt >>= λ bs. pure (s.Block p bs)
  statement_as opening.If = take_one >>= λ p. condition d >>= λ a. stmt >>= λ b. alternative p a b
  statement_as opening.Switch = take_one >>= λ p. condition d >>= λ a. expect punct.LeftBrace >>= λ _. statements_of stmt >>= λ bs. pure (s.Switch p a bs)
  statement_as opening.Case = take_one >>= λ p. expr d 2 >>= λ a. expect punct.Colon >>= λ _. pure (s.Case p a)
  statement_as opening.Default = take_one >>= λ p. expect punct.Colon >>= λ _. pure (s.Default p)
  statement_as opening.While = take_one >>= λ p. condition d >>= λ a. stmt >>= λ b. pure (s.While p a b)
  statement_as opening.Do = take_one >>= λ p. stmt >>= λ b. expect_key key.While >>= λ _. condition d >>= λ a. expect punct.Semicolon >>= λ _. pure (s.Do p b a)
  statement_as opening.For = take_one >>= λ p. expect punct.LeftParen >>= λ _. header d >>= λ i. for_test p i
  statement_as opening.Break = word >>= λ p. pure (s.Break p)
  statement_as opening.Continue = word >>= λ p. pure (s.Continue p)
  statement_as opening.Discard = word >>= λ p. pure (s.Discard p)
  statement_as opening.Return = take_one >>= returned d
  statement_as opening.Local = qualifiers d >>= local_from d >>= λ x. pure (s.Decl x)
  statement_as opening.Phrase = phrase d >>= λ i. pure (stmt_of i)

  abbrev pub statement_whole : Parser Stmt
  statement_whole ts = statement_as (opening_at ts) ts

-- with statements nested no deeper than the number
unfoldable pub statement : ℕ → Parser Stmt
statement zero = fail
statement (suc d) = statement_whole d (statement d)
