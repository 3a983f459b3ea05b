-- What stands behind the next token.
use Rattle.std.proofs.Common.{◌≡◌, refl, [], ◌∷◌}
use Rattle.gsl_base.specs.declared.token.Punct.TheVariants as punct
use Rattle.gsl_expr.specs.Reading.{Tokens, sees_behind}
use Rattle.gsl_parse.specs.Units.{brace_behind}

pub braces : (ts : Tokens) → sees_behind punct.LeftBrace ts ≡ brace_behind ts
unfolding sees_behind
braces [] = refl
braces (t ∷ ts) = refl
