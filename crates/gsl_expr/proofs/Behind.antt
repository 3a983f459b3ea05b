-- What stands behind the next token.
use Rattle.std.proofs.Common.{◌≡◌, refl, [], ◌∷◌}
use Rattle.gsl_base.specs.declared.token.Punct.TheVariants as punct
use Rattle.gsl_expr.specs.Reading.{Tokens, sees_behind}
use Rattle.gsl_expr.specs.Expressions.{closes_after}

pub closes : (ts : Tokens) → sees_behind punct.RightParen ts ≡ closes_after ts
unfolding sees_behind
closes [] = refl
closes (t ∷ ts) = refl
