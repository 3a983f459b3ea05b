-- How the code reads, and not the rule, which stands in `Phrases.antt` of `gsl_syntax`.
-- Whether a name stands next.
use Rattle.std.specs.Prelude.{Bool, true, false, List, [], ◌∷◌}
use Rattle.gsl_base.specs.declared.token.Kind.{Kind}
use Rattle.gsl_base.specs.declared.token.Kind.TheVariants as kind
use Rattle.gsl_base.specs.declared.token.Token.{Token}

abbrev pub is_name : Kind → Bool
is_name (kind.Name n) = true
is_name _ = false

-- whether the next token is a name
unfoldable pub sees_name : List Token → Bool
sees_name [] = false
sees_name (t ∷ ts) = is_name t.kind
