-- What holds of each token that the grammar is given: literals are words, and names are short and have no zero byte.
use Rattle.std.specs.Prelude.{◌^◌, Bool, true, nat_lt, List, IsTrue}
use Rattle.std.specs.List.{AllByRecursion}
use Rattle.gsl_base.specs.declared.token.Kind.{Kind}
use Rattle.gsl_base.specs.declared.token.Kind.TheVariants as kind
use Rattle.gsl_base.specs.declared.token.Token.{Token}
use Rattle.gsl_formed.specs.Formed.{is_name}

abbrev pub is_live : Kind → Bool
is_live (kind.Name text) = is_name text
is_live (kind.Key key) = true
is_live (kind.Signed word) = nat_lt word (2 ^ 32)
is_live (kind.Unsigned word) = nat_lt word (2 ^ 32)
is_live (kind.Punct punct) = true

abbrev pub AreLive : List Token → Type 0
AreLive tokens = AllByRecursion (λ (t : Token). IsTrue (is_live t.kind)) tokens
