-- How the code reads, and not the rule, which stands in `Statements.antt` of `gsl_syntax`.
-- What a statement begins with.
use Rattle.std.specs.Prelude.{List, [], ◌∷◌}
use Rattle.gsl_base.specs.declared.token.Punct.{Punct}
use Rattle.gsl_base.specs.declared.token.Punct.TheVariants as punct
use Rattle.gsl_base.specs.declared.token.Key.{Key}
use Rattle.gsl_base.specs.declared.token.Key.TheVariants as key
use Rattle.gsl_base.specs.declared.token.Kind.{Kind}
use Rattle.gsl_base.specs.declared.token.Kind.TheVariants as kind
use Rattle.gsl_base.specs.declared.token.Token.{Token}
use Rattle.gsl_parse.specs.declared.opening.Opening.{Opening}
use Rattle.gsl_parse.specs.declared.opening.Opening.TheVariants as opening

abbrev pub opening_punct : Punct → Opening
opening_punct punct.Semicolon = opening.Empty
opening_punct punct.LeftBrace = opening.Block
opening_punct _ = opening.Phrase

abbrev pub opening_key : Key → Opening
opening_key key.If = opening.If
opening_key key.Switch = opening.Switch
opening_key key.Case = opening.Case
opening_key key.Default = opening.Default
opening_key key.While = opening.While
opening_key key.Do = opening.Do
opening_key key.For = opening.For
opening_key key.Break = opening.Break
opening_key key.Continue = opening.Continue
opening_key key.Discard = opening.Discard
opening_key key.Return = opening.Return
opening_key key.Struct = opening.Local
opening_key key.Layout = opening.Local
opening_key key.Const = opening.Local
opening_key key.In = opening.Local
opening_key key.Out = opening.Local
opening_key key.Inout = opening.Local
opening_key key.Uniform = opening.Local
opening_key key.Buffer = opening.Local
opening_key key.Flat = opening.Local
opening_key key.Coherent = opening.Local
opening_key key.Volatile = opening.Local
opening_key key.Restrict = opening.Local
opening_key key.Readonly = opening.Local
opening_key key.Writeonly = opening.Local
opening_key _ = opening.Phrase

abbrev pub opening_by : Kind → Opening
opening_by (kind.Punct m) = opening_punct m
opening_by (kind.Key w) = opening_key w
opening_by _ = opening.Phrase

-- what the next token opens
unfoldable pub opening_at : List Token → Opening
opening_at [] = opening.Phrase
opening_at (t ∷ ts) = opening_by t.kind
