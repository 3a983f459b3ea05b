-- How deeply tokens nest, and where they nest too deeply.
use Rattle.std.specs.Prelude.{ℕ, ◌+◌, pred, Bool, true, false, List, [], ◌∷◌, length, Option, Some, None, nat_lt, nat_eq, if◌then◌else◌}
use Rattle.gsl_base.specs.declared.token.Punct.{Punct}
use Rattle.gsl_base.specs.declared.token.Punct.TheVariants as punct
use Rattle.gsl_base.specs.declared.token.Key.{Key}
use Rattle.gsl_base.specs.declared.token.Key.TheVariants as key
use Rattle.gsl_base.specs.declared.token.Kind.{Kind}
use Rattle.gsl_base.specs.declared.token.Kind.TheVariants as kind
use Rattle.gsl_base.specs.declared.token.Token.{Token}
use Rattle.gsl_syntax.specs.declared.nesting.Counter.{Counter}

-- the counters of the brackets that are open, the innermost first, and then the one outside of them all
abbrev pub Counters : Type 0
Counters = Counter × List Counter

abbrev pub counter : ℕ → ℕ → ℕ → Bool → Counter
counter n c w l = record { value = n; choices = c; words = w; list = l }

abbrev pub fresh : Bool → Counter
fresh l = counter 0 0 0 l

-- at first there is one counter
abbrev pub at_first : Counters
at_first = (fresh false, [])

abbrev pub sum_of : List Counter → ℕ
sum_of [] = 0
sum_of (c ∷ cs) = c.value + sum_of cs

-- the sum of the counters, and how many brackets are open
abbrev pub weight : Counters → ℕ
weight s = s.0.value + sum_of s.1 + length s.1

-- adds 1 to the top
abbrev pub add : Counters → Counters
add s = (counter (s.0.value + 1) s.0.choices s.0.words s.0.list, s.1)

-- adds 1 to the top for a word
abbrev pub add_word : Counters → Counters
add_word s = (counter (s.0.value + 1) s.0.choices (s.0.words + 1) s.0.list, s.1)

-- adds 1 to the top and opens a choice in it
abbrev pub open_choice : Counters → Counters
open_choice s = (counter (s.0.value + 1) (s.0.choices + 1) s.0.words s.0.list, s.1)

-- sets the top to 0
abbrev pub clear : Counters → Counters
clear s = (fresh s.0.list, s.1)

-- closes the last choice that is open in the top, if there is one
abbrev pub close_choice : Counters → Counters
close_choice s = (counter s.0.value (pred s.0.choices) s.0.words s.0.list, s.1)

-- sets the top to the count of its words, unless a choice is open in it
abbrev pub separate : Counters → Counters
separate s = if nat_eq s.0.choices 0 then (counter s.0.words 0 s.0.words s.0.list, s.1) else s

abbrev pub push : Bool → Counters → Counters
push l s = (fresh l, s.0 ∷ s.1)

-- takes the top away, unless it is the only one
abbrev pub pop : Counters → Counters
pop (c, []) = (c, [])
pop (c, d ∷ cs) = (d, cs)

-- whether the top is one to take away, and a `{` directly after a name, `=` or `,` began it
abbrev pub pops_list : Counters → Bool
pops_list (c, []) = false
pops_list (c, d ∷ cs) = c.list

-- what, directly before a `{`, tells that a list of members or of initialisers begins: a name, `=` or `,`
abbrev pub begins_list : Kind → Bool
begins_list (kind.Name n) = true
begins_list (kind.Punct punct.Equal) = true
begins_list (kind.Punct punct.Comma) = true
begins_list _ = false

-- what, directly before `case` or `default`, tells that a label begins: `{`, `}`, `;` or `:`
abbrev pub before_label : Kind → Bool
before_label (kind.Punct punct.LeftBrace) = true
before_label (kind.Punct punct.RightBrace) = true
before_label (kind.Punct punct.Semicolon) = true
before_label (kind.Punct punct.Colon) = true
before_label _ = false

-- the words `else` and `while`
abbrev pub is_continuation : Kind → Bool
is_continuation (kind.Key key.Else) = true
is_continuation (kind.Key key.While) = true
is_continuation _ = false

-- what, directly behind a `;` or a `}`, tells that the statement does not end there: `else` or `while`
abbrev pub goes_on : List Token → Bool
goes_on (t ∷ ts) = is_continuation t.kind
goes_on [] = false

-- a statement ends, unless it goes on
abbrev pub end_statement : Bool → Counters → Counters
end_statement on s = if on then s else clear s

abbrev pub close_brace : Bool → Counters → Counters
close_brace on s = if pops_list s then pop s else end_statement on (pop s)

-- what a punctuator does: `list` where the token before it begins a list, `on` where the statement goes on behind it
abbrev pub counted_punct : (list on : Bool) → Punct → Counters → Counters
counted_punct list on punct.LeftParen s = push false s
counted_punct list on punct.LeftBracket s = push false s
counted_punct list on punct.LeftBrace s = push list s
counted_punct list on punct.RightParen s = add (pop s)
counted_punct list on punct.RightBracket s = add (pop s)
counted_punct list on punct.RightBrace s = close_brace on s
counted_punct list on punct.Semicolon s = end_statement on s
counted_punct list on punct.Question s = open_choice s
counted_punct list on punct.Colon s = close_choice s
counted_punct list on punct.Comma s = separate s
counted_punct list on _ s = add s

-- what a keyword does: `label` where the token before it tells that a label begins
abbrev pub counted_key : (label : Bool) → Key → Counters → Counters
counted_key label key.Case s = if label then clear s else s
counted_key label key.Default s = if label then clear s else s
counted_key label key.If s = add_word s
counted_key label key.Else s = add_word s
counted_key label key.Do s = add_word s
counted_key label key.For s = add_word s
counted_key label key.While s = add_word s
counted_key label key.Switch s = add_word s
counted_key label _ s = s

-- what a token does, between the token before it and the one behind it
abbrev pub counted : (list label on : Bool) → Kind → Counters → Counters
counted list label on (kind.Punct m) s = counted_punct list on m s
counted list label on (kind.Key w) s = counted_key label w s
counted list label on _ s = s

-- the first token at which the weight passes 256, from these counters on
unfoldable pub deep_from : (list label : Bool) → Counters → List Token → Option Token
deep_from list label s [] = None
deep_from list label s (t ∷ ts) =
    let n = counted list label (goes_on ts) t.kind s in
    if nat_lt 256 (weight n) then Some t else deep_from (begins_list t.kind) (before_label t.kind) n ts

-- the first token at which the weight passes 256
unfoldable pub first_deep : List Token → Option Token
first_deep ts = deep_from false false at_first ts
