-- What the next token is, from what the rules tell of it.
use Rattle.std.proofs.Common.{◌≡◌, ℕ, Bool, true, false, Option, Some, None, refl, ap}
use Rattle.gsl_base.specs.declared.token.Punct.{Punct}
use Rattle.gsl_base.specs.declared.token.Punct.TheVariants as punct
use Rattle.gsl_base.specs.declared.token.Key.{Key}
use Rattle.gsl_base.specs.declared.token.Key.TheVariants as key
use Rattle.gsl_base.specs.declared.token.Kind.{Kind}
use Rattle.gsl_base.specs.declared.token.Kind.TheVariants as kind
use Rattle.gsl_syntax.specs.declared.expr.Basic.{Basic}
use Rattle.gsl_syntax.specs.declared.operator.BinaryOp.{BinaryOp}
use Rattle.gsl_syntax.specs.declared.operator.AssignOp.{AssignOp}
use Rattle.gsl_syntax.specs.declared.operator.UnaryOp.{UnaryOp}
use Rattle.gsl_syntax.specs.declared.operator.PostfixOp.{PostfixOp}
use Rattle.gsl_syntax.specs.Operators.{binary_of, assign_of, unary_of, postfix_of, basic_of}
use Rattle.gsl_expr.specs.declared.rule.Start.TheVariants as start
use Rattle.gsl_expr.specs.declared.rule.Follow.TheVariants as follow
use Rattle.gsl_expr.specs.declared.rule.Tail.TheVariants as tail
use Rattle.gsl_expr.specs.Rules.{start_unary, start_punct, start_basic, start_key, start_by, follow_binary, follow_punct, follow_by, tail_assign, tail_punct, tail_by}

-- a punctuator that an operator is spelled with
pub record Spells {O : Type 0} (f : Punct → Option O) (o : O) (k : Kind) : Type 0 where
  pub mark : Punct
  pub is : k ≡ kind.Punct mark
  pub spells : f mark ≡ Some o

-- a keyword that names a type
pub record Names (b : Basic) (k : Kind) : Type 0 where
  pub word : Key
  pub is : k ≡ kind.Key word
  pub names : basic_of word ≡ Some b

-- ---- how an operand begins

unary_start : (u : Option UnaryOp) (o : UnaryOp) → start_unary u ≡ start.Unary o → u ≡ Some o
unary_start (Some u) o h = cc
unary_start None o h = absurd cc

unary_no_paren : (u : Option UnaryOp) → start_unary u ≡ start.Paren → ⊥
unary_no_paren (Some u) h = cc
unary_no_paren None h = cc

basic_start : (u : Option Basic) (b : Basic) → start_basic u ≡ start.Basic b → u ≡ Some b
basic_start (Some u) b h = cc
basic_start None b h = absurd cc

basic_no_bool : (u : Option Basic) (b : Bool) → start_basic u ≡ start.Bool b → ⊥
basic_no_bool (Some u) b h = cc
basic_no_bool None b h = cc

punct_unary : (m : Punct) (o : UnaryOp) → start_punct m ≡ start.Unary o → unary_of m ≡ Some o
punct_unary punct.LeftParen o h = absurd cc
punct_unary m o h = unary_start (unary_of m) o h

punct_paren : (m : Punct) → start_punct m ≡ start.Paren → m ≡ punct.LeftParen
punct_paren punct.LeftParen h = refl
punct_paren m h = absurd (unary_no_paren (unary_of m) h)

key_basic : (w : Key) (b : Basic) → start_key w ≡ start.Basic b → basic_of w ≡ Some b
key_basic key.True b h = absurd cc
key_basic key.False b h = absurd cc
key_basic w b h = basic_start (basic_of w) b h

abbrev pub truth_key : Bool → Key
truth_key true = key.True
truth_key false = key.False

true_key : (b : Bool) → start.Bool true ≡ start.Bool b → key.True ≡ truth_key b
true_key true h = refl
true_key false h = absurd cc

false_key : (b : Bool) → start.Bool false ≡ start.Bool b → key.False ≡ truth_key b
false_key true h = absurd cc
false_key false h = refl

key_bool : (w : Key) (b : Bool) → start_key w ≡ start.Bool b → w ≡ truth_key b
key_bool key.True b h = true_key b h
key_bool key.False b h = false_key b h
key_bool w b h = absurd (basic_no_bool (basic_of w) b h)

key_no_signed : (w : Key) (n : ℕ) → start_key w ≡ start.Signed n → ⊥
key_no_signed key.True n h = cc
key_no_signed key.False n h = cc
key_no_signed w n h = go (basic_of w) h
  where
    go : (u : Option Basic) → start_basic u ≡ start.Signed n → ⊥
    go (Some u) h = cc
    go None h = cc

key_no_unsigned : (w : Key) (n : ℕ) → start_key w ≡ start.Unsigned n → ⊥
key_no_unsigned key.True n h = cc
key_no_unsigned key.False n h = cc
key_no_unsigned w n h = go (basic_of w) h
  where
    go : (u : Option Basic) → start_basic u ≡ start.Unsigned n → ⊥
    go (Some u) h = cc
    go None h = cc

key_no_paren : (w : Key) → start_key w ≡ start.Paren → ⊥
key_no_paren key.True h = cc
key_no_paren key.False h = cc
key_no_paren w h = go (basic_of w) h
  where
    go : (u : Option Basic) → start_basic u ≡ start.Paren → ⊥
    go (Some u) h = cc
    go None h = cc

key_no_unary : (w : Key) (o : UnaryOp) → start_key w ≡ start.Unary o → ⊥
key_no_unary key.True o h = cc
key_no_unary key.False o h = cc
key_no_unary w o h = go (basic_of w) h
  where
    go : (u : Option Basic) → start_basic u ≡ start.Unary o → ⊥
    go (Some u) h = cc
    go None h = cc

punct_no_basic : (m : Punct) (b : Basic) → start_punct m ≡ start.Basic b → ⊥
punct_no_basic punct.LeftParen b h = cc
punct_no_basic m b h = go (unary_of m) h
  where
    go : (u : Option UnaryOp) → start_unary u ≡ start.Basic b → ⊥
    go (Some u) h = cc
    go None h = cc

punct_no_bool : (m : Punct) (b : Bool) → start_punct m ≡ start.Bool b → ⊥
punct_no_bool punct.LeftParen b h = cc
punct_no_bool m b h = go (unary_of m) h
  where
    go : (u : Option UnaryOp) → start_unary u ≡ start.Bool b → ⊥
    go (Some u) h = cc
    go None h = cc

punct_no_signed : (m : Punct) (n : ℕ) → start_punct m ≡ start.Signed n → ⊥
punct_no_signed punct.LeftParen n h = cc
punct_no_signed m n h = go (unary_of m) h
  where
    go : (u : Option UnaryOp) → start_unary u ≡ start.Signed n → ⊥
    go (Some u) h = cc
    go None h = cc

punct_no_unsigned : (m : Punct) (n : ℕ) → start_punct m ≡ start.Unsigned n → ⊥
punct_no_unsigned punct.LeftParen n h = cc
punct_no_unsigned m n h = go (unary_of m) h
  where
    go : (u : Option UnaryOp) → start_unary u ≡ start.Unsigned n → ⊥
    go (Some u) h = cc
    go None h = cc

pub starts_basic : (k : Kind) (b : Basic) → start_by k ≡ start.Basic b → Names b k
starts_basic (kind.Key w) b h = record { word = w; is = refl; names = key_basic w b h }
starts_basic (kind.Punct m) b h = absurd (punct_no_basic m b h)
starts_basic (kind.Name n) b h = absurd cc
starts_basic (kind.Signed n) b h = absurd cc
starts_basic (kind.Unsigned n) b h = absurd cc

pub starts_signed : (k : Kind) (n : ℕ) → start_by k ≡ start.Signed n → k ≡ kind.Signed n
starts_signed (kind.Signed m) n h = cc
starts_signed (kind.Key w) n h = absurd (key_no_signed w n h)
starts_signed (kind.Punct m) n h = absurd (punct_no_signed m n h)
starts_signed (kind.Name m) n h = absurd cc
starts_signed (kind.Unsigned m) n h = absurd cc

pub starts_unsigned : (k : Kind) (n : ℕ) → start_by k ≡ start.Unsigned n → k ≡ kind.Unsigned n
starts_unsigned (kind.Unsigned m) n h = cc
starts_unsigned (kind.Key w) n h = absurd (key_no_unsigned w n h)
starts_unsigned (kind.Punct m) n h = absurd (punct_no_unsigned m n h)
starts_unsigned (kind.Name m) n h = absurd cc
starts_unsigned (kind.Signed m) n h = absurd cc

pub starts_bool : (k : Kind) (b : Bool) → start_by k ≡ start.Bool b → k ≡ kind.Key (truth_key b)
starts_bool (kind.Key w) b h = ap kind.Key (key_bool w b h)
starts_bool (kind.Punct m) b h = absurd (punct_no_bool m b h)
starts_bool (kind.Name n) b h = absurd cc
starts_bool (kind.Signed n) b h = absurd cc
starts_bool (kind.Unsigned n) b h = absurd cc

pub starts_paren : (k : Kind) → start_by k ≡ start.Paren → k ≡ kind.Punct punct.LeftParen
starts_paren (kind.Punct m) h = ap kind.Punct (punct_paren m h)
starts_paren (kind.Key w) h = absurd (key_no_paren w h)
starts_paren (kind.Name n) h = absurd cc
starts_paren (kind.Signed n) h = absurd cc
starts_paren (kind.Unsigned n) h = absurd cc

pub starts_unary : (k : Kind) (o : UnaryOp) → start_by k ≡ start.Unary o → Spells unary_of o k
starts_unary (kind.Punct m) o h = record { mark = m; is = refl; spells = punct_unary m o h }
starts_unary (kind.Key w) o h = absurd (key_no_unary w o h)
starts_unary (kind.Name n) o h = absurd cc
starts_unary (kind.Signed n) o h = absurd cc
starts_unary (kind.Unsigned n) o h = absurd cc

-- ---- how an operand goes on

binary_follow : (u : Option BinaryOp) (o : BinaryOp) → follow_binary u ≡ follow.Binary o → u ≡ Some o
binary_follow (Some u) o h = cc
binary_follow None o h = absurd cc

binary_no_index : (u : Option BinaryOp) → follow_binary u ≡ follow.Index → ⊥
binary_no_index (Some u) h = cc
binary_no_index None h = cc

binary_no_member : (u : Option BinaryOp) → follow_binary u ≡ follow.Member → ⊥
binary_no_member (Some u) h = cc
binary_no_member None h = cc

binary_no_postfix : (u : Option BinaryOp) (o : PostfixOp) → follow_binary u ≡ follow.Postfix o → ⊥
binary_no_postfix (Some u) o h = cc
binary_no_postfix None o h = cc

punct_binary : (m : Punct) (o : BinaryOp) → follow_punct m ≡ follow.Binary o → binary_of m ≡ Some o
punct_binary punct.LeftBracket o h = absurd cc
punct_binary punct.Dot o h = absurd cc
punct_binary punct.IncOp o h = absurd cc
punct_binary punct.DecOp o h = absurd cc
punct_binary m o h = binary_follow (binary_of m) o h

punct_index : (m : Punct) → follow_punct m ≡ follow.Index → m ≡ punct.LeftBracket
punct_index punct.LeftBracket h = refl
punct_index punct.Dot h = absurd cc
punct_index punct.IncOp h = absurd cc
punct_index punct.DecOp h = absurd cc
punct_index m h = absurd (binary_no_index (binary_of m) h)

punct_member : (m : Punct) → follow_punct m ≡ follow.Member → m ≡ punct.Dot
punct_member punct.LeftBracket h = absurd cc
punct_member punct.Dot h = refl
punct_member punct.IncOp h = absurd cc
punct_member punct.DecOp h = absurd cc
punct_member m h = absurd (binary_no_member (binary_of m) h)

punct_postfix : (m : Punct) (o : PostfixOp) → follow_punct m ≡ follow.Postfix o → postfix_of m ≡ Some o
punct_postfix punct.LeftBracket o h = absurd cc
punct_postfix punct.Dot o h = absurd cc
punct_postfix punct.IncOp o h = cc
punct_postfix punct.DecOp o h = cc
punct_postfix m o h = absurd (binary_no_postfix (binary_of m) o h)

pub follows_index : (k : Kind) → follow_by k ≡ follow.Index → k ≡ kind.Punct punct.LeftBracket
follows_index (kind.Punct m) h = ap kind.Punct (punct_index m h)
follows_index k h = absurd cc

pub follows_member : (k : Kind) → follow_by k ≡ follow.Member → k ≡ kind.Punct punct.Dot
follows_member (kind.Punct m) h = ap kind.Punct (punct_member m h)
follows_member k h = absurd cc

pub follows_postfix : (k : Kind) (o : PostfixOp) → follow_by k ≡ follow.Postfix o → Spells postfix_of o k
follows_postfix (kind.Punct m) o h = record { mark = m; is = refl; spells = punct_postfix m o h }
follows_postfix k o h = absurd cc

pub follows_binary : (k : Kind) (o : BinaryOp) → follow_by k ≡ follow.Binary o → Spells binary_of o k
follows_binary (kind.Punct m) o h = record { mark = m; is = refl; spells = punct_binary m o h }
follows_binary k o h = absurd cc

-- ---- what stands behind operands and their operators

assign_tail : (u : Option AssignOp) (o : AssignOp) → tail_assign u ≡ tail.Assign o → u ≡ Some o
assign_tail (Some u) o h = cc
assign_tail None o h = absurd cc

assign_no_question : (u : Option AssignOp) → tail_assign u ≡ tail.Question → ⊥
assign_no_question (Some u) h = cc
assign_no_question None h = cc

punct_question : (m : Punct) → tail_punct m ≡ tail.Question → m ≡ punct.Question
punct_question punct.Question h = refl
punct_question m h = absurd (assign_no_question (assign_of m) h)

punct_assign : (m : Punct) (o : AssignOp) → tail_punct m ≡ tail.Assign o → assign_of m ≡ Some o
punct_assign punct.Question o h = absurd cc
punct_assign m o h = assign_tail (assign_of m) o h

pub tails_question : (k : Kind) → tail_by k ≡ tail.Question → k ≡ kind.Punct punct.Question
tails_question (kind.Punct m) h = ap kind.Punct (punct_question m h)
tails_question k h = absurd cc

pub tails_assign : (k : Kind) (o : AssignOp) → tail_by k ≡ tail.Assign o → Spells assign_of o k
tails_assign (kind.Punct m) o h = record { mark = m; is = refl; spells = punct_assign m o h }
tails_assign k o h = absurd cc
