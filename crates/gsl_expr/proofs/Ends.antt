-- Where an expression ends, and how a type is read.
use Rattle.std.proofs.Common.{◌≡◌, refl, ℕ, ◌≤◌, true, false, List, [], ◌∷◌, ◌⊎◌, Ok, arith}
use Rattle.gsl_base.specs.declared.fault.Place.{Place}
use Rattle.gsl_base.specs.declared.token.Punct.TheVariants as punct
use Rattle.gsl_base.specs.declared.token.Kind.TheVariants as kind
use Rattle.gsl_syntax.specs.declared.expr.Basic.{Basic}
use Rattle.gsl_syntax.specs.declared.expr.TypeSpec.{TypeSpec}
use Rattle.gsl_syntax.specs.Phrases.{token, sign}
use Rattle.gsl_expr.specs.declared.rule.Start.TheVariants as start
use Rattle.gsl_expr.specs.declared.rule.Follow.TheVariants as follow
use Rattle.gsl_expr.specs.declared.rule.Tail.TheVariants as tail
use Rattle.gsl_expr.specs.declared.rule.Head.{Head}
use Rattle.gsl_expr.specs.Rules.{start_at, follow_at, tail_at}
use Rattle.gsl_expr.specs.Reading.{Tokens, sees}
use Rattle.gsl_expr.specs.Expressions.{head_type, may_be_open, expr, named_head, basic_head}

-- nothing that could go on with an expression of level k stands next, and no parenthesis that makes a call of a name
pub record Ends (k : ℕ) (rest : Tokens) : Type 0 where
  pub follow : follow_at rest ≡ follow.End
  pub tail : tail_at rest ≡ tail.End
  pub comma : k ≡ 0 → sees punct.Comma rest ≡ false
  pub paren : sees punct.LeftParen rest ≡ false

-- a type is read as a head
pub record Heads (d : ℕ) (t : TypeSpec) (ts rest : Tokens) : Type 0 where
  pub head : Head
  pub type_is : head_type head ≡ t
  pub may_open : may_be_open head.mode ≡ true
  pub reads : ((start_at ts ≡ start.Name) × (named_head (expr d) ts ≡ Ok (head, rest)))
      ⊎ ((b : Basic) × (start_at ts ≡ start.Basic b) × (basic_head (expr d) b ts ≡ Ok (head, rest)))

pub nothing_ends : (k : ℕ) → Ends k []
unfolding follow_at tail_at sees
nothing_ends k = record { follow = refl; tail = refl; comma = λ z. refl; paren = refl }

pub right_paren_ends : (k : ℕ) (p : Place) (rest : Tokens) → Ends k (sign p punct.RightParen ∷ rest)
unfolding follow_at tail_at sees
right_paren_ends k p rest = record { follow = refl; tail = refl; comma = λ z. refl; paren = refl }

pub right_bracket_ends : (k : ℕ) (p : Place) (rest : Tokens) → Ends k (sign p punct.RightBracket ∷ rest)
unfolding follow_at tail_at sees
right_bracket_ends k p rest = record { follow = refl; tail = refl; comma = λ z. refl; paren = refl }

pub right_brace_ends : (k : ℕ) (p : Place) (rest : Tokens) → Ends k (sign p punct.RightBrace ∷ rest)
unfolding follow_at tail_at sees
right_brace_ends k p rest = record { follow = refl; tail = refl; comma = λ z. refl; paren = refl }

pub semicolon_ends : (k : ℕ) (p : Place) (rest : Tokens) → Ends k (sign p punct.Semicolon ∷ rest)
unfolding follow_at tail_at sees
semicolon_ends k p rest = record { follow = refl; tail = refl; comma = λ z. refl; paren = refl }

pub colon_ends : (k : ℕ) (p : Place) (rest : Tokens) → Ends k (sign p punct.Colon ∷ rest)
unfolding follow_at tail_at sees
colon_ends k p rest = record { follow = refl; tail = refl; comma = λ z. refl; paren = refl }

pub comma_ends : (k : ℕ) (p : Place) (rest : Tokens) → 1 ≤ k → Ends k (sign p punct.Comma ∷ rest)
unfolding follow_at tail_at sees
comma_ends k p rest some = record { follow = refl; tail = refl; comma = λ z. absurd (omega arith); paren = refl }

-- what ends one expression ends another, but for a comma
pub ends_too : {j k : ℕ} {rest : Tokens} → 1 ≤ k → Ends j rest → Ends k rest
ends_too some ends = record { follow = ends.follow; tail = ends.tail; comma = λ z. absurd (omega arith); paren = ends.paren }

-- what stands next is no bracket
pub bracket_not_name : (p : Place) (n : List ℕ) (rest : Tokens) → sees punct.LeftBracket (token p (kind.Name n) ∷ rest) ≡ false
unfolding sees
bracket_not_name p n rest = refl

pub bracket_not_left_paren : (p : Place) (rest : Tokens) → sees punct.LeftBracket (sign p punct.LeftParen ∷ rest) ≡ false
unfolding sees
bracket_not_left_paren p rest = refl

pub bracket_not_equal : (p : Place) (rest : Tokens) → sees punct.LeftBracket (sign p punct.Equal ∷ rest) ≡ false
unfolding sees
bracket_not_equal p rest = refl
