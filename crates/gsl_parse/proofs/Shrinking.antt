-- Behind what is read no more is left than before, and at the end of the tokens nothing is read.
use Rattle.std.proofs.Common.{◌≡◌, refl, ℕ, zero, suc, ◌<◌, ◌≤◌, [], length, Ok, Err}
use Rattle.gsl_syntax.specs.declared.declaration.Lay.{Lay}
use Rattle.gsl_syntax.specs.declared.declaration.Qual.{Qual}
use Rattle.gsl_syntax.specs.declared.declaration.Declared.{Declared}
use Rattle.gsl_syntax.specs.declared.declaration.Declarator.{Declarator}
use Rattle.gsl_syntax.specs.declared.declaration.Init.{Init}
use Rattle.gsl_syntax.specs.declared.declaration.StructMember.{StructMember}
use Rattle.gsl_syntax.specs.declared.declaration.Member.{Member}
use Rattle.gsl_syntax.specs.declared.statement.Param.{Param}
use Rattle.gsl_syntax.specs.declared.statement.Stmt.{Stmt}
use Rattle.gsl_syntax.specs.declared.statement.Global.{Global}
use Rattle.gsl_expr.specs.Rules.{start_at}
use Rattle.gsl_expr.specs.Reading.{Tokens, Parser, sees, sees_key}
use Rattle.gsl_expr.specs.Expressions.{expr}
use Rattle.gsl_expr.proofs.Near.{Within, Near}
use Rattle.gsl_expr.proofs.Turns.{some_token, left_of, less_of, expr_none}
use Rattle.gsl_parse.specs.Lists.{Shrinks, Takes}
use Rattle.gsl_parse.specs.Openings.{opening_at}
use Rattle.gsl_parse.specs.Qualifiers.{begins_qual, plain_at, lay_item, qualifier}
use Rattle.gsl_parse.specs.Variables.{declared, declarator_at, initialiser, open_brace, struct_member, member, phrase}
use Rattle.gsl_parse.specs.Statements.{statement}
use Rattle.gsl_parse.specs.Units.{parameter, some_left, global_at}
use Rattle.gsl_parse.proofs.NearLists.{Eats}
use Rattle.gsl_parse.proofs.NearDeclarations.{lay_item_near, qualifier_eats, declared_near, initialiser_within, declarator_near, struct_member_eats, member_eats}
use Rattle.gsl_parse.proofs.NearUnits.{statement_eats, parameter_near, global_eats}

module _ {A : Type 0} (d c : ℕ) (f : Parser A) (ts us : Tokens) (a : A) (e : f ts ≡ Ok (a, us)) where
  of_near : Near some_token [] [] d c f f → length us ≤ length ts
  of_near n = left_of ts us a (f ts) (n.within ts) e

  of_eats : Eats some_token [] [] d c f f → length us < length ts
  of_eats n = less_of ts us a (f ts) (n.takes ts) e

pub lay_shrinks : (d : ℕ) → Shrinks (lay_item d)
lay_shrinks d = record { shrinks = λ ts us a e. of_near d d (lay_item d) ts us a e (lay_item_near some_token [] []) }

pub declared_shrinks : (d : ℕ) → Shrinks (declared d)
declared_shrinks d = record { shrinks = λ ts us a e. of_near d d (declared d) ts us a e (declared_near some_token [] []) }

pub declarator_shrinks : (d : ℕ) → Shrinks (declarator_at d)
declarator_shrinks d = record { shrinks = λ ts us a e. of_near d d (declarator_at d) ts us a e (declarator_near some_token [] []) }

pub parameter_shrinks : (d : ℕ) → Shrinks (parameter d)
parameter_shrinks d = record { shrinks = λ ts us a e. of_near d d (parameter d) ts us a e (parameter_near some_token [] [] d d) }

pub qual_takes : (d : ℕ) → Takes begins_qual (qualifier d)
unfolding begins_qual sees_key plain_at
qual_takes d = record { none = refl; takes = λ ts us a e. of_eats d d (qualifier d) ts us a e (qualifier_eats some_token [] []) }

pub struct_member_takes : (d : ℕ) → Takes open_brace (struct_member d)
unfolding open_brace
struct_member_takes d = record { none = refl; takes = λ ts us a e. of_eats d d (struct_member d) ts us a e (struct_member_eats some_token [] []) }

pub member_takes : (d : ℕ) → Takes open_brace (member d)
unfolding open_brace
member_takes d = record { none = refl; takes = λ ts us a e. of_eats d d (member d) ts us a e (member_eats some_token [] []) }

pub global_takes : (d : ℕ) → Takes some_left (global_at d)
global_takes d = record { none = refl; takes = λ ts us a e. of_eats d d (global_at d) ts us a e (global_eats some_token [] [] d d) }

pub initialiser_shrinks : (d n : ℕ) (ts us : Tokens) (a : Init) → initialiser d n ts ≡ Ok (a, us) → length us ≤ length ts
initialiser_shrinks d n ts us a e = left_of ts us a (initialiser d n ts) (initialiser_within some_token [] [] d d n ts) e

pub statement_takes : (d : ℕ) (ts us : Tokens) (a : Stmt) → statement d ts ≡ Ok (a, us) → length us < length ts
statement_takes d ts us a e = less_of ts us a (statement d ts) ((statement_eats some_token [] [] d d).takes ts) e

-- ---- at the end of the tokens

pub initialiser_none : (d n : ℕ) → initialiser d n [] ≡ Err []
unfolding initialiser sees
initialiser_none d zero = refl
initialiser_none d (suc n) = rw (expr_none d 1) refl

pub statement_none : (d : ℕ) → statement d [] ≡ Err []
unfolding statement opening_at phrase start_at
statement_none zero = refl
statement_none (suc d) = rw (expr_none d 0) refl
