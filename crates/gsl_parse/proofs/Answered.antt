-- What is answered of the tokens of a supply.
use Rattle.std.proofs.Common.{◌≡◌, sym, ap, ◌∙◌, List, Result, Ok, Err}
use Rattle.gsl_base.specs.declared.fault.Refusal.{Refusal}
use Rattle.gsl_supply.specs.Supplying.{comes}
use Rattle.gsl_supply.specs.declared.supply.Supply.{Supply}
use Rattle.gsl_syntax.specs.declared.statement.Global.{Global}
use Rattle.gsl_expr.specs.InHand.{first_line, ahead_of, all_ahead}
use Rattle.gsl_expr.specs.Reading.{Ahead, Reads}
use Rattle.gsl_expr.specs.declared.stop.Stop.TheVariants as stop
use Rattle.gsl_parse.specs.Units.{globals}
use Rattle.gsl_parse.specs.Judged.{Judges}
use Rattle.gsl_parse.specs.Fed.{answer, Refuses, Over}
use Rattle.gsl_parse.proofs.Deciding.{most, overs, refuses}

module _ (s : Supply) (old new : Ahead) (none : s.count ≡ 0) (e : old ≡ all_ahead s) where
  kept_is : new.kept ≡ old.kept → new.kept ≡ (ahead_of (comes s).tokens first_line 0 (comes s)).kept
  kept_is k = k ∙ ap (λ (a : Ahead). a.kept) e ∙ ap (λ n. (ahead_of (comes s).tokens first_line n (comes s)).kept) none

  pub unit_over : (r : Result (List Global) Refusal) (tree : List Global) → Reads (globals most old.left) (Ok tree) old new → Over r tree new → Judges r (answer (comes s))
  unit_over r tree h o = overs (comes s) new (kept_is h.1) r tree (ap (λ (a : Ahead). globals most a.left) (sym e) ∙ h.0) o

  pub unit_refused : (r : Refusal) → Reads {A = List Global} (globals most old.left) (Err stop.Bad) old new → Refuses r new → Judges (let x : Result (List Global) Refusal = Err r in x) (answer (comes s))
  unit_refused r h o = refuses (comes s) new (kept_is h.1) r (ap (λ (a : Ahead). globals most a.left) (sym e) ∙ h.0) o
