-- What a value that an id stands for leads to.
use Rattle.std.proofs.Common.{◌≡◌, sym, ap, Option, Some, None, unwrap_or}
use Rattle.std.proofs.lemmas.Option.{none-some}
use Rattle.gsl_values.specs.declared.value.Value.{Value}
use Rattle.gsl_machine.specs.State.{Held, Outcome, Points, Whole, on_whole}
use Rattle.gsl_enact_state.specs.Seen.{whole_in}

pub whole_leads : (h : Option Held) (v : Value) (go : Value → Outcome) → Some v ≡ whole_in h → go v ≡ on_whole h go
whole_leads None v go is = elim (none-some _ (sym is)) [ ]
whole_leads (Some (Whole w)) v go is = ap go (ap (λ o. unwrap_or o w) is)
whole_leads (Some (Points to)) v go is = elim (none-some _ (sym is)) [ ]
