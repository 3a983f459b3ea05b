use Rattle.std.proofs.Common.{◌+◌, inl, inr, refl, sym, ap, ◌∙◌}
use Rattle.gsl_supply.specs.Supplying.{comes, undrawn}
use Rattle.gsl_supply.proofs.Supplied.{none_beyond, none_within, passed_given, passed_deep}
use Rattle.gsl_supply.proofs.supply.Supply.next.Goals as goal

pub returns-then-not-is_within : goal.returns-then-not-is_within
unfolding comes
returns-then-not-is_within c =
    let n = none_beyond c.args.self.now.place c.args.self.now.nesting _ (sym c.if-not-is_within.true ∙ c.is_within.ensures) in (n.0, n.1, refl, inl n.2)

pub returns-in_default : goal.returns-in_default
unfolding comes
returns-in_default c =
    let n = none_within c.args.self.now.place c.args.self.now.nesting c.args.self.now.held c.take.new.self c.args.self.now.fault (undrawn c.args.self.now.source)
    (sym c.if-not-is_within.false ∙ c.is_within.ensures) (sym c.take.ensures.value ∙ c.in_default.is) c.take.ensures.after in
    (n.0, n.1, refl, inr c.take.ensures.after)

pub returns-then-not-is_within-2 : goal.returns-then-not-is_within-2
unfolding comes
returns-then-not-is_within-2 c =
    let n = passed_deep c.in-Some.token c.args.self.now.place c.args.self.now.held c.args.self.now.fault c.refill.new.self.fault c.refill.new.self.held (undrawn c.args.self.now.source) (undrawn c.refill.new.self.source)
    (sym c.take.ensures.value ∙ c.in-Some.is) c.in_ok-refill.ensures.waits c.goes_on.result c.goes_on.ensures c.args.self.now.nesting c.refill.new.self.nesting c.pass.new.self
    (sym c.if-not-is_within.false ∙ c.is_within.ensures) c.refill.ensures.same.0 c.in_ok-pass.ensures (sym c.if-not-is_within-2.true ∙ c.is_within-2.ensures) in
    (n.0, n.1, c.refill.ensures.same.2, inl n.2)

pub returns : goal.returns
unfolding comes
returns c = (
  passed_given c.in-Some.token c.args.self.now.place c.args.self.now.held c.args.self.now.fault c.refill.new.self.fault c.refill.new.self.held (undrawn c.args.self.now.source) (undrawn c.refill.new.self.source)
      (sym c.take.ensures.value ∙ c.in-Some.is) c.in_ok-refill.ensures.waits c.goes_on.result c.goes_on.ensures c.refill.new.self.place c.args.self.now.nesting c.refill.new.self.nesting c.pass.new.self
      (sym c.if-not-is_within.false ∙ c.is_within.ensures) c.refill.ensures.same.0 c.in_ok-pass.ensures (sym c.if-not-is_within-2.false ∙ c.is_within-2.ensures),
  c.in_ok-self.ensures ∙ ap (λ n. n + 1) c.refill.ensures.same.2,
)
