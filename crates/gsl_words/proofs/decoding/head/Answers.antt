use Rattle.std.proofs.Common.{arith, refl, sym, ◌∙◌}
use Rattle.gsl_words.proofs.Found.{are_words, head_is, text_breaks}
use Rattle.gsl_words.proofs.decoding.head.Goals as goal

pub returns-then-not-branch-clause-fault : goal.returns-then-not-branch-clause-fault
returns-then-not-branch-clause-fault c = (
  refl,
  c.in-Some.form,
  sym c.in-Some.ensures,
  sym c.is_counted.ensures ∙ c.if-not-is_counted.false,
  text_breaks c.in-Some.form c.args.words.now (sym c.in-Some.ensures) (sym c.in_ok-fits_text.ensures ∙ c.if-not-branch.true),
)

pub returns-clause-ok : goal.returns-clause-ok
returns-clause-ok c =
    head_is c.in-Some.form c.args.words.now (are_words c.args.words.now (λ i. omega (arith, c.type_inv.words i))) (sym c.in-Some.ensures) (sym c.is_counted.ensures ∙ c.if-not-is_counted.false) (sym c.in_ok-fits_text.ensures ∙ c.if-not-branch.false)
