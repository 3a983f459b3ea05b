use Rattle.std.proofs.Common.{◌≡◌, true, false, None, Some, refl, ap, sym, ◌∙◌}
use Rattle.std.specs.Prelude.{nat_le}
use Rattle.std.proofs.lemmas.Bool.{le-leb, lt-leb}
use Rattle.gsl_valid.specs.Placed.{count_of_words}
use Rattle.gsl_valid.specs.Search.{first_broken, unless, ◌otherwise◌}
use Rattle.gsl_valid.specs.Sections.{in_section, is_complete}
use Rattle.gsl_valid_order.specs.declared.order.At.{At}
use Rattle.gsl_valid_order.proofs.Ordered.{finds, ends}
use Rattle.gsl_valid_order.proofs.order.in_order.Goals as goal

pub returns-in-Some : goal.returns-in-Some
returns-in-Some c =
    let m = c.args.of.now in
    let s : At = record { of = c.args.of; section = 0; inside = false } in
    ap (λ o. o otherwise unless (is_complete m) (count_of_words m)) (c.in-Some.ensures.place ∙ finds m s refl refl refl)

pub returns-then-at-ge-ENTRY_POINTS : goal.returns-then-at-ge-ENTRY_POINTS
returns-then-at-ge-ENTRY_POINTS c =
    let m = c.args.of.now in
    let s : At = record { of = c.args.of; section = 0; inside = false } in
    let none : first_broken (in_section m) m ≡ None = sym (c.in_default.ensures.place ∙ finds m s refl refl refl) in
    let reached = ap (λ (t : At). t.section) (c.in_default.ensures.kept refl) ∙ ends m s refl refl refl none in
    let complete : is_complete m ≡ true = ap (nat_le 4) (sym reached) ∙ le-leb 4 c.first_failed.new.test.section c.if-at-ge-ENTRY_POINTS.true in
    sym (ap (λ o. o otherwise unless (is_complete m) (count_of_words m)) none ∙ ap (λ b. unless b (count_of_words m)) complete)

pub returns-else-at-ge-ENTRY_POINTS : goal.returns-else-at-ge-ENTRY_POINTS
returns-else-at-ge-ENTRY_POINTS c =
    let m = c.args.of.now in
    let s : At = record { of = c.args.of; section = 0; inside = false } in
    let none : first_broken (in_section m) m ≡ None = sym (c.in_default.ensures.place ∙ finds m s refl refl refl) in
    let reached = ap (λ (t : At). t.section) (c.in_default.ensures.kept refl) ∙ ends m s refl refl refl none in
    let partial : is_complete m ≡ false = ap (nat_le 4) (sym reached) ∙ lt-leb 4 c.first_failed.new.test.section c.if-at-ge-ENTRY_POINTS.false in
    ap Some c.count_of_words.ensures
    ∙ sym (ap (λ o. o otherwise unless (is_complete m) (count_of_words m)) none ∙ ap (λ b. unless b (count_of_words m)) partial)
