use Rattle.std.proofs.Common.{◌≡◌, true, false, None, Some, refl, ap, sym, ◌∙◌}
use Rattle.gsl_words.specs.declared.module.Module.{Module}
use Rattle.gsl_valid.specs.Placed.{placed, count_of_words}
use Rattle.gsl_valid.specs.Search.{first_broken, whole, unless, ◌otherwise◌}
use Rattle.gsl_valid.specs.Where.{where_at}
use Rattle.gsl_valid.specs.FunctionRules.{in_shape, outside}
use Rattle.gsl_ids.specs.Pass.{first_failed, kept}
use Rattle.gsl_valid_order.specs.Seen.{Reached}
use Rattle.gsl_valid_order.proofs.Shaped.{passes, behind, at_first, finds, ends}
use Rattle.gsl_valid_order.proofs.function.function_shape.Goals as goal

pub returns-in-Some : goal.returns-in-Some
returns-in-Some c =
    let m = c.args.definitions.now in
    ap (λ o. o otherwise unless (outside (where_at m (whole m)).standing) (count_of_words m))
    (c.in-Some.ensures.place ∙ ap (λ (n : Module). first_failed passes behind (at_first m) 0 (placed n)) c.module.ensures ∙ finds m)

pub returns-then-is_outside : goal.returns-then-is_outside
returns-then-is_outside c =
    let m = c.args.definitions.now in
    let none : first_broken (in_shape m) m ≡ None =
    sym (c.in_default.ensures.place ∙ ap (λ (n : Module). first_failed passes behind (at_first m) 0 (placed n)) c.module.ensures ∙ finds m) in
    let reached = ap (λ (s : Reached). s.standing) (c.in_default.ensures.kept refl ∙ ap (λ (n : Module). kept passes behind (at_first m) 0 (placed n)) c.module.ensures) ∙ ends m none in
    let is : outside (where_at m (whole m)).standing ≡ true = ap outside (sym reached) ∙ sym c.is_outside.ensures ∙ c.if-is_outside.true in
    sym (ap (λ o. o otherwise unless (outside (where_at m (whole m)).standing) (count_of_words m)) none ∙ ap (λ b. unless b (count_of_words m)) is)

pub returns-else-is_outside : goal.returns-else-is_outside
returns-else-is_outside c =
    let m = c.args.definitions.now in
    let none : first_broken (in_shape m) m ≡ None =
    sym (c.in_default.ensures.place ∙ ap (λ (n : Module). first_failed passes behind (at_first m) 0 (placed n)) c.module.ensures ∙ finds m) in
    let reached = ap (λ (s : Reached). s.standing) (c.in_default.ensures.kept refl ∙ ap (λ (n : Module). kept passes behind (at_first m) 0 (placed n)) c.module.ensures) ∙ ends m none in
    let is : outside (where_at m (whole m)).standing ≡ false = ap outside (sym reached) ∙ sym c.is_outside.ensures ∙ c.if-is_outside.false in
    ap Some (c.count_of_words.ensures ∙ ap (λ (n : Module). count_of_words n) c.module-else-is_outside.ensures)
    ∙ sym (ap (λ o. o otherwise unless (outside (where_at m (whole m)).standing) (count_of_words m)) none ∙ ap (λ b. unless b (count_of_words m)) is)
