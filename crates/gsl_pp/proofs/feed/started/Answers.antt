use Rattle.std.proofs.Common.{refl, sym, ◌∙◌}
use Rattle.gsl_pp.proofs.Fed.{starts_none, starts_text, starts_fault, starts_fine}
use Rattle.gsl_pp.proofs.feed.started.Goals as goal

pub returns-in_default : goal.returns-in_default
returns-in_default c = starts_none c.args.unit c.args.rest.now c.at.result c.in_default.ensures.0 c.at.ensures

pub returns-then-not-is_directive : goal.returns-then-not-is_directive
returns-then-not-is_directive c =
    starts_text c.args.unit c.in-Some.first c.take.new.self c.args.rest.now c.at-then-not-is_directive.result c.in-Some.ensures (sym c.if-not-is_directive.true ∙ c.is_directive.ensures) c.at-then-not-is_directive.ensures

pub returns-in-Ok : goal.returns-in-Ok
returns-in-Ok c =
    starts_fine c.args.unit c.in-Some.first c.take.new.self c.args.rest.now _ c.line_behind.new.rest _ _ c.in-Some.ensures (sym c.if-not-is_directive.false ∙ c.is_directive.ensures) refl (c.as_slice.ensures ∙ c.in_ok-line.ensures.front)
    (sym c.in-Ok.ensures) c.in_ok-line.ensures.back

pub returns : goal.returns
returns c =
    starts_fault c.args.unit c.in-Some.first c.take.new.self c.args.rest.now _ _ c.in-Err.fault c.in-Some.ensures (sym c.if-not-is_directive.false ∙ c.is_directive.ensures) refl (c.as_slice.ensures ∙ c.in_ok-line.ensures.front)
    (sym c.in-Err.ensures)
