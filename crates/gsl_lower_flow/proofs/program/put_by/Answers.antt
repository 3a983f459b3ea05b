use Rattle.std.proofs.Common.{ap, sym, ◌∙◌}
use Rattle.std.specs.Prelude.{slice_get}
use Rattle.gsl_lower_flow.specs.Programs.{declared}
use Rattle.gsl_lower_flow.specs.Reaching.{is_among}
use Rattle.gsl_lower_flow.proofs.Modules.{by_main}
use Rattle.gsl_lower_flow.proofs.program.put_by.Goals as goal

pub returns-in-Some : goal.returns-in-Some
returns-in-Some c =
    by_main (is_among c.args.found.now.keys c.args.main) c.args.target c.args.program.now c.args.b.now c.declared.new.b c.all_put.new.b c.in_ok-p.p c.all_put.new.p c.in-Some.id c.in_ok-all_put.field-0
    (ap (λ n. declared c.args.target c.args.program.now n c.args.b.now) (sym c.in_ok-asked.ensures) ∙ c.in_ok-p.ensures) c.in_ok-all_put.ensures (ap (slice_get c.all_put.new.p.functions) (sym c.requires.main) ∙ ap (λ l. slice_get l c.args.main) (sym c.as_slice.ensures) ∙ sym c.in-Some.ensures)
