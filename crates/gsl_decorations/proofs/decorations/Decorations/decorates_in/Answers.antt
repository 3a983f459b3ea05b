use Rattle.std.proofs.Common.{ap, ◌∙◌}
use Rattle.gsl_words.specs.declared.module.Instr.{Instr}
use Rattle.std.specs.Prelude.{Bool}
use Rattle.gsl_kinds.specs.Seen.{place_seen}
use Rattle.gsl_decorations.specs.Firsts.{first_from, is_below}
use Rattle.gsl_decorations.specs.Marks.{has_mark}
use Rattle.gsl_decorations.proofs.Fronts.{in_front_of_all}
use Rattle.gsl_decorations.proofs.Found.{stands, place_back}
use Rattle.gsl_decorations.proofs.decorations.Decorations.decorates_in.Goals as goal

pub returns : goal.returns
returns c =
    let code = c.args.self.now.instrs in
    c.is_below.ensures ∙ ap (is_below c.args.count) c.first.ensures
    ∙ ap (λ mark. is_below c.args.count (first_from (has_mark mark) 0 code)) c.mark_on.ensures
    ∙ ap (λ (test : Instr → Bool). is_below c.args.count (first_from test 0 code)) (place_back (place_seen c.args.place) c.args.kind)
    ∙ in_front_of_all (stands (place_seen c.args.place) c.args.kind) c.args.count code
