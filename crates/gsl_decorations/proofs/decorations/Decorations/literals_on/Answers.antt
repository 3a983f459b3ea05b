use Rattle.std.proofs.Common.{refl, ap, ◌∙◌}
use Rattle.std.specs.Prelude.{Bool}
use Rattle.gsl_words.specs.declared.module.Instr.{Instr}
use Rattle.gsl_words.specs.declared.module.Module.{Module}
use Rattle.gsl_kinds.specs.Seen.{place_seen}
use Rattle.gsl_decorations.specs.Firsts.{first_from}
use Rattle.gsl_decorations.specs.Marks.{has_mark, literals_numbered}
use Rattle.gsl_decorations.proofs.Found.{found, place_back}
use Rattle.gsl_decorations.proofs.decorations.Decorations.literals_on.Goals as goal

pub returns : goal.returns
returns c =
    let code = c.args.self.now.instrs in
    c.literals_numbered.ensures ∙ ap (λ (m : Module). literals_numbered m.instrs c.first.result) (c.module.ensures ∙ c.self.view_is)
    ∙ ap (literals_numbered code) (c.first.ensures ∙ ap (λ mark. first_from (has_mark mark) 0 code) c.mark_on.ensures
    ∙ ap (λ (test : Instr → Bool). first_from test 0 code) (place_back (place_seen c.args.place) c.args.kind))
    ∙ found (place_seen c.args.place) c.args.kind code code 0 refl
