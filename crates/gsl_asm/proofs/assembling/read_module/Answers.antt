use Rattle.std.proofs.Common.{sym, subst, ap, ◌∙◌}
use Rattle.gsl_text.specs.Lines.{lines_of}
use Rattle.gsl_words.specs.Instructions.{HasFile}
use Rattle.gsl_asm.specs.Reading.{with_head}
use Rattle.gsl_asm.proofs.Filed.{module_filed}
use Rattle.gsl_asm.proofs.assembling.read_module.Goals as goal

pub returns-clause-file : goal.returns-clause-file
returns-clause-file c =
    subst (λ v. HasFile (record { version = v; bound = c.in_ok-head.head.bound; instrs = c.in_ok-instrs.instrs })) (sym c.version.ensures)
    (module_filed 1 (lines_of c.args.text.now) _ (c.in_ok-head.ensures.0 ∙ ap (with_head (c.in_ok-head.head.target, c.in_ok-head.head.bound)) c.in_ok-instrs.ensures))
