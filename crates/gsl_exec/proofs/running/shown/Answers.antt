use Rattle.std.proofs.Common.{sym, ◌∙◌}
use Rattle.gsl_exec.proofs.Runs.{shows_going, shows_listing, shows_memory, shows_strayed}
use Rattle.gsl_exec.proofs.running.shown.Goals as goal

pub returns-in-Ok : goal.returns-in-Ok
returns-in-Ok c = λ targets outcome is. shows_listing targets c.in-Ended.output c.in-Ok.text outcome (sym c.in-Ended.is ∙ is) c.in-Ok.ensures

pub returns-in-Ended : goal.returns-in-Ended
returns-in-Ended c = λ targets outcome is. shows_memory targets c.args.step outcome c.requires is

pub returns-in-Strayed : goal.returns-in-Strayed
returns-in-Strayed c = λ targets outcome is.
    shows_strayed targets c.in-Strayed.at c.placed.result c.told.result outcome (sym c.in-Strayed.is ∙ is) c.placed.ensures c.told.ensures

pub returns-in-Going : goal.returns-in-Going
returns-in-Going c = λ targets outcome is.
    shows_going targets c.from_slice.result c.told-in-Going.result outcome (sym c.in-Going.is ∙ is) c.from_slice.ensures c.told-in-Going.ensures
