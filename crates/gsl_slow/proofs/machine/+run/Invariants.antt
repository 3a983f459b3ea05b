use Rattle.gsl_slow.proofs.machine.+run.Given as goal

abbrev pub decreases-run : goal.decreases-run
decreases-run l = l.steps
