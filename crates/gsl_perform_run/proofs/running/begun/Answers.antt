use Rattle.gsl_perform_run.proofs.Programs.{blocks_typed, known, plain_structs}
use Rattle.gsl_perform_run.proofs.running.begun.Goals as goal

pub begins-requires-clause-known : goal.begins-requires-clause-known
begins-requires-clause-known c = known c.args.program.now c.requires

pub begins-requires-clause-plain : goal.begins-requires-clause-plain
begins-requires-clause-plain c = plain_structs c.args.program.now c.requires

pub begins-requires-clause-blocks : goal.begins-requires-clause-blocks
begins-requires-clause-blocks c = blocks_typed c.args.program.now c.requires
