use Rattle.gsl_perform_run.proofs.Programs.{blocks_typed, known, plain_structs}
use Rattle.gsl_perform_run.proofs.running.ended.Goals as goal

pub output_of-requires-clause-known : goal.output_of-requires-clause-known
output_of-requires-clause-known c = known c.args.program.now c.requires

pub output_of-requires-clause-plain : goal.output_of-requires-clause-plain
output_of-requires-clause-plain c = plain_structs c.args.program.now c.requires

pub output_of-requires-clause-blocks : goal.output_of-requires-clause-blocks
output_of-requires-clause-blocks c = blocks_typed c.args.program.now c.requires
