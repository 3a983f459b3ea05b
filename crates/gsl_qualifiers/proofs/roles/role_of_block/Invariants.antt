use Rattle.std.proofs.Common.{◌≡◌, drop}
use Rattle.gsl_qualifiers.specs.Qualifiers.{storage_in, block_by}
use Rattle.gsl_qualifiers.proofs.roles.role_of_block.Given as goal

abbrev pub invariant-loop-k : goal.invariant-loop-k
invariant-loop-k l = block_by l.push (storage_in (drop l.k l.fn.quals)) ≡ block_by l.push (storage_in l.fn.quals)
