use Rattle.std.proofs.Common.{◌≡◌, drop}
use Rattle.gsl_check_decl.specs.Globals.{members_named}
use Rattle.gsl_check_decl.proofs.sound.members_named.Given as goal

-- The names of the members so far, and those of the rest.
abbrev pub invariant-loop-k : goal.invariant-loop-k
invariant-loop-k l = members_named l.fn.block 0 l.fn.members l.fn.names ≡ members_named l.fn.block l.k (drop l.k l.fn.members) l.names
