-- What code holds of pointers, seen as the rules have it.
use Rattle.std.specs.Prelude.{ℕ, List, Option, Some, None}
use Rattle.gsl_valid.specs.Types as types
use Rattle.gsl_valid_blocks.specs.declared.target.Target.{Target}
use Rattle.gsl_valid_blocks.specs.declared.storage.Chain.{Chain}

-- what a pointer points to
abbrev pub target_seen : Target → types.Target
target_seen t = record { class = t.class; pointee = t.pointee }

abbrev pub target_if_seen : Option Target → Option types.Target
target_if_seen None = None
target_if_seen (Some t) = Some (target_seen t)

-- the base and the indexes of a chain
abbrev pub chain_seen : Option Chain → Option (ℕ × List ℕ)
chain_seen None = None
chain_seen (Some chain) = Some (chain.base, chain.indexes.now)
