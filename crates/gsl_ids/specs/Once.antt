-- The search for an id that is defined again, over the ids that were defined so far.
use Rattle.std.specs.Prelude.{ℕ, Bool, ◌&&◌, not, nat_le, nat_lt, nat_eq, if◌then◌else◌, List, [], ◌∷◌, ◌++◌, Option, Some, None}
use Rattle.std.specs.List.{list_any}
use Rattle.gsl_valid.specs.Instruction.{read}
use Rattle.gsl_valid.specs.Ids.{result}
use Rattle.gsl_valid.specs.Placed.{Placed}

-- whether an id may be defined, where the bound is this, behind these ids
abbrev pub may_be : ℕ → List ℕ → ℕ → Bool
may_be bound ids id = nat_le 1 id && nat_lt id bound && not (list_any (nat_eq id) ids)

-- the place of an instruction that defines an id that may not be defined, or what is found later
abbrev pub at_or : ℕ → List ℕ → ℕ → Option ℕ → (List ℕ → Option ℕ) → Option ℕ
at_or bound ids at None later = later ids
at_or bound ids at (Some id) later = if may_be bound ids id then later (ids ++ id ∷ []) else Some at

-- the place of the first such instruction, behind these ids
unfoldable pub once_from : ℕ → List ℕ → List Placed → Option ℕ
once_from bound ids [] = None
once_from bound ids (p ∷ placed) = at_or bound ids p.at (result (read p.instr)) (λ more. once_from bound more placed)
