-- A pass over the instructions of a module: each is tested by its number and by what was kept of those before it.
use Rattle.std.specs.Prelude.{ℕ, ◌+◌, Bool, if◌then◌else◌, List, [], ◌∷◌, Option, Some, None}
use Rattle.gsl_words.specs.declared.module.Instr.{Instr}
use Rattle.gsl_valid.specs.Placed.{Placed}

-- `passes` says whether the instruction of a number passes, and `behind` what is kept behind one that does.
module _ {S : Type 0} (passes : S → ℕ → Instr → Bool) (behind : S → ℕ → Instr → S) where
  -- the place of the first instruction that does not pass, where the first of all has this number
  unfoldable pub first_failed : S → ℕ → List Placed → Option ℕ
  first_failed s at [] = None
  first_failed s at (p ∷ placed) = if passes s at p.instr then first_failed (behind s at p.instr) (at + 1) placed else Some p.at

  -- what is kept behind all of them
  unfoldable pub kept : S → ℕ → List Placed → S
  kept s at [] = s
  kept s at (p ∷ placed) = kept (behind s at p.instr) (at + 1) placed
