-- What the rows of chains say of what ids stand for.
use Rattle.std.proofs.Common.{◌≡◌, ℕ, zero, suc, ◌+◌, Bool, true, false, cond, [], ◌∷◌, get_or, None, refl, ap, ◌∙◌}
use Rattle.std.specs.Prelude.{◌-◌, ◌==◌, slice_get}
use Rattle.gsl_words.specs.declared.module.Module.{Module}
use Rattle.gsl_words.specs.Instructions.{word_count}
use Rattle.gsl_ids.specs.Table.{numbered, number_of, read_if}
use Rattle.gsl_ids.proofs.Rows.{found}
use Rattle.gsl_valid.specs.Instruction.{read}
use Rattle.gsl_valid.specs.Placed.{Code, placed_from}
use Rattle.gsl_valid.specs.Types.{defined_as}
use Rattle.gsl_valid.specs.MemoryRules.{leads_through}
use Rattle.gsl_valid_blocks.specs.Guards.{rows_of, rows_from, row}

module _ (m : Module) (kind : ℕ) where
  pub rows_are : (at : ℕ) (code : Code) → rows_from m kind (placed_from at code) ≡ rows_of m kind code
  unfolding rows_from
  rows_are at [] = refl
  rows_are at (i ∷ code) = ap (λ rows. leads_through m kind (read i) ∷ rows) (rows_are (at + word_count i) code)

  at_number : (code : Code) (k : ℕ) → get_or (rows_of m kind code) k false ≡ leads_through m kind (read_if (slice_get code k))
  at_number [] zero = refl
  at_number [] (suc k) = refl
  at_number (i ∷ code) zero = refl
  at_number (i ∷ code) (suc k) = at_number code k

  before_number : (code : Code) (n : ℕ) → row (rows_of m kind code) n ≡ leads_through m kind (numbered code n)
  before_number code n = by_cases (n == 0)
    where
      by_cases : (b : Bool) → cond b false (get_or (rows_of m kind code) (n - 1) false) ≡ leads_through m kind (cond b None (read_if (slice_get code (n - 1))))
      by_cases true = refl
      by_cases false = at_number code (n - 1)

  pub leads : (id : ℕ) → row (rows_of m kind m.instrs) (number_of m id) ≡ leads_through m kind (defined_as m id)
  leads id = before_number m.instrs (number_of m id) ∙ ap (leads_through m kind) (found m.instrs m.instrs 0 id refl)
