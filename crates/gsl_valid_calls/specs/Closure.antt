-- Which functions reach which: the closure of "calls".
use Rattle.std.specs.Prelude.{ℕ, Contains}
use Rattle.gsl_valid.specs.Placed.{Code}
use Rattle.gsl_valid.specs.CallRules.{called_by}

-- A function reaches itself, and what a function reaches that it calls.
pub data Reaches (code : Code) : ℕ → ℕ → Type 0 where
  is : (id : ℕ) → Reaches code id id
  calls : (from next id : ℕ) → Contains (called_by code from) next → Reaches code next id → Reaches code from id
