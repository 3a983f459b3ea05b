-- The instruction of a number, by its kind.
use Rattle.std.specs.Prelude.{◌≡◌, ℕ, ◌+◌, ◌∷◌, drop}
use Rattle.gsl_words.specs.declared.module.Instr.{Instr}
use Rattle.gsl_valid.specs.Instruction.{read}
use Rattle.gsl_valid.specs.Kinds.{Kind, kind}
use Rattle.gsl_valid.specs.Placed.{Code}

-- An instruction of a kind has a number.
pub record Stands (code : Code) (at : ℕ) (of : Kind) : Type 0 where
  pub instr : Instr
  pub here : drop at code ≡ instr ∷ drop (at + 1) code
  pub is : of ≡ kind (read instr)
