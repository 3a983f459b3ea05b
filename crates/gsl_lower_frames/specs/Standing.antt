-- The code of a function where it stands in a module (SPIR-V 1.0, 2.4).
use Rattle.std.specs.Prelude.{◌≡◌, ◌≢◌, ℕ, [], ◌∷◌, ◌++◌}
use Rattle.std.specs.List.{AllByRecursion}
use Rattle.gsl_instr.specs.declared.op.TheConstants as op
use Rattle.gsl_words.specs.declared.module.Instr.{Instr}
use Rattle.gsl_words.specs.declared.module.Module.{Module}
use Rattle.gsl_valid.specs.Placed.{Code, header_size, words_from}
use Rattle.gsl_spv.specs.Declarations.{instr}

-- the first instruction of the function of an id
abbrev pub begins : ℕ → ℕ → ℕ → ℕ → Instr
begins id returned control function_type = instr op.FUNCTION (returned ∷ id ∷ control ∷ function_type ∷ [])

-- Code goes up to the end of a function, and no further.
pub record EndsHere (code : Code) : Type 0 where
  pub front : Code
  pub ending : Instr
  pub is : code ≡ front ++ ending ∷ []
  pub ends : ending.op ≡ op.FUNCTION_END
  pub goes_on : AllByRecursion (λ i. i.op ≢ op.FUNCTION_END) front

-- In a module this is the code of the function of an id behind its first instruction, up to its end.
pub record StandsIn (m : Module) (id : ℕ) (code : Code) : Type 0 where
  pub ahead : Code
  pub returned : ℕ
  pub control : ℕ
  pub function_type : ℕ
  pub behind : Code
  pub is : m.instrs ≡ ahead ++ begins id returned control function_type ∷ (code ++ behind)
  pub ends : EndsHere code

module _ (m : Module) (id : ℕ) (code : Code) (s : StandsIn m id code) where
  -- the place of the code in the file
  abbrev pub place_in : ℕ
  place_in = words_from header_size (s.ahead ++ begins id s.returned s.control s.function_type ∷ [])
