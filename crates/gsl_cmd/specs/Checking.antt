-- What `check` tells of the bytes of a module's file.
use Rattle.std.specs.Prelude.{◌≡◌, ℕ, List, Option, Result}
use Rattle.gsl_words.specs.declared.fault.WordFault.{WordFault}
use Rattle.gsl_words.specs.declared.module.Module.{Module}
use Rattle.gsl_exec.specs.Judged.{JudgesFile, refusal_of}

-- the line of what is wrong with it, none where it is the file of a valid module
abbrev pub Checks : List ℕ → Option (List ℕ) → Type 0
Checks bytes refusal = (verdict : Result Module WordFault) × JudgesFile bytes verdict × (refusal ≡ refusal_of verdict)
