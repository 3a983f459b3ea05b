-- What a host over the system tells, which is nothing, and what its reads answer where more is known.
use Rattle.std.specs.Prelude.{◌≡◌, ℕ, ◌<◌, ◌≤◌, ◌+◌, List, length, Option, Some, None, Result, Ok, Err}
use Rattle.gsl_host.specs.declared.target.Stream.{Stream}
use Rattle.gsl_host.specs.declared.target.Target.{Target}
use Rattle.gsl_host.specs.declared.target.ReadRefusal.{ReadRefusal}
use Rattle.gsl_host.specs.declared.target.ReadRefusal.TheVariants as refusal
use Rattle.gsl_host.specs.Outside.{Files}

abbrev pub no_files : List Target → Option Files
no_files failed = None

abbrev pub no_streams : List Target → Stream → Option (List ℕ)
no_streams failed stream = None

-- Where it is known what a reader has left, that is what was read, or it was too long.
abbrev pub ReadsLeft : Option (List ℕ) → ℕ → Result (List ℕ) ReadRefusal → Type 0
ReadsLeft None most answer = Unit {0}
ReadsLeft (Some left) most (Ok bytes) = bytes ≡ left
ReadsLeft (Some left) most (Err refusal.TooLong) = most < length left
ReadsLeft (Some left) most (Err refusal.Failed) = Unit {0}
ReadsLeft (Some left) most (Err refusal.Memory) = Unit {0}

-- Of the bytes that a reader is known to have left, no more than so many were read.
abbrev pub ReadsUpTo : Option (List ℕ) → Option (List ℕ) → ℕ → Type 0
ReadsUpTo None after most = Unit {0}
ReadsUpTo (Some before) None most = ⊥
ReadsUpTo (Some before) (Some after) most = length before ≤ length after + most
