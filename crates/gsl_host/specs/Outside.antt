-- What files and streams are to a contract, and what a call may do to them.
use Rattle.std.specs.Prelude.{◌≡◌, ◌≢◌, ℕ, ◌≤◌, ◌<◌, List, ◌++◌, length, take, Option, Some, None, Result, Ok, Err, IsSomeAnd}
use Rattle.std.specs.Option.{option_map}
use Rattle.std.specs.Ordering.{nat_cmp}
use Rattle.std.specs.Cmp.Lexicographic.{slice_cmp}
use Rattle.std.specs.FinMap.{FinMap, get, insert}
use Rattle.gsl_host.specs.declared.target.Stream.{Stream}
use Rattle.gsl_host.specs.declared.target.Stream.TheVariants as stream
use Rattle.gsl_host.specs.declared.target.Target.{Target}
use Rattle.gsl_host.specs.declared.target.ReadRefusal.{ReadRefusal}
use Rattle.gsl_host.specs.declared.target.ReadRefusal.TheVariants as refusal

-- the bytes of a file's name
abbrev pub Name : Type 0
Name = List ℕ

-- the files by their names
abbrev pub Files : Type 0
Files = FinMap (slice_cmp nat_cmp) (List ℕ)

-- What reading at most so many bytes of a file may answer where the files are told. An absent file is
-- never Ok and never too long.
abbrev pub ReadsTold : Files → Name → ℕ → Result (List ℕ) ReadRefusal → Type 0
ReadsTold files name most (Ok bytes) = get files name ≡ Some bytes
ReadsTold files name most (Err refusal.TooLong) = IsSomeAnd (get files name) (λ bytes. most < length bytes)
ReadsTold files name most (Err _) = Unit {0}

abbrev pub Reads : Option Files → Name → ℕ → Result (List ℕ) ReadRefusal → Type 0
Reads (Some files) name most answer = ReadsTold files name most answer
Reads None name most answer = Unit {0}

-- The file has these bytes now, and all else is as before.
abbrev pub Sets : Option Files → Option Files → Name → List ℕ → Type 0
Sets before after name bytes = after ≡ option_map (λ files. insert files name bytes) before

-- All files but the named one are as before.
abbrev pub KeepsOthers : Option Files → Option Files → Name → Type 0
KeepsOthers None after name = after ≡ None
KeepsOthers (Some before) after name = IsSomeAnd after (λ files. (q : Name) → q ≢ name → get files q ≡ get before q)

-- The stream has gained these bytes.
abbrev pub Appends : Option (List ℕ) → Option (List ℕ) → List ℕ → Type 0
Appends before after bytes = after ≡ option_map (λ shown. shown ++ bytes) before

-- The stream has gained some first part of these bytes.
abbrev pub AppendsSome : Option (List ℕ) → Option (List ℕ) → List ℕ → Type 0
AppendsSome before after bytes = (k : ℕ) × Appends before after (take k bytes)

abbrev pub other : Stream → Stream
other stream.Out = stream.Err
other stream.Err = stream.Out

-- No count of faults is lower than before.
abbrev pub NeverFall : (Target → ℕ) → (Target → ℕ) → Type 0
NeverFall before after = (target : Target) → before target ≤ after target

-- The faults of the target rose.
abbrev pub Rose : (Target → ℕ) → (Target → ℕ) → Target → Type 0
Rose before after target = before target < after target
