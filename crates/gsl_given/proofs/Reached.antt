-- What is read of the files that a manifest names.
use Rattle.std.proofs.Common.{◌≡◌, ℕ, zero, suc, ◌-◌, ◌≤◌, Bool, true, false, not, cond, get_or, drop, take, List, [], ◌∷◌, ◌++◌, length, Option, Some, None, refl, sym, subst, arith}
use Rattle.std.specs.Prelude.{map, nat_lt, Contains}
use Rattle.std.specs.FinMap.{get}
use Rattle.gsl_base.specs.declared.input.Buffer.{Buffer}
use Rattle.gsl_host.specs.declared.target.Target.{Target}
use Rattle.gsl_host.specs.declared.target.Target.TheVariants.{Reading}
use Rattle.gsl_host.specs.Outside.{Files, Name}
use Rattle.gsl_manifest.specs.declared.manifest.BufferLine.{BufferLine}
use Rattle.gsl_manifest.specs.declared.manifest.PushLine.{PushLine}
use Rattle.gsl_given.specs.declared.given.TheConstants.{MAX_FILE_BYTES}
use Rattle.gsl_given.specs.Given.{Found, Got, Absent, TooLong, found_in, and_then, buffer_found, buffers_found, is_short, push_names, reads}
use Rattle.gsl_given.proofs.Lines.{rest_is}

abbrev path_of : BufferLine → Name
path_of line = line.path

-- what was found is short
short : {A : Type 0} (line : ℕ) (file : Option (List ℕ)) (next : List ℕ → Found A) (a : A) → and_then (found_in line file) next ≡ Got a → is_short file ≡ true
short line None next a e = absurd (cc)
short line (Some bytes) next a e = by_test (nat_lt MAX_FILE_BYTES (length bytes)) e
  where
    by_test : (long : Bool) → and_then (cond long (TooLong line) (Got bytes)) next ≡ Got a → not long ≡ true
    by_test true f = absurd (cc)
    by_test false f = refl

-- what is read behind a file is read
behind : (files : Files) (name : Name) (names : List Name) (target : Target) → is_short (get files name) ≡ true → Contains (reads files names) target → Contains (reads files (name ∷ names)) target
behind files name names target goes (k, within, here) =
    subst (λ (b : Bool). Contains (Reading name ∷ cond b (reads files names) []) target) (sym goes) (suc k, omega (arith, within), here)

-- what is read of some files is read of them and of more
with_more : (files : Files) (names more : List Name) (target : Target) → Contains (reads files names) target → Contains (reads files (names ++ more)) target
with_more files [] more target (k, within, here) = absurd (omega (arith, within))
with_more files (name ∷ names) more target (zero, within, here) = (zero, omega arith, here)
with_more files (name ∷ names) more target (suc k, within, here) =
    elim (is_short (get files name)) as (λ b. is_short (get files name) ≡ b → Contains (cond b (reads files names) []) target → Contains (reads files (name ∷ names ++ more)) target) [
      | true ↦ λ goes at. behind files name (names ++ more) target goes (with_more files names more target at)
      | false ↦ λ stops at. absurd (omega (arith, at.1))
    ] refl (k, omega (arith, within), here)

-- what is read of the other lines is read
pub rest_reads : (files : Files) (before : List Buffer) (lines : List BufferLine) (line : BufferLine) (all : List Buffer) (target : Target) → 1 ≤ length lines → line ≡ get_or lines 0 line
    → buffer_found files before line ≡ Got all → Contains (reads files (map path_of (take (length lines - 1) (drop 1 lines)))) target → Contains (reads files (map path_of lines)) target
rest_reads files before [] line all target some first found at = absurd (omega (arith, some))
rest_reads files before (l ∷ lines) line all target some first found at =
    behind files l.path (map path_of lines) target
    (subst (λ (x : BufferLine). is_short (get files x.path) ≡ true) first (short line.line (get files line.path) _ all found))
    (subst (λ (ls : List BufferLine). Contains (reads files (map path_of ls)) target) (rest_is (l ∷ lines)) at)

-- the file of the first line is read
pub first_read : (files : Files) (lines : List BufferLine) (line : BufferLine) → 1 ≤ length lines → line ≡ get_or lines 0 line → Contains (reads files (map path_of lines)) (Reading line.path)
first_read files [] line some first = absurd (omega (arith, some))
first_read files (l ∷ lines) line some first = subst (λ (x : BufferLine). Contains (reads files (l.path ∷ map path_of lines)) (Reading x.path)) (sym first) (0, omega arith, refl)

first_found : (files : Files) (before : List Buffer) (line : BufferLine) (lines : List BufferLine) (all : List Buffer) → buffers_found files before (line ∷ lines) ≡ Got all
    → (some : List Buffer) × (buffer_found files before line ≡ Got some) × (buffers_found files some lines ≡ Got all)
first_found files before line lines all e = by_found (buffer_found files before line) refl e
  where
    by_found : (found : Found (List Buffer)) → buffer_found files before line ≡ found → and_then found (λ bs. buffers_found files bs lines) ≡ Got all
        → (some : List Buffer) × (buffer_found files before line ≡ Got some) × (buffers_found files some lines ≡ Got all)
    by_found (Got some) is f = (some, is, f)
    by_found Absent is f = absurd (cc)
    by_found (TooLong n) is f = absurd (cc)

-- where the files of all lines were found, what stands behind them is read
pub behind_lines : (files : Files) (before : List Buffer) (lines : List BufferLine) (all : List Buffer) (names : List Name) (target : Target) → buffers_found files before lines ≡ Got all
    → Contains (reads files names) target → Contains (reads files (map path_of lines ++ names)) target
behind_lines files before [] all names target found at = at
behind_lines files before (line ∷ lines) all names target found at =
    let first = first_found files before line lines all found in
    behind files line.path (map path_of lines ++ names) target (short line.line (get files line.path) _ first.0 first.1)
    (behind_lines files first.0 lines all names target first.2 at)

-- the file of the push constants is read
pub push_read : (files : Files) (line : Option PushLine) (target : Target) → Contains (map Reading (push_names line)) target → Contains (reads files (push_names line)) target
push_read files None target (k, within, here) = absurd (omega (arith, within))
push_read files (Some line) target (zero, within, here) = (zero, omega arith, here)
push_read files (Some line) target (suc k, within, here) = absurd (omega (arith, within))

-- what is read of the lines is read of all that is named
pub lines_read : (files : Files) (lines others : List BufferLine) (more : List Name) (target : Target) → others ≡ lines → Contains (reads files (map path_of others)) target
    → Contains (reads files (map path_of lines ++ more)) target
lines_read files lines others more target same at =
    with_more files (map path_of lines) more target (subst (λ (l : List BufferLine). Contains (reads files (map path_of l)) target) same at)
