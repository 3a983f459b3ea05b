-- What a host in memory holds, and what each call leaves of it.
use Rattle.std.specs.Prelude.{ℕ, ◌+◌, ◌-◌, ◌^◌, ◌==◌, ◌++◌, min, nat_le, refl, Bool, List, [], ◌∷◌, length, Option, Some, None, Result, Ok, Err, if◌then◌else◌}
use Rattle.std.specs.List.{list_any}
use Rattle.std.specs.Coded.{Coded, code_by, coded×, coded_list, coded_ℕ}
use Rattle.std.specs.FinMap.{empty, get, insert, code}
use Rattle.gsl_host.specs.contracts.target.Target.{the_row}
use Rattle.gsl_host.specs.declared.target.Stream.{Stream}
use Rattle.gsl_host.specs.declared.target.Stream.TheVariants as stream
use Rattle.gsl_host.specs.declared.target.Target.{Target}
use Rattle.gsl_host.specs.declared.target.Target.TheVariants.{Reading, Writing, Printing}
use Rattle.gsl_host.specs.declared.target.ReadRefusal.{ReadRefusal}
use Rattle.gsl_host.specs.declared.target.ReadRefusal.TheVariants as read
use Rattle.gsl_host.specs.declared.target.HostRefusal.{HostRefusal}
use Rattle.gsl_host.specs.declared.target.HostRefusal.TheVariants as refusal
use Rattle.gsl_host.specs.Outside.{Files, Name}
use Rattle.gsl_host.specs.Faults.{faults_of}

-- the files, what the streams have gained, the targets of the failed calls, the numbers of the calls
-- that are to fail, and how many calls there were
pub record Held : Type 0 where
  pub files : Files
  pub out : List ℕ
  pub err : List ℕ
  pub failed : List Target
  pub planned : List ℕ
  pub calls : ℕ

-- a host with no file and nothing printed, before its first call
abbrev pub fresh : List ℕ → Held
fresh planned = record { files = empty; out = []; err = []; failed = []; planned = planned; calls = 0 }

-- what a stream has gained
abbrev pub gained : Held → Stream → List ℕ
gained held stream.Out = held.out
gained held stream.Err = held.err

-- what the host tells: all of its files, its streams and the counts of its faults
abbrev pub told_files : Held → Option Files
told_files held = Some held.files

abbrev pub told_streams : Held → Stream → Option (List ℕ)
told_streams held stream = Some (gained held stream)

abbrev pub told_faults : Held → Target → ℕ
told_faults held = faults_of held.failed

-- the number of the call that follows so many, which stays at the largest
abbrev pub next_number : ℕ → ℕ
next_number calls = min (calls + 1) (2 ^ 64 - 1)

-- whether the next call is to fail
unfoldable pub will_fail : Held → Bool
will_fail held = list_any (λ n. n == next_number held.calls) held.planned

-- after a call that changed nothing else
abbrev pub counted : Held → Held
counted held = record held { calls = next_number held.calls }

-- after a call that failed
abbrev pub faulted : Held → Target → Held
faulted held target = record held { calls = next_number held.calls; failed = held.failed ++ target ∷ [] }

-- what reading at most so many bytes answers
abbrev pub bounded : Option (List ℕ) → ℕ → Result (List ℕ) ReadRefusal
bounded None most = Err read.Failed
bounded (Some bytes) most = if nat_le (length bytes) most then Ok bytes else Err read.TooLong

-- what a read answers, unless memory is wanting
unfoldable pub read_of : Held → Name → ℕ → Result (List ℕ) ReadRefusal
read_of held name most = if will_fail held then Err read.Failed else bounded (get held.files name) most

-- what a host holds after a read that answered so
unfoldable pub after_read : Held → Name → Result (List ℕ) ReadRefusal → Held
after_read held name (Ok bytes) = counted held
after_read held name (Err read.Failed) = faulted held (Reading name)
after_read held name (Err read.TooLong) = counted held
after_read held name (Err read.Memory) = counted held

-- what a host holds after a write that answered so
unfoldable pub after_write : Held → Name → List ℕ → Result (Unit {0}) HostRefusal → Held
after_write held name bytes (Ok done) = record (counted held) { files = insert held.files name bytes }
after_write held name bytes (Err refusal.Failed) = faulted held (Writing name)
after_write held name bytes (Err refusal.Memory) = counted held

-- the bytes added to what the stream has gained
abbrev pub appended : Held → Stream → List ℕ → Held
appended held stream.Out bytes = record held { out = held.out ++ bytes }
appended held stream.Err bytes = record held { err = held.err ++ bytes }

-- what a host holds after a print that answered so
unfoldable pub after_print : Held → Stream → List ℕ → Result (Unit {0}) HostRefusal → Held
after_print held stream bytes (Ok done) = appended (counted held) stream bytes
after_print held stream bytes (Err refusal.Failed) = faulted held (Printing stream)
after_print held stream bytes (Err refusal.Memory) = counted held

-- a record of these is told apart by its parts
abbrev pub held_code : Coded Held
held_code =
    code_by (Files × (List ℕ × (List ℕ × (List Target × (List ℕ × ℕ)))))
    (coded× (code (coded_list coded_ℕ) (coded_list coded_ℕ)) (coded× (coded_list coded_ℕ) (coded× (coded_list coded_ℕ) (coded× (coded_list the_row.coded) (coded× (coded_list coded_ℕ) coded_ℕ)))))
    (λ h. (h.files, (h.out, (h.err, (h.failed, (h.planned, h.calls))))))
    (λ p. record { files = p.0; out = p.1.0; err = p.1.1.0; failed = p.1.1.1.0; planned = p.1.1.1.1.0; calls = p.1.1.1.1.1 })
    (λ _. refl)
