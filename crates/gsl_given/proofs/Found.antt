-- What reading files gives.
use Rattle.std.proofs.Common.{◌≡◌, ℕ, ◌<◌, ◌≤◌, cond, sym, subst, List, length, Option, Some, None, Result, Err, ap, ◌∙◌}
use Rattle.std.specs.Prelude.{IsSomeAnd}
use Rattle.std.specs.FinMap.{get}
use Rattle.std.proofs.lemmas.Bool.{lt-ltb, le-ltb}
use Rattle.gsl_host.specs.Outside.{Files, Name}
use Rattle.gsl_given.specs.declared.given.TheConstants.{MAX_FILE_BYTES}
use Rattle.gsl_given.specs.declared.stop.Stop.{Stop}
use Rattle.gsl_given.specs.declared.stop.Stop.TheVariants as stop
use Rattle.gsl_given.specs.Given.{Found, Got, TooLong, found_in, and_then, Answers, ReadsFileTold}

-- the file that is named on a line is too long
is_too_long : (line : ℕ) (file : Option (List ℕ)) → IsSomeAnd file (λ bytes. MAX_FILE_BYTES < length bytes) → found_in line file ≡ TooLong line
is_too_long line None longer = absurd longer
is_too_long line (Some bytes) longer = ap (λ b. cond b (TooLong line) (Got bytes)) (lt-ltb MAX_FILE_BYTES (length bytes) longer)

-- the file that is named on a line has these bytes
pub is_got : (files : Files) (line : ℕ) (name : Name) (bytes : List ℕ) → get files name ≡ Some bytes → length bytes ≤ MAX_FILE_BYTES → found_in line (get files name) ≡ Got bytes
is_got files line name bytes there short = ap (found_in line) there ∙ ap (λ b. cond b (TooLong line) (Got bytes)) (le-ltb MAX_FILE_BYTES (length bytes) short)

-- what stops the reading of a file stops what goes on with it
pub stops : {B : Type 0} (files : Files) (line : ℕ) (name : Name) (next : List ℕ → Found B) (why : Stop) → ReadsFileTold files line name (Err why)
    → Answers (and_then (found_in line (get files name)) next) (Err why)
stops files line name next (stop.Refused text) (longer, said) = (line, ap (λ found. and_then found next) (is_too_long line (get files name) longer), said)
stops files line name next stop.Host none = tt
stops files line name next stop.Memory none = tt

-- what stops the first of two readings stops both
pub stops_both : {A B : Type 0} (found : Found A) (next : A → Found B) (why : Stop) → Answers found (Err why) → Answers (and_then found next) (Err why)
stops_both found next (stop.Refused text) (line, long, said) = (line, ap (λ f. and_then f next) long, said)
stops_both found next stop.Host none = tt
stops_both found next stop.Memory none = tt

-- the second of two readings answers where the first found something
pub goes_on : {A B : Type 0} (found : Found A) (next : A → Found B) (a : A) (answer : Result B Stop) → found ≡ Got a → Answers (next a) answer → Answers (and_then found next) answer
goes_on found next a answer is told = subst (λ f. Answers (and_then f next) answer) (sym is) told
