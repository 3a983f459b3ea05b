-- The lines of a manifest that name files of buffers, one after the other.
use Rattle.std.proofs.Common.{◌≡◌, ℕ, suc, ◌-◌, ◌≤◌, get_or, drop, take, List, [], ◌∷◌, length, Result, Err, refl, ap, sym, subst, ◌∙◌, arith}
use Rattle.std.specs.Prelude.{map, Contains}
use Rattle.std.proofs.Math.Seq.{take-length}
use Rattle.gsl_base.specs.declared.input.Buffer.{Buffer}
use Rattle.gsl_host.specs.declared.target.Target.{Target}
use Rattle.gsl_host.specs.declared.target.Target.TheVariants.{Reading}
use Rattle.gsl_host.specs.Outside.{Files, NeverFall, Rose}
use Rattle.gsl_manifest.specs.declared.manifest.BufferLine.{BufferLine}
use Rattle.gsl_given.specs.declared.stop.Stop.{Stop}
use Rattle.gsl_given.specs.declared.stop.Stop.TheVariants as stop
use Rattle.gsl_given.specs.Given.{Answers, and_then, buffer_found, buffers_found}

pub rest_is : (lines : List BufferLine) → take (length lines - 1) (drop 1 lines) ≡ drop 1 lines
rest_is [] = refl
rest_is (line ∷ lines) = ap (λ n. take n lines) (let one : suc (length lines) - 1 ≡ length lines = omega arith in one) ∙ take-length lines

-- the first line, and then the others
pub first_line : (files : Files) (before : List Buffer) (lines : List BufferLine) (line : BufferLine) → 1 ≤ length lines → line ≡ get_or lines 0 line
    → buffers_found files before lines ≡ and_then (buffer_found files before line) (λ all. buffers_found files all (take (length lines - 1) (drop 1 lines)))
first_line files before [] line some first = absurd (omega (arith, some))
first_line files before (l ∷ lines) line some first =
    ap (λ x. and_then (buffer_found files before x) (λ all. buffers_found files all lines)) (sym first)
    ∙ ap (λ rest. and_then (buffer_found files before line) (λ all. buffers_found files all rest)) (sym (rest_is (l ∷ lines)))

more_named : (lines : List BufferLine) (target : Target) → Contains (map (λ (line : BufferLine). Reading line.path) (drop 1 lines)) target
    → Contains (map (λ (line : BufferLine). Reading line.path) lines) target
more_named [] target at = at
more_named (line ∷ lines) target (k, within, here) = (suc k, omega (arith, within), here)

-- what the others name is named
pub rest_named : (lines : List BufferLine) (target : Target) → Contains (map (λ (line : BufferLine). Reading line.path) (take (length lines - 1) (drop 1 lines))) target
    → Contains (map (λ (line : BufferLine). Reading line.path) lines) target
rest_named lines target at =
    more_named lines target (subst (λ (l : List BufferLine). Contains (map (λ (line : BufferLine). Reading line.path) l) target) (rest_is lines) at)

-- what rises later has risen over all
pub later_rise : (first then last : Target → ℕ) (target : Target) → NeverFall first then → Rose then last target → Rose first last target
later_rise first then last target never rose = omega (arith, never target)

-- all lines, where none was read before
pub from_none : (files : Files) (before : List Buffer) (lines others : List BufferLine) (answer : Result (List Buffer) Stop) → before ≡ [] → others ≡ lines
    → Answers (buffers_found files before others) answer → Answers (buffers_found files [] lines) answer
from_none files before lines others answer none same told =
    subst (λ (l : List BufferLine). Answers (buffers_found files [] l) answer) same
    (subst (λ (b : List Buffer). Answers (buffers_found files b others) answer) none told)

pub lines_named : (lines others : List BufferLine) (target : Target) → others ≡ lines → Contains (map (λ (line : BufferLine). Reading line.path) others) target
    → Contains (map (λ (line : BufferLine). Reading line.path) lines) target
lines_named lines others target same at = subst (λ (l : List BufferLine). Contains (map (λ (line : BufferLine). Reading line.path) l) target) same at

-- the same failure in an answer of another type
pub same_failure : {A B : Type 0} (why : Stop) → ◌≡◌ {A = Result A Stop} (Err why) (Err stop.Host) → ◌≡◌ {A = Result B Stop} (Err why) (Err stop.Host)
same_failure why e = ap Err (let same : why ≡ stop.Host = cc in same)
