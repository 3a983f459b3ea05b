-- The targets of a switch, which are literals and labels in turn.
use Rattle.std.specs.Prelude.{◌≡◌, ℕ, Bool, true, ◌&&◌, not, if◌then◌else◌, nat_eq, List, [], ◌∷◌, ◌++◌, filter, Option, Some, None}
use Rattle.std.specs.List.{list_any}
use Rattle.gsl_instr.specs.Instructions.{seconds}
use Rattle.gsl_blocks.specs.declared.around.Around.{Around}
use Rattle.gsl_blocks.specs.Around.{needs_run}

-- every first one of some words, of which each has a second
abbrev pub firsts : List ℕ → List ℕ
firsts [] = []
firsts (word ∷ []) = []
firsts (word ∷ second ∷ words) = word ∷ firsts words

-- No word is one of those before it, which are these and the ones in front of it.
abbrev pub differ_from : List ℕ → List ℕ → Bool
differ_from before [] = true
differ_from before (word ∷ words) = not (list_any (nat_eq word) before) && differ_from (before ++ word ∷ []) words

-- whether words differ
abbrev pub all_differ : List ℕ → Bool
all_differ words = differ_from [] words

-- words with one more behind them, unless it is one of them
abbrev pub with_word : List ℕ → ℕ → List ℕ
with_word before word = if list_any (nat_eq word) before then before else before ++ word ∷ []

-- words with more behind them, each once
abbrev pub once_from : List ℕ → List ℕ → List ℕ
once_from before [] = before
once_from before (word ∷ words) = once_from (with_word before word) words

-- each of some words once, in the order of their first mention
abbrev pub once : List ℕ → List ℕ
once words = once_from [] words

-- the targets of literals that need a run of their own, in the order of their first mention
abbrev pub mentioned : Around → ℕ → List ℕ → List ℕ
mentioned c m targets = filter (needs_run c m) (once (seconds targets))

-- the default, if it needs a run of its own and is not among these targets
abbrev pub lone_among : Around → ℕ → ℕ → List ℕ → Option ℕ
lone_among c m default named = if needs_run c m default && not (list_any (nat_eq default) named) then Some default else None

-- the default, if it needs a run of its own and is the target of no literal
abbrev pub lone_default : Around → ℕ → ℕ → List ℕ → Option ℕ
lone_default c m default targets = lone_among c m default (once (seconds targets))

-- The targets that have runs, in the order of their runs: those of literals in the order of their mention, and the default,
-- where it has a run of its own, before, behind or between them.
pub data AreArms (named : List ℕ) : Option ℕ → List ℕ → Type 0 where
  alone : AreArms named None named
  with_default : (default : ℕ) (before behind : List ℕ) → named ≡ before ++ behind → AreArms named (Some default) (before ++ default ∷ behind)
