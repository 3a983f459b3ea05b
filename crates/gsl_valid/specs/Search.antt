-- The search that every rule is built from: for the first instruction of a module that breaks a test.
use Rattle.std.specs.Prelude.{ℕ, Bool, true, false, IsTrue, List, [], ◌∷◌, length, drop, Option, Some, None, if◌then◌else◌}
use Rattle.gsl_words.specs.declared.module.Instr.{Instr}
use Rattle.gsl_words.specs.declared.module.Module.{Module}
use Rattle.gsl_valid.specs.Placed.{Code, Placed, placed}

-- A test of an instruction, which sees those before it, the nearest first.
abbrev pub Test : Type 0
Test = Code → Instr → Bool

-- the place of the first instruction that does not pass, behind those before it
abbrev pub broken_from : Test → Code → List Placed → Option ℕ
broken_from test before [] = None
broken_from test before (p ∷ later) = if test before p.instr then broken_from test (p.instr ∷ before) later else Some p.at

-- the place of the first instruction of a module that does not pass
abbrev pub first_broken : Test → Module → Option ℕ
first_broken test m = broken_from test [] (placed m)

-- the instructions of some code behind those before it, the nearest first
abbrev pub passed : Code → Code → Code
passed before [] = before
passed before (i ∷ code) = passed (i ∷ before) code

-- all of a module's instructions, the last first
abbrev pub whole : Module → Code
whole m = passed [] m.instrs

-- a module's instructions from the one on that stands behind these
abbrev pub from_here : Module → Code → Code
from_here m before = drop (length before) m.instrs

-- a place, unless the test passes
abbrev pub unless : Bool → ℕ → Option ℕ
unless true at = None
unless false at = Some at

-- the first place, or else the other
infixl 10 ◌otherwise◌
abbrev pub ◌otherwise◌ : Option ℕ → Option ℕ → Option ℕ
(Some at) otherwise place = Some at
None otherwise place = place

-- Each instruction of the code passes, behind those before it.
abbrev pub Passes : Test → Code → Code → Type 0
Passes test before [] = Unit {0}
Passes test before (i ∷ code) = IsTrue (test before i) × Passes test (i ∷ before) code
