-- What instructions take of the frame of their function, by how sums are made and how many words each type and each variable has.
use Rattle.std.specs.Prelude.{ℕ, max, List, [], ◌∷◌}
use Rattle.gsl_valid.specs.Instruction.{read}
use Rattle.gsl_valid.specs.Kinds.{Kind, Asks, Imports, Sets, Enters, Modes, Debugs, Decorates, Declares, Fixes, Holds, Begins, Takes, Calls, Gives, Does, Opens, Merges, Leaves, Ended, Absent, Variable, kind}
use Rattle.gsl_valid.specs.Placed.{Code, Placed}
use Rattle.gsl_frames.specs.declared.taken.Taken.{Taken}

-- nothing is taken yet
abbrev pub nothing_taken : Taken
nothing_taken = record { parameters = 0; top = 0; most = 0; variables = 0 }

-- with so many words more in the slots
abbrev pub risen : (ℕ → ℕ → ℕ) → ℕ → Taken → Taken
risen plus words t = record t { top = plus t.top words; most = max t.most (plus t.top words) }

-- with a parameter of so many words more, which stays for the whole function
abbrev pub with_parameter : (ℕ → ℕ → ℕ) → ℕ → Taken → Taken
with_parameter plus words t = record (risen plus words t) { parameters = plus t.top words }

module _ (plus : ℕ → ℕ → ℕ) (held : ℕ → ℕ) (of_variable : Variable → ℕ) where
  -- behind an instruction: what is given lasts for its block
  abbrev pub behind : Kind → Taken → Taken
  behind Asks t = t
  behind Imports t = t
  behind Sets t = t
  behind (Enters model function name interface) t = t
  behind (Modes function mode parts) t = t
  behind Debugs t = t
  behind (Decorates d) t = t
  behind (Declares shape) t = t
  behind (Fixes type value) t = t
  behind (Holds v) t = record t { variables = plus t.variables (of_variable v) }
  behind (Begins type id function_type) t = nothing_taken
  behind (Takes type) t = with_parameter plus (held type) t
  behind (Calls type function arguments) t = risen plus (held type) t
  behind (Gives type) t = risen plus (held type) t
  behind Does t = t
  behind Opens t = record t { top = t.parameters }
  behind Merges t = t
  behind Leaves t = t
  behind Ended t = t
  behind Absent t = t

  -- behind some instructions, the last first
  abbrev pub taken : Code → Taken
  taken [] = nothing_taken
  taken (i ∷ before) = behind (kind (read i)) (taken before)

  -- behind those of a body, in their order
  abbrev pub taken_by : List Placed → Taken → Taken
  taken_by [] t = t
  taken_by (p ∷ body) t = taken_by body (behind (kind (read p.instr)) t)

-- what stands in front of what an instruction gives: the variables in front of a variable, and else what is held below the top
abbrev pub in_front : Kind → Taken → ℕ
in_front Asks t = t.top
in_front Imports t = t.top
in_front Sets t = t.top
in_front (Enters model function name interface) t = t.top
in_front (Modes function mode parts) t = t.top
in_front Debugs t = t.top
in_front (Decorates d) t = t.top
in_front (Declares shape) t = t.top
in_front (Fixes type value) t = t.top
in_front (Holds v) t = t.variables
in_front (Begins type id function_type) t = t.top
in_front (Takes type) t = t.top
in_front (Calls type function arguments) t = t.top
in_front (Gives type) t = t.top
in_front Does t = t.top
in_front Opens t = t.top
in_front Merges t = t.top
in_front Leaves t = t.top
in_front Ended t = t.top
in_front Absent t = t.top
