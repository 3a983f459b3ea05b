-- How deeply calls nest from each function on, told no further than the limit: a table by ids, made again from itself as often as calls may nest, or until it stays the same.
use Rattle.std.specs.Prelude.{◌≡◌, ℕ, nat_le, zero, suc, ◌+◌, List, [], ◌∷◌, length, max, min, replicate, slice_index, slice_set}
use Rattle.gsl_words.specs.declared.module.Module.{Module}
use Rattle.gsl_valid.specs.Instruction.{read}
use Rattle.gsl_valid.specs.Kinds.{Kind, Asks, Imports, Sets, Enters, Modes, Debugs, Decorates, Declares, Fixes, Holds, Begins, Takes, Calls, Gives, Does, Opens, Merges, Leaves, Ended, Absent, kind}
use Rattle.gsl_valid.specs.Placed.{Code}
use Rattle.gsl_valid.specs.CallRules.{has_chain}

-- What is known of code, gone over from its end: how deeply calls nest from each function on, and from the calls up to the end of the function in which it begins.
pub record Swept : Type 0 where
  pub rows : List ℕ
  pub depth : ℕ

-- with one more instruction before it, by what an earlier table tells of the functions that are called
abbrev pub one_more : List ℕ → Swept → Kind → Swept
one_more old s Asks = s
one_more old s Imports = s
one_more old s Sets = s
one_more old s (Enters model function name interface) = s
one_more old s (Modes function mode parts) = s
one_more old s Debugs = s
one_more old s (Decorates d) = s
one_more old s (Declares shape) = s
one_more old s (Fixes type value) = s
one_more old s (Holds v) = s
one_more old s (Begins type id function_type) = record { rows = slice_set s.rows id s.depth; depth = s.depth }
one_more old s (Takes type) = s
one_more old s (Calls type function arguments) = record { rows = s.rows; depth = max s.depth (min 65 (1 + slice_index old function)) }
one_more old s (Gives type) = s
one_more old s Does = s
one_more old s Opens = s
one_more old s Merges = s
one_more old s Leaves = s
one_more old s Ended = record { rows = s.rows; depth = 0 }
one_more old s Absent = s

-- the code
abbrev pub swept : List ℕ → Code → Swept
swept old [] = record { rows = replicate (length old) 0; depth = 0 }
swept old (i ∷ code) = one_more old (swept old code) (kind (read i))

-- a table that is made again from itself so often
unfoldable pub deepened : ℕ → Code → List ℕ → List ℕ
deepened zero code rows = rows
deepened (suc n) code rows = deepened n code (swept rows code).rows

-- The rows tell of each function whether more calls stand one within the other from it on than may.
abbrev pub TellDepths : List ℕ → Module → Type 0
TellDepths rows m = (id : ℕ) → nat_le 65 (slice_index rows id) ≡ has_chain m.instrs 65 id
