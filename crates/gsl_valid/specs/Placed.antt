-- The instructions of a module at their places in its file.
use Rattle.std.specs.Prelude.{ℕ, ◌+◌, List, [], ◌∷◌}
use Rattle.gsl_words.specs.declared.module.Instr.{Instr}
use Rattle.gsl_words.specs.declared.module.Module.{Module}
use Rattle.gsl_words.specs.Instructions.{word_count}

-- instructions one after the other
abbrev pub Code : Type 0
Code = List Instr

-- An instruction at its place: the number of words before it in the file.
pub record Placed : Type 0 where
  pub at : ℕ
  pub instr : Instr

-- the instructions one after the other from a place on
abbrev pub placed_from : ℕ → Code → List Placed
placed_from at [] = []
placed_from at (i ∷ code) = record { at = at; instr = i } ∷ placed_from (at + word_count i) code

-- the words of a file's header
abbrev pub header_size : ℕ
header_size = 5

-- the place in the header of the bound
abbrev pub bound_place : ℕ
bound_place = 3

-- the instructions of a module at their places
abbrev pub placed : Module → List Placed
placed m = placed_from header_size m.instrs

-- the place behind some code that begins at a place
abbrev pub words_from : ℕ → Code → ℕ
words_from at [] = at
words_from at (i ∷ code) = words_from (at + word_count i) code

-- how many words a module's file has, which is the place of what is missing at its end
abbrev pub count_of_words : Module → ℕ
count_of_words m = words_from header_size m.instrs
