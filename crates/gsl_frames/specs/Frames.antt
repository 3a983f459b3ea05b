-- Where ids and variables stand in the frame of a function, counted in words, and how large frames are.
use Rattle.std.specs.Prelude.{◌≡◌, ℕ, ◌+◌, ◌==◌, if◌then◌else◌, List, [], ◌∷◌, slice_index, Option, Some, None}
use Rattle.gsl_instr.specs.declared.op.TheConstants as ops
use Rattle.gsl_words.specs.declared.module.Module.{Module}
use Rattle.gsl_valid.specs.DecorationRules.{pointee}
use Rattle.gsl_valid.specs.Ids.{defines}
use Rattle.gsl_valid.specs.Instruction.{read}
use Rattle.gsl_valid.specs.Kinds.{Kind, Variable, kind}
use Rattle.gsl_valid.specs.Placed.{Code, Placed}
use Rattle.gsl_valid.specs.Search.{whole}
use Rattle.gsl_valid.specs.Types.{Target, defined_as, is_block_class, target_of}
use Rattle.gsl_leaves.specs.Leaves.{leaves}
use Rattle.gsl_leaves.specs.Table.{told}
use Rattle.gsl_frames.specs.declared.taken.Taken.{Taken}
use Rattle.gsl_frames.specs.Taken.{behind, in_front, nothing_taken, taken, taken_by}

-- a pointer has three words: the block's variable, if it leads into a block, and in two words how far it leads into its bytes or those of variables
abbrev pub pointer_words : ℕ
pointer_words = 3

abbrev pub words_by : Module → ℕ → Option Target → ℕ
words_by m type None = leaves m type
words_by m type (Some target) = pointer_words

-- how many words what an id of a type stands for has
abbrev pub held_words : Module → ℕ → ℕ
held_words m type = words_by m type (target_of (defined_as m type))

-- how many words a variable holds: that of a block holds none, since the block's bytes stand elsewhere
abbrev pub variable_words : Module → Variable → ℕ
variable_words m v = if is_block_class v.class then 0 else leaves m (pointee m v.type)

-- ---- counts

abbrev pub sum : ℕ → ℕ → ℕ
sum a b = a + b

-- what instructions take behind some of them, the last first
abbrev pub taken_in : Module → Code → Taken
taken_in m before = taken sum (held_words m) (variable_words m) before

-- where stands what an id is given, where its definition is among these instructions, the last first
abbrev pub place_in : Module → Code → ℕ → ℕ
place_in m [] id = 0
place_in m (i ∷ before) id = if defines i id then in_front (kind (read i)) (taken_in m before) else place_in m before id

-- where stands what an id is given: a parameter and what a block gives in slots, a variable among the words of variables; from the beginning
-- of its function on, and of a variable of the module from the beginning of all
abbrev pub place : Module → ℕ → ℕ
place m id = place_in m (whole m) id

-- what a function takes that has this body
abbrev pub frame : Module → List Placed → Taken
frame m body = taken_by sum (held_words m) (variable_words m) body nothing_taken

-- the number of the instruction with which a function goes on behind one of an opcode: that behind all instructions where it ends
abbrev pub next_at : ℕ → ℕ → ℕ → ℕ
next_at count at op = if op == ops.FUNCTION_END then count else at + 1

-- ---- counts as they are told

abbrev pub told_taken : Taken → Taken
told_taken t = record { parameters = told t.parameters; top = told t.top; most = told t.most; variables = told t.variables }

abbrev pub plus_told : ℕ → ℕ → ℕ
plus_told a b = told (a + b)

abbrev pub behind_told : Module → Kind → Taken → Taken
behind_told m k t = behind plus_told (λ type. told (held_words m type)) (λ v. told (variable_words m v)) k t

abbrev pub taken_told : Module → List Placed → Taken → Taken
taken_told m body t = taken_by plus_told (λ type. told (held_words m type)) (λ v. told (variable_words m v)) body t

-- The rows tell, by their ids, of what is defined among these instructions, the last first.
abbrev pub Tells : List ℕ → Module → Code → Type 0
Tells rows m before = (id : ℕ) → slice_index rows id ≡ told (place_in m before id)
