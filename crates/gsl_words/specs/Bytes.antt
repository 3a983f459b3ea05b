-- The file of a module (SPIR-V 1.0, 2.3): words, the least byte of each first.
use Rattle.std.specs.Prelude.{ℕ, ◌+◌, ◌*◌, List, [], ◌∷◌, ◌++◌}
use Rattle.std.specs.List.{flat_map}
use Rattle.std.specs.Int.{w32, to_le_bytes}
use Rattle.gsl_words.specs.declared.module.Instr.{Instr}
use Rattle.gsl_words.specs.declared.module.Module.{Module}
use Rattle.gsl_words.specs.Instructions.{word_count}

-- An instruction's first word has its count of words in the high half and its opcode in the low one.
abbrev pub instr_words : Instr → List ℕ
instr_words instr = (word_count instr * 65536 + instr.op) ∷ instr.args

-- the magic number, the version, no generator, the bound and a zero
abbrev pub header_words : Module → List ℕ
header_words m = 0x07230203 ∷ m.version ∷ 0 ∷ m.bound ∷ 0 ∷ []

abbrev pub module_words : Module → List ℕ
module_words m = header_words m ++ flat_map instr_words m.instrs

abbrev pub bytes_of : Module → List ℕ
bytes_of m = flat_map (to_le_bytes w32) (module_words m)
