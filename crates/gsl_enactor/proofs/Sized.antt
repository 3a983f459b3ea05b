-- A module's file has four bytes for each of its words.
use Rattle.std.proofs.Common.{◌≡◌, refl, ap, ℕ, ◌+◌, ◌*◌, ◌^◌, ◌<◌, ◌≤◌, List, [], ◌∷◌, length, arith, length-append}
use Rattle.std.specs.Int.{w32, to_le_bytes}
use Rattle.std.specs.List.{flat_map}
use Rattle.gsl_words.specs.Bytes.{bytes_of, instr_words, module_words}
use Rattle.gsl_words.specs.declared.module.Instr.{Instr}
use Rattle.gsl_words.specs.declared.module.Module.{Module}
use Rattle.gsl_valid.specs.Placed.{count_of_words, header_size, words_from}

four_each : (words : List ℕ) → length (flat_map (to_le_bytes w32) words) ≡ 4 * length words
four_each [] = refl
four_each (w ∷ words) = omega (arith, four_each words)

words_each : (at : ℕ) (code : List Instr) → words_from at code ≡ at + length (flat_map instr_words code)
words_each at [] = omega arith
words_each at (i ∷ code) = omega (arith, words_each (at + (1 + length i.args)) code, length-append (instr_words i) (flat_map instr_words code))

pub few_words : (m : Module) (bytes : List ℕ) → bytes ≡ bytes_of m → length bytes ≤ 402653184 → count_of_words m < 2 ^ 32
few_words m bytes is short = omega (arith, ap length is, four_each (module_words m), words_each header_size m.instrs)
