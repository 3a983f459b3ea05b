use Rattle.std.proofs.Common.{◌≡◌, ◌<◌, ◌^◌, take}
use Rattle.gsl_valid.specs.Placed.{header_size, words_from}
use Rattle.gsl_lowered.proofs.writable.is_short.Given as goal

abbrev pub invariant-loop-i : goal.invariant-loop-i
invariant-loop-i l = (l.words ≡ words_from header_size (take l.i l.of.instrs)) × (l.words < 2 ^ 32)
