use Rattle.std.proofs.Common.{◌≡◌, true, take}
use Rattle.std.specs.List.{AllByRecursion}
use Rattle.gsl_words.specs.Faults.{FitsInstr}
use Rattle.gsl_lowered.specs.Filing.{all_fit}
use Rattle.gsl_lowered.proofs.writable.all_in_table.Given as goal

abbrev pub invariant-loop-i : goal.invariant-loop-i
invariant-loop-i l = (all_fit (take l.i l.of.instrs) ≡ true) × AllByRecursion FitsInstr (take l.i l.of.instrs)
