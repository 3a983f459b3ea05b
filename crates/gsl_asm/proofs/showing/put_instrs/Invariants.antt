use Rattle.std.proofs.Common.{◌≡◌, ◌++◌, take}
use Rattle.std.specs.List.{flat_map, AllByRecursion}
use Rattle.gsl_words.specs.Faults.{FitsInstr}
use Rattle.gsl_asm.specs.Shown.{instr_text}
use Rattle.gsl_asm.proofs.showing.put_instrs.Given as goal

abbrev pub invariant-loop-i : goal.invariant-loop-i
invariant-loop-i l = record {
  text : l.out ≡ l.initial.out ++ flat_map (instr_text l.target) (take l.i l.instrs);
  fits : AllByRecursion FitsInstr (take l.i l.instrs);
}
