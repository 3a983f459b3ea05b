use Rattle.std.proofs.Common.{◌≡◌, ◌+◌, ◌≤◌, length}
use Rattle.gsl_text.specs.Lines.{lines_of}
use Rattle.gsl_asm.specs.Reading.{module_from}
use Rattle.gsl_asm.proofs.assembling.read_head.Given as goal

abbrev pub invariant-loop-rest : goal.invariant-loop-rest
invariant-loop-rest l = record {
  read : module_from (l.line + 1) (lines_of l.rest) ≡ module_from 1 (lines_of l.text);
  few : l.line + length l.rest ≤ length l.text;
}

abbrev pub decreases-loop-rest : goal.decreases-loop-rest
decreases-loop-rest l = length l.rest
