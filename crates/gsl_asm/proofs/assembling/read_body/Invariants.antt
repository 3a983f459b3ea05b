use Rattle.std.proofs.Common.{◌≡◌, ◌+◌, ◌≤◌, length}
use Rattle.gsl_text.specs.Lines.{lines_of}
use Rattle.gsl_asm.specs.Reading.{body, code_before}
use Rattle.gsl_asm.proofs.assembling.read_body.Given as goal

abbrev pub invariant-loop-rest : goal.invariant-loop-rest
invariant-loop-rest l = record {
  read : code_before l.instrs (body l.target (l.number + 1) (lines_of l.rest)) ≡ body l.target (l.line + 1) (lines_of l.text);
  few : l.number + length l.rest ≤ l.line + length l.text;
}

abbrev pub decreases-loop-rest : goal.decreases-loop-rest
decreases-loop-rest l = length l.rest
