use Rattle.std.proofs.Common.{◌≡◌, ◌≤◌, ◌+◌, ◌*◌, ◌++◌, List, drop}
use Rattle.gsl_words.specs.declared.module.Instr.{Instr}
use Rattle.gsl_cmd.specs.Lowering.{statements_code, statements_ids}
use Rattle.gsl_cmd.proofs.lowering.put_statements.Given as goal

abbrev pub invariant-loop-statement : goal.invariant-loop-statement
invariant-loop-statement l = record {
  code : (follows : List Instr) → l.code.instrs ++ statements_code l.constants l.code.next (drop l.statement-index l.statements) follows
      ≡ l.fn.code.instrs ++ statements_code l.constants l.fn.code.next l.statements follows;
  next : l.code.next + statements_ids l.constants (drop l.statement-index l.statements) ≡ l.fn.code.next + statements_ids l.constants l.statements;
  few : l.code.next ≤ l.fn.code.next + 193 * l.statement-index;
}
