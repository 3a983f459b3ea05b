use Rattle.std.proofs.Common.{◌≡◌, ◌≤◌, ◌+◌, ◌*◌, [], length, fold, take}
use Rattle.std.specs.List.{range_with_len, flat_map}
use Rattle.gsl_form.specs.declared.program.Statement.{Statement}
use Rattle.gsl_cmd.specs.Lowering.{with_value, literals_of}
use Rattle.gsl_cmd.proofs.lowering.constants.Given as goal

abbrev pub invariant-loop-i : goal.invariant-loop-i
invariant-loop-i l = record {
  values : l.values ≡ fold with_value [] (range_with_len 0 l.i);
  few : length l.values ≤ l.i;
}

abbrev pub invariant-loop-statement : goal.invariant-loop-statement
invariant-loop-statement l = record {
  values : l.values ≡ fold with_value l.initial.values (flat_map (λ (s : Statement). literals_of s.terms) (take l.statement-index l.statement-items));
  few : length l.values ≤ length l.initial.values + 64 * l.statement-index;
}
