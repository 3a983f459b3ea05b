use Rattle.std.proofs.Common.{◌≡◌, drop}
use Rattle.std.specs.List.{list_any}
use Rattle.gsl_link_whole.specs.Whole as whole
use Rattle.gsl_link.proofs.program_rows.has_main.Given as goal

abbrev pub invariant-loop-k : goal.invariant-loop-k
invariant-loop-k l = list_any (whole.is_main l.prototypes) (drop l.k l.functions) ≡ list_any (whole.is_main l.prototypes) l.functions
