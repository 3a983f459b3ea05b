use Rattle.std.proofs.Common.{◌≡◌, None, length}
use Rattle.gsl_check_heads.specs.Finding.{is_numbered, oldest}
use Rattle.gsl_check_heads.proofs.matching.oldest.Given as goal

abbrev pub invariant-loop-rest : goal.invariant-loop-rest
invariant-loop-rest l =
    oldest (is_numbered l.fn.prototypes l.fn.name l.fn.params) l.found l.rest ≡ oldest (is_numbered l.fn.prototypes l.fn.name l.fn.params) None l.fn.entries

abbrev pub decreases-loop-rest : goal.decreases-loop-rest
decreases-loop-rest l = length l.rest
