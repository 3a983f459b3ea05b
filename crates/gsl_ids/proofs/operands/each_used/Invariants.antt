use Rattle.std.proofs.Common.{◌≡◌, length}
use Rattle.std.specs.List.{list_all}
use Rattle.gsl_instr.specs.declared.parts.Part.{Part}
use Rattle.gsl_ids.specs.Uses.{is_used}
use Rattle.gsl_ids.proofs.operands.each_used.Given as goal

abbrev pub invariant-loop-part : goal.invariant-loop-part
invariant-loop-part g l =
    list_all (λ (part : Part). is_used (g.T.UseTest.needed l.test) (g.T.UseTest.mentioned l.test) part.slot part.words) l.parts
    ≡ list_all (λ (part : Part). is_used (g.T.UseTest.needed l.test) (g.T.UseTest.mentioned l.test) part.slot part.words) l.fn.parts

abbrev pub decreases-loop-part : goal.decreases-loop-part
decreases-loop-part g l = length l.parts
