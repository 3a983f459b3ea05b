use Rattle.std.proofs.Common.{◌≡◌, ◌+◌, drop, length}
use Rattle.std.specs.Prelude.{vec_len}
use Rattle.gsl_ids.specs.Pass.{first_failed}
use Rattle.gsl_kinds.specs.Runtimes.{front}
use Rattle.gsl_valid.specs.LayoutRules.{need, extent}
use Rattle.gsl_valid_layouts.specs.Layouts.{passes, behind, instrs_of}
use Rattle.gsl_valid_layouts.specs.Sizes.{TellSizes}
use Rattle.gsl_valid_layouts.proofs.layout.first_unlaid.Given as goal

abbrev pub invariant-loop-place : goal.invariant-loop-place
invariant-loop-place l =
    record {
      found : first_failed passes behind l.reached l.at l.each ≡ first_failed passes behind l.reached 0 l.fn.each;
      rest : instrs_of l.each ≡ drop l.at l.reached.instrs;
      needs_room : vec_len l.needs ≡ l.reached.bound;
      extents_room : vec_len l.extents ≡ l.reached.bound;
      needs : TellSizes l.needs.items (need l.reached (front l.reached l.at));
      extents : TellSizes l.extents.items (extent l.reached (front l.reached l.at));
    }

abbrev pub decreases-loop-place : goal.decreases-loop-place
decreases-loop-place l = length l.each
