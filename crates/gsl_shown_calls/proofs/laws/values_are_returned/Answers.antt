use Rattle.std.proofs.Common.{sym, ap, ◌∙◌, []}
use Rattle.gsl_machine.specs.State.{Whole}
use Rattle.gsl_frames.specs.Frames.{held_words}
use Rattle.gsl_sound_code.proofs.Looks.{kept}
use Rattle.gsl_sound_types.proofs.Holding.{value_of_type}
use Rattle.gsl_shown.proofs.Counted.{held_counted}
use Rattle.gsl_shown_calls.proofs.Returned.{type_is, value_returned}
use Rattle.gsl_shown_calls.proofs.laws.values_are_returned.Goals as goal

pub returns : goal.returns
returns c m input f g callers slots words buffers choices state call calls type function arguments v valid good shows waits is shaped =
    let kept = kept m valid in
    let size = held_counted m kept [] type (Whole v) (value_of_type m kept [] type v shaped) ∙ ap (held_words m) (sym (type_is m f g callers slots words buffers choices state call calls waits shows kept type function arguments is)) in
    value_returned m f g callers slots words buffers choices state call calls waits shows kept input good v size
