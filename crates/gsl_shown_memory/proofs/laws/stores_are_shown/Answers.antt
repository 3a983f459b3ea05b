use Rattle.gsl_sound_code.proofs.Looks.{kept}
use Rattle.gsl_shown_memory.proofs.Passed.{stored_shown}
use Rattle.gsl_shown_memory.proofs.laws.stores_are_shown.Goals as goal

pub returns : goal.returns
returns c m f callers slots words buffers choices state p more number path part old new valid typed shows comes is leads here shaped =
    stored_shown m f callers slots words buffers choices state shows p more comes is (kept m valid) typed number path part old new leads here shaped
