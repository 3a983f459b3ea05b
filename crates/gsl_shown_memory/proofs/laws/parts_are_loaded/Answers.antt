use Rattle.gsl_sound_code.proofs.Looks.{kept}
use Rattle.gsl_shown_memory.proofs.Loaded.{load_shown}
use Rattle.gsl_shown_memory.proofs.laws.parts_are_loaded.Goals as goal

pub returns : goal.returns
returns c m input f callers slots words buffers choices state p more number path id part v valid good typed shows comes gives result_is leads here =
    load_shown m (kept m valid) input f callers slots words buffers choices state good typed shows p more comes number path id part v gives result_is leads here
