use Rattle.std.proofs.Common.{refl}
use Rattle.gsl_region.specs.Flat.{flat}
use Rattle.gsl_sound_code.proofs.Looks.{kept}
use Rattle.gsl_step.proofs.Giving.{gives_words, room_there}
use Rattle.gsl_step.proofs.laws.values_are_put.Goals as goal

pub returns-clause-room : goal.returns-clause-room
returns-clause-room c m input machine state p more d id type v valid good typed shown comes reads gives result_is shaped =
    room_there m (kept m valid) input machine state good typed shown p more comes d reads id type gives result_is v machine.choices shaped

pub returns-clause-shown : goal.returns-clause-shown
returns-clause-shown c m input machine next state p more d id type v later valid good typed shown comes reads gives result_is shaped puts =
    gives_words m (kept m valid) input machine state good typed shown p more comes d reads id type gives result_is v later shaped (flat v) refl next puts
