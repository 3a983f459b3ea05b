use Rattle.gsl_ids.proofs.Places.{made}
use Rattle.gsl_enact_values.specs.Search.{front}
use Rattle.gsl_enact_fits.proofs.Told.{few_words}
use Rattle.gsl_enact_fits.proofs.needs.latest_short.Goals as goal

pub returns-in-Some : goal.returns-in-Some
returns-in-Some c =
    let m = c.args.definitions.now in (
      c.in-Some.ensures.0,
      c.in-Some.ensures.1,
      few_words m c.args.count c.args.id (made c.in-Some.op c.in-Some.args.now) (front m c.in-Some.at) c.requires c.in-Some.ensures.0,
    )
