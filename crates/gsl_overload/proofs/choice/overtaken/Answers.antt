use Rattle.std.proofs.Common.{sym, ◌∙◌, subst}
use Rattle.gsl_overload.specs.Favourite.{FavouriteBelow}
use Rattle.gsl_overload.proofs.Bests.{overtaken}
use Rattle.gsl_overload.proofs.Walks.{fits_there}
use Rattle.gsl_overload.proofs.choice.overtaken.Goals as goal

pub returns-then-beats_at : goal.returns-then-beats_at
returns-then-beats_at c =
    let candidates = c.args.candidates.now in
    let args = c.args.args.now in
    overtaken candidates args c.args.k c.in-Some.j (subst (FavouriteBelow candidates args c.args.k) c.in-Some.is c.requires.found)
    (fits_there candidates args c.args.k c.index.result.now c.requires.there c.index.ensures (sym c.fits.ensures ∙ c.if-not-fits.false))
    (sym c.beats_at.ensures ∙ c.if-beats_at.true)
