-- What a view that can be written stands on.
use Rattle.gsl_views.specs.Viewed.{Viewed}
use Rattle.gsl_views.specs.declared.view_mut.ViewMut.{ViewMut}

abbrev pub held : ViewMut → Viewed
held view = record { bytes = view.bytes.now; start = view.start; layout = view.laid.now }
