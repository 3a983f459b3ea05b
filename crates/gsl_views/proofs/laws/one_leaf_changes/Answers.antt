use Rattle.std.proofs.Common.{refl}
use Rattle.gsl_layout.specs.Layout.{Leaf}
use Rattle.gsl_views.proofs.Changes.{changes}
use Rattle.gsl_views.proofs.laws.one_leaf_changes.Goals as goal

pub returns : goal.returns
returns c layout at place components k word path bytes is fits leads below small = changes bytes components k word below small layout at path (Leaf components) place leads refl is fits
