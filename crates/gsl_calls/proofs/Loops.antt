-- What loops over arguments keep.
use Rattle.std.proofs.Common.{◌≡◌, refl, List, [], ◌∷◌, false}
use Rattle.gsl_overload.specs.Best.{Param}
use Rattle.gsl_typing.specs.declared.scene.Scene.{Scene}
use Rattle.gsl_calls.specs.Calls.{any_misused, as_arguments}

pub none_misused : (scene : Scene) (params : List Param) → any_misused scene params [] ≡ false
none_misused scene [] = refl
none_misused scene (param ∷ params) = refl

pub none_given : (params : List Param) → as_arguments params [] ≡ []
none_given [] = refl
none_given (param ∷ params) = refl
