-- Arguments that go in alone (GLSL 4.50, 6.1.1).
use Rattle.std.specs.Prelude.{◌≡◌, List, [], ◌∷◌, map}
use Rattle.gsl_types.specs.declared.ty.Direction.{Direction}
use Rattle.gsl_types.specs.declared.ty.Direction.TheVariants.{In}
use Rattle.gsl_types.specs.declared.ty.Ty.{Ty}
use Rattle.gsl_lower_expr.specs.Parts.{Lower}

-- parameters of these types that go in alone
abbrev pub ins : List Ty → List (Direction × Ty)
ins tys = map (λ t. (In, t)) tys

-- Arguments are of the types of the parameters.
abbrev pub AreOf : List Lower → List Ty → Type 0
AreOf [] [] = Unit {0}
AreOf [] (t ∷ tys) = ⊥
AreOf (e ∷ es) [] = ⊥
AreOf (e ∷ es) (t ∷ tys) = (e.ty ≡ t) × AreOf es tys
