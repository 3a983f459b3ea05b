-- What an answer that is there says of the steps to it.
use Rattle.std.proofs.Common.{◌≡◌, Bool, true, false, cond, Option, Some, None, refl}
use Rattle.std.specs.Option.{option_map}
use Rattle.gsl_text.specs.Numbers.{◌>>=◌}

-- goes on from an answer
pub bind_some : {A B : Type 0} (found : Option A) (then : A → Option B) (y : B) → (found >>= then) ≡ Some y → (x : A) × (found ≡ Some x) × (then x ≡ Some y)
bind_some None then y e = absurd (cc)
bind_some (Some x) then y e = (x, refl, e)

pub cond_some : {A : Type 0} (t : Bool) (x y : A) → cond t (Some x) None ≡ Some y → (t ≡ true) × (x ≡ y)
cond_some true x y e = (refl, cc)
cond_some false x y e = absurd (cc)

pub map_some : {A B : Type 0} (f : A → B) (found : Option A) (y : B) → option_map f found ≡ Some y → (x : A) × (found ≡ Some x) × (f x ≡ y)
map_some f None y e = absurd (cc)
map_some f (Some x) y e = (x, refl, cc)
