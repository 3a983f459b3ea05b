-- The last of some values.
use Rattle.std.proofs.Common.{◌≡◌, refl, sym, ap, ◌∙◌, List, [], ◌∷◌, ◌++◌}
use Rattle.gsl_values.specs.declared.value.Value.{Value}
use Rattle.gsl_meaning.specs.Expressions.{last_of}

behind_some : (v : Value) (vs : List Value) (last : Value) → last_of (v ∷ vs ++ last ∷ []) ≡ last
behind_some v [] last = refl
behind_some v (next ∷ vs) last = behind_some next vs last

pub last_is : (vs before : List Value) (last : Value) → vs ≡ before ++ last ∷ [] → last ≡ last_of vs
last_is vs [] last is = sym (ap last_of is)
last_is vs (v ∷ before) last is = sym (ap last_of is ∙ behind_some v before last)
