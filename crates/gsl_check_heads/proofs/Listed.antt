-- A name is that of a built-in function where it is one of their names.
use Rattle.std.proofs.Common.{◌≡◌, refl, ℕ, true, false, cond, List, [], ◌∷◌, map}
use Rattle.std.specs.Str.{bytes_eq}
use Rattle.gsl_names.specs.Scopes.{Declared, Scope, all_in, first_of}
use Rattle.gsl_check_heads.specs.Builtins.{is_function, among}

pub found_in : (scope : Scope) (name : List ℕ) → among (map (λ (d : Declared). d.0) scope) name ≡ is_function (first_of (all_in scope name))
found_in [] name = refl
found_in (d ∷ scope) name =
    elim (bytes_eq d.0 name) as (λ b. cond b true (among (map (λ (d : Declared). d.0) scope) name) ≡ is_function (first_of (cond b (d.1 ∷ all_in scope name) (all_in scope name)))) [
      | true ↦ refl
      | false ↦ found_in scope name
    ]
