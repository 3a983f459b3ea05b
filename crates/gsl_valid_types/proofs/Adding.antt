-- The keys of the set, seen as those of the types.
use Rattle.std.proofs.Common.{◌≡◌, ℕ, Bool, true, false, cond, not, ◌||◌, ◌&&◌, eqb, List, [], ◌∷◌, ◌++◌, map, refl, ap}
use Rattle.std.specs.Borrow.{Bor}
use Rattle.std.specs.List.{list_any}
use Rattle.std.specs.Str.{bytes_eq}
use Rattle.gsl_valid_types.specs.TypeKeys.{key_seen, is_key}

pub same_keys : (op : ℕ) (operands : List ℕ) (ks : List (ℕ × Bor (List ℕ))) →
    list_any (λ (k : ℕ × Bor (List ℕ)). eqb op k.0 && bytes_eq operands k.1.now) ks ≡ list_any (is_key op operands) (map key_seen ks)
same_keys op operands [] = refl
same_keys op operands (k ∷ ks) = ap (λ b. (eqb op k.0 && bytes_eq operands k.1.now) || b) (same_keys op operands ks)

pub one_more : (b : Bool) (ks : List (ℕ × Bor (List ℕ))) (k : ℕ × Bor (List ℕ)) →
    map key_seen (cond b ks (ks ++ k ∷ [])) ≡ cond (not b) (map key_seen ks ++ key_seen k ∷ []) (map key_seen ks)
one_more true ks k = refl
one_more false ks k = appended ks
  where
    appended : (ks : List (ℕ × Bor (List ℕ))) → map key_seen (ks ++ k ∷ []) ≡ map key_seen ks ++ key_seen k ∷ []
    appended [] = refl
    appended (x ∷ ks) = ap (λ l. key_seen x ∷ l) (appended ks)
