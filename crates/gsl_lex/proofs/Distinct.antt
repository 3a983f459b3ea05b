-- No two rows of one table are the same.
use Rattle.std.proofs.Common.{◌≡◌, ◌≢◌, ℕ, Bool, true, false, not, ◌&&◌, List, [], ◌∷◌, map, AllPairs, refl}
use Rattle.std.specs.List.{list_any, IsDistinct, AllByRecursion}
use Rattle.std.specs.Str.{bytes_eq}
use Rattle.std.proofs.lemmas.Bool.{and_parts, or_parts}
use Rattle.std.proofs.lemmas.Map.Made.{AllPairs-from_IsDistinct}
use Rattle.std.proofs.lemmas.Slice.Eq.{bytes_eq-Decides}
use Rattle.gsl_lex.specs.Refused.{refused, other_types, other_keywords, reserved, functions, variables, matrices, matrix_sizes, opaques, opaque_kinds, shadow_samplers, shadow_kinds}
use Rattle.gsl_lex.specs.Spellings.{puncts, keywords}

-- whether no two of the words are the same
differ : List (List ℕ) → Bool
differ [] = true
differ (w ∷ words) = not (list_any (bytes_eq w) words) && differ words

none_same : (w : List ℕ) (words : List (List ℕ)) → list_any (bytes_eq w) words ≡ false → AllByRecursion (λ v. bytes_eq w v ≡ false) words
none_same w [] none = tt
none_same w (v ∷ words) none =
    let parts = or_parts (bytes_eq w v) _ none in
    (parts.0, none_same w words parts.1)

not_any : (b : Bool) → not b ≡ true → b ≡ false
not_any true e = absurd (cc)
not_any false e = refl

distinct : (words : List (List ℕ)) → differ words ≡ true → IsDistinct bytes_eq words
unfolding differ IsDistinct
distinct [] all = tt
distinct (w ∷ words) all =
    let parts = and_parts (not (list_any (bytes_eq w) words)) _ all in
    (none_same w words (not_any _ parts.0), distinct words parts.1)

pairs : (words : List (List ℕ)) → differ words ≡ true → AllPairs (λ a b. a ≢ b) words
pairs words all = AllPairs-from_IsDistinct bytes_eq-Decides words (distinct words all)

pub puncts_differ : AllPairs (λ a b. a ≢ b) (map (λ row. row.0) puncts)
unfolding differ puncts
puncts_differ = pairs (map (λ row. row.0) puncts) refl

pub keywords_differ : AllPairs (λ a b. a ≢ b) (map (λ row. row.0) keywords)
unfolding differ keywords
keywords_differ = pairs (map (λ row. row.0) keywords) refl

pub refused_differ : AllPairs (λ a b. a ≢ b) refused
unfolding differ refused other_types other_keywords reserved functions variables matrices matrix_sizes opaques opaque_kinds shadow_samplers shadow_kinds
refused_differ = pairs refused refl
