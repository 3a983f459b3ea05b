-- Structs in a list, and their words in the same places of another.
use Rattle.std.proofs.Common.{◌≡◌, refl, ap, ◌∙◌, ℕ, Bool, true, false, cond, not, ◌||◌, ◌+◌, List, [], ◌∷◌, ◌++◌, map, bytes_eq}
use Rattle.std.specs.List.{list_any, position_or_len}
use Rattle.indexmap.specs.IndexSet.{insert_key}
use Rattle.gsl_types.specs.declared.ty.StructType.{StructType}
use Rattle.gsl_link_units.specs.Structs.{same_struct, with_struct, struct_number}
use Rattle.gsl_link_structs.specs.Keys.{struct_words}
use Rattle.gsl_link_structs.proofs.Distinguished.{structs_tell}

pub any_told : (s : StructType) (joined : List StructType) → list_any (bytes_eq (struct_words s)) (map struct_words joined) ≡ list_any (same_struct s) joined
any_told s [] = refl
any_told s (x ∷ joined) = ap (λ b. b || list_any (bytes_eq (struct_words s)) (map struct_words joined)) (structs_tell s x) ∙ ap (λ b. same_struct s x || b) (any_told s joined)

pub number_told : (s : StructType) (joined : List StructType) → position_or_len (bytes_eq (struct_words s)) (map struct_words joined) ≡ struct_number joined s
number_told s [] = refl
number_told s (x ∷ joined) =
    ap (λ b. cond (not b) (1 + position_or_len (bytes_eq (struct_words s)) (map struct_words joined)) 0) (structs_tell s x)
    ∙ ap (λ n. cond (not (same_struct s x)) (1 + n) 0) (number_told s joined)

map_end : (joined : List StructType) (s : StructType) → map struct_words joined ++ struct_words s ∷ [] ≡ map struct_words (joined ++ s ∷ [])
map_end [] s = refl
map_end (x ∷ joined) s = ap (λ (l : List (List ℕ)). struct_words x ∷ l) (map_end joined s)

pub words_with : (s : StructType) (joined : List StructType) → insert_key bytes_eq (map struct_words joined) (struct_words s) ≡ map struct_words (with_struct joined s)
words_with s joined = ap (λ b. cond b (map struct_words joined) (map struct_words joined ++ struct_words s ∷ [])) (any_told s joined) ∙ by_test (list_any (same_struct s) joined)
  where
    by_test : (b : Bool) → cond b (map struct_words joined) (map struct_words joined ++ struct_words s ∷ []) ≡ map struct_words (cond b joined (joined ++ s ∷ []))
    by_test true = refl
    by_test false = map_end joined s

-- what is put by whether it is new
pub put_told : (s : StructType) (joined : List StructType) (new : Bool) → new ≡ not (list_any (bytes_eq (struct_words s)) (map struct_words joined)) → cond new (joined ++ s ∷ []) joined ≡ with_struct joined s
put_told s joined new is = ap (λ b. cond b (joined ++ s ∷ []) joined) (is ∙ ap not (any_told s joined)) ∙ by_test (list_any (same_struct s) joined)
  where
    by_test : (b : Bool) → cond (not b) (joined ++ s ∷ []) joined ≡ cond b joined (joined ++ s ∷ [])
    by_test true = refl
    by_test false = refl
