-- The rows of the code are those of the tables, and a table is searched under the first byte of a word.
use Rattle.std.proofs.Common.{◌≡◌, ℕ, ◌+◌, ◌<◌, true, false, cond, List, [], ◌∷◌, map, Some, None, refl, ap, sym, ◌∙◌, arith, eqb, get_or}
use Rattle.std.specs.List.{list_all, filter, range_with_len, slice_get}
use Rattle.std.specs.Str.{bytes_eq}
use Rattle.std.proofs.lemmas.Bool.{and_parts, true≢false, cond-false, eq-eqb}
use Rattle.std.proofs.lemmas.Option.{slice_get-map, get_or_from_slice_get}
use Rattle.std.specs.Option.{option_map}
use Rattle.std.proofs.lemmas.List.FromFn.{get_or-map-range_with_len}
use Rattle.std.proofs.lemmas.Slice.Eq.{bytes_eq-Decides}
use Rattle.gsl_lex.specs.Bytes.{first_of}
use Rattle.gsl_lex.specs.Spellings.{keywords}
use Rattle.gsl_lex.specs.Refused.{alone, other_types, other_keywords, reserved, functions, variables}
use Rattle.gsl_lex.specs.Tables.{lookup, among, key_of}
use Rattle.gsl_lex.specs.Searching.{is_lower, under, IsAt}

-- What an item shows, where all items show what a function gives of so many numbers from 0 on.
pub picked : {A B : Type 0} {n : ℕ} (show : A → B) (f : ℕ → B) (items : List A) (i : ℕ) (item : A) → IsAt items i item → map show items ≡ map f (range_with_len 0 n) → i < n → show item ≡ f i
picked {n} show f items i item at same low =
    let here : slice_get (map show items) i ≡ Some (show item) = slice_get-map show items i ∙ ap (option_map show) at.is in
    sym (get_or_from_slice_get (map show items) i (show item) (show item) here)
    ∙ ap (λ l. get_or l i (show item)) same
    ∙ get_or-map-range_with_len f 0 n i i (show item) low (omega arith)

apart : (word s : List ℕ) (c : ℕ) → first_of s ≡ c → eqb (first_of word) c ≡ false → bytes_eq word s ≡ false
apart word s c first other =
    elim (bytes_eq word s) as (λ b. bytes_eq word s ≡ b → b ≡ false) [
      | true ↦ λ same.
          let one : first_of word ≡ c = ap first_of ((bytes_eq-Decides word s).0 same) ∙ first in
          absurd (true≢false (sym (ap (λ n. eqb n c) one ∙ eq-eqb c c refl) ∙ other))
      | false ↦ λ _. refl
    ] refl

-- A word is found under the byte that it begins with, as among all rows.
pub lookup_under : {A : Type 0} (rows : List (List ℕ × A)) (s : List ℕ) (c : ℕ) → first_of s ≡ c → lookup (filter (λ row. eqb (first_of row.0) c) rows) s ≡ lookup rows s
lookup_under [] s c first = refl
lookup_under {A} (row ∷ rows) s c first =
    let less : List (List ℕ × A) = filter (λ row. eqb (first_of row.0) c) rows in
    elim (eqb (first_of row.0) c) as (λ b. eqb (first_of row.0) c ≡ b → lookup (cond b (row ∷ less) less) s ≡ cond (bytes_eq row.0 s) (Some row.1) (lookup rows s)) [
      | true ↦ λ _. ap (λ found. cond (bytes_eq row.0 s) (Some row.1) found) (lookup_under rows s c first)
      | false ↦ λ other. lookup_under rows s c first ∙ sym (cond-false _ _ _ (apart row.0 s c first other))
    ] refl

pub among_under : (rows : List (List ℕ)) (s : List ℕ) (c : ℕ) → first_of s ≡ c → among (filter (λ row. eqb (first_of row) c) rows) s ≡ among rows s
among_under [] s c first = refl
among_under (row ∷ rows) s c first =
    let less : List (List ℕ) = filter (λ row. eqb (first_of row) c) rows in
    elim (eqb (first_of row) c) as (λ b. eqb (first_of row) c ≡ b → among (cond b (row ∷ less) less) s ≡ cond (bytes_eq row s) true (among rows s)) [
      | true ↦ λ _. ap (λ found. cond (bytes_eq row s) true found) (among_under rows s c first)
      | false ↦ λ other. among_under rows s c first ∙ sym (cond-false _ _ _ (apart row s c first other))
    ] refl

unlike : (word s : List ℕ) → is_lower (first_of word) ≡ true → is_lower (first_of s) ≡ false → bytes_eq word s ≡ false
unlike word s lower other =
    elim (bytes_eq word s) as (λ b. bytes_eq word s ≡ b → b ≡ false) [
      | true ↦ λ same. absurd (true≢false (sym lower ∙ ap (λ t. is_lower (first_of t)) ((bytes_eq-Decides word s).0 same) ∙ other))
      | false ↦ λ _. refl
    ] refl

-- Where each row begins with a letter of `a` to `z`, no other word is found.
pub lookup_none : {A : Type 0} (rows : List (List ℕ × A)) (s : List ℕ) → list_all (λ row. is_lower (first_of row.0)) rows ≡ true → is_lower (first_of s) ≡ false → lookup rows s ≡ None
lookup_none [] s all other = refl
lookup_none (row ∷ rows) s all other =
    let parts = and_parts (is_lower (first_of row.0)) _ all in
    cond-false _ _ _ (unlike row.0 s parts.0 other) ∙ lookup_none rows s parts.1 other

pub among_none : (rows : List (List ℕ)) (s : List ℕ) → list_all (λ row. is_lower (first_of row)) rows ≡ true → is_lower (first_of s) ≡ false → among rows s ≡ false
among_none [] s all other = refl
among_none (row ∷ rows) s all other =
    let parts = and_parts (is_lower (first_of row)) _ all in
    cond-false _ _ _ (unlike row s parts.0 other) ∙ among_none rows s parts.1 other

keywords_lower : list_all (λ row. is_lower (first_of row.0)) keywords ≡ true
unfolding keywords
keywords_lower = refl

alone_lower : list_all (λ row. is_lower (first_of row)) alone ≡ true
unfolding other_types other_keywords reserved functions variables
alone_lower = refl

pub key_at : (s : List ℕ) (letter : ℕ) → first_of s ≡ 97 + letter → lookup (under (λ row. row.0) keywords letter) s ≡ key_of s
unfolding key_of
key_at s letter first = lookup_under keywords s (97 + letter) first

pub key_none : (s : List ℕ) → is_lower (first_of s) ≡ false → None ≡ key_of s
unfolding key_of
key_none s other = sym (lookup_none keywords s keywords_lower other)

pub alone_at : (s : List ℕ) (letter : ℕ) → first_of s ≡ 97 + letter → among (under (λ row. row) alone letter) s ≡ among alone s
alone_at s letter first = among_under alone s (97 + letter) first

pub alone_none : (s : List ℕ) → is_lower (first_of s) ≡ false → false ≡ among alone s
alone_none s other = sym (among_none alone s alone_lower other)
