-- What is no spelling of a table by one of its bytes or by its length is not looked up.
use Rattle.std.proofs.Common.{◌≡◌, ℕ, Bool, true, false, List, [], ◌∷◌, length, get_or, None, refl, ap, sym, ◌∙◌, ltb}
use Rattle.std.specs.List.{list_all}
use Rattle.std.specs.Option.{option_map}
use Rattle.std.specs.Str.{bytes_eq}
use Rattle.std.proofs.lemmas.Bool.{and_parts, true≢false, cond-false}
use Rattle.std.proofs.lemmas.Slice.Eq.{bytes_eq-Decides}
use Rattle.gsl_lex.specs.declared.text.Char.{Char}
use Rattle.gsl_lex.specs.Bytes.{first_of}
use Rattle.gsl_lex.specs.Spellings.{puncts}
use Rattle.gsl_lex.specs.Refused.{refused, other_types, other_keywords, reserved, functions, variables, matrices, matrix_sizes, opaques, opaque_kinds, shadow_samplers, shadow_kinds}
use Rattle.gsl_lex.specs.Tables.{lookup, among, punct_of, is_refused}
use Rattle.gsl_lex.specs.Reading.{next_of, three_at, two_at, one_at, or_else, punct_at}
use Rattle.gsl_lex.specs.Searching.{of_len, is_mark, is_second}
use Rattle.gsl_lex.proofs.Lengths.{punct_among}

unlike : (test : List ℕ → Bool) (word s : List ℕ) → test word ≡ true → test s ≡ false → bytes_eq word s ≡ false
unlike test word s has other =
    elim (bytes_eq word s) as (λ b. bytes_eq word s ≡ b → b ≡ false) [
      | true ↦ λ same. absurd (true≢false (sym has ∙ ap test ((bytes_eq-Decides word s).0 same) ∙ other))
      | false ↦ λ _. refl
    ] refl

lookup_none : {A : Type 0} (test : List ℕ → Bool) (rows : List (List ℕ × A)) (s : List ℕ) → list_all (λ row. test row.0) rows ≡ true → test s ≡ false → lookup rows s ≡ None
lookup_none test [] s all other = refl
lookup_none test (row ∷ rows) s all other =
    let parts = and_parts (test row.0) _ all in
    cond-false _ _ _ (unlike test row.0 s parts.0 other) ∙ lookup_none test rows s parts.1 other

among_none : (test : List ℕ → Bool) (rows : List (List ℕ)) (s : List ℕ) → list_all test rows ≡ true → test s ≡ false → among rows s ≡ false
among_none test [] s all other = refl
among_none test (row ∷ rows) s all other =
    let parts = and_parts (test row) _ all in
    cond-false _ _ _ (unlike test row s parts.0 other) ∙ among_none test rows s parts.1 other

second : List ℕ → Bool
second s = is_second (get_or s 1 0)

mark : List ℕ → Bool
mark s = is_mark (first_of s)

enough : List ℕ → Bool
enough s = ltb 2 (length s)

two_seconds : list_all (λ row. second row.0) (of_len 2 puncts) ≡ true
unfolding puncts second
two_seconds = refl

three_seconds : list_all (λ row. second row.0) (of_len 3 puncts) ≡ true
unfolding puncts second
three_seconds = refl

marks : list_all (λ row. mark row.0) (of_len 1 puncts) ≡ true
unfolding puncts mark
marks = refl

all_enough : list_all enough refused ≡ true
unfolding refused other_types other_keywords reserved functions variables matrices matrix_sizes opaques opaque_kinds shadow_samplers shadow_kinds enough
all_enough = refl

pub two_none : (a b : ℕ) → is_second b ≡ false → None ≡ punct_of (a ∷ b ∷ [])
unfolding second
two_none a b other = sym (lookup_none second (of_len 2 puncts) (a ∷ b ∷ []) two_seconds other) ∙ punct_among (a ∷ b ∷ [])

pub three_none : (a b c : ℕ) → is_second b ≡ false → None ≡ punct_of (a ∷ b ∷ c ∷ [])
unfolding second
three_none a b c other = sym (lookup_none second (of_len 3 puncts) (a ∷ b ∷ c ∷ []) three_seconds other) ∙ punct_among (a ∷ b ∷ c ∷ [])

pub one_none : (a : ℕ) → is_mark a ≡ false → None ≡ punct_of (a ∷ [])
unfolding mark
one_none a other = sym (lookup_none mark (of_len 1 puncts) (a ∷ []) marks other) ∙ punct_among (a ∷ [])

three_at_none : (a : ℕ) (text : List Char) → is_second (next_of text) ≡ false → three_at a text ≡ None
three_at_none a [] other = refl
three_at_none a (c ∷ []) other = refl
three_at_none a (c ∷ d ∷ text) other = ap (option_map (λ p. (p, text))) (sym (three_none a c.byte d.byte other))

two_at_none : (a : ℕ) (text : List Char) → is_second (next_of text) ≡ false → two_at a text ≡ None
two_at_none a [] other = refl
two_at_none a (c ∷ text) other = ap (option_map (λ p. (p, text))) (sym (two_none a c.byte other))

-- a punctuator is of one byte where the next byte is the second of none
pub alone : (a : ℕ) (text : List Char) → is_second (next_of text) ≡ false → one_at a text ≡ punct_at a text
unfolding punct_at
alone a text other =
    sym (ap (λ x. or_else x (or_else (two_at a text) (one_at a text))) (three_at_none a text other) ∙ ap (λ x. or_else x (one_at a text)) (two_at_none a text other))

-- a word of fewer than three bytes is not refused
pub short_not_refused : (word : List ℕ) → ltb 2 (length word) ≡ false → false ≡ is_refused word
unfolding is_refused enough
short_not_refused word short = sym (among_none enough refused word all_enough short)
