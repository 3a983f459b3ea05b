-- What all rows of the table of punctuators have in common.
use Rattle.std.proofs.Common.{◌≡◌, ℕ, ◌≤◌, Bool, true, false, cond, not, ◌&&◌, List, [], ◌∷◌, length, Option, Some, None, refl, ap, sym, ◌∙◌, arith, eqb}
use Rattle.std.specs.List.{list_all}
use Rattle.std.specs.Str.{bytes_eq}
use Rattle.std.specs.Char.{is_ascii_digit}
use Rattle.std.proofs.lemmas.Bool.{and_parts, true≢false}
use Rattle.std.proofs.lemmas.Slice.Eq.{bytes_eq-Decides}
use Rattle.gsl_base.specs.declared.token.Punct.{Punct}
use Rattle.gsl_lex.specs.declared.piece.Class.{Class}
use Rattle.gsl_lex.specs.declared.piece.Class.TheVariants as class
use Rattle.gsl_lex.specs.Bytes.{is_space, is_letter}
use Rattle.gsl_lex.specs.Spellings.{puncts}
use Rattle.gsl_lex.specs.Tables.{lookup, punct_of}
use Rattle.gsl_lex.specs.Reading.{class_of}

abbrev pub is_other : Class → Bool
is_other class.LineEnd = false
is_other class.Space = false
is_other class.LineComment = false
is_other class.BlockComment = false
is_other class.Word = false
is_other class.Number = false
is_other class.Other = true

abbrev pub is_found : Option Punct → Bool
is_found None = false
is_found (Some p) = true

-- no white space, letter or digit
abbrev pub is_mark_byte : ℕ → Bool
is_mark_byte a = not (eqb a 10) && not (is_space a) && not (is_letter a) && not (is_ascii_digit a)

-- one to three bytes: one is no white space, letter or digit; two or more begin no other piece, and the first is a
-- punctuator too
abbrev pub is_row : List ℕ → Bool
is_row [] = false
is_row (a ∷ []) = is_mark_byte a
is_row (a ∷ b ∷ []) = is_other (class_of a b) && is_found (punct_of (a ∷ []))
is_row (a ∷ b ∷ c ∷ []) = is_other (class_of a b) && is_found (punct_of (a ∷ []))
is_row (a ∷ b ∷ c ∷ d ∷ more) = false

pub rows_are : list_all (λ row. is_row row.0) puncts ≡ true
unfolding punct_of puncts
rows_are = refl

lookup_is : (rows : List (List ℕ × Punct)) (s : List ℕ) (p : Punct) → list_all (λ row. is_row row.0) rows ≡ true → lookup rows s ≡ Some p → is_row s ≡ true
lookup_is [] s p all e = absurd (cc)
lookup_is (row ∷ rows) s p all e =
    let parts = and_parts (is_row row.0) _ all in
    elim (bytes_eq row.0 s) as (λ b. bytes_eq row.0 s ≡ b → cond b (Some row.1) (lookup rows s) ≡ Some p → is_row s ≡ true) [
      | true ↦ λ same found. sym (ap is_row ((bytes_eq-Decides row.0 s).0 same)) ∙ parts.0
      | false ↦ λ other found. lookup_is rows s p parts.1 found
    ] refl e

pub row_is : (s : List ℕ) (p : Punct) → punct_of s ≡ Some p → is_row s ≡ true
unfolding punct_of
row_is s p e = lookup_is puncts s p rows_are e

short : (a : ℕ) (s : List ℕ) → is_row (a ∷ s) ≡ true → length s ≤ 2
short a [] row = omega arith
short a (b ∷ []) row = omega arith
short a (b ∷ c ∷ []) row = omega arith
short a (b ∷ c ∷ d ∷ more) row = absurd (true≢false (sym row))

-- a punctuator has at most three bytes
pub row_len : (a : ℕ) (s : List ℕ) (p : Punct) → punct_of (a ∷ s) ≡ Some p → length s ≤ 2
row_len a s p e = short a s (row_is (a ∷ s) p e)

found_alone : (a : ℕ) (s : List ℕ) → is_row (a ∷ s) ≡ true → is_found (punct_of (a ∷ s)) ≡ true → is_found (punct_of (a ∷ [])) ≡ true
found_alone a [] row found = found
found_alone a (b ∷ []) row found = (and_parts (is_other (class_of a b)) _ row).1
found_alone a (b ∷ c ∷ []) row found = (and_parts (is_other (class_of a b)) _ row).1
found_alone a (b ∷ c ∷ d ∷ more) row found = absurd (true≢false (sym row))

-- and its first byte is one too
pub row_alone : (a : ℕ) (s : List ℕ) (p : Punct) → punct_of (a ∷ s) ≡ Some p → punct_of (a ∷ []) ≡ None → ⊥
row_alone a s p e none =
    true≢false (sym (found_alone a s (row_is (a ∷ s) p e) (ap is_found e)) ∙ ap is_found none)

pub dot_alone : is_found (punct_of (46 ∷ [])) ≡ true
unfolding punct_of puncts
dot_alone = refl

pub slash_alone : is_found (punct_of (47 ∷ [])) ≡ true
unfolding punct_of puncts
slash_alone = refl
