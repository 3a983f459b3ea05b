-- How the code searches the tables: among spellings of as many bytes, under the letter that a word begins with, and by the two parts
-- of a word. This is not the rule, which stands in `Tables.antt`.
use Rattle.std.specs.Prelude.{◌≡◌, ℕ, ◌+◌, Bool, true, false, ◌==◌, ◌&&◌, ◌||◌, nat_le, List, [], ◌∷◌, length, Option, Some, None, if◌then◌else◌}
use Rattle.std.specs.List.{filter, slice_get}
use Rattle.gsl_base.specs.Prefix.{after}
use Rattle.gsl_lex.specs.Ascii.{plus, dash, lower_a, lower_z}
use Rattle.gsl_lex.specs.Bytes.{first_of}
use Rattle.gsl_lex.specs.Tables.{among}

-- whether the byte is one of `a` to `z`
abbrev pub is_lower : ℕ → Bool
is_lower byte = nat_le lower_a byte && nat_le byte lower_z

-- whether the byte is one of those that print, but no space
abbrev pub is_mark : ℕ → Bool
is_mark byte = nat_le 33 byte && nat_le byte 126

-- whether the byte is one of `+ - < = > & ^ |`
abbrev pub is_second : ℕ → Bool
is_second byte = byte == plus || byte == dash || byte == 60 || byte == 61 || byte == 62 || byte == 38 || byte == 94 || byte == 124

-- The item stands at this index.
pub record IsAt {A : Type 0} (items : List A) (i : ℕ) (item : A) : Type 0 where
  pub is : slice_get items i ≡ Some item

-- the rows whose spelling has so many bytes
abbrev pub of_len : {A : Type 0} → ℕ → List (List ℕ × A) → List (List ℕ × A)
of_len n rows = filter (λ row. length row.0 == n) rows

-- the rows whose word begins with the letter of this number, `a` being 0
abbrev pub under : {A : Type 0} → (A → List ℕ) → List A → ℕ → List A
under spelled rows letter = filter (λ row. first_of (spelled row) == lower_a + letter) rows

abbrev pub among_after : List (List ℕ) → Option (List ℕ) → Bool
among_after tails None = false
among_after tails (Some tail) = among tails tail

-- whether the word is the text and one of the tails
abbrev pub is_joint : List ℕ → List (List ℕ) → List ℕ → Bool
is_joint head tails word = among_after tails (after head word)

-- whether the word is one of the heads and one of the tails
abbrev pub of_family : List (List ℕ) → List (List ℕ) → List ℕ → Bool
of_family [] tails word = false
of_family (head ∷ heads) tails word = if is_joint head tails word then true else of_family heads tails word
