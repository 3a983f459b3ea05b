-- How a manifest may be spelled: which bytes are a text of which lines, and which lines say what. This is the rule of the format;
-- `Numbers.antt`, `Fields.antt` and `Meanings.antt`, and the lines and digits of `gsl_text`, compute what it says: the law `spelled_and_read`.
use Rattle.std.specs.Prelude.{◌≡◌, ℕ, ◌-◌, ◌%◌, ◌^◌, ◌<◌, ◌≤◌, ◌==◌, false, IsTrue, List, [], ◌∷◌, ◌++◌, length, codes, slice_index_or, ◌≢◌, ⊤}
use Rattle.std.specs.List.{list_any, AllByRecursion}
use Rattle.std.specs.Str.{is_utf8}
use Rattle.std.specs.Str.Parse.{AllDigits, digits_value}
use Rattle.std.specs.Fmt.{decimal}
use Rattle.gsl_manifest.specs.declared.meaning.Meaning.{Meaning}
use Rattle.gsl_manifest.specs.declared.meaning.Meaning.TheVariants.{Nothing, Buffer, Push, In, Group, Local, Groups, Vertex, Instance, Choice, Steps}
use Rattle.gsl_text.specs.Lines.{without_cr}
use Rattle.gsl_manifest.specs.Meanings.{most_steps}

-- One space or more.
pub record IsGap (gap : List ℕ) : Type 0 where
  pub some : 0 < length gap
  pub spaces : AllByRecursion (λ byte. byte ≡ 32) gap

-- Text that begins with no space.
pub record IsPathText (path : List ℕ) : Type 0 where
  pub some : 0 < length path
  pub text : IsTrue (is_utf8 path)
  pub begins : slice_index_or path 0 32 ≢ 32

-- The field writes a word without sign: in decimal, with no zero in front, or in hexadecimal behind `0x`, in digits of either case.
pub data WritesUnsigned : List ℕ → ℕ → Type 0 where
  decimal_digits : (n : ℕ) → n < 2 ^ 32 → WritesUnsigned (decimal n) n
  hexadecimal : (digits : List ℕ) → 0 < length digits → AllDigits 16 digits → digits_value 16 digits < 2 ^ 32
      → WritesUnsigned (codes "0x" ++ digits) (digits_value 16 digits)

-- The field writes a word: without sign, or `-` and the decimal digits of what it misses to 0, up to 2^31.
pub data WritesWord : List ℕ → ℕ → Type 0 where
  unsigned : {field : List ℕ} {n : ℕ} → WritesUnsigned field n → WritesWord field n
  negative : (n : ℕ) → n ≤ 2 ^ 31 → WritesWord (codes "-" ++ decimal n) ((2 ^ 32 - n) % 2 ^ 32)

-- Fields, each behind one space or more, write these words.
pub data WritesWords : List ℕ → List ℕ → Type 0 where
  none : WritesWords [] []
  more : {gap field rest : List ℕ} {n : ℕ} {ns : List ℕ} → IsGap gap → WritesWord field n → WritesWords rest ns → WritesWords (gap ++ (field ++ rest)) (n ∷ ns)

-- The line says this.
pub data Spells : List ℕ → Meaning → Type 0 where
  empty : Spells [] Nothing
  comment : (text : List ℕ) → IsTrue (is_utf8 (codes "#" ++ text)) → Spells (codes "#" ++ text) Nothing
  buffer : {a b c first second path : List ℕ} {set binding : ℕ} → IsGap a → WritesUnsigned first set → IsGap b → WritesUnsigned second binding → IsGap c → IsPathText path
      → Spells (codes "buffer" ++ (a ++ (first ++ (b ++ (second ++ (c ++ path)))))) (Buffer set binding path)
  push : {a path : List ℕ} → IsGap a → IsPathText path → Spells (codes "push" ++ (a ++ path)) (Push path)
  values : {a first rest words : List ℕ} {location : ℕ} → IsGap a → WritesUnsigned first location → WritesWords rest words → 1 ≤ length words → length words ≤ 4
      → Spells (codes "in" ++ (a ++ (first ++ rest))) (In location words)
  group : {rest ids : List ℕ} → WritesWords rest ids → length ids ≡ 3 → Spells (codes "group" ++ rest) (Group ids)
  local : {rest ids : List ℕ} → WritesWords rest ids → length ids ≡ 3 → Spells (codes "local" ++ rest) (Local ids)
  groups : {rest ids : List ℕ} → WritesWords rest ids → length ids ≡ 3 → Spells (codes "groups" ++ rest) (Groups ids)
  vertex : {rest : List ℕ} {id : ℕ} → WritesWords rest (id ∷ []) → Spells (codes "vertex" ++ rest) (Vertex id)
  instance : {rest : List ℕ} {id : ℕ} → WritesWords rest (id ∷ []) → Spells (codes "instance" ++ rest) (Instance id)
  choice : {rest words : List ℕ} → WritesWords rest words → 1 ≤ length words → Spells (codes "choice" ++ rest) (Choice words)
  steps : {a field : List ℕ} {n : ℕ} → IsGap a → WritesUnsigned field n → n ≤ most_steps → Spells (codes "steps" ++ (a ++ field)) (Steps n)

-- The lines say these.
abbrev pub SpellAll : List (List ℕ) → List Meaning → Type 0
SpellAll [] [] = ⊤
SpellAll [] (m ∷ says) = ⊥
SpellAll (line ∷ lines) [] = ⊥
SpellAll (line ∷ lines) (m ∷ says) = Spells line m × SpellAll lines says

-- The bytes are a text of these lines. An LF ends each, or CR LF does; only the last may end where the text ends.
pub data IsText : List ℕ → List (List ℕ) → Type 0 where
  nothing : IsText [] []
  last : (line : List ℕ) → 0 < length line → list_any (λ byte. byte == 10) line ≡ false → IsText line (line ∷ [])
  lf : (line : List ℕ) {rest : List ℕ} {lines : List (List ℕ)} → list_any (λ byte. byte == 10) line ≡ false → without_cr line ≡ line → IsText rest lines
      → IsText (line ++ 10 ∷ rest) (line ∷ lines)
  cr_lf : (line : List ℕ) {rest : List ℕ} {lines : List (List ℕ)} → list_any (λ byte. byte == 10) line ≡ false → IsText rest lines
      → IsText (line ++ 13 ∷ (10 ∷ rest)) (line ∷ lines)
