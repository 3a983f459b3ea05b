-- Words with one space between are the words of their line.
use Rattle.std.proofs.Common.{◌≡◌, ℕ, ◌<◌, Bool, true, false, not, ◌&&◌, ◌||◌, eqb, ltb, List, [], ◌∷◌, ◌++◌, length, refl, ap, arith}
use Rattle.std.proofs.lemmas.Bool.{and_parts, and_from, or_from, lt-ltb, ltb-true, ne_eqb}
use Rattle.std.proofs.lemmas.Str.{IsUtf8-append, IsUtf8-nil}
use Rattle.std.specs.List.{list_all, flat_map, AllByRecursion}
use Rattle.std.specs.Str.{IsUtf8}
use Rattle.gsl_instr.specs.Strings.{IsText}
use Rattle.gsl_asm.specs.declared.word.Word.{Word}
use Rattle.gsl_asm.specs.declared.word.Word.TheVariants.{Plain, Quoted}
use Rattle.gsl_asm.specs.Words.{is_plain, quoted, ends, Spells}
use Rattle.gsl_asm.specs.Texts.{HasWords}
use Rattle.gsl_asm.proofs.Ascii.{ascii_text}
use Rattle.gsl_asm.proofs.Quoting.{is_clean, all_append, clean_zero, quoted_utf8, clean_quoted}

-- how a word is written
abbrev pub word_text : Word → List ℕ
word_text (Plain word) = word
word_text (Quoted text) = quoted text

-- A word may stand in a line.
pub record Fine (word : Word) : Type 0 where
  pub clean : list_all is_clean (word_text word) ≡ true
  pub utf8 : IsUtf8 (word_text word)
  pub spelled : (rest : List ℕ) (words : List Word) → ends rest ≡ true → Spells rest words → Spells (word_text word ++ rest) (word ∷ words)

-- a printed character that is no `;` and no quote
abbrev pub is_graphic : ℕ → Bool
is_graphic b = ltb 32 b && (ltb b 127 && not (eqb b 59 || eqb b 34))

-- what such a character is
record Graphic (b : ℕ) : Type 0 where
  plain : is_plain b ≡ true
  low : ltb b 128 ≡ true
  clean : is_clean b ≡ true

graphic : (b : ℕ) → is_graphic b ≡ true → Graphic b
graphic b e =
    let p = and_parts (ltb 32 b) _ e in
    let q = and_parts (ltb b 127) _ p.1 in
    let above : 32 < b = ltb-true _ _ p.0 in
    let below : b < 127 = ltb-true _ _ q.0 in
    record { plain = plain above q.1; low = lt-ltb _ _ (omega arith); clean = ap not (or_from _ _ (or_from _ _ (ne_eqb b 10 (λ s. omega arith)) (ne_eqb b 13 (λ s. omega arith))) (ne_eqb b 0 (λ s. omega arith))) }
  where
    regroup : (a b c : Bool) → a ≡ false → not (b || c) ≡ true → not (a || b || c) ≡ true
    regroup false false false e f = refl
    regroup false false true e f = absurd (cc)
    regroup false true c e f = absurd (cc)
    regroup true b c e f = absurd (cc)

    plain : 32 < b → not (eqb b 59 || eqb b 34) ≡ true → is_plain b ≡ true
    plain above other = regroup (eqb b 32 || eqb b 9) (eqb b 59) (eqb b 34) (or_from _ _ (ne_eqb b 32 (λ s. omega arith)) (ne_eqb b 9 (λ s. omega arith))) other

all_graphic : (test : ℕ → Bool) (bytes : List ℕ) → ((b : ℕ) → Graphic b → test b ≡ true) → list_all is_graphic bytes ≡ true → list_all test bytes ≡ true
all_graphic test [] each all = refl
all_graphic test (b ∷ bytes) each all = let p = and_parts (is_graphic b) _ all in and_from _ _ (each b (graphic b p.0)) (all_graphic test bytes each p.1)

pub fine_plain : (word : List ℕ) → 0 < length word → list_all is_graphic word ≡ true → Fine (Plain word)
fine_plain [] some all = absurd (omega arith)
fine_plain (b ∷ word) some all =
    let p = and_parts (is_graphic b) _ all in
    record {
      clean = all_graphic is_clean (b ∷ word) (λ c g. g.clean) all;
      utf8 = ascii_text (b ∷ word) (all_graphic (λ c. ltb c 128) (b ∷ word) (λ c g. g.low) all);
      spelled = λ rest words e later. Spells.plain b word rest (b ∷ (word ++ rest)) words (graphic b p.0).plain (all_graphic is_plain word (λ c g. g.plain) p.1) e refl later;
    }

pub fine_quoted : (text : List ℕ) → IsText text → Fine (Quoted text)
fine_quoted text is = record { clean = clean_quoted text is.1; utf8 = quoted_utf8 text is.0; spelled = λ rest words e later. Spells.string text rest (quoted text ++ rest) words e refl later }

-- words, each behind a space
abbrev pub spaced : List Word → List ℕ
spaced words = flat_map (λ word. 32 ∷ word_text word) words

-- a first word and others
abbrev pub joined : Word → List Word → List ℕ
joined word words = word_text word ++ spaced words

ends_spaced : (words : List Word) → ends (spaced words) ≡ true
ends_spaced [] = refl
ends_spaced (word ∷ words) = refl

spaced_spelled : (words : List Word) → AllByRecursion Fine words → Spells (spaced words) words
spaced_spelled [] all = Spells.end
spaced_spelled (word ∷ words) all = Spells.blank 32 (word_text word ++ spaced words) (word ∷ words) refl (all.0.spelled (spaced words) words (ends_spaced words) (spaced_spelled words all.1))

spaced_clean : (words : List Word) → AllByRecursion Fine words → list_all is_clean (spaced words) ≡ true
spaced_clean [] all = refl
spaced_clean (word ∷ words) all = all_append is_clean (32 ∷ word_text word) (spaced words) all.0.clean (spaced_clean words all.1)

spaced_utf8 : (words : List Word) → AllByRecursion Fine words → IsUtf8 (spaced words)
spaced_utf8 [] all = IsUtf8-nil
spaced_utf8 (word ∷ words) all = IsUtf8-append (32 ∷ word_text word) (spaced words) (IsUtf8-append (32 ∷ []) (word_text word) (ascii_text (32 ∷ []) refl) all.0.utf8) (spaced_utf8 words all.1)

pub joined_clean : (word : Word) (words : List Word) → Fine word → AllByRecursion Fine words → list_all is_clean (joined word words) ≡ true
joined_clean word words fine all = all_append is_clean (word_text word) (spaced words) fine.clean (spaced_clean words all)

-- a line has the words that it was made of
pub has_words : (word : Word) (words : List Word) → Fine word → AllByRecursion Fine words → HasWords (joined word words) (word ∷ words)
has_words word words fine all = record {
  utf8 = IsUtf8-append (word_text word) (spaced words) fine.utf8 (spaced_utf8 words all);
  nonzero = clean_zero (joined word words) (joined_clean word words fine all);
  spelled = fine.spelled (spaced words) words (ends_spaced words) (spaced_spelled words all);
}
