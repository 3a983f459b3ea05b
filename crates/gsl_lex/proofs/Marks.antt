-- Punctuators and stray bytes: the longest is read, and a byte is stray only where it begins nothing.
use Rattle.std.proofs.Common.{◌≡◌, ℕ, suc, ◌<◌, ◌≤◌, true, false, ◌⊎◌, inl, inr, List, [], ◌∷◌, ◌++◌, length, drop, Option, Some, None, refl, ap, sym, ◌∙◌, arith, eqb, ltb}
use Rattle.std.specs.Char.{is_ascii_digit}
use Rattle.std.specs.Option.{option_map}
use Rattle.std.proofs.lemmas.Bool.{and_parts, or_parts, or_cases, eqb-true, eq-eqb, ltb-true, ltb-false, true≢false}
use Rattle.gsl_base.specs.declared.token.RawKind.TheVariants as kind
use Rattle.gsl_base.specs.declared.token.Punct.{Punct}
use Rattle.gsl_lex.specs.declared.text.Char.{Char}
use Rattle.gsl_lex.specs.declared.piece.Class.{Class}
use Rattle.gsl_lex.specs.declared.piece.Class.TheVariants as class
use Rattle.gsl_lex.specs.declared.piece.Lexeme.{Lexeme}
use Rattle.gsl_lex.specs.declared.piece.Lexeme.TheVariants.{Token}
use Rattle.gsl_lex.specs.Bytes.{first_of}
use Rattle.gsl_lex.specs.Tables.{punct_of}
use Rattle.gsl_lex.specs.Reading.{class_of, next_of, punct_at, three_at, two_at, one_at, or_else}
use Rattle.gsl_lex.specs.Pieces.{IsFormed}
use Rattle.gsl_lex.specs.Cut.{bytes_of}
use Rattle.gsl_lex.proofs.Punctuators.{is_found, row_len, row_alone, dot_alone, slash_alone}
use Rattle.gsl_lex.proofs.Fronts.{Spelled, three_front, two_front, one_front, some_is}
use Rattle.gsl_lex.proofs.Classes.{Facts, facts_of, Kin, kin}
use Rattle.gsl_lex.proofs.Best.{Within, Sound, bytes_append}

-- first parts of one length are the same
pub same_prefix : {A : Type 0} (s r s' r' : List A) → s ++ r ≡ s' ++ r' → length s ≡ length s' → (s ≡ s') × (r ≡ r')
same_prefix [] r [] r' e len = (refl, e)
same_prefix [] r (y ∷ s') r' e len = absurd (omega arith)
same_prefix (x ∷ s) r [] r' e len = absurd (omega arith)
same_prefix (x ∷ s) r (y ∷ s') r' e len =
    let head : x ≡ y = cc in
    let tail : s ++ r ≡ s' ++ r' = cc in
    let later = same_prefix s r s' r' tail (omega arith) in
    let front : s ≡ s' = later.0 in
    (cc, later.1)

pub bytes_len : (text : List Char) → length (bytes_of text) ≡ length text
bytes_len [] = refl
bytes_len (c ∷ text) = ap suc (bytes_len text)

-- ---- where a punctuator stands, the reading of its length finds it

one_gives : (a : ℕ) (text : List Char) (p : Punct) → punct_of (a ∷ []) ≡ Some p → one_at a text ≡ Some (p, text)
one_gives a text p found = ap (option_map {U = Punct × List Char} (λ q. (q, text))) found

two_gives : (a b : ℕ) (text : List Char) (r : List ℕ) (p : Punct) → bytes_of text ≡ b ∷ r → punct_of (a ∷ b ∷ []) ≡ Some p → two_at a text ≡ Some (p, drop 1 text)
two_gives a b [] r p whole found = absurd (cc)
two_gives a b (c ∷ text) r p whole found =
    let byte : c.byte ≡ b = cc in
    ap (option_map {U = Punct × List Char} (λ q. (q, text))) (ap (λ x. punct_of (a ∷ x ∷ [])) byte ∙ found)

three_gives : (a b d : ℕ) (text : List Char) (r : List ℕ) (p : Punct) → bytes_of text ≡ b ∷ d ∷ r → punct_of (a ∷ b ∷ d ∷ []) ≡ Some p → three_at a text ≡ Some (p, drop 2 text)
three_gives a b d [] r p whole found = absurd (cc)
three_gives a b d (c ∷ []) r p whole found = absurd (cc)
three_gives a b d (c ∷ e ∷ text) r p whole found =
    let first : c.byte ≡ b = cc in
    let second : e.byte ≡ d = cc in
    ap (option_map {U = Punct × List Char} (λ q. (q, text))) (ap (λ x. punct_of (a ∷ x ∷ e.byte ∷ [])) first ∙ ap (λ x. punct_of (a ∷ b ∷ x ∷ [])) second ∙ found)

-- No punctuator of the text goes on for more than n bytes after its first.
abbrev pub NoLonger : ℕ → ℕ → List Char → Type 0
NoLonger n a text = (s r : List ℕ) (p : Punct) → bytes_of text ≡ s ++ r → punct_of (a ∷ s) ≡ Some p → length s ≤ n

never_three : (a : ℕ) (text : List Char) → three_at a text ≡ None → NoLonger 1 a text
never_three a text none [] r p whole found = omega arith
never_three a text none (b ∷ []) r p whole found = omega arith
never_three a text none (b ∷ d ∷ []) r p whole found =
    let there : three_at a text ≡ Some (p, drop 2 text) = three_gives a b d text r p whole found in absurd (cc)
never_three a text none (b ∷ d ∷ e ∷ more) r p whole found = absurd (omega (arith, row_len a (b ∷ d ∷ e ∷ more) p found))

never_two : (a : ℕ) (text : List Char) → three_at a text ≡ None → two_at a text ≡ None → NoLonger 0 a text
never_two a text none nor [] r p whole found = omega arith
never_two a text none nor (b ∷ []) r p whole found =
    let there : two_at a text ≡ Some (p, drop 1 text) = two_gives a b text r p whole found in absurd (cc)
never_two a text none nor (b ∷ d ∷ more) r p whole found = absurd (omega (arith, never_three a text none (b ∷ d ∷ more) r p whole found))

less_or_same : (m n : ℕ) → m ≤ n → (m < n) ⊎ (m ≡ n)
less_or_same m n le = elim (ltb m n) as (λ b. ltb m n ≡ b → (m < n) ⊎ (m ≡ n)) [ true ↦ λ e. inl (ltb-true m n e) | false ↦ λ e. inr (omega (arith, ltb-false m n e, le)) ] refl

mark_best : (n a : ℕ) (text : List Char) (q : Punct) (rest : List Char) (met : Spelled n a text q rest) → NoLonger n a text → (other : Lexeme) (s r : List ℕ) → bytes_of text ≡ s ++ r →
    Kin class.Other a other (a ∷ s) → Within (Token (kind.Punct q)) (a ∷ bytes_of met.front) other (a ∷ s)
mark_best n a text q rest met longest other s r whole (p, same, found) =
    let len : length (bytes_of met.front) ≡ n = bytes_len met.front ∙ met.count in
    elim (less_or_same (length s) n (longest s r p whole found)) [
      | inl less ↦ inl (omega (arith, less, len))
      | inr more ↦
          let here : s ≡ bytes_of met.front = (same_prefix s r (bytes_of met.front) (bytes_of rest) (sym whole ∙ ap bytes_of met.whole ∙ bytes_append met.front rest) (more ∙ sym len)).0 in
          let one : p ≡ q = some_is p q (sym found ∙ ap (λ t. punct_of (a ∷ t)) here ∙ met.spelled) in
          inr (ap (λ t. a ∷ t) here, same ∙ ap (λ x. Token (kind.Punct x)) one)
    ]

sound_mark : (n a : ℕ) (text : List Char) (q : Punct) (rest : List Char) → Spelled n a text q rest → NoLonger n a text → Sound class.Other a text (Token (kind.Punct q)) rest
sound_mark n a text q rest met longest = record {
  front = met.front;
  whole = met.whole;
  is = inl met.spelled;
  best = mark_best n a text q rest met longest;
}

pub sound_punct : (a : ℕ) (text : List Char) (q : Punct) (rest : List Char) → punct_at a text ≡ Some (q, rest) → Sound class.Other a text (Token (kind.Punct q)) rest
unfolding punct_at
sound_punct a text q rest e =
    elim (three_at a text) as (λ f. three_at a text ≡ f → or_else f (or_else (two_at a text) (one_at a text)) ≡ Some (q, rest) → Sound class.Other a text (Token (kind.Punct q)) rest) [
      | Some x ↦ λ here found. sound_mark 2 a text q rest (three_front a text q rest (here ∙ found)) (λ s r p whole is. row_len a s p is)
      | None ↦ λ here found.
          elim (two_at a text) as (λ f. two_at a text ≡ f → or_else f (one_at a text) ≡ Some (q, rest) → Sound class.Other a text (Token (kind.Punct q)) rest) [
            | Some x ↦ λ there got. sound_mark 1 a text q rest (two_front a text q rest (there ∙ got)) (never_three a text here)
            | None ↦ λ there got. sound_mark 0 a text q rest (one_front a text q rest got) (never_two a text here there)
          ] refl found
    ] refl e

-- ---- stray bytes

unmapped : (text : List Char) (found : Option Punct) → option_map {U = Punct × List Char} (λ p. (p, text)) found ≡ None → found ≡ None
unmapped text None e = refl
unmapped text (Some p) e = absurd (cc)

alone_none : (a : ℕ) (text : List Char) → punct_at a text ≡ None → punct_of (a ∷ []) ≡ None
unfolding punct_at
alone_none a text e =
    elim (three_at a text) as (λ f. or_else f (or_else (two_at a text) (one_at a text)) ≡ None → punct_of (a ∷ []) ≡ None) [
      | Some x ↦ λ found. absurd (cc)
      | None ↦ λ found.
          elim (two_at a text) as (λ f. or_else f (one_at a text) ≡ None → punct_of (a ∷ []) ≡ None) [
            | Some x ↦ λ got. absurd (cc)
            | None ↦ λ got. unmapped text _ got
          ] found
    ] e

no_mark : (a v : ℕ) → a ≡ v → is_found (punct_of (v ∷ [])) ≡ true → punct_of (a ∷ []) ≡ None → ⊥
no_mark a v same found none = true≢false (sym found ∙ ap (λ x. is_found (punct_of (x ∷ []))) (sym same) ∙ ap is_found none)

-- a byte of no class that is no punctuator begins no piece of any class
begins_none : (a n m : ℕ) (what : Lexeme) (s : List ℕ) (k : Class) → Facts class.Other a n → punct_of (a ∷ []) ≡ None → Facts k a m → Kin k a what (a ∷ s) → ⊥
begins_none a n m what s class.LineEnd (one, two, three, four) none f is = true≢false (sym (eq-eqb a 10 f) ∙ one)
begins_none a n m what s class.Space (one, two, three, four) none f is = true≢false (sym f ∙ two)
begins_none a n m what s class.Word (one, two, three, four) none f is = true≢false (sym f ∙ three)
begins_none a n m what s class.Number (one, two, three, four) none f is =
    elim (or_cases (is_ascii_digit a) _ f) [
      | inl digit ↦ true≢false (sym digit ∙ (or_parts (is_ascii_digit a) _ four).0)
      | inr point ↦ no_mark a 46 (eqb-true a 46 (and_parts (eqb a 46) _ point).0) dot_alone none
    ]
begins_none a n m what s class.LineComment (one, two, three, four) none f is = no_mark a 47 f.0 slash_alone none
begins_none a n m what s class.BlockComment (one, two, three, four) none f is = no_mark a 47 f.0 slash_alone none
begins_none a n m what s class.Other (one, two, three, four) none f (p, same, found) = row_alone a s p found none

pub stray_is : (a n : ℕ) → Facts class.Other a n → punct_of (a ∷ []) ≡ None → (what : Lexeme) (more : List ℕ) → IsFormed what (a ∷ more) → ⊥
stray_is a n facts none what more is =
    let m = first_of (more ++ []) in
    begins_none a n m what more (class_of a m) facts none (facts_of a m) (kin what a more [] is)

stray_best : (a : ℕ) (text : List Char) → punct_of (a ∷ []) ≡ None → (other : Lexeme) (s r : List ℕ) → bytes_of text ≡ s ++ r → Kin class.Other a other (a ∷ s) → Within (Token (kind.Stray a)) (a ∷ []) other (a ∷ s)
stray_best a text none other s r whole (p, same, found) = absurd (row_alone a s p found none)

pub sound_stray : (a : ℕ) (text : List Char) → Facts class.Other a (next_of text) → punct_at a text ≡ None → Sound class.Other a text (Token (kind.Stray a)) text
sound_stray a text facts none = record {
  front = [];
  whole = refl;
  is = inr (refl, stray_is a (next_of text) facts (alone_none a text none));
  best = stray_best a text (alone_none a text none);
}
