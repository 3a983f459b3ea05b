-- Each text has one cutting.
use Rattle.std.proofs.Common.{◌≡◌, ℕ, zero, suc, ◌≤◌, inl, inr, List, [], ◌∷◌, ◌++◌, length, Some, None, Ok, Err, refl, ap, sym, subst, ◌∙◌, arith, length-append, append_assoc}
use Rattle.std.proofs.lemmas.Bool.{true≢false}
use Rattle.gsl_base.specs.declared.token.RawKind.TheVariants as kind
use Rattle.gsl_lex.specs.declared.text.Char.{Char}
use Rattle.gsl_lex.specs.declared.piece.Lexeme.{Lexeme}
use Rattle.gsl_lex.specs.declared.piece.Lexeme.TheVariants.{LineEnd, Blank, Token}
use Rattle.gsl_lex.specs.Reading.{read, class_of, next_of}
use Rattle.gsl_lex.specs.Pieces.{IsStray, IsPiece}
use Rattle.gsl_lex.specs.Cut.{Piece, bytes_of, chars_of, Unclosed, Longest, CutTo, Cutting, IsCutting}
use Rattle.gsl_lex.specs.Reading.{put, cut_from}
use Rattle.gsl_lex.proofs.Classes.{some_bytes}
use Rattle.gsl_lex.proofs.Best.{Sound, Within}
use Rattle.gsl_lex.proofs.Marks.{bytes_len, same_prefix}
use Rattle.gsl_lex.proofs.Sound.{sound, unclosed_is, unclosed_reads, pieces_within}
use Rattle.gsl_lex.proofs.Loops.{cut_step, cut_stop, piece_on}

no_empty_stray : (what : Lexeme) → IsStray what [] → ⊥
no_empty_stray LineEnd is = is
no_empty_stray Blank is = is
no_empty_stray (Token (kind.Word text)) is = is
no_empty_stray (Token (kind.Number text)) is = is
no_empty_stray (Token (kind.Punct p)) is = is
no_empty_stray (Token (kind.Stray a)) (same, none) = cc

pub no_empty : (what : Lexeme) → IsPiece what [] → ⊥
no_empty what (inl formed) = some_bytes what formed
no_empty what (inr stray) = no_empty_stray what stray

within_len : (what other : Lexeme) (spelled s : List ℕ) → Within what spelled other s → length s ≤ length spelled
within_len what other spelled s (inl less) = omega (arith, less)
within_len what other spelled s (inr same) = omega (arith, ap length same.0)

-- no first part of the text is longer than what is read
longest_on : (c : Char) (text : List Char) (what : Lexeme) (rest : List Char) (met : Sound (class_of c.byte (next_of text)) c.byte text what rest) (other : Lexeme) (front later : List Char) →
    c ∷ met.front ++ rest ≡ front ++ later → IsPiece other (bytes_of front) → length front ≤ suc (length met.front)
longest_on c text what rest met other [] later whole is = omega arith
longest_on c text what rest met other (d ∷ front) later whole is =
    let head : c ≡ d = cc in
    let tail : met.front ++ rest ≡ front ++ later = cc in
    let P : Char → Type 0 = λ x. IsPiece other (x.byte ∷ bytes_of front) in
    let within = pieces_within c text what rest met other front later (met.whole ∙ tail) (subst P (sym head) is) in
    omega (arith, within_len what other _ _ within, bytes_len front, bytes_len met.front)

pub read_longest : (c : Char) (text : List Char) (what : Lexeme) (rest : List Char) (met : Sound (class_of c.byte (next_of text)) c.byte text what rest) → Longest (record { what = what; chars = c ∷ met.front }) rest
read_longest c text what rest met = record { is = met.is; longest = longest_on c text what rest met }

-- what is read is the only piece that is the longest
same_what : (what other : Lexeme) (spelled s : List ℕ) → length s ≡ length spelled → Within what spelled other s → other ≡ what
same_what what other spelled s len (inl less) = absurd (omega (arith, len, less))
same_what what other spelled s len (inr same) = same.1

pub record Same (piece : Piece) (later : List Char) (what : Lexeme) (c : Char) (front rest : List Char) : Type 0 where
  pub what_is : piece.what ≡ what
  pub chars_are : piece.chars ≡ c ∷ front
  pub later_is : later ≡ rest

one_on : (c : Char) (text : List Char) (what : Lexeme) (rest : List Char) (met : Sound (class_of c.byte (next_of text)) c.byte text what rest) (other : Lexeme) (chars later : List Char) →
    c ∷ text ≡ chars ++ later → Longest (record { what = other; chars = chars }) later → Same (record { what = other; chars = chars }) later what c met.front rest
one_on c text what rest met other [] later whole longest = absurd (no_empty other longest.is)
one_on c text what rest met other (d ∷ chars) later whole longest =
    let head : c ≡ d = cc in
    let tail : text ≡ chars ++ later = cc in
    let P : Char → Type 0 = λ x. IsPiece other (x.byte ∷ bytes_of chars) in
    let within = pieces_within c text what rest met other chars later tail (subst P (sym head) longest.is) in
    let above = longest.longest what (c ∷ met.front) rest (sym whole ∙ ap (λ t. c ∷ t) met.whole) met.is in
    let len : length chars ≡ length met.front = omega (arith, within_len what other _ _ within, above, bytes_len chars, bytes_len met.front) in
    let same = same_prefix chars later met.front rest (sym tail ∙ met.whole) len in
    record {
      what_is = same_what what other (c.byte ∷ bytes_of met.front) (c.byte ∷ bytes_of chars) (omega (arith, len, bytes_len chars, bytes_len met.front)) within;
      chars_are = ap (λ x. x ∷ chars) (sym head) ∙ ap (λ t. c ∷ t) same.0;
      later_is = same.1;
    }

-- ---- the cutting that is computed is a cutting

not_unclosed : (c : Char) (text : List Char) (what : Lexeme) (rest : List Char) → read c.byte text ≡ Some (what, rest) → Unclosed (c ∷ text) → ⊥
not_unclosed c text what rest found bad = let none : read c.byte text ≡ None = unclosed_reads c text bad in cc

put_cutting : (piece : Piece) (text later : List Char) (cutting : Cutting) → text ≡ piece.chars ++ later → Longest piece later → (Unclosed text → ⊥) → IsCutting later cutting → IsCutting text (put piece cutting)
put_cutting piece text later (Ok pieces) whole longest closed is = (later, whole, longest, closed, is)
put_cutting piece text later (Err rest) whole longest closed (pieces, cut, bad) = (piece ∷ pieces, (later, whole, longest, closed, cut), bad)

cut_of_len : (n : ℕ) (text : List Char) → length text ≤ n → IsCutting text (cut_from text 0)
unfolding cut_from piece_on
cut_of_len n [] few = refl
cut_of_len zero (c ∷ text) few = absurd (omega (arith, few))
cut_of_len (suc n) (c ∷ text) few =
    elim (read c.byte text) as (λ found. read c.byte text ≡ found → IsCutting (c ∷ text) (cut_from (c ∷ text) 0)) [
      | None ↦ λ none.
          let bad = unclosed_is c text none in
          subst (IsCutting (c ∷ text)) (sym (cut_stop c text none)) ([], refl, bad)
      | Some x ↦ λ found.
          let met = sound c.byte text x.0 x.1 found in
          let piece : Piece = record { what = x.0; chars = c ∷ met.front } in
          let later = cut_of_len n x.1 (omega (arith, few, ap length met.whole ∙ length-append met.front x.1)) in
          subst (IsCutting (c ∷ text)) (sym (cut_step c text x.0 met.front x.1 found met.whole))
          (put_cutting piece (c ∷ text) x.1 (cut_from x.1 0) (ap (λ t. c ∷ t) met.whole) (read_longest c text x.0 x.1 met) (not_unclosed c text x.0 x.1 found) later)
    ] refl

pub some_cutting : (text : List Char) → IsCutting text (cut_from text 0)
some_cutting text = cut_of_len (length text) text (omega arith)

-- ---- and there is no other

puts : List Piece → Cutting → Cutting
puts [] cutting = cutting
puts (piece ∷ pieces) cutting = put piece (puts pieces cutting)

abbrev pub piece_of : Lexeme → List Char → Piece
piece_of what chars = record { what = what; chars = chars }

no_chars : (what : Lexeme) (chars later : List Char) → [] ≡ chars ++ later → IsPiece what (bytes_of chars) → ⊥
no_chars what [] later whole is = no_empty what is
no_chars what (c ∷ chars) later whole is = cc

piece_step : (c : Char) (text : List Char) (piece : Piece) (later : List Char) → c ∷ text ≡ piece.chars ++ later → Longest piece later → (Unclosed (c ∷ text) → ⊥) → cut_from (c ∷ text) 0 ≡ put piece (cut_from later 0)
unfolding piece_on
piece_step c text piece later whole longest closed =
    elim (read c.byte text) as (λ found. read c.byte text ≡ found → cut_from (c ∷ text) 0 ≡ put piece (cut_from later 0)) [
      | None ↦ λ none. absurd (closed (unclosed_is c text none))
      | Some x ↦ λ found.
          let met = sound c.byte text x.0 x.1 found in
          let same = one_on c text x.0 x.1 met piece.what piece.chars later whole longest in
          let pieces : record { what = x.0; chars = c ∷ met.front } ≡ piece = ap (λ w. piece_of w (c ∷ met.front)) (sym same.what_is) ∙ ap (piece_of piece.what) (sym same.chars_are) in
          cut_step c text x.0 met.front x.1 found met.whole ∙ ap (λ p. put p (cut_from x.1 0)) pieces ∙ ap (λ t. put piece (cut_from t 0)) (sym same.later_is)
    ] refl

step_on : (text : List Char) (piece : Piece) (later : List Char) → text ≡ piece.chars ++ later → Longest piece later → (Unclosed text → ⊥) → cut_from text 0 ≡ put piece (cut_from later 0)
step_on [] piece later whole longest closed = absurd (no_chars piece.what piece.chars later whole longest.is)
step_on (c ∷ text) piece later whole longest closed = piece_step c text piece later whole longest closed

cut_is : (pieces : List Piece) (text rest : List Char) → CutTo pieces text rest → cut_from text 0 ≡ puts pieces (cut_from rest 0)
unfolding puts
cut_is [] text rest same = ap (λ t. cut_from t 0) same
cut_is (piece ∷ pieces) text rest (later, whole, longest, closed, cut) = step_on text piece later whole longest closed ∙ ap (put piece) (cut_is pieces later rest cut)

puts_ok : (pieces : List Piece) → puts pieces (Ok []) ≡ Ok pieces
unfolding puts
puts_ok [] = refl
puts_ok (piece ∷ pieces) = ap (put piece) (puts_ok pieces)

puts_err : (pieces : List Piece) (rest : List Char) → puts pieces (Err rest) ≡ Err rest
unfolding puts
puts_err [] rest = refl
puts_err (piece ∷ pieces) rest = ap (put piece) (puts_err pieces rest)

stops_at : (rest : List Char) → Unclosed rest → cut_from rest 0 ≡ Err rest
stops_at [] bad = absurd (true≢false (sym bad.opened))
stops_at (c ∷ rest) bad = cut_stop c rest (unclosed_reads c rest bad)

cutting_is : (text : List Char) (cutting : Cutting) → IsCutting text cutting → cut_from text 0 ≡ cutting
unfolding cut_from
cutting_is text (Ok pieces) cut = cut_is pieces text [] cut ∙ puts_ok pieces
cutting_is text (Err rest) (pieces, cut, bad) = cut_is pieces text rest cut ∙ ap (puts pieces) (stops_at rest bad) ∙ puts_err pieces rest

pub one_cutting : (text : List Char) (a b : Cutting) → IsCutting text a → IsCutting text b → a ≡ b
one_cutting text a b as_a as_b = sym (cutting_is text a as_a) ∙ cutting_is text b as_b

-- the pieces put together, and the rest, are the text
pub pieces_are_text : (pieces : List Piece) (text rest : List Char) → CutTo pieces text rest → text ≡ chars_of pieces ++ rest
pieces_are_text [] text rest same = same
pieces_are_text (piece ∷ pieces) text rest (later, whole, longest, closed, cut) =
    whole ∙ ap (λ t. piece.chars ++ t) (pieces_are_text pieces later rest cut) ∙ sym (append_assoc piece.chars (chars_of pieces) rest)
