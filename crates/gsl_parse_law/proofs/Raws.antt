-- Words of a source have no zero byte, since each is made of letters, digits and `_`.
use Rattle.std.proofs.Common.{◌≡◌, refl, sym, ℕ, zero, suc, Bool, true, false, cond, ◌==◌, ◌&&◌, IsTrue, nat_lt, List, [], ◌∷◌, ◌++◌, drop, Option, Some, None, Ok, Err, arith}
use Rattle.std.specs.List.{AllByRecursion, list_all}
use Rattle.std.proofs.lemmas.Bool.{lt-ltb, true≢false}
use Rattle.gsl_base.specs.declared.token.Punct.{Punct}
use Rattle.gsl_base.specs.declared.token.Raw.{Raw}
use Rattle.gsl_base.specs.declared.token.RawKind.{RawKind}
use Rattle.gsl_base.specs.declared.token.RawKind.TheVariants as raw
use Rattle.gsl_base.specs.Checked.{Checked}
use Rattle.gsl_lex.specs.declared.text.Char.{Char}
use Rattle.gsl_lex.specs.declared.piece.Class.{Class}
use Rattle.gsl_lex.specs.declared.piece.Class.TheVariants as class
use Rattle.gsl_lex.specs.declared.piece.Lexeme.{Lexeme}
use Rattle.gsl_lex.specs.declared.piece.Lexeme.TheVariants as piece
use Rattle.gsl_lex.specs.declared.piece.Run.TheVariants as run
use Rattle.gsl_lex.specs.Bytes.{is_letter, is_word_byte, is_space, begins_number}
use Rattle.gsl_lex.specs.Ascii.{line_feed, slash, star}
use Rattle.gsl_lex.specs.Cut.{Piece, Cutting}
use Rattle.gsl_lex.specs.Lines.{text_of}
use Rattle.gsl_lex.specs.Raws.{is_space as is_gap, line_of, starts_after, tokens_of, raws_from, raws_on, raws_of}
use Rattle.gsl_lex.specs.Reading.{next_of, class_of, run_of, after_close, punct_at, Reading, mark, read_as, read, put, cut_on, cut_from}
use Rattle.gsl_parse_law.proofs.Phrases.{both}

-- a word without a zero byte, or no word
abbrev pub is_whole : RawKind → Bool
is_whole (raw.Word text) = list_all (λ byte. nat_lt 0 byte) text
is_whole (raw.Number text) = true
is_whole (raw.Punct punct) = true
is_whole (raw.Stray byte) = true

abbrev pub AreWhole : List Raw → Type 0
AreWhole raws = AllByRecursion (λ (r : Raw). IsTrue (is_whole r.kind)) raws

-- ---- bytes

letter_whole : (a : ℕ) → is_letter a ≡ true → IsTrue (nat_lt 0 a)
letter_whole zero h = absurd (true≢false (sym h))
letter_whole (suc a) h = lt-ltb 0 (suc a) (omega arith)

byte_whole : (a : ℕ) → is_word_byte a ≡ true → IsTrue (nat_lt 0 a)
byte_whole zero h = absurd (true≢false (sym h))
byte_whole (suc a) h = lt-ltb 0 (suc a) (omega arith)

run_by : (c : ℕ) (rest : List ℕ) (b : Bool) → is_word_byte c ≡ b → IsTrue (list_all (λ byte. nat_lt 0 byte) rest) → IsTrue (list_all (λ byte. nat_lt 0 byte) (cond b (c ∷ rest) []))
run_by c rest true is whole = both (byte_whole c is) whole
run_by c rest false is whole = refl

run_whole : (before : ℕ) (text : List Char) → IsTrue (list_all (λ byte. nat_lt 0 byte) (run_of run.Word before text))
run_whole before [] = refl
run_whole before (c ∷ text) = run_by c.byte (run_of run.Word c.byte text) (is_word_byte c.byte) refl (run_whole c.byte text)

-- ---- pieces

abbrev IsWhole : Lexeme → Type 0
IsWhole piece.LineEnd = Unit {0}
IsWhole piece.Blank = Unit {0}
IsWhole (piece.Token kind) = IsTrue (is_whole kind)

abbrev ReadsWhole : Reading → Type 0
ReadsWhole None = Unit {0}
ReadsWhole (Some found) = IsWhole found.0

closes_whole : (o : Option (List Char)) → ReadsWhole (elim o as (λ _. Reading) [ None ↦ None | Some rest ↦ Some (piece.Blank, rest) ])
closes_whole None = tt
closes_whole (Some rest) = tt

mark_whole : (a : ℕ) (text : List Char) (o : Option (Punct × List Char)) → ReadsWhole (mark a text o)
mark_whole a text None = refl
mark_whole a text (Some found) = refl

begins_word : (a b c d e f : Bool) → cond a class.LineEnd (cond b class.Space (cond c class.Word (cond d class.Number (cond e class.LineComment (cond f class.BlockComment class.Other))))) ≡ class.Word → c ≡ true
begins_word true b c d e f is = absurd cc
begins_word false true c d e f is = absurd cc
begins_word false false true d e f is = refl
begins_word false false false true e f is = absurd cc
begins_word false false false false true f is = absurd cc
begins_word false false false false false true is = absurd cc
begins_word false false false false false false is = absurd cc

read_by : (k : Class) (a : ℕ) (text : List Char) → class_of a (next_of text) ≡ k → ReadsWhole (read_as k a text)
read_by class.LineEnd a text is = tt
read_by class.Space a text is = tt
read_by class.LineComment a text is = tt
read_by class.BlockComment a text is = closes_whole (after_close 0 (drop 1 text))
read_by class.Word a text is =
    let letter =
    begins_word (a == line_feed) (is_space a) (is_letter a) (begins_number a (next_of text)) (a == slash && next_of text == slash) (a == slash && next_of text == star) is in
    both (letter_whole a letter) (run_whole a text)
read_by class.Number a text is = refl
read_by class.Other a text is = mark_whole a text (punct_at a text)

read_whole : (a : ℕ) (text : List Char) → ReadsWhole (read a text)
unfolding read
read_whole a text = read_by (class_of a (next_of text)) a text refl

-- ---- texts

abbrev CutsWhole : Cutting → Type 0
CutsWhole (Ok pieces) = AllByRecursion (λ (p : Piece). IsWhole p.what) pieces
CutsWhole (Err rest) = Unit {0}

put_whole : (p : Piece) (later : Cutting) → IsWhole p.what → CutsWhole later → CutsWhole (put p later)
put_whole p (Ok pieces) is all = (is, all)
put_whole p (Err rest) is all = tt

cut_by : (later : ℕ → Cutting) (c : Char) (text : List Char) (r : Reading) → ((n : ℕ) → CutsWhole (later n)) → ReadsWhole r → CutsWhole (cut_on later c text r)
cut_by later c text None all is = tt
cut_by later c text (Some found) all is = put_whole _ (later _) is (all _)

cut_whole : (text : List Char) (skipped : ℕ) → CutsWhole (cut_from text skipped)
unfolding cut_from
cut_whole [] skipped = tt
cut_whole (c ∷ text) zero = cut_by (cut_from text) c text (read c.byte text) (cut_whole text) (read_whole c.byte text)
cut_whole (c ∷ text) (suc skipped) = cut_whole text skipped

token_whole : (unit : ℕ) (starts spaced : Bool) (what : Lexeme) (line : ℕ) (rest : List Raw) → IsWhole what → AreWhole rest → AreWhole (tokens_of unit starts spaced what line ++ rest)
token_whole unit starts spaced piece.LineEnd line rest is all = all
token_whole unit starts spaced piece.Blank line rest is all = all
token_whole unit starts spaced (piece.Token kind) line rest is all = (is, all)

pieces_whole : (unit : ℕ) (starts spaced : Bool) (pieces : List Piece) → AllByRecursion (λ (p : Piece). IsWhole p.what) pieces → AreWhole (raws_from unit starts spaced pieces)
unfolding raws_from
pieces_whole unit starts spaced [] all = tt
pieces_whole unit starts spaced (p ∷ pieces) all =
    token_whole unit starts spaced p.what (line_of p.chars) (raws_from unit (starts_after p.what starts) (is_gap p.what) pieces) all.0
    (pieces_whole unit (starts_after p.what starts) (is_gap p.what) pieces all.1)

abbrev pub GivesWhole : Checked (List Raw) → Type 0
GivesWhole (Ok raws) = AreWhole raws
GivesWhole (Err fault) = Unit {0}

cutting_whole : (unit : ℕ) (c : Cutting) → CutsWhole c → GivesWhole (raws_on unit true false c)
cutting_whole unit (Ok pieces) all = pieces_whole unit true false pieces all
cutting_whole unit (Err rest) all = tt

-- The words of a source file have no zero byte.
pub raws_whole : (unit : ℕ) (bytes : List ℕ) → GivesWhole (raws_of unit bytes)
unfolding raws_of
raws_whole unit bytes = cutting_whole unit (cut_from (text_of bytes) 0) (cut_whole (text_of bytes) 0)
