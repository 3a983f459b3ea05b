-- What is read, and where nothing is.
use Rattle.std.proofs.Common.{◌≡◌, ℕ, true, false, ◌&&◌, inl, inr, List, [], ◌∷◌, ◌++◌, drop, Option, Some, None, refl, ap, sym, subst, ◌∙◌, arith, eqb}
use Rattle.std.specs.Option.{option_map}
use Rattle.std.proofs.lemmas.Bool.{and_parts, and_from, eqb-true, eq-eqb, cond-true, cond-false, true≢false}
use Rattle.gsl_base.specs.declared.token.RawKind.TheVariants as kind
use Rattle.gsl_base.specs.declared.token.Punct.{Punct}
use Rattle.gsl_lex.specs.declared.text.Char.{Char}
use Rattle.gsl_lex.specs.declared.piece.Class.{Class}
use Rattle.gsl_lex.specs.declared.piece.Class.TheVariants as class
use Rattle.gsl_lex.specs.declared.piece.Lexeme.{Lexeme}
use Rattle.gsl_lex.specs.declared.piece.Lexeme.TheVariants.{LineEnd, Blank, Token}
use Rattle.gsl_lex.specs.Bytes.{first_of}
use Rattle.gsl_lex.specs.Reading.{read, read_as, class_of, next_of, after_close, mark, punct_at}
use Rattle.gsl_lex.specs.Pieces.{IsFormed, IsStray, IsPiece}
use Rattle.gsl_lex.proofs.Comments.{closes, ends, is_block_comment, block_is, block_from}
use Rattle.gsl_lex.specs.Cut.{bytes_of, Unclosed}
use Rattle.gsl_lex.proofs.Fronts.{close_front}
use Rattle.gsl_lex.proofs.Classes.{Facts, facts_of, Kin, kin}
use Rattle.gsl_lex.proofs.Best.{Sound, Within, moved, sound_line_end, sound_white, sound_word, sound_number, sound_line_comment, sound_block, bytes_append, next_is}
use Rattle.gsl_lex.proofs.Marks.{sound_punct, sound_stray}

sound_comment : (a : ℕ) (text : List Char) (what : Lexeme) (rest : List Char) (found : Option (List Char)) → Facts class.BlockComment a (next_of text) → after_close 0 (drop 1 text) ≡ found →
    option_map {U = Lexeme × List Char} (λ r. (Blank, r)) found ≡ Some (what, rest) → Sound class.BlockComment a text what rest
sound_comment a text what rest None facts here e = absurd (cc)
sound_comment a text what rest (Some later) facts here e = moved class.BlockComment a text Blank what later rest e (sound_block a text later facts.0 facts.1 here)

sound_other : (a : ℕ) (text : List Char) (what : Lexeme) (rest : List Char) (found : Option (Punct × List Char)) → Facts class.Other a (next_of text) → punct_at a text ≡ found →
    mark a text found ≡ Some (what, rest) → Sound class.Other a text what rest
sound_other a text what rest None facts here e = moved class.Other a text _ what text rest e (sound_stray a text facts here)
sound_other a text what rest (Some x) facts here e = moved class.Other a text _ what x.1 rest e (sound_punct a text x.0 x.1 here)

sound_as : (k : Class) (a : ℕ) (text : List Char) (what : Lexeme) (rest : List Char) → Facts k a (next_of text) → read_as k a text ≡ Some (what, rest) → Sound k a text what rest
sound_as class.LineEnd a text what rest f e = moved class.LineEnd a text LineEnd what text rest e (sound_line_end a text f)
sound_as class.Space a text what rest f e = moved class.Space a text Blank what _ rest e (sound_white a text f)
sound_as class.LineComment a text what rest f e = moved class.LineComment a text Blank what _ rest e (sound_line_comment a text f.0 f.1)
sound_as class.BlockComment a text what rest f e = sound_comment a text what rest _ f refl e
sound_as class.Word a text what rest f e = moved class.Word a text _ what _ rest e (sound_word a text f)
sound_as class.Number a text what rest f e = moved class.Number a text _ what _ rest e (sound_number a text f)
sound_as class.Other a text what rest f e = sound_other a text what rest _ f refl e

-- what is read is a piece, and the longest
pub sound : (a : ℕ) (text : List Char) (what : Lexeme) (rest : List Char) → read a text ≡ Some (what, rest) → Sound (class_of a (next_of text)) a text what rest
unfolding read
sound a text what rest e = sound_as (class_of a (next_of text)) a text what rest (facts_of a (next_of text)) e

-- ---- comments that are not closed

no_bytes : (front : List Char) → ends (bytes_of front) ≡ true → front ≡ []
no_bytes [] e = refl
no_bytes (c ∷ front) e = absurd (true≢false (sym e))

close_gives : (before : ℕ) (front later : List Char) → closes before (bytes_of front) ≡ true → after_close before (front ++ later) ≡ Some later
close_gives before [] later closed = absurd (true≢false (sym closed))
close_gives before (c ∷ front) later closed =
    elim (eqb before 42 && eqb c.byte 47) as (λ b. (eqb before 42 && eqb c.byte 47) ≡ b → after_close before (c ∷ front ++ later) ≡ Some later) [
      | true ↦ λ here.
          let over : front ≡ [] = no_bytes front (sym (cond-true _ (ends (bytes_of front)) (closes c.byte (bytes_of front)) here) ∙ closed) in
          cond-true _ _ _ here ∙ ap (λ t. Some (t ++ later)) over
      | false ↦ λ here.
          cond-false _ _ _ here ∙ close_gives c.byte front later (sym (cond-false _ (ends (bytes_of front)) (closes c.byte (bytes_of front)) here) ∙ closed)
    ] refl

unfound : (found : Option (List Char)) → option_map {U = Lexeme × List Char} (λ r. (Blank, r)) found ≡ None → found ≡ None
unfound None e = refl
unfound (Some rest) e = absurd (cc)

never_none : (a : ℕ) (text : List Char) (found : Option (Punct × List Char)) → mark a text found ≡ None → ⊥
never_none a text None e = cc
never_none a text (Some x) e = cc

none_as : (k : Class) (a : ℕ) (text : List Char) → Facts k a (next_of text) → read_as k a text ≡ None → (a ≡ 47) × (next_of text ≡ 42) × (after_close 0 (drop 1 text) ≡ None)
none_as class.LineEnd a text f e = absurd (cc)
none_as class.Space a text f e = absurd (cc)
none_as class.LineComment a text f e = absurd (cc)
none_as class.BlockComment a text f e = (f.0, f.1, unfound _ e)
none_as class.Word a text f e = absurd (cc)
none_as class.Number a text f e = absurd (cc)
none_as class.Other a text f e = absurd (never_none a text _ e)

never_closed : (text front later : List Char) → after_close 0 text ≡ None → text ≡ front ++ later → closes 0 (bytes_of front) ≡ true → ⊥
never_closed text front later none whole closed =
    let some : after_close 0 text ≡ Some later = ap (after_close 0) whole ∙ close_gives 0 front later closed in cc

unclosed_on : (c d : Char) (text front later : List Char) → after_close 0 text ≡ None → c ∷ d ∷ text ≡ front ++ later → is_block_comment (bytes_of front) ≡ true → ⊥
unclosed_on c d text [] later none whole is = true≢false (sym is)
unclosed_on c d text (x ∷ []) later none whole is = true≢false (sym is)
unclosed_on c d text (x ∷ y ∷ front) later none whole is =
    let tail : text ≡ front ++ later = cc in
    never_closed text front later none tail (and_parts (eqb x.byte 47 && eqb y.byte 42) _ is).1

unclosed_at : (c : Char) (text : List Char) → c.byte ≡ 47 → next_of text ≡ 42 → after_close 0 (drop 1 text) ≡ None → Unclosed (c ∷ text)
unclosed_at c [] first second none = absurd (omega (arith, second))
unclosed_at c (d ∷ text) first second none = record {
  opened = and_from _ _ (eq-eqb c.byte 47 first) (eq-eqb d.byte 42 second);
  never = λ front later whole is. unclosed_on c d text front later none whole (block_from (bytes_of front) is);
}

-- nothing is read only where a comment is opened and not closed
pub unclosed_is : (c : Char) (text : List Char) → read c.byte text ≡ None → Unclosed (c ∷ text)
unfolding read
unclosed_is c text e =
    let met = none_as (class_of c.byte (next_of text)) c.byte text (facts_of c.byte (next_of text)) e in
    unclosed_at c text met.0 met.1 met.2

-- and there nothing is
pub unclosed_reads : (c : Char) (text : List Char) → Unclosed (c ∷ text) → read c.byte text ≡ None
unfolding read
unclosed_reads c [] bad = absurd (true≢false (sym bad.opened))
unclosed_reads c (d ∷ text) bad =
    let parts = and_parts (eqb c.byte 47) (eqb d.byte 42) bad.opened in
    let class : class_of c.byte d.byte ≡ class.BlockComment = ap (λ x. class_of x d.byte) (eqb-true c.byte 47 parts.0) ∙ ap (λ y. class_of 47 y) (eqb-true d.byte 42 parts.1) in
    ap (λ k. read_as k c.byte (d ∷ text)) class
    ∙ elim (after_close 0 text) as (λ f. after_close 0 text ≡ f → option_map {U = Lexeme × List Char} (λ r. (Blank, r)) f ≡ None) [
      | None ↦ λ e. refl
      | Some rest ↦ λ e.
          let met = close_front 0 text rest e in
          absurd (bad.never (c ∷ d ∷ met.0) rest (ap (λ t. c ∷ d ∷ t) met.1) (block_is (c.byte ∷ d.byte ∷ bytes_of met.0) (and_from _ _ bad.opened met.2)))
    ] refl

-- ---- the longest piece

byte_class : (c : Char) (text : List Char) (s r : List ℕ) → bytes_of text ≡ s ++ r → class_of c.byte (first_of (s ++ r)) ≡ class_of c.byte (next_of text)
byte_class c text s r whole = ap (class_of c.byte) (sym (next_is text ∙ ap first_of whole))

-- no piece in front of the text is longer
formed_within : (c : Char) (text : List Char) (what : Lexeme) (rest : List Char) (met : Sound (class_of c.byte (next_of text)) c.byte text what rest) (other : Lexeme) (front later : List Char) →
    text ≡ front ++ later → IsFormed other (c.byte ∷ bytes_of front) → Within what (c.byte ∷ bytes_of met.front) other (c.byte ∷ bytes_of front)
formed_within c text what rest met other front later whole is =
    let bytes : bytes_of text ≡ bytes_of front ++ bytes_of later = ap bytes_of whole ∙ bytes_append front later in
    let P : Class → Type 0 = λ k. Kin k c.byte other (c.byte ∷ bytes_of front) in
    met.best other (bytes_of front) (bytes_of later) bytes (subst P (byte_class c text (bytes_of front) (bytes_of later) bytes) (kin other c.byte (bytes_of front) (bytes_of later) is))

stray_single : (what : Lexeme) (a : ℕ) (s : List ℕ) → IsStray what (a ∷ s) → (what ≡ Token (kind.Stray a)) × (s ≡ []) × ((other : Lexeme) (more : List ℕ) → IsFormed other (a ∷ more) → ⊥)
stray_single LineEnd a s is = absurd is
stray_single Blank a s is = absurd is
stray_single (Token (kind.Word text)) a s is = absurd is
stray_single (Token (kind.Number text)) a s is = absurd is
stray_single (Token (kind.Punct p)) a s is = absurd is
stray_single (Token (kind.Stray b)) a s (same, none) =
    let byte : a ≡ b = cc in
    let over : s ≡ [] = cc in
    let P : ℕ → Type 0 = λ x. (other : Lexeme) (more : List ℕ) → IsFormed other (x ∷ more) → ⊥ in
    (ap (λ x. Token (kind.Stray x)) (sym byte), over, subst P (sym byte) none)

-- two pieces in front of one text, where the first was read: the second is shorter, or the same
pub pieces_within : (c : Char) (text : List Char) (what : Lexeme) (rest : List Char) (met : Sound (class_of c.byte (next_of text)) c.byte text what rest) (other : Lexeme) (front later : List Char) →
    text ≡ front ++ later → IsPiece other (c.byte ∷ bytes_of front) → Within what (c.byte ∷ bytes_of met.front) other (c.byte ∷ bytes_of front)
pieces_within c text what rest met other front later whole (inl formed) = formed_within c text what rest met other front later whole formed
pieces_within c text what rest met other front later whole (inr stray) =
    let one = stray_single other c.byte (bytes_of front) stray in
    elim met.is [
      | inl formed ↦ absurd (one.2 what (bytes_of met.front) formed)
      | inr too ↦ let two = stray_single what c.byte (bytes_of met.front) too in inr (ap (λ t. c.byte ∷ t) (one.1 ∙ sym two.1), one.0 ∙ sym two.0)
    ]
