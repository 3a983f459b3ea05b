-- The loop over the pieces of a text has the first of its raw tokens, and the others are ahead.
use Rattle.std.proofs.Common.{◌≡◌, ℕ, zero, suc, ◌-◌, ◌<◌, Bool, true, false, List, [], ◌∷◌, ◌++◌, length, take, drop, Some, None, Ok, Err, refl, ap, sym, ◌∙◌, arith, append_assoc, append-nil, length-append}
use Rattle.gsl_base.specs.declared.token.Raw.{Raw}
use Rattle.gsl_base.specs.Checked.{Checked}
use Rattle.gsl_lex.specs.declared.text.Char.{Char}
use Rattle.gsl_lex.specs.declared.piece.Lexeme.{Lexeme}
use Rattle.gsl_lex.specs.Reading.{read}
use Rattle.gsl_lex.specs.Cut.{Piece, Cutting}
use Rattle.gsl_lex.specs.Reading.{cut_from, cut_on, put}
use Rattle.gsl_lex.specs.Raws.{raws_on, raws_from, tokens_of, starts_after, is_space, line_of, unclosed_at, raws_of}
use Rattle.gsl_lex.specs.Lines.{text_of}
use Rattle.gsl_lex.proofs.Fronts.{read_fronts}

abbrev pub behind : List Raw → Checked (List Raw) → Checked (List Raw)
behind raws (Ok later) = Ok (raws ++ later)
behind raws (Err fault) = Err fault

behind_none : (answer : Checked (List Raw)) → behind [] answer ≡ answer
behind_none (Ok later) = refl
behind_none (Err fault) = refl

-- the cutting of the text after so many bytes is that of the text which begins there
pub skipped : (text : List Char) (n : ℕ) → cut_from text n ≡ cut_from (drop n text) 0
unfolding cut_from
skipped [] zero = refl
skipped [] (suc n) = refl
skipped (c ∷ text) zero = refl
skipped (c ∷ text) (suc n) = skipped text n

pub drop_front : (front rest : List Char) → drop (length front) (front ++ rest) ≡ rest
drop_front [] rest = refl
drop_front (c ∷ front) rest = drop_front front rest

pub take_front : (front rest : List Char) → take (length front) (front ++ rest) ≡ front
take_front [] rest = refl
take_front (c ∷ front) rest = ap (λ t. c ∷ t) (take_front front rest)

front_len : (text front rest : List Char) → text ≡ front ++ rest → length text - length rest ≡ length front
front_len text front rest e = omega (arith, ap length e ∙ length-append front rest)

unfoldable pub piece_on : Lexeme → Char → List Char → Piece
piece_on what c front = record { what = what; chars = c ∷ front }

-- a text whose front is read is cut into that piece and what the rest is cut into
pub cut_step : (c : Char) (text : List Char) (what : Lexeme) (front rest : List Char) → read c.byte text ≡ Some (what, rest) → text ≡ front ++ rest →
    cut_from (c ∷ text) 0 ≡ put (piece_on what c front) (cut_from rest 0)
unfolding cut_from piece_on
cut_step c text what front rest found whole =
    let n = length text - length rest in
    let len : n ≡ length front = front_len text front rest whole in
    let chars : take n text ≡ front = ap (λ k. take k text) len ∙ ap (take (length front)) whole ∙ take_front front rest in
    let after : drop n text ≡ rest = ap (λ k. drop k text) len ∙ ap (drop (length front)) whole ∙ drop_front front rest in
    ap (cut_on (cut_from text) c text) found
    ∙ ap (put (record { what = what; chars = c ∷ take n text })) (skipped text n ∙ ap (λ t. cut_from t 0) after)
    ∙ ap (λ t. put (record { what = what; chars = c ∷ t }) (cut_from rest 0)) chars

-- and one whose front is a comment that is not closed is not cut
pub cut_stop : (c : Char) (text : List Char) → read c.byte text ≡ None → cut_from (c ∷ text) 0 ≡ Err (c ∷ text)
unfolding cut_from
cut_stop c text none = ap (cut_on (cut_from text) c text) none

put_ahead : (raws : List Raw) (unit : ℕ) (starts spaced : Bool) (piece : Piece) (cutting : Cutting) →
    behind raws (raws_on unit starts spaced (put piece cutting))
    ≡ behind (raws ++ tokens_of unit starts spaced piece.what (line_of piece.chars)) (raws_on unit (starts_after piece.what starts) (is_space piece.what) cutting)
unfolding raws_from
put_ahead raws unit starts spaced piece (Ok pieces) = ap Ok (sym (append_assoc raws _ _))
put_ahead raws unit starts spaced piece (Err rest) = refl

-- the loop takes one piece
pub loop_step : (raws : List Raw) (unit : ℕ) (starts spaced : Bool) (c : Char) (text : List Char) (what : Lexeme) (front rest : List Char) →
    read c.byte text ≡ Some (what, rest) → text ≡ front ++ rest →
    behind (raws ++ tokens_of unit starts spaced what c.line) (raws_on unit (starts_after what starts) (is_space what) (cut_from rest 0))
    ≡ behind raws (raws_on unit starts spaced (cut_from (c ∷ text) 0))
unfolding piece_on
loop_step raws unit starts spaced c text what front rest found whole =
    sym (ap (λ k. behind raws (raws_on unit starts spaced k)) (cut_step c text what front rest found whole) ∙ put_ahead raws unit starts spaced (piece_on what c front) (cut_from rest 0))

-- What the loop met at one piece.
pub record Met (cursor : List Char) (c : Char) (text : List Char) (what : Lexeme) (rest : List Char) : Type 0 where
  pub first : cursor ≡ c ∷ text
  pub found : read c.byte text ≡ Some (what, rest)

pub loop_goes_on : (raws raws' : List Raw) (unit : ℕ) (starts spaced : Bool) (cursor : List Char) (c : Char) (text : List Char) (what : Lexeme) (rest : List Char) (answer : Checked (List Raw)) →
    Met cursor c text what rest → raws' ≡ raws ++ tokens_of unit starts spaced what c.line →
    behind raws (raws_on unit starts spaced (cut_from cursor 0)) ≡ answer →
    behind raws' (raws_on unit (starts_after what starts) (is_space what) (cut_from rest 0)) ≡ answer
loop_goes_on raws raws' unit starts spaced cursor c text what rest answer met more so_far =
    let fronts = read_fronts c.byte text what rest met.found in
    ap (λ r. behind r (raws_on unit (starts_after what starts) (is_space what) (cut_from rest 0))) more
    ∙ loop_step raws unit starts spaced c text what fronts.0 rest met.found fronts.1
    ∙ ap (λ t. behind raws (raws_on unit starts spaced (cut_from t 0))) (sym met.first)
    ∙ so_far

pub loop_shrinks : (cursor : List Char) (c : Char) (text : List Char) (what : Lexeme) (rest : List Char) → Met cursor c text what rest → length rest < length cursor
loop_shrinks cursor c text what rest met =
    let fronts = read_fronts c.byte text what rest met.found in
    omega (arith, ap length met.first, ap length fronts.1 ∙ length-append fronts.0 rest)

pub loop_stops : (raws : List Raw) (unit : ℕ) (starts spaced : Bool) (cursor : List Char) (c : Char) (text : List Char) (answer : Checked (List Raw)) →
    cursor ≡ c ∷ text → read c.byte text ≡ None → behind raws (raws_on unit starts spaced (cut_from cursor 0)) ≡ answer → answer ≡ Err (unclosed_at unit (c ∷ text))
loop_stops raws unit starts spaced cursor c text answer first none so_far =
    sym so_far ∙ ap (λ k. behind raws (raws_on unit starts spaced k)) (ap (λ t. cut_from t 0) first ∙ cut_stop c text none)

pub loop_ends : (raws : List Raw) (unit : ℕ) (starts spaced : Bool) (cursor : List Char) (answer : Checked (List Raw)) →
    cursor ≡ [] → behind raws (raws_on unit starts spaced (cut_from cursor 0)) ≡ answer → answer ≡ Ok raws
unfolding cut_from raws_from
loop_ends raws unit starts spaced cursor answer none so_far =
    sym so_far ∙ ap (λ t. behind raws (raws_on unit starts spaced (cut_from t 0))) none ∙ ap Ok (append-nil raws)

pub loop_begins : (unit : ℕ) (bytes : List ℕ) (text : List Char) (raws : List Raw) → text ≡ text_of bytes → raws ≡ [] → behind raws (raws_on unit true false (cut_from text 0)) ≡ raws_of unit bytes
unfolding raws_of
loop_begins unit bytes text raws here none =
    ap (λ r. behind r (raws_on unit true false (cut_from text 0))) none ∙ behind_none _ ∙ ap (λ t. raws_on unit true false (cut_from t 0)) here
