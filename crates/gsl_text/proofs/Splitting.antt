-- The first line of a text, and the others.
use Rattle.std.proofs.Common.{◌≡◌, ℕ, suc, ◌+◌, ◌-◌, ◌<◌, true, false, cond, not, List, [], ◌∷◌, ◌++◌, length, get_or, take, drop, refl, ap, sym, ◌∙◌, arith, eqb, one-add, take-append-drop, length-append}
use Rattle.std.proofs.lemmas.Bool.{or_parts, or_from, eqb-true, eq-eqb, ne_eqb, cond-true, cond-false}
use Rattle.std.proofs.lemmas.List.Folds.{list_any-append}
use Rattle.std.specs.List.{prefix_len, list_any}
use Rattle.gsl_text.specs.Lines.{onto, pieces, without_cr, ended, lines_of}

-- how many bytes stand before the first LF
abbrev pub before_lf : List ℕ → ℕ
before_lf bytes = prefix_len (λ byte. not (eqb byte 10)) bytes

abbrev HasPieces : List ℕ → List (List ℕ) → ℕ → Type 0
HasPieces bytes found k = (found ≡ take k bytes ∷ []) × (drop k bytes ≡ [])

-- no LF stands there
one_piece : (bytes : List ℕ) → drop (before_lf bytes) bytes ≡ [] → pieces bytes ≡ take (before_lf bytes) bytes ∷ []
one_piece [] none = refl
one_piece (b ∷ bytes) none =
    elim (eqb b 10) as (λ t. drop (cond (not t) (1 + before_lf bytes) 0) (b ∷ bytes) ≡ [] → cond t ([] ∷ pieces bytes) (onto b (pieces bytes)) ≡ take (cond (not t) (1 + before_lf bytes) 0) (b ∷ bytes) ∷ []) [
      | true ↦ λ e. absurd (cc)
      | false ↦ λ e.
          let n : 1 + before_lf bytes ≡ suc (before_lf bytes) = one-add (before_lf bytes) in
          let later : drop (before_lf bytes) bytes ≡ [] = sym (ap (λ k. drop k (b ∷ bytes)) n) ∙ e in
          ap (onto b) (one_piece bytes later) ∙ sym (ap (λ k. take k (b ∷ bytes) ∷ []) n)
    ] none

-- the first LF and the bytes behind it
more_pieces : (bytes : List ℕ) (x : ℕ) (more : List ℕ) → drop (before_lf bytes) bytes ≡ x ∷ more → pieces bytes ≡ take (before_lf bytes) bytes ∷ pieces more
more_pieces [] x more some = absurd (cc)
more_pieces (b ∷ bytes) x more some =
    elim (eqb b 10) as (λ t. drop (cond (not t) (1 + before_lf bytes) 0) (b ∷ bytes) ≡ x ∷ more → cond t ([] ∷ pieces bytes) (onto b (pieces bytes)) ≡ take (cond (not t) (1 + before_lf bytes) 0) (b ∷ bytes) ∷ pieces more) [
      | true ↦ λ e. let same : bytes ≡ more = cc in ap (λ r. [] ∷ pieces r) same
      | false ↦ λ e.
          let n : 1 + before_lf bytes ≡ suc (before_lf bytes) = one-add (before_lf bytes) in
          let later : drop (before_lf bytes) bytes ≡ x ∷ more = sym (ap (λ k. drop k (b ∷ bytes)) n) ∙ e in
          ap (onto b) (more_pieces bytes x more later) ∙ sym (ap (λ k. take k (b ∷ bytes) ∷ pieces more) n)
    ] some

-- there is a piece at least
pub record Some_pieces (bytes : List ℕ) : Type 0 where
  pub one : List ℕ
  pub others : List (List ℕ)
  pub are : pieces bytes ≡ one ∷ others

onto_some : (b : ℕ) (found : List (List ℕ)) → (one : List ℕ) × (others : List (List ℕ)) × (onto b found ≡ one ∷ others)
onto_some b [] = (b ∷ [], [], refl)
onto_some b (piece ∷ others) = (b ∷ piece, others, refl)

pub some_pieces : (bytes : List ℕ) → Some_pieces bytes
some_pieces [] = record { one = []; others = []; are = refl }
some_pieces (b ∷ bytes) =
    elim (eqb b 10) as (λ t. eqb b 10 ≡ t → Some_pieces (b ∷ bytes)) [
      | true ↦ λ e. record { one = []; others = pieces bytes; are = cond-true _ _ _ e }
      | false ↦ λ e. let s = onto_some b (pieces bytes) in record { one = s.0; others = s.1; are = cond-false _ _ _ e ∙ s.2 }
    ] refl

pub ended_more : (piece : List ℕ) (found : List (List ℕ)) (one : List ℕ) (others : List (List ℕ)) → found ≡ one ∷ others → ended (piece ∷ found) ≡ without_cr piece ∷ ended found
ended_more piece found one others e = ap (λ f. ended (piece ∷ f)) e ∙ ap (λ f. without_cr piece ∷ ended f) (sym e)

pub ended_last : (last : List ℕ) → 0 < length last → ended (last ∷ []) ≡ last ∷ []
ended_last [] some = absurd (omega arith)
ended_last (b ∷ last) some = cond-false _ _ _ (ne_eqb (suc (length last)) 0 (λ e. omega arith))

-- the last line where no LF ends it
pub last_line : (bytes piece rest : List ℕ) (k : ℕ) → k ≡ before_lf bytes → piece ≡ take k bytes → rest ≡ drop k bytes → length rest ≡ 0 → 0 < length bytes → lines_of bytes ≡ piece ∷ lines_of rest
unfolding lines_of
last_line bytes piece [] k is front behind none some =
    let all : drop (before_lf bytes) bytes ≡ [] = ap (λ n. drop n bytes) (sym is) ∙ sym behind in
    let whole : piece ++ [] ≡ bytes = ap (λ p. p ++ []) front ∙ ap (λ d. take k bytes ++ d) behind ∙ take-append-drop k bytes in
    let long : 0 < length piece = omega (arith, length-append piece [], ap length whole) in
    ap ended (one_piece bytes all) ∙ ap (λ n. ended (take n bytes ∷ [])) (sym is) ∙ ap (λ p. ended (p ∷ [])) (sym front)
    ∙ ended_last piece long
last_line bytes piece (r ∷ rest) k is front behind none some = absurd (omega arith)

-- a line that an LF ends
pub line_ended : (bytes piece rest line more : List ℕ) (k : ℕ) → k ≡ before_lf bytes → piece ≡ take k bytes → rest ≡ drop k bytes → 0 < length rest → line ≡ without_cr piece → more ≡ drop 1 rest → lines_of bytes ≡ line ∷ lines_of more
unfolding lines_of
line_ended bytes piece [] line more k is front behind some same later = absurd (omega arith)
line_ended bytes piece (r ∷ rest) line more k is front behind some same later =
    let cut : drop (before_lf bytes) bytes ≡ r ∷ rest = ap (λ n. drop n bytes) (sym is) ∙ sym behind in
    let next = some_pieces rest in
    ap ended (more_pieces bytes r rest cut) ∙ ended_more (take (before_lf bytes) bytes) (pieces rest) next.one next.others next.are
    ∙ ap (λ p. without_cr p ∷ ended (pieces rest)) (ap (λ n. take n bytes) (sym is) ∙ sym front) ∙ ap (λ r. without_cr piece ∷ ended (pieces r)) (sym later)
    ∙ ap (λ l. l ∷ ended (pieces more)) (sym same)

-- a CR at the end
pub cr_there : (piece : List ℕ) → 0 < length piece → get_or piece (length piece - 1) 0 ≡ 13 → take (length piece - 1) piece ≡ without_cr piece
cr_there [] some here = absurd (omega arith)
cr_there (b ∷ []) some here = sym (cond-true _ _ _ (eq-eqb b 13 here))
cr_there (b ∷ c ∷ piece) some here =
    let n : length (b ∷ c ∷ piece) - 1 ≡ suc (length (c ∷ piece) - 1) = omega arith in
    let at : get_or (c ∷ piece) (length (c ∷ piece) - 1) 0 ≡ 13 = sym (ap (λ k. get_or (b ∷ c ∷ piece) k 0) n) ∙ here in
    ap (λ k. take k (b ∷ c ∷ piece)) n ∙ ap (λ p. b ∷ p) (cr_there (c ∷ piece) (omega arith) at)

pub cr_none : (piece : List ℕ) → 0 < length piece → (get_or piece (length piece - 1) 0 ≡ 13 → ⊥) → piece ≡ without_cr piece
cr_none [] some other = absurd (omega arith)
cr_none (b ∷ []) some other = sym (cond-false _ _ _ (ne_eqb b 13 other))
cr_none (b ∷ c ∷ piece) some other =
    let n : length (b ∷ c ∷ piece) - 1 ≡ suc (length (c ∷ piece) - 1) = omega arith in
    ap (λ p. b ∷ p) (cr_none (c ∷ piece) (omega arith) (λ at. other (ap (λ k. get_or (b ∷ c ∷ piece) k 0) n ∙ at)))

-- no bytes have no line
pub no_lines : (bytes : List ℕ) → true ≡ eqb (length bytes) 0 → lines_of bytes ≡ []
unfolding lines_of
no_lines [] none = refl
no_lines (b ∷ bytes) none = absurd (omega (arith, eqb-true _ _ (sym none)))

-- no LF is among the bytes
abbrev pub NoLf : List ℕ → Type 0
NoLf bytes = list_any (λ b. eqb b 10) bytes ≡ false

-- no CR is at their end
abbrev pub NoCr : List ℕ → Type 0
NoCr bytes = without_cr bytes ≡ bytes

pub pieces_line : (line rest : List ℕ) → NoLf line → pieces (line ++ 10 ∷ rest) ≡ line ∷ pieces rest
pieces_line [] rest none = refl
pieces_line (b ∷ line) rest none =
    let parts = or_parts (eqb b 10) _ none in
    cond-false _ _ _ parts.0 ∙ ap (onto b) (pieces_line line rest parts.1)

pub lines_line : (line rest : List ℕ) → NoLf line → NoCr line → lines_of (line ++ 10 ∷ rest) ≡ line ∷ lines_of rest
unfolding lines_of
lines_line line rest none end =
    let next = some_pieces rest in
    ap ended (pieces_line line rest none) ∙ ended_more line (pieces rest) next.one next.others next.are ∙ ap (λ l. l ∷ ended (pieces rest)) end

pub no_lf_append : (a b : List ℕ) → NoLf a → NoLf b → NoLf (a ++ b)
no_lf_append a b e f = list_any-append (λ c. eqb c 10) a b ∙ or_from _ _ e f
