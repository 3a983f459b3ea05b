-- What is read stands in front of the text after it.
use Rattle.std.proofs.Common.{◌≡◌, ℕ, true, false, cond, ◌&&◌, List, [], ◌∷◌, ◌++◌, length, drop, Option, Some, None, refl, ap, sym, ◌∙◌, append_assoc, eqb}
use Rattle.std.proofs.lemmas.Bool.{and_from, cond-true, cond-false}
use Rattle.std.specs.Option.{option_map}
use Rattle.gsl_base.specs.declared.token.Punct.{Punct}
use Rattle.gsl_lex.specs.declared.text.Char.{Char}
use Rattle.gsl_lex.specs.declared.piece.Run.{Run}
use Rattle.gsl_lex.specs.declared.piece.Run.TheVariants as run
use Rattle.gsl_lex.specs.Bytes.{goes_on, all_go_on, number_run}
use Rattle.gsl_lex.proofs.Comments.{closes}
use Rattle.gsl_lex.specs.Tables.{punct_of}
use Rattle.gsl_lex.specs.Cut.{bytes_of}
use Rattle.gsl_lex.specs.declared.piece.Class.{Class}
use Rattle.gsl_lex.specs.declared.piece.Class.TheVariants as class
use Rattle.gsl_lex.specs.declared.piece.Lexeme.{Lexeme}
use Rattle.gsl_lex.specs.declared.piece.Lexeme.TheVariants as piece
use Rattle.gsl_lex.specs.Reading.{Reading, read, read_as, mark, class_of, next_of, run_of, after_run, after_close, punct_at, three_at, two_at, one_at, or_else}

-- the stretch that goes on
unfoldable pub taken : Run → ℕ → List Char → List Char
taken run before [] = []
taken run before (c ∷ text) = cond (goes_on run before c.byte) (c ∷ taken run c.byte text) []

pub taken_is : (run : Run) (before : ℕ) (text : List Char) → text ≡ taken run before text ++ after_run run before text
unfolding taken
taken_is run before [] = refl
taken_is run before (c ∷ text) =
    elim (goes_on run before c.byte) as (λ b. c ∷ text ≡ cond b (c ∷ taken run c.byte text) [] ++ cond b (after_run run c.byte text) (c ∷ text))
    [ true ↦ ap (λ t. c ∷ t) (taken_is run c.byte text) | false ↦ refl ]

pub taken_bytes : (run : Run) (before : ℕ) (text : List Char) → bytes_of (taken run before text) ≡ run_of run before text
unfolding taken
taken_bytes run before [] = refl
taken_bytes run before (c ∷ text) =
    elim (goes_on run before c.byte) as (λ b. bytes_of (cond b (c ∷ taken run c.byte text) []) ≡ cond b (c.byte ∷ run_of run c.byte text) [])
    [ true ↦ ap (λ t. c.byte ∷ t) (taken_bytes run c.byte text) | false ↦ refl ]

pub run_goes_on : (run : Run) (before : ℕ) (text : List Char) → all_go_on run before (run_of run before text) ≡ true
run_goes_on run before [] = refl
run_goes_on run before (c ∷ text) =
    elim (goes_on run before c.byte) as (λ b. goes_on run before c.byte ≡ b → all_go_on run before (cond b (c.byte ∷ run_of run c.byte text) []) ≡ true)
    [ true ↦ λ e. and_from _ _ e (run_goes_on run c.byte text) | false ↦ λ e. refl ] refl

pub some_is : {A : Type 0} (x y : A) → Some x ≡ Some y → x ≡ y
some_is x y e = cc

-- a comment ends with the first `*/`
pub close_front : (before : ℕ) (text rest : List Char) → after_close before text ≡ Some rest → (front : List Char) × (text ≡ front ++ rest) × (closes before (bytes_of front) ≡ true)
close_front before [] rest e = absurd (cc)
close_front before (c ∷ text) rest e =
    elim (eqb before 42 && eqb c.byte 47) as (λ b. (eqb before 42 && eqb c.byte 47) ≡ b → cond b (Some text) (after_close c.byte text) ≡ Some rest → (front : List Char) × (c ∷ text ≡ front ++ rest) × (closes before (bytes_of front) ≡ true)) [
      | true ↦ λ here found. (c ∷ [], ap (λ t. c ∷ t) (some_is text rest found), cond-true _ _ _ here)
      | false ↦ λ here found. let later = close_front c.byte text rest found in (c ∷ later.0, ap (λ t. c ∷ t) later.1, cond-false _ _ _ here ∙ later.2)
    ] refl e

-- a punctuator of n + 1 bytes and the text after it
pub record Spelled (n a : ℕ) (text : List Char) (punct : Punct) (rest : List Char) : Type 0 where
  pub front : List Char
  pub whole : text ≡ front ++ rest
  pub spelled : punct_of (a ∷ bytes_of front) ≡ Some punct
  pub count : length front ≡ n

pub mapped : (found : Option Punct) (rest : List Char) (p : Punct) (later : List Char) → option_map {U = Punct × List Char} (λ q. (q, rest)) found ≡ Some (p, later) → (found ≡ Some p) × (rest ≡ later)
mapped None rest p later e = absurd (cc)
mapped (Some q) rest p later e =
    let same : (q, rest) ≡ (p, later) = some_is _ _ e in (ap (λ r. Some r.0) same, ap (λ r. r.1) same)

pub three_front : (a : ℕ) (text : List Char) (p : Punct) (rest : List Char) → three_at a text ≡ Some (p, rest) → Spelled 2 a text p rest
three_front a [] p rest e = absurd (cc)
three_front a (c ∷ []) p rest e = absurd (cc)
three_front a (c ∷ d ∷ text) p rest e =
    let met = mapped _ text p rest e in record { front = c ∷ d ∷ []; whole = ap (λ t. c ∷ d ∷ t) met.1; spelled = met.0; count = refl }

pub two_front : (a : ℕ) (text : List Char) (p : Punct) (rest : List Char) → two_at a text ≡ Some (p, rest) → Spelled 1 a text p rest
two_front a [] p rest e = absurd (cc)
two_front a (c ∷ text) p rest e =
    let met = mapped _ text p rest e in record { front = c ∷ []; whole = ap (λ t. c ∷ t) met.1; spelled = met.0; count = refl }

pub one_front : (a : ℕ) (text : List Char) (p : Punct) (rest : List Char) → one_at a text ≡ Some (p, rest) → Spelled 0 a text p rest
one_front a text p rest e = let met = mapped _ text p rest e in record { front = []; whole = met.1; spelled = met.0; count = refl }

abbrev pub Marked : ℕ → List Char → Punct → List Char → Type 0
Marked a text p rest = (n : ℕ) × Spelled n a text p rest

pub punct_front : (a : ℕ) (text : List Char) (p : Punct) (rest : List Char) → punct_at a text ≡ Some (p, rest) → Marked a text p rest
unfolding punct_at
punct_front a text p rest e =
    elim (three_at a text) as (λ f. three_at a text ≡ f → or_else f (or_else (two_at a text) (one_at a text)) ≡ Some (p, rest) → Marked a text p rest) [
      | Some x ↦ λ here found. (2, three_front a text p rest (here ∙ found))
      | None ↦ λ here found.
          elim (two_at a text) as (λ f. two_at a text ≡ f → or_else f (one_at a text) ≡ Some (p, rest) → Marked a text p rest) [
            | Some x ↦ λ there got. (1, two_front a text p rest (there ∙ got))
            | None ↦ λ there got. (0, one_front a text p rest got)
          ] refl found
    ] refl e

-- What is read stands in front of the rest.
abbrev pub Fronts : List Char → List Char → Type 0
Fronts text rest = (front : List Char) × (text ≡ front ++ rest)

found_pair : (x y : Lexeme) (rest later : List Char) → ◌≡◌ {A = Reading} (Some (x, rest)) (Some (y, later)) → (x ≡ y) × (rest ≡ later)
found_pair x y rest later e =
    let same : (x, rest) ≡ (y, later) = some_is _ _ e in (ap (λ r. r.0) same, ap (λ r. r.1) same)

run_fronts : (run : Run) (a : ℕ) (text : List Char) (x what : Lexeme) (rest : List Char) → ◌≡◌ {A = Reading} (Some (x, after_run run a text)) (Some (what, rest)) → Fronts text rest
run_fronts run a text x what rest e = (taken run a text, taken_is run a text ∙ ap (λ r. taken run a text ++ r) (found_pair x what _ rest e).1)

whole_fronts : (text : List Char) (x what : Lexeme) (rest : List Char) → ◌≡◌ {A = Reading} (Some (x, text)) (Some (what, rest)) → Fronts text rest
whole_fronts text x what rest e = ([], (found_pair x what _ rest e).1)

pub drop_one : (text : List Char) → (front : List Char) × (text ≡ front ++ drop 1 text)
drop_one [] = ([], refl)
drop_one (c ∷ text) = (c ∷ [], refl)

comment_fronts : (text : List Char) (found : Option (List Char)) (what : Lexeme) (rest : List Char) → after_close 0 (drop 1 text) ≡ found →
    option_map {U = Lexeme × List Char} (λ r. (piece.Blank, r)) found ≡ Some (what, rest) → Fronts text rest
comment_fronts text None what rest here e = absurd (cc)
comment_fronts text (Some later) what rest here e =
    let one = drop_one text in
    let two = close_front 0 (drop 1 text) later here in
    let same = (found_pair piece.Blank what later rest e).1 in
    (one.0 ++ two.0, one.1 ∙ ap (λ t. one.0 ++ t) (two.1 ∙ ap (λ t. two.0 ++ t) same) ∙ sym (append_assoc one.0 two.0 rest))

mark_fronts : (a : ℕ) (text : List Char) (found : Option (Punct × List Char)) (what : Lexeme) (rest : List Char) → punct_at a text ≡ found → mark a text found ≡ Some (what, rest) → Fronts text rest
mark_fronts a text None what rest here e = whole_fronts text _ what rest e
mark_fronts a text (Some x) what rest here e =
    let met = (punct_front a text x.0 x.1 here).1 in
    (met.front, met.whole ∙ ap (λ t. met.front ++ t) (found_pair _ what x.1 rest e).1)

fronts_as : (class : Class) (a : ℕ) (text : List Char) (what : Lexeme) (rest : List Char) → read_as class a text ≡ Some (what, rest) → Fronts text rest
fronts_as class.LineEnd a text what rest e = whole_fronts text _ what rest e
fronts_as class.Space a text what rest e = run_fronts run.Space a text _ what rest e
fronts_as class.LineComment a text what rest e = run_fronts run.Line a text _ what rest e
fronts_as class.BlockComment a text what rest e = comment_fronts text _ what rest refl e
fronts_as class.Word a text what rest e = run_fronts run.Word a text _ what rest e
fronts_as class.Number a text what rest e = run_fronts (number_run a (next_of text)) a text _ what rest e
fronts_as class.Other a text what rest e = mark_fronts a text _ what rest refl e

pub read_fronts : (a : ℕ) (text : List Char) (what : Lexeme) (rest : List Char) → read a text ≡ Some (what, rest) → Fronts text rest
unfolding read
read_fronts a text what rest e = fronts_as (class_of a (next_of text)) a text what rest e
