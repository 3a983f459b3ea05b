-- Lists of items that the grammar derives are read, by any reader that reads its items.
use Rattle.std.proofs.Common.{◌≡◌, refl, ap, ◌∙◌, ℕ, zero, suc, ◌≤◌, Bool, true, false, List, [], ◌∷◌, ◌++◌, length, Ok, append_assoc, append-nil, length-append, sym, arith}
use Rattle.gsl_base.specs.declared.fault.Place.{Place}
use Rattle.gsl_base.specs.declared.token.Punct.TheVariants as punct
use Rattle.gsl_syntax.specs.Phrases.{sign}
use Rattle.gsl_syntax.specs.Declarations.{Commas, Row, Some_of}
use Rattle.gsl_syntax.specs.Declarations.Commas.{one, more}
use Rattle.gsl_syntax.specs.Declarations.Row.{done, next}
use Rattle.gsl_syntax.specs.Declarations.Some_of.{these}
use Rattle.gsl_expr.specs.Reading.{Tokens, Outcome, Parser, and_then, sees}
use Rattle.gsl_parse.specs.Lists.{row, row_of, some_of, further, further_of, commas_of}

-- The reader reads items of up to d tokens with what stands behind them, where commas and what is called Behind may stand.
pub record Listed {A : Type 0} (Item : A → Tokens → Type 0) (item : Parser A) (d : ℕ) (Behind : Tokens → Type 0) : Type 0 where
  pub reads : (a : A) (xs rest : Tokens) → Item a xs → length (xs ++ rest) ≤ d → Behind rest → item (xs ++ rest) ≡ Ok (a, rest)
  pub filled : (a : A) (xs : Tokens) → Item a xs → 1 ≤ length xs
  pub comma : (p : Place) (rest : Tokens) → Behind (sign p punct.Comma ∷ rest)

-- The reader reads items of up to d tokens with whatever stands behind them, and each begins as the test says.
pub record Rowed {A : Type 0} (Item : A → Tokens → Type 0) (begins : Tokens → Bool) (item : Parser A) (d : ℕ) : Type 0 where
  pub reads : (a : A) (xs rest : Tokens) → Item a xs → length (xs ++ rest) ≤ d → item (xs ++ rest) ≡ Ok (a, rest)
  pub filled : (a : A) (xs : Tokens) → Item a xs → 1 ≤ length xs
  pub start : (a : A) (xs rest : Tokens) → Item a xs → begins (xs ++ rest) ≡ true

-- ---- rows

row_stop : {A : Type 0} (begins : Tokens → Bool) (item : Parser A) (n : ℕ) (found : List A) (ts : Tokens) → begins ts ≡ false → row begins item n found ts ≡ Ok (found, ts)
unfolding row
row_stop begins item zero found ts h = refl
row_stop begins item (suc n) found ts h = rw h refl

row_step : {A : Type 0} (begins : Tokens → Bool) (item : Parser A) (n : ℕ) (found : List A) (a : A) (ts rest : Tokens) → begins ts ≡ true → item ts ≡ Ok (a, rest)
    → row begins item (suc n) found ts ≡ row begins item n (found ++ a ∷ []) rest
unfolding row
row_step {A = A} begins item n found a ts rest h x = rw h (ap (λ (r : Outcome A). and_then r (λ a. row begins item n (found ++ a ∷ []))) x)

pub row_reads : {A : Type 0} {Item : A → Tokens → Type 0} {begins : Tokens → Bool} {item : Parser A} {d : ℕ} {bs : List A} {xs : Tokens} → Rowed Item begins item d → Row Item bs xs
    → (fuel : ℕ) (found : List A) (rest : Tokens) → length (xs ++ rest) ≤ fuel → length (xs ++ rest) ≤ d → begins rest ≡ false → row begins item fuel found (xs ++ rest) ≡ Ok (found ++ bs, rest)
row_reads {begins = begins} {item = item} r done fuel found rest most fits stop = row_stop begins item fuel found rest stop ∙ ap (λ (z : List _). Ok (z, rest)) (sym (append-nil found))
row_reads r (next {a = a} {xs = xs} {ys = ys} x y) zero found rest most fits stop =
    let some = r.filled a xs x in
    absurd (omega (arith, ap length (append_assoc xs ys rest), length-append xs (ys ++ rest)))
row_reads {begins = begins} {item = item} r (next {a = a} {bs = bs} {xs = xs} {ys = ys} x y) (suc n) found rest most fits stop =
    let same : (xs ++ ys) ++ rest ≡ xs ++ (ys ++ rest) = append_assoc xs ys rest in
    let long = length-append xs (ys ++ rest) in
    let some = r.filled a xs x in
    ap (row begins item (suc n) found) same
    ∙ row_step begins item n found a (xs ++ (ys ++ rest)) (ys ++ rest) (r.start a xs (ys ++ rest) x) (r.reads a xs (ys ++ rest) x (omega (arith, ap length same)))
    ∙ row_reads r y n (found ++ a ∷ []) rest (omega (arith, ap length same)) (omega (arith, ap length same)) stop
    ∙ ap (λ (z : List _). Ok (z, rest)) (append_assoc found (a ∷ []) bs)

pub row_complete : {A : Type 0} {Item : A → Tokens → Type 0} {begins : Tokens → Bool} {item : Parser A} {d : ℕ} {bs : List A} {xs : Tokens} → Rowed Item begins item d → Row Item bs xs
    → (rest : Tokens) → length (xs ++ rest) ≤ d → begins rest ≡ false → row_of begins item (xs ++ rest) ≡ Ok (bs, rest)
row_complete {xs = xs} r x rest fits stop = row_reads r x (length (xs ++ rest)) [] rest (omega arith) fits stop

pub some_complete : {A : Type 0} {Item : A → Tokens → Type 0} {begins : Tokens → Bool} {item : Parser A} {d : ℕ} {bs : List A} {xs : Tokens} → Rowed Item begins item d → Some_of Item bs xs
    → (rest : Tokens) → length (xs ++ rest) ≤ d → begins rest ≡ false → some_of begins item (xs ++ rest) ≡ Ok (bs, rest)
some_complete {A = A} {begins = begins} {item = item} r (these {a = a} {xs = xs} {ys = ys} x y) rest fits stop =
    let same : (xs ++ ys) ++ rest ≡ xs ++ (ys ++ rest) = append_assoc xs ys rest in
    let long = length-append xs (ys ++ rest) in
    ap (some_of begins item) same
    ∙ ap (λ (z : Outcome A). and_then z (λ a ts. row begins item (length ts) (a ∷ []) ts)) (r.reads a xs (ys ++ rest) x (omega (arith, ap length same)))
    ∙ row_reads r y (length (ys ++ rest)) (a ∷ []) rest (omega arith) (omega (arith, ap length same)) stop

-- ---- with commas between

further_stop : {A : Type 0} (item : Parser A) (n : ℕ) (found : List A) (ts : Tokens) → sees punct.Comma ts ≡ false → further item n found ts ≡ Ok (found, ts)
unfolding further
further_stop item zero found ts h = refl
further_stop item (suc n) found ts h = rw h refl

further_step : {A : Type 0} (item : Parser A) (n : ℕ) (p : Place) (found : List A) (a : A) (ts rest : Tokens) → item ts ≡ Ok (a, rest)
    → further item (suc n) found (sign p punct.Comma ∷ ts) ≡ further item n (found ++ a ∷ []) rest
unfolding further sees
further_step {A = A} item n p found a ts rest x = ap (λ (r : Outcome A). and_then r (λ a. further item n (found ++ a ∷ []))) x

-- behind the first, and behind the comma
pub further_reads : {A : Type 0} {Item : A → Tokens → Type 0} {item : Parser A} {d : ℕ} {Behind : Tokens → Type 0} {bs : List A} {ys : Tokens} → Listed Item item d Behind → Commas Item bs ys
    → (fuel : ℕ) (p : Place) (found : List A) (rest : Tokens) → suc (length (ys ++ rest)) ≤ fuel → length (ys ++ rest) ≤ d → Behind rest → sees punct.Comma rest ≡ false
    → further item fuel found (sign p punct.Comma ∷ (ys ++ rest)) ≡ Ok (found ++ bs, rest)
further_reads l x zero p found rest most fits behind stop = absurd (omega arith)
further_reads {item = item} l (one {a = a} {xs = xs} x) (suc n) p found rest most fits behind stop =
    further_step item n p found a (xs ++ rest) rest (l.reads a xs rest x fits behind) ∙ further_stop item n (found ++ a ∷ []) rest stop
further_reads {item = item} l (more {a = a} {bs = bs} {xs = xs} {ys = ys} q x y) (suc n) p found rest most fits behind stop =
    let us = sign q punct.Comma ∷ (ys ++ rest) in
    let same : (xs ++ sign q punct.Comma ∷ ys) ++ rest ≡ xs ++ us = append_assoc xs (sign q punct.Comma ∷ ys) rest in
    let long = length-append xs us in
    let some = l.filled a xs x in
    further_step item n p found a ((xs ++ sign q punct.Comma ∷ ys) ++ rest) us (ap item same ∙ l.reads a xs us x (omega (arith, ap length same)) (l.comma q (ys ++ rest)))
    ∙ further_reads l y n q (found ++ a ∷ []) rest (omega (arith, ap length same)) (omega (arith, ap length same)) behind stop
    ∙ ap (λ (z : List _). Ok (z, rest)) (append_assoc found (a ∷ []) bs)

pub commas_complete : {A : Type 0} {Item : A → Tokens → Type 0} {item : Parser A} {d : ℕ} {Behind : Tokens → Type 0} {bs : List A} {xs : Tokens} → Listed Item item d Behind → Commas Item bs xs
    → (rest : Tokens) → length (xs ++ rest) ≤ d → Behind rest → sees punct.Comma rest ≡ false → commas_of item (xs ++ rest) ≡ Ok (bs, rest)
commas_complete {A = A} {item = item} l (one {a = a} {xs = xs} x) rest fits behind stop =
    ap (λ (r : Outcome A). and_then r (further_of item)) (l.reads a xs rest x fits behind) ∙ further_stop item (length rest) (a ∷ []) rest stop
commas_complete {A = A} {item = item} l (more {a = a} {bs = bs} {xs = xs} {ys = ys} q x y) rest fits behind stop =
    let us = sign q punct.Comma ∷ (ys ++ rest) in
    let same : (xs ++ sign q punct.Comma ∷ ys) ++ rest ≡ xs ++ us = append_assoc xs (sign q punct.Comma ∷ ys) rest in
    let long = length-append xs us in
    ap (commas_of item) same
    ∙ ap (λ (r : Outcome A). and_then r (further_of item)) (l.reads a xs us x (omega (arith, ap length same)) (l.comma q (ys ++ rest)))
    ∙ further_reads l y (length us) q (a ∷ []) rest (omega arith) (omega (arith, ap length same)) behind stop
