-- Strings as they are written stand in a line.
use Rattle.std.proofs.Common.{◌≡◌, ◌≢◌, ℕ, ◌+◌, ◌/◌, ◌<◌, ◌≤◌, Bool, true, false, not, ◌||◌, eqb, ltb, List, [], ◌∷◌, ◌++◌, refl, ap, sym, subst, ◌∙◌, arith, append-nil}
use lib.Utf8.{scalar, scalars, encode, encodes, next}
use Rattle.std.proofs.lemmas.Bool.{cond_both, cond-false, and_parts, and_from, or_parts, or_from, lt-ltb, ltb-true, ne_eqb, not-true, cases_lt}
use Rattle.std.proofs.Common.{⊎_elim}
use Rattle.std.proofs.lemmas.Grind.{flat_map-append}
use Rattle.std.proofs.lemmas.List.Elements.{All-head, All-tail}
use Rattle.std.proofs.lemmas.List.Folds.{list_all-append}
use Rattle.std.proofs.lemmas.Str.{IsUtf8-append, IsUtf8-nil, encode_ascii}
use Rattle.std.specs.Prelude.{All}
use Rattle.std.specs.List.{list_all, list_any}
use Rattle.std.specs.Str.{IsUtf8}
use Rattle.gsl_text.proofs.Splitting.{NoLf, NoCr}
use Rattle.gsl_asm.specs.Words.{escape, escaped, quoted}
use Rattle.gsl_asm.proofs.Ascii.{ascii_text}

-- a byte that may stand in a line: no LF, no CR and no zero
abbrev pub is_clean : ℕ → Bool
is_clean byte = not (eqb byte 10 || eqb byte 13 || eqb byte 0)

clean_parts : (b : ℕ) → is_clean b ≡ true → (eqb b 10 ≡ false) × (eqb b 13 ≡ false) × (eqb b 0 ≡ false)
clean_parts b e =
    let p = or_parts (eqb b 10 || eqb b 13) (eqb b 0) (not-true _ e) in
    let q = or_parts (eqb b 10) (eqb b 13) p.0 in
    (q.0, q.1, p.1)

pub all_append : (test : ℕ → Bool) (a b : List ℕ) → list_all test a ≡ true → list_all test b ≡ true → list_all test (a ++ b) ≡ true
all_append test a b all_a all_b = list_all-append test a b ∙ and_from _ _ all_a all_b

pub clean_lf : (bytes : List ℕ) → list_all is_clean bytes ≡ true → NoLf bytes
clean_lf [] all = refl
clean_lf (b ∷ bytes) all = let p = and_parts (is_clean b) _ all in or_from _ _ (clean_parts b p.0).0 (clean_lf bytes p.1)

pub clean_cr : (bytes : List ℕ) → list_all is_clean bytes ≡ true → NoCr bytes
clean_cr [] all = refl
clean_cr (b ∷ []) all = let p = and_parts (is_clean b) _ all in cond-false _ _ _ (clean_parts b p.0).1
clean_cr (b ∷ c ∷ bytes) all = let p = and_parts (is_clean b) _ all in ap (λ l. b ∷ l) (clean_cr (c ∷ bytes) p.1)

pub clean_zero : (bytes : List ℕ) → list_all is_clean bytes ≡ true → list_any (λ byte. eqb byte 0) bytes ≡ false
clean_zero [] all = refl
clean_zero (b ∷ bytes) all = let p = and_parts (is_clean b) _ all in or_from _ _ (clean_parts b p.0).2 (clean_zero bytes p.1)

-- Characters that are written as they are, and those behind a backslash -------------------------------------------

abbrev AreHigh : List ℕ → Type 0
AreHigh [] = Unit {0}
AreHigh (b ∷ bytes) = (128 ≤ b) × AreHigh bytes

next_high : (c : ℕ) → 128 ≤ next c
next_high c = omega arith

encode_high : (c : ℕ) → 128 ≤ c → AreHigh (encode c)
unfolding encode
encode_high c large =
    cond_both (ltb c 128) _ _ AreHigh (λ e. absurd (low (ltb-true _ _ e)))
    (λ e. cond_both (ltb c 2048) _ _ AreHigh (λ f. (two, (next_high c, tt)))
    (λ f. cond_both (ltb c 65536) _ _ AreHigh (λ g. (three, (next_high (c / 64), (next_high c, tt)))) (λ g. (four, (next_high (c / 4096), (next_high (c / 64), (next_high c, tt)))))))
  where
    low : c < 128 → ⊥
    low h = omega arith

    two : 128 ≤ 192 + c / 64
    two = omega arith

    three : 128 ≤ 224 + c / 4096
    three = omega arith

    four : 128 ≤ 240 + c / 262144
    four = omega arith

high_same : (bytes : List ℕ) → AreHigh bytes → escaped bytes ≡ bytes
high_same [] all = refl
high_same (b ∷ bytes) all = ap (λ l. l ++ escaped bytes) (one b all.0) ∙ ap (λ l. b ∷ l) (high_same bytes all.1)
  where
    one : (b : ℕ) → 128 ≤ b → escape b ≡ b ∷ []
    one b high =
        cond-false _ _ _ (ne_eqb b 34 (λ e. omega arith)) ∙ cond-false _ _ _ (ne_eqb b 92 (λ e. omega arith)) ∙ cond-false _ _ _ (ne_eqb b 10 (λ e. omega arith))
        ∙ cond-false _ _ _ (ne_eqb b 13 (λ e. omega arith))

low_ascii : (b : ℕ) → b < 128 → list_all (λ c. ltb c 128) (escape b) ≡ true
low_ascii b low =
    cond_both (eqb b 34) _ _ IsLow (λ e. refl)
    (λ e. cond_both (eqb b 92) _ _ IsLow (λ f. refl) (λ f. cond_both (eqb b 10) _ _ IsLow (λ g. refl) (λ g. cond_both (eqb b 13) _ _ IsLow (λ h. refl) (λ h. and_from _ _ (lt-ltb _ _ low) refl))))
  where
    IsLow : List ℕ → Type 0
    IsLow bytes = list_all (λ c. ltb c 128) bytes ≡ true

escaped_char : (c : ℕ) → scalar c ≡ true → IsUtf8 (escaped (encode c))
escaped_char c fine = ⊎_elim low high (cases_lt c 128)
  where
    low : c < 128 → IsUtf8 (escaped (encode c))
    low h = subst (λ l. IsUtf8 (escaped l)) (sym (encode_ascii c h)) (subst IsUtf8 (sym (append-nil (escape c))) (ascii_text (escape c) (low_ascii c h)))

    high : 128 ≤ c → IsUtf8 (escaped (encode c))
    high h = subst IsUtf8 (sym (high_same (encode c) (encode_high c h))) (c ∷ [], (and_from _ _ fine refl, append-nil (encode c)))

escaped_chars : (cs : List ℕ) → scalars cs ≡ true → IsUtf8 (escaped (encodes cs))
escaped_chars [] all = IsUtf8-nil
escaped_chars (c ∷ cs) all =
    let p = and_parts (scalar c) (scalars cs) all in
    subst IsUtf8 (sym (flat_map-append escape (encode c) (encodes cs))) (IsUtf8-append (escaped (encode c)) (escaped (encodes cs)) (escaped_char c p.0) (escaped_chars cs p.1))

pub quoted_utf8 : (text : List ℕ) → IsUtf8 text → IsUtf8 (quoted text)
quoted_utf8 text u =
    let inner : IsUtf8 (escaped text) = subst (λ t. IsUtf8 (escaped t)) u.1.1 (escaped_chars u.0 u.1.0) in
    IsUtf8-append (34 ∷ []) (escaped text ++ 34 ∷ []) (ascii_text (34 ∷ []) refl) (IsUtf8-append (escaped text) (34 ∷ []) inner (ascii_text (34 ∷ []) refl))

clean_escape : (b : ℕ) → b ≢ 0 → list_all is_clean (escape b) ≡ true
clean_escape b some =
    cond_both (eqb b 34) _ _ AreClean (λ e. refl)
    (λ e. cond_both (eqb b 92) _ _ AreClean (λ f. refl)
    (λ f. cond_both (eqb b 10) _ _ AreClean (λ g. refl)
    (λ g. cond_both (eqb b 13) _ _ AreClean (λ h. refl) (λ h. and_from _ _ (ap not (or_from _ _ (or_from _ _ g h) (ne_eqb b 0 some))) refl))))
  where
    AreClean : List ℕ → Type 0
    AreClean bytes = list_all is_clean bytes ≡ true

clean_escaped : (text : List ℕ) → All (λ byte. byte ≢ 0) text → list_all is_clean (escaped text) ≡ true
clean_escaped [] all = refl
clean_escaped (b ∷ text) all =
    all_append is_clean (escape b) (escaped text) (clean_escape b (All-head (λ byte. byte ≢ 0) b text all)) (clean_escaped text (All-tail (λ byte. byte ≢ 0) b text all))

pub clean_quoted : (text : List ℕ) → All (λ byte. byte ≢ 0) text → list_all is_clean (quoted text) ≡ true
clean_quoted text all = all_append is_clean (escaped text) (34 ∷ []) (clean_escaped text all) refl
