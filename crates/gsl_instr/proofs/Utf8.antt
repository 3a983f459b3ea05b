-- Bytes that are UTF-8.
use Rattle.std.proofs.Common.{◌≡◌, ℕ, ◌/◌, ◌+◌, ◌<◌, Bool, true, false, cond, ltb, List, [], ◌∷◌, ◌++◌, refl, sym, subst, ◌∙◌, arith}
use lib.Utf8.{scalar, scalars, encode, encodes, next, scalar_cases}
use Rattle.std.proofs.Common.{⊎_elim}
use Rattle.std.proofs.lemmas.Bool.{and_parts, ltb-true}
use Rattle.gsl_base.specs.Ranges.{AreBytes}
use Rattle.std.proofs.lemmas.Bool.{false_from_ne_true}
use Rattle.std.proofs.lemmas.Str.{IsUtf8-from_is_utf8, is_utf8-from_IsUtf8}
use Rattle.std.specs.Prelude.{Result, Ok, Err, MatchResult}
use Rattle.std.specs.Result.{is_ok}
use Rattle.std.specs.Str.{IsUtf8, is_utf8}

-- a test by the library
pub utf8_test : {A E : Type 0} (bytes : List ℕ) (made : Result A E) (ok : Bool) (Q : A → Type 0) (R : E → Type 0) → ok ≡ is_ok made →
    MatchResult made (λ s. Q s × IsUtf8 bytes) (λ e. (IsUtf8 bytes → ⊥) × R e) → ok ≡ is_utf8 bytes
utf8_test bytes (Ok s) ok Q R same good = same ∙ sym (is_utf8-from_IsUtf8 bytes good.1)
utf8_test bytes (Err e) ok Q R same bad = same ∙ sym (false_from_ne_true _ (λ t. bad.0 (IsUtf8-from_is_utf8 bytes t)))

-- what a choice by a test is, on both ways
by_test : (P : List ℕ → Type 0) (t : Bool) (x y : List ℕ) → (t ≡ true → P x) → (t ≡ false → P y) → P (cond t x y)
by_test P true x y on_true on_false = on_true refl
by_test P false x y on_true on_false = on_false refl

encode_bytes : (c : ℕ) → c < 1114112 → AreBytes (encode c)
unfolding encode
encode_bytes c small =
    by_test AreBytes (ltb c 128) _ _ (λ e. (one c (ltb-true _ _ e), tt))
    (λ e. by_test AreBytes (ltb c 2048) _ _ (λ f. (two c (ltb-true _ _ f), (later c, tt)))
    (λ f. by_test AreBytes (ltb c 65536) _ _ (λ g. (three c (ltb-true _ _ g), (later (c / 64), (later c, tt)))) (λ g. (four c small, (later (c / 4096), (later (c / 64), (later c, tt)))))))
  where
    one : (c : ℕ) → c < 128 → c < 256
    one c h = omega arith

    two : (c : ℕ) → c < 2048 → 192 + c / 64 < 256
    two c h = omega arith

    three : (c : ℕ) → c < 65536 → 224 + c / 4096 < 256
    three c h = omega arith

    four : (c : ℕ) → c < 1114112 → 240 + c / 262144 < 256
    four c h = omega arith

    later : (c : ℕ) → next c < 256
    later c = omega arith

bytes-append : (xs ys : List ℕ) → AreBytes xs → AreBytes ys → AreBytes (xs ++ ys)
bytes-append [] ys a b = b
bytes-append (x ∷ xs) ys a b = (a.0, bytes-append xs ys a.1 b)

scalar_small : (c : ℕ) → scalar c ≡ true → c < 1114112
scalar_small c e = ⊎_elim (λ h. omega arith) (λ h. h.1) (scalar_cases c e)

encodes_bytes : (cs : List ℕ) → scalars cs ≡ true → AreBytes (encodes cs)
encodes_bytes [] all = tt
encodes_bytes (c ∷ cs) all =
    let parts = and_parts (scalar c) (scalars cs) all in
    bytes-append (encode c) (encodes cs) (encode_bytes c (scalar_small c parts.0)) (encodes_bytes cs parts.1)

-- a text's bytes are bytes
pub utf8_bytes : (text : List ℕ) → IsUtf8 text → AreBytes text
utf8_bytes text u = subst AreBytes u.1.1 (encodes_bytes u.0 u.1.0)
