-- How the text goes on from one byte to the next.
use Rattle.std.proofs.Common.{◌≡◌, ℕ, zero, suc, ◌+◌, ◌<◌, ◌≤◌, Bool, true, false, cond, not, ◌&&◌, List, [], ◌∷◌, length, get_or, take, ◌-◌, drop, Some, None, refl, ap, sym, ◌∙◌, arith, eqb, ltb, length-drop}
use Rattle.std.proofs.lemmas.Bool.{and_parts, eqb-true, cond-false, or_parts, ltb-true, lt-ltb, true≢false}
use Rattle.std.proofs.lemmas.List.{take_rest}
use Rattle.gsl_lex.specs.declared.text.Char.{Char}
use Rattle.gsl_lex.specs.Lines.{is_plain, is_end, is_pair, unified, one_ends, numbered, joined, text_from, end_len, after_join}

-- a line end becomes one LF
pub ends_at : (bytes : List ℕ) → 0 < end_len bytes → one_ends bytes ≡ 10 ∷ one_ends (drop (end_len bytes) bytes)
ends_at [] some = absurd (omega arith)
ends_at (a ∷ []) some =
    elim (is_end a) as (λ e. is_end a ≡ e → 0 < cond e 1 0 → cond e 10 a ∷ [] ≡ 10 ∷ one_ends (drop (cond e 1 0) (a ∷ [])))
    [ true ↦ λ e h. refl | false ↦ λ e h. absurd (omega arith) ] refl some
ends_at (a ∷ b ∷ rest) some =
    elim (is_pair a b) as (λ p. 0 < cond p 2 (cond (is_end a) 1 0) → cond p (10 ∷ one_ends rest) (unified a ∷ one_ends (b ∷ rest)) ≡ 10 ∷ one_ends (drop (cond p 2 (cond (is_end a) 1 0)) (a ∷ b ∷ rest))) [
      | true ↦ λ h. refl
      | false ↦ λ h. elim (is_end a) as (λ e. 0 < cond e 1 0 → cond e 10 a ∷ one_ends (b ∷ rest) ≡ 10 ∷ one_ends (drop (cond e 1 0) (a ∷ b ∷ rest)))
          [ true ↦ λ g. refl | false ↦ λ g. absurd (omega arith) ] h
    ] some

-- any other byte stays
pub byte_at : (a : ℕ) (rest : List ℕ) → end_len (a ∷ rest) ≡ 0 → (one_ends (a ∷ rest) ≡ a ∷ one_ends rest) × (eqb a 10 ≡ false)
byte_at a [] none =
    elim (is_end a) as (λ e. is_end a ≡ e → ◌≡◌ {A = ℕ} (cond e 1 0) 0 → (cond e 10 a ∷ [] ≡ a ∷ []) × (eqb a 10 ≡ false))
    [ true ↦ λ e h. absurd (omega arith) | false ↦ λ e h. (refl, (or_parts _ _ e).1) ] refl none
byte_at a (b ∷ rest) none =
    elim (is_pair a b) as (λ p. ◌≡◌ {A = ℕ} (cond p 2 (cond (is_end a) 1 0)) 0 → (cond p (10 ∷ one_ends rest) (unified a ∷ one_ends (b ∷ rest)) ≡ a ∷ one_ends (b ∷ rest)) × (eqb a 10 ≡ false)) [
      | true ↦ λ h. absurd (omega arith)
      | false ↦ λ h. elim (is_end a) as (λ e. is_end a ≡ e → ◌≡◌ {A = ℕ} (cond e 1 0) 0 → (cond e 10 a ∷ one_ends (b ∷ rest) ≡ a ∷ one_ends (b ∷ rest)) × (eqb a 10 ≡ false))
          [ true ↦ λ e g. absurd (omega arith) | false ↦ λ e g. (refl, (or_parts _ _ e).1) ] refl h
    ] none

-- what is no backslash stays
pub kept : (x : Char) (xs : List Char) → eqb x.byte 92 ≡ false → joined (x ∷ xs) ≡ x ∷ joined xs
kept x [] other = refl
kept x (y ∷ ys) other = cond-false _ _ _ (ap (λ b. b && eqb y.byte 10) other)

-- and so does a backslash before what is no line end
pub kept_before : (x y : Char) (ys : List Char) → eqb y.byte 10 ≡ false → joined (x ∷ y ∷ ys) ≡ x ∷ joined (y ∷ ys)
kept_before x y ys other =
    elim (eqb x.byte 92) as (λ b. cond (b && eqb y.byte 10) (joined ys) (x ∷ joined (y ∷ ys)) ≡ x ∷ joined (y ∷ ys))
    [ true ↦ cond-false _ _ _ other | false ↦ refl ]

not_some : (n : ℕ) → ltb 0 n ≡ false → n ≡ 0
not_some n e = elim (n) as (λ k. ltb 0 k ≡ false → k ≡ 0) [ zero ↦ λ h. refl | suc k ↦ λ h. absurd (true≢false (sym (lt-ltb 0 (suc k) (omega arith)) ∙ h)) ] e

-- a byte with its line
abbrev pub on : ℕ → ℕ → Char
on line a = record { byte = a; line = line }

numbered_end : (line : ℕ) (bytes rest : List ℕ) → bytes ≡ 10 ∷ rest → numbered line bytes ≡ on line 10 ∷ numbered (line + 1) rest
numbered_end line bytes rest e = ap (numbered line) e

numbered_byte : (line a : ℕ) (bytes rest : List ℕ) → bytes ≡ a ∷ rest → eqb a 10 ≡ false → numbered line bytes ≡ on line a ∷ numbered line rest
numbered_byte line a bytes rest e other = ap (numbered line) e ∙ ap (λ n. on line a ∷ numbered n rest) (cond-false _ (line + 1) line other)

guard_some : {A : Type 0} (b : Bool) (x y : A) → cond b (Some x) None ≡ Some y → (b ≡ true) × (x ≡ y)
guard_some true x y e = (refl, cc)
guard_some false x y e = absurd (cc)

guard_none : {A : Type 0} (b : Bool) (x : A) → cond b (Some x) None ≡ None → b ≡ false
guard_none true x e = absurd (cc)
guard_none false x e = refl

backslash_first : (bytes : List ℕ) → one_ends (92 ∷ bytes) ≡ 92 ∷ one_ends bytes
backslash_first [] = refl
backslash_first (b ∷ bytes) = refl

join_taken : (line : ℕ) (bytes : List ℕ) → 0 < end_len bytes → text_from line (92 ∷ bytes) ≡ text_from (line + 1) (drop (end_len bytes) bytes)
unfolding text_from
join_taken line bytes some =
    ap (λ b. joined (numbered line b)) (backslash_first bytes ∙ ap (λ b. 92 ∷ b) (ends_at bytes some))

end_within : (bytes : List ℕ) → length (drop (end_len bytes) bytes) < suc (length bytes)
end_within bytes = rw (length-drop (end_len bytes) bytes) (omega arith)

-- a backslash and the line end behind it are passed over
pub text_join : (line : ℕ) (bytes rest : List ℕ) → after_join bytes ≡ Some rest → (text_from line bytes ≡ text_from (line + 1) rest) × (length rest < length bytes)
text_join line [] rest e = absurd (cc)
text_join line (a ∷ bytes) rest e =
    let met = guard_some _ _ _ e in
    let parts = and_parts (eqb a 92) _ met.0 in
    let some : 0 < end_len bytes = ltb-true _ _ parts.1 in (
      ap (λ b. text_from line (b ∷ bytes)) (eqb-true a 92 parts.0) ∙ join_taken line bytes some ∙ ap (text_from (line + 1)) met.1,
      rw (sym met.1) (end_within bytes),
    )

-- a line end is one LF, and the next byte stands on the next line
pub text_end : (line : ℕ) (bytes : List ℕ) → 0 < end_len bytes → text_from line bytes ≡ on line 10 ∷ text_from (line + 1) (drop (end_len bytes) bytes)
unfolding text_from
text_end line bytes some = ap joined (numbered_end line _ _ (ends_at bytes some)) ∙ kept (on line 10) _ refl

stays : (line a : ℕ) (bytes : List ℕ) → (eqb a 92 && ltb 0 (end_len bytes)) ≡ false → joined (on line a ∷ numbered line (one_ends bytes)) ≡ on line a ∷ joined (numbered line (one_ends bytes))
stays line a [] h = refl
stays line a (b ∷ bytes) met =
    elim (eqb a 92) as (λ c. eqb a 92 ≡ c → (c && ltb 0 (end_len (b ∷ bytes))) ≡ false → joined (on line a ∷ numbered line (one_ends (b ∷ bytes))) ≡ on line a ∷ joined (numbered line (one_ends (b ∷ bytes)))) [
      | true ↦ λ e h.
          let none : end_len (b ∷ bytes) ≡ 0 = not_some _ h in
          let here = byte_at b bytes none in
          ap (λ bs. joined (on line a ∷ numbered line bs)) here.0 ∙ kept_before (on line a) (on line b) _ here.1 ∙ ap (λ bs. on line a ∷ joined (numbered line bs)) (sym here.0)
      | false ↦ λ e h. kept (on line a) _ e
    ] refl met

-- any other byte is the text's next
pub text_byte : (line a : ℕ) (bytes : List ℕ) → after_join (a ∷ bytes) ≡ None → end_len (a ∷ bytes) ≡ 0 → text_from line (a ∷ bytes) ≡ on line a ∷ text_from line bytes
unfolding text_from
text_byte line a bytes no_join none =
    let here = byte_at a bytes none in
    ap joined (numbered_byte line a _ _ here.0 here.1) ∙ stays line a bytes (guard_none _ _ no_join)

at_end : (line : ℕ) (bytes : List ℕ) → length bytes ≡ 0 → text_from line bytes ≡ []
unfolding text_from
at_end line [] none = refl
at_end line (b ∷ bytes) none = absurd (omega arith)

pub text_empty : (line : ℕ) (bytes : List ℕ) → length bytes < 1 → text_from line bytes ≡ []
text_empty line bytes none = at_end line bytes (omega arith)

-- the byte in front, by its place
pub text_first : (line : ℕ) (bytes : List ℕ) → 1 ≤ length bytes → after_join bytes ≡ None → end_len bytes ≡ 0 → text_from line bytes ≡ on line (get_or bytes 0 0) ∷ text_from line (drop 1 bytes)
text_first line [] some no_join none = absurd (omega arith)
text_first line (a ∷ bytes) some no_join none = text_byte line a bytes no_join none

not_so : (b : Bool) → not b ≡ true → b ≡ false
not_so true e = absurd (true≢false (sym e))
not_so false e = refl

plain_len : (a : ℕ) (bytes : List ℕ) → eqb a 13 ≡ false → eqb a 10 ≡ false → end_len (a ∷ bytes) ≡ 0
plain_len a [] no_return no_feed = rw (no_return, no_feed) refl
plain_len a (b ∷ bytes) no_return no_feed = rw (no_return, no_feed) refl

-- what is no line end and no backslash is the text's next
pub plain_first : (line : ℕ) (bytes : List ℕ) → 1 ≤ length bytes → is_plain (get_or bytes 0 0) ≡ true → text_from line bytes ≡ on line (get_or bytes 0 0) ∷ text_from line (drop 1 bytes)
plain_first line [] some plain = absurd (omega arith)
plain_first line (a ∷ bytes) some plain =
    let first = and_parts (not (eqb a 92)) _ plain in
    let ends = and_parts (not (eqb a 13)) _ first.1 in
    text_byte line a bytes (cond-false _ _ _ (ap (λ b. b && ltb 0 (end_len bytes)) (not_so _ first.0))) (plain_len a bytes (not_so _ ends.0) (not_so _ ends.1))

pub drop_rest : (n : ℕ) (bytes : List ℕ) → drop n bytes ≡ take (length bytes - n) (drop n bytes)
drop_rest n bytes = sym (take_rest bytes n)
