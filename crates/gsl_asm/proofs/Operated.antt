-- Operands are read where they are written, and nowhere else.
use Rattle.std.proofs.Common.{◌≡◌, ◌≢◌, ℕ, true, false, not, cond, ◌&&◌, eqb, List, [], ◌∷◌, Option, Some, refl, ap, sym, subst, ◌∙◌}
use Rattle.std.proofs.lemmas.Bool.{cond-true, cond-false, and_parts, and_from, or_parts, or_from, eqb-true, eqb-false, eq-eqb, ne_eqb, not-true, true≢false}
use Rattle.std.proofs.lemmas.List.Elements.{All-nil, All-cons, All-head, All-tail}
use Rattle.std.proofs.lemmas.Str.{IsUtf8-from_is_utf8, is_utf8-from_IsUtf8}
use Rattle.std.specs.Prelude.{All}
use Rattle.std.specs.List.{list_any}
use Rattle.std.specs.Str.{is_utf8}
use Rattle.gsl_instr.specs.declared.slot.Enumeration.TheVariants.{BuiltIn}
use Rattle.gsl_instr.specs.declared.slot.Slot.{Slot}
use Rattle.gsl_instr.specs.declared.slot.Slot.TheVariants.{Result, Id, Forward, Number, Named, OfDecoration, Text}
use Rattle.gsl_instr.specs.declared.enumerant.decoration.TheConstants as decoration
use Rattle.gsl_instr.specs.Strings.{string_words}
use Rattle.gsl_text.specs.Numbers.{unsigned}
use Rattle.gsl_words.specs.declared.target.Target.{Target}
use Rattle.gsl_asm.specs.declared.word.Word.{Word}
use Rattle.gsl_asm.specs.declared.word.Word.TheVariants.{Plain, Quoted}
use Rattle.gsl_asm.specs.Operands.{id_of, enumerant_of, IsOperand}
use Rattle.gsl_asm.specs.Reading.{one, operand_of}
use Rattle.gsl_asm.proofs.Binds.{cond_some, map_some}

-- no byte is zero
pub no_zero : (bytes : List ℕ) → list_any (λ byte. eqb byte 0) bytes ≡ false → All (λ byte. byte ≢ 0) bytes
no_zero [] e = All-nil (λ byte. byte ≢ 0)
no_zero (b ∷ bytes) e =
    let p = or_parts (eqb b 0) _ e in
    All-cons (λ byte. byte ≢ 0) b bytes (λ z. true≢false (sym (eq-eqb b 0 z) ∙ p.0)) (no_zero bytes p.1)

pub zero_free : (bytes : List ℕ) → All (λ byte. byte ≢ 0) bytes → list_any (λ byte. eqb byte 0) bytes ≡ false
zero_free [] all = refl
zero_free (b ∷ bytes) all = or_from _ _ (ne_eqb b 0 (All-head (λ byte. byte ≢ 0) b bytes all)) (zero_free bytes (All-tail (λ byte. byte ≢ 0) b bytes all))

-- an operand that is written is read
pub operand_read : (target : Target) (last : ℕ) (slot : Slot) (word : Word) (args : List ℕ) → IsOperand target last slot word args → operand_of target last slot word ≡ Some args
unfolding operand_of
operand_read target last slot word args (IsOperand.result w n e) = ap one e
operand_read target last slot word args (IsOperand.id w n e) = ap one e
operand_read target last slot word args (IsOperand.forward w n e) = ap one e
operand_read target last slot word args (IsOperand.number w n e) = ap one e
operand_read target last slot word args (IsOperand.enumerant kind w n e) = ap one e
operand_read target last slot word args (IsOperand.built_in w n is e) = cond-true _ _ _ (eq-eqb last decoration.BUILT_IN is) ∙ ap one e
operand_read target last slot word args (IsOperand.literal w n other e) = cond-false _ _ _ (ne_eqb last decoration.BUILT_IN other) ∙ ap one e
operand_read target last slot word args (IsOperand.text bytes is) = cond-true _ _ _ (and_from _ _ (is_utf8-from_IsUtf8 bytes is.0) (ap not (zero_free bytes is.1)))

by_one : (found : Option ℕ) (args : List ℕ) (P : List ℕ → Type 0) → ((n : ℕ) → found ≡ Some n → P (n ∷ [])) → one found ≡ Some args → P args
by_one found args P each e = let m = map_some (λ (n : ℕ). n ∷ []) found args e in subst P m.2 (each m.0 m.1)

-- an operand that is read is written so
pub operand_is : (target : Target) (last : ℕ) (slot : Slot) (word : Word) (args : List ℕ) → operand_of target last slot word ≡ Some args → IsOperand target last slot word args
unfolding operand_of
operand_is target last Result (Plain w) args e = by_one (id_of w) args (IsOperand target last Result (Plain w)) (λ n is. IsOperand.result w n is) e
operand_is target last Id (Plain w) args e = by_one (id_of w) args (IsOperand target last Id (Plain w)) (λ n is. IsOperand.id w n is) e
operand_is target last Forward (Plain w) args e = by_one (id_of w) args (IsOperand target last Forward (Plain w)) (λ n is. IsOperand.forward w n is) e
operand_is target last Number (Plain w) args e = by_one (unsigned w) args (IsOperand target last Number (Plain w)) (λ n is. IsOperand.number w n is) e
operand_is target last (Named kind) (Plain w) args e = by_one (enumerant_of target kind w) args (IsOperand target last (Named kind) (Plain w)) (λ n is. IsOperand.enumerant kind w n is) e
operand_is target last OfDecoration (Plain w) args e =
    elim (eqb last decoration.BUILT_IN) as
    (λ t. eqb last decoration.BUILT_IN ≡ t → cond t (one (enumerant_of target BuiltIn w)) (one (unsigned w)) ≡ Some args → IsOperand target last OfDecoration (Plain w) args) [
      | true ↦ λ is found. by_one (enumerant_of target BuiltIn w) args (IsOperand target last OfDecoration (Plain w)) (λ n named. IsOperand.built_in w n (eqb-true last decoration.BUILT_IN is) named) found
      | false ↦ λ other found. by_one (unsigned w) args (IsOperand target last OfDecoration (Plain w)) (λ n is. IsOperand.literal w n (eqb-false last decoration.BUILT_IN other) is) found
    ] refl e
operand_is target last Text (Plain w) args e = absurd (cc)
operand_is target last Result (Quoted b) args e = absurd (cc)
operand_is target last Id (Quoted b) args e = absurd (cc)
operand_is target last Forward (Quoted b) args e = absurd (cc)
operand_is target last Number (Quoted b) args e = absurd (cc)
operand_is target last (Named kind) (Quoted b) args e = absurd (cc)
operand_is target last OfDecoration (Quoted b) args e = absurd (cc)
operand_is target last Text (Quoted b) args e =
    let c = cond_some (is_utf8 b && not (list_any (λ byte. eqb byte 0) b)) (string_words b) args e in
    let p = and_parts (is_utf8 b) (not (list_any (λ byte. eqb byte 0) b)) c.0 in
    subst (IsOperand target last Text (Quoted b)) c.1 (IsOperand.text b (IsUtf8-from_is_utf8 b p.0, no_zero b (not-true _ p.1)))
