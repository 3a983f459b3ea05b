-- Strings as operands.
use Rattle.std.proofs.Common.{◌≡◌, ℕ, eqb, true, false, not, List, ◌++◌, refl, ap, sym, subst, ◌∙◌}
use Rattle.std.proofs.lemmas.Bool.{and_from, and_left, cond-true, cond-false, false_from_ne_true}
use Rattle.std.proofs.lemmas.Str.{IsUtf8-from_is_utf8, is_utf8-from_IsUtf8}
use Rattle.std.specs.List.{list_any}
use Rattle.std.specs.Str.{IsUtf8}
use Rattle.gsl_instr.specs.Strings.{string_words}
use Rattle.gsl_asm.specs.Reading.{Added, text_operand}

pub text_bad : (bytes old : List ℕ) → (IsUtf8 bytes → ⊥) → Added false old old (text_operand bytes)
text_bad bytes old bad = subst (Added false old old) (sym (cond-false _ _ _ (and_left _ _ (false_from_ne_true _ (λ e. bad (IsUtf8-from_is_utf8 bytes e)))))) refl

pub text_good : (bytes text old new : List ℕ) → IsUtf8 bytes → list_any (λ byte. eqb byte 0) bytes ≡ false → text ≡ bytes → new ≡ old ++ string_words text → Added true old new (text_operand bytes)
text_good bytes text old new utf8 nonzero same put =
    subst (Added true old new) (sym (cond-true _ _ _ (and_from _ _ (is_utf8-from_IsUtf8 bytes utf8) (ap not nonzero)))) (refl, put ∙ ap (λ t. old ++ string_words t) same)
