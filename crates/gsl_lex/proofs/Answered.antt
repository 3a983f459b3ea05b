-- What holds of a definition's answer holds of the call that gives it.
use Rattle.std.proofs.Common.{◌≡◌, ℕ, true, false, List, [], Ok, Err, refl, ap, sym, subst, ◌∙◌}
use Rattle.std.specs.Prelude.{Result, IfOk}
use Rattle.gsl_base.specs.declared.fault.Refusal.{Refusal}
use Rattle.gsl_base.specs.declared.fault.Refusal.TheVariants.{Source, Memory}
use Rattle.gsl_base.specs.declared.token.Raw.{Raw}
use Rattle.gsl_base.specs.Checked.{Checked, Gives}
use Rattle.gsl_lex.specs.Lines.{text_of}
use Rattle.gsl_lex.specs.Cut.{Cutting, IsCutting}
use Rattle.gsl_lex.specs.Reading.{cut_from}
use Rattle.gsl_lex.specs.Raws.{raws_of, raws_on, IsLexed, Answers}
use Rattle.gsl_lex.specs.Ordered.{InLines}
use Rattle.gsl_lex.proofs.Cuts.{some_cutting, one_cutting}
use Rattle.gsl_lex.proofs.Rising.{raws_in_lines}

pub gives_answers : {A : Type 0} (Is : Checked A → Type 0) (given : Result A Refusal) (answer : Checked A) → Gives given answer → Is answer → Answers Is given
gives_answers Is (Ok value) answer same is = subst Is same is
gives_answers Is (Err (Source fault)) answer same is = subst Is same is
gives_answers Is (Err Memory) answer same is = tt

pub is_lexed : (unit : ℕ) (bytes : List ℕ) → IsLexed unit bytes (raws_of unit bytes)
unfolding raws_of
is_lexed unit bytes = (cut_from (text_of bytes) 0, some_cutting (text_of bytes), refl)

pub one_lexed : (unit : ℕ) (bytes : List ℕ) (a b : Checked (List Raw)) → IsLexed unit bytes a → IsLexed unit bytes b → a ≡ b
one_lexed unit bytes a b (c, is_c, a_is) (d, is_d, b_is) = a_is ∙ ap (raws_on unit true false) (one_cutting (text_of bytes) c d is_c is_d) ∙ sym b_is

-- the raw tokens of a cutting that are an answer lie in their lines
lines_on : (unit : ℕ) (bytes : List ℕ) (raws : List Raw) (cutting : Cutting) → IsCutting (text_of bytes) cutting → raws_on unit true false cutting ≡ Ok raws → InLines raws
lines_on unit bytes raws (Ok pieces) cut e = subst InLines (cc) (raws_in_lines unit bytes pieces [] cut)
lines_on unit bytes raws (Err rest) cut e = absurd (cc)

lines_of : (unit : ℕ) (bytes : List ℕ) (raws : List Raw) → raws_of unit bytes ≡ Ok raws → InLines raws
unfolding raws_of
lines_of unit bytes raws e = lines_on unit bytes raws (cut_from (text_of bytes) 0) (some_cutting (text_of bytes)) e

pub gives_lines : (unit : ℕ) (bytes : List ℕ) (given : Result (List Raw) Refusal) → Gives given (raws_of unit bytes) → IfOk given InLines
gives_lines unit bytes (Ok raws) e = lines_of unit bytes raws e
gives_lines unit bytes (Err refusal) e = tt
