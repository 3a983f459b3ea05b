-- How the code reads, and not the rule, which stands in `Phrases.antt`, `Declarations.antt` and `Statements.antt` of `gsl_syntax`.
-- Lists of items, read from left to right behind those that were found.
use Rattle.std.specs.Prelude.{◌≡◌, ◌<◌, ◌≤◌, ℕ, zero, suc, Bool, false, List, [], ◌∷◌, ◌++◌, length, Ok, if◌then◌else◌}
use Rattle.gsl_base.specs.declared.token.Punct.TheVariants as punct
use Rattle.gsl_expr.specs.Reading.{Tokens, Parser, ◌>>=◌, pure, take_one, sees}

-- as many as begin
unfoldable pub row : {A : Type 0} → (Tokens → Bool) → Parser A → ℕ → List A → Parser (List A)
row begins item zero found = pure found
row begins item (suc n) found = λ ts. if begins ts then (item >>= λ a. row begins item n (found ++ a ∷ [])) ts else Ok (found, ts)

abbrev pub row_of : {A : Type 0} → (Tokens → Bool) → Parser A → Parser (List A)
row_of begins item ts = row begins item (length ts) [] ts

-- one, and then as many as begin
abbrev pub some_of : {A : Type 0} → (Tokens → Bool) → Parser A → Parser (List A)
some_of begins item = item >>= λ a ts. row begins item (length ts) (a ∷ []) ts

-- as many as stand behind commas
unfoldable pub further : {A : Type 0} → Parser A → ℕ → List A → Parser (List A)
further item zero found = pure found
further item (suc n) found = λ ts. if sees punct.Comma ts then (take_one >>= λ _. item >>= λ a. further item n (found ++ a ∷ [])) ts else Ok (found, ts)

-- as many as stand behind commas, behind the first
abbrev pub further_of : {A : Type 0} → Parser A → A → Parser (List A)
further_of item a ts = further item (length ts) (a ∷ []) ts

-- one or more with commas between
abbrev pub commas_of : {A : Type 0} → Parser A → Parser (List A)
commas_of item = item >>= further_of item

-- ---- what a loop asks of what it reads at each turn

-- Behind what is read no more is left than before.
pub record Shrinks {A : Type 0} (item : Parser A) : Type 0 where
  pub shrinks : (ts us : Tokens) (a : A) → item ts ≡ Ok (a, us) → length us ≤ length ts

-- Behind what is read less is left than before, and none begins at the end.
pub record Takes {A : Type 0} (begins : Tokens → Bool) (item : Parser A) : Type 0 where
  pub none : begins [] ≡ false
  pub takes : (ts us : Tokens) (a : A) → item ts ≡ Ok (a, us) → length us < length ts
