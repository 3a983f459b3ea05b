-- The runs of a switch from the last target on.
use Rattle.std.proofs.Common.{◌≡◌, ℕ, List, [], ◌∷◌, ◌++◌, refl, ap, ◌∙◌}
use Rattle.gsl_blocks.specs.declared.around.Around.{Around}
use Rattle.gsl_blocks.specs.declared.around.Due.{Due}
use Rattle.gsl_blocks.specs.Around.{in_case}
use Rattle.gsl_blocks.specs.Order.{run, first_or, cases}

first_before : (last a : ℕ) (arms : List ℕ) → first_or last (arms ++ a ∷ []) ≡ first_or a arms
first_before last a [] = refl
first_before last a (l ∷ arms) = refl

-- with one more target behind them
pub cases_last : (c : Around) (m last a : ℕ) (arms : List ℕ) (later : List Due) → cases c m last (arms ++ a ∷ []) later ≡ cases c m a arms (run a (in_case c m last) ∷ later)
cases_last c m last a [] later = refl
cases_last c m last a (l ∷ arms) later =
    ap (λ next. run l (in_case c m next) ∷ cases c m last (arms ++ a ∷ []) later) (first_before last a arms) ∙ ap (λ ds. run l (in_case c m (first_or a arms)) ∷ ds) (cases_last c m last a arms later)
