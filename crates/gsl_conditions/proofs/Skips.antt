-- `defined` replaced behind some tokens.
use Rattle.std.proofs.Common.{◌≡◌, ℕ, zero, suc, List, [], ◌∷◌, drop, refl}
use Rattle.gsl_base.specs.declared.token.Raw.{Raw}
use Rattle.gsl_macros.specs.Tables.{Entries}
use Rattle.gsl_conditions.specs.Conditions.{unasked}

pub unasked_skips : (table : Entries) (raws : List Raw) (n : ℕ) → unasked table raws n ≡ unasked table (drop n raws) 0
unfolding unasked
unasked_skips table [] zero = refl
unasked_skips table [] (suc n) = refl
unasked_skips table (r ∷ raws) zero = refl
unasked_skips table (r ∷ raws) (suc n) = unasked_skips table raws n
