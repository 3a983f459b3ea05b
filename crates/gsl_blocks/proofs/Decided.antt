-- The reader decides the order.
use Rattle.std.proofs.Common.{◌≡◌, ℕ, true, max, List, [], ◌∷◌, Option, Some, refl, sym, ap, ◌∙◌, subst, append-nil, arith}
use Rattle.gsl_blocks.specs.declared.block.Block.{Block}
use Rattle.gsl_blocks.specs.Around.{outside}
use Rattle.gsl_blocks.specs.Blocks.{labels}
use Rattle.gsl_blocks.specs.Correct.{IsNesting, Decides}
use Rattle.gsl_blocks.specs.Order.{run, IsRun, IsOrdered, ordered}
use Rattle.gsl_blocks.specs.Reading.{reads, reads_with, nesting_of}
use Rattle.gsl_blocks.specs.Targets.{all_differ}
use Rattle.gsl_blocks.proofs.Apart.{apart, once_is}
use Rattle.gsl_blocks.proofs.Complete.{run_read}
use Rattle.gsl_blocks.proofs.Sound.{Read, sound, one}
use Rattle.gsl_blocks.proofs.Steps.{ends}

zero_max : (n : ℕ) → max 0 n ≡ n
zero_max n = omega arith

no_blocks : (bs : List Block) (n : ℕ) → bs ≡ [] → IsOrdered bs n → nesting_of bs ≡ Some n
no_blocks _ n e (ordered r) = absurd cc

-- what is read of a function with these labels
read_of : (b : Block) (bs : List Block) → all_differ (labels (b ∷ bs)) ≡ true → nesting_of (b ∷ bs) ≡ reads (labels (b ∷ bs)) b.label (b ∷ bs) (run b.label outside ∷ []) 0
read_of b bs differ = ap (λ ls. reads_with ls (b ∷ bs)) (once_is [] (labels (b ∷ bs)) differ)

is_read : (fs : List Block) (n : ℕ) → IsOrdered fs n → all_differ (labels fs) ≡ true → nesting_of fs ≡ Some n
is_read _ n (ordered {b = b} {bs = bs} r) differ =
    let ls = labels (b ∷ bs) in
    let whole = append-nil (b ∷ bs) in
    read_of b bs differ
    ∙ ap (λ z. reads ls b.label z (run b.label outside ∷ []) 0) (sym whole)
    ∙ run_read ls b.label (apart [] ls differ) r [] [] [] 0 (ap labels (sym whole))
    ∙ ends ls b.label [] (max 0 n) refl
    ∙ ap Some (zero_max n)

pub decides : Decides
decides [] differ n = (λ e. absurd cc, no_blocks [] n refl)
decides (b ∷ bs) differ n = (λ e. in_order (sound (labels (b ∷ bs)) b.label (b ∷ bs) (run b.label outside ∷ []) 0 n (sym (read_of b bs differ) ∙ e)), λ o. is_read (b ∷ bs) n o differ)
  where
    in_order : Read (labels (b ∷ bs)) b.label (run b.label outside ∷ []) (b ∷ bs) 0 n → IsOrdered (b ∷ bs) n
    in_order r =
        let whole = one (labels (b ∷ bs)) b.label (run b.label outside) r.high (b ∷ bs) r.runs in
        ordered (subst (λ z. IsRun b.label b.label outside z (b ∷ bs)) (sym (r.is ∙ zero_max r.high)) whole)

pub answered : (bs : List Block) (found : Option ℕ) → found ≡ nesting_of bs → IsNesting bs found
answered bs found e = subst (IsNesting bs) (sym e) (decides bs)
