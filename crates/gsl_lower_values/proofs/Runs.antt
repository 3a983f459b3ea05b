-- Numbers in a row, and what is made of each.
use Rattle.std.proofs.Common.{◌≡◌, refl, sym, ap, ◌∙◌, ℕ, suc, ◌+◌, ◌-◌, ◌<◌, List, [], ◌∷◌, ◌++◌, map, arith, append_assoc, append-nil}
use Rattle.std.specs.Prelude.{replicate}
use Rattle.std.specs.List.{range_with_len}
use Rattle.gsl_lower_values.specs.Constructors.{shares}
use Rattle.gsl_lower_values.specs.declared.operand.Operand.{Operand}
use Rattle.gsl_lower_values.specs.declared.operand.Share.{Share}

pub row_on : (numbers new : List ℕ) (k n : ℕ) (whole : List ℕ) → k < n → new ≡ numbers ++ k ∷ [] → numbers ++ range_with_len k (n - k) ≡ whole → new ++ range_with_len (k + 1) (n - (k + 1)) ≡ whole
row_on numbers new k n whole below pushed so_far =
    ap (λ l. l ++ range_with_len (k + 1) (n - (k + 1))) pushed ∙ append_assoc numbers (k ∷ []) (range_with_len (k + 1) (n - (k + 1)))
    ∙ ap (λ m. numbers ++ range_with_len k m) (let e : suc (n - (k + 1)) ≡ n - k = omega (arith, below) in e) ∙ so_far

pub run_on : (f : ℕ → ℕ) (words new : List ℕ) (k n word : ℕ) (whole : List ℕ) → k < n → new ≡ words ++ word ∷ [] → word ≡ f k → words ++ map f (range_with_len k (n - k)) ≡ whole
    → new ++ map f (range_with_len (k + 1) (n - (k + 1))) ≡ whole
run_on f words new k n word whole below pushed is so_far =
    ap (λ l. l ++ map f (range_with_len (k + 1) (n - (k + 1)))) (pushed ∙ ap (λ w. words ++ w ∷ []) is) ∙ append_assoc words (f k ∷ []) (map f (range_with_len (k + 1) (n - (k + 1))))
    ∙ ap (λ m. words ++ map f (range_with_len k m)) (let e : suc (n - (k + 1)) ≡ n - k = omega (arith, below) in e) ∙ so_far

none_shared : (args : List Operand) → shares 0 args ≡ []
none_shared [] = refl
none_shared (a ∷ args) = refl

-- where no more components are wanted, the other arguments have no share
pub none_wanted : (wanted : ℕ) (args : List Operand) (front whole : List Share) → wanted ≡ 0 → front ++ shares wanted args ≡ whole → front ≡ whole
none_wanted wanted args front whole none so_far = sym (ap (λ n. front ++ shares n args) none ∙ ap (λ l. front ++ l) (none_shared args) ∙ append-nil front) ∙ so_far

pub copy_on : (copies new : List ℕ) (k n id : ℕ) (whole : List ℕ) → k < n → new ≡ copies ++ id ∷ [] → copies ++ replicate (n - k) id ≡ whole → new ++ replicate (n - (k + 1)) id ≡ whole
copy_on copies new k n id whole below pushed so_far =
    ap (λ l. l ++ replicate (n - (k + 1)) id) pushed ∙ append_assoc copies (id ∷ []) (replicate (n - (k + 1)) id)
    ∙ ap (λ m. copies ++ replicate m id) (let e : suc (n - (k + 1)) ≡ n - k = omega (arith, below) in e) ∙ so_far
