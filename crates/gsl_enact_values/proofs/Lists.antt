-- Loops that fill lists.
use Rattle.std.proofs.Common.{◌≡◌, ap, ◌∙◌, ℕ, suc, ◌+◌, ◌-◌, ◌<◌, List, [], ◌∷◌, ◌++◌, arith, append_assoc}
use Rattle.std.specs.Prelude.{replicate}
use Rattle.gsl_values.specs.declared.value.Value.{Value}

-- one more of the same values
pub one_more : (v made : Value) (count k : ℕ) (front new whole : List Value) → k < count → new ≡ front ++ made ∷ [] → made ≡ v → front ++ replicate (count - k) v ≡ whole
    → new ++ replicate (count - (k + 1)) v ≡ whole
one_more v made count k front new whole below pushed is so_far =
    ap (λ l. l ++ replicate (count - (k + 1)) v) (pushed ∙ ap (λ x. front ++ x ∷ []) is) ∙ append_assoc front (v ∷ []) (replicate (count - (k + 1)) v)
    ∙ ap (λ n. front ++ replicate n v) (let e : suc (count - (k + 1)) ≡ count - k = omega (arith, below) in e) ∙ so_far
