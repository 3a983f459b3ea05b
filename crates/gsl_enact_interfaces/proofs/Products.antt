-- Products and sums of words.
use Rattle.std.proofs.Common.{◌≡◌, ap, ◌∙◌, ℕ, ◌+◌, ◌*◌, ◌%◌, ◌^◌, arith}
use Rattle.std.proofs.lemmas.Nat.{mul-mod_first}

sums : (x y l : ℕ) → ((x % 2 ^ 32 + y % 2 ^ 32) % 2 ^ 32 + l) % 2 ^ 32 ≡ (x + y + l) % 2 ^ 32
sums x y l = omega arith

pub index_is : (a b c s t : ℕ) → (((a * s % 2 ^ 32) * t % 2 ^ 32 + b * s % 2 ^ 32) % 2 ^ 32 + c) % 2 ^ 32 ≡ (a * s * t + b * s + c) % 2 ^ 32
index_is a b c s t = ap (λ n. ((n + b * s % 2 ^ 32) % 2 ^ 32 + c) % 2 ^ 32) (mul-mod_first (a * s) t (2 ^ 32)) ∙ sums (a * s * t) (b * s) c
