-- Bytes below 128 are a text.
use Rattle.std.proofs.Common.{◌≡◌, ℕ, zero, suc, ◌<◌, true, List, [], ◌∷◌, get_or, arith, ltb}
use Rattle.std.proofs.lemmas.Bool.{and_parts, ltb-true}
use Rattle.std.proofs.lemmas.Str.{IsUtf8-from_ascii}
use Rattle.std.specs.List.{list_all}
use Rattle.std.specs.Str.{IsUtf8}

below : (bytes : List ℕ) → list_all (λ b. ltb b 128) bytes ≡ true → (i : ℕ) → get_or bytes i 0 < 128
below [] all i = omega arith
below (b ∷ bytes) all zero = ltb-true b 128 (and_parts _ _ all).0
below (b ∷ bytes) all (suc i) = below bytes (and_parts _ _ all).1 i

pub ascii_text : (bytes : List ℕ) → list_all (λ b. ltb b 128) bytes ≡ true → IsUtf8 bytes
ascii_text bytes all = IsUtf8-from_ascii bytes (below bytes all)
