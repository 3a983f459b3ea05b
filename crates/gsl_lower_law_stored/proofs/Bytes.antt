-- The bytes of buffers where one has others, and blocks that stand apart.
use Rattle.std.proofs.Common.{◌≡◌, ◌≢◌, refl, sym, ap, ◌∙◌, subst, ℕ, zero, suc, Bool, true, false, ◌==◌, List, [], ◌∷◌, Option, Some, None, if◌then◌else◌}
use Rattle.std.specs.Prelude.{slice_get}
use Rattle.std.proofs.lemmas.Bool.{and_parts, eqb-true}
use Rattle.gsl_base.specs.declared.input.Buffer.{Buffer}
use Rattle.gsl_tree.specs.declared.unit.Block.{Block}
use Rattle.gsl_views.specs.Buffers.{bytes_at, is_at, with_bytes}
use Rattle.gsl_lower_law_members.specs.OfLawBytes.{AreApart, IsApart, StandsAlone}

module _ (set binding : ℕ) (fresh : List ℕ) where
  pub here_again : (old : List ℕ) (buffers : List Buffer) → bytes_at buffers set binding ≡ Some old → bytes_at (with_bytes buffers set binding fresh) set binding ≡ Some fresh
  here_again old [] there = absurd cc
  here_again old (buffer ∷ buffers) there = by (here_again old buffers) (is_at set binding buffer) refl there
    where
      by : (bytes_at buffers set binding ≡ Some old → bytes_at (with_bytes buffers set binding fresh) set binding ≡ Some fresh) → (b : Bool) → is_at set binding buffer ≡ b → (if b then Some buffer.bytes else bytes_at buffers set binding) ≡ Some old
          → bytes_at (if b then record buffer { bytes = fresh } ∷ buffers else buffer ∷ with_bytes buffers set binding fresh) set binding ≡ Some fresh
      by more true e there = ap (λ b. if b then Some fresh else bytes_at buffers set binding) e
      by more false e there = ap (λ b. if b then Some buffer.bytes else bytes_at (with_bytes buffers set binding fresh) set binding) e ∙ more there

  module _ (s b : ℕ) (apart : s ≡ set → b ≡ binding → ⊥) where
    not_there : (buffer : Buffer) → is_at set binding buffer ≡ true → is_at s b buffer ≡ false
    not_there buffer e = by (is_at s b buffer) refl
      where
        by : (c : Bool) → is_at s b buffer ≡ c → is_at s b buffer ≡ false
        by false f = f
        by true f =
            let here = and_parts (buffer.set == set) (buffer.binding == binding) e in
            let there = and_parts (buffer.set == s) (buffer.binding == b) f in
            absurd (apart (sym (eqb-true buffer.set s there.0) ∙ eqb-true buffer.set set here.0) (sym (eqb-true buffer.binding b there.1) ∙ eqb-true buffer.binding binding here.1))

    pub elsewhere : (buffers : List Buffer) → bytes_at (with_bytes buffers set binding fresh) s b ≡ bytes_at buffers s b
    elsewhere [] = refl
    elsewhere (buffer ∷ buffers) = by (elsewhere buffers) (is_at set binding buffer) refl
      where
        by : bytes_at (with_bytes buffers set binding fresh) s b ≡ bytes_at buffers s b → (c : Bool) → is_at set binding buffer ≡ c
            → bytes_at (if c then record buffer { bytes = fresh } ∷ buffers else buffer ∷ with_bytes buffers set binding fresh) s b ≡ (if is_at s b buffer then Some buffer.bytes else bytes_at buffers s b)
        by more true e = ap (λ d. if d then Some fresh else bytes_at buffers s b) (not_there buffer e) ∙ ap (λ d. if d then Some buffer.bytes else bytes_at buffers s b) (sym (not_there buffer e))
        by more false e = ap (λ l. if is_at s b buffer then Some buffer.bytes else l) more

-- ---- blocks that stand apart

same_block : {a b : Block} → Some a ≡ Some b → a ≡ b
same_block e = cc

all_apart : (set binding : ℕ) (blocks : List Block) → AreApart set binding blocks → (k : ℕ) (one : Block) → slice_get blocks k ≡ Some one → IsApart set binding one
all_apart set binding [] apart k one at = absurd (let never : ◌≡◌ {A = Option Block} None (Some one) = at in cc)
all_apart set binding (first ∷ blocks) apart zero one at = subst (IsApart set binding) (same_block at) apart.0
all_apart set binding (first ∷ blocks) apart (suc k) one at = all_apart set binding blocks apart.1 k one at

pub alone_apart : (set binding : ℕ) (blocks : List Block) (number : ℕ) (block : Block) → StandsAlone set binding blocks number block → (k : ℕ) (one : Block) → k ≢ number → slice_get blocks k ≡ Some one → IsApart set binding one
alone_apart set binding [] number block alone k one other at = absurd alone
alone_apart set binding (first ∷ blocks) zero block alone zero one other at = absurd (other refl)
alone_apart set binding (first ∷ blocks) zero block alone (suc k) one other at = all_apart set binding blocks alone.1 k one at
alone_apart set binding (first ∷ blocks) (suc number) block alone zero one other at = subst (IsApart set binding) (same_block at) alone.0
alone_apart set binding (first ∷ blocks) (suc number) block alone (suc k) one other at = alone_apart set binding blocks number block alone.1 k one (λ e. other (ap suc e)) at
