-- The buffers of a proper input are as they were with the words of blocks put into them.
use Rattle.std.proofs.Common.{◌≡◌, refl, sym, ap, ◌∙◌, inl, inr, ℕ, Bool, true, false, not, ◌&&◌, ◌==◌, if◌then◌else◌, List, [], ◌∷◌, map, unwrap_or, Some, arith}
use Rattle.std.specs.List.{AllByRecursion}
use Rattle.std.proofs.lemmas.Bool.{and_parts, cond-false, cond-true, eqb-true}
use Rattle.gsl_base.specs.Proper.{Ascends, IsProper, StandsBefore}
use Rattle.gsl_base.specs.Ranges.{FitsBuffer, FitsTypes}
use Rattle.gsl_base.specs.declared.input.Buffer.{Buffer}
use Rattle.gsl_base.specs.declared.input.Input.{Input}
use Rattle.gsl_types.specs.declared.ty.StructType.{StructType}
use Rattle.gsl_tree.specs.Laying.{layout_of}
use Rattle.gsl_tree.specs.WellTyped.{is_push}
use Rattle.gsl_tree.specs.declared.program.Program.{Program}
use Rattle.gsl_tree.specs.declared.unit.Block.{Block}
use Rattle.gsl_views.specs.Buffers.{bytes_at, is_at}
use Rattle.gsl_meaning.specs.Blocks.{begun, given_bytes, put_block, put_blocks, put_value, words_in}
use Rattle.gsl_meaning.specs.Shader.{begins}
use Rattle.gsl_lower_law_buffers.proofs.Kept.{value_kept}

-- ---- lists

all_both : {A : Type 0} (P Q R : A → Type 0) → ((a : A) → P a → Q a → R a) → (items : List A) → AllByRecursion P items → AllByRecursion Q items → AllByRecursion R items
all_both P Q R f [] p q = tt
all_both P Q R f (a ∷ items) p q = (f a p.0 q.0, all_both P Q R f items p.1 q.1)

map_kept : {A : Type 0} (f : A → A) (items : List A) → AllByRecursion (λ a. f a ≡ a) items → map f items ≡ items
map_kept f [] all = refl
map_kept f (a ∷ items) all = ap (λ x. x ∷ map f items) all.0 ∙ ap (λ l. a ∷ l) (map_kept f items all.1)

-- ---- which buffer is found

module _ (set binding : ℕ) where
  at_is : (b : Buffer) → is_at set binding b ≡ true → (b.set ≡ set) × (b.binding ≡ binding)
  at_is b e = let both = and_parts (b.set == set) (b.binding == binding) e in (eqb-true b.set set both.0, eqb-true b.binding binding both.1)

  -- of two that stand one before the other both cannot be there
  before_differs : (a b : Buffer) → StandsBefore a b → is_at set binding b ≡ true → (found : Bool) → is_at set binding a ≡ found → is_at set binding a ≡ false
  before_differs a b before e false is = is
  before_differs a b before e true is = absurd (by before)
    where
      by : StandsBefore a b → ⊥
      by (inl less) = let x = at_is a is in let y = at_is b e in let f = x.0 in let g = y.0 in omega (arith, less, f, g)
      by (inr both) = let x = at_is a is in let y = at_is b e in let f = x.1 in let g = y.1 in let less = both.1 in omega (arith, less, f, g)

  abbrev IsFound : List Buffer → Buffer → Type 0
  IsFound buffers b = is_at set binding b ≡ true → bytes_at buffers set binding ≡ Some b.bytes

  all_found : (buffers : List Buffer) → Ascends StandsBefore buffers → AllByRecursion (IsFound buffers) buffers
  all_found [] ascends = tt
  all_found (a ∷ buffers) ascends = (
    λ e. cond-true (is_at set binding a) (Some a.bytes) (bytes_at buffers set binding) e,
    all_both (StandsBefore a) (IsFound buffers) (IsFound (a ∷ buffers)) (λ b before found e. cond-false (is_at set binding a) (Some a.bytes) (bytes_at buffers set binding) (before_differs a b before e (is_at set binding a) refl) ∙ found e) buffers ascends.0 (all_found buffers ascends.1),
  )

-- ---- blocks

module _ (structs : List StructType) (input : Input) (proper : IsProper input) (fits : FitsTypes input) where
  block_kept : (block : Block) (b : Buffer) → FitsBuffer b → IsFound block.set block.binding input.buffers b → put_block structs block (begun structs input block) b ≡ b
  block_kept block b small found = by (is_push block.kind) refl (is_at block.set block.binding b) refl
    where
      given : is_push block.kind ≡ false → is_at block.set block.binding b ≡ true → given_bytes input block ≡ Some b.bytes
      given push at = cond-false (is_push block.kind) input.push (bytes_at input.buffers block.set block.binding) push ∙ found at

      same_words : is_push block.kind ≡ false → is_at block.set block.binding b ≡ true → put_value (layout_of structs block) 0 (begun structs input block) b.bytes ≡ b.bytes
      same_words push at =
          ap (λ o. put_value (layout_of structs block) 0 (words_in structs block (unwrap_or o [])) b.bytes) (given push at) ∙ value_kept b.bytes small.bytes (layout_of structs block) 0

      by : (push : Bool) → is_push block.kind ≡ push → (at : Bool) → is_at block.set block.binding b ≡ at → (if not push && at then record b { bytes = put_value (layout_of structs block) 0 (begun structs input block) b.bytes } else b) ≡ b
      by true p at a = refl
      by false p false a = refl
      by false p true a = ap (λ bytes. record b { bytes = bytes }) (same_words p a)

  blocks_kept : (blocks : List Block) → put_blocks structs blocks (map (begun structs input) blocks) input.buffers ≡ input.buffers
  blocks_kept [] = refl
  blocks_kept (block ∷ blocks) =
      ap (put_blocks structs blocks (map (begun structs input) blocks))
      (map_kept (put_block structs block (begun structs input block)) input.buffers (all_both FitsBuffer (IsFound block.set block.binding input.buffers) (λ b. put_block structs block (begun structs input block) b ≡ b) (λ b small found. block_kept block b small found) input.buffers fits.buffers (all_found block.set block.binding input.buffers proper.buffers)))
      ∙ blocks_kept blocks

pub all_stay : (p : Program) (input : Input) → IsProper input → FitsTypes input → input.buffers ≡ put_blocks p.structs p.blocks (begins p input).blocks input.buffers
all_stay p input proper fits = sym (blocks_kept p.structs input proper fits p.blocks)
