-- Blocks in buffers, one after the other.
use Rattle.std.proofs.Common.{◌≡◌, refl, sym, ap, ◌∙◌, ℕ, zero, suc, ◌+◌, ◌≤◌, min, List, [], ◌∷◌, map, drop, length, slice_get, Option, Some, None, subst, inl, inr, arith}
use Rattle.std.specs.Prelude.{Bool, true, false, not, ◌&&◌, if◌then◌else◌}
use Rattle.std.specs.List.{AllByRecursion}
use Rattle.std.proofs.lemmas.Option.{none-some}
use Rattle.std.proofs.lemmas.Bool.{cases_lt}
use Rattle.std.proofs.lemmas.List.{drop_all}
use Rattle.gsl_compute.proofs.Loops.{opened}
use Rattle.gsl_base.specs.declared.input.Buffer.{Buffer}
use Rattle.gsl_types.specs.declared.ty.StructType.{StructType}
use Rattle.gsl_values.specs.declared.value.Value.{Value}
use Rattle.gsl_views.specs.Buffers.{is_at}
use Rattle.gsl_tree.specs.declared.unit.Block.{Block}
use Rattle.gsl_tree.specs.Laying.{layout_of}
use Rattle.gsl_tree.specs.WellTyped.{is_push}
use Rattle.gsl_meaning.specs.Blocks.{put_block, put_blocks, put_value}
use Rattle.gsl_block_words.specs.Blocked.{stands_at, put_where, put_into, put_all}

abbrev or_else : {X : Type 0} → X → Option X → X
or_else d None = d
or_else d (Some x) = x

pub holds_at : {X : Type 0} (P : X → Type 0) (xs : List X) (k : ℕ) (x : X) → AllByRecursion P xs → slice_get xs k ≡ Some x → P x
holds_at P [] k x all is = let never : ⊥ = none-some _ is in elim never [ ]
holds_at P (y ∷ xs) zero x all is = subst P (ap (or_else y) is) all.0
holds_at P (y ∷ xs) (suc k) x all is = holds_at P xs k x all.1 is

map_map : {X Y Z : Type 0} (f : Y → Z) (g : X → Y) (xs : List X) → map f (map g xs) ≡ map (λ x. f (g x)) xs
map_map f g [] = refl
map_map f g (x ∷ xs) = ap (λ l. f (g x) ∷ l) (map_map f g xs)

same_map : {X Y : Type 0} (f g : X → Y) → ((x : X) → f x ≡ g x) → (xs : List X) → map f xs ≡ map g xs
same_map f g same [] = refl
same_map f g same (x ∷ xs) = ap (λ y. y ∷ map f xs) (same x) ∙ ap (λ l. g x ∷ l) (same_map f g same xs)

same_items : {X : Type 0} (f : X → X) → ((x : X) → f x ≡ x) → (xs : List X) → xs ≡ map f xs
same_items f same [] = refl
same_items f same (x ∷ xs) = ap (λ y. y ∷ xs) (sym (same x)) ∙ ap (λ l. f x ∷ l) (same_items f same xs)

module _ (structs : List StructType) where
  one_by : (b : Bool) (block : Block) (v : Value) (blocks : List Block) (vs : List Value) (buffer : Buffer)
      → put_all structs blocks vs (if b then record buffer { bytes = put_value (layout_of structs block) 0 v buffer.bytes } else buffer)
      ≡ record buffer { bytes = put_into structs blocks vs buffer.set buffer.binding (if b then put_value (layout_of structs block) 0 v buffer.bytes else buffer.bytes) }
  unfolding put_all
  one_by true block v blocks vs buffer = refl
  one_by false block v blocks vs buffer = refl

  one_more : (block : Block) (v : Value) (blocks : List Block) (vs : List Value) (buffer : Buffer) → put_all structs blocks vs (put_block structs block v buffer) ≡ put_all structs (block ∷ blocks) (v ∷ vs) buffer
  unfolding put_all put_where stands_at
  one_more block v blocks vs buffer = one_by (not (is_push block.kind) && is_at block.set block.binding buffer) block v blocks vs buffer

  pub buffer_by_buffer : (blocks : List Block) (vs : List Value) (buffers : List Buffer) → put_blocks structs blocks vs buffers ≡ map (put_all structs blocks vs) buffers
  unfolding put_all
  buffer_by_buffer [] vs buffers = same_items (put_all structs [] vs) (λ b. refl) buffers
  buffer_by_buffer (block ∷ blocks) [] buffers = same_items (put_all structs (block ∷ blocks) []) (λ b. refl) buffers
  buffer_by_buffer (block ∷ blocks) (v ∷ vs) buffers =
      buffer_by_buffer blocks vs (map (put_block structs block v) buffers) ∙ map_map (put_all structs blocks vs) (put_block structs block v) buffers
      ∙ same_map (λ b. put_all structs blocks vs (put_block structs block v b)) (put_all structs (block ∷ blocks) (v ∷ vs)) (one_more block v blocks vs) buffers

  pub into_on : (blocks : List Block) (vs : List Value) (k : ℕ) (block : Block) (v : Value) (set binding : ℕ) (bytes new whole : List ℕ) → slice_get blocks k ≡ Some block → slice_get vs k ≡ Some v
      → new ≡ put_where structs block v set binding bytes → put_into structs (drop k blocks) (drop k vs) set binding bytes ≡ whole → put_into structs (drop (k + 1) blocks) (drop (k + 1) vs) set binding new ≡ whole
  into_on blocks vs k block v set binding bytes new whole at_block at_v is same =
      ap (put_into structs (drop (k + 1) blocks) (drop (k + 1) vs) set binding) is
      ∙ sym (ap (λ l. put_into structs l (drop k vs) set binding bytes) (opened blocks k block at_block) ∙ ap (λ l. put_into structs (block ∷ drop (k + 1) blocks) l set binding bytes) (opened vs k v at_v))
      ∙ same

  no_more_blocks : (vs : List Value) (set binding : ℕ) (bytes : List ℕ) → put_into structs [] vs set binding bytes ≡ bytes
  no_more_blocks [] set binding bytes = refl
  no_more_blocks (v ∷ vs) set binding bytes = refl

  no_more_values : (blocks : List Block) (set binding : ℕ) (bytes : List ℕ) → put_into structs blocks [] set binding bytes ≡ bytes
  no_more_values [] set binding bytes = refl
  no_more_values (b ∷ blocks) set binding bytes = refl

  pub into_end : (blocks : List Block) (vs : List Value) (k set binding : ℕ) (bytes whole : List ℕ) → min (length blocks) (length vs) ≤ k → put_into structs (drop k blocks) (drop k vs) set binding bytes ≡ whole → bytes ≡ whole
  into_end blocks vs k set binding bytes whole past same =
      elim (cases_lt k (length blocks)) as (λ _. bytes ≡ whole) [
        | inl long ↦ sym (ap (λ l. put_into structs (drop k blocks) l set binding bytes) (drop_all k vs (omega (arith, past, long))) ∙ no_more_values (drop k blocks) set binding bytes) ∙ same
        | inr short ↦ sym (ap (λ l. put_into structs l (drop k vs) set binding bytes) (drop_all k blocks short) ∙ no_more_blocks (drop k vs) set binding bytes) ∙ same
      ]
