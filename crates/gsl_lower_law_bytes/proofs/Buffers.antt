-- The buffers of blocks, of which one has another value.
use Rattle.std.proofs.Common.{◌≡◌, refl, sym, ap, ◌∙◌, ℕ, zero, suc, Bool, true, false, not, ◌&&◌, ◌==◌, List, [], ◌∷◌, map, set, Some, if◌then◌else◌}
use Rattle.std.specs.Prelude.{slice_get}
use Rattle.std.proofs.lemmas.Bool.{and_parts, eqb-true}
use Rattle.gsl_base.specs.declared.input.Buffer.{Buffer}
use Rattle.gsl_types.specs.declared.ty.StructType.{StructType}
use Rattle.gsl_values.specs.declared.value.Value.{Value}
use Rattle.gsl_tree.specs.Laying.{layout_of}
use Rattle.gsl_tree.specs.WellTyped.{is_push}
use Rattle.gsl_tree.specs.declared.unit.Block.{Block}
use Rattle.gsl_views.specs.Buffers.{bytes_at, is_at, with_bytes}
use Rattle.gsl_meaning.specs.Blocks.{put_block, put_blocks, put_value}
use Rattle.gsl_lower_law_bytes.specs.Apart.{AreApart, IsApart, IsOnly, NoneAt, StandsAlone}

module _ (structs : List StructType) (set_at binding : ℕ) where
  abbrev here : Buffer → Bool
  here buffer = is_at set_at binding buffer

  here_is : (buffer : Buffer) → here buffer ≡ true → (buffer.set ≡ set_at) × (buffer.binding ≡ binding)
  here_is buffer e = let both = and_parts (buffer.set == set_at) (buffer.binding == binding) e in (eqb-true buffer.set set_at both.0, eqb-true buffer.binding binding both.1)

  -- ---- a block that stands elsewhere

  module _ (block : Block) (apart : IsApart set_at binding block) (v : Value) where
    put_other : (buffer : Buffer) → here buffer ≡ true → put_block structs block v buffer ≡ buffer
    put_other buffer e = by (is_push block.kind) refl (is_at block.set block.binding buffer) refl
      where
        by : (push : Bool) → is_push block.kind ≡ push → (at : Bool) → is_at block.set block.binding buffer ≡ at → (if not push && at then record buffer { bytes = put_value (layout_of structs block) 0 v buffer.bytes } else buffer) ≡ buffer
        by true p at a = refl
        by false p false a = refl
        by false p true a =
            let it = here_is buffer e in
            let both = and_parts (buffer.set == block.set) (buffer.binding == block.binding) a in
            absurd (apart p (sym (eqb-true buffer.set block.set both.0) ∙ it.0) (sym (eqb-true buffer.binding block.binding both.1) ∙ it.1))

    here_put : (buffer : Buffer) → here (put_block structs block v buffer) ≡ here buffer
    here_put buffer = by (not (is_push block.kind) && is_at block.set block.binding buffer)
      where
        by : (b : Bool) → here (if b then record buffer { bytes = put_value (layout_of structs block) 0 v buffer.bytes } else buffer) ≡ here buffer
        by true = refl
        by false = refl

    other_bytes : (buffers : List Buffer) → bytes_at (map (put_block structs block v) buffers) set_at binding ≡ bytes_at buffers set_at binding
    other_bytes [] = refl
    other_bytes (buffer ∷ buffers) =
        ap (λ b. if b then Some (put_block structs block v buffer).bytes else bytes_at (map (put_block structs block v) buffers) set_at binding) (here_put buffer) ∙ by (other_bytes buffers) (here buffer) refl
      where
        by : bytes_at (map (put_block structs block v) buffers) set_at binding ≡ bytes_at buffers set_at binding → (b : Bool) → here buffer ≡ b
            → (if b then Some (put_block structs block v buffer).bytes else bytes_at (map (put_block structs block v) buffers) set_at binding) ≡ (if b then Some buffer.bytes else bytes_at buffers set_at binding)
        by more true e = ap (λ (x : Buffer). Some x.bytes) (put_other buffer e)
        by more false e = more

    other_with : (bytes : List ℕ) (buffers : List Buffer) → map (put_block structs block v) (with_bytes buffers set_at binding bytes) ≡ with_bytes (map (put_block structs block v) buffers) set_at binding bytes
    other_with bytes [] = refl
    other_with bytes (buffer ∷ buffers) =
        by (other_with bytes buffers) (here buffer) refl
        ∙ ap (λ b. if b then record (put_block structs block v buffer) { bytes = bytes } ∷ map (put_block structs block v) buffers else put_block structs block v buffer ∷ with_bytes (map (put_block structs block v) buffers) set_at binding bytes) (sym (here_put buffer))
      where
        by : map (put_block structs block v) (with_bytes buffers set_at binding bytes) ≡ with_bytes (map (put_block structs block v) buffers) set_at binding bytes → (b : Bool) → here buffer ≡ b
            → map (put_block structs block v) (if b then record buffer { bytes = bytes } ∷ buffers else buffer ∷ with_bytes buffers set_at binding bytes)
            ≡ (if b then record (put_block structs block v buffer) { bytes = bytes } ∷ map (put_block structs block v) buffers else put_block structs block v buffer ∷ with_bytes (map (put_block structs block v) buffers) set_at binding bytes)
        by more true e =
            ap (λ x. x ∷ map (put_block structs block v) buffers) (put_other (record buffer { bytes = bytes }) e)
            ∙ ap (λ (x : Buffer). record x { bytes = bytes } ∷ map (put_block structs block v) buffers) (sym (put_other buffer e))
        by more false e = ap (λ l. put_block structs block v buffer ∷ l) more

    only_other : (buffers : List Buffer) → IsOnly set_at binding buffers → IsOnly set_at binding (map (put_block structs block v) buffers)
    only_other [] only = tt
    only_other (buffer ∷ buffers) only = (λ e. none_other buffers (only.0 (sym (here_put buffer) ∙ e)), only_other buffers only.1)
      where
        none_other : (buffers : List Buffer) → NoneAt set_at binding buffers → NoneAt set_at binding (map (put_block structs block v) buffers)
        none_other [] none = tt
        none_other (buffer ∷ buffers) none = (here_put buffer ∙ none.0, none_other buffers none.1)

  -- ---- blocks that do

  blocks_bytes : (blocks : List Block) (vs : List Value) (buffers : List Buffer) → AreApart set_at binding blocks → bytes_at (put_blocks structs blocks vs buffers) set_at binding ≡ bytes_at buffers set_at binding
  blocks_bytes [] vs buffers apart = refl
  blocks_bytes (block ∷ blocks) [] buffers apart = refl
  blocks_bytes (block ∷ blocks) (v ∷ vs) buffers apart = blocks_bytes blocks vs (map (put_block structs block v) buffers) apart.1 ∙ other_bytes block apart.0 v buffers

  blocks_with : (bytes : List ℕ) (blocks : List Block) (vs : List Value) (buffers : List Buffer) → AreApart set_at binding blocks → put_blocks structs blocks vs (with_bytes buffers set_at binding bytes) ≡ with_bytes (put_blocks structs blocks vs buffers) set_at binding bytes
  blocks_with bytes [] vs buffers apart = refl
  blocks_with bytes (block ∷ blocks) [] buffers apart = refl
  blocks_with bytes (block ∷ blocks) (v ∷ vs) buffers apart =
      ap (put_blocks structs blocks vs) (other_with block apart.0 v bytes buffers) ∙ blocks_with bytes blocks vs (map (put_block structs block v) buffers) apart.1

  -- ---- the block that stands there

  with_twice : (one other : List ℕ) (buffers : List Buffer) → with_bytes (with_bytes buffers set_at binding one) set_at binding other ≡ with_bytes buffers set_at binding other
  with_twice one other [] = refl
  with_twice one other (buffer ∷ buffers) = by (with_twice one other buffers) (here buffer) refl
    where
      by : with_bytes (with_bytes buffers set_at binding one) set_at binding other ≡ with_bytes buffers set_at binding other → (b : Bool) → here buffer ≡ b
          → with_bytes (if b then record buffer { bytes = one } ∷ buffers else buffer ∷ with_bytes buffers set_at binding one) set_at binding other ≡ (if b then record buffer { bytes = other } ∷ buffers else buffer ∷ with_bytes buffers set_at binding other)
      by more true e = ap (λ b. if b then record buffer { bytes = other } ∷ buffers else record buffer { bytes = one } ∷ with_bytes buffers set_at binding other) e
      by more false e = ap (λ b. if b then record buffer { bytes = other } ∷ with_bytes buffers set_at binding one else buffer ∷ with_bytes (with_bytes buffers set_at binding one) set_at binding other) e ∙ ap (λ l. buffer ∷ l) more

  with_there : (bytes given : List ℕ) (buffers : List Buffer) → bytes_at buffers set_at binding ≡ Some given → bytes_at (with_bytes buffers set_at binding bytes) set_at binding ≡ Some bytes
  with_there bytes given [] there = absurd cc
  with_there bytes given (buffer ∷ buffers) there = by (with_there bytes given buffers) (here buffer) refl there
    where
      by : (bytes_at buffers set_at binding ≡ Some given → bytes_at (with_bytes buffers set_at binding bytes) set_at binding ≡ Some bytes) → (b : Bool) → here buffer ≡ b → (if b then Some buffer.bytes else bytes_at buffers set_at binding) ≡ Some given
          → bytes_at (if b then record buffer { bytes = bytes } ∷ buffers else buffer ∷ with_bytes buffers set_at binding bytes) set_at binding ≡ Some bytes
      by more true e there = ap (λ b. if b then Some bytes else bytes_at buffers set_at binding) e
      by more false e there = ap (λ b. if b then Some buffer.bytes else bytes_at (with_bytes buffers set_at binding bytes) set_at binding) e ∙ more there

  module _ (block : Block) (own : (is_push block.kind ≡ false) × (block.set ≡ set_at) × (block.binding ≡ binding)) where
    own_at : (buffer : Buffer) → (not (is_push block.kind) && is_at block.set block.binding buffer) ≡ here buffer
    own_at buffer = ap (λ b. not b && is_at block.set block.binding buffer) own.0 ∙ ap (λ n. buffer.set == n && buffer.binding == block.binding) own.1 ∙ ap (λ n. buffer.set == set_at && buffer.binding == n) own.2

    none_changes : (v : Value) (buffers : List Buffer) → NoneAt set_at binding buffers → map (put_block structs block v) buffers ≡ buffers
    none_changes v [] none = refl
    none_changes v (buffer ∷ buffers) none =
        ap (λ b. (if b then record buffer { bytes = put_value (layout_of structs block) 0 v buffer.bytes } else buffer) ∷ map (put_block structs block v) buffers) (own_at buffer ∙ none.0) ∙ ap (λ l. buffer ∷ l) (none_changes v buffers none.1)

    own_puts : (v : Value) (given : List ℕ) (buffers : List Buffer) → IsOnly set_at binding buffers → bytes_at buffers set_at binding ≡ Some given → map (put_block structs block v) buffers ≡ with_bytes buffers set_at binding (put_value (layout_of structs block) 0 v given)
    own_puts v given [] only there = absurd cc
    own_puts v given (buffer ∷ buffers) only there =
        ap (λ b. (if b then record buffer { bytes = put_value (layout_of structs block) 0 v buffer.bytes } else buffer) ∷ map (put_block structs block v) buffers) (own_at buffer)
        ∙ by (own_puts v given buffers only.1) (here buffer) refl there
      where
        some_bytes : {a b : List ℕ} → Some a ≡ Some b → a ≡ b
        some_bytes e = cc

        by : (bytes_at buffers set_at binding ≡ Some given → map (put_block structs block v) buffers ≡ with_bytes buffers set_at binding (put_value (layout_of structs block) 0 v given)) → (b : Bool) → here buffer ≡ b → (if b then Some buffer.bytes else bytes_at buffers set_at binding) ≡ Some given
            → ((if b then record buffer { bytes = put_value (layout_of structs block) 0 v buffer.bytes } else buffer) ∷ map (put_block structs block v) buffers)
            ≡ (if b then record buffer { bytes = put_value (layout_of structs block) 0 v given } ∷ buffers else buffer ∷ with_bytes buffers set_at binding (put_value (layout_of structs block) 0 v given))
        by more true e there =
            ap (λ l. record buffer { bytes = put_value (layout_of structs block) 0 v buffer.bytes } ∷ l) (none_changes v buffers (only.0 e))
            ∙ ap (λ bytes. record buffer { bytes = put_value (layout_of structs block) 0 v bytes } ∷ buffers) (some_bytes there)
        by more false e there = ap (λ l. buffer ∷ l) (more there)

  -- ---- all blocks

  module _ (block : Block) (own : (is_push block.kind ≡ false) × (block.set ≡ set_at) × (block.binding ≡ binding)) (given : List ℕ) where
    -- the bytes there are those that were given, with the value of the block put
    pub value_bytes : (blocks : List Block) (number : ℕ) (vs : List Value) (v : Value) (buffers : List Buffer) → StandsAlone set_at binding blocks number block → IsOnly set_at binding buffers → bytes_at buffers set_at binding ≡ Some given → slice_get vs number ≡ Some v
        → bytes_at (put_blocks structs blocks vs buffers) set_at binding ≡ Some (put_value (layout_of structs block) 0 v given)
    value_bytes [] number vs v buffers stand only there has = absurd stand
    value_bytes (first ∷ blocks) zero [] v buffers stand only there has = absurd cc
    value_bytes (first ∷ blocks) (suc number) [] v buffers stand only there has = absurd cc
    value_bytes (first ∷ blocks) zero (w ∷ vs) v buffers stand only there has =
        blocks_bytes blocks vs (map (put_block structs first w) buffers) stand.1
        ∙ ap (λ x. bytes_at (map (put_block structs x w) buffers) set_at binding) stand.0
        ∙ ap (λ l. bytes_at l set_at binding) (own_puts block own w given buffers only there)
        ∙ with_there (put_value (layout_of structs block) 0 w given) given buffers there
        ∙ ap (λ x. Some (put_value (layout_of structs block) 0 x given)) (some_value has)
      where
        some_value : {a b : Value} → Some a ≡ Some b → a ≡ b
        some_value e = cc
    value_bytes (first ∷ blocks) (suc number) (w ∷ vs) v buffers stand only there has =
        value_bytes blocks number vs v (map (put_block structs first w) buffers) stand.1 (only_other first stand.0 w buffers only) (other_bytes first stand.0 w buffers ∙ there) has

    -- another value of the block changes these bytes alone
    pub value_set : (blocks : List Block) (number : ℕ) (vs : List Value) (v new : Value) (buffers : List Buffer) → StandsAlone set_at binding blocks number block → IsOnly set_at binding buffers → bytes_at buffers set_at binding ≡ Some given → slice_get vs number ≡ Some v
        → put_blocks structs blocks (set vs number new) buffers ≡ with_bytes (put_blocks structs blocks vs buffers) set_at binding (put_value (layout_of structs block) 0 new given)
    value_set [] number vs v new buffers stand only there has = absurd stand
    value_set (first ∷ blocks) zero [] v new buffers stand only there has = absurd cc
    value_set (first ∷ blocks) (suc number) [] v new buffers stand only there has = absurd cc
    value_set (first ∷ blocks) zero (w ∷ vs) v new buffers stand only there has =
        puts new ∙ sym (with_twice (put_value (layout_of structs block) 0 w given) (put_value (layout_of structs block) 0 new given) (put_blocks structs blocks vs buffers))
        ∙ ap (λ l. with_bytes l set_at binding (put_value (layout_of structs block) 0 new given)) (sym (puts w))
      where
        puts : (x : Value) → put_blocks structs blocks vs (map (put_block structs first x) buffers) ≡ with_bytes (put_blocks structs blocks vs buffers) set_at binding (put_value (layout_of structs block) 0 x given)
        puts x =
            ap (λ y. put_blocks structs blocks vs (map (put_block structs y x) buffers)) stand.0 ∙ ap (put_blocks structs blocks vs) (own_puts block own x given buffers only there)
            ∙ blocks_with (put_value (layout_of structs block) 0 x given) blocks vs buffers stand.1
    value_set (first ∷ blocks) (suc number) (w ∷ vs) v new buffers stand only there has =
        value_set blocks number vs v new (map (put_block structs first w) buffers) stand.1 (only_other first stand.0 w buffers only) (other_bytes first stand.0 w buffers ∙ there) has
