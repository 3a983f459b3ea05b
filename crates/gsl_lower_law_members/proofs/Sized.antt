-- What is put into buffers leaves them as long as they were.
use Rattle.std.proofs.Common.{◌≡◌, refl, sym, ◌∙◌, subst, ℕ, ◌<◌, arith, Bool, true, false, not, ◌&&◌, List, [], ◌∷◌, length, map, Option, Some, None, if◌then◌else◌}
use Rattle.std.specs.Prelude.{◌^◌, unwrap_or}
use Rattle.std.specs.List.{AllByRecursion}
use Rattle.gsl_base.specs.declared.input.Buffer.{Buffer}
use Rattle.gsl_base.specs.declared.input.Input.{Input}
use Rattle.gsl_instr.specs.declared.enumerant.decoration.TheConstants as decoration
use Rattle.gsl_types.specs.declared.ty.StructType.{StructType}
use Rattle.gsl_words.specs.declared.module.Module.{Module}
use Rattle.gsl_values.specs.declared.value.Value.{Value}
use Rattle.gsl_tree.specs.Laying.{layout_of}
use Rattle.gsl_tree.specs.WellTyped.{is_push as is_push_kind}
use Rattle.gsl_tree.specs.declared.unit.Block.{Block}
use Rattle.gsl_views.specs.Buffers.{bytes_at, is_at}
use Rattle.gsl_meaning.specs.Blocks.{put_block, put_blocks, put_value}
use Rattle.gsl_valid.specs.Decorations.{number_on}
use Rattle.gsl_machine.specs.Memory.{bytes_if, bytes_of, is_push}
use Rattle.gsl_machine.specs.State.{State}
use Rattle.gsl_lower_law_bytes.proofs.Sized.{value_length}
use Rattle.gsl_lower_law_members.specs.Sizes.{size_of}

-- ---- buffers

-- what a word counts in each buffer it counts in the one at a place
pub few_at : (buffers : List Buffer) (set binding : ℕ) → AllByRecursion (λ (buffer : Buffer). length buffer.bytes < 2 ^ 32) buffers → length (unwrap_or (bytes_at buffers set binding) []) < 2 ^ 32
few_at [] set binding all = omega arith
few_at (buffer ∷ buffers) set binding all = by (is_at set binding buffer) (few_at buffers set binding all.1)
  where
    by : (b : Bool) → length (unwrap_or (bytes_at buffers set binding) []) < 2 ^ 32 → length (unwrap_or (if b then Some buffer.bytes else bytes_at buffers set binding) []) < 2 ^ 32
    by true later = all.0
    by false later = later

-- Both are there or not, and are as long.
abbrev AsLong : Option (List ℕ) → Option (List ℕ) → Type 0
AsLong None None = Unit {0}
AsLong None (Some b) = ⊥
AsLong (Some a) None = ⊥
AsLong (Some a) (Some b) = length b ≡ length a

long_same : (o : Option (List ℕ)) → AsLong o o
long_same None = tt
long_same (Some a) = refl

long_then : (a b c : Option (List ℕ)) → AsLong a b → AsLong b c → AsLong a c
long_then None None c first second = second
long_then None (Some b) c first second = absurd first
long_then (Some a) None c first second = absurd first
long_then (Some a) (Some b) None first second = absurd second
long_then (Some a) (Some b) (Some c) first second = second ∙ first

module _ (structs : List StructType) (set binding : ℕ) where
  module _ (block : Block) (v : Value) where
    put_at : (buffer : Buffer) → is_at set binding (put_block structs block v buffer) ≡ is_at set binding buffer
    put_at buffer = by (not (is_push_kind block.kind) && is_at block.set block.binding buffer)
      where
        by : (b : Bool) → is_at set binding (if b then record buffer { bytes = put_value (layout_of structs block) 0 v buffer.bytes } else buffer) ≡ is_at set binding buffer
        by true = refl
        by false = refl

    put_long : (buffer : Buffer) → length (put_block structs block v buffer).bytes ≡ length buffer.bytes
    put_long buffer = by (not (is_push_kind block.kind) && is_at block.set block.binding buffer)
      where
        by : (b : Bool) → length (if b then record buffer { bytes = put_value (layout_of structs block) 0 v buffer.bytes } else buffer).bytes ≡ length buffer.bytes
        by true = value_length (layout_of structs block) 0 v buffer.bytes
        by false = refl

    block_long : (buffers : List Buffer) → AsLong (bytes_at buffers set binding) (bytes_at (map (put_block structs block v) buffers) set binding)
    block_long [] = tt
    block_long (buffer ∷ buffers) =
        subst (λ b. AsLong (bytes_at (buffer ∷ buffers) set binding) (if b then Some (put_block structs block v buffer).bytes else bytes_at (map (put_block structs block v) buffers) set binding)) (sym (put_at buffer))
        (by (block_long buffers) (is_at set binding buffer))
      where
        by : AsLong (bytes_at buffers set binding) (bytes_at (map (put_block structs block v) buffers) set binding) → (b : Bool) → AsLong (if b then Some buffer.bytes else bytes_at buffers set binding) (if b then Some (put_block structs block v buffer).bytes else bytes_at (map (put_block structs block v) buffers) set binding)
        by more true = put_long buffer
        by more false = more

  blocks_long : (blocks : List Block) (vs : List Value) (buffers : List Buffer) → AsLong (bytes_at buffers set binding) (bytes_at (put_blocks structs blocks vs buffers) set binding)
  blocks_long [] vs buffers = long_same (bytes_at buffers set binding)
  blocks_long (block ∷ blocks) [] buffers = long_same (bytes_at buffers set binding)
  blocks_long (block ∷ blocks) (v ∷ vs) buffers =
      long_then (bytes_at buffers set binding) (bytes_at (map (put_block structs block v) buffers) set binding) (bytes_at (put_blocks structs blocks vs (map (put_block structs block v) buffers)) set binding)
      (block_long block v buffers) (blocks_long blocks vs (map (put_block structs block v) buffers))

long_is : (a b : Option (List ℕ)) (bytes : List ℕ) → AsLong a b → b ≡ Some bytes → length bytes ≡ length (unwrap_or a [])
long_is None None bytes long e = absurd cc
long_is None (Some b) bytes long e = absurd long
long_is (Some a) None bytes long e = absurd long
long_is (Some a) (Some b) bytes long e = subst (λ c. length c ≡ length a) (some_bytes e) long
  where
    some_bytes : {a b : List ℕ} → Some a ≡ Some b → a ≡ b
    some_bytes e = cc

pub size_is : (m : Module) (input : Input) (structs : List StructType) (blocks : List Block) (vs : List Value) (state : State) (variable : ℕ) (bytes : List ℕ) → state.buffers ≡ put_blocks structs blocks vs input.buffers → bytes_of m input state variable ≡ Some bytes
    → length bytes ≡ size_of m input variable
size_is m input structs blocks vs state variable bytes put there = by (is_push m variable) (number_on m decoration.DESCRIPTOR_SET variable) (number_on m decoration.BINDING variable) (subst (λ buffers. (if is_push m variable then input.push else bytes_if buffers (number_on m decoration.DESCRIPTOR_SET variable) (number_on m decoration.BINDING variable)) ≡ Some bytes) put there)
  where
    by_place : (set binding : Option ℕ) → bytes_if (put_blocks structs blocks vs input.buffers) set binding ≡ Some bytes → length bytes ≡ length (unwrap_or (bytes_if input.buffers set binding) [])
    by_place None binding e = absurd cc
    by_place (Some set) None e = absurd cc
    by_place (Some set) (Some binding) e = long_is (bytes_at input.buffers set binding) (bytes_at (put_blocks structs blocks vs input.buffers) set binding) bytes (blocks_long structs set binding blocks vs input.buffers) e

    by : (push : Bool) (set binding : Option ℕ) → (if push then input.push else bytes_if (put_blocks structs blocks vs input.buffers) set binding) ≡ Some bytes → length bytes ≡ length (unwrap_or (if push then input.push else bytes_if input.buffers set binding) [])
    by true set binding e = long_is input.push input.push bytes (long_same input.push) e
    by false set binding e = by_place set binding e
