-- Lists from an item on.
use Rattle.std.proofs.Common.{◌≡◌, refl, sym, ap, ◌∙◌, ℕ, suc, ◌+◌, ◌-◌, ◌≤◌, ◌<◌, List, ◌∷◌, drop, slice_get, Some, arith}
use Rattle.std.specs.Prelude.{Bool, false, if◌then◌else◌, Ok, Err}
use Rattle.std.proofs.lemmas.Option.{slice_get_within, get_or_from_slice_get}
use Rattle.std.proofs.Math.Seq.{drop-cons}
use Rattle.gsl_base.specs.declared.input.Buffer.{Buffer}
use Rattle.gsl_base.specs.declared.input.Input.{Input}
use Rattle.gsl_base.specs.declared.input.InputRefusal.{InputRefusal}
use Rattle.gsl_base.specs.declared.input.InputRefusal.TheVariants.{NoValue}
use Rattle.gsl_base.specs.declared.input.Located.{Located}
use Rattle.gsl_tree.specs.declared.unit.Block.{Block}
use Rattle.gsl_tree.specs.declared.unit.Interface.{Interface}
use Rattle.gsl_views.specs.Buffers.{bytes_at, is_at}
use Rattle.gsl_meaning.specs.Blocks.{given_bytes}
use Rattle.gsl_inputs.specs.Demands.{and_met}
use Rattle.gsl_meaning.specs.Fits.{blocks_met, is_given, is_wanting, value_met, values_from, values_met}
use Rattle.gsl_inputs.specs.Given.{is_there, words_at}

-- the items from one on begin with it
pub opened : {X : Type 0} (xs : List X) (k : ℕ) (x : X) → slice_get xs k ≡ Some x → drop k xs ≡ x ∷ drop (k + 1) xs
opened xs k x is =
    drop-cons xs k x (slice_get_within xs k x is) ∙ ap (λ y. y ∷ drop (suc k) xs) (get_or_from_slice_get xs k x x is) ∙ ap (λ n. x ∷ drop n xs) (let e : suc k ≡ k + 1 = omega arith in e)

-- ---- what is looked for stands behind an item that is not it

pub bytes_on : (buffers : List Buffer) (set binding k : ℕ) (b : Buffer) → slice_get buffers k ≡ Some b → is_at set binding b ≡ false → bytes_at (drop k buffers) set binding ≡ bytes_at buffers set binding
    → bytes_at (drop (k + 1) buffers) set binding ≡ bytes_at buffers set binding
bytes_on buffers set binding k b is differs so_far =
    sym (ap (λ l. bytes_at l set binding) (opened buffers k b is) ∙ ap (λ t. if t then Some b.bytes else bytes_at (drop (k + 1) buffers) set binding) differs) ∙ so_far

pub words_on : (ins : List Located) (location k : ℕ) (v : Located) → slice_get ins k ≡ Some v → is_there location v ≡ false → words_at (drop k ins) location ≡ words_at ins location
    → words_at (drop (k + 1) ins) location ≡ words_at ins location
words_on ins location k v is differs so_far =
    sym (ap (λ l. words_at l location) (opened ins k v is) ∙ ap (λ t. if t then Some v.words else words_at (drop (k + 1) ins) location) differs) ∙ so_far

-- ---- a demand that is met leaves those behind it

pub blocks_on : (blocks : List Block) (input : Input) (k : ℕ) (b : Block) → slice_get blocks k ≡ Some b → is_given b (given_bytes input b) ≡ Ok tt → blocks_met (drop k blocks) input ≡ blocks_met blocks input
    → blocks_met (drop (k + 1) blocks) input ≡ blocks_met blocks input
blocks_on blocks input k b is met so_far =
    sym (ap (λ l. blocks_met l input) (opened blocks k b is) ∙ ap (λ m. and_met m (blocks_met (drop (k + 1) blocks) input)) met) ∙ so_far

pub value_on : (input : Input) (location k : ℕ) (interfaces : List Interface) (i : Interface) → slice_get interfaces k ≡ Some i → is_wanting input location i ≡ false
    → value_met input location (drop k interfaces) ≡ value_met input location interfaces → value_met input location (drop (k + 1) interfaces) ≡ value_met input location interfaces
value_on input location k interfaces i is has so_far =
    sym (ap (value_met input location) (opened interfaces k i is) ∙ ap (λ (t : Bool). if t then Err (NoValue location) else value_met input location (drop (k + 1) interfaces)) has) ∙ so_far

module _ (interfaces : List Interface) (input : Input) where
  pub values_begin : values_from interfaces input 0 1024 ≡ values_met interfaces input
  unfolding values_met
  values_begin = refl

  values_here : (location : ℕ) → location < 1024 → values_from interfaces input location (1024 - location) ≡ and_met (value_met input location interfaces) (values_from interfaces input (location + 1) (1024 - (location + 1)))
  values_here location below =
      ap (values_from interfaces input location) (let e : 1024 - location ≡ suc (1024 - (location + 1)) = omega (arith, below) in e)

  pub values_on : (location : ℕ) → location < 1024 → value_met input location interfaces ≡ Ok tt → values_from interfaces input location (1024 - location) ≡ values_met interfaces input
      → values_from interfaces input (location + 1) (1024 - (location + 1)) ≡ values_met interfaces input
  values_on location below met so_far =
      sym (values_here location below ∙ ap (λ m. and_met m (values_from interfaces input (location + 1) (1024 - (location + 1)))) met) ∙ so_far

  pub values_stop : (location : ℕ) (refusal : InputRefusal) → location < 1024 → value_met input location interfaces ≡ Err refusal → values_from interfaces input location (1024 - location) ≡ values_met interfaces input
      → Err refusal ≡ values_met interfaces input
  values_stop location refusal below wanting so_far =
      sym (values_here location below ∙ ap (λ m. and_met m (values_from interfaces input (location + 1) (1024 - (location + 1)))) wanting) ∙ so_far

  pub values_end : (location : ℕ) → 1024 ≤ location → values_from interfaces input location (1024 - location) ≡ values_met interfaces input → Ok tt ≡ values_met interfaces input
  values_end location past so_far = sym (ap (values_from interfaces input location) (let e : 1024 - location ≡ 0 = omega (arith, past) in e)) ∙ so_far
