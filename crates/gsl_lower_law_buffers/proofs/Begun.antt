-- The bytes of blocks as a run starts, and the words that the shader begins with.
use Rattle.std.proofs.Common.{◌≡◌, refl, sym, ap, ◌∙◌, subst, ℕ, zero, suc, ◌<◌, ◌^◌, Bool, true, false, if◌then◌else◌, List, [], ◌∷◌, length, slice_get, unwrap_or, Option, Some, None}
use Rattle.std.specs.List.{AllByRecursion}
use Rattle.std.specs.Option.{ForSome}
use Rattle.gsl_base.specs.Ranges.{FitsBuffer, FitsTypes}
use Rattle.gsl_base.specs.declared.input.Buffer.{Buffer}
use Rattle.gsl_base.specs.declared.input.Input.{Input}
use Rattle.gsl_base.specs.declared.input.InputRefusal.{InputRefusal}
use Rattle.gsl_inputs.specs.Demands.{and_met, bytes_met}
use Rattle.gsl_instr.specs.declared.enumerant.decoration.TheConstants as decoration
use Rattle.gsl_types.specs.declared.ty.StructType.{StructType}
use Rattle.gsl_words.specs.declared.module.Module.{Module}
use Rattle.gsl_words.specs.declared.target.Target.{Target}
use Rattle.gsl_tree.specs.Around.{Around}
use Rattle.gsl_tree.specs.WellTyped.{IsProgram, is_push}
use Rattle.gsl_tree.specs.declared.program.Program.{Program}
use Rattle.gsl_tree.specs.declared.unit.Block.{Block}
use Rattle.gsl_valid.specs.Decorations.{number_on}
use Rattle.gsl_valid.specs.Placed.{Placed}
use Rattle.gsl_valid.specs.Valid.{Valid}
use Rattle.gsl_views.specs.Buffers.{bytes_at, is_at}
use Rattle.gsl_machine.specs.Machine.{entering, entry_body, entry_of, start}
use Rattle.gsl_machine.specs.Memory as memory
use Rattle.gsl_machine.specs.Memory.{bytes_if, bytes_of}
use Rattle.gsl_meaning.specs.Blocks.{begun, given_bytes, words_in}
use Rattle.gsl_meaning.specs.Fits.{absent, blocks_met, ids_met, is_given, short, values_met}
use Rattle.gsl_meaning.specs.Shader.{begins}
use Rattle.gsl_spv.specs.Finished.{module_of}
use Rattle.gsl_spv.specs.Sections.{Sections}
use Rattle.gsl_lower_holders.specs.Flow.{Flow}
use Rattle.gsl_lower_follows.specs.Frames.{AreBytes, Frame, IsSeen}
use Rattle.gsl_lower_law_entered.proofs.Given.{map_there}
use Rattle.gsl_lower_law_bound.specs.OfLawOutside.{HaveOutside}
use Rattle.gsl_lower_law_bound.specs.OfLawInputs.{IsFitting}
use Rattle.gsl_lower_law_bound.proofs.OfLawInputs.{first_met, met, second_met}
use Rattle.gsl_lower_law_bound.specs.Bound.{IsBound, IsShort}
use Rattle.gsl_lower_law_bound.proofs.Known.{given_at, pushed}
use Rattle.gsl_lower_law_bound.proofs.Standing.{blocks_bound}

-- ---- what an input that fits gives

given_met : (none few : InputRefusal) (need : ℕ) (o : Option (List ℕ)) → bytes_met none few need o ≡ met → (bytes : List ℕ) × (o ≡ Some bytes)
given_met none few need None is = absurd (cc)
given_met none few need (Some bytes) is = (bytes, refl)

each_met : (input : Input) (blocks : List Block) (number : ℕ) (block : Block) → blocks_met blocks input ≡ met → slice_get blocks number ≡ Some block → is_given block (given_bytes input block) ≡ met
each_met input [] zero block is there = absurd (cc)
each_met input [] (suc number) block is there = absurd (cc)
each_met input (first ∷ blocks) zero block is there =
    let same : first ≡ block = cc in
    subst (λ (b : Block). is_given b (given_bytes input b) ≡ met) same (first_met (is_given first (given_bytes input first)) (blocks_met blocks input) is)
each_met input (first ∷ blocks) (suc number) block is there = each_met input blocks number block (second_met (is_given first (given_bytes input first)) (blocks_met blocks input) is) there

-- those are bytes
found_small : (buffers : List Buffer) (set binding : ℕ) (bytes : List ℕ) → AllByRecursion FitsBuffer buffers → bytes_at buffers set binding ≡ Some bytes → AreBytes bytes
found_small [] set binding bytes all is = absurd (cc)
found_small (b ∷ buffers) set binding bytes all is = by (is_at set binding b) (λ later. found_small buffers set binding bytes all.1 later) is
  where
    by : (here : Bool) → (bytes_at buffers set binding ≡ Some bytes → AreBytes bytes) → (if here then Some b.bytes else bytes_at buffers set binding) ≡ Some bytes → AreBytes bytes
    by true later is = let same : b.bytes ≡ bytes = cc in subst AreBytes same all.0.bytes
    by false later is = later is

pushed_small : (o : Option (List ℕ)) (bytes : List ℕ) → ForSome o AreBytes → o ≡ Some bytes → AreBytes bytes
pushed_small o bytes all is = all bytes is

given_small : (input : Input) (block : Block) (bytes : List ℕ) → FitsTypes input → given_bytes input block ≡ Some bytes → AreBytes bytes
given_small input block bytes fits is = by (is_push block.kind) is
  where
    by : (push : Bool) → (if push then input.push else bytes_at input.buffers block.set block.binding) ≡ Some bytes → AreBytes bytes
    by true is = pushed_small input.push bytes fits.push is
    by false is = found_small input.buffers block.set block.binding bytes fits.buffers is

-- a word counts those where it counts the bytes of each buffer
given_few : (input : Input) (block : Block) (bytes : List ℕ) → IsShort input → given_bytes input block ≡ Some bytes → length bytes < 2 ^ 32
given_few input block bytes few is = subst (λ o. length (unwrap_or o []) < 2 ^ 32) is (by (is_push block.kind))
  where
    by : (push : Bool) → length (unwrap_or (if push then input.push else bytes_at input.buffers block.set block.binding) []) < 2 ^ 32
    by true = pushed input few input.push few.push
    by false = given_at input few block.set block.binding

-- ---- the words that the shader begins with

module _ (p : Program) (input : Input) (fits : FitsTypes input) (fitting : IsFitting p input) (number : ℕ) (block : Block) (there : slice_get p.blocks number ≡ Some block) where
  -- the bytes that are given for a block
  pub given_there : (bytes : List ℕ) × (given_bytes input block ≡ Some bytes)
  given_there = given_met (absent block) (short block) block.need (given_bytes input block) (each_met input p.blocks number block (first_met (blocks_met p.blocks input) (and_met (values_met p.interfaces input) (ids_met p input)) fitting) there)

  begun_there : slice_get (begins p input).blocks number ≡ Some (words_in p.structs block given_there.0)
  begun_there = map_there (begun p.structs input) p.blocks number block there ∙ ap (λ o. Some (words_in p.structs block (unwrap_or o []))) given_there.1

pub blocks_seen : (p : Program) (input : Input) → FitsTypes input → IsFitting p input → (m : Module) (whole : Sections) (f : Frame m input whole) (around : Around) (number : ℕ) (block : Block) → slice_get p.blocks number ≡ Some block → IsSeen m input whole f p around block (slice_get (begins p input).blocks number)
blocks_seen p input fits fitting m whole f around number block there =
    let g = given_there p input fits fitting number block there in (g.0, begun_there p input fits fitting number block there, given_small input block g.0 fits g.1, λ few. given_few input block g.0 few g.1)

-- ---- the bytes that a run starts with

starts_with : (m : Module) (input : Input) → (start m input).buffers ≡ input.buffers
unfolding start
starts_with m input = by (entry_body m (entry_of m.instrs))
  where
    by : (body : Option (List Placed)) → (entering m input body).buffers ≡ input.buffers
    by None = refl
    by (Some body) = refl

-- the variable of a block has the bytes that are given for the block
bound_given : (m : Module) (structs : List StructType) (block : Block) (id : ℕ) (input : Input) → IsBound m structs block id → bytes_of m input (start m input) id ≡ given_bytes input block
bound_given m structs block id input b =
    ap (λ buffers. if memory.is_push m id then input.push else bytes_if buffers (number_on m decoration.DESCRIPTOR_SET id) (number_on m decoration.BINDING id)) (starts_with m input)
    ∙ ap (λ push. if push then input.push else bytes_if input.buffers (number_on m decoration.DESCRIPTOR_SET id) (number_on m decoration.BINDING id)) b.push ∙ by (is_push block.kind) refl
  where
    by : (push : Bool) → is_push block.kind ≡ push
        → (if push then input.push else bytes_if input.buffers (number_on m decoration.DESCRIPTOR_SET id) (number_on m decoration.BINDING id)) ≡ (if push then input.push else bytes_at input.buffers block.set block.binding)
    by true is = refl
    by false is = ap (λ set. bytes_if input.buffers set (number_on m decoration.BINDING id)) (b.set is) ∙ ap (bytes_if input.buffers (Some block.set)) (b.binding is)

pub blocks_begin : (target : Target) (p : Program) (main : ℕ) (flow : Flow) → IsProgram p → Valid (module_of flow.sections main p.local_size) → (h : HaveOutside target p main flow) → (input : Input) → FitsTypes input → IsFitting p input → (number id : ℕ) (block : Block) → slice_get p.blocks number ≡ Some block → slice_get h.place.blocks number ≡ Some id
    → (bytes : List ℕ) × (bytes_of (module_of flow.sections main p.local_size) input (start (module_of flow.sections main p.local_size) input) id ≡ Some bytes) × (slice_get (begins p input).blocks number ≡ Some (words_in p.structs block bytes)) × AreBytes bytes
blocks_begin target p main flow program valid h input fits fitting number id block there seat =
    let m = module_of flow.sections main p.local_size in
    let x = blocks_bound target p main flow program valid h number block there in
    let same : x.0 ≡ id = the_same x.0 id (sym x.1 ∙ seat) in
    let g = given_there p input fits fitting number block there in (
      g.0,
      ap (bytes_of m input (start m input)) (sym same) ∙ bound_given m p.structs block x.0 input x.2 ∙ g.1,
      begun_there p input fits fitting number block there,
      given_small input block g.0 fits g.1,
    )
  where
    the_same : (a b : ℕ) → Some a ≡ Some b → a ≡ b
    the_same a b e = cc
