-- Each block has a buffer of its own.
use Rattle.std.proofs.Common.{◌≡◌, refl, sym, ap, ◌∙◌, subst, ℕ, zero, suc, ◌≤◌, Bool, true, false, nat_lt, List, [], ◌∷◌, length, Option, Some, None, Err, arith, if◌then◌else◌}
use Rattle.std.specs.Prelude.{slice_get}
use Rattle.gsl_base.specs.Proper.{IsProper}
use Rattle.gsl_base.specs.declared.input.Input.{Input}
use Rattle.gsl_base.specs.declared.input.InputRefusal.{InputRefusal}
use Rattle.gsl_inputs.specs.Demands.{and_met, bytes_met}
use Rattle.gsl_tree.specs.WellTyped.{IsProgram, is_push}
use Rattle.gsl_tree.specs.declared.program.Program.{Program}
use Rattle.gsl_tree.specs.declared.unit.Block.{Block}
use Rattle.gsl_views.specs.Buffers.{bytes_at}
use Rattle.gsl_meaning.specs.Blocks.{given_bytes}
use Rattle.gsl_meaning.specs.Fits.{absent, blocks_met, ids_met, is_given, short, values_met}
use Rattle.gsl_valid.specs.Valid.{Valid}
use Rattle.gsl_values.specs.declared.value.Value.{Value}
use Rattle.gsl_words.specs.declared.module.Module.{Module}
use Rattle.gsl_words.specs.declared.target.Target.{Target}
use Rattle.gsl_spv.specs.Finished.{module_of}
use Rattle.gsl_lower_holders.specs.Flow.{Flow}
use Rattle.gsl_lower_follows.specs.Frames.{Frame}
use Rattle.gsl_lower_law_bound.specs.Bound as bound
use Rattle.gsl_lower_law_bound.proofs.Layouts.{block_laid, one_block}
use Rattle.gsl_lower_law_bound.proofs.Standing.{blocks_bound}
use Rattle.gsl_lower_law_entered.specs.Modules.{IsFrame}
use Rattle.gsl_lower_law_bound.specs.OfLawInputs.{IsFitting}
use Rattle.gsl_lower_law_bound.proofs.OfLawInputs.{first_met, met, second_met}
use Rattle.gsl_lower_law_bound.specs.OfLawOutside.{HaveOutside}
use Rattle.gsl_lower_law_stored.specs.Buffers.{HasBuffer, IsBound, KnowsBuffers}
use Rattle.gsl_lower_law_backed.proofs.Alone.{only_one, stands_alone}

-- ---- buffers

each_met : (input : Input) (blocks : List Block) (number : ℕ) (block : Block) → blocks_met blocks input ≡ met → slice_get blocks number ≡ Some block → is_given block (given_bytes input block) ≡ met
each_met input [] number block is there = absurd (let never : ◌≡◌ {A = Option Block} None (Some block) = there in cc)
each_met input (first ∷ blocks) zero block is there =
    let same : first ≡ block = cc in
    subst (λ (b : Block). is_given b (given_bytes input b) ≡ met) same (first_met (is_given first (given_bytes input first)) (blocks_met blocks input) is)
each_met input (first ∷ blocks) (suc number) block is there = each_met input blocks number block (second_met (is_given first (given_bytes input first)) (blocks_met blocks input) is) there

long_enough : (none few : InputRefusal) (least : ℕ) (o : Option (List ℕ)) → bytes_met none few least o ≡ met → (bytes : List ℕ) × (o ≡ Some bytes) × (least ≤ length bytes)
long_enough none few least None is = absurd cc
long_enough none few least (Some bytes) is = by (nat_lt (length bytes) least) refl is
  where
    by : (less : Bool) → nat_lt (length bytes) least ≡ less → (if less then Err few else met) ≡ met → (given : List ℕ) × (Some bytes ≡ Some given) × (least ≤ length given)
    by true e is = absurd cc
    by false e is = (bytes, refl, grind (arith, e))

pub has_buffer : (p : Program) (input : Input) → IsProgram p → IsProper input → IsFitting p input → (number : ℕ) (block : Block) → slice_get p.blocks number ≡ Some block → is_push block.kind ≡ false → HasBuffer input p number block
has_buffer p input program proper fitting number block at own =
    let given = long_enough (absent block) (short block) block.need (given_bytes input block) (each_met input p.blocks number block (first_met (blocks_met p.blocks input) (and_met (values_met p.interfaces input) (ids_met p input)) fitting) at) in
    let one = one_block p program number block at in
    record {
      alone = stands_alone p.blocks number block program.sorted at own;
      only = only_one block.set block.binding input.buffers proper.buffers;
      given = given.0;
      has = sym (ap (λ b. if b then input.push else bytes_at input.buffers block.set block.binding) own) ∙ given.1;
      room = subst (λ n. n ≤ length given.0) one.laid.need given.2;
    }

-- ---- frames

module _ (target : Target) (p : Program) (main : ℕ) (flow : Flow) (program : IsProgram p) (valid : Valid (module_of flow.sections main p.local_size)) (h : HaveOutside target p main flow) (input : Input) (proper : IsProper input) (fitting : IsFitting p input) (stages : List (Option Value))
    (f : Frame (module_of flow.sections main p.local_size) input flow.sections) (frame : IsFrame (module_of flow.sections main p.local_size) input flow.sections h.place stages f) where
  abbrev m : Module
  m = module_of flow.sections main p.local_size

  same_id : {a b : ℕ} → Some a ≡ Some b → a ≡ b
  same_id e = cc

  its_bound : (number id : ℕ) (block : Block) → slice_get p.blocks number ≡ Some block → slice_get f.place.blocks number ≡ Some id → IsBound m id block
  its_bound number id block at seat =
      let x = blocks_bound target p main flow program valid h number block at in
      let same : x.0 ≡ id = same_id (sym x.1 ∙ ap (λ l. slice_get l number) (sym frame.knows.blocks) ∙ seat) in
      let b : bound.IsBound m p.structs block id = subst (bound.IsBound m p.structs block) same x.2 in
      record { pushes = b.push; set = b.set; binding = b.binding }

  pub buffers_known : KnowsBuffers m input flow.sections f p
  buffers_known = record { laid = block_laid p program; buffers = λ number block at own. has_buffer p input program proper fitting number block at own; bound = its_bound }
