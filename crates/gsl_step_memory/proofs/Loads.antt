-- What is loaded from variables.
use Rattle.std.proofs.Common.{◌≡◌, refl, sym, ap, ◌∙◌, subst, ℕ, ◌+◌, ◌≤◌, false, true, ◌&&◌, List, ◌∷◌, length, take, drop, Option, Some, None, arith}
use Rattle.std.specs.Prelude.{◌==◌, slice_get}
use Rattle.std.proofs.lemmas.Bool.{and_parts, eqb-true}
use Rattle.gsl_base.specs.declared.input.Input.{Input}
use Rattle.gsl_instr.specs.declared.instruction.Instruction.{Instruction}
use Rattle.gsl_instr.specs.declared.instruction.Instruction.TheVariants as instruction
use Rattle.gsl_words.specs.declared.module.Module.{Module}
use Rattle.gsl_values.specs.declared.value.Value.{Value}
use Rattle.gsl_tree.specs.Operations.{value_at}
use Rattle.gsl_valid.specs.CallRules.{target}
use Rattle.gsl_valid.specs.Instruction.{passes_if, read}
use Rattle.gsl_valid.specs.Kinds.{Gives, kind}
use Rattle.gsl_valid.specs.MemoryRules.{is_moved, may_load, memory_of}
use Rattle.gsl_valid.specs.Placed.{Placed}
use Rattle.gsl_valid.specs.Search.{whole}
use Rattle.gsl_machine.specs.Memory.{loading}
use Rattle.gsl_machine.specs.State.{Outcome, Pointer, State, giving_value, on, on_pointer}
use Rattle.gsl_region.specs.Flat.{flat}
use Rattle.gsl_leaves.specs.Leaves.{leaves}
use Rattle.gsl_leaves_law.proofs.Counted.{counted_in}
use Rattle.gsl_memory_law.specs.Typed.{place_by}
use Rattle.gsl_memory_law.proofs.Typed.{loaded, part_shaped}
use Rattle.gsl_frames.specs.Frames.{place}
use Rattle.gsl_sound.specs.Sound.{Good}
use Rattle.gsl_sound.proofs.Memories.{pointer_of}
use Rattle.gsl_sound_code.proofs.Looks.{Kept}
use Rattle.gsl_sound_ids.proofs.Plain.{IsPointer}
use Rattle.gsl_sound_types.specs.Typed.{LeadsTo, Typed, types_in}
use Rattle.gsl_sound_values.specs.Shaped.{is_shaped}
use Rattle.gsl_step.specs.Machine.{IsShown, Leads, Puts}
use Rattle.gsl_step.specs.declared.machine.Machine.{Machine}
use Rattle.gsl_step.proofs.Giving.{gives_words, room_there, rules_kept}
use Rattle.gsl_step.proofs.Passing.{number_fits}
use Rattle.gsl_step_memory.specs.Moved.{HasRoomToLoad, PutsLoaded}
use Rattle.gsl_step_memory.specs.Pointers.{IsTold, into_block, is_block_target, led_to}
use Rattle.gsl_step_memory.proofs.Led.{IsLed, with_place}

module _ (m : Module) (kept : Kept m) (input : Input) (machine next : Machine) (state : State) (good : Good m input state) (typed : Typed m state) (shown : IsShown m machine state) (p : Placed) (more : List Placed) (comes : state.rest ≡ p ∷ more) where
  abbrev Now : State
  Now = record state { rest = more }

  pub memory_is : (d : Instruction) → read p.instr ≡ Some d → memory_of m d ≡ true
  memory_is d reads = ap (passes_if (memory_of m)) (sym reads) ∙ (rules_kept m kept input state good p more comes).1.memory

  pub loads : (type id pointer from : ℕ) → read p.instr ≡ Some (instruction.Load type id pointer) → into_block m pointer ≡ false → (IsTold m machine pointer → from ≡ led_to m machine pointer) → PutsLoaded m type id from machine next
      → Leads m next (on_pointer (state.ids pointer) (λ from. loading m input Now from (giving_value Now id)))
  loads type id pointer from reads plain is_from puts =
      with_place m kept input machine state good typed shown (Leads m next) tt pointer to.0.type to.0.target (λ from. loading m input Now from (giving_value Now id)) to.0.typed to.0.points (sym (ap is_block_target to.1) ∙ plain)
      (λ number path lead led. by_old number path (subst (LeadsTo m (types_in m state) number path) (eqb-true to.0.target.pointee type pointee_is) lead) led (slice_get state.variables number) refl)
    where
      d : Instruction
      d = instruction.Load type id pointer

      to : (at : IsPointer m pointer) × (target m pointer ≡ Some at.target) × (may_load m type pointer (Some at.target) ≡ true)
      to = pointer_of m (may_load m type pointer) pointer refl (memory_is d reads)

      pointee_is : (to.0.target.pointee == type) ≡ true
      pointee_is = (and_parts (to.0.target.pointee == type) (is_moved m to.0.target) (and_parts (to.0.target.pointee == type && is_moved m to.0.target) _ to.2).0).0

      by_old : (number : ℕ) (path : List ℕ) → LeadsTo m (types_in m state) number path type → IsLed m kept input machine state good typed shown pointer number path → (o : Option Value) → slice_get state.variables number ≡ o
          → Leads m next (on o (λ v. giving_value Now id (value_at v path)))
      by_old number path lead led None here = tt
      by_old number path lead led (Some old) here =
          let shaped = part_shaped m kept (types_in m state) path state.variables number lead.type type typed.variables lead.is lead.leads old here in
          let words = loaded m kept (types_in m state) path state.variables number lead.type type typed.variables lead.is lead.leads machine.words old shown.shows.variables here in
          let within = words.0 in
          let from_is : from ≡ place_by m (types_in m state) number path = is_from led.told ∙ led.is in
          let size : length (flat (value_at old path)) ≡ leaves m type = counted_in m (whole m) type (value_at old path) shaped in
          let there = room_there m kept input machine state good typed shown p more comes d reads id type refl refl (value_at old path) machine.choices shaped in
          let room_for : HasRoomToLoad m machine id from (leaves m type) = record {
            within = omega (arith, within, from_is);
            room = omega (arith, there, size);
            places = shown.places;
            number = number_fits m machine state shown p more comes (Gives type) (ap kind reads) refl;
          } in
          gives_words m kept input machine state good typed shown p more comes d reads id type refl refl (value_at old path) state.choices shaped (take (leaves m type) (drop from machine.words))
          (sym words.1 ∙ ap (λ n. take (leaves m type) (drop n machine.words)) (sym from_is)) next
          (subst (λ l. Puts machine (machine.standing.slots + place m id) (take (leaves m type) (drop from machine.words)) l next) shown.shows.choices_are (puts room_for))
