-- From a call that waits to the instruction behind it.
use Rattle.std.proofs.Common.{◌≡◌, sym, ap, ◌∙◌, subst, ℕ, suc, ◌+◌, ◌<◌, false, List, ◌∷◌, ◌++◌, length, drop, inl, inr, arith}
use Rattle.std.specs.Prelude.{◌==◌}
use Rattle.std.proofs.lemmas.Bool.{cases_Bool, true≢false}
use Rattle.gsl_instr.specs.declared.op.TheConstants as op
use Rattle.gsl_words.specs.declared.module.Instr.{Instr}
use Rattle.gsl_words.specs.declared.module.Module.{Module}
use Rattle.gsl_valid.specs.CallRules.{is_last}
use Rattle.gsl_valid.specs.Instruction.{read}
use Rattle.gsl_valid.specs.Kinds.{Calls, kind}
use Rattle.gsl_valid.specs.Placed.{Placed}
use Rattle.gsl_machine.specs.Functions.{variables_of}
use Rattle.gsl_machine.specs.State.{Held, Ids}
use Rattle.gsl_kinds.specs.Runtimes.{front}
use Rattle.gsl_leaves.proofs.Noted.{one_more}
use Rattle.gsl_positions.specs.Positions.{behind, left}
use Rattle.gsl_positions.proofs.Standing.{below, left_is}
use Rattle.gsl_slots.specs.Holding.{Holds}
use Rattle.gsl_slots.proofs.Held.{rises}
use Rattle.gsl_sound_code.proofs.Opcodes.{reads_end}
use Rattle.gsl_sound_types.specs.Typed.{types_of}
use Rattle.gsl_frames.specs.declared.taken.Taken.{Taken}
use Rattle.gsl_frames.specs.Frames.{frame, held_words, place, taken_in}
use Rattle.gsl_shown.specs.Shown.{ShowsIds, Standing, held_as, in_slots}
use Rattle.gsl_shown.proofs.Bounds.{after}
use Rattle.gsl_shown.proofs.Branching.{in_all_at, next_same}

module _ (m : Module) (at : ℕ) (instr : Instr) (here : drop at m.instrs ≡ instr ∷ drop (at + 1) m.instrs) (type function : ℕ) (arguments : List ℕ) (is : kind (read instr) ≡ Calls type function arguments) where
  pub within : at < length m.instrs
  within = below m at (let size : length (left m at) ≡ suc (length (behind m at instr.op)) = ap length (left_is m at instr here) in omega (arith, size))

  pub goes_on : (instr.op == op.FUNCTION_END) ≡ false
  goes_on = elim (cases_Bool (instr.op == op.FUNCTION_END)) [
    | inl ends ↦ absurd (true≢false (sym (ap (λ d. is_last (kind d)) (reads_end instr ends)) ∙ ap is_last is))
    | inr goes ↦ goes
  ]

  pub taken_then : taken_in m (front m (at + 1)) ≡ after m (Calls type function arguments) (taken_in m (front m at))
  taken_then = ap (taken_in m) (one_more m at instr (drop (at + 1) m.instrs) within here) ∙ ap (λ k. after m k (taken_in m (front m at))) is

module _ (m : Module) (below_types : List ℕ) (f : Standing) (body : List Placed) (slots : List ℕ) (own ids : Ids) (shows : ShowsIds m below_types f body slots own ids)
    (instr : Instr) (here : drop f.at m.instrs ≡ instr ∷ drop (f.at + 1) m.instrs) (type function : ℕ) (arguments : List ℕ) (is : kind (read instr) ≡ Calls type function arguments) where
  abbrev T : Taken
  T = taken_in m (front m f.at)

  abbrev Words : Held → List ℕ
  Words = held_as m (below_types ++ types_of m (variables_of body))

  abbrev At : ℕ → ℕ
  At id = f.slots + place m id

  pub all_behind : in_all_at m (f.at + 1) ≡ frame m body
  all_behind = next_same m f.at instr (within m f.at instr here type function arguments is) here (goes_on m f.at instr here type function arguments is) ∙ shows.in_all

  pub top_behind : (taken_in m (front m (f.at + 1))).top ≡ T.top + held_words m type
  top_behind = ap (λ (t : Taken). t.top) (taken_then m f.at instr here type function arguments is)

  pub parameters_behind : (taken_in m (front m (f.at + 1))).parameters ≡ T.parameters
  parameters_behind = ap (λ (t : Taken). t.parameters) (taken_then m f.at instr here type function arguments is)

  -- the same slots show what ids stand for behind the call
  pub behind_shown : ShowsIds m below_types (record f { at = f.at + 1 }) body slots own ids
  behind_shown =
      let top = top_behind in
      record {
        body_is = shows.body_is;
        fresh = shows.fresh;
        variables_are = shows.variables_are;
        room = shows.room;
        in_all = all_behind;
        held = rises Words At slots (f.slots + T.top) (in_slots m ids) shows.held (f.slots + (taken_in m (front m (f.at + 1))).top) (omega (arith, top));
        lasting = subst (λ n. Holds Words At slots (f.slots + n) (in_slots m own)) (sym parameters_behind) shows.lasting;
      }
