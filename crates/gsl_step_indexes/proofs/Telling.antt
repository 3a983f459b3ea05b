-- What a machine tells where an instruction is next.
use Rattle.std.proofs.Common.{◌≡◌, refl, sym, ap, ◌∙◌, subst, ℕ, ◌+◌, Bool, true, false, List, [], ◌∷◌, length, map, Option, Some, None, suc, arith}
use Rattle.gsl_base.specs.declared.input.Input.{Input}
use Rattle.gsl_instr.specs.declared.instruction.Instruction.{Instruction}
use Rattle.gsl_words.specs.declared.module.Module.{Module}
use Rattle.gsl_values.specs.declared.value.Value.{Value}
use Rattle.gsl_valid.specs.Instruction.{read}
use Rattle.gsl_valid.specs.Kinds.{type_of}
use Rattle.gsl_valid.specs.Placed.{Placed}
use Rattle.gsl_valid.specs.Types.{defined_as}
use Rattle.gsl_machine.specs.Machine.{step, step_on}
use Rattle.gsl_machine.specs.State.{Ended, Going, Held, Outcome, Points, State, Strayed, Stuck, Whole, on, on_whole}
use Rattle.gsl_machine.specs.Steps.{act}
use Rattle.gsl_region.specs.Flat.{flat}
use Rattle.gsl_positions.specs.Positions.{behind, left, place_of}
use Rattle.gsl_positions.proofs.Standing.{below, left_is}
use Rattle.gsl_slots.specs.Holding.{IsHeld}
use Rattle.gsl_sound_code.proofs.Looks.{Kept}
use Rattle.gsl_sound_types.specs.Typed.{Typed, types_in}
use Rattle.gsl_sound_types.proofs.Holding.{of_value}
use Rattle.gsl_sound_values.specs.Shaped.{is_shaped}
use Rattle.gsl_shown.proofs.Places.{instr_there}
use Rattle.gsl_operands.specs.Operands.{stands}
use Rattle.gsl_step.specs.Machine.{IsShown}
use Rattle.gsl_step.specs.declared.machine.Machine.{Machine}
use Rattle.gsl_step.proofs.Operands.{Top, operand_stands}
use Rattle.gsl_step_indexes.specs.Straying.{Tells}

-- what the next instruction does is the step
pub next_tells : (m : Module) (input : Input) (state : State) (next : Machine) (goes : Bool) (p : Placed) (more : List Placed) (d : Instruction) → state.rest ≡ p ∷ more → read p.instr ≡ Some d → Tells m next goes (act m input p.at (record state { rest = more }) d)
    → Tells m next goes (step m input state)
next_tells m input state next goes p more d comes reads tells =
    subst (λ l. Tells m next goes (step_on m input state l)) (sym comes) (subst (λ o. Tells m next goes (on o (act m input p.at (record state { rest = more })))) (sym reads) tells)

-- the place of the next instruction is that of its number
pub place_told : (m : Module) (machine : Machine) (state : State) (p : Placed) (more : List Placed) → IsShown m machine state → state.rest ≡ p ∷ more → p.at ≡ place_of m machine.standing.at
place_told m machine state p more shown comes =
    let here : p ∷ more ≡ left m machine.standing.at = sym comes ∙ shown.shows.rest in
    let within = below m machine.standing.at (let size : suc (length more) ≡ length (left m machine.standing.at) = ap length here in omega (arith, size)) in
    let it = instr_there m.instrs machine.standing.at within in
    let both : p ∷ more ≡ record { at = place_of m machine.standing.at; instr = it.0 } ∷ behind m machine.standing.at it.0.op = here ∙ left_is m machine.standing.at it.0 it.1 in
    let first : p ≡ record { at = place_of m machine.standing.at; instr = it.0 } = cc in
    ap (λ (q : Placed). q.at) first
