-- What a function takes, from an instruction on.
use Rattle.std.proofs.Common.{◌≡◌, refl, sym, ap, ◌∙◌, ℕ, ◌+◌, ◌<◌, ◌≤◌, Bool, true, false, if◌then◌else◌, [], ◌∷◌, length, drop, arith}
use Rattle.std.specs.Prelude.{◌==◌}
use Rattle.gsl_instr.specs.declared.op.TheConstants as ops
use Rattle.gsl_words.specs.declared.module.Instr.{Instr}
use Rattle.gsl_words.specs.declared.module.Module.{Module}
use Rattle.gsl_valid.specs.Instruction.{read}
use Rattle.gsl_valid.specs.Kinds.{kind}
use Rattle.gsl_positions.specs.Positions.{behind, left}
use Rattle.gsl_positions.proofs.Standing.{left_is, nothing_left}
use Rattle.gsl_frames.specs.declared.taken.Taken.{Taken}
use Rattle.gsl_frames.specs.Frames.{behind_told, next_at, taken_told}

-- what is left behind an instruction begins where the function goes on
goes_to : (m : Module) (at op : ℕ) → behind m at op ≡ left m (next_at (length m.instrs) at op)
goes_to m at op = by_end (op == ops.FUNCTION_END)
  where
    by_end : (b : Bool) → (if b then [] else left m (at + 1)) ≡ left m (if b then length m.instrs else at + 1)
    by_end true = sym (nothing_left m (length m.instrs) (omega arith))
    by_end false = refl

pub framed : (m : Module) (at to : ℕ) (i : Instr) (taken next : Taken) → drop at m.instrs ≡ i ∷ drop (at + 1) m.instrs → next ≡ behind_told m (kind (read i)) taken → to ≡ next_at (length m.instrs) at i.op
    → taken_told m (left m at) taken ≡ taken_told m (left m to) next
framed m at to i taken next here is goes =
    ap (λ l. taken_told m l taken) (left_is m at i here)
    ∙ ap (taken_told m (behind m at i.op)) (sym is)
    ∙ ap (λ l. taken_told m l next) (goes_to m at i.op ∙ ap (left m) (sym goes))

pub over : (m : Module) (at : ℕ) (taken : Taken) → length m.instrs ≤ at → taken_told m (left m at) taken ≡ taken
over m at taken behind = ap (λ l. taken_told m l taken) (nothing_left m at behind)

pub later : (count at op to : ℕ) → at < count → to ≡ next_at count at op → at < to
later count at op to within is = by_end (op == ops.FUNCTION_END) is
  where
    by_end : (b : Bool) → to ≡ (if b then count else at + 1) → at < to
    by_end true is = omega (arith, within, is)
    by_end false is = omega (arith, is)
