-- The calls of a body, from an instruction on.
use Rattle.std.proofs.Common.{◌≡◌, refl, sym, ap, ◌∙◌, ℕ, ◌+◌, ◌<◌, ◌≤◌, Bool, true, false, max, if◌then◌else◌, List, [], ◌∷◌, length, drop, Option, Some, None, arith}
use Rattle.std.specs.List.{cons_option}
use Rattle.std.specs.Prelude.{◌==◌}
use Rattle.gsl_instr.specs.declared.op.TheConstants as ops
use Rattle.gsl_words.specs.declared.module.Instr.{Instr}
use Rattle.gsl_words.specs.declared.module.Module.{Module}
use Rattle.gsl_valid.specs.CallRules.{callee}
use Rattle.gsl_valid.specs.Instruction.{read}
use Rattle.gsl_positions.specs.Positions.{behind, left}
use Rattle.gsl_positions.proofs.Standing.{left_is, nothing_left}
use Rattle.gsl_frames.specs.Frames.{next_at}
use Rattle.gsl_chains.specs.Chains.{calls_of, greatest, with_call}

goes_to : (m : Module) (at op : ℕ) → behind m at op ≡ left m (next_at (length m.instrs) at op)
goes_to m at op = by_end (op == ops.FUNCTION_END)
  where
    by_end : (b : Bool) → (if b then [] else left m (at + 1)) ≡ left m (if b then length m.instrs else at + 1)
    by_end true = sym (nothing_left m (length m.instrs) (omega arith))
    by_end false = refl

pub later : (count at op to : ℕ) → at < count → to ≡ next_at count at op → at < to
later count at op to within is = by_end (op == ops.FUNCTION_END) is
  where
    by_end : (b : Bool) → to ≡ (if b then count else at + 1) → at < to
    by_end true is = omega (arith, within, is)
    by_end false is = omega (arith, is)

module _ (of : ℕ → ℕ) where
  one_call : (o : Option ℕ) (ids : List ℕ) (most : ℕ) → max most (greatest of (cons_option o ids)) ≡ max (with_call of o most) (greatest of ids)
  one_call None ids most = refl
  one_call (Some id) ids most = omega arith

  pub walked : (m : Module) (at to : ℕ) (i : Instr) (most next : ℕ) → drop at m.instrs ≡ i ∷ drop (at + 1) m.instrs → next ≡ with_call of (callee (read i)) most → to ≡ next_at (length m.instrs) at i.op
      → max most (greatest of (calls_of (left m at))) ≡ max next (greatest of (calls_of (left m to)))
  walked m at to i most next here is goes =
      ap (λ l. max most (greatest of (calls_of l))) (left_is m at i here)
      ∙ one_call (callee (read i)) (calls_of (behind m at i.op)) most
      ∙ ap (λ n. max n (greatest of (calls_of (behind m at i.op)))) (sym is)
      ∙ ap (λ l. max next (greatest of (calls_of l))) (goes_to m at i.op ∙ ap (left m) (sym goes))

  pub over : (m : Module) (at most : ℕ) → length m.instrs ≤ at → max most (greatest of (calls_of (left m at))) ≡ most
  over m at most behind = ap (λ l. max most (greatest of (calls_of l))) (nothing_left m at behind) ∙ omega arith
