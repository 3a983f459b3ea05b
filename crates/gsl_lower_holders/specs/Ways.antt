-- Blocks of two ways that meet again (SPIR-V 1.0, 2.11).
use Rattle.std.specs.Prelude.{ℕ, List, [], ◌∷◌}
use Rattle.gsl_instr.specs.declared.op.TheConstants as op
use Rattle.gsl_types.specs.declared.ty.Ty.{Ty}
use Rattle.gsl_tree.specs.declared.expr.LogicOp.{LogicOp}
use Rattle.gsl_tree.specs.declared.expr.LogicOp.TheVariants as logic
use Rattle.gsl_lower_holders.specs.declared.blocks.Fork.{Fork}
use Rattle.gsl_lower_holders.specs.Flow.{Emit, ◌>>=◌, fresh, given, opening, putting_here, type_id}
use Rattle.gsl_lower_holders.specs.Waiting.{holder, keep, take_back}

-- a block ends in a choice between two, and the first of them begins
abbrev pub choosing : ℕ → List ℕ → ℕ → Emit (Unit {0})
choosing end operands first =
    putting_here op.SELECTION_MERGE (end ∷ 0 ∷ []) >>= (λ done. putting_here op.BRANCH_CONDITIONAL operands >>= (λ done. opening first))

-- The right operand is evaluated in a block of its own, which is entered where the left one does not decide.
abbrev pub targets : LogicOp → ℕ → ℕ → ℕ → List ℕ
targets logic.Or x right end = x ∷ end ∷ right ∷ []
targets which x right end = x ∷ right ∷ end ∷ []

abbrev pub fork : ℕ → ℕ → ℕ → Fork
fork holder other end = record { holder = holder; other = other; end = end }

unfoldable pub begin_short : LogicOp → ℕ → Emit Fork
begin_short which x = keep x >>= (λ h. fresh >>= (λ right. fresh >>= (λ end. choosing end (targets which x right end) right >>= (λ done. given (fork h right end)))))

-- a value is left in a holder for the block where both ways meet
abbrev pub leaving : Fork → ℕ → ℕ → Emit (Unit {0})
leaving f v next = putting_here op.STORE (f.holder ∷ v ∷ []) >>= (λ done. putting_here op.BRANCH (f.end ∷ []) >>= (λ done. opening next))

-- both ways meet
unfoldable pub join : Ty → Fork → ℕ → Emit ℕ
join t f v = leaving f v f.end >>= (λ done. type_id t >>= take_back f.holder)

unfoldable pub begin_choice : ℕ → Emit Fork
begin_choice x = holder >>= (λ h. fresh >>= (λ yes. fresh >>= (λ no_. fresh >>= (λ end. choosing end (x ∷ yes ∷ no_ ∷ []) yes >>= (λ done. given (fork h no_ end))))))

-- the first value is there, and the other way begins
unfoldable pub other_way : Fork → ℕ → Emit (Unit {0})
other_way f v = leaving f v f.other
