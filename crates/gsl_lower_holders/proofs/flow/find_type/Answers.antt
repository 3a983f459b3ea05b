use Rattle.std.proofs.Common.{sym, ◌∙◌}
use Rattle.gsl_lower_holders.proofs.Turns.{found_at, not_at}
use Rattle.gsl_lower_holders.proofs.flow.find_type.Goals as goal

pub returns-then-is_of : goal.returns-then-is_of
returns-then-is_of c = found_at c.args.ty.now c.args.composites.now c.loop-k.k c.entry_at-entry.result.now _ c.entry_at-entry.ensures (sym c.is_of.ensures ∙ c.if-is_of.true) c.loop-k.invariant

pub loop-k-preserved : goal.loop-k-preserved
loop-k-preserved c = not_at c.args.ty.now c.args.composites.now c.loop-k.k c.entry_at-entry.result.now _ c.entry_at-entry.ensures (sym c.is_of.ensures ∙ c.if-is_of.false) c.loop-k.invariant
