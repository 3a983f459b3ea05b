use Rattle.std.proofs.Common.{sym, ◌∙◌}
use Rattle.gsl_lowered.proofs.Filed.{few}
use Rattle.gsl_lowered.proofs.writable.is_writable.Goals as goal

pub all_in_table-requires : goal.all_in_table-requires
all_in_table-requires c = few c.args.of.now (sym c.is_short.ensures ∙ c.if-not-is_short.false)
