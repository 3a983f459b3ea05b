use Rattle.std.proofs.Common.{◌∙◌, ap}
use Rattle.std.specs.Map.{lookup}
use Rattle.gsl_spv.specs.Once.{entries, same}
use Rattle.gsl_spv.proofs.Entering.{entered, interface_stays}
use Rattle.gsl_spv.proofs.globals.Globals.put_once.Goals as goal

pub invariant_of-self-2 : goal.invariant_of-self-2
invariant_of-self-2 c = (
  entered c.reserve.new.self c.insert.new.self.entries c.self.inside.instrs c.put.new.self _ c.args.key c.args.id
      (c.in_ok-reserve.ensures.entries ∙ c.self.invariant.0) c.in_ok-insert.ensures.entries
      (ap (λ l. lookup (same c.args.key) (entries l)) c.self.view_is ∙ c.requires.new) c.requires.entry c.in_ok-put.ensures.ok,
  interface_stays c.self.inside.interface.items c.self.inside.instrs c.put.new.self _ c.self.invariant.1 c.requires.interface c.in_ok-put.ensures.ok,
)
