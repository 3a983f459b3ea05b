use Rattle.std.proofs.Common.{ap, sym, ◌∙◌, nat_le}
use Rattle.gsl_tree.specs.Weights.{height_of}
use Rattle.gsl_makers.proofs.heights.+is_low.Goals as goal

pub returns-in-Struct : goal.returns-in-Struct
returns-in-Struct t c = ap (λ h. nat_le h c.args.most) (c.height_at.ensures ∙ c.requires.heights c.in-Struct.number ∙ sym (ap (height_of c.args.structs.now) c.in-Struct.is))
