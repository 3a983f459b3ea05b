use Rattle.std.proofs.Common.{◌≡◌, drop}
use Rattle.gsl_tree.specs.declared.unit.Prototype.{Prototype}
use Rattle.gsl_spv.specs.Calls.{take}
use Rattle.gsl_lower_values.specs.Building.{id_by, in_order, with_front}
use Rattle.gsl_lower_flow.proofs.declaring.heads.Given as goal

abbrev pub invariant-loop-k : goal.invariant-loop-k
invariant-loop-k l = with_front l.ids (in_order (λ (one : Prototype). id_by take) (drop l.k l.prototypes) l.b) ≡ in_order (λ (one : Prototype). id_by take) l.prototypes l.initial.b
