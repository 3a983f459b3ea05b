use Rattle.std.proofs.Common.{◌≡◌, ℕ, List, [], ◌∷◌, ◌++◌}
use Rattle.std.proofs.Common.{subst}
use Rattle.std.specs.Prelude.{OnOk}
use Rattle.gsl_instr.specs.declared.op.TheConstants as op
use Rattle.gsl_cmd.specs.Lowering.{instr}
use Rattle.gsl_cmd.proofs.Constants.{struct_operands}
use Rattle.gsl_cmd.proofs.lowering.put_block_type.Goals as goal

pub returns : goal.returns
returns c =
    let P : List ℕ → Type 0 = λ args. OnOk c.put.result (c.put.new.self ≡ record c.args.code.now { instrs = c.args.code.now.instrs ++ instr op.TYPE_STRUCT args ∷ [] }) in
    subst P (struct_operands 6 5 c.args.members c.requires) c.put.ensures
