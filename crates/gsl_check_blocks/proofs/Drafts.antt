-- A block behind its instance name.
use Rattle.std.proofs.Common.{◌≡◌, sym, ap, subst, ◌∙◌, List, Option, Ok}
use Rattle.gsl_base.specs.Checked.{Checked, ◌>>=◌}
use Rattle.gsl_syntax.specs.declared.declaration.Name.{Name}
use Rattle.gsl_tree.specs.declared.unit.Block.{Block}
use Rattle.gsl_tree.specs.declared.unit.BlockKind.{BlockKind}
use Rattle.gsl_tree.specs.declared.unit.BlockMember.{BlockMember}
use Rattle.gsl_check_expr.specs.declared.env.Env.{Env}
use Rattle.gsl_qualifiers.specs.declared.qualified.Qualified.{Qualified}
use Rattle.gsl_check_blocks.specs.Blocks.{block_of, block_with, draft_of, may_be_instance}
use Rattle.gsl_check_blocks.specs.Stands.{with_draft}

pub behind_instance : (k : BlockKind) (q : Qualified) (name : Name) (instance : Option Name) (members : List BlockMember) (env seen : Env) (draft : Block) → seen ≡ env
    → may_be_instance seen instance ≡ Ok tt → draft ≡ draft_of k q name instance members → with_draft q name instance draft env ≡ block_with k q name instance members env
unfolding with_draft block_with block_of
behind_instance k q name instance members env seen draft is may draft_is =
    ap (λ (d : Block). with_draft q name instance d env) draft_is
    ∙ sym (ap (λ (r : Checked (Unit {0})). r >>= (λ _. with_draft q name instance (draft_of k q name instance members) env))
    (subst (λ (e : Env). may_be_instance e instance ≡ Ok tt) is may))
