use Rattle.std.proofs.Common.{◌∙◌, sym, ap, subst, IsTrue, length}
use Rattle.std.specs.List.{AllByRecursion}
use Rattle.gsl_types.specs.Known.{IsSound}
use Rattle.gsl_types.specs.declared.ty.Member.{Member}
use Rattle.gsl_layout.specs.Extents.{plain}
use Rattle.gsl_check_decl.specs.Structs.{with_lines}
use Rattle.gsl_check_decl.proofs.Gathering.{had_plain, had_sound, lines_had}
use Rattle.gsl_check_decl.proofs.structs.members_of.Goals as goal

pub returns-clause-sound : goal.returns-clause-sound
returns-clause-sound c =
    subst (λ members. AllByRecursion (λ (member : Member). IsSound (length c.args.env.now.scene.structs) member.ty) members) (sym c.into_members.ensures)
    (lines_had c.args.env.now (λ t. IsSound (length c.args.env.now.scene.structs) t) (had_sound c.args.env.now.scene) c.args.lines.now c.push_lines.new.members
    (ap (λ l. with_lines c.args.env.now c.args.lines.now l) (sym c.new-members.ensures) ∙ c.in_ok-push_lines.ensures))

pub returns-clause-plain : goal.returns-clause-plain
returns-clause-plain c =
    subst (λ members. AllByRecursion (λ (member : Member). IsTrue (plain member.ty)) members) (sym c.into_members.ensures)
    (lines_had c.args.env.now (λ t. IsTrue (plain t)) (had_plain c.args.env.now.scene) c.args.lines.now c.push_lines.new.members
    (ap (λ l. with_lines c.args.env.now c.args.lines.now l) (sym c.new-members.ensures) ∙ c.in_ok-push_lines.ensures))
