use Rattle.std.proofs.Common.{◌≡◌, ◌++◌, ◌∷◌, [], sym, subst}
use Rattle.gsl_types.specs.Known.{AreStructs}
use Rattle.gsl_check_expr.specs.declared.env.Env.{Env}
use Rattle.gsl_check_decl.specs.Structs.{height_over}
use Rattle.gsl_check_decl.proofs.Longer.{kept_behind, kept_back}
use Rattle.gsl_check_decl.proofs.sound.SoundEnv.push_struct.Goals as goal

pub invariant_of-self-in-Ok : goal.invariant_of-self-in-Ok
invariant_of-self-in-Ok c =
    let env = c.self.inside.env in
    let kept = kept_behind env.scene.structs c.args.next env.heights c.args.height c.push-2.new.self c.push.new.self
    (c.self.invariant.0, c.self.invariant.1, c.self.invariant.2, c.self.invariant.3)
    (subst (λ (e : Env). AreStructs (e.scene.structs ++ c.args.next ∷ [])) (sym c.self.view_is) c.requires.known)
    c.requires.plain
    (subst (λ (e : Env). c.args.height ≡ height_over e.scene.structs c.args.next.members) (sym c.self.view_is) c.requires.height)
    c.in-Ok.ensures.ok
    c.in_ok-push.ensures.ok in
    (kept.0, kept.1, kept.2, kept.3, c.self.invariant.4, c.self.invariant.5)

pub invariant_of-self-in-Err : goal.invariant_of-self-in-Err
invariant_of-self-in-Err c =
    let env = c.self.inside.env in
    let kept = kept_back env.scene.structs env.heights c.args.height c.push-2.new.self c.push.new.self c.truncate.new.self c.len-count.result
    (c.self.invariant.0, c.self.invariant.1, c.self.invariant.2, c.self.invariant.3)
    c.in-Err.ensures.memory
    c.in_ok-push.ensures.ok
    c.len-count.ensures
    c.truncate.ensures in
    (kept.0, kept.1, kept.2, kept.3, c.self.invariant.4, c.self.invariant.5)
