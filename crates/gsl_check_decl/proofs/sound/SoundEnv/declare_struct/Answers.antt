use Rattle.std.proofs.Common.{◌++◌, ◌∷◌, [], subst}
use Rattle.gsl_types.specs.Known.{AreStructs}
use Rattle.gsl_check_expr.specs.declared.env.Env.{Env}
use Rattle.gsl_check_decl.proofs.sound.SoundEnv.declare_struct.Goals as goal

pub push_struct-requires-clause-known : goal.push_struct-requires-clause-known
push_struct-requires-clause-known c = subst (λ (e : Env). AreStructs (e.scene.structs ++ c.struct_behind-next.result ∷ [])) c.self.view_is c.struct_behind-next.ensures.known
