use Rattle.std.proofs.Common.{◌≡◌, refl, subst, Some, None, slice_get}
use Rattle.gsl_types.specs.declared.ty.Ty.TheVariants.{Void}
use Rattle.gsl_tree.specs.declared.program.Program.{Program}
use Rattle.gsl_perform_main.proofs.Depths.{main_performed, no_main}
use Rattle.gsl_perform_main.proofs.calls.run.Goals as goal

pub returns-in-None : goal.returns-in-None
returns-in-None c = no_main c.args.frame.now (subst (λ (x : Program). slice_get x.functions x.main ≡ None) c.program-program.ensures c.in-None.ensures) c.args.w.now.store c.args.w.now.units

pub returns : goal.returns
returns c =
    main_performed c.args.frame.now c.in-Some.f.now (subst (λ (x : Program). slice_get x.functions x.main ≡ Some c.in-Some.f.now) c.program-program.ensures c.in-Some.ensures) Void refl c.new.result c.new.ensures
    c.args.w.now c.performs_at.new.w c.performs_at.result c.performs_at.ensures
