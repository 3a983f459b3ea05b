-- Sources have one verdict, and `compile` one job.
use Rattle.std.proofs.Common.{◌≡◌, ◌⊎◌, inl, inr, ℕ, List, Ok, Err, ap, sym, subst, ◌∙◌}
use Rattle.gsl_base.specs.declared.stage.Stage.{Stage}
use Rattle.gsl_base.specs.declared.fault.Fault.{Fault}
use Rattle.gsl_base.specs.Checked.{Checked}
use Rattle.gsl_host.specs.declared.target.Target.{Target}
use Rattle.gsl_form.specs.declared.program.Program.{Program}
use Rattle.gsl_form.specs.Form.{Name}
use Rattle.gsl_tree.specs.declared.program.Program.{Program as Linked}
use Rattle.gsl_tree.specs.WellTyped.{program_lists}
use Rattle.gsl_form.proofs.Units.{one_program}
use Rattle.gsl_cmd.specs.Job.{Job, IsCompileJob, Gathered, Sources, Absent, TooLong, compiled}
use Rattle.gsl_lowered.proofs.Judged.{one_lowered}
use Rattle.gsl_words.specs.declared.module.Module.{Module}
use Rattle.gsl_words.specs.declared.target.Target.{Target as Version}
use Rattle.gsl_cmd.specs.Lowering.{module_of}
use Rattle.gsl_cmd.specs.Verdict.{Accepts, FaultWhere, FirstFault, HasModule, IsOfForm, Judges, linked_of}

pub one_formed : (version : Version) (stage : Stage) (linked : Linked) (p q : Program) → IsOfForm version stage linked p → IsOfForm version stage linked q → p ≡ q
one_formed version stage linked p q ps qs = one_program (program_lists linked) p q ps.spelled qs.spelled

pub same_linked : {x y : Linked} → ◌≡◌ {A = Checked Linked} (Ok x) (Ok y) → x ≡ y
same_linked e = cc

one_module : (version : Version) (stage : Stage) (linked : Linked) (m n : Module) → HasModule version stage linked m → HasModule version stage linked n → m ≡ n
one_module version stage linked m n (inl (p, ps, is)) (inl (q, qs, also)) = is ∙ ap module_of (one_formed version stage linked p q ps qs) ∙ sym also
one_module version stage linked m n (inl (p, ps, is)) (inr (none, low)) = absurd (none p ps)
one_module version stage linked m n (inr (none, low)) (inl (q, qs, also)) = absurd (none q qs)
one_module version stage linked m n (inr (none, low)) (inr (others, also)) = one_lowered version linked m n low also

one_accepted : (version : Version) (stage : Stage) (sources : List (List ℕ)) (m n : Module) → Accepts version stage sources m → Accepts version stage sources n → m ≡ n
one_accepted version stage sources m n ms ns =
    one_module version stage ms.linked m n ms.has (subst (λ linked. HasModule version stage linked n) (same_linked (sym ns.read ∙ ms.read)) ns.has)

one_where : (version : Version) (stage : Stage) (f g : Fault) (read : Checked Linked) → FaultWhere version stage f read → FaultWhere version stage g read → f ≡ g
one_where version stage f g (Err first) fs gs = fs ∙ sym gs
one_where version stage f g (Ok linked) fs gs = fs.0 ∙ sym gs.0

never_both : (version : Version) (stage : Stage) (sources : List (List ℕ)) (m : Module) (f : Fault) → Accepts version stage sources m → FirstFault version stage sources f → ⊥
never_both version stage sources m f ms fs = (subst (FaultWhere version stage f) ms.read fs).1 m ms.has

pub one_judged : (version : Version) (stage : Stage) (sources : List (List ℕ)) (v w : Checked Module) → Judges version stage sources v → Judges version stage sources w → v ≡ w
one_judged version stage sources (Ok p) (Ok q) ps qs = ap Ok (one_accepted version stage sources p q ps qs)
one_judged version stage sources (Ok p) (Err f) ps fs = absurd (never_both version stage sources p f ps fs)
one_judged version stage sources (Err f) (Ok p) fs ps = absurd (never_both version stage sources p f ps fs)
one_judged version stage sources (Err f) (Err g) fs gs = ap Err (one_where version stage f g (linked_of stage sources) fs gs)

pub one_compile_job : (version : Version) (stage : Stage) (out : Name) (names : List Name) (targets : List Target) (gathered : Gathered) (j k : Job) →
    IsCompileJob version stage out names targets j gathered → IsCompileJob version stage out names targets k gathered → j ≡ k
one_compile_job version stage out names targets Absent j k js ks = js ∙ sym ks
one_compile_job version stage out names targets (TooLong unit) j k js ks = js ∙ sym ks
one_compile_job version stage out names targets (Sources sources) j k (v, vs, js) (w, ws, ks) =
    js ∙ ap (compiled out names targets) (one_judged version stage sources v w vs ws) ∙ sym ks
