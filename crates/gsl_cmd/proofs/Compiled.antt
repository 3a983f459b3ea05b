-- What compiling sources answers, from what its parts answered.
use Rattle.std.proofs.Common.{◌≡◌, ◌<◌, ◌≤◌, ◌^◌, inl, inr, ℕ, length, arith, ap, ◌∙◌, List, Result, Ok, Err, Option, Some, None, IfOk, IfSome, IfNone, refl, sym, subst}
use Rattle.gsl_base.specs.Checked.{Refuses}
use Rattle.gsl_base.specs.declared.fault.Refusal.{Refusal}
use Rattle.gsl_base.specs.declared.fault.Refusal.TheVariants as refusal
use Rattle.gsl_base.specs.declared.stage.Stage.{Stage}
use Rattle.gsl_base.specs.declared.stage.Stage.TheVariants.{Compute}
use Rattle.gsl_base.specs.declared.memory.Memory.{Memory as WantOfMemory}
use Rattle.gsl_form.specs.declared.program.Program.{Program}
use Rattle.gsl_form.specs.Trees.{Spells}
use Rattle.gsl_tree.specs.declared.program.Program.{Program as Linked}
use Rattle.gsl_tree.specs.WellTyped.{program_lists}
use Rattle.gsl_lowered.specs.Sound.{IsLowered}
use Rattle.gsl_words.specs.Bytes.{bytes_of}
use Rattle.gsl_words.specs.declared.target.Target.{Target}
use Rattle.gsl_words.specs.declared.target.Target.TheVariants.{V10}
use Rattle.gsl_words.specs.declared.module.Module.{Module}
use Rattle.gsl_valid.specs.Placed.{count_of_words}
use Rattle.gsl_form.specs.Form.{IsProgram}
use Rattle.gsl_cmd.specs.Lowering.{module_of}
use Rattle.gsl_valid.specs.Portable.{Portable}
use Rattle.gsl_valid.specs.Valid.{Valid}
use Rattle.gsl_cmd.specs.Carries.{Carries}
use Rattle.gsl_cmd.specs.Meant.{KeepsMeaning}
use Rattle.gsl_cmd.specs.declared.compiling.TheConstants.{MAX_SOURCES}
use Rattle.gsl_cmd.specs.Verdict.{Accepts, AreOfForm, AreOther, Compiles, FaultWhere, HasModule, IsOfForm, IsPromised, Makes, MakesLinked, linked_of}
use Rattle.gsl_cmd.specs.Weight.{IsSmall}
use Rattle.gsl_cmd.proofs.Counts.{statements_light}
use Rattle.gsl_cmd.proofs.Carried.{program_carries}
use Rattle.gsl_cmd.proofs.Meant.{other_keeps}
use Rattle.gsl_cmd.proofs.Sizes.{module_small}
use Rattle.gsl_cmd.proofs.PortableModule.{module_portable}
use Rattle.gsl_cmd.proofs.Unique.{one_formed, same_linked}
use Rattle.gsl_cmd.proofs.ValidModule.{module_valid}

module _ (target : Target) (stage : Stage) (sources : List (List ℕ)) where
  -- the sources have a fault
  pub refused : (why : Refusal) → Refuses why (linked_of stage sources) → Makes target stage sources (Err why)
  refused (refusal.Source fault) is = subst (FaultWhere target stage fault) (sym is) refl
  refused refusal.Memory is = tt

  -- they make this program
  pub made : (linked : Linked) (result : Result Module Refusal) → linked_of stage sources ≡ Ok linked → MakesLinked target stage linked result → Makes target stage sources result
  made linked (Ok m) is has = record { linked = linked; read = is; has = has }
  made linked (Err (refusal.Source fault)) is none = subst (FaultWhere target stage fault) (sym is) none
  made linked (Err refusal.Memory) is met = tt

  -- their module is valid
  has_valid : (linked : Linked) (m : Module) → HasModule target stage linked m → Valid m
  has_valid linked m (inl (p, formed, same)) = subst Valid (sym same) (module_valid p formed.spelled.fits)
  has_valid linked m (inr (none, lowered)) = lowered.sound.valid

  -- where they give a program of the form it is this program's
  has_own : (linked : Linked) (m : Module) (p : Program) → IsOfForm target stage linked p → HasModule target stage linked m → m ≡ module_of p
  has_own linked m p formed (inl (q, other, same)) = same ∙ ap module_of (one_formed target stage linked q p other formed)
  has_own linked m p formed (inr (none, lowered)) = absurd (none p formed)

  its_own : (m : Module) → Accepts target stage sources m → (p : Program) → AreOfForm target stage sources p → m ≡ module_of p
  its_own m accepts p own = has_own accepts.linked m p (subst (λ linked. IsOfForm target stage linked p) (same_linked (sym own.read ∙ accepts.read)) own.formed) accepts.has

  -- where they give another program it keeps the meaning of that
  has_meaning : (linked : Linked) (m : Module) → length sources ≤ MAX_SOURCES → linked_of stage sources ≡ Ok linked → ((p : Program) → IsOfForm target stage linked p → ⊥) → HasModule target stage linked m → KeepsMeaning m linked
  has_meaning linked m few read none (inl (p, formed, same)) = absurd (none p formed)
  has_meaning linked m few read none (inr other) = other_keeps target stage sources linked m few read other

  its_meaning : (m : Module) → Accepts target stage sources m → length sources ≤ MAX_SOURCES → (linked : Linked) → AreOther target stage sources linked → KeepsMeaning m linked
  its_meaning m accepts few linked other = has_meaning linked m few other.read other.unformed (subst (λ l. HasModule target stage l m) (same_linked (sym accepts.read ∙ other.read)) accepts.has)

  -- it is as is promised
  pub promised : (m : Module) → Accepts target stage sources m → IsPromised target stage sources m
  promised m accepts = record {
    valid = has_valid accepts.linked m accepts.has;
    carries = λ p own. subst (λ (x : Module). Carries x p) (sym (its_own m accepts p own)) (program_carries p own.formed.spelled.fits);
    small = λ p own. subst (λ (x : Module). IsSmall x p) (sym (its_own m accepts p own)) (module_small p own.formed.spelled.fits);
    portable = λ p own. subst Portable (sym (its_own m accepts p own)) (module_portable p own.formed.spelled.fits);
    meant = its_meaning m accepts;
  }

  -- the file of their module is this
  pub compiled : (m : Module) (bytes : List ℕ) → Makes target stage sources (Ok m) → bytes ≡ bytes_of m → Compiles target stage sources (Ok bytes)
  compiled m bytes accepts file = (m, accepts, file, promised m accepts)

  pub uncompiled : (why : Refusal) → Makes target stage sources (Err why) → Compiles target stage sources (Err why)
  uncompiled (refusal.Source fault) made = made
  uncompiled refusal.Memory made = tt

-- a program that is neither of the form nor lowered to a valid module has none
pub other_not : (target : Target) (stage : Stage) (linked : Linked) → ((p : Program) → IsOfForm target stage linked p → ⊥) → ((m : Module) → IsLowered target linked m → ⊥) → (m : Module) → HasModule target stage linked m → ⊥
other_not target stage linked none never m (inl (p, formed, same)) = none p formed
other_not target stage linked none never m (inr (others, lowered)) = never m lowered

-- a program's module has few words
pub words_fit : (p : Program) → IsProgram p → count_of_words (module_of p) < 2 ^ 32
words_fit p fits = omega (arith, (module_small p fits).words, fits.most, fits.few, statements_light (length p.members) p.statements fits.statements)

-- What is told of a linked program where the stage is known.
module _ (stage : Stage) (linked : Linked) (is : stage ≡ Compute) where
  pub taken : (result : Result (Option Program) WantOfMemory) → IfOk result (λ found. IfSome found (λ p. Spells (program_lists linked) p))
      → IfOk result (λ found. IfSome found (λ p. IsOfForm V10 stage linked p))
  taken (Ok (Some p)) spells = record { target_is = refl; stage_is = is; spelled = spells }
  taken (Ok None) spells = tt
  taken (Err memory) spells = tt

  pub untaken : (result : Result (Option Program) WantOfMemory) → IfOk result (λ found. IfNone found ((p : Program) → Spells (program_lists linked) p → ⊥))
      → IfOk result (λ found. IfNone found ((p : Program) → IsOfForm V10 stage linked p → ⊥))
  untaken (Ok (Some p)) none = tt
  untaken (Ok None) none = λ p formed. none p formed.spelled
  untaken (Err memory) none = tt
