-- What was lowered, taken apart.
use Rattle.std.proofs.Common.{◌≡◌, refl, sym, ap, ◌∙◌, subst, arith}
use Rattle.gsl_base.specs.declared.input.Input.{Input}
use Rattle.gsl_words.specs.declared.module.Module.{Module}
use Rattle.gsl_tree.specs.Around.{Around}
use Rattle.gsl_tree.specs.declared.program.Program.{Program}
use Rattle.gsl_meaning.specs.State as shader
use Rattle.gsl_machine.specs.State.{State}
use Rattle.gsl_spv.specs.Sections.{Sections}
use Rattle.gsl_spv.proofs.Extending.{extends_take}
use Rattle.gsl_lower_holders.specs.Flow.{Emit, Flow, Gives, Lacks, Lowered, behind}
use Rattle.gsl_lower_follows.specs.Frames.{Frame, Good, Inside, coming}
use Rattle.gsl_lower_follows.specs.Giving.{Adds, Grown, GrownTo}
use Rattle.gsl_lower_follows.proofs.Beginning.{seated_grown}
use Rattle.gsl_lower_law_stmt.proofs.Ways.{taken}

abbrev pub flow_in : {A : Type 0} → Flow → Lowered A → Flow
flow_in b Lacks = b
flow_in b (Gives a later) = later

pub opens : {A B : Type 0} (low : Lowered A) (next : A → Emit B) (c : B) (later : Flow) → behind low next ≡ Gives c later → (a : A) × (mid : Flow) × (low ≡ Gives a mid) × (next a mid ≡ Gives c later)
opens Lacks next c later e = absurd cc
opens (Gives a mid) next c later e = (a, mid, refl, e)

pub grown_by : {A : Type 0} (emit : Emit A) (b : Flow) (a : A) (later : Flow) → Adds emit → emit b ≡ Gives a later → Grown b later
grown_by emit b a later adds e = subst (GrownTo b) e (adds b)

-- Ids alone were taken.
abbrev pub Known : {A : Type 0} → Flow → Lowered A → Type 0
Known b Lacks = Unit {0}
Known b (Gives a later) = Grown b later × (later.sections.functions ≡ b.sections.functions)

pub grown_taken : (b : Flow) → Grown b (taken b)
grown_taken b = record { extends = extends_take b.sections; used = omega arith; place = refl }

module _ (m : Module) (input : Input) (sections : Sections) (f : Frame m input sections) (p : Program) (around : Around) where
  -- Where ids alone were taken, the state is that of the shader as before.
  pub good_aside : (b later : Flow) (s : shader.State) (state : State) → Good m input sections f p around b s state → Grown b later → later.sections.functions ≡ b.sections.functions → Inside m input sections f later.sections → Good m input sections f p around later s state
  good_aside b later s state good grown same inside = record {
    inside = inside;
    rest = good.rest ∙ sym (ap (λ code. coming m input sections f (record b.sections { functions = code })) same);
    within = good.within;
    own = good.own;
    waiting = good.waiting;
    ready = record { lasting = good.ready.lasting; later = λ id less. good.ready.later id (let last = grown.extends.last in omega (arith, less, last)) };
    seated = seated_grown m input sections f b later grown good.seated;
    holds = good.holds;
    typed = good.typed;
    reached = good.reached;
  }
