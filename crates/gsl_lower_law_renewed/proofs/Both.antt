-- What a step does in two ways, it does in both at once: the instructions that it put come to one state.
use Rattle.std.proofs.Common.{◌≡◌, sym, ap, ◌∙◌, subst, [], ◌++◌, length}
use Rattle.std.proofs.lemmas.List.{append_cancel_left}
use Rattle.gsl_base.specs.declared.input.Input.{Input}
use Rattle.gsl_words.specs.declared.module.Module.{Module}
use Rattle.gsl_valid.specs.Placed.{placed_from}
use Rattle.gsl_machine.specs.Machine.{run}
use Rattle.gsl_machine.specs.State.{Going, Ids, Outcome, State}
use Rattle.gsl_spv.specs.Sections.{Sections}
use Rattle.gsl_lower_values.specs.Building.{Built, Full, Made, Step}
use Rattle.gsl_lower_law.specs.Computing.{Acts, Comes, Left, Reaches}

abbrev ids_in : Ids → Outcome → Ids
ids_in other (Going state) = state.ids
ids_in other _ = other

module _ (m : Module) (input : Input) (whole : Sections) {A : Type 0} (First Second : A → Ids → Type 0) (left : Left) (state : State) (before : Sections) where
  same_ids : (a : A) (after : Sections) (r : Reaches m input First left state before a after) (q : Reaches m input Second left state before a after) → r.ids ≡ q.ids
  same_ids a after r q =
      let same : r.code ≡ q.code = append_cancel_left before.functions r.code q.code (sym r.puts ∙ q.puts) in
      ap (ids_in state.ids) (sym (r.leads 0 []) ∙ ap (λ code. run m input (length code) (record state { rest = placed_from 0 code ++ [] })) same ∙ q.leads 0 [])

  comes_both : (built : Built A) → Comes m input whole First left state before built → Comes m input whole Second left state before built → Comes m input whole (λ a ids. First a ids × Second a ids) left state before built
  comes_both Full first second = tt
  comes_both (Made a after) first second = λ inside. joined a after (first inside) (second inside)
    where
      joined : (a : A) (after : Sections) → Reaches m input First left state before a after → Reaches m input Second left state before a after → Reaches m input (λ a ids. First a ids × Second a ids) left state before a after
      joined a after r q = record {
        code = r.code;
        puts = r.puts;
        ids = r.ids;
        leads = r.leads;
        is = (r.is, subst (Second a) (sym (same_ids a after r q)) q.is);
        keeps = r.keeps;
        ready = r.ready;
      }

  pub acts_both : (step : Step A) → Acts m input whole First left state before step → Acts m input whole Second left state before step → Acts m input whole (λ a ids. First a ids × Second a ids) left state before step
  acts_both step p q = record {
    grows = p.grows;
    comes = λ text ready. comes_both (step before) (p.comes text ready) (q.comes text ready);
  }
