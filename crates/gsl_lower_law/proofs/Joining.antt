-- Stretches in a row, and steps in a row.
use Rattle.std.proofs.Common.{◌≡◌, refl, sym, ap, ◌∙◌, ℕ, ◌+◌, List, [], ◌∷◌, ◌++◌, length, append_assoc, append-nil}
use Rattle.std.proofs.lemmas.List.{length-append}
use Rattle.gsl_base.specs.declared.input.Input.{Input}
use Rattle.gsl_words.specs.Instructions.{word_count}
use Rattle.gsl_words.specs.declared.module.Module.{Module}
use Rattle.gsl_valid.specs.Placed.{Code, Placed, placed_from, words_from}
use Rattle.gsl_machine.specs.Machine.{behind as going_on, run}
use Rattle.gsl_machine.specs.State.{Ids, State}
use Rattle.gsl_machine.proofs.Over.{run_on}
use Rattle.gsl_spv.specs.Growing.{Extends}
use Rattle.gsl_spv.specs.Sections.{Sections}
use Rattle.gsl_spv.proofs.Extending.{extends_then, extends_same}
use Rattle.gsl_lower_values.specs.Building.{Built, Made, Full, Step, behind, given, ◌>>=◌}
use Rattle.gsl_lower_law.specs.Stretches.{Leads}
use Rattle.gsl_lower_law.specs.Values.{Keeps}
use Rattle.gsl_lower_law.specs.Computing.{Acts, Comes, Does, Grows, Left, Reaches, drawing, leaving}

-- ---- stretches

pub placed_on : (at : ℕ) (a b : Code) (rest : List Placed) → placed_from at (a ++ b) ++ rest ≡ placed_from at a ++ (placed_from (words_from at a) b ++ rest)
placed_on at [] b rest = refl
placed_on at (i ∷ a) b rest = ap (λ l. record { at = at; instr = i } ∷ l) (placed_on (at + word_count i) a b rest)

module _ (m : Module) (input : Input) where
  pub leads_same : (state : State) → Leads m input [] state state
  leads_same state at rest = refl

  -- two stretches are one
  pub leads_then : (a b : Code) (before between after : State) → Leads m input a before between → Leads m input b between after → Leads m input (a ++ b) before after
  leads_then a b before between after first second at rest =
      ap (λ n. run m input n (record before { rest = placed_from at (a ++ b) ++ rest })) (length-append a b)
      ∙ ap (λ l. run m input (length a + length b) (record before { rest = l })) (placed_on at a b rest)
      ∙ run_on m input (length a) (length b) (record before { rest = placed_from at a ++ (placed_from (words_from at a) b ++ rest) })
      ∙ ap (λ o. going_on o (run m input (length b))) (first at (placed_from (words_from at a) b ++ rest))
      ∙ second (words_from at a) rest

-- ---- ids

pub keeps_same : (ids : Ids) → Keeps ids ids
keeps_same ids = record { same = λ id held e. e }

pub keeps_then : {a b c : Ids} → Keeps a b → Keeps b c → Keeps a c
keeps_then p q = record { same = λ id held e. q.same id held (p.same id held e) }

-- ---- steps

module _ (m : Module) (input : Input) (whole : Sections) where
  -- what was given with nothing put
  pub given_does : {A : Type 0} (Is : A → Ids → Type 0) (a : A) (state : State) (before : Sections) → Is a state.ids → Does m input whole Is state.choices state before (given a)
  given_does Is a state before is = record {
    grows = extends_same before;
    comes = λ text ready inside. record {
      code = [];
      puts = sym (append-nil before.functions);
      ids = state.ids;
      leads = leads_same m input state;
      is = is;
      keeps = keeps_same state.ids;
      ready = ready;
    };
  }

  pub grows_then : {A B : Type 0} (before : Sections) (first : Built A) (next : A → Step B) → Grows before first → ((a : A) (between : Sections) → Grows between (next a between)) → Grows before (behind first next)
  grows_then before Full next p q = tt
  grows_then {A} {B} before (Made a between) next p q = by (next a between) (q a between)
    where
      by : (second : Built B) → Grows between second → Grows before second
      by Full g = tt
      by (Made b after) g = extends_then p g

  module _ {A B : Type 0} (Is : A → Ids → Type 0) (Then : B → Ids → Type 0) (left last : Left) (state : State) (before : Sections) where
    reaches_then : (a : A) (between : Sections) (b : B) (after : Sections) (r : Reaches m input Is left state before a between) → Reaches m input Then last (leaving state left r.ids) between b after → Reaches m input Then last state before b after
    reaches_then a between b after r s = record {
      code = r.code ++ s.code;
      puts = s.puts ∙ ap (λ l. l ++ s.code) r.puts ∙ append_assoc before.functions r.code s.code;
      ids = s.ids;
      leads = leads_then m input r.code s.code state (leaving state left r.ids) (leaving state last s.ids) r.leads s.leads;
      is = s.is;
      keeps = keeps_then r.keeps s.keeps;
      ready = s.ready;
    }

    comes_behind : (a : A) (between : Sections) (second : Built B) → (Extends between whole → Reaches m input Is left state before a between) → Grows between second
        → ((r : Reaches m input Is left state before a between) → Comes m input whole Then last (leaving state left r.ids) between second) → Comes m input whole Then last state before second
    comes_behind a between Full first grows more = tt
    comes_behind a between (Made b after) first grows more = λ inside. let r = first (extends_then grows inside) in reaches_then a between b after r (more r inside)

    comes_then : (first : Built A) (next : A → Step B) → ((a : A) (between : Sections) → Grows between (next a between)) → Comes m input whole Is left state before first
        → ((a : A) (between : Sections) (r : Reaches m input Is left state before a between) → Comes m input whole Then last (leaving state left r.ids) between (next a between)) → Comes m input whole Then last state before (behind first next)
    comes_then Full next grows p q = tt
    comes_then (Made a between) next grows p q = comes_behind a between (next a between) p (grows a between) (q a between)

    -- one step behind another, each with what it leaves
    pub acts_then : (first : Step A) (next : A → Step B) → Acts m input whole Is left state before first → ((a : A) (between : Sections) → Grows between (next a between))
        → ((a : A) (between : Sections) (ids : Ids) → Is a ids → Keeps state.ids ids → Acts m input whole Then last (leaving state left ids) between (next a)) → Acts m input whole Then last state before (first >>= next)
    acts_then first next p grows q = record {
      grows = grows_then before (first before) next p.grows grows;
      comes = λ text ready. comes_then (first before) next grows (p.comes text ready) (λ a between r. (q a between r.ids r.is r.keeps).comes text r.ready);
    }

  -- the same of steps that store nothing
  pub does_then : {A B : Type 0} (Is : A → Ids → Type 0) (Then : B → Ids → Type 0) (choices left : List ℕ) (state : State) (before : Sections) (first : Step A) (next : A → Step B) → Does m input whole Is choices state before first → ((a : A) (between : Sections) → Grows between (next a between))
      → ((a : A) (between : Sections) (ids : Ids) → Is a ids → Keeps state.ids ids → Does m input whole Then left (record state { ids = ids; choices = choices }) between (next a)) → Does m input whole Then left state before (first >>= next)
  does_then Is Then choices left state before first next p grows q = acts_then Is Then (drawing state choices) (drawing state left) state before first next p grows q
