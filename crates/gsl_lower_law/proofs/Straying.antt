-- Steps in a row of which one strays.
use Rattle.std.proofs.Common.{◌≡◌, refl, ap, ◌∙◌, ℕ, ◌+◌, List, [], ◌∷◌, ◌++◌, length, append_assoc}
use Rattle.std.proofs.lemmas.List.{length-append}
use Rattle.std.specs.Prelude.{nat_le, if◌then◌else◌, Bool, true, false}
use Rattle.gsl_base.specs.declared.input.Input.{Input}
use Rattle.gsl_words.specs.declared.module.Module.{Module}
use Rattle.gsl_valid.specs.Instruction.{read}
use Rattle.gsl_valid.specs.Placed.{Code, Placed, placed_from, words_from}
use Rattle.gsl_machine.specs.Machine.{behind as going_on, run}
use Rattle.gsl_machine.specs.State.{Ids, State, Strayed, on}
use Rattle.gsl_machine.specs.Steps.{act}
use Rattle.gsl_machine.proofs.Over.{run_on}
use Rattle.gsl_spv.specs.Calls as call
use Rattle.gsl_spv.specs.Growing.{Extends}
use Rattle.gsl_spv.specs.Sections.{Sections}
use Rattle.gsl_spv.specs.declared.refusal.TheConstants.{MOST_IDS}
use Rattle.gsl_spv.proofs.Extending.{extends_then}
use Rattle.gsl_lower_values.specs.Building.{Built, Made, Full, Step, behind, giving, put_giving, ◌>>=◌}
use Rattle.gsl_lower_law.specs.Computing.{Acts, Comes, Grows, Left, Reaches, leaving}
use Rattle.gsl_lower_law.specs.Stretches.{Leads}
use Rattle.gsl_lower_law.specs.Straying.{GoesOut, LeadsOut, Puts, Strays}
use Rattle.gsl_lower_law.specs.Values.{Keeps, Text}
use Rattle.gsl_lower_law.proofs.Giving.{giving_grows, with_id}
use Rattle.gsl_lower_law.proofs.Joining.{grows_then, placed_on}

module _ (m : Module) (input : Input) where
  -- what strays behind a stretch, strays
  out_behind : (a b : Code) (before between : State) → Leads m input a before between → LeadsOut m input b between → LeadsOut m input (a ++ b) before
  out_behind a b before between first second at rest =
      let last = second (words_from at a) rest in (
        last.0,
        ap (λ n. run m input n (record before { rest = placed_from at (a ++ b) ++ rest })) (length-append a b)
            ∙ ap (λ l. run m input (length a + length b) (record before { rest = l })) (placed_on at a b rest)
            ∙ run_on m input (length a) (length b) (record before { rest = placed_from at a ++ (placed_from (words_from at a) b ++ rest) })
            ∙ ap (λ o. going_on o (run m input (length b))) (first at (placed_from (words_from at a) b ++ rest))
            ∙ last.1,
      )

  -- what strays before more instructions, strays
  out_before : (a b : Code) (before : State) → LeadsOut m input a before → LeadsOut m input (a ++ b) before
  out_before a b before first at rest =
      let here = first at (placed_from (words_from at a) b ++ rest) in (
        here.0,
        ap (λ n. run m input n (record before { rest = placed_from at (a ++ b) ++ rest })) (length-append a b)
            ∙ ap (λ l. run m input (length a + length b) (record before { rest = l })) (placed_on at a b rest)
            ∙ run_on m input (length a) (length b) (record before { rest = placed_from at a ++ (placed_from (words_from at a) b ++ rest) })
            ∙ ap (λ o. going_on o (run m input (length b))) here.1,
      )

  module _ (whole : Sections) {A B : Type 0} where
    -- a step that strays behind another
    pub strays_then : (Is : A → Ids → Type 0) (left : Left) (state : State) (before : Sections) (first : Step A) (next : A → Step B) → Acts m input whole Is left state before first → ((a : A) (between : Sections) → Grows between (next a between))
        → ((a : A) (between : Sections) (ids : Ids) → Is a ids → Keeps state.ids ids → Strays m input whole (leaving state left ids) between (next a)) → Strays m input whole state before (first >>= next)
    strays_then Is left state before first next p grows q = record {
      grows = grows_then m input whole before (first before) next p.grows grows;
      goes = λ text ready. by (first before) (p.comes text ready) text;
    }
      where
        by_second : (a : A) (between : Sections) (second : Built B) → (Extends between whole → Reaches m input Is left state before a between) → Grows between second
            → ((r : Reaches m input Is left state before a between) → GoesOut m input whole (leaving state left r.ids) between second) → GoesOut m input whole state before second
        by_second a between Full first grows more = tt
        by_second a between (Made b after) first grows more = λ inside.
            let r = first (extends_then grows inside) in
            let s = more r inside in
            record { code = r.code ++ s.code; puts = s.puts ∙ ap (λ l. l ++ s.code) r.puts ∙ append_assoc before.functions r.code s.code; leads = out_behind r.code s.code state (leaving state left r.ids) r.leads s.leads }

        by : (built : Built A) → Comes m input whole Is left state before built → Text m whole state.own → GoesOut m input whole state before (behind built next)
        by Full comes text = tt
        by (Made a between) comes text = by_second a between (next a between) comes (grows a between) (λ r. (q a between r.ids r.is r.keeps).goes text r.ready)

    -- what stands behind a step that strays
    pub strays_before : (state : State) (before : Sections) (first : Step A) (next : A → Step B) → Strays m input whole state before first → ((a : A) (between : Sections) → Grows between (next a between)) → Strays m input whole state before (first >>= next)
    strays_before state before first next p grows = record {
      grows = grows_then m input whole before (first before) next p.grows grows;
      goes = λ text ready. by (first before) (p.goes text ready);
    }
      where
        by_second : (a : A) (between : Sections) (second : Built B) → (Extends between whole → Puts m input state before between) → Grows between second → GoesOut m input whole state before second
        by_second a between Full first grows = tt
        by_second a between (Made b after) first grows = λ inside.
            let r = first (extends_then grows inside) in
            record { code = r.code ++ grows.functions.more; puts = grows.functions.is ∙ ap (λ l. l ++ grows.functions.more) r.puts ∙ append_assoc before.functions r.code grows.functions.more; leads = out_before r.code grows.functions.more state r.leads }

        by : (built : Built A) → GoesOut m input whole state before built → GoesOut m input whole state before (behind built next)
        by Full goes = tt
        by (Made a between) goes = by_second a between (next a between) goes (grows a between)

  module _ (whole : Sections) where
    -- one instruction that strays
    pub giving_strays : (op : ℕ) (operands : List ℕ) (type : ℕ) (state : State) (before : Sections)
        → ((id at : ℕ) (rest : List Placed) → on (read (with_id op operands type id)) (act m input at (record state { rest = rest })) ≡ Strayed at) → Strays m input whole state before (giving op operands type)
    unfolding giving
    giving_strays op operands type state before strays = record {
      grows = giving_grows m input whole op operands type before;
      goes = λ text ready. by (nat_le (before.last + 1) MOST_IDS);
    }
      where
        by : (b : Bool) → GoesOut m input whole state before (behind (if b then Made (before.last + 1) (call.take before).sections else Full) (put_giving op type operands))
        by true = λ inside. record { code = with_id op operands type (before.last + 1) ∷ []; puts = refl; leads = λ at rest. (at, ap (λ o. going_on o (run m input 0)) (strays (before.last + 1) at rest)) }
        by false = tt
