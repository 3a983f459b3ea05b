-- Operands in a row, each of which waits where a later one has blocks.
use Rattle.std.proofs.Common.{◌≡◌, refl, subst, ℕ, Bool, true, false, ◌||◌, List, [], ◌∷◌}
use Rattle.gsl_base.specs.declared.input.Input.{Input}
use Rattle.gsl_words.specs.declared.module.Module.{Module}
use Rattle.gsl_values.specs.declared.value.Value.{Value}
use Rattle.gsl_tree.specs.Around.{Around}
use Rattle.gsl_tree.specs.Values.{is_value_of}
use Rattle.gsl_tree.specs.declared.program.Program.{Program}
use Rattle.gsl_meaning.specs.Expressions.{Meant, in_order}
use Rattle.gsl_meaning.specs.Running.{Got, Ran, Run, given as shader_given}
use Rattle.gsl_meaning.specs.Running as shader_run
use Rattle.gsl_meaning.specs.State as shader
use Rattle.gsl_machine.specs.State.{State}
use Rattle.gsl_spv.specs.Sections.{Sections}
use Rattle.gsl_lower_law.specs.Values.{StandEach}
use Rattle.gsl_lower_holders.specs.Flow.{Flow, Gives, Lacks, Lowered, behind, given, ◌>>=◌}
use Rattle.gsl_lower_holders.specs.Waiting.{fetch, hold}
use Rattle.gsl_lower_expr.specs.Parts.{Lower, any_splits, fetches, keeps, operands}
use Rattle.gsl_lower_follows.specs.Frames.{Frame, Good, HeldAs}
use Rattle.gsl_lower_follows.specs.Giving.{Adds, After, Does, GivesValue, Grown, GrownTo, HasGiven, none_waits}
use Rattle.gsl_lower_follows.proofs.Behind.{reaches_here}
use Rattle.gsl_lower_follows.proofs.Doing.{does_then}
use Rattle.gsl_lower_follows.proofs.Fetching.{Again, adds_fetch, adds_hold, does_fetch}
use Rattle.gsl_lower_follows.proofs.Growing.{adds_given, adds_then, grown_then}
use Rattle.gsl_lower_follows.proofs.Holding.{after_any, after_same, after_then, does_hold, does_map, held_after}
use Rattle.gsl_lower_law_expr.specs.Known.{AllGive, AllTyped}
use Rattle.gsl_lower_law_expr.specs.Rows.{HasAll}
use Rattle.gsl_lower_law_expr.proofs.Operands.{after_less, given_value}

module _ (m : Module) (input : Input) (whole : Sections) (f : Frame m input whole) (p : Program) (around : Around) where
  -- Values stand or wait, each as the later ones ask.
  abbrev pub HeldAll : List Lower → List ℕ → List Value → Flow → State → Type 0
  HeldAll [] [] [] b state = Unit {0}
  HeldAll [] [] (v ∷ vs) b state = ⊥
  HeldAll [] (k ∷ ks) vs b state = ⊥
  HeldAll (e ∷ es) [] vs b state = ⊥
  HeldAll (e ∷ es) (k ∷ ks) [] b state = ⊥
  HeldAll (e ∷ es) (k ∷ ks) (v ∷ vs) b state = HeldAs m input whole f (any_splits es) k v b state × HeldAll es ks vs b state

  -- what was kept of operands
  pub record HasKept (es : List Lower) (b : Flow) (state : State) (ids : List ℕ) (later : Flow) (vs : List Value) (s : shader.State) (last : State) : Type 0 where
    pub after : After m input whole f p around (any_splits es) b state later s last
    pub held : HeldAll es ids vs later last
    pub typed : AllTyped p es vs

  none_split : (c d : Bool) → (c || d) ≡ false → (((c || false) || d)) ≡ false
  none_split true d e = absurd cc
  none_split false d e = e

  pub adds_keeps : (es : List Lower) (xs : List Meant) → AllGive (GivesValue m input whole f p around) es xs → Adds (keeps es)
  unfolding keeps
  adds_keeps [] [] all = adds_given {A = List ℕ} []
  adds_keeps [] (x ∷ xs) all = absurd all
  adds_keeps (e ∷ es) [] all = absurd all
  adds_keeps (e ∷ es) (x ∷ xs) all =
      adds_then e.value (λ i. hold (any_splits es) i >>= (λ kept. keeps es >>= (λ others. given (kept ∷ others)))) all.0.1.adds
      (λ i. adds_then (hold (any_splits es) i) (λ kept. keeps es >>= (λ others. given (kept ∷ others))) (adds_hold (any_splits es) i) (λ kept. adds_then (keeps es) (λ others. given (kept ∷ others)) (adds_keeps es xs all.1) (λ others. adds_given (kept ∷ others))))

  -- the first is kept, and the others follow
  kept_first : (e : Lower) (es : List Lower) (b0 b2 : Flow) (state0 mid : State) (s : shader.State) (units kept : ℕ) (v : Value) → Grown b0 b2 → After m input whole f p around (e.traits.splits || false) b0 state0 b2 s mid → HeldAs m input whole f (any_splits es) kept v b2 mid → is_value_of p.structs e.ty v ≡ true
      → (low : Lowered (List ℕ)) (ran : Ran (List Value)) → GrownTo b2 low → Does m input whole f p 0 units mid (HasKept es b2 mid) none_waits ran low
      → Does m input whole f p 0 units mid (HasKept (e ∷ es) b0 state0) none_waits (shader_run.behind ran (λ vs. shader_given (v ∷ vs))) (behind low (λ others. given (kept ∷ others)))
  kept_first e es b0 b2 state0 mid s units kept v grown acc held typed Lacks ran grown2 does = tt
  kept_first e es b0 b2 state0 mid s units kept v grown acc held typed (Gives ks later) ran grown2 does = by ran does
    where
      by : (ran : Ran (List Value)) → Does m input whole f p 0 units mid (HasKept es b2 mid) none_waits ran (Gives ks later)
          → Does m input whole f p 0 units mid (HasKept (e ∷ es) b0 state0) none_waits (shader_run.behind ran (λ vs. shader_given (v ∷ vs))) (Gives (kept ∷ ks) later)
      by (Got vs t left) does = λ inside.
          let q = does inside in
          record {
            later = q.later;
            is = record {
              after = after_less m input whole f p around ((e.traits.splits || false) || any_splits es) (any_splits (e ∷ es)) b0 later state0 q.later t (none_split e.traits.splits (any_splits es)) (after_then m input whole f p around (e.traits.splits || false) (any_splits es) b0 b2 later state0 mid q.later s t grown acc q.is.after);
              held = (held_after m input whole f p around (any_splits es) b2 later mid q.later t kept v grown2 q.is.after held, q.is.held);
              typed = (typed, q.is.typed);
            };
            less = q.less;
            stretch = q.stretch;
          }
      by (shader_run.Ends t) does = does
      by shader_run.Strays does = does
      by shader_run.Goes does = does

  pub keeps_do : (es : List Lower) (xs : List Meant) → AllGive (GivesValue m input whole f p around) es xs → (b : Flow) (s : shader.State) (units : ℕ) (state : State) → Good m input whole f p around b s state
      → Does m input whole f p 0 units state (HasKept es b state) none_waits (in_order xs s units) (keeps es b)
  unfolding keeps
  keeps_do [] [] all b s units state good = λ inside. reaches_here m input units state (HasKept [] b state [] b [] s) (record { after = after_same m input whole f p around b s state good; held = tt; typed = tt })
  keeps_do [] (x ∷ xs) all b s units state good = absurd all
  keeps_do (e ∷ es) [] all b s units state good = absurd all
  keeps_do (e ∷ es) (x ∷ xs) all b s units state good =
      does_then m input whole f p 0 units b state (HasGiven m input whole f p around e.traits.splits e.ty b state) none_waits (HasKept (e ∷ es) b state) none_waits (x.value s units) (λ v. shader_run.◌>>=◌ (in_order xs) (λ vs. shader_given (v ∷ vs))) (e.value b)
      (λ i. hold (any_splits es) i >>= (λ kept. keeps es >>= (λ others. given (kept ∷ others)))) good.inside (all.0.1.adds b)
      (λ i. adds_then (hold (any_splits es) i) (λ kept. keeps es >>= (λ others. given (kept ∷ others))) (adds_hold (any_splits es) i) adds_rest)
      (all.0.1.does b s units state good)
      (λ i b1 v t left mid inside grown g less.
      let real = given_value m input whole f p around mid.ids i e.ty v all.0.0 g.given in
      does_then m input whole f p 0 left b1 mid (λ kept later (r : Unit {0}) u last. After m input whole f p around false b1 mid later u last × HeldAs m input whole f (any_splits es) kept v later last) none_waits (HasKept (e ∷ es) b state) none_waits (Got tt t left)
      (λ r u left. shader_run.◌>>=◌ (in_order xs) (λ vs. shader_given (v ∷ vs)) u left) (hold (any_splits es) i b1) (λ kept. keeps es >>= (λ others. given (kept ∷ others))) inside (adds_hold (any_splits es) i b1) adds_rest
      (does_hold m input whole f p around (any_splits es) i v left b1 t mid g.after.good real.1)
      (λ kept b2 r u left2 mid2 inside2 grown2 is less2.
      kept_first e es b b2 state mid2 u left2 kept v (grown_then grown grown2) (after_then m input whole f p around e.traits.splits false b b1 b2 state mid mid2 t u grown g.after is.0) is.1 real.0 (keeps es b2) (in_order xs u left2) (adds_keeps es xs all.1 b2)
      (keeps_do es xs all.1 b2 u left2 mid2 is.0.good))
      (λ kept b2 u left2 mid2 inside2 grown2 none less2. absurd none))
      (λ i b1 t left mid inside grown none less. absurd none)
    where
      adds_rest : (kept : ℕ) → Adds (keeps es >>= (λ others. given (kept ∷ others)))
      adds_rest kept = adds_then (keeps es) (λ others. given (kept ∷ others)) (adds_keeps es xs all.1) (λ others. adds_given (kept ∷ others))

  -- ---- all of them again

  held_all_after : (es : List Lower) (ks : List ℕ) (vs : List Value) (b later : Flow) (state last : State) (s : shader.State) → Grown b later → After m input whole f p around false b state later s last → HeldAll es ks vs b state → HeldAll es ks vs later last
  held_all_after [] [] [] b later state last s grown after held = tt
  held_all_after [] [] (v ∷ vs) b later state last s grown after held = absurd held
  held_all_after [] (k ∷ ks) vs b later state last s grown after held = absurd held
  held_all_after (e ∷ es) [] vs b later state last s grown after held = absurd held
  held_all_after (e ∷ es) (k ∷ ks) [] b later state last s grown after held = absurd held
  held_all_after (e ∷ es) (k ∷ ks) (v ∷ vs) b later state last s grown after held =
      (held_after m input whole f p around (any_splits es) b later state last s k v grown (after_any m input whole f p around (any_splits es) b later state last s after) held.0, held_all_after es ks vs b later state last s grown after held.1)

  pub adds_fetches : (es : List Lower) (ks : List ℕ) → Adds (fetches es ks)
  unfolding fetches
  adds_fetches [] [] = adds_given {A = List ℕ} []
  adds_fetches [] (k ∷ ks) = adds_given {A = List ℕ} []
  adds_fetches (e ∷ es) [] = adds_given {A = List ℕ} []
  adds_fetches (e ∷ es) (k ∷ ks) =
      adds_then (fetch (any_splits es) e.ty k) (λ x. fetches es ks >>= (λ more. given (x ∷ more))) (adds_fetch m input whole (any_splits es) e.ty k) (λ x. adds_then (fetches es ks) (λ more. given (x ∷ more)) (adds_fetches es ks) (λ more. adds_given (x ∷ more)))

  -- all stand, and nothing else has changed
  abbrev pub AllAgain : List Value → Flow → State → List ℕ → Flow → Unit {0} → shader.State → State → Type 0
  AllAgain vs b state ids later r t last = After m input whole f p around false b state later t last × StandEach last.ids ids vs

  pub fetches_do : (es : List Lower) (ks : List ℕ) (vs : List Value) (b : Flow) (s : shader.State) (units : ℕ) (state : State) → Good m input whole f p around b s state → HeldAll es ks vs b state → Does m input whole f p 0 units state (AllAgain vs b state) none_waits (Got tt s units) (fetches es ks b)
  unfolding fetches
  fetches_do [] [] [] b s units state good held = λ inside. reaches_here m input units state (AllAgain [] b state [] b tt s) (after_same m input whole f p around b s state good, tt)
  fetches_do [] [] (v ∷ vs) b s units state good held = absurd held
  fetches_do [] (k ∷ ks) vs b s units state good held = absurd held
  fetches_do (e ∷ es) [] vs b s units state good held = absurd held
  fetches_do (e ∷ es) (k ∷ ks) [] b s units state good held = absurd held
  fetches_do (e ∷ es) (k ∷ ks) (v ∷ vs) b s units state good held =
      does_then m input whole f p 0 units b state (Again m input whole f p around v b state) none_waits (AllAgain (v ∷ vs) b state) none_waits (Got tt s units) (λ r u left. Got tt u left) (fetch (any_splits es) e.ty k b) (λ x. fetches es ks >>= (λ more. given (x ∷ more))) good.inside
      (adds_fetch m input whole (any_splits es) e.ty k b) (λ x. adds_then (fetches es ks) (λ more. given (x ∷ more)) (adds_fetches es ks) (λ more. adds_given (x ∷ more)))
      (does_fetch m input whole f p around (any_splits es) e.ty k v units b s state good held.0)
      (λ x b1 r u left mid inside grown is less.
      does_map m input whole f p around 0 left mid (AllAgain vs b1 mid) (AllAgain (v ∷ vs) b state) (Got tt u left) (fetches es ks b1) (λ more. x ∷ more)
      (λ more later r t last all. (after_then m input whole f p around false false b b1 later state mid last u t grown is.0 all.0, ((all.0.ids refl).same x _ is.1, all.1)))
      (fetches_do es ks vs b1 u left mid is.0.good (held_all_after es ks vs b b1 state mid u grown is.0 held.1)))
      (λ x b1 u left mid inside grown none less. absurd none)

  -- ---- operands

  none_later : (c : Bool) → c ≡ false → (c || false) ≡ false
  none_later true e = absurd cc
  none_later false e = refl

  behind_all : (r : Ran (List Value)) → shader_run.behind r shader_given ≡ r
  behind_all (Got vs s left) = refl
  behind_all (shader_run.Ends s) = refl
  behind_all shader_run.Strays = refl
  behind_all shader_run.Goes = refl

  pub adds_operands : (es : List Lower) (xs : List Meant) → AllGive (GivesValue m input whole f p around) es xs → Adds (operands es)
  adds_operands es xs all = adds_then (keeps es) (fetches es) (adds_keeps es xs all) (adds_fetches es)

  pub operands_do : (es : List Lower) (xs : List Meant) → AllGive (GivesValue m input whole f p around) es xs → (b : Flow) (s : shader.State) (units : ℕ) (state : State) → Good m input whole f p around b s state
      → Does m input whole f p 0 units state (HasAll m input whole f p around es b state) none_waits (in_order xs s units) (operands es b)
  operands_do es xs all b s units state good =
      subst (λ ran. Does m input whole f p 0 units state (HasAll m input whole f p around es b state) none_waits ran (operands es b)) (behind_all (in_order xs s units))
      (does_then m input whole f p 0 units b state (HasKept es b state) none_waits (HasAll m input whole f p around es b state) none_waits (in_order xs s units) shader_given (keeps es b) (fetches es) good.inside (adds_keeps es xs all b) (adds_fetches es)
      (keeps_do es xs all b s units state good)
      (λ ks b1 vs t left mid inside grown kept less. again ks b1 vs t left mid grown kept (fetches es ks b1) (fetches_do es ks vs b1 t left mid kept.after.good kept.held))
      (λ ks b1 t left mid inside grown none less. absurd none))
    where
      again : (ks : List ℕ) (b1 : Flow) (vs : List Value) (t : shader.State) (left : ℕ) (mid : State) → Grown b b1 → HasKept es b state ks b1 vs t mid → (low : Lowered (List ℕ)) → Does m input whole f p 0 left mid (AllAgain vs b1 mid) none_waits (Got tt t left) low
          → Does m input whole f p 0 left mid (HasAll m input whole f p around es b state) none_waits (Got vs t left) low
      again ks b1 vs t left mid grown kept Lacks does = tt
      again ks b1 vs t left mid grown kept (Gives ids later) does = λ inside.
          let q = does inside in
          record {
            later = q.later;
            is = record {
              after = after_less m input whole f p around (any_splits es || false) (any_splits es) b later state q.later t (none_later (any_splits es)) (after_then m input whole f p around (any_splits es) false b b1 later state mid q.later t t grown kept.after q.is.0);
              stand = q.is.1;
              typed = kept.typed;
            };
            less = q.less;
            stretch = q.stretch;
          }
