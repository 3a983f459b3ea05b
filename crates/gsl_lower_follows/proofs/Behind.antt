-- What follows a part of the shader, behind a stretch or behind another part.
use Rattle.std.proofs.Common.{ℕ, ◌≤◌, arith}
use Rattle.gsl_base.specs.declared.input.Input.{Input}
use Rattle.gsl_words.specs.declared.module.Module.{Module}
use Rattle.gsl_tree.specs.declared.program.Program.{Program}
use Rattle.gsl_meaning.specs.Running.{Ran, Run, Got, Ends, Strays, Goes, behind}
use Rattle.gsl_meaning.specs.State as shader
use Rattle.gsl_machine.specs.State.{Going, State}
use Rattle.gsl_lower_follows.specs.Following.{Astray, Faults, Follows, Kills, Reaches}
use Rattle.gsl_lower_follows.specs.Following.Astray.{now, later}
use Rattle.gsl_lower_follows.specs.Stretching.{Stretch}
use Rattle.gsl_lower_follows.proofs.Stretches.{lasts_behind, lent_through, loan_unused, stretch_none, stretch_then}

module _ (m : Module) (input : Input) where
  pub faults_behind : (lent back units left : ℕ) (state between : State) → Stretch m input lent back units state left (Going between) → Faults m input back left between → Faults m input lent units state
  faults_behind lent back units left state between p q = record { left = q.left; place = q.place; stretch = stretch_then m input lent back 0 units left q.left state between _ p q.stretch }

  pub reaches_behind : (lent back units left last : ℕ) (state between : State) (Is : State → Type 0) → Stretch m input lent back units state left (Going between) → left ≤ units
      → Reaches m input back left between Is last → Reaches m input lent units state Is last
  reaches_behind lent back units left last state between Is p less q =
      record { later = q.later; is = q.is; less = omega (arith, less, q.less); stretch = stretch_then m input lent back 0 units left last state between _ p q.stretch }

  -- nothing is done
  pub reaches_here : (units : ℕ) (state : State) (Is : State → Type 0) → Is state → Reaches m input 0 units state Is units
  reaches_here units state Is is = record { later = state; is = is; less = omega arith; stretch = stretch_none m input 0 units state }

  astray_behind : (lent back units left : ℕ) (state between : State) (Waits : shader.State → State → Type 0) → Stretch m input lent back units state left (Going between) → left ≤ units
      → Astray m input back left between Waits → Astray m input lent units state Waits
  astray_behind lent back units left state between Waits p less (now q) = now (faults_behind lent back units left state between p q)
  astray_behind lent back units left state between Waits p less (later s last q) = later s last (reaches_behind lent back units left last state between (Waits s) p less q)

  module _ (p : Program) where
    kills_behind : (lent back units left : ℕ) (state between : State) (s : shader.State) → Stretch m input lent back units state left (Going between) → Kills m input p back left between s → Kills m input p lent units state s
    kills_behind lent back units left state between s p q = record { left = q.left; stretch = stretch_then m input lent back 0 units left q.left state between _ p q.stretch }

    -- behind a stretch
    pub follows_behind : {A : Type 0} (lent back units left : ℕ) (state between : State) (Is : A → shader.State → State → Type 0) (Waits : shader.State → State → Type 0) (ran : Ran A) → Stretch m input lent back units state left (Going between) → left ≤ units
        → Follows m input p back left between Is Waits ran → Follows m input p lent units state Is Waits ran
    follows_behind lent back units left state between Is Waits (Got a s last) p less q = reaches_behind lent back units left last state between (Is a s) p less q
    follows_behind lent back units left state between Is Waits (Ends s) p less q = kills_behind lent back units left state between s p q
    follows_behind lent back units left state between Is Waits Strays p less q = astray_behind lent back units left state between Waits p less q
    follows_behind lent back units left state between Is Waits Goes p less q = lasts_behind m input lent back units left state between p q

    -- One part of the shader behind another: what goes on from where the first came to. Where an index was out of bounds and waits, the second
    -- part is done all the same, and nothing is asked of the shader.
    pub follows_then : {A B : Type 0} (lent units : ℕ) (state : State) (First : A → shader.State → State → Type 0) (FirstWaits : shader.State → State → Type 0) (Is : B → shader.State → State → Type 0) (Waits : shader.State → State → Type 0) (ran : Ran A) (next : A → Run B)
        → Follows m input p 0 units state First FirstWaits ran
        → ((a : A) (s : shader.State) (left : ℕ) (between : State) → First a s between → left ≤ units → Follows m input p lent left between Is Waits (next a s left))
        → ((s : shader.State) (left : ℕ) (between : State) → FirstWaits s between → left ≤ units → Astray m input lent left between Waits)
        → Follows m input p lent units state Is Waits (behind ran next)
    follows_then lent units state First FirstWaits Is Waits (Got a s left) next q go wait = follows_behind lent lent units left state q.later Is Waits (next a s left) (lent_through m input lent units left state _ q.stretch) q.less (go a s left q.later q.is q.less)
    follows_then lent units state First FirstWaits Is Waits (Ends s) next q go wait = record { left = q.left; stretch = loan_unused m input lent units q.left state _ q.stretch }
    follows_then lent units state First FirstWaits Is Waits Strays next (now q) go wait = now (record { left = q.left; place = q.place; stretch = loan_unused m input lent units q.left state _ q.stretch })
    follows_then lent units state First FirstWaits Is Waits Strays next (later s left q) go wait = astray_behind lent lent units left state q.later Waits (lent_through m input lent units left state _ q.stretch) q.less (wait s left q.later q.is q.less)
    follows_then lent units state First FirstWaits Is Waits Goes next q go wait = q

    -- what is so of what was reached, is so
    pub follows_so : {A : Type 0} (lent units : ℕ) (state : State) (Is Then : A → shader.State → State → Type 0) (Waits : shader.State → State → Type 0) (ran : Ran A)
        → ((a : A) (s : shader.State) (last : State) → Is a s last → Then a s last) → Follows m input p lent units state Is Waits ran → Follows m input p lent units state Then Waits ran
    follows_so lent units state Is Then Waits (Got a s left) so q = record { later = q.later; is = so a s q.later q.is; less = q.less; stretch = q.stretch }
    follows_so lent units state Is Then Waits (Ends s) so q = q
    follows_so lent units state Is Then Waits Strays so q = q
    follows_so lent units state Is Then Waits Goes so q = q
