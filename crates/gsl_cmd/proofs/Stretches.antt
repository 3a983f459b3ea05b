-- Stretches of a module's run, and what they cost.
use Rattle.std.proofs.Common.{◌≡◌, ℕ, zero, suc, ◌+◌, ◌-◌, ◌*◌, ◌≤◌, List, [], ◌∷◌, refl, ap, sym, ◌∙◌, arith}
use Rattle.gsl_words.specs.declared.module.Module.{Module}
use Rattle.gsl_cmd.specs.Machine.{Waiting, State, Outcome, Going, Ended, Strayed, Stuck, bind, step, run, words_of}

bind_bind : (o : Outcome) (f g : State → Outcome) → bind (bind o f) g ≡ bind o (λ s. bind (f s) g)
bind_bind (Going s) f g = refl
bind_bind (Ended output) f g = refl
bind_bind (Strayed place) f g = refl
bind_bind Stuck f g = refl

bind_same : (o : Outcome) (f g : State → Outcome) → ((s : State) → f s ≡ g s) → bind o f ≡ bind o g
bind_same (Going s) f g h = h s
bind_same (Ended output) f g h = refl
bind_same (Strayed place) f g h = refl
bind_same Stuck f g h = refl

bind_going : (o : Outcome) → bind o Going ≡ o
bind_going (Going s) = refl
bind_going (Ended output) = refl
bind_going (Strayed place) = refl
bind_going Stuck = refl

-- The run is over.
abbrev pub IsOver : Outcome → Type 0
IsOver (Going s) = ⊥
IsOver _ = Unit {0}

bind_over : (o : Outcome) (f : State → Outcome) → IsOver o → bind o f ≡ o
bind_over (Going s) f over = absurd over
bind_over (Ended output) f over = refl
bind_over (Strayed place) f over = refl
bind_over Stuck f over = refl

-- the code that is still to come in all functions, in words
abbrev pub depth : List Waiting → ℕ
depth [] = 0
depth (call ∷ calls) = words_of call.rest + depth calls

abbrev pub room : State → ℕ
room s = words_of s.rest + depth s.waiting

abbrev pub room_of : Outcome → ℕ
room_of (Going s) = room s
room_of (Ended output) = 0
room_of (Strayed place) = 0
room_of Stuck = 0

module _ (m : Module) where
  -- the law of runs
  pub run_add : (j k : ℕ) (s : State) → run m (j + k) s ≡ bind (run m j s) (run m k)
  run_add zero k s = let e : 0 + k ≡ k = omega arith in ap (λ n. run m n s) e
  run_add (suc j) k s =
      let e : suc j + k ≡ suc (j + k) = omega arith in
      ap (λ n. run m n s) e ∙ bind_same (step m s) (run m (j + k)) (λ t. bind (run m j t) (run m k)) (λ t. run_add j k t)
      ∙ sym (bind_bind (step m s) (run m j) (run m k))

  -- two ends of one run are the same
  pub one_end : (j k : ℕ) (s : State) (o p : Outcome) → IsOver o → IsOver p → run m j s ≡ o → run m k s ≡ p → o ≡ p
  one_end j k s o p over_o over_p e f =
      let turned : j + k ≡ k + j = omega arith in
      sym (run_add j k s ∙ ap (λ x. bind x (run m k)) e ∙ bind_over o (run m k) over_o)
      ∙ ap (λ n. run m n s) turned
      ∙ run_add k j s ∙ ap (λ x. bind x (run m j)) f ∙ bind_over p (run m j) over_p

  going_before : (j k : ℕ) (s t : State) → run m (j + k) s ≡ Going t → (x : State) × (run m j s ≡ Going x)
  going_before j k s t e = from_bind (run m j s) (sym (run_add j k s) ∙ e)
    where
      from_bind : (o : Outcome) → bind o (run m k) ≡ Going t → (x : State) × (o ≡ Going x)
      from_bind (Going x) h = (x, refl)
      from_bind (Ended output) h = absurd cc
      from_bind (Strayed place) h = absurd cc
      from_bind Stuck h = absurd cc

  -- all words of the module
  abbrev pub whole : ℕ
  whole = words_of m.instrs

  -- From s with u units to o with u' units left: at least a step for each unit that is used, and at most as many as the
  -- module has words for each of these, beside the words by which the code still to come gets shorter.
  pub record Stretch (u : ℕ) (s : State) (u' : ℕ) (o : Outcome) : Type 0 where
    pub count : ℕ
    pub slow : u ≤ count + u'
    pub fast : count + (whole * u' + room_of o) ≤ whole * u + room s
    pub runs : run m count s ≡ o

  -- The run is still going after u steps.
  pub record Lasts (u : ℕ) (s : State) : Type 0 where
    pub state : State
    pub runs : run m u s ≡ Going state

  pub stretch_on : {u u1 u2 : ℕ} {s t : State} {o : Outcome} → Stretch u s u1 (Going t) → Stretch u1 t u2 o → Stretch u s u2 o
  stretch_on {u} {u1} {u2} {s} {t} {o} p q = record {
    count = p.count + q.count;
    slow = omega (arith, p.slow, q.slow);
    fast = omega (arith, p.fast, q.fast);
    runs = run_add p.count q.count s ∙ ap (λ x. bind x (run m q.count)) p.runs ∙ q.runs;
  }

  pub lasts_on : {u u1 : ℕ} {s t : State} → Stretch u s u1 (Going t) → Lasts u1 t → Lasts u s
  lasts_on {u} {u1} {s} {t} p q =
      let all : run m (p.count + u1) s ≡ Going q.state = run_add p.count u1 s ∙ ap (λ x. bind x (run m u1)) p.runs ∙ q.runs in
      let e : p.count + u1 ≡ u + (p.count + u1 - u) = omega (arith, p.slow) in
      let r = going_before u (p.count + u1 - u) s q.state (ap (λ n. run m n s) (sym e) ∙ all) in
      record { state = r.0; runs = r.1 }

  pub no_step : {u : ℕ} (s : State) → Stretch u s u (Going s)
  no_step {u} s = record { count = 0; slow = omega arith; fast = omega arith; runs = refl }

  -- one step, which uses no unit
  pub one_step : {u : ℕ} (s : State) (o : Outcome) → suc (room_of o) ≤ room s → step m s ≡ o → Stretch u s u o
  one_step {u} s o h e =
      record { count = 1; slow = omega arith; fast = omega arith; runs = ap (λ x. bind x (run m 0)) e ∙ bind_going o }
