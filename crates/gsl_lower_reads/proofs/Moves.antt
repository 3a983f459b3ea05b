-- What was reached is kept in holders, and taken back: the ids in it one by one.
use Rattle.std.proofs.Common.{◌≡◌, refl, sym, subst, ℕ, Bool, false, List, [], ◌∷◌, ◌++◌, Option, Some, None}
use Rattle.std.specs.List.{AllByRecursion}
use Rattle.gsl_base.specs.declared.input.Input.{Input}
use Rattle.gsl_words.specs.declared.module.Module.{Module}
use Rattle.gsl_values.specs.declared.value.Value.{Value}
use Rattle.gsl_tree.specs.Around.{Around}
use Rattle.gsl_tree.specs.declared.program.Program.{Program}
use Rattle.gsl_meaning.specs.Running.{Got}
use Rattle.gsl_meaning.specs.State as shader
use Rattle.gsl_machine.specs.State.{State}
use Rattle.gsl_spv.specs.Sections.{Sections}
use Rattle.gsl_lower_places.specs.declared.reached.Base.{Base}
use Rattle.gsl_lower_places.specs.declared.reached.Part.{Part}
use Rattle.gsl_lower_places.specs.declared.reached.Picked.{Picked}
use Rattle.gsl_lower_places.specs.declared.reached.Reached.{Reached}
use Rattle.gsl_lower_holders.specs.Flow.{Emit, Flow, Gives, Lowered, each, given, ◌>>=◌}
use Rattle.gsl_lower_holders.specs.Waiting.{in_picked, in_reached, picked_by}
use Rattle.gsl_lower_follows.specs.Frames.{Frame, Good, HeldAs}
use Rattle.gsl_lower_follows.specs.Giving.{Adds, After, Does, Grown, none_waits}
use Rattle.gsl_lower_follows.proofs.Behind.{reaches_here}
use Rattle.gsl_lower_follows.proofs.Doing.{does_then}
use Rattle.gsl_lower_follows.proofs.Growing.{adds_given, adds_then}
use Rattle.gsl_lower_follows.proofs.Holding.{after_any, after_same, after_then, does_so, held_after, waits_after}
use Rattle.gsl_lower_elements.specs.OfReaching.{At, AtBlock, Begins, ChoosesBy, IsBlockTrail, IsFixed, IsOwnTrail, IsTrail, NumberBy, NumberEachBy, PicksBy, Start}
use Rattle.gsl_lower_elements.specs.OfReaching.{own, in_block}
use Rattle.gsl_lower_elements.specs.OfReaching.{variable, value, holder}
use Rattle.gsl_lower_elements.specs.OfReaching.{Chosen, Trail}
use Rattle.gsl_lower_elements.proofs.OfReaching.{begins_so, number_so, numbers_so, picks_so}

-- ---- what only adds

module _ (emit_base : Base → Emit Base) (emit_part : Part → Emit Part) (adds_base : (base : Base) → Adds (emit_base base)) (adds_part : (part : Part) → Adds (emit_part part)) where
  adds_each : (parts : List Part) → Adds (each emit_part parts)
  unfolding each
  adds_each [] = adds_given {A = List Part} []
  adds_each (part ∷ parts) = adds_then (emit_part part) (λ one. each emit_part parts >>= (λ more. given (one ∷ more))) (adds_part part) (λ one. adds_then (each emit_part parts) (λ more. given (one ∷ more)) (adds_each parts) (λ more. adds_given (one ∷ more)))

  adds_by : (o : Option Part) → Adds (picked_by emit_part o)
  adds_by None = adds_given {A = Option Part} None
  adds_by (Some part) = adds_then (emit_part part) (λ one. given (Some one)) (adds_part part) (λ one. adds_given (Some one))

  adds_picked : (o : Option Picked) → Adds (in_picked emit_part o)
  adds_picked None = adds_given {A = Option Picked} None
  adds_picked (Some q) = adds_then (picked_by emit_part q.by) (λ by. given (Some (record q { by = by }))) (adds_by q.by) (λ by. adds_given (Some (record q { by = by })))

  pub adds_reached : (r : Reached) → Adds (in_reached emit_base emit_part r)
  adds_reached r =
      adds_then (emit_base r.base) (λ base. each emit_part r.path >>= (λ path. in_picked emit_part r.picked >>= (λ picked. given (record { base = base; path = path; picked = picked })))) (adds_base r.base)
      (λ base. adds_then (each emit_part r.path) (λ path. in_picked emit_part r.picked >>= (λ picked. given (record { base = base; path = path; picked = picked }))) (adds_each r.path)
      (λ path. adds_then (in_picked emit_part r.picked) (λ picked. given (record { base = base; path = path; picked = picked })) (adds_picked r.picked) (λ picked. adds_given {A = Reached} (record { base = base; path = path; picked = picked }))))

module _ (m : Module) (input : Input) (sections : Sections) (f : Frame m input sections) (p : Program) (around : Around) where
  -- Something was made in this block, of which this is so, and the shader is where it was.
  pub record Made {A : Type 0} (So : A → Flow → State → Type 0) (s : shader.State) (b : Flow) (state : State) (a : A) (later : Flow) (one : Unit {0}) (u : shader.State) (last : State) : Type 0 where
    pub after : After m input sections f p around false b state later u last
    pub still : u ≡ s
    pub so : So a later last

  module _ (s : shader.State) where
    abbrev pub Makes : {A : Type 0} → (A → Flow → State → Type 0) → ℕ → Flow → State → Lowered A → Type 0
    Makes So units b state low = Does m input sections f p 0 units state (Made So s b state) none_waits (Got tt s units) low

    pub made_here : {A : Type 0} (So : A → Flow → State → Type 0) (units : ℕ) (b : Flow) (state : State) (a : A) → Good m input sections f p around b s state → So a b state → Makes So units b state (Gives a b)
    made_here So units b state a good so = λ inside. reaches_here m input units state (Made So s b state a b tt s) (record { after = after_same m input sections f p around b s state good; still = refl; so = so })

    pub made_then : {A B : Type 0} (First : A → Flow → State → Type 0) (Then : B → Flow → State → Type 0) (units : ℕ) (b : Flow) (state : State) (emit : Emit A) (next : A → Emit B) → Good m input sections f p around b s state → Adds emit → ((a : A) → Adds (next a))
        → Makes First units b state (emit b)
        → ((a : A) (between : Flow) (mid : State) (left : ℕ) → Grown b between → After m input sections f p around false b state between s mid → First a between mid → Makes Then left between mid (next a between))
        → Makes Then units b state ((emit >>= next) b)
    made_then First Then units b state emit next good adds adds_next does more =
        does_then m input sections f p 0 units b state (Made First s b state) none_waits (Made Then s b state) none_waits (Got tt s units) (λ one u left. Got tt u left) (emit b) next good.inside (adds b) adds_next does
        (λ a between one u left mid inside grown x less. behind a between u left mid grown x)
        (λ a between u left mid inside grown none less. absurd none)
      where
        rebased : (between : Flow) (mid : State) (left : ℕ) (low : Lowered _) → Grown b between → After m input sections f p around false b state between s mid → Makes Then left between mid low → Does m input sections f p 0 left mid (Made Then s b state) none_waits (Got tt s left) low
        rebased between mid left low grown after does =
            does_so m input sections f p around 0 left mid (Made Then s between mid) (Made Then s b state) (Got tt s left) low
            (λ c later one w last y. record { after = after_then m input sections f p around false false b between later state mid last s w grown after y.after; still = y.still; so = y.so }) does

        behind : (a : _) (between : Flow) (u : shader.State) (left : ℕ) (mid : State) → Grown b between → Made First s b state a between tt u mid → Does m input sections f p 0 left mid (Made Then s b state) none_waits (Got tt u left) (next a between)
        behind a between u left mid grown x =
            subst (λ u. Does m input sections f p 0 left mid (Made Then s b state) none_waits (Got tt u left) (next a between)) (sym x.still)
            (rebased between mid left (next a between) grown (subst (λ u. After m input sections f p around false b state between u mid) x.still x.after)
            (more a between mid left grown (subst (λ u. After m input sections f p around false b state between u mid) x.still x.after) x.so))

    -- ---- ids that stand or wait, made to wait or stand

    module _ (from to : Bool) (loose : Start) (emit_base : Base → Emit Base) (emit_part : Part → Emit Part) (adds_base : (base : Base) → Adds (emit_base base)) (adds_part : (part : Part) → Adds (emit_part part)) where
      abbrev pub Old : Flow → State → At
      Old b state id v = HeldAs m input sections f from id v b state

      abbrev pub New : Flow → State → At
      New b state id v = HeldAs m input sections f to id v b state

      -- one part is made another of the same number
      pub record IsPart (part : Part) (word : ℕ) (other : Part) (later : Flow) (last : State) : Type 0 where
        pub number : NumberBy (New later last) other word
        pub fixed : IsFixed part → IsFixed other

      pub record AreParts (parts : List Part) (words : List ℕ) (others : List Part) (later : Flow) (last : State) : Type 0 where
        pub numbers : NumberEachBy (New later last) others words
        pub fixed : AllByRecursion IsFixed parts → AllByRecursion IsFixed others

      abbrev IsBase : List Part → Trail → Base → Flow → State → Type 0
      IsBase parts l base later last = Begins m input sections f p around (New later last) later.place.used last loose base parts l

      module _ (moves_part : (part : Part) (word : ℕ) (units : ℕ) (b : Flow) (state : State) → Good m input sections f p around b s state → NumberBy (Old b state) part word → Makes (IsPart part word) units b state (emit_part part b))
          (moves_base : (base : Base) (parts : List Part) (l : Trail) (units : ℕ) (b : Flow) (state : State) → Good m input sections f p around b s state → Begins m input sections f p around (Old b state) b.place.used state loose base parts l → Makes (IsBase parts l) units b state (emit_base base b)) where
        old_after : (b later : Flow) (state last : State) → Grown b later → After m input sections f p around false b state later s last → (id : ℕ) (v : Value) → Old b state id v → Old later last id v
        old_after b later state last grown after id v held = held_after m input sections f p around from b later state last s id v grown (after_any m input sections f p around from b later state last s after) held

        new_after : (b later : Flow) (state last : State) → Grown b later → After m input sections f p around false b state later s last → (id : ℕ) (v : Value) → New b state id v → New later last id v
        new_after b later state last grown after id v held = held_after m input sections f p around to b later state last s id v grown (after_any m input sections f p around to b later state last s after) held

        moves_each : (parts : List Part) (words : List ℕ) (units : ℕ) (b : Flow) (state : State) → Good m input sections f p around b s state → NumberEachBy (Old b state) parts words → Makes (AreParts parts words) units b state (each emit_part parts b)
        unfolding each
        moves_each [] [] units b state good numbers = made_here (AreParts [] []) units b state [] good (record { numbers = tt; fixed = λ all. tt })
        moves_each [] (word ∷ words) units b state good numbers = absurd numbers
        moves_each (part ∷ parts) [] units b state good numbers = absurd numbers
        moves_each (part ∷ parts) (word ∷ words) units b state good numbers =
            made_then (IsPart part word) (AreParts (part ∷ parts) (word ∷ words)) units b state (emit_part part) (λ one. each emit_part parts >>= (λ more. given (one ∷ more))) good (adds_part part)
            (λ one. adds_then (each emit_part parts) (λ more. given (one ∷ more)) (adds_each emit_base emit_part adds_base adds_part parts) (λ more. adds_given (one ∷ more)))
            (moves_part part word units b state good numbers.0)
            (λ one between mid left grown after x.
            made_then (AreParts parts words) (AreParts (part ∷ parts) (word ∷ words)) left between mid (each emit_part parts) (λ more. given (one ∷ more)) after.good (adds_each emit_base emit_part adds_base adds_part parts) (λ more. adds_given (one ∷ more))
            (moves_each parts words left between mid after.good (numbers_so (Old b state) (Old between mid) (old_after b between state mid grown after) parts words numbers.1))
            (λ more flow last rest grown2 after2 y.
            made_here (AreParts (part ∷ parts) (word ∷ words)) rest flow last (one ∷ more) after2.good
            (record { numbers = (number_so (New between mid) (New flow last) (new_after between flow mid last grown2 after2) one word x.number, y.numbers); fixed = λ all. (x.fixed all.0, y.fixed all.1) })))

        abbrev IsBy : Option ℕ → Option Part → Flow → State → Type 0
        IsBy word by later last = ChoosesBy (New later last) by word

        moves_by : (by : Option Part) (word : Option ℕ) (units : ℕ) (b : Flow) (state : State) → Good m input sections f p around b s state → ChoosesBy (Old b state) by word → Makes (IsBy word) units b state (picked_by emit_part by b)
        moves_by None None units b state good chooses = made_here (IsBy None) units b state None good tt
        moves_by None (Some word) units b state good chooses = absurd chooses
        moves_by (Some part) None units b state good chooses = absurd chooses
        moves_by (Some part) (Some word) units b state good chooses =
            made_then (IsPart part word) (IsBy (Some word)) units b state (emit_part part) (λ one. given (Some one)) good (adds_part part) (λ one. adds_given (Some one)) (moves_part part word units b state good chooses)
            (λ one between mid left grown after x. made_here (IsBy (Some word)) left between mid (Some one) after.good x.number)

        abbrev ArePicks : Option Chosen → Option Picked → Flow → State → Type 0
        ArePicks c q later last = PicksBy (New later last) q c

        moves_picked : (o : Option Picked) (c : Option Chosen) (units : ℕ) (b : Flow) (state : State) → Good m input sections f p around b s state → PicksBy (Old b state) o c → Makes (ArePicks c) units b state (in_picked emit_part o b)
        moves_picked None None units b state good picks = made_here (ArePicks None) units b state None good tt
        moves_picked None (Some c) units b state good picks = absurd picks
        moves_picked (Some q) None units b state good picks = absurd picks
        moves_picked (Some q) (Some c) units b state good picks =
            made_then (IsBy c.word) (ArePicks (Some c)) units b state (picked_by emit_part q.by) (λ by. given (Some (record q { by = by }))) good (adds_by emit_base emit_part adds_base adds_part q.by) (λ by. adds_given (Some (record q { by = by })))
            (moves_by q.by c.word units b state good picks.2)
            (λ by between mid left grown after x. made_here (ArePicks (Some c)) left between mid (Some (record q { by = by })) after.good (picks.0, picks.1, x))

        with_parts : (at : At) (count : ℕ) (last : State) (base : Base) (parts others : List Part) (l : Trail) → (AllByRecursion IsFixed parts → AllByRecursion IsFixed others) → Begins m input sections f p around at count last loose base parts l → Begins m input sections f p around at count last loose base others l
        with_parts at count last base parts others l fixed (variable x) = variable (record { name = x.name; id = x.id; class = x.class; number = x.number; is = x.is; marked = x.marked; outside = x.outside; begins = x.begins; none = x.none; seat = x.seat; points = x.points; typed = x.typed })
        with_parts at count last base parts others l fixed (value x) = value (record { id = x.id; type_id = x.type_id; value = x.value; is = x.is; marked = x.marked; fixed = fixed x.fixed; begins = x.begins; none = x.none; stands = x.stands; typed = x.typed; has = x.has })
        with_parts at count last base parts others l fixed (holder x) = holder (record { id = x.id; value = x.value; is = x.is; begins = x.begins; waits = x.waits; typed = x.typed })

        base_after : (b later : Flow) (state last : State) (base : Base) (parts : List Part) (l : Trail) → Grown b later → After m input sections f p around false b state later s last → IsBase parts l base b state → IsBase parts l base later last
        base_after b later state last base parts l grown after x =
            begins_so m input sections f p around (New b state) (New later last) b.place.used later.place.used state last loose base parts l (new_after b later state last grown after)
            (λ id v w. waits_after m input sections f p around false b later state last s id v grown after w) x

        abbrev IsMoved : Trail → Reached → Flow → State → Type 0
        IsMoved l r later last = IsTrail m input sections f p around to loose later last r l

        moves_own : (r : Reached) (l : Trail) (units : ℕ) (b : Flow) (state : State) → Good m input sections f p around b s state → IsOwnTrail m input sections f p around from loose b state r l → Makes (IsMoved l) units b state (in_reached emit_base emit_part r b)
        moves_own r l units b state good x =
            made_then (IsBase r.path l) (IsMoved l) units b state (emit_base r.base) (λ base. each emit_part r.path >>= (λ path. in_picked emit_part r.picked >>= (λ picked. given (record { base = base; path = path; picked = picked })))) good (adds_base r.base)
            (λ base. adds_then (each emit_part r.path) (λ path. in_picked emit_part r.picked >>= (λ picked. given (record { base = base; path = path; picked = picked }))) (adds_each emit_base emit_part adds_base adds_part r.path)
            (λ path. adds_then (in_picked emit_part r.picked) (λ picked. given (record { base = base; path = path; picked = picked })) (adds_picked emit_base emit_part adds_base adds_part r.picked) (λ picked. adds_given {A = Reached} (record { base = base; path = path; picked = picked }))))
            (moves_base r.base r.path l units b state good x.begins)
            (λ base b1 s1 u1 g1 after1 y1.
            made_then (AreParts r.path l.words) (IsMoved l) u1 b1 s1 (each emit_part r.path) (λ path. in_picked emit_part r.picked >>= (λ picked. given (record { base = base; path = path; picked = picked }))) after1.good (adds_each emit_base emit_part adds_base adds_part r.path)
            (λ path. adds_then (in_picked emit_part r.picked) (λ picked. given (record { base = base; path = path; picked = picked })) (adds_picked emit_base emit_part adds_base adds_part r.picked) (λ picked. adds_given {A = Reached} (record { base = base; path = path; picked = picked })))
            (moves_each r.path l.words u1 b1 s1 after1.good (numbers_so (Old b state) (Old b1 s1) (old_after b b1 state s1 g1 after1) r.path l.words x.numbers))
            (λ path b2 s2 u2 g2 after2 y2.
            made_then (ArePicks l.picks) (IsMoved l) u2 b2 s2 (in_picked emit_part r.picked) (λ picked. given (record { base = base; path = path; picked = picked })) after2.good (adds_picked emit_base emit_part adds_base adds_part r.picked) (λ picked. adds_given {A = Reached} (record { base = base; path = path; picked = picked }))
            (moves_picked r.picked l.picks u2 b2 s2 after2.good (picks_so (Old b1 s1) (Old b2 s2) (old_after b1 b2 s1 s2 g2 after2) r.picked l.picks (picks_so (Old b state) (Old b1 s1) (old_after b b1 state s1 g1 after1) r.picked l.picks x.picks)))
            (λ picked b3 s3 u3 g3 after3 y3.
            made_here (IsMoved l) u3 b3 s3 (record { base = base; path = path; picked = picked }) after3.good
            (own (record {
              begins = with_parts (New b3 s3) b3.place.used s3 base r.path path l y2.fixed (base_after b2 b3 s2 s3 base r.path l g3 after3 (base_after b1 b2 s1 s2 base r.path l g2 after2 y1));
              numbers = numbers_so (New b2 s2) (New b3 s3) (new_after b2 b3 s2 s3 g3 after3) path l.words y2.numbers;
              picks = y3;
            })))))

        -- where a trail in a block begins stays
        abbrev IsBlockBase : Trail → Base → Flow → State → Type 0
        IsBlockBase l base later last = AtBlock m input sections f p around loose base l

        module _ (moves_block_base : (base : Base) (l : Trail) (units : ℕ) (b : Flow) (state : State) → Good m input sections f p around b s state → AtBlock m input sections f p around loose base l → Makes (IsBlockBase l) units b state (emit_base base b)) where
          moves_block : (r : Reached) (l : Trail) (units : ℕ) (b : Flow) (state : State) → Good m input sections f p around b s state → IsBlockTrail m input sections f p around from loose b state r l → Makes (IsMoved l) units b state (in_reached emit_base emit_part r b)
          moves_block r l units b state good x =
              made_then (IsBlockBase l) (IsMoved l) units b state (emit_base r.base) (λ base. each emit_part r.path >>= (λ path. in_picked emit_part r.picked >>= (λ picked. given (record { base = base; path = path; picked = picked })))) good (adds_base r.base)
              (λ base. adds_then (each emit_part r.path) (λ path. in_picked emit_part r.picked >>= (λ picked. given (record { base = base; path = path; picked = picked }))) (adds_each emit_base emit_part adds_base adds_part r.path)
              (λ path. adds_then (in_picked emit_part r.picked) (λ picked. given (record { base = base; path = path; picked = picked })) (adds_picked emit_base emit_part adds_base adds_part r.picked) (λ picked. adds_given {A = Reached} (record { base = base; path = path; picked = picked }))))
              (moves_block_base r.base l units b state good x.begins)
              (λ base b1 s1 u1 g1 after1 y1.
              made_then (AreParts r.path (l.front ++ l.words)) (IsMoved l) u1 b1 s1 (each emit_part r.path) (λ path. in_picked emit_part r.picked >>= (λ picked. given (record { base = base; path = path; picked = picked }))) after1.good (adds_each emit_base emit_part adds_base adds_part r.path)
              (λ path. adds_then (in_picked emit_part r.picked) (λ picked. given (record { base = base; path = path; picked = picked })) (adds_picked emit_base emit_part adds_base adds_part r.picked) (λ picked. adds_given {A = Reached} (record { base = base; path = path; picked = picked })))
              (moves_each r.path (l.front ++ l.words) u1 b1 s1 after1.good (numbers_so (Old b state) (Old b1 s1) (old_after b b1 state s1 g1 after1) r.path (l.front ++ l.words) x.numbers))
              (λ path b2 s2 u2 g2 after2 y2.
              made_then (ArePicks l.picks) (IsMoved l) u2 b2 s2 (in_picked emit_part r.picked) (λ picked. given (record { base = base; path = path; picked = picked })) after2.good (adds_picked emit_base emit_part adds_base adds_part r.picked) (λ picked. adds_given {A = Reached} (record { base = base; path = path; picked = picked }))
              (moves_picked r.picked l.picks u2 b2 s2 after2.good (picks_so (Old b1 s1) (Old b2 s2) (old_after b1 b2 s1 s2 g2 after2) r.picked l.picks (picks_so (Old b state) (Old b1 s1) (old_after b b1 state s1 g1 after1) r.picked l.picks x.picks)))
              (λ picked b3 s3 u3 g3 after3 y3.
              made_here (IsMoved l) u3 b3 s3 (record { base = base; path = path; picked = picked }) after3.good
              (in_block (record {
                begins = y1;
                numbers = numbers_so (New b2 s2) (New b3 s3) (new_after b2 b3 s2 s3 g3 after3) path (l.front ++ l.words) y2.numbers;
                picks = y3;
              })))))

          pub moves_reached : (r : Reached) (l : Trail) (units : ℕ) (b : Flow) (state : State) → Good m input sections f p around b s state → IsTrail m input sections f p around from loose b state r l → Makes (IsMoved l) units b state (in_reached emit_base emit_part r b)
          moves_reached r l units b state good (own x) = moves_own r l units b state good x
          moves_reached r l units b state good (in_block x) = moves_block r l units b state good x
