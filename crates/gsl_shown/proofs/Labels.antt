-- Behind the first label of a function no parameter comes.
use Rattle.std.proofs.Common.{◌≡◌, refl, sym, ap, ◌∙◌, subst, ℕ, Bool, true, false, ◌||◌, List, [], ◌∷◌, inl, inr}
use Rattle.std.specs.List.{AllByRecursion}
use Rattle.std.specs.Prelude.{drop}
use Rattle.std.proofs.lemmas.Bool.{and_parts, false≢true, or_left, true≢false}
use Rattle.gsl_words.specs.declared.module.Module.{Module}
use Rattle.gsl_valid.specs.CallRules.{takes}
use Rattle.gsl_valid.specs.FunctionRules.{gives, in_block, may_stand_here, may_take, outside}
use Rattle.gsl_valid.specs.FunctionRules as shape
use Rattle.gsl_valid.specs.Instruction.{read}
use Rattle.gsl_valid.specs.Kinds.{Kind, Begins, Takes, Calls, Gives, Does, Opens, Merges, Leaves, Ended, kind}
use Rattle.gsl_valid.specs.Placed.{Code, Placed}
use Rattle.gsl_valid.specs.Search.{from_here}
use Rattle.gsl_valid.specs.Types.{begins, defined_as}
use Rattle.gsl_valid.specs.Where.{AtHead, AtMerge, Begun, Behind, InBlock, Outside, Standing, block_begun, bounds_one, stands_after, where_at}
use Rattle.gsl_sound_code.specs.Spots.{AtLabel, Spot}
use Rattle.gsl_sound_code.proofs.Looks.{Kept}
use Rattle.gsl_sound_code.proofs.Walks.{decide, step_of}
use Rattle.gsl_frames.specs.declared.taken.Taken.{Taken}
use Rattle.gsl_frames.specs.Frames.{held_words, sum, variable_words}
use Rattle.gsl_frames.specs.Taken.{taken_by}
use Rattle.gsl_shown.proofs.Bounds.{after}

-- An instruction begins no function and is no parameter.
abbrev pub TakesNone : Placed → Type 0
TakesNone p = (begins (kind (read p.instr)) ≡ false) × (takes (kind (read p.instr)) ≡ false)

-- ---- so the parameters stay

module _ (m : Module) where
  one_stays : (k : Kind) (t : Taken) → begins k ≡ false → takes k ≡ false → (after m k t).parameters ≡ t.parameters
  one_stays (Begins type id function_type) t begun taken = absurd (true≢false begun)
  one_stays (Takes type) t begun taken = absurd (true≢false taken)
  one_stays _ t begun taken = refl

  pub parameters_stay : (body : List Placed) (t : Taken) → AllByRecursion TakesNone body → (taken_by sum (held_words m) (variable_words m) body t).parameters ≡ t.parameters
  parameters_stay [] t none = refl
  parameters_stay (p ∷ body) t none = parameters_stay body (after m (kind (read p.instr)) t) none.1 ∙ one_stays (kind (read p.instr)) t none.0.0 none.0.1

-- ---- where code stands in blocks, or behind them

abbrev Coded : Standing → Bool
Coded s = in_block s || shape.behind s

begun_coded : (s : Standing) → Coded (block_begun s) ≡ true
begun_coded Outside = refl
begun_coded (Begun types) = refl
begun_coded AtHead = refl
begun_coded InBlock = refl
begun_coded AtMerge = refl
begun_coded Behind = refl

coded_inside : (s : Standing) → Coded s ≡ true → outside s ≡ true → ⊥
coded_inside Outside coded out = false≢true coded
coded_inside (Begun types) coded out = false≢true coded
coded_inside AtHead coded out = false≢true out
coded_inside InBlock coded out = false≢true out
coded_inside AtMerge coded out = false≢true out
coded_inside Behind coded out = false≢true out

none_taken : (s : Standing) (type : ℕ) → Coded s ≡ true → may_take type s ≡ true → ⊥
none_taken Outside type coded taken = false≢true coded
none_taken (Begun types) type coded taken = false≢true coded
none_taken AtHead type coded taken = false≢true taken
none_taken InBlock type coded taken = false≢true taken
none_taken AtMerge type coded taken = false≢true taken
none_taken Behind type coded taken = false≢true taken

module _ (m : Module) where
  coded_stays : (s : Standing) (k : Kind) → bounds_one k ≡ false → takes k ≡ false → Coded s ≡ true → Coded (stands_after m s k) ≡ true
  coded_stays s (Begins type id function_type) bounds taken coded = absurd (true≢false bounds)
  coded_stays s (Takes type) bounds taken coded = absurd (true≢false taken)
  coded_stays s (Calls type function arguments) bounds taken coded = refl
  coded_stays s (Gives type) bounds taken coded = refl
  coded_stays s Does bounds taken coded = refl
  coded_stays s Opens bounds taken coded = begun_coded s
  coded_stays s Merges bounds taken coded = refl
  coded_stays s Leaves bounds taken coded = refl
  coded_stays s Ended bounds taken coded = absurd (true≢false bounds)
  coded_stays s _ bounds taken coded = coded

  none_here : (s : Standing) (later : Code) (k : Kind) → Coded s ≡ true → may_stand_here m later s k ≡ true → (begins k ≡ false) × (takes k ≡ false)
  none_here s later (Begins type id function_type) coded may = absurd (coded_inside s coded (and_parts (outside s) (gives type (defined_as m function_type)) may).0)
  none_here s later (Takes type) coded may = absurd (none_taken s type coded may)
  none_here s later _ coded may = (refl, refl)

module _ (m : Module) (kept : Kept m) (body : List Placed) (returned : ℕ) where
  pub none_behind : (before : Code) (rest : List Placed) → Spot m body returned before rest → Coded (where_at m before).standing ≡ true → AllByRecursion TakesNone rest
  none_behind before [] spot coded = tt
  none_behind before (p ∷ rest) spot coded =
      let s = step_of m kept body returned before p rest spot in
      let none = none_here m (where_at m before).standing (drop 1 (from_here m before)) (kind (read p.instr)) coded s.keeps.shape in (
        none,
        elim (decide m kept body returned before p rest spot) [
          | inl on ↦ none_behind (p.instr ∷ before) rest (s.goes on) (coded_stays m (where_at m before).standing (kind (read p.instr)) on none.1 coded)
          | inr over ↦ subst (AllByRecursion TakesNone) (sym over) tt
        ],
      )

  pub none_from_block : (before : Code) (rest : List Placed) → Spot m body returned before rest → in_block (where_at m before).standing ≡ true → AllByRecursion TakesNone rest
  none_from_block before rest spot inside = none_behind before rest spot (or_left (in_block (where_at m before).standing) _ inside)

  pub none_from_label : (before : Code) (rest : List Placed) → Spot m body returned before rest → AtLabel rest → AllByRecursion TakesNone rest
  none_from_label before rest spot label = subst (AllByRecursion TakesNone) (sym label.is) (from_first (subst (Spot m body returned before) label.is spot))
    where
      opened : kind (read label.first.instr) ≡ Opens
      opened = ap kind label.reads

      from_first : Spot m body returned before (label.first ∷ label.more) → AllByRecursion TakesNone (label.first ∷ label.more)
      from_first spot =
          let s = step_of m kept body returned before label.first label.more spot in (
            (ap begins opened, ap takes opened),
            none_behind (label.first.instr ∷ before) label.more (s.goes (ap bounds_one opened))
                (ap (λ k. Coded (stands_after m (where_at m before).standing k)) opened ∙ begun_coded (where_at m before).standing),
          )
