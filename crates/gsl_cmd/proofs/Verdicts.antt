-- What the rules say of sources.
use Rattle.std.proofs.Common.{◌≡◌, ℕ, zero, suc, ◌+◌, ◌<◌, ◌≤◌, List, [], ◌∷◌, ◌++◌, drop, get_or, length, Option, Some, None, Ok, Err, refl, ap, sym, subst, ◌∙◌, arith, append_assoc, inl, inr}
use Rattle.std.specs.Prelude.{IfOk, Result, slice_get}
use Rattle.std.specs.List.{AllByRecursion}
use Rattle.std.proofs.lemmas.Bool.{cases_lt, lt-ltb, le-ltb, cond-true, cond-false}
use Rattle.gsl_base.specs.Checked.{Checked, Gives, ◌>>=◌}
use Rattle.gsl_base.specs.declared.stage.Stage.{Stage}
use Rattle.gsl_base.specs.declared.fault.Code.TheVariants.{E0900}
use Rattle.gsl_base.specs.declared.fault.Fault.{Fault}
use Rattle.gsl_base.specs.declared.fault.Refusal.{Refusal}
use Rattle.gsl_check.specs.Units.{checked}
use Rattle.gsl_check_law.proofs.Wholes.{checked_is}
use Rattle.gsl_formed.specs.Formed.{IsParsed}
use Rattle.gsl_link.specs.Joined.{IsLinked, joined}
use Rattle.gsl_link.specs.Units.{AreKnown}
use Rattle.gsl_link_checked.proofs.Joined.{answers_linked}
use Rattle.gsl_link_checked.specs.Answers.{AreAnswers}
use Rattle.gsl_link_law.proofs.Asked.{units_known}
use Rattle.gsl_link_units.specs.Declarations.{sides_of}
use Rattle.gsl_link_units.specs.Structs.{joined_structs}
use Rattle.gsl_parse_law.proofs.Parsed.{source_parsed}
use Rattle.gsl_tree.specs.declared.program.Program.{Program as Linked}
use Rattle.gsl_tree.specs.declared.unit.TypedUnit.{TypedUnit}
use Rattle.gsl_tree.specs.WellTyped.{IsUnit}
use Rattle.gsl_cmd.specs.declared.compiling.TheConstants.{MAX_SOURCE_BYTES, MAX_SOURCES}
use Rattle.gsl_cmd.specs.Verdict.{Tree, fault_in, linked_of, sized, too_long_from, tokens_of, tree_of, typed_behind, typed_from, typed_of}

same_some : {A : Type 0} {a b : A} → ◌≡◌ {A = Option A} (Some a) (Some b) → a ≡ b
same_some e = cc

-- ---- lengths

-- where none is too long, the first is not, and none of the others
first_short : (unit : ℕ) (source : List ℕ) (sources : List (List ℕ)) → too_long_from unit (source ∷ sources) ≡ None
    → (length source ≤ MAX_SOURCE_BYTES) × (too_long_from (unit + 1) sources ≡ None)
first_short unit source sources none =
    elim (cases_lt MAX_SOURCE_BYTES (length source)) [
      | inl long ↦ absurd (let never : ◌≡◌ {A = Option ℕ} (Some unit) None = sym (cond-true _ _ _ (lt-ltb _ _ long)) ∙ none in cc)
      | inr short ↦ (short, sym (cond-false _ _ _ (le-ltb _ _ short)) ∙ none)
    ]

pub short_at : (unit : ℕ) (sources : List (List ℕ)) (k : ℕ) (source : List ℕ) → too_long_from unit sources ≡ None → slice_get sources k ≡ Some source → length source ≤ MAX_SOURCE_BYTES
short_at unit [] k source none at = absurd (let never : ◌≡◌ {A = Option (List ℕ)} None (Some source) = at in cc)
short_at unit (s ∷ sources) zero source none at = subst (λ (x : List ℕ). length x ≤ MAX_SOURCE_BYTES) (same_some at) (first_short unit s sources none).0
short_at unit (s ∷ sources) (suc k) source none at = short_at (unit + 1) sources k source (first_short unit s sources none).1 at

pub short_within : (unit : ℕ) (sources : List (List ℕ)) (k : ℕ) (source : List ℕ) → too_long_from unit sources ≡ None → k < length sources → source ≡ get_or sources k source → length source ≤ MAX_SOURCE_BYTES
short_within unit [] k source none within at = absurd (omega (arith, within))
short_within unit (s ∷ sources) zero source none within at = subst (λ (x : List ℕ). length x ≤ MAX_SOURCE_BYTES) (sym at) (first_short unit s sources none).0
short_within unit (s ∷ sources) (suc k) source none within at = short_within (unit + 1) sources k source (first_short unit s sources none).1 (omega (arith, within)) at

-- ---- typed units, one after the other

module _ (stage : Stage) where
  at_front : (sources : List (List ℕ)) (k : ℕ) (source : List ℕ) → slice_get sources k ≡ Some source → drop k sources ≡ source ∷ drop (k + 1) sources
  at_front [] k source at = absurd (let never : ◌≡◌ {A = Option (List ℕ)} None (Some source) = at in cc)
  at_front (s ∷ sources) zero source at = ap (λ x. x ∷ sources) (same_some at)
  at_front (s ∷ sources) (suc k) source at = at_front sources k source at ∙ ap (λ n. source ∷ drop n (s ∷ sources)) (let e : suc (k + 1) ≡ suc k + 1 = omega arith in e)

  more_behind : (more : Checked (List TypedUnit)) (units : List TypedUnit) (unit : TypedUnit)
      → (more >>= λ us. Ok (unit ∷ us)) >>= (λ us. Ok (units ++ us)) ≡ (more >>= λ us. Ok ((units ++ unit ∷ []) ++ us))
  more_behind (Ok us) units unit = ap Ok (sym (append_assoc units (unit ∷ []) us))
  more_behind (Err fault) units unit = refl

  -- with none before them they are the typed units
  pub behind_none : (unit : ℕ) (sources : List (List ℕ)) → typed_behind stage [] unit sources ≡ typed_from stage unit sources
  behind_none unit sources = alone (typed_from stage unit sources)
    where
      alone : (units : Checked (List TypedUnit)) → (units >>= λ us. Ok ([] ++ us)) ≡ units
      alone (Ok us) = refl
      alone (Err fault) = refl

  -- one unit more
  pub one_behind : (units : List TypedUnit) (k : ℕ) (sources : List (List ℕ)) (source : List ℕ) (unit : TypedUnit) → slice_get sources k ≡ Some source → typed_of stage k source ≡ Ok unit
      → typed_behind stage units k (drop k sources) ≡ typed_behind stage (units ++ unit ∷ []) (k + 1) (drop (k + 1) sources)
  one_behind units k sources source unit at is =
      ap (typed_behind stage units k) (at_front sources k source at)
      ∙ ap (λ t. (t >>= λ typed. typed_from stage (k + 1) (drop (k + 1) sources) >>= λ us. Ok (typed ∷ us)) >>= λ us. Ok (units ++ us)) is
      ∙ more_behind (typed_from stage (k + 1) (drop (k + 1) sources)) units unit

  -- the first fault
  pub fault_behind : (units : List TypedUnit) (k : ℕ) (sources : List (List ℕ)) (source : List ℕ) (fault : Fault) → slice_get sources k ≡ Some source → typed_of stage k source ≡ Err fault
      → typed_behind stage units k (drop k sources) ≡ Err fault
  fault_behind units k sources source fault at is =
      ap (typed_behind stage units k) (at_front sources k source at)
      ∙ ap (λ t. (t >>= λ typed. typed_from stage (k + 1) (drop (k + 1) sources) >>= λ us. Ok (typed ∷ us)) >>= λ us. Ok (units ++ us)) is

  -- ---- they are well typed

  tree_typed : (tree : Checked Tree) (typed : TypedUnit) → ((us : Tree) → tree ≡ Ok us → checked stage us ≡ Ok typed → IsUnit stage typed) → (tree >>= checked stage) ≡ Ok typed → IsUnit stage typed
  tree_typed (Ok us) typed each is = each us refl is
  tree_typed (Err fault) typed each is = absurd cc

  source_typed : (unit : ℕ) (source : List ℕ) (typed : TypedUnit) → typed_of stage unit source ≡ Ok typed → IsUnit stage typed
  unfolding typed_of tree_of tokens_of
  source_typed unit source typed is = tree_typed (tree_of unit source) typed (λ us read checks. checked_is stage us typed (source_parsed unit source us read) checks) is

  by_first : (first : Checked TypedUnit) (more : Checked (List TypedUnit)) (units : List TypedUnit) → ((typed : TypedUnit) → first ≡ Ok typed → IsUnit stage typed)
      → ((us : List TypedUnit) → more ≡ Ok us → AllByRecursion (IsUnit stage) us) → (first >>= λ typed. more >>= λ us. Ok (typed ∷ us)) ≡ Ok units → AllByRecursion (IsUnit stage) units
  by_first (Ok typed) (Ok us) units one others is = subst (AllByRecursion (IsUnit stage)) (let same : typed ∷ us ≡ units = cc in same) (one typed refl, others us refl)
  by_first (Ok typed) (Err fault) units one others is = absurd cc
  by_first (Err fault) more units one others is = absurd cc

  all_typed : (unit : ℕ) (sources : List (List ℕ)) (units : List TypedUnit) → typed_from stage unit sources ≡ Ok units → AllByRecursion (IsUnit stage) units
  all_typed unit [] units is = subst (AllByRecursion (IsUnit stage)) (let same : [] ≡ units = cc in same) tt
  all_typed unit (source ∷ sources) units is =
      by_first (typed_of stage unit source) (typed_from stage (unit + 1) sources) units (source_typed unit source) (all_typed (unit + 1) sources) is

  -- the typed units of sources may be linked
  pub linkable : (sources : List (List ℕ)) (units : List TypedUnit) → typed_from stage 0 sources ≡ Ok units → AreKnown (joined_structs units) (sides_of units)
  linkable sources units is = units_known stage units (all_typed 0 sources units is)

  -- ---- and what the checker answers for trees

  tree_answered : (tree : Checked Tree) (typed : TypedUnit) → ((us : Tree) → tree ≡ Ok us → IsParsed us) → (tree >>= checked stage) ≡ Ok typed → (us : Tree) × IsParsed us × (checked stage us ≡ Ok typed)
  tree_answered (Ok us) typed each is = (us, each us refl, is)
  tree_answered (Err fault) typed each is = absurd cc

  source_answered : (unit : ℕ) (source : List ℕ) (typed : TypedUnit) → typed_of stage unit source ≡ Ok typed → (us : Tree) × IsParsed us × (checked stage us ≡ Ok typed)
  unfolding typed_of tree_of tokens_of
  source_answered unit source typed is = tree_answered (tree_of unit source) typed (source_parsed unit source) is

  abbrev pub Answers : List TypedUnit → Type 0
  Answers units = (trees : List Tree) × AreAnswers stage trees units

  answers_by_first : (first : Checked TypedUnit) (more : Checked (List TypedUnit)) (units : List TypedUnit) → ((typed : TypedUnit) → first ≡ Ok typed → (us : Tree) × IsParsed us × (checked stage us ≡ Ok typed))
      → ((us : List TypedUnit) → more ≡ Ok us → Answers us) → (first >>= λ typed. more >>= λ us. Ok (typed ∷ us)) ≡ Ok units → Answers units
  answers_by_first (Ok typed) (Ok us) units one others is =
      let tree = one typed refl in
      let trees = others us refl in
      subst Answers (let same : typed ∷ us ≡ units = cc in same) (tree.0 ∷ trees.0, (tree.1, tree.2, trees.1))
  answers_by_first (Ok typed) (Err fault) units one others is = absurd cc
  answers_by_first (Err fault) more units one others is = absurd cc

  pub all_answered : (unit : ℕ) (sources : List (List ℕ)) (units : List TypedUnit) → typed_from stage unit sources ≡ Ok units → Answers units
  all_answered unit [] units is = subst Answers (let same : [] ≡ units = cc in same) ([], tt)
  all_answered unit (source ∷ sources) units is =
      answers_by_first (typed_of stage unit source) (typed_from stage (unit + 1) sources) units (source_answered unit source) (all_answered (unit + 1) sources) is

  -- as many as sources
  count_by_first : (first : Checked TypedUnit) (more : Checked (List TypedUnit)) (units : List TypedUnit) (count : ℕ) → ((us : List TypedUnit) → more ≡ Ok us → length us ≡ count)
      → (first >>= λ typed. more >>= λ us. Ok (typed ∷ us)) ≡ Ok units → length units ≡ count + 1
  count_by_first (Ok typed) (Ok us) units count others is = let same : units ≡ typed ∷ us = cc in omega (arith, ap length same, others us refl)
  count_by_first (Ok typed) (Err fault) units count others is = absurd cc
  count_by_first (Err fault) more units count others is = absurd cc

  pub all_counted : (unit : ℕ) (sources : List (List ℕ)) (units : List TypedUnit) → typed_from stage unit sources ≡ Ok units → length units ≡ length sources
  all_counted unit [] units is = ap length (let same : units ≡ [] = cc in same)
  all_counted unit (source ∷ sources) units is =
      let counted = count_by_first (typed_of stage unit source) (typed_from stage (unit + 1) sources) units (length sources) (all_counted (unit + 1) sources) is in omega (arith, counted)

  -- What sources make is linked: a program without a fault of linking, as one unit too.
  pub made_is_linked : (sources : List (List ℕ)) (units : List TypedUnit) (result : Result Linked Refusal) → length sources ≤ MAX_SOURCES → typed_from stage 0 sources ≡ Ok units
      → Gives result (joined stage units) → IfOk result IsLinked
  made_is_linked sources units (Ok p) few typed is =
      let answers = all_answered 0 sources units typed in
      answers_linked stage answers.0 units p answers.1 (omega (arith, few, all_counted 0 sources units typed)) is
  made_is_linked sources units (Err why) few typed is = tt

  -- ---- the program that they make

  pub linked_short : (sources : List (List ℕ)) → too_long_from 0 sources ≡ None → linked_of stage sources ≡ (typed_from stage 0 sources >>= joined stage)
  linked_short sources none = ap (λ long. sized long (typed_from stage 0 sources) >>= joined stage) none

  pub linked_long : (sources : List (List ℕ)) (unit : ℕ) → too_long_from 0 sources ≡ Some unit → linked_of stage sources ≡ Err (fault_in unit E0900)
  linked_long sources unit long = ap (λ long. sized long (typed_from stage 0 sources) >>= joined stage) long
