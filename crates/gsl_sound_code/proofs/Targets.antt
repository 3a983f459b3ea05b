-- Where the blocks of a function are structured, each leads to labels of the function.
use Rattle.std.proofs.Common.{◌≡◌, refl, sym, ap, ◌∙◌, subst, ℕ, Bool, true, false, ◌&&◌, ◌||◌, not, if◌then◌else◌, List, [], ◌∷◌, ◌++◌, filter, Option, Some, None, inl, inr}
use Rattle.std.specs.List.{AllByRecursion, list_any}
use Rattle.std.specs.Prelude.{◌==◌, nat_eq}
use Rattle.std.proofs.lemmas.Bool.{eqb-true, not-false, true≢false, or_cases, and_parts}
use Rattle.gsl_instr.specs.Instructions.{seconds}
use Rattle.gsl_blocks.specs.declared.block.Block.{Block}
use Rattle.gsl_blocks.specs.declared.around.Around.{Around}
use Rattle.gsl_blocks.specs.declared.around.Due.{Due}
use Rattle.gsl_blocks.specs.Around.{in_arm, is_exit, is_id, may_end, may_turn, needs_run, outside}
use Rattle.gsl_blocks.specs.Blocks.{labels}
use Rattle.gsl_blocks.specs.Order.{IsRun, AreRuns, ends, leaves, turns, selects, chooses, loops, goes, done, more, arm, cases, first_or, run}
use Rattle.gsl_blocks.specs.Reading.{nesting_of, reads_with}
use Rattle.gsl_blocks.specs.Targets.{AreArms, alone, with_default, lone_default, mentioned, once, once_from, with_word}
use Rattle.gsl_blocks.proofs.Sound.{sound}
use Rattle.gsl_sound_code.specs.Spots.{EndsIn}

module _ (P : ℕ → Type 0) where
  -- ---- lists of which each has the property

  all_front : (xs ys : List ℕ) → AllByRecursion P (xs ++ ys) → AllByRecursion P xs × AllByRecursion P ys
  all_front [] ys all = (tt, all)
  all_front (x ∷ xs) ys all = let later = all_front xs ys all.1 in ((all.0, later.0), later.1)

  all_join : (xs ys : List ℕ) → AllByRecursion P xs → AllByRecursion P ys → AllByRecursion P (xs ++ ys)
  all_join [] ys first last = last
  all_join (x ∷ xs) ys first last = (first.0, all_join xs ys first.1 last)

  all_at : (x : ℕ) (xs : List ℕ) → AllByRecursion P xs → list_any (nat_eq x) xs ≡ true → P x
  all_at x [] all is = absurd (true≢false (sym is))
  all_at x (y ∷ ys) all is = elim (or_cases (nat_eq x y) (list_any (nat_eq x) ys) is) [
    | inl here ↦ subst P (sym (eqb-true x y here)) all.0
    | inr later ↦ all_at x ys all.1 later
  ]

  all_word : (before : List ℕ) (word : ℕ) → AllByRecursion P (with_word before word) → AllByRecursion P before × P word
  all_word before word all = by_test (list_any (nat_eq word) before) refl all
    where
      by_test : (b : Bool) → list_any (nat_eq word) before ≡ b → AllByRecursion P (if b then before else before ++ word ∷ []) → AllByRecursion P before × P word
      by_test true is all = (all, all_at word before all is)
      by_test false is all = let parts = all_front before (word ∷ []) all in (parts.0, parts.1.0)

  -- the same of words each once
  all_once : (before words : List ℕ) → AllByRecursion P (once_from before words) → AllByRecursion P before × AllByRecursion P words
  all_once before [] all = (all, tt)
  all_once before (word ∷ words) all =
      let later = all_once (with_word before word) words all in
      let here = all_word before word later.0 in
      (here.0, (here.1, later.1))

module _ (P : ℕ → Type 0) where
  -- the same of those that pass a test
  all_filter : (test : ℕ → Bool) (xs : List ℕ) → AllByRecursion P (filter test xs) → AllByRecursion (λ x. test x ≡ true → P x) xs
  all_filter test [] all = tt
  all_filter test (x ∷ xs) all = by_test (test x) refl (all_filter test xs) all
    where
      by_test : (b : Bool) → test x ≡ b → (AllByRecursion P (filter test xs) → AllByRecursion (λ x. test x ≡ true → P x) xs)
          → AllByRecursion P (if b then x ∷ filter test xs else filter test xs) → AllByRecursion (λ x. test x ≡ true → P x) (x ∷ xs)
      by_test true is later all = (λ passes. all.0, later all.1)
      by_test false is later all = (λ passes. absurd (true≢false (sym passes ∙ is)), later all)

  all_follow : (Q : ℕ → Type 0) → ((x : ℕ) → Q x → P x) → (xs : List ℕ) → AllByRecursion Q xs → AllByRecursion P xs
  all_follow Q follow [] all = tt
  all_follow Q follow (x ∷ xs) all = (follow x all.0, all_follow Q follow xs all.1)

  -- ---- what is around runs

  -- an id that there is has the property
  abbrev If : Option ℕ → Type 0
  If None = Unit {0}
  If (Some id) = P id

  if_is : (o : Option ℕ) (id : ℕ) → If o → is_id o id ≡ true → P id
  if_is None id has is = absurd (true≢false (sym is))
  if_is (Some other) id has is = subst P (eqb-true other id is) has

  -- The follow and the exits have the property.
  record Surrounds (c : Around) : Type 0 where
    follow : If c.follow
    loop_merge : If c.loop_merge
    loop_continue : If c.loop_continue
    switch_merge : If c.switch_merge
    back : If c.back

  exit_is : (c : Around) (id : ℕ) → Surrounds c → is_exit c id ≡ true → P id
  exit_is c id around is = elim (or_cases (is_id c.loop_merge id || is_id c.loop_continue id) (is_id c.switch_merge id) is) [
    | inl loop ↦ elim (or_cases (is_id c.loop_merge id) (is_id c.loop_continue id) loop) [ inl merge ↦ if_is c.loop_merge id around.loop_merge merge | inr next ↦ if_is c.loop_continue id around.loop_continue next ]
    | inr switch ↦ if_is c.switch_merge id around.switch_merge switch
  ]

  end_is : (c : Around) (id : ℕ) → Surrounds c → may_end c id ≡ true → P id
  end_is c id around is = elim (or_cases (is_id c.follow id) (is_exit c id) is) [ inl follow ↦ if_is c.follow id around.follow follow | inr exit ↦ exit_is c id around exit ]

  -- the target of a selection with its merge, where those that need a run have the property
  target_is : (c : Around) (m id : ℕ) → Surrounds c → P m → (needs_run c m id ≡ true → P id) → P id
  target_is c m id around merge run = by_test (needs_run c m id) refl
    where
      by_test : (b : Bool) → needs_run c m id ≡ b → P id
      by_test true needs = run needs
      by_test false needs = elim (or_cases (id == m) (is_exit c id) (not-false _ needs)) [ inl same ↦ subst P (sym (eqb-true id m same)) merge | inr exit ↦ exit_is c id around exit ]

  turn_is : (c : Around) (t f : ℕ) → Surrounds c → may_turn c t f ≡ true → P t × P f
  turn_is c t f around is = elim (or_cases (is_id c.follow t && is_id c.back f) (is_id c.follow f && is_id c.back t) is) [
    | inl on ↦ let parts = and_parts (is_id c.follow t) (is_id c.back f) on in (if_is c.follow t around.follow parts.0, if_is c.back f around.back parts.1)
    | inr off ↦ let parts = and_parts (is_id c.follow f) (is_id c.back t) off in (if_is c.back t around.back parts.1, if_is c.follow f around.follow parts.0)
  ]

  -- ---- runs whose labels have it

  abbrev Labelled : List Block → Type 0
  Labelled bs = AllByRecursion (λ b. P b.label) bs

  abbrev AllDue : List Due → Type 0
  AllDue ds = AllByRecursion (λ d. P d.label) ds

  abbrev AllSurround : List Due → Type 0
  AllSurround ds = AllByRecursion (λ d. Surrounds d.around) ds

  abbrev AllEnd : List Block → Type 0
  AllEnd bs = AllByRecursion (λ b. EndsIn P b.end) bs

  labelled_front : (xs ys : List Block) → Labelled (xs ++ ys) → Labelled xs × Labelled ys
  labelled_front [] ys all = (tt, all)
  labelled_front (x ∷ xs) ys all = let later = labelled_front xs ys all.1 in ((all.0, later.0), later.1)

  ends_join : (xs ys : List Block) → AllEnd xs → AllEnd ys → AllEnd (xs ++ ys)
  ends_join [] ys first last = last
  ends_join (x ∷ xs) ys first last = (first.0, ends_join xs ys first.1 last)

  -- a run begins with its label
  run_label : (first : ℕ) {l : ℕ} {c : Around} {n : ℕ} {bs : List Block} → IsRun first l c n bs → Labelled bs → P l
  run_label first (ends t h) all = all.0
  run_label first (leaves h) all = all.0
  run_label first (turns t f h) all = all.0
  run_label first (selects m t f h rs) all = all.0
  run_label first (chooses m default targets arms h a rs) all = all.0
  run_label first (loops m k b h rs) all = all.0
  run_label first (goes t h r) all = all.0

  runs_due : (first : ℕ) {ds : List Due} {n : ℕ} {bs : List Block} → AreRuns first ds n bs → Labelled bs → AllDue ds
  runs_due first done all = tt
  runs_due first (more {xs = xs} {ys = ys} r rs) all = let parts = labelled_front xs ys all in (run_label first r parts.0, runs_due first rs parts.1)

  -- what is due behind the arm of a selection
  arm_later : (c : Around) (m l : ℕ) (later : List Due) → AllDue (arm c m l later) → (needs_run c m l ≡ true → P l) × AllDue later
  arm_later c m l later all = by_test (needs_run c m l) refl all
    where
      by_test : (b : Bool) → needs_run c m l ≡ b → AllDue (if b then run l (in_arm c m) ∷ later else later) → (needs_run c m l ≡ true → P l) × AllDue later
      by_test true is all = (λ needs. all.0, all.1)
      by_test false is all = (λ needs. absurd (true≢false (sym needs ∙ is)), all)

  arm_surrounds : (c : Around) (m l : ℕ) (later : List Due) → Surrounds c → P m → AllSurround later → AllSurround (arm c m l later)
  arm_surrounds c m l later around merge all = by_test (needs_run c m l)
    where
      by_test : (b : Bool) → AllSurround (if b then run l (in_arm c m) ∷ later else later)
      by_test true = (record { follow = merge; loop_merge = around.loop_merge; loop_continue = around.loop_continue; switch_merge = around.switch_merge; back = tt }, all)
      by_test false = all

  cases_later : (c : Around) (m last : ℕ) (arms : List ℕ) (later : List Due) → AllDue (cases c m last arms later) → AllByRecursion P arms × AllDue later
  cases_later c m last [] later all = (tt, all)
  cases_later c m last (l ∷ arms) later all = let parts = cases_later c m last arms later all.1 in ((all.0, parts.0), parts.1)

  first_is : (last : ℕ) (arms : List ℕ) → P last → AllByRecursion P arms → P (first_or last arms)
  first_is last [] has all = has
  first_is last (l ∷ arms) has all = all.0

  cases_surround : (c : Around) (m : ℕ) (arms : List ℕ) (later : List Due) → Surrounds c → P m → AllByRecursion P arms → AllSurround later → AllSurround (cases c m m arms later)
  cases_surround c m [] later around merge arms all = all
  cases_surround c m (l ∷ ls) later around merge arms all = (
    record { follow = first_is m ls merge arms.1; loop_merge = around.loop_merge; loop_continue = around.loop_continue; switch_merge = merge; back = tt },
    cases_surround c m ls later around merge arms.1 all,
  )

  -- the arms of a switch are the targets that need runs
  arms_are : (named : List ℕ) (lone : Option ℕ) (arms : List ℕ) → AreArms named lone arms → AllByRecursion P arms → AllByRecursion P named × If lone
  arms_are named None _ alone all = (all, tt)
  arms_are named (Some default) _ (with_default d front back split) all =
      let parts = all_front P front (d ∷ back) all in
      (subst (AllByRecursion P) (sym split) (all_join P front back parts.0 parts.1.1), parts.1.0)

  module _ (c : Around) (m default : ℕ) (targets : List ℕ) (around : Surrounds c) (merge : P m) where
    named_are : AllByRecursion P (mentioned c m targets) → AllByRecursion (λ id. needs_run c m id ≡ true → P id) (seconds targets)
    named_are all = (all_once (λ id. needs_run c m id ≡ true → P id) [] (seconds targets) (all_filter (needs_run c m) (once (seconds targets)) all)).1

    lone_is : AllByRecursion (λ id. needs_run c m id ≡ true → P id) (once (seconds targets)) → If (lone_default c m default targets) → P default
    lone_is all lone = target_is c m default around merge (λ needs. by_test (list_any (nat_eq default) (once (seconds targets))) refl needs)
      where
        by_test : (b : Bool) → list_any (nat_eq default) (once (seconds targets)) ≡ b → needs_run c m default ≡ true → P default
        by_test true is needs = all_at (λ id. needs_run c m id ≡ true → P id) default (once (seconds targets)) all is needs
        by_test false is needs = subst If (ap (λ n. if n && not (list_any (nat_eq default) (once (seconds targets))) then Some default else None) needs ∙ ap (λ a. if true && not a then Some default else None) is) lone

  outside_surrounds : Surrounds outside
  outside_surrounds = record { follow = tt; loop_merge = tt; loop_continue = tt; switch_merge = tt; back = tt }

  mutual
    run_ends : (first : ℕ) {l : ℕ} {c : Around} {n : ℕ} {bs : List Block} → IsRun first l c n bs → Surrounds c → Labelled bs → AllEnd bs
    run_ends first (ends {c = c} t h) around all = (end_is c t around h, tt)
    run_ends first (leaves h) around all = (tt, tt)
    run_ends first (turns {c = c} t f h) around all = (turn_is c t f around h, tt)
    run_ends first (selects {c = c} m t f h rs) around all =
        let one = arm_later c m t (arm c m f (run m c ∷ [])) (runs_due first rs all.1) in
        let two = arm_later c m f (run m c ∷ []) one.1 in (
          (target_is c m t around two.1.0 one.0, target_is c m f around two.1.0 two.0),
          runs_end first rs (arm_surrounds c m t (arm c m f (run m c ∷ [])) around two.1.0 (arm_surrounds c m f (run m c ∷ []) around two.1.0 (around, tt))) all.1,
        )
    run_ends first (chooses {c = c} m default targets arms h a rs) around all =
        let due = cases_later c m m arms (run m c ∷ []) (runs_due first rs all.1) in
        let named = arms_are (mentioned c m targets) (lone_default c m default targets) arms a due.0 in (
          (
            lone_is c m default targets around due.1.0 (all_filter (needs_run c m) (once (seconds targets)) named.0) named.1,
            all_follow (λ id. needs_run c m id ≡ true → P id) (λ id needed. target_is c m id around due.1.0 needed) (seconds targets) (named_are c m default targets around due.1.0 named.0),
          ),
          runs_end first rs (cases_surround c m arms (run m c ∷ []) around due.1.0 due.0 (around, tt)) all.1,
        )
    run_ends first (loops {l = l} {c = c} m k b h rs) around all =
        let due = runs_due first rs all.1 in (
          due.0,
          runs_end first rs (
            record { follow = due.1.0; loop_merge = due.1.1.0; loop_continue = due.1.0; switch_merge = tt; back = tt },
            (record { follow = all.0; loop_merge = tt; loop_continue = tt; switch_merge = tt; back = due.1.1.0 }, (around, tt)),
          ) all.1,
        )
    run_ends first (goes t h r) around all = (run_label first r all.1, run_ends first r around all.1)

    runs_end : (first : ℕ) {ds : List Due} {n : ℕ} {bs : List Block} → AreRuns first ds n bs → AllSurround ds → Labelled bs → AllEnd bs
    runs_end first done around all = tt
    runs_end first (more {xs = xs} {ys = ys} r rs) around all =
        let parts = labelled_front xs ys all in ends_join xs ys (run_ends first r around.0 parts.0) (runs_end first rs around.1 parts.1)

  -- where labels have the property, the targets of structured blocks do
  pub structured_end : (bs : List Block) (n : ℕ) → nesting_of bs ≡ Some n → Labelled bs → AllEnd bs
  structured_end bs n is all = by_labels (once (labels bs)) is
    where
      by_labels : (ls : List ℕ) → reads_with ls bs ≡ Some n → AllEnd bs
      by_labels [] is = absurd (cc)
      by_labels (first ∷ ls) is = let r = sound (first ∷ ls) first bs (run first outside ∷ []) 0 n is in runs_end first r.runs (outside_surrounds, tt) all
