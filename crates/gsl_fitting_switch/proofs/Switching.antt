-- `switch`.
use Rattle.std.proofs.Common.{◌≡◌, ℕ, ◌+◌, ◌<◌, ◌≤◌, Bool, true, false, ◌||◌, List, [], ◌∷◌, ◌++◌, length, Some, refl, sym, ap, ◌∙◌, subst, suc, arith}
use Rattle.std.specs.Prelude.{◌==◌, nat_eq, nat_le}
use Rattle.std.specs.List.{AllByRecursion, list_all, list_any}
use Rattle.std.proofs.lemmas.Bool.{and_from, eqb-true, or_from}
use Rattle.gsl_blocks.specs.declared.around.Around.{Around}
use Rattle.gsl_blocks.specs.declared.around.Due.{Due}
use Rattle.gsl_blocks.specs.Order.{cases, run}
use Rattle.gsl_blocks.specs.Targets.{all_differ, once}
use Rattle.gsl_instr.specs.Forms.{form_of}
use Rattle.gsl_instr.specs.Instructions.{seconds}
use Rattle.gsl_instr.specs.declared.instruction.Instruction.TheVariants as instruction
use Rattle.gsl_instr.specs.declared.op.TheConstants as op
use Rattle.gsl_words.specs.declared.module.Module.{Module}
use Rattle.gsl_valid.specs.EntryRules.{is_among}
use Rattle.gsl_valid.specs.LimitRules.{most_constructs, most_pairs}
use Rattle.gsl_valid.specs.Placed.{Code}
use Rattle.gsl_valid.specs.Types.{is_int_type}
use Rattle.gsl_spv.specs.Calls as call
use Rattle.gsl_spv.specs.Declarations.{instr}
use Rattle.gsl_spv.specs.Finished.{module_of}
use Rattle.gsl_spv.specs.Growing.{Extends, all_of}
use Rattle.gsl_spv.specs.Sections.{Sections}
use Rattle.gsl_spv.proofs.Extending.{extends_same, extends_then}
use Rattle.gsl_lower_holders.specs.Flow.{Emit, Flow, Gives, Lacks, Lowered, behind, each, fresh, given as give, opening, putting_here}
use Rattle.gsl_lower_stmt.specs.Lowering.{defaults_of, switched, words_of}
use Rattle.gsl_lower_stmt.specs.Parts.{LowerArm, begin_switch, default_of, falling, targets}
use Rattle.gsl_lower_stmt.specs.declared.exits.Exits.{Exits}
use Rattle.gsl_fitting.specs.Fits.{Behind, Fits, Frame, In, Sits, is_mark}
use Rattle.gsl_fitting_sections.specs.Sections.{AreApart}
use Rattle.gsl_fitting_shapes.specs.Fresh.{AreNew, Chooses, Fresh}
use Rattle.gsl_fitting_shapes.proofs.Labels.{later as fresh_later}
use Rattle.gsl_fitting_shapes.proofs.Switches.{switch_apart, switch_named, switch_none}
use Rattle.gsl_fitting_types.specs.Making.{AreSorted, made}
use Rattle.gsl_fitting_types.proofs.Stepping.{sits_read}
use Rattle.gsl_fitting_flow.specs.Flowing.{EmitStays, GivesOf, IsLater, IsOf}
use Rattle.gsl_fitting_flow.proofs.Branching.{merge_sits}
use Rattle.gsl_fitting_flow.proofs.Following.{emit_then, later_then}
use Rattle.gsl_fitting_flow.proofs.Owing.{AreOwed, Bridge, FromTo, bridge_then, fine_all, from_then, label_bridge, label_marks, put_bridge, stays_all, taken_owed}
use Rattle.gsl_fitting_flow.proofs.Short.{behind_assoc, greater, with_last}
use Rattle.gsl_fitting_expr.specs.Evaluating.{Evaluates}
use Rattle.gsl_fitting_stmt.specs.Doing.{Runs, StmtFlows}
use Rattle.gsl_fitting_stmt.proofs.Doing.{part_then}
use Rattle.gsl_fitting_stmt.proofs.Forking.{given_by}
use Rattle.gsl_fitting_loops.proofs.Looping.{fresh_by}
use Rattle.gsl_fitting_loops.proofs.Phases.{AreOthers, Next, PhaseStays, all_marks, next_then, no_others}
use Rattle.gsl_fitting_switch.specs.Choosing.{AreNamed, ArmsRun, HaveLiterals, all_literals}
use Rattle.gsl_fitting_switch.proofs.Falling.{FallFlows, fall_flows, fall_stays, opened, opened_next}
use Rattle.gsl_fitting_switch.proofs.Targets.{apart_other, default_by, first_default, firsts_are, labels_apart, labels_between, labels_from, last_of, last_up, named_all, named_apart, once_are, seconds_all, seconds_count}

abbrev Labels : Type 0
Labels = given_by (begin_switch [] [])

-- ---- labels

abbrev end_of : ℕ → List (List ℕ) → ℕ
end_of n words = last_of n words + 1

abbrev ids_of : ℕ → List (List ℕ) → List ℕ
ids_of n words = labels_from n words ++ end_of n words ∷ []

abbrev Between : ℕ → ℕ → List ℕ → Type 0
Between low high ids = AllByRecursion (λ id. (low < id) × (id ≤ high)) ids

between_end : (low high : ℕ) (ids : List ℕ) → low ≤ high → Between low high ids → Between low (high + 1) (ids ++ (high + 1) ∷ [])
between_end low high [] le h = ((omega (arith, le), omega arith), tt)
between_end low high (id ∷ ids) le h = ((h.0.0, let most = h.0.1 in omega (arith, most)), between_end low high ids le h.1)

ids_between : (n : ℕ) (words : List (List ℕ)) → Between n (end_of n words) (ids_of n words)
ids_between n words = between_end n (last_of n words) (labels_from n words) (last_up n words) (labels_between n words)

none_low : (low high : ℕ) (ids : List ℕ) → Between low high ids → (id : ℕ) → id ≤ low → is_among ids id ≡ false
none_low low high [] h id le = refl
none_low low high (one ∷ ids) h id le = or_from (one == id) _ (greater one id (let lt = h.0.0 in omega (arith, lt, le))) (none_low low high ids h.1 id le)

none_high : (low high : ℕ) (ids : List ℕ) → Between low high ids → is_among ids (high + 1) ≡ false
none_high low high [] h = refl
none_high low high (one ∷ ids) h = or_from (one == (high + 1)) _ (by_case (one == (high + 1)) refl) (none_high low high ids h.1)
  where
    by_case : (b : Bool) → (one == (high + 1)) ≡ b → (one == (high + 1)) ≡ false
    by_case false e = e
    by_case true e = let same = eqb-true one (high + 1) e in let most = h.0.1 in absurd (omega (arith, same, most))

all_owed : (s : Sections) (high : ℕ) (ids : List ℕ) → AreApart (s.last + 1) (all_of s) → Between s.last high ids → AreOwed (record s { last = high }) ids
all_owed s high [] apart h = tt
all_owed s high (id ∷ ids) apart h = (taken_owed s id high apart (let lt = h.0.0 in omega (arith, lt)) h.0.1, all_owed s high ids apart h.1)

are_new : (low high : ℕ) (ids : List ℕ) → Between low high ids → AreNew (low + 1) (high + 1) ids
are_new low high [] h = tt
are_new low high (id ∷ ids) h = ((let lt = h.0.0 in omega (arith, lt), λ e. let most = h.0.1 in omega (arith, e, most)), are_new low high ids h.1)

new_move : (least merge label : ℕ) (before more : List ℕ) → AreNew least merge (before ++ (label ∷ more)) → AreNew least merge (label ∷ (before ++ more))
new_move least merge label [] more h = h
new_move least merge label (one ∷ before) more h = let rest = new_move least merge label before more h.1 in (rest.0, (h.0, rest.1))

any_mark : (m : Module) (label : ℕ) (labels : List ℕ) → list_any (nat_eq label) labels ≡ true → AllByRecursion (λ id. is_mark m id ≡ true) labels → is_mark m label ≡ true
any_mark m label [] h all = cc
any_mark m label (one ∷ labels) h all = by_case (label == one) refl (λ k. any_mark m label labels k all.1)
  where
    by_case : (b : Bool) → (label == one) ≡ b → (list_any (nat_eq label) labels ≡ true → is_mark m label ≡ true) → is_mark m label ≡ true
    by_case true e rest = subst (λ z. is_mark m z ≡ true) (sym (eqb-true label one e)) all.0
    by_case false e rest = rest (subst (λ b. (b || list_any (nat_eq label) labels) ≡ true) e h)

-- ---- where flows lead

abbrev switch_args : ℕ → ℕ → List LowerArm → ℕ → List ℕ
switch_args n x arms default = x ∷ default ∷ targets (words_of arms) (labels_from n (words_of arms))

abbrev default_in : ℕ → List LowerArm → ℕ
default_in n arms = default_of (defaults_of arms) (labels_from n (words_of arms)) (end_of n (words_of arms))

abbrev begun : ℕ → List LowerArm → Flow → Flow
begun x arms s =
    record { sections = call.put op.SWITCH (switch_args s.sections.last x arms (default_in s.sections.last arms)) (call.put op.SELECTION_MERGE (end_of s.sections.last (words_of arms) ∷ 0 ∷ []) (with_last (end_of s.sections.last (words_of arms)) s).sections); place = s.place }

abbrev head_code : ℕ → ℕ → List LowerArm → ℕ → Code
head_code n x arms default = instr op.SELECTION_MERGE (end_of n (words_of arms) ∷ 0 ∷ []) ∷ instr op.SWITCH (switch_args n x arms default) ∷ []

head_bridge : (m : Module) (x : ℕ) (arms : List LowerArm) (s : Flow) → Bridge m (head_code s.sections.last x arms (default_in s.sections.last arms)) [] (with_last (end_of s.sections.last (words_of arms)) s).sections (begun x arms s).sections
unfolding form_of
head_bridge m x arms s =
    let n = s.sections.last in
    let end = end_of n (words_of arms) in
    let a = call.put op.SELECTION_MERGE (end ∷ 0 ∷ []) (with_last end s).sections in
    bridge_then m (instr op.SELECTION_MERGE (end ∷ 0 ∷ []) ∷ []) (instr op.SWITCH (switch_args n x arms (default_in n arms)) ∷ []) [] [] (with_last end s).sections a (begun x arms s).sections tt (put_bridge m op.SELECTION_MERGE (end ∷ 0 ∷ []) (with_last end s).sections refl)
    (put_bridge m op.SWITCH (switch_args n x arms (default_in n arms)) a refl)

each_by : {A : Type 0} (Q : Lowered (List ℕ) → Type 0) → Q Lacks → (words : List A) (s : Flow) → Q (Gives (labels_from s.sections.last words) (with_last (last_of s.sections.last words) s)) → Q (each (λ (one : A). fresh) words s)
unfolding each
each_by {A} Q lacks [] s goes = goes
each_by {A} Q lacks (word ∷ words) s goes =
    fresh_by Q lacks s (λ b t. behind (each (λ (one : A). fresh) words t) (λ more. give (b ∷ more)))
    (each_by (λ lowered. Q (behind lowered (λ more. give ((s.sections.last + 1) ∷ more)))) lacks words (with_last (s.sections.last + 1) s) goes)

abbrev switch_at : ℕ → List LowerArm → List ℕ → ℕ → Emit Labels
switch_at x arms labels end u =
    behind (putting_here op.SELECTION_MERGE (end ∷ 0 ∷ []) u) (λ a v. behind (putting_here op.SWITCH (x ∷ default_of (defaults_of arms) labels end ∷ targets (words_of arms) labels) v) (λ b. give (record { arms = labels; end = end })))

abbrev labels_at : ℕ → List LowerArm → Labels
labels_at n arms = record { arms = labels_from n (words_of arms); end = end_of n (words_of arms) }

begin_by : (P : Lowered (Unit {0}) → Type 0) → P Lacks → (x : ℕ) (arms : List LowerArm) (s : Flow) (next : Labels → Emit (Unit {0})) → P (next (labels_at s.sections.last arms) (begun x arms s)) → P (behind (begin_switch (words_of arms) (defaults_of arms) x s) next)
unfolding begin_switch
begin_by P lacks x arms s next goes =
    each_by (λ (lowered : Lowered (List ℕ)). P (behind (behind lowered (λ labels t. behind (fresh t) (switch_at x arms labels))) next)) lacks (words_of arms) s
    (fresh_by (λ (lowered : Lowered Labels). P (behind lowered next)) lacks (with_last (last_of s.sections.last (words_of arms)) s) (switch_at x arms (labels_from s.sections.last (words_of arms))) goes)

-- more ids were taken
widened : (high : ℕ) (s : Flow) → s.sections.last ≤ high → Extends s.sections (with_last high s).sections
widened high s more =
    let same = extends_same s.sections in
    record { stage = refl; target = refl; imports = same.imports; names = same.names; decorations = same.decorations; globals = same.globals; functions = same.functions; last = more; wanting = λ h. h }

-- ---- what stays

end_others : (n : ℕ) (words : List (List ℕ)) → AreOthers (labels_from n words) (end_of n words ∷ [])
end_others n words = (none_high n (last_of n words) (labels_from n words) (labels_between n words), tt)

head_next : (x : ℕ) (arms : List LowerArm) (s : Flow) → Next [] (with_last (end_of s.sections.last (words_of arms)) s) (begun x arms s)
head_next x arms s = record { link = (head_bridge (module_of s.sections 0 []) x arms s).link; place = refl; used = omega arith; labels = tt }

all_next : (x : ℕ) (arms : List LowerArm) (s v : Flow) → Next (labels_from s.sections.last (words_of arms)) (begun x arms s) v → Next (ids_of s.sections.last (words_of arms)) (with_last (end_of s.sections.last (words_of arms)) s) (opened (end_of s.sections.last (words_of arms)) v)
all_next x arms s v on =
    let n = s.sections.last in
    let end = end_of n (words_of arms) in
    next_then [] (ids_of n (words_of arms)) (with_last end s) (begun x arms s) (opened end v) (no_others (ids_of n (words_of arms))) (head_next x arms s)
    (next_then (labels_from n (words_of arms)) (end ∷ []) (begun x arms s) v (opened end v) (end_others n (words_of arms)) on (opened_next end v))

low_end : (n : ℕ) (words : List (List ℕ)) → n ≤ end_of n words
low_end n words = let up = last_up n words in omega (arith, up)

tail_stays : (x : ℕ) (arms : List LowerArm) (s : Flow) (lowered : Lowered (Unit {0})) → PhaseStays (labels_from s.sections.last (words_of arms)) (begun x arms s) lowered → EmitStays s (behind lowered (λ done. opening (end_of s.sections.last (words_of arms))))
unfolding opening
tail_stays x arms s (Gives done v) on =
    let all = all_next x arms s v on in
    record {
      sections =
          stays_all (ids_of s.sections.last (words_of arms)) s.sections (opened (end_of s.sections.last (words_of arms)) v).sections (end_of s.sections.last (words_of arms)) (low_end s.sections.last (words_of arms)) all.link
          (λ apart. all_owed s.sections (end_of s.sections.last (words_of arms)) (ids_of s.sections.last (words_of arms)) apart (ids_between s.sections.last (words_of arms)))
          (λ id low. none_low s.sections.last (end_of s.sections.last (words_of arms)) (ids_of s.sections.last (words_of arms)) (ids_between s.sections.last (words_of arms)) id low);
      place = all.place;
      used = all.used;
    }
tail_stays x arms s Lacks on = tt

module _ (whole : Sections) (main : ℕ) (local_size : List ℕ) (rank : ℕ → ℕ) (f : Frame) (sorted : AreSorted whole) where
  abbrev m : Module
  m = made whole main local_size rank f

  abbrev S : List ℕ → ℕ → Bool → Exits → List ℕ → Flow → Lowered (Unit {0}) → Type 0
  S asks deep leaves exits given before lowered = StmtFlows whole main local_size rank f asks deep leaves exits given before lowered

  -- ---- the head

  switch_sits : (given : List ℕ) (x type default : ℕ) (rest : List ℕ) → is_int_type m (Some type) ≡ true → IsOf whole main local_size rank f given type x → is_mark m default ≡ true → list_all (is_mark m) (seconds rest) ≡ true → nat_le (length (seconds rest)) most_pairs ≡ true
      → Sits m rank f given (instr op.SWITCH (x ∷ default ∷ rest))
  unfolding form_of
  switch_sits given x type default rest int value mark marks few =
      sits_read whole main local_size rank f given (instr op.SWITCH (x ∷ default ∷ rest)) (instruction.Switch x default rest) refl refl (and_from _ _ value.known refl) (and_from _ _ mark marks) (ap (is_int_type m) value.typed ∙ int) refl refl refl few tt

  chooses : (n : ℕ) (arms : List LowerArm) (given : List ℕ) (x type default : ℕ) (labels : List ℕ) → all_differ (all_literals (words_of arms)) ≡ true → nat_le (length (all_literals (words_of arms))) most_pairs ≡ true → is_int_type m (Some type) ≡ true → IsOf whole main local_size rank f given type x → is_mark m default ≡ true
      → is_mark m (end_of n (words_of arms)) ≡ true → AllByRecursion (λ id. is_mark m id ≡ true) (labels_from n (words_of arms)) → once (seconds (targets (words_of arms) (labels_from n (words_of arms)))) ≡ labels
      → Chooses m rank f given (instr op.SELECTION_MERGE (end_of n (words_of arms) ∷ 0 ∷ [])) (instr op.SWITCH (switch_args n x arms default)) (end_of n (words_of arms)) default (targets (words_of arms) (labels_from n (words_of arms))) labels
  unfolding form_of
  chooses n arms given x type default labels differ few int value mark end_mark marks mentions = record {
    merges = refl;
    chooses = refl;
    differ = ap all_differ (firsts_are n (words_of arms)) ∙ differ;
    mentions = mentions;
    first = merge_sits whole main local_size rank f sorted given (end_of n (words_of arms)) end_mark;
    second = switch_sits given x type default (targets (words_of arms) (labels_from n (words_of arms))) int value mark (seconds_all (is_mark m) n (words_of arms) marks) (ap (λ k. nat_le k most_pairs) (seconds_count n (words_of arms)) ∙ few);
  }

  abbrev Head : ℕ → List LowerArm → ℕ → ℕ → Around → List ℕ → List Due → ℕ → Type 0
  Head n arms x l c given due default = FromTo m rank f (head_code n x arms default) (In l c given due) (Behind (cases c (end_of n (words_of arms)) (end_of n (words_of arms)) (labels_from n (words_of arms)) (run (end_of n (words_of arms)) c ∷ due)))

  mark_behind : (label : ℕ) (before more : List ℕ) → AllByRecursion (λ id. is_mark m id ≡ true) (before ++ (label ∷ more)) → is_mark m label ≡ true
  mark_behind label [] more all = all.0
  mark_behind label (one ∷ before) more all = mark_behind label before more all.1

  apart_fits : (n : ℕ) (front : List LowerArm) (arm : LowerArm) (back : List LowerArm) → AreNamed front → arm.labels ≡ [] → AreNamed back → (given : List ℕ) (x type l : ℕ) (c : Around) (due : List Due) → all_differ (all_literals (words_of (front ++ arm ∷ back))) ≡ true
      → nat_le (length (all_literals (words_of (front ++ arm ∷ back)))) most_pairs ≡ true → is_int_type m (Some type) ≡ true → IsOf whole main local_size rank f given type x → is_mark m (end_of n (words_of (front ++ arm ∷ back))) ≡ true
      → AllByRecursion (λ id. is_mark m id ≡ true) (labels_from n (words_of (front ++ arm ∷ back))) → Fresh c (n + 1) → c.depth < most_constructs → Head n (front ++ arm ∷ back) x l c given due (last_of n front + 1)
  apart_fits n front arm back named empty others given x type l c due differ few int value end_mark marks new deep = λ follows h.
      let arms = front ++ arm ∷ back in
      let ls = labels_from n (words_of arms) in
      let end = end_of n (words_of arms) in
      let label = last_of n front + 1 in
      let before = labels_from n (words_of front) in
      let more = labels_from label (words_of back) in
      let split = labels_apart n front arm back in
      let mentions = once_are n (words_of arms) ∙ named_apart n front arm back named empty others in
      let anew = new_move (n + 1) end label before more (subst (AreNew (n + 1) end) split (are_new n (last_of n (words_of arms)) ls (labels_between n (words_of arms)))) in
      let own = mark_behind label before more (subst (λ ids. AllByRecursion (λ id. is_mark m id ≡ true) ids) split marks) in
      switch_apart m rank f given (instr op.SELECTION_MERGE (end ∷ 0 ∷ [])) (instr op.SWITCH (switch_args n x arms label)) follows c due l end label (n + 1) (targets (words_of arms) ls) before more
      (chooses n arms given x type label (before ++ more) differ few int value own end_mark marks mentions) new anew (apart_other n front back) deep (subst (λ ids. Fits m rank f follows (Behind (cases c end end ids (run end c ∷ due)))) split h)

  head_fits : (n : ℕ) (arms : List LowerArm) → HaveLiterals arms → (given : List ℕ) (x type l : ℕ) (c : Around) (due : List Due) → all_differ (all_literals (words_of arms)) ≡ true → nat_le (length (all_literals (words_of arms))) most_pairs ≡ true → is_int_type m (Some type) ≡ true
      → IsOf whole main local_size rank f given type x → is_mark m (end_of n (words_of arms)) ≡ true → AllByRecursion (λ id. is_mark m id ≡ true) (labels_from n (words_of arms)) → Fresh c (n + 1) → c.depth < most_constructs → Head n arms x l c given due (default_in n arms)
  head_fits n _ (HaveLiterals.all_named {arms} named) given x type l c due differ few int value end_mark marks new deep =
      let ls = labels_from n (words_of arms) in
      let end = end_of n (words_of arms) in
      let mentions = once_are n (words_of arms) ∙ named_all n arms named in
      let anew = are_new n (last_of n (words_of arms)) ls (labels_between n (words_of arms)) in
      default_by (Head n arms x l c given due) end
      (λ follows h. switch_none m rank f given (instr op.SELECTION_MERGE (end ∷ 0 ∷ [])) (instr op.SWITCH (switch_args n x arms end)) follows c due l end (n + 1) (targets (words_of arms) ls) ls (chooses n arms given x type end ls differ few int value end_mark end_mark marks mentions) new anew deep h) (defaults_of arms) ls
      (λ label any follows h. switch_named m rank f given (instr op.SELECTION_MERGE (end ∷ 0 ∷ [])) (instr op.SWITCH (switch_args n x arms label)) follows c due l end label (n + 1) (targets (words_of arms) ls) ls
      (chooses n arms given x type label ls differ few int value (any_mark m label ls any marks) end_mark marks mentions) new anew any deep h)
  head_fits n _ (HaveLiterals.default_apart front back arm named none empty is others) given x type l c due differ few int value end_mark marks new deep =
      subst (Head n (front ++ arm ∷ back) x l c given due) (sym (first_default n (end_of n (words_of (front ++ arm ∷ back))) front arm back none is)) (apart_fits n front arm back named empty others given x type l c due differ few int value end_mark marks new deep)

  -- ---- the whole

  abbrev rest_of : List LowerArm → Exits → Labels → Emit (Unit {0})
  rest_of arms exits l t = behind (falling l.end l.arms arms exits t) (λ done. opening l.end)

  abbrev from_value : List LowerArm → Exits → ℕ → Emit (Unit {0})
  from_value arms exits x v = behind (begin_switch (words_of arms) (defaults_of arms) x v) (rest_of arms exits)

  module _ (s : Flow) (deep : ℕ) (exits : Exits) (arms : List LowerArm) (asks : List ℕ) (runs : ArmsRun whole main local_size rank f s deep arms asks) where
    rest_stays : (x : ℕ) (u : Flow) → EmitStays u (behind (begin_switch (words_of arms) (defaults_of arms) x u) (rest_of arms exits))
    rest_stays x u =
        begin_by (λ lowered. EmitStays u lowered) tt x arms u (rest_of arms exits)
        (tail_stays x arms u (falling (end_of u.sections.last (words_of arms)) (labels_from u.sections.last (words_of arms)) arms exits (begun x arms u)) (fall_stays whole main local_size rank f s deep (end_of u.sections.last (words_of arms)) exits arms asks runs u.sections.last (begun x arms u)))

    module _ (literals : HaveLiterals arms) (differ : all_differ (all_literals (words_of arms)) ≡ true) (few : nat_le (length (all_literals (words_of arms))) most_pairs ≡ true) (type : ℕ) (int : is_int_type m (Some type) ≡ true) where
      tail_flows : (x : ℕ) (given : List ℕ) (u : Flow) → IsOf whole main local_size rank f given type x → (lowered : Lowered (Unit {0})) → PhaseStays (labels_from u.sections.last (words_of arms)) (begun x arms u) lowered
          → FallFlows whole main local_size rank f sorted deep (end_of u.sections.last (words_of arms)) exits asks (labels_from u.sections.last (words_of arms)) (begun x arms u) lowered → S asks (suc deep) false exits given u (behind lowered (λ done. opening (end_of u.sections.last (words_of arms))))
      unfolding opening form_of
      tail_flows x given u value (Gives done v) on flows = λ inside labels hold.
          let n = u.sections.last in
          let ws = words_of arms in
          let ls = labels_from n ws in
          let end = end_of n ws in
          let behind_end = extends_then (opened_next end v).link.extends inside in
          let end_mark = label_marks whole main local_size rank f sorted end v.sections inside in
          let marks = all_marks whole main local_size rank f sorted v.sections ls behind_end on.labels in
          let y = flows behind_end labels end_mark hold in
          let head = head_code n x arms (default_in n arms) in
          let end_code = instr op.LABEL (end ∷ []) ∷ [] in
          let bridge =
          bridge_then m head (y.code ++ end_code) [] (ids_of n ws) (with_last end u).sections (begun x arms u).sections (opened end v).sections (no_others (ids_of n ws)) (head_bridge m x arms u)
          (bridge_then m y.code end_code ls (end ∷ []) (begun x arms u).sections v.sections (opened end v).sections (end_others n ws) y.bridge (label_bridge m end v.sections))
          in
          record {
            now = [];
            passes = record {
              fine = fine_all m (head ++ (y.code ++ end_code)) (ids_of n ws) u.sections (opened end v).sections end (low_end n ws) bridge (λ apart. all_owed u.sections end (ids_of n ws) apart (ids_between n ws));
              code = head ++ (y.code ++ end_code);
              puts = bridge.puts;
              fits = λ follows c due new leads may low h.
                  from_then m rank f head (y.code ++ end_code) (In u.place.label c given due) (Behind (cases c end end ls (run end c ∷ due))) (In end c [] due) (head_fits n arms literals given x type u.place.label c due differ few int value end_mark marks new (omega (arith, low)))
                  (from_then m rank f y.code end_code (Behind (cases c end end ls (run end c ∷ due))) (Behind (run end c ∷ due)) (In end c [] due) (y.fits c (run end c ∷ due) (fresh_later c (n + 1) (end + 1) (let up = low_end n ws in omega (arith, up)) new) leads may low) (λ later h. Fits.opens refl h)) follows h;
            };
            taken = y.taken;
          }
      tail_flows x given u value Lacks on flows = tt

      rest_flows : (x : ℕ) (given : List ℕ) (u : Flow) → IsLater s u → IsOf whole main local_size rank f given type x → S asks (suc deep) false exits given u (behind (begin_switch (words_of arms) (defaults_of arms) x u) (rest_of arms exits))
      rest_flows x given u here value =
          begin_by (λ lowered. S asks (suc deep) false exits given u lowered) tt x arms u (rest_of arms exits)
          (tail_flows x given u value (falling (end_of u.sections.last (words_of arms)) (labels_from u.sections.last (words_of arms)) arms exits (begun x arms u))
          (fall_stays whole main local_size rank f s deep (end_of u.sections.last (words_of arms)) exits arms asks runs u.sections.last (begun x arms u))
          (fall_flows whole main local_size rank f sorted s deep (end_of u.sections.last (words_of arms)) exits arms asks runs u.sections.last (begun x arms u) (omega arith) (omega arith) (later_then s u (begun x arms u) here (begun_later x u))))
        where
          begun_later : (x : ℕ) (u : Flow) → IsLater u (begun x arms u)
          begun_later x u = record { sections = extends_then (widened (end_of u.sections.last (words_of arms)) u (low_end u.sections.last (words_of arms))) (head_next x arms u).link.extends; place = refl }

  pub switch_runs : (s : Flow) (tests asks : List ℕ) (deep : ℕ) (splits : Bool) (type : ℕ) (exits : Exits) (value : Emit ℕ) (arms : List LowerArm) → is_int_type m (Some type) ≡ true → Evaluates whole main local_size rank f s tests (suc deep) splits type value → HaveLiterals arms → all_differ (all_literals (words_of arms)) ≡ true
      → nat_le (length (all_literals (words_of arms))) most_pairs ≡ true → ArmsRun whole main local_size rank f s deep arms asks → Runs whole main local_size rank f s (tests ++ asks) (suc deep) false exits (switched value arms exits)
  switch_runs s tests asks deep splits type exits value arms int e literals differ few runs = record {
    stays = λ u. subst (EmitStays u) (sym (behind_assoc (value u) (begin_switch (words_of arms) (defaults_of arms)) (rest_of arms exits)))
        (emit_then u (value u) (from_value arms exits) (e.stays u) (λ x v. rest_stays s deep exits arms asks runs x v));
    flows = λ given u here. subst (λ lowered. S (tests ++ asks) (suc deep) false exits given u lowered) (sym (behind_assoc (value u) (begin_switch (words_of arms) (defaults_of arms)) (rest_of arms exits)))
        (part_then whole main local_size rank f sorted tests asks (suc deep) splits false exits given (GivesOf whole main local_size rank f type) u (value u) (from_value arms exits) (e.stays u) (e.flows given u here) (λ x v. rest_stays s deep exits arms asks runs x v)
        (λ x v now is later. rest_flows s deep exits arms asks runs literals differ few type int x now v (later_then s u v here later) is));
  }
