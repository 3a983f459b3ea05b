-- Loops.
use Rattle.std.proofs.Common.{◌≡◌, ℕ, ◌+◌, ◌<◌, ◌≤◌, Bool, true, false, cond, List, [], ◌∷◌, ◌++◌, Option, Some, None, refl, sym, ap, ◌∙◌, subst, suc, arith}
use Rattle.std.specs.Prelude.{◌==◌, nat_le}
use Rattle.std.specs.List.{AllByRecursion}
use Rattle.std.proofs.lemmas.Bool.{and_from, eq-eqb, not_from_false, not_from_true, or_from, or_left, or_right}
use Rattle.gsl_blocks.specs.declared.around.Around.{Around}
use Rattle.gsl_blocks.specs.declared.around.Due.{Due}
use Rattle.gsl_blocks.specs.Around.{in_arm, in_body, in_continue, is_exit, is_id, needs_run}
use Rattle.gsl_blocks.specs.Order.{arm, run}
use Rattle.gsl_instr.specs.Forms.{form_of}
use Rattle.gsl_instr.specs.declared.instruction.Instruction.TheVariants as instruction
use Rattle.gsl_instr.specs.declared.op.TheConstants as op
use Rattle.gsl_tree.specs.Shapes.{flag}
use Rattle.gsl_words.specs.declared.module.Module.{Module}
use Rattle.gsl_valid.specs.EntryRules.{is_among}
use Rattle.gsl_valid.specs.Placed.{Code}
use Rattle.gsl_spv.specs.Calls as call
use Rattle.gsl_spv.specs.Declarations.{instr}
use Rattle.gsl_spv.specs.Finished.{module_of}
use Rattle.gsl_spv.specs.Growing.{Extends, all_of}
use Rattle.gsl_spv.specs.Sections.{Sections}
use Rattle.gsl_spv.specs.declared.refusal.TheConstants.{MOST_IDS}
use Rattle.gsl_spv.proofs.Extending.{extends_take, extends_then}
use Rattle.gsl_lower_law.proofs.Adding.{extends_put}
use Rattle.gsl_lower_values.specs.Building.{Made, Full}
use Rattle.gsl_lower_holders.specs.Flow.{Emit, Flow, Gives, Lacks, Lowered, behind, built_in, given as give, fresh, opening}
use Rattle.gsl_lower_stmt.specs.Parts.{LowerStmt, again_if, before_body, begin_loop, begin_step, behind_step, enter_body, enter_loop, five_labels, in_loop, looped, seal, stepped, turning as lowered_turn}
use Rattle.gsl_lower_stmt.specs.declared.exits.Exits.{Exits}
use Rattle.gsl_fitting.specs.Fits.{At, Behind, Fits, Frame, In, Sits, is_mark}
use Rattle.gsl_fitting_sections.specs.Sections.{AreApart}
use Rattle.gsl_fitting_shapes.proofs.Arms.{needs_none}
use Rattle.gsl_fitting_shapes.proofs.Labels.{body_ends, body_fresh, continue_back, continue_fresh, continue_turns, other}
use Rattle.gsl_fitting_steps.specs.Keeping.{IsOwed}
use Rattle.gsl_fitting_types.specs.Making.{AreSorted, IsTypeOf, made}
use Rattle.gsl_fitting_types.proofs.Knowing.{some_is}
use Rattle.gsl_fitting_types.proofs.Stepping.{sits_read}
use Rattle.gsl_fitting_flow.specs.Flowing.{EmitStays, IsLater, IsOf}
use Rattle.gsl_fitting_flow.proofs.Branching.{branch_sits, chosen_bridge, chosen_code, fork_sits, jump_leads, jumped, jumped_bridge, jumped_code, merge_sits}
use Rattle.gsl_fitting_flow.proofs.Following.{flow_same, later_then, none_taken}
use Rattle.gsl_fitting_flow.proofs.Owing.{AreOwed, Bridge, bridge_then, fine_all, label_bridge, label_marks, link_then, part_link, put_bridge, stays_all, taken_owed}
use Rattle.gsl_fitting_flow.proofs.Short.{behind_assoc, greater, with_last}
use Rattle.gsl_fitting_stmt.specs.Doing.{AreExits, AreLabels, Runs, StmtFlows, at_end}
use Rattle.gsl_fitting_loops.specs.Turning.{Drops, Turns}
use Rattle.gsl_fitting_stmt.proofs.Forking.{seal_leads, sealed, sealed_bridge, sealed_code, shut}
use Rattle.gsl_fitting_loops.proofs.Phases.{AreOthers, Marks, Next, PhaseFlows, PhaseStays, Way, Within, all_marks, next_of, no_others, phase_of, phase_stays_then, phase_then, same_phase, stands_last, value_phase, value_stays_then, way_then}

-- what a part of lowering gives
abbrev given_of : {A : Type 0} → Emit A → Type 0
given_of {A} part = A

abbrev LoopLabels : Type 0
LoopLabels = given_of begin_loop

-- ---- labels

abbrev l1 : ℕ → ℕ
l1 n = n + 1

abbrev l2 : ℕ → ℕ
l2 n = n + 1 + 1

abbrev l3 : ℕ → ℕ
l3 n = n + 1 + 1 + 1

abbrev l4 : ℕ → ℕ
l4 n = n + 1 + 1 + 1 + 1

abbrev l5 : ℕ → ℕ
l5 n = n + 1 + 1 + 1 + 1 + 1

abbrev labels_of : ℕ → LoopLabels
labels_of n = record { head = l1 n; first = l2 n; body = l3 n; next = l4 n; end = l5 n }

-- the label of the body, where it is put
abbrev mid_of : ℕ → Bool → Option (Emit ℕ) → List ℕ
mid_of n true test = []
mid_of n false None = []
mid_of n false (Some value) = l3 n ∷ []

abbrev last_two : ℕ → List ℕ
last_two n = l4 n ∷ l5 n ∷ []

abbrev ids_of : ℕ → Bool → Option (Emit ℕ) → List ℕ
ids_of n last test = l1 n ∷ l2 n ∷ (mid_of n last test ++ last_two n)

one_other : (a b : ℕ) → a < b → is_among (a ∷ []) b ≡ false
one_other a b lt = or_from (a == b) false (other a b lt) refl

two_other : (a b c : ℕ) → a < c → b < c → is_among (a ∷ b ∷ []) c ≡ false
two_other a b c lt lt' = or_from (a == c) _ (other a c lt) (one_other b c lt')

mid_others : (n : ℕ) (last : Bool) (test : Option (Emit ℕ)) → AreOthers (mid_of n last test) (last_two n)
mid_others n true test = (refl, (refl, tt))
mid_others n false None = (refl, (refl, tt))
mid_others n false (Some value) = (one_other (l3 n) (l4 n) (omega arith), (one_other (l3 n) (l5 n) (omega arith), tt))

entry_others : (n : ℕ) (last : Bool) (test : Option (Emit ℕ)) → AreOthers (l1 n ∷ l2 n ∷ []) (mid_of n last test ++ last_two n)
entry_others n true test = (two_other (l1 n) (l2 n) (l4 n) (omega arith) (omega arith), (two_other (l1 n) (l2 n) (l5 n) (omega arith) (omega arith), tt))
entry_others n false None = (two_other (l1 n) (l2 n) (l4 n) (omega arith) (omega arith), (two_other (l1 n) (l2 n) (l5 n) (omega arith) (omega arith), tt))
entry_others n false (Some value) =
    (two_other (l1 n) (l2 n) (l3 n) (omega arith) (omega arith), (two_other (l1 n) (l2 n) (l4 n) (omega arith) (omega arith), (two_other (l1 n) (l2 n) (l5 n) (omega arith) (omega arith), tt)))

owed_of : (s : Sections) (last : Bool) (test : Option (Emit ℕ)) → AreApart (s.last + 1) (all_of s) → AreOwed (record s { last = l5 s.last }) (ids_of s.last last test)
owed_of s last test apart = (one (l1 s.last) (omega arith) (omega arith), (one (l2 s.last) (omega arith) (omega arith), rest last test))
  where
    one : (id : ℕ) → s.last + 1 ≤ id → id ≤ l5 s.last → IsOwed (record s { last = l5 s.last }) id
    one id low high = taken_owed s id (l5 s.last) apart low high

    rest : (last : Bool) (test : Option (Emit ℕ)) → AreOwed (record s { last = l5 s.last }) (mid_of s.last last test ++ last_two s.last)
    rest true test = (one (l4 s.last) (omega arith) (omega arith), (one (l5 s.last) (omega arith) (omega arith), tt))
    rest false None = (one (l4 s.last) (omega arith) (omega arith), (one (l5 s.last) (omega arith) (omega arith), tt))
    rest false (Some value) = (one (l3 s.last) (omega arith) (omega arith), (one (l4 s.last) (omega arith) (omega arith), (one (l5 s.last) (omega arith) (omega arith), tt)))

old_others : (n : ℕ) (last : Bool) (test : Option (Emit ℕ)) (id : ℕ) → id ≤ n → is_among (ids_of n last test) id ≡ false
old_others n last test id low = or_from (l1 n == id) _ (greater (l1 n) id (omega (arith, low))) (or_from (l2 n == id) _ (greater (l2 n) id (omega (arith, low))) (rest last test))
  where
    two : is_among (last_two n) id ≡ false
    two = or_from (l4 n == id) _ (greater (l4 n) id (omega (arith, low))) (or_from (l5 n == id) false (greater (l5 n) id (omega (arith, low))) refl)

    rest : (last : Bool) (test : Option (Emit ℕ)) → is_among (mid_of n last test ++ last_two n) id ≡ false
    rest true test = two
    rest false None = two
    rest false (Some value) = or_from (l3 n == id) _ (greater (l3 n) id (omega (arith, low))) two

-- ---- where flows lead

abbrev merged : ℕ → Flow → Flow
merged n s = record { sections = call.put op.LOOP_MERGE (l5 n ∷ l4 n ∷ 0 ∷ []) s.sections; place = s.place }

abbrev started : Flow → Flow
started s = jumped (l1 s.sections.last) (l1 s.sections.last) (with_last (l5 s.sections.last) s)

abbrev entered : Flow → Flow
entered s = jumped (l2 s.sections.last) (l2 s.sections.last) (merged s.sections.last (started s))

abbrev entry_code : ℕ → Code
entry_code n = jumped_code (l1 n) (l1 n) ++ (instr op.LOOP_MERGE (l5 n ∷ l4 n ∷ 0 ∷ []) ∷ jumped_code (l2 n) (l2 n))

entry_bridge : (m : Module) (s : Flow) → Bridge m (entry_code s.sections.last) (l1 s.sections.last ∷ l2 s.sections.last ∷ []) (with_last (l5 s.sections.last) s).sections (entered s).sections
unfolding form_of
entry_bridge m s =
    let n = s.sections.last in
    bridge_then m (jumped_code (l1 n) (l1 n)) (instr op.LOOP_MERGE (l5 n ∷ l4 n ∷ 0 ∷ []) ∷ jumped_code (l2 n) (l2 n)) (l1 n ∷ []) (l2 n ∷ []) (with_last (l5 n) s).sections (started s).sections (entered s).sections (one_other (l1 n) (l2 n) (omega arith), tt) (jumped_bridge m (l1 n) (l1 n) (with_last (l5 n) s))
    (bridge_then m (instr op.LOOP_MERGE (l5 n ∷ l4 n ∷ 0 ∷ []) ∷ []) (jumped_code (l2 n) (l2 n)) [] (l2 n ∷ []) (started s).sections (merged n (started s)).sections (entered s).sections (refl, tt) (put_bridge m op.LOOP_MERGE (l5 n ∷ l4 n ∷ 0 ∷ []) (started s).sections refl)
    (jumped_bridge m (l2 n) (l2 n) (merged n (started s))))

wide : (s : Flow) → Extends s.sections (with_last (l5 s.sections.last) s).sections
wide s =
    let n = s.sections.last in
    extends_then (extends_take s.sections) (extends_then (extends_take (with_last (l1 n) s).sections) (extends_then (extends_take (with_last (l2 n) s).sections) (extends_then (extends_take (with_last (l3 n) s).sections) (extends_take (with_last (l4 n) s).sections))))

entered_later : (s : Flow) → IsLater s (entered s)
entered_later s = record { sections = extends_then (wide s) (entry_bridge (module_of s.sections 0 []) s).link.extends; place = refl }

pub fresh_by : {A : Type 0} (Q : Lowered A → Type 0) → Q Lacks → (s : Flow) (k : ℕ → Emit A) → Q (k (s.sections.last + 1) (with_last (s.sections.last + 1) s)) → Q (behind (fresh s) k)
fresh_by {A} Q lacks s k goes = by (nat_le (s.sections.last + 1) MOST_IDS)
  where
    by : (room : Bool) → Q (behind (built_in s.place (cond room (Made (s.sections.last + 1) (record s.sections { last = s.sections.last + 1 })) Full)) k)
    by true = goes
    by false = lacks

abbrev k5 : ℕ → ℕ → ℕ → ℕ → ℕ → Emit LoopLabels
k5 head first body next end = give (record { head = head; first = first; body = body; next = next; end = end })

abbrev k4 : ℕ → ℕ → ℕ → ℕ → Emit LoopLabels
k4 head first body next s = behind (fresh s) (k5 head first body next)

abbrev k3 : ℕ → ℕ → ℕ → Emit LoopLabels
k3 head first body s = behind (fresh s) (k4 head first body)

abbrev k2 : ℕ → ℕ → Emit LoopLabels
k2 head first s = behind (fresh s) (k3 head first)

abbrev k1 : ℕ → Emit LoopLabels
k1 head s = behind (fresh s) (k2 head)

five_by : {A : Type 0} (Q : Lowered A → Type 0) → Q Lacks → (s : Flow) (next : LoopLabels → Emit A) → Q (next (labels_of s.sections.last) (with_last (l5 s.sections.last) s)) → Q (behind (five_labels s) next)
unfolding five_labels
five_by {A} Q lacks s next goes =
    let n = s.sections.last in
    fresh_by (λ (lowered : Lowered LoopLabels). Q (behind lowered next)) lacks s k1
    (fresh_by (λ (lowered : Lowered LoopLabels). Q (behind lowered next)) lacks (with_last (l1 n) s) (k2 (l1 n))
    (fresh_by (λ (lowered : Lowered LoopLabels). Q (behind lowered next)) lacks (with_last (l2 n) s) (k3 (l1 n) (l2 n))
    (fresh_by (λ (lowered : Lowered LoopLabels). Q (behind lowered next)) lacks (with_last (l3 n) s) (k4 (l1 n) (l2 n) (l3 n))
    (fresh_by (λ (lowered : Lowered LoopLabels). Q (behind lowered next)) lacks (with_last (l4 n) s) (k5 (l1 n) (l2 n) (l3 n) (l4 n)) goes))))

begin_by : (P : Lowered (Unit {0}) → Type 0) → P Lacks → (s : Flow) (next : LoopLabels → Emit (Unit {0})) → P (next (labels_of s.sections.last) (entered s)) → P (behind (begin_loop s) next)
unfolding begin_loop enter_loop opening
begin_by P lacks s next goes = five_by (λ (lowered : Lowered LoopLabels). P (behind lowered next)) lacks s (λ l w. behind (enter_loop l w) (λ done. give l)) goes

-- ---- parts in their order

abbrev U : Type 0
U = Emit (Unit {0})

nest1 : (p : Lowered (Unit {0})) (d e : Emit (Unit {0})) → behind (behind p (λ x. d)) (λ x. e) ≡ behind p (λ x k. behind (d k) (λ y. e))
nest1 (Gives x k) d e = refl
nest1 Lacks d e = refl

nest2 : (p : Lowered (Unit {0})) (c d e : Emit (Unit {0})) → behind (behind p (λ x v. behind (c v) (λ y. d))) (λ z. e) ≡ behind p (λ x v. behind (c v) (λ y k. behind (d k) (λ z. e)))
nest2 (Gives x v) c d e = nest1 (c v) d e
nest2 Lacks c d e = refl

nest3 : (p : Lowered (Unit {0})) (b c d e : Emit (Unit {0})) → behind (behind p (λ x u. behind (b u) (λ y v. behind (c v) (λ z. d)))) (λ w. e) ≡ behind p (λ x u. behind (b u) (λ y v. behind (c v) (λ z k. behind (d k) (λ w. e))))
nest3 (Gives x u) b c d e = nest2 (b u) c d e
nest3 Lacks b c d e = refl

nest4 : (p : Lowered (Unit {0})) (a b c d e : Emit (Unit {0}))
    → behind (behind p (λ x t. behind (a t) (λ y u. behind (b u) (λ z v. behind (c v) (λ w. d))))) (λ o. e) ≡ behind p (λ x t. behind (a t) (λ y u. behind (b u) (λ z v. behind (c v) (λ w k. behind (d k) (λ o. e)))))
nest4 (Gives x t) a b c d e = nest3 (a t) b c d e
nest4 Lacks a b c d e = refl

abbrev fifth : ℕ → Bool → Option (Emit ℕ) → Emit (Unit {0})
fifth n last test v = behind (behind_step last test (labels_of n) v) (λ done. opening (l5 n))

abbrev fourth : ℕ → Bool → Option (Emit ℕ) → Option (Emit ℕ) → Emit (Unit {0})
fourth n last test step v = behind (stepped step v) (λ done. fifth n last test)

abbrev third : ℕ → Bool → Option (Emit ℕ) → Option (Emit ℕ) → Bool → Emit (Unit {0})
third n last test step left u = behind (begin_step (labels_of n) left u) (λ done. fourth n last test step)

abbrev second : ℕ → Bool → Option (Emit ℕ) → Option (Emit ℕ) → LowerStmt → Emit (Unit {0})
second n last test step body t = behind (body.run (in_loop (labels_of n)) t) (λ done. third n last test step body.leaves)

abbrev first : ℕ → Bool → Option (Emit ℕ) → Option (Emit ℕ) → LowerStmt → Emit (Unit {0})
first n last test step body s = behind (before_body last test (labels_of n) s) (λ done. second n last test step body)

first_is : (n : ℕ) (last : Bool) (test step : Option (Emit ℕ)) (body : LowerStmt) (s : Flow) → behind (lowered_turn last test step body (labels_of n) s) (λ done. opening (l5 n)) ≡ first n last test step body s
first_is n last test step body s = nest4 (before_body last test (labels_of n) s) (body.run (in_loop (labels_of n))) (begin_step (labels_of n) body.leaves) (stepped step) (behind_step last test (labels_of n)) (opening (l5 n))

step_gives : (n : ℕ) (left : Bool) (u : Flow) → begin_step (labels_of n) left u ≡ Gives tt (sealed left (l4 n) (l4 n) u)
unfolding begin_step opening seal
step_gives n true u = refl
step_gives n false u = refl

-- ---- what stays

abbrev ValueStays : Option (Emit ℕ) → Type 0
ValueStays None = Unit {0}
ValueStays (Some value) = (u : Flow) → EmitStays u (value u)

abbrev closed : ℕ → ℕ → Flow → Flow
closed n x w = record { sections = call.put op.LABEL (l5 n ∷ []) (call.put op.BRANCH_CONDITIONAL (x ∷ l1 n ∷ l5 n ∷ []) w.sections); place = record w.place { label = l5 n } }

abbrev closed_code : ℕ → ℕ → Code
closed_code n x = instr op.BRANCH_CONDITIONAL (x ∷ l1 n ∷ l5 n ∷ []) ∷ instr op.LABEL (l5 n ∷ []) ∷ []

closed_bridge : (m : Module) (n x : ℕ) (w : Flow) → Bridge m (closed_code n x) (l5 n ∷ []) w.sections (closed n x w).sections
unfolding form_of
closed_bridge m n x w =
    let b = call.put op.BRANCH_CONDITIONAL (x ∷ l1 n ∷ l5 n ∷ []) w.sections in
    bridge_then m (instr op.BRANCH_CONDITIONAL (x ∷ l1 n ∷ l5 n ∷ []) ∷ []) (instr op.LABEL (l5 n ∷ []) ∷ []) [] (l5 n ∷ []) w.sections b (closed n x w).sections (refl, tt) (put_bridge m op.BRANCH_CONDITIONAL (x ∷ l1 n ∷ l5 n ∷ []) w.sections refl) (label_bridge m (l5 n) b)

closed_stays : (n x : ℕ) (w : Flow) → PhaseStays (l5 n ∷ []) w (behind (again_if (labels_of n) x w) (λ done. opening (l5 n)))
unfolding again_if opening
closed_stays n x w = record { link = (closed_bridge (module_of w.sections 0 []) n x w).link; place = refl; used = omega arith; labels = (stands_last (l5 n) (call.put op.BRANCH_CONDITIONAL (x ∷ l1 n ∷ l5 n ∷ []) w.sections), tt) }

back_stays : (n : ℕ) (v : Flow) → Next (l5 n ∷ []) v (jumped (l1 n) (l5 n) v)
back_stays n v = record { link = (jumped_bridge (module_of v.sections 0 []) (l1 n) (l5 n) v).link; place = refl; used = omega arith; labels = (stands_last (l5 n) (call.put op.BRANCH (l1 n ∷ []) v.sections), tt) }

fifth_stays : (n : ℕ) (last : Bool) (test : Option (Emit ℕ)) (v : Flow) → ValueStays test → PhaseStays (l5 n ∷ []) v (fifth n last test v)
unfolding opening
fifth_stays n false test v stays = back_stays n v
fifth_stays n true None v stays = back_stays n v
fifth_stays n true (Some value) v stays =
    subst (λ lowered. PhaseStays (l5 n ∷ []) v lowered) (sym (behind_assoc (value v) (again_if (labels_of n)) (λ done. opening (l5 n))))
    (value_stays_then (l5 n ∷ []) v (value v) (λ x w. behind (again_if (labels_of n) x w) (λ done. opening (l5 n))) (stays v) (λ x w. closed_stays n x w))

step_stays : (step : Option (Emit ℕ)) (v : Flow) → ValueStays step → PhaseStays [] v (stepped step v)
step_stays None v stays = next_of v v (flow_same v)
step_stays (Some value) v stays = value_stays_then [] v (value v) (λ x. give tt) (stays v) (λ x w. next_of w w (flow_same w))

fourth_stays : (n : ℕ) (last : Bool) (test step : Option (Emit ℕ)) (v : Flow) → ValueStays test → ValueStays step → PhaseStays (l5 n ∷ []) v (fourth n last test step v)
fourth_stays n last test step v tests steps = phase_stays_then [] (l5 n ∷ []) v (stepped step v) (fifth n last test) (no_others (l5 n ∷ [])) (step_stays step v steps) (λ w. fifth_stays n last test w tests)

begin_stays : (n : ℕ) (left : Bool) (u : Flow) → PhaseStays (l4 n ∷ []) u (begin_step (labels_of n) left u)
begin_stays n left u =
    subst (λ lowered. PhaseStays (l4 n ∷ []) u lowered) (sym (step_gives n left u)) (record { link = (sealed_bridge (module_of u.sections 0 []) left (l4 n) (l4 n) u).link; place = refl; used = omega arith; labels = (stands_last (l4 n) (shut left (l4 n) u.sections), tt) })

third_stays : (n : ℕ) (last : Bool) (test step : Option (Emit ℕ)) (left : Bool) (u : Flow) → ValueStays test → ValueStays step → PhaseStays (last_two n) u (third n last test step left u)
third_stays n last test step left u tests steps =
    phase_stays_then (l4 n ∷ []) (l5 n ∷ []) u (begin_step (labels_of n) left u) (fourth n last test step) (one_other (l4 n) (l5 n) (omega arith), tt) (begin_stays n left u) (λ v. fourth_stays n last test step v tests steps)

second_stays : (n : ℕ) (last : Bool) (test step : Option (Emit ℕ)) (body : LowerStmt) (t : Flow) → ValueStays test → ValueStays step → ((u : Flow) → EmitStays u (body.run (in_loop (labels_of n)) u)) → PhaseStays (last_two n) t (second n last test step body t)
second_stays n last test step body t tests steps stays =
    phase_stays_then [] (last_two n) t (body.run (in_loop (labels_of n)) t) (third n last test step body.leaves) (no_others (last_two n)) (phase_of t (body.run (in_loop (labels_of n)) t) (stays t)) (λ u. third_stays n last test step body.leaves u tests steps)

enter_stays : (n x : ℕ) (u : Flow) → PhaseStays (l3 n ∷ []) u (enter_body (labels_of n) x u)
unfolding enter_body opening
enter_stays n x u = record {
  link = (chosen_bridge (module_of u.sections 0 []) (l3 n) (x ∷ l3 n ∷ l5 n ∷ []) (l3 n) u).link;
  place = refl;
  used = omega arith;
  labels = (stands_last (l3 n) (call.put op.BRANCH_CONDITIONAL (x ∷ l3 n ∷ l5 n ∷ []) (call.put op.SELECTION_MERGE (l3 n ∷ 0 ∷ []) u.sections)), tt);
}

before_stays : (n : ℕ) (last : Bool) (test : Option (Emit ℕ)) (t : Flow) → ValueStays test → PhaseStays (mid_of n last test) t (before_body last test (labels_of n) t)
before_stays n true test t stays = next_of t t (flow_same t)
before_stays n false None t stays = next_of t t (flow_same t)
before_stays n false (Some value) t stays = value_stays_then (l3 n ∷ []) t (value t) (enter_body (labels_of n)) (stays t) (λ x u. enter_stays n x u)

first_stays : (n : ℕ) (last : Bool) (test step : Option (Emit ℕ)) (body : LowerStmt) (t : Flow) → ValueStays test → ValueStays step → ((u : Flow) → EmitStays u (body.run (in_loop (labels_of n)) u)) → PhaseStays (mid_of n last test ++ last_two n) t (first n last test step body t)
first_stays n last test step body t tests steps stays =
    phase_stays_then (mid_of n last test) (last_two n) t (before_body last test (labels_of n) t) (second n last test step body) (mid_others n last test) (before_stays n last test t tests) (λ u. second_stays n last test step body u tests steps stays)

whole_stays : (s : Flow) (last : Bool) (test : Option (Emit ℕ)) (lowered : Lowered (Unit {0})) → PhaseStays (mid_of s.sections.last last test ++ last_two s.sections.last) (entered s) lowered → EmitStays s lowered
whole_stays s last test (Gives done v) x = record {
  sections =
      stays_all (ids_of s.sections.last last test) s.sections v.sections (l5 s.sections.last) (omega arith)
      (link_then (l1 s.sections.last ∷ l2 s.sections.last ∷ []) (mid_of s.sections.last last test ++ last_two s.sections.last) (with_last (l5 s.sections.last) s).sections (entered s).sections v.sections (entry_others s.sections.last last test) (entry_bridge (module_of s.sections 0 []) s).link x.link)
      (owed_of s.sections last test) (λ id low. old_others s.sections.last last test id low);
  place = x.place;
  used = x.used;
}
whole_stays s last test Lacks x = tt

module _ (whole : Sections) (main : ℕ) (local_size : List ℕ) (rank : ℕ → ℕ) (f : Frame) (sorted : AreSorted whole) where
  abbrev m : Module
  m = made whole main local_size rank f

  abbrev F : ℕ → ℕ → List ℕ → List ℕ → (Around → List Due → At) → (Flow → List ℕ → Around → List Due → At) → Flow → Lowered (Unit {0}) → Type 0
  F n inner asks ids from to before lowered = PhaseFlows whole main local_size rank f sorted n inner asks ids from to before lowered

  abbrev S : List ℕ → ℕ → Bool → Exits → List ℕ → Flow → Lowered (Unit {0}) → Type 0
  S asks deep leaves exits given before lowered = StmtFlows whole main local_size rank f asks deep leaves exits given before lowered

  -- ---- runs

  abbrev B : ℕ → Around → Around
  B n c = in_body c (l5 n) (l4 n)

  abbrev C : ℕ → Around → Around
  C n c = in_continue c (l1 n) (l5 n)

  abbrev E : ℕ → Around → List Due → List Due
  E n c due = run (l5 n) c ∷ due

  abbrev D : ℕ → Around → List Due → List Due
  D n c due = run (l4 n) (C n c) ∷ E n c due

  abbrev in_b : ℕ → ℕ → ℕ → List ℕ → Around → List Due → At
  in_b n inner label given = λ c due. In label (B n c) given (D n c due)

  abbrev in_c : ℕ → ℕ → ℕ → List ℕ → Around → List Due → At
  in_c n inner label given = λ c due. In label (C n c) given (E n c due)

  abbrev to_b : ℕ → ℕ → Flow → List ℕ → Around → List Due → At
  to_b n inner v now = in_b n inner v.place.label now

  abbrev to_c : ℕ → ℕ → Flow → List ℕ → Around → List Due → At
  to_c n inner v now = in_c n inner v.place.label now

  abbrev to_end : Flow → List ℕ → Around → List Due → At
  to_end v now = λ c due. In v.place.label c now due

  body_within : (n inner : ℕ) → Within whole main local_size rank f sorted n inner (B n)
  body_within n inner = record { fresh = λ c last new high. body_fresh c (last + 1) (l5 n) (l4 n) (omega (arith, high)) (omega (arith, high)); depth = λ c. refl }

  continue_within : (n inner : ℕ) → Within whole main local_size rank f sorted n inner (C n)
  continue_within n inner = record { fresh = λ c last new high. continue_fresh c (last + 1) (l1 n) (l5 n) (omega (arith, high)); depth = λ c. refl }

  end_exits : (n : ℕ) (c : Around) → is_exit (B n c) (l5 n) ≡ true
  end_exits n c = or_left _ _ (or_left _ _ (eq-eqb (l5 n) (l5 n) refl))

  body_leads : (n : ℕ) (c : Around) → AreExits (B n c) (in_loop (labels_of n))
  body_leads n c = record { breaks = λ label e. subst (λ z. is_exit (B n c) z ≡ true) (some_is (l5 n) label e) (end_exits n c); continues = λ label e. subst (λ z. is_id (Some (l4 n)) z ≡ true) (some_is (l4 n) label e) (eq-eqb (l4 n) (l4 n) refl) }

  -- ---- into the loop

  loop_sits : (given : List ℕ) (end next : ℕ) → is_mark m end ≡ true → is_mark m next ≡ true → Sits m rank f given (instr op.LOOP_MERGE (end ∷ next ∷ 0 ∷ []))
  unfolding form_of
  loop_sits given end next one two = sits_read whole main local_size rank f given (instr op.LOOP_MERGE (end ∷ next ∷ 0 ∷ [])) (instruction.LoopMerge end next 0) refl refl refl (and_from _ _ one (and_from _ _ two refl)) refl refl refl refl refl tt

  entry_way : (s : Flow) (inner : ℕ) (given : List ℕ) → (l1 s.sections.last == f.first) ≡ false → Marks whole main local_size rank f sorted s.sections.last
      → Way whole main local_size rank f sorted s.sections.last inner (l1 s.sections.last ∷ l2 s.sections.last ∷ []) (with_last (l5 s.sections.last) s) (entered s) (λ c due. In s.place.label c given due) (in_b s.sections.last inner (l2 s.sections.last) [])
  unfolding form_of
  entry_way s inner given differs marks = record {
    code = entry_code s.sections.last;
    bridge = entry_bridge m s;
    fits = λ c due new may low follows h.
        Fits.leads (l1 s.sections.last) refl (new.ends (l1 s.sections.last) (omega arith)) (branch_sits whole main local_size rank f sorted given (l1 s.sections.last) marks.head)
        (Fits.opens refl
        (Fits.loops (l5 s.sections.last) (l4 s.sections.last) (l2 s.sections.last) refl refl differs (omega (arith, low)) (loop_sits [] (l5 s.sections.last) (l4 s.sections.last) marks.end marks.next) (branch_sits whole main local_size rank f sorted [] (l2 s.sections.last) marks.first) (Fits.opens refl h)));
  }

  -- ---- a test before the body

  enter_flows : (n inner x truth : ℕ) (now : List ℕ) (u : Flow) → 1 ≤ inner → IsTypeOf whole flag truth → IsOf whole main local_size rank f now truth x → F n inner [] (l3 n ∷ []) (in_b n inner u.place.label now) (to_b n inner) u (enter_body (labels_of n) x u)
  unfolding enter_body opening form_of
  enter_flows n inner x truth now u nests of value = λ inside marks hold.
      let mark = label_marks whole main local_size rank f sorted (l3 n) (call.put op.BRANCH_CONDITIONAL (x ∷ l3 n ∷ l5 n ∷ []) (call.put op.SELECTION_MERGE (l3 n ∷ 0 ∷ []) u.sections)) inside in
      record {
        now = [];
        way = record {
          code = chosen_code (l3 n) (x ∷ l3 n ∷ l5 n ∷ []) (l3 n);
          bridge = chosen_bridge m (l3 n) (x ∷ l3 n ∷ l5 n ∷ []) (l3 n) u;
          fits = λ c due new may low follows h.
              Fits.selects (l3 n) (l3 n) (l5 n) refl refl (or_right _ _ (not_from_false _ (needs_none (B n c) (l3 n)))) (omega (arith, nests, low)) (merge_sits whole main local_size rank f sorted now (l3 n) mark) (fork_sits whole main local_size rank f sorted now x truth (l3 n) (l5 n) of value mark marks.end)
              (subst (λ ds. Fits m rank f (instr op.LABEL (l3 n ∷ []) ∷ follows) (Behind ds)) (sym (nothing c due)) (Fits.opens refl h));
        };
        taken = none_taken whole main local_size rank f u.place.used;
      }
    where
      none : (c : Around) → needs_run (B n c) (l3 n) (l5 n) ≡ false
      none c = not_from_true _ (or_right (l5 n == l3 n) _ (end_exits n c))

      nothing : (c : Around) (due : List Due) → arm (B n c) (l3 n) (l3 n) (arm (B n c) (l3 n) (l5 n) (run (l3 n) (B n c) ∷ D n c due)) ≡ run (l3 n) (B n c) ∷ D n c due
      nothing c due =
          ap (λ b. cond b (run (l3 n) (in_arm (B n c) (l3 n)) ∷ arm (B n c) (l3 n) (l5 n) (run (l3 n) (B n c) ∷ D n c due)) (arm (B n c) (l3 n) (l5 n) (run (l3 n) (B n c) ∷ D n c due))) (needs_none (B n c) (l3 n))
          ∙ ap (λ b. cond b (run (l5 n) (in_arm (B n c) (l3 n)) ∷ run (l3 n) (B n c) ∷ D n c due) (run (l3 n) (B n c) ∷ D n c due)) (none c)

  before_flows : (n inner : ℕ) (s : Flow) (last : Bool) (test : Option (Emit ℕ)) (firsts lasts : List ℕ) (t : Flow) → l5 n ≤ t.sections.last → IsLater s t → Turns whole main local_size rank f s inner last test firsts lasts → F n inner firsts (mid_of n last test) (in_b n inner t.place.label []) (to_b n inner) t (before_body last test (labels_of n) t)
  before_flows n inner s true _ _ _ t high here Turns.untested = same_phase whole main local_size rank f sorted n inner (B n) (D n) (body_within n inner) [] t high
  before_flows n inner s false _ _ _ t high here Turns.untested = same_phase whole main local_size rank f sorted n inner (B n) (D n) (body_within n inner) [] t high
  before_flows n inner s _ _ _ _ t high here (Turns.tested_first {asks} {splits} {truth} {value} of e nests) =
      value_phase whole main local_size rank f sorted n inner asks (l3 n ∷ []) splits [] truth (B n) (D n) (body_within n inner) (to_b n inner) t (value t) (enter_body (labels_of n)) high (e.stays t) (e.flows [] t here) (λ x u. enter_stays n x u)
      (λ x u now is later. enter_flows n inner x truth now u nests of is)
  before_flows n inner s _ _ _ _ t high here (Turns.tested_last {asks} {splits} {truth} {value} of e) = same_phase whole main local_size rank f sorted n inner (B n) (D n) (body_within n inner) [] t high

  -- ---- the body

  abbrev to_left : ℕ → ℕ → Bool → Flow → List ℕ → Around → List Due → At
  to_left n inner left u now = λ c due. at_end left u.place.label (B n c) now (D n c due)

  body_flows : (n inner : ℕ) (asks : List ℕ) (left : Bool) (given : List ℕ) (t : Flow) (lowered : Lowered (Unit {0})) → l5 n ≤ t.sections.last → EmitStays t lowered → S asks inner left (in_loop (labels_of n)) given t lowered → F n inner asks [] (in_b n inner t.place.label given) (to_left n inner left) t lowered
  body_flows n inner asks left given t (Gives done u) high stays flows = λ inside marks hold.
      let labels : AreLabels m (in_loop (labels_of n)) = record { breaks = λ label e. subst (λ z. is_mark m z ≡ true) (some_is (l5 n) label e) marks.end; continues = λ label e. subst (λ z. is_mark m z ≡ true) (some_is (l4 n) label e) marks.next } in
      let p = flows inside labels hold in
      record {
        now = p.now;
        way = record {
          code = p.passes.code;
          bridge = record { link = part_link t.sections u.sections stays.sections; puts = p.passes.puts; fine = λ o h. p.passes.fine h };
          fits = λ c due new may low follows h. p.passes.fits follows (B n c) (D n c due) ((body_within n inner).fresh c t.sections.last new high) (body_leads n c) may (omega (arith, low)) h;
        };
        taken = p.taken;
      }
  body_flows n inner asks left given t Lacks high stays flows = tt

  begin_flows : (n inner : ℕ) (left : Bool) (given : List ℕ) (u : Flow) → F n inner [] (l4 n ∷ []) (to_left n inner left u given) (to_c n inner) u (begin_step (labels_of n) left u)
  begin_flows n inner left given u =
      subst (λ lowered. F n inner [] (l4 n ∷ []) (to_left n inner left u given) (to_c n inner) u lowered) (sym (step_gives n left u))
      (λ inside marks hold. record {
        now = [];
        way = record {
          code = sealed_code left (l4 n) (l4 n);
          bridge = sealed_bridge m left (l4 n) (l4 n) u;
          fits = λ c due new may low. seal_leads whole main local_size rank f sorted left given (l4 n) (l4 n) u.place.label (B n c) (C n c) (E n c due) marks.next (body_ends c (l5 n) (l4 n));
        };
        taken = none_taken whole main local_size rank f u.place.used;
      })

  -- ---- the step

  step_flows : (n inner : ℕ) (s : Flow) (step : Option (Emit ℕ)) (steps given : List ℕ) (v : Flow) → l5 n ≤ v.sections.last → IsLater s v → Drops whole main local_size rank f s inner step steps → F n inner steps [] (in_c n inner v.place.label given) (to_c n inner) v (stepped step v)
  step_flows n inner s _ _ given v high here Drops.no_value = same_phase whole main local_size rank f sorted n inner (C n) (E n) (continue_within n inner) given v high
  step_flows n inner s _ _ given v high here (Drops.one_value {asks} {splits} {type} {value} e) =
      value_phase whole main local_size rank f sorted n inner asks [] splits given type (C n) (E n) (continue_within n inner) (to_c n inner) v (value v) (λ x. give tt) high (e.stays v) (e.flows given v here) (λ x w. next_of w w (flow_same w))
      (λ x w now is later. same_phase whole main local_size rank f sorted n inner (C n) (E n) (continue_within n inner) now w (let more = later.sections.last in omega (arith, high, more)))

  -- ---- back

  back_flows : (n inner : ℕ) (given : List ℕ) (v : Flow) → F n inner [] (l5 n ∷ []) (in_c n inner v.place.label given) to_end v (Gives tt (jumped (l1 n) (l5 n) v))
  back_flows n inner given v = λ inside marks hold. record {
    now = [];
    way = record {
      code = jumped_code (l1 n) (l5 n);
      bridge = jumped_bridge m (l1 n) (l5 n) v;
      fits = λ c due new may low. jump_leads whole main local_size rank f sorted given (l1 n) (l5 n) v.place.label (C n c) c due marks.head (continue_back c (l1 n) (l5 n));
    };
    taken = none_taken whole main local_size rank f v.place.used;
  }

  closed_flows : (n inner x truth : ℕ) (now : List ℕ) (w : Flow) → IsTypeOf whole flag truth → IsOf whole main local_size rank f now truth x → F n inner [] (l5 n ∷ []) (in_c n inner w.place.label now) to_end w (behind (again_if (labels_of n) x w) (λ done. opening (l5 n)))
  unfolding again_if opening form_of
  closed_flows n inner x truth now w of value = λ inside marks hold. record {
    now = [];
    way = record {
      code = closed_code n x;
      bridge = closed_bridge m n x w;
      fits = λ c due new may low follows h. Fits.turns (l1 n) (l5 n) refl (continue_turns c (l1 n) (l5 n)) (fork_sits whole main local_size rank f sorted now x truth (l1 n) (l5 n) of value marks.head marks.end) (Fits.opens refl h);
    };
    taken = none_taken whole main local_size rank f w.place.used;
  }

  fifth_flows : (n inner : ℕ) (s : Flow) (last : Bool) (test : Option (Emit ℕ)) (firsts lasts given : List ℕ) (v : Flow) → l5 n ≤ v.sections.last → IsLater s v → Turns whole main local_size rank f s inner last test firsts lasts → F n inner lasts (l5 n ∷ []) (in_c n inner v.place.label given) to_end v (fifth n last test v)
  unfolding opening
  fifth_flows n inner s true _ _ _ given v high here Turns.untested = back_flows n inner given v
  fifth_flows n inner s false _ _ _ given v high here Turns.untested = back_flows n inner given v
  fifth_flows n inner s _ _ _ _ given v high here (Turns.tested_first {asks} {splits} {truth} {value} of e nests) = back_flows n inner given v
  fifth_flows n inner s _ _ _ _ given v high here (Turns.tested_last {asks} {splits} {truth} {value} of e) =
      subst (λ lowered. F n inner asks (l5 n ∷ []) (in_c n inner v.place.label given) to_end v lowered) (sym (behind_assoc (value v) (again_if (labels_of n)) (λ done. opening (l5 n))))
      (value_phase whole main local_size rank f sorted n inner asks (l5 n ∷ []) splits given truth (C n) (E n) (continue_within n inner) to_end v (value v) (λ x w. behind (again_if (labels_of n) x w) (λ done. opening (l5 n))) high (e.stays v) (e.flows given v here) (λ x w. closed_stays n x w)
      (λ x w now is later. closed_flows n inner x truth now w of is))

  -- ---- in their order

  abbrev T : Flow → ℕ → Bool → Option (Emit ℕ) → List ℕ → List ℕ → Type 0
  T s inner last test firsts lasts = Turns whole main local_size rank f s inner last test firsts lasts

  abbrev K : Flow → ℕ → Option (Emit ℕ) → List ℕ → Type 0
  K s inner step steps = Drops whole main local_size rank f s inner step steps

  tests_stay : (s : Flow) (inner : ℕ) (last : Bool) (test : Option (Emit ℕ)) (firsts lasts : List ℕ) → T s inner last test firsts lasts → ValueStays test
  tests_stay s inner _ _ _ _ Turns.untested = tt
  tests_stay s inner _ _ _ _ (Turns.tested_first of e nests) = λ u. e.stays u
  tests_stay s inner _ _ _ _ (Turns.tested_last of e) = λ u. e.stays u

  steps_stay : (s : Flow) (inner : ℕ) (step : Option (Emit ℕ)) (steps : List ℕ) → K s inner step steps → ValueStays step
  steps_stay s inner _ _ Drops.no_value = tt
  steps_stay s inner _ _ (Drops.one_value e) = λ u. e.stays u

  module _ (s : Flow) (inner : ℕ) (last : Bool) (test step : Option (Emit ℕ)) (body : LowerStmt) (firsts asks steps lasts : List ℕ) (tests : T s inner last test firsts lasts) (drops : K s inner step steps) (runs : (exits : Exits) → Runs whole main local_size rank f s asks inner body.leaves exits (body.run exits)) where
    fourth_flows : (n : ℕ) (given : List ℕ) (v : Flow) → l5 n ≤ v.sections.last → IsLater s v → F n inner (steps ++ lasts) (l5 n ∷ []) (in_c n inner v.place.label given) to_end v (fourth n last test step v)
    fourth_flows n given v high here =
        phase_then whole main local_size rank f sorted n inner steps lasts [] (l5 n ∷ []) (in_c n inner v.place.label given) (to_c n inner) to_end v (stepped step v) (fifth n last test) (no_others (l5 n ∷ [])) (step_stays step v (steps_stay s inner step steps drops)) (step_flows n inner s step steps given v high here drops)
        (λ w. fifth_stays n last test w (tests_stay s inner last test firsts lasts tests)) (λ w now later. fifth_flows n inner s last test firsts lasts now w (let more = later.sections.last in omega (arith, high, more)) (later_then s v w here later) tests)

    third_flows : (n : ℕ) (given : List ℕ) (u : Flow) → l5 n ≤ u.sections.last → IsLater s u → F n inner (steps ++ lasts) (last_two n) (to_left n inner body.leaves u given) to_end u (third n last test step body.leaves u)
    third_flows n given u high here =
        phase_then whole main local_size rank f sorted n inner [] (steps ++ lasts) (l4 n ∷ []) (l5 n ∷ []) (to_left n inner body.leaves u given) (to_c n inner) to_end u (begin_step (labels_of n) body.leaves u) (fourth n last test step) (one_other (l4 n) (l5 n) (omega arith), tt) (begin_stays n body.leaves u)
        (begin_flows n inner body.leaves given u) (λ v. fourth_stays n last test step v (tests_stay s inner last test firsts lasts tests) (steps_stay s inner step steps drops))
        (λ v now later. fourth_flows n now v (let more = later.sections.last in omega (arith, high, more)) (later_then s u v here later))

    second_flows : (n : ℕ) (given : List ℕ) (t : Flow) → l5 n ≤ t.sections.last → IsLater s t → F n inner (asks ++ (steps ++ lasts)) (last_two n) (in_b n inner t.place.label given) to_end t (second n last test step body t)
    second_flows n given t high here =
        let r = runs (in_loop (labels_of n)) in
        phase_then whole main local_size rank f sorted n inner asks (steps ++ lasts) [] (last_two n) (in_b n inner t.place.label given) (to_left n inner body.leaves) to_end t (body.run (in_loop (labels_of n)) t) (third n last test step body.leaves) (no_others (last_two n))
        (phase_of t (body.run (in_loop (labels_of n)) t) (r.stays t)) (body_flows n inner asks body.leaves given t (body.run (in_loop (labels_of n)) t) high (r.stays t) (r.flows given t here))
        (λ u. third_stays n last test step body.leaves u (tests_stay s inner last test firsts lasts tests) (steps_stay s inner step steps drops)) (λ u now later. third_flows n now u (let more = later.sections.last in omega (arith, high, more)) (later_then s t u here later))

    first_flows : (n : ℕ) (t : Flow) → l5 n ≤ t.sections.last → IsLater s t → F n inner (firsts ++ (asks ++ (steps ++ lasts))) (mid_of n last test ++ last_two n) (in_b n inner t.place.label []) to_end t (first n last test step body t)
    first_flows n t high here =
        phase_then whole main local_size rank f sorted n inner firsts (asks ++ (steps ++ lasts)) (mid_of n last test) (last_two n) (in_b n inner t.place.label []) (to_b n inner) to_end t (before_body last test (labels_of n) t) (second n last test step body) (mid_others n last test)
        (before_stays n last test t (tests_stay s inner last test firsts lasts tests)) (before_flows n inner s last test firsts lasts t high here tests)
        (λ u. second_stays n last test step body u (tests_stay s inner last test firsts lasts tests) (steps_stay s inner step steps drops) (runs (in_loop (labels_of n))).stays) (λ u now later. second_flows n now u (let more = later.sections.last in omega (arith, high, more)) (later_then s t u here later))

  -- ---- the whole

  two_marks : (n : ℕ) (last : Bool) (test : Option (Emit ℕ)) → AllByRecursion (λ id. is_mark m id ≡ true) (mid_of n last test ++ last_two n) → (is_mark m (l4 n) ≡ true) × (is_mark m (l5 n) ≡ true)
  two_marks n true test h = (h.0, h.1.0)
  two_marks n false None h = (h.0, h.1.0)
  two_marks n false (Some value) h = (h.1.0, h.1.1.0)

  whole_flows : (u : Flow) (inner : ℕ) (last : Bool) (test : Option (Emit ℕ)) (exits : Exits) (asks given : List ℕ) (lowered : Lowered (Unit {0})) → f.first ≤ u.sections.last → PhaseStays (mid_of u.sections.last last test ++ last_two u.sections.last) (entered u) lowered
      → F u.sections.last inner asks (mid_of u.sections.last last test ++ last_two u.sections.last) (in_b u.sections.last inner (l2 u.sections.last) []) to_end (entered u) lowered → S asks (suc inner) false exits given u lowered
  whole_flows u inner last test exits asks given (Gives done v) older x flows = λ inside labels hold.
      let n = u.sections.last in
      let between : Extends (entered u).sections whole = extends_then x.link.extends inside in
      let half : Extends (started u).sections whole = extends_then (extends_put op.LOOP_MERGE (l5 n ∷ l4 n ∷ 0 ∷ []) (started u).sections) (extends_then (jumped_bridge (module_of u.sections 0 []) (l2 n) (l2 n) (merged n (started u))).link.extends between) in
      let two = two_marks n last test (all_marks whole main local_size rank f sorted v.sections (mid_of n last test ++ last_two n) inside x.labels) in
      let marks : Marks whole main local_size rank f sorted n = record {
        head = label_marks whole main local_size rank f sorted (l1 n) (call.put op.BRANCH (l1 n ∷ []) (with_last (l5 n) u).sections) half;
        first = label_marks whole main local_size rank f sorted (l2 n) (call.put op.BRANCH (l2 n ∷ []) (merged n (started u)).sections) between;
        next = two.0;
        end = two.1;
      } in
      let y = flows inside marks hold in
      let way =
      way_then whole main local_size rank f sorted n inner (l1 n ∷ l2 n ∷ []) (mid_of n last test ++ last_two n) (with_last (l5 n) u) (entered u) v (λ c due. In u.place.label c given due) (in_b n inner (l2 n) []) (to_end v y.now) (entry_others n last test)
      (entry_way u inner given (greater (l1 n) f.first (omega (arith, older))) marks) y.way
      in
      record {
        now = y.now;
        passes = record {
          fine = fine_all m way.code (ids_of n last test) u.sections v.sections (l5 n) (omega arith) way.bridge (owed_of u.sections last test);
          code = way.code;
          puts = way.bridge.puts;
          fits = λ follows c due new leads may low h. way.fits c due new may low follows h;
        };
        taken = y.taken;
      }
  whole_flows u inner last test exits asks given Lacks older x flows = tt

  pub loop_runs : (s : Flow) (inner : ℕ) (last : Bool) (test step : Option (Emit ℕ)) (body : LowerStmt) (firsts asks steps lasts : List ℕ) (exits : Exits) → f.first ≤ s.sections.last → T s inner last test firsts lasts → K s inner step steps
      → ((exits : Exits) → Runs whole main local_size rank f s asks inner body.leaves exits (body.run exits)) → Runs whole main local_size rank f s (firsts ++ (asks ++ (steps ++ lasts))) (suc inner) false exits (looped last test step body)
  loop_runs s inner last test step body firsts asks steps lasts exits older tests drops runs = record {
    stays = λ u.
        begin_by (λ lowered. EmitStays u lowered) tt u (λ l t. behind (lowered_turn last test step body l t) (λ done. opening l.end))
        (subst (λ lowered. EmitStays u lowered) (sym (first_is u.sections.last last test step body (entered u)))
        (whole_stays u last test (first u.sections.last last test step body (entered u))
        (first_stays u.sections.last last test step body (entered u) (tests_stay s inner last test firsts lasts tests) (steps_stay s inner step steps drops) (runs (in_loop (labels_of u.sections.last))).stays)));
    flows = λ given u here.
        begin_by (λ lowered. S (firsts ++ (asks ++ (steps ++ lasts))) (suc inner) false exits given u lowered) tt u (λ l t. behind (lowered_turn last test step body l t) (λ done. opening l.end))
        (subst (λ lowered. S (firsts ++ (asks ++ (steps ++ lasts))) (suc inner) false exits given u lowered) (sym (first_is u.sections.last last test step body (entered u)))
        (whole_flows u inner last test exits (firsts ++ (asks ++ (steps ++ lasts))) given (first u.sections.last last test step body (entered u)) (let more = here.sections.last in omega (arith, older, more))
        (first_stays u.sections.last last test step body (entered u) (tests_stay s inner last test firsts lasts tests) (steps_stay s inner step steps drops) (runs (in_loop (labels_of u.sections.last))).stays)
        (first_flows s inner last test step body firsts asks steps lasts tests drops runs u.sections.last (entered u) (omega arith) (later_then s u (entered u) here (entered_later u)))));
  }
