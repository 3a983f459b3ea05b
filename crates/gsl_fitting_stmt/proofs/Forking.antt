-- `if`: two statements in blocks of their own, behind which code goes on.
use Rattle.std.proofs.Common.{◌≡◌, ℕ, ◌+◌, ◌<◌, ◌≤◌, Bool, true, false, cond, List, [], ◌∷◌, ◌++◌, length, refl, sym, ap, ◌∙◌, subst, suc, arith}
use Rattle.std.specs.Prelude.{nat_le}
use Rattle.std.proofs.lemmas.List.{length-append}
use Rattle.gsl_blocks.specs.declared.around.Around.{Around}
use Rattle.gsl_blocks.specs.declared.around.Due.{Due}
use Rattle.gsl_blocks.specs.Around.{in_arm, may_end}
use Rattle.gsl_blocks.specs.Order.{run}
use Rattle.gsl_instr.specs.Forms.{form_of}
use Rattle.gsl_instr.specs.declared.op.TheConstants as op
use Rattle.gsl_tree.specs.Shapes.{flag}
use Rattle.gsl_words.specs.declared.module.Module.{Module}
use Rattle.gsl_valid.specs.LimitRules.{most_constructs}
use Rattle.gsl_valid.specs.Placed.{Code}
use Rattle.gsl_spv.specs.Calls as call
use Rattle.gsl_spv.specs.Declarations.{instr}
use Rattle.gsl_spv.specs.Finished.{module_of}
use Rattle.gsl_spv.specs.Growing.{Extends}
use Rattle.gsl_spv.specs.Sections.{Sections}
use Rattle.gsl_spv.specs.declared.refusal.TheConstants.{MOST_IDS}
use Rattle.gsl_spv.proofs.Extending.{extends_then}
use Rattle.gsl_lower_values.specs.Building.{Made, Full}
use Rattle.gsl_lower_holders.specs.Flow.{Emit, Flow, Gives, Lacks, Lowered, behind, built_in, given as give, fresh, opening}
use Rattle.gsl_lower_holders.specs.declared.place.FlowPlace.{FlowPlace}
use Rattle.gsl_lower_stmt.specs.Lowering.{forked as lowered_if}
use Rattle.gsl_lower_stmt.specs.Parts.{LowerStmt, begin_else, begin_if, choosing, end_if, seal}
use Rattle.gsl_lower_stmt.specs.declared.exits.Exits.{Exits}
use Rattle.gsl_fitting.specs.Fits.{Fits, Frame, In, is_mark}
use Rattle.gsl_fitting_shapes.specs.Fresh.{Fresh}
use Rattle.gsl_fitting_shapes.proofs.Labels.{arm_ends, arm_fresh, later as fresh_later}
use Rattle.gsl_fitting_types.specs.Making.{AreSorted, IsTypeOf, made}
use Rattle.gsl_fitting_flow.specs.Flowing.{EmitStays, FlowStays, GivesOf, Hold, IsLater, IsOf}
use Rattle.gsl_fitting_flow.proofs.Branching.{chosen_bridge, chosen_code, jump_leads, jumped_bridge, jumped_code, two_ways}
use Rattle.gsl_fitting_flow.proofs.Choice.{apart_last, apart_three, apart_two, forked, forked_later, ways_others, ways_owed}
use Rattle.gsl_fitting_flow.proofs.Following.{emit_then, hold_back, hold_front, hold_on, later_of, later_then, taken_both}
use Rattle.gsl_fitting_flow.proofs.Owing.{Bridge, FromTo, Link, bridge_then, fine_all, from_then, label_bridge, label_marks, link_then, part_link, stays_all}
use Rattle.gsl_fitting_flow.proofs.Short.{behind_assoc, with_last}
use Rattle.gsl_fitting_expr.specs.Evaluating.{Evaluates}
use Rattle.gsl_fitting_stmt.specs.Doing.{AreExits, AreLabels, Does, Passes, Runs, StmtFlows, at_end}
use Rattle.gsl_fitting_stmt.proofs.Doing.{part_then}

-- what a part of lowering gives
abbrev pub given_by : {A : Type 0} → (ℕ → Emit A) → Type 0
given_by {A} part = A

abbrev Fork : Type 0
Fork = given_by begin_if

-- ---- a block is shut, unless it was left, and the next begins

abbrev pub shut : Bool → ℕ → Sections → Sections
shut true end s = s
shut false end s = call.put op.BRANCH (end ∷ []) s

abbrev pub sealed : Bool → ℕ → ℕ → Flow → Flow
sealed left end next s = record { sections = call.put op.LABEL (next ∷ []) (shut left end s.sections); place = record s.place { label = next } }

abbrev pub sealed_code : Bool → ℕ → ℕ → Code
sealed_code true end next = instr op.LABEL (next ∷ []) ∷ []
sealed_code false end next = jumped_code end next

pub sealed_bridge : (m : Module) (left : Bool) (end next : ℕ) (s : Flow) → Bridge m (sealed_code left end next) (next ∷ []) s.sections (sealed left end next s).sections
sealed_bridge m true end next s = label_bridge m next s.sections
sealed_bridge m false end next s = jumped_bridge m end next s

pub sealed_extends : (left : Bool) (end next : ℕ) (s : Flow) → Extends s.sections (sealed left end next s).sections
sealed_extends left end next s = (sealed_bridge (module_of s.sections 0 []) left end next s).link.extends

pub sealed_later : (left : Bool) (end next : ℕ) (s : Flow) → IsLater s (sealed left end next s)
sealed_later left end next s = record { sections = sealed_extends left end next s; place = refl }

abbrev fork_of : ℕ → ℕ → Fork
fork_of far end = record { other = far; end = end }

else_gives : (left : Bool) (far end : ℕ) (u : Flow) → begin_else (fork_of far end) left u ≡ Gives tt (sealed left end far u)
unfolding begin_else opening seal
else_gives true far end u = refl
else_gives false far end u = refl

end_gives : (left : Bool) (far end : ℕ) (u : Flow) → end_if (fork_of far end) left u ≡ Gives tt (sealed left end end u)
unfolding end_if opening seal
end_gives true far end u = refl
end_gives false far end u = refl

-- ---- parts

abbrev second_way : Bool → Emit (Unit {0}) → Fork → Emit (Unit {0})
second_way left b g u = behind (b u) (λ done. end_if g left)

abbrev turning : Bool → Bool → Emit (Unit {0}) → Fork → Emit (Unit {0})
turning one two b g u = behind (begin_else g one u) (λ done. second_way two b g)

abbrev both_ways : Bool → Bool → Emit (Unit {0}) → Emit (Unit {0}) → Fork → Emit (Unit {0})
both_ways one two a b g s = behind (a s) (λ done. turning one two b g)

abbrev near_of : Flow → ℕ
near_of s = s.sections.last + 1

abbrev far_of : Flow → ℕ
far_of s = s.sections.last + 1 + 1

abbrev end_of : Flow → ℕ
end_of s = s.sections.last + 1 + 1 + 1

-- where three labels are taken, it goes on behind the choice
begin_by : (P : Lowered (Unit {0}) → Type 0) → P Lacks → (x : ℕ) (s : Flow) (next : Fork → Emit (Unit {0})) → P (next (fork_of (far_of s) (end_of s)) (forked x s)) → P (behind (begin_if x s) next)
unfolding begin_if opening
begin_by P lacks x s next goes = by_near (nat_le (near_of s) MOST_IDS)
  where
    by_end : (room : Bool) → P (behind (behind (built_in s.place (cond room (Made (end_of s) (record s.sections { last = end_of s })) Full)) (λ end v. behind (choosing x (near_of s) (far_of s) end v) (λ done. give (fork_of (far_of s) end)))) next)
    by_end true = goes
    by_end false = lacks

    by_far : (room : Bool) → P (behind (behind (built_in s.place (cond room (Made (far_of s) (record s.sections { last = far_of s })) Full)) (λ far u. behind (fresh u) (λ end v. behind (choosing x (near_of s) far end v) (λ done. give (fork_of far end))))) next)
    by_far true = by_end (nat_le (end_of s) MOST_IDS)
    by_far false = lacks

    by_near : (room : Bool) → P (behind (behind (built_in s.place (cond room (Made (near_of s) (record s.sections { last = near_of s })) Full)) (λ near t. behind (fresh t) (λ far u. behind (fresh u) (λ end v. behind (choosing x near far end v) (λ done. give (fork_of far end)))))) next)
    by_near true = by_far (nat_le (far_of s) MOST_IDS)
    by_near false = lacks

-- ---- what stays

arm_link : (left : Bool) (end next : ℕ) (a s : Flow) → FlowStays a s → Link (next ∷ []) a.sections (sealed left end next s).sections
arm_link left end next a s stays = link_then [] (next ∷ []) a.sections s.sections (sealed left end next s).sections (refl, tt) (part_link a.sections s.sections stays.sections) (sealed_bridge (module_of s.sections 0 []) left end next s).link

abbrev turned : Bool → Flow → Flow → Flow
turned left s u = sealed left (end_of s) (far_of s) u

abbrev ended : Bool → Flow → Flow → Flow
ended left s w = sealed left (end_of s) (end_of s) w

ways_link : (one two : Bool) (x : ℕ) (s u w : Flow) → FlowStays (forked x s) u → FlowStays (turned one s u) w → Link (near_of s ∷ far_of s ∷ end_of s ∷ []) (with_last (end_of s) s).sections (ended two s w).sections
ways_link one two x s u w first second =
    link_then (near_of s ∷ []) (far_of s ∷ end_of s ∷ []) (with_last (end_of s) s).sections (forked x s).sections (ended two s w).sections (apart_two s.sections.last, (apart_three s.sections.last, tt))
    (chosen_bridge (module_of s.sections 0 []) (end_of s) (x ∷ near_of s ∷ far_of s ∷ []) (near_of s) (with_last (end_of s) s)).link
    (link_then (far_of s ∷ []) (end_of s ∷ []) (forked x s).sections (turned one s u).sections (ended two s w).sections (apart_last s.sections.last, tt) (arm_link one (end_of s) (far_of s) (forked x s) u first) (arm_link two (end_of s) (end_of s) (turned one s u) w second))

ways_all : (one two : Bool) (x : ℕ) (s u w : Flow) → FlowStays (forked x s) u → FlowStays (turned one s u) w → FlowStays s (ended two s w)
ways_all one two x s u w first second = record {
  sections = stays_all (near_of s ∷ far_of s ∷ end_of s ∷ []) s.sections (ended two s w).sections (end_of s) (omega arith) (ways_link one two x s u w first second) (ways_owed s.sections) (λ id low. ways_others s.sections.last id low);
  place = ap (λ (p : FlowPlace). record p { label = end_of s }) second.place ∙ ap (λ (p : FlowPlace). record p { label = end_of s; used = w.place.used }) first.place;
  used = let low : s.place.used ≤ u.place.used = first.used in let high : u.place.used ≤ w.place.used = second.used in omega (arith, low, high);
}

rest_stays : (one two : Bool) (a b : Emit (Unit {0})) (x : ℕ) (s : Flow) → ((u : Flow) → EmitStays u (a u)) → ((u : Flow) → EmitStays u (b u)) → EmitStays s (behind (begin_if x s) (both_ways one two a b))
rest_stays one two a b x s first second = begin_by (λ lowered. EmitStays s lowered) tt x s (both_ways one two a b) (by_first (a (forked x s)) (first (forked x s)))
  where
    by_second : (u : Flow) → FlowStays (forked x s) u → (lowered : Lowered (Unit {0})) → EmitStays (turned one s u) lowered → EmitStays s (behind lowered (λ done. end_if (fork_of (far_of s) (end_of s)) two))
    by_second u stays (Gives done w) more = subst (EmitStays s) (sym (end_gives two (far_of s) (end_of s) w)) (ways_all one two x s u w stays more)
    by_second u stays Lacks more = tt

    by_first : (lowered : Lowered (Unit {0})) → EmitStays (forked x s) lowered → EmitStays s (behind lowered (λ done. turning one two b (fork_of (far_of s) (end_of s))))
    by_first (Gives done u) stays = subst (λ lowered. EmitStays s (behind lowered (λ done. second_way two b (fork_of (far_of s) (end_of s))))) (sym (else_gives one (far_of s) (end_of s) u)) (by_second u stays (b (turned one s u)) (second (turned one s u)))
    by_first Lacks stays = tt

module _ (whole : Sections) (main : ℕ) (local_size : List ℕ) (rank : ℕ → ℕ) (f : Frame) (sorted : AreSorted whole) where
  abbrev m : Module
  m = made whole main local_size rank f

  abbrev S : List ℕ → ℕ → Bool → Exits → List ℕ → Flow → Lowered (Unit {0}) → Type 0
  S asks deep leaves exits given before lowered = StmtFlows whole main local_size rank f asks deep leaves exits given before lowered

  -- ---- an arm

  record Arm (deep : ℕ) (exits : Exits) (end next : ℕ) (a b : Flow) : Type 0 where
    pub code : Code
    pub bridge : Bridge m code (next ∷ []) a.sections b.sections
    pub fits : (c d : Around) (due : List Due) → Fresh c (a.sections.last + 1) → AreExits c exits → c.leaves ≡ true → end < a.sections.last + 1 → c.depth + suc deep ≤ most_constructs → FromTo m rank f code (In a.place.label (in_arm c end) [] (run next d ∷ due)) (In next d [] due)

  pub seal_leads : (left : Bool) (given : List ℕ) (to next l : ℕ) (c d : Around) (due : List Due) → is_mark m to ≡ true → may_end c to ≡ true → FromTo m rank f (sealed_code left to next) (at_end left l c given (run next d ∷ due)) (In next d [] due)
  unfolding form_of
  seal_leads true given to next l c d due mark may = λ follows h. Fits.opens refl h
  seal_leads false given to next l c d due mark may = jump_leads whole main local_size rank f sorted given to next l c d due mark may

  arm_done : (deep : ℕ) (left : Bool) (exits : Exits) (now : List ℕ) (end next : ℕ) (a s : Flow) → FlowStays a s → Passes m rank f deep left exits [] now a s → is_mark m end ≡ true → Arm deep exits end next a (sealed left end next s)
  arm_done deep left exits now end next a s stays x mark = record {
    code = x.code ++ sealed_code left end next;
    bridge = bridge_then m x.code (sealed_code left end next) [] (next ∷ []) a.sections s.sections (sealed left end next s).sections (refl, tt) (record { link = part_link a.sections s.sections stays.sections; puts = x.puts; fine = λ o h. x.fine h }) (sealed_bridge m left end next s);
    fits = λ c d due new leads may lt low.
        from_then m rank f x.code (sealed_code left end next) (In a.place.label (in_arm c end) [] (run next d ∷ due)) (at_end left s.place.label (in_arm c end) now (run next d ∷ due)) (In next d [] due)
        (λ follows h. x.fits follows (in_arm c end) (run next d ∷ due) (arm_fresh c (a.sections.last + 1) end lt new) (record { breaks = leads.breaks; continues = leads.continues }) may (within c low) h)
        (seal_leads left now end next s.place.label (in_arm c end) d due mark (arm_ends c end));
  }
    where
      within : (c : Around) → c.depth + suc deep ≤ most_constructs → (c.depth + 1) + deep ≤ most_constructs
      within c low = omega (arith, low)

  -- ---- both

  rest_passes : (given : List ℕ) (x truth deep : ℕ) (exits : Exits) (one two : Bool) (one_now two_now : List ℕ) (s u w : Flow) → IsTypeOf whole flag truth → IsOf whole main local_size rank f given truth x → FlowStays (forked x s) u → Passes m rank f deep one exits [] one_now (forked x s) u
      → FlowStays (turned one s u) w → Passes m rank f deep two exits [] two_now (turned one s u) w → Extends (ended two s w).sections whole → Passes m rank f (suc deep) false exits given [] s (ended two s w)
  rest_passes given x truth deep exits one two one_now two_now s u w of value one_stays one_passes two_stays two_passes inside = record {
    fine = fine_all m code (near_of s ∷ far_of s ∷ end_of s ∷ []) s.sections (ended two s w).sections (end_of s) (omega arith) bridge (ways_owed s.sections);
    code = code;
    puts = bridge.puts;
    fits = λ follows c due new leads may low h. fits c due new leads may low follows h;
  }
    where
      end_mark : is_mark m (end_of s) ≡ true
      end_mark = label_marks whole main local_size rank f sorted (end_of s) (shut two (end_of s) w.sections) inside

      second : Arm deep exits (end_of s) (end_of s) (turned one s u) (ended two s w)
      second = arm_done deep two exits two_now (end_of s) (end_of s) (turned one s u) w two_stays two_passes end_mark

      between : Extends (turned one s u).sections whole
      between = extends_then second.bridge.link.extends inside

      far_mark : is_mark m (far_of s) ≡ true
      far_mark = label_marks whole main local_size rank f sorted (far_of s) (shut one (end_of s) u.sections) between

      first : Arm deep exits (end_of s) (far_of s) (forked x s) (turned one s u)
      first = arm_done deep one exits one_now (end_of s) (far_of s) (forked x s) u one_stays one_passes end_mark

      near_mark : is_mark m (near_of s) ≡ true
      near_mark =
          label_marks whole main local_size rank f sorted (near_of s) (call.put op.BRANCH_CONDITIONAL (x ∷ near_of s ∷ far_of s ∷ []) (call.put op.SELECTION_MERGE (end_of s ∷ 0 ∷ []) (with_last (end_of s) s).sections)) (extends_then first.bridge.link.extends between)

      opening_code : Code
      opening_code = chosen_code (end_of s) (x ∷ near_of s ∷ far_of s ∷ []) (near_of s)

      code : Code
      code = opening_code ++ (first.code ++ second.code)

      bridge : Bridge m code (near_of s ∷ far_of s ∷ end_of s ∷ []) (with_last (end_of s) s).sections (ended two s w).sections
      bridge =
          bridge_then m opening_code (first.code ++ second.code) (near_of s ∷ []) (far_of s ∷ end_of s ∷ []) (with_last (end_of s) s).sections (forked x s).sections (ended two s w).sections (apart_two s.sections.last, (apart_three s.sections.last, tt))
          (chosen_bridge m (end_of s) (x ∷ near_of s ∷ far_of s ∷ []) (near_of s) (with_last (end_of s) s))
          (bridge_then m first.code second.code (far_of s ∷ []) (end_of s ∷ []) (forked x s).sections (turned one s u).sections (ended two s w).sections (apart_last s.sections.last, tt) first.bridge second.bridge)

      fits : (c : Around) (due : List Due) → Fresh c (s.sections.last + 1) → AreExits c exits → c.leaves ≡ true → c.depth + suc deep ≤ most_constructs → FromTo m rank f code (In s.place.label c given due) (In (end_of s) c [] due)
      fits c due new leads may low =
          let half = first.bridge.link.extends.last in
          let ends = run (end_of s) c ∷ due in
          from_then m rank f opening_code (first.code ++ second.code) (In s.place.label c given due) (In (near_of s) (in_arm c (end_of s)) [] (run (far_of s) (in_arm c (end_of s)) ∷ ends)) (In (end_of s) c [] due)
          (two_ways whole main local_size rank f sorted given x truth (end_of s) (near_of s) (far_of s) (s.sections.last + 1) s.place.label c due of value end_mark near_mark far_mark new (omega arith) (omega arith) (omega arith) (omega (arith, low)))
          (from_then m rank f first.code second.code (In (near_of s) (in_arm c (end_of s)) [] (run (far_of s) (in_arm c (end_of s)) ∷ ends)) (In (far_of s) (in_arm c (end_of s)) [] ends) (In (end_of s) c [] due)
          (first.fits c (in_arm c (end_of s)) ends (fresh_later c (s.sections.last + 1) (end_of s + 1) (omega arith) new) leads may (omega arith) low)
          (second.fits c c due (fresh_later c (s.sections.last + 1) ((turned one s u).sections.last + 1) (omega (arith, half)) new) leads may (omega (arith, half)) low))

  module _ (one two : Bool) (a b : Emit (Unit {0})) (x truth deep : ℕ) (exits : Exits) (asks more : List ℕ) (given : List ℕ) (s : Flow) (of : IsTypeOf whole flag truth) (value : IsOf whole main local_size rank f given truth x) (first : (u : Flow) → EmitStays u (a u)) (second : (u : Flow) → EmitStays u (b u))
      (first_flows : (u : Flow) → IsLater s u → S asks deep one exits [] u (a u)) (second_flows : (u : Flow) → IsLater s u → S more deep two exits [] u (b u)) where
    by_end : (u w : Flow) → FlowStays (forked x s) u → (Extends u.sections whole → AreLabels m exits → Hold whole main local_size rank f s.place.holders s.place.used asks → Does whole main local_size rank f asks deep one exits [] (forked x s) u)
        → FlowStays (turned one s u) w → (Extends w.sections whole → AreLabels m exits → Hold whole main local_size rank f u.place.holders u.place.used more → Does whole main local_size rank f more deep two exits [] (turned one s u) w)
        → S (asks ++ more) (suc deep) false exits given s (Gives tt (ended two s w))
    by_end u w one_stays one_does two_stays two_does = λ inside labels hold.
        let behind_second = extends_then (sealed_extends two (end_of s) (end_of s) w) inside in
        let behind_turn = extends_then two_stays.sections.extends behind_second in
        let behind_first = extends_then (sealed_extends one (end_of s) (far_of s) u) behind_turn in
        let p = one_does behind_first labels (hold_front whole main local_size rank f s.place.holders s.place.used asks more hold) in
        let rest = hold_back whole main local_size rank f s.place.holders s.place.used asks more hold in
        let q = two_does behind_second labels (hold_on whole main local_size rank f (forked x s) u (length asks) more one_stays p.taken rest) in
        record {
          now = [];
          passes = rest_passes given x truth deep exits one two p.now q.now s u w of value one_stays p.passes two_stays q.passes inside;
          taken = subst (λ n. w.place.used ≡ s.place.used + n) (sym (length-append asks more)) (taken_both s.place.used u.place.used w.place.used (length asks) (length more) p.taken q.taken);
        }

    turned_on : (u : Flow) → FlowStays (forked x s) u → IsLater s (turned one s u)
    turned_on u stays = later_then s u (turned one s u) (later_then s (forked x s) u (forked_later x s) (later_of stays)) (sealed_later one (end_of s) (far_of s) u)

    by_second : (u : Flow) → FlowStays (forked x s) u → (Extends u.sections whole → AreLabels m exits → Hold whole main local_size rank f s.place.holders s.place.used asks → Does whole main local_size rank f asks deep one exits [] (forked x s) u)
        → (lowered : Lowered (Unit {0})) → EmitStays (turned one s u) lowered → S more deep two exits [] (turned one s u) lowered → S (asks ++ more) (suc deep) false exits given s (behind lowered (λ done. end_if (fork_of (far_of s) (end_of s)) two))
    by_second u one_stays one_does (Gives done w) two_stays two_does =
        subst (λ lowered. S (asks ++ more) (suc deep) false exits given s lowered) (sym (end_gives two (far_of s) (end_of s) w)) (by_end u w one_stays one_does two_stays two_does)
    by_second u one_stays one_does Lacks two_stays two_does = tt

    by_first : (lowered : Lowered (Unit {0})) → EmitStays (forked x s) lowered → S asks deep one exits [] (forked x s) lowered → S (asks ++ more) (suc deep) false exits given s (behind lowered (λ done. turning one two b (fork_of (far_of s) (end_of s))))
    by_first (Gives done u) one_stays one_does =
        subst (λ lowered. S (asks ++ more) (suc deep) false exits given s (behind lowered (λ done. second_way two b (fork_of (far_of s) (end_of s))))) (sym (else_gives one (far_of s) (end_of s) u))
        (by_second u one_stays one_does (b (turned one s u)) (second (turned one s u)) (second_flows (turned one s u) (turned_on u one_stays)))
    by_first Lacks one_stays one_does = tt

    rest_flows : S (asks ++ more) (suc deep) false exits given s (behind (begin_if x s) (both_ways one two a b))
    rest_flows = begin_by (λ lowered. S (asks ++ more) (suc deep) false exits given s lowered) tt x s (both_ways one two a b) (by_first (a (forked x s)) (first (forked x s)) (first_flows (forked x s) (forked_later x s)))

  -- ---- the whole

  abbrev from_test : Bool → Bool → Emit (Unit {0}) → Emit (Unit {0}) → ℕ → Emit (Unit {0})
  from_test one two a b x s = behind (begin_if x s) (both_ways one two a b)

  pub if_runs : (s : Flow) (tests asks more : List ℕ) (deep truth : ℕ) (splits : Bool) (exits : Exits) (test : Emit ℕ) (first other : LowerStmt) → IsTypeOf whole flag truth → Evaluates whole main local_size rank f s tests (suc deep) splits truth test → Runs whole main local_size rank f s asks deep first.leaves exits (first.run exits)
      → Runs whole main local_size rank f s more deep other.leaves exits (other.run exits) → Runs whole main local_size rank f s (tests ++ (asks ++ more)) (suc deep) false exits (lowered_if test first other exits)
  if_runs s tests asks more deep truth splits exits test first other of e p q = record {
    stays = λ u. subst (EmitStays u) (sym (behind_assoc (test u) begin_if (both_ways first.leaves other.leaves (first.run exits) (other.run exits))))
        (emit_then u (test u) (from_test first.leaves other.leaves (first.run exits) (other.run exits)) (e.stays u) (λ x v. rest_stays first.leaves other.leaves (first.run exits) (other.run exits) x v p.stays q.stays));
    flows = λ given u here. subst (λ lowered. S (tests ++ (asks ++ more)) (suc deep) false exits given u lowered) (sym (behind_assoc (test u) begin_if (both_ways first.leaves other.leaves (first.run exits) (other.run exits))))
        (part_then whole main local_size rank f sorted tests (asks ++ more) (suc deep) splits false exits given (GivesOf whole main local_size rank f truth) u (test u) (from_test first.leaves other.leaves (first.run exits) (other.run exits)) (e.stays u) (e.flows given u here)
        (λ x v. rest_stays first.leaves other.leaves (first.run exits) (other.run exits) x v p.stays q.stays)
        (λ x v now value later. rest_flows first.leaves other.leaves (first.run exits) (other.run exits) x truth deep exits asks more now v of value p.stays q.stays
        (λ w also. p.flows [] w (later_then s v w (later_then s u v here later) also)) (λ w also. q.flows [] w (later_then s v w (later_then s u v here later) also))));
  }
