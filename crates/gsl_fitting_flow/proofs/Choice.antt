-- One of two values, each in a block of its own.
use Rattle.std.proofs.Common.{◌≡◌, ℕ, ◌+◌, ◌≤◌, Bool, true, false, cond, ◌||◌, List, [], ◌∷◌, ◌++◌, length, refl, sym, ap, ◌∙◌, subst, suc, arith}
use Rattle.std.specs.Prelude.{◌==◌, nat_le}
use Rattle.std.proofs.lemmas.Bool.{or_from, true≢false}
use Rattle.std.proofs.lemmas.List.{length-append}
use Rattle.gsl_blocks.specs.declared.around.Around.{Around}
use Rattle.gsl_blocks.specs.declared.around.Due.{Due}
use Rattle.gsl_blocks.specs.Around.{in_arm}
use Rattle.gsl_blocks.specs.Order.{run}
use Rattle.gsl_instr.specs.declared.op.TheConstants as op
use Rattle.gsl_types.specs.declared.ty.Ty.{Ty}
use Rattle.gsl_tree.specs.Shapes.{flag}
use Rattle.gsl_words.specs.declared.module.Module.{Module}
use Rattle.gsl_valid.specs.EntryRules.{is_among}
use Rattle.gsl_valid.specs.LimitRules.{most_constructs}
use Rattle.gsl_valid.specs.Placed.{Code}
use Rattle.gsl_spv.specs.Calls as call
use Rattle.gsl_spv.specs.Finished.{module_of}
use Rattle.gsl_spv.specs.Growing.{Extends, all_of}
use Rattle.gsl_spv.specs.Sections.{Sections}
use Rattle.gsl_spv.specs.declared.refusal.TheConstants.{MOST_IDS}
use Rattle.gsl_spv.proofs.Extending.{extends_take, extends_then}
use Rattle.gsl_lower_values.specs.Building.{Made, Full}
use Rattle.gsl_lower_holders.specs.Flow.{Emit, Flow, Lowered, Gives, Lacks, behind, built_in, given as give, fresh, opening}
use Rattle.gsl_lower_holders.specs.Waiting.{fetch, holder}
use Rattle.gsl_lower_holders.specs.Ways.{begin_choice, choosing, fork, join, other_way}
use Rattle.gsl_lower_holders.specs.declared.blocks.Fork.{Fork}
use Rattle.gsl_lower_holders.specs.declared.place.FlowPlace.{FlowPlace}
use Rattle.gsl_fitting.specs.Fits.{Frame, In, is_mark}
use Rattle.gsl_fitting_sections.specs.Sections.{AreApart}
use Rattle.gsl_fitting_shapes.specs.Fresh.{Fresh}
use Rattle.gsl_fitting_shapes.proofs.Labels.{later as fresh_later, other}
use Rattle.gsl_fitting_types.specs.Making.{AreSorted, IsTypeOf, made}
use Rattle.gsl_fitting_flow.specs.Flowing.{Carries, Crosses, EmitStays, FlowStays, Flows, GivesOf, Hold, IsHolder, IsOf, IsTypeFor, IsLater, Widens}
use Rattle.gsl_fitting_flow.proofs.Branching.{chosen, chosen_bridge, chosen_code, jumped, two_ways}
use Rattle.gsl_fitting_flow.proofs.Following.{emit_then, flow_same, flows_then, hold_back, hold_front, hold_on, later_of, later_then, taken_behind, taken_both}
use Rattle.gsl_fitting_flow.proofs.Holding.{fetch_flows, fetch_stays, holder_flows, holder_stays, of_later, type_on}
use Rattle.gsl_fitting_flow.proofs.Meeting.{Arm, arm_done, arm_link, kept_in}
use Rattle.gsl_fitting_flow.proofs.Owing.{AreOwed, Bridge, FromTo, Link, bridge_then, fine_all, from_then, label_marks, link_then, part_bridge, part_link, stays_all, taken_owed}
use Rattle.gsl_fitting_flow.proofs.Short.{behind_assoc, greater, jumped_later, met, with_last}

-- ---- behind the condition, with a holder for the value

abbrev begin_ways : ℕ → ℕ → Emit Fork
begin_ways x h = λ s. behind (fresh s) (λ near t. behind (fresh t) (λ far u. behind (fresh u) (λ end v. behind (choosing end (x ∷ near ∷ far ∷ []) near v) (λ done. give (fork h far end)))))

abbrev second_way : Ty → Emit ℕ → Fork → Emit ℕ
second_way t b f u = behind (b u) (join t f)

abbrev both_ways : Ty → Emit ℕ → Emit ℕ → Fork → Emit ℕ
both_ways t a b f s = behind (behind (a s) (other_way f)) (λ done. second_way t b f)

abbrev ways_rest : Ty → Emit ℕ → Emit ℕ → ℕ → ℕ → Emit ℕ
ways_rest t a b x h s = behind (begin_ways x h s) (both_ways t a b)

abbrev pub forked : ℕ → Flow → Flow
forked x s = chosen (s.sections.last + 1 + 1 + 1) (x ∷ (s.sections.last + 1) ∷ (s.sections.last + 1 + 1) ∷ []) (s.sections.last + 1) (with_last (s.sections.last + 1 + 1 + 1) s)

pub forked_later : (x : ℕ) (s : Flow) → IsLater s (forked x s)
forked_later x s = record {
  sections =
      extends_then (extends_then (extends_then (extends_take s.sections) (extends_take (with_last (s.sections.last + 1) s).sections)) (extends_take (with_last (s.sections.last + 1 + 1) s).sections))
      (chosen_bridge (module_of s.sections 0 []) (s.sections.last + 1 + 1 + 1) (x ∷ (s.sections.last + 1) ∷ (s.sections.last + 1 + 1) ∷ []) (s.sections.last + 1) (with_last (s.sections.last + 1 + 1 + 1) s)).link.extends;
  place = refl;
}

-- the second way begins
abbrev turned : ℕ → ℕ → ℕ → ℕ → Flow → Flow
turned end far h y u = jumped end far (kept_in h y u)

pub apart_two : (n : ℕ) → is_among ((n + 1) ∷ []) (n + 1 + 1) ≡ false
apart_two n = or_from ((n + 1) == (n + 1 + 1)) false (other (n + 1) (n + 1 + 1) (omega arith)) refl

pub apart_three : (n : ℕ) → is_among ((n + 1) ∷ []) (n + 1 + 1 + 1) ≡ false
apart_three n = or_from ((n + 1) == (n + 1 + 1 + 1)) false (other (n + 1) (n + 1 + 1 + 1) (omega arith)) refl

pub apart_last : (n : ℕ) → is_among ((n + 1 + 1) ∷ []) (n + 1 + 1 + 1) ≡ false
apart_last n = or_from ((n + 1 + 1) == (n + 1 + 1 + 1)) false (other (n + 1 + 1) (n + 1 + 1 + 1) (omega arith)) refl

ways_link : (x h y z : ℕ) (s u w v : Flow) → FlowStays (forked x s) u → FlowStays (turned (s.sections.last + 1 + 1 + 1) (s.sections.last + 1 + 1) h y u) w → FlowStays (met (s.sections.last + 1 + 1 + 1) h z w) v
    → Link ((s.sections.last + 1) ∷ (s.sections.last + 1 + 1) ∷ (s.sections.last + 1 + 1 + 1) ∷ []) (with_last (s.sections.last + 1 + 1 + 1) s).sections v.sections
ways_link x h y z s u w v one two later =
    let n = s.sections.last in
    let half = turned (n + 1 + 1 + 1) (n + 1 + 1) h y u in
    link_then ((n + 1) ∷ []) ((n + 1 + 1) ∷ (n + 1 + 1 + 1) ∷ []) (with_last (n + 1 + 1 + 1) s).sections (forked x s).sections v.sections (apart_two n, (apart_three n, tt))
    (chosen_bridge (module_of s.sections 0 []) (n + 1 + 1 + 1) (x ∷ (n + 1) ∷ (n + 1 + 1) ∷ []) (n + 1) (with_last (n + 1 + 1 + 1) s)).link
    (link_then ((n + 1 + 1) ∷ []) ((n + 1 + 1 + 1) ∷ []) (forked x s).sections half.sections v.sections (apart_last n, tt) (arm_link h y (n + 1 + 1 + 1) (n + 1 + 1) (forked x s) u one)
    (link_then ((n + 1 + 1 + 1) ∷ []) [] half.sections (met (n + 1 + 1 + 1) h z w).sections v.sections tt (arm_link h z (n + 1 + 1 + 1) (n + 1 + 1 + 1) half w two) (part_link (met (n + 1 + 1 + 1) h z w).sections v.sections later.sections)))

pub ways_owed : (s : Sections) → AreApart (s.last + 1) (all_of s) → AreOwed (record s { last = s.last + 1 + 1 + 1 }) ((s.last + 1) ∷ (s.last + 1 + 1) ∷ (s.last + 1 + 1 + 1) ∷ [])
ways_owed s apart = (
  taken_owed s (s.last + 1) (s.last + 1 + 1 + 1) apart (omega arith) (omega arith),
  (taken_owed s (s.last + 1 + 1) (s.last + 1 + 1 + 1) apart (omega arith) (omega arith), (taken_owed s (s.last + 1 + 1 + 1) (s.last + 1 + 1 + 1) apart (omega arith) (omega arith), tt)),
)

pub ways_others : (n id : ℕ) → id ≤ n → is_among ((n + 1) ∷ (n + 1 + 1) ∷ (n + 1 + 1 + 1) ∷ []) id ≡ false
ways_others n id low =
    or_from ((n + 1) == id) _ (greater (n + 1) id (omega (arith, low)))
    (or_from ((n + 1 + 1) == id) _ (greater (n + 1 + 1) id (omega (arith, low))) (or_from ((n + 1 + 1 + 1) == id) false (greater (n + 1 + 1 + 1) id (omega (arith, low))) refl))

ways_all : (x h y z : ℕ) (s u w v : Flow) → FlowStays (forked x s) u → FlowStays (turned (s.sections.last + 1 + 1 + 1) (s.sections.last + 1 + 1) h y u) w → FlowStays (met (s.sections.last + 1 + 1 + 1) h z w) v → FlowStays s v
ways_all x h y z s u w v one two later = record {
  sections = stays_all ((s.sections.last + 1) ∷ (s.sections.last + 1 + 1) ∷ (s.sections.last + 1 + 1 + 1) ∷ []) s.sections v.sections (s.sections.last + 1 + 1 + 1) (omega arith) (ways_link x h y z s u w v one two later) (ways_owed s.sections) (λ id low. ways_others s.sections.last id low);
  place = later.place ∙ ap (λ (p : FlowPlace). record p { label = v.place.label; used = v.place.used }) two.place ∙ ap (λ (p : FlowPlace). record p { label = v.place.label; used = v.place.used }) one.place;
  used = let first : s.place.used ≤ u.place.used = one.used in let second : u.place.used ≤ w.place.used = two.used in let third : w.place.used ≤ v.place.used = later.used in omega (arith, first, second, third);
}

rest_stays : (t : Ty) (a b : Emit ℕ) (x h : ℕ) (s : Flow) → ((u : Flow) → EmitStays u (a u)) → ((u : Flow) → EmitStays u (b u)) → EmitStays s (ways_rest t a b x h s)
unfolding opening join fetch other_way
rest_stays t a b x h s first second = by_near (nat_le (s.sections.last + 1) MOST_IDS)
  where
    by_tail : (y z : ℕ) (u w : Flow) → FlowStays (forked x s) u → FlowStays (turned (s.sections.last + 1 + 1 + 1) (s.sections.last + 1 + 1) h y u) w → (lowered : Lowered ℕ) → EmitStays (met (s.sections.last + 1 + 1 + 1) h z w) lowered → EmitStays s lowered
    by_tail y z u w one two (Gives id v) later = ways_all x h y z s u w v one two later
    by_tail y z u w one two Lacks later = tt

    by_second : (y : ℕ) (u : Flow) → FlowStays (forked x s) u → (lowered : Lowered ℕ) → EmitStays (turned (s.sections.last + 1 + 1 + 1) (s.sections.last + 1 + 1) h y u) lowered
        → EmitStays s (behind lowered (join t (fork h (s.sections.last + 1 + 1) (s.sections.last + 1 + 1 + 1))))
    by_second y u one (Gives z w) two = by_tail y z u w one two (fetch true t h (met (s.sections.last + 1 + 1 + 1) h z w)) (fetch_stays true t h (met (s.sections.last + 1 + 1 + 1) h z w))
    by_second y u one Lacks two = tt

    by_first : (lowered : Lowered ℕ) → EmitStays (forked x s) lowered
        → EmitStays s (behind (behind lowered (other_way (fork h (s.sections.last + 1 + 1) (s.sections.last + 1 + 1 + 1)))) (λ done. second_way t b (fork h (s.sections.last + 1 + 1) (s.sections.last + 1 + 1 + 1))))
    by_first (Gives y u) one = by_second y u one (b (turned (s.sections.last + 1 + 1 + 1) (s.sections.last + 1 + 1) h y u)) (second (turned (s.sections.last + 1 + 1 + 1) (s.sections.last + 1 + 1) h y u))
    by_first Lacks one = tt

    by_end : (room : Bool) → EmitStays s (behind (behind (built_in s.place (cond room (Made (s.sections.last + 1 + 1 + 1) (record s.sections { last = s.sections.last + 1 + 1 + 1 })) Full))
        (λ end v. behind (choosing end (x ∷ (s.sections.last + 1) ∷ (s.sections.last + 1 + 1) ∷ []) (s.sections.last + 1) v) (λ done. give (fork h (s.sections.last + 1 + 1) end)))) (both_ways t a b))
    by_end true = by_first (a (forked x s)) (first (forked x s))
    by_end false = tt

    by_far : (room : Bool) → EmitStays s (behind (behind (built_in s.place (cond room (Made (s.sections.last + 1 + 1) (record s.sections { last = s.sections.last + 1 + 1 })) Full))
        (λ far u. behind (fresh u) (λ end v. behind (choosing end (x ∷ (s.sections.last + 1) ∷ far ∷ []) (s.sections.last + 1) v) (λ done. give (fork h far end))))) (both_ways t a b))
    by_far true = by_end (nat_le (s.sections.last + 1 + 1 + 1) MOST_IDS)
    by_far false = tt

    by_near : (room : Bool) → EmitStays s (behind (behind (built_in s.place (cond room (Made (s.sections.last + 1) (record s.sections { last = s.sections.last + 1 })) Full))
        (λ near t. behind (fresh t) (λ far u. behind (fresh u) (λ end v. behind (choosing end (x ∷ near ∷ far ∷ []) near v) (λ done. give (fork h far end)))))) (both_ways t a b))
    by_near true = by_far (nat_le (s.sections.last + 1 + 1) MOST_IDS)
    by_near false = tt

-- ---- the whole

abbrev choice_from : Ty → Emit ℕ → Emit ℕ → ℕ → Emit ℕ
choice_from t a b x s = behind (begin_choice x s) (both_ways t a b)

from_stays : (t : Ty) (a b : Emit ℕ) (x : ℕ) (s : Flow) → ((u : Flow) → EmitStays u (a u)) → ((u : Flow) → EmitStays u (b u)) → EmitStays s (choice_from t a b x s)
unfolding begin_choice
from_stays t a b x s first second =
    subst (EmitStays s) (sym (behind_assoc (holder s) (λ h. begin_ways x h) (both_ways t a b))) (emit_then s (holder s) (ways_rest t a b x) (holder_stays s) (λ h u. rest_stays t a b x h u first second))

pub choice_stays : (t : Ty) (a b : Emit ℕ) (s : Flow) (test : Lowered ℕ) → EmitStays s test → ((u : Flow) → EmitStays u (a u)) → ((u : Flow) → EmitStays u (b u)) → EmitStays s (behind (behind test begin_choice) (both_ways t a b))
choice_stays t a b s test on first second =
    subst (EmitStays s) (sym (behind_assoc test begin_choice (both_ways t a b))) (emit_then s test (choice_from t a b) on (λ x u. from_stays t a b x u first second))

module _ (whole : Sections) (main : ℕ) (local_size : List ℕ) (rank : ℕ → ℕ) (f : Frame) (sorted : AreSorted whole) where
  abbrev m : Module
  m = made whole main local_size rank f

  abbrev D : List ℕ → ℕ → Bool → List ℕ → ℕ → Flow → Lowered ℕ → Type 0
  D asks deep splits given type s lowered = Flows whole main local_size rank f asks deep splits given (GivesOf whole main local_size rank f type) s lowered

  rest_crosses : (given : List ℕ) (x truth type h y z deep : ℕ) (one_splits two_splits : Bool) (one_now two_now now : List ℕ) (s u w v : Flow) → IsTypeOf whole flag truth → IsOf whole main local_size rank f given truth x → IsHolder whole main local_size rank f type h
      → FlowStays (forked x s) u → Crosses m rank f deep one_splits [] one_now (forked x s) u → IsOf whole main local_size rank f one_now type y
      → FlowStays (turned (s.sections.last + 1 + 1 + 1) (s.sections.last + 1 + 1) h y u) w → Crosses m rank f deep two_splits [] two_now (turned (s.sections.last + 1 + 1 + 1) (s.sections.last + 1 + 1) h y u) w → IsOf whole main local_size rank f two_now type z
      → FlowStays (met (s.sections.last + 1 + 1 + 1) h z w) v → Crosses m rank f (suc deep) false [] now (met (s.sections.last + 1 + 1 + 1) h z w) v → Extends v.sections whole → Crosses m rank f (suc deep) true given now s v
  rest_crosses given x truth type h y z deep one_splits two_splits one_now two_now now s u w v of value holder one one_crosses one_is two two_crosses two_is later tail inside =
      record {
        fine = fine_all m code ((s.sections.last + 1) ∷ (s.sections.last + 1 + 1) ∷ (s.sections.last + 1 + 1 + 1) ∷ []) s.sections v.sections (s.sections.last + 1 + 1 + 1) (omega arith) bridge (ways_owed s.sections);
        code = code;
        puts = bridge.puts;
        fits = λ follows c due new low. fits c due new low follows;
        same = λ e. absurd (true≢false e);
      }
    where
      start : Extends (met (s.sections.last + 1 + 1 + 1) h z w).sections whole
      start = extends_then later.sections.extends inside

      end_mark : is_mark m (s.sections.last + 1 + 1 + 1) ≡ true
      end_mark = label_marks whole main local_size rank f sorted (s.sections.last + 1 + 1 + 1) (call.put op.BRANCH ((s.sections.last + 1 + 1 + 1) ∷ []) (kept_in h z w).sections) start

      second : Arm whole main local_size rank f sorted deep (s.sections.last + 1 + 1 + 1) (s.sections.last + 1 + 1 + 1) (turned (s.sections.last + 1 + 1 + 1) (s.sections.last + 1 + 1) h y u) (met (s.sections.last + 1 + 1 + 1) h z w)
      second = arm_done whole main local_size rank f sorted deep two_splits two_now type h z (s.sections.last + 1 + 1 + 1) (s.sections.last + 1 + 1 + 1) (turned (s.sections.last + 1 + 1 + 1) (s.sections.last + 1 + 1) h y u) w two two_crosses holder two_is start end_mark

      between : Extends (turned (s.sections.last + 1 + 1 + 1) (s.sections.last + 1 + 1) h y u).sections whole
      between = extends_then second.bridge.link.extends start

      far_mark : is_mark m (s.sections.last + 1 + 1) ≡ true
      far_mark = label_marks whole main local_size rank f sorted (s.sections.last + 1 + 1) (call.put op.BRANCH ((s.sections.last + 1 + 1 + 1) ∷ []) (kept_in h y u).sections) between

      first : Arm whole main local_size rank f sorted deep (s.sections.last + 1 + 1 + 1) (s.sections.last + 1 + 1) (forked x s) (turned (s.sections.last + 1 + 1 + 1) (s.sections.last + 1 + 1) h y u)
      first = arm_done whole main local_size rank f sorted deep one_splits one_now type h y (s.sections.last + 1 + 1 + 1) (s.sections.last + 1 + 1) (forked x s) u one one_crosses holder one_is between end_mark

      near_mark : is_mark m (s.sections.last + 1) ≡ true
      near_mark =
          label_marks whole main local_size rank f sorted (s.sections.last + 1)
          (call.put op.BRANCH_CONDITIONAL (x ∷ (s.sections.last + 1) ∷ (s.sections.last + 1 + 1) ∷ []) (call.put op.SELECTION_MERGE ((s.sections.last + 1 + 1 + 1) ∷ 0 ∷ []) (with_last (s.sections.last + 1 + 1 + 1) s).sections)) (extends_then first.bridge.link.extends between)

      opening_code : Code
      opening_code = chosen_code (s.sections.last + 1 + 1 + 1) (x ∷ (s.sections.last + 1) ∷ (s.sections.last + 1 + 1) ∷ []) (s.sections.last + 1)

      code : Code
      code = opening_code ++ (first.code ++ (second.code ++ tail.code))

      bridge : Bridge m code ((s.sections.last + 1) ∷ (s.sections.last + 1 + 1) ∷ (s.sections.last + 1 + 1 + 1) ∷ []) (with_last (s.sections.last + 1 + 1 + 1) s).sections v.sections
      bridge =
          bridge_then m opening_code (first.code ++ (second.code ++ tail.code)) ((s.sections.last + 1) ∷ []) ((s.sections.last + 1 + 1) ∷ (s.sections.last + 1 + 1 + 1) ∷ []) (with_last (s.sections.last + 1 + 1 + 1) s).sections (forked x s).sections v.sections (apart_two s.sections.last, (apart_three s.sections.last, tt))
          (chosen_bridge m (s.sections.last + 1 + 1 + 1) (x ∷ (s.sections.last + 1) ∷ (s.sections.last + 1 + 1) ∷ []) (s.sections.last + 1) (with_last (s.sections.last + 1 + 1 + 1) s))
          (bridge_then m first.code (second.code ++ tail.code) ((s.sections.last + 1 + 1) ∷ []) ((s.sections.last + 1 + 1 + 1) ∷ []) (forked x s).sections (turned (s.sections.last + 1 + 1 + 1) (s.sections.last + 1 + 1) h y u).sections v.sections (apart_last s.sections.last, tt) first.bridge
          (bridge_then m second.code tail.code ((s.sections.last + 1 + 1 + 1) ∷ []) [] (turned (s.sections.last + 1 + 1 + 1) (s.sections.last + 1 + 1) h y u).sections (met (s.sections.last + 1 + 1 + 1) h z w).sections v.sections tt second.bridge
          (part_bridge m rank f (suc deep) false [] now (met (s.sections.last + 1 + 1 + 1) h z w) v later tail)))

      fits : (c : Around) (due : List Due) → Fresh c (s.sections.last + 1) → c.depth + suc deep ≤ most_constructs → FromTo m rank f code (In s.place.label c given due) (In v.place.label c now due)
      fits c due new low =
          let half = first.bridge.link.extends.last in
          let most = second.bridge.link.extends.last in
          let ends = run (s.sections.last + 1 + 1 + 1) c ∷ due in
          from_then m rank f opening_code (first.code ++ (second.code ++ tail.code)) (In s.place.label c given due) (In (s.sections.last + 1) (in_arm c (s.sections.last + 1 + 1 + 1)) [] (run (s.sections.last + 1 + 1) (in_arm c (s.sections.last + 1 + 1 + 1)) ∷ ends)) (In v.place.label c now due)
          (two_ways whole main local_size rank f sorted given x truth (s.sections.last + 1 + 1 + 1) (s.sections.last + 1) (s.sections.last + 1 + 1) (s.sections.last + 1) s.place.label c due of value end_mark near_mark far_mark new (omega arith) (omega arith) (omega arith) (omega (arith, low)))
          (from_then m rank f first.code (second.code ++ tail.code) (In (s.sections.last + 1) (in_arm c (s.sections.last + 1 + 1 + 1)) [] (run (s.sections.last + 1 + 1) (in_arm c (s.sections.last + 1 + 1 + 1)) ∷ ends)) (In (s.sections.last + 1 + 1) (in_arm c (s.sections.last + 1 + 1 + 1)) [] ends) (In v.place.label c now due)
          (first.fits c (in_arm c (s.sections.last + 1 + 1 + 1)) ends (fresh_later c (s.sections.last + 1) (s.sections.last + 1 + 1 + 1 + 1) (omega arith) new) (omega arith) low)
          (from_then m rank f second.code tail.code (In (s.sections.last + 1 + 1) (in_arm c (s.sections.last + 1 + 1 + 1)) [] ends) (In (s.sections.last + 1 + 1 + 1) c [] due) (In v.place.label c now due)
          (second.fits c c due (fresh_later c (s.sections.last + 1) ((turned (s.sections.last + 1 + 1 + 1) (s.sections.last + 1 + 1) h y u).sections.last + 1) (omega (arith, half)) new) (omega (arith, half)) low)
          (λ follows go. tail.fits follows c due (fresh_later c (s.sections.last + 1) ((met (s.sections.last + 1 + 1 + 1) h z w).sections.last + 1) (omega (arith, half, most)) new) low go)))

  -- ---- behind the condition

  module _ (t : Ty) (a b : Emit ℕ) (x h truth type deep : ℕ) (asks more : List ℕ) (one_splits two_splits : Bool) (given : List ℕ) (s : Flow) (of : IsTypeOf whole flag truth) (same : IsTypeFor whole main local_size rank f s.place t type) (value : IsOf whole main local_size rank f given truth x)
      (holder_is : IsHolder whole main local_size rank f type h) (first : (u : Flow) → EmitStays u (a u)) (second : (u : Flow) → EmitStays u (b u)) (first_flows : (u : Flow) → IsLater s u → D asks deep one_splits [] type u (a u))
      (second_flows : (u : Flow) → IsLater s u → D more deep two_splits [] type u (b u)) where
    by_tail : (y z : ℕ) (u w : Flow) → FlowStays (forked x s) u
        → (Extends u.sections whole → Hold whole main local_size rank f s.place.holders s.place.used asks → Carries whole main local_size rank f asks deep one_splits [] (GivesOf whole main local_size rank f type) (forked x s) y u)
        → FlowStays (turned (s.sections.last + 1 + 1 + 1) (s.sections.last + 1 + 1) h y u) w
        → (Extends w.sections whole → Hold whole main local_size rank f u.place.holders u.place.used more → Carries whole main local_size rank f more deep two_splits [] (GivesOf whole main local_size rank f type) (turned (s.sections.last + 1 + 1 + 1) (s.sections.last + 1 + 1) h y u) z w)
        → (lowered : Lowered ℕ) → EmitStays (met (s.sections.last + 1 + 1 + 1) h z w) lowered → D [] (suc deep) false [] type (met (s.sections.last + 1 + 1 + 1) h z w) lowered → D (asks ++ more) (suc deep) true given type s lowered
    by_tail y z u w one one_carries two two_carries (Gives id v) later tail = λ inside hold.
        let end = s.sections.last + 1 + 1 + 1 in
        let far = s.sections.last + 1 + 1 in
        let start = extends_then later.sections.extends inside in
        let behind_second = extends_then (arm_link h z end end w w (flow_same w)).extends start in
        let behind_turn = extends_then two.sections.extends behind_second in
        let behind_first = extends_then (arm_link h y end far u u (flow_same u)).extends behind_turn in
        let a = one_carries behind_first (hold_front whole main local_size rank f s.place.holders s.place.used asks more hold) in
        let rest = hold_back whole main local_size rank f s.place.holders s.place.used asks more hold in
        let b = two_carries behind_second (hold_on whole main local_size rank f (forked x s) u (length asks) more one a.taken rest) in
        let c = tail inside tt in
        record {
          now = c.now;
          crosses = rest_crosses given x truth type h y z deep one_splits two_splits a.now b.now c.now s u w v of value holder_is one a.crosses a.is two b.crosses b.is later c.crosses inside;
          taken = subst (λ n. v.place.used ≡ s.place.used + n) (sym (length-append asks more)) (taken_behind s.place.used w.place.used v.place.used (length asks + length more) (taken_both s.place.used u.place.used w.place.used (length asks) (length more) a.taken b.taken) c.taken);
          is = c.is;
        }
    by_tail y z u w one one_carries two two_carries Lacks later tail = tt

    turned_later : (y : ℕ) (u : Flow) → FlowStays (forked x s) u → IsLater s (turned (s.sections.last + 1 + 1 + 1) (s.sections.last + 1 + 1) h y u)
    turned_later y u one =
        later_then s u (turned (s.sections.last + 1 + 1 + 1) (s.sections.last + 1 + 1) h y u) (later_then s (forked x s) u (forked_later x s) (later_of one)) (jumped_later h y (s.sections.last + 1 + 1 + 1) (s.sections.last + 1 + 1) u)

    by_second : (y : ℕ) (u : Flow) → FlowStays (forked x s) u
        → (Extends u.sections whole → Hold whole main local_size rank f s.place.holders s.place.used asks → Carries whole main local_size rank f asks deep one_splits [] (GivesOf whole main local_size rank f type) (forked x s) y u)
        → (lowered : Lowered ℕ) → EmitStays (turned (s.sections.last + 1 + 1 + 1) (s.sections.last + 1 + 1) h y u) lowered → D more deep two_splits [] type (turned (s.sections.last + 1 + 1 + 1) (s.sections.last + 1 + 1) h y u) lowered
        → D (asks ++ more) (suc deep) true given type s (behind lowered (join t (fork h (s.sections.last + 1 + 1) (s.sections.last + 1 + 1 + 1))))
    unfolding opening join fetch
    by_second y u one one_carries (Gives z w) two two_carries =
        let end = met (s.sections.last + 1 + 1 + 1) h z w in
        by_tail y z u w one one_carries two two_carries (fetch true t h end) (fetch_stays true t h end)
        (fetch_flows whole main local_size rank f sorted true (suc deep) [] t type h end
        (type_on whole main local_size rank f sorted s end t type (later_then s w end (later_then s (turned (s.sections.last + 1 + 1 + 1) (s.sections.last + 1 + 1) h y u) w (turned_later y u one) (later_of two)) (jumped_later h z (s.sections.last + 1 + 1 + 1) (s.sections.last + 1 + 1 + 1) w)) same) holder_is)
    by_second y u one one_carries Lacks two two_carries = tt

    by_first : (lowered : Lowered ℕ) → EmitStays (forked x s) lowered → D asks deep one_splits [] type (forked x s) lowered
        → D (asks ++ more) (suc deep) true given type s (behind (behind lowered (other_way (fork h (s.sections.last + 1 + 1) (s.sections.last + 1 + 1 + 1)))) (λ done. second_way t b (fork h (s.sections.last + 1 + 1) (s.sections.last + 1 + 1 + 1))))
    unfolding opening other_way
    by_first (Gives y u) one one_carries =
        let half = turned (s.sections.last + 1 + 1 + 1) (s.sections.last + 1 + 1) h y u in
        by_second y u one one_carries (b half) (second half) (second_flows half (turned_later y u one))
    by_first Lacks one one_carries = tt

    rest_flows : D (asks ++ more) (suc deep) true given type s (ways_rest t a b x h s)
    unfolding opening
    rest_flows = by_near (nat_le (s.sections.last + 1) MOST_IDS)
      where
        by_end : (room : Bool) → D (asks ++ more) (suc deep) true given type s (behind (behind (built_in s.place (cond room (Made (s.sections.last + 1 + 1 + 1) (record s.sections { last = s.sections.last + 1 + 1 + 1 })) Full))
            (λ end v. behind (choosing end (x ∷ (s.sections.last + 1) ∷ (s.sections.last + 1 + 1) ∷ []) (s.sections.last + 1) v) (λ done. give (fork h (s.sections.last + 1 + 1) end)))) (both_ways t a b))
        by_end true = by_first (a (forked x s)) (first (forked x s)) (first_flows (forked x s) (forked_later x s))
        by_end false = tt

        by_far : (room : Bool) → D (asks ++ more) (suc deep) true given type s (behind (behind (built_in s.place (cond room (Made (s.sections.last + 1 + 1) (record s.sections { last = s.sections.last + 1 + 1 })) Full))
            (λ far u. behind (fresh u) (λ end v. behind (choosing end (x ∷ (s.sections.last + 1) ∷ far ∷ []) (s.sections.last + 1) v) (λ done. give (fork h far end))))) (both_ways t a b))
        by_far true = by_end (nat_le (s.sections.last + 1 + 1 + 1) MOST_IDS)
        by_far false = tt

        by_near : (room : Bool) → D (asks ++ more) (suc deep) true given type s (behind (behind (built_in s.place (cond room (Made (s.sections.last + 1) (record s.sections { last = s.sections.last + 1 })) Full))
            (λ near t. behind (fresh t) (λ far u. behind (fresh u) (λ end v. behind (choosing end (x ∷ near ∷ far ∷ []) near v) (λ done. give (fork h far end)))))) (both_ways t a b))
        by_near true = by_far (nat_le (s.sections.last + 1 + 1) MOST_IDS)
        by_near false = tt

  from_flows : (t : Ty) (a b : Emit ℕ) (x truth type deep : ℕ) (asks more : List ℕ) (one_splits two_splits : Bool) (given : List ℕ) (s : Flow) → IsTypeOf whole flag truth → IsTypeFor whole main local_size rank f s.place t type → IsOf whole main local_size rank f given truth x
      → ((u : Flow) → EmitStays u (a u)) → ((u : Flow) → EmitStays u (b u)) → ((u : Flow) → IsLater s u → D asks deep one_splits [] type u (a u)) → ((u : Flow) → IsLater s u → D more deep two_splits [] type u (b u))
      → D (type ∷ (asks ++ more)) (suc deep) true given type s (choice_from t a b x s)
  unfolding begin_choice
  from_flows t a b x truth type deep asks more one_splits two_splits given s of same value first second first_flows second_flows =
      subst (D (type ∷ (asks ++ more)) (suc deep) true given type s) (sym (behind_assoc (holder s) (λ h. begin_ways x h) (both_ways t a b)))
      (flows_then whole main local_size rank f (type ∷ []) (asks ++ more) (suc deep) false true given (λ h now after. IsHolder whole main local_size rank f type h × Widens given now) (GivesOf whole main local_size rank f type) s (holder s) (ways_rest t a b x) (holder_stays s)
      (holder_flows whole main local_size rank f sorted (suc deep) given type s) (λ h u. rest_stays t a b x h u first second)
      (λ h u now is wider on inside. rest_flows t a b x h truth type deep asks more one_splits two_splits now u of (type_on whole main local_size rank f sorted s u t type (later_of on) same) (of_later whole main local_size rank f sorted given now truth x is.1 value) is.0 first second
      (λ v also. first_flows v (later_then s u v (later_of on) also)) (λ v also. second_flows v (later_then s u v (later_of on) also))))

  pub choice_flows : (t : Ty) (a b : Emit ℕ) (truth type deep : ℕ) (tests asks more : List ℕ) (splits one_splits two_splits : Bool) (given : List ℕ) (s : Flow) (test : Lowered ℕ) → IsTypeOf whole flag truth → IsTypeFor whole main local_size rank f s.place t type → EmitStays s test
      → D tests (suc deep) splits given truth s test → ((u : Flow) → EmitStays u (a u)) → ((u : Flow) → EmitStays u (b u)) → ((u : Flow) → IsLater s u → D asks deep one_splits [] type u (a u)) → ((u : Flow) → IsLater s u → D more deep two_splits [] type u (b u))
      → D (tests ++ type ∷ (asks ++ more)) (suc deep) true given type s (behind (behind test begin_choice) (both_ways t a b))
  choice_flows t a b truth type deep tests asks more splits one_splits two_splits given s test of same on flow first second first_flows second_flows =
      subst (D (tests ++ type ∷ (asks ++ more)) (suc deep) true given type s) (sym (behind_assoc test begin_choice (both_ways t a b)))
      (subst (λ b'. D (tests ++ type ∷ (asks ++ more)) (suc deep) b' given type s (behind test (choice_from t a b))) (or_true splits)
      (flows_then whole main local_size rank f tests (type ∷ (asks ++ more)) (suc deep) splits true given (GivesOf whole main local_size rank f truth) (GivesOf whole main local_size rank f type) s test (choice_from t a b) on flow
      (λ x u. from_stays t a b x u first second)
      (λ x u now value wider also inside. from_flows t a b x truth type deep asks more one_splits two_splits now u of (type_on whole main local_size rank f sorted s u t type (later_of also) same) value first second
      (λ v then. first_flows v (later_then s u v (later_of also) then)) (λ v then. second_flows v (later_then s u v (later_of also) then)))))
    where
      or_true : (b : Bool) → (b || true) ≡ true
      or_true true = refl
      or_true false = refl
