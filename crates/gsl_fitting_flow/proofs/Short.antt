-- The right operand of `&&` and `||` in a block of its own.
use Rattle.std.proofs.Common.{◌≡◌, ℕ, ◌+◌, ◌<◌, ◌≤◌, Bool, true, false, cond, ◌||◌, List, [], ◌∷◌, ◌++◌, length, refl, sym, ap, ◌∙◌, subst, suc, arith}
use Rattle.std.specs.Prelude.{◌==◌, nat_le}
use Rattle.std.proofs.lemmas.Bool.{eqb-true, or_from, true≢false}
use Rattle.gsl_blocks.specs.declared.around.Around.{Around}
use Rattle.gsl_blocks.specs.declared.around.Due.{Due}
use Rattle.gsl_blocks.specs.Around.{in_arm}
use Rattle.gsl_blocks.specs.Order.{run}
use Rattle.gsl_instr.specs.declared.op.TheConstants as op
use Rattle.gsl_types.specs.declared.ty.Ty.{Ty}
use Rattle.gsl_tree.specs.Shapes.{flag}
use Rattle.gsl_tree.specs.declared.expr.LogicOp.{LogicOp}
use Rattle.gsl_tree.specs.declared.expr.LogicOp.TheVariants as logic
use Rattle.gsl_words.specs.declared.module.Module.{Module}
use Rattle.gsl_valid.specs.EntryRules.{is_among}
use Rattle.gsl_valid.specs.LimitRules.{most_constructs}
use Rattle.gsl_valid.specs.Placed.{Code}
use Rattle.gsl_spv.specs.Calls as call
use Rattle.gsl_spv.specs.Finished.{module_of}
use Rattle.gsl_spv.specs.Growing.{Extends, all_of}
use Rattle.gsl_spv.specs.Sections.{Sections}
use Rattle.gsl_spv.specs.declared.refusal.TheConstants.{MOST_IDS}
use Rattle.gsl_spv.proofs.Extending.{extends_take, extends_then}
use Rattle.gsl_lower_values.specs.Building.{Made, Full}
use Rattle.gsl_lower_holders.specs.Flow.{Emit, Flow, Lowered, Gives, Lacks, behind, built_in, given as give, fresh, opening}
use Rattle.gsl_lower_holders.specs.Waiting.{fetch, keep}
use Rattle.gsl_lower_holders.specs.Ways.{begin_short, choosing, fork, join, targets}
use Rattle.gsl_lower_holders.specs.declared.blocks.Fork.{Fork}
use Rattle.gsl_lower_holders.specs.declared.place.FlowPlace.{FlowPlace}
use Rattle.gsl_fitting.specs.Fits.{Frame, In, is_mark}
use Rattle.gsl_fitting_sections.specs.Sections.{AreApart}
use Rattle.gsl_fitting_shapes.specs.Fresh.{Fresh}
use Rattle.gsl_fitting_shapes.proofs.Labels.{later as fresh_later, other}
use Rattle.gsl_fitting_types.specs.Making.{AreSorted, IsTypeOf, made}
use Rattle.gsl_fitting_flow.specs.Flowing.{Carries, Crosses, EmitStays, FlowStays, Flows, GivesOf, Hold, IsHolder, IsOf, IsTypeFor, IsLater, Widens}
use Rattle.gsl_fitting_flow.proofs.Branching.{chosen, chosen_bridge, chosen_code, first_way, jumped, second_way}
use Rattle.gsl_fitting_flow.proofs.Following.{emit_then, flow_same, flows_so, flows_then, later_of, later_then, taken_behind}
use Rattle.gsl_fitting_flow.proofs.Holding.{fetch_flows, fetch_stays, keep_flows, keep_stays, of_later, type_on}
use Rattle.gsl_fitting_flow.proofs.Meeting.{Arm, arm_done, arm_link, kept_in}
use Rattle.gsl_fitting_flow.proofs.Owing.{AreOwed, Bridge, FromTo, Link, bridge_then, fine_all, from_then, label_marks, link_then, part_bridge, part_link, stays_all, taken_owed}

pub behind_assoc : {A B C : Type 0} (lowered : Lowered A) (next : A → Emit B) (then : B → Emit C) → behind (behind lowered next) then ≡ behind lowered (λ a s. behind (next a s) then)
behind_assoc (Gives a s) next then = refl
behind_assoc Lacks next then = refl

-- ids that were taken
abbrev pub with_last : ℕ → Flow → Flow
with_last last s = record s { sections = record s.sections { last = last } }

-- ---- behind the left operand, which is in a holder

abbrev begin_rest : LogicOp → ℕ → ℕ → Emit Fork
begin_rest which x h = λ s. behind (fresh s) (λ right t. behind (fresh t) (λ end u. behind (choosing end (targets which x right end) right u) (λ done. give (fork h right end))))

abbrev go_on : Ty → Emit ℕ → Fork → Emit ℕ
go_on t second f s = behind (second s) (join t f)

abbrev short_rest : LogicOp → Ty → Emit ℕ → ℕ → ℕ → Emit ℕ
short_rest which t second x h s = behind (begin_rest which x h s) (go_on t second)

abbrev opened : LogicOp → ℕ → Flow → Flow
opened which x s = chosen (s.sections.last + 1 + 1) (targets which x (s.sections.last + 1) (s.sections.last + 1 + 1)) (s.sections.last + 1) (with_last (s.sections.last + 1 + 1) s)

-- where both ways meet
abbrev pub met : ℕ → ℕ → ℕ → Flow → Flow
met end h y u = jumped end end (kept_in h y u)

opened_later : (which : LogicOp) (x : ℕ) (s : Flow) → IsLater s (opened which x s)
opened_later which x s = record {
  sections =
      extends_then (extends_then (extends_take s.sections) (extends_take (with_last (s.sections.last + 1) s).sections))
      (chosen_bridge (module_of s.sections 0 []) (s.sections.last + 1 + 1) (targets which x (s.sections.last + 1) (s.sections.last + 1 + 1)) (s.sections.last + 1) (with_last (s.sections.last + 1 + 1) s)).link.extends;
  place = refl;
}

pub jumped_later : (h y end next : ℕ) (u : Flow) → IsLater u (jumped end next (kept_in h y u))
jumped_later h y end next u = record { sections = (arm_link h y end next u u (flow_same u)).extends; place = refl }

opened_then : (which : LogicOp) (x h y : ℕ) (s u : Flow) → IsLater (opened which x s) u → IsLater s (met (s.sections.last + 1 + 1) h y u)
opened_then which x h y s u later =
    later_then s u (met (s.sections.last + 1 + 1) h y u) (later_then s (opened which x s) u (opened_later which x s) later) (jumped_later h y (s.sections.last + 1 + 1) (s.sections.last + 1 + 1) u)

pub greater : (a b : ℕ) → b < a → (a == b) ≡ false
greater a b lt = by (a == b) refl
  where
    by : (c : Bool) → (a == b) ≡ c → (a == b) ≡ false
    by true e = let same = eqb-true a b e in absurd (omega (arith, same, lt))
    by false e = e

next_other : (n : ℕ) → is_among ((n + 1) ∷ []) (n + 1 + 1) ≡ false
next_other n = or_from ((n + 1) == (n + 1 + 1)) false (other (n + 1) (n + 1 + 1) (omega arith)) refl

short_link : (which : LogicOp) (x h y : ℕ) (s u v : Flow) → FlowStays (opened which x s) u → FlowStays (met (s.sections.last + 1 + 1) h y u) v
    → Link ((s.sections.last + 1) ∷ (s.sections.last + 1 + 1) ∷ []) (with_last (s.sections.last + 1 + 1) s).sections v.sections
short_link which x h y s u v stays later =
    let n = s.sections.last in
    link_then ((n + 1) ∷ []) ((n + 1 + 1) ∷ []) (with_last (n + 1 + 1) s).sections (opened which x s).sections v.sections (next_other n, tt)
    (chosen_bridge (module_of s.sections 0 []) (n + 1 + 1) (targets which x (n + 1) (n + 1 + 1)) (n + 1) (with_last (n + 1 + 1) s)).link
    (link_then ((n + 1 + 1) ∷ []) [] (opened which x s).sections (met (n + 1 + 1) h y u).sections v.sections tt (arm_link h y (n + 1 + 1) (n + 1 + 1) (opened which x s) u stays) (part_link (met (n + 1 + 1) h y u).sections v.sections later.sections))

short_owed : (s : Sections) → AreApart (s.last + 1) (all_of s) → AreOwed (record s { last = s.last + 1 + 1 }) ((s.last + 1) ∷ (s.last + 1 + 1) ∷ [])
short_owed s apart = (taken_owed s (s.last + 1) (s.last + 1 + 1) apart (omega arith) (omega arith), (taken_owed s (s.last + 1 + 1) (s.last + 1 + 1) apart (omega arith) (omega arith), tt))

short_others : (n id : ℕ) → id ≤ n → is_among ((n + 1) ∷ (n + 1 + 1) ∷ []) id ≡ false
short_others n id low = or_from ((n + 1) == id) _ (greater (n + 1) id (omega (arith, low))) (or_from ((n + 1 + 1) == id) false (greater (n + 1 + 1) id (omega (arith, low))) refl)

short_all : (which : LogicOp) (x h y : ℕ) (s u v : Flow) → FlowStays (opened which x s) u → FlowStays (met (s.sections.last + 1 + 1) h y u) v → FlowStays s v
short_all which x h y s u v stays later = record {
  sections = stays_all ((s.sections.last + 1) ∷ (s.sections.last + 1 + 1) ∷ []) s.sections v.sections (s.sections.last + 1 + 1) (omega arith) (short_link which x h y s u v stays later) (short_owed s.sections) (λ id low. short_others s.sections.last id low);
  place = later.place ∙ ap (λ (p : FlowPlace). record p { label = v.place.label; used = v.place.used }) stays.place;
  used = let first : s.place.used ≤ u.place.used = stays.used in let second : u.place.used ≤ v.place.used = later.used in omega (arith, first, second);
}

rest_stays : (which : LogicOp) (t : Ty) (second : Emit ℕ) (x h : ℕ) (s : Flow) → ((u : Flow) → EmitStays u (second u)) → EmitStays s (short_rest which t second x h s)
unfolding opening join fetch
rest_stays which t second x h s stays = by_right (nat_le (s.sections.last + 1) MOST_IDS)
  where
    n : ℕ
    n = s.sections.last

    by_tail : (y : ℕ) (u : Flow) → FlowStays (opened which x s) u → (lowered : Lowered ℕ) → EmitStays (met (s.sections.last + 1 + 1) h y u) lowered → EmitStays s lowered
    by_tail y u on (Gives id v) later = short_all which x h y s u v on later
    by_tail y u on Lacks later = tt

    by_second : (lowered : Lowered ℕ) → EmitStays (opened which x s) lowered → EmitStays s (behind lowered (join t (fork h (s.sections.last + 1) (s.sections.last + 1 + 1))))
    by_second (Gives y u) on = by_tail y u on (fetch true t h (met (s.sections.last + 1 + 1) h y u)) (fetch_stays true t h (met (s.sections.last + 1 + 1) h y u))
    by_second Lacks on = tt

    by_end : (b : Bool) → EmitStays s (behind (behind (built_in s.place (cond b (Made (s.sections.last + 1 + 1) (record s.sections { last = s.sections.last + 1 + 1 })) Full))
        (λ end u. behind (choosing end (targets which x (s.sections.last + 1) end) (s.sections.last + 1) u) (λ done. give (fork h (s.sections.last + 1) end)))) (go_on t second))
    by_end true = by_second (second (opened which x s)) (stays (opened which x s))
    by_end false = tt

    by_right : (b : Bool) → EmitStays s (behind (behind (built_in s.place (cond b (Made (s.sections.last + 1) (record s.sections { last = s.sections.last + 1 })) Full))
        (λ right t. behind (fresh t) (λ end u. behind (choosing end (targets which x right end) right u) (λ done. give (fork h right end))))) (go_on t second))
    by_right true = by_end (nat_le (s.sections.last + 1 + 1) MOST_IDS)
    by_right false = tt

-- ---- the whole

abbrev short_from : LogicOp → Ty → Emit ℕ → ℕ → Emit ℕ
short_from which t second x s = behind (begin_short which x s) (go_on t second)

from_stays : (which : LogicOp) (t : Ty) (second : Emit ℕ) (x : ℕ) (s : Flow) → ((u : Flow) → EmitStays u (second u)) → EmitStays s (short_from which t second x s)
unfolding begin_short
from_stays which t second x s stays =
    subst (EmitStays s) (sym (behind_assoc (keep x s) (λ h. begin_rest which x h) (go_on t second))) (emit_then s (keep x s) (short_rest which t second x) (keep_stays x s) (λ h u. rest_stays which t second x h u stays))

pub short_stays : (which : LogicOp) (t : Ty) (second : Emit ℕ) (s : Flow) (first : Lowered ℕ) → EmitStays s first → ((u : Flow) → EmitStays u (second u)) → EmitStays s (behind (behind first (begin_short which)) (go_on t second))
short_stays which t second s first on stays =
    subst (EmitStays s) (sym (behind_assoc first (begin_short which) (go_on t second))) (emit_then s first (short_from which t second) on (λ x u. from_stays which t second x u stays))

module _ (whole : Sections) (main : ℕ) (local_size : List ℕ) (rank : ℕ → ℕ) (f : Frame) (sorted : AreSorted whole) where
  abbrev m : Module
  m = made whole main local_size rank f

  abbrev D : List ℕ → ℕ → Bool → List ℕ → ℕ → Flow → Lowered ℕ → Type 0
  D asks deep splits given type s lowered = Flows whole main local_size rank f asks deep splits given (GivesOf whole main local_size rank f type) s lowered

  -- the way that is entered
  way : (which : LogicOp) (given : List ℕ) (x type end right least l : ℕ) (c : Around) (due : List Due) → IsTypeOf whole flag type → IsOf whole main local_size rank f given type x → is_mark m end ≡ true → is_mark m right ≡ true → Fresh c least → least ≤ right → right < end → c.depth < most_constructs
      → FromTo m rank f (chosen_code end (targets which x right end) right) (In l c given due) (In right (in_arm c end) [] (run end c ∷ due))
  way logic.And given x type end right least l c due of v mark one fresh le lt deep = first_way whole main local_size rank f sorted given x type end right least l c due of v mark one fresh le lt deep
  way logic.Or given x type end right least l c due of v mark one fresh le lt deep = second_way whole main local_size rank f sorted given x type end right least l c due of v mark one fresh le lt deep
  way logic.Xor given x type end right least l c due of v mark one fresh le lt deep = first_way whole main local_size rank f sorted given x type end right least l c due of v mark one fresh le lt deep

  rest_crosses : (which : LogicOp) (given : List ℕ) (x type h y deep : ℕ) (splits : Bool) (between now : List ℕ) (s u v : Flow) → IsTypeOf whole flag type → IsOf whole main local_size rank f given type x → IsHolder whole main local_size rank f type h → FlowStays (opened which x s) u
      → Crosses m rank f deep splits [] between (opened which x s) u → IsOf whole main local_size rank f between type y → FlowStays (met (s.sections.last + 1 + 1) h y u) v → Crosses m rank f (suc deep) false [] now (met (s.sections.last + 1 + 1) h y u) v → Extends v.sections whole
      → Crosses m rank f (suc deep) true given now s v
  rest_crosses which given x type h y deep splits between now s u v of value holder on crosses is later tail inside =
      record {
        fine = fine_all m code ((n + 1) ∷ (n + 1 + 1) ∷ []) s.sections v.sections (n + 1 + 1) (omega arith) bridge (short_owed s.sections);
        code = code;
        puts = bridge.puts;
        fits = λ follows c due fresh low. fits c due fresh low follows;
        same = λ e. absurd (true≢false e);
      }
    where
      n : ℕ
      n = s.sections.last

      start : Extends (met (s.sections.last + 1 + 1) h y u).sections whole
      start = extends_then later.sections.extends inside

      mark : is_mark m (s.sections.last + 1 + 1) ≡ true
      mark = label_marks whole main local_size rank f sorted (s.sections.last + 1 + 1) (call.put op.BRANCH ((s.sections.last + 1 + 1) ∷ []) (kept_in h y u).sections) start

      arm : Arm whole main local_size rank f sorted deep (s.sections.last + 1 + 1) (s.sections.last + 1 + 1) (opened which x s) (met (s.sections.last + 1 + 1) h y u)
      arm = arm_done whole main local_size rank f sorted deep splits between type h y (s.sections.last + 1 + 1) (s.sections.last + 1 + 1) (opened which x s) u on crosses holder is start mark

      first : is_mark m (s.sections.last + 1) ≡ true
      first =
          label_marks whole main local_size rank f sorted (s.sections.last + 1)
          (call.put op.BRANCH_CONDITIONAL (targets which x (s.sections.last + 1) (s.sections.last + 1 + 1)) (call.put op.SELECTION_MERGE ((s.sections.last + 1 + 1) ∷ 0 ∷ []) (with_last (s.sections.last + 1 + 1) s).sections)) (extends_then arm.bridge.link.extends start)

      opening_code : Code
      opening_code = chosen_code (s.sections.last + 1 + 1) (targets which x (s.sections.last + 1) (s.sections.last + 1 + 1)) (s.sections.last + 1)

      code : Code
      code = opening_code ++ (arm.code ++ tail.code)

      bridge : Bridge m code ((s.sections.last + 1) ∷ (s.sections.last + 1 + 1) ∷ []) (with_last (s.sections.last + 1 + 1) s).sections v.sections
      bridge =
          bridge_then m opening_code (arm.code ++ tail.code) ((s.sections.last + 1) ∷ []) ((s.sections.last + 1 + 1) ∷ []) (with_last (s.sections.last + 1 + 1) s).sections (opened which x s).sections v.sections (next_other s.sections.last, tt)
          (chosen_bridge m (s.sections.last + 1 + 1) (targets which x (s.sections.last + 1) (s.sections.last + 1 + 1)) (s.sections.last + 1) (with_last (s.sections.last + 1 + 1) s))
          (bridge_then m arm.code tail.code ((s.sections.last + 1 + 1) ∷ []) [] (opened which x s).sections (met (s.sections.last + 1 + 1) h y u).sections v.sections tt arm.bridge
          (part_bridge m rank f (suc deep) false [] now (met (s.sections.last + 1 + 1) h y u) v later tail))

      fits : (c : Around) (due : List Due) → Fresh c (s.sections.last + 1) → c.depth + suc deep ≤ most_constructs → FromTo m rank f code (In s.place.label c given due) (In v.place.label c now due)
      fits c due fresh low =
          let most = arm.bridge.link.extends.last in
          from_then m rank f opening_code (arm.code ++ tail.code) (In s.place.label c given due) (In (s.sections.last + 1) (in_arm c (s.sections.last + 1 + 1)) [] (run (s.sections.last + 1 + 1) c ∷ due)) (In v.place.label c now due)
          (way which given x type (s.sections.last + 1 + 1) (s.sections.last + 1) (s.sections.last + 1) s.place.label c due of value mark first fresh (omega arith) (omega arith) (omega (arith, low)))
          (from_then m rank f arm.code tail.code (In (s.sections.last + 1) (in_arm c (s.sections.last + 1 + 1)) [] (run (s.sections.last + 1 + 1) c ∷ due)) (In (s.sections.last + 1 + 1) c [] due) (In v.place.label c now due)
          (arm.fits c c due (fresh_later c (s.sections.last + 1) (s.sections.last + 1 + 1 + 1) (omega arith) fresh) (omega arith) low)
          (λ follows go. tail.fits follows c due (fresh_later c (s.sections.last + 1) ((met (s.sections.last + 1 + 1) h y u).sections.last + 1) (omega (arith, most)) fresh) low go))

  -- ---- behind the left operand

  module _ (which : LogicOp) (t : Ty) (second : Emit ℕ) (x h type deep : ℕ) (asks : List ℕ) (splits : Bool) (given : List ℕ) (s : Flow) (of : IsTypeOf whole flag type) (same : IsTypeFor whole main local_size rank f s.place t type) (value : IsOf whole main local_size rank f given type x)
      (holder : IsHolder whole main local_size rank f type h) (stays : (u : Flow) → EmitStays u (second u)) (flows : (u : Flow) → IsLater s u → D asks deep splits [] type u (second u)) where
    by_tail : (y : ℕ) (u : Flow) (between : List ℕ) → FlowStays (opened which x s) u → ((inside : Extends u.sections whole) → Hold whole main local_size rank f s.place.holders s.place.used asks → Carries whole main local_size rank f asks deep splits [] (GivesOf whole main local_size rank f type) (opened which x s) y u) → (lowered : Lowered ℕ)
        → EmitStays (met (s.sections.last + 1 + 1) h y u) lowered → D [] (suc deep) false [] type (met (s.sections.last + 1 + 1) h y u) lowered → D asks (suc deep) true given type s lowered
    by_tail y u between on first (Gives id v) later tail = λ inside hold.
        let start = extends_then later.sections.extends inside in
        let a = first (extends_then (arm_link h y (s.sections.last + 1 + 1) (s.sections.last + 1 + 1) u u (flow_same u)).extends start) hold in
        let b = tail inside tt in
        record {
          now = b.now;
          crosses = rest_crosses which given x type h y deep splits a.now b.now s u v of value holder on a.crosses a.is later b.crosses inside;
          taken = taken_behind s.place.used u.place.used v.place.used (length asks) a.taken b.taken;
          is = b.is;
        }
    by_tail y u between on first Lacks later tail = tt

    by_second : (lowered : Lowered ℕ) → EmitStays (opened which x s) lowered → D asks deep splits [] type (opened which x s) lowered → D asks (suc deep) true given type s (behind lowered (join t (fork h (s.sections.last + 1) (s.sections.last + 1 + 1))))
    unfolding opening join fetch
    by_second (Gives y u) on first =
        let end = met (s.sections.last + 1 + 1) h y u in
        by_tail y u [] on first (fetch true t h end) (fetch_stays true t h end)
        (fetch_flows whole main local_size rank f sorted true (suc deep) [] t type h end (type_on whole main local_size rank f sorted s end t type (opened_then which x h y s u (later_of on)) same) holder)
    by_second Lacks on first = tt

    rest_flows : D asks (suc deep) true given type s (short_rest which t second x h s)
    unfolding opening
    rest_flows = by_right (nat_le (s.sections.last + 1) MOST_IDS)
      where
        by_end : (b : Bool) → D asks (suc deep) true given type s (behind (behind (built_in s.place (cond b (Made (s.sections.last + 1 + 1) (record s.sections { last = s.sections.last + 1 + 1 })) Full))
            (λ end u. behind (choosing end (targets which x (s.sections.last + 1) end) (s.sections.last + 1) u) (λ done. give (fork h (s.sections.last + 1) end)))) (go_on t second))
        by_end true = by_second (second (opened which x s)) (stays (opened which x s)) (flows (opened which x s) (opened_later which x s))
        by_end false = tt

        by_right : (b : Bool) → D asks (suc deep) true given type s (behind (behind (built_in s.place (cond b (Made (s.sections.last + 1) (record s.sections { last = s.sections.last + 1 })) Full))
            (λ right t. behind (fresh t) (λ end u. behind (choosing end (targets which x right end) right u) (λ done. give (fork h right end))))) (go_on t second))
        by_right true = by_end (nat_le (s.sections.last + 1 + 1) MOST_IDS)
        by_right false = tt

  from_flows : (which : LogicOp) (t : Ty) (second : Emit ℕ) (x type deep : ℕ) (asks : List ℕ) (splits : Bool) (given : List ℕ) (s : Flow) → IsTypeOf whole flag type → IsTypeFor whole main local_size rank f s.place t type → IsOf whole main local_size rank f given type x → ((u : Flow) → EmitStays u (second u))
      → ((u : Flow) → IsLater s u → D asks deep splits [] type u (second u)) → D (type ∷ asks) (suc deep) true given type s (short_from which t second x s)
  unfolding begin_short
  from_flows which t second x type deep asks splits given s of same value stays flows =
      subst (D (type ∷ asks) (suc deep) true given type s) (sym (behind_assoc (keep x s) (λ h. begin_rest which x h) (go_on t second)))
      (flows_then whole main local_size rank f (type ∷ []) asks (suc deep) false true given (λ h now after. IsHolder whole main local_size rank f type h × Widens given now) (GivesOf whole main local_size rank f type) s (keep x s) (short_rest which t second x) (keep_stays x s)
      (flows_so whole main local_size rank f (type ∷ []) (suc deep) false given (λ h now after. IsHolder whole main local_size rank f type h) (λ h now after. IsHolder whole main local_size rank f type h × Widens given now) s (keep x s) (λ h now after inside wider is. (is, wider refl)) (keep_flows whole main local_size rank f sorted (suc deep) given type x s value))
      (λ h u. rest_stays which t second x h u stays)
      (λ h u now is wider on inside. rest_flows which t second x h type deep asks splits now u of (type_on whole main local_size rank f sorted s u t type (later_of on) same) (of_later whole main local_size rank f sorted given now type x is.1 value) is.0 stays
      (λ v also. flows v (later_then s u v (later_of on) also))))

  pub short_flows : (which : LogicOp) (t : Ty) (second : Emit ℕ) (type deep : ℕ) (asks more : List ℕ) (first_splits splits : Bool) (given : List ℕ) (s : Flow) (first : Lowered ℕ) → IsTypeOf whole flag type → IsTypeFor whole main local_size rank f s.place t type → EmitStays s first
      → D asks (suc deep) first_splits given type s first → ((u : Flow) → EmitStays u (second u)) → ((u : Flow) → IsLater s u → D more deep splits [] type u (second u))
      → D (asks ++ type ∷ more) (suc deep) true given type s (behind (behind first (begin_short which)) (go_on t second))
  short_flows which t second type deep asks more first_splits splits given s first of same on flow stays flows =
      subst (D (asks ++ type ∷ more) (suc deep) true given type s) (sym (behind_assoc first (begin_short which) (go_on t second)))
      (subst (λ b. D (asks ++ type ∷ more) (suc deep) b given type s (behind first (short_from which t second))) (or_true first_splits)
      (flows_then whole main local_size rank f asks (type ∷ more) (suc deep) first_splits true given (GivesOf whole main local_size rank f type) (GivesOf whole main local_size rank f type) s first (short_from which t second) on flow (λ x u. from_stays which t second x u stays)
      (λ x u now value wider also inside. from_flows which t second x type deep more splits now u of (type_on whole main local_size rank f sorted s u t type (later_of also) same) value stays (λ v then. flows v (later_then s u v (later_of also) then)))))
    where
      or_true : (b : Bool) → (b || true) ≡ true
      or_true true = refl
      or_true false = refl
