-- Arms, each of which falls through to the next.
use Rattle.std.proofs.Common.{◌≡◌, ℕ, ◌+◌, ◌<◌, ◌≤◌, Bool, true, false, List, [], ◌∷◌, ◌++◌, ◌||◌, length, refl, sym, subst, suc, append-nil, arith}
use Rattle.std.specs.Prelude.{◌==◌}
use Rattle.std.specs.List.{AllByRecursion}
use Rattle.std.proofs.lemmas.Bool.{eq-eqb, or_from, or_right}
use Rattle.std.proofs.lemmas.List.{length-append}
use Rattle.gsl_blocks.specs.declared.around.Around.{Around}
use Rattle.gsl_blocks.specs.declared.around.Due.{Due}
use Rattle.gsl_blocks.specs.Around.{in_case, is_exit, is_id, may_end}
use Rattle.gsl_blocks.specs.Order.{cases, first_or}
use Rattle.gsl_instr.specs.Forms.{form_of}
use Rattle.gsl_instr.specs.declared.op.TheConstants as op
use Rattle.gsl_words.specs.declared.module.Module.{Module}
use Rattle.gsl_valid.specs.LimitRules.{most_constructs}
use Rattle.gsl_valid.specs.Placed.{Code}
use Rattle.gsl_spv.specs.Calls as call
use Rattle.gsl_spv.specs.Declarations.{instr}
use Rattle.gsl_spv.specs.Finished.{module_of}
use Rattle.gsl_spv.specs.Growing.{Extends}
use Rattle.gsl_spv.specs.Sections.{Sections}
use Rattle.gsl_spv.proofs.Extending.{extends_then}
use Rattle.gsl_lower_holders.specs.Flow.{Emit, Flow, Gives, Lacks, Lowered, behind, opening}
use Rattle.gsl_lower_stmt.specs.Lowering.{words_of}
use Rattle.gsl_lower_stmt.specs.Parts.{LowerArm, falling, in_switch, next_or, seal}
use Rattle.gsl_lower_stmt.specs.declared.exits.Exits.{Exits}
use Rattle.gsl_fitting.specs.Fits.{Behind, Fits, Frame, In, is_mark}
use Rattle.gsl_fitting_shapes.specs.Fresh.{Fresh}
use Rattle.gsl_fitting_shapes.proofs.Labels.{case_ends, case_fresh, later as fresh_later, other}
use Rattle.gsl_fitting_types.specs.Making.{AreSorted, made}
use Rattle.gsl_fitting_types.proofs.Knowing.{some_is}
use Rattle.gsl_fitting_flow.specs.Flowing.{EmitStays, FlowStays, Hold, IsLater}
use Rattle.gsl_fitting_flow.proofs.Branching.{branch_sits}
use Rattle.gsl_fitting_flow.proofs.Following.{flow_same, hold_back, hold_front, hold_on, later_of, later_then, none_taken, taken_both}
use Rattle.gsl_fitting_flow.proofs.Owing.{Bridge, FromTo, bridge_then, from_then, label_bridge, part_link, put_bridge}
use Rattle.gsl_fitting_stmt.specs.Doing.{AreExits, AreLabels, Does, StmtFlows, at_end}
use Rattle.gsl_fitting_stmt.proofs.Forking.{shut}
use Rattle.gsl_fitting_loops.proofs.Phases.{AreOthers, Next, PhaseStays, all_marks, later_next, next_of, next_then, no_others, stands_last}
use Rattle.gsl_fitting_switch.specs.Choosing.{ArmsRun}
use Rattle.gsl_fitting_switch.proofs.Targets.{labels_between, labels_from, last_of, last_up}

-- ---- where flows lead

abbrev pub opened : ℕ → Flow → Flow
opened label s = record { sections = call.put op.LABEL (label ∷ []) s.sections; place = record s.place { label = label } }

abbrev shut_flow : Bool → ℕ → Flow → Flow
shut_flow left next s = record { sections = shut left next s.sections; place = s.place }

abbrev shut_code : Bool → ℕ → Code
shut_code true next = []
shut_code false next = instr op.BRANCH (next ∷ []) ∷ []

shut_bridge : (m : Module) (left : Bool) (next : ℕ) (s : Flow) → Bridge m (shut_code left next) [] s.sections (shut_flow left next s).sections
unfolding form_of
shut_bridge m true next s = record { link = part_link s.sections s.sections (flow_same s).sections; puts = sym (append-nil s.sections.functions); fine = λ o h. h }
shut_bridge m false next s = put_bridge m op.BRANCH (next ∷ []) s.sections refl

seal_gives : (left : Bool) (next : ℕ) (s : Flow) → seal left next s ≡ Gives tt (shut_flow left next s)
unfolding seal
seal_gives true next s = refl
seal_gives false next s = refl

next_is : (end : ℕ) (labels : List ℕ) → next_or end labels ≡ first_or end labels
next_is end [] = refl
next_is end (label ∷ labels) = refl

-- ---- what stays

rest_others : {A : Type 0} (n : ℕ) (items : List A) → AreOthers ((n + 1) ∷ []) (labels_from (n + 1) items)
rest_others n items = by (labels_from (n + 1) items) (labels_between (n + 1) items)
  where
    by : (ids : List ℕ) → AllByRecursion (λ id. (n + 1 < id) × (id ≤ last_of (n + 1) items)) ids → AreOthers ((n + 1) ∷ []) ids
    by [] h = tt
    by (id ∷ ids) h = (or_from ((n + 1) == id) false (other (n + 1) id h.0.0) refl, by ids h.1)

pub opened_next : (label : ℕ) (t : Flow) → Next (label ∷ []) t (opened label t)
opened_next label t = record { link = (label_bridge (module_of t.sections 0 []) label t.sections).link; place = refl; used = omega arith; labels = (stands_last label t.sections, tt) }

shut_next : (left : Bool) (next : ℕ) (s : Flow) → Next [] s (shut_flow left next s)
shut_next left next s = record { link = (shut_bridge (module_of s.sections 0 []) left next s).link; place = refl; used = omega arith; labels = tt }

abbrev behind_arm : ℕ → ℕ → LowerArm → List LowerArm → Exits → Emit (Unit {0})
behind_arm end n arm arms exits v = behind (seal arm.leaves (next_or end (labels_from (n + 1) (words_of arms))) v) (λ done. falling end (labels_from (n + 1) (words_of arms)) arms exits)

module _ (whole : Sections) (main : ℕ) (local_size : List ℕ) (rank : ℕ → ℕ) (f : Frame) where
  pub fall_stays : (s : Flow) (deep : ℕ) (end : ℕ) (exits : Exits) (arms : List LowerArm) (asks : List ℕ) → ArmsRun whole main local_size rank f s deep arms asks → (n : ℕ) (t : Flow) → PhaseStays (labels_from n (words_of arms)) t (falling end (labels_from n (words_of arms)) arms exits t)
  unfolding falling opening
  fall_stays s deep end exits _ _ ArmsRun.no_arm n t = next_of t t (flow_same t)
  fall_stays s deep end exits _ _ (ArmsRun.one_arm {arm} {arms} {asks} {others} r more) n t =
      by (arm.run (in_switch end exits) (opened (n + 1) t)) ((r (in_switch end exits)).stays (opened (n + 1) t)) (λ v. fall_stays s deep end exits arms others more (n + 1) (shut_flow arm.leaves (next_or end (labels_from (n + 1) (words_of arms))) v))
    where
      by_rest : (v : Flow) → FlowStays (opened (n + 1) t) v → (lowered : Lowered (Unit {0})) → PhaseStays (labels_from (n + 1) (words_of arms)) (shut_flow arm.leaves (next_or end (labels_from (n + 1) (words_of arms))) v) lowered → PhaseStays ((n + 1) ∷ labels_from (n + 1) (words_of arms)) t lowered
      by_rest v stays (Gives done w) x =
          let ls = labels_from (n + 1) (words_of arms) in
          let shut_v = shut_flow arm.leaves (next_or end (labels_from (n + 1) (words_of arms))) v in
          next_then ((n + 1) ∷ []) ls t (opened (n + 1) t) w (rest_others n (words_of arms)) (opened_next (n + 1) t) (next_then [] ls (opened (n + 1) t) v w (no_others ls) (next_of (opened (n + 1) t) v stays) (next_then [] ls v shut_v w (no_others ls) (shut_next arm.leaves (next_or end ls) v) x))
      by_rest v stays Lacks x = tt

      by : (lowered : Lowered (Unit {0})) → EmitStays (opened (n + 1) t) lowered
          → ((v : Flow) → PhaseStays (labels_from (n + 1) (words_of arms)) (shut_flow arm.leaves (next_or end (labels_from (n + 1) (words_of arms))) v) (falling end (labels_from (n + 1) (words_of arms)) arms exits (shut_flow arm.leaves (next_or end (labels_from (n + 1) (words_of arms))) v)))
          → PhaseStays ((n + 1) ∷ labels_from (n + 1) (words_of arms)) t (behind lowered (λ done. behind_arm end n arm arms exits))
      by (Gives done v) stays rest =
          subst (λ lowered. PhaseStays ((n + 1) ∷ labels_from (n + 1) (words_of arms)) t (behind lowered (λ done. falling end (labels_from (n + 1) (words_of arms)) arms exits))) (sym (seal_gives arm.leaves (next_or end (labels_from (n + 1) (words_of arms))) v))
          (by_rest v stays (falling end (labels_from (n + 1) (words_of arms)) arms exits (shut_flow arm.leaves (next_or end (labels_from (n + 1) (words_of arms))) v))
          (rest v))
      by Lacks stays rest = tt

module _ (whole : Sections) (main : ℕ) (local_size : List ℕ) (rank : ℕ → ℕ) (f : Frame) (sorted : AreSorted whole) where
  abbrev m : Module
  m = made whole main local_size rank f

  -- From the runs of the arms to what is due behind them.
  pub record Falls (deep end : ℕ) (exits : Exits) (asks labels : List ℕ) (before after : Flow) : Type 0 where
    pub code : Code
    pub bridge : Bridge m code labels before.sections after.sections
    pub fits : (c : Around) (due : List Due) → Fresh c (before.sections.last + 1) → AreExits c exits → c.leaves ≡ true → c.depth + suc deep ≤ most_constructs → FromTo m rank f code (Behind (cases c end end labels due)) (Behind due)
    pub taken : after.place.used ≡ before.place.used + length asks

  abbrev pub FallFlows : ℕ → ℕ → Exits → List ℕ → List ℕ → Flow → Lowered (Unit {0}) → Type 0
  FallFlows deep end exits asks labels before (Gives done after) = Extends after.sections whole → AreLabels m exits → is_mark m end ≡ true → Hold whole main local_size rank f before.place.holders before.place.used asks → Falls deep end exits asks labels before after
  FallFlows deep end exits asks labels before Lacks = Unit {0}

  case_leads : (c : Around) (end next : ℕ) (exits : Exits) → AreExits c exits → AreExits (in_case c end next) (in_switch end exits)
  case_leads c end next exits leads = record {
    breaks = λ label e. subst (λ z. is_exit (in_case c end next) z ≡ true) (some_is end label e) (or_right (is_id c.loop_merge end || is_id c.loop_continue end) _ (eq-eqb end end refl));
    continues = λ label e. leads.continues label e;
  }

  switch_labels : (end : ℕ) (exits : Exits) → AreLabels m exits → is_mark m end ≡ true → AreLabels m (in_switch end exits)
  switch_labels end exits labels mark = record { breaks = λ label e. subst (λ z. is_mark m z ≡ true) (some_is end label e) mark; continues = λ label e. labels.continues label e }

  shut_fits : (left : Bool) (end label : ℕ) (labels : List ℕ) (c : Around) (now : List ℕ) (due : List Due) → is_mark m (next_or end labels) ≡ true → FromTo m rank f (shut_code left (next_or end labels)) (at_end left label (in_case c end (first_or end labels)) now due) (Behind due)
  unfolding form_of
  shut_fits true end label labels c now due mark = λ follows h. h
  shut_fits false end label labels c now due mark = λ follows h.
      Fits.ends (next_or end labels) refl (subst (λ z. may_end (in_case c end (first_or end labels)) z ≡ true) (sym (next_is end labels)) (case_ends c end (first_or end labels))) (branch_sits whole main local_size rank f sorted now (next_or end labels) mark) h

  next_mark : (end : ℕ) (labels : List ℕ) → is_mark m end ≡ true → AllByRecursion (λ id. is_mark m id ≡ true) labels → is_mark m (next_or end labels) ≡ true
  next_mark end [] mark all = mark
  next_mark end (label ∷ labels) mark all = all.0

  first_low : (end n : ℕ) (words : List (List ℕ)) → last_of n words + 1 ≤ end → first_or end (labels_from n words) ≤ end
  first_low end n [] le = omega arith
  first_low end n (one ∷ words) le = let up = last_up (n + 1) words in omega (arith, le, up)

  -- one arm, and the arms behind it
  one_falls : (deep end n : ℕ) (exits : Exits) (left : Bool) (words : List (List ℕ)) (asks others : List ℕ) (t v w : Flow) → end ≤ t.sections.last → FlowStays (opened (n + 1) t) v → Does whole main local_size rank f asks deep left (in_switch end exits) [] (opened (n + 1) t) v
      → is_mark m (next_or end (labels_from (n + 1) words)) ≡ true → last_of (n + 1) words + 1 ≤ end → Next (labels_from (n + 1) words) (shut_flow left (next_or end (labels_from (n + 1) words)) v) w
      → Falls deep end exits others (labels_from (n + 1) words) (shut_flow left (next_or end (labels_from (n + 1) words)) v) w → Falls deep end exits (asks ++ others) ((n + 1) ∷ labels_from (n + 1) words) t w
  unfolding form_of
  one_falls deep end n exits left words asks others t v w high stays x mark top on y =
      let ls = labels_from (n + 1) words in
      let nx = next_or end ls in
      let shut_v = shut_flow left nx v in
      let more = stays.sections.extends.last in
      record {
        code = instr op.LABEL ((n + 1) ∷ []) ∷ (x.passes.code ++ (shut_code left nx ++ y.code));
        bridge =
            bridge_then m (instr op.LABEL ((n + 1) ∷ []) ∷ []) (x.passes.code ++ (shut_code left nx ++ y.code)) ((n + 1) ∷ []) ls t.sections (opened (n + 1) t).sections w.sections (rest_others n words) (label_bridge m (n + 1) t.sections)
            (bridge_then m x.passes.code (shut_code left nx ++ y.code) [] ls (opened (n + 1) t).sections v.sections w.sections (no_others ls) (record { link = part_link (opened (n + 1) t).sections v.sections stays.sections; puts = x.passes.puts; fine = λ o h. x.passes.fine h })
            (bridge_then m (shut_code left nx) y.code [] ls v.sections shut_v.sections w.sections (no_others ls) (shut_bridge m left nx v) y.bridge));
        fits = λ c due new leads may depth.
            let A = in_case c end (first_or end ls) in
            let D = cases c end end ls due in
            let first_le = first_low end (n + 1) words top in
            from_then m rank f (instr op.LABEL ((n + 1) ∷ []) ∷ []) (x.passes.code ++ (shut_code left nx ++ y.code)) (Behind (cases c end end ((n + 1) ∷ ls) due)) (In (n + 1) A [] D) (Behind due) (λ follows h. Fits.opens refl h)
            (from_then m rank f x.passes.code (shut_code left nx ++ y.code) (In (n + 1) A [] D) (at_end left v.place.label A x.now D) (Behind due)
            (λ follows h. x.passes.fits follows A D (case_fresh c (t.sections.last + 1) end (first_or end ls) (omega (arith, high)) (omega (arith, high, first_le)) new) (case_leads c end (first_or end ls) exits leads) may (omega (arith, depth)) h)
            (from_then m rank f (shut_code left nx) y.code (at_end left v.place.label A x.now D) (Behind D) (Behind due) (shut_fits left end v.place.label ls c x.now D mark)
            (y.fits c due (fresh_later c (t.sections.last + 1) (shut_v.sections.last + 1) (let same = (shut_next left nx v).link.extends.last in omega (arith, more, same)) new) leads may depth)));
        taken = subst (λ k. w.place.used ≡ t.place.used + k) (sym (length-append asks others)) (taken_both t.place.used v.place.used w.place.used (length asks) (length others) x.taken y.taken);
      }

  pub fall_flows : (s : Flow) (deep end : ℕ) (exits : Exits) (arms : List LowerArm) (asks : List ℕ) → ArmsRun whole main local_size rank f s deep arms asks → (n : ℕ) (t : Flow) → end ≤ t.sections.last → last_of n (words_of arms) + 1 ≤ end → IsLater s t
      → FallFlows deep end exits asks (labels_from n (words_of arms)) t (falling end (labels_from n (words_of arms)) arms exits t)
  unfolding falling opening
  fall_flows s deep end exits _ _ ArmsRun.no_arm n t high top here = λ inside labels mark hold. record {
    code = [];
    bridge = shut_bridge m true end t;
    fits = λ c due new leads may depth follows h. h;
    taken = none_taken whole main local_size rank f t.place.used;
  }
  fall_flows s deep end exits _ _ (ArmsRun.one_arm {arm} {arms} {asks} {others} r more) n t high top here =
      by (arm.run (in_switch end exits) (opened (n + 1) t)) ((r (in_switch end exits)).stays (opened (n + 1) t)) ((r (in_switch end exits)).flows [] (opened (n + 1) t) opened_on)
      (λ v high_v later. fall_flows s deep end exits arms others more (n + 1) (shut_flow arm.leaves (next_or end (labels_from (n + 1) (words_of arms))) v) high_v top later)
    where
      opened_on : IsLater s (opened (n + 1) t)
      opened_on = later_then s t (opened (n + 1) t) here (later_next ((n + 1) ∷ []) t (opened (n + 1) t) (opened_next (n + 1) t))

      by_rest : (v : Flow) → FlowStays (opened (n + 1) t) v
          → (Extends v.sections whole → AreLabels m (in_switch end exits) → Hold whole main local_size rank f t.place.holders t.place.used asks → Does whole main local_size rank f asks deep arm.leaves (in_switch end exits) [] (opened (n + 1) t) v)
          → (lowered : Lowered (Unit {0})) → PhaseStays (labels_from (n + 1) (words_of arms)) (shut_flow arm.leaves (next_or end (labels_from (n + 1) (words_of arms))) v) lowered
          → FallFlows deep end exits others (labels_from (n + 1) (words_of arms)) (shut_flow arm.leaves (next_or end (labels_from (n + 1) (words_of arms))) v) lowered → FallFlows deep end exits (asks ++ others) ((n + 1) ∷ labels_from (n + 1) (words_of arms)) t lowered
      by_rest v stays does (Gives done w) on rest = λ inside labels mark hold.
          let ls = labels_from (n + 1) (words_of arms) in
          let nx = next_or end ls in
          let behind_shut = extends_then on.link.extends inside in
          let between = extends_then (shut_next arm.leaves nx v).link.extends behind_shut in
          let x = does between (switch_labels end exits labels mark) (hold_front whole main local_size rank f t.place.holders t.place.used asks others hold) in
          let y = rest inside labels mark (hold_on whole main local_size rank f (opened (n + 1) t) v (length asks) others stays x.taken (hold_back whole main local_size rank f t.place.holders t.place.used asks others hold)) in
          one_falls deep end n exits arm.leaves (words_of arms) asks others t v w high stays x (next_mark end ls mark (all_marks whole main local_size rank f sorted w.sections ls inside on.labels)) top on y
      by_rest v stays does Lacks on rest = tt

      by : (lowered : Lowered (Unit {0})) → EmitStays (opened (n + 1) t) lowered → StmtFlows whole main local_size rank f asks deep arm.leaves (in_switch end exits) [] (opened (n + 1) t) lowered
          → ((v : Flow) → end ≤ (shut_flow arm.leaves (next_or end (labels_from (n + 1) (words_of arms))) v).sections.last → IsLater s (shut_flow arm.leaves (next_or end (labels_from (n + 1) (words_of arms))) v)
          → FallFlows deep end exits others (labels_from (n + 1) (words_of arms)) (shut_flow arm.leaves (next_or end (labels_from (n + 1) (words_of arms))) v) (falling end (labels_from (n + 1) (words_of arms)) arms exits (shut_flow arm.leaves (next_or end (labels_from (n + 1) (words_of arms))) v)))
          → FallFlows deep end exits (asks ++ others) ((n + 1) ∷ labels_from (n + 1) (words_of arms)) t (behind lowered (λ done. behind_arm end n arm arms exits))
      by (Gives done v) stays does rest =
          let shut_v = shut_flow arm.leaves (next_or end (labels_from (n + 1) (words_of arms))) v in
          let shut_more = (shut_next arm.leaves (next_or end (labels_from (n + 1) (words_of arms))) v) in
          subst (λ lowered. FallFlows deep end exits (asks ++ others) ((n + 1) ∷ labels_from (n + 1) (words_of arms)) t (behind lowered (λ done. falling end (labels_from (n + 1) (words_of arms)) arms exits))) (sym (seal_gives arm.leaves (next_or end (labels_from (n + 1) (words_of arms))) v))
          (by_rest v stays does (falling end (labels_from (n + 1) (words_of arms)) arms exits shut_v) (fall_stays whole main local_size rank f s deep end exits arms others more (n + 1) shut_v)
          (rest v (let a = stays.sections.extends.last in let b = shut_more.link.extends.last in omega (arith, high, a, b))
          (later_then s v shut_v (later_then s (opened (n + 1) t) v opened_on (later_of stays)) (later_next [] v shut_v shut_more))))
      by Lacks stays does rest = tt
