-- Parts of a loop, one behind the other, with the labels that each of them puts.
use Rattle.std.proofs.Common.{◌≡◌, ℕ, ◌+◌, ◌≤◌, Bool, true, false, List, [], ◌∷◌, ◌++◌, length, refl, sym, ap, ◌∙◌, subst, suc, arith}
use Rattle.std.specs.List.{AllByRecursion, Contains}
use Rattle.std.proofs.lemmas.List.{length-append}
use Rattle.std.proofs.lemmas.List.Elements.{Contains-append_left, Contains-append_right}
use Rattle.gsl_blocks.specs.declared.around.Around.{Around}
use Rattle.gsl_blocks.specs.declared.around.Due.{Due}
use Rattle.gsl_instr.specs.Forms.{form_of}
use Rattle.gsl_instr.specs.declared.op.TheConstants as op
use Rattle.gsl_words.specs.declared.module.Instr.{Instr}
use Rattle.gsl_words.specs.declared.module.Module.{Module}
use Rattle.gsl_valid.specs.EntryRules.{is_among}
use Rattle.gsl_valid.specs.Kinds.{kind}
use Rattle.gsl_valid.specs.LimitRules.{most_constructs}
use Rattle.gsl_valid.specs.Placed.{Code}
use Rattle.gsl_spv.specs.Calls as call
use Rattle.gsl_spv.specs.Declarations.{instr}
use Rattle.gsl_spv.specs.Growing.{Extends}
use Rattle.gsl_spv.specs.Sections.{Sections}
use Rattle.gsl_spv.proofs.Contained.{first_in}
use Rattle.gsl_spv.proofs.Extending.{extends_then}
use Rattle.gsl_lower_holders.specs.Flow.{Emit, Flow, Gives, Lacks, Lowered, behind}
use Rattle.gsl_lower_holders.specs.declared.place.FlowPlace.{FlowPlace}
use Rattle.gsl_fitting.specs.Fits.{At, Frame, In, begins, is_mark}
use Rattle.gsl_fitting_shapes.specs.Fresh.{Fresh}
use Rattle.gsl_fitting_types.specs.Making.{AreSorted, made}
use Rattle.gsl_fitting_types.proofs.Knowing.{put_is}
use Rattle.gsl_fitting_flow.specs.Flowing.{Crosses, EmitStays, FlowStays, Flows, GivesOf, Hold, IsLater, IsOf}
use Rattle.gsl_fitting_flow.proofs.Following.{crosses_same, flow_same, hold_back, hold_front, later_of, none_taken, taken_behind}
use Rattle.gsl_fitting_flow.proofs.Owing.{Bridge, FromTo, Link, bridge_then, from_then, link_then, part_bridge, part_link}

-- ---- labels that stand in code

abbrev label_of : ℕ → Instr
label_of id = instr op.LABEL (id ∷ [])

abbrev pub AreOthers : List ℕ → List ℕ → Type 0
AreOthers ids more = AllByRecursion (λ id. is_among ids id ≡ false) more

pub no_others : (more : List ℕ) → AreOthers [] more
no_others [] = tt
no_others (id ∷ more) = (refl, no_others more)

abbrev pub Stand : Sections → List ℕ → Type 0
Stand s ids = AllByRecursion (λ id. Contains s.functions (label_of id)) ids

stand_on : (a b : Sections) (ids : List ℕ) → Extends a b → Stand a ids → Stand b ids
stand_on a b [] x h = tt
stand_on a b (id ∷ ids) x h = (subst (λ l. Contains l (label_of id)) (sym x.functions.is) (Contains-append_left a.functions x.functions.more (label_of id) h.0), stand_on a b ids x h.1)

stand_both : (s : Sections) (ids more : List ℕ) → Stand s ids → Stand s more → Stand s (ids ++ more)
stand_both s [] more h k = k
stand_both s (id ∷ ids) more h k = (h.0, stand_both s ids more h.1 k)

pub stands_last : (label : ℕ) (s : Sections) → Contains (call.put op.LABEL (label ∷ []) s).functions (instr op.LABEL (label ∷ []))
stands_last label s = Contains-append_right s.functions (label_of label ∷ []) (label_of label) (first_in (label_of label) [])

-- ---- what stays

-- What a builder held stays in its sections, and what the place tells; and these labels were put.
pub record Next (ids : List ℕ) (before after : Flow) : Type 0 where
  pub link : Link ids before.sections after.sections
  pub place : after.place ≡ record before.place { label = after.place.label; used = after.place.used }
  pub used : before.place.used ≤ after.place.used
  pub labels : Stand after.sections ids

abbrev pub PhaseStays : List ℕ → Flow → Lowered (Unit {0}) → Type 0
PhaseStays ids before (Gives done after) = Next ids before after
PhaseStays ids before Lacks = Unit {0}

pub next_then : (ids more : List ℕ) (a b c : Flow) → AreOthers ids more → Next ids a b → Next more b c → Next (ids ++ more) a c
next_then ids more a b c apart x y = record {
  link = link_then ids more a.sections b.sections c.sections apart x.link y.link;
  place = y.place ∙ ap (λ (p : FlowPlace). record p { label = c.place.label; used = c.place.used }) x.place;
  used = let first = x.used in let second = y.used in omega (arith, first, second);
  labels = stand_both c.sections ids more (stand_on b.sections c.sections ids y.link.extends x.labels) y.labels;
}

pub next_of : (a b : Flow) → FlowStays a b → Next [] a b
next_of a b stays = record { link = part_link a.sections b.sections stays.sections; place = stays.place; used = stays.used; labels = tt }

pub later_next : (ids : List ℕ) (a b : Flow) → Next ids a b → IsLater a b
later_next ids a b x = record { sections = x.link.extends; place = x.place }

pub phase_of : (before : Flow) (lowered : Lowered (Unit {0})) → EmitStays before lowered → PhaseStays [] before lowered
phase_of before (Gives done after) stays = next_of before after stays
phase_of before Lacks stays = tt

pub phase_stays_then : (ids more : List ℕ) (before : Flow) (lowered : Lowered (Unit {0})) (next : Emit (Unit {0})) → AreOthers ids more → PhaseStays ids before lowered → ((u : Flow) → PhaseStays more u (next u)) → PhaseStays (ids ++ more) before (behind lowered (λ done. next))
phase_stays_then ids more before (Gives done u) next apart x sorts = by (next u) (sorts u)
  where
    by : (lowered : Lowered (Unit {0})) → PhaseStays more u lowered → PhaseStays (ids ++ more) before lowered
    by (Gives done_ after) y = next_then ids more before u after apart x y
    by Lacks y = tt
phase_stays_then ids more before Lacks next apart x sorts = tt

-- behind a value
pub value_stays_then : (ids : List ℕ) (before : Flow) (lowered : Lowered ℕ) (next : ℕ → Emit (Unit {0})) → EmitStays before lowered → ((x : ℕ) (u : Flow) → PhaseStays ids u (next x u)) → PhaseStays ids before (behind lowered next)
value_stays_then ids before (Gives x u) next stays sorts = by (next x u) (sorts x u)
  where
    by : (lowered : Lowered (Unit {0})) → PhaseStays ids u lowered → PhaseStays ids before lowered
    by (Gives done after) y = next_then [] ids before u after (no_others ids) (next_of before u stays) y
    by Lacks y = tt
value_stays_then ids before Lacks next stays sorts = tt

module _ (whole : Sections) (main : ℕ) (local_size : List ℕ) (rank : ℕ → ℕ) (f : Frame) (sorted : AreSorted whole) where
  abbrev m : Module
  m = made whole main local_size rank f

  -- a label that stands in the module is one
  pub mark_of : (label : ℕ) → Contains whole.functions (instr op.LABEL (label ∷ [])) → is_mark m label ≡ true
  unfolding form_of
  mark_of label there = ap (λ o. begins (kind o)) (put_is whole main local_size sorted (label_of label) label there refl)

  pub all_marks : (s : Sections) (ids : List ℕ) → Extends s whole → Stand s ids → AllByRecursion (λ id. is_mark m id ≡ true) ids
  all_marks s [] x h = tt
  all_marks s (id ∷ ids) x h = (mark_of id (subst (λ l. Contains l (label_of id)) (sym x.functions.is) (Contains-append_left s.functions x.functions.more (label_of id) h.0)), all_marks s ids x h.1)

  -- The labels of a loop but for that of its body behind a test, counted from a number on.
  pub record Marks (n : ℕ) : Type 0 where
    pub head : is_mark m (n + 1) ≡ true
    pub first : is_mark m (n + 1 + 1) ≡ true
    pub next : is_mark m (n + 1 + 1 + 1 + 1) ≡ true
    pub end : is_mark m (n + 1 + 1 + 1 + 1 + 1) ≡ true

  module _ (n inner : ℕ) where
    -- where code stands in a run around which labels from this number on are new
    abbrev pub Spot : Type 0
    Spot = Around → List Due → At

    -- Code that leads from one place to another, over labels that were owed.
    pub record Way (ids : List ℕ) (before after : Flow) (from to : Spot) : Type 0 where
      pub code : Code
      pub bridge : Bridge m code ids before.sections after.sections
      pub fits : (c : Around) (due : List Due) → Fresh c (n + 1) → c.leaves ≡ true → c.depth + suc inner ≤ most_constructs → FromTo m rank f code (from c due) (to c due)

    pub record Leads (asks ids : List ℕ) (before after : Flow) (from : Spot) (to : List ℕ → Spot) : Type 0 where
      pub now : List ℕ
      pub way : Way ids before after from (to now)
      pub taken : after.place.used ≡ before.place.used + length asks

    abbrev pub PhaseFlows : List ℕ → List ℕ → Spot → (Flow → List ℕ → Spot) → Flow → Lowered (Unit {0}) → Type 0
    PhaseFlows asks ids from to before (Gives done after) = Extends after.sections whole → Marks n → Hold whole main local_size rank f before.place.holders before.place.used asks → Leads asks ids before after from (to after)
    PhaseFlows asks ids from to before Lacks = Unit {0}

    pub way_then : (ids more : List ℕ) (a b c : Flow) (from mid to : Spot) → AreOthers ids more → Way ids a b from mid → Way more b c mid to → Way (ids ++ more) a c from to
    way_then ids more a b c from mid to apart x y = record {
      code = x.code ++ y.code;
      bridge = bridge_then m x.code y.code ids more a.sections b.sections c.sections apart x.bridge y.bridge;
      fits = λ c due new may low. from_then m rank f x.code y.code (from c due) (mid c due) (to c due) (x.fits c due new may low) (y.fits c due new may low);
    }

    hold_next : (ids : List ℕ) (before after : Flow) (k : ℕ) (types : List ℕ) → Next ids before after → after.place.used ≡ before.place.used + k → Hold whole main local_size rank f before.place.holders (before.place.used + k) types → Hold whole main local_size rank f after.place.holders after.place.used types
    hold_next ids before after k types x taken h =
        subst (λ holders. Hold whole main local_size rank f holders after.place.used types) (sym (ap (λ (p : FlowPlace). p.holders) x.place)) (subst (λ used. Hold whole main local_size rank f before.place.holders used types) (sym taken) h)

    pub phase_then : (asks more ids others : List ℕ) (from : Spot) (mid to : Flow → List ℕ → Spot) (before : Flow) (lowered : Lowered (Unit {0})) (next : Emit (Unit {0})) → AreOthers ids others → PhaseStays ids before lowered → PhaseFlows asks ids from mid before lowered → ((u : Flow) → PhaseStays others u (next u))
        → ((u : Flow) (now : List ℕ) → IsLater before u → PhaseFlows more others (mid u now) to u (next u)) → PhaseFlows (asks ++ more) (ids ++ others) from to before (behind lowered (λ done. next))
    phase_then asks more ids others from mid to before (Gives done u) next apart stays flows sorts later = by (next u) (sorts u) (λ now. later u now (later_next ids before u stays))
      where
        by : (lowered : Lowered (Unit {0})) → PhaseStays others u lowered → ((now : List ℕ) → PhaseFlows more others (mid u now) to u lowered) → PhaseFlows (asks ++ more) (ids ++ others) from to before lowered
        by (Gives done_ after) on go = λ inside marks hold.
            let between = extends_then on.link.extends inside in
            let x = flows between marks (hold_front whole main local_size rank f before.place.holders before.place.used asks more hold) in
            let y = go x.now inside marks (hold_next ids before u (length asks) more stays x.taken (hold_back whole main local_size rank f before.place.holders before.place.used asks more hold)) in
            record {
              now = y.now;
              way = way_then ids others before u after from (mid u x.now) (to after y.now) apart x.way y.way;
              taken = let j = x.taken in let k = y.taken in let e = length-append asks more in omega (arith, j, k, e);
            }
        by Lacks on go = tt
    phase_then asks more ids others from mid to before Lacks next apart stays flows sorts later = tt

    -- ---- parts of lowering in such a run

    -- A run is around one construct more, and no label from the last of the loop's labels on ends it.
    pub record Within (X : Around → Around) : Type 0 where
      pub fresh : (c : Around) (last : ℕ) → Fresh c (n + 1) → n + 1 + 1 + 1 + 1 + 1 ≤ last → Fresh (X c) (last + 1)
      pub depth : (c : Around) → (X c).depth ≡ c.depth + 1

    abbrev pub at_in : (Around → Around) → (Around → List Due → List Due) → ℕ → List ℕ → Spot
    at_in X Y label given c due = In label (X c) given (Y c due)

    pub crosses_way : (X : Around → Around) (Y : Around → List Due → List Due) → Within X → (splits : Bool) (given now : List ℕ) (a b : Flow) → n + 1 + 1 + 1 + 1 + 1 ≤ a.sections.last → FlowStays a b → Crosses m rank f inner splits given now a b → Way [] a b (at_in X Y a.place.label given) (at_in X Y b.place.label now)
    crosses_way X Y within splits given now a b high stays x = record {
      code = x.code;
      bridge = part_bridge m rank f inner splits given now a b stays x;
      fits = λ c due new may low follows h. x.fits follows (X c) (Y c due) (within.fresh c a.sections.last new high) (let e = within.depth c in omega (arith, e, low)) h;
    }

    pub same_phase : (X : Around → Around) (Y : Around → List Due → List Due) → Within X → (given : List ℕ) (u : Flow) → n + 1 + 1 + 1 + 1 + 1 ≤ u.sections.last → PhaseFlows [] [] (at_in X Y u.place.label given) (λ v now. at_in X Y v.place.label now) u (Gives tt u)
    same_phase X Y within given u high = λ inside marks hold. record { now = given; way = crosses_way X Y within false given given u u high (flow_same u) (crosses_same m rank f inner given u); taken = none_taken whole main local_size rank f u.place.used }

    pub value_phase : (asks ids : List ℕ) (splits : Bool) (given : List ℕ) (type : ℕ) (X : Around → Around) (Y : Around → List Due → List Due) → Within X → (to : Flow → List ℕ → Spot) (before : Flow) (lowered : Lowered ℕ) (next : ℕ → Emit (Unit {0})) → n + 1 + 1 + 1 + 1 + 1 ≤ before.sections.last → EmitStays before lowered
        → Flows whole main local_size rank f asks inner splits given (GivesOf whole main local_size rank f type) before lowered → ((x : ℕ) (u : Flow) → PhaseStays ids u (next x u))
        → ((x : ℕ) (u : Flow) (now : List ℕ) → IsOf whole main local_size rank f now type x → IsLater before u → PhaseFlows [] ids (at_in X Y u.place.label now) to u (next x u)) → PhaseFlows asks ids (at_in X Y before.place.label given) to before (behind lowered next)
    value_phase asks ids splits given type X Y within to before (Gives x u) next high stays flows sorts later =
        by (next x u) (sorts x u) (λ inside hold. let p = flows inside hold in later x u p.now p.is (later_of stays))
      where
        by : (lowered : Lowered (Unit {0})) → PhaseStays ids u lowered
            → ((inside : Extends u.sections whole) (hold : Hold whole main local_size rank f before.place.holders before.place.used asks) → PhaseFlows [] ids (at_in X Y u.place.label (flows inside hold).now) to u lowered)
            → PhaseFlows asks ids (at_in X Y before.place.label given) to before lowered
        by (Gives done after) on go = λ inside marks hold.
            let between = extends_then on.link.extends inside in
            let p = flows between hold in
            let q = go between hold inside marks tt in
            record {
              now = q.now;
              way = way_then [] ids before u after (at_in X Y before.place.label given) (at_in X Y u.place.label p.now) (to after q.now) (no_others ids) (crosses_way X Y within splits given p.now before u high stays p.crosses) q.way;
              taken = taken_behind before.place.used u.place.used after.place.used (length asks) p.taken q.taken;
            }
        by Lacks on go = tt
    value_phase asks ids splits given type X Y within to before Lacks next high stays flows sorts later = tt
