-- Statements in a row, and parts of lowering as statements.
use Rattle.std.proofs.Common.{ℕ, ◌+◌, ◌≤◌, Bool, true, false, ◌||◌, List, [], ◌++◌, length, map, sym, ap, ◌∙◌, subst, append_assoc, arith}
use Rattle.gsl_words.specs.declared.module.Module.{Module}
use Rattle.gsl_spv.specs.Growing.{Extends}
use Rattle.gsl_spv.specs.Sections.{Sections}
use Rattle.gsl_spv.proofs.Extending.{extends_then}
use Rattle.gsl_lower_needs.specs.Bodies.{any_leaves}
use Rattle.gsl_lower_holders.specs.Flow.{Emit, Flow, Gives, Lacks, Lowered, behind, given as give}
use Rattle.gsl_lower_stmt.specs.Parts.{LowerStmt, in_turn, unless}
use Rattle.gsl_lower_stmt.specs.declared.exits.Exits.{Exits}
use Rattle.gsl_fitting.specs.Fits.{Fits, Frame, In}
use Rattle.gsl_fitting_shapes.proofs.Labels.{later}
use Rattle.gsl_fitting_types.specs.Making.{AreSorted, made}
use Rattle.gsl_fitting_flow.specs.Flowing.{Crosses, EmitStays, Flows, Hold, IsLater}
use Rattle.gsl_fitting_flow.proofs.Following.{crosses_same, emit_then, flow_same, hold_back, hold_front, hold_on, later_of, later_then, none_taken}
use Rattle.std.proofs.lemmas.List.{length-append}
use Rattle.gsl_fitting_stmt.specs.Doing.{Passes, RunEach, Runs, StmtFlows}

module _ (m : Module) (rank : ℕ → ℕ) (f : Frame) where
  pub crosses_passes : (deep : ℕ) (splits : Bool) (exits : Exits) (given now : List ℕ) (a b : Flow) → Crosses m rank f deep splits given now a b → Passes m rank f deep false exits given now a b
  crosses_passes deep splits exits given now a b x = record { fine = x.fine; code = x.code; puts = x.puts; fits = λ follows c due fresh leads may low h. x.fits follows c due fresh low h }

  pub passes_then : (deep : ℕ) (leaves : Bool) (exits : Exits) (given between now : List ℕ) (a b c : Flow) → a.sections.last ≤ b.sections.last → Passes m rank f deep false exits given between a b → Passes m rank f deep leaves exits between now b c → Passes m rank f deep leaves exits given now a c
  passes_then deep leaves exits given between now a b c more x y = record {
    fine = λ h. y.fine (x.fine h);
    code = x.code ++ y.code;
    puts = y.puts ∙ ap (λ l. l ++ y.code) x.puts ∙ append_assoc a.sections.functions x.code y.code;
    fits = λ follows around due fresh leads may low h. subst (λ code. Fits m rank f code (In a.place.label around given due)) (sym (append_assoc x.code y.code follows))
        (x.fits (y.code ++ follows) around due fresh leads may low (y.fits follows around due (later around (a.sections.last + 1) (b.sections.last + 1) (omega (arith, more)) fresh) leads may low h));
  }

module _ (whole : Sections) (main : ℕ) (local_size : List ℕ) (rank : ℕ → ℕ) (f : Frame) (sorted : AreSorted whole) where
  abbrev m : Module
  m = made whole main local_size rank f

  abbrev S : List ℕ → ℕ → Bool → Exits → List ℕ → Flow → Lowered (Unit {0}) → Type 0
  S asks deep leaves exits given before lowered = StmtFlows whole main local_size rank f asks deep leaves exits given before lowered

  -- ---- a part of lowering, and a statement behind it

  pub part_then : {A : Type 0} (asks more : List ℕ) (deep : ℕ) (splits leaves : Bool) (exits : Exits) (given : List ℕ) (Is : A → List ℕ → Flow → Type 0) (before : Flow) (lowered : Lowered A) (next : A → Emit (Unit {0})) → EmitStays before lowered → Flows whole main local_size rank f asks deep splits given Is before lowered
      → ((a : A) (s : Flow) → EmitStays s (next a s)) → ((a : A) (s : Flow) (now : List ℕ) → Is a now s → IsLater before s → S more deep leaves exits now s (next a s)) → S (asks ++ more) deep leaves exits given before (behind lowered next)
  part_then {A} asks more deep splits leaves exits given Is before (Gives a s) next stays flows sorts later_on =
      by (next a s) (sorts a s) (λ inside hold. let x = flows inside hold in later_on a s x.now x.is (later_of stays))
    where
      by : (lowered : Lowered (Unit {0})) → EmitStays s lowered → ((inside : Extends s.sections whole) (hold : Hold whole main local_size rank f before.place.holders before.place.used asks) → S more deep leaves exits (flows inside hold).now s lowered) → S (asks ++ more) deep leaves exits given before lowered
      by (Gives done after) on go = λ inside labels hold.
          let between = extends_then on.sections.extends inside in
          let front = hold_front whole main local_size rank f before.place.holders before.place.used asks more hold in
          let x = flows between front in
          let y = go between front inside labels (hold_on whole main local_size rank f before s (length asks) more stays x.taken (hold_back whole main local_size rank f before.place.holders before.place.used asks more hold)) in
          record {
            now = y.now;
            passes = passes_then m rank f deep leaves exits given x.now y.now before s after stays.sections.extends.last (crosses_passes m rank f deep splits exits given x.now before s x.crosses) y.passes;
            taken = let j = x.taken in let k = y.taken in let e = length-append asks more in omega (arith, j, k, e);
          }
      by Lacks on go = tt
  part_then asks more deep splits leaves exits given Is before Lacks next stays flows sorts later_on = tt

  -- ---- a statement behind a statement that goes on

  pub stmt_then : (asks more : List ℕ) (deep : ℕ) (leaves : Bool) (exits : Exits) (given : List ℕ) (before : Flow) (lowered : Lowered (Unit {0})) (next : Emit (Unit {0})) → EmitStays before lowered → S asks deep false exits given before lowered → ((s : Flow) → EmitStays s (next s))
      → ((s : Flow) (now : List ℕ) → IsLater before s → S more deep leaves exits now s (next s)) → S (asks ++ more) deep leaves exits given before (behind lowered (λ done. next))
  stmt_then asks more deep leaves exits given before (Gives done s) next stays flows sorts later_on = by (next s) (sorts s) (λ now. later_on s now (later_of stays))
    where
      by : (lowered : Lowered (Unit {0})) → EmitStays s lowered → ((now : List ℕ) → S more deep leaves exits now s lowered) → S (asks ++ more) deep leaves exits given before lowered
      by (Gives done after) on go = λ inside labels hold.
          let between = extends_then on.sections.extends inside in
          let front = hold_front whole main local_size rank f before.place.holders before.place.used asks more hold in
          let x = flows between labels front in
          let y = go x.now inside labels (hold_on whole main local_size rank f before s (length asks) more stays x.taken (hold_back whole main local_size rank f before.place.holders before.place.used asks more hold)) in
          record {
            now = y.now;
            passes = passes_then m rank f deep leaves exits given x.now y.now before s after stays.sections.extends.last x.passes y.passes;
            taken = let j = x.taken in let k = y.taken in let e = length-append asks more in omega (arith, j, k, e);
          }
      by Lacks on go = tt
  stmt_then asks more deep leaves exits given before Lacks next stays flows sorts later_on = tt

  -- nothing
  pub nothing_flows : (deep : ℕ) (exits : Exits) (given : List ℕ) (s : Flow) → S [] deep false exits given s (give tt s)
  nothing_flows deep exits given s = λ inside labels hold. record { now = given; passes = crosses_passes m rank f deep false exits given given s s (crosses_same m rank f deep given s); taken = none_taken whole main local_size rank f s.place.used }

  -- ---- in turn

  turn_stays : (s : Flow) (deep : ℕ) (exits : Exits) (ss : List LowerStmt) (asks : List ℕ) → RunEach whole main local_size rank f s deep exits ss asks → (u : Flow) → EmitStays u (in_turn ss exits u)
  unfolding in_turn
  turn_stays s deep exits _ _ RunEach.none_runs u = flow_same u
  turn_stays s deep exits _ _ (RunEach.last_runs {one} {more} leaves r) u = emit_then u (one.run exits u) (λ done. unless one.leaves (in_turn more exits)) (r.stays u) (λ done v. subst (λ b. EmitStays v (unless b (in_turn more exits) v)) (sym leaves) (flow_same v))
  turn_stays s deep exits _ _ (RunEach.one_runs {one} {more} {asks} {others} goes r rest) u =
      emit_then u (one.run exits u) (λ done. unless one.leaves (in_turn more exits)) (r.stays u) (λ done v. subst (λ b. EmitStays v (unless b (in_turn more exits) v)) (sym goes) (turn_stays s deep exits more others rest v))

  -- where it leaves, nothing is put behind it
  dropped : (asks : List ℕ) (deep : ℕ) (exits : Exits) (given : List ℕ) (u : Flow) (lowered : Lowered (Unit {0})) → S asks deep true exits given u lowered → S asks deep true exits given u (behind lowered (λ done. give tt))
  dropped asks deep exits given u (Gives done after) flows = flows
  dropped asks deep exits given u Lacks flows = tt

  turn_flows : (s : Flow) (deep : ℕ) (exits : Exits) (ss : List LowerStmt) (asks : List ℕ) → RunEach whole main local_size rank f s deep exits ss asks → (given : List ℕ) (u : Flow) → IsLater s u → S asks deep (any_leaves (map (λ (x : LowerStmt). x.leaves) ss)) exits given u (in_turn ss exits u)
  unfolding in_turn
  turn_flows s deep exits _ _ RunEach.none_runs given u here = nothing_flows deep exits given u
  turn_flows s deep exits _ asks (RunEach.last_runs {one} {more} leaves r) given u here =
      subst (λ b. S asks deep (b || any_leaves (map (λ (x : LowerStmt). x.leaves) more)) exits given u (behind (one.run exits u) (λ done. unless b (in_turn more exits)))) (sym leaves) (dropped asks deep exits given u (one.run exits u) (r.flows given u here))
  turn_flows s deep exits _ _ (RunEach.one_runs {one} {more} {asks} {others} goes r rest) given u here =
      subst (λ b. S (asks ++ others) deep (b || any_leaves (map (λ (x : LowerStmt). x.leaves) more)) exits given u (behind (one.run exits u) (λ done. unless b (in_turn more exits)))) (sym goes)
      (stmt_then asks others deep (any_leaves (map (λ (x : LowerStmt). x.leaves) more)) exits given u (one.run exits u) (in_turn more exits) (r.stays u) (r.flows given u here) (λ v. turn_stays s deep exits more others rest v)
      (λ v now later_on. turn_flows s deep exits more others rest now v (later_then s u v here later_on)))

  pub turn_runs : (s : Flow) (deep : ℕ) (exits : Exits) (ss : List LowerStmt) (asks : List ℕ) → RunEach whole main local_size rank f s deep exits ss asks → Runs whole main local_size rank f s asks deep (any_leaves (map (λ (x : LowerStmt). x.leaves) ss)) exits (in_turn ss exits)
  turn_runs s deep exits ss asks each = record { stays = λ u. turn_stays s deep exits ss asks each u; flows = λ given u here. turn_flows s deep exits ss asks each given u here }
