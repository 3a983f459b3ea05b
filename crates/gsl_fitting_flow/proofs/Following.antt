-- Parts of lowering in a row, and steps of the builder as parts.
use Rattle.std.proofs.Common.{◌≡◌, ℕ, ◌+◌, ◌≤◌, Bool, true, false, ◌||◌, List, [], ◌∷◌, ◌++◌, length, refl, sym, ap, ◌∙◌, subst, suc, append_assoc, append-nil, arith}
use Rattle.std.proofs.lemmas.Bool.{or_parts, true≢false}
use Rattle.std.proofs.lemmas.List.{length-append}
use Rattle.gsl_words.specs.declared.module.Module.{Module}
use Rattle.gsl_spv.specs.Growing.{Extends}
use Rattle.gsl_spv.specs.Sections.{Sections}
use Rattle.gsl_spv.proofs.Extending.{extends_then}
use Rattle.gsl_lower_values.specs.Building.{Built, Made, Full}
use Rattle.gsl_lower_holders.specs.Flow.{Emit, Flow, Lowered, Gives, Lacks, behind, built_in, given as give}
use Rattle.gsl_lower_holders.specs.declared.place.FlowPlace.{FlowPlace}
use Rattle.gsl_fitting.specs.Fits.{Fits, Frame, In}
use Rattle.gsl_fitting_shapes.proofs.Labels.{later}
use Rattle.gsl_fitting_types.specs.Making.{Comes, Sorts, made}
use Rattle.gsl_fitting_types.proofs.Sorting.{stays_same, stays_then}
use Rattle.gsl_fitting_flow.specs.Flowing.{Crosses, EmitStays, FlowStays, Flows, Hold, IsLater, Widens}

-- ---- what stays

pub flow_same : (s : Flow) → FlowStays s s
flow_same s = record { sections = stays_same s.sections; place = refl; used = omega arith }

pub flow_then : {a b c : Flow} → FlowStays a b → FlowStays b c → FlowStays a c
flow_then {a} {b} {c} p q = record {
  sections = stays_then p.sections q.sections;
  place = q.place ∙ ap (λ (x : FlowPlace). record x { label = c.place.label; used = c.place.used }) p.place;
  used = let first = p.used in let second = q.used in omega (arith, first, second);
}

pub later_of : {a b : Flow} → FlowStays a b → IsLater a b
later_of p = record { sections = p.sections.extends; place = p.place }

pub later_then : (a b c : Flow) → IsLater a b → IsLater b c → IsLater a c
later_then a b c p q = record { sections = extends_then p.sections q.sections; place = q.place ∙ ap (λ (x : FlowPlace). record x { label = c.place.label; used = c.place.used }) p.place }

pub stays_on : {B : Type 0} {a b : Flow} → FlowStays a b → (lowered : Lowered B) → EmitStays b lowered → EmitStays a lowered
stays_on p (Gives x c) q = flow_then p q
stays_on p Lacks q = tt

pub emit_then : {A B : Type 0} (before : Flow) (first : Lowered A) (next : A → Emit B) → EmitStays before first → ((a : A) (s : Flow) → EmitStays s (next a s)) → EmitStays before (behind first next)
emit_then before (Gives a s) next stays more = stays_on stays (next a s) (more a s)
emit_then before Lacks next stays more = tt

pub taken_behind : (a b c n : ℕ) → b ≡ a + n → c ≡ b + 0 → c ≡ a + n
taken_behind a b c n first second = omega (arith, first, second)

pub taken_both : (a b c n k : ℕ) → b ≡ a + n → c ≡ b + k → c ≡ a + (n + k)
taken_both a b c n k first second = omega (arith, first, second)

-- ---- code

module _ (m : Module) (rank : ℕ → ℕ) (f : Frame) where
  pub crosses_same : (deep : ℕ) (given : List ℕ) (s : Flow) → Crosses m rank f deep false given given s s
  crosses_same deep given s = record { fine = λ h. h; code = []; puts = sym (append-nil s.sections.functions); fits = λ follows c due fresh low h. h; same = λ e. (refl, λ id h. h) }

  pub crosses_then : (deep : ℕ) (first second : Bool) (given between now : List ℕ) (a b c : Flow) → a.sections.last ≤ b.sections.last → Crosses m rank f deep first given between a b → Crosses m rank f deep second between now b c → Crosses m rank f deep (first || second) given now a c
  crosses_then deep first second given between now a b c more x y = record {
    fine = λ h. y.fine (x.fine h);
    code = x.code ++ y.code;
    puts = y.puts ∙ ap (λ l. l ++ y.code) x.puts ∙ append_assoc a.sections.functions x.code y.code;
    fits = λ follows around due fresh low h. subst (λ code. Fits m rank f code (In a.place.label around given due)) (sym (append_assoc x.code y.code follows))
        (x.fits (y.code ++ follows) around due fresh low (y.fits follows around due (later around (a.sections.last + 1) (b.sections.last + 1) (omega (arith, more)) fresh) low h));
    same = λ e. let both = or_parts first second e in ((y.same both.1).0 ∙ (x.same both.0).0, λ id h. (y.same both.1).1 id ((x.same both.0).1 id h));
  }

  -- where more constructs may nest, and where blocks may end
  pub looser : (deep more : ℕ) (splits : Bool) (given now : List ℕ) (a b : Flow) → deep ≤ more → Crosses m rank f deep splits given now a b → Crosses m rank f more splits given now a b
  looser deep more splits given now a b le x = record { fine = x.fine; code = x.code; puts = x.puts; fits = λ follows c due fresh low h. x.fits follows c due fresh (omega (arith, le, low)) h; same = x.same }

  pub split : (deep : ℕ) (splits : Bool) (given now : List ℕ) (a b : Flow) → Crosses m rank f deep splits given now a b → Crosses m rank f deep true given now a b
  split deep splits given now a b x = record { fine = x.fine; code = x.code; puts = x.puts; fits = x.fits; same = λ e. absurd (true≢false e) }

module _ (whole : Sections) (main : ℕ) (local_size : List ℕ) (rank : ℕ → ℕ) (f : Frame) where
  abbrev m : Module
  m = made whole main local_size rank f

  -- ---- holders

  pub hold_front : (holders : List ℕ) (used : ℕ) (types more : List ℕ) → Hold whole main local_size rank f holders used (types ++ more) → Hold whole main local_size rank f holders used types
  hold_front holders used [] more h = tt
  hold_front holders used (type ∷ types) more h = (h.0, hold_front holders (used + 1) types more h.1)

  pub hold_back : (holders : List ℕ) (used : ℕ) (types more : List ℕ) → Hold whole main local_size rank f holders used (types ++ more) → Hold whole main local_size rank f holders (used + length types) more
  hold_back holders used [] more h = subst (λ n. Hold whole main local_size rank f holders n more) (let e : used ≡ used + 0 = omega arith in e) h
  hold_back holders used (type ∷ types) more h =
      subst (λ n. Hold whole main local_size rank f holders n more) (let k = length types in let e : (used + 1) + k ≡ used + suc k = omega arith in e) (hold_back holders (used + 1) types more h.1)

  pub hold_on : (before after : Flow) (n : ℕ) (types : List ℕ) → FlowStays before after → after.place.used ≡ before.place.used + n → Hold whole main local_size rank f before.place.holders (before.place.used + n) types
      → Hold whole main local_size rank f after.place.holders after.place.used types
  hold_on before after n types stays taken h =
      subst (λ holders. Hold whole main local_size rank f holders after.place.used types) (sym (ap (λ (p : FlowPlace). p.holders) stays.place)) (subst (λ used. Hold whole main local_size rank f before.place.holders used types) (sym taken) h)

  pub none_taken : (used : ℕ) → used ≡ used + length {A = ℕ} []
  none_taken used = let e : used ≡ used + 0 = omega arith in e

  -- ---- in a row

  pub given_flows : {A : Type 0} (deep : ℕ) (given : List ℕ) (Is : A → List ℕ → Flow → Type 0) (a : A) (s : Flow) → (Extends s.sections whole → Is a given s) → Flows whole main local_size rank f [] deep false given Is s (give a s)
  given_flows deep given Is a s is = λ inside hold. record { now = given; crosses = crosses_same m rank f deep given s; taken = none_taken s.place.used; is = is inside }

  pub flows_then : {A B : Type 0} (asks more : List ℕ) (deep : ℕ) (first second : Bool) (given : List ℕ) (Is : A → List ℕ → Flow → Type 0) (Then : B → List ℕ → Flow → Type 0) (before : Flow) (lowered : Lowered A) (next : A → Emit B) → EmitStays before lowered
      → Flows whole main local_size rank f asks deep first given Is before lowered → ((a : A) (s : Flow) → EmitStays s (next a s))
      → ((a : A) (s : Flow) (now : List ℕ) → Is a now s → (first ≡ false → Widens given now) → FlowStays before s → Extends s.sections whole → Flows whole main local_size rank f more deep second now Then s (next a s))
      → Flows whole main local_size rank f (asks ++ more) deep (first || second) given Then before (behind lowered next)
  flows_then {A} {B} asks more deep first second given Is Then before (Gives a s) next stays flows sorts later =
      by (next a s) (sorts a s) (λ inside hold. let x = flows inside hold in later a s x.now x.is (λ e. (x.crosses.same e).1) stays inside)
    where
      by : (lowered : Lowered B) → EmitStays s lowered
          → ((inside : Extends s.sections whole) (hold : Hold whole main local_size rank f before.place.holders before.place.used asks) → Flows whole main local_size rank f more deep second (flows inside hold).now Then s lowered)
          → Flows whole main local_size rank f (asks ++ more) deep (first || second) given Then before lowered
      by (Gives b after) on go = λ inside hold.
          let between = extends_then on.sections.extends inside in
          let front = hold_front before.place.holders before.place.used asks more hold in
          let x = flows between front in
          let y = go between front inside (hold_on before s (length asks) more stays x.taken (hold_back before.place.holders before.place.used asks more hold)) in
          record {
            now = y.now;
            crosses = crosses_then m rank f deep first second given x.now y.now before s after stays.sections.extends.last x.crosses y.crosses;
            taken = let j = x.taken in let k = y.taken in let e = length-append asks more in omega (arith, j, k, e);
            is = y.is;
          }
      by Lacks on go = tt
  flows_then asks more deep first second given Is Then before Lacks next stays flows sorts later = tt

  pub flows_so : {A : Type 0} (asks : List ℕ) (deep : ℕ) (splits : Bool) (given : List ℕ) (Is So : A → List ℕ → Flow → Type 0) (before : Flow) (lowered : Lowered A) → ((a : A) (now : List ℕ) (s : Flow) → Extends s.sections whole → (splits ≡ false → Widens given now) → Is a now s → So a now s)
      → Flows whole main local_size rank f asks deep splits given Is before lowered → Flows whole main local_size rank f asks deep splits given So before lowered
  flows_so asks deep splits given Is So before (Gives a after) so flows = λ inside hold. let x = flows inside hold in record { now = x.now; crosses = x.crosses; taken = x.taken; is = so a x.now after inside (λ e. (x.crosses.same e).1) x.is }
  flows_so asks deep splits given Is So before Lacks so flows = tt

  pub flows_deeper : {A : Type 0} (asks : List ℕ) (deep more : ℕ) (splits : Bool) (given : List ℕ) (Is : A → List ℕ → Flow → Type 0) (before : Flow) (lowered : Lowered A) → deep ≤ more → Flows whole main local_size rank f asks deep splits given Is before lowered
      → Flows whole main local_size rank f asks more splits given Is before lowered
  flows_deeper asks deep more splits given Is before (Gives a after) le flows = λ inside hold. let x = flows inside hold in record { now = x.now; crosses = looser m rank f deep more splits given x.now before after le x.crosses; taken = x.taken; is = x.is }
  flows_deeper asks deep more splits given Is before Lacks le flows = tt

  -- ---- steps of the builder

  pub lift_flows : {A : Type 0} (deep : ℕ) (given : List ℕ) (Is : A → List ℕ → Sections → Type 0) (s : Flow) (built : Built A) → Comes whole main local_size rank f given Is s.sections built → Flows whole main local_size rank f [] deep false given (λ a now after. Is a now after.sections) s (built_in s.place built)
  lift_flows deep given Is s (Made a after) comes = λ inside hold.
      let x = comes inside in
      record {
        now = x.now;
        crosses = record { fine = x.goes.fine; code = x.goes.puts.code; puts = x.goes.puts.puts; fits = λ follows c due fresh low h. x.goes.puts.fits follows s.place.label c due h; same = λ e. (refl, x.goes.puts.wider) };
        taken = none_taken s.place.used;
        is = x.is;
      }
  lift_flows deep given Is s Full comes = tt

pub lift_stays : {A : Type 0} (s : Flow) (built : Built A) → Sorts s.sections built → EmitStays s (built_in s.place built)
lift_stays s (Made a after) stays = record { sections = stays; place = refl; used = omega arith }
lift_stays s Full stays = tt
