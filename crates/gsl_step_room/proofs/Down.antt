-- From the first function of a run to the one that runs.
use Rattle.std.proofs.Common.{◌≡◌, refl, sym, ap, ◌∙◌, subst, ℕ, ◌+◌, ◌<◌, ◌≤◌, true, List, [], ◌∷◌, length, Some, arith}
use Rattle.std.specs.List.{list_any, sum_by}
use Rattle.std.specs.Prelude.{◌==◌}
use Rattle.std.proofs.lemmas.List.Sums.{sum_by-cons}
use Rattle.gsl_words.specs.declared.module.Module.{Module}
use Rattle.gsl_valid.specs.Placed.{Placed}
use Rattle.gsl_valid.specs.Valid.{Valid}
use Rattle.gsl_machine.specs.Functions.{function_at}
use Rattle.gsl_positions.specs.Positions.{left}
use Rattle.gsl_sound_code.proofs.Looks.{kept}
use Rattle.gsl_frames.specs.declared.taken.Taken.{Taken}
use Rattle.gsl_frames.specs.Frames.{frame}
use Rattle.gsl_chains.specs.Chains.{AreChained, Calls, body_of, body_or, calls_of, in_chains, most_functions, taken_by_all}
use Rattle.gsl_chains.proofs.Chained.{bounded}
use Rattle.gsl_chains.proofs.Nested.{short}
use Rattle.gsl_step.specs.declared.machine.Machine.{Machine}
use Rattle.gsl_step.specs.declared.standing.Standing.{Standing}
use Rattle.gsl_step_calls.specs.Calling.{HasRoomToCall}
use Rattle.gsl_step_room.specs.Stacked.{AreStacked, HasRoomForChains, IsBehind, outermost}

module _ (m : Module) (of : Taken → ℕ) (at : Standing → ℕ) (grows : (f caller : Standing) → IsBehind m f caller → at f ≡ at caller + of (frame m (left m caller.body))) where
  -- what a function with this standing takes
  abbrev Own : Standing → ℕ
  Own f = of (frame m (left m f.body))

  -- A chain leads from one function to some others by way of another, and what is in front of it adds up.
  record Leads (o f : Standing) (bodies : List (List Placed)) : Type 0 where
    all : List (List Placed)
    chained : AreChained m (left m o.body) all
    sum : at o + Own o + taken_by_all m of all ≡ at f + Own f + taken_by_all m of bodies

  leads_from : (f : Standing) (callers : List Standing) (bodies : List (List Placed)) → AreStacked m f callers → AreChained m (left m f.body) bodies → Leads (outermost f callers) f bodies
  leads_from f [] bodies stacked chained = record { all = bodies; chained = chained; sum = refl }
  leads_from f (caller ∷ callers) bodies stacked chained =
      let d = leads_from caller callers (left m f.body ∷ bodies) stacked.1 (stacked.0.calls, chained) in
      let more = sum_by-cons (λ body. of (frame m body)) (left m f.body) bodies in
      let here = grows f caller stacked.0 in
      let so_far = d.sum in
      record { all = d.all; chained = d.chained; sum = omega (arith, so_far, more, here) }

  -- there is room for one function more
  one_more : (entry : ℕ) (f : Standing) (callers : List Standing) (body : List Placed) (room : ℕ) → AreStacked m f callers → left m (outermost f callers).body ≡ body_of m entry → ((bodies : List (List Placed)) → AreChained m (body_of m entry) bodies → length bodies < most_functions)
      → at (outermost f callers) + in_chains m of most_functions (body_of m entry) ≤ room → Calls m (left m f.body) body → at f + Own f + of (frame m body) ≤ room
  one_more entry f callers body room stacked first few enough calls =
      let d = leads_from f callers (body ∷ []) stacked (calls, tt) in
      let chained = subst (λ l. AreChained m l d.all) first d.chained in
      let bound = bounded m of (body_of m entry) d.all most_functions chained (few d.all chained) in
      let own = ap (λ l. of (frame m l)) first in
      let last = sum_by-cons (λ l. of (frame m l)) body [] in
      let sum = d.sum in
      let none : sum_by (λ l. of (frame m l)) [] ≡ 0 = refl in
      omega (arith, bound, own, last, sum, none, enough)

pub has_room : (m : Module) (machine : Machine) (entry function : ℕ) (body : List Placed) → Valid m → HasRoomForChains m machine entry → list_any (λ other. other == function) (calls_of (left m machine.standing.body)) ≡ true → function_at m function ≡ Some body
    → HasRoomToCall m machine (left m machine.standing.body) body
has_room m machine entry function body valid room called found =
    let calls : Calls m (left m machine.standing.body) body = record { id = function; called = called; is = sym (ap body_or found) } in
    let few : (bodies : List (List Placed)) → AreChained m (body_of m entry) bodies → length bodies < most_functions = λ bodies are. (let low = short m (kept m valid) entry bodies room.begins are in omega (arith, low)) in
    record {
      slots = one_more m (λ t. t.most) (λ f. f.slots) (λ f caller behind. behind.slots) entry machine.standing machine.callers body (length machine.slots) room.stacked room.body few room.slots calls;
      words = one_more m (λ t. t.variables) (λ f. f.variables) (λ f caller behind. behind.variables) entry machine.standing machine.callers body (length machine.words) room.stacked room.body few room.words calls;
    }
