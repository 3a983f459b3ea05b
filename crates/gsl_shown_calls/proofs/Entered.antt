-- A function begins: its parameters stand in its slots, and its variables behind all others.
use Rattle.std.proofs.Common.{◌≡◌, refl, sym, ap, ◌∙◌, subst, ℕ, zero, suc, ◌+◌, ◌-◌, ◌<◌, ◌≤◌, Bool, true, false, List, [], ◌∷◌, ◌++◌, length, drop, None, arith}
use Rattle.std.specs.List.{AllByRecursion, flat_map, sum_by}
use Rattle.std.specs.Prelude.{◌==◌, slice_get}
use Rattle.std.proofs.Math.Dec.{eqb-suc-zero}
use Rattle.std.proofs.lemmas.Bool.{cond-false}
use Rattle.gsl_words.specs.declared.module.Instr.{Instr}
use Rattle.gsl_words.specs.declared.module.Module.{Module}
use Rattle.gsl_valid.specs.IdsDefinedOnce.{ids_defined_once}
use Rattle.gsl_valid.specs.Instruction.{read}
use Rattle.gsl_valid.specs.Kinds.{Begins, Kind, Variable, kind}
use Rattle.gsl_valid.specs.Placed.{Code}
use Rattle.gsl_valid.specs.Types.{defined_as, parameters_of}
use Rattle.gsl_valid.specs.Valid.{Valid}
use Rattle.gsl_valid.proofs.Rules.{valid_each}
use Rattle.gsl_ids.specs.Table.{number_of, numbered, read_if}
use Rattle.gsl_ids.proofs.Rows.{found}
use Rattle.gsl_machine.specs.Functions.{begins_as, from_first_label, own_ids, variables_of}
use Rattle.gsl_machine.specs.Functions as machine
use Rattle.gsl_machine.specs.Interfaces.{globals}
use Rattle.gsl_machine.specs.State.{Held}
use Rattle.gsl_region.specs.Showing.{with_words}
use Rattle.gsl_kinds.specs.Runtimes.{front}
use Rattle.gsl_leaves.specs.Leaves.{leaves}
use Rattle.gsl_leaves.proofs.Noted.{one_more}
use Rattle.gsl_positions.specs.Positions.{left}
use Rattle.gsl_positions.proofs.Standing.{function_stands}
use Rattle.gsl_slots.specs.Holding.{Holds as HoldsIds}
use Rattle.gsl_sound_code.specs.Spots.{IsBody}
use Rattle.gsl_sound_code.proofs.Looks.{Kept}
use Rattle.gsl_sound_types.specs.Typed.{types_of}
use Rattle.gsl_sound_types.proofs.Entering.{IsOwn, own_variables}
use Rattle.gsl_sound_types.proofs.Memories.{variable_kind}
use Rattle.gsl_frames.specs.declared.taken.Taken.{Taken}
use Rattle.gsl_frames.specs.Frames.{frame, held_words, place, sum, taken_in, variable_words}
use Rattle.gsl_frames.specs.Taken.{nothing_taken, taken_by}
use Rattle.gsl_shown.specs.Shown.{ShowsIds, held_as, in_slots}
use Rattle.gsl_shown.proofs.Branching.{in_all_at}
use Rattle.gsl_shown.proofs.Bounds.{after}
use Rattle.gsl_shown.proofs.Giving.{length_with}
use Rattle.gsl_shown.proofs.Places.{instr_there}
use Rattle.gsl_shown_calls.proofs.Globals.{no_globals}
use Rattle.gsl_shown_calls.proofs.Heads.{Heads, InRow, heads}
use Rattle.gsl_shown_calls.proofs.Putting.{AreCounted, IsVariable, all_put, counted_all, none_held, points_held}

pub once : (m : Module) → Valid m → ids_defined_once m ≡ None
once m valid = ((valid_each m).0 valid).1.1.0

-- ---- where a function begins

-- The instruction of a number begins a function.
record BegunAt (m : Module) (n : ℕ) : Type 0 where
  instr : Instr
  at : ℕ
  next : n ≡ at + 1
  within : at < length m.instrs
  here : drop at m.instrs ≡ instr ∷ drop (at + 1) m.instrs
  returned : ℕ
  id : ℕ
  function_type : ℕ
  is : kind (read instr) ≡ Begins returned id function_type

abbrev Beginner : Kind → Bool
Beginner (Begins returned id function_type) = true
Beginner _ = false

begun_at : (m : Module) (id returned own function_type : ℕ) → kind (defined_as m id) ≡ Begins returned own function_type → BegunAt m (number_of m id)
begun_at m id returned own function_type is = by_number (number_of m id) refl (ap kind (found m.instrs m.instrs 0 id refl) ∙ is)
  where
    got : (code : Code) (k : ℕ) → kind (read_if (slice_get code k)) ≡ Begins returned own function_type → (k < length code) × ((i : Instr) (rest : Code) → drop k code ≡ i ∷ rest → kind (read i) ≡ Begins returned own function_type)
    got [] k is = absurd (cc)
    got (i ∷ code) zero is = (omega arith, λ j rest e. let same : i ≡ j = cc in ap (λ x. kind (read x)) (sym same) ∙ is)
    got (i ∷ code) (suc k) is = let later = got code k is in (let low = later.0 in omega (arith, low), later.1)

    by_number : (n : ℕ) → number_of m id ≡ n → kind (numbered m.instrs n) ≡ Begins returned own function_type → BegunAt m (number_of m id)
    by_number zero e is = absurd (cc)
    by_number (suc k) e is =
        let last : suc k - 1 ≡ k = omega arith in
        let g = got m.instrs k (ap (λ j. kind (read_if (slice_get m.instrs j))) (sym last) ∙ ap kind (sym (cond-false (suc k == 0) None (read_if (slice_get m.instrs (suc k - 1))) (eqb-suc-zero k))) ∙ is) in
        let it = instr_there m.instrs k g.0 in
        record {
          instr = it.0;
          at = k;
          next = e ∙ omega arith;
          within = g.0;
          here = it.1;
          returned = returned;
          id = own;
          function_type = function_type;
          is = g.1 it.0 (drop (k + 1) m.instrs) it.1;
        }

fresh_at : (m : Module) (n : ℕ) → BegunAt m n → taken_in m (front m n) ≡ nothing_taken
fresh_at m n b =
    ap (λ k. taken_in m (front m k)) b.next ∙ ap (taken_in m) (one_more m b.at b.instr (drop (b.at + 1) m.instrs) b.within b.here) ∙ ap (λ k. after m k (taken_in m (front m b.at))) b.is

module _ (m : Module) (kept : Kept m) (valid : ids_defined_once m ≡ None) (id returned own function_type : ℕ) (begun : kind (defined_as m id) ≡ Begins returned own function_type) (b : IsBody m id returned function_type) where
  abbrev Types : List ℕ
  Types = parameters_of (defined_as m function_type)

  pub body_left : b.body ≡ left m (number_of m id)
  body_left = function_stands m valid id b.body b.found

  pub body_fresh : taken_in m (front m (number_of m id)) ≡ nothing_taken
  body_fresh = fresh_at m (number_of m id) (begun_at m id returned own function_type begun)

  pub head : Heads m (number_of m id) Types b.body
  head = heads m kept b.body returned b.before b.body Types (number_of m id) b.spot b.begun body_left (ap (λ (t : Taken). t.parameters) body_fresh ∙ sym (ap (λ (t : Taken). t.top) body_fresh))

  -- at its first label it takes what it takes in all
  pub all_first : in_all_at m head.first ≡ frame m b.body
  all_first = head.same ∙ ap (taken_by sum (held_words m) (variable_words m) (left m (number_of m id))) body_fresh ∙ ap (λ l. taken_by sum (held_words m) (variable_words m) l nothing_taken) (sym body_left)

  own_are : AllByRecursion (IsVariable m) (variables_of b.body)
  own_are = each (variables_of b.body) (own_variables m kept returned b.body b.before b.spot)
    where
      each : (vs : List Variable) → AllByRecursion (IsOwn m) vs → AllByRecursion (IsVariable m) vs
      each [] all = tt
      each (v ∷ vs) all = (variable_kind (kind (defined_as m v.id)) v all.0.is, each vs all.1)

  -- what its ids stand for, with the words of what is given to it at the beginning of its slots
  pub begun_shown : (below : List ℕ) (base : ℕ) (slots : List ℕ) (held : List Held) (count : ℕ) → AreCounted m (held_as m (below ++ types_of m (variables_of b.body))) Types held → base + (frame m b.body).most ≤ length slots
      → base + sum_by (held_words m) Types ≤ length slots
      → ShowsIds m below (record { at = head.first; body = number_of m id; slots = base; variables = sum_by (leaves m) below }) b.body (with_words slots base (flat_map (held_as m (below ++ types_of m (variables_of b.body))) held))
      (own_ids (globals m) b.body held count) (own_ids (globals m) b.body held count)
  begun_shown below base slots held count are room fits =
      let words = held_as m (below ++ types_of m (variables_of b.body)) in
      let new = flat_map words held in
      let size = counted_all m words Types held are in
      let long = length_with slots new base (omega (arith, size, fits)) in
      let from : (taken_in m (front m (number_of m id))).top ≡ 0 = ap (λ (t : Taken). t.top) body_fresh in
      let top = head.top in
      let parameters = head.parameters in
      let zero_on : base + 0 ≡ base = omega arith in
      let row = subst (λ n. InRow m n Types (machine.parameters_of b.body)) from head.row in
      let put = all_put m words base 0 slots Types (machine.parameters_of b.body) held (globals m) row are (omega (arith, fits)) (none_held m words (λ k. base + place m k) slots (base + 0) (globals m) (no_globals m kept)) in
      let here : HoldsIds words (λ k. base + place m k) (with_words slots base new) (base + (taken_in m (front m head.first)).top) (in_slots m (own_ids (globals m) b.body held count)) =
      points_held m words (λ k. base + place m k) (with_words slots base new) (base + (taken_in m (front m head.first)).top) (machine.give_each (globals m) (machine.parameters_of b.body) held) count (variables_of b.body) own_are
      (subst (λ n. HoldsIds words (λ k. base + place m k) (with_words slots base new) n (in_slots m (machine.give_each (globals m) (machine.parameters_of b.body) held))) (omega (arith, top, from))
      (subst (λ n. HoldsIds words (λ k. base + place m k) (with_words slots n new) (base + (0 + sum_by (held_words m) Types)) (in_slots m (machine.give_each (globals m) (machine.parameters_of b.body) held))) zero_on put)) in
      record {
        body_is = body_left;
        fresh = body_fresh;
        variables_are = refl;
        room = omega (arith, long, room);
        in_all = all_first;
        held = here;
        lasting = subst (λ n. HoldsIds words (λ k. base + place m k) (with_words slots base new) (base + n) (in_slots m (own_ids (globals m) b.body held count))) (sym parameters) here;
      }
