-- Initialisers that are put one by one.
use Rattle.std.proofs.Common.{◌≡◌, refl, sym, ap, ◌∙◌, subst, ℕ, ◌+◌, ◌<◌, ◌≤◌, Bool, true, false, if◌then◌else◌, List, [], ◌∷◌, ◌++◌, length, take, drop, Option, Some, None, arith, append_assoc, append-nil, length-append}
use Rattle.std.specs.Prelude.{◌==◌, min}
use Rattle.gsl_instr.specs.declared.op.TheConstants as ops
use Rattle.gsl_words.specs.declared.module.Instr.{Instr}
use Rattle.gsl_words.specs.declared.module.Module.{Module}
use Rattle.gsl_valid.specs.Instruction.{read}
use Rattle.gsl_valid.specs.Kinds.{Variable, type_of, variable_is}
use Rattle.gsl_valid.specs.Placed.{Placed}
use Rattle.gsl_valid.specs.Types.{defined_as}
use Rattle.gsl_region.specs.Showing.{with_words}
use Rattle.gsl_leaves.specs.Table.{most}
use Rattle.gsl_operands.specs.Operands.{stands}
use Rattle.gsl_positions.specs.Positions.{behind, left, place_of}
use Rattle.gsl_positions.proofs.Standing.{left_is, nothing_left}
use Rattle.gsl_shown.proofs.Giving.{length_with}
use Rattle.gsl_step_memory.specs.Moved.{first_of}
use Rattle.gsl_step_memory.proofs.Copied.{none_copied, row_long}
use Rattle.gsl_step_values.specs.Parts.{count_in}
use Rattle.gsl_step_values.proofs.Gathered.{put_behind}
use Rattle.gsl_step_entering.specs.Begun.{AreTold, HasRoomToBegin, PutsInitial, initial_id, initial_in, initial_of, next_at}

-- what is left behind an instruction begins where the function goes on
goes_to : (m : Module) (at op : ℕ) → behind m at op ≡ left m (next_at (length m.instrs) at op)
goes_to m at op = by_end (op == ops.FUNCTION_END)
  where
    by_end : (b : Bool) → (if b then [] else left m (at + 1)) ≡ left m (if b then length m.instrs else at + 1)
    by_end true = sym (nothing_left m (length m.instrs) (omega arith))
    by_end false = refl

-- What is put so far, and where it ends; with that of what is still to come it is all.
pub record SoFar (m : Module) (slots first : List ℕ) (begin body at : ℕ) (now : List ℕ) (end : ℕ) : Type 0 where
  pub done : List ℕ
  pub put : now ≡ with_words first begin done
  pub ends : end ≡ begin + length done
  pub all : done ++ initial_in m slots (left m at) ≡ initial_in m slots (left m body)
  pub each : AreTold m slots (left m at)

module _ (m : Module) (slots first : List ℕ) (begin body : ℕ) (fits : HasRoomToBegin m slots first begin (left m body)) where
  pub none_begun : SoFar m slots first begin body body first begin
  none_begun = record { done = []; put = none_copied first begin; ends = (let e : begin ≡ begin + 0 = omega arith in e); all = refl; each = fits.each }

  pub one_begun : (at to end then_end : ℕ) (i : Instr) (now later : List ℕ) → drop at m.instrs ≡ i ∷ drop (at + 1) m.instrs → to ≡ next_at (length m.instrs) at i.op → SoFar m slots first begin body at now end → PutsInitial m slots (variable_is (read i)) end now later then_end
      → SoFar m slots first begin body to later then_end
  one_begun at to end then_end i now later here goes so_far puts =
      let done = so_far.done in
      let w = initial_of m slots (variable_is (read i)) in
      let cut : left m at ≡ record { at = place_of m at; instr = i } ∷ left m to = left_is m at i here ∙ ap (λ l. record { at = place_of m at; instr = i } ∷ l) (goes_to m at i.op ∙ ap (left m) (sym goes)) in
      let told = subst (AreTold m slots) cut so_far.each in
      let parts : initial_in m slots (left m at) ≡ initial_of m slots (variable_is (read i)) ++ initial_in m slots (left m to) = ap (initial_in m slots) cut in
      let all : done ++ (w ++ initial_in m slots (left m to)) ≡ initial_in m slots (left m body) = ap (λ l. so_far.done ++ l) (sym parts) ∙ so_far.all in
      let total = sym (ap length all) ∙ length-append done (w ++ initial_in m slots (left m to)) in
      let inner = length-append w (initial_in m slots (left m to)) in
      let room = fits.room in
      let reach = fits.reach in
      let inside : begin + (length done + length w) ≤ length first = omega (arith, room, total, inner) in
      let long : length now ≡ length first = ap length so_far.put ∙ length_with first done begin (omega (arith, inside)) in
      let ends = so_far.ends in
      let it = puts told.0 fits.places (omega (arith, long, reach)) (omega (arith, ends, inside, long)) in
      record {
        done = done ++ w;
        put = it.0 ∙ ap (λ n. with_words now n w) so_far.ends ∙ ap (λ l. with_words l (begin + length done) w) so_far.put ∙ put_behind first done w begin inside;
        ends = (let e = it.1 in let both = length-append done w in omega (arith, e, ends, both));
        all = append_assoc done w (initial_in m slots (left m to)) ∙ all;
        each = told.1;
      }

  pub all_begun : (at end : ℕ) (now : List ℕ) → length m.instrs ≤ at → SoFar m slots first begin body at now end → now ≡ with_words first begin (initial_in m slots (left m body))
  all_begun at end now over so_far =
      let none : initial_in m slots (left m at) ≡ [] = ap (initial_in m slots) (nothing_left m at over) in
      so_far.put ∙ ap (with_words first begin) (sym (append-nil so_far.done) ∙ ap (λ l. so_far.done ++ l) (sym none) ∙ so_far.all)

-- ---- one initialiser

pub initial_none : (m : Module) (slots now : List ℕ) (v : Option Variable) (at : ℕ) → None ≡ initial_id v → PutsInitial m slots v at now now at
initial_none m slots now None at is = λ told places reach room. (none_copied now at, (let e : at ≡ at + 0 = omega arith in e))
initial_none m slots now (Some v) at is = absurd (cc)

abbrev WordsOf : Module → List ℕ → ℕ → List ℕ
WordsOf m slots i = take (count_in m (type_of (defined_as m i))) (drop (stands m 0 i) slots)

abbrev PutsOf : Module → (slots now next : List ℕ) → (at end i : ℕ) → Type 0
PutsOf m slots now next at end i =
    (i < m.bound) × (stands m 0 i + count_in m (type_of (defined_as m i)) ≤ length slots) → length slots ≤ most → length now ≤ most → at + length (WordsOf m slots i) ≤ length now → (next ≡ with_words now at (WordsOf m slots i)) × (end ≡ at + length (WordsOf m slots i))

put_of : (m : Module) (slots now next : List ℕ) (id at count from end : ℕ) → (count_in m (type_of (defined_as m id)) ≤ most → count ≡ count_in m (type_of (defined_as m id))) → (id < m.bound → stands m 0 id ≤ most → from ≡ stands m 0 id)
    → (from + count ≤ length slots → at + count ≤ length now → next ≡ with_words now at (take count (drop from slots))) → end ≡ min (at + count) 18446744073709551615 → PutsOf m slots now next at end id
put_of m slots now next id at count from end counts starts puts ends told places reach room =
    let inside = told.1 in
    let size = row_long slots (stands m 0 id) (count_in m (type_of (defined_as m id))) inside in
    let count_is = counts (omega (arith, inside, places)) in
    let from_is = starts told.0 (omega (arith, inside, places)) in (
      puts (omega (arith, inside, count_is, from_is)) (omega (arith, room, size, count_is)) ∙ ap (λ n. with_words now at (take n (drop from slots))) count_is ∙ ap (λ n. with_words now at (take (count_in m (type_of (defined_as m id))) (drop n slots))) from_is,
      omega (arith, ends, count_is, size, room, reach),
    )

pub initial_some : (m : Module) (slots now next : List ℕ) (v : Option Variable) (id at count from end : ℕ) → Some id ≡ initial_id v → (count_in m (type_of (defined_as m id)) ≤ most → count ≡ count_in m (type_of (defined_as m id))) → (id < m.bound → stands m 0 id ≤ most → from ≡ stands m 0 id)
    → (from + count ≤ length slots → at + count ≤ length now → next ≡ with_words now at (take count (drop from slots))) → end ≡ min (at + count) 18446744073709551615 → PutsInitial m slots v at now next end
initial_some m slots now next None id at count from end is = absurd (cc)
initial_some m slots now next (Some v) id at count from end is =
    let same : id ≡ first_of v.initialiser = (let both : Some id ≡ Some (first_of v.initialiser) = is in cc) in
    λ counts starts puts ends. subst (PutsOf m slots now next at end) same (put_of m slots now next id at count from end counts starts puts ends)
