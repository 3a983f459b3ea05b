-- Where the variables of a function stand.
use Rattle.std.proofs.Common.{◌≡◌, refl, sym, ap, ◌∙◌, subst, ℕ, zero, suc, ◌+◌, Bool, true, false, if◌then◌else◌, List, [], ◌∷◌, ◌++◌, length, drop, take, Option, Some, None, arith}
use Rattle.std.specs.List.{AllByRecursion, cons_option, sum_by}
use Rattle.std.specs.Prelude.{◌==◌, slice_get}
use Rattle.std.proofs.lemmas.Bool.{cond-true, false≢true}
use Rattle.std.proofs.lemmas.List.Sums.{sum_by-append, sum_by-cons}
use Rattle.gsl_base.specs.declared.input.Buffer.{Buffer}
use Rattle.gsl_base.specs.declared.input.Input.{Input}
use Rattle.gsl_instr.specs.declared.op.TheConstants as op
use Rattle.gsl_words.specs.declared.module.Module.{Module}
use Rattle.gsl_valid.specs.CallRules.{is_last}
use Rattle.gsl_valid.specs.DecorationRules.{pointee}
use Rattle.gsl_valid.specs.Instruction.{read}
use Rattle.gsl_valid.specs.Kinds.{Ended, Kind, Variable, kind, variable_in, variable_is}
use Rattle.gsl_valid.specs.Placed.{Placed}
use Rattle.gsl_valid.specs.Types.{is_block_class}
use Rattle.gsl_machine.specs.Functions.{variables_of}
use Rattle.gsl_machine.specs.State.{State}
use Rattle.gsl_kinds.specs.Runtimes.{front}
use Rattle.gsl_leaves.specs.Leaves.{leaves}
use Rattle.gsl_leaves.proofs.Noted.{one_more}
use Rattle.gsl_memory_law.specs.Typed.{place_by}
use Rattle.gsl_positions.specs.Positions.{behind, left, place_of}
use Rattle.gsl_positions.proofs.Standing.{below, left_is}
use Rattle.gsl_sound.specs.Sound.{Good}
use Rattle.gsl_sound_code.proofs.Looks.{Kept}
use Rattle.gsl_sound_code.proofs.Walks.{ended_op}
use Rattle.gsl_sound_ids.proofs.Variables.{variable_result}
use Rattle.gsl_sound_types.specs.Typed.{types_below, types_in, types_of}
use Rattle.gsl_sound_types.proofs.Memories.{variable_kind}
use Rattle.gsl_frames.specs.declared.taken.Taken.{Taken}
use Rattle.gsl_frames.specs.Frames.{place, taken_in, variable_words}
use Rattle.gsl_frames.specs.Taken.{in_front}
use Rattle.gsl_shown.specs.Shown.{Shows, Standing}
use Rattle.gsl_shown.proofs.Bounds.{StaysIn, after}
use Rattle.gsl_shown.proofs.Places.{instr_there, place_given, stands_at, stays_in}
use Rattle.gsl_shown_calls.proofs.Counting.{none_of_blocks}
use Rattle.gsl_shown_variables.specs.Standing.{words_ahead}
use Rattle.gsl_shown_variables.proofs.Outer.{no_more, no_offset, nothing}

abbrev Plain : Variable → Type 0
Plain v = is_block_class v.class ≡ false

taken_on : (xs ys : List ℕ) (n : ℕ) → take (length xs + n) (xs ++ ys) ≡ xs ++ take n ys
taken_on [] ys n = ap (λ k. take k ys) (omega arith)
taken_on (x ∷ xs) ys n = ap (λ k. take k (x ∷ xs ++ ys)) (let e : suc (length xs) + n ≡ suc (length xs + n) = omega arith in e) ∙ ap (λ l. x ∷ l) (taken_on xs ys n)

no_variable : (k : Kind) → is_last k ≡ true → variable_in k ≡ None
no_variable Ended is = refl
no_variable _ is = absurd (false≢true is)

module _ (m : Module) (kept : Kept m) where
  -- what is shown of what is left of a function from a number on
  abbrev Shown : ℕ → List Placed → Type 0
  Shown at rest = (number : ℕ) (v : Variable) → slice_get (variables_of rest) number ≡ Some v → place m v.id ≡ (taken_in m (front m at)).variables + words_ahead m number (variables_of rest)

  last_one : (at : ℕ) (p : Placed) (rest : List Placed) → p ∷ rest ≡ left m at → is_last (kind (read p.instr)) ≡ true → rest ≡ []
  last_one at p rest here is =
      let within = below m at (let size : suc (length rest) ≡ length (left m at) = ap length here in omega (arith, size)) in
      let it = instr_there m.instrs at within in
      let both : p ∷ rest ≡ record { at = place_of m at; instr = it.0 } ∷ behind m at it.0.op = here ∙ left_is m at it.0 it.1 in
      let first : p ≡ record { at = place_of m at; instr = it.0 } = cc in
      let later : rest ≡ behind m at it.0.op = cc in
      let ends = ended_op it.0 (read it.0) refl (ap (λ (q : Placed). is_last (kind (read q.instr))) (sym first) ∙ is) in
      later ∙ cond-true (it.0.op == op.FUNCTION_END) [] (left m (at + 1)) ends

  one_further : (at : ℕ) (p : Placed) (rest : List Placed) → p ∷ rest ≡ left m at → StaysIn p → is_last (kind (read p.instr)) ≡ false → AllByRecursion Plain (cons_option (variable_is (read p.instr)) (variables_of rest)) → Shown (at + 1) rest → Shown at (p ∷ rest)
  one_further at p rest here stays goes plain later number v is = by_variable (variable_is (read p.instr)) refl plain is
    where
      next : taken_in m (front m (at + 1)) ≡ after m (kind (read p.instr)) (taken_in m (front m at))
      next = let s = stands_at m at p rest (sym here) goes in ap (taken_in m) (one_more m at p.instr (drop (at + 1) m.instrs) s.within s.here)

      by_number : (w : Variable) → variable_is (read p.instr) ≡ Some w → is_block_class w.class ≡ false → (n : ℕ) → slice_get (w ∷ variables_of rest) n ≡ Some v → place m v.id ≡ (taken_in m (front m at)).variables + words_ahead m n (w ∷ variables_of rest)
      by_number w e class zero is =
          let same : w ≡ v = cc in
          let s = stands_at m at p rest (sym here) goes in
          ap (λ (x : Variable). place m x.id) (sym same) ∙ place_given m kept at w.id p.instr (drop (at + 1) m.instrs) s.here (variable_result (read p.instr) w e)
          ∙ ap (λ k. in_front k (taken_in m (front m at))) (variable_kind (kind (read p.instr)) w e) ∙ omega arith
      by_number w e class (suc n) is =
          let it = later n v is in
          let words : variable_words m w ≡ leaves m (pointee m w.type) = ap (λ b. if b then 0 else leaves m (pointee m w.type)) class in
          let taken : (taken_in m (front m (at + 1))).variables ≡ (taken_in m (front m at)).variables + variable_words m w =
          ap (λ (t : Taken). t.variables) next ∙ ap (λ k. (after m k (taken_in m (front m at))).variables) (variable_kind (kind (read p.instr)) w e) in
          omega (arith, it, words, taken, sum_by-cons (leaves m) (pointee m w.type) (take n (types_of m (variables_of rest))))

      by_variable : (o : Option Variable) → variable_is (read p.instr) ≡ o → AllByRecursion Plain (cons_option o (variables_of rest)) → slice_get (cons_option o (variables_of rest)) number ≡ Some v
          → place m v.id ≡ (taken_in m (front m at)).variables + words_ahead m number (cons_option o (variables_of rest))
      by_variable None e plain is =
          let it = later number v is in
          let same : (taken_in m (front m (at + 1))).variables ≡ (taken_in m (front m at)).variables = ap (λ (t : Taken). t.variables) next ∙ no_more m (kind (read p.instr)) (taken_in m (front m at)) stays e in
          omega (arith, it, same)
      by_variable (Some w) e plain is = by_number w e plain.0 number is

  later_plain : (o : Option Variable) (vs : List Variable) → AllByRecursion Plain (cons_option o vs) → AllByRecursion Plain vs
  later_plain None vs all = all
  later_plain (Some v) vs all = all.1

  own_from : (rest : List Placed) (at : ℕ) → rest ≡ left m at → AllByRecursion StaysIn rest → AllByRecursion Plain (variables_of rest) → Shown at rest
  own_from [] at here stays plain = λ number v is. absurd (nothing v number is)
  own_from (p ∷ rest) at here stays plain =
      by_last (is_last (kind (read p.instr))) refl (λ behind_it. own_from rest (at + 1) behind_it stays.1 (later_plain (variable_is (read p.instr)) (variables_of rest) plain))
    where
      by_last : (b : Bool) → is_last (kind (read p.instr)) ≡ b → (rest ≡ left m (at + 1) → Shown (at + 1) rest) → Shown at (p ∷ rest)
      by_last true e later = λ number v is. absurd (nothing v number (subst (λ l. slice_get (cons_option l []) number ≡ Some v) (no_variable (kind (read p.instr)) e) (subst (λ r. slice_get (cons_option (variable_is (read p.instr)) (variables_of r)) number ≡ Some v) (last_one at p rest here e) is)))
      by_last false e later = one_further at p rest here stays.0 e plain (later (stands_at m at p rest (sym here) e).behind_it)

  pub own_stand : (input : Input) (f : Standing) (callers : List Standing) (slots words : List ℕ) (buffers : List Buffer) (choices : List ℕ) (state : State) (number : ℕ) (v : Variable) → Good m input state → Shows m f callers slots words buffers choices state
      → slice_get (variables_of state.body) number ≡ Some v → place_by m (types_in m state) (length (types_below m state.waiting) + number) [] ≡ f.variables + place m v.id
  own_stand input f callers slots words buffers choices state number v good shows is =
      let it = own_from state.body f.body shows.ids.body_is (stays_in m kept state.body good.returned good.runs.start state.body good.runs.first) (none_of_blocks m kept state.body good.returned good.runs.start good.runs.first) number v is in
      let below_types = types_below m state.waiting in
      let own = types_of m (variables_of state.body) in
      let from : (taken_in m (front m f.body)).variables ≡ 0 = ap (λ (t : Taken). t.variables) shows.ids.fresh in
      let none = no_offset m (slice_get (types_in m state) (length below_types + number)) in
      let front_is = shows.ids.variables_are in
      let all : sum_by (leaves m) (take (length below_types + number) (below_types ++ own)) ≡ sum_by (leaves m) below_types + words_ahead m number (variables_of state.body) =
      ap (sum_by (leaves m)) (taken_on below_types own number) ∙ sum_by-append (leaves m) below_types (take number own) in
      omega (arith, it, from, none, front_is, all)
