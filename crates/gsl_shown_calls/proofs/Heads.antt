-- The parameters of a function, from its beginning to its first label.
use Rattle.std.proofs.Common.{◌≡◌, refl, sym, ap, ◌∙◌, subst, ℕ, ◌+◌, Bool, true, false, List, [], ◌∷◌, drop, Option, Some, None, inl, inr, arith}
use Rattle.std.specs.List.{cons_option, sum_by}
use Rattle.std.specs.Prelude.{◌==◌}
use Rattle.std.proofs.lemmas.Bool.{and_parts, cases_Bool, cond-false, cond-true, eqb-true, false≢true, true≢false}
use Rattle.std.proofs.lemmas.List.Sums.{sum_by-cons}
use Rattle.gsl_instr.specs.declared.instruction.Instruction.{Instruction}
use Rattle.gsl_instr.specs.declared.instruction.Instruction.TheVariants as instruction
use Rattle.gsl_instr.specs.declared.op.TheConstants as op
use Rattle.gsl_instr.specs.Instructions.{arg}
use Rattle.gsl_words.specs.declared.module.Instr.{Instr}
use Rattle.gsl_words.specs.declared.module.Module.{Module}
use Rattle.gsl_valid.specs.CallRules.{is_last, takes}
use Rattle.gsl_valid.specs.FunctionRules.{is_due, may_stand_here}
use Rattle.gsl_valid.specs.Ids.{result}
use Rattle.gsl_valid.specs.Instruction.{read}
use Rattle.gsl_valid.specs.Kinds.{Kind, Asks, Imports, Sets, Enters, Modes, Debugs, Decorates, Declares, Fixes, Takes, Opens, Absent, kind, kind_of}
use Rattle.gsl_valid.specs.Placed.{Code, Placed}
use Rattle.gsl_valid.specs.Search.{from_here}
use Rattle.gsl_valid.specs.Types.{defined_as}
use Rattle.gsl_valid.specs.Sections.{has_numbers, may_come}
use Rattle.gsl_valid.specs.Instruction.{is_such}
use Rattle.gsl_valid.specs.Where.{Begun, bounds_function, bounds_one, section_in, section_of, stands_after, where_at}
use Rattle.gsl_machine.specs.Functions.{from_first_label, parameters_of}
use Rattle.gsl_kinds.specs.Runtimes.{front}
use Rattle.gsl_leaves.proofs.Noted.{one_more}
use Rattle.gsl_positions.specs.Positions.{left}
use Rattle.gsl_sound_code.specs.Spots.{Spot}
use Rattle.gsl_sound_code.proofs.Looks.{Kept}
use Rattle.gsl_sound_code.proofs.Opcodes.{opens, reads_end, reads_label, reads_parameter}
use Rattle.gsl_sound_code.proofs.Spots.{section_stays}
use Rattle.gsl_sound_code.proofs.Walks.{AreTaken, enter, not_over, opened_op, step_of, taken_op}
use Rattle.gsl_frames.specs.declared.taken.Taken.{Taken}
use Rattle.gsl_frames.specs.Frames.{held_words, place, taken_in}
use Rattle.gsl_frames.specs.Taken.{in_front}
use Rattle.gsl_shown.proofs.Bounds.{after}
use Rattle.gsl_shown.proofs.Branching.{in_all_at, next_same}
use Rattle.gsl_shown.proofs.Places.{place_given, stands_at}

-- Ids of parameters of these types stand one behind the other, from a place on.
abbrev pub InRow : Module → ℕ → List ℕ → List ℕ → Type 0
InRow m from [] [] = Unit {0}
InRow m from [] (id ∷ ids) = ⊥
InRow m from (type ∷ types) [] = ⊥
InRow m from (type ∷ types) (id ∷ ids) = (place m id ≡ from) × (kind (defined_as m id) ≡ Takes type) × InRow m (from + held_words m type) types ids

-- From an instruction at the head of a function on, with parameters of these types to come, its first label is found, behind all of them.
pub record Heads (m : Module) (at : ℕ) (types : List ℕ) (rest : List Placed) : Type 0 where
  pub first : ℕ
  pub is : from_first_label rest ≡ left m first
  pub same : in_all_at m first ≡ in_all_at m at
  pub top : (taken_in m (front m first)).top ≡ (taken_in m (front m at)).top + sum_by (held_words m) types
  pub parameters : (taken_in m (front m first)).parameters ≡ (taken_in m (front m first)).top
  pub row : InRow m (taken_in m (front m at)).top types (parameters_of rest)

ends : (i : Instr) → is_last (kind (read i)) ≡ false → (i.op == op.FUNCTION_END) ≡ false
ends i goes = elim (cases_Bool (i.op == op.FUNCTION_END)) [
  | inl last ↦ absurd (true≢false (sym (ap (λ d. is_last (kind d)) (reads_end i last)) ∙ goes))
  | inr more ↦ more
]

abbrev Absents : Kind → Bool
Absents Absent = true
Absents _ = false

not_absent : (m : Module) (d : Option Instruction) → is_such (has_numbers m) d ≡ true → Absents (kind d) ≡ false
not_absent m None such = absurd (false≢true such)
not_absent m (Some d) such = known d
  where
    known : (d : Instruction) → Absents (kind_of d) ≡ false
    known instruction.Kill = refl
    known _ = refl

module _ (m : Module) (kept : Kept m) (body : List Placed) (returned : ℕ) where
  shape_here : (before : Code) (p : Placed) (rest : List Placed) (types : List ℕ) → Spot m body returned before (p ∷ rest) → (where_at m before).standing ≡ Begun types → may_stand_here m (drop 1 (from_here m before)) (Begun types) (kind (read p.instr)) ≡ true
  shape_here before p rest types spot begun =
      ap (λ s. may_stand_here m (drop 1 (from_here m before)) s (kind (read p.instr))) (sym begun) ∙ (step_of m kept body returned before p rest spot).keeps.shape

  -- a label, at which all parameters have come
  at_first : (before : Code) (p : Placed) (rest : List Placed) (at : ℕ) → Spot m body returned before (p ∷ rest) → (where_at m before).standing ≡ Begun [] → p ∷ rest ≡ left m at → kind (read p.instr) ≡ Opens
      → (taken_in m (front m at)).parameters ≡ (taken_in m (front m at)).top → Heads m at [] (p ∷ rest)
  at_first before p rest at spot begun here is all =
      let label = opened_op p.instr (read p.instr) refl (ap opens is) in
      let e = (enter m kept body returned before (p ∷ rest) [] spot begun).taken in
      record {
        first = at;
        is = cond-true (p.instr.op == op.LABEL) (p ∷ rest) (from_first_label rest) label ∙ here;
        same = refl;
        top = omega arith;
        parameters = all;
        row = none (parameters_of (p ∷ rest)) e;
      }
    where
      none : (ids : List ℕ) → AreTaken m [] ids → InRow m (taken_in m (front m at)).top [] ids
      none [] are = tt
      none (id ∷ ids) are = absurd are

  -- a parameter, and those behind it
  one_further : (before : Code) (p : Placed) (rest : List Placed) (type : ℕ) (types : List ℕ) (at : ℕ) → Spot m body returned before (p ∷ rest) → p ∷ rest ≡ left m at → kind (read p.instr) ≡ Takes type
      → (taken_in m (front m at)).parameters ≡ (taken_in m (front m at)).top → Heads m (at + 1) types rest → Heads m at (type ∷ types) (p ∷ rest)
  one_further before p rest type types at spot here is all later =
      let s = step_of m kept body returned before p rest spot in
      let stood = stands_at m at p rest (sym here) (ap is_last is) in
      let parameter = taken_op p.instr (read p.instr) refl (ap takes is) in
      let reads = reads_parameter p.instr parameter in
      let id = arg p.instr.args 1 in
      let no_label : (p.instr.op == op.LABEL) ≡ false = elim (cases_Bool (p.instr.op == op.LABEL)) [
        | inl label ↦ absurd (true≢false (sym (ap (λ d. opens (kind d)) (reads_label p.instr label)) ∙ ap opens is))
        | inr none ↦ none
      ] in
      let no_end : (p.instr.op == op.FUNCTION_END) ≡ false = ends p.instr (ap is_last is) in
      let taken : taken_in m (front m (at + 1)) ≡ after m (Takes type) (taken_in m (front m at)) =
      ap (taken_in m) (one_more m at p.instr (drop (at + 1) m.instrs) stood.within stood.here) ∙ ap (λ k. after m k (taken_in m (front m at))) is in
      let top : (taken_in m (front m (at + 1))).top ≡ (taken_in m (front m at)).top + held_words m type = ap (λ (t : Taken). t.top) taken in
      let further = later.top in
      let place_is : place m id ≡ (taken_in m (front m at)).top = place_given m kept at id p.instr (drop (at + 1) m.instrs) stood.here (ap result reads) ∙ ap (λ k. in_front k (taken_in m (front m at))) is in
      record {
        first = later.first;
        is = cond-false (p.instr.op == op.LABEL) (p ∷ rest) (from_first_label rest) no_label ∙ later.is;
        same = later.same ∙ next_same m at p.instr stood.within stood.here no_end;
        top = omega (arith, further, top, sum_by-cons (held_words m) type types);
        parameters = later.parameters;
        row = subst (InRow m (taken_in m (front m at)).top (type ∷ types))
            (sym (ap (λ o. cons_option o (parameters_of rest)) (cond-true (p.instr.op == op.FUNCTION_PARAMETER) (result (read p.instr)) _ parameter ∙ ap result reads)))
            (place_is, ap kind (s.keeps.own id (ap result reads)) ∙ is, subst (λ n. InRow m n types (parameters_of rest)) top later.row);
      }

  -- the same of what is behind a parameter
  abbrev Later : Code → Placed → List Placed → ℕ → Type 0
  Later before p rest at =
      (types : List ℕ) → bounds_function (read p.instr) ≡ false → (where_at m (p.instr ∷ before)).standing ≡ Begun types → rest ≡ left m (at + 1) → (taken_in m (front m (at + 1))).parameters ≡ (taken_in m (front m (at + 1))).top → Heads m (at + 1) types rest

  pub heads : (before : Code) (rest : List Placed) (types : List ℕ) (at : ℕ) → Spot m body returned before rest → (where_at m before).standing ≡ Begun types → rest ≡ left m at → (taken_in m (front m at)).parameters ≡ (taken_in m (front m at)).top
      → Heads m at types rest
  heads before [] types at spot begun here all = absurd (not_over m kept body returned before spot)
  heads before (p ∷ rest) types at spot begun here all =
      by_kind (kind (read p.instr)) refl types begun (shape_here before p rest types spot begun)
      (section_stays m before p.instr (step_of m kept body returned before p rest spot).code (step_of m kept body returned before p rest spot).keeps spot.section)
      (λ types bounds stands behind taken. heads (p.instr ∷ before) rest types (at + 1) ((step_of m kept body returned before p rest spot).goes bounds) stands behind taken)
    where
      due : (type : ℕ) (types : List ℕ) → kind (read p.instr) ≡ Takes type → (where_at m before).standing ≡ Begun types → is_due type types ≡ true → Later before p rest at → Heads m at types (p ∷ rest)
      due type [] is begun may later = absurd (false≢true may)
      due type (next ∷ types) is begun may later =
          let stood = stands_at m at p rest (sym here) (ap is_last is) in
          let taken : taken_in m (front m (at + 1)) ≡ after m (Takes type) (taken_in m (front m at)) =
          ap (taken_in m) (one_more m at p.instr (drop (at + 1) m.instrs) stood.within stood.here) ∙ ap (λ k. after m k (taken_in m (front m at))) is in
          subst (λ t. Heads m at (t ∷ types) (p ∷ rest)) (sym (eqb-true next type may))
          (one_further before p rest type types at spot here is all
          (later types (ap bounds_one is) (ap (stands_after m (where_at m before).standing) is ∙ ap (λ st. stands_after m st (Takes type)) begun) stood.behind_it
          (ap (λ (t : Taken). t.parameters) taken ∙ sym (ap (λ (t : Taken). t.top) taken))))

      by_kind : (k : Kind) → kind (read p.instr) ≡ k → (types : List ℕ) → (where_at m before).standing ≡ Begun types → may_stand_here m (drop 1 (from_here m before)) (Begun types) (kind (read p.instr)) ≡ true
          → section_of (where_at m before).inside (read p.instr) ≡ 9 → Later before p rest at → Heads m at types (p ∷ rest)
      by_kind (Takes type) is types begun may last later = due type types is begun (ap (may_stand_here m (drop 1 (from_here m before)) (Begun types)) (sym is) ∙ may) later
      by_kind Opens is [] begun may last later = at_first before p rest at spot begun here is all
      by_kind Opens is (type ∷ types) begun may last later = absurd (false≢true (ap (may_stand_here m (drop 1 (from_here m before)) (Begun (type ∷ types))) (sym is) ∙ may))
      by_kind Absent is types begun may last later =
          let s = step_of m kept body returned before p rest spot in
          absurd (true≢false (sym (ap Absents is) ∙ not_absent m (read p.instr) (and_parts (may_come (where_at m before).section (section_of (where_at m before).inside (read p.instr))) _ s.keeps.section).1))
      by_kind Asks is types begun may last later = absurd (false≢true (ap (λ k. section_in (where_at m before).inside k == 9) (sym is) ∙ ap (λ n. n == 9) last))
      by_kind Imports is types begun may last later = absurd (false≢true (ap (λ k. section_in (where_at m before).inside k == 9) (sym is) ∙ ap (λ n. n == 9) last))
      by_kind Sets is types begun may last later = absurd (false≢true (ap (λ k. section_in (where_at m before).inside k == 9) (sym is) ∙ ap (λ n. n == 9) last))
      by_kind (Enters model function name interface) is types begun may last later = absurd (false≢true (ap (λ k. section_in (where_at m before).inside k == 9) (sym is) ∙ ap (λ n. n == 9) last))
      by_kind (Modes function mode parts) is types begun may last later = absurd (false≢true (ap (λ k. section_in (where_at m before).inside k == 9) (sym is) ∙ ap (λ n. n == 9) last))
      by_kind Debugs is types begun may last later = absurd (false≢true (ap (λ k. section_in (where_at m before).inside k == 9) (sym is) ∙ ap (λ n. n == 9) last))
      by_kind (Decorates d) is types begun may last later = absurd (false≢true (ap (λ k. section_in (where_at m before).inside k == 9) (sym is) ∙ ap (λ n. n == 9) last))
      by_kind (Declares shape) is types begun may last later = absurd (false≢true (ap (λ k. section_in (where_at m before).inside k == 9) (sym is) ∙ ap (λ n. n == 9) last))
      by_kind (Fixes type value) is types begun may last later = absurd (false≢true (ap (λ k. section_in (where_at m before).inside k == 9) (sym is) ∙ ap (λ n. n == 9) last))
      by_kind k is types begun may last later = absurd (false≢true (ap (may_stand_here m (drop 1 (from_here m before)) (Begun types)) (sym is) ∙ may))
