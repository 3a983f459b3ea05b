-- Calls of a valid module nest no deeper than V11 lets them.
use Rattle.std.proofs.Common.{◌≡◌, refl, sym, ap, ◌∙◌, subst, ℕ, zero, suc, ◌+◌, ◌≤◌, Bool, true, false, ◌&&◌, ◌||◌, not, if◌then◌else◌, List, [], ◌∷◌, length, Option, Some, None, inl, inr, arith}
use Rattle.std.specs.List.{cons_option, list_any}
use Rattle.std.specs.Prelude.{◌==◌}
use Rattle.std.proofs.lemmas.Bool.{and_parts, cases_lt, cond-false, cond-true, eq-eqb, eqb-true, false≢true, or_left, or_right, true≢false}
use Rattle.gsl_instr.specs.declared.instruction.Instruction.{Instruction}
use Rattle.gsl_instr.specs.declared.instruction.Instruction.TheVariants as instruction
use Rattle.gsl_instr.specs.declared.op.TheConstants as op
use Rattle.gsl_instr.specs.Instructions.{result_of}
use Rattle.gsl_words.specs.declared.module.Instr.{Instr}
use Rattle.gsl_words.specs.declared.module.Module.{Module}
use Rattle.gsl_words.specs.Instructions.{word_count}
use Rattle.gsl_valid.specs.CallRules.{begins_cycle, call_of, callee, callee_in, called, called_by, has_chain, has_cycle, id_in, is_last, is_reached, leads_to, may_call, most_calls}
use Rattle.gsl_valid.specs.FunctionRules.{gives, may_stand_here, outside}
use Rattle.gsl_valid.specs.Ids.{defines, result}
use Rattle.gsl_valid.specs.Instruction.{read}
use Rattle.gsl_valid.specs.Kinds.{Kind, Begins, Calls, Ended, kind, kind_of}
use Rattle.gsl_valid.specs.Placed.{Code, Placed, header_size, placed_from}
use Rattle.gsl_valid.specs.Search.{from_here}
use Rattle.gsl_valid.specs.Types.{begins, defined_as, function_begins}
use Rattle.gsl_valid.specs.Where.{Standing, stands_after, where_at}
use Rattle.std.specs.Prelude.{drop}
use Rattle.gsl_machine.specs.Functions.{function_in, up_to_end}
use Rattle.gsl_sound_code.specs.Rules.{KeepAll}
use Rattle.gsl_sound_code.proofs.Looks.{Kept, defines_result, found}
use Rattle.gsl_sound_code.proofs.Opcodes.{reads_end}
use Rattle.gsl_sound_code.proofs.Spots.{stays_started}
use Rattle.gsl_sound_code.proofs.Walks.{ended_op}
use Rattle.gsl_chains.specs.Chains.{AreChained, body_of, body_or, calls_of}
use Rattle.gsl_chains.proofs.Bodies.{opcode_tells}

-- ---- lists

some_one : (p : ℕ → Bool) (xs : List ℕ) (x : ℕ) → list_any (λ other. other == x) xs ≡ true → p x ≡ true → list_any p xs ≡ true
some_one p [] x is passes = absurd (false≢true is)
some_one p (y ∷ xs) x is passes = by_test (y == x) refl is (some_one p xs x)
  where
    by_test : (b : Bool) → (y == x) ≡ b → (b || list_any (λ other. other == x) xs) ≡ true → (list_any (λ other. other == x) xs ≡ true → p x ≡ true → list_any p xs ≡ true) → (p y || list_any p xs) ≡ true
    by_test true here is later = or_left (p y) (list_any p xs) (ap p (eqb-true y x here) ∙ passes)
    by_test false here is later = or_right (p y) (list_any p xs) (later is passes)

none_of : (p : ℕ → Bool) (xs : List ℕ) → ((x : ℕ) → list_any (λ other. other == x) xs ≡ true → p x ≡ false) → list_any p xs ≡ false
none_of p [] each = refl
none_of p (y ∷ xs) each =
    ap (λ b. b || list_any p xs) (each y (or_left (y == y) _ (eq-eqb y y refl))) ∙ none_of p xs (λ x is. each x (or_right (y == x) _ is))

-- ---- what is called

last_tells : (i : Instr) → (i.op == op.FUNCTION_END) ≡ is_last (kind (read i))
last_tells i = by_test (i.op == op.FUNCTION_END) (is_last (kind (read i))) (λ is. ap (λ d. is_last (kind d)) (reads_end i is)) (λ is. ended_op i (read i) refl is)
  where
    by_test : (a b : Bool) → (a ≡ true → b ≡ true) → (b ≡ true → a ≡ true) → a ≡ b
    by_test true b to from = sym (to refl)
    by_test false true to from = from refl
    by_test false false to from = refl

up_calls : (code : Code) (place : ℕ) → calls_of (up_to_end (placed_from place code)) ≡ called code
up_calls [] place = refl
up_calls (i ∷ code) place = by_end (i.op == op.FUNCTION_END) refl (up_calls code (place + word_count i))
  where
    by_end : (b : Bool) → (i.op == op.FUNCTION_END) ≡ b → calls_of (up_to_end (placed_from (place + word_count i) code)) ≡ called code → calls_of (up_to_end (placed_from place (i ∷ code))) ≡ called (i ∷ code)
    by_end true is later =
        ap calls_of (cond-true (i.op == op.FUNCTION_END) (record { at = place; instr = i } ∷ []) (record { at = place; instr = i } ∷ up_to_end (placed_from (place + word_count i) code)) is)
        ∙ ap (λ d. cons_option (callee d) []) (reads_end i is)
        ∙ sym (cond-true (is_last (kind (read i))) [] (cons_option (callee (read i)) (called code)) (sym (last_tells i) ∙ is))
    by_end false is later =
        ap calls_of (cond-false (i.op == op.FUNCTION_END) (record { at = place; instr = i } ∷ []) (record { at = place; instr = i } ∷ up_to_end (placed_from (place + word_count i) code)) is)
        ∙ ap (cons_option (callee (read i))) later
        ∙ sym (cond-false (is_last (kind (read i))) [] (cons_option (callee (read i)) (called code)) (sym (last_tells i) ∙ is))

calls_in : (code : Code) (place id : ℕ) → calls_of (body_or (function_in (placed_from place code) id)) ≡ called_by code id
calls_in [] place id = refl
calls_in (i ∷ code) place id =
    ap (λ b. calls_of (body_or (if b && defines i id then Some (up_to_end (placed_from (place + word_count i) code)) else function_in (placed_from (place + word_count i) code) id))) (opcode_tells i)
    ∙ by_test (function_begins (read i) && defines i id) (calls_in code (place + word_count i) id)
  where
    by_test : (b : Bool) → calls_of (body_or (function_in (placed_from (place + word_count i) code) id)) ≡ called_by code id
        → calls_of (body_or (if b then Some (up_to_end (placed_from (place + word_count i) code)) else function_in (placed_from (place + word_count i) code) id)) ≡ (if b then called code else called_by code id)
    by_test true later = up_calls code (place + word_count i)
    by_test false later = later

called_is : (m : Module) (id : ℕ) → calls_of (body_of m id) ≡ called_by m.instrs id
called_is m id = calls_in m.instrs header_size id

-- functions of which each calls the next are a chain of calls
chained : (m : Module) (n id : ℕ) (bodies : List (List Placed)) → AreChained m (body_of m id) bodies → n ≤ length bodies → has_chain m.instrs n id ≡ true
unfolding has_chain
chained m zero id bodies are few = refl
chained m (suc n) id [] are few = absurd (omega (arith, few))
chained m (suc n) id (next ∷ bodies) are few =
    some_one (has_chain m.instrs n) (called_by m.instrs id) are.0.id (ap (list_any (λ other. other == are.0.id)) (sym (called_is m id)) ∙ are.0.called)
    (chained m n are.0.id bodies (subst (λ b. AreChained m b bodies) are.0.is are.1) (omega (arith, few)))

-- ---- no function reaches itself

begun_id : (d : Instruction) → begins (kind_of d) ≡ true → id_in (kind_of d) ≡ result_of d
begun_id (instruction.Function type result control function_type) is = refl
begun_id _ is = absurd (false≢true is)

begun_is : (d : Option Instruction) → begins (kind d) ≡ true → id_in (kind d) ≡ result d
begun_is None is = absurd (false≢true is)
begun_is (Some d) is = begun_id d is

unlike : (b : Bool) → not b ≡ true → b ≡ false
unlike true is = absurd (false≢true is)
unlike false is = refl

module _ (m : Module) where
  module _ (id c : ℕ) where
    abbrev Far : Code → Type 0
    Far code = list_any (λ other. other == c) (called code) ≡ true → leads_to m c id ≡ false

    far : (before code : Code) → KeepAll m before code → outside (where_at m before).standing ≡ false → id_in (kind (where_at m before).function) ≡ Some id → Far code
    far before [] keep inside within is = absurd (false≢true is)
    far before (i ∷ code) keep inside within is =
        by_kind (kind (read i)) refl (λ started other. far (i ∷ before) code keep.1 started other) is
      where
        by_kind : (k : Kind) → kind (read i) ≡ k → (outside (where_at m (i ∷ before)).standing ≡ false → id_in (kind (where_at m (i ∷ before)).function) ≡ Some id → Far code)
            → list_any (λ other. other == c) (called (i ∷ code)) ≡ true → leads_to m c id ≡ false
        by_kind (Begins type own function_type) e later is =
            absurd (true≢false (sym (and_parts (outside (where_at m before).standing) (gives type (defined_as m function_type)) (ap (may_stand_here m (drop 1 (from_here m before)) (where_at m before).standing) (sym e) ∙ keep.0.shape)).0 ∙ inside))
        by_kind Ended e later is = absurd (false≢true (ap (λ k. list_any (λ other. other == c) (if is_last k then [] else cons_option (callee_in k) (called code))) (sym e) ∙ is))
        by_kind (Calls type function given) e later is =
            by_first (function == c) refl (ap (λ k. list_any (λ other. other == c) (if is_last k then [] else cons_option (callee_in k) (called code))) (sym e) ∙ is)
          where
            by_first : (b : Bool) → (function == c) ≡ b → (b || list_any (λ other. other == c) (called code)) ≡ true → leads_to m c id ≡ false
            by_first true here is =
                let may : may_call m (where_at m before) type function given ≡ true = ap (call_of m before) (sym e) ∙ keep.0.call in
                unlike (leads_to m c id) (ap (λ n. not (leads_to m n id)) (sym (eqb-true function c here)) ∙ ap (λ o. not (is_reached m function o)) (sym within) ∙ (and_parts _ (not (is_reached m function (id_in (kind (where_at m before).function)))) may).1)
            by_first false here is = later
                (ap (λ k. outside (stands_after m (where_at m before).standing k)) e ∙ stays_started m (where_at m before).standing (Calls type function given) refl inside)
                (ap (λ b. id_in (kind (if b then read i else (where_at m before).function))) (ap begins e) ∙ within) is
        by_kind k e later is = later
            (ap (λ k. outside (stands_after m (where_at m before).standing k)) e ∙ stays_started m (where_at m before).standing k refl inside)
            (ap (λ b. id_in (kind (if b then read i else (where_at m before).function))) (ap begins e) ∙ within)
            (ap (λ k. list_any (λ other. other == c) (if is_last k then [] else cons_option (callee_in k) (called code))) (sym e) ∙ is)

    begun_inside : (s : Standing) (k : Kind) → begins k ≡ true → outside (stands_after m s k) ≡ false
    begun_inside s (Begins type own function_type) is = refl
    begun_inside s _ is = absurd (false≢true is)

    called_far : (before code : Code) → KeepAll m before code → list_any (λ other. other == c) (called_by code id) ≡ true → leads_to m c id ≡ false
    called_far before [] keep is = absurd (false≢true is)
    called_far before (i ∷ code) keep is = by_test (function_begins (read i) && defines i id) refl (called_far (i ∷ before) code keep.1) is
      where
        by_test : (b : Bool) → (function_begins (read i) && defines i id) ≡ b → (list_any (λ other. other == c) (called_by code id) ≡ true → leads_to m c id ≡ false)
            → list_any (λ other. other == c) (if b then called code else called_by code id) ≡ true → leads_to m c id ≡ false
        by_test true here later is =
            let both = and_parts (function_begins (read i)) (defines i id) here in
            far (i ∷ before) code keep.1 (begun_inside (where_at m before).standing (kind (read i)) both.0)
            (ap (λ b. id_in (kind (if b then read i else (where_at m before).function))) both.0 ∙ begun_is (read i) both.0 ∙ defines_result i id both.1) is
        by_test false here later is = later is

  module _ (kept : Kept m) where
    none_begun : (k : Kind) → begins_cycle m k ≡ false
    none_begun (Begins type id function_type) = none_of (λ next. leads_to m next id) (called_by m.instrs id) (λ c is. called_far id c [] m.instrs kept.all is)
    none_begun _ = refl

    none_in : (code : Code) → list_any (λ i. begins_cycle m (kind (read i))) code ≡ false
    none_in [] = refl
    none_in (i ∷ code) = ap (λ b. b || list_any (λ i. begins_cycle m (kind (read i))) code) (none_begun (kind (read i))) ∙ none_in code

    limit : (id : ℕ) → begins (kind (defined_as m id)) ≡ true → has_chain m.instrs (suc most_calls) id ≡ false
    limit id is = by_definition (defined_as m id) refl is
      where
        kept_by : (before : Code) (k : Kind) → call_of m before k ≡ true → id_in k ≡ Some id → has_chain m.instrs (suc most_calls) id ≡ false
        kept_by before (Begins type own function_type) may same =
            let it : own ≡ id = cc in
            unlike (has_chain m.instrs (suc most_calls) id)
            (by_or (not (has_chain m.instrs (suc most_calls) id)) (has_cycle m) (none_in m.instrs) (ap (λ n. not (has_chain m.instrs (suc most_calls) n) || has_cycle m) (sym it) ∙ may))
          where
            by_or : (a b : Bool) → b ≡ false → (a || b) ≡ true → a ≡ true
            by_or true b none is = refl
            by_or false b none is = sym none ∙ is
        kept_by before _ may same = absurd (cc)

        by_definition : (d : Option Instruction) → defined_as m id ≡ d → begins (kind d) ≡ true → has_chain m.instrs (suc most_calls) id ≡ false
        by_definition None here is = absurd (false≢true is)
        by_definition (Some d) here is =
            let f = found m [] m.instrs id d kept.all here in
            kept_by f.before (kind (read f.instr)) f.keeps.call (begun_is (read f.instr) (ap (λ d. begins (kind d)) f.reads ∙ is) ∙ f.gives)

    pub short : (id : ℕ) (bodies : List (List Placed)) → begins (kind (defined_as m id)) ≡ true → AreChained m (body_of m id) bodies → length bodies ≤ most_calls
    short id bodies is are = elim (cases_lt most_calls (length bodies)) [
      | inl more ↦ absurd (true≢false (sym (chained m (suc most_calls) id bodies are (omega (arith, more))) ∙ limit id is))
      | inr few ↦ few
    ]
