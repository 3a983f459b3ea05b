-- What stands at a number, and what is found there.
use Rattle.std.proofs.Common.{◌≡◌, refl, sym, ap, ◌∙◌, subst, ℕ, zero, suc, ◌+◌, ◌-◌, ◌^◌, ◌<◌, ◌≤◌, Bool, true, false, ◌&&◌, if◌then◌else◌, List, [], ◌∷◌, length, drop, take, Option, Some, None, inl, inr, arith}
use Rattle.std.specs.Prelude.{◌==◌, IsSome, IsSomeAnd, slice_get}
use Rattle.std.proofs.lemmas.Grind.{common_steps}
use Rattle.std.proofs.lemmas.Bool.{and_parts, cases_lt, cond-false, cond-true, eq-eqb, ne_eqb, or_left, or_right, false≢true, true≢false}
use Rattle.gsl_instr.specs.declared.op.TheConstants as op
use Rattle.gsl_words.specs.declared.module.Instr.{Instr}
use Rattle.gsl_words.specs.declared.module.Module.{Module}
use Rattle.gsl_words.specs.Instructions.{word_count}
use Rattle.gsl_valid.specs.Ids.{defined, defines}
use Rattle.gsl_valid.specs.IdsDefinedOnce.{defines_once, ids_defined_once}
use Rattle.gsl_valid.specs.Placed.{Code, Placed, count_of_words, header_size, placed, placed_from, words_from}
use Rattle.gsl_valid.specs.Search.{Passes}
use Rattle.gsl_valid.proofs.Searching.{each_passes}
use Rattle.gsl_ids.specs.Table.{number_from, number_of}
use Rattle.gsl_ids.proofs.Bodies.{never_again}
use Rattle.gsl_ids.proofs.Places.{fits}
use Rattle.gsl_machine.specs.Functions.{from_first_label, from_label, function_at, function_in, up_to_end}
use Rattle.gsl_positions.specs.Positions.{behind, left, place_of}

-- ---- placed instructions from a number on

dropped : (place at : ℕ) (code : Code) → drop at (placed_from place code) ≡ placed_from (words_from place (take at code)) (drop at code)
dropped place zero code = refl
dropped place (suc at) [] = refl
dropped place (suc at) (i ∷ code) = dropped (place + word_count i) at code

words_more : (place at : ℕ) (code rest : Code) (i : Instr) → drop at code ≡ i ∷ rest → words_from place (take (at + 1) code) ≡ words_from place (take at code) + word_count i
words_more place zero [] rest i is = absurd (cc)
words_more place (suc at) [] rest i is = absurd (cc)
words_more place zero (j ∷ code) rest i is = let same : j ≡ i = cc in ap (λ k. place + word_count k) same
words_more place (suc at) (j ∷ code) rest i is =
    let next : suc at + 1 ≡ suc (at + 1) = omega arith in ap (λ n. words_from place (take n (j ∷ code))) next ∙ words_more (place + word_count j) at code rest i is

-- the instruction of a number, and what is still to come behind it
pub left_is : (m : Module) (at : ℕ) (i : Instr) → drop at m.instrs ≡ i ∷ drop (at + 1) m.instrs → left m at ≡ record { at = place_of m at; instr = i } ∷ behind m at i.op
unfolding left place_of
left_is m at i is = ap up_to_end (dropped header_size at m.instrs ∙ ap (placed_from (place_of m at)) is) ∙ by_end (i.op == op.FUNCTION_END)
  where
    one_behind : (place at : ℕ) (code : Code) (i : Instr) → drop at code ≡ i ∷ drop (at + 1) code → placed_from (words_from place (take at code) + word_count i) (drop (at + 1) code) ≡ drop (at + 1) (placed_from place code)
    one_behind place at code i is = ap (λ n. placed_from n (drop (at + 1) code)) (sym (words_more place at code (drop (at + 1) code) i is)) ∙ sym (dropped place (at + 1) code)

    by_end : (b : Bool) → (if b then record { at = place_of m at; instr = i } ∷ [] else record { at = place_of m at; instr = i } ∷ up_to_end (placed_from (place_of m at + word_count i) (drop (at + 1) m.instrs)))
        ≡ record { at = place_of m at; instr = i } ∷ (if b then [] else up_to_end (drop (at + 1) (placed m)))
    by_end true = refl
    by_end false = ap (λ l. record { at = place_of m at; instr = i } ∷ up_to_end l) (one_behind header_size at m.instrs i is)

-- behind the last instruction nothing is to come
pub nothing_left : (m : Module) (at : ℕ) → length m.instrs ≤ at → left m at ≡ []
unfolding left
nothing_left m at over = ap up_to_end (none header_size at m.instrs over)
  where
    none : (place at : ℕ) (code : Code) → length code ≤ at → drop at (placed_from place code) ≡ []
    none place zero [] over = refl
    none place zero (i ∷ code) over = absurd (omega (arith, over))
    none place (suc at) [] over = refl
    none place (suc at) (i ∷ code) over = none (place + word_count i) at code (omega (arith, over))

-- where something is to come, there is an instruction
pub below : (m : Module) (at : ℕ) → 0 < length (left m at) → at < length m.instrs
below m at some = elim (cases_lt at (length m.instrs)) [
  | inl low ↦ low
  | inr over ↦ (let none : length (left m at) ≡ 0 = ap length (nothing_left m at over) in absurd (omega (arith, some, none)))
]

-- ---- places

words_cut : (place k : ℕ) (code : Code) → words_from place code ≡ words_from (words_from place (take k code)) (drop k code)
words_cut place zero code = refl
words_cut place (suc k) [] = refl
words_cut place (suc k) (i ∷ code) = words_cut (place + word_count i) k code

-- the next place, which is in the file too
pub next_place : (m : Module) (k : ℕ) (args : List ℕ) → IsSomeAnd (slice_get m.instrs k) (λ i. args ≡ i.args) → count_of_words m < 2 ^ 32
    → (words_from header_size (take (k + 1) m.instrs) ≡ words_from header_size (take k m.instrs) + (1 + length args)) × (words_from header_size (take k m.instrs) + (1 + length args) < 2 ^ 32)
next_place m k args is few =
    let next = at_next header_size k m.instrs is in
    (next, fits (words_from header_size (take k m.instrs)) (2 ^ 32) (drop (k + 1) m.instrs) args (subst (λ n. n < 2 ^ 32) (words_cut header_size (k + 1) m.instrs ∙ ap (λ n. words_from n (drop (k + 1) m.instrs)) next) few))
  where
    at_next : (place k : ℕ) (code : Code) → IsSomeAnd (slice_get code k) (λ i. args ≡ i.args) → words_from place (take (k + 1) code) ≡ words_from place (take k code) + (1 + length args)
    at_next place zero [] is = absurd is
    at_next place (suc k) [] is = absurd is
    at_next place zero (i ∷ code) is = ap (λ l. place + (1 + length l)) (sym is)
    at_next place (suc k) (i ∷ code) is =
        let next : suc k + 1 ≡ suc (k + 1) = omega arith in ap (λ n. words_from place (take n (i ∷ code))) next ∙ at_next (place + word_count i) k code is

-- ---- the first label

-- An instruction of an opcode stands at a number.
pub op_there : (code : Code) (at o : ℕ) → IsSomeAnd (slice_get code at) (λ i. o ≡ i.op) → (i : Instr) × (drop at code ≡ i ∷ drop (at + 1) code) × (o ≡ i.op)
op_there [] zero o is = absurd is
op_there [] (suc at) o is = absurd is
op_there (i ∷ code) zero o is = (i, refl, is)
op_there (i ∷ code) (suc at) o is =
    let later = op_there code at o is in
    let next : suc (at + 1) ≡ suc at + 1 = omega arith in
    (later.0, later.1 ∙ ap (λ n. later.0 ∷ drop n (i ∷ code)) next, later.2)

pub label_here : (m : Module) (at : ℕ) (i : Instr) → drop at m.instrs ≡ i ∷ drop (at + 1) m.instrs → i.op ≡ op.LABEL → from_first_label (left m at) ≡ left m at
label_here m at i is label = ap from_first_label (left_is m at i is) ∙ cond-true _ _ _ (eq-eqb i.op op.LABEL label) ∙ sym (left_is m at i is)

pub label_later : (m : Module) (at : ℕ) (i : Instr) → drop at m.instrs ≡ i ∷ drop (at + 1) m.instrs → (i.op ≡ op.LABEL → ⊥) → (i.op ≡ op.FUNCTION_END → ⊥) → from_first_label (left m at) ≡ from_first_label (left m (at + 1))
label_later m at i is other more =
    ap from_first_label (left_is m at i is) ∙ cond-false _ _ _ (ne_eqb i.op op.LABEL other) ∙ ap from_first_label (cond-false _ _ _ (ne_eqb i.op op.FUNCTION_END more))

pub label_nowhere : (m : Module) (at : ℕ) (i : Instr) → drop at m.instrs ≡ i ∷ drop (at + 1) m.instrs → (i.op ≡ op.LABEL → ⊥) → i.op ≡ op.FUNCTION_END → from_first_label (left m at) ≡ left m (length m.instrs)
label_nowhere m at i is other end =
    ap from_first_label (left_is m at i is) ∙ cond-false _ _ _ (ne_eqb i.op op.LABEL other) ∙ ap from_first_label (cond-true _ _ _ (eq-eqb i.op op.FUNCTION_END end)) ∙ sym (nothing_left m (length m.instrs) (omega arith))

pub label_over : (m : Module) (at : ℕ) → length m.instrs ≤ at → from_first_label (left m at) ≡ left m at
label_over m at over = ap from_first_label (nothing_left m at over) ∙ sym (nothing_left m at over)

-- ---- what is found

-- An instruction of some code defines an id.
pub record FoundAt (code : List Placed) (id : ℕ) : Type 0 where
  pub number : ℕ
  pub it : Placed
  pub there : slice_get code number ≡ Some it
  pub gives : defines it.instr id ≡ true

abbrev further : (p : Placed) (code : List Placed) (id : ℕ) → FoundAt code id → FoundAt (p ∷ code) id
further p code id f = record { number = suc f.number; it = f.it; there = f.there; gives = f.gives }

none_some : (rest : List Placed) → None ≡ Some rest → ⊥
none_some rest is = cc

abbrev up_behind : Placed → List Placed → List Placed
up_behind p code = if p.instr.op == op.FUNCTION_END then [] else up_to_end code

up_is : (p : Placed) (code : List Placed) → up_to_end (p ∷ code) ≡ p ∷ up_behind p code
up_is p code = by_end (p.instr.op == op.FUNCTION_END)
  where
    by_end : (b : Bool) → (if b then p ∷ [] else p ∷ up_to_end code) ≡ p ∷ (if b then [] else up_to_end code)
    by_end true = refl
    by_end false = refl

-- a label is found, and what is found stands from it on
pub label_in : (code : List Placed) (id : ℕ) (rest : List Placed) → from_label (up_to_end code) id ≡ Some rest → (f : FoundAt code id) × (rest ≡ up_to_end (drop f.number code))
label_in [] id rest is = absurd (none_some rest is)
label_in (p ∷ code) id rest is = by_label (p.instr.op == op.LABEL && defines p.instr id) refl (by_end (p.instr.op == op.FUNCTION_END) (label_in code id rest)) (sym (ap (λ l. from_label l id) (up_is p code)) ∙ is)
  where
    by_end : (b : Bool) → (from_label (up_to_end code) id ≡ Some rest → (f : FoundAt code id) × (rest ≡ up_to_end (drop f.number code)))
        → from_label (if b then [] else up_to_end code) id ≡ Some rest → (f : FoundAt code id) × (rest ≡ up_to_end (drop f.number code))
    by_end true later is = absurd (none_some rest is)
    by_end false later is = later is

    by_label : (b : Bool) → (p.instr.op == op.LABEL && defines p.instr id) ≡ b
        → (from_label (up_behind p code) id ≡ Some rest → (f : FoundAt code id) × (rest ≡ up_to_end (drop f.number code)))
        → (if b then Some (p ∷ up_behind p code) else from_label (up_behind p code) id) ≡ Some rest → (f : FoundAt (p ∷ code) id) × (rest ≡ up_to_end (drop f.number (p ∷ code)))
    by_label true here later is =
        let same : p ∷ up_behind p code ≡ rest = cc in
        (record { number = 0; it = p; there = refl; gives = (and_parts (p.instr.op == op.LABEL) (defines p.instr id) here).1 }, sym same ∙ sym (up_is p code))
    by_label false here later is = let f = later is in (further p code id f.0, f.1)

pub function_found : (code : List Placed) (id : ℕ) (rest : List Placed) → function_in code id ≡ Some rest → (f : FoundAt code id) × (rest ≡ up_to_end (drop (suc f.number) code))
function_found [] id rest is = absurd (none_some rest is)
function_found (p ∷ code) id rest is = by_function (p.instr.op == op.FUNCTION && defines p.instr id) refl (function_found code id rest) is
  where
    by_function : (b : Bool) → (p.instr.op == op.FUNCTION && defines p.instr id) ≡ b
        → (function_in code id ≡ Some rest → (f : FoundAt code id) × (rest ≡ up_to_end (drop (suc f.number) code)))
        → (if b then Some (up_to_end code) else function_in code id) ≡ Some rest → (f : FoundAt (p ∷ code) id) × (rest ≡ up_to_end (drop (suc f.number) (p ∷ code)))
    by_function true here later is =
        let same : up_to_end code ≡ rest = cc in (record { number = 0; it = p; there = refl; gives = (and_parts (p.instr.op == op.FUNCTION) (defines p.instr id) here).1 }, sym same)
    by_function false here later is = let f = later is in (further p code id f.0, f.1)

-- ---- each id is defined once

has_it : (place : ℕ) (code : Code) (id k : ℕ) (p : Placed) → slice_get (placed_from place code) k ≡ Some p → defines p.instr id ≡ true → defined code id ≡ true
has_it place [] id zero p is gives = absurd (cc)
has_it place [] id (suc k) p is gives = absurd (cc)
has_it place (i ∷ code) id zero p is gives = let same : i ≡ p.instr = ap (λ (o : Option Placed). instr_or i o) is in or_left _ _ (ap (λ j. defines j id) same ∙ gives)
  where
    instr_or : Instr → Option Placed → Instr
    instr_or d None = d
    instr_or d (Some q) = q.instr
has_it place (i ∷ code) id (suc k) p is gives = or_right (defines i id) _ (has_it (place + word_count i) code id k p is gives)

pub number_is : (bound at place : ℕ) (before code : Code) (id k : ℕ) (p : Placed) → Passes (defines_once bound) before code → slice_get (placed_from place code) k ≡ Some p → defines p.instr id ≡ true → number_from at code id ≡ at + k + 1
unfolding number_from
number_is bound at place before [] id zero p all is gives = absurd (cc)
number_is bound at place before [] id (suc k) p all is gives = absurd (cc)
number_is bound at place before (i ∷ code) id zero p all is gives =
    let same : record { at = place; instr = i } ≡ p = cc in cond-true _ _ _ (ap (λ (q : Placed). defines q.instr id) same ∙ gives) ∙ omega arith
number_is bound at place before (i ∷ code) id (suc k) p all is gives =
    by_test (defines i id) refl (number_is bound (at + 1) (place + word_count i) (i ∷ before) code id k p all.1 is gives)
  where
    by_test : (b : Bool) → defines i id ≡ b → number_from (at + 1) code id ≡ at + 1 + k + 1 → (if b then at + 1 else number_from (at + 1) code id) ≡ at + suc k + 1
    by_test true here later =
        absurd (true≢false (sym (has_it (place + word_count i) code id k p is gives) ∙ never_again bound (i ∷ before) code id all.1 (or_left _ _ here)))
    by_test false here later = later ∙ omega arith

got : {A : Type 0} (from k : ℕ) (xs : List A) → slice_get (drop from xs) k ≡ slice_get xs (from + k)
got zero k xs = ap (slice_get xs) (omega arith)
got (suc from) zero [] = refl
got (suc from) (suc k) [] = refl
got (suc from) k (x ∷ xs) = let next : suc (from + k) ≡ suc from + k = omega arith in got from k xs ∙ ap (slice_get (x ∷ xs)) next

dropped_again : {A : Type 0} (from k : ℕ) (xs : List A) → drop k (drop from xs) ≡ drop (from + k) xs
dropped_again from k xs = grind (arith, common_steps)

module _ (m : Module) (once : ids_defined_once m ≡ None) where
  number_found : (id k : ℕ) (p : Placed) → slice_get (placed m) k ≡ Some p → defines p.instr id ≡ true → number_of m id ≡ k + 1
  number_found id k p is gives = number_is m.bound 0 header_size [] m.instrs id k p (each_passes (defines_once m.bound) m once) is gives ∙ omega arith

  -- what is found of a label stands at its number
  pub label_stands : (body id : ℕ) (rest : List Placed) → from_label (left m body) id ≡ Some rest → (0 < number_of m id) × (rest ≡ left m (number_of m id - 1))
  unfolding left
  label_stands body id rest is =
      let f = label_in (drop body (placed m)) id rest is in
      let number = number_found id (body + f.0.number) f.0.it (sym (got body f.0.number (placed m)) ∙ f.0.there) f.0.gives in
      let same : body + f.0.number ≡ number_of m id - 1 = omega (arith, number) in
      (omega (arith, number), f.1 ∙ ap up_to_end (dropped_again body f.0.number (placed m) ∙ ap (λ n. drop n (placed m)) same))

  pub function_stands : (id : ℕ) (rest : List Placed) → function_at m id ≡ Some rest → rest ≡ left m (number_of m id)
  unfolding left
  function_stands id rest is =
      let f = function_found (placed m) id rest is in
      let number = number_found id f.0.number f.0.it f.0.there f.0.gives in
      let same : suc f.0.number ≡ number_of m id = omega (arith, number) in
      f.1 ∙ ap (λ n. up_to_end (drop n (placed m))) same

pub some_there : (o : Option (List Placed)) → IsSome o → (rest : List Placed) × (o ≡ Some rest)
some_there None is = absurd (false≢true is)
some_there (Some rest) is = (rest, refl)
