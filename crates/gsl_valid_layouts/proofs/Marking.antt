-- The tables of what the variables of blocks reach tell what V8 says of it.
use Rattle.std.proofs.Common.{◌≡◌, ℕ, zero, suc, ◌+◌, ◌<◌, Bool, true, false, cond, not, ◌&&◌, ◌||◌, List, [], ◌∷◌, ◌++◌, length, set, get_or, replicate, Option, Some, None, refl, ap, sym, subst, ◌∙◌, ◌⊎◌, inl, inr, ◌≢◌, ⊎_elim, arith}
use Rattle.std.specs.Prelude.{nat_eq, nat_lt, nat_le}
use Rattle.std.specs.List.{list_any, list_all}
use Rattle.std.proofs.lemmas.Bool.{true≢false, false≢true, cases_eq, cases_Bool, eq-eqb, ne_eqb, eqb-true, or_cases, or_left, or_right, and_parts, and_from, not-true, ltb-true}
use Rattle.std.proofs.lemmas.List.{get_or-set_same, get_or-set_other, length-set}
use Rattle.gsl_words.specs.declared.module.Instr.{Instr}
use Rattle.gsl_words.specs.declared.module.Module.{Module}
use Rattle.gsl_valid.specs.Instruction.{read}
use Rattle.gsl_valid.specs.Ids.{result, is_id, defines, defined}
use Rattle.gsl_valid.specs.IdsDefinedOnce.{defines_once, is_new, ids_defined_once}
use Rattle.gsl_valid.specs.Kinds.{Variable, variable_is}
use Rattle.gsl_valid.specs.Placed.{Code}
use Rattle.gsl_valid.specs.Search.{Passes, passed, whole}
use Rattle.gsl_valid.specs.Types.{has_in, parts_of, function_begins, before_functions, outside_of, is_block_class}
use Rattle.gsl_valid.specs.DecorationRules.{pointee}
use Rattle.gsl_valid.specs.LayoutRules.{reaches, reaches_it, is_in_block, is_storage, owns_it, may_grow}
use Rattle.gsl_valid.proofs.Searching.{each_passes, passed_append}
use Rattle.gsl_ids.specs.Table.{number_from, number_of, is_defined_in}
use Rattle.gsl_ids.proofs.Numbers.{has_number, defined_here, or_false, turned}
use Rattle.gsl_ids.proofs.Stands.{Stands, at_start, one_on}
use Rattle.gsl_valid_layouts.specs.Marks.{is_marked, marked, if_defined, block_pointee, bare_pointee, marked_if, marked_all, marked_by, pointees, bare, is_reached, parts_marked, Tells}

-- ---- marks

or_true : (b : Bool) → (b || true) ≡ true
or_true true = refl
or_true false = refl

none_marked : (n id : ℕ) → is_marked (replicate n false) id ≡ false
none_marked zero id = refl
none_marked (suc n) zero = refl
none_marked (suc n) (suc id) = none_marked n id

as_many : (n : ℕ) → length {A = Bool} (replicate n false) ≡ n
as_many zero = refl
as_many (suc n) = ap suc (as_many n)

set_mark : (rows : List Bool) (r id : ℕ) → r < length rows → is_marked (set rows r true) id ≡ (is_marked rows id || nat_eq r id)
set_mark rows r id room = by_cases (cases_eq r id)
  where
    by_cases : (r ≡ id) ⊎ (r ≢ id) → get_or (set rows r true) id false ≡ (get_or rows id false || nat_eq r id)
    by_cases (inl same) =
        ap (λ k. get_or (set rows r true) k false) (sym same) ∙ get_or-set_same rows r true false room
        ∙ sym (ap (λ b. get_or rows id false || b) (eq-eqb r id same) ∙ or_true (get_or rows id false))
    by_cases (inr other) =
        get_or-set_other rows r id true false (λ same. other (sym same))
        ∙ sym (ap (λ b. get_or rows id false || b) (ne_eqb r id other) ∙ or_false (get_or rows id false))

or_assoc : (a b c : Bool) → ((a || b) || c) ≡ (a || (b || c))
or_assoc true b c = refl
or_assoc false b c = refl

module _ (mark_of : Option Variable → Option ℕ) (bound : ℕ) (low : (v : Option Variable) (id : ℕ) → mark_of v ≡ Some id → id < bound) where
  one_mark : (rows : List Bool) (r : Option ℕ) (id : ℕ) → length rows ≡ bound → ((k : ℕ) → r ≡ Some k → k < bound) →
      (is_marked (marked rows r) id ≡ (is_marked rows id || is_id id r)) × (length (marked rows r) ≡ bound)
  one_mark rows None id room small = (sym (or_false (is_marked rows id)), room)
  one_mark rows (Some k) id room small = let s = small k refl in (set_mark rows k id (omega (arith, s, room)), length-set rows k true ∙ room)

  marked_is : (rows : List Bool) (code : Code) (id : ℕ) → length rows ≡ bound →
      is_marked (marked_by mark_of rows code) id ≡ (is_marked rows id || list_any (λ i. is_id id (mark_of (variable_is (read i)))) (before_functions code))
  marked_is rows [] id room = sym (or_false (is_marked rows id))
  marked_is rows (i ∷ code) id room =
      let one = one_mark rows (mark_of (variable_is (read i))) id room (low (variable_is (read i))) in
      by_cases (function_begins (read i))
      (marked_is (marked rows (mark_of (variable_is (read i)))) code id one.1
      ∙ ap (λ b. b || list_any (λ i. is_id id (mark_of (variable_is (read i)))) (before_functions code)) one.0
      ∙ or_assoc (is_marked rows id) (is_id id (mark_of (variable_is (read i)))) (list_any (λ i. is_id id (mark_of (variable_is (read i)))) (before_functions code)))
    where
      by_cases : (b : Bool) →
          is_marked (marked_by mark_of (marked rows (mark_of (variable_is (read i)))) code) id
          ≡ (is_marked rows id || (is_id id (mark_of (variable_is (read i))) || list_any (λ i. is_id id (mark_of (variable_is (read i)))) (before_functions code))) →
          is_marked (cond b rows (marked_by mark_of (marked rows (mark_of (variable_is (read i)))) code)) id
          ≡ (is_marked rows id || list_any (λ i. is_id id (mark_of (variable_is (read i)))) (cond b [] (i ∷ before_functions code)))
      by_cases true later = sym (or_false (is_marked rows id))
      by_cases false later = later

-- ---- what is defined

defined_below : (bound : ℕ) (before code : Code) (id : ℕ) → Passes (defines_once bound) before code → defined code id ≡ true → id < bound
defined_below bound before [] id all e = absurd (false≢true e)
defined_below bound before (i ∷ code) id all e =
    ⊎_elim (λ here. by_result (result (read i)) all.0 here) (λ later. defined_below bound (i ∷ before) code id all.1 later) (or_cases (defines i id) (defined code id) e)
  where
    by_result : (r : Option ℕ) → is_new bound before r ≡ true → is_id id r ≡ true → id < bound
    by_result None new is = absurd (false≢true is)
    by_result (Some n) new is =
        subst (λ k. k < bound) (eqb-true n id is)
        (ltb-true n bound (and_parts (nat_le 1 n) (nat_lt n bound) (and_parts (nat_le 1 n && nat_lt n bound) (not (defined before n)) new).0).1)

new_id : (bound : ℕ) (before : Code) (id : ℕ) (r : Option ℕ) → is_new bound before r ≡ true → defined before id ≡ true → is_id id r ≡ false
new_id bound before id None new was = refl
new_id bound before id (Some n) new was = by_cases (nat_eq n id) refl
  where
    by_cases : (b : Bool) → nat_eq n id ≡ b → b ≡ false
    by_cases false e = refl
    by_cases true e =
        absurd
        (true≢false
        (sym was ∙ sym (ap (defined before) (eqb-true n id e))
        ∙ not-true (defined before n) (and_parts (nat_le 1 n && nat_lt n bound) (not (defined before n)) new).1))

-- ---- what is in a type

abbrev is : ℕ → ℕ → Bool
is part id = nat_eq id part

has_only_defined : (test : ℕ → Bool) (before : Code) (type : ℕ) → has_in test before type ≡ true → defined before type ≡ true
has_only_defined test [] type e = absurd (false≢true e)
has_only_defined test (i ∷ before) type e = by_cases (defines i type) e (has_only_defined test before type)
  where
    by_cases : (b : Bool) → cond b (test type || list_any (has_in test before) (parts_of (read i))) (has_in test before type) ≡ true →
        (has_in test before type ≡ true → defined before type ≡ true) → (b || defined before type) ≡ true
    by_cases true e later = refl
    by_cases false e later = later e

any_one : {A : Type 0} (p : A → Bool) (xs : List A) (G : Type 0) → ((x : A) → ((q : A → Bool) → q x ≡ true → list_any q xs ≡ true) → p x ≡ true → G) → list_any p xs ≡ true → G
any_one p [] G found e = absurd (false≢true e)
any_one p (x ∷ xs) G found e =
    ⊎_elim (λ here. found x (λ q is. or_left (q x) (list_any q xs) is) here)
    (λ later. any_one p xs G (λ y within is. found y (λ q passes. or_right (q x) (list_any q xs) (within q passes)) is) later) (or_cases (p x) (list_any p xs) e)

-- what is found in a type is defined
part_defined : (part : ℕ) (before : Code) (type : ℕ) → has_in (is part) before type ≡ true → defined before part ≡ true
part_defined part [] type e = absurd (false≢true e)
part_defined part (i ∷ before) type e = by_cases (part_defined part before) (defines i type) refl e
  where
    by_cases : ((x : ℕ) → has_in (is part) before x ≡ true → defined before part ≡ true) → (b : Bool) → defines i type ≡ b → cond b (is part type || list_any (has_in (is part) before) (parts_of (read i))) (has_in (is part) before type) ≡ true →
        (defines i part || defined before part) ≡ true
    by_cases earlier true made e =
        ⊎_elim (λ same. or_left (defines i part) (defined before part) (subst (λ k. defines i k ≡ true) (eqb-true type part same) made))
        (λ some. or_right (defines i part) (defined before part) (any_one (has_in (is part) before) (parts_of (read i)) (defined before part ≡ true) (λ x within has. earlier x has) some))
        (or_cases (is part type) (list_any (has_in (is part) before) (parts_of (read i))) e)
    by_cases earlier false made e = or_right (defines i part) (defined before part) (earlier type e)

-- what is defined has itself in it
itself : (part : ℕ) (before : Code) → defined before part ≡ true → has_in (is part) before part ≡ true
itself part [] e = absurd (false≢true e)
itself part (i ∷ before) e = by_cases (defines i part) e (itself part before)
  where
    by_cases : (b : Bool) → (b || defined before part) ≡ true → (defined before part ≡ true → has_in (is part) before part ≡ true) →
        cond b (is part part || list_any (has_in (is part) before) (parts_of (read i))) (has_in (is part) before part) ≡ true
    by_cases true e later = or_left (is part part) _ (eq-eqb part part refl)
    by_cases false e later = later e

same_truth : (a b : Bool) → (a ≡ true → b ≡ true) → (b ≡ true → a ≡ true) → a ≡ b
same_truth true b to from = sym (to refl)
same_truth false true to from = from refl
same_truth false false to from = refl

module _ (m : Module) (once : ids_defined_once m ≡ None) where
  all_once : Passes (defines_once m.bound) [] m.instrs
  all_once = each_passes (defines_once m.bound) m once

  defined_low : (id : ℕ) → nat_lt 0 (number_of m id) ≡ true → id < m.bound
  defined_low id e = defined_below m.bound [] m.instrs id all_once (sym (has_number 0 m.instrs id) ∙ e)

  if_low : (id k : ℕ) → if_defined m id ≡ Some k → k < m.bound
  if_low id k e = by_cases (nat_lt 0 (number_of m id)) refl e
    where
      by_cases : (b : Bool) → nat_lt 0 (number_of m id) ≡ b → cond b (Some id) None ≡ Some k → k < m.bound
      by_cases true is e = let same : id ≡ k = cc in subst (λ n. n < m.bound) same (defined_low id is)
      by_cases false is e = absurd (cc)

  block_low : (v : Option Variable) (id : ℕ) → block_pointee m v ≡ Some id → id < m.bound
  block_low None id e = absurd (cc)
  block_low (Some v) id e = by_cases (is_block_class v.class) e
    where
      by_cases : (b : Bool) → cond b (if_defined m (pointee m v.type)) None ≡ Some id → id < m.bound
      by_cases true e = if_low (pointee m v.type) id e
      by_cases false e = absurd (cc)

  bare_low : (v : Option Variable) (id : ℕ) → bare_pointee m v ≡ Some id → id < m.bound
  bare_low None id e = absurd (cc)
  bare_low (Some v) id e = by_cases (is_storage m v) e
    where
      by_cases : (b : Bool) → cond b None (block_pointee m (Some v)) ≡ Some id → id < m.bound
      by_cases true e = absurd (cc)
      by_cases false e = block_low (Some v) id e

  -- the two tables of what is pointed to
  pointed : (id : ℕ) → is_marked (pointees m) id ≡ list_any (λ i. is_id id (block_pointee m (variable_is (read i)))) (outside_of m)
  pointed id =
      marked_is (block_pointee m) m.bound block_low (replicate m.bound false) m.instrs id (as_many m.bound)
      ∙ ap (λ b. b || list_any (λ i. is_id id (block_pointee m (variable_is (read i)))) (outside_of m)) (none_marked m.bound id)

  bare_is : (id : ℕ) → is_marked (bare m) id ≡ list_any (λ i. is_id id (bare_pointee m (variable_is (read i)))) (outside_of m)
  bare_is id =
      marked_is (bare_pointee m) m.bound bare_low (replicate m.bound false) m.instrs id (as_many m.bound)
      ∙ ap (λ b. b || list_any (λ i. is_id id (bare_pointee m (variable_is (read i)))) (outside_of m)) (none_marked m.bound id)

  -- ---- parts

  marked_in : (count : ℕ) (rows : List Bool) (ids : List ℕ) (id : ℕ) → length rows ≡ m.bound →
      (is_marked (marked_all m count rows ids) id ≡ (is_marked rows id || (is_defined_in m count id && list_any (is id) ids))) × (length (marked_all m count rows ids) ≡ m.bound)
  marked_in count rows [] id room = (sym (by_cases (is_marked rows id) (is_defined_in m count id)), room)
    where
      by_cases : (a d : Bool) → (a || (d && false)) ≡ a
      by_cases true d = refl
      by_cases false true = refl
      by_cases false false = refl
  marked_in count rows (x ∷ ids) id room =
      let one = one_if (is_defined_in m count x) refl in
      let later = marked_in count (marked_if (is_defined_in m count x) rows x) ids id one.1 in (
        later.0 ∙ ap (λ b. b || (is_defined_in m count id && list_any (is id) ids)) one.0
            ∙ by_cases (is_marked rows id) (is_defined_in m count x) (is_defined_in m count id) (is id x) (list_any (is id) ids) (λ e. ap (is_defined_in m count) (eqb-true x id e)),
        later.1,
      )
    where
      low : is_defined_in m count x ≡ true → x < length rows
      low e = let s = defined_low x (and_parts (nat_lt 0 (number_of m x)) (nat_le (number_of m x) count) e).0 in omega (arith, s, room)

      one_if : (b : Bool) → is_defined_in m count x ≡ b → (is_marked (marked_if b rows x) id ≡ (is_marked rows id || (b && is id x))) × (length (marked_if b rows x) ≡ m.bound)
      one_if true e = (set_mark rows x id (low e), length-set rows x true ∙ room)
      one_if false e = (sym (or_false (is_marked rows id)), room)

      by_cases : (a dx d e n : Bool) → (e ≡ true → dx ≡ d) → ((a || (dx && e)) || (d && n)) ≡ (a || (d && (e || n)))
      by_cases true dx d e n same = refl
      by_cases false true true true n same = refl
      by_cases false true false true n same = absurd (true≢false (same refl))
      by_cases false false true true n same = absurd (false≢true (same refl))
      by_cases false false false true n same = refl
      by_cases false true d false n same = refl
      by_cases false false d false n same = refl

  -- A type is reached from a type that is marked and that is not it, by what is defined in some code.
  record Way (before : Code) (marks : ℕ → Bool) (part : ℕ) : Type 0 where
    from : ℕ
    marked_it : marks from ≡ true
    apart : nat_eq from part ≡ false
    has : has_in (is part) before from ≡ true

  abbrev points : ℕ → Bool
  points q = is_marked (pointees m) q

  abbrev Start : ℕ → Type 0
  Start part = Way (whole m) points part

  -- What is marked, or is reached by the code before, is what is reached by all of the code.
  record Covers (before : Code) (parts : List Bool) : Type 0 where
    room : length parts ≡ m.bound
    up : (part : ℕ) → (is_marked parts part ≡ true) ⊎ Way before (λ q. points q || is_marked parts q) part → Start part
    down : (part : ℕ) → Start part → (is_marked parts part ≡ true) ⊎ Way before (λ q. points q || is_marked parts q) part

  covers_all : Covers (whole m) (replicate m.bound false)
  covers_all =
      record {
        room = as_many m.bound;
        up = λ part e. ⊎_elim (λ marked. absurd (true≢false (sym marked ∙ none_marked m.bound part)))
            (λ w. record { from = w.from; marked_it = drop_false w.from w.marked_it; apart = w.apart; has = w.has }) e;
        down = λ part w. inr (record { from = w.from; marked_it = or_left (points w.from) _ w.marked_it; apart = w.apart; has = w.has });
      }
    where
      drop_false : (q : ℕ) → (points q || is_marked (replicate m.bound false) q) ≡ true → points q ≡ true
      drop_false q e = ⊎_elim (λ p. p) (λ marked. absurd (true≢false (sym marked ∙ none_marked m.bound q))) (or_cases (points q) _ e)

  passes_mid : (b front code : Code) (i : Instr) → Passes (defines_once m.bound) b (front ++ i ∷ code) → defines_once m.bound (passed b front) i ≡ true
  passes_mid b [] code i all = all.0
  passes_mid b (j ∷ front) code i all = passes_mid (j ∷ b) front code i all.1

  -- one instruction more
  module _ (at : ℕ) (before code : Code) (i : Instr) (count : length before ≡ at) (stands : Stands m before (i ∷ code)) (old : List Bool) (covers : Covers (i ∷ before) old) where
    is_before : (id : ℕ) → is_defined_in m at id ≡ defined before id
    is_before id = ap (λ n. is_defined_in m n id) (sym count) ∙ defined_here m before (i ∷ code) stands id

    not_again : (id : ℕ) → defined before id ≡ true → defines i id ≡ false
    not_again id was =
        new_id m.bound before id (result (read i))
        (ap (λ b. is_new m.bound b (result (read i))) stands.behind ∙ passes_mid [] stands.front code i (subst (Passes (defines_once m.bound) []) stands.whole all_once)) was

    further : (marks : ℕ → Bool) (part : ℕ) → Way before marks part → Way (i ∷ before) marks part
    further marks part w =
        record {
          from = w.from;
          marked_it = w.marked_it;
          apart = w.apart;
          has = ap (λ b. cond b (is part w.from || list_any (has_in (is part) before) (parts_of (read i))) (has_in (is part) before w.from)) (not_again w.from (has_only_defined (is part) before w.from w.has)) ∙ w.has;
        }

    nearer : (marks : ℕ → Bool) (part : ℕ) (w : Way (i ∷ before) marks part) → defines i w.from ≡ false → has_in (is part) before w.from ≡ true
    nearer marks part w none = sym (ap (λ b. cond b (is part w.from || list_any (has_in (is part) before) (parts_of (read i))) (has_in (is part) before w.from)) none) ∙ w.has

    within : (marks : ℕ → Bool) (part : ℕ) (w : Way (i ∷ before) marks part) → defines i w.from ≡ true → list_any (has_in (is part) before) (parts_of (read i)) ≡ true
    within marks part w made =
        ⊎_elim (λ same. absurd (true≢false (sym same ∙ w.apart))) (λ some. some)
        (or_cases (is part w.from) (list_any (has_in (is part) before) (parts_of (read i)))
        (sym (ap (λ b. cond b (is part w.from || list_any (has_in (is part) before) (parts_of (read i))) (has_in (is part) before w.from)) made) ∙ w.has))

    reached_id : (r : Option ℕ) (id : ℕ) → is_id id r ≡ true → (points id || is_marked old id) ≡ true → is_reached (pointees m) old r ≡ true
    reached_id None id made e = absurd (false≢true made)
    reached_id (Some n) id made e = subst (λ k. (points k || is_marked old k) ≡ true) (sym (eqb-true n id made)) e

    not_reached : is_reached (pointees m) old (result (read i)) ≡ false → Covers before old
    not_reached none =
        record {
          room = covers.room;
          up = λ part e. covers.up part (⊎_elim inl (λ w. inr (further (λ q. points q || is_marked old q) part w)) e);
          down = λ part s. ⊎_elim inl (λ w. inr (kept part w)) (covers.down part s);
        }
      where
        kept : (part : ℕ) → Way (i ∷ before) (λ q. points q || is_marked old q) part → Way before (λ q. points q || is_marked old q) part
        kept part w =
            ⊎_elim (λ made. absurd (true≢false (sym (reached_id (result (read i)) w.from made w.marked_it) ∙ none)))
            (λ other. record { from = w.from; marked_it = w.marked_it; apart = w.apart; has = nearer (λ q. points q || is_marked old q) part w other })
            (cases_Bool (defines i w.from))

    module _ (r : ℕ) (is_r : result (read i) ≡ Some r) (hit : (points r || is_marked old r) ≡ true) where
      abbrev next : List Bool
      next = marked_all m at old (parts_of (read i))

      abbrev marks_of : List Bool → ℕ → Bool
      marks_of rows q = points q || is_marked rows q

      row : (id : ℕ) → is_marked next id ≡ (is_marked old id || (defined before id && list_any (is id) (parts_of (read i))))
      row id = (marked_in at old (parts_of (read i)) id covers.room).0 ∙ ap (λ b. is_marked old id || (b && list_any (is id) (parts_of (read i)))) (is_before id)

      -- what a part has in it is reached
      through : (x part : ℕ) → list_any (is x) (parts_of (read i)) ≡ true → has_in (is part) before x ≡ true → Start part
      through x part among has =
          covers.up part
          (inr
          (record {
            from = r;
            marked_it = hit;
            apart = sym (ap (is_id part) is_r) ∙ not_again part (part_defined part before x has);
            has =
                ap (λ b. cond b (is part r || list_any (has_in (is part) before) (parts_of (read i))) (has_in (is part) before r)) (ap (is_id r) is_r ∙ eq-eqb r r refl)
                ∙ or_right (is part r) (list_any (has_in (is part) before) (parts_of (read i)))
                (any_one (is x) (parts_of (read i)) (list_any (has_in (is part) before) (parts_of (read i)) ≡ true)
                (λ y inside same. inside (has_in (is part) before) (ap (has_in (is part) before) (eqb-true y x same) ∙ has)) among);
          }))

      more : (id : ℕ) → is_marked old id ≡ true → is_marked next id ≡ true
      more id e = row id ∙ or_left (is_marked old id) _ e

      added : (x : ℕ) → defined before x ≡ true → list_any (is x) (parts_of (read i)) ≡ true → is_marked next x ≡ true
      added x was among = row x ∙ or_right (is_marked old x) _ (and_from (defined before x) (list_any (is x) (parts_of (read i))) was among)

      is_new_part : (id : ℕ) → is_marked next id ≡ true → (is_marked old id ≡ true) ⊎ ((defined before id ≡ true) × (list_any (is id) (parts_of (read i)) ≡ true))
      is_new_part id e =
          ⊎_elim inl (λ new. inr (and_parts (defined before id) (list_any (is id) (parts_of (read i))) new))
          (or_cases (is_marked old id) (defined before id && list_any (is id) (parts_of (read i))) (sym (row id) ∙ e))

      all_more : (q : ℕ) → marks_of old q ≡ true → marks_of next q ≡ true
      all_more q e = ⊎_elim (or_left (points q) (is_marked next q)) (λ marked. or_right (points q) (is_marked next q) (more q marked)) (or_cases (points q) (is_marked old q) e)

      from_old : (part : ℕ) (w : Way before (marks_of next) part) → marks_of old w.from ≡ true → Start part
      from_old part w e = covers.up part (inr (further (marks_of old) part (record { from = w.from; marked_it = e; apart = w.apart; has = w.has })))

      by_way : (part : ℕ) → Way before (marks_of next) part → Start part
      by_way part w =
          ⊎_elim (λ p. from_old part w (or_left (points w.from) (is_marked old w.from) p))
          (λ marked.
          ⊎_elim (λ was. from_old part w (or_right (points w.from) (is_marked old w.from) was)) (λ new. through w.from part new.1 w.has) (is_new_part w.from marked))
          (or_cases (points w.from) (is_marked next w.from) w.marked_it)

      one_part : (part x : ℕ) → list_any (is x) (parts_of (read i)) ≡ true → has_in (is part) before x ≡ true → (is_marked next part ≡ true) ⊎ Way before (marks_of next) part
      one_part part x among has =
          let marked = added x (has_only_defined (is part) before x has) among in
          ⊎_elim (λ same. inl (subst (λ k. is_marked next k ≡ true) (eqb-true x part same) marked))
          (λ other. inr (record { from = x; marked_it = or_right (points x) (is_marked next x) marked; apart = other; has = has })) (cases_Bool (nat_eq x part))

      one_down : (part : ℕ) → Way (i ∷ before) (marks_of old) part → (is_marked next part ≡ true) ⊎ Way before (marks_of next) part
      one_down part w =
          ⊎_elim
          (λ made.
          any_one (has_in (is part) before) (parts_of (read i)) ((is_marked next part ≡ true) ⊎ Way before (marks_of next) part)
          (λ x inside has. one_part part x (inside (is x) (eq-eqb x x refl)) has) (within (marks_of old) part w made))
          (λ other. inr (record { from = w.from; marked_it = all_more w.from w.marked_it; apart = w.apart; has = nearer (marks_of old) part w other }))
          (cases_Bool (defines i w.from))

      reached : Covers before next
      reached =
          record {
            room = (marked_in at old (parts_of (read i)) 0 covers.room).1;
            up = λ part e.
                ⊎_elim (λ marked. ⊎_elim (λ was. covers.up part (inl was)) (λ new. through part part new.1 (itself part before new.0)) (is_new_part part marked))
                (by_way part) e;
            down = λ part s. ⊎_elim (λ was. inl (more part was)) (one_down part) (covers.down part s);
          }

    by_result : (r : Option ℕ) → result (read i) ≡ r → (b : Bool) → is_reached (pointees m) old r ≡ b → Covers before (cond b (marked_all m at old (parts_of (read i))) old)
    by_result r e false none = not_reached (ap (is_reached (pointees m) old) e ∙ none)
    by_result None e true hit = absurd (false≢true hit)
    by_result (Some r) e true hit = reached r e hit

    one_step : Covers before (cond (is_reached (pointees m) old (result (read i))) (marked_all m at old (parts_of (read i))) old)
    one_step = by_result (result (read i)) refl (is_reached (pointees m) old (result (read i))) refl

  walk : (code before : Code) (at : ℕ) → Stands m before code → length before ≡ at → Covers before (parts_marked m (pointees m) at code)
  walk [] before at stands count =
      subst (λ b. Covers b (replicate m.bound false))
      (ap (passed []) stands.whole ∙ passed_append [] stands.front [] ∙ sym stands.behind) covers_all
  walk (i ∷ code) before at stands count =
      one_step at before code i count stands (parts_marked m (pointees m) (at + 1) code)
      (walk code (i ∷ before) (at + 1) (one_on m before code i stands) (let e : length (i ∷ before) ≡ at + 1 = omega (arith, count) in e))

  abbrev parts : List Bool
  parts = parts_marked m (pointees m) 0 m.instrs

  covers_start : Covers [] parts
  covers_start = walk m.instrs [] 0 (at_start m) refl

  part_reached : (id : ℕ) → is_marked parts id ≡ true → Start id
  part_reached id e = covers_start.up id (inl e)

  reached_part : (id : ℕ) → Start id → is_marked parts id ≡ true
  reached_part id s = ⊎_elim (λ e. e) (λ w. absurd (false≢true w.has)) (covers_start.down id s)

  -- ---- variables

  known : (id : ℕ) → defined (whole m) id ≡ nat_lt 0 (number_of m id)
  known id = turned [] m.instrs id ∙ or_false (defined m.instrs id) ∙ sym (has_number 0 m.instrs id)

  target_is : (v : Variable) → is_block_class v.class ≡ true → defined (whole m) (pointee m v.type) ≡ true → block_pointee m (Some v) ≡ Some (pointee m v.type)
  target_is v block was =
      ap (λ b. cond b (if_defined m (pointee m v.type)) None) block ∙ ap (λ b. cond b (Some (pointee m v.type)) None) (sym (known (pointee m v.type)) ∙ was)

  -- what is pointed to, if it is this
  record Points (v : Variable) (id : ℕ) : Type 0 where
    block : is_block_class v.class ≡ true
    target : pointee m v.type ≡ id
    made : defined (whole m) id ≡ true

  block_points : (v : Variable) (id : ℕ) → is_id id (block_pointee m (Some v)) ≡ true → Points v id
  block_points v id e = by_cases (is_block_class v.class) refl (nat_lt 0 (number_of m (pointee m v.type))) refl e
    where
      by_cases : (b : Bool) → is_block_class v.class ≡ b → (d : Bool) → nat_lt 0 (number_of m (pointee m v.type)) ≡ d →
          is_id id (cond b (cond d (Some (pointee m v.type)) None) None) ≡ true → Points v id
      by_cases false block d was e = absurd (false≢true e)
      by_cases true block false was e = absurd (false≢true e)
      by_cases true block true was e =
          let same = eqb-true (pointee m v.type) id e in
          record { block = block; target = same; made = ap (defined (whole m)) (sym same) ∙ known (pointee m v.type) ∙ was }

  -- a variable of a block that points to a type reaches it
  points_reach : (v : Variable) (q id : ℕ) → Points v q → has_in (is id) (whole m) q ≡ true → (is_block_class v.class && reaches m (pointee m v.type) id) ≡ true
  points_reach v q id p has = and_from _ _ p.block (ap (has_in (is id) (whole m)) p.target ∙ has)

  block_variable : (id : ℕ) (G : Type 0) → ((v : Variable) → ((t : Option Variable → Bool) → t (Some v) ≡ true → list_any (λ i. t (variable_is (read i))) (outside_of m) ≡ true) → Points v id → G) →
      points id ≡ true → G
  block_variable id G found e =
      any_one (λ i. is_id id (block_pointee m (variable_is (read i)))) (outside_of m) G
      (λ i inside is_it. by_variable i inside (variable_is (read i)) refl is_it) (sym (pointed id) ∙ e)
    where
      by_variable : (i : Instr) → ((q : Instr → Bool) → q i ≡ true → list_any q (outside_of m) ≡ true) → (v : Option Variable) → variable_is (read i) ≡ v →
          is_id id (block_pointee m v) ≡ true → G
      by_variable i inside None is_v e = absurd (false≢true e)
      by_variable i inside (Some v) is_v e = found v (λ t passes. inside (λ i. t (variable_is (read i))) (ap t is_v ∙ passes)) (block_points v id e)

  reached_up : (id : ℕ) → is_in_block m id ≡ true → (points id || is_marked parts id) ≡ true
  reached_up id e =
      any_one (λ i. reaches_it m id (variable_is (read i))) (outside_of m) ((points id || is_marked parts id) ≡ true)
      (λ i inside is_it. by_variable i inside (variable_is (read i)) refl is_it) e
    where
      by_variable : (i : Instr) → ((q : Instr → Bool) → q i ≡ true → list_any q (outside_of m) ≡ true) → (v : Option Variable) → variable_is (read i) ≡ v →
          reaches_it m id v ≡ true → (points id || is_marked parts id) ≡ true
      by_variable i inside None is_v e = absurd (false≢true e)
      by_variable i inside (Some v) is_v e =
          let q = pointee m v.type in
          let both = and_parts (is_block_class v.class) (reaches m q id) e in
          let made = has_only_defined (is id) (whole m) q both.1 in
          let hit = sym (pointed q ∙ (let h : list_any (λ i. is_id q (block_pointee m (variable_is (read i)))) (outside_of m) ≡ true = inside (λ i. is_id q (block_pointee m (variable_is (read i)))) (ap (λ v. is_id q (block_pointee m v)) is_v ∙ ap (is_id q) (target_is v both.0 made) ∙ eq-eqb q q refl) in h ∙ refl)) in
          ⊎_elim (λ same. or_left (points id) (is_marked parts id) (subst (λ k. points k ≡ true) (eqb-true q id same) (sym hit)))
          (λ other. or_right (points id) (is_marked parts id) (reached_part id (record { from = q; marked_it = sym hit; apart = other; has = both.1 })))
          (cases_Bool (nat_eq q id))

  reached_down : (id : ℕ) → (points id || is_marked parts id) ≡ true → is_in_block m id ≡ true
  reached_down id e =
      ⊎_elim
      (λ hit. block_variable id (is_in_block m id ≡ true) (λ v inside p. inside (reaches_it m id) (points_reach v id id p (itself id (whole m) p.made))) hit)
      (λ marked.
      let s = part_reached id marked in
      block_variable s.from (is_in_block m id ≡ true) (λ v inside p. inside (reaches_it m id) (points_reach v s.from id p s.has)) s.marked_it)
      (or_cases (points id) (is_marked parts id) e)

  grows_is : (id : ℕ) → may_grow m id ≡ not (is_marked (bare m) id || is_marked parts id)
  grows_is id = flipped (may_grow m id) (is_marked (bare m) id || is_marked parts id) none_grows some_grows
    where
      flipped : (a b : Bool) → (a ≡ true → b ≡ true → ⊥) → (b ≡ false → a ≡ true) → a ≡ not b
      flipped true true both none = absurd (both refl refl)
      flipped true false both none = refl
      flipped false true both none = refl
      flipped false false both none = none refl

      owner : (v : Variable) → owns_it m id (Some v) ≡ true → (is_block_class v.class && reaches m (pointee m v.type) id) ≡ true → (is_storage m v ≡ true) × (nat_eq (pointee m v.type) id ≡ true)
      owner v owns hit =
          ⊎_elim (λ none. absurd (true≢false (sym hit ∙ not-true (is_block_class v.class && reaches m (pointee m v.type) id) none)))
          (λ own. and_parts (is_storage m v) (nat_eq (pointee m v.type) id) own)
          (or_cases (not (is_block_class v.class && reaches m (pointee m v.type) id)) (is_storage m v && nat_eq (pointee m v.type) id) owns)

      each_owns : (code : Code) → list_all (λ i. owns_it m id (variable_is (read i))) code ≡ true → (i : Instr) →
          ((q : Instr → Bool) → q i ≡ true → list_any q code ≡ true) → owns_it m id (variable_is (read i)) ≡ true
      each_owns code all i inside = by_cases (owns_it m id (variable_is (read i))) refl
        where
          none_not : (code : Code) → list_all (λ i. owns_it m id (variable_is (read i))) code ≡ true → list_any (λ i. not (owns_it m id (variable_is (read i)))) code ≡ true → ⊥
          none_not [] all some = false≢true some
          none_not (j ∷ code) all some =
              let both = and_parts (owns_it m id (variable_is (read j))) (list_all (λ i. owns_it m id (variable_is (read i))) code) all in
              ⊎_elim (λ here. true≢false (sym both.0 ∙ not-true (owns_it m id (variable_is (read j))) here)) (λ later. none_not code both.1 later)
              (or_cases (not (owns_it m id (variable_is (read j)))) (list_any (λ i. not (owns_it m id (variable_is (read i)))) code) some)

          by_cases : (b : Bool) → owns_it m id (variable_is (read i)) ≡ b → b ≡ true
          by_cases true e = refl
          by_cases false e = absurd (none_not code all (inside (λ i. not (owns_it m id (variable_is (read i)))) (ap not e)))

      not_both : (v : Variable) (q : ℕ) → owns_it m id (Some v) ≡ true → Points v q → has_in (is id) (whole m) q ≡ true → (is_storage m v ≡ true) × (nat_eq q id ≡ true)
      not_both v q owns p has =
          let o = owner v owns (points_reach v q id p has) in
          (o.0, ap (λ k. nat_eq k id) (sym p.target) ∙ o.1)

      bare_points : (v : Variable) → is_id id (bare_pointee m (Some v)) ≡ true → (is_storage m v ≡ false) × (is_id id (block_pointee m (Some v)) ≡ true)
      bare_points v e = by_cases (is_storage m v) refl e
        where
          by_cases : (b : Bool) → is_storage m v ≡ b → is_id id (cond b None (block_pointee m (Some v))) ≡ true → (is_storage m v ≡ false) × (is_id id (block_pointee m (Some v)) ≡ true)
          by_cases true s e = absurd (false≢true e)
          by_cases false s e = (s, e)

      bare_at : (v : Option Variable) → owns_it m id v ≡ true → is_id id (bare_pointee m v) ≡ true → ⊥
      bare_at None owns e = false≢true e
      bare_at (Some v) owns e =
          let b = bare_points v e in
          let p = block_points v id b.1 in
          true≢false (sym (not_both v id owns p (itself id (whole m) p.made)).0 ∙ b.0)

      part_at : (v : Option Variable) (q : ℕ) → owns_it m id v ≡ true → is_id q (block_pointee m v) ≡ true → nat_eq q id ≡ false → has_in (is id) (whole m) q ≡ true → ⊥
      part_at None q owns e apart has = false≢true e
      part_at (Some v) q owns e apart has = true≢false (sym (not_both v q owns (block_points v q e) has).1 ∙ apart)

      none_grows : may_grow m id ≡ true → (is_marked (bare m) id || is_marked parts id) ≡ true → ⊥
      none_grows all e =
          ⊎_elim
          (λ hit.
          any_one (λ i. is_id id (bare_pointee m (variable_is (read i)))) (outside_of m) ⊥
          (λ i inside here. bare_at (variable_is (read i)) (each_owns (outside_of m) all i inside) here) (sym (bare_is id) ∙ hit))
          (λ marked.
          let s = part_reached id marked in
          any_one (λ i. is_id s.from (block_pointee m (variable_is (read i)))) (outside_of m) ⊥
          (λ i inside here. part_at (variable_is (read i)) s.from (each_owns (outside_of m) all i inside) here s.apart s.has) (sym (pointed s.from) ∙ s.marked_it))
          (or_cases (is_marked (bare m) id) (is_marked parts id) e)

      one_owns : (i : Instr) → ((q : Instr → Bool) → q i ≡ true → list_any q (outside_of m) ≡ true) → (is_marked (bare m) id || is_marked parts id) ≡ false →
          (v : Option Variable) → variable_is (read i) ≡ v → owns_it m id v ≡ true
      one_owns i inside none None is_v = refl
      one_owns i inside none (Some v) is_v = by_cases (is_block_class v.class && reaches m (pointee m v.type) id) refl (is_storage m v) refl (nat_eq (pointee m v.type) id) refl
        where
          q : ℕ
          q = pointee m v.type

          made : (is_block_class v.class && reaches m q id) ≡ true → block_pointee m (Some v) ≡ Some q
          made e = let both = and_parts (is_block_class v.class) (reaches m q id) e in target_is v both.0 (has_only_defined (is id) (whole m) q both.1)

          hit : (is_block_class v.class && reaches m q id) ≡ true → points q ≡ true
          hit e =
              pointed q ∙ inside (λ i. is_id q (block_pointee m (variable_is (read i)))) (ap (λ v. is_id q (block_pointee m v)) is_v ∙ ap (is_id q) (made e) ∙ eq-eqb q q refl)

          bare_hit : (is_block_class v.class && reaches m q id) ≡ true → is_storage m v ≡ false → nat_eq q id ≡ true → is_marked (bare m) id ≡ true
          bare_hit e s same =
              bare_is id
              ∙ inside (λ i. is_id id (bare_pointee m (variable_is (read i))))
              (ap (λ v. is_id id (bare_pointee m v)) is_v ∙ ap (λ b. is_id id (cond b None (block_pointee m (Some v)))) s ∙ ap (is_id id) (made e) ∙ same)

          by_cases : (b : Bool) → (is_block_class v.class && reaches m q id) ≡ b → (s : Bool) → is_storage m v ≡ s → (e : Bool) → nat_eq q id ≡ e → (not b || (s && e)) ≡ true
          by_cases false block s st e same = refl
          by_cases true block true st true same = refl
          by_cases true block false st true same = absurd (true≢false (sym (or_left (is_marked (bare m) id) (is_marked parts id) (bare_hit block st same)) ∙ none))
          by_cases true block s st false same =
              absurd
              (true≢false
              (sym
              (or_right (is_marked (bare m) id) (is_marked parts id)
              (reached_part id (record { from = q; marked_it = hit block; apart = same; has = (and_parts (is_block_class v.class) (reaches m q id) block).1 })))
              ∙ none))

      all_one : (code : Code) → ((i : Instr) → ((q : Instr → Bool) → q i ≡ true → list_any q code ≡ true) → owns_it m id (variable_is (read i)) ≡ true) →
          list_all (λ i. owns_it m id (variable_is (read i))) code ≡ true
      all_one [] each = refl
      all_one (i ∷ code) each =
          and_from _ _ (each i (λ q passes. or_left (q i) (list_any q code) passes)) (all_one code (λ j inside. each j (λ q passes. or_right (q i) (list_any q code) (inside q passes))))

      some_grows : (is_marked (bare m) id || is_marked parts id) ≡ false → may_grow m id ≡ true
      some_grows none = all_one (outside_of m) (λ i inside. one_owns i inside none (variable_is (read i)) refl)

  pub tables : Tells m (pointees m) (bare m) (parts_marked m (pointees m) 0 m.instrs)
  tables =
      record {
        reached = λ id. same_truth _ _ (reached_up id) (reached_down id);
        grows = grows_is;
      }
