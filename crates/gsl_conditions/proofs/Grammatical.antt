-- What is read is a condition, and each condition is read.
use Rattle.std.proofs.Common.{◌≡◌, ℕ, zero, suc, ◌+◌, ◌<◌, ◌≤◌, Bool, true, false, cond, List, [], ◌∷◌, ◌++◌, Option, Some, None, Ok, Err, refl, ap, sym, subst, ◌∙◌, arith, leb, append_assoc, append-nil}
use Rattle.std.proofs.lemmas.Bool.{cond-true, cond-false, le-leb, lt-leb, leb-true, leb-false, true≢false}
use Rattle.std.specs.Option.{option_map}
use Rattle.gsl_base.specs.declared.fault.Code.TheVariants.{E0204}
use Rattle.gsl_base.specs.declared.fault.Place.{Place}
use Rattle.gsl_base.specs.declared.token.Punct.{Punct}
use Rattle.gsl_base.specs.declared.token.RawKind.{RawKind}
use Rattle.gsl_base.specs.declared.token.RawKind.TheVariants as raw
use Rattle.gsl_macros.specs.declared.stream.Hid.{Hid}
use Rattle.gsl_macros.specs.Expanding.{Seen, at}
use Rattle.gsl_macros.specs.Spelling.{word_of, punct_of}
use Rattle.gsl_conditions.specs.declared.operator.Binary.{Binary}
use Rattle.gsl_conditions.specs.declared.operator.Binary.TheVariants.{Mul}
use Rattle.gsl_conditions.specs.declared.operator.Unary.{Unary}
use Rattle.gsl_conditions.specs.declared.operator.Prefix.{Prefix}
use Rattle.gsl_conditions.specs.declared.operator.Prefix.TheVariants as due
use Rattle.gsl_conditions.specs.declared.operator.Infix.{Infix}
use Rattle.gsl_conditions.specs.declared.operator.Infix.TheVariants as after
use Rattle.gsl_conditions.specs.declared.reader.Entry.{Entry}
use Rattle.gsl_conditions.specs.declared.reader.Entry.TheVariants.{Open, Before, Behind}
use Rattle.gsl_conditions.specs.declared.reader.Reader.{Reader}
use Rattle.gsl_conditions.specs.Operators.{prefix_of, infix_of, level}
use Rattle.gsl_conditions.specs.Values.{Value, literal, unary_value, binary_value}
use Rattle.gsl_conditions.specs.Reading.{is_defined, binds, top_binds, joined, reduced, start, with, waiting, name, prefixed, operand_by, operand, opened, closed, behind_on, behind, operator_by, operator_on, operator, step_by, step, ended, end_by, end, read_on, read}
use Rattle.gsl_conditions.specs.Grammar.{IsNumber, IsName, IsMark, IsPart, IsCondition}

-- ---- the reader goes over tokens

-- the reader behind some tokens
abbrev run_on : (Reader → Option Reader) → Option Reader → Option Reader
run_on later None = None
run_on later (Some r) = later r

abbrev run : Reader → Seen → Option Reader
run r [] = Some r
run r (t ∷ ts) = run_on (λ r. run r ts) (step r t)

run-append : (r : Reader) (xs ys : Seen) → run r (xs ++ ys) ≡ run_on (λ r. run r ys) (run r xs)
run-append r [] ys = refl
run-append r (t ∷ xs) ys = from (λ next. run-append next xs ys) (step r t)
  where
    from : ((next : Reader) → run next (xs ++ ys) ≡ run_on (λ r. run r ys) (run next xs)) → (next : Option Reader)
        → run_on (λ r. run r (xs ++ ys)) next ≡ run_on (λ r. run r ys) (run_on (λ r. run r xs) next)
    from again None = refl
    from again (Some next) = again next

read_runs : (r : Reader) (ts : Seen) → read r ts ≡ read_on end (run r ts)
unfolding read
read_runs r [] = refl
read_runs r (t ∷ ts) = from (λ next. read_runs next ts) (step r t)
  where
    from : ((next : Reader) → read next ts ≡ read_on end (run next ts)) → (next : Option Reader) → read_on (λ r. read r ts) next ≡ read_on end (run_on (λ r. run r ts) next)
    from again None = refl
    from again (Some next) = again next

-- ---- a part is read

-- nothing that waits takes an operand before an operator that binds so tightly
abbrev Apart : ℕ → List Entry → Type 0
Apart least stack = least ≤ 10 → top_binds least stack ≡ false

level_low : (op : Binary) → level op ≤ 10
level_low Mul = omega arith
level_low _ = omega arith

-- What waits is left alone where it does not bind.
alone : (least : ℕ) (stack : List Entry) (x : Value) → top_binds least stack ≡ false → reduced least stack x ≡ (stack, x)
unfolding reduced
alone least [] x apart = refl
alone least (entry ∷ stack) x apart = cond-false _ _ _ apart

-- A reader stands behind a part: it holds an operand, and joining gives what joining the part's value gives.
record Stands (least : ℕ) (stack : List Entry) (v : Value) (r : Reader) : Type 0 where
  pub operand : Value
  pub held : r.value ≡ Some operand
  pub joins : (m : ℕ) → m ≤ least → reduced m r.stack operand ≡ reduced m stack v

record Reads (least : ℕ) (stack : List Entry) (ts : Seen) (v : Value) : Type 0 where
  pub last : Reader
  pub runs : run (record { stack = stack; value = None }) ts ≡ Some last
  pub stands : Stands least stack v last

apart_up : (least high : ℕ) (stack : List Entry) → least ≤ high → high ≤ 10 → Apart least stack → top_binds high stack ≡ false
apart_up least high [] le low apart = refl
apart_up least high (Open ∷ stack) le low apart = refl
apart_up least high (Before op ∷ stack) le low apart = absurd (true≢false (apart (omega arith)))
apart_up least high (Behind op place v ∷ stack) le low apart = not_leb high (level op) (below least (level op) (apart (omega arith)) le)
  where
    below : (least l : ℕ) → leb least l ≡ false → least ≤ high → l < high
    below least l not le = omega (arith, leb-false least l not)

    not_leb : (a b : ℕ) → b < a → leb a b ≡ false
    not_leb a b lt = lt-leb a b lt

operand_number : (stack : List Entry) (t : Hid) (n : ℕ) → IsNumber t n → step (record { stack = stack; value = None }) t ≡ Some (record { stack = stack; value = Some (Ok n) })
operand_number stack t n is =
    let r : Reader = record { stack = stack; value = None } in
    ap (λ w. operand_by r t w (punct_of t.spelled)) is.no_word ∙ ap (operand_by r t None) is.no_mark ∙ ap (option_map (λ n. with r (Ok n))) is.is

operand_name : (stack : List Entry) (t : Hid) → IsName t → step (record { stack = stack; value = None }) t ≡ Some (record { stack = stack; value = Some (Err (at t.place E0204)) })
operand_name stack t is =
    let r : Reader = record { stack = stack; value = None } in
    ap (λ w. operand_by r t w (punct_of t.spelled)) is.spelled ∙ cond-false _ _ _ is.plain

operand_mark : (stack : List Entry) (t : Hid) (mark : Punct) (prefix : Prefix) → IsMark t mark → prefix_of mark ≡ prefix
    → step (record { stack = stack; value = None }) t ≡ prefixed (record { stack = stack; value = None }) prefix
operand_mark stack t mark prefix is which =
    let r : Reader = record { stack = stack; value = None } in
    ap (λ w. operand_by r t w (punct_of t.spelled)) is.no_word ∙ ap (operand_by r t None) is.is ∙ ap (prefixed r) which

operator_mark : (r : Reader) (x : Value) (t : Hid) (mark : Punct) (infix_is : Infix) → r.value ≡ Some x → IsMark t mark → infix_of mark ≡ infix_is
    → step r t ≡ operator_by r x t.place infix_is
operator_mark r x t mark infix_is held is which =
    ap (step_by r t) held ∙ ap (operator_on r x t.place) is.is ∙ ap (operator_by r x t.place) which

below_sign : (m : ℕ) (op : Unary) (stack : List Entry) (v : Value) → reduced m (Before op ∷ stack) v ≡ reduced m stack (unary_value op v)
unfolding reduced
below_sign m op stack v = refl

below_operation : (m : ℕ) (op : Binary) (place : Place) (stack : List Entry) (v w : Value) → m ≤ level op
    → reduced m (Behind op place v ∷ stack) w ≡ reduced m stack (binary_value op place v w)
unfolding reduced
below_operation m op place stack v w le = cond-true _ _ _ (le-leb m (level op) le)

-- Wherever it stands, a part is read.
part_reads : {least : ℕ} {ts : Seen} {v : Value} → IsPart least ts v → (stack : List Entry) → Apart least stack → Reads least stack ts v
part_reads (IsPart.number {n = n} t le is) stack apart = record {
  last = record { stack = stack; value = Some (Ok n) };
  runs = ap (run_on (λ r. run r [])) (operand_number stack t n is);
  stands = record { operand = Ok n; held = refl; joins = λ m low. refl };
}
part_reads (IsPart.name t le is) stack apart = record {
  last = record { stack = stack; value = Some (Err (at t.place E0204)) };
  runs = ap (run_on (λ r. run r [])) (operand_name stack t is);
  stands = record { operand = Err (at t.place E0204); held = refl; joins = λ m low. refl };
}
part_reads (IsPart.parenthesis {ts = ts} {v = v} {mark = mark} {end = end_mark} o c le is opens inner ends closes) stack apart =
    let within = part_reads inner (Open ∷ stack) (λ low. refl) in
    let shut : closed within.last within.stands.operand ≡ Some (record { stack = stack; value = Some v }) =
    ap opened (within.stands.joins 0 (omega arith) ∙ alone 0 (Open ∷ stack) v refl) in
    record {
      last = record { stack = stack; value = Some v };
      runs =
          ap (run_on (λ r. run r (ts ++ c ∷ []))) (operand_mark stack o mark due.Opens is opens)
          ∙ run-append (record { stack = Open ∷ stack; value = None }) ts (c ∷ []) ∙ ap (run_on (λ r. run r (c ∷ []))) within.runs
          ∙ ap (run_on (λ r. run r [])) (operator_mark within.last within.stands.operand c end_mark after.Closes within.stands.held ends closes ∙ shut);
      stands = record { operand = v; held = refl; joins = λ m low. refl };
    }
part_reads (IsPart.sign {ts = ts} {v = v} {mark = mark} t op le is signs inner) stack apart =
    let within = part_reads inner (Before op ∷ stack) (λ low. absurd (omega (arith, low))) in
    record {
      last = within.last;
      runs = ap (run_on (λ r. run r ts)) (operand_mark stack t mark (due.Sign op) is signs) ∙ within.runs;
      stands = record { operand = within.stands.operand; held = within.stands.held; joins = λ m low. within.stands.joins m (omega (arith, low, le)) ∙ below_sign m op stack v };
    }
part_reads (IsPart.operation {least = least} {xs = xs} {ys = ys} {v = v} {w = w} {mark = mark} t op le is joins left right) stack apart =
    let low = level_low op in
    let free : top_binds (level op) stack ≡ false = apart_up least (level op) stack le low apart in
    let first = part_reads left stack (λ l. free) in
    let second = part_reads right (Behind op t.place v ∷ stack) (λ l. lt-leb (level op + 1) (level op) (omega arith)) in
    let then_on : step first.last t ≡ Some (record { stack = Behind op t.place v ∷ stack; value = None }) =
    operator_mark first.last first.stands.operand t mark (after.Joins op) first.stands.held is joins
    ∙ ap (λ s. Some (behind_on op t.place s)) (first.stands.joins (level op) (omega arith) ∙ alone (level op) stack v free) in
    record {
      last = second.last;
      runs =
          run-append (record { stack = stack; value = None }) xs (t ∷ ys) ∙ ap (run_on (λ r. run r (t ∷ ys))) first.runs
          ∙ ap (run_on (λ r. run r ys)) then_on ∙ second.runs;
      stands = record {
        operand = second.stands.operand;
        held = second.stands.held;
        joins = λ m l. second.stands.joins m (omega (arith, l, le)) ∙ below_operation m op t.place stack v w (omega (arith, l, le));
      };
    }

-- each condition is read
pub condition_reads : (ts : Seen) (v : Value) → IsCondition ts v → read start ts ≡ Some v
unfolding reduced
condition_reads ts v is =
    let reads = part_reads is [] (λ low. refl) in
    read_runs start ts ∙ ap (read_on end) reads.runs ∙ ap (end_by reads.last.stack) reads.stands.held ∙ ap ended (reads.stands.joins 0 (omega arith))

-- ---- what is read is a part

lower : {least : ℕ} {ts : Seen} {v : Value} (to : ℕ) → to ≤ least → IsPart least ts v → IsPart to ts v
lower to le (IsPart.number t low is) = IsPart.number t (omega (arith, le, low)) is
lower to le (IsPart.name t low is) = IsPart.name t (omega (arith, le, low)) is
lower to le (IsPart.parenthesis o c low is opens inner ends closes) = IsPart.parenthesis o c (omega (arith, le, low)) is opens inner ends closes
lower to le (IsPart.sign t op low is signs inner) = IsPart.sign t op (omega (arith, le, low)) is signs inner
lower to le (IsPart.operation t op low is joins left right) = IsPart.operation t op (omega (arith, le, low)) is joins left right

-- The tokens are those of what waits.
data Waits : List Entry → Seen → Type 0 where
  nothing : Waits [] []
  open_one : {stack : List Entry} {ts : Seen} {mark : Punct} (o : Hid) → Waits stack ts → IsMark o mark → prefix_of mark ≡ due.Opens → Waits (Open ∷ stack) (ts ++ o ∷ [])
  sign_one : {stack : List Entry} {ts : Seen} {mark : Punct} (t : Hid) (op : Unary) → Waits stack ts → IsMark t mark → prefix_of mark ≡ due.Sign op → Waits (Before op ∷ stack) (ts ++ t ∷ [])
  behind_one : {stack : List Entry} {ts xs : Seen} {v : Value} {mark : Punct} (t : Hid) (op : Binary) → Waits stack ts → IsPart (level op) xs v → top_binds (level op) stack ≡ false
      → IsMark t mark → infix_of mark ≡ after.Joins op → Waits (Behind op t.place v ∷ stack) ((ts ++ xs) ++ t ∷ [])

-- A part that binds so tightly is an operand of what waits.
abbrev Serves : ℕ → List Entry → Type 0
Serves least [] = Unit {0}
Serves least (Open ∷ stack) = Unit {0}
Serves least (Before op ∷ stack) = 11 ≤ least
Serves least (Behind op place v ∷ stack) = level op + 1 ≤ least

-- The tokens are those of what waits, and then a part.
record Holds (least : ℕ) (stack : List Entry) (x : Value) (taken : Seen) : Type 0 where
  pub front : Seen
  pub part : Seen
  pub is : taken ≡ front ++ part
  pub waits : Waits stack front
  pub fits : IsPart least part x
  pub serves : Serves least stack

serves_eleven : (stack : List Entry) → Serves 11 stack
serves_eleven [] = tt
serves_eleven (Open ∷ stack) = tt
serves_eleven (Before op ∷ stack) = omega arith
serves_eleven (Behind op place v ∷ stack) = omega (arith, level_low op)

serves_below : (op : Binary) (stack : List Entry) → top_binds (level op) stack ≡ false → Serves (level op) stack
serves_below op [] free = tt
serves_below op (Open ∷ stack) free = tt
serves_below op (Before other ∷ stack) free = absurd (true≢false free)
serves_below op (Behind other place v ∷ stack) free = omega (arith, leb-false (level op) (level other) free)

-- what joining leaves holds the same tokens
record Joined (m : ℕ) (left : List Entry × Value) (taken : Seen) : Type 0 where
  pub least : ℕ
  pub above : m ≤ least
  pub holds : Holds least left.0 left.1 taken
  pub free : top_binds m left.0 ≡ false

joined_sign : (least : ℕ) (op : Unary) (stack : List Entry) (x : Value) (taken : Seen) → Holds least (Before op ∷ stack) x taken → Holds 11 stack (unary_value op x) taken
joined_sign least op stack x taken h = from h.waits h.is
  where
    from : {front : Seen} → Waits (Before op ∷ stack) front → taken ≡ front ++ h.part → Holds 11 stack (unary_value op x) taken
    from (Waits.sign_one {ts = ts} t op waits is signs) same = record {
      front = ts;
      part = t ∷ h.part;
      is = same ∙ append_assoc ts (t ∷ []) h.part;
      waits = waits;
      fits = IsPart.sign t op (omega arith) is signs (lower 11 h.serves h.fits);
      serves = serves_eleven stack;
    }

joined_operation : (least : ℕ) (op : Binary) (place : Place) (v : Value) (stack : List Entry) (x : Value) (taken : Seen) → Holds least (Behind op place v ∷ stack) x taken
    → Holds (level op) stack (binary_value op place v x) taken
joined_operation least op place v stack x taken h = from h.waits h.is
  where
    from : {front : Seen} → Waits (Behind op place v ∷ stack) front → taken ≡ front ++ h.part → Holds (level op) stack (binary_value op place v x) taken
    from (Waits.behind_one {ts = ts} {xs = xs} t op waits left free is joins) same = record {
      front = ts;
      part = xs ++ t ∷ h.part;
      is = same ∙ append_assoc (ts ++ xs) (t ∷ []) h.part ∙ append_assoc ts xs (t ∷ h.part);
      waits = waits;
      fits = IsPart.operation t op (omega arith) is joins left (lower (level op + 1) h.serves h.fits);
      serves = serves_below op stack free;
    }

join_holds : (m least : ℕ) (stack : List Entry) (x : Value) (taken : Seen) → m ≤ 11 → m ≤ least → Holds least stack x taken → Joined m (reduced m stack x) taken
unfolding reduced
join_holds m least [] x taken low above h = record { least = least; above = above; holds = h; free = refl }
join_holds m least (Open ∷ stack) x taken low above h = record { least = least; above = above; holds = h; free = refl }
join_holds m least (Before op ∷ stack) x taken low above h = join_holds m 11 stack (unary_value op x) taken low low (joined_sign least op stack x taken h)
join_holds m least (Behind op place v ∷ stack) x taken low above h =
    by_test (λ tight. join_holds m (level op) stack (binary_value op place v x) taken low tight (joined_operation least op place v stack x taken h)) (leb m (level op)) refl
  where
    by_test : (m ≤ level op → Joined m (reduced m stack (binary_value op place v x)) taken) → (b : Bool) → leb m (level op) ≡ b
        → Joined m (cond b (reduced m stack (binary_value op place v x)) (Behind op place v ∷ stack, x)) taken
    by_test further true is = further (leb-true m (level op) is)
    by_test further false is = record { least = least; above = above; holds = h; free = is }

-- ---- from token to token

-- What was taken is what waits, or that and an operand.
abbrev Took : Option Value → List Entry → Seen → Type 0
Took None stack taken = Waits stack taken
Took (Some x) stack taken = Holds 11 stack x taken

Is : Option Reader → Seen → Type 0
Is None taken = Unit {0}
Is (Some r) taken = Took r.value r.stack taken

mark_alone : (t : Hid) (mark : Punct) → punct_of t.spelled ≡ Some mark → IsMark t mark
mark_alone t mark is = record { no_word = no_word_of t.spelled is; is = is }
  where
    no_word_of : (k : RawKind) → punct_of k ≡ Some mark → word_of k ≡ None
    no_word_of (raw.Word text) has = cc
    no_word_of (raw.Number text) has = refl
    no_word_of (raw.Punct punct) has = refl
    no_word_of (raw.Stray byte) has = refl

one_part : (stack : List Entry) (taken : Seen) (t : Hid) (x : Value) → Waits stack taken → IsPart 11 (t ∷ []) x → Holds 11 stack x (taken ++ t ∷ [])
one_part stack taken t x waits fits = record { front = taken; part = t ∷ []; is = refl; waits = waits; fits = fits; serves = serves_eleven stack }

module _ (r : Reader) (taken : Seen) (t : Hid) where
  took_prefix : Waits r.stack taken → (mark : Punct) → IsMark t mark → (prefix : Prefix) → prefix_of mark ≡ prefix → Is (prefixed r prefix) (taken ++ t ∷ [])
  unfolding Is
  took_prefix waits mark is due.Opens which = Waits.open_one t waits is which
  took_prefix waits mark is (due.Sign op) which = Waits.sign_one t op waits is which
  took_prefix waits mark is due.Wrong which = tt

  took_name : Waits r.stack taken → (word : List ℕ) → word_of t.spelled ≡ Some word → (b : Bool) → is_defined word ≡ b
      → Is (cond b None (Some (with r (Err (at t.place E0204))))) (taken ++ t ∷ [])
  unfolding Is
  took_name waits word spelled true is = tt
  took_name waits word spelled false is = one_part r.stack taken t _ waits (IsPart.name t (omega arith) (record { word = word; spelled = spelled; plain = is }))

  took_number : Waits r.stack taken → word_of t.spelled ≡ None → punct_of t.spelled ≡ None → (found : Option ℕ) → literal t.place t.spelled ≡ found
      → Is (option_map (λ n. with r (Ok n)) found) (taken ++ t ∷ [])
  unfolding Is
  took_number waits no_word no_mark None is = tt
  took_number waits no_word no_mark (Some n) is = one_part r.stack taken t _ waits (IsPart.number t (omega arith) (record { no_word = no_word; no_mark = no_mark; is = is }))

  took_operand : Waits r.stack taken → (word : Option (List ℕ)) → word_of t.spelled ≡ word → (punct : Option Punct) → punct_of t.spelled ≡ punct
      → Is (operand_by r t word punct) (taken ++ t ∷ [])
  took_operand waits (Some word) is_word punct is_punct = took_name waits word is_word (is_defined word) refl
  took_operand waits None is_word (Some mark) is_punct = took_prefix waits mark (record { no_word = is_word; is = is_punct }) (prefix_of mark) refl
  took_operand waits None is_word None is_punct = took_number waits is_word is_punct (literal t.place t.spelled) refl

  shut : (mark : Punct) → IsMark t mark → infix_of mark ≡ after.Closes → (left : List Entry × Value) → Joined 0 left taken → Is (opened left) (taken ++ t ∷ [])
  unfolding Is
  shut mark is closes ([], x) j = tt
  shut mark is closes (Before op ∷ stack, x) j = tt
  shut mark is closes (Behind op place v ∷ stack, x) j = tt
  shut mark is closes (Open ∷ stack, x) j = from j.holds.waits j.holds.is
    where
      from : {front : Seen} → Waits (Open ∷ stack) front → taken ≡ front ++ j.holds.part → Holds 11 stack x (taken ++ t ∷ [])
      from (Waits.open_one {ts = ts} o waits opens is_open) same = record {
        front = ts;
        part = o ∷ (j.holds.part ++ t ∷ []);
        is = ap (λ z. z ++ t ∷ []) same ∙ append_assoc (ts ++ o ∷ []) j.holds.part (t ∷ []) ∙ append_assoc ts (o ∷ []) (j.holds.part ++ t ∷ []);
        waits = waits;
        fits = IsPart.parenthesis o t (omega arith) opens is_open (lower 0 (omega arith) j.holds.fits) is closes;
        serves = serves_eleven stack;
      }

  took_operation : (mark : Punct) → IsMark t mark → (op : Binary) → infix_of mark ≡ after.Joins op → (left : List Entry × Value) → Joined (level op) left taken
      → Is (Some (behind_on op t.place left)) (taken ++ t ∷ [])
  unfolding Is
  took_operation mark is op joins left j =
      subst (λ z. Waits (Behind op t.place left.1 ∷ left.0) (z ++ t ∷ [])) (sym j.holds.is)
      (Waits.behind_one t op j.holds.waits (lower (level op) j.above j.holds.fits) j.free is joins)

  took_infix : (x : Value) → Holds 11 r.stack x taken → (mark : Punct) → IsMark t mark → (infix_is : Infix) → infix_of mark ≡ infix_is
      → Is (operator_by r x t.place infix_is) (taken ++ t ∷ [])
  unfolding Is
  took_infix x h mark is after.Closes which = shut mark is which (reduced 0 r.stack x) (join_holds 0 11 r.stack x taken (omega arith) (omega arith) h)
  took_infix x h mark is (after.Joins op) which =
      let low = level_low op in
      took_operation mark is op which (reduced (level op) r.stack x) (join_holds (level op) 11 r.stack x taken (omega (arith, low)) (omega (arith, low)) h)
  took_infix x h mark is after.Wrong which = tt

  took_operator : (x : Value) → Holds 11 r.stack x taken → (punct : Option Punct) → punct_of t.spelled ≡ punct → Is (operator_on r x t.place punct) (taken ++ t ∷ [])
  unfolding Is
  took_operator x h None is = tt
  took_operator x h (Some mark) is = took_infix x h mark (mark_alone t mark is) (infix_of mark) refl

  took_step : (value : Option Value) → Took value r.stack taken → Is (step_by r t value) (taken ++ t ∷ [])
  took_step None waits = took_operand waits (word_of t.spelled) refl (punct_of t.spelled) refl
  took_step (Some x) h = took_operator x h (punct_of t.spelled) refl

whole : (v : Value) (taken : Seen) (left : List Entry × Value) → Joined 0 left taken → ended left ≡ Some v → IsCondition taken v
whole v taken (entry ∷ stack, x) j is = absurd (cc)
whole v taken ([], x) j is = from j.holds.waits j.holds.is
  where
    from : {front : Seen} → Waits [] front → taken ≡ front ++ j.holds.part → IsCondition taken v
    from Waits.nothing same =
        let value : x ≡ v = cc in
        subst (λ z. IsPart 0 z v) (sym same) (subst (IsPart 0 j.holds.part) value (lower 0 (omega arith) j.holds.fits))

finished : (v : Value) (taken : Seen) (stack : List Entry) (value : Option Value) → Took value stack taken → end_by stack value ≡ Some v → IsCondition taken v
finished v taken stack None waits is = absurd (cc)
finished v taken stack (Some x) h is = whole v taken (reduced 0 stack x) (join_holds 0 11 stack x taken (omega arith) (omega arith) h) is

read_holds : (ts : Seen) (r : Reader) (taken : Seen) (v : Value) → Took r.value r.stack taken → read r ts ≡ Some v → IsCondition (taken ++ ts) v
unfolding read Is
read_holds [] r taken v took is = subst (λ z. IsCondition z v) (sym (append-nil taken)) (finished v taken r.stack r.value took is)
read_holds (t ∷ ts) r taken v took is =
    from (λ next took is. read_holds ts next (taken ++ t ∷ []) v took is) (step r t) (took_step r taken t r.value took) is
  where
    from : ((next : Reader) → Took next.value next.stack (taken ++ t ∷ []) → read next ts ≡ Some v → IsCondition ((taken ++ t ∷ []) ++ ts) v)
        → (next : Option Reader) → Is next (taken ++ t ∷ []) → read_on (λ r. read r ts) next ≡ Some v → IsCondition (taken ++ t ∷ ts) v
    from again None met is = absurd (cc)
    from again (Some next) met is = subst (λ z. IsCondition z v) (append_assoc taken (t ∷ []) ts) (again next met is)

-- what is read is a condition
pub read_is_condition : (ts : Seen) (v : Value) → read start ts ≡ Some v → IsCondition ts v
read_is_condition ts v is = read_holds ts start [] v Waits.nothing is
