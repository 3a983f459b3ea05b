-- What clap makes of the words behind `compile`, which takes an option beside its operands.
use Rattle.std.proofs.Common.{◌∙◌, ◌≡◌, ℕ, Bool, cond, true, false, suc, refl, sym, ap, ap₂, subst, arith, List, [], ◌∷◌, ◌++◌, Option, Some, None, true≢false, codes, append-nil, append_assoc}
use Rattle.std.specs.Prelude.{◌+◌, ◌==◌, ◌||◌, is_some, unwrap_or, fold, option_and_then, take, drop}
use Rattle.std.specs.List.{All, before_first, after_first, position_or_len}
use Rattle.std.specs.Str.{IsUtf8, bytes_eq}
use Rattle.std.proofs.lemmas.Bool.Decides.{Decides-eqb}
use Rattle.std.proofs.lemmas.List.{take-append-drop}
use Rattle.std.proofs.lemmas.Slice.Eq.{bytes_eq-Decides}
use Rattle.clap.specs.Kinds.{Kinds, or_else}
use Rattle.clap.specs.Faults.{check_fault, defaults_fault, flag_word_fault, level_fault, long_fault, settle_fault, turn_fault, use_fault, walk_fault, word_fault}
use Rattle.clap.specs.Lexer.{has_byte, long_of, name_and_value}
use Rattle.clap.specs.Simple.{Shape, built_leaf, filled, inherited, marked_built, with_index, with_leaf_noted}
use Rattle.clap.specs.Walk.{Held, Row, Rule, Text, Waiting, Walk, arg_by_long, finished, idle, option, positional, nothing_held, rows_after, settled, walked, with_default, used}
use Rattle.clap.specs.declared.builder.value_parser.Reading.TheVariants.{AsWritten}
use Rattle.clap.specs.declared.parser.matches.ValueSource.TheVariants.{CommandLine}
use Rattle.clap.proofs.OnLiterals.{clap_on_literals}
use Rattle.gsl_plan.specs.Plan.{Arguments, Name, aimed, attached, is_option, with_operand, with_target}
use Rattle.gsl_plan.specs.Found.{aiming, arguments_in, grammar, target_rule}
use Rattle.gsl_plan.proofs.Walked.{FailsByName, KnowsLetter, fails, first_fails, given_rows, help, help_fails, known, named_option_fails, no_flag}

-- the command as it is built
abbrev pub aiming_shape : Shape
aiming_shape = built_leaf (inherited (with_leaf_noted (marked_built grammar.top)) aiming.top)

abbrev pub rules : List Rule
rules = aiming_shape.rules

-- ---- what is held between two words

abbrev target_row : Name → Row
target_row value = record {
  id = codes "target";
  values = value ∷ [];
  count = None;
  source = Some CommandLine;
  reading = AsWritten;
}

-- The operands that are settled, with the value of the option if it is: its row stands before that of operands, or behind it.
data Rows : Type 0 where
  plain : (front : List Name) → Rows
  led : (value : Name) (front : List Name) → Rows
  tailed : (first : Name) (front : List Name) (value : Name) → Rows

abbrev rows_in : Rows → List Row
rows_in (plain front) = given_rows front
rows_in (led value front) = target_row value ∷ given_rows front
rows_in (tailed first front value) = given_rows (first ∷ front) ++ target_row value ∷ []

abbrev value_in : Rows → Option Name
value_in (plain front) = None
value_in (led value front) = Some value
value_in (tailed first front value) = Some value

abbrev front_in : Rows → List Name
front_in (plain front) = front
front_in (led value front) = front
front_in (tailed first front value) = first ∷ front

-- one operand more
abbrev put : Rows → Name → Rows
put (plain front) word = plain (front ++ word ∷ [])
put (led value front) word = led value (front ++ word ∷ [])
put (tailed first front value) word = tailed first (front ++ word ∷ []) value

-- the option with its value
abbrev with_value : List Name → Name → Rows
with_value [] value = led value []
with_value (first ∷ front) value = tailed first front value

-- nothing is pending, or an operand, or the option with its value
data State : Type 0 where
  still : (rows : Rows) → State
  behind : (rows : Rows) (word : Name) → State
  valued : (front : List Name) (value : Name) → State

abbrev holding : Rows → Option (Text × List Text) → Held
holding rows pending = record { rows = rows_in rows; pending = pending; skip = 0 }

abbrev held : State → Held
held (still rows) = holding rows None
held (behind rows word) = holding rows (Some (codes "operands", word ∷ []))
held (valued front value) = holding (plain front) (Some (codes "target", value ∷ []))

abbrev waits : State → Waiting
waits (still rows) = idle
waits (behind rows word) = positional
waits (valued front value) = idle

-- what is settled with what is pending
abbrev now : State → Rows
now (still rows) = rows
now (behind rows word) = put rows word
now (valued front value) = with_value front value

abbrev walking : Bool → Waiting → Held → Walk
walking is_trailing waiting h = record { held = h; waiting = waiting; position = 1; is_trailing = is_trailing; stopped = None }

abbrev at : Bool → State → Walk
at is_trailing s = walking is_trailing (waits s) (held s)

-- behind the option, whose value is to come
abbrev opened : Rows → Walk
opened rows = walking false (option (codes "target")) (holding rows (Some (codes "target", [])))

settles : (s : State) → settled rules (held s) ≡ holding (now s) None
settles (still rows) = refl
settles (behind (plain []) word) = refl
settles (behind (plain (x ∷ xs)) word) = refl
settles (behind (led value []) word) = refl
settles (behind (led value (x ∷ xs)) word) = refl
settles (behind (tailed first front value) word) = refl
settles (valued [] value) = refl
settles (valued (x ∷ xs) value) = refl

settles_well : (s : State) → settle_fault rules false (held s) ≡ []
settles_well (still rows) = refl
settles_well (behind rows word) = refl
settles_well (valued [] value) = refl
settles_well (valued (x ∷ xs) value) = refl

then_none : (kinds : Kinds) → kinds ≡ [] → or_else kinds [] ≡ []
then_none kinds is = ap (λ k. or_else k []) is

-- ---- one word

steps_behind : (s : State) (word : Name) → walked rules [] (at true s) word ≡ at true (behind (now s) word)
unfolding clap_on_literals
steps_behind (still rows) word = refl
steps_behind (behind rows last) word = ap (λ (h : Held). walking true positional (record h { pending = Some (codes "operands", word ∷ []) })) (settles (behind rows last))
steps_behind (valued front value) word = ap (λ (h : Held). walking true positional (record h { pending = Some (codes "operands", word ∷ []) })) (settles (valued front value))

passes_behind : (s : State) (word : Name) → turn_fault aiming_shape [] (at true s) word ≡ []
unfolding clap_on_literals
passes_behind (still rows) word = refl
passes_behind (behind rows last) word = refl
passes_behind (valued front value) word = settles_well (valued front value)

steps_dashes : (s : State) → walked rules [] (at false s) (codes "--") ≡ at true s
unfolding clap_on_literals
steps_dashes (still rows) = refl
steps_dashes (behind rows last) = refl
steps_dashes (valued front value) = refl

passes_dashes : (s : State) → turn_fault aiming_shape [] (at false s) (codes "--") ≡ []
unfolding clap_on_literals
passes_dashes (still rows) = refl
passes_dashes (behind rows last) = refl
passes_dashes (valued front value) = refl

steps_open : (s : State) → walked rules [] (at false s) (codes "--target") ≡ opened (now s)
unfolding clap_on_literals
steps_open (still rows) = refl
steps_open (behind rows last) = ap (λ (h : Held). walking false (option (codes "target")) (record h { pending = Some (codes "target", []) })) (settles (behind rows last))
steps_open (valued front value) = ap (λ (h : Held). walking false (option (codes "target")) (record h { pending = Some (codes "target", []) })) (settles (valued front value))

passes_open : (s : State) → turn_fault aiming_shape [] (at false s) (codes "--target") ≡ []
unfolding clap_on_literals
passes_open (still rows) = refl
passes_open (behind rows last) = refl
passes_open (valued front value) = then_none _ (settles_well (valued front value))

abbrev target : Rule
target = with_index 1 (filled target_rule)

abbrev aimed_at : Rows → Name → Held
aimed_at rows value = record (holding rows None) { rows = used target (value ∷ []) (rows_in rows) }

abbrev value_fault : Rows → Name → Kinds
value_fault rows value = use_fault false target (value ∷ []) (rows_in rows)

-- `--target=V` is a use of the option
steps_value : (s : State) (value : Name) → walked rules [] (at false s) (codes "--target=" ++ value) ≡ walking false idle (aimed_at (now s) value)
unfolding clap_on_literals
steps_value (still rows) value = refl
steps_value (behind rows last) value = ap (λ (h : Held). walking false idle (record h { rows = used target (value ∷ []) h.rows })) (settles (behind rows last))
steps_value (valued front last) value = ap (λ (h : Held). walking false idle (record h { rows = used target (value ∷ []) h.rows })) (settles (valued front last))

turn_value : (s : State) (value : Name) → turn_fault aiming_shape [] (at false s) (codes "--target=" ++ value) ≡ or_else (value_fault (now s) value) []
unfolding clap_on_literals
turn_value (still rows) value = refl
turn_value (behind rows last) value = ap (λ (h : Held). or_else (use_fault false target (value ∷ []) h.rows) []) (settles (behind rows last))
turn_value (valued front last) value =
    ap₂ (λ kinds (h : Held). or_else (or_else kinds (use_fault false target (value ∷ []) h.rows)) []) (settles_well (valued front last)) (settles (valued front last))

-- the option stands once
used_first : (front : List Name) (value : Name) → (aimed_at (plain front) value ≡ holding (with_value front value) None) × (value_fault (plain front) value ≡ [])
used_first [] value = (refl, refl)
used_first (x ∷ xs) value = (refl, refl)

used_again : (rows : Rows) (other value : Name) → value_in rows ≡ Some other → fails (value_fault rows value) ≡ true
used_again (plain front) other value is = absurd (true≢false (sym (ap is_some is)))
used_again (led last front) other value is = refl
used_again (tailed first front last) other value is = refl

steps_operand : (s : State) (word : Name) → bytes_eq word (codes "--") ≡ false → is_option word ≡ false → walked rules [] (at false s) word ≡ at false (behind (now s) word)
unfolding clap_on_literals
steps_operand (still rows) word dashes none = rw (dashes, (no_flag word none).0, (no_flag word none).1) refl
steps_operand (behind rows last) word dashes none =
    rw (dashes, (no_flag word none).0, (no_flag word none).1)
    (ap (λ (h : Held). walking false positional (record h { pending = Some (codes "operands", word ∷ []) })) (settles (behind rows last)))
steps_operand (valued front value) word dashes none =
    rw (dashes, (no_flag word none).0, (no_flag word none).1)
    (ap (λ (h : Held). walking false positional (record h { pending = Some (codes "operands", word ∷ []) })) (settles (valued front value)))

passes_operand : (s : State) (word : Name) → bytes_eq word (codes "--") ≡ false → is_option word ≡ false → turn_fault aiming_shape [] (at false s) word ≡ []
unfolding clap_on_literals
passes_operand (still rows) word dashes none = rw (dashes, (no_flag word none).0, (no_flag word none).1) refl
passes_operand (behind rows last) word dashes none = rw (dashes, (no_flag word none).0, (no_flag word none).1) refl
passes_operand (valued front value) word dashes none = rw (dashes, (no_flag word none).0, (no_flag word none).1) (settles_well (valued front value))

-- ---- options

knows_letter : KnowsLetter rules
knows_letter x = known (104 == x)

-- what a long name is, with the value that is attached to it
abbrev spelled : Text → Option Text → Text
spelled name None = name
spelled name (Some value) = name ++ 61 ∷ value

cut_is : (text : Text) → text ≡ spelled (name_and_value text).0 (name_and_value text).1
cut_is [] = refl
cut_is (x ∷ xs) = go (x == 61) refl (cut_is xs)
  where
    one_more : (n : ℕ) (t : Bool)
        → spelled (x ∷ take n xs) (cond t (Some (drop (n + 1) xs)) None) ≡ spelled (take (1 + n) (x ∷ xs)) (cond t (Some (drop (1 + n + 1) (x ∷ xs))) None)
    one_more n t =
        let one : suc n ≡ 1 + n = omega arith in
        let two : suc (n + 1) ≡ 1 + n + 1 = omega arith in
        ap₂ (λ a b. spelled (take a (x ∷ xs)) (cond t (Some (drop b (x ∷ xs))) None)) one two

    more : (t : Bool) → xs ≡ spelled (before_first (λ b. b == 61) xs) (cond t (Some (after_first (λ b. b == 61) xs)) None)
        → x ∷ xs ≡ spelled (x ∷ before_first (λ b. b == 61) xs) (cond t (Some (after_first (λ b. b == 61) xs)) None)
    more true is = ap (λ text. x ∷ text) is
    more false is = ap (λ text. x ∷ text) is

    go : (t : Bool) → (x == 61) ≡ t → xs ≡ spelled (name_and_value xs).0 (name_and_value xs).1
        → x ∷ xs ≡ spelled (name_and_value (x ∷ xs)).0 (name_and_value (x ∷ xs)).1
    go true is rest = rw is (ap (λ b. b ∷ xs) ((Decides-eqb x 61).0 is))
    go false is rest = rw is (more (has_byte 61 xs) rest ∙ one_more (position_or_len (λ b. b == 61) xs) (has_byte 61 xs))

some≢none : {X : Type 0} (x : X) → None ≡ Some x → ⊥
some≢none x is = true≢false (sym (ap is_some is))

long_is : (word : Name) (name : Text) (v : Option Text) → long_of word ≡ Some (name, v) → word ≡ 45 ∷ 45 ∷ spelled name v
long_is [] name v is = absurd (some≢none _ is)
long_is (b ∷ []) name v is = absurd (some≢none _ (sym (no_flag (b ∷ []) refl).0 ∙ is))
long_is (b ∷ n ∷ more) name v is = go (b == 45) (n == 45) refl refl more is
  where
    go : (t u : Bool) → (b == 45) ≡ t → (n == 45) ≡ u → (more : Text) → long_of (b ∷ n ∷ more) ≡ Some (name, v) → b ∷ n ∷ more ≡ 45 ∷ 45 ∷ spelled name v
    go false u first second more is =
        let none : None ≡ Some (name, v) = rw first at is in
        absurd (some≢none _ none)
    go true false first second more is =
        let none : None ≡ Some (name, v) = rw (first, second) at is in
        absurd (some≢none _ none)
    go true true first second [] is =
        let none : None ≡ Some (name, v) = rw (first, second) at is in
        absurd (some≢none _ none)
    go true true first second (m ∷ more) is =
        let cut : Some (name_and_value (m ∷ more)) ≡ Some (name, v) = rw (first, second) at is in
        ap₂ (λ x y. x ∷ y ∷ m ∷ more) ((Decides-eqb b 45).0 first) ((Decides-eqb n 45).0 second)
        ∙ ap (λ text. 45 ∷ 45 ∷ text) (cut_is (m ∷ more) ∙ ap (λ (p : Text × Option Text). spelled p.0 p.1) (ap (λ o. unwrap_or o (name, v)) cut))

attached_is : (word value : Name) → attached word ≡ Some value → word ≡ codes "--target=" ++ value
attached_is word value is = go (bytes_eq (take 9 word) (codes "--target=")) refl
  where
    go : (t : Bool) → bytes_eq (take 9 word) (codes "--target=") ≡ t → word ≡ codes "--target=" ++ value
    go false met =
        let none : None ≡ Some value = rw met at is in
        absurd (some≢none _ none)
    go true met =
        let rest : Some (drop 9 word) ≡ Some value = rw met at is in
        sym (take-append-drop 9 word) ∙ ap₂ (λ (a b : Name). a ++ b) ((bytes_eq-Decides (take 9 word) (codes "--target=")).0 met) (ap (λ o. unwrap_or o value) rest)

named_by : (name : Text) → arg_by_long rules name ≡ cond (bytes_eq (codes "target") name) (Some target) (cond (bytes_eq (codes "help") name) (Some help) None)
named_by name = go (bytes_eq (codes "target") name) (bytes_eq (codes "help") name)
  where
    go : (t h : Bool) → cond (t || false) (Some target) (cond (h || false) (Some help) None) ≡ cond t (Some target) (cond h (Some help) None)
    go true h = refl
    go false true = refl
    go false false = refl

-- an option that is not known
other_by_name : (word : Name) (h : Held) → bytes_eq word (codes "--target") ≡ false → attached word ≡ None → FailsByName rules word h
other_by_name word h alone none name v is = ap (λ o. fails (long_fault rules false o v h)) (named_by name) ∙ go (bytes_eq (codes "target") name) refl
  where
    no_target : (v : Option Text) → word ≡ 45 ∷ 45 ∷ spelled (codes "target") v → ⊥
    no_target None spells = true≢false (sym ((bytes_eq-Decides word (codes "--target")).1 spells) ∙ alone)
    no_target (Some value) spells = some≢none value (sym none ∙ ap attached spells)

    go : (t : Bool) → bytes_eq (codes "target") name ≡ t → fails (long_fault rules false (cond t (Some target) (cond (bytes_eq (codes "help") name) (Some help) None)) v h) ≡ true
    go true met = absurd (no_target v (long_is word name v is ∙ ap (λ n. 45 ∷ 45 ∷ spelled n v) (sym ((bytes_eq-Decides (codes "target") name).0 met))))
    go false met = help_fails rules (bytes_eq (codes "help") name) v h

-- any option, where what is pending cannot be settled
doomed_by_name : (word : Name) (h : Held) → fails (settle_fault rules false h) ≡ true → FailsByName rules word h
doomed_by_name word h bad name v is = ap (λ o. fails (long_fault rules false o v h)) (named_by name) ∙ go (bytes_eq (codes "target") name) v
  where
    go : (t : Bool) (v : Option Text) → fails (long_fault rules false (cond t (Some target) (cond (bytes_eq (codes "help") name) (Some help) None)) v h) ≡ true
    go true None = bad
    go true (Some value) = first_fails _ _ bad
    go false v = help_fails rules (bytes_eq (codes "help") name) v h

-- ---- all words

abbrev later_fault : Held → Kinds
later_fault h =
    or_else (settle_fault rules false h) (or_else (defaults_fault (settled rules h).rows rules) (check_fault aiming_shape (finished rules h) false))

abbrev whole_fault : Walk → List Name → Kinds
whole_fault w words = or_else (walk_fault aiming_shape [] w words) (later_fault (fold (walked rules []) w words).held)

abbrev rows_left : Walk → List Name → List Row
rows_left w words = finished rules (fold (walked rules []) w words).held

-- the words fail where they are no arguments, and give them else
abbrev pub Gives : Option Arguments → Kinds → List Row → Type 0
Gives None kinds rows = fails kinds ≡ true
Gives (Some p) kinds rows = (kinds ≡ []) × (arguments_in rows ≡ p)

abbrev Leads : Option Arguments → Walk → List Name → Type 0
Leads o w words = Gives o (whole_fault w words) (rows_left w words)

leads_as : (o other : Option Arguments) (w : Walk) (words : List Name) → o ≡ other → Leads other w words → Leads o w words
leads_as o other w words is leads = subst (λ p. Leads p w words) (sym is) leads

passes_on : (o : Option Arguments) (w next : Walk) (word : Name) (words : List Name) → turn_fault aiming_shape [] w word ≡ [] → walked rules [] w word ≡ next → Leads o next words
    → Leads o w (word ∷ words)
unfolding walk_fault
passes_on o w next word words passes steps leads =
    subst (λ kinds. From kinds (walked rules [] w word)) (sym passes) (subst (λ v. From [] v) (sym steps) leads)
  where
    From : Kinds → Walk → Type 0
    From kinds v = Gives o (or_else (or_else kinds (walk_fault aiming_shape [] v words)) (later_fault (fold (walked rules []) v words).held)) (rows_left v words)

turn_fails : (w : Walk) (word : Name) (words : List Name) → fails (turn_fault aiming_shape [] w word) ≡ true → fails (whole_fault w (word ∷ words)) ≡ true
unfolding walk_fault
turn_fails w word words is = first_fails _ _ (first_fails _ _ is)

-- ---- where the option has no value, or stands again

abbrev CannotSettle : Rows → List Name → Type 0
CannotSettle rows values = fails (settle_fault rules false (holding rows (Some (codes "target", values)))) ≡ true

abbrev doomed : Bool → Waiting → Rows → List Name → Walk
doomed is_trailing waiting rows values = walking is_trailing waiting (holding rows (Some (codes "target", values)))

doomed_behind : (waiting : Waiting) (rows : Rows) (values words : List Name) → CannotSettle rows values → fails (whole_fault (doomed true waiting rows values) words) ≡ true
unfolding clap_on_literals
doomed_behind waiting rows values [] bad = first_fails _ _ bad
doomed_behind waiting rows values (word ∷ words) bad = turn_fails (doomed true waiting rows values) word words bad

option_dooms : (waiting : Waiting) (rows : Rows) (values : List Name) (word : Name) (words : List Name) → CannotSettle rows values → IsUtf8 word → bytes_eq word (codes "--") ≡ false
    → is_option word ≡ true → fails (whole_fault (doomed false waiting rows values) (word ∷ words)) ≡ true
option_dooms waiting rows values word words bad utf8 dashes is =
    let h = holding rows (Some (codes "target", values)) in
    let refused : fails (word_fault aiming_shape [] false waiting word h) ≡ true =
    met waiting (named_option_fails rules word h refl knows_letter (doomed_by_name word h bad) utf8 dashes is) in
    turn_fails (doomed false waiting rows values) word words (first_fails _ _ refused)
  where
    met : (waiting : Waiting) → fails (flag_word_fault rules false (long_of word) word (holding rows (Some (codes "target", values)))) ≡ true
        → fails (word_fault aiming_shape [] false waiting word (holding rows (Some (codes "target", values)))) ≡ true
    met idle refused = rw dashes refused
    met (option id) refused = rw dashes refused
    met positional refused = rw dashes refused

dashes_doom : (waiting : Waiting) (rows : Rows) (values words : List Name) → CannotSettle rows values → fails (whole_fault (doomed false waiting rows values) (codes "--" ∷ words)) ≡ true
unfolding clap_on_literals
dashes_doom idle rows values words bad = doomed_behind idle rows values words bad
dashes_doom (option id) rows values words bad = doomed_behind (option id) rows values words bad
dashes_doom positional rows values words bad = doomed_behind positional rows values words bad

is_dashes : (word : Name) → bytes_eq word (codes "--") ≡ true → codes "--" ≡ word
is_dashes word is = sym ((bytes_eq-Decides word (codes "--")).0 is)

-- the option has a value, and stands again
doomed_before : (rows : Rows) (values words : List Name) → All IsUtf8 words → CannotSettle rows values → fails (whole_fault (doomed false idle rows values) words) ≡ true
unfolding clap_on_literals
doomed_before rows values [] utf8 bad = first_fails _ _ bad
doomed_before rows values (word ∷ words) utf8 bad = go (bytes_eq word (codes "--")) (is_option word) refl refl
  where
    go : (dashes option : Bool) → bytes_eq word (codes "--") ≡ dashes → is_option word ≡ option → fails (whole_fault (doomed false idle rows values) (word ∷ words)) ≡ true
    go true o is other = subst (λ w. fails (whole_fault (doomed false idle rows values) (w ∷ words)) ≡ true) (is_dashes word is) (dashes_doom idle rows values words bad)
    go false true is other = option_dooms idle rows values word words bad (utf8 0 word (omega arith)) is other
    go false false is other =
        let refused : fails (turn_fault aiming_shape [] (doomed false idle rows values) word) ≡ true = rw (is, (no_flag word other).0, (no_flag word other).1) bad in
        turn_fails (doomed false idle rows values) word words refused

-- ---- what was settled, and what is to come

abbrev joined_at : Option Name → List Name → Option Name → List Name → Option Arguments
joined_at None front other more = Some (other, front ++ more)
joined_at (Some value) front None more = Some (Some value, front ++ more)
joined_at (Some value) front (Some other) more = None

-- the arguments of these words behind those of others
abbrev joined : Rows → Option Arguments → Option Arguments
joined rows = option_and_then (λ p. joined_at (value_in rows) (front_in rows) p.0 p.1)

ends_at : (v : Option Name) (front : List Name) → joined_at v front None [] ≡ Some (v, front)
ends_at None front = ap (λ more. Some (None, more)) (append-nil front)
ends_at (Some value) front = ap (λ more. Some (Some value, more)) (append-nil front)

put_value : (rows : Rows) (word : Name) → value_in (put rows word) ≡ value_in rows
put_value (plain front) word = refl
put_value (led value front) word = refl
put_value (tailed first front value) word = refl

put_front : (rows : Rows) (word : Name) → front_in (put rows word) ≡ front_in rows ++ word ∷ []
put_front (plain front) word = refl
put_front (led value front) word = refl
put_front (tailed first front value) word = refl

joined_operand : (rows : Rows) (word : Name) (o : Option Arguments) → joined rows (with_operand word o) ≡ joined (put rows word) o
joined_operand rows word None = refl
joined_operand rows word (Some p) =
    go (value_in rows) p.0 ∙ ap₂ (λ v front. joined_at v front p.0 p.1) (sym (put_value rows word)) (sym (put_front rows word))
  where
    longer : front_in rows ++ (word ∷ p.1) ≡ (front_in rows ++ word ∷ []) ++ p.1
    longer = sym (append_assoc (front_in rows) (word ∷ []) p.1)

    go : (v other : Option Name) → joined_at v (front_in rows) other (word ∷ p.1) ≡ joined_at v (front_in rows ++ word ∷ []) other p.1
    go None other = ap (λ more. Some (other, more)) longer
    go (Some value) None = ap (λ more. Some (Some value, more)) longer
    go (Some value) (Some other) = refl

with_value_is : (front : List Name) (value : Name) → (value_in (with_value front value) ≡ Some value) × (front_in (with_value front value) ≡ front)
with_value_is [] value = (refl, refl)
with_value_is (x ∷ xs) value = (refl, refl)

joined_first : (front : List Name) (value : Name) (o : Option Arguments) → joined (plain front) (with_target value o) ≡ joined (with_value front value) o
joined_first front value None = refl
joined_first front value (Some p) =
    go p.0 ∙ ap₂ (λ v given. joined_at v given p.0 p.1) (sym (with_value_is front value).0) (sym (with_value_is front value).1)
  where
    go : (other : Option Name) → joined (plain front) (with_target value (Some (other, p.1))) ≡ joined_at (Some value) front other p.1
    go None = refl
    go (Some last) = refl

joined_again : (rows : Rows) (last value : Name) (o : Option Arguments) → value_in rows ≡ Some last → joined rows (with_target value o) ≡ None
joined_again rows last value None is = refl
joined_again rows last value (Some p) is = go p.0
  where
    go : (other : Option Name) → joined rows (with_target value (Some (other, p.1))) ≡ None
    go None = rw is refl
    go (Some other) = refl

-- ---- at the end

ends_well : (s : State) → later_fault (held s) ≡ []
unfolding clap_on_literals
ends_well s = ap₂ (λ kinds (h : Held). or_else kinds (or_else (defaults_fault h.rows rules) [])) (settles_well s) (settles s) ∙ go (now s)
  where
    go : (rows : Rows) → or_else (defaults_fault (rows_in rows) rules) [] ≡ []
    go (plain []) = refl
    go (plain (x ∷ xs)) = refl
    go (led value []) = refl
    go (led value (x ∷ xs)) = refl
    go (tailed first front value) = refl

finishes : (s : State) → arguments_in (finished rules (held s)) ≡ (value_in (now s), front_in (now s))
finishes s = ap (λ (h : Held). arguments_in (fold with_default h.rows rules)) (settles s) ∙ go (now s)
  where
    go : (rows : Rows) → arguments_in (fold with_default (rows_in rows) rules) ≡ (value_in rows, front_in rows)
    go (plain []) = refl
    go (plain (x ∷ xs)) = refl
    go (led value []) = refl
    go (led value (x ∷ xs)) = refl
    go (tailed first front value) = refl

at_end : (is_trailing : Bool) (s : State) → Leads (joined (now s) (Some (None, []))) (at is_trailing s) []
unfolding walk_fault
at_end is_trailing s = leads_as _ _ (at is_trailing s) [] (ends_at (value_in (now s)) (front_in (now s))) (ends_well s, finishes s)

-- behind the first `--`
walks_behind : (s : State) (words : List Name) → Leads (joined (now s) (Some (None, words))) (at true s) words
walks_behind s [] = at_end true s
walks_behind s (word ∷ words) =
    leads_as _ _ (at true s) (word ∷ words) (joined_operand (now s) word (Some (None, words)))
    (passes_on _ (at true s) (at true (behind (now s) word)) word words (passes_behind s word) (steps_behind s word) (walks_behind (behind (now s) word) words))

-- before it the walk stands between two arguments, or behind the option
data Place : Type 0 where
  between : (s : State) → Place
  awaiting : (rows : Rows) → Place

abbrev Walks : Place → List Name → Type 0
Walks (between s) words = Leads (joined (now s) (aimed false words)) (at false s) words
Walks (awaiting rows) words = Leads (joined rows (aimed true words)) (opened rows) words

-- the word behind `--target`
steps_awaited : (rows : Rows) (word : Name) → bytes_eq word (codes "--") ≡ false → is_option word ≡ false → walked rules [] (opened rows) word ≡ doomed false idle rows (word ∷ [])
unfolding clap_on_literals
steps_awaited rows word dashes none = rw (dashes, (no_flag word none).0, (no_flag word none).1) refl

passes_awaited : (rows : Rows) (word : Name) → bytes_eq word (codes "--") ≡ false → is_option word ≡ false → turn_fault aiming_shape [] (opened rows) word ≡ []
unfolding clap_on_literals
passes_awaited rows word dashes none = rw (dashes, (no_flag word none).0, (no_flag word none).1) refl

module _ (word : Name) (words : List Name) (utf8 : IsUtf8 word) (all : All IsUtf8 words) (leads : (p : Place) → Walks p words) where
  at_value : (rows : Rows) → bytes_eq word (codes "--") ≡ false → is_option word ≡ false → Leads (joined rows (with_target word (aimed false words))) (opened rows) (word ∷ words)
  at_value rows dashes none = go rows (steps_awaited rows word dashes none) (passes_awaited rows word dashes none)
    where
      again : (rows : Rows) (last : Name) → value_in rows ≡ Some last → walked rules [] (opened rows) word ≡ doomed false idle rows (word ∷ [])
          → turn_fault aiming_shape [] (opened rows) word ≡ [] → Leads (joined rows (with_target word (aimed false words))) (opened rows) (word ∷ words)
      again rows last is steps passes =
          leads_as _ None (opened rows) (word ∷ words) (joined_again rows last word (aimed false words) is)
          (passes_on None (opened rows) (doomed false idle rows (word ∷ [])) word words passes steps (doomed_before rows (word ∷ []) words all (used_again rows last word is)))

      go : (rows : Rows) → walked rules [] (opened rows) word ≡ doomed false idle rows (word ∷ []) → turn_fault aiming_shape [] (opened rows) word ≡ []
          → Leads (joined rows (with_target word (aimed false words))) (opened rows) (word ∷ words)
      go (plain front) steps passes =
          leads_as _ _ (opened (plain front)) (word ∷ words) (joined_first front word (aimed false words))
          (passes_on _ (opened (plain front)) (at false (valued front word)) word words passes steps (leads (between (valued front word))))
      go (led last front) steps passes = again (led last front) last refl steps passes
      go (tailed first front last) steps passes = again (tailed first front last) last refl steps passes

  behind_option : (rows : Rows) → Walks (awaiting rows) (word ∷ words)
  behind_option rows = go (is_option word) (bytes_eq word (codes "--")) refl refl
    where
      go : (o d : Bool) → is_option word ≡ o → bytes_eq word (codes "--") ≡ d → Walks (awaiting rows) (word ∷ words)
      go true true is met =
          let refused : fails (whole_fault (opened rows) (word ∷ words)) ≡ true =
          subst (λ w. fails (whole_fault (opened rows) (w ∷ words)) ≡ true) (is_dashes word met) (dashes_doom (option (codes "target")) rows [] words refl) in
          rw is refused
      go true false is met = rw is (option_dooms (option (codes "target")) rows [] word words refl utf8 met is)
      go false true is met = absurd (true≢false (ap is_option (is_dashes word met) ∙ is))
      go false false is met = rw is (at_value rows met is)

  -- `--target=V`
  at_attached : (s : State) (value : Name) → word ≡ codes "--target=" ++ value → Leads (joined (now s) (with_target value (aimed false words))) (at false s) (word ∷ words)
  at_attached s value is =
      subst (λ w. Leads (joined (now s) (with_target value (aimed false words))) (at false s) (w ∷ words)) (sym is) (go (now s) (steps_value s value) (turn_value s value))
    where
      again : (rows : Rows) (last : Name) → value_in rows ≡ Some last → turn_fault aiming_shape [] (at false s) (codes "--target=" ++ value) ≡ or_else (value_fault rows value) []
          → Leads (joined rows (with_target value (aimed false words))) (at false s) ((codes "--target=" ++ value) ∷ words)
      again rows last here turn =
          leads_as _ None (at false s) ((codes "--target=" ++ value) ∷ words) (joined_again rows last value (aimed false words) here)
          (turn_fails (at false s) (codes "--target=" ++ value) words (ap fails turn ∙ first_fails _ _ (used_again rows last value here)))

      go : (rows : Rows) → walked rules [] (at false s) (codes "--target=" ++ value) ≡ walking false idle (aimed_at rows value)
          → turn_fault aiming_shape [] (at false s) (codes "--target=" ++ value) ≡ or_else (value_fault rows value) []
          → Leads (joined rows (with_target value (aimed false words))) (at false s) ((codes "--target=" ++ value) ∷ words)
      go (plain front) steps turn =
          leads_as _ _ (at false s) ((codes "--target=" ++ value) ∷ words) (joined_first front value (aimed false words))
          (passes_on _ (at false s) (at false (still (with_value front value))) (codes "--target=" ++ value) words (turn ∙ then_none _ (used_first front value).1)
          (steps ∙ ap (λ h. walking false idle h) (used_first front value).0) (leads (between (still (with_value front value)))))
      go (led last front) steps turn = again (led last front) last refl turn
      go (tailed first front last) steps turn = again (tailed first front last) last refl turn

  at_other : (s : State) → bytes_eq word (codes "--") ≡ false → bytes_eq word (codes "--target") ≡ false → attached word ≡ None → is_option word ≡ true
      → fails (whole_fault (at false s) (word ∷ words)) ≡ true
  at_other s dashes alone none is = turn_fails (at false s) word words (go s (named_option_fails rules word (held s) (skips s) knows_letter (other_by_name word (held s) alone none) utf8 dashes is))
    where
      skips : (s : State) → (held s).skip ≡ 0
      skips (still rows) = refl
      skips (behind rows last) = refl
      skips (valued front value) = refl

      go : (s : State) → fails (flag_word_fault rules false (long_of word) word (held s)) ≡ true → fails (turn_fault aiming_shape [] (at false s) word) ≡ true
      go (still rows) refused =
          let met : fails (word_fault aiming_shape [] false idle word (held (still rows))) ≡ true = rw dashes refused in
          first_fails _ _ met
      go (behind rows last) refused =
          let met : fails (word_fault aiming_shape [] false positional word (held (behind rows last))) ≡ true = rw dashes refused in
          first_fails _ _ met
      go (valued front value) refused =
          let met : fails (word_fault aiming_shape [] false idle word (held (valued front value))) ≡ true = rw dashes refused in
          first_fails _ _ met

  at_argument : (s : State) → Walks (between s) (word ∷ words)
  at_argument s = go (bytes_eq word (codes "--")) (bytes_eq word (codes "--target")) (attached word) (is_option word) refl refl refl refl
    where
      as_word : (known : Name) → bytes_eq word known ≡ true → Walks (between s) (known ∷ words) → Walks (between s) (word ∷ words)
      as_word known is here = subst (λ w. Walks (between s) (w ∷ words)) (sym ((bytes_eq-Decides word known).0 is)) here

      go : (d t : Bool) (v : Option Name) (o : Bool) → bytes_eq word (codes "--") ≡ d → bytes_eq word (codes "--target") ≡ t → attached word ≡ v → is_option word ≡ o
          → Walks (between s) (word ∷ words)
      go true t v o is_d is_t is_v is_o =
          as_word (codes "--") is_d (passes_on _ (at false s) (at true s) (codes "--") words (passes_dashes s) (steps_dashes s) (walks_behind s words))
      go false true v o is_d is_t is_v is_o =
          as_word (codes "--target") is_t (passes_on _ (at false s) (opened (now s)) (codes "--target") words (passes_open s) (steps_open s) (leads (awaiting (now s))))
      go false false (Some value) o is_d is_t is_v is_o = rw (is_d, is_t, is_v) (at_attached s value (attached_is word value is_v))
      go false false None true is_d is_t is_v is_o = rw (is_d, is_t, is_v, is_o) (at_other s is_d is_t is_v is_o)
      go false false None false is_d is_t is_v is_o =
          rw (is_d, is_t, is_v, is_o) (leads_as _ _ (at false s) (word ∷ words) (joined_operand (now s) word (aimed false words))
          (passes_on _ (at false s) (at false (behind (now s) word)) word words (passes_operand s word is_d is_o) (steps_operand s word is_d is_o) (leads (between (behind (now s) word)))))

walks : (p : Place) (words : List Name) → All IsUtf8 words → Walks p words
unfolding walk_fault
walks (between s) [] utf8 = at_end false s
walks (awaiting rows) [] utf8 = refl
walks (between s) (word ∷ words) utf8 =
    let all : All IsUtf8 words = λ k d below. utf8 (suc k) d (omega arith) in
    at_argument word words (utf8 0 word (omega arith)) all (λ p. walks p words all) s
walks (awaiting rows) (word ∷ words) utf8 =
    let all : All IsUtf8 words = λ k d below. utf8 (suc k) d (omega arith) in
    behind_option word words (utf8 0 word (omega arith)) all (λ p. walks p words all) rows

pub aiming_gives : (words : List Name) → All IsUtf8 words
    → Gives (aimed false words) (level_fault aiming_shape [] nothing_held words false []) (rows_after rules [] words)
aiming_gives words utf8 = leads_as _ _ (at false (still (plain []))) words (nothing_before (aimed false words)) (walks (between (still (plain []))) words utf8)
  where
    nothing_before : (o : Option Arguments) → o ≡ joined (plain []) o
    nothing_before None = refl
    nothing_before (Some p) = refl
