-- What clap makes of the words behind a command that takes operands alone.
use Rattle.std.proofs.Common.{◌∙◌, ◌≡◌, ◌||◌, ◌==◌, ℕ, Bool, cond, true, false, suc, refl, sym, ap, ap₂, subst, arith, List, [], ◌∷◌, ◌++◌, length, Option, Some, None, true≢false, codes, append-nil, append_assoc}
use Rattle.std.specs.Prelude.{slice_get, fold, option_and_then, option_map, if◌then◌else◌}
use Rattle.std.specs.List.{All}
use Rattle.std.specs.Str.{IsUtf8, bytes_eq, chars, encode_utf8_all}
use Rattle.std.proofs.lemmas.Bool.Decides.{Decides-eqb}
use Rattle.std.proofs.lemmas.Str.{IsCharBoundary-after_ascii, IsUtf8-drop, chars_from_encodes}
use Rattle.clap.specs.Kinds.{Kinds, or_else}
use Rattle.clap.specs.Faults.{bundle_fault, check_fault, defaults_fault, flag_word_fault, level_fault, long_fault, settle_fault, short_fault, turn_fault, walk_fault, word_fault}
use Rattle.clap.specs.Lexer.{long_of, long_of_rest, name_and_value, short_of, short_of_rest, strip_byte}
use Rattle.clap.specs.Simple.{Shape, built_leaf, filled, help_rule, inherited, marked_built, with_index, with_leaf_noted}
use Rattle.clap.specs.Walk.{Held, Row, Rule, Text, Waiting, Walk, arg_by_long, arg_by_short, finished, idle, positional, nothing_held, rows_after, settled, walk, walk_from, walked}
use Rattle.clap.specs.declared.builder.value_parser.Reading.TheVariants.{AsWritten}
use Rattle.clap.specs.declared.parser.matches.ValueSource.TheVariants.{CommandLine}
use Rattle.clap.proofs.OnLiterals.{clap_on_literals}
use Rattle.gsl_plan.specs.Plan.{Name, is_option, operands}
use Rattle.gsl_plan.specs.Found.{grammar, operated}

-- a command as it is built
abbrev pub shape : Name → Shape
shape name = built_leaf (inherited (with_leaf_noted (marked_built grammar.top)) (operated name).top)

abbrev pub rules : List Rule
rules = (shape []).rules

abbrev pub given_rows : List Name → List Row
given_rows [] = []
given_rows (x ∷ xs) = record {
  id = codes "operands";
  values = x ∷ xs;
  count = None;
  source = Some CommandLine;
  reading = AsWritten;
} ∷ []

abbrev all_given : List Name → Option Name → List Name
all_given front None = front
all_given front (Some last) = front ++ last ∷ []

abbrev held : List Name → Option Name → Held
held front None = record { rows = given_rows front; pending = None; skip = 0 }
held front (Some last) = record { rows = given_rows front; pending = Some (codes "operands", last ∷ []); skip = 0 }

abbrev waits : Option Name → Waiting
waits None = idle
waits (Some last) = positional

-- where the walk stands behind these operands, of which the last is still pending
abbrev at : Bool → List Name → Option Name → Walk
at is_trailing front last = record { held = held front last; waiting = waits last; position = 1; is_trailing = is_trailing; stopped = None }

settles : (front : List Name) (last : Option Name) → settled rules (held front last) ≡ held (all_given front last) None
settles front None = refl
settles [] (Some last) = refl
settles (x ∷ xs) (Some last) = refl

settles_well : (front : List Name) (last : Option Name) → settle_fault rules false (held front last) ≡ []
settles_well front None = refl
settles_well front (Some last) = refl

-- ---- one word

-- behind the first `--` each word is an operand
steps_behind : (front : List Name) (last : Option Name) (word : Name) → walked rules [] (at true front last) word ≡ at true (all_given front last) (Some word)
unfolding clap_on_literals
steps_behind front None word = refl
steps_behind [] (Some last) word = refl
steps_behind (x ∷ xs) (Some last) word = refl

passes_behind : (name : Name) (front : List Name) (last : Option Name) (word : Name) → turn_fault (shape name) [] (at true front last) word ≡ []
unfolding clap_on_literals
passes_behind name front None word = refl
passes_behind name front (Some last) word = refl

-- `--` ends the options
steps_dashes : (front : List Name) (last : Option Name) (word : Name) → bytes_eq word (codes "--") ≡ true → walked rules [] (at false front last) word ≡ at true front last
unfolding clap_on_literals
steps_dashes front None word is = rw is refl
steps_dashes front (Some last) word is = rw is refl

passes_dashes : (name : Name) (front : List Name) (last : Option Name) (word : Name) → bytes_eq word (codes "--") ≡ true
    → turn_fault (shape name) [] (at false front last) word ≡ []
unfolding clap_on_literals
passes_dashes name front None word is = rw is refl
passes_dashes name front (Some last) word is = rw is refl

alone : (t : Bool) → (option_and_then long_of_rest (option_and_then (strip_byte 45) (cond t (Some []) None)) ≡ None) × (option_and_then short_of_rest (cond t (Some []) None) ≡ None)
alone true = (refl, refl)
alone false = (refl, refl)

-- a word that does not begin with `-`, and `-` alone, is no flag
pub no_flag : (word : Name) → is_option word ≡ false → (long_of word ≡ None) × (short_of word ≡ None)
no_flag [] none = (refl, refl)
no_flag (b ∷ []) none = alone (b == 45)
no_flag (b ∷ n ∷ more) none = rw none (refl, refl)

steps_operand : (front : List Name) (last : Option Name) (word : Name) → bytes_eq word (codes "--") ≡ false → is_option word ≡ false
    → walked rules [] (at false front last) word ≡ at false (all_given front last) (Some word)
unfolding clap_on_literals
steps_operand front None word dashes none = rw (dashes, (no_flag word none).0, (no_flag word none).1) refl
steps_operand [] (Some last) word dashes none = rw (dashes, (no_flag word none).0, (no_flag word none).1) refl
steps_operand (x ∷ xs) (Some last) word dashes none = rw (dashes, (no_flag word none).0, (no_flag word none).1) refl

passes_operand : (name : Name) (front : List Name) (last : Option Name) (word : Name) → bytes_eq word (codes "--") ≡ false → is_option word ≡ false
    → turn_fault (shape name) [] (at false front last) word ≡ []
unfolding clap_on_literals
passes_operand name front None word dashes none = rw (dashes, (no_flag word none).0, (no_flag word none).1) refl
passes_operand name front (Some last) word dashes none = rw (dashes, (no_flag word none).0, (no_flag word none).1) refl

-- ---- options

-- some step fails
abbrev pub fails : Kinds → Bool
fails [] = false
fails (k ∷ ks) = true

pub first_fails : (a b : Kinds) → fails a ≡ true → fails (or_else a b) ≡ true
first_fails [] b is = absurd (true≢false (sym is))
first_fails (k ∷ ks) b is = refl

pub second_fails : (a b : Kinds) → fails b ≡ true → fails (or_else a b) ≡ true
second_fails [] b is = is
second_fails (k ∷ ks) b is = refl

abbrev pub help : Rule
help = with_index 1 (filled help_rule)

-- no flag of one letter is known but that of help
abbrev pub KnowsLetter : List Rule → Type 0
KnowsLetter c = (x : ℕ) → arg_by_short c x ≡ (if 104 == x then Some help else None)

-- no flag is known but that of help
abbrev pub KnowsHelp : List Rule → Type 0
KnowsHelp c = ((name : Text) → arg_by_long c name ≡ (if bytes_eq (codes "help") name then Some help else None)) × KnowsLetter c

-- the word fails where it has a long name
abbrev pub FailsByName : List Rule → Name → Held → Type 0
FailsByName c word h = (name : Text) (v : Option Text) → long_of word ≡ Some (name, v) → fails (long_fault c false (arg_by_long c name) v h) ≡ true

pub help_fails : (c : List Rule) (t : Bool) (v : Option Text) (h : Held) → fails (long_fault c false (cond t (Some help) None) v h) ≡ true
help_fails c false v h = refl
help_fails c true (Some v) h = refl
help_fails c true None h = second_fails (settle_fault c false h) _ refl

long_fails : (c : List Rule) (name : Text) (v : Option Text) (h : Held) → KnowsHelp c → fails (long_fault c false (arg_by_long c name) v h) ≡ true
long_fails c name v h knows = ap (λ o. fails (long_fault c false o v h)) (knows.0 name) ∙ help_fails c (bytes_eq (codes "help") name) v h

short_fails : (c : List Rule) (x : ℕ) (rest : Text) (h : Held) (next : Held → Kinds) → KnowsLetter c → fails (short_fault c false (arg_by_short c x) rest h next) ≡ true
short_fails c x rest h next knows = ap (λ o. fails (short_fault c false o rest h next)) (knows x) ∙ go (104 == x)
  where
    go : (t : Bool) → fails (short_fault c false (cond t (Some help) None) rest h next) ≡ true
    go false = refl
    go true = first_fails _ _ (second_fails (settle_fault c false h) _ refl)

-- a text that is not empty has a first character
first_character : (b : ℕ) (bs : List ℕ) → IsUtf8 (b ∷ bs) → (x : ℕ) × (slice_get (chars (b ∷ bs)) 0 ≡ Some x)
first_character b bs utf8 = go utf8.0 utf8.1.1 refl
  where
    go : (cs : List ℕ) → encode_utf8_all cs ≡ b ∷ bs → utf8.0 ≡ cs → (x : ℕ) × (slice_get (chars (b ∷ bs)) 0 ≡ Some x)
    go [] spelled is = absurd (omega (arith, ap length spelled))
    go (c ∷ cs) spelled is = (c, ap (λ xs. slice_get xs 0) (sym (chars_from_encodes (c ∷ cs) (b ∷ bs) utf8 spelled)))

behind_dash : (b : ℕ) (rest : List ℕ) → IsUtf8 (b ∷ rest) → b ≡ 45 → IsUtf8 rest
behind_dash b rest utf8 dash = IsUtf8-drop (b ∷ rest) 1 utf8 (IsCharBoundary-after_ascii (b ∷ rest) 0 utf8 (omega arith) (omega arith))

bundle_fails : (c : List Rule) (b : ℕ) (bs : List ℕ) (h : Held) → h.skip ≡ 0 → KnowsLetter c → IsUtf8 (b ∷ bs) → fails (bundle_fault c false (b ∷ bs) h) ≡ true
unfolding clap_on_literals
bundle_fails c b bs h none knows utf8 =
    let first = first_character b bs utf8 in
    rw (none, first.1) (short_fails c first.0 _ _ _ knows)

short_flag : (b n : ℕ) (more : List ℕ) → (b == 45) ≡ true → (n == 45) ≡ false
    → (long_of (b ∷ n ∷ more) ≡ None) × (short_of (b ∷ n ∷ more) ≡ Some (n ∷ more))
short_flag b n more first second = (rw (first, second) refl, rw (first, second) refl)

-- a word that begins with `-` and goes on is refused, but for `--` and long names that are known
pub named_option_fails : (c : List Rule) (word : Name) (h : Held) → h.skip ≡ 0 → KnowsLetter c → FailsByName c word h → IsUtf8 word → bytes_eq word (codes "--") ≡ false
    → is_option word ≡ true → fails (flag_word_fault c false (long_of word) word h) ≡ true
named_option_fails c [] h none knows by_name utf8 dashes is = absurd (true≢false (sym is))
named_option_fails c (b ∷ []) h none knows by_name utf8 dashes is = absurd (true≢false (sym is))
named_option_fails c (b ∷ n ∷ more) h none knows by_name utf8 dashes is = go (n == 45) refl more by_name utf8 dashes
  where
    go : (t : Bool) → (n == 45) ≡ t → (more : List ℕ) → FailsByName c (b ∷ n ∷ more) h → IsUtf8 (b ∷ n ∷ more) → bytes_eq (b ∷ n ∷ more) (codes "--") ≡ false
        → fails (flag_word_fault c false (long_of (b ∷ n ∷ more)) (b ∷ n ∷ more) h) ≡ true
    go false second more by_name utf8 dashes =
        let flag = short_flag b n more is second in
        rw (flag.0, flag.1) (bundle_fails c n more h none knows (behind_dash b (n ∷ more) utf8 ((Decides-eqb b 45).0 is)))
    go true second [] by_name utf8 dashes =
        let both : true ≡ false = rw (is, second) at dashes in
        absurd (true≢false both)
    go true second (m ∷ more) by_name utf8 dashes =
        let long : long_of (b ∷ n ∷ m ∷ more) ≡ Some (name_and_value (m ∷ more)) = rw (is, second) refl in
        rw long (by_name _ _ long)

pub option_fails : (c : List Rule) (word : Name) (h : Held) → h.skip ≡ 0 → KnowsHelp c → IsUtf8 word → bytes_eq word (codes "--") ≡ false → is_option word ≡ true
    → fails (flag_word_fault c false (long_of word) word h) ≡ true
option_fails c word h none knows utf8 dashes is = named_option_fails c word h none knows.1 (λ name v _. long_fails c name v h knows) utf8 dashes is

pub known : (t : Bool) → cond (t || false) (Some help) None ≡ cond t (Some help) None
known true = refl
known false = refl

knows_help : KnowsHelp rules
knows_help = (λ name. known (bytes_eq (codes "help") name), λ x. known (104 == x))

turn_fails : (name : Name) (front : List Name) (last : Option Name) (word : Name) → IsUtf8 word → bytes_eq word (codes "--") ≡ false → is_option word ≡ true
    → fails (turn_fault (shape name) [] (at false front last) word) ≡ true
turn_fails name front None word utf8 dashes is =
    let refused : fails (word_fault (shape name) [] false idle word (held front None)) ≡ true =
    rw dashes (option_fails rules word (held front None) refl knows_help utf8 dashes is) in
    first_fails _ _ refused
turn_fails name front (Some last) word utf8 dashes is =
    let refused : fails (word_fault (shape name) [] false positional word (held front (Some last))) ≡ true =
    rw dashes (option_fails rules word (held front (Some last)) refl knows_help utf8 dashes is) in
    first_fails _ _ refused

-- ---- all words

-- the walk fails nowhere, and has these operands at its end
abbrev WalksTo : Kinds → Walk → List Name → Type 0
WalksTo kinds end given = (kinds ≡ []) × ((t : Bool) × (front : List Name) × (last : Option Name) × (end ≡ at t front last) × (all_given front last ≡ given))

abbrev Ends : Option (List Name) → List Name → Kinds → Walk → Type 0
Ends None before kinds end = fails kinds ≡ true
Ends (Some more) before kinds end = WalksTo kinds end (before ++ more)

walks_behind : (name : Name) (front : List Name) (last : Option Name) (words : List Name)
    → WalksTo (walk_fault (shape name) [] (at true front last) words) (fold (walked rules []) (at true front last) words) (all_given front last ++ words)
unfolding walk_fault
walks_behind name front last [] = (refl, (true, front, last, refl, sym (append-nil (all_given front last))))
walks_behind name front last (word ∷ words) =
    rw (passes_behind name front last word, steps_behind front last word, ← append_assoc (all_given front last) (word ∷ []) words)
    (walks_behind name (all_given front last) (Some word) words)

one_more : (word : Name) (before : List Name) (kinds : Kinds) (end : Walk) (o : Option (List Name)) → Ends o (before ++ word ∷ []) kinds end
    → Ends (option_map (λ more. word ∷ more) o) before kinds end
one_more word before kinds end None is = is
one_more word before kinds end (Some more) is = subst (WalksTo kinds end) (append_assoc before (word ∷ []) more) is

walks : (name : Name) (front : List Name) (last : Option Name) (words : List Name) → All IsUtf8 words
    → Ends (operands words) (all_given front last) (walk_fault (shape name) [] (at false front last) words) (fold (walked rules []) (at false front last) words)
unfolding walk_fault
walks name front last [] utf8 = (refl, (false, front, last, refl, sym (append-nil (all_given front last))))
walks name front last (word ∷ words) utf8 =
    by_word (bytes_eq word (codes "--")) (is_option word) refl refl
    (one_more word (all_given front last) _ _ (operands words) (walks name (all_given front last) (Some word) words (λ k d below. utf8 (suc k) d (omega arith))))
  where
    by_word : (dashes option : Bool) → bytes_eq word (codes "--") ≡ dashes → is_option word ≡ option
        → Ends (option_map (λ more. word ∷ more) (operands words)) (all_given front last)
        (walk_fault (shape name) [] (at false (all_given front last) (Some word)) words) (fold (walked rules []) (at false (all_given front last) (Some word)) words)
        → Ends (operands (word ∷ words)) (all_given front last) (walk_fault (shape name) [] (at false front last) (word ∷ words))
        (fold (walked rules []) (at false front last) (word ∷ words))
    by_word true option is other rest = rw (is, passes_dashes name front last word is, steps_dashes front last word is) (walks_behind name front last words)
    by_word false true is other rest = rw (is, other) (first_fails _ _ (turn_fails name front last word (utf8 0 word (omega arith)) is other))
    by_word false false is other rest = rw (is, other, passes_operand name front last word is other, steps_operand front last word is other) rest

-- ---- the level of a command

abbrev later_fault : Name → Held → Kinds
later_fault name h =
    or_else (settle_fault rules false h) (or_else (defaults_fault (settled rules h).rows rules) (check_fault (shape name) (finished rules h) false))

ends_well : (name : Name) (front : List Name) (last : Option Name) → later_fault name (held front last) ≡ []
unfolding clap_on_literals
ends_well name [] None = refl
ends_well name (x ∷ xs) None = refl
ends_well name [] (Some last) = refl
ends_well name (x ∷ xs) (Some last) = refl

finishes : (front : List Name) (last : Option Name) → finished rules (held front last) ≡ given_rows (all_given front last)
finishes [] None = refl
finishes (x ∷ xs) None = refl
finishes [] (Some last) = refl
finishes (x ∷ xs) (Some last) = refl

-- the words fail where they are no operands, and give them else
abbrev pub GivesOperands : Option (List Name) → Kinds → List Row → Type 0
GivesOperands None kinds rows = fails kinds ≡ true
GivesOperands (Some given) kinds rows = (kinds ≡ []) × (rows ≡ given_rows given)

pub level_gives : (name : Name) (words : List Name) → All IsUtf8 words
    → GivesOperands (operands words) (level_fault (shape name) [] nothing_held words false []) (rows_after rules [] words)
level_gives name words utf8 = go (operands words) (walk_fault (shape name) [] (walk_from nothing_held) words) (walk rules [] nothing_held words) (walks name [] None words utf8)
  where
    go : (o : Option (List Name)) (kinds : Kinds) (end : Walk) → Ends o [] kinds end → GivesOperands o (or_else kinds (later_fault name end.held)) (finished rules end.held)
    go None kinds end is = first_fails kinds _ is
    go (Some given) kinds end is = (
      ap₂ (λ k (w : Walk). or_else k (later_fault name w.held)) is.0 is.1.3 ∙ ends_well name is.1.1 is.1.2,
      ap (λ (w : Walk). finished rules w.held) is.1.3 ∙ finishes is.1.1 is.1.2 ∙ ap given_rows is.1.4,
    )
