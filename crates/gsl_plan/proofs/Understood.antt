-- What clap makes of the words of a command line.
use Rattle.std.proofs.Common.{◌∙◌, ◌≡◌, ◌==◌, Bool, true, false, suc, refl, sym, ap, ap₂, subst, arith, List, [], ◌∷◌, Option, Some, None, codes, option_map}
use Rattle.std.specs.Prelude.{find, fold, is_some}
use Rattle.std.specs.List.{All}
use Rattle.std.specs.Str.{IsUtf8, bytes_eq}
use Rattle.std.proofs.lemmas.Slice.Eq.{bytes_eq-Decides}
use Rattle.clap.specs.Kinds.{Kinds, or_else}
use Rattle.clap.specs.Faults.{check_fault, defaults_fault, entered_fault, fault_of, level_fault, settle_fault, turn_fault, walk_fault, word_fault}
use Rattle.clap.specs.Simple.{App, Shape, built, entered, label_of, names_of, subcommand_of}
use Rattle.clap.specs.Walk.{Names, Row, Text, Walk, answers_to, finished, idle, nothing_held, rows_after, settled, subcommand_met, walk, walk_from, walked}
use Rattle.clap.proofs.FaultLemmas.{stopped_fault}
use Rattle.clap.proofs.WalkLemmas.{walk_stopped}
use Rattle.clap.proofs.OnLiterals.{clap_on_literals}
use Rattle.gsl_plan.specs.Plan.{Arguments, Name, aimed, is_option, operands}
use Rattle.gsl_plan.specs.Found.{arguments_in, grammar, taken}
use Rattle.gsl_plan.proofs.Aimed.{Gives, aiming_gives, aiming_shape}
use Rattle.gsl_plan.proofs.Walked.{GivesOperands, KnowsHelp, fails, first_fails, given_rows, known, level_gives, no_flag, option_fails, rules, shape}

abbrev app : App
app = built grammar

abbrev names : Names
names = names_of app

knows_help : KnowsHelp app.top.rules
knows_help = (λ name. known (bytes_eq (codes "help") name), λ x. known (104 == x))

-- the words fail where they are no command, and are entered with its arguments else
abbrev pub Understands : Option (Name × Arguments) → Kinds → Option (Text × List Row) → Type 0
Understands None kinds sub = fails kinds ≡ true
Understands (Some p) kinds sub = (kinds ≡ []) × (option_map (λ q. (q.0, arguments_in q.1)) sub ≡ Some p)

abbrev start : Walk
start = walk_from nothing_held

-- what comes of the walk
abbrev whole : Kinds → Walk → Kinds
whole kinds end = or_else kinds (or_else (entered_fault app end.stopped)
    (or_else (settle_fault app.top.rules false end.held) (or_else (defaults_fault (settled app.top.rules end.held).rows app.top.rules)
    (check_fault app.top (finished app.top.rules end.held) (is_some (entered app end.stopped))))))

whole_is : (name : Name) (words : List Name) → fault_of grammar (name ∷ words) ≡ whole (walk_fault app.top names start words) (walk app.top.rules names nothing_held words)
whole_is name words = refl

-- ---- a command

module _ (command : Name) (met : subcommand_met names idle command ≡ Some command) (is_help : bytes_eq command (codes "help") ≡ false)
    (s : Shape) (is_named : s.name ≡ command) (enters : find (λ s. answers_to command (label_of s)) app.subs ≡ Some s) where
  entered_walk : (words : List Name) → walk app.top.rules names nothing_held (command ∷ words) ≡ record start { stopped = Some (command, words) }
  unfolding walked
  entered_walk words = ap (λ (w : Walk). fold (walked app.top.rules names) w words) met_walk ∙ sym (walk_stopped app.top.rules names start command [] words)
    where
      met_walk : walked app.top.rules names start command ≡ record start { stopped = Some (command, []) }
      met_walk = rw met refl

  entered_well : (words : List Name) → walk_fault app.top names start (command ∷ words) ≡ []
  unfolding walk_fault walked
  entered_well words = rw (met, is_help) (stopped_fault app.top names start (command, []) words)

  below : (words : List Name) → whole [] (record start { stopped = Some (command, words) }) ≡ or_else (level_fault s [] nothing_held words false []) []
  unfolding defaults_fault
  below words = rw enters refl

  fault_is : (name : Name) (words : List Name) → fault_of grammar (name ∷ command ∷ words) ≡ or_else (level_fault s [] nothing_held words false []) []
  fault_is name words = ap₂ whole (entered_well words) (entered_walk words) ∙ below words

  subcommand_is : (name : Name) (words : List Name) → subcommand_of grammar (name ∷ command ∷ words) ≡ Some (s.name, rows_after s.rules [] words)
  subcommand_is name words = ap (λ (w : Walk). entered app w.stopped) (entered_walk words) ∙ rw enters refl

  enters_with : (name : Name) (words : List Name) (o : Option Arguments) → Gives o (level_fault s [] nothing_held words false []) (rows_after s.rules [] words)
      → Understands (option_map (λ p. (command, p)) o) (fault_of grammar (name ∷ command ∷ words)) (subcommand_of grammar (name ∷ command ∷ words))
  enters_with name words None is = ap fails (fault_is name words) ∙ first_fails _ _ is
  enters_with name words (Some p) is = (
    fault_is name words ∙ ap (λ kinds. or_else kinds []) is.0,
    ap (option_map (λ q. (q.0, arguments_in q.1))) (subcommand_is name words) ∙ ap₂ (λ n a. Some (n, a)) is_named is.1,
  )

given_back : (given : List Name) → arguments_in (given_rows given) ≡ (None, given)
given_back [] = refl
given_back (x ∷ xs) = refl

-- a command that takes operands alone
operands_give : (command : Name) (words : List Name) → All IsUtf8 words
    → Gives (option_map (λ more. (None, more)) (operands words)) (level_fault (shape command) [] nothing_held words false []) (rows_after rules [] words)
operands_give command words utf8 = go (operands words) _ _ (level_gives command words utf8)
  where
    go : (o : Option (List Name)) (kinds : Kinds) (rows : List Row) → GivesOperands o kinds rows → Gives (option_map (λ more. (None, more)) o) kinds rows
    go None kinds rows is = is
    go (Some given) kinds rows is = (is.0, ap arguments_in is.1 ∙ given_back given)

-- ---- any other word

helps : (command : Name) → subcommand_met names idle command ≡ Some (codes "help") → fails (turn_fault app.top names start command) ≡ true
helps command met = rw met refl

alone_fails : (name : Name) (words : List Name) (command : Name) → subcommand_met names idle command ≡ None → bytes_eq command (codes "--") ≡ true
    → fails (fault_of grammar (name ∷ command ∷ words)) ≡ true
unfolding clap_on_literals
alone_fails name [] command none is = rw (none, is) refl
alone_fails name (word ∷ words) command none is = rw (none, is) refl

stray_fails : (command : Name) → subcommand_met names idle command ≡ None → bytes_eq command (codes "--") ≡ false → is_option command ≡ false
    → fails (turn_fault app.top names start command) ≡ true
stray_fails command none dashes plain = rw (none, dashes, (no_flag command plain).0, (no_flag command plain).1) refl

flag_fails : (command : Name) → IsUtf8 command → subcommand_met names idle command ≡ None → bytes_eq command (codes "--") ≡ false → is_option command ≡ true
    → fails (turn_fault app.top names start command) ≡ true
flag_fails command utf8 none dashes is =
    let refused : fails (word_fault app.top names false idle command nothing_held) ≡ true =
    rw (none, dashes) (option_fails app.top.rules command nothing_held refl knows_help utf8 dashes is) in
    first_fails _ _ refused

turn_first : (name command : Name) (words : List Name) → fails (turn_fault app.top names start command) ≡ true → fails (fault_of grammar (name ∷ command ∷ words)) ≡ true
unfolding walk_fault
turn_first name command words is = first_fails _ _ (first_fails _ _ is)

other_fails : (name command : Name) (words : List Name) → IsUtf8 command → subcommand_met names idle command ≡ None → fails (fault_of grammar (name ∷ command ∷ words)) ≡ true
other_fails name command words utf8 none = go (bytes_eq command (codes "--")) (is_option command) refl refl
  where
    go : (dashes option : Bool) → bytes_eq command (codes "--") ≡ dashes → is_option command ≡ option → fails (fault_of grammar (name ∷ command ∷ words)) ≡ true
    go true option is other = alone_fails name words command none is
    go false true is other = turn_first name command words (flag_fails command utf8 none is other)
    go false false is other = turn_first name command words (stray_fails command none is other)

-- ---- all words

abbrev At : Name → Name → List Name → Type 0
At name command words = Understands (taken (name ∷ command ∷ words)) (fault_of grammar (name ∷ command ∷ words)) (subcommand_of grammar (name ∷ command ∷ words))

by_command : (name command : Name) (words : List Name) → IsUtf8 command → All IsUtf8 words → At name command words
by_command name command words first utf8 =
    go (bytes_eq (codes "compile") command) (bytes_eq (codes "dis") command) (bytes_eq (codes "asm") command) (bytes_eq (codes "check") command)
    (bytes_eq (codes "exec") command) (bytes_eq (codes "run") command) (bytes_eq (codes "help") command) refl refl refl refl refl refl refl
  where
    named : (known : Name) → bytes_eq known command ≡ true → At name known words → At name command words
    named known is here = subst (λ w. At name w words) ((bytes_eq-Decides known command).0 is) here

    with_operands : (known : Name) → subcommand_met names idle known ≡ Some known → bytes_eq known (codes "help") ≡ false
        → find (λ s. answers_to known (label_of s)) app.subs ≡ Some (shape known)
        → Understands (option_map (λ p. (known, p)) (option_map (λ more. (None, more)) (operands words))) (fault_of grammar (name ∷ known ∷ words)) (subcommand_of grammar (name ∷ known ∷ words))
    with_operands known met is_help enters = enters_with known met is_help (shape known) refl enters name words _ (operands_give known words utf8)

    go : (c d a k x r h : Bool) → bytes_eq (codes "compile") command ≡ c → bytes_eq (codes "dis") command ≡ d → bytes_eq (codes "asm") command ≡ a
        → bytes_eq (codes "check") command ≡ k → bytes_eq (codes "exec") command ≡ x → bytes_eq (codes "run") command ≡ r → bytes_eq (codes "help") command ≡ h → At name command words
    go true d a k x r h is_c is_d is_a is_k is_x is_r is_h = named (codes "compile") is_c (enters_with (codes "compile") refl refl aiming_shape refl refl name words (aimed false words) (aiming_gives words utf8))
    go false true a k x r h is_c is_d is_a is_k is_x is_r is_h = named (codes "dis") is_d (with_operands (codes "dis") refl refl refl)
    go false false true k x r h is_c is_d is_a is_k is_x is_r is_h = named (codes "asm") is_a (with_operands (codes "asm") refl refl refl)
    go false false false true x r h is_c is_d is_a is_k is_x is_r is_h = named (codes "check") is_k (with_operands (codes "check") refl refl refl)
    go false false false false true r h is_c is_d is_a is_k is_x is_r is_h = named (codes "exec") is_x (with_operands (codes "exec") refl refl refl)
    go false false false false false true h is_c is_d is_a is_k is_x is_r is_h = named (codes "run") is_r (with_operands (codes "run") refl refl refl)
    go false false false false false false true is_c is_d is_a is_k is_x is_r is_h =
        let met : subcommand_met names idle command ≡ Some (codes "help") = rw (is_c, is_d, is_a, is_k, is_x, is_r, is_h) refl in
        rw (is_c, is_d, is_a, is_k, is_x, is_r) (turn_first name command words (helps command met))
    go false false false false false false false is_c is_d is_a is_k is_x is_r is_h =
        let met : subcommand_met names idle command ≡ None = rw (is_c, is_d, is_a, is_k, is_x, is_r, is_h) refl in
        rw (is_c, is_d, is_a, is_k, is_x, is_r) (other_fails name command words first met)

pub understood : (words : List Name) → All IsUtf8 words → Understands (taken words) (fault_of grammar words) (subcommand_of grammar words)
unfolding clap_on_literals
understood [] utf8 = refl
understood (name ∷ []) utf8 = refl
understood (name ∷ command ∷ words) utf8 =
    by_command name command words (utf8 1 command (omega arith)) (λ k d below. utf8 (suc (suc k)) d (omega arith))
