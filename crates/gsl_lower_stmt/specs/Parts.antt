-- What statements of one kind each are lowered to, over what their parts are lowered to (GLSL 4.50, chapter 6; SPIR-V 1.0, 2.11).
use Rattle.std.specs.Prelude.{ℕ, Bool, true, false, if◌then◌else◌, List, [], ◌∷◌, ◌++◌, Option, Some, None}
use Rattle.gsl_instr.specs.declared.op.TheConstants as op
use Rattle.gsl_lower_holders.specs.Flow.{Emit, ◌>>=◌, each, fresh, given, lacking, opening, putting_here, told}
use Rattle.gsl_lower_stmt.specs.declared.exits.Exits.{Exits}
use Rattle.gsl_lower_stmt.specs.declared.labels.Fork.{Fork}
use Rattle.gsl_lower_stmt.specs.declared.labels.LoopLabels.{LoopLabels}
use Rattle.gsl_lower_stmt.specs.declared.labels.SwitchLabels.{SwitchLabels}

-- What a statement is lowered to, by where `break` and `continue` lead; and whether it leaves, so that nothing behind it is reached.
pub record LowerStmt : Type 0 where
  pub leaves : Bool
  pub run : Exits → Emit (Unit {0})

-- an arm of a `switch`
pub record LowerArm : Type 0 where
  pub labels : List ℕ
  pub is_default : Bool
  pub leaves : Bool
  pub run : Exits → Emit (Unit {0})

-- ---- ends of blocks

abbrev pub branch : ℕ → Emit (Unit {0})
branch label = putting_here op.BRANCH (label ∷ [])

-- a block goes on at a label, unless it was left
unfoldable pub seal : Bool → ℕ → Emit (Unit {0})
seal true label = given tt
seal false label = branch label

-- to where an exit leads
unfoldable pub leave_by : Option ℕ → Emit (Unit {0})
leave_by None = lacking
leave_by (Some label) = branch label

-- a block ends in a choice between two, and one begins
abbrev pub choosing : ℕ → ℕ → ℕ → ℕ → Emit (Unit {0})
choosing x first other end = putting_here op.SELECTION_MERGE (end ∷ 0 ∷ []) >>= (λ done. putting_here op.BRANCH_CONDITIONAL (x ∷ first ∷ other ∷ []) >>= (λ done. opening first))

-- ---- one behind the other

-- what stands behind a statement that leaves is dropped
abbrev pub unless : Bool → Emit (Unit {0}) → Emit (Unit {0})
unless true rest = given tt
unless false rest = rest

unfoldable pub in_turn : List LowerStmt → Exits → Emit (Unit {0})
in_turn [] exits = given tt
in_turn (s ∷ ss) exits = s.run exits >>= (λ done. unless s.leaves (in_turn ss exits))

-- ---- `if`

-- two blocks that meet behind it
unfoldable pub begin_if : ℕ → Emit Fork
begin_if x = fresh >>= (λ first. fresh >>= (λ other. fresh >>= (λ end. choosing x first other end >>= (λ done. given (record { other = other; end = end })))))

unfoldable pub begin_else : Fork → Bool → Emit (Unit {0})
begin_else f left = seal left f.end >>= (λ done. opening f.other)

unfoldable pub end_if : Fork → Bool → Emit (Unit {0})
end_if f left = seal left f.end >>= (λ done. opening f.end)

-- ---- loops

abbrev pub loop_labels : ℕ → ℕ → ℕ → ℕ → ℕ → LoopLabels
loop_labels head first body next end = record { head = head; first = first; body = body; next = next; end = end }

unfoldable pub five_labels : Emit LoopLabels
five_labels = fresh >>= (λ head. fresh >>= (λ first. fresh >>= (λ body. fresh >>= (λ next. fresh >>= (λ end. given (loop_labels head first body next end))))))

-- the head of a loop has its merge and leads to its first block; `continue` leads to its step
unfoldable pub enter_loop : LoopLabels → Emit (Unit {0})
enter_loop l =
    branch l.head >>= (λ a. opening l.head >>= (λ b. putting_here op.LOOP_MERGE (l.end ∷ l.next ∷ 0 ∷ []) >>= (λ c. branch l.first >>= (λ d. opening l.first))))

unfoldable pub begin_loop : Emit LoopLabels
begin_loop = five_labels >>= (λ l. enter_loop l >>= (λ done. given l))

-- A test before the body is a selection whose merge is the body, so that the body is no deeper for it.
unfoldable pub enter_body : LoopLabels → ℕ → Emit (Unit {0})
enter_body l x = choosing x l.body l.end l.body

abbrev pub test_first : Option (Emit ℕ) → LoopLabels → Emit (Unit {0})
test_first None l = given tt
test_first (Some value) l = value >>= enter_body l

unfoldable pub begin_step : LoopLabels → Bool → Emit (Unit {0})
begin_step l left = seal left l.next >>= (λ done. opening l.next)

abbrev pub stepped : Option (Emit ℕ) → Emit (Unit {0})
stepped None = given tt
stepped (Some value) = value >>= (λ x. given tt)

unfoldable pub again_if : LoopLabels → ℕ → Emit (Unit {0})
again_if l x = putting_here op.BRANCH_CONDITIONAL (x ∷ l.head ∷ l.end ∷ [])

abbrev pub test_last : Option (Emit ℕ) → LoopLabels → Emit (Unit {0})
test_last None l = branch l.head
test_last (Some value) l = value >>= again_if l

abbrev pub in_loop : LoopLabels → Exits
in_loop l = record { break_to = Some l.end; continue_to = Some l.next }

abbrev pub before_body : Bool → Option (Emit ℕ) → LoopLabels → Emit (Unit {0})
before_body true test l = given tt
before_body false test l = test_first test l

abbrev pub behind_step : Bool → Option (Emit ℕ) → LoopLabels → Emit (Unit {0})
behind_step true test l = test_last test l
behind_step false test l = branch l.head

abbrev pub turning : Bool → Option (Emit ℕ) → Option (Emit ℕ) → LowerStmt → LoopLabels → Emit (Unit {0})
turning last test step body l =
    before_body last test l >>= (λ a. body.run (in_loop l) >>= (λ b. begin_step l body.leaves >>= (λ c. stepped step >>= (λ d. behind_step last test l))))

abbrev pub looped : Bool → Option (Emit ℕ) → Option (Emit ℕ) → LowerStmt → Emit (Unit {0})
looped last test step body = begin_loop >>= (λ l. turning last test step body l >>= (λ done. opening l.end))

-- ---- `switch`

-- literals, each with the label of their arm
abbrev pub pairs : ℕ → List ℕ → List ℕ
pairs label [] = []
pairs label (word ∷ words) = word ∷ label ∷ pairs label words

abbrev pub targets : List (List ℕ) → List ℕ → List ℕ
targets (words ∷ more) (label ∷ labels) = pairs label words ++ targets more labels
targets _ _ = []

-- the label of the arm that is the default, and without one the end
abbrev pub default_of : List Bool → List ℕ → ℕ → ℕ
default_of (is ∷ more) (label ∷ labels) end = if is then label else default_of more labels end
default_of _ _ end = end

-- a label for each arm, the default too
unfoldable pub begin_switch : List (List ℕ) → List Bool → ℕ → Emit SwitchLabels
begin_switch words defaults x =
    each (λ one. fresh) words >>= (λ labels. fresh >>= (λ end. putting_here op.SELECTION_MERGE (end ∷ 0 ∷ []) >>= (λ a.
    putting_here op.SWITCH (x ∷ default_of defaults labels end ∷ targets words labels) >>= (λ b. given (record { arms = labels; end = end })))))

-- `break` leaves the `switch`, and `continue` the loop around it
abbrev pub in_switch : ℕ → Exits → Exits
in_switch end exits = record { break_to = Some end; continue_to = exits.continue_to }

-- the label of the next arm, and behind the last one the end
abbrev pub next_or : ℕ → List ℕ → ℕ
next_or end [] = end
next_or end (label ∷ labels) = label

-- arms, each of which falls through to the next
unfoldable pub falling : ℕ → List ℕ → List LowerArm → Exits → Emit (Unit {0})
falling end labels [] exits = given tt
falling end [] (arm ∷ arms) exits = given tt
falling end (label ∷ labels) (arm ∷ arms) exits =
    opening label >>= (λ a. arm.run (in_switch end exits) >>= (λ b. seal arm.leaves (next_or end labels) >>= (λ c. falling end labels arms exits)))

-- ---- the rest

abbrev pub returned : Option (Emit ℕ) → Emit (Unit {0})
returned None = putting_here op.RETURN []
returned (Some value) = value >>= (λ x. putting_here op.RETURN_VALUE (x ∷ []))

-- a local variable begins with a value
unfoldable pub begins_with : ℕ → ℕ → Emit (Unit {0})
begins_with number v = told (λ place. place.locals) number >>= (λ id. putting_here op.STORE (id ∷ v ∷ []))
