-- How the code reads a condition; the rule is in `Grammar.antt`, and the law `conditions_are_read` ties the two.
-- Reading a condition from left to right: a stack of what waits for an operand, the innermost first, and the operand that was
-- read where none is due. What was read is joined as soon as what follows binds no tighter.
use Rattle.std.specs.Prelude.{ℕ, Bool, true, false, nat_le, codes, List, [], ◌∷◌, Option, Some, None, Ok, Err, if◌then◌else◌}
use Rattle.std.specs.Option.{option_map}
use Rattle.std.specs.Str.{bytes_eq}
use Rattle.gsl_base.specs.declared.fault.Code.TheVariants.{E0204}
use Rattle.gsl_base.specs.declared.fault.Place.{Place}
use Rattle.gsl_base.specs.declared.token.Punct.{Punct}
use Rattle.gsl_macros.specs.declared.stream.Hid.{Hid}
use Rattle.gsl_macros.specs.Expanding.{Seen, at}
use Rattle.gsl_macros.specs.Spelling.{word_of, punct_of}
use Rattle.gsl_conditions.specs.declared.operator.Binary.{Binary}
use Rattle.gsl_conditions.specs.declared.operator.Prefix.{Prefix}
use Rattle.gsl_conditions.specs.declared.operator.Prefix.TheVariants as due
use Rattle.gsl_conditions.specs.declared.operator.Infix.{Infix}
use Rattle.gsl_conditions.specs.declared.operator.Infix.TheVariants as after
use Rattle.gsl_conditions.specs.declared.reader.Entry.{Entry}
use Rattle.gsl_conditions.specs.declared.reader.Entry.TheVariants.{Open, Before, Behind}
use Rattle.gsl_conditions.specs.declared.reader.Reader.{Reader}
use Rattle.gsl_conditions.specs.Operators.{prefix_of, infix_of, level}
use Rattle.gsl_conditions.specs.Values.{Value, literal, unary_value, binary_value}

abbrev pub is_defined : List ℕ → Bool
is_defined word = bytes_eq word (codes "defined")

-- whether what waits takes an operand before an operator that binds so tightly
abbrev pub binds : ℕ → Entry → Bool
binds least Open = false
binds least (Before op) = true
binds least (Behind op place left) = nat_le least (level op)

abbrev pub top_binds : ℕ → List Entry → Bool
top_binds least [] = false
top_binds least (entry ∷ stack) = binds least entry

-- the value of what waited, with its operand
abbrev pub joined : Entry → Value → Value
joined Open x = x
joined (Before op) x = unary_value op x
joined (Behind op place left) x = binary_value op place left x

-- the operand is joined with all that binds it at least so tightly
unfoldable pub reduced : ℕ → List Entry → Value → List Entry × Value
reduced least [] x = ([], x)
reduced least (entry ∷ stack) x = if binds least entry then reduced least stack (joined entry x) else (entry ∷ stack, x)

-- ---- tokens

abbrev pub start : Reader
start = record { stack = []; value = None }

abbrev pub with : Reader → Value → Reader
with r x = record { stack = r.stack; value = Some x }

abbrev pub waiting : Reader → Entry → Reader
waiting r entry = record { stack = entry ∷ r.stack; value = None }

-- a name that is left has no value; the word `defined` stands wrong
abbrev pub name : Reader → Place → List ℕ → Option Reader
name r place word = if is_defined word then None else Some (with r (Err (at place E0204)))

abbrev pub prefixed : Reader → Prefix → Option Reader
prefixed r due.Opens = Some (waiting r Open)
prefixed r (due.Sign op) = Some (waiting r (Before op))
prefixed r due.Wrong = None

abbrev pub operand_by : Reader → Hid → Option (List ℕ) → Option Punct → Option Reader
operand_by r t (Some word) punct = name r t.place word
operand_by r t None (Some punct) = prefixed r (prefix_of punct)
operand_by r t None None = option_map (λ n. with r (Ok n)) (literal t.place t.spelled)

-- a token where an operand is due
abbrev pub operand : Reader → Hid → Option Reader
operand r t = operand_by r t (word_of t.spelled) (punct_of t.spelled)

abbrev pub opened : List Entry × Value → Option Reader
opened ([], x) = None
opened (Open ∷ stack, x) = Some (record { stack = stack; value = Some x })
opened (Before op ∷ stack, x) = None
opened (Behind op place left ∷ stack, x) = None

-- what stood in parentheses is an operand
abbrev pub closed : Reader → Value → Option Reader
closed r x = opened (reduced 0 r.stack x)

abbrev pub behind_on : Binary → Place → List Entry × Value → Reader
behind_on op place s = record { stack = Behind op place s.1 ∷ s.0; value = None }

-- an operator joins what stands before it as long as that binds at least as tightly
abbrev pub behind : Reader → Binary → Place → Value → Reader
behind r op place x = behind_on op place (reduced (level op) r.stack x)

abbrev pub operator_by : Reader → Value → Place → Infix → Option Reader
operator_by r x place after.Closes = closed r x
operator_by r x place (after.Joins op) = Some (behind r op place x)
operator_by r x place after.Wrong = None

abbrev pub operator_on : Reader → Value → Place → Option Punct → Option Reader
operator_on r x place None = None
operator_on r x place (Some punct) = operator_by r x place (infix_of punct)

-- a token behind an operand
abbrev pub operator : Reader → Value → Hid → Option Reader
operator r x t = operator_on r x t.place (punct_of t.spelled)

abbrev pub step_by : Reader → Hid → Option Value → Option Reader
step_by r t None = operand r t
step_by r t (Some x) = operator r x t

-- the reader behind a token, if it may stand there
abbrev pub step : Reader → Hid → Option Reader
step r t = step_by r t r.value

abbrev pub ended : List Entry × Value → Option Value
ended ([], x) = Some x
ended (entry ∷ stack, x) = None

abbrev pub end_by : List Entry → Option Value → Option Value
end_by stack None = None
end_by stack (Some x) = ended (reduced 0 stack x)

-- the value of a condition that ends here, if it may
abbrev pub end : Reader → Option Value
end r = end_by r.stack r.value

abbrev pub read_on : (Reader → Option Value) → Option Reader → Option Value
read_on later None = None
read_on later (Some r) = later r

-- the value of a condition, if it is well formed
unfoldable pub read : Reader → Seen → Option Value
read r [] = end r
read r (t ∷ tokens) = read_on (λ r. read r tokens) (step r t)
