-- What all rows of the tables have in common: each name is that of its number and of no other, and an instruction has one result at most.
use Rattle.std.proofs.Common.{◌≡◌, ℕ, ◌<◌, ◌^◌, Bool, true, false, not, cond, ◌&&◌, eqb, ltb, List, [], ◌∷◌, length, get_or, Option, Some, None, refl, ap, sym, ◌∙◌, arith}
use Rattle.std.proofs.lemmas.Bool.{and_parts, eqb-true, ltb-true}
use Rattle.std.proofs.lemmas.Str.Parse.{digit_from_value}
use Rattle.std.specs.Prelude.{find}
use Rattle.std.specs.List.{list_all}
use Rattle.std.specs.Option.{option_map}
use Rattle.std.specs.Fmt.{decimal}
use Rattle.std.specs.Str.Parse.{AllDigits}
use Rattle.gsl_instr.specs.declared.form.Form.{Form}
use Rattle.gsl_instr.specs.declared.form.Row.{Row}
use Rattle.gsl_instr.specs.declared.form.TheConstants.{TABLE}
use Rattle.gsl_instr.specs.declared.slot.Enumeration.{Enumeration}
use Rattle.gsl_instr.specs.declared.slot.Enumeration.TheVariants.{Capability, Addressing, Memory, Model, Mode, Class, Decoration, BuiltIn}
use Rattle.gsl_instr.specs.declared.slot.Slot.{Slot}
use Rattle.gsl_instr.specs.declared.slot.Slot.TheVariants.{Result, Id, Forward, Number, Named, OfDecoration, Text}
use Rattle.gsl_instr.specs.declared.slot.Rest.{Rest}
use Rattle.gsl_instr.specs.Forms.{form_of, slots, rest, next_of, is_text}
use Rattle.gsl_text.proofs.Decimals.{decimal_digits}
use Rattle.gsl_instr.specs.Parts.{is_result}
use Rattle.gsl_words.specs.declared.target.Target.{Target}
use Rattle.gsl_words.specs.declared.target.Target.TheVariants.{V10, V13}
use Rattle.gsl_asm.specs.Names.{lookup, name_in, table_of, number_of, name_of, opcode_of, opcode_name}
use Rattle.gsl_asm.proofs.Instructed.{found_in}
use Rattle.gsl_asm.proofs.Joined.{is_graphic}

-- a number that was found
abbrev is_number : Option ℕ → ℕ → Bool
is_number None n = false
is_number (Some k) n = eqb k n

number_back : (found : Option ℕ) (n : ℕ) → is_number found n ≡ true → found ≡ Some n
number_back None n e = absurd (cc)
number_back (Some k) n e = ap Some (eqb-true k n e)

-- a word that is no number and may stand in a line
abbrev pub is_name : List ℕ → Bool
is_name word = ltb 57 (get_or word 0 0) && list_all is_graphic word

-- A name that may stand in a line.
pub record IsName (word : List ℕ) : Type 0 where
  pub some : 0 < length word
  pub all : list_all is_graphic word ≡ true

name_word : (word : List ℕ) → is_name word ≡ true → IsName word
name_word [] e = absurd (cc)
name_word (b ∷ word) e = let p = and_parts (ltb 57 b) _ e in record { some = omega arith; all = p.1 }

-- Enumerants ------------------------------------------------------------------------------------------------------

row_found : (test : List ℕ × ℕ → Bool) (table : List (List ℕ × ℕ)) (n : ℕ) (name : List ℕ) → list_all test table ≡ true → name_in table n ≡ Some name → test (name, n) ≡ true
row_found test [] n name all e = absurd (cc)
row_found test (row ∷ table) n name all e =
    let p = and_parts (test row) _ all in
    elim (eqb row.1 n) as (λ t. eqb row.1 n ≡ t → cond t (Some row.0) (name_in table n) ≡ Some name → test (name, n) ≡ true) [
      | true ↦ λ same found. let w : row.0 ≡ name = cc in ap (λ k. test (name, k)) (sym (eqb-true row.1 n same)) ∙ ap (λ t. test (t, row.1)) (sym w) ∙ p.0
      | false ↦ λ other found. row_found test table n name p.1 found
    ] refl e

-- whether a row of a table is found by its name
abbrev is_row : List (List ℕ × ℕ) → List ℕ × ℕ → Bool
is_row table row = is_number (lookup table row.0) row.1 && is_name row.0

rows_are : (target : Target) (kind : Enumeration) → list_all (is_row (table_of target kind)) (table_of target kind) ≡ true
rows_are V10 Capability = refl
rows_are V10 Addressing = refl
rows_are V10 Memory = refl
rows_are V10 Model = refl
rows_are V10 Mode = refl
rows_are V10 Class = refl
rows_are V10 Decoration = refl
rows_are V10 BuiltIn = refl
rows_are V13 Capability = refl
rows_are V13 Addressing = refl
rows_are V13 Memory = refl
rows_are V13 Model = refl
rows_are V13 Mode = refl
rows_are V13 Class = refl
rows_are V13 Decoration = refl
rows_are V13 BuiltIn = refl

-- the name of an enumerant names it
pub name_back : (target : Target) (kind : Enumeration) (n : ℕ) (name : List ℕ) → name_of target kind n ≡ Some name → (number_of target kind name ≡ Some n) × IsName name
unfolding name_of number_of
name_back target kind n name e =
    let p = and_parts (is_number (lookup (table_of target kind) name) n) (is_name name) (row_found (is_row (table_of target kind)) (table_of target kind) n name (rows_are target kind) e) in
    (number_back (lookup (table_of target kind) name) n p.0, name_word name p.1)

all_names : (table : List (List ℕ × ℕ)) (whole : List (List ℕ × ℕ)) → list_all (is_row whole) table ≡ true → list_all (λ (row : List ℕ × ℕ). is_name row.0) table ≡ true
all_names [] whole all = refl
all_names (row ∷ table) whole all =
    let p = and_parts (is_row whole row) _ all in
    let q = and_parts (is_number (lookup whole row.0) row.1) (is_name row.0) p.0 in
    both _ _ q.1 (all_names table whole p.1)
  where
    both : (a b : Bool) → a ≡ true → b ≡ true → (a && b) ≡ true
    both true true e f = refl
    both true false e f = absurd (cc)
    both false b e f = absurd (cc)

-- a decimal is no name
pub decimal_no_name : (target : Target) (kind : Enumeration) (n : ℕ) → n < 2 ^ 32 → number_of target kind (decimal n) ≡ None
unfolding number_of
decimal_no_name target kind n small = by_found (lookup (table_of target kind) (decimal n)) refl
  where
    low : (ds : List ℕ) → AllDigits 10 ds → 0 < length ds → is_name ds ≡ true → ⊥
    low [] all some e = omega arith
    low (d ∷ ds) all some e = let p = and_parts (ltb 57 d) _ e in let h : 57 < d = ltb-true _ _ p.0 in omega (arith, (digit_from_value d all.0).1)

    by_found : (found : Option ℕ) → lookup (table_of target kind) (decimal n) ≡ found → found ≡ None
    by_found None is = refl
    by_found (Some k) is =
        let d = decimal_digits n small in
        absurd (low (decimal n) d.all d.some (found_in is_name (table_of target kind) (decimal n) k (all_names (table_of target kind) (table_of target kind) (rows_are target kind)) is))

-- Opcodes ---------------------------------------------------------------------------------------------------------

-- whether none of some operands is the result
abbrev pub no_result : List Slot → Bool
no_result [] = true
no_result (slot ∷ slots) = not (is_result slot) && no_result slots

-- whether the result is among the first two operands, behind an id, or nowhere
abbrev pub once : List Slot → Bool
once [] = true
once (Result ∷ slots) = no_result slots
once (Id ∷ []) = true
once (Id ∷ Result ∷ slots) = no_result slots
once (Id ∷ Id ∷ slots) = no_result slots
once (Id ∷ Forward ∷ slots) = no_result slots
once (Id ∷ Number ∷ slots) = no_result slots
once (Id ∷ Named kind ∷ slots) = no_result slots
once (Id ∷ OfDecoration ∷ slots) = no_result slots
once (Id ∷ Text ∷ slots) = no_result slots
once (Forward ∷ slots) = no_result slots
once (Number ∷ slots) = no_result slots
once (Named kind ∷ slots) = no_result slots
once (OfDecoration ∷ slots) = no_result slots
once (Text ∷ slots) = no_result slots

-- whether an operand is one word and no result
abbrev pub is_single : Slot → Bool
is_single slot = not (is_result slot) && not (is_text slot)

-- whether what follows are such operands
abbrev pub singles : Rest → Bool
singles rest = is_single (next_of rest false) && is_single (next_of rest true)

-- whether an opcode has a name that names it
abbrev has_name : ℕ → Option (List ℕ) → Bool
has_name op None = false
has_name op (Some name) = is_number (opcode_of name) op && is_name name

abbrev is_named : Row → Bool
is_named row = has_name row.op (opcode_name row.op)

abbrev is_formed : Row → Bool
is_formed row = once (slots row.form) && singles (rest row.form)

all_named : list_all is_named TABLE ≡ true
unfolding opcode_of opcode_name
all_named = refl

all_formed : list_all is_formed TABLE ≡ true
all_formed = refl

find_row : (test wanted : Row → Bool) (table : List Row) (row : Row) → list_all test table ≡ true → find wanted table ≡ Some row → (test row ≡ true) × (wanted row ≡ true)
find_row test wanted [] row all e = absurd (cc)
find_row test wanted (first ∷ table) row all e =
    let p = and_parts (test first) _ all in
    elim (wanted first) as (λ t. wanted first ≡ t → cond t (Some first) (find wanted table) ≡ Some row → (test row ≡ true) × (wanted row ≡ true)) [
      | true ↦ λ is found. let same : first ≡ row = cc in (ap test (sym same) ∙ p.0, ap wanted (sym same) ∙ is)
      | false ↦ λ other found. find_row test wanted table row p.1 found
    ] refl e

-- An opcode of the table has a name, and the operands of its form are in order.
pub record Known (op : ℕ) (form : Form) : Type 0 where
  pub name : List ℕ
  pub shown : opcode_name op ≡ Some name
  pub read : opcode_of name ≡ Some op
  pub is : IsName name
  pub order : once (slots form) ≡ true
  pub follow : singles (rest form) ≡ true

pub known : (op : ℕ) (form : Form) → form_of op ≡ Some form → Known op form
unfolding form_of
known op form e = by_row (find (λ (row : Row). eqb row.op op) TABLE) refl e
  where
    named : (row : Row) (found : Option (List ℕ)) → row.op ≡ op → row.form ≡ form → opcode_name row.op ≡ found → has_name row.op found ≡ true → is_formed row ≡ true → Known op form
    named row None o f is has formed = absurd (cc)
    named row (Some name) o f is has formed =
        let p = and_parts (is_number (opcode_of name) row.op) (is_name name) has in
        let q = and_parts (once (slots row.form)) (singles (rest row.form)) formed in
        record {
          name = name;
          shown = ap opcode_name (sym o) ∙ is;
          read = number_back (opcode_of name) row.op p.0 ∙ ap Some o;
          is = name_word name p.1;
          order = ap (λ g. once (slots g)) (sym f) ∙ q.0;
          follow = ap (λ g. singles (rest g)) (sym f) ∙ q.1;
        }

    by_row : (found : Option Row) → find (λ (row : Row). eqb row.op op) TABLE ≡ found → option_map (λ (row : Row). row.form) found ≡ Some form → Known op form
    by_row None is f = absurd (cc)
    by_row (Some row) is f =
        let a = find_row is_named (λ (r : Row). eqb r.op op) TABLE row all_named is in
        let b = find_row is_formed (λ (r : Row). eqb r.op op) TABLE row all_formed is in
        let same : row.form ≡ form = cc in
        named row (opcode_name row.op) (eqb-true row.op op a.1) same refl a.0 b.0
