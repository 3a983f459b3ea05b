-- Instructions are read where a line says them, and nowhere else.
use Rattle.std.proofs.Common.{◌≡◌, ℕ, ◌+◌, ◌^◌, ◌<◌, Bool, true, false, not, cond, eqb, ltb, List, [], ◌∷◌, ◌++◌, length, get_or, map, Option, Some, None, refl, ap, sym, subst, ◌∙◌, append_assoc, codes}
use Rattle.std.proofs.lemmas.Bool.{cond-true, cond-false, and_parts, ltb-true, lt-ltb, not-true}
use Rattle.std.proofs.lemmas.Slice.Eq.{bytes_eq-Decides}
use Rattle.std.specs.List.{list_all}
use Rattle.std.specs.Str.{bytes_eq}
use Rattle.gsl_instr.specs.declared.form.Form.{Form}
use Rattle.gsl_instr.specs.declared.slot.Slot.{Slot}
use Rattle.gsl_instr.specs.declared.slot.Rest.{Rest}
use Rattle.gsl_instr.specs.Forms.{form_of, slots, rest, allows, next_of}
use Rattle.gsl_text.specs.Numbers.{◌>>=◌, natural}
use Rattle.gsl_instr.specs.Parts.{is_result}
use Rattle.gsl_words.specs.declared.target.Target.{Target}
use Rattle.gsl_words.specs.declared.module.Instr.{Instr}
use Rattle.gsl_asm.specs.declared.names.TheConstants.{OPCODES_A, OPCODES_B}
use Rattle.gsl_asm.specs.declared.place.Place.{Place}
use Rattle.gsl_asm.specs.declared.place.Place.TheVariants.{Nowhere, First, Second}
use Rattle.gsl_asm.specs.declared.word.Word.{Word}
use Rattle.gsl_asm.specs.declared.word.Word.TheVariants.{Plain, Quoted}
use Rattle.gsl_asm.specs.Names.{lookup, or_else, opcode_of}
use Rattle.gsl_asm.specs.Operands.{id_of, IsOperand}
use Rattle.gsl_asm.specs.Instructions.{last_of, place_by, place_of, AreMore, AreOperands, IsLine, IsInstr}
use Rattle.gsl_asm.specs.Reading.{operand_of, before, more_of, fixed_of, ahead, Fixed, args_of, behind_fixed, counted, instr_with, placed, formed, named, behind_result, instr_of}
use Rattle.gsl_asm.proofs.Binds.{bind_some, cond_some, map_some}
use Rattle.gsl_asm.proofs.Operated.{operand_read, operand_is}

-- Operands -------------------------------------------------------------------------------------------------------

pub more_read : (target : Target) (r : Rest) (second : Bool) (last : ℕ) (words : List Word) (args : List ℕ) → AreMore target r second last words args → more_of target r second last words ≡ Some args
unfolding more_of
more_read target r second last words args (AreMore.end _ _) = refl
more_read target r second last words all (AreMore.more _ _ word words' args more _ op later is) =
    ap (λ f. f >>= λ a. before a (more_of target r (not second) (last_of a) words')) (operand_read target last (next_of r second) word args op)
    ∙ ap (before args) (more_read target r (not second) (last_of args) words' more later) ∙ ap Some (sym is)

more_is : (target : Target) (r : Rest) (second : Bool) (last : ℕ) (words : List Word) (args : List ℕ) → more_of target r second last words ≡ Some args → AreMore target r second last words args
unfolding more_of
more_is target r second last [] args e = let same : [] ≡ args = cc in subst (AreMore target r second last []) same (AreMore.end second last)
more_is target r second last (word ∷ words) all e =
    let o = bind_some (operand_of target last (next_of r second) word) (λ a. before a (more_of target r (not second) (last_of a) words)) all e in
    let m = map_some (λ more. o.0 ++ more) (more_of target r (not second) (last_of o.0) words) all o.2 in
    AreMore.more second last word words o.0 m.0 all (operand_is target last (next_of r second) word o.0 o.1) (more_is target r (not second) (last_of o.0) words m.0 m.1) (sym m.2)

-- operands in front of all others
ahead_read : (target : Target) (r : Rest) (args more : List ℕ) (found : Option Fixed) → (found >>= behind_fixed target r) ≡ Some more → (ahead args found >>= behind_fixed target r) ≡ Some (args ++ more)
ahead_read target r args more None e = absurd (cc)
ahead_read target r args more (Some f) e =
    let m = bind_some (more_of target r false f.1 f.2) (counted r f.0) more e in
    let c = cond_some (allows r (length m.0)) (f.0 ++ m.0) more m.2 in
    ap (λ b. b >>= counted r (args ++ f.0)) m.1 ∙ cond-true _ _ _ c.0 ∙ ap Some (append_assoc args f.0 m.0 ∙ ap (λ l. args ++ l) c.1)

ahead_is : (target : Target) (r : Rest) (args all : List ℕ) (found : Option Fixed) → (ahead args found >>= behind_fixed target r) ≡ Some all →
    (more : List ℕ) × ((found >>= behind_fixed target r) ≡ Some more) × (all ≡ args ++ more)
ahead_is target r args all None e = absurd (cc)
ahead_is target r args all (Some f) e =
    let m = bind_some (more_of target r false f.1 f.2) (counted r (args ++ f.0)) all e in
    let c = cond_some (allows r (length m.0)) ((args ++ f.0) ++ m.0) all m.2 in
    (f.0 ++ m.0, ap (λ b. b >>= counted r f.0) m.1 ∙ cond-true _ _ _ c.0, sym c.1 ∙ append_assoc args f.0 m.0)

operands_read : (target : Target) (r : Rest) (slots : List Slot) (last : ℕ) (words : List Word) (args : List ℕ) → AreOperands target r slots last words args →
    (fixed_of target slots last words >>= behind_fixed target r) ≡ Some args
unfolding fixed_of
operands_read target r slots last words args (AreOperands.behind _ _ _ are few) = ap (λ b. b >>= counted r []) (more_read target r false last words args are) ∙ cond-true _ _ _ few
operands_read target r slots last words all (AreOperands.fixed slot slots' _ word words' args more _ op later is) =
    ap (λ f. (f >>= λ a. ahead a (fixed_of target slots' (last_of a) words')) >>= behind_fixed target r) (operand_read target last slot word args op)
    ∙ ahead_read target r args more (fixed_of target slots' (last_of args) words') (operands_read target r slots' (last_of args) words' more later) ∙ ap Some (sym is)

operands_are : (target : Target) (r : Rest) (slots : List Slot) (last : ℕ) (words : List Word) (args : List ℕ) → (fixed_of target slots last words >>= behind_fixed target r) ≡ Some args →
    AreOperands target r slots last words args
unfolding fixed_of
operands_are target r [] last words args e =
    let m = bind_some (more_of target r false last words) (counted r []) args e in
    let c = cond_some (allows r (length m.0)) m.0 args m.2 in
    subst (AreOperands target r [] last words) c.1 (AreOperands.behind last words m.0 (more_is target r false last words m.0 m.1) c.0)
operands_are target r (slot ∷ slots) last [] args e = absurd (cc)
operands_are target r (slot ∷ slots) last (word ∷ words) all e =
    let f = bind_some (operand_of target last slot word >>= λ a. ahead a (fixed_of target slots (last_of a) words)) (behind_fixed target r) all e in
    let o = bind_some (operand_of target last slot word) (λ a. ahead a (fixed_of target slots (last_of a) words)) f.0 f.1 in
    let a = ahead_is target r o.0 all (fixed_of target slots (last_of o.0) words) (ap (λ b. b >>= behind_fixed target r) o.2 ∙ f.2) in
    AreOperands.fixed slot slots last word words o.0 a.0 all (operand_is target last slot word o.0 o.1) (operands_are target r slots (last_of o.0) words a.0 a.1) a.2

pub args_read : (target : Target) (form : Form) (words : List Word) (args : List ℕ) → AreOperands target (rest form) (slots form) 0 words args → args_of target form words ≡ Some args
unfolding args_of
args_read target form words args are = operands_read target (rest form) (slots form) 0 words args are

args_are : (target : Target) (form : Form) (words : List Word) (args : List ℕ) → args_of target form words ≡ Some args → AreOperands target (rest form) (slots form) 0 words args
unfolding args_of
args_are target form words args e = operands_are target (rest form) (slots form) 0 words args e

-- Names and results ------------------------------------------------------------------------------------------------

-- what all names of a table have in common is so of the name that is found
pub found_in : (test : List ℕ → Bool) (table : List (List ℕ × ℕ)) (name : List ℕ) (number : ℕ) → list_all (λ (row : List ℕ × ℕ). test row.0) table ≡ true → lookup table name ≡ Some number → test name ≡ true
found_in test [] name number all e = absurd (cc)
found_in test (row ∷ table) name number all e =
    let p = and_parts (test row.0) _ all in
    elim (bytes_eq row.0 name) as (λ t. bytes_eq row.0 name ≡ t → cond t (Some row.1) (lookup table name) ≡ Some number → test name ≡ true) [
      | true ↦ λ same found. ap test (sym ((bytes_eq-Decides row.0 name).0 same)) ∙ p.0
      | false ↦ λ other found. found_in test table name number p.1 found
    ] refl e

-- a word that begins as no id does
abbrev pub no_id : List ℕ → Bool
no_id word = not (eqb (get_or word 0 0) 37)

either_table : (test : List ℕ → Bool) (a b : List (List ℕ × ℕ)) (name : List ℕ) (number : ℕ) → list_all (λ (row : List ℕ × ℕ). test row.0) a ≡ true → list_all (λ (row : List ℕ × ℕ). test row.0) b ≡ true →
    (first : Option ℕ) → lookup a name ≡ first → or_else first (lookup b name) ≡ Some number → test name ≡ true
either_table test a b name number all_a all_b None is e = found_in test b name number all_b e
either_table test a b name number all_a all_b (Some n) is e = found_in test a name n all_a is

-- the name of an opcode is no id
name_no_id : (name : List ℕ) (op : ℕ) → opcode_of name ≡ Some op → eqb (get_or name 0 0) 37 ≡ false
unfolding opcode_of
name_no_id name op e =
    not-true _ (either_table no_id (map (λ row. (row.0.now, row.1)) OPCODES_A) (map (λ row. (row.0.now, row.1)) OPCODES_B) name op refl refl (lookup (map (λ row. (row.0.now, row.1)) OPCODES_A) name) refl e)

id_first : (word : List ℕ) (n : ℕ) → id_of word ≡ Some n → eqb (get_or word 0 0) 37 ≡ true
id_first [] n e = absurd (cc)
id_first (b ∷ word) n e = elim (eqb b 37) as (λ t. cond t (natural 10 word) None ≡ Some n → t ≡ true) [ true ↦ λ found. refl | false ↦ λ found. absurd (cc) ] e

result_first : (target : Target) (last : ℕ) (slot : Slot) (word args : List ℕ) → is_result slot ≡ true → IsOperand target last slot (Plain word) args → eqb (get_or word 0 0) 37 ≡ true
result_first target last slot word args is (IsOperand.result _ n e) = id_first word n e
result_first target last slot word args is (IsOperand.id _ n e) = absurd (cc)
result_first target last slot word args is (IsOperand.forward _ n e) = absurd (cc)
result_first target last slot word args is (IsOperand.number _ n e) = absurd (cc)
result_first target last slot word args is (IsOperand.enumerant kind _ n e) = absurd (cc)
result_first target last slot word args is (IsOperand.built_in _ n b e) = absurd (cc)
result_first target last slot word args is (IsOperand.literal _ n b e) = absurd (cc)

by_first : (a b : Bool) → place_by a b ≡ First → a ≡ true
by_first true b e = refl
by_first false true e = absurd (cc)
by_first false false e = absurd (cc)

by_second : (a b : Bool) → place_by a b ≡ Second → b ≡ true
by_second true b e = absurd (cc)
by_second false true e = refl
by_second false false e = absurd (cc)

first_place : (slot : Slot) (slots : List Slot) → place_of (slot ∷ slots) ≡ First → is_result slot ≡ true
first_place slot [] e = by_first (is_result slot) false e
first_place slot (next ∷ slots) e = by_first (is_result slot) (is_result next) e

first_is_id : (target : Target) (r : Rest) (slots : List Slot) (last : ℕ) (word : List ℕ) (words : List Word) (args : List ℕ) → place_of slots ≡ First → AreOperands target r slots last (Plain word ∷ words) args →
    eqb (get_or word 0 0) 37 ≡ true
first_is_id target r slots last word words args place (AreOperands.behind _ _ _ are few) = absurd (cc)
first_is_id target r slots last word words all place (AreOperands.fixed slot slots' _ _ _ args more _ op later is) = result_first target last slot word args (first_place slot slots' place) op

second_place : (slot : Slot) (slots : List Slot) → place_of (slot ∷ slots) ≡ Second → (next : Slot) × (more : List Slot) × (slots ≡ next ∷ more) × (is_result next ≡ true)
second_place slot [] e = let f : false ≡ true = by_second (is_result slot) false e in absurd (cc)
second_place slot (next ∷ more) e = (next, more, refl, by_second (is_result slot) (is_result next) e)

front_is_id : (target : Target) (r : Rest) (slots : List Slot) (wanted : Slot) (more : List Slot) (last : ℕ) (word : List ℕ) (words : List Word) (args : List ℕ) → slots ≡ wanted ∷ more → is_result wanted ≡ true →
    AreOperands target r slots last (Plain word ∷ words) args → eqb (get_or word 0 0) 37 ≡ true
front_is_id target r slots wanted more last word words all are is (AreOperands.behind _ _ _ a few) = absurd (cc)
front_is_id target r slots wanted more last word words all are is (AreOperands.fixed slot slots' _ _ _ args rest _ op later w) =
    let same : slot ≡ wanted = cc in
    result_first target last slot word args (ap is_result same ∙ is) op

second_is_id : (target : Target) (r : Rest) (slots : List Slot) (last : ℕ) (word : List ℕ) (type : Word) (words : List Word) (args : List ℕ) → place_of slots ≡ Second →
    AreOperands target r slots last (type ∷ Plain word ∷ words) args → eqb (get_or word 0 0) 37 ≡ true
second_is_id target r slots last word type words args place (AreOperands.behind _ _ _ are few) = absurd (cc)
second_is_id target r slots last word type words all place (AreOperands.fixed slot slots' _ _ _ args more _ op later is) =
    let s = second_place slot slots' place in
    front_is_id target r slots' s.0 s.1 (last_of args) word words more s.2 s.3 later

-- Instructions -----------------------------------------------------------------------------------------------------

-- the words of a line by its result
abbrev line_words : Option (List ℕ) → List ℕ → List Word → List Word
line_words None name operands = Plain name ∷ operands
line_words (Some result) name operands = Plain result ∷ Plain (codes "=") ∷ Plain name ∷ operands

named_read : (target : Target) (result : Option (List ℕ)) (name : List ℕ) (operands words : List Word) (i : Instr) (form : Form) → opcode_of name ≡ Some i.op → form_of i.op ≡ Some form →
    placed (place_of (slots form)) result operands ≡ Some words → AreOperands target (rest form) (slots form) 0 words i.args → 1 + length i.args < 2 ^ 16 → named target result name operands ≡ Some i
named_read target result name operands words i form opcode found place are short =
    ap (λ o. o >>= λ op. form_of op >>= formed target op result operands) opcode ∙ ap (λ f. f >>= formed target i.op result operands) found
    ∙ ap (λ p. p >>= λ ws. args_of target form ws >>= instr_with i.op) place ∙ ap (λ a. a >>= instr_with i.op) (args_read target form words i.args are) ∙ cond-true _ _ _ (lt-ltb _ _ short)

line_read : (target : Target) (words : List Word) (name : List ℕ) (operands : List Word) (i : Instr) (form : Form) (place : Place) → opcode_of name ≡ Some i.op → form_of i.op ≡ Some form →
    place_of (slots form) ≡ place → IsLine place words name operands → AreOperands target (rest form) (slots form) 0 operands i.args → 1 + length i.args < 2 ^ 16 →
    (first : Word) × (more : List Word) × (words ≡ first ∷ more) × (instr_of target first more ≡ Some i)
line_read target words name operands i form place opcode found at (IsLine.nowhere _ ops) are short = (
  Plain name,
  ops,
  refl,
  cond-false _ _ _ (name_no_id name i.op opcode) ∙ named_read target None name ops ops i form opcode found (ap (λ p. placed p None ops) at) are short,
)
line_read target words name operands i form place opcode found at (IsLine.first result _ ops) are short = (
  Plain result,
  Plain (codes "=") ∷ Plain name ∷ ops,
  refl,
  cond-true _ _ _ (first_is_id target (rest form) (slots form) 0 result ops i.args at are)
      ∙ named_read target (Some result) name ops (Plain result ∷ ops) i form opcode found (ap (λ p. placed p (Some result) ops) at) are short,
)
line_read target words name operands i form place opcode found at (IsLine.second result _ type ops) are short = (
  Plain result,
  Plain (codes "=") ∷ Plain name ∷ type ∷ ops,
  refl,
  cond-true _ _ _ (second_is_id target (rest form) (slots form) 0 result type ops i.args at are)
      ∙ named_read target (Some result) name (type ∷ ops) (type ∷ Plain result ∷ ops) i form opcode found (ap (λ p. placed p (Some result) (type ∷ ops)) at) are short,
)

-- an instruction that words say is read
pub instr_read : (target : Target) (word : Word) (words : List Word) (i : Instr) → IsInstr target (word ∷ words) i → instr_of target word words ≡ Some i
instr_read target word words i says =
    let l = line_read target (word ∷ words) says.name says.operands i says.form (place_of (slots says.form)) says.opcode says.found refl says.line says.args says.short in
    let w : word ≡ l.0 = cc in
    let ws : words ≡ l.1 = cc in
    ap (λ f. instr_of target f words) w ∙ ap (instr_of target l.0) ws ∙ l.3

no_second : (target : Target) (r : Rest) (slots : List Slot) (last : ℕ) (args : List ℕ) → place_of slots ≡ Second → AreOperands target r slots last [] args → ⊥
no_second target r slots last args place (AreOperands.behind _ _ _ are few) = cc

line_is : (target : Target) (r : Rest) (slots : List Slot) (place : Place) (result : Option (List ℕ)) (name : List ℕ) (operands words : List Word) (args : List ℕ) → place_of slots ≡ place →
    placed place result operands ≡ Some words → AreOperands target r slots 0 words args → IsLine place (line_words result name operands) name words
line_is target r slots Nowhere None name operands words args at e are = let same : operands ≡ words = cc in subst (IsLine Nowhere (Plain name ∷ operands) name) same (IsLine.nowhere name operands)
line_is target r slots Nowhere (Some result) name operands words args at e are = absurd (cc)
line_is target r slots First None name operands words args at e are = absurd (cc)
line_is target r slots First (Some result) name operands words args at e are =
    let same : Plain result ∷ operands ≡ words = cc in
    subst (IsLine First (Plain result ∷ Plain (codes "=") ∷ Plain name ∷ operands) name) same (IsLine.first result name operands)
line_is target r slots Second None name operands words args at e are = absurd (cc)
line_is target r slots Second (Some result) name [] words args at e are =
    let same : words ≡ [] = cc in
    absurd (no_second target r slots 0 args at (subst (λ ws. AreOperands target r slots 0 ws args) same are))
line_is target r slots Second (Some result) name (type ∷ operands) words args at e are =
    let same : type ∷ Plain result ∷ operands ≡ words = cc in
    subst (IsLine Second (Plain result ∷ Plain (codes "=") ∷ Plain name ∷ type ∷ operands) name) same (IsLine.second result name type operands)

named_is : (target : Target) (result : Option (List ℕ)) (name : List ℕ) (operands : List Word) (i : Instr) → named target result name operands ≡ Some i → IsInstr target (line_words result name operands) i
named_is target result name operands i e =
    let o = bind_some (opcode_of name) (λ op. form_of op >>= formed target op result operands) i e in
    let f = bind_some (form_of o.0) (formed target o.0 result operands) i o.2 in
    let p = bind_some (placed (place_of (slots f.0)) result operands) (λ ws. args_of target f.0 ws >>= instr_with o.0) i f.2 in
    let a = bind_some (args_of target f.0 p.0) (instr_with o.0) i p.2 in
    let w = cond_some (ltb (1 + length a.0) (2 ^ 16)) (record { op = o.0; args = a.0 }) i a.2 in
    let are = args_are target f.0 p.0 a.0 a.1 in
    subst (IsInstr target (line_words result name operands)) w.1 (record {
      name = name;
      operands = p.0;
      form = f.0;
      opcode = o.1;
      found = f.1;
      line = line_is target (rest f.0) (slots f.0) (place_of (slots f.0)) result name operands p.0 a.0 refl p.1 are;
      args = are;
      short = ltb-true _ _ w.0;
    })

behind_is : (target : Target) (result : List ℕ) (words : List Word) (i : Instr) → behind_result target result words ≡ Some i → IsInstr target (Plain result ∷ words) i
behind_is target result [] i e = absurd (cc)
behind_is target result (Quoted b ∷ words) i e = absurd (cc)
behind_is target result (Plain s ∷ []) i e = absurd (cc)
behind_is target result (Plain s ∷ Quoted b ∷ words) i e = absurd (cc)
behind_is target result (Plain s ∷ Plain name ∷ words) i e =
    elim (bytes_eq s (codes "=")) as
    (λ t. bytes_eq s (codes "=") ≡ t → cond t (named target (Some result) name words) None ≡ Some i → IsInstr target (Plain result ∷ Plain s ∷ Plain name ∷ words) i) [
      | true ↦ λ same found. subst (λ c. IsInstr target (Plain result ∷ Plain c ∷ Plain name ∷ words) i) (sym ((bytes_eq-Decides s (codes "=")).0 same)) (named_is target (Some result) name words i found)
      | false ↦ λ other found. absurd (cc)
    ] refl e

-- an instruction that is read is said by its words
pub instr_is : (target : Target) (word : Word) (words : List Word) (i : Instr) → instr_of target word words ≡ Some i → IsInstr target (word ∷ words) i
instr_is target (Quoted b) words i e = absurd (cc)
instr_is target (Plain first) words i e =
    elim (eqb (get_or first 0 0) 37) as (λ t. cond t (behind_result target first words) (named target None first words) ≡ Some i → IsInstr target (Plain first ∷ words) i) [
      | true ↦ λ found. behind_is target first words i found
      | false ↦ λ found. named_is target None first words i found
    ] e
