-- What is shown of a module is one of its texts.
use Rattle.std.proofs.Common.{◌≡◌, ◌≢◌, ◌⊎◌, inl, inr, ℕ, ◌^◌, ◌<◌, ◌≤◌, Bool, true, false, not, eqb, List, [], ◌∷◌, ◌++◌, length, get_or, Option, Some, None, refl, ap, sym, subst, ◌∙◌, arith, append_assoc, append-nil, codes, lit<}
use Rattle.std.proofs.lemmas.Bool.{cond-true, cond-false, and_parts, and_from, or_from, lt-ltb, le-ltb, ne_eqb, eqb-true, eqb-false, not-true}
use Rattle.std.proofs.lemmas.List.Elements.{All-head, All-tail}
use Rattle.std.proofs.lemmas.Str.Parse.{digit_from_value}
use Rattle.std.specs.Prelude.{All, Ok, Err}
use Rattle.std.specs.Prelude.{Result as Answer}
use Rattle.std.specs.List.{list_all, flat_map, AllByRecursion}
use Rattle.std.specs.Option.{unwrap_or}
use Rattle.std.specs.Char.{digit_value}
use Rattle.std.specs.Fmt.{decimal}
use Rattle.std.specs.Str.Parse.{AllDigits}
use Rattle.gsl_base.specs.Ranges.{AreWords, AreBytes}
use Rattle.gsl_instr.specs.declared.enumerant.decoration.TheConstants as decoration
use Rattle.gsl_instr.specs.declared.form.Form.{Form}
use Rattle.gsl_instr.specs.declared.parts.Part.{Part}
use Rattle.gsl_instr.specs.declared.slot.Enumeration.{Enumeration}
use Rattle.gsl_instr.specs.declared.slot.Enumeration.TheVariants.{BuiltIn}
use Rattle.gsl_instr.specs.declared.slot.Slot.{Slot}
use Rattle.gsl_instr.specs.declared.slot.Slot.TheVariants.{Result, Id, Forward, Number, Named, OfDecoration, Text}
use Rattle.gsl_instr.specs.declared.slot.Rest.{Rest}
use Rattle.gsl_instr.specs.Fitting.{Fill}
use Rattle.gsl_instr.specs.Forms.{slots, rest, allows, next_of}
use Rattle.gsl_instr.specs.Parts.{is_result, more_parts, parts_from, parts_of}
use Rattle.gsl_instr.specs.Strings.{word_of, string_words, IsText}
use Rattle.gsl_instr.specs.Texts.{text_words, after_text, text_at}
use Rattle.gsl_instr.proofs.Fittings.{text_gives}
use Rattle.gsl_instr.proofs.Utf8.{utf8_bytes}
use Rattle.gsl_text.specs.Lines.{lines_of}
use Rattle.gsl_text.specs.Numbers.{unsigned}
use Rattle.gsl_text.proofs.Decimals.{decimal_digits, natural_digits, unsigned_digits}
use Rattle.gsl_text.proofs.Splitting.{lines_line, no_lines}
use Rattle.gsl_words.specs.declared.target.Target.{Target}
use Rattle.gsl_words.specs.declared.target.Target.TheVariants.{V10, V13}
use Rattle.gsl_words.specs.declared.module.Instr.{Instr}
use Rattle.gsl_words.specs.declared.module.Module.{Module}
use Rattle.gsl_words.specs.Faults.{FitsInstr, FitsTypes}
use Rattle.gsl_words.specs.Instructions.{IsInTable, HasFile}
use Rattle.gsl_words.specs.Versions.{version_of, target_of}
use Rattle.gsl_asm.specs.declared.fault.AsmFault.{AsmFault}
use Rattle.gsl_asm.specs.declared.fault.AsmFault.TheVariants.{Line, Memory}
use Rattle.gsl_asm.specs.declared.place.Place.TheVariants.{Nowhere, First, Second}
use Rattle.gsl_asm.specs.declared.word.Word.{Word}
use Rattle.gsl_asm.specs.declared.word.Word.TheVariants.{Plain, Quoted}
use Rattle.gsl_asm.specs.Names.{name_of, or_else}
use Rattle.gsl_asm.specs.Operands.{id_of, enumerant_of, IsOperand}
use Rattle.gsl_asm.specs.Instructions.{last_of, place_by, place_of, AreMore, AreOperands, IsLine, IsInstr, version_name}
use Rattle.gsl_asm.specs.Shown.{id_text, name_or, enumerant_text, string_text, operand_text, operands_text, result_text, formed_text, instr_text, head_text, shown_as, shown}
use Rattle.gsl_asm.specs.Texts.{AreInstrs, AreModule, IsTextOf, Answers}
use Rattle.gsl_asm.proofs.Joined.{word_text, Fine, is_graphic, fine_plain, fine_quoted, spaced, joined, joined_clean, has_words}
use Rattle.gsl_asm.proofs.Lined.{one_module}
use Rattle.gsl_asm.proofs.Quoting.{clean_lf, clean_cr}
use Rattle.gsl_asm.proofs.Rows.{IsName, known, name_back, decimal_no_name, no_result, once, is_single, singles}

-- Numbers and names -------------------------------------------------------------------------------------------------

digit_graphic : (c : ℕ) → digit_value c < 10 → is_graphic c ≡ true
digit_graphic c d =
    let p = digit_from_value c d in
    let above : 32 < c = omega (arith, p.0) in
    let below : c < 127 = omega (arith, p.1) in
    and_from _ _ (lt-ltb _ _ above) (and_from _ _ (lt-ltb _ _ below) (ap not (or_from _ _ (ne_eqb c 59 (λ e. omega (arith, p.1))) (ne_eqb c 34 (λ e. omega (arith, p.0))))))

digits_graphic : (ds : List ℕ) → AllDigits 10 ds → list_all is_graphic ds ≡ true
digits_graphic [] all = refl
digits_graphic (d ∷ ds) all = and_from _ _ (digit_graphic d all.0) (digits_graphic ds all.1)

number_fine : (n : ℕ) → n < 2 ^ 32 → Fine (Plain (decimal n))
number_fine n small = let d = decimal_digits n small in fine_plain (decimal n) d.some (digits_graphic (decimal n) d.all)

number_reads : (n : ℕ) → n < 2 ^ 32 → unsigned (decimal n) ≡ Some n
number_reads n small = unsigned_digits n (decimal n) small (decimal_digits n small)

id_fine : (n : ℕ) → n < 2 ^ 32 → Fine (Plain (id_text n))
id_fine n small = let d = decimal_digits n small in fine_plain (id_text n) (omega arith) (and_from _ _ refl (digits_graphic (decimal n) d.all))

id_reads : (n : ℕ) → n < 2 ^ 32 → id_of (id_text n) ≡ Some n
id_reads n small = natural_digits n (decimal n) small (decimal_digits n small)

-- An enumerant is written so that it is read.
record Enumerated (target : Target) (kind : Enumeration) (n : ℕ) : Type 0 where
  reads : enumerant_of target kind (enumerant_text target kind n) ≡ Some n
  fine : Fine (Plain (enumerant_text target kind n))

enumerated : (target : Target) (kind : Enumeration) (n : ℕ) → n < 2 ^ 32 → Enumerated target kind n
enumerated target kind n small = by_name (name_of target kind n) refl
  where
    by_name : (found : Option (List ℕ)) → name_of target kind n ≡ found → Enumerated target kind n
    by_name None is =
        let word : decimal n ≡ enumerant_text target kind n = ap (λ f. name_or f n) (sym is) in
        let reads : enumerant_of target kind (decimal n) ≡ Some n = ap (λ f. or_else f (unsigned (decimal n))) (decimal_no_name target kind n small) ∙ number_reads n small in
        record { reads = subst (λ w. enumerant_of target kind w ≡ Some n) word reads; fine = subst (λ w. Fine (Plain w)) word (number_fine n small) }
    by_name (Some name) is =
        let word : name ≡ enumerant_text target kind n = ap (λ f. name_or f n) (sym is) in
        let back = name_back target kind n name is in
        let reads : enumerant_of target kind name ≡ Some n = ap (λ f. or_else f (unsigned name)) back.0 in
        record { reads = subst (λ w. enumerant_of target kind w ≡ Some n) word reads; fine = subst (λ w. Fine (Plain w)) word (fine_plain name back.1.some back.1.all) }

-- Operands ----------------------------------------------------------------------------------------------------------

-- An operand is written as a word that stands for it.
record Writes (target : Target) (last : ℕ) (slot : Slot) (words : List ℕ) : Type 0 where
  word : Word
  is : IsOperand target last slot word words
  text : operand_text target last slot words ≡ 32 ∷ word_text word
  fine : Fine word

writes : (target : Target) (last : ℕ) (slot : Slot) (n : ℕ) → is_single slot ≡ true → n < 2 ^ 32 → Writes target last slot (n ∷ [])
writes target last Result n one small = absurd (cc)
writes target last Text n one small = absurd (cc)
writes target last Id n one small = record { word = Plain (id_text n); is = IsOperand.id (id_text n) n (id_reads n small); text = refl; fine = id_fine n small }
writes target last Forward n one small = record { word = Plain (id_text n); is = IsOperand.forward (id_text n) n (id_reads n small); text = refl; fine = id_fine n small }
writes target last Number n one small = record { word = Plain (decimal n); is = IsOperand.number (decimal n) n (number_reads n small); text = refl; fine = number_fine n small }
writes target last (Named kind) n one small =
    let e = enumerated target kind n small in
    record { word = Plain (enumerant_text target kind n); is = IsOperand.enumerant kind (enumerant_text target kind n) n e.reads; text = refl; fine = e.fine }
writes target last OfDecoration n one small =
    elim (eqb last decoration.BUILT_IN) as (λ t. eqb last decoration.BUILT_IN ≡ t → Writes target last OfDecoration (n ∷ [])) [
      | true ↦ λ is.
          let e = enumerated target BuiltIn n small in
          record {
            word = Plain (enumerant_text target BuiltIn n);
            is = IsOperand.built_in (enumerant_text target BuiltIn n) n (eqb-true last decoration.BUILT_IN is) e.reads;
            text = cond-true _ _ _ is;
            fine = e.fine;
          }
      | false ↦ λ other.
          record { word = Plain (decimal n); is = IsOperand.literal (decimal n) n (eqb-false last decoration.BUILT_IN other) (number_reads n small); text = cond-false _ _ _ other; fine = number_fine n small }
    ] refl

writes_text : (target : Target) (last : ℕ) (text : List ℕ) → IsText text → Writes target last Text (string_words text)
writes_text target last text is =
    let found : text_at (string_words text) ≡ Some (text, []) = ap text_at (sym (append-nil (string_words text))) ∙ text_gives text [] is.1 (utf8_bytes text is.0) in
    record { word = Quoted text; is = IsOperand.text text is; text = ap (λ f. 32 ∷ string_text f) found; fine = fine_quoted text is }

-- the words of a text and those behind them
abbrev Cut : List ℕ → List ℕ → Type 0
Cut words more = (text_words (words ++ more) ≡ words) × (after_text (words ++ more) ≡ more)

cut_last : (w : ℕ) (more : List ℕ) → w < 2 ^ 24 → Cut (w ∷ []) more
cut_last w more small = (cond-true _ _ _ (lt-ltb _ _ small), cond-true _ _ _ (lt-ltb _ _ small))

cut_more : (w : ℕ) (words more : List ℕ) → 2 ^ 24 ≤ w → Cut words more → Cut (w ∷ words) more
cut_more w words more large cut = (cond-false _ _ _ (le-ltb _ _ large) ∙ ap (λ l. w ∷ l) cut.0, cond-false _ _ _ (le-ltb _ _ large) ∙ cut.1)

text_cut : (text more : List ℕ) → All (λ byte. byte ≢ 0) text → AreBytes text → Cut (string_words text) more
text_cut [] more all small = cut_last 0 more (lit< tt)
text_cut (a ∷ []) more all small = let ha : a < 256 = small.0 in cut_last (word_of a 0 0 0) more (omega arith)
text_cut (a ∷ b ∷ []) more all small = let ha : a < 256 = small.0 in let hb : b < 256 = small.1.0 in cut_last (word_of a b 0 0) more (omega arith)
text_cut (a ∷ b ∷ c ∷ []) more all small =
    let ha : a < 256 = small.0 in
    let hb : b < 256 = small.1.0 in
    let hc : c < 256 = small.1.1.0 in
    cut_last (word_of a b c 0) more (omega arith)
text_cut (a ∷ b ∷ c ∷ d ∷ text) more all small =
    let rest_c = All-tail (λ byte. byte ≢ 0) c (d ∷ text) (All-tail (λ byte. byte ≢ 0) b (c ∷ d ∷ text) (All-tail (λ byte. byte ≢ 0) a (b ∷ c ∷ d ∷ text) all)) in
    let nd : d ≢ 0 = All-head (λ byte. byte ≢ 0) d text rest_c in
    cut_more (word_of a b c d) (string_words text) more (omega arith) (text_cut text more (All-tail (λ byte. byte ≢ 0) d text rest_c) small.1.1.1.1)

-- All operands ------------------------------------------------------------------------------------------------------

-- What follows the operands that every instruction has is written.
record WritesMore (target : Target) (r : Rest) (second : Bool) (last : ℕ) (args : List ℕ) : Type 0 where
  words : List Word
  are : AreMore target r second last words args
  text : operands_text target last (more_parts r second args) ≡ spaced words
  fine : AllByRecursion Fine words

next_single : (r : Rest) (second : Bool) → singles r ≡ true → is_single (next_of r second) ≡ true
next_single r false e = (and_parts (is_single (next_of r false)) _ e).0
next_single r true e = (and_parts (is_single (next_of r false)) _ e).1

writes_more : (target : Target) (r : Rest) (second : Bool) (last : ℕ) (args : List ℕ) → singles r ≡ true → AreWords args → WritesMore target r second last args
writes_more target r second last [] one fit = record { words = []; are = AreMore.end second last; text = refl; fine = tt }
writes_more target r second last (a ∷ args) one fit =
    let w = writes target last (next_of r second) a (next_single r second one) fit.0 in
    let m = writes_more target r (not second) a args one fit.1 in
    record {
      words = w.word ∷ m.words;
      are = AreMore.more second last w.word m.words (a ∷ []) args (a ∷ args) w.is m.are refl;
      text = ap (λ l. l ++ operands_text target a (more_parts r (not second) args)) w.text ∙ ap (λ l. 32 ∷ (word_text w.word ++ l)) m.text;
      fine = (w.fine, m.fine);
    }

-- Operands of an instruction are written.
record WritesAll (target : Target) (r : Rest) (slots : List Slot) (last : ℕ) (args : List ℕ) (parts : List Part) : Type 0 where
  words : List Word
  are : AreOperands target r slots last words args
  text : operands_text target last parts ≡ spaced words
  fine : AllByRecursion Fine words

lead : (target : Target) (r : Rest) (slot : Slot) (slots : List Slot) (last : ℕ) (words more : List ℕ) (parts : List Part) → Writes target last slot words → WritesAll target r slots (last_of words) more parts →
    WritesAll target r (slot ∷ slots) last (words ++ more) (record { slot = slot; words = words } ∷ parts)
lead target r slot slots last words more parts w m = record {
  words = w.word ∷ m.words;
  are = AreOperands.fixed slot slots last w.word m.words words more (words ++ more) w.is m.are refl;
  text = ap (λ l. l ++ operands_text target (get_or words 0 0) parts) w.text ∙ ap (λ l. 32 ∷ (word_text w.word ++ l)) m.text;
  fine = (w.fine, m.fine);
}

words_behind : (a more : List ℕ) → AreWords (a ++ more) → AreWords more
words_behind [] more fit = fit
words_behind (x ∷ a) more fit = words_behind a more fit.1

-- an operand of one word in front of others
lead_word : (target : Target) (r : Rest) (slot : Slot) (slots : List Slot) (last w : ℕ) (left args : List ℕ) → args ≡ w ∷ left → is_single slot ≡ true → AreWords args →
    parts_from (slot ∷ slots) r false (w ∷ left) ≡ record { slot = slot; words = w ∷ [] } ∷ parts_from slots r false left →
    (AreWords left → WritesAll target r slots w left (parts_from slots r false left)) → WritesAll target r (slot ∷ slots) last args (parts_from (slot ∷ slots) r false args)
lead_word target r slot slots last w left args is one fit front later =
    let f : AreWords (w ∷ left) = subst AreWords is fit in
    subst (λ a. WritesAll target r (slot ∷ slots) last a (parts_from (slot ∷ slots) r false a)) (sym is)
    (subst (WritesAll target r (slot ∷ slots) last (w ∷ left)) (sym front)
    (lead target r slot slots last (w ∷ []) left (parts_from slots r false left) (writes target last slot w one f.0) (later f.1)))

writes_all : (target : Target) (r : Rest) (slots : List Slot) (last : ℕ) (args more : List ℕ) → no_result slots ≡ true → singles r ≡ true → Fill slots args more → AreWords args → allows r (length more) ≡ true →
    WritesAll target r slots last args (parts_from slots r false args)
writes_all target r [] last args more none one fill fit few =
    let m = writes_more target r false last args one fit in
    record { words = m.words; are = AreOperands.behind last m.words args m.are (ap (λ l. allows r (length l)) fill ∙ few); text = m.text; fine = m.fine }
writes_all target r (Result ∷ slots) last args more none one fill fit few = absurd (cc)
writes_all target r (Id ∷ slots) last args more none one fill fit few =
    lead_word target r Id slots last fill.0 fill.1 args fill.2 refl fit refl (λ f. writes_all target r slots fill.0 fill.1 more none one fill.3 f few)
writes_all target r (Forward ∷ slots) last args more none one fill fit few =
    lead_word target r Forward slots last fill.0 fill.1 args fill.2 refl fit refl (λ f. writes_all target r slots fill.0 fill.1 more none one fill.3 f few)
writes_all target r (Number ∷ slots) last args more none one fill fit few =
    lead_word target r Number slots last fill.0 fill.1 args fill.2 refl fit refl (λ f. writes_all target r slots fill.0 fill.1 more none one fill.3 f few)
writes_all target r (Named kind ∷ slots) last args more none one fill fit few =
    lead_word target r (Named kind) slots last fill.0 fill.1 args fill.2 refl fit refl (λ f. writes_all target r slots fill.0 fill.1 more none one fill.3 f few)
writes_all target r (OfDecoration ∷ slots) last args more none one fill fit few =
    lead_word target r OfDecoration slots last fill.0 fill.1 args fill.2 refl fit refl (λ f. writes_all target r slots fill.0 fill.1 more none one fill.3 f few)
writes_all target r (Text ∷ slots) last args more none one fill fit few =
    let text : List ℕ = fill.0 in
    let behind : List ℕ = fill.1 in
    let cut = text_cut text behind fill.2.1 (utf8_bytes text fill.2.0) in
    let f : AreWords behind = words_behind (string_words text) behind (subst AreWords fill.3 fit) in
    let made = lead target r Text slots last (string_words text) behind (parts_from slots r false behind) (writes_text target last text fill.2)
    (writes_all target r slots (last_of (string_words text)) behind more none one fill.4 f few) in
    let first : string_words text ≡ text_words (string_words text ++ behind) = sym cut.0 in
    let second : behind ≡ after_text (string_words text ++ behind) = sym cut.1 in
    subst (λ a. WritesAll target r (Text ∷ slots) last a (parts_from (Text ∷ slots) r false a)) (sym fill.3)
    (subst (λ w. WritesAll target r (Text ∷ slots) last (string_words text ++ behind) (record { slot = Text; words = w } ∷ parts_from slots r false (after_text (string_words text ++ behind)))) first
    (subst (λ b. WritesAll target r (Text ∷ slots) last (string_words text ++ behind) (record { slot = Text; words = string_words text } ∷ parts_from slots r false b)) second made))

-- Instructions ------------------------------------------------------------------------------------------------------

-- An instruction is shown as a line that says it.
record Says (target : Target) (i : Instr) : Type 0 where
  word : Word
  words : List Word
  line : instr_text target i ≡ joined word words ++ 10 ∷ []
  fine : Fine word
  all : AllByRecursion Fine words
  is : IsInstr target (word ∷ words) i

-- How the operands of an instruction are written in its line, by where its result stands.
record Places (target : Target) (form : Form) (name args : List ℕ) : Type 0 where
  operands : List Word
  word : Word
  words : List Word
  line : result_text (place_of (slots form)) args ++ (name ++ (operands_text target 0 (parts_of form args) ++ 10 ∷ [])) ≡ joined word words ++ 10 ∷ []
  fine : Fine word
  all : AllByRecursion Fine words
  is : IsLine (place_of (slots form)) (word ∷ words) name operands
  are : AreOperands target (rest form) (slots form) 0 operands args

no_place : (slots : List Slot) → no_result slots ≡ true → place_of slots ≡ Nowhere
no_place [] none = refl
no_place (slot ∷ []) none = ap (λ t. place_by t false) (not-true _ (and_parts (not (is_result slot)) _ none).0)
no_place (slot ∷ next ∷ slots) none =
    let p = and_parts (not (is_result slot)) _ none in
    ap (λ t. place_by t (is_result next)) (not-true _ p.0) ∙ ap (place_by false) (not-true _ (and_parts (not (is_result next)) _ p.1).0)

-- the operands behind the name
behind_name : (name : List ℕ) (words : List Word) (text : List ℕ) → text ≡ spaced words → name ++ (text ++ 10 ∷ []) ≡ (name ++ spaced words) ++ 10 ∷ []
behind_name name words text is = ap (λ t. name ++ (t ++ 10 ∷ [])) is ∙ sym (append_assoc name (spaced words) (10 ∷ []))

nowhere : (target : Target) (form : Form) (name args more : List ℕ) → no_result (slots form) ≡ true → singles (rest form) ≡ true → IsName name → Fill (slots form) args more → AreWords args →
    allows (rest form) (length more) ≡ true → Places target form name args
unfolding parts_of
nowhere target form name args more none one named fill fit few =
    let w = writes_all target (rest form) (slots form) 0 args more none one fill fit few in
    let place : place_of (slots form) ≡ Nowhere = no_place (slots form) none in
    record {
      operands = w.words;
      word = Plain name;
      words = w.words;
      line = ap (λ p. result_text p args ++ (name ++ (operands_text target 0 (parts_from (slots form) (rest form) false args) ++ 10 ∷ []))) place ∙ behind_name name w.words _ w.text;
      fine = fine_plain name named.some named.all;
      all = w.fine;
      is = subst (λ p. IsLine p (Plain name ∷ w.words) name w.words) (sym place) (IsLine.nowhere name w.words);
      are = w.are;
    }

-- `%r = NAME` and what follows
behind_result : (id name text : List ℕ) (words : List Word) → text ≡ spaced words →
    (id ++ codes " = ") ++ (name ++ (text ++ 10 ∷ [])) ≡ (id ++ spaced (Plain (codes "=") ∷ Plain name ∷ words)) ++ 10 ∷ []
behind_result id name text words is =
    append_assoc id (codes " = ") (name ++ (text ++ 10 ∷ [])) ∙ ap (λ l. id ++ (codes " = " ++ l)) (behind_name name words text is)
    ∙ sym (append_assoc id (spaced (Plain (codes "=") ∷ Plain name ∷ words)) (10 ∷ []))

equals_fine : Fine (Plain (codes "="))
equals_fine = fine_plain (codes "=") (lit< tt) refl

first : (target : Target) (form : Form) (tail : List Slot) (name args more : List ℕ) → slots form ≡ Result ∷ tail → no_result tail ≡ true → singles (rest form) ≡ true → IsName name → Fill (Result ∷ tail) args more →
    AreWords args → allows (rest form) (length more) ≡ true → Places target form name args
unfolding parts_of
first target form tail name args more are none one named fill fit few =
    let r : ℕ = fill.0 in
    let left : List ℕ = fill.1 in
    let f : AreWords (r ∷ left) = subst AreWords fill.2 fit in
    let w = writes_all target (rest form) tail r left more none one fill.3 f.1 few in
    let place : (sl : List Slot) → sl ≡ Result ∷ tail → place_of sl ≡ First = λ sl e. ap place_of e ∙ head tail in
    let p : place_of (slots form) ≡ First = place (slots form) are in
    let words : List Word = Plain (codes "=") ∷ Plain name ∷ w.words in
    let line : result_text First (r ∷ left) ++ (name ++ (operands_text target 0 (parts_from (Result ∷ tail) (rest form) false (r ∷ left)) ++ 10 ∷ [])) ≡ joined (Plain (id_text r)) words ++ 10 ∷ [] =
    behind_result (id_text r) name (operands_text target r (parts_from tail (rest form) false left)) w.words w.text in
    record {
      operands = Plain (id_text r) ∷ w.words;
      word = Plain (id_text r);
      words = words;
      line =
          ap (λ q. result_text q args ++ (name ++ (operands_text target 0 (parts_from (slots form) (rest form) false args) ++ 10 ∷ []))) p
          ∙ ap (λ sl. result_text First args ++ (name ++ (operands_text target 0 (parts_from sl (rest form) false args) ++ 10 ∷ []))) are
          ∙ ap (λ a. result_text First a ++ (name ++ (operands_text target 0 (parts_from (Result ∷ tail) (rest form) false a) ++ 10 ∷ []))) fill.2 ∙ line;
      fine = id_fine r f.0;
      all = (equals_fine, (fine_plain name named.some named.all, w.fine));
      is = subst (λ q. IsLine q (Plain (id_text r) ∷ words) name (Plain (id_text r) ∷ w.words)) (sym p) (IsLine.first (id_text r) name w.words);
      are =
          subst (λ sl. AreOperands target (rest form) sl 0 (Plain (id_text r) ∷ w.words) args) (sym are)
          (subst (AreOperands target (rest form) (Result ∷ tail) 0 (Plain (id_text r) ∷ w.words)) (sym fill.2)
          (AreOperands.fixed Result tail 0 (Plain (id_text r)) w.words (r ∷ []) left (r ∷ left) (IsOperand.result (id_text r) r (id_reads r f.0)) w.are refl));
    }
  where
    head : (tail : List Slot) → place_of (Result ∷ tail) ≡ First
    head [] = refl
    head (_ ∷ tail) = refl

second : (target : Target) (form : Form) (tail : List Slot) (name args more : List ℕ) → slots form ≡ Id ∷ Result ∷ tail → no_result tail ≡ true → singles (rest form) ≡ true → IsName name →
    Fill (Id ∷ Result ∷ tail) args more → AreWords args → allows (rest form) (length more) ≡ true → Places target form name args
unfolding parts_of
second target form tail name args more are none one named fill fit few =
    let t : ℕ = fill.0 in
    let r : ℕ = fill.3.0 in
    let left : List ℕ = fill.3.1 in
    let whole : args ≡ t ∷ r ∷ left = fill.2 ∙ ap (λ l. t ∷ l) fill.3.2 in
    let f : AreWords (t ∷ r ∷ left) = subst AreWords whole fit in
    let w = writes_all target (rest form) tail r left more none one fill.3.3 f.1.1 few in
    let p : place_of (slots form) ≡ Second = ap place_of are in
    let shown : List Word = Plain (id_text t) ∷ w.words in
    let words : List Word = Plain (codes "=") ∷ Plain name ∷ shown in
    let operands : List Word = Plain (id_text t) ∷ Plain (id_text r) ∷ w.words in
    let line : result_text Second (t ∷ r ∷ left) ++ (name ++ (operands_text target 0 (parts_from (Id ∷ Result ∷ tail) (rest form) false (t ∷ r ∷ left)) ++ 10 ∷ [])) ≡ joined (Plain (id_text r)) words ++ 10 ∷ [] =
    behind_result (id_text r) name (operands_text target 0 (parts_from (Id ∷ Result ∷ tail) (rest form) false (t ∷ r ∷ left))) shown (ap (λ l. 32 ∷ (id_text t ++ l)) w.text) in
    record {
      operands = operands;
      word = Plain (id_text r);
      words = words;
      line =
          ap (λ q. result_text q args ++ (name ++ (operands_text target 0 (parts_from (slots form) (rest form) false args) ++ 10 ∷ []))) p
          ∙ ap (λ sl. result_text Second args ++ (name ++ (operands_text target 0 (parts_from sl (rest form) false args) ++ 10 ∷ []))) are
          ∙ ap (λ a. result_text Second a ++ (name ++ (operands_text target 0 (parts_from (Id ∷ Result ∷ tail) (rest form) false a) ++ 10 ∷ []))) whole ∙ line;
      fine = id_fine r f.1.0;
      all = (equals_fine, (fine_plain name named.some named.all, (id_fine t f.0, w.fine)));
      is = subst (λ q. IsLine q (Plain (id_text r) ∷ words) name operands) (sym p) (IsLine.second (id_text r) name (Plain (id_text t)) w.words);
      are =
          subst (λ sl. AreOperands target (rest form) sl 0 operands args) (sym are)
          (subst (AreOperands target (rest form) (Id ∷ Result ∷ tail) 0 operands) (sym whole)
          (AreOperands.fixed Id (Result ∷ tail) 0 (Plain (id_text t)) (Plain (id_text r) ∷ w.words) (t ∷ []) (r ∷ left) (t ∷ r ∷ left) (IsOperand.id (id_text t) t (id_reads t f.0))
          (AreOperands.fixed Result tail t (Plain (id_text r)) w.words (r ∷ []) left (r ∷ left) (IsOperand.result (id_text r) r (id_reads r f.1.0)) w.are refl) refl));
    }

-- where the result of operands stands
data Stands : List Slot → Type 0 where
  away : (slots : List Slot) → no_result slots ≡ true → Stands slots
  leads : (tail : List Slot) → no_result tail ≡ true → Stands (Result ∷ tail)
  follows : (tail : List Slot) → no_result tail ≡ true → Stands (Id ∷ Result ∷ tail)

stands : (slots : List Slot) → once slots ≡ true → Stands slots
stands [] e = Stands.away [] refl
stands (Result ∷ slots) e = Stands.leads slots e
stands (Id ∷ []) e = Stands.away (Id ∷ []) refl
stands (Id ∷ Result ∷ slots) e = Stands.follows slots e
stands (Id ∷ Id ∷ slots) e = Stands.away (Id ∷ Id ∷ slots) e
stands (Id ∷ Forward ∷ slots) e = Stands.away (Id ∷ Forward ∷ slots) e
stands (Id ∷ Number ∷ slots) e = Stands.away (Id ∷ Number ∷ slots) e
stands (Id ∷ Named kind ∷ slots) e = Stands.away (Id ∷ Named kind ∷ slots) e
stands (Id ∷ OfDecoration ∷ slots) e = Stands.away (Id ∷ OfDecoration ∷ slots) e
stands (Id ∷ Text ∷ slots) e = Stands.away (Id ∷ Text ∷ slots) e
stands (Forward ∷ slots) e = Stands.away (Forward ∷ slots) e
stands (Number ∷ slots) e = Stands.away (Number ∷ slots) e
stands (Named kind ∷ slots) e = Stands.away (Named kind ∷ slots) e
stands (OfDecoration ∷ slots) e = Stands.away (OfDecoration ∷ slots) e
stands (Text ∷ slots) e = Stands.away (Text ∷ slots) e

places : (target : Target) (form : Form) (sl : List Slot) (name args more : List ℕ) → slots form ≡ sl → Stands sl → singles (rest form) ≡ true → IsName name → Fill (slots form) args more → AreWords args →
    allows (rest form) (length more) ≡ true → Places target form name args
places target form sl name args more are (Stands.away _ none) one named fill fit few = nowhere target form name args more (ap no_result are ∙ none) one named fill fit few
places target form sl name args more are (Stands.leads tail none) one named fill fit few =
    first target form tail name args more are none one named (subst (λ s. Fill s args more) are fill) fit few
places target form sl name args more are (Stands.follows tail none) one named fill fit few =
    second target form tail name args more are none one named (subst (λ s. Fill s args more) are fill) fit few

says : (target : Target) (i : Instr) → IsInTable i → AreWords i.args → Says target i
unfolding instr_text
says target i fits fit =
    let form : Form = fits.form in
    let k = known i.op form fits.found in
    let p = places target form (slots form) k.name i.args fits.more refl (stands (slots form) k.order) k.follow k.is fits.fixed fit fits.follow in
    record {
      word = p.word;
      words = p.words;
      line =
          ap (formed_text target i.op i.args) fits.found
          ∙ ap (λ f. result_text (place_of (slots form)) i.args ++ (unwrap_or f [] ++ (operands_text target 0 (parts_of form i.args) ++ 10 ∷ []))) k.shown ∙ p.line;
      fine = p.fine;
      all = p.all;
      is = record { name = k.name; operands = p.operands; form = form; opcode = k.read; found = fits.found; line = p.is; args = p.are; short = fits.short };
    }

-- Modules -----------------------------------------------------------------------------------------------------------

-- a line and what follows
next_line : (word : Word) (words : List Word) (rest : List ℕ) → Fine word → AllByRecursion Fine words → lines_of ((joined word words ++ 10 ∷ []) ++ rest) ≡ joined word words ∷ lines_of rest
next_line word words rest fine all =
    let clean = joined_clean word words fine all in
    ap lines_of (append_assoc (joined word words) (10 ∷ []) rest) ∙ lines_line (joined word words) rest (clean_lf (joined word words) clean) (clean_cr (joined word words) clean)

says_all : (target : Target) (code : List Instr) → All IsInTable code → AllByRecursion FitsInstr code → AreInstrs target (lines_of (flat_map (instr_text target) code)) code
says_all target [] fits fit = subst (λ l. AreInstrs target l []) (sym (no_lines [] refl)) AreInstrs.end
says_all target (i ∷ code) fits fit =
    let s = says target i (All-head IsInTable i code fits) fit.0.1 in
    let later = says_all target code (All-tail IsInTable i code fits) fit.1 in
    let rest : List ℕ = flat_map (instr_text target) code in
    subst (λ l. AreInstrs target l (i ∷ code)) (sym (ap (λ t. lines_of (t ++ rest)) s.line ∙ next_line s.word s.words rest s.fine s.all))
    (AreInstrs.instr (joined s.word s.words) s.word s.words (lines_of rest) i code (has_words s.word s.words s.fine s.all) s.is later)

version_fine : (target : Target) → Fine (Plain (version_name target))
version_fine V10 = fine_plain (codes "1.0") (lit< tt) refl
version_fine V13 = fine_plain (codes "1.3") (lit< tt) refl

shown_so : (target : Target) (m : Module) → m.version ≡ version_of target → HasFile m → FitsTypes m → AreModule (lines_of (shown_as target m)) m
shown_so target m version file fit =
    let word : Word = Plain (codes "spirv") in
    let number : List ℕ = decimal m.bound in
    let words : List Word = Plain (version_name target) ∷ Plain number ∷ [] in
    let fine : Fine word = fine_plain (codes "spirv") (lit< tt) refl in
    let all : AllByRecursion Fine words = (version_fine target, (number_fine m.bound fit.bound, tt)) in
    let rest : List ℕ = flat_map (instr_text target) m.instrs in
    let head : head_text target m.bound ≡ joined word words ++ 10 ∷ [] =
    ap (λ l. codes "spirv " ++ l)
    (ap (λ l. version_name target ++ (32 ∷ l)) (ap (λ l. l ++ 10 ∷ []) (sym (append-nil number))) ∙ sym (append_assoc (version_name target) (32 ∷ (number ++ [])) (10 ∷ []))) in
    let made : AreModule (joined word words ∷ lines_of rest) (record { version = version_of target; bound = m.bound; instrs = m.instrs }) =
    AreModule.head (joined word words) (word ∷ words) (lines_of rest) target m.bound m.instrs (has_words word words fine all)
    (record { number = number; words_are = refl; bound_is = number_reads m.bound fit.bound }) (says_all target m.instrs file.instrs fit.instrs) in
    subst (λ l. AreModule l m) (sym (ap (λ t. lines_of (t ++ rest)) head ∙ next_line word words rest fine all))
    (subst (λ v. AreModule (joined word words ∷ lines_of rest) (record { version = v; bound = m.bound; instrs = m.instrs })) (sym version) made)

target_back : (target : Target) → target_of (version_of target) ≡ Some target
target_back V10 = refl
target_back V13 = refl

-- what is shown of a module is a text of it
pub shown_text : (m : Module) → HasFile m → FitsTypes m → IsTextOf (shown m) m
shown_text m file fit =
    let target : Target = file.version.0 in
    let known : target_of m.version ≡ Some target = ap target_of file.version.1 ∙ target_back target in
    subst (λ f. IsTextOf (shown_as (unwrap_or f V10) m) m) (sym known) (shown_so target m file.version.1 file fit)

-- whoever answers for such a text answers that module
pub read_back : (m : Module) (given : Answer Module AsmFault) → HasFile m → FitsTypes m → Answers given (shown m) → (given ≡ Ok m) ⊎ (given ≡ Err Memory)
read_back m (Ok k) file fit is = inl (ap Ok (one_module (lines_of (shown m)) k m is (shown_text m file fit)))
read_back m (Err (Line n)) file fit is = absurd (is.0 m (shown_text m file fit))
read_back m (Err Memory) file fit is = inr refl
