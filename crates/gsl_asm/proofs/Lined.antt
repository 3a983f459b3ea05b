-- Lines are read where they are those of a module, and the line where they stop being such is found.
use Rattle.std.proofs.Common.{◌≡◌, ◌⊎◌, inl, inr, ⊎_elim, ℕ, zero, suc, ◌+◌, ◌-◌, ◌<◌, ◌≤◌, true, false, not, cond, eqb, List, [], ◌∷◌, ◌++◌, length, take, drop, Option, Some, None, refl, ap, sym, subst, ◌∙◌, arith, append_assoc, append-nil, codes, length-append, take-append-drop}
use Rattle.std.proofs.Math.Seq.{take-append_seam}
use Rattle.std.proofs.lemmas.Bool.{cond-true, and_parts, and_from, not-true, cases_order}
use Rattle.std.proofs.lemmas.Slice.Eq.{bytes_eq-Decides}
use Rattle.std.proofs.lemmas.Str.{IsUtf8-from_is_utf8, is_utf8-from_IsUtf8}
use Rattle.std.specs.Prelude.{Result, Ok, Err}
use Rattle.std.specs.List.{list_any}
use Rattle.std.specs.Option.{option_map}
use Rattle.std.specs.Str.{is_utf8, bytes_eq}
use Rattle.gsl_text.specs.Lines.{lines_of}
use Rattle.gsl_text.specs.Numbers.{◌>>=◌, natural, unsigned}
use Rattle.gsl_words.specs.declared.target.Target.{Target}
use Rattle.gsl_words.specs.declared.target.Target.TheVariants.{V10, V13}
use Rattle.gsl_words.specs.declared.module.Instr.{Instr}
use Rattle.gsl_words.specs.declared.module.Module.{Module}
use Rattle.gsl_words.specs.Versions.{version_of}
use Rattle.gsl_asm.specs.declared.fault.AsmFault.{AsmFault}
use Rattle.gsl_asm.specs.declared.fault.AsmFault.TheVariants.{Line, Memory}
use Rattle.gsl_asm.specs.declared.word.Word.{Word}
use Rattle.gsl_asm.specs.declared.word.Word.TheVariants.{Plain, Quoted}
use Rattle.gsl_asm.specs.Words.{Spells}
use Rattle.gsl_asm.specs.Splitting.{words_of}
use Rattle.gsl_asm.specs.Instructions.{version_name, IsHead}
use Rattle.gsl_asm.specs.Texts.{HasWords, AreInstrs, AreModule, Begin, BreaksAt, IsWrong, Answers}
use Rattle.gsl_asm.specs.Reading.{instr_of, instrs_of, is_text, line_words, line_instrs, target_of, head_by, head_behind, head_of, line_head, first_head, code_before, body, with_head, behind_head, module_from, Gives}
use Rattle.gsl_asm.proofs.Binds.{bind_some, map_some}
use Rattle.gsl_asm.proofs.Ascii.{ascii_text}
use Rattle.gsl_asm.proofs.Spelled.{words_read, words_spelled}
use Rattle.gsl_asm.proofs.Instructed.{instr_read, instr_is}

-- The words of a line ---------------------------------------------------------------------------------------------

pub line_read : (line : List ℕ) (words : List Word) → HasWords line words → line_words line ≡ Some words
line_read line words has = cond-true _ _ _ (and_from _ _ (is_utf8-from_IsUtf8 line has.utf8) (ap not has.nonzero)) ∙ words_read line words has.spelled

line_is : (line : List ℕ) (words : List Word) → line_words line ≡ Some words → HasWords line words
line_is line words e =
    elim (is_text line) as (λ t. is_text line ≡ t → cond t (words_of line) None ≡ Some words → HasWords line words) [
      | true ↦ λ fine found.
          let p = and_parts (is_utf8 line) (not (list_any (λ byte. eqb byte 0) line)) fine in
          record { utf8 = IsUtf8-from_is_utf8 line p.0; nonzero = not-true _ p.1; spelled = words_spelled line words found }
      | false ↦ λ other found. absurd (cc)
    ] refl e

-- Instructions ------------------------------------------------------------------------------------------------------

empty_read : (target : Target) (line : List ℕ) → HasWords line [] → line_instrs target line ≡ Some []
unfolding line_instrs
empty_read target line has = ap (λ f. f >>= instrs_of target) (line_read line [] has)

instr_line : (target : Target) (line : List ℕ) (word : Word) (words : List Word) (i : Instr) → HasWords line (word ∷ words) → instr_of target word words ≡ Some i → line_instrs target line ≡ Some (i ∷ [])
unfolding line_instrs
instr_line target line word words i has is = ap (λ f. f >>= instrs_of target) (line_read line (word ∷ words) has) ∙ ap (λ f. option_map (λ instr. instr ∷ []) f) is

one_line : (target : Target) (n : ℕ) (line : List ℕ) (lines : List (List ℕ)) (found : Option (List Instr)) → line_instrs target line ≡ found →
    body target n (line ∷ lines) ≡ elim found [ Some code ↦ code_before code (body target (n + 1) lines) | None ↦ Err n ]
one_line target n line lines found is = ap (λ f. elim f as (λ _. Result (List Instr) ℕ) [ Some code ↦ code_before code (body target (n + 1) lines) | None ↦ Err n ]) is

pub body_read : (target : Target) (n : ℕ) (lines : List (List ℕ)) (code : List Instr) → AreInstrs target lines code → body target n lines ≡ Ok code
body_read target n lines code AreInstrs.end = refl
body_read target n lines code (AreInstrs.empty line more _ has later) =
    one_line target n line more (Some []) (empty_read target line has) ∙ ap (code_before []) (body_read target (n + 1) more code later)
body_read target n lines code (AreInstrs.instr line word words more i rest has says later) =
    one_line target n line more (Some (i ∷ [])) (instr_line target line word words i has (instr_read target word words i says)) ∙ ap (code_before (i ∷ [])) (body_read target (n + 1) more rest later)

-- a line in front of instructions
instrs_onto : (target : Target) (line : List ℕ) (lines : List (List ℕ)) (code more : List Instr) → line_instrs target line ≡ Some code → AreInstrs target lines more → AreInstrs target (line ∷ lines) (code ++ more)
unfolding line_instrs
instrs_onto target line lines code more e later = let w = bind_some (line_words line) (instrs_of target) code e in by_words w.0 (line_is line w.0 w.1) w.2
  where
    by_words : (words : List Word) → HasWords line words → instrs_of target words ≡ Some code → AreInstrs target (line ∷ lines) (code ++ more)
    by_words [] has f = let same : [] ≡ code = cc in subst (λ c. AreInstrs target (line ∷ lines) (c ++ more)) same (AreInstrs.empty line lines more has later)
    by_words (word ∷ words) has f =
        let m = map_some (λ (i : Instr). i ∷ []) (instr_of target word words) code f in
        subst (λ c. AreInstrs target (line ∷ lines) (c ++ more)) m.2 (AreInstrs.instr line word words lines m.0 more has (instr_is target word words m.0 m.1) later)

before_ok : (code all : List Instr) (found : Result (List Instr) ℕ) → code_before code found ≡ Ok all → (more : List Instr) × (found ≡ Ok more) × (code ++ more ≡ all)
before_ok code all (Ok more) e = (more, refl, cc)
before_ok code all (Err k) e = absurd (cc)

before_err : (code : List Instr) (k : ℕ) (found : Result (List Instr) ℕ) → code_before code found ≡ Err k → found ≡ Err k
before_err code k (Ok more) e = absurd (cc)
before_err code k (Err j) e = e

pub body_is : (target : Target) (n : ℕ) (lines : List (List ℕ)) (code : List Instr) → body target n lines ≡ Ok code → AreInstrs target lines code
body_is target n [] code e = let same : [] ≡ code = cc in subst (AreInstrs target []) same AreInstrs.end
body_is target n (line ∷ lines) all e = by_line (line_instrs target line) refl e (λ more is. body_is target (n + 1) lines more is)
  where
    by_line : (found : Option (List Instr)) → line_instrs target line ≡ found → elim found as (λ _. Result (List Instr) ℕ) [ Some code ↦ code_before code (body target (n + 1) lines) | None ↦ Err n ] ≡ Ok all →
        ((more : List Instr) → body target (n + 1) lines ≡ Ok more → AreInstrs target lines more) → AreInstrs target (line ∷ lines) all
    by_line None is f later = absurd (cc)
    by_line (Some code) is f later =
        let b = before_ok code all (body target (n + 1) lines) f in
        subst (AreInstrs target (line ∷ lines)) b.2 (instrs_onto target line lines code b.0 is (later b.0 b.1))

-- what is not said by any line
instrs_front : (target : Target) (line : List ℕ) (lines : List (List ℕ)) (code : List Instr) → AreInstrs target (line ∷ lines) code → (first more : List Instr) × (line_instrs target line ≡ Some first) × AreInstrs target lines more
instrs_front target line lines code (AreInstrs.empty _ _ _ has later) = ([], code, empty_read target line has, later)
instrs_front target line lines code (AreInstrs.instr _ word words _ i rest has says later) = (i ∷ [], rest, instr_line target line word words i has (instr_read target word words i says), later)

-- Lines up to one that says no instruction.
record Stops (target : Target) (lines : List (List ℕ)) (n k : ℕ) : Type 0 where
  front : List (List ℕ)
  line : List ℕ
  back : List (List ℕ)
  code : List Instr
  whole : front ++ line ∷ back ≡ lines
  place : n + length front ≡ k
  before : AreInstrs target front code
  here : (later : List (List ℕ)) (all : List Instr) → AreInstrs target (front ++ line ∷ later) all → ⊥

body_stops : (target : Target) (n k : ℕ) (lines : List (List ℕ)) → body target n lines ≡ Err k → Stops target lines n k
body_stops target n k [] e = absurd (cc)
body_stops target n k (line ∷ lines) e = by_line (line_instrs target line) refl e (λ is. body_stops target (n + 1) k lines is)
  where
    by_line : (found : Option (List Instr)) → line_instrs target line ≡ found → elim found as (λ _. Result (List Instr) ℕ) [ Some code ↦ code_before code (body target (n + 1) lines) | None ↦ Err n ] ≡ Err k →
        (body target (n + 1) lines ≡ Err k → Stops target lines (n + 1) k) → Stops target (line ∷ lines) n k
    by_line None is f later =
        let same : n ≡ k = cc in
        record {
          front = [];
          line = line;
          back = lines;
          code = [];
          whole = refl;
          place = let z : n + 0 ≡ k = omega (arith, same) in z;
          before = AreInstrs.end;
          here = λ more all are. let f = instrs_front target line more all are in absurd (let g : None ≡ Some f.0 = sym is ∙ f.2 in cc);
        }
    by_line (Some code) is f later =
        let s = later (before_err code k (body target (n + 1) lines) f) in
        record {
          front = line ∷ s.front;
          line = s.line;
          back = s.back;
          code = code ++ s.code;
          whole = ap (λ l. line ∷ l) s.whole;
          place = let z : n + length (line ∷ s.front) ≡ k = omega (arith, s.place) in z;
          before = instrs_onto target line s.front code s.code is s.before;
          here = λ more all are. s.here more _ (instrs_front target line (s.front ++ s.line ∷ more) all are).3;
        }

-- The version and the bound -----------------------------------------------------------------------------------------

name_read : (target : Target) → target_of (version_name target) ≡ Some target
name_read V10 = refl
name_read V13 = refl

name_is : (word : List ℕ) (target : Target) → target_of word ≡ Some target → word ≡ version_name target
name_is word target e =
    elim (bytes_eq word (codes "1.0")) as (λ t. bytes_eq word (codes "1.0") ≡ t → cond t (Some V10) (cond (bytes_eq word (codes "1.3")) (Some V13) None) ≡ Some target → word ≡ version_name target) [
      | true ↦ λ here found. let same : V10 ≡ target = cc in (bytes_eq-Decides word (codes "1.0")).0 here ∙ ap version_name same
      | false ↦ λ other found.
          elim (bytes_eq word (codes "1.3")) as (λ t. bytes_eq word (codes "1.3") ≡ t → cond t (Some V13) None ≡ Some target → word ≡ version_name target) [
            | true ↦ λ here found. let same : V13 ≡ target = cc in (bytes_eq-Decides word (codes "1.3")).0 here ∙ ap version_name same
            | false ↦ λ none found. absurd (cc)
          ] refl found
    ] refl e

head_read : (words : List Word) (target : Target) (bound : ℕ) → IsHead words target bound → line_head words ≡ Some (Some (target, bound))
head_read words target bound is =
    ap line_head is.words_are
    ∙ ap (λ found. option_map {U = Option (Target × ℕ)} (λ head. Some head) found)
    (ap (λ f. f >>= λ t. unsigned is.number >>= λ n. Some (t, n)) (name_read target) ∙ ap (λ f. f >>= λ n. Some (target, n)) is.bound_is)

parts_are : (version bound : List ℕ) (head : Target × ℕ) → head_by version bound ≡ Some head → (version ≡ version_name head.0) × (unsigned bound ≡ Some head.1)
parts_are version bound head e =
    let t = bind_some (target_of version) (λ target. unsigned bound >>= λ n. Some (target, n)) head e in
    let n = bind_some (unsigned bound) (λ n. Some (t.0, n)) head t.2 in
    let same : (t.0, n.0) ≡ head = cc in
    let name : t.0 ≡ head.0 = ap (λ (h : Target × ℕ). h.0) same in
    let number : n.0 ≡ head.1 = ap (λ (h : Target × ℕ). h.1) same in
    (name_is version t.0 t.1 ∙ ap version_name name, n.1 ∙ ap Some number)

behind_is : (spirv : List ℕ) (words : List Word) (head : Target × ℕ) → head_behind spirv words ≡ Some head → IsHead (Plain spirv ∷ words) head.0 head.1
behind_is spirv [] head e = absurd (cc)
behind_is spirv (Quoted b ∷ words) head e = absurd (cc)
behind_is spirv (Plain b ∷ []) head e = absurd (cc)
behind_is spirv (Plain b ∷ Quoted c ∷ words) head e = absurd (cc)
behind_is spirv (Plain b ∷ Plain c ∷ word ∷ words) head e = absurd (cc)
behind_is spirv (Plain b ∷ Plain c ∷ []) head e =
    elim (bytes_eq spirv (codes "spirv")) as (λ t. bytes_eq spirv (codes "spirv") ≡ t → cond t (head_by b c) None ≡ Some head → IsHead (Plain spirv ∷ Plain b ∷ Plain c ∷ []) head.0 head.1) [
      | true ↦ λ same found.
          let p = parts_are b c head found in
          record {
            number = c;
            words_are = ap (λ s. Plain s ∷ Plain b ∷ Plain c ∷ []) ((bytes_eq-Decides spirv (codes "spirv")).0 same) ∙ ap (λ v. Plain (codes "spirv") ∷ Plain v ∷ Plain c ∷ []) p.0;
            bound_is = p.1;
          }
      | false ↦ λ other found. absurd (cc)
    ] refl e

head_is : (word : Word) (words : List Word) (head : Target × ℕ) → head_of word words ≡ Some head → IsHead (word ∷ words) head.0 head.1
head_is (Quoted b) words head e = absurd (cc)
head_is (Plain spirv) words head e = behind_is spirv words head e

-- what a line says before any instruction
blank_read : (line : List ℕ) → HasWords line [] → first_head line ≡ Some None
blank_read line has = ap (λ f. f >>= line_head) (line_read line [] has)

first_read : (line : List ℕ) (words : List Word) (target : Target) (bound : ℕ) → HasWords line words → IsHead words target bound → first_head line ≡ Some (Some (target, bound))
first_read line words target bound has is = ap (λ f. f >>= line_head) (line_read line words has) ∙ head_read words target bound is

some_head : (found : Option (Target × ℕ)) → option_map {U = Option (Target × ℕ)} (λ head. Some head) found ≡ Some None → ⊥
some_head None e = cc
some_head (Some h) e = cc

the_head : (found : Option (Target × ℕ)) (head : Target × ℕ) → option_map {U = Option (Target × ℕ)} (λ h. Some h) found ≡ Some (Some head) → found ≡ Some head
the_head None head e = absurd (cc)
the_head (Some h) head e = let same : Some h ≡ Some head = cc in same

blank_is : (line : List ℕ) → first_head line ≡ Some None → HasWords line []
blank_is line e = let w = bind_some (line_words line) line_head None e in by_words w.0 (line_is line w.0 w.1) w.2
  where
    by_words : (words : List Word) → HasWords line words → line_head words ≡ Some None → HasWords line []
    by_words [] has f = has
    by_words (word ∷ words) has f = absurd (some_head (head_of word words) f)

-- A line says the version and the bound.
record Heads (line : List ℕ) (head : Target × ℕ) : Type 0 where
  words : List Word
  has : HasWords line words
  is : IsHead words head.0 head.1

first_is : (line : List ℕ) (head : Target × ℕ) → first_head line ≡ Some (Some head) → Heads line head
first_is line head e = let w = bind_some (line_words line) line_head (Some head) e in by_words w.0 (line_is line w.0 w.1) w.2
  where
    by_words : (words : List Word) → HasWords line words → line_head words ≡ Some (Some head) → Heads line head
    by_words [] has f = absurd (cc)
    by_words (word ∷ words) has f = record { words = word ∷ words; has = has; is = head_is word words head (the_head (head_of word words) head f) }

-- Modules -----------------------------------------------------------------------------------------------------------

-- how a module goes on behind its first line
module_on : (n : ℕ) (line : List ℕ) (lines : List (List ℕ)) (found : Option (Option (Target × ℕ))) → first_head line ≡ found →
    module_from n (line ∷ lines) ≡ behind_head found n (module_from (n + 1) lines) (λ target. body target (n + 1) lines)
module_on n line lines found is = ap (λ f. behind_head f n (module_from (n + 1) lines) (λ target. body target (n + 1) lines)) is

pub module_read : (n : ℕ) (lines : List (List ℕ)) (m : Module) → AreModule lines m → module_from n lines ≡ Ok m
module_read n lines m (AreModule.blank line more _ has later) = module_on n line more (Some None) (blank_read line has) ∙ module_read (n + 1) more m later
module_read n lines m (AreModule.head line words more target bound code has is are) =
    module_on n line more (Some (Some (target, bound))) (first_read line words target bound has is) ∙ ap (with_head (target, bound)) (body_read target (n + 1) more code are)

with_ok : (head : Target × ℕ) (found : Result (List Instr) ℕ) (m : Module) → with_head head found ≡ Ok m →
    (code : List Instr) × (found ≡ Ok code) × (record { version = version_of head.0; bound = head.1; instrs = code } ≡ m)
with_ok head (Ok code) m e = (code, refl, cc)
with_ok head (Err k) m e = absurd (cc)

with_err : (head : Target × ℕ) (found : Result (List Instr) ℕ) (k : ℕ) → with_head head found ≡ Err k → found ≡ Err k
with_err head (Ok code) k e = absurd (cc)
with_err head (Err j) k e = let same : j ≡ k = cc in ap Err same

pub module_is : (n : ℕ) (lines : List (List ℕ)) (m : Module) → module_from n lines ≡ Ok m → AreModule lines m
module_is n [] m e = absurd (cc)
module_is n (line ∷ lines) m e = by_head (first_head line) refl e (λ is. module_is (n + 1) lines m is)
  where
    by_head : (found : Option (Option (Target × ℕ))) → first_head line ≡ found → behind_head found n (module_from (n + 1) lines) (λ target. body target (n + 1) lines) ≡ Ok m →
        (module_from (n + 1) lines ≡ Ok m → AreModule lines m) → AreModule (line ∷ lines) m
    by_head None is f later = absurd (cc)
    by_head (Some None) is f later = AreModule.blank line lines m (blank_is line is) (later f)
    by_head (Some (Some head)) is f later =
        let w = with_ok head (body head.0 (n + 1) lines) m f in
        let h = first_is line head is in
        subst (AreModule (line ∷ lines)) w.2 (AreModule.head line h.words lines head.0 head.1 w.0 h.has h.is (body_is head.0 (n + 1) lines w.0 w.1))

-- Faults ------------------------------------------------------------------------------------------------------------

-- Lines up to one that no text has there.
record Fails (lines : List (List ℕ)) (n k : ℕ) : Type 0 where
  front : List (List ℕ)
  line : List ℕ
  back : List (List ℕ)
  whole : front ++ line ∷ back ≡ lines
  place : n + length front ≡ k
  before : Begin front
  here : (later : List (List ℕ)) (m : Module) → AreModule (front ++ line ∷ later) m → ⊥

-- a text that has nothing but a version and a bound
least : AreModule (codes "spirv 1.0 0" ∷ []) (record { version = version_of V10; bound = 0; instrs = [] })
unfolding natural
least =
    AreModule.head (codes "spirv 1.0 0") (Plain (codes "spirv") ∷ Plain (codes "1.0") ∷ Plain (codes "0") ∷ []) [] V10 0 []
    (record {
      utf8 = ascii_text (codes "spirv 1.0 0") refl;
      nonzero = refl;
      spelled =
          Spells.plain 115 (codes "pirv") (codes " 1.0 0") (codes "spirv 1.0 0") _ refl refl refl refl (Spells.blank 32 (codes "1.0 0") _ refl
          (Spells.plain 49 (codes ".0") (codes " 0") (codes "1.0 0") _ refl refl refl refl (Spells.blank 32 (codes "0") _ refl (Spells.plain 48 [] [] (codes "0") _ refl refl refl refl Spells.end))));
    })
    (record { number = codes "0"; words_are = refl; bound_is = refl }) AreInstrs.end

-- lines without words, whatever follows
abbrev AreBlank : List (List ℕ) → Type 0
AreBlank lines = (later : List (List ℕ)) (m : Module) → AreModule later m → AreModule (lines ++ later) m

module_fails : (n k : ℕ) (lines : List (List ℕ)) → module_from n lines ≡ Err k → Fails lines n k ⊎ ((k ≡ 1) × AreBlank lines)
module_fails n k [] e = let same : 1 ≡ k = cc in inr (sym same, λ later m are. are)
module_fails n k (line ∷ lines) e = by_head (first_head line) refl e (λ is. module_fails (n + 1) k lines is)
  where
    blank_on : (found : first_head line ≡ Some None) → Fails lines (n + 1) k ⊎ ((k ≡ 1) × AreBlank lines) → Fails (line ∷ lines) n k ⊎ ((k ≡ 1) × AreBlank (line ∷ lines))
    blank_on is (inr b) = inr (b.0, λ later m are. AreModule.blank line (lines ++ later) m (blank_is line is) (b.1 later m are))
    blank_on is (inl s) = inl (record {
      front = line ∷ s.front;
      line = s.line;
      back = s.back;
      whole = ap (λ l. line ∷ l) s.whole;
      place = let z : n + length (line ∷ s.front) ≡ k = omega (arith, s.place) in z;
      before = (s.before.0, s.before.1, AreModule.blank line (s.front ++ s.before.0) s.before.1 (blank_is line is) s.before.2);
      here = λ later m are. s.here later m (module_is 1 (s.front ++ s.line ∷ later) m (sym (module_on 0 line (s.front ++ s.line ∷ later) (Some None) is) ∙ module_read 0 (line ∷ s.front ++ s.line ∷ later) m are));
    })

    by_head : (found : Option (Option (Target × ℕ))) → first_head line ≡ found → behind_head found n (module_from (n + 1) lines) (λ target. body target (n + 1) lines) ≡ Err k →
        (module_from (n + 1) lines ≡ Err k → Fails lines (n + 1) k ⊎ ((k ≡ 1) × AreBlank lines)) → Fails (line ∷ lines) n k ⊎ ((k ≡ 1) × AreBlank (line ∷ lines))
    by_head None is f later =
        let same : n ≡ k = cc in
        inl (record {
          front = [];
          line = line;
          back = lines;
          whole = refl;
          place = let z : n + 0 ≡ k = omega (arith, same) in z;
          before = (codes "spirv 1.0 0" ∷ [], _, least);
          here = λ more m are. let g : Err 1 ≡ Ok m = sym (module_on 1 line more None is) ∙ module_read 1 (line ∷ more) m are in cc;
        })
    by_head (Some None) is f later = blank_on is (later f)
    by_head (Some (Some head)) is f later =
        let s = body_stops head.0 (n + 1) k lines (with_err head (body head.0 (n + 1) lines) k f) in
        let h = first_is line head is in
        inl (record {
          front = line ∷ s.front;
          line = s.line;
          back = s.back;
          whole = ap (λ l. line ∷ l) s.whole;
          place = let z : n + length (line ∷ s.front) ≡ k = omega (arith, s.place) in z;
          before = (
            [],
            _,
            subst (λ l. AreModule (line ∷ l) (record { version = version_of head.0; bound = head.1; instrs = s.code })) (sym (append-nil s.front))
                (AreModule.head line h.words s.front head.0 head.1 s.code h.has h.is s.before),
          );
          here = λ more m are.
              let lines' : List (List ℕ) = s.front ++ s.line ∷ more in
              let w = with_ok head (body head.0 1 lines') m (sym (module_on 0 line lines' (Some (Some head)) is) ∙ module_read 0 (line ∷ lines') m are) in
              s.here more w.0 (body_is head.0 1 lines' w.0 w.1);
        })

breaks : (lines : List (List ℕ)) (k : ℕ) → Fails lines 1 k → BreaksAt lines k
breaks lines k f =
    let front : List (List ℕ) = f.front in
    let some : 1 ≤ k = omega (arith, f.place) in
    let less : k - 1 ≡ length front = omega (arith, f.place) in
    let all : length front + 1 ≡ k = omega (arith, f.place) in
    let long : length front + suc (length f.back) ≡ length lines = sym (length-append front (f.line ∷ f.back)) ∙ ap length f.whole in
    let first : take (k - 1) lines ≡ front = ap (λ j. take j lines) less ∙ ap (take (length front)) (sym f.whole) ∙ take-append_seam front (f.line ∷ f.back) in
    let one : length (front ++ f.line ∷ []) ≡ k = length-append front (f.line ∷ []) ∙ all in
    let upto : take k lines ≡ front ++ f.line ∷ [] =
    ap (take k) (sym f.whole ∙ sym (append_assoc front (f.line ∷ []) f.back)) ∙ ap (λ j. take j ((front ++ f.line ∷ []) ++ f.back)) (sym one) ∙ take-append_seam (front ++ f.line ∷ []) f.back in
    record {
      some = some;
      within = omega arith;
      before = subst Begin (sym first) f.before;
      here = λ begin.
          let b : Begin (front ++ f.line ∷ []) = subst Begin upto begin in
          f.here b.0 b.1 (subst (λ l. AreModule l b.1) (append_assoc front (f.line ∷ []) b.0) b.2);
    }

-- lines that are not read are wrong where the reader says
pub wrong : (lines : List (List ℕ)) (k : ℕ) → module_from 1 lines ≡ Err k → IsWrong lines k
wrong lines k e = (
  λ m are. let g : Err k ≡ Ok m = sym e ∙ module_read 1 lines m are in cc,
  ⊎_elim (λ f. inl (breaks lines k f)) (λ b. inr (b.0, (codes "spirv 1.0 0" ∷ [], _, b.1 (codes "spirv 1.0 0" ∷ []) _ least))) (module_fails 1 k lines e),
)

-- what the reader gives is so by the definition
pub answered : (given : Result Module AsmFault) (bytes : List ℕ) → Gives given (module_from 1 (lines_of bytes)) → Answers given bytes
answered (Ok m) bytes e = module_is 1 (lines_of bytes) m e
answered (Err (Line n)) bytes e = wrong (lines_of bytes) n e
answered (Err Memory) bytes e = tt

-- a text is one module's
pub one_module : (lines : List (List ℕ)) (m k : Module) → AreModule lines m → AreModule lines k → m ≡ k
one_module lines m k a b = let e : Ok m ≡ Ok k = sym (module_read 1 lines m a) ∙ module_read 1 lines k b in cc

-- Lines that begin a text do so up to each of them.
begin_upto : (n j : ℕ) (lines : List (List ℕ)) → n ≤ j → Begin (take j lines) → Begin (take n lines)
begin_upto n j lines less b =
    let t : take n (take j lines) ≡ take n lines = take_less n j lines less in (
      drop n (take j lines) ++ b.0,
      b.1,
      subst (λ l. AreModule l b.1)
          (ap (λ l. l ++ b.0) (sym (take-append-drop n (take j lines))) ∙ append_assoc (take n (take j lines)) (drop n (take j lines)) b.0 ∙ ap (λ l. l ++ (drop n (take j lines) ++ b.0)) t) b.2,
    )
  where
    take_less : (n j : ℕ) (lines : List (List ℕ)) → n ≤ j → take n (take j lines) ≡ take n lines
    take_less zero j lines less = refl
    take_less (suc n) zero lines less = absurd (omega arith)
    take_less (suc n) (suc j) [] less = refl
    take_less (suc n) (suc j) (line ∷ lines) less = ap (λ l. line ∷ l) (take_less n j lines (omega arith))

whole_begins : (n : ℕ) (lines : List (List ℕ)) → Begin lines → Begin (take n lines)
whole_begins n lines b =
    (drop n lines ++ b.0, b.1, subst (λ l. AreModule l b.1) (ap (λ l. l ++ b.0) (sym (take-append-drop n lines)) ∙ append_assoc (take n lines) (drop n lines) b.0) b.2)

not_less : (lines : List (List ℕ)) (n k : ℕ) → BreaksAt lines n → BreaksAt lines k → n < k → ⊥
not_less lines n k a b less = a.here (begin_upto n (k - 1) lines (omega arith) b.before)

-- lines are wrong in one place
pub one_place : (lines : List (List ℕ)) (n k : ℕ) → IsWrong lines n → IsWrong lines k → n ≡ k
one_place lines n k a b = ⊎_elim (λ p. ⊎_elim (λ q. order p q) (λ q. absurd (p.here (whole_begins n lines q.1))) b.1)
    (λ p. ⊎_elim (λ q. absurd (q.here (whole_begins k lines p.1))) (λ q. p.0 ∙ sym q.0) b.1) a.1
  where
    order : BreaksAt lines n → BreaksAt lines k → n ≡ k
    order p q = ⊎_elim (λ e. e) (λ o. ⊎_elim (λ l. absurd (not_less lines n k p q l)) (λ l. absurd (not_less lines k n q p l)) o) (cases_order n k)
