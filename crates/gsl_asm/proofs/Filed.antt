-- What is read from a text has a file.
use Rattle.std.proofs.Common.{◌≡◌, ℕ, ◌+◌, ◌^◌, ◌<◌, Bool, true, false, not, cond, ◌&&◌, eqb, ltb, List, [], ◌∷◌, ◌++◌, length, Option, Some, None, refl, ap, sym, subst, ◌∙◌, append_assoc}
use Rattle.std.proofs.lemmas.Bool.{and_parts, ltb-true, not-true}
use Rattle.std.proofs.lemmas.Str.{IsUtf8-from_is_utf8}
use Rattle.std.proofs.lemmas.List.Elements.{All-nil, All-cons, All-head, All-tail}
use Rattle.std.specs.Prelude.{All, Result, Ok, Err}
use Rattle.std.specs.List.{list_any}
use Rattle.std.specs.Option.{option_map}
use Rattle.std.specs.Str.{is_utf8}
use Rattle.gsl_instr.specs.declared.form.Form.{Form}
use Rattle.gsl_instr.specs.declared.slot.Slot.{Slot}
use Rattle.gsl_instr.specs.declared.slot.Slot.TheVariants.{Result as ResultSlot, Id, Forward, Number, Named, OfDecoration, Text}
use Rattle.gsl_instr.specs.declared.enumerant.decoration.TheConstants as decoration
use Rattle.gsl_instr.specs.Strings.{string_words}
use Rattle.gsl_instr.specs.Forms.{form_of, slots, rest, allows}
use Rattle.gsl_instr.specs.Fitting.{Takes, TakesWord, Fill, Fits}
use Rattle.gsl_text.specs.Numbers.{◌>>=◌}
use Rattle.gsl_words.specs.declared.target.Target.{Target}
use Rattle.gsl_words.specs.declared.module.Instr.{Instr}
use Rattle.gsl_words.specs.declared.module.Module.{Module}
use Rattle.gsl_words.specs.Instructions.{IsInTable, HasFile}
use Rattle.gsl_words.specs.Versions.{version_of}
use Rattle.gsl_asm.specs.declared.word.Word.{Word}
use Rattle.gsl_asm.specs.declared.word.Word.TheVariants.{Plain, Quoted}
use Rattle.gsl_asm.specs.Instructions.{last_of, place_of}
use Rattle.gsl_asm.specs.Names.{opcode_of}
use Rattle.gsl_asm.proofs.Binds.{bind_some, cond_some}
use Rattle.gsl_asm.proofs.Operated.{no_zero}
use Rattle.gsl_asm.specs.Reading.{one, operand_of, more_of, fixed_of, ahead, Fixed, args_of, behind_fixed, counted, instr_with, placed, formed, named, behind_result, instr_of, instrs_of, line_words, line_instrs, code_before, body, with_head, behind_head, first_head, module_from}

one_word : (found : Option ℕ) (args more : List ℕ) (Then : List ℕ → Type 0) → one found ≡ Some args → Then more → TakesWord (args ++ more) Then
one_word None args more Then e then = absurd (cc)
one_word (Some n) args more Then e then =
    let same : n ∷ [] ≡ args = cc in
    (n, more, ap (λ a. a ++ more) (sym same), then)

of_decoration : (t : Bool) (a b : Option ℕ) (args more : List ℕ) (Then : List ℕ → Type 0) → cond t (one a) (one b) ≡ Some args → Then more → TakesWord (args ++ more) Then
of_decoration true a b args more Then e then = one_word a args more Then e then
of_decoration false a b args more Then e then = one_word b args more Then e then

-- an operand stands in front
takes : (target : Target) (last : ℕ) (slot : Slot) (word : Word) (args more : List ℕ) (Then : List ℕ → Type 0) → operand_of target last slot word ≡ Some args → Then more → Takes slot (args ++ more) Then
unfolding operand_of
takes target last ResultSlot (Plain w) args more Then e then = one_word _ args more Then e then
takes target last Id (Plain w) args more Then e then = one_word _ args more Then e then
takes target last Forward (Plain w) args more Then e then = one_word _ args more Then e then
takes target last Number (Plain w) args more Then e then = one_word _ args more Then e then
takes target last (Named k) (Plain w) args more Then e then = one_word _ args more Then e then
takes target last OfDecoration (Plain w) args more Then e then = of_decoration (eqb last decoration.BUILT_IN) _ _ args more Then e then
takes target last Text (Plain w) args more Then e then = absurd (cc)
takes target last ResultSlot (Quoted b) args more Then e then = absurd (cc)
takes target last Id (Quoted b) args more Then e then = absurd (cc)
takes target last Forward (Quoted b) args more Then e then = absurd (cc)
takes target last Number (Quoted b) args more Then e then = absurd (cc)
takes target last (Named k) (Quoted b) args more Then e then = absurd (cc)
takes target last OfDecoration (Quoted b) args more Then e then = absurd (cc)
takes target last Text (Quoted b) args more Then e then =
    let c = cond_some (is_utf8 b && not (list_any (λ byte. eqb byte 0) b)) (string_words b) args e in
    let p = and_parts (is_utf8 b) (not (list_any (λ byte. eqb byte 0) b)) c.0 in
    (b, more, (IsUtf8-from_is_utf8 b p.0, no_zero b (not-true _ p.1)), ap (λ a. a ++ more) (sym c.1), then)

ahead_some : (args : List ℕ) (found : Option Fixed) (fixed : Fixed) → ahead args found ≡ Some fixed → (f : Fixed) × (found ≡ Some f) × (fixed.0 ≡ args ++ f.0)
ahead_some args None fixed e = absurd (cc)
ahead_some args (Some f) fixed e =
    let same : (args ++ f.0, f.1, f.2) ≡ fixed = cc in
    (f, refl, ap (λ (x : Fixed). x.0) (sym same))

fills : (target : Target) (slots : List Slot) (last : ℕ) (words : List Word) (fixed : Fixed) (more : List ℕ) → fixed_of target slots last words ≡ Some fixed → Fill slots (fixed.0 ++ more) more
unfolding fixed_of
fills target [] last words fixed more e =
    let same : ([], last, words) ≡ fixed = cc in
    ap (λ (x : Fixed). x.0 ++ more) (sym same)
fills target (slot ∷ slots) last [] fixed more e = absurd (cc)
fills target (slot ∷ slots) last (word ∷ words) fixed more e =
    let b = bind_some (operand_of target last slot word) (λ args. ahead args (fixed_of target slots (last_of args) words)) fixed e in
    let a = ahead_some b.0 (fixed_of target slots (last_of b.0) words) fixed b.2 in
    let inner : Fill slots (a.0.0 ++ more) more = fills target slots (last_of b.0) words a.0 more a.1 in
    let whole : b.0 ++ (a.0.0 ++ more) ≡ fixed.0 ++ more = sym (append_assoc b.0 a.0.0 more) ∙ ap (λ l. l ++ more) (sym a.2) in
    subst (λ l. Takes slot l (λ behind. Fill slots behind more)) whole (takes target last slot word b.0 (a.0.0 ++ more) (λ behind. Fill slots behind more) b.1 inner)

formed_fits : (target : Target) (op : ℕ) (form : Form) (words : List Word) (args : List ℕ) → form_of op ≡ Some form → args_of target form words ≡ Some args → 1 + length args < 2 ^ 16 → Fits op args
unfolding args_of
formed_fits target op form words args found e short =
    let b = bind_some (fixed_of target (slots form) 0 words) (behind_fixed target (rest form)) args e in
    let m = bind_some (more_of target (rest form) false b.0.1 b.0.2) (counted (rest form) b.0.0) args b.2 in
    let c = cond_some (allows (rest form) (length m.0)) (b.0.0 ++ m.0) args m.2 in
    record {
      form = form;
      found = found;
      more = m.0;
      fixed = subst (λ l. Fill (slots form) l m.0) c.1 (fills target (slots form) 0 words b.0 m.0 b.1);
      follow = c.0;
      short = short;
    }

with_is : (op : ℕ) (args : List ℕ) (i : Instr) → instr_with op args ≡ Some i → (1 + length args < 2 ^ 16) × (record { op = op; args = args } ≡ i)
with_is op args i e = let c = cond_some (ltb (1 + length args) (2 ^ 16)) _ i e in (ltb-true _ _ c.0, c.1)

named_fits : (target : Target) (result : Option (List ℕ)) (name : List ℕ) (words : List Word) (i : Instr) → named target result name words ≡ Some i → IsInTable i
named_fits target result name words i e =
    let o = bind_some (opcode_of name) (λ op. form_of op >>= formed target op result words) i e in
    let f = bind_some (form_of o.0) (formed target o.0 result words) i o.2 in
    let p = bind_some (placed (place_of (slots f.0)) result words) (λ ws. args_of target f.0 ws >>= instr_with o.0) i f.2 in
    let a = bind_some (args_of target f.0 p.0) (instr_with o.0) i p.2 in
    let w = with_is o.0 a.0 i a.2 in
    subst IsInTable w.1 (formed_fits target o.0 f.0 p.0 a.0 f.1 a.1 w.0)

behind_fits : (target : Target) (result : List ℕ) (words : List Word) (i : Instr) → behind_result target result words ≡ Some i → IsInTable i
behind_fits target result [] i e = absurd (cc)
behind_fits target result (Quoted b ∷ words) i e = absurd (cc)
behind_fits target result (Plain s ∷ []) i e = absurd (cc)
behind_fits target result (Plain s ∷ Quoted b ∷ words) i e = absurd (cc)
behind_fits target result (Plain s ∷ Plain name ∷ words) i e = by_sign _ e
  where
    by_sign : (t : Bool) → cond t (named target (Some result) name words) None ≡ Some i → IsInTable i
    by_sign true f = named_fits target (Some result) name words i f
    by_sign false f = absurd (cc)

instr_fits : (target : Target) (word : Word) (words : List Word) (i : Instr) → instr_of target word words ≡ Some i → IsInTable i
instr_fits target (Quoted b) words i e = absurd (cc)
instr_fits target (Plain first) words i e = by_first _ e
  where
    by_first : (t : Bool) → cond t (behind_result target first words) (named target None first words) ≡ Some i → IsInTable i
    by_first true f = behind_fits target first words i f
    by_first false f = named_fits target None first words i f

abbrev AllIn : List Instr → Type 0
AllIn code = All IsInTable code

words_fit : (target : Target) (words : List Word) (code : List Instr) → instrs_of target words ≡ Some code → AllIn code
words_fit target [] code e = let same : [] ≡ code = cc in subst AllIn same (All-nil IsInTable)
words_fit target (word ∷ words) code e = by_instr (instr_of target word words) (instr_fits target word words) e
  where
    by_instr : (found : Option Instr) → ((i : Instr) → found ≡ Some i → IsInTable i) → option_map (λ instr. instr ∷ []) found ≡ Some code → AllIn code
    by_instr None fit f = absurd (cc)
    by_instr (Some i) fit f = let same : i ∷ [] ≡ code = cc in subst AllIn same (All-cons IsInTable i [] (fit i refl) (All-nil IsInTable))

line_fits : (target : Target) (line : List ℕ) (code : List Instr) → line_instrs target line ≡ Some code → AllIn code
unfolding line_instrs
line_fits target line code e = let b = bind_some (line_words line) (instrs_of target) code e in words_fit target b.0 code b.2

both_in : (a b : List Instr) → AllIn a → AllIn b → AllIn (a ++ b)
both_in [] b x y = y
both_in (i ∷ a) b x y = All-cons IsInTable i (a ++ b) (All-head IsInTable i a x) (both_in a b (All-tail IsInTable i a x) y)

body_fits : (target : Target) (n : ℕ) (lines : List (List ℕ)) (code : List Instr) → body target n lines ≡ Ok code → AllIn code
body_fits target n [] code e = let same : [] ≡ code = cc in subst AllIn same (All-nil IsInTable)
body_fits target n (line ∷ lines) code e = by_line (line_instrs target line) (line_fits target line) (λ c f. body_fits target (n + 1) lines c f) e
  where
    by_body : (here : List Instr) (later : Result (List Instr) ℕ) → AllIn here → ((c : List Instr) → later ≡ Ok c → AllIn c) → code_before here later ≡ Ok code → AllIn code
    by_body here (Ok more) fit later f = let same : here ++ more ≡ code = cc in subst AllIn same (both_in here more fit (later more refl))
    by_body here (Err k) fit later f = absurd (cc)

    by_line : (found : Option (List Instr)) → ((c : List Instr) → found ≡ Some c → AllIn c) → ((c : List Instr) → body target (n + 1) lines ≡ Ok c → AllIn c) → elim found as (λ _. Result (List Instr) ℕ) [ Some c ↦ code_before c (body target (n + 1) lines) | None ↦ Err n ] ≡ Ok code → AllIn code
    by_line None fit later f = absurd (cc)
    by_line (Some here) fit later f = by_body here (body target (n + 1) lines) (fit here refl) later f

-- a module that was read has a file
pub module_filed : (n : ℕ) (lines : List (List ℕ)) (m : Module) → module_from n lines ≡ Ok m → HasFile m
module_filed n [] m e = absurd (cc)
module_filed n (line ∷ lines) m e = by_head (first_head line) (λ f. module_filed (n + 1) lines m f) e
  where
    by_code : (head : Target × ℕ) (found : Result (List Instr) ℕ) → ((c : List Instr) → found ≡ Ok c → AllIn c) → with_head head found ≡ Ok m → HasFile m
    by_code head (Ok code) fit f = let same : record { version = version_of head.0; bound = head.1; instrs = code } ≡ m = cc in subst HasFile same (record { version = (head.0, refl); instrs = fit code refl })
    by_code head (Err k) fit f = absurd (cc)

    by_head : (found : Option (Option (Target × ℕ))) → (module_from (n + 1) lines ≡ Ok m → HasFile m) → behind_head found n (module_from (n + 1) lines) (λ target. body target (n + 1) lines) ≡ Ok m → HasFile m
    by_head None later f = absurd (cc)
    by_head (Some None) later f = later f
    by_head (Some (Some head)) later f = by_code head (body head.0 (n + 1) lines) (body_fits head.0 (n + 1) lines) f
