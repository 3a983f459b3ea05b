-- The lines of what a writer prints.
use Rattle.std.proofs.Common.{◌≡◌, ℕ, ◌<◌, ◌≤◌, ◌^◌, List, [], ◌∷◌, ◌++◌, length, map, Some, refl, ap, sym, subst, ◌∙◌, arith, append_assoc, append-nil, codes}
use Rattle.std.proofs.lemmas.Bool.{or_from, cond-false}
use Rattle.std.specs.List.{flat_map, AllByRecursion}
use Rattle.std.specs.Fmt.{decimal}
use Rattle.std.specs.Str.Parse.{AllDigits}
use Rattle.gsl_manifest.specs.declared.meaning.Meaning.{Meaning}
use Rattle.gsl_manifest.specs.declared.meaning.Meaning.TheVariants.{Nothing, Buffer, Push, In, Group, Local, Groups, Vertex, Instance, Choice, Steps}
use Rattle.gsl_text.specs.Lines.{lines_of}
use Rattle.gsl_base.specs.Ranges.{AreWords}
use Rattle.gsl_manifest.specs.Meanings.{meaning_of}
use Rattle.gsl_manifest.specs.Manifests.{StandOnce, AreManifest, manifest_of}
use Rattle.gsl_manifest.specs.Printing.{field_text, line_text, printed, IsPath, AreSome, IsWritable}
use Rattle.gsl_text.proofs.Splitting.{NoLf, NoCr, lines_line, no_lf_append}
use Rattle.gsl_manifest.proofs.Printed.{decimal_digits, digit_above, one_fits}
use Rattle.gsl_manifest.proofs.SpelledLines.{line_is}
use Rattle.gsl_manifest.specs.Spelling.{WritesUnsigned, WritesWord, WritesWords, IsPathText, Spells, IsGap}

no_cr_append : (a b : List ℕ) → 0 < length b → NoCr b → NoCr (a ++ b)
no_cr_append [] b some end = end
no_cr_append (x ∷ []) [] some end = absurd (omega arith)
no_cr_append (x ∷ []) (y ∷ b) some end = ap (λ r. x ∷ r) end
no_cr_append (x ∷ z ∷ a) b some end = ap (λ r. x ∷ r) (no_cr_append (z ∷ a) b some end)

digits_no_lf : (ds : List ℕ) → AllDigits 10 ds → NoLf ds
digits_no_lf [] all = refl
digits_no_lf (d ∷ ds) all = or_from _ _ (digit_above d 10 all.0 (omega arith)) (digits_no_lf ds all.1)

digits_no_cr : (ds : List ℕ) → AllDigits 10 ds → NoCr ds
digits_no_cr [] all = refl
digits_no_cr (d ∷ []) all = cond-false _ _ _ (digit_above d 13 all.0 (omega arith))
digits_no_cr (d ∷ e ∷ ds) all = ap (λ r. d ∷ r) (digits_no_cr (e ∷ ds) all.1)

field_no_lf : (n : ℕ) → n < 2 ^ 32 → NoLf (field_text n)
field_no_lf n small = digits_no_lf (decimal n) (decimal_digits n small).all

field_no_cr : (n : ℕ) → n < 2 ^ 32 → NoCr (field_text n)
field_no_cr n small = let d = decimal_digits n small in no_cr_append (32 ∷ []) (decimal n) d.some (digits_no_cr (decimal n) d.all)

fields_no_lf : (ns : List ℕ) → AreWords ns → NoLf (flat_map field_text ns)
fields_no_lf [] fit = refl
fields_no_lf (n ∷ ns) fit = no_lf_append (field_text n) (flat_map field_text ns) (field_no_lf n fit.0) (fields_no_lf ns fit.1)

fields_no_cr : (ns : List ℕ) → AreWords ns → NoCr (flat_map field_text ns)
fields_no_cr [] fit = refl
fields_no_cr (n ∷ []) fit = subst NoCr (sym (append-nil (field_text n))) (field_no_cr n fit.0)
fields_no_cr (n ∷ m ∷ ns) fit = no_cr_append (field_text n) (flat_map field_text (m ∷ ns)) (omega arith) (fields_no_cr (m ∷ ns) fit.1)

some_fields : (ns : List ℕ) → 1 ≤ length ns → 0 < length (flat_map field_text ns)
some_fields [] some = absurd (omega arith)
some_fields (n ∷ ns) some = omega arith

line_no_lf : (m : Meaning) → IsWritable m → NoLf (line_text m)
line_no_lf Nothing can = refl
line_no_lf (Buffer set binding path) can =
    no_lf_append (field_text set) (field_text binding ++ 32 ∷ path) (field_no_lf set can.0) (no_lf_append (field_text binding) (32 ∷ path) (field_no_lf binding can.1) can.2.one_line)
line_no_lf (Push path) can = can.one_line
line_no_lf (In location words) can = no_lf_append (field_text location) (flat_map field_text words) (field_no_lf location can.0) (fields_no_lf words can.1.fit)
line_no_lf (Group ids) can = fields_no_lf ids can.fit
line_no_lf (Local ids) can = fields_no_lf ids can.fit
line_no_lf (Groups ids) can = fields_no_lf ids can.fit
line_no_lf (Vertex n) can = fields_no_lf (n ∷ []) (one_fits n can)
line_no_lf (Instance n) can = fields_no_lf (n ∷ []) (one_fits n can)
line_no_lf (Choice words) can = fields_no_lf words can.1
line_no_lf (Steps n) can = fields_no_lf (n ∷ []) (one_fits n (omega arith))

word_no_cr : (word : List ℕ) (ns : List ℕ) → 1 ≤ length ns → AreWords ns → NoCr (word ++ flat_map field_text ns)
word_no_cr word ns some fit = no_cr_append word (flat_map field_text ns) (some_fields ns some) (fields_no_cr ns fit)

path_no_cr : (path : List ℕ) → IsPath path → NoCr (32 ∷ path)
path_no_cr path is = no_cr_append (32 ∷ []) path is.some is.ends

line_no_cr : (m : Meaning) → IsWritable m → NoCr (line_text m)
line_no_cr Nothing can = refl
line_no_cr (Buffer set binding path) can =
    no_cr_append (codes "buffer") _ (omega arith) (no_cr_append (field_text set) (field_text binding ++ 32 ∷ path) (omega arith) (no_cr_append (field_text binding) (32 ∷ path) (omega arith) (path_no_cr path can.2)))
line_no_cr (Push path) can = no_cr_append (codes "push") _ (omega arith) (path_no_cr path can)
line_no_cr (In location words) can = no_cr_append (codes "in") _ (omega arith) (word_no_cr (field_text location) words can.1.some can.1.fit)
line_no_cr (Group ids) can = word_no_cr (codes "group") ids (omega (arith, can.some)) can.fit
line_no_cr (Local ids) can = word_no_cr (codes "local") ids (omega (arith, can.some)) can.fit
line_no_cr (Groups ids) can = word_no_cr (codes "groups") ids (omega (arith, can.some)) can.fit
line_no_cr (Vertex n) can = word_no_cr (codes "vertex") (n ∷ []) (omega arith) (one_fits n can)
line_no_cr (Instance n) can = word_no_cr (codes "instance") (n ∷ []) (omega arith) (one_fits n can)
line_no_cr (Choice words) can = word_no_cr (codes "choice") words can.0 can.1
line_no_cr (Steps n) can = word_no_cr (codes "steps") (n ∷ []) (omega arith) (one_fits n (omega arith))

-- the lines of what was printed
printed_lines : (says : List Meaning) → AllByRecursion IsWritable says → lines_of (printed says) ≡ map line_text says
unfolding lines_of
printed_lines [] can = refl
printed_lines (m ∷ says) can =
    ap lines_of (append_assoc (line_text m) (codes "\n") (printed says)) ∙ lines_line (line_text m) (printed says) (line_no_lf m can.0) (line_no_cr m can.0)
    ∙ ap (λ r. line_text m ∷ r) (printed_lines says can.1)

-- ---- a printed line is spelled as the format allows

space : IsGap (32 ∷ [])
space = record { some = omega arith; spaces = (refl, tt) }

printed_words : (ns : List ℕ) → AreWords ns → WritesWords (flat_map field_text ns) ns
printed_words [] fit = WritesWords.none
printed_words (n ∷ ns) fit = WritesWords.more space (WritesWord.unsigned (WritesUnsigned.decimal_digits n fit.0)) (printed_words ns fit.1)

printed_path : (path : List ℕ) → IsPath path → IsPathText path
printed_path path is = record { some = is.some; text = is.text; begins = is.begins }

three : (ids : List ℕ) → AreSome 3 3 ids → length ids ≡ 3
three ids are = omega (arith, are.some, are.most)

printed_spells : (m : Meaning) → IsWritable m → Spells (line_text m) m
printed_spells Nothing can = Spells.empty
printed_spells (Buffer set binding path) can =
    Spells.buffer space (WritesUnsigned.decimal_digits set can.0) space (WritesUnsigned.decimal_digits binding can.1) space (printed_path path can.2)
printed_spells (Push path) can = Spells.push space (printed_path path can)
printed_spells (In location words) can =
    Spells.values space (WritesUnsigned.decimal_digits location can.0) (printed_words words can.1.fit) can.1.some can.1.most
printed_spells (Group ids) can = Spells.group (printed_words ids can.fit) (three ids can)
printed_spells (Local ids) can = Spells.local (printed_words ids can.fit) (three ids can)
printed_spells (Groups ids) can = Spells.groups (printed_words ids can.fit) (three ids can)
printed_spells (Vertex n) can = Spells.vertex (printed_words (n ∷ []) (one_fits n can))
printed_spells (Instance n) can = Spells.instance (printed_words (n ∷ []) (one_fits n can))
printed_spells (Choice words) can = Spells.choice (printed_words words can.1) can.0
printed_spells (Steps n) can =
    subst (λ fields. Spells (codes "steps" ++ fields) (Steps n)) (sym (append-nil (field_text n))) (Spells.steps space (WritesUnsigned.decimal_digits n (omega arith)) can)

lines_mean : (says : List Meaning) → AllByRecursion IsWritable says → map meaning_of (map line_text says) ≡ map Some says
lines_mean [] can = refl
lines_mean (m ∷ says) can = ap (λ f. f ∷ map meaning_of (map line_text says)) (line_is (line_text m) m (printed_spells m can.0)) ∙ ap (λ r. Some m ∷ r) (lines_mean says can.1)

-- what was printed is the manifest that was meant
pub written : (says : List Meaning) → AllByRecursion IsWritable says → StandOnce says → AreManifest (lines_of (printed says)) (manifest_of says)
written says can once = record {
  says = says;
  means = ap (map meaning_of) (printed_lines says can) ∙ lines_mean says can;
  once = once;
  value = refl;
}
