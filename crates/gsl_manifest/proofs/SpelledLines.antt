-- Lines and texts that may be spelled are read as they are meant.
use Rattle.std.proofs.Common.{◌≡◌, ℕ, ◌<◌, true, List, [], ◌∷◌, ◌++◌, length, map, Some, refl, ap, sym, ◌∙◌, arith, eqb, ltb, leb, cond, None, append_assoc, append-nil, codes}
use Rattle.std.proofs.lemmas.Bool.{and_from, or_parts, lt-ltb, le-leb, cond-true, cond-false}
use Rattle.std.proofs.lemmas.Str.{IsUtf8-append, is_utf8-from_IsUtf8, IsUtf8-from_is_utf8}
use Rattle.std.specs.List.{list_all, AllByRecursion}
use Rattle.std.specs.Str.{IsUtf8, is_utf8}
use Rattle.gsl_manifest.specs.declared.meaning.Keyword.TheVariants as word
use Rattle.gsl_manifest.specs.declared.meaning.Meaning.{Meaning}
use Rattle.gsl_manifest.specs.declared.meaning.Meaning.TheVariants.{Buffer, Push, In, Group, Local, Groups, Vertex, Instance, Choice, Steps}
use Rattle.gsl_text.specs.Lines.{onto, pieces, without_cr, ended, lines_of}
use Rattle.gsl_text.specs.Numbers.{◌>>=◌}
use Rattle.gsl_manifest.specs.Fields.{last, unsigned_at, path_at, some_numbers_at}
use Rattle.gsl_manifest.specs.Meanings.{keyword_of, buffer_at, in_at, choice_at, steps_at, meaning_of, most_steps}
use Rattle.gsl_manifest.specs.Manifests.{StandOnce, AreManifest, manifest_of}
use Rattle.gsl_manifest.specs.Spelling.{IsGap, IsPathText, WritesWords, Spells, SpellAll, IsText}
use Rattle.gsl_manifest.proofs.Printed.{ascii_text, word_read}
use Rattle.gsl_text.proofs.Splitting.{some_pieces, ended_more, ended_last, NoLf, pieces_line, lines_line, no_lf_append}
use Rattle.gsl_manifest.proofs.Spelled.{IsField, unsigned_field, word_field, gap_stops, field_at_is, unsigned_next, words_stop, some_are, words_within, last_is, three_are, path_is}

-- ---- what is spelled is UTF-8

spaces_ascii : (gap : List ℕ) → AllByRecursion (λ byte. byte ≡ 32) gap → list_all (λ b. ltb b 128) gap ≡ true
spaces_ascii [] all = refl
spaces_ascii (b ∷ gap) all = and_from _ _ (lt-ltb b 128 (omega (arith, all.0))) (spaces_ascii gap all.1)

gap_then : {gap rest : List ℕ} → IsGap gap → IsUtf8 rest → IsUtf8 (gap ++ rest)
gap_then {gap} {rest} is fine = IsUtf8-append gap rest (ascii_text gap (spaces_ascii gap is.spaces)) fine

field_then : {field rest : List ℕ} → IsField field → IsUtf8 rest → IsUtf8 (field ++ rest)
field_then {field} {rest} is fine = IsUtf8-append field rest (ascii_text field is.ascii) fine

words_text : {text ns : List ℕ} → WritesWords text ns → IsUtf8 text
words_text WritesWords.none = ascii_text [] refl
words_text (WritesWords.more is w ws) = gap_then is (field_then (word_field w) (words_text ws))

path_text : {path : List ℕ} → IsPathText path → IsUtf8 path
path_text {path} p = IsUtf8-from_is_utf8 path p.text

-- a line of a word and what stands behind it
line_of : (word rest : List ℕ) → list_all (λ b. ltb b 128) word ≡ true → IsUtf8 rest → is_utf8 (word ++ rest) ≡ true
line_of word rest ascii fine = is_utf8-from_IsUtf8 (word ++ rest) (IsUtf8-append word rest (ascii_text word ascii) fine)

field_text_of : {field : List ℕ} → IsField field → IsUtf8 field
field_text_of {field} is = ascii_text field is.ascii

-- ---- lines

pub line_is : (line : List ℕ) (m : Meaning) → Spells line m → meaning_of line ≡ Some m
unfolding meaning_of keyword_of buffer_at in_at choice_at steps_at
line_is line m Spells.empty = cond-true _ _ _ (is_utf8-from_IsUtf8 [] (ascii_text [] refl))
line_is line m (Spells.comment text fine) = cond-true _ _ _ fine
line_is line m (Spells.buffer {a} {b} {c} {first} {second} {path} {set} {binding} ga w gb v gc p) =
    let rest : List ℕ = a ++ (first ++ (b ++ (second ++ (c ++ path)))) in
    cond-true _ _ _ (line_of (codes "buffer") rest refl (gap_then ga (field_then (unsigned_field w) (gap_then gb (field_then (unsigned_field v) (gap_then gc (path_text p)))))))
    ∙ word_read _ rest (codes "buffer") word.Buffer (Buffer set binding path) (field_at_is (codes "buffer") rest refl (gap_stops a _ ga)) refl (
    ap (λ found. found >>= λ s. unsigned_at s.1 >>= λ k. path_at k.1 >>= λ q. Some (Buffer s.0 k.0 q)) (unsigned_next (b ++ (second ++ (c ++ path))) ga w (gap_stops b _ gb))
    ∙ ap (λ found. found >>= λ k. path_at k.1 >>= λ q. Some (Buffer set k.0 q)) (unsigned_next (c ++ path) gb v (gap_stops c _ gc))
    ∙ ap (λ found. found >>= λ q. Some (Buffer set binding q)) (path_is gc p)
    )
line_is line m (Spells.push {a} {path} ga p) =
    cond-true _ _ _ (line_of (codes "push") (a ++ path) refl (gap_then ga (path_text p)))
    ∙ word_read _ (a ++ path) (codes "push") word.Push (Push path) (field_at_is (codes "push") (a ++ path) refl (gap_stops a path ga)) refl (ap (λ found. found >>= λ q. Some (Push q)) (path_is ga p))
line_is line m (Spells.values {a} {first} {rest} {words} {location} ga w ws some few) =
    cond-true _ _ _ (line_of (codes "in") (a ++ (first ++ rest)) refl (gap_then ga (field_then (unsigned_field w) (words_text ws))))
    ∙ word_read _ (a ++ (first ++ rest)) (codes "in") word.In (In location words) (field_at_is (codes "in") (a ++ (first ++ rest)) refl (gap_stops a _ ga)) refl (
    ap (λ found. found >>= λ l. some_numbers_at 4 l.1 >>= λ ns. Some (In l.0 ns)) (unsigned_next rest ga w (words_stop ws))
    ∙ ap (λ found. found >>= λ ns. Some (In location ns)) (some_are ws 4 some few)
    )
line_is line m (Spells.group {rest} {ids} ws three) =
    cond-true _ _ _ (line_of (codes "group") rest refl (words_text ws))
    ∙ word_read _ rest (codes "group") word.Group (Group ids) (field_at_is (codes "group") rest refl (words_stop ws)) refl (ap (λ found. found >>= λ w. Some (Group w)) (three_are ws three))
line_is line m (Spells.local {rest} {ids} ws three) =
    cond-true _ _ _ (line_of (codes "local") rest refl (words_text ws))
    ∙ word_read _ rest (codes "local") word.Local (Local ids) (field_at_is (codes "local") rest refl (words_stop ws)) refl (ap (λ found. found >>= λ w. Some (Local w)) (three_are ws three))
line_is line m (Spells.groups {rest} {ids} ws three) =
    cond-true _ _ _ (line_of (codes "groups") rest refl (words_text ws))
    ∙ word_read _ rest (codes "groups") word.Groups (Groups ids) (field_at_is (codes "groups") rest refl (words_stop ws)) refl (ap (λ found. found >>= λ w. Some (Groups w)) (three_are ws three))
line_is line m (Spells.vertex {rest} {id} ws) =
    cond-true _ _ _ (line_of (codes "vertex") rest refl (words_text ws))
    ∙ word_read _ rest (codes "vertex") word.Vertex (Vertex id) (field_at_is (codes "vertex") rest refl (words_stop ws)) refl (ap (λ found. found >>= λ k. Some (Vertex k)) (last_is ws))
line_is line m (Spells.instance {rest} {id} ws) =
    cond-true _ _ _ (line_of (codes "instance") rest refl (words_text ws))
    ∙ word_read _ rest (codes "instance") word.Instance (Instance id) (field_at_is (codes "instance") rest refl (words_stop ws)) refl (ap (λ found. found >>= λ k. Some (Instance k)) (last_is ws))
line_is line m (Spells.choice {rest} {words} ws some) =
    cond-true _ _ _ (line_of (codes "choice") rest refl (words_text ws))
    ∙ word_read _ rest (codes "choice") word.Choice (Choice words) (field_at_is (codes "choice") rest refl (words_stop ws)) refl
    (ap (λ found. found >>= λ ns. Some (Choice ns)) (some_are ws (length rest) some (words_within ws)))
line_is line m (Spells.steps {a} {field} {n} ga w few) =
    let alone : a ++ (field ++ []) ≡ a ++ field = ap (λ f. a ++ f) (append-nil field) in
    cond-true _ _ _ (line_of (codes "steps") (a ++ field) refl (gap_then ga (field_text_of (unsigned_field w))))
    ∙ word_read _ (a ++ field) (codes "steps") word.Steps (Steps n) (field_at_is (codes "steps") (a ++ field) refl (gap_stops a field ga)) refl (
    ap (λ text. last (unsigned_at text) >>= λ k. cond (leb k most_steps) (Some (Steps k)) None) (sym alone)
    ∙ ap (λ found. last found >>= λ k. cond (leb k most_steps) (Some (Steps k)) None) (unsigned_next [] ga w refl) ∙ cond-true _ _ _ (le-leb _ _ few)
    )

-- ---- texts

pieces_alone : (line : List ℕ) → NoLf line → pieces line ≡ line ∷ []
pieces_alone [] none = refl
pieces_alone (b ∷ line) none =
    let parts = or_parts (eqb b 10) _ none in
    cond-false _ _ _ parts.0 ∙ ap (onto b) (pieces_alone line parts.1)

lines_alone : (line : List ℕ) → 0 < length line → NoLf line → lines_of line ≡ line ∷ []
unfolding lines_of
lines_alone line some none = ap ended (pieces_alone line none) ∙ ended_last line some

lines_cut : (line rest : List ℕ) → NoLf line → lines_of (line ++ 10 ∷ rest) ≡ without_cr line ∷ lines_of rest
unfolding lines_of
lines_cut line rest none =
    let next = some_pieces rest in
    ap ended (pieces_line line rest none) ∙ ended_more line (pieces rest) next.one next.others next.are

cut_cr : (line : List ℕ) → without_cr (line ++ 13 ∷ []) ≡ line
cut_cr [] = refl
cut_cr (b ∷ []) = refl
cut_cr (b ∷ c ∷ line) = ap (λ r. b ∷ r) (cut_cr (c ∷ line))

pub no_lines_of : lines_of [] ≡ []
unfolding lines_of
no_lines_of = refl

pub text_is : (bytes : List ℕ) (lines : List (List ℕ)) → IsText bytes lines → lines_of bytes ≡ lines
text_is bytes lines IsText.nothing = no_lines_of
text_is bytes lines (IsText.last line some none) = lines_alone line some none
text_is bytes lines (IsText.lf line {rest = rest} {lines = more} none end text) = lines_line line rest none end ∙ ap (λ r. line ∷ r) (text_is rest more text)
text_is bytes lines (IsText.cr_lf line {rest = rest} {lines = more} none text) =
    ap lines_of (sym (append_assoc line (13 ∷ []) (10 ∷ rest))) ∙ lines_cut (line ++ 13 ∷ []) rest (no_lf_append line (13 ∷ []) none refl)
    ∙ ap (λ l. l ∷ lines_of rest) (cut_cr line) ∙ ap (λ r. line ∷ r) (text_is rest more text)

all_mean : (lines : List (List ℕ)) (says : List Meaning) → SpellAll lines says → map meaning_of lines ≡ map Some says
all_mean [] [] spelled = refl
all_mean [] (m ∷ says) spelled = elim spelled [ ]
all_mean (line ∷ lines) [] spelled = elim spelled [ ]
all_mean (line ∷ lines) (m ∷ says) spelled =
    ap (λ f. f ∷ map meaning_of lines) (line_is line m spelled.0) ∙ ap (λ r. Some m ∷ r) (all_mean lines says spelled.1)

pub whole_is : (bytes : List ℕ) (lines : List (List ℕ)) (says : List Meaning) → IsText bytes lines → SpellAll lines says → StandOnce says → AreManifest (lines_of bytes) (manifest_of says)
whole_is bytes lines says text spelled once = record {
  says = says;
  means = ap (map meaning_of) (text_is bytes lines text) ∙ all_mean lines says spelled;
  once = once;
  value = refl;
}
