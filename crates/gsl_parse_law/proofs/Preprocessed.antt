-- What holds of the tokens of a source and of numbers holds of all that its unit gives out.
use Rattle.std.proofs.Common.{ℕ, zero, suc, ◌-◌, Bool, true, false, cond, not, List, [], ◌∷◌, ◌++◌, length, take, map, Option, Some, None, Ok, Err, arith}
use Rattle.std.specs.List.{AllByRecursion, prefix_len, swap_remove}
use Rattle.std.specs.Map.{keys_of}
use Rattle.std.specs.Prelude.{position, codes}
use Rattle.std.specs.Option.{option_map_or, is_some}
use Rattle.std.specs.Str.{bytes_eq}
use Rattle.std.proofs.lemmas.List.Elements.{All-from_recursion, recursion_from_All, All-get_or, All-set, All-take}
use Rattle.indexmap.specs.IndexMap.{insert_entry, swap_remove_entry}
use Rattle.gsl_base.specs.Checked.{Checked}
use Rattle.gsl_base.specs.declared.fault.Place.{Place}
use Rattle.gsl_base.specs.declared.token.Raw.{Raw}
use Rattle.gsl_base.specs.declared.token.RawKind.{RawKind}
use Rattle.gsl_macros.specs.declared.spelled.Mark.{Mark}
use Rattle.gsl_macros.specs.declared.spelled.Mark.TheVariants.{Opens, Closes, Parts, Stands}
use Rattle.gsl_macros.specs.declared.stream.Hid.{Hid}
use Rattle.gsl_macros.specs.declared.table.Macro.{Macro}
use Rattle.gsl_macros.specs.Expanding.{Seen, Numbered, fresh, Trace, whole, traced}
use Rattle.gsl_macros.specs.Spelling.{number, word_of, mark_of}
use Rattle.gsl_macros.specs.Tables.{Entries, found}
use Rattle.gsl_conditions.specs.Conditions.{condition}
use Rattle.gsl_pp.specs.declared.group.Group.{Group}
use Rattle.gsl_pp.specs.declared.state.State.{State}
use Rattle.gsl_pp.specs.Words.{is_reserved, conditional_of, other_of}
use Rattle.gsl_pp.specs.Definitions.{kinds, same_macro, has, listed_on, listed_by, listed, parameters_on, parameters, has_hash, object, function, has_list, meaning, given_on, given, defined_as, define, one_name, undef}
use Rattle.gsl_pp.specs.Directives.{is_live, outermost, with_left, with_groups, opened, skipped, open_if, open_by, turned, elif_on, else_on, endif_on, bare, extension, last_line, line_of, line, tabled, other, unless_skipped, directed_by, directed}
use Rattle.gsl_pp.specs.Unit.{is_directive, goes_on_line, goes_on_text, then_on, then_from, at_end, unit_from, initial, versioned, unit_of}
use Rattle.gsl_parse_law.proofs.Given.{all_joined, Holds, holds_then, holds_behind, holds_if, AllOf, AllRaws, OfMacro, OfTable, after_of, traced_of}

-- ---- lists

swapped : {A : Type 0} (Q : A → Type 0) (x : A) (xs : List A) (i : ℕ) → AllByRecursion Q (x ∷ xs) → AllByRecursion Q (swap_remove (x ∷ xs) i x)
swapped Q x xs i are =
    let all = All-from_recursion Q (x ∷ xs) are in
    recursion_from_All Q _ (All-take Q (length (x ∷ xs) - 1) _ (All-set Q (x ∷ xs) i _ (All-get_or Q (x ∷ xs) (length (x ∷ xs) - 1) x (omega arith) all) all))

taken_all : {A : Type 0} (Q : A → Type 0) (n : ℕ) (xs : List A) → AllByRecursion Q xs → AllByRecursion Q (take n xs)
taken_all Q n xs are = recursion_from_All Q _ (All-take Q n xs (All-from_recursion Q xs are))

swapped_by : {A : Type 0} (Q : A → Type 0) (x : A) (xs : List A) (o : Option ℕ) → AllByRecursion Q (x ∷ xs) → AllByRecursion Q (option_map_or (λ i. swap_remove (x ∷ xs) i x) o (x ∷ xs))
swapped_by Q x xs None are = are
swapped_by Q x xs (Some i) are = swapped Q x xs i are

either : {A : Type 0} (Q : A → Type 0) (b : Bool) (x y : A) → Q x → Q y → Q (cond b x y)
either Q true x y h g = h
either Q false x y h g = g

module _ (P : RawKind → Type 0) where
  abbrev Raws : List Raw → Type 0
  Raws = AllRaws P

  abbrev Table : Entries → Type 0
  Table = OfTable P

  abbrev Entry : List ℕ × Macro → Type 0
  Entry e = OfMacro P e.1

  -- ---- definitions

  kinds_all : (raws : List Raw) → Raws raws → AllByRecursion P (kinds raws)
  kinds_all [] all = tt
  kinds_all (r ∷ raws) all = (all.0, kinds_all raws all.1)

  -- A list of parameters leaves what stands behind it. The words that say what is read have a type that `gsl_pp` keeps to itself, so it is spoken of what is made of it.
  list_on : (place : Place) (names : List (List ℕ)) (more : List Raw) (m : Mark) → Holds (OfMacro P) (function place (listed names more)) → Raws more
      → Holds (OfMacro P) (function place (listed_on (λ names. listed names more) names more m))
  list_on place names more Closes next all = holds_if (OfMacro P) (has_hash more) _ _ tt (kinds_all more all)
  list_on place names more Parts next all = next
  list_on place names more Opens next all = tt
  list_on place names more Stands next all = tt

  list_by : (place : Place) (names : List (List ℕ)) (more : List Raw) (name : Option (List ℕ)) (m : Mark) → ((names : List (List ℕ)) → Holds (OfMacro P) (function place (listed names more))) → Raws more
      → Holds (OfMacro P) (function place (listed_by (λ names. listed names more) names more name m))
  list_by place names more None m next all = tt
  list_by place names more (Some name) m next all =
      either (λ l. Holds (OfMacro P) (function place l)) (has names name) _ _ tt (list_on place (names ++ name ∷ []) more m (next (names ++ name ∷ [])) all)

  listed_all : (place : Place) (names : List (List ℕ)) (raws : List Raw) → Raws raws → Holds (OfMacro P) (function place (listed names raws))
  unfolding listed
  listed_all place names [] all = tt
  listed_all place names (a ∷ []) all = tt
  listed_all place names (a ∷ b ∷ more) all = list_by place names more (word_of a.kind) (mark_of b.kind) (λ names. listed_all place names more all.1.1) all.1.1

  parameters_by : (place : Place) (raws more : List Raw) (m : Mark) → Raws raws → Raws more → Holds (OfMacro P) (function place (parameters_on raws more m))
  parameters_by place raws more Closes all are = holds_if (OfMacro P) (has_hash more) _ _ tt (kinds_all more are)
  parameters_by place raws more Opens all are = listed_all place [] raws all
  parameters_by place raws more Parts all are = listed_all place [] raws all
  parameters_by place raws more Stands all are = listed_all place [] raws all

  function_all : (place : Place) (raws : List Raw) → Raws raws → Holds (OfMacro P) (function place (parameters raws))
  function_all place [] all = tt
  function_all place (a ∷ more) all = parameters_by place (a ∷ more) more (mark_of a.kind) all all.1

  object_all : (place : Place) (body : List Raw) → Raws body → Holds (OfMacro P) (object place body)
  object_all place body all = holds_if (OfMacro P) (has_hash body) _ _ tt (kinds_all body all)

  meaning_all : (place : Place) (raws : List Raw) → Raws raws → Holds (OfMacro P) (meaning place raws)
  meaning_all place [] all = object_all place [] tt
  meaning_all place (r ∷ more) all =
      holds_if (OfMacro P) (has_list r) (function place (parameters more)) (object place (r ∷ more)) (function_all place more all.1) (object_all place (r ∷ more) all)

  put_if : (b : Bool) (e : List ℕ × Macro) (table more : Entries) (m : Macro) → OfMacro P m → Table (e ∷ table) → Table more → Table (cond b ((e.0, m) ∷ table) (e ∷ more))
  put_if true e table more m is all are = (is, all.1)
  put_if false e table more m is all are = (all.0, are)

  inserted : (table : Entries) (name : List ℕ) (m : Macro) → OfMacro P m → Table table → Table (insert_entry bytes_eq table name m)
  inserted [] name m is all = (is, tt)
  inserted (e ∷ table) name m is all = put_if (bytes_eq name e.0) e table (insert_entry bytes_eq table name m) m is all (inserted table name m is all.1)

  removed : (table : Entries) (name : List ℕ) → Table table → Table (swap_remove_entry (bytes_eq name) table)
  removed [] name all = tt
  removed (e ∷ table) name all = swapped_by Entry e table (position (bytes_eq name) (keys_of (e ∷ table))) all

  given_by : (place : Place) (table : Entries) (name : List ℕ) (m : Macro) (old : Option Numbered) → OfMacro P m → Table table → Holds Table (given_on place table name m old)
  given_by place table name m None is all = inserted table name m is all
  given_by place table name m (Some old) is all = holds_if Table (same_macro old.1 m) (Ok table) _ all tt

  defined_by : (place : Place) (table : Entries) (more : List Raw) (name : Option (List ℕ)) → Table table → Raws more → Holds Table (defined_as place table more name)
  defined_by place table more None all are = tt
  defined_by place table more (Some name) all are =
      holds_if Table (is_reserved name) _ _ tt
      (holds_then (OfMacro P) Table (meaning place more) (λ m. given place table name m) (meaning_all place more are) (λ m is. given_by place table name m (found table name) is all))

  define_all : (place : Place) (table : Entries) (raws : List Raw) → Table table → Raws raws → Holds Table (define place table raws)
  define_all place table [] all are = tt
  define_all place table (r ∷ more) all are = defined_by place table more (word_of r.kind) all are.1

  undef_all : (place : Place) (table : Entries) (raws : List Raw) → Table table → Holds Table (undef place table raws)
  undef_all place table raws all =
      holds_behind Table (one_name place raws) _ (λ name. holds_if Table (is_reserved name) _ (Ok (swap_remove_entry (bytes_eq name) table)) tt (removed table name all))

  -- ---- directives

  abbrev Fine : State → Type 0
  Fine s = Table s.macros.table

  open_all : (s : State) (place : Place) (more : List Raw) → Fine s → Holds Fine (open_if s place more)
  open_all s place more fine =
      holds_if Fine (is_live s.groups) _ (Ok (skipped s place)) (holds_behind Fine (condition s.macros place more s.left) (λ r. Ok (opened (with_left s r.1) place r.0)) (λ r. fine)) fine

  opens_all : (s : State) (place : Place) (more : List Raw) (b : Bool) → Fine s → Holds Fine (open_by s place more b)
  opens_all s place more b fine =
      holds_if Fine (is_live s.groups) _ (Ok (skipped s place))
      (holds_behind Fine (one_name place more) (λ name. Ok (opened s place (cond b (is_some (found s.macros.table name)) (not (is_some (found s.macros.table name)))))) (λ name. fine)) fine

  elif_all : (s : State) (place : Place) (more : List Raw) (groups : List Group) → Fine s → Holds Fine (elif_on s place more groups)
  elif_all s place more [] fine = tt
  elif_all s place more (g ∷ outer) fine =
      holds_if Fine g.last _ _ tt
      (holds_if Fine g.taken (Ok (with_groups s (turned g false true ∷ outer))) _ fine
      (holds_behind Fine (condition s.macros place more s.left) (λ r. Ok (with_groups (with_left s r.1) (turned g r.0 r.0 ∷ outer))) (λ r. fine)))

  else_all : (s : State) (place : Place) (groups : List Group) → Fine s → Holds Fine (else_on s place groups)
  else_all s place [] fine = tt
  else_all s place (g ∷ outer) fine = holds_if Fine g.last _ (Ok (with_groups s (record { place = g.place; live = not g.taken; taken = true; last = true } ∷ outer))) tt fine

  endif_all : (s : State) (place : Place) (groups : List Group) → Fine s → Holds Fine (endif_on s place groups)
  endif_all s place [] fine = tt
  endif_all s place (g ∷ outer) fine = fine

  bare_all : (place : Place) (more : List Raw) (later : Checked State) → Holds Fine later → Holds Fine (bare place more later)
  bare_all place [] later h = h
  bare_all place (r ∷ more) later h = tt

  line_all : (s : State) (place : Place) (more : List Raw) → Fine s → Holds Fine (line s place more)
  line_all s place more fine =
      holds_behind Fine (whole (traced s.macros 256 (map fresh more) s.left)) _
      (λ step. holds_behind Fine (line_of place (last_line place.line more) s.macros.shift.file step.0) _ (λ shift. fine))

  tabled_all : (s : State) (table : Checked Entries) → Holds Table table → Holds Fine (tabled s table)
  tabled_all s (Ok table) h = h
  tabled_all s (Err fault) h = tt

  -- what a word of a directive says, one after the other
  other_all : (s : State) (place : Place) (more : List Raw) (word : List ℕ) → Fine s → Raws more → Holds Fine (other s place more (other_of word))
  unfolding other_of
  other_all s place more word fine are =
      either (λ o. Holds Fine (other s place more o)) (bytes_eq word (codes "define")) _ _ (tabled_all s (define place s.macros.table more) (define_all place s.macros.table more fine are))
      (either (λ o. Holds Fine (other s place more o)) (bytes_eq word (codes "undef")) _ _ (tabled_all s (undef place s.macros.table more) (undef_all place s.macros.table more fine))
      (either (λ o. Holds Fine (other s place more o)) (bytes_eq word (codes "error")) _ _ tt
      (either (λ o. Holds Fine (other s place more o)) (bytes_eq word (codes "pragma")) _ _ fine
      (either (λ o. Holds Fine (other s place more o)) (bytes_eq word (codes "extension")) _ _ (holds_behind Fine (extension place more) (λ _. Ok s) (λ _. fine))
      (either (λ o. Holds Fine (other s place more o)) (bytes_eq word (codes "version")) _ _ tt
      (either (λ o. Holds Fine (other s place more o)) (bytes_eq word (codes "line")) _ _ (line_all s place more fine) tt))))))

  unless_all : (s : State) (place : Place) (more : List Raw) (word : List ℕ) → Fine s → Raws more → Holds Fine (unless_skipped s place more word (conditional_of word))
  unfolding conditional_of
  unless_all s place more word fine are =
      either (λ o. Holds Fine (unless_skipped s place more word o)) (bytes_eq word (codes "if")) _ _ (open_all s place more fine)
      (either (λ o. Holds Fine (unless_skipped s place more word o)) (bytes_eq word (codes "ifdef")) _ _ (opens_all s place more true fine)
      (either (λ o. Holds Fine (unless_skipped s place more word o)) (bytes_eq word (codes "ifndef")) _ _ (opens_all s place more false fine)
      (either (λ o. Holds Fine (unless_skipped s place more word o)) (bytes_eq word (codes "elif")) _ _ (elif_all s place more s.groups fine)
      (either (λ o. Holds Fine (unless_skipped s place more word o)) (bytes_eq word (codes "else")) _ _ (bare_all place more (else_on s place s.groups) (else_all s place s.groups fine))
      (either (λ o. Holds Fine (unless_skipped s place more word o)) (bytes_eq word (codes "endif")) _ _ (bare_all place more (endif_on s place s.groups) (endif_all s place s.groups fine))
      (holds_if Fine (is_live s.groups) (other s place more (other_of word)) (Ok s) (other_all s place more word fine are) fine))))))

  directed_on : (s : State) (place : Place) (more : List Raw) (word : Option (List ℕ)) → Fine s → Raws more → Holds Fine (directed_by s place more word)
  directed_on s place more None fine are = holds_if Fine (is_live s.groups) _ (Ok s) tt fine
  directed_on s place more (Some word) fine are = unless_all s place more word fine are

  directed_all : (s : State) (place : Place) (raws : List Raw) → Fine s → Raws raws → Holds Fine (directed s place raws)
  unfolding directed
  directed_all s place [] fine are = fine
  directed_all s place (r ∷ more) fine are = directed_on s place more (word_of r.kind) fine are.1

  -- ---- units

  fresh_all : (raws : List Raw) → Raws raws → AllOf P (map fresh raws)
  fresh_all [] are = tt
  fresh_all (r ∷ raws) are = (are.0, fresh_all raws are.1)

  then_by : (given : Seen) (ends : Checked ℕ) (later : ℕ → Trace) → AllOf P given → ((left : ℕ) → AllOf P (later left).given) → AllOf P (then_on given ends later).given
  then_by given (Ok left) later all next = all_joined (λ (t : Hid). P t.spelled) given (later left).given all (next left)
  then_by given (Err fault) later all next = all

  then_all : (trace : Trace) (later : ℕ → Trace) → AllOf P trace.given → ((left : ℕ) → AllOf P (later left).given) → AllOf P (then_from trace later).given
  unfolding then_from
  then_all trace later all next = then_by trace.given trace.ends later all next

  given_if : (b : Bool) (x y : Trace) → AllOf P x.given → AllOf P y.given → AllOf P (cond b x y).given
  given_if true x y h g = h
  given_if false x y h g = g

  end_all : (s : State) (g : Option Group) → AllOf P (at_end s g).given
  end_all s None = tt
  end_all s (Some g) = tt

  module _ (numbers : (n : ℕ) → P (number n)) where
    unit_from_all : (raws : List Raw) (skipped : ℕ) (s : State) → Raws raws → Fine s → AllOf P (unit_from raws skipped s).given
    unfolding unit_from
    unit_from_all [] skipped s are fine = end_all s (outermost s.groups)
    unit_from_all (r ∷ raws) (suc skipped) s are fine = unit_from_all raws skipped s are.1 fine
    unit_from_all (r ∷ raws) zero s are fine =
        let n = prefix_len goes_on_line raws in
        let m = prefix_len goes_on_text raws in
        given_if (is_directive r) _ _
        (after_of P numbers Fine (λ s. unit_from raws n s) (directed s r.place (take n raws)) (directed_all s r.place (take n raws) fine (taken_all (λ (r : Raw). P r.kind) n raws are.1)) (λ s fine. unit_from_all raws n s are.1 fine))
        (given_if (is_live s.groups) _ _
        (then_all (traced s.macros 256 (map fresh (r ∷ take m raws)) s.left) (λ left. unit_from raws m (with_left s left))
        (traced_of P numbers s.macros 256 (map fresh (r ∷ take m raws)) s.left fine (fresh_all (r ∷ take m raws) (are.0, taken_all (λ (r : Raw). P r.kind) m raws are.1)))
        (λ left. unit_from_all raws m (with_left s left) are.1 fine))
        (unit_from_all raws m s are.1 fine))

    any_holds : (c : Checked (Unit {0})) → Holds (λ _. Unit {0}) c
    any_holds (Ok x) = tt
    any_holds (Err fault) = tt

    pub unit_all : (unit : ℕ) (raws : List Raw) → Raws raws → AllOf P (unit_of unit raws).given
    unfolding unit_of
    unit_all unit [] are = tt
    unit_all unit (r ∷ raws) are =
        let n = prefix_len goes_on_line raws in
        given_if (is_directive r) _ _
        (after_of P numbers (λ _. Unit {0}) (λ _. unit_from raws n (initial unit)) (versioned r.place (take n raws)) (any_holds (versioned r.place (take n raws)))
        (λ _ _. unit_from_all raws n (initial unit) are.1 (tt, (tt, (tt, (tt, (tt, tt)))))))
        tt
