-- What holds of the tokens of a segment, of the bodies of all macros and of numbers, holds of all tokens that replacement gives out.
use Rattle.std.proofs.Common.{ℕ, zero, suc, ◌+◌, ◌-◌, Bool, true, false, cond, ◌==◌, nat_lt, List, [], ◌∷◌, ◌++◌, length, Option, Some, None, Ok, Err}
use Rattle.std.specs.List.{AllByRecursion}
use Rattle.std.specs.Map.{lookup, keys_of}
use Rattle.std.specs.Prelude.{position}
use Rattle.std.specs.Str.{bytes_eq}
use Rattle.gsl_base.specs.Checked.{Checked, ◌>>=◌}
use Rattle.gsl_base.specs.declared.fault.Place.{Place}
use Rattle.gsl_base.specs.declared.token.Raw.{Raw}
use Rattle.gsl_base.specs.declared.token.RawKind.{RawKind}
use Rattle.gsl_macros.specs.declared.spelled.Mark.{Mark}
use Rattle.gsl_macros.specs.declared.spelled.Mark.TheVariants.{Opens, Closes, Parts, Stands}
use Rattle.gsl_macros.specs.declared.stream.Hid.{Hid}
use Rattle.gsl_macros.specs.declared.table.Macro.{Macro}
use Rattle.gsl_macros.specs.declared.table.Macro.TheVariants.{Line, File, Number, Object, Function}
use Rattle.gsl_macros.specs.declared.table.Macros.{Macros}
use Rattle.gsl_macros.specs.Hiding.{among, shared}
use Rattle.gsl_macros.specs.Spelling.{number, word_of, mark_of}
use Rattle.gsl_macros.specs.Tables.{Entries, both, found, line_shown}
use Rattle.gsl_macros.specs.Expanding.{Seen, Numbered, unless_hidden, named_by, is_used, if_used, use_of, taken, Split, within, ends_one, Parted, parted, split_on, split, arguments, fits, hidden, arg_of, arg_by, or_plain, piece, filled, Step, put, Expander, each, called_on, object, replaced_by, replaced, Trace, after, move_by, moves, run, whole, expander, traced}

-- ---- lists and answers

pub all_joined : {A : Type 0} (Q : A → Type 0) (xs ys : List A) → AllByRecursion Q xs → AllByRecursion Q ys → AllByRecursion Q (xs ++ ys)
all_joined Q [] ys all more = more
all_joined Q (x ∷ xs) ys all more = (all.0, all_joined Q xs ys all.1 more)

-- what is answered has the property, if anything is
abbrev pub Holds : {A : Type 0} → (A → Type 0) → Checked A → Type 0
Holds Q (Ok x) = Q x
Holds Q (Err fault) = Unit {0}

abbrev pub Has : {A : Type 0} → (A → Type 0) → Option A → Type 0
Has Q None = Unit {0}
Has Q (Some x) = Q x

pub holds_then : {A B : Type 0} (Q : A → Type 0) (R : B → Type 0) (c : Checked A) (f : A → Checked B) → Holds Q c → ((x : A) → Q x → Holds R (f x)) → Holds R (c >>= f)
holds_then Q R (Ok x) f h next = next x h
holds_then Q R (Err fault) f h next = tt

pub holds_behind : {A B : Type 0} (R : B → Type 0) (c : Checked A) (f : A → Checked B) → ((x : A) → Holds R (f x)) → Holds R (c >>= f)
holds_behind R (Ok x) f next = next x
holds_behind R (Err fault) f next = tt

pub holds_if : {A : Type 0} (Q : A → Type 0) (b : Bool) (x y : Checked A) → Holds Q x → Holds Q y → Holds Q (cond b x y)
holds_if Q true x y h g = h
holds_if Q false x y h g = g

pub has_if : {A : Type 0} (Q : A → Type 0) (b : Bool) (x y : Option A) → Has Q x → Has Q y → Has Q (cond b x y)
has_if Q true x y h g = h
has_if Q false x y h g = g

module _ (P : RawKind → Type 0) where
  abbrev pub AllOf : Seen → Type 0
  AllOf tokens = AllByRecursion (λ (t : Hid). P t.spelled) tokens

  abbrev pub AllRaws : List Raw → Type 0
  AllRaws raws = AllByRecursion (λ (r : Raw). P r.kind) raws

  abbrev pub OfMacro : Macro → Type 0
  OfMacro Line = Unit {0}
  OfMacro File = Unit {0}
  OfMacro (Number n) = Unit {0}
  OfMacro (Object body) = AllByRecursion P body
  OfMacro (Function params body) = AllByRecursion P body

  abbrev pub OfTable : Entries → Type 0
  OfTable table = AllByRecursion (λ (e : List ℕ × Macro). OfMacro e.1) table

  abbrev OfNumbered : Numbered → Type 0
  OfNumbered m = OfMacro m.1

  -- ---- which macro is replaced

  lookup_of : (test : List ℕ → Bool) (table : Entries) → OfTable table → Has OfMacro (lookup test table)
  lookup_of test [] all = tt
  lookup_of test (e ∷ table) all = has_if OfMacro (test e.0) (Some e.1) (lookup test table) all.0 (lookup_of test table all.1)

  both_of : (i : Option ℕ) (m : Option Macro) → Has OfMacro m → Has OfNumbered (both i m)
  both_of None m h = tt
  both_of (Some i) None h = tt
  both_of (Some i) (Some m) h = h

  pub found_of : (table : Entries) (name : List ℕ) → OfTable table → Has OfNumbered (found table name)
  found_of table name all = both_of (position (bytes_eq name) (keys_of table)) (lookup (bytes_eq name) table) (lookup_of (bytes_eq name) table all)

  shown_of : (hides : List ℕ) (m : Option Numbered) → Has OfNumbered m → Has OfNumbered (unless_hidden hides m)
  shown_of hides None h = tt
  shown_of hides (Some m) h = has_if OfNumbered (among m.0 hides) None (Some m) tt h

  named_of : (table : Entries) (hides : List ℕ) (name : Option (List ℕ)) → OfTable table → Has OfNumbered (named_by table hides name)
  named_of table hides None all = tt
  named_of table hides (Some name) all = shown_of hides (found table name) (found_of table name all)

  used_of : (m : Option Numbered) (rest : Seen) → Has OfNumbered m → Has OfNumbered (if_used m rest)
  used_of None rest h = tt
  used_of (Some m) rest h = has_if OfNumbered (is_used m.1 rest) (Some m) None h tt

  use_is : (table : Entries) (t : Hid) (rest : Seen) → OfTable table → Has OfNumbered (use_of table t rest)
  unfolding use_of
  use_is table t rest all = used_of (named_by table t.hides (word_of t.spelled)) rest (named_of table t.hides (word_of t.spelled) all)

  -- ---- arguments

  abbrev AllArgs : List Seen → Type 0
  AllArgs args = AllByRecursion AllOf args

  pub record OfSplit (s : Split) : Type 0 where
    pub first : AllOf s.first
    pub others : AllArgs s.others
    pub rest : AllOf s.rest

  abbrev OfParted : Parted → Type 0
  OfParted = Holds (Has OfSplit)

  within_of : (t : Hid) (p : Parted) → P t.spelled → OfParted p → OfParted (parted (within t) p)
  within_of t (Ok None) is h = tt
  within_of t (Ok (Some s)) is h = record { first = (is, h.first); others = h.others; rest = h.rest }
  within_of t (Err fault) is h = tt

  ends_of : (p : Parted) → OfParted p → OfParted (parted ends_one p)
  ends_of (Ok None) h = tt
  ends_of (Ok (Some s)) h = record { first = tt; others = (h.first, h.others); rest = h.rest }
  ends_of (Err fault) h = tt

  split_by : (later : ℕ → Parted) (t : Hid) (rest : Seen) (inner left : ℕ) (m : Mark) → P t.spelled → AllOf rest → ((n : ℕ) → OfParted (later n)) → OfParted (split_on later t rest inner left m)
  split_by later t rest inner left Opens is all next = within_of t (later (inner + 1)) is (next (inner + 1))
  split_by later t rest inner left Closes is all next =
      holds_if (Has OfSplit) (inner == 0) (Ok (Some (record { first = []; others = []; hides = t.hides; rest = rest; left = left }))) _
      (record { first = tt; others = tt; rest = all }) (within_of t (later (inner - 1)) is (next (inner - 1)))
  split_by later t rest inner left Parts is all next =
      holds_if (Has OfSplit) (inner == 0) _ _ (ends_of (later inner) (next inner)) (within_of t (later inner) is (next inner))
  split_by later t rest inner left Stands is all next = within_of t (later inner) is (next inner)

  split_of : (tokens : Seen) (inner left : ℕ) → AllOf tokens → OfParted (split tokens inner left)
  unfolding split
  split_of [] inner left all = tt
  split_of (t ∷ rest) inner left all =
      holds_behind (Has OfSplit) (taken t left) (λ now. split_on (λ inner. split rest inner now) t rest inner now (mark_of t.spelled))
      (λ now. split_by (λ inner. split rest inner now) t rest inner now (mark_of t.spelled) all.0 all.1 (λ n. split_of rest n now all.1))

  arguments_of : (tokens : Seen) (left : ℕ) → AllOf tokens → OfParted (arguments tokens left)
  arguments_of [] left all = tt
  arguments_of (t ∷ rest) left all = holds_behind (Has OfSplit) (taken t left) (λ now. split rest 0 now) (λ now. split_of rest 0 now all.1)

  -- ---- one replacement

  hidden_of : (place : Place) (more : List ℕ) (tokens : Seen) → AllOf tokens → AllOf (hidden place more tokens)
  hidden_of place more [] all = tt
  hidden_of place more (t ∷ tokens) all = (all.0, hidden_of place more tokens all.1)

  arg_is : (params : List (List ℕ)) (args : List Seen) (name : List ℕ) → AllArgs args → Has AllOf (arg_of params args name)
  arg_is [] args name all = tt
  arg_is (p ∷ params) [] name all = tt
  arg_is (p ∷ params) (a ∷ args) name all = has_if AllOf (bytes_eq p name) (Some a) (arg_of params args name) all.0 (arg_is params args name all.1)

  arg_found : (params : List (List ℕ)) (args : List Seen) (name : Option (List ℕ)) → AllArgs args → Has AllOf (arg_by params args name)
  arg_found params args None all = tt
  arg_found params args (Some name) all = arg_is params args name all

  or_plain_of : (place : Place) (k : RawKind) (arg : Option Seen) → P k → Has AllOf arg → AllOf (or_plain place k arg)
  or_plain_of place k None is h = (is, tt)
  or_plain_of place k (Some arg) is h = h

  filled_of : (params : List (List ℕ)) (args : List Seen) (place : Place) (more : List ℕ) (body : List RawKind) → AllArgs args → AllByRecursion P body → AllOf (filled params args place more body)
  unfolding filled
  filled_of params args place more [] all are = tt
  filled_of params args place more (k ∷ body) all are =
      all_joined (λ (t : Hid). P t.spelled) (hidden place more (piece params args place k)) (filled params args place more body)
      (hidden_of place more (piece params args place k) (or_plain_of place k (arg_by params args (word_of k)) are.0 (arg_found params args (word_of k) all)))
      (filled_of params args place more body all are.1)

  abbrev OfStep : Step → Type 0
  OfStep step = AllOf step.0

  put_of : (place : Place) (tokens rest : Seen) (left : ℕ) → AllOf tokens → AllOf rest → Holds OfStep (put place tokens rest left)
  put_of place tokens rest left all more =
      holds_if OfStep (nat_lt (length tokens) left) (Ok (tokens ++ rest, left - (length tokens + 1))) _ (all_joined (λ (t : Hid). P t.spelled) tokens rest all more) tt

  -- what expands tokens keeps the property
  abbrev Expands : Expander → Type 0
  Expands expand = (place : Place) (tokens : Seen) (left : ℕ) → AllOf tokens → Holds OfStep (expand place tokens left)

  each_of : (expand : Expander) (place : Place) (args : List Seen) (left : ℕ) → Expands expand → AllArgs args → Holds (λ (r : List Seen × ℕ). AllArgs r.0) (each expand place args left)
  unfolding each
  each_of expand place [] left keeps all = tt
  each_of expand place (a ∷ args) left keeps all =
      holds_then OfStep (λ (r : List Seen × ℕ). AllArgs r.0) (expand place a left) _ (keeps place a left all.0)
      (λ first is. holds_then (λ (r : List Seen × ℕ). AllArgs r.0) (λ (r : List Seen × ℕ). AllArgs r.0) (each expand place args first.1) _ (each_of expand place args first.1 keeps all.1)
      (λ others are. (is, are)))

  called_by : (expand : Expander) (t : Hid) (n : ℕ) (params : List (List ℕ)) (body : List RawKind) (s : Option Split) → Expands expand → AllByRecursion P body → Has OfSplit s → Holds OfStep (called_on expand t n params body s)
  called_by expand t n params body None keeps are h = tt
  called_by expand t n params body (Some s) keeps are h =
      holds_if OfStep (fits params (s.first ∷ s.others)) _ _
      (holds_then (λ (r : List Seen × ℕ). AllArgs r.0) OfStep (each expand t.place (s.first ∷ s.others) s.left) _ (each_of expand t.place (s.first ∷ s.others) s.left keeps (h.first, h.others))
      (λ r all. put_of t.place (filled params r.0 t.place (n ∷ shared t.hides s.hides) body) s.rest r.1 (filled_of params r.0 t.place (n ∷ shared t.hides s.hides) body all are) h.rest))
      tt

  object_of : (t : Hid) (n : ℕ) (body : List RawKind) (rest : Seen) (left : ℕ) → AllByRecursion P body → AllOf rest → Holds OfStep (object t n body rest left)
  object_of t n body rest left are all = put_of t.place (filled [] [] t.place (n ∷ t.hides) body) rest left (filled_of [] [] t.place (n ∷ t.hides) body tt are) all

  module _ (numbers : (n : ℕ) → P (number n)) where
    replaced_of : (expand : Expander) (macros : Macros) (t : Hid) (n : ℕ) (rest : Seen) (left : ℕ) (m : Macro) → Expands expand → OfMacro m → AllOf rest → Holds OfStep (replaced_by expand macros t n rest left m)
    replaced_of expand macros t n rest left Line keeps is all = object_of t n (number (line_shown macros.shift t.place.line) ∷ []) rest left (numbers _, tt) all
    replaced_of expand macros t n rest left File keeps is all = object_of t n (number macros.shift.file ∷ []) rest left (numbers _, tt) all
    replaced_of expand macros t n rest left (Number value) keeps is all = object_of t n (number value ∷ []) rest left (numbers _, tt) all
    replaced_of expand macros t n rest left (Object body) keeps is all = object_of t n body rest left is all
    replaced_of expand macros t n rest left (Function params body) keeps is all =
        holds_then (Has OfSplit) OfStep (arguments rest left) (λ s. called_on expand t n params body s) (arguments_of rest left all) (λ s h. called_by expand t n params body s keeps is h)

    replaced_is : (expand : Expander) (macros : Macros) (t : Hid) (m : Numbered) (rest : Seen) (left : ℕ) → Expands expand → OfNumbered m → AllOf rest → Holds OfStep (replaced expand macros t m rest left)
    unfolding replaced
    replaced_is expand macros t m rest left keeps is all = replaced_of expand macros t m.0 rest left m.1 keeps is all

    -- ---- moves

    pub after_of : {A : Type 0} (Q : A → Type 0) (later : A → Trace) (c : Checked A) → Holds Q c → ((x : A) → Q x → AllOf (later x).given) → AllOf (after later c).given
    after_of Q later (Ok x) h next = next x h
    after_of Q later (Err fault) h next = tt

    abbrev Moves : (Seen → ℕ → Trace) → Type 0
    Moves later = (tokens : Seen) (left : ℕ) → AllOf tokens → AllOf (later tokens left).given

    moved_by : (later : Seen → ℕ → Trace) (expand : Expander) (macros : Macros) (t : Hid) (rest : Seen) (left : ℕ) (m : Option Numbered) → Moves later → Expands expand → P t.spelled → AllOf rest → Has OfNumbered m
        → AllOf (move_by later expand macros t rest left m).given
    moved_by later expand macros t rest left None next keeps is all h = (is, next rest left all)
    moved_by later expand macros t rest left (Some m) next keeps is all h =
        after_of OfStep (λ (step : Step). later step.0 step.1) (replaced expand macros t m rest left) (replaced_is expand macros t m rest left keeps h all) (λ step are. next step.0 step.1 are)

    moves_of : (expand : Expander) (macros : Macros) (n : ℕ) (tokens : Seen) (left : ℕ) → Expands expand → OfTable macros.table → AllOf tokens → AllOf (moves expand macros n tokens left).given
    unfolding moves
    moves_of expand macros zero tokens left keeps table all = tt
    moves_of expand macros (suc n) [] left keeps table all = tt
    moves_of expand macros (suc n) (t ∷ rest) left keeps table all =
        after_of (λ _. Unit {0}) (λ now. move_by (moves expand macros n) expand macros t rest now (use_of macros.table t rest)) (taken t left) (any_holds (taken t left))
        (λ now _. moved_by (moves expand macros n) expand macros t rest now (use_of macros.table t rest) (λ tokens left are. moves_of expand macros n tokens left keeps table are) keeps all.0 all.1 (use_is macros.table t rest table))
      where
        any_holds : (c : Checked ℕ) → Holds (λ _. Unit {0}) c
        any_holds (Ok x) = tt
        any_holds (Err fault) = tt

    whole_by : (given : Seen) (ends : Checked ℕ) → AllOf given → Holds OfStep (whole (record { given = given; ends = ends }))
    whole_by given (Ok left) all = all
    whole_by given (Err fault) all = tt

    pub whole_of : (trace : Trace) → AllOf trace.given → Holds OfStep (whole trace)
    whole_of trace all = whole_by trace.given trace.ends all

    expander_of : (macros : Macros) (depth : ℕ) → OfTable macros.table → Expands (expander macros depth)
    unfolding expander
    expander_of macros zero table place tokens left all = tt
    expander_of macros (suc depth) table place tokens left all =
        whole_of (run (expander macros depth) macros tokens left) (moves_of (expander macros depth) macros (left + length tokens) tokens left (expander_of macros depth table) table all)

    pub traced_of : (macros : Macros) (depth : ℕ) (tokens : Seen) (left : ℕ) → OfTable macros.table → AllOf tokens → AllOf (traced macros depth tokens left).given
    unfolding traced
    traced_of macros depth tokens left table all = moves_of (expander macros depth) macros (left + length tokens) tokens left (expander_of macros depth table) table all
