-- The slow program of a module against the module's meaning.
use Rattle.std.proofs.Common.{◌≡◌, ℕ, ◌≤◌, List, [], ◌∷◌, length, get_or, drop, Option, Some, None, Bool, true, false, cond, set as put_at, refl, ap, sym, ◌∙◌, arith}
use Rattle.std.specs.Prelude.{option_and_then, position}
use Rattle.gsl_base.specs.declared.input.Buffer.{Buffer}
use Rattle.gsl_base.specs.declared.input.Input.{Input}
use Rattle.gsl_base.specs.declared.input.Located.{Located}
use Rattle.gsl_base.specs.declared.input.Output.{Output}
use Rattle.gsl_words.specs.declared.module.Module.{Module}
use Rattle.gsl_slow.specs.declared.machine.Entry.{Entry}
use Rattle.gsl_instr.specs.declared.enumerant.decoration.TheConstants as decoration
use Rattle.gsl_cmd.specs.Lowering.{Code}
use Rattle.gsl_words.specs.Words.{word_at, put_word}
use Rattle.gsl_cmd.specs.Buffers.{is_at, bytes_at, with_bytes}
use Rattle.gsl_cmd.specs.Sections.{members_of, decoration_of, is_int}
use Rattle.gsl_cmd.specs.Machine.{Pointer, Value, Word, Points, Ids, Outcome, on, on_word, on_pointer, Stuck, into_struct, walk, on_buffer, read, write, State, Ended, entry, start}
use Rattle.gsl_slow.specs.States.{word_in, pointer_in, buffer_place, ids_of}
use Rattle.gsl_slow.proofs.Places.{place, bytes_at_place, with_bytes_place, found_place, no_place}

pub on_word_is : (o : Option Value) (go : ℕ → Outcome) → on_word o go ≡ on (word_in o) go
on_word_is None go = refl
on_word_is (Some (Word word)) go = refl
on_word_is (Some (Points to)) go = refl

pub on_pointer_is : (o : Option Value) (go : Pointer → Outcome) → on_pointer o go ≡ on (pointer_in o) go
on_pointer_is None go = refl
on_pointer_is (Some (Word word)) go = refl
on_pointer_is (Some (Points to)) go = refl

pub word_given : (o : Option Value) (word : ℕ) (go : ℕ → Outcome) → Some word ≡ word_in o → on_word o go ≡ go word
word_given o word go e = on_word_is o go ∙ ap (λ w. on w go) (sym e)

pub pointer_given : (o : Option Value) (to : Pointer) (go : Pointer → Outcome) → Some to ≡ pointer_in o → on_pointer o go ≡ go to
pointer_given o to go e = on_pointer_is o go ∙ ap (λ p. on p go) (sym e)

-- the first of some indexes
pub walk_first : (code : Code) (place : ℕ) (ids : Ids) (from : Pointer) (indexes : List ℕ) (go : Pointer → Outcome) (word : ℕ) → 1 ≤ length indexes → Some word ≡ word_in (ids (get_or indexes 0 0)) →
    walk code place ids from indexes go ≡ on (members_of code from.pointee) (into_struct code place from word (λ to. walk code place ids to (drop 1 indexes) go))
walk_first code place ids from [] go word some e = absurd (omega arith)
walk_first code place ids from (index ∷ rest) go word some e =
    on_word_is (ids index) _
    ∙ ap (λ o. on o (λ word. on (members_of code from.pointee) (into_struct code place from word (λ to. walk code place ids to rest go)))) (sym e)

module _ (code : Code) (buffers : List Buffer) (variable : ℕ) where
  -- no buffer stands for the variable
  pub no_buffer : (go : ℕ → ℕ → List ℕ → Outcome) → None ≡ buffer_place code buffers variable → on_buffer code buffers variable go ≡ Stuck
  no_buffer go e = by_set (decoration_of code variable decoration.DESCRIPTOR_SET) e
    where
      absent : (set binding : ℕ) (o : Option (List ℕ)) → bytes_at buffers set binding ≡ o → None ≡ position (is_at set binding) buffers → on o (go set binding) ≡ Stuck
      absent set binding None h e = refl
      absent set binding (Some bytes) h e = absurd (no_place set binding buffers bytes (sym e) h)

      by_binding : (set : ℕ) (o : Option ℕ) → None ≡ option_and_then (λ binding. position (is_at set binding) buffers) o → on o (λ binding. on (bytes_at buffers set binding) (go set binding)) ≡ Stuck
      by_binding set None e = refl
      by_binding set (Some binding) e = absent set binding (bytes_at buffers set binding) refl e

      by_set : (o : Option ℕ) → None ≡ option_and_then (λ set. option_and_then (λ binding. position (is_at set binding) buffers) (decoration_of code variable decoration.BINDING)) o →
          on o (λ set. on (decoration_of code variable decoration.BINDING) (λ binding. on (bytes_at buffers set binding) (go set binding))) ≡ Stuck
      by_set None e = refl
      by_set (Some set) e = by_binding set (decoration_of code variable decoration.BINDING) e

  -- the buffer at a place stands for the variable
  pub record IsBufferAt (i : ℕ) (before : Buffer) : Type 0 where
    pub set : ℕ
    pub binding : ℕ
    pub given : (go : ℕ → ℕ → List ℕ → Outcome) → on_buffer code buffers variable go ≡ go set binding before.bytes
    pub changed : (bytes : List ℕ) → with_bytes buffers set binding bytes ≡ put_at buffers i (record before { bytes = bytes })

  pub some_buffer : (i : ℕ) (before : Buffer) → Some i ≡ buffer_place code buffers variable → before ≡ get_or buffers i before → IsBufferAt i before
  some_buffer i before e read = by_set (decoration_of code variable decoration.DESCRIPTOR_SET) refl e
    where
      at_place : (set binding : ℕ) → decoration_of code variable decoration.DESCRIPTOR_SET ≡ Some set → decoration_of code variable decoration.BINDING ≡ Some binding → Some i ≡ position (is_at set binding) buffers → IsBufferAt i before
      at_place set binding is_set is_binding e =
          let found = found_place set binding buffers i (sym e) in
          let here : before ≡ get_or buffers (place set binding buffers) before = read ∙ ap (λ k. get_or buffers k before) found.is in
          record {
            set = set;
            binding = binding;
            given = λ go.
                ap (λ o. on o (λ set. on (decoration_of code variable decoration.BINDING) (λ binding. on (bytes_at buffers set binding) (go set binding)))) is_set
                ∙ ap (λ o. on o (λ binding. on (bytes_at buffers set binding) (go set binding))) is_binding
                ∙ ap (λ o. on o (go set binding)) (bytes_at_place set binding buffers before found.within)
                ∙ ap (λ (b : Buffer). go set binding b.bytes) (sym here);
            changed = λ bytes.
                with_bytes_place set binding buffers before bytes found.within
                ∙ ap (λ (b : Buffer). put_at buffers (place set binding buffers) (record b { bytes = bytes })) (sym here)
                ∙ ap (λ k. put_at buffers k (record before { bytes = bytes })) (sym found.is);
          }

      by_binding : (set : ℕ) (o : Option ℕ) → decoration_of code variable decoration.DESCRIPTOR_SET ≡ Some set → decoration_of code variable decoration.BINDING ≡ o →
          Some i ≡ option_and_then (λ binding. position (is_at set binding) buffers) o → IsBufferAt i before
      by_binding set None is_set h e = absurd (cc)
      by_binding set (Some binding) is_set h e = at_place set binding is_set h e

      by_set : (o : Option ℕ) → decoration_of code variable decoration.DESCRIPTOR_SET ≡ o →
          Some i ≡ option_and_then (λ set. option_and_then (λ binding. position (is_at set binding) buffers) (decoration_of code variable decoration.BINDING)) o → IsBufferAt i before
      by_set None h e = absurd (cc)
      by_set (Some set) h e = by_binding set (decoration_of code variable decoration.BINDING) h refl e

module _ (code : Code) (buffers : List Buffer) (p : Pointer) where
  pub read_none : (go : ℕ → Outcome) → None ≡ buffer_place code buffers p.variable → read code buffers p go ≡ Stuck
  read_none go e = by_test (is_int code p.pointee)
    where
      by_test : (b : Bool) → cond b (on_buffer code buffers p.variable (λ set binding bytes. go (word_at bytes p.offset))) Stuck ≡ Stuck
      by_test true = no_buffer code buffers p.variable (λ set binding bytes. go (word_at bytes p.offset)) e
      by_test false = refl

  pub read_some : (go : ℕ → Outcome) (i : ℕ) (before : Buffer) → is_int code p.pointee ≡ true → Some i ≡ buffer_place code buffers p.variable → before ≡ get_or buffers i before →
      read code buffers p go ≡ go (word_at before.bytes p.offset)
  read_some go i before int e is_before =
      ap (λ b. cond b (on_buffer code buffers p.variable (λ set binding bytes. go (word_at bytes p.offset))) Stuck) int
      ∙ (some_buffer code buffers p.variable i before e is_before).given (λ set binding bytes. go (word_at bytes p.offset))

  pub write_none : (word : ℕ) (go : List Buffer → Outcome) → None ≡ buffer_place code buffers p.variable → write code buffers p word go ≡ Stuck
  write_none word go e = by_test (is_int code p.pointee)
    where
      by_test : (b : Bool) → cond b (on_buffer code buffers p.variable (λ set binding bytes. go (with_bytes buffers set binding (put_word bytes p.offset word)))) Stuck ≡ Stuck
      by_test true = no_buffer code buffers p.variable (λ set binding bytes. go (with_bytes buffers set binding (put_word bytes p.offset word))) e
      by_test false = refl

  pub write_some : (word : ℕ) (go : List Buffer → Outcome) (i : ℕ) (before after : Buffer) → is_int code p.pointee ≡ true → Some i ≡ buffer_place code buffers p.variable → before ≡ get_or buffers i before →
      after ≡ record before { bytes = put_word before.bytes p.offset word } → write code buffers p word go ≡ go (put_at buffers i after)
  write_some word go i before after int e is_before put =
      let found = some_buffer code buffers p.variable i before e is_before in
      ap (λ b. cond b (on_buffer code buffers p.variable (λ set binding bytes. go (with_bytes buffers set binding (put_word bytes p.offset word)))) Stuck) int
      ∙ found.given (λ set binding bytes. go (with_bytes buffers set binding (put_word bytes p.offset word)))
      ∙ ap go (found.changed (put_word before.bytes p.offset word) ∙ ap (put_at buffers i) (sym put))

-- a run that begins at the entry, with no values given yet
pub started : (m : Module) (input : Input) (rest : Code) (entries : List Entry) (buffers : List Buffer) → rest ≡ entry m.instrs → entries ≡ [] → buffers ≡ input.buffers →
    start m input ≡ record { rest = rest; ids = ids_of m.instrs entries; buffers = buffers; choices = input.choices; waiting = [] }
started m input rest entries buffers e f g =
    let at = λ (rest : Code) (entries : List Entry) (buffers : List Buffer). let s : State = record { rest = rest; ids = ids_of m.instrs entries; buffers = buffers; choices = input.choices; waiting = [] } in s in
    ap (λ code. at code [] input.buffers) (sym e) ∙ ap (λ es. at rest es input.buffers) (sym f) ∙ ap (at rest entries) (sym g)

pub ended_same : (before buffers : List Buffer) (outs : List Located) (choices rest : ℕ) → buffers ≡ before → outs ≡ [] → rest ≡ choices →
    Ended (record { buffers = before; outs = []; killed = false; rest = choices }) ≡ Ended (record { buffers = buffers; outs = outs; killed = false; rest = rest })
ended_same before buffers outs choices rest e f g =
    let ended = λ (buffers : List Buffer) (outs : List Located) (rest : ℕ). let o : Output = record { buffers = buffers; outs = outs; killed = false; rest = rest } in Ended o in
    ap (λ bs. ended bs [] choices) (sym e) ∙ ap (λ os. ended buffers os choices) (sym f) ∙ ap (ended buffers outs) (sym g)
