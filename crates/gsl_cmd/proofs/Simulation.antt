-- The code of a program's statements does what they do: one lemma for each construct, over the code that follows.
use Rattle.std.proofs.Common.{◌≡◌, ◌≢◌, ℕ, ◌+◌, ◌^◌, ◌<◌, ◌≤◌, List, [], ◌∷◌, length, get_or, Some, true, cond, ◌==◌, eq-eqb, ne_eqb, refl, ap, ◌∙◌, arith}
use Rattle.std.specs.List.{position_or_len, AllByRecursion}
use Rattle.std.proofs.Math.ListN.{replicate}
use Rattle.std.proofs.lemmas.Bool.{lt-ltb}
use Rattle.std.proofs.lemmas.List.{length-replicate, get_or-replicate}
use Rattle.gsl_base.specs.declared.input.Buffer.{Buffer}
use Rattle.gsl_base.specs.declared.input.Input.{Input}
use Rattle.gsl_words.specs.declared.module.Module.{Module}
use Rattle.gsl_instr.specs.declared.op.TheConstants as op
use Rattle.gsl_instr.specs.declared.enumerant.decoration.TheConstants as decoration
use Rattle.gsl_form.specs.declared.program.Term.{Term}
use Rattle.gsl_form.specs.declared.program.Term.TheVariants.{Member, Literal}
use Rattle.gsl_form.specs.declared.program.Statement.{Statement}
use Rattle.gsl_cmd.specs.declared.lowering.id.TheConstants as id
use Rattle.gsl_cmd.specs.Lowering.{Code, instr, constant_id, pointer, term_code, term_ids, term_value, more_code, more_ids, more_value, sum_code, sum_ids, sum_value, statement_code, statement_ids, statements_code, first_id}
use Rattle.gsl_cmd.specs.Words.{word_sum}
use Rattle.gsl_words.specs.Words.{word_at, put_word}
use Rattle.gsl_cmd.specs.Buffers.{bytes_at, with_bytes, word_offset}
use Rattle.gsl_cmd.specs.Sections.{decoration_of, member_decoration_of, is_int, members_of}
use Rattle.gsl_cmd.specs.Shader.{Store, Ran, Flow, Normal, SET, BINDING, eval_term, eval_more, eval_sum, run_statement, run_statements, behind}
use Rattle.gsl_cmd.specs.Machine.{Ids, give, globals, Value, Word, Points, Pointer, State, Outcome, Going, Strayed, Stuck, on, on_word, on_pointer, into_struct, walk, on_buffer, read, write, place_of}
use Rattle.gsl_cmd.proofs.Sums.{sum_small}
use Rattle.gsl_cmd.proofs.Blocks.{Holds, holds_put, bytes_at-with_bytes, with_bytes-with_bytes}
use Rattle.gsl_cmd.proofs.Stretches.{Stretch, stretch_on, no_step, one_step}
use Rattle.gsl_cmd.proofs.Follows.{state, Follows, follows_on, follows_bind, follows_less}

pub give_same : (ids : Ids) (i : ℕ) (v : Value) → give ids i v i ≡ Some v
give_same ids i v = ap (λ b. cond b (Some v) (ids i)) (eq-eqb i i refl)

pub give_other : (ids : Ids) (i j : ℕ) (v : Value) → j ≢ i → give ids i v j ≡ ids j
give_other ids i j v ne = ap (λ b. cond b (Some v) (ids j)) (ne_eqb j i ne)

-- The value is that of a constant.
pub record IsAmong (constants : List ℕ) (value : ℕ) : Type 0 where
  pub at : position_or_len (λ other. other == value) constants < length constants

abbrev pub whole_block : Pointer
whole_block = record { variable = id.BUFFER; offset = 0; pointee = id.BLOCK }

abbrev pub member_at : ℕ → Pointer
member_at i = record { variable = id.BUFFER; offset = word_offset i; pointee = id.INT }

-- What the module says of the ids that the code uses.
pub record Knows (m : Module) (members : ℕ) (constants : List ℕ) : Type 0 where
  pub int : is_int m.instrs id.INT ≡ true
  pub block : members_of m.instrs id.BLOCK ≡ Some (replicate members id.INT)
  pub offset : (i : ℕ) → i < members → member_decoration_of m.instrs id.BLOCK i decoration.OFFSET ≡ Some (word_offset i)
  pub set : decoration_of m.instrs id.BUFFER decoration.DESCRIPTOR_SET ≡ Some SET
  pub binding : decoration_of m.instrs id.BUFFER decoration.BINDING ≡ Some BINDING
  pub buffer : globals m.instrs id.BUFFER ≡ Some (Points whole_block)
  pub constant : (value : ℕ) → IsAmong constants value → globals m.instrs (constant_id constants value) ≡ Some (Word value)

-- The term's constant is there.
abbrev pub IsReady : ℕ → List ℕ → Term → Type 0
IsReady members constants (Member i) = (i < members) × IsAmong constants i
IsReady members constants (Literal n) = (n < 2 ^ 32) × IsAmong constants n

pub record IsReadyStatement (members : ℕ) (constants : List ℕ) (s : Statement) : Type 0 where
  pub target : s.target < members
  pub among : IsAmong constants s.target
  pub some : 1 ≤ length s.terms
  pub terms : AllByRecursion (IsReady members constants) s.terms

module _ (m : Module) (input : Input) (members : ℕ) (constants : List ℕ) (began : List ℕ) (knows : Knows m members constants) (given : bytes_at input.buffers SET BINDING ≡ Some began) where
  abbrev first : ℕ
  first = first_id constants

  -- The ids below the code's are the module's.
  pub record Begun (next : ℕ) (ids : Ids) : Type 0 where
    pub low : first_id constants ≤ next
    pub same : (i : ℕ) → i < first_id constants → ids i ≡ globals m.instrs i

  -- An id stands for a word, and those below `next` are as they were.
  pub record Has (i next : ℕ) (ids : Ids) (word : ℕ) (ids' : Ids) : Type 0 where
    pub value : ids' i ≡ Some (Word word)
    pub small : word < 2 ^ 32
    pub kept : (j : ℕ) → j < next → ids' j ≡ ids j

  begun_on : (next : ℕ) (ids ids' : Ids) → Begun next ids → ((j : ℕ) → j < next → ids' j ≡ ids j) → (next' : ℕ) → next ≤ next' → Begun next' ids'
  begun_on next ids ids' begun kept next' le = record { low = omega (arith, begun.low); same = λ i h. kept i (omega (arith, begun.low)) ∙ begun.same i h }

  constant_low : (value : ℕ) → IsAmong constants value → constant_id constants value < first
  constant_low value among = omega (arith, among.at)

  constant_is : (next value : ℕ) (ids : Ids) → Begun next ids → IsAmong constants value → ids (constant_id constants value) ≡ Some (Word value)
  constant_is next value ids begun among = begun.same _ (constant_low value among) ∙ knows.constant value among

  buffer_is : (next : ℕ) (ids : Ids) → Begun next ids → ids id.BUFFER ≡ Some (Points whole_block)
  buffer_is next ids begun = begun.same id.BUFFER (omega arith) ∙ knows.buffer

  -- an access chain to a member
  member_reached : (i place : ℕ) (go : Pointer → Outcome) → i < members → into_struct m.instrs place whole_block i go (replicate members id.INT) ≡ go (member_at i)
  member_reached i place go h =
      let inside : i < length (replicate members id.INT) = omega (arith, length-replicate members id.INT) in
      let offset : 0 + word_offset i ≡ word_offset i = omega arith in
      ap (λ b. cond b (on (member_decoration_of m.instrs id.BLOCK i decoration.OFFSET) (λ offset. go (record { variable = id.BUFFER; offset = 0 + offset; pointee = get_or (replicate members id.INT) i 0 }))) (Strayed place)) (lt-ltb i _ inside)
      ∙ ap (λ o. on o (λ offset. go (record { variable = id.BUFFER; offset = 0 + offset; pointee = get_or (replicate members id.INT) i 0 }))) (knows.offset i h)
      ∙ ap (λ type. go (record { variable = id.BUFFER; offset = 0 + word_offset i; pointee = type })) (get_or-replicate members i id.INT 0 h)
      ∙ ap (λ offset. go (record { variable = id.BUFFER; offset = offset; pointee = id.INT })) offset

  abbrev at : Code → Ids → List ℕ → List ℕ → State
  at rest ids bytes choices = state m input members began rest ids bytes choices

  pointer_step : {u : ℕ} (next i : ℕ) (rest : Code) (ids : Ids) (bytes choices : List ℕ) → Begun next ids → i < members → IsAmong constants i →
      Stretch m u (at (pointer constants next i ∷ rest) ids bytes choices) u (Going (at rest (give ids next (Points (member_at i))) bytes choices))
  pointer_step next i rest ids bytes choices begun h among =
      let place = place_of m (pointer constants next i ∷ rest) in
      let go = λ (to : Pointer). Going (at rest (give ids next (Points to)) bytes choices) in
      one_step m _ _ (omega arith)
      (ap (λ o. on_pointer o (λ from. walk m.instrs place ids from (constant_id constants i ∷ []) go)) (buffer_is next ids begun)
      ∙ ap (λ o. on_word o (λ word. on (members_of m.instrs id.BLOCK) (into_struct m.instrs place whole_block word go))) (constant_is next i ids begun among)
      ∙ ap (λ o. on o (into_struct m.instrs place whole_block i go)) knows.block ∙ member_reached i place go h)

  -- the buffer of the block
  buffer_reached : (bytes : List ℕ) (go : ℕ → ℕ → List ℕ → Outcome) →
      on_buffer m.instrs (with_bytes input.buffers SET BINDING bytes) id.BUFFER go ≡ go SET BINDING bytes
  buffer_reached bytes go =
      let buffers = with_bytes input.buffers SET BINDING bytes in
      ap (λ o. on o (λ set. on (decoration_of m.instrs id.BUFFER decoration.BINDING) (λ binding. on (bytes_at buffers set binding) (go set binding)))) knows.set
      ∙ ap (λ o. on o (λ binding. on (bytes_at buffers SET binding) (go SET binding))) knows.binding
      ∙ ap (λ o. on o (go SET BINDING)) (bytes_at-with_bytes SET BINDING input.buffers began bytes given)

  load_step : {u : ℕ} (result from i : ℕ) (rest : Code) (ids : Ids) (bytes choices : List ℕ) → ids from ≡ Some (Points (member_at i)) →
      Stretch m u (at (instr op.LOAD (id.INT ∷ result ∷ from ∷ []) ∷ rest) ids bytes choices) u (Going (at rest (give ids result (Word (word_at bytes (word_offset i)))) bytes choices))
  load_step result from i rest ids bytes choices e =
      let buffers = with_bytes input.buffers SET BINDING bytes in
      let go = λ (word : ℕ). Going (at rest (give ids result (Word word)) bytes choices) in
      one_step m _ _ (omega arith)
      (ap (λ o. on_pointer o (λ from. read m.instrs buffers from go)) e
      ∙ ap (λ b. cond b (on_buffer m.instrs buffers id.BUFFER (λ set binding bytes. go (word_at bytes (word_offset i)))) Stuck) knows.int
      ∙ buffer_reached bytes (λ set binding bytes. go (word_at bytes (word_offset i))))

  add_step : {u : ℕ} (result left right x y : ℕ) (rest : Code) (ids : Ids) (bytes choices : List ℕ) → ids left ≡ Some (Word x) → ids right ≡ Some (Word y) →
      Stretch m u (at (instr op.I_ADD (id.INT ∷ result ∷ left ∷ right ∷ []) ∷ rest) ids bytes choices) u (Going (at rest (give ids result (Word (word_sum x y))) bytes choices))
  add_step result left right x y rest ids bytes choices e f =
      let go = λ (x y : ℕ). Going (at rest (give ids result (Word (word_sum x y))) bytes choices) in
      one_step m _ _ (omega arith) (ap (λ o. on_word o (λ x. on_word (ids right) (go x))) e ∙ ap (λ o. on_word o (go x)) f)

  store_step : {u : ℕ} (to value i word : ℕ) (rest : Code) (ids : Ids) (bytes choices : List ℕ) → ids to ≡ Some (Points (member_at i)) → ids value ≡ Some (Word word) →
      Stretch m u (at (instr op.STORE (to ∷ value ∷ []) ∷ rest) ids bytes choices) u (Going (at rest ids (put_word bytes (word_offset i) word) choices))
  store_step to value i word rest ids bytes choices e f =
      let buffers = with_bytes input.buffers SET BINDING bytes in
      let go = λ (buffers : List Buffer). Going (record { rest = rest; ids = ids; buffers = buffers; choices = choices; waiting = [] }) in
      let put = λ (set binding : ℕ) (bytes : List ℕ). go (with_bytes buffers set binding (put_word bytes (word_offset i) word)) in
      one_step m _ _ (omega arith)
      (ap (λ o. on_pointer o (λ to. on_word (ids value) (λ word. write m.instrs buffers to word go))) e
      ∙ ap (λ o. on_word o (λ word. write m.instrs buffers (member_at i) word go)) f
      ∙ ap (λ b. cond b (on_buffer m.instrs buffers id.BUFFER put) Stuck) knows.int
      ∙ buffer_reached bytes put
      ∙ ap go (with_bytes-with_bytes SET BINDING input.buffers bytes (put_word bytes (word_offset i) word)))

  term_follows : (next : ℕ) (t : Term) (rest : Code) (ids : Ids) (bytes : List ℕ) (store : Store) (u : ℕ) →
      Begun next ids → Holds members began store.words bytes → IsReady members constants t →
      Follows m input members began u (at (term_code constants next t rest) ids bytes store.choices) rest (Has (term_value constants next t) next ids) (eval_term t store u)
  term_follows next (Member i) rest ids bytes store u begun holds ready =
      let ids1 = give ids next (Points (member_at i)) in
      let word = word_at bytes (word_offset i) in
      record {
        ids = give ids1 (next + 1) (Word word);
        bytes = bytes;
        holds = holds;
        given = record {
          value = give_same ids1 (next + 1) (Word word) ∙ ap (λ w. Some (Word w)) (holds.at i ready.0);
          small = holds.small i;
          kept = λ j h. give_other ids1 (next + 1) j (Word word) (omega arith) ∙ give_other ids next j (Points (member_at i)) (omega arith);
        };
        fewer = omega arith;
        stretch =
            stretch_on m (pointer_step next i _ ids bytes store.choices begun ready.0 ready.1)
            (load_step (next + 1) next i rest ids1 bytes store.choices (give_same ids next (Points (member_at i))));
      }
  term_follows next (Literal n) rest ids bytes store u begun holds ready = record {
    ids = ids;
    bytes = bytes;
    holds = holds;
    given = record { value = constant_is next n ids begun ready.1; small = ready.0; kept = λ j h. refl };
    fewer = omega arith;
    stretch = no_step m _;
  }

  term_bound : (next : ℕ) (t : Term) → first ≤ next → IsReady members constants t → term_value constants next t < next + term_ids constants t
  term_bound next (Member i) low ready = omega arith
  term_bound next (Literal n) low ready = omega (arith, constant_low n ready.1)

  more_bound : (next value : ℕ) (terms : List Term) → value < next → more_value constants next value terms < next + more_ids constants terms
  more_bound next value [] h = omega arith
  more_bound next value (t ∷ terms) h =
      omega (arith, more_bound (next + term_ids constants t + 1) (next + term_ids constants t) terms (omega arith))

  more_follows : (next value : ℕ) (terms : List Term) (rest : Code) (ids : Ids) (bytes : List ℕ) (store : Store) (u word : ℕ) →
      Begun next ids → Holds members began store.words bytes → AllByRecursion (IsReady members constants) terms →
      value < next → ids value ≡ Some (Word word) → word < 2 ^ 32 →
      Follows m input members began u (at (more_code constants next value terms rest) ids bytes store.choices) rest (Has (more_value constants next value terms) next ids) (eval_more word terms store u)
  more_follows next value [] rest ids bytes store u word begun holds ready low e small = record {
    ids = ids;
    bytes = bytes;
    holds = holds;
    given = record { value = e; small = small; kept = λ j h. refl };
    fewer = omega arith;
    stretch = no_step m _;
  }
  more_follows next value (t ∷ terms) rest ids bytes store u word begun holds ready low e small =
      let sum = next + term_ids constants t in
      let right = term_value constants next t in
      follows_bind m input members began u _ (instr op.I_ADD (id.INT ∷ sum ∷ value ∷ right ∷ []) ∷ more_code constants (sum + 1) sum terms rest) rest
      (Has right next ids) _ (eval_term t store u) _ (term_follows next t _ ids bytes store u begun holds ready.0)
      (λ y store1 u1 ids1 bytes1 has holds1 le.
      let ids2 = give ids1 sum (Word (word_sum word y)) in
      let kept2 = λ (j : ℕ) (h : j < next). give_other ids1 sum j (Word (word_sum word y)) (below_sum j h) ∙ has.kept j h in
      follows_on m input members began rest (Has (more_value constants (sum + 1) sum terms) next ids) (eval_more (word_sum word y) terms store1 u1)
      (add_step sum value right word y _ ids1 bytes1 store1.choices (has.kept value low ∙ e) has.value) (omega arith)
      (follows_less m input members began u1 _ rest (Has (more_value constants (sum + 1) sum terms) (sum + 1) ids2) _ (eval_more (word_sum word y) terms store1 u1)
      (λ v ids3 has3. record { value = has3.value; small = has3.small; kept = λ j h. has3.kept j (omega arith) ∙ kept2 j h })
      (more_follows (sum + 1) sum terms rest ids2 bytes1 store1 u1 (word_sum word y) (begun_on next ids ids2 begun kept2 (sum + 1) (omega arith)) holds1 ready.1 (omega arith) (give_same ids1 sum (Word (word_sum word y))) (sum_small word y))))
    where
      below_sum : (j : ℕ) → j < next → j ≢ next + term_ids constants t
      below_sum j h = omega arith

  sum_follows : (next : ℕ) (terms : List Term) (rest : Code) (ids : Ids) (bytes : List ℕ) (store : Store) (u : ℕ) →
      1 ≤ length terms → Begun next ids → Holds members began store.words bytes → AllByRecursion (IsReady members constants) terms →
      Follows m input members began u (at (sum_code constants next terms rest) ids bytes store.choices) rest (Has (sum_value constants next terms) next ids) (eval_sum terms store u)
  sum_follows next [] rest ids bytes store u some begun holds ready = absurd (omega arith)
  sum_follows next (t ∷ terms) rest ids bytes store u some begun holds ready =
      let next1 = next + term_ids constants t in
      let left = term_value constants next t in
      follows_bind m input members began u _ (more_code constants next1 left terms rest) rest
      (Has left next ids) _ (eval_term t store u) _ (term_follows next t _ ids bytes store u begun holds ready.0)
      (λ x store1 u1 ids1 bytes1 has holds1 le.
      follows_less m input members began u1 _ rest (Has (more_value constants next1 left terms) next1 ids1) _ (eval_more x terms store1 u1)
      (λ v ids2 has2. record { value = has2.value; small = has2.small; kept = λ j h. has2.kept j (omega arith) ∙ has.kept j h })
      (more_follows next1 left terms rest ids1 bytes1 store1 u1 x (begun_on next ids ids1 begun has.kept next1 (omega arith)) holds1 ready.1 (term_bound next t begun.low ready.0) has.value has.small))

  sum_bound : (next : ℕ) (terms : List Term) → first ≤ next → 1 ≤ length terms → AllByRecursion (IsReady members constants) terms → sum_value constants next terms < next + sum_ids constants terms
  sum_bound next [] low some ready = absurd (omega arith)
  sum_bound next (t ∷ terms) low some ready =
      omega (arith, more_bound (next + term_ids constants t) (term_value constants next t) terms (term_bound next t low ready.0))

  statement_follows : (next : ℕ) (s : Statement) (rest : Code) (ids : Ids) (bytes : List ℕ) (store : Store) (u : ℕ) →
      Begun next ids → Holds members began store.words bytes → IsReadyStatement members constants s →
      Follows m input members began u (at (statement_code constants next s rest) ids bytes store.choices) rest (λ (flow : Flow). Begun (next + statement_ids constants s)) (run_statement s store u)
  statement_follows next s rest ids bytes store u begun holds ready =
      let target = next + sum_ids constants s.terms in
      let value = sum_value constants next s.terms in
      let bound = sum_bound next s.terms begun.low ready.some ready.terms in
      follows_bind m input members began u _ (pointer constants target s.target ∷ instr op.STORE (target ∷ value ∷ []) ∷ rest) rest
      (Has value next ids) _ (eval_sum s.terms store u) _ (sum_follows next s.terms _ ids bytes store u ready.some begun holds ready.terms)
      (λ v store1 u1 ids1 bytes1 has holds1 le.
      let begun1 = begun_on next ids ids1 begun has.kept in
      let ids2 = give ids1 target (Points (member_at s.target)) in
      record {
        ids = ids2;
        bytes = put_word bytes1 (word_offset s.target) v;
        holds = holds_put members began store1.words bytes1 holds1 s.target v ready.target has.small;
        given = begun_on next ids ids2 begun (λ j h. give_other ids1 target j (Points (member_at s.target)) (omega arith) ∙ has.kept j h) (next + statement_ids constants s) (omega arith);
        fewer = omega arith;
        stretch =
            stretch_on m (pointer_step target s.target _ ids1 bytes1 store1.choices (begun1 target (omega arith)) ready.target ready.among)
            (store_step target value s.target v rest ids2 bytes1 store1.choices (give_same ids1 target (Points (member_at s.target)))
            (give_other ids1 target value (Points (member_at s.target)) (omega (arith, bound)) ∙ has.value));
      })

  behind_follows : (flow : Flow) (go : Store → ℕ → Ran Flow) (u : ℕ) (s : State) (rest : Code) (Q : Flow → Ids → Type 0) (store : Store) →
      Follows m input members began u s rest Q (go store u) → Follows m input members began u s rest Q (behind flow go store u)
  behind_follows Normal go u s rest Q store f = f

  pub statements_follow : (next : ℕ) (statements : List Statement) (rest : Code) (ids : Ids) (bytes : List ℕ) (store : Store) (u : ℕ) →
      Begun next ids → Holds members began store.words bytes → AllByRecursion (IsReadyStatement members constants) statements →
      Follows m input members began u (at (statements_code constants next statements rest) ids bytes store.choices) rest (λ (flow : Flow) (ids : Ids). Unit {0}) (run_statements statements store u)
  statements_follow next [] rest ids bytes store u begun holds ready =
      record { ids = ids; bytes = bytes; holds = holds; given = tt; fewer = omega arith; stretch = no_step m _ }
  statements_follow next (s ∷ statements) rest ids bytes store u begun holds ready =
      let next1 = next + statement_ids constants s in
      follows_bind m input members began u _ (statements_code constants next1 statements rest) rest
      (λ (flow : Flow). Begun next1) _ (run_statement s store u) _ (statement_follows next s _ ids bytes store u begun holds ready.0)
      (λ flow store1 u1 ids1 bytes1 begun1 holds1 le.
      behind_follows flow (run_statements statements) u1 _ rest _ store1
      (statements_follow next1 statements rest ids1 bytes1 store1 u1 begun1 holds1 ready.1))
