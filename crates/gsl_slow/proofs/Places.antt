-- The slow program of a shader against the shader's meaning.
use Rattle.std.proofs.Common.{◌≡◌, ℕ, suc, ◌+◌, ◌<◌, ◌≤◌, List, [], ◌∷◌, length, get_or, set, Option, Some, None, Bool, true, false, cond, not, ltb, refl, ap, sym, ◌∙◌, arith}
use Rattle.std.specs.Prelude.{Ok}
use Rattle.std.specs.Option.{unwrap_or}
use Rattle.std.specs.List.{position, position_or_len}
use Rattle.std.proofs.Math.Numerals.{one-add}
use Rattle.std.proofs.lemmas.Bool.{lt-ltb, ltb-true, ltb-false, le-ltb}
use Rattle.gsl_base.specs.declared.input.Buffer.{Buffer}
use Rattle.gsl_base.specs.declared.input.Input.{Input}
use Rattle.gsl_base.specs.declared.input.Located.{Located}
use Rattle.gsl_base.specs.declared.input.Output.{Output}
use Rattle.gsl_form.specs.declared.program.Program.{Program}
use Rattle.gsl_cmd.specs.Buffers.{is_at, bytes_at, with_bytes, seen, put_words}
use Rattle.gsl_cmd.specs.Fits.{fits}
use Rattle.gsl_cmd.specs.Shader.{Got, Normal, SET, BINDING, block_bytes, run_statements, outcome_of}
use Rattle.gsl_cmd.specs.Shader as shader
use Rattle.gsl_slow.specs.Runs.{IsRun}
use Rattle.gsl_cmd.proofs.Carried.{block_is_given}

abbrev some_zero : Option ℕ
some_zero = Some 0

module _ (s b : ℕ) where
  abbrev pub place : List Buffer → ℕ
  place buffers = position_or_len (is_at s b) buffers

  pub bytes_at_place : (buffers : List Buffer) (d : Buffer) → place buffers < length buffers → bytes_at buffers s b ≡ Some (get_or buffers (place buffers) d).bytes
  bytes_at_place [] d h = absurd (omega arith)
  bytes_at_place (buffer ∷ buffers) d h = by_test (is_at s b buffer) (bytes_at_place buffers d) h
    where
      by_test : (t : Bool) → (place buffers < length buffers → bytes_at buffers s b ≡ Some (get_or buffers (place buffers) d).bytes) → cond (not t) (1 + place buffers) 0 < suc (length buffers) →
          cond t (Some buffer.bytes) (bytes_at buffers s b) ≡ Some (get_or (buffer ∷ buffers) (cond (not t) (1 + place buffers) 0) d).bytes
      by_test true again h = refl
      by_test false again h = again (omega arith) ∙ ap (λ i. Some (get_or (buffer ∷ buffers) i d).bytes) (sym (one-add (place buffers)))

  pub with_bytes_place : (buffers : List Buffer) (d : Buffer) (bytes : List ℕ) → place buffers < length buffers →
      with_bytes buffers s b bytes ≡ set buffers (place buffers) (record (get_or buffers (place buffers) d) { bytes = bytes })
  with_bytes_place [] d bytes h = absurd (omega arith)
  with_bytes_place (buffer ∷ buffers) d bytes h = by_test (is_at s b buffer) (with_bytes_place buffers d bytes) h
    where
      by_test : (t : Bool) → (place buffers < length buffers → with_bytes buffers s b bytes ≡ set buffers (place buffers) (record (get_or buffers (place buffers) d) { bytes = bytes })) → cond (not t) (1 + place buffers) 0 < suc (length buffers) →
          cond t (record buffer { bytes = bytes } ∷ buffers) (buffer ∷ with_bytes buffers s b bytes)
          ≡ set (buffer ∷ buffers) (cond (not t) (1 + place buffers) 0) (record (get_or (buffer ∷ buffers) (cond (not t) (1 + place buffers) 0) d) { bytes = bytes })
      by_test true again h = refl
      by_test false again h =
          ap (λ l. buffer ∷ l) (again (omega arith))
          ∙ ap (λ i. set (buffer ∷ buffers) i (record (get_or (buffer ∷ buffers) i d) { bytes = bytes })) (sym (one-add (place buffers)))

  -- a place that was found
  pub record IsPlace (buffers : List Buffer) (i : ℕ) : Type 0 where
    pub is : i ≡ place buffers
    pub within : place buffers < length buffers

  pub found_place : (buffers : List Buffer) (i : ℕ) → position (is_at s b) buffers ≡ Some i → IsPlace buffers i
  found_place buffers i e = by_test (ltb (place buffers) (length buffers)) refl e
    where
      by_test : (t : Bool) → ltb (place buffers) (length buffers) ≡ t → cond t (Some (place buffers)) None ≡ Some i → IsPlace buffers i
      by_test true h e = record { is = (cc); within = ltb-true _ _ h }
      by_test false h e = absurd (cc)

  pub no_place : (buffers : List Buffer) (bytes : List ℕ) → position (is_at s b) buffers ≡ None → bytes_at buffers s b ≡ Some bytes → ⊥
  no_place [] bytes e f = cc
  no_place (buffer ∷ buffers) bytes e f = by_test (is_at s b buffer) (no_place buffers bytes) e f
    where
      by_test : (t : Bool) → (position (is_at s b) buffers ≡ None → bytes_at buffers s b ≡ Some bytes → ⊥) →
          cond (ltb (cond (not t) (1 + place buffers) 0) (suc (length buffers))) (Some (cond (not t) (1 + place buffers) 0)) None ≡ None →
          cond t (Some buffer.bytes) (bytes_at buffers s b) ≡ Some bytes → ⊥
      by_test true again e f =
          let within : ltb 0 (suc (length buffers)) ≡ true = lt-ltb 0 (suc (length buffers)) (omega arith) in
          let clash : some_zero ≡ None = sym (ap (λ v. cond v (Some 0) None) within) ∙ e in
          absurd (cc)
      by_test false again e f = by_order (ltb (1 + place buffers) (suc (length buffers))) refl e
        where
          by_order : (u : Bool) → ltb (1 + place buffers) (suc (length buffers)) ≡ u → cond u (Some (1 + place buffers)) None ≡ None → ⊥
          by_order true h e = cc
          by_order false h e = again (ap (λ v. cond v (Some (place buffers)) None) (not_below h)) f
            where
              not_below : ltb (1 + place buffers) (suc (length buffers)) ≡ false → ltb (place buffers) (length buffers) ≡ false
              not_below h = let past : suc (length buffers) ≤ 1 + place buffers = ltb-false _ _ h in le-ltb _ _ (omega arith)

pub none_at : (s b : ℕ) (buffers : List Buffer) → None ≡ position (is_at s b) buffers → None ≡ bytes_at buffers s b
none_at s b buffers e = by_option (bytes_at buffers s b) refl
  where
    by_option : (o : Option (List ℕ)) → bytes_at buffers s b ≡ o → None ≡ o
    by_option None h = refl
    by_option (Some bytes) h = absurd (no_place s b buffers bytes (sym e) h)

pub some_at : (s b i : ℕ) (buffers : List Buffer) (before : Buffer) → Some i ≡ position (is_at s b) buffers → before ≡ get_or buffers i before → Some before.bytes ≡ bytes_at buffers s b
some_at s b i buffers before e read =
    let found = found_place s b buffers i (sym e) in
    sym (bytes_at_place s b buffers before found.within
    ∙ ap (λ k. Some (get_or buffers k before).bytes) (sym found.is) ∙ ap (λ (x : Buffer). Some x.bytes) (sym read))

-- the slow program's answer is the shader's
pub slow_shader_is : (p : Program) (input : Input) (i rest : ℕ) (before after : Buffer) (buffers : List Buffer) (outs : List Located) → position (is_at SET BINDING) input.buffers ≡ Some i →
    before ≡ get_or input.buffers i before → IsRun p before after → buffers ≡ set input.buffers i after → outs ≡ [] → rest ≡ length input.choices → (units : ℕ) →
    shader.shader p units input ≡ shader.Ended (record { buffers = buffers; outs = outs; killed = false; rest = rest })
slow_shader_is p input i rest before after buffers outs at read ran written none left units =
    let found = found_place SET BINDING input.buffers i at in
    let here : before ≡ get_or input.buffers (place SET BINDING input.buffers) before = read ∙ ap (λ k. get_or input.buffers k before) found.is in
    let bytes_is : block_bytes input ≡ before.bytes = ap (λ o. unwrap_or o []) (bytes_at_place SET BINDING input.buffers before found.within) ∙ ap (λ (b : Buffer). b.bytes) (sym here) in
    let put = put_words 0 ran.words before.bytes in
    let written_is : with_bytes input.buffers SET BINDING put ≡ buffers =
    with_bytes_place SET BINDING input.buffers before put found.within
    ∙ ap (λ (b : Buffer). set input.buffers (place SET BINDING input.buffers) (record b { bytes = put })) (sym here)
    ∙ ap (λ k. set input.buffers k (record before { bytes = put })) (sym found.is)
    ∙ ap (λ b. set input.buffers i b) (sym ran.after_is) ∙ sym written in
    let ended = λ (buffers : List Buffer) (outs : List Located) (rest : ℕ). let o : Output = record { buffers = buffers; outs = outs; killed = false; rest = rest } in shader.Ended o in
    ap (λ bytes. outcome_of input (run_statements p.statements (record { words = seen (length p.members) bytes; choices = input.choices }) units)) bytes_is
    ∙ ap (outcome_of input) (ran.leads.run input.choices units)
    ∙ ap (λ bytes. ended (with_bytes input.buffers SET BINDING (put_words 0 ran.words bytes)) [] (length input.choices)) bytes_is
    ∙ ap (λ bs. ended bs [] (length input.choices)) written_is
    ∙ ap (λ outs. ended buffers outs (length input.choices)) (sym none) ∙ ap (ended buffers outs) (sym left)

-- a fitting input has the buffer
pub has_place : (p : Program) (input : Input) → fits p input ≡ Ok tt → position (is_at SET BINDING) input.buffers ≡ None → ⊥
has_place p input e none = let given = block_is_given p input e in no_place SET BINDING input.buffers given.bytes none given.is
