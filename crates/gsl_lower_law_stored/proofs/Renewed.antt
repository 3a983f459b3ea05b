-- The state of the module is that of the shader where a block has other bytes.
use Rattle.std.proofs.Common.{◌≡◌, ◌≢◌, refl, sym, ap, ◌∙◌, subst, ℕ, ◌<◌, Bool, true, false, List, [], length, Option, Some, arith, if◌then◌else◌}
use Rattle.std.specs.Prelude.{◌^◌, nat_eq, slice_get, unwrap_or}
use Rattle.std.proofs.lemmas.Bool.{eqb-true, true≢false}
use Rattle.std.proofs.lemmas.Option.{slice_get_within}
use Rattle.gsl_base.specs.declared.input.Input.{Input}
use Rattle.gsl_instr.specs.declared.enumerant.decoration.TheConstants as decoration
use Rattle.gsl_words.specs.declared.module.Module.{Module}
use Rattle.gsl_values.specs.declared.value.Value.{Value}
use Rattle.gsl_tree.specs.Around.{Around}
use Rattle.gsl_tree.specs.Laying.{layout_of}
use Rattle.gsl_tree.specs.WellTyped.{is_push as is_push_kind}
use Rattle.gsl_tree.specs.declared.program.Program.{Program}
use Rattle.gsl_tree.specs.declared.unit.Block.{Block}
use Rattle.gsl_views.specs.Buffers.{bytes_at, with_bytes}
use Rattle.gsl_meaning.specs.Blocks.{put_blocks, put_value, words_in}
use Rattle.gsl_meaning.specs.State as shader
use Rattle.gsl_valid.specs.Decorations.{number_on}
use Rattle.gsl_machine.specs.Memory.{bytes_if, bytes_of, with_bytes_if}
use Rattle.gsl_machine.specs.State.{State}
use Rattle.gsl_spv.specs.Sections.{Sections}
use Rattle.gsl_lower_holders.specs.Flow.{Flow}
use Rattle.gsl_lower_follows.specs.Frames.{Agrees, AreBytes, Frame, Global, Good, HasType, Holder, Interface, IsSeen, Local, Name, Param, Stage, type_named, value_of}
use Rattle.gsl_lower_follows.proofs.Holding.{set_elsewhere, set_there}
use Rattle.gsl_lower_follows.specs.Sizes.{IsShort}
use Rattle.gsl_lower_law_members.proofs.OfLawBytes.{value_set}
use Rattle.gsl_lower_law_members.proofs.OfLawBytes.{value_length}
use Rattle.gsl_lower_law_members.proofs.Sized.{few_at}
use Rattle.gsl_lower_law_places.specs.Storing.{buffers_with}
use Rattle.gsl_lower_law_stored.specs.Buffers.{HasBuffer, IsBound, KnowsBuffers, with_bytes_of, with_value}
use Rattle.gsl_lower_law_stored.proofs.Bytes.{alone_apart, elsewhere, here_again}

-- the values of variables do not tell of blocks
values_same : (stages : List (Option Value)) (s : shader.State) (blocks : List Value) (name : Name) → value_of stages (record s { blocks = blocks }) name ≡ value_of stages s name
values_same stages s blocks (Global number) = refl
values_same stages s blocks (Interface number) = refl
values_same stages s blocks (Stage number) = refl
values_same stages s blocks (Param number) = refl
values_same stages s blocks (Local number) = refl
values_same stages s blocks (Holder number) = refl

same_some : {A : Type 0} {a b : A} → ◌≡◌ {A = Option A} (Some a) (Some b) → a ≡ b
same_some e = cc

-- ---- the bytes of one block

module _ (m : Module) (input : Input) (id : ℕ) (block : Block) (bound : IsBound m id block) where
  pub bytes_pushed : is_push_kind block.kind ≡ true → (state : State) → bytes_of m input state id ≡ input.push
  bytes_pushed pushed state = ap (λ b. if b then input.push else bytes_if state.buffers (number_on m decoration.DESCRIPTOR_SET id) (number_on m decoration.BINDING id)) (bound.pushes ∙ pushed)

  module _ (stored : is_push_kind block.kind ≡ false) where
    pub bytes_there : (state : State) → bytes_of m input state id ≡ bytes_at state.buffers block.set block.binding
    bytes_there state =
        ap (λ b. if b then input.push else bytes_if state.buffers (number_on m decoration.DESCRIPTOR_SET id) (number_on m decoration.BINDING id)) (bound.pushes ∙ stored)
        ∙ ap (λ o. bytes_if state.buffers o (number_on m decoration.BINDING id)) (bound.set stored) ∙ ap (bytes_if state.buffers (Some block.set)) (bound.binding stored)

    pub buffers_there : (state : State) (fresh : List ℕ) → buffers_with m state id fresh ≡ with_bytes state.buffers block.set block.binding fresh
    buffers_there state fresh =
        ap (λ o. with_bytes_if state.buffers o (number_on m decoration.BINDING id) fresh) (bound.set stored) ∙ ap (λ o. with_bytes_if state.buffers (Some block.set) o fresh) (bound.binding stored)

module _ (m : Module) (input : Input) (whole : Sections) (f : Frame m input whole) (p : Program) (around : Around) (knows : KnowsBuffers m input whole f p) (number id : ℕ) (block : Block) (known : slice_get p.blocks number ≡ Some block) (seat : slice_get f.place.blocks number ≡ Some id)
    (stored : is_push_kind block.kind ≡ false) where
  bound : IsBound m id block
  bound = knows.bound number id block known seat

  buffer : HasBuffer input p number block
  buffer = knows.buffers number block known stored

  module _ (b : Flow) (s : shader.State) (state : State) (good : Good m input whole f p around b s state) (given fresh : List ℕ) (has : bytes_at input.buffers block.set block.binding ≡ Some given) (small : AreBytes fresh)
      (told : put_value (layout_of p.structs block) 0 (words_in p.structs block fresh) given ≡ fresh) where
    abbrev value : Value
    value = words_in p.structs block fresh

    abbrev then_s : shader.State
    then_s = with_value s number value

    abbrev then_state : State
    then_state = with_bytes_of m state id fresh

    abbrev old : (bytes : List ℕ) × (bytes_of m input state id ≡ Some bytes) × (slice_get s.blocks number ≡ Some (words_in p.structs block bytes)) × AreBytes bytes
    old = good.holds.blocks number id block known seat

    there : bytes_of m input then_state id ≡ Some fresh
    there =
        bytes_there m input id block bound stored then_state ∙ ap (λ l. bytes_at l block.set block.binding) (buffers_there m input id block bound stored state fresh)
        ∙ here_again block.set block.binding fresh old.0 state.buffers (sym (bytes_there m input id block bound stored state) ∙ old.1)

    -- the bytes of another block
    other_bytes : (k other : ℕ) (one : Block) → k ≢ number → slice_get p.blocks k ≡ Some one → slice_get f.place.blocks k ≡ Some other → bytes_of m input then_state other ≡ bytes_of m input state other
    other_bytes k other one apart at seated = by (is_push_kind one.kind) refl
      where
        it : IsBound m other one
        it = knows.bound k other one at seated

        by : (push : Bool) → is_push_kind one.kind ≡ push → bytes_of m input then_state other ≡ bytes_of m input state other
        by true e = bytes_pushed m input other one it e then_state ∙ sym (bytes_pushed m input other one it e state)
        by false e =
            bytes_there m input other one it e then_state ∙ ap (λ l. bytes_at l one.set one.binding) (buffers_there m input id block bound stored state fresh)
            ∙ elsewhere block.set block.binding fresh one.set one.binding (alone_apart block.set block.binding p.blocks number block buffer.alone k one apart at e) state.buffers
            ∙ sym (bytes_there m input other one it e state)

    value_there : (k : ℕ) (one : Block) → k ≡ number → slice_get p.blocks k ≡ Some one → slice_get then_s.blocks k ≡ Some (words_in p.structs one fresh)
    value_there k one same at =
        let it : one ≡ block = same_some (sym at ∙ ap (slice_get p.blocks) same ∙ known) in
        ap (slice_get then_s.blocks) same ∙ set_there s.blocks number value (slice_get_within s.blocks number (words_in p.structs block old.0) old.2) ∙ ap (λ x. Some (words_in p.structs x fresh)) (sym it)

    blocks_then : (k other : ℕ) (one : Block) → slice_get p.blocks k ≡ Some one → slice_get f.place.blocks k ≡ Some other
        → (bytes : List ℕ) × (bytes_of m input then_state other ≡ Some bytes) × (slice_get then_s.blocks k ≡ Some (words_in p.structs one bytes)) × AreBytes bytes
    blocks_then k other one at seated = by (nat_eq k number) refl
      where
        by : (c : Bool) → nat_eq k number ≡ c → (bytes : List ℕ) × (bytes_of m input then_state other ≡ Some bytes) × (slice_get then_s.blocks k ≡ Some (words_in p.structs one bytes)) × AreBytes bytes
        by true e =
            let same = eqb-true k number e in
            let it : other ≡ id = same_some (sym seated ∙ ap (slice_get f.place.blocks) same ∙ seat) in
            (fresh, ap (bytes_of m input then_state) it ∙ there, value_there k one same at, small)
        by false e =
            let apart : k ≢ number = apart_of e in
            let before = good.holds.blocks k other one at seated in
            (before.0, other_bytes k other one apart at seated ∙ before.1, set_elsewhere s.blocks number k value apart ∙ before.2, before.3)
          where
            apart_of : nat_eq k number ≡ false → k ≢ number
            apart_of e same = true≢false (sym (let z : nat_eq k k ≡ true = grind arith in z) ∙ ap (nat_eq k) same ∙ e)

    -- there are as many as were given
    few_then : IsShort input → length fresh < 2 ^ 32
    few_then few =
        subst (λ n. n < 2 ^ 32) (ap (λ o. length (unwrap_or o [])) has ∙ sym (value_length (layout_of p.structs block) 0 value given) ∙ ap length told) (few_at input.buffers block.set block.binding few.buffers)

    seen_then : (k : ℕ) (one : Block) → slice_get p.blocks k ≡ Some one → IsSeen m input whole f p around one (slice_get then_s.blocks k)
    seen_then k one at = by (nat_eq k number) refl
      where
        by : (c : Bool) → nat_eq k number ≡ c → IsSeen m input whole f p around one (slice_get then_s.blocks k)
        by true e = (fresh, value_there k one (eqb-true k number e) at, small, few_then)
        by false e = subst (IsSeen m input whole f p around one) (sym (set_elsewhere s.blocks number k value (apart_of e))) (good.typed.blocks k one at)
          where
            apart_of : nat_eq k number ≡ false → k ≢ number
            apart_of e same = true≢false (sym (let z : nat_eq k k ≡ true = grind arith in z) ∙ ap (nat_eq k) same ∙ e)

    buffers_then : then_state.buffers ≡ put_blocks p.structs p.blocks then_s.blocks input.buffers
    buffers_then =
        buffers_there m input id block bound stored state fresh ∙ ap (λ l. with_bytes l block.set block.binding fresh) good.holds.buffers
        ∙ ap (with_bytes (put_blocks p.structs p.blocks s.blocks input.buffers) block.set block.binding) (sym told)
        ∙ sym (value_set p.structs block.set block.binding block (stored, refl, refl) given p.blocks number s.blocks (words_in p.structs block old.0) value input.buffers buffer.alone buffer.only has old.2)

    pub renewed : Agrees m input whole f p around then_s then_state
    renewed = record {
      holds = record {
        values = λ name v is. good.holds.values name v (sym (values_same f.stages s then_s.blocks name) ∙ is);
        blocks = blocks_then;
        buffers = buffers_then;
        choices = good.holds.choices;
        count = good.holds.count;
        outside = good.holds.outside;
      };
      typed = record {
        each = λ name. subst (HasType m input whole f p around (type_named around name)) (sym (values_same f.stages s then_s.blocks name)) (good.typed.each name);
        choices = good.typed.choices;
        blocks = seen_then;
        stages = good.typed.stages;
      };
    }
