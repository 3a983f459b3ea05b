-- Words that are put into a block.
use Rattle.std.proofs.Common.{◌≡◌, refl, sym, ap, ◌∙◌, subst, ℕ, ◌+◌, ◌*◌, ◌<◌, ◌≤◌, ◌^◌, false, List, [], length, map, Some, arith}
use Rattle.std.specs.Prelude.{slice_get, unwrap_or}
use Rattle.std.specs.List.{AllByRecursion, range_with_len}
use Rattle.gsl_base.specs.declared.input.Input.{Input}
use Rattle.gsl_layout.specs.Layout.{Layout, Leaf, need}
use Rattle.gsl_words.specs.Words.{word_at}
use Rattle.gsl_words.specs.declared.module.Module.{Module}
use Rattle.gsl_tree.specs.Around.{Around}
use Rattle.gsl_tree.specs.Laying.{layout_of}
use Rattle.gsl_tree.specs.Operations.{with_value_at}
use Rattle.gsl_tree.specs.Values.{of_components}
use Rattle.gsl_tree.specs.WellTyped.{is_push as is_push_kind}
use Rattle.gsl_tree.specs.declared.program.Program.{Program}
use Rattle.gsl_tree.specs.declared.unit.Block.{Block}
use Rattle.gsl_views.specs.Buffers.{bytes_at, put_words}
use Rattle.gsl_views.specs.Paths.{Leads}
use Rattle.gsl_meaning.specs.Blocks.{put_value, words_in}
use Rattle.gsl_meaning.specs.State as shader
use Rattle.gsl_machine.specs.Memory.{bytes_of}
use Rattle.gsl_machine.specs.State.{State}
use Rattle.gsl_spv.specs.Sections.{Sections}
use Rattle.gsl_lower_holders.specs.Flow.{Flow}
use Rattle.gsl_lower_follows.specs.Frames.{Agrees, AreBytes, Frame, Good}
use Rattle.gsl_lower_law_members.proofs.OfLawBytes.{value_bytes}
use Rattle.gsl_lower_law_members.proofs.OfLawBytes.{AreTold, PartsTold, parts_told}
use Rattle.gsl_lower_law_members.proofs.OfLawBytes.{bytes_told, small_words}
use Rattle.gsl_lower_law_components.specs.Putting.{put_components}
use Rattle.gsl_lower_law_members.specs.Sizes.{size_of}
use Rattle.gsl_lower_law_members.proofs.Sized.{size_is}
use Rattle.gsl_lower_law_places.specs.Storing.{set_each}
use Rattle.gsl_lower_law_views.proofs.Stored.{all_seen}
use Rattle.gsl_lower_law_stored.specs.Buffers.{HasBuffer, IsBound, KnowsBuffers, with_bytes_of, with_value}
use Rattle.gsl_lower_law_stored.proofs.Renewed.{bytes_there, renewed}

same_bytes : {a b : List ℕ} → Some a ≡ Some b → a ≡ b
same_bytes e = cc

module _ (m : Module) (input : Input) (whole : Sections) (f : Frame m input whole) (p : Program) (around : Around) (knows : KnowsBuffers m input whole f p) (number id : ℕ) (block : Block) (known : slice_get p.blocks number ≡ Some block) (seat : slice_get f.place.blocks number ≡ Some id)
    (stored : is_push_kind block.kind ≡ false) (b : Flow) (s : shader.State) (state : State) (good : Good m input whole f p around b s state) (bytes : List ℕ) (there : bytes_of m input state id ≡ Some bytes) where
  abbrev l : Layout
  l = layout_of p.structs block

  bound : IsBound m id block
  bound = knows.bound number id block known seat

  buffer : HasBuffer input p number block
  buffer = knows.buffers number block known stored

  abbrev given : List ℕ
  given = buffer.given

  old : (old : List ℕ) × (bytes_of m input state id ≡ Some old) × (slice_get s.blocks number ≡ Some (words_in p.structs block old)) × AreBytes old
  old = good.holds.blocks number id block known seat

  same : old.0 ≡ bytes
  same = same_bytes (sym old.1 ∙ there)

  small : AreBytes bytes
  small = subst AreBytes same old.3

  long : length bytes ≡ size_of m input id
  long = size_is m input p.structs p.blocks s.blocks state id bytes good.holds.buffers there

  -- as many bytes are given
  as_given : length given ≡ length bytes
  as_given = sym (long ∙ ap (λ o. length (unwrap_or o [])) (bytes_there m input id block bound stored (record state { buffers = input.buffers }) ∙ buffer.has))

  -- they are those that were given, with what is seen of them put
  told : put_value l 0 (words_in p.structs block bytes) given ≡ bytes
  told =
      same_bytes (sym (value_bytes p.structs block.set block.binding block (stored, refl, refl) given p.blocks number s.blocks (words_in p.structs block bytes) input.buffers buffer.alone buffer.only buffer.has (old.2 ∙ ap (λ x. Some (words_in p.structs block x)) same))
      ∙ ap (λ x. bytes_at x block.set block.binding) (sym good.holds.buffers) ∙ sym (bytes_there m input id block bound stored state) ∙ there)

  module _ (components offset : ℕ) (path : List ℕ) (leads : Leads (size_of m input id) l 0 path (Leaf components) offset) (some : 1 ≤ components) where
    leads_in : Leads (length bytes) l 0 path (Leaf components) offset
    leads_in = subst (λ n. Leads n l 0 path (Leaf components) offset) (sym long) leads

    room : need l ≤ length bytes
    room = subst (λ n. need l ≤ n) as_given buffer.room

    pub words_stored : (words : List ℕ) → length words ≡ components → AllByRecursion (λ word. word < 2 ^ 32) words
        → Agrees m input whole f p around (with_value s number (with_value_at (words_in p.structs block bytes) path (of_components words))) (with_bytes_of m state id (put_words offset words bytes))
    words_stored words many below =
        subst (λ v. Agrees m input whole f p around (with_value s number v) (with_bytes_of m state id (put_words offset words bytes))) seen_is
        (renewed m input whole f p around knows number id block known seat stored b s state good given (put_words offset words bytes) buffer.has (small_words offset words bytes small)
        (ap (λ v. put_value l 0 v given) seen_is ∙ bytes_told l components offset path words given bytes (knows.laid number block known) room as_given small told leads_in some many below))
      where
        seen_is : words_in p.structs block (put_words offset words bytes) ≡ with_value_at (words_in p.structs block bytes) path (of_components words)
        seen_is = all_seen l 0 offset components path (knows.laid number block known) words bytes (omega (arith, room)) leads_in some many below

    pub components_stored : (positions words : List ℕ) → AllByRecursion (λ position. position < components) positions → AllByRecursion (λ word. word < 2 ^ 32) words
        → Agrees m input whole f p around (with_value s number (with_value_at (words_in p.structs block bytes) path (of_components (set_each positions words (map (λ k. word_at bytes (offset + 4 * k)) (range_with_len 0 components))))))
        (with_bytes_of m state id (put_components offset positions words bytes))
    components_stored positions words less below =
        subst (λ v. Agrees m input whole f p around (with_value s number v) (with_bytes_of m state id (put_components offset positions words bytes))) parts.is_seen
        (renewed m input whole f p around knows number id block known seat stored b s state good given (put_components offset positions words bytes) buffer.has parts.later.small parts.later.told)
      where
        before : AreTold l components offset path given (knows.laid number block known) some bytes
        before = record { fits = room; long = as_given; small = small; told = told; leads = leads_in }

        parts : PartsTold l components offset path given (knows.laid number block known) some bytes positions words
        parts = parts_told l components offset path given (knows.laid number block known) some positions words bytes before less below
