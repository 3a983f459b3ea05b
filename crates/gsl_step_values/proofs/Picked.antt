-- Components of two vectors in a new order, in words.
use Rattle.std.proofs.Common.{◌≡◌, refl, sym, ap, ◌∙◌, subst, ℕ, zero, suc, ◌+◌, ◌<◌, ◌≤◌, Bool, true, ◌&&◌, List, [], ◌∷◌, ◌++◌, length, map, take, drop, set, Option, Some, None, arith, length-append}
use Rattle.std.specs.Prelude.{min, slice_index}
use Rattle.std.proofs.lemmas.Bool.{and_parts, eqb-true, false≢true}
use Rattle.std.proofs.lemmas.List.{get_or-drop, get_or-take, length-drop, length-map, length-take-le, map-append, take-append-drop, take_all}
use Rattle.gsl_base.specs.declared.input.Input.{Input}
use Rattle.gsl_instr.specs.declared.instruction.Instruction.TheVariants as instruction
use Rattle.gsl_words.specs.declared.module.Module.{Module}
use Rattle.gsl_values.specs.declared.value.Value.{Value}
use Rattle.gsl_tree.specs.Values.{components_in}
use Rattle.gsl_valid.specs.Instruction.{read}
use Rattle.gsl_valid.specs.Kinds.{Shape, OfVector, Gives, kind, shape_of, type_of}
use Rattle.gsl_valid.specs.OperandRules.{are_shuffled, is_shuffled, is_shuffled_as}
use Rattle.gsl_valid.specs.Placed.{Placed}
use Rattle.gsl_valid.specs.Search.{whole}
use Rattle.gsl_valid.specs.TypeRules.{is_component, is_made}
use Rattle.gsl_valid.specs.Types.{Lanes, defined_as, is_type, lanes_in}
use Rattle.gsl_machine.specs.Operations.{shuffled}
use Rattle.gsl_machine.specs.State.{State, giving_value, on_whole}
use Rattle.gsl_region.specs.Flat.{flat}
use Rattle.gsl_region.specs.Showing.{with_words}
use Rattle.gsl_region.proofs.Copies.{with_more}
use Rattle.gsl_slots.proofs.Held.{front_of}
use Rattle.gsl_slots.specs.Holding.{IsHeld}
use Rattle.gsl_leaves.specs.Leaves.{leaves}
use Rattle.gsl_leaves.specs.Table.{most}
use Rattle.gsl_leaves_law.proofs.Counted.{counted_in}
use Rattle.gsl_operations_law.proofs.Lanes.{components_are, made_flat}
use Rattle.gsl_sound.specs.Sound.{Good}
use Rattle.gsl_sound_code.proofs.Looks.{Kept, made_at}
use Rattle.gsl_sound_types.specs.Typed.{Typed}
use Rattle.gsl_sound_types.proofs.Valued.{shuffled_sized}
use Rattle.gsl_sound_values.specs.Shaped.{is_shaped}
use Rattle.gsl_sound_values.proofs.Counted.{HasLanes}
use Rattle.gsl_sound_values.proofs.Operated.{shuffled_shaped}
use Rattle.gsl_step.specs.Machine.{IsShown, Leads, Puts}
use Rattle.gsl_step.specs.declared.machine.Machine.{Machine}
use Rattle.gsl_step.proofs.Giving.{at_top, gives_words, room_there}
use Rattle.gsl_step.proofs.Operands.{Top, below_bound, with_operand}
use Rattle.gsl_step.proofs.Passing.{number_fits}
use Rattle.gsl_step_values.specs.Parts.{HasRoomToShuffle, PutsShuffled}
use Rattle.gsl_step_values.specs.Values.{from, to, words}
use Rattle.gsl_shown.proofs.Giving.{length_with}
use Rattle.gsl_step_values.proofs.Gathered.{taken_more, vector_lanes}
use Rattle.gsl_step_values.proofs.Inside.{cut_at}
use Rattle.gsl_step_values.proofs.Two.{lanes_are, operands}

-- ---- lists

abbrev pub Rows : (slots : List ℕ) (a n b k : ℕ) → List ℕ
Rows slots a n b k = take n (drop a slots) ++ take k (drop b slots)

in_first : (xs ys : List ℕ) (i : ℕ) → i < length xs → slice_index (xs ++ ys) i ≡ slice_index xs i
in_first [] ys i low = absurd (omega (arith, low))
in_first (x ∷ xs) ys zero low = refl
in_first (x ∷ xs) ys (suc i) low = in_first xs ys i (omega (arith, low))

in_second : (xs ys : List ℕ) (i k : ℕ) → i ≡ length xs + k → slice_index (xs ++ ys) i ≡ slice_index ys k
in_second [] ys i k is = ap (slice_index ys) (let e : i ≡ 0 + k = is in let f : 0 + k ≡ k = omega arith in e ∙ f)
in_second (x ∷ xs) ys zero k is = absurd (omega (arith, is))
in_second (x ∷ xs) ys (suc i) k is = in_second xs ys i k (omega (arith, is))

nothing_there : (xs : List ℕ) (i : ℕ) → length xs ≤ i → slice_index xs i ≡ 0
nothing_there [] i over = refl
nothing_there (x ∷ xs) zero over = absurd (omega (arith, over))
nothing_there (x ∷ xs) (suc i) over = nothing_there xs i (omega (arith, over))

row_long : (slots : List ℕ) (a n : ℕ) → a + n ≤ length slots → length (take n (drop a slots)) ≡ n
row_long slots a n room = let long = length-drop a slots in length-take-le n (drop a slots) (omega (arith, long, room))

row_word : (slots : List ℕ) (a n i : ℕ) → i < n → slice_index (take n (drop a slots)) i ≡ slice_index slots (a + i)
row_word slots a n i low = get_or-take n (drop a slots) i 0 low ∙ get_or-drop a slots i 0

-- the word at a position
pub picked_first : (slots : List ℕ) (a n b k i word at : ℕ) → a + n ≤ length slots → i < n → at ≡ a + i → (at < length slots → word ≡ slice_index slots at) → word ≡ slice_index (Rows slots a n b k) i
picked_first slots a n b k i word at room low is reads =
    let long = row_long slots a n room in
    reads (omega (arith, is, low, room)) ∙ ap (slice_index slots) is ∙ sym (row_word slots a n i low) ∙ sym (in_first (take n (drop a slots)) (take k (drop b slots)) i (omega (arith, long, low)))

pub picked_second : (slots : List ℕ) (a n b k i j word at : ℕ) → a + n ≤ length slots → b + k ≤ length slots → i ≡ n + j → j < k → at ≡ b + j → (at < length slots → word ≡ slice_index slots at) → word ≡ slice_index (Rows slots a n b k) i
picked_second slots a n b k i j word at room_a room_b behind low is reads =
    let long = row_long slots a n room_a in
    reads (omega (arith, is, low, room_b)) ∙ ap (slice_index slots) is ∙ sym (row_word slots b k j low) ∙ sym (in_second (take n (drop a slots)) (take k (drop b slots)) i j (omega (arith, long, behind)))

pub picked_none : (slots : List ℕ) (a n b k i : ℕ) → a + n ≤ length slots → b + k ≤ length slots → n + k ≤ i → 0 ≡ slice_index (Rows slots a n b k) i
picked_none slots a n b k i room_a room_b over =
    let first = row_long slots a n room_a in
    let second = row_long slots b k room_b in
    let both = length-append (take n (drop a slots)) (take k (drop b slots)) in
    sym (nothing_there (Rows slots a n b k) i (omega (arith, first, second, both, over)))

-- one word more
pub pick_more : (first now : List ℕ) (a n b k at j word place : ℕ) (positions later : List ℕ) → a + n ≤ at → b + k ≤ at → at + length positions ≤ length first → length first ≤ most → j < length positions
    → now ≡ with_words first at (map (slice_index (Rows first a n b k)) (take j positions)) → (a + n ≤ length now → b + k ≤ length now → word ≡ slice_index (Rows now a n b k) (slice_index positions j)) → place ≡ min (at + j) 18446744073709551615
    → (place < length now → later ≡ set now place word) → later ≡ with_words first at (map (slice_index (Rows first a n b k)) (take (j + 1) positions))
pick_more first now a n b k at j word place positions later in_a in_b room places low is picks place_is puts =
    let f = slice_index (Rows first a n b k) in
    let w = map (slice_index (Rows first a n b k)) (take j positions) in
    let x = slice_index positions j in
    let taken : length (take j positions) ≡ j = length-take-le j positions (omega (arith, low)) in
    let long_w : length (map (slice_index (Rows first a n b k)) (take j positions)) ≡ j = length-map (take j positions) (slice_index (Rows first a n b k)) ∙ taken in
    let long : length now ≡ length first = ap length is ∙ length_with first w at (omega (arith, long_w, low, room)) in
    let inside : at ≤ length first = omega (arith, room) in
    let same : Rows now a n b k ≡ Rows first a n b k =
    ap (λ l. Rows l a n b k) is ∙ ap (λ l. l ++ take k (drop b (with_words first at w))) (front_of first w a n at in_a inside) ∙ ap (λ l. take n (drop a first) ++ l) (front_of first w b k at in_b inside) in
    let here : word ≡ f x = picks (omega (arith, in_a, long, inside)) (omega (arith, in_b, long, inside)) ∙ ap (λ l. slice_index l x) same in
    let spot : place ≡ at + j = omega (arith, place_is, low, room, places) in
    puts (omega (arith, spot, low, room, long)) ∙ ap (λ n. set now n word) spot ∙ ap (λ l. set l (at + j) word) is ∙ with_more first w at (at + j) word (omega (arith, long_w)) (omega (arith, low, room))
    ∙ ap (with_words first at) (ap (λ v. w ++ v ∷ []) here ∙ sym (map-append f (take j positions) (x ∷ [])) ∙ ap (map f) (sym (taken_more positions j x (cut_at positions j low))))

pub pick_begins : (first : List ℕ) (at : ℕ) (f : ℕ → ℕ) → first ≡ with_words first at (map f [])
pick_begins first at f = sym (ap (λ n. take at first ++ drop n first) (let e : at + 0 ≡ at = omega arith in e) ∙ take-append-drop at first)

pub pick_ends : (first now : List ℕ) (at j : ℕ) (f : ℕ → ℕ) (positions : List ℕ) → length positions ≤ j → now ≡ with_words first at (map f (take j positions)) → now ≡ with_words first at (map f positions)
pick_ends first now at j f positions over is = is ∙ ap (λ l. with_words first at (map f l)) (take_all j positions over)

-- ---- the instruction

module _ (m : Module) (kept : Kept m) (input : Input) (machine next : Machine) (state : State) (good : Good m input state) (typed : Typed m state) (shown : IsShown m machine state) (p : Placed) (more : List Placed) (comes : state.rest ≡ p ∷ more) where
  abbrev Now : State
  Now = record state { rest = more }

  abbrev End : ℕ
  End = Top m kept input machine state typed shown

  -- vectors that are shuffled have components
  shuffled_lanes : (places : List ℕ) (s : Shape) (first : ℕ) → is_shuffled_as m places s (shape_of (defined_as m first)) ≡ true → HasLanes m first
  shuffled_lanes places (OfVector component count) first is = by_shape (shape_of (defined_as m first)) (made_at m kept first) is
    where
      by_shape : (s : Shape) → ((made : Bool) × (is_made m made s ≡ true)) → are_shuffled places component count s ≡ true → (lanes : Lanes) × (lanes_in m s ≡ Some lanes)
      by_shape (OfVector c n) made is =
          vector_lanes n (shape_of (defined_as m c)) (and_parts (is_component m c) _ (and_parts (is_component m c && _) _ (and_parts (is_component m c && _ && _) made.0 made.1).0).0).0
      by_shape _ made is = absurd (false≢true is)
  shuffled_lanes places _ first is = absurd (false≢true is)

  pub shuffles : (type id a b : ℕ) (places : List ℕ) → read p.instr ≡ Some (instruction.VectorShuffle type id a b places) → PutsShuffled m id a b places machine next
      → Leads m next (on_whole (state.ids a) (λ x. on_whole (state.ids b) (λ y. giving_value Now id (shuffled x y places))))
  shuffles type id a b places reads puts =
      by_type (type_of (defined_as m a)) refl (type_of (defined_as m b)) refl (operands m kept input machine next state good typed shown p more comes (instruction.VectorShuffle type id a b places) reads)
    where
      given : (first : ℕ) (x y : Value) → type_of (defined_as m a) ≡ Some first → type_of (defined_as m b) ≡ Some first → is_shuffled_as m places (shape_of (defined_as m type)) (shape_of (defined_as m first)) ≡ true → is_shaped m first x ≡ true → is_shaped m first y ≡ true
          → IsHeld machine.slots End (from m machine a) (flat x) → IsHeld machine.slots End (from m machine b) (flat y) → Leads m next (giving_value Now id (shuffled x y places))
      given first x y known_a known_b rule shaped_x shaped_y held_x held_y =
          let d = instruction.VectorShuffle type id a b places in
          let has = shuffled_lanes places (shape_of (defined_as m type)) first rule in
          let sized = shuffled_sized m kept places type first rule in
          let result : is_shaped m type (shuffled x y places) ≡ true = shuffled_shaped m kept type x y places sized.0 sized.1 in
          let size_x : length (flat x) ≡ leaves m first = counted_in m (whole m) first x shaped_x in
          let size_y : length (flat y) ≡ leaves m first = counted_in m (whole m) first y shaped_y in
          let words_x : words m machine a (leaves m first) ≡ flat x = ap (λ n. take n (drop (from m machine a) machine.slots)) (sym size_x) ∙ held_x.is in
          let words_y : words m machine b (leaves m first) ≡ flat y = ap (λ n. take n (drop (from m machine b) machine.slots)) (sym size_y) ∙ held_y.is in
          let words_are : flat (shuffled x y places) ≡ map (slice_index (words m machine a (leaves m first) ++ words m machine b (leaves m first))) places =
          made_flat (map (slice_index (components_in x ++ components_in y)) places) ∙ ap (λ xs. map (slice_index (xs ++ components_in y)) places) (components_are x (lanes_are m kept first has x shaped_x) ∙ sym words_x)
          ∙ ap (λ ys. map (slice_index (words m machine a (leaves m first) ++ ys)) places) (components_are y (lanes_are m kept first has y shaped_y) ∙ sym words_y) in
          let there = room_there m kept input machine state good typed shown p more comes d reads id type refl refl (shuffled x y places) machine.choices result in
          let top = at_top m kept input machine state good typed shown p more comes d reads id type refl refl (shuffled x y places) machine.choices result in
          let long = ap length words_are ∙ length-map places (slice_index (words m machine a (leaves m first) ++ words m machine b (leaves m first))) in
          let below_x = held_x.below in
          let below_y = held_y.below in
          let room_for : HasRoomToShuffle m machine id a b (leaves m first) (leaves m first) (length places) = record {
            room = omega (arith, there, long);
            low = (below_bound m kept a first known_a, below_bound m kept b first known_b);
            behind = (omega (arith, below_x, size_x, top), omega (arith, below_y, size_y, top));
            places = shown.places;
            number = number_fits m machine state shown p more comes (Gives type) (ap kind reads) refl;
          } in
          gives_words m kept input machine state good typed shown p more comes d reads id type refl refl (shuffled x y places) state.choices result (map (slice_index (words m machine a (leaves m first) ++ words m machine b (leaves m first))) places) words_are next
          (subst (λ l. Puts machine (to m machine id) (map (slice_index (words m machine a (leaves m first) ++ words m machine b (leaves m first))) places) l next) shown.shows.choices_are (puts first first known_a known_b room_for))

      by_type : (o : Option ℕ) → type_of (defined_as m a) ≡ o → (q : Option ℕ) → type_of (defined_as m b) ≡ q → is_shuffled m type places o q ≡ true → Leads m next (on_whole (state.ids a) (λ x. on_whole (state.ids b) (λ y. giving_value Now id (shuffled x y places))))
      by_type None e q f is = absurd (false≢true is)
      by_type (Some first) e None f is = absurd (false≢true (and_parts (is_type first None) (is_shuffled_as m places (shape_of (defined_as m type)) (shape_of (defined_as m first))) is).0)
      by_type (Some first) e (Some second) f is =
          let both = and_parts (is_type first (Some second)) (is_shuffled_as m places (shape_of (defined_as m type)) (shape_of (defined_as m first))) is in
          let known_b : type_of (defined_as m b) ≡ Some first = f ∙ ap Some (eqb-true second first both.0) in
          with_operand m kept input machine state typed shown next a first (λ x. on_whole (state.ids b) (λ y. giving_value Now id (shuffled x y places))) e
          (λ x shaped_x held_x. with_operand m kept input machine state typed shown next b first (λ y. giving_value Now id (shuffled x y places)) known_b (λ y shaped_y held_y. given first x y e known_b both.1 shaped_x shaped_y held_x held_y))
