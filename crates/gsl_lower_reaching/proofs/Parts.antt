-- Members and swizzles: one step more of a trail.
use Rattle.std.proofs.Common.{◌≡◌, refl, sym, ap, ◌∙◌, subst, inl, inr, ℕ, ◌<◌, ◌≤◌, ◌⊎◌, Bool, true, false, List, [], ◌∷◌, ◌++◌, map, length, Option, Some, None, append_assoc}
use Rattle.std.specs.Prelude.{slice_index}
use Rattle.std.specs.List.{AllByRecursion}
use Rattle.std.proofs.lemmas.List.{length-map}
use Rattle.gsl_base.specs.declared.input.Input.{Input}
use Rattle.gsl_types.specs.Known.{AreStructs, IsSound}
use Rattle.gsl_types.specs.declared.ty.StructType.{StructType}
use Rattle.gsl_types.specs.declared.ty.Ty.{Ty}
use Rattle.gsl_words.specs.declared.module.Module.{Module}
use Rattle.gsl_tree.specs.Around.{Around}
use Rattle.gsl_tree.specs.Expressions.{HasPartType}
use Rattle.gsl_tree.specs.Paths.{repeats}
use Rattle.gsl_tree.specs.Shapes.{Shape, shape_of}
use Rattle.gsl_tree.specs.Values.{is_value_of}
use Rattle.gsl_values.specs.declared.value.Value.{Value}
use Rattle.gsl_tree.specs.declared.program.Program.{Program}
use Rattle.gsl_tree.specs.declared.unit.Block.{Block as Declared}
use Rattle.gsl_typed_law.specs.Parts.{IsPart}
use Rattle.gsl_meaning.specs.Accesses.{Access, member_of, picked_of, swizzle_of}
use Rattle.gsl_machine.specs.State.{State}
use Rattle.gsl_spv.specs.Sections.{Sections}
use Rattle.gsl_lower_places.specs.Reached.{part_of, swizzled, swizzled_of}
use Rattle.gsl_lower_places.specs.declared.reached.Base.{Base}
use Rattle.gsl_lower_places.specs.declared.reached.Part.{Part}
use Rattle.gsl_lower_places.specs.declared.reached.Part.TheVariants.{Fixed}
use Rattle.gsl_lower_places.specs.declared.reached.Picked.{Picked}
use Rattle.gsl_lower_places.specs.declared.reached.Reached.{Reached}
use Rattle.gsl_lower_law_places.specs.Components.{AreWithin, chosen}
use Rattle.gsl_lower_law_picks.specs.Outside.{HasPart}
use Rattle.gsl_lower_holders.specs.Flow.{Flow}
use Rattle.gsl_lower_follows.specs.Frames.{Frame, HeldAs}
use Rattle.gsl_lower_reaching.specs.Reaching.{At, AtValue, Begins, IsFixed, IsOwnTrail, PicksBy, Start}
use Rattle.gsl_lower_reaching.specs.Reaching.Begins.{variable, value, holder}
use Rattle.gsl_lower_reaching.specs.Reaching.Start.{OfValue}
use Rattle.gsl_lower_reaching.specs.Stepping.{Swizzles}
use Rattle.gsl_lower_reaching.specs.Trails.{ArePicked, ArePositions, Chosen, IsInside, IsMissing, IsOut, IsOutside, IsPicked, LacksComponent, LeadsOut, MayWrite, Trail}
use Rattle.gsl_lower_reaching.specs.Trails.ArePicked.{swizzled as as_swizzle, component, repeated}
use Rattle.gsl_lower_reaching.proofs.Counted.{has_part, lacks_part, leads_on, not_both, out_on, struct_shapeless}
use Rattle.gsl_lower_reaching.proofs.Lists.{index_of_one, indexes_have, indexes_mapped, map_same, picked_once}
use Rattle.gsl_lower_reaching.proofs.Moving.{fixed_longer, numbers_longer}

-- ---- a number more

abbrev pub longer : Trail → ℕ → Trail
longer l k = record l { words = l.words ++ k ∷ [] }

-- without picked components the numbers lead to the whole
pub record IsWhole (whole t : Ty) (numbers : List ℕ) (c : Option Chosen) (path : List ℕ) (picked : Option (List ℕ)) : Type 0 where
  pub none : c ≡ None
  pub same : whole ≡ t
  pub path_is : path ≡ numbers
  pub unpicked : picked ≡ None

-- what has no shape has no picked components
pub whole_picked : (whole t : Ty) (numbers : List ℕ) (c : Option Chosen) (path : List ℕ) (picked : Option (List ℕ)) → ((shape : Shape) → shape_of t ≡ Some shape → ⊥) → IsPicked whole t numbers c path picked → IsWhole whole t numbers c path picked
whole_picked whole t numbers None path picked none (same, path_is, unpicked) = record { none = refl; same = same; path_is = path_is; unpicked = unpicked }
whole_picked whole t numbers (Some c) path picked none is = absurd (none _ is.gives)

pub out_whole : (structs : List StructType) (ty t : Ty) (words : List ℕ) (c : Option Chosen) → ((shape : Shape) → shape_of t ≡ Some shape → ⊥) → IsOut structs ty t words c → (c ≡ None) × LeadsOut structs ty words
out_whole structs ty t words None none out = (refl, out)
out_whole structs ty t words (Some c) none out = absurd (none _ out.gives)

-- a part more of what was reached whole
pub inside_longer : (structs : List StructType) (blocks : List Declared) (writes : Bool) (base t : Ty) (k : ℕ) (a : Access) (l : Trail) → ((shape : Shape) → shape_of base ≡ Some shape → ⊥) → IsPart structs base k t → IsSound (length structs) t → IsInside structs blocks writes base a l → IsInside structs blocks writes t (member_of a k) (longer l k)
inside_longer structs blocks writes base t k a l none part sound is =
    let w = whole_picked is.whole base (l.front ++ l.words) l.picks a.path a.picked none is.picks in
    record {
      begins = is.begins;
      whole = t;
      sound = sound;
      leads = leads_on structs l.ty l.words is.whole k t is.leads (subst (λ u. IsPart structs u k t) (sym w.same) part);
      picks = subst (λ c. IsPicked t t (l.front ++ (l.words ++ k ∷ [])) c (a.path ++ k ∷ []) a.picked) (sym w.none) (refl, ap (λ path. path ++ k ∷ []) w.path_is ∙ append_assoc l.front l.words (k ∷ []), w.unpicked);
      may = is.may;
      named = is.named;
    }

pub outside_longer : (structs : List StructType) (blocks : List Declared) (writes : Bool) (base t : Ty) (k : ℕ) (l : Trail) → ((shape : Shape) → shape_of base ≡ Some shape → ⊥) → IsOutside structs blocks writes base l → IsOutside structs blocks writes t (longer l k)
outside_longer structs blocks writes base t k l none is =
    let w = out_whole structs l.ty base l.words l.picks none is.out in
    record { out = subst (λ c. IsOut structs l.ty t (l.words ++ k ∷ []) c) (sym w.0) (out_on structs l.ty l.words (k ∷ []) w.1); may = is.may; named = is.named }

-- a value at which it begins has that part too
pub more_inside : (structs : List StructType) (blocks : List Declared) → AreStructs structs → (writes : Bool) (base t : Ty) (k : ℕ) (a : Access) (l : Trail) → ((shape : Shape) → shape_of base ≡ Some shape → ⊥) → IsPart structs base k t → IsSound (length structs) t → IsInside structs blocks writes base a l
    → (v : Value) → is_value_of structs l.ty v ≡ true → HasPart v (l.words ++ k ∷ [])
more_inside structs blocks are writes base t k a l none part sound is v typed = let x = inside_longer structs blocks writes base t k a l none part sound is in has_part structs are l.ty (l.words ++ k ∷ []) x.whole v x.leads typed

pub more_outside : (structs : List StructType) (blocks : List Declared) → AreStructs structs → (writes : Bool) (base : Ty) (l : Trail) → ((shape : Shape) → shape_of base ≡ Some shape → ⊥) → IsOutside structs blocks writes base l → (k : ℕ) (v : Value) → is_value_of structs l.ty v ≡ true → HasPart v l.words → HasPart v (l.words ++ k ∷ [])
more_outside structs blocks are writes base l none is k v typed has = absurd (not_both v l.words has (lacks_part structs are l.ty l.words v (out_whole structs l.ty base l.words l.picks none is.out).1 typed))

pub member_shapeless : (structs : List StructType) (base : Ty) (number : ℕ) (t : Ty) → HasPartType structs base number t → (shape : Shape) → shape_of base ≡ Some shape → ⊥
member_shapeless structs base number t (n, struct, member, is, found, at, type) shape has = struct_shapeless n shape (sym (ap shape_of is) ∙ has)

-- ---- what is picked of what is picked

abbrev pub swizzled_chosen : Shape → List ℕ → Option Chosen → Chosen
swizzled_chosen shape positions None = record { shape = shape; word = None; positions = positions }
swizzled_chosen shape positions (Some c) = record c { positions = map (slice_index c.positions) positions }

abbrev pub swizzled_trail : Shape → List ℕ → Trail → Trail
swizzled_trail shape positions l = record l { picks = Some (swizzled_chosen shape positions l.picks) }

pub picks_swizzled : (at : At) (shape : Shape) (positions : List ℕ) (p : Option Picked) (c : Option Chosen) → PicksBy at p c → PicksBy at (Some (swizzled_of shape positions p)) (Some (swizzled_chosen shape positions c))
picks_swizzled at shape positions None None picks = (refl, refl, tt)
picks_swizzled at shape positions None (Some c) picks = absurd picks
picks_swizzled at shape positions (Some p) None picks = absurd picks
picks_swizzled at shape positions (Some p) (Some c) (same, are, chooses) = (same, ap (λ l. map (slice_index l) positions) are, chooses)

shape_same : {a b : Shape} → Some a ≡ Some b → a ≡ b
shape_same e = cc

within_swizzled : (count : ℕ) (word : Option ℕ) (ps positions : List ℕ) → AreWithin count word ps → AllByRecursion (λ position. position < length ps) positions → AreWithin count word (map (slice_index ps) positions)
within_swizzled count None ps positions within below = indexes_have (λ position. position < count) ps positions within below
within_swizzled count (Some word) ps positions within below = (within.0, indexes_have (λ position. position < 1) ps positions within.1 below)

positions_swizzled : (count : ℕ) (word : Option ℕ) (ps positions : List ℕ) → ArePositions count word ps → AllByRecursion (λ position. position < length ps) positions → ArePositions count word (map (slice_index ps) positions)
positions_swizzled count None ps positions within below = indexes_have (λ position. position < count) ps positions within below
positions_swizzled count (Some word) ps positions within below = indexes_have (λ position. position < 1) ps positions within below

picked_swizzled : (count : ℕ) (numbers : List ℕ) (word : Option ℕ) (ps positions path : List ℕ) (picked : Option (List ℕ)) → AllByRecursion (λ position. position < length ps) positions → ArePicked count numbers (map (chosen word) ps) path picked
    → ArePicked count numbers (map (chosen word) (map (slice_index ps) positions)) path (Some (picked_of picked positions))
picked_swizzled count numbers word ps positions path picked below (as_swizzle path_is is) =
    as_swizzle path_is (ap (λ o. Some (picked_of o positions)) is ∙ ap Some (sym (indexes_mapped (chosen word) ps positions below)))
picked_swizzled count numbers word ps positions path picked below (component k several path_is unpicked are) =
    let one : length ps ≡ 1 = sym (length-map ps (chosen word)) ∙ ap length are in
    let firsts : AllByRecursion (λ position. position < 1) positions = subst (λ n. AllByRecursion (λ position. position < n) positions) one below in
    repeated k positions several path_is (ap (λ o. Some (picked_of o positions)) unpicked) firsts
    (indexes_mapped (chosen word) ps positions below ∙ ap (λ l. map (slice_index l) positions) are ∙ index_of_one k positions firsts)
picked_swizzled count numbers word ps positions path picked below (repeated k firsts several path_is is all are) =
    let same : length firsts ≡ length ps = sym (length-map firsts (λ first. k)) ∙ ap length (sym are) ∙ length-map ps (chosen word) in
    let less : AllByRecursion (λ position. position < length firsts) positions = subst (λ n. AllByRecursion (λ position. position < n) positions) (sym same) below in
    repeated k (map (slice_index firsts) positions) several path_is (ap (λ o. Some (picked_of o positions)) is) (indexes_have (λ first. first < 1) firsts positions all less)
    (indexes_mapped (chosen word) ps positions below ∙ ap (λ l. map (slice_index l) positions) are ∙ sym (indexes_mapped (λ first. k) firsts positions less))

module _ (structs : List StructType) (blocks : List Declared) (writes written : Bool) (base t : Ty) (shape : Shape) (positions : List ℕ) (is : Swizzles base t shape positions) (may : written ≡ true → (writes ≡ true) × (repeats positions ≡ false)) where
  below_chosen : (scalar_shape : Shape) → shape_of base ≡ Some scalar_shape → AllByRecursion (λ position. position < scalar_shape.1) positions
  below_chosen other of = subst (λ (s : Shape). AllByRecursion (λ position. position < s.1) positions) (shape_same (sym is.of ∙ of)) is.below

  gives_chosen : (c : Chosen) → shape_of base ≡ Some (c.shape.0, length c.positions) → shape_of t ≡ Some (c.shape.0, length (map (slice_index c.positions) positions))
  gives_chosen c of =
      let same : shape ≡ (c.shape.0, length c.positions) = shape_same (sym is.of ∙ of) in
      is.gives ∙ ap (λ (s : Shape). Some (s.0, length positions)) same ∙ ap (λ n. Some (c.shape.0, n)) (sym (length-map positions (slice_index c.positions)))

  some_chosen : (ps : List ℕ) → 1 ≤ length (map (slice_index ps) positions)
  some_chosen ps = subst (λ n. 1 ≤ n) (sym (length-map positions (slice_index ps))) is.some

  may_swizzled : (c : Option Chosen) → ((d : Chosen) → c ≡ Some d → AllByRecursion (λ position. position < length d.positions) positions) → MayWrite writes c → MayWrite written (Some (swizzled_chosen shape positions c))
  may_swizzled None below once e = (may e).1
  may_swizzled (Some d) below once e = picked_once d.positions positions (once (may e).0) (may e).1 (below d refl)

  picks_inside : (whole : Ty) (numbers path : List ℕ) (picked : Option (List ℕ)) (c : Option Chosen) → IsPicked whole base numbers c path picked → IsPicked whole t numbers (Some (swizzled_chosen shape positions c)) path (Some (picked_of picked positions))
  picks_inside whole numbers path picked None (same, path_is, unpicked) = record {
    of = ap shape_of same ∙ is.of;
    gives = is.gives;
    some = is.some;
    within = is.below;
    are = as_swizzle path_is (ap (λ o. Some (picked_of o positions)) unpicked ∙ ap Some (sym (map_same positions)));
  }
  picks_inside whole numbers path picked (Some c) x =
      let below : AllByRecursion (λ position. position < length c.positions) positions = below_chosen (c.shape.0, length c.positions) x.gives in
      record {
        of = x.of;
        gives = gives_chosen c x.gives;
        some = some_chosen c.positions;
        within = within_swizzled c.shape.1 c.word c.positions positions x.within below;
        are = picked_swizzled c.shape.1 numbers c.word c.positions positions path picked below x.are;
      }

  below_inside : (whole : Ty) (numbers path : List ℕ) (picked : Option (List ℕ)) (c : Option Chosen) → IsPicked whole base numbers c path picked → (d : Chosen) → c ≡ Some d → AllByRecursion (λ position. position < length d.positions) positions
  below_inside whole numbers path picked None x d e = absurd cc
  below_inside whole numbers path picked (Some c) x d e = let same : c ≡ d = cc in subst (λ (d : Chosen). AllByRecursion (λ position. position < length d.positions) positions) same (below_chosen (c.shape.0, length c.positions) x.gives)

  pub inside_swizzled : (a : Access) (l : Trail) → IsInside structs blocks writes base a l → IsInside structs blocks written t (swizzle_of a positions) (swizzled_trail shape positions l)
  inside_swizzled a l x = record {
    begins = x.begins;
    whole = x.whole;
    sound = x.sound;
    leads = x.leads;
    picks = picks_inside x.whole (l.front ++ l.words) a.path a.picked l.picks x.picks;
    may = may_swizzled l.picks (below_inside x.whole (l.front ++ l.words) a.path a.picked l.picks x.picks) x.may;
    named = λ e. x.named (may e).0;
  }

  picks_outside : (ty : Ty) (words : List ℕ) (c : Option Chosen) → IsOut structs ty base words c → IsMissing structs ty t words (swizzled_chosen shape positions c)
  picks_outside ty words None out = record { gives = is.gives; some = is.some; within = is.below; out = inl out }
  picks_outside ty words (Some c) x =
      let below : AllByRecursion (λ position. position < length c.positions) positions = below_chosen (c.shape.0, length c.positions) x.gives in
      record { gives = gives_chosen c x.gives; some = some_chosen c.positions; within = positions_swizzled c.shape.1 c.word c.positions positions x.within below; out = out_swizzled x.out }
    where
      out_swizzled : LeadsOut structs ty words ⊎ LacksComponent structs ty words c → LeadsOut structs ty words ⊎ LacksComponent structs ty words (swizzled_chosen shape positions (Some c))
      out_swizzled (inl out) = inl out
      out_swizzled (inr y) = inr (record { whole = y.whole; sound = y.sound; leads = y.leads; of = y.of; word = y.word; is = y.is; several = y.several; outside = y.outside })

  below_outside : (ty : Ty) (words : List ℕ) (c : Option Chosen) → IsOut structs ty base words c → (d : Chosen) → c ≡ Some d → AllByRecursion (λ position. position < length d.positions) positions
  below_outside ty words None x d e = absurd cc
  below_outside ty words (Some c) x d e = let same : c ≡ d = cc in subst (λ (d : Chosen). AllByRecursion (λ position. position < length d.positions) positions) same (below_chosen (c.shape.0, length c.positions) x.gives)

  pub outside_swizzled : (l : Trail) → IsOutside structs blocks writes base l → IsOutside structs blocks written t (swizzled_trail shape positions l)
  outside_swizzled l x = record { out = picks_outside l.ty l.words l.picks x.out; may = may_swizzled l.picks (below_outside l.ty l.words l.picks x.out) x.may; named = λ e. x.named (may e).0 }

-- ---- what was reached

module _ (m : Module) (input : Input) (sections : Sections) (f : Frame m input sections) (p : Program) (around : Around) where
  pub begins_longer : (at : At) (count : ℕ) (state : State) (loose : Start) (base : Base) (parts : List Part) (l : Trail) (part : Part) (k : ℕ) → (loose ≡ OfValue → (number : ℕ) × (part ≡ Fixed number))
      → ((x : AtValue m input sections f p around at loose base parts l) → HasPart x.value (l.words ++ k ∷ [])) → Begins m input sections f p around at count state loose base parts l → Begins m input sections f p around at count state loose base (parts ++ part ∷ []) (longer l k)
  begins_longer at count state loose base parts l part k fixed more (variable x) = variable (record { name = x.name; id = x.id; class = x.class; number = x.number; is = x.is; marked = x.marked; outside = x.outside; begins = x.begins; none = x.none; seat = x.seat; points = x.points; typed = x.typed })
  begins_longer at count state loose base parts l part k fixed more (value x) =
      let known = fixed x.marked in
      value (record { id = x.id; type_id = x.type_id; value = x.value; is = x.is; marked = x.marked; fixed = subst (λ one. AllByRecursion IsFixed (parts ++ one ∷ [])) (sym known.1) (fixed_longer parts known.0 x.fixed); begins = x.begins; none = x.none; stands = x.stands; typed = x.typed; has = more x })
  begins_longer at count state loose base parts l part k fixed more (holder x) = holder (record { id = x.id; value = x.value; is = x.is; begins = x.begins; waits = x.waits; typed = x.typed })

  pub begins_swizzled : (at : At) (count : ℕ) (state : State) (loose : Start) (base : Base) (parts : List Part) (l : Trail) (picks : Option Chosen) → Begins m input sections f p around at count state loose base parts l → Begins m input sections f p around at count state loose base parts (record l { picks = picks })
  begins_swizzled at count state loose base parts l picks (variable x) = variable (record { name = x.name; id = x.id; class = x.class; number = x.number; is = x.is; marked = x.marked; outside = x.outside; begins = x.begins; none = x.none; seat = x.seat; points = x.points; typed = x.typed })
  begins_swizzled at count state loose base parts l picks (value x) = value (record { id = x.id; type_id = x.type_id; value = x.value; is = x.is; marked = x.marked; fixed = x.fixed; begins = x.begins; none = x.none; stands = x.stands; typed = x.typed; has = x.has })
  begins_swizzled at count state loose base parts l picks (holder x) = holder (record { id = x.id; value = x.value; is = x.is; begins = x.begins; waits = x.waits; typed = x.typed })

  pub own_member : (loose : Start) (b : Flow) (state : State) (r : Reached) (l : Trail) (number : ℕ) → ((x : AtValue m input sections f p around (λ id v. HeldAs m input sections f false id v b state) loose r.base r.path l) → HasPart x.value (l.words ++ number ∷ []))
      → IsOwnTrail m input sections f p around false loose b state r l → IsOwnTrail m input sections f p around false loose b state (part_of r (Fixed number)) (longer l number)
  own_member loose b state r l number more x = record {
    begins = begins_longer (λ id v. HeldAs m input sections f false id v b state) b.place.used state loose r.base r.path l (Fixed number) number (λ e. (number, refl)) more x.begins;
    numbers = numbers_longer (λ id v. HeldAs m input sections f false id v b state) r.path l.words (Fixed number) number x.numbers refl;
    picks = x.picks;
  }

  pub own_swizzled : (loose : Start) (b : Flow) (state : State) (r : Reached) (l : Trail) (shape : Shape) (positions : List ℕ) → IsOwnTrail m input sections f p around false loose b state r l → IsOwnTrail m input sections f p around false loose b state (swizzled shape positions r) (swizzled_trail shape positions l)
  unfolding swizzled
  own_swizzled loose b state r l shape positions x = record {
    begins = begins_swizzled (λ id v. HeldAs m input sections f false id v b state) b.place.used state loose r.base r.path l (Some (swizzled_chosen shape positions l.picks)) x.begins;
    numbers = x.numbers;
    picks = picks_swizzled (λ id v. HeldAs m input sections f false id v b state) shape positions r.picked l.picks x.picks;
  }
