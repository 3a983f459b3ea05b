-- Arguments that were passed, behind the call.
use Rattle.std.proofs.Common.{◌≡◌, ◌≢◌, refl, sym, ap, ◌∙◌, subst, ℕ, zero, suc, ◌+◌, ◌<◌, ◌≤◌, Bool, true, false, List, [], ◌∷◌, ◌++◌, length, Option, Some, None, arith}
use Rattle.std.specs.Prelude.{slice_get}
use Rattle.std.specs.List.{AllByRecursion}
use Rattle.gsl_base.specs.declared.input.Input.{Input}
use Rattle.gsl_types.specs.Known.{AreStructs}
use Rattle.gsl_types.specs.declared.ty.Direction.{Direction}
use Rattle.gsl_types.specs.declared.ty.Ty.{Ty}
use Rattle.gsl_words.specs.declared.module.Module.{Module}
use Rattle.gsl_values.specs.declared.value.Value.{Value}
use Rattle.gsl_tree.specs.Around.{Around}
use Rattle.gsl_tree.specs.declared.program.Program.{Program}
use Rattle.gsl_meaning.specs.Accesses.{Access}
use Rattle.gsl_meaning.specs.Expressions.{Meant}
use Rattle.gsl_machine.specs.State.{InVariable, Points, State}
use Rattle.gsl_spv.specs.Sections.{Sections}
use Rattle.gsl_lower_places.specs.declared.reached.Part.{Part}
use Rattle.gsl_lower_places.specs.declared.reached.Part.TheVariants.{Fixed, By}
use Rattle.gsl_lower_places.specs.declared.reached.Picked.{Picked}
use Rattle.gsl_lower_places.specs.declared.reached.Reached.{Reached}
use Rattle.gsl_lower_law.specs.Values.{Keeps}
use Rattle.gsl_lower_holders.specs.Flow.{Flow}
use Rattle.gsl_lower_expr.specs.Parts.{Lower, any_splits}
use Rattle.gsl_lower_follows.specs.Frames.{Frame, HasType, HeldAs, Holder, Waits, type_of_param}
use Rattle.gsl_lower_law_entered.specs.Entering.{Argument, AreHeld, IsHeld, values_of}
use Rattle.gsl_lower_reaching.specs.Reaching.{At, Begins, ChoosesBy, IsTrail, NumberBy, NumberEachBy, PicksBy}
use Rattle.gsl_lower_reaching.specs.Reaching.IsTrail.{own, in_block}
use Rattle.gsl_lower_reaching.specs.Reaching.Begins.{variable, value, holder}
use Rattle.gsl_lower_reaching.specs.Trails.{Chosen, MayStore}
use Rattle.gsl_lower_law_passed.proofs.Backs.{AreEnds}
use Rattle.gsl_lower_law_passed.proofs.Fresh.{FreshBy, IdWithin, PartIf, PartIs, PickedIf}
use Rattle.gsl_lower_law_passed.proofs.Items.{AreItems, IsBackIf, Item, arguments_of}

points_same : {a b : ℕ} → Some (Points (InVariable a [])) ≡ Some (Points (InVariable b [])) → a ≡ b
points_same e = cc

argument_same : {a b : Argument} → Some a ≡ Some b → a ≡ b
argument_same e = cc

-- numbers whose ids are of a kind are those words elsewhere too
module _ (one other : At) (Is : ℕ → Type 0) (so : (id : ℕ) (v : Value) → Is id → one id v → other id v) where
  number_stays : (part : Part) (word : ℕ) → PartIs Is part → NumberBy one part word → NumberBy other part word
  number_stays (Fixed number) word is there = there
  number_stays (By s id) word is there = so id _ is there

  numbers_stay : (parts : List Part) (words : List ℕ) → AllByRecursion (PartIs Is) parts → NumberEachBy one parts words → NumberEachBy other parts words
  numbers_stay [] [] is each = tt
  numbers_stay [] (word ∷ words) is each = each
  numbers_stay (part ∷ parts) [] is each = each
  numbers_stay (part ∷ parts) (word ∷ words) is each = (number_stays part word is.0 each.0, numbers_stay parts words is.1 each.1)

  chooses_stay : (part : Option Part) (word : Option ℕ) → PartIf Is part → ChoosesBy one part word → ChoosesBy other part word
  chooses_stay None None is chooses = tt
  chooses_stay None (Some word) is chooses = chooses
  chooses_stay (Some part) None is chooses = chooses
  chooses_stay (Some part) (Some word) is chooses = number_stays part word is chooses

  picks_stay : (q : Option Picked) (c : Option Chosen) → PickedIf Is q → PicksBy one q c → PicksBy other q c
  picks_stay None None is picks = tt
  picks_stay None (Some c) is picks = picks
  picks_stay (Some q) None is picks = picks
  picks_stay (Some q) (Some c) is (shape, positions, chooses) = (shape, positions, chooses_stay q.by c.word is chooses)

module _ (m : Module) (input : Input) (whole : Sections) (f : Frame m input whole) (p : Program) (around : Around) where
  -- ---- arguments that were passed

  pub items_many : (first : ℕ) (params : List (Direction × Ty)) (es : List Lower) (xs : List Meant) (b : Flow) (state : State) (items : List Item) → AreItems m input whole f p around first params es xs b state items → (length items ≡ length es) × (length (arguments_of items) ≡ length params)
  items_many first [] [] [] b state [] are = (refl, refl)
  items_many first [] [] [] b state (i ∷ items) are = absurd are
  items_many first [] [] (x ∷ xs) b state items are = absurd are
  items_many first [] (e ∷ es) xs b state items are = absurd are
  items_many first (param ∷ params) [] xs b state items are = absurd are
  items_many first (param ∷ params) (e ∷ es) [] b state items are = absurd are
  items_many first (param ∷ params) (e ∷ es) (x ∷ xs) b state [] are = absurd are
  items_many first (param ∷ params) (e ∷ es) (x ∷ xs) b state (i ∷ items) are = let more = items_many (i.argument.holder + 1) params es xs b state items are.1 in (ap suc more.0, ap suc more.1)

  -- an argument waits, behind those before it
  pub record IsAt (first : ℕ) (b : Flow) (state : State) (a : Argument) : Type 0 where
    pub held : IsHeld m input whole f first state a
    pub below : a.holder < b.place.used

  pub item_at : (first : ℕ) (params : List (Direction × Ty)) (es : List Lower) (xs : List Meant) (b : Flow) (state : State) (items : List Item) → AreItems m input whole f p around first params es xs b state items → (j : ℕ) (a : Argument) → slice_get (arguments_of items) j ≡ Some a → IsAt first b state a
  item_at first [] [] [] b state [] are zero a there = absurd cc
  item_at first [] [] [] b state [] are (suc j) a there = absurd cc
  item_at first [] [] [] b state (i ∷ items) are j a there = absurd are
  item_at first [] [] (x ∷ xs) b state items are j a there = absurd are
  item_at first [] (e ∷ es) xs b state items are j a there = absurd are
  item_at first (param ∷ params) [] xs b state items are j a there = absurd are
  item_at first (param ∷ params) (e ∷ es) [] b state items are j a there = absurd are
  item_at first (param ∷ params) (e ∷ es) (x ∷ xs) b state [] are j a there = absurd are
  item_at first (param ∷ params) (e ∷ es) (x ∷ xs) b state (i ∷ items) are zero a there = subst (IsAt first b state) (argument_same there) (record { held = are.0.held; below = are.0.below })
  item_at first (param ∷ params) (e ∷ es) (x ∷ xs) b state (i ∷ items) are (suc j) a there =
      let q = item_at (i.argument.holder + 1) params es xs b state items are.1 j a there in
      let first_less = are.0.held.behind in
      let behind = q.held.behind in
      record { held = record { behind = omega (arith, first_less, behind); seat = q.held.seat; points = q.held.points; value = q.held.value }; below = q.below }

  items_apart : (first : ℕ) (params : List (Direction × Ty)) (es : List Lower) (xs : List Meant) (b : Flow) (state : State) (items : List Item) → AreItems m input whole f p around first params es xs b state items
      → (j k : ℕ) (a c : Argument) → slice_get (arguments_of items) j ≡ Some a → slice_get (arguments_of items) k ≡ Some c → a.holder ≡ c.holder → j ≡ k
  items_apart first [] [] [] b state [] are zero k a c at_j at_k same = absurd cc
  items_apart first [] [] [] b state [] are (suc j) k a c at_j at_k same = absurd cc
  items_apart first [] [] [] b state (i ∷ items) are j k a c at_j at_k same = absurd are
  items_apart first [] [] (x ∷ xs) b state items are j k a c at_j at_k same = absurd are
  items_apart first [] (e ∷ es) xs b state items are j k a c at_j at_k same = absurd are
  items_apart first (param ∷ params) [] xs b state items are j k a c at_j at_k same = absurd are
  items_apart first (param ∷ params) (e ∷ es) [] b state items are j k a c at_j at_k same = absurd are
  items_apart first (param ∷ params) (e ∷ es) (x ∷ xs) b state [] are j k a c at_j at_k same = absurd are
  items_apart first (param ∷ params) (e ∷ es) (x ∷ xs) b state (i ∷ items) are zero zero a c at_j at_k same = refl
  items_apart first (param ∷ params) (e ∷ es) (x ∷ xs) b state (i ∷ items) are zero (suc k) a c at_j at_k same =
      let n : i.argument.holder ≡ a.holder = ap (λ (z : Argument). z.holder) (argument_same at_j) in
      let behind = (item_at (i.argument.holder + 1) params es xs b state items are.1 k c at_k).held.behind in
      absurd (omega (arith, n, same, behind))
  items_apart first (param ∷ params) (e ∷ es) (x ∷ xs) b state (i ∷ items) are (suc j) zero a c at_j at_k same =
      let n : i.argument.holder ≡ c.holder = ap (λ (z : Argument). z.holder) (argument_same at_k) in
      let behind = (item_at (i.argument.holder + 1) params es xs b state items are.1 j a at_j).held.behind in
      absurd (omega (arith, n, same, behind))
  items_apart first (param ∷ params) (e ∷ es) (x ∷ xs) b state (i ∷ items) are (suc j) (suc k) a c at_j at_k same = ap suc (items_apart (i.argument.holder + 1) params es xs b state items are.1 j k a c at_j at_k same)

  pub items_held : (first : ℕ) (params : List (Direction × Ty)) (es : List Lower) (xs : List Meant) (b : Flow) (state : State) (items : List Item) → AreItems m input whole f p around first params es xs b state items → AreHeld m input whole f first state (arguments_of items)
  items_held first params es xs b state items are = record { each = λ j a there. (item_at first params es xs b state items are j a there).held; apart = items_apart first params es xs b state items are }

  pub items_typed : (first : ℕ) (params : List (Direction × Ty)) (es : List Lower) (xs : List Meant) (b : Flow) (state : State) (items : List Item) → AreItems m input whole f p around first params es xs b state items
      → (number : ℕ) → HasType m input whole f p around (type_of_param (slice_get params number)) (slice_get (values_of (arguments_of items)) number)
  items_typed first [] [] [] b state [] are zero = tt
  items_typed first [] [] [] b state [] are (suc number) = tt
  items_typed first [] [] [] b state (i ∷ items) are number = absurd are
  items_typed first [] [] (x ∷ xs) b state items are number = absurd are
  items_typed first [] (e ∷ es) xs b state items are number = absurd are
  items_typed first (param ∷ params) [] xs b state items are number = absurd are
  items_typed first (param ∷ params) (e ∷ es) [] b state items are number = absurd are
  items_typed first (param ∷ params) (e ∷ es) (x ∷ xs) b state [] are number = absurd are
  items_typed first (param ∷ params) (e ∷ es) (x ∷ xs) b state (i ∷ items) are zero = are.0.typed
  items_typed first (param ∷ params) (e ∷ es) (x ∷ xs) b state (i ∷ items) are (suc number) = items_typed (i.argument.holder + 1) params es xs b state items are.1 number

  -- ---- behind the call

  module _ (are : AreStructs p.structs) (b later : Flow) (state last : State) (keeps : Keeps state.ids last.ids) (more : b.place.used ≤ later.place.used) (NotArgument : ℕ → Type 0)
      (others : (holder number : ℕ) → f.seat (Holder holder) ≡ Some number → NotArgument holder → slice_get last.variables number ≡ slice_get state.variables number) where
    -- a value that waits in a holder that was not passed waits there still
    waits_still : (low high : ℕ) → ((h : ℕ) → low ≤ h → h < high → NotArgument h) → (id : ℕ) (v : Value) → IdWithin f.place.holders low high id → Waits m input whole f b.place.used id v state → Waits m input whole f later.place.used id v last
    waits_still low high none id v (k, from, to, there) w =
        let known = f.known (Holder k) id there in
        let same : known.0 ≡ w.number = points_same (sym known.2 ∙ w.points) in
        record { holder = w.holder; number = w.number; among = (let less = w.among in omega (arith, less, more)); seat = w.seat; points = w.points; value = others k w.number (subst (λ n. f.seat (Holder k) ≡ Some n) same known.1) (none k from to) ∙ w.value }

    held_still : (waits : Bool) (low high : ℕ) → ((h : ℕ) → low ≤ h → h < high → NotArgument h) → (id : ℕ) (v : Value) → FreshBy waits f.place.holders low high id → HeldAs m input whole f waits id v b state → HeldAs m input whole f waits id v later last
    held_still false low high none id v fresh stands = keeps.same id _ stands
    held_still true low high none id v fresh waits = waits_still low high none id v fresh waits

    back_still : (waits : Bool) (e : Lower) (low high : ℕ) → ((h : ℕ) → low ≤ h → h < high → NotArgument h) → (back : Option Reached) (access : Option Access) → IsBackIf m input whole f p around waits e low high b state back access → IsBackIf m input whole f p around waits e low high later last back access
    back_still waits e low high none None None is = tt
    back_still waits e low high none None (Some a) is = is
    back_still waits e low high none (Some kept) None is = is
    back_still waits e low high none (Some kept) (Some a) is = record { trail = is.trail; start = is.start; knows = is.knows; is = by is.is; inside = is.inside; fresh = is.fresh }
      where
        named : MayStore p.blocks is.trail.root
        named = is.inside.named refl

        begins : Begins m input whole f p around (λ id v. HeldAs m input whole f waits id v b state) b.place.used state is.start kept.base kept.path is.trail
            → Begins m input whole f p around (λ id v. HeldAs m input whole f waits id v later last) later.place.used last is.start kept.base kept.path is.trail
        begins (variable x) = variable (record { name = x.name; id = x.id; class = x.class; number = x.number; is = x.is; marked = x.marked; outside = x.outside; begins = x.begins; none = x.none; seat = x.seat; points = x.points; typed = x.typed })
        begins (value x) = absurd (subst (MayStore p.blocks) x.begins named)
        begins (holder x) = absurd (subst (MayStore p.blocks) x.begins named)

        by : IsTrail m input whole f p around waits is.start b state kept is.trail → IsTrail m input whole f p around waits is.start later last kept is.trail
        by (own y) = own (record {
          begins = begins y.begins;
          numbers = numbers_stay (λ id v. HeldAs m input whole f waits id v b state) (λ id v. HeldAs m input whole f waits id v later last) (FreshBy waits f.place.holders low high) (held_still waits low high none) kept.path is.trail.words is.fresh.parts y.numbers;
          picks = picks_stay (λ id v. HeldAs m input whole f waits id v b state) (λ id v. HeldAs m input whole f waits id v later last) (FreshBy waits f.place.holders low high) (held_still waits low high none) kept.picked is.trail.picks is.fresh.picked y.picks;
        })
        by (in_block y) = in_block (record {
          begins = y.begins;
          numbers = numbers_stay (λ id v. HeldAs m input whole f waits id v b state) (λ id v. HeldAs m input whole f waits id v later last) (FreshBy waits f.place.holders low high) (held_still waits low high none) kept.path (is.trail.front ++ is.trail.words) is.fresh.parts y.numbers;
          picks = picks_stay (λ id v. HeldAs m input whole f waits id v b state) (λ id v. HeldAs m input whole f waits id v later last) (FreshBy waits f.place.holders low high) (held_still waits low high none) kept.picked is.trail.picks is.fresh.picked y.picks;
        })

    pub ends : (first : ℕ) (params : List (Direction × Ty)) (es : List Lower) (xs : List Meant) (items : List Item) (vs : List Value) → AreItems m input whole f p around first params es xs b state items
        → ((h : ℕ) → first ≤ h → ((j : ℕ) (a : Argument) → slice_get (arguments_of items) j ≡ Some a → a.holder ≢ h) → NotArgument h)
        → ((number : ℕ) → HasType m input whole f p around (type_of_param (slice_get params number)) (slice_get vs number))
        → ((number : ℕ) (a : Argument) (v : Value) → slice_get (arguments_of items) number ≡ Some a → slice_get vs number ≡ Some v → slice_get last.variables a.seat ≡ Some v) → AreEnds m input whole f p around are first params es xs later last items vs
    ends first [] [] [] [] vs is split typed values = tt
    ends first [] [] [] (i ∷ items) vs is split typed values = is
    ends first [] [] (x ∷ xs) items vs is split typed values = absurd is
    ends first [] (e ∷ es) xs items vs is split typed values = absurd is
    ends first (param ∷ params) [] xs items vs is split typed values = absurd is
    ends first (param ∷ params) (e ∷ es) [] items vs is split typed values = absurd is
    ends first (param ∷ params) (e ∷ es) (x ∷ xs) [] vs is split typed values = absurd is
    ends first (param ∷ params) (e ∷ es) (x ∷ xs) (i ∷ items) [] is split typed values = absurd (typed 0)
    ends first (param ∷ params) (e ∷ es) (x ∷ xs) (i ∷ items) (v ∷ vs) is split typed values = (
      record {
        comes = is.0.comes;
        typed = typed 0;
        held = record { holder = i.argument.holder; number = i.argument.seat; among = (let less = is.0.below in omega (arith, less, more)); seat = is.0.held.seat; points = is.0.held.points; value = values 0 i.argument v refl refl };
        back = back_still (any_splits es) e first i.argument.holder (λ h low high. split h low (before h high)) i.back i.access is.0.back;
      },
      ends (i.argument.holder + 1) params es xs items vs is.1 (λ h low none. split h (let behind = is.0.held.behind in omega (arith, low, behind)) (behind_it h low none)) (λ number. typed (suc number)) (λ number a w there has. values (suc number) a w there has),
    )
      where
        before : (h : ℕ) → h < i.argument.holder → (j : ℕ) (a : Argument) → slice_get (arguments_of (i ∷ items)) j ≡ Some a → a.holder ≢ h
        before h less zero a there same = let n : i.argument.holder ≡ a.holder = ap (λ (z : Argument). z.holder) (argument_same there) in absurd (omega (arith, n, same, less))
        before h less (suc j) a there same = let behind = (item_at (i.argument.holder + 1) params es xs b state items is.1 j a there).held.behind in absurd (omega (arith, behind, same, less))

        behind_it : (h : ℕ) → i.argument.holder + 1 ≤ h → ((j : ℕ) (a : Argument) → slice_get (arguments_of items) j ≡ Some a → a.holder ≢ h) → (j : ℕ) (a : Argument) → slice_get (arguments_of (i ∷ items)) j ≡ Some a → a.holder ≢ h
        behind_it h low none zero a there same = let n : i.argument.holder ≡ a.holder = ap (λ (z : Argument). z.holder) (argument_same there) in absurd (omega (arith, n, same, low))
        behind_it h low none (suc j) a there same = none j a there same
