-- Locations and bindings that are used again, found by a set of those that were used.
use Rattle.std.proofs.Common.{◌≡◌, refl, sym, ap, ◌∙◌, Bool, true, false, not, ◌&&◌, ◌||◌, List, [], ◌∷◌, ◌++◌, map, append_assoc, append-nil}
use Rattle.std.specs.Prelude.{nat_eq, if◌then◌else◌}
use Rattle.std.specs.List.{list_any}
use Rattle.std.proofs.lemmas.List.Folds.{list_any-append}
use Rattle.std.proofs.lemmas.Bool.{eqb-true, and_parts}
use Rattle.indexmap.specs.IndexSet.{insert_key}
use Rattle.gsl_base.specs.declared.fault.Place.{Place}
use Rattle.gsl_tree.specs.declared.unit.Block.{Block}
use Rattle.gsl_tree.specs.declared.unit.Interface.{Interface}
use Rattle.gsl_tree.specs.WellTyped.{is_push}
use Rattle.gsl_link_units.specs.Firsts.{again, again_behind}
use Rattle.gsl_link_units.specs.Agreement.{both_or_neither}
use Rattle.gsl_link.specs.declared.slots.Slot.{Slot}
use Rattle.gsl_link.specs.Rows.{same_location, same_binding}
use Rattle.gsl_link.specs.Sides.{slot_eq, location_slot, binding_slot, locations_again, binding_slots, bindings_again}
use Rattle.gsl_link.proofs.Undefined.{any_put, or_false}

slot_is : (a b : Slot) → slot_eq a b ≡ true → a ≡ b
slot_is a b is =
    let p = and_parts (nat_eq a.group b.group) (nat_eq a.number b.number) is in
    λ j. record { group = eqb-true a.group b.group p.0 j; number = eqb-true a.number b.number p.1 j }

-- ---- locations

of_outputs : (a b : Bool) → nat_eq (if a then 1 else 0) (if b then 1 else 0) ≡ both_or_neither a b
of_outputs true true = refl
of_outputs true false = refl
of_outputs false true = refl
of_outputs false false = refl

location_is : (i j : Interface) → slot_eq (location_slot i) (location_slot j) ≡ same_location i j
location_is i j = ap (λ b. b && nat_eq i.location j.location) (of_outputs i.output j.output)

abbrev SeenLocations : List Slot → List Interface → Type 0
SeenLocations slots before = (i : Interface) → list_any (slot_eq (location_slot i)) slots ≡ list_any (same_location i) before

location_seen : (slots : List Slot) (before : List Interface) (x : Interface) → SeenLocations slots before → SeenLocations (insert_key slot_eq slots (location_slot x)) (before ++ x ∷ [])
location_seen slots before x seen i =
    any_put slot_eq slot_is slots (location_slot x) (location_slot i)
    ∙ ap (λ b. b || slot_eq (location_slot i) (location_slot x)) (seen i) ∙ ap (λ b. list_any (same_location i) before || b) (location_is i x ∙ sym (or_false (same_location i x)))
    ∙ sym (list_any-append (same_location i) before (x ∷ []))

abbrev interface_places : List Interface → List Place
interface_places interfaces = map (λ (i : Interface). i.place) interfaces

locations_from : (slots : List Slot) (places : List Place) (before interfaces : List Interface) → SeenLocations slots before
    → locations_again slots places interfaces ≡ places ++ interface_places (again_behind same_location before interfaces)
locations_from slots places before [] seen = sym (append-nil places)
locations_from slots places before (x ∷ interfaces) seen =
    ap (λ b. locations_again (insert_key slot_eq slots (location_slot x)) (if b then places ++ x.place ∷ [] else places) interfaces) (seen x)
    ∙ by_cases (list_any (same_location x) before)
    (λ l. locations_from (insert_key slot_eq slots (location_slot x)) l (before ++ x ∷ []) interfaces (location_seen slots before x seen))
  where
    later : List Interface
    later = again_behind same_location (before ++ x ∷ []) interfaces

    next : List Slot
    next = insert_key slot_eq slots (location_slot x)

    by_cases : (b : Bool) → ((l : List Place) → locations_again next l interfaces ≡ l ++ interface_places later)
        → locations_again next (if b then places ++ x.place ∷ [] else places) interfaces ≡ places ++ interface_places (if b then x ∷ later else later)
    by_cases true is = is (places ++ x.place ∷ []) ∙ append_assoc places (x.place ∷ []) (interface_places later)
    by_cases false is = is places

pub locations_are : (interfaces : List Interface) → locations_again [] [] interfaces ≡ interface_places (again same_location interfaces)
locations_are interfaces = locations_from [] [] [] interfaces (λ i. refl)

-- ---- bindings

abbrev SeenBindings : List Slot → List Block → Type 0
SeenBindings slots before = (block : Block) → (not (is_push block.kind) && list_any (slot_eq (binding_slot block)) slots) ≡ list_any (same_binding block) before

-- by whether a block and the next one are push constant blocks
apart : (push other set binding : Bool) → (((not push && not other) && set) && binding) ≡ (not push && (not other && (set && binding)))
apart true other set binding = refl
apart false true set binding = refl
apart false false true binding = refl
apart false false false binding = refl

one_more : (push other a b c : Bool) → (not push && (a || b)) ≡ ((not push && a) || (not push && b))
one_more true other a b c = refl
one_more false other a b c = refl

binding_seen : (slots : List Slot) (before : List Block) (x : Block) → SeenBindings slots before → SeenBindings (binding_slots slots x) (before ++ x ∷ [])
binding_seen slots before x seen block = by_cases (is_push x.kind) refl ∙ sym (list_any-append (same_binding block) before (x ∷ []))
  where
    mine : Bool
    mine = not (is_push block.kind)

    same : Bool
    same = slot_eq (binding_slot block) (binding_slot x)

    is_same : (other : Bool) → is_push x.kind ≡ other → same_binding block x ≡ (mine && (not other && same))
    is_same other is =
        ap (λ o. ((not (is_push block.kind) && not o) && nat_eq block.set x.set) && nat_eq block.binding x.binding) is
        ∙ apart (is_push block.kind) other (nat_eq block.set x.set) (nat_eq block.binding x.binding)

    none : (m : Bool) → (m && false) ≡ false
    none true = refl
    none false = refl

    by_cases : (other : Bool) → is_push x.kind ≡ other
        → (mine && list_any (slot_eq (binding_slot block)) (if other then slots else insert_key slot_eq slots (binding_slot x)))
        ≡ (list_any (same_binding block) before || (same_binding block x || false))
    by_cases true is =
        seen block ∙ sym (or_false (list_any (same_binding block) before))
        ∙ ap (λ b. list_any (same_binding block) before || b) (sym (none mine) ∙ sym (is_same true is) ∙ sym (or_false (same_binding block x)))
    by_cases false is =
        ap (λ b. mine && b) (any_put slot_eq slot_is slots (binding_slot x) (binding_slot block))
        ∙ one_more (is_push block.kind) true (list_any (slot_eq (binding_slot block)) slots) same true
        ∙ ap (λ b. b || (mine && same)) (seen block)
        ∙ ap (λ b. list_any (same_binding block) before || b) (sym (is_same false is) ∙ sym (or_false (same_binding block x)))

abbrev pub block_places : List Block → List Place
block_places blocks = map (λ (block : Block). block.place) blocks

bindings_from : (slots : List Slot) (places : List Place) (before blocks : List Block) → SeenBindings slots before
    → bindings_again slots places blocks ≡ places ++ block_places (again_behind same_binding before blocks)
bindings_from slots places before [] seen = sym (append-nil places)
bindings_from slots places before (x ∷ blocks) seen =
    ap (λ b. bindings_again (binding_slots slots x) (if b then places ++ x.place ∷ [] else places) blocks) (seen x)
    ∙ by_cases (list_any (same_binding x) before) (λ l. bindings_from (binding_slots slots x) l (before ++ x ∷ []) blocks (binding_seen slots before x seen))
  where
    later : List Block
    later = again_behind same_binding (before ++ x ∷ []) blocks

    by_cases : (b : Bool) → ((l : List Place) → bindings_again (binding_slots slots x) l blocks ≡ l ++ block_places later)
        → bindings_again (binding_slots slots x) (if b then places ++ x.place ∷ [] else places) blocks ≡ places ++ block_places (if b then x ∷ later else later)
    by_cases true is = is (places ++ x.place ∷ []) ∙ append_assoc places (x.place ∷ []) (block_places later)
    by_cases false is = is places

-- bindings behind places
pub bindings_are : (places : List Place) (blocks : List Block) → bindings_again [] places blocks ≡ places ++ block_places (again same_binding blocks)
bindings_are places blocks = bindings_from [] places [] blocks nothing
  where
    nothing : SeenBindings [] []
    nothing block = by_cases (is_push block.kind)
      where
        by_cases : (b : Bool) → (not b && false) ≡ false
        by_cases true = refl
        by_cases false = refl
