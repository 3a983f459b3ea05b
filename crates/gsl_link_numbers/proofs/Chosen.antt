-- The declaration that the pass over the units finds stands for its variable.
use Rattle.std.proofs.Common.{◌≡◌, refl, sym, ap, ◌∙◌, ℕ, ◌+◌, Bool, true, false, cond, not, ◌&&◌, ◌||◌, List, [], ◌∷◌, ◌++◌}
use Rattle.std.specs.Prelude.{nat_eq, bytes_eq, is_some, find, Option, Some, None, if◌then◌else◌}
use Rattle.std.specs.List.{AllByRecursion}
use Rattle.std.specs.Cmp.Lexicographic.{bytes_decides}
use Rattle.std.proofs.lemmas.Bool.{true≢false, eqb-true, and_parts}
use Rattle.indexmap.specs.IndexMap.{insert_entry}
use Rattle.gsl_tree.specs.declared.unit.GlobalVar.{GlobalVar}
use Rattle.gsl_link_units.specs.Declarations.{Side}
use Rattle.gsl_link_whole.specs.Numbers.{Sited, sited_from, all_from, all_globals, same_site, same_variable, begins, or_else, stands_for}
use Rattle.gsl_link_numbers.specs.declared.site.Site.{Site}
use Rattle.gsl_link_numbers.specs.declared.site.Spot.{Spot}
use Rattle.gsl_link_numbers.specs.Standing.{Spots, site_at, spot_at, spot_of, takes_over, noted, noted_from, noted_all, site_or, site_of}
use Rattle.gsl_link_numbers.proofs.Sited.{all_as, alone, Alone}

same_words : (k l : List ℕ) → bytes_eq k l ≡ true → k ≡ l
same_words k l = (bytes_decides k l).0

itself : (k : List ℕ) → bytes_eq k k ≡ true
itself k = (bytes_decides k k).1 refl

-- ---- a table with one more entry

abbrev With : Spots → List ℕ → Spot → List ℕ → Type 0
With spots n v name = spot_of (insert_entry bytes_eq spots n v) name ≡ cond (bytes_eq name n) (Some v) (spot_of spots name)

with_entry : (spots : Spots) (n : List ℕ) (v : Spot) (name : List ℕ) → With spots n v name
with_entry [] n v name = refl
with_entry (e ∷ spots) n v name = by_cases (bytes_eq n e.0) refl (with_entry spots n v name)
  where
    same : (c : Bool) → cond c (Some v) (spot_of spots name) ≡ cond c (Some v) (cond c (Some e.1) (spot_of spots name))
    same true = refl
    same false = refl

    apart : (c d : Bool) → (c ≡ true → d ≡ false) → cond c (Some e.1) (cond d (Some v) (spot_of spots name)) ≡ cond d (Some v) (cond c (Some e.1) (spot_of spots name))
    apart true true differ = absurd (true≢false (differ refl))
    apart true false differ = refl
    apart false d differ = refl

    by_cases : (b : Bool) → bytes_eq n e.0 ≡ b → With spots n v name
        → spot_of (if b then (e.0, v) ∷ spots else e ∷ insert_entry bytes_eq spots n v) name ≡ cond (bytes_eq name n) (Some v) (cond (bytes_eq name e.0) (Some e.1) (spot_of spots name))
    by_cases true is later =
        same (bytes_eq name e.0)
        ∙ ap (λ k. cond (bytes_eq name k) (Some v) (cond (bytes_eq name e.0) (Some e.1) (spot_of spots name))) (sym (same_words n e.0 is))
    by_cases false is later =
        ap (cond (bytes_eq name e.0) (Some e.1)) later
        ∙ apart (bytes_eq name e.0) (bytes_eq name n) (λ at. off (bytes_eq name n) refl (same_words name e.0 at))
      where
        off : (d : Bool) → bytes_eq name n ≡ d → name ≡ e.0 → d ≡ false
        off true d at = absurd (true≢false (sym (ap (bytes_eq n) (sym at ∙ same_words name n d) ∙ itself n) ∙ is))
        off false d at = refl

-- ---- what is found under one name

-- whether a declaration is of a shared variable of this name, and whether it has an initialiser too
abbrev named : List ℕ → Sited → Bool
named name s = not s.global.constant && bytes_eq name s.global.name

abbrev named_begun : List ℕ → Sited → Bool
named_begun name s = named name s && is_some s.global.init

abbrev spot : Sited → Spot
spot s = spot_at s.unit s.index s.global

abbrev next_spot : List ℕ → Option Spot → Sited → Option Spot
next_spot name found s = if named name s && takes_over found (is_some s.global.init) then Some (spot s) else found

abbrev noted_one : Spots → Sited → Spots
noted_one spots s = noted spots s.unit s.index s.global

abbrev noted_each : Spots → List Sited → Spots
noted_each spots [] = spots
noted_each spots (s ∷ more) = noted_each (noted_one spots s) more

noted_more : (spots : Spots) (xs ys : List Sited) → noted_each spots (xs ++ ys) ≡ noted_each (noted_each spots xs) ys
noted_more spots [] ys = refl
noted_more spots (x ∷ xs) ys = noted_more (noted_one spots x) xs ys

from_is : (spots : Spots) (unit index : ℕ) (globals : List GlobalVar) → noted_from spots unit index globals ≡ noted_each spots (sited_from unit index globals)
from_is spots unit index [] = refl
from_is spots unit index (g ∷ globals) = from_is (noted spots unit index g) unit (index + 1) globals

all_is : (spots : Spots) (unit : ℕ) (sides : List Side) → noted_all spots unit sides ≡ noted_each spots (all_from unit sides)
all_is spots unit [] = refl
all_is spots unit (side ∷ sides) =
    all_is (noted_from spots unit 0 side.unit.globals) (unit + 1) sides
    ∙ ap (λ l. noted_each l (all_from (unit + 1) sides)) (from_is spots unit 0 side.unit.globals)
    ∙ sym (noted_more spots (sited_from unit 0 side.unit.globals) (all_from (unit + 1) sides))

one_noted : (spots : Spots) (s : Sited) (name : List ℕ) → spot_of (noted_one spots s) name ≡ next_spot name (spot_of spots name) s
one_noted spots s name = by_cases (not s.global.constant) (bytes_eq name s.global.name) refl
  where
    begun : Bool
    begun = is_some s.global.init

    -- another name
    other : (p : Bool) → bytes_eq name s.global.name ≡ false
        → spot_of (if p then insert_entry bytes_eq spots s.global.name (spot s) else spots) name ≡ spot_of spots name
    other true differs = with_entry spots s.global.name (spot s) name ∙ ap (λ c. cond c (Some (spot s)) (spot_of spots name)) differs
    other false differs = refl

    this : (p : Bool) → bytes_eq name s.global.name ≡ true
        → spot_of (if p then insert_entry bytes_eq spots s.global.name (spot s) else spots) name ≡ (if p then Some (spot s) else spot_of spots name)
    this true same = with_entry spots s.global.name (spot s) name ∙ ap (λ c. cond c (Some (spot s)) (spot_of spots name)) same
    this false same = refl

    by_cases : (shared : Bool) (same : Bool) → bytes_eq name s.global.name ≡ same
        → spot_of (if shared && takes_over (spot_of spots s.global.name) begun then insert_entry bytes_eq spots s.global.name (spot s) else spots) name
        ≡ (if (shared && same) && takes_over (spot_of spots name) begun then Some (spot s) else spot_of spots name)
    by_cases false same is = refl
    by_cases true false is = other (takes_over (spot_of spots s.global.name) begun) is
    by_cases true true is =
        this (takes_over (spot_of spots s.global.name) begun) is
        ∙ ap (λ n. if takes_over (spot_of spots n) begun then Some (spot s) else spot_of spots name) (sym (same_words name s.global.name is))

abbrev follow : List ℕ → Option Spot → List Sited → Option Spot
follow name found [] = found
follow name found (s ∷ more) = follow name (next_spot name found s) more

followed : (spots : Spots) (xs : List Sited) (name : List ℕ) → spot_of (noted_each spots xs) name ≡ follow name (spot_of spots name) xs
followed spots [] name = refl
followed spots (s ∷ more) name = followed (noted_one spots s) more name ∙ ap (λ found. follow name found more) (one_noted spots s name)

-- ---- the first one with an initialiser, else the first one

abbrev second_or : Spot → Option Sited → Option Spot
second_or found None = Some found
second_or found (Some b) = Some (spot b)

abbrev choice : Option Sited → Option Sited → Option Spot
choice None second = None
choice (Some a) second = second_or (spot a) second

stays_begun : (name : List ℕ) (site : Site) (xs : List Sited) → follow name (Some (record { site = site; begun = true })) xs ≡ Some (record { site = site; begun = true })
stays_begun name site [] = refl
stays_begun name site (s ∷ more) = ap (λ found. follow name found more) (by_cases (named name s) (is_some s.global.init)) ∙ stays_begun name site more
  where
    by_cases : (n i : Bool) → (if n && (i && not true) then Some (spot s) else Some (record { site = site; begun = true })) ≡ Some (record { site = site; begun = true })
    by_cases false i = refl
    by_cases true true = refl
    by_cases true false = refl

to_begin : (name : List ℕ) (site : Site) (xs : List Sited)
    → follow name (Some (record { site = site; begun = false })) xs ≡ second_or (record { site = site; begun = false }) (find (named_begun name) xs)
to_begin name site [] = refl
to_begin name site (s ∷ more) = by_cases (named name s) (is_some s.global.init) refl (to_begin name site more)
  where
    found : Spot
    found = record { site = site; begun = false }

    by_cases : (n i : Bool) → is_some s.global.init ≡ i → follow name (Some found) more ≡ second_or found (find (named_begun name) more)
        → follow name (if n && (i && not false) then Some (spot s) else Some found) more ≡ second_or found (cond (n && i) (Some s) (find (named_begun name) more))
    by_cases false i is later = later
    by_cases true false is later = later
    by_cases true true is later =
        ap (λ b. follow name (Some (record { site = site_at s.unit s.index; begun = b })) more) is
        ∙ stays_begun name (site_at s.unit s.index) more
        ∙ ap (λ b. Some (record { site = site_at s.unit s.index; begun = b })) (sym is)

chosen : (name : List ℕ) (xs : List Sited) → follow name None xs ≡ choice (find (named name) xs) (find (named_begun name) xs)
chosen name [] = refl
chosen name (s ∷ more) = by_cases (named name s) (is_some s.global.init) refl (chosen name more)
  where
    by_cases : (n i : Bool) → is_some s.global.init ≡ i → follow name None more ≡ choice (find (named name) more) (find (named_begun name) more)
        → follow name (if n && true then Some (spot s) else None) more ≡ choice (cond n (Some s) (find (named name) more)) (cond (n && i) (Some s) (find (named_begun name) more))
    by_cases false i is later = later
    by_cases true true is later =
        ap (λ b. follow name (Some (record { site = site_at s.unit s.index; begun = b })) more) is
        ∙ stays_begun name (site_at s.unit s.index) more
        ∙ ap (λ b. Some (record { site = site_at s.unit s.index; begun = b })) (sym is)
    by_cases true false is later =
        ap (λ b. follow name (Some (record { site = site_at s.unit s.index; begun = b })) more) is
        ∙ to_begin name (site_at s.unit s.index) more
        ∙ ap (λ b. second_or (record { site = site_at s.unit s.index; begun = b }) (find (named_begun name) more)) (sym is)

pub spot_is : (sides : List Side) (name : List ℕ) → spot_of (noted_all [] 0 sides) name ≡ choice (find (named name) (all_globals sides)) (find (named_begun name) (all_globals sides))
spot_is sides name = ap (λ l. spot_of l name) (all_is [] 0 sides) ∙ followed [] (all_globals sides) name ∙ chosen name (all_globals sides)

-- ---- it is the one that stands for the variable

find_as : {A : Type 0} (p q : A → Bool) (xs : List A) → AllByRecursion (λ x. p x ≡ q x) xs → find p xs ≡ find q xs
find_as p q [] all = refl
find_as p q (x ∷ xs) all = ap (λ b. cond b (Some x) (find p xs)) all.0 ∙ ap (cond (q x) (Some x)) (find_as p q xs all.1)

-- a search for less finds nothing either
none_more : {A : Type 0} (p q : A → Bool) (xs : List A) → find p xs ≡ None → find (λ x. p x && q x) xs ≡ None
none_more p q [] none = refl
none_more p q (x ∷ xs) none = by_cases (p x) (q x) none (none_more p q xs)
  where
    by_cases : (b c : Bool) → cond b (Some x) (find p xs) ≡ None → (find p xs ≡ None → find (λ y. p y && q y) xs ≡ None) → cond (b && c) (Some x) (find (λ y. p y && q y) xs) ≡ None
    by_cases true c is later = cc
    by_cases false c is later = later is

abbrev pub site : Sited → Site
site s = site_at s.unit s.index

abbrev SameOr : Sited → Option Sited → Type 0
SameOr a None = site a ≡ site a
SameOr a (Some b) = site b ≡ site a

found_same : (a : Sited) (p : Sited → Bool) (to : (b : Sited) → p b ≡ true → site b ≡ site a) (xs : List Sited) → SameOr a (find p xs)
found_same a p to [] = refl
found_same a p to (x ∷ xs) = by_cases (p x) refl (found_same a p to xs)
  where
    by_cases : (b : Bool) → p x ≡ b → SameOr a (find p xs) → SameOr a (cond b (Some x) (find p xs))
    by_cases true is later = to x is
    by_cases false is later = later

or_same : (a b : Sited) (found : Option Sited) → site b ≡ site a → SameOr a found → site (or_else b found) ≡ site a
or_same a b None is same = is
or_same a b (Some c) is same = same

site_from : (a b : Sited) → same_site a b ≡ true → site b ≡ site a
site_from a b is =
    let p = and_parts (nat_eq a.unit b.unit) (nat_eq a.index b.index) is in
    λ j. site_at (sym (eqb-true a.unit b.unit p.0) j) (sym (eqb-true a.index b.index p.1) j)

-- a `const` variable stands for itself
const_stands : (all : List Sited) (a : Sited) → a.global.constant ≡ true → site (stands_for all a) ≡ site a
const_stands all a const =
    or_same a (or_else a (find (same_variable a) all)) (find (begins a) all)
    (or_same a a (find (same_variable a) all) refl (found_same a (same_variable a) same all))
    (found_same a (begins a) (λ b is. same b (and_parts (same_variable a b) (is_some b.global.init) is).0) all)
  where
    by_cases : (b : Sited) (here : Bool) → same_site a b ≡ here → (here || ((not a.global.constant && not b.global.constant) && bytes_eq a.global.name b.global.name)) ≡ true → same_site a b ≡ true
    by_cases b true is any = is
    by_cases b false is any = absurd (true≢false (sym any ∙ ap (λ c. (not c && not b.global.constant) && bytes_eq a.global.name b.global.name) const))

    same : (b : Sited) → same_variable a b ≡ true → site b ≡ site a
    same b is = site_from a b (by_cases b (same_site a b) refl is)

-- a shared one's declarations are those of its name
shared_same : (a b : Sited) → a.global.constant ≡ false → Alone a b → same_variable a b ≡ named a.global.name b
shared_same a b shared one = by_cases (same_site a b) refl
  where
    by_cases : (here : Bool) → same_site a b ≡ here
        → (here || ((not a.global.constant && not b.global.constant) && bytes_eq a.global.name b.global.name)) ≡ named a.global.name b
    by_cases true is = sym (ap (named a.global.name) (sym (one is)) ∙ ap (λ c. not c && bytes_eq a.global.name a.global.name) shared ∙ itself a.global.name)
    by_cases false is = ap (λ c. (not c && not b.global.constant) && bytes_eq a.global.name b.global.name) shared

abbrev pub Stands : List Side → Sited → Type 0
Stands sides a = site (stands_for (all_globals sides) a) ≡ site_of (noted_all [] 0 sides) a.unit a.index a.global

shared_stands : (sides : List Side) (a : Sited) → a.global.constant ≡ false → AllByRecursion (Alone a) (all_globals sides)
    → site (stands_for (all_globals sides) a) ≡ site_or (site a) (spot_of (noted_all [] 0 sides) a.global.name)
shared_stands sides a shared ones =
    ap (λ x. site (or_else (or_else a x) (find (begins a) all))) (find_as (same_variable a) (named name) all (all_as (λ b. shared_same a b shared) all ones))
    ∙ ap (λ x. site (or_else (or_else a (find (named name) all)) x))
    (find_as (begins a) (named_begun name) all (all_as (λ b one. ap (λ c. c && is_some b.global.init) (shared_same a b shared one)) all ones))
    ∙ by_cases (find (named name) all) (find (named_begun name) all) (none_more (named name) (λ b. is_some b.global.init) all)
    ∙ ap (site_or (site a)) (sym (spot_is sides name))
  where
    all : List Sited
    all = all_globals sides

    name : List ℕ
    name = a.global.name

    second : (x : Sited) (y : Option Sited) → site (or_else x y) ≡ site_or (site a) (second_or (spot x) y)
    second x None = refl
    second x (Some z) = refl

    by_cases : (x y : Option Sited) → (x ≡ None → y ≡ None) → site (or_else (or_else a x) y) ≡ site_or (site a) (choice x y)
    by_cases None y none = ap (λ z. site (or_else a z)) (none refl)
    by_cases (Some x) y none = second x y

one_stands : (sides : List Side) (a : Sited) → AllByRecursion (Alone a) (all_globals sides) → Stands sides a
one_stands sides a ones = by_cases a.global.constant refl
  where
    by_cases : (c : Bool) → a.global.constant ≡ c
        → site (stands_for (all_globals sides) a) ≡ (if c then site a else site_or (site a) (spot_of (noted_all [] 0 sides) a.global.name))
    by_cases true is = const_stands (all_globals sides) a is
    by_cases false is = shared_stands sides a is ones

-- that of each variable
pub all_stand : (sides : List Side) → AllByRecursion (Stands sides) (all_globals sides)
all_stand sides = all_as (one_stands sides) (all_globals sides) (alone sides)
