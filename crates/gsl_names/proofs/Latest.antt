-- The last declaration of a name in a stack of declarations, and where it stands.
use Rattle.std.proofs.Common.{◌≡◌, refl, sym, ap, ◌∙◌, ℕ, suc, zero, ◌+◌, ◌-◌, ◌<◌, ◌≤◌, List, [], ◌∷◌, ◌++◌, length, reverse, take, drop, Option, Some, None, Bool, true, false, arith, if◌then◌else◌, slice_get, append_assoc, append-nil, length-append, length-drop, take-append-drop}
use Rattle.std.proofs.lemmas.List.{reverse-append, length-reverse}
use Rattle.std.specs.Str.{bytes_eq}
use Rattle.std.specs.Cmp.Lexicographic.{bytes_decides}
use Rattle.gsl_names.specs.declared.entry.Entry.{Entry}
use Rattle.gsl_names.specs.Scopes.{Declared, all_in, all_of, first_of, find}
use Rattle.gsl_names.specs.Table.{cut, latest, hides, together}

-- ---- the scopes together are the declarations

pub all_in-append : (xs ys : List Declared) (name : List ℕ) → all_in (xs ++ ys) name ≡ all_in xs name ++ all_in ys name
all_in-append [] ys name = refl
all_in-append (x ∷ xs) ys name = elim (bytes_eq x.0 name) as (λ b. (if b then x.1 ∷ all_in (xs ++ ys) name else all_in (xs ++ ys) name) ≡ (if b then x.1 ∷ all_in xs name else all_in xs name) ++ all_in ys name) [
  | true ↦ ap (λ l. x.1 ∷ l) (all_in-append xs ys name)
  | false ↦ all_in-append xs ys name
]

-- there are as many scopes as counts
pub cut_length : (counts : List ℕ) (all : List Declared) → length (cut counts all) ≡ length counts
cut_length [] all = refl
cut_length (n ∷ counts) all = ap (λ k. suc k) (cut_length counts (drop n all))

pub cut_all : (counts : List ℕ) (all : List Declared) (name : List ℕ) → together counts ≡ length all → all_of (cut counts all) name ≡ all_in all name
cut_all [] [] name is = refl
cut_all [] (x ∷ all) name is = let never : ⊥ = omega (arith, is) in elim never [ ]
cut_all (n ∷ counts) all name is =
    ap (λ l. all_in (take n all) name ++ l) (cut_all counts (drop n all) name (omega (arith, is, length-drop n all)))
    ∙ sym (all_in-append (take n all) (drop n all) name) ∙ ap (λ l. all_in l name) (take-append-drop n all)

-- ---- where the last declaration stands

-- Below the last declaration of a name stand so many others, and none above it is of that name.
pub record Stands (all : List Declared) (name : List ℕ) (place : ℕ) : Type 0 where
  pub above : List Declared
  pub one : Declared
  pub below : List Declared
  pub split : all ≡ above ++ one ∷ below
  pub depth : length below ≡ place
  pub named : bytes_eq one.0 name ≡ true
  pub none : all_in above name ≡ []

stands_by : (x : Declared) (xs : List Declared) (name : List ℕ) (place : ℕ) (b : Bool) → bytes_eq x.0 name ≡ b
    → (if b then Some (length xs) else latest xs name) ≡ Some place → (latest xs name ≡ Some place → Stands xs name place) → Stands (x ∷ xs) name place
stands_by x xs name place true named is deeper =
    let at : ◌≡◌ {A = Option ℕ} (Some (length xs)) (Some place) = is in
    record { above = []; one = x; below = xs; split = refl; depth = cc; named = named; none = refl }
stands_by x xs name place false other is deeper =
    let s = deeper is in
    record {
      above = x ∷ s.above;
      one = s.one;
      below = s.below;
      split = ap (λ l. x ∷ l) s.split;
      depth = s.depth;
      named = s.named;
      none = ap (λ b. if b then x.1 ∷ all_in s.above name else all_in s.above name) other ∙ s.none;
    }

pub stands : (all : List Declared) (name : List ℕ) (place : ℕ) → latest all name ≡ Some place → Stands all name place
stands [] name place is = let never : ◌≡◌ {A = Option ℕ} None (Some place) = is in cc
stands (x ∷ xs) name place is = stands_by x xs name place (bytes_eq x.0 name) refl is (stands xs name place)

none_by : (x : Declared) (xs : List Declared) (name : List ℕ) (b : Bool) → (if b then Some (length xs) else latest xs name) ≡ None
    → (latest xs name ≡ None → all_in xs name ≡ []) → (if b then x.1 ∷ all_in xs name else all_in xs name) ≡ []
none_by x xs name true is deeper = let never : ◌≡◌ {A = Option ℕ} (Some (length xs)) None = is in cc
none_by x xs name false is deeper = deeper is

pub none_there : (all : List Declared) (name : List ℕ) → latest all name ≡ None → all_in all name ≡ []
none_there [] name is = refl
none_there (x ∷ xs) name is = none_by x xs name (bytes_eq x.0 name) is (none_there xs name)

-- what the declarations of a name stand for begins with the last one
pub begins : (all : List Declared) (name : List ℕ) (place : ℕ) (s : Stands all name place) → all_in all name ≡ s.one.1 ∷ all_in s.below name
begins all name place s =
    ap (λ l. all_in l name) s.split ∙ all_in-append s.above (s.one ∷ s.below) name
    ∙ ap (λ l. l ++ all_in (s.one ∷ s.below) name) s.none
    ∙ ap (λ b. if b then s.one.1 ∷ all_in s.below name else all_in s.below name) s.named

pub within : (all : List Declared) (name : List ℕ) (place : ℕ) → Stands all name place → place < length all
within all name place s = omega (arith, s.depth, ap length s.split, length-append s.above (s.one ∷ s.below))

middle : {A : Type 0} (xs : List A) (y : A) (ys : List A) → slice_get (xs ++ y ∷ ys) (length xs) ≡ Some y
middle [] y ys = refl
middle (x ∷ xs) y ys = middle xs y ys

-- the item of a stack above so many others
pub from_below : {A : Type 0} (above : List A) (one : A) (below : List A) → slice_get (reverse (above ++ one ∷ below)) (length below) ≡ Some one
from_below above one below =
    ap (λ l. slice_get l (length below)) (reverse-append above (one ∷ below) ∙ ap (λ l. l ++ reverse above) (reverse-append (one ∷ []) below) ∙ append_assoc (reverse below) (one ∷ []) (reverse above))
    ∙ ap (slice_get (reverse below ++ one ∷ reverse above)) (sym (length-reverse below))
    ∙ middle (reverse below) one (reverse above)

pub item_at : (all : List Declared) (name : List ℕ) (place : ℕ) (s : Stands all name place) → slice_get (reverse all) place ≡ Some s.one
item_at all name place s = ap (λ l. slice_get (reverse l) place) s.split ∙ ap (slice_get (reverse (s.above ++ s.one ∷ s.below))) (sym s.depth) ∙ from_below s.above s.one s.below

-- ---- what a declaration hides

-- those above some declarations, with what each of them hides
pub record Above (above rest : List Declared) : Type 0 where
  pub front : List (Option ℕ)
  pub is : hides (above ++ rest) ≡ front ++ hides rest

pub hides-append : (above rest : List Declared) → Above above rest
hides-append [] rest = record { front = []; is = refl }
hides-append (x ∷ above) rest =
    let a = hides-append above rest in
    record { front = latest (above ++ rest) x.0 ∷ a.front; is = ap (λ l. latest (above ++ rest) x.0 ∷ l) a.is }

pub length-hides : (all : List Declared) → length (hides all) ≡ length all
length-hides [] = refl
length-hides (x ∷ all) = ap suc (length-hides all)

hidden_by : (above : List Declared) (one : Declared) (below : List Declared) → Above above (one ∷ below) → slice_get (reverse (hides (above ++ one ∷ below))) (length below) ≡ Some (latest below one.0)
hidden_by above one below a =
    ap (λ l. slice_get (reverse l) (length below)) a.is
    ∙ ap (slice_get (reverse (a.front ++ latest below one.0 ∷ hides below))) (sym (length-hides below))
    ∙ from_below a.front (latest below one.0) (hides below)

pub hidden_at : (all : List Declared) (name : List ℕ) (place : ℕ) (s : Stands all name place) → slice_get (reverse (hides all)) place ≡ Some (latest s.below name)
hidden_at all name place s =
    ap (λ l. slice_get (reverse (hides l)) place) s.split
    ∙ ap (slice_get (reverse (hides (s.above ++ s.one ∷ s.below)))) (sym s.depth)
    ∙ hidden_by s.above s.one s.below (hides-append s.above (s.one ∷ s.below))
    ∙ ap (λ n. Some (latest s.below n)) ((bytes_decides s.one.0 name).0 s.named)

-- ---- the innermost scope

no_more : (x : Declared) (xs : List Declared) (name : List ℕ) (b : Bool) → (if b then x.1 ∷ all_in xs name else all_in xs name) ≡ [] → (b ≡ false) × (all_in xs name ≡ [])
no_more x xs name true is = let never : ◌≡◌ {A = List Entry} (x.1 ∷ all_in xs name) [] = is in cc
no_more x xs name false is = (refl, is)

-- the last declaration of a name stands below the first ones: none of these is of that name
pub below_here : (above : List Declared) (one : Declared) (below : List Declared) (here : ℕ) (name : List ℕ) → all_in above name ≡ [] → here ≤ length above → all_in (take here (above ++ one ∷ below)) name ≡ []
below_here above one below zero name none le = refl
below_here [] one below (suc here) name none le = let never : ⊥ = omega (arith, le) in elim never [ ]
below_here (x ∷ above) one below (suc here) name none le =
    let p = no_more x above name (bytes_eq x.0 name) none in
    ap (λ b. if b then x.1 ∷ all_in (take here (above ++ one ∷ below)) name else all_in (take here (above ++ one ∷ below)) name) p.0
    ∙ below_here above one below here name p.1 (omega (arith, le))

-- it stands among the first ones
pub among_here : (above : List Declared) (one : Declared) (below : List Declared) (here : ℕ) (name : List ℕ) → all_in above name ≡ [] → bytes_eq one.0 name ≡ true → length above < here
    → first_of (all_in (take here (above ++ one ∷ below)) name) ≡ Some one.1
among_here above one below zero name none named lt = let never : ⊥ = omega (arith, lt) in elim never [ ]
among_here [] one below (suc here) name none named lt = ap (λ b. first_of (if b then one.1 ∷ all_in (take here below) name else all_in (take here below) name)) named
among_here (x ∷ above) one below (suc here) name none named lt =
    let p = no_more x above name (bytes_eq x.0 name) none in
    ap (λ b. first_of (if b then x.1 ∷ all_in (take here (above ++ one ∷ below)) name else all_in (take here (above ++ one ∷ below)) name)) p.0
    ∙ among_here above one below here name p.1 named (omega (arith, lt))

-- ---- the walk over all declarations of a name

-- What was found, and what the rest of the stack has, is what all have; the next place is the last one of the rest.
pub record Walks (all : List Declared) (name : List ℕ) (found : List Entry) (at : Option ℕ) : Type 0 where
  pub above : List Declared
  pub rest : List Declared
  pub split : all ≡ above ++ rest
  pub next : at ≡ latest rest name
  pub so_far : found ++ all_in rest name ≡ all_in all name

pub walk_begins : (all : List Declared) (name : List ℕ) (at : Option ℕ) → at ≡ latest all name → Walks all name [] at
walk_begins all name at is = record { above = []; rest = all; split = refl; next = is; so_far = refl }

pub walk_on : (all : List Declared) (name : List ℕ) (found : List Entry) (at : Option ℕ) (place : ℕ) (w : Walks all name found at) (s : Stands w.rest name place)
    → Walks all name (found ++ s.one.1 ∷ []) (latest s.below name)
walk_on all name found at place w s = record {
  above = w.above ++ s.above ++ s.one ∷ [];
  rest = s.below;
  split = w.split ∙ ap (λ l. w.above ++ l) (s.split ∙ sym (append_assoc s.above (s.one ∷ []) s.below)) ∙ sym (append_assoc w.above (s.above ++ s.one ∷ []) s.below) ∙ ap (λ l. l ++ s.below) (sym (append_assoc w.above s.above (s.one ∷ [])));
  next = refl;
  so_far = append_assoc found (s.one.1 ∷ []) (all_in s.below name) ∙ ap (λ l. found ++ l) (sym (begins w.rest name place s)) ∙ w.so_far;
}

pub walk_ends : (all : List Declared) (name : List ℕ) (found : List Entry) (at : Option ℕ) → at ≡ None → Walks all name found at → found ≡ all_in all name
walk_ends all name found at none w = sym (append-nil found) ∙ ap (λ l. found ++ l) (sym (none_there w.rest name (sym w.next ∙ none))) ∙ w.so_far

-- ---- what the code hands in

-- what a declaration that was found stands for
abbrev pub entry_in : Option Declared → Option Entry
entry_in None = None
entry_in (Some declared) = Some declared.1

pub found_is : (counts : List ℕ) (all : List Declared) (name : List ℕ) (place : ℕ) (one : Declared) → together counts ≡ length all → latest all name ≡ Some place
    → slice_get (reverse all) place ≡ Some one → Some one.1 ≡ find (cut counts all) name
found_is counts all name place one sums is got =
    let s = stands all name place is in
    let same : ◌≡◌ {A = Option Declared} (Some one) (Some s.one) = sym got ∙ item_at all name place s in
    ap entry_in same ∙ ap first_of (sym (begins all name place s) ∙ sym (cut_all counts all name sums))

pub found_within : (all : List Declared) (name : List ℕ) (place : ℕ) → latest all name ≡ Some place → place < length all
found_within all name place is = within all name place (stands all name place is)

pub found_none : (counts : List ℕ) (all : List Declared) (name : List ℕ) → together counts ≡ length all → latest all name ≡ None → None ≡ find (cut counts all) name
found_none counts all name sums is = ap first_of (sym (none_there all name is) ∙ sym (cut_all counts all name sums))

-- ---- in the innermost scope

split_here : (here : ℕ) (all : List Declared) (name : List ℕ) (place : ℕ) (s : Stands all name place) → length all ≡ length s.above + suc place
split_here here all name place s = let joined = length-append s.above (s.one ∷ s.below) in omega (arith, s.depth, ap length s.split, joined)

pub here_is : (here : ℕ) (all : List Declared) (name : List ℕ) (place : ℕ) (one : Declared) → latest all name ≡ Some place → slice_get (reverse all) place ≡ Some one
    → here ≤ length all → length all - here ≤ place → Some one.1 ≡ first_of (all_in (take here all) name)
here_is here all name place one is got most le =
    let s = stands all name place is in
    let same : ◌≡◌ {A = Option Declared} (Some one) (Some s.one) = sym got ∙ item_at all name place s in
    ap entry_in same
    ∙ sym (among_here s.above s.one s.below here name s.none s.named (omega (arith, most, le, split_here here all name place s)))
    ∙ ap (λ l. first_of (all_in (take here l) name)) (sym s.split)

pub not_here : (here : ℕ) (all : List Declared) (name : List ℕ) (place : ℕ) → latest all name ≡ Some place → here ≤ length all → place < length all - here
    → None ≡ first_of (all_in (take here all) name)
not_here here all name place is most lt =
    let s = stands all name place is in
    ap first_of (sym (below_here s.above s.one s.below here name s.none (omega (arith, most, lt, split_here here all name place s))))
    ∙ ap (λ l. first_of (all_in (take here l) name)) (sym s.split)

none_first : (here : ℕ) (all : List Declared) (name : List ℕ) → all_in all name ≡ [] → all_in (take here all) name ≡ []
none_first zero all name none = refl
none_first (suc here) [] name none = refl
none_first (suc here) (x ∷ all) name none =
    let p = no_more x all name (bytes_eq x.0 name) none in
    ap (λ b. if b then x.1 ∷ all_in (take here all) name else all_in (take here all) name) p.0 ∙ none_first here all name p.1

pub none_here : (here : ℕ) (all : List Declared) (name : List ℕ) → latest all name ≡ None → None ≡ first_of (all_in (take here all) name)
none_here here all name is = ap first_of (sym (none_first here all name (none_there all name is)))

-- ---- one declaration less

taken_by : (d : Declared) (below : List Declared) (q : List ℕ) (before after : Option ℕ) (b : Bool) → bytes_eq d.0 q ≡ b → before ≡ (if b then Some (length below) else latest below q)
    → after ≡ (if b then latest below d.0 else before) → after ≡ latest below q
taken_by d below q before after true eq was is = is ∙ ap (latest below) ((bytes_decides d.0 q).0 eq)
taken_by d below q before after false eq was is = is ∙ was

-- Once the last declaration is taken off and its name stands where it stood before, each name stands at its last declaration.
pub taken_off : (d : Declared) (below : List Declared) (q : List ℕ) (before after : Option ℕ) → before ≡ latest (d ∷ below) q
    → after ≡ (if bytes_eq d.0 q then latest below d.0 else before) → after ≡ latest below q
taken_off d below q before after was is = taken_by d below q before after (bytes_eq d.0 q) refl was is

-- how much of a walk there may be from a place on
abbrev pub depth_of : Option ℕ → ℕ
depth_of None = 0
depth_of (Some place) = suc place

depth_within : (all : List Declared) (name : List ℕ) (at : Option ℕ) → at ≡ latest all name → depth_of at ≤ length all
depth_within all name None is = omega arith
depth_within all name (Some place) is = omega (arith, found_within all name place (sym is))

-- One step of a walk: the declaration at the place, what it hides, and that the walk goes on there, with less before it.
pub record Strides (all : List Declared) (name : List ℕ) (found : List Entry) (place : ℕ) : Type 0 where
  pub one : Declared
  pub next : Option ℕ
  pub there : place < length all
  pub item : slice_get (reverse all) place ≡ Some one
  pub hidden : slice_get (reverse (hides all)) place ≡ Some next
  pub goes : Walks all name (found ++ one.1 ∷ []) next
  pub less : depth_of next < suc place

strides_by : (all : List Declared) (name : List ℕ) (found : List Entry) (at : Option ℕ) (place : ℕ) (w : Walks all name found at) (s : Stands w.rest name place)
    → all ≡ (w.above ++ s.above) ++ s.one ∷ s.below → Strides all name found place
strides_by all name found at place w s split =
    let joined = length-append (w.above ++ s.above) (s.one ∷ s.below) in
    let less = depth_within s.below name (latest s.below name) refl in
    record {
      one = s.one;
      next = latest s.below name;
      there = omega (arith, s.depth, ap length split, joined);
      item = ap (λ l. slice_get (reverse l) place) split ∙ ap (slice_get (reverse ((w.above ++ s.above) ++ s.one ∷ s.below))) (sym s.depth) ∙ from_below (w.above ++ s.above) s.one s.below;
      hidden = ap (λ l. slice_get (reverse (hides l)) place) split
          ∙ ap (slice_get (reverse (hides ((w.above ++ s.above) ++ s.one ∷ s.below)))) (sym s.depth)
          ∙ hidden_by (w.above ++ s.above) s.one s.below (hides-append (w.above ++ s.above) (s.one ∷ s.below))
          ∙ ap (λ n. Some (latest s.below n)) ((bytes_decides s.one.0 name).0 s.named);
      goes = walk_on all name found at place w s;
      less = omega (arith, less, s.depth);
    }

pub strides : (all : List Declared) (name : List ℕ) (found : List Entry) (at : Option ℕ) (place : ℕ) → at ≡ Some place → Walks all name found at → Strides all name found place
strides all name found at place is w =
    let s = stands w.rest name place (sym w.next ∙ is) in
    strides_by all name found at place w s (w.split ∙ ap (λ l. w.above ++ l) s.split ∙ sym (append_assoc w.above s.above (s.one ∷ s.below)))

pub same_item : {A : Type 0} (items : List A) (place : ℕ) (x y : A) → slice_get items place ≡ Some x → slice_get items place ≡ Some y → x ≡ y
same_item items place x y first second = let both : ◌≡◌ {A = Option _} (Some x) (Some y) = sym first ∙ second in cc
