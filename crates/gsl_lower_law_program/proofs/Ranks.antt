-- Functions by how deep calls nest from them on.
use Rattle.std.proofs.Common.{◌≡◌, refl, sym, ap, ◌∙◌, subst, inl, inr, ⊎_elim, ℕ, zero, suc, ◌<◌, ◌≤◌, Bool, true, false, ◌||◌, List, [], ◌∷◌, length, slice_get, Option, Some, if◌then◌else◌, arith}
use Rattle.std.specs.Prelude.{nat_eq}
use Rattle.std.specs.List.{Contains, list_any}
use Rattle.std.proofs.lemmas.Bool.{cases_lt, cond-true, eq-eqb, eqb-true, false≢true, or_cases, or_left, or_parts, or_right, true≢false}
use Rattle.gsl_tree.specs.Weights.{calls_of}
use Rattle.gsl_tree.specs.declared.program.Program.{Program}
use Rattle.gsl_tree.specs.declared.unit.Function.{Function}
use Rattle.gsl_meaning.specs.Shader.{function_of, most_calls}
use Rattle.gsl_link_calls.specs.Calls.{Reaches, any_nest, called_by, nest, reaches}
use Rattle.gsl_link_calls.specs.Ranks.{IsIn}
use Rattle.gsl_link_calls.proofs.Reached.{reached}
use Rattle.gsl_link_calls.proofs.Searched.{contained, is_in}
use Rattle.gsl_link_calls.proofs.Settled.{all_reached}
use Rattle.gsl_lower_flow.specs.Reaching.{head_of, is_reached, main_head}
use Rattle.gsl_lower_law_linked.specs.Nesting.{MayNest}
use Rattle.gsl_lower_law_program.specs.Ranks.{depth_in, rank_of}

-- ---- depths

module _ (functions : List Function) where
  depth_low : (n head : ℕ) → depth_in functions n head ≤ n
  depth_low zero head = omega arith
  depth_low (suc n) head = by (nest functions (suc n) head) (depth_low n head)
    where
      by : (b : Bool) → depth_in functions n head ≤ n → (if b then suc n else depth_in functions n head) ≤ suc n
      by true low = omega arith
      by false low = omega (arith, low)

  depth_nests : (n head : ℕ) → nest functions (depth_in functions n head) head ≡ true
  unfolding nest
  depth_nests zero head = refl
  depth_nests (suc n) head = by (nest functions (suc n) head) refl (depth_nests n head)
    where
      by : (b : Bool) → nest functions (suc n) head ≡ b → nest functions (depth_in functions n head) head ≡ true → nest functions (if b then suc n else depth_in functions n head) head ≡ true
      by true is low = is
      by false is low = low

  depth_high : (n k head : ℕ) → k ≤ n → nest functions k head ≡ true → k ≤ depth_in functions n head
  depth_high zero k head less is = less
  depth_high (suc n) k head less is = by (nest functions (suc n) head) refl (λ low. depth_high n k head low is)
    where
      by : (b : Bool) → nest functions (suc n) head ≡ b → (k ≤ n → k ≤ depth_in functions n head) → k ≤ (if b then suc n else depth_in functions n head)
      by true here later = less
      by false here later = elim (cases_lt n k) [ inl over ↦ absurd (let e : k ≡ suc n = omega (arith, less, over) in true≢false (sym is ∙ ap (λ x. nest functions x head) e ∙ here)) | inr low ↦ later low ]

  -- an item of a list that passes a test
  any_passes : (f : ℕ → Bool) (l : List ℕ) (x : ℕ) → IsIn l x → f x ≡ true → list_any f l ≡ true
  any_passes f [] x is passes = absurd (false≢true is)
  any_passes f (y ∷ l) x is passes =
      ⊎_elim (λ here. or_left (f y) (list_any f l) (subst (λ z. f z ≡ true) (eqb-true x y here) passes)) (λ later. or_right (f y) (list_any f l) (any_passes f l x later passes)) (or_cases (nat_eq x y) (list_any (nat_eq x) l) is)

  nests_on : (k head next : ℕ) → IsIn (called_by functions head) next → nest functions k next ≡ true → nest functions (suc k) head ≡ true
  unfolding nest
  nests_on k head next is deep = any_passes (nest functions k) (called_by functions head) next is deep

-- ---- functions by their heads

-- a function of a head, at its position
pub record IsAt (functions : List Function) (head : ℕ) : Type 0 where
  pub number : ℕ
  pub tree : Function
  pub there : slice_get functions number ≡ Some tree
  pub same : tree.prototype ≡ head
  pub found : function_of functions head ≡ Some tree
  pub calls : called_by functions head ≡ calls_of tree

-- the first that has it
pub first_at : (functions : List Function) (head : ℕ) → list_any (λ (g : Function). nat_eq g.prototype head) functions ≡ true → IsAt functions head
first_at [] head is = absurd (false≢true is)
first_at (f ∷ functions) head is = by (nat_eq f.prototype head) refl is (first_at functions head)
  where
    by : (b : Bool) → nat_eq f.prototype head ≡ b → (b || list_any (λ (g : Function). nat_eq g.prototype head) functions) ≡ true → (list_any (λ (g : Function). nat_eq g.prototype head) functions ≡ true → IsAt functions head) → IsAt (f ∷ functions) head
    by true e is later = record {
      number = 0;
      tree = f;
      there = refl;
      same = eqb-true f.prototype head e;
      found = ap (λ b. if b then Some f else function_of functions head) e;
      calls = ap (λ b. if b then calls_of f else called_by functions head) e;
    }
    by false e is later = let x = later is in record {
      number = suc x.number;
      tree = x.tree;
      there = x.there;
      same = x.same;
      found = ap (λ b. if b then Some f else function_of functions head) e ∙ x.found;
      calls = ap (λ b. if b then calls_of f else called_by functions head) e ∙ x.calls;
    }

-- a function is among those of its head
pub has_head : (functions : List Function) (number : ℕ) (f : Function) → slice_get functions number ≡ Some f → list_any (λ (g : Function). nat_eq g.prototype f.prototype) functions ≡ true
has_head [] zero f is = absurd (cc)
has_head [] (suc number) f is = absurd (cc)
has_head (g ∷ functions) zero f is = let same : g ≡ f = cc in or_left (nat_eq g.prototype f.prototype) (list_any (λ (h : Function). nat_eq h.prototype f.prototype) functions) (eq-eqb g.prototype f.prototype (ap (λ (h : Function). h.prototype) same))
has_head (g ∷ functions) (suc number) f is = or_right (nat_eq g.prototype f.prototype) (list_any (λ (h : Function). nat_eq h.prototype f.prototype) functions) (has_head functions number f is)

-- one that calls others is there
caller_there : (functions : List Function) (head next : ℕ) → IsIn (called_by functions head) next → list_any (λ (g : Function). nat_eq g.prototype head) functions ≡ true
caller_there [] head next is = absurd (false≢true is)
caller_there (f ∷ functions) head next is = by (nat_eq f.prototype head) (caller_there functions head next) is
  where
    by : (b : Bool) → (IsIn (called_by functions head) next → list_any (λ (g : Function). nat_eq g.prototype head) functions ≡ true) → IsIn (if b then calls_of f else called_by functions head) next → (b || list_any (λ (g : Function). nat_eq g.prototype head) functions) ≡ true
    by true later is = refl
    by false later is = later is

-- from none do calls nest deeper than from any
shallow : (functions : List Function) (count : ℕ) → any_nest functions count ≡ false → (number : ℕ) (f : Function) → slice_get functions number ≡ Some f → nest functions count f.prototype ≡ false
shallow functions count none number f at = within functions none number at
  where
    within : (some : List Function) → list_any (λ (g : Function). nest functions count g.prototype) some ≡ false → (number : ℕ) → slice_get some number ≡ Some f → nest functions count f.prototype ≡ false
    within [] is zero at = absurd (cc)
    within [] is (suc number) at = absurd (cc)
    within (g ∷ some) is zero at = let same : g ≡ f = cc in ap (λ (h : Function). nest functions count h.prototype) (sym same) ∙ (or_parts (nest functions count g.prototype) (list_any (λ (h : Function). nest functions count h.prototype) some) is).0
    within (g ∷ some) is (suc number) at = within some (or_parts (nest functions count g.prototype) (list_any (λ (h : Function). nest functions count h.prototype) some) is).1 number at

-- ---- what is reached

reaches_on : (functions : List Function) (from head next : ℕ) → Reaches functions from head → Contains (called_by functions head) next → Reaches functions from next
reaches_on functions from head next (Reaches.calls _ _ c) last = Reaches.calls_on from head next c (Reaches.calls head next last)
reaches_on functions from head next (Reaches.calls_on _ between _ c r) last = Reaches.calls_on from between next c (reaches_on functions between head next r last)

pub reached_on : (functions : List Function) (main head next : ℕ) → is_reached functions main head ≡ true → IsIn (called_by functions head) next → is_reached functions main next ≡ true
reached_on functions main head next is call =
    or_right (nat_eq main next) (reaches functions main next)
    (⊎_elim (λ here. all_reached functions next main (Reaches.calls main next (subst (λ n. Contains (called_by functions n) next) (sym (eqb-true main head here)) (contained (called_by functions head) next call))))
    (λ there. all_reached functions next main (reaches_on functions main head next (reached functions (length functions) main head there) (contained (called_by functions head) next call)))
    (or_cases (nat_eq main head) (reaches functions main head) is))

-- ---- ranks

module _ (p : Program) (nests : MayNest p) where
  reached_rank : (head : ℕ) → is_reached p.functions (main_head p) head ≡ true → rank_of p head ≡ depth_in p.functions most_calls head
  reached_rank head is = cond-true (is_reached p.functions (main_head p) head) (depth_in p.functions most_calls head) most_calls is

  -- a function that is called ranks lower than the one that calls it
  pub callee_lower : (head next : ℕ) → is_reached p.functions (main_head p) head ≡ true → IsIn (called_by p.functions head) next → rank_of p next < rank_of p head
  callee_lower head next is call =
      let caller = first_at p.functions head (caller_there p.functions head next call) in
      let d = depth_in p.functions most_calls next in
      let deeper = nests_on p.functions d head next call (depth_nests p.functions most_calls next) in
      let low = depth_low p.functions most_calls next in
      let none = subst (λ n. nest p.functions 65 n ≡ false) caller.same (shallow p.functions 65 nests.deep caller.number caller.tree caller.there) in
      let room : suc d ≤ most_calls = within d low deeper none in
      let high = depth_high p.functions most_calls (suc d) head room deeper in
      let a = reached_rank head is in
      let c = reached_rank next (reached_on p.functions (main_head p) head next is call) in
      omega (arith, a, c, high)
    where
      within : (d : ℕ) → d ≤ most_calls → nest p.functions (suc d) head ≡ true → nest p.functions 65 head ≡ false → suc d ≤ most_calls
      within d low deeper none = elim (cases_lt d most_calls) [
        | inl less ↦ omega (arith, less)
        | inr more ↦ absurd (let e : suc d ≡ 65 = omega (arith, low, more) in true≢false (sym deeper ∙ ap (λ n. nest p.functions n head) e ∙ none))
      ]

  -- what ranks below all is reached
  pub low_reached : (head : ℕ) → rank_of p head < most_calls → is_reached p.functions (main_head p) head ≡ true
  low_reached head less = by (is_reached p.functions (main_head p) head) refl less
    where
      by : (b : Bool) → is_reached p.functions (main_head p) head ≡ b → (if b then depth_in p.functions most_calls head else most_calls) < most_calls → is_reached p.functions (main_head p) head ≡ true
      by true is less = is
      by false is less = absurd (omega (arith, less))

  -- no function that main reaches ranks higher than main, and what it calls ranks below all
  pub called_low : (head next : ℕ) → is_reached p.functions (main_head p) head ≡ true → IsIn (called_by p.functions head) next → rank_of p next < most_calls
  called_low head next is call =
      let less = callee_lower head next is call in let low = depth_low p.functions most_calls head in let a = reached_rank head is in omega (arith, less, low, a)

  -- what is reached is there: main's own head, or one that is called
  pub reached_there : (number : ℕ) (f : Function) → slice_get p.functions p.main ≡ Some f → (head : ℕ) → is_reached p.functions (main_head p) head ≡ true → IsAt p.functions head
  reached_there number f at head is =
      ⊎_elim (λ here. first_at p.functions head (subst (λ n. list_any (λ (g : Function). nat_eq g.prototype n) p.functions ≡ true) (sym (ap (λ (o : Option Function). head_of o) at) ∙ eqb-true (main_head p) head here) (has_head p.functions p.main f at)))
      (λ there. by (main_head p) head (reached p.functions (length p.functions) (main_head p) head there)) (or_cases (nat_eq (main_head p) head) (reaches p.functions (main_head p) head) is)
    where
      called : (from next : ℕ) → Contains (called_by p.functions from) next → IsAt p.functions next
      called from next c =
          let inside = is_in (called_by p.functions from) next c in
          let caller = first_at p.functions from (caller_there p.functions from next inside) in
          first_at p.functions next (nests.defined caller.number next caller.tree caller.there (subst (λ l. IsIn l next) caller.calls inside))

      by : (from head : ℕ) → Reaches p.functions from head → IsAt p.functions head
      by from head (Reaches.calls _ _ c) = called from head c
      by from head (Reaches.calls_on _ next _ c r) = by next head r
