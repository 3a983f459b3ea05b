-- The labels of the blocks of code that fits differ, where each id is defined once.
use Rattle.std.proofs.Common.{◌≡◌, ℕ, Bool, true, false, not, ◌||◌, List, [], ◌∷◌, ◌++◌, Option, Some, None, refl, sym, ap, ◌∙◌, subst, inl, inr}
use Rattle.std.specs.Prelude.{nat_eq, ◌==◌}
use Rattle.std.specs.List.{list_any}
use Rattle.std.proofs.lemmas.Bool.{and_from, and_parts, eq-eqb, eqb-true, not_from_false, not-true, or_cases, or_from, or_left, or_right, true≢false}
use Rattle.gsl_words.specs.declared.module.Instr.{Instr}
use Rattle.gsl_words.specs.declared.module.Module.{Module}
use Rattle.gsl_instr.specs.declared.instruction.Instruction.TheVariants as instruction
use Rattle.gsl_blocks.specs.declared.block.Merge.{Merge}
use Rattle.gsl_blocks.specs.declared.block.Merge.TheVariants.{Nothing}
use Rattle.gsl_blocks.specs.declared.block.Role.{Role}
use Rattle.gsl_blocks.specs.declared.block.Role.TheVariants.{Opens, Merges, Inside}
use Rattle.gsl_blocks.specs.Blocks.{blocks_from, labels, role_at, with_role}
use Rattle.gsl_blocks.specs.Targets.{all_differ, differ_from}
use Rattle.gsl_blocks.proofs.Apart.{Apart}
use Rattle.gsl_valid.specs.Ids.{defined, defines, is_id, result}
use Rattle.gsl_valid.specs.IdsDefinedOnce.{defines_once, is_new}
use Rattle.gsl_valid.specs.Instruction.{read}
use Rattle.gsl_valid.specs.Placed.{Code}
use Rattle.gsl_valid.specs.Search.{Passes}
use Rattle.gsl_fitting.specs.Fits.{At, Fits, Frame}
use Rattle.gsl_fitting.specs.Fits as fits
use Rattle.gsl_fitting_code.proofs.Roles.{opens_label, works_inside}

-- Words that stand apart differ -------------------------------------------------------------------------------------------

-- none of these words is among those
abbrev Away : List ℕ → List ℕ → Type 0
Away before ls = (l : ℕ) → list_any (nat_eq l) ls ≡ true → list_any (nat_eq l) before ≡ false

among_behind : (l w : ℕ) (before : List ℕ) → list_any (nat_eq l) before ≡ false → nat_eq l w ≡ false → list_any (nat_eq l) (before ++ w ∷ []) ≡ false
among_behind l w [] h e = or_from (nat_eq l w) false e refl
among_behind l w (b ∷ before) h e = by_case (nat_eq l b) (among_behind l w before) h
  where
    by_case : (c : Bool) → (list_any (nat_eq l) before ≡ false → nat_eq l w ≡ false → list_any (nat_eq l) (before ++ w ∷ []) ≡ false) → (c || list_any (nat_eq l) before) ≡ false → (c || list_any (nat_eq l) (before ++ w ∷ [])) ≡ false
    by_case true more h = h
    by_case false more h = more h e

other_word : (l w : ℕ) (ls : List ℕ) → list_any (nat_eq w) ls ≡ false → list_any (nat_eq l) ls ≡ true → nat_eq l w ≡ false
other_word l w ls none has = by_case (nat_eq l w) refl
  where
    by_case : (c : Bool) → nat_eq l w ≡ c → nat_eq l w ≡ false
    by_case true e = absurd (true≢false (sym has ∙ ap (λ z. list_any (nat_eq z) ls) (eqb-true l w e) ∙ none))
    by_case false e = e

apart_differ : (before ls : List ℕ) → Away before ls → Apart ls → differ_from before ls ≡ true
apart_differ before [] away apart = refl
apart_differ before (w ∷ ls) away apart =
    and_from _ _ (not_from_false _ (away w (or_left (nat_eq w w) _ (eq-eqb w w refl))))
    (apart_differ (before ++ w ∷ []) ls (λ l has. among_behind l w before (away l (or_right (nat_eq l w) _ has)) (other_word l w ls apart.0 has)) apart.1)

pub differ : (ls : List ℕ) → Apart ls → all_differ ls ≡ true
differ ls apart = apart_differ [] ls (λ l has. refl) apart

-- Labels are defined ------------------------------------------------------------------------------------------------------

pub defines_label : (i : Instr) (l : ℕ) → read i ≡ Some (instruction.Label l) → defines i l ≡ true
defines_label i l e = ap (λ d. is_id l (result d)) e ∙ eq-eqb l l refl

-- what is defined before is not defined again
module _ (bound : ℕ) where
  pub not_again : (before code : Code) (id : ℕ) → Passes (defines_once bound) before code → defined before id ≡ true → defined code id ≡ false
  not_again before [] id once h = refl
  not_again before (i ∷ code) id once h =
      or_from (defines i id) _ (by_result (result (read i)) refl once.0) (not_again (i ∷ before) code id once.1 (or_right (defines i id) _ h))
    where
      by_result : (o : Option ℕ) → result (read i) ≡ o → is_new bound before o ≡ true → is_id id o ≡ false
      by_result None e new = refl
      by_result (Some r) e new = by_case (r == id) refl
        where
          by_case : (c : Bool) → (r == id) ≡ c → (r == id) ≡ false
          by_case true same = absurd (true≢false (sym h ∙ ap (defined before) (sym (eqb-true r id same)) ∙ not-true _ (and_parts _ (not (defined before r)) new).1))
          by_case false same = same

pub absent : (ls : List ℕ) (l : ℕ) → (list_any (nat_eq l) ls ≡ true → ⊥) → list_any (nat_eq l) ls ≡ false
absent ls l not_there = by_case (list_any (nat_eq l) ls) refl
  where
    by_case : (c : Bool) → list_any (nat_eq l) ls ≡ c → list_any (nat_eq l) ls ≡ false
    by_case true e = absurd (not_there e)
    by_case false e = e

module _ (bound : ℕ) (m : Module) (rank : ℕ → ℕ) (f : Frame) (tail : Code) (ended : (l : ℕ) (met : Merge) → blocks_from tail l met ≡ []) where
  -- labels stand apart and are defined by the code
  pub record Labels (code : Code) (ls : List ℕ) : Type 0 where
    pub apart : Apart ls
    pub all : (l : ℕ) → list_any (nat_eq l) ls ≡ true → defined code l ≡ true

  -- the labels of the blocks of some code
  abbrev labels_at : Code → ℕ → Merge → List ℕ
  labels_at code l met = labels (blocks_from (code ++ tail) l met)

  abbrev Are : Code → At → Type 0
  Are code (fits.In l c given ds) = (met : Merge) → (more : List ℕ) × ((labels_at code l met ≡ l ∷ more) × Labels code more)
  Are code (fits.Behind ds) = (l : ℕ) (met : Merge) → Labels code (labels_at code l met)

  over : (i : Instr) (code : Code) (l : ℕ) (met : Merge) (r : Role) → role_at i.op i.args ≡ r → labels_at (i ∷ code) l met ≡ labels (with_role r l met (blocks_from (code ++ tail)))
  unfolding blocks_from
  over i code l met r e = ap (λ r. labels (with_role r l met (blocks_from (code ++ tail)))) e

  behind_one : (i : Instr) (code : Code) (ls : List ℕ) → Labels code ls → Labels (i ∷ code) ls
  behind_one i code ls x = record { apart = x.apart; all = λ l h. or_right (defines i l) _ (x.all l h) }

  -- the last instruction of a block
  left : (i : Instr) (code : Code) (l : ℕ) (met : Merge) (r : Role) → role_at i.op i.args ≡ r → labels (with_role r l met (blocks_from (code ++ tail))) ≡ l ∷ labels_at code l met → Labels code (labels_at code l met)
      → (more : List ℕ) × ((labels_at (i ∷ code) l met ≡ l ∷ more) × Labels (i ∷ code) more)
  left i code l met r e is x = (labels_at code l met, (over i code l met r e ∙ is, behind_one i code _ x))

  merged : (i j : Instr) (code : Code) (l : ℕ) (met n : Merge) (r : Role) → role_at i.op i.args ≡ Merges n → role_at j.op j.args ≡ r → labels (with_role r l n (blocks_from (code ++ tail))) ≡ l ∷ labels_at code l n → Labels code (labels_at code l n)
      → (more : List ℕ) × ((labels_at (i ∷ j ∷ code) l met ≡ l ∷ more) × Labels (i ∷ j ∷ code) more)
  merged i j code l met n r e e' is x = (labels_at code l n, (over i (j ∷ code) l met (Merges n) e ∙ over j code l n r e' ∙ is, behind_one i (j ∷ code) _ (behind_one j code _ x)))

  pub labels_are : (before code : Code) (at : At) → Passes (defines_once bound) before code → Fits m rank f code at → Are code at
  labels_are before _ _ once Fits.over = λ l met. subst (Labels []) (sym (ap labels (ended l met))) (record { apart = tt; all = λ l h. absurd (true≢false (sym h)) })
  labels_are before _ _ once (Fits.opens {i} {code} {l} role on) = λ l0 met.
      let here = defines_label i l (opens_label (read i) l role) in
      let later = labels_are (i ∷ before) code _ once.1 on Nothing in
      let none : list_any (nat_eq l) later.0 ≡ false = absent later.0 l (λ h. true≢false (sym (later.1.1.all l h) ∙ not_again bound (i ∷ before) code l once.1 (or_left (defines i l) _ here))) in
      subst (Labels (i ∷ code)) (sym (over i code l0 met (Opens l) role ∙ later.1.0)) (record {
        apart = (none, later.1.1.apart);
        all = λ x h. elim (or_cases (nat_eq x l) _ h) [ inl same ↦ or_left _ _ (ap (λ z. defines i z) (eqb-true x l same) ∙ here) | inr more ↦ or_right (defines i x) _ (later.1.1.all x more) ];
      })
  labels_are before _ _ once (Fits.goes {i} {code} {l} work sits on) = λ met.
      let later = labels_are (i ∷ before) code _ once.1 on met in
      (later.0, (over i code l met Inside (works_inside (read i) work) ∙ later.1.0, behind_one i code _ later.1.1))
  labels_are before _ _ once (Fits.ends {i} {code} {l} t role may sits on) = λ met. left i code l met _ role refl (labels_are (i ∷ before) code _ once.1 on l met)
  labels_are before _ _ once (Fits.leads {i} {code} {l} t role may sits on) = λ met. left i code l met _ role refl (labels_are (i ∷ before) code _ once.1 on l met)
  labels_are before _ _ once (Fits.turns {i} {code} {l} t u role may sits on) = λ met. left i code l met _ role refl (labels_are (i ∷ before) code _ once.1 on l met)
  labels_are before _ _ once (Fits.leaves {i} {code} {l} role may sits on) = λ met. left i code l met _ role refl (labels_are (i ∷ before) code _ once.1 on l met)
  labels_are before _ _ once (Fits.selects {i} {j} {code} {l} n t u merge role may below one two on) = λ met. merged i j code l met _ _ merge role refl (labels_are (j ∷ i ∷ before) code _ once.1.1 on l _)
  labels_are before _ _ once (Fits.chooses {i} {j} {code} {l} n default targets arms merge role differ named below one two on) = λ met. merged i j code l met _ _ merge role refl (labels_are (j ∷ i ∷ before) code _ once.1.1 on l _)
  labels_are before _ _ once (Fits.loops {i} {j} {code} {l} n k b merge role new below one two on) = λ met. merged i j code l met _ _ merge role refl (labels_are (j ∷ i ∷ before) code _ once.1.1 on l _)
