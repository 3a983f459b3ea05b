-- Where the instructions outside functions stand, and what they are there.
use Rattle.std.proofs.Common.{◌≡◌, ℕ, ◌≤◌, Bool, true, false, IsTrue, [], ◌∷◌, ◌++◌, refl, sym, ap, ◌∙◌, arith}
use Rattle.std.specs.Prelude.{nat_le}
use Rattle.std.specs.List.{AllByRecursion, list_all}
use Rattle.std.proofs.lemmas.Bool.{and_from, cond-true, le-leb, true≢false}
use Rattle.gsl_words.specs.declared.module.Instr.{Instr}
use Rattle.gsl_words.specs.declared.module.Module.{Module}
use Rattle.gsl_valid.specs.Ids.{defined, mentions, needs}
use Rattle.gsl_valid.specs.Instruction.{is_such, read}
use Rattle.gsl_valid.specs.Kinds as kinds
use Rattle.gsl_valid.specs.Kinds.{Kind, kind}
use Rattle.gsl_valid.specs.LocalityRules.{of_block}
use Rattle.gsl_valid.specs.Placed.{Code}
use Rattle.gsl_valid.specs.Search.{Passes, Test, passed}
use Rattle.gsl_valid.specs.Sections.{has_numbers, may_come}
use Rattle.gsl_valid.specs.Where.{Outside, section_in, where_at}
use Rattle.gsl_valid.specs.Types.{defined_as}
use Rattle.gsl_valid.proofs.Lookups.{defined_behind}
use Rattle.gsl_fitting_code.specs.Kept.{is_outer}
use Rattle.gsl_fitting_code.proofs.Fronts.{outer_inside, outer_stays}
use Rattle.gsl_fitting_sections.specs.Sections.{Each, IsDeclaration, IsDecoration, IsName, declares, is_lasting}

-- whether it stands before names
abbrev pub heads : Kind → Bool
heads kinds.Asks = true
heads kinds.Imports = true
heads kinds.Sets = true
heads (kinds.Enters model function name interface) = true
heads (kinds.Modes function mode parts) = true
heads _ = false

-- whether it stands before types, constants and variables
abbrev pub precedes : Kind → Bool
precedes kinds.Asks = true
precedes kinds.Imports = true
precedes kinds.Sets = true
precedes (kinds.Enters model function name interface) = true
precedes (kinds.Modes function mode parts) = true
precedes kinds.Debugs = true
precedes (kinds.Decorates d) = true
precedes _ = false

-- whether it stands before decorations
abbrev pub unmarked : Kind → Bool
unmarked (kinds.Decorates d) = false
unmarked k = precedes k

pub declares_outer : (k : Kind) → declares k ≡ true → is_outer k ≡ true
declares_outer (kinds.Declares shape) h = refl
declares_outer (kinds.Fixes type value) h = refl
declares_outer (kinds.Holds v) h = h
declares_outer _ h = absurd (true≢false (sym h))

pub declares_section : (k : Kind) → declares k ≡ true → section_in false k ≡ 8
declares_section (kinds.Declares shape) h = refl
declares_section (kinds.Fixes type value) h = refl
declares_section (kinds.Holds v) h = refl
declares_section _ h = absurd (true≢false (sym h))

-- What such code uses is defined before it.
abbrev pub Closed : Code → Type 0
Closed [] = Unit {0}
Closed (i ∷ before) = (list_all (defined before) (needs (read i)) ≡ true) × Closed before

module _ (m : Module) where
  -- Code stands outside functions, in a section behind the entry point and up to one.
  pub record Past (most : ℕ) (before : Code) : Type 0 where
    pub inside : (where_at m before).inside ≡ false
    pub standing : (where_at m before).standing ≡ Outside
    pub late : 4 ≤ (where_at m before).section
    pub early : (where_at m before).section ≤ most

  pub past_comes : (most : ℕ) (before : Code) → nat_le 5 most ≡ true → Past most before → may_come (where_at m before).section most ≡ true
  past_comes most before low p = cond-true _ _ _ (le-leb 4 (where_at m before).section p.late) ∙ and_from _ _ low (le-leb (where_at m before).section most p.early)

  past_step : (least most : ℕ) (i : Instr) (before : Code) (k : Kind) → kind (read i) ≡ k → is_outer k ≡ true → section_in false k ≡ most → 4 ≤ most → Past least before → Past most (i ∷ before)
  past_step least most i before k is outer section low p =
      let out : is_outer (kind (read i)) ≡ true = ap is_outer is ∙ outer in
      let here : (where_at m (i ∷ before)).section ≡ most = ap (λ b. section_in b (kind (read i))) p.inside ∙ ap (section_in false) is ∙ section in
      record {
        inside = outer_inside (where_at m before).inside (kind (read i)) out ∙ p.inside;
        standing = outer_stays m (kind (read i)) (where_at m before).standing out ∙ p.standing;
        late = omega (arith, here, low);
        early = omega (arith, here);
      }

  pub wider : (least most : ℕ) (before : Code) → least ≤ most → Past least before → Past most before
  wider least most before le p = record { inside = p.inside; standing = p.standing; late = p.late; early = omega (arith, p.early, le) }

  -- A capability, an import, the memory model, an entry point or a mode.
  pub record Headed (before : Code) (i : Instr) : Type 0 where
    pub is : heads (kind (read i)) ≡ true
    pub inside : (where_at m before).inside ≡ false
    pub standing : (where_at m before).standing ≡ Outside
    pub comes : may_come (where_at m before).section (section_in false (kind (read i))) ≡ true
    pub numbers : is_such (has_numbers m) (read i) ≡ true
    pub uses : needs (read i) ≡ []
    pub names : list_all (is_lasting m) (mentions (read i)) ≡ true

  -- A name.
  pub record Named (before : Code) (i : Instr) : Type 0 where
    pub past : Past 6 before
    pub name : IsName m i

  -- A decoration behind others, which stand behind what decorates nothing.
  pub record Marked (before : Code) (i : Instr) : Type 0 where
    pub past : Past 7 before
    pub earlier : Code
    pub base : Code
    pub is : before ≡ earlier ++ base
    pub none : AllByRecursion (λ j. unmarked (kind (read j)) ≡ true) base
    pub mark : IsDecoration m earlier i

  -- A declaration behind others, which stand behind what declares nothing.
  pub record Declared' (before : Code) (i : Instr) : Type 0 where
    pub past : Past 8 before
    pub earlier : Code
    pub base : Code
    pub is : before ≡ earlier ++ base
    pub none : AllByRecursion (λ j. precedes (kind (read j)) ≡ true) base
    pub closed : Closed earlier
    -- what is defined so far is no block's
    pub lasts : (id : ℕ) → defined earlier id ≡ true → of_block (defined_as m id) ≡ false
    pub declaration : IsDeclaration m earlier i

  pub data Lies (before : Code) (i : Instr) : Type 0 where
    headed : Headed before i → Lies before i
    named : Named before i → Lies before i
    marked : Marked before i → Lies before i
    declared : Declared' before i → Lies before i

  -- What stands behind the heads.
  pub data Follows (before : Code) (i : Instr) : Type 0 where
    name : Named before i → Follows before i
    mark : Marked before i → Follows before i
    declaration : Declared' before i → Follows before i

  pub lies_of : (before : Code) (i : Instr) → Follows before i → Lies before i
  lies_of before i (Follows.name p) = named p
  lies_of before i (Follows.mark p) = marked p
  lies_of before i (Follows.declaration p) = declared p

  module _ (test : Test) (passes : (before : Code) (i : Instr) → Follows before i → IsTrue (test before i)) where
    pub names_pass : (code before : Code) → AllByRecursion (IsName m) code → Past 6 before → Passes test before code × Past 6 (passed before code)
    names_pass [] before all p = (tt, p)
    names_pass (i ∷ code) before all p =
        let later = names_pass code (i ∷ before) all.1 (past_step 6 6 i before kinds.Debugs all.0.is refl refl (omega arith) p) in
        ((passes before i (Follows.name (record { past = p; name = all.0 })), later.0), later.1)

    pub marks_pass : (base : Code) → AllByRecursion (λ j. unmarked (kind (read j)) ≡ true) base → (code earlier : Code) → Each (IsDecoration m) earlier code → Past 7 (earlier ++ base) → Passes test (earlier ++ base) code × Past 7 (passed (earlier ++ base) code)
    marks_pass base none [] earlier all p = (tt, p)
    marks_pass base none (i ∷ code) earlier all p =
        let later = marks_pass base none code (i ∷ earlier) all.1 (past_step 7 7 i (earlier ++ base) (kinds.Decorates all.0.decoration) all.0.is refl refl (omega arith) p) in
        ((passes (earlier ++ base) i (Follows.mark (record { past = p; earlier = earlier; base = base; is = refl; none = none; mark = all.0 })), later.0), later.1)

    pub declarations_pass : (base : Code) → AllByRecursion (λ j. precedes (kind (read j)) ≡ true) base → (code earlier : Code) → Closed earlier → ((id : ℕ) → defined (passed earlier code) id ≡ true → of_block (defined_as m id) ≡ false) → Each (IsDeclaration m) earlier code → Past 8 (earlier ++ base)
        → Passes test (earlier ++ base) code × Past 8 (passed (earlier ++ base) code)
    declarations_pass base none [] earlier closed lasts all p = (tt, p)
    declarations_pass base none (i ∷ code) earlier closed lasts all p =
        let later = declarations_pass base none code (i ∷ earlier) (all.0.uses, closed) lasts all.1
        (past_step 8 8 i (earlier ++ base) (kind (read i)) refl (declares_outer (kind (read i)) all.0.is) (declares_section (kind (read i)) all.0.is) (omega arith) p) in
        ((passes (earlier ++ base) i (Follows.declaration (record { past = p; earlier = earlier; base = base; is = refl; none = none; closed = closed; lasts = λ id h. lasts id (defined_behind earlier (i ∷ code) id h); declaration = all.0 })), later.0), later.1)
