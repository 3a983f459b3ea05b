-- Each step of lowering leaves what belongs in each section there, and ids apart.
use Rattle.std.proofs.Common.{◌≡◌, ℕ, ◌+◌, ◌≤◌, Bool, true, false, cond, List, [], ◌∷◌, ◌++◌, Option, Some, None, refl, sym, ap, ◌∙◌, subst, arith}
use Rattle.std.specs.Prelude.{◌==◌, nat_le}
use Rattle.std.proofs.lemmas.Bool.{eqb-true}
use Rattle.std.specs.List.{AllByRecursion}
use Rattle.gsl_words.specs.declared.module.Instr.{Instr}
use Rattle.gsl_instr.specs.Forms.{form_of}
use Rattle.gsl_valid.specs.Ids.{is_id, result}
use Rattle.gsl_valid.specs.Instruction.{read}
use Rattle.gsl_valid.specs.Kinds.{kind}
use Rattle.gsl_valid.specs.Placed.{Code}
use Rattle.gsl_spv.specs.Calls as call
use Rattle.gsl_spv.specs.Calls.{glsl_set, importing, imported, imports_of, intern, known, with_import}
use Rattle.gsl_spv.specs.Declarations.{Declaration, defining, instr}
use Rattle.gsl_spv.specs.Growing.{all_of}
use Rattle.gsl_spv.specs.Once.{id_of}
use Rattle.gsl_spv.specs.Sections.{Sections}
use Rattle.gsl_spv.specs.declared.refusal.TheConstants.{MOST_IDS}
use Rattle.gsl_spv.proofs.Extending.{extends_glsl_set, extends_same, extends_take, extends_then}
use Rattle.gsl_lower_law.proofs.Adding.{extends_intern, extends_put}
use Rattle.gsl_lower_values.specs.Building.{Built, Made, Full, Step, behind, given, giving, id_by, in_order, put_giving, putting}
use Rattle.gsl_fitting_sections.specs.Sections.{count_of, declares, one_if}
use Rattle.gsl_fitting_steps.proofs.Adding.{import_count}
use Rattle.gsl_fitting_steps.proofs.Counting.{apart_more, apart_same}
use Rattle.gsl_fitting_steps.proofs.Declaring.{declared_count}
use Rattle.gsl_fitting_steps.proofs.Giving.{put_count}
use Rattle.gsl_fitting_types.specs.Making.{AreSorted, Sorts, Stays}

-- ---- in a row

pub stays_same : (s : Sections) → Stays s s
stays_same s = record { extends = extends_same s; sorted = λ h. h; anew = λ id low. refl }

pub stays_then : {a b c : Sections} → Stays a b → Stays b c → Stays a c
stays_then p q = record { extends = extends_then p.extends q.extends; sorted = λ h. q.sorted (p.sorted h); anew = λ id low. q.anew id (let more = p.extends.last in omega (arith, low, more)) ∙ p.anew id low }

pub sorts_behind : {B : Type 0} {a b : Sections} → Stays a b → (built : Built B) → Sorts b built → Sorts a built
sorts_behind p (Made x c) q = stays_then p q
sorts_behind p Full q = tt

pub sorts_then : {A B : Type 0} (before : Sections) (built : Built A) (next : A → Step B) → Sorts before built → ((a : A) (s : Sections) → Sorts s (next a s)) → Sorts before (behind built next)
sorts_then before (Made a s) next first more = sorts_behind first (next a s) (more a s)
sorts_then before Full next first more = tt

pub given_sorts : {A : Type 0} (a : A) (s : Sections) → Sorts s (given a s)
given_sorts a s = stays_same s

-- ---- instructions

all_more : (P : Instr → Type 0) (code : Code) (i : Instr) → AllByRecursion P code → P i → AllByRecursion P (code ++ i ∷ [])
all_more P [] i all one = (one, tt)
all_more P (j ∷ code) i all one = (all.0, all_more P code i all.1 one)

-- an instruction that gives nothing
pub putting_sorts : (op : ℕ) (operands : List ℕ) (s : Sections) → result (read (instr op operands)) ≡ None → Sorts s (putting op operands s)
putting_sorts op operands s none = record {
  extends = extends_put op operands s;
  sorted = λ h. record {
    set = h.set;
    imports = h.imports;
    names = h.names;
    decorations = h.decorations;
    globals = h.globals;
    apart = apart_same (s.last + 1) (all_of s) _ (λ id. let e = put_count s (instr op operands) id in let z : one_if (is_id id (result (read (instr op operands)))) ≡ 0 = ap (λ o. one_if (is_id id o)) none in omega (arith, e, z)) h.apart;
  };
  anew = λ id low. let e = put_count s (instr op operands) id in let z : one_if (is_id id (result (read (instr op operands)))) ≡ 0 = ap (λ o. one_if (is_id id o)) none in omega (arith, e, z);
}

-- an id that was taken is not the next one
taken_before : (id last : ℕ) → id ≤ last → one_if ((last + 1) == id) ≡ 0
taken_before id last low = by ((last + 1) == id) refl
  where
    by : (b : Bool) → ((last + 1) == id) ≡ b → one_if b ≡ 0
    by true e = let same = eqb-true (last + 1) id e in absurd (omega (arith, low, same))
    by false e = refl

put_one : (op : ℕ) (operands : List ℕ) (type : ℕ) (s : Sections) → result (read (instr op (type ∷ (s.last + 1) ∷ operands))) ≡ Some (s.last + 1) → Stays s (call.put op (type ∷ (s.last + 1) ∷ operands) (record s { last = s.last + 1 }))
put_one op operands type s named = record {
  extends = extends_then (extends_take s) (extends_put op (type ∷ (s.last + 1) ∷ operands) (call.take s).sections);
  sorted = λ h. record {
    set = h.set;
    imports = h.imports;
    names = h.names;
    decorations = h.decorations;
    globals = h.globals;
    apart = apart_more (s.last + 1) (all_of s) _ (s.last + 1) (omega arith) (omega arith) (λ id. subst (λ o. count_of id (all_of (call.put op (type ∷ (s.last + 1) ∷ operands) (record s { last = s.last + 1 }))) ≡ count_of id (all_of s) + one_if (is_id id o)) named (put_count s (instr op (type ∷ (s.last + 1) ∷ operands)) id)) h.apart;
  };
  anew = λ id low.
      let e : count_of id (all_of (call.put op (type ∷ (s.last + 1) ∷ operands) (record s { last = s.last + 1 }))) ≡ count_of id (all_of s) + one_if ((s.last + 1) == id) =
      subst (λ o. count_of id (all_of (call.put op (type ∷ (s.last + 1) ∷ operands) (record s { last = s.last + 1 }))) ≡ count_of id (all_of s) + one_if (is_id id o)) named (put_count s (instr op (type ∷ (s.last + 1) ∷ operands)) id) in
      let z = taken_before id s.last low in
      omega (arith, e, z);
}

-- one that gives a value
pub giving_sorts : (op : ℕ) (operands : List ℕ) (type : ℕ) (s : Sections) → ((id : ℕ) → result (read (instr op (type ∷ id ∷ operands))) ≡ Some id) → Sorts s (giving op operands type s)
unfolding giving
giving_sorts op operands type s named = by (nat_le (s.last + 1) MOST_IDS)
  where
    by : (b : Bool) → Sorts s (behind (cond b (Made (s.last + 1) (record s { last = s.last + 1 })) Full) (put_giving op type operands))
    by true = put_one op operands type s (named (s.last + 1))
    by false = tt

-- ---- declarations

-- A declaration is one of a type, a constant or a variable, and defines its id.
pub record Declares (d : Declaration) : Type 0 where
  pub is : (id : ℕ) → declares (kind (read (defining d id))) ≡ true
  pub named : (id : ℕ) → result (read (defining d id)) ≡ Some id

declare_stays : (d : Declaration) (s : Sections) → Declares d → AreSorted s → AreSorted (call.declare d s).sections
declare_stays d s may h = record {
  set = h.set;
  imports = h.imports;
  names = h.names;
  decorations = h.decorations;
  globals = all_more _ s.globals (defining d (s.last + 1)) h.globals (may.is (s.last + 1));
  apart = apart_more (s.last + 1) (all_of s) _ (s.last + 1) (omega arith) (omega arith) (λ id. subst (λ o. count_of id (all_of (call.declare d s).sections) ≡ count_of id (all_of s) + one_if (is_id id o)) (may.named (s.last + 1)) (declared_count s (defining d (s.last + 1)) id)) h.apart;
}

pub intern_stays : (d : Declaration) (s : Sections) → Declares d → Stays s (intern d s).sections
unfolding intern
intern_stays d s may = record { extends = extends_intern d s; sorted = λ h. by h (id_of d s.globals); anew = λ id low. new id low (id_of d s.globals) }
  where
    by : AreSorted s → (found : Option ℕ) → AreSorted (known found d s).sections
    by h (Some id) = h
    by h None = declare_stays d s may h

    new : (id : ℕ) → id ≤ s.last → (found : Option ℕ) → count_of id (all_of (known found d s).sections) ≡ count_of id (all_of s)
    new id low (Some there) = refl
    new id low None =
        let e : count_of id (all_of (call.declare d s).sections) ≡ count_of id (all_of s) + one_if ((s.last + 1) == id) =
        subst (λ o. count_of id (all_of (call.declare d s).sections) ≡ count_of id (all_of s) + one_if (is_id id o)) (may.named (s.last + 1)) (declared_count s (defining d (s.last + 1)) id) in
        let z = taken_before id s.last low in
        omega (arith, e, z)

-- what is declared once
pub intern_sorts : (d : Declaration) (s : Sections) → Declares d → Sorts s (id_by (intern d) s)
intern_sorts d s may = by (nat_le (intern d s).sections.last MOST_IDS)
  where
    by : (b : Bool) → Sorts s (cond b (Made (intern d s).id (intern d s).sections) Full)
    by true = intern_stays d s may
    by false = tt

-- ---- the import

import_stays : (s : Sections) → Stays s (glsl_set s).sections
unfolding form_of
import_stays s = record { extends = extends_glsl_set s; sorted = λ h. by h h.set h.imports; anew = λ id low. new id low (imported s.imports) }
  where
    new : (id : ℕ) → id ≤ s.last → (found : Option ℕ) → count_of id (all_of (with_import found s).sections) ≡ count_of id (all_of s)
    new id low (Some there) = refl
    new id low None = let e = import_count s id in let z = taken_before id s.last low in omega (arith, e, z)

    by : AreSorted s → (set : Option ℕ) → s.imports ≡ imports_of set → AreSorted (with_import (imported s.imports) s).sections
    by h (Some id) is = subst (λ o. AreSorted (with_import o s).sections) (sym (ap imported is)) h
    by h None is = subst (λ o. AreSorted (with_import o s).sections) (sym (ap imported is)) (record {
      set = Some (s.last + 1);
      imports = ap (λ l. l ++ importing (s.last + 1) ∷ []) is;
      names = h.names;
      decorations = h.decorations;
      globals = h.globals;
      apart = apart_more (s.last + 1) (all_of s) _ (s.last + 1) (omega arith) (omega arith) (import_count s) h.apart;
    })

pub import_sorts : (s : Sections) → Sorts s (id_by glsl_set s)
import_sorts s = by (nat_le (glsl_set s).sections.last MOST_IDS)
  where
    by : (b : Bool) → Sorts s (cond b (Made (glsl_set s).id (glsl_set s).sections) Full)
    by true = import_stays s
    by false = tt

-- ---- one for each of some items

pub each_sorts : {A : Type 0} (step : A → Step ℕ) (items : List A) (s : Sections) → ((a : A) (s : Sections) → Sorts s (step a s)) → Sorts s (in_order step items s)
unfolding in_order
each_sorts step [] s one = stays_same s
each_sorts step (a ∷ items) s one =
    sorts_then s (step a s) (λ id s. behind (in_order step items s) (λ ids. given (id ∷ ids))) (one a s)
    (λ id s. sorts_then s (in_order step items s) (λ ids. given (id ∷ ids)) (each_sorts step items s one) (λ ids s. stays_same s))
