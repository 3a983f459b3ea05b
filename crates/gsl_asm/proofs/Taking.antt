-- Operands that are taken one by one.
use Rattle.std.proofs.Common.{◌≡◌, ℕ, Bool, true, false, not, List, [], ◌∷◌, ◌++◌, length, get_or, Option, Some, None, refl, ap, sym, subst, ◌∙◌, append_assoc, append-nil}
use Rattle.gsl_instr.specs.declared.slot.Slot.{Slot}
use Rattle.gsl_instr.specs.declared.slot.Rest.{Rest}
use Rattle.gsl_instr.specs.Forms.{slots, next_of}
use Rattle.gsl_text.specs.Numbers.{◌>>=◌}
use Rattle.gsl_words.specs.declared.target.Target.{Target}
use Rattle.gsl_asm.specs.declared.word.Word.{Word}
use Rattle.gsl_asm.specs.Instructions.{last_of}
use Rattle.gsl_asm.specs.Reading.{operand_of, before, more_of, fixed_of, ahead, Fixed, Added, Took}

abbrev Gave : List ℕ → List ℕ → Option (List ℕ) → Type 0
Gave old new found = (args : List ℕ) × (found ≡ Some args) × (new ≡ old ++ args)

added_none : (old new : List ℕ) (found : Option (List ℕ)) → Added false old new found → found ≡ None
added_none old new None added = refl
added_none old new (Some args) added = absurd (let e : false ≡ true = added.0 in cc)

added_some : (old new : List ℕ) (found : Option (List ℕ)) → Added true old new found → Gave old new found
added_some old new None added = absurd (cc)
added_some old new (Some args) added = (args, refl, added.1)

from_none : (old new : List ℕ) (found : Option (List ℕ)) → found ≡ None → Added false old new found
from_none old new found e = subst (Added false old new) (sym e) refl

from_some : (old new args : List ℕ) (found : Option (List ℕ)) → found ≡ Some args → new ≡ old ++ args → Added true old new found
from_some old new args found e n = subst (Added true old new) (sym e) (refl, n)

before_none : (args : List ℕ) (found : Option (List ℕ)) → before args found ≡ None → found ≡ None
before_none args None e = refl
before_none args (Some more) e = absurd (cc)

before_some : (args all : List ℕ) (found : Option (List ℕ)) → before args found ≡ Some all → (more : List ℕ) × (found ≡ Some more) × (all ≡ args ++ more)
before_some args all None e = absurd (cc)
before_some args all (Some more) e = (more, refl, cc)

before_before : (a b : List ℕ) (found : Option (List ℕ)) → before a (before b found) ≡ before (a ++ b) found
before_before a b None = refl
before_before a b (Some more) = ap Some (sym (append_assoc a b more))

-- the first word that was added
first_added : (old new args : List ℕ) → new ≡ old ++ args → get_or new (length old) 0 ≡ last_of args
first_added old new args e = ap (λ l. get_or l (length old) 0) e ∙ seam old args
  where
    seam : (old args : List ℕ) → get_or (old ++ args) (length old) 0 ≡ get_or args 0 0
    seam [] args = refl
    seam (x ∷ old) args = seam old args

pub more_stop : (target : Target) (r : Rest) (second : Bool) (last : ℕ) (word : Word) (words source : List Word) (first args new : List ℕ) (whole : Option (List ℕ)) → source ≡ word ∷ words →
    Added false args new (operand_of target last (next_of r second) word) → before args (more_of target r second last source) ≡ before first whole → Added false first new whole
unfolding more_of
more_stop target r second last word words source first args new whole is bad e =
    let none : operand_of target last (next_of r second) word ≡ None = added_none args new _ bad in
    let here : more_of target r second last (word ∷ words) ≡ None = ap (λ f. f >>= λ a. before a (more_of target r (not second) (last_of a) words)) none in
    from_none first new whole (before_none first whole (sym e ∙ ap (λ s. before args (more_of target r second last s)) is ∙ ap (before args) here))

pub more_step : (target : Target) (r : Rest) (second : Bool) (last next : ℕ) (word : Word) (words source : List Word) (args new : List ℕ) (whole : Option (List ℕ)) → source ≡ word ∷ words →
    Added true args new (operand_of target last (next_of r second) word) → next ≡ get_or new (length args) 0 → before args (more_of target r second last source) ≡ whole →
    before new (more_of target r (not second) next words) ≡ whole
unfolding more_of
more_step target r second last next word words source args new whole is good n e =
    let g = added_some args new _ good in
    let here : more_of target r second last (word ∷ words) ≡ before g.0 (more_of target r (not second) (last_of g.0) words) = ap (λ f. f >>= λ a. before a (more_of target r (not second) (last_of a) words)) g.1 in
    let l : next ≡ last_of g.0 = n ∙ first_added args new g.0 g.2 in
    ap (λ k. before new (more_of target r (not second) k words)) l ∙ ap (λ a. before a (more_of target r (not second) (last_of g.0) words)) g.2
    ∙ sym (before_before args g.0 (more_of target r (not second) (last_of g.0) words)) ∙ sym (ap (before args) here) ∙ sym (ap (λ s. before args (more_of target r second last s)) is) ∙ e

pub more_end : (target : Target) (r : Rest) (second : Bool) (last : ℕ) (source : List Word) (first args : List ℕ) (whole : Option (List ℕ)) → source ≡ [] →
    before args (more_of target r second last source) ≡ before first whole → Added true first args whole
unfolding more_of
more_end target r second last source first args whole is e =
    let some : before first whole ≡ Some (args ++ []) = sym e ∙ ap (λ s. before args (more_of target r second last s)) is in
    let b = before_some first (args ++ []) whole some in
    from_some first args b.0 whole b.1 (sym (append-nil args) ∙ b.2)

-- the operands that every instruction of a form has
took_none : (old new : List ℕ) (left : List Word) (found : Option Fixed) → found ≡ None → Took None old new left found
took_none old new left found e = subst (Took None old new left) (sym e) refl

pub fixed_short : (target : Target) (slot : Slot) (slots : List Slot) (last : ℕ) (source left : List Word) (old new : List ℕ) → source ≡ [] → Took None old new left (fixed_of target (slot ∷ slots) last source)
unfolding fixed_of
fixed_short target slot slots last source left old new is = took_none old new left _ (ap (fixed_of target (slot ∷ slots) last) is)

pub fixed_bad : (target : Target) (slot : Slot) (slots : List Slot) (last : ℕ) (word : Word) (words source left : List Word) (old new : List ℕ) → source ≡ word ∷ words →
    Added false old new (operand_of target last slot word) → Took None old new left (fixed_of target (slot ∷ slots) last source)
unfolding fixed_of
fixed_bad target slot slots last word words source left old new is bad =
    took_none old new left _
    (ap (fixed_of target (slot ∷ slots) last) is ∙ ap (λ f. f >>= λ a. ahead a (fixed_of target slots (last_of a) words)) (added_none old new _ bad))

ahead_took : (found : Option ℕ) (old mid new args : List ℕ) (left : List Word) (given : Option Fixed) → mid ≡ old ++ args → Took found mid new left given → Took found old new left (ahead args given)
ahead_took found old mid new args left None is took = took
ahead_took found old mid new args left (Some f) is took = (took.0, took.1 ∙ ap (λ l. l ++ f.0) is ∙ append_assoc old args f.0, took.2)

pub fixed_step : (target : Target) (slot : Slot) (slots : List Slot) (last next : ℕ) (word : Word) (words source left : List Word) (old mid new : List ℕ) (found : Option ℕ) → source ≡ word ∷ words →
    Added true old mid (operand_of target last slot word) → next ≡ get_or mid (length old) 0 → Took found mid new left (fixed_of target slots next words) → Took found old new left (fixed_of target (slot ∷ slots) last source)
unfolding fixed_of
fixed_step target slot slots last next word words source left old mid new found is good n took =
    let g = added_some old mid _ good in
    let l : next ≡ last_of g.0 = n ∙ first_added old mid g.0 g.2 in
    let here : fixed_of target (slot ∷ slots) last source ≡ ahead g.0 (fixed_of target slots (last_of g.0) words) =
    ap (fixed_of target (slot ∷ slots) last) is ∙ ap (λ f. f >>= λ a. ahead a (fixed_of target slots (last_of a) words)) g.1 in
    subst (Took found old new left) (sym here) (ahead_took found old mid new g.0 left _ g.2 (subst (λ k. Took found mid new left (fixed_of target slots k words)) l took))
