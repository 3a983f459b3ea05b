-- What calls leave as it was.
use Rattle.std.proofs.Common.{◌≡◌, ℕ, ◌+◌, Bool, true, false, List, [], ◌∷◌, ◌++◌, ◌⊎◌, inl, inr, Option, Some, None, refl, sym, ap, subst, ◌∙◌, if◌then◌else◌}
use Rattle.std.proofs.lemmas.List.Elements.{Contains-append_left, Contains-append_right, Contains-append_cases}
use Rattle.std.proofs.lemmas.Grind.{flat_map-append}
use Rattle.std.proofs.lemmas.List.{flat_map_more}
use Rattle.std.specs.Cmp.Lexicographic.{nat_list_eq_equiv}
use Rattle.std.specs.List.{Contains}
use Rattle.std.specs.Map.{lookup}
use Rattle.gsl_words.specs.declared.module.Instr.{Instr}
use Rattle.gsl_spv.specs.Declarations.{Declaration, defining}
use Rattle.gsl_spv.specs.Once.{Key, key_of, id_of, entry_of, entries, same, interface_of, IsOnce}
use Rattle.gsl_spv.specs.Sections.{Sections}
use Rattle.gsl_spv.specs.Calls.{known, intern}
use Rattle.gsl_spv.specs.Growing.{Begins, Extends, Defines, all_of}
use Rattle.gsl_spv.specs.Finished.{capabilities, memory_models, entry_point, modes, module_of}

begun : {shorter longer : List Instr} → Begins shorter longer → (i : Instr) → Contains shorter i → Contains longer i
begun {shorter} p i h = subst (λ l. Contains l i) (sym p.is) (Contains-append_left shorter p.more i h)

-- two lists in a row, item by item
both : (a b c d : List Instr) (i : Instr) → (Contains a i → Contains c i) → (Contains b i → Contains d i) → Contains (a ++ b) i → Contains (c ++ d) i
both a b c d i left right h = by (Contains-append_cases a b i h)
  where
    by : Contains a i ⊎ Contains b i → Contains (c ++ d) i
    by (inl l) = Contains-append_left c d i (left l)
    by (inr r) = Contains-append_right c d i (right r)

all_stand : (a b : Sections) (i : Instr) → Extends a b → Contains (all_of a) i → Contains (all_of b) i
all_stand a b i p =
    both (a.imports ++ a.names ++ a.decorations ++ a.globals) a.functions (b.imports ++ b.names ++ b.decorations ++ b.globals) b.functions i
    (both (a.imports ++ a.names ++ a.decorations) a.globals (b.imports ++ b.names ++ b.decorations) b.globals i
    (both (a.imports ++ a.names) a.decorations (b.imports ++ b.names) b.decorations i
    (both a.imports a.names b.imports b.names i (begun p.imports i) (begun p.names i)) (begun p.decorations i)) (begun p.globals i)) (begun p.functions i)

pub defines_extends : (a b : Sections) (id : ℕ) (i : Instr) → Extends a b → Defines (all_of a) id i → Defines (all_of b) id i
defines_extends a b id i p d = record { stands = all_stand a b i p d.stands; result = d.result }

finished_stands : (s : Sections) (main : ℕ) (local_size : List ℕ) (i : Instr) → Contains (all_of s) i → Contains (module_of s main local_size).instrs i
finished_stands s main local_size i =
    let entry = entry_point s.stage main (interface_of s.globals) ∷ [] in
    let head = capabilities ++ s.imports ++ memory_models ++ entry ++ modes s.stage main local_size in
    both (s.imports ++ s.names ++ s.decorations ++ s.globals) s.functions (head ++ s.names ++ s.decorations ++ s.globals) s.functions i
    (both (s.imports ++ s.names ++ s.decorations) s.globals (head ++ s.names ++ s.decorations) s.globals i
    (both (s.imports ++ s.names) s.decorations (head ++ s.names) s.decorations i
    (both s.imports s.names head s.names i
    (λ h. Contains-append_left (capabilities ++ s.imports ++ memory_models ++ entry) (modes s.stage main local_size) i
    (Contains-append_left (capabilities ++ s.imports ++ memory_models) entry i
    (Contains-append_left (capabilities ++ s.imports) memory_models i (Contains-append_right capabilities s.imports i h))))
    (λ h. h)) (λ h. h)) (λ h. h)) (λ h. h)

pub defines_finish : (s : Sections) (main : ℕ) (local_size : List ℕ) (id : ℕ) (i : Instr) → Defines (all_of s) id i
    → Defines (module_of s main local_size).instrs id i
defines_finish s main local_size id i d = record { stands = finished_stands s main local_size i d.stands; result = d.result }

lookup_front : (test : Key → Bool) (xs ys : List (Key × ℕ)) (id : ℕ) → lookup test xs ≡ Some id → lookup test (xs ++ ys) ≡ Some id
lookup_front test [] ys id e = absurd (none_some e)
  where
    none_some : None ≡ Some id → ⊥
    none_some p = cc
lookup_front test (x ∷ xs) ys id e = by (test x.0) e (λ later. lookup_front test xs ys id later)
  where
    by : (t : Bool) → (if t then Some x.1 else lookup test xs) ≡ Some id → (lookup test xs ≡ Some id → lookup test (xs ++ ys) ≡ Some id) → (if t then Some x.1 else lookup test (xs ++ ys)) ≡ Some id
    by true p more = p
    by false p more = more p

-- an id that is known stays so
pub ids_last : (a b : Sections) (d : Declaration) (id : ℕ) → Extends a b → id_of d a.globals ≡ Some id → id_of d b.globals ≡ Some id
ids_last a b d id p e =
    ap (λ l. lookup (same (key_of d)) (entries l)) p.globals.is
    ∙ ap (lookup (same (key_of d))) (flat_map-append entry_of a.globals p.globals.more)
    ∙ lookup_front (same (key_of d)) (entries a.globals) (entries p.globals.more) id e

some_none : (id : ℕ) → Some id ≡ None → ⊥
some_none id e = cc

lookup_last : (test : Key → Bool) (xs : List (Key × ℕ)) (key : Key) (id : ℕ) → lookup test xs ≡ None → test key ≡ true → lookup test (xs ++ (key, id) ∷ []) ≡ Some id
lookup_last test [] key id none passes = ap (λ t. if t then Some id else None) passes
lookup_last test (x ∷ xs) key id none passes = by (test x.0) none (λ later. lookup_last test xs key id later passes)
  where
    by : (t : Bool) → (if t then Some x.1 else lookup test xs) ≡ None → (lookup test xs ≡ None → lookup test (xs ++ (key, id) ∷ []) ≡ Some id) → (if t then Some x.1 else lookup test (xs ++ (key, id) ∷ [])) ≡ Some id
    by true p more = absurd (some_none x.1 p)
    by false p more = more p

-- what is interned is known
pub interned_known : (d : Declaration) (s : Sections) → IsOnce d → id_of d (intern d s).sections.globals ≡ Some (intern d s).id
unfolding intern
interned_known d s once = by (id_of d s.globals) refl
  where
    by : (found : Option ℕ) → id_of d s.globals ≡ found → id_of d (known found d s).sections.globals ≡ Some (known found d s).id
    by (Some id) is = is
    by None is =
        ap (lookup (same (key_of d))) (sym (flat_map_more entry_of [] s.globals (defining d (s.last + 1))) ∙ ap (λ l. entries s.globals ++ l) (once.entry (s.last + 1)))
        ∙ lookup_last (same (key_of d)) (entries s.globals) (key_of d) (s.last + 1) is (nat_list_eq_equiv.refl (key_of d))
