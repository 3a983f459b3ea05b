-- The entry point of a valid module is that of its sections.
use Rattle.std.proofs.Common.{◌≡◌, refl, sym, ap, ◌∙◌, subst, ℕ, ◌+◌, Bool, true, false, ◌&&◌, ◌||◌, List, [], ◌∷◌, ◌++◌, Option, Some, None, if◌then◌else◌, append_assoc, arith}
use Rattle.std.specs.Prelude.{nat_le, ◌==◌}
use Rattle.std.proofs.lemmas.Bool.{and_parts, false≢true, le-leb, leb-true}
use Rattle.gsl_instr.specs.Forms.{form_of}
use Rattle.gsl_words.specs.declared.module.Instr.{Instr}
use Rattle.gsl_words.specs.declared.module.Module.{Module}
use Rattle.gsl_valid.specs.Instruction.{read}
use Rattle.gsl_valid.specs.Kinds.{Enters, Kind, Sets, kind}
use Rattle.gsl_valid.specs.Placed.{Code}
use Rattle.gsl_valid.specs.Sections.{may_come}
use Rattle.gsl_valid.specs.Valid.{Valid}
use Rattle.gsl_valid.specs.Where.{section_in, section_of, where_at}
use Rattle.gsl_machine.specs.Machine.{entry_in, entry_of, or_else}
use Rattle.gsl_sound_code.specs.Rules.{KeepAll}
use Rattle.gsl_sound_code.proofs.Looks.{kept}
use Rattle.gsl_instr.specs.declared.enumerant.memory_model.TheConstants as memory_model_of
use Rattle.gsl_instr.specs.declared.op.TheConstants as op
use Rattle.gsl_spv.specs.Declarations.{instr}
use Rattle.gsl_spv.specs.Finished.{capabilities, entry_point, memory_models, modes, module_of}
use Rattle.gsl_spv.specs.Once.{interface_of}
use Rattle.gsl_spv.specs.Sections.{Sections}

-- behind an entry point nothing comes that stands before it
abbrev IsLate : Module → Code → Type 0
IsLate m before = nat_le 4 (where_at m before).section ≡ true

-- an instruction that may come there has a later section
comes_late : (reached section : ℕ) → nat_le 4 reached ≡ true → may_come reached section ≡ true → nat_le 5 section ≡ true
comes_late reached section late may = by (nat_le 4 reached) late may
  where
    by : (b : Bool) → b ≡ true → (if b then nat_le 5 section && nat_le reached section else (section == reached + 1 || section == 3 && reached == 1)) ≡ true → nat_le 5 section ≡ true
    by true e is = (and_parts (nat_le 5 section) (nat_le reached section) is).0
    by false e is = absurd (false≢true e)

-- the memory model does not come behind
none_behind : (m : Module) (before front rest : Code) (i : Instr) → KeepAll m before (front ++ i ∷ rest) → IsLate m before → kind (read i) ≡ Sets → ⊥
none_behind m before [] rest i keep late sets =
    let come = comes_late (where_at m before).section (section_of (where_at m before).inside (read i)) late (and_parts (may_come (where_at m before).section (section_of (where_at m before).inside (read i))) _ keep.0.section).0 in
    false≢true (ap (λ k. nat_le 5 (section_in (where_at m before).inside k)) (sym sets) ∙ come)
none_behind m before (j ∷ front) rest i keep late sets =
    let come = comes_late (where_at m before).section (section_of (where_at m before).inside (read j)) late (and_parts (may_come (where_at m before).section (section_of (where_at m before).inside (read j))) _ keep.0.section).0 in
    let low = leb-true 5 (section_of (where_at m before).inside (read j)) come in
    none_behind m (j ∷ before) front rest i keep.1 (le-leb 4 (section_of (where_at m before).inside (read j)) (omega (arith, low))) sets

entry_section : (inside : Bool) (k : Kind) (function : ℕ) → entry_in k ≡ Some function → nat_le 4 (section_in inside k) ≡ true
entry_section inside (Enters model f name interface) function is = refl
entry_section inside _ function is = absurd (cc)

-- no entry point stands before the memory model
no_entry : (m : Module) (before front rest : Code) (i : Instr) → KeepAll m before (front ++ i ∷ rest) → kind (read i) ≡ Sets → entry_of front ≡ None
no_entry m before [] rest i keep sets = refl
no_entry m before (j ∷ front) rest i keep sets = by (entry_in (kind (read j))) refl (no_entry m (j ∷ before) front rest i keep.1 sets)
  where
    by : (o : Option ℕ) → entry_in (kind (read j)) ≡ o → entry_of front ≡ None → or_else o (entry_of front) ≡ None
    by None e later = later
    by (Some function) e later = absurd (none_behind m (j ∷ before) front rest i keep.1 (entry_section (where_at m before).inside (kind (read j)) function e) sets)

entry_both : (a b : Code) → entry_of a ≡ None → entry_of (a ++ b) ≡ entry_of b
entry_both [] b none = refl
entry_both (i ∷ a) b none = by (entry_in (kind (read i))) none (entry_both a b)
  where
    by : (o : Option ℕ) → or_else o (entry_of a) ≡ None → (entry_of a ≡ None → entry_of (a ++ b) ≡ entry_of b) → or_else o (entry_of (a ++ b)) ≡ entry_of b
    by None none later = later none
    by (Some function) none later = absurd (cc)

-- the sections one behind the other
in_row : (a m e b c d g f : Code) → a ++ m ++ e ++ b ++ c ++ d ++ g ++ f ≡ a ++ (m ++ (e ++ (b ++ (c ++ (d ++ (g ++ f))))))
in_row a m e b c d g f =
    append_assoc (a ++ m ++ e ++ b ++ c ++ d) g f ∙ append_assoc (a ++ m ++ e ++ b ++ c) d (g ++ f) ∙ append_assoc (a ++ m ++ e ++ b) c (d ++ (g ++ f)) ∙ append_assoc (a ++ m ++ e) b (c ++ (d ++ (g ++ f)))
    ∙ append_assoc (a ++ m) e (b ++ (c ++ (d ++ (g ++ f)))) ∙ append_assoc a m (e ++ (b ++ (c ++ (d ++ (g ++ f)))))

abbrev memory_model : Instr
memory_model = instr op.MEMORY_MODEL (memory_model_of.LOGICAL ∷ memory_model_of.GLSL450 ∷ [])

pub entered : (s : Sections) (main : ℕ) (local_size : List ℕ) → Valid (module_of s main local_size) → entry_of (module_of s main local_size).instrs ≡ Some main
unfolding form_of
entered s main local_size valid =
    let m = module_of s main local_size in
    let front = capabilities ++ s.imports in
    let rest = entry_point s.stage main (interface_of s.globals) ∷ (modes s.stage main local_size ++ (s.names ++ (s.decorations ++ (s.globals ++ s.functions)))) in
    let whole_is : m.instrs ≡ front ++ (memory_model ∷ rest) = in_row front memory_models (entry_point s.stage main (interface_of s.globals) ∷ []) (modes s.stage main local_size) s.names s.decorations s.globals s.functions in
    let keep : KeepAll m [] (front ++ (memory_model ∷ rest)) = subst (KeepAll m []) whole_is (kept m valid).all in
    let none = no_entry m [] front rest memory_model keep refl in
    ap entry_of whole_is ∙ entry_both front (memory_model ∷ rest) none
