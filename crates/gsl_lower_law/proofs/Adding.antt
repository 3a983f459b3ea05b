-- What calls of a builder add.
use Rattle.std.proofs.Common.{◌≡◌, refl, sym, ℕ, ◌+◌, ◌≤◌, List, [], ◌∷◌, ◌++◌, Option, Some, None, append-nil, arith}
use Rattle.gsl_words.specs.declared.module.Instr.{Instr}
use Rattle.gsl_spv.specs.Calls as call
use Rattle.gsl_spv.specs.Calls.{intern, known}
use Rattle.gsl_spv.specs.Declarations.{Declaration, defining, instr}
use Rattle.gsl_spv.specs.Growing.{Begins, Extends}
use Rattle.gsl_spv.specs.Once.{id_of}
use Rattle.gsl_spv.specs.Sections.{Sections}
use Rattle.gsl_spv.proofs.Extending.{extends_same}

begins_more : (xs : List Instr) (i : Instr) → Begins xs (xs ++ i ∷ [])
begins_more xs i = record { more = i ∷ []; is = refl }

begins_same : (xs : List Instr) → Begins xs xs
begins_same xs = record { more = []; is = sym (append-nil xs) }

longer : {globals functions : List Instr} {last : ℕ} (s : Sections) → Begins s.globals globals → Begins s.functions functions → s.last ≤ last
    → Extends s (record s { globals = globals; functions = functions; last = last })
longer s g f more = record {
  stage = refl;
  target = refl;
  imports = begins_same s.imports;
  names = begins_same s.names;
  decorations = begins_same s.decorations;
  globals = g;
  functions = f;
  last = more;
  wanting = λ e. e;
}

pub extends_put : (op : ℕ) (args : List ℕ) (s : Sections) → Extends s (call.put op args s)
extends_put op args s = longer s (begins_same s.globals) (begins_more s.functions (instr op args)) (omega arith)

pub extends_intern : (d : Declaration) (s : Sections) → Extends s (intern d s).sections
unfolding intern
extends_intern d s = by (id_of d s.globals)
  where
    by : (found : Option ℕ) → Extends s (known found d s).sections
    by (Some id) = extends_same s
    by None = longer s (begins_more s.globals (defining d (s.last + 1))) (begins_same s.functions) (omega arith)

-- a declaration puts nothing into a function
pub intern_functions : (d : Declaration) (s : Sections) → (intern d s).sections.functions ≡ s.functions
unfolding intern
intern_functions d s = by (id_of d s.globals)
  where
    by : (found : Option ℕ) → (known found d s).sections.functions ≡ s.functions
    by (Some id) = refl
    by None = refl
