-- Each step only adds.
use Rattle.std.proofs.Common.{ℕ, ◌+◌, ◌≤◌, List, [], ◌∷◌, ◌++◌, Option, Some, None, refl, sym, ap, ◌∙◌, append_assoc, append-nil, arith}
use Rattle.gsl_words.specs.declared.module.Instr.{Instr}
use Rattle.gsl_spv.specs.Sections.{Sections}
use Rattle.gsl_spv.specs.Calls as calls
use Rattle.gsl_spv.specs.Growing.{Begins, Extends}

begins_same : {A : Type 0} (xs : List A) → Begins xs xs
begins_same xs = record { more = []; is = sym (append-nil xs) }

begins_then : {A : Type 0} {xs ys zs : List A} → Begins xs ys → Begins ys zs → Begins xs zs
begins_then {A} {xs} {ys} {zs} p q = record { more = p.more ++ q.more; is = q.is ∙ ap (λ l. l ++ q.more) p.is ∙ append_assoc xs p.more q.more }

begins_more : (xs : List Instr) (i : Instr) → Begins xs (xs ++ i ∷ [])
begins_more xs i = record { more = i ∷ []; is = refl }

pub extends_then : {a b c : Sections} → Extends a b → Extends b c → Extends a c
extends_then p q = record {
  stage = q.stage ∙ p.stage;
  target = q.target ∙ p.target;
  imports = begins_then p.imports q.imports;
  names = begins_then p.names q.names;
  decorations = begins_then p.decorations q.decorations;
  globals = begins_then p.globals q.globals;
  functions = begins_then p.functions q.functions;
  last = omega (arith, p.last, q.last);
  wanting = λ e. q.wanting (p.wanting e);
}

-- sections, each as it was or longer
grown : {imports names decorations globals functions : List Instr} {last : ℕ} (s : Sections) → Begins s.imports imports → Begins s.names names → Begins s.decorations decorations
    → Begins s.globals globals → Begins s.functions functions → s.last ≤ last
    → Extends s (record s { imports = imports; names = names; decorations = decorations; globals = globals; functions = functions; last = last })
grown s i n d g f more = record { stage = refl; target = refl; imports = i; names = n; decorations = d; globals = g; functions = f; last = more; wanting = λ e. e }

pub extends_same : (s : Sections) → Extends s s
extends_same s =
    grown s (begins_same s.imports) (begins_same s.names) (begins_same s.decorations) (begins_same s.globals) (begins_same s.functions) (omega arith)

pub extends_take : (s : Sections) → Extends s (calls.take s).sections
extends_take s =
    grown s (begins_same s.imports) (begins_same s.names) (begins_same s.decorations) (begins_same s.globals) (begins_same s.functions) (omega arith)

extends_import : (i : Instr) (s : Sections) → Extends s (record s { imports = s.imports ++ i ∷ []; last = s.last + 1 })
extends_import i s =
    grown s (begins_more s.imports i) (begins_same s.names) (begins_same s.decorations) (begins_same s.globals) (begins_same s.functions) (omega arith)

pub extends_glsl_set : (s : Sections) → Extends s (calls.glsl_set s).sections
extends_glsl_set s = by (calls.imported s.imports)
  where
    by : (found : Option ℕ) → Extends s (calls.with_import found s).sections
    by (Some id) = extends_same s
    by None = extends_import (calls.importing (s.last + 1)) s
