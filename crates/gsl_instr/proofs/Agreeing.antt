-- The ids that an instruction defines, needs and mentions are those that its row of the table has so.
use Rattle.std.proofs.Common.{◌≡◌, ℕ, Bool, true, false, not, List, [], ◌∷◌, ◌++◌, Some, refl, ap, sym, subst, ◌∙◌}
use Rattle.std.proofs.lemmas.Bool.{cond-true, cond-false}
use Rattle.std.specs.List.{flat_map}
use Rattle.std.specs.Option.{option_map}
use Rattle.gsl_instr.specs.declared.form.Form.{Form}
use Rattle.gsl_instr.specs.declared.form.Form.TheVariants as form
use Rattle.gsl_instr.specs.declared.instruction.Instruction.{Instruction}
use Rattle.gsl_instr.specs.declared.slot.Slot.{Slot}
use Rattle.gsl_instr.specs.declared.slot.Rest.{Rest}
use Rattle.gsl_instr.specs.declared.slot.Rest.TheVariants.{Pairs}
use Rattle.gsl_instr.specs.Fitting.{TakesWord, Fill, Fits}
use Rattle.gsl_instr.specs.Forms.{form_of, slots, rest, next_of}
use Rattle.gsl_instr.specs.Instructions.{read_as, read, result_of, seconds, needs, mentions}
use Rattle.gsl_instr.specs.Parts.{more_parts, parts_of, words_if, words_of, is_result, is_id, is_forward, ids_in}
use Rattle.gsl_instr.specs.Texts.{after_text}

-- what follows, of one kind
abbrev Behind : (Slot → Bool) → Rest → List ℕ → List ℕ
Behind wanted r words = flat_map (words_if wanted) (more_parts r false words)

-- what follows is of no such kind
none_of : (wanted : Slot → Bool) (r : Rest) (second : Bool) (words : List ℕ) → wanted (next_of r false) ≡ false → wanted (next_of r true) ≡ false → flat_map (words_if wanted) (more_parts r second words) ≡ []
none_of wanted r second [] a b = refl
none_of wanted r second (word ∷ words) a b = ap (λ l. l ++ flat_map (words_if wanted) (more_parts r (not second) words)) (skipped wanted (next_of r second) word (either second)) ∙ none_of wanted r (not second) words a b
  where
    either : (second : Bool) → wanted (next_of r second) ≡ false
    either false = a
    either true = b

    skipped : (wanted : Slot → Bool) (slot : Slot) (word : ℕ) → wanted slot ≡ false → words_if wanted (record { slot = slot; words = word ∷ [] }) ≡ []
    skipped wanted slot word e = cond-false _ _ _ e

-- all that follows is
all_of : (wanted : Slot → Bool) (r : Rest) (second : Bool) (words : List ℕ) → wanted (next_of r false) ≡ true → wanted (next_of r true) ≡ true → flat_map (words_if wanted) (more_parts r second words) ≡ words
all_of wanted r second [] a b = refl
all_of wanted r second (word ∷ words) a b = ap (λ l. l ++ flat_map (words_if wanted) (more_parts r (not second) words)) (taken wanted (next_of r second) word (either second)) ∙ ap (λ l. word ∷ l) (all_of wanted r (not second) words a b)
  where
    either : (second : Bool) → wanted (next_of r second) ≡ true
    either false = a
    either true = b

    taken : (wanted : Slot → Bool) (slot : Slot) (word : ℕ) → wanted slot ≡ true → words_if wanted (record { slot = slot; words = word ∷ [] }) ≡ word ∷ []
    taken wanted slot word e = cond-true _ _ _ e

-- of pairs, each second
seconds_of : (words : List ℕ) → Behind is_forward Pairs words ≡ seconds words
seconds_of [] = refl
seconds_of (word ∷ []) = refl
seconds_of (word ∷ second ∷ words) = ap (λ l. second ∷ l) (seconds_of words)

-- The ids of an instruction are those of its operands.
pub record Agrees (f : Form) (op : ℕ) (args : List ℕ) : Type 0 where
  pub defined : ids_in (result_of (read_as f op args)) ≡ words_of is_result f args
  pub needed : needs (read_as f op args) ≡ words_of is_id f args
  pub mentioned : mentions (read_as f op args) ≡ words_of is_forward f args

with_1 : {Then : List ℕ → Type 0} (P : List ℕ → Type 0) (args : List ℕ) → TakesWord args Then → ((a : ℕ) (m : List ℕ) → P (a ∷ m)) → P args
with_1 P args f each = subst P (sym f.2) (each f.0 f.1)

with_2 : {Then : List ℕ → Type 0} (P : List ℕ → Type 0) (args : List ℕ) → TakesWord args (λ m. TakesWord m (λ m. Then m)) → ((a b : ℕ) (m : List ℕ) → P (a ∷ b ∷ m)) → P args
with_2 P args f each = subst P (sym f.2) (with_1 (λ l. P (f.0 ∷ l)) f.1 f.3 (each f.0))

with_3 : {Then : List ℕ → Type 0} (P : List ℕ → Type 0) (args : List ℕ) → TakesWord args (λ m. TakesWord m (λ m. TakesWord m (λ m. Then m))) → ((a b c : ℕ) (m : List ℕ) → P (a ∷ b ∷ c ∷ m)) → P args
with_3 P args f each = subst P (sym f.2) (with_2 (λ l. P (f.0 ∷ l)) f.1 f.3 (each f.0))

with_4 : {Then : List ℕ → Type 0} (P : List ℕ → Type 0) (args : List ℕ) → TakesWord args (λ m. TakesWord m (λ m. TakesWord m (λ m. TakesWord m (λ m. Then m)))) → ((a b c d : ℕ) (m : List ℕ) → P (a ∷ b ∷ c ∷ d ∷ m)) → P args
with_4 P args f each = subst P (sym f.2) (with_3 (λ l. P (f.0 ∷ l)) f.1 f.3 (each f.0))

with_5 : {Then : List ℕ → Type 0} (P : List ℕ → Type 0) (args : List ℕ) → TakesWord args (λ m. TakesWord m (λ m. TakesWord m (λ m. TakesWord m (λ m. TakesWord m (λ m. Then m))))) → ((a b c d e : ℕ) (m : List ℕ) → P (a ∷ b ∷ c ∷ d ∷ e ∷ m)) → P args
with_5 P args f each = subst P (sym f.2) (with_4 (λ l. P (f.0 ∷ l)) f.1 f.3 (each f.0))

with_6 : {Then : List ℕ → Type 0} (P : List ℕ → Type 0) (args : List ℕ) → TakesWord args (λ m. TakesWord m (λ m. TakesWord m (λ m. TakesWord m (λ m. TakesWord m (λ m. TakesWord m (λ m. Then m)))))) → ((a b c d e f : ℕ) (m : List ℕ) → P (a ∷ b ∷ c ∷ d ∷ e ∷ f ∷ m)) → P args
with_6 P args f each = subst P (sym f.2) (with_5 (λ l. P (f.0 ∷ l)) f.1 f.3 (each f.0))

-- The ids that an instruction defines, needs and mentions.
pub agrees : (f : Form) (op : ℕ) (args more : List ℕ) → Fill (slots f) args more → Agrees f op args
unfolding parts_of
agrees form.Name op args more fill = with_1 (Agrees form.Name op) args fill (λ a m. record { defined = sym (none_of is_result (rest form.Name) false (after_text m) refl refl); needed = sym (none_of is_id (rest form.Name) false (after_text m) refl refl); mentioned = sym (ap (λ l. a ∷ l) (none_of is_forward (rest form.Name) false (after_text m) refl refl)) })
agrees form.MemberName op args more fill = with_2 (Agrees form.MemberName op) args fill (λ a b m. record { defined = sym (none_of is_result (rest form.MemberName) false (after_text m) refl refl); needed = sym (none_of is_id (rest form.MemberName) false (after_text m) refl refl); mentioned = sym (ap (λ l. a ∷ l) (none_of is_forward (rest form.MemberName) false (after_text m) refl refl)) })
agrees form.ExtInstImport op args more fill = with_1 (Agrees form.ExtInstImport op) args fill (λ a m. record { defined = sym (ap (λ l. a ∷ l) (none_of is_result (rest form.ExtInstImport) false (after_text m) refl refl)); needed = sym (none_of is_id (rest form.ExtInstImport) false (after_text m) refl refl); mentioned = sym (none_of is_forward (rest form.ExtInstImport) false (after_text m) refl refl) })
agrees form.ExtInst op args more fill = with_4 (Agrees form.ExtInst op) args fill (λ a b c d m. record { defined = sym (ap (λ l. b ∷ l) (none_of is_result (rest form.ExtInst) false m refl refl)); needed = sym (ap (λ l. a ∷ c ∷ l) (all_of is_id (rest form.ExtInst) false m refl refl)); mentioned = sym (none_of is_forward (rest form.ExtInst) false m refl refl) })
agrees form.MemoryModel op args more fill = with_2 (Agrees form.MemoryModel op) args fill (λ a b m. record { defined = sym (none_of is_result (rest form.MemoryModel) false m refl refl); needed = sym (none_of is_id (rest form.MemoryModel) false m refl refl); mentioned = sym (none_of is_forward (rest form.MemoryModel) false m refl refl) })
agrees form.EntryPoint op args more fill = with_2 (Agrees form.EntryPoint op) args fill (λ a b m. record { defined = sym (none_of is_result (rest form.EntryPoint) false (after_text m) refl refl); needed = sym (none_of is_id (rest form.EntryPoint) false (after_text m) refl refl); mentioned = sym (ap (λ l. b ∷ l) (all_of is_forward (rest form.EntryPoint) false (after_text m) refl refl)) })
agrees form.ExecutionMode op args more fill = with_2 (Agrees form.ExecutionMode op) args fill (λ a b m. record { defined = sym (none_of is_result (rest form.ExecutionMode) false m refl refl); needed = sym (none_of is_id (rest form.ExecutionMode) false m refl refl); mentioned = sym (ap (λ l. a ∷ l) (none_of is_forward (rest form.ExecutionMode) false m refl refl)) })
agrees form.Capability op args more fill = with_1 (Agrees form.Capability op) args fill (λ a m. record { defined = sym (none_of is_result (rest form.Capability) false m refl refl); needed = sym (none_of is_id (rest form.Capability) false m refl refl); mentioned = sym (none_of is_forward (rest form.Capability) false m refl refl) })
agrees form.TypeVoid op args more fill = with_1 (Agrees form.TypeVoid op) args fill (λ a m. record { defined = sym (ap (λ l. a ∷ l) (none_of is_result (rest form.TypeVoid) false m refl refl)); needed = sym (none_of is_id (rest form.TypeVoid) false m refl refl); mentioned = sym (none_of is_forward (rest form.TypeVoid) false m refl refl) })
agrees form.TypeBool op args more fill = with_1 (Agrees form.TypeBool op) args fill (λ a m. record { defined = sym (ap (λ l. a ∷ l) (none_of is_result (rest form.TypeBool) false m refl refl)); needed = sym (none_of is_id (rest form.TypeBool) false m refl refl); mentioned = sym (none_of is_forward (rest form.TypeBool) false m refl refl) })
agrees form.TypeInt op args more fill = with_3 (Agrees form.TypeInt op) args fill (λ a b c m. record { defined = sym (ap (λ l. a ∷ l) (none_of is_result (rest form.TypeInt) false m refl refl)); needed = sym (none_of is_id (rest form.TypeInt) false m refl refl); mentioned = sym (none_of is_forward (rest form.TypeInt) false m refl refl) })
agrees form.TypeVector op args more fill = with_3 (Agrees form.TypeVector op) args fill (λ a b c m. record { defined = sym (ap (λ l. a ∷ l) (none_of is_result (rest form.TypeVector) false m refl refl)); needed = sym (ap (λ l. b ∷ l) (none_of is_id (rest form.TypeVector) false m refl refl)); mentioned = sym (none_of is_forward (rest form.TypeVector) false m refl refl) })
agrees form.TypeArray op args more fill = with_3 (Agrees form.TypeArray op) args fill (λ a b c m. record { defined = sym (ap (λ l. a ∷ l) (none_of is_result (rest form.TypeArray) false m refl refl)); needed = sym (ap (λ l. b ∷ c ∷ l) (none_of is_id (rest form.TypeArray) false m refl refl)); mentioned = sym (none_of is_forward (rest form.TypeArray) false m refl refl) })
agrees form.TypeRuntimeArray op args more fill = with_2 (Agrees form.TypeRuntimeArray op) args fill (λ a b m. record { defined = sym (ap (λ l. a ∷ l) (none_of is_result (rest form.TypeRuntimeArray) false m refl refl)); needed = sym (ap (λ l. b ∷ l) (none_of is_id (rest form.TypeRuntimeArray) false m refl refl)); mentioned = sym (none_of is_forward (rest form.TypeRuntimeArray) false m refl refl) })
agrees form.TypeStruct op args more fill = with_1 (Agrees form.TypeStruct op) args fill (λ a m. record { defined = sym (ap (λ l. a ∷ l) (none_of is_result (rest form.TypeStruct) false m refl refl)); needed = sym (all_of is_id (rest form.TypeStruct) false m refl refl); mentioned = sym (none_of is_forward (rest form.TypeStruct) false m refl refl) })
agrees form.TypePointer op args more fill = with_3 (Agrees form.TypePointer op) args fill (λ a b c m. record { defined = sym (ap (λ l. a ∷ l) (none_of is_result (rest form.TypePointer) false m refl refl)); needed = sym (ap (λ l. c ∷ l) (none_of is_id (rest form.TypePointer) false m refl refl)); mentioned = sym (none_of is_forward (rest form.TypePointer) false m refl refl) })
agrees form.TypeFunction op args more fill = with_2 (Agrees form.TypeFunction op) args fill (λ a b m. record { defined = sym (ap (λ l. a ∷ l) (none_of is_result (rest form.TypeFunction) false m refl refl)); needed = sym (ap (λ l. b ∷ l) (all_of is_id (rest form.TypeFunction) false m refl refl)); mentioned = sym (none_of is_forward (rest form.TypeFunction) false m refl refl) })
agrees form.ConstantTrue op args more fill = with_2 (Agrees form.ConstantTrue op) args fill (λ a b m. record { defined = sym (ap (λ l. b ∷ l) (none_of is_result (rest form.ConstantTrue) false m refl refl)); needed = sym (ap (λ l. a ∷ l) (none_of is_id (rest form.ConstantTrue) false m refl refl)); mentioned = sym (none_of is_forward (rest form.ConstantTrue) false m refl refl) })
agrees form.ConstantFalse op args more fill = with_2 (Agrees form.ConstantFalse op) args fill (λ a b m. record { defined = sym (ap (λ l. b ∷ l) (none_of is_result (rest form.ConstantFalse) false m refl refl)); needed = sym (ap (λ l. a ∷ l) (none_of is_id (rest form.ConstantFalse) false m refl refl)); mentioned = sym (none_of is_forward (rest form.ConstantFalse) false m refl refl) })
agrees form.ConstantNull op args more fill = with_2 (Agrees form.ConstantNull op) args fill (λ a b m. record { defined = sym (ap (λ l. b ∷ l) (none_of is_result (rest form.ConstantNull) false m refl refl)); needed = sym (ap (λ l. a ∷ l) (none_of is_id (rest form.ConstantNull) false m refl refl)); mentioned = sym (none_of is_forward (rest form.ConstantNull) false m refl refl) })
agrees form.Constant op args more fill = with_3 (Agrees form.Constant op) args fill (λ a b c m. record { defined = sym (ap (λ l. b ∷ l) (none_of is_result (rest form.Constant) false m refl refl)); needed = sym (ap (λ l. a ∷ l) (none_of is_id (rest form.Constant) false m refl refl)); mentioned = sym (none_of is_forward (rest form.Constant) false m refl refl) })
agrees form.ConstantComposite op args more fill = with_2 (Agrees form.ConstantComposite op) args fill (λ a b m. record { defined = sym (ap (λ l. b ∷ l) (none_of is_result (rest form.ConstantComposite) false m refl refl)); needed = sym (ap (λ l. a ∷ l) (all_of is_id (rest form.ConstantComposite) false m refl refl)); mentioned = sym (none_of is_forward (rest form.ConstantComposite) false m refl refl) })
agrees form.CompositeConstruct op args more fill = with_2 (Agrees form.CompositeConstruct op) args fill (λ a b m. record { defined = sym (ap (λ l. b ∷ l) (none_of is_result (rest form.CompositeConstruct) false m refl refl)); needed = sym (ap (λ l. a ∷ l) (all_of is_id (rest form.CompositeConstruct) false m refl refl)); mentioned = sym (none_of is_forward (rest form.CompositeConstruct) false m refl refl) })
agrees form.Function op args more fill = with_4 (Agrees form.Function op) args fill (λ a b c d m. record { defined = sym (ap (λ l. b ∷ l) (none_of is_result (rest form.Function) false m refl refl)); needed = sym (ap (λ l. a ∷ d ∷ l) (none_of is_id (rest form.Function) false m refl refl)); mentioned = sym (none_of is_forward (rest form.Function) false m refl refl) })
agrees form.FunctionParameter op args more fill = with_2 (Agrees form.FunctionParameter op) args fill (λ a b m. record { defined = sym (ap (λ l. b ∷ l) (none_of is_result (rest form.FunctionParameter) false m refl refl)); needed = sym (ap (λ l. a ∷ l) (none_of is_id (rest form.FunctionParameter) false m refl refl)); mentioned = sym (none_of is_forward (rest form.FunctionParameter) false m refl refl) })
agrees form.FunctionEnd op args more fill = record { defined = sym (none_of is_result (rest form.FunctionEnd) false args refl refl); needed = sym (none_of is_id (rest form.FunctionEnd) false args refl refl); mentioned = sym (none_of is_forward (rest form.FunctionEnd) false args refl refl) }
agrees form.FunctionCall op args more fill = with_3 (Agrees form.FunctionCall op) args fill (λ a b c m. record { defined = sym (ap (λ l. b ∷ l) (none_of is_result (rest form.FunctionCall) false m refl refl)); needed = sym (ap (λ l. a ∷ l) (all_of is_id (rest form.FunctionCall) false m refl refl)); mentioned = sym (ap (λ l. c ∷ l) (none_of is_forward (rest form.FunctionCall) false m refl refl)) })
agrees form.Variable op args more fill = with_3 (Agrees form.Variable op) args fill (λ a b c m. record { defined = sym (ap (λ l. b ∷ l) (none_of is_result (rest form.Variable) false m refl refl)); needed = sym (ap (λ l. a ∷ l) (all_of is_id (rest form.Variable) false m refl refl)); mentioned = sym (none_of is_forward (rest form.Variable) false m refl refl) })
agrees form.Load op args more fill = with_3 (Agrees form.Load op) args fill (λ a b c m. record { defined = sym (ap (λ l. b ∷ l) (none_of is_result (rest form.Load) false m refl refl)); needed = sym (ap (λ l. a ∷ c ∷ l) (none_of is_id (rest form.Load) false m refl refl)); mentioned = sym (none_of is_forward (rest form.Load) false m refl refl) })
agrees form.Store op args more fill = with_2 (Agrees form.Store op) args fill (λ a b m. record { defined = sym (none_of is_result (rest form.Store) false m refl refl); needed = sym (ap (λ l. a ∷ b ∷ l) (none_of is_id (rest form.Store) false m refl refl)); mentioned = sym (none_of is_forward (rest form.Store) false m refl refl) })
agrees form.AccessChain op args more fill = with_3 (Agrees form.AccessChain op) args fill (λ a b c m. record { defined = sym (ap (λ l. b ∷ l) (none_of is_result (rest form.AccessChain) false m refl refl)); needed = sym (ap (λ l. a ∷ c ∷ l) (all_of is_id (rest form.AccessChain) false m refl refl)); mentioned = sym (none_of is_forward (rest form.AccessChain) false m refl refl) })
agrees form.ArrayLength op args more fill = with_4 (Agrees form.ArrayLength op) args fill (λ a b c d m. record { defined = sym (ap (λ l. b ∷ l) (none_of is_result (rest form.ArrayLength) false m refl refl)); needed = sym (ap (λ l. a ∷ c ∷ l) (none_of is_id (rest form.ArrayLength) false m refl refl)); mentioned = sym (none_of is_forward (rest form.ArrayLength) false m refl refl) })
agrees form.Decorate op args more fill = with_2 (Agrees form.Decorate op) args fill (λ a b m. record { defined = sym (none_of is_result (rest form.Decorate) false m refl refl); needed = sym (none_of is_id (rest form.Decorate) false m refl refl); mentioned = sym (ap (λ l. a ∷ l) (none_of is_forward (rest form.Decorate) false m refl refl)) })
agrees form.MemberDecorate op args more fill = with_3 (Agrees form.MemberDecorate op) args fill (λ a b c m. record { defined = sym (none_of is_result (rest form.MemberDecorate) false m refl refl); needed = sym (none_of is_id (rest form.MemberDecorate) false m refl refl); mentioned = sym (ap (λ l. a ∷ l) (none_of is_forward (rest form.MemberDecorate) false m refl refl)) })
agrees form.VectorExtractDynamic op args more fill = with_4 (Agrees form.VectorExtractDynamic op) args fill (λ a b c d m. record { defined = sym (ap (λ l. b ∷ l) (none_of is_result (rest form.VectorExtractDynamic) false m refl refl)); needed = sym (ap (λ l. a ∷ c ∷ d ∷ l) (none_of is_id (rest form.VectorExtractDynamic) false m refl refl)); mentioned = sym (none_of is_forward (rest form.VectorExtractDynamic) false m refl refl) })
agrees form.VectorShuffle op args more fill = with_4 (Agrees form.VectorShuffle op) args fill (λ a b c d m. record { defined = sym (ap (λ l. b ∷ l) (none_of is_result (rest form.VectorShuffle) false m refl refl)); needed = sym (ap (λ l. a ∷ c ∷ d ∷ l) (none_of is_id (rest form.VectorShuffle) false m refl refl)); mentioned = sym (none_of is_forward (rest form.VectorShuffle) false m refl refl) })
agrees form.CompositeExtract op args more fill = with_3 (Agrees form.CompositeExtract op) args fill (λ a b c m. record { defined = sym (ap (λ l. b ∷ l) (none_of is_result (rest form.CompositeExtract) false m refl refl)); needed = sym (ap (λ l. a ∷ c ∷ l) (none_of is_id (rest form.CompositeExtract) false m refl refl)); mentioned = sym (none_of is_forward (rest form.CompositeExtract) false m refl refl) })
agrees form.CompositeInsert op args more fill = with_4 (Agrees form.CompositeInsert op) args fill (λ a b c d m. record { defined = sym (ap (λ l. b ∷ l) (none_of is_result (rest form.CompositeInsert) false m refl refl)); needed = sym (ap (λ l. a ∷ c ∷ d ∷ l) (none_of is_id (rest form.CompositeInsert) false m refl refl)); mentioned = sym (none_of is_forward (rest form.CompositeInsert) false m refl refl) })
agrees form.Unary op args more fill = with_3 (Agrees form.Unary op) args fill (λ a b c m. record { defined = sym (ap (λ l. b ∷ l) (none_of is_result (rest form.Unary) false m refl refl)); needed = sym (ap (λ l. a ∷ c ∷ l) (none_of is_id (rest form.Unary) false m refl refl)); mentioned = sym (none_of is_forward (rest form.Unary) false m refl refl) })
agrees form.Arithmetic op args more fill = with_4 (Agrees form.Arithmetic op) args fill (λ a b c d m. record { defined = sym (ap (λ l. b ∷ l) (none_of is_result (rest form.Arithmetic) false m refl refl)); needed = sym (ap (λ l. a ∷ c ∷ d ∷ l) (none_of is_id (rest form.Arithmetic) false m refl refl)); mentioned = sym (none_of is_forward (rest form.Arithmetic) false m refl refl) })
agrees form.Shift op args more fill = with_4 (Agrees form.Shift op) args fill (λ a b c d m. record { defined = sym (ap (λ l. b ∷ l) (none_of is_result (rest form.Shift) false m refl refl)); needed = sym (ap (λ l. a ∷ c ∷ d ∷ l) (none_of is_id (rest form.Shift) false m refl refl)); mentioned = sym (none_of is_forward (rest form.Shift) false m refl refl) })
agrees form.Logical op args more fill = with_4 (Agrees form.Logical op) args fill (λ a b c d m. record { defined = sym (ap (λ l. b ∷ l) (none_of is_result (rest form.Logical) false m refl refl)); needed = sym (ap (λ l. a ∷ c ∷ d ∷ l) (none_of is_id (rest form.Logical) false m refl refl)); mentioned = sym (none_of is_forward (rest form.Logical) false m refl refl) })
agrees form.Comparison op args more fill = with_4 (Agrees form.Comparison op) args fill (λ a b c d m. record { defined = sym (ap (λ l. b ∷ l) (none_of is_result (rest form.Comparison) false m refl refl)); needed = sym (ap (λ l. a ∷ c ∷ d ∷ l) (none_of is_id (rest form.Comparison) false m refl refl)); mentioned = sym (none_of is_forward (rest form.Comparison) false m refl refl) })
agrees form.Select op args more fill = with_5 (Agrees form.Select op) args fill (λ a b c d e m. record { defined = sym (ap (λ l. b ∷ l) (none_of is_result (rest form.Select) false m refl refl)); needed = sym (ap (λ l. a ∷ c ∷ d ∷ e ∷ l) (none_of is_id (rest form.Select) false m refl refl)); mentioned = sym (none_of is_forward (rest form.Select) false m refl refl) })
agrees form.BitFieldInsert op args more fill = with_6 (Agrees form.BitFieldInsert op) args fill (λ a b c d e f m. record { defined = sym (ap (λ l. b ∷ l) (none_of is_result (rest form.BitFieldInsert) false m refl refl)); needed = sym (ap (λ l. a ∷ c ∷ d ∷ e ∷ f ∷ l) (none_of is_id (rest form.BitFieldInsert) false m refl refl)); mentioned = sym (none_of is_forward (rest form.BitFieldInsert) false m refl refl) })
agrees form.BitFieldExtract op args more fill = with_5 (Agrees form.BitFieldExtract op) args fill (λ a b c d e m. record { defined = sym (ap (λ l. b ∷ l) (none_of is_result (rest form.BitFieldExtract) false m refl refl)); needed = sym (ap (λ l. a ∷ c ∷ d ∷ e ∷ l) (none_of is_id (rest form.BitFieldExtract) false m refl refl)); mentioned = sym (none_of is_forward (rest form.BitFieldExtract) false m refl refl) })
agrees form.LoopMerge op args more fill = with_3 (Agrees form.LoopMerge op) args fill (λ a b c m. record { defined = sym (none_of is_result (rest form.LoopMerge) false m refl refl); needed = sym (none_of is_id (rest form.LoopMerge) false m refl refl); mentioned = sym (ap (λ l. a ∷ b ∷ l) (none_of is_forward (rest form.LoopMerge) false m refl refl)) })
agrees form.SelectionMerge op args more fill = with_2 (Agrees form.SelectionMerge op) args fill (λ a b m. record { defined = sym (none_of is_result (rest form.SelectionMerge) false m refl refl); needed = sym (none_of is_id (rest form.SelectionMerge) false m refl refl); mentioned = sym (ap (λ l. a ∷ l) (none_of is_forward (rest form.SelectionMerge) false m refl refl)) })
agrees form.Label op args more fill = with_1 (Agrees form.Label op) args fill (λ a m. record { defined = sym (ap (λ l. a ∷ l) (none_of is_result (rest form.Label) false m refl refl)); needed = sym (none_of is_id (rest form.Label) false m refl refl); mentioned = sym (none_of is_forward (rest form.Label) false m refl refl) })
agrees form.Branch op args more fill = with_1 (Agrees form.Branch op) args fill (λ a m. record { defined = sym (none_of is_result (rest form.Branch) false m refl refl); needed = sym (none_of is_id (rest form.Branch) false m refl refl); mentioned = sym (ap (λ l. a ∷ l) (none_of is_forward (rest form.Branch) false m refl refl)) })
agrees form.BranchConditional op args more fill = with_3 (Agrees form.BranchConditional op) args fill (λ a b c m. record { defined = sym (none_of is_result (rest form.BranchConditional) false m refl refl); needed = sym (ap (λ l. a ∷ l) (none_of is_id (rest form.BranchConditional) false m refl refl)); mentioned = sym (ap (λ l. b ∷ c ∷ l) (none_of is_forward (rest form.BranchConditional) false m refl refl)) })
agrees form.Switch op args more fill = with_2 (Agrees form.Switch op) args fill (λ a b m. record { defined = sym (none_of is_result (rest form.Switch) false m refl refl); needed = sym (ap (λ l. a ∷ l) (none_of is_id (rest form.Switch) false m refl refl)); mentioned = sym (ap (λ l. b ∷ l) (seconds_of m)) })
agrees form.Kill op args more fill = record { defined = sym (none_of is_result (rest form.Kill) false args refl refl); needed = sym (none_of is_id (rest form.Kill) false args refl refl); mentioned = sym (none_of is_forward (rest form.Kill) false args refl refl) }
agrees form.Return op args more fill = record { defined = sym (none_of is_result (rest form.Return) false args refl refl); needed = sym (none_of is_id (rest form.Return) false args refl refl); mentioned = sym (none_of is_forward (rest form.Return) false args refl refl) }
agrees form.ReturnValue op args more fill = with_1 (Agrees form.ReturnValue op) args fill (λ a m. record { defined = sym (none_of is_result (rest form.ReturnValue) false m refl refl); needed = sym (ap (λ l. a ∷ l) (none_of is_id (rest form.ReturnValue) false m refl refl)); mentioned = sym (none_of is_forward (rest form.ReturnValue) false m refl refl) })

-- an instruction that was read
pub read_agrees : (op : ℕ) (args : List ℕ) (f : Form) (i : Instruction) → Fits op args → form_of op ≡ Some f → read op args ≡ Some i →
    (ids_in (result_of i) ≡ words_of is_result f args) × (needs i ≡ words_of is_id f args) × (mentions i ≡ words_of is_forward f args)
read_agrees op args f i fits found is =
    let same : Some fits.form ≡ Some f = sym fits.found ∙ found in
    let g : fits.form ≡ f = cc in
    let whole : Some (read_as f op args) ≡ Some i = sym (ap (λ o. option_map (λ x. read_as x op args) o) found) ∙ is in
    let j : read_as f op args ≡ i = cc in
    let a = agrees f op args fits.more (subst (λ x. Fill (slots x) args fits.more) g fits.fixed) in
    (ap (λ x. ids_in (result_of x)) (sym j) ∙ a.defined, ap needs (sym j) ∙ a.needed, ap mentions (sym j) ∙ a.mentioned)
