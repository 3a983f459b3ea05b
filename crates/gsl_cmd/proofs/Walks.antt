-- The code of statements passes a test where each of its four kinds of instruction does, by a judgement over what
-- stands before it.
use Rattle.std.proofs.Common.{◌≡◌, ℕ, ◌+◌, ◌<◌, ◌≤◌, true, IsTrue, List, [], ◌∷◌, length, refl, subst, inl, inr, arith}
use Rattle.std.specs.List.{AllByRecursion}
use Rattle.gsl_words.specs.declared.module.Instr.{Instr}
use Rattle.gsl_instr.specs.declared.op.TheConstants as op
use Rattle.gsl_valid.specs.Search.{Test, passed, Passes}
use Rattle.gsl_valid.proofs.Lookups.{Has}
use Rattle.gsl_form.specs.declared.program.Term.{Term}
use Rattle.gsl_form.specs.declared.program.Term.TheVariants.{Member, Literal}
use Rattle.gsl_form.specs.declared.program.Statement.{Statement}
use Rattle.gsl_cmd.specs.declared.lowering.id.TheConstants as id
use Rattle.gsl_cmd.specs.Lowering.{Code, instr, constant_id, pointer, term_code, term_ids, term_value, more_code, more_ids, more_value, sum_code, sum_ids, sum_value, statement_ids, statements_code, statements_ids}
use Rattle.gsl_cmd.proofs.Known.{among, Known, KnownStatement}

abbrev pub load : ℕ → ℕ → Instr
load n pointer = instr op.LOAD (id.INT ∷ n ∷ pointer ∷ [])

abbrev pub add : ℕ → ℕ → ℕ → Instr
add n a b = instr op.I_ADD (id.INT ∷ n ∷ a ∷ b ∷ [])

abbrev pub store : ℕ → ℕ → Instr
store pointer value = instr op.STORE (pointer ∷ value ∷ [])

-- A judgement of code, the last instruction first: that it is ready for an instruction which takes the id n, and that an
-- id is a value, or a pointer to a member, for the next one. Each instruction of statements passes and keeps it.
pub record Walk (constants : List ℕ) (members limit : ℕ) (part : Instr → Type 0) (test : Test) : Type 1 where
  pub ready : ℕ → Code → Type 0
  pub value : ℕ → Code → Type 0
  pub points : ℕ → Code → Type 0
  pub chain : (n k : ℕ) (before : Code) → k < members → n < limit → part (pointer constants n k) → ready n before →
      IsTrue (test before (pointer constants n k)) × ready (n + 1) (pointer constants n k ∷ before) × points n (pointer constants n k ∷ before)
  pub chain_keeps : (n k v : ℕ) (before : Code) → value v before → value v (pointer constants n k ∷ before)
  pub load_passes : (n q : ℕ) (before : Code) → n < limit → part (load n q) → ready n before → points q before →
      IsTrue (test before (load n q)) × ready (n + 1) (load n q ∷ before) × value n (load n q ∷ before)
  pub load_keeps : (n q v : ℕ) (before : Code) → value v before → value v (load n q ∷ before)
  pub add_passes : (n a b : ℕ) (before : Code) → n < limit → part (add n a b) → ready n before → value a before → value b before →
      IsTrue (test before (add n a b)) × ready (n + 1) (add n a b ∷ before) × value n (add n a b ∷ before)
  pub store_passes : (n q v : ℕ) (before : Code) → part (store q v) → ready n before → points q before → value v before →
      IsTrue (test before (store q v)) × ready n (store q v ∷ before)
  pub literal : (n v : ℕ) (before : Code) → among constants v ≡ true → ready n before → value (constant_id constants v) before

module _ (constants : List ℕ) where
  -- What follows is in the code.
  has_term : (next : ℕ) (term : Term) (follows : Code) (i : Instr) → Has follows i → Has (term_code constants next term follows) i
  has_term next (Member k) follows i has = inr (inr has)
  has_term next (Literal n) follows i has = has

  has_more : (next value : ℕ) (terms : List Term) (follows : Code) (i : Instr) → Has follows i → Has (more_code constants next value terms follows) i
  has_more next value [] follows i has = has
  has_more next value (term ∷ terms) follows i has =
      has_term next term _ i (inr (has_more (next + term_ids constants term + 1) (next + term_ids constants term) terms follows i has))

  has_sum : (next : ℕ) (terms : List Term) (follows : Code) (i : Instr) → Has follows i → Has (sum_code constants next terms follows) i
  has_sum next [] follows i has = has
  has_sum next (term ∷ terms) follows i has =
      has_term next term _ i (has_more (next + term_ids constants term) (term_value constants next term) terms follows i has)

  pub has_statements : (next : ℕ) (statements : List Statement) (follows : Code) (i : Instr) → Has follows i → Has (statements_code constants next statements follows) i
  has_statements next [] follows i has = has
  has_statements next (s ∷ statements) follows i has =
      has_sum next s.terms _ i (inr (inr (has_statements (next + statement_ids constants s) statements follows i has)))

module _ (constants : List ℕ) (members limit : ℕ) (part : Instr → Type 0) (test : Test) (w : Walk constants members limit part test) where
  abbrev Each : Code → Type 0
  Each code = (i : Instr) → Has code i → part i

  term_passes : (next : ℕ) (term : Term) (follows before : Code) → Known members constants term → next + term_ids constants term ≤ limit →
      Each (term_code constants next term follows) → w.ready next before →
      ((behind : Code) → w.ready (next + term_ids constants term) behind → w.value (term_value constants next term) behind →
      ((v : ℕ) → w.value v before → w.value v behind) → Passes test behind follows) →
      Passes test before (term_code constants next term follows)
  term_passes next (Member k) follows before known room each now later =
      let chained = pointer constants next k ∷ before in
      let one = w.chain next k before known (omega arith) (each (pointer constants next k) (inl refl)) now in
      let two = w.load_passes (next + 1) next chained (omega arith) (each (load (next + 1) next) (inr (inl refl))) one.1 one.2 in
      let loaded = load (next + 1) next ∷ chained in
      let e : (next + 1) + 1 ≡ next + 2 = omega arith in
      (one.0, (two.0, later loaded (subst (λ n. w.ready n loaded) e two.1) two.2 (λ v old. w.load_keeps (next + 1) next v chained (w.chain_keeps next k v before old))))
  term_passes next (Literal n) follows before known room each now later =
      let e : next ≡ next + 0 = omega arith in
      later before (subst (λ n. w.ready n before) e now) (w.literal next n before known now) (λ v old. old)

  more_passes : (next value : ℕ) (terms : List Term) (follows before : Code) → AllByRecursion (Known members constants) terms →
      next + more_ids constants terms ≤ limit → Each (more_code constants next value terms follows) → w.ready next before → w.value value before →
      ((end : ℕ) (behind : Code) → end ≡ next + more_ids constants terms → w.ready end behind → w.value (more_value constants next value terms) behind → Passes test behind follows) →
      Passes test before (more_code constants next value terms follows)
  more_passes next value [] follows before known room each now held later = later next before (omega arith) now held
  more_passes next value (term ∷ terms) follows before known room each now held later =
      let sum = next + term_ids constants term in
      let rest = more_code constants (sum + 1) sum terms follows in
      let added = add sum value (term_value constants next term) in
      term_passes next term (added ∷ rest) before known.0 (omega arith) each now (λ behind there taken keep.
      let here = w.add_passes sum value (term_value constants next term) behind (omega arith) (each added (has_term constants next term (added ∷ rest) added (inl refl))) there (keep value held) taken in (
        here.0,
        more_passes (sum + 1) sum terms follows (added ∷ behind) known.1 (omega arith)
            (λ i has. each i (has_term constants next term (added ∷ rest) i (inr has))) here.1 here.2
            (λ end last e ends holds. later end last (omega arith) ends holds),
      ))

  sum_passes : (next : ℕ) (terms : List Term) (follows before : Code) → 1 ≤ length terms → AllByRecursion (Known members constants) terms →
      next + sum_ids constants terms ≤ limit → Each (sum_code constants next terms follows) → w.ready next before →
      ((end : ℕ) (behind : Code) → end ≡ next + sum_ids constants terms → w.ready end behind → w.value (sum_value constants next terms) behind → Passes test behind follows) →
      Passes test before (sum_code constants next terms follows)
  sum_passes next [] follows before some known room each now later = absurd (omega arith)
  sum_passes next (term ∷ terms) follows before some known room each now later =
      let rest = more_code constants (next + term_ids constants term) (term_value constants next term) terms follows in
      term_passes next term rest before known.0 (omega arith) each now (λ behind there taken keep.
      more_passes (next + term_ids constants term) (term_value constants next term) terms follows behind known.1 (omega arith)
      (λ i has. each i (has_term constants next term rest i has)) there taken
      (λ end last e ends holds. later end last (omega arith) ends holds))

  pub statements_pass : (next : ℕ) (statements : List Statement) (follows before : Code) → AllByRecursion (KnownStatement members constants) statements →
      next + statements_ids constants statements ≤ limit → Each (statements_code constants next statements follows) → w.ready next before →
      ((end : ℕ) (behind : Code) → end ≡ next + statements_ids constants statements → w.ready end behind → Passes test behind follows) →
      Passes test before (statements_code constants next statements follows)
  statements_pass next [] follows before known room each now later = later next before (omega arith) now
  statements_pass next (s ∷ statements) follows before known room each now later =
      let target = next + sum_ids constants s.terms in
      let stored = sum_value constants next s.terms in
      let rest = statements_code constants (next + statement_ids constants s) statements follows in
      let ending = pointer constants target s.target ∷ store target stored ∷ rest in
      sum_passes next s.terms ending before known.0.some known.0.terms (omega arith) each now (λ end behind e there holds.
      let here = subst (λ n. w.ready n behind) e there in
      let chained = pointer constants target s.target ∷ behind in
      let one = w.chain target s.target behind known.0.target (omega arith) (each (pointer constants target s.target) (has_sum constants next s.terms ending _ (inl refl))) here in
      let two = w.store_passes (target + 1) target stored chained (each (store target stored) (has_sum constants next s.terms ending _ (inr (inl refl)))) one.1 one.2
      (w.chain_keeps target s.target stored behind holds) in
      let next_is : target + 1 ≡ next + statement_ids constants s = omega arith in
      let after = store target stored ∷ chained in (
        one.0,
        (
          two.0,
          statements_pass (next + statement_ids constants s) statements follows after known.1 (omega arith)
              (λ i has. each i (has_sum constants next s.terms ending i (inr (inr has)))) (subst (λ n. w.ready n after) next_is two.1)
              (λ end last f ends. later end last (omega arith) ends),
        ),
      ))

-- What holds behind any code and then what follows, holds behind any code and then the statements and what follows.
module _ (constants : List ℕ) (P : Code → Type 0) where
  abbrev Behind : Code → Type 0
  Behind follows = (before : Code) → P (passed before follows)

  behind_term : (next : ℕ) (term : Term) (follows : Code) → Behind follows → Behind (term_code constants next term follows)
  behind_term next (Member k) follows last before = last (load (next + 1) next ∷ pointer constants next k ∷ before)
  behind_term next (Literal n) follows last before = last before

  behind_more : (next value : ℕ) (terms : List Term) (follows : Code) → Behind follows → Behind (more_code constants next value terms follows)
  behind_more next value [] follows last = last
  behind_more next value (term ∷ terms) follows last =
      let sum = next + term_ids constants term in
      let rest = more_code constants (sum + 1) sum terms follows in
      behind_term next term (add sum value (term_value constants next term) ∷ rest) (λ before. behind_more (sum + 1) sum terms follows last (add sum value (term_value constants next term) ∷ before))

  behind_sum : (next : ℕ) (terms : List Term) (follows : Code) → Behind follows → Behind (sum_code constants next terms follows)
  behind_sum next [] follows last = last
  behind_sum next (term ∷ terms) follows last =
      behind_term next term (more_code constants (next + term_ids constants term) (term_value constants next term) terms follows)
      (behind_more (next + term_ids constants term) (term_value constants next term) terms follows last)

  pub behind_statements : (next : ℕ) (statements : List Statement) (follows : Code) → Behind follows → Behind (statements_code constants next statements follows)
  behind_statements next [] follows last = last
  behind_statements next (s ∷ statements) follows last =
      let rest = statements_code constants (next + statement_ids constants s) statements follows in
      let target = next + sum_ids constants s.terms in
      let stored = sum_value constants next s.terms in
      behind_sum next s.terms (pointer constants target s.target ∷ store target stored ∷ rest)
      (λ before. behind_statements (next + statement_ids constants s) statements follows last (store target stored ∷ pointer constants target s.target ∷ before))
