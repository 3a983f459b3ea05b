-- The blocks of code that fits are the runs that are due, and their constructs do not nest too deeply.
use Rattle.std.proofs.Common.{◌≡◌, ℕ, ◌+◌, ◌<◌, ◌≤◌, max, Bool, true, false, cond, List, [], ◌∷◌, ◌++◌, Option, Some, None, refl, sym, ap, ◌∙◌, subst, append_assoc, arith}
use Rattle.std.specs.List.{AllByRecursion}
use Rattle.gsl_words.specs.declared.module.Instr.{Instr}
use Rattle.gsl_words.specs.declared.module.Module.{Module}
use Rattle.gsl_blocks.specs.declared.around.Around.{Around}
use Rattle.gsl_blocks.specs.declared.around.Due.{Due}
use Rattle.gsl_blocks.specs.declared.block.Block.{Block}
use Rattle.gsl_blocks.specs.declared.block.End.TheVariants.{Branch, Conditional, Switch, Leave}
use Rattle.gsl_blocks.specs.declared.block.Merge.{Merge}
use Rattle.gsl_blocks.specs.declared.block.Merge.TheVariants.{Nothing, Selection, Loop}
use Rattle.gsl_blocks.specs.declared.block.Role.{Role}
use Rattle.gsl_blocks.specs.declared.block.Role.TheVariants.{Opens, Merges, Ends, Inside}
use Rattle.gsl_blocks.specs.Around.{needs_run, in_arm}
use Rattle.gsl_blocks.specs.Blocks.{blocks_from, role_at, with_role}
use Rattle.gsl_blocks.specs.Order as order
use Rattle.gsl_blocks.specs.Order.{AreRuns, IsRun, block, run, arm, cases, first_or, may_fork, parts_of_loop}
use Rattle.gsl_blocks.specs.Order.AreRuns.{done, more}
use Rattle.gsl_blocks.proofs.Onto.{asks_onto, cases_onto, onto}
use Rattle.gsl_valid.specs.Instruction.{read}
use Rattle.gsl_valid.specs.LimitRules.{most_constructs}
use Rattle.gsl_valid.specs.Placed.{Code}
use Rattle.gsl_fitting.specs.Fits.{At, Behind, Fits, Frame, In}
use Rattle.gsl_fitting_code.proofs.Roles.{works_inside}

-- Depth -------------------------------------------------------------------------------------------------------------

-- each of these runs stands no deeper than it may
abbrev pub Low : List Due → Type 0
Low ds = AllByRecursion (λ d. d.around.depth ≤ most_constructs) ds

low_arm : (c : Around) (n l : ℕ) (ds : List Due) → c.depth < most_constructs → Low ds → Low (arm c n l ds)
low_arm c n l ds deep low = by_case (needs_run c n l)
  where
    by_case : (b : Bool) → Low (cond b (run l (in_arm c n) ∷ ds) ds)
    by_case true = (omega (arith, deep), low)
    by_case false = low

low_cases : (c : Around) (n last : ℕ) (arms : List ℕ) (ds : List Due) → c.depth < most_constructs → Low ds → Low (cases c n last arms ds)
low_cases c n last [] ds deep low = low
low_cases c n last (l ∷ arms) ds deep low = (omega (arith, deep), low_cases c n last arms ds deep low)

-- Runs --------------------------------------------------------------------------------------------------------------

module _ (first : ℕ) where
  -- blocks are runs, not too deep
  pub record Runs (ds : List Due) (bs : List Block) : Type 0 where
    pub deepest : ℕ
    pub runs : AreRuns first ds deepest bs
    pub low : deepest ≤ most_constructs

  -- runs of two lists are cut between them
  record Cut (fs ds : List Due) (bs : List Block) : Type 0 where
    pub front : List Block
    pub rest : List Block
    pub is : bs ≡ front ++ rest
    pub fronts : Runs fs front
    pub rests : Runs ds rest

  cut_at : (fs ds : List Due) (n : ℕ) (bs : List Block) → n ≤ most_constructs → AreRuns first (fs ++ ds) n bs → Cut fs ds bs
  cut_at [] ds n bs low r = record { front = []; rest = bs; is = refl; fronts = record { deepest = 0; runs = done; low = omega arith }; rests = record { deepest = n; runs = r; low = low } }
  cut_at (f ∷ fs) ds _ _ low (more {n = n} {k = k} {xs = xs} {ys = ys} r rs) =
      let u = cut_at fs ds k ys (omega (arith, low)) rs in
      record {
        front = xs ++ u.front;
        rest = u.rest;
        is = ap (λ z. xs ++ z) u.is ∙ sym (append_assoc xs u.front u.rest);
        fronts = record { deepest = max n u.fronts.deepest; runs = more r u.fronts.runs; low = omega (arith, low, u.fronts.low) };
        rests = u.rests;
      }

  cut : (fs ds : List Due) (bs : List Block) → Runs (fs ++ ds) bs → Cut fs ds bs
  cut fs ds bs r = cut_at fs ds r.deepest bs r.low r.runs

  -- a block that is a run before others
  alone : (l : ℕ) (c : Around) (ds : List Due) (b : Block) (bs : List Block) → c.depth ≤ most_constructs → IsRun first l c c.depth (b ∷ []) → Runs ds bs → Runs (run l c ∷ ds) (b ∷ bs)
  alone l c ds b bs low is r = record { deepest = max c.depth r.deepest; runs = more {d = run l c} is r.runs; low = omega (arith, low, r.low) }

  -- a block with the runs that it asks for before others
  asking : (l : ℕ) (c : Around) (fs ds : List Due) (b : Block) (bs : List Block) → c.depth < most_constructs
      → ((n : ℕ) (bs : List Block) → AreRuns first fs n bs → IsRun first l c (max (c.depth + 1) n) (b ∷ bs)) → Runs (fs ++ ds) bs → Runs (run l c ∷ ds) (b ∷ bs)
  asking l c fs ds b bs low is r =
      let u = cut fs ds bs r in
      subst (λ z. Runs (run l c ∷ ds) (b ∷ z)) (sym u.is) (record {
        deepest = max (max (c.depth + 1) u.fronts.deepest) u.rests.deepest;
        runs = more {d = run l c} (is u.fronts.deepest u.front u.fronts.runs) u.rests.runs;
        low = omega (arith, low, u.fronts.low, u.rests.low);
      })

  -- a run that goes on with the next block
  leading : (l t : ℕ) (c : Around) (ds : List Due) (b : Block) (bs : List Block) → c.depth ≤ most_constructs
      → ((n : ℕ) (bs : List Block) → IsRun first t c n bs → IsRun first l c (max c.depth n) (b ∷ bs)) → Runs (run t c ∷ ds) bs → Runs (run l c ∷ ds) (b ∷ bs)
  leading l t c ds b bs low is r = by_runs r.deepest bs r.low r.runs
    where
      by_runs : (n : ℕ) (bs : List Block) → n ≤ most_constructs → AreRuns first (run t c ∷ ds) n bs → Runs (run l c ∷ ds) (b ∷ bs)
      by_runs _ _ below (more {n = n} {k = k} {xs = xs} {ys = ys} r rs) =
          record { deepest = max (max c.depth n) k; runs = more {d = run l c} (is n xs r) rs; low = omega (arith, low, below) }

arms_onto : (c : Around) (n t u : ℕ) (ds : List Due) → may_fork c n t u ≡ true → arm c n t (arm c n u (run n c ∷ ds)) ≡ arm c n t (arm c n u (run n c ∷ [])) ++ ds
arms_onto c n t u ds h =
    let whole : Option (List Due) = Some (arm c n t (arm c n u (run n c ∷ ds))) in
    let alone : Option (List Due) = Some (arm c n t (arm c n u (run n c ∷ []))) in
    let same : whole ≡ onto ds alone =
    ap (λ b. cond b whole None) (sym h) ∙ asks_onto [] 0 0 c (Selection n) (Conditional t u) ds ∙ ap (λ b. onto ds (cond b alone None)) h in
    cc

-- The walk ----------------------------------------------------------------------------------------------------------

module _ (m : Module) (rank : ℕ → ℕ) (f : Frame) (tail : Code) (ended : (l : ℕ) (met : Merge) → blocks_from tail l met ≡ []) where
  -- the blocks of code that stands somewhere
  abbrev Are : Code → At → Type 0
  Are code (In l c given ds) = c.depth ≤ most_constructs → Low ds → Runs f.first (run l c ∷ ds) (blocks_from (code ++ tail) l Nothing)
  Are code (Behind ds) = (l : ℕ) (met : Merge) → Low ds → Runs f.first ds (blocks_from (code ++ tail) l met)

  -- from what is behind an instruction to what is before it
  before_one : (i : Instr) (code : Code) (l : ℕ) (met : Merge) (r : Role) (ds : List Due) → role_at i.op i.args ≡ r → Runs f.first ds (with_role r l met (blocks_from code)) → Runs f.first ds (blocks_from (i ∷ code) l met)
  unfolding blocks_from
  before_one i code l met r ds e is = subst (λ r. Runs f.first ds (with_role r l met (blocks_from code))) (sym e) is

  pub are_runs : (code : Code) (at : At) → Fits m rank f code at → Are code at
  are_runs _ _ Fits.over = λ l met low. subst (Runs f.first []) (sym (ended l met)) (record { deepest = 0; runs = done; low = omega arith })
  are_runs _ _ (Fits.opens {i} {code} {l} {c} {ds} role on) = λ l0 met low.
      before_one i (code ++ tail) l0 met (Opens l) (run l c ∷ ds) role (are_runs code (In l c [] ds) on low.0 low.1)
  are_runs _ _ (Fits.goes {i} {code} {l} {c} {given} {ds} work sits on) = λ deep low.
      before_one i (code ++ tail) l Nothing Inside (run l c ∷ ds) (works_inside (read i) work) (are_runs code _ on deep low)
  are_runs _ _ (Fits.ends {i} {code} {l} {c} {given} {ds} t role may sits on) = λ deep low.
      before_one i (code ++ tail) l Nothing (Ends (Branch t)) (run l c ∷ ds) role (alone f.first l c ds (block l Nothing (Branch t)) _ deep (order.ends t may) (are_runs code (Behind ds) on l Nothing low))
  are_runs _ _ (Fits.leads {i} {code} {l} {c} {given} {ds} t role may sits on) = λ deep low.
      before_one i (code ++ tail) l Nothing (Ends (Branch t)) (run l c ∷ ds) role
      (leading f.first l t c ds (block l Nothing (Branch t)) _ deep (λ n bs r. order.goes t may r) (are_runs code (Behind (run t c ∷ ds)) on l Nothing (deep, low)))
  are_runs _ _ (Fits.turns {i} {code} {l} {c} {given} {ds} t u role may sits on) = λ deep low.
      before_one i (code ++ tail) l Nothing (Ends (Conditional t u)) (run l c ∷ ds) role (alone f.first l c ds (block l Nothing (Conditional t u)) _ deep (order.turns t u may) (are_runs code (Behind ds) on l Nothing low))
  are_runs _ _ (Fits.leaves {i} {code} {l} {c} {given} {ds} role may sits on) = λ deep low.
      before_one i (code ++ tail) l Nothing (Ends Leave) (run l c ∷ ds) role (alone f.first l c ds (block l Nothing Leave) _ deep (order.leaves may) (are_runs code (Behind ds) on l Nothing low))
  are_runs _ _ (Fits.selects {i} {j} {code} {l} {c} {given} {ds} n t u merge role may below sits sits' on) = λ deep low.
      before_one i (j ∷ (code ++ tail)) l Nothing (Merges (Selection n)) (run l c ∷ ds) merge
      (before_one j (code ++ tail) l (Selection n) (Ends (Conditional t u)) (run l c ∷ ds) role
      (asking f.first l c (arm c n t (arm c n u (run n c ∷ []))) ds (block l (Selection n) (Conditional t u)) _ below (λ k bs r. order.selects n t u may r)
      (subst (λ z. Runs f.first z (blocks_from (code ++ tail) l (Selection n))) (arms_onto c n t u ds may)
      (are_runs code _ on l (Selection n) (low_arm c n t _ below (low_arm c n u _ below (deep, low)))))))
  are_runs _ _ (Fits.chooses {i} {j} {code} {l} {c} {given} {ds} n default targets arms merge role differ named below sits sits' on) = λ deep low.
      before_one i (j ∷ (code ++ tail)) l Nothing (Merges (Selection n)) (run l c ∷ ds) merge
      (before_one j (code ++ tail) l (Selection n) (Ends (Switch default targets)) (run l c ∷ ds) role
      (asking f.first l c (cases c n n arms (run n c ∷ [])) ds (block l (Selection n) (Switch default targets)) _ below (λ k bs r. order.chooses n default targets arms differ named r)
      (subst (λ z. Runs f.first z (blocks_from (code ++ tail) l (Selection n))) (cases_onto c n n arms (run n c ∷ []) ds)
      (are_runs code _ on l (Selection n) (low_cases c n n arms _ below (deep, low))))))
  are_runs _ _ (Fits.loops {i} {j} {code} {l} {c} {given} {ds} n k b merge role new below sits sits' on) = λ deep low.
      before_one i (j ∷ (code ++ tail)) l Nothing (Merges (Loop n k)) (run l c ∷ ds) merge
      (before_one j (code ++ tail) l (Loop n k) (Ends (Branch b)) (run l c ∷ ds) role
      (asking f.first l c (parts_of_loop c l n k b []) ds (block l (Loop n k) (Branch b)) _ below (λ d bs r. order.loops n k b new r)
      (are_runs code _ on l (Loop n k) (omega (arith, below), (omega (arith, below), (deep, low))))))
