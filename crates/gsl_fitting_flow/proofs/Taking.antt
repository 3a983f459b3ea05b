-- How many holders parts of lowering take.
use Rattle.std.proofs.Common.{◌≡◌, ℕ, ◌+◌, Bool, true, false, List, [], ◌∷◌, Option, Some, None, subst, arith}
use Rattle.std.specs.Prelude.{slice_get}
use Rattle.gsl_instr.specs.declared.op.TheConstants as op
use Rattle.gsl_types.specs.declared.ty.Ty.{Ty}
use Rattle.gsl_tree.specs.Shapes.{Shape, shape_of}
use Rattle.gsl_tree.specs.declared.expr.LogicOp.{LogicOp}
use Rattle.gsl_spv.specs.Calls.{take}
use Rattle.gsl_lower_values.specs.Building.{Built, Made, Full, giving, id_by, putting}
use Rattle.gsl_lower_values.specs.Types as types
use Rattle.gsl_lower_holders.specs.Flow.{Emit, Flow, Lowered, Gives, Lacks, behind, built_in, find_type, fresh, given as give, id_at, opening, putting_here, type_by, type_id}
use Rattle.gsl_lower_holders.specs.Waiting.{fetch, hold, holder, holder_at, keep, take_back}
use Rattle.gsl_lower_holders.specs.Ways.{begin_choice, begin_short, choosing, fork, join, leaving, other_way, targets}
use Rattle.gsl_lower_holders.specs.declared.blocks.Fork.{Fork}
use Rattle.gsl_fitting_flow.specs.Flowing.{EmitTakes, taken_if}

-- ---- in a row

pub takes_on : {B : Type 0} (n k : ℕ) (a b : Flow) → b.place.used ≡ a.place.used + n → (lowered : Lowered B) → EmitTakes k b lowered → EmitTakes (n + k) a lowered
takes_on n k a b first (Gives x c) more = omega (arith, first, more)
takes_on n k a b first Lacks more = tt

pub takes_then : {A B : Type 0} (n k : ℕ) (before : Flow) (first : Lowered A) (next : A → Emit B) → EmitTakes n before first → ((a : A) (s : Flow) → EmitTakes k s (next a s)) → EmitTakes (n + k) before (behind first next)
takes_then n k before (Gives a s) next takes more = takes_on n k before s takes (next a s) (more a s)
takes_then n k before Lacks next takes more = tt

-- a step of the builder leaves the place as it is
pub built_takes : {A : Type 0} (s : Flow) (built : Built A) → EmitTakes 0 s (built_in s.place built)
built_takes s (Made a sections) = omega arith
built_takes s Full = tt

given_takes : {A : Type 0} (a : A) (s : Flow) → EmitTakes 0 s (give a s)
given_takes a s = omega arith

put_takes : (code : ℕ) (operands : List ℕ) (s : Flow) → EmitTakes 0 s (putting_here code operands s)
put_takes code operands s = built_takes s (putting code operands s.sections)

fresh_takes : (s : Flow) → EmitTakes 0 s (fresh s)
fresh_takes s = built_takes s (id_by take s.sections)

-- ---- values that wait

holder_takes : (s : Flow) → EmitTakes 1 s (holder s)
unfolding holder
holder_takes s = by (slice_get s.place.holders s.place.used)
  where
    by : (o : Option ℕ) → EmitTakes 1 s (holder_at o s)
    by (Some id) = omega arith
    by None = tt

keep_takes : (value : ℕ) (s : Flow) → EmitTakes 1 s (keep value s)
unfolding keep
keep_takes value s =
    takes_then 1 0 s (holder s) (λ h t. behind (putting_here op.STORE (h ∷ value ∷ []) t) (λ done. give h)) (holder_takes s)
    (λ h t. takes_then 0 0 t (putting_here op.STORE (h ∷ value ∷ []) t) (λ done. give h) (put_takes op.STORE (h ∷ value ∷ []) t) (λ done u. given_takes h u))

back_takes : (h type : ℕ) (s : Flow) → EmitTakes 0 s (take_back h type s)
back_takes h type s = built_takes s (giving op.LOAD (h ∷ []) type s.sections)

type_takes : (t : Ty) (s : Flow) → EmitTakes 0 s (type_id t s)
unfolding type_id
type_takes t s = by (shape_of t)
  where
    found : (o : Option ℕ) → EmitTakes 0 s (id_at o s)
    found (Some id) = given_takes id s
    found None = tt

    by : (o : Option Shape) → EmitTakes 0 s (type_by t o s)
    by None = found (find_type t s.place.composites)
    by (Some shape) = built_takes s (types.type_of shape s.sections)

pub hold_takes : (b : Bool) (value : ℕ) (s : Flow) → EmitTakes (taken_if b) s (hold b value s)
unfolding hold
hold_takes false value s = given_takes value s
hold_takes true value s = keep_takes value s

pub fetch_takes : (b : Bool) (t : Ty) (kept : ℕ) (s : Flow) → EmitTakes 0 s (fetch b t kept s)
unfolding fetch
fetch_takes false t kept s = given_takes kept s
fetch_takes true t kept s = takes_then 0 0 s (type_id t s) (take_back kept) (type_takes t s) (λ type u. back_takes kept type u)

-- ---- blocks

opening_takes : (label : ℕ) (s : Flow) → EmitTakes 0 s (opening label s)
unfolding opening
opening_takes label s =
    takes_then 0 0 s (putting_here op.LABEL (label ∷ []) s) (λ done flow. Gives (tt {0}) (record flow { place = record flow.place { label = label } })) (put_takes op.LABEL (label ∷ []) s) (λ done u. omega arith)

choosing_takes : (end : ℕ) (operands : List ℕ) (first : ℕ) (s : Flow) → EmitTakes 0 s (choosing end operands first s)
choosing_takes end operands first s =
    takes_then 0 0 s (putting_here op.SELECTION_MERGE (end ∷ 0 ∷ []) s) (λ done u. behind (putting_here op.BRANCH_CONDITIONAL operands u) (λ done. opening first)) (put_takes op.SELECTION_MERGE (end ∷ 0 ∷ []) s)
    (λ done u. takes_then 0 0 u (putting_here op.BRANCH_CONDITIONAL operands u) (λ done. opening first) (put_takes op.BRANCH_CONDITIONAL operands u) (λ done v. opening_takes first v))

leaving_takes : (f : Fork) (value next : ℕ) (s : Flow) → EmitTakes 0 s (leaving f value next s)
leaving_takes f value next s =
    takes_then 0 0 s (putting_here op.STORE (f.holder ∷ value ∷ []) s) (λ done u. behind (putting_here op.BRANCH (f.end ∷ []) u) (λ done. opening next)) (put_takes op.STORE (f.holder ∷ value ∷ []) s)
    (λ done u. takes_then 0 0 u (putting_here op.BRANCH (f.end ∷ []) u) (λ done. opening next) (put_takes op.BRANCH (f.end ∷ []) u) (λ done v. opening_takes next v))

join_takes : (t : Ty) (f : Fork) (value : ℕ) (s : Flow) → EmitTakes 0 s (join t f value s)
unfolding join
join_takes t f value s =
    takes_then 0 0 s (leaving f value f.end s) (λ done u. behind (type_id t u) (take_back f.holder)) (leaving_takes f value f.end s)
    (λ done u. takes_then 0 0 u (type_id t u) (take_back f.holder) (type_takes t u) (λ type v. back_takes f.holder type v))

other_takes : (f : Fork) (value : ℕ) (s : Flow) → EmitTakes 0 s (other_way f value s)
unfolding other_way
other_takes f value s = leaving_takes f value f.other s

-- an id, and what it is taken for
with_fresh : {A : Type 0} (s : Flow) (next : ℕ → Emit A) → ((id : ℕ) (u : Flow) → EmitTakes 0 u (next id u)) → EmitTakes 0 s (behind (fresh s) next)
with_fresh s next more = takes_then 0 0 s (fresh s) next (fresh_takes s) more

short_takes : (which : LogicOp) (x : ℕ) (s : Flow) → EmitTakes 1 s (begin_short which x s)
unfolding begin_short
short_takes which x s =
    takes_then 1 0 s (keep x s) (λ h t. behind (fresh t) (λ right u. behind (fresh u) (λ end v. behind (choosing end (targets which x right end) right v) (λ done. give (fork h right end))))) (keep_takes x s)
    (λ h t. with_fresh t (λ right u. behind (fresh u) (λ end v. behind (choosing end (targets which x right end) right v) (λ done. give (fork h right end))))
    (λ right u. with_fresh u (λ end v. behind (choosing end (targets which x right end) right v) (λ done. give (fork h right end)))
    (λ end v. takes_then 0 0 v (choosing end (targets which x right end) right v) (λ done. give (fork h right end)) (choosing_takes end (targets which x right end) right v) (λ done w. given_takes (fork h right end) w))))

choice_takes : (x : ℕ) (s : Flow) → EmitTakes 1 s (begin_choice x s)
unfolding begin_choice
choice_takes x s =
    takes_then 1 0 s (holder s) (λ h t. behind (fresh t) (λ yes u. behind (fresh u) (λ no_ v. behind (fresh v) (λ end w. behind (choosing end (x ∷ yes ∷ no_ ∷ []) yes w) (λ done. give (fork h no_ end)))))) (holder_takes s)
    (λ h t. with_fresh t (λ yes u. behind (fresh u) (λ no_ v. behind (fresh v) (λ end w. behind (choosing end (x ∷ yes ∷ no_ ∷ []) yes w) (λ done. give (fork h no_ end)))))
    (λ yes u. with_fresh u (λ no_ v. behind (fresh v) (λ end w. behind (choosing end (x ∷ yes ∷ no_ ∷ []) yes w) (λ done. give (fork h no_ end))))
    (λ no_ v. with_fresh v (λ end w. behind (choosing end (x ∷ yes ∷ no_ ∷ []) yes w) (λ done. give (fork h no_ end)))
    (λ end w. takes_then 0 0 w (choosing end (x ∷ yes ∷ no_ ∷ []) yes w) (λ done. give (fork h no_ end)) (choosing_takes end (x ∷ yes ∷ no_ ∷ []) yes w) (λ done y. given_takes (fork h no_ end) y)))))

-- ---- so many as stands there

as_many : {A : Type 0} (n k : ℕ) (s : Flow) (lowered : Lowered A) → n ≡ k → EmitTakes n s lowered → EmitTakes k s lowered
as_many n k s lowered same takes = subst (λ i. EmitTakes i s lowered) same takes

pub right_takes : (which : LogicOp) (t : Ty) (second : Emit ℕ) (n k : ℕ) (s : Flow) (first : Lowered ℕ) → EmitTakes n s first → ((u : Flow) → EmitTakes k u (second u)) → EmitTakes (n + (1 + k)) s (behind (behind first (begin_short which)) (λ f u. behind (second u) (join t f)))
right_takes which t second n k s first takes more =
    as_many ((n + 1) + (k + 0)) (n + (1 + k)) s _ (omega arith)
    (takes_then (n + 1) (k + 0) s (behind first (begin_short which)) (λ f u. behind (second u) (join t f)) (takes_then n 1 s first (begin_short which) takes (λ x u. short_takes which x u))
    (λ f u. takes_then k 0 u (second u) (join t f) (more u) (λ v w. join_takes t f v w)))

pub either_takes : (t : Ty) (a b : Emit ℕ) (n j k : ℕ) (s : Flow) (test : Lowered ℕ) → EmitTakes n s test → ((u : Flow) → EmitTakes j u (a u)) → ((u : Flow) → EmitTakes k u (b u)) → EmitTakes (n + (1 + (j + k))) s (behind (behind test begin_choice) (λ f u. behind (behind (a u) (other_way f)) (λ done v. behind (b v) (join t f))))
either_takes t a b n j k s test takes one two =
    as_many ((n + 1) + ((j + 0) + (k + 0))) (n + (1 + (j + k))) s _ (omega arith)
    (takes_then (n + 1) ((j + 0) + (k + 0)) s (behind test begin_choice) (λ f u. behind (behind (a u) (other_way f)) (λ done v. behind (b v) (join t f))) (takes_then n 1 s test begin_choice takes (λ x u. choice_takes x u))
    (λ f u. takes_then (j + 0) (k + 0) u (behind (a u) (other_way f)) (λ done v. behind (b v) (join t f)) (takes_then j 0 u (a u) (other_way f) (one u) (λ v w. other_takes f v w))
    (λ done v. takes_then k 0 v (b v) (join t f) (two v) (λ x w. join_takes t f x w))))
