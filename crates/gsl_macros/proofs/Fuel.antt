-- A replacement takes from the count more than it puts, so the moves come to an end, and how many are allowed does not matter.
use Rattle.std.proofs.Common.{◌≡◌, ℕ, zero, suc, ◌+◌, ◌-◌, ◌<◌, ◌≤◌, Bool, true, false, List, [], ◌∷◌, ◌++◌, length, Option, Some, None, Ok, Err, ◌==◌, if◌then◌else◌, nat_lt, refl, ap, ◌∙◌, subst, arith, length-append}
use Rattle.std.proofs.lemmas.Bool.{ltb-true}
use Rattle.gsl_base.specs.Checked.{Checked, ◌>>=◌}
use Rattle.gsl_base.specs.declared.fault.Code.TheVariants.{E0901}
use Rattle.gsl_base.specs.declared.fault.Fault.{Fault}
use Rattle.gsl_base.specs.declared.fault.Place.{Place}
use Rattle.gsl_base.specs.declared.token.RawKind.{RawKind}
use Rattle.gsl_macros.specs.declared.spelled.Mark.{Mark}
use Rattle.gsl_macros.specs.declared.spelled.Mark.TheVariants.{Opens, Closes, Parts, Stands}
use Rattle.gsl_macros.specs.declared.stream.Hid.{Hid}
use Rattle.gsl_macros.specs.declared.table.Macro.{Macro}
use Rattle.gsl_macros.specs.declared.table.Macro.TheVariants.{Line, File, Number, Object, Function}
use Rattle.gsl_macros.specs.declared.table.Macros.{Macros}
use Rattle.gsl_macros.specs.Hiding.{shared}
use Rattle.gsl_macros.specs.Spelling.{number, mark_of}
use Rattle.gsl_macros.specs.Tables.{line_shown}
use Rattle.gsl_macros.specs.Expanding.{Seen, Numbered, Parted, Step, Expander, Trace, at, taken, parted, within, ends_one, split_on, split, arguments, fits, filled, put, each, called, object, replaced_by, replaced, ended, faulted, give, after, move_by, move, moves, whole, expander, traced, use_of}

pub by_bool : (P : Bool → Type 0) (b : Bool) → (b ≡ true → P true) → (b ≡ false → P false) → P b
by_bool P true f g = f refl
by_bool P false f g = g refl

-- what is left of the count is not more than this
abbrev pub Keeps : {A : Type 0} → ℕ → Checked (A × ℕ) → Type 0
Keeps n (Ok r) = r.1 ≤ n
Keeps n (Err fault) = Unit {0}

-- what is left, with the tokens still to be looked at, is less than the one, and by itself less than the other
abbrev pub Shrinks : ℕ → ℕ → Checked Step → Type 0
Shrinks n b (Ok r) = (r.1 + length r.0 < n) × (r.1 < b)
Shrinks n b (Err fault) = Unit {0}

-- an expander gives nothing back
pub record Frugal (expand : Expander) : Type 0 where
  pub keeps : (place : Place) (tokens : Seen) (left : ℕ) → Keeps left (expand place tokens left)

-- ---- the count

-- no more is left than before
abbrev pub KeepsEnd : ℕ → Checked ℕ → Type 0
KeepsEnd n (Ok left) = left ≤ n
KeepsEnd n (Err fault) = Unit {0}

taken_keeps : (t : Hid) (left : ℕ) → KeepsEnd left (taken t left)
taken_keeps t left =
    by_bool (λ b. KeepsEnd left (if b then (if nat_lt 0 left then Ok (left - 1) else Err (at t.place E0901)) else Ok left)) t.fresh
    (λ e. by_bool (λ b. KeepsEnd left (if b then Ok (left - 1) else Err (at t.place E0901))) (nat_lt 0 left) (λ q. omega arith) (λ q. tt))
    (λ e. omega arith)

-- ---- one replacement

-- what stands behind the closing parenthesis is shorter than what stood behind the other, and no more is left
abbrev Shorter : ℕ → ℕ → Parted → Type 0
Shorter n left (Ok None) = Unit {0}
Shorter n left (Ok (Some s)) = (length s.rest < n) × (s.left ≤ left)
Shorter n left (Err fault) = Unit {0}

shorter_within : (n left : ℕ) (t : Hid) (later : Parted) → Shorter n left later → Shorter (suc n) left (parted (within t) later)
shorter_within n left t (Ok None) h = tt
shorter_within n left t (Ok (Some s)) h = (omega (arith, h.0), h.1)
shorter_within n left t (Err fault) h = tt

shorter_one : (n left : ℕ) (later : Parted) → Shorter n left later → Shorter (suc n) left (parted ends_one later)
shorter_one n left (Ok None) h = tt
shorter_one n left (Ok (Some s)) h = (omega (arith, h.0), h.1)
shorter_one n left (Err fault) h = tt

either : {A : Type 0} (P : A → Type 0) (b : Bool) (x y : A) → P x → P y → P (if b then x else y)
either P true x y p q = p
either P false x y p q = q

shorter_on : (later : ℕ → Parted) (t : Hid) (rest : Seen) (inner left : ℕ) (mark : Mark) → ((i : ℕ) → Shorter (length rest) left (later i)) → Shorter (suc (length rest)) left (split_on later t rest inner left mark)
shorter_on later t rest inner left Opens h = shorter_within (length rest) left t (later (inner + 1)) (h (inner + 1))
shorter_on later t rest inner left Closes h =
    either (Shorter (suc (length rest)) left) (inner == 0) _ _ (omega arith, omega arith) (shorter_within (length rest) left t (later (inner - 1)) (h (inner - 1)))
shorter_on later t rest inner left Parts h =
    either (Shorter (suc (length rest)) left) (inner == 0) _ _ (shorter_one (length rest) left (later inner) (h inner)) (shorter_within (length rest) left t (later inner) (h inner))
shorter_on later t rest inner left Stands h = shorter_within (length rest) left t (later inner) (h inner)

-- the same where more was left before
shorter_less : (n m left : ℕ) (x : Parted) → m ≤ left → Shorter n m x → Shorter n left x
shorter_less n m left (Ok None) h s = tt
shorter_less n m left (Ok (Some p)) h s = (s.0, omega (arith, s.1))
shorter_less n m left (Err fault) h s = tt

after_taken : (n left : ℕ) (x : Checked ℕ) (f : ℕ → Parted) → KeepsEnd left x → ((now : ℕ) → Shorter n now (f now)) → Shorter n left (x >>= f)
after_taken n left (Ok now) f h k = shorter_less n now left (f now) h (k now)
after_taken n left (Err fault) f h k = tt

shorter : (tokens : Seen) (inner left : ℕ) → Shorter (length tokens) left (split tokens inner left)
unfolding split
shorter [] inner left = tt
shorter (t ∷ rest) inner left =
    after_taken _ left (taken t left) _ (taken_keeps t left) (λ now. shorter_on (λ inner. split rest inner now) t rest inner now (mark_of t.spelled) (λ i. shorter rest i now))

one_more : (n left : ℕ) (x : Parted) → Shorter n left x → Shorter (suc n) left x
one_more n left (Ok None) h = tt
one_more n left (Ok (Some s)) h = (omega (arith, h.0), h.1)
one_more n left (Err fault) h = tt

shorter_arguments : (tokens : Seen) (left : ℕ) → Shorter (length tokens) left (arguments tokens left)
shorter_arguments [] left = tt
shorter_arguments (t ∷ rest) left =
    after_taken _ left (taken t left) _ (taken_keeps t left) (λ now. one_more (length rest) now (split rest 0 now) (shorter rest 0 now))

put_shrinks : (n m : ℕ) (place : Place) (tokens rest : Seen) (left : ℕ) → left + length rest ≤ n → left ≤ m → Shrinks n m (put place tokens rest left)
put_shrinks n m place tokens rest left h q =
    by_bool (λ b. Shrinks n m (if b then Ok (tokens ++ rest, left - (length tokens + 1)) else Err (at place E0901))) (nat_lt (length tokens) left)
    (λ e. let k : length tokens < left = ltb-true _ _ e in (omega (arith, length-append tokens rest), omega arith)) (λ e. tt)

-- goes on with what keeps a count
bind_shrinks : {A : Type 0} (n m left : ℕ) (x : Checked (A × ℕ)) (f : A × ℕ → Checked Step) → Keeps left x → ((r : A × ℕ) → r.1 ≤ left → Shrinks n m (f r)) → Shrinks n m (x >>= f)
bind_shrinks n m left (Ok r) f h g = g r h
bind_shrinks n m left (Err fault) f h g = tt

bind_keeps : {A B : Type 0} (left : ℕ) (x : Checked (A × ℕ)) (f : A × ℕ → Checked (B × ℕ)) → Keeps left x → ((r : A × ℕ) → r.1 ≤ left → Keeps left (f r)) → Keeps left (x >>= f)
bind_keeps left (Ok r) f h g = g r h
bind_keeps left (Err fault) f h g = tt

keeps_less : {A : Type 0} (m n : ℕ) (x : Checked (A × ℕ)) → m ≤ n → Keeps m x → Keeps n x
keeps_less m n (Ok r) h k = omega arith
keeps_less m n (Err fault) h k = tt

each_keeps : (expand : Expander) → Frugal expand → (place : Place) (args : List Seen) (left : ℕ) → Keeps left (each expand place args left)
unfolding each
each_keeps expand frugal place [] left = omega arith
each_keeps expand frugal place (a ∷ args) left =
    bind_keeps left (expand place a left) _ (frugal.keeps place a left)
    (λ first h. bind_keeps left (each expand place args first.1) _ (keeps_less first.1 left (each expand place args first.1) h (each_keeps expand frugal place args first.1)) (λ others k. k))

called_shrinks : (expand : Expander) → Frugal expand → (n : ℕ) (t : Hid) (number : ℕ) (params : List (List ℕ)) (body : List RawKind) (left behind : ℕ) (s : Parted) → Shorter behind left s → left + behind ≤ n →
    Shrinks n left (called expand t number params body s)
called_shrinks expand frugal n t number params body left behind (Ok None) h k = tt
called_shrinks expand frugal n t number params body left behind (Ok (Some s)) h k =
    let a : length s.rest < behind = h.0 in
    let b : s.left ≤ left = h.1 in
    either (Shrinks n left) (fits params (s.first ∷ s.others)) _ _
    (bind_shrinks n left s.left (each expand t.place (s.first ∷ s.others) s.left) _ (each_keeps expand frugal t.place (s.first ∷ s.others) s.left)
    (λ r q. put_shrinks n left t.place (filled params r.0 t.place (number ∷ shared t.hides s.hides) body) s.rest r.1 (omega arith) (omega arith)))
    tt
called_shrinks expand frugal n t number params body left behind (Err fault) h k = tt

object_shrinks : (t : Hid) (n : ℕ) (body : List RawKind) (rest : Seen) (left : ℕ) → Shrinks (left + suc (length rest)) left (object t n body rest left)
object_shrinks t n body rest left = put_shrinks _ left t.place (filled [] [] t.place (n ∷ t.hides) body) rest left (omega arith) (omega arith)

by_macro_shrinks : (expand : Expander) → Frugal expand → (macros : Macros) (t : Hid) (n : ℕ) (rest : Seen) (left : ℕ) (m : Macro) → Shrinks (left + suc (length rest)) left (replaced_by expand macros t n rest left m)
by_macro_shrinks expand frugal macros t n rest left Line = object_shrinks t n (number (line_shown macros.shift t.place.line) ∷ []) rest left
by_macro_shrinks expand frugal macros t n rest left File = object_shrinks t n (number macros.shift.file ∷ []) rest left
by_macro_shrinks expand frugal macros t n rest left (Number value) = object_shrinks t n (number value ∷ []) rest left
by_macro_shrinks expand frugal macros t n rest left (Object body) = object_shrinks t n body rest left
by_macro_shrinks expand frugal macros t n rest left (Function params body) =
    called_shrinks expand frugal _ t n params body left (length rest) (arguments rest left) (shorter_arguments rest left) (omega arith)

pub replaced_shrinks : (expand : Expander) → Frugal expand → (macros : Macros) (t : Hid) (m : Numbered) (rest : Seen) (left : ℕ) → Shrinks (left + suc (length rest)) left (replaced expand macros t m rest left)
unfolding replaced
replaced_shrinks expand frugal macros t m rest left = by_macro_shrinks expand frugal macros t m.0 rest left m.1

-- ---- moves

-- two ways to go on that are the same wherever less is left
abbrev Alike : ℕ → (Seen → ℕ → Trace) → (Seen → ℕ → Trace) → Type 0
Alike n f g = (tokens : Seen) (left : ℕ) → left + length tokens < n → f tokens left ≡ g tokens left

after_alike : (n : ℕ) (f g : Seen → ℕ → Trace) (m : ℕ) (x : Checked Step) → Shrinks n m x → Alike n f g → after (λ (s : Step). f s.0 s.1) x ≡ after (λ (s : Step). g s.0 s.1) x
after_alike n f g m (Ok r) h alike = alike r.0 r.1 h.0
after_alike n f g m (Err fault) h alike = refl

by_alike : (expand : Expander) → Frugal expand → (macros : Macros) (f g : Seen → ℕ → Trace) (t : Hid) (rest : Seen) (left : ℕ) (found : Option Numbered) → Alike (left + suc (length rest)) f g →
    move_by f expand macros t rest left found ≡ move_by g expand macros t rest left found
by_alike expand frugal macros f g t rest left None alike = ap (give t) (alike rest left (omega arith))
by_alike expand frugal macros f g t rest left (Some m) alike = after_alike _ f g left (replaced expand macros t m rest left) (replaced_shrinks expand frugal macros t m rest left) alike

less_alike : (n m : ℕ) (f g : Seen → ℕ → Trace) → m ≤ n → Alike n f g → Alike m f g
less_alike n m f g h alike tokens left k = alike tokens left (omega arith)

on_alike : (expand : Expander) → Frugal expand → (macros : Macros) (f g : Seen → ℕ → Trace) (t : Hid) (rest : Seen) (left : ℕ) (x : Checked ℕ) → KeepsEnd left x → Alike (left + suc (length rest)) f g →
    after (λ now. move_by f expand macros t rest now (use_of macros.table t rest)) x ≡ after (λ now. move_by g expand macros t rest now (use_of macros.table t rest)) x
on_alike expand frugal macros f g t rest left (Ok now) h alike =
    by_alike expand frugal macros f g t rest now (use_of macros.table t rest) (less_alike _ _ f g (omega arith) alike)
on_alike expand frugal macros f g t rest left (Err fault) h alike = refl

move_alike : (expand : Expander) → Frugal expand → (macros : Macros) (f g : Seen → ℕ → Trace) (t : Hid) (rest : Seen) (left : ℕ) → Alike (left + suc (length rest)) f g →
    move f expand macros t rest left ≡ move g expand macros t rest left
move_alike expand frugal macros f g t rest left alike = on_alike expand frugal macros f g t rest left (taken t left) (taken_keeps t left) alike

pub enough : (expand : Expander) → Frugal expand → (macros : Macros) (n k : ℕ) (tokens : Seen) (left : ℕ) → left + length tokens ≤ n → left + length tokens ≤ k → moves expand macros n tokens left ≡ moves expand macros k tokens left
unfolding moves
enough expand frugal macros zero zero tokens left h q = refl
enough expand frugal macros zero (suc k) [] left h q = refl
enough expand frugal macros zero (suc k) (t ∷ rest) left h q = absurd (omega arith)
enough expand frugal macros (suc n) zero [] left h q = refl
enough expand frugal macros (suc n) zero (t ∷ rest) left h q = absurd (omega arith)
enough expand frugal macros (suc n) (suc k) [] left h q = refl
enough expand frugal macros (suc n) (suc k) (t ∷ rest) left h q =
    move_alike expand frugal macros (moves expand macros n) (moves expand macros k) t rest left
    (λ tokens now less. enough expand frugal macros n k tokens now (omega arith) (omega arith))

-- ---- an expander is frugal

ends_less : (m n : ℕ) (x : Checked ℕ) → m ≤ n → KeepsEnd m x → KeepsEnd n x
ends_less m n (Ok left) h k = omega arith
ends_less m n (Err fault) h k = tt

-- however it goes on, it gives nothing back
abbrev Keeping : (Seen → ℕ → Trace) → Type 0
Keeping f = (tokens : Seen) (left : ℕ) → KeepsEnd left (f tokens left).ends

after_keeps : (n m : ℕ) (f : Seen → ℕ → Trace) (x : Checked Step) → Shrinks n m x → Keeping f → KeepsEnd m (after (λ (s : Step). f s.0 s.1) x).ends
after_keeps n m f (Ok r) h k = ends_less r.1 m (f r.0 r.1).ends (omega (arith, h.1)) (k r.0 r.1)
after_keeps n m f (Err fault) h k = tt

by_keeps : (expand : Expander) → Frugal expand → (macros : Macros) (f : Seen → ℕ → Trace) (t : Hid) (rest : Seen) (left : ℕ) (found : Option Numbered) → Keeping f → KeepsEnd left (move_by f expand macros t rest left found).ends
by_keeps expand frugal macros f t rest left None k = k rest left
by_keeps expand frugal macros f t rest left (Some m) k = after_keeps _ left f (replaced expand macros t m rest left) (replaced_shrinks expand frugal macros t m rest left) k

on_keeps : (left : ℕ) (x : Checked ℕ) (f : ℕ → Trace) → KeepsEnd left x → ((now : ℕ) → KeepsEnd now (f now).ends) → KeepsEnd left (after f x).ends
on_keeps left (Ok now) f h k = ends_less now left (f now).ends h (k now)
on_keeps left (Err fault) f h k = tt

moves_keep : (expand : Expander) → Frugal expand → (macros : Macros) (n : ℕ) (tokens : Seen) (left : ℕ) → KeepsEnd left (moves expand macros n tokens left).ends
unfolding moves
moves_keep expand frugal macros zero tokens left = omega arith
moves_keep expand frugal macros (suc n) [] left = omega arith
moves_keep expand frugal macros (suc n) (t ∷ rest) left =
    on_keeps left (taken t left) _ (taken_keeps t left) (λ now. by_keeps expand frugal macros (moves expand macros n) t rest now (use_of macros.table t rest) (moves_keep expand frugal macros n))

whole_keeps : (n : ℕ) (given : Seen) (ends : Checked ℕ) → KeepsEnd n ends → Keeps n (whole (record { given = given; ends = ends }))
whole_keeps n given (Ok left) h = h
whole_keeps n given (Err fault) h = tt

expander_keeps : (macros : Macros) (depth : ℕ) (place : Place) (tokens : Seen) (left : ℕ) → Keeps left (expander macros depth place tokens left)
unfolding expander
expander_keeps macros zero place tokens left = tt
expander_keeps macros (suc depth) place tokens left =
    let n = left + length tokens in
    let below = expander macros depth in
    let trace = moves below macros n tokens left in
    whole_keeps left trace.given trace.ends (moves_keep below (record { keeps = expander_keeps macros depth }) macros n tokens left)

pub frugal_at : (macros : Macros) (depth : ℕ) → Frugal (expander macros depth)
frugal_at macros depth = record { keeps = expander_keeps macros depth }

-- ---- what callers need

moves_none : (expand : Expander) (macros : Macros) (n left : ℕ) → moves expand macros n [] left ≡ ended left
unfolding moves
moves_none expand macros zero left = refl
moves_none expand macros (suc n) left = refl

pub traced_none : (macros : Macros) (depth left : ℕ) → traced macros depth [] left ≡ ended left
unfolding traced
traced_none macros depth left = moves_none (expander macros depth) macros (left + 0) left

-- more moves than are needed
traced_more : (macros : Macros) (depth : ℕ) (t : Hid) (rest : Seen) (left : ℕ) →
    traced macros depth (t ∷ rest) left ≡ move (moves (expander macros depth) macros (left + length rest)) (expander macros depth) macros t rest left
unfolding traced moves
traced_more macros depth t rest left =
    enough (expander macros depth) (frugal_at macros depth) macros (left + suc (length rest)) (suc (left + length rest)) (t ∷ rest) left (omega arith) (omega arith)

alike_at : (macros : Macros) (depth n : ℕ) → Alike (suc n) (moves (expander macros depth) macros n) (traced macros depth)
unfolding traced
alike_at macros depth n tokens left h = enough (expander macros depth) (frugal_at macros depth) macros n (left + length tokens) tokens left (omega arith) (omega arith)

-- the first token is counted, and given out or replaced, and all goes on
pub traced_is : (macros : Macros) (depth : ℕ) (t : Hid) (rest : Seen) (left : ℕ) →
    traced macros depth (t ∷ rest) left ≡ move (traced macros depth) (expander macros depth) macros t rest left
traced_is macros depth t rest left =
    traced_more macros depth t rest left
    ∙ move_alike (expander macros depth) (frugal_at macros depth) macros (moves (expander macros depth) macros (left + length rest)) (traced macros depth) t rest left
    (λ tokens now h. alike_at macros depth (left + length rest) tokens now (omega arith))

-- the token is not counted any more
pub traced_uncounted : (macros : Macros) (depth : ℕ) (t : Hid) (rest : Seen) (left : ℕ) (fault : Fault) → taken t left ≡ Err fault → traced macros depth (t ∷ rest) left ≡ faulted fault
traced_uncounted macros depth t rest left fault e =
    traced_is macros depth t rest left ∙ ap (after (λ now. move_by (traced macros depth) (expander macros depth) macros t rest now (use_of macros.table t rest))) e

counted_is : (macros : Macros) (depth : ℕ) (t : Hid) (rest : Seen) (left now : ℕ) → taken t left ≡ Ok now →
    traced macros depth (t ∷ rest) left ≡ move_by (traced macros depth) (expander macros depth) macros t rest now (use_of macros.table t rest)
counted_is macros depth t rest left now e =
    traced_is macros depth t rest left ∙ ap (after (λ now. move_by (traced macros depth) (expander macros depth) macros t rest now (use_of macros.table t rest))) e

pub traced_gives : (macros : Macros) (depth : ℕ) (t : Hid) (rest : Seen) (left now : ℕ) → taken t left ≡ Ok now → use_of macros.table t rest ≡ None → traced macros depth (t ∷ rest) left ≡ give t (traced macros depth rest now)
traced_gives macros depth t rest left now c e = counted_is macros depth t rest left now c ∙ ap (move_by (traced macros depth) (expander macros depth) macros t rest now) e

pub traced_puts : (macros : Macros) (depth : ℕ) (t : Hid) (m : Numbered) (rest tokens : Seen) (left now later : ℕ) → taken t left ≡ Ok now → use_of macros.table t rest ≡ Some m →
    replaced (expander macros depth) macros t m rest now ≡ Ok (tokens, later) → traced macros depth (t ∷ rest) left ≡ traced macros depth tokens later
traced_puts macros depth t m rest tokens left now later c e r =
    counted_is macros depth t rest left now c ∙ ap (move_by (traced macros depth) (expander macros depth) macros t rest now) e ∙ ap (after (λ (s : Step). traced macros depth s.0 s.1)) r

pub traced_faults : (macros : Macros) (depth : ℕ) (t : Hid) (m : Numbered) (rest : Seen) (left now : ℕ) (fault : Fault) → taken t left ≡ Ok now → use_of macros.table t rest ≡ Some m →
    replaced (expander macros depth) macros t m rest now ≡ Err fault → traced macros depth (t ∷ rest) left ≡ faulted fault
traced_faults macros depth t m rest left now fault c e r =
    counted_is macros depth t rest left now c ∙ ap (move_by (traced macros depth) (expander macros depth) macros t rest now) e ∙ ap (after (λ (s : Step). traced macros depth s.0 s.1)) r

-- a token that is counted takes no more than there is
pub counts : (t : Hid) (left now : ℕ) → taken t left ≡ Ok now → now ≤ left
counts t left now e = subst (KeepsEnd left) e (taken_keeps t left)

-- a replacement takes from the count
pub takes : (macros : Macros) (depth : ℕ) (t : Hid) (m : Numbered) (rest tokens : Seen) (left now : ℕ) → replaced (expander macros depth) macros t m rest left ≡ Ok (tokens, now) → (now + length tokens < left + suc (length rest)) × (now < left)
takes macros depth t m rest tokens left now e =
    subst (Shrinks (left + suc (length rest)) left) e (replaced_shrinks (expander macros depth) (frugal_at macros depth) macros t m rest left)

-- arguments are expanded one level deeper
pub expander_is : (macros : Macros) (depth : ℕ) (place : Place) (tokens : Seen) (left : ℕ) → expander macros (suc depth) place tokens left ≡ whole (traced macros depth tokens left)
unfolding expander traced
expander_is macros depth place tokens left = refl
