-- The lines that are read are those of a manifest, or break one.
use Rattle.std.proofs.Common.{◌≡◌, ℕ, suc, ◌+◌, ◌-◌, Bool, true, false, cond, not, List, [], ◌∷◌, ◌++◌, length, take, map, Option, Some, None, refl, ap, sym, subst, ◌∙◌, arith, append-nil, append_assoc, length-append}
use Rattle.std.proofs.lemmas.Bool.{true≢false}
use Rattle.std.proofs.lemmas.List.{take_at}
use Rattle.std.specs.Prelude.{Result, Ok, Err}
use Rattle.gsl_manifest.specs.declared.meaning.Meaning.{Meaning}
use Rattle.gsl_manifest.specs.declared.meaning.Meaning.TheVariants.{Nothing, Buffer, Push, In, Group, Local, Groups, Vertex, Instance, Choice, Steps}
use Rattle.gsl_manifest.specs.declared.manifest.Manifest.{Manifest}
use Rattle.gsl_manifest.specs.declared.manifest.ManifestRefusal.{ManifestRefusal}
use Rattle.gsl_manifest.specs.declared.manifest.ManifestRefusal.TheVariants.{Line, Memory}
use Rattle.gsl_manifest.specs.declared.draft.Draft.{Draft}
use Rattle.gsl_text.specs.Numbers.{◌>>=◌}
use Rattle.gsl_manifest.specs.Meanings.{meaning_of}
use Rattle.gsl_manifest.specs.Manifests.{StandOnce, AreManifest, BreaksAt, Answers, manifest_of, push_in, group_in, local_in, groups_in, vertex_in, instance_in, steps_in}
use Rattle.gsl_manifest.specs.Drafts.{empty, put, put_line, read_all, finished, Reads}
use Rattle.gsl_manifest.proofs.Standing.{Stands, MayStand, with_line, with_more_is, none_stand, none_once, once_more, stands_more, one_back, buffer_back, values_back}

free_some : {A : Type 0} (taken : Bool) (x e : A) → cond taken None (Some x) ≡ Some e → (not taken ≡ true) × (e ≡ x)
free_some true x e p = absurd (cc)
free_some false x e p = (refl, cc)

taken_none : {A : Type 0} (taken : Bool) (x : A) → cond taken None (Some x) ≡ None → not taken ≡ true → ⊥
taken_none true x p free = true≢false (sym free)
taken_none false x p free = absurd (cc)

-- what a line that was taken says
pub put_some : (n : ℕ) (m : Meaning) (d e : Draft) → put n m d ≡ Some e → MayStand n m d × (e ≡ with_line n m d)
put_some n Nothing d e p = (record { buffers = refl; push = refl; values = refl; group = refl; local = refl; groups = refl; vertex = refl; instance = refl; steps = refl }, cc)
put_some n (Buffer set binding path) d e p =
    let f = free_some _ _ e p in
    (record { buffers = f.0; push = refl; values = refl; group = refl; local = refl; groups = refl; vertex = refl; instance = refl; steps = refl }, f.1)
put_some n (Push path) d e p =
    let f = free_some _ _ e p in
    (record { buffers = refl; push = f.0; values = refl; group = refl; local = refl; groups = refl; vertex = refl; instance = refl; steps = refl }, f.1)
put_some n (In location words) d e p =
    let f = free_some _ _ e p in
    (record { buffers = refl; push = refl; values = f.0; group = refl; local = refl; groups = refl; vertex = refl; instance = refl; steps = refl }, f.1)
put_some n (Group ids) d e p =
    let f = free_some _ _ e p in
    (record { buffers = refl; push = refl; values = refl; group = f.0; local = refl; groups = refl; vertex = refl; instance = refl; steps = refl }, f.1)
put_some n (Local ids) d e p =
    let f = free_some _ _ e p in
    (record { buffers = refl; push = refl; values = refl; group = refl; local = f.0; groups = refl; vertex = refl; instance = refl; steps = refl }, f.1)
put_some n (Groups ids) d e p =
    let f = free_some _ _ e p in
    (record { buffers = refl; push = refl; values = refl; group = refl; local = refl; groups = f.0; vertex = refl; instance = refl; steps = refl }, f.1)
put_some n (Vertex id) d e p =
    let f = free_some _ _ e p in
    (record { buffers = refl; push = refl; values = refl; group = refl; local = refl; groups = refl; vertex = f.0; instance = refl; steps = refl }, f.1)
put_some n (Instance id) d e p =
    let f = free_some _ _ e p in
    (record { buffers = refl; push = refl; values = refl; group = refl; local = refl; groups = refl; vertex = refl; instance = f.0; steps = refl }, f.1)
put_some n (Choice words) d e p =
    let q : record d { choices = d.choices ++ words } ≡ e = cc in (
      record { buffers = refl; push = refl; values = refl; group = refl; local = refl; groups = refl; vertex = refl; instance = refl; steps = refl },
      sym q ∙ ap (λ c. record d { choices = c }) (sym (with_more_is d.choices words)),
    )
put_some n (Steps k) d e p =
    let f = free_some _ _ e p in
    (record { buffers = refl; push = refl; values = refl; group = refl; local = refl; groups = refl; vertex = refl; instance = refl; steps = f.0 }, f.1)

-- a line that was refused may not stand there
pub put_none : (n : ℕ) (says : List Meaning) (m : Meaning) (d : Draft) → n ≡ 1 + length says → Stands says d → put n m d ≡ None → StandOnce (says ++ m ∷ []) → ⊥
put_none n says Nothing d is stands p once = absurd (cc)
put_none n says (Buffer set binding path) d is stands p once = taken_none _ _ p (buffer_back n says _ d is stands _ refl once.buffers)
put_none n says (Push path) d is stands p once = taken_none _ _ p (one_back n says _ d is stands push_in d.push _ refl stands.push once.push)
put_none n says (In location words) d is stands p once = taken_none _ _ p (values_back n says _ d is stands _ refl once.values)
put_none n says (Group ids) d is stands p once = taken_none _ _ p (one_back n says _ d is stands group_in d.group _ refl stands.group once.group)
put_none n says (Local ids) d is stands p once = taken_none _ _ p (one_back n says _ d is stands local_in d.local _ refl stands.local once.local)
put_none n says (Groups ids) d is stands p once = taken_none _ _ p (one_back n says _ d is stands groups_in d.groups _ refl stands.groups once.groups)
put_none n says (Vertex id) d is stands p once = taken_none _ _ p (one_back n says _ d is stands vertex_in d.vertex _ refl stands.vertex once.vertex)
put_none n says (Instance id) d is stands p once = taken_none _ _ p (one_back n says _ d is stands instance_in d.instance _ refl stands.instance once.instance)
put_none n says (Choice words) d is stands p once = absurd (cc)
put_none n says (Steps k) d is stands p once = taken_none _ _ p (one_back n says _ d is stands steps_in d.steps _ refl stands.steps once.steps)

-- the draft of lines is their manifest
pub finished_is : (says : List Meaning) (d : Draft) → Stands says d → finished d ≡ manifest_of says
finished_is says d s = rw (s.buffers, s.push, s.values, s.group, s.local, s.groups, s.vertex, s.instance, s.choices, s.steps) refl

map_snoc : {A B : Type 0} (f : A → B) (xs : List A) (x : A) → map f (xs ++ x ∷ []) ≡ map f xs ++ f x ∷ []
map_snoc f [] x = refl
map_snoc f (y ∷ xs) x = ap (λ r. f y ∷ r) (map_snoc f xs x)

-- what one line more says
last_says : (lines : List (List ℕ)) (line : List ℕ) (says more : List Meaning) → map meaning_of lines ≡ map Some says → map meaning_of (lines ++ line ∷ []) ≡ map Some more →
    (m : Meaning) × (meaning_of line ≡ Some m) × (more ≡ says ++ m ∷ [])
last_says [] line [] [] e f = absurd (cc)
last_says [] line [] (m ∷ []) e f = (m, cc, refl)
last_says [] line [] (m ∷ k ∷ more) e f = absurd (cc)
last_says [] line (s ∷ says) more e f = absurd (cc)
last_says (l ∷ lines) line [] more e f = absurd (cc)
last_says (l ∷ lines) line (s ∷ says) [] e f = absurd (cc)
last_says (l ∷ lines) line (s ∷ says) (m ∷ more) e f =
    let here : meaning_of l ≡ Some s = cc in
    let there : meaning_of l ≡ Some m = cc in
    let same : m ≡ s = cc in
    let front : map meaning_of lines ≡ map Some says = cc in
    let behind : map meaning_of (lines ++ line ∷ []) ≡ map Some more = cc in
    put_before l lines line s says m more same (last_says lines line says more front behind)
  where
    put_before : (l : List ℕ) (lines : List (List ℕ)) (line : List ℕ) (s : Meaning) (says : List Meaning) (m : Meaning) (more : List Meaning) → m ≡ s →
        (k : Meaning) × (meaning_of line ≡ Some k) × (more ≡ says ++ k ∷ []) → (k : Meaning) × (meaning_of line ≡ Some k) × (m ∷ more ≡ s ∷ (says ++ k ∷ []))
    put_before l lines line s says m more same rest = (rest.0, rest.1, ap (λ k. k ∷ more) same ∙ ap (λ r. s ∷ r) rest.2)

-- The answer is the manifest of the lines, or the first that breaks them.
abbrev pub Judges : List (List ℕ) → Result Draft ℕ → Type 0
Judges lines (Ok d) = AreManifest lines (finished d)
Judges lines (Err n) = BreaksAt lines n

-- The lines so far say this much, and the draft holds it.
pub record Read (done : List (List ℕ)) (n : ℕ) (d : Draft) : Type 0 where
  pub says : List Meaning
  pub means : map meaning_of done ≡ map Some says
  pub once : StandOnce says
  pub stands : Stands says d
  pub number : n ≡ 1 + length says

read_is : (done : List (List ℕ)) (n : ℕ) (d : Draft) → Read done n d → AreManifest done (finished d)
read_is done n d r = record { says = r.says; means = r.means; once = r.once; value = finished_is r.says d r.stands }

length_says : (done : List (List ℕ)) (says : List Meaning) → map meaning_of done ≡ map Some says → length done ≡ length says
length_says [] [] e = refl
length_says [] (s ∷ says) e = absurd (cc)
length_says (l ∷ done) [] e = absurd (cc)
length_says (l ∷ done) (s ∷ says) e = ap suc (length_says done says (cc))

put_line_some : (n : ℕ) (line : List ℕ) (d e : Draft) → put_line n line d ≡ Some e → (m : Meaning) × (meaning_of line ≡ Some m) × (put n m d ≡ Some e)
unfolding put_line
put_line_some n line d e p = go (meaning_of line) refl p
  where
    go : (found : Option Meaning) → meaning_of line ≡ found → (found >>= λ m. put n m d) ≡ Some e → (m : Meaning) × (meaning_of line ≡ Some m) × (put n m d ≡ Some e)
    go None is q = absurd (cc)
    go (Some m) is q = (m, is, q)

put_line_none : (n : ℕ) (line : List ℕ) (d : Draft) (m : Meaning) → put_line n line d ≡ None → meaning_of line ≡ Some m → put n m d ≡ None
unfolding put_line
put_line_none n line d m p is = sym (ap (λ found. found >>= λ k. put n k d) is) ∙ p

read_more : (done : List (List ℕ)) (line : List ℕ) (n : ℕ) (d e : Draft) → Read done n d → put_line n line d ≡ Some e → Read (done ++ line ∷ []) (n + 1) e
read_more done line n d e r p =
    let found = put_line_some n line d e p in
    let taken = put_some n found.0 d e found.2 in
    let m = found.0 in
    record {
      says = r.says ++ m ∷ [];
      means = map_snoc meaning_of done line ∙ ap (λ f. f ++ meaning_of line ∷ []) r.means ∙ ap (λ f. map Some r.says ++ f ∷ []) found.1 ∙ sym (map_snoc Some r.says m);
      once = once_more n r.says m d r.number r.stands r.once taken.0;
      stands = subst (Stands (r.says ++ m ∷ [])) (sym taken.1) (stands_more n r.says m d r.number r.stands taken.0);
      number = omega (arith, r.number, length-append r.says (m ∷ []));
    }

-- with one line more that was refused they are no manifest
no_manifest : (done : List (List ℕ)) (line : List ℕ) (n : ℕ) (d : Draft) → Read done n d → put_line n line d ≡ None → (m : Manifest) → AreManifest (done ++ line ∷ []) m → ⊥
no_manifest done line n d r p m are =
    let last = last_says done line r.says are.says r.means are.means in
    put_none n r.says last.0 d r.number r.stands (put_line_none n line d last.0 p last.1) (subst StandOnce last.2 are.once)

breaks : (done : List (List ℕ)) (line : List ℕ) (rest : List (List ℕ)) (n : ℕ) (d : Draft) → Read done n d → put_line n line d ≡ None → BreaksAt (done ++ line ∷ rest) n
breaks done line rest n d r p =
    let len : n ≡ 1 + length done = omega (arith, r.number, length_says done r.says r.means) in
    let whole : (done ++ line ∷ []) ++ rest ≡ done ++ line ∷ rest = append_assoc done (line ∷ []) rest in
    let front : take (n - 1) (done ++ line ∷ rest) ≡ done = take_at done (line ∷ rest) (n - 1) (omega arith) in
    let upto : take n (done ++ line ∷ rest) ≡ done ++ line ∷ [] =
    ap (take n) (sym whole) ∙ take_at (done ++ line ∷ []) rest n (omega (arith, length-append done (line ∷ []))) in
    record {
      some = omega arith;
      within = omega (arith, length-append done (line ∷ rest));
      manifest = finished d;
      before = subst (λ ls. AreManifest ls (finished d)) (sym front) (read_is done n d r);
      here = λ m are. no_manifest done line n d r p m (subst (λ ls. AreManifest ls m) upto are);
    }

read_on : (rest done : List (List ℕ)) (n : ℕ) (d : Draft) → Read done n d → Judges (done ++ rest) (read_all n rest d)
read_on [] done n d r = subst (λ ls. AreManifest ls (finished d)) (sym (append-nil done)) (read_is done n d r)
read_on (line ∷ rest) done n d r =
    elim (put_line n line d) as (λ found. put_line n line d ≡ found → Judges (done ++ line ∷ rest) (elim found [ Some e ↦ read_all (n + 1) rest e | None ↦ Err n ])) [
      | None ↦ λ p. breaks done line rest n d r p
      | Some e ↦ λ p. subst (λ ls. Judges ls (read_all (n + 1) rest e)) (append_assoc done (line ∷ []) rest) (read_on rest (done ++ line ∷ []) (n + 1) e (read_more done line n d e r p))
    ] refl

-- What is read of lines is their manifest, or the first that breaks them.
pub read_lines : (lines : List (List ℕ)) → Judges lines (read_all 1 lines empty)
read_lines lines = read_on lines [] 1 empty (record { says = []; means = refl; once = none_once; stands = none_stand; number = refl })

-- the answer of the code
pub answered : (lines : List (List ℕ)) (r : Result Draft ManifestRefusal) → Reads r (read_all 1 lines empty) → (d : Draft) → r ≡ Ok d → AreManifest lines (finished d)
answered lines (Ok e) reads d is = let same : e ≡ d = cc in subst (λ k. AreManifest lines (finished k)) same (subst (Judges lines) reads (read_lines lines))
answered lines (Err refusal) reads d is = absurd (cc)

pub refused : (lines : List (List ℕ)) (r : Result Draft ManifestRefusal) → Reads r (read_all 1 lines empty) → (refusal : ManifestRefusal) → r ≡ Err refusal → Answers (Err refusal) lines
refused lines (Ok e) reads refusal is = absurd (cc)
refused lines (Err (Line n)) reads refusal is = let same : Line n ≡ refusal = cc in subst (λ k. Answers (Err k) lines) same (subst (Judges lines) reads (read_lines lines))
refused lines (Err Memory) reads refusal is = let same : Memory ≡ refusal = cc in subst (λ k. Answers (Err k) lines) same tt
