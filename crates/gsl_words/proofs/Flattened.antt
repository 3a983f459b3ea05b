-- Instructions that are read from their words.
use Rattle.std.proofs.Common.{◌≡◌, ℕ, zero, suc, ◌+◌, ◌*◌, ◌%◌, ◌-◌, ◌^◌, ◌<◌, ◌≤◌, true, false, cond, ltb, List, [], ◌∷◌, ◌++◌, length, get_or, take, drop, refl, ap, sym, subst, ◌∙◌, arith, append-nil, append_assoc, length-append, zero-add, add-one}
use Rattle.std.specs.List.{flat_map, AllByRecursion}
use Rattle.std.proofs.lemmas.List.{take_at, drop_at}
use Rattle.std.specs.Prelude.{slice_get, Some, All, IsSomeAnd}
use Rattle.std.proofs.lemmas.List.Elements.{All-head, All-tail}
use Rattle.std.proofs.lemmas.Bool.{ltb-true, ltb-false, lt-ltb, le-ltb, cond-true, cond-false}
use Rattle.gsl_words.specs.declared.module.Instr.{Instr}
use Rattle.gsl_words.specs.Instructions.{word_count}
use Rattle.gsl_words.specs.Flat.{kept_words, instr_of, starts_from, parts, end_of, IsFlat}
use Rattle.gsl_words.specs.Bytes.{instr_words}

-- each opcode is one
abbrev pub Ops : List Instr → Type 0
Ops code = AllByRecursion (λ instr. instr.op < 2 ^ 16) code

pub instr_of-kept : (i : Instr) → i.op < 2 ^ 16 → instr_of (kept_words i) ≡ i
instr_of-kept i small =
    let e : (word_count i % 65536 * 65536 + i.op) % 65536 ≡ i.op = omega arith in
    ap (λ op. record { op = op; args = i.args }) e

-- the instructions are read from their words, whatever stands in front
pub parts_of : (front : List ℕ) (at : ℕ) (code : List Instr) → at ≡ length front → Ops code → parts (front ++ flat_map kept_words code) (starts_from at code) ≡ code
unfolding parts
parts_of front at [] is ops = refl
parts_of front at (i ∷ []) is ops =
    ap (λ words. instr_of words ∷ []) (drop_at front (kept_words i ++ []) at (sym is) ∙ append-nil (kept_words i))
    ∙ ap (λ j. j ∷ []) (instr_of-kept i ops.0)
parts_of front at (i ∷ j ∷ code) is ops =
    let more : List ℕ = flat_map kept_words (j ∷ code) in
    let whole : front ++ (kept_words i ++ more) ≡ (front ++ kept_words i) ++ more = sym (append_assoc front (kept_words i) more) in
    let next : at + word_count i ≡ length (front ++ kept_words i) = omega (arith, length-append front (kept_words i)) in
    let here : drop at (take (at + word_count i) (front ++ (kept_words i ++ more))) ≡ kept_words i =
    ap (λ words. drop at (take (at + word_count i) words)) whole ∙ ap (drop at) (take_at (front ++ kept_words i) more _ (sym next)) ∙ drop_at front (kept_words i) at (sym is) in
    ap (λ words. instr_of words ∷ parts (front ++ (kept_words i ++ more)) (starts_from (at + word_count i) (j ∷ code))) here
    ∙ ap (λ k. k ∷ parts (front ++ (kept_words i ++ more)) (starts_from (at + word_count i) (j ∷ code))) (instr_of-kept i ops.0)
    ∙ ap (λ words. i ∷ parts words (starts_from (at + word_count i) (j ∷ code))) whole
    ∙ ap (λ l. i ∷ l) (parts_of (front ++ kept_words i) (at + word_count i) (j ∷ code) next ops.1)

pub starts-append : (at : ℕ) (code : List Instr) (i : Instr) → starts_from at (code ++ i ∷ []) ≡ starts_from at code ++ (at + length (flat_map kept_words code)) ∷ []
starts-append at [] i = ap (λ k. k ∷ []) (omega arith)
starts-append at (j ∷ code) i =
    let n : at + length (kept_words j ++ flat_map kept_words code) ≡ at + word_count j + length (flat_map kept_words code) = omega (arith, length-append (kept_words j) (flat_map kept_words code)) in
    ap (λ l. at ∷ l) (starts-append (at + word_count j) code i ∙ ap (λ k. starts_from (at + word_count j) code ++ k ∷ []) (sym n))

kept-append : (code : List Instr) (i : Instr) → flat_map kept_words (code ++ i ∷ []) ≡ flat_map kept_words code ++ kept_words i
kept-append [] i = append-nil (kept_words i)
kept-append (j ∷ code) i = ap (λ l. kept_words j ++ l) (kept-append code i) ∙ sym (append_assoc (kept_words j) (flat_map kept_words code) (kept_words i))

ops-append : (code : List Instr) (i : Instr) → Ops code → i.op < 2 ^ 16 → Ops (code ++ i ∷ [])
ops-append [] i ops small = (small, tt)
ops-append (j ∷ code) i ops small = (ops.0, ops-append code i ops.1 small)

-- what is known once an instruction was added
pub record Added (words starts : List ℕ) (i : Instr) (more_words more_starts : List ℕ) : Type 0 where
  pub view : parts more_words more_starts ≡ parts words starts ++ i ∷ []
  pub flat : IsFlat more_words more_starts

pub added : (words starts : List ℕ) (i : Instr) (more_words more_starts : List ℕ) → IsFlat words starts → i.op < 2 ^ 16 →
    more_words ≡ words ++ kept_words i → more_starts ≡ starts ++ length words ∷ [] → Added words starts i more_words more_starts
added words starts i more_words more_starts flat small words_end starts_end =
    let code = parts words starts in
    let ops = ops-append code i flat.ops small in
    let all_words : more_words ≡ flat_map kept_words (code ++ i ∷ []) = words_end ∙ ap (λ w. w ++ kept_words i) flat.words_are ∙ sym (kept-append code i) in
    let all_starts : more_starts ≡ starts_from 0 (code ++ i ∷ []) =
    starts_end ∙ ap (λ s. s ++ length words ∷ []) flat.starts_are ∙ ap (λ w. starts_from 0 code ++ length w ∷ []) flat.words_are ∙ ap (λ k. starts_from 0 code ++ k ∷ []) (sym (zero-add (length (flat_map kept_words code)))) ∙ sym (starts-append 0 code i) in
    let view : parts more_words more_starts ≡ code ++ i ∷ [] =
    ap (λ w. parts w more_starts) all_words ∙ ap (parts (flat_map kept_words (code ++ i ∷ []))) all_starts ∙ parts_of [] 0 (code ++ i ∷ []) refl ops in
    record {
      view = view;
      flat = record {
        ops = subst Ops (sym view) ops;
        words_are = all_words ∙ ap (flat_map kept_words) (sym view);
        starts_are = all_starts ∙ ap (starts_from 0) (sym view);
      };
    }

pub length-parts : (words starts : List ℕ) → length (parts words starts) ≡ length starts
unfolding parts
length-parts words [] = refl
length-parts words (s ∷ []) = refl
length-parts words (s ∷ e ∷ starts) = ap suc (length-parts words (e ∷ starts))

-- where an instruction of some code stands
pub record Place (words starts : List ℕ) (code : List Instr) (k : ℕ) : Type 0 where
  pub instr : Instr
  pub found : slice_get code k ≡ Some instr
  pub room : get_or starts k 0 + word_count instr ≤ length words
  pub next : suc k < length starts → get_or starts (suc k) 0 ≡ get_or starts k 0 + word_count instr
  pub last : length starts ≤ suc k → length words ≡ get_or starts k 0 + word_count instr
  pub here : take (word_count instr) (drop (get_or starts k 0) words) ≡ kept_words instr

place_in : (front : List ℕ) (at : ℕ) (code : List Instr) (k : ℕ) → at ≡ length front → k < length code → Place (front ++ flat_map kept_words code) (starts_from at code) code k
place_in front at [] k is within = absurd (omega arith)
place_in front at (i ∷ code) zero is within =
    let more : List ℕ = flat_map kept_words code in
    let whole : length (front ++ (kept_words i ++ more)) ≡ at + word_count i + length more = omega (arith, length-append front (kept_words i ++ more), length-append (kept_words i) more) in
    record {
      instr = i;
      found = refl;
      room = omega arith;
      next = next_is at i code;
      last = last_is at i code whole;
      here = ap (take (word_count i)) (drop_at front (kept_words i ++ more) at (sym is)) ∙ take_at (kept_words i) more (word_count i) (omega arith);
    }
  where
    next_is : (at : ℕ) (i : Instr) (code : List Instr) → suc zero < length (starts_from at (i ∷ code)) → get_or (starts_from at (i ∷ code)) (suc zero) 0 ≡ at + word_count i
    next_is at i [] some = absurd (omega arith)
    next_is at i (j ∷ code) some = refl

    last_is : (at : ℕ) (i : Instr) (code : List Instr) {n : ℕ} → n ≡ at + word_count i + length (flat_map kept_words code) → length (starts_from at (i ∷ code)) ≤ suc zero → n ≡ at + word_count i
    last_is at i [] is none = omega arith
    last_is at i (j ∷ code) is none = absurd (omega arith)
place_in front at (i ∷ code) (suc k) is within =
    let whole : (front ++ kept_words i) ++ flat_map kept_words code ≡ front ++ (kept_words i ++ flat_map kept_words code) = append_assoc front (kept_words i) (flat_map kept_words code) in
    let next : at + word_count i ≡ length (front ++ kept_words i) = omega (arith, length-append front (kept_words i)) in
    let p = subst (λ words. Place words (starts_from (at + word_count i) code) code k) whole (place_in (front ++ kept_words i) (at + word_count i) code k next (omega arith)) in
    record { instr = p.instr; found = p.found; room = p.room; next = λ h. p.next (omega arith); last = λ h. p.last (omega arith); here = p.here }

pub place : (words starts : List ℕ) (k : ℕ) → IsFlat words starts → k < length starts → Place words starts (parts words starts) k
place words starts k flat within =
    let code = parts words starts in
    let p = place_in [] 0 code k refl (omega (arith, length-parts words starts)) in
    subst (λ w. Place w starts code k) (sym flat.words_are) (subst (λ s. Place (flat_map kept_words code) s code k) (sym flat.starts_are) p)

-- where it ends
pub end_is : (words starts : List ℕ) (k : ℕ) (flat : IsFlat words starts) (within : k < length starts) → end_of words starts k ≡ get_or starts k 0 + word_count (place words starts k flat within).instr
end_is words starts k flat within =
    let p = place words starts k flat within in
    let n : k + 1 ≡ suc k = add-one k in
    elim (ltb (k + 1) (length starts)) as (λ t. ltb (k + 1) (length starts) ≡ t → cond t (get_or starts (k + 1) 0) (length words) ≡ get_or starts k 0 + word_count p.instr) [
      | true ↦ λ e. ap (λ j. get_or starts j 0) n ∙ p.next (omega (arith, ltb-true _ _ e))
      | false ↦ λ e. p.last (omega (arith, ltb-false _ _ e))
    ] refl

pub end_above : (words starts : List ℕ) (k : ℕ) → IsFlat words starts → k < length starts → get_or starts k 0 < end_of words starts k
end_above words starts k flat within = omega (arith, end_is words starts k flat within)

pub end_within : (words starts : List ℕ) (k : ℕ) → IsFlat words starts → k < length starts → end_of words starts k ≤ length words
end_within words starts k flat within = omega (arith, end_is words starts k flat within, (place words starts k flat within).room)

op_small : (code : List Instr) (k : ℕ) (i : Instr) → Ops code → slice_get code k ≡ Some i → i.op < 2 ^ 16
op_small [] k i ops e = absurd (cc)
op_small (j ∷ code) zero i ops e = let same : j ≡ i = cc in subst (λ x. x.op < 2 ^ 16) same ops.0
op_small (j ∷ code) (suc k) i ops e = op_small code k i ops.1 e

pub part_is : (words starts : List ℕ) (k end : ℕ) → IsFlat words starts → k < length starts → end ≡ end_of words starts k →
    IsSomeAnd (slice_get (parts words starts) k) (λ instr. (take (end - get_or starts k 0) (drop (get_or starts k 0) words) ≡ kept_words instr) × (instr.op < 2 ^ 16))
part_is words starts k end flat within is =
    let p = place words starts k flat within in
    let n : end - get_or starts k 0 ≡ word_count p.instr = omega (arith, end_is words starts k flat within) in
    rw p.found (ap (λ m. take m (drop (get_or starts k 0) words)) n ∙ p.here, op_small (parts words starts) k p.instr flat.ops p.found)

pub no_parts : (words : List ℕ) → parts words [] ≡ []
unfolding parts
no_parts words = refl

pub flat_none : IsFlat [] []
unfolding parts
flat_none = record { ops = tt; words_are = refl; starts_are = refl }

-- the words of a file, where each count has room
pub words_are : (code : List Instr) → All (λ instr. word_count instr < 2 ^ 16) code → flat_map kept_words code ≡ flat_map instr_words code
words_are [] short = refl
words_are (i ∷ code) short =
    let small : word_count i < 2 ^ 16 = All-head (λ instr. word_count instr < 2 ^ 16) i code short in
    let e : word_count i % 65536 ≡ word_count i = omega (arith, small) in
    ap (λ n. ((n * 65536 + i.op) ∷ i.args) ++ flat_map kept_words code) e ∙ ap (λ l. instr_words i ++ l) (words_are code (All-tail (λ instr. word_count instr < 2 ^ 16) i code short))

-- what the end is on either branch
pub then_end : (words starts : List ℕ) (k : ℕ) → k + 1 < length starts → end_of words starts k ≡ get_or starts (k + 1) 0
then_end words starts k more = cond-true _ _ _ (lt-ltb _ _ more)

pub else_end : (words starts : List ℕ) (k : ℕ) → length starts ≤ k + 1 → end_of words starts k ≡ length words
else_end words starts k none = cond-false _ _ _ (le-ltb _ _ none)

-- the lists once an instruction was put
pub put_there : (words starts reserved first_put all starts_reserved all_starts args : List ℕ) (op first start : ℕ) → IsFlat words starts → op < 2 ^ 16 →
    reserved ≡ words → starts_reserved ≡ starts → start ≡ length reserved → first ≡ (1 + length args) % 65536 * 65536 + op →
    first_put ≡ reserved ++ first ∷ [] → all ≡ first_put ++ args → all_starts ≡ starts_reserved ++ start ∷ [] →
    Added words starts (record { op = op; args = args }) all all_starts
put_there words starts reserved first_put all starts_reserved all_starts args op first start flat small kept starts_kept start_is first_is put more put_start =
    let i : Instr = record { op = op; args = args } in
    let w : all ≡ words ++ kept_words i =
    more ∙ ap (λ l. l ++ args) put ∙ append_assoc reserved (first ∷ []) args ∙ ap (λ l. l ++ first ∷ args) kept ∙ ap (λ f. words ++ f ∷ args) first_is in
    let s : all_starts ≡ starts ++ length words ∷ [] = put_start ∙ ap (λ l. l ++ start ∷ []) starts_kept ∙ ap (λ n. starts ++ n ∷ []) (start_is ∙ ap length kept) in
    added words starts i all all_starts flat small w s
