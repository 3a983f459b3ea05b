-- Bytes into which is put what is seen of them are as they were.
use Rattle.std.proofs.Common.{◌≡◌, refl, ap, ◌∙◌, ℕ, zero, suc, ◌+◌, ◌-◌, ◌*◌, ◌/◌, ◌<◌, ◌≤◌, if◌then◌else◌, List, length, map, arith, mul-add, mul-one, mul-zero}
use Rattle.std.specs.Prelude.{nat_lt}
use Rattle.std.specs.List.{range_with_len}
use Rattle.std.proofs.lemmas.Bool.{cond-true, lt-ltb}
use Rattle.gsl_layout.specs.Kinds.{part_count}
use Rattle.gsl_layout.specs.Layout.{Array, Group, Layout, Leaf, Parts, End, Part, Runtime}
use Rattle.gsl_words.specs.Words.{word_at}
use Rattle.gsl_words.proofs.Bytes.{put-word_at}
use Rattle.gsl_values.specs.declared.value.Value.{Value}
use Rattle.gsl_values.specs.declared.value.Value.TheVariants.{Many, outs-Many}
use Rattle.gsl_tree.specs.Values.{parts_in, parts_layer}
use Rattle.gsl_views.specs.Buffers.{put_words}
use Rattle.gsl_views.specs.Seen.{Tree, nothing, seen, seen_part}
use Rattle.gsl_meaning.specs.Blocks.{put_members, put_row, put_value, value_of}
use Rattle.gsl_lower_follows.specs.Frames.{AreBytes}
use Rattle.gsl_lower_law.proofs.Components.{components_of}

module _ (bytes : List ℕ) (small : AreBytes bytes) where
  -- the words of a run
  run_kept : (at first count : ℕ) → put_words (at + 4 * first) (map (λ c. word_at bytes (at + 4 * c)) (range_with_len first count)) bytes ≡ bytes
  run_kept at first zero = refl
  run_kept at first (suc count) =
      ap (put_words (at + 4 * first + 4) (map (λ c. word_at bytes (at + 4 * c)) (range_with_len (first + 1) count))) (put-word_at bytes (at + 4 * first) small)
      ∙ ap (λ n. put_words n (map (λ c. word_at bytes (at + 4 * c)) (range_with_len (first + 1) count)) bytes) (let e : at + 4 * first + 4 ≡ at + 4 * (first + 1) = omega arith in e)
      ∙ run_kept at (first + 1) count

  -- parts one stride behind the other
  row_kept : (put : ℕ → Value → List ℕ → List ℕ) (stride at count : ℕ) (part : ℕ → Tree) → ((i : ℕ) → i < count → put (at + stride * i) (value_of (part i)) bytes ≡ bytes) → (first n : ℕ) → first + n ≤ count
      → put_row put stride (at + stride * first) (map (λ i. value_of (part i)) (range_with_len first n)) bytes ≡ bytes
  row_kept put stride at count part each first zero most = refl
  row_kept put stride at count part each first (suc n) most =
      ap (put_row put stride (at + stride * first + stride) (map (λ i. value_of (part i)) (range_with_len (first + 1) n))) (each first (omega (arith, most)))
      ∙ ap (λ k. put_row put stride k (map (λ i. value_of (part i)) (range_with_len (first + 1) n)) bytes) (next stride first)
      ∙ row_kept put stride at count part each (first + 1) n (omega (arith, most))
    where
      next : (stride first : ℕ) → at + stride * first + stride ≡ at + stride * (first + 1)
      next stride first = let e = mul-add stride first 1 in let o = mul-one stride in omega (arith, e, o)

  parts_are : (vs : List Value) → parts_in (Many vs) ≡ vs
  parts_are vs = ap parts_layer (outs-Many vs)

  array_kept : (element : Layout) (stride at count : ℕ) → ((n : ℕ) → put_value element n (value_of (seen element n bytes)) bytes ≡ bytes)
      → put_row (λ at v bytes. put_value element at v bytes) stride at (map (λ i. value_of (if nat_lt i count then seen element (at + stride * i) bytes else nothing)) (range_with_len 0 count)) bytes ≡ bytes
  array_kept element stride at count kept =
      ap (λ n. put_row (λ at v bytes. put_value element at v bytes) stride n (map (λ i. value_of (if nat_lt i count then seen element (at + stride * i) bytes else nothing)) (range_with_len 0 count)) bytes) (let z = mul-zero stride in let e : at ≡ at + stride * 0 = omega (arith, z) in e)
      ∙ row_kept (λ at v bytes. put_value element at v bytes) stride at count (λ i. if nat_lt i count then seen element (at + stride * i) bytes else nothing) (λ i less.
      ap (λ t. put_value element (at + stride * i) (value_of t) bytes) (cond-true (nat_lt i count) (seen element (at + stride * i) bytes) nothing (lt-ltb i count less)) ∙ kept (at + stride * i)) 0 count (omega arith)

  mutual
    pub value_kept : (l : Layout) (at : ℕ) → put_value l at (value_of (seen l at bytes)) bytes ≡ bytes
    value_kept (Leaf components) at =
        ap (λ words. put_words at words bytes) (components_of (map (λ c. word_at bytes (at + 4 * c)) (range_with_len 0 components)))
        ∙ ap (λ n. put_words n (map (λ c. word_at bytes (at + 4 * c)) (range_with_len 0 components)) bytes) (let e : at ≡ at + 4 * 0 = omega arith in e) ∙ run_kept at 0 components
    value_kept (Array stride count element) at =
        ap (λ vs. put_row (λ at v bytes. put_value element at v bytes) stride at vs bytes) (parts_are (map (λ i. value_of (if nat_lt i count then seen element (at + stride * i) bytes else nothing)) (range_with_len 0 count)))
        ∙ array_kept element stride at count (λ n. value_kept element n)
    value_kept (Runtime stride element) at =
        ap (λ vs. put_row (λ at v bytes. put_value element at v bytes) stride at vs bytes) (parts_are (map (λ i. value_of (if nat_lt i ((length bytes - at) / stride) then seen element (at + stride * i) bytes else nothing)) (range_with_len 0 ((length bytes - at) / stride))))
        ∙ array_kept element stride at ((length bytes - at) / stride) (λ n. value_kept element n)
    value_kept (Group members all) at =
        ap (λ vs. put_members members at vs bytes) (parts_are (map (λ i. value_of (seen_part members at bytes i)) (range_with_len 0 (part_count members))))
        ∙ members_kept members at (seen_part members at bytes) 0 (λ i. ap (seen_part members at bytes) (let e : 0 + i ≡ i = omega arith in e))

    members_kept : (members : Parts) (at : ℕ) (part : ℕ → Tree) (first : ℕ) → ((i : ℕ) → part (first + i) ≡ seen_part members at bytes i) → put_members members at (map (λ i. value_of (part i)) (range_with_len first (part_count members))) bytes ≡ bytes
    members_kept End at part first is = refl
    members_kept (Part offset layout rest) at part first is =
        ap (λ n. put_members (Part offset layout rest) at (map (λ i. value_of (part i)) (range_with_len first n)) bytes) (let e : part_count rest + 1 ≡ suc (part_count rest) = omega arith in e)
        ∙ ap (put_members rest at (map (λ i. value_of (part i)) (range_with_len (first + 1) (part_count rest)))) (ap (λ t. put_value layout (at + offset) (value_of t) bytes) (ap part (let e : first ≡ first + 0 = omega arith in e) ∙ is 0) ∙ value_kept layout (at + offset))
        ∙ members_kept rest at part (first + 1) (λ i. ap part (let e : first + 1 + i ≡ first + suc i = omega arith in e) ∙ is (suc i))
