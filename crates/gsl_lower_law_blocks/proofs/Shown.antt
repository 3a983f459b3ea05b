-- Parts of what is seen, as values.
use Rattle.std.proofs.Common.{◌≡◌, refl, ap, ◌∙◌, ℕ, suc, ◌+◌, ◌-◌, ◌*◌, ◌/◌, ◌<◌, if◌then◌else◌, List, length, map, get_or, Option, Some, None, zero, arith}
use Rattle.std.specs.Prelude.{nat_lt}
use Rattle.std.specs.List.{range_with_len}
use Rattle.std.proofs.lemmas.Bool.{lt-ltb}
use Rattle.std.proofs.lemmas.List.FromFn.{get_or-map-range_with_len}
use Rattle.gsl_layout.specs.Kinds.{part_count}
use Rattle.gsl_layout.specs.Layout.{Layout, Parts, End, Part, part_at}
use Rattle.gsl_values.specs.declared.value.Value.TheVariants.{Word, Many, outs-Many}
use Rattle.gsl_tree.specs.Operations.{member_value, value_at}
use Rattle.gsl_tree.specs.Values.{parts_layer}
use Rattle.gsl_views.specs.Paths.{Leads, here, member, element, open_element}
use Rattle.gsl_views.specs.Seen.{Tree, nothing, row, seen, seen_part}
use Rattle.gsl_meaning.specs.Blocks.{value_of}
use Rattle.gsl_views.proofs.Changes.{kept_guard}
use Rattle.gsl_views.proofs.Parts.{member_seen}

-- a part of many
part_of : (count k : ℕ) (parts : ℕ → Tree) → k < count → member_value (Many (map (λ i. value_of (parts i)) (range_with_len 0 count))) k ≡ value_of (parts k)
part_of count k parts below = ap (λ l. get_or l k (Word 0)) (ap parts_layer (outs-Many (map (λ i. value_of (parts i)) (range_with_len 0 count)))) ∙ get_or-map-range_with_len (λ i. value_of (parts i)) 0 count k k (Word 0) below (omega arith)

-- an element of a row
in_row : (count k : ℕ) (parts : ℕ → Tree) → k < count → member_value (value_of (row count parts)) k ≡ value_of (parts k)
in_row count k parts below = part_of count k (λ i. if nat_lt i count then parts i else nothing) below ∙ ap value_of (kept_guard (nat_lt k count) (parts k) (lt-ltb k count below))

-- a member that is there has a number below the count
below_count : (members : Parts) (k : ℕ) (l : Layout) → part_at members k ≡ Some l → k < part_count members
below_count End k l e = absurd (let z : ◌≡◌ {A = Option Layout} None (Some l) = e in cc)
below_count (Part offset layout rest) zero l e = omega arith
below_count (Part offset layout rest) (suc k) l e = let less = below_count rest k l e in omega (arith, less)

pub parts_shown : (bytes : List ℕ) (l part : Layout) (at offset : ℕ) (path : List ℕ) → Leads (length bytes) l at path part offset → value_at (value_of (seen l at bytes)) path ≡ value_of (seen part offset bytes)
parts_shown bytes l part at offset path here = refl
parts_shown bytes l part at offset path (member {members = members} {i = i} {o = o} {m = inner} {path = rest} is_part is_offset leads) =
    ap (λ v. value_at v rest) (part_of (part_count members) i (seen_part members at bytes) (below_count members i inner is_part) ∙ ap value_of (member_seen members i o inner at bytes is_offset is_part))
    ∙ parts_shown bytes inner part (at + o) offset rest leads
parts_shown bytes l part at offset path (element {stride = stride} {count = count} {i = i} {e = e} {path = rest} below leads) =
    ap (λ v. value_at v rest) (in_row count i (λ k. seen e (at + stride * k) bytes) below) ∙ parts_shown bytes e part (at + stride * i) offset rest leads
parts_shown bytes l part at offset path (open_element {stride = stride} {i = i} {e = e} {path = rest} below leads) =
    ap (λ v. value_at v rest) (in_row ((length bytes - at) / stride) i (λ k. seen e (at + stride * k) bytes) below) ∙ parts_shown bytes e part (at + stride * i) offset rest leads
