-- Parts of layouts: where they stand, and values with a part put there.
use Rattle.std.proofs.Common.{◌≡◌, refl, ap, ℕ, ◌+◌, ◌*◌, ◌≤◌, List, [], ◌∷◌, ◌++◌, set, arith}
use Rattle.gsl_layout.specs.Layout.{Array, IsLayout, Layout, Runtime, need}
use Rattle.gsl_layout.proofs.Order.{member_layout}
use Rattle.gsl_values.specs.declared.value.Value.{Value}
use Rattle.gsl_values.specs.declared.value.Value.TheVariants.{Many}
use Rattle.gsl_tree.specs.Operations.{member_value, value_at, with_value_at}
use Rattle.gsl_tree.specs.Values.{parts_in}
use Rattle.gsl_views.specs.Paths.{Leads, here, member, element, open_element}
use Rattle.gsl_views.proofs.Parts.{element_need, member_need}

-- a part of a layout is one, and stands where its whole does
pub part_within : (size : ℕ) (l part : Layout) (at q : ℕ) (path : List ℕ) → Leads size l at path part q → IsLayout l → at + need l ≤ size → IsLayout part × (q + need part ≤ size)
part_within size l part at q path here is fits = (is, fits)
part_within size l part at q path (member {members = members} {i = i} {o = o} {m = m} {path = rest} is_part is_offset leads) is fits =
    let low = member_need members i o m is_offset is_part in
    part_within size m part (at + o) q rest leads (member_layout members 0 _ i m is.0 is_part) (omega (arith, low, fits))
part_within size l part at q path (element {stride = stride} {count = count} {i = i} {e = e} {path = rest} below leads) is fits =
    part_within size e part (at + stride * i) q rest leads is.0 (element_need (Array stride count e) is at size fits i below stride refl e refl)
part_within size l part at q path (open_element {stride = stride} {i = i} {e = e} {path = rest} below leads) is fits =
    part_within size e part (at + stride * i) q rest leads is.0 (element_need (Runtime stride e) is at size fits i below stride refl e refl)

-- what is put at a path that goes on is put into the part there
pub put_along : (v : Value) (path more : List ℕ) (w : Value) → with_value_at v (path ++ more) w ≡ with_value_at v path (with_value_at (value_at v path) more w)
put_along v [] more w = refl
put_along v (number ∷ path) more w = ap (λ part. Many (set (parts_in v) number part)) (put_along (member_value v number) path more w)
