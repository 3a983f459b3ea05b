-- Paths in trees and in bytes.
use Rattle.std.proofs.Common.{◌≡◌, refl, sym, ap, ◌∙◌, ℕ, ◌+◌, ◌*◌, List, length}
use Rattle.gsl_layout.specs.Layout.{Layout, Array, Runtime}
use Rattle.gsl_views.specs.Paths.{Leads, here, member, element, open_element, followed}
use Rattle.gsl_views.specs.Seen.{seen}
use Rattle.gsl_views.proofs.Parts.{member_seen}
use Rattle.gsl_views.proofs.Splits.{child_element}

pub follows : (bytes : List ℕ) (l p : Layout) (at q : ℕ) (path : List ℕ) → Leads (length bytes) l at path p q → followed (seen l at bytes) path ≡ seen p q bytes
follows bytes l p at q path here = refl
follows bytes l p at q path (member {members = members} {i = i} {o = o} {m = m} {path = rest} part offset leads) =
    ap (λ t. followed t rest) (member_seen members i o m at bytes offset part) ∙ follows bytes m p (at + o) q rest leads
follows bytes l p at q path (element {stride = stride} {count = count} {i = i} {e = e} {path = rest} below leads) =
    ap (λ t. followed t rest) (sym (child_element (Array stride count e) at bytes i below stride refl e refl)) ∙ follows bytes e p (at + stride * i) q rest leads
follows bytes l p at q path (open_element {stride = stride} {i = i} {e = e} {path = rest} below leads) =
    ap (λ t. followed t rest) (sym (child_element (Runtime stride e) at bytes i below stride refl e refl)) ∙ follows bytes e p (at + stride * i) q rest leads
