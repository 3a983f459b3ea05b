-- Arrays whose stride is the element's size, rounded up.
use Rattle.std.proofs.Common.{ℕ, ◌*◌, ◌^◌, ◌<◌, ◌≤◌, IsTrue, Some, None, arith}
use Rattle.gsl_layout.specs.Layout.{IsLayout, IsWhole, array, closed, need}
use Rattle.gsl_layout.specs.Rules.{IsAlignment, least_multiple}
use Rattle.gsl_layout.specs.Gathers.{IsMeasured}
use Rattle.gsl_layout.specs.declared.measured.Measured.{Measured}
use Rattle.gsl_layout.proofs.Bounds.{need_le_size}
use Rattle.gsl_layout.proofs.Multiples.{alignment_small, alignment_whole, multiple_of_align, not_below, through}

module _ (align : ℕ) (is : IsAlignment align) (element : Measured) (measured : IsMeasured element) (shut : IsTrue (closed element.laid)) (some : 4 ≤ element.size) where
  abbrev stride : ℕ
  stride = least_multiple align element.size

  wide : (4 ≤ stride) × (need element.laid ≤ stride)
  wide = let up = not_below align element.size (omega (arith, (alignment_small align is).0)) in
      (omega (arith, up, some), omega (arith, up, need_le_size element.laid measured.layout, measured.size))

  whole : IsWhole stride
  whole = through stride align 4 (multiple_of_align align element.size) (alignment_whole align is) (omega arith)

  pub counted_array : (n : ℕ) → 1 ≤ n → stride * n < 2 ^ 31 → IsLayout (array stride (Some n) element.laid)
  counted_array n least small = (measured.layout, shut, whole, wide.0, wide.1, least, small)

  pub open_array : IsLayout (array stride None element.laid)
  open_array = (measured.layout, shut, whole, wide.0, wide.1)
