-- The loop's invariant: the first i fields are those of the tags and stripes.
use mathlib.Core.Path.{◌≡◌}
use lib.ListN.{get_or}
use Rattle.layout.specs.Layout.{layout_of}
use Rattle.spares.specs.Scans.{field_of}
use Rattle.codec.proofs.Fetching.{Filled}
use Rattle.spares.proofs.block.Stamps.find_by_width.Given as goal

abbrev pub invariant-loop-i : goal.invariant-loop-i
invariant-loop-i l = (l.self.first ≡ l.fn.self.first) × (l.self.tags ≡ l.fn.self.tags) × (l.self.stripes ≡ l.fn.self.stripes)
    × Filled (λ m f. f ≡ field_of (layout_of l.g) l.c (get_or l.self.tags m 0) (get_or l.self.stripes m 0)) l.self.fields l.i
