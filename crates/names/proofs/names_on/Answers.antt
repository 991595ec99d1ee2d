-- Each number counts where it is not none.
use native.Mathlib.Omega.{arith}
use Rattle.layout.specs.Layout.{none}
use Rattle.names.specs.Stamps.{pages_on}
use Rattle.names.proofs.names_on.Goals as goal

pub returns : goal.returns
unfolding pages_on none
returns c = (rw (c.ones.ensures.0, c.ones-2.ensures.0, c.stripe_pages-e.ensures), omega arith)
