use Rattle.spares.proofs.Scanning.{scan_start}
use Rattle.spares.proofs.no_block.Goals as goal

pub returns : goal.returns
returns c = scan_start c.no_least-victim.ensures
