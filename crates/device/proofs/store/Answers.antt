-- What the code does in each of the two cases.
use mathlib.Core.Path.{refl}
use Rattle.device.proofs.store.Goals as goal

pub returns-then-p-eq0-clause-stopped : goal.returns-then-p-eq0-clause-stopped
returns-then-p-eq0-clause-stopped g c none = (refl, refl)

pub returns-clause-made : goal.returns-clause-made
returns-clause-made g c some = (record { shown = _; shows = refl; left = _; met = c.put.ensures; leaves = refl }, refl)
