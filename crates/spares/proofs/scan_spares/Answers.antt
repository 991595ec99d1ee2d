use Rattle.spares.proofs.scan_spares.Goals as goal

pub returns : goal.returns
returns c = cc
