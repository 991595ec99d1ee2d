-- What a foreign caller sees of a call: the report of its answer, and the bytes after it.
use Rattle.std.specs.Prelude.{List, ℕ}
use Rattle.layout.specs.Images.{Images}
use Rattle.rules.specs.Calls.{Outcome, ReadOutcome}
use Rattle.answers.specs.declared.Report.{Report}
use Rattle.answers.specs.declared.ReadReport.{ReadReport}
use Rattle.answers.specs.Reports.{reported, read_reported}

-- the report of a call, and every byte of the images after it
pub record Reported : Type 0 where
  pub report : Report
  pub images : Images

-- of an outcome
abbrev pub reported_of : Outcome → Reported
reported_of o = record { report = reported o.answer; images = o.images }

-- the report of a read, and its buffer
pub record ReadReported : Type 0 where
  pub report : ReadReport
  pub buffer : List ℕ

-- of an outcome
abbrev pub read_reported_of : ReadOutcome → ReadReported
read_reported_of o = record { report = read_reported o.answer; buffer = o.buffer }
