-- What a foreign caller sees of an answer: its number, its counts, and how pages were got.
use Rattle.std.specs.Prelude.{ℕ, Option, Some, None, Result}
use Rattle.steps.specs.declared.Counts.{Counts}
use Rattle.rules.specs.declared.Refusal.{Refusal}
use Rattle.rules.specs.declared.Answer.{Answer}
use Rattle.rules.specs.declared.Reading.{Reading}
use Rattle.rules.specs.declared.Weight.{Weight}
use Rattle.rules.specs.declared.Finding.{Finding}
use Rattle.rules.specs.Calls.{status_of, counts_of, read_status_of, read_counts_of, read_origin_of, find_status_of, find_counts_of, find_standing_of, find_origin_of}
use Rattle.answers.specs.declared.Report.{Report}
use Rattle.answers.specs.declared.ReadReport.{ReadReport}
use Rattle.answers.specs.declared.FindReport.{FindReport}

-- a number and counts
abbrev pub report_of : ℕ → Counts → Report
report_of status n =
    record {
      status = status;
      reads = n.reads;
      programs = n.programs;
      erases = n.erases;
      stores = n.stores;
    }

-- a number, counts and the number of how a page was got
abbrev pub origin_report_of : ℕ → Counts → ℕ → ReadReport
origin_report_of status n origin =
    record {
      status = status;
      reads = n.reads;
      programs = n.programs;
      erases = n.erases;
      stores = n.stores;
      origin = origin;
    }

-- 1 where a weight stands, else 0
abbrev pub standing_number : Option Weight → ℕ
standing_number (Some w) = 1
standing_number None = 0

-- its grams, else 0
abbrev pub gross_grams : Option Weight → ℕ
gross_grams (Some w) = w.gross
gross_grams None = 0

abbrev pub tare_grams : Option Weight → ℕ
tare_grams (Some w) = w.tare
tare_grams None = 0

-- a number, counts, what stands, and the number of how the log's pages were got
abbrev pub standing_report_of : ℕ → Counts → Option Weight → ℕ → FindReport
standing_report_of status n x origin =
    record {
      status = status;
      reads = n.reads;
      programs = n.programs;
      erases = n.erases;
      stores = n.stores;
      standing = standing_number x;
      gross = gross_grams x;
      tare = tare_grams x;
      origin = origin;
    }

-- of a call that stores
abbrev pub reported : Result Answer Refusal → Report
reported a = report_of (status_of a) (counts_of a)

-- of a read
abbrev pub read_reported : Result Reading Refusal → ReadReport
read_reported a = origin_report_of (read_status_of a) (read_counts_of a) (read_origin_of a)

-- of a question
abbrev pub find_reported : Result Finding Refusal → FindReport
find_reported a = standing_report_of (find_status_of a) (find_counts_of a) (find_standing_of a) (find_origin_of a)
