-- "Each storing call carries a store allowance, what the capacitor still holds": a call under way, as the code counts it down.
use Rattle.std.specs.Prelude.{ℕ, ◌+◌, ◌-◌, ◌*◌, ◌^◌, ◌<◌, min, ◌≡◌, true, false, ◌||◌, List, length, ltb}
use Rattle.layout.specs.Layout.{Layout}
use Rattle.layout.specs.Images.{Images}
use Rattle.steps.specs.Steps.{Step, made, is_cut, counted_all, apply_all}
use Rattle.steps.specs.declared.Counts.{Counts}
use Rattle.steps.specs.declared.Progress.{Progress}

-- nothing is stored yet; the counts are those of what the call did before
abbrev pub started : Counts → ℕ → Progress
started before allowance = record { counts = before; left = allowance; cut = false }

-- after a list of steps, as far as the allowance goes
unfoldable pub after : Progress → List Step → Progress
after p xs =
    record {
      counts = counted_all (made p.left xs) p.counts;
      left = p.left - length xs;
      cut = p.cut || is_cut p.left xs;
    }

-- and the images then
unfoldable pub applied : Layout → Progress → List Step → Images → Images
applied l p xs s = apply_all l (made p.left xs) s

-- after n stores alike that are due, of so many erases each and no reads, as far as the allowance goes
abbrev pub counting_all : Progress → ℕ → ℕ → Progress
counting_all p n erases =
    record {
      counts =
          record {
            reads = p.counts.reads;
            programs = p.counts.programs;
            erases = p.counts.erases + min p.left n * erases;
            stores = p.counts.stores + min p.left n;
          };
      left = p.left - n;
      cut = p.cut || ltb p.left n;
    }

-- the pages read for one store at most: parity, six members, and one to spare
abbrev pub most_reads : ℕ
most_reads = 8

-- No counter overflows a word of 64 bits: a store takes one of what is left, and counts at most so many reads. What is cut has nothing left.
pub record Sane (p : Progress) : Type 0 where
  pub reads : p.counts.reads + most_reads * p.left < 2 ^ 63
  pub programs : p.counts.programs + p.left < 2 ^ 63
  pub erases : p.counts.erases + p.left < 2 ^ 63
  pub stores : p.counts.stores + p.left < 2 ^ 63
  pub spent : p.cut ≡ true → p.left ≡ 0

-- from the progress p and the images s, the steps xs bring r and t
pub record Ran (l : Layout) (p : Progress) (xs : List Step) (r : Progress) (s t : Images) : Type 0 where
  pub progress : r ≡ after p xs
  pub images : t ≡ applied l p xs s
  pub sane : Sane r

-- three lent images, as one
abbrev pub images : List ℕ → List ℕ → List ℕ → Images
images chips records slots = record { chips = chips; records = records; slots = slots }
