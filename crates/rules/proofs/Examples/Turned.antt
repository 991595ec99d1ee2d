-- A geometry outside the limits turns every call back with refusal 1.
use Prim.Native.Nat.{ℕ}
use mathlib.Core.Path.{◌≡◌}
use mathlib.Core.Bool.{false}
use mathlib.Core.List.{List}
use Rattle.layout.specs.Layout.{Layout, limits}
use Rattle.layout.specs.Images.{Images}
use Rattle.rules.specs.declared.Refusal.{Refusal}
use Rattle.rules.specs.declared.Refusal.TheVariants.{Geometry}
use Rattle.std.specs.Prelude.{Err}
use Rattle.rules.specs.Refusals.{buffers_rows, images_rows, read_rows, settled_rows, write_rows, commit_rows, collect_rows, add_rows, find_rows}
use Rattle.rules.specs.Calls.{format_call, open_call, read_call, write_call, commit_call, collect_call, add_call, find_call}

module _ (l : Layout) where
  -- every call is refused with r, and changes nothing
  pub record TurnedBack (r : Refusal) : Type 0 where
    pub format : (s : Images) (a : ℕ) → format_call l s a ≡ record { answer = Err r; images = s }
    pub open_call_lem : (s : Images) (lost a : ℕ) → open_call l s lost a ≡ record { answer = Err r; images = s }
    pub read : (s : Images) (lost i : ℕ) (buffer : List ℕ) → read_call l s lost i buffer ≡ record { answer = Err r; buffer = buffer }
    pub write : (s : Images) (lost i : ℕ) (xs : List ℕ) (a : ℕ) → write_call l s lost i xs a ≡ record { answer = Err r; images = s }
    pub commit : (s : Images) (lost j a : ℕ) → commit_call l s lost j a ≡ record { answer = Err r; images = s }
    pub collect : (s : Images) (lost c a : ℕ) → collect_call l s lost c a ≡ record { answer = Err r; images = s }
    pub add : (s : Images) (lost : ℕ) (ticket : List ℕ) (a : ℕ) → add_call l s lost ticket a ≡ record { answer = Err r; images = s }
    pub find : (s : Images) (lost lot bag : ℕ) → find_call l s lost lot bag ≡ Err r

  pub outside_limits : limits l ≡ false → TurnedBack Geometry
  unfolding format_call open_call read_call write_call commit_call collect_call add_call find_call buffers_rows images_rows read_rows settled_rows write_rows commit_rows collect_rows add_rows find_rows
  outside_limits e = record {
    format = λ s a. rw e;
    open_call_lem = λ s lost a. rw e;
    read = λ s lost i buffer. rw e;
    write = λ s lost i xs a. rw e;
    commit = λ s lost j a. rw e;
    collect = λ s lost c a. rw e;
    add = λ s lost ticket a. rw e;
    find = λ s lost lot bag. rw e;
  }
