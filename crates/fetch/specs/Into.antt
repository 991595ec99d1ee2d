-- What a fetch makes of the page that it is XORed into, and answers; and what a page is rebuilt from, as the code goes over it.
use Rattle.std.specs.Prelude.{ℕ, ◌≤◌, ◌<◌, ◌≡◌, Bool, false, not, cond, ◌&&◌, List, eqb, length, replicate}
use Rattle.octets.specs.Xor.{◌⊕◌}
use Rattle.layout.specs.declared.Geometry.{Geometry}
use Rattle.layout.specs.Layout.{Layout, none, is_none}
use Rattle.layout.specs.Rotation.{member_chip}
use Rattle.layout.specs.Page.{Page}
use Rattle.layout.specs.Record.{Record, bit}
use Rattle.rules.specs.declared.Role.{Role}
use Rattle.rules.specs.declared.Role.TheVariants.{Current, Old, Parity}
use Rattle.rules.specs.Fetch.{Fetched, others_inside, others_under_parity, through_parity, parity_anew}
use Rattle.fetch.specs.declared.Got.{Got}

-- the member of a role is one of the N
abbrev pub RoleFits : Geometry → Role → Type 0
RoleFits g (Current m) = m < g.n
RoleFits g (Old m) = m < g.n
RoleFits g Parity = Unit

-- what a page is XORed into: zeros, where the buffer is fresh
abbrev pub begun : Bool → List ℕ → List ℕ
begun fresh xs = cond fresh (replicate (length xs) 0) xs

-- the members' pages that go into a rebuilt one, member m left out: those inside the bitmap, or those under the parity
abbrev pub others : Layout → Bool → ℕ → Record → ℕ → ℕ
others l inside m r i = cond inside (others_inside l m r i) (others_under_parity l m r i)

-- the page that goes in first: the parity page, but where that is the one that is rebuilt
abbrev pub first_in : Layout → Record → Role → ℕ
first_in l r (Current m) = r.parity
first_in l r (Old m) = r.parity
first_in l r Parity = none l

-- the member that is left out of the others; of the parity page none is
abbrev pub left_out : Role → ℕ
left_out (Current m) = m
left_out (Old m) = m
left_out Parity = 6

-- a current page in the partial parity
abbrev pub is_inside : Record → Role → Bool
is_inside r (Current m) = bit r m
is_inside r (Old m) = false
is_inside r Parity = false

-- a page as the parity has it
abbrev pub through_full : (l : Layout) → (ℕ → ℕ → Page) → (ℕ → List ℕ) → ℕ → Record → Role → Fetched
through_full l y z j r (Current m) = through_parity l y z j r m
through_full l y z j r (Old m) = through_parity l y z j r m
through_full l y z j r Parity = parity_anew l y z j r

-- the bytes of x are XORed into those before, and r tells the rest of it; no more is read than a stripe has
pub record Into (x : Fetched) (before after : List ℕ) (r : Got) : Type 0 where
  pub bytes : after ≡ before ⊕ x.bytes
  pub reads : r.reads ≡ x.reads
  pub origin : r.origin ≡ x.origin
  pub few : r.reads ≤ 7

-- member m of stripe j is written, and its chip is not lost
abbrev pub is_direct : Layout → Record → ℕ → ℕ → ℕ → Bool
is_direct l r lost j m = not (is_none l (r.current m)) && not (eqb (member_chip l j m) lost)
