-- Demand 3, by one induction over events: calls, and the taking of a chip. The two lists of document 01 are its corollary.
use Prim.Native.Nat.{ℕ, ◌≤◌}
use native.Mathlib.Omega.{arith}
use mathlib.Core.Path.{◌≡◌, refl, ◌∙◌}
use mathlib.Core.List.{List, [], ◌∷◌, ◌++◌}
use lib.ListN.{length}
use Rattle.layout.specs.Layout.{Layout, no_chip, chip_bytes}
use Rattle.layout.specs.Images.{Images}
use Rattle.layout.proofs.Limits.{within}
use Rattle.rules.specs.Calls.{Call, lost_chip}
use Rattle.rules.specs.Demand.{World, called, called_all, chip_taken, AllName, ReadsTheBook, origin_owed, TellsTheOrigin, Finished, start, AfterBothLists, Demand3}
use Rattle.rules.proofs.Soundness.Statements.{Usable}
use Rattle.rules.proofs.Lists.Fresh.{format_fresh}
use Rattle.rules.proofs.Demand.Invariant.{Inv, fresh_inv, reads_book}
use Rattle.rules.proofs.Demand.Alive.{call_inv}
use Rattle.rules.proofs.Demand.Taken.{Taken, take_chip, taken_trans, taken_reads, call_stays}

-- what can happen to a store
pub data Event : Type 0 where
  calls : Call → Event
  -- chip, what stands in its stretch from then on
  takes : ℕ → List ℕ → Event

-- every chip is in place, or one is not
pub data State : Type 0 where
  alive : State
  dead : ℕ → State

abbrev pub next : State → Event → State
next alive (calls call) = alive
next alive (takes c bytes) = dead c
next (dead c) event = dead c

abbrev pub ends : State → List Event → State
ends st [] = st
ends st (e ∷ es) = ends (next st e) es

module _ (l : Layout) where
  open l use {N}

  -- once a chip is taken, calls name it, and no other is taken
  abbrev pub Allowed : State → Event → Type 0
  Allowed alive (calls call) = Unit
  Allowed alive (takes c bytes) = (c ≤ N) × (length bytes ≡ chip_bytes l)
  Allowed (dead c) (calls call) = lost_chip call ≡ c
  Allowed (dead c) (takes d bytes) = (d ≡ c) × (length bytes ≡ chip_bytes l)

  abbrev pub AllAllowed : State → List Event → Type 0
  AllAllowed st [] = Unit
  AllAllowed st (e ∷ es) = Allowed st e × AllAllowed (next st e) es

  abbrev pub happens : Event → World → World
  happens (calls call) x = called l call x
  happens (takes c bytes) x = chip_taken l c bytes x

  abbrev pub happens_all : List Event → World → World
  happens_all [] x = x
  happens_all (e ∷ es) x = happens_all es (happens e x)

  -- the images hold the book; with chip c taken, they hold it but for that chip
  abbrev pub Holds : State → World → Type 0
  Holds alive x = Inv l x.images x.book x.written
  Holds (dead c) x = (c ≤ N) × (s : Images) × Inv l s x.book x.written × Taken l c s x.images

  -- what a read owes, which names the chip that is taken, or none
  abbrev pub Owed : State → World → Type 0
  Owed alive x = TellsTheOrigin l no_chip x
  Owed (dead c) x = TellsTheOrigin l c x

  module _ (u : Usable l) where
    event_holds : (st : State) (e : Event) (x : World) → Allowed st e → Holds st x → Holds (next st e) (happens e x)
    unfolding chip_taken
    event_holds alive (calls call) x ok f = call_inv l u call x f
    event_holds alive (takes c bytes) x ok f =
        (ok.0, x.images, f, take_chip l c (omega (arith, ok.0)) bytes ok.1 x f.sound.chips)
    event_holds (dead c) (calls call) x ok f =
        rw (call_stays l u c f.0 call ok x) f
    event_holds (dead c) (takes d bytes) x ok f = (
      f.0,
      f.1,
      f.2,
      rw ok.0 (taken_trans l c f.1 x.images (chip_taken l c bytes x).images f.3 (take_chip l c (omega (arith, f.0)) bytes ok.1 x f.3.chips)),
    )

    pub history_holds : (st : State) (es : List Event) (x : World) → AllAllowed st es → Holds st x → Holds (ends st es) (happens_all es x)
    history_holds st [] x ok f = f
    history_holds st (e ∷ es) x ok f = history_holds (next st e) es (happens e x) ok.1 (event_holds st e x ok.0 f)

    holds_owed : (st : State) (x : World) → Holds st x → Owed st x
    holds_owed alive x f = reads_book l u x.images x f no_chip refl f.sound refl (λ i. refl)
    holds_owed (dead c) x f = taken_reads l u c f.0 f.1 x f.2 f.3

    -- after any events that are allowed, every read that is owed gives the book's page, and says how it was got
    pub history_reads : (es : List Event) (x : World) → AllAllowed alive es → Holds alive x → Owed (ends alive es) (happens_all es x)
    history_reads es x ok f = holds_owed (ends alive es) (happens_all es x) (history_holds alive es x ok f)

-- the two lists of document 01 as events
abbrev pub as_events : List Call → List Event
as_events [] = []
as_events (call ∷ rest) = calls call ∷ as_events rest

first_ends : (first : List Call) (es : List Event) → ends alive (as_events first ++ es) ≡ ends alive es
first_ends [] es = refl
first_ends (call ∷ first) es = first_ends first es

second_ends : (c : ℕ) (second : List Call) → ends (dead c) (as_events second) ≡ dead c
second_ends c [] = refl
second_ends c (call ∷ second) = second_ends c second

module _ (l : Layout) where
  -- what follows from what is owed
  pub owed_too : (Owed Also : ℕ → World → Type 0) → (Finished l → (c : ℕ) (x : World) → Owed c x → Also c x) → AfterBothLists l Owed → AfterBothLists l Also
  owed_too Owed Also more h = record {
    one_chip_taken = λ f first c chip bytes whole second naming.
        more f c (called_all l second (chip_taken l c bytes (called_all l first (start l f)))) (h.one_chip_taken f first c chip bytes whole second naming);
    no_chip_taken = λ f first. more f no_chip (called_all l first (start l f)) (h.no_chip_taken f first);
  }

  first_allowed : (first : List Call) (es : List Event) → AllAllowed l alive es → AllAllowed l alive (as_events first ++ es)
  first_allowed [] es ok = ok
  first_allowed (call ∷ first) es ok = (tt, first_allowed first es ok)

  second_allowed : (c : ℕ) (second : List Call) → AllName c second → AllAllowed l (dead c) (as_events second)
  second_allowed c [] ok = tt
  second_allowed c (call ∷ second) ok = (ok.0, second_allowed c second ok.1)

  lists_happen : (first : List Call) (es : List Event) (x : World) → happens_all l (as_events first ++ es) x ≡ happens_all l es (called_all l first x)
  unfolding called_all
  lists_happen [] es x = refl
  lists_happen (call ∷ first) es x = lists_happen first es (called l call x)

  second_happens : (second : List Call) (x : World) → happens_all l (as_events second) x ≡ called_all l second x
  unfolding called_all
  second_happens [] x = refl
  second_happens (call ∷ second) x = second_happens second (called l call x)

  module _ (some : 1 ≤ l.D) (narrow : l.D ≤ 4) where
    -- "the images as a finished format left them"
    module _ (f : Finished l) where
      pub usable : Usable l
      usable = record { within = within l (format_fresh l some narrow f.images f.allowance f.is_done).0; some = some; narrow = narrow }

      pub start_holds : Holds l alive (start l f)
      start_holds = fresh_inv l usable (start l f).images (format_fresh l some narrow f.images f.allowance f.is_done).1

    -- every chip is in place after the first list
    pub first_holds : (f : Finished l) (first : List Call) → Holds l alive (called_all l first (start l f))
    first_holds f first =
        rw (first_ends first [], lists_happen first [] (start l f)) at
        (history_holds l (usable f) alive (as_events first ++ []) (start l f) (first_allowed first [] tt) (start_holds f))

    one_chip : (f : Finished l) (first : List Call) (c : ℕ) → c ≤ l.N → (bytes : List ℕ) → length bytes ≡ chip_bytes l
        → (second : List Call) → AllName c second → Owed l (dead c) (called_all l second (chip_taken l c bytes (called_all l first (start l f))))
    one_chip f first c chip bytes whole second naming =
        let after = takes c bytes ∷ as_events second in
        rw (
          first_ends first after ∙ second_ends c second,
          lists_happen first after (start l f) ∙ second_happens second (chip_taken l c bytes (called_all l first (start l f))),
        ) at
        (history_reads l (usable f) (as_events first ++ after) (start l f)
        (first_allowed first after ((chip, whole), second_allowed c second naming)) (start_holds f))

    no_chip_lem : (f : Finished l) (first : List Call) → Owed l alive (called_all l first (start l f))
    no_chip_lem f first = holds_owed l (usable f) alive (called_all l first (start l f)) (first_holds f first)

    pub origins_told : AfterBothLists l (TellsTheOrigin l)
    origins_told = record { one_chip_taken = one_chip; no_chip_taken = no_chip_lem }

    pub demand_3 : Demand3 l
    demand_3 = owed_too (TellsTheOrigin l) (ReadsTheBook l) (λ f c x h i inside. (origin_owed l c x i, h i inside)) origins_told
