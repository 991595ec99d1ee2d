-- The move of a copy: the record store that puts a copy in place of its original, in phase 2.
use Prim.Native.Nat.{ℕ, ◌+◌, ◌<◌}
use native.Mathlib.Omega.{arith}
use mathlib.Core.Path.{◌≡◌, refl, ◌∙◌}
use mathlib.Core.Logic.{◌≢◌}
use mathlib.Core.Bool.{true, false}
use Rattle.ranges.specs.Update.{at}
use Rattle.ranges.proofs.Looks.{by_same}
use Rattle.layout.specs.Layout.{Layout, page_in}
use Rattle.layout.specs.Page.{Page, page_at}
use Rattle.layout.specs.Record.{Record, bytes_of_record, record_at}
use Rattle.layout.specs.Collection.{Collection, collection_at}
use Rattle.layout.specs.Images.{Images}
use Rattle.layout.proofs.Codec.{length_record}
use Rattle.layout.proofs.Records.{SixMembers, six_members}
use Rattle.steps.specs.Store.{apply}
use Rattle.steps.proofs.View.{length_recorded}
use Rattle.rules.specs.Names.{named}
use Rattle.rules.specs.Open.{due, move_step, repointed}
use Rattle.rules.proofs.Soundness.Statements.{Usable, RecordSound, ChipSound, Sound, sound_chip}
use Rattle.rules.proofs.Stores.Kept.{Kept}
use Rattle.rules.proofs.Stores.Moving.{Moving, new_records, new_slot, new_bitmap, new_chip, new_chip_other, new_sound, new_beyond, new_copies, new_to, new_from, new_name, same_main, same_side, stripe_fits}
use Rattle.rules.proofs.Stores.Storing.{stripe_view, stripe_collection, sound_records}

module _ (l : Layout) (u : Usable l) (s : Images) (f : Sound l s) where
  open l use {N, K, S}

  abbrev r : ℕ → Record
  r = record_at l s.records

  abbrev co : Collection
  co = collection_at l s.records

  abbrev x : ℕ → Page
  x = page_at l s.chips co.chip

  module _ (busy : co.phase ≡ 2) (k : ℕ) (fits : k < K) (is_due_lem : due l co x r (page_in l co.destination k) ≡ true) where
    abbrev q : ℕ
    q = page_in l co.destination k

    -- the images after the move
    abbrev pub after : Images
    after = apply l (move_step l co x r q).store s

    -- the record that is stored, and the records after it
    abbrev stored : Record
    stored = repointed l co.chip (x q).stripe (x q).copied q (r (x q).stripe)

    abbrev new : ℕ → Record
    new = at (x q).stripe stored r

    here : ChipSound l r x co.chip co
    here = sound_chip l u s f co.chip (omega (arith, f.stripes.collection.chip (omega (arith, busy))))

    moving : Moving l r x co k
    moving = record { within = u.within; records = f.stripes; chip = here; busy = busy; fits = fits; is_due_lem = is_due_lem }

    stripe_is : (x q).stripe < S
    stripe_is = stripe_fits l r x co k moving

    stored_sound : RecordSound l stored
    stored_sound = new_sound l r x co k moving

    stored_beyond : SixMembers l stored
    stored_beyond m h = new_beyond l r x co k moving m (six_members l s.records (x q).stripe m h)

    move_records : record_at l after.records ≡ new
    move_records = stripe_view l u s f (x q).stripe stored stripe_is stored_sound stored_beyond

    pub move_collection : collection_at l after.records ≡ co
    move_collection = stripe_collection l u s f (x q).stripe stored stripe_is stored_sound stored_beyond

    -- the copy is named from now on, its original no more, and nothing else changes
    pub move_to : named l (record_at l after.records) co.chip q ≡ true
    move_to = rw move_records (new_to l r x co k moving)

    pub move_from_lem : named l (record_at l after.records) co.chip (x q).copied ≡ false
    move_from_lem = rw move_records (new_from l r x co k moving)

    pub move_other : (a : ℕ) → a ≢ (x q).copied → a ≢ q → named l (record_at l after.records) co.chip a ≡ named l r co.chip a
    move_other a op oq = rw move_records (new_name l r x co k moving a op oq)

    chip_after : (c : ℕ) → c < N + 1 → ChipSound l new (page_at l s.chips c) c co
    chip_after c h = by_same c co.chip
        (λ e. rw e (new_chip l r x co k moving))
        (λ o. new_chip_other l r x co k moving c (page_at l s.chips c) o (sound_chip l u s f c h))

    move_sound : Sound l after
    unfolding apply
    move_sound =
        sound_records l u s f after.records
        (length_recorded l u.some s.records f.records (x q).stripe (omega (arith, stripe_is)) (bytes_of_record l stored) (length_record l u.some stored)
        ∙ f.records)
        new co move_records move_collection (new_records l r x co k moving) chip_after

    -- the store keeps what the images hold
    pub kept_move : Kept l s after
    unfolding apply
    kept_move = record {
      sound = move_sound;
      slot = λ j h. rw move_records (new_slot l r x co k moving j);
      bitmap = λ j h. rw move_records (new_bitmap l r x co k moving j);
      memory = λ j h t. refl;
      copies = λ held. rw (move_records, move_collection) (new_copies l r x co k moving held);
      main = λ held c j _ h. rw move_records (same_main l r x co k moving held (page_at l s.chips) refl c j h);
      side = λ held c j _ h. rw move_records (same_side l r x co k moving held (page_at l s.chips) refl c j h);
    }
