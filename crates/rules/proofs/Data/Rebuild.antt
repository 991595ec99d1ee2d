-- A page on a lost chip is fetched without a look at that chip, and is what a fetch of the page itself would give.
use Prim.Native.Nat.{ℕ, ◌*◌, ◌<◌}
use native.Mathlib.Decide.{ℕ_discrete}
use mathlib.Core.Path.{◌≡◌, refl, sym, ap, ◌∙◌}
use mathlib.Core.Logic.{◌≢◌}
use mathlib.Core.Bool.{not}
use mathlib.Core.List.{List}
use lib.Dec.{eqb}
use borrow.Author.Tests.{eq-eqb, ne_eqb}
use Rattle.ranges.proofs.Looks.{by_test}
use Rattle.ranges.proofs.Sums.{sum_cong}
use Rattle.octets.proofs.Xors.{xor_below_cong}
use Rattle.layout.specs.Layout.{Layout, no_chip, none, is_none}
use Rattle.layout.specs.Rotation.{parity_chip, member_chip, member_of, stripe_of}
use Rattle.layout.specs.Page.{Page, page_at}
use Rattle.layout.specs.Record.{Record, bit, record_at}
use Rattle.layout.specs.Images.{Images, slot_at}
use Rattle.layout.proofs.Limits.{Within}
use Rattle.layout.proofs.Rotations.{member_chip_other, other_member_chip, member_chip_fits, stripe_fits, member_fits}
use Rattle.rules.specs.declared.Role.{Role}
use Rattle.rules.specs.declared.Role.TheVariants.{Current, Old, Parity}
use Rattle.rules.specs.Fetch.{Fetched, itself, members_feed, gathered, chip_in, number_in, under_parity, others_under_parity, others_inside, through_partial, through_parity, parity_anew, rebuilt, fetch_role, fetch_in}
use Rattle.rules.specs.Read.{unwritten, fetch_member, fetch}
use Rattle.rules.specs.Origins.{origin_by}
use Rattle.rules.proofs.Soundness.Statements.{Sound}
use Rattle.rules.proofs.Data.Contents.{Data, pages_whole}
use Rattle.rules.proofs.Data.Feeds.{page_there}
use Rattle.rules.proofs.Data.Parity.{MemberIn, others_inside_here, under_parity_here, rebuilt_right}

module _ (l : Layout) where
  open l use {N, S}

  -- ---- the two ways of a fetch

  module _ (y : ℕ → ℕ → Page) (z : ℕ → List ℕ) (j : ℕ) (r : Record) (lost : ℕ) (role : Role) where
    role_rebuilt : chip_in l j role ≡ lost → number_in l r role ≢ none l → fetch_role l y z j r lost role ≡ rebuilt l y z j r role
    unfolding fetch_role
    role_rebuilt e d = rw (eq-eqb (chip_in l j role) lost e, ne_eqb (number_in l r role) (none l) d)

    role_none : number_in l r role ≡ none l → fetch_role l y z j r lost role ≡ itself l y (chip_in l j role) (none l)
    unfolding fetch_role
    role_none e = by_test (eqb (chip_in l j role) lost) (λ t. rw (t, e, eq-eqb (none l) (none l) refl)) (λ t. rw (t, e))

    role_direct : chip_in l j role ≢ lost → fetch_role l y z j r lost role ≡ itself l y (chip_in l j role) (number_in l r role)
    unfolding fetch_role
    role_direct d = rw (ne_eqb (chip_in l j role) lost d)

  -- ---- a lost chip is not looked at

  module _ (y y' : ℕ → ℕ → Page) (z : ℕ → List ℕ) (lost : ℕ) (elsewhere : (c : ℕ) → c ≢ lost → y' c ≡ y c) (j : ℕ) (r : Record) where
    itself_elsewhere : (c p : ℕ) → c ≢ lost → itself l y' c p ≡ itself l y c p
    unfolding itself
    itself_elsewhere c p d = rw (elsewhere c d)

    none_elsewhere : (c p : ℕ) → p ≡ none l → itself l y' c p ≡ itself l y c p
    unfolding itself
    none_elsewhere c p e = rw (eq-eqb p (none l) e)

    gathered_same : (g : ℕ → ℕ) → ((k : ℕ) → k < N → itself l y' (member_chip l j k) (g k) ≡ itself l y (member_chip l j k) (g k)) → gathered l y' j g ≡ gathered l y j g
    unfolding gathered members_feed
    gathered_same g h =
        rw (
          xor_below_cong N (λ k. (itself l y' (member_chip l j k) (g k)).bytes) (λ k. (itself l y (member_chip l j k) (g k)).bytes)
              (λ k b. ap (λ (x : Fetched). x.bytes) (h k b)),
          sum_cong N (λ k. (itself l y' (member_chip l j k) (g k)).reads) (λ k. (itself l y (member_chip l j k) (g k)).reads)
              (λ k b. ap (λ (x : Fetched). x.reads) (h k b)),
        )

    -- member m is on the lost chip, and nothing of it is gathered
    module _ (m : ℕ) (on_it : member_chip l j m ≡ lost) where
      gathered_elsewhere : (g : ℕ → ℕ) → g m ≡ none l → gathered l y' j g ≡ gathered l y j g
      gathered_elsewhere g e = gathered_same g λ k b. elim (ℕ_discrete k m) [
        | yes q ↦ none_elsewhere (member_chip l j k) (g k) (rw q e)
        | no d ↦ itself_elsewhere (member_chip l j k) (g k) (λ q. other_member_chip l j m k d (q ∙ sym on_it))
      ]

      through_parity_elsewhere : through_parity l y' z j r m ≡ through_parity l y z j r m
      unfolding through_parity
      through_parity_elsewhere =
          rw (
            itself_elsewhere (parity_chip l j) r.parity (λ e. member_chip_other l j m (on_it ∙ sym e)),
            gathered_elsewhere (others_under_parity l m r) (under_parity_here l m r),
          )

      through_partial_elsewhere : through_partial l y' z j r m ≡ through_partial l y z j r m
      unfolding through_partial
      through_partial_elsewhere = rw (gathered_elsewhere (others_inside l m r) (others_inside_here l m r))

    parity_elsewhere : parity_chip l j ≡ lost → parity_anew l y' z j r ≡ parity_anew l y z j r
    unfolding parity_anew
    parity_elsewhere e =
        rw (gathered_same (under_parity l r) (λ m b. itself_elsewhere (member_chip l j m) (under_parity l r m) (λ q. member_chip_other l j m (q ∙ sym e))))

    rebuilt_elsewhere : (role : Role) → chip_in l j role ≡ lost → rebuilt l y' z j r role ≡ rebuilt l y z j r role
    rebuilt_elsewhere (Current m) e =
        by_test (bit r m) (λ t. rw t (through_partial_elsewhere m e)) (λ t. rw t (through_parity_elsewhere m e))
    rebuilt_elsewhere (Old m) e = through_parity_elsewhere m e
    rebuilt_elsewhere Parity e = parity_elsewhere e

    role_elsewhere : (role : Role) → fetch_role l y' z j r lost role ≡ fetch_role l y z j r lost role
    role_elsewhere role = elim (ℕ_discrete (chip_in l j role) lost) [
      | yes e ↦ elim (ℕ_discrete (number_in l r role) (none l)) [
        | yes q ↦ rw (role_none y' z j r lost role q, role_none y z j r lost role q) (none_elsewhere (chip_in l j role) (none l) refl)
        | no d ↦ rw (role_rebuilt y' z j r lost role e d, role_rebuilt y z j r lost role e d) (rebuilt_elsewhere role e)
      ]
      | no d ↦ rw (role_direct y' z j r lost role d, role_direct y z j r lost role d) (itself_elsewhere (chip_in l j role) (number_in l r role) d)
    ]

  -- a read depends on no page of the lost chip
  pub fetch_elsewhere : (s t : Images) (lost i : ℕ) → t.records ≡ s.records → t.slots ≡ s.slots
      → ((c : ℕ) → c ≢ lost → page_at l t.chips c ≡ page_at l s.chips c) → fetch l t lost i ≡ fetch l s lost i
  unfolding fetch fetch_member fetch_in
  fetch_elsewhere s t lost i e q elsewhere =
      rw (
        e,
        q,
        role_elsewhere (page_at l s.chips) (page_at l t.chips) (slot_at l s.slots) lost elsewhere (stripe_of l i)
            (record_at l s.records (stripe_of l i)) (Current (member_of l i)),
      )

  pub fetch_unwritten : (s : Images) (lost i : ℕ) → (record_at l s.records (stripe_of l i)).current (member_of l i) ≡ none l
      → fetch l s lost i ≡ unwritten l
  unfolding fetch fetch_member
  fetch_unwritten s lost i e = rw (eq-eqb ((record_at l s.records (stripe_of l i)).current (member_of l i)) (none l) e)

  -- a page that was written is fetched
  fetch_written : (s : Images) (lost i : ℕ) → (record_at l s.records (stripe_of l i)).current (member_of l i) ≢ none l
      → fetch l s lost i ≡ fetch_in l s lost (stripe_of l i) (Current (member_of l i))
  unfolding fetch fetch_member
  fetch_written s lost i d = rw (ne_eqb ((record_at l s.records (stripe_of l i)).current (member_of l i)) (none l) d)

  -- how a page is got
  pub fetch_origin : (s : Images) (lost i : ℕ) → (fetch l s lost i).origin
      ≡ origin_by (not (is_none l ((record_at l s.records (stripe_of l i)).current (member_of l i)))) (eqb (member_chip l (stripe_of l i) (member_of l i)) lost)
      (bit (record_at l s.records (stripe_of l i)) (member_of l i))
  unfolding fetch fetch_member fetch_in fetch_role itself through_partial through_parity
  fetch_origin s lost i =
      let r = record_at l s.records (stripe_of l i) in
      by_test (is_none l (r.current (member_of l i)))
      (λ e. rw e)
      (λ e.
      by_test (eqb (member_chip l (stripe_of l i) (member_of l i)) lost)
      (λ t. by_test (bit r (member_of l i)) (λ b. rw (e, t, b)) (λ b. rw (e, t, b)))
      (λ t. rw (e, t)))

  module _ (w : Within l) where
    -- a page that was written, where no chip is lost
    pub fetch_direct : (s : Images) (i : ℕ) → (record_at l s.records (stripe_of l i)).current (member_of l i) ≢ none l
        → fetch l s no_chip i
        ≡ itself l (page_at l s.chips) (member_chip l (stripe_of l i) (member_of l i)) ((record_at l s.records (stripe_of l i)).current (member_of l i))
    unfolding fetch_in
    fetch_direct s i d =
        let j = stripe_of l i in
        fetch_written s no_chip i d
        ∙ page_there l w (page_at l s.chips) (slot_at l s.slots) j (record_at l s.records j) (Current (member_of l i))
        (member_chip_fits l j (member_of l i) (member_fits l w i))

    module _ (s : Images) (sound : Sound l s) (contents : Data l s) where
      -- a page in any role is the same with any chip lost
      role_any : (lost j : ℕ) → j < S → (role : Role) → MemberIn l role
          → (fetch_in l s lost j role).bytes ≡ (itself l (page_at l s.chips) (chip_in l j role) (number_in l (record_at l s.records j) role)).bytes
      unfolding fetch_in
      role_any lost j stripe role member =
          let y = page_at l s.chips in
          let z = slot_at l s.slots in
          let r = record_at l s.records j in
          elim (ℕ_discrete (chip_in l j role) lost) [
            | yes e ↦ elim (ℕ_discrete (number_in l r role) (none l)) [
              | yes q ↦ rw (role_none y z j r lost role q, q)
              | no d ↦
                  rw (role_rebuilt y z j r lost role e d)
                  (rebuilt_right l w y (pages_whole l s sound.chips) z j r (sound.stripes.stripe j stripe) (contents j stripe) role member d)
            ]
            | no d ↦ rw (role_direct y z j r lost role d)
          ]

      -- with any chip lost a read gives the same bytes
      pub fetch_rebuilt : (lost i : ℕ) → i < N * S → (fetch l s lost i).bytes ≡ (fetch l s no_chip i).bytes
      fetch_rebuilt lost i page =
          let r = record_at l s.records (stripe_of l i) in
          elim (ℕ_discrete (r.current (member_of l i)) (none l)) [
            | yes e ↦ rw (fetch_unwritten s lost i e, fetch_unwritten s no_chip i e)
            | no d ↦
                rw (fetch_direct s i d, fetch_written s lost i d)
                (role_any lost (stripe_of l i) (stripe_fits l w i page) (Current (member_of l i)) (member_fits l w i))
          ]
