-- A record whose numbers stay is as sound as it was: none where it was none, a page where it was a page.
use Prim.Native.Nat.{ℕ, ◌<◌}
use mathlib.Core.Path.{◌≡◌, sym, ◌∙◌}
use mathlib.Core.Logic.{◌≢◌}
use Rattle.layout.specs.Layout.{Layout, none, pages}
use Rattle.layout.specs.Record.{Record, bit}
use Rattle.rules.proofs.Soundness.Statements.{Numbered, MemberSound}

module _ (l : Layout) where
  -- a number that is none where it was, and else a page's
  abbrev pub Stays : ℕ → ℕ → Type 0
  Stays a a' = (a ≡ none l → a' ≡ none l) × (a ≢ none l → (a' < pages l) × (a' ≢ none l))

  pub stays_same : {a a' : ℕ} → Numbered l a → a' ≡ a → Stays a a'
  stays_same h e = (λ n. e ∙ n, λ n. rw e (h n, n))

  stays_none : {a a' : ℕ} → Stays a a' → a' ≢ none l → a ≢ none l
  stays_none h d e = d (h.0 e)

  stays_page : {a a' : ℕ} → Stays a a' → a ≢ none l → a' ≢ none l
  stays_page h d = (h.1 d).1

  pub stays_numbered : {a a' : ℕ} → Stays a a' → Numbered l a'
  stays_numbered h d = (h.1 (stays_none h d)).0

  -- a member whose current and old numbers also stay apart
  pub member_stays : (r r' : Record) (m : ℕ) → bit r' m ≡ bit r m → Stays r.parity r'.parity
      → Stays (r.current m) (r'.current m) → Stays (r.old m) (r'.old m)
      → (r.current m ≢ r.old m → r'.current m ≢ r'.old m) → MemberSound l r m → MemberSound l r' m
  member_stays r r' m bits parity current old apart f = record {
    current = stays_numbered current;
    old = stays_numbered old;
    beyond = λ h. (current.0 (f.beyond h).0, old.0 (f.beyond h).1);
    old_under_bit_lem = λ d. bits ∙ f.old_under_bit_lem (stays_none old d);
    current_under_bit_lem = λ t. let under = f.current_under_bit_lem (sym bits ∙ t) in (stays_page current under.0, apart under.1);
    parity_under_old = λ d. stays_page parity (f.parity_under_old (stays_none old d));
    parity_under_current = λ d t. stays_page parity (f.parity_under_current (stays_none current d) (sym bits ∙ t));
  }

  -- a member whose numbers are the same
  pub member_same : (r r' : Record) (m : ℕ) → bit r' m ≡ bit r m → Stays r.parity r'.parity
      → r'.current m ≡ r.current m → r'.old m ≡ r.old m → MemberSound l r m → MemberSound l r' m
  member_same r r' m bits parity current old f =
      member_stays r r' m bits parity (stays_same f.current current) (stays_same f.old old) (λ d e. d (sym current ∙ e ∙ old)) f
