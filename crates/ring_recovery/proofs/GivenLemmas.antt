-- What the headers of claims give: messages, open claims, and no finding.
use Rattle.std.proofs.Common.{◌≡◌, ℕ, ◌+◌, ◌%◌, ◌<◌, ◌≤◌, Bool, true, false, cond, List, [], ◌∷◌, ◌++◌, length, slice_index, refl, sym, ap, ◌∙◌, arith, None, ℤ, nat_abs}
use Rattle.std.specs.Prelude.{⊤}
use Rattle.ring_layout.specs.{Lists.or_else, Places.IsCapacity, Places.index, Places.rounded}
use Rattle.ring_layout.proofs.PlaceLemmas.{next_le}
use Rattle.ring_table.specs.{Passing.IsSettled, Passing.placed_committed_of, Rescued.unsettled_count}
use Rattle.ring_table.specs.Staged.{elsewhere, ArePlaced, body_word, claim_end, staged_end, staged_span, staged_word_at}
use Rattle.ring_table.specs.declared.claim.{PlacedMessage.PlacedMessage, StagedClaim.StagedClaim}
use Rattle.ring_recovery.specs.Headers.{bytes_in, headers_finding, is_committed, is_open, message_at, messages_of, open_of}
use Rattle.ring_recovery.specs.{Recovered.all_placed, declared.message.RecoveredMessage.RecoveredMessage}
use Rattle.ring_recovery.proofs.HeaderLemmas.{IsHeader, bytes_are, no_finding}

-- the slots have this body after the header at this place
abbrev pub HaveBody : ℕ → List ℕ → ℕ → List ℕ → Type 0
HaveBody C slots place body = (at : ℕ) → at % 8 ≡ 0 → at < length body
    → slice_index slots (index C (place + 8 + at)) ≡ body_word body at

-- the slots have the bodies of the settled claims
abbrev pub HaveAll : ℕ → List ℕ → List StagedClaim → Type 0
HaveAll C slots [] = ⊤
HaveAll C slots (c ∷ cs) = (IsSettled c.stage → HaveBody C slots c.place c.message.body) × HaveAll C slots cs

-- ---- one header more

one_more : (b : Bool) (m : RecoveredMessage) (ms : List RecoveredMessage)
    → all_placed (cond b (m ∷ ms) ms) ≡ all_placed (cond b (m ∷ []) []) ++ all_placed ms
one_more true m ms = refl
one_more false m ms = refl

module _ (C tail : ℕ) (slots : List ℕ) where
  -- the headers give the messages and the open claims of these claims, and have no finding from e on
  pub record Gives (e : ℕ) (cs : List StagedClaim) (hs : List (ℕ × ℕ)) : Type 0 where
    pub messages : all_placed (messages_of C slots tail hs) ≡ placed_committed_of cs
    pub claims : open_of hs ≡ unsettled_count cs
    pub none : (end : ℕ) → end ≤ e → headers_finding C tail end hs ≡ None

  pub gives_below : (e f : ℕ) (cs : List StagedClaim) (hs : List (ℕ × ℕ)) → f ≤ e → Gives e cs hs → Gives f cs hs
  gives_below e f cs hs le g = record {
    messages = g.messages;
    claims = g.claims;
    none = λ end low. g.none end (omega arith);
  }

  -- what a header gives
  pub record Adds (p w end : ℕ) (ms : List PlacedMessage) (k : ℕ) : Type 0 where
    pub len : ℤ
    pub type_id : ℤ
    pub «header» : IsHeader C tail p len type_id w
    pub ends : p + rounded (nat_abs len) ≤ end
    pub messages : all_placed (cond (is_committed C tail p w) (message_at C slots p w ∷ []) []) ≡ ms
    pub claims : cond (is_open w) 1 0 ≡ k

  pub adds : (p w end : ℕ) (ms : List PlacedMessage) (k : ℕ) (cs ds : List StagedClaim) (hs : List (ℕ × ℕ))
      → Adds p w end ms k → placed_committed_of ds ≡ ms ++ placed_committed_of cs
      → unsettled_count ds ≡ k + unsettled_count cs
      → Gives end cs hs → Gives p ds ((p, w) ∷ hs)
  adds p w end ms k cs ds hs a sees waits g =
      let h = a.«header» in
      record {
        messages = one_more (is_committed C tail p w) (message_at C slots p w) (messages_of C slots tail hs)
            ∙ (λ i. a.messages i ++ g.messages i) ∙ sym sees;
        claims = (λ i. a.claims i + g.claims i) ∙ sym waits;
        none = λ low le.
            let next = ap (λ n. p + rounded n) (bytes_are C tail p a.len a.type_id w h) in
            let ends = a.ends in
            ap (λ x. or_else x (headers_finding C tail (p + rounded (bytes_in w)) hs))
            (no_finding C tail p a.len a.type_id w h low le)
            ∙ g.none (p + rounded (bytes_in w)) (omega (arith, next, ends));
      }

-- ---- claims that are found

-- the claims from e on are before the tail, and are what is found there
pub record AreShown (C tail : ℕ) (shown : ℕ → ℕ) (e : ℕ) (cs : List StagedClaim) : Type 0 where
  pub capacity : IsCapacity C
  pub aligned : e % 8 ≡ 0
  pub placed : ArePlaced C e cs
  pub ends : staged_end e cs ≡ tail
  pub shows : (p : ℕ) → p % 8 ≡ 0 → e ≤ p → p < tail → shown p ≡ staged_word_at elsewhere cs p

pub far : (C e : ℕ) (cs : List StagedClaim) → ArePlaced C e cs → e ≤ staged_end e cs
far C e [] h = omega arith
far C e (c ∷ cs) h =
    let rest = far C (claim_end c) cs h.1 in
    let on = next_le C e (staged_span c) in
    let place = h.0.place in
    omega arith
