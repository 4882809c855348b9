-- What settling an open claim, and putting bytes into it, does to the words.
use Rattle.std.proofs.Common.{◌≡◌, ◌≢◌, ℕ, ◌+◌, ◌/◌, ◌<◌, ◌≤◌, List, length, slice_index, slice_set, refl, ap, sym, ◌∙◌, arith, inl, inr, All, pos, neg_ℤ, get_or-set_other, get_or-set_same, length-set}
use Rattle.std.proofs.lemmas.Nat.{mod_below}
use Rattle.ring_layout.specs.{declared.message.Claim.Claim, declared.message.ClaimState.ClaimState, Bytes.HoldsBytes}
use Rattle.ring_layout.specs.{History.span, History.overwritten, Headers.header, Headers.header_of}
use Rattle.ring_layout.{specs.Places.index, specs.Places.next_place, proofs.WordBytes.length-overwritten}
use Rattle.ring_words.specs.{Ring.Ring, Ring.IsRing, Open.ClaimAt, Open.IsOpenClaim, Change.put_into, Change.settled_as}
use Rattle.ring_words.proofs.{HeadLemmas.header_open, MiddleLemmas.Rewrites, PutLemmas.overwritten_small}

-- a settled header is stored
pub settle_rewrites : (r : Ring) (t : ClaimAt) (state : ClaimState) (word : ℕ) → IsRing r
    → ((c : Claim) → c.message.type_id ≡ t.type_id → length c.message.body ≡ t.len
    → word ≡ header_of (settled_as state c))
    → Rewrites r t (settled_as state) (slice_set r.words (index r.capacity t.place) word)
settle_rewrites r t state word ok is =
    let low = mod_below t.place r.capacity (omega (arith, ok.capacity.least)) in
    let fits : index r.capacity t.place < length r.words = omega (arith, ok.length, low) in
    record {
      same_span = λ c len. refl;
      is_lawful = λ c len lawful. lawful;
      same_length = length-set r.words _ _;
      header_word = λ c open_there type_id len old. get_or-set_same r.words (index r.capacity t.place) word 0 fits
          ∙ is c type_id len;
      body_words = λ c len lawful held k lt. get_or-set_other r.words (index r.capacity t.place)
          (index r.capacity t.place + 1 + k) word 0 (λ e. omega (arith, e)) ∙ held k lt;
      others = λ i out. get_or-set_other r.words (index r.capacity t.place) i word 0
          (λ e. elim out as (λ _. ⊥) [ inl b ↦ omega (arith, e) | inr b ↦ omega (arith, e) ]);
    }

-- a claim other than the one at a place is not changed there
pub settled_stays : (C place : ℕ) (state : ClaimState) (d : ClaimAt) → d.place ≢ place → (c : Claim) (e p : ℕ)
    → p ≡ place → p ≡ d.place → IsOpenClaim C e (settled_as state c) d
settled_stays C place state d ne c e p here there = absurd (ne (sym there ∙ here))

-- bytes are put into the body
pub put_rewrites : (r : Ring) (t : ClaimAt) (offset : ℕ) (bytes new : List ℕ) → offset + length bytes ≤ t.len
    → All (λ b. b < 256) bytes → length new ≡ length r.words
    → ((body : List ℕ) → All (λ b. b < 256) body → offset + length bytes ≤ length body
    → HoldsBytes r.words (index r.capacity t.place + 1) body
    → HoldsBytes new (index r.capacity t.place + 1) (overwritten offset bytes body))
    → ((i : ℕ) → i < index r.capacity t.place + 1 → slice_index new i ≡ slice_index r.words i)
    → ((i : ℕ) → index r.capacity t.place + 1 + (offset + length bytes + 7) / 8 ≤ i
    → slice_index new i ≡ slice_index r.words i)
    → Rewrites r t (put_into offset bytes) new
put_rewrites r t offset bytes new le small size inside below above = record {
  same_span = λ c len. ap span (sym (length-overwritten offset bytes c.message.body (omega arith)));
  is_lawful = λ c len lawful. record {
    type_id = lawful.type_id;
    type_fits = lawful.type_fits;
    short =
        let same = length-overwritten offset bytes c.message.body (omega arith) in omega (arith, same, lawful.short);
    bytes = overwritten_small offset bytes c.message.body (omega arith) lawful.bytes small;
  };
  same_length = size;
  header_word = λ c open_there type_id len old.
      let same = length-overwritten offset bytes c.message.body (omega arith) in
      below (index r.capacity t.place) (omega arith) ∙ old ∙ header_open c open_there
      ∙ ap (λ n. header (neg_ℤ (pos (8 + n))) c.message.type_id) (sym same)
      ∙ sym (header_open (put_into offset bytes c) open_there);
  body_words = λ c len lawful held. inside c.message.body lawful.bytes (omega arith) held;
  others = λ i out. elim out as (λ _. slice_index new i ≡ slice_index r.words i)
      [ inl b ↦ below i (omega arith) | inr b ↦ above i (omega arith) ];
}

-- an open claim stays what it is
pub put_stays : (C e len : ℕ) (offset : ℕ) (bytes : List ℕ) (c : Claim) (d : ClaimAt) → offset + length bytes ≤ len
    → length c.message.body ≡ len → IsOpenClaim C e c d → IsOpenClaim C e (put_into offset bytes c) d
put_stays C e len offset bytes c d le is o =
    let same = length-overwritten offset bytes c.message.body (omega arith) in
    record {
      at_place = ap (λ n. next_place C e (span n)) same
          ∙ o.at_place;
      is_open = o.is_open;
      type_id = o.type_id;
      len = same ∙ o.len;
    }
