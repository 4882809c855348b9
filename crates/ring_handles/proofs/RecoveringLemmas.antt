-- Messages of a ring whose process died, laid into a buffer.
use Rattle.std.proofs.Common.{◌≡◌, ℕ, ◌+◌, ◌-◌, ◌*◌, ◌/◌, ◌%◌, ◌≤◌, Bool, true, false, List, [], ◌∷◌, length, arith, refl, sym, ap, subst, ◌≢◌, ℤ, Some, None, Option, Result, Ok, Err, if◌then◌else◌, nat_lt, not, ◌||◌, ◌==◌}
use Rattle.std.proofs.lemmas.{List.FromFn.length-map-range_with_len, Bool.Decides.nat_tests}
use Rattle.ring_layout.specs.{Layout.ring_words, Lists.or_else, Places.IsCapacity, Places.rounded, Refusals.IsRefusedBy}
use Rattle.ring_counters.specs.Records.{byte_at}
use Rattle.ring_snapshot.specs.RingRecords.{is_length, length_in, positions_finding, type_in}
use Rattle.ring_snapshot.specs.declared.ring_finding.RingFinding.{RingFinding}
use Rattle.ring_snapshot.specs.declared.ring_finding.RingFinding.TheVariants.{BadBodies, BadLength, BadSize, BadType, TailBeforeHead, TailTooFar, UnalignedPosition}
use Rattle.ring_recovery.specs.Headers.{all_headers, bytes_in, finding_of, head_of, header_finding, headers_finding, is_committed, is_type, message_at, messages_of, tail_of}
use Rattle.ring_recovery.specs.{Image.Remains, Recovered.IsRecoveredOf, Recovered.Reads, Recovered.all_placed}
use Rattle.ring_recovery.specs.declared.{message.RecoveredMessage.RecoveredMessage, recovered.Recovered.Recovered}
use Rattle.ring_rings.specs.Reading.{messages_of as without_places}
use Rattle.ring_handles.specs.Batch.{laid_end, span_in}
use Rattle.ring_handles.specs.Recovering.{Finds, LaysAll, LaysOrFinds, Recovers, Recovery}

-- The bytes that messages take ---------------------------------------------------

-- each message takes 16 bytes or more
laid_end_least : (at : ℕ) (ms : List RecoveredMessage)
    → at + 16 * length ms ≤ laid_end at (without_places (all_placed ms))
laid_end_least at [] = omega arith
laid_end_least at (m ∷ ms) = omega (arith, laid_end_least (at + span_in (length m.body)) ms)

pub few : (ms : List RecoveredMessage) (most : ℕ) → laid_end 0 (without_places (all_placed ms)) ≤ most
    → 16 * length ms ≤ most
few ms most h = omega (arith, laid_end_least 0 ms)

-- the first message has room
pub first_fits : (at most : ℕ) (all : List RecoveredMessage) (m : RecoveredMessage) (ms : List RecoveredMessage)
    → all ≡ m ∷ ms → laid_end at (without_places (all_placed all)) ≤ most → at + span_in (length m.body) ≤ most
first_fits at most all m ms is h =
    let fits : laid_end at (without_places (all_placed (m ∷ ms))) ≤ most =
    subst (λ l. laid_end at (without_places (all_placed l)) ≤ most) is h in
    omega (arith, laid_end_least (at + span_in (length m.body)) ms)

-- each message takes as much as its record and one word more
pub span_within : (n : ℕ) → 8 ≤ n → span_in (n - 8) ≤ 2 * rounded n
span_within n least = omega arith

-- one message more, or not
one_more : (b : Bool) (m : RecoveredMessage) (ms : List RecoveredMessage) (used most : ℕ)
    → laid_end (used + span_in (length m.body)) (without_places (all_placed ms)) ≤ most
    → laid_end used (without_places (all_placed ms)) ≤ most
    → laid_end used (without_places (all_placed (if b then m ∷ ms else ms))) ≤ most
one_more true m ms used most with without = with
one_more false m ms used most with without = without

-- Headers without a finding ------------------------------------------------------

both_none : {A : Type 0} (o p : Option A) → or_else o p ≡ None → (o ≡ None) × (p ≡ None)
both_none (Some a) p e = let clash : Some a ≡ None = e in absurd cc
both_none None p e = (refl, e)

passes : (late fits typed : Bool) (f g : RingFinding)
    → (if late || not fits then Some f else (if typed then None else Some g)) ≡ None
    → (late ≡ false) × (fits ≡ true)
passes true fits typed f g e = let clash : Some f ≡ None = e in absurd cc
passes false false typed f g e = let clash : Some f ≡ None = e in absurd cc
passes false true typed f g e = (refl, refl)

-- a header without a finding begins at the end of the record before it, or above, and its record ends at or below the
-- tail
header_ends : (C tail end p w : ℕ) → header_finding C tail end p w ≡ None
    → (end ≤ p) × (8 ≤ bytes_in w) × (p + rounded (bytes_in w) ≤ tail)
header_ends C tail end p w none =
    let pass = passes (nat_lt p end) (is_length C tail p (bytes_in w)) (is_type (length_in w) (type_in w))
    (BadLength (p % C) (length_in w)) (BadType (p % C) (type_in w)) none in
    let late : nat_lt p end ≡ false = pass.0 in
    let fits : is_length C tail p (bytes_in w) ≡ true = pass.1 in
    (grind (arith, nat_tests, late), grind (arith, fits), grind (arith, fits))

-- the messages of headers without a finding take at most twice the bytes from the end of the record before them on
headers_within : (C tail end : ℕ) (slots : List ℕ) (hs : List (ℕ × ℕ)) (used : ℕ) → end ≤ tail
    → headers_finding C tail end hs ≡ None
    → laid_end used (without_places (all_placed (messages_of C slots tail hs))) ≤ used + 2 * (tail - end)
headers_within C tail end slots [] used order none = omega arith
headers_within C tail end slots (h ∷ hs) used order none =
    let n : ℕ = bytes_in h.1 in
    let next : ℕ = h.0 + rounded n in
    let m : RecoveredMessage = message_at C slots h.0 h.1 in
    let parts = both_none (header_finding C tail end h.0 h.1) (headers_finding C tail next hs) none in
    let ends = header_ends C tail end h.0 h.1 parts.0 in
    let size : length m.body ≡ n - 8 = length-map-range_with_len (byte_at slots) (h.0 % C + 8) (n - 8) in
    let takes : span_in (length m.body) ≤ 2 * rounded n =
    subst (λ k. span_in k ≤ 2 * rounded n) (sym size) (span_within n ends.1) in
    one_more (is_committed C tail h.0 h.1) m (messages_of C slots tail hs) used (used + 2 * (tail - end))
    (let rest = headers_within C tail next slots hs (used + span_in (length m.body)) ends.2 parts.1 in
    omega arith)
    (let rest = headers_within C tail next slots hs used ends.2 parts.1 in omega arith)

positions_pass : (a b c d : Bool) (f g h : RingFinding)
    → (if not a || not b then Some f else (if c then Some g else (if d then Some h else None))) ≡ None
    → (c ≡ false) × (d ≡ false)
positions_pass true true true d f g h e = let clash : Some g ≡ None = e in absurd cc
positions_pass true true false true f g h e = let clash : Some h ≡ None = e in absurd cc
positions_pass true true false false f g h e = (refl, refl)
positions_pass true false c d f g h e = let clash : Some f ≡ None = e in absurd cc
positions_pass false b c d f g h e = let clash : Some f ≡ None = e in absurd cc

-- what is recovered takes at most twice the capacity
pub within : (C : ℕ) (words slots : List ℕ) → finding_of C words slots ≡ None
    → laid_end 0 (without_places (all_placed (messages_of C slots (tail_of C words) (all_headers C words slots))))
    ≤ 2 * C
within C words slots none =
    let head : ℕ = head_of C words in
    let tail : ℕ = tail_of C words in
    let size : Option RingFinding = if length slots == C / 8 then None else Some (BadBodies (length slots)) in
    let positions : Option RingFinding = positions_finding C head tail in
    let headers : Option RingFinding = headers_finding C tail head (all_headers C words slots) in
    let parts = both_none positions headers (both_none size (or_else positions headers) none).1 in
    let pass = positions_pass (head % 8 == 0) (tail % 8 == 0) (nat_lt tail head) (nat_lt (head + C) tail)
    (UnalignedPosition head tail) (TailBeforeHead head tail) (TailTooFar head tail) parts.0 in
    let before : nat_lt tail head ≡ false = pass.0 in
    let far : nat_lt (head + C) tail ≡ false = pass.1 in
    let order : head ≤ tail = grind (arith, nat_tests, before) in
    let room : tail ≤ head + C = grind (arith, nat_tests, far) in
    let most = headers_within C tail head slots (all_headers C words slots) 0 order parts.1 in
    omega arith

-- what is not refused has no finding
pub not_refused : {T : Type 0} (finding : Option RingFinding) (x : T) → IsRefusedBy finding (Ok x) → finding ≡ None
not_refused None x h = refl
not_refused {T} (Some f) x h = let clash : Ok x ≡ Err f = h in absurd cc

abbrev error : RingFinding → Result Recovered RingFinding
error f = Err f

-- what is refused has its finding
refused_by : (finding : Option RingFinding) (f : RingFinding) → IsRefusedBy finding (error f) → finding ≡ Some f
refused_by None f h = let clash : false ≡ true = h in absurd cc
refused_by (Some g) f h =
    let is : error f ≡ Err g = h in
    let same : g ≡ f = cc in
    ap (λ x. Some x) same

-- The call ---------------------------------------------------------------------

module _ (words slots : List ℕ) where
  -- the messages of r are laid
  pub laid_as : (r : Recovered) (before after : Recovery) (code : ℤ)
      → ((C start : ℕ) (m : Remains C start words slots) → IsRecoveredOf m.rule.kept.hist m.rule.kept.consumer r)
      → ((C : ℕ) → IsCapacity C → length words ≡ ring_words C → IsRefusedBy (finding_of C words slots) (Ok r))
      → ((C : ℕ) → IsCapacity C → length words ≡ ring_words C → Reads C words slots r)
      → IsCapacity r.capacity → length words ≡ ring_words r.capacity → LaysAll r before after code
      → Recovers words slots before after code
  laid_as r before after code recovered refused reads lawful size lays = record {
    recovered = λ C start m. (r, (recovered C start m, lays));
    no_ring = λ none. absurd (none r.capacity lawful size);
    ring = λ C ok long.
        let Holds : Recovered → Type 0 = λ x. Reads C words slots x in
        subst (λ o. LaysOrFinds o Holds before after code)
        (sym (not_refused (finding_of C words slots) r (refused C ok long))) (r, (reads C ok long, lays));
  }

  -- the finding is put out
  pub found_as : (f : RingFinding) (before after : Recovery) (code : ℤ)
      → ((C start : ℕ) (m : Remains C start words slots) → ⊥)
      → (((C : ℕ) → IsCapacity C → length words ≢ ring_words C) → error f ≡ Err (BadSize (length words)))
      → ((C : ℕ) → IsCapacity C → length words ≡ ring_words C
      → IsRefusedBy (finding_of C words slots) (error f))
      → Finds f before after code → Recovers words slots before after code
  found_as f before after code recovered no_ring refused finds = record {
    recovered = λ C start m. absurd (recovered C start m);
    no_ring = λ none.
        let is = no_ring none in
        let same : f ≡ BadSize (length words) = cc in
        subst (λ g. Finds g before after code) same finds;
    ring = λ C ok long.
        let Holds : Recovered → Type 0 = λ x. Reads C words slots x in
        subst (λ o. LaysOrFinds o Holds before after code)
        (sym (refused_by (finding_of C words slots) f (refused C ok long))) finds;
  }
