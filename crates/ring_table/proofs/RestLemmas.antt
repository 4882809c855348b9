-- What a read leaves is a history of its own, from the place of the read.
use Rattle.ring_table.specs.{Staged.Bodies, Staged.in_words, Closed.restarted}
use Rattle.std.proofs.Common.{◌≡◌, ℕ, ◌+◌, ◌-◌, ◌≤◌, ◌<◌, List, [], ◌∷◌, ◌++◌, cond, ltb, sym, refl, ap, ◌∙◌, inl, inr, ⊎_elim, length, lt-ltb, le-ltb, arith}
use Rattle.std.proofs.{Math.Logic.dite, Math.Decide.ℕ_discrete, lemmas.Bool.cases_lt}
use Rattle.ring_layout.specs.{Places.next_place, Places.end_of, Picture.claim_word, Picture.word_at}
use Rattle.ring_layout.{specs.Headers.padding_header, proofs.PlaceLemmas.next_fixed, proofs.PlaceLemmas.next_le}
use Rattle.ring_layout.proofs.PictureLemmas.{word_at_padding, word_at_padding_header, word_at_record, word_at_rest}
use Rattle.ring_table.specs.Staged.{StagedClaim, PlacedMessage, Stage, Moved, Padded, Stored, IsStored, AreStored, claim_of, unplaced, claim_end, staged_span, masked_padding, masked_record, staged_word, staged_word_at, ArePlaced, staged_end}
use Rattle.ring_table.specs.Passing.{AreSettled, placed_message, shown_at, placed_committed_of, Reaches}
use Rattle.ring_table.proofs.StagedWords.{staged_word-padding, staged_word-padding_behind, staged_word-record}
use Rattle.ring_table.proofs.ReachLemmas.{reach_bounds}

-- without their places the claims end where they ended
pub end_of-claims_of : (C e : ℕ) (cs : List StagedClaim) → ArePlaced C e cs
    → end_of C e (unplaced cs) ≡ staged_end e cs
end_of-claims_of C e [] placed = refl
end_of-claims_of C e (c ∷ cs) placed = ap (λ k. end_of C (k + staged_span c) (unplaced cs)) (sym placed.0.place)
    ∙ end_of-claims_of C (claim_end c) cs placed.1

pub stored_padding : (t : Stage) (word : ℕ) → IsStored t → masked_padding t word ≡ word
stored_padding Moved word stored = absurd stored
stored_padding Padded word stored = absurd stored
stored_padding (Stored s) word stored = refl

pub stored_record : (t : Stage) (word : ℕ) → IsStored t → masked_record t word ≡ word
stored_record Moved word stored = absurd stored
stored_record Padded word stored = absurd stored
stored_record (Stored s) word stored = refl

here : (c : StagedClaim) (cs : List StagedClaim) (p : ℕ) → p < claim_end c → staged_word_at in_words (c ∷ cs) p ≡ staged_word in_words c p
here c cs p lt = ap (λ b. cond b (staged_word in_words c p) (staged_word_at in_words cs p)) (lt-ltb p (claim_end c) lt)

-- if all headers are stored, the two pictures are one
pub staged_word_at-claims_of : (C e : ℕ) (cs : List StagedClaim) (p : ℕ) → ArePlaced C e cs → AreStored cs
    → staged_word_at in_words cs p ≡ word_at C e (unplaced cs) p
unfolding word_at
staged_word_at-claims_of C e [] p placed stored = refl
staged_word_at-claims_of C e (c ∷ cs) p placed stored =
    let from_is : c.from ≡ e = placed.0.from in
    let place : ℕ = next_place C e (staged_span c) in
    let place_is : c.place ≡ place = placed.0.place in
    elim (cases_lt p c.place) as (λ _. staged_word_at in_words (c ∷ cs) p ≡ word_at C e (claim_of c ∷ unplaced cs) p) [
      | inl in_padding ↦ here c cs p (omega arith) ∙ dite (ℕ_discrete p c.from)
          (λ same.
          let there : p ≡ e = same ∙ from_is in
          staged_word-padding in_words c p same in_padding ∙ stored_padding c.stage (padding_header (c.place - c.from)) stored.0
          ∙ (λ i. padding_header (place_is i - from_is i))
          ∙ sym (ap (word_at C e (claim_of c ∷ unplaced cs)) there
          ∙ word_at_padding_header C e (claim_of c) (unplaced cs) (omega arith)))
          (λ other. staged_word-padding_behind in_words c p other in_padding
          ∙ sym (word_at_padding C e p (claim_of c) (unplaced cs) (omega arith)
          (λ same. other (same ∙ sym from_is))))
      | inr behind_padding ↦
          elim (cases_lt p (claim_end c)) as (λ _. staged_word_at in_words (c ∷ cs) p
          ≡ word_at C e (claim_of c ∷ unplaced cs) p) [
            | inl in_record ↦
                here c cs p in_record ∙ staged_word-record in_words c p behind_padding
                ∙ stored_record c.stage (claim_word (claim_of c) (p - c.place)) stored.0
                ∙ ap (λ k. claim_word (claim_of c) (p - k)) place_is
                ∙ sym (word_at_record C e p (claim_of c) (unplaced cs) (omega arith) (omega arith))
            | inr behind ↦
                ap (λ b. cond b (staged_word in_words c p) (staged_word_at in_words cs p)) (le-ltb p (claim_end c) behind)
                ∙ staged_word_at-claims_of C (claim_end c) cs p placed.1 stored.1
                ∙ ap (λ k. word_at C (k + staged_span c) (unplaced cs) p) place_is
                ∙ sym (word_at_rest C e p (claim_of c) (unplaced cs) (omega arith))
          ]
    ]

-- ---- what was passed, and what is left

pub record Splits (B : Bodies) (C s e : ℕ) (cs : List StagedClaim) (got : List PlacedMessage) : Type 0 where
  pub taken : List StagedClaim
  pub rest : List StagedClaim
  pub whole : cs ≡ taken ++ rest
  pub settled : AreSettled taken
  pub messages : got ≡ placed_committed_of taken
  pub below : staged_end e taken ≤ s
  pub placed : ArePlaced C s (restarted s rest)
  pub ends : staged_end s (restarted s rest) ≡ staged_end e cs
  pub words : (p : ℕ) → s ≤ p → staged_word_at B cs p ≡ staged_word_at B (restarted s rest) p

pub splits : (B : Bodies) (C s e : ℕ) (cs : List StagedClaim) (got : List PlacedMessage) → 128 ≤ C → ArePlaced C e cs
    → Reaches s e cs got → Splits B C s e cs got
splits B C s e [] got big placed r =
    let at : s ≡ e = r.0 in
    record {
      taken = [];
      rest = [];
      whole = refl;
      settled = tt;
      messages = r.1;
      below = omega arith;
      placed = tt;
      ends = r.0;
      words = λ _ _. refl;
    }
splits B C s e (c ∷ cs) got big placed r =
    let lies = placed.0 in
    let a : ℕ = staged_span c in
    let short = lies.message.short in
    let n : ℕ = length c.message.body in
    let d : StagedClaim = record { from = s; place = c.place; message = c.message; stage = c.stage } in
    let left : got ≡ [] → e ≤ s → c.place ≡ next_place C s a → ((p : ℕ) → s ≤ p → staged_word B c p ≡ staged_word B d p)
    → Splits B C s e (c ∷ cs) got =
    λ none above place plain. record {
      taken = [];
      rest = c ∷ cs;
      whole = refl;
      settled = tt;
      messages = none;
      below = above;
      placed = (record { from = refl; place = place; message = lies.message }, placed.1);
      ends = refl;
      words = λ p le. ap (λ k. cond (ltb p (claim_end c)) k (staged_word_at B cs p)) (plain p le);
    } in
    ⊎_elim
    (λ alt.
    let at : s ≡ e = alt.0 in
    let same : c ≡ d =
    λ i. record { from = (lies.from ∙ sym at) i; place = c.place; message = c.message; stage = c.stage } in
    left alt.1 (omega arith) (lies.place ∙ ap (λ k. next_place C k a) (sym at))
    (λ p le. ap (λ (x : StagedClaim). staged_word B x p) same))
    (⊎_elim
    (λ alt.
    let at : s ≡ c.place = alt.0 in
    let place : c.place ≡ next_place C e a = lies.place in
    let on = next_le C e a in
    left alt.2 (omega arith)
    (lies.place ∙ sym (next_fixed C e a (omega arith) (omega arith))
    ∙ ap (λ k. next_place C k a) (sym (at ∙ lies.place)))
    (λ p le. staged_word-record B c p (omega arith) ∙ sym (staged_word-record B d p (omega arith))))
    (λ alt.
    let later : List PlacedMessage = alt.1.0 in
    let bounds = reach_bounds C s (claim_end c) cs later placed.1 alt.1.2 in
    let above = bounds.0 in
    let t = splits B C s (claim_end c) cs later big placed.1 alt.1.2 in
    record {
      taken = c ∷ t.taken;
      rest = t.rest;
      whole = ap (λ l. c ∷ l) t.whole;
      settled = (alt.0, t.settled);
      messages = alt.1.1 ∙ ap (λ l. shown_at c.stage (placed_message c) ++ l) t.messages;
      below = t.below;
      placed = t.placed;
      ends = t.ends;
      words = λ p le. ap (λ b. cond b (staged_word B c p) (staged_word_at B cs p)) (le-ltb p (claim_end c) (omega arith))
          ∙ t.words p le;
    })) r

pub stored_rest : (s : ℕ) (taken rest : List StagedClaim) → AreStored (taken ++ rest) → AreStored (restarted s rest)
stored_rest s [] [] stored = tt
stored_rest s [] (c ∷ cs) stored = stored
stored_rest s (c ∷ cs) rest stored = stored_rest s cs rest stored.1

pub claims_of-restarted : (s : ℕ) (rest : List StagedClaim) → unplaced (restarted s rest) ≡ unplaced rest
claims_of-restarted s [] = refl
claims_of-restarted s (c ∷ cs) = refl
