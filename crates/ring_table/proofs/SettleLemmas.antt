-- The walk that settles what lost seats left.
use Rattle.std.proofs.Common.{◌≡◌, ◌≢◌, ℕ, zero, suc, ◌+◌, ◌-◌, ◌/◌, ◌%◌, ◌^◌, ◌≤◌, ◌<◌, pos, neg_ℤ, List, [], ◌∷◌, ◌++◌, set, slice_index, get_or, sym, refl, ap, ◌∙◌, subst, inl, inr, ⊎_elim, length, lt-ltb, le-ltb, ne_eqb, append_assoc, append-nil, get_or-set_other, get_or-set_same, arith, w32}
use Rattle.std.specs.Int.{cast_unsigned}
use Rattle.std.proofs.lemmas.{Bool.cases_lt, Bool.cond-true, Bool.cond-false, Nat.mod_below}
use Rattle.ring_layout.specs.{declared.message.Message.Message, Layout.head_index, Layout.ring_words}
use Rattle.ring_layout.specs.declared.message.ClaimState.TheVariants.{Open, Committed, Aborted}
use Rattle.ring_layout.specs.{History.IsMessage, Places.IsCapacity, Places.index, Places.next_place, Places.rounded}
use Rattle.ring_layout.specs.Headers.{header_of, padding_header, padding_type}
use Rattle.ring_layout.proofs.{HeaderLemmas.fits_neg, Laps.apart, Laps.mod_aligned, PlaceLemmas.next_le}
use Rattle.ring_table.specs.Staged.{in_words, StagedClaim, PlacedMessage, Stage, Moved, Padded, Stored, IsStored, AreStored, LiesAfter, claim_of, claim_end, stage_state, staged_span, masked_record, part_word, staged_word, staged_word_at, ArePlaced, staged_end}
use Rattle.ring_table.specs.Passing.{IsSettled, AreSettled, placed_message, shown_at, placed_committed_of}
use Rattle.ring_table.specs.Rescued.{AreTight, one_if_unsettled, settled_word, silent_of, Settles, ShowsClaims}
use Rattle.ring_table.specs.Settling.{IsPlainStage, Walks, WalksOver}
use Rattle.ring_table.proofs.HeaderReads.{halves, low_half}
use Rattle.ring_table.proofs.{PlainLemmas.plainly, StagedWords.staged_word-header, StagedWords.staged_word-body}
use Rattle.ring_table.proofs.{ReachLemmas.stored_of, RestLemmas.staged_word_at-claims_of, RestLemmas.stored_record}
use Rattle.ring_table.proofs.StagedPlaces.{capacity_aligned, end_le, nothing_behind}

-- a claim settled for good
abbrev pub settled_stage : Stage → Stage
settled_stage Moved = Stored Aborted
settled_stage Padded = Stored Aborted
settled_stage (Stored Open) = Stored Aborted
settled_stage (Stored Committed) = Stored Committed
settled_stage (Stored Aborted) = Stored Aborted

abbrev pub settled : StagedClaim → StagedClaim
settled c = record { from = c.from; place = c.place; message = c.message; stage = settled_stage c.stage }

is_settled : (t : Stage) → IsSettled (settled_stage t)
is_settled Moved = tt
is_settled Padded = tt
is_settled (Stored Open) = tt
is_settled (Stored Committed) = tt
is_settled (Stored Aborted) = tt

shows_same : (t : Stage) (m : PlacedMessage) → shown_at (settled_stage t) m ≡ shown_at t m
shows_same Moved m = refl
shows_same Padded m = refl
shows_same (Stored Open) m = refl
shows_same (Stored Committed) m = refl
shows_same (Stored Aborted) m = refl

-- ---- one claim more at the end

pub snoc_placed : (C e : ℕ) (cs : List StagedClaim) (x : StagedClaim) → ArePlaced C e cs → LiesAfter C (staged_end e cs) x
    → ArePlaced C e (cs ++ x ∷ [])
snoc_placed C e [] x placed lies = (lies, tt)
snoc_placed C e (c ∷ cs) x placed lies = (placed.0, snoc_placed C (claim_end c) cs x placed.1 lies)

pub snoc_end : (e : ℕ) (cs : List StagedClaim) (x : StagedClaim) → staged_end e (cs ++ x ∷ []) ≡ claim_end x
snoc_end e [] x = refl
snoc_end e (c ∷ cs) x = snoc_end (claim_end c) cs x

snoc_settled : (cs : List StagedClaim) (x : StagedClaim) → AreSettled cs → IsSettled x.stage
    → AreSettled (cs ++ x ∷ [])
snoc_settled [] x all one = (one, tt)
snoc_settled (c ∷ cs) x all one = (all.0, snoc_settled cs x all.1 one)

snoc_tight : (cs : List StagedClaim) (x : StagedClaim) → AreTight cs → x.from ≡ x.place → AreTight (cs ++ x ∷ [])
snoc_tight [] x all one = (one, tt)
snoc_tight (c ∷ cs) x all one = (all.0, snoc_tight cs x all.1 one)

pub snoc_before : (C e : ℕ) (cs : List StagedClaim) (x : StagedClaim) (p : ℕ) → ArePlaced C e cs → e ≤ p
    → p < staged_end e cs → staged_word_at in_words (cs ++ x ∷ []) p ≡ staged_word_at in_words cs p
snoc_before C e [] x p placed le lt = absurd (omega arith)
snoc_before C e (c ∷ cs) x p placed le lt =
    elim (cases_lt p (claim_end c)) as (λ _. staged_word_at in_words (c ∷ (cs ++ x ∷ [])) p
    ≡ staged_word_at in_words (c ∷ cs) p) [
      | inl near ↦ cond-true _ _ _ (lt-ltb p (claim_end c) near)
          ∙ sym (cond-true _ _ _ (lt-ltb p (claim_end c) near))
      | inr far ↦ cond-false _ _ _ (le-ltb p (claim_end c) far)
          ∙ snoc_before C (claim_end c) cs x p placed.1 far lt
          ∙ sym (cond-false _ _ _ (le-ltb p (claim_end c) far))
    ]

pub snoc_there : (C e : ℕ) (cs : List StagedClaim) (x : StagedClaim) (p : ℕ) → ArePlaced C e cs → staged_end e cs ≤ p
    → p < claim_end x → staged_word_at in_words (cs ++ x ∷ []) p ≡ staged_word in_words x p
snoc_there C e [] x p placed le lt = cond-true _ _ _ (lt-ltb p (claim_end x) lt)
snoc_there C e (c ∷ cs) x p placed le lt =
    let far = end_le C (claim_end c) cs placed.1 in
    cond-false _ _ _ (le-ltb p (claim_end c) (omega arith)) ∙ snoc_there C (claim_end c) cs x p placed.1 le lt

-- the settled claim shows the reader what it showed
swap : (done : List StagedClaim) (c : StagedClaim) (rest : List StagedClaim)
    → placed_committed_of (done ++ settled c ∷ rest) ≡ placed_committed_of (done ++ c ∷ rest)
swap [] c rest = ap (λ l. l ++ placed_committed_of rest) (shows_same c.stage (placed_message c))
swap (d ∷ done) c rest = ap (λ l. shown_at d.stage (placed_message d) ++ l) (swap done c rest)

-- ---- headers

settled_open : (w : ℕ) → w ≢ 0 → 2 ^ 31 < w % 2 ^ 32 → settled_word w ≡ padding_header (2 ^ 32 - w % 2 ^ 32)
settled_open w some open_ = cond-false _ _ _ (ne_eqb w 0 some) ∙ cond-true _ _ _ (lt-ltb (2 ^ 31) (w % 2 ^ 32) open_)

settled_other : (w : ℕ) → w ≢ 0 → w % 2 ^ 32 ≤ 2 ^ 31 → settled_word w ≡ w
settled_other w some low = cond-false _ _ _ (ne_eqb w 0 some) ∙ cond-false _ _ _ (le-ltb (2 ^ 31) (w % 2 ^ 32) low)

negated : (n : ℕ) → 0 < n → n < 2 ^ 31 → cast_unsigned w32 (neg_ℤ (pos n)) ≡ 2 ^ 32 - n
negated zero some small = absurd (omega arith)
negated (suc n) some small = omega arith

-- what the word w at the place of a claim becomes, and counts
pub record Turns (m : Message) (t : Stage) (w : ℕ) : Type 0 where
  pub word : settled_word w ≡ header_of (record { message = m; state = stage_state (settled_stage t) })
  pub len : settled_word w % 2 ^ 32 ≡ 8 + length m.body
  pub none : w ≡ 0 → (one_if_unsettled t ≡ 0) × (t ≡ Moved) × (length m.body ≡ 0)
  pub opened : w ≢ 0 → 2 ^ 31 < w % 2 ^ 32 → (one_if_unsettled t ≡ 1) × IsStored t
  pub other : w ≢ 0 → w % 2 ^ 32 ≤ 2 ^ 31 → (one_if_unsettled t ≡ 0) × IsStored t

turns : (C : ℕ) (m : Message) (t : Stage) (w : ℕ) → C ≤ 2 ^ 24 → IsMessage C m → IsPlainStage t (length m.body)
    → w ≡ masked_record t (header_of (record { message = m; state = stage_state t })) → Turns m t w
turns C m Moved w most message plain is =
    let zeros : settled_word w ≡ padding_header (8 + length m.body) =
    ap settled_word is ∙ ap (λ n. padding_header (8 + n)) (sym plain) in
    record {
      word = zeros;
      len = (halves (8 + length m.body) padding_type (omega arith) zeros).0;
      none = λ _. (refl, refl, plain);
      opened = λ ne _. absurd (ne is);
      other = λ ne _. absurd (ne is);
    }
turns C m Padded w most message plain is = absurd plain
turns C m (Stored Open) w most message plain is =
    let short : length m.body ≤ C / 8 = message.short in
    let n : ℕ = 8 + length m.body in
    let low : w % 2 ^ 32 ≡ 2 ^ 32 - n =
    ap (λ k. k % 2 ^ 32) is ∙ low_half (neg_ℤ (pos n)) m.type_id (fits_neg n (omega arith))
    ∙ negated n (omega arith) (omega arith) in
    let some : w ≢ 0 = λ none. omega arith in
    let back : 2 ^ 32 - w % 2 ^ 32 ≡ n = omega arith in
    let word : settled_word w ≡ padding_header n = settled_open w some (omega arith) ∙ ap padding_header back in
    record {
      word = word;
      len = (halves n padding_type (omega arith) word).0;
      none = λ e. absurd (some e);
      opened = λ _ _. (refl, tt);
      other = λ _ le. absurd (omega arith);
    }
turns C m (Stored Committed) w most message plain is =
    let short : length m.body ≤ C / 8 = message.short in
    let n : ℕ = 8 + length m.body in
    let low : w % 2 ^ 32 ≡ n = (halves n m.type_id (omega arith) is).0 in
    let some : w ≢ 0 = λ none. omega arith in
    let same : settled_word w ≡ w = settled_other w some (omega arith) in
    record {
      word = same ∙ is;
      len = ap (λ k. k % 2 ^ 32) same ∙ low;
      none = λ e. absurd (some e);
      opened = λ _ lt. absurd (omega arith);
      other = λ _ _. (refl, tt);
    }
turns C m (Stored Aborted) w most message plain is =
    let short : length m.body ≤ C / 8 = message.short in
    let n : ℕ = 8 + length m.body in
    let low : w % 2 ^ 32 ≡ n = (halves n padding_type (omega arith) is).0 in
    let some : w ≢ 0 = λ none. omega arith in
    let same : settled_word w ≡ w = settled_other w some (omega arith) in
    record {
      word = same ∙ is;
      len = ap (λ k. k % 2 ^ 32) same ∙ low;
      none = λ e. absurd (some e);
      opened = λ _ lt. absurd (omega arith);
      other = λ _ _. (refl, tt);
    }

-- a word of the body stays as the claim is settled
body_stays : (c : StagedClaim) (p : ℕ) → IsPlainStage c.stage (length c.message.body) → p % 8 ≡ 0 → c.place % 8 ≡ 0
    → c.place < p → p < claim_end c → staged_word in_words c p ≡ staged_word in_words (settled c) p
body_stays c p plain p8 place8 lo hi =
    let at : ℕ = p - c.place - 8 in
    let there : p ≡ c.place + 8 + at = omega arith in
    staged_word-body in_words c p at there ∙ by_stage c.stage plain (part_word in_words c.message.body at)
    ∙ sym (staged_word-body in_words (settled c) p at there)
  where
    n : ℕ
    n = length c.message.body

    by_stage : (t : Stage) → IsPlainStage t (length c.message.body) → (word : ℕ)
        → masked_record t word ≡ masked_record (settled_stage t) word
    by_stage Moved plain word = absurd (omega arith)
    by_stage Padded plain word = absurd plain
    by_stage (Stored Open) plain word = refl
    by_stage (Stored Committed) plain word = refl
    by_stage (Stored Aborted) plain word = refl

-- ---- the walk

-- a step of the walk at s, which finds the word w, and goes n bytes
pub record Steps (C head : ℕ) (cs : List StagedClaim) (s : ℕ) (made : List ℕ) (claims silent w n : ℕ) : Type 0 where
  pub some : 8 ≤ n
  pub far : s + n ≤ staged_end head cs
  pub none : w ≡ 0 → Walks C head cs (s + n) (set made (index C s) (settled_word w)) claims (silent + 8)
  pub opened : w ≢ 0 → 2 ^ 31 < w % 2 ^ 32
      → Walks C head cs (s + n) (set made (index C s) (settled_word w)) (claims + 1) silent
  pub other : w ≢ 0 → w % 2 ^ 32 ≤ 2 ^ 31
      → Walks C head cs (s + n) (set made (index C s) (settled_word w)) claims silent

no_silence : (t : Stage) (a b : ℕ) → IsStored t → silent_of t a b ≡ 0
no_silence Moved a b stored = absurd stored
no_silence Padded a b stored = absurd stored
no_silence (Stored s) a b stored = refl

module _ (C head : ℕ) (cap : IsCapacity C) (cs : List StagedClaim) (s : ℕ) (made : List ℕ) (claims silent : ℕ)
    (wide : length made ≡ ring_words C) (lt : s < staged_end head cs) (w : ℕ)
    (w_is : w ≡ slice_index made (index C s)) where
  steps : (done ahead : List StagedClaim) → WalksOver C head cs s made claims silent done ahead
      → Steps C head cs s made claims silent w (rounded (settled_word w % 2 ^ 32))
  steps done [] k = let ends : s ≡ staged_end head cs = k.ends in absurd (omega arith)
  steps done (c ∷ rest) k =
      let least = cap.least in
      let most = cap.most in
      let c8 = capacity_aligned C cap in
      let s8 = k.aligned in
      let from_head = k.from in
      let limit = k.limit in
      let room_is = k.room in
      let lies = k.placed.0 in
      let message = lies.message in
      let short = message.short in
      let from : c.from ≡ s = lies.from in
      let at : c.place ≡ s = sym k.plain.0 ∙ from in
      let place8 : c.place % 8 ≡ 0 = ap (λ x. x % 8) at ∙ s8 in
      let u : ℕ = settled_word w in
      let n : ℕ = rounded (u % 2 ^ 32) in
      let d : StagedClaim = settled c in
      let word : w ≡ masked_record c.stage (header_of (claim_of c)) =
      w_is ∙ k.shows s s8 (omega arith) (omega arith) ∙ cond-true _ _ _ (lt-ltb s (claim_end c) (omega arith))
      ∙ staged_word-header in_words c s (sym at) in
      let t = turns C c.message c.stage w most message k.plain.1 word in
      let len = t.len in
      let size : staged_span c ≡ n = omega arith in
      let end_is : claim_end c ≡ s + n = omega arith in
      let rest_end = end_le C (claim_end c) rest k.placed.1 in
      let ends : staged_end (claim_end c) rest ≡ staged_end head cs = k.ends in
      let low = mod_below s C (omega arith) in
      let m8 = mod_aligned C s c8 s8 in
      let inside : index C s < length made = omega arith in
      let apart_from : (p : ℕ) → p % 8 ≡ 0 → head ≤ p → p < head + C → p ≢ s
      → slice_index (set made (index C s) u) (index C p) ≡ slice_index made (index C p) =
      λ p p8 lo hi ne. get_or-set_other made (index C s) (index C p) u 0 (λ same. ne (apart C head p s
      (record { some = omega arith; whole = c8 }) (record { whole = p8; from = lo; below = hi })
      (record { whole = s8; from = from_head; below = omega arith }) same)) in
      let done_ends : staged_end head done ≡ s = k.done_ends in
      let next : (a b : ℕ) → claims + one_if_unsettled c.stage ≡ a
      → silent + silent_of c.stage (claim_end c - c.from) (staged_span c) ≡ b
      → Walks C head cs (s + n) (set made (index C s) u) a b =
      λ a b a_is b_is.
      let claims_is = k.claims_is in
      let silent_is = k.silent_is in
      record {
        done = done ++ d ∷ [];
        ahead = rest;
        over = record {
          done_placed = snoc_placed C head done d k.done_placed (record {
            from = from ∙ sym done_ends;
            place = lies.place ∙ ap (λ x. next_place C x (staged_span c)) (sym done_ends);
            message = message;
          });
          done_settled = snoc_settled done d k.done_settled (is_settled c.stage);
          done_tight = snoc_tight done d k.done_tight k.plain.0;
          done_ends = snoc_end head done d ∙ end_is;
          placed = subst (λ x. ArePlaced C x rest) end_is k.placed.1;
          plain = k.plain.2;
          ends = ap (λ x. staged_end x rest) (sym end_is) ∙ ends;
          limit = limit;
          room = room_is;
          aligned = omega arith;
          from = omega arith;
          shown = λ p p8 lo hi.
              ⊎_elim (λ (before : p < s). apart_from p p8 lo (omega arith) (λ e. omega arith)
              ∙ k.shown p p8 lo before ∙ sym (snoc_before C head done d p k.done_placed lo (omega arith)))
              (λ (not_before : s ≤ p). ⊎_elim
              (λ (behind : s < p). apart_from p p8 lo (omega arith) (λ e. omega arith)
              ∙ k.shows p p8 not_before (omega arith) ∙ cond-true _ _ _ (lt-ltb p (claim_end c) (omega arith))
              ∙ body_stays c p k.plain.1 p8 place8 (omega arith) (omega arith)
              ∙ sym (snoc_there C head done d p k.done_placed (omega arith) (omega arith)))
              (λ (le : p ≤ s).
              let one : p ≡ s = omega arith in
              ap (λ x. get_or (set made (index C s) u) (index C x) 0) one
              ∙ get_or-set_same made (index C s) u 0 inside ∙ t.word
              ∙ sym (stored_record d.stage (header_of (claim_of d)) (stored_of d.stage (is_settled c.stage)))
              ∙ sym (snoc_there C head done d p k.done_placed (omega arith) (omega arith)
              ∙ staged_word-header in_words d p (one ∙ sym at)))
              (cases_lt s p))
              (cases_lt p s);
          shows = λ p p8 lo hi. apart_from p p8 (omega arith) hi (λ e. omega arith)
              ∙ k.shows p p8 (omega arith) hi ∙ cond-false _ _ _ (le-ltb p (claim_end c) (omega arith));
          messages = ap placed_committed_of (append_assoc done (d ∷ []) rest) ∙ swap done c rest ∙ k.messages;
          claims_is = omega arith;
          silent_is = omega arith;
        };
      } in
      record {
        some = omega arith;
        far = omega arith;
        none = λ e.
            let f = t.none e in
            let one = f.0 in
            let bytes = f.2 in
            let hush : silent_of c.stage (claim_end c - c.from) (staged_span c) ≡ claim_end c - c.from =
            ap (λ x. silent_of x (claim_end c - c.from) (staged_span c)) f.1 in
            next claims (silent + 8) (omega arith) (omega arith);
        opened = λ ne open_.
            let f = t.opened ne open_ in
            let one = f.0 in
            let hush = no_silence c.stage (claim_end c - c.from) (staged_span c) f.1 in
            next (claims + 1) silent (omega arith) (omega arith);
        other = λ ne low_.
            let f = t.other ne low_ in
            let one = f.0 in
            let hush = no_silence c.stage (claim_end c - c.from) (staged_span c) f.1 in
            next claims silent (omega arith) (omega arith);
      }

  pub steps_on : Walks C head cs s made claims silent
      → Steps C head cs s made claims silent w (rounded (settled_word w % 2 ^ 32))
  steps_on walks = steps walks.done walks.ahead walks.over

-- the walk begins at the head
pub begins : (C : ℕ) (cap : IsCapacity C) (words : List ℕ) (cs : List StagedClaim) → ShowsClaims in_words C words cs
    → Walks C (slice_index words (head_index C)) cs (slice_index words (head_index C)) words 0 0
begins C cap words cs k =
    let head : ℕ = slice_index words (head_index C) in
    let t = plainly C head cs cap k.aligned k.placed in
    let claims_is = t.claims_is in
    let silent_is = t.silent_is in
    record {
      done = [];
      ahead = t.list;
      over = record {
        done_placed = tt;
        done_settled = tt;
        done_tight = tt;
        done_ends = refl;
        placed = t.placed;
        plain = t.plain;
        ends = t.ends;
        limit = k.limit;
        room = k.room;
        aligned = k.aligned;
        from = omega arith;
        shown = λ p p8 lo hi. absurd (omega arith);
        shows = λ p p8 lo hi. k.shows p p8 lo hi ∙ sym (t.words p p8 lo);
        messages = t.messages;
        claims_is = omega arith;
        silent_is = omega arith;
      };
    }

pub are_stored : (cs : List StagedClaim) → AreSettled cs → AreStored cs
are_stored [] all = tt
are_stored (c ∷ cs) all = (stored_of c.stage all.0, are_stored cs all.1)

-- and ends at the tail
pub settles : (C head : ℕ) (cs : List StagedClaim) (s : ℕ) (made : List ℕ) (claims silent : ℕ)
    → staged_end head cs ≤ s → Walks C head cs s made claims silent → Settles C head cs made claims silent
settles C head cs s made claims silent over_ walks = by_list walks.ahead walks.over
  where
    done : List StagedClaim
    done = walks.done

    by_list : (ahead : List StagedClaim) → WalksOver C head cs s made claims silent walks.done ahead
        → Settles C head cs made claims silent
    by_list [] k =
        let none = k.claims_is in
        let hush = k.silent_is in
        let ends : s ≡ staged_end head cs = k.ends in
        record {
          now = walks.done;
          placed = k.done_placed;
          settled = k.done_settled;
          tight = k.done_tight;
          messages = ap placed_committed_of (sym (append-nil walks.done)) ∙ k.messages;
          ends = k.done_ends ∙ ends;
          picture = λ p p8 lo hi. ⊎_elim
              (λ (before : p < s). k.shown p p8 lo before)
              (λ (behind : s ≤ p). k.shows p p8 behind hi
              ∙ sym (nothing_behind in_words C head walks.done p k.done_placed
              (subst (λ x. x ≤ p) (sym k.done_ends) behind)))
              (cases_lt p s)
              ∙ staged_word_at-claims_of C head walks.done p k.done_placed (are_stored walks.done k.done_settled);
          claims_is = omega arith;
          silent_is = omega arith;
        }
    by_list (c ∷ rest) k =
        let ends : staged_end (claim_end c) rest ≡ staged_end head cs = k.ends in
        let lies = k.placed.0 in
        let on = next_le C s (staged_span c) in
        let place = lies.place in
        let rest_end = end_le C (claim_end c) rest k.placed.1 in
        absurd (omega arith)
