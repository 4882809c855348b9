-- A walk over the headers of a closed ring.
use Rattle.std.proofs.Common.{◌≡◌, ◌≢◌, ℕ, suc, ◌+◌, ◌-◌, ◌*◌, ◌/◌, ◌%◌, ◌^◌, ◌≤◌, ◌<◌, ◌⊎◌, pos, List, [], ◌∷◌, cond, set, get_or, slice_index, sym, refl, ap, ◌∙◌, subst, inl, inr, ⊎_elim, length, le-ltb, length-set, get_or-set_other, get_or-set_same, arith}
use Rattle.std.proofs.{Math.Option.some, Math.ListN.get_elem?, lemmas.Bool.cases_lt, lemmas.Nat.mod_below}
use Rattle.ring_layout.specs.declared.message.ClaimState.TheVariants.{Open, Committed, Aborted}
use Rattle.ring_layout.specs.Headers.{header, header_of, padding_header, padding_type}
use Rattle.ring_layout.specs.History.{IsMessage}
use Rattle.ring_layout.specs.Places.{index, max_position, next_place, room, rounded}
use Rattle.ring_layout.proofs.{HeaderLemmas.fits_pos, Laps.LieInLap, Laps.mod_aligned, Laps.index_outside}
use Rattle.ring_layout.proofs.PlaceLemmas.{next_cases, next_le, next_within}
use Rattle.ring_table.specs.Staged.{in_words, elsewhere, padding_mark, padding_word, shown_header, PlacedMessage, StagedClaim, Stage, Moved, Padded, Stored, IsStored, claim_of, stage_state, staged_span, claim_end, staged_word_at, ArePlaced, staged_end}
use Rattle.ring_table.specs.{Owners.OwnedHistory, Owners.all_of, Passing.IsSettled, Passing.AreSettled, Passing.Reaches}
use Rattle.ring_table.specs.Walk.{IsCopied, Parts, Stands, Walked}
use Rattle.ring_table.proofs.{BodyPlaces.BodyIn, BodyPlaces.behind_header, RangeLemmas.Outside}
use Rattle.ring_table.proofs.HeaderReads.{high_half, halves, type_below, shown_other, shown_padding}
use Rattle.ring_table.proofs.MemoryLemmas.{head_bounds, index_inside, one_position}
use Rattle.ring_table.proofs.{ReachLemmas.stored_of, RestLemmas.stored_padding, RestLemmas.stored_record}
use Rattle.ring_table.proofs.StagedPlaces.{capacity_aligned, start_aligned, end_le, lies_in, places_aligned, word_of_claim}
use Rattle.ring_table.proofs.StagedWords.{staged_word-header, staged_word-padding, staged_word-padding_behind, staged_word-in_words}

-- ---- where a walk stands

pub stands_of : (s e : ℕ) (cs : List StagedClaim) (got : List PlacedMessage) → Reaches s e cs got → Stands s e cs
stands_of s e [] got r = r.0
stands_of s e (c ∷ cs) got r =
    ⊎_elim (λ a. inl a.0)
    (⊎_elim (λ a. inr (inl a.0)) (λ a. inr (inr (stands_of s (claim_end c) cs a.1.0 a.1.2)))) r

stands_first : (e : ℕ) (cs : List StagedClaim) → Stands e e cs
stands_first e [] = refl
stands_first e (c ∷ cs) = inl refl

pub stands_below : (C s e : ℕ) (cs : List StagedClaim) → ArePlaced C e cs → Stands s e cs → s ≤ staged_end e cs
stands_below C s e [] placed st = omega arith
stands_below C s e (c ∷ cs) placed st =
    let on = next_le C e (staged_span c) in
    let place = placed.0.place in
    let rest = end_le C (claim_end c) cs placed.1 in
    ⊎_elim (λ (at : s ≡ e). omega arith)
    (⊎_elim (λ (at : s ≡ c.place). omega arith) (λ later. stands_below C s (claim_end c) cs placed.1 later)) st

-- what is at s: a claim's padding, or its record
abbrev pub AtPadding : ℕ → ℕ → OwnedHistory → StagedClaim → Type 0
AtPadding s e h c = (s ≡ c.from) × (s < c.place) × Stands c.place e (all_of h)

abbrev pub AtRecord : ℕ → ℕ → OwnedHistory → StagedClaim → Type 0
AtRecord s e h c = (s ≡ c.place) × Stands (claim_end c) e (all_of h)

pub record Meets (s e : ℕ) (h : OwnedHistory) : Type 0 where
  pub nth : ℕ
  pub owned : ℕ × StagedClaim
  pub there : get_elem? h nth ≡ some owned
  pub settled : IsSettled owned.1.stage
  pub at : AtPadding s e h owned.1 ⊎ AtRecord s e h owned.1

pub meets : (C s e : ℕ) (h : OwnedHistory) → ArePlaced C e (all_of h) → AreSettled (all_of h)
    → Stands s e (all_of h) → s < staged_end e (all_of h) → Meets s e h
meets C s e [] placed settled st lt = absurd (omega arith)
meets C s e (x ∷ xs) placed settled st lt =
    let on = next_le C e (staged_span x.1) in
    let place = placed.0.place in
    let from : x.1.from ≡ e = placed.0.from in
    let at_record : s ≡ x.1.place → Meets s e (x ∷ xs) = λ at. record {
      nth = 0;
      owned = x;
      there = refl;
      settled = settled.0;
      at = inr (at, inr (inr (stands_first (claim_end x.1) (all_of xs))));
    } in
    ⊎_elim
    (λ (at : s ≡ e). ⊎_elim
    (λ (less : e < x.1.place). record {
      nth = 0;
      owned = x;
      there = refl;
      settled = settled.0;
      at = inl (at ∙ sym from, omega arith, inr (inl refl));
    })
    (λ (le : x.1.place ≤ e). at_record (omega arith)) (cases_lt e x.1.place))
    (⊎_elim at_record
    (λ later.
    let t = meets C s (claim_end x.1) xs placed.1 settled.1 later lt in
    record {
      nth = suc t.nth;
      owned = t.owned;
      there = t.there;
      settled = t.settled;
      at = ⊎_elim (λ (z : AtPadding s (claim_end x.1) xs t.owned.1). inl (z.0, z.1, inr (inr z.2)))
          (λ (z : AtRecord s (claim_end x.1) xs t.owned.1). inr (z.0, inr (inr z.1))) t.at;
    })) st

-- ---- headers

-- the header of a settled record with n bytes
record IsRecordHeader (n w : ℕ) : Type 0 where
  pub len : w % 2 ^ 32 ≡ 8 + n
  pub plain : shown_header elsewhere w ≡ w

settled_header : (C : ℕ) (c : StagedClaim) → C ≤ 2 ^ 24 → IsMessage C c.message → IsSettled c.stage
    → IsRecordHeader (length c.message.body) (header_of (claim_of c))
settled_header C c most m settled = by_stage c.stage settled
  where
    n : ℕ
    n = length c.message.body

    by_stage : (t : Stage) → IsSettled t
        → IsRecordHeader (length c.message.body)
        (header_of (record { message = c.message; state = stage_state t }))
    by_stage Moved s = absurd s
    by_stage Padded s = absurd s
    by_stage (Stored Open) s = absurd s
    by_stage (Stored Committed) s =
        let short : length c.message.body ≤ C / 8 = m.short in
        let w : ℕ = header (pos (8 + length c.message.body)) c.message.type_id in
        let both = halves {w = w} (8 + length c.message.body) c.message.type_id (omega arith) refl in
        let bits = both.1 in
        let below = type_below c.message.type_id m.type_id m.type_fits in
        record { len = both.0; plain = shown_other elsewhere w (λ mark. omega arith) }
    by_stage (Stored Aborted) s =
        let w : ℕ = header (pos (8 + length c.message.body)) padding_type in
        let both = halves {w = w} (8 + length c.message.body) padding_type (omega arith) refl in
        record { len = both.0; plain = shown_other elsewhere w (λ mark. omega arith) }

-- ---- one step

-- what a step of the walk at s does: w is the word there, u that as the formats have it, n the bytes that it goes
pub record Goes (C : ℕ) {words slots : List ℕ} (t : Parts C words slots) (s : ℕ) (made : List ℕ) (w u n : ℕ)
    : Type 0 where
  pub some : 8 ≤ n
  pub within : s % C + n ≤ C
  pub far : s + n ≤ max_position
  pub padding : u ≢ w → Walked C t (s + n) (set made (index C s) u)
  pub recorded : u ≡ w → (made' : List ℕ) → IsCopied (index C s + 1) (n / 8 - 1) slots made made'
      → Walked C t (s + n) made'

module _ (C : ℕ) (words slots : List ℕ) (t : Parts C words slots) where
  -- the walk goes n bytes on, over words that now show headers and bodies
  advance : (s n : ℕ) (made made' : List ℕ) → Walked C t s made → LieInLap C t.consumer.head s n
      → length made' ≡ length made → ((j : ℕ) → Outside (index C s) (n / 8) j → slice_index made' j ≡ slice_index made j)
      → ((p : ℕ) → p % 8 ≡ 0 → s ≤ p → p < s + n
      → slice_index made' (index C p) ≡ staged_word_at in_words (all_of t.hist) p)
      → Stands (s + n) t.start (all_of t.hist) → Walked C t (s + n) made'
  advance s n made made' walked lies long else_same shows st =
      let law = t.lawful in
      let least = law.capacity.least in
      let c8 = capacity_aligned C law.capacity in
      let s8 = lies.whole in
      let from = walked.from in
      let within = lies.within in
      let m8 = mod_aligned C s c8 s8 in
      let to = lies.to in
      let apart_from : (p : ℕ) → p % 8 ≡ 0 → t.consumer.head ≤ p → p < t.consumer.head + C
      → (p < s) ⊎ (s + n ≤ p) → Outside (index C s) (n / 8) (index C p) = λ p p8 p0 p1 out.
      index_outside C t.consumer.head s n p (record { some = omega arith; whole = c8 }) lies
      (record { whole = p8; from = p0; below = p1 }) out in
      record {
        wide = long ∙ walked.wide;
        whole = omega arith;
        from = omega arith;
        stands = st;
        done = λ p p8 p0 p1. ⊎_elim
            (λ (before : p < s). else_same (index C p) (apart_from p p8 p0 (omega arith) (inl before))
            ∙ walked.done p p8 p0 before)
            (λ (at : s ≤ p). shows p p8 at p1) (cases_lt p s);
        ahead = λ p p8 p0 p1. else_same (index C p) (apart_from p p8 (omega arith) p1 (inr p0))
            ∙ walked.ahead p p8 (omega arith) p1;
        trailer = λ i far. else_same i (inr (omega arith)) ∙ walked.trailer i far;
      }

  pub goes : (s : ℕ) (made : List ℕ) → Walked C t s made → s < staged_end t.start (all_of t.hist) → (w u n : ℕ)
      → slice_index made (index C s) ≡ w → u ≡ shown_header elsewhere w → n ≡ rounded (u % 2 ^ 32)
      → Goes C t s made w u n
  goes s made walked lt w u n w_is u_is n_is =
      let law = t.lawful in
      let m = t.memory in
      let h : OwnedHistory = t.hist in
      let start : ℕ = t.start in
      let head : ℕ = t.consumer.head in
      let most = law.capacity.most in
      let from = walked.from in
      let s8 = walked.whole in
      let c8 = capacity_aligned C law.capacity in
      let x = meets C s start h m.placed t.settled walked.stands lt in
      let c : StagedClaim = x.owned.1 in
      let l = lies_in C start h x.nth x.owned m.placed x.there in
      let below = l.below in
      let aligned = places_aligned C start h x.nth x.owned (omega arith) c8 (start_aligned C start law) m.placed x.there in
      let place8 : c.place % 8 ≡ 0 = aligned.1 in
      let place : c.place ≡ next_place C c.from (staged_span c) = l.place in
      let stored : IsStored c.stage = stored_of c.stage x.settled in
      let here_e = λ (p : ℕ) (lo : c.from ≤ p) (hi : p < claim_end c).
      word_of_claim elsewhere C start h x.nth x.owned p m.placed x.there lo hi in
      let here_w = λ (p : ℕ) (lo : c.from ≤ p) (hi : p < claim_end c).
      word_of_claim in_words C start h x.nth x.owned p m.placed x.there lo hi in
      let is : w ≡ staged_word_at elsewhere (all_of h) s = sym w_is ∙ walked.ahead s s8 (omega arith) (omega arith) in
      let at_index = index_inside elsewhere C start law s in
      let wide : length made ≡ length words = walked.wide in
      ⊎_elim
      (λ (z : AtPadding s start h c).
      let at : s ≡ c.from = z.0 in
      let less : s < c.place = z.1 in
      let size : ℕ = c.place - c.from in
      let gap : (size ≡ C - s % C) × (s % C < C) =
      (⊎_elim (λ (q : (staged_span c ≤ room C c.from) × (next_place C c.from (staged_span c) ≡ c.from)).
      let same = q.1 in absurd (omega arith))
      (λ (q : (room C c.from < staged_span c) × (next_place C c.from (staged_span c) ≡ c.from + room C c.from)).
      let mods : s % C ≡ c.from % C = ap (λ k. k % C) at in
      let low = mod_below s C (omega arith) in
      (omega arith, low)) (next_cases C c.from (staged_span c))) in
      let word : w ≡ padding_word elsewhere size = is ∙ here_e s (omega arith) (omega arith)
      ∙ staged_word-padding elsewhere c s at less ∙ stored_padding c.stage (padding_word elsewhere size) stored in
      let small : size < 2 ^ 31 = omega arith in
      let shown : u ≡ padding_header size = u_is ∙ ap (shown_header elsewhere) word ∙ shown_padding elsewhere size small in
      let both = halves {w = u} size padding_type small shown in
      let low : u % 2 ^ 32 ≡ size = both.0 in
      let raw : w / 2 ^ 32 ≡ 2 ^ 32 - 2 =
      ap (λ k. k / 2 ^ 32) word ∙ high_half (pos size) padding_mark (fits_pos size small) in
      let n_size : n ≡ size = omega arith in
      record {
        some = omega arith;
        within = omega arith;
        far = omega arith;
        padding = λ _. advance s n made (set made (index C s) u) walked
            (record {
              whole = s8;
              words = omega arith;
              within = omega arith;
              from = from;
              to = omega arith;
            })
            (length-set made (index C s) u)
            (λ j out. get_or-set_other made (index C s) j u 0 (λ same. (⊎_elim
            (λ (before : j < index C s). omega arith) (λ (behind : index C s + n / 8 ≤ j). omega arith) out)))
            (λ p p8 p0 p1. ⊎_elim
            (λ (behind : s < p).
            let ne : index C p ≢ index C s = λ same.
            let one : p ≡ s = one_position elsewhere C start law head p s
            (record { whole = p8; from = omega arith; below = omega arith })
            (record { whole = s8; from = from; below = omega arith }) same in omega arith in
            get_or-set_other made (index C s) (index C p) u 0 ne
            ∙ walked.ahead p p8 p0 (omega arith) ∙ here_e p (omega arith) (omega arith)
            ∙ staged_word-padding_behind elsewhere c p (λ e. omega arith) (omega arith)
            ∙ sym (here_w p (omega arith) (omega arith)
            ∙ staged_word-padding_behind in_words c p (λ e. omega arith) (omega arith)))
            (λ (le : p ≤ s).
            let one : p ≡ s = omega arith in
            ap (λ k. get_or (set made (index C s) u) (index C k) 0) one
            ∙ get_or-set_same made (index C s) u 0 (omega arith) ∙ shown
            ∙ sym (here_w p (omega arith) (omega arith) ∙ staged_word-padding in_words c p (one ∙ at) (omega arith)
            ∙ stored_padding c.stage (padding_word in_words size) stored))
            (cases_lt s p))
            (let to : c.place ≡ s + n = omega arith in
            subst (λ k. Stands k start (all_of h)) to z.2);
        recorded = λ same _ _. absurd (omega arith);
      })
      (λ (z : AtRecord s start h c).
      let at : s ≡ c.place = z.0 in
      let len : ℕ = length c.message.body in
      let i : ℕ = index C s in
      let word : w ≡ header_of (claim_of c) = is ∙ here_e s (omega arith) (omega arith)
      ∙ staged_word-header elsewhere c s at ∙ stored_record c.stage (header_of (claim_of c)) stored in
      let f = settled_header C c most l.message x.settled in
      let same : u ≡ w = u_is ∙ ap (shown_header elsewhere) word ∙ f.plain ∙ sym word in
      let low : u % 2 ^ 32 ≡ 8 + len = ap (λ k. k % 2 ^ 32) (same ∙ word) ∙ f.len in
      let n_span : n ≡ staged_span c = omega arith in
      let mods : s % C ≡ next_place C c.from (staged_span c) % C = ap (λ k. k % C) (at ∙ place) in
      let inside : next_place C c.from (staged_span c) % C + staged_span c ≤ C =
      next_within C c.from (staged_span c) (omega arith) (omega arith) in
      let b : BodyIn C head s len = record {
        some = omega arith;
        whole = c8;
        place8 = s8;
        from = from;
        to = omega arith;
        within = omega arith;
      } in
      record {
        some = omega arith;
        within = omega arith;
        far = omega arith;
        padding = λ other. absurd (other same);
        recorded = λ _ made' copied. advance s n made made' walked
            (record {
              whole = s8;
              words = omega arith;
              within = omega arith;
              from = from;
              to = omega arith;
            })
            copied.long
            (λ j out. copied.outside j (⊎_elim (λ (before : j < i). inl (omega arith))
            (λ (behind : i + n / 8 ≤ j). inr (omega arith)) out))
            (λ p p8 p0 p1. ⊎_elim
            (λ (behind : s < p).
            let k : ℕ = (p - s - 8) / 8 in
            let p_is : p ≡ s + 8 + 8 * k = omega arith in
            let slot : index C p ≡ i + 1 + k = ap (index C) p_is ∙ behind_header C head s len k b (omega arith) in
            let claim_p : p ≡ c.place + 8 + 8 * k = omega arith in
            copied.inside (index C p) (omega arith) (omega arith)
            ∙ ap (λ q. slice_index slots (index C q)) claim_p
            ∙ t.bodies x.nth x.owned x.there (omega arith) (8 * k) (omega arith) (omega arith)
            ∙ sym (here_w p (omega arith) (omega arith) ∙ staged_word-in_words c p (8 * k) stored claim_p))
            (λ (le : p ≤ s).
            let one : p ≡ s = omega arith in
            ap (λ q. slice_index made' (index C q)) one ∙ copied.outside i (inl (omega arith)) ∙ w_is ∙ word
            ∙ sym (here_w p (omega arith) (omega arith) ∙ staged_word-header in_words c p (one ∙ at)
            ∙ stored_record c.stage (header_of (claim_of c)) stored))
            (cases_lt s p))
            (let to : claim_end c ≡ s + n = omega arith in
            subst (λ k. Stands k start (all_of h)) to z.1);
      }) x.at

  -- at the head nothing is made yet
  pub begins : Walked C t t.consumer.head words
  begins =
      let law = t.lawful in
      let m = t.memory in
      let bounds = head_bounds elsewhere C t.start law words t.consumer (all_of t.hist) m in
      record {
        wide = refl;
        whole = bounds.2;
        from = omega arith;
        stands = stands_of t.consumer.head t.start (all_of t.hist) t.consumer.taken m.took;
        done = λ p p8 p0 p1. absurd (omega arith);
        ahead = λ p p8 p0 p1. m.shows p p8 p0 p1
            ∙ ap (λ b. cond b 0 (staged_word_at elsewhere (all_of t.hist) p)) (le-ltb p t.consumer.cleared (omega arith));
        trailer = λ i far. refl;
      }
