-- A read over the end of the buffer drains a ring: it stops when no settled record is at the head.
use Rattle.std.proofs.Common.{◌≡◌, ◌≢◌, ℕ, ◌+◌, ◌-◌, ◌*◌, ◌%◌, ◌^◌, ◌<◌, ◌≤◌, ◌⊎◌, ◌&&◌, ◌==◌, nat_lt, if◌then◌else◌, slice_index, List, [], ◌∷◌, ◌++◌, length, refl, ap, sym, ◌∙◌, subst, arith, inl, inr, eqb-true, ltb-true, ne_eqb, append-nil, append_assoc, length-append}
use Rattle.std.proofs.lemmas.Bool.{and_parts, cases_Bool, cases_lt, cond-true, cond-false}
use Rattle.std.proofs.lemmas.List.Elements.{All-append, All-head, All-tail}
use Rattle.ring_layout.specs.declared.message.{Claim.Claim, Message.Message, ClaimState.TheVariants.Open}
use Rattle.ring_layout.specs.{History.committed_of, History.shown, History.span_of, Places.end_after, Places.end_of}
use Rattle.ring_layout.specs.Layout.{tail_index}
use Rattle.ring_layout.proofs.{Laps.mod_step, PlaceLemmas.end_of_le, PlaceLemmas.next_le, PlaceLemmas.span_bounds}
use Rattle.ring_words.specs.declared.read.{action.Action.Action, end.ReadEnd.ReadEnd}
use Rattle.ring_words.specs.declared.read.end.Stop.{Stop, TheVariants.Limit, TheVariants.Block, TheVariants.Unpublished}
use Rattle.ring_words.specs.{Across.ReadsAcross, Across.ReadsOnce, Across.ReadsTwice, Drain.AllSettled, Drain.Drains}
use Rattle.ring_words.specs.{Read.ReadsTo, Read.stop_of, Ring.Has, Ring.IsRing, Ring.Ring, Ring.head_of, Ring.tail_of}
use Rattle.ring_words.specs.Reading.{IsBlocked, MovesHead}
use Rattle.ring_words.proofs.{HeadLemmas.state_cases, ReadLemmas.committed_of-append}

-- The number of messages that a ring shows ---------------------------------------

shown_few : (c : Claim) → length (shown c) ≤ 1
shown_few c = elim (state_cases c.state) as (λ _. length (shown c) ≤ 1) [
  | inl e ↦ let is : shown c ≡ [] = rw e refl in omega (arith, ap (λ (ms : List Message). length ms) is)
  | inr more ↦ elim more as (λ _. length (shown c) ≤ 1) [
    | inl e ↦ let is : shown c ≡ c.message ∷ [] = rw e refl in omega (arith, ap (λ (ms : List Message). length ms) is)
    | inr e ↦ let is : shown c ≡ [] = rw e refl in omega (arith, ap (λ (ms : List Message). length ms) is)
  ]
]

committed_few : (h : List Claim) → length (committed_of h) ≤ length h
committed_few [] = omega arith
committed_few (c ∷ h) = omega (arith, length-append (shown c) (committed_of h), shown_few c, committed_few h)

end_counts : (C e : ℕ) (h : List Claim) → e + 8 * length h ≤ end_of C e h
end_counts C e [] = omega arith
end_counts C e (c ∷ h) =
    omega (
      arith,
      next_le C e (span_of c),
      span_bounds (length c.message.body),
      end_counts C
          (end_after C e (span_of c)) h,
    )

shows_few : (r : Ring) (h : List Claim) → IsRing r → Has r h → length (committed_of h) ≤ 2 ^ 21
shows_few r h ok has =
    omega (arith, committed_few h, end_counts r.capacity (head_of r) h, has.ends, ok.room, ok.capacity.most)

-- Where a read stops -----------------------------------------------------------

-- below its limit it stops at the end of the buffer, or at a head without a settled record
stops_below : (C limit messages head bytes : ℕ) (stopped : Stop) → stopped ≡ stop_of C limit messages head bytes
    → messages < limit
    → ((stopped ≡ Block) × (head % C ≡ 0) × (0 < bytes)) ⊎ (stopped ≡ Unpublished)
stops_below C limit messages head bytes stopped is lt =
    let at_end = (head % C == 0) && nat_lt 0 bytes in
    let rest : Stop = if at_end then Block else Unpublished in
    let below : stopped ≡ rest =
    is ∙ cond-false (messages == limit) Limit rest (ne_eqb messages limit (λ e. omega arith)) in
    elim (cases_Bool at_end) as (λ _. ((stopped ≡ Block) × (head % C ≡ 0) × (0 < bytes)) ⊎ (stopped ≡ Unpublished)) [
      | inl e ↦
          let both = and_parts (head % C == 0) (nat_lt 0 bytes) e in
          inl (below ∙ cond-true at_end Block Unpublished e, eqb-true (head % C) 0 both.0, ltb-true 0 bytes both.1)
      | inr e ↦ inr (below ∙ cond-false at_end Block Unpublished e)
    ]

-- two ends of the buffer are a capacity apart
ends_apart : (C p q : ℕ) → p % C ≡ 0 → q % C ≡ 0 → p < q → p + C ≤ q
ends_apart C p q p0 q0 lt =
    elim (cases_lt (q - p) C) as (λ _. p + C ≤ q) [
      | inl near ↦
          let step = mod_step C p (q - p) (omega arith) in
          let whole : p + (q - p) ≡ q = omega arith in
          let bad : q % C ≡ p % C + (q - p) = ap (λ n. n % C) (sym whole) ∙ step in
          absurd (omega arith)
      | inr far ↦ omega arith
    ]

moved_tail : (old new : Ring) → MovesHead old new → tail_of new ≡ tail_of old
moved_tail old new moves =
    ap (λ C. slice_index new.words (tail_index C)) moves.capacity
    ∙ moves.trailer (tail_index old.capacity) (omega arith) (λ e. omega arith)

-- Draining ---------------------------------------------------------------------

-- a history is as long as its parts
parts : (h xs ys : List Claim) → h ≡ xs ++ ys
    → length (committed_of h) ≡ length (committed_of xs) + length (committed_of ys)
parts h xs ys is =
    ap (λ (x : List Claim). length (committed_of x)) is
    ∙ ap (λ (ms : List Message). length ms) (committed_of-append xs ys)
    ∙ length-append (committed_of xs) (committed_of ys)

module _ {S : Type 0} (step : S → Message → S → Action → Type 0) (limit : ℕ) (old new : Ring) (s t : S) (end : ReadEnd)
    (far : 2 ^ 21 < limit) (ok : IsRing old)
    (blocked : end.stopped ≡ Unpublished → (h : List Claim) → Has new h → IsBlocked new h)
    (h : List Claim) (has : Has old h) where
  few : length (committed_of h) ≤ 2 ^ 21
  few = shows_few old h ok has

  once : ReadsOnce (ReadsTo step) limit old new s t end → Drains h end.messages new
  once o =
      let p = o.reads.reads.passes h has in
      let counted : end.messages ≡ length (committed_of p.passed) =
      o.reads.reads.counted ∙ ap (λ (ms : List Message). length ms) (sym p.shown) in
      let low : end.messages < limit = omega (arith, far, few, counted, parts h p.passed p.rest p.whole) in
      let stops : end.stopped ≡ Unpublished =
      elim (stops_below new.capacity limit end.messages
      (head_of new) end.bytes end.stopped o.reads.stopped low) as (λ _. end.stopped ≡ Unpublished) [
        | inl b ↦ absurd (o.stopped b.0)
        | inr u ↦ u
      ] in
      record {
        passed = p.passed;
        rest = p.rest;
        whole = p.whole;
        settled = p.settled;
        counted = counted;
        left =
            p.left;
        blocked = blocked stops p.rest p.left;
      }

  twice : ReadsTwice (ReadsTo step) limit old new s t end → Drains h end.messages new
  twice w =
      let p = w.to_end.reads.passes h has in
      let q = w.behind.reads.passes p.rest p.left in
      let one : w.first.messages ≡ length (committed_of p.passed) =
      w.to_end.reads.counted ∙ ap (λ (ms : List Message). length ms) (sym p.shown) in
      let two : w.second.messages ≡ length (committed_of q.passed) =
      w.behind.reads.counted ∙ ap (λ (ms : List Message). length ms) (sym q.shown) in
      let sum = parts h p.passed p.rest p.whole in
      let more = parts p.rest q.passed q.rest q.whole in
      let low : w.first.messages < limit = omega (arith, far, few, one, sum) in
      let at_end : (head_of w.between % w.between.capacity ≡ 0) × (0 < w.first.bytes) =
      elim (stops_below w.between.capacity limit w.first.messages
      (head_of w.between) w.first.bytes w.first.stopped w.to_end.stopped low)
      as (λ _. (head_of w.between % w.between.capacity ≡ 0) × (0 < w.first.bytes)) [
        | inl b ↦ (b.1, b.2)
        | inr u ↦ let bad : Block ≡ Unpublished = sym w.at_end ∙ u in absurd cc
      ] in
      let lower : w.second.messages < limit - w.first.messages = omega (arith, far, few, one, two, sum, more) in
      let stops : w.second.stopped ≡ Unpublished =
      elim (stops_below new.capacity (limit - w.first.messages) w.second.messages
      (head_of new) w.second.bytes w.second.stopped w.behind.stopped lower)
      as (λ _. w.second.stopped ≡ Unpublished) [
        | inl b ↦
            let same = w.behind.reads.moves.capacity in
            let first = w.to_end.reads.moves.capacity in
            let on : head_of w.between < head_of new = omega (arith, w.behind.bytes, b.2) in
            let apart = ends_apart w.between.capacity (head_of w.between) (head_of new) at_end.0
            (ap (λ C. head_of new % C) (sym same) ∙ b.1) on in
            let tail : tail_of new ≡ tail_of old =
            moved_tail w.between new w.behind.reads.moves ∙ moved_tail old w.between w.to_end.reads.moves in
            let reach = end_of_le new.capacity (head_of new) q.rest in
            absurd (omega (arith, apart, tail, reach, q.left.ends, ok.room, w.to_end.bytes, at_end.1, first))
        | inr u ↦ u
      ] in
      record {
        passed = p.passed ++ q.passed;
        rest = q.rest;
        whole = p.whole ∙ ap (λ (r : List Claim). p.passed ++ r) q.whole ∙ sym (append_assoc p.passed q.passed q.rest);
        settled = All-append (λ (x : Claim). x.state ≢ Open) p.passed q.passed p.settled q.settled;
        counted = omega (arith, w.messages, one, two, parts (p.passed ++ q.passed) p.passed q.passed refl);
        left = q.left;
        blocked = blocked (w.stopped ∙ stops) q.rest q.left;
      }

  pub drained : ReadsAcross (ReadsTo step) limit old new s t end → Drains h end.messages new
  drained reads = elim reads as (λ _. Drains h end.messages new) [ inl o ↦ once o | inr w ↦ twice w ]

settled_rest : (xs ys : List Claim) → AllSettled (xs ++ ys) → AllSettled ys
settled_rest [] ys all = all
settled_rest (x ∷ xs) ys all = settled_rest xs ys (All-tail (λ (c : Claim). c.state ≢ Open) x (xs ++ ys) all)

-- if no claim is open all messages are counted, and nothing is left
pub drained_whole : (h : List Claim) (count : ℕ) (new : Ring) → AllSettled h → Drains h count new
    → (count ≡ length (committed_of h)) × Has new []
drained_whole h count new settled d =
    elim d.blocked as (λ _. (count ≡ length (committed_of h)) × Has new []) [
      | inl none ↦
          let all : d.passed ≡ h =
          sym (append-nil d.passed) ∙ ap (λ (r : List Claim). d.passed ++ r) (sym none) ∙ sym d.whole in (
            d.counted ∙ ap (λ (x : List Claim). length (committed_of x)) all,
            subst
                (λ (r : List Claim). Has new r) none d.left,
          )
      | inr b ↦
          let behind = settled_rest d.passed d.rest (subst (λ (x : List Claim). AllSettled x) d.whole settled) in
          let here =
          All-head (λ (c : Claim). c.state ≢ Open) b.0 b.1 (subst (λ (x : List Claim). AllSettled x) b.2 behind) in
          absurd (here b.3)
    ]
