-- What the calls put together.
use Rattle.std.proofs.Common.{◌≡◌, ℕ, ◌+◌, ◌-◌, ◌/◌, ◌%◌, ◌<◌, ◌≤◌, ℤ, pos, ◌≤ℤ◌, FitsSigned, List, ◌++◌, length, get_or, refl, sym, ap, ◌∙◌, subst, append_assoc, arith, w32}
use Rattle.std.proofs.lemmas.List.Elements.{All-from_get_or}
use Rattle.ring_layout.specs.{History.IsMessage, History.span, Places.next_place}
use Rattle.ring_layout.proofs.PlaceLemmas.{next_aligned, span_bounds}
use Rattle.ring_board.specs.{declared.shared.view.Draft.Draft, declared.shared.view.Record.Record, Records.Lies}
use Rattle.ring_board.specs.declared.shared.view.Stage.{Stage, TheVariants.Storing, TheVariants.Written}
use Rattle.ring_board.{specs.Views.Sat, specs.Views.at_stage, proofs.PlaceLemmas.lies_before}
use Rattle.ring_board.specs.TransmitterSteps.{after_intent, sent_on, after_words, place_before}

pub more_words : (st : Stage) (d : Draft) (a b : List ℕ) → st ≡ Storing d
    → after_words (after_words st a) b ≡ after_words st (a ++ b)
more_words st d a b is = ap (λ (u : Stage). after_words (after_words u a) b) is
    ∙ (ap (λ (ws : List ℕ). Storing (record d { words = ws })) (append_assoc d.words a b)
    ∙ ap (λ (u : Stage). after_words u (a ++ b)) (sym is))

module _ (C tail len : ℕ) (roomy : 256 ≤ C) (whole : C % 64 ≡ 0) (aligned : tail % 8 ≡ 0) (short : len ≤ C / 8) where
  -- a record that is placed after the tail is there
  pub lies_next : Lies C tail tail (next_place C tail (span len)) (next_place C tail (span len) + span len)
  lies_next = let p : ℕ = next_place C tail (span len) in let b = span_bounds len in let low = b.1 in let high =
      b.2 in let s8 = b.0 in
      let p8 = next_aligned C tail (span len) (omega arith) (omega arith) aligned in record {
        begins = refl;
        lies = ap (next_place C tail) (let e : span len ≡ p + span len - p = omega arith in e);
        short = omega arith;
        some_room = omega arith;
        begins_whole = aligned;
        ends_whole = omega arith;
      }

  -- so the intent that is its end places it there
  pub lies_begun : (at place z : ℕ) → at ≡ tail → place ≡ next_place C tail (span len) → z ≡ place + span len
      → Lies C at at (place_before C at z) z
  lies_begun at place z a b e = let p : ℕ = next_place C tail (span len) in let q : ℕ =
      p + span len in let l : Lies C tail tail p q = lies_next in
      let there : Lies C tail tail (place_before C tail q) q = subst (λ (x : ℕ). Lies C tail tail x q)
      (sym (lies_before C tail tail p q l roomy whole)) l in
      let ends : z ≡ q = e ∙ ap (λ (x : ℕ). x + span len) b in
      subst (λ (x : ℕ × ℕ). Lies C x.0 x.0 (place_before C x.0 x.1) x.1) (λ k. (sym a k, sym ends k)) there

pub lawful_message : (C : ℕ) (type_id : ℤ) (body : List ℕ) → pos 1 ≤ℤ type_id → FitsSigned w32 type_id
    → length body ≤ C / 8
    → ((i : ℕ) → i < length body → get_or body i 0 < 256) → IsMessage C record { type_id = type_id; body = body }
lawful_message C type_id body low fits short bytes = record {
  type_id = low;
  type_fits = fits;
  short = short;
  bytes = All-from_get_or
      (λ (b : ℕ). b < 256) body 0 bytes;
}

-- what a whole transmission made of the transmitter
pub sent_through : (m m1 m2 m3 : Sat) (z : ℕ) (r : Record) → m1 ≡ (after_intent m.0 z, m.1)
    → m2 ≡ (at_stage m1.0 (Written r), m1.1)
    → ((q : Record) → m2.0.stage ≡ Written q → m3 ≡ (sent_on m2.0 q, m2.1)) → m3 ≡ (sent_on m.0 r, m.1)
sent_through m m1 m2 m3 z r a b c = c r (ap (λ (x : Sat). x.0.stage) b)
    ∙ ap (λ (x : Sat). (sent_on x.0 r, x.1)) (b ∙ ap (λ (x : Sat). (at_stage x.0 (Written r), x.1)) a)
