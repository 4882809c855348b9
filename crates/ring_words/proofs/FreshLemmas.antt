-- A fresh ring is a ring with no claim.
use Rattle.std.proofs.Common.{◌≡◌, ℕ, ◌+◌, ◌/◌, ◌%◌, ◌<◌, ◌≤◌, [], length, slice_index, slice_set, replicate, ap, sym, ◌∙◌, arith, get_or-set_other, get_or-set_same, length-set}
use Rattle.std.proofs.lemmas.List.{length-replicate, get_or-replicate, Elements.All-nil}
use Rattle.std.proofs.{lemmas.Nat.mod_below, lemmas.Nat.Gcd.dvd_of_mod-eq-zero, Math.Nat.mod-mod_of_dvd}
use Rattle.ring_layout.specs.{declared.message.Claim.Claim, Places.IsCapacity, Places.max_position}
use Rattle.ring_layout.specs.{History.IsMessage, Layout.tail_index, Layout.head_cache_index, Layout.head_index}
use Rattle.ring_words.specs.{Ring.IsRing, Ring.Has, Ring.head_of, Ring.tail_of, Fresh.fresh}
use Rattle.ring_layout.proofs.{CapacityLemmas.capacity_blocks, PictureLemmas.word_at_none}

module _ (C start : ℕ) (lawful : IsCapacity C) (lap : start % C ≡ 0) (limit : start ≤ max_position) where
  len0 : length {A = ℕ} (replicate (C / 8 + 96) 0) ≡ C / 8 + 96
  len0 = length-replicate (C / 8 + 96) 0

  len1 : length {A = ℕ} (slice_set (replicate (C / 8 + 96) 0) (tail_index C) start) ≡ C / 8 + 96
  len1 = length-set _ _ _ ∙ len0

  len2 : length {A = ℕ} (slice_set (slice_set (replicate (C / 8 + 96) 0) (tail_index C) start)
      (head_cache_index C) start) ≡ C / 8 + 96
  len2 = length-set _ _ _ ∙ len1

  tail_is : tail_of (fresh C start) ≡ start
  tail_is =
      get_or-set_other _ (head_index C) (tail_index C) start 0 (λ e. omega arith)
      ∙ get_or-set_other _ (head_cache_index C) (tail_index C) start 0 (λ e. omega arith)
      ∙ get_or-set_same _ (tail_index C) start 0 (omega (arith, len0))

  head_is : head_of (fresh C start) ≡ start
  head_is = get_or-set_same _ (head_index C) start 0 (omega (arith, len2))

  zero_below : (i : ℕ) → i < C / 8 → slice_index (fresh C start).words i ≡ 0
  zero_below i h =
      get_or-set_other _ (head_index C) i start 0 (λ e. omega arith)
      ∙ get_or-set_other _ (head_cache_index C) i start 0 (λ e. omega arith)
      ∙ get_or-set_other _ (tail_index C) i start 0 (λ e. omega arith)
      ∙ get_or-replicate (C / 8 + 96) i 0 0 (omega arith)

  aligned : start % 8 ≡ 0
  aligned =
      let c8 : C % 8 ≡ 0 = omega (arith, capacity_blocks C lawful) in
      sym (mod-mod_of_dvd 8 {b = C} start (dvd_of_mod-eq-zero 8 {n = C} c8)) ∙ ap (λ n. n % 8) lap

  pub has_none : Has (fresh C start) []
  has_none =
      let pos : 0 < C = omega (arith, lawful.least) in
      let c8 : C % 8 ≡ 0 = omega (arith, capacity_blocks C lawful) in
      record {
        lawful = All-nil (λ (x : Claim). IsMessage C x.message);
        ends = head_is ∙ sym tail_is;
        picture = λ p p8 le lt. zero_below (p % C / 8) (omega (arith, mod_below p C pos))
            ∙ sym (word_at_none C (head_of (fresh C start)) p);
      }

  pub is_ring_fresh : IsRing (fresh C start)
  is_ring_fresh = record {
    capacity = lawful;
    length = length-set _ _ _ ∙ len2;
    aligned = ap (λ n. n % 8) head_is ∙ aligned;
    order = omega (arith, head_is, tail_is);
    room = omega (arith, head_is, tail_is);
    limit = omega (arith, tail_is);
    history = ([], has_none);
  }
