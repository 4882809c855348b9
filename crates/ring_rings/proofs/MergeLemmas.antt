-- Bytes merged into a word of a body.
use Rattle.std.proofs.Common.{◌≡◌, ℕ, ◌+◌, ◌-◌, ◌*◌, ◌<◌, ◌≤◌, List, [], ◌++◌, length, take, drop, slice_index, sym, ap, ◌∙◌, subst, inl, inr, arith, All, w64, length-take, take-append-drop}
use Rattle.std.{specs.Int.from_le_bytes, proofs.lemmas.Bool.cases_lt, proofs.lemmas.List.get_or_past}
use lib.ListN.{get_elem?}
use Rattle.ring_layout.specs.{declared.message.ClaimState.TheVariants.Open, History.overwritten, Places.index}
use Rattle.ring_layout.proofs.WordBytes.{length-overwritten, overwritten_before, overwritten_behind, overwritten_inside, overwritten_more}
use Rattle.ring_table.specs.declared.{claim.StagedClaim.StagedClaim, claim.Stage.TheVariants.Stored, view.View.View}
use Rattle.ring_table.{specs.Changes.changed, specs.ProducerSteps.HasClaim, proofs.HistoryLemmas.changed_there}
use Rattle.ring_rings.specs.Bodies.{put_at, MergesWord}

pub small_at : (body : List ℕ) → All (λ b. b < 256) body → (j : ℕ) → slice_index body j < 256
small_at body bytes j = elim (cases_lt j (length body)) as (λ _. slice_index body j < 256) [
  | inl near ↦ bytes j 0 near
  | inr far ↦ (let e = get_or_past body j 0 far in omega arith)
]

pub small_overwritten : (at : ℕ) (bs xs : List ℕ) → at + length bs ≤ length xs → ((j : ℕ) → slice_index bs j < 256)
    → ((j : ℕ) → slice_index xs j < 256) → (j : ℕ) → slice_index (overwritten at bs xs) j < 256
small_overwritten at bs xs le small_bs small_xs j =
    elim (cases_lt j at) as (λ _. slice_index (overwritten at bs xs) j < 256) [
      | inl before ↦ (let e = overwritten_before at bs xs j le before in let b = small_xs j in omega arith)
      | inr from ↦ elim (cases_lt j (at + length bs)) as (λ _. slice_index (overwritten at bs xs) j < 256) [
        | inl inside ↦ (let e = overwritten_inside at bs xs j le from inside in
            let b = small_bs (j - at) in omega arith)
        | inr behind ↦ (let e = overwritten_behind at bs xs j le behind in let b = small_xs j in omega arith)
      ]
    ]

pub overwritten_nothing : (at : ℕ) (xs : List ℕ) → overwritten at [] xs ≡ xs
overwritten_nothing at xs =
    let same : at + 0 ≡ at = omega arith in ap (λ (n : ℕ). take at xs ++ drop n xs) same ∙ take-append-drop at xs

-- The word k with the next bytes merged in is that of the body with one chunk more
module _ (C place offset done count k byte nth : ℕ) (v0 v : View) (c0 : StagedClaim) (there : HasClaim v0 nth c0)
    (at_place : c0.place ≡ place) (is_open : c0.stage ≡ Stored Open) (bytes chunk : List ℕ)
    (before : v.producer.claims ≡ changed place (put_at offset (take done bytes)) v0.producer.claims)
    (cap : v.capacity ≡ C) (room : offset + length bytes ≤ length c0.message.body)
    (k_is : 8 * k + byte ≡ offset + done) (most : done + count ≤ length bytes)
    (size : length chunk ≡ count) (chunk_is : chunk ≡ take count (drop done bytes)) (word : ℕ)
    (merges : MergesWord (index C (place + 8 + 8 * k)) byte chunk v word) where
  pub merged : (word
      ≡ from_le_bytes w64 (drop (8 * k) (overwritten offset (take (done + count) bytes) c0.message.body)))
      × ((j : ℕ) → 8 * k ≤ j → j < 8 * k + 8 → slice_index
      (overwritten offset (take (done + count) bytes) c0.message.body) j < 256)
  merged =
      let b0 : List ℕ = c0.message.body in
      let now : StagedClaim = put_at offset (take done bytes) c0 in
      let front = length-take done bytes in
      let long : length now.message.body ≡ length b0 = length-overwritten offset (take done bytes) b0 (omega arith) in
      let has : HasClaim v nth now = ap (λ l. get_elem? l nth) before
      ∙ changed_there place (put_at offset (take done bytes)) v0.producer.claims nth c0 there at_place in
      let is : chunk ≡ take (length chunk) (drop done bytes) =
      chunk_is ∙ ap (λ n. take n (drop done bytes)) (sym size) in
      let more : overwritten (8 * k + byte) chunk now.message.body ≡ overwritten offset (take (done + count) bytes) b0 =
      ap (λ n. overwritten n chunk now.message.body) k_is
      ∙ overwritten_more offset done chunk bytes b0 room (omega arith) is
      ∙ ap (λ n. overwritten offset (take (done + n) bytes) b0) size in
      let there_index : index v.capacity (now.place + 8 + 8 * k) ≡ index C (place + 8 + 8 * k) =
      ap (λ n. index n (now.place + 8 + 8 * k)) cap ∙ ap (λ n. index C (n + 8 + 8 * k)) at_place in
      let t = merges nth now k has is_open there_index (omega arith) in (
        t.0 ∙ ap (λ l. from_le_bytes w64 (drop (8 * k) l)) more,
        subst (λ (l : List ℕ). (j : ℕ) → 8 * k ≤ j → j < 8 * k + 8 → slice_index l j < 256) more t.1,
      )
