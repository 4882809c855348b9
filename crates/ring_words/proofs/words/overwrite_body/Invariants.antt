use Rattle.std.proofs.Common.{length, ◌-◌, ◌≡◌, ℕ, ◌+◌, ◌/◌, ◌<◌, ◌≤◌, List, All, take, slice_index}
use Rattle.ring_layout.specs.{History.overwritten, Bytes.HoldsBytes}
use Rattle.ring_words.proofs.words.overwrite_body.Given as goal

-- the first bytes are put, and no others are changed
pub record Puts (old new bytes : List ℕ) (at offset done : ℕ) : Type 0 where
  pub most : done ≤ length bytes
  pub inside : (body : List ℕ) → All (λ b. b < 256) body → offset + length bytes ≤ length body → HoldsBytes old at body
      → HoldsBytes new at (overwritten offset (take done bytes) body)
  pub below : (i : ℕ) → i < at → slice_index new i ≡ slice_index old i
  pub above : (i : ℕ) → at + (offset + length bytes + 7) / 8 ≤ i → slice_index new i ≡ slice_index old i

abbrev pub invariant-loop-done : goal.invariant-loop-done
invariant-loop-done l = Puts l.initial.words l.words l.bytes l.at l.offset l.done

abbrev pub decreases-loop-done : goal.decreases-loop-done
decreases-loop-done l = length l.bytes - l.done
