-- The parts that a ring hands out after producers were lost.
use Rattle.std.specs.Prelude.{◌≡◌, ℕ, ◌≤◌, List, ◌++◌}
use Rattle.ring_words.specs.Ring.{Has, head_of}
use Rattle.ring_table.specs.declared.{claim.StagedClaim.StagedClaim, view.View.View}
use Rattle.ring_table.specs.Owners.{OwnedHistory, all_of, owned_by}
use Rattle.ring_table.specs.Passing.{AreSettled, placed_committed_of}
use Rattle.ring_table.specs.{Rescued.silent_bytes, Rescued.unsettled_count, Rescued.HadHistory, Rule.IsService}
use Rattle.ring_table.specs.{Closed.restarted, Staged.Bodies, Staged.ArePlaced, Staged.staged_end, Staged.unplaced}
use Rattle.ring_rings.specs.{Closing.AreOrdered, Reading.messages_of, Ring.IsUnread, declared.rescue.Rescued.Rescued}

-- r was rescued from a ring with this history of all claims, which include those of lost producers. In the ring this
-- number of ids was drawn. The claims are one after another from the ring's start on, and v's own claims are a part of
-- them. The first claims end at or below the head, and are settled. The messages that v's consumer took are the
-- committed ones among them, with their places. The other claims, `left`, are at or above the head. The ring that is
-- left has the committed claims of `left` at their places and in their order. Each is there whole and once. Nothing
-- that was not committed is there. `unsettled` has the number of claims of `left` that were not settled. It also has
-- the bytes of those claims of which not even a header was stored. The head cache of the ring that is left is not above
-- its head. Its correlation counter is the number of ids that were drawn. Its heartbeat is the last one that was
-- stored. Its words without a name are 0.
pub record IsRescuedOf (C start : ℕ) (v : View) (hist : OwnedHistory) (drawn : ℕ) (r : Rescued) : Type 0 where
  pub ordered : AreOrdered C start (all_of hist)
  pub id : ℕ
  pub own : v.producer.claims ≡ owned_by id hist
  pub passed : List StagedClaim
  pub left : List StagedClaim
  pub whole : all_of hist ≡ passed ++ left
  pub settled : AreSettled passed
  pub messages : v.consumer.taken ≡ placed_committed_of passed
  pub below : staged_end start passed ≤ v.consumer.head
  pub ahead : ArePlaced C v.consumer.head (restarted v.consumer.head left)
  pub now : List StagedClaim
  pub placed : ArePlaced C v.consumer.head now
  pub done : AreSettled now
  pub same : placed_committed_of now ≡ placed_committed_of left
  pub capacity : r.rest.capacity ≡ C
  pub head : head_of r.rest ≡ v.consumer.head
  pub has : Has r.rest (unplaced now)
  pub unread : IsUnread r.rest (messages_of (placed_committed_of left))
  pub claims : r.unsettled.claims ≡ unsettled_count left
  pub silent : r.unsettled.silent ≡ silent_bytes (restarted v.consumer.head left)
  pub service : IsService C r.rest.words v.consumer drawn

-- the table that left `r.before` had this history and this number of draws
abbrev pub Had : Bodies → ℕ → ℕ → View → Rescued → OwnedHistory → ℕ → Type 0
Had B C start v r hist drawn = HadHistory B (record { capacity = C; start = start }) v r.before.value hist drawn

-- `r.before` is what a table of this capacity and this start left. A seat of the table knew v. The table had a history,
-- and r was rescued from each history that the table had. The history that the producers and the consumer made is among
-- them. So no message of this history is lost, invented or counted wrongly. No clause says from which table a `Closed`
-- is. Only `close_with` makes one, from a table and one of its seats.
pub record IsRescued (B : Bodies) (C start : ℕ) (v : View) (r : Rescued) : Type 0 where
  pub hist : OwnedHistory
  pub drawn : ℕ
  pub had : Had B C start v r hist drawn
  pub each : (h : OwnedHistory) (n : ℕ) → Had B C start v r h n → IsRescuedOf C start v h n r
