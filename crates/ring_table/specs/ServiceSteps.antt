-- What the steps on the head cache, the correlation counter and the heartbeat say: v is the view before, w after, n
-- the number found.
use Rattle.std.specs.Prelude.{◌≡◌, ℕ, ◌%◌, ◌^◌, ◌≤◌, max}
use Rattle.ring_layout.specs.{Places.max_position, Layout.head_cache_index, Layout.heartbeat_index, Refusals.all_shares}
use Rattle.ring_table.specs.Services.{AreRisingBelow}
use Rattle.ring_table.specs.Views.{View, logged, with_producer, with_head, with_draw, with_heartbeat}

-- the cached head counts as a head that was seen
pub record LoadsCache (C : ℕ) (v : View) (n : ℕ) (w : View) : Type 0 where
  pub view : w ≡ logged (head_cache_index C) n (with_producer (with_head (max v.producer.seen_head n) v.producer) v)
  pub limit : n ≤ max_position
  pub sole : v.producer.shares ≡ all_shares → n ≤ v.producer.seen_tail

-- an id that no producer drew before, above all that this one drew
pub record DrawsId (v : View) (n : ℕ) (w : View) : Type 0 where
  pub number : ℕ
  pub id : n ≡ number % 2 ^ 64
  pub view : w ≡ with_producer (with_draw number v.producer) v
  pub rising : AreRisingBelow 0 number v.producer.service.draws

-- the heartbeat at some index of those stored. By `NeverGoBack` of the rule it is none before one read earlier
pub record LoadsHeartbeat (C : ℕ) (v : View) (n : ℕ) (w : View) : Type 0 where
  pub nth : ℕ
  pub view : w ≡ logged (heartbeat_index C) n (with_producer (with_heartbeat nth n v.producer) v)
