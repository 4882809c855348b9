-- The views of seats, and their changes when a seat is split or two seats are joined.
use Rattle.std.specs.Prelude.{ℕ, ◌+◌, ◌-◌, List, [], ◌∷◌, ◌++◌, length}
use Rattle.atomic_table.specs.Table.{Me}
use Rattle.ring_board.specs.declared.shared.view.Load.TheVariants.{Word, Intent, Tail, Latest}
use Rattle.ring_board.specs.declared.shared.view.Stage.{TheVariants.Spent, TheVariants.Resting, Stage}
use Rattle.ring_board.specs.declared.shared.view.{Joined.Joined, View.View, Load.Load}
use Rattle.ring_board.specs.Records.{last_of}

-- a seat's view and its slots (a broadcast buffer has no slots)
abbrev pub Sat : Type 0
Sat = Me (Unit {0}) View

abbrev pub at_stage : View → Stage → View
at_stage v st = record v { stage = st }

-- ---- loads

abbrev pub logged : View → Load → View
logged v l = record v { log = v.log ++ l ∷ [] }

-- the tail that was loaded last, or t
abbrev pub last_tail : List Load → ℕ → ℕ
last_tail [] t = t
last_tail (Tail x ∷ ls) t = last_tail ls x
last_tail (Word i u w ∷ ls) t = last_tail ls t
last_tail (Intent x ∷ ls) t = last_tail ls t
last_tail (Latest x ∷ ls) t = last_tail ls t

-- the load of the word at an index, as the log has it
abbrev pub word_load : View → ℕ → ℕ → Load
word_load v i x = Word i (last_tail v.log 0) x

-- ---- seats

abbrev pub view_shares : View → ℕ
view_shares v = v.shares

abbrev pub fewer : View → View
fewer v = record v { shares = v.shares - 1 }

-- the view of a new receiver at latest
abbrev pub newcomer : View → View
newcomer v = let p = last_of v.start v.sent in
    record {
      stage = Resting;
      shares = 1;
      capacity = v.capacity;
      start = v.start;
      sent = [];
      from = p;
      at = p;
      next =
          length v.sent - 1;
      count = 0;
      copies = [];
      log = [];
      heard = [];
    }

-- a receiver with this view, as the transmitter knows it after the join
abbrev pub as_joined : View → Joined
as_joined u = record { from = u.from; copies = u.copies }

-- the transmitter takes back a receiver's share and has its copies
abbrev pub joined : View → View → View
joined v u =
    record v { shares = v.shares + u.shares; from = u.from; copies = u.copies; heard = v.heard ++ as_joined u ∷ [] }

abbrev pub spent : View
spent = record {
  stage = Spent;
  shares = 0;
  capacity = 0;
  start = 0;
  sent = [];
  from = 0;
  at = 0;
  next = 0;
  count =
      0;
  copies = [];
  log = [];
  heard = [];
}
